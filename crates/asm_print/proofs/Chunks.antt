-- The line of data with a number, read from the bytes between two places.
use Rattle.std.proofs.Common.{
  ◌≡◌,
  ℕ,
  ◌+◌,
  ◌-◌,
  ◌*◌,
  ◌<◌,
  ◌≤◌,
  min,
  List,
  length,
  take,
  drop,
  arith,
  ap,
  sym,
  ◌∙◌,
  get_or,
  inl,
  inr,
}
use Rattle.std.proofs.lemmas.Bool.{cases_lt}
use Rattle.std.specs.List.{range_with_len}
use Rattle.std.proofs.lemmas.List.{take_all, length-drop}
use Rattle.std.proofs.lemmas.List.FromFn.{get_or-range_with_len}
use Rattle.asm_print.specs.Text.{data_line, data_line_at}

chunk-inside : {X : Type 0} (xs : List X) (start n e : ℕ) → start + n ≤ length xs → e ≡ min (start + n) (length xs) →
    take (e - start) (drop start xs) ≡ take n (drop start xs)
chunk-inside xs start n e h q =
    let same : e - start ≡ n = omega arith in
    ap (λ m. take m (drop start xs)) same

chunk-at_end : {X : Type 0} (xs : List X) (start n e : ℕ) → length xs < start + n → e ≡ min (start + n) (length xs) →
    take (e - start) (drop start xs) ≡ take n (drop start xs)
chunk-at_end xs start n e h q =
    let len = length-drop start xs in
    let first : length (drop start xs) ≤ e - start = omega arith in
    let second : length (drop start xs) ≤ n = omega arith in
    take_all (e - start) (drop start xs) first ∙ sym (take_all n (drop start xs) second)

chunk : {X : Type 0} (xs : List X) (start n e : ℕ) → e ≡ min (start + n) (length xs) →
    take (e - start) (drop start xs) ≡ take n (drop start xs)
chunk xs start n e q =
    elim (cases_lt (length xs) (start + n)) [
      | inl h ↦ chunk-at_end xs start n e h q
      | inr h ↦ chunk-inside xs start n e h q
    ]

pub data_at : (bytes : List ℕ) (k n e : ℕ) → k < n → e ≡ min (k * 32 + 32) (length bytes) →
    data_line (take (e - k * 32) (drop (k * 32) bytes)) ≡ data_line_at bytes (get_or (range_with_len 0 n) k 0)
data_at bytes k n e h q =
    let place : k * 32 ≡ 32 * k = omega arith in
    let item : get_or (range_with_len 0 n) k 0 ≡ k = get_or-range_with_len 0 n k 0 h ∙ (omega arith) in
    ap data_line (chunk bytes (k * 32) 32 e q ∙ ap (λ m. take 32 (drop m bytes)) place)
    ∙ ap (data_line_at bytes) (sym item)
