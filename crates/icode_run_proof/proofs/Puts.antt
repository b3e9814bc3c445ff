-- A Put: the memory of specifications behind it, and the place of its word.
use Rattle.std.proofs.Common.{◌≡◌, ℕ, suc, ◌+◌, ◌/◌, ◌%◌, ◌<◌, ◌≤◌, Bool, true, false, List, [], ◌∷◌, ◌++◌}
use Rattle.std.proofs.Common.{length, Option, Some, None, refl, sym, ap, ◌∙◌, subst, arith, nat_le, if◌then◌else◌}
use Rattle.std.proofs.lemmas.Bool.Decides.{nat_tests}
use Rattle.host_edge.specs.declared.ending.TrapKind.{TrapKind}
use Rattle.host_edge.specs.declared.ending.TrapKind.TheVariants.{SpecLimit}
use Rattle.word32.specs.Space.{update}
use Rattle.word32.specs.declared.map.TheConstants.{CLOSURE_BYTES, CLOSURE_CELL}
use Rattle.word32.specs.declared.map.TheConstants.{NEXT_CLOSURE_CELL, SPEC_COUNT_CELL}
use Rattle.mips_model.specs.State.{Data}
use Rattle.meaning_state.specs.Shared.{Shared}
use Rattle.meaning_state.specs.Rows.{closure_bytes}
use Rattle.icode_templates_proof.specs.Spots.{KeepsSpots}
use Rattle.icode_templates_proof.proofs.Memory.{update_same}
use Rattle.icode_templates_proof.specs.Closures.{Head, Closure, bytes_of, next_closure, appended, with_word, row_count}
use Rattle.closures_proof.specs.Ops.{HasPlace, newest_closure, with_captured}
use Rattle.closures_proof.specs.Relation.{Text}
use Rattle.closures_proof.specs.Laws.{puts, AreWordsIn}
use Rattle.icode_run_proof.specs.Making.{SameRows, Filled}
use Rattle.icode_run_proof.proofs.Filling.{keeps_rows, then_rows}

-- a word more is the last one that is put
puts_last : (i : ℕ) (words : List ℕ) (x : ℕ) (d : Data)
    → puts i (words ++ x ∷ []) d ≡ with_captured (i + length words) x (puts i words d)
puts_last i [] x d = ap (λ n. with_captured n x d) (let e : i ≡ i + 0 = omega arith in e)
puts_last i (y ∷ words) x d =
    puts_last (suc i) words x (with_captured i y d)
    ∙ ap (λ n. with_captured n x (puts (suc i) words (with_captured i y d)))
    (let e : suc i + length words ≡ i + suc (length words) = omega arith in e)

-- no Put writes a cell or a register
puts_cells : (i : ℕ) (words : List ℕ) (d : Data) → (puts i words d).cells ≡ d.cells
puts_cells i [] d = refl
puts_cells i (y ∷ words) d = puts_cells (suc i) words (with_captured i y d)

pub puts_registers : (i : ℕ) (words : List ℕ) (d : Data) → (puts i words d).registers ≡ d.registers
puts_registers i [] d = refl
puts_registers i (y ∷ words) d = puts_registers (suc i) words (with_captured i y d)

captured_rows : (c x : ℕ) (d e : Data) → SameRows d e → SameRows (with_captured c x d) (with_captured c x e)
captured_rows c x d e q = record {
  global = q.global;
  closures = ap (λ (f : ℕ → ℕ). with_word (newest_closure e + closure_bytes c) x f) q.closures
      ∙ ap (λ n. with_word (n + closure_bytes c) x d.closures) q.newest;
  spec_rows = q.spec_rows;
  count = q.count;
  next = q.next;
  newest = q.newest;
  size = q.size;
  parameters = q.parameters;
}

words_more : (words : List ℕ) (x : ℕ) → AreWordsIn words → x < 4294967296 → AreWordsIn (words ++ x ∷ [])
words_more [] x all word = (word, tt)
words_more (y ∷ words) x all word = (all.0, words_more words x all.1 word)

-- the word that was put is one word more
pub put_filled : (text : Text) (shared : Shared) (head : Head) (captures : ℕ) (words : List ℕ) (x : ℕ) (d after : Data)
    → Filled text shared head captures words d → x < 4294967296
    → KeepsSpots (with_captured (length words) x d) after
    → Filled text shared head captures (words ++ x ∷ []) after
put_filled text shared head captures words x d after h word k =
    let filled = puts 0 words (appended head captures h.before) in
    let more : SameRows (with_captured (length words) x filled) after =
    then_rows (captured_rows (length words) x filled d h.rows) (keeps_rows k) in
    record {
      before = h.before;
      specifications = h.specifications;
      room = h.room;
      small = h.small;
      values = words_more words x h.values word;
      rows = subst (λ (z : Data). SameRows z after) (sym (puts_last 0 words x (appended head captures h.before)
          ∙ ap (λ n. with_captured n x filled) (let e : 0 + length words ≡ length words = omega arith in e))) more;
    }

-- ---- where the word goes

bytes_even : (ks : List Closure) → bytes_of ks % 4 ≡ 0
bytes_even [] = refl
bytes_even (k ∷ ks) = let e = bytes_even ks in omega (arith, e)

room_is : (b : Bool) → (let t : Option TrapKind = if b then None else Some SpecLimit in t) ≡ None → b ≡ true
room_is true e = refl
room_is false e = absurd cc

pub place_filled : (text : Text) (shared : Shared) (head : Head) (captures : ℕ) (words : List ℕ) (d : Data)
    → Filled text shared head captures words d → length words < captures → HasPlace (length words) d
place_filled text shared head captures words d h l =
    let e = h.before in
    let made = appended head captures e in
    let has = h.specifications.memory in
    let c1 = update (SPEC_COUNT_CELL / 4) (suc (row_count e)) e.cells in
    let c2 = update (NEXT_CLOSURE_CELL / 4) (next_closure e + closure_bytes captures) c1 in
    let here : newest_closure d ≡ next_closure e =
    h.rows.newest ∙ ap (λ (f : ℕ → ℕ). f (CLOSURE_CELL / 4)) (puts_cells 0 words made)
    ∙ update_same (CLOSURE_CELL / 4) (next_closure e) c2 in
    let next = has.next in
    let bytes = h.specifications.bytes in
    let room : nat_le (shared.closures + closure_bytes captures) CLOSURE_BYTES ≡ true =
    room_is (nat_le (shared.closures + closure_bytes captures) CLOSURE_BYTES) h.room in
    let within : shared.closures + closure_bytes captures ≤ CLOSURE_BYTES = grind (arith, nat_tests, room) in
    let even = bytes_even h.specifications.closures in
    record {
      global = h.rows.global ∙ ap (λ (f : ℕ → ℕ). f 28) (puts_registers 0 words made) ∙ has.global;
      from = omega (arith, here, next);
      to = omega (arith, here, next, bytes, within, l);
      even = omega (arith, here, next, even);
    }
