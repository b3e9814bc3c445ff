-- Data in lines of 32 bytes are these data.
use Rattle.std.proofs.Common.{◌≡◌, ℕ, zero, suc, ◌+◌, ◌*◌, ◌<◌, List, [], ◌∷◌, ◌++◌, length, take, drop, get_or, refl}
use Rattle.std.proofs.Common.{sym, ap, ◌∙◌, arith}
use Rattle.std.specs.Int.{div_ceil}
use Rattle.std.specs.List.{flat_map, range_with_len}
use Rattle.std.proofs.Math.Seq.{take-add}
use Rattle.std.proofs.lemmas.List.{drop-drop, length-take, length-drop, get_or-take, get_or-drop, take_all}
use Rattle.mips_text_proof.proofs.DataRows.{AreBytes}

-- The bytes of the line with this number.
abbrev pub chunk_at : List ℕ → ℕ → List ℕ
chunk_at bs k = take 32 (drop (32 * k) bs)

chunks_from : (bs : List ℕ) (m k : ℕ) → flat_map (chunk_at bs) (range_with_len k m) ≡ take (32 * m) (drop (32 * k) bs)
chunks_from bs zero k = refl
chunks_from bs (suc m) k =
    let next : 32 * (k + 1) ≡ 32 * k + 32 = omega arith in
    let more : 32 + 32 * m ≡ 32 * suc m = omega arith in
    ap (λ l. chunk_at bs k ++ l) (chunks_from bs m (k + 1))
    ∙ ap (λ n. chunk_at bs k ++ take (32 * m) (drop n bs)) next
    ∙ ap (λ l. chunk_at bs k ++ take (32 * m) l) (sym (drop-drop 32 (32 * k) bs))
    ∙ sym (take-add 32 (32 * m) (drop (32 * k) bs))
    ∙ ap (λ n. take n (drop (32 * k) bs)) more

-- The lines of data together.
pub chunks_whole : (bs : List ℕ) → flat_map (chunk_at bs) (range_with_len 0 (div_ceil (length bs) 32)) ≡ bs
chunks_whole bs =
    let n : ℕ = div_ceil (length bs) 32 in
    chunks_from bs n 0 ∙ take_all (32 * n) bs (omega arith)

-- A line of data has bytes.
pub chunk_some : (bs : List ℕ) (k : ℕ) → k < div_ceil (length bs) 32 → 0 < length (chunk_at bs k)
chunk_some bs k h =
    let t = length-take 32 (drop (32 * k) bs) in
    let d = length-drop (32 * k) bs in
    let inside : 32 * k < length bs = omega (arith, h) in
    omega (arith, t, d, inside)

are_bytes : (c : List ℕ) → ((j : ℕ) → j < length c → get_or c j 0 < 256) → AreBytes c
are_bytes [] h = tt
are_bytes (b ∷ c) h = (h 0 (omega arith), are_bytes c (λ j lt. h (suc j) (omega (arith, lt))))

pub chunk_bytes : (bs : List ℕ) (k : ℕ) → ((j : ℕ) → get_or bs j 0 < 256) → AreBytes (chunk_at bs k)
chunk_bytes bs k h =
    are_bytes (chunk_at bs k)
    (λ j lt. (let t = length-take 32 (drop (32 * k) bs) in
    let low : j < 32 = omega (arith, t, lt) in
    let e = get_or-take 32 (drop (32 * k) bs) j 0 low in
    let d = get_or-drop (32 * k) bs j 0 in
    let b = h (32 * k + j) in
    omega (arith, e, d, b)))
