-- Four bytes written in one piece are the four written one after the other.
use Rattle.std.proofs.Common.{◌≡◌, ℕ, zero, suc, ◌+◌, ◌/◌, ◌%◌, ◌<◌, ◌^◌, ◌≤◌, List, [], ◌∷◌, ◌++◌, take, drop, length}
use Rattle.std.proofs.Common.{slice_set, refl, ap, ◌∙◌, sym, arith}
use Rattle.byteorder.specs.Endian.{big_bytes}
use Rattle.word32.specs.Bytes.{with_word}
use borrow.Rule.Slice.PartMut.{put_mid}

one_piece : (at a b c d : ℕ) (xs : List ℕ) → at + 4 ≤ length xs →
    take at xs ++ (a ∷ b ∷ c ∷ d ∷ drop 4 (drop at xs)) ≡ slice_set
    (slice_set (slice_set (slice_set xs at a) (suc at) b) (suc (suc at)) c) (suc (suc (suc at))) d
one_piece zero a b c d (x ∷ y ∷ z ∷ w ∷ xs) h = refl
one_piece zero a b c d (x ∷ y ∷ z ∷ []) h = absurd (omega (arith, h))
one_piece zero a b c d (x ∷ y ∷ []) h = absurd (omega (arith, h))
one_piece zero a b c d (x ∷ []) h = absurd (omega (arith, h))
one_piece zero a b c d [] h = absurd (omega (arith, h))
one_piece (suc at) a b c d (x ∷ xs) h = ap (λ l. x ∷ l) (one_piece at a b c d xs (omega (arith, h)))
one_piece (suc at) a b c d [] h = absurd (omega (arith, h))

bytes_of : (w : ℕ) → w < 2 ^ 32 → big_bytes 4 w ≡ (w / 16777216) ∷ (w / 65536 % 256) ∷ (w / 256 % 256) ∷ (w % 256) ∷ []
bytes_of w h = ap (λ n. n ∷ (w / 65536 % 256) ∷ (w / 256 % 256) ∷ (w % 256) ∷ []) (omega (arith, h))

written : (at a b c d i j k : ℕ) (xs : List ℕ) → at + 4 ≤ length xs → i ≡ suc at → j ≡ suc (suc at) →
    k ≡ suc (suc (suc at)) → take at xs ++ (a ∷ b ∷ c ∷ d ∷ drop 4 (drop at xs)) ≡ slice_set
    (slice_set (slice_set (slice_set xs at a) i b) j c) k d
written at a b c d i j k xs h p q r =
    one_piece at a b c d xs h
    ∙ ap (λ m. slice_set (slice_set (slice_set (slice_set xs at a) m b) (suc (suc at)) c) (suc (suc (suc at))) d)
    (sym p)
    ∙ ap (λ m. slice_set (slice_set (slice_set (slice_set xs at a) i b) m c) (suc (suc (suc at))) d) (sym q)
    ∙ ap (λ m. slice_set (slice_set (slice_set (slice_set xs at a) i b) j c) m d) (sym r)

none : (n : ℕ) (xs : List ℕ) → length xs ≤ n → drop n xs ≡ []
none zero [] h = refl
none zero (x ∷ xs) h = absurd (omega (arith, h))
none (suc n) [] h = refl
none (suc n) (x ∷ xs) h = none n xs (omega (arith, h))

mid : (at w n : ℕ) (xs : List ℕ) → at + 4 ≤ length xs → n ≡ 4 →
    put_mid at n xs ((w / 16777216) ∷ (w / 65536 % 256) ∷ (w / 256 % 256) ∷ (w % 256) ∷ []) ≡ with_word xs at w
mid at w n xs h four =
    ap (λ m. take at xs ++ ((w / 16777216) ∷ (w / 65536 % 256) ∷ (w / 256 % 256) ∷ (w % 256) ∷ drop m (drop at xs)))
    four
    ∙ written at (w / 16777216) (w / 65536 % 256) (w / 256 % 256) (w % 256) (at + 1) (at + 2) (at + 3) xs h
    (omega arith) (omega arith) (omega arith)

pub written_at : (at n w : ℕ) (xs ys zs : List ℕ) → at + 4 ≤ length xs → n ≡ 4 → w < 2 ^ 32 → length zs ≤ 4 →
    ys ≡ big_bytes 4 w ++ drop 4 zs → put_mid at n xs ys ≡ with_word xs at w
written_at at n w xs ys zs h four fits short is =
    ap (put_mid at n xs) (is ∙ ap (λ l. big_bytes 4 w ++ l) (none 4 zs short) ∙ bytes_of w fits)
    ∙ mid at w n xs h four
