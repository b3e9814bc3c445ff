-- What the instructions of a product or a quotient do: HI and LO are set, and one of them is read.
use Rattle.std.proofs.Common.{◌≡◌, inl, inr, ℕ, ◌+◌, ◌-◌, ◌*◌, ◌%◌, ◌<◌, true, false, List, [], ◌∷◌, ◌++◌}
use Rattle.std.proofs.Common.{length, refl, sym, ap, ◌∙◌, subst, arith, append_assoc, append-nil, nat_lt}
use Rattle.std.proofs.lemmas.Bool.{cases_lt}
use Rattle.std.proofs.lemmas.Bool.Decides.{nat_tests}
use Rattle.std.proofs.lemmas.List.{length-append}
use Rattle.std.proofs.lemmas.Nat.{mul-mod}
use Rattle.word32.specs.Words.{product}
use Rattle.word32.specs.Space.{update}
use Rattle.mips_encoder.specs.declared.instruction.Instr.{Instr}
use Rattle.mips_encoder.specs.declared.instruction.Instr.TheVariants.{MultiplyDivide, MoveFrom}
use Rattle.mips_encoder.specs.declared.instruction.HiLo.{HiLo}
use Rattle.mips_encoder.specs.declared.instruction.HiLo.TheVariants.{Hi, Lo}
use Rattle.mips_encoder.specs.declared.instruction.MultiplyDivideOp.{MultiplyDivideOp}
use Rattle.mips_encoder.specs.declared.instruction.MultiplyDivideOp.TheVariants.{Mult}
use Rattle.mips_encoder.specs.Addresses.{past}
use Rattle.mips_model.specs.State.{Code, Data}
use Rattle.mips_model.specs.Arithmetic.{widened_word, multiply_divide}
use Rattle.mips_model.specs.Effects.{half_of}
use Rattle.mips_model.specs.Steps.{going, step}
use Rattle.mips_model.specs.Laws.{HasAt, at, Reaches}
use Rattle.mips_model.proofs.Reach.{through, step_acts, reaches_on, past_append, front, back}
use Rattle.icode_templates.specs.Layout.{Spot, InRegister, InSlot}
use Rattle.icode_templates.specs.Templates.{in_two_code, out_code}
use Rattle.icode_templates_proof.specs.Spots.{pointer, value, Framed, Usable, KeepsSpots, PutsTo}
use Rattle.icode_templates_proof.specs.Moves.{Runs, behind, Computes}
use Rattle.icode_templates_proof.proofs.Memory.{update_same}
use Rattle.icode_templates_proof.proofs.Leaves.{leaves_on, leaves_run, runs_within}
use Rattle.icode_templates_proof.proofs.Keeping.{with_registers, keeps_on, keeps_write, not_24, framed_on, puts_after}
use Rattle.icode_templates_proof.proofs.Operands.{two_in, in_two_leaves, keeps_two, first_given, second_given, put_out}
use Rattle.icode_templates_proof.proofs.Operands.{out_leaves, out_puts, in_two_between, out_between}
use Rattle.icode_templates_proof.proofs.Behind.{SetNeither, goes_behind}

-- HI or LO of both
abbrev pub half_part : HiLo → ℕ × ℕ → ℕ
half_part Hi p = p.0
half_part Lo p = p.1

-- both are set from $t8 and $t9, and one of them comes to $t8
abbrev pub by_both : MultiplyDivideOp → HiLo → List Instr
by_both op half = MultiplyDivide op 24 25 ∷ MoveFrom half 24 ∷ []

abbrev both_set : ℕ × ℕ → Data → Data
both_set p d = record d { hi = p.0; lo = p.1 }

both_keep : (p : ℕ × ℕ) (d : Data) → KeepsSpots d (both_set p d)
both_keep p d = record {
  registers = λ r k. refl;
  stack = refl;
  world = record {
    objects = refl;
    closures = refl;
    spec_rows = refl;
    cells = refl;
    emit_stack = refl;
    table = refl;
    outside = refl;
  };
}

part_is : (half : HiLo) (p : ℕ × ℕ) (d : Data) → half_of half (both_set p d) ≡ half_part half p
part_is Hi p d = refl
part_is Lo p d = refl

out_quiet : (w : Spot) → SetNeither (out_code w)
out_quiet (InRegister r) = (refl, tt)
out_quiet (InSlot false offset) = (refl, tt)
out_quiet (InSlot true offset) = (refl, (refl, (refl, tt)))

abbrev pub answered : MultiplyDivideOp → Data → ℕ × ℕ
answered op d = multiply_divide op (d.registers 24) (d.registers 25)

abbrev taken : HiLo → ℕ × ℕ → Data → Data
taken half p d = with_registers (update 24 (half_part half p) d.registers) (both_set p d)

-- HI or LO comes to $t8
takes : (half : HiLo) (c : Code) (a : ℕ) (p : ℕ × ℕ) (d : Data) → HasAt c a (MoveFrom half 24 ∷ []) →
    step (going (at c a 0 (both_set p d))) ≡ going (behind c (a + 4) 2 (taken half p d))
takes half c a p d h =
    step_acts (MoveFrom half 24) (at c a 0 (both_set p d)) h.0 refl
    ∙ ap (λ x. going (behind c (a + 4) 2 (with_registers (update 24 x d.registers) (both_set p d)))) (part_is half p d)

module _ (op : MultiplyDivideOp) (half : HiLo) (c : Code) (a bytes : ℕ) (d : Data) (w v z : Spot) (x : ℕ)
    (f : Framed (pointer d) bytes) (u : Usable bytes w) (uv : Usable bytes v) (uz : Usable bytes z)
    (bv : value d v < 4294967296) (bz : value d z < 4294967296)
    (is : half_part half (multiply_divide op (value d v) (value d z)) ≡ x) (word : x < 4294967296)
    (h : HasAt c a (in_two_code v z ++ (by_both op half ++ out_code w))) where
  abbrev mid : Data
  mid = two_in v z d

  abbrev p : ℕ × ℕ
  p = answered op mid

  abbrev got : Data
  got = taken half p mid

  got_is : got.registers 24 ≡ x
  got_is =
      update_same 24 (half_part half p) mid.registers
      ∙ ap (λ k. half_part half (multiply_divide op k (mid.registers 25))) (first_given v z d)
      ∙ ap (λ k. half_part half (multiply_divide op (value d v) k)) (second_given bytes v z d uz) ∙ is

  keeps : KeepsSpots d got
  keeps =
      keeps_on (keeps_on (keeps_two v z d) (both_keep p mid))
      (keeps_write 24 (half_part half p) (both_set p mid) not_24)

  abbrev there : ℕ
  there = past a (in_two_code v z)

  set_reaches : Reaches (length (in_two_code v z ++ MultiplyDivide op 24 25 ∷ [])) (at c a 0 d)
      (at c (there + 4) 0 (both_set p mid))
  set_reaches =
      let first = in_two_code v z in
      let is = first ++ MultiplyDivide op 24 25 ∷ [] in
      let whole = subst (HasAt c a)
      (sym (append_assoc first (MultiplyDivide op 24 25 ∷ []) (MoveFrom half 24 ∷ out_code w))) h in
      subst (λ n. Reaches (length is) (at c a 0 d) (at c n 0 (both_set p mid)))
      (past_append a first (MultiplyDivide op 24 25 ∷ []))
      (leaves_run is c 0 0 a d (both_set p mid)
      (leaves_on first (MultiplyDivide op 24 25 ∷ []) 0 0 0 d mid (both_set p mid)
      (in_two_leaves d bytes v z f uv uz bv bz) (λ rest. refl))
      (front c a is (MoveFrom half 24 ∷ out_code w) whole))

  put_reaches : Reaches (length (out_code w)) (behind c (there + 4 + 4) 2 got)
      (behind c (past (there + 4 + 4) (out_code w)) (2 - length (out_code w)) (put_out w got))
  put_reaches =
      let word' = subst (λ k. k < 4294967296) (sym got_is) word in
      let out = out_leaves got bytes w (framed_on keeps f) u word' in
      let alone = ap (λ (is : List Instr). through is 0 got) (sym (append-nil (out_code w))) ∙ out [] in
      record {
        by = goes_behind (out_code w) c 0 2 (there + 4 + 4) got (0, put_out w got) (out_quiet w) alone
            (back c a (in_two_code v z) (by_both op half ++ out_code w) h).1.1;
      }

  pub product_computes : Computes w x 4 12 (at c a 0 d) c
      (past a (in_two_code v z ++ (by_both op half ++ out_code w))) d
  product_computes =
      let first = in_two_code v z in
      let n = in_two_between v z in
      let m = out_between w in
      let len = length-append first (MultiplyDivide op 24 25 ∷ []) in
      let code = back c a first (by_both op half ++ out_code w) h in
      let take : Reaches 1 (at c (there + 4) 0 (both_set p mid)) (behind c (there + 4 + 4) 2 got) =
      record { by = takes half c (there + 4) p mid (code.1.0, tt) } in
      let go = reaches_on (reaches_on set_reaches take) put_reaches in
      record {
        after = put_out w got;
        recent = 2 - length (out_code w);
        few = omega (arith, m.over);
        runs = subst (λ k. Runs 4 12 (at c a 0 d) (behind c k (2 - length (out_code w)) (put_out w got)))
            (sym (past_append a first (by_both op half ++ out_code w)))
            (runs_within (omega (arith, len, n.over, m.over)) (omega (arith, len, n.under, m.under)) go);
        puts = puts_after bytes u keeps (subst (λ k. PutsTo w k got (put_out w got)) got_is (out_puts w got));
      }

-- the low half of a signed product is that of the words
widened_low : (a : ℕ) → widened_word a % 4294967296 ≡ a % 4294967296
widened_low a = elim (cases_lt a 2147483648) [
  | inl l ↦ let t : nat_lt a 2147483648 ≡ true = grind (arith, nat_tests) in rw t refl
  | inr g ↦ let t : nat_lt a 2147483648 ≡ false = grind (arith, nat_tests) in rw t (omega arith)
]

low_is : (x : ℕ) → x % 18446744073709551616 % 4294967296 ≡ x % 4294967296
low_is x = omega arith

pub product_low : (a b : ℕ) → half_part Lo (multiply_divide Mult a b) ≡ product a b
product_low a b =
    low_is (widened_word a * widened_word b) ∙ mul-mod (widened_word a) (widened_word b) 4294967296
    ∙ ap (λ k. (k * (widened_word b % 4294967296)) % 4294967296) (widened_low a)
    ∙ ap (λ k. (a % 4294967296 * k) % 4294967296) (widened_low b) ∙ sym (mul-mod a b 4294967296)
