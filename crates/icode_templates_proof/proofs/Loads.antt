-- A load of each width.
use Rattle.std.proofs.Common.{◌≡◌, ℕ, ◌+◌, ◌/◌, ◌%◌, ◌<◌, true, false, List, [], ◌∷◌, ◌++◌, refl, sym, ap}
use Rattle.std.proofs.Common.{◌∙◌, subst, arith, nat_lt, nat_le, Some, None}
use Rattle.std.proofs.lemmas.Bool.Decides.{nat_tests}
use Rattle.word32.specs.declared.map.TheConstants.{OBJECTS, OBJECTS_END, SEGMENT_BYTES, STACK}
use Rattle.word32.specs.Parts.{is_aligned}
use Rattle.word32.specs.Space.{update, load, AreWords}
use Rattle.word32.specs.declared.width.Width.{Width}
use Rattle.word32.specs.declared.width.Width.TheVariants as width
use Rattle.word32.proofs.PartLaws.{loaded_range}
use Rattle.host_edge.specs.declared.ending.Ending.TheVariants.{Trap}
use Rattle.host_edge.specs.declared.ending.TrapKind.{TrapKind}
use Rattle.host_edge.specs.declared.ending.TrapKind.TheVariants.{Misaligned}
use Rattle.history.specs.Events.{Ended}
use Rattle.mips_encoder.specs.declared.instruction.Instr.{Instr}
use Rattle.mips_encoder.specs.Addresses.{past}
use Rattle.mips_model.specs.State.{Code, Data}
use Rattle.mips_model.specs.Accesses.{Ends}
use Rattle.mips_model.specs.Effects.{effect}
use Rattle.mips_model.specs.Steps.{going, ended, apply, recent_behind, step}
use Rattle.mips_model.specs.Laws.{HasAt, at}
use Rattle.mips_model.proofs.Reach.{step_acts, front, back, past_append}
use Rattle.meaning_state.specs.Shared.{access_trap}
use Rattle.icode_templates.specs.Layout.{Spot}
use Rattle.mips_assembly.specs.Assembly.{nop}
use Rattle.icode_templates.specs.Templates.{in_code, out_code, range_check, load_instruction}
use Rattle.icode_templates_proof.specs.Spots.{pointer, value, Framed, Usable}
use Rattle.icode_templates_proof.specs.Laws.{fetching_code}
use Rattle.icode_templates_proof.specs.Moves.{Runs, Writes}
use Rattle.icode_templates_proof.specs.Moves.{EndsIn}
use Rattle.icode_templates_proof.proofs.Memory.{update_same}
use Rattle.icode_templates_proof.proofs.Leaves.{Leaves, leaves_run, runs_on, runs_within, runs_to}
use Rattle.icode_templates_proof.proofs.Keeping.{with_registers, keeps_on, keeps_write, not_24, not_25}
use Rattle.icode_templates_proof.proofs.Operands.{one_in, in_leaves, keeps_one, load_gives, Between, in_between}
use Rattle.icode_templates_proof.proofs.Templates.{finish}
use Rattle.icode_templates_proof.proofs.Ranges.{ranged, ranged_keeps, ranged_other, range_passes, range_ends}
use Rattle.icode_templates_proof.proofs.Traps.{passes, traps, Trapping, Outside, Odd}
use Rattle.icode_templates_proof.proofs.Endings.{ends_now, ends_behind}

-- $t8 with what is loaded from its address
abbrev fetched : Width → Data → Data
fetched kind d = with_registers (update 24 (load d.objects (d.registers 24) kind) d.registers) d

fetched_leaves : (kind : Width) (d : Data) → d.registers 24 < 4294967296 → d.registers 24 / 16777216 ≡ 16 →
    is_aligned (d.registers 24) kind ≡ true → Leaves (load_instruction kind ∷ nop ∷ []) 0 d 0 (fetched kind d)
fetched_leaves kind d b i al = by kind al
  where
    e : (d.registers 24 + 0) % 4294967296 ≡ d.registers 24
    e = omega (arith, b)

    t1 : nat_le STACK (d.registers 24) ≡ false
    t1 = grind (arith, nat_tests, i)

    t2 : nat_le OBJECTS (d.registers 24) ≡ true
    t2 = grind (arith, nat_tests, i)

    t3 : nat_lt (d.registers 24) OBJECTS_END ≡ true
    t3 = grind (arith, nat_tests, i)

    by : (k : Width) → is_aligned (d.registers 24) k ≡ true
        → Leaves (load_instruction k ∷ nop ∷ []) 0 d 0 (fetched k d)
    by width.SignedByte al rest = rw (e, t1, t2, t3) refl
    by width.Byte al rest = rw (e, t1, t2, t3) refl
    by width.SignedHalf al rest = rw (e, t1, t2, t3, al) refl
    by width.Half al rest = rw (e, t1, t2, t3, al) refl
    by width.Word al rest = rw (e, t1, t2, t3, al) refl

odd_effect : (kind : Width) (d : Data) → d.registers 24 < 4294967296 → d.registers 24 / 16777216 ≡ 16 →
    is_aligned (d.registers 24) kind ≡ false → effect (load_instruction kind) d ≡ Ends (Trap Misaligned)
odd_effect kind d b i al = by kind al
  where
    e : (d.registers 24 + 0) % 4294967296 ≡ d.registers 24
    e = omega (arith, b)

    t1 : nat_le STACK (d.registers 24) ≡ false
    t1 = grind (arith, nat_tests, i)

    t2 : nat_le OBJECTS (d.registers 24) ≡ true
    t2 = grind (arith, nat_tests, i)

    t3 : nat_lt (d.registers 24) OBJECTS_END ≡ true
    t3 = grind (arith, nat_tests, i)

    by : (k : Width) → is_aligned (d.registers 24) k ≡ false → effect (load_instruction k) d ≡ Ends (Trap Misaligned)
    by width.SignedByte al = let x : ⊥ = cc in absurd x
    by width.Byte al = let x : ⊥ = cc in absurd x
    by width.SignedHalf al = rw (e, t1, t2, t3, al) refl
    by width.Half al = rw (e, t1, t2, t3, al) refl
    by width.Word al = rw (e, t1, t2, t3, al) refl

module _ (kind : Width) (c : Code) (a bytes : ℕ) (d : Data) (w v : Spot) (low : past a (in_code v) + 20 < SEGMENT_BYTES)
    (f : Framed (pointer d) bytes) (u : Usable bytes v) (b : value d v < 4294967296)
    (h : HasAt c a (fetching_code kind v w)) where
  abbrev mid : Data
  mid = one_in v d

  abbrev here : ℕ
  here = past a (in_code v)

  abbrev there : ℕ
  there = here + 4 + 4 + 4 + 4 + 4

  abbrev rest : List Instr
  rest = load_instruction kind ∷ nop ∷ out_code w

  tail : HasAt c here (range_check 25 ++ rest)
  tail = back c a (in_code v) (range_check 25 ++ rest) h

  is : mid.registers 24 ≡ value d v
  is = load_gives 24 v d

  brings : Runs 1 4 (at c a 0 d) (at c here 0 mid)
  brings =
      let n = in_between v in
      runs_within n.over n.under (leaves_run (in_code v) c 0 0 a d mid (in_leaves d bytes v f u b)
      (front c a (in_code v) (range_check 25 ++ rest) h))

  -- the address is an object's
  comes : value d v / 16777216 ≡ 16 → Runs 5 8 (at c a 0 d) (at c there 0 (ranged 25 mid))
  comes i =
      runs_on {l = 1} {m = 4} brings (runs_within {l = 4} {m = 4} (omega arith) (omega arith)
      (range_passes 25 c here mid rest refl low (ap (λ n. n / 16777216) is ∙ i) tail))

  kept : (ranged 25 mid).registers 24 ≡ value d v
  kept = ranged_other 25 24 mid (omega arith) ∙ is

  pub load_writes : Usable bytes w → AreWords d.objects → access_trap (value d v) kind ≡ None →
      Writes w (load d.objects (value d v) kind) 8 13 (at c a 0 d) c (past a (fetching_code kind v w)) d
  load_writes uw words ok =
      let p = passes (value d v) kind ok in
      let m = ranged 25 mid in
      let x = load d.objects (value d v) kind in
      let last = fetched kind m in
      let leaves = fetched_leaves kind m (subst (λ n. n < 4294967296) (sym kept) b)
      (ap (λ n. n / 16777216) kept ∙ p.inside)
      (ap (λ n. is_aligned n kind) kept ∙ p.even) in
      let range : x < 4294967296 = loaded_range (d.objects (value d v / 4)) (value d v) kind (words (value d v / 4)) in
      let keeps = keeps_on (keeps_on (keeps_one v d) (ranged_keeps 25 mid not_25))
      (keeps_write 24 (load m.objects (m.registers 24) kind) m not_24) in
      let result : last.registers 24 ≡ x =
      update_same 24 (load m.objects (m.registers 24) kind) m.registers ∙ ap (λ n. load d.objects n kind) kept in
      let two : Between 2 (load_instruction kind ∷ nop ∷ []) 2 = record { over = omega arith; under = omega arith } in
      let fin = finish rest (load_instruction kind ∷ nop ∷ []) 2 2 c there bytes m d last w x refl f uw range two leaves
      keeps result tail.1.1.1.1.1 in
      record {
        after = fin.after;
        runs = runs_to (sym (past_append a (in_code v) (range_check 25 ++ rest)))
            (runs_on {l = 5} {m = 8} (comes p.inside) fin.runs);
        puts = fin.puts;
      }

  pub load_ends : (trap : TrapKind) → access_trap (value d v) kind ≡ Some trap →
      EndsIn 6 9 (Ended (Trap trap)) (at c a 0 d) c d.outside
  load_ends trap e = by (traps (value d v) kind trap e)
    where
      by : Trapping (value d v) kind trap → EndsIn 6 9 (Ended (Trap trap)) (at c a 0 d) c d.outside
      by (Outside ne is_range) =
          subst (λ t. EndsIn 6 9 (Ended (Trap t)) (at c a 0 d) c d.outside) (sym is_range)
          (ends_behind {l = 1} {m = 4} brings (range_ends 25 c here mid rest refl
          (λ q. ne (sym (ap (λ n. n / 16777216) is) ∙ q)) tail))
      by (Odd i odd is_odd) =
          let m = ranged 25 mid in
          let last = at c there 0 m in
          let does : effect (load_instruction kind) m ≡ Ends (Trap Misaligned) =
          odd_effect kind m (subst (λ n. n < 4294967296) (sym kept) b) (ap (λ n. n / 16777216) kept ∙ i)
          (ap (λ n. is_aligned n kind) kept ∙ odd) in
          let stops : step (going last) ≡ ended (Ended (Trap Misaligned)) last =
          step_acts (load_instruction kind) last tail.1.1.1.1.1.0 refl ∙
          ap (λ x. apply x (recent_behind (load_instruction kind) 0) last) does in
          subst (λ t. EndsIn 6 9 (Ended (Trap t)) (at c a 0 d) c d.outside) (sym is_odd)
          (ends_behind {l = 5} {m = 8} (comes i) (ends_now (Ended (Trap Misaligned)) c there m stops))
