-- A store of each width.
use Rattle.std.proofs.Common.{◌≡◌, ℕ, ◌+◌, ◌/◌, ◌%◌, ◌<◌, true, false, List, [], ◌∷◌, ◌++◌, refl, sym, ap}
use Rattle.std.proofs.Common.{◌∙◌, subst, arith, nat_lt, nat_le, Some, None}
use Rattle.std.proofs.lemmas.Bool.Decides.{nat_tests}
use Rattle.word32.specs.declared.map.TheConstants.{OBJECTS, OBJECTS_END, SEGMENT_BYTES, STACK}
use Rattle.word32.specs.Parts.{is_aligned}
use Rattle.word32.specs.Space.{store}
use Rattle.word32.specs.declared.width.Width.{Width}
use Rattle.word32.specs.declared.width.Width.TheVariants as width
use Rattle.host_edge.specs.declared.ending.Ending.TheVariants.{Trap}
use Rattle.host_edge.specs.declared.ending.TrapKind.{TrapKind}
use Rattle.host_edge.specs.declared.ending.TrapKind.TheVariants.{Misaligned}
use Rattle.history.specs.Events.{Ended}
use Rattle.mips_encoder.specs.declared.instruction.Instr.{Instr}
use Rattle.mips_encoder.specs.Addresses.{past}
use Rattle.mips_model.specs.State.{Code, Data}
use Rattle.mips_model.specs.Accesses.{Ends}
use Rattle.mips_model.specs.Effects.{effect}
use Rattle.mips_model.specs.Steps.{going, ended, apply, recent_behind, step}
use Rattle.mips_model.specs.Laws.{HasAt, at}
use Rattle.mips_model.proofs.Reach.{step_acts, front, back, past_append}
use Rattle.meaning_state.specs.Shared.{access_trap}
use Rattle.icode_templates.specs.Layout.{Spot}
use Rattle.icode_templates.specs.Templates.{in_two_code, range_check, store_instruction}
use Rattle.icode_templates_proof.specs.Spots.{pointer, value, Framed, Usable, KeepsSpots}
use Rattle.icode_templates_proof.specs.Laws.{storing_code, stored_in}
use Rattle.icode_templates_proof.specs.Moves.{Runs, Comes}
use Rattle.icode_templates_proof.specs.Moves.{EndsIn}
use Rattle.icode_templates_proof.proofs.Leaves.{Leaves, leaves_run, runs_on, runs_within, runs_to}
use Rattle.icode_templates_proof.proofs.Keeping.{keeps_on, not_1}
use Rattle.icode_templates_proof.proofs.Operands.{two_in, in_two_leaves, keeps_two, first_given, second_given}
use Rattle.icode_templates_proof.proofs.Operands.{in_two_between}
use Rattle.icode_templates_proof.proofs.Ranges.{ranged, ranged_keeps, ranged_other, range_passes, range_ends}
use Rattle.icode_templates_proof.proofs.Traps.{passes, traps, Trapping, Outside, Odd}
use Rattle.icode_templates_proof.proofs.Endings.{ends_now, ends_behind}

-- $t9 was stored to the address in $t8
abbrev put : Width → Data → Data
put kind d = stored_in kind (d.registers 24) (d.registers 25) d

module _ (d : Data) (b : d.registers 24 < 4294967296) (i : d.registers 24 / 16777216 ≡ 16) where
  whole : (d.registers 24 + 0) % 4294967296 ≡ d.registers 24
  whole = omega (arith, b)

  below_stack : nat_le STACK (d.registers 24) ≡ false
  below_stack = grind (arith, nat_tests, i)

  from_objects : nat_le OBJECTS (d.registers 24) ≡ true
  from_objects = grind (arith, nat_tests, i)

  to_end : nat_lt (d.registers 24) OBJECTS_END ≡ true
  to_end = grind (arith, nat_tests, i)

  put_leaves : (kind : Width) → is_aligned (d.registers 24) kind ≡ true →
      Leaves (store_instruction kind ∷ []) 0 d 0 (put kind d)
  put_leaves width.SignedByte al rest = rw (whole, below_stack, from_objects, to_end) refl
  put_leaves width.Byte al rest = rw (whole, below_stack, from_objects, to_end) refl
  put_leaves width.SignedHalf al rest = rw (whole, below_stack, from_objects, to_end, al) refl
  put_leaves width.Half al rest = rw (whole, below_stack, from_objects, to_end, al) refl
  put_leaves width.Word al rest = rw (whole, below_stack, from_objects, to_end, al) refl

  odd_effect : (kind : Width) → is_aligned (d.registers 24) kind ≡ false →
      effect (store_instruction kind) d ≡ Ends (Trap Misaligned)
  odd_effect width.SignedByte al = let x : ⊥ = cc in absurd x
  odd_effect width.Byte al = let x : ⊥ = cc in absurd x
  odd_effect width.SignedHalf al = rw (whole, below_stack, from_objects, to_end, al) refl
  odd_effect width.Half al = rw (whole, below_stack, from_objects, to_end, al) refl
  odd_effect width.Word al = rw (whole, below_stack, from_objects, to_end, al) refl

put_keeps : (kind : Width) (address x : ℕ) (d m : Data) → m.registers 24 ≡ address → m.registers 25 ≡ x →
    KeepsSpots d m → KeepsSpots (stored_in kind address x d) (put kind m)
put_keeps kind address x d m e1 e2 k = record {
  registers = k.registers;
  stack = k.stack;
  world = record {
    objects =
        ap (λ n. store n kind (m.registers 25) m.objects) e1 ∙ ap (λ n. store address kind n m.objects) e2 ∙
        ap (store address kind x) k.world.objects;
    closures = k.world.closures;
    spec_rows = k.world.spec_rows;
    cells = k.world.cells;
    emit_stack = k.world.emit_stack;
    table = k.world.table;
    outside = k.world.outside;
  };
}

module _ (kind : Width) (c : Code) (a bytes : ℕ) (d : Data) (v z : Spot)
    (low : past a (in_two_code v z) + 20 < SEGMENT_BYTES) (f : Framed (pointer d) bytes) (u : Usable bytes v)
    (u' : Usable bytes z) (b : value d v < 4294967296) (b' : value d z < 4294967296)
    (h : HasAt c a (storing_code kind v z)) where
  abbrev mid : Data
  mid = two_in v z d

  abbrev here : ℕ
  here = past a (in_two_code v z)

  abbrev there : ℕ
  there = here + 4 + 4 + 4 + 4 + 4

  abbrev rest : List Instr
  rest = store_instruction kind ∷ []

  tail : HasAt c here (range_check 1 ++ rest)
  tail = back c a (in_two_code v z) (range_check 1 ++ rest) h

  is : mid.registers 24 ≡ value d v
  is = first_given v z d

  brings : Runs 2 7 (at c a 0 d) (at c here 0 mid)
  brings =
      let n = in_two_between v z in
      runs_within n.over n.under (leaves_run (in_two_code v z) c 0 0 a d mid (in_two_leaves d bytes v z f u u' b b')
      (front c a (in_two_code v z) (range_check 1 ++ rest) h))

  -- the address is an object's
  comes : value d v / 16777216 ≡ 16 → Runs 6 11 (at c a 0 d) (at c there 0 (ranged 1 mid))
  comes i =
      runs_on {l = 2} {m = 7} brings (runs_within {l = 4} {m = 4} (omega arith) (omega arith)
      (range_passes 1 c here mid rest refl low (ap (λ n. n / 16777216) is ∙ i) tail))

  kept : (ranged 1 mid).registers 24 ≡ value d v
  kept = ranged_other 1 24 mid (omega arith) ∙ is

  given : (ranged 1 mid).registers 25 ≡ value d z
  given = ranged_other 1 25 mid (omega arith) ∙ second_given bytes v z d u'

  pub store_comes : access_trap (value d v) kind ≡ None →
      Comes 7 12 (at c a 0 d) c (past a (storing_code kind v z)) (stored_in kind (value d v) (value d z) d)
  store_comes ok =
      let p = passes (value d v) kind ok in
      let m = ranged 1 mid in
      let leaves = put_leaves m (subst (λ n. n < 4294967296) (sym kept) b) (ap (λ n. n / 16777216) kept ∙ p.inside)
      kind (ap (λ n. is_aligned n kind) kept ∙ p.even) in
      record {
        after = put kind m;
        runs = runs_to (sym (past_append a (in_two_code v z) (range_check 1 ++ rest)))
            (runs_on {l = 6} {m = 11} (comes p.inside) (runs_within {l = 1} {m = 1} (omega arith) (omega arith)
            (leaves_run rest c 0 0 there m (put kind m) leaves tail.1.1.1.1.1)));
        keeps =
            put_keeps kind (value d v) (value d z) d m kept given (keeps_on (keeps_two v z d) (ranged_keeps 1 mid
            not_1));
      }

  pub store_ends : (trap : TrapKind) → access_trap (value d v) kind ≡ Some trap →
      EndsIn 7 12 (Ended (Trap trap)) (at c a 0 d) c d.outside
  store_ends trap e = by (traps (value d v) kind trap e)
    where
      by : Trapping (value d v) kind trap → EndsIn 7 12 (Ended (Trap trap)) (at c a 0 d) c d.outside
      by (Outside ne is_range) =
          subst (λ t. EndsIn 7 12 (Ended (Trap t)) (at c a 0 d) c d.outside) (sym is_range)
          (ends_behind {l = 2} {m = 7} brings (range_ends 1 c here mid rest refl
          (λ q. ne (sym (ap (λ n. n / 16777216) is) ∙ q)) tail))
      by (Odd i odd is_odd) =
          let m = ranged 1 mid in
          let last = at c there 0 m in
          let does : effect (store_instruction kind) m ≡ Ends (Trap Misaligned) =
          odd_effect m (subst (λ n. n < 4294967296) (sym kept) b) (ap (λ n. n / 16777216) kept ∙ i) kind
          (ap (λ n. is_aligned n kind) kept ∙ odd) in
          let stops : step (going last) ≡ ended (Ended (Trap Misaligned)) last =
          step_acts (store_instruction kind) last tail.1.1.1.1.1.0 refl ∙
          ap (λ x. apply x (recent_behind (store_instruction kind) 0) last) does in
          subst (λ t. EndsIn 7 12 (Ended (Trap t)) (at c a 0 d) c d.outside) (sym is_odd)
          (ends_behind {l = 6} {m = 11} (comes i) (ends_now (Ended (Trap Misaligned)) c there m stops))
