-- An op that calls a routine.
use Rattle.std.proofs.Common.{◌≡◌, ℕ, ◌+◌, ◌%◌, ◌<◌, List, [], ◌∷◌, ◌++◌, refl, sym, ap, subst, arith}
use Rattle.word32.specs.Space.{update}
use Rattle.word32.specs.declared.map.TheConstants.{SEGMENT_BYTES}
use Rattle.history.specs.Events.{End}
use Rattle.mips_encoder.specs.declared.instruction.Instr.{Instr}
use Rattle.mips_encoder.specs.Addresses.{past}
use Rattle.mips_model.specs.State.{Code, Data}
use Rattle.mips_model.specs.Laws.{HasAt, at}
use Rattle.mips_model.proofs.Reach.{front, back, past_append}
use Rattle.icode_templates.specs.Layout.{Spot}
use Rattle.mips_assembly.specs.Assembly.{addu}
use Rattle.icode_templates.specs.Templates.{in_code, out_code, routine_code, routine_address}
use Rattle.icode_templates_proof.specs.Spots.{pointer, value, Framed, Usable, KeepsSpots}
use Rattle.icode_templates_proof.specs.Moves.{Runs, Writes, EndsIn}
use Rattle.icode_templates_proof.proofs.Leaves.{Leaves, leaves_run, runs_on, runs_within, runs_wider, runs_to}
use Rattle.icode_templates_proof.proofs.Keeping.{with_registers, keeps_on, keeps_write, not_24}
use Rattle.icode_templates_proof.proofs.Endings.{ends_behind, ends_with}
use Rattle.icode_templates_proof.proofs.Operands.{one_in, in_leaves, keeps_one, in_between}
use Rattle.icode_templates_proof.proofs.Serving.{argument, argument_is}
use Rattle.icode_templates_proof.proofs.Templates.{finish}
use Rattle.icode_templates_proof.specs.MallocLaws.{Answers, linked, return_address}
use Rattle.icode_templates_proof.proofs.Kept.{and_write, linked_keeps}
use Rattle.icode_templates_proof.proofs.Calls.{call_reaches, brought}

-- the argument came in, and then to $a0; and the routine is entered
abbrev passed : Spot → Data → Data
passed v d = with_registers (update 4 (argument (one_in v d)) (one_in v d).registers) (one_in v d)

abbrev entered : ℕ → Spot → Data → Data
entered to v d = linked to (passed v d)

entered_keeps : (to : ℕ) (v : Spot) (d : Data) → KeepsSpots (linked to d) (entered to v d)
entered_keeps to v d = linked_keeps to (and_write 4 (argument (one_in v d)) (one_in v d) (omega arith) (keeps_one v d))

module _ (number : ℕ) (c : Code) (a bytes : ℕ) (d : Data) (v : Spot) (rest : List Instr) (low : past a (in_code v) +
    12 < SEGMENT_BYTES) (near : routine_address number < SEGMENT_BYTES) (f : Framed (pointer d) bytes) (u : Usable
    bytes v) (b : value d v < 4294967296) (h : HasAt c a (in_code v ++ (routine_code number ++ rest))) where
  tail : HasAt c (past a (in_code v)) (routine_code number ++ rest)
  tail = back c a (in_code v) (routine_code number ++ rest) h

  moves : Leaves (addu 4 24 0 ∷ []) 0 (one_in v d) 0 (passed v d)
  moves more = refl

  comes : Runs 4 7 (at c a 0 d) (at c (routine_address number) 0 (entered (return_address a v) v d))
  comes =
      let n = in_between v in
      let here = past a (in_code v) in
      let first = leaves_run (in_code v) c 0 0 a d (one_in v d) (in_leaves d bytes v f u b)
      (front c a (in_code v) (routine_code number ++ rest) h) in
      let second = leaves_run (addu 4 24 0 ∷ []) c 0 0 here (one_in v d) (passed v d) moves (tail.0, tt) in
      let third = call_reaches c (here + 4) (routine_address number) (passed v d) (omega (arith, low)) near
      (omega arith) (tail.1.0, (tail.1.1.0, tt)) in
      runs_on {l = 2} {m = 5}
      (runs_on {l = 1} {m = 4} (runs_within n.over n.under first)
      (runs_within {l = 1} {m = 1} (omega arith) (omega arith) second))
      (runs_within {l = 2} {m = 2} (omega arith) (omega arith) third)

module _ (number x least most : ℕ) (c : Code) (a bytes : ℕ) (d base : Data) (w v : Spot) (low : past a (in_code v) +
    12 < SEGMENT_BYTES) (near : routine_address number < SEGMENT_BYTES) (f : Framed (pointer d) bytes) (u : Usable
    bytes w) (u' : Usable bytes v) (b : value d v < 4294967296) (word : x < 4294967296) (answers : (e : Data) →
    KeepsSpots (linked (return_address a v) d) e → e.registers 4 ≡ value d v → Answers x least most (at c
    (routine_address number) 0 e) c (return_address a v) base) (same_pointer : pointer base ≡ pointer d) (h : HasAt c
    a (in_code v ++ (routine_code number ++ out_code w))) where
  pub routine_called :
      Writes w x (least + 6) (most + 11) (at c a 0 d) c (past a (in_code v ++ (routine_code number ++ out_code w))) base
  routine_called =
      let to = return_address a v in
      let y = answers (entered to v d) (entered_keeps to v d) (argument_is v d b) in
      let last = y.after in
      let is : List Instr = addu 24 2 0 ∷ [] in
      let leaves : Leaves is 0 last 0 (brought last) = λ more. refl in
      let same : (last.registers 2 + 0) % 4294967296 ≡ x = omega (arith, y.answer, word) in
      let code = (tail number c a bytes d v (out_code w) low near f u' b h).1.1.1 in
      let done : Writes w x 2 4 (at c to 0 last) c (past to (is ++ out_code w)) base =
      finish (is ++ out_code w) is 1 1 c to bytes last base (brought last) w x refl
      (subst (λ p. Framed p bytes) (sym same_pointer) f) u word
      (record { over = omega arith; under = omega arith }) leaves
      (keeps_on y.keeps (keeps_write 24 ((last.registers 2 + 0) % 4294967296) last not_24)) same code in
      record {
        after = done.after;
        runs = runs_to {d = done.after}
            (sym (past_append a (in_code v) (routine_code number ++ out_code w)))
            (runs_wider {l = 4 + least + 2} {m = 7 + most + 4} (omega arith) (omega arith)
            (runs_on {l = 4 + least} {m = 7 + most} {s2 = at c (past to (is ++ out_code w)) 0 done.after}
            (runs_on {l = 4} {m = 7} (comes number c a bytes d v (out_code w) low near f u' b h) y.runs) done.runs));
        puts = done.puts;
      }

module _ (number least most : ℕ) (end : End) (c : Code) (a bytes : ℕ) (d : Data) (v : Spot) (rest : List Instr) (low :
    past a (in_code v) + 12 < SEGMENT_BYTES) (near : routine_address number < SEGMENT_BYTES) (f : Framed (pointer d)
    bytes) (u : Usable bytes v) (b : value d v < 4294967296) (ends : (e : Data) → KeepsSpots (linked (return_address a
    v) d) e → e.registers 4 ≡ value d v → EndsIn least most end (at c (routine_address number) 0 e) c
    e.outside) (h : HasAt c a (in_code v ++ (routine_code number ++ rest))) where
  pub routine_ends : EndsIn (4 + least) (7 + most) end (at c a 0 d) c d.outside
  routine_ends =
      let to = return_address a v in
      let q = entered_keeps to v d in
      ends_behind (comes number c a bytes d v rest low near f u b h)
      (ends_with (q.world.outside) (ends (entered to v d) q (argument_is v d b)))
