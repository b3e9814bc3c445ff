-- The op that puts a captured word into the newest closure.
use Rattle.std.proofs.Common.{◌≡◌, inl, inr, ℕ, ◌+◌, ◌*◌, ◌/◌, ◌<◌, true, false, [], ◌∷◌}
use Rattle.std.proofs.Common.{refl, ap, ◌∙◌, subst, arith, nat_lt}
use Rattle.std.proofs.lemmas.Bool.{cases_lt}
use Rattle.std.proofs.lemmas.List.{length-append}
use Rattle.std.proofs.lemmas.Bool.Decides.{nat_tests}
use Rattle.word32.specs.Words.{wrap, widened_half}
use Rattle.word32.specs.Space.{update}
use Rattle.word32.specs.declared.map.TheConstants.{CLOSURE_CELL}
use Rattle.mips_model.specs.State.{Code, Data}
use Rattle.mips_model.specs.Accesses.{Loads}
use Rattle.mips_model.specs.Laws.{HasAt, at}
use Rattle.mips_encoder.specs.Addresses.{past}
use Rattle.meaning_state.specs.Rows.{closure_bytes}
use Rattle.icode_templates.specs.Layout.{Spot}
use Rattle.mips_assembly.specs.Assembly.{addu, lui, lw, sw}
use Rattle.icode_templates.specs.Templates.{upper, lower, in_code, put_code}
use Rattle.icode_templates_proof.specs.Spots.{pointer, value, Framed, Usable, KeepsSpots}
use Rattle.icode_templates_proof.specs.Moves.{Comes}
use Rattle.icode_templates_proof.proofs.Leaves.{Leaves, leaves_on, leaves_run, runs_within}
use Rattle.icode_templates_proof.proofs.Keeping.{with_registers, keeps_on, keeps_write, not_1, not_25}
use Rattle.icode_templates_proof.proofs.Operands.{one_in, in_leaves, keeps_one, in_between, load_gives}
use Rattle.icode_templates_proof.specs.Closures.{with_word}
use Rattle.icode_templates_proof.proofs.Skips.{one_loads, one_leaves}
use Rattle.icode_templates_proof.proofs.Accesses.{load_cell, store_closure}
use Rattle.closures_proof.specs.Ops.{put_op_code, newest_closure, HasPlace, with_captured}

abbrev set : ℕ → ℕ → Data → Data
set r x d = with_registers (update r x d.registers) d

-- the address of a captured word in two halves
abbrev offset : ℕ → ℕ
offset i = 16 + 4 * i

place_is : (n o : ℕ) → n + o < 2147483648 → wrap (wrap (n + upper o * 65536) + widened_half (lower o)) ≡ n + o
place_is n o h =
    elim (cases_lt (lower o) 32768) [
      | inl l ↦ let t : nat_lt (lower o) 32768 ≡ true = grind (arith, nat_tests) in rw t (omega (arith, h))
      | inr l ↦ let t : nat_lt (lower o) 32768 ≡ false = grind (arith, nat_tests) in rw t (omega (arith, h))
    ]

-- what is written elsewhere is kept
captured_keeps : (i x : ℕ) (d e : Data) → KeepsSpots d e → KeepsSpots (with_captured i x d) (with_captured i x e)
captured_keeps i x d e q = record {
  registers = q.registers;
  stack = q.stack;
  world = record {
    objects = q.world.objects;
    closures =
        ap (λ (f : ℕ → ℕ). with_word (f (CLOSURE_CELL / 4) + closure_bytes i) x e.closures) q.world.cells
        ∙ ap (with_word (newest_closure d + closure_bytes i) x) q.world.closures;
    spec_rows = q.world.spec_rows;
    cells = q.world.cells;
    emit_stack = q.world.emit_stack;
    table = q.world.table;
    outside = q.world.outside;
  };
}

module _ (c : Code) (a bytes i : ℕ) (d : Data) (v : Spot) (f : Framed (pointer d) bytes) (u : Usable bytes v) (b :
    value d v < 4294967296) (has : HasPlace i d) (h : HasAt c a (put_op_code v i)) where
  abbrev mid : Data
  mid = one_in v d

  abbrev newest : ℕ
  newest = newest_closure d

  -- the newest closure's address, and then that of the captured word but for its lower half
  abbrev m1 : Data
  m1 = set 25 newest mid

  abbrev m2 : Data
  m2 = set 1 (upper (offset i) * 65536) m1

  abbrev m3 : Data
  m3 = set 25 (wrap (newest + upper (offset i) * 65536)) m2

  abbrev m4 : Data
  m4 = record m3 { closures = with_word (newest + closure_bytes i) (value d v) m3.closures }

  mid_keeps : KeepsSpots d mid
  mid_keeps = keeps_one v d

  cells_same : newest_closure mid ≡ newest
  cells_same = ap (λ (g : ℕ → ℕ). g (CLOSURE_CELL / 4)) mid_keeps.world.cells

  global : mid.registers 28 ≡ d.registers 28
  global = mid_keeps.registers 28 (omega arith, omega arith, omega arith)

  loads : Leaves (lw 25 65504 28 ∷ []) 0 mid 25 m1
  loads =
      let g = global ∙ has.global in
      one_loads (lw 25 65504 28) 0 25 mid m1 refl refl
      (load_cell 25 65504 28 CLOSURE_CELL mid (omega (arith, g)) refl (omega arith) (omega arith)
      ∙ ap (λ n. Loads 25 (set 25 n mid)) cells_same)

  reaches : wrap (m3.registers 25 + widened_half (lower (offset i))) ≡ newest + closure_bytes i
  reaches = place_is newest (offset i) (omega (arith, has.to))

  moves : Leaves (lui 1 (upper (offset i)) ∷ addu 25 25 1 ∷ []) 25 m1 0 m3
  moves rest = refl

  stores : Leaves (sw 24 (lower (offset i)) 25 ∷ []) 0 m3 0 m4
  stores =
      one_leaves (sw 24 (lower (offset i)) 25) 0 m3 m4 refl refl
      (store_closure 24 (lower (offset i)) 25 (newest + closure_bytes i) m3 reaches
      (omega (arith, has.even)) (value d v) (load_gives 24 v d) (omega (arith, has.from)) (omega (arith, has.to)))

  whole : Leaves (put_op_code v i) 0 d 0 m4
  whole =
      leaves_on (in_code v) (put_code i) 0 0 0 d mid m4 (in_leaves d bytes v f u b)
      (leaves_on (lw 25 65504 28 ∷ []) (lui 1 (upper (offset i)) ∷ addu 25 25 1 ∷ sw 24 (lower (offset i)) 25 ∷ []) 0 25
      0 mid m1 m4 loads
      (leaves_on (lui 1 (upper (offset i)) ∷ addu 25 25 1 ∷ []) (sw 24 (lower (offset i)) 25 ∷ []) 25 0 0 m1 m3 m4 moves
      stores))

  m3_keeps : KeepsSpots d m3
  m3_keeps =
      keeps_on mid_keeps
      (keeps_on (keeps_write 25 newest mid not_25)
      (keeps_on (keeps_write 1 (upper (offset i) * 65536) m1 not_1)
      (keeps_write 25 (wrap (newest + upper (offset i) * 65536)) m2 not_25)))

  keeps : KeepsSpots (with_captured i (value d v) d) m4
  keeps =
      subst (λ n. KeepsSpots (with_captured i (value d v) d)
      (record m3 { closures = with_word (n + closure_bytes i) (value d v) m3.closures })) cells_same
      (captured_keeps i (value d v) d m3 m3_keeps)

  pub put_done : Comes 5 8 (at c a 0 d) c (past a (put_op_code v i)) (with_captured i (value d v) d)
  put_done =
      let n = in_between v in
      let long = length-append (in_code v) (put_code i) in
      record {
        after = m4;
        runs = runs_within (omega (arith, long, n.over)) (omega (arith, long, n.under))
            (leaves_run (put_op_code v i) c 0 0 a d m4 whole h);
        keeps = keeps;
      }
