-- Loads and stores of the words of closures, rows and cells.
use Rattle.std.proofs.Common.{◌≡◌, ℕ, ◌+◌, ◌%◌, ◌<◌, ◌≤◌, Bool, true, ap, ◌∙◌, arith, if◌then◌else◌}
use Rattle.std.proofs.lemmas.Bool.Decides.{nat_tests}
use Rattle.word32.specs.Words.{wrap, widened_half}
use Rattle.word32.specs.Parts.{is_aligned}
use Rattle.word32.specs.declared.map.TheConstants.{CELLS, CELL_BYTES, CLOSURES, CLOSURE_BYTES, SPEC_ROWS}
use Rattle.word32.specs.declared.map.TheConstants.{SPEC_ROW_BYTES}
use Rattle.word32.specs.declared.width.Width.TheVariants.{Word}
use Rattle.flat_memory.proofs.RegionLaws.{in_cells, in_closures, in_spec_rows}
use Rattle.host_edge.specs.declared.ending.Ending.TheVariants.{Trap}
use Rattle.host_edge.specs.declared.ending.TrapKind.TheVariants.{Misaligned}
use Rattle.mips_model.specs.State.{Data, register, set_register}
use Rattle.mips_model.specs.Accesses.{Plain, Loads, Ends, load, store, load_in, store_in}
use Rattle.mips_model.specs.Effects.{effect}
use Rattle.mips_assembly.specs.Assembly.{lw, sw}
use Rattle.icode_templates_proof.specs.Closures.{word_at, with_word}

even_word : (x : ℕ) → x % 4 ≡ 0 → is_aligned x Word ≡ true
even_word x e = grind (arith, nat_tests, e)

module _ (t off base x : ℕ) (d : Data) (e : wrap (register base d + widened_half off) ≡ x) (even : x % 4 ≡ 0) where
  pub load_closure : CLOSURES ≤ x → x < CLOSURES + CLOSURE_BYTES →
      effect (lw t off base) d ≡ Loads t (set_register t (word_at d.closures x) d)
  load_closure from to =
      ap (λ n. load t n Word d) e ∙ ap (λ r. load_in r t x Word d) (in_closures x from to)
      ∙ ap (λ (b : Bool). if b then Loads t (set_register t (word_at d.closures x) d) else Ends (Trap Misaligned))
      (even_word x even)

  pub load_row : SPEC_ROWS ≤ x → x < SPEC_ROWS + SPEC_ROW_BYTES →
      effect (lw t off base) d ≡ Loads t (set_register t (word_at d.spec_rows x) d)
  load_row from to =
      ap (λ n. load t n Word d) e ∙ ap (λ r. load_in r t x Word d) (in_spec_rows x from to)
      ∙ ap (λ (b : Bool). if b then Loads t (set_register t (word_at d.spec_rows x) d) else Ends (Trap Misaligned))
      (even_word x even)

  pub load_cell : CELLS ≤ x → x < CELLS + CELL_BYTES →
      effect (lw t off base) d ≡ Loads t (set_register t (word_at d.cells x) d)
  load_cell from to =
      ap (λ n. load t n Word d) e ∙ ap (λ r. load_in r t x Word d) (in_cells x from to)
      ∙ ap (λ (b : Bool). if b then Loads t (set_register t (word_at d.cells x) d) else Ends (Trap Misaligned))
      (even_word x even)

  -- a register that holds y is stored
  pub store_closure : (y : ℕ) → register t d ≡ y → CLOSURES ≤ x → x < CLOSURES + CLOSURE_BYTES →
      effect (sw t off base) d ≡ Plain (record d { closures = with_word x y d.closures })
  store_closure y is from to =
      ap (λ n. store n Word (register t d) d) e ∙ ap (λ r. store_in r x Word (register t d) d) (in_closures x from to)
      ∙ ap (λ (b : Bool). if b then Plain (record d { closures = with_word x (register t d) d.closures }) else
      Ends (Trap Misaligned)) (even_word x even)
      ∙ ap (λ n. Plain (record d { closures = with_word x n d.closures })) is

  pub store_row : (y : ℕ) → register t d ≡ y → SPEC_ROWS ≤ x → x < SPEC_ROWS + SPEC_ROW_BYTES →
      effect (sw t off base) d ≡ Plain (record d { spec_rows = with_word x y d.spec_rows })
  store_row y is from to =
      ap (λ n. store n Word (register t d) d) e ∙ ap (λ r. store_in r x Word (register t d) d) (in_spec_rows x from to)
      ∙ ap (λ (b : Bool). if b then Plain (record d { spec_rows = with_word x (register t d) d.spec_rows }) else
      Ends (Trap Misaligned)) (even_word x even)
      ∙ ap (λ n. Plain (record d { spec_rows = with_word x n d.spec_rows })) is

  pub store_cell : (y : ℕ) → register t d ≡ y → CELLS ≤ x → x < CELLS + CELL_BYTES →
      effect (sw t off base) d ≡ Plain (record d { cells = with_word x y d.cells })
  store_cell y is from to =
      ap (λ n. store n Word (register t d) d) e ∙ ap (λ r. store_in r x Word (register t d) d) (in_cells x from to)
      ∙ ap (λ (b : Bool). if b then Plain (record d { cells = with_word x (register t d) d.cells }) else
      Ends (Trap Misaligned)) (even_word x even)
      ∙ ap (λ n. Plain (record d { cells = with_word x n d.cells })) is
