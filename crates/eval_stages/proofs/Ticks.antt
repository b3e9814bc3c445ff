-- What is still to come, where the specification of a tick is made.
use Rattle.std.proofs.Common.{◌≡◌, ℕ, ◌+◌, ◌<◌, ◌≤◌, length, List, [], ◌∷◌, map, refl, ap, sym, ◌∙◌, subst}
use Rattle.std.proofs.Common.{Bool, Option, Some, None, Result, Ok, Err, IfOk, true, false, is_none, slice_get}
use Rattle.std.proofs.Common.{if◌then◌else◌}
use Rattle.host_edge.specs.declared.ending.Ending.TheVariants.{Trap}
use Rattle.host_edge.specs.declared.ending.TrapKind.{TrapKind}
use Rattle.host_edge.specs.declared.ending.TrapKind.TheVariants.{BadSpec, SizeLimit}
use Rattle.history.specs.Events.{Ended}
use Rattle.history.specs.Syntax.{Syntax, Ticked}
use Rattle.limits.specs.declared.program.TheConstants.{SIZE_LIMIT}
use Rattle.typed_tree.specs.declared.expression.CaptureKind.{CaptureKind}
use Rattle.meaning_state.specs.Rows.{numbered, parameters_in, size_trap}
use Rattle.meaning_state.specs.Shared.{Specification}
use Rattle.staged_meaning.specs.Program.{Program, captures_size, is_expression, syntax_size, tick_size}
use Rattle.staged_meaning.specs.Specifications.{captures_of, captures_trap, fits, specification_of, specify}
use Rattle.staged_meaning.specs.Specifications.{specify_syntax}
use Rattle.staged_meaning.specs.Specifications.{specify_tick}
use Rattle.staged_meaning.specs.World.{unless}
use Rattle.staged_meaning.specs.World as world
use Rattle.eval_state.specs.KeptRows.{all_kept, captures_kept, parameters_kept, row_kept, size_kept}
use Rattle.eval_state.specs.Pending as pending
use Rattle.eval_state.specs.Rest.{Signal, valued}
use Rattle.eval_state.specs.declared.parts.Now.{Now}
use Rattle.eval_state.specs.Views.{now_view}
use Rattle.eval_state.proofs.KeptRows.{captures_are_kept, parameters_are_kept, size_is_kept}
use Rattle.eval_state.specs.declared.state.Kept.{Kept}
use Rattle.eval_state.specs.declared.state.Parts.{Parts}
use Rattle.eval_state.specs.declared.state.Row.{Row}
use Rattle.eval_state.specs.declared.state.RowKind.{RowKind}
use Rattle.eval_state.specs.Kept.{kept_view, row_of, rows_view}
use Rattle.eval_state.specs.Numbered.{code_kind}
use Rattle.eval_state.specs.Run.{Run, here, leads, outcome, program_of, run_of, world}
use Rattle.eval_state.specs.Specified.{IsCounted}
use Rattle.eval_state.proofs.Makes.{is_over, is_within, traps}

trap_is : (rows : List Specification) (kinds : List CaptureKind) (words : List ℕ)
    → is_none (captures_trap rows kinds words) ≡ false → captures_trap rows kinds words ≡ Some BadSpec
trap_is rows [] words h = absurd (cc)
trap_is rows (k ∷ kinds) [] h = absurd (cc)
trap_is rows (k ∷ kinds) (v ∷ words) h =
    either (fits k (numbered v rows)) (captures_trap rows kinds words) (trap_is rows kinds words) h
  where
    either : (b : Bool) (t : Option TrapKind) → (is_none t ≡ false → t ≡ Some BadSpec)
        → is_none (if b then t else Some BadSpec) ≡ false → (if b then t else Some BadSpec) ≡ Some BadSpec
    either true t f h = f h
    either false t f h = refl

pub none_is : {A : Type 0} (o : Option A) → is_none o ≡ true → o ≡ None
none_is None h = refl
none_is (Some a) h = absurd (cc)

module _ (p : Parts) (tick : ℕ) (kinds : List CaptureKind) (words : List ℕ) where
  abbrev rows : List Specification
  rows = rows_view p.rows

  abbrev pub syntax_made : Syntax
  syntax_made = Ticked tick (captures_of rows kinds words)

  pub bad_capture : is_none (captures_trap rows kinds words) ≡ false
      → outcome (pending.Ended (Ended (Trap BadSpec))) (run_of p)
      ≡ leads (run_of p) (valued (specify_tick (here (run_of p)).program tick kinds words (world (run_of p))))
  unfolding run_of
  bad_capture h =
      traps (run_of p) (captures_trap rows kinds words) BadSpec
      (specify_syntax (program_of p) tick syntax_made (length words) (world (run_of p))) (trap_is rows kinds words h)

  fit_first : captures_trap rows kinds words ≡ None
      → leads (run_of p) (valued (specify_syntax (program_of p) tick syntax_made (length words) (world (run_of p))))
      ≡ leads (run_of p) (valued (specify_tick (here (run_of p)).program tick kinds words (world (run_of p))))
  unfolding run_of
  fit_first h =
      ap (λ t. leads (run_of p) (valued (unless t (world (run_of p))
      (specify_syntax (program_of p) tick syntax_made (length words) (world (run_of p)))))) (sym h)

  pub too_large : captures_trap rows kinds words ≡ None → SIZE_LIMIT < syntax_size (program_of p) syntax_made
      → outcome (pending.Ended (Ended (Trap SizeLimit))) (run_of p)
      ≡ leads (run_of p) (valued (specify_tick (here (run_of p)).program tick kinds words (world (run_of p))))
  too_large h k =
      traps (run_of p) (size_trap (syntax_size (program_of p) syntax_made)) SizeLimit
      (specify (specification_of (is_expression (slice_get (program_of p).ticks tick)) syntax_made) (length words)
      (world (run_of p)))
      (ap (λ b. if b then None else Some SizeLimit) (is_over (syntax_size (program_of p) syntax_made) SIZE_LIMIT k))
      ∙ fit_first h

  pub tick_made : (s : Specification) → captures_trap rows kinds words ≡ None
      → syntax_size (program_of p) syntax_made ≤ SIZE_LIMIT
      → s ≡ specification_of (is_expression (slice_get (program_of p).ticks tick)) syntax_made
      → leads (run_of p) (valued (specify s (length words) (world (run_of p))))
      ≡ leads (run_of p) (valued (specify_tick (here (run_of p)).program tick kinds words (world (run_of p))))
  tick_made s h k e =
      ap (λ s. leads (run_of p) (valued (specify s (length words) (world (run_of p))))) e
      ∙ ap (λ b. leads (run_of p) (valued (unless (if b then None else Some SizeLimit) (world (run_of p))
      (specify (specification_of (is_expression (slice_get (program_of p).ticks tick)) syntax_made) (length words)
      (world (run_of p))))))
      (sym (is_within (syntax_size (program_of p) syntax_made) SIZE_LIMIT k))
      ∙ fit_first h

  -- by what was kept
  module _ (list : List Kept) (is : map kept_view list ≡ all_kept rows kinds words) where
    captures_are : captures_kept rows (map kept_view list) ≡ captures_of rows kinds words
    captures_are = ap (captures_kept rows) is ∙ captures_are_kept rows kinds words

    pub size_made : tick_size (slice_get (program_of p).ticks tick)
        + size_kept (program_of p) rows (map kept_view list) ≡ syntax_size (program_of p) syntax_made
    size_made = ap (λ n. tick_size (slice_get (program_of p).ticks tick) + n)
        (sym (size_is_kept (program_of p) rows (map kept_view list))
        ∙ ap (captures_size (program_of p)) captures_are)

    pub specification_made : (k : RowKind) (b : Bool) → k ≡ code_kind b
        → row_kept rows (row_of k tick (map kept_view list)) ≡ specification_of b syntax_made
    specification_made k b h =
        ap (λ k. row_kept rows (row_of k tick (map kept_view list))) h
        ∙ of_code b
        ∙ ap (λ c. specification_of b (Ticked tick c)) captures_are
      where
        of_code : (b : Bool) → row_kept rows (row_of (code_kind b) tick (map kept_view list))
            ≡ specification_of b (Ticked tick (captures_kept rows (map kept_view list)))
        of_code true = refl
        of_code false = refl

pub counted_tick : (program : Program) (rows : List Specification) (row : Row) (k : RowKind) (b : Bool)
    → k ≡ code_kind b
    → row.size ≡ tick_size (slice_get program.ticks row.tick) + size_kept program rows (map kept_view row.kept)
    → row.parameters ≡ parameters_kept rows (map kept_view row.kept) → IsCounted program rows k row
counted_tick program rows row k b h s n =
    subst (λ k. IsCounted program rows k row) (sym h) (of_code b)
  where
    facts : (row.size ≡ tick_size (slice_get program.ticks row.tick)
        + captures_size program (captures_kept rows (map kept_view row.kept)))
        × (row.parameters ≡ parameters_in (captures_kept rows (map kept_view row.kept)))
    facts = (
      s ∙ ap (λ m. tick_size (slice_get program.ticks row.tick) + m)
          (sym (size_is_kept program rows (map kept_view row.kept))),
      n ∙ sym (parameters_are_kept rows (map kept_view row.kept)),
    )

    of_code : (b : Bool) → IsCounted program rows (code_kind b) row
    of_code true = facts
    of_code false = facts

-- what a result leads to is put otherwise
pub ok_leads : {E : Type 0} (r : Result Now E) (q : Run) (x y : world.Result Signal) → x ≡ y
    → IfOk r (λ n. outcome (now_view n) q ≡ x) → IfOk r (λ n. outcome (now_view n) q ≡ y)
ok_leads (Ok n) q x y e h = h ∙ e
ok_leads (Err f) q x y e h = h
