-- The function of a specification of an accepted text's ticks is one that the services take.
use Rattle.std.proofs.Common.{◌≡◌, ℕ, Bool, true, false, List, [], ◌∷◌, ◌++◌, length}
use Rattle.std.proofs.Common.{Option, Some, None, slice_get, refl, sym, ap, ◌∙◌, subst, arith}
use Rattle.std.specs.Prelude.{option_map}
use Rattle.std.proofs.lemmas.Option.{slice_get-map}
use Rattle.history.specs.Syntax.{Syntax}
use Rattle.meaning_state.specs.Shared.{Specification, Expression, Statement, Local, Param}
use Rattle.meaning_state.specs.Rows.{specification_at, parameters_of}
use Rattle.mips_model.specs.State.{Making}
use Rattle.typed_tree.specs.Nodes as node
use Rattle.wellformed.specs.Program.{IsProgram}
use Rattle.icode_ir.specs.declared.build_op.BuildOp.{BuildOp}
use Rattle.icode_ir.specs.Build.{Build, empty}
use Rattle.staged_meaning.specs.Program.{Program, syntax_size}
use Rattle.tick_lower_spec.specs.Lower.{Addresses}
use Rattle.tick_lower_spec.specs.Specifications.{specification_ops}
use Rattle.tick_lower_spec.specs.TickPieces.{tick_pieces}
use Rattle.generator_laws.specs.Laws.{built_of}
use Rattle.generator_laws.specs.Pieces.{syntax_ops}
use Rattle.compile_routine.specs.Laws.{IsTickOf, return_ops}
use Rattle.compile_routine.specs.Made.{FitsServices}
use Rattle.generator_spec.specs.Kinds.{tick_of_body}
use Rattle.generator_spec.specs.Laws.{pieces_at}
use Rattle.generator_spec.specs.FittingLaws.{ticks_of, program_pieces}
use Rattle.generator_spec.proofs.Lowered.{lowered}
use Rattle.generator_spec.proofs.Wholes.{syntax_whole}
use Rattle.generated_ops_proof.specs.Answers.{leaves}
use Rattle.generated_ops_proof.specs.Laws.{IsNamed, SetsKeys}
use Rattle.generated_ops_proof.proofs.Begun.{begun_take_all, few_registers, few_ops}
use Rattle.generated_ops_proof.proofs.DearTicks.{specifications_dear}
use Rattle.generated_ops_proof.proofs.Preludes.{preludes_set}
use Rattle.known_closures_proof.specs.Known.{IsCode}
use Rattle.known_closures_proof.proofs.Making.{row_code}
use Rattle.known_closures_proof.proofs.Rows.{value_of}
use Rattle.known_closures_proof.specs.Functions.{HasFunction, CodeHasFunctions, CodeIsWhole, KnownRowsAreCode}

none_left : {A : Type 0} (xs : List A) → length xs ≡ 0 → xs ≡ []
none_left [] e = refl
none_left (x ∷ xs) e = absurd (omega (arith, e))

module _ (p : node.Program) (accepted : IsProgram p) (addresses : Addresses) (program : Program)
    (ticks : program.ticks ≡ ticks_of p) (syntax : Syntax) (code : IsCode p accepted syntax) where
  abbrev value : Bool
  value = leaves (ticks_of p) syntax

  abbrev size : ℕ
  size = syntax_size program syntax

  abbrev parameters : ℕ
  parameters = parameters_of syntax

  -- the ops of a list, with the return of the value
  abbrev with_return : List BuildOp → List BuildOp
  with_return ops = ops ++ return_ops value

  abbrev after : List BuildOp → Build
  after ops = built_of (with_return ops) (empty parameters)

  same : specification_ops addresses (ticks_of p) syntax ≡ syntax_ops (program_pieces addresses p) syntax
  same = sym (lowered addresses (ticks_of p) syntax)

  named : IsNamed syntax (empty parameters)
  named = record { parameters = omega arith; keys = code.keys }

  fits : (m : Making) → m.generator.build ≡ None
      → FitsServices (record { parameters = parameters; ops = with_return (specification_ops addresses (ticks_of p) syntax) })
      size m
  fits m free =
      let all = begun_take_all p accepted addresses program syntax parameters ticks code.made named
      (code.small program ticks) in
      let last : Build = after (specification_ops addresses (ticks_of p) syntax) in record {
        unbegun = free;
        taken = all.taken;
        operands = none_left last.operands all.operands;
        bodies = all.bodies;
        registers = few_registers p accepted addresses program syntax parameters value ticks code.made.ticks;
        few = few_ops p accepted addresses program syntax parameters ticks code.made named (code.small program ticks);
      }

  function : HasFunction p addresses program value syntax
  function =
      let dear = specifications_dear p accepted addresses program syntax ticks code.made.ticks in record {
        small = code.small program ticks;
        least = dear.0;
        most = dear.1;
        fits = λ m free. subst (λ ops. FitsServices (record { parameters = parameters; ops = with_return ops }) size m) same
            (fits m free);
        keys = subst (λ ops. SetsKeys syntax (after ops)) same
            (preludes_set p accepted addresses syntax parameters value code.made.ticks);
      }

pub has_function : CodeHasFunctions
has_function p accepted addresses program syntax ticks code = function p accepted addresses program ticks syntax code

pub rows_code : KnownRowsAreCode
rows_code p accepted shared value syntax number known of =
    by value (specification_at number shared) refl of
  where
    by : (v : Bool) (o : Option Specification) → specification_at number shared ≡ o → IsTickOf v syntax o
        → IsCode p accepted syntax × (leaves (ticks_of p) syntax ≡ v)
    by v o at of = by_row v o at of (value_of p accepted shared known v o syntax number at of).0
      where
        by_row : (v : Bool) (o : Option Specification) → specification_at number shared ≡ o → IsTickOf v syntax o
            → leaves (ticks_of p) syntax ≡ v → IsCode p accepted syntax × (leaves (ticks_of p) syntax ≡ v)
        by_row true (Some (Expression x)) at of is =
            (subst (IsCode p accepted) of (row_code p accepted shared known number true x at), is)
        by_row false (Some (Statement x)) at of is =
            (subst (IsCode p accepted) of (row_code p accepted shared known number false x at), is)
        by_row true None at of is = absurd of
        by_row true (Some Local) at of is = absurd of
        by_row true (Some (Param index)) at of is = absurd of
        by_row true (Some (Statement x)) at of is = absurd of
        by_row false None at of is = absurd of
        by_row false (Some Local) at of is = absurd of
        by_row false (Some (Param index)) at of is = absurd of
        by_row false (Some (Expression x)) at of is = absurd of

-- the pieces of a tick that is there
pieces_there : (p : node.Program) (addresses : Addresses) (n : ℕ) (t : node.TickBody) → slice_get p.ticks n ≡ Some t
    → program_pieces addresses p n ≡ tick_pieces addresses (tick_of_body t)
pieces_there p addresses n t at =
    ap (pieces_at addresses) (slice_get-map tick_of_body p.ticks n ∙ ap (option_map tick_of_body) at)

pub code_whole : CodeIsWhole
code_whole p accepted addresses syntax good words code =
    syntax_whole p accepted addresses (program_pieces addresses p) good (pieces_there p addresses) words syntax
    code.made.ticks
