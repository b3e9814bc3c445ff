-- What `mean` does, from what its parts do.
use Rattle.std.proofs.Common.{◌≡◌, ℕ, List, Option, Ok, inl, inr, sym, ap, ◌∙◌, subst}
use Rattle.std.specs.Option.{option_map}
use Rattle.std.specs.Io.KnownBytes.{Appends}
use Rattle.host_edge.specs.Moves.{TakesFront}
use Rattle.host_edge.specs.declared.ending.Ending.{Ending}
use Rattle.history.specs.Events.{output}
use Rattle.history.specs.Events as event
use Rattle.staged_meaning.specs.Meaning.{Program, meant}
use Rattle.wellformed.specs.declared.typed.Typed.{Typed}
use Rattle.source_commands.specs.Texts.{typed_tree, Means}
use Rattle.tick_outcome.specs.declared.outcome.Outcome.{Outcome}
use Rattle.tick_outcome.specs.declared.outcome.Outcome.TheVariants as outcome
use Rattle.tick_outcome.specs.declared.ended.Ended as code
use Rattle.image_commands.specs.Answers.{IsBare}
use Rattle.source_commands.specs.Does.{WithProgram, Evaluates}
use Rattle.image_commands.specs.Seen.{told, outcome_at}

-- an accepted text, and what is done with its program
pub with_tree : (answers : Outcome → Type 0) (next : Program → Type 0) (text : List ℕ) (tree : Typed)
    → typed_tree text ≡ Ok tree → (program : Program) × Means tree program
    → ((program : Program) → Means tree program → next program) → WithProgram answers next text
with_tree answers next text tree is (program, means) then = rw is (program, means, then program means)

-- an evaluation whose output was written, or a front part of it
module _ (units : ℕ) (program : Program) (input : List ℕ) (end : Option Ending) (bytes : List ℕ)
    (taken now : Option (List ℕ)) (e : code.Ended)
    (ends : option_map event.Ended end ≡ (meant program (told input) units).ending)
    (puts : bytes ≡ output (meant program (told input) units).history) where
  pub evaluates : (o : Outcome) → o ≡ outcome_at units (option_map event.Ended end) → IsBare e o
      → Appends taken now bytes → Evaluates units program taken now e input
  evaluates o at bare appends = record {
    ending = end;
    ends = sym ends;
    answers =
        inl (
          subst (IsBare e) (at ∙ ap (outcome_at units) ends) bare,
          subst (Appends taken now) puts appends,
        );
  }

  pub stops_short : IsBare e outcome.WriteFault → TakesFront taken now bytes
      → Evaluates units program taken now e input
  stops_short bare front = record {
    ending = end;
    ends = sym ends;
    answers = inr (bare, subst (TakesFront taken now) puts front);
  }
