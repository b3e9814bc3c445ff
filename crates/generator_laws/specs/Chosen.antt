-- Which choices a run meets: where it is defined, each function that is finished in it takes a legal one. A run that
-- calls services is so defined at the finish that it comes to. The rule on choices is this project's own.
use Rattle.std.specs.Prelude.{ℕ, List, ◌∷◌, ◌++◌}
use Rattle.mips_model.specs.Run.{IsLegalFor, IsFine}
use Rattle.mips_model.specs.Services.{next_choice}
use Rattle.mips_model.specs.State.{State}
use Rattle.mips_model.specs.Steps.{going}
use Rattle.generator_laws.specs.Calls.{Call, Finish, RunsWith}
use Rattle.generator_laws.specs.Served.{AreObeyed, outside_after}

-- the choice that a finish takes is legal for the builder that it finds
abbrev pub ChoicesAreMet : Type 0
ChoicesAreMet =
    (first rest : List Call) (address most frame : ℕ) (words : List ℕ) (count : ℕ) (s after : State)
    → RunsWith (first ++ (Finish address most frame words ∷ rest)) count s after
    → AreObeyed (first ++ (Finish address most frame words ∷ rest)) s.d.outside → IsFine count (going s)
    → let o = outside_after first s.d.outside in
    IsLegalFor o.making.generator.build address most frame (next_choice o.making.row)
