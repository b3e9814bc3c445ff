-- A law of an op that ends the run, used on code of which only some words can be executed: the run ends so on the code
-- itself, tells nothing, and flushes no unwritten word.
use Rattle.std.proofs.Common.{◌≡◌, ℕ, Bool, Option, [], ap, ◌∙◌}
use Rattle.std.specs.Fn.{iterate}
use Rattle.history.specs.Events.{End}
use Rattle.mips_model.specs.State.{Outside, Code, Data, State, World}
use Rattle.mips_model.specs.Steps.{step, going, ended}
use Rattle.mips_model.specs.Laws.{at}
use Rattle.mips_model.specs.Told.{told}
use Rattle.mips_model_laws.specs.Laws.{only, with_code}
use Rattle.mips_model_laws.specs.Clean.{IsUnspoiled}
use Rattle.mips_model_laws.proofs.Below.{IsNoFault}
use Rattle.mips_model_laws.proofs.Entrances.{AreNoEntries}
use Rattle.mips_model_laws.proofs.Ended.{ends_quietly}
use Rattle.icode_templates_proof.specs.Moves.{EndsIn}

pub record EndsTold (least most : ℕ) (end : End) (s : State) (c : Code) (outside : Outside) : Type 0 where
  pub ends : EndsIn least most end s c outside
  pub told_none : told ends.count (going s) ≡ []
  pub unspoiled : IsUnspoiled ends.count (going s)

pub ends_told : (can : ℕ → Bool) (least most : ℕ) (e : End) (c : Code) (a loaded : ℕ) (d : Data) → IsNoFault e
    → EndsIn least most e (at (only can c) a loaded d) (only can c) d.outside → AreNoEntries can d.table
    → EndsTold least most e (at c a loaded d) c d.outside
ends_told can least most e c a loaded d fair x none =
    let s = at c a loaded d in
    let w = iterate step x.count (going (at (only can c) a loaded d)) in
    let whole : w ≡ ended e (with_code (only can c) w.state) =
    ap (λ (o : Option End). let v : World = record { state = w.state; ending = o } in v) x.ending
    ∙ ap (λ (k : Code). ended e (with_code k w.state)) x.code_is in
    let q = ends_quietly can x.count s w.state e fair whole x.outside_is none in
    record {
      ends = record {
        count = x.count;
        over = x.over;
        under = x.under;
        ending = ap (λ (v : World). v.ending) q.ends;
        outside_is = ap (λ (v : World). v.state.d.outside) q.ends ∙ x.outside_is;
        code_is = ap (λ (v : World). v.state.code) q.ends;
      };
      told_none = q.told_none;
      unspoiled = q.unspoiled;
    }
