-- The type of a variable of a block names nothing, and is one that a variable may have.
use Rattle.std.proofs.Common.{◌≡◌, ℕ, refl, List, Ok}
use Rattle.c_types.specs.declared.ctype.Base.{Base}
use Rattle.c_types.specs.declared.ctype.CType.{CType}
use Rattle.check_declarators.specs.declared.steps.Role.TheVariants as role
use Rattle.check_declarators.specs.declared.steps.Step.{Step}
use Rattle.check_declarators.specs.Making.{declared_type}
use Rattle.std.specs.Prelude.{Bool, true, false}
use Rattle.check_rules.specs.declared.state.Stage.{Stage}
use Rattle.check_rules.specs.declared.state.Stage.TheVariants as stage
use Rattle.check_rules.specs.Walks.{◌>>=◌, lift}
use Rattle.check_rules.specs.ExpressionRules.{Shape}
use Rattle.check_rules.specs.Declarations.{declared_in, tick_breaks}
use Rattle.wf_nodes.proofs.Declared.{types_use}
use Rattle.wf_walk.specs.Known.{IsObject}
use Rattle.wf_walk.specs.Good.{GoodShape, any_computed, any_counted}
use Rattle.wf_walk.proofs.Walks.{ran, lifted}
use Rattle.wf_walk.proofs.Plain.{plain_more, plain_same}
use Rattle.wf_walk.proofs.Lengths.{local_not_computed, lowered_ok}
use Rattle.wf_walk.proofs.Sized.{declared_words}
use Rattle.wf_walk.specs.StatementParts.{GoodType}

-- in a tick it is the type as well
declared_local : (g : Stage) (line : ℕ) (b : Base) (ss : List Step) (x : CType) → declared_in g line b ss ≡ Ok x →
    declared_type role.Local line b ss ≡ Ok x
unfolding declared_in
declared_local stage.Function line b ss x h = h
declared_local stage.Tick line b ss x h = lowered_ok line (tick_breaks ss) (declared_type role.Local line b ss) x h
declared_local stage.Dollar line b ss x h = h

object_type : (line : ℕ) (b : Base) (ss : List Step) (x : CType) → declared_type role.Local line b ss ≡ Ok x →
    IsObject x
object_type line b ss x h =
    record {
      type = types_use.declared role.Local line b ss x refl h;
      specified =
          λ v. types_use.vspec role.Local line b ss x h v;
    }

pub type_good : (g : Stage) (line : ℕ) (b : Base) (d : Shape) (bare : Bool) (f : List Step → List Step) → GoodShape d →
    ((ss : List Step) → any_computed (f ss) ≡ false → any_computed ss ≡ false)
    → (bare ≡ true → (ss : List Step) → any_counted ss ≡ false → any_counted (f ss) ≡ false)
    → GoodType g bare (d.walk g >>= (λ ss. lift (declared_in g line b (f ss))))
type_good g line b d bare f h k m s new t e =
    let r = ran (d.walk g) (λ ss. lift (declared_in g line b (f ss))) s t new e in
    let l = lifted (declared_in g line b (f r.value)) r.state t new r.next in
    let good = h g s r.state r.value r.first (k r.value (local_not_computed g line b (f r.value) t l.value)) in
    let type = declared_local g line b (f r.value) t l.value in
    record {
      plain = plain_more good.0 (plain_same g l.state);
      object = object_type line b (f r.value) t type;
      words = declared_words line b (f r.value) t bare type (λ i. m i r.value good.1);
    }
