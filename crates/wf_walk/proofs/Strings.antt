-- A string names nothing, and captures nothing.
use Rattle.std.proofs.Common.{◌≡◌, ℕ, true, false, List, refl, subst, ap, Option, Ok}
use Rattle.tick_tree.specs.declared.syntax.Core.TheOpen.{Expr-F}
use Rattle.check_operands.specs.declared.operand.Operand.{Operand}
use Rattle.check_rules.specs.declared.state.Stage.{Stage}
use Rattle.check_rules.specs.declared.state.Stage.TheVariants as stage
use Rattle.check_rules.specs.declared.state.State.{State}
use Rattle.check_rules.specs.Productions.{string_node}
use Rattle.check_rules.specs.ExpressionRules.{Node, Named, Shape, Item, walk_rule}
use Rattle.wf_walk.specs.Good.{PlainStage, Plain}
use Rattle.wf_walk.specs.Parts.{GoodParts, IsString}
use Rattle.wf_walk.proofs.Fronts.{starts_refl}
use Rattle.wf_walk.proofs.Walks.{ok_same}
use Rattle.wf_walk.proofs.Plain.{plain_stage_refl}

string_stage : (g : Stage) (bytes : List ℕ) (s : State) → PlainStage g s (string_node bytes s).1
string_stage stage.Function bytes s = refl
string_stage stage.Tick bytes s = (record { inner = refl; ticks = refl }, (plain_stage_refl stage.Tick s).1)
string_stage stage.Dollar bytes s = (record { inner = refl; ticks = refl }, refl)

string_node_plain : (g : Stage) (bytes : List ℕ) (s : State) → Plain g s (string_node bytes s).1
string_node_plain g bytes s = record {
  tables = record {
    scopes = refl;
    result = refl;
    homes = refl;
    nodes = refl;
    object = refl;
    labels = refl;
    functions =
        refl;
    image = record { end = refl; globals = refl; at = refl };
  };
  captures = starts_refl s.ticks.captures;
  at = string_stage g bytes s;
}

no_string : (A : Type 0) → true ≡ false → A
no_string A h = absurd (never h)
  where
    never : true ≡ false → ⊥
    never e = cc

pub string_plain : {I S D N P : Type 0} (many : List ℕ) (e : Expr-F Shape Node I (Option Node) Item S D Shape N P Named)
    → GoodParts many e → IsString e → (g : Stage) (s new : State) (o : Operand) → walk_rule e g s ≡ Ok (o, new) →
    Plain g s new
string_plain many (Expr-F.String bytes) h f g s new o e =
    subst (λ z. Plain g s z) (ap (λ r. r.1) (ok_same (string_node bytes s) (o, new) e)) (string_node_plain g bytes s)
string_plain many (Expr-F.Expr::Paren a) h f g s new o e = h.string f g s new o e
string_plain many (Expr-F.Number n unsigned) h f g s new o e = no_string _ f
string_plain many (Expr-F.Character n) h f g s new o e = no_string _ f
string_plain many (Expr-F.Unary line op a) h f g s new o e = no_string _ f
string_plain many (Expr-F.Cast line t a) h f g s new o e = no_string _ f
string_plain many (Expr-F.Sizeof line t) h f g s new o e = no_string _ f
string_plain many (Expr-F.Binary line op ab) h f g s new o e = no_string _ f
string_plain many (Expr-F.Expr::Name line name) h f g s new o e = no_string _ f
string_plain many (Expr-F.Compile line a t) h f g s new o e = no_string _ f
string_plain many (Expr-F.Expr::Local line t) h f g s new o e = no_string _ f
string_plain many (Expr-F.Param line t a) h f g s new o e = no_string _ f
string_plain many (Expr-F.Index line ab) h f g s new o e = no_string _ f
string_plain many (Expr-F.Call line c list) h f g s new o e = no_string _ f
string_plain many (Expr-F.Step line op a) h f g s new o e = no_string _ f
string_plain many (Expr-F.Tick line a) h f g s new o e = no_string _ f
string_plain many (Expr-F.TickBlock line items) h f g s new o e = no_string _ f
string_plain many (Expr-F.Choice line c a b) h f g s new o e = no_string _ f
string_plain many (Expr-F.Assign line ab) h f g s new o e = no_string _ f
string_plain many (Expr-F.Modify line op ab) h f g s new o e = no_string _ f
string_plain many (Expr-F.Comma line ab) h f g s new o e = no_string _ f
