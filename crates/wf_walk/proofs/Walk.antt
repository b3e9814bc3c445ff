-- The walk over an expression, of good parts.
use Rattle.std.proofs.Common.{ℕ, List, refl, sym, subst, Option, Ok}
use Rattle.tick_tree.specs.declared.syntax.Core.TheOpen.{Expr-F}
use Rattle.check_operands.specs.Operands as nodes
use Rattle.check_rules.specs.declared.state.Stage.{Stage}
use Rattle.check_rules.specs.declared.state.Stage.TheVariants as stage
use Rattle.check_rules.specs.declared.state.State.{State}
use Rattle.check_rules.specs.Images as images
use Rattle.check_rules.specs.Productions as productions
use Rattle.check_rules.specs.ExpressionRules.{Node, Named, Shape, Item, walk_rule}
use Rattle.wf_walk.specs.Steps.{at, EachCapture, Does}
use Rattle.wf_walk.specs.Good.{Good, PlainStage, Plain}
use Rattle.wf_walk.specs.Parts.{GoodParts}
use Rattle.wf_walk.proofs.Fronts.{no_rest, starts_refl}
use Rattle.wf_walk.proofs.Plain.{plain_did_by}
use Rattle.wf_walk.proofs.NodeRules.{good_number, good_character}
use Rattle.wf_walk.proofs.Bodies.{expression_does, block_does}
use Rattle.wf_walk.proofs.Calls.{call_does}
use Rattle.wf_walk.proofs.Captures.{given}
use Rattle.wf_walk.proofs.Meant.{name_goes}
use Rattle.wf_walk.proofs.ExpressionNodes.{good_string, good_binary, good_index, good_assign, good_modify}
use Rattle.wf_walk.proofs.ExpressionRules.{Right, two, comma_goes, choice_goes, post_goes, size_goes, cast_goes}
use Rattle.wf_walk.proofs.ExpressionRules.{unary_goes, compile_goes, local_goes, parameter_goes}
use Rattle.wf_walk.proofs.Steps.{answers}

-- ---- strings

string_stage : (g : Stage) (bytes : List ℕ) (s : State) → PlainStage g s (productions.string_node bytes s).1
string_stage stage.Function bytes s = refl
string_stage stage.Tick bytes s =
    (record { inner = refl; ticks = refl }, λ more a. subst (λ es. EachCapture a es) (sym (no_rest refl more)) tt)
string_stage stage.Dollar bytes s = (record { inner = refl; ticks = refl }, refl)

string_plain : (g : Stage) (bytes : List ℕ) (s : State) → Plain g s (productions.string_node bytes s).1
string_plain g bytes s = record {
  tables = record {
    scopes = refl;
    result = refl;
    homes = refl;
    nodes = refl;
    object = refl;
    labels = refl;
    functions =
        refl;
    image = record { end = refl; globals = refl; at = refl };
  };
  captures = starts_refl s.ticks.captures;
  at = string_stage g bytes s;
}

string_does : (many : List ℕ) (bytes : List ℕ) (g : Stage) →
    Does many g (Right g) (λ s. Ok (productions.string_node bytes s))
string_does many bytes g b ks s new x known e =
    given (productions.string_node bytes s)
    (plain_did_by (λ r. Good (at g r) (nodes.string (images.string_place s.image))) (string_plain g bytes s) known
    (λ r a. good_string (at g r) (images.string_place s.image))) e

-- ---- each node

pub walk_does : {I S D N P : Type 0} (many : List ℕ) (x : Expr-F Shape Node I (Option Node) Item S D Shape N P Named) →
    GoodParts many x → (g : Stage) → Does many g (λ r o. Good (at g r) o) (walk_rule x g)
walk_does many (Expr-F.Expr::Name line name) h g = (name_goes many line g name).does
walk_does many (Expr-F.Number n unsigned) h g =
    (answers (Right g) (nodes.number n unsigned) (λ r. good_number (at g r) n unsigned)).does
walk_does many (Expr-F.Character n) h g = (answers (Right g) (nodes.character n) (λ r. good_character (at g r) n)).does
walk_does many (Expr-F.String bytes) h g = string_does many bytes g
walk_does many (Expr-F.Expr::Paren a) h g = h.does g
walk_does many (Expr-F.Compile line a t) h g = (compile_goes line a t g h.0 h.1).does
walk_does many (Expr-F.Expr::Local line t) h g = (local_goes line t g h).does
walk_does many (Expr-F.Param line t a) h g = (parameter_goes line t a g h.0 h.1).does
walk_does many (Expr-F.Index line ab) h g =
    (two ab.0 ab.1 g (productions.index_node line g) h.0 h.1 (λ r x y p q. good_index (at g r) line g x y p q)).does
walk_does many (Expr-F.Call line f list) h g = call_does many line f list g h.0 h.1
walk_does many (Expr-F.Step line op a) h g = (post_goes line op a g h).does
walk_does many (Expr-F.Unary line op a) h g = (unary_goes line op a g h).does
walk_does many (Expr-F.Tick line a) h g = expression_does many line a g h.0 h.1
walk_does many (Expr-F.TickBlock line items) h g = block_does many line items g h.0 h.1
walk_does many (Expr-F.Cast line t a) h g = (cast_goes line t a g h.0 h.1).does
walk_does many (Expr-F.Sizeof line t) h g = (size_goes line t g h).does
walk_does many (Expr-F.Binary line op ab) h g =
    (two ab.0 ab.1 g (productions.binary_node line op) h.0 h.1 (λ r x y p q. good_binary (at g r) line op x y p q)).does
walk_does many (Expr-F.Choice line c a b) h g = (choice_goes line c a b g h.0 h.1 h.2).does
walk_does many (Expr-F.Assign line ab) h g =
    (two ab.0 ab.1 g (productions.assign_node line) h.0 h.1 (λ r x y p q. good_assign (at g r) line x y p q)).does
walk_does many (Expr-F.Modify line op ab) h g =
    (two ab.0 ab.1 g (productions.modify_node line op) h.0 h.1 (λ r x y p q. good_modify (at g r) line op x y p q)).does
walk_does many (Expr-F.Comma line ab) h g = (comma_goes ab.0 ab.1 g h.0 h.1).does
