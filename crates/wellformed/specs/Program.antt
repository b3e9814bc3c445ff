-- What is known of the typed tree of an accepted text, said of its view: the tree that has a meaning. Its nodes stand
-- right, its frame objects are those of its functions, and it is not too large. These are this project's own rules.
use Rattle.std.specs.Prelude.{◌≡◌, ℕ, ◌+◌, ◌≤◌, ◌<◌, Bool, IsTrue, false, nat_lt, List, [], length, map, sum, codes}
use Rattle.std.specs.Prelude.{slice_get, Some, None}
use Rattle.typed_tree.specs.declared.expression.CaptureKind.{CaptureKind}
use Rattle.typed_tree.specs.declared.program.Function.{Function}
use Rattle.typed_tree.specs.declared.program.Tick.{Tick}
use Rattle.typed_tree.specs.declared.program.TypedParts.{TypedParts}
use Rattle.typed_tree.specs.Nodes as node
use Rattle.typed_tree.specs.Nodes.{Expression, Statement, fold_expr, fold_stmt}
use Rattle.typed_tree.specs.Measures.{size_of_stmt, size_of_body}
use Rattle.typed_tree.specs.View.{function_view, body_view, program_view}
use Rattle.wellformed.specs.Accepted.{charge}
use Rattle.wellformed.specs.Captured as captured
use Rattle.wellformed.specs.Counts.{one_if, object_rules, declaration_rules}
use Rattle.wellformed.specs.Places as places
use Rattle.wellformed.specs.Places.{Around}
use Rattle.wellformed.specs.Values as values
use Rattle.limits.specs.declared.program.TheConstants.{CHARGE_LIMIT, FRAME_OBJECT_BYTES, FRONT_WORDS, MOST_ARGUMENTS}
use Rattle.limits.specs.declared.program.TheConstants.{SIZE_LIMIT}
use Rattle.word32.specs.declared.map.TheConstants.{GLOBAL_BYTES}

-- the body of a function of so many parameters stands right
abbrev pub stands_as_body : node.Stmt → ℕ → Around → Bool
stands_as_body s n a = (fold_stmt places.rules s).is_body n a

-- and so does what stands behind a backquote
abbrev pub stands_as_tick : node.TickBody → Around → Bool
stands_as_tick (Expression e) a = (fold_expr places.expr_rule e).stands a
stands_as_tick (Statement s) a = (fold_stmt places.rules s).stands a

-- each value that is used is left
abbrev pub uses_values : node.Stmt → Bool
uses_values = fold_stmt values.rules

abbrev pub body_uses_values : node.TickBody → Bool
body_uses_values (Expression e) = (fold_expr values.expr_rule e).right
body_uses_values (Statement s) = uses_values s

-- the kinds of the captures that its nodes name, behind others
abbrev pub named_in : node.TickBody → captured.Naming
named_in (Expression e) = fold_expr captured.expr_rule e
named_in (Statement s) = fold_stmt captured.rules s

-- how many frame objects a byte belongs to, and how many declarations a register variable has
abbrev pub objects_at : ℕ → node.Stmt → ℕ
objects_at byte = fold_stmt (object_rules byte)

abbrev pub declarations_of : ℕ → node.Stmt → ℕ
declarations_of i = fold_stmt (declaration_rules i)

-- each register variable is declared once, and its number is less than the size
pub record AreNumbered (s : node.Stmt) : Type 0 where
  pub once : (i : ℕ) → declarations_of i s ≤ 1
  pub dense : (i : ℕ) → 0 < declarations_of i s → i < size_of_stmt s

abbrev pub IsNumbered : node.TickBody → Type 0
IsNumbered (Expression e) = Unit {0}
IsNumbered (Statement s) = AreNumbered s

-- how many parameters each function has
abbrev pub parameters_of : List node.Function → List ℕ
parameters_of fs = map (λ f. f.parameters) fs

-- what is round the body of a function, and round that of a tick
abbrev pub round_function : node.Program → List (List CaptureKind) → node.Function → Around
round_function p ticks f =
    record {
      variables = [];
      object = f.object;
      functions = parameters_of p.functions;
      ticks = ticks;
      captures = None;
      in_loop = false;
      in_switch = false;
    }

abbrev pub round_tick : node.Program → List (List CaptureKind) → List CaptureKind → Around
round_tick p ticks kinds =
    record {
      variables = [];
      object = 0;
      functions = parameters_of p.functions;
      ticks = ticks;
      captures = Some kinds;
      in_loop = false;
      in_switch = false;
    }

-- a function of the program, where its ticks capture this
pub record IsFunction (p : node.Program) (ticks : List (List CaptureKind)) (f : node.Function) : Type 0 where
  pub stands : IsTrue (stands_as_body f.body f.parameters (round_function p ticks f))
  pub values : IsTrue (uses_values f.body)
  -- each byte belongs to one frame object
  pub objects : (byte : ℕ) → objects_at byte f.body ≡ one_if (nat_lt byte f.object)
  pub numbers : AreNumbered f.body
  pub few : f.parameters ≤ MOST_ARGUMENTS
  pub small : size_of_stmt f.body ≤ SIZE_LIMIT
  pub short : f.object ≤ FRAME_OBJECT_BYTES

-- a tick of the program that captures this
pub record IsTick (p : node.Program) (ticks : List (List CaptureKind)) (t : node.TickBody) (kinds : List CaptureKind) :
    Type 0 where
  pub stands : IsTrue (stands_as_tick t (round_tick p ticks kinds))
  pub values : IsTrue (body_uses_values t)
  -- its nodes name its captures, the first time in their order
  pub captures : named_in t (Some []) ≡ Some kinds
  pub numbers : IsNumbered t
  pub small : size_of_body t ≤ SIZE_LIMIT

-- the words that are charged for a program
abbrev pub words : node.Program → ℕ
words p = FRONT_WORDS + sum (map (λ f. charge (size_of_stmt f.body)) p.functions) + sum
    (map (λ t. charge (size_of_body t)) p.ticks)

-- a program as the meaning has it
pub record IsProgram (p : node.Program) : Type 0 where
  -- what its ticks capture
  pub captures : List (List CaptureKind)
  pub each : length captures ≡ length p.ticks
  pub functions : (n : ℕ) (f : node.Function) → slice_get p.functions n ≡ Some f → IsFunction p captures f
  pub ticks : (n : ℕ) (t : node.TickBody) (kinds : List CaptureKind) → slice_get p.ticks n ≡ Some t →
      slice_get captures n ≡ Some kinds → IsTick p captures t kinds
  -- no limit is met
  pub image : length p.image ≤ GLOBAL_BYTES
  pub small : words p ≤ CHARGE_LIMIT

-- the typed tree of an accepted text
pub record IsWellFormed (p : TypedParts) : Type 0 where
  pub program : IsProgram (program_view p)
  -- the sizes that the tree keeps are counts of nodes
  pub function_sizes : (n : ℕ) (f : Function) → slice_get p.functions n ≡ Some f →
      f.size ≡ size_of_stmt (function_view f).body
  pub tick_sizes : (n : ℕ) (t : Tick) → slice_get p.ticks n ≡ Some t → t.size ≡ size_of_body (body_view t.body)
  -- `main` is one of the functions, and none of that name has parameters
  pub main : ℕ
  pub main_function : Function
  pub is_main : slice_get p.functions main ≡ Some main_function
  pub name : main_function.name ≡ codes "main"
  pub no_parameters : (n : ℕ) (f : Function) → slice_get p.functions n ≡ Some f → f.name ≡ codes "main" →
      f.params ≡ 0
