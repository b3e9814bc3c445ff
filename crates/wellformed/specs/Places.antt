-- Where the nodes of a typed tree stand: variables in the scope of their block, `break` and `continue` in what they
-- leave, the labels of a switch right in its block, what a tick captured in that tick, and what makes specifications in
-- functions alone. These are `C's rules, as far as they concern nodes.
use Rattle.std.specs.Prelude.{ℕ, ◌+◌, ◌-◌, ◌*◌, ◌%◌, ◌==◌, Bool, true, false, not, ◌&&◌, ◌||◌, nat_le, List, [], ◌∷◌}
use Rattle.std.specs.Prelude.{◌++◌, length, take, drop, slice_get, Option, Some, None}
use Rattle.std.specs.List.{list_any, list_all}
use Rattle.limits.specs.declared.program.TheConstants.{MOST_ARGUMENTS}
use Rattle.typed_tree.specs.declared.expression.Answer.{Answer}
use Rattle.typed_tree.specs.declared.expression.Answer.TheVariants as answer
use Rattle.typed_tree.specs.declared.expression.CaptureKind.{CaptureKind}
use Rattle.typed_tree.specs.declared.expression.CaptureKind.TheVariants as capture
use Rattle.typed_tree.specs.declared.expression.CapturedWord.{CapturedWord}
use Rattle.typed_tree.specs.declared.expression.CapturedWord.TheVariants as word
use Rattle.typed_tree.specs.declared.expression.Expr.{Expr}
use Rattle.typed_tree.specs.declared.expression.Expr.TheOpen.{Expr-F}
use Rattle.typed_tree.specs.declared.expression.Expr.TheFolds.{fold-Expr}
use Rattle.typed_tree.specs.declared.expression.Stmt.{Stmt}
use Rattle.typed_tree.specs.declared.program.TickBody.{TickBody}
use Rattle.typed_tree.specs.declared.program.TickBody.TheVariants as body
use Rattle.typed_tree.specs.Folds.{Parts, Rules, fold_statement}
use Rattle.typed_tree.specs.Folds as parts
use Rattle.typed_tree.specs.Sizes.{is_value}

-- ---- what is round a node

pub record Around : Type 0 where
  -- the register variables of the blocks round it, by their numbers
  pub variables : List ℕ
  -- the bytes of the frame objects of its function
  pub object : ℕ
  -- how many parameters each function of the program has
  pub functions : List ℕ
  -- what each tick of the program captures
  pub ticks : List (List CaptureKind)
  -- in a tick, what that captures
  pub captures : Option (List CaptureKind)
  -- whether a loop, or a switch, of the same function or tick is round it
  pub in_loop : Bool
  pub in_switch : Bool

abbrev pub is_function : Option (List CaptureKind) → Bool
is_function None = true
is_function (Some kinds) = false

abbrev pub in_function : Around → Bool
in_function a = is_function a.captures

abbrev pub in_scope : ℕ → Around → Bool
in_scope i a = list_any (λ n. i == n) a.variables

-- ---- captures

abbrev pub same_answer : Answer → Answer → Bool
same_answer answer.Value b = is_value b
same_answer answer.Void b = not (is_value b)

abbrev pub is_dollar : CaptureKind → Bool
is_dollar capture.Dollar = true
is_dollar _ = false

abbrev pub is_address : CaptureKind → Bool
is_address capture.Address = true
is_address _ = false

abbrev pub is_splice : Answer → CaptureKind → Bool
is_splice r (capture.Splice s) = same_answer r s
is_splice r _ = false

abbrev pub is_variable : CaptureKind → Bool
is_variable capture.Variable = true
is_variable _ = false

abbrev pub same_kind : CaptureKind → CaptureKind → Bool
same_kind capture.Dollar k = is_dollar k
same_kind capture.Address k = is_address k
same_kind (capture.Splice r) k = is_splice r k
same_kind capture.Variable k = is_variable k

abbrev pub is_word : CapturedWord → CaptureKind → Bool
is_word word.Dollar k = is_dollar k
is_word word.Address k = is_address k

abbrev pub kind_at : (CaptureKind → Bool) → Option CaptureKind → Bool
kind_at p None = false
kind_at p (Some k) = p k

abbrev pub captured_in : (CaptureKind → Bool) → ℕ → Option (List CaptureKind) → Bool
captured_in p i None = false
captured_in p i (Some kinds) = kind_at p (slice_get kinds i)

-- the tick has a capture of this number, and of this kind
abbrev pub captured : (CaptureKind → Bool) → ℕ → Around → Bool
captured p i a = captured_in p i a.captures

abbrev pub same_kinds : List CaptureKind → List CaptureKind → Bool
same_kinds [] [] = true
same_kinds (k ∷ ks) (m ∷ ms) = same_kind k m && same_kinds ks ms
same_kinds _ _ = false

abbrev pub kinds_at : List CaptureKind → Option (List CaptureKind) → Bool
kinds_at ks None = false
kinds_at ks (Some ms) = same_kinds ks ms

-- ---- expressions

-- what is asked of an expression where it stands
pub record Part : Type 0 where
  -- it stands right there, with all its parts
  pub stands : Around → Bool
  -- it is a capture of this kind, and stands right in a tick's list
  pub capture : List CaptureKind
  pub is_capture : Around → Bool

-- a node that is no capture
abbrev pub node : (Around → Bool) → Part
node stands = record { stands = stands; capture = []; is_capture = λ a. false }

-- an expression without parts that may stand anywhere
abbrev pub anywhere : Around → Bool
anywhere a = true

abbrev pub both : Part → Part → Around → Bool
both p q a = p.stands a && q.stands a

abbrev pub each_stands : List Part → Around → Bool
each_stands ps a = list_all (λ p. p.stands a) ps

abbrev pub kinds_of : List Part → List CaptureKind
kinds_of [] = []
kinds_of (p ∷ ps) = p.capture ++ kinds_of ps

-- no call has more arguments
abbrev pub are_few : ℕ → Bool
are_few n = nat_le n MOST_ARGUMENTS

abbrev pub takes : ℕ → Option ℕ → Bool
takes n None = false
takes n (Some count) = n == count

-- a call of a function of the program, by its number from 1 on, with as many arguments as it has parameters
abbrev pub is_called : ℕ → ℕ → Around → Bool
is_called f n a = nat_le 1 f && takes n (slice_get a.functions (f - 1)) && are_few n

-- a tick with its captures, which stands in a function
abbrev pub is_tick : ℕ → List Part → Around → Bool
is_tick t ps a = in_function a && list_all (λ p. p.is_capture a) ps && kinds_at (kinds_of ps) (slice_get a.ticks t)

-- the place of a frame object
abbrev pub is_frame : ℕ → Around → Bool
is_frame off a = in_function a && nat_le off a.object && off % 4 == 0

abbrev pub expr_rule : Expr-F Part → Part
expr_rule (Expr-F.Const w) = node anywhere
expr_rule (Expr-F.Captured w i) = node (captured (is_word w) i)
expr_rule (Expr-F.Var i) = node (in_scope i)
expr_rule (Expr-F.SetVar i p) = node (λ a. in_scope i a && p.stands a)
expr_rule (Expr-F.PostVar i w step) = node (in_scope i)
expr_rule (Expr-F.VGet i) = node (captured is_variable i)
expr_rule (Expr-F.VSet i p) = node (λ a. captured is_variable i a && p.stands a)
expr_rule (Expr-F.VPost i step) = node (captured is_variable i)
expr_rule (Expr-F.Frame off) = node (is_frame off)
expr_rule (Expr-F.Load w p) = node p.stands
expr_rule (Expr-F.Store w p q) = node (both p q)
expr_rule (Expr-F.Modify w k p q) = node (both p q)
expr_rule (Expr-F.Post w step p) = node p.stands
expr_rule (Expr-F.Bin k p q) = node (both p q)
expr_rule (Expr-F.Un k p) = node p.stands
expr_rule (Expr-F.And p q) = node (both p q)
expr_rule (Expr-F.Or p q) = node (both p q)
expr_rule (Expr-F.Cond c p q) = node (λ a. c.stands a && both p q a)
expr_rule (Expr-F.Comma p q) = node (both p q)
expr_rule (Expr-F.Void p) = node p.stands
expr_rule (Expr-F.Call r f ps) = node (λ a. is_called f (length ps) a && each_stands ps a)
expr_rule (Expr-F.CallNumber r p ps) = node (λ a. p.stands a && are_few (length ps) && each_stands ps a)
expr_rule Expr-F.Getchar = node anywhere
expr_rule (Expr-F.Lib f p) = node p.stands
expr_rule (Expr-F.Tick t ps) = node (is_tick t ps)
expr_rule (Expr-F.Capture k p) = record { stands = λ a. false; capture = k ∷ []; is_capture = p.stands }
expr_rule (Expr-F.Splice r i) = node (captured (is_splice r) i)
expr_rule (Expr-F.Compile p) = node (λ a. in_function a && p.stands a)
expr_rule Expr-F.Local = node in_function
expr_rule (Expr-F.ParamOf p) = node (λ a. in_function a && p.stands a)

unfoldable pub part : Expr → Part
part = fold-Expr Part expr_rule

-- ---- statements

-- what is asked of a statement where it stands
pub record Act : Type 0 where
  -- it stands right as a statement, with all its parts
  pub stands : Around → Bool
  -- it is the node of a variable of a block, and stands right among them
  pub declares : Around → Bool
  -- the register variable that it declares
  pub number : List ℕ
  -- it is the node of the parameter of this number, and stands right at the head of its function
  pub is_parameter : ℕ → Around → Bool
  -- it is a label of a switch: its value, or that it is the default
  pub values : List ℕ
  pub defaults : ℕ
  -- it is a block, and stands right as the body of a function with so many parameters
  pub is_body : ℕ → Around → Bool

abbrev pub never : Around → Bool
never a = false

-- a statement that declares nothing and is no label
abbrev pub plain : (Around → Bool) → Act
plain stands = record {
  stands = stands;
  declares = never;
  number = [];
  is_parameter = λ k. never;
  values = [];
  defaults = 0;
  is_body = λ n. never;
}

abbrev pub numbers_of : List Act → List ℕ
numbers_of [] = []
numbers_of (s ∷ ss) = s.number ++ numbers_of ss

abbrev pub values_of : List Act → List ℕ
values_of [] = []
values_of (s ∷ ss) = s.values ++ values_of ss

abbrev pub defaults_of : List Act → ℕ
defaults_of [] = 0
defaults_of (s ∷ ss) = s.defaults + defaults_of ss

abbrev pub all_different : List ℕ → Bool
all_different [] = true
all_different (n ∷ ns) = not (list_any (λ m. n == m) ns) && all_different ns

-- in a block of these variables
abbrev pub within : List Act → Around → Around
within vs a = record a { variables = a.variables ++ numbers_of vs }

abbrev pub looped : Around → Around
looped a = record a { in_loop = true }

abbrev pub switched : Around → Around
switched a = record a { in_switch = true }

abbrev pub all_stand : List Act → Around → Bool
all_stand ss a = list_all (λ s. s.stands a) ss

abbrev pub all_declare : List Act → Around → Bool
all_declare vs a = list_all (λ v. v.declares a) vs

-- an item of the block of a switch: a statement or a label
abbrev pub is_label : Act → Bool
is_label s = not (nat_le (length s.values + s.defaults) 0)

abbrev pub all_items : List Act → Around → Bool
all_items ss a = list_all (λ s. is_label s || s.stands a) ss

abbrev pub are_parameters : ℕ → List Act → Around → Bool
are_parameters k [] a = true
are_parameters k (v ∷ vs) a = v.is_parameter k a && are_parameters (k + 1) vs a

-- the body of a function of so many parameters, which stand first
abbrev pub is_body : List Act → List Act → ℕ → Around → Bool
is_body vs ss n a =
    nat_le n (length vs) && are_parameters 0 (take n vs) a && all_declare (drop n vs) a && all_stand ss (within vs a)

-- a frame object at this place, of so many words, of which there is one at least
abbrev pub is_object : ℕ → ℕ → Around → Bool
is_object off words a =
    nat_le 1 words && in_function a && nat_le (off + 4 * words) a.object && off % 4 == 0

abbrev pub declaration : (Around → Bool) → List ℕ → Act
declaration declares ns = record (plain never) { declares = declares; number = ns }

abbrev pub parameter : (ℕ → Around → Bool) → List ℕ → Act
parameter rule ns = record (plain never) { is_parameter = rule; number = ns }

abbrev pub stmt_rule : Parts Part Act → Act
stmt_rule (parts.Eval e) = plain e.stands
stmt_rule (parts.Block vs ss) =
    record (plain (λ a. all_declare vs a && all_stand ss (within vs a))) { is_body = is_body vs ss }
stmt_rule (parts.Variable i) = declaration (λ a. true) (i ∷ [])
stmt_rule (parts.Object off words) = declaration (is_object off words) []
stmt_rule (parts.Parameter k w) = parameter (λ n a. n == k && in_function a) (k ∷ [])
stmt_rule (parts.ParameterObject k w off) = parameter (λ n a. n == k && is_object off 1 a) []
stmt_rule (parts.If c s) = plain (λ a. c.stands a && s.stands a)
stmt_rule (parts.IfElse c s t) = plain (λ a. c.stands a && s.stands a && t.stands a)
stmt_rule (parts.While c s) = plain (λ a. c.stands a && s.stands (looped a))
stmt_rule (parts.Do s c) = plain (λ a. s.stands (looped a) && c.stands a)
stmt_rule (parts.For c s) = plain (λ a. c.stands a && s.stands (looped a))
stmt_rule (parts.ForStep c step s) = plain (λ a. c.stands a && step.stands a && s.stands (looped a))
stmt_rule (parts.Switch e vs ss) =
    plain (λ a. e.stands a && all_declare vs a && all_items ss (switched (within vs a)) && all_different (values_of ss)
    && nat_le (defaults_of ss) 1)
stmt_rule (parts.Case c) = record (plain never) { values = c ∷ [] }
stmt_rule parts.Default = record (plain never) { defaults = 1 }
stmt_rule parts.Break = plain (λ a. a.in_loop || a.in_switch)
stmt_rule parts.Continue = plain (λ a. a.in_loop)
stmt_rule parts.Return = plain (λ a. true)
stmt_rule (parts.ReturnValue e) = plain e.stands

abbrev pub rules : Rules Part Act
rules = record { expr = expr_rule; stmt = stmt_rule }

unfoldable pub act : Stmt → Act
act = fold_statement rules

-- ---- bodies

-- the body of a function of so many parameters
abbrev pub stands_as_body : Stmt → ℕ → Around → Bool
stands_as_body s n a = (act s).is_body n a

-- what stands behind a backquote: an expression or a block
abbrev pub stands_as_tick : TickBody → Around → Bool
stands_as_tick (body.Expression e) a = (part e).stands a
stands_as_tick (body.Statement s) a = (act s).stands a
