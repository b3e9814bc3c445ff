-- The captures of a tick, as the nodes of its body name them. The nodes stand in a row, each before its parts and its
-- parts from left to right, which is the order of the text; a capture's number is its place among the captures, and the
-- first node that names it stands behind that of the one before. These are this project's own rules.
use Rattle.std.specs.Prelude.{ℕ, suc, nat_eq, if◌then◌else◌, List, [], ◌∷◌, ◌++◌, Option, Some, None}
use Rattle.typed_tree.specs.declared.expression.CaptureKind.{CaptureKind}
use Rattle.typed_tree.specs.declared.expression.CaptureKind.TheVariants as kind
use Rattle.typed_tree.specs.declared.expression.Expr.{Expr}
use Rattle.typed_tree.specs.declared.expression.Expr.TheOpen.{Expr-F}
use Rattle.typed_tree.specs.declared.expression.Expr.TheFolds.{fold-Expr}
use Rattle.typed_tree.specs.declared.expression.Stmt.{Stmt}
use Rattle.typed_tree.specs.declared.program.Tick.{Tick}
use Rattle.typed_tree.specs.declared.program.TickBody.{TickBody}
use Rattle.typed_tree.specs.declared.program.TickBody.TheVariants as body
use Rattle.typed_tree.specs.Folds.{Parts, Rules, fold_statement}
use Rattle.typed_tree.specs.Folds as parts
use Rattle.tick_captures.specs.Kinds.{word_kind}
use Rattle.tick_captures.specs.declared.capture.Capture.{Capture}

-- what a node names of the captures of its tick
pub data Name : Type 0 where
  Nothing : Name
  Names : CaptureKind → (capture : ℕ) → Name

-- what a node names itself
abbrev pub own : {E : Type 0} → Expr-F E → Name
own (Expr-F.Captured w i) = Names (word_kind w) i
own (Expr-F.VGet i) = Names kind.Variable i
own (Expr-F.VSet i a) = Names kind.Variable i
own (Expr-F.VPost i step) = Names kind.Variable i
own (Expr-F.Splice r i) = Names (kind.Splice r) i
own _ = Nothing

-- rows of nodes, one behind another
abbrev pub row : List (List Name) → List Name
row [] = []
row (xs ∷ xss) = xs ++ row xss

-- the nodes of the parts of an expression, from left to right
abbrev pub parts_of : Expr-F (List Name) → List Name
parts_of (Expr-F.SetVar i a) = a
parts_of (Expr-F.VSet i a) = a
parts_of (Expr-F.Load w a) = a
parts_of (Expr-F.Store w a b) = a ++ b
parts_of (Expr-F.Modify w k a b) = a ++ b
parts_of (Expr-F.Post w step a) = a
parts_of (Expr-F.Bin k a b) = a ++ b
parts_of (Expr-F.Un k a) = a
parts_of (Expr-F.And a b) = a ++ b
parts_of (Expr-F.Or a b) = a ++ b
parts_of (Expr-F.Cond c a b) = c ++ (a ++ b)
parts_of (Expr-F.Comma a b) = a ++ b
parts_of (Expr-F.Void a) = a
parts_of (Expr-F.Call r f list) = row list
parts_of (Expr-F.CallNumber r a list) = a ++ row list
parts_of (Expr-F.Lib f a) = a
parts_of (Expr-F.Tick t list) = row list
parts_of (Expr-F.Capture k a) = a
parts_of (Expr-F.Compile a) = a
parts_of (Expr-F.ParamOf a) = a
parts_of _ = []

abbrev pub expr_rule : Expr-F (List Name) → List Name
expr_rule node = own node ∷ parts_of node

-- what the nodes of an expression name
unfoldable pub names : Expr → List Name
names = fold-Expr (List Name) expr_rule

-- the nodes of the parts of a statement; the block of a switch is a node behind its value
abbrev pub parts_of_statement : Parts (List Name) (List Name) → List Name
parts_of_statement (parts.Eval e) = e
parts_of_statement (parts.Block variables items) = row variables ++ row items
parts_of_statement (parts.If c a) = c ++ a
parts_of_statement (parts.IfElse c a b) = c ++ (a ++ b)
parts_of_statement (parts.While c a) = c ++ a
parts_of_statement (parts.Do a c) = a ++ c
parts_of_statement (parts.For c a) = c ++ a
parts_of_statement (parts.ForStep c step a) = c ++ (step ++ a)
parts_of_statement (parts.Switch e variables items) = e ++ (Nothing ∷ (row variables ++ row items))
parts_of_statement (parts.ReturnValue e) = e
parts_of_statement _ = []

-- a statement itself names nothing
abbrev pub statement_rule : Parts (List Name) (List Name) → List Name
statement_rule node = Nothing ∷ parts_of_statement node

abbrev pub rules : Rules (List Name) (List Name)
rules = record { expr = expr_rule; stmt = statement_rule }

-- what the nodes of a statement name
unfoldable pub names_of : Stmt → List Name
names_of = fold_statement rules

-- what those of the body of a tick name
abbrev pub names_in : TickBody → List Name
names_in (body.Expression e) = names e
names_in (body.Statement s) = names_of s

-- the captures from a number on that these nodes name, which begin with the node of a number
abbrev pub captures_from : (number node : ℕ) → List Name → List Capture
captures_from number node [] = []
captures_from number node (Nothing ∷ names) = captures_from number (suc node) names
captures_from number node (Names kind i ∷ names) =
    if nat_eq number i then record { kind = kind; node = node } ∷ captures_from (suc number) (suc node) names
    else captures_from number (suc node) names

-- the captures that a body names
abbrev pub captures_of : TickBody → List Capture
captures_of body = captures_from 0 0 (names_in body)

-- those of a tick, if there is one
abbrev pub captures_at : Option Tick → List Capture
captures_at None = []
captures_at (Some tick) = captures_of tick.body
