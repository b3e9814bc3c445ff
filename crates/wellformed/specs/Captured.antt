-- Which captures of its tick the nodes of a body name, in the order in which they name them first. The nodes are read
-- each before its parts and its parts from left to right, which is the order of the text. The captures of a tick are
-- numbered in that order, so a node that names the next number names one capture more. Each splice has a capture of its
-- own: one that names a capture again has no answer. These are this project's own rules; the crate `tick_captures` has
-- them as a list of nodes.
use Rattle.std.specs.Prelude.{ℕ, nat_eq, if◌then◌else◌, List, [], ◌∷◌, ◌++◌, length, Option, Some, None}
use Rattle.typed_tree.specs.declared.expression.CaptureKind.{CaptureKind}
use Rattle.typed_tree.specs.declared.expression.CaptureKind.TheVariants as kind
use Rattle.typed_tree.specs.declared.expression.CapturedWord.{CapturedWord}
use Rattle.typed_tree.specs.declared.expression.CapturedWord.TheVariants as word
use Rattle.typed_tree.specs.declared.expression.Expr.{Expr}
use Rattle.typed_tree.specs.declared.expression.Expr.TheOpen.{Expr-F}
use Rattle.typed_tree.specs.declared.expression.Expr.TheFolds.{fold-Expr}
use Rattle.typed_tree.specs.declared.expression.Stmt.{Stmt}
use Rattle.typed_tree.specs.declared.program.TickBody.{TickBody}
use Rattle.typed_tree.specs.declared.program.TickBody.TheVariants as body
use Rattle.typed_tree.specs.Folds.{Parts, Rules, fold_statement}
use Rattle.typed_tree.specs.Folds as parts

-- the kinds of the captures that are named behind something, by those that are named before it
abbrev pub Naming : Type 0
Naming = Option (List CaptureKind) → Option (List CaptureKind)

-- a value, an address or a variable may be named again
abbrev pub again : CaptureKind → List CaptureKind → Option (List CaptureKind)
again (kind.Splice r) ks = None
again _ ks = Some ks

-- behind a node that names the capture of a number, of this kind
abbrev pub next : CaptureKind → (capture : ℕ) → Naming
next k i None = None
next k i (Some ks) = if nat_eq (length ks) i then Some (ks ++ k ∷ []) else again k ks

abbrev pub word_kind : CapturedWord → CaptureKind
word_kind word.Dollar = kind.Dollar
word_kind word.Address = kind.Address

abbrev pub none : Naming
none ks = ks

-- one behind the other
abbrev pub both : Naming → Naming → Naming
both f g ks = g (f ks)

abbrev pub all : List Naming → Naming
all [] ks = ks
all (f ∷ fs) ks = all fs (f ks)

abbrev pub expr_rule : Expr-F Naming → Naming
expr_rule (Expr-F.Captured w i) = next (word_kind w) i
expr_rule (Expr-F.VGet i) = next kind.Variable i
expr_rule (Expr-F.VSet i f) = both (next kind.Variable i) f
expr_rule (Expr-F.VPost i step) = next kind.Variable i
expr_rule (Expr-F.Splice r i) = next (kind.Splice r) i
expr_rule (Expr-F.SetVar i f) = f
expr_rule (Expr-F.Load w f) = f
expr_rule (Expr-F.Store w f g) = both f g
expr_rule (Expr-F.Modify w k f g) = both f g
expr_rule (Expr-F.Post w step f) = f
expr_rule (Expr-F.Bin k f g) = both f g
expr_rule (Expr-F.Un k f) = f
expr_rule (Expr-F.And f g) = both f g
expr_rule (Expr-F.Or f g) = both f g
expr_rule (Expr-F.Cond c f g) = both c (both f g)
expr_rule (Expr-F.Comma f g) = both f g
expr_rule (Expr-F.Void f) = f
expr_rule (Expr-F.Call r i fs) = all fs
expr_rule (Expr-F.CallNumber r f fs) = both f (all fs)
expr_rule (Expr-F.Lib i f) = f
expr_rule (Expr-F.Tick t fs) = all fs
expr_rule (Expr-F.Capture k f) = f
expr_rule (Expr-F.Compile f) = f
expr_rule (Expr-F.ParamOf f) = f
expr_rule _ = none

-- behind the nodes of an expression
unfoldable pub named : Expr → Naming
named = fold-Expr Naming expr_rule

abbrev pub stmt_rule : Parts Naming Naming → Naming
stmt_rule (parts.Eval f) = f
stmt_rule (parts.Block vs ss) = both (all vs) (all ss)
stmt_rule (parts.If c s) = both c s
stmt_rule (parts.IfElse c s t) = both c (both s t)
stmt_rule (parts.While c s) = both c s
stmt_rule (parts.Do s c) = both s c
stmt_rule (parts.For c s) = both c s
stmt_rule (parts.ForStep c step s) = both c (both step s)
stmt_rule (parts.Switch f vs ss) = both f (both (all vs) (all ss))
stmt_rule (parts.ReturnValue f) = f
stmt_rule _ = none

abbrev pub rules : Rules Naming Naming
rules = record { expr = expr_rule; stmt = stmt_rule }

-- behind those of a statement
unfoldable pub named_of : Stmt → Naming
named_of = fold_statement rules

-- behind the body of a tick
abbrev pub named_in : TickBody → Naming
named_in (body.Expression e) = named e
named_in (body.Statement s) = named_of s
