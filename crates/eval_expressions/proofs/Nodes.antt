-- What each node leaves behind as it begins: the part that is evaluated first, and the frame that waits for its value.
use Rattle.std.proofs.Common.{ℕ, ap, arith}
use Rattle.word32.specs.declared.width.Width.{Width}
use Rattle.icode_ops.specs.declared.kind.BinKind.{BinKind}
use Rattle.icode_ops.specs.declared.kind.UnKind.{UnKind}
use Rattle.typed_tree.specs.declared.expression.Answer.{Answer}
use Rattle.typed_tree.specs.declared.expression.CaptureKind.{CaptureKind}
use Rattle.typed_tree.specs.declared.expression.Library.{Library}
use Rattle.typed_tree.specs.Nodes as node
use Rattle.typed_tree.specs.Nodes.{Args, Expr}
use Rattle.eval_state.specs.Pending as pending
use Rattle.eval_state.proofs.Laws as law
use Rattle.eval_state.specs.Run.{here, leads, world}
use Rattle.eval_state.specs.Steps.{begun}
use Rattle.eval_expressions.proofs.Steps.{Opens}

pub set_var : (i : ℕ) (a : Expr) → Opens (node.SetVar i a) a (pending.SetVar i)
unfolding begun
set_var i a = record { same = λ r. ap (leads r) (law.set_var (here r) i a (world r)); less = λ r. omega arith }

pub set_generated : (i : ℕ) (a : Expr) → Opens (node.VSet i a) a (pending.SetGenerated i)
unfolding begun
set_generated i a = record {
  same = λ r. ap (leads r) (law.set_generated (here r) i a (world r));
  less = λ r. omega arith;
}

pub load : (width : Width) (a : Expr) → Opens (node.Load width a) a (pending.Load width)
unfolding begun
load width a = record { same = λ r. ap (leads r) (law.load (here r) width a (world r)); less = λ r. omega arith }

pub store : (width : Width) (a b : Expr) → Opens (node.Store width a b) a (pending.StoreAddress width b)
unfolding begun
store width a b = record { same = λ r. ap (leads r) (law.store (here r) width a b (world r)); less = λ r. omega arith }

pub modify : (width : Width) (kind : BinKind) (a b : Expr)
    → Opens (node.Modify width kind a b) a (pending.ModifyAddress width kind b)
unfolding begun
modify width kind a b = record {
  same = λ r. ap (leads r) (law.modify (here r) width kind a b (world r));
  less = λ r. omega arith;
}

pub post : (width : Width) (step : ℕ) (a : Expr) → Opens (node.Post width step a) a (pending.Post width step)
unfolding begun
post width step a = record {
  same = λ r. ap (leads r) (law.post (here r) width step a (world r));
  less = λ r. omega arith;
}

pub first : (kind : BinKind) (a b : Expr) → Opens (node.Bin kind a b) a (pending.First kind b)
unfolding begun
first kind a b = record { same = λ r. ap (leads r) (law.first (here r) kind a b (world r)); less = λ r. omega arith }

pub unary : (kind : UnKind) (a : Expr) → Opens (node.Un kind a) a (pending.Un kind)
unfolding begun
unary kind a = record { same = λ r. ap (leads r) (law.unary (here r) kind a (world r)); less = λ r. omega arith }

pub both : (a b : Expr) → Opens (node.And a b) a (pending.And b)
unfolding begun
both a b = record { same = λ r. ap (leads r) (law.both (here r) a b (world r)); less = λ r. omega arith }

pub either : (a b : Expr) → Opens (node.Or a b) a (pending.Or b)
unfolding begun
either a b = record { same = λ r. ap (leads r) (law.either (here r) a b (world r)); less = λ r. omega arith }

pub choice : (t a b : Expr) → Opens (node.Cond t a b) t (pending.Cond a b)
unfolding begun
choice t a b = record { same = λ r. ap (leads r) (law.choice (here r) t a b (world r)); less = λ r. omega arith }

pub comma : (a b : Expr) → Opens (node.Comma a b) a (pending.Comma b)
unfolding begun
comma a b = record { same = λ r. ap (leads r) (law.comma (here r) a b (world r)); less = λ r. omega arith }

pub void : (a : Expr) → Opens (node.Void a) a pending.Void
unfolding begun
void a = record { same = λ r. ap (leads r) (law.void (here r) a (world r)); less = λ r. omega arith }

pub function_number : (answer : Answer) (a : Expr) (args : Args)
    → Opens (node.CallNumber answer a args) a (pending.Function answer args)
unfolding begun
function_number answer a args = record {
  same = λ r. ap (leads r) (law.function_number (here r) answer a args (world r));
  less = λ r. omega arith;
}

pub library_call : (kind : Library) (a : Expr) → Opens (node.Lib kind a) a (pending.Lib kind)
unfolding begun
library_call kind a = record {
  same = λ r. ap (leads r) (law.library_call (here r) kind a (world r));
  less = λ r. omega arith;
}

pub capture : (kind : CaptureKind) (a : Expr) → Opens (node.Capture kind a) a pending.Spend
unfolding begun
capture kind a = record { same = λ r. ap (leads r) (law.capture (here r) kind a (world r)); less = λ r. omega arith }

pub compile : (a : Expr) → Opens (node.Compile a) a pending.Compile
unfolding begun
compile a = record { same = λ r. ap (leads r) (law.compile (here r) a (world r)); less = λ r. omega arith }

pub parameter : (a : Expr) → Opens (node.ParamOf a) a pending.ParamOf
unfolding begun
parameter a = record { same = λ r. ap (leads r) (law.parameter (here r) a (world r)); less = λ r. omega arith }
