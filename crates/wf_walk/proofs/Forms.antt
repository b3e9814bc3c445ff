-- How an expression is written: what has the form of a constant, and what is a string.
use Rattle.std.proofs.Common.{◌≡◌, true, false}
use Rattle.std.specs.Prelude.{◌&&◌, is_some}
use Rattle.check_forms.specs.Forms.{is_strict}
use Rattle.tick_tree.specs.declared.syntax.Core.TheOpen.{Expr-F}
use Rattle.check_rules.specs.Walk.{Expr-W, written_rule}
use Rattle.wellformed.proofs.Bools.{first_true, second_true}
use Rattle.wf_walk.specs.Parts.{HasForm, IsString}

never : false ≡ true → true ≡ false
never h = cc

pub form_of : (e : Expr-W) → (written_rule e).constant ≡ true → HasForm e
form_of (Expr-F.Number n unsigned) h = tt
form_of (Expr-F.Character n) h = tt
form_of (Expr-F.Expr::Paren a) h = h
form_of (Expr-F.Unary line op a) h = h
form_of (Expr-F.Cast line t a) h = second_true t.integer a.written.constant h
form_of (Expr-F.Sizeof line t) h = tt
form_of (Expr-F.Binary line op ab) h = (
  second_true (is_strict op) ab.0.written.constant
      (first_true (is_strict op && ab.0.written.constant) ab.1.written.constant h),
  second_true (is_strict op && ab.0.written.constant) ab.1.written.constant h,
)
form_of (Expr-F.Expr::Name line name) h = never h
form_of (Expr-F.String bytes) h = never h
form_of (Expr-F.Compile line a t) h = never h
form_of (Expr-F.Expr::Local line t) h = never h
form_of (Expr-F.Param line t a) h = never h
form_of (Expr-F.Index line ab) h = never h
form_of (Expr-F.Call line c list) h = never h
form_of (Expr-F.Step line op a) h = never h
form_of (Expr-F.Tick line a) h = never h
form_of (Expr-F.TickBlock line items) h = never h
form_of (Expr-F.Choice line c a b) h = never h
form_of (Expr-F.Assign line ab) h = never h
form_of (Expr-F.Modify line op ab) h = never h
form_of (Expr-F.Comma line ab) h = never h

pub string_of : (e : Expr-W) → is_some (written_rule e).string ≡ true → IsString e
string_of (Expr-F.String bytes) h = tt
string_of (Expr-F.Expr::Paren a) h = h
string_of (Expr-F.Number n unsigned) h = never h
string_of (Expr-F.Character n) h = never h
string_of (Expr-F.Unary line op a) h = never h
string_of (Expr-F.Cast line t a) h = never h
string_of (Expr-F.Sizeof line t) h = never h
string_of (Expr-F.Binary line op ab) h = never h
string_of (Expr-F.Expr::Name line name) h = never h
string_of (Expr-F.Compile line a t) h = never h
string_of (Expr-F.Expr::Local line t) h = never h
string_of (Expr-F.Param line t a) h = never h
string_of (Expr-F.Index line ab) h = never h
string_of (Expr-F.Call line c list) h = never h
string_of (Expr-F.Step line op a) h = never h
string_of (Expr-F.Tick line a) h = never h
string_of (Expr-F.TickBlock line items) h = never h
string_of (Expr-F.Choice line c a b) h = never h
string_of (Expr-F.Assign line ab) h = never h
string_of (Expr-F.Modify line op ab) h = never h
string_of (Expr-F.Comma line ab) h = never h
