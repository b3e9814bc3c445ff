-- The values of simple expressions, by the values of their parts.
use Rattle.std.proofs.Common.{◌≡◌, ◌≢◌, ◌≤◌, ◌<◌, ℕ, zero, suc, ◌+◌, ◌-◌, arith, None, Some, Option, refl, ap}
use Rattle.std.proofs.Common.{sym, ◌∙◌}
use Rattle.host_edge.specs.declared.ending.TrapKind.{TrapKind}
use Rattle.icode_ops.specs.declared.kind.BinKind.{BinKind}
use Rattle.icode_ops.specs.declared.kind.UnKind.{UnKind}
use Rattle.word32.specs.declared.width.Width.{Width}
use Rattle.typed_tree.specs.declared.expression.CapturedWord.{CapturedWord}
use Rattle.meaning_operators.specs.Values.{binary, unless_trap}
use Rattle.meaning_state.specs.Operators.{bin_trap, bin_value, un_value}
use Rattle.meaning_state.specs.Shared.{access_trap, loaded, frame_start}
use Rattle.staged_meaning.specs.Expressions.{word_of, key_of, load_at}
use Rattle.staged_meaning.specs.Meaning.{eval}
use Rattle.staged_meaning.specs.World.{World, Result, Gives, spend, unless, at_zero, then_do}
use Rattle.typed_tree.specs.Nodes as node
use Rattle.typed_tree.specs.Nodes.{Expr}
use Rattle.typed_tree.proofs.Views as view
use Rattle.eval_state.specs.Run.{Run, here, world, in_world, run_of, with_units}
use Rattle.eval_state.specs.Grown.{with_left}
use Rattle.eval_state.specs.declared.state.Parts.{Parts}
use Rattle.eval_state.proofs.Changes.{units_are}
use Rattle.eval_simple.specs.Simple.{Comes, Came, IsDone, at_units}

-- what follows a part that came to a value
follows : {A : Type 0} (r : Run) (e : Expr) (before v after : ℕ) (next : ℕ → World → Result A)
    → Came r e before v after → then_do (eval (here r) e (at_units before r)) next ≡ next v (at_units after r)
unfolding Came
follows r e before v after next h = ap (λ x. then_do x next) h

-- ---- without parts

pub constant : (r : Run) (word u : ℕ) → Comes r (node.Const word) u word u
unfolding Comes
constant r word u = refl

pub captured : (r : Run) (kind : CapturedWord) (i u v : ℕ) → v ≡ word_of (here r).captures i
    → Comes r (node.Captured kind i) u v u
unfolding Comes
captured r kind i u v h = ap (λ v. spend v (at_units u r)) (sym h)

pub variable : (r : Run) (i u v : ℕ) → v ≡ (world r).variables i → Comes r (node.Var i) u v u
unfolding Comes
variable r i u v h = ap (λ v. spend v (at_units u r)) (sym h)

pub generated : (r : Run) (i u v : ℕ) → v ≡ (world r).generated (key_of (here r).captures i)
    → Comes r (node.VGet i) u v u
unfolding Comes
generated r i u v h = ap (λ v. spend v (at_units u r)) (sym h)

pub object : (r : Run) (offset u v : ℕ) → v ≡ frame_start (here r).object (world r).shared + offset
    → Comes r (node.Frame offset) u v u
unfolding Comes
object r offset u v h = ap (λ v. spend v (at_units u r)) (sym h)

-- ---- with parts

pub load : (r : Run) (width : Width) (a : Expr) (u at u1 v : ℕ) → Came r a u at u1
    → access_trap at width ≡ None → v ≡ loaded at width (world r).shared
    → Comes r (node.Load width a) u v u1
unfolding Comes
load r width a u at u1 v h untrapped value =
    follows r a u at u1 (load_at width) h
    ∙ ap (λ t. unless t (at_units u1 r) (spend (loaded at width (world r).shared) (at_units u1 r))) untrapped
    ∙ ap (λ v. spend v (at_units u1 r)) (sym value)

abbrev pub found : Option ℕ → ℕ
found None = 0
found (Some v) = v

trap_free : (t : Option TrapKind) (value v : ℕ) (w : World) → unless_trap t value ≡ Some v
    → unless t w (spend value w) ≡ spend v w
trap_free None value v w h = ap (λ o. spend (found o) w) h
trap_free (Some trap) value v w h = absurd cc

pub operator : (r : Run) (kind : BinKind) (a b : Expr) (u x u1 y u2 v : ℕ)
    → Came r a u x u1 → Came r b u1 y u2 → Some v ≡ binary kind x y
    → Comes r (node.Bin kind a b) u v u2
unfolding Comes
operator r kind a b u x u1 y u2 v h h2 value =
    follows r a u x u1
    (λ x w. then_do (eval (here r) b w) (λ y w. unless (bin_trap kind x y) w (spend (bin_value kind x y) w))) h
    ∙ follows r b u1 y u2 (λ y w. unless (bin_trap kind x y) w (spend (bin_value kind x y) w)) h2
    ∙ trap_free (bin_trap kind x y) (bin_value kind x y) v (at_units u2 r) (sym value)

pub unary : (r : Run) (kind : UnKind) (a : Expr) (u x u1 v : ℕ)
    → Came r a u x u1 → v ≡ un_value kind x → Comes r (node.Un kind a) u v u1
unfolding Comes
unary r kind a u x u1 v h value =
    follows r a u x u1 (λ x w. spend (un_value kind x) w) h ∙ ap (λ v. spend v (at_units u1 r)) (sym value)

-- a choice by a value, and what the second of an `&&` and of an `||` comes to
chosen : {A : Type 0} (v : ℕ) (x y : A) → v ≢ 0 → at_zero v x y ≡ y
chosen zero x y h = absurd (h refl)
chosen (suc v) x y h = refl

abbrev truth : ℕ → World → Result ℕ
truth y w = at_zero y (spend 0 w) (spend 1 w)

pub and_decided : (r : Run) (a b : Expr) (u u1 : ℕ) → Came r a u 0 u1 → Comes r (node.And a b) u 0 u1
unfolding Comes
and_decided r a b u u1 h =
    follows r a u 0 u1 (λ x w. at_zero x (spend 0 w) (then_do (eval (here r) b w) truth)) h

pub and_zero : (r : Run) (a b : Expr) (u x u1 u2 : ℕ) → Came r a u x u1 → x ≢ 0
    → Came r b u1 0 u2 → Comes r (node.And a b) u 0 u2
unfolding Comes
and_zero r a b u x u1 u2 h some h2 =
    follows r a u x u1 (λ x w. at_zero x (spend 0 w) (then_do (eval (here r) b w) truth)) h
    ∙ chosen x (spend 0 (at_units u1 r)) (then_do (eval (here r) b (at_units u1 r)) truth) some
    ∙ follows r b u1 0 u2 truth h2

pub and_one : (r : Run) (a b : Expr) (u x u1 y u2 : ℕ) → Came r a u x u1 → x ≢ 0
    → Came r b u1 y u2 → y ≢ 0 → Comes r (node.And a b) u 1 u2
unfolding Comes
and_one r a b u x u1 y u2 h some h2 other =
    follows r a u x u1 (λ x w. at_zero x (spend 0 w) (then_do (eval (here r) b w) truth)) h
    ∙ chosen x (spend 0 (at_units u1 r)) (then_do (eval (here r) b (at_units u1 r)) truth) some
    ∙ follows r b u1 y u2 truth h2
    ∙ chosen y (spend 0 (at_units u2 r)) (spend 1 (at_units u2 r)) other

pub or_decided : (r : Run) (a b : Expr) (u x u1 : ℕ) → Came r a u x u1 → x ≢ 0 → Comes r (node.Or a b) u 1 u1
unfolding Comes
or_decided r a b u x u1 h some =
    follows r a u x u1 (λ x w. at_zero x (then_do (eval (here r) b w) truth) (spend 1 w)) h
    ∙ chosen x (then_do (eval (here r) b (at_units u1 r)) truth) (spend 1 (at_units u1 r)) some

pub or_zero : (r : Run) (a b : Expr) (u u1 u2 : ℕ) → Came r a u 0 u1
    → Came r b u1 0 u2 → Comes r (node.Or a b) u 0 u2
unfolding Comes
or_zero r a b u u1 u2 h h2 =
    follows r a u 0 u1 (λ x w. at_zero x (then_do (eval (here r) b w) truth) (spend 1 w)) h
    ∙ follows r b u1 0 u2 truth h2

pub or_one : (r : Run) (a b : Expr) (u u1 y u2 : ℕ) → Came r a u 0 u1
    → Came r b u1 y u2 → y ≢ 0 → Comes r (node.Or a b) u 1 u2
unfolding Comes
or_one r a b u u1 y u2 h h2 other =
    follows r a u 0 u1 (λ x w. at_zero x (then_do (eval (here r) b w) truth) (spend 1 w)) h
    ∙ follows r b u1 y u2 truth h2
    ∙ chosen y (spend 0 (at_units u2 r)) (spend 1 (at_units u2 r)) other

pub choice_first : (r : Run) (t a b : Expr) (u x u1 v u2 : ℕ) → Came r t u x u1 → x ≢ 0
    → Came r a u1 v u2 → Comes r (node.Cond t a b) u v u2
unfolding Comes
choice_first r t a b u x u1 v u2 h some h2 =
    follows r t u x u1
    (λ v w. at_zero v (then_do (eval (here r) b w) spend) (then_do (eval (here r) a w) spend)) h
    ∙ chosen x (then_do (eval (here r) b (at_units u1 r)) spend) (then_do (eval (here r) a (at_units u1 r)) spend)
    some
    ∙ follows r a u1 v u2 spend h2

pub choice_second : (r : Run) (t a b : Expr) (u u1 v u2 : ℕ) → Came r t u 0 u1
    → Came r b u1 v u2 → Comes r (node.Cond t a b) u v u2
unfolding Comes
choice_second r t a b u u1 v u2 h h2 =
    follows r t u 0 u1
    (λ v w. at_zero v (then_do (eval (here r) b w) spend) (then_do (eval (here r) a w) spend)) h
    ∙ follows r b u1 v u2 spend h2

pub ruleset values = (
  constant,
  captured,
  variable,
  generated,
  object,
  load,
  operator,
  unary,
  and_decided,
  and_zero,
  and_one,
  or_decided,
  or_zero,
  or_one,
  choice_first,
  choice_second,
  view.expressions,
)

-- ---- at once

-- so many units are left
pub leaves : (p q : Parts) (left : ℕ) → left ≤ p.units → q ≡ with_left (p.units - (p.units - left)) p
    → run_of q ≡ with_units left (run_of p)
unfolding run_of
leaves p q left h k =
    ap run_of k ∙ ap (λ n. with_units n (run_of p)) (omega (arith, h))

pub came : (r : Run) (e : Expr) (u v u1 u2 : ℕ) → Comes r e u v u1 → u1 ≡ suc u2 → Came r e u v u2
unfolding Comes Came
came r e u v u1 u2 h k = h ∙ ap (λ n. spend v (at_units n r)) k

pub came_first : (r : Run) (e : Expr) (u v u1 u2 : ℕ) → Came r e u v u1 → u1 ≡ suc u2 → Came r e u v (suc u2)
unfolding Came
came_first r e u v u1 u2 h k = h ∙ ap (λ n. Gives v (at_units n r)) k

pub simply : (r s : Run) (e : Expr) (u v left : ℕ) → u ≡ (world r).units → Came r e u v left → left < u
    → s ≡ with_units left r → IsDone e v r s
unfolding Came IsDone
simply r s e u v left is h less new =
    let units : s.state.units ≡ left = ap (λ (s : Run). s.state.units) new in (
      new ∙ ap (λ (s : Run). in_world (world s) r) (sym new),
      ap (λ n. eval (here r) e (at_units n r)) (sym is) ∙ h ∙ ap (λ (s : Run). Gives v (world s)) (sym new),
      omega (arith, less, is, units),
    )

pub ruleset parts = (came, came_first)

pub ruleset operands = (came, constant, variable, view.expressions)

pub ruleset done = (simply, units_are)
