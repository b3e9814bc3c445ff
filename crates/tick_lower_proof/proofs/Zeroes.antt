-- An expression without a value gives 0, and so does a specification that leaves none.
use Rattle.std.proofs.Common.{◌≡◌, ℕ, zero, suc, List, Option, Some, None, false, refl, ◌∙◌}
use Rattle.std.specs.Prelude.{slice_get}
use Rattle.host_edge.specs.declared.ending.TrapKind.{TrapKind}
use Rattle.history.specs.Syntax.{Syntax, Ticked}
use Rattle.typed_tree.specs.Nodes.{Expr, Cond, Comma, Void, Call, CallNumber, Lib, Splice, has_value}
use Rattle.typed_tree.specs.Sizes.{is_value}
use Rattle.typed_tree.specs.declared.expression.Answer.{Answer}
use Rattle.typed_tree.specs.declared.expression.Answer.TheVariants as answer
use Rattle.typed_tree.specs.declared.expression.CaptureKind.{CaptureKind}
use Rattle.typed_tree.specs.declared.expression.Library.TheVariants.{Putint, Exit}
use Rattle.staged_meaning.specs.Program.{Tick, OfExpression, OfStatement, is_expression}
use Rattle.staged_meaning.specs.Scope.{IsReadyTickAt}
use Rattle.staged_meaning.specs.Values.{UsesValues}
use Rattle.staged_meaning.specs.World.{World, Result, Gives, Returns, Ends, Stops, then_do, spend, spend_from, unless}
use Rattle.staged_meaning.specs.World.{at_zero}
use Rattle.staged_meaning.specs.Expressions.{Context, left_by, eval, eval_args}
use Rattle.tick_lower_spec.specs.Captured.{HasKindsAt, HasTicks, leaves}
use Rattle.tick_lower_proof.proofs.Spliced.{AreReadyTicks}
use Rattle.staged_meaning.specs.Meaning.{exec, within, apart, tick_value, syntax_value, spliced_value}

-- what comes of a thing that gives no value
abbrev pub GivesZero : Result ℕ → Type 0
GivesZero (Gives v w) = v ≡ 0
GivesZero _ = Unit {0}

then_zero : {A : Type 0} (o : Result A) (next : A → World → Result ℕ) → ((a : A) (w : World) → GivesZero (next a w)) →
    GivesZero (then_do o next)
then_zero (Gives a w) next h = h a w
then_zero (Returns v w) next h = tt
then_zero (Ends e shared) next h = tt
then_zero (Stops shared) next h = tt

spend_zero : (x : ℕ) (w : World) → x ≡ 0 → GivesZero (spend x w)
spend_zero x w e = by w.units
  where
    by : (n : ℕ) → GivesZero (spend_from n x w)
    by zero = tt
    by (suc n) = e

-- a unit behind what gave 0
spent_zero : (o : Result ℕ) → GivesZero o → GivesZero (then_do o spend)
spent_zero (Gives v w) h = spend_zero v w h
spent_zero (Returns v w) h = tt
spent_zero (Ends e shared) h = tt
spent_zero (Stops shared) h = tt

unless_zero : (t : Option TrapKind) (w : World) (o : Result ℕ) → GivesZero o → GivesZero (unless t w o)
unless_zero None w o h = h
unless_zero (Some k) w o h = tt

at_zero_zero : (x : ℕ) (a b : Result ℕ) → GivesZero a → GivesZero b → GivesZero (at_zero x a b)
at_zero_zero zero a b p q = p
at_zero_zero (suc x) a b p q = q

left_zero : (a : Answer) (v : ℕ) → is_value a ≡ false → left_by a v ≡ 0
left_zero answer.Value v e = absurd cc
left_zero answer.Void v e = refl

pub eval_zero : (c : Context) (e : Expr) → UsesValues e → has_value e ≡ false → (w : World) → GivesZero (eval c e w)
eval_zero c (Cond test a b) uses none w =
    then_zero (eval c test w) _
    (λ v w1. at_zero_zero v (then_do (eval c b w1) spend) (then_do (eval c a w1) spend)
    (spent_zero (eval c b w1) (eval_zero c b uses.3 (uses.4 ∙ none) w1))
    (spent_zero (eval c a w1) (eval_zero c a uses.2 none w1)))
eval_zero c (Comma a b) uses none w = then_zero (eval c a w) _ (λ v w1. eval_zero c b uses.1 none w1)
eval_zero c (Void a) uses none w = then_zero (eval c a w) _ (λ v w1. refl)
eval_zero c (Call a f args) uses none w =
    then_zero (eval_args c args w) _
    (λ vs w1. then_zero (c.call f vs w1) _ (λ v w2. spend_zero (left_by a v) w2 (left_zero a v none)))
eval_zero c (CallNumber a e args) uses none w =
    then_zero (eval c e w) _
    (λ f w1. then_zero (eval_args c args w1) _
    (λ vs w2. unless_zero _ w2 _
    (then_zero (c.call f vs w2) _ (λ v w3. spend_zero (left_by a v) w3 (left_zero a v none)))))
eval_zero c (Lib Putint a) uses none w = then_zero (eval c a w) _ (λ v w1. spend_zero 0 _ refl)
eval_zero c (Lib Exit a) uses none w = then_zero (eval c a w) _ (λ v w1. tt)
eval_zero c (Splice a i) uses none w = then_zero (c.splice i w) _ (λ v w1. left_zero a v none)
eval_zero c _ uses none w = absurd cc

-- behind a body its variables are gone
apart_zero : (body : World → Result ℕ) (w : World) → GivesZero (body (record w { variables = λ i. 0 })) →
    GivesZero (apart body w)
apart_zero body w h = by (body (record w { variables = λ i. 0 })) h
  where
    by : (o : Result ℕ) → GivesZero o → GivesZero (then_do o (λ v w1. Gives v (record w1 { variables = w.variables })))
    by (Gives v w1) h = h
    by (Returns v w1) h = tt
    by (Ends e shared) h = tt
    by (Stops shared) h = tt

-- a tick's body that leaves no value
tick_zero : (c : Context) (captured : List (List CaptureKind)) (kinds : List CaptureKind) (tick : Option Tick) →
    IsReadyTickAt c.program.functions captured kinds tick → (inner : Context) → is_expression tick ≡ false →
    (w : World) → GivesZero (tick_value inner tick w)
tick_zero c captured kinds None ok inner none w = absurd ok
tick_zero c captured kinds (Some (OfExpression e)) ok inner none w = eval_zero inner e ok.values none w
tick_zero c captured kinds (Some (OfStatement s)) ok inner none w = then_zero (exec inner s w) _ (λ flow w1. refl)

-- and a specification that leaves none
pub syntax_zero : (c : Context) (captured : List (List CaptureKind)) → AreReadyTicks c.program captured →
    (syntax : Syntax) → HasTicks captured syntax → leaves c.program.ticks syntax ≡ false → (w : World) →
    GivesZero (syntax_value c syntax w)
syntax_zero c captured ready (Ticked tick captures) kinds none w =
    by (slice_get captured tick) kinds.0 (ready tick)
  where
    by : (o : Option (List CaptureKind)) → HasKindsAt o captures → ((ks : List CaptureKind) → o ≡ Some ks →
        IsReadyTickAt c.program.functions captured ks (slice_get c.program.ticks tick)) →
        GivesZero (syntax_value c (Ticked tick captures) w)
    by None h r = absurd h
    by (Some ks) h r =
        let C = within c captures (spliced_value c captures) in
        let t = slice_get c.program.ticks tick in
        apart_zero (tick_value C t) w (tick_zero c captured ks t (r ks refl) C none (record w { variables = λ i. 0 }))
