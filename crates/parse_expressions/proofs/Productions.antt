-- Productions, part by part.
use Rattle.std.proofs.Common.{◌≡◌, refl, ◌∙◌}
use Rattle.std.specs.Prelude.{Ok, Err}
use Rattle.tick_tree.specs.declared.syntax.Expr.TheVariants as e
use Rattle.parse_grammar.specs.declared.kind.Mark.{Mark}
use Rattle.parse_grammar.specs.declared.kind.Mark.TheVariants as m
use Rattle.parse_grammar.specs.Input.{Input, Outcome, Parser, ◌>>=◌, ◌>>◌, and_then, pure, expect, line, next}
use Rattle.parse_grammar.specs.Steps.{Inner, Room, enter, enter_paren}
use Rattle.parse_grammar.specs.Declarators.{typename}
use Rattle.parse_grammar.specs.Expressions.{worded, compile_inner, local_inner, param_inner, sizeof_inner, cast_inner}
use Rattle.parse_grammar.specs.Expressions.{cast}
use Rattle.parse_grammar.specs.Ends.{before}

-- what follows a step that gives nothing
behind : {A B : Type 0} (o : Outcome (Unit {0})) (x : A) (k : A → Parser B) →
    and_then o (λ _. k x) ≡ and_then (and_then o (λ _. pure x)) k
behind (Ok p) x k = refl
behind (Err e) x k = refl

-- what follows a part and its mark
parted : {A B : Type 0} (mark : Mark) (o : Outcome A) (k : A → Parser B) →
    and_then o (λ x. expect mark >> k x) ≡ and_then (and_then o (λ x. expect mark >> pure x)) k
parted mark (Ok p) k = behind (expect mark p.1) p.0 k
parted mark (Err e) k = refl

-- what follows a step in the same way
alike : {A B : Type 0} (o : Outcome A) (f g : A → Parser B) → ((x : A) (i : Input) → f x i ≡ g x i) →
    and_then o f ≡ and_then o g
alike (Ok p) f g same = same p.0 p.1
alike (Err e) f g same = refl

pub compile_parts : (room : Room) (i : Input) →
    worded compile_inner room i ≡ and_then (enter_paren room (next i)) (λ p. before m.Comma p.0.assign >>=
    (λ x. before m.ParenClose (typename p.0) >>= (λ t. pure (e.Compile (line i) x t))))
unfolding worded compile_inner
compile_parts room i = alike (enter_paren room (next i)) _ _ (λ p j.
    parted m.Comma (p.0.assign j) (λ x. typename p.0 >>= (λ t. expect m.ParenClose >> pure (e.Compile (line i) x t))) ∙
    alike (before m.Comma p.0.assign j) _ _ (λ x k.
    parted m.ParenClose (typename p.0 k) (λ t. pure (e.Compile (line i) x t))))

pub local_parts : (room : Room) (i : Input) →
    worded local_inner room i ≡ and_then (enter_paren room (next i)) (λ p.
    before m.ParenClose (typename p.0) >>= (λ t. pure (e.Local (line i) t)))
unfolding worded local_inner
local_parts room i = alike (enter_paren room (next i)) _ _ (λ p j.
    parted m.ParenClose (typename p.0 j) (λ t. pure (e.Local (line i) t)))

pub param_parts : (room : Room) (i : Input) →
    worded param_inner room i ≡ and_then (enter_paren room (next i)) (λ p. before m.Comma (typename p.0) >>=
    (λ t. before m.ParenClose p.0.assign >>= (λ x. pure (e.Param (line i) t x))))
unfolding worded param_inner
param_parts room i = alike (enter_paren room (next i)) _ _ (λ p j.
    parted m.Comma (typename p.0 j) (λ t. p.0.assign >>= (λ x. expect m.ParenClose >> pure (e.Param (line i) t x))) ∙
    alike (before m.Comma (typename p.0) j) _ _ (λ t k.
    parted m.ParenClose (p.0.assign k) (λ x. pure (e.Param (line i) t x))))

pub size_of_parts : (room : Room) (i : Input) →
    worded sizeof_inner room i ≡ and_then (enter_paren room (next i)) (λ p.
    before m.ParenClose (typename p.0) >>= (λ t. pure (e.Sizeof (line i) t)))
unfolding worded sizeof_inner
size_of_parts room i = alike (enter_paren room (next i)) _ _ (λ p j.
    parted m.ParenClose (typename p.0 j) (λ t. pure (e.Sizeof (line i) t)))

pub cast_parts : (room : Room) (i : Input) →
    cast room i ≡ and_then (enter room i) (λ p. before m.ParenClose (typename p.0) >>=
    (λ t. p.0.unary >>= (λ x. pure (e.Cast (line i) t x))))
unfolding cast cast_inner
cast_parts room i = alike (enter room i) _ _ (λ p j.
    parted m.ParenClose (typename p.0 j) (λ t. p.0.unary >>= (λ x. pure (e.Cast (line i) t x))))
