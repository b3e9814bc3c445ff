-- How the room for a number of levels, a chain and a count of turns go on, beside a loop.
use Rattle.std.proofs.Common.{◌≡◌, ℕ, suc, ◌+◌, ◌-◌, ◌<◌, ◌≤◌, [], ◌∷◌, refl, ap, ◌∙◌, arith, cond}
use Rattle.std.specs.Prelude.{Ok, Option, None}
use Rattle.tick_tree.specs.declared.syntax.Expr.{Expr}
use Rattle.parse_grammar.specs.declared.kind.Kind.{Kind}
use Rattle.parse_grammar.specs.Input.{Input, Parser, kind}
use Rattle.parse_grammar.specs.Steps.{Inner, Room, chain, chain_by, ends_by}
use Rattle.parse_grammar.specs.Statements.{inner, room_of}

room_of-suc : (n : ℕ) → room_of (suc n) ≡ inner (room_of n) ∷ room_of n
unfolding room_of
room_of-suc n = refl

room_of-zero : room_of 0 ≡ []
unfolding room_of
room_of-zero = refl

-- some room
pub some : {X : Type 0} (f : Room → X) (n : ℕ) → 0 < n → f (room_of n) ≡ f (inner (room_of (n - 1)) ∷ room_of (n - 1))
some f n h = let e : n ≡ suc (n - 1) = omega arith in ap (λ m. f (room_of m)) e ∙ ap f (room_of-suc (n - 1))

-- no room
pub none : {X : Type 0} (f : Room → X) (n : ℕ) → n ≡ 0 → f (room_of n) ≡ f []
none f n e = ap (λ m. f (room_of m)) e ∙ ap f room_of-zero

-- a chain ends where no operator comes
pub chain_stops : {Op : Type 0} (op : Kind → Option Op) (step : Inner → Room → Op → ℕ → Expr → Parser Expr) (rs : Room)
    (left : Expr) (i : Input) → op (kind i) ≡ None → chain op step rs left i ≡ Ok (left, i)
chain_stops op step [] left i h = ap (λ o. ends_by o left i) h
chain_stops op step (r ∷ rs) left i h = ap (λ o. chain_by o left (step r rs) (chain op step rs) i) h

-- a recursion on a count of turns, beside a loop that counts up
pub one_more : {X : Type 0} {x : X} (f : ℕ → X) (n at : ℕ) → at < n → x ≡ f (n - at) → x ≡ f (suc (n - (at + 1)))
one_more f n at below e = let turn : n - at ≡ suc (n - (at + 1)) = omega arith in e ∙ ap f turn

pub no_more : {X : Type 0} {x : X} (f : ℕ → X) (n at : ℕ) → n ≤ at → x ≡ f (n - at) → x ≡ f 0
no_more f n at done e = let none : n - at ≡ 0 = omega arith in e ∙ ap f none
