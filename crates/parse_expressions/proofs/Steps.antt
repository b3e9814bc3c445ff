-- One step of each chain of operators between operands.
use Rattle.std.proofs.Common.{◌≡◌, ℕ, suc, true, false, refl}
use Rattle.std.specs.Prelude.{Ok, Option, Some, None, is_some}
use Rattle.tick_tree.specs.declared.base.BinaryOp.{BinaryOp}
use Rattle.tick_tree.specs.declared.syntax.Expr.{Expr}
use Rattle.parse_grammar.specs.declared.kind.Kind.{Kind}
use Rattle.parse_grammar.specs.Input.{Input, kind, line, and_then, ◌>>=◌}
use Rattle.parse_grammar.specs.Steps.{Room, chain, enter}
use Rattle.parse_grammar.specs.Expressions.{comma_of, comma_step, binary_of, binary_step, level, unary}
use Rattle.parse_grammar.proofs.Rooms.{chain_stops}
use Rattle.parse_expressions.proofs.Chains.{chain_goes}

some_unit : (o : Option (Unit {0})) → is_some o ≡ true → o ≡ Some tt
some_unit None h = let q : ⊥ = cc in absurd q
some_unit (Some u) h = refl

no_unit : (o : Option (Unit {0})) → is_some o ≡ false → o ≡ None
no_unit None h = refl
no_unit (Some u) h = let q : ⊥ = cc in absurd q

pub comma_goes : (room : Room) (left : Expr) (i : Input) → is_some (comma_of (kind i)) ≡ true
    → chain comma_of comma_step room left i ≡ and_then (enter room i)
    (λ p. comma_step p.0 p.1 tt (line i) left >>= chain comma_of comma_step p.1)
comma_goes room left i h = chain_goes comma_of comma_step tt room left i (some_unit (comma_of (kind i)) h)

pub comma_stops : (room : Room) (left : Expr) (i : Input) → is_some (comma_of (kind i)) ≡ false →
    chain comma_of comma_step room left i ≡ Ok (left, i)
comma_stops room left i h = chain_stops comma_of comma_step room left i (no_unit (comma_of (kind i)) h)

pub ruleset comma_steps = (comma_goes, comma_stops)

pub level_goes : (n : ℕ) (o : BinaryOp) (room : Room) (left : Expr) (i : Input) → binary_of n (kind i) ≡ Some o
    → chain (binary_of n) (binary_step (level n)) room left i ≡ and_then (enter room i)
    (λ p. binary_step (level n) p.0 p.1 o (line i) left >>= chain (binary_of n) (binary_step (level n)) p.1)
level_goes n o room left i h = chain_goes (binary_of n) (binary_step (level n)) o room left i h

pub level_stops : (n : ℕ) (room : Room) (left : Expr) (i : Input) → binary_of n (kind i) ≡ None →
    chain (binary_of n) (binary_step (level n)) room left i ≡ Ok (left, i)
level_stops n room left i h = chain_stops (binary_of n) (binary_step (level n)) room left i h

pub level_of : (n : ℕ) (room : Room) (i : Input) →
    level (suc n) room i ≡ (level n room >>= chain (binary_of n) (binary_step (level n)) room) i
unfolding level
level_of n room i = refl

pub level_none : (room : Room) (i : Input) → level 0 room i ≡ unary room i
unfolding level
level_none room i = refl

pub ruleset level_steps = (level_goes, level_stops)
