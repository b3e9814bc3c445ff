-- One step of a chain of operators behind an operand.
use Rattle.std.proofs.Common.{◌≡◌, ℕ, [], ◌∷◌, refl, ap}
use Rattle.std.specs.Prelude.{Ok, Option, Some, None}
use Rattle.tick_tree.specs.declared.syntax.Expr.{Expr}
use Rattle.parse_grammar.specs.declared.kind.Kind.{Kind}
use Rattle.parse_grammar.specs.declared.grammar.Postfix.{Postfix}
use Rattle.parse_grammar.specs.Input.{Input, Parser, kind, line, and_then, ◌>>=◌}
use Rattle.parse_grammar.specs.Steps.{Inner, Room, chain, chain_by, ends_by, enter, descend}
use Rattle.parse_grammar.specs.Expressions.{postfix_kind, postfix_step}
use Rattle.parse_grammar.proofs.Rooms.{chain_stops}

-- an operator of a chain takes a level, and then the rest of the room goes on
pub chain_goes : {Op : Type 0} (op : Kind → Option Op) (step : Inner → Room → Op → ℕ → Expr → Parser Expr) (o : Op)
    (room : Room) (left : Expr) (i : Input) → op (kind i) ≡ Some o
    → chain op step room left i ≡ and_then (enter room i) (λ p. step p.0 p.1 o (line i) left >>= chain op step p.1)
unfolding enter descend
chain_goes op step o [] left i h = ap (λ q. ends_by q left i) h
chain_goes op step o (r ∷ rs) left i h = ap (λ q. chain_by q left (step r rs) (chain op step rs) i) h

pub postfix_goes : (o : Postfix) (room : Room) (left : Expr) (i : Input) → postfix_kind (kind i) ≡ Some o
    → chain postfix_kind postfix_step room left i ≡ and_then (enter room i)
    (λ p. postfix_step p.0 p.1 o (line i) left >>= chain postfix_kind postfix_step p.1)
postfix_goes o room left i h = chain_goes postfix_kind postfix_step o room left i h

pub postfix_stops : (room : Room) (left : Expr) (i : Input) → postfix_kind (kind i) ≡ None →
    chain postfix_kind postfix_step room left i ≡ Ok (left, i)
postfix_stops room left i h = chain_stops postfix_kind postfix_step room left i h

pub ruleset postfix_steps = (postfix_goes, postfix_stops)
