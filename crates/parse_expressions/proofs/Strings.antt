-- One step of a walk over strings.
use Rattle.std.proofs.Common.{◌≡◌, ℕ, ◌<◌, true, false, [], ◌∷◌, ◌++◌, length, List, refl, ap, arith, cond}
use Rattle.std.specs.Prelude.{Ok}
use Rattle.lex_literals.specs.Literals.{string_bytes}
use Rattle.parse_grammar.specs.Input.{Input, kind, next, text}
use Rattle.parse_grammar.specs.Expressions.{is_string, strings}

pub string_stops : (found : List ℕ) (i : Input) → is_string (kind i) ≡ false → strings found i ≡ Ok (found, i)
unfolding kind
string_stops found [] h = refl
string_stops found (t ∷ i) h = ap (λ b. cond b (strings (found ++ string_bytes t.text) i) (Ok (found, t ∷ i))) h

pub string_goes : (found : List ℕ) (i : Input) → is_string (kind i) ≡ true →
    strings found i ≡ strings (found ++ string_bytes (text i)) (next i)
unfolding kind next text is_string
string_goes found [] h = let q : ⊥ = cc in absurd q
string_goes found (t ∷ i) h = ap (λ b. cond b (strings (found ++ string_bytes t.text) i) (Ok (found, t ∷ i))) h

pub string_shortens : (i : Input) → is_string (kind i) ≡ true → length (next i) < length i
unfolding kind next is_string
string_shortens [] h = let q : ⊥ = cc in absurd q
string_shortens (t ∷ i) h = omega arith

pub ruleset string_steps = (string_stops, string_goes, string_shortens)
