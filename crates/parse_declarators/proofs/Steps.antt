-- One step of the walks that need no room.
use Rattle.std.proofs.Common.{◌≡◌, ℕ, ◌<◌, ◌+◌, Bool, true, false, [], ◌∷◌, ◌++◌, length, List, refl, ap, sym, ◌∙◌}
use Rattle.std.proofs.Common.{arith, cond}
use Rattle.std.specs.Prelude.{Ok, Option, Some, None}
use Rattle.tick_tree.specs.declared.base.Prefix.{Prefix}
use Rattle.parse_grammar.specs.declared.kind.Kind.TheVariants as k
use Rattle.parse_grammar.specs.declared.kind.Mark.TheVariants as m
use Rattle.parse_grammar.specs.Input.{Input, kind, next, sees}
use Rattle.parse_grammar.specs.Declarators.{prefix_of, prefixes_by, prefixes, is_name, declares_function}

pub prefix_stops : (found : List Prefix) (i : Input) → prefix_of (kind i) ≡ None → prefixes found i ≡ Ok (found, i)
unfolding kind
prefix_stops found [] h = refl
prefix_stops found (t ∷ i) h = ap (λ o. prefixes_by o found (t ∷ i) (λ more. prefixes more i)) h

no_prefix : (p : Prefix) → prefix_of k.End ≡ Some p → ⊥
unfolding prefix_of
no_prefix p h = cc

pub prefix_goes : (found : List Prefix) (p : Prefix) (i : Input) → prefix_of (kind i) ≡ Some p →
    prefixes found i ≡ prefixes (found ++ p ∷ []) (next i)
unfolding kind next
prefix_goes found p [] h = absurd (no_prefix p h)
prefix_goes found p (t ∷ i) h = ap (λ o. prefixes_by o found (t ∷ i) (λ more. prefixes more i)) h

pub prefix_shortens : (p : Prefix) (i : Input) → prefix_of (kind i) ≡ Some p → length (next i) < length i
unfolding kind next
prefix_shortens p [] h = absurd (no_prefix p h)
prefix_shortens p (t ∷ i) h = omega arith

pub ruleset prefix_steps = (prefix_stops, prefix_goes, prefix_shortens)

pub name_goes : (i : Input) → 0 < length i → is_name (kind i) ≡ false → declares_function i ≡ declares_function (next i)
unfolding kind next declares_function
name_goes [] h e = absurd (omega arith)
name_goes (t ∷ i) h e = ap (λ b. cond b (sees m.ParenOpen i) (declares_function i)) e

pub name_found : (i : Input) → 0 < length i → is_name (kind i) ≡ true → declares_function i ≡ sees m.ParenOpen (next i)
unfolding kind next declares_function
name_found [] h e = absurd (omega arith)
name_found (t ∷ i) h e = ap (λ b. cond b (sees m.ParenOpen i) (declares_function i)) e

pub name_absent : (i : Input) → length i ≡ 0 → declares_function i ≡ false
unfolding declares_function
name_absent [] h = refl
name_absent (t ∷ i) h = absurd (omega arith)

pub name_shortens : (i : Input) → 0 < length i → length (next i) < length i
unfolding next
name_shortens [] h = absurd (omega arith)
name_shortens (t ∷ i) h = omega arith

pub ruleset name_steps = (name_goes, name_found, name_absent, name_shortens)
