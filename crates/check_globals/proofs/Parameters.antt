-- The parameters of a function, behind the last of them.
use Rattle.std.proofs.Common.{◌≡◌, ℕ, ◌≤◌, min, List, [], ◌∷◌, length, drop, map, Ok, refl, sym, subst, ap, arith, inl}
use Rattle.std.proofs.Common.{inr}
use Rattle.std.proofs.lemmas.Bool.{cases_lt}
use Rattle.std.proofs.lemmas.List.{drop_all}
use Rattle.c_types.specs.declared.ctype.CType.{CType}
use Rattle.tick_tree.specs.declared.syntax.Parameter.{Parameter}
use Rattle.check_rules.specs.declared.state.State.{State}
use Rattle.check_globals.specs.Functions.{Given, given, parameters}

no_types : (ts : List CType) (gs : List Given) (s : State) → ts ≡ [] → parameters ts gs s ≡ Ok (tt, s)
no_types ts gs s e = let P : List CType → Type 0 = λ x. parameters x gs s ≡ Ok (tt, s) in subst P (sym e) refl

none : (ts : List CType) (s : State) → parameters ts [] s ≡ Ok (tt, s)
none [] s = refl
none (t ∷ ts) s = refl

no_list : (ts : List CType) (gs : List Given) (s : State) → gs ≡ [] → parameters ts gs s ≡ Ok (tt, s)
no_list ts gs s e = let P : List Given → Type 0 = λ x. parameters ts x s ≡ Ok (tt, s) in subst P (sym e) (none ts s)

pub no_more : (ts : List CType) (ps : List Parameter) (n : ℕ) (s : State) → min (length ts) (length ps) ≤ n →
    parameters (drop n ts) (map given (drop n ps)) s ≡ Ok (tt, s)
no_more ts ps n s h =
    elim (cases_lt n (length ts)) [
      | inl lt ↦ no_list (drop n ts) (map given (drop n ps)) s (ap (map given) (drop_all n ps (omega arith)))
      | inr le ↦ no_types (drop n ts) (map given (drop n ps)) s (drop_all n ts le)
    ]
