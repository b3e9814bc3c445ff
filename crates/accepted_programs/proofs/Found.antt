-- Each accepted program has a function main.
use Rattle.std.proofs.Common.{◌≡◌, ℕ, zero, suc, ◌+◌, Bool, true, false, if◌then◌else◌, List, [], ◌∷◌}
use Rattle.std.proofs.Common.{codes, slice_get, Option, Some, None, refl, sym, ap, ◌∙◌, subst}
use Rattle.std.specs.Option.{option_map}
use Rattle.std.specs.Str.{bytes_eq}
use Rattle.std.proofs.lemmas.Bool.{false≢true}
use Rattle.std.proofs.lemmas.Slice.Eq.{bytes_eq-Decides}
use Rattle.typed_tree.specs.declared.program.Function.{Function}
use Rattle.typed_tree.specs.View.{function_view}
use Rattle.wellformed.specs.declared.typed.Typed.{Typed}
use Rattle.wellformed.specs.Program.{IsWellFormed}
use Rattle.accepted_programs.specs.Mains.{Main, main_from, main_in}

-- there is a main
main_there : (k : ℕ) (fs : List Function) (n : ℕ) (f : Function) → slice_get fs n ≡ Some f → f.name ≡ codes "main" →
    (m : Main) × (main_from k fs ≡ Some m)
main_there k [] n f is name = absurd cc
main_there k (g ∷ fs) n f is name =
    by (bytes_eq g.name (codes "main")) refl n is (λ j later. main_there (k + 1) fs j f later name)
  where
    by : (b : Bool) → bytes_eq g.name (codes "main") ≡ b → (n : ℕ) → slice_get (g ∷ fs) n ≡ Some f →
        ((j : ℕ) → slice_get fs j ≡ Some f → (m : Main) × (main_from (k + 1) fs ≡ Some m)) →
        (m : Main)
        × ((if b then Some (record { number = k; function = function_view g }) else main_from (k + 1) fs) ≡ Some m)
    by true here n is later = (record { number = k; function = function_view g }, refl)
    by false other zero is later =
        absurd (false≢true (sym other ∙ (bytes_eq-Decides g.name (codes "main")).1 named))
      where
        first : ◌≡◌ {A = Option Function} (Some g) (Some f) → g ≡ f
        first q = cc

        named : g.name ≡ codes "main"
        named = ap (λ (h : Function). h.name) (first is) ∙ name
    by false other (suc j) is later = later j is

-- so what is found is its number
pub found_number : (p : Typed) (fs : List Function) (r : Option ℕ) (n : ℕ) → IsWellFormed p → fs ≡ p.functions →
    r ≡ option_map (λ (m : Main). m.number) (main_from 1 fs) → ((k : ℕ) → r ≡ Some k → n ≡ k) →
    Some n ≡ option_map (λ (m : Main). m.number) (main_in p)
found_number p fs r n h all is so =
    let found = main_there 1 p.functions h.main h.main_function h.is_main h.name in
    let there : r ≡ Some found.0.number =
    is ∙ ap (λ gs. option_map (λ (m : Main). m.number) (main_from 1 gs)) all
    ∙ ap (option_map (λ (m : Main). m.number)) found.1 in
    ap Some (so found.0.number there) ∙ sym (ap (option_map (λ (m : Main). m.number)) found.1)
