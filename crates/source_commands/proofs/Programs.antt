-- The typed tree of an accepted text is a program: one of its functions is main.
use Rattle.std.proofs.Common.{◌≡◌, ℕ, zero, suc, Bool, true, false, List, [], ◌∷◌, ◌+◌, map, Option, Some, None, Result}
use Rattle.std.proofs.Common.{Ok}
use Rattle.std.proofs.Common.{Err, codes, slice_get, ◌&&◌, if◌then◌else◌, refl, sym, ap, ◌∙◌, subst}
use Rattle.std.specs.Prelude.{nat_eq}
use Rattle.std.specs.Cmp.Lexicographic.{pointwise}
use Rattle.std.proofs.lemmas.Bool.{false≢true}
use Rattle.tick_tree.specs.declared.fault.Fault.{Fault}
use Rattle.typed_tree.specs.declared.program.Function.{Function}
use Rattle.typed_tree.specs.View.{function_view}
use Rattle.wellformed.specs.declared.typed.Typed.{Typed}
use Rattle.wellformed.specs.Program.{IsWellFormed}
use Rattle.staged_meaning.specs.Meaning.{Program}
use Rattle.staged_meaning.specs.Source.{main_of, program_from, program_view, ticks_of}
use Rattle.accepted_programs.specs.Mains.{Main, main_from, main_in}
use Rattle.source_commands.specs.Texts.{Means, MeansAsItRuns, typed_tree}

-- some function is found, where there is one of the name
main_found : (fs : List Function) (n : ℕ) (f : Function) → slice_get fs n ≡ Some f → f.name ≡ codes "main"
    → (main : Function) × (main_of fs ≡ Some main)
main_found [] n f is name = absurd cc
main_found (g ∷ fs) n f is name =
    by (pointwise nat_eq g.name (codes "main")) refl n is (λ k later. main_found fs k f later name)
  where
    by : (b : Bool) → pointwise nat_eq g.name (codes "main") ≡ b → (n : ℕ) → slice_get (g ∷ fs) n ≡ Some f
        → ((k : ℕ) → slice_get fs k ≡ Some f → (main : Function) × (main_of fs ≡ Some main))
        → (main : Function) × (main_of (g ∷ fs) ≡ Some main)
    by true here n is later = (g, rw here refl)
    by false other zero is later =
        absurd (false≢true (sym other ∙ ap (λ (l : List ℕ). pointwise nat_eq l (codes "main")) named))
      where
        first : ◌≡◌ {A = Option Function} (Some g) (Some f) → g ≡ f
        first q = cc

        named : g.name ≡ codes "main"
        named = ap (λ (h : Function). h.name) (first is) ∙ name
    by false other (suc k) is later = let found = later k is in (found.0, rw other found.1)

pub is_program : (tree : Typed) → IsWellFormed tree → (program : Program) × Means tree program
is_program tree h =
    let found = main_found tree.functions h.main h.main_function h.is_main h.name in
    (_, ap (λ (o : Option Function). program_from o tree) found.1)

-- ---- its main

-- both take the first function of the name
main_as : (n : ℕ) (fs : List Function) (m : Main) → main_from n fs ≡ Some m
    → (f : Function) × (main_of fs ≡ Some f) × (m.function ≡ function_view f)
main_as n [] m e = absurd cc
main_as n (g ∷ fs) m e =
    by (pointwise nat_eq g.name (codes "main")) refl (λ later. main_as (n + 1) fs m later) e
  where
    by : (b : Bool) → pointwise nat_eq g.name (codes "main") ≡ b
        → (main_from (n + 1) fs ≡ Some m → (f : Function) × (main_of fs ≡ Some f) × (m.function ≡ function_view f))
        → (if b then Some (record { number = n; function = function_view g }) else main_from (n + 1) fs) ≡ Some m
        → (f : Function) × (main_of (g ∷ fs) ≡ Some f) × (m.function ≡ function_view f)
    by true here later e = (g, rw here refl, ap (λ (x : Main). x.function) (sym (some_is e)))
      where
        some_is : ◌≡◌ {A = Option Main} (Some (record { number = n; function = function_view g })) (Some m) →
            record { number = n; function = function_view g } ≡ m
        some_is q = cc
    by false other later e = let r = later e in (r.0, rw other r.1, r.2)

-- the program of a tree with this main
abbrev pub program_of : Typed → Main → Program
program_of tree main = record {
  main = main.function;
  functions = map function_view tree.functions;
  ticks = ticks_of tree;
  image = tree.image;
}

pub means_so : (tree : Typed) (m : Main) → main_in tree ≡ Some m → Means tree (program_of tree m)
means_so tree m e =
    let f = main_as 1 tree.functions m e in
    ap (λ (o : Option Function). program_from o tree) f.1
    ∙ ap (λ main. Some (record {
      main = main;
      functions = map function_view tree.functions;
      ticks = ticks_of tree;
      image = tree.image;
    })) (sym f.2)

one_tree : (r : Result Typed Fault) (a b : Typed) → r ≡ Ok a → r ≡ Ok b → a ≡ b
one_tree r a b p q = ok_is (sym p ∙ q)
  where
    ok_is : ◌≡◌ {A = Result Typed Fault} (Ok a) (Ok b) → a ≡ b
    ok_is e = cc

one_meant : (o : Option Program) (a b : Program) → o ≡ Some a → o ≡ Some b → a ≡ b
one_meant o a b p q = some_is (sym p ∙ q)
  where
    some_is : ◌≡◌ {A = Option Program} (Some a) (Some b) → a ≡ b
    some_is e = cc

pub means_as_it_runs : MeansAsItRuns
means_as_it_runs text program other a b =
    one_meant (program_view b.tree) program other
    (subst (λ (tree : Typed). Means tree program) (one_tree (typed_tree text) a.tree b.tree a.is_typed b.is_typed) a.means)
    b.means
