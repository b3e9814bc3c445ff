-- A walk begins with the names of the library.
use Rattle.std.proofs.Common.{◌≡◌, refl, ap, subst, ◌∙◌, [], ◌∷◌, ◌++◌, Ok, List}
use Rattle.check_scopes.specs.Scopes.{Name, Scope, Scopes}
use Rattle.check_rules.specs.declared.functions.Functions.{Functions}
use Rattle.check_rules.specs.declared.state.State.{State}
use Rattle.check_rules.specs.declared.library.LibraryFunction.{LibraryFunction}
use Rattle.check_rules.specs.declared.library.LibraryFunction.TheVariants as library
use Rattle.check_rules.specs.Starts.{name, answer, parameters, number, function, library_meaning, add_library}
use Rattle.check_rules.specs.Starts.{add_libraries, whole_library, libraries, empty, start, emptied, again}
use Rattle.wf_nodes.specs.Used.{IsLibrary}
use Rattle.wf_nodes.proofs.Declared.{libraries_use}
use Rattle.wf_walk.specs.Known.{EachEntry}
use Rattle.wf_walk.proofs.Walks.{pure_same}
use Rattle.wf_programs.proofs.Scopes.{FileName, each_more, AllFound, all_found_more, DeclaresFirst, declare_first}
use Rattle.wf_programs.proofs.Steps.{Parts, parts}

-- ---- one name more

-- a state with library names more at file scope, in any program
pub record Library (s new : State) : Type 1 where
  pub scope : Scope
  pub is : new ≡ record s { scopes = scope ∷ [] }
  pub names : (whole : List Name) (f : Functions) → EachEntry (FileName whole f) scope
  pub every : AllFound scope

is_library : (f : LibraryFunction) → IsLibrary (number f) (function (answer f) (parameters f))
is_library library.Getchar = libraries_use.getchar
is_library library.Putchar = libraries_use.putchar
is_library library.Putint = libraries_use.putint
is_library library.Malloc = libraries_use.malloc
is_library library.Exit = libraries_use.exit

one_more : (f : LibraryFunction) (s m new : State) (u : Unit {0}) → Library s m → add_library f m ≡ Ok (u, new) →
    Library s new
unfolding add_library
one_more f s m new u l is =
    let d : DeclaresFirst (name f) (library_meaning f) m new l.scope =
    declare_first 1 (name f) (library_meaning f) m new u l.scope (ap (λ (z : State). z.scopes) l.is) is in
    record {
      scope = l.scope ++ (name f, library_meaning f) ∷ [];
      is = d.is ∙ ap (λ (z : State). record z { scopes = (l.scope ++ (name f, library_meaning f) ∷ []) ∷ [] }) l.is;
      names = λ whole fs. each_more (FileName whole fs) l.scope (name f) (library_meaning f) (l.names whole fs)
          (is_library f);
      every = all_found_more l.scope (name f) (library_meaning f) d.fresh l.every;
    }

-- ---- all of them

all_more : (fs : List LibraryFunction) (s m new : State) (u : Unit {0}) → Library s m →
    add_libraries fs m ≡ Ok (u, new) → Library s new
unfolding add_libraries
all_more [] s m new u l is = subst (λ (z : State). Library s z) (pure_same tt u m new is) l
all_more (f ∷ fs) s m new u l is =
    let p : Parts (add_library f) (λ v. add_libraries fs) m new u =
    parts (add_library f) (λ v. add_libraries fs) m new u is in
    all_more fs s p.between new u (one_more f s m p.between p.answer l p.first) p.second

pub library_names : (s new : State) (u : Unit {0}) → s.scopes ≡ [] ∷ [] → libraries s ≡ Ok (u, new) → Library s new
library_names s new u none is =
    let begin : Library s s =
    record { scope = []; is = ap (λ (ss : Scopes). record s { scopes = ss }) none; names = λ whole f. tt; every = tt }
    in
    all_more whole_library s s new u begin is

pub started : (new : State) (u : Unit {0}) → start ≡ Ok (u, new) → Library empty new
unfolding start
started new u is = library_names empty new u refl is

pub begun_again : (s new : State) (u : Unit {0}) → again s ≡ Ok (u, new) → Library (emptied s) new
unfolding again
begun_again s new u is = library_names (emptied s) new u refl is
