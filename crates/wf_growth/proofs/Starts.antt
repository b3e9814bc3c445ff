-- A walk begins with no ticks, and so a program has no more ticks than its tree has nodes.
use Rattle.std.proofs.Common.{◌≡◌, ℕ, ◌≤◌, Bool, true, false, if◌then◌else◌, List, [], ◌∷◌, map, length, subst, Option, Some}
use Rattle.std.proofs.Common.{None, Ok, Err, arith}
use Rattle.tick_tree.specs.declared.fault.FaultKind.TheVariants as fault
use Rattle.tick_tree.specs.declared.syntax.External.{External}
use Rattle.tick_tree.specs.declared.tree.Tree.{Tree}
use Rattle.tick_tree.specs.Faults.{Checked, refuse, ◌>>=◌ as ◌>>>=◌}
use Rattle.typed_tree.specs.declared.program.TypedParts.{TypedParts}
use Rattle.check_rules.specs.declared.functions.Prototype.{Prototype}
use Rattle.check_rules.specs.Functions as tables
use Rattle.check_rules.specs.declared.state.State.{State}
use Rattle.check_rules.specs.Starts as starts
use Rattle.check_rules.specs.declared.library.LibraryFunction.{LibraryFunction}
use Rattle.check_globals.specs.Programs as programs
use Rattle.check_globals.specs.Program as program
use Rattle.wf_growth_rules.specs.Light.{After, Bounded}
use Rattle.wf_growth_rules.proofs.Walks.{weak, after, bind_light, pure_light}
use Rattle.wf_growth_rules.proofs.States.{declare_light}
use Rattle.tick_tree.specs.Weights.{total, item_weight, tree_weight}
use Rattle.wf_growth.proofs.Programs.{walk_light}

add_light : (f : LibraryFunction) → Bounded 0 (starts.add_library f)
unfolding starts.add_library
add_light f = declare_light 1 (starts.name f) (starts.library_meaning f)

all_light : (fs : List LibraryFunction) → Bounded 0 (starts.add_libraries fs)
unfolding starts.add_libraries
all_light [] = pure_light tt
all_light (f ∷ fs) = weak 0 (bind_light (add_light f) (λ u. all_light fs)) (omega arith)

libraries_light : Bounded 0 starts.libraries
libraries_light = all_light starts.whole_library

-- the first walk begins with what no walk knows
pub start_light : After 0 starts.empty starts.start
unfolding starts.start
start_light = after libraries_light starts.empty

-- the second walk begins without the ticks of the first
pub again_light : (s : State) → After 0 (starts.emptied s) (starts.again s)
unfolding starts.again
again_light s = after libraries_light (starts.emptied s)

-- ---- the ticks of a program

abbrev FewTicks : ℕ → Checked TypedParts → Type 0
FewTicks n (Ok p) = length p.ticks ≤ n
FewTicks n (Err f) = Unit {0}

fits_few : (b : Bool) (n : ℕ) (s : State) → length s.ticks.all ≤ n →
    FewTicks n (if b then Ok (programs.typed s) else refuse fault.TooLarge 1)
fits_few true n s h = h
fits_few false n s h = tt

main_few : (b c : Bool) (n : ℕ) (s : State) → length s.ticks.all ≤ n →
    FewTicks n (if b then (if c then Ok (programs.typed s) else refuse fault.TooLarge 1) else refuse fault.NoMain 1)
main_few true c n s h = fits_few c n s h
main_few false c n s h = tt

finished_by_few : (p : Option Prototype) (n : ℕ) (s : State) → length s.ticks.all ≤ n →
    FewTicks n (programs.finished_by p s)
finished_by_few None n s h = main_few (programs.has_main s) (programs.fits s) n s h
finished_by_few (Some p) n s h = tt

finished_few : (n : ℕ) (s : State) → length s.ticks.all ≤ n → FewTicks n (programs.finished s)
unfolding programs.finished
finished_few n s h = finished_by_few (tables.undefined s.functions) n s h

second_by : (n : ℕ) (s : State) (r : Checked (Unit {0} × State)) → length s.ticks.all ≤ 0 → After n s r →
    FewTicks n (r >>>= (λ x. programs.finished x.1))
second_by n s (Ok x) h l = finished_few n x.1 (omega (arith, l.ticks))
second_by n s (Err f) h l = tt

second_few : (xs : List External) (s : State) → length s.ticks.all ≤ 0 →
    FewTicks (total (map item_weight xs)) (program.second_walk xs s)
second_few xs s h = second_by (total (map item_weight xs)) s (program.walk xs s) h (after (walk_light xs) s)

again_by : (xs : List External) (s : State) (r : Checked (Unit {0} × State)) → After 0 (starts.emptied s) r →
    FewTicks (total (map item_weight xs)) (r >>>= (λ x. program.second_walk xs x.1))
again_by xs s (Ok x) l = second_few xs x.1 (omega (arith, l.ticks))
again_by xs s (Err f) l = tt

again_few : (xs : List External) (s : State) → FewTicks (total (map item_weight xs)) (program.walk_again xs s)
again_few xs s = again_by xs s (starts.again s) (again_light s)

first_by : (xs : List External) (r : Checked (Unit {0} × State)) →
    FewTicks (total (map item_weight xs)) (r >>>= (λ x. program.walk_again xs x.1))
first_by xs (Ok x) = again_few xs x.1
first_by xs (Err f) = tt

start_by : (xs : List External) (r : Checked (Unit {0} × State)) →
    FewTicks (total (map item_weight xs)) (r >>>= (λ x. program.first_walk xs x.1))
start_by xs (Ok x) = first_by xs (program.walk xs x.1)
start_by xs (Err f) = tt

checked_few : (t : Tree) → FewTicks (total (map item_weight t.items)) (program.checked t)
unfolding program.checked
checked_few t = start_by t.items starts.start

ok_typed : (q p : TypedParts) → ◌≡◌ {A = Checked TypedParts} (Ok q) (Ok p) → q ≡ p
ok_typed q p e = cc

few_ticks : (n : ℕ) (r : Checked TypedParts) (p : TypedParts) → FewTicks n r → r ≡ Ok p → length p.ticks ≤ n
few_ticks n (Ok q) p h e = subst (λ (z : TypedParts). length z.ticks ≤ n) (ok_typed q p e) h
few_ticks n (Err f) p h e = absurd (cc)

pub ticks_few : (t : Tree) (p : TypedParts) → program.checked t ≡ Ok p → length p.ticks ≤ tree_weight t
ticks_few t p e = omega (arith, few_ticks (total (map item_weight t.items)) (program.checked t) p (checked_few t) e)
