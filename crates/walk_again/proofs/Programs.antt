-- A program whose first walk marked no variable and met no string and no prototype: the second walk finds what
-- the first did.
use Rattle.std.proofs.Common.{◌≡◌, ◌≤◌, List, [], ◌∷◌, length, refl, ap, sym, subst, ◌∙◌}
use Rattle.std.proofs.Common.{Ok, Err, true, arith}
use Rattle.tick_tree.specs.declared.syntax.External.{External}
use Rattle.tick_tree.specs.Faults.{Checked, ◌>>=◌ as ◌>>>=◌}
use Rattle.check_rules.specs.Functions as functions
use Rattle.check_rules.specs.Images as images
use Rattle.check_rules.specs.declared.state.State.{State}
use Rattle.check_rules.specs.declared.library.LibraryFunction.{LibraryFunction}
use Rattle.check_rules.specs.Starts.{libraries, whole_library, add_libraries, add_library, empty}
use Rattle.check_rules.specs.Starts.{emptied, start, again}
use Rattle.check_globals.specs.Programs.{finished}
use Rattle.check_globals.specs.Program as program
use Rattle.walk_again.specs.Again.{Found, told, Kept, Silent, After, Again}
use Rattle.walk_again.specs.Laws.{is_settled, WalksAgain}
use Rattle.walk_again.proofs.Steps.{bind_again, pure_again, after}
use Rattle.walk_again.proofs.Settled.{Settled, settled}
use Rattle.walk_again.proofs.States.{declare_again}
use Rattle.walk_again.proofs.Globals.{walk_again}
use Rattle.walk_again.proofs.Whole.{expressions_again, statements_again}

abbrev found : (s : State) → Settled s → Found
found s h = record {
  objects = s.frame.done;
  strings_at = images.aligned s.image.end;
  earlier = s.functions.defined;
  unmarked = h.unmarked;
}

all_again : (k : Found) (fs : List LibraryFunction) → Again k (add_libraries fs)
unfolding add_libraries add_library
all_again k [] = pure_again tt
all_again k (f ∷ fs) = bind_again (declare_again _ _ _) (λ u. all_again k fs)

libraries_again : (k : Found) → Again k libraries
libraries_again k = all_again k whole_library

-- the second walk begins as the first one, with what that found
begins : (s : State) (h : Settled s) → emptied s ≡ told (found s h) empty
begins s h = refl

ended_same : (s : State) (h : Settled s) → finished (told (found s h) s) ≡ finished s
unfolding finished functions.undefined
ended_same s h = rw (h.strings, h.prototypes) refl

-- what comes of a step, once more, where nothing was added
second : {A : Type 0} (k : Found) (s new : State) (x : A) (r q : Checked (A × State)) → After k s r q →
    r ≡ Ok (x, new) →
    Kept s new × (Silent s new → q ≡ Ok (x, told k new))
second k s new x (Ok y) q h e = subst (λ z. After k s z q) e h
second k s new x (Err f) q h e = absurd (cc)

nothing_more : {A : Type 0} (xs ys : List A) → length xs ≤ length ys → ys ≡ [] → length xs ≡ 0
nothing_more xs ys h e = omega (arith, h, ap length e)

start_silent : (s new : State) → Kept s new → Settled new → Silent empty s
start_silent s new l h = record {
  strings = nothing_more s.image.strings new.image.strings l.strings h.strings;
  prototypes = nothing_more s.functions.prototypes new.functions.prototypes l.prototypes h.prototypes;
}

walk_silent : (s new : State) → Kept s new → Settled new → Silent s new
walk_silent s new l h = record {
  strings = ap length h.strings ∙ sym (nothing_more s.image.strings new.image.strings l.strings h.strings);
  prototypes =
      ap length h.prototypes
      ∙ sym (nothing_more s.functions.prototypes new.functions.prototypes l.prototypes h.prototypes);
}

-- both walks together
pub once : (xs : List External) (s new : State) → libraries empty ≡ Ok (tt, s) → program.walk xs s ≡ Ok (tt, new) →
    Settled new → program.walk_again xs new ≡ finished new
unfolding again
once xs s new b w h =
    let k = found new h in
    let first = second k empty s tt (libraries empty) (libraries (told k empty))
    (after (libraries_again k) empty refl) b in
    let next = second k s new tt (program.walk xs s) (program.walk xs (told k s))
    (after (walk_again k xs) s (first.0.objects)) w in
    let starts : libraries (emptied new) ≡ Ok (tt, told k s) = first.1 (start_silent s new next.0 h) in
    let walks : program.walk xs (told k s) ≡ Ok (tt, told k new) = next.1 (walk_silent s new next.0 h) in
    ap (λ r. r >>>= (λ z. program.second_walk xs z.1)) starts ∙
    ap (λ r. r >>>= (λ z. finished z.1)) walks ∙
    ended_same new h

-- the first walk is enough
pub enough : (xs : List External) (s new : State) → start ≡ Ok (tt, s) → program.walk xs s ≡ Ok (tt, new) →
    is_settled new ≡ true → program.walk_again xs new ≡ finished new
unfolding start
enough xs s new b w h = once xs s new b w (settled new h)

pub walks_again : WalksAgain
walks_again = record { expressions = expressions_again; statements = statements_again; programs = enough }
