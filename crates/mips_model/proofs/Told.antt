-- What a run tells only grows, and stays once the run has ended. What passed in it is the run's history; and where no
-- function is made or entered, nothing else is told.
use Rattle.std.proofs.Common.{ℕ, zero, suc, ◌+◌, ◌≡◌, ◌<◌, List, [], ◌∷◌, ◌++◌, length, drop, map, Option, Some, None}
use Rattle.std.proofs.Common.{refl, sym, ap, ◌∙◌, arith, append_assoc, append-nil, is_some, if◌then◌else◌}
use Rattle.std.specs.Prelude.{Bool, true, false, nat_lt}
use Rattle.word32.specs.declared.map.TheConstants.{ARENA, FUNCTION_ROWS}
use Rattle.pace.specs.Pace.{Seen}
use Rattle.pace.specs.Claims.{Grows}
use Rattle.history.specs.Events.{Item, End, Input}
use Rattle.image_file.specs.Image.{ImageParts}
use Rattle.mips_model.specs.Choices.{Choice}
use Rattle.mips_model.specs.CodeServices as services
use Rattle.mips_model.specs.CodeServices.{Outcome}
use Rattle.mips_model.specs.State.{Finish, State, World, register}
use Rattle.mips_model.specs.Services.{generator_of}
use Rattle.mips_model.specs.Steps.{Fetched, Refused, Is, fetch, step, run}
use Rattle.mips_model.specs.Run.{begins, runs, is_serving}
use Rattle.mips_model.specs.Told.{Told, Passed, Made, Entered, passed, row_from, entry_of, entry_at, entered}
use Rattle.mips_model.specs.Told.{made_by, made, said, told, tells, IsQuiet}
use Rattle.mips_model.proofs.Runs.{run_0, step_stays, step_grows, events, ends_once}

-- what stands behind a front part
behind : (xs zs : List Item) → drop (length xs) (xs ++ zs) ≡ zs
behind [] zs = refl
behind (x ∷ xs) zs = behind xs zs

-- the events before an instruction, and those that it leaves
said_is : (w : World) → events w ++ said w ≡ events (step w)
said_is w =
    let g = step_grows w in
    ap (λ (xs : List Item). events w ++ drop (length (events w)) xs) (sym g.1)
    ∙ (ap (λ (xs : List Item). events w ++ xs) (behind (events w) g.0) ∙ g.1)

run_suc : (n : ℕ) (w : World) → run (suc n) w ≡ run n (step w)
unfolding run
run_suc n w = refl

-- what passed in two parts
passed-++ : (xs ys : List Told) → passed (xs ++ ys) ≡ passed xs ++ passed ys
passed-++ [] ys = refl
passed-++ (Passed item ∷ xs) ys = ap (λ (zs : List Item). item ∷ zs) (passed-++ xs ys)
passed-++ (Made f built ∷ xs) ys = passed-++ xs ys
passed-++ (Entered f ∷ xs) ys = passed-++ xs ys

passed-map : (xs : List Item) → passed (map Passed xs) ≡ xs
passed-map [] = refl
passed-map (x ∷ xs) = ap (λ (zs : List Item). x ∷ zs) (passed-map xs)

-- nothing passes where a function is entered or made
entry_of_passes : (o : Option ℕ) → passed (entry_of o) ≡ []
entry_of_passes None = refl
entry_of_passes (Some f) = refl

entry_at_passes : (f : Fetched) (s : State) → passed (entry_at f s) ≡ []
entry_at_passes (Refused kind) s = refl
entry_at_passes (Is i) s = entry_of_passes (row_from FUNCTION_ROWS 0 s.pc s.d.table)

entered_passes : (w : World) → passed (entered w) ≡ []
entered_passes w = by (is_some w.ending) (nat_lt w.state.pc ARENA)
  where
    by : (b c : Bool) →
        passed (if b then [] else (if c then [] else entry_at (fetch w.state.code w.state.pc) w.state)) ≡ []
    by true c = refl
    by false true = refl
    by false false = entry_at_passes (fetch w.state.code w.state.pc) w.state

made_by_passes : (o : Outcome) (row at : ℕ) (finishes : List Finish) → passed (made_by o row at finishes) ≡ []
made_by_passes (services.Refused why) row at finishes = refl
made_by_passes (services.Does answer g change set) row at finishes = refl

made_passes : (w : World) → passed (made w) ≡ []
made_passes w =
    let d = w.state.d in
    let o = services.publish (register 4 d) (register 5 d) (register 6 d) (generator_of d) in
    let items = made_by o (register 4 d) (register 5 d) d.outside.making.finishes in
    by items (made_by_passes o (register 4 d) (register 5 d) d.outside.making.finishes) (is_serving 68 w)
  where
    by : (items : List Told) → passed items ≡ [] → (b : Bool) → passed (if b then items else []) ≡ []
    by items is true = is
    by items is false = refl

-- what passes in what an instruction tells, and behind it
tells_said : (w : World) (rest : List Told) →
    passed (entered w ++ (map Passed (said w) ++ (made w ++ rest))) ≡ said w ++ passed rest
tells_said w rest =
    passed-++ (entered w) (map Passed (said w) ++ (made w ++ rest))
    ∙ (ap (λ (xs : List Item). xs ++ passed (map Passed (said w) ++ (made w ++ rest))) (entered_passes w)
    ∙ (passed-++ (map Passed (said w)) (made w ++ rest)
    ∙ (ap (λ (xs : List Item). xs ++ passed (made w ++ rest)) (passed-map (said w))
    ∙ ap (λ (xs : List Item). said w ++ xs)
    (passed-++ (made w) rest ∙ ap (λ (xs : List Item). xs ++ passed rest) (made_passes w)))))

-- what passed in what is told stands behind the events so far
pub told_is_history : (n : ℕ) (w : World) → events w ++ passed (told n w) ≡ events (run n w)
told_is_history zero w = append-nil (events w) ∙ sym (ap events (run_0 w))
told_is_history (suc n) w =
    let rest : events (step w) ++ passed (told n (step w)) ≡ events (run n (step w)) = told_is_history n (step w) in
    ap (λ (xs : List Item). events w ++ xs) (tells_said w (told n (step w)))
    ∙ (sym (append_assoc (events w) (said w) (passed (told n (step w))))
    ∙ (ap (λ (xs : List Item). xs ++ passed (told n (step w))) (said_is w)
    ∙ (rest ∙ ap events (sym (run_suc n w)))))

-- where no function is made or entered, nothing is told but what passed
map-++ : (xs ys : List Item) → map Passed (xs ++ ys) ≡ map Passed xs ++ map Passed ys
map-++ [] ys = refl
map-++ (x ∷ xs) ys = ap (λ (zs : List Told). Passed x ∷ zs) (map-++ xs ys)

pub told_plainly :
    (n : ℕ) (w : World) → ((i : ℕ) → i < n → IsQuiet (run i w)) → told n w ≡ map Passed (passed (told n w))
told_plainly zero w quiet = refl
told_plainly (suc n) w quiet =
    let now = quiet 0 (omega arith) in
    let enters : entered w ≡ [] = sym (ap entered (run_0 w)) ∙ now.0 in
    let makes : made w ≡ [] = sym (ap made (run_0 w)) ∙ now.1 in
    let later : (i : ℕ) → i < n → IsQuiet (run i (step w)) =
    λ i less.
    let q = quiet (suc i) (omega arith) in
    (ap entered (sym (run_suc i w)) ∙ q.0, ap made (sym (run_suc i w)) ∙ q.1) in
    let rest = told n (step w) in
    let same : rest ≡ map Passed (passed rest) = told_plainly n (step w) later in
    ap (λ (xs : List Told). xs ++ (map Passed (said w) ++ (made w ++ rest))) enters
    ∙ (ap (λ (xs : List Told). map Passed (said w) ++ (xs ++ rest)) makes
    ∙ (ap (λ (xs : List Told). map Passed (said w) ++ xs) same
    ∙ (sym (map-++ (said w) (passed rest)) ∙ ap (map Passed) (sym (tells_said w rest)))))

-- what more instructions tell comes behind
pub told-+ : (m n : ℕ) (w : World) → told (m + n) w ≡ told m w ++ told n (run m w)
told-+ zero n w = let e : 0 + n ≡ n = omega arith in ap (λ (k : ℕ). told k w) e ∙ ap (told n) (sym (run_0 w))
told-+ (suc m) n w =
    let e : suc m + n ≡ suc (m + n) = omega arith in
    let a = entered w in
    let b = map Passed (said w) in
    let c = made w in
    let d = told m (step w) in
    let z = told n (run (suc m) w) in
    let more : told (m + n) (step w) ≡ d ++ z =
    told-+ m n (step w) ∙ ap (λ (v : World). d ++ told n v) (sym (run_suc m w)) in
    ap (λ (k : ℕ). told k w) e
    ∙ (ap (λ (xs : List Told). a ++ (b ++ (c ++ xs))) more
    ∙ (ap (λ (xs : List Told). a ++ (b ++ xs)) (sym (append_assoc c d z))
    ∙ (ap (λ (xs : List Told). a ++ xs) (sym (append_assoc b (c ++ d) z)) ∙ sym (append_assoc a (b ++ (c ++ d)) z))))

-- a run that has ended tells nothing more
none_entered : (w : World) (e : End) → w.ending ≡ Some e → entered w ≡ []
none_entered w e is =
    ap (λ (o : Option End). if is_some o then []
    else (if nat_lt w.state.pc ARENA then [] else entry_at (fetch w.state.code w.state.pc) w.state)) is

none_made : (w : World) (e : End) → w.ending ≡ Some e → made w ≡ []
none_made w e is =
    let s = w.state in
    ap (λ (o : Option End). let v : World = record { state = s; ending = o } in made v) is

all_of : (xs : List Item) → drop (length xs) xs ≡ []
all_of [] = refl
all_of (x ∷ xs) = all_of xs

none_said : (w : World) (e : End) → w.ending ≡ Some e → said w ≡ []
none_said w e is =
    ap (λ (v : World). drop (length (events w)) (events v)) (step_stays w e is) ∙ all_of (events w)

pub told_stays : (n : ℕ) (w : World) (e : End) → w.ending ≡ Some e → told n w ≡ []
told_stays zero w e is = refl
told_stays (suc n) w e is =
    ap (λ (xs : List Told). xs ++ (map Passed (said w) ++ (made w ++ told n (step w)))) (none_entered w e is)
    ∙ (ap (λ (xs : List Item). map Passed xs ++ (made w ++ told n (step w))) (none_said w e is)
    ∙ (ap (λ (xs : List Told). xs ++ told n (step w)) (none_made w e is)
    ∙ (ap (told n) (step_stays w e is) ∙ told_stays n w e is)))

-- ---- of the run of an image

pub tells_grow : (image : ImageParts) (input : Input) (row : List Choice) → Grows (tells image input row)
tells_grow image input row = record {
  more = λ n k. (told k (run n (begins image input row)), sym (told-+ n k (begins image input row)));
  stays =
      λ n k e is.
      let w = begins image input row in
      let history : told (n + k) w ≡ told n w =
      told-+ n k w
      ∙ (ap (λ (xs : List Told). told n w ++ xs) (told_stays k (run n w) e is) ∙ append-nil (told n w)) in
      let last : (run (n + k) w).ending ≡ (run n w).ending = ap (λ (v : World). v.ending) (ends_once n k w e is) in
      ap (λ (xs : List Told). let s : Seen Told End = record { history = xs; ending = (run (n + k) w).ending } in s)
      history
      ∙ ap (λ (o : Option End). let s : Seen Told End = record { history = told n w; ending = o } in s) last;
}

-- what passed in what is told is the run's history
pub tells_its_run :
    (image : ImageParts) (input : Input) (row : List Choice) (n : ℕ) →
    passed (tells image input row n).history ≡ (runs image input row n).history
tells_its_run image input row n = told_is_history n (begins image input row)

-- where no function is made or entered, that is all
pub tells_plainly :
    (image : ImageParts) (input : Input) (row : List Choice) (n : ℕ) →
    ((i : ℕ) → i < n → IsQuiet (run i (begins image input row))) →
    (tells image input row n).history ≡ map Passed (runs image input row n).history
tells_plainly image input row n quiet =
    told_plainly n (begins image input row) quiet ∙ ap (map Passed) (tells_its_run image input row n)
