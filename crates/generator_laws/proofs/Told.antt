-- What is told of a run that calls services: by each stretch between calls nothing, and by each call what it makes.
use Rattle.std.proofs.Common.{◌<◌}
use Rattle.std.proofs.Common.{◌≡◌, ℕ, zero, suc, ◌+◌, Bool, true, false, ◌&&◌, not, List, [], ◌∷◌, ◌++◌}
use Rattle.std.proofs.Common.{length, drop, map, Option, Some, None, Result, Ok, Err, refl, sym, ap, ◌∙◌, subst, arith}
use Rattle.std.proofs.Common.{nat_eq, nat_lt, if◌then◌else◌, is_some, append-nil}
use Rattle.std.specs.Fn.{iterate}
use Rattle.word32.specs.declared.map.TheConstants.{ARENA, FUNCTION_ROWS}
use Rattle.history.specs.Events.{Item}
use Rattle.host_edge.specs.declared.ending.MachineKind.{MachineKind}
use Rattle.mips_encoder.specs.Decoded.{instr_of}
use Rattle.mips_encoder.specs.declared.instruction.Instr.{Instr}
use Rattle.mips_encoder.specs.declared.instruction.Instr.TheVariants.{Syscall}
use Rattle.mips_encoder.proofs.Inverse.{word_of-instr_of}
use Rattle.mips_model.specs.CodeServices as services
use Rattle.mips_model.specs.CodeServices.{Outcome}
use Rattle.mips_model.specs.State.{Outside, Code, Data, State, World, register}
use Rattle.mips_model.specs.State.{Finish as Finished}
use Rattle.mips_model.specs.Services.{generator_of}
use Rattle.mips_model.specs.Steps.{Fetched, Refused, Is, decoded, found, word_at, fetch, step, run, going}
use Rattle.mips_model.specs.Steps.{is_hazard}
use Rattle.mips_model.specs.Beside.{is_service, is_at_service}
use Rattle.mips_model.specs.Laws.{at}
use Rattle.mips_model.specs.Told.{Told, Passed, Made, Entered, passed, row_from, entry_of, entry_at, entered, made_by}
use Rattle.mips_model.specs.Told.{made, said, told}
use Rattle.mips_model_laws.proofs.Below.{none_entered}
use Rattle.mips_model.proofs.Runs.{run_0, events}
use Rattle.mips_model.proofs.Told.{told_is_history, told-+}
use Rattle.generator_laws.specs.Calls.{Call, Begin, Emit, Finish, Flush, Publish, Asks, Own, behind_call, IsRun}
use Rattle.generator_laws.specs.Calls.{IsCalled, outside_behind}
use Rattle.generator_laws.specs.Served.{IsObeyed, AreObeyed}
use Rattle.generator_laws.specs.Told.{without_entries, told_call, told_calls, CallsAreTold, CallsAreToldBelow}
use Rattle.generator_laws.proofs.Makings.{call_made, no_hazard}
use Rattle.generator_laws.proofs.Published.{functions_in, functions_of, step_counts}

-- ---- lists of what is told

pub without-++ : (xs ys : List Told) → without_entries (xs ++ ys) ≡ without_entries xs ++ without_entries ys
without-++ [] ys = refl
without-++ (Passed item ∷ xs) ys = ap (λ (l : List Told). Passed item ∷ l) (without-++ xs ys)
without-++ (Made f built ∷ xs) ys = ap (λ (l : List Told). Made f built ∷ l) (without-++ xs ys)
without-++ (Entered f ∷ xs) ys = without-++ xs ys

-- how many functions are made
abbrev count_made : List Told → ℕ
count_made [] = 0
count_made (Passed item ∷ items) = count_made items
count_made (Made f built ∷ items) = suc (count_made items)
count_made (Entered f ∷ items) = count_made items

count-++ : (xs ys : List Told) → count_made (xs ++ ys) ≡ count_made xs + count_made ys
count-++ [] ys = omega arith
count-++ (Passed item ∷ xs) ys = count-++ xs ys
count-++ (Made f built ∷ xs) ys = let rest = count-++ xs ys in omega (arith, rest)
count-++ (Entered f ∷ xs) ys = count-++ xs ys

count_passed : (xs : List Item) → count_made (map Passed xs) ≡ 0
count_passed [] = refl
count_passed (x ∷ xs) = count_passed xs

-- where nothing passes and no function is made, functions are entered at most
nothing_told : (xs : List Told) → passed xs ≡ [] → count_made xs ≡ 0 → without_entries xs ≡ []
nothing_told [] none few = refl
nothing_told (Passed item ∷ xs) none few = let z : ⊥ = cc in absurd z
nothing_told (Made f built ∷ xs) none few = let z : ⊥ = omega (arith, few) in absurd z
nothing_told (Entered f ∷ xs) none few = nothing_told xs none few

nothing_behind : {X : Type 0} (xs ys : List X) → xs ++ ys ≡ xs → ys ≡ []
nothing_behind [] ys e = e
nothing_behind (x ∷ xs) ys e = nothing_behind xs ys cc

all_dropped : {X : Type 0} (xs : List X) → drop (length xs) xs ≡ []
all_dropped [] = refl
all_dropped (x ∷ xs) = all_dropped xs

-- ---- one instruction

-- a function that is entered isn't made, and is left out
entry_of_counts : (o : Option ℕ) → (count_made (entry_of o) ≡ 0) × (without_entries (entry_of o) ≡ [])
entry_of_counts None = (refl, refl)
entry_of_counts (Some f) = (refl, refl)

entry_counts : (f : Fetched) (s : State) → (count_made (entry_at f s) ≡ 0) × (without_entries (entry_at f s) ≡ [])
entry_counts (Refused kind) s = (refl, refl)
entry_counts (Is i) s = entry_of_counts (row_from FUNCTION_ROWS 0 s.pc s.d.table)

entered_counts : (w : World) → (count_made (entered w) ≡ 0) × (without_entries (entered w) ≡ [])
entered_counts w = by (is_some w.ending) (nat_lt w.state.pc ARENA)
  where
    by : (b c : Bool) →
        (count_made (if b then [] else (if c then [] else entry_at (fetch w.state.code w.state.pc) w.state)) ≡ 0)
        × (without_entries (if b then [] else (if c then [] else entry_at (fetch w.state.code w.state.pc) w.state))
        ≡ [])
    by true c = (refl, refl)
    by false true = (refl, refl)
    by false false = entry_counts (fetch w.state.code w.state.pc) w.state

-- what is made is counted, and is not left out
made_by_counts : (o : Outcome) (row at : ℕ) (finishes : List Finished) →
    (count_made (made_by o row at finishes) ≡ length (made_by o row at finishes))
    × (without_entries (made_by o row at finishes) ≡ made_by o row at finishes)
made_by_counts (services.Refused why) row at finishes = (refl, refl)
made_by_counts (services.Does answer g change set) row at finishes = (refl, refl)

pub made_counts : (w : World) → (count_made (made w) ≡ length (made w)) × (without_entries (made w) ≡ made w)
made_counts w =
    let d = w.state.d in
    let o = services.publish (register 4 d) (register 5 d) (register 6 d) (generator_of d) in
    let items = made_by o (register 4 d) (register 5 d) d.outside.making.finishes in
    by items (made_by_counts o (register 4 d) (register 5 d) d.outside.making.finishes) _
  where
    by : (items : List Told) → (count_made items ≡ length items) × (without_entries items ≡ items) → (b : Bool) →
        (count_made (if b then items else []) ≡ length (if b then items else []))
        × (without_entries (if b then items else []) ≡ (if b then items else []))
    by items is true = is
    by items is false = (refl, refl)

run_suc : (n : ℕ) (w : World) → run (suc n) w ≡ run n (step w)
unfolding run
run_suc n w = refl

pub run_is : (n : ℕ) (w : World) → run n w ≡ iterate step n w
unfolding run
run_is n w = refl

-- ---- a stretch without calls

told_counts : (n : ℕ) (w : World) → functions_of (run n w) ≡ functions_of w + count_made (told n w)
told_counts zero w = ap functions_of (run_0 w) ∙ omega arith
told_counts (suc n) w =
    let a = entered w in
    let b = map Passed (said w) in
    let rest = told n (step w) in
    let all = count-++ a (b ++ (made w ++ rest)) in
    let more = count-++ b (made w ++ rest) in
    let last = count-++ (made w) rest in
    let e = (entered_counts w).0 in
    let p = count_passed (said w) in
    let m = (made_counts w).0 in
    let s = step_counts w in
    let ih = told_counts n (step w) in
    let next = ap functions_of (run_suc n w) in
    omega (arith, all, more, last, e, p, m, s, ih, next)

pub own_tells : (n : ℕ) (s after : State) → Own n s after → without_entries (told n (going s)) ≡ []
own_tells n s after own =
    let w = going s in
    let to : run n w ≡ going after = run_is n w ∙ own.by.by in
    let passes : events w ++ passed (told n w) ≡ events w =
    told_is_history n w ∙ ap events to ∙ ap (λ (o : Outside). o.history) own.kept in
    let counts = told_counts n w in
    let same : functions_of (run n w) ≡ functions_of w = ap functions_of to ∙ ap functions_in own.kept in
    nothing_told (told n w) (nothing_behind (events w) (passed (told n w)) passes) (omega (arith, counts, same))

-- ---- a call

found_service : (r : Result ℕ MachineKind) → found r ≡ Is Syscall → is_service r ≡ true
found_service (Err k) is = let z : ⊥ = cc in absurd z
found_service (Ok w) is = by (instr_of w) refl is
  where
    by : (o : Option Instr) → instr_of w ≡ o → decoded o ≡ Is Syscall → nat_eq w 12 ≡ true
    by None e is = let z : ⊥ = cc in absurd z
    by (Some i) e is =
        let same : i ≡ Syscall = cc in
        let word : 12 ≡ w = word_of-instr_of w Syscall (e ∙ ap Some same) in
        subst (λ n. nat_eq n 12 ≡ true) word refl

serving : (s : State) → fetch s.code s.pc ≡ Is Syscall → is_hazard Syscall s ≡ false →
    made (going s) ≡ (if nat_eq (register 2 s.d) 68
    then made_by (services.publish (register 4 s.d) (register 5 s.d) (register 6 s.d) (generator_of s.d))
    (register 4 s.d) (register 5 s.d) s.d.outside.making.finishes else [])
serving s stands quiet = by (nat_eq (register 2 s.d) 68) (found_service (word_at s.code s.pc) stands) quiet
  where
    by : (t : Bool) → is_at_service s ≡ true → is_hazard Syscall s ≡ false →
        (if (is_at_service s && (t && not (is_hazard Syscall s)))
        then made_by (services.publish (register 4 s.d) (register 5 s.d) (register 6 s.d) (generator_of s.d))
        (register 4 s.d) (register 5 s.d) s.d.outside.making.finishes else [])
        ≡ (if t then made_by (services.publish (register 4 s.d) (register 5 s.d) (register 6 s.d) (generator_of s.d))
        (register 4 s.d) (register 5 s.d) s.d.outside.making.finishes else [])
    by true service quiet = rw (service, quiet) refl
    by false service quiet = rw service refl

-- what is made by a call
call_makes : (call : Call) (d : Data) →
    IsCalled call (register 2 d) (register 4 d) (register 5 d) (register 6 d) → IsObeyed call d.outside →
    (if nat_eq (register 2 d) 68
    then made_by (services.publish (register 4 d) (register 5 d) (register 6 d) (generator_of d))
    (register 4 d) (register 5 d) d.outside.making.finishes else []) ≡ told_call call d.outside
call_makes (Begin parameters) d is does = let e = is.0 in rw e refl
call_makes (Emit op) d is does = let e = is.0 in rw e refl
call_makes (Finish address most frame words) d is does = let e = is.0 in rw e refl
call_makes (Flush address count) d is does = let e = is.0 in rw e refl
call_makes (Publish row address count) d is does =
    let e = is.0 in
    let e1 = is.1 in
    let e2 = is.2 in
    let e3 = is.3 in
    let fits = does.0 in
    rw (e, e1, e2, e3, fits) refl

history_kept : (call : Call) (o : Outside) → (outside_behind call o).history ≡ o.history
history_kept (Begin parameters) o = refl
history_kept (Emit op) o = refl
history_kept (Finish address most frame words) o = refl
history_kept (Flush address count) o = refl
history_kept (Publish row address count) o = refl

call_tells : (call : Call) (c : Code) (a l : ℕ) (d : Data) → Asks call c a l d → IsObeyed call d.outside →
    without_entries (told 1 (going (at c a l d))) ≡ told_call call d.outside
call_tells call c a l d asks obeyed =
    let s = at c a l d in
    let w = going s in
    let made_it = (call_made call c a l d asks obeyed).by in
    let none : said w ≡ [] =
    ap (λ (v : World). drop (length d.outside.history) (events v)) made_it
    ∙ ap (λ (xs : List Item). drop (length d.outside.history) xs) (history_kept call d.outside)
    ∙ all_dropped d.outside.history in
    let makes : made w ≡ told_call call d.outside =
    serving s asks.stands (no_hazard l c a d asks.quiet) ∙ call_makes call d asks.called obeyed in
    without-++ (entered w) (map Passed (said w) ++ (made w ++ []))
    ∙ ap (λ (xs : List Told). xs ++ without_entries (map Passed (said w) ++ (made w ++ []))) (entered_counts w).1
    ∙ ap (λ (xs : List Item). without_entries (map Passed xs ++ (made w ++ []))) none
    ∙ ap without_entries (append-nil (made w)) ∙ (made_counts w).1 ∙ makes

-- ---- all of them

are_told : (calls : List Call) (count : ℕ) (s after : State) → IsRun calls count s after →
    AreObeyed calls s.d.outside → without_entries (told count (going s)) ≡ told_calls calls s.d.outside
are_told [] count s after goes obeyed = own_tells count s after goes
are_told (call ∷ calls) count s after goes obeyed =
    let o = s.d.outside in
    let w = going s in
    let here : IsObeyed call goes.found.outside = subst (λ x. IsObeyed call x) (sym goes.comes.kept) obeyed.0 in
    let next : AreObeyed calls (outside_behind call goes.found.outside) =
    subst (λ x. AreObeyed calls (outside_behind call x)) (sym goes.comes.kept) obeyed.1 in
    let mid = at goes.code goes.place goes.loaded goes.found in
    let behind = behind_call call goes.code goes.place goes.found in
    let come : run goes.before w ≡ going mid = run_is goes.before w ∙ goes.comes.by.by in
    let called : run 1 (going mid) ≡ going behind =
    run_is 1 (going mid) ∙ (call_made call goes.code goes.place goes.loaded goes.found goes.asks here).by in
    let first = own_tells goes.before s mid goes.comes in
    let second = call_tells call goes.code goes.place goes.loaded goes.found goes.asks here in
    let rest = are_told calls goes.left behind after goes.goes_on next in
    let all : count ≡ goes.before + (1 + goes.left) = omega (arith, goes.counted) in
    ap (λ n. without_entries (told n w)) all
    ∙ ap without_entries (told-+ goes.before (1 + goes.left) w)
    ∙ without-++ (told goes.before w) (told (1 + goes.left) (run goes.before w))
    ∙ ap (λ (xs : List Told). xs ++ without_entries (told (1 + goes.left) (run goes.before w))) first
    ∙ ap (λ (v : World). without_entries (told (1 + goes.left) v)) come
    ∙ ap without_entries (told-+ 1 goes.left (going mid))
    ∙ without-++ (told 1 (going mid)) (told goes.left (run 1 (going mid)))
    ∙ ap (λ (xs : List Told). xs ++ without_entries (told goes.left (run 1 (going mid)))) second
    ∙ ap (λ (v : World). told_call call goes.found.outside ++ without_entries (told goes.left v)) called
    ∙ ap (λ (xs : List Told). told_call call goes.found.outside ++ xs) rest
    ∙ ap (λ (x : Outside). told_call call x ++ told_calls calls (outside_behind call x)) goes.comes.kept

pub calls_told : CallsAreTold
calls_told calls count s after goes obeyed = are_told calls count s after goes.by obeyed

-- ---- where no function is entered, nothing is left out

passed_stay : (xs : List Item) (rest : List Told) →
    without_entries (map Passed xs ++ rest) ≡ map Passed xs ++ without_entries rest
passed_stay [] rest = refl
passed_stay (x ∷ xs) rest = ap (λ (l : List Told). Passed x ∷ l) (passed_stay xs rest)

pub none_left_out : (n : ℕ) (w : World) → ((i : ℕ) → i < n → entered (iterate step i w) ≡ []) →
    told n w ≡ without_entries (told n w)
none_left_out zero w none = refl
none_left_out (suc n) w none =
    let rest = told n (step w) in
    let here : entered w ≡ [] = none 0 (omega arith) in
    let later : rest ≡ without_entries rest =
    none_left_out n (step w) (λ i l. none (suc i) (omega (arith, l))) in
    let all : (map Passed (said w) ++ (made w ++ rest))
    ≡ without_entries (map Passed (said w) ++ (made w ++ rest)) =
    ap (λ (l : List Told). map Passed (said w) ++ (made w ++ l)) later
    ∙ ap (λ (l : List Told). map Passed (said w) ++ (l ++ without_entries rest)) (sym (made_counts w).1)
    ∙ ap (λ (l : List Told). map Passed (said w) ++ l) (sym (without-++ (made w) rest))
    ∙ sym (passed_stay (said w) (made w ++ rest)) in
    ap (λ (l : List Told). l ++ (map Passed (said w) ++ (made w ++ rest))) here
    ∙ all
    ∙ ap (λ (l : List Told). without_entries (l ++ (map Passed (said w) ++ (made w ++ rest)))) (sym here)

pub calls_told_below : CallsAreToldBelow
calls_told_below calls count s after goes obeyed below =
    none_left_out count (going s) (none_entered count s below) ∙ calls_told calls count s after goes obeyed
