-- A row of choices under which a run is defined for some instructions can be completed, so that it is defined for more.
use Rattle.std.proofs.Common.{◌≡◌, inl, inr, ◌⊎◌, ℕ, zero, suc, ◌+◌, ◌-◌, ◌<◌, ◌≤◌, Bool, true, false, ◌&&◌, not}
use Rattle.std.specs.Bool.{⊤}
use Rattle.std.proofs.Common.{List, [], ◌∷◌, ◌++◌, Option, Some, None, Result, Ok, Err, refl, sym, ap, ◌∙◌, subst}
use Rattle.std.proofs.Common.{arith}
use Rattle.std.proofs.Common.{length, drop, map, nat_eq, nat_le, nat_lt, is_some, if◌then◌else◌}
use Rattle.std.specs.Fn.{iterate}
use Rattle.std.proofs.lemmas.Bool.{cases_Bool, false≢true}
use Rattle.std.proofs.lemmas.Bool.Decides.{nat_tests}
use Rattle.host_edge.specs.declared.ending.MachineKind.{MachineKind}
use Rattle.host_edge.specs.declared.ending.MachineKind.TheVariants as kind
use Rattle.history.specs.Events.{Item, End, Input, Next, Given, AtEnd, Failing, next_byte}
use Rattle.mips_encoder.specs.declared.instruction.Instr.TheVariants.{Syscall}
use Rattle.icode_ops.specs.declared.op.Op.{Op}
use Rattle.icode_ops.specs.Places.{IsLegal, place_of}
use Rattle.icode_ir.specs.Build.{Build, finished}
use Rattle.icode_ir.specs.Decoded.{op_of}
use Rattle.mips_model.specs.declared.service.Service.{Service}
use Rattle.mips_model.specs.declared.service.Service.TheVariants as service
use Rattle.mips_model.specs.declared.bad_service.BadService.{BadService}
use Rattle.mips_model.specs.declared.bad_service.BadService.TheVariants as bad
use Rattle.mips_model.specs.Choices.{Choice}
use Rattle.mips_model.specs.CodeServices as services
use Rattle.mips_model.specs.CodeServices.{Generator, Outcome, Refused, Does, finish_refusal}
use Rattle.mips_model.specs.State.{Making, Outside, Data, State, World, register}
use Rattle.mips_model.specs.Services.{service_of, serve, get, got, read, makes, writes, generator_of, next_choice}
use Rattle.mips_model.specs.Services.{later_choices, spent, flushed_once, begun_with, issued_with, published_once}
use Rattle.mips_model.specs.Steps.{Fetched, apply, act, checked, execute, step, fetch, faulted, found, word_at}
use Rattle.mips_model.specs.Steps.{is_hazard}
use Rattle.mips_model.specs.Steps as steps
use Rattle.mips_model.specs.Beside.{beside, beside_state, is_service, is_at_service}
use Rattle.mips_model.specs.Run.{is_serving, IsLegalFor, IsWellChosen, IsFine}
use Rattle.mips_model.specs.Told.{Told, Passed, told, entered, entry_at, said, made, made_by}
use Rattle.word32.specs.declared.map.TheConstants.{ARENA}
use Rattle.mips_model.proofs.Aside.{step_aside}
use Rattle.mips_model_laws.proofs.Quiet.{serves}

-- another row of choices
abbrev pub with_row : List Choice → Outside → Outside
with_row r o = record o { making = record o.making { row = r } }

abbrev pub rowed_state : List Choice → State → State
rowed_state r s = beside_state (with_row r s.d.outside) s

abbrev pub rowed : List Choice → World → World
rowed r w = beside (with_row r w.state.d.outside) w

-- ---- services but the finish don't look at it

makes_rowed : (o : Outcome) (note : Making → Making) (r : List Choice) (recent : ℕ) (s : State)
    → ((m : Making) → note (record m { row = r }) ≡ record (note m) { row = r })
    → apply (makes o note (rowed_state r s).d) recent (rowed_state r s) ≡ rowed r (apply (makes o note s.d) recent s)
makes_rowed (Refused why) note r recent s e = refl
makes_rowed (Does v g change set) note r recent s e =
    ap (λ (m : Making). apply (makes (Does v g change set) (λ n. m) s.d) recent s)
    (e (record s.d.outside.making { generator = g }))

flush_rowed : (o : Outcome) (r : List Choice) (recent : ℕ) (s : State)
    → apply (writes o flushed_once (rowed_state r s).d) recent (rowed_state r s)
    ≡ rowed r (apply (writes o flushed_once s.d) recent s)
flush_rowed (Refused why) r recent s = refl
flush_rowed (Does v g change set) r recent s = refl

read_rowed : (next : Next) (r : List Choice) (recent : ℕ) (s : State)
    → apply (read next (rowed_state r s).d) recent (rowed_state r s) ≡ rowed r (apply (read next s.d) recent s)
read_rowed (Given b rest) r recent s = refl
read_rowed AtEnd r recent s = refl
read_rowed Failing r recent s = refl

get_rowed : (r : List Choice) (recent : ℕ) (s : State)
    → apply (get (rowed_state r s).d) recent (rowed_state r s) ≡ rowed r (apply (get s.d) recent s)
get_rowed r recent s = by s.d.outside.at_end
  where
    by : (b : Bool) → apply (if b then got 4294967295 true s.d.outside.input (rowed_state r s).d else
        read (next_byte s.d.outside.input) (rowed_state r s).d) recent (rowed_state r s)
        ≡ rowed r (apply (if b then got 4294967295 true s.d.outside.input s.d else
        read (next_byte s.d.outside.input) s.d) recent s)
    by true = refl
    by false = read_rowed (next_byte s.d.outside.input) r recent s

-- ---- the finish takes the next one of it

-- behind an instruction the row is this, or the run has ended
record Behind (r : List Choice) (here there : World) : Type 0 where
  row : List Choice
  does : here ≡ rowed row there
  so : (row ≡ r) ⊎ (is_some there.ending ≡ true)

finish_out : (o : Outcome) (c : Choice) (r : List Choice) (recent : ℕ) (s : State)
    → Behind r
    (apply (writes o (spent (register 4 s.d)) (rowed_state (c ∷ r) s).d) recent (rowed_state (c ∷ r) s))
    (apply (writes o (spent (register 4 s.d)) s.d) recent s)
finish_out (Refused why) c r recent s = record { row = c ∷ r; does = refl; so = inr refl }
finish_out (Does v g change set) c r recent s = record { row = r; does = refl; so = inl refl }

finish_rowed : (c : Choice) (r : List Choice) (recent : ℕ) (s : State) → next_choice s.d.outside.making.row ≡ c
    → Behind r (apply (serve (Some service.Finish) (rowed_state (c ∷ r) s).d) recent (rowed_state (c ∷ r) s))
    (apply (serve (Some service.Finish) s.d) recent s)
finish_rowed c r recent s same =
    let out = λ (x : Choice). services.finish x (register 4 s.d) (register 5 s.d) (register 6 s.d) (generator_of s.d) in
    subst (λ (x : Choice). Behind r
    (apply (writes (out c) (spent (register 4 s.d)) (rowed_state (c ∷ r) s).d) recent (rowed_state (c ∷ r) s))
    (apply (writes (out x) (spent (register 4 s.d)) s.d) recent s)) (sym same)
    (finish_out (out c) c r recent s)

-- a finish that is refused before it looks for a choice ends the run
abbrev refused : (b : Option Build) (at most frame : ℕ) → Type 0
refused None at most frame = ⊤
refused (Some b) at most frame = (why : BadService) × (finish_refusal b at most frame ≡ Some why)

refused_rowed : (b : Option Build) (x y : Choice) (r : List Choice) (recent : ℕ) (s : State)
    → refused b (register 4 s.d) (register 5 s.d) (register 6 s.d)
    → apply (writes (services.finish_in b x (register 4 s.d) (register 5 s.d) (register 6 s.d) (generator_of s.d))
    (spent (register 4 s.d)) (rowed_state r s).d) recent (rowed_state r s)
    ≡ rowed r (apply (writes (services.finish_in b y (register 4 s.d) (register 5 s.d) (register 6 s.d)
    (generator_of s.d)) (spent (register 4 s.d)) s.d) recent s)
refused_rowed None x y r recent s h = refl
refused_rowed (Some b) x y r recent s h =
    subst (λ (k : Option BadService).
    apply (writes (services.unless k (services.write (services.words_of b x (register 4 s.d) (register 6 s.d)) x
    (register 4 s.d) (register 5 s.d) (generator_of s.d))) (spent (register 4 s.d)) (rowed_state r s).d) recent
    (rowed_state r s)
    ≡ rowed r (apply (writes (services.unless k (services.write (services.words_of b y (register 4 s.d)
    (register 6 s.d)) y (register 4 s.d) (register 5 s.d) (generator_of s.d))) (spent (register 4 s.d)) s.d) recent s))
    (sym h.1) refl

-- any other service
serve_rowed : (x : Option Service) (r : List Choice) (recent : ℕ) (s : State)
    → (x ≡ Some service.Finish)
    ⊎ (apply (serve x (rowed_state r s).d) recent (rowed_state r s) ≡ rowed r (apply (serve x s.d) recent s))
serve_rowed None r recent s = inr refl
serve_rowed (Some service.PutInt) r recent s = inr refl
serve_rowed (Some service.Exit) r recent s = inr refl
serve_rowed (Some service.PutByte) r recent s = inr refl
serve_rowed (Some service.GetByte) r recent s = inr (get_rowed r recent s)
serve_rowed (Some service.Begin) r recent s =
    inr (makes_rowed (services.begin (register 4 s.d) (generator_of s.d)) (begun_with (register 4 s.d)) r recent s
    (λ m. refl))
serve_rowed (Some service.Emit) r recent s =
    inr (makes_rowed (services.emit (register 4 s.d) (register 5 s.d) (register 6 s.d) (generator_of s.d))
    (issued_with (op_of (register 4 s.d) (register 5 s.d) (register 6 s.d))) r recent s (λ m. refl))
serve_rowed (Some service.Finish) r recent s = inl refl
serve_rowed (Some service.Flush) r recent s =
    inr (flush_rowed (services.flush (register 4 s.d) (register 5 s.d) (generator_of s.d)) r recent s)
serve_rowed (Some service.Publish) r recent s =
    inr (makes_rowed (services.publish (register 4 s.d) (register 5 s.d) (register 6 s.d) (generator_of s.d))
    published_once r recent s (λ m. refl))

-- ---- an instruction

-- service 66 is the finish
finish_is : (n : ℕ) → service_of n ≡ Some service.Finish → nat_eq n 66 ≡ true
finish_is n e = by (nat_eq n 1) (nat_eq n 10) (nat_eq n 11) (nat_eq n 12) (nat_eq n 64) (nat_eq n 65) (nat_eq n 66)
    (nat_eq n 67) (nat_eq n 68) e
  where
    by : (a b c d f g h i j : Bool) →
        (if a then Some service.PutInt
        else (if b then Some service.Exit
        else (if c then Some service.PutByte
        else (if d then Some service.GetByte
        else (if f then Some service.Begin
        else (if g then Some service.Emit
        else (if h then Some service.Finish
        else (if i then Some service.Flush
        else (if j then Some service.Publish else None)))))))))
        ≡ Some service.Finish → h ≡ true
    by true b c d f g h i j e = absurd cc
    by false true c d f g h i j e = absurd cc
    by false false true d f g h i j e = absurd cc
    by false false false true f g h i j e = absurd cc
    by false false false false true g h i j e = absurd cc
    by false false false false false true h i j e = absurd cc
    by false false false false false false true i j e = refl
    by false false false false false false false true j e = absurd cc
    by false false false false false false false false true e = absurd cc
    by false false false false false false false false false e = absurd cc

abbrev Same : List Choice → World → Type 0
Same r w = step (rowed r w) ≡ rowed r (step w)

syscall_rowed : (r : List Choice) (s : State) → is_serving 66 (let w : World = record { state = s; ending = None } in w)
    ≡ false → is_at_service s ≡ true
    → checked Syscall (rowed_state r s) ≡ rowed r (checked Syscall s)
syscall_rowed r s idle at = by (is_hazard Syscall s) refl
  where
    number : is_hazard Syscall s ≡ false → nat_eq (register 2 s.d) 66 ≡ false
    number f = left (nat_eq (register 2 s.d) 66)
        (sym (ap (λ (b : Bool). b && (nat_eq (register 2 s.d) 66 && not (is_hazard Syscall s))) at
        ∙ ap (λ (b : Bool). nat_eq (register 2 s.d) 66 && not b) f) ∙ idle)
      where
        left : (b : Bool) → (b && true) ≡ false → b ≡ false
        left true e = absurd cc
        left false e = refl

    by : (b : Bool) → is_hazard Syscall s ≡ b
        → (if b then faulted kind.Hazard (rowed_state r s) else act Syscall (rowed_state r s))
        ≡ rowed r (if b then faulted kind.Hazard s else act Syscall s)
    by true e = refl
    by false e = elim (serve_rowed (service_of (register 2 s.d)) r (s.recent - 1) s) [
      | inl is ↦ absurd (false≢true (sym (number e) ∙ finish_is (register 2 s.d) is))
      | inr h ↦ h
    ]

found_rowed : (x : Result ℕ MachineKind) (r : List Choice) (s : State)
    → is_serving 66 (let w : World = record { state = s; ending = None } in w) ≡ false → is_at_service s ≡ true
    → is_service x ≡ true → execute (found x) (rowed_state r s) ≡ rowed r (execute (found x) s)
found_rowed (Err k) r s idle at is = absurd (false≢true is)
found_rowed (Ok w) r s idle at is =
    let e : 12 ≡ w = grind (arith, nat_tests, is) in
    subst (λ k. execute (found (Ok k)) (rowed_state r s) ≡ rowed r (execute (found (Ok k)) s)) e
    (syscall_rowed r s idle at)

service_rowed : (r : List Choice) (w : World) → is_serving 66 w ≡ false → is_at_service w.state ≡ true → Same r w
service_rowed r w idle at = by w.ending idle
  where
    by : (o : Option End) → is_serving 66 (let v : World = record { state = w.state; ending = o } in v) ≡ false
        → (if is_some o then rowed r (let v : World = record { state = w.state; ending = o } in v)
        else execute (fetch w.state.code w.state.pc) (rowed_state r w.state))
        ≡ rowed r (if is_some o then (let v : World = record { state = w.state; ending = o } in v)
        else execute (fetch w.state.code w.state.pc) w.state)
    by (Some e) idle = refl
    by None idle = found_rowed (word_at w.state.code w.state.pc) r w.state idle at at

-- an instruction that is idle service
other_rowed : (r : List Choice) (w : World) → is_at_service w.state ≡ false → Same r w
other_rowed r w f =
    let same : w.state.d.outside ≡ (step w).state.d.outside =
    sym (ap (λ (v : World). v.state.d.outside) (step_aside w w.state.d.outside f)) in
    step_aside w (with_row r w.state.d.outside) f
    ∙ ap (λ (o : Outside). beside (with_row r o) (step w)) same

not_finishing : (r : List Choice) (w : World) → is_serving 66 w ≡ false → Same r w
not_finishing r w idle = elim (cases_Bool (is_at_service w.state)) [
  | inl t ↦ service_rowed r w idle t
  | inr f ↦ other_rowed r w f
]

finishing_refused : (r : List Choice) (w : World) → is_serving 66 w ≡ true
    → refused (generator_of w.state.d).build (register 4 w.state.d) (register 5 w.state.d) (register 6 w.state.d)
    → Same r w
finishing_refused r w t h =
    let d = w.state.d in
    serves 66 (rowed r w) t
    ∙ refused_rowed (generator_of d).build (next_choice r) (next_choice d.outside.making.row) r (w.state.recent - 1)
    w.state h
    ∙ sym (ap (rowed r) (serves 66 w t))

finishing : (c : Choice) (r : List Choice) (w : World) → is_serving 66 w ≡ true
    → next_choice w.state.d.outside.making.row ≡ c → Behind r (step (rowed (c ∷ r) w)) (step w)
finishing c r w t same =
    let b = finish_rowed c r (w.state.recent - 1) w.state same in
    record {
      row = b.row;
      does = serves 66 (rowed (c ∷ r) w) t ∙ b.does ∙ sym (ap (rowed b.row) (serves 66 w t));
      so = subst (λ (v : World). (b.row ≡ r) ⊎ (is_some v.ending ≡ true)) (sym (serves 66 w t)) b.so;
    }

-- ---- runs

-- the next instruction looks at no choice, or it is a finish that does
data Kind (w : World) : Type 0 where
  Idle : ((r : List Choice) → IsWellChosen (rowed r w)) → ((r : List Choice) → Same r w) → Kind w
  Ready : is_serving 66 w ≡ true → (b : Build) → (generator_of w.state.d).build ≡ Some b → Kind w

kind_of : (w : World) → Kind w
kind_of w = elim (cases_Bool (is_serving 66 w)) [
  | inr f ↦ Idle (λ r t. absurd (false≢true (sym f ∙ t))) (λ r. not_finishing r w f)
  | inl t ↦ by t (generator_of w.state.d).build refl
]
  where
    within : is_serving 66 w ≡ true → (b : Build) → (generator_of w.state.d).build ≡ Some b → (x : Option BadService)
        → finish_refusal b (register 4 w.state.d) (register 5 w.state.d) (register 6 w.state.d) ≡ x → Kind w
    within t b e None is = Ready t b e
    within t b e (Some why) is =
        Idle
        (λ r u. subst (λ (o : Option Build). IsLegalFor o (register 4 w.state.d) (register 5 w.state.d)
        (register 6 w.state.d) (next_choice r)) (sym e)
        (λ none. absurd (let z = sym is ∙ none in cc)))
        (λ r. finishing_refused r w t (subst (λ (o : Option Build). refused o (register 4 w.state.d)
        (register 5 w.state.d) (register 6 w.state.d)) (sym e) (why, is)))

    by : is_serving 66 w ≡ true → (o : Option Build) → (generator_of w.state.d).build ≡ o → Kind w
    by t None e =
        Idle
        (λ r u. subst (λ (o : Option Build). IsLegalFor o (register 4 w.state.d) (register 5 w.state.d)
        (register 6 w.state.d) (next_choice r)) (sym e) tt)
        (λ r. finishing_refused r w t (subst (λ (o : Option Build). refused o (register 4 w.state.d)
        (register 5 w.state.d) (register 6 w.state.d)) (sym e) tt))
    by t (Some b) e =
        within t b e (finish_refusal b (register 4 w.state.d) (register 5 w.state.d) (register 6 w.state.d)) refl

-- a run that has ended
ended_step : (w : World) → is_some w.ending ≡ true → step w ≡ w
ended_step w e = ap (λ (b : Bool). if b then w else execute (fetch w.state.code w.state.pc) w.state) e

ended_fine : (n : ℕ) (w : World) → is_some w.ending ≡ true → IsFine n w
ended_fine n w e zero l = λ t. absurd (false≢true (sym (ap (λ (b : Bool). if b then false
    else (is_at_service w.state && (nat_eq (register 2 w.state.d) 66 && not (is_hazard Syscall w.state)))) e) ∙ t))
ended_fine n w e (suc i) l =
    subst (λ (v : World). IsWellChosen (iterate step i v)) (sym (ended_step w e))
    (ended_fine n w e i (omega (arith, l)))

ended_on : (n : ℕ) (w : World) → is_some w.ending ≡ true → iterate step n w ≡ w
ended_on zero w e = refl
ended_on (suc n) w e = ap (iterate step n) (ended_step w e) ∙ ended_on n w e

ended_told : (n : ℕ) (w : World) → is_some w.ending ≡ true → told n w ≡ []
ended_told zero w e = refl
ended_told (suc n) w e =
    ap (λ (xs : List Told). xs ++ (map Passed (said w) ++ (made w ++ told n (step w)))) enters
    ∙ ap (λ (v : World). map Passed (drop (length w.state.d.outside.history) v.state.d.outside.history)
    ++ (made w ++ told n v)) (ended_step w e)
    ∙ ap (λ (xs : List Item). map Passed xs ++ (made w ++ told n w)) (behind_all w.state.d.outside.history)
    ∙ ap (λ (xs : List Told). xs ++ told n w) makes
    ∙ ended_told n w e
  where
    not_serving : is_some w.ending ≡ true → is_serving 68 w ≡ false
    not_serving e = ap (λ (b : Bool). if b then false
        else (is_at_service w.state && (nat_eq (register 2 w.state.d) 68 && not (is_hazard Syscall w.state)))) e

    enters : entered w ≡ []
    enters = ap (λ (b : Bool). if b then [] else
        (if nat_lt w.state.pc ARENA then [] else entry_at (fetch w.state.code w.state.pc) w.state)) e

    makes : made w ≡ []
    makes = ap (λ (b : Bool). if b then
        made_by
        (services.publish (register 4 w.state.d) (register 5 w.state.d) (register 6 w.state.d) (generator_of w.state.d))
        (register 4 w.state.d) (register 5 w.state.d) w.state.d.outside.making.finishes else []) (not_serving e)

    behind_all : (xs : List Item) → drop (length xs) xs ≡ []
    behind_all [] = refl
    behind_all (x ∷ xs) = behind_all xs

-- ---- legal places

-- a slot for each register
pub slots : ℕ → List ℕ
slots zero = []
slots (suc n) = 12 ∷ slots n

slots_are : (n v : ℕ) → place_of (slots n) v ≡ 12
unfolding slots
slots_are zero v = refl
slots_are (suc n) zero = refl
slots_are (suc n) (suc v) = slots_are n v

slots_long : (n : ℕ) → length (slots n) ≡ n
unfolding slots
slots_long zero = refl
slots_long (suc n) = ap suc (slots_long n)

-- All slots are legal, so each list of ops has legal places.
pub slots_legal : (ops : List Op) (registers : ℕ) → IsLegal ops registers (slots registers)
slots_legal ops n = record {
  one_each = slots_long n;
  low = λ v. (let e = slots_are n v in omega (arith, e));
  kept = λ p v w is low ne after. (let e = slots_are n v in absurd (omega (arith, e, low)));
  entry = λ v w ne low a b. (let e = slots_are n v in absurd (omega (arith, e, low)));
}

-- a choice that is legal for each list of ops
abbrev all_slots : ℕ → Choice
all_slots registers = record { places = slots registers; spills = 0 }

-- ---- rows that go on

-- a row for so many instructions
pub record Row (n : ℕ) (w : World) : Type 0 where
  pub row : List Choice
  pub fine : IsFine n (rowed row w)

-- what comes behind a finish
behind_fine : (n : ℕ) (row : List Choice) (here w : World) → Behind row here w → IsFine n (rowed row w)
    → IsFine n here
behind_fine n row here w b f = elim b.so [
  | inl e ↦ subst (IsFine n) (sym b.does) (subst (λ (r : List Choice). IsFine n (rowed r w)) (sym e) f)
  | inr ends ↦ subst (IsFine n) (sym b.does) (ended_fine n (rowed b.row w) ends)
]

first_fine : (n : ℕ) (w : World) → IsWellChosen w → IsFine n (step w) → IsFine (suc n) w
first_fine n w now rest zero l = now
first_fine n w now rest (suc i) l = rest i (omega (arith, l))

complete_by : (n : ℕ) (w : World) → ((v : World) → Row n v) → Kind w → Row (suc n) w
complete_by n w on (Idle fine same) =
    let rest = on (step w) in
    record {
      row = rest.row;
      fine = first_fine n (rowed rest.row w) (fine rest.row)
          (subst (IsFine n) (sym (same rest.row)) rest.fine);
    }
complete_by n w on (Ready t b e) =
    let c = all_slots b.registers in
    let here = rowed (c ∷ []) w in
    let rest = on (step here) in
    record {
      row = c ∷ rest.row;
      fine = first_fine n (rowed (c ∷ rest.row) w)
          (λ u. subst (λ (o : Option Build). IsLegalFor o (register 4 w.state.d) (register 5 w.state.d)
          (register 6 w.state.d) c) (sym e) (λ none. slots_legal (finished b) b.registers))
          (behind_fine n rest.row (step (rowed (c ∷ rest.row) w)) (step here)
          (finishing c rest.row here t refl) rest.fine);
    }

pub complete : (n : ℕ) (w : World) → Row n w
complete zero w = record { row = []; fine = λ i l. absurd (omega (arith, l)) }
complete (suc n) w = complete_by n w (complete n) (kind_of w)

-- a row for more instructions, under which the first ones are as they were
pub record Completed (n more : ℕ) (w : World) : Type 0 where
  pub row : List Choice
  pub fine : IsFine more (rowed row w)
  pub tells : told n (rowed row w) ≡ told n w
  pub ending : (iterate step n (rowed row w)).ending ≡ (iterate step n w).ending
  -- before and behind each instruction all is as it was but for the choices that are left
  pub states : (i : ℕ) → i ≤ n → (r : List Choice) × (iterate step i (rowed row w) ≡ rowed r (iterate step i w))

-- what an instruction and those behind it tell
abbrev told_with : ℕ → World → World → List Told
told_with n w v =
    entered w ++ (map Passed (drop (length w.state.d.outside.history) v.state.d.outside.history) ++
    (made w ++ told n v))

entered_rowed : (r : List Choice) (w : World) → entered (rowed r w) ≡ entered w
entered_rowed r w = by (is_some w.ending) (nat_lt w.state.pc ARENA) (fetch w.state.code w.state.pc)
  where
    by : (o b : Bool) (x : Fetched)
        → (if o then [] else (if b then [] else entry_at x (rowed_state r w.state)))
        ≡ (if o then [] else (if b then [] else entry_at x w.state))
    by true b x = refl
    by false true x = refl
    by false false (steps.Refused k) = refl
    by false false (steps.Is i) = refl

behind_told : (n : ℕ) (row : List Choice) (here w : World) → Behind row here w
    → told n (rowed row w) ≡ told n w → told n here ≡ told n w
behind_told n row here w b same = elim b.so [
  | inl e ↦ (ap (told n) b.does ∙ ap (λ (r : List Choice). told n (rowed r w)) e ∙ same)
  | inr ends ↦ (ap (told n) b.does ∙ ended_told n (rowed b.row w) ends ∙ sym (ended_told n w ends))
]

behind_ending : (n : ℕ) (row : List Choice) (here w : World) → Behind row here w
    → (iterate step n (rowed row w)).ending ≡ (iterate step n w).ending
    → (iterate step n here).ending ≡ (iterate step n w).ending
behind_ending n row here w b same = elim b.so [
  | inl e ↦ (ap (λ (v : World). (iterate step n v).ending) b.does
      ∙ ap (λ (r : List Choice). (iterate step n (rowed r w)).ending) e ∙ same)
  | inr ends ↦ (ap (λ (v : World). (iterate step n v).ending) b.does
      ∙ ap (λ (v : World). v.ending) (ended_on n (rowed b.row w) ends)
      ∙ sym (ap (λ (v : World). v.ending) (ended_on n w ends)))
]

-- the states behind an instruction
abbrev SameStates : ℕ → World → World → Type 0
SameStates n here w = (i : ℕ) → i ≤ n → (r : List Choice) × (iterate step i here ≡ rowed r (iterate step i w))

behind_states : (n : ℕ) (row : List Choice) (here w : World) → Behind row here w
    → SameStates n (rowed row w) w → SameStates n here w
behind_states n row here w b rest i l = elim b.so [
  | inl e ↦ (let r = rest i l in
      (r.0, ap (iterate step i) b.does ∙ ap (λ (x : List Choice). iterate step i (rowed x w)) e ∙ r.1))
  | inr ends ↦ (
    b.row,
    ap (iterate step i) b.does ∙ ended_on i (rowed b.row w) ends
        ∙ sym (ap (rowed b.row) (ended_on i w ends)),
  )
]

states_on : (n : ℕ) (row : List Choice) (w : World) → SameStates n (step (rowed row w)) (step w)
    → SameStates (suc n) (rowed row w) w
states_on n row w rest zero l = (row, refl)
states_on n row w rest (suc i) l = rest i (omega (arith, l))

behind_history : (row : List Choice) (here w : World) → Behind row here w
    → here.state.d.outside.history ≡ w.state.d.outside.history
behind_history row here w b = ap (λ (v : World). v.state.d.outside.history) b.does

completed_by : (n more : ℕ) (w : World) → IsFine (suc n) w
    → ((v : World) → IsFine n v → Completed n more v) → Kind w → Completed (suc n) (suc more) w
completed_by n more w f on (Idle fine same) =
    let rest = on (step w) (λ i l. f (suc i) (omega (arith, l))) in
    record {
      row = rest.row;
      fine = first_fine more (rowed rest.row w) (fine rest.row)
          (subst (IsFine more) (sym (same rest.row)) rest.fine);
      tells = ap (λ (xs : List Told). xs ++ (map Passed (said (rowed rest.row w)) ++ (made w ++ told n
          (step (rowed rest.row w))))) (entered_rowed rest.row w) ∙ ap (told_with n w) (same rest.row)
          ∙ ap (λ (xs : List Told). entered w ++ (map Passed (said w) ++ (made w ++ xs))) rest.tells;
      ending = ap (λ (v : World). (iterate step n v).ending) (same rest.row) ∙ rest.ending;
      states = states_on n rest.row w
          (subst (λ (v : World). SameStates n v (step w)) (sym (same rest.row)) rest.states);
    }
completed_by n more w f on (Ready t b e) =
    let c = next_choice w.state.d.outside.making.row in
    let rest = on (step w) (λ i l. f (suc i) (omega (arith, l))) in
    let here = rowed (c ∷ rest.row) w in
    let there = finishing c rest.row w t refl in
    record {
      row = c ∷ rest.row;
      fine = first_fine more here (f 0 (omega arith)) (behind_fine more rest.row (step here) (step w) there
          rest.fine);
      tells = ap (λ (xs : List Told). xs ++ (map Passed (said here) ++ (made w ++ told n (step here))))
          (entered_rowed (c ∷ rest.row) w)
          ∙ ap (λ (xs : List Item). entered w
          ++ (map Passed (drop (length w.state.d.outside.history) xs) ++ (made w ++ told n (step here))))
          (behind_history rest.row (step here) (step w) there)
          ∙ ap (λ (xs : List Told). entered w ++ (map Passed (said w) ++ (made w ++ xs)))
          (behind_told n rest.row (step here) (step w) there rest.tells);
      ending = behind_ending n rest.row (step here) (step w) there rest.ending;
      states = states_on n (c ∷ rest.row) w (behind_states n rest.row (step here) (step w) there rest.states);
    }

-- so what a run tells within n instructions, for which it is defined, a run tells that is defined for more
pub completed : (n more : ℕ) (w : World) → IsFine n w → Completed n more w
completed zero more w f =
    let r = complete more w in record {
      row = r.row;
      fine = r.fine;
      tells = refl;
      ending = refl;
      states = λ i l. by_zero r.row i (omega (arith, l));
    }
  where
    by_zero : (row : List Choice) (i : ℕ) → i ≤ 0
        → (r : List Choice) × (iterate step i (rowed row w) ≡ rowed r (iterate step i w))
    by_zero row zero l = (row, refl)
    by_zero row (suc i) l = absurd (omega (arith, l))
completed (suc n) zero w f = record {
  row = w.state.d.outside.making.row;
  fine = λ i l. absurd (omega (arith, l));
  tells = refl;
  ending = refl;
  states = λ i l. ((iterate step i w).state.d.outside.making.row, refl);
}
completed (suc n) (suc more) w f = completed_by n more w f (completed n more) (kind_of w)
