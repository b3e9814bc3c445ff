-- A run that is fine meets a legal choice where it finishes a function.
use Rattle.std.proofs.Common.{◌≡◌, ℕ, zero, suc, ◌+◌, Bool, true, false, ◌&&◌, ◌||◌, not, List, [], ◌∷◌, ◌++◌}
use Rattle.std.proofs.Common.{Option, Some, None, Result, Ok, Err, refl, sym, ap, ◌∙◌, subst, arith, nat_eq}
use Rattle.std.specs.Fn.{iterate}
use Rattle.host_edge.specs.declared.ending.MachineKind.{MachineKind}
use Rattle.mips_encoder.specs.declared.instruction.Instr.{Instr}
use Rattle.mips_encoder.specs.declared.instruction.Instr.TheVariants.{Syscall}
use Rattle.mips_encoder.specs.Decoded.{instr_of}
use Rattle.mips_encoder.specs.Table.{word_of}
use Rattle.mips_encoder.proofs.Inverse.{word_of-instr_of}
use Rattle.mips_model.specs.State.{Outside, Code, Data, State, World, register}
use Rattle.mips_model.specs.Services.{generator_of, next_choice}
use Rattle.mips_model.specs.Steps.{Fetched, Refused, Is, found, decoded, word_at, step, going, load_hazard}
use Rattle.mips_model.specs.Laws.{at, Reaches}
use Rattle.mips_model.specs.Beside.{is_service}
use Rattle.mips_model.specs.Run.{is_serving, IsLegalFor, IsWellChosen, IsFine}
use Rattle.generator_laws.specs.Calls.{Call, Finish, Asks, IsRun, RunsWith, behind_call, outside_behind}
use Rattle.generator_laws.specs.Served.{AreObeyed, outside_after}
use Rattle.generator_laws.specs.Chosen.{ChoicesAreMet}
use Rattle.generator_laws.proofs.Makings.{runs_made}

-- where a SYSCALL is fetched the word is that of SYSCALL
service_there : (x : Result ℕ MachineKind) → found x ≡ Is Syscall → is_service x ≡ true
service_there (Err k) e = absurd cc
service_there (Ok w) e = by (instr_of w) refl e
  where
    by : (o : Option Instr) → instr_of w ≡ o → decoded o ≡ Is Syscall → nat_eq w 12 ≡ true
    by None is e = absurd cc
    by (Some i) is e =
        let same : i ≡ Syscall = ap (λ (f : Fetched). instr_or f) e in
        let word : word_of Syscall ≡ w = word_of-instr_of w Syscall (is ∙ ap (λ (j : Instr). let o : Option Instr =
        Some j in o) same) in
        subst (λ n. nat_eq n 12 ≡ true) word refl
      where
        instr_or : Fetched → Instr
        instr_or (Refused k) = i
        instr_or (Is j) = j

-- the machine that asks for a finish is at service 66
asks_serves : (address most frame : ℕ) (ws : List ℕ) (c : Code) (a loaded : ℕ) (d : Data)
    → Asks (Finish address most frame ws) c a loaded d → is_serving 66 (going (at c a loaded d)) ≡ true
asks_serves address most frame ws c a loaded d q =
    let x : is_service (word_at c a) ≡ true = service_there (word_at c a) q.stands in
    let y : nat_eq (register 2 d) 66 ≡ true = ap (λ n. nat_eq n 66) q.called.0 in
    ap (λ (b : Bool). b && (nat_eq (register 2 d) 66 && not (load_bad || (false || false)))) x
    ∙ ap (λ (b : Bool). b && not (load_bad || (false || false))) y
    ∙ ap (λ (b : Bool). not (b || (false || false))) q.quiet
  where
    load_bad : Bool
    load_bad = load_hazard loaded Syscall

-- so many steps and then more
steps_on : (m n : ℕ) (w : World) → iterate step (m + n) w ≡ iterate step n (iterate step m w)
steps_on zero n w = ap (λ k. iterate step k w) (let e : 0 + n ≡ n = omega arith in e)
steps_on (suc m) n w =
    ap (λ k. iterate step k w) (let e : suc m + n ≡ suc (m + n) = omega arith in e) ∙ steps_on m n (step w)

-- behind so many steps it is fine on
pub fine_behind : (m n : ℕ) (s mid : State) → Reaches m s mid → IsFine (m + n) (going s) → IsFine n (going mid)
fine_behind m n s mid r f i l =
    subst IsWellChosen (steps_on m i (going s) ∙ ap (iterate step i) r.by) (f (m + i) (omega (arith, l)))

-- the choice that the finish takes is legal for the builder that it finds
legal_met : (before after_calls : List Call) (address most frame : ℕ) (ws : List ℕ) (count : ℕ)
    (s after : State) → IsRun (before ++ (Finish address most frame ws ∷ after_calls)) count s after
    → AreObeyed (before ++ (Finish address most frame ws ∷ after_calls)) s.d.outside → IsFine count (going s)
    → let o = outside_after before s.d.outside in
    IsLegalFor o.making.generator.build address most frame (next_choice o.making.row)
legal_met [] rest address most frame ws count s after t obeyed fine =
    let w : IsWellChosen (going (at t.code t.place t.loaded t.found)) =
    subst IsWellChosen t.comes.by.by (fine t.before (let e = t.counted in omega (arith, e))) in
    let q = t.asks.called in
    let serves = asks_serves address most frame ws t.code t.place t.loaded t.found t.asks in
    let legal = w serves in
    subst (λ (o : Outside). IsLegalFor o.making.generator.build address most frame (next_choice o.making.row))
    t.comes.kept
    (subst (λ n. IsLegalFor (generator_of t.found).build address most n (next_choice t.found.outside.making.row)) q.3
    (subst (λ n. IsLegalFor (generator_of t.found).build address n (register 6 t.found)
    (next_choice t.found.outside.making.row)) q.2
    (subst (λ n. IsLegalFor (generator_of t.found).build n (register 5 t.found) (register 6 t.found)
    (next_choice t.found.outside.making.row)) q.1 legal)))
legal_met (call ∷ before) rest address most frame ws count s after t obeyed fine =
    let mid = behind_call call t.code t.place t.found in
    let whole : RunsWith (call ∷ []) (t.before + 1) s mid =
    record {
      by = record {
        before = t.before;
        code = t.code;
        place = t.place;
        loaded = t.loaded;
        found = t.found;
        comes = t.comes;
        asks = t.asks;
        left = 0;
        counted = refl;
        goes_on = record { by = record { by = refl }; kept = refl };
      };
    } in
    let made = runs_made (call ∷ []) (t.before + 1) s mid whole (obeyed.0, tt) in
    let e = t.counted in
    let fine' : IsFine (t.before + 1 + t.left) (going s) =
    subst (λ n. IsFine n (going s)) (omega (arith, e)) fine in
    let passed : outside_behind call t.found.outside ≡ outside_behind call s.d.outside =
    ap (outside_behind call) t.comes.kept in
    subst (λ (o : Outside). IsLegalFor (outside_after before o).making.generator.build address most frame
    (next_choice (outside_after before o).making.row)) passed
    (legal_met before rest address most frame ws t.left mid after t.goes_on
    (subst (AreObeyed (before ++ (Finish address most frame ws ∷ rest))) (sym passed) obeyed.1)
    (fine_behind (t.before + 1) t.left s mid made.reaches fine'))

pub choices_met : ChoicesAreMet
choices_met first rest address most frame words count s after r obeyed fine =
    legal_met first rest address most frame words count s after r.by obeyed fine
