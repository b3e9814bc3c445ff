-- An op that has its operand first does the same where HI or LO was read just before it: what it tells, too, and which
-- choices it meets. Its first instruction calls no service.
use Rattle.std.proofs.Common.{◌≡◌, ℕ, zero, suc, ◌≤◌, ◌<◌, Bool, true, false, ◌&&◌, not, List, [], ◌++◌, map, Result}
use Rattle.std.proofs.Common.{drop, length, inl, inr, Ok, Err, None, refl, sym, ap, ◌∙◌, subst, arith, nat_eq}
use Rattle.std.proofs.Common.{if◌then◌else◌}
use Rattle.std.proofs.lemmas.Bool.{cases_Bool, false≢true}
use Rattle.std.proofs.lemmas.Bool.Decides.{nat_tests}
use Rattle.std.specs.Fn.{iterate}
use Rattle.word32.specs.declared.map.TheConstants.{ARENA}
use Rattle.host_edge.specs.declared.ending.MachineKind.{MachineKind}
use Rattle.mips_encoder.specs.declared.instruction.Instr.{Instr}
use Rattle.mips_encoder.specs.declared.instruction.Instr.TheVariants.{Syscall}
use Rattle.mips_assembly.specs.Assembly.{addu}
use Rattle.mips_model.specs.State.{Code, Data, World, register}
use Rattle.mips_model.specs.Beside.{is_service}
use Rattle.mips_model.specs.Steps.{Fetched, Is, Refused, fetch, found, word_at, step, going, is_hazard}
use Rattle.mips_model.specs.Laws.{HasAt}
use Rattle.mips_model.specs.Run.{is_serving, IsWellChosen, IsFine}
use Rattle.mips_model.specs.Told.{Told, Passed, told, entered, made, made_by, said}
use Rattle.mips_model.specs.CodeServices as services
use Rattle.mips_model.specs.Services.{generator_of}
use Rattle.mips_model_laws.specs.Clean.{spoils, is_of_written, IsUnspoiled}
use Rattle.mips_model_laws.proofs.Below.{enters_none}
use Rattle.icode_templates.specs.Layout.{Spot, InRegister, InSlot}
use Rattle.icode_templates.specs.Templates.{load_code}
use Rattle.icode_templates_proof.specs.Moves.{behind}
use Rattle.icode_expand_proof.proofs.Recent.{IsGentle, same_run}

service_found : (x : Result ℕ MachineKind) → is_service x ≡ true → found x ≡ Is Syscall
service_found (Err k) e = absurd (false≢true e)
service_found (Ok w) e =
    let same : 12 ≡ w = grind (arith, nat_tests, e) in
    ap (λ (n : ℕ). let r : Result ℕ MachineKind = Ok n in found r) (sym same)

-- the instruction at the address is no SYSCALL
pub record IsPlain (c : Code) (a : ℕ) : Type 0 where
  pub first : Instr
  pub stands : fetch c a ≡ Is first
  pub other : first ≡ Syscall → ⊥

pub load_plain : (c : Code) (a : ℕ) (w : Spot) (rest : List Instr) → HasAt c a (load_code 24 w ++ rest) → IsPlain c a
load_plain c a (InRegister r) rest h = record { first = addu 24 r 0; stands = h.0; other = λ e. cc }
load_plain c a (InSlot false offset) rest h = record { first = _; stands = h.0; other = λ e. cc }
load_plain c a (InSlot true offset) rest h = record { first = _; stands = h.0; other = λ e. cc }

pub serves_none : (n : ℕ) (c : Code) (a q : ℕ) (d : Data) → IsPlain c a → is_serving n (going (behind c a q d)) ≡ false
serves_none n c a q d p = elim (cases_Bool (is_service (word_at c a))) [
  | inr f ↦ ap (λ (b : Bool). b && (nat_eq (register 2 d) n && not (is_hazard Syscall (behind c a q d)))) f
  | inl t ↦ absurd (p.other (instr_is (sym p.stands ∙ service_found (word_at c a) t)))
]
  where
    instr_or : Fetched → Instr
    instr_or (Refused k) = p.first
    instr_or (Is j) = j

    instr_is : Is p.first ≡ Is Syscall → p.first ≡ Syscall
    instr_is e = ap (λ (f : Fetched). instr_or f) e

module _ (c : Code) (a q : ℕ) (d : Data) (few : q ≤ 1) (gentle : IsGentle c a d) (plain : IsPlain c a)
    (low : a < ARENA) where
  abbrev here : World
  here = going (behind c a q d)

  abbrev base : World
  base = going (behind c a 0 d)

  pub over : (k : ℕ) → 1 ≤ k → iterate step k here ≡ iterate step k base
  over k some = by q few
    where
      by : (p : ℕ) → p ≤ 1 → iterate step k (going (behind c a p d)) ≡ iterate step k base
      by zero le = refl
      by (suc zero) le = sym (same_run k c a d some gentle)
      by (suc (suc p)) le = absurd (omega (arith, le))

  pub goes_any : (k : ℕ) → (iterate step k base).ending ≡ None → (iterate step k here).ending ≡ None
  goes_any zero e = refl
  goes_any (suc k) e = ap (λ (w : World). w.ending) (over (suc k) (omega arith)) ∙ e

  made_none : (p : ℕ) → made (going (behind c a p d)) ≡ []
  made_none p =
      ap (λ (b : Bool). if b then made_by (services.publish (register 4 d) (register 5 d) (register 6 d)
      (generator_of d)) (register 4 d) (register 5 d) d.outside.making.finishes else [])
      (serves_none 68 c a p d plain)

  pub told_any : (n : ℕ) → told n here ≡ told n base
  told_any zero = refl
  told_any (suc n) =
      let one : step here ≡ step base = over 1 (omega arith) in
      ap (λ (l : List Told). l ++ (map Passed (said here) ++ (made here ++ told n (step here))))
      (enters_none here low ∙ sym (enters_none base low))
      ∙ ap (λ (l : List Told). entered base ++ (map Passed (said here) ++ (l ++ told n (step here))))
      (made_none q ∙ sym (made_none 0))
      ∙ ap (λ (w : World). entered base ++ (map Passed (drop (length d.outside.history) w.state.d.outside.history)
      ++ (made base ++ told n w))) one

  pub unspoiled_any : (n : ℕ) → IsUnspoiled n base → IsUnspoiled n here
  unspoiled_any n h zero l =
      ap (λ (b : Bool). if b then not (is_of_written (register 4 d) (register 5 d) c.arena) else false)
      (serves_none 67 c a q d plain)
  unspoiled_any n h (suc i) l =
      subst (λ (w : World). spoils w ≡ false) (sym (over (suc i) (omega arith))) (h (suc i) l)

  pub fine_any : (n : ℕ) → IsFine n here → IsFine n base
  fine_any n h zero l = λ t. absurd (false≢true (sym (serves_none 66 c a 0 d plain) ∙ t))
  fine_any n h (suc i) l = subst IsWellChosen (over (suc i) (omega arith)) (h (suc i) l)
