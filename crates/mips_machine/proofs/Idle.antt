-- Which services finish no function, by the number in register 2.
use Rattle.std.proofs.Common.{◌≡◌, ◌≢◌, ℕ, Bool, true, false, ◌&&◌, not, nat_eq, Option, None, Some, refl, sym, ap, ◌∙◌}
use Rattle.std.proofs.Common.{arith, if◌then◌else◌}
use Rattle.std.proofs.lemmas.Bool.{false≢true}
use Rattle.std.proofs.lemmas.Bool.Decides.{nat_tests}
use Rattle.mips_model.specs.declared.service.Service.{Service}
use Rattle.mips_model.specs.declared.service.Service.TheVariants.{PutInt, Exit, PutByte, GetByte, Begin, Emit, Finish}
use Rattle.mips_model.specs.declared.service.Service.TheVariants.{Flush, Publish}
use Rattle.mips_model.specs.Services.{service_of}
use Rattle.mips_model.specs.Beside.{is_at_service}
use Rattle.mips_core.specs.Core.{is_service_hazard}
use Rattle.mips_machine.specs.Progress.{Progress}
use Rattle.mips_machine.specs.Served.{number}
use Rattle.mips_machine.proofs.Moves.{IsIdle}

-- a service of another number finishes no function, and neither does a hazard
pub idle_by : (old : Progress) (b : Bool) → nat_eq (number old) 66 ≡ b → b ≡ false → IsIdle old
idle_by old b is none rest u serving =
    absurd (false≢true
    (sym (and_false (is_at_service old.state) (not (is_service_hazard old.state)) (is ∙ none)) ∙ serving))
  where
    and_false : {x : Bool} (a c : Bool) → x ≡ false → (a && (x && c)) ≡ false
    and_false {x} true c e = ap (λ (y : Bool). y && c) e
    and_false {x} false c e = refl

pub idle_hazard : (old : Progress) → is_service_hazard old.state ≡ true → IsIdle old
idle_hazard old is rest u serving =
    absurd (false≢true (sym (and_not (is_at_service old.state) (nat_eq (number old) 66) is) ∙ serving))
  where
    and_not : {x : Bool} (a c : Bool) → x ≡ true → (a && (c && not x)) ≡ false
    and_not {x} true true e = ap not e
    and_not {x} true false e = refl
    and_not {x} false c e = refl

-- the number of a service
abbrev pub number_of : Service → ℕ
number_of PutInt = 1
number_of Exit = 10
number_of PutByte = 11
number_of GetByte = 12
number_of Begin = 64
number_of Emit = 65
number_of Finish = 66
number_of Flush = 67
number_of Publish = 68

pub service_number : (n : ℕ) (s : Service) → service_of n ≡ Some s → n ≡ number_of s
service_number n s =
    or_else PutInt refl (or_else Exit refl (or_else PutByte refl (or_else GetByte refl (or_else Begin refl
    (or_else Emit refl (or_else Finish refl (or_else Flush refl (or_else Publish refl (λ none. absurd cc)))))))))
  where
    x_of : Option Service → Service
    x_of None = PutInt
    x_of (Some y) = y

    by : (b : Bool) (x : Service) {k : ℕ} {later : Option Service} → nat_eq n k ≡ b → k ≡ number_of x →
        (later ≡ Some s → n ≡ number_of s) → (if b then Some x else later) ≡ Some s → n ≡ number_of s
    by true x {k} {later} is same other found =
        let e : n ≡ k = grind (arith, nat_tests, is) in
        e ∙ same ∙ ap (λ (o : Option Service). number_of (x_of o)) found
    by false x {k} {later} is same other found = other found

    or_else : (x : Service) {k : ℕ} {later : Option Service} → k ≡ number_of x →
        (later ≡ Some s → n ≡ number_of s) → (if nat_eq n k then Some x else later) ≡ Some s → n ≡ number_of s
    or_else x {k} {later} same other found = by (nat_eq n k) x refl same other found

-- so each service but one is idle
pub idle_service : (old : Progress) (s : Service) → service_of (number old) ≡ Some s → nat_eq (number_of s) 66 ≡ false →
    IsIdle old
idle_service old s is other =
    idle_by old (nat_eq (number_of s) 66) (ap (λ n. nat_eq n 66) (service_number (number old) s is)) other

pub idle_unknown : (old : Progress) → service_of (number old) ≡ None → IsIdle old
idle_unknown old is = by (nat_eq (number old) 66) refl
  where
    none : None ≢ Some Finish
    none e = absurd cc

    by : (b : Bool) → nat_eq (number old) 66 ≡ b → IsIdle old
    by false e = idle_by old false e refl
    by true e =
        let n : number old ≡ 66 = grind (arith, nat_tests, e) in
        absurd (none (sym is ∙ ap service_of n))
