-- What was executed of a number of instructions, one instruction after another.
use Rattle.std.proofs.Common.{zero, suc, inr, ◌≡◌, ◌≢◌, ℕ, ◌+◌, ◌-◌, ◌≤◌, ◌<◌, List, Bool, true, false, None}
use Rattle.std.proofs.Common.{refl, sym, ap, subst, ◌∙◌, arith, ⊎_elim}
use Rattle.flat_memory.specs.Spaces.{text_of}
use Rattle.mips_model.specs.State.{World}
use Rattle.mips_model.specs.Steps.{step}
use Rattle.mips_model.specs.Beside.{is_at_service}
use Rattle.mips_model.proofs.Traces.{text_stays}
use Rattle.mips_core.specs.declared.halt.Went.{Went}
use Rattle.mips_core.specs.declared.halt.Went.TheVariants as went
use Rattle.mips_core.specs.Core.{CoreKept, Follows, GoesOn, IsPassed, Leaves, Pauses, at, behind, state_of, world_of}
use Rattle.mips_core.proofs.Loops.{goes_count, goes_more}
use Rattle.mips_core.proofs.Stepped.{Services, Others, Onward, one_more, runs_on, same_code}
use Rattle.mips_core.proofs.Stepped.{same_stop, serves_by, stopped_not}

-- so many of n are left, and the next instruction stands at this address
pub record Ran (n left pc : ℕ) (first now : CoreKept) : Type 0 where
  pub within : left ≤ n
  pub ran : GoesOn (n - left) first (at pc now)
  pub on : now.stopped ≡ None
  pub text : (state_of now).code.text ≡ (state_of first).code.text

-- the same, and the core itself says where the next instruction stands
pub record Ends (n left : ℕ) (first now : CoreKept) : Type 0 where
  pub ran : GoesOn (n - left) first now
  pub text : (state_of now).code.text ≡ (state_of first).code.text

-- one instruction more
pub further : {n left pc next : ℕ} {first mid new : CoreKept} → 0 < left → Ran n left pc first mid →
    Onward (n - left) first next mid new → Ran n (left - 1) next first new
further {n} {left} some r o =
    let le = r.within in
    record {
      within = omega (arith, le, some);
      ran = goes_count (omega (arith, le, some)) o.ran;
      on = o.on;
      text = o.text ∙ r.text;
    }

-- where a step is known, as that of a nop or of a word that isn't fetched
pub record Stepped (count next : ℕ) (first mid new : CoreKept) : Type 0 where
  pub ran : GoesOn (count + 1) first (at next new)
  pub text : (state_of new).code.text ≡ (state_of mid).code.text

pub stepped : {count pc next : ℕ} {first mid new : CoreKept} → mid.stopped ≡ None →
    is_at_service (state_of (at pc mid)) ≡ false → world_of (at next new) ≡ step (world_of (at pc mid)) →
    GoesOn count first (at pc mid) → Stepped count next first mid new
stepped {count} {pc} {next} {first} {mid} {new} on service is goes = record {
  ran = goes_more goes on service is;
  text = ap (λ (w : World). w.state.code.text) is ∙ text_stays 1 (world_of (at pc mid));
}

pub onward : {count next : ℕ} {first mid new : CoreKept} → new.stopped ≡ None → Stepped count next first mid new →
    Onward count first next mid new
onward on s = record { ran = s.ran; on = on; text = s.text }

-- one instruction more, and a nop behind it, where nothing was pending
pub follows : {n left pc pc' left' : ℕ} {first mid new k : CoreKept} {r : Went} (none : Bool) → 0 < left →
    Ran n left pc first mid → Services r pc mid new → Others false r pc mid new → r ≢ went.Service →
    r ≢ went.Stopped → Follows (behind r pc new) (left - 1) none pc' left' k → Ran n left' pc' first k
follows {n} {left} {pc} {pc'} {left'} {first} {mid} {new} {k} {r} none some ran f g not runs h =
    let m = one_more false r pc mid new f g not ran.on ran.ran in
    let le = ran.within in
    let on : (behind r pc new).stopped ≡ None = same_stop r pc new ∙ runs_on r pc new runs m.leaves in
    let text : (state_of (behind r pc new)).code.text ≡ (state_of first).code.text =
    same_code r pc new ∙ m.text ∙ ran.text in
    ⊎_elim
    (λ (p : IsPassed (behind r pc new) (left - 1) pc' left' k).
    let more = p.some in
    let fewer = p.fewer in
    record {
      within = omega (arith, le, fewer);
      ran = goes_count (omega (arith, le, some, more, fewer)) (goes_more m.ran on p.other p.world);
      on = h.on;
      text = ap (λ (w : World). w.state.code.text) p.world ∙ text_stays 1 (world_of (behind r pc new)) ∙ text;
    })
    (λ (e : (at pc' k ≡ behind r pc new) × (left' ≡ left - 1)).
    let fewer = e.1 in
    record {
      within = omega (arith, le, fewer);
      ran = subst (GoesOn (n - left') first) (sym e.0) (goes_count (omega (arith, le, some, fewer)) m.ran);
      on = h.on;
      text = ap (λ (c : CoreKept). (state_of c).code.text) e.0 ∙ text;
    })
    h.went

pub fewer_left : {from k : CoreKept} {left pc left' : ℕ} {none : Bool} → 0 < left →
    Follows from (left - 1) none pc left' k → left' < left
fewer_left {from} {k} {left} {pc} {left'} some h =
    ⊎_elim
    (λ (p : IsPassed from (left - 1) pc left' k). let fewer = p.fewer in omega (arith, some, fewer))
    (λ (e : (at pc k ≡ from) × (left' ≡ left - 1)). let fewer = e.1 in omega (arith, some, fewer))
    h.went

-- what is told to the call that goes on behind an instruction
pub left_by : {n left pc : ℕ} {first mid new : CoreKept} {r : Went} → Ran n left pc first mid →
    Services r pc mid new → Others false r pc mid new → r ≢ went.Service →
    Leaves false r pc new × ((state_of new).code.text ≡ (state_of first).code.text)
left_by {n} {left} {pc} {first} {mid} {new} {r} ran f g not =
    let m = one_more false r pc mid new f g not ran.on ran.ran in (m.leaves, m.text ∙ ran.text)

-- the machine has stopped at an instruction, and the core stands there
pub stops : {n left pc : ℕ} {first mid new now : CoreKept} → 0 < left → Ran n left pc first mid →
    Stepped (n - left) pc first mid new → now ≡ at pc new → Ends n (left - 1) first now
stops {n} {left} {pc} {first} {mid} {new} {now} some r s is =
    let le = r.within in
    record {
      ran = subst (GoesOn (n - (left - 1)) first) (sym is) (goes_count (omega (arith, le, some)) s.ran);
      text = ap (λ (k : CoreKept). (state_of k).code.text) is ∙ (s.text ∙ r.text);
    }

pub stopped : {n left pc : ℕ} {first mid new now : CoreKept} (aside : _) → 0 < left → Ran n left pc first mid →
    Services went.Stopped pc mid new → Others aside went.Stopped pc mid new → now ≡ at pc new →
    Ends n (left - 1) first now
stopped {n} {left} {pc} {first} {mid} {new} {now} aside some r f g is =
    let m = one_more aside went.Stopped pc mid new f g stopped_not r.on r.ran in
    stops {mid = mid} {new = new} some r (record { ran = m.ran; text = m.text }) is

pub halts : {n left pc : ℕ} {first mid new now : CoreKept} (aside : _) → Ran n left pc first mid →
    Services went.Stopped pc mid new → Others aside went.Stopped pc mid new → now ≡ at pc new → now.stopped ≢ None
halts {n} {left} {pc} {first} {mid} {new} {now} aside r f g is =
    let m = one_more aside went.Stopped pc mid new f g stopped_not r.on r.ran in
    subst (λ (k : CoreKept). k.stopped ≢ None) (sym is) m.leaves

-- nothing changed, and the core stands where it stood
pub stays : {n left pc : ℕ} {first mid new now : CoreKept} → Ran n left pc first mid → new ≡ mid → now ≡ at pc new →
    Ends n left first now
stays {n} {left} {pc} {first} {mid} {new} {now} r same is =
    let here : now ≡ at pc mid = is ∙ ap (at pc) same in
    record {
      ran = subst (GoesOn (n - left) first) (sym here) r.ran;
      text = ap (λ (k : CoreKept). (state_of k).code.text) here ∙ r.text;
    }

-- a service is next
pub serves : {pc : ℕ} {mid new : CoreKept} (aside : _) → Services went.Service pc mid new →
    Others aside went.Service pc mid new → new ≡ mid
serves {pc} {mid} {new} aside f g = (serves_by aside (is_at_service (state_of (at pc mid))) pc new f g).1.1

-- a service is next, or the count is spent
pub serves_or_spent : {pc : ℕ} {mid new : CoreKept} {P : Type 0} (left : ℕ) → (left ≡ 0 → P × (new ≡ mid)) →
    (0 < left → Services went.Service pc mid new) → (0 < left → Others false went.Service pc mid new) → new ≡ mid
serves_or_spent zero e f g = (e refl).1
serves_or_spent {pc} {mid} {new} {P} (suc n) e f g =
    let some : 0 < suc n = omega (arith) in
    serves {pc = pc} {mid = mid} {new = new} false (f some) (g some)

pub serves_next : {pc : ℕ} {mid new now : CoreKept} (left : ℕ) → mid.stopped ≡ None →
    (0 < left → Services went.Service pc mid new) → (0 < left → Others false went.Service pc mid new) →
    now ≡ at pc new → Pauses left now
serves_next zero on f g is = tt
serves_next {pc} {mid} {new} {now} (suc n) on f g is =
    let some : 0 < suc n = omega (arith) in
    let s = serves_by false (is_at_service (state_of (at pc mid))) pc new (f some) (g some) in
    let here : now ≡ at pc mid = is ∙ ap (at pc) s.1.1 in
    inr (
      subst (λ (k : CoreKept). k.stopped ≡ None) (sym here) on,
      subst (λ (k : CoreKept). is_at_service (state_of k) ≡ true) (sym here) s.0,
    )

-- the same number and address in other words
pub along : {n left pc left' pc' : ℕ} {first now : CoreKept} → left' ≡ left → pc' ≡ pc → Ran n left pc first now →
    Ran n left' pc' first now
along {n} {left} {pc} {left'} {pc'} {first} {now} e f r =
    subst (λ (m : ℕ). Ran n m pc' first now) (sym e) (subst (λ (a : ℕ). Ran n left a first now) (sym f) r)

pub stands : {pc pc' : ℕ} {now : CoreKept} (new : CoreKept) → now ≡ at pc' new → pc' ≡ pc → now ≡ at pc new
stands {pc} {pc'} {now} new is e = is ∙ ap (λ (a : ℕ). at a new) e

-- the words that are kept apart are the text
pub same_words : {n left : ℕ} {first now : CoreKept} (words : List ℕ) → text_of words ≡ (state_of first).code.text →
    Ends n left first now → text_of words ≡ (state_of now).code.text
same_words words is e = is ∙ sym e.text
