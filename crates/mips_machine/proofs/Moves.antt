-- A service that puts bytes out, and the one that reads a byte, as runs of one instruction.
use Rattle.std.proofs.Common.{◌≡◌, inl, inr, ℕ, ◌<◌, nat_eq, true, false, List, [], ◌∷◌, ◌++◌, Option, None, Some, refl}
use Rattle.std.proofs.Common.{sym, ap, ◌∙◌, subst, arith, append-nil}
use Rattle.std.specs.Io.KnownBytes.{Appends, IsAtEnd}
use Rattle.std.proofs.KnownBytes.{Consumes-nil, Appends-nil, Consumes-kept}
use Rattle.std.proofs.lemmas.Bool.{false≢true}
use Rattle.std.proofs.lemmas.Bool.Decides.{nat_tests}
use Rattle.history.specs.Events.{Item, Out, In, End, Input, output, outs}
use Rattle.history.specs.Events as event
use Rattle.mips_model.specs.State.{World}
use Rattle.mips_model.specs.Steps.{step}
use Rattle.mips_model.proofs.Runs.{run_0, run_1}
use Rattle.mips_machine.specs.declared.stop.Stop.{Stop}
use Rattle.mips_machine.specs.declared.stop.Stop.TheVariants.{Ended, Fault, Steps, ReadFault, WriteFault}
use Rattle.mips_machine.specs.Progress.{Progress, Unkept, is_at_end, no_input, more, world}
use Rattle.mips_machine.specs.Ran.{Ran, IsScannedAt, EndsFrom, bytes_read, before}
use Rattle.mips_machine.specs.Served.{counted, answered, input_ended, Puts, Takes}
use Rattle.mips_machine.proofs.Quiet.{alive_one, scanned_one, said_all, saying}

pub output_outs : (bytes : List ℕ) → output (outs bytes) ≡ bytes
output_outs [] = refl
output_outs (b ∷ bytes) = ap (λ (l : List ℕ). b ∷ l) (output_outs bytes)

put_out : (bytes : List ℕ) → bytes ≡ output (outs bytes) ++ []
put_out bytes = sym (append-nil (output (outs bytes)) ∙ output_outs bytes)

none_read : (bytes : List ℕ) → bytes_read (outs bytes) ≡ []
none_read [] = refl
none_read (b ∷ bytes) = none_read bytes

one_read : (b : ℕ) → b < 256 → bytes_read (In b ∷ []) ≡ b ∷ []
one_read b lt = let e : nat_eq b 4294967295 ≡ false = grind (arith, nat_tests, lt) in rw e refl

-- a service that finishes no function
abbrev pub IsIdle : Progress → Type 0
IsIdle old = (rest : Input) (u : Unkept) → IsScannedAt (world old rest u None)

-- what a service does that puts bytes out and answers v
abbrev IsPut : Progress → List ℕ → ℕ → Type 0
IsPut old bytes v = (rest : Input) (u : Unkept) →
    step (world old rest u None) ≡ world (answered v old) rest (more (outs bytes) u) None

pub put_ran : (old new : Progress) (left taken told : Option (List ℕ)) (stop : Stop) (bytes : List ℕ) (v : ℕ)
    → IsIdle old → IsPut old bytes v → new ≡ answered v old → Puts stop taken told bytes
    → Ran 1 old new left left taken told stop
put_ran old new left taken told Steps bytes v scan is same puts = record {
  count = 1;
  within = omega arith;
  counted = ap (λ (p : Progress). p.steps) same;
  all = λ _. refl;
  given = [];
  consumed = Consumes-nil left;
  events = outs bytes;
  taken_in = none_read bytes;
  last = [];
  front = 0;
  appended = subst (Appends taken told) (put_out bytes) puts;
  whole = λ _. refl;
  cut = λ e. absurd (cc);
  stays = λ e. (refl, ap is_at_end same ∙ e);
  at_end = λ e n. absurd (false≢true (sym n ∙ sym (ap is_at_end same) ∙ e));
  ran = λ rest u m.
      run_1 (world old rest u None) ∙ is rest u
      ∙ ap (λ (p : Progress). world p rest (more (outs bytes) u) None) (sym same)
      ∙ ap (λ (o : List Item). world new rest (saying o u) None) (sym (append-nil (u.history ++ outs bytes)));
  alive = λ rest u m. alive_one (world old rest u None) refl;
  unended = λ r. absurd (cc);
  noted = λ n. n;
  chosen = [];
  refused = [];
  spent = λ e. refl;
  earlier = λ w. absurd (cc);
  scanned = λ rest u m. scanned_one (world old rest u None) (scan rest u);
}
put_ran old new left taken told WriteFault bytes v scan is same puts = record {
  count = 1;
  within = omega arith;
  counted = ap (λ (p : Progress). p.steps) same;
  all = λ _. refl;
  given = [];
  consumed = Consumes-nil left;
  events = [];
  taken_in = refl;
  last = bytes;
  front = puts.count;
  appended = puts.taken;
  whole = λ n. absurd (n refl);
  cut = λ _. puts.short;
  stays = λ e. (refl, ap is_at_end same ∙ e);
  at_end = λ e n. absurd (false≢true (sym n ∙ sym (ap is_at_end same) ∙ e));
  ran = λ rest u m.
      run_1 (world old rest u None) ∙ is rest u
      ∙ ap (λ (p : Progress). world p rest (more (outs bytes) u) None) (sym same)
      ∙ ap (λ (o : List Item). world new rest (saying (o ++ outs bytes) u) None) (sym (append-nil u.history));
  alive = λ rest u m. alive_one (world old rest u None) refl;
  unended = λ r. absurd (cc);
  noted = λ n. n;
  chosen = [];
  refused = [];
  spent = λ e. refl;
  earlier = λ w. (
    0,
    refl,
    λ rest u m. ap (λ (v : World). v.state.d.outside.history)
        (run_0 (world old rest u None)) ∙ sym (append-nil u.history),
  );
  scanned = λ rest u m. scanned_one (world old rest u None) (scan rest u);
}
put_ran old new left taken told (Ended e) bytes v scan is same puts = absurd puts
put_ran old new left taken told (Fault k at) bytes v scan is same puts = absurd puts
put_ran old new left taken told ReadFault bytes v scan is same puts = absurd puts

ends_from : (a b : Option (List ℕ)) → IsAtEnd b → EndsFrom a b
ends_from None b e = tt
ends_from (Some x) b e = e

-- what the service does that reads: the next byte, the end, a failing input, and nothing more behind the end
pub record IsGet (old : Progress) : Type 0 where
  pub byte : is_at_end old ≡ false → (b : ℕ) → b < 256 → (rest : Input) (u : Unkept)
      → step (world old (before (b ∷ []) rest) u None) ≡ world (answered b old) rest (more (In b ∷ []) u) None
  pub ended : (rest : Input) (u : Unkept) → (is_at_end old ≡ false → rest ≡ no_input)
      → step (world old rest u None) ≡ world (input_ended old) rest (more (In 4294967295 ∷ []) u) None
  pub failed : is_at_end old ≡ false → (u : Unkept)
      → step (world old (record { bytes = []; failing = true }) u None) ≡ world (counted old)
      (record { bytes = []; failing = true }) u (Some event.ReadFault)

said_one : (new next : Progress) (rest : Input) (u : Unkept) (v : ℕ) → new ≡ next →
    world next rest (more (In v ∷ []) u) None ≡ world new rest (more [] (more (In v ∷ []) u)) None
said_one new next rest u v same =
    ap (λ (p : Progress). world p rest (more (In v ∷ []) u) None) (sym same) ∙
    ap (λ (o : List Item). world new rest (saying o u) None) (sym (append-nil (u.history ++ In v ∷ [])))

pub get_ran : (old new : Progress) (left later taken : Option (List ℕ)) (stop : Stop) → IsIdle old → IsGet old →
    Takes stop old new left later → Ran 1 old new left later taken taken stop
get_ran old new left later taken Steps scan g (inl took) = record {
  count = 1;
  within = omega arith;
  counted = ap (λ (p : Progress). p.steps) took.1.2;
  all = λ _. refl;
  given = took.1.0 ∷ [];
  consumed = took.1.3;
  events = In took.1.0 ∷ [];
  taken_in = one_read took.1.0 took.1.1;
  last = [];
  front = 0;
  appended = Appends-nil taken;
  whole = λ _. refl;
  cut = λ w. absurd (cc);
  stays = λ h. absurd (false≢true (sym took.0 ∙ h));
  at_end = λ h n. absurd (false≢true (sym took.0 ∙ sym (ap is_at_end took.1.2) ∙ h));
  ran = λ rest u m.
      run_1 (world old (before (took.1.0 ∷ []) rest) u None) ∙ g.byte took.0 took.1.0 took.1.1 rest u
      ∙ said_one new (answered took.1.0 old) rest u took.1.0 took.1.2;
  alive = λ rest u m. alive_one (world old (before (took.1.0 ∷ []) rest) u None) refl;
  unended = λ r. absurd (cc);
  noted = λ n. n;
  chosen = [];
  refused = [];
  spent = λ e. refl;
  earlier = λ w. absurd (cc);
  scanned = λ rest u m.
      scanned_one (world old (before (took.1.0 ∷ []) rest) u None) (scan (before (took.1.0 ∷ []) rest) u);
}
get_ran old new left later taken Steps scan g (inr ended) = record {
  count = 1;
  within = omega arith;
  counted = ap (λ (p : Progress). p.steps) ended.0;
  all = λ _. refl;
  given = [];
  consumed = Consumes-kept left left later [] (Consumes-nil left) ended.1;
  events = In 4294967295 ∷ [];
  taken_in = refl;
  last = [];
  front = 0;
  appended = Appends-nil taken;
  whole = λ _. refl;
  cut = λ w. absurd (cc);
  stays = λ h. (refl, ap is_at_end ended.0);
  at_end = λ h n. ends_from left later (ended.2 n);
  ran = λ rest u m.
      run_1 (world old rest u None) ∙ g.ended rest u (m.ended (ap is_at_end ended.0))
      ∙ said_one new (input_ended old) rest u 4294967295 ended.0;
  alive = λ rest u m. alive_one (world old rest u None) refl;
  unended = λ r. absurd (cc);
  noted = λ n. n;
  chosen = [];
  refused = [];
  spent = λ e. refl;
  earlier = λ w. absurd (cc);
  scanned = λ rest u m. scanned_one (world old rest u None) (scan rest u);
}
get_ran old new left later taken ReadFault scan g failed = record {
  count = 1;
  within = omega arith;
  counted = ap (λ (p : Progress). p.steps) failed.1;
  all = λ _. refl;
  given = [];
  consumed = Consumes-kept left left later [] (Consumes-nil left) failed.2;
  events = [];
  taken_in = refl;
  last = [];
  front = 0;
  appended = Appends-nil taken;
  whole = λ _. refl;
  cut = λ w. absurd (cc);
  stays = λ h. absurd (false≢true (sym failed.0 ∙ h));
  at_end = λ h n. absurd (false≢true (sym failed.0 ∙ sym (ap is_at_end failed.1) ∙ h));
  ran = λ rest u m.
      let none = m.failed refl in
      run_1 (world old rest u None)
      ∙ ap (λ (i : Input). step (world old i u None)) none
      ∙ g.failed failed.0 u
      ∙ ap (λ (i : Input). world (counted old) i u (Some event.ReadFault)) (sym none)
      ∙ ap (λ (p : Progress). world p rest u (Some event.ReadFault)) (sym failed.1)
      ∙ said_all new rest u (Some event.ReadFault);
  alive = λ rest u m. alive_one (world old rest u None) refl;
  unended = λ r. ap is_at_end failed.1 ∙ failed.0;
  noted = λ n. n;
  chosen = [];
  refused = [];
  spent = λ e. refl;
  earlier = λ w. absurd (cc);
  scanned = λ rest u m. scanned_one (world old rest u None) (scan rest u);
}
get_ran old new left later taken (Ended e) scan g never = absurd never
get_ran old new left later taken (Fault k at) scan g never = absurd never
get_ran old new left later taken WriteFault scan g never = absurd never
