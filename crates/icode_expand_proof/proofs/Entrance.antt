-- From a call's jump on: the function begins, or one of the limits is passed.
use Rattle.std.proofs.Common.{◌≡◌, inl, inr, ℕ, ◌+◌, ◌-◌, ◌*◌, ◌/◌, ◌%◌, ◌<◌, ◌≤◌, true, false, List, ◌∷◌, Option, Some}
use Rattle.std.proofs.Common.{refl}
use Rattle.std.proofs.Common.{None, sym, ap, ◌∙◌, subst, arith, nat_le}
use Rattle.std.specs.Fn.{iterate}
use Rattle.std.proofs.lemmas.Bool.{cases_lt}
use Rattle.std.proofs.lemmas.Bool.Decides.{nat_tests}
use Rattle.limits.specs.declared.program.TheConstants.{FRAME_OBJECT_BYTES}
use Rattle.pace.proofs.Runs.{iterate_add}
use Rattle.word32.specs.declared.map.TheConstants.{GLOBAL_POINTER, OBJECTS_END, STACK, STACK_BYTES, STACK_TOP}
use Rattle.host_edge.specs.declared.ending.Ending.TheVariants.{Trap}
use Rattle.host_edge.specs.declared.ending.TrapKind.TheVariants.{StackLimit, FrameLimit}
use Rattle.history.specs.Events.{End, Ended}
use Rattle.mips_model.specs.State as machine
use Rattle.mips_model.specs.State.{Code, Data, World, Outside}
use Rattle.mips_model.specs.Steps.{step, going}
use Rattle.mips_model.specs.Laws.{at}
use Rattle.mips_model.proofs.Reach.{front}
use Rattle.icode_ops.specs.declared.op.Op.{Op}
use Rattle.icode_templates.specs.Frames.{take_frame}
use Rattle.icode_meaning.specs.State.{Function, Frame, Log, Halted, nothing}
use Rattle.icode_meaning.specs.Steps.{paid, moved_on, begun, entered, enter}
use Rattle.icode_meaning.specs.Costs.{least_of, most_of}
use Rattle.icode_templates_proof.specs.Spots.{pointer, frame_word, Framed}
use Rattle.icode_templates_proof.specs.Moves.{Runs, EndsIn}
use Rattle.icode_templates_proof.proofs.Leaves.{runs_on}
use Rattle.icode_expand_proof.specs.Frames.{CallersWait, unwound}
use Rattle.icode_expand_proof.specs.Relation.{MemoryAgrees, ExtentsAgree, Holds, Pays}
use Rattle.icode_expand_proof.specs.Settings.{Setting, places_of, Standing}
use Rattle.icode_expand_proof.specs.Standing.{op_stands_at, front_code, Stands}
use Rattle.icode_expand_proof.proofs.Codes.{whole_stands}
use Rattle.icode_expand_proof.proofs.Frames.{stacked_alike, suits_known}
use Rattle.icode_expand_proof.specs.Runs.{Beginning}
use Rattle.icode_expand_proof.proofs.Beginning.{begins, overflows}
use Rattle.icode_expand_proof.proofs.Prologue.{frame_end}
use Rattle.icode_expand_proof.proofs.Paying.{none_passed, runs_pay, memory_entered, extents_entered}
use Rattle.icode_expand_proof.specs.Relation.{HistoryAgrees, HasLeft, IsFair}
use Rattle.icode_expand_proof.proofs.Memory.{history_as, left_as}
use Rattle.mips_model.specs.Laws.{HasAt}

is_over : (a n : ℕ) → n < a → nat_le a n ≡ false
is_over a n h = grind (arith, nat_tests)

is_within : (a n : ℕ) → a ≤ n → nat_le a n ≡ true
is_within a n h = grind (arith, nat_tests)

-- the run ends
pub ends_pay : (s : Setting) (log log' : Log) (from mid : machine.State) (l m least most : ℕ) (end : End)
    (outside : Outside)
    → log'.least ≤ log.least + l + least → log.most + m + most ≤ log'.most →
    HistoryAgrees s log'.shared.history outside.history
    → HasLeft s outside → IsFair (Some end) → Runs l m from mid → EndsIn least most end mid s.code outside
    → Pays s (Halted end log') log from
ends_pay s log log' from mid l m least most end outside lo hi same made fair r e =
    let w = iterate step (r.count + e.count) (going from) in
    let by : w ≡ iterate step e.count (going mid) = iterate_add step r.count e.count (going from)
    ∙ ap (iterate step e.count) r.reaches.by in
    record {
      count = r.count + e.count;
      low = omega (arith, lo, r.over, e.over);
      high = omega (arith, hi, r.under, e.under);
      related = record {
        ending = sym e.ending ∙ sym (ap (λ (z : World). z.ending) by);
        history = history_as s refl (sym (ap (λ (o : Outside). o.history) e.outside_is)
            ∙ sym (ap (λ (z : World). z.state.d.outside.history) by)) same;
        code = ap (λ (z : World). z.state.code) by ∙ e.code_is;
        making = left_as s (sym (ap (λ (z : World). z.state.d.outside) by ∙ e.outside_is)) made;
        fair = fair;
      };
    }

-- what holds at a function's first instruction
pub record Enters (s : Setting) (arguments : ℕ → Option ℕ) (waiting : List Frame) (log : Log) (d : Data) : Type 0 where
  pub waits : CallersWait s waiting d (d.registers 31)
  pub memory : MemoryAgrees s log.shared log.active d
  pub extents : ExtentsAgree log.shared d
  pub from : STACK ≤ pointer d
  pub even : pointer d % 4 ≡ 0
  pub global : d.registers 28 ≡ GLOBAL_POINTER
  pub objects_to : d.registers 30 ≤ OBJECTS_END
  pub reach : (k x : ℕ) → arguments k ≡ Some x → (x < 4294967296) × (pointer d + 4 * k + 4 ≤ STACK_TOP)
  pub stand : (k x : ℕ) → arguments k ≡ Some x → frame_word d (4 * k) ≡ x

-- what brings a call's target in comes to the target, and there that holds
pub record Arriving (s : Setting) (w : Frame) (arguments : ℕ → Option ℕ) (waiting : List Frame) (log : Log) (o : Op)
    (from : machine.State) (address : ℕ) : Type 0 where
  pub after : Data
  pub runs : Runs 12 15 from (at s.code address 0 after)
  pub enters : Enters s arguments (moved_on w ∷ waiting) (paid o log) after
  pub outside : after.outside ≡ from.d.outside

-- and behind the prologue
pub record Begun (s : Setting) (f : Function) (arguments : ℕ → Option ℕ) (waiting : List Frame) (log : Log)
    (d : Data) : Type 0 where
  pub after : Data
  pub runs : Runs 9 32 (at s.code f.address 0 d) (at s.code (op_stands_at f (places_of s f) 0) 0 after)
  pub holds : Holds s (begun f arguments) nothing None waiting (entered f log) after

-- a function's own frame holds behind its beginning, on whatever code that is
pub holds_behind : (s : Setting) → Standing s → (f : Function) → s.program.function_at f.address ≡ Some f → (c : Code)
    (arguments : ℕ → Option ℕ) (waiting : List Frame) (log : Log) (d : Data) → Enters s arguments waiting log d
    → log.shared.used + f.charge ≤ STACK_BYTES → log.shared.frames + f.object ≤ FRAME_OBJECT_BYTES
    → (b : Beginning f (places_of s f) c d) → Holds s (begun f arguments) nothing None waiting (entered f log) b.after
holds_behind s st f known c arguments waiting log d en room space b =
    let places = places_of s f in
    let suits = suits_known s st f known in
    let top = en.extents.used in
    let obj = en.extents.frames in
    let e = b.after in
    let fits : f.charge ≤ pointer d = omega (arith, top, room) in
    let fr : Framed (pointer d - f.charge) f.charge =
    record {
      from = omega (arith, top, room);
      to = omega (arith, top, room);
      even = omega (arith, top, room, en.even, suits.whole);
    } in
    record {
      known = known;
      ready = record {
        framed = subst (λ n. Framed n f.charge) (sym b.pointer_is) fr;
        agrees = λ v l live t. absurd cc;
        words = λ v. omega arith;
        reach = λ k x h. let r = en.reach k x h in (r.0, omega (arith, b.pointer_is, r.1, fits));
        stand = λ k x h. ap (λ n. e.stack (n / 4)) (omega (arith, b.pointer_is, fits))
            ∙ b.alike.stack ((pointer d + 4 * k) / 4) (omega arith) ∙ en.stand k x h;
        global = b.global ∙ en.global;
        objects_from = omega (arith, b.objects_is, obj);
        objects_to = omega (arith, b.objects_is, obj, space);
      };
      memory = memory_entered s f log d e en.memory b.world;
      extents = extents_entered f log d e en.extents fits b.pointer_is b.objects_is;
      passed = none_passed e;
      answered = tt;
      waits = subst (λ n. CallersWait s waiting (unwound f places e) n) (sym b.address)
          (stacked_alike s st waiting (d.registers 31) b.alike en.waits);
    }

module _ (s : Setting) (st : Standing s) (f : Function) (known : s.program.function_at f.address ≡ Some f)
    (first : HasAt s.code f.address (front_code f (places_of s f))) where
  stands : Stands s.code f (places_of s f)
  stands = whole_stands s.code f (places_of s f) first (st.functions f.address f known).1

  pub holds_begun : (arguments : ℕ → Option ℕ) (waiting : List Frame) (log : Log) (d : Data)
      → Enters s arguments waiting log d
      → log.shared.used + f.charge ≤ STACK_BYTES → log.shared.frames + f.object ≤ FRAME_OBJECT_BYTES
      → Begun s f arguments waiting
      log d
  holds_begun arguments waiting log d en room space =
      let top = en.extents.used in
      let obj = en.extents.frames in
      let b = begins f (places_of s f) s.code d stands (omega (arith, top, room)) (omega (arith, top)) en.even en.global
      (omega (arith, obj, space)) in
      record {
        after = b.after;
        runs = b.runs;
        holds = holds_behind s st f known s.code arguments waiting log d en room space b;
      }

  -- whichever of the three comes
  pub enter_pays : (w : Frame) (arguments : ℕ → Option ℕ) (waiting : List Frame) (log : Log) (o : Op)
      (from : machine.State) (l m : ℕ) (d : Data)
      → least_of o ≤ l + 8 → m + 34 ≤ most_of o → Runs l m from (at s.code f.address 0 d)
      → Enters s arguments (moved_on w ∷ waiting) (paid o log) d
      → Pays s (enter f w arguments waiting (paid o log)) log from
  enter_pays w arguments waiting log o from l m d lo hi r en =
      let suits = stands.suits in
      let top = en.extents.used in
      let obj = en.extents.frames in
      elim (cases_lt STACK_BYTES (log.shared.used + f.charge)) [
        | inl over ↦ (let t : nat_le (log.shared.used + f.charge) STACK_BYTES ≡ false = is_over _ _ over in
            let code = front s.code f.address (take_frame f.charge) _ first in
            let x = frame_end f.charge s.code f.address d suits.small en.from (omega (arith, top))
            (omega (arith, top, over)) code in
            rw t (ends_pay s log (paid o log) from (at s.code f.address 0 d) l m 8 8 (Ended (Trap StackLimit))
            d.outside (omega (arith, lo)) (omega (arith, hi)) en.memory.history en.memory.making tt r x))
        | inr fits ↦ (let t : nat_le (log.shared.used + f.charge) STACK_BYTES ≡ true = is_within _ _ fits in
            elim (cases_lt FRAME_OBJECT_BYTES (log.shared.frames + f.object)) [
              | inl over ↦ (let k : nat_le (log.shared.frames + f.object) FRAME_OBJECT_BYTES ≡ false =
                  is_over _ _ over in
                  let x = overflows f (places_of s f) s.code d stands (omega (arith, top, fits)) (omega (arith, top))
                  en.even en.global (omega (arith, en.objects_to)) (omega (arith, obj, over)) in
                  rw (t, k) (ends_pay s log (paid o log) from (at s.code f.address 0 d) l m 17 33
                  (Ended (Trap FrameLimit)) d.outside (omega (arith, lo)) (omega (arith, hi))
                  en.memory.history en.memory.making tt r x))
              | inr space ↦ (let k : nat_le (log.shared.frames + f.object) FRAME_OBJECT_BYTES ≡ true =
                  is_within _ _ space in
                  let b = holds_begun arguments (moved_on w ∷ waiting) (paid o log) d en (omega (arith, fits))
                  (omega (arith, space)) in
                  rw (t, k) (runs_pay s st (begun f arguments) nothing None (moved_on w ∷ waiting) log
                  (entered f (paid o log)) from (l + 9) (m + 32) b.after (omega (arith, lo)) (omega (arith, hi))
                  (runs_on r b.runs) b.holds))
            ])
      ]
