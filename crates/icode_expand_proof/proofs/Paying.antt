-- Runs that pay; the operands of an op; and what agrees of memory and of the extents, when a call begins or ends.
use Rattle.std.proofs.Common.{◌≡◌, ◌≢◌, ℕ, ◌+◌, ◌-◌, ◌<◌, ◌≤◌, Bool, true, false, ◌||◌, List, length, Option, Some}
use Rattle.std.proofs.Common.{refl, sym, ap, ◌∙◌, subst, arith, nat_eq, slice_get}
use Rattle.std.proofs.lemmas.Bool.{eq-eqb}
use Rattle.word32.specs.declared.map.TheConstants.{FRAMES, STACK_TOP}
use Rattle.mips_model.specs.State as machine
use Rattle.mips_model.specs.State.{Data}
use Rattle.mips_model.specs.Laws.{at}
use Rattle.meaning_state.specs.Shared.{Shared, charged, discharged}
use Rattle.icode_ops.specs.declared.op.Op.{Op}
use Rattle.icode_ops.specs.Flow.{first_use, second_use, holds, uses}
use Rattle.icode_ops.specs.Finished.{InRange}
use Rattle.icode_templates.specs.Layout.{Spot, InRegister, InSlot}
use Rattle.icode_meaning.specs.State.{Function, Frame, Log, Running, Stuck, nothing}
use Rattle.icode_meaning.specs.Steps.{left, entered}
use Rattle.icode_templates_proof.specs.Spots.{pointer, value, KeepsSpots, Usable, PutsTo, register_of}
use Rattle.icode_templates_proof.specs.Moves.{Runs}
use Rattle.icode_templates_proof.proofs.Keeping.{pointer_kept, pointer_put}
use Rattle.icode_expand_proof.specs.Standing.{layout_of, op_stands_at}
use Rattle.icode_expand_proof.specs.Settings.{Setting, places_of, Standing}
use Rattle.icode_expand_proof.specs.Frames.{FrameAgrees, Alike, Counted}
use Rattle.icode_expand_proof.specs.Relation.{MemoryAgrees, ExtentsAgree, ArgumentsAgree, Holds, Pays}
use Rattle.icode_expand_proof.proofs.Frames.{suits_known, pointer_alike, held_30}
use Rattle.icode_expand_proof.proofs.Memory.{memory_counted, same_made}
use Rattle.icode_expand_proof.proofs.Liveness.{op_found, live_use, below_some}

pub none_passed : (d : Data) → ArgumentsAgree nothing d
none_passed d = record { known = λ k x e. absurd cc; stand = λ k x e. absurd cc }

pub runs_pay : (s : Setting) → Standing s
    → (w : Frame) (arguments : ℕ → Option ℕ) (answer : Option ℕ) (waiting : List Frame) (log log' : Log)
    (from : machine.State) (l m : ℕ) (d' : Data)
    → log'.least ≤ log.least + l → log.most + m ≤ log'.most
    → Runs l m from (at s.code (op_stands_at w.function (places_of s w.function) w.index) 0 d')
    → Holds s w arguments answer waiting log' d' → Pays s (Running w arguments answer waiting log') log from
runs_pay s st w arguments answer waiting log log' from l m d' lo hi r h = record {
  count = r.count;
  low = omega (arith, lo, r.over);
  high = omega (arith, hi, r.under);
  related = (st, record { d = d'; holds = h; recent = 0; few = omega arith; is = r.reaches.by });
}

-- what is stuck costs nothing
pub stuck_pays : (s : Setting) (log : Log) (a : ℕ) (d : Data) → MemoryAgrees s log.shared log.active d
    → Pays s (Stuck log) log (at s.code a 0 d)
stuck_pays s log a d h = record {
  count = 0;
  low = omega arith;
  high = omega arith;
  related = record { ending = refl; history = h.history; code = refl; making = h.making; fair = tt };
}

-- a call is over
pub memory_left : (s : Setting) (f : Function) (log : Log) (d after : Data)
    → MemoryAgrees s log.shared log.active d → Counted f.compiled 4294967295 d after
    → MemoryAgrees s (left f log).shared (left f log).active after
memory_left s f log d after h n =
    memory_counted s log.shared (discharged f.charge f.object log.shared) log.active f.compiled 4294967295 d after
    refl refl refl refl (same_made log.shared _ refl refl refl) n h

pub extents_left : (f : Function) (log : Log) (d after : Data) → ExtentsAgree log.shared d
    → pointer d + f.charge ≤ STACK_TOP → FRAMES + f.object ≤ d.registers 30
    → pointer after ≡ pointer d + f.charge → after.registers 30 ≡ d.registers 30 - f.object
    → ExtentsAgree (left f log).shared after
extents_left f log d after h room low ptr obj =
    record { used = omega (arith, ptr, h.used, room); frames = omega (arith, obj, h.frames, low) }

-- a call has begun
pub memory_entered : (s : Setting) (f : Function) (log : Log) (d after : Data)
    → MemoryAgrees s log.shared log.active d → Counted f.compiled 1 d after
    → MemoryAgrees s (entered f log).shared (entered f log).active after
memory_entered s f log d after h n =
    memory_counted s log.shared (charged f.charge f.object log.shared) log.active f.compiled 1 d after
    refl refl refl refl (same_made log.shared _ refl refl refl) n h

pub extents_entered : (f : Function) (log : Log) (d after : Data) → ExtentsAgree log.shared d
    → f.charge ≤ pointer d → pointer after ≡ pointer d - f.charge → after.registers 30 ≡ d.registers 30 + f.object
    → ExtentsAgree (entered f log).shared after
extents_entered f log d after h room ptr obj =
    record { used = omega (arith, ptr, h.used, room); frames = omega (arith, obj, h.frames) }

-- within a call
pub extents_alike : (shared : Shared) {d after : Data} → Alike d after → ExtentsAgree shared d
    → ExtentsAgree shared after
extents_alike shared al h = record {
  used = ap (λ n. n + shared.used) (pointer_alike al) ∙ h.used;
  frames = al.registers 30 held_30 ∙ h.frames;
}

pub extents_kept : (shared : Shared) (d after : Data) → KeepsSpots d after → ExtentsAgree shared d
    → ExtentsAgree shared after
extents_kept shared d after k h = record {
  used = ap (λ n. n + shared.used) (pointer_kept k) ∙ h.used;
  frames = k.registers 30 (omega arith, omega arith, omega arith) ∙ h.frames;
}

pub extents_put : (shared : Shared) (bytes : ℕ) (w : Spot) (x : ℕ) (d after : Data) → Usable bytes w
    → PutsTo w x d after
    → ExtentsAgree shared d → ExtentsAgree shared after
extents_put shared bytes w x d after u k h = record {
  used = ap (λ n. n + shared.used) (pointer_put bytes w x d after u k) ∙ h.used;
  frames = k.registers 30 (omega arith, omega arith, omega arith) (not_objects bytes w u) ∙ h.frames;
}
  where
    not_objects : (bytes : ℕ) (w : Spot) → Usable bytes w → 30 ≢ register_of w
    not_objects bytes (InRegister r) u = omega (arith, u.1)
    not_objects bytes (InSlot far offset) u = omega arith

or_true : (b : Bool) → (b || true) ≡ true
or_true true = refl
or_true false = refl

-- an operand of an op
pub record Operand (s : Setting) (w : Frame) (d : Data) (v : ℕ) : Type 0 where
  pub inside : v < length (places_of s w.function)
  pub value_is : value d ((layout_of w.function (places_of s w.function)).spot v) ≡ w.values v
  pub word : value d ((layout_of w.function (places_of s w.function)).spot v) < 4294967296

module _ (s : Setting) (st : Standing s) (w : Frame) (d : Data) (o : Op) (v : ℕ)
    (known : s.program.function_at w.function.address ≡ Some w.function) (h : FrameAgrees s w d)
    (i : slice_get w.function.ops w.index ≡ Some o) where
  range : InRange (length (places_of s w.function)) o
  range =
      subst (InRange (length (places_of s w.function))) (op_found w.function.ops w.index o i).is
      ((suits_known s st w.function known).in_range w.index)

  operand : v < length (places_of s w.function) → uses v o ≡ true → w.on v ≡ true → Operand s w d v
  operand inside u t =
      let is = h.agrees v inside (live_use w.function.ops v w.index o i u) t in
      record { inside = inside; value_is = is; word = subst (λ x. x < 4294967296) (sym is) (h.words v) }

  pub first_operand : first_use o ≡ Some v → w.on v ≡ true → Operand s w d v
  first_operand e t =
      let same : nat_eq v v ≡ true = eq-eqb v v refl in
      operand (below_some (length (places_of s w.function)) (first_use o) v e range.1)
      (ap (λ x. holds v x || holds v (second_use o)) e ∙ ap (λ b. b || holds v (second_use o)) same) t

  pub second_operand : second_use o ≡ Some v → w.on v ≡ true → Operand s w d v
  second_operand e t =
      let same : nat_eq v v ≡ true = eq-eqb v v refl in
      operand (below_some (length (places_of s w.function)) (second_use o) v e range.2)
      (ap (λ x. holds v (first_use o) || holds v x) e ∙ ap (λ b. holds v (first_use o) || b) same
      ∙ or_true (holds v (first_use o))) t
