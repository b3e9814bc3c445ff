-- A return to the caller that waits, and the outermost call's to the start, which exits.
use Rattle.std.proofs.Common.{◌≡◌, ℕ, ◌+◌, ◌%◌, ◌<◌, ◌≤◌, true, List, [], ◌∷◌, Option, Some, refl, sym, ap, ◌∙◌, subst}
use Rattle.std.proofs.Common.{arith, slice_get}
use Rattle.std.proofs.lemmas.Bool.{and_parts}
use Rattle.std.specs.Fn.{iterate}
use Rattle.pace.proofs.Runs.{iterate_add}
use Rattle.word32.specs.Space.{update}
use Rattle.host_edge.specs.declared.ending.Ending.TheVariants.{Done}
use Rattle.history.specs.Events.{Ended}
use Rattle.mips_model.specs.State as machine
use Rattle.mips_model.specs.State.{Code, Data, World}
use Rattle.mips_model.specs.Steps.{step, going}
use Rattle.mips_encoder.specs.Addresses.{past}
use Rattle.mips_model.specs.Laws.{at}
use Rattle.mips_model.proofs.Reach.{front, back, past_append, reaches_on}
use Rattle.icode_ops.specs.declared.op.Op.{Op}
use Rattle.icode_ops.specs.declared.op.Op.TheVariants.{Return, ReturnZero}
use Rattle.mips_assembly.specs.Assembly.{addu}
use Rattle.icode_templates.specs.Templates.{in_code, leave_code}
use Rattle.icode_meaning.specs.State.{Function, Frame, Log, nothing}
use Rattle.icode_meaning.specs.Steps.{uses_on, paid, left, back as given_back}
use Rattle.icode_meaning.specs.Costs.{least_of, most_of}
use Rattle.icode_templates_proof.specs.Spots.{frame_word, KeepsSpots}
use Rattle.icode_templates_proof.specs.Moves.{Runs}
use Rattle.icode_templates_proof.proofs.Leaves.{Leaves, leaves_run, runs_on, runs_within, runs_to}
use Rattle.icode_templates_proof.proofs.Keeping.{with_registers, keeps_on, keeps_write, framed_on}
use Rattle.icode_templates_proof.proofs.Memory.{update_same}
use Rattle.icode_templates_proof.proofs.Operands.{one_in, in_leaves, keeps_one, load_gives, in_between}
use Rattle.icode_templates_proof.proofs.Jumps.{jump_reaches}
use Rattle.icode_expand_proof.specs.Frames.{Alike, CallersWait, unwound}
use Rattle.icode_expand_proof.specs.Relation.{MemoryAgrees, ExtentsAgree, Holds, Pays}
use Rattle.icode_expand_proof.specs.Settings.{Setting, places_of, Standing}
use Rattle.icode_expand_proof.specs.Standing.{layout_of, op_stands_at, leave_at, OpsStand}
use Rattle.icode_expand_proof.proofs.Memory.{memory_kept}
use Rattle.icode_expand_proof.proofs.Codes.{aims_of, one_stands, code_low, leave_even}
use Rattle.icode_expand_proof.proofs.Frames.{alike_on, keeps_alike, unwound_alike, word_alike, stacked_alike, spots}
use Rattle.icode_expand_proof.proofs.Frames.{pointer_alike, held_30}
use Rattle.icode_expand_proof.proofs.Entering.{exits}
use Rattle.icode_expand_proof.proofs.Leaving.{leaves_function}
use Rattle.icode_expand_proof.proofs.Paying.{none_passed, runs_pay, memory_left, extents_left, extents_kept}
use Rattle.icode_expand_proof.proofs.Paying.{first_operand}
use Rattle.icode_expand_proof.specs.Laws.{ReturnsPay}
use Rattle.icode_expand_proof.proofs.Memory.{history_as, left_as}

-- the answer goes to $v0
abbrev given : ℕ → Data → Data
given x d = with_registers (update 2 x d.registers) d

give_leaves : (x : ℕ) (d : Data) → x < 4294967296 → d.registers 24 ≡ x → Leaves (addu 2 24 0 ∷ []) 0 d 0 (given x d)
give_leaves x d b e rest = let m : (d.registers 24 + 0) % 4294967296 ≡ x = omega (arith, e, b) in rw m refl

keeps_given : (x : ℕ) (d : Data) → KeepsSpots d (given x d)
keeps_given x d = keeps_write 2 x d (λ r k. omega (arith, k.0))

module _ (s : Setting) (st : Standing s) where
  stands : (f : Function) → s.program.function_at f.address ≡ Some f → OpsStand s.code f (places_of s f)
  stands f known = (st.functions f.address f known).1

  -- what the caller, or the start, does with the answer
  arrives : (log log' : Log) (from : machine.State) (l m x address : ℕ) (e : Data) (waiting : List Frame)
      → log'.least ≤ log.least + l → log.most + m + 3 ≤ log'.most → x < 4294967296 → e.registers 2 ≡ x
      → Runs l m from (at s.code address 0 e) → CallersWait s waiting e address
      → MemoryAgrees s log'.shared log'.active e → ExtentsAgree log'.shared e
      → Pays s (given_back x waiting log') log from
  arrives log log' from l m x address e [] lo hi word answer go waits memory extents =
      let to = runs_to waits go in
      let b : (e.registers 2 + 0) % 4294967296 % 256 ≡ x % 256 = omega (arith, answer, word) in
      let status = Ended (Done ((e.registers 2 + 0) % 4294967296 % 256)) in
      let stop = iterate_add step to.count 3 (going from) ∙ ap (iterate step 3) to.reaches.by
      ∙ exits s.code s.exit e st.exits in
      record {
        count = to.count + 3;
        low = omega (arith, lo, to.over);
        high = omega (arith, hi, to.under);
        related = record {
          ending = ap (λ z. Some (Ended (Done z))) (sym b) ∙ sym (ap (λ (z : World). z.ending) stop);
          history = history_as s refl (sym (ap (λ (z : World). z.state.d.outside.history) stop)) memory.history;
          code = ap (λ (z : World). z.state.code) stop;
          making = left_as s (sym (ap (λ (z : World). z.state.d.outside) stop)) memory.making;
          fair = tt;
        };
      }
  arrives log log' from l m x address e (v ∷ vs) lo hi word answer go waits memory extents =
      runs_pay s st v nothing (Some x) vs log log' from l m e lo (omega (arith, hi)) (runs_to waits.0.address_is go)
      (record {
        known = waits.0.known;
        ready = waits.0.ready;
        memory = memory;
        extents = extents;
        passed = none_passed e;
        answered = (answer, word);
        waits = waits.1;
      })

  -- from the epilogue on, with the answer in $v0
  pub leave_pays : (w : Frame) (arguments : ℕ → Option ℕ) (answer : Option ℕ) (waiting : List Frame) (log : Log)
      (o : Op) (x : ℕ) (d mid : Data) (from : machine.State) (l m : ℕ)
      → Holds s w arguments answer waiting log d → least_of o ≤ l + 6 → m + 28 ≤ most_of o → x < 4294967296
      → KeepsSpots d mid → mid.registers 2 ≡ x
      → Runs l m from (at s.code (leave_at w.function (places_of s w.function)) 0 mid)
      → Pays s (given_back x waiting (left w.function (paid o log))) log from
  leave_pays w arguments answer waiting log o x d mid from l m h lo hi word k two go =
      let f = w.function in
      let places = places_of s f in
      let obj : mid.registers 30 ≡ d.registers 30 = k.registers 30 (omega arith, omega arith, omega arith) in
      let glo = k.registers 28 (omega arith, omega arith, omega arith) ∙ h.ready.global in
      let y = leaves_function f places s.code mid (stands f h.known) (framed_on k h.ready.framed) glo
      (omega (arith, obj, h.ready.objects_from)) (omega (arith, obj, h.ready.objects_to)) in
      let al : Alike (unwound f places d) y.after = alike_on (unwound_alike f places (keeps_alike k)) y.alike in
      let address = word_alike 80 (keeps_alike k) in
      let sk = subst (λ n. CallersWait s waiting y.after n) (sym address) (stacked_alike s st waiting (frame_word d 80)
      al
      h.waits) in
      let memory = memory_left s f (paid o log) mid y.after (memory_kept s log.shared log.active d mid
      k.world h.memory) y.world in
      let fr = framed_on k h.ready.framed in
      let extents = extents_left f (paid o log) mid y.after (extents_kept log.shared d mid k h.extents)
      (omega (arith, fr.to)) (omega (arith, obj, h.ready.objects_from)) (pointer_alike y.alike)
      (y.alike.registers 30 held_30) in
      arrives log (left f (paid o log)) from (l + 6) (m + 25) x (frame_word mid 80) y.after waiting (omega (arith, lo))
      (omega (arith, hi)) word (y.answer ∙ two) (runs_on go y.runs) sk memory extents

  pub return_pays : (w : Frame) (arguments : ℕ → Option ℕ) (answer : Option ℕ) (waiting : List Frame) (log : Log)
      (d : Data) (from : ℕ) → slice_get w.function.ops w.index ≡ Some (Return from) → uses_on (Return from) w.on ≡ true
      → Holds s w arguments answer waiting log d
      → Pays s (given_back (w.values from) waiting (left w.function (paid (Return from) log))) log
      (at s.code (op_stands_at w.function (places_of s w.function) w.index) 0 d)
  return_pays w arguments answer waiting log d from i u h =
      let f = w.function in
      let places = places_of s f in
      let sf = stands f h.known in
      let o = Return from in
      let a = op_stands_at f places w.index in
      let goal = leave_at f places in
      let spot = (layout_of f places).spot from in
      let x = first_operand s st w d o from h.known h.ready i refl (and_parts (w.on from) true u).0 in
      let v = w.values from in
      let mid = one_in spot d in
      let ins = in_leaves d f.charge spot h.ready.framed (spots f places from sf.suits x.inside) x.word in
      let gives = give_leaves v mid (h.ready.words from) (load_gives 24 spot d ∙ x.value_is) in
      let n = in_between spot in
      let has = one_stands s.code f places sf w.index o i in
      let low = code_low s.code f places sf w.index o i in
      let e = past_append a (in_code spot) (addu 2 24 0 ∷ leave_code (aims_of f places)) in
      let tail = back s.code a (in_code spot) (addu 2 24 0 ∷ leave_code (aims_of f places)) has in
      let b = past a (in_code spot) in
      let r1 = leaves_run (in_code spot) s.code 0 0 a d mid ins
      (front s.code a (in_code spot) (addu 2 24 0 ∷ leave_code (aims_of f places)) has) in
      let r2 = leaves_run (addu 2 24 0 ∷ []) s.code 0 0 b mid (given v mid) gives (tail.0, tt) in
      let r3 = jump_reaches s.code (b + 4) goal (given v mid) (omega (arith, low, e)) (leave_even s.code f places sf)
      tail.1 in
      leave_pays w arguments answer waiting log o v d (given v mid) (at s.code a 0 d) 4 7 h (omega arith) (omega arith)
      (h.ready.words from) (keeps_on (keeps_one spot d) (keeps_given v mid)) (update_same 2 v mid.registers)
      (runs_on {l = 1} {m = 4} {l' = 3} {m' = 3} (runs_within n.over n.under r1)
      (runs_within (omega arith) (omega arith) (reaches_on r2 r3)))

  pub zero_return_pays : (w : Frame) (arguments : ℕ → Option ℕ) (answer : Option ℕ) (waiting : List Frame) (log : Log)
      (d : Data) → slice_get w.function.ops w.index ≡ Some ReturnZero
      → Holds s w arguments answer waiting log d
      → Pays s (given_back 0 waiting (left w.function (paid ReturnZero log))) log
      (at s.code (op_stands_at w.function (places_of s w.function) w.index) 0 d)
  zero_return_pays w arguments answer waiting log d i h =
      let f = w.function in
      let places = places_of s f in
      let sf = stands f h.known in
      let a = op_stands_at f places w.index in
      let has = one_stands s.code f places sf w.index ReturnZero i in
      let low = code_low s.code f places sf w.index ReturnZero i in
      let r1 = leaves_run (addu 2 0 0 ∷ []) s.code 0 0 a d (given 0 d) (λ rest. refl) (has.0, tt) in
      let r2 = jump_reaches s.code (a + 4) (leave_at f places) (given 0 d) (omega (arith, low))
      (leave_even s.code f places sf) has.1 in
      leave_pays w arguments answer waiting log ReturnZero 0 d (given 0 d) (at s.code a 0 d) 3 3 h (omega arith)
      (omega arith) (omega arith) (keeps_given 0 d) (update_same 2 0 d.registers)
      (runs_within (omega arith) (omega arith) (reaches_on r1 r2))

pub returns_pay : ReturnsPay
returns_pay s st w arguments answer waiting log d from i u h = return_pays s st w arguments answer waiting log d from i
    u h
