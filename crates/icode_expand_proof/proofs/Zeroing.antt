-- A Clear and the rounds of its loop pay.
use Rattle.std.proofs.Common.{◌≡◌, ℕ, zero, suc, ◌+◌, ◌*◌, ◌/◌, ◌%◌, ◌<◌, ◌≤◌, Bool, true, false, List}
use Rattle.std.proofs.Common.{Option, Some, None, refl, sym, ap, ◌∙◌, subst, arith, nat_eq, nat_le, if◌then◌else◌}
use Rattle.std.proofs.Common.{slice_get}
use Rattle.std.proofs.lemmas.Bool.Decides.{nat_tests}
use Rattle.word32.specs.declared.map.TheConstants.{OBJECTS, OBJECTS_END, SEGMENT_BYTES}
use Rattle.word32.specs.Words.{difference}
use Rattle.word32.specs.Space.{update}
use Rattle.mips_model.specs.State.{Data, World}
use Rattle.mips_model.specs.Steps.{going}
use Rattle.mips_model.specs.Laws.{HasAt, at, Reaches}
use Rattle.meaning_state.specs.Shared.{Shared, zeroed, are_objects}
use Rattle.icode_ops.specs.declared.op.Op.{Op}
use Rattle.icode_ops.specs.declared.op.Op.TheVariants.{Clear}
use Rattle.icode_ops.specs.Live.{Live}
use Rattle.icode_templates.specs.Templates.{clear_loop}
use Rattle.icode_meaning.specs.State.{Function, Frame, Log, nothing}
use Rattle.icode_meaning.specs.Steps.{paid, moved, address_of, zeroing, zeroed_on, word_zeroed}
use Rattle.icode_templates_proof.proofs.Memory.{update_other}
use Rattle.icode_templates_proof.proofs.Leaves.{leaves_run}
use Rattle.icode_templates_proof.proofs.Keeping.{value_kept}
use Rattle.icode_expand_proof.specs.Standing.{layout_of, op_stands_at, OpsStand}
use Rattle.icode_expand_proof.specs.Settings.{Setting, places_of, Standing}
use Rattle.icode_expand_proof.specs.Frames.{Alike}
use Rattle.icode_expand_proof.specs.Relation.{MemoryAgrees, Holds, Pays}
use Rattle.icode_expand_proof.proofs.Frames.{spots, value_alike}
use Rattle.icode_expand_proof.proofs.Memory.{memory_kept}
use Rattle.icode_expand_proof.proofs.Codes.{op_code, one_stands, code_low, next_at}
use Rattle.icode_expand_proof.proofs.Liveness.{next_follows, live_before}
use Rattle.icode_expand_proof.proofs.Paying.{none_passed, extents_kept}
use Rattle.icode_expand_proof.proofs.Within.{Within, holds_next, keeps_within}
use Rattle.icode_expand_proof.proofs.Clears.{both_code, both_in, both_leaves, both_keep, round, goes_round, goes_past}
use Rattle.icode_expand_proof.proofs.Clears.{same_words}
use Rattle.icode_expand_proof.proofs.Memory.{written_as, then_made, same_made, history_as, left_as}

all_three : (a b c : Bool) → (if a then (if b then c else false) else false) ≡ true → (a ≡ true) × (b ≡ true)
    × (c ≡ true)
all_three true true true e = (refl, refl, refl)
all_three true true false e = absurd cc
all_three true false c e = absurd cc
all_three false b c e = absurd cc

-- words that are objects
pub record Bounds (address words : ℕ) : Type 0 where
  pub from : OBJECTS ≤ address
  pub to : address + 4 * words ≤ OBJECTS_END
  pub even : address % 4 ≡ 0

pub bounds : (address words : ℕ) → are_objects address words ≡ true → Bounds address words
bounds address words e =
    let t = all_three (nat_le OBJECTS address) (nat_le (address + 4 * words) OBJECTS_END) (nat_eq (address % 4) 0) e in
    let t0 = t.0 in
    let t1 = t.1 in
    let t2 = t.2 in
    record {
      from = grind (arith, nat_tests, t0);
      to = grind (arith, nat_tests, t1);
      even = grind (arith, nat_tests, t2);
    }

round_alike : (address : ℕ) (d : Data) → Alike d (round address d)
round_alike address d =
    record { registers = λ r h. update_other 24 (address + 4) d.registers r h.0.1; stack = λ n le. refl }

round_within : (f : Function) (places : List ℕ) (address : ℕ) (d : Data) → Within f places d (round address d)
round_within f places address d = record {
  pointer_is = refl;
  registers = λ r h free. update_other 24 (address + 4) d.registers r h.0.1;
  saved_words = λ offset lo hi. refl;
  above = λ n le. refl;
}

zero_word : (k : ℕ) (m : ℕ → ℕ) → ((n : ℕ) → m n < 4294967296) → (n : ℕ) → update k 0 m n < 4294967296
zero_word k m words n = by (nat_eq n k)
  where
    by : (b : Bool) → (if b then 0 else m n) < 4294967296
    by true = omega arith
    by false = words n

memory_round : (s : Setting) (shared : Shared) (active address : ℕ) (d : Data) → MemoryAgrees s shared
    active d
    → MemoryAgrees s (zeroed address 1 shared) active (round address d)
memory_round s shared active address d h = record {
  history = h.history;
  input = h.input;
  at_end = h.at_end;
  objects = ap (update (address / 4) 0) h.objects ∙ same_words (address / 4) shared.objects;
  object_words =
      subst (λ (m : ℕ → ℕ). (n : ℕ) → m n < 4294967296) (same_words (address / 4) shared.objects)
      (zero_word (address / 4) shared.objects h.object_words);
  heap = h.heap;
  heap_place = h.heap_place;
  active_calls = h.active_calls;
  active_word = h.active_word;
  table = h.table;
  making = h.making;
  written = written_as refl refl refl refl h.written;
  made = then_made h.made (same_made shared (zeroed address 1 shared) refl refl refl);
}

module _ (s : Setting) (st : Standing s) where
  holds_round : (w : Frame) (waiting : List Frame) (log : Log) (address : ℕ) (d : Data) (j : ℕ)
      → ((v : ℕ) → Live w.function.ops v j → Live w.function.ops v w.index) → Holds s w nothing None waiting log d
      → Holds s (moved j w) nothing None waiting (word_zeroed address log) (round address d)
  holds_round w waiting log address d j back h =
      let f = w.function in
      let places = places_of s f in
      let suits = ((st.functions f.address f h.known).1).suits in
      holds_next s st w nothing nothing None waiting log (word_zeroed address log) j w.values w.on d (round address d) h
      (round_within f places address d)
      (λ v l live t. value_alike f.charge ((layout_of f places).spot v) (spots f places v suits l)
      (round_alike address d)
      ∙ h.ready.agrees v l (back v live) t)
      h.ready.words (memory_round s log.shared log.active address d h.memory)
      (record { used = h.extents.used; frames = h.extents.frames }) (none_passed (round address d))

  module _ (w : Frame) (waiting : List Frame) (offset words : ℕ)
      (i : slice_get w.function.ops w.index ≡ Some (Clear offset words)) where
    abbrev o : Op
    o = Clear offset words

    abbrev f : Function
    f = w.function

    abbrev places : List ℕ
    places = places_of s f

    abbrev a : ℕ
    a = op_stands_at f places w.index

    module _ (known : s.program.function_at w.function.address ≡ Some w.function) where
      stands : OpsStand s.code f places
      stands = (st.functions f.address f known).1

      code : HasAt s.code a (op_code f places o)
      code = one_stands s.code f places stands w.index o i

      loop_is : a + 4 + 4 + 4 + 4 + 4 + 4 ≡ a + 24
      loop_is = omega arith

      loop : HasAt s.code (a + 24) clear_loop
      loop = subst (λ n. HasAt s.code n clear_loop) loop_is code.1.1.1.1.1.1

      low : a + 24 < SEGMENT_BYTES
      low = let l = code_low s.code f places stands w.index o i in omega (arith, l)

      ends : a + 24 + 4 + 4 + 4 + 4 ≡ op_stands_at f places (suc w.index)
      ends =
          let e : a + 24 + 4 + 4 + 4 + 4 ≡ a + 4 + 4 + 4 + 4 + 4 + 4 + 4 + 4 + 4 + 4 = omega arith in
          e ∙ sym (next_at f places w.index o i)

      behind : (v : ℕ) → Live f.ops v (suc w.index) → Live f.ops v w.index
      behind v live = live_before f.ops v w.index (suc w.index) o i (next_follows f.ops v w.index o i refl live) refl
          live

    -- a round
    pub round_pays : (more address : ℕ) (log : Log) (d : Data) → Holds s w nothing None waiting log d
        → d.registers 24 ≡ address → d.registers 25 ≡ address + 4 * more + 4 → OBJECTS ≤ address
        → address + 4 * more + 4 ≤ OBJECTS_END → address % 4 ≡ 0
        → Pays s (zeroed_on more address w waiting (word_zeroed address log)) log (at s.code (a + 24) 0 d)
    round_pays zero address log d h from to lo hi even =
        let k = h.known in
        let r =
        goes_past s.code (a + 24) address (address + 4 * 0 + 4) d (low k) (loop k) from to even lo
        (omega (arith, hi))
        (omega arith) in
        record {
          count = 4;
          low = omega arith;
          high = omega arith;
          related = (
            st,
            record {
              d = round address d;
              holds = holds_round w waiting log address d (suc w.index) (behind k) h;
              recent = 0;
              few = omega arith;
              is = r.by ∙ ap (λ n. going (at s.code n 0 (round address d))) (ends k);
            },
          );
        }
    round_pays (suc more) address log d h from to lo hi even =
        let k = h.known in
        let r =
        goes_round s.code (a + 24) address (address + 4 * suc more + 4) d (low k) (loop k) from to even lo
        (omega (arith, hi)) (λ e. absurd (omega (arith, e))) in
        record {
          count = 4;
          low = omega arith;
          high = omega arith;
          related = (
            st,
            record {
              d = round address d;
              holds = holds_round w waiting log address d w.index (λ v live. live) h;
              offset = offset;
              words = words;
              op = i;
              next = refl;
              end = to ∙ omega arith;
              from = omega (arith, lo);
              to = omega (arith, hi);
              even = omega (arith, even);
              is = r.by;
            },
          );
        }

    -- the op itself
    module _ (arguments : ℕ → Option ℕ) (answer : Option ℕ) (log : Log) (d : Data)
        (h : Holds s w arguments answer waiting log d) where
      abbrev x : ℕ
      x = difference offset f.object

      abbrev y : ℕ
      y = difference (offset + 4 * words) f.object

      abbrev mid : Data
      mid = both_in x y d

      abbrev address : ℕ
      address = address_of offset w log

      comes : Reaches 6 (at s.code a 0 d) (at s.code (a + 24) 0 mid)
      comes =
          let c = code h.known in
          subst (λ n. Reaches 6 (at s.code a 0 d) (at s.code n 0 mid)) (loop_is h.known)
          (leaves_run (both_code x y) s.code 0 0 a d mid (both_leaves x y d)
          (c.0, (c.1.0, (c.1.1.0, (c.1.1.1.0, (c.1.1.1.1.0, (c.1.1.1.1.1.0, tt)))))))

      holds_mid : Holds s w nothing None waiting (paid o log) mid
      holds_mid =
          let k = both_keep x y d in
          let suits = (stands h.known).suits in
          holds_next s st w arguments nothing answer waiting log (paid o log) w.index w.values w.on d mid h
          (keeps_within f places k)
          (λ v l live t. value_kept f.charge d mid ((layout_of f places).spot v) (spots f places v suits l) k
          ∙ h.ready.agrees v l live t)
          h.ready.words (memory_kept s log.shared log.active d mid k.world h.memory)
          (extents_kept log.shared d mid k h.extents) (none_passed mid)

      first_is : mid.registers 24 ≡ address
      first_is = omega (arith, h.extents.frames, h.ready.objects_from)

      last_is : address + 4 * words ≤ OBJECTS_END → mid.registers 25 ≡ address + 4 * words
      last_is top = omega (arith, h.extents.frames, h.ready.objects_from, top)

      pub clear_pays : are_objects address words ≡ true → Pays s (zeroing words address w waiting (paid o log)) log
          (at s.code a 0 d)
      clear_pays e = by words refl (bounds address words e)
        where
          by : (n : ℕ) → words ≡ n → Bounds address words → Pays s (zeroing n address w waiting (paid o log)) log
              (at s.code a 0 d)
          by zero z b = record {
            count = 6;
            low = omega arith;
            high = omega arith;
            related = record {
              ending = sym (ap (λ (v : World). v.ending) comes.by);
              history = history_as s refl (sym (ap (λ (v : World). v.state.d.outside.history) comes.by))
                  holds_mid.memory.history;
              code = ap (λ (v : World). v.state.code) comes.by;
              making = left_as s (sym (ap (λ (v : World). v.state.d.outside) comes.by)) holds_mid.memory.making;
              fair = tt;
            };
          }
          by (suc more) z b = record {
            count = 6;
            low = omega arith;
            high = omega arith;
            related = (
              st,
              record {
                d = mid;
                holds = holds_mid;
                offset = offset;
                words = words;
                op = i;
                next = first_is;
                end = last_is b.to ∙ omega (arith, z);
                from = b.from;
                to = omega (arith, b.to, z);
                even = b.even;
                is = comes.by;
              },
            );
          }
