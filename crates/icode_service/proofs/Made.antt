-- That words were made and written: what a call of the expansion says, within the room for words and within the arena.
use Rattle.std.proofs.Common.{ℕ, ◌+◌, ◌*◌, ◌%◌, ◌≡◌, ◌<◌, ◌≤◌, Bool, true, false, List, Option, Some, None}
use Rattle.std.proofs.Common.{length, refl, sym, ap, subst, ◌∙◌, arith}
use Rattle.std.specs.Prelude.{◌&&◌, nat_eq, nat_le, if◌then◌else◌}
use Rattle.std.proofs.lemmas.Bool.{and_parts, leb-true}
use Rattle.std.proofs.lemmas.Option.{none-some}
use Rattle.limits.specs.declared.ops.TheConstants.{MOST_OPS, OP_WORDS, FRAME_WORDS}
use Rattle.limits.specs.declared.run.TheConstants.{STACK_OF_A_CALL}
use Rattle.word32.specs.declared.map.TheConstants.{STACK_BYTES}
use Rattle.code_arena.specs.Arena.{Arena}
use Rattle.icode_ops.specs.declared.op.Op.{Op}
use Rattle.icode_ir.specs.Build.{Build, finished}
use Rattle.icode_templates.specs.Expansion.{expanded, expansion}
use Rattle.icode_expand.specs.Laws.{WordsAreFew}
use Rattle.icode_expand.proofs.Lengths.{length_words}
use Rattle.mips_model.specs.declared.bad_service.BadService.{BadService}
use Rattle.mips_model.specs.declared.bad_service.BadService.TheVariants as reason
use Rattle.mips_model.specs.Choices.{Choice, IsScanned}
use Rattle.mips_model.specs.CodeServices.{is_arena_range, is_frame, is_done, finish_refusal, written_from}
use Rattle.mips_model.specs.CodeServices.{arena_word}
use Rattle.icode_service.specs.Made.{IsMade, IsShort}

-- a frame that is large enough for a call isn't larger than the stack
pub frame_low : (bytes registers : ℕ) → is_frame bytes registers ≡ true → bytes ≤ STACK_BYTES
frame_low bytes registers h =
    let a = and_parts (nat_le (STACK_OF_A_CALL + 4 * registers) bytes)
    (nat_le bytes STACK_BYTES && nat_eq (bytes % 4) 0) h in
    let b = and_parts (nat_le bytes STACK_BYTES) (nat_eq (bytes % 4) 0) a.1 in
    leb-true bytes STACK_BYTES b.0

-- ---- what is known of a finished function

-- where nothing is left, the frame and the range decide
early_is :
    (b : Build) (at most frame : ℕ) → is_done b ≡ true → finish_refusal b at most frame ≡
    (if is_arena_range at most
    then (if is_frame frame b.registers then None else Some reason.BadFrame)
    else Some reason.OutsideArena)
early_is b at most frame e =
    ap (λ (t : Bool). if t
    then (if is_arena_range at most
    then (if is_frame frame b.registers then None else Some reason.BadFrame)
    else Some reason.OutsideArena)
    else Some reason.NotEmpty) e

-- both tests hold where there is no reason
pub none_refused :
    (range frame : Bool) →
    (if range then (if frame then None else Some reason.BadFrame) else Some reason.OutsideArena) ≡ None →
    (range ≡ true) × (frame ≡ true)
none_refused true true e = (refl, refl)
none_refused true false e = absurd (none-some reason.BadFrame (sym e))
none_refused false frame e = absurd (none-some reason.OutsideArena (sym e))

pub taken_is :
    (b : Build) (at most frame n : ℕ) → n ≡ b.registers → is_done b ≡ true → is_arena_range at most ≡ true →
    is_frame frame n ≡ true → finish_refusal b at most frame ≡ None
taken_is b at most frame n e d r f =
    early_is b at most frame d
    ∙ (ap (λ (t : Bool). if t
    then (if is_frame frame b.registers then None else Some reason.BadFrame)
    else Some reason.OutsideArena) r
    ∙ ap (λ (t : Bool). if t then None else Some reason.BadFrame) (ap (is_frame frame) (sym e) ∙ f))

pub refused_is :
    (b : Build) (at most frame n : ℕ) (result : Option BadService) (why : BadService) → n ≡ b.registers →
    is_done b ≡ true →
    result ≡ (if is_arena_range at most
    then (if is_frame frame n then None else Some reason.BadFrame)
    else Some reason.OutsideArena) →
    result ≡ Some why → finish_refusal b at most frame ≡ Some why
refused_is b at most frame n result why e d r f =
    early_is b at most frame d
    ∙ (ap (λ (m : ℕ). if is_arena_range at most
    then (if is_frame frame m then None else Some reason.BadFrame)
    else Some reason.OutsideArena) (sym e)
    ∙ (sym r ∙ f))

-- words that were written for the ops of b, which has n registers
pub made_is :
    (b : Build) (ops : List Op) (places : List ℕ) (n at most frame words spills : ℕ) (before after : Arena) →
    ops ≡ finished b → n ≡ b.registers → is_done b ≡ true → is_arena_range at most ≡ true →
    is_frame frame n ≡ true → IsScanned ops n (record { places = places; spills = spills }) →
    words ≡ length (expanded ops places at frame 0 true) → words ≤ most →
    after ≡ written_from (arena_word at) (expanded ops places at frame 0 true) before →
    IsMade b at most frame before after places spills words
made_is b ops places n at most frame words spills before after e q d r f s w m p =
    let choice : Choice = record { places = places; spills = spills } in
    record {
      choice = choice;
      scanned =
          subst (λ (o : List Op). IsScanned o b.registers choice) e
          (subst (λ (k : ℕ). IsScanned ops k choice) q s);
      taken = taken_is b at most frame n q d r f;
      places_are = refl;
      spills_are = refl;
      words_are = w ∙ ap (λ (o : List Op). length (expanded o places at frame 0 true)) e;
      room = m;
      written = p ∙ ap (λ (o : List Op). written_from (arena_word at) (expanded o places at frame 0 true) before) e;
    }

-- words of which there are too many
pub short_is :
    (b : Build) (ops : List Op) (places : List ℕ) (n at most frame spills : ℕ) →
    ops ≡ finished b → n ≡ b.registers → is_done b ≡ true → is_arena_range at most ≡ true →
    is_frame frame n ≡ true → IsScanned ops n (record { places = places; spills = spills }) →
    most < length (expanded ops places at frame 0 true) → IsShort b at most frame
short_is b ops places n at most frame spills e q d r f s w =
    let choice : Choice = record { places = places; spills = spills } in
    record {
      choice = choice;
      scanned =
          subst (λ (o : List Op). IsScanned o b.registers choice) e
          (subst (λ (k : ℕ). IsScanned ops k choice) q s);
      taken = taken_is b at most frame n q d r f;
      short = subst (λ (o : List Op). most < length (expanded o places at frame 0 true)) e w;
    }

-- ---- the room for words

-- the words of a function are no more than there is room for
pub few_words :
    WordsAreFew → (ops : List Op) (places : List ℕ) (at frame : ℕ) → length ops ≤ MOST_OPS →
    length (expanded ops places at frame 0 true) ≤ OP_WORDS * MOST_OPS + FRAME_WORDS
few_words h ops places at frame few =
    omega (arith, few, h ops places at frame 0 true, length_words (expansion ops places at frame 0 true))
