-- No service answers more than there are words in the arena.
use Rattle.std.proofs.Common.{ℕ, ◌+◌, ◌*◌, ◌%◌, ◌≡◌, ◌≤◌, Bool, true, false, List, Option, Some, None, length}
use Rattle.std.proofs.Common.{refl, ap, arith}
use Rattle.std.specs.Prelude.{◌&&◌, nat_eq, nat_lt, nat_le, if◌then◌else◌}
use Rattle.std.proofs.lemmas.Bool.{and_parts, leb-true}
use Rattle.word32.specs.declared.map.TheConstants.{ARENA, ARENA_BYTES, ARENA_WORDS}
use Rattle.code_arena.specs.Arena.{flushed}
use Rattle.code_arena.specs.Rows.{published}
use Rattle.icode_ir.specs.declared.build_op.BuildOp.{BuildOp}
use Rattle.icode_ir.specs.declared.build_op.BuildFault.{BuildFault}
use Rattle.icode_ir.specs.Build.{Build}
use Rattle.icode_ir.specs.Rules.{fault_of}
use Rattle.icode_ir.specs.Decoded.{op_of}
use Rattle.mips_model.specs.declared.bad_service.BadService.{BadService}
use Rattle.mips_model.specs.declared.bad_service.BadService.TheVariants as reason
use Rattle.mips_model.specs.Choices.{Choice}
use Rattle.mips_model.specs.CodeServices as services
use Rattle.mips_model.specs.CodeServices.{Generator, Outcome, Refused, Does, builds, unless}
use Rattle.mips_model.specs.ServiceLaws.{AnswersAreSmall}

-- what an outcome answers, and 0 where it is refused
abbrev answer_of : Outcome → ℕ
answer_of (Refused why) = 0
answer_of (Does answer made change set) = answer

abbrev IsSmall : Outcome → Type 0
IsSmall o = answer_of o ≤ ARENA_WORDS

unless_small : (why : Option BadService) (o : Outcome) → IsSmall o → IsSmall (unless why o)
unless_small None o h = h
unless_small (Some why) o h = omega arith

built_small :
    (fault : Option BuildFault) (op : BuildOp) (b : Build) (g : Generator) → IsSmall (services.built fault op b g)
built_small None op b g = omega arith
built_small (Some fault) op b g = omega arith

emitted_small :
    (b : Option Build) (op : Option BuildOp) (g : Generator) → IsSmall (services.emit_in b op g)
emitted_small None op g = omega arith
emitted_small (Some b) None g = omega arith
emitted_small (Some b) (Some op) g = built_small (fault_of op b) op b g

-- so many words of the arena are no more than it has
range_small : (at count : ℕ) → services.is_arena_range at count ≡ true → count ≤ ARENA_WORDS
range_small at count h =
    let a = and_parts (nat_eq (at % 4) 0)
    (nat_le ARENA at && (nat_lt at (ARENA + ARENA_BYTES) && nat_le (at + 4 * count) (ARENA + ARENA_BYTES))) h in
    let b = and_parts (nat_le ARENA at)
    (nat_lt at (ARENA + ARENA_BYTES) && nat_le (at + 4 * count) (ARENA + ARENA_BYTES)) a.1 in
    let c = and_parts (nat_lt at (ARENA + ARENA_BYTES)) (nat_le (at + 4 * count) (ARENA + ARENA_BYTES)) b.1 in
    let first = leb-true ARENA at b.0 in
    let last = leb-true (at + 4 * count) (ARENA + ARENA_BYTES) c.1 in
    omega (arith, first, last)

write_small :
    (words : List ℕ) (choice : Choice) (at most : ℕ) (g : Generator) (t : Bool) → nat_le (length words) most ≡ t →
    most ≤ ARENA_WORDS →
    IsSmall (if t
    then Does (length words) (services.finished_with choice g)
    (services.written_from (services.arena_word at) words) (λ r. r)
    else Refused reason.Short)
write_small words choice at most g true e h =
    let few = leb-true (length words) most e in
    omega (arith, few, h)
write_small words choice at most g false e h = omega arith

-- behind the tests of the address
tested_small :
    (done range frame : Bool) (most : ℕ) (o : Outcome) → (range ≡ true → IsSmall o) →
    IsSmall (unless (if done
    then (if range then (if frame then None else Some reason.BadFrame) else Some reason.OutsideArena)
    else Some reason.NotEmpty) o)
tested_small true true true most o h = h refl
tested_small true true false most o h = omega arith
tested_small true false frame most o h = omega arith
tested_small false range frame most o h = omega arith

finished_small :
    (b : Option Build) (choice : Choice) (at most frame : ℕ) (g : Generator) →
    IsSmall (services.finish_in b choice at most frame g)
finished_small None choice at most frame g = omega arith
finished_small (Some b) choice at most frame g =
    let words = services.words_of b choice at frame in
    tested_small (services.is_done b) (services.is_arena_range at most) (services.is_frame frame b.registers) most
    (services.write words choice at most g)
    (λ h. write_small words choice at most g (nat_le (length words) most) refl (range_small at most h))

-- one outcome or the other
either_small : (t : Bool) (x y : Outcome) → IsSmall x → IsSmall y → IsSmall (if t then x else y)
either_small true x y h k = h
either_small false x y h k = k

begun_small : (parameters : ℕ) (g : Generator) → IsSmall (services.begin parameters g)
begun_small parameters g =
    unless_small (services.begin_refusal parameters g) (builds (services.begun parameters g)) (omega arith)

flushed_small : (at count : ℕ) (g : Generator) → IsSmall (services.flush at count g)
flushed_small at count g =
    either_small (services.is_arena_range at count) (Does 0 g (flushed (services.arena_word at) count) (λ r. r))
    (Refused reason.OutsideArena) (omega arith) (omega arith)

published_small : (row at count : ℕ) (g : Generator) → IsSmall (services.publish row at count g)
published_small row at count g =
    either_small (services.is_entry row at count) (Does 0 g (λ a. a) (published row at count)) (Refused reason.BadRow)
    (omega arith) (omega arith)

service_small :
    (choice : Choice) (number first second third : ℕ) (g : Generator) →
    IsSmall (services.service choice number first second third g)
service_small choice number first second third g = by (nat_eq number 64) (nat_eq number 65) (nat_eq number 66)
    (nat_eq number 67) (nat_eq number 68)
  where
    by :
        (a b c d e : Bool) → IsSmall (if a then services.begin first g
        else (if b then services.emit first second third g
        else (if c then services.finish choice first second third g
        else (if d then services.flush first second g
        else (if e then services.publish first second third g
        else Refused reason.NoService)))))
    by true b c d e = begun_small first g
    by false true c d e = emitted_small g.build (op_of first second third) g
    by false false true d e = finished_small g.build choice first second third g
    by false false false true e = flushed_small first second g
    by false false false false true = published_small first second third g
    by false false false false false = omega arith

pub answers-are-small : AnswersAreSmall
answers-are-small choice number first second third answer g made change set e =
    let h = service_small choice number first second third g in
    omega (arith, h, ap answer_of e)
