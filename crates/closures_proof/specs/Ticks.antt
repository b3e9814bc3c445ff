-- How the specification of a tick is made on the machine: all ops of a tick expression, from the one that brings the
-- tick's own size to the last that puts a captured word. They are over the registers in which the captured words stand,
-- and the words of the code are those of their templates. The order of ops and limits is this project's own rule.
use Rattle.std.specs.Prelude.{◌≡◌, ◌≢◌, ℕ, suc, ◌+◌, ◌*◌, ◌<◌, ◌≤◌, List, [], ◌∷◌, ◌++◌, length, map, slice_get}
use Rattle.std.specs.Prelude.{Option, Some, None}
use Rattle.limits.specs.declared.ops.TheConstants.{MOST_CAPTURES}
use Rattle.limits.specs.declared.program.TheConstants.{SIZE_LIMIT}
use Rattle.word32.specs.declared.map.TheConstants.{SEGMENT_BYTES}
use Rattle.host_edge.specs.declared.ending.Ending.TheVariants.{Trap}
use Rattle.host_edge.specs.declared.ending.TrapKind.{TrapKind}
use Rattle.history.specs.Events.{Ended}
use Rattle.history.specs.Syntax.{Syntax, Ticked}
use Rattle.mips_encoder.specs.declared.instruction.Instr.{Instr}
use Rattle.mips_encoder.specs.Addresses.{past}
use Rattle.mips_model.specs.State.{Code, Data}
use Rattle.mips_model.specs.Laws.{HasAt, at}
use Rattle.icode_ops.specs.Kinds.{run_number}
use Rattle.icode_ops.specs.declared.op.Op.{Op}
use Rattle.icode_ops.specs.declared.op.Op.TheVariants as op
use Rattle.icode_ops.specs.declared.kind.RunKind.TheVariants as run
use Rattle.typed_tree.specs.declared.expression.CaptureKind.{CaptureKind}
use Rattle.meaning_state.specs.Shared.{Shared}
use Rattle.meaning_state.specs.Rows.{next_number, specified}
use Rattle.staged_meaning.specs.Program.{is_expression, tick_size, syntax_size}
use Rattle.staged_meaning.specs.Specifications.{captures_trap, captures_of, specification_of, specify_tick}
use Rattle.staged_meaning.specs.World.{World, with_shared, spend, unless}
use Rattle.icode_templates.specs.Layout.{Layout}
use Rattle.icode_templates.specs.Templates.{Aim, routine_address, new_address}
use Rattle.icode_ir.specs.Sound.{Each}
use Rattle.icode_templates.specs.Expansion.{templates}
use Rattle.icode_templates_proof.specs.Spots.{pointer, value, Framed, Usable, Apart, IsKept, IsOther, register_of}
use Rattle.icode_templates_proof.specs.Spots.{SameWorld}
use Rattle.icode_templates_proof.specs.Moves.{Runs, EndsIn}
use Rattle.icode_templates_proof.specs.Closures.{with_so_far, appended}
use Rattle.icode_templates_proof.specs.Routines.{Named, begin_code, check_code, new_code}
use Rattle.icode_templates_proof.specs.RoutineLaws.{first_trap, new_trap}
use Rattle.closures_proof.specs.Ops.{check_of}
use Rattle.closures_proof.specs.Relation.{Text, syntax_head, HasSpecifications}
use Rattle.closures_proof.specs.Laws.{named_by, puts, kind_of_tick}

-- ---- the ops

-- a capture: its kind, the register of its word, and the one that gets the answer of its check, which nothing uses
pub record TickCapture : Type 0 where
  pub kind : CaptureKind
  pub word : ℕ
  pub answer : ℕ

-- the other registers: of the tick's own size, of the answer of the routine that begins, which nothing uses, and of the
-- new specification's number
pub record TickRegisters : Type 0 where
  pub size : ℕ
  pub begun : ℕ
  pub number : ℕ

-- a captured number is checked as what it is named as; a value or an address is not
abbrev pub check_op : Option Named → TickCapture → List Op
check_op None x = []
check_op (Some named) x = op.Run (check_of named) x.answer x.word ∷ []

abbrev pub check_ops : List TickCapture → List Op
check_ops [] = []
check_ops (x ∷ xs) = check_op (named_by x.kind) x ++ check_ops xs

-- the words are put one by one, from a number on
abbrev pub put_ops : (capture : ℕ) → List TickCapture → List Op
put_ops i [] = []
put_ops i (x ∷ xs) = op.Put i x.word ∷ put_ops (suc i) xs

-- the closure is made, and gets its words
abbrev pub new_ops : Text → (tick : ℕ) → TickRegisters → List TickCapture → List Op
new_ops text tick r xs =
    op.New r.number (text.generator_at tick) (kind_of_tick (is_expression (slice_get text.program.ticks tick)))
    (length xs)
    ∷ put_ops 0 xs

-- whole
abbrev pub tick_ops : Text → (tick : ℕ) → TickRegisters → List TickCapture → List Op
tick_ops text tick r xs =
    op.Const r.size (tick_size (slice_get text.program.ticks tick))
    ∷ op.Run run.Begin r.begun r.size
    ∷ (check_ops xs ++ new_ops text tick r xs)

-- ---- the registers

abbrev pub kinds_in : List TickCapture → List CaptureKind
kinds_in xs = map (λ (x : TickCapture). x.kind) xs

-- those of the captured words
abbrev pub words_in : List TickCapture → List ℕ
words_in xs = map (λ (x : TickCapture). x.word) xs

-- those that are written, and how many captures are checked
abbrev pub answer_in : Option Named → TickCapture → List ℕ
answer_in None x = []
answer_in (Some named) x = x.answer ∷ []

abbrev pub answers_in : List TickCapture → List ℕ
answers_in [] = []
answers_in (x ∷ xs) = answer_in (named_by x.kind) x ++ answers_in xs

abbrev pub written : TickRegisters → List TickCapture → List ℕ
written r xs = r.size ∷ r.begun ∷ r.number ∷ answers_in xs

abbrev pub checks_in : List TickCapture → ℕ
checks_in xs = length (answers_in xs)

-- ---- spots

-- the spots of registers are usable
abbrev pub AreUsable : Layout → (bytes : ℕ) → List ℕ → Type 0
AreUsable layout bytes vs = Each (λ v. Usable bytes (layout.spot v)) vs

-- the spot of a register is apart from those of other registers
abbrev pub IsApart : Layout → List ℕ → ℕ → Type 0
IsApart layout ws v = Each (λ w. Apart (layout.spot w) (layout.spot v)) ws

abbrev pub AreApart : Layout → List ℕ → List ℕ → Type 0
AreApart layout ws vs = Each (IsApart layout ws) vs

-- words stand at the spots of registers
abbrev pub HaveWords : Layout → Data → List ℕ → List ℕ → Type 0
HaveWords layout d [] [] = Unit {0}
HaveWords layout d (v ∷ vs) (x ∷ words) =
    (value d (layout.spot v) ≡ x) × (x < 4294967296) × HaveWords layout d vs words
HaveWords layout d _ words = ⊥

-- The ops' spots lie in a frame, and no op writes one in which a captured word stands: each of these is used later.
pub record HasSpots (layout : Layout) (bytes : ℕ) (r : TickRegisters) (xs : List TickCapture) (words : List ℕ)
    (d : Data) : Type 0 where
  pub frame : Framed (pointer d) bytes
  pub results : AreUsable layout bytes (written r xs)
  pub captured : AreUsable layout bytes (words_in xs)
  pub apart : AreApart layout (written r xs) (words_in xs)
  pub values : HaveWords layout d (words_in xs) words

-- ---- what is left as it was

-- a register of the machine, and a word of the stack, that is no spot of these registers
abbrev pub IsElsewhere : Layout → List ℕ → ℕ → Type 0
IsElsewhere layout ws q = Each (λ w. q ≢ register_of (layout.spot w)) ws

abbrev pub IsOtherWord : Layout → (sp : ℕ) → List ℕ → ℕ → Type 0
IsOtherWord layout sp ws n = Each (λ w. IsOther sp (layout.spot w) n) ws

-- the spots of these registers and $ra were written and no other one; memory but the stack is this
pub record Wrote (layout : Layout) (ws : List ℕ) (memory d after : Data) : Type 0 where
  pub registers : (q : ℕ) → IsKept q → q ≢ 31 → IsElsewhere layout ws q → after.registers q ≡ d.registers q
  pub stack : (n : ℕ) → IsOtherWord layout (pointer d) ws n → after.stack n ≡ d.stack n
  pub world : SameWorld memory after

-- ---- the laws

-- the routines stand in their blocks
pub record HasRoutines (c : Code) : Type 0 where
  pub begin : HasAt c (routine_address (run_number run.Begin)) begin_code
  pub check : (named : Named) → HasAt c (routine_address (run_number (check_of named))) (check_code named)
  pub new : HasAt c new_address new_code

abbrev pub tick_syntax : (tick : ℕ) → List TickCapture → List ℕ → Shared → Syntax
tick_syntax tick xs words shared = Ticked tick (captures_of shared.specifications (kinds_in xs) words)

-- the traps, in the order of the meaning: a captured number, then the size, and then the closures
abbrev pub tick_trap : Text → (tick : ℕ) → List TickCapture → List ℕ → Shared → Option TrapKind
tick_trap text tick xs words shared =
    first_trap (captures_trap shared.specifications (kinds_in xs) words)
    (new_trap (syntax_size text.program (tick_syntax tick xs words shared)) (length words) shared)

-- the memory with the new closure
abbrev pub tick_memory : Text → (tick : ℕ) → List TickCapture → List ℕ → Shared → Data → Data
tick_memory text tick xs words shared d =
    let head =
    syntax_head text (kind_of_tick (is_expression (slice_get text.program.ticks tick)))
    (tick_syntax tick xs words shared) in
    puts 0 words (appended head (length words) (with_so_far head.size head.parameters d))

-- the code of the ops, at an address of the segment of code
abbrev pub tick_code : Text → (tick : ℕ) → TickRegisters → List TickCapture → Layout → (Aim → ℕ) → List Instr
tick_code text tick r xs layout address = templates layout address (tick_ops text tick r xs)

-- The specification was made, as the meaning appends it: its number stands at the spot of its register.
pub record Specifies (text : Text) (shared : Shared) (tick : ℕ) (r : TickRegisters) (xs : List TickCapture)
    (words : List ℕ) (layout : Layout) (is : List Instr) (c : Code) (a : ℕ) (d : Data) : Type 0 where
  pub after : Data
  pub runs : Runs (53 + 34 * checks_in xs + 5 * length xs) (62 + 40 * checks_in xs + 8 * length xs) (at c a 0 d)
      (at c (past a is) 0 after)
  pub number : value after (layout.spot r.number) ≡ next_number shared
  pub specifications : HasSpecifications text
      (specified (specification_of (is_expression (slice_get text.program.ticks tick))
      (tick_syntax tick xs words shared)) (length words) shared) after
  pub left : Wrote layout (written r xs) (tick_memory text tick xs words shared d) d after

-- what holds where the ops begin
pub record BeforeTick (text : Text) (shared : Shared) (tick : ℕ) (r : TickRegisters) (xs : List TickCapture)
    (words : List ℕ) (layout : Layout) (address : Aim → ℕ) (bytes : ℕ) (c : Code) (a : ℕ) (d : Data) : Type 0 where
  pub routines : HasRoutines c
  pub specifications : HasSpecifications text shared d
  pub spots : HasSpots layout bytes r xs words d
  pub size : tick_size (slice_get text.program.ticks tick) ≤ SIZE_LIMIT
  pub generator : text.generator_at tick < 4294967296
  pub few : length xs ≤ MOST_CAPTURES
  pub stands : HasAt c a (tick_code text tick r xs layout address)
  pub low : past a (tick_code text tick r xs layout address) < SEGMENT_BYTES

-- The ops of a tick make its specification, where the meaning does.
abbrev pub TicksAreMade : Type 0
TicksAreMade =
    (text : Text) (shared : Shared) (tick : ℕ) (r : TickRegisters) (xs : List TickCapture) (words : List ℕ)
    (layout : Layout) (address : Aim → ℕ) (bytes : ℕ) (c : Code) (a : ℕ) (d : Data)
    → BeforeTick text shared tick r xs words layout address bytes c a d
    → tick_trap text tick xs words shared ≡ None
    → Specifies text shared tick r xs words layout (tick_code text tick r xs layout address) c a d

-- And they end the run as it does.
abbrev pub TicksTrap : Type 0
TicksTrap =
    (text : Text) (shared : Shared) (tick : ℕ) (r : TickRegisters) (xs : List TickCapture) (words : List ℕ)
    (layout : Layout) (address : Aim → ℕ) (bytes : ℕ) (c : Code) (a : ℕ) (d : Data) (kind : TrapKind)
    → BeforeTick text shared tick r xs words layout address bytes c a d
    → tick_trap text tick xs words shared ≡ Some kind
    → EndsIn 24 (43 + 40 * checks_in xs) (Ended (Trap kind)) (at c a 0 d) c d.outside

-- The meaning makes the specification of a tick so, and has these traps.
abbrev pub TicksAreMeant : Type 0
TicksAreMeant =
    (text : Text) (tick : ℕ) (xs : List TickCapture) (words : List ℕ) (w : World)
    → specify_tick text.program tick (kinds_in xs) words w
    ≡ unless (tick_trap text tick xs words w.shared) w
    (spend (next_number w.shared) (with_shared
    (specified (specification_of (is_expression (slice_get text.program.ticks tick))
    (tick_syntax tick xs words w.shared)) (length words) w.shared) w))
