-- What the routines and ops that make specifications do, as the meaning has it.
use Rattle.std.specs.Prelude.{◌≡◌, ℕ, suc, ◌+◌, ◌<◌, ◌≤◌, Bool, true, false, if◌then◌else◌, List, [], ◌∷◌, length}
use Rattle.std.specs.Prelude.{slice_get, Option, Some, None}
use Rattle.limits.specs.declared.program.TheConstants.{MOST_ARGUMENTS, SIZE_LIMIT}
use Rattle.host_edge.specs.declared.ending.TrapKind.TheVariants.{BadSpec}
use Rattle.history.specs.Syntax.{Ticked}
use Rattle.mips_model.specs.State.{Data}
use Rattle.icode_ops.specs.declared.kind.ClosureKind.{ClosureKind}
use Rattle.icode_ops.specs.declared.kind.ClosureKind.TheVariants as closure
use Rattle.typed_tree.specs.declared.expression.CaptureKind.{CaptureKind}
use Rattle.typed_tree.specs.declared.expression.CaptureKind.TheVariants as kind
use Rattle.typed_tree.specs.declared.expression.Answer.TheVariants as answer
use Rattle.meaning_state.specs.Shared.{Shared, Specification, Local, Param}
use Rattle.meaning_state.specs.Rows.{numbered, parameters_of, closure_trap, next_number, specified}
use Rattle.staged_meaning.specs.Program.{is_expression, tick_size, syntax_size}
use Rattle.staged_meaning.specs.Specifications.{fits, captures_trap, captures_of, specification_of}
use Rattle.icode_templates_proof.specs.Spots.{KeepsSpots}
use Rattle.icode_templates_proof.specs.Closures.{Closure, local_head, parameter_head, with_so_far, appended}
use Rattle.icode_templates_proof.specs.Routines.{Named, AnExpression, AStatement, AVariable}
use Rattle.icode_templates_proof.specs.RoutineLaws.{HasRows, named_trap, more_of}
use Rattle.closures_proof.specs.Ops.{with_captured}
use Rattle.closures_proof.specs.Relation.{Text, syntax_head, AllStandFor, HasSpecifications}

-- ---- captured numbers

-- what a capture is checked as; a value or an address is not checked
abbrev pub named_by : CaptureKind → Option Named
named_by (kind.Splice answer.Value) = Some AnExpression
named_by (kind.Splice answer.Void) = Some AStatement
named_by kind.Variable = Some AVariable
named_by _ = None

-- the routine that checks a captured number ends the run exactly where the meaning does
abbrev pub ChecksAgree : Type 0
ChecksAgree =
    (text : Text) (rows : List Specification) (ks : List Closure) (k : CaptureKind) (named : Named) (x : ℕ)
    → AllStandFor text rows ks → named_by k ≡ Some named
    → named_trap named (numbered x ks) ≡ (if fits k (numbered x rows) then None else Some BadSpec)

-- size and parameters so far
pub record Sums : Type 0 where
  pub size : ℕ
  pub parameters : ℕ

-- with a closure that was checked
abbrev pub plus : Option Closure → Sums → Sums
plus None sums = sums
plus (Some k) sums =
    record { size = sums.size + k.head.size; parameters = more_of sums.parameters k.head.parameters }

abbrev pub plus_named : Option Named → Option Closure → Sums → Sums
plus_named None k sums = sums
plus_named (Some named) k sums = plus k sums

-- and with all captured numbers, one after another
abbrev pub summed : List Closure → List CaptureKind → List ℕ → Sums → Sums
summed ks (k ∷ kinds) (x ∷ words) sums = summed ks kinds words (plus_named (named_by k) (numbered x ks) sums)
summed ks _ words sums = sums

-- they are those of the whole specification, where each captured number fits
abbrev pub SumsAreExact : Type 0
SumsAreExact =
    (text : Text) (rows : List Specification) (ks : List Closure) (tick : ℕ) (kinds : List CaptureKind)
    (words : List ℕ) → AllStandFor text rows ks → captures_trap rows kinds words ≡ None
    → length kinds ≡ length words
    → summed ks kinds words (record { size = tick_size (slice_get text.program.ticks tick); parameters = 0 })
    ≡ record {
      size = syntax_size text.program (Ticked tick (captures_of rows kinds words));
      parameters = parameters_of (Ticked tick (captures_of rows kinds words));
    }

-- ---- specifications that are made

-- the routines' premise on rows and cells
abbrev pub RowsAreThere : Type 0
RowsAreThere = (text : Text) (shared : Shared) (d : Data) → HasSpecifications text shared d → HasRows shared d

-- what keeps all spots, and adding up, keeps the specifications
abbrev pub SpecificationsAreKept : Type 0
SpecificationsAreKept =
    (text : Text) (shared : Shared) (d e : Data) → KeepsSpots d e → HasSpecifications text shared d
    → HasSpecifications text shared e

abbrev pub SpecificationsStayWithSums : Type 0
SpecificationsStayWithSums =
    (text : Text) (shared : Shared) (size parameters : ℕ) (d : Data) → HasSpecifications text shared d
    → HasSpecifications text shared (with_so_far size parameters d)

-- a variable of generated code, as the meaning makes it
abbrev pub LocalsStandFor : Type 0
LocalsStandFor =
    (text : Text) (shared : Shared) (d : Data) → HasSpecifications text shared d → closure_trap 0 shared ≡ None
    → HasSpecifications text (specified Local 0 shared) (appended (local_head (next_number shared)) 0 d)

abbrev pub ParametersStandFor : Type 0
ParametersStandFor =
    (text : Text) (shared : Shared) (index : ℕ) (d : Data) → HasSpecifications text shared d
    → index < MOST_ARGUMENTS → closure_trap 0 shared ≡ None
    → HasSpecifications text (specified (Param index) 0 shared) (appended (parameter_head index) 0 d)

-- the captured words that are put into the newest closure, from a number on
abbrev pub puts : (capture : ℕ) → List ℕ → Data → Data
puts capture [] d = d
puts capture (word ∷ words) d = puts (suc capture) words (with_captured capture word d)

-- the kind of a tick's closure
abbrev pub kind_of_tick : Bool → ClosureKind
kind_of_tick true = closure.Expression
kind_of_tick false = closure.Statement

-- a word is below 2^32
abbrev pub AreWordsIn : List ℕ → Type 0
AreWordsIn [] = Unit {0}
AreWordsIn (x ∷ xs) = (x < 4294967296) × AreWordsIn xs

-- A tick's specification, as the meaning makes it: its closure was made with what was added up, and then got its
-- captured words one by one.
abbrev pub TicksStandFor : Type 0
TicksStandFor =
    (text : Text) (shared : Shared) (tick : ℕ) (kinds : List CaptureKind) (words : List ℕ) (d : Data)
    → HasSpecifications text shared d → captures_trap shared.specifications kinds words ≡ None
    → length kinds ≡ length words → AreWordsIn words → text.generator_at tick < 4294967296
    → syntax_size text.program (Ticked tick (captures_of shared.specifications kinds words)) ≤ SIZE_LIMIT
    → closure_trap (length words) shared ≡ None
    → let syntax = Ticked tick (captures_of shared.specifications kinds words) in
    let is_value = is_expression (slice_get text.program.ticks tick) in
    HasSpecifications text (specified (specification_of is_value syntax) (length words) shared)
    (puts 0 words (appended (syntax_head text (kind_of_tick is_value) syntax) (length words) d))
