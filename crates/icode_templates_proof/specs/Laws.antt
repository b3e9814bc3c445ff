-- What the instructions of ops do, under any spots of their registers, and in how many instructions. The frame lies in
-- the stack's region, and each spot is one that its code can reach.
use Rattle.std.specs.Prelude.{◌≡◌, ◌≢◌, ◌⊎◌, ℕ, ◌+◌, ◌%◌, ◌<◌, Bool, true, false, List, [], ◌∷◌, ◌++◌, if◌then◌else◌}
use Rattle.std.specs.Prelude.{Some, None}
use Rattle.word32.specs.declared.map.TheConstants.{SEGMENT_BYTES}
use Rattle.word32.specs.Space.{load, store, AreWords}
use Rattle.word32.specs.declared.width.Width.{Width}
use Rattle.host_edge.specs.declared.ending.Ending.TheVariants.{Done, Trap}
use Rattle.host_edge.specs.declared.ending.TrapKind.{TrapKind}
use Rattle.history.specs.Events.{In, Ended, ReadFault, Input, Given, AtEnd, Failing, next_byte, number_bytes}
use Rattle.mips_encoder.specs.declared.instruction.Instr.{Instr}
use Rattle.mips_encoder.specs.Addresses.{past}
use Rattle.mips_model.specs.State.{Code, Data, Outside}
use Rattle.mips_model.specs.Laws.{HasAt, at}
use Rattle.mips_model.specs.Services.{says, with_outside}
use Rattle.icode_ops.specs.declared.kind.BinKind.{BinKind}
use Rattle.icode_ops.specs.declared.kind.UnKind.{UnKind}
use Rattle.meaning_state.specs.Operators.{bin_value, un_value, bin_trap, signed_trap, zero_trap}
use Rattle.meaning_state.specs.Shared.{access_trap}
use Rattle.icode_templates.specs.Layout.{Spot}
use Rattle.mips_assembly.specs.Assembly.{bne, beq, j, nop, constant}
use Rattle.icode_templates.specs.Templates.{in_code, in_two_code, out_code, bin_core, service_code, range_check}
use Rattle.icode_templates.specs.Templates.{load_instruction, store_instruction, un_core, trap_if_zero}
use Rattle.icode_templates.specs.Templates.{division_check}
use Rattle.icode_templates_proof.specs.Spots.{pointer, value, Framed, Usable}
use Rattle.icode_templates_proof.specs.Moves.{Writes, Comes, Computes, EndsIn}

-- a constant is written to its spot
abbrev pub ConstantsAreWritten : Type 0
ConstantsAreWritten =
    (c : Code) (a bytes x : ℕ) (d : Data) (w : Spot) → Framed (pointer d) bytes → Usable bytes w → x < 4294967296
    → HasAt c a (constant 24 x ++ out_code w) → Writes w x 3 5 (at c a 0 d) c (past a (constant 24 x ++ out_code w)) d

-- a value is copied from one spot to another
abbrev pub ValuesAreCopied : Type 0
ValuesAreCopied =
    (c : Code) (a bytes : ℕ) (d : Data) (w v : Spot) → Framed (pointer d) bytes → Usable bytes w → Usable bytes v
    → value d v < 4294967296 → HasAt c a (in_code v ++ out_code w)
    → Writes w (value d v) 2 7 (at c a 0 d) c (past a (in_code v ++ out_code w)) d

-- an operator is applied to two spots, where it has no trap
abbrev pub OperatorsAreApplied : Type 0
OperatorsAreApplied =
    (kind : BinKind) (c : Code) (a bytes : ℕ) (d : Data) (w v z : Spot) → Framed (pointer d) bytes
    → Usable bytes w → Usable bytes v → Usable bytes z → value d v < 4294967296 → value d z < 4294967296
    → bin_trap kind (value d v) (value d z) ≡ None
    → HasAt c a (in_two_code v z ++ (bin_core kind ++ out_code w))
    → Computes w (bin_value kind (value d v) (value d z)) 4 12 (at c a 0 d) c
    (past a (in_two_code v z ++ (bin_core kind ++ out_code w))) d

-- and one of one word to a spot
abbrev pub OperatorsAreAppliedToOne : Type 0
OperatorsAreAppliedToOne =
    (kind : UnKind) (c : Code) (a bytes : ℕ) (d : Data) (w v : Spot) → Framed (pointer d) bytes
    → Usable bytes w → Usable bytes v → value d v < 4294967296
    → HasAt c a (in_code v ++ (un_core kind ++ out_code w))
    → Writes w (un_value kind (value d v)) 3 9 (at c a 0 d) c (past a (in_code v ++ (un_core kind ++ out_code w))) d

-- a byte is put out, and it is the answer
abbrev pub said : ℕ → Data → Data
said v d = with_outside (says (v % 256 ∷ []) d.outside) d

abbrev pub BytesArePutOut : Type 0
BytesArePutOut =
    (c : Code) (a bytes : ℕ) (d : Data) (w v : Spot) → Framed (pointer d) bytes → Usable bytes w → Usable bytes v
    → value d v < 4294967296 → HasAt c a (in_code v ++ (service_code 11 ++ out_code w))
    → Writes w (value d v % 256) 6 11 (at c a 0 d) c (past a (in_code v ++ (service_code 11 ++ out_code w)))
    (said (value d v) d)

-- a branch on 0, and one on other numbers, over the jump to the label
abbrev pub zero_code : ℕ → List Instr
zero_code target = bne 24 0 3 ∷ nop ∷ j target ∷ nop ∷ []

abbrev pub nonzero_code : ℕ → List Instr
nonzero_code target = beq 24 0 3 ∷ nop ∷ j target ∷ nop ∷ []

abbrev pub ZeroGoes : Type 0
ZeroGoes =
    (c : Code) (a bytes target : ℕ) (d : Data) (v : Spot) → past a (in_code v) + 12 < SEGMENT_BYTES → target % 4 ≡ 0
    → Framed (pointer d) bytes → Usable bytes v → value d v ≡ 0
    → HasAt c a (in_code v ++ zero_code target) → Comes 5 8 (at c a 0 d) c target d

abbrev pub OthersPass : Type 0
OthersPass =
    (c : Code) (a bytes target : ℕ) (d : Data) (v : Spot) → past a (in_code v) + 12 < SEGMENT_BYTES
    → Framed (pointer d) bytes → Usable bytes v → value d v < 4294967296 → value d v ≢ 0
    → HasAt c a (in_code v ++ zero_code target) → Comes 3 6 (at c a 0 d) c (past a (in_code v ++ zero_code target)) d

abbrev pub OthersGo : Type 0
OthersGo =
    (c : Code) (a bytes target : ℕ) (d : Data) (v : Spot) → past a (in_code v) + 12 < SEGMENT_BYTES → target % 4 ≡ 0
    → Framed (pointer d) bytes → Usable bytes v → value d v < 4294967296 → value d v ≢ 0
    → HasAt c a (in_code v ++ nonzero_code target) → Comes 5 8 (at c a 0 d) c target d

abbrev pub ZeroPasses : Type 0
ZeroPasses =
    (c : Code) (a bytes target : ℕ) (d : Data) (v : Spot) → past a (in_code v) + 12 < SEGMENT_BYTES
    → Framed (pointer d) bytes → Usable bytes v → value d v ≡ 0
    → HasAt c a (in_code v ++ nonzero_code target) →
    Comes 3 6 (at c a 0 d) c (past a (in_code v ++ nonzero_code target)) d

-- a number is put out in decimal, and it is the answer
abbrev pub told : ℕ → Data → Data
told v d = with_outside (says (number_bytes v) d.outside) d

abbrev pub NumbersArePutOut : Type 0
NumbersArePutOut =
    (c : Code) (a bytes : ℕ) (d : Data) (w v : Spot) → Framed (pointer d) bytes → Usable bytes w → Usable bytes v
    → value d v < 4294967296 → HasAt c a (in_code v ++ (service_code 1 ++ out_code w))
    → Writes w (value d v) 6 11 (at c a 0 d) c (past a (in_code v ++ (service_code 1 ++ out_code w)))
    (told (value d v) d)

-- The input was asked for a byte, and answered this word: what is left of it, and whether its end was read.
abbrev pub heard : ℕ → Bool → Input → Data → Data
heard x at_end input d =
    with_outside (record d.outside { input = input; at_end = at_end; history = d.outside.history ++ In x ∷ [] }) d

-- a byte is read where the end wasn't
abbrev pub BytesAreRead : Type 0
BytesAreRead =
    (c : Code) (a bytes b : ℕ) (rest : Input) (d : Data) (w v : Spot) → Framed (pointer d) bytes → Usable bytes w
    → Usable bytes v → value d v < 4294967296 → d.outside.at_end ≡ false → next_byte d.outside.input ≡ Given b rest
    → HasAt c a (in_code v ++ (service_code 12 ++ out_code w))
    → Writes w b 6 11 (at c a 0 d) c (past a (in_code v ++ (service_code 12 ++ out_code w))) (heard b false rest d)

-- at the end the answer is -1, and the end is read once
abbrev pub left_at_end : Outside → Input
left_at_end o = if o.at_end then o.input else (record { bytes = []; failing = false })

abbrev pub EndsAreRead : Type 0
EndsAreRead =
    (c : Code) (a bytes : ℕ) (d : Data) (w v : Spot) → Framed (pointer d) bytes → Usable bytes w → Usable bytes v
    → value d v < 4294967296 → (d.outside.at_end ≡ true) ⊎ (next_byte d.outside.input ≡ AtEnd)
    → HasAt c a (in_code v ++ (service_code 12 ++ out_code w))
    → Writes w 4294967295 6 11 (at c a 0 d) c (past a (in_code v ++ (service_code 12 ++ out_code w)))
    (heard 4294967295 true (left_at_end d.outside) d)

-- an input that fails ends the run
abbrev pub FailuresEnd : Type 0
FailuresEnd =
    (c : Code) (a bytes : ℕ) (d : Data) (w v : Spot) → Framed (pointer d) bytes → Usable bytes v
    → value d v < 4294967296 → d.outside.at_end ≡ false → next_byte d.outside.input ≡ Failing
    → HasAt c a (in_code v ++ (service_code 12 ++ out_code w))
    → EndsIn 4 7 ReadFault (at c a 0 d) c d.outside

-- an exit ends the run with its status
abbrev pub ExitsEnd : Type 0
ExitsEnd =
    (c : Code) (a bytes : ℕ) (d : Data) (w v : Spot) → Framed (pointer d) bytes → Usable bytes v
    → value d v < 4294967296 → HasAt c a (in_code v ++ (service_code 10 ++ out_code w))
    → EndsIn 4 7 (Ended (Done (value d v % 256))) (at c a 0 d) c d.outside

-- a load and a store, behind the test of the address
abbrev pub fetching_code : Width → Spot → Spot → List Instr
fetching_code kind v w = in_code v ++ (range_check 25 ++ load_instruction kind ∷ nop ∷ out_code w)

abbrev pub storing_code : Width → Spot → Spot → List Instr
storing_code kind v z = in_two_code v z ++ (range_check 1 ++ store_instruction kind ∷ [])

-- a part of an object is loaded to a spot
abbrev pub LoadsAreMade : Type 0
LoadsAreMade =
    (kind : Width) (c : Code) (a bytes : ℕ) (d : Data) (w v : Spot) → past a (in_code v) + 20 < SEGMENT_BYTES
    → Framed (pointer d) bytes → Usable bytes w → Usable bytes v → value d v < 4294967296 → AreWords d.objects
    → access_trap (value d v) kind ≡ None → HasAt c a (fetching_code kind v w)
    → Writes w (load d.objects (value d v) kind) 8 13 (at c a 0 d) c (past a (fetching_code kind v w)) d

-- or the load traps
abbrev pub LoadsTrap : Type 0
LoadsTrap =
    (kind : Width) (trap : TrapKind) (c : Code) (a bytes : ℕ) (d : Data) (w v : Spot)
    → past a (in_code v) + 20 < SEGMENT_BYTES → Framed (pointer d) bytes → Usable bytes v → value d v < 4294967296
    → access_trap (value d v) kind ≡ Some trap → HasAt c a (fetching_code kind v w)
    → EndsIn 6 9 (Ended (Trap trap)) (at c a 0 d) c d.outside

-- a value is stored to a part of an object, and no spot is written
abbrev pub stored_in : Width → ℕ → ℕ → Data → Data
stored_in kind address x d = record d { objects = store address kind x d.objects }

abbrev pub StoresAreMade : Type 0
StoresAreMade =
    (kind : Width) (c : Code) (a bytes : ℕ) (d : Data) (v z : Spot) → past a (in_two_code v z) + 20 < SEGMENT_BYTES
    → Framed (pointer d) bytes → Usable bytes v → Usable bytes z → value d v < 4294967296 → value d z < 4294967296
    → access_trap (value d v) kind ≡ None → HasAt c a (storing_code kind v z)
    → Comes 7 12 (at c a 0 d) c (past a (storing_code kind v z)) (stored_in kind (value d v) (value d z) d)

-- or the store traps
abbrev pub StoresTrap : Type 0
StoresTrap =
    (kind : Width) (trap : TrapKind) (c : Code) (a bytes : ℕ) (d : Data) (v z : Spot)
    → past a (in_two_code v z) + 20 < SEGMENT_BYTES → Framed (pointer d) bytes → Usable bytes v → Usable bytes z
    → value d v < 4294967296 → value d z < 4294967296
    → access_trap (value d v) kind ≡ Some trap → HasAt c a (storing_code kind v z)
    → EndsIn 7 12 (Ended (Trap trap)) (at c a 0 d) c d.outside

-- a check passes where there is no trap
abbrev pub ZeroChecksPass : Type 0
ZeroChecksPass =
    (c : Code) (a bytes : ℕ) (d : Data) (v : Spot) → past a (in_code v ++ trap_if_zero 24 7) < SEGMENT_BYTES
    → Framed (pointer d) bytes → Usable bytes v → value d v < 4294967296 → zero_trap (value d v) ≡ None
    → HasAt c a (in_code v ++ trap_if_zero 24 7)
    → Comes 3 6 (at c a 0 d) c (past a (in_code v ++ trap_if_zero 24 7)) d

abbrev pub DivisionChecksPass : Type 0
DivisionChecksPass =
    (c : Code) (a bytes : ℕ) (d : Data) (v z : Spot) → past a (in_two_code v z ++ division_check) < SEGMENT_BYTES
    → Framed (pointer d) bytes → Usable bytes v → Usable bytes z → value d v < 4294967296 → value d z < 4294967296
    → signed_trap (value d v) (value d z) ≡ None → HasAt c a (in_two_code v z ++ division_check)
    → Comes 7 14 (at c a 0 d) c (past a (in_two_code v z ++ division_check)) d

-- and else the run ends with it
abbrev pub ZeroChecksTrap : Type 0
ZeroChecksTrap =
    (c : Code) (a bytes : ℕ) (d : Data) (v : Spot) (kind : TrapKind)
    → past a (in_code v ++ trap_if_zero 24 7) < SEGMENT_BYTES
    → Framed (pointer d) bytes → Usable bytes v → value d v < 4294967296 → zero_trap (value d v) ≡ Some kind
    → HasAt c a (in_code v ++ trap_if_zero 24 7)
    → EndsIn 4 7 (Ended (Trap kind)) (at c a 0 d) c d.outside

abbrev pub DivisionChecksTrap : Type 0
DivisionChecksTrap =
    (c : Code) (a bytes : ℕ) (d : Data) (v z : Spot) (kind : TrapKind)
    → past a (in_two_code v z ++ division_check) < SEGMENT_BYTES
    → Framed (pointer d) bytes → Usable bytes v → Usable bytes z → value d v < 4294967296 → value d z < 4294967296
    → signed_trap (value d v) (value d z) ≡ Some kind → HasAt c a (in_two_code v z ++ division_check)
    → EndsIn 5 15 (Ended (Trap kind)) (at c a 0 d) c d.outside
