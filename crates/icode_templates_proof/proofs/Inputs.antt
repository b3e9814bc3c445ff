-- A byte is read, or the end, or the input fails.
use Rattle.std.proofs.Common.{◌≡◌, ◌⊎◌, inl, inr, ℕ, ◌%◌, ◌<◌, Bool, true, false, List, [], ◌∷◌, ◌++◌, refl}
use Rattle.std.proofs.Common.{◌∙◌, arith}
use Rattle.history.specs.Events.{In, ReadFault, Input, Given, AtEnd, Failing, next_of, next_byte}
use Rattle.mips_model.specs.State.{Code, Data, Outside}
use Rattle.mips_encoder.specs.Addresses.{past}
use Rattle.mips_model.specs.Laws.{HasAt, at}
use Rattle.mips_model.proofs.Reach.{step_acts}
use Rattle.icode_templates.specs.Layout.{Spot}
use Rattle.mips_assembly.specs.Assembly.{syscall}
use Rattle.icode_templates.specs.Templates.{in_code, out_code, service_code}
use Rattle.icode_templates_proof.specs.Spots.{pointer, value, Framed, Usable}
use Rattle.icode_templates_proof.specs.Laws.{heard, left_at_end}
use Rattle.icode_templates_proof.specs.Moves.{Writes}
use Rattle.icode_templates_proof.specs.Moves.{EndsIn}
use Rattle.icode_templates_proof.proofs.Leaves.{Leaves}
use Rattle.icode_templates_proof.proofs.Operands.{one_in}
use Rattle.icode_templates_proof.proofs.Serving.{answered, asking, service_writes, service_ends}

-- what had passed with the outside, where the input answered x
abbrev passed : ℕ → Bool → Input → Outside → Outside
passed x at_end input o = record o { input = input; at_end = at_end; history = o.history ++ In x ∷ [] }

-- a byte is less than 256
pub byte_given : (bytes : List ℕ) (failing : Bool) (b : ℕ) (rest : Input) → next_of bytes failing ≡ Given b rest →
    b < 256
byte_given [] true b rest e = let x : ⊥ = cc in absurd x
byte_given [] false b rest e = let x : ⊥ = cc in absurd x
byte_given (x ∷ xs) failing b rest e = let same : x % 256 ≡ b = cc in omega (arith, same)

byte_leaves : (b : ℕ) (rest : Input) (d : Data) → d.outside.at_end ≡ false → next_byte d.outside.input ≡ Given b rest →
    Leaves (service_code 12) 0 d 0 (answered 12 (passed b false rest d.outside) b d)
byte_leaves b rest d e n more = rw (e, n) refl

end_leaves : (d : Data) → (d.outside.at_end ≡ true) ⊎ (next_byte d.outside.input ≡ AtEnd) →
    Leaves (service_code 12) 0 d 0 (answered 12 (passed 4294967295 true (left_at_end d.outside) d.outside) 4294967295 d)
end_leaves d (inl e) = λ more. rw e refl
end_leaves d (inr n) = by d.outside.at_end refl
  where
    by : (t : Bool) → d.outside.at_end ≡ t → Leaves (service_code 12) 0 d 0
        (answered 12 (passed 4294967295 true (left_at_end d.outside) d.outside) 4294967295 d)
    by true e rest = rw e refl
    by false e rest = rw (e, n) refl

pub byte_reads : (c : Code) (a bytes b : ℕ) (rest : Input) (d : Data) (w v : Spot) → Framed (pointer d) bytes →
    Usable bytes w → Usable bytes v → value d v < 4294967296 → d.outside.at_end ≡ false →
    next_byte d.outside.input ≡ Given b rest
    → HasAt c a (in_code v ++ (service_code 12 ++ out_code w))
    → Writes w b 6 11 (at c a 0 d) c (past a (in_code v ++ (service_code 12 ++ out_code w))) (heard b false rest d)
byte_reads c a bytes b rest d w v f u u' small e n h =
    let range = byte_given d.outside.input.bytes d.outside.input.failing b rest n in
    service_writes 12 b (passed b false rest d.outside) (passed b false rest d.outside) c a bytes d w v f u u' small
    (omega (arith, range)) refl (byte_leaves b rest (one_in v d) e n) h

pub end_reads : (c : Code) (a bytes : ℕ) (d : Data) (w v : Spot) → Framed (pointer d) bytes →
    Usable bytes w → Usable bytes v → value d v < 4294967296 →
    (d.outside.at_end ≡ true) ⊎ (next_byte d.outside.input ≡ AtEnd)
    → HasAt c a (in_code v ++ (service_code 12 ++ out_code w))
    → Writes w 4294967295 6 11 (at c a 0 d) c (past a (in_code v ++ (service_code 12 ++ out_code w)))
    (heard 4294967295 true (left_at_end d.outside) d)
end_reads c a bytes d w v f u u' small e h =
    let o = passed 4294967295 true (left_at_end d.outside) d.outside in
    service_writes 12 4294967295 o o c a bytes d w v f u u' small (omega arith) refl (end_leaves (one_in v d) e) h

pub failure_ends : (c : Code) (a bytes : ℕ) (d : Data) (w v : Spot) → Framed (pointer d) bytes → Usable bytes v →
    value d v < 4294967296 → d.outside.at_end ≡ false → next_byte d.outside.input ≡ Failing
    → HasAt c a (in_code v ++ (service_code 12 ++ out_code w))
    → EndsIn 4 7 ReadFault (at c a 0 d) c d.outside
failure_ends c a bytes d w v f u small e n h =
    service_ends 12 ReadFault c a bytes d w v f u small (λ rest. refl)
    (λ b s. step_acts syscall (at c b 0 (asking 12 (one_in v d))) s.0 refl ∙ rw (e, n) refl) h
