-- How many words there are at most.
use Rattle.std.proofs.Common.{ℕ, ◌≡◌, ◌+◌, ◌*◌, ◌≤◌, Bool, true, false, cond, nat_eq, List, [], ◌∷◌, ◌++◌, length, refl}
use Rattle.std.proofs.Common.{arith, length-append}
use Rattle.std.specs.List.{filter}
use Rattle.mips_encoder.specs.declared.instruction.Instr.{Instr}
use Rattle.mips_encoder.specs.Addresses.{past}
use Rattle.icode_ops.specs.declared.kind.BinKind.{BinKind}
use Rattle.icode_ops.specs.declared.kind.UnKind.{UnKind}
use Rattle.icode_ops.specs.declared.kind.BinKind.TheVariants as bin
use Rattle.icode_ops.specs.declared.kind.UnKind.TheVariants as un
use Rattle.icode_ops.specs.declared.op.Op.{Op}
use Rattle.icode_ops.specs.declared.op.Op.TheVariants.{Const, Move, Bin, CheckDivision, CheckZero, Un, FrameAddress}
use Rattle.icode_ops.specs.declared.op.Op.TheVariants.{Load, Store, Clear, Label, Jump, BranchZero, BranchNonzero}
use Rattle.icode_ops.specs.declared.op.Op.TheVariants.{Argument, GetParameter, Call, CallNumber, Result, Return}
use Rattle.icode_ops.specs.declared.op.Op.TheVariants.{ReturnZero, Sys, Run, New, Put}
use Rattle.mips_assembly.specs.Assembly.{t8, t9}
use Rattle.icode_templates.specs.Layout.{Spot, InRegister, InSlot, Layout, laid, parameter_spot}
use Rattle.icode_templates.specs.Templates.{Aim, load_code, wait_code, out_code, bin_core, un_core, template}
use Rattle.icode_templates.specs.Frames.{saves, restores, enter_count, leave_count}
use Rattle.icode_saves.specs.Places.{has, register_places, saved}
use Rattle.icode_templates.specs.Frames.{take_objects, free_objects, prologue, epilogue}
use Rattle.icode_templates.specs.Expansion.{templates, aims, expansion}

load_most : (t : ℕ) (s : Spot) → length (load_code t s) ≤ 3
load_most t (InRegister r) = omega arith
load_most t (InSlot true offset) = omega arith
load_most t (InSlot false offset) = omega arith

wait_most : (s : Spot) → length (wait_code s) ≤ 1
wait_most (InRegister r) = omega arith
wait_most (InSlot far offset) = omega arith

out_most : (s : Spot) → length (out_code s) ≤ 3
out_most (InRegister r) = omega arith
out_most (InSlot true offset) = omega arith
out_most (InSlot false offset) = omega arith

bin_most : (k : BinKind) → length (bin_core k) ≤ 2
bin_most bin.Add = omega arith
bin_most k = omega arith

un_most : (k : UnKind) → length (un_core k) ≤ 2
un_most un.Negate = omega arith
un_most k = omega arith

pub template_most : (l : Layout) (a : Aim → ℕ) (op : Op) → length (template l a op) ≤ 16
template_most l a (Const to word) = omega (arith, out_most (l.spot to))
template_most l a (Move to from) =
    simp length-append (omega (arith, load_most t8 (l.spot from), wait_most (l.spot from), out_most (l.spot to)))
template_most l a (Bin kind to left right) =
    simp length-append
    (omega (
      arith,
      load_most t8 (l.spot left),
      load_most t9 (l.spot right),
      wait_most (l.spot right),
      bin_most kind,
      out_most (l.spot to),
    ))
template_most l a (CheckDivision left right) =
    simp length-append (omega
    (arith, load_most t8 (l.spot left), load_most t9 (l.spot right), wait_most (l.spot right)))
template_most l a (CheckZero divisor) =
    simp length-append (omega (arith, load_most t8 (l.spot divisor), wait_most (l.spot divisor)))
template_most l a (Un kind to from) =
    simp length-append (omega
    (arith, load_most t8 (l.spot from), wait_most (l.spot from), un_most kind, out_most (l.spot to)))
template_most l a (FrameAddress to offset) = omega (arith, out_most (l.spot to))
template_most l a (Load width to from) =
    simp length-append (omega (arith, load_most t8 (l.spot from), wait_most (l.spot from), out_most (l.spot to)))
template_most l a (Store width to value) =
    simp length-append (omega (arith, load_most t8 (l.spot to), load_most t9 (l.spot value), wait_most (l.spot value)))
template_most l a (Clear offset words) = omega arith
template_most l a (Label label) = omega arith
template_most l a (Jump label) = omega arith
template_most l a (BranchZero test label) =
    simp length-append (omega (arith, load_most t8 (l.spot test), wait_most (l.spot test)))
template_most l a (BranchNonzero test label) =
    simp length-append (omega (arith, load_most t8 (l.spot test), wait_most (l.spot test)))
template_most l a (Argument index from) =
    simp length-append (omega (arith, load_most t8 (l.spot from), wait_most (l.spot from)))
template_most l a (GetParameter to index) =
    simp length-append
    (omega (arith, load_most t8 (parameter_spot l index), wait_most (parameter_spot l index), out_most (l.spot to)))
template_most l a (Call target) = omega arith
template_most l a (CallNumber function count) =
    simp length-append (omega (arith, load_most t8 (l.spot function), wait_most (l.spot function)))
template_most l a (Result to) = omega (arith, out_most (l.spot to))
template_most l a (Return from) =
    simp length-append (omega (arith, load_most t8 (l.spot from), wait_most (l.spot from)))
template_most l a ReturnZero = omega arith
template_most l a (Sys kind to from) =
    simp length-append (omega (arith, load_most t8 (l.spot from), wait_most (l.spot from), out_most (l.spot to)))
template_most l a (Run routine to from) =
    simp length-append (omega (arith, load_most t8 (l.spot from), wait_most (l.spot from), out_most (l.spot to)))
template_most l a (New to code kind captures) = omega (arith, out_most (l.spot to))
template_most l a (Put index from) =
    simp length-append (omega (arith, load_most t8 (l.spot from), wait_most (l.spot from)))

templates_most : (l : Layout) (a : Aim → ℕ) (ops : List Op) → length (templates l a ops) ≤ 16 * length ops
templates_most l a [] = omega arith
templates_most l a (op ∷ ops) =
    rw (length-append (template l a op) (templates l a ops))
    (omega (arith, template_most l a op, templates_most l a ops))

one_most : (f : ℕ → Bool) (x : ℕ) (xs : List ℕ) (b : Bool) → length (filter f xs) ≤ length xs
    → length (cond b (x ∷ filter f xs) (filter f xs)) ≤ length (x ∷ xs)
one_most f x xs true h = omega arith
one_most f x xs false h = omega arith

filter_most : (f : ℕ → Bool) (xs : List ℕ) → length (filter f xs) ≤ length xs
filter_most f [] = omega arith
filter_most f (x ∷ xs) = one_most f x xs (f x) (filter_most f xs)

saved_most : (ps : List ℕ) → length (saved ps) ≤ 12
unfolding saved
saved_most ps = filter_most (has ps) register_places

saves_length : (ks : List ℕ) → length (saves ks) ≡ length ks
saves_length [] = refl
saves_length (k ∷ ks) = omega (arith, saves_length ks)

restores_length : (ks : List ℕ) → length (restores ks) ≡ length ks
restores_length [] = refl
restores_length (k ∷ ks) = omega (arith, restores_length ks)

take_objects_most : (bytes : ℕ) (b : Bool) → nat_eq bytes 0 ≡ b → length (take_objects bytes) ≤ 8
take_objects_most bytes true e = rw e (omega arith)
take_objects_most bytes false e = rw e (omega arith)

free_objects_most : (bytes : ℕ) (b : Bool) → nat_eq bytes 0 ≡ b → length (free_objects bytes) ≤ 3
free_objects_most bytes true e = rw e (omega arith)
free_objects_most bytes false e = rw e (omega arith)

enter_most : (b : Bool) → length (enter_count b) ≤ 4
enter_most true = omega arith
enter_most false = omega arith

leave_most : (b : Bool) → length (leave_count b) ≤ 4
leave_most true = omega arith
leave_most false = omega arith

-- 30 and 21 of a static function, 26 and 22 of a compiled one without objects; 34 and 25 of any
prologue_most : (frame objects : ℕ) (ps : List ℕ) (compiled : Bool) →
    length (prologue frame objects (saved ps) compiled) ≤ 34
prologue_most frame objects ps compiled =
    simp (length-append, saves_length)
    (omega (arith, saved_most ps, enter_most compiled, take_objects_most objects (nat_eq objects 0) refl))

epilogue_most : (frame objects : ℕ) (ps : List ℕ) (compiled : Bool) →
    length (epilogue frame objects (saved ps) compiled) ≤ 25
epilogue_most frame objects ps compiled =
    simp (length-append, restores_length)
    (omega (arith, saved_most ps, leave_most compiled, free_objects_most objects (nat_eq objects 0) refl))

-- prologue and epilogue have 59 words at most, so there is room for a last return
pub code_most : (ops : List Op) (places : List ℕ) (address frame objects : ℕ) (compiled : Bool)
    → length (expansion ops places address frame objects compiled) ≤ 16 * length ops + 59
code_most ops places address frame objects compiled =
    let P : List Instr = prologue frame objects (saved places) compiled in
    let E : List Instr = epilogue frame objects (saved places) compiled in
    let l : Layout = laid places frame objects in
    let a : Aim → ℕ = aims l (past address P) ops in
    rw (length-append P (templates l a ops ++ E), length-append (templates l a ops) E)
    (omega (
      arith,
      prologue_most frame objects places compiled,
      epilogue_most frame objects places compiled,
      templates_most l a ops,
    ))

pub words_most : (ops : List Op) (places : List ℕ) (address frame objects : ℕ) (compiled : Bool)
    → length (expansion ops places address frame objects compiled) ≤ 16 * length ops + 64
words_most ops places address frame objects compiled =
    omega (arith, code_most ops places address frame objects compiled)
