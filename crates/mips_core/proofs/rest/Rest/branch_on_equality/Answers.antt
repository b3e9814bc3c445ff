use Rattle.std.proofs.Common.{ℕ, ◌+◌, ◌*◌, ◌%◌, ◌∙◌, Bool, refl, sym, ap}
use Rattle.word32.specs.Words.{widened_half}
use Rattle.mips_encoder.specs.Fields.{immediate, rs, rt}
use Rattle.mips_encoder.specs.declared.instruction.EqualityOp.{EqualityOp}
use Rattle.mips_encoder.specs.declared.instruction.Instr.TheVariants.{BranchOnEquality}
use Rattle.mips_model.specs.Arithmetic.{equality}
use Rattle.mips_model.specs.State.{register}
use Rattle.mips_core.specs.Core.{at, branching, data_of, state_of}
use Rattle.mips_core.proofs.Rows.{both, jump_names_two, jumps}
use Rattle.mips_core.proofs.rest.Rest.branch_on_equality.Goals as goal

pub returns-in-Beq : goal.returns-in-Beq
returns-in-Beq g c =
    let k = c.args.self.now in
    let w = c.args.w in
    let s = state_of (at c.args.pc k) in
    let r = λ (n : ℕ). register n (data_of k) in
    let taken = equality c.args.op (r (rs w)) (r (rt w)) in
    let f = λ (n : ℕ). branching taken ((n + 4 * widened_half (immediate w)) % 4294967296) s in
    jumps k (BranchOnEquality c.args.op (rs w) (rt w) (immediate w)) f c.branch_to.ensures c.rs-a.ensures c.rt-b.ensures
    (both (λ (q : Bool) (t : ℕ). branching q t s)
    (ap (λ (op : EqualityOp). equality op c.register.result c.register-2.result) (sym c.in-Beq.is)
    ∙ both (equality c.args.op) (c.register.ensures ∙ ap r c.rs-a.ensures) (c.register-2.ensures ∙ ap r c.rt-b.ensures))
    c.branch_target-to.ensures)
    (jump_names_two k (rs w) (rt w)) refl refl

pub returns-in-Bne : goal.returns-in-Bne
returns-in-Bne g c =
    let k = c.args.self.now in
    let w = c.args.w in
    let s = state_of (at c.args.pc k) in
    let r = λ (n : ℕ). register n (data_of k) in
    let taken = equality c.args.op (r (rs w)) (r (rt w)) in
    let f = λ (n : ℕ). branching taken ((n + 4 * widened_half (immediate w)) % 4294967296) s in
    jumps k (BranchOnEquality c.args.op (rs w) (rt w) (immediate w)) f c.branch_to-in-Bne.ensures
    c.rs-a.ensures c.rt-b.ensures
    (both (λ (q : Bool) (t : ℕ). branching q t s)
    (ap (λ (op : EqualityOp). equality op c.register.result c.register-2.result) (sym c.in-Bne.is)
    ∙ both (equality c.args.op) (c.register.ensures ∙ ap r c.rs-a.ensures) (c.register-2.ensures ∙ ap r c.rt-b.ensures))
    c.branch_target-to.ensures)
    (jump_names_two k (rs w) (rt w)) refl refl
