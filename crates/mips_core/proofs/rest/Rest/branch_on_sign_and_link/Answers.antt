use Rattle.std.proofs.Common.{ℕ, ◌+◌, ◌*◌, ◌%◌, ◌∙◌, Bool, refl, ap}
use Rattle.word32.specs.Words.{widened_half}
use Rattle.mips_encoder.specs.Fields.{immediate, rs}
use Rattle.mips_encoder.specs.declared.instruction.Instr.TheVariants.{BranchOnSignAndLink}
use Rattle.mips_model.specs.Arithmetic.{sign_test}
use Rattle.mips_model.specs.State.{register}
use Rattle.mips_core.specs.Core.{at, data_of, linking, state_of}
use Rattle.mips_core.proofs.Rows.{both, jump_names_two, jumps, not_barred}
use Rattle.mips_core.proofs.rest.Rest.branch_on_sign_and_link.Goals as goal

pub returns : goal.returns
returns g c =
    let k = c.args.self.now in
    let w = c.args.w in
    let s = state_of (at c.args.pc k) in
    let r = λ (n : ℕ). register n (data_of k) in
    let taken = sign_test c.args.test (r (rs w)) in
    let f = λ (n : ℕ). linking 31 ((n + 4) % 4294967296) taken ((n + 4 * widened_half (immediate w)) % 4294967296) s in
    jumps k (BranchOnSignAndLink c.args.test (rs w) (immediate w)) f c.link_to.ensures refl c.rs-a.ensures
    (both (λ (q : Bool) (t : ℕ). linking 31 ((c.args.pc + 4 + 4) % 4294967296) q t s)
    (c.sign_test-taken.ensures ∙ ap (sign_test c.args.test) (c.register.ensures ∙ ap r c.rs-a.ensures))
    c.branch_target.ensures)
    (jump_names_two k 31 (rs w)) refl (not_barred (rs w) 31 _)
