use Rattle.std.proofs.Common.{◌*◌, ◌%◌, Some, refl}
use Rattle.mips_encoder.specs.Fields.{immediate, rt}
use Rattle.mips_encoder.specs.declared.instruction.Instr.TheVariants.{LoadUpperImmediate}
use Rattle.mips_core.proofs.Rows.{gives, one_name}
use Rattle.mips_core.proofs.rest.Rest.load_upper.Goals as goal

pub returns : goal.returns
returns g c =
    let w = c.args.w in
    let r = c.rt-r.ensures in
    gives {v = Some (w % 65536 * 65536)} c.args.self.now (LoadUpperImmediate (rt w) (immediate w)) c.give.ensures r r r
    refl
    (one_name c.args.self.now (rt w)) refl refl
