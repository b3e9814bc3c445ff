use Rattle.mips_core.proofs.Dispatched.{executes_coded, executes_special}
use Rattle.mips_core.proofs.rest.Rest.execute.Goals as goal

pub returns-then-w-lt67108864 : goal.returns-then-w-lt67108864
returns-then-w-lt67108864 g c =
    executes_special c.args.self.now c.args.w c.if-w-lt67108864.true c.execute_special.ensures

pub returns-else-w-lt67108864 : goal.returns-else-w-lt67108864
returns-else-w-lt67108864 g c =
    executes_coded c.args.self.now c.args.w c.if-w-lt67108864.false c.execute_coded.ensures
