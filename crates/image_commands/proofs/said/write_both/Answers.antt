use Rattle.std.proofs.KnownBytes.{Appends-trans}
use Rattle.std.proofs.lemmas.Result.{on_err_weaker, on_ok_weaker}
use Rattle.asm_print.proofs.Fronts.{front_first, front_second, at_error}
use Rattle.image_commands.proofs.said.write_both.Goals as goal

pub returns-in_err-write_whole-clause-front : goal.returns-in_err-write_whole-clause-front
returns-in_err-write_whole-clause-front g c =
    at_error c.from_residual.result
    (front_first _ _ c.args.first.now c.args.second.now c.in_err-write_whole.ensures.front)

pub returns-clause-whole : goal.returns-clause-whole
returns-clause-whole g c =
    on_ok_weaker c.write_whole-2.result
    (λ t. Appends-trans _ _ _ c.args.first.now c.args.second.now c.in_ok-write_whole.ensures.whole t)
    c.write_whole-2.ensures.whole

pub returns-clause-front : goal.returns-clause-front
returns-clause-front g c =
    on_err_weaker c.write_whole-2.result
    (λ t. front_second _ _ _ c.args.first.now c.args.second.now c.in_ok-write_whole.ensures.whole t)
    c.write_whole-2.ensures.front
