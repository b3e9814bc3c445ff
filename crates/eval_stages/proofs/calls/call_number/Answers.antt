use Rattle.std.proofs.Common.{is_none, ap, sym, ◌∙◌}
use Rattle.staged_meaning.specs.Program.{call_trap}
use Rattle.eval_state.specs.Run.{run_of}
use Rattle.eval_state.proofs.Callees.{callee_in, calls_to}
use Rattle.eval_state.proofs.Codes.{bad_number, good_number, numbers_to}
use Rattle.eval_stages.proofs.Ticks.{ok_leads}
use Rattle.eval_stages.proofs.calls.call_number.Goals as goal

pub returns-then-not-takes-clause-same : goal.returns-then-not-takes-clause-same
returns-then-not-takes-clause-same c =
    let p = c.args.m.now in
    let same = ap (λ n. is_none (call_trap (callee_in p c.args.number) n)) (sym c.len.ensures) in
    bad_number p c.args.answer c.args.number c.args.arguments
    (same ∙ sym c.takes.ensures ∙ c.if-not-takes.true)

pub returns-clause-same : goal.returns-clause-same
returns-clause-same c =
    let p = c.args.m.now in
    let same = ap (λ n. is_none (call_trap (callee_in p c.args.number) n)) (sym c.len.ensures) in
    ok_leads c.call.result (run_of c.call.new.m) (calls_to p c.args.answer c.args.number c.args.arguments)
    (numbers_to p c.args.answer c.args.number c.args.arguments)
    (good_number p c.args.answer c.args.number c.args.arguments
    (same ∙ sym c.takes.ensures ∙ c.if-not-takes.false)) c.call.ensures.same
