use Rattle.std.proofs.Common.{◌∙◌, ap, sym}
use Rattle.check_operands.specs.Operands.{value_of, code_of}
use Rattle.check_operands.proofs.Decays.{kept}
use Rattle.check_operands.proofs.operand.value_of.Goals as goal

pub returns-else-decays : goal.returns-else-decays
unfolding value_of
returns-else-decays c =
    let o = c.args.o in
    ap (λ code. record { code = code; ctype = o.ctype; zero = o.zero }) c.in_ok-code.ensures
    ∙ ap (λ t. record { code = code_of o.place o.ctype; ctype = t; zero = o.zero })
    (sym (kept o.ctype (sym c.decays.ensures ∙ c.if-decays.false)))
