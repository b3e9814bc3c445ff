use Rattle.std.proofs.Common.{length, ap, sym, subst, ◌∙◌}
use Rattle.asm_lines.specs.Lines.{HasDigits, line_in, line_of}
use Rattle.asm_lines.proofs.Digits.{line_has_digits}
use Rattle.asm_lines.proofs.line.line_of.Goals as goal

pub returns-clause-digits : goal.returns-clause-digits
unfolding line_of
returns-clause-digits c =
    let line = c.line_in.ensures ∙ ap line_in (c.deref.ensures.value ∙ c.in_ok-pieces.ensures) in
    subst (HasDigits (length c.args.line.now)) (sym line) (line_has_digits c.args.line.now)
