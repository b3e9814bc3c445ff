use Rattle.std.proofs.Common.{sym, ◌∙◌}
use Rattle.lex_words.proofs.FirstSign.{at_123, at_125, at_40, at_41, at_91, at_93, at_59, at_44, at_63, at_58}
use Rattle.lex_words.proofs.FirstSign.{at_126, at_36, at_46, at_96}
use Rattle.lex_words.proofs.signs.longest.Goals as goal

pub returns-in-123 : goal.returns-in-123
returns-in-123 c = at_123 c.args.text.now (sym c.byte_at-a.ensures ∙ c.in-123.is)

pub returns-in-125 : goal.returns-in-125
returns-in-125 c = at_125 c.args.text.now (sym c.byte_at-a.ensures ∙ c.in-125.is)

pub returns-in-40 : goal.returns-in-40
returns-in-40 c = at_40 c.args.text.now (sym c.byte_at-a.ensures ∙ c.in-40.is)

pub returns-in-41 : goal.returns-in-41
returns-in-41 c = at_41 c.args.text.now (sym c.byte_at-a.ensures ∙ c.in-41.is)

pub returns-in-91 : goal.returns-in-91
returns-in-91 c = at_91 c.args.text.now (sym c.byte_at-a.ensures ∙ c.in-91.is)

pub returns-in-93 : goal.returns-in-93
returns-in-93 c = at_93 c.args.text.now (sym c.byte_at-a.ensures ∙ c.in-93.is)

pub returns-in-59 : goal.returns-in-59
returns-in-59 c = at_59 c.args.text.now (sym c.byte_at-a.ensures ∙ c.in-59.is)

pub returns-in-44 : goal.returns-in-44
returns-in-44 c = at_44 c.args.text.now (sym c.byte_at-a.ensures ∙ c.in-44.is)

pub returns-in-63 : goal.returns-in-63
returns-in-63 c = at_63 c.args.text.now (sym c.byte_at-a.ensures ∙ c.in-63.is)

pub returns-in-58 : goal.returns-in-58
returns-in-58 c = at_58 c.args.text.now (sym c.byte_at-a.ensures ∙ c.in-58.is)

pub returns-in-126 : goal.returns-in-126
returns-in-126 c = at_126 c.args.text.now (sym c.byte_at-a.ensures ∙ c.in-126.is)

pub returns-in-36 : goal.returns-in-36
returns-in-36 c = at_36 c.args.text.now (sym c.byte_at-a.ensures ∙ c.in-36.is)

pub returns-in-46 : goal.returns-in-46
returns-in-46 c = at_46 c.args.text.now (sym c.byte_at-a.ensures ∙ c.in-46.is)

pub returns-in-96 : goal.returns-in-96
returns-in-96 c = at_96 c.args.text.now (sym c.byte_at-a.ensures ∙ c.in-96.is)
