use Rattle.std.proofs.Common.{sym, ◌∙◌}
use Rattle.lex_words.specs.Words.{keyword_of}
use Rattle.lex_words.proofs.FirstByte.{at_v, at_c, at_s, at_i, at_l, at_u, at_e, at_w, at_d, at_f, at_b, at_r, at_p}
use Rattle.lex_words.proofs.keywords.keyword_of.Goals as goal

pub returns-in-118 : goal.returns-in-118
unfolding keyword_of
returns-in-118 c = c.among.ensures ∙ at_v c.args.word.now (sym c.byte_at.ensures ∙ c.in-118.is)

pub returns-in-99 : goal.returns-in-99
unfolding keyword_of
returns-in-99 c = c.among-in-99.ensures ∙ at_c c.args.word.now (sym c.byte_at.ensures ∙ c.in-99.is)

pub returns-in-115 : goal.returns-in-115
unfolding keyword_of
returns-in-115 c = c.among-in-115.ensures ∙ at_s c.args.word.now (sym c.byte_at.ensures ∙ c.in-115.is)

pub returns-in-105 : goal.returns-in-105
unfolding keyword_of
returns-in-105 c = c.among-in-105.ensures ∙ at_i c.args.word.now (sym c.byte_at.ensures ∙ c.in-105.is)

pub returns-in-108 : goal.returns-in-108
unfolding keyword_of
returns-in-108 c = c.among-in-108.ensures ∙ at_l c.args.word.now (sym c.byte_at.ensures ∙ c.in-108.is)

pub returns-in-117 : goal.returns-in-117
unfolding keyword_of
returns-in-117 c = c.among-in-117.ensures ∙ at_u c.args.word.now (sym c.byte_at.ensures ∙ c.in-117.is)

pub returns-in-101 : goal.returns-in-101
unfolding keyword_of
returns-in-101 c = c.among-in-101.ensures ∙ at_e c.args.word.now (sym c.byte_at.ensures ∙ c.in-101.is)

pub returns-in-119 : goal.returns-in-119
unfolding keyword_of
returns-in-119 c = c.among-in-119.ensures ∙ at_w c.args.word.now (sym c.byte_at.ensures ∙ c.in-119.is)

pub returns-in-100 : goal.returns-in-100
unfolding keyword_of
returns-in-100 c = c.among-in-100.ensures ∙ at_d c.args.word.now (sym c.byte_at.ensures ∙ c.in-100.is)

pub returns-in-102 : goal.returns-in-102
unfolding keyword_of
returns-in-102 c = c.among-in-102.ensures ∙ at_f c.args.word.now (sym c.byte_at.ensures ∙ c.in-102.is)

pub returns-in-98 : goal.returns-in-98
unfolding keyword_of
returns-in-98 c = c.among-in-98.ensures ∙ at_b c.args.word.now (sym c.byte_at.ensures ∙ c.in-98.is)

pub returns-in-114 : goal.returns-in-114
unfolding keyword_of
returns-in-114 c = c.among-in-114.ensures ∙ at_r c.args.word.now (sym c.byte_at.ensures ∙ c.in-114.is)

pub returns-in-112 : goal.returns-in-112
unfolding keyword_of
returns-in-112 c = c.among-in-112.ensures ∙ at_p c.args.word.now (sym c.byte_at.ensures ∙ c.in-112.is)
