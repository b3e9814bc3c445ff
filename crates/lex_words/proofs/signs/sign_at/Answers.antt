use Rattle.lex_words.proofs.Within.{found_flat}
use Rattle.lex_words.proofs.signs.sign_at.Goals as goal

pub returns-clause-flat : goal.returns-clause-flat
returns-clause-flat c = found_flat c.args.text.now c.longest.result c.longest.ensures
