use Rattle.tick_parser.proofs.Parsed.{parsed_is_text}
use Rattle.tick_parser.proofs.trees.parsed_are_texts.Goals as goal

pub returns : goal.returns
returns c = parsed_is_text
