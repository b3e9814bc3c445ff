use Rattle.std.proofs.Common.{rules}
use Rattle.image_commands.proofs.images.save_image.Goals as goal

-- src/images.rt:66:1
pub returns-in-Ok-clause-saves : goal.returns-in-Ok-clause-saves
returns-in-Ok-clause-saves g c = record {
  bytes = c.in_ok-bytes.bytes.items;
  spelt = c.in_ok-bytes.ensures.spelling;
  read_back = c.in_ok-bytes.ensures.read_back;
  saved = search rules;
  others = search rules;
}

-- src/images.rt:66:1
pub returns-in-Err-Failed-clause-saves : goal.returns-in-Err-Failed-clause-saves
returns-in-Err-Failed-clause-saves g c = record {
  bytes = c.in_ok-bytes.bytes.items;
  spelt = c.in_ok-bytes.ensures.spelling;
  read_back = c.in_ok-bytes.ensures.read_back;
  saved = search rules;
  others = search rules;
}

-- src/images.rt:56:1
pub returns-clause-none : goal.returns-clause-none
returns-clause-none g c = c.in-Err-NoMemory.ensures.no_memory (search rules)
