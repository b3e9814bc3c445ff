use Rattle.std.proofs.Common.{◌∙◌}
use Rattle.static_backend.proofs.plan.draft_words.Goals as goal

pub returns-in_ok-add_room : goal.returns-in_ok-add_room
returns-in_ok-add_room c =
    let room = c.in_ok-add_room.ensures in
    record {
      piece = room.0;
      added = room.2;
      as_long = room.1 ∙ c.expanded_length-count.ensures c.args.at;
      same = λ made. absurd cc;
    }
