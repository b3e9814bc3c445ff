use Rattle.std.proofs.Common.{ap, ◌∙◌}
use Rattle.evaluate.specs.Seen.{seen_of}
use Rattle.history.specs.Events.{Item, End, output}
use Rattle.pace.specs.Pace.{Seen}
use Rattle.tick_top.proofs.language.evaluate.Goals as goal

pub returns : goal.returns
returns c program means =
    let meant = c.in_ok-evaluated.ensures program means in
    record {
      ends = c.ending.ensures ∙ ap (λ (s : Seen Item End). s.ending) meant;
      puts = c.in_ok-output.ensures ∙ ap (λ (s : Seen Item End). output s.history) meant;
    }
