use Rattle.std.proofs.Common.{ap, ◌∙◌}
use Rattle.name_numbers.specs.Numbers.{number_of}
use Rattle.name_numbers.proofs.Places.{number_is}
use Rattle.name_numbers.proofs.numbers.Names.find_counting.Goals as goal

pub returns : goal.returns
returns c =
    let names = c.self.inside.all.keys in
    c.get_index_of.ensures.index ∙ number_is names c.new.result.name.now ∙ ap (number_of names) c.new.ensures
    ∙ ap (λ s. number_of s c.args.name.now) c.self.view_is
