use Rattle.std.proofs.Common.{ap, ◌∙◌}
use Rattle.std.specs.Str.{bytes_eq}
use Rattle.indexmap.specs.IndexSet.{insert_all}
use Rattle.name_numbers.proofs.Places.{settled}
use Rattle.name_numbers.proofs.numbers.Names.settle.Goals as goal

pub returns : goal.returns
returns c =
    let names = c.self.inside.all.keys in
    c.in_ok-append.ensures.keys ∙ ap (λ l. insert_all bytes_eq l names) c.in_ok-all.ensures.empty
    ∙ settled names c.len-many.ensures.unique ∙ c.self.view_is
