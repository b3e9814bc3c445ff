use Rattle.std.proofs.Common.{◌≡◌, ◌++◌, ◌∷◌, [], None, ap, ◌∙◌}
use Rattle.std.specs.Str.{bytes_eq}
use Rattle.indexmap.specs.IndexSet.{insert_key}
use Rattle.name_numbers.specs.Numbers.{number_of}
use Rattle.name_numbers.proofs.Places.{added_last}
use Rattle.name_numbers.proofs.numbers.Names.put.Goals as goal
use Rattle.name_numbers.proofs.numbers.Names.put.Goals.{in-Ok, in-Err}

pub returns-clause-ok : goal.returns-clause-ok
returns-clause-ok c =
    let names = c.self.inside.all.keys in
    let none : number_of names c.args.name.now ≡ None =
    ap (λ s. number_of s c.args.name.now) c.self.view_is ∙ c.requires in
    elim c.match-insert.branch [
      | in-Ok w ↦ rw w.result-is
          (w.in-Ok.ensures.keys ∙ ap (insert_key bytes_eq names) c.in_ok-key.ensures
          ∙ added_last names c.args.name.now none ∙ ap (λ s. s ++ c.args.name.now ∷ []) c.self.view_is)
      | in-Err w ↦ rw w.result-is tt
    ]
