use Rattle.std.proofs.Common.{◌≡◌, ◌++◌, ◌∷◌, [], length, ap, sym, ◌∙◌}
use Rattle.name_numbers.specs.Numbers.{number_of}
use Rattle.name_numbers.proofs.Numbered.{new_number}
use Rattle.name_numbers.proofs.numbers.Names.number.Goals as goal

pub returns-in_ok-put-in-None-clause-number : goal.returns-in_ok-put-in-None-clause-number
returns-in_ok-put-in-None-clause-number c =
    let names = c.args.self.now in
    let place : c.len-number.result ≡ length names = c.len-number.ensures.len ∙ ap length c.self.view_is in
    ap (λ l. number_of l c.args.name.now)
    (c.in_ok-put-in-None.ensures.ok ∙ ap (λ l. l ++ c.args.name.now ∷ []) c.relieve.ensures)
    ∙ new_number names c.args.name.now c.len-number.result (sym c.in-None.ensures) place
