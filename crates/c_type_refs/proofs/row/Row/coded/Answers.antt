use Rattle.std.proofs.Common.{◌≡◌, inr, refl, ap, ◌∙◌}
use Rattle.c_type_refs.specs.Codes.{code_of, codes_of_lists}
use Rattle.c_type_refs.proofs.Coded.{all_lent}
use Rattle.c_type_refs.proofs.row.Row.coded.Goals as goal

pub invariant_of-result : goal.invariant_of-result
invariant_of-result c =
    let code : c.in_ok-code.code ≡ code_of c.args.layers = c.in_ok-code.ensures ∙ ap code_of c.as_slice.ensures in
    let lists : c.in_ok-lists.lists ≡ codes_of_lists c.args.layers =
    c.in_ok-lists.ensures ∙ ap codes_of_lists c.as_slice-2.ensures in
    record {
      lent = all_lent c.args.layers c.in_ok-code.code.symbols c.in_ok-code.code.ends c.in_ok-lists.lists
          (ap (λ c. c.symbols) code) (ap (λ c. c.ends) code) lists;
      counted = inr (rw (c.in_ok-extents.ensures, c.start.ensures, c.as_slice-3.ensures) refl);
    }
