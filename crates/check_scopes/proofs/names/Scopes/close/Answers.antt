use Rattle.std.proofs.Common.{arith, ◌≡◌, ◌<◌, ◌-◌, Some, length, take, get_or, subst, ap, sym, ◌∙◌}
use Rattle.std.specs.Vec.{vec_len}
use Rattle.check_scopes.specs.Kept.{Kept, named, scopes}
use Rattle.check_scopes.proofs.Cut.{Innermost, close_last, close_last_kept, length_cut}
use Rattle.check_scopes.proofs.names.Scopes.close.Goals as goal

pub invariant_of-self : goal.invariant_of-self
invariant_of-self c =
    let t = c.self.inside in
    let sizes = t.sizes.items in
    let size = c.in-Some.size in
    let start = c.len.result - size in
    let many : vec_len t.sizes ≡ length sizes = omega (arith, t.sizes.ok.0) in
    let value : Some size ≡ Some (get_or sizes (vec_len t.sizes - 1) size) =
    c.in-Some.ensures.value size (omega (arith, many, c.self.invariant.some)) in
    let it : Innermost t.stack sizes (vec_len t.sizes - 1) size start = record {
      last = omega (arith, many);
      there = cc;
      begins = omega (arith, c.len.ensures);
    } in
    let rest : c.pop.new.self.items ≡ take (length sizes - 1) sizes =
    c.in-Some.ensures.rest ∙ ap (λ n. take (n - 1) sizes) many in
    let some : 1 < length sizes =
    omega (arith, c.requires, ap length c.self.view_is, length_cut sizes (named t.names t.stack)) in
    subst (λ es. Kept t.names es c.pop.new.self.items) (sym c.cut.ensures)
    (subst (Kept t.names (take start t.stack)) (sym rest) (close_last_kept t.names it c.self.invariant some))

pub returns-in-Some : goal.returns-in-Some
returns-in-Some c =
    let t = c.self.inside in
    let sizes = t.sizes.items in
    let size = c.in-Some.size in
    let start = c.len.result - size in
    let many : vec_len t.sizes ≡ length sizes = omega (arith, t.sizes.ok.0) in
    let value : Some size ≡ Some (get_or sizes (vec_len t.sizes - 1) size) =
    c.in-Some.ensures.value size (omega (arith, many, c.self.invariant.some)) in
    let it : Innermost t.stack sizes (vec_len t.sizes - 1) size start = record {
      last = omega (arith, many);
      there = cc;
      begins = omega (arith, c.len.ensures);
    } in
    let rest : c.pop.new.self.items ≡ take (length sizes - 1) sizes =
    c.in-Some.ensures.rest ∙ ap (λ n. take (n - 1) sizes) many in
    ap (λ es. scopes t.names es c.pop.new.self.items) c.cut.ensures
    ∙ ap (scopes t.names (take start t.stack)) rest
    ∙ close_last t.names it c.self.invariant
    ∙ ap (λ s. take (length s - 1) s) c.self.view_is
