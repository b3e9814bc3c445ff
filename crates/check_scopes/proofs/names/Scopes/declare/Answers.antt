use Rattle.std.proofs.Common.{arith, ◌≡◌, ◌-◌, ◌+◌, ◌∷◌, [], length, drop, set, Some, None, is_some, true, false}
use Rattle.std.proofs.Common.{subst, ap, sym, ◌∙◌, length-append}
use Rattle.std.specs.Prelude.{Result, Ok, Err, OnErr}
use Rattle.check_scopes.specs.Kept.{Kept, scopes}
use Rattle.name_numbers.specs.Numbers.{number_of}
use Rattle.check_scopes.specs.Scopes as spec
use Rattle.check_scopes.specs.Stack.{last_of}
use Rattle.check_scopes.specs.declared.names.DeclareFault.{DeclareFault}
use Rattle.check_scopes.proofs.Cut.{grown_kept, grown_same, Innermost, in_last, declare_last, declare_last_kept}
use Rattle.check_scopes.proofs.Cut.{size_within, none_of}
use Rattle.check_scopes.proofs.names.Scopes.declare.Goals as goal

on_err : (r : Result (Unit {0}) DeclareFault) {P : Type 0} → P → OnErr r P
on_err (Ok x) p = tt
on_err (Err e) p = p

-- where the name has no number
pub invariant_of-self : goal.invariant_of-self
invariant_of-self c =
    let t = c.self.inside in
    grown_kept t.names c.number.new.self t.stack t.sizes.items c.self.invariant c.in_err-number.ensures.grows

pub returns-in_err-number-clause-err : goal.returns-in_err-number-clause-err
returns-in_err-number-clause-err c =
    let t = c.self.inside in
    on_err c.from_residual.result
    (grown_same t.names c.number.new.self t.stack t.sizes.items c.self.invariant c.in_err-number.ensures.grows ∙
    c.self.view_is)

-- where the innermost scope has it
pub invariant_of-self-then-has_from : goal.invariant_of-self-then-has_from
invariant_of-self-then-has_from c =
    let t = c.self.inside in
    grown_kept t.names c.number.new.self t.stack t.sizes.items c.self.invariant c.in_ok-number.ensures.grows

pub returns-then-has_from-clause-taken : goal.returns-then-has_from-clause-taken
returns-then-has_from-clause-taken c = λ _ none.
    let t = c.self.inside in
    let size = c.index-size.result.now in
    let start = c.len.result - size in
    let it : Innermost t.stack t.sizes.items (c.len-last.result - 1) size start = record {
      last = omega (arith, c.len-last.ensures, t.sizes.ok.0);
      there = c.index-size.ensures;
      begins = omega (arith, c.len.ensures);
    } in
    let kept : Kept c.number.new.self t.stack t.sizes.items =
    grown_kept t.names c.number.new.self t.stack t.sizes.items c.self.invariant c.in_ok-number.ensures.grows in
    let same : scopes c.number.new.self t.stack t.sizes.items ≡ c.args.self.now =
    grown_same t.names c.number.new.self t.stack t.sizes.items c.self.invariant c.in_ok-number.ensures.grows ∙
    c.self.view_is in
    let is : number_of c.number.new.self c.args.name.now ≡ Some c.in_ok-number.number =
    c.in_ok-number.ensures.number in
    let free : last_of (drop start t.stack) c.in_ok-number.number ≡ None =
    sym (in_last c.number.new.self it kept c.args.name.now c.in_ok-number.number is)
    ∙ ap (λ s. spec.in_scope (spec.innermost s) c.args.name.now) same ∙ none in
    let seen : true ≡ false = sym c.if-has_from.true ∙ c.has_from.ensures ∙ ap is_some free in
    cc

pub returns-then-has_from-clause-err : goal.returns-then-has_from-clause-err
returns-then-has_from-clause-err c =
    let t = c.self.inside in
    grown_same t.names c.number.new.self t.stack t.sizes.items c.self.invariant c.in_ok-number.ensures.grows ∙
    c.self.view_is

-- where it is declared
pub invariant_of-self-in-Ok : goal.invariant_of-self-in-Ok
invariant_of-self-in-Ok c =
    let t = c.self.inside in
    let size = c.index-size.result.now in
    let start = c.len.result - size in
    let it : Innermost t.stack t.sizes.items (c.len-last.result - 1) size start = record {
      last = omega (arith, c.len-last.ensures, t.sizes.ok.0);
      there = c.index-size.ensures;
      begins = omega (arith, c.len.ensures);
    } in
    let kept : Kept c.number.new.self t.stack t.sizes.items =
    grown_kept t.names c.number.new.self t.stack t.sizes.items c.self.invariant c.in_ok-number.ensures.grows in
    let is : number_of c.number.new.self c.args.name.now ≡ Some c.in_ok-number.number =
    c.in_ok-number.ensures.number in
    let more : c.len-in-Ok.result - start ≡ size + 1 =
    omega (
      arith,
      c.len-in-Ok.ensures,
      ap length c.in-Ok.ensures.ok,
      c.len.ensures,
      length-append t.stack ((c.in_ok-number.number, c.args.what) ∷ []),
      size_within c.number.new.self it kept,
    ) in
    let free : last_of (drop start t.stack) c.in_ok-number.number ≡ None =
    none_of (last_of (drop start t.stack) c.in_ok-number.number) (sym c.has_from.ensures ∙ c.if-has_from.false) in
    subst (λ es. Kept c.number.new.self es (set t.sizes.items (c.len-last.result - 1) (c.len-in-Ok.result - start)))
    (sym c.in-Ok.ensures.ok)
    (declare_last_kept c.number.new.self it kept c.args.name.now c.in_ok-number.number is c.args.what
    (c.len-in-Ok.result - start) more free)

pub returns-in-Ok-clause-ok : goal.returns-in-Ok-clause-ok
returns-in-Ok-clause-ok c =
    let t = c.self.inside in
    let size = c.index-size.result.now in
    let start = c.len.result - size in
    let it : Innermost t.stack t.sizes.items (c.len-last.result - 1) size start = record {
      last = omega (arith, c.len-last.ensures, t.sizes.ok.0);
      there = c.index-size.ensures;
      begins = omega (arith, c.len.ensures);
    } in
    let kept : Kept c.number.new.self t.stack t.sizes.items =
    grown_kept t.names c.number.new.self t.stack t.sizes.items c.self.invariant c.in_ok-number.ensures.grows in
    let same : scopes c.number.new.self t.stack t.sizes.items ≡ c.args.self.now =
    grown_same t.names c.number.new.self t.stack t.sizes.items c.self.invariant c.in_ok-number.ensures.grows ∙
    c.self.view_is in
    let is : number_of c.number.new.self c.args.name.now ≡ Some c.in_ok-number.number =
    c.in_ok-number.ensures.number in
    let more : c.len-in-Ok.result - start ≡ size + 1 =
    omega (
      arith,
      c.len-in-Ok.ensures,
      ap length c.in-Ok.ensures.ok,
      c.len.ensures,
      length-append t.stack ((c.in_ok-number.number, c.args.what) ∷ []),
      size_within c.number.new.self it kept,
    ) in
    ap (λ es. scopes c.number.new.self es
    (set t.sizes.items (c.len-last.result - 1) (c.len-in-Ok.result - start))) c.in-Ok.ensures.ok
    ∙ declare_last c.number.new.self it kept c.args.name.now c.in_ok-number.number is c.args.what
    (c.len-in-Ok.result - start) more
    ∙ ap (λ s. spec.declared s c.args.name.now c.args.what) same

pub returns-in-Ok-clause-free : goal.returns-in-Ok-clause-free
returns-in-Ok-clause-free c =
    let t = c.self.inside in
    let size = c.index-size.result.now in
    let start = c.len.result - size in
    let it : Innermost t.stack t.sizes.items (c.len-last.result - 1) size start = record {
      last = omega (arith, c.len-last.ensures, t.sizes.ok.0);
      there = c.index-size.ensures;
      begins = omega (arith, c.len.ensures);
    } in
    let kept : Kept c.number.new.self t.stack t.sizes.items =
    grown_kept t.names c.number.new.self t.stack t.sizes.items c.self.invariant c.in_ok-number.ensures.grows in
    let same : scopes c.number.new.self t.stack t.sizes.items ≡ c.args.self.now =
    grown_same t.names c.number.new.self t.stack t.sizes.items c.self.invariant c.in_ok-number.ensures.grows ∙
    c.self.view_is in
    let is : number_of c.number.new.self c.args.name.now ≡ Some c.in_ok-number.number =
    c.in_ok-number.ensures.number in
    let free : last_of (drop start t.stack) c.in_ok-number.number ≡ None =
    none_of (last_of (drop start t.stack) c.in_ok-number.number) (sym c.has_from.ensures ∙ c.if-has_from.false) in
    ap (λ s. spec.in_scope (spec.innermost s) c.args.name.now) (sym same)
    ∙ in_last c.number.new.self it kept c.args.name.now c.in_ok-number.number is
    ∙ free

-- where it can't be for want of memory
pub invariant_of-self-in-Err : goal.invariant_of-self-in-Err
invariant_of-self-in-Err c =
    let t = c.self.inside in
    subst (λ es. Kept c.number.new.self es t.sizes.items) (sym c.in-Err.ensures.err)
    (grown_kept t.names c.number.new.self t.stack t.sizes.items c.self.invariant c.in_ok-number.ensures.grows)

pub returns-in-Err-clause-err : goal.returns-in-Err-clause-err
returns-in-Err-clause-err c =
    let t = c.self.inside in
    ap (λ es. scopes c.number.new.self es t.sizes.items) c.in-Err.ensures.err
    ∙ grown_same t.names c.number.new.self t.stack t.sizes.items c.self.invariant c.in_ok-number.ensures.grows
    ∙ c.self.view_is
