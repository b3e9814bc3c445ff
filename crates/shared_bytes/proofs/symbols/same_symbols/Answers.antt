use Rattle.std.proofs.Common.{◌/◌, refl, sym, ◌∙◌}
use Rattle.std.proofs.lemmas.List.{length-take-le}
use Rattle.shared_bytes.proofs.SymbolLaws.{whole_within, half_within, bytes_differ, bytes_agree, halves_agree}
use Rattle.shared_bytes.proofs.symbols.same_symbols.Goals as goal

pub slice_bounds-ne-end : goal.slice_bounds-ne-end
slice_bounds-ne-end c =
    let n = c.args.count in
    sym (length-take-le (n / 2) c.args.a.now (whole_within n c.args.a.now c.requires.in_a))

pub slice_bounds-ne-end-2 : goal.slice_bounds-ne-end-2
slice_bounds-ne-end-2 c =
    let n = c.args.count in
    sym (length-take-le (n / 2) c.args.b.now (whole_within n c.args.b.now c.requires.in_b))

pub returns-then-ne : goal.returns-then-ne
returns-then-ne c =
    let n = c.args.count in
    bytes_differ n n c.args.a.now c.args.b.now _ _ c.requires.in_a c.requires.in_b refl refl refl
    (sym c.ne.ensures ∙ c.if-ne.true)

pub bounds-a-whole : goal.bounds-a-whole
bounds-a-whole c = half_within c.args.count c.args.a.now c.requires.in_a c.if-count-eq0.false

pub bounds-b-whole : goal.bounds-b-whole
bounds-b-whole c = half_within c.args.count c.args.b.now c.requires.in_b c.if-count-eq0.false

pub returns-then-count-eq0 : goal.returns-then-count-eq0
returns-then-count-eq0 c =
    let n = c.args.count in
    bytes_agree n n c.args.a.now c.args.b.now _ _ c.requires.in_a c.requires.in_b refl refl refl
    (sym c.ne.ensures ∙ c.if-ne.false) c.if-count-eq0.true

pub returns-else-count-eq0 : goal.returns-else-count-eq0
returns-else-count-eq0 c =
    let n = c.args.count in
    halves_agree n n c.args.a.now c.args.b.now _ _ c.requires.in_a c.requires.in_b refl refl refl
    (sym c.ne.ensures ∙ c.if-ne.false) c.if-count-eq0.false
