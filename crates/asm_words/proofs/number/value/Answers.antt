use Rattle.std.proofs.Common.{◌≡◌, ◌+◌, ◌*◌, arith, drop, ap, sym, ◌∙◌}
use Rattle.asm_words.proofs.Laws.{value_of_grows, value_of_at}
use Rattle.asm_words.specs.Numbers.{value_of, radix}
use Rattle.asm_words.proofs.number.value.Goals as goal

pub returns-then-n-gt4294967295-clause-none : goal.returns-then-n-gt4294967295-clause-none
returns-then-n-gt4294967295-clause-none c =
    let z = c.args.digits.now in
    let by = c.radix-radix.result in
    let n = c.loop-b.n * by + c.from.result in
    let grows = value_of_grows by n (drop (c.loop-b.b-index + 1) z) c.radix-radix.ensures.low in
    let same : value_of by n (drop (c.loop-b.b-index + 1) z) ≡ value_of by 0 z =
    ap (λ d. value_of by (c.loop-b.n * by + d) (drop (c.loop-b.b-index + 1) z)) (c.from.ensures ∙ c.digit_value.ensures)
    ∙ sym (value_of_at by c.loop-b.n c.loop-b.b-index z c.loop-b-test.true)
    ∙ c.loop-b.invariant.same in
    let whole : value_of by 0 z ≡ value_of (radix c.args.base) 0 z =
    ap (λ r. value_of r 0 z) c.radix-radix.ensures.value in
    omega (arith, same, grows, whole)
