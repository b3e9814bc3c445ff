use Rattle.std.proofs.Common.{◌≡◌, ◌+◌, ◌++◌, ◌≤◌, false, length, take, drop, ap, ◌∙◌, arith, length-append}
use Rattle.std.proofs.lemmas.List.{length-drop}
use Rattle.icode_templates.specs.Expansion.{expansion, expanded}
use Rattle.icode_expand.proofs.Lengths.{length_words}
use Rattle.static_backend.proofs.Slices.{tail_written, grown}
use Rattle.static_backend.proofs.text.add_words.Goals as goal

pub unreachable-requires : goal.unreachable-requires
unreachable-requires c =
    let code = expansion c.args.ops.now c.args.places.now c.args.at c.args.frame c.args.object false in
    omega (
      arith,
      c.in-Err.ensures.0,
      length_words code,
      c.words_are_few.ensures c.args.ops.now c.args.places.now c.args.at c.args.frame c.args.object false,
      c.slice_mut-out.ensures.len,
      c.in_ok-resize.ensures.len,
    )

pub returns : goal.returns
returns c =
    let own = expanded c.args.ops.now c.args.places.now c.args.at c.args.frame c.args.object false in
    let old = c.args.words.now in
    let big = c.resize.new.self in
    let i = c.len-filled.result in
    let k = c.in-Ok.count in
    let out = c.slice_mut-out.result.now in
    let new = c.expand.new.out in
    let made = c.in-Ok.ensures in
    let room = c.in_ok-resize.ensures.len in
    let long : i + length new ≡ big.len =
    omega (
      arith,
      ap length made.2,
      length-append own (drop k out),
      length-drop k out,
      made.0,
      made.1,
      c.slice_mut-out.ensures.len,
      room,
    ) in
    let low : i ≤ big.len = omega (arith, long) in
    c.truncate.ensures.items
    ∙ ap (λ z. take (i + k) z) (tail_written big.items new i big.len big.ok.0 long)
    ∙ ap (λ z. take (i + k) (take i big.items ++ z)) made.2
    ∙ grown old.items _ big.items own (drop k out) _ big.len i k c.in_ok-resize.ensures.items room
    (c.len-filled.ensures ∙ old.ok.0) low made.0
