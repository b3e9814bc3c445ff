use Rattle.std.proofs.Common.{◌≡◌, ◌++◌, ◌+◌, Some, arith, ◌∙◌, sym, ap, drop, length-drop, length}
use Rattle.std.proofs.lemmas.List.{take_rest}
use Rattle.std.proofs.lemmas.Bool.{ne_eqb}
use Rattle.lex_literals.proofs.Laws.{bytes_go_at}
use Rattle.lex_literals.specs.Literals.{character_at, bytes_from}
use Rattle.lex_literals.proofs.closings.append_string.Goals as goal

pub loop-at-preserved : goal.loop-at-preserved
loop-at-preserved c =
    let z = c.args.text.now in
    let at = c.loop-at.at in
    let e : character_at (drop at z) ≡ Some c.in-Some.c =
    sym (c.in-Some.ensures.value ∙ ap character_at (take_rest z at)) in
    let within = c.in-Some.ensures.within
    (omega (arith, ap length (take_rest z at), length-drop at z, c.loop-at-test.true)) in
    let goes = bytes_go_at c.loop-at.bytes.items at z c.in-Some.c c.loop-at-test.true
    (ne_eqb _ _ c.if-text-at-eq34.false) e within.0 in
    record {
      same =
          ap (λ y. y ++ bytes_from 0 (drop (at + c.in-Some.c.len) z)) c.in_ok-push.ensures.items
          ∙ sym goes
          ∙ c.loop-at.invariant.same;
      within = omega (arith, ap length (take_rest z at), length-drop at z, within);
    }
