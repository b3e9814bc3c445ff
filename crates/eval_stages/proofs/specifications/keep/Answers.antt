use Rattle.std.proofs.Common.{◌≡◌, suc, ◌+◌, ◌<◌, ◌≤◌, length, min, slice_get, Some, get_or, List, ap, sym, subst}
use Rattle.std.proofs.Common.{refl, ◌∙◌, arith}
use Rattle.std.proofs.lemmas.Option.{slice_get_read}
use Rattle.meaning_state.specs.Rows.{numbered}
use Rattle.eval_state.specs.KeptRows.{kept_of}
use Rattle.eval_state.specs.declared.state.Kept.{Kept}
use Rattle.eval_state.specs.Kept.{rows_view}
use Rattle.eval_state.specs.Specified.{AreEarlier}
use Rattle.eval_state.proofs.Named.{earlier_push, keeps_all, keeps_one, rest_trap, trap_next}
use Rattle.eval_stages.proofs.specifications.keep.Goals as goal

pub loop-i-preserved : goal.loop-i-preserved
loop-i-preserved c =
    let rows = rows_view c.args.m.now.rows in
    let list = c.args.list.now in
    let words = c.args.words.now in
    let i = c.loop-i.i in
    let word = get_or words i 0 in
    let e = c.index-list-i.result in
    let listed : i < length list = grind arith in
    let at : slice_get list i ≡ Some e = slice_get_read list (length list) i e refl listed c.index-list-i.is in
    let within : i < length words = grind arith in
    let same : suc i ≡ i + 1 = omega arith in
    record {
      fit = ap (λ j. rest_trap rows list words j) (sym same)
          ∙ trap_next rows list words i e at within c.loop-i.invariant.fit;
      kept = keeps_one rows list words i e c.loop-i.kept c.push.new.self c.kept_of.result _ at within
          (c.kept_of.ensures.kept ∙ ap (λ k. kept_of k word (numbered word rows)) c.kind_of.ensures)
          c.in_ok-push.ensures.ok c.loop-i.invariant.kept;
      earlier = subst (λ (kept : List Kept). AreEarlier rows (length rows) kept) (sym c.in_ok-push.ensures.ok)
          (earlier_push rows (length rows) c.loop-i.kept c.kept_of.result c.loop-i.invariant.earlier
          c.kept_of.ensures.earlier);
    }

pub returns-clause-kept : goal.returns-clause-kept
returns-clause-kept c =
    let list = c.args.list.now in
    let words = c.args.words.now in
    let end : min (length list) (length words) ≤ c.loop-i.i = grind arith in
    keeps_all (rows_view c.args.m.now.rows) list words c.loop-i.i c.loop-i.kept _ end c.loop-i.invariant.kept
