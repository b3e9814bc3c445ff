use Rattle.std.proofs.Common.{◌≡◌, ◌+◌, List, Bool, min, map, slice_get, is_none}
use Rattle.std.proofs.Common.{ap, sym}
use Rattle.std.proofs.Common.{◌∙◌, arith}
use Rattle.limits.specs.declared.program.TheConstants.{NODE_TOP}
use Rattle.staged_meaning.specs.Program.{is_expression, tick_size}
use Rattle.staged_meaning.specs.Specifications.{captures_trap, kinds_of, specify, specify_tick}
use Rattle.eval_state.specs.KeptRows.{all_kept, parameters_kept, row_kept, size_kept}
use Rattle.eval_state.specs.Rest.{valued}
use Rattle.eval_state.specs.declared.state.Kept.{Kept}
use Rattle.eval_state.specs.Kept.{kept_view, row_of, rows_view}
use Rattle.eval_state.specs.Run.{here, leads, program_of, run_of, world}
use Rattle.eval_state.specs.Views.{args_view}
use Rattle.eval_stages.proofs.Ticks.{bad_capture, counted_tick, none_is, ok_leads, size_made, specification_made}
use Rattle.eval_stages.proofs.Ticks.{tick_made, too_large}
use Rattle.eval_stages.proofs.specifications.specify_tick.Goals as goal

pub returns-then-not-all_fit-clause-same : goal.returns-then-not-all_fit-clause-same
returns-then-not-all_fit-clause-same c =
    let p = c.args.m.now in
    let kinds = kinds_of (args_view c.args.list.now) in
    let same = ap (λ ws. is_none (captures_trap (rows_view p.rows) kinds ws)) (sym c.as_slice.ensures) in
    bad_capture p c.args.tick kinds c.args.words (same ∙ sym c.all_fit.ensures ∙ c.if-not-all_fit.true)

pub returns-then-size-gt-SIZE_LIMIT-clause-same : goal.returns-then-size-gt-SIZE_LIMIT-clause-same
returns-then-size-gt-SIZE_LIMIT-clause-same c =
    let p = c.args.m.now in
    let rows = rows_view p.rows in
    let kinds = kinds_of (args_view c.args.list.now) in
    let kept = c.in_ok-kept.kept in
    let tick = tick_size (slice_get (program_of p).ticks c.args.tick) in
    let same = ap (λ ws. is_none (captures_trap rows kinds ws)) (sym c.as_slice.ensures) in
    let fit = none_is (captures_trap rows kinds c.args.words) (same ∙ sym c.all_fit.ensures ∙ c.if-not-all_fit.false) in
    let is = c.in_ok-kept.ensures.kept ∙ ap (λ ws. all_kept rows kinds ws) c.as_slice-2.ensures in
    let size = c.size_with-size.ensures
    ∙ ap (λ (k : List Kept). min (tick + size_kept (program_of p) rows (map kept_view k)) NODE_TOP) c.as_slice-3.ensures
    ∙ ap (λ n. min n NODE_TOP) (size_made p c.args.tick kinds c.args.words kept is) in
    too_large p c.args.tick kinds c.args.words fit (grind arith)

pub specify-requires : goal.specify-requires
specify-requires c =
    let p = c.args.m.now in
    let rows = rows_view p.rows in
    let tick = tick_size (slice_get (program_of p).ticks c.args.tick) in
    let total = tick + size_kept (program_of p) rows (map kept_view c.in_ok-kept.kept) in
    let least : c.size_with-size.result ≡ min total NODE_TOP = c.size_with-size.ensures
    ∙ ap (λ (k : List Kept). min (tick + size_kept (program_of p) rows (map kept_view k)) NODE_TOP)
    c.as_slice-3.ensures in
    let size : c.size_with-size.result ≡ total = grind arith in
    let parameters = c.parameters_with-parameters.ensures
    ∙ ap (λ (k : List Kept). parameters_kept rows (map kept_view k)) c.as_slice-4.ensures in
    record {
      earlier = c.in_ok-kept.ensures.earlier;
      counted = counted_tick (program_of p) rows _ c.tick_kind-kind.result
          (is_expression (slice_get (program_of p).ticks c.args.tick)) c.tick_kind-kind.ensures size parameters;
      small = omega (arith, c.if-size-gt-SIZE_LIMIT.false);
    }

pub returns-clause-same : goal.returns-clause-same
returns-clause-same c =
    let p = c.args.m.now in
    let rows = rows_view p.rows in
    let kinds = kinds_of (args_view c.args.list.now) in
    let kept = c.in_ok-kept.kept in
    let b : Bool = is_expression (slice_get (program_of p).ticks c.args.tick) in
    let tick = tick_size (slice_get (program_of p).ticks c.args.tick) in
    let same = ap (λ ws. is_none (captures_trap rows kinds ws)) (sym c.as_slice.ensures) in
    let fit = none_is (captures_trap rows kinds c.args.words) (same ∙ sym c.all_fit.ensures ∙ c.if-not-all_fit.false) in
    let is = c.in_ok-kept.ensures.kept ∙ ap (λ ws. all_kept rows kinds ws) c.as_slice-2.ensures in
    let size = c.size_with-size.ensures
    ∙ ap (λ (k : List Kept). min (tick + size_kept (program_of p) rows (map kept_view k)) NODE_TOP) c.as_slice-3.ensures
    ∙ ap (λ n. min n NODE_TOP) (size_made p c.args.tick kinds c.args.words kept is) in
    let s = specification_made p c.args.tick kinds c.args.words kept is c.tick_kind-kind.result b
    c.tick_kind-kind.ensures in
    let made = row_kept rows (row_of c.tick_kind-kind.result c.args.tick (map kept_view kept)) in
    let there = ap (λ n. leads (run_of p) (valued (specify made n (world (run_of p))))) c.len.ensures in
    let leads_on = there ∙ tick_made p c.args.tick kinds c.args.words made fit (grind arith) s in
    ok_leads c.specify.result (run_of c.specify.new.m)
    (leads (run_of p) (valued (specify made c.len.result (world (run_of p)))))
    (leads (run_of p) (valued (specify_tick (here (run_of p)).program c.args.tick kinds c.args.words
    (world (run_of p)))))
    leads_on c.specify.ensures.same
