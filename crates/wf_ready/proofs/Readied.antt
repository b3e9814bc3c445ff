-- What stands behind an accepted text's backquotes is ready for the lowering.
use Rattle.std.proofs.Common.{refl}
use Rattle.typed_tree.specs.Nodes as node
use Rattle.typed_tree.specs.Nodes.{Expr, Stmt}
use Rattle.staged_meaning.specs.Placed.{below, outside}
use Rattle.staged_meaning.specs.Scope.{no_scope}
use Rattle.wellformed.specs.Program.{round_tick}
use Rattle.wf_ready.specs.Laws.{TicksAreReady}
use Rattle.wf_ready.proofs.Scoped.{expr_scoped, stmt_scoped}
use Rattle.wf_ready.proofs.Used.{expr_uses, stmt_uses}
use Rattle.wf_ready.proofs.Placed.{stmt_placed}
use Rattle.wf_ready.proofs.Calls.{tick_calls}
use Rattle.wf_ready.proofs.Ticks.{expr_ticks, stmt_ticks}
use Rattle.wf_ready.proofs.Frames.{expr_frames, stmt_frames}
use Rattle.wf_ready.proofs.Built.{expression_built, statement_built}

pub ticks_ready : TicksAreReady
ticks_ready = record {
  expressions = λ p ticks e kinds h. record {
    built = expression_built p ticks e kinds h;
    scoped = expr_scoped (round_tick p ticks kinds) no_scope (λ i is. absurd cc) e h.stands;
    values = expr_uses e h.values;
    placed = tt;
    calls = tick_calls p ticks (node.Expression e) kinds h;
    ticks_are = expr_ticks ticks (round_tick p ticks kinds) refl e h.stands;
    frames = expr_frames 0 (round_tick p ticks kinds) refl e h.stands;
  };
  statements = λ p ticks s kinds h. record {
    built = statement_built p ticks s kinds h;
    scoped = stmt_scoped (round_tick p ticks kinds) no_scope (λ i is. absurd cc) s h.stands;
    values = stmt_uses s h.values;
    placed = stmt_placed (round_tick p ticks kinds) (below outside)
        (record { breaks = λ is. absurd cc; continues = λ is. absurd cc }) s h.stands;
    calls = tick_calls p ticks (node.Statement s) kinds h;
    ticks_are = stmt_ticks ticks (round_tick p ticks kinds) refl s h.stands;
    frames = stmt_frames 0 (round_tick p ticks kinds) refl s h.stands;
  };
}
