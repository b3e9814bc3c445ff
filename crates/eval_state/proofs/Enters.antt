-- What is still to come, where a function is entered: the laws of calls, of a run whose caller's body waits.
use Rattle.std.proofs.Common.{◌≡◌, ℕ, suc, List, [], ◌∷◌, ◌++◌, Some, None, slice_get, ap, sym, ◌∙◌}
use Rattle.history.specs.Events.{Entered}
use Rattle.history.specs.Syntax.{Captures, NoCapture, Ticked}
use Rattle.meaning_state.specs.Shared.{limit_trap, charged, happens}
use Rattle.typed_tree.specs.declared.expression.Answer.{Answer}
use Rattle.typed_tree.specs.Nodes as node
use Rattle.typed_tree.specs.Nodes.{Function}
use Rattle.staged_meaning.specs.Size.{size_of, charge_of}
use Rattle.staged_meaning.specs.Expressions.{left_by}
use Rattle.staged_meaning.specs.Meaning.{eval, keys_at_entry}
use Rattle.staged_meaning.specs.Program.{Static, Generated, callee_at}
use Rattle.staged_meaning.specs.World.{Gives}
use Rattle.eval_state.specs.Moves.{code_charge, entry_units, syntax_at}
use Rattle.eval_state.specs.Pending as pending
use Rattle.eval_state.specs.Rest.{Place, Value, context_at, once, spent, targeted, through, ticked, valued}
use Rattle.eval_state.proofs.CallLaws.{call_goes, code_call_goes, splice_goes, splice_of_none}
use Rattle.eval_state.specs.Run.{Run, here, leads, world}

-- the run within a function that was called, which is charged; d calls more may be active
abbrev pub entered_run : Answer → (charge : ℕ) → Function → List ℕ → (d : ℕ) → Run → Run
entered_run a charge function vs d r = record r {
  state = record {
    body = record {
      variables = λ i. 0;
      arguments = vs;
      generated = r.state.body.generated;
      object = function.object;
      captures = NoCapture;
    };
    shared = charged charge function.object r.state.shared;
    units = r.state.units;
    depth = d;
    frames = r.state.frames ++ pending.Called a charge r.state.body ∷ [];
  };
}

-- the place of the caller, where so many calls more may be active
abbrev called_at : Run → ℕ → Place
called_at r d = record { depth = d; object = r.state.body.object; captures = r.state.body.captures }

pub enters : (r : Run) (a : Answer) (f : ℕ) (vs : List ℕ) (function : Function) (d : ℕ)
    → r.state.depth ≡ suc d
    → callee_at r.program (world r).shared.bodies f ≡ Some (Static function)
    → limit_trap (charge_of (size_of function)) function.object (world r).shared ≡ None
    → leads (entered_run a (charge_of (size_of function)) function vs d r)
    (spent (here (entered_run a (charge_of (size_of function)) function vs d r)) (world r).units
    (pending.Exec function.body) (world (entered_run a (charge_of (size_of function)) function vs d r)))
    ≡ leads r (valued (targeted (here r) (pending.Direct a f) vs (world r)))
enters r a f vs function d deep h k =
    call_goes r.program r.turns d r.state.body.object r.state.body.captures a f vs function (world r) r.state.frames h k
    ∙ ap (λ n. through (context_at r.program r.turns) (called_at r n) r.state.frames
    (valued (targeted (context_at r.program r.turns (called_at r n)) (pending.Direct a f) vs (world r)))) (sym deep)

-- the run within a compiled function that was called: the event of its entry stands before its charge
abbrev pub code_run : Answer → (charge f : ℕ) → Captures → List ℕ → (d : ℕ) → Run → Run
code_run a charge f inner vs d r = record r {
  state = record {
    body = record {
      variables = λ i. 0;
      arguments = vs;
      generated = keys_at_entry vs;
      object = 0;
      captures = inner;
    };
    shared = charged charge 0 (happens (Entered f) r.state.shared);
    units = r.state.units;
    depth = d;
    frames = r.state.frames ++ pending.Called a charge r.state.body ∷ [];
  };
}

pub code_enters : (r : Run) (a : Answer) (f : ℕ) (vs : List ℕ) (tick : ℕ) (inner : Captures) (d : ℕ)
    → r.state.depth ≡ suc d
    → callee_at r.program (world r).shared.bodies f ≡ Some (Generated (Ticked tick inner))
    → limit_trap (code_charge r.program (Ticked tick inner)) 0 (happens (Entered f) (world r).shared) ≡ None
    → leads (code_run a (code_charge r.program (Ticked tick inner)) f inner vs d r)
    (once (entry_units r.program f vs (Ticked tick inner) (world r))
    (λ w. ticked (here (code_run a (code_charge r.program (Ticked tick inner)) f inner vs d r))
    (slice_get r.program.ticks tick) (record w { variables = λ i. 0 })))
    ≡ leads r (valued (targeted (here r) (pending.Direct a f) vs (world r)))
code_enters r a f vs tick inner d deep h k =
    code_call_goes r.program r.turns d r.state.body.object r.state.body.captures a f vs tick inner (world r)
    r.state.frames h k
    ∙ ap (λ n. through (context_at r.program r.turns) (called_at r n) r.state.frames
    (valued (targeted (context_at r.program r.turns (called_at r n)) (pending.Direct a f) vs (world r)))) (sym deep)

-- the run within spliced code
abbrev pub splice_run : Answer → Captures → Run → Run
splice_run a inner r = record r {
  state = record r.state {
    body = record r.state.body { variables = λ i. 0; object = 0; captures = inner };
    frames = r.state.frames ++ pending.Spliced a r.state.body.variables r.state.body.object r.state.body.captures ∷ [];
  };
}

pub splice_enters : (r : Run) (a : Answer) (i tick : ℕ) (inner : Captures)
    → syntax_at r.state.body.captures i ≡ Some (Ticked tick inner)
    → leads (splice_run a inner r)
    (ticked (here (splice_run a inner r)) (slice_get r.program.ticks tick) (world (splice_run a inner r)))
    ≡ leads r (valued (eval (here r) (node.Splice a i) (world r)))
splice_enters r a i tick inner h =
    splice_goes r.program r.turns r.state.depth r.state.body.object r.state.body.captures a i tick inner (world r)
    r.state.frames h

pub splice_of_nothing : (r : Run) (a : Answer) (i : ℕ) → syntax_at r.state.body.captures i ≡ None
    → leads r (Gives (Value (left_by a 0)) (world r)) ≡ leads r (valued (eval (here r) (node.Splice a i) (world r)))
splice_of_nothing r a i h =
    ap (leads r)
    (splice_of_none r.program r.turns r.state.depth r.state.body.object r.state.body.captures a i (world r) h)
