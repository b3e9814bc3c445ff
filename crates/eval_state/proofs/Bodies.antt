-- A function of the text that was called from one, with nothing pending for the call: the run within it, and the run
-- behind its end.
use Rattle.std.proofs.Common.{◌≡◌, ◌≢◌, ℕ, suc, ◌+◌, ◌-◌, ◌^◌, ◌<◌, List, [], Some, None, slice_get}
use Rattle.std.proofs.Common.{refl, ap, sym, ◌∙◌, arith}
use Rattle.history.specs.Syntax.{Captures}
use Rattle.meaning_state.specs.Shared.{Specification, limit_trap}
use Rattle.typed_tree.specs.declared.expression.Answer.{Answer}
use Rattle.typed_tree.specs.declared.program.Function.{Function}
use Rattle.typed_tree.specs.View.{function_view}
use Rattle.staged_meaning.specs.Size.{charge_of}
use Rattle.eval_state.specs.Grown.{with_caller}
use Rattle.eval_state.specs.Kept.{body_view, captures_at, rows_view}
use Rattle.eval_state.specs.Late.{IsCallee, function_body, out_of, with_body}
use Rattle.eval_state.specs.Pending as pending
use Rattle.eval_state.specs.Rest.{after, context_at, resumed, spent, targeted, valued}
use Rattle.eval_state.specs.Run.{Run, here, in_world, program_of, run_of, world}
use Rattle.eval_state.specs.Sound.{IsSound, calls}
use Rattle.eval_state.specs.declared.state.Body.{Body}
use Rattle.eval_state.specs.declared.state.Parts.{Parts}
use Rattle.wellformed.specs.Program.{IsWellFormed}
use Rattle.eval_state.proofs.CallLaws.{call_starts}
use Rattle.eval_state.proofs.Callees.{static_at}
use Rattle.eval_state.proofs.Codes.{function_small, within_limits}

text_captures : (rows more : List Specification) (n : ℕ) → n ≡ 0 → captures_at rows n ≡ captures_at more n
text_captures rows more n h = ap (captures_at rows) h ∙ ap (captures_at more) (sym h)

module _ (p : Parts) (a : Answer) (f : ℕ) (vs : List ℕ) (function : Function) (is : IsCallee f function p) where
  abbrev pub begun : Parts
  begun = with_body (charge_of function.size) (function_body function vs p) p

  -- where it ends the caller is where it was
  abbrev out_at : ℕ → Captures → Run
  out_at d c = record (run_of begun) {
    state = record (run_of begun).state {
      body = record (body_view (rows_view p.rows) p.body) { captures = c };
      depth = d;
    };
  }

  abbrev same_captures : captures_at [] p.body.row ≡ captures_at (rows_view p.rows) p.body.row
  same_captures = text_captures [] (rows_view p.rows) p.body.row is.row

  abbrev same_depth : suc (p.depth - 1) ≡ p.depth
  same_depth = omega (arith, is.deep)

  pub enters_out : out_of (body_view [] p.body) (run_of begun)
      ≡ in_world (world (out_of (body_view [] p.body) (run_of begun))) (run_of p)
  unfolding run_of
  enters_out =
      ap (λ d. out_at d (captures_at [] p.body.row)) same_depth
      ∙ ap (out_at p.depth) same_captures

  pub enters_units : (run_of begun).state.units ≡ (run_of p).state.units
  unfolding run_of
  enters_units = refl

  pub enters_call : after (here (run_of begun)) (pending.Called a (charge_of function.size) (body_view [] p.body))
      (spent (here (run_of begun)) (world (run_of begun)).units (pending.Exec (function_view function).body)
      (world (run_of begun)))
      ≡ valued (targeted (here (run_of p)) (pending.Direct a f) vs (world (run_of p)))
  unfolding run_of
  enters_call =
      let d = p.depth - 1 in
      let w = world (run_of p) in
      let captures = captures_at (rows_view p.rows) p.body.row in
      let charged = ap charge_of is.size in
      let free = ap (λ n. limit_trap n function.object w.shared) (sym charged) ∙ is.free in
      ap (λ c. after (here (run_of begun))
      (pending.Called a (charge_of function.size) (record (body_view (rows_view p.rows) p.body) { captures = c }))
      (spent (here (run_of begun)) (world (run_of begun)).units (pending.Exec (function_view function).body)
      (world (run_of begun)))) same_captures
      ∙ ap (λ n. after (here (run_of (with_body n (function_body function vs p) p)))
      (pending.Called a n (body_view (rows_view p.rows) p.body))
      (spent (here (run_of (with_body n (function_body function vs p) p))) w.units
      (pending.Exec (function_view function).body)
      (world (run_of (with_body n (function_body function vs p) p))))) charged
      ∙ call_starts (program_of p) (suc p.turns) d p.body.object captures a f vs (function_view function) w is.found
      free
      ∙ ap (λ n. valued (targeted (context_at (program_of p) (suc p.turns)
      (record { depth = n; object = p.body.object; captures = captures })) (pending.Direct a f) vs w)) same_depth

  pub enters_within : IsSound p → begun.depth + calls begun.entries + 1 < 2 ^ 64
  enters_within sound = omega (arith, is.deep, sound.5)

-- behind its end, in the world that the call leaves
pub comes_back : (p q : Parts) (charge : ℕ) (caller : Body) → caller.row ≡ 0 → q ≡ with_caller charge caller p
    → run_of q ≡ in_world (resumed (body_view [] caller) charge (run_of p).state.body.object (world (run_of p)))
    (out_of (body_view [] caller) (run_of p))
unfolding run_of
comes_back p q charge caller row h =
    ap run_of h
    ∙ ap (λ c. record (run_of (with_caller charge caller p)) {
      state = record (run_of (with_caller charge caller p)).state {
        body = record (body_view (rows_view p.rows) caller) { captures = c };
      };
    }) (text_captures (rows_view p.rows) [] caller.row row)

-- what is known of a function that is found, by the tests that found it
pub is_callee : (p : Parts) (n i : ℕ) (f : Function) → p.body.row ≡ 0 → p.depth ≢ 0 → n ≡ suc i
    → IsWellFormed p.typed.now → slice_get p.typed.now.functions i ≡ Some f
    → None ≡ limit_trap (charge_of f.size) f.object (world (run_of p)).shared → IsCallee n f p
is_callee p n i f row deep next law at free =
    let small = function_small p.typed.now i f law at in
    let within = within_limits p (charge_of f.size) f.object free in
    record {
      row = row;
      deep = deep;
      size = small.0;
      small = small.1;
      found = static_at p n i f next at;
      free = sym free;
      stack = within.0;
      frames = within.1;
    }
