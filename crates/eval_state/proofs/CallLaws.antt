-- The laws of calls and of spliced code: a frame that keeps what belongs to the caller, under the body that is entered,
-- leaves what is still to come as it was. A call that meets a limit traps, and a call that finds no function does.
use Rattle.std.proofs.Common.{◌≡◌, ℕ, zero, suc, List, [], ◌∷◌, ◌++◌, Option, Some, None, slice_get, refl, ap, sym, ◌∙◌}
use Rattle.host_edge.specs.declared.ending.TrapKind.{TrapKind}
use Rattle.host_edge.specs.declared.ending.TrapKind.TheVariants.{BadCall}
use Rattle.host_edge.specs.declared.ending.Ending.TheVariants.{Trap}
use Rattle.history.specs.Syntax.{Syntax, Ticked, Captures, NoCapture, Word, Named, Spliced}
use Rattle.history.specs.Events.{Ended, Entered}
use Rattle.meaning_state.specs.Shared.{happens, limit_trap}
use Rattle.meaning_state.specs.Rows.{locals_of}
use Rattle.typed_tree.specs.declared.expression.Answer.{Answer}
use Rattle.typed_tree.specs.Nodes as node
use Rattle.typed_tree.specs.Nodes.{Expr, Stmt, Function}
use Rattle.staged_meaning.specs.Size.{size_of, charge_of}
use Rattle.staged_meaning.specs.Expressions.{left_by}
use Rattle.staged_meaning.specs.Meaning.{Tick, OfExpression, OfStatement, Program, Callee, Static, Generated, callee_at}
use Rattle.staged_meaning.specs.Meaning.{Context, eval, exec, answer, leaves, entered, charging, call_body, tick_value}
use Rattle.staged_meaning.specs.Meaning.{apart, syntax_value, spliced_value, returned, generated_body, around}
use Rattle.staged_meaning.specs.Meaning.{call_callee, call_at}
use Rattle.staged_meaning.specs.World.{World, Result, Gives, Returns, Ends, Stops, Flow, Normal, then_do, spend}
use Rattle.staged_meaning.specs.World.{spend_from, spend_all, unless}
use Rattle.eval_state.specs.Pending as pending
use Rattle.eval_state.specs.Pending.{Now, Body, Target, Frame}
use Rattle.eval_state.specs.Rest.{Signal, Value, valued, left, on_answer, on_end, under, through, Place, outside}
use Rattle.eval_state.specs.Rest.{context_at, targeted, resumed, body_of, after, ticked, once, spent}
use Rattle.eval_state.specs.Moves.{in_function, in_code, at_entry, code_charge, passed_to, entry_units, syntax_at}
use Rattle.eval_state.proofs.Laws.{do_both, through_push}

-- what stands round a function of the text
pub function_context : (program : Program) (turns d object : ℕ)
    → around program turns (call_at program turns d) object ≡ context_at program turns (in_function d object)
function_context program turns d object = refl

-- ---- a function of the text

-- the end of a body is the end of its call
module _ (a : Answer) (charge object o : ℕ) (captures : Captures) (caller : World) where
  abbrev over : Result Signal → Result Signal
  over = on_answer (λ v w. valued (spend (left_by a v) (resumed (body_of o captures caller) charge object w)))

  abbrev behind : Result ℕ → Result Signal
  behind r = valued (then_do (then_do r (leaves charge object caller)) (λ v w. spend (left_by a v) w))

  body_ends : (r : Result Flow) → over (left r) ≡ behind (answer r)
  body_ends (Gives flow w) = refl
  body_ends (Returns v w) = refl
  body_ends (Ends e s) = refl
  body_ends (Stops s) = refl

  -- and that of a body that begins behind a unit
  body_starts : (c : Context) (s : Stmt) (units : ℕ) (w : World)
      → over (spent c units (pending.Exec s) w)
      ≡ behind (then_do (spend_from units Normal w) (λ flow w. answer (exec c s w)))
  body_starts c s zero w = refl
  body_starts c s (suc u) w = body_ends (exec c s (record w { units = u }))

  -- the code of a tick, whose variables nobody sees behind its end
  code_ends : (c : Context) (t : Option Tick) (variables : ℕ → ℕ) (w : World)
      → over (ticked c t w) ≡ behind
      (returned (then_do (tick_value c t w) (λ v w1. Gives v (record w1 { variables = variables }))))
  code_ends c None vs w = refl
  code_ends c (Some (OfExpression e)) vs w = expression_ends (eval c e w)
    where
      expression_ends : (r : Result ℕ) → over (valued r)
          ≡ behind (returned (then_do r (λ v w1. Gives v (record w1 { variables = vs }))))
      expression_ends (Gives v w1) = refl
      expression_ends (Returns v w1) = refl
      expression_ends (Ends e s) = refl
      expression_ends (Stops s) = refl
  code_ends c (Some (OfStatement s)) vs w = statement_ends (exec c s w)
    where
      statement_ends : (r : Result Flow) → over (left r)
          ≡ behind (returned (then_do (then_do r (λ flow w. Gives 0 w))
          (λ v w1. Gives v (record w1 { variables = vs }))))
      statement_ends (Gives flow w1) = refl
      statement_ends (Returns v w1) = refl
      statement_ends (Ends e s) = refl
      statement_ends (Stops s) = refl

  -- that code, once the units of the call and of its variables were spent
  code_starts : (c : Context) (t : Option Tick) (n units : ℕ) (w : World)
      → over (once (then_do (spend_from units Normal w) (λ flow w. spend_all n w))
      (λ w. ticked c t (record w { variables = λ i. 0 })))
      ≡ behind (then_do (then_do (spend_from units Normal w) (λ flow w. spend_all n w))
      (λ flow w. returned (apart (tick_value c t) w)))
  code_starts c t n zero w = refl
  code_starts c t zero (suc u) w = code_ends c t w.variables (record w { units = u; variables = λ i. 0 })
  code_starts c t (suc n) (suc u) w = code_starts c t n u (record w { units = u })

module _ (program : Program) (turns d o : ℕ) (captures : Captures) (a : Answer) where
  -- the place of the caller
  abbrev here : Place
  here = record { depth = suc d; object = o; captures = captures }

  abbrev calls : (f : ℕ) → List ℕ → World → Result Signal
  calls f vs w = valued (targeted (context_at program turns here) (pending.Direct a f) vs w)

  -- what a number stands for decides
  found : (f : ℕ) (vs : List ℕ) (w : World) (callee : Option Callee) → callee_at program w.shared.bodies f ≡ callee
      → valued (then_do (call_callee program turns (call_at program turns d) f callee vs w)
      (λ v w. spend (left_by a v) w)) ≡ calls f vs w
  found f vs w callee h = ap (λ x. valued
      (then_do (call_callee program turns (call_at program turns d) f x vs w) (λ v w. spend (left_by a v) w))) (sym h)

  -- a function of the text is entered
  pub call_starts : (f : ℕ) (vs : List ℕ) (function : Function) (w : World)
      → callee_at program w.shared.bodies f ≡ Some (Static function)
      → limit_trap (charge_of (size_of function)) function.object w.shared ≡ None
      → after (context_at program turns (in_function d function.object))
      (pending.Called a (charge_of (size_of function)) (body_of o captures w))
      (spent (context_at program turns (in_function d function.object)) w.units (pending.Exec function.body)
      (record (entered (charge_of (size_of function)) function.object w) { variables = λ i. 0; arguments = vs }))
      ≡ calls f vs w
  call_starts f vs function w h k =
      let charge = charge_of (size_of function) in
      let c : Context = context_at program turns (in_function d function.object) in
      body_starts a charge function.object o captures w c function.body w.units
      (record (entered charge function.object w) { variables = λ i. 0; arguments = vs })
      ∙ ap (λ t. valued (then_do (unless t w (charging charge function.object (call_body c function vs) w))
      (λ v w. spend (left_by a v) w))) (sym k)
      ∙ found f vs w (Some (Static function)) h

  -- or traps at a limit
  pub call_traps : (f : ℕ) (vs : List ℕ) (function : Function) (w : World) (kind : TrapKind)
      → callee_at program w.shared.bodies f ≡ Some (Static function)
      → limit_trap (charge_of (size_of function)) function.object w.shared ≡ Some kind
      → Ends (Ended (Trap kind)) w.shared ≡ calls f vs w
  call_traps f vs function w kind h k =
      let charge = charge_of (size_of function) in
      let c : Context = context_at program turns (in_function d function.object) in
      ap (λ t. valued (then_do (unless t w (charging charge function.object (call_body c function vs) w))
      (λ v w. spend (left_by a v) w))) (sym k)
      ∙ found f vs w (Some (Static function)) h

  -- a number of no function
  pub call_of_none : (f : ℕ) (vs : List ℕ) (w : World) → callee_at program w.shared.bodies f ≡ None
      → Ends (Ended (Trap BadCall)) w.shared ≡ calls f vs w
  call_of_none f vs w h = found f vs w None h

  -- ---- a compiled function: the event of its entry stands before the limits

  pub code_call_starts : (f : ℕ) (vs : List ℕ) (tick : ℕ) (inner : Captures) (w : World)
      → callee_at program w.shared.bodies f ≡ Some (Generated (Ticked tick inner))
      → limit_trap (code_charge program (Ticked tick inner)) 0 (happens (Entered f) w.shared) ≡ None
      → after (context_at program turns (in_code d inner))
      (pending.Called a (code_charge program (Ticked tick inner)) (body_of o captures w))
      (once (entry_units program f vs (Ticked tick inner) w)
      (λ w. ticked (context_at program turns (in_code d inner)) (slice_get program.ticks tick)
      (record w { variables = λ i. 0 })))
      ≡ calls f vs w
  code_call_starts f vs tick inner w h k =
      let syntax : Syntax = Ticked tick inner in
      let charge = code_charge program syntax in
      let c : Context = context_at program turns (in_code d inner) in
      code_starts a charge 0 o captures (at_entry f w) c (slice_get program.ticks tick) (locals_of syntax) w.units
      (passed_to program f vs syntax w)
      ∙ ap (λ r. valued (then_do (then_do r (leaves charge 0 (at_entry f w))) (λ v w. spend (left_by a v) w)))
      (do_both (spend Normal (passed_to program f vs syntax w)) (λ flow w. spend_all (locals_of syntax) w)
      (λ flow w. returned (syntax_value (outside program turns d) syntax w)))
      ∙ ap (λ t. valued (then_do (unless t (at_entry f w)
      (charging charge 0 (generated_body (outside program turns d) syntax vs) (at_entry f w)))
      (λ v w. spend (left_by a v) w))) (sym k)
      ∙ found f vs w (Some (Generated syntax)) h

  pub code_call_traps : (f : ℕ) (vs : List ℕ) (syntax : Syntax) (w : World) (kind : TrapKind)
      → callee_at program w.shared.bodies f ≡ Some (Generated syntax)
      → limit_trap (code_charge program syntax) 0 (happens (Entered f) w.shared) ≡ Some kind
      → Ends (Ended (Trap kind)) (happens (Entered f) w.shared) ≡ calls f vs w
  code_call_traps f vs syntax w kind h k =
      ap (λ t. valued (then_do (unless t (at_entry f w)
      (charging (code_charge program syntax) 0 (generated_body (outside program turns d) syntax vs) (at_entry f w)))
      (λ v w. spend (left_by a v) w))) (sym k)
      ∙ found f vs w (Some (Generated syntax)) h

-- no call more may be active
pub call_too_deep : (program : Program) (turns o : ℕ) (captures : Captures) (a : Answer) (f : ℕ) (vs : List ℕ)
    (w : World)
    → Stops w.shared ≡ valued (targeted
    (context_at program turns (record { depth = 0; object = o; captures = captures })) (pending.Direct a f) vs w)
call_too_deep program turns o captures a f vs w = refl

-- ---- spliced code

abbrev valued_syntax : Context → Option Syntax → World → Result ℕ
valued_syntax c None w = Gives 0 w
valued_syntax c (Some syntax) w = syntax_value c syntax w

spliced_is : (c : Context) (captures : Captures) (i : ℕ) (w : World) → spliced_value c captures i w
    ≡ valued_syntax c (syntax_at captures i) w
spliced_is c NoCapture i w = refl
spliced_is c (Spliced syntax captures) zero w = refl
spliced_is c (Spliced syntax captures) (suc i) w = spliced_is c captures i w
spliced_is c (Word word captures) zero w = refl
spliced_is c (Word word captures) (suc i) w = spliced_is c captures i w
spliced_is c (Named key captures) zero w = refl
spliced_is c (Named key captures) (suc i) w = spliced_is c captures i w

-- the end of a spliced body
abbrev spliced_end : Answer → (ℕ → ℕ) → Result Signal → Result Signal
spliced_end a variables = on_end (λ v w. Gives (Value (left_by a v)) (record w { variables = variables }))

splice_ends : (a : Answer) (vs : ℕ → ℕ) (c : Context) (t : Option Tick) (w : World)
    → spliced_end a vs (ticked c t w)
    ≡ valued (then_do (then_do (tick_value c t w) (λ v w1. Gives v (record w1 { variables = vs })))
    (λ v w. Gives (left_by a v) w))
splice_ends a vs c None w = refl
splice_ends a vs c (Some (OfExpression e)) w = expression_ends (eval c e w)
  where
    expression_ends : (r : Result ℕ) → spliced_end a vs (valued r)
        ≡ valued (then_do (then_do r (λ v w1. Gives v (record w1 { variables = vs }))) (λ v w. Gives (left_by a v) w))
    expression_ends (Gives v w1) = refl
    expression_ends (Returns v w1) = refl
    expression_ends (Ends e s) = refl
    expression_ends (Stops s) = refl
splice_ends a vs c (Some (OfStatement s)) w = statement_ends (exec c s w)
  where
    statement_ends : (r : Result Flow) → spliced_end a vs (left r)
        ≡ valued (then_do (then_do (then_do r (λ flow w. Gives 0 w)) (λ v w1. Gives v (record w1 { variables = vs })))
        (λ v w. Gives (left_by a v) w))
    statement_ends (Gives flow w1) = refl
    statement_ends (Returns v w1) = refl
    statement_ends (Ends e s) = refl
    statement_ends (Stops s) = refl

module _ (program : Program) (turns d o : ℕ) (captures : Captures) (a : Answer) (i : ℕ) where
  abbrev splices : World → Result Signal
  splices w = valued (eval (context_at program turns (record { depth = d; object = o; captures = captures }))
      (node.Splice a i) w)

  pub splice_starts : (tick : ℕ) (inner : Captures) (w : World) → syntax_at captures i ≡ Some (Ticked tick inner)
      → after (context_at program turns (in_code d inner)) (pending.Spliced a w.variables o captures)
      (ticked (context_at program turns (in_code d inner)) (slice_get program.ticks tick)
      (record w { variables = λ i. 0 }))
      ≡ splices w
  splice_starts tick inner w h =
      splice_ends a w.variables (context_at program turns (in_code d inner)) (slice_get program.ticks tick)
      (record w { variables = λ i. 0 })
      ∙ ap (λ s. valued (then_do (valued_syntax (outside program turns d) s w) (λ v w. Gives (left_by a v) w))) (sym h)
      ∙ ap (λ r. valued (then_do r (λ v w. Gives (left_by a v) w)))
      (sym (spliced_is (outside program turns d) captures i w))

  pub splice_of_none : (w : World) → syntax_at captures i ≡ None → Gives (Value (left_by a 0)) w ≡ splices w
  splice_of_none w h =
      ap (λ s. valued (then_do (valued_syntax (outside program turns d) s w) (λ v w. Gives (left_by a v) w))) (sym h)
      ∙ ap (λ r. valued (then_do r (λ v w. Gives (left_by a v) w)))
      (sym (spliced_is (outside program turns d) captures i w))

-- ---- with all that is pending below

-- the place under a call, and under spliced code, is the place that it was made at
pub under_call : (a : Answer) (charge d object o : ℕ) (captures : Captures) (w : World)
    → under (pending.Called a charge (body_of o captures w)) (in_function d object)
    ≡ record { depth = suc d; object = o; captures = captures }
under_call a charge d object o captures w = refl

pub under_code_call : (a : Answer) (charge d o : ℕ) (inner captures : Captures) (w : World)
    → under (pending.Called a charge (body_of o captures w)) (in_code d inner)
    ≡ record { depth = suc d; object = o; captures = captures }
under_code_call a charge d o inner captures w = refl

pub under_splice : (a : Answer) (variables : ℕ → ℕ) (d o : ℕ) (inner captures : Captures)
    → under (pending.Spliced a variables o captures) (in_code d inner)
    ≡ record { depth = d; object = o; captures = captures }
under_splice a variables d o inner captures = refl

-- a call pushes its frame on all that is pending, and what is still to come stays the same
pub call_goes : (program : Program) (turns d o : ℕ) (captures : Captures) (a : Answer) (f : ℕ) (vs : List ℕ)
    (function : Function) (w : World) (fs : List Frame)
    → callee_at program w.shared.bodies f ≡ Some (Static function)
    → limit_trap (charge_of (size_of function)) function.object w.shared ≡ None
    → through (context_at program turns) (in_function d function.object)
    (fs ++ pending.Called a (charge_of (size_of function)) (body_of o captures w) ∷ [])
    (spent (context_at program turns (in_function d function.object)) w.units (pending.Exec function.body)
    (record (entered (charge_of (size_of function)) function.object w) { variables = λ i. 0; arguments = vs }))
    ≡ through (context_at program turns) (record { depth = suc d; object = o; captures = captures }) fs
    (valued (targeted (context_at program turns (record { depth = suc d; object = o; captures = captures }))
    (pending.Direct a f) vs w))
call_goes program turns d o captures a f vs function w fs h k =
    through_push (context_at program turns) (in_function d function.object) fs
    (pending.Called a (charge_of (size_of function)) (body_of o captures w)) _
    ∙ ap (through (context_at program turns) (record { depth = suc d; object = o; captures = captures }) fs)
    (call_starts program turns d o captures a f vs function w h k)

-- and so does a call of a compiled function
pub code_call_goes : (program : Program) (turns d o : ℕ) (captures : Captures) (a : Answer) (f : ℕ) (vs : List ℕ)
    (tick : ℕ) (inner : Captures) (w : World) (fs : List Frame)
    → callee_at program w.shared.bodies f ≡ Some (Generated (Ticked tick inner))
    → limit_trap (code_charge program (Ticked tick inner)) 0 (happens (Entered f) w.shared) ≡ None
    → through (context_at program turns) (in_code d inner)
    (fs ++ pending.Called a (code_charge program (Ticked tick inner)) (body_of o captures w) ∷ [])
    (once (entry_units program f vs (Ticked tick inner) w)
    (λ w. ticked (context_at program turns (in_code d inner)) (slice_get program.ticks tick)
    (record w { variables = λ i. 0 })))
    ≡ through (context_at program turns) (record { depth = suc d; object = o; captures = captures }) fs
    (valued (targeted (context_at program turns (record { depth = suc d; object = o; captures = captures }))
    (pending.Direct a f) vs w))
code_call_goes program turns d o captures a f vs tick inner w fs h k =
    through_push (context_at program turns) (in_code d inner) fs
    (pending.Called a (code_charge program (Ticked tick inner)) (body_of o captures w)) _
    ∙ ap (through (context_at program turns) (record { depth = suc d; object = o; captures = captures }) fs)
    (code_call_starts program turns d o captures a f vs tick inner w h k)

-- and spliced code
pub splice_goes : (program : Program) (turns d o : ℕ) (captures : Captures) (a : Answer) (i tick : ℕ)
    (inner : Captures) (w : World) (fs : List Frame)
    → syntax_at captures i ≡ Some (Ticked tick inner)
    → through (context_at program turns) (in_code d inner) (fs ++ pending.Spliced a w.variables o captures ∷ [])
    (ticked (context_at program turns (in_code d inner)) (slice_get program.ticks tick)
    (record w { variables = λ i. 0 }))
    ≡ through (context_at program turns) (record { depth = d; object = o; captures = captures }) fs
    (valued (eval (context_at program turns (record { depth = d; object = o; captures = captures }))
    (node.Splice a i) w))
splice_goes program turns d o captures a i tick inner w fs h =
    through_push (context_at program turns) (in_code d inner) fs (pending.Spliced a w.variables o captures) _
    ∙ ap (through (context_at program turns) (record { depth = d; object = o; captures = captures }) fs)
    (splice_starts program turns d o captures a i tick inner w h)
