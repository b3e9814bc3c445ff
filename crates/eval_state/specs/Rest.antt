-- What is still to come. Each kind of pending work says what becomes of what it waits for, in the words of the meaning;
-- behind all that is pending stands the outcome of the run. So a step of an evaluation is right where the outcome stays
-- as it is, and the outcome at the beginning of a run is the meaning. These are this project's own definitions.
use Rattle.std.specs.Prelude.{ℕ, zero, suc, ◌%◌, List, [], ◌∷◌, ◌++◌, Option, Some, None}
use Rattle.host_edge.specs.declared.ending.Ending.TheVariants.{Done}
use Rattle.history.specs.Syntax.{Captures}
use Rattle.history.specs.Events.{Ended}
use Rattle.icode_ops.specs.declared.kind.BinKind.{BinKind}
use Rattle.meaning_state.specs.Operators.{bin_value, bin_trap, un_value}
use Rattle.meaning_state.specs.Shared.{Shared, access_trap, loaded, byte_answer, put_byte, put_number, malloc_answer}
use Rattle.meaning_state.specs.Shared.{malloc, discharged}
use Rattle.typed_tree.specs.declared.expression.Library.{Library}
use Rattle.typed_tree.specs.declared.expression.Library.TheVariants.{Putchar, Putint, Exit, Malloc}
use Rattle.typed_tree.specs.Nodes.{Expr, Stmt, Items}
use Rattle.staged_meaning.specs.Expressions.{load_at, store_at, modify_at, post_at, left_by, call_numbered, key_of}
use Rattle.staged_meaning.specs.Meaning.{Tick, OfExpression, OfStatement, Program, Context, eval, eval_args, exec}
use Rattle.staged_meaning.specs.Meaning.{exec_items, call_at, around, spliced_value, then_next, turn_end, turns}
use Rattle.staged_meaning.specs.Meaning.{round_end, rounds, stepped}
use Rattle.staged_meaning.specs.Specifications.{specify_tick, specify_parameter, compile_number}
use Rattle.staged_meaning.specs.Statements.{exec_cases, exec_default, switch_end}
use Rattle.staged_meaning.specs.World.{World, Result, Gives, Returns, Ends, Stops, Flow, Normal, then_do, spend}
use Rattle.staged_meaning.specs.World.{with_variable, with_generated, with_shared, unless, at_zero}
use Rattle.eval_state.specs.Pending as pending
use Rattle.eval_state.specs.Pending.{Now, Body, Target, Frame}

-- ---- what a thing leaves: a value, or the way that a statement was left

pub data Signal : Type 0 where
  Value : ℕ → Signal
  Left : Flow → Signal

abbrev pub valued : Result ℕ → Result Signal
valued (Gives v w) = Gives (Value v) w
valued (Returns v w) = Returns v w
valued (Ends e shared) = Ends e shared
valued (Stops shared) = Stops shared

abbrev pub left : Result Flow → Result Signal
left (Gives flow w) = Gives (Left flow) w
left (Returns v w) = Returns v w
left (Ends e shared) = Ends e shared
left (Stops shared) = Stops shared

-- goes on with a value
abbrev pub on_value : (ℕ → World → Result Signal) → Result Signal → Result Signal
on_value next (Gives (Value v) w) = next v w
on_value next (Gives (Left flow) w) = Gives (Left flow) w
on_value next (Returns v w) = Returns v w
on_value next (Ends e shared) = Ends e shared
on_value next (Stops shared) = Stops shared

-- goes on behind a statement
abbrev pub on_flow : (Flow → World → Result Signal) → Result Signal → Result Signal
on_flow next (Gives (Value v) w) = Gives (Value v) w
on_flow next (Gives (Left flow) w) = next flow w
on_flow next (Returns v w) = Returns v w
on_flow next (Ends e shared) = Ends e shared
on_flow next (Stops shared) = Stops shared

-- the value of a body that was left by its end: of a statement, 0
abbrev pub value_of : Signal → ℕ
value_of (Value v) = v
value_of (Left flow) = 0

-- goes on behind a spliced body; a return in one leaves the function
abbrev pub on_end : (ℕ → World → Result Signal) → Result Signal → Result Signal
on_end next (Gives s w) = next (value_of s) w
on_end next (Returns v w) = Returns v w
on_end next (Ends e shared) = Ends e shared
on_end next (Stops shared) = Stops shared

-- goes on behind a call, whose function was left by its end or by a return
abbrev pub on_answer : (ℕ → World → Result Signal) → Result Signal → Result Signal
on_answer next (Gives s w) = next (value_of s) w
on_answer next (Returns v w) = next v w
on_answer next (Ends e shared) = Ends e shared
on_answer next (Stops shared) = Stops shared

-- ---- where an evaluation stands in the program

-- how many calls more may be active, the bytes of the frame objects of the active body, and what its captures stand for
pub record Place : Type 0 where
  pub depth : ℕ
  pub object : ℕ
  pub captures : Captures

-- what stands round generated code, and a function of the text
abbrev pub outside : Program → (turns : ℕ) → (depth : ℕ) → Context
outside program turns depth = around program turns (call_at program turns depth) 0

abbrev pub context_at : Program → (turns : ℕ) → Place → Context
context_at program turns p = record {
  program = program;
  call = call_at program turns p.depth;
  turns = turns;
  object = p.object;
  captures = p.captures;
  splice = spliced_value (outside program turns p.depth) p.captures;
}

-- ---- what becomes of what pending work waits for

-- an operator on two values
abbrev pub operated : BinKind → (x y : ℕ) → World → Result ℕ
operated kind x y w = unless (bin_trap kind x y) w (spend (bin_value kind x y) w)

-- whether a value is not 0
abbrev pub truth : ℕ → World → Result ℕ
truth y w = at_zero y (spend 0 w) (spend 1 w)

-- the second of an `&&` or of an `||`
abbrev pub truth_of : Context → Expr → World → Result ℕ
truth_of c b w = then_do (eval c b w) truth

-- the library, with its argument
abbrev pub library : Library → ℕ → World → Result ℕ
library Putchar v w = spend (byte_answer v) (with_shared (put_byte v w.shared) w)
library Putint v w = spend 0 (with_shared (put_number v w.shared) w)
library Exit v w = Ends (Ended (Done (v % 256))) w.shared
library Malloc v w = spend (malloc_answer v w.shared) (with_shared (malloc v w.shared) w)

-- what arguments are for
abbrev pub targeted : Context → Target → List ℕ → World → Result ℕ
targeted c (pending.Direct answer f) vs w = then_do (c.call f vs w) (λ v w. spend (left_by answer v) w)
targeted c (pending.Numbered answer f) vs w = call_numbered c answer f vs w
targeted c (pending.Specified tick kinds) vs w = specify_tick c.program tick kinds vs w

-- the body of a loop that was left: its step, if it has one
abbrev pub stepping : Context → Option Expr → Flow → World → Result Flow
stepping c None flow w = Gives flow w
stepping c (Some step) flow w = stepped (eval c step) flow w

-- a turn of a loop before its test
abbrev pub turn_of : Context → Option Expr → Stmt → World → Result Flow
turn_of c None s w = exec c s w
turn_of c (Some step) s w = then_do (exec c s w) (stepped (eval c step))

abbrev pub loop_of : Context → (turns : ℕ) → Expr → Option Expr → Stmt → World → Result Flow
loop_of c d e step s = turns d (eval c e) (turn_of c step s)

abbrev pub rounds_of : Context → (turns : ℕ) → Stmt → Expr → World → Result Flow
rounds_of c d s e = rounds d (exec c s) (eval c e)

-- the items of a switch on a value
abbrev pub switched : Context → (value : ℕ) → Items → World → Result Flow
switched c v items w = then_do (exec_cases c v (exec_default c items) items w) switch_end

-- a call of a charge, and of so many bytes of frame objects, is over: the caller's body is active again
abbrev pub resumed : Body → (charge object : ℕ) → World → World
resumed caller charge object w = record {
  variables = caller.variables;
  arguments = caller.arguments;
  generated = caller.generated;
  shared = discharged charge object w.shared;
  units = w.units;
}

-- what belongs to an active body, so much of which stands in the world
abbrev pub body_of : (object : ℕ) → Captures → World → Body
body_of object captures w = record {
  variables = w.variables;
  arguments = w.arguments;
  generated = w.generated;
  object = object;
  captures = captures;
}

abbrev pub after : Context → Frame → Result Signal → Result Signal
after c (pending.SetVar i) r = on_value (λ v w. valued (spend v (with_variable i v w))) r
after c (pending.SetGenerated i) r = on_value (λ v w. valued (spend v (with_generated (key_of c.captures i) v w))) r
after c (pending.Load width) r = on_value (λ at w. valued (load_at width at w)) r
after c (pending.StoreAddress width b) r = on_value (λ at w. valued (then_do (eval c b w) (store_at width at))) r
after c (pending.StoreValue width at) r = on_value (λ v w. valued (store_at width at v w)) r
after c (pending.ModifyAddress width kind b) r =
    on_value (λ at w. valued (unless (access_trap at width) w
    (then_do (eval c b w) (modify_at width kind at (loaded at width w.shared))))) r
after c (pending.ModifyValue width kind at old) r = on_value (λ v w. valued (modify_at width kind at old v w)) r
after c (pending.Post width step) r = on_value (λ at w. valued (post_at width step at w)) r
after c (pending.First kind b) r = on_value (λ x w. valued (then_do (eval c b w) (operated kind x))) r
after c (pending.Second kind x) r = on_value (λ y w. valued (operated kind x y w)) r
after c (pending.Un kind) r = on_value (λ x w. valued (spend (un_value kind x) w)) r
after c (pending.And b) r = on_value (λ x w. valued (at_zero x (spend 0 w) (truth_of c b w))) r
after c (pending.Or b) r = on_value (λ x w. valued (at_zero x (truth_of c b w) (spend 1 w))) r
after c pending.Truth r = on_value (λ y w. valued (truth y w)) r
after c (pending.Cond a b) r = on_value
    (λ v w. valued (at_zero v (then_do (eval c b w) spend) (then_do (eval c a w) spend))) r
after c pending.Spend r = on_value (λ v w. valued (spend v w)) r
after c (pending.Comma b) r = on_value (λ x w. valued (eval c b w)) r
after c pending.Void r = on_value (λ x w. Gives (Value 0) w) r
after c (pending.Lib kind) r = on_value (λ v w. valued (library kind v w)) r
after c pending.Compile r = on_value (λ v w. valued (compile_number c.program v w)) r
after c pending.ParamOf r = on_value (λ v w. valued (specify_parameter v w)) r
after c (pending.Function answer args) r =
    on_value (λ f w. valued (then_do (eval_args c args w) (call_numbered c answer f))) r
after c (pending.Argument target more done) r =
    on_value (λ v w. valued (then_do (eval_args c more w) (λ vs w. targeted c target (done ++ v ∷ vs) w))) r
after c pending.Drop r = on_value (λ v w. Gives (Left Normal) w) r
after c (pending.If s) r = on_value (λ v w. left (at_zero v (Gives Normal w) (exec c s w))) r
after c (pending.IfElse s t) r = on_value (λ v w. left (at_zero v (exec c t w) (exec c s w))) r
after c (pending.Test d e step s) r =
    on_value (λ v w. left (at_zero v (Gives Normal w)
    (then_do (turn_of c step s w) (turn_end (loop_of c d e step s))))) r
after c (pending.Step d e step s) r = on_value (λ v w. left (turn_end (loop_of c d e (Some step) s) Normal w)) r
after c (pending.RoundTest d s e) r =
    on_value (λ v w. left (then_do (spend Normal w) (λ flow w. at_zero v (Gives Normal w) (rounds_of c d s e w)))) r
after c (pending.ContinuedTest d s e) r = on_value (λ v w. left (at_zero v (Gives Normal w) (rounds_of c d s e w))) r
after c (pending.Switch variables items) r =
    on_value (λ v w. left (then_do (exec_items c variables w) (then_next (switched c v items)))) r
after c pending.Return r = on_value (λ v w. Returns v w) r
after c (pending.Rest items) r = on_flow (λ flow w. left (then_next (exec_items c items) flow w)) r
after c (pending.Turn d e step s) r =
    on_flow (λ flow w. left (then_do (stepping c step flow w) (turn_end (loop_of c d e step s)))) r
after c (pending.Round d s e) r = on_flow (λ flow w. left (round_end (eval c e) (rounds_of c d s e) flow w)) r
after c (pending.Chosen v items) r = on_flow (λ flow w. left (then_next (switched c v items) flow w)) r
after c pending.SwitchEnd r = on_flow (λ flow w. left (switch_end flow w)) r
after c (pending.Called answer charge caller) r =
    on_answer (λ v w. valued (spend (left_by answer v) (resumed caller charge c.object w))) r
after c (pending.Spliced answer variables object captures) r =
    on_end (λ v w. Gives (Value (left_by answer v)) (record w { variables = variables })) r

-- ---- behind all that is pending

-- the place of the work that stands under a frame, where the frame's own is this
abbrev pub under : Frame → Place → Place
under (pending.Called answer charge caller) p =
    record { depth = suc p.depth; object = caller.object; captures = caller.captures }
under (pending.Spliced answer variables object captures) p = record p { object = object; captures = captures }
under _ p = p

-- the place under several, the last of which stands highest
abbrev pub below : List Frame → Place → Place
below [] p = p
below (f ∷ fs) p = under f (below fs p)

-- what becomes of it behind all that is pending, the last first
abbrev pub through : (Place → Context) → Place → List Frame → Result Signal → Result Signal
through at p [] r = r
through at p (f ∷ fs) r = after (at (below fs p)) f (through at p fs r)

-- what is done now
abbrev pub doing : Context → Now → World → Result Signal
doing c (pending.Eval e) w = valued (eval c e w)
doing c (pending.Exec s) w = left (exec c s w)
doing c (pending.Run items) w = left (exec_items c items w)
doing c (pending.Value v) w = Gives (Value v) w
doing c (pending.Left flow) w = Gives (Left flow) w
doing c (pending.Returned v) w = Returns v w
doing c (pending.Ended e) w = Ends e w.shared
doing c pending.Stopped w = Stops w.shared

-- the code of a tick, with no variable in scope
abbrev pub ticked : Context → Option Tick → World → Result Signal
ticked c None w = Gives (Value 0) w
ticked c (Some (OfExpression e)) w = valued (eval c e w)
ticked c (Some (OfStatement s)) w = left (exec c s w)

-- it is done once units were spent
abbrev pub once : Result Flow → (World → Result Signal) → Result Signal
once (Gives flow w) next = next w
once (Returns v w) next = Returns v w
once (Ends e shared) next = Ends e shared
once (Stops shared) next = Stops shared

-- a unit is spent first, and then it is done
abbrev pub spent : Context → (units : ℕ) → Now → World → Result Signal
spent c zero n w = Stops w.shared
spent c (suc units) n w = doing c n (record w { units = units })

-- a run from within: the active body, what outlives a call, the units that are left, how many calls more may be active,
-- and what is pending, the innermost last
pub record State : Type 0 where
  pub body : Body
  pub shared : Shared
  pub units : ℕ
  pub depth : ℕ
  pub frames : List Frame

abbrev pub place_of : State → Place
place_of s = record { depth = s.depth; object = s.body.object; captures = s.body.captures }

abbrev pub world_of : State → World
world_of s = record {
  variables = s.body.variables;
  arguments = s.body.arguments;
  generated = s.body.generated;
  shared = s.shared;
  units = s.units;
}

-- what a result now leads to in the end
abbrev pub leads : Program → (turns : ℕ) → State → Result Signal → Result Signal
leads program turns s r = through (context_at program turns) (place_of s) s.frames r

-- the outcome of a run from within
abbrev pub outcome : Program → (turns : ℕ) → Now → State → Result Signal
outcome program turns n s = leads program turns s (doing (context_at program turns (place_of s)) n (world_of s))
