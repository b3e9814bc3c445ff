-- A small program seen from within, computed: what is still to come behind what is pending.
use Rattle.std.proofs.Common.{◌≡◌, ℕ, List, [], ◌∷◌, Some, None, false, refl}
use Rattle.word32.specs.declared.width.Width.TheVariants as width
use Rattle.host_edge.specs.declared.ending.Ending.TheVariants.{Done, Trap}
use Rattle.host_edge.specs.declared.ending.TrapKind.TheVariants.{DivideByZero}
use Rattle.history.specs.Syntax.{NoCapture}
use Rattle.history.specs.Events.{Item as Event, Out, End, Ended, Input}
use Rattle.icode_ops.specs.declared.kind.BinKind.TheVariants.{Add, DivideSigned}
use Rattle.pace.specs.Pace.{Seen}
use Rattle.typed_tree.specs.declared.expression.Answer.TheVariants as answer
use Rattle.typed_tree.specs.declared.expression.Library.TheVariants.{Putchar}
use Rattle.typed_tree.specs.Nodes.{Const, Var, Bin, Call, Lib, NoArg, Arg, Eval, Block, Parameter, ReturnValue, NoItem}
use Rattle.typed_tree.specs.Nodes.{Item, Function}
use Rattle.staged_meaning.specs.Meaning.{Program, meant}
use Rattle.staged_meaning.specs.World.{Normal}
use Rattle.eval_state.specs.Pending as pending
use Rattle.eval_state.specs.Pending.{Body, Frame, Now}
use Rattle.eval_state.specs.Rest.{outcome, context_at, spent}
use Rattle.eval_state.specs.Moves.{in_function, told, entered_main}

no_input : Input
no_input = record { bytes = []; failing = false }

-- int twice(int n){return n+n;}
abbrev twice : Function
twice = record {
  parameters = 1;
  object = 0;
  body = Block (Item (Parameter 0 width.Word) NoItem) (Item (ReturnValue (Bin Add (Var 0) (Var 0))) NoItem);
}

-- int main(){putchar(twice(33));return 3;}
abbrev main : Function
main = record {
  parameters = 0;
  object = 0;
  body =
      Block NoItem
      (Item (Eval (Lib Putchar (Call answer.Value 2 (Arg (Const 33) NoArg)))) (Item (ReturnValue (Const 3)) NoItem));
}

abbrev program : Program
program = record { main = main; functions = main ∷ twice ∷ []; ticks = []; image = [] }

-- a body whose variables are all of one value
abbrev body_of : (value : ℕ) → List ℕ → Body
body_of value arguments = record {
  variables = λ i. value;
  arguments = arguments;
  generated = λ key. 0;
  object = 0;
  captures = NoCapture;
}

-- what is seen in the end, where this is done now with so many units, in a body, behind these frames
abbrev ends : Now → (units : ℕ) → Body → List Frame → Seen Event End
ends n units body frames =
    told
    (outcome program 20 n
    (record {
      body = body;
      shared = (entered_main program no_input units).shared;
      units = units;
      depth = 20;
      frames =
          frames;
    }))

abbrev plain : Body
plain = body_of 0 []

-- main's return, behind a statement that is an expression
abbrev in_statement : List Frame → List Frame
in_statement frames = pending.Rest (Item (ReturnValue (Const 3)) NoItem) ∷ pending.Drop ∷ frames

-- the argument of a call is there, which pends under putchar
argument_is_passed : ends (pending.Value 33) 9 plain
    (in_statement (pending.Lib Putchar ∷ pending.Argument (pending.Direct answer.Value 2) NoArg [] ∷ []))
    ≡ record { history = Out 66 ∷ []; ending = Some (Ended (Done 3)) }
argument_is_passed = refl

-- twice is active: its nodes spend three units, its call, putchar and main's 3 one each
twice_is_active : ends (pending.Exec twice.body) 6 (body_of 0 (33 ∷ []))
    (in_statement (pending.Lib Putchar ∷ pending.Called answer.Value 0 plain ∷ []))
    ≡ record { history = Out 66 ∷ []; ending = Some (Ended (Done 3)) }
twice_is_active = refl

twice_stops_with_five : ends (pending.Exec twice.body) 5 (body_of 0 (33 ∷ []))
    (in_statement (pending.Lib Putchar ∷ pending.Called answer.Value 0 plain ∷ []))
    ≡ record { history = Out 66 ∷ []; ending = None }
twice_stops_with_five = refl

-- a trap in the midst of an expression drops all that is pending
trap_drops : ends (pending.Value 0) 9 plain
    (in_statement (pending.Lib Putchar ∷ pending.Second Add 1 ∷ pending.Second DivideSigned 1 ∷ []))
    ≡ record { history = []; ending = Some (Ended (Trap DivideByZero)) }
trap_drops = refl

-- a return drops what is pending in its function, and answers the call
return_drops : ends (pending.Returned 72) 9 plain
    (in_statement
    (pending.Lib Putchar ∷ pending.Called answer.Value 0 plain ∷ pending.Second Add 1 ∷ pending.Lib Putchar ∷ []))
    ≡ record { history = Out 72 ∷ []; ending = Some (Ended (Done 3)) }
return_drops = refl

-- a return in spliced code leaves the function that was compiled
spliced_return : ends (pending.Returned 72) 9 plain
    (in_statement (pending.Lib Putchar ∷ pending.Called answer.Value 0 plain ∷ pending.Spliced answer.Value
    (λ i. 5) 0 NoCapture ∷ []))
    ≡ record { history = Out 72 ∷ []; ending = Some (Ended (Done 3)) }
spliced_return = refl

-- behind spliced code the variables round it are back
spliced_end : ends (pending.Left Normal) 9 plain
    (pending.Rest (Item (ReturnValue (Var 4)) NoItem) ∷ pending.Drop ∷ pending.Spliced answer.Void
    (λ i. 5) 0 NoCapture ∷ [])
    ≡ record { history = []; ending = Some (Ended (Done 5)) }
spliced_end = refl

-- the whole program from its beginning
outcome_from_the_beginning :
    told (spent (context_at program 21 (in_function 20 0)) 20 (pending.Exec main.body)
    (entered_main program no_input 20))
    ≡ record { history = Out 66 ∷ []; ending = Some (Ended (Done 3)) }
outcome_from_the_beginning = refl

meaning_of_the_program : meant program no_input 20 ≡ record { history = Out 66 ∷ []; ending = Some (Ended (Done 3)) }
meaning_of_the_program = refl
