-- Small programs that make code, computed: what they put out, which functions they compile and enter, and how they end.
use Rattle.std.proofs.Common.{◌≡◌, [], ◌∷◌, Some, None, false, refl}
use Rattle.word32.specs.Parts as parts
use Rattle.word32.specs.declared.width.Width.TheVariants as width
use Rattle.host_edge.specs.declared.ending.Ending.TheVariants.{Done, Trap}
use Rattle.host_edge.specs.declared.ending.TrapKind.TheVariants.{BadCall, BadSpec, BadParam, FrameLimit, Range}
use Rattle.host_edge.specs.declared.ending.TrapKind.TheVariants.{Misaligned, DivideByZero, DivideOverflow}
use Rattle.icode_ops.specs.declared.kind.BinKind.TheVariants.{Add, DivideSigned}
use Rattle.history.specs.Syntax.{Syntax, Ticked, NoCapture, Word, Named, Spliced}
use Rattle.history.specs.Events.{Out, In, Made, Entered, Ended, Input}
use Rattle.typed_tree.specs.declared.expression.Answer.TheVariants as answer
use Rattle.typed_tree.specs.declared.expression.CaptureKind.TheVariants as kind
use Rattle.typed_tree.specs.declared.expression.CapturedWord.TheVariants as captured
use Rattle.typed_tree.specs.declared.expression.Library.TheVariants.{Putchar, Malloc}
use Rattle.typed_tree.specs.Nodes.{Expr, Const, Captured, Var, SetVar, VGet, VSet, Frame, Load, Store, Bin, Call}
use Rattle.typed_tree.specs.Nodes.{CallNumber, Getchar, Lib, Tick, Capture, Splice, Compile, Local, ParamOf, Args}
use Rattle.typed_tree.specs.Nodes.{NoArg, Arg, Stmt, Eval, Block, Variable, Object, Parameter, ParameterObject, Switch}
use Rattle.typed_tree.specs.Nodes.{Case, Default, Break, ReturnValue, Items, NoItem, Item, Function}
use Rattle.staged_meaning.specs.Meaning.{OfExpression, OfStatement, Program, meant}
use Rattle.staged_meaning.specs.Meaning as meaning
use Rattle.std.proofs.Common.{List}

abbrev no_input : Input
no_input = record { bytes = []; failing = false }

abbrev items : List Stmt → Items
items [] = NoItem
items (s ∷ list) = Item s (items list)

abbrev args : List Expr → Args
args [] = NoArg
args (e ∷ list) = Arg e (args list)

abbrev with_ticks : List Stmt → List Stmt → List meaning.Tick → Program
with_ticks variables list ticks =
    let main : Function = record { parameters = 0; object = 0; body = Block (items variables) (items list) } in
    record { main = main; functions = main ∷ []; ticks = ticks; image = [] }

-- ---- $x is read as the tick is evaluated

-- int main(){int x;int (*f)();void cspec c;x=5;c=`{return $x+1;};x=9;f=compile(c,int);putchar(f());return 0;}
abbrev dollar : Program
dollar =
    with_ticks (Variable 0 ∷ Variable 1 ∷ Variable 2 ∷ [])
    (Eval (SetVar 0 (Const 5))
    ∷ Eval (SetVar 2 (Tick 0 (args (Capture kind.Dollar (Var 0) ∷ []))))
    ∷ Eval (SetVar 0 (Const 9))
    ∷ Eval (SetVar 1 (Compile (Var 2)))
    ∷ Eval (Lib Putchar (CallNumber answer.Value (Var 1) NoArg))
    ∷ ReturnValue (Const 0)
    ∷ [])
    (OfStatement (Block NoItem (items (ReturnValue (Bin Add (Captured captured.Dollar 0) (Const 1)) ∷ []))) ∷ [])

dollar_is_read_at_specification : meant dollar no_input 28 ≡ record
    { history = Made 2 (Ticked 0 (Word 5 NoCapture)) ∷ Entered 2 ∷ Out 6 ∷ []; ending = Some (Ended (Done 0)) }
dollar_is_read_at_specification = refl

dollar_spends_28 : meant dollar no_input 27 ≡ record
    { history = Made 2 (Ticked 0 (Word 5 NoCapture)) ∷ Entered 2 ∷ Out 6 ∷ []; ending = None }
dollar_spends_28 = refl

-- the units of a compile come before its function
dollar_compiles_with_18 : meant dollar no_input 18 ≡ record
    { history = Made 2 (Ticked 0 (Word 5 NoCapture)) ∷ []; ending = None }
dollar_compiles_with_18 = refl

dollar_compiles_not_with_17 : meant dollar no_input 17 ≡ record { history = []; ending = None }
dollar_compiles_not_with_17 = refl

-- ---- one variable for all code that captured it

-- int main(){int vspec v;void cspec s;int (*f)();v=local(int);s=`{v=v+7;putchar(v);};f=compile(`{s;s;},int);f();return
-- 0;}
abbrev step : Syntax
step = Ticked 0 (Named 8 (Named 8 (Named 8 NoCapture)))

abbrev sharing : Program
sharing =
    with_ticks (Variable 0 ∷ Variable 1 ∷ Variable 2 ∷ [])
    (Eval (SetVar 0 Local)
    ∷ Eval (SetVar 1 (Tick 0 (args
    (Capture kind.Variable (Var 0) ∷ Capture kind.Variable (Var 0) ∷ Capture kind.Variable (Var 0) ∷ []))))
    ∷ Eval (SetVar 2 (Compile
    (Tick 1 (args (Capture (kind.Splice answer.Void) (Var 1) ∷ Capture (kind.Splice answer.Void) (Var 1) ∷ [])))))
    ∷ Eval (CallNumber answer.Value (Var 2) NoArg)
    ∷ ReturnValue (Const 0)
    ∷ [])
    (OfStatement (Block NoItem (items (Eval (VSet 0 (Bin Add (VGet 1) (Const 7))) ∷ Eval (Lib Putchar (VGet 2)) ∷ [])))
    ∷ OfStatement (Block NoItem (items (Eval (Splice answer.Void 0) ∷ Eval (Splice answer.Void 1) ∷ [])))
    ∷ [])

sharing_writes_7_and_14 : meant sharing no_input 1000 ≡ record {
  history = Made 2 (Ticked 1 (Spliced step (Spliced step NoCapture))) ∷ Entered 2 ∷ Out 7 ∷ Out 14 ∷ [];
  ending =
      Some (Ended (Done 0));
}
sharing_writes_7_and_14 = refl

-- with {int t;t=t+7;putchar(t);} for the body of s, each occurrence has its own t
abbrev apart : Program
apart =
    with_ticks (Variable 0 ∷ Variable 1 ∷ [])
    (Eval (SetVar 0 (Tick 0 NoArg))
    ∷ Eval (SetVar 1 (Compile
    (Tick 1 (args (Capture (kind.Splice answer.Void) (Var 0) ∷ Capture (kind.Splice answer.Void) (Var 0) ∷ [])))))
    ∷ Eval (CallNumber answer.Value (Var 1) NoArg)
    ∷ ReturnValue (Const 0)
    ∷ [])
    (OfStatement (Block (items (Variable 0 ∷ []))
    (items (Eval (SetVar 0 (Bin Add (Var 0) (Const 7))) ∷ Eval (Lib Putchar (Var 0)) ∷ [])))
    ∷ OfStatement (Block NoItem (items (Eval (Splice answer.Void 0) ∷ Eval (Splice answer.Void 1) ∷ [])))
    ∷ [])

apart_writes_7_twice : meant apart no_input 1000 ≡ record {
  history = Made 2 (Ticked 1 (Spliced (Ticked 0 NoCapture) (Spliced (Ticked 0 NoCapture) NoCapture))) ∷ Entered 2 ∷
      Out 7 ∷ Out 7 ∷ [];
  ending = Some (Ended (Done 0));
}
apart_writes_7_twice = refl

-- ---- parameters, and calls by number

-- int main(){int vspec v;int (*f)();v=param(int,0);f=compile(`v,int);return f(..);}
abbrev passing : Args → Program
passing given =
    with_ticks (Variable 0 ∷ Variable 1 ∷ [])
    (Eval (SetVar 0 (ParamOf (Const 0)))
    ∷ Eval (SetVar 1 (Compile (Tick 0 (args (Capture kind.Variable (Var 0) ∷ [])))))
    ∷ ReturnValue (CallNumber answer.Value (Var 1) given)
    ∷ [])
    (OfExpression (VGet 0) ∷ [])

one_argument_is_answered : meant (passing (args (Const 41 ∷ []))) no_input 100 ≡ record
    { history = Made 2 (Ticked 0 (Named 0 NoCapture)) ∷ Entered 2 ∷ []; ending = Some (Ended (Done 41)) }
one_argument_is_answered = refl

two_arguments_are_a_bad_call : meant (passing (args (Const 1 ∷ Const 2 ∷ []))) no_input 100 ≡ record
    { history = Made 2 (Ticked 0 (Named 0 NoCapture)) ∷ []; ending = Some (Ended (Trap BadCall)) }
two_arguments_are_a_bad_call = refl

-- int main(){param(int,8);return 0;}
a_ninth_parameter_is_bad : meant (with_ticks [] (Eval (ParamOf (Const 8)) ∷ ReturnValue (Const 0) ∷ []) []) no_input 100
    ≡ record { history = []; ending = Some (Ended (Trap BadParam)) }
a_ninth_parameter_is_bad = refl

-- int main(){int cspec c;c=`(c+1);return 0;}
nothing_is_a_bad_specification : meant
    (with_ticks (Variable 0 ∷ [])
    (Eval (SetVar 0 (Tick 0 (args (Capture (kind.Splice answer.Value) (Var 0) ∷ [])))) ∷ ReturnValue (Const 0) ∷ [])
    (OfExpression (Bin Add (Splice answer.Value 0) (Const 1)) ∷ [])) no_input 100 ≡ record
    { history = []; ending = Some (Ended (Trap BadSpec)) }
nothing_is_a_bad_specification = refl

-- ---- frame objects, whose bytes stay readable

-- void cspec mk(){int x;x=5;return `{return x;};}int g(){int y;int *p;p=&y;*p=8;return 0;}
-- int main(){void cspec c;int (*f)();c=mk();f=compile(c,int);g();putchar(f());return 0;}
abbrev maker : Function
maker = record {
  parameters = 0;
  object = 4;
  body =
      Block (items (Object 0 1 ∷ []))
      (items (Eval (Store width.Word (Frame 0) (Const 5)) ∷ ReturnValue
      (Tick 0 (args (Capture kind.Address (Frame 0) ∷ []))) ∷ []));
}

abbrev setter : Function
setter = record {
  parameters = 0;
  object = 4;
  body =
      Block (items (Object 0 1 ∷ Variable 0 ∷ []))
      (items (Eval (SetVar 0 (Frame 0)) ∷ Eval (Store width.Word (Var 0) (Const 8)) ∷ ReturnValue (Const 0) ∷ []));
}

abbrev reader : Function
reader = record {
  parameters = 0;
  object = 0;
  body =
      Block (items (Variable 0 ∷ Variable 1 ∷ []))
      (items (Eval (SetVar 0 (Call answer.Value 1 NoArg)) ∷ Eval (SetVar 1 (Compile (Var 0))) ∷ Eval
      (Call answer.Value 2 NoArg) ∷ Eval (Lib Putchar (CallNumber answer.Value (Var 1) NoArg)) ∷ ReturnValue (Const 0) ∷
      []));
}

abbrev dead_frame : Program
dead_frame = record {
  main = reader;
  functions = maker ∷ setter ∷ reader ∷ [];
  ticks =
      OfStatement (Block NoItem (items (ReturnValue (Load width.Word (Captured captured.Address 0)) ∷ []))) ∷ [];
  image =
      [];
}

dead_frame_writes_8 : meant dead_frame no_input 1000 ≡ record
    { history = Made 4 (Ticked 0 (Word 281018368 NoCapture)) ∷ Entered 4 ∷ Out 8 ∷ []; ending = Some (Ended (Done 0)) }
dead_frame_writes_8 = refl

-- a function of 4,194,304 bytes of objects is called from one that has four
abbrev large : Function
large = record { parameters = 0; object = 4194304; body = Block NoItem NoItem }

abbrev caller : Function
caller = record {
  parameters = 0;
  object = 4;
  body =
      Block NoItem (items (ReturnValue (Call answer.Value 1 NoArg) ∷ []));
}

frames_are_limited : meant (record { main = caller; functions = large ∷ caller ∷ []; ticks = []; image = [] }) no_input
    100 ≡ record { history = []; ending = Some (Ended (Trap FrameLimit)) }
frames_are_limited = refl

-- a narrow parameter is converted: int f(char c){return c;} with 300, and the same in a frame object
abbrev narrow : Stmt → Expr → Program
narrow head value =
    let f : Function = record
    { parameters = 1; object = 4; body = Block (items (head ∷ [])) (items (ReturnValue value ∷ [])) } in
    let main : Function = record {
      parameters = 0;
      object = 0;
      body =
          Block NoItem (items (ReturnValue (Call answer.Value 1 (args (Const 300 ∷ []))) ∷ []));
    } in
    record { main = main; functions = f ∷ main ∷ []; ticks = []; image = [] }

a_narrow_parameter_is_converted : meant (narrow (Parameter 0 width.SignedByte) (Var 0)) no_input 100 ≡ record
    { history = []; ending = Some (Ended (Done 44)) }
a_narrow_parameter_is_converted = refl

a_parameter_object_is_stored : meant (narrow (ParameterObject 0 width.SignedByte 0) (Load width.SignedByte (Frame 0)))
    no_input 100 ≡ record { history = []; ending = Some (Ended (Done 44)) }
unfolding parts.byte_of parts.with_byte
a_parameter_object_is_stored = refl

-- ---- traps

abbrev returning : Expr → Program
returning e = with_ticks [] (Eval (Lib Putchar (Const 65)) ∷ ReturnValue e ∷ []) []

division_by_zero : meant (returning (Bin DivideSigned (Const 1) (Const 0))) no_input 100 ≡ record
    { history = Out 65 ∷ []; ending = Some (Ended (Trap DivideByZero)) }
division_by_zero = refl

division_overflow : meant (returning (Bin DivideSigned (Const 2147483648) (Const 4294967295))) no_input 100 ≡ record
    { history = Out 65 ∷ []; ending = Some (Ended (Trap DivideOverflow)) }
division_overflow = refl

outside_of_objects : meant (returning (Load width.Word (Const 536870913))) no_input 100 ≡ record
    { history = Out 65 ∷ []; ending = Some (Ended (Trap Range)) }
outside_of_objects = refl

not_aligned : meant (returning (Load width.Word (Const 268435457))) no_input 100 ≡ record
    { history = Out 65 ∷ []; ending = Some (Ended (Trap Misaligned)) }
not_aligned = refl

-- ---- the library and switch

-- int main(){switch(getchar()){case 66:putchar(1);case 65:putchar(2);break;default:putchar(3);}return
-- malloc(8388609)==0;}
abbrev switching : Program
switching =
    with_ticks []
    (Switch Getchar NoItem
    (items (Case 66 ∷ Eval (Lib Putchar (Const 1)) ∷ Case 65 ∷ Eval (Lib Putchar (Const 2)) ∷ Break ∷ Default ∷ Eval
    (Lib Putchar (Const 3)) ∷ []))
    ∷ ReturnValue (Lib Malloc (Const 8388609))
    ∷ [])
    []

abbrev given : Input
given = record { bytes = 65 ∷ []; failing = false }

the_second_case_matches : meant switching given 100 ≡ record
    { history = In 65 ∷ Out 2 ∷ []; ending = Some (Ended (Done 0)) }
the_second_case_matches = refl

-- the call, getchar and two labels are four units; then putchar's two, and two behind it
two_labels_are_compared : meant switching given 7 ≡ record { history = In 65 ∷ Out 2 ∷ []; ending = None }
two_labels_are_compared = refl

eight_units_suffice : meant switching given 8 ≡ record { history = In 65 ∷ Out 2 ∷ []; ending = Some (Ended (Done 0)) }
eight_units_suffice = refl

the_default_is_taken : meant switching no_input 100 ≡ record
    { history = In 4294967295 ∷ Out 3 ∷ []; ending = Some (Ended (Done 0)) }
the_default_is_taken = refl
