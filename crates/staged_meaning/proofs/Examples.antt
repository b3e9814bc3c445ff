-- Small programs, computed: what they put out and how they end, within so many units of work.
use Rattle.std.proofs.Common.{◌≡◌, [], ◌∷◌, Some, None, false, refl}
use Rattle.host_edge.specs.declared.ending.Ending.TheVariants.{Done}
use Rattle.icode_ops.specs.declared.kind.BinKind.TheVariants.{Add, LessSigned, Subtract}
use Rattle.history.specs.Events.{Out, Ended, Input}
use Rattle.typed_tree.specs.Nodes.{Const, Var, SetVar, Bin, Lib, Stmt, Eval, Block, Variable, IfElse, While, Do}
use Rattle.typed_tree.specs.Nodes.{Continue, ReturnValue, Items, NoItem, Item, Function}
use Rattle.typed_tree.specs.declared.expression.Library.TheVariants.{Putchar}
use Rattle.staged_meaning.specs.Size.{size_of}
use Rattle.staged_meaning.specs.Meaning.{Program, meant}

no_input : Input
no_input = record { bytes = []; failing = false }

abbrev main_of : Stmt → Program
main_of body = let main : Function = record { parameters = 0; object = 0; body = body } in
    record { main = main; functions = main ∷ []; ticks = []; image = [] }

abbrev two : Stmt → Stmt → Items
two a b = Item a (Item b NoItem)

-- int main(){putchar(72);putchar(10);return 3;}
abbrev hello : Program
hello = main_of (Block NoItem
    (Item (Eval (Lib Putchar (Const 72))) (two (Eval (Lib Putchar (Const 10))) (ReturnValue (Const 3)))))

hello_has_nine_nodes : size_of hello.main ≡ 9
hello_has_nine_nodes = refl

hello_ends_with_three : meant hello no_input 6 ≡ record
    { history = Out 72 ∷ Out 10 ∷ []; ending = Some (Ended (Done 3)) }
hello_ends_with_three = refl

hello_stops_with_five : meant hello no_input 5 ≡ record { history = Out 72 ∷ Out 10 ∷ []; ending = None }
hello_stops_with_five = refl

hello_stops_with_three : meant hello no_input 3 ≡ record { history = Out 72 ∷ []; ending = None }
hello_stops_with_three = refl

-- int main(){int i;i=0;while(i<3){putchar(65+i);i=i+1;}return i;}
abbrev counting : Program
counting =
    main_of
    (Block (Item (Variable 0) NoItem)
    (Item (Eval (SetVar 0 (Const 0)))
    (two
    (While (Bin LessSigned (Var 0) (Const 3))
    (Block NoItem
    (two (Eval (Lib Putchar (Bin Add (Const 65) (Var 0)))) (Eval (SetVar 0 (Bin Add (Var 0) (Const 1)))))))
    (ReturnValue (Var 0)))))

counting_ends_with_three : meant counting no_input 100 ≡ record
    { history = Out 65 ∷ Out 66 ∷ Out 67 ∷ []; ending = Some (Ended (Done 3)) }
counting_ends_with_three = refl

-- int main(){do{continue;}while(putchar(65));}: behind the call's unit a turn's is the first of three
abbrev continuing : Program
continuing = main_of (Block NoItem (Item (Do (Block NoItem (Item Continue NoItem)) (Lib Putchar (Const 65))) NoItem))

a_continue_spends_before_the_test : meant continuing no_input 2 ≡ record { history = []; ending = None }
a_continue_spends_before_the_test = refl

the_test_comes_behind_it : meant continuing no_input 3 ≡ record { history = Out 65 ∷ []; ending = None }
the_test_comes_behind_it = refl

no_second_unit_is_spent : meant continuing no_input 6 ≡ record { history = Out 65 ∷ Out 65 ∷ []; ending = None }
no_second_unit_is_spent = refl

-- int main(){int i;if(i<1){putchar(65);}else{putchar(66);}return 0-1;}
abbrev choosing : Program
choosing =
    main_of
    (Block (Item (Variable 0) NoItem)
    (two
    (IfElse (Bin LessSigned (Var 0) (Const 1)) (Eval (Lib Putchar (Const 65))) (Eval (Lib Putchar (Const 66))))
    (ReturnValue (Bin Subtract (Const 0) (Const 1)))))

choosing_ends_with_255 : meant choosing no_input 100 ≡ record
    { history = Out 65 ∷ []; ending = Some (Ended (Done 255)) }
choosing_ends_with_255 = refl
