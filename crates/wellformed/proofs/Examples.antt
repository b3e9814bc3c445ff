-- What the definitions say of single calls, in a program of two functions: the first has two parameters, the second
-- none.
use Rattle.std.proofs.Common.{◌≡◌, true, false, refl, [], ◌∷◌, None}
use Rattle.typed_tree.specs.declared.expression.Answer.TheVariants as answer
use Rattle.typed_tree.specs.Nodes.{Expr, Args, Const, Call, CallNumber, NoArg, Arg, fold_expr}
use Rattle.wellformed.specs.Places.{Around, expr_rule}

abbrev round : Around
round =
    record {
      variables = [];
      object = 0;
      functions = 2 ∷ 0 ∷ [];
      ticks = [];
      captures = None;
      in_loop = false;
      in_switch = false;
    }

abbrev two : Args
two = Arg (Const 1) (Arg (Const 2) NoArg)

-- seven arguments more
abbrev seven : Args → Args
seven args =
    Arg (Const 3) (Arg (Const 4) (Arg (Const 5) (Arg (Const 6) (Arg (Const 7) (Arg (Const 8) (Arg (Const 9) args))))))

as_many : (fold_expr expr_rule (Call answer.Value 1 two)).stands round ≡ true
as_many = refl

none : (fold_expr expr_rule (Call answer.Value 2 NoArg)).stands round ≡ true
none = refl

too_few : (fold_expr expr_rule (Call answer.Value 1 NoArg)).stands round ≡ false
too_few = refl

too_many : (fold_expr expr_rule (Call answer.Value 2 two)).stands round ≡ false
too_many = refl

no_function : (fold_expr expr_rule (Call answer.Value 3 NoArg)).stands round ≡ false
no_function = refl

by_number : (fold_expr expr_rule (CallNumber answer.Value (Const 2) two)).stands round ≡ true
by_number = refl

nine_by_number : (fold_expr expr_rule (CallNumber answer.Value (Const 2) (seven two))).stands round ≡ false
nine_by_number = refl
