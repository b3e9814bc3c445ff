-- The value of an expression, by cases on typed nodes: operands from left to right, a place before the value that it
-- gets,
-- and a unit of work for each node but Comma, Void and Splice, once its thing has been done; that of a Capture is the
-- capture's. These are this project's own rules on the order of evaluation and on work; what the operators do is C's.
use Rattle.std.specs.Prelude.{ℕ, zero, suc, ◌+◌, ◌%◌, List, [], ◌∷◌, length}
use Rattle.word32.specs.Parts.{narrowed}
use Rattle.word32.specs.Words.{sum}
use Rattle.word32.specs.declared.width.Width.{Width}
use Rattle.host_edge.specs.declared.ending.Ending.TheVariants.{Done}
use Rattle.history.specs.Syntax.{Captures, Word, Named, Spliced}
use Rattle.history.specs.Events.{Ended, ReadFault}
use Rattle.icode_ops.specs.declared.kind.BinKind.{BinKind}
use Rattle.meaning_state.specs.Operators.{bin_value, bin_trap, un_value}
use Rattle.meaning_state.specs.Shared.{Local, byte_answer, put_byte, put_number, Read, Got, Failed, get_byte}
use Rattle.meaning_state.specs.Shared.{access_trap, loaded, stored, frame_start, malloc_answer, malloc}
use Rattle.typed_tree.specs.declared.expression.Answer.{Answer}
use Rattle.typed_tree.specs.declared.expression.Answer.TheVariants as answer
use Rattle.typed_tree.specs.declared.expression.Library.TheVariants.{Putchar, Putint, Exit, Malloc}
use Rattle.typed_tree.specs.Nodes as node
use Rattle.typed_tree.specs.Nodes.{Expr, Const, Captured, Var, SetVar, PostVar, VGet, VSet, VPost, Frame, Load, Store}
use Rattle.typed_tree.specs.Nodes.{Modify, Post, Bin, Un, And, Or, Cond, Comma, Void, Call, CallNumber, Getchar, Lib}
use Rattle.typed_tree.specs.Nodes.{Tick, Capture, Splice, Compile, ParamOf, Args, NoArg, Arg}
use Rattle.staged_meaning.specs.Program.{Program, callee_at, call_trap}
use Rattle.staged_meaning.specs.Specifications.{kinds_of, specify, specify_tick, specify_parameter, compile_number}
use Rattle.staged_meaning.specs.World.{World, Result, Gives, Ends, then_do, spend, with_variable, with_generated}
use Rattle.staged_meaning.specs.World.{with_shared, unless, at_zero}

-- What stands round an evaluation: the program; the calls of live functions by their numbers; how many turns a loop may
-- have, which is more than there are units; the bytes of the active function's frame objects; and in generated code
-- what the captures of its tick stand for, and the syntax that is spliced in by each.
pub record Context : Type 0 where
  pub program : Program
  pub call : (function : ℕ) → List ℕ → World → Result ℕ
  pub turns : ℕ
  pub object : ℕ
  pub captures : Captures
  pub splice : (capture : ℕ) → World → Result ℕ

-- ---- captures in generated code

abbrev pub word_of : Captures → (capture : ℕ) → ℕ
word_of (Word word captures) zero = word
word_of (Word word captures) (suc i) = word_of captures i
word_of (Named key captures) (suc i) = word_of captures i
word_of (Spliced syntax captures) (suc i) = word_of captures i
word_of _ i = 0

abbrev pub key_of : Captures → (capture : ℕ) → ℕ
key_of (Named key captures) zero = key
key_of (Word word captures) (suc i) = key_of captures i
key_of (Named key captures) (suc i) = key_of captures i
key_of (Spliced syntax captures) (suc i) = key_of captures i
key_of _ i = 0

-- ---- objects in memory

abbrev pub load_at : Width → (at : ℕ) → World → Result ℕ
load_at width at w = unless (access_trap at width) w (spend (loaded at width w.shared) w)

-- a value is stored, and another one is left
abbrev pub stored_with : Width → (at value left : ℕ) → World → Result ℕ
stored_with width at value left w = spend left (with_shared (stored at width value w.shared) w)

abbrev pub store_at : Width → (at value : ℕ) → World → Result ℕ
store_at width at value w = unless (access_trap at width) w (stored_with width at value value w)

-- an operator on the value that stood there before its second operand was evaluated
abbrev pub modify_at : Width → BinKind → (at old value : ℕ) → World → Result ℕ
modify_at width kind at old value w =
    let new = narrowed width (bin_value kind old value) in
    unless (bin_trap kind old value) w (stored_with width at new new w)

abbrev pub post_at : Width → (step at : ℕ) → World → Result ℕ
post_at width step at w =
    let old = loaded at width w.shared in
    unless (access_trap at width) w (stored_with width at (narrowed width (sum old step)) old w)

-- ---- what the input answered

abbrev pub answered : Read → World → Result ℕ
answered (Got x shared) w = spend x (with_shared shared w)
answered Failed w = Ends ReadFault w.shared

-- ---- calls: of a function without a value nothing is left, which is told as 0

abbrev pub left_by : Answer → ℕ → ℕ
left_by answer.Value v = v
left_by answer.Void v = 0

abbrev pub call_numbered : Context → Answer → (function : ℕ) → List ℕ → World → Result ℕ
call_numbered c answer function arguments w =
    unless (call_trap (callee_at c.program w.shared.bodies function) (length arguments)) w
    (then_do (c.call function arguments w) (λ v w. spend (left_by answer v) w))

-- ---- expressions

abbrev mutual
  -- an expression's value; without one, 0
  pub eval : Context → Expr → World → Result ℕ
  eval c (Const word) w = spend word w
  eval c (Captured kind i) w = spend (word_of c.captures i) w
  eval c (Var i) w = spend (w.variables i) w
  eval c (SetVar i a) w = then_do (eval c a w) (λ v w. spend v (with_variable i v w))
  eval c (PostVar i width step) w =
      spend (w.variables i) (with_variable i (narrowed width (sum (w.variables i) step)) w)
  eval c (VGet i) w = spend (w.generated (key_of c.captures i)) w
  eval c (VSet i a) w = then_do (eval c a w) (λ v w. spend v (with_generated (key_of c.captures i) v w))
  eval c (VPost i step) w =
      spend (w.generated (key_of c.captures i))
      (with_generated (key_of c.captures i) (sum (w.generated (key_of c.captures i)) step) w)
  eval c (Frame offset) w = spend (frame_start c.object w.shared + offset) w
  eval c (Load width a) w = then_do (eval c a w) (load_at width)
  eval c (Store width a b) w = then_do (eval c a w) (λ at w. then_do (eval c b w) (store_at width at))
  eval c (Modify width kind a b) w =
      then_do (eval c a w)
      (λ at w. unless (access_trap at width) w
      (then_do (eval c b w) (modify_at width kind at (loaded at width w.shared))))
  eval c (Post width step a) w = then_do (eval c a w) (post_at width step)
  eval c (Bin kind a b) w =
      then_do (eval c a w) (λ x w. then_do (eval c b w)
      (λ y w. unless (bin_trap kind x y) w (spend (bin_value kind x y) w)))
  eval c (Un kind a) w = then_do (eval c a w) (λ x w. spend (un_value kind x) w)
  eval c (And a b) w =
      then_do (eval c a w)
      (λ x w. at_zero x (spend 0 w) (then_do (eval c b w) (λ y w. at_zero y (spend 0 w) (spend 1 w))))
  eval c (Or a b) w =
      then_do (eval c a w)
      (λ x w. at_zero x (then_do (eval c b w) (λ y w. at_zero y (spend 0 w) (spend 1 w))) (spend 1 w))
  eval c (Cond test first second) w =
      then_do (eval c test w)
      (λ v w. at_zero v (then_do (eval c second w) spend) (then_do (eval c first w) spend))
  eval c (Comma a b) w = then_do (eval c a w) (λ x w. eval c b w)
  eval c (Void a) w = then_do (eval c a w) (λ x w. Gives 0 w)
  eval c (Call answer f args) w =
      then_do (eval_args c args w) (λ vs w. then_do (c.call f vs w) (λ v w. spend (left_by answer v) w))
  eval c (CallNumber answer a args) w =
      then_do (eval c a w) (λ f w. then_do (eval_args c args w) (call_numbered c answer f))
  eval c Getchar w = answered (get_byte w.shared) w
  eval c (Lib Putchar a) w =
      then_do (eval c a w) (λ v w. spend (byte_answer v) (with_shared (put_byte v w.shared) w))
  eval c (Lib Putint a) w = then_do (eval c a w) (λ v w. spend 0 (with_shared (put_number v w.shared) w))
  eval c (Lib Exit a) w = then_do (eval c a w) (λ v w. Ends (Ended (Done (v % 256))) w.shared)
  eval c (Lib Malloc a) w =
      then_do (eval c a w) (λ v w. spend (malloc_answer v w.shared) (with_shared (malloc v w.shared) w))
  eval c (Tick tick args) w = then_do (eval_args c args w) (specify_tick c.program tick (kinds_of args))
  eval c (Capture kind a) w = then_do (eval c a w) spend
  eval c (Splice answer i) w = then_do (c.splice i w) (λ v w. Gives (left_by answer v) w)
  eval c (Compile a) w = then_do (eval c a w) (compile_number c.program)
  eval c node.Local w = specify Local 0 w
  eval c (ParamOf a) w = then_do (eval c a w) specify_parameter

  -- the values of arguments, or the words of captures
  pub eval_args : Context → Args → World → Result (List ℕ)
  eval_args c NoArg w = Gives [] w
  eval_args c (Arg a args) w = then_do (eval c a w) (λ v w. then_do (eval_args c args w) (λ vs w. Gives (v ∷ vs) w))
