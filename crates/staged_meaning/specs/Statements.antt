-- What a statement does: variables are set to 0 as their block is entered, at a unit a variable and a word of an
-- object; a loop's turn spends a unit at its end; and the labels of a switch are compared in the order of the text, at
-- a unit each, up to the one that matches. These are this project's own rules; what the statements do is C's.
use Rattle.std.specs.Prelude.{ℕ, zero, suc, ◌+◌, nat_eq, if◌then◌else◌, List, [], ◌∷◌, Option, Some, None}
use Rattle.word32.specs.Parts.{narrowed}
use Rattle.word32.specs.declared.width.Width.{Width}
use Rattle.meaning_state.specs.Shared.{stored, frame_start}
use Rattle.typed_tree.specs.Nodes.{Stmt, Eval, Block, Variable, Object, Parameter, ParameterObject, If, IfElse, While}
use Rattle.typed_tree.specs.Nodes.{Do, For, ForStep, Switch, Case, Default, Break, Continue, Return, ReturnValue, Items}
use Rattle.typed_tree.specs.Nodes.{NoItem, Item}
use Rattle.staged_meaning.specs.Expressions.{Context, eval}
use Rattle.staged_meaning.specs.World.{World, Result, Gives, Returns, Stops, Flow, Normal, Broke, Continued, then_do}
use Rattle.staged_meaning.specs.World.{spend, with_variable, with_shared, at_zero, clear_words}

-- goes on after a statement that was left by its end
abbrev pub then_next : (World → Result Flow) → Flow → World → Result Flow
then_next next Normal w = next w
then_next next Broke w = Gives Broke w
then_next next Continued w = Gives Continued w

-- ---- loops

-- the end of a loop's turn, which spends a unit: a break ends the loop
abbrev pub turn_end : (World → Result Flow) → Flow → World → Result Flow
turn_end next Normal w = then_do (spend Normal w) (λ flow w. next w)
turn_end next Broke w = spend Normal w
turn_end next Continued w = then_do (spend Normal w) (λ flow w. next w)

-- a loop's turns, fewer than d, each with the test first
abbrev pub turns : ℕ → (World → Result ℕ) → (World → Result Flow) → World → Result Flow
turns zero test body w = Stops w.shared
turns (suc d) test body w =
    then_do (test w) (λ v w. at_zero v (Gives Normal w) (then_do (body w) (turn_end (turns d test body))))

-- the test at a turn's end, behind which the turn's unit is spent; a continue ends the turn before it
abbrev pub round_end : (World → Result ℕ) → (World → Result Flow) → Flow → World → Result Flow
round_end test next Broke w = spend Normal w
round_end test next Continued w =
    then_do (spend Normal w) (λ flow w. then_do (test w) (λ v w. at_zero v (Gives Normal w) (next w)))
round_end test next flow w =
    then_do (test w) (λ v w. then_do (spend Normal w) (λ flow w. at_zero v (Gives Normal w) (next w)))

-- a loop's turns, each with the test last
abbrev pub rounds : ℕ → (World → Result Flow) → (World → Result ℕ) → World → Result Flow
rounds zero body test w = Stops w.shared
rounds (suc d) body test w = then_do (body w) (round_end test (rounds d body test))

-- the step of a loop, which a break leaves out
abbrev pub stepped : (World → Result ℕ) → Flow → World → Result Flow
stepped step Broke w = Gives Broke w
stepped step flow w = then_do (step w) (λ v w. Gives Normal w)

-- ---- switches

-- a break ends a switch, and a continue goes on to the loop round it
abbrev pub switch_end : Flow → World → Result Flow
switch_end Continued w = Gives Continued w
switch_end flow w = Gives Normal w

abbrev pub case_of : Stmt → Option ℕ
case_of (Case value) = Some value
case_of _ = None

-- a label is compared with the switch's value: the items behind it, or the next labels
abbrev pub on_case : Option ℕ → ℕ → (behind next : World → Result Flow) → World → Result Flow
on_case None v behind next w = next w
on_case (Some value) v behind next w =
    then_do (spend Normal w) (λ flow w. if nat_eq v value then behind w else next w)

abbrev pub on_default : Stmt → (behind next : World → Result Flow) → World → Result Flow
on_default Default behind next w = behind w
on_default _ behind next w = next w

-- ---- parameters

-- the argument of a number
abbrev pub argument : List ℕ → ℕ → ℕ
argument [] k = 0
argument (v ∷ vs) zero = v
argument (v ∷ vs) (suc k) = argument vs k

-- a parameter is converted to its width as the function is entered
abbrev pub passed : ℕ → Width → World → ℕ
passed k width w = narrowed width (argument w.arguments k)

-- ---- statements

abbrev mutual
  pub exec : Context → Stmt → World → Result Flow
  exec c (Eval e) w = then_do (eval c e w) (λ v w. Gives Normal w)
  exec c (Block variables items) w = then_do (exec_items c variables w) (then_next (exec_items c items))
  exec c (Variable i) w = spend Normal (with_variable i 0 w)
  exec c (Object offset words) w = clear_words words (frame_start c.object w.shared + offset) w
  exec c (Parameter k width) w = Gives Normal (with_variable k (passed k width w) w)
  exec c (ParameterObject k width offset) w =
      Gives Normal (with_shared (stored (frame_start c.object w.shared + offset) width (passed k width w) w.shared) w)
  exec c (If e s) w = then_do (eval c e w) (λ v w. at_zero v (Gives Normal w) (exec c s w))
  exec c (IfElse e s t) w = then_do (eval c e w) (λ v w. at_zero v (exec c t w) (exec c s w))
  exec c (While e s) w = turns c.turns (eval c e) (exec c s) w
  exec c (Do s e) w = rounds c.turns (exec c s) (eval c e) w
  exec c (For e s) w = turns c.turns (eval c e) (exec c s) w
  exec c (ForStep e step s) w =
      turns c.turns (eval c e) (λ w. then_do (exec c s w) (stepped (eval c step))) w
  exec c (Switch e variables items) w =
      then_do (eval c e w)
      (λ v w. then_do (exec_items c variables w)
      (then_next (λ w. then_do (exec_cases c v (exec_default c items) items w) switch_end)))
  exec c (Case value) w = Gives Normal w
  exec c Default w = Gives Normal w
  exec c Break w = Gives Broke w
  exec c Continue w = Gives Continued w
  exec c Return w = Returns 0 w
  exec c (ReturnValue e) w = then_do (eval c e w) (λ v w. Returns v w)

  pub exec_items : Context → Items → World → Result Flow
  exec_items c NoItem w = Gives Normal w
  exec_items c (Item s items) w = then_do (exec c s w) (then_next (exec_items c items))

  -- the items behind the first label that matches, and else what is done in their place
  pub exec_cases : Context → ℕ → (otherwise : World → Result Flow) → Items → World → Result Flow
  exec_cases c v otherwise NoItem w = otherwise w
  exec_cases c v otherwise (Item s items) w =
      on_case (case_of s) v (exec_items c items) (exec_cases c v otherwise items) w

  -- the items behind the default, if there is one
  pub exec_default : Context → Items → World → Result Flow
  exec_default c NoItem w = Gives Normal w
  exec_default c (Item s items) w = on_default s (exec_items c items) (exec_default c items) w
