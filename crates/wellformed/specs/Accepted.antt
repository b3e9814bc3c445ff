-- What is known of the typed tree of an accepted text: its nodes stand right, its sizes and its frame objects are those
-- of its functions and ticks, and it is not too large. These are this project's own rules.
use Rattle.std.specs.Prelude.{◌≡◌, ℕ, ◌+◌, ◌*◌, ◌<◌, ◌≤◌, IsTrue, false, nat_lt, List, [], length, map, sum, codes}
use Rattle.std.specs.Prelude.{slice_get, Some, None}
use Rattle.typed_tree.specs.declared.expression.CaptureKind.{CaptureKind}
use Rattle.typed_tree.specs.declared.expression.Stmt.{Stmt}
use Rattle.typed_tree.specs.declared.program.Function.{Function}
use Rattle.typed_tree.specs.declared.program.Tick.{Tick}
use Rattle.typed_tree.specs.declared.program.TickBody.{TickBody}
use Rattle.typed_tree.specs.declared.program.TickBody.TheVariants as body
use Rattle.typed_tree.specs.declared.program.TypedParts.{TypedParts}
use Rattle.typed_tree.specs.Sizes.{statement_size, body_size}
use Rattle.wellformed.specs.Captured.{named_in}
use Rattle.wellformed.specs.Counts.{one_if, objects_at, declarations_of}
use Rattle.wellformed.specs.Places.{Around, stands_as_body, stands_as_tick}
use Rattle.wellformed.specs.Values.{uses_values, body_uses_values}
use Rattle.limits.specs.declared.program.TheConstants.{CHARGE_LIMIT, FRAME_OBJECT_BYTES, FRONT_WORDS, MOST_ARGUMENTS}
use Rattle.limits.specs.declared.program.TheConstants.{SIZE_LIMIT, WORDS_OF_A_BODY, WORDS_OF_A_NODE}
use Rattle.word32.specs.declared.map.TheConstants.{GLOBAL_BYTES}

abbrev pub count_parameters : Function → ℕ
count_parameters f = f.params

-- how many parameters each function has
abbrev pub parameters_of : List Function → List ℕ
parameters_of fs = map (λ f. count_parameters f) fs

-- what is round the body of a function, and round that of a tick
abbrev pub round_function : TypedParts → List (List CaptureKind) → Function → Around
round_function p ticks f =
    record {
      variables = [];
      object = f.object;
      functions = parameters_of p.functions;
      ticks = ticks;
      captures = None;
      in_loop = false;
      in_switch = false;
    }

abbrev pub round_tick : TypedParts → List (List CaptureKind) → List CaptureKind → Around
round_tick p ticks kinds =
    record {
      variables = [];
      object = 0;
      functions = parameters_of p.functions;
      ticks = ticks;
      captures = Some kinds;
      in_loop = false;
      in_switch = false;
    }

-- each register variable is declared once, and its number is less than the size
pub record AreNumbered (s : Stmt) : Type 0 where
  pub once : (i : ℕ) → declarations_of i s ≤ 1
  pub dense : (i : ℕ) → 0 < declarations_of i s → i < statement_size s

abbrev pub IsNumbered : TickBody → Type 0
IsNumbered (body.Expression e) = Unit {0}
IsNumbered (body.Statement s) = AreNumbered s

-- a function of the program, where its ticks capture this
pub record IsFunction (p : TypedParts) (ticks : List (List CaptureKind)) (f : Function) : Type 0 where
  pub stands : IsTrue (stands_as_body f.body f.params (round_function p ticks f))
  pub values : IsTrue (uses_values f.body)
  pub size : f.size ≡ statement_size f.body
  -- each byte belongs to one frame object
  pub objects : (byte : ℕ) → objects_at byte f.body ≡ one_if (nat_lt byte f.object)
  pub numbers : AreNumbered f.body
  pub few : f.params ≤ MOST_ARGUMENTS
  pub small : f.size ≤ SIZE_LIMIT
  pub short : f.object ≤ FRAME_OBJECT_BYTES

-- a tick of the program that captures this
pub record IsTick (p : TypedParts) (ticks : List (List CaptureKind)) (t : Tick) (kinds : List CaptureKind) : Type 0
  where
    pub stands : IsTrue (stands_as_tick t.body (round_tick p ticks kinds))
    pub values : IsTrue (body_uses_values t.body)
    -- its nodes name its captures, the first time in their order
    pub captures : named_in t.body (Some []) ≡ Some kinds
    pub size : t.size ≡ body_size t.body
    pub numbers : IsNumbered t.body
    pub small : t.size ≤ SIZE_LIMIT

-- the words that are charged for a function or a tick of this size
abbrev pub charge : ℕ → ℕ
charge size = WORDS_OF_A_NODE * size + WORDS_OF_A_BODY

abbrev pub size_of_function : Function → ℕ
size_of_function f = f.size

abbrev pub size_of_tick : Tick → ℕ
size_of_tick t = t.size

abbrev pub words : TypedParts → ℕ
words p = FRONT_WORDS + sum (map (λ f. charge (size_of_function f)) p.functions) + sum
    (map (λ t. charge (size_of_tick t)) p.ticks)

-- the typed tree of an accepted text
pub record IsAccepted (p : TypedParts) : Type 0 where
  -- what its ticks capture
  pub captures : List (List CaptureKind)
  pub each : length captures ≡ length p.ticks
  pub functions : (n : ℕ) (f : Function) → slice_get p.functions n ≡ Some f → IsFunction p captures f
  pub ticks : (n : ℕ) (t : Tick) (kinds : List CaptureKind) → slice_get p.ticks n ≡ Some t →
      slice_get captures n ≡ Some kinds → IsTick p captures t kinds
  -- `main` is one of the functions, and none of that name has parameters
  pub main : ℕ
  pub main_function : Function
  pub is_main : slice_get p.functions main ≡ Some main_function
  pub name : main_function.name ≡ codes "main"
  pub no_parameters : (n : ℕ) (f : Function) → slice_get p.functions n ≡ Some f → f.name ≡ codes "main" →
      f.params ≡ 0
  -- and no limit is met
  pub image : length p.image ≤ GLOBAL_BYTES
  pub small : words p ≤ CHARGE_LIMIT
