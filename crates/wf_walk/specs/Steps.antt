-- What a step of the walk makes stands right in each surrounding that agrees with the state after it.
use Rattle.std.specs.Prelude.{◌≡◌, ℕ, min, ◌≤◌, Bool, true, false, nat_le, List, [], ◌∷◌, ◌++◌, length, map, slice_get}
use Rattle.std.specs.Prelude.{Option, Some, None, Ok}
use Rattle.std.specs.List.{list_all}
use Rattle.limits.specs.declared.program.TheConstants.{NODE_TOP}
use Rattle.typed_tree.specs.declared.expression.CaptureKind.{CaptureKind}
use Rattle.typed_tree.specs.declared.expression.CaptureKind.TheVariants as capture
use Rattle.typed_tree.specs.declared.expression.Expr.{Expr}
use Rattle.typed_tree.specs.declared.program.Tick.{Tick}
use Rattle.typed_tree.specs.Sizes.{body_size}
use Rattle.check_rules.specs.Walks.{Rule}
use Rattle.check_rules.specs.declared.state.Stage.{Stage}
use Rattle.check_rules.specs.declared.state.Stage.TheVariants as stage
use Rattle.check_rules.specs.declared.state.State.{State}
use Rattle.wellformed.specs.Places.{Around, in_scope, in_function, part, stands_as_tick}
use Rattle.wellformed.specs.Values.{body_uses_values, is_used}
use Rattle.wellformed.specs.Accepted.{IsNumbered}
use Rattle.wellformed.specs.Captured.{named_in}
use Rattle.wf_walk.specs.Kept.{Starts}
use Rattle.wf_walk.specs.Known.{Blocks, of_function, of_tick, has, Small, Known}

-- what stands round a step: round the function's part, and in a tick, round the tick's
pub record Round : Type 0 where
  pub function : Around
  pub tick : Around

abbrev pub at : Stage → Round → Around
at stage.Function r = r.function
at stage.Tick r = r.tick
at stage.Dollar r = r.function

-- ---- captures

abbrev pub first_kind : List CaptureKind → CaptureKind
first_kind [] = capture.Dollar
first_kind (k ∷ ks) = k

-- the kind that a capture has
abbrev pub one_kind : Expr → CaptureKind
one_kind e = first_kind (part e).capture

-- the kinds of a list of captures
abbrev pub kinds : List Expr → List CaptureKind
kinds es = map one_kind es

-- a tick has these captures first
abbrev pub Captures : List CaptureKind → Option (List CaptureKind) → Type 0
Captures ks None = true ≡ false
Captures ks (Some all) = Starts ks all

abbrev pub AgreesTick : Stage → Blocks → State → Round → Type 0
AgreesTick stage.Function b s r = Unit {0}
AgreesTick stage.Tick b s r =
    ((i : ℕ) → has i (of_tick stage.Tick b s) ≡ true → in_scope i r.tick ≡ true) ×
    Captures (kinds s.ticks.captures) r.tick.captures
AgreesTick stage.Dollar b s r =
    ((i : ℕ) → has i (of_tick stage.Dollar b s) ≡ true → in_scope i r.tick ≡ true) ×
    Captures (kinds s.ticks.captures) r.tick.captures

-- what stands round a step has room for all that the state knows, in a program whose functions have so many parameters
pub record Agrees (many : List ℕ) (g : Stage) (b : Blocks) (ks : List (List CaptureKind)) (s : State) (r : Round) : Type
    0 where
  pub small : Small g s
  pub visible : (i : ℕ) → has i (of_function g b s) ≡ true → in_scope i r.function ≡ true
  pub object : nat_le s.frame.object r.function.object ≡ true
  pub is_function : in_function r.function ≡ true
  pub functions : (r.function.functions ≡ many) × (r.tick.functions ≡ many)
  pub ticks : Starts ks r.function.ticks
  pub in_tick : AgreesTick g b s r

-- ---- ticks

-- what is round the body of a tick that captures this
abbrev pub round_tick : Around → List CaptureKind → Around
round_tick a ks = record {
  variables = [];
  object = 0;
  functions = a.functions;
  ticks = a.ticks;
  captures = Some ks;
  in_loop = false;
  in_switch = false;
}

pub record TickStands (a : Around) (t : Tick) (ks : List CaptureKind) : Type 0 where
  pub stands : stands_as_tick t.body (round_tick a ks) ≡ true
  pub values : body_uses_values t.body ≡ true
  pub captures : named_in t.body (Some []) ≡ Some ks
  pub numbers : IsNumbered t.body
  pub size : t.size ≡ min (body_size t.body) NODE_TOP

abbrev pub EachTick : Around → List Tick → List (List CaptureKind) → Type 0
EachTick a [] [] = Unit {0}
EachTick a (t ∷ ts) (k ∷ ks) = TickStands a t k × EachTick a ts ks
EachTick a _ _ = true ≡ false

-- each capture stands right where the tick is evaluated, and its value is used
abbrev pub EachCapture : Around → List Expr → Type 0
EachCapture a [] = Unit {0}
EachCapture a (e ∷ es) = ((part e).is_capture a ≡ true) × (is_used e ≡ true) × EachCapture a es

-- the captures that a step in a tick made
abbrev pub CapturesStand : Stage → State → State → Round → Type 0
CapturesStand stage.Function s new r = Unit {0}
CapturesStand stage.Tick s new r = (more : Starts s.ticks.captures new.ticks.captures) →
    EachCapture r.function more.rest
CapturesStand stage.Dollar s new r = Unit {0}

-- ---- steps

-- what a step did: what its answer is asked for holds in each surrounding that agrees with the state after it
pub record Did (many : List ℕ) (g : Stage) (b : Blocks) (ks : List (List CaptureKind)) (s new : State)
    (P : Round → Type 0) : Type 0 where
  -- what its ticks capture
  pub more : List (List CaptureKind)
  pub known : Known many g b (ks ++ more) new
  pub back : (r : Round) → Agrees many g b (ks ++ more) new r → Agrees many g b ks s r
  pub ticks : (r : Round) → Agrees many g b (ks ++ more) new r → (made : Starts s.ticks.all new.ticks.all) →
      EachTick r.function made.rest more
  pub captures : (r : Round) → Agrees many g b (ks ++ more) new r → CapturesStand g s new r
  pub stands : (r : Round) → Agrees many g b (ks ++ more) new r → P r

-- a step whose answers stand right
abbrev pub Does : {A : Type 0} → List ℕ → Stage → (Round → A → Type 0) → Rule State A → Type 0
Does {A} many g P step =
    (b : Blocks) (ks : List (List CaptureKind)) (s new : State) (x : A) → Known many g b ks s → step s ≡ Ok (x, new) →
    Did many g b ks s new (λ r. P r x)
