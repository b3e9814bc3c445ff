-- What stands in memory while a program runs: the code, the functions at their addresses and the published numbers, the
-- places of each function's registers, the routines of the run-time library, and the exit that the start waits with;
-- and what is written by the making of specifications and functions alone, as it was left. Code, functions and numbers
-- may be added during the run. The rules are this project's own.
use Rattle.std.specs.Prelude.{◌≡◌, ℕ, suc, ◌+◌, ◌-◌, ◌*◌, ◌<◌, ◌≤◌, Bool, true, false, List, [], ◌∷◌, length}
use Rattle.std.specs.Prelude.{slice_get, Some, None}
use Rattle.word32.specs.declared.map.TheConstants.{ARENA, FUNCTION_ROWS, UNPUBLISHED}
use Rattle.history.specs.Events.{Item}
use Rattle.mips_model.specs.State.{Making, Code, Data}
use Rattle.mips_model.specs.Laws.{HasAt}
use Rattle.icode_ops.specs.Kinds.{run_number}
use Rattle.icode_ops.specs.declared.kind.RunKind.TheVariants.{Malloc}
use Rattle.icode_templates.specs.Templates.{routine_address}
use Rattle.icode_templates_proof.specs.Malloc.{malloc_code}
use Rattle.meaning_state.specs.Bodies.{Body}
use Rattle.meaning_state.specs.Shared.{Shared}
use Rattle.meaning_state.specs.Rows.{numbered, parameters_of}
use Rattle.icode_meaning.specs.State.{Function, Frame, Program}
use Rattle.icode_expand_proof.specs.Standing.{OpsStand, front_code, exit_code}

pub record Setting : Type 0 where
  pub code : Code
  -- the functions and the rows at present
  pub program : Program
  -- by a function's address
  pub places_at : ℕ → List ℕ
  pub exit : ℕ
  -- what the services that make code have left: no op of a program calls one
  pub making : Making
  pub flushes : ℕ
  -- the data and what is shared, when a specification or a function was made last, and the history up to the last
  -- function that was made or entered
  pub written : Data
  pub made : Shared
  pub history : List Item

abbrev pub places_of : Setting → Function → List ℕ
places_of s f = s.places_at f.address

-- Each function stands at its address, under its places, but for what begins a compiled one, each routine that ops call
-- stands at its block, and the start's exit stands in the code.
pub record Standing (s : Setting) : Type 0 where
  pub functions :
      (a : ℕ) (f : Function) → s.program.function_at a ≡ Some f
      → (f.address ≡ a) × OpsStand s.code f (s.places_at a)
  pub fronts :
      (a : ℕ) (f : Function) → s.program.function_at a ≡ Some f → f.compiled ≡ false
      → HasAt s.code a (front_code f (s.places_at a))
  pub routines : HasAt s.code (routine_address (run_number Malloc)) malloc_code
  pub exits : HasAt s.code s.exit exit_code

-- the function table has the published numbers, and no others: those have no address in the arena
pub record Published (program : Program) (table : ℕ → ℕ × ℕ) : Type 0 where
  pub rows : (n a k : ℕ) → program.row n ≡ Some (a, k) → (n < FUNCTION_ROWS) × (table n ≡ (a, k))
  pub others : (n : ℕ) → n < FUNCTION_ROWS → program.row n ≡ None
      → ((table n).0 < ARENA) × ((table n).1 ≡ UNPUBLISHED)

-- The setting has what the text gives, and no row of a function that isn't compiled yet.
pub record Extends (text : Program) (s : Setting) : Type 0 where
  pub functions : (a : ℕ) (f : Function) → text.function_at a ≡ Some f
      → (s.program.function_at a ≡ Some f) × (f.compiled ≡ false)
  pub rows : (n : ℕ) → n ≤ length text.source.functions → s.program.row n ≡ text.row n
  pub others : (n : ℕ) → length text.source.functions < n
      → numbered (n - length text.source.functions) s.made.bodies ≡ None → s.program.row n ≡ None

-- The numbers behind those of the text are those of the functions that were compiled: the row of a live one has its
-- address and its count of parameters, and there is none of one that was freed.
pub record HasRows (functions : ℕ) (s : Setting) : Type 0 where
  pub live : (k : ℕ) (x : Body) → slice_get s.made.bodies k ≡ Some x → x.live ≡ true
      → s.program.row (suc (functions + k)) ≡ Some (ARENA + 4 * x.first, parameters_of x.syntax)
  pub gone : (k : ℕ) (x : Body) → slice_get s.made.bodies k ≡ Some x → x.live ≡ false
      → s.program.row (suc (functions + k)) ≡ None

-- ---- growth: functions are added, and may go where no call has one

pub record Changed (stays : ℕ → Bool) (s s' : Setting) : Type 0 where
  pub functions : (a : ℕ) (f : Function) → stays a ≡ true → s.program.function_at a ≡ Some f
      → s'.program.function_at a ≡ Some f
  pub places : (a : ℕ) (f : Function) → stays a ≡ true → s.program.function_at a ≡ Some f
      → s'.places_at a ≡ s.places_at a
  pub exit : s'.exit ≡ s.exit

-- each call's function is one that stays
abbrev pub AllStay : (stays : ℕ → Bool) → List Frame → Type 0
AllStay stays [] = Unit {0}
AllStay stays (w ∷ ws) = (stays w.function.address ≡ true) × AllStay stays ws
