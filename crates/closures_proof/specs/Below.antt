-- The ops of a tick, where they stand below the arena: so does the machine before each of their instructions, whatever
-- the arena has, and no function of it is entered.
use Rattle.std.specs.Prelude.{◌≡◌, ℕ, ◌≤◌, List, None}
use Rattle.word32.specs.declared.map.TheConstants.{ARENA}
use Rattle.mips_encoder.specs.Addresses.{past}
use Rattle.mips_model.specs.State.{Code, Data}
use Rattle.mips_model.specs.Laws.{at}
use Rattle.mips_model_laws.specs.Laws.{IsBelow}
use Rattle.meaning_state.specs.Shared.{Shared}
use Rattle.icode_templates.specs.Layout.{Layout}
use Rattle.icode_templates.specs.Templates.{Aim}
use Rattle.closures_proof.specs.Relation.{Text}
use Rattle.closures_proof.specs.Ticks.{TickCapture, TickRegisters, tick_trap, tick_code, Specifies, BeforeTick}

abbrev pub TicksStayBelow : Type 0
TicksStayBelow =
    (text : Text) (shared : Shared) (tick : ℕ) (r : TickRegisters) (xs : List TickCapture) (words : List ℕ)
    (layout : Layout) (address : Aim → ℕ) (bytes : ℕ) (c : Code) (a : ℕ) (d : Data)
    → BeforeTick text shared tick r xs words layout address bytes c a d
    → tick_trap text tick xs words shared ≡ None → past a (tick_code text tick r xs layout address) ≤ ARENA
    → (s : Specifies text shared tick r xs words layout (tick_code text tick r xs layout address) c a d)
    × IsBelow s.runs.count (at c a 0 d) × (s.after.outside ≡ d.outside)
