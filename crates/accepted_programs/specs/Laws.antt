-- What is known of each accepted program: the backend makes its image.
use Rattle.std.specs.Prelude.{◌≡◌, ℕ, ◌<◌, ◌≤◌, List, length, slice_get, slice_index, Some}
use Rattle.meaning_state.specs.Rows.{numbered}
use Rattle.staged_meaning.specs.Source.{ticks_of, tick_view}
use Rattle.staged_meaning.specs.Program.{tick_size}
use Rattle.typed_tree.specs.declared.program.Tick.{Tick}
use Rattle.typed_tree.specs.View.{program_view}
use Rattle.static_image.specs.Served.{AreStatic}
use Rattle.wellformed.specs.declared.typed.Typed.{Typed}
use Rattle.wellformed.specs.Program.{IsWellFormed}
use Rattle.word32.specs.declared.map.TheConstants.{GLOBAL_BYTES}
use Rattle.accepted_programs.specs.Mains.{Main, IsOfWords, main_in}

-- what the backend asks of a program's functions and ticks, of main, and of the bytes of globals and strings
pub record MeetsBackend (program : Typed) (accepted : IsWellFormed program) (main : Main) : Type 0 where
  -- its ticks capture what the checker found
  pub static : AreStatic (program_view program).functions accepted.program.captures (ticks_of program)
  -- the sizes that it keeps of its ticks are theirs
  pub sized : (n : ℕ) (t : Tick) → slice_get program.ticks n ≡ Some t → t.size ≡ tick_size (Some (tick_view t.body))
  pub main_is : numbered main.number (program_view program).functions ≡ Some main.function
  pub no_parameters : main.function.parameters ≡ 0
  pub each_byte_fits : (k : ℕ) → slice_index program.image k < 256
  pub bytes_are_few : length program.image ≤ GLOBAL_BYTES

abbrev pub ProgramsMeetBackend : Type 0
ProgramsMeetBackend =
    (program : Typed) (main : Main) (accepted : IsWellFormed program) → IsOfWords program
    → main_in program ≡ Some main → MeetsBackend program accepted main
