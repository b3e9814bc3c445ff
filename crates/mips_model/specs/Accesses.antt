-- What loads and stores do, by the region of their address. An access that lies in no region, or a store to the text or
-- the function table, ends as a trap of the kind Range; one that lies in a region but on no multiple of its size as a
-- trap of the kind Misaligned. The regions and their rights are this project's own; a load or store of the text or the
-- arena is a matter of the code, and its effect says only what is to be done there.
use Rattle.std.specs.Prelude.{ℕ, ◌-◌, ◌/◌, ◌%◌, Bool, nat_eq, if◌then◌else◌}
use Rattle.word32.specs.Parts.{is_aligned, loaded_part, stored_part}
use Rattle.word32.specs.Space as space
use Rattle.word32.specs.declared.width.Width.{Width}
use Rattle.word32.specs.declared.map.TheConstants.{ARENA, FUNCTION_TABLE}
use Rattle.flat_memory.specs.Map.{Region, InText, InArena, InObjects, InClosures, InSpecRows, InCells, InFunctionTable}
use Rattle.flat_memory.specs.Map.{InEmitStack, InStack, Nowhere, region_of}
use Rattle.code_arena.specs.Arena.{Arena, written}
use Rattle.host_edge.specs.declared.ending.Ending.{Ending}
use Rattle.host_edge.specs.declared.ending.Ending.TheVariants.{Trap}
use Rattle.host_edge.specs.declared.ending.MachineKind.{MachineKind}
use Rattle.host_edge.specs.declared.ending.TrapKind.TheVariants as trap
use Rattle.mips_model.specs.State.{Data, set_register}

-- What an instruction does: it changes the data, and may load a register; it changes the arena and the data; it loads a
-- register from the text or the arena; it would store to the text; it branches by words from its slot, where the test
-- holds, or jumps to an address or to a word of the slot's 256 megabytes, and may leave the address behind its slot in
-- register r; or the run ends.
pub data Effect : Type 0 where
  Plain : Data → Effect
  Loads : (r : ℕ) → Data → Effect
  Changes : (Arena → Arena) → Data → Effect
  ReadsText : (r at : ℕ) → Width → Effect
  ReadsArena : (r at : ℕ) → Width → Effect
  StoresText : (at : ℕ) → Width → Effect
  Branches : (taken : Bool) (offset : ℕ) → Effect
  BranchesLinking : (taken : Bool) (offset : ℕ) → Effect
  Jumps : (target : ℕ) → Effect
  JumpsLinking : (r target : ℕ) → Effect
  Goes : (word : ℕ) → Effect
  GoesLinking : (word : ℕ) → Effect
  Ends : Ending → Effect
  Faults : MachineKind → Effect
  InputFails : Effect

-- an access that is aligned, or the trap
abbrev pub aligned : ℕ → Width → Effect → Effect
aligned at width e = if is_aligned at width then e else Ends (Trap trap.Misaligned)

-- a word of the function table: even words are addresses, odd ones counts
abbrev pub table_word : (ℕ → ℕ × ℕ) → ℕ → ℕ
table_word table n = if nat_eq (n % 2) 0 then (table (n / 2)).0 else (table (n / 2)).1

abbrev pub table_word_at : (ℕ → ℕ × ℕ) → ℕ → ℕ
table_word_at table at = table_word table (at / 4 - FUNCTION_TABLE / 4)

-- a word that holds the byte at an address was loaded to register r
abbrev pub takes : ℕ → ℕ → Width → ℕ → Data → Effect
takes r at width word d = aligned at width (Loads r (set_register r (loaded_part word at width) d))

abbrev pub load_in : Region → ℕ → ℕ → Width → Data → Effect
load_in InText r at width d = ReadsText r at width
load_in InArena r at width d = ReadsArena r at width
load_in InObjects r at width d = takes r at width (d.objects (at / 4)) d
load_in InClosures r at width d = takes r at width (d.closures (at / 4)) d
load_in InSpecRows r at width d = takes r at width (d.spec_rows (at / 4)) d
load_in InCells r at width d = takes r at width (d.cells (at / 4)) d
load_in InFunctionTable r at width d = takes r at width (table_word_at d.table at) d
load_in InEmitStack r at width d = takes r at width (d.emit_stack (at / 4)) d
load_in InStack r at width d = takes r at width (d.stack (at / 4)) d
load_in Nowhere r at width d = Ends (Trap trap.Range)

-- a store to the arena makes the word that it changes written
abbrev pub arena_word : ℕ → ℕ
arena_word at = at / 4 - ARENA / 4

abbrev pub stored_in_arena : ℕ → Width → ℕ → Arena → Arena
stored_in_arena at width w a = written (arena_word at) (stored_part (a.words (arena_word at)) at width w) a

abbrev pub store_in : Region → ℕ → Width → ℕ → Data → Effect
store_in InText at width w d = StoresText at width
store_in InArena at width w d = aligned at width (Changes (stored_in_arena at width w) d)
store_in InObjects at width w d = aligned at width (Plain (record d { objects = space.store at width w d.objects }))
store_in InClosures at width w d = aligned at width (Plain (record d { closures = space.store at width w d.closures }))
store_in InSpecRows at width w d =
    aligned at width (Plain (record d { spec_rows = space.store at width w d.spec_rows }))
store_in InCells at width w d = aligned at width (Plain (record d { cells = space.store at width w d.cells }))
store_in InFunctionTable at width w d = aligned at width (Ends (Trap trap.Range))
store_in InEmitStack at width w d =
    aligned at width (Plain (record d { emit_stack = space.store at width w d.emit_stack }))
store_in InStack at width w d = aligned at width (Plain (record d { stack = space.store at width w d.stack }))
store_in Nowhere at width w d = Ends (Trap trap.Range)

-- a load to register r, and a store of w
abbrev pub load : ℕ → ℕ → Width → Data → Effect
load r at width d = load_in (region_of at) r at width d

abbrev pub store : ℕ → Width → ℕ → Data → Effect
store at width w d = store_in (region_of at) at width w d
