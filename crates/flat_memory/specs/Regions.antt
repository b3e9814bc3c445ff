-- What the memory keeps: a list of words for each region, from the region's first word on. Their lengths are those of
-- the memory map, and definitions see the lists as spaces.
use Rattle.std.specs.Prelude.{◌≡◌, ℕ, ◌≤◌, ◌/◌, List, length}
use Rattle.word32.specs.Space.{words_from}
use Rattle.word32.specs.declared.map.TheConstants.{OBJECTS, CLOSURES, SPEC_ROWS, CELLS, EMIT_STACK, STACK, CELL_BYTES}
use Rattle.word32.specs.declared.map.TheConstants.{CLOSURE_BYTES, EMIT_STACK_BYTES, OBJECT_BYTES, SPEC_ROW_BYTES}
use Rattle.word32.specs.declared.map.TheConstants.{STACK_BYTES, TEXT_WORDS}
use Rattle.flat_memory.specs.Spaces.{Spaces, text_of}

pub record Regions : Type 0 where
  pub text : List ℕ
  pub objects : List ℕ
  pub closures : List ℕ
  pub spec_rows : List ℕ
  pub cells : List ℕ
  pub emit_stack : List ℕ
  pub stack : List ℕ

-- the lengths in words
pub record Sized (r : Regions) : Type 0 where
  pub text_most : length r.text ≤ TEXT_WORDS
  pub objects_all : length r.objects ≡ OBJECT_BYTES / 4
  pub closures_all : length r.closures ≡ CLOSURE_BYTES / 4
  pub spec_rows_all : length r.spec_rows ≡ SPEC_ROW_BYTES / 4
  pub cells_all : length r.cells ≡ CELL_BYTES / 4
  pub emit_stack_all : length r.emit_stack ≡ EMIT_STACK_BYTES / 4
  pub stack_all : length r.stack ≡ STACK_BYTES / 4

-- the regions as spaces: each list from the number of its region's first word on
abbrev pub spaces_of : Regions → Spaces
spaces_of r = record {
  text = text_of r.text;
  objects = words_from (OBJECTS / 4) r.objects;
  closures = words_from (CLOSURES / 4) r.closures;
  spec_rows = words_from (SPEC_ROWS / 4) r.spec_rows;
  cells = words_from (CELLS / 4) r.cells;
  emit_stack = words_from (EMIT_STACK / 4) r.emit_stack;
  stack = words_from (STACK / 4) r.stack;
}
