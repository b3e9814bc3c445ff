-- The routine of malloc run at the beginning of the text, computed: what it answers, the next place of the heap behind
-- it, and where it came to. The heap has 8,388,608 bytes.
use Rattle.std.proofs.Common.{◌≡◌, ℕ, ◌+◌, List, [], ◌∷◌, map, false, refl}
use Rattle.std.specs.Fn.{iterate}
use Rattle.word32.specs.Space.{update}
use Rattle.word32.specs.declared.map.TheConstants.{TEXT, HEAP, FRAMES, GLOBAL_POINTER}
use Rattle.mips_encoder.specs.Table.{word_of}
use Rattle.mips_model.specs.State.{Code, Data, World}
use Rattle.mips_model.specs.Steps.{going, step}
use Rattle.mips_model.specs.Laws.{at}
use Rattle.mips_model.specs.Run.{first_outside}
use Rattle.mips_model.proofs.Loaded.{loaded}
use Rattle.icode_templates_proof.specs.Malloc.{malloc_code, heap_of, with_heap}

abbrev code : Code
code = loaded (map word_of malloc_code)

-- called with an argument, to return to 4,198,400, with this next place of the heap
abbrev called : ℕ → ℕ → Data
called heap bytes = with_heap heap (record {
  registers = update 4 bytes (update 28 GLOBAL_POINTER (update 31 4198400 (λ r. 0)));
  hi = 0;
  lo = 0;
  objects = λ n. 0;
  closures = λ n. 0;
  spec_rows = λ n. 0;
  cells = λ n. 0;
  emit_stack = λ n. 0;
  stack = λ n. 0;
  table = λ n. (0, 0);
  outside = first_outside (record { bytes = []; failing = false }) [];
})

abbrev seen : World → List ℕ
seen w = w.state.d.registers 2 ∷ heap_of w.state.d ∷ w.state.pc ∷ []

abbrev ran : (count heap bytes : ℕ) → List ℕ
ran count heap bytes = seen (iterate step count (going (at code TEXT 0 (called heap bytes))))

of_one : ran 15 HEAP 1 ≡ HEAP ∷ (HEAP + 8) ∷ 4198400 ∷ []
of_one = refl

of_none : ran 15 HEAP 0 ≡ HEAP ∷ HEAP ∷ 4198400 ∷ []
of_none = refl

of_all : ran 15 HEAP 8388608 ≡ HEAP ∷ FRAMES ∷ 4198400 ∷ []
of_all = refl

of_more : ran 9 HEAP 8388609 ≡ 0 ∷ HEAP ∷ 4198400 ∷ []
of_more = refl

-- the largest argument, which is rounded up to no more than 0
of_most : ran 9 HEAP 4294967295 ≡ 0 ∷ HEAP ∷ 4198400 ∷ []
of_most = refl

-- of a full heap
of_full : ran 9 FRAMES 1 ≡ 0 ∷ FRAMES ∷ 4198400 ∷ []
of_full = refl

none_of_full : ran 15 FRAMES 0 ≡ FRAMES ∷ FRAMES ∷ 4198400 ∷ []
none_of_full = refl
