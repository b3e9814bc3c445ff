-- Calls in which each flush is of words that were written: those of the routine that compiles.
use Rattle.std.specs.Prelude.{◌≡◌, ℕ, ◌+◌, Bool, true, ◌&&◌, ◌||◌, nat_le, nat_lt, List, [], ◌∷◌, length}
use Rattle.code_arena.specs.Arena.{Arena}
use Rattle.mips_model.specs.CodeServices.{arena_word}
use Rattle.mips_model_laws.specs.Clean.{is_written}
use Rattle.generator_laws.specs.Calls.{Call, Finish, Flush}

-- one of so many words from a word on
abbrev pub is_in : (from count : ℕ) → ℕ → Bool
is_in from count k = nat_le from k && nat_lt k (from + count)

-- these words were written
abbrev pub HasWritten : (ℕ → Bool) → Arena → Type 0
HasWritten has a = (k : ℕ) → has k ≡ true → is_written (a.states k) ≡ true

-- and so were, behind a call, those that it writes
abbrev pub written_behind : Call → (ℕ → Bool) → ℕ → Bool
written_behind (Finish address most frame words) has k = is_in (arena_word address) (length words) k || has k
written_behind _ has k = has k

-- where these words were written, a call flushes no other ones
abbrev pub IsOfWritten : Call → (ℕ → Bool) → Type 0
IsOfWritten (Flush address count) has = (k : ℕ) → is_in (arena_word address) count k ≡ true → has k ≡ true
IsOfWritten _ has = Unit {0}

-- and so does each call, behind those before it
abbrev pub AreCovered : (ℕ → Bool) → List Call → Type 0
AreCovered has [] = Unit {0}
AreCovered has (call ∷ calls) = IsOfWritten call has × AreCovered (written_behind call has) calls
