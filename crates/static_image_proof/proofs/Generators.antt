-- The functions that generate the code of ticks stand in the text, behind the functions.
use Rattle.std.proofs.Common.{◌≡◌, ℕ, zero, suc, ◌+◌, ◌*◌, ◌≤◌, List, [], ◌∷◌, ◌++◌, length, Some, slice_get}
use Rattle.std.proofs.Common.{slice_index, subst, arith, append_assoc, length-append}
use Rattle.word32.specs.declared.map.TheConstants.{ARENA, TEXT}
use Rattle.mips_encoder.specs.Addresses.{past}
use Rattle.mips_model.specs.State.{Code}
use Rattle.mips_model.specs.Laws.{HasAt}
use Rattle.mips_model.proofs.Loaded.{loaded}
use Rattle.icode_ir.specs.Sound.{Each}
use Rattle.icode_expand.proofs.Lengths.{length_words, past_is}
use Rattle.icode_expand_proof.proofs.Fitting.{words_stand}
use Rattle.icode_templates.specs.Words.{words}
use Rattle.staged_meaning.specs.Program.{Tick}
use Rattle.tick_lower_spec.specs.TickPieces.{tick_pieces}
use Rattle.routine_spec.specs.Generator.{generator_code, HasRoom}
use Rattle.routine_spec.proofs.Fitting.{generator_fits}
use Rattle.static_image.specs.Layout.{functions_at, generator_of, generator_starts, generators}
use Rattle.static_image.proofs.Arriving as start

module _ (functions : List ℕ) where
  -- a tick's stands at an address, below the arena
  pub record Generates (c : Code) (a : ℕ) (t : Tick) : Type 0 where
    pub stands : HasAt c a (generator_code (tick_pieces (functions_at functions) t))
    pub low : past a (generator_code (tick_pieces (functions_at functions) t)) ≤ ARENA

  pub generate : (pre : List ℕ) (at : ℕ) (ts : List Tick) → at ≡ TEXT + 4 * length pre
      → Each (λ t. Each HasRoom (tick_pieces (functions_at functions) t)) ts
      → at + 4 * length (generators functions ts) ≤ ARENA → (k : ℕ) (t : Tick) → slice_get ts k ≡ Some t
      → Generates (loaded (pre ++ generators functions ts)) (slice_index (generator_starts functions at ts) k) t
  generate pre at [] is written low k t e = absurd cc
  generate pre at (t ∷ ts) is written low zero u e =
      let same : t ≡ u = cc in
      let code = generator_code (tick_pieces (functions_at functions) t) in
      let rest = generators functions ts in
      let long = length-append (generator_of functions t) rest in
      let ends : past at code ≤ ARENA = omega (arith, past_is at code, length_words code, long, low) in
      subst (λ (v : Tick). Generates (loaded (pre ++ (generator_of functions t ++ rest))) at v) same
      (record {
        stands = words_stand (loaded (pre ++ (generator_of functions t ++ rest))) at code
            (generator_fits (tick_pieces (functions_at functions) t) written.0) (omega (arith, is)) ends
            (start.words_there pre (words code) rest at is);
        low = ends;
      })
  generate pre at (t ∷ ts) is written low (suc k) u e =
      let own = generator_of functions t in
      let rest = generators functions ts in
      let next : at + 4 * length own ≡ TEXT + 4 * length (pre ++ own) = omega (arith, length-append pre own, is) in
      subst (λ (text : List ℕ). Generates (loaded text)
      (slice_index (generator_starts functions (at + 4 * length own) ts) k) u) (append_assoc pre own rest)
      (generate (pre ++ own) (at + 4 * length own) ts next written.1 (omega (arith, length-append own rest, low)) k u e)
