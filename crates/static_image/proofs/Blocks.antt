-- The routines stand in their blocks.
use Rattle.std.proofs.Common.{◌≡◌, ℕ, zero, suc, ◌+◌, ◌-◌, ◌*◌, ◌<◌, ◌≤◌, List, [], ◌∷◌, ◌++◌, length, Some, refl, sym}
use Rattle.std.proofs.Common.{ap, ◌∙◌, subst, arith, append_assoc, length-append, slice_get}
use Rattle.word32.specs.declared.map.TheConstants.{ARENA, TEXT}
use Rattle.mips_encoder.specs.declared.instruction.Instr.{Instr}
use Rattle.mips_encoder.specs.Addresses.{past}
use Rattle.mips_model.specs.Laws.{HasAt}
use Rattle.mips_model.proofs.Loaded.{AllFit, loaded}
use Rattle.icode_templates.specs.Words.{words}
use Rattle.icode_templates_proof.specs.Malloc.{malloc_code}
use Rattle.icode_templates_proof.specs.Routines.{begin_code, check_code, new_code, local_code, parameter_code}
use Rattle.icode_templates_proof.specs.Routines.{AnExpression, AStatement, AVariable}
use Rattle.icode_templates_proof.proofs.Fitting.{malloc_fits}
use Rattle.icode_templates_proof.proofs.FittingRoutines.{new_fits, local_fits, parameter_fits, begin_fits, check_fits}
use Rattle.icode_expand.proofs.Lengths.{length_words, past_is}
use Rattle.icode_expand_proof.specs.Standing.{WordsAt}
use Rattle.icode_expand_proof.proofs.Fitting.{words_stand}
use Rattle.icode_ir.specs.Sound.{Each}
use Rattle.routine_spec.specs.Compile.{compile_code}
use Rattle.routine_spec.specs.Blocks.{filled, nothing_words, routine_words}
use Rattle.routine_spec.proofs.Fitting.{compile_fits}
use Rattle.static_image.proofs.Arriving.{words_there, filled_length}

-- code that fits into a block
abbrev pub FitsBlock : List Instr → Type 0
FitsBlock is = AllFit is × (length is ≤ 64)

-- the routines, in the order of their blocks
abbrev pub routines : List (List Instr)
routines =
    malloc_code ∷ compile_code ∷ local_code ∷ parameter_code ∷ begin_code ∷ check_code AnExpression
    ∷ check_code AStatement ∷ check_code AVariable ∷ [] ∷ [] ∷ [] ∷ [] ∷ new_code ∷ [] ∷ [] ∷ []

none_fits : FitsBlock []
none_fits = (tt, omega arith)

pub routines_fit : Each FitsBlock routines
routines_fit = (
  (malloc_fits, omega arith),
  (
    compile_fits,
    (
      local_fits,
      (
        parameter_fits,
        (
          begin_fits,
          (
            check_fits AnExpression,
            (
              check_fits AStatement,
              (
                check_fits AVariable,
                (
                  none_fits,
                  (none_fits, (none_fits, (none_fits, (new_fits, (none_fits, (none_fits, tt)))))),
                ),
              ),
            ),
          ),
        ),
      ),
    ),
  ),
)

-- blocks one behind another, and what stands behind them
abbrev pub blocks : List (List Instr) → List ℕ → List ℕ
blocks [] rest = rest
blocks (is ∷ more) rest = filled (words is) ++ blocks more rest

blocks_append : (all : List (List Instr)) (rest : List ℕ) → blocks all [] ++ rest ≡ blocks all rest
blocks_append [] rest = refl
blocks_append (is ∷ more) rest =
    append_assoc (filled (words is)) (blocks more []) rest
    ∙ ap (λ (xs : List ℕ). filled (words is) ++ xs) (blocks_append more rest)

pub routine_words_are : routine_words ≡ blocks routines []
routine_words_are = refl

pub routines_are : (rest : List ℕ) → routine_words ++ rest ≡ blocks routines rest
routines_are rest = ap (λ (xs : List ℕ). xs ++ rest) routine_words_are ∙ blocks_append routines rest

-- the words of a block's code stand at its front
in_block : (pre ws more rest : List ℕ) (a : ℕ) → a ≡ TEXT + 4 * length pre →
    WordsAt (loaded (pre ++ ((ws ++ more) ++ rest))) a ws
in_block pre ws more rest a is =
    subst (λ (t : List ℕ). WordsAt (loaded (pre ++ t)) a ws) (sym (append_assoc ws more rest))
    (words_there pre ws (more ++ rest) a is)

block_there : (pre rest : List ℕ) (all : List (List Instr)) (k : ℕ) (is : List Instr) (a : ℕ) →
    Each FitsBlock all → slice_get all k ≡ Some is → a ≡ TEXT + 4 * length pre + 256 * k →
    WordsAt (loaded (pre ++ blocks all rest)) a (words is)
block_there pre rest [] k is a fits found at = absurd cc
block_there pre rest (js ∷ all) zero is a fits found at =
    let same : js ≡ is = cc in
    subst (λ (x : List Instr). WordsAt (loaded (pre ++ blocks (js ∷ all) rest)) a (words x)) same
    (in_block pre (words js) (nothing_words (64 - length (words js))) (blocks all rest) a (omega (arith, at)))
block_there pre rest (js ∷ all) (suc k) is a fits found at =
    let long = filled_length (words js) (omega (arith, length_words js, fits.0.1)) in
    let both = length-append pre (filled (words js)) in
    subst (λ (t : List ℕ). WordsAt (loaded t) a (words is)) (append_assoc pre (filled (words js)) (blocks all rest))
    (block_there (pre ++ filled (words js)) rest all k is a fits.1 found (omega (arith, at, long, both)))

fits_there : (all : List (List Instr)) (k : ℕ) (is : List Instr) → Each FitsBlock all → slice_get all k ≡ Some is →
    FitsBlock is
fits_there [] k is fits found = absurd cc
fits_there (js ∷ all) zero is fits found = let same : js ≡ is = cc in subst FitsBlock same fits.0
fits_there (js ∷ all) (suc k) is fits found = fits_there all k is fits.1 found

-- so the routine of each block behind the first stands at its address
pub routine_stands : (first rest : List ℕ) (k : ℕ) (is : List Instr) (a : ℕ) → length first ≡ 64 → k < 15
    → slice_get routines k ≡ Some is → a ≡ TEXT + 256 + 256 * k →
    HasAt (loaded (first ++ (routine_words ++ rest))) a is
routine_stands first rest k is a long low found at =
    let fits = fits_there routines k is routines_fit found in
    let c = loaded (first ++ (routine_words ++ rest)) in
    words_stand c a is fits.0 (omega (arith, at)) (omega (arith, at, low, fits.1, past_is a is))
    (subst (λ (t : List ℕ). WordsAt (loaded (first ++ t)) a (words is)) (sym (routines_are rest))
    (block_there first rest routines k is a routines_fit found (omega (arith, at, long))))
