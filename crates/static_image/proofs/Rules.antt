-- The image of a program keeps the rules of images.
use Rattle.std.proofs.Common.{◌≡◌, ℕ, zero, suc, ◌+◌, ◌-◌, ◌*◌, ◌%◌, ◌<◌, ◌≤◌, ◌==◌, true, List, [], ◌∷◌, ◌++◌, length}
use Rattle.std.proofs.Common.{refl, sym, ap, subst, arith, length-append, nat_lt, nat_le, replicate}
use Rattle.std.specs.List.{list_all}
use Rattle.std.proofs.lemmas.Bool.Decides.{nat_tests}
use Rattle.word32.specs.declared.map.TheConstants.{ARENA, FUNCTIONS, TEXT}
use Rattle.image_file.specs.Image.{IsImage, has_good_entries, is_function_in}
use Rattle.mips_encoder.specs.Table.{word_of}
use Rattle.mips_encoder.specs.declared.instruction.Instr.{Instr}
use Rattle.mips_model.proofs.Loaded.{AllFit}
use Rattle.icode_ir.specs.Sound.{Each}
use Rattle.icode_ir.proofs.Sounds.{Each-append}
use Rattle.mips_assembly.specs.Assembly.{nop}
use Rattle.icode_templates.specs.Words.{words}
use Rattle.icode_expand_proof.specs.Standing.{code_of}
use Rattle.icode_expand_proof.proofs.Fitting.{code_fits}
use Rattle.typed_tree.specs.Nodes as node
use Rattle.staged_meaning.specs.Program.{Program}
use Rattle.tick_lower_spec.specs.Lower.{Addresses}
use Rattle.typed_tree.specs.declared.expression.CaptureKind.{CaptureKind}
use Rattle.routine_spec.specs.Blocks.{filled, routine_words}
use Rattle.static_image.specs.Layout.{Placed, start_code, start_block, front, words_of}
use Rattle.static_image.specs.Layout.{behind, rows_of, words_from, ends, function_starts, generators, addresses_of}
use Rattle.static_image.specs.Layout.{IsLegalChoice, IsChoice, image_of}
use Rattle.static_image.specs.Served.{IsImaged}
use Rattle.static_image.proofs.Lows.{AreWords, words_low, word_at}
use Rattle.static_image.proofs.Serving.{AreLow, ops_served}
use Rattle.static_image.proofs.Blocks.{FitsBlock, blocks, routines, routines_fit, routine_words_are}
use Rattle.static_image.proofs.Generated as generated
use Rattle.static_image.proofs.Placing.{Static, ends_rise, ends_at, some_words, staged, suits}
use Rattle.static_image.proofs.Bounds as bounds

same_words : (n w : ℕ) → w < 4294967296 → AreWords (replicate n w)
same_words zero w low = tt
same_words (suc n) w low = (low, same_words n w low)

-- instructions and nop behind them
filled_words : (is : List Instr) → AllFit is → AreWords (filled (words is))
filled_words is fit =
    Each-append (λ w. w < 4294967296) (words is) (replicate (64 - length (words is)) (word_of nop))
    (words_low is fit) (same_words (64 - length (words is)) (word_of nop) (omega arith))

-- blocks one behind another
block_words : (all : List (List Instr)) → Each FitsBlock all → AreWords (blocks all [])
block_words [] h = tt
block_words (is ∷ all) h =
    Each-append (λ w. w < 4294967296) (filled (words is)) (blocks all []) (filled_words is h.0.0) (block_words all h.1)

all_routine_words : AreWords routine_words
all_routine_words = subst AreWords (sym routine_words_are) (block_words routines routines_fit)

-- the words of functions that stand one behind another
module _ (fs : List node.Function) (kinds : List (List CaptureKind)) (d : Addresses) (low_calls : AreLow d kinds) where
  pub are_words : (at : ℕ) (xs : List Placed) → Each (Static fs kinds) xs → Each (IsLegalChoice d) xs → at % 4 ≡ 0 →
      ends at xs ≤ ARENA → AreWords (words_from d at xs)
  are_words at [] static legal even low = tt
  are_words at (x ∷ xs) static legal even low =
      let f = staged d at x in
      let rise = ends_rise (behind at x) xs in
      let st = suits fs kinds d low_calls at x static.0 legal.0 even (omega (arith, rise, low)) in
      let is = code_of f x.places in
      Each-append (λ w. w < 4294967296) (words_of d at x) (words_from d (behind at x) xs)
      (words_low is (code_fits f x.places st (ops_served fs d kinds low_calls x.function static.0)))
      (are_words (behind at x) xs static.1 legal.1 (omega (arith, even)) low)

-- the rows of functions
rows_good : (fs : List node.Function) (kinds : List (List CaptureKind)) (at n : ℕ) (xs : List Placed) →
    Each (Static fs kinds) xs → at % 4 ≡ 0 → TEXT ≤ at → ends at xs ≤ TEXT + 4 * n
    → list_all (is_function_in n) (rows_of at xs) ≡ true
rows_good fs kinds at n [] static even from to = refl
rows_good fs kinds at n (x ∷ xs) static even from to =
    let rise = ends_rise (behind at x) xs in
    let some = some_words x in
    let a : nat_le TEXT at ≡ true = grind (arith, nat_tests, from) in
    let b : nat_lt at (TEXT + 4 * n) ≡ true = grind (arith, nat_tests, rise, some, to) in
    let e : (at % 4 == 0) ≡ true = grind (arith, nat_tests, even) in
    let k : nat_le x.function.parameters 8 ≡ true = grind (arith, nat_tests, static.0.ready.few) in
    rw (a, b, e, k) (rows_good fs kinds (behind at x) n xs static.1 (omega (arith, even)) (omega (arith, from)) to)

length_rows : (at : ℕ) (xs : List Placed) → length (rows_of at xs) ≡ length xs
length_rows at [] = refl
length_rows at (x ∷ xs) = ap suc (length_rows (behind at x) xs)

module _ (program : Program) (number : ℕ) (xs : List Placed) (imaged : IsImaged program number)
    (choice : IsChoice program.functions program.ticks xs) where
  abbrev d : Addresses
  d = addresses_of program.ticks xs

  abbrev main_at : ℕ
  main_at = d.function_at number

  abbrev behind_front : List ℕ
  behind_front = words_from d FUNCTIONS xs ++ generators (function_starts xs) program.ticks

  abbrev text : List ℕ
  text = front main_at (length xs) ++ behind_front

  all_words : AreWords text
  all_words =
      Each-append (λ w. w < 4294967296) (front main_at (length xs)) behind_front
      (Each-append (λ w. w < 4294967296) (start_block main_at (length xs)) routine_words
      (filled_words (start_code main_at (length xs)) (bounds.fits program number xs imaged choice))
      all_routine_words)
      (Each-append (λ w. w < 4294967296) (words_from d FUNCTIONS xs) (generators (function_starts xs) program.ticks)
      (are_words program.functions imaged.captures d (bounds.low program number xs imaged choice) FUNCTIONS xs
      (bounds.static program number xs imaged choice) choice.legal refl
      (omega (arith, bounds.room program number xs imaged choice)))
      (generated.are_words (function_starts xs) program.ticks
      (imaged.static.written (function_starts xs) (bounds.start_low program number xs imaged choice))))

  long : ends FUNCTIONS xs + 4 * length (generators (function_starts xs) program.ticks) ≡ TEXT + 4 * length text
  long =
      let a = length-append (front main_at (length xs)) behind_front in
      let m = length-append (words_from d FUNCTIONS xs) (generators (function_starts xs) program.ticks) in
      let b = ends_at d FUNCTIONS xs in
      let f = bounds.front_length program number xs imaged choice in
      omega (arith, a, b, f, m)

  good : has_good_entries (image_of program.image program.ticks number xs) ≡ true
  good =
      let rows = rows_good program.functions imaged.captures FUNCTIONS (length text) xs
      (bounds.static program number xs imaged choice) refl (omega arith) (omega (arith, long)) in
      let some : 1 ≤ length text = omega (arith, long, ends_rise FUNCTIONS xs) in
      let t : nat_lt TEXT (TEXT + 4 * length text) ≡ true = grind (arith, nat_tests, some) in
      rw (t, rows) refl

  pub rules : IsImage (image_of program.image program.ticks number xs)
  rules = record {
    each_word_fits = λ k. word_at text k all_words;
    each_byte_fits = imaged.each_byte_fits;
    text_is_small = omega (arith, long, bounds.room program number xs imaged choice);
    bytes_are_few = imaged.bytes_are_few;
    functions_are_few = omega (arith, length_rows FUNCTIONS xs, bounds.few program number xs imaged choice);
    entries_are_good = good;
  }
