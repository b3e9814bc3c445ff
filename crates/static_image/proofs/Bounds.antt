-- Where the functions of an image stand, and those of its ticks: below the arena, each at its address.
use Rattle.std.proofs.Common.{◌≡◌, ℕ, zero, suc, ◌+◌, ◌-◌, ◌*◌, ◌%◌, ◌<◌, ◌≤◌, List, [], ◌∷◌, length, Some, slice_get}
use Rattle.std.proofs.Common.{length-append, refl, sym, ap, ◌∙◌, subst, arith, slice_index}
use Rattle.word32.specs.declared.map.TheConstants.{ARENA, FUNCTIONS, SEGMENT_BYTES}
use Rattle.limits.specs.declared.program.TheConstants.{FRONT_WORDS, MOST_FUNCTIONS}
use Rattle.mips_model.proofs.Loaded.{AllFit}
use Rattle.icode_ir.specs.Sound.{Each}
use Rattle.icode_templates.specs.Words.{words}
use Rattle.typed_tree.specs.declared.expression.CaptureKind.{CaptureKind}
use Rattle.typed_tree.specs.Nodes as node
use Rattle.meaning_state.specs.Rows.{numbered}
use Rattle.staged_meaning.specs.Size.{size_of_stmt}
use Rattle.staged_meaning.specs.Frames.{HasFramesStmt}
use Rattle.staged_meaning.specs.Program as meaning
use Rattle.staged_meaning.specs.Program.{Tick}
use Rattle.tick_lower_spec.specs.Lower.{Addresses}
use Rattle.routine_spec.specs.Blocks.{routine_words}
use Rattle.routine_spec.proofs.Short.{routines_fill}
use Rattle.static_image.specs.Layout.{Placed, start_code, start_block, front, ends, generators, function_starts}
use Rattle.static_image.specs.Layout.{addresses_of, functions_of, IsChoice}
use Rattle.static_image.specs.Served.{IsStatic, most_words, AreStatic, IsImaged}
use Rattle.static_image.proofs.Arriving as start
use Rattle.static_image.proofs.Generated as generated
use Rattle.static_image.proofs.Placing.{Static, each_static, ends_most, starts_low, some_words, IsFound, find}
use Rattle.static_image.proofs.Serving.{AreLow}

-- a statement has a node
some_node : (object : ℕ) (s : node.Stmt) → HasFramesStmt object s → 1 ≤ size_of_stmt s
some_node object (node.Eval e) h = omega arith
some_node object (node.Block vars items) h = omega arith
some_node object (node.Variable i) h = omega arith
some_node object (node.Object offset n) h = omega (arith, h.1)
some_node object (node.Parameter k w) h = omega arith
some_node object (node.ParameterObject k w offset) h = omega arith
some_node object (node.If e s) h = omega arith
some_node object (node.IfElse e s r) h = omega arith
some_node object (node.While e s) h = omega arith
some_node object (node.Do s e) h = omega arith
some_node object (node.For e s) h = omega arith
some_node object (node.ForStep e step s) h = omega arith
some_node object (node.Switch e vars items) h = omega arith
some_node object (node.Case value) h = omega arith
some_node object node.Default h = omega arith
some_node object node.Break h = omega arith
some_node object node.Continue h = omega arith
some_node object node.Return h = omega arith
some_node object (node.ReturnValue e) h = omega arith

-- so there are not many functions
few_functions : (gs : List node.Function) (kinds : List (List CaptureKind)) (fs : List node.Function) →
    Each (IsStatic gs kinds) fs → 256 * length fs ≤ most_words fs
few_functions gs kinds [] h = omega arith
few_functions gs kinds (f ∷ fs) h =
    omega (arith, few_functions gs kinds fs h.1, some_node f.object f.body h.0.ready.frames)

pub are_few : (fs : List node.Function) (kinds : List (List CaptureKind)) (ts : List Tick) → AreStatic fs kinds ts →
    length fs ≤ MOST_FUNCTIONS
are_few fs kinds ts h = omega (arith, few_functions fs kinds fs h.each, h.room)

pub length_functions : (xs : List Placed) → length (functions_of xs) ≡ length xs
length_functions [] = refl
length_functions (x ∷ xs) = ap suc (length_functions xs)

-- what holds of all members holds of the one of a number
pub numbered_each : (n : ℕ) (gs : List node.Function) (kinds : List (List CaptureKind)) (fs : List node.Function)
    {f : node.Function} → Each (IsStatic gs kinds) fs → numbered n fs ≡ Some f → IsStatic gs kinds f
numbered_each zero gs kinds fs h e = absurd cc
numbered_each (suc k) gs kinds [] h e = absurd cc
numbered_each (suc zero) gs kinds (g ∷ fs) {f} h e = let is : g ≡ f = cc in subst (IsStatic gs kinds) is h.0
numbered_each (suc (suc k)) gs kinds (g ∷ fs) h e = numbered_each (suc k) gs kinds fs h.1 e

module _ (program : meaning.Program) (number : ℕ) (xs : List Placed) (imaged : IsImaged program number)
    (choice : IsChoice program.functions program.ticks xs) where
  abbrev ts : List Tick
  ts = program.ticks

  abbrev kinds : List (List CaptureKind)
  kinds = imaged.captures

  abbrev d : Addresses
  d = addresses_of ts xs

  abbrev fs : List node.Function
  fs = program.functions

  -- the addresses of functions
  abbrev pub all_starts : List ℕ
  all_starts = function_starts xs

  pub static : Each (Static fs kinds) xs
  static = each_static fs kinds xs (subst (Each (IsStatic fs kinds)) (sym choice.same) imaged.static.each)

  most : most_words (functions_of xs) ≡ most_words fs
  most = ap most_words choice.same

  -- functions and those of ticks stand below the arena
  pub room : ends FUNCTIONS xs + 4 * length (generators all_starts ts) ≤ ARENA
  room = omega (arith, ends_most fs kinds FUNCTIONS xs static, most, generated.most all_starts ts, imaged.static.room)

  pub start_low : (k : ℕ) → slice_index all_starts k < SEGMENT_BYTES
  start_low k = omega (arith, starts_low FUNCTIONS xs k, room)

  pub low : AreLow d kinds
  low = record {
    functions = λ n. start_low (n - 1);
    generators = λ t. omega (arith, generated.starts_low all_starts (ends FUNCTIONS xs) ts t, room);
    sizes = imaged.static.sizes;
    captures = λ t ks is. omega (arith, imaged.static.few t ks is);
  }

  pub few : length xs ≤ MOST_FUNCTIONS
  few =
      let n = length_functions xs in
      let same = ap length choice.same in
      omega (arith, n, same, are_few fs kinds ts imaged.static)

  -- each function is found at its address
  pub found_at : (n : ℕ) (f : node.Function) → numbered n fs ≡ Some f → IsFound d FUNCTIONS xs (n - 1) f
  found_at zero f e = absurd cc
  found_at (suc k) f e =
      let at : k ≡ suc k - 1 = omega arith in
      subst (λ (n : ℕ). IsFound d FUNCTIONS xs n f) at
      (find d FUNCTIONS xs k f (ap (λ (gs : List node.Function). slice_get gs k) choice.same ∙ e))

  pub found : IsFound d FUNCTIONS xs (number - 1) program.main
  found = found_at number program.main imaged.main_is

  abbrev pub main_at : ℕ
  main_at = d.function_at number

  pub main_even : main_at % 4 ≡ 0
  main_even = omega (arith, found.even)

  pub main_low : main_at < ARENA
  main_low = omega (arith, found.to, room, some_words found.placed)

  -- ---- the front

  pub block_long : length (start_block main_at (length xs)) ≡ 64
  block_long = start.filled_length (words (start_code main_at (length xs))) (omega arith)

  pub front_length : length (front main_at (length xs)) ≡ FRONT_WORDS
  front_length =
      let a = block_long in
      let b : length routine_words ≡ 960 = routines_fill in
      omega (arith, a, b, length-append (start_block main_at (length xs)) routine_words)

  pub fits : AllFit (start_code main_at (length xs))
  fits = start.start_fits main_at (length xs) (omega (arith, main_low)) few
