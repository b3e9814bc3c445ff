-- The staged machine of an image: it has the program of the text, what it compiles has the generated code, and each
-- specification of its runs can be compiled.
use Rattle.std.proofs.Common.{◌≡◌, ℕ, zero, suc, ◌+◌, ◌-◌, ◌%◌, ◌<◌, ◌≤◌, Bool, true, false, List, [], ◌∷◌, ◌++◌}
use Rattle.std.proofs.Common.{length, map, Option, None, Some, refl, sym, ap, ◌∙◌, subst, arith, slice_get, slice_index}
use Rattle.std.proofs.Common.{nat_eq, if◌then◌else◌}
use Rattle.std.specs.Prelude.{option_map}
use Rattle.std.proofs.lemmas.Option.{slice_get-map}
use Rattle.word32.specs.declared.map.TheConstants.{FUNCTIONS}
use Rattle.limits.specs.declared.ops.TheConstants.{MOST_CAPTURES}
use Rattle.history.specs.Events.{Input}
use Rattle.history.specs.Syntax.{Syntax}
use Rattle.image_file.specs.Image.{ImageParts}
use Rattle.mips_model.specs.State.{Built}
use Rattle.mips_model.specs.Run.{row_of}
use Rattle.meaning_state.specs.Bodies.{Body}
use Rattle.meaning_state.specs.Rows.{numbered, parameters_of}
use Rattle.meaning_state.specs.Shared.{Shared}
use Rattle.icode_ops.specs.Finished.{InRange}
use Rattle.icode_ops.specs.Flow.{op_at}
use Rattle.icode_ops.specs.declared.op.Op.{Op}
use Rattle.icode_ir.specs.Build.{finished}
use Rattle.icode_ir.specs.Sound.{Each}
use Rattle.icode_ir.proofs.Sounds.{Each-weaker}
use Rattle.icode_meaning.specs.State.{Function, Program, log_of}
use Rattle.typed_tree.specs.declared.expression.CaptureKind.{CaptureKind}
use Rattle.typed_tree.specs.Nodes as node
use Rattle.wellformed.specs.Program.{IsProgram}
use Rattle.wf_ready.proofs.Readied.{ticks_ready}
use Rattle.staged_meaning.specs.Scope.{IsReadyIn, IsReadyTick, IsReadyTickAt}
use Rattle.staged_meaning.specs.Program as meaning
use Rattle.staged_meaning.specs.Program.{Tick, OfExpression, OfStatement}
use Rattle.staged_meaning.specs.Meaning.{at_start}
use Rattle.tick_lower_spec.specs.Generated.{return_ops, generated_ops, generated_code, IsGenerated}
use Rattle.tick_lower_spec.specs.Captured.{leaves}
use Rattle.tick_lower_spec.specs.Lower.{Addresses}
use Rattle.tick_lower_spec.specs.Specifications.{specification_ops}
use Rattle.tick_lower_spec.specs.TickPieces.{tick_pieces}
use Rattle.tick_lower_spec.specs.declared.piece.Piece.{Piece}
use Rattle.tick_lower_spec.specs.declared.piece.Piece.TheVariants.{Plain, Captured, GetKey, SetKey, Splice, Nothing}
use Rattle.tick_lower_proof.specs.Laws.{Stands, HasProgram, AreReady, CompilesGenerated, state_at}
use Rattle.routine_spec.specs.Generator.{HasRoom}
use Rattle.closures_proof.specs.CapturedWords.{IsOfWords}
use Rattle.generator_laws.specs.Pieces.{IsWhole}
use Rattle.compile_routine.specs.Made.{function_built, builder_of}
use Rattle.generator_spec.specs.Kinds.{HasWords, AreAddresses, tick_of_body}
use Rattle.generator_spec.specs.Laws.{pieces_at}
use Rattle.generator_spec.specs.FittingLaws.{ticks_of, program_pieces}
use Rattle.generator_spec.proofs.Alike.{pieces_alike, ops_alike}
use Rattle.icode_run_proof.specs.Ticking.{AreTicks}
use Rattle.icode_run_proof.specs.Relation as seam
use Rattle.icode_run_proof.specs.Relation.{Base, IsCompilable}
use Rattle.icode_run_proof.specs.Laws.{AreCompilable}
use Rattle.known_closures_proof.specs.Known.{IsMeaning, IsCode}
use Rattle.known_closures_proof.specs.States.{HasText, IsKnownState}
use Rattle.known_closures_proof.proofs.Functions.{rows_code, code_whole}
use Rattle.known_closures_proof.proofs.Steps.{runs_keep}
use Rattle.static_image.specs.Layout.{Placed, behind, rows_of, starts, ends, generator_starts, function_starts}
use Rattle.static_image.specs.Layout.{functions_at, addresses_of, IsChoice, image_of}
use Rattle.static_image.specs.Served.{IsImaged}
use Rattle.static_image.specs.Told.{built_for, called_in}
use Rattle.static_image.proofs.Bounds as bounds
use Rattle.static_image.proofs.Bounds.{numbered_each}
use Rattle.static_image.proofs.Generated as generated
use Rattle.static_image.proofs.Generated.{tick_in, tick_found, tick_there}
use Rattle.static_image.proofs.Placing.{staged, function_in, IsFound}
use Rattle.static_image_proof.proofs.Coded.{IsRunOp}
use Rattle.static_image_proof.proofs.Compiled as compiled

-- a number that is there is below the length
pub there_below : {A : Type 0} (xs : List A) (k : ℕ) (x : A) → slice_get xs k ≡ Some x → k < length xs
there_below [] k x e = absurd cc
there_below (y ∷ ys) zero x e = omega arith
there_below (y ∷ ys) (suc k) x e = omega (arith, there_below ys k x e)

pub none_below : {A : Type 0} (xs : List A) (k : ℕ) → k < length xs → slice_get xs k ≡ None → ⊥
none_below [] k low e = absurd (omega (arith, low))
none_below (x ∷ xs) zero low e = absurd cc
none_below (x ∷ xs) (suc k) low e = none_below xs k (omega (arith, low)) e

-- the kinds of a tick's captures
abbrev pub kinds_at : Option (List CaptureKind) → List CaptureKind
kinds_at None = []
kinds_at (Some ks) = ks

kinds_there : (kinds : List (List CaptureKind)) (t : ℕ) → t < length kinds
    → slice_get kinds t ≡ Some (kinds_at (slice_get kinds t))
kinds_there [] t low = absurd (omega (arith, low))
kinds_there (ks ∷ kinds) zero low = refl
kinds_there (ks ∷ kinds) (suc t) low = kinds_there kinds t (omega (arith, low))

-- the tick that an address finds is there
tick_below : (ss : List ℕ) (n a t : ℕ) → tick_in ss n a ≡ Some t → t < n + length ss
tick_below [] n a t e = absurd cc
tick_below (s ∷ ss) n a t e = by (λ more. tick_below ss (suc n) a t more) (nat_eq a s) e
  where
    by : (tick_in ss (suc n) a ≡ Some t → t < suc n + length ss) → (b : Bool)
        → (if b then Some n else tick_in ss (suc n) a) ≡ Some t → t < n + suc (length ss)
    by rest true e = let same : n ≡ t = cc in omega (arith, same)
    by rest false e = omega (arith, rest e)

-- functions stand at whole words
starts_even : (at : ℕ) (xs : List Placed) (k : ℕ) → at % 4 ≡ 0 → slice_index (starts at xs) k % 4 ≡ 0
starts_even at [] k even = refl
starts_even at (x ∷ xs) zero even = even
starts_even at (x ∷ xs) (suc k) even = starts_even (behind at x) xs k (omega (arith, even))

-- the addresses of rows are those of functions
addresses_are : (at : ℕ) (xs : List Placed) → map (λ r. r.address) (rows_of at xs) ≡ starts at xs
addresses_are at [] = refl
addresses_are at (x ∷ xs) = ap (λ z. at ∷ z) (addresses_are (behind at x) xs)

-- what an image is written of are words
room_words : (p : Piece) → HasRoom p → HasWords p
room_words (Plain o) h = h
room_words (Captured i) h = tt
room_words (GetKey i) h = tt
room_words (SetKey i) h = tt
room_words (Splice i) h = tt
room_words Nothing h = tt

module _ (tree : node.Program) (accepted : IsProgram tree) (program : meaning.Program)
    (meant : IsMeaning tree program) (number : ℕ) (xs : List Placed) (imaged : IsImaged program number)
    (own : imaged.captures ≡ accepted.captures) (choice : IsChoice program.functions program.ticks xs) where
  abbrev pub ts : List Tick
  ts = program.ticks

  abbrev pub kinds : List (List CaptureKind)
  kinds = imaged.captures

  abbrev pub d : Addresses
  d = addresses_of ts xs

  abbrev pub fs : List node.Function
  fs = program.functions

  abbrev pub image : ImageParts
  image = image_of program.image ts number xs

  abbrev pub all_starts : List ℕ
  all_starts = function_starts xs

  abbrev pub main_at : ℕ
  main_at = d.function_at number

  pub found : IsFound d FUNCTIONS xs (number - 1) program.main
  found = bounds.found program number xs imaged choice

  abbrev pub main : Function
  main = staged d main_at found.placed

  -- ---- functions and ticks are ready

  all_ready : (n : ℕ) (f : node.Function) → numbered n fs ≡ Some f → IsReadyIn fs kinds f
  all_ready n f e = (numbered_each n fs kinds fs imaged.static.each e).ready

  ready_tick : (n : ℕ) (ks : List CaptureKind) → slice_get kinds n ≡ Some ks
      → IsReadyTickAt fs kinds ks (slice_get ts n)
  ready_tick n ks is =
      subst (IsReadyTickAt fs kinds ks)
      (sym (ap (λ z. slice_get z n) meant.ticks ∙ slice_get-map tick_of_body tree.ticks n))
      (by (slice_get tree.ticks n) refl)
    where
      own_is : slice_get accepted.captures n ≡ Some ks
      own_is = ap (λ z. slice_get z n) (sym own) ∙ is

      here : (t : Tick) → IsReadyTick tree.functions accepted.captures ks t → IsReadyTick fs kinds ks t
      here t h =
          subst (λ (z : List node.Function). IsReadyTick z kinds ks t) (sym meant.functions)
          (subst (λ (z : List (List CaptureKind)). IsReadyTick tree.functions z ks t) (sym own) h)

      by : (t : Option node.TickBody) → slice_get tree.ticks n ≡ t
          → IsReadyTickAt fs kinds ks (option_map tick_of_body t)
      by None at =
          absurd (none_below tree.ticks n
          (omega (arith, there_below accepted.captures n ks own_is, accepted.each)) at)
      by (Some (node.Expression e)) at =
          here (OfExpression e)
          (ticks_ready.expressions tree accepted.captures e ks (accepted.ticks n (node.Expression e) ks at own_is))
      by (Some (node.Statement s)) at =
          here (OfStatement s)
          (ticks_ready.statements tree accepted.captures s ks (accepted.ticks n (node.Statement s) ks at own_is))

  pub ready : AreReady kinds program
  ready = record {
    main = all_ready number program.main imaged.main_is;
    no_parameters = imaged.no_parameters;
    functions = all_ready;
    bodies = ready_tick;
    sizes = imaged.static.sizes;
    captures = imaged.static.few;
  }

  -- a function that is found is the program's
  pub stands_for : (at : ℕ) (x : Placed) (f : node.Function) → x.function ≡ f → Stands d f (staged d at x)
  stands_for at x f is =
      subst (λ (g : node.Function). Stands d g (staged d at x)) is (record { ops = refl; charge = refl; object = refl })

  pub main_stands : Stands d program.main main
  main_stands = stands_for main_at found.placed program.main found.function

  -- ---- the staged machine: functions, rows and ticks, and what is compiled

  abbrev pub machine_rows : List (ℕ × ℕ)
  machine_rows = map row_of (rows_of FUNCTIONS xs)

  abbrev pub tick_starts : List ℕ
  tick_starts = generator_starts all_starts (ends FUNCTIONS xs) ts

  abbrev pub machine_of : Program
  machine_of = record {
    function_at = function_in d FUNCTIONS xs;
    row = λ n. numbered n machine_rows;
    source = program;
    tick_at = tick_in tick_starts 0;
    kinds = λ t. kinds_at (slice_get kinds t);
    ops_of = generated_code d;
  }

  abbrev pub base : Base
  base = record {
    program = machine_of;
    generator_at = d.generator_at;
    pieces = program_pieces d tree;
    built = built_for program image;
  }

  few_kinds : (t : ℕ) (o : Option (List CaptureKind)) → slice_get kinds t ≡ o → length (kinds_at o) ≤ MOST_CAPTURES
  few_kinds t None is = omega arith
  few_kinds t (Some ks) is = omega (arith, imaged.static.few t ks is)

  pub ticks : AreTicks (seam.ticks_of base)
  ticks = record {
    at = λ a t e. tick_found tick_starts a t e;
    low = λ t. omega (arith, (bounds.low program number xs imaged choice).generators t);
    few = λ t. few_kinds t (slice_get kinds t) refl;
  }

  pub has_program : HasProgram machine_of d program kinds
  has_program = record {
    source = refl;
    ticks_are = refl;
    kinds = λ t ks is. ap kinds_at is;
    generators = λ t ks is.
        let same : 0 + t ≡ t = omega arith in
        tick_there all_starts (ends FUNCTIONS xs) ts 0 t
        (omega (arith, there_below kinds t ks is, imaged.static.as_many)) ∙ ap Some same;
    compiled = λ syntax. refl;
  }

  -- ---- what is known of its runs

  pub has_text : HasText tree accepted machine_of
  has_text = record {
    ticks = meant.ticks;
    there = λ a t e.
        let many = generated.starts_many all_starts (ends FUNCTIONS xs) ts in
        ap (λ z. slice_get z t) (sym own)
        ∙ kinds_there kinds t (omega (arith, tick_below tick_starts 0 a t e, many, imaged.static.as_many));
  }

  known : (input : Input) (i : ℕ) → IsKnownState tree accepted machine_of (state_at machine_of program input main i)
  known input i = runs_keep tree accepted machine_of program main input i has_text

  pub compiles_generated : (input : Input) → CompilesGenerated machine_of d program kinds input main
  compiles_generated input i =
      Each-weaker (λ (b : Body). IsCode tree accepted b.syntax) (λ (b : Body). IsGenerated d kinds b.syntax)
      (λ b code. subst (λ z. IsGenerated d z b.syntax) (sym own)
      (compiled.generated tree accepted d program meant.ticks refl b.syntax code))
      (log_of (state_at machine_of program input main i)).shared.bodies (known input i).known.bodies

  -- ---- specifications can be compiled

  pub good : AreAddresses d
  good f = (bounds.start_low program number xs imaged choice (f - 1), starts_even FUNCTIONS xs (f - 1) refl)

  -- the pieces of ticks under the addresses of functions alone, as the image has them
  pub pieces_are : (n : ℕ) → program_pieces d tree n ≡ pieces_at (functions_at all_starts) (slice_get ts n)
  pieces_are n =
      pieces_alike tree accepted d (functions_at all_starts) (λ f. refl) n
      ∙ ap (λ z. pieces_at (functions_at all_starts) (slice_get z n)) (sym meant.ticks)

  at_words : (us : List Tick) → Each (λ t. Each HasRoom (tick_pieces (functions_at all_starts) t)) us → (n : ℕ)
      → Each HasWords (pieces_at (functions_at all_starts) (slice_get us n))
  at_words [] h n = tt
  at_words (t ∷ us) h zero =
      Each-weaker HasRoom HasWords room_words (tick_pieces (functions_at all_starts) t) h.0
  at_words (t ∷ us) h (suc n) = at_words us h.1 n

  pub words : (n : ℕ) → Each HasWords (program_pieces d tree n)
  words n =
      subst (Each HasWords) (sym (pieces_are n))
      (at_words ts (imaged.static.written all_starts (bounds.start_low program number xs imaged choice)) n)

  -- the machine tells what the meaning does
  told_alike : (syntax : Syntax) → generated_ops (called_in program image) syntax ≡ generated_ops d syntax
  told_alike syntax =
      let c : Addresses = called_in program image in
      let same : (f : ℕ) → c.function_at f ≡ d.function_at f =
      λ f. ap (λ z. slice_index z (f - 1)) (addresses_are FUNCTIONS xs) in
      let both : specification_ops c ts syntax ≡ specification_ops d ts syntax =
      ap (λ z. specification_ops c z syntax) meant.ticks ∙ ops_alike tree accepted c d same syntax
      ∙ ap (λ z. specification_ops d z syntax) (sym meant.ticks) in
      ap (λ z. z ++ return_ops (leaves ts syntax)) both

  compilable_by : (syntax : Syntax) → IsCode tree accepted syntax
      → IsCompilable base (leaves (ticks_of tree) syntax) syntax
  compilable_by syntax code =
      let f : Built = function_built (program_pieces d tree) (leaves (ticks_of tree) syntax) syntax in
      let ops = compiled.ops_are tree accepted d program meant.ticks refl syntax code in
      let build = compiled.build_is tree accepted d program meant.ticks refl syntax code in
      let has = compiled.has tree accepted d program meant.ticks refl syntax code in
      let code_is : finished (builder_of f) ≡ generated_code d syntax = ap finished build in
      let fine = compiled.fine tree accepted d program meant.ticks refl syntax code good words in
      let fine_op : (n : ℕ) → IsRunOp (IsOfWords syntax) (op_at (generated_code d syntax) n) =
      λ n. subst (λ (os : List Op). IsRunOp (IsOfWords syntax) (op_at os n)) code_is (fine n) in
      record {
        some = compiled.some tree accepted d program meant.ticks refl syntax code;
        small = has.small;
        least = has.least;
        most = has.most;
        whole = subst (λ z. IsWhole (program_pieces d tree) z syntax)
            (sym (ap length meant.ticks ∙ many tree.ticks))
            (code_whole tree accepted d syntax good words code);
        fits = has.fits;
        built = ap (λ z. let b : Built = record { parameters = parameters_of syntax; ops = z } in b)
            (told_alike syntax ∙ sym ops);
        ops = sym code_is;
        in_range = λ n. subst (λ (os : List Op). InRange (builder_of f).registers (op_at os n)) code_is
            (compiled.in_range tree accepted d program meant.ticks refl syntax code n);
        served = λ small n. (fine_op n).served small;
        plain = λ n. (fine_op n).plain;
      }
    where
      many : (us : List node.TickBody) → length (map tick_of_body us) ≡ length us
      many [] = refl
      many (u ∷ us) = ap suc (many us)

  pub compilable : (input : Input) → AreCompilable base main (at_start program input)
  compilable input i number value syntax of =
      let shared : Shared = (log_of (state_at machine_of program input main i)).shared in
      let row = rows_code tree accepted shared value syntax number (known input i).known of in
      subst (λ (v : Bool). IsCompilable base v syntax) row.1 (compilable_by syntax row.0)
