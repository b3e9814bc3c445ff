-- The words of functions one behind another make the image of a program.
use Rattle.std.proofs.Common.{◌≡◌, ℕ, zero, suc, ◌-◌, ◌<◌, ◌≤◌, List, [], ◌∷◌, ◌++◌, length}
use Rattle.std.proofs.Common.{Some, sym, refl, ap, ◌∙◌, subst, arith, slice_get, slice_index, get_or}
use Rattle.std.proofs.lemmas.Option.{slice_get_read}
use Rattle.word32.specs.declared.map.TheConstants.{START, FUNCTIONS, GLOBAL_BYTES, SEGMENT_BYTES}
use Rattle.image_file.specs.Image.{ImageParts, IsImage}
use Rattle.image_file.specs.Image as file
use Rattle.image_file.specs.declared.image.FunctionEntry.{FunctionEntry}
use Rattle.typed_tree.specs.Nodes.{Function}
use Rattle.typed_tree.specs.declared.expression.CaptureKind.{CaptureKind}
use Rattle.staged_meaning.specs.Program.{Program, Tick}
use Rattle.static_image.specs.Layout.{Placed, front, behind, starts, rows_of, addresses_of, image_of}
use Rattle.static_image.specs.Served.{AreStatic, IsImaged}
use Rattle.static_image.specs.Laws.{ImagesKeepRules}
use Rattle.static_image.proofs.Bounds.{main_low}
use Rattle.static_backend.specs.Scanned.{IsScanned, AreCode, HasMain}
use Rattle.static_backend.proofs.Grown.{length_rows, length_functions}

-- the address in the row of a number
row_address : (at : ℕ) (xs : List Placed) (k : ℕ) (r : FunctionEntry) → slice_get (rows_of at xs) k ≡ Some r →
    r.address ≡ slice_index (starts at xs) k
row_address at [] k r e = absurd cc
row_address at (x ∷ xs) zero r e = let is : record { address = at; count = x.function.parameters } ≡ r = cc in
    ap (λ (s : FunctionEntry). s.address) (sym is)
row_address at (x ∷ xs) (suc k) r e = row_address (behind at x) xs k r e

below : (k : ℕ) (fs : List Function) {f : Function} → slice_get fs k ≡ Some f → k < length fs
below k [] e = absurd cc
below zero (g ∷ fs) e = omega arith
below (suc k) (g ∷ fs) e = omega (arith, below k fs e)

-- the number of main is in range
pub in_range : (main : ℕ) (fs : List Function) → HasMain main fs → (1 ≤ main) × (main ≤ length fs)
in_range zero fs h = absurd cc
in_range (suc k) fs h = (omega arith, omega (arith, below k fs h.1))

pub many_rows : (fs : List Function) (ticks : List Tick) (words : List ℕ) (rows : List FunctionEntry) →
    AreCode fs ticks words rows →
    length rows ≡ length fs
many_rows fs ticks words rows code =
    ap length code.rows_are ∙ length_rows FUNCTIONS code.placed ∙ sym (length_functions code.placed) ∙
    ap length code.choice.same

-- such a program of these bytes
pub record HasBytes (bytes : List ℕ) : Type 0 where
  pub fits : (k : ℕ) → slice_index bytes k < 256
  pub few : length bytes ≤ GLOBAL_BYTES

module _ (fs : List Function) (ticks : List Tick) (bytes : List ℕ) (main : ℕ) (words : List ℕ)
    (rows : List FunctionEntry)
    (has : HasMain main fs) (code : AreCode fs ticks words rows)
    (row : FunctionEntry) (row_is : row ≡ get_or rows (main - 1) row) where
  abbrev xs : List Placed
  xs = code.placed

  abbrev program : Program
  program = record { main = has.0; functions = fs; ticks = ticks; image = bytes }

  imaged : (captures : List (List CaptureKind)) → AreStatic fs captures ticks → HasBytes bytes → IsImaged program main
  imaged captures static are = record {
    main_is = has.1;
    no_parameters = has.2;
    captures = captures;
    static = static;
    each_byte_fits = are.fits;
    bytes_are_few = are.few;
  }

  row_found : slice_get rows (main - 1) ≡ Some row
  row_found =
      let range = in_range main fs has in
      let low : main - 1 < length rows = omega (arith, range.0, range.1, many_rows fs ticks words rows code) in
      slice_get_read rows (length rows) (main - 1) row refl low row_is

  address : row.address ≡ (addresses_of ticks xs).function_at main
  address = row_address FUNCTIONS xs (main - 1) row (ap (λ rs. slice_get rs (main - 1)) (sym code.rows_are) ∙ row_found)

  -- a jump reaches main
  pub address_low : (captures : List (List CaptureKind)) → AreStatic fs captures ticks → HasBytes bytes →
      row.address < SEGMENT_BYTES
  address_low captures static are =
      omega (arith, address, main_low program main xs (imaged captures static are) code.choice)

  many : length fs ≡ length xs
  many = ap length (sym code.choice.same) ∙ length_functions xs

  module _ (text bytes' : List ℕ) (text_is : text ≡ front row.address (length fs) ++ words)
      (bytes_are : bytes' ≡ bytes) where
    texts : text ≡ (image_of bytes ticks main xs).text
    texts =
        text_is ∙ ap (λ a. front a (length fs) ++ words) address
        ∙ ap (λ n. front ((addresses_of ticks xs).function_at main) n ++ words) many
        ∙ ap (λ ws. front ((addresses_of ticks xs).function_at main) (length xs) ++ ws) code.words_are

    same_image : file.image_of START text bytes' rows ≡ image_of bytes ticks main xs
    same_image =
        ap (λ t. file.image_of START t bytes' rows) texts
        ∙ ap (λ bs. file.image_of START (image_of bytes ticks main xs).text bs rows) bytes_are
        ∙ ap (λ rs. file.image_of START (image_of bytes ticks main xs).text bytes rs) code.rows_are

    pub is_image : (captures : List (List CaptureKind)) → AreStatic fs captures ticks → HasBytes bytes →
        ImagesKeepRules → IsImage (file.image_of START text bytes' rows)
    is_image captures static are law =
        subst IsImage (sym same_image) (law program main xs (imaged captures static are) code.choice)

    pub is_scanned : (made : ImageParts) → made ≡ file.image_of START text bytes' rows →
        IsScanned bytes fs ticks main made
    is_scanned made is = record { placed = xs; each = code.each; choice = code.choice; same = is ∙ same_image }
