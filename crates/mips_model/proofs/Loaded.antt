-- An image as it is loaded: its instructions stand in the text, and nothing else can be fetched.
use Rattle.std.proofs.Common.{◌≡◌, ℕ, ◌+◌, ◌-◌, ◌*◌, ◌/◌, ◌%◌, ◌≤◌, ◌==◌, Bool, true, false, List, [], ◌∷◌, ◌++◌}
use Rattle.std.proofs.Common.{length, map, Option, None, Some, Err, refl, arith, subst, append_assoc, nat_lt}
use Rattle.std.proofs.Common.{if◌then◌else◌, slice_get}
use Rattle.std.proofs.lemmas.List.{length-append}
use Rattle.std.proofs.lemmas.Bool.Decides.{nat_tests}
use Rattle.word32.specs.declared.map.TheConstants.{TEXT, ARENA}
use Rattle.flat_memory.specs.Spaces.{text_of}
use Rattle.code_arena.specs.Arena as arena
use Rattle.host_edge.specs.declared.ending.MachineKind.TheVariants as kind
use Rattle.image_file.specs.Image.{ImageParts}
use Rattle.mips_encoder.specs.Table.{Fits, word_of}
use Rattle.mips_encoder.specs.declared.instruction.Instr.{Instr}
use Rattle.mips_encoder.proofs.Inverse.{instr_of-word_of}
use Rattle.mips_model.specs.State.{Code}
use Rattle.mips_model.specs.Steps.{Is, fetch, found, from_text, text_word, word_in_arena, from_arena, is_arena_word}
use Rattle.mips_model.specs.Accesses.{arena_word}
use Rattle.mips_model.specs.Run.{IsTextWord}
use Rattle.mips_model.specs.Laws.{HasAt}
use Rattle.mips_model.proofs.Reach.{fetch_text}

-- each instruction has a word
abbrev pub AllFit : List Instr → Type 0
AllFit [] = Unit {0}
AllFit (i ∷ is) = Fits i × AllFit is

pub all_fit_append : (is js : List Instr) → AllFit is → AllFit js → AllFit (is ++ js)
all_fit_append [] js f g = g
all_fit_append (i ∷ is) js f g = (f.0, all_fit_append is js f.1 g)

-- the code of a text, and nothing in the arena
abbrev pub loaded : List ℕ → Code
loaded words = record { text = text_of words; arena = arena.first }

get_behind : (front : List ℕ) (w : ℕ) (rest : List ℕ) → slice_get (front ++ w ∷ rest) (length front) ≡ Some w
get_behind [] w rest = refl
get_behind (x ∷ front) w rest = get_behind front w rest

length_one : (front : List ℕ) (w : ℕ) → length (front ++ w ∷ []) ≡ length front + 1
length_one front w = length-append front (w ∷ [])

text_word_at : (front : List ℕ) (w : ℕ) (rest : List ℕ) (a : ℕ) → a ≡ TEXT + 4 * length front →
    text_of (front ++ w ∷ rest) (a / 4) ≡ Some w
text_word_at front w rest a is =
    let l : nat_lt (a / 4) (TEXT / 4) ≡ false = grind (arith, nat_tests) in
    let i : a / 4 - TEXT / 4 ≡ length front = omega (arith, is) in
    rw (l, i) (get_behind front w rest)

-- instructions stand behind the words that are there
stand_behind : (is : List Instr) (front : List ℕ) (a : ℕ) → AllFit is → a ≡ TEXT + 4 * length front →
    length front + length is ≤ 15728640
    → HasAt (loaded (front ++ map word_of is)) a is
stand_behind [] front a fit here few = tt
stand_behind (i ∷ is) front a fit here few =
    let w = word_of i in
    let long : length (i ∷ is) ≡ length is + 1 = omega arith in
    let one = length_one front w in
    let next : a + 4 ≡ TEXT + 4 * length (front ++ w ∷ []) = omega (arith, one, here) in
    let few' : length (front ++ w ∷ []) + length is ≤ 15728640 = omega (arith, one, long, few) in (
      fetch_text (loaded (front ++ w ∷ map word_of is)) a w i (omega (arith, here)) (omega (arith, here, few, long))
          (text_word_at front w (map word_of is) a here) (instr_of-word_of i fit.0),
      subst (λ (text : List ℕ). HasAt (loaded text) (a + 4) is) (append_assoc front (w ∷ []) (map word_of is))
          (stand_behind is (front ++ w ∷ []) (a + 4) fit.1 next few'),
    )

-- the instructions of a text stand where it is loaded
pub instructions_stand : (is : List Instr) → AllFit is → length is ≤ 15728640 →
    HasAt (loaded (map word_of is)) TEXT is
instructions_stand is fit few = stand_behind is [] TEXT fit refl (omega (arith, few))

-- what is fetched from an image as it is loaded is a word of its text
module _ (image : ImageParts) (a : ℕ) (i : Instr) where
  in_text : (even : Bool) (o : Option ℕ) → (a % 4 == 0) ≡ even → text_of image.text (a / 4) ≡ o →
      found (from_text (if even then o else None)) ≡ Is i → IsTextWord image a
  in_text false o even is fetched = let x : ⊥ = cc in absurd x
  in_text true None even is fetched = let x : ⊥ = cc in absurd x
  in_text true (Some w) even is fetched = (grind (arith, nat_tests, even), (w, is))

  by_region : (low : Bool) →
      found (if low then from_text (text_word (loaded image.text) a) else word_in_arena (loaded image.text) a) ≡ Is i →
      IsTextWord image a
  by_region true fetched = in_text (a % 4 == 0) (text_of image.text (a / 4)) refl refl fetched
  by_region false fetched = absurd (outside (is_arena_word a) fetched)
    where
      outside : (is_word : Bool) →
          found (if is_word then from_arena (arena.fetch (arena_word a) arena.first) else Err kind.Fetch) ≡ Is i → ⊥
      outside true fetched = cc
      outside false fetched = cc

  pub fetched_from_text : fetch (loaded image.text) a ≡ Is i → IsTextWord image a
  fetched_from_text fetched = by_region (nat_lt a ARENA) fetched
