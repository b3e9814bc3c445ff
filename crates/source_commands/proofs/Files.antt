-- The image file of a text: it is short enough to be read, it is one for each text, and the headline holds for what is
-- read from it.
use Rattle.std.proofs.Common.{◌≡◌, ℕ, ◌≤◌, List, [], ◌∷◌, ◌++◌, length, Option, Some, None, Ok, Err, refl, sym, ap, ◌∙◌}
use Rattle.std.proofs.Common.{arith, subst}
use Rattle.std.specs.declared.result.Result.{Result}
use Rattle.std.specs.List.{flat_map}
use Rattle.std.proofs.lemmas.List.{length-append}
use Rattle.tick_tree.specs.declared.fault.Fault.{Fault}
use Rattle.image_file.specs.Image.{ImageParts, IsImage}
use Rattle.image_file.specs.Format.{word_bytes, function_bytes, header, spelling, parsed}
use Rattle.image_file.specs.declared.fault.ImageFault.{ImageFault}
use Rattle.image_file.proofs.Words.{length-words, length-functions}
use Rattle.icode_ops.specs.declared.interval.Interval.{Interval}
use Rattle.linear_scan_spec.specs.Scan.{places_of}
use Rattle.typed_tree.specs.Nodes.{Function}
use Rattle.staged_meaning.specs.Meaning.{Program}
use Rattle.static_image.specs.Headline.{Headline}
use Rattle.icode_ir.specs.Sound.{Each}
use Rattle.tick_lower_proof.specs.Laws.{code_of, registers_of}
use Rattle.wellformed.specs.declared.typed.Typed.{Typed}
use Rattle.typed_tree.specs.View.{program_view}
use Rattle.staged_meaning.specs.Program.{Tick}
use Rattle.staged_meaning.specs.Source.{ticks_of}
use Rattle.static_image.specs.Layout.{Placed, functions_of, unknown, image_of}
use Rattle.static_backend.specs.Scanned.{IsScan, IsScanned}
use Rattle.accepted_programs.specs.Mains.{Main, main_in}
use Rattle.source_commands.specs.Texts.{typed_tree, Lowered, Builds}
use Rattle.source_commands.specs.Saved.{IsFileOf, HeadlineOfBytes, Saves}
use Rattle.image_commands.proofs.Intervals.{one_list}

abbrev placed : Function → List ℕ → Placed
placed f ps = record { function = f; places = ps }

spelling_short : (image : ImageParts) → IsImage image → length (spelling image) ≤ 83886080
spelling_short image is =
    let text = flat_map word_bytes image.text in
    let rows = flat_map function_bytes image.functions in
    let a = length-append (header image) (text ++ (image.bytes ++ rows)) in
    let b = length-append text (image.bytes ++ rows) in
    let c = length-append image.bytes rows in
    let h : length (header image) ≡ 24 = refl in
    let t = length-words image.text in
    let r = length-functions image.functions in
    omega (arith, a, b, c, h, t, r, is.text_is_small, is.bytes_are_few, is.functions_are_few)

pub file_of : (image : ImageParts) (bytes : List ℕ) → IsImage image → bytes ≡ spelling image → parsed bytes ≡ Ok image →
    IsFileOf image bytes
file_of image bytes is spelt back =
    record {
      spelt = spelt;
      read_back = back;
      short =
          subst (λ (b : List ℕ). length b ≤ 83886080) (sym spelt) (spelling_short image is);
    }

pub saves : (text bytes : List ℕ) (image : ImageParts) → Builds text image → bytes ≡ spelling image →
    parsed bytes ≡ Ok image → Saves text bytes
saves text bytes image builds spelt back =
    record { image = image; builds = builds; file = file_of image bytes builds.rules spelt back }

pub headline_of : (text bytes : List ℕ) → (s : Saves text bytes) → HeadlineOfBytes s.builds.program bytes
headline_of text bytes s = record { image = s.image; file = s.file; headline = s.builds.headline }

-- a result has one value
image_or : (E : Type 0) → ImageParts → Result ImageParts E → ImageParts
image_or E other (Ok image) = image
image_or E other (Err fault) = other

one_image : (E : Type 0) (a b : ImageParts) (r : Result ImageParts E) → r ≡ Ok a → r ≡ Ok b → a ≡ b
unfolding image_or
one_image E a b r is also = ap (image_or E a) (sym is ∙ also)

pub read_headline : (program : Program) (bytes : List ℕ) (image : ImageParts) → HeadlineOfBytes program bytes →
    parsed bytes ≡ Ok image → Headline program image
read_headline program bytes image h read =
    subst (Headline program) (one_image ImageFault h.image image (parsed bytes) h.file.read_back read) h.headline

-- a function has one choice of places by linear scan
one_places : (f : Function) (ps qs : List ℕ) → IsScan (record { function = f; places = ps }) →
    IsScan (record { function = f; places = qs }) → ps ≡ qs
one_places f ps qs s t =
    s.same ∙ ap (λ (xs : List Interval). places_of (registers_of unknown f) xs)
    (one_list (code_of unknown f) s.intervals t.intervals s.found t.found) ∙ sym t.same

one_placed : (x y : Placed) → x.function ≡ y.function → IsScan x → IsScan y → x ≡ y
one_placed x y same s t =
    let moved : IsScan (record { function = y.function; places = x.places }) =
    subst (λ (f : Function). IsScan (record { function = f; places = x.places })) same s in
    ap (λ (f : Function). placed f x.places) same ∙
    ap (λ (ps : List ℕ). placed y.function ps) (one_places y.function x.places y.places moved t)

-- and so have functions one behind another
one_choice : (xs ys : List Placed) → functions_of xs ≡ functions_of ys → Each IsScan xs → Each IsScan ys → xs ≡ ys
one_choice [] [] e s t = refl
one_choice [] (y ∷ ys) e s t = absurd cc
one_choice (x ∷ xs) [] e s t = absurd cc
one_choice (x ∷ xs) (y ∷ ys) e s t =
    let first : x.function ≡ y.function = cc in
    let others : functions_of xs ≡ functions_of ys = cc in
    ap (λ (z : Placed). z ∷ xs) (one_placed x y first s.0 t.0) ∙
    ap (λ (zs : List Placed). y ∷ zs) (one_choice xs ys others s.1 t.1)

one_scan : (bytes : List ℕ) (fs : List Function) (ts : List Tick) (main : ℕ) (a b : ImageParts) →
    IsScanned bytes fs ts main a → IsScanned bytes fs ts main b → a ≡ b
one_scan bytes fs ts main a b s t =
    s.same ∙ ap (image_of bytes ts main)
    (one_choice s.placed t.placed (s.choice.same ∙ sym t.choice.same) s.each t.each) ∙
    sym t.same

-- a text has one typed tree, and one main
tree_or : Typed → Result Typed Fault → Typed
tree_or other (Ok tree) = tree
tree_or other (Err fault) = other

one_tree : (r : Result Typed Fault) (a b : Typed) → r ≡ Ok a → r ≡ Ok b → a ≡ b
unfolding tree_or
one_tree r a b is also = ap (tree_or a) (sym is ∙ also)

main_or : Main → Option Main → Main
main_or other (Some main) = main
main_or other None = other

one_main : (o : Option Main) (a b : Main) → o ≡ Some a → o ≡ Some b → a ≡ b
unfolding main_or
one_main o a b is also = ap (main_or a) (sym is ∙ also)

-- and so one image
pub one_lowered : (text : List ℕ) (a b : ImageParts) → Lowered text a → Lowered text b → a ≡ b
one_lowered text a b s t =
    let trees = one_tree (typed_tree text) s.tree t.tree s.is_typed t.is_typed in
    let mains = one_main (main_in t.tree) s.main t.main
    (subst (λ (tree : Typed). main_in tree ≡ Some s.main) trees s.is_main) t.is_main in
    let moved =
    subst (λ (tree : Typed). IsScanned tree.image (program_view tree).functions (ticks_of tree) s.main.number a) trees
    s.scanned in
    one_scan t.tree.image (program_view t.tree).functions (ticks_of t.tree) t.main.number a b
    (subst (λ (m : Main). IsScanned t.tree.image (program_view t.tree).functions (ticks_of t.tree) m.number a) mains
    moved) t.scanned

pub one_file : (text one other : List ℕ) → Saves text one → Saves text other → one ≡ other
one_file text one other a b =
    a.file.spelt ∙ ap spelling (one_lowered text a.image b.image a.builds.lowering b.builds.lowering) ∙ sym b.file.spelt

pub built_file : (text bytes : List ℕ) (image : ImageParts) → Saves text bytes → Builds text image →
    IsFileOf image bytes
built_file text bytes image s b =
    subst (λ (i : ImageParts). IsFileOf i bytes) (one_lowered text s.image image s.builds.lowering b.lowering) s.file
