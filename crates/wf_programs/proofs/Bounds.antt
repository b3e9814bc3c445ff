-- The bytes of the globals end where the globals do, and both walks end them at one place.
use Rattle.std.proofs.Common.{◌≡◌, ℕ, ◌+◌, ◌≤◌, min, Bool, true, false, if◌then◌else◌, ap, sym, ◌∙◌, subst, List}
use Rattle.std.proofs.Common.{length, arith, add-sub_of_le}
use Rattle.std.proofs.Math.ListN.{length-append}
use Rattle.word32.specs.declared.map.TheConstants.{GLOBAL_BYTES}
use Rattle.c_types.specs.declared.ctype.CType.{CType}
use Rattle.check_forms.specs.Forms.{is_nil}
use Rattle.check_types.specs.Shapes.{is_function}
use Rattle.check_rules.specs.declared.image.Image.{Image}
use Rattle.check_rules.specs.Images as images
use Rattle.check_rules.specs.declared.state.State.{State}
use Rattle.check_globals.specs.Programs.{image, strings_begin, begin_by, image_fits}
use Rattle.wf_walk.specs.Kept.{KeepsGlobals}
use Rattle.wf_programs.proofs.Bools.{true_le}
use Rattle.wf_programs.proofs.Fills.{size_of, Filled, up_to_is}

-- ---- one image

abbrev pub Bounded : Image → Type 0
Bounded i = i.end ≤ GLOBAL_BYTES → length i.globals ≤ i.end

-- the end of the globals after one of this type, or after a function
abbrev pub end_after : CType → ℕ → ℕ
end_after t e = if is_function t then e else min (images.aligned e + size_of t) 4194308

below_aligned : (n : ℕ) → images.aligned n ≤ GLOBAL_BYTES → n ≤ images.aligned n
below_aligned n h = omega arith

-- a global's beginning keeps the bytes in bounds
pub fill_bounded : (size at : ℕ) (old m new : State) → at ≡ images.place old.image →
    m.image ≡ images.with_global size old.image → Filled at size m new → Bounded old.image → Bounded new.image
fill_bounded size at old m new place is f h few =
    let e : new.image.end ≡ min (images.aligned old.image.end + size) 4194308 = f.end ∙ ap (λ (i : Image). i.end) is in
    let g : length m.image.globals ≡ length old.image.globals = ap (λ (i : Image). length i.globals) is in
    let whole : images.aligned old.image.end + size ≡ new.image.end = omega arith in
    let a : images.aligned old.image.end ≤ GLOBAL_BYTES = omega arith in
    let b : old.image.end ≤ images.aligned old.image.end = below_aligned old.image.end a in
    let c : length old.image.globals ≤ old.image.end = h (omega arith) in
    let d : length new.image.globals ≤ images.aligned old.image.end + size =
    f.globals (images.aligned old.image.end) (omega arith) (omega arith) in
    omega arith

pub kept_bounded : (s new : State) → KeepsGlobals s new → Bounded s.image → Bounded new.image
kept_bounded s new k h few =
    let e : new.image.end ≡ s.image.end = k.end in
    let g : length new.image.globals ≡ length s.image.globals = ap (λ (l : List ℕ). length l) k.globals in
    let c : length s.image.globals ≤ s.image.end = h (omega arith) in
    omega arith

-- ---- the image at the end

up_to_length : (n : ℕ) (bytes : List ℕ) → length bytes ≤ n → length (images.up_to n bytes) ≡ n
up_to_length n bytes h = up_to_is n bytes ∙ add-sub_of_le h

image_length : (i : Image) → length i.globals ≤ strings_begin i → strings_begin i + length i.strings ≤ GLOBAL_BYTES →
    length (image i) ≤ GLOBAL_BYTES
image_length i h few =
    let whole : length (image i) ≡ strings_begin i + length i.strings
    = length-append (images.up_to (strings_begin i) i.globals) i.strings ∙
    ap (λ (n : ℕ). n + length i.strings) (up_to_length (strings_begin i) i.globals h) in
    subst (λ (n : ℕ). n ≤ GLOBAL_BYTES) (sym whole) few

begin_case : (i : Image) (b : Bool) (end : ℕ) → i.strings_at ≡ images.aligned end → i.end ≡ end → Bounded i →
    begin_by b i ≤ GLOBAL_BYTES → length i.globals ≤ begin_by b i
begin_case i true end at e h few = let z : length i.globals ≤ i.end = h few in z
begin_case i false end at e h few =
    let s : i.strings_at ≤ GLOBAL_BYTES = few in
    let b : end ≤ images.aligned end = below_aligned end (omega arith) in
    let c : length i.globals ≤ i.end = h (omega arith) in
    let z : length i.globals ≤ i.strings_at = omega arith in z

-- where the globals end in both walks at one place, the image is not too long
pub image_small : (i : Image) (end : ℕ) → i.strings_at ≡ images.aligned end → i.end ≡ end → Bounded i →
    image_fits i ≡ true → length (image i) ≤ GLOBAL_BYTES
image_small i end at e h fits =
    let few : strings_begin i + length i.strings ≤ GLOBAL_BYTES =
    true_le (strings_begin i + length i.strings) GLOBAL_BYTES fits in
    image_length i (begin_case i (is_nil i.strings) end at e h (
    let z : strings_begin i ≤ GLOBAL_BYTES = omega arith in z))
    few
