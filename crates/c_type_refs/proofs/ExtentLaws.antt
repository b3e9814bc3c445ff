-- The extents of layers are their sizes.
use Rattle.std.proofs.Common.{◌≡◌, ℕ, zero, suc, ◌+◌, ◌*◌, ◌-◌, ◌<◌, ◌≤◌, Bool, true, false, ◌&&◌, List, [], ◌∷◌, ◌++◌}
use Rattle.std.proofs.Common.{length, take, Some, None, ◌⊎◌, inl, inr, refl, ap, sym, ◌∙◌, arith}
use Rattle.std.proofs.lemmas.List.{length-append}
use Rattle.std.specs.Prelude.{min, nat_le, slice_get, if◌then◌else◌}
use Rattle.limits.specs.declared.program.TheConstants.{MAX_SIZE, SIZE_TOP}
use Rattle.c_types.specs.declared.ctype.Integer.TheVariants as kind
use Rattle.c_types.specs.declared.ctype.Base.{Base}
use Rattle.c_types.specs.declared.ctype.Base.TheVariants as base
use Rattle.c_types.specs.declared.ctype.Layer.{Layer, out-Layer}
use Rattle.c_types.specs.declared.ctype.Layer.TheOpen.{Layer-F}
use Rattle.c_type_refs.specs.declared.extents.Extent.{Extent}
use Rattle.c_types.specs.Types.{Opened, base_size, is_integer_base, size_at, size_under, under, is_sized_at}
use Rattle.c_types.specs.Types.{is_sized_under}
use Rattle.c_type_refs.specs.Sizes.{limited_parts}
use Rattle.c_type_refs.specs.Extents.{start, grown_at, grown, after, extents, limited}

same_extent : (x y : Extent) → Some x ≡ Some y → x ≡ y
same_extent x y h = cc

none_some : (x : Extent) → None ≡ Some x → ⊥
none_some x h = cc

-- over the first layers
found : (e : Extent) (ls : List Layer) (n : ℕ) → n ≤ length ls →
    slice_get (extents e ls) n ≡ Some (after e (take n ls))
found e [] zero h = refl
found e [] (suc n) h = absurd (omega (arith, h))
found e (l ∷ ls) zero h = refl
found e (l ∷ ls) (suc n) h = found (grown e l) ls n (omega (arith, h))

-- an extent that is kept is that over the first layers
pub kept : (e : Extent) (ls : List Layer) (es : List Extent) (n : ℕ) (x : Extent) → n ≤ length ls →
    (es ≡ []) ⊎ (es ≡ extents e ls) → slice_get es n ≡ Some x → x ≡ after e (take n ls)
kept e ls es n x h (inl none) read = absurd (none_some x (ap (λ l. slice_get l n) (sym none) ∙ read))
kept e ls es n x h (inr all) read =
    same_extent x (after e (take n ls)) (sym read ∙ ap (λ l. slice_get l n) all ∙ found e ls n h)

-- over layers and more on top
pub joined : (e : Extent) (xs ys : List Layer) → after (after e xs) ys ≡ after e (xs ++ ys)
joined e [] ys = refl
joined e (x ∷ xs) ys = joined (grown e x) xs ys

-- under the outermost of the layers on top
pub under_more : (xs ys : List Layer) → 0 < length ys → xs ++ take (length ys - 1) ys ≡ under (xs ++ ys)
under_more [] ys h = refl
under_more (x ∷ xs) ys h =
    let long : length (xs ++ ys) ≡ length xs + length ys = length-append xs ys in
    let less : suc (length (xs ++ ys) - 1) ≡ suc (length (xs ++ ys)) - 1 = omega (arith, long, h) in
    ap (λ ls. x ∷ ls) (under_more xs ys h) ∙ ap (λ k. take k (x ∷ (xs ++ ys))) less

-- a size that is cut serves as the size itself
cap : (a s k : ℕ) → min (min a k * s) k ≡ min (a * s) k
cap a zero k = grind (arith)
cap a (suc s) k = grind (arith)

abbrev extent : ℕ → Bool → Extent
extent s b = record { size = min s SIZE_TOP; sized = b }

step : (s : ℕ) (b : Bool) (o : Opened) → grown_at (extent s b) o ≡ extent (size_at s o) (is_sized_at b o)
step s b (Layer-F.Array n) = ap (λ m. record { size = m; sized = b }) (cap s n SIZE_TOP)
step s b (Layer-F.Function list) = refl
step s b Layer-F.Unlisted = refl
step s b Layer-F.Pointer = refl
step s b Layer-F.Cspec = refl
step s b Layer-F.Vspec = refl

over : (s : ℕ) (b : Bool) (ls : List Layer) → after (extent s b) ls ≡ extent (size_under s ls) (is_sized_under b ls)
over s b [] = refl
over s b (l ∷ ls) = ap (λ e. after e ls) (step s b (out-Layer l)) ∙
    over (size_at s (out-Layer l)) (is_sized_at b (out-Layer l)) ls

begun : (b : Base) → start b ≡ extent (base_size b) (is_integer_base b)
begun base.Void = refl
begun (base.Integer kind.Char) = refl
begun (base.Integer kind.UnsignedChar) = refl
begun (base.Integer kind.Short) = refl
begun (base.Integer kind.UnsignedShort) = refl
begun (base.Integer kind.Int) = refl
begun (base.Integer kind.Unsigned) = refl

-- the size and whether there is one
counted : (b : Base) (ls : List Layer) →
    after (start b) ls ≡ extent (size_under (base_size b) ls) (is_sized_under (is_integer_base b) ls)
counted b ls = ap (λ e. after e ls) (begun b) ∙ over (base_size b) (is_integer_base b) ls

fits : (s : ℕ) → (if nat_le (min s SIZE_TOP) MAX_SIZE then Some (min s SIZE_TOP) else None) ≡
    (if nat_le s MAX_SIZE then Some s else None)
fits s = grind (arith)

cut : (s : ℕ) (b : Bool) → limited (extent s b) ≡ (if b && nat_le s MAX_SIZE then Some s else None)
cut s false = refl
cut s true = fits s

pub limits : (b : Base) (ls : List Layer) → limited (after (start b) ls) ≡ limited_parts b ls
limits b ls = ap limited (counted b ls) ∙ cut (size_under (base_size b) ls) (is_sized_under (is_integer_base b) ls)

pub whole : (b : Base) (ls : List Layer) → size_under (base_size b) ls ≤ MAX_SIZE →
    (after (start b) ls).size ≡ size_under (base_size b) ls
whole b ls h = let e : (after (start b) ls).size ≡ min (size_under (base_size b) ls) SIZE_TOP =
    ap (λ e. e.size) (counted b ls) in e ∙ omega (arith, h)
