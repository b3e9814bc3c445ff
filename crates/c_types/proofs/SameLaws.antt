-- Where two types are the same, layer by layer.
use Rattle.std.proofs.Common.{◌≡◌, ℕ, Bool, false, ◌&&◌, List, [], ◌∷◌, map, length, refl, sym, ap, ◌∙◌, arith}
use Rattle.std.specs.Prelude.{◌==◌}
use Rattle.c_types.specs.declared.ctype.CType.{CType}
use Rattle.c_types.specs.declared.ctype.Layer.{Layer, out-Layer}
use Rattle.c_types.specs.declared.ctype.Layer.TheVariants as layer
use Rattle.c_types.specs.declared.ctype.Layer.TheOpen.{Layer-F}
use Rattle.c_types.specs.declared.ctype.Layer.TheFolds.{fold_out-Layer, fold_out-CType, map-Layer}
use Rattle.c_types.specs.Types.{Opened, same, same_layer, same_layers, same_lists, same_base, base_of, layers_of}
use Rattle.c_types.specs.Types.{each_holds, same_rule, same_layer_rule, is_pointer_at, is_array_at, is_unlisted_at}
use Rattle.c_types.specs.Types.{is_cspec_at, is_vspec_at, is_function_at}

layers_hold : (xs ys : List Layer) → each_holds (map same_layer xs) ys ≡ same_layers xs ys
layers_hold [] [] = refl
layers_hold [] (y ∷ ys) = refl
layers_hold (x ∷ xs) [] = refl
layers_hold (x ∷ xs) (y ∷ ys) = ap (λ b. same_layer x y && b) (layers_hold xs ys)

lists_hold : (xs ys : List CType) → each_holds (map same xs) ys ≡ same_lists xs ys
lists_hold [] [] = refl
lists_hold [] (y ∷ ys) = refl
lists_hold (x ∷ xs) [] = refl
lists_hold (x ∷ xs) (y ∷ ys) = ap (λ b. same x y && b) (lists_hold xs ys)

-- the same base under the same layers
parts : (a b : CType) → same a b ≡ (same_base (base_of a) (base_of b) && same_layers (layers_of a) (layers_of b))
unfolding same same_layer
parts a b =
    ap (λ f. f b) (fold_out-CType (Layer → Bool) (CType → Bool) same_layer_rule same_rule a)
    ∙ ap (λ r. same_base (base_of a) (base_of b) && r) (layers_hold (layers_of a) (layers_of b))

pub by_parts : (r : Bool) (a b : CType) →
    r ≡ (same_base (base_of a) (base_of b) && same_layers (layers_of a) (layers_of b)) → r ≡ same a b
by_parts r a b e = e ∙ sym (parts a b)

-- the lists of two layers
abbrev pub function_same : List CType → Opened → Bool
function_same xs (Layer-F.Function ys) = same_lists xs ys
function_same xs _ = false

-- a layer opened, against another
abbrev pub opened_same : Opened → Opened → Bool
opened_same Layer-F.Pointer b = is_pointer_at b
opened_same (Layer-F.Array n) b = is_array_at n b
opened_same (Layer-F.Function xs) b = function_same xs b
opened_same Layer-F.Unlisted b = is_unlisted_at b
opened_same Layer-F.Cspec b = is_cspec_at b
opened_same Layer-F.Vspec b = is_vspec_at b

functions_hold : (xs : List CType) (b : Opened) → is_function_at (map same xs) b ≡ function_same xs b
functions_hold xs (Layer-F.Function ys) = lists_hold xs ys
functions_hold xs Layer-F.Pointer = refl
functions_hold xs (Layer-F.Array n) = refl
functions_hold xs Layer-F.Unlisted = refl
functions_hold xs Layer-F.Cspec = refl
functions_hold xs Layer-F.Vspec = refl

opened : (a : Opened) (b : Layer) →
    same_layer_rule (map-Layer Layer CType (Layer → Bool) (CType → Bool) same_layer same a) b ≡ opened_same a
    (out-Layer b)
opened Layer-F.Pointer b = refl
opened (Layer-F.Array n) b = refl
opened (Layer-F.Function xs) b = functions_hold xs (out-Layer b)
opened Layer-F.Unlisted b = refl
opened Layer-F.Cspec b = refl
opened Layer-F.Vspec b = refl

pub by_layer : (r : Bool) (a b : Layer) → r ≡ opened_same (out-Layer a) (out-Layer b) → r ≡ same_layer a b
unfolding same same_layer
by_layer r a b e =
    e
    ∙ sym (opened (out-Layer a) b)
    ∙ sym (ap (λ f. f b) (fold_out-Layer (Layer → Bool) (CType → Bool) same_layer_rule same_rule a))

pub other_layers : (xs ys : List Layer) → (length xs ≡ length ys → ⊥) → false ≡ same_layers xs ys
other_layers [] [] h = absurd (h refl)
other_layers [] (y ∷ ys) h = refl
other_layers (x ∷ xs) [] h = refl
other_layers (x ∷ xs) (y ∷ ys) h = grind (arith, other_layers xs ys)

pub other_lists : (xs ys : List CType) → (length xs ≡ length ys → ⊥) → false ≡ same_lists xs ys
other_lists [] [] h = absurd (h refl)
other_lists [] (y ∷ ys) h = refl
other_lists (x ∷ xs) [] h = refl
other_lists (x ∷ xs) (y ∷ ys) h = grind (arith, other_lists xs ys)

both_opened : (a b : Layer) (x y : Opened) → out-Layer a ≡ x → out-Layer b ≡ y →
    opened_same x y ≡ opened_same (out-Layer a) (out-Layer b)
both_opened a b x y e f = sym (ap (λ l. opened_same l (out-Layer b)) e ∙ ap (λ l. opened_same x l) f)

-- two arrays
pub arrays : (a b : Layer) (n m : ℕ) → a ≡ layer.Array n → b ≡ layer.Array m → (n == m) ≡ same_layer a b
arrays a b n m e f =
    by_layer (n == m) a b (both_opened a b (Layer-F.Array n) (Layer-F.Array m) (ap out-Layer e ∙ layer.outs-Array n)
    (ap out-Layer f ∙ layer.outs-Array m))

-- two functions
pub functions : (a b : Layer) (xs ys : List CType) → a ≡ layer.Function xs → b ≡ layer.Function ys →
    same_lists xs ys ≡ same_layer a b
functions a b xs ys e f =
    by_layer (same_lists xs ys) a b
    (both_opened a b (Layer-F.Function xs) (Layer-F.Function ys) (ap out-Layer e ∙ layer.outs-Function xs)
    (ap out-Layer f ∙ layer.outs-Function ys))
