-- Two lists of layers have the same code just where they are the same.
use Rattle.std.proofs.Common.{◌≡◌, ℕ, zero, suc, ◌+◌, ◌<◌, Bool, true, false, ◌&&◌, List, [], ◌∷◌, ◌++◌, map, nat_eq}
use Rattle.std.proofs.Common.{◌/◌, ◌%◌, refl, sym, ap, ◌∙◌, subst, arith}
use lib.Pointwise.{pointwise}
use Rattle.std.specs.Prelude.{◌==◌}
use Rattle.std.proofs.lemmas.List.{append_assoc}
use Rattle.c_types.specs.declared.ctype.Integer.{Integer}
use Rattle.c_types.specs.declared.ctype.Integer.TheVariants as kind
use Rattle.c_types.specs.declared.ctype.Base.{Base}
use Rattle.c_types.specs.declared.ctype.Base.TheVariants as base
use Rattle.c_types.specs.declared.ctype.CType.{CType, roll-CType}
use Rattle.c_types.specs.declared.ctype.Layer.{Layer, out-Layer, roll-Layer}
use Rattle.c_types.specs.declared.ctype.Layer.TheOpen.{Layer-F, CType-F}
use Rattle.c_types.specs.declared.ctype.Layer.TheFolds.{fold-roll-Layer, fold-roll-CType, fold_out-Layer}
use Rattle.c_types.specs.declared.ctype.Layer.TheFolds.{fold_out-CType, ind-Layer, map-Layer, map-CType}
use Rattle.c_types.specs.Types.{Opened, same, same_layer, same_layers, same_integer, same_base, base_of, layers_of}
use Rattle.c_types.specs.Types.{each_holds, same_at, same_layer_rule, same_rule}
use Rattle.c_type_refs.specs.Codes.{kind_code, base_code, digits, more_digits, array_code, joined, layer_rule}
use Rattle.c_type_refs.specs.Codes.{type_rule, function_code, layer_code, type_code, codes}

and_assoc : (a b c : Bool) → (a && (b && c)) ≡ ((a && b) && c)
and_assoc true b c = refl
and_assoc false b c = refl

and_true : (a : Bool) → (a && true) ≡ a
and_true true = refl
and_true false = refl

-- ---- one code after another

-- a code that is followed by others tells the thing that it is of
abbrev Tells : {A : Type 0} → (A → List ℕ) → (A → A → Bool) → A → Type 0
Tells {A} code same x = (y : A) (s t : List ℕ) →
    pointwise nat_eq (code x ++ s) (code y ++ t) ≡ (same x y && pointwise nat_eq s t)

-- a code that begins with something else than the mark at the end
abbrev Begins : List ℕ → Type 0
Begins [] = ⊥
Begins (c ∷ cs) = c < 15

ends_here : (c s t : List ℕ) → Begins c → pointwise nat_eq (15 ∷ s) (c ++ t) ≡ false
ends_here [] s t h = absurd h
ends_here (c ∷ cs) s t h = grind (arith)

goes_on : (c s t : List ℕ) → Begins c → pointwise nat_eq (c ++ s) (15 ∷ t) ≡ false
goes_on [] s t h = absurd h
goes_on (c ∷ cs) s t h = grind (arith)

-- a code beside none
nothing_begins : (c t : List ℕ) → Begins c → pointwise nat_eq [] (c ++ t) ≡ false
nothing_begins [] t h = absurd h
nothing_begins (c ∷ cs) t h = refl

begins_something : (c s : List ℕ) → Begins c → pointwise nat_eq (c ++ s) [] ≡ false
begins_something [] s h = absurd h
begins_something (c ∷ cs) s h = refl

kinds : (a b : Integer) → nat_eq (kind_code a) (kind_code b) ≡ same_integer a b
kinds a b = grind (arith)

module _ {A : Type 0} (code : A → List ℕ) (same : A → A → Bool) (begins : (x : A) → Begins (code x)) where
  abbrev Known : Type 0
  Known = (x : A) × Tells code same x

  -- lists with a mark behind each
  listed : (ks : List Known) (ys : List A) (s t : List ℕ) →
      pointwise nat_eq (joined (map code (map (λ k. k.0) ks)) ++ 15 ∷ s) (joined (map code ys) ++ 15 ∷ t) ≡
      (each_holds (map same (map (λ k. k.0) ks)) ys && pointwise nat_eq s t)
  listed [] [] s t = refl
  listed [] (y ∷ ys) s t =
      ap (λ c. pointwise nat_eq (15 ∷ s) c) (append_assoc (code y) (joined (map code ys)) (15 ∷ t))
      ∙ ends_here (code y) s (joined (map code ys) ++ 15 ∷ t) (begins y)
  listed (k ∷ ks) [] s t =
      ap (λ c. pointwise nat_eq c (15 ∷ t)) (append_assoc (code k.0) (joined (map code (map (λ k. k.0) ks))) (15 ∷ s))
      ∙ goes_on (code k.0) (joined (map code (map (λ k. k.0) ks)) ++ 15 ∷ s) t (begins k.0)
  listed (k ∷ ks) (y ∷ ys) s t =
      let xs = joined (map code (map (λ k. k.0) ks)) in
      ap (λ c. pointwise nat_eq c ((code y ++ joined (map code ys)) ++ 15 ∷ t)) (append_assoc (code k.0) xs (15 ∷ s))
      ∙ ap (λ c. pointwise nat_eq (code k.0 ++ (xs ++ 15 ∷ s)) c)
      (append_assoc (code y) (joined (map code ys)) (15 ∷ t))
      ∙ k.1 y (xs ++ 15 ∷ s) (joined (map code ys) ++ 15 ∷ t)
      ∙ ap (λ b. same k.0 y && b) (listed ks ys s t)
      ∙ and_assoc (same k.0 y) (each_holds (map same (map (λ k. k.0) ks)) ys) (pointwise nat_eq s t)

-- ---- bases and counts

bases : (a b : Base) → nat_eq (base_code a) (base_code b) ≡ same_base a b
bases base.Void base.Void = refl
bases base.Void (base.Integer k) = grind (arith)
bases (base.Integer k) base.Void = grind (arith)
bases (base.Integer k) (base.Integer j) = kinds k j

-- a number by its low digit and the rest
by_digit : (n m : ℕ) (r : Bool) → (nat_eq (n % 16) (m % 16) && ((n / 16 == m / 16) && r)) ≡ ((n == m) && r)
by_digit n m r = grind (arith)

-- a number by as many digits
counts : (more n m : ℕ) (s t : List ℕ) →
    pointwise nat_eq (digits more n ++ s) (digits more m ++ t) ≡ ((n == m) && pointwise nat_eq s t)
counts zero n m s t = refl
counts (suc more) n m s t =
    ap (λ b. nat_eq (n % 16) (m % 16) && b) (counts more (n / 16) (m / 16) s t) ∙ by_digit n m (pointwise nat_eq s t)

-- as many digits
same_count : (a b : ℕ) → nat_eq (7 + a) (7 + b) ≡ true → a ≡ b
same_count a b h = grind (arith)

-- the same number has as many digits
as_many : (d : ℕ → ℕ) (n m : ℕ) → nat_eq (7 + d n) (7 + d m) ≡ false → (n == m) ≡ false
as_many d n m h = grind (arith)

-- a number with how many digits it has, however they are counted
counted : (d : ℕ → ℕ) (n m : ℕ) (s t : List ℕ) (b : Bool) → nat_eq (7 + d n) (7 + d m) ≡ b →
    (nat_eq (7 + d n) (7 + d m) && pointwise nat_eq (digits (d n) n ++ s) (digits (d m) m ++ t)) ≡
    ((n == m) && pointwise nat_eq s t)
counted d n m s t true h =
    rw h (ap (λ k. pointwise nat_eq (digits k n ++ s) (digits (d m) m ++ t)) (same_count (d n) (d m) h)
    ∙ counts (d m) n m s t)
counted d n m s t false h = rw (h, as_many d n m h) refl

-- an array by its length
arrays : (n m : ℕ) (s t : List ℕ) →
    pointwise nat_eq (array_code n ++ s) (array_code m ++ t) ≡ ((n == m) && pointwise nat_eq s t)
arrays n m s t = counted more_digits n m s t (nat_eq (7 + more_digits n) (7 + more_digits m)) refl

-- no more than the symbols below the mark at the end tell
few_digits : (n : ℕ) → more_digits n < 8
few_digits n = grind (arith)

array_begins : (n : ℕ) → Begins (array_code n)
array_begins n = omega (arith, few_digits n)

-- the code of another layer beside that of an array
below_array : (c d : ℕ) → c < 7 → nat_eq c (7 + d) ≡ false
below_array c d h = grind (arith)

above_others : (d c : ℕ) → c < 7 → nat_eq (7 + d) c ≡ false
above_others d c h = grind (arith)

other_beside_array : (c m : ℕ) (s t : List ℕ) → c < 7 → pointwise nat_eq (c ∷ s) (array_code m ++ t) ≡ false
other_beside_array c m s t h =
    ap (λ b. b && pointwise nat_eq s (digits (more_digits m) m ++ t)) (below_array c (more_digits m) h)

array_beside_other : (n c : ℕ) (s t : List ℕ) → c < 7 → pointwise nat_eq (array_code n ++ s) (c ∷ t) ≡ false
array_beside_other n c s t h =
    ap (λ b. b && pointwise nat_eq (digits (more_digits n) n ++ s) t) (above_others (more_digits n) c h)

-- the code of a function beside that of another layer
other_beside_function : (c : ℕ) (cs : List (List ℕ)) (s t : List ℕ) → c < 4 →
    pointwise nat_eq (c ∷ s) (function_code cs ++ t) ≡ false
other_beside_function c [] s t h = grind (arith)
other_beside_function c (d ∷ []) s t h = grind (arith)
other_beside_function c (d ∷ e ∷ cs) s t h = grind (arith)

function_beside_other : (cs : List (List ℕ)) (c : ℕ) (s t : List ℕ) → c < 4 →
    pointwise nat_eq (function_code cs ++ s) (c ∷ t) ≡ false
function_beside_other [] c s t h = grind (arith)
function_beside_other (d ∷ []) c s t h = grind (arith)
function_beside_other (d ∷ e ∷ cs) c s t h = grind (arith)

function_beside_array : (cs : List (List ℕ)) (m : ℕ) (s t : List ℕ) →
    pointwise nat_eq (function_code cs ++ s) (array_code m ++ t) ≡ false
function_beside_array [] m s t = other_beside_array 4 m s t (omega arith)
function_beside_array (c ∷ []) m s t = other_beside_array 5 m (c ++ s) t (omega arith)
function_beside_array (c ∷ d ∷ cs) m s t =
    other_beside_array 6 m ((joined (c ∷ d ∷ cs) ++ 15 ∷ []) ++ s) t (omega arith)

array_beside_function : (n : ℕ) (cs : List (List ℕ)) (s t : List ℕ) →
    pointwise nat_eq (array_code n ++ s) (function_code cs ++ t) ≡ false
array_beside_function n [] s t = array_beside_other n 4 s t (omega arith)
array_beside_function n (c ∷ []) s t = array_beside_other n 5 s (c ++ t) (omega arith)
array_beside_function n (c ∷ d ∷ cs) s t =
    array_beside_other n 6 s ((joined (c ∷ d ∷ cs) ++ 15 ∷ []) ++ t) (omega arith)

function_begins : (cs : List (List ℕ)) → Begins (function_code cs)
function_begins [] = omega arith
function_begins (c ∷ []) = omega arith
function_begins (c ∷ d ∷ cs) = omega arith

-- ---- layers and types

begins_at : (o : Layer-F (List ℕ) (List ℕ)) → Begins (layer_rule o)
begins_at Layer-F.Pointer = omega arith
begins_at Layer-F.Unlisted = omega arith
begins_at Layer-F.Cspec = omega arith
begins_at Layer-F.Vspec = omega arith
begins_at (Layer-F.Function cs) = function_begins cs
begins_at (Layer-F.Array n) = array_begins n

-- a layer of codes
abbrev coded : Opened → Layer-F (List ℕ) (List ℕ)
coded o = map-Layer Layer CType (List ℕ) (List ℕ) layer_code type_code o

layer_begins : (l : Layer) → Begins (layer_code l)
unfolding layer_code type_code
layer_begins l = subst Begins (sym (fold_out-Layer (List ℕ) (List ℕ) layer_rule type_rule l))
    (begins_at (coded (out-Layer l)))

base_begins : (b : Base) → base_code b < 15
base_begins base.Void = omega arith
base_begins (base.Integer kind.Char) = omega arith
base_begins (base.Integer kind.UnsignedChar) = omega arith
base_begins (base.Integer kind.Short) = omega arith
base_begins (base.Integer kind.UnsignedShort) = omega arith
base_begins (base.Integer kind.Int) = omega arith
base_begins (base.Integer kind.Unsigned) = omega arith

type_begins : (t : CType) → Begins (type_code t)
unfolding layer_code type_code
type_begins t = subst Begins (sym (fold_out-CType (List ℕ) (List ℕ) layer_rule type_rule t)) (base_begins (base_of t))

-- a layer and a type with what their codes tell
abbrev KnownLayer : Type 0
KnownLayer = Known layer_code same_layer layer_begins

abbrev KnownType : Type 0
KnownType = Known type_code same type_begins

-- a layer of these, of layers alone, and of tests
abbrev plain : Layer-F KnownLayer KnownType → Opened
plain y = map-Layer KnownLayer KnownType Layer CType (λ k. k.0) (λ k. k.0) y

abbrev asked : Opened → Layer-F (Layer → Bool) (CType → Bool)
asked o = map-Layer Layer CType (Layer → Bool) (CType → Bool) same_layer same o

none_holds : (b c : Bool) → false ≡ ((b && false) && c)
none_holds true c = refl
none_holds false c = refl

-- functions of known types
functions : (ks : List KnownType) (ys : List CType) (s t : List ℕ) →
    pointwise nat_eq (function_code (map type_code (map (λ k. k.0) ks)) ++ s) (function_code (map type_code ys) ++ t) ≡
    (each_holds (map same (map (λ k. k.0) ks)) ys && pointwise nat_eq s t)
functions [] [] s t = refl
functions [] (y ∷ []) s t = refl
functions [] (y ∷ z ∷ ys) s t = refl
functions (k ∷ []) [] s t = refl
functions (k ∷ []) (y ∷ []) s t = k.1 y s t ∙ ap (λ b. b && pointwise nat_eq s t) (sym (and_true (same k.0 y)))
functions (k ∷ []) (y ∷ z ∷ ys) s t = none_holds (same k.0 y) (pointwise nat_eq s t)
functions (k ∷ j ∷ ks) [] s t = refl
functions (k ∷ j ∷ ks) (y ∷ []) s t = none_holds (same k.0 y) (pointwise nat_eq s t)
functions (k ∷ j ∷ ks) (y ∷ z ∷ ys) s t =
    ap (λ c. pointwise nat_eq c ((joined (map type_code (y ∷ z ∷ ys)) ++ 15 ∷ []) ++ t))
    (append_assoc (joined (map type_code (map (λ k. k.0) (k ∷ j ∷ ks)))) (15 ∷ []) s)
    ∙ ap (λ c. pointwise nat_eq (joined (map type_code (map (λ k. k.0) (k ∷ j ∷ ks))) ++ 15 ∷ s) c)
    (append_assoc (joined (map type_code (y ∷ z ∷ ys))) (15 ∷ []) t)
    ∙ listed type_code same type_begins (k ∷ j ∷ ks) (y ∷ z ∷ ys) s t

-- layers of known parts
opened : (y : Layer-F KnownLayer KnownType) (b : Opened) (s t : List ℕ) →
    pointwise nat_eq (layer_rule (coded (plain y)) ++ s) (layer_rule (coded b) ++ t) ≡
    (same_at (asked (plain y)) b && pointwise nat_eq s t)
opened (Layer-F.Function ks) (Layer-F.Function ys) s t = functions ks ys s t
opened (Layer-F.Array n) (Layer-F.Array m) s t = arrays n m s t
opened Layer-F.Pointer Layer-F.Pointer s t = refl
opened Layer-F.Pointer Layer-F.Unlisted s t = refl
opened Layer-F.Pointer Layer-F.Cspec s t = refl
opened Layer-F.Pointer Layer-F.Vspec s t = refl
opened Layer-F.Pointer (Layer-F.Function ys) s t = other_beside_function 0 (map type_code ys) s t (omega arith)
opened Layer-F.Pointer (Layer-F.Array m) s t = other_beside_array 0 m s t (omega arith)
opened Layer-F.Unlisted Layer-F.Pointer s t = refl
opened Layer-F.Unlisted Layer-F.Unlisted s t = refl
opened Layer-F.Unlisted Layer-F.Cspec s t = refl
opened Layer-F.Unlisted Layer-F.Vspec s t = refl
opened Layer-F.Unlisted (Layer-F.Function ys) s t = other_beside_function 1 (map type_code ys) s t (omega arith)
opened Layer-F.Unlisted (Layer-F.Array m) s t = other_beside_array 1 m s t (omega arith)
opened Layer-F.Cspec Layer-F.Pointer s t = refl
opened Layer-F.Cspec Layer-F.Unlisted s t = refl
opened Layer-F.Cspec Layer-F.Cspec s t = refl
opened Layer-F.Cspec Layer-F.Vspec s t = refl
opened Layer-F.Cspec (Layer-F.Function ys) s t = other_beside_function 2 (map type_code ys) s t (omega arith)
opened Layer-F.Cspec (Layer-F.Array m) s t = other_beside_array 2 m s t (omega arith)
opened Layer-F.Vspec Layer-F.Pointer s t = refl
opened Layer-F.Vspec Layer-F.Unlisted s t = refl
opened Layer-F.Vspec Layer-F.Cspec s t = refl
opened Layer-F.Vspec Layer-F.Vspec s t = refl
opened Layer-F.Vspec (Layer-F.Function ys) s t = other_beside_function 3 (map type_code ys) s t (omega arith)
opened Layer-F.Vspec (Layer-F.Array m) s t = other_beside_array 3 m s t (omega arith)
opened (Layer-F.Function ks) Layer-F.Pointer s t =
    function_beside_other (map type_code (map (λ k. k.0) ks)) 0 s t (omega arith)
opened (Layer-F.Function ks) Layer-F.Unlisted s t =
    function_beside_other (map type_code (map (λ k. k.0) ks)) 1 s t (omega arith)
opened (Layer-F.Function ks) Layer-F.Cspec s t =
    function_beside_other (map type_code (map (λ k. k.0) ks)) 2 s t (omega arith)
opened (Layer-F.Function ks) Layer-F.Vspec s t =
    function_beside_other (map type_code (map (λ k. k.0) ks)) 3 s t (omega arith)
opened (Layer-F.Function ks) (Layer-F.Array m) s t =
    function_beside_array (map type_code (map (λ k. k.0) ks)) m s t
opened (Layer-F.Array n) Layer-F.Pointer s t = array_beside_other n 0 s t (omega arith)
opened (Layer-F.Array n) Layer-F.Unlisted s t = array_beside_other n 1 s t (omega arith)
opened (Layer-F.Array n) Layer-F.Cspec s t = array_beside_other n 2 s t (omega arith)
opened (Layer-F.Array n) Layer-F.Vspec s t = array_beside_other n 3 s t (omega arith)
opened (Layer-F.Array n) (Layer-F.Function ys) s t = array_beside_function n (map type_code ys) s t

abbrev known_type : CType-F KnownLayer KnownType → CType-F Layer CType
known_type y = map-CType KnownLayer KnownType Layer CType (λ k. k.0) (λ k. k.0) y

-- ---- each layer and each type, by its parts

layer_step : (y : Layer-F KnownLayer KnownType) → Tells layer_code same_layer (roll-Layer (plain y))
unfolding layer_code type_code same_layer same
layer_step y b s t =
    ap (λ c. pointwise nat_eq (c ++ s) (layer_code b ++ t))
    (fold-roll-Layer (List ℕ) (List ℕ) layer_rule type_rule (plain y))
    ∙ ap (λ c. pointwise nat_eq (layer_rule (coded (plain y)) ++ s) (c ++ t))
    (fold_out-Layer (List ℕ) (List ℕ) layer_rule type_rule b)
    ∙ opened y (out-Layer b) s t
    ∙ ap (λ f. f b && pointwise nat_eq s t)
    (sym (fold-roll-Layer (Layer → Bool) (CType → Bool) same_layer_rule same_rule (plain y)))

type_opened : (y : CType-F KnownLayer KnownType) (b : CType) (s t : List ℕ) →
    pointwise nat_eq ((base_code y.base ∷ (joined (map layer_code (map (λ k. k.0) y.layers)) ++ 15 ∷ [])) ++ s)
    ((base_code (base_of b) ∷ (joined (map layer_code (layers_of b)) ++ 15 ∷ [])) ++ t) ≡
    ((same_base y.base (base_of b) && each_holds (map same_layer (map (λ k. k.0) y.layers)) (layers_of b)) && pointwise
    nat_eq s t)
type_opened y b s t =
    let xs = joined (map layer_code (map (λ k. k.0) y.layers)) in
    let ys = joined (map layer_code (layers_of b)) in
    ap (λ c. nat_eq (base_code y.base) (base_code (base_of b)) && pointwise nat_eq c ((ys ++ 15 ∷ []) ++ t))
    (append_assoc xs (15 ∷ []) s)
    ∙ ap (λ c. nat_eq (base_code y.base) (base_code (base_of b)) && pointwise nat_eq (xs ++ 15 ∷ s) c)
    (append_assoc ys (15 ∷ []) t)
    ∙ ap (λ c. c && pointwise nat_eq (xs ++ 15 ∷ s) (ys ++ 15 ∷ t)) (bases y.base (base_of b))
    ∙ ap (λ c. same_base y.base (base_of b) && c) (listed layer_code same_layer layer_begins y.layers (layers_of b) s t)
    ∙ and_assoc (same_base y.base (base_of b)) (each_holds (map same_layer (map (λ k. k.0) y.layers)) (layers_of b))
    (pointwise nat_eq s t)

type_step : (y : CType-F KnownLayer KnownType) → Tells type_code same (roll-CType (known_type y))
unfolding layer_code type_code same_layer same
type_step y b s t =
    ap (λ c. pointwise nat_eq (c ++ s) (type_code b ++ t))
    (fold-roll-CType (List ℕ) (List ℕ) layer_rule type_rule (known_type y))
    ∙ ap (λ c. pointwise nat_eq
    (type_rule (map-CType Layer CType (List ℕ) (List ℕ) layer_code type_code (known_type y)) ++ s) (c ++ t))
    (fold_out-CType (List ℕ) (List ℕ) layer_rule type_rule b)
    ∙ type_opened y b s t
    ∙ ap (λ f. f b && pointwise nat_eq s t)
    (sym (fold-roll-CType (Layer → Bool) (CType → Bool) same_layer_rule same_rule (known_type y)))

layer_tells : (l : Layer) → Tells layer_code same_layer l
layer_tells = ind-Layer (Tells layer_code same_layer) (Tells type_code same)
    (λ x y is. subst (λ z. Tells layer_code same_layer (roll-Layer z)) is (layer_step y))
    (λ x y is. subst (λ z. Tells type_code same (roll-CType z)) is (type_step y))

-- the codes are the same just where the layers are
pub codes_same : (xs ys : List Layer) → pointwise nat_eq (codes xs) (codes ys) ≡ same_layers xs ys
codes_same [] [] = refl
codes_same [] (y ∷ ys) = nothing_begins (layer_code y) (codes ys) (layer_begins y)
codes_same (x ∷ xs) [] = begins_something (layer_code x) (codes xs) (layer_begins x)
codes_same (x ∷ xs) (y ∷ ys) = layer_tells x y (codes xs) (codes ys) ∙ ap (λ b. same_layer x y && b) (codes_same xs ys)
