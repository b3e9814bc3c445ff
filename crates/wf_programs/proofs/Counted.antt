-- At the end of the walk each name at file scope that is a function has the number of a function with as many
-- parameters as its type's list has. What is found of a name stays found, so this is known of each earlier state too.
use Rattle.std.proofs.Common.{◌≡◌, ℕ, zero, suc, ◌+◌, ◌-◌, ◌≤◌, ◌<◌, min, true, ◌&&◌, nat_le, refl, ap, sym, ◌∙◌, subst}
use Rattle.std.proofs.Common.{List, [], ◌∷◌, length, slice_get, Option, Some, None, ◌⊎◌, inl, inr, arith}
use Rattle.std.specs.Prelude.{option_map}
use Rattle.std.proofs.lemmas.Option.{slice_get-map}
use Rattle.c_types.specs.declared.ctype.CType.{CType}
use Rattle.c_types.specs.declared.ctype.Layer.{Layer, out-Layer}
use Rattle.c_types.specs.declared.ctype.Layer.TheOpen.{Layer-F}
use Rattle.check_scopes.specs.declared.names.Meaning.{Meaning}
use Rattle.check_scopes.specs.declared.names.MeaningKind.{MeaningKind}
use Rattle.check_scopes.specs.declared.names.MeaningKind.TheVariants as kind
use Rattle.check_scopes.specs.Scopes.{Name, Scopes, in_scope, find}
use Rattle.c_types.specs.Types.{Opened, base_of, layers_of, outermost, same, same_base, same_layers, same_layer}
use Rattle.c_types.specs.Types.{same_lists}
use Rattle.c_types.proofs.SameLaws.{by_parts, by_layer, opened_same}
use Rattle.typed_tree.specs.declared.program.Function.{Function}
use Rattle.check_rules.specs.declared.state.State.{State}
use Rattle.check_globals.specs.Functions.{types_of, types_by, types_at}
use Rattle.wellformed.specs.Accepted.{count_parameters}
use Rattle.wellformed.proofs.Bools.{first_true, second_true, le_true}
use Rattle.wf_nodes.specs.Right.{listed_at, listed_by, listed, HasType}
use Rattle.wf_programs.proofs.Files.{whole, many, End, AtFile, Linked, linked_at}
use Rattle.wf_programs.proofs.Finish.{few_functions}
use Rattle.wf_programs.proofs.Main.{Placed, placed_at, same_some}
use Rattle.wf_programs.proofs.Scopes.{IsFunction, Numbered, Declared, IsCallable, FileName, FileMeans, TopName}
use Rattle.wf_programs.proofs.Scopes.{TopMeans, found_entry}
use Rattle.wf_programs.proofs.Tables.{HasNumber, number_at}

-- ---- types with the same lists

list_length : (xs ys : List CType) → same_lists xs ys ≡ true → length ys ≡ length xs
list_length [] [] h = refl
list_length [] (y ∷ ys) h = absurd (cc)
list_length (x ∷ xs) [] h = absurd (cc)
list_length (x ∷ xs) (y ∷ ys) h = ap suc (list_length xs ys (second_true (same x y) (same_lists xs ys) h))

counts_at : (o p : Opened) (count : ℕ) → listed_at o ≡ Some count → opened_same o p ≡ true → length (types_at p) ≡ count
counts_at (Layer-F.Function xs) (Layer-F.Function ys) count h k =
    let e : length xs ≡ count = cc in list_length xs ys k ∙ e
counts_at (Layer-F.Function xs) Layer-F.Pointer count h k = absurd (cc)
counts_at (Layer-F.Function xs) (Layer-F.Array n) count h k = absurd (cc)
counts_at (Layer-F.Function xs) Layer-F.Unlisted count h k = absurd (cc)
counts_at (Layer-F.Function xs) Layer-F.Cspec count h k = absurd (cc)
counts_at (Layer-F.Function xs) Layer-F.Vspec count h k = absurd (cc)
counts_at Layer-F.Pointer p count h k = absurd (cc)
counts_at (Layer-F.Array n) p count h k = absurd (cc)
counts_at Layer-F.Unlisted p count h k = absurd (cc)
counts_at Layer-F.Cspec p count h k = absurd (cc)
counts_at Layer-F.Vspec p count h k = absurd (cc)

-- the layer in the same place
record Beside (ys : List Layer) (n : ℕ) (x : Layer) : Type 0 where
  other : Layer
  at : slice_get ys n ≡ Some other
  same : same_layer x other ≡ true

beside : (xs ys : List Layer) (n : ℕ) (x : Layer) → same_layers xs ys ≡ true → slice_get xs n ≡ Some x → Beside ys n x
beside [] ys n x h at = absurd (cc)
beside (z ∷ xs) [] n x h at = absurd (cc)
beside (z ∷ xs) (y ∷ ys) zero x h at =
    let e : z ≡ x = cc in
    record {
      other = y;
      at = refl;
      same = subst (λ (l : Layer). same_layer l y ≡ true) e (first_true (same_layer z y) (same_layers xs ys) h);
    }
beside (z ∷ xs) (y ∷ ys) (suc n) x h at =
    let b : Beside ys n x = beside xs ys n x (second_true (same_layer z y) (same_layers xs ys) h) at in
    record { other = b.other; at = b.at; same = b.same }

layers_length : (xs ys : List Layer) → same_layers xs ys ≡ true → length ys ≡ length xs
layers_length [] [] h = refl
layers_length [] (y ∷ ys) h = absurd (cc)
layers_length (x ∷ xs) [] h = absurd (cc)
layers_length (x ∷ xs) (y ∷ ys) h = ap suc (layers_length xs ys (second_true (same_layer x y) (same_layers xs ys) h))

same_counts : (xs ys : List Layer) (o : Option Layer) (count : ℕ) → same_layers xs ys ≡ true → outermost xs ≡ o
    → listed_by o ≡ Some count → length (types_by (outermost ys)) ≡ count
same_counts xs ys None count h e l = absurd (cc)
same_counts xs ys (Some x) count h e l =
    let b : Beside ys (length xs - 1) x = beside xs ys (length xs - 1) x h e in
    let last : outermost ys ≡ Some b.other = ap (λ (n : ℕ). slice_get ys (n - 1)) (layers_length xs ys h) ∙ b.at in
    ap (λ (z : Option Layer). length (types_by z)) last
    ∙ counts_at (out-Layer x) (out-Layer b.other) count l
    (by_layer (opened_same (out-Layer x) (out-Layer b.other)) x b.other refl ∙ b.same)

own_at : (o : Opened) (count : ℕ) → listed_at o ≡ Some count → length (types_at o) ≡ count
own_at (Layer-F.Function xs) count h = cc
own_at Layer-F.Pointer count h = absurd (cc)
own_at (Layer-F.Array n) count h = absurd (cc)
own_at Layer-F.Unlisted count h = absurd (cc)
own_at Layer-F.Cspec count h = absurd (cc)
own_at Layer-F.Vspec count h = absurd (cc)

own_count : (o : Option Layer) (count : ℕ) → listed_by o ≡ Some count → length (types_by o) ≡ count
own_count None count h = absurd (cc)
own_count (Some l) count h = own_at (out-Layer l) count h

-- a type that is this one, or the same as it, has as many types in its list
pub list_count : (a t : CType) (count : ℕ) → (a ≡ t) ⊎ (same a t ≡ true) → listed a ≡ Some count
    → length (types_of t) ≡ count
list_count a t count (inl e) h =
    subst (λ (u : CType). length (types_of u) ≡ count) e (own_count (outermost (layers_of a)) count h)
list_count a t count (inr e) h =
    same_counts (layers_of a) (layers_of t) (outermost (layers_of a)) count
    (second_true (same_base (base_of a) (base_of t)) (same_layers (layers_of a) (layers_of t))
    (by_parts (same_base (base_of a) (base_of t) && same_layers (layers_of a) (layers_of t)) a t refl ∙ e))
    refl h

-- ---- the function of a number

get_below : {A : Type 0} (xs : List A) (n : ℕ) (x : A) → slice_get xs n ≡ Some x → n < length xs
get_below [] n x at = absurd (cc)
get_below (y ∷ xs) zero x at = omega arith
get_below (y ∷ xs) (suc n) x at = let h : n < length xs = get_below xs n x at in omega arith

has_number : (e : State) (name : Name) (n : ℕ) → End e → IsFunction (whole e) e.functions name n
    → HasNumber (whole e) name n
has_number e name n end (Numbered h) = h
has_number e name n end (Declared i p at same is) =
    let h : HasNumber (whole e) p.name _ = end.numbers i p at in
    record { place = h.place; is = h.is ∙ ap Some same; number = is ∙ h.number }

-- at this place stands the function of this name
parameters_at : (e : State) (i count : ℕ) (f : Function) → slice_get e.functions.all i ≡ Some f → f.params ≡ count
    → slice_get (many e) i ≡ Some count
parameters_at e i count f at is =
    slice_get-map count_parameters e.functions.all i ∙ ap (option_map count_parameters) at ∙ ap Some is

has_type : (e : State) (file : AtFile e e) (name : Name) (m : Meaning) → End e → in_scope file.scope name ≡ Some m
    → HasNumber (whole e) name m.index → IsCallable m.ctype
    → HasType (many e) m.index m.ctype
has_type e file name m end here h callable =
    let p : Placed e.functions.all h.place name = placed_at e.functions.all h.place name h.is in
    let l : Linked file.scope p.function = linked_at file.scope e.functions.all h.place p.function file.linked p.is in
    let there : in_scope file.scope name ≡ Some l.what
    = ap (λ (n : Name). in_scope file.scope n) (sym p.named) ∙ l.found in
    let same : m ≡ l.what = same_some m l.what (sym here ∙ there) in
    let below : h.place < length e.functions.all = get_below e.functions.all h.place p.function p.is in
    let few : length e.functions.all ≤ 15728640 = few_functions e end.limits in
    let number : m.index ≡ number_at h.place = h.number in
    let first : 1 ≤ m.index = omega arith in
    let before : m.index - 1 ≡ h.place = omega arith in
    record {
      first = le_true 1 m.index first;
      list = callable.list;
      at = λ count is.
          let types : length (types_of l.type) ≡ count
          = list_count l.what.ctype l.type count l.same (ap (λ (x : Meaning). listed x.ctype) (sym same) ∙ is) in
          let params : p.function.params ≡ min (length (types_of l.type)) 4294967295 = l.params in
          let small : length (types_of l.type) ≤ 8 = l.few in
          ap (λ (i : ℕ). slice_get (many e) i) before ∙ parameters_at e h.place count p.function p.is (omega arith);
    }

-- ---- each name

means_then : (e : State) (file : AtFile e e) (name : Name) (m : Meaning) (k : MeaningKind) → End e
    → in_scope file.scope name ≡ Some m → FileMeans (whole e) e.functions name m k → TopMeans (many e) m k
means_then e file name m kind.Variable end here h = h
means_then e file name m kind.Parameter end here h = h
means_then e file name m kind.Global end here h = h
means_then e file name m kind.Function end here h =
    (has_type e file name m end here (has_number e name m.index end h.0) h.1, h.1.type)
means_then e file name m kind.Library end here h = h

-- what is found at the end means this
abbrev pub EndNames : State → Type 0
EndNames e = (name : Name) (m : Meaning) → find e.scopes name ≡ Some m → TopName (many e) name m

pub end_names : (e : State) → End e → AtFile e e → EndNames e
end_names e end file name m is =
    let here : in_scope file.scope name ≡ Some m = ap (λ (ss : Scopes). find ss name) (sym file.one) ∙ is in
    means_then e file name m m.kind end here
    (found_entry (FileName (whole e) e.functions) file.scope name m file.names here)
