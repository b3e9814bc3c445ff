-- `main` is one of the functions, and none of that name has parameters.
use Rattle.std.proofs.Common.{◌≡◌, ℕ, zero, suc, min, ◌==◌, true, ◌&&◌, refl, ap, sym, ◌∙◌, subst, List, [], ◌∷◌}
use Rattle.std.proofs.Common.{length, codes, slice_get, Option, Some, None, is_some, ◌⊎◌, inl, inr}
use Rattle.c_types.specs.declared.ctype.CType.{CType}
use Rattle.c_types.specs.declared.ctype.Layer.{Layer, out-Layer}
use Rattle.c_types.specs.declared.ctype.Layer.TheOpen.{Layer-F}
use Rattle.check_scopes.specs.declared.names.Meaning.{Meaning}
use Rattle.check_scopes.specs.Scopes.{Name, Scopes, in_scope, find}
use Rattle.c_types.specs.Types.{Opened, base_of, layers_of, outermost, same, same_base, same_layers, same_layer}
use Rattle.c_types.specs.Types.{same_lists}
use Rattle.c_types.proofs.SameLaws.{by_parts, by_layer, opened_same}
use Rattle.check_forms.specs.Forms.{is_nil}
use Rattle.typed_tree.specs.declared.program.Function.{Function}
use Rattle.check_rules.specs.Functions as tables
use Rattle.check_rules.specs.declared.state.State.{State}
use Rattle.check_globals.specs.Functions.{count_of, types_of, types_by, types_at}
use Rattle.check_globals.specs.Names as names
use Rattle.check_globals.specs.Programs.{is_main_type, takes_none, takes_none_at, is_int, is_main, has_main}
use Rattle.wellformed.proofs.Bools.{first_true, second_true}
use Rattle.wf_programs.proofs.Files.{AtFile, Linked, linked_at, names_of}
use Rattle.wf_programs.proofs.Tables.{with_names, keys, keys_of, key_found, Stands}
use Rattle.wf_programs.proofs.Bools.{two_not_one, never_both}

-- ---- its type

-- a list of no parameters stands outermost
no_list : (o : Opened) → takes_none_at o ≡ true → types_at o ≡ []
no_list Layer-F.Pointer h = refl
no_list (Layer-F.Array n) h = refl
no_list (Layer-F.Function []) h = refl
no_list (Layer-F.Function (t ∷ ts)) h = absurd (cc)
no_list Layer-F.Unlisted h = refl
no_list Layer-F.Cspec h = refl
no_list Layer-F.Vspec h = refl

no_types : (o : Option Layer) → takes_none o ≡ true → types_by o ≡ []
no_types None h = refl
no_types (Some l) h = no_list (out-Layer l) h

lists_nil : (xs ys : List CType) → is_nil xs ≡ true → same_lists xs ys ≡ true → ys ≡ []
lists_nil [] [] h k = refl
lists_nil [] (y ∷ ys) h k = absurd (cc)
lists_nil (x ∷ xs) ys h k = absurd (cc)

-- what is the same as such a layer has none
other_list : (o p : Opened) → takes_none_at o ≡ true → opened_same o p ≡ true → types_at p ≡ []
other_list (Layer-F.Function xs) (Layer-F.Function ys) h k = lists_nil xs ys h k
other_list (Layer-F.Function xs) Layer-F.Pointer h k = refl
other_list (Layer-F.Function xs) (Layer-F.Array n) h k = refl
other_list (Layer-F.Function xs) Layer-F.Unlisted h k = refl
other_list (Layer-F.Function xs) Layer-F.Cspec h k = refl
other_list (Layer-F.Function xs) Layer-F.Vspec h k = refl
other_list Layer-F.Pointer p h k = absurd (cc)
other_list (Layer-F.Array n) p h k = absurd (cc)
other_list Layer-F.Unlisted p h k = absurd (cc)
other_list Layer-F.Cspec p h k = absurd (cc)
other_list Layer-F.Vspec p h k = absurd (cc)

other_layer : (a b : Layer) → takes_none (Some a) ≡ true → same_layer a b ≡ true → types_by (Some b) ≡ []
other_layer a b h k = other_list (out-Layer a) (out-Layer b) h
    (by_layer (opened_same (out-Layer a) (out-Layer b)) a b refl ∙ k)

other_layers : (xs ys : List Layer) → (length xs == 1) ≡ true → takes_none (outermost xs) ≡ true →
    same_layers xs ys ≡ true → types_by (outermost ys) ≡ []
other_layers [] ys one h k = absurd (cc)
other_layers (x ∷ y ∷ xs) ys one h k = absurd (two_not_one (length xs) one)
other_layers (x ∷ []) [] one h k = absurd (cc)
other_layers (x ∷ []) (y ∷ z ∷ ys) one h k =
    absurd (let e : same_layers (x ∷ []) (y ∷ z ∷ ys) ≡ true = k in never_both (same_layer x y) e)
other_layers (x ∷ []) (y ∷ []) one h k = other_layer x y h (first_true (same_layer x y) true k)

-- a type that is that of `main`, or the same as it, has no parameters
pub main_list : (a t : CType) → (a ≡ t) ⊎ (same a t ≡ true) → is_main_type a ≡ true → types_of t ≡ []
main_list a t (inl e) h =
    subst (λ (u : CType). types_of u ≡ []) e
    (no_types (outermost (layers_of a))
    (second_true (length (layers_of a) == 1) (takes_none (outermost (layers_of a)))
    (first_true (length (layers_of a) == 1 && takes_none (outermost (layers_of a))) (is_int (base_of a)) h)))
main_list a t (inr e) h =
    let shape : (length (layers_of a) == 1 && takes_none (outermost (layers_of a))) ≡ true =
    first_true (length (layers_of a) == 1 && takes_none (outermost (layers_of a))) (is_int (base_of a)) h in
    let layers : same_layers (layers_of a) (layers_of t) ≡ true
    = second_true (same_base (base_of a) (base_of t)) (same_layers (layers_of a) (layers_of t))
    (by_parts (same_base (base_of a) (base_of t) && same_layers (layers_of a) (layers_of t)) a t refl ∙ e) in
    other_layers (layers_of a) (layers_of t)
    (first_true (length (layers_of a) == 1) (takes_none (outermost (layers_of a))) shape)
    (second_true (length (layers_of a) == 1) (takes_none (outermost (layers_of a))) shape) layers

-- ---- the function

pub record HasMain (fs : List Function) : Type 0 where
  pub place : ℕ
  pub function : Function
  pub is : slice_get fs place ≡ Some function
  pub name : function.name ≡ codes "main"
  pub none : (n : ℕ) (f : Function) → slice_get fs n ≡ Some f → f.name ≡ codes "main" → f.params ≡ 0

record Meant (s : State) : Type 0 where
  what : Meaning
  found : find s.scopes (codes "main") ≡ Some what
  defined : tables.is_defined (codes "main") s.functions ≡ true
  type : is_main_type what.ctype ≡ true

meant : (s : State) (o : Option Meaning) → find s.scopes (codes "main") ≡ o →
    is_main (tables.is_defined (codes "main") s.functions) o ≡ true → Meant s
meant s None e h = absurd (cc)
meant s (Some m) e h =
    let a : (names.is_function m.kind && tables.is_defined (codes "main") s.functions) ≡ true
    = first_true (names.is_function m.kind && tables.is_defined (codes "main") s.functions) (is_main_type m.ctype) h in
    record {
      what = m;
      found = e;
      defined = second_true (names.is_function m.kind) (tables.is_defined (codes "main") s.functions) a;
      type = second_true (names.is_function m.kind && tables.is_defined (codes "main") s.functions)
          (is_main_type m.ctype) h;
    }

pub record Placed (fs : List Function) (i : ℕ) (name : Name) : Type 0 where
  pub function : Function
  pub is : slice_get fs i ≡ Some function
  pub named : function.name ≡ name

pub placed_at : (fs : List Function) (i : ℕ) (name : Name) → slice_get (names_of fs) i ≡ Some name → Placed fs i name
placed_at [] i name h = absurd (cc)
placed_at (f ∷ fs) zero name h = record { function = f; is = refl; named = cc }
placed_at (f ∷ fs) (suc i) name h = let p : Placed fs i name = placed_at fs i name h in
    record { function = p.function; is = p.is; named = p.named }

no_count : (t : CType) → types_of t ≡ [] → count_of t ≡ 0
no_count t e = ap (λ (ts : List CType). min (length ts) 4294967295) e

pub same_some : (x y : Meaning) → Some x ≡ Some y → x ≡ y
same_some x y e = cc

pub main_found : (e : State) (ns : List Name) → AtFile e e → e.functions.defined ≡ with_names 0 ns [] ∷ [] →
    names_of e.functions.all ≡ ns → has_main e ≡ true → HasMain e.functions.all
main_found e ns file defined names h =
    let m : Meant e = meant e (find e.scopes (codes "main")) refl h in
    let some : is_some (in_scope (with_names 0 ns []) (codes "main")) ≡ true =
    ap (λ (d : Scopes). is_some (find d (codes "main"))) (sym defined) ∙ m.defined in
    let key : Stands (codes "main") (keys (with_names 0 ns [])) = key_found (with_names 0 ns []) (codes "main") some in
    let at : slice_get (names_of e.functions.all) key.place ≡ Some (codes "main") =
    ap (λ l. slice_get l key.place) (names ∙ sym (keys_of 0 ns [])) ∙ key.is in
    let p : Placed e.functions.all key.place (codes "main") = placed_at e.functions.all key.place (codes "main") at in
    let here : in_scope file.scope (codes "main") ≡ Some m.what =
    ap (λ (ss : Scopes). find ss (codes "main")) (sym file.one) ∙ m.found in
    record {
      place = key.place;
      function = p.function;
      is = p.is;
      name = p.named;
      none = λ n f is named.
          let l : Linked file.scope f = linked_at file.scope e.functions.all n f file.linked is in
          let there : in_scope file.scope (codes "main") ≡ Some l.what =
          ap (λ (k : Name). in_scope file.scope k) (sym named) ∙ l.found in
          let same : m.what ≡ l.what = same_some m.what l.what (sym here ∙ there) in
          l.params ∙ no_count l.type
          (main_list l.what.ctype l.type l.same (ap (λ (w : Meaning). is_main_type w.ctype) (sym same) ∙ m.type));
    }
