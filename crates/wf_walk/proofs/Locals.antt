-- What the declaration of a variable makes: a name, the variable's place, and its node.
use Rattle.std.proofs.Common.{◌≡◌, ℕ, ◌+◌, ◌-◌, ◌*◌, ◌≤◌, ◌%◌, min, Bool, true, false, ◌&&◌, List, [], ◌∷◌, ◌++◌}
use Rattle.std.proofs.Common.{length, refl, sym, ap, subst, ◌∙◌, length-append, arith, Option, Some, None, Ok}
use Rattle.std.specs.Prelude.{◌==◌, nat_le, nat_lt, if◌then◌else◌}
use Rattle.std.proofs.lemmas.List.{length-set}
use Rattle.std.proofs.lemmas.Bool.Decides.{nat_tests}
use Rattle.limits.specs.declared.program.TheConstants.{FRAME_OBJECT_BYTES}
use Rattle.c_types.specs.declared.ctype.CType.{CType}
use Rattle.check_scopes.specs.declared.names.Meaning.{Meaning}
use Rattle.check_scopes.specs.declared.names.MeaningKind.TheVariants as kind
use Rattle.check_scopes.specs.Scopes.{Name, Scopes, declared, innermost, in_scope}
use Rattle.typed_tree.specs.declared.expression.Stmt.{Stmt}
use Rattle.typed_tree.specs.declared.expression.Stmt.TheVariants as st
use Rattle.typed_tree.specs.Sizes.{statement_size}
use Rattle.typed_tree.proofs.SizeLaws.{statement_size_variable, statement_size_object}
use Rattle.check_operands.specs.declared.operand.Operand.{Operand}
use Rattle.check_rules.specs.declared.frame.Home.TheVariants as home
use Rattle.check_rules.specs.Frames as frames
use Rattle.check_rules.specs.Frames.{variable, after, count}
use Rattle.check_rules.specs.Bounds.{count_bound}
use Rattle.check_rules.specs.declared.state.Stage.{Stage}
use Rattle.check_rules.specs.declared.state.Stage.TheVariants as stage
use Rattle.check_rules.specs.declared.state.State.{State}
use Rattle.check_rules.specs.Names.{declare, declared_by}
use Rattle.check_rules.specs.Locals.{meaning, made_outer, made_inner, outer_local, inner_local, local}
use Rattle.wellformed.specs.Counts.{one_if, objects_at, declarations_of}
use Rattle.wellformed.specs.Places.{Around, in_function, is_object}
use Rattle.wellformed.proofs.Equations.{act_variable, act_object, objects_at_variable, objects_at_object}
use Rattle.wellformed.proofs.Equations.{declarations_of_variable, declarations_of_object}
use Rattle.wellformed.proofs.Uses.{uses_values_variable, uses_values_object}
use Rattle.wellformed.proofs.Bools.{and_true}
use Rattle.wf_walk.specs.Kept.{Starts, Grows}
use Rattle.wf_walk.specs.Counts.{between, Counts}
use Rattle.wf_walk.specs.Items.{EachNode, DeclaresAt, Declared, MayStand}
use Rattle.wf_walk.proofs.Fronts.{starts_refl, starts_behind, same_rest}
use Rattle.wf_walk.proofs.Walks.{ran, ok_same}
use Rattle.wf_walk.proofs.Types.{declared_outer}
use Rattle.wf_walk.proofs.Counting.{sum_one, objects_append, declarations_append, sizes_append, between_none}
use Rattle.wf_walk.proofs.Making.{Made}

-- ---- the name

pub declared_length : (ss : Scopes) (name : Name) (what : Meaning) → length (declared ss name what) ≡ length ss
declared_length ss name what = length-set ss (length ss - 1) (innermost ss ++ (name, what) ∷ [])

abbrev pub named : Name → Meaning → State → State
named name what s = record s { scopes = declared s.scopes name what }

declare_by : (line : ℕ) (name : Name) (what : Meaning) (s new : State) (u : Unit {0}) (o : Option Meaning) →
    declared_by line name what s o ≡ Ok (u, new) → named name what s ≡ new
declare_by line name what s new u None e = ap (λ r. r.1) (ok_same (tt, named name what s) (u, new) e)
declare_by line name what s new u (Some m) e = cc

pub declare_gives : (line : ℕ) (name : Name) (what : Meaning) (s new : State) (u : Unit {0}) →
    declare line name what s ≡ Ok (u, new) → named name what s ≡ new
unfolding declare
declare_gives line name what s new u e = declare_by line name what s new u (in_scope (innermost s.scopes) name) e

-- ---- the states behind a declaration

abbrev pub outer_state : Name → CType → State → State
outer_state name t s = record s {
  scopes = declared s.scopes name (meaning kind.Variable t (frames.number s.frame));
  frame =
      frames.variable t s.frame;
}

abbrev pub inner_state : Name → CType → State → State
inner_state name t s = record s {
  scopes = declared s.scopes name (meaning kind.Variable t (frames.inner_number s.frame));
  frame =
      frames.inner_variable s.frame;
}

pub record Local (made : State → Operand × State) (before : State) (o : Operand) (new : State) : Type 0 where
  pub is : made before ≡ (o, new)

pub outer_gives : (line : ℕ) (name : Name) (t : CType) (s new : State) (o : Operand) →
    outer_local line name t s ≡ Ok (o, new) →
    made_outer t (named name (meaning kind.Variable t (frames.number s.frame)) s) ≡ (o, new)
unfolding outer_local
outer_gives line name t s new o e =
    let r = ran (declare line name (meaning kind.Variable t (frames.number s.frame))) (λ u z. Ok (made_outer t z)) s o
    new e in
    ap (made_outer t) (declare_gives line name (meaning kind.Variable t (frames.number s.frame)) s r.state r.value
    r.first) ∙ ok_same (made_outer t r.state) (o, new) r.next

pub inner_gives : (line : ℕ) (name : Name) (t : CType) (s new : State) (o : Operand) →
    inner_local line name t s ≡ Ok (o, new) →
    made_inner t (named name (meaning kind.Variable t (frames.inner_number s.frame)) s) ≡ (o, new)
unfolding inner_local
inner_gives line name t s new o e =
    let r = ran (declare line name (meaning kind.Variable t (frames.inner_number s.frame))) (λ u z. Ok (made_inner t z))
    s o new e in
    ap (made_inner t) (declare_gives line name (meaning kind.Variable t (frames.inner_number s.frame)) s r.state r.value
    r.first) ∙ ok_same (made_inner t r.state) (o, new) r.next

-- ---- the node of a variable

pub variable_node : (i n : ℕ) → declarations_of i (st.Variable n) ≡ one_if (i == n)
variable_node i n = declarations_of_variable i n

variable_one : (i m : ℕ) → one_if (i == m) ≡ between m (m + 1) i
variable_one i m = grind (arith, nat_tests)

object_one : (byte off n new : ℕ) → new ≡ off + 4 * n →
    one_if (nat_le off byte && nat_lt byte (off + 4 * n)) ≡ between off new byte
object_one byte off n new e = ap (λ m. one_if (nat_le off byte && nat_lt byte m)) (sym e)

pub after_small : (off n : ℕ) → after off n ≤ FRAME_OBJECT_BYTES → after off n ≡ off + 4 * n
after_small off n h = omega arith

pub after_grows : (off n : ℕ) → after off n ≤ FRAME_OBJECT_BYTES → off ≤ after off n
after_grows off n h = omega arith

pub aligned_after : (off n : ℕ) → (off % 4 == 0) ≡ true → ((off + 4 * n) % 4 == 0) ≡ true
aligned_after off n h = grind (arith, nat_tests)

declares_object : (off n : ℕ) (r : Around) → 1 ≤ n → (off % 4 == 0) ≡ true → in_function r ≡ true →
    nat_le (off + 4 * n) r.object ≡ true → is_object off n r ≡ true
declares_object off n r one a f h =
    and_true (nat_le 1 n && in_function r && nat_le (off + 4 * n) r.object) (off % 4 == 0)
    (and_true (nat_le 1 n && in_function r) (nat_le (off + 4 * n) r.object)
    (and_true (nat_le 1 n) (in_function r) (grind (arith, nat_tests, one)) f) h) a

-- one node more
pub node_behind : (P : Stmt → Type 0) (xs : List Stmt) (x : Stmt) → P x → (more : Starts xs (xs ++ x ∷ [])) →
    EachNode P more.rest
node_behind P xs x p more = subst (λ ys. EachNode P ys) (same_rest (starts_behind xs (x ∷ [])) more) (p, tt)

-- ---- a variable of the function

-- a variable in a register
register_counts : (s : State) (ss : Scopes) → count s.frame.homes ≡ length s.frame.homes →
    Counts stage.Function s (record s { scopes = ss; frame = frames.register_variable s.frame }) []
register_counts s ss e = record {
  objects = λ byte. omega (
    arith,
    objects_append byte s.frame.nodes (st.Variable (frames.number s.frame) ∷ []),
    sum_one (objects_at byte) (st.Variable (frames.number s.frame)),
    objects_at_variable byte (frames.number s.frame),
    between_none s.frame.object s.frame.object byte refl,
  );
  declarations = λ i. omega (
    arith,
    declarations_append i s.frame.nodes (st.Variable (frames.number s.frame) ∷ []),
    sum_one (declarations_of i) (st.Variable (frames.number s.frame)),
    variable_node i (frames.number s.frame) ∙ ap (λ n. one_if (i == n)) e ∙ variable_one i (length s.frame.homes),
    ap (λ n. between (length s.frame.homes) n i) (length-append s.frame.homes (home.Register ∷ [])),
  );
  sizes = omega (
    arith,
    sizes_append s.frame.nodes (st.Variable (frames.number s.frame) ∷ []),
    sum_one statement_size (st.Variable (frames.number s.frame)),
    statement_size_variable (frames.number s.frame),
    length-append s.frame.homes (home.Register ∷ []),
  );
}

-- a variable that is a frame object
object_counts : (s : State) (ss : Scopes) (n : ℕ) → after s.frame.object n ≡ s.frame.object + 4 * n →
    Counts stage.Function s (record s { scopes = ss; frame = frames.object_variable n s.frame }) []
object_counts s ss n e = record {
  objects = λ byte. omega (
    arith,
    objects_append byte s.frame.nodes (st.Object s.frame.object n ∷ []),
    sum_one (objects_at byte) (st.Object s.frame.object n),
    objects_at_object byte s.frame.object n ∙ object_one byte s.frame.object n (after s.frame.object n) e,
  );
  declarations = λ i. omega (
    arith,
    declarations_append i s.frame.nodes (st.Object s.frame.object n ∷ []),
    sum_one (declarations_of i) (st.Object s.frame.object n),
    declarations_of_object i s.frame.object n,
  );
  sizes = omega (
    arith,
    sizes_append s.frame.nodes (st.Object s.frame.object n ∷ []),
    sum_one statement_size (st.Object s.frame.object n),
    statement_size_object s.frame.object n,
    length-append s.frame.homes (home.Object s.frame.object ∷ []),
  );
}

pub register_grows : (s : State) (name : Name) (what : Meaning) →
    Grows stage.Function s (record s { scopes = declared s.scopes name what; frame = frames.register_variable s.frame })
register_grows s name what = record {
  tables = record {
    depth = declared_length s.scopes name what;
    scopes = declared_outer s.scopes name what;
    result = refl;
    nodes = starts_behind s.frame.nodes (st.Variable (frames.number s.frame) ∷ []);
    functions = refl;
    image = record { end = refl; globals = refl; at = refl };
  };
  at = record {
    homes = starts_behind s.frame.homes (home.Register ∷ []);
    object = λ h. omega arith;
    ticks =
        starts_refl s.ticks.all;
  };
}

pub object_grows : (s : State) (name : Name) (what : Meaning) (n : ℕ) →
    Grows stage.Function s (record s { scopes = declared s.scopes name what; frame = frames.object_variable n s.frame })
object_grows s name what n = record {
  tables = record {
    depth = declared_length s.scopes name what;
    scopes = declared_outer s.scopes name what;
    result = refl;
    nodes = starts_behind s.frame.nodes (st.Object s.frame.object n ∷ []);
    functions = refl;
    image = record { end = refl; globals = refl; at = refl };
  };
  at = record {
    homes = starts_behind s.frame.homes (home.Object s.frame.object ∷ []);
    object =
        λ h. after_grows s.frame.object n h;
    ticks = starts_refl s.ticks.all;
  };
}

register_declares : (s : State) (ss : Scopes) → (s.frame.object % 4 == 0) ≡ true →
    Declared stage.Function s (record s { scopes = ss; frame = frames.register_variable s.frame })
register_declares s ss h = record {
  aligned = h;
  nodes = node_behind (DeclaresAt stage.Function s.frame.object) s.frame.nodes (st.Variable (frames.number s.frame)) (
    λ r f o. ap (λ a. a.declares r) (act_variable (frames.number s.frame)),
    uses_values_variable (frames.number s.frame),
  );
}

object_declares : (s : State) (ss : Scopes) (n : ℕ) → 1 ≤ n → after s.frame.object n ≡ s.frame.object + 4 * n →
    (s.frame.object % 4 == 0) ≡ true →
    Declared stage.Function s (record s { scopes = ss; frame = frames.object_variable n s.frame })
object_declares s ss n one e h = record {
  aligned = ap (λ m. m % 4 == 0) e ∙ aligned_after s.frame.object n h;
  nodes = node_behind (DeclaresAt stage.Function (after s.frame.object n)) s.frame.nodes (st.Object s.frame.object n) (
    λ r f o. ap (λ a. a.declares r) (act_object s.frame.object n) ∙
        declares_object s.frame.object n r one h f (subst (λ m. nat_le m r.object ≡ true) e o),
    uses_values_object s.frame.object n,
  );
}

register_made : (s : State) (name : Name) (what : Meaning) →
    Made stage.Function s (record s {
      scopes = declared s.scopes name what;
      frame = frames.register_variable s.frame;
    }) []
register_made s name what = record {
  grows = register_grows s name what;
  counts = λ small. register_counts s (declared s.scopes name what) (few s small.homes);
  declares = λ small h. register_declares s (declared s.scopes name what) h;
}
  where
    few : (s : State) → length (s.frame.homes ++ home.Register ∷ []) ≤ count_bound →
        count s.frame.homes ≡ length s.frame.homes
    few s h = omega (arith, h, length-append s.frame.homes (home.Register ∷ []))

object_made : (s : State) (name : Name) (what : Meaning) (n : ℕ) → 1 ≤ n →
    Made stage.Function s (record s {
      scopes = declared s.scopes name what;
      frame = frames.object_variable n s.frame;
    }) []
object_made s name what n one = record {
  grows = object_grows s name what n;
  counts = λ small. object_counts s (declared s.scopes name what) n (after_small s.frame.object n small.object);
  declares = λ small h. object_declares s (declared s.scopes name what) n one
      (after_small s.frame.object n small.object) h;
}

variable_by : (s : State) (name : Name) (what : Meaning) (t : CType) → 1 ≤ frames.words t → (b : Bool)
    → Made stage.Function s (record s {
      scopes = declared s.scopes name what;
      frame =
          if b then frames.object_variable (frames.words t) s.frame else frames.register_variable s.frame;
    }) []
variable_by s name what t one true = object_made s name what (frames.words t) one
variable_by s name what t one false = register_made s name what

outer_made : (s : State) (name : Name) (what : Meaning) (t : CType) → 1 ≤ frames.words t →
    Made stage.Function s (record s { scopes = declared s.scopes name what; frame = frames.variable t s.frame }) []
unfolding variable
outer_made s name what t one = variable_by s name what t one (frames.is_object t s.frame)

-- ---- a variable of the tick

inner_counts : (s : State) (ss : Scopes) → min (s.frame.inner + 1) 4294967295 ≡ s.frame.inner + 1 →
    Counts stage.Tick s (record s { scopes = ss; frame = frames.inner_variable s.frame }) []
inner_counts s ss e = record {
  objects = λ byte. omega (
    arith,
    objects_append byte s.frame.nodes (st.Variable s.frame.inner ∷ []),
    sum_one (objects_at byte) (st.Variable s.frame.inner),
    objects_at_variable byte s.frame.inner,
    between_none s.frame.object s.frame.object byte refl,
  );
  declarations = λ i. omega (
    arith,
    declarations_append i s.frame.nodes (st.Variable s.frame.inner ∷ []),
    sum_one (declarations_of i) (st.Variable s.frame.inner),
    variable_node i s.frame.inner ∙ variable_one i s.frame.inner,
    ap (λ n. between s.frame.inner n i) e,
  );
  sizes = omega (
    arith,
    sizes_append s.frame.nodes (st.Variable s.frame.inner ∷ []),
    sum_one statement_size (st.Variable s.frame.inner),
    statement_size_variable s.frame.inner,
    e,
  );
}

pub inner_small : (n : ℕ) → min (n + 1) 4294967295 ≤ count_bound → min (n + 1) 4294967295 ≡ n + 1
inner_small n h = omega arith

inner_more : (n : ℕ) → min (n + 1) 4294967295 ≤ count_bound → n ≤ min (n + 1) 4294967295
inner_more n h = omega arith

pub inner_grows : (s : State) (name : Name) (what : Meaning) →
    Grows stage.Tick s (record s { scopes = declared s.scopes name what; frame = frames.inner_variable s.frame })
inner_grows s name what = record {
  tables = record {
    depth = declared_length s.scopes name what;
    scopes = declared_outer s.scopes name what;
    result = refl;
    nodes = starts_behind s.frame.nodes (st.Variable s.frame.inner ∷ []);
    functions = refl;
    image = record { end = refl; globals = refl; at = refl };
  };
  at = record {
    homes = refl;
    object = refl;
    inner = λ h. inner_more s.frame.inner h;
    ticks = refl;
    captures =
        starts_refl s.ticks.captures;
  };
}

inner_made : (s : State) (name : Name) (what : Meaning) →
    Made stage.Tick s (record s { scopes = declared s.scopes name what; frame = frames.inner_variable s.frame }) []
inner_made s name what = record {
  grows = inner_grows s name what;
  counts = λ small. inner_counts s (declared s.scopes name what) (inner_small s.frame.inner small.tick.inner);
  declares = λ small h. record {
    aligned = h;
    nodes = node_behind (DeclaresAt stage.Tick s.frame.object) s.frame.nodes (st.Variable s.frame.inner)
        (λ r. ap (λ a. a.declares r) (act_variable s.frame.inner), uses_values_variable s.frame.inner);
  };
}

-- ---- the declaration

pub local_made : (g : Stage) → MayStand g → (line : ℕ) (name : Name) (t : CType) → 1 ≤ frames.words t →
    (s new : State) (o : Operand) → local g line name t s ≡ Ok (o, new) → Made g s new []
local_made stage.Function may line name t one s new o e =
    subst (λ z. Made stage.Function s z []) (ap (λ r. r.1) (outer_gives line name t s new o e))
    (outer_made s name (meaning kind.Variable t (frames.number s.frame)) t one)
local_made stage.Tick may line name t one s new o e =
    subst (λ z. Made stage.Tick s z []) (ap (λ r. r.1) (inner_gives line name t s new o e))
    (inner_made s name (meaning kind.Variable t (frames.inner_number s.frame)))
local_made stage.Dollar may line name t one s new o e = cc

-- its place has its type
pub local_type : (g : Stage) → MayStand g → (line : ℕ) (name : Name) (t : CType) (s new : State) (o : Operand) →
    local g line name t s ≡ Ok (o, new) → o.ctype ≡ t
local_type stage.Function may line name t s new o e =
    sym (ap (λ r. r.0.ctype) (outer_gives line name t s new o e))
local_type stage.Tick may line name t s new o e = sym (ap (λ r. r.0.ctype) (inner_gives line name t s new o e))
local_type stage.Dollar may line name t s new o e = cc

pub local_labels : (g : Stage) → MayStand g → (line : ℕ) (name : Name) (t : CType) (s new : State) (o : Operand) →
    local g line name t s ≡ Ok (o, new) → new.labels ≡ s.labels
local_labels stage.Function may line name t s new o e = sym (ap (λ r. r.1.labels) (outer_gives line name t s new o e))
local_labels stage.Tick may line name t s new o e = sym (ap (λ r. r.1.labels) (inner_gives line name t s new o e))
local_labels stage.Dollar may line name t s new o e = cc
