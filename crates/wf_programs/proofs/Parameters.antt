-- The parameters of a function: each is a node at the head of its block, and is known with its home.
use Rattle.std.proofs.Common.{◌≡◌, ℕ, suc, ◌+◌, ◌*◌, ◌%◌, ◌≤◌, ◌==◌, Bool, true, false, ◌&&◌, nat_le, nat_lt}
use Rattle.std.proofs.Common.{if◌then◌else◌, refl, ap, sym, ◌∙◌, List, [], ◌∷◌, ◌++◌, length, map, sum, slice_get, Some}
use Rattle.std.proofs.Common.{arith}
use Rattle.word32.specs.declared.width.Width.{Width}
use Rattle.c_types.specs.declared.ctype.CType.{CType}
use Rattle.check_types.specs.Shapes.{width_of}
use Rattle.typed_tree.specs.declared.expression.Stmt.{Stmt}
use Rattle.typed_tree.specs.declared.expression.Stmt.TheVariants as st
use Rattle.typed_tree.specs.Sizes.{statement_size}
use Rattle.typed_tree.proofs.SizeLaws.{statement_size_parameter, statement_size_parameterobject}
use Rattle.check_rules.specs.declared.frame.Frame.{Frame}
use Rattle.check_rules.specs.declared.frame.Home.{Home}
use Rattle.check_rules.specs.declared.frame.Home.TheVariants as home
use Rattle.check_rules.specs.Frames as frames
use Rattle.wellformed.specs.Counts.{one_if, is_in, objects_at, declarations_of}
use Rattle.wellformed.specs.Places.{Around, Act, act, in_function, are_parameters, is_object}
use Rattle.wellformed.specs.Values.{uses_values, all_true}
use Rattle.wellformed.proofs.Equations.{act_parameter, act_parameterobject, objects_at_parameter}
use Rattle.wellformed.proofs.Equations.{objects_at_parameterobject, declarations_of_parameter}
use Rattle.wellformed.proofs.Equations.{declarations_of_parameterobject}
use Rattle.wellformed.proofs.Bools.{and_true, same_number, le_less}
use Rattle.wf_walk.specs.Known.{numbers, HasHome}
use Rattle.wf_programs.proofs.Bools.{length_last, length_map}
use Rattle.wf_programs.proofs.Sums.{map_both, sum_map_both, all_map_both, parameters_more, bytes_more, number_more}
use Rattle.wf_programs.proofs.Sums.{number_same, values_parameter, values_object}

-- so many parameters stand in a function that has nothing else yet
pub record FrameAt (k : ℕ) (f : Frame) : Type 0 where
  pub homes : length f.homes ≡ k
  pub nodes : length f.nodes ≡ k
  pub small : f.object ≤ 4 * k
  pub aligned : f.object % 4 ≡ 0
  pub stand : (a : Around) → in_function a ≡ true → nat_le f.object a.object ≡ true →
      are_parameters 0 (map act f.nodes) a ≡ true
  pub values : all_true (map uses_values f.nodes) ≡ true
  pub objects : (byte : ℕ) → sum (map (objects_at byte) f.nodes) ≡ one_if (nat_lt byte f.object)
  pub declared : (i : ℕ) → sum (map (declarations_of i) f.nodes) ≤ one_if (nat_lt i k)
  pub size : sum (map statement_size f.nodes) ≡ k

-- a parameter stands there
pub record PlacedAt (f : Frame) (n : ℕ) : Type 0 where
  pub home : Home
  pub is : slice_get f.homes n ≡ Some home
  pub stands : HasHome (numbers f.nodes) f.object n home

-- ---- the node of a parameter

is_register : (k : ℕ) (w : Width) (a : Around) → in_function a ≡ true → (act (st.Parameter k w)).is_parameter k a ≡ true
is_register k w a h = ap (λ (x : Act). x.is_parameter k a) (act_parameter k w) ∙
    and_true (k == k) (in_function a) (same_number k) h

is_object_parameter : (k : ℕ) (w : Width) (off : ℕ) (a : Around) → in_function a ≡ true →
    nat_le (off + 4) a.object ≡ true → off % 4 ≡ 0
    → (act (st.ParameterObject k w off)).is_parameter k a ≡ true
is_object_parameter k w off a h within aligned =
    ap (λ (x : Act). x.is_parameter k a) (act_parameterobject k w off)
    ∙ and_true (k == k) (is_object off 1 a) (same_number k)
    (and_true (in_function a && nat_le (off + 4 * 1) a.object) (off % 4 == 0)
    (and_true (in_function a) (nat_le (off + 4 * 1) a.object) h within)
    (ap (λ (n : ℕ). n == 0) aligned))

-- ---- one more

pub count_small : {A : Type 0} (xs : List A) (k : ℕ) → length xs ≡ k → k ≤ 7 → frames.count xs ≡ k
count_small xs k e h = omega arith

at_place : {A : Type 0} (k n : ℕ) (g : Stmt → A) (vs : List Stmt) → n ≡ k → length vs ≡ k → n ≡ 0 + length (map g vs)
at_place k n g vs e h = let m : length (map g vs) ≡ length vs = length_map g vs in omega arith

register_declared : (i k n : ℕ) (w : Width) (vs : List Stmt) → n ≡ k →
    sum (map (declarations_of i) vs) ≤ one_if (nat_lt i k)
    → sum (map (declarations_of i) (vs ++ st.Parameter n w ∷ [])) ≤ one_if (nat_lt i (suc k))
register_declared i k n w vs e h =
    let more : sum (map (declarations_of i) (vs ++ st.Parameter n w ∷ [])) ≡ sum (map (declarations_of i) vs) + sum
    (map (declarations_of i) (st.Parameter n w ∷ []))
    = sum_map_both (declarations_of i) vs (st.Parameter n w ∷ []) in
    let one : declarations_of i (st.Parameter n w) ≡ one_if (i == n) = declarations_of_parameter i n w in
    let same : one_if (i == n) ≡ one_if (i == k) = ap (λ (m : ℕ). one_if (i == m)) e in
    let b : sum (map (declarations_of i) vs) + one_if (i == k) ≤ one_if (nat_lt i (suc k)) =
    number_more i k (sum (map (declarations_of i) vs)) h in
    omega arith

object_declared : (i k n : ℕ) (w : Width) (off : ℕ) (vs : List Stmt) →
    sum (map (declarations_of i) vs) ≤ one_if (nat_lt i k)
    → sum (map (declarations_of i) (vs ++ st.ParameterObject n w off ∷ [])) ≤ one_if (nat_lt i (suc k))
object_declared i k n w off vs h =
    let more : sum (map (declarations_of i) (vs ++ st.ParameterObject n w off ∷ [])) ≡ sum (map (declarations_of i) vs)
    + sum (map (declarations_of i) (st.ParameterObject n w off ∷ []))
    = sum_map_both (declarations_of i) vs (st.ParameterObject n w off ∷ []) in
    let none : declarations_of i (st.ParameterObject n w off) ≡ 0 = declarations_of_parameterobject i n w off in
    let b : sum (map (declarations_of i) vs) ≤ one_if (nat_lt i (suc k)) =
    number_same i k (sum (map (declarations_of i) vs)) h in
    omega arith

register_at : (k : ℕ) (t : CType) (f : Frame) → k ≤ 7 → FrameAt k f → FrameAt (suc k) (frames.register_parameter t f)
register_at k t f few at =
    let number : frames.number f ≡ k = count_small f.homes k at.homes few in
    let v : Stmt = st.Parameter (frames.number f) (width_of t) in
    record {
      homes = length_last f.homes home.Register ∙ ap suc at.homes;
      nodes = length_last f.nodes (st.Parameter (frames.number f) (width_of t)) ∙ ap suc at.nodes;
      small = let s : f.object ≤ 4 * k = at.small in omega arith;
      aligned = at.aligned;
      stand = λ a h within.
          ap (λ vs. are_parameters 0 vs a) (map_both act f.nodes (st.Parameter (frames.number f) (width_of t) ∷ []))
          ∙ parameters_more 0 (frames.number f) (map act f.nodes) (act (st.Parameter (frames.number f) (width_of t))) a
          (at_place k (frames.number f) act f.nodes number at.nodes) (at.stand a h within)
          (is_register (frames.number f) (width_of t) a h);
      values = all_map_both uses_values f.nodes (st.Parameter (frames.number f) (width_of t) ∷ []) at.values
          (and_true (uses_values (st.Parameter (frames.number f) (width_of t))) true
          (values_parameter (frames.number f) (width_of t)) refl);
      objects = λ byte. sum_map_both (objects_at byte) f.nodes (st.Parameter (frames.number f) (width_of t) ∷ [])
          ∙ (let o : objects_at byte (st.Parameter (frames.number f) (width_of t)) ≡ 0 =
          objects_at_parameter byte (frames.number f) (width_of t) in
          let s : sum (map (objects_at byte) f.nodes) ≡ one_if (nat_lt byte f.object) = at.objects byte in omega arith);
      declared = λ i. register_declared i k (frames.number f) (width_of t) f.nodes number (at.declared i);
      size = sum_map_both statement_size f.nodes (st.Parameter (frames.number f) (width_of t) ∷ [])
          ∙ (let o : statement_size (st.Parameter (frames.number f) (width_of t)) ≡ 1 =
          statement_size_parameter (frames.number f) (width_of t) in
          let s : sum (map statement_size f.nodes) ≡ k = at.size in omega arith);
    }

aligned_more : (o : ℕ) → o % 4 ≡ 0 → (o + 4) % 4 ≡ 0
aligned_more o h = omega arith

object_at : (k : ℕ) (t : CType) (f : Frame) → k ≤ 7 → FrameAt k f → FrameAt (suc k) (frames.object_parameter t f)
object_at k t f few at =
    let number : frames.number f ≡ k = count_small f.homes k at.homes few in
    let small : f.object ≤ 4 * k = at.small in
    let after : frames.after f.object 1 ≡ f.object + 4 = omega arith in
    record {
      homes = length_last f.homes (home.Object f.object) ∙ ap suc at.homes;
      nodes = length_last f.nodes (st.ParameterObject (frames.number f) (width_of t) f.object) ∙ ap suc at.nodes;
      small = omega arith;
      aligned = ap (λ (n : ℕ). n % 4) after ∙ aligned_more f.object at.aligned;
      stand = λ a h within.
          ap (λ vs. are_parameters 0 vs a)
          (map_both act f.nodes (st.ParameterObject (frames.number f) (width_of t) f.object ∷ []))
          ∙ parameters_more 0 (frames.number f) (map act f.nodes)
          (act (st.ParameterObject (frames.number f) (width_of t) f.object)) a
          (at_place k (frames.number f) act f.nodes number at.nodes)
          (at.stand a h (le_less f.object (frames.after f.object 1) a.object (omega arith) within))
          (is_object_parameter (frames.number f) (width_of t) f.object a h
          (ap (λ (n : ℕ). nat_le n a.object) (sym after) ∙ within) at.aligned);
      values = all_map_both uses_values f.nodes (st.ParameterObject (frames.number f) (width_of t) f.object ∷ [])
          at.values
          (and_true (uses_values (st.ParameterObject (frames.number f) (width_of t) f.object)) true
          (values_object (frames.number f) (width_of t) f.object) refl);
      objects = λ byte. sum_map_both (objects_at byte) f.nodes
          (st.ParameterObject (frames.number f) (width_of t) f.object ∷ [])
          ∙ (let o : objects_at byte (st.ParameterObject (frames.number f) (width_of t) f.object) ≡ one_if
          (is_in byte f.object 1)
          = objects_at_parameterobject byte (frames.number f) (width_of t) f.object in
          let s : sum (map (objects_at byte) f.nodes) ≡ one_if (nat_lt byte f.object) = at.objects byte in
          let b : one_if (nat_lt byte f.object) + one_if (is_in byte f.object 1) ≡ one_if (nat_lt byte (f.object + 4)) =
          bytes_more byte f.object in
          let e : one_if (nat_lt byte (f.object + 4)) ≡ one_if (nat_lt byte (frames.after f.object 1)) =
          ap (λ (n : ℕ). one_if (nat_lt byte n)) (sym after) in
          omega arith);
      declared = λ i. object_declared i k (frames.number f) (width_of t) f.object f.nodes (at.declared i);
      size = sum_map_both statement_size f.nodes (st.ParameterObject (frames.number f) (width_of t) f.object ∷ [])
          ∙ (let o : statement_size (st.ParameterObject (frames.number f) (width_of t) f.object) ≡ 1
          = statement_size_parameterobject (frames.number f) (width_of t) f.object in
          let s : sum (map statement_size f.nodes) ≡ k = at.size in omega arith);
    }

either_at : (k : ℕ) (t : CType) (f : Frame) (b : Bool) → k ≤ 7 → FrameAt k f →
    FrameAt (suc k) (if b then frames.object_parameter t f else frames.register_parameter t f)
either_at k t f true few at = object_at k t f few at
either_at k t f false few at = register_at k t f few at

-- one parameter more
pub parameter_at : (k : ℕ) (t : CType) (f : Frame) → k ≤ 7 → FrameAt k f → FrameAt (suc k) (frames.parameter t f)
unfolding frames.parameter
parameter_at k t f few at = either_at k t f (frames.needs_address f) few at
