-- The body of a function: where its parameters, its variables and its items stand right, it does; and what it counts.
use Rattle.std.proofs.Common.{◌≡◌, ℕ, ◌+◌, ◌≤◌, ◌<◌, true, ◌&&◌, nat_le, nat_lt, refl, ap, ◌∙◌, List, [], ◌∷◌, ◌++◌}
use Rattle.std.proofs.Common.{length, map, take, drop, arith}
use Rattle.std.proofs.lemmas.Bool.Decides.{nat_tests}
use Rattle.typed_tree.specs.declared.expression.Stmt.{Stmt}
use Rattle.typed_tree.specs.declared.expression.Stmt.TheVariants as st
use Rattle.typed_tree.specs.Sizes.{statement_size, statements_size}
use Rattle.typed_tree.proofs.SizeLaws.{statement_size_block}
use Rattle.check_rules.specs.declared.state.Stage.TheVariants as stage
use Rattle.wellformed.specs.Accepted.{AreNumbered}
use Rattle.wellformed.specs.Counts.{one_if, objects_at, declarations_of}
use Rattle.wellformed.specs.Places.{Around, Act, act, in_function, within, all_stand, all_declare, are_parameters}
use Rattle.wellformed.specs.Places.{stands_as_body}
use Rattle.wellformed.specs.Values.{uses_values, all_true}
use Rattle.wellformed.proofs.Equations.{act_block, objects_at_block, declarations_of_block}
use Rattle.wellformed.proofs.Bools.{and_true, le_true}
use Rattle.wf_walk.specs.Counts.{objects_in, declarations_in, between}
use Rattle.wf_walk.specs.Items.{EachNode, ItemsStand, DeclaresAt}
use Rattle.check_globals.specs.Program.{around}
use Rattle.wf_programs.proofs.Sums.{map_both, all_map_both, take_front, drop_front, values_block}
use Rattle.wf_programs.proofs.Bools.{length_map, length_front}

-- ---- items and variables

pub items_stand : (r : Around) (xs : List Stmt) → ItemsStand around r xs → all_stand (map act xs) r ≡ true
items_stand r [] h = refl
items_stand r (x ∷ xs) h = and_true ((act x).stands r) (all_stand (map act xs) r) h.0.0 (items_stand r xs h.1)

pub items_used : (r : Around) (xs : List Stmt) → ItemsStand around r xs → all_true (map uses_values xs) ≡ true
items_used r [] h = refl
items_used r (x ∷ xs) h = and_true (uses_values x) (all_true (map uses_values xs)) h.0.1 (items_used r xs h.1)

pub declared_stand : (object : ℕ) (a : Around) (vs : List Stmt) → in_function a ≡ true → nat_le object a.object ≡ true →
    EachNode (DeclaresAt stage.Function object) vs → all_declare (map act vs) a ≡ true
declared_stand object a [] h k d = refl
declared_stand object a (v ∷ vs) h k d =
    and_true ((act v).declares a) (all_declare (map act vs) a) (d.0.0 a h k) (declared_stand object a vs h k d.1)

pub declared_used : (object : ℕ) (vs : List Stmt) → EachNode (DeclaresAt stage.Function object) vs →
    all_true (map uses_values vs) ≡ true
declared_used object [] d = refl
declared_used object (v ∷ vs) d =
    and_true (uses_values v) (all_true (map uses_values vs)) d.0.1 (declared_used object vs d.1)

-- ---- the body

pub body_stands : (n : ℕ) (ps rest xs : List Stmt) (a : Around) → length ps ≡ n →
    are_parameters 0 (map act ps) a ≡ true → all_declare (map act rest) a ≡ true
    → all_stand (map act xs) (within (map act (ps ++ rest)) a) ≡ true →
    stands_as_body (st.Block (ps ++ rest) xs) n a ≡ true
body_stands n ps rest xs a few p d x =
    let both : map act (ps ++ rest) ≡ map act ps ++ map act rest = map_both act ps rest in
    let count : length (map act ps) ≡ n = length_map act ps ∙ few in
    ap (λ (y : Act). y.is_body n a) (act_block (ps ++ rest) xs)
    ∙ and_true (nat_le n (length (map act (ps ++ rest))) && are_parameters 0 (take n (map act (ps ++ rest))) a &&
    all_declare (drop n (map act (ps ++ rest))) a) (all_stand (map act xs) (within (map act (ps ++ rest)) a))
    (and_true (nat_le n (length (map act (ps ++ rest))) && are_parameters 0 (take n (map act (ps ++ rest))) a)
    (all_declare (drop n (map act (ps ++ rest))) a)
    (and_true (nat_le n (length (map act (ps ++ rest)))) (are_parameters 0 (take n (map act (ps ++ rest))) a)
    (ap (λ vs. nat_le n (length vs)) both ∙
    le_true n (length (map act ps ++ map act rest))
    (let h : length (map act ps) ≤ length (map act ps ++ map act rest) = length_front (map act ps) (map act rest) in
    omega arith))
    (ap (λ vs. are_parameters 0 (take n vs) a) both ∙
    ap (λ vs. are_parameters 0 vs a) (take_front n (map act ps) (map act rest) count) ∙ p))
    (ap (λ vs. all_declare (drop n vs) a) both ∙
    ap (λ vs. all_declare vs a) (drop_front n (map act ps) (map act rest) count) ∙ d))
    x

pub body_used : (ps rest xs : List Stmt) → all_true (map uses_values ps) ≡ true →
    all_true (map uses_values rest) ≡ true → all_true (map uses_values xs) ≡ true
    → uses_values (st.Block (ps ++ rest) xs) ≡ true
body_used ps rest xs p d x =
    values_block (ps ++ rest) xs ∙
    and_true (all_true (map uses_values (ps ++ rest))) (all_true (map uses_values xs))
    (all_map_both uses_values ps rest p d) x

-- ---- counts

bytes_joined : (byte a b : ℕ) → a ≤ b → one_if (nat_lt byte a) + between a b byte ≡ one_if (nat_lt byte b)
bytes_joined byte a b h = grind (arith, nat_tests)

once_joined : (i k h : ℕ) → one_if (nat_lt i k) + between k h i ≤ 1
once_joined i k h = grind (arith, nat_tests)

below : (i k h : ℕ) → k ≤ h → 0 < one_if (nat_lt i k) + between k h i → i < h
below i k h few some = grind (arith, nat_tests)

bytes : (byte a b x y s : ℕ) → a ≤ b → s ≡ one_if (nat_lt byte a) → x + y ≡ s + between a b byte →
    x + y ≡ one_if (nat_lt byte b)
bytes byte a b x y s h e k =
    let z : one_if (nat_lt byte a) + between a b byte ≡ one_if (nat_lt byte b) = bytes_joined byte a b h in omega arith

pub body_objects : (byte a b s : ℕ) (vs xs : List Stmt) → a ≤ b → s ≡ one_if (nat_lt byte a) →
    objects_in byte vs + objects_in byte xs ≡ s + between a b byte
    → objects_at byte (st.Block vs xs) ≡ one_if (nat_lt byte b)
body_objects byte a b s vs xs h e k =
    objects_at_block byte vs xs ∙ bytes byte a b (objects_in byte vs) (objects_in byte xs) s h e k

pub body_numbered : (k h : ℕ) (ps vs xs : List Stmt) → k ≤ h → ((i : ℕ) → declarations_in i ps ≤ one_if (nat_lt i k))
    → ((i : ℕ) → declarations_in i vs + declarations_in i xs ≤ declarations_in i ps + between k h i)
    → h ≤ statements_size vs + statements_size xs → AreNumbered (st.Block vs xs)
body_numbered k h ps vs xs few first more size = record {
  once = λ i.
      let e : declarations_of i (st.Block vs xs) ≡ declarations_in i vs + declarations_in i xs =
      declarations_of_block i vs xs in
      let f : declarations_in i ps ≤ one_if (nat_lt i k) = first i in
      let m : declarations_in i vs + declarations_in i xs ≤ declarations_in i ps + between k h i = more i in
      let z : one_if (nat_lt i k) + between k h i ≤ 1 = once_joined i k h in
      omega arith;
  dense = λ i some.
      let e : declarations_of i (st.Block vs xs) ≡ declarations_in i vs + declarations_in i xs =
      declarations_of_block i vs xs in
      let f : declarations_in i ps ≤ one_if (nat_lt i k) = first i in
      let m : declarations_in i vs + declarations_in i xs ≤ declarations_in i ps + between k h i = more i in
      let s : statement_size (st.Block vs xs) ≡ 1 + statements_size vs + statements_size xs =
      statement_size_block vs xs in
      let z : i < h = below i k h few (let y : 0 < one_if (nat_lt i k) + between k h i = omega arith in y) in
      omega arith;
}
