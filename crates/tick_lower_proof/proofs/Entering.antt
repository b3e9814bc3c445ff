-- The prelude of a function that was compiled opens its calls: it sets the register of each variable that the generated
-- code names, once.
use Rattle.std.proofs.Common.{◌≡◌, ◌⊎◌, inl, inr, ⊎_elim, ℕ, suc, ◌+◌, ◌<◌, ◌≤◌, List, [], ◌∷◌, ◌++◌, length, Some}
use Rattle.std.proofs.Common.{Bool, true, false, refl, sym, ap, ◌∙◌, subst, arith}
use Rattle.std.specs.Prelude.{nat_eq, nat_lt, max, if◌then◌else◌, slice_get}
use Rattle.std.proofs.lemmas.Bool.Decides.{nat_tests}
use Rattle.std.proofs.lemmas.List.{append_assoc}
use Rattle.typed_tree.specs.declared.expression.CaptureKind.{CaptureKind}
use Rattle.history.specs.Syntax.{Syntax, Ticked, Captures, NoCapture, Word, Named, Spliced}
use Rattle.icode_ops.specs.declared.op.Op.{Op}
use Rattle.icode_ops.specs.declared.op.Op.TheVariants as op
use Rattle.meaning_state.specs.Rows.{parameters_of, parameters_in, keys_of, keys_in, key_parameters, locals_of}
use Rattle.meaning_state.specs.Rows.{is_among}
use Rattle.staged_meaning.specs.Statements.{argument}
use Rattle.icode_meaning.specs.State.{Program, Log}
use Rattle.tick_lower_spec.specs.Keys.{zeroes, told, firsts}
use Rattle.tick_lower_spec.specs.Lower.{Addresses}
use Rattle.tick_lower_spec.specs.Generated.{generated_build, generated_code, IsGenerated}
use Rattle.tick_lower_proof.proofs.Machine.{Here}
use Rattle.tick_lower_proof.proofs.Builder.{Has}
use Rattle.tick_lower_proof.proofs.Opening.{Opens}
use Rattle.tick_lower_proof.proofs.Prelude.{locals_in, ArePassed, prelude_opens}

-- among two lists
among_append : (key : ℕ) (xs ys : List ℕ) → is_among key (xs ++ ys) ≡ true →
    (is_among key xs ≡ true) ⊎ (is_among key ys ≡ true)
among_append key [] ys h = inr h
among_append key (x ∷ xs) ys h = by (nat_eq key x) h (among_append key xs ys)
  where
    by : (b : Bool) → (if b then true else is_among key (xs ++ ys)) ≡ true →
        (is_among key (xs ++ ys) ≡ true → (is_among key xs ≡ true) ⊎ (is_among key ys ≡ true)) →
        ((if b then true else is_among key xs) ≡ true) ⊎ (is_among key ys ≡ true)
    by true k more = inl refl
    by false k more = more k

max_left : (a b n : ℕ) → n ≤ a → n ≤ max a b
max_left a b n le = omega (arith, le)

max_right : (a b n : ℕ) → n ≤ b → n ≤ max a b
max_right a b n le = omega (arith, le)

-- a parameter that a specification names is one of its function
mutual
  named_low : (syntax : Syntax) (key : ℕ) → nat_lt key 8 ≡ true → is_among key (keys_of syntax) ≡ true →
      key < parameters_of syntax
  named_low (Ticked tick captures) key low h = named_in captures key low h

  named_in : (captures : Captures) (key : ℕ) → nat_lt key 8 ≡ true → is_among key (keys_in captures) ≡ true →
      key < parameters_in captures
  named_in NoCapture key low h = absurd cc
  named_in (Word word captures) key low h = named_in captures key low h
  named_in (Named k captures) key low h = by (nat_eq key k) refl h (named_in captures key low)
    where
      by : (b : Bool) → nat_eq key k ≡ b → (if b then true else is_among key (keys_in captures)) ≡ true →
          (is_among key (keys_in captures) ≡ true → key < parameters_in captures) →
          key < max (key_parameters k) (parameters_in captures)
      by true e h1 more =
          let same : key ≡ k = grind (arith, nat_tests, e) in
          let low_k : nat_lt k 8 ≡ true = subst (λ x. nat_lt x 8 ≡ true) same low in
          let is : key_parameters k ≡ suc k = ap (λ b. if b then suc k else 0) low_k in
          max_left (key_parameters k) (parameters_in captures) (suc key) (omega (arith, same, is))
      by false e h1 more = max_right (key_parameters k) (parameters_in captures) (suc key) (more h1)
  named_in (Spliced syntax captures) key low h =
      ⊎_elim
      (λ k. max_left (parameters_of syntax) (parameters_in captures) (suc key) (named_low syntax key low k))
      (λ k. max_right (parameters_of syntax) (parameters_in captures) (suc key) (named_in captures key low k))
      (among_append key (keys_of syntax) (keys_in captures) h)

-- the constants of a prelude are those of the local variables
zeroes_are : (keys : List (ℕ × ℕ)) → length (zeroes (told keys)) ≡ locals_in keys
zeroes_are [] = refl
zeroes_are (m ∷ keys) = by (nat_lt m.0 8) (zeroes_are keys)
  where
    by : (b : Bool) → length (zeroes (told keys)) ≡ locals_in keys →
        length (zeroes ((if b then op.GetParameter m.1 m.0 else op.Const m.1 0) ∷ told keys))
        ≡ (if b then 0 else 1) + locals_in keys
    by true more = let e : length (zeroes (told keys)) ≡ 0 + locals_in keys = omega (arith, more) in e
    by false more =
        let e : suc (length (zeroes (told keys))) ≡ 1 + locals_in keys = omega (arith, more) in e

told_length : (keys : List (ℕ × ℕ)) → length (told keys) ≡ length keys
told_length [] = refl
told_length (m ∷ keys) = ap suc (told_length keys)

-- ops that a list of ops begins with stand in it
has_front : (front rest : List Op) (before : List Op) → Has (before ++ (front ++ rest)) (length before) front
has_front [] rest before = tt
has_front (o ∷ front) rest before = (
  at before,
  subst (λ code. Has code (suc (length before)) front) (append_assoc before (o ∷ []) (front ++ rest))
      (subst (λ n. Has ((before ++ o ∷ []) ++ (front ++ rest)) n front) (longer before) (has_front front rest
      (before ++ o ∷ []))),
)
  where
    at : (xs : List Op) → slice_get (xs ++ o ∷ (front ++ rest)) (length xs) ≡ Some o
    at [] = refl
    at (x ∷ xs) = at xs

    longer : (xs : List Op) → length (xs ++ o ∷ []) ≡ suc (length xs)
    longer [] = refl
    longer (x ∷ xs) = ap suc (longer xs)

-- each parameter among keys is passed
passed_keys : (h : Here) (arguments : List ℕ) (all keys : List (ℕ × ℕ)) →
    ((key : ℕ) → nat_lt key 8 ≡ true → is_among key (firsts keys) ≡ true →
    h.parameters key ≡ Some (argument arguments key)) → ArePassed h arguments keys
passed_keys h arguments all [] given = tt
passed_keys h arguments all (m ∷ keys) given = (
  λ low. given m.0 low (here m.0),
  passed_keys h arguments all keys (λ key low among. given key low (there key (nat_eq key m.0) among)),
)
  where
    here : (k : ℕ) → is_among k (k ∷ firsts keys) ≡ true
    here k = grind (arith, nat_tests)

    there : (key : ℕ) (b : Bool) → is_among key (firsts keys) ≡ true →
        (if b then true else is_among key (firsts keys)) ≡ true
    there key true among = refl
    there key false among = among

module _ (P : Program) (d : Addresses) (ticks : List (List CaptureKind)) (syntax : Syntax)
    (made : IsGenerated d ticks syntax) (h : Here) (code : h.function.ops ≡ generated_code d syntax)
    (arguments : List ℕ) (many : parameters_of syntax ≡ length arguments)
    (given : (j : ℕ) → j < length arguments → h.parameters j ≡ Some (argument arguments j)) where
  abbrev pub keys_of_build : List (ℕ × ℕ)
  keys_of_build = (generated_build d syntax).keys

  opens_prelude : Log → Opens P h keys_of_build (length keys_of_build) (locals_in keys_of_build) arguments
  opens_prelude g =
      let b = generated_build d syntax in
      let is = made.keys in
      let front = subst (λ ops. Has ops 0 (told b.keys)) (sym code)
      (subst (λ ops. Has ((ops ++ b.ops) ++ op.ReturnZero ∷ []) 0 (told b.keys)) (sym is.prelude)
      (subst (λ ops. Has ops 0 (told b.keys)) (sym (append_assoc (told b.keys) b.ops (op.ReturnZero ∷ [])))
      (has_front (told b.keys) (b.ops ++ op.ReturnZero ∷ []) []))) in
      prelude_opens P h arguments g b.keys is.registers
      (passed_keys h arguments b.keys b.keys
      (λ key low among.
      let lt = named_low syntax key low (is.no_more key among) in given key (omega (arith, lt, many))))
      is.parameters front

  -- So it opens the call, at the place behind it, and sets as many local variables as the call spends units for.
  pub opens_call : Log →
      Opens P h keys_of_build (length (generated_build d syntax).prelude) (locals_of syntax) arguments
  opens_call g =
      let b = generated_build d syntax in
      let place_is : length b.keys ≡ length b.prelude = sym (ap length made.keys.prelude ∙ told_length b.keys) in
      let locals_are : locals_in b.keys ≡ locals_of syntax =
      sym (zeroes_are b.keys) ∙ ap (λ ops. length (zeroes ops)) (sym made.keys.prelude) ∙ made.keys.locals in
      subst (λ n. Opens P h keys_of_build (length b.prelude) n arguments) locals_are
      (subst (λ p. Opens P h keys_of_build p (locals_in b.keys) arguments) place_is (opens_prelude g))
