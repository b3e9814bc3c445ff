-- What is known of the code's typed tree is known of its view: each definition is a fold, and folds agree by fusion.
use Rattle.std.proofs.Common.{◌≡◌, ℕ, zero, suc, ◌≤◌, ◌<◌, List, [], ◌∷◌, length, map, sum, slice_get, Option, Some}
use Rattle.std.proofs.Common.{None, refl, sym, ap, subst, ◌∙◌, arith}
use Rattle.std.specs.Prelude.{option_map, false}
use Rattle.std.proofs.lemmas.List.{length-map}
use Rattle.std.proofs.lemmas.Option.{slice_get-map}
use Rattle.limits.specs.declared.program.TheConstants.{SIZE_LIMIT}
use Rattle.typed_tree.specs.declared.expression.CaptureKind.{CaptureKind}
use Rattle.typed_tree.specs.declared.expression.Expr.{Expr}
use Rattle.typed_tree.specs.declared.expression.Stmt.{Stmt}
use Rattle.typed_tree.specs.declared.program.Function.{Function}
use Rattle.typed_tree.specs.declared.program.Tick.{Tick}
use Rattle.typed_tree.specs.declared.program.TickBody.{TickBody}
use Rattle.typed_tree.specs.declared.program.TickBody.TheVariants as body
use Rattle.typed_tree.specs.declared.program.TypedParts.{TypedParts}
use Rattle.typed_tree.specs.Nodes.{fold_expr, fold_stmt}
use Rattle.typed_tree.specs.Sizes.{body_size}
use Rattle.typed_tree.specs.Measures.{size_of_stmt, size_of_body}
use Rattle.typed_tree.specs.View.{expr_view, stmt_view, function_view, body_view, tick_view, program_view}
use Rattle.typed_tree.proofs.Fusion.{fusion, statement_fusion, size_viewed, statement_size_viewed}
use Rattle.wellformed.specs.Accepted as accepted
use Rattle.wellformed.specs.Accepted.{IsAccepted, charge, size_of_function, size_of_tick}
use Rattle.wellformed.specs.Captured as captured
use Rattle.wellformed.specs.Captured.{named, named_of, named_in}
use Rattle.wellformed.specs.Counts.{objects_at, object_rules, declarations_of, declaration_rules}
use Rattle.wellformed.specs.Places as places
use Rattle.wellformed.specs.Places.{Around, Part, Act, part, act, stands_as_tick}
use Rattle.wellformed.specs.Values as values
use Rattle.wellformed.specs.Values.{Use, value_use, uses_values, body_uses_values}
use Rattle.wellformed.specs.Program as program
use Rattle.wellformed.specs.Program.{IsFunction, IsTick, IsNumbered, AreNumbered, IsProgram, IsWellFormed}

-- ---- the folds

pub part_viewed : (e : Expr) → part e ≡ fold_expr places.expr_rule (expr_view e)
unfolding part
part_viewed = fusion places.expr_rule

pub act_viewed : (s : Stmt) → act s ≡ fold_stmt places.rules (stmt_view s)
unfolding act
act_viewed = statement_fusion places.rules

pub use_viewed : (e : Expr) → value_use e ≡ fold_expr values.expr_rule (expr_view e)
unfolding value_use
use_viewed = fusion values.expr_rule

pub uses_viewed : (s : Stmt) → uses_values s ≡ fold_stmt values.rules (stmt_view s)
unfolding uses_values
uses_viewed = statement_fusion values.rules

pub named_viewed : (e : Expr) → named e ≡ fold_expr captured.expr_rule (expr_view e)
unfolding named
named_viewed = fusion captured.expr_rule

pub named_of_viewed : (s : Stmt) → named_of s ≡ fold_stmt captured.rules (stmt_view s)
unfolding named named_of
named_of_viewed = statement_fusion captured.rules

pub objects_viewed : (byte : ℕ) (s : Stmt) → objects_at byte s ≡ fold_stmt (object_rules byte) (stmt_view s)
unfolding objects_at
objects_viewed byte = statement_fusion (object_rules byte)

pub declarations_viewed : (i : ℕ) (s : Stmt) → declarations_of i s ≡ fold_stmt (declaration_rules i) (stmt_view s)
unfolding declarations_of
declarations_viewed i = statement_fusion (declaration_rules i)

-- ---- bodies

numbers_viewed : (s : Stmt) → accepted.AreNumbered s → AreNumbered (stmt_view s)
numbers_viewed s h = record {
  once = λ i. subst (λ n. n ≤ 1) (declarations_viewed i s) (h.once i);
  dense = λ i at. subst (λ n. i < n) (statement_size_viewed s)
      (h.dense i (subst (λ n. 0 < n) (sym (declarations_viewed i s)) at));
}

pub body_sized : (b : TickBody) → body_size b ≡ size_of_body (body_view b)
body_sized (body.Expression e) = size_viewed e
body_sized (body.Statement s) = statement_size_viewed s

body_stands : (b : TickBody) (a : Around) → stands_as_tick b a ≡ program.stands_as_tick (body_view b) a
body_stands (body.Expression e) a = ap (λ x. x.stands a) (part_viewed e)
body_stands (body.Statement s) a = ap (λ x. x.stands a) (act_viewed s)

body_used : (b : TickBody) → body_uses_values b ≡ program.body_uses_values (body_view b)
body_used (body.Expression e) = ap (λ u. u.right) (use_viewed e)
body_used (body.Statement s) = uses_viewed s

body_named : (b : TickBody) → named_in b ≡ program.named_in (body_view b)
body_named (body.Expression e) = named_viewed e
body_named (body.Statement s) = named_of_viewed s

body_numbered : (b : TickBody) → accepted.IsNumbered b → IsNumbered (body_view b)
body_numbered (body.Expression e) h = tt
body_numbered (body.Statement s) h = numbers_viewed s h

pub counts_viewed : (fs : List Function) → program.parameters_of (map function_view fs) ≡ accepted.parameters_of fs
counts_viewed [] = refl
counts_viewed (f ∷ fs) = ap (λ ns. f.params ∷ ns) (counts_viewed fs)

module _ (p : TypedParts) (all : List (List CaptureKind)) where
  as_many : program.parameters_of (map function_view p.functions) ≡ accepted.parameters_of p.functions
  as_many = counts_viewed p.functions

  -- round a function of a program of these, and round a tick
  abbrev round_body : ℕ → List ℕ → Around
  round_body object many = record {
    variables = [];
    object = object;
    functions = many;
    ticks = all;
    captures = None;
    in_loop = false;
    in_switch =
        false;
  }

  abbrev round_captured : List CaptureKind → List ℕ → Around
  round_captured kinds many =
      record {
        variables = [];
        object = 0;
        functions = many;
        ticks = all;
        captures = Some kinds;
        in_loop = false;
        in_switch = false;
      }

  function_viewed : (f : Function) → accepted.IsFunction p all f → IsFunction (program_view p) all (function_view f)
  function_viewed f h = record {
    stands = ap (λ n. program.stands_as_body (stmt_view f.body) f.params (round_body f.object n)) as_many
        ∙ sym (ap (λ x. x.is_body f.params (round_body f.object (accepted.parameters_of p.functions)))
        (act_viewed f.body)) ∙ h.stands;
    values = sym (uses_viewed f.body) ∙ h.values;
    objects = λ byte. sym (objects_viewed byte f.body) ∙ h.objects byte;
    numbers = numbers_viewed f.body h.numbers;
    few = h.few;
    small = subst (λ n. n ≤ SIZE_LIMIT) (h.size ∙ statement_size_viewed f.body) h.small;
    short = h.short;
  }

  tick_viewed : (t : Tick) (kinds : List CaptureKind) → accepted.IsTick p all t kinds →
      IsTick (program_view p) all (tick_view t) kinds
  tick_viewed t kinds h = record {
    stands = ap (λ n. program.stands_as_tick (body_view t.body) (round_captured kinds n)) as_many
        ∙ sym (body_stands t.body (round_captured kinds (accepted.parameters_of p.functions))) ∙ h.stands;
    values = sym (body_used t.body) ∙ h.values;
    captures = sym (ap (λ f. f (Some [])) (body_named t.body)) ∙ h.captures;
    numbers = body_numbered t.body h.numbers;
    small = subst (λ n. n ≤ SIZE_LIMIT) (h.size ∙ body_sized t.body) h.small;
  }

-- ---- lists

module _ {A B : Type 0} (v : A → B) where
  -- what holds of the view of each element holds of each element of the view
  found : (P : B → Type 0) (o : Option A) (y : B) → option_map v o ≡ Some y → ((x : A) → o ≡ Some x → P (v x)) → P y
  found P None y at h = absurd cc
  found P (Some x) y at h = let same : v x ≡ y = cc in subst P same (h x refl)

  at_view : (P : B → Type 0) (xs : List A) (n : ℕ) (y : B) → slice_get (map v xs) n ≡ Some y →
      ((x : A) → slice_get xs n ≡ Some x → P (v x)) → P y
  at_view P xs n y at h = found P (slice_get xs n) y (sym (slice_get-map v xs n) ∙ at) h

  same_numbers : (g : B → ℕ) (h : A → ℕ) (xs : List A) → ((n : ℕ) (x : A) → slice_get xs n ≡ Some x → h x ≡ g (v x)) →
      map h xs ≡ map g (map v xs)
  same_numbers g h [] e = refl
  same_numbers g h (x ∷ xs) e =
      ap (λ m. m ∷ map h xs) (e zero x refl) ∙ ap (λ ms. g (v x) ∷ ms) (same_numbers g h xs (λ n y at. e (suc n) y at))

beside : {A B : Type 0} (xs : List A) (ys : List B) (n : ℕ) (x : A) → length xs ≡ length ys → slice_get xs n ≡ Some x →
    (y : B) × (slice_get ys n ≡ Some y)
beside [] ys n x e at = absurd cc
beside (a ∷ xs) [] n x e at = absurd (omega (arith, e))
beside (a ∷ xs) (b ∷ ys) zero x e at = (b, refl)
beside (a ∷ xs) (b ∷ ys) (suc n) x e at = beside xs ys n x (omega (arith, e)) at

-- ---- programs

module _ (p : TypedParts) (h : IsAccepted p) where
  function_sized : (n : ℕ) (f : Function) → slice_get p.functions n ≡ Some f → f.size ≡ size_of_stmt (stmt_view f.body)
  function_sized n f at = (h.functions n f at).size ∙ statement_size_viewed f.body

  tick_sized : (n : ℕ) (t : Tick) → slice_get p.ticks n ≡ Some t → t.size ≡ size_of_body (body_view t.body)
  tick_sized n t at =
      let k = beside p.ticks h.captures n t (sym h.each) at in
      (h.ticks n t k.0 at k.1).size ∙ body_sized t.body

  function_charges : map (λ f. charge (size_of_function f)) p.functions ≡ map (λ f. charge (size_of_stmt f.body))
      (map function_view p.functions)
  function_charges = same_numbers function_view (λ f. charge (size_of_stmt f.body)) (λ f. charge (size_of_function f))
      p.functions (λ n f at. ap charge (function_sized n f at))

  tick_charges : map (λ t. charge (size_of_tick t)) p.ticks ≡ map (λ t. charge (size_of_body t)) (map tick_view p.ticks)
  tick_charges = same_numbers tick_view (λ t. charge (size_of_body t)) (λ t. charge (size_of_tick t)) p.ticks
      (λ n t at. ap charge (tick_sized n t at))

  program_viewed : IsProgram (program_view p)
  program_viewed = record {
    captures = h.captures;
    each = h.each ∙ sym (length-map p.ticks tick_view);
    functions = λ n f at. at_view function_view (IsFunction (program_view p) h.captures) p.functions n f at
        (λ x k. function_viewed p h.captures x (h.functions n x k));
    ticks = λ n t kinds at k. at_view tick_view (λ u. IsTick (program_view p) h.captures u kinds) p.ticks n t at
        (λ x l. tick_viewed p h.captures x kinds (h.ticks n x kinds l k));
    image = h.image;
    small = omega (arith, h.small, ap sum function_charges, ap sum tick_charges);
  }

  pub well_formed : IsWellFormed p
  well_formed = record {
    program = program_viewed;
    function_sizes = function_sized;
    tick_sizes = tick_sized;
    main = h.main;
    main_function = h.main_function;
    is_main = h.is_main;
    name = h.name;
    no_parameters = h.no_parameters;
  }
