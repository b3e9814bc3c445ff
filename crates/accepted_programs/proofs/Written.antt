-- The pieces of a tick of an accepted text that is of the list's nodes: the arguments of their ops are words, and each
-- capture that they name is one that a closure has room for.
use Rattle.std.proofs.Common.{◌≡◌, ℕ, ◌+◌, ◌<◌, ◌≤◌, Bool, true, false, ◌&&◌, ◌||◌, nat_le, List, []}
use Rattle.std.proofs.Common.{◌∷◌, ◌++◌, length, Some, refl, sym, ◌∙◌, ap, arith}
use Rattle.std.specs.Prelude.{◌==◌, ◌-◌}
use Rattle.std.specs.List.{list_any}
use Rattle.std.proofs.lemmas.Bool.Decides.{nat_tests}
use Rattle.std.proofs.lemmas.List.Folds.{list_any-append}
use Rattle.limits.specs.declared.program.TheConstants.{SIZE_LIMIT}
use Rattle.icode_ops.specs.declared.kind.BinKind.TheVariants as bin
use Rattle.icode_ir.specs.Sound.{Each}
use Rattle.icode_ir.specs.declared.build_op.BuildOp.{BuildOp}
use Rattle.typed_tree.specs.declared.expression.CaptureKind.{CaptureKind}
use Rattle.typed_tree.specs.declared.program.TickBody.{TickBody}
use Rattle.typed_tree.specs.declared.program.TickBody.TheVariants as body
use Rattle.typed_tree.specs.Nodes as node
use Rattle.typed_tree.specs.Nodes.{Expr, Stmt, Items, fold_items, has_value}
use Rattle.typed_tree.specs.View.{expr_view, stmt_view, body_view}
use Rattle.wellformed.specs.Places.{Around, in_function, is_function, in_scope, rules, numbers_of, values_of}
use Rattle.wellformed.specs.Places.{all_different, all_declare, all_stand, is_label, all_items, within, looped}
use Rattle.wellformed.specs.Places.{switched}
use Rattle.wellformed.specs.Program.{IsTick, round_tick}
use Rattle.wellformed.proofs.Bools.{first_true, second_true}
use Rattle.wf_ready.proofs.Scoped.{part, act, two}
use Rattle.wf_ready.proofs.Dense.{variables_few}
use Rattle.staged_meaning.specs.Size.{labels_in, labels, labels_of, temps_in, temps, temps_of, variables_in}
use Rattle.staged_meaning.specs.Size.{variables_of}
use Rattle.staged_meaning.specs.Source as source
use Rattle.tick_lower_spec.specs.Lower.{Addresses, Targets, dropping, case_ops, test_ops, default_or, default_label}
use Rattle.tick_lower_spec.specs.Lower.{nowhere}
use Rattle.tick_lower_spec.specs.TickPieces.{plain, expr_pieces, stmt_pieces, items_pieces, tick_pieces}
use Rattle.tick_lower_proof.proofs.Counts.{few_labels, few_temps}
use Rattle.routine_spec.specs.Generator.{HasRoom}
use Rattle.static_image.specs.Layout.{functions_at}
use Rattle.tree_words.specs.Words.{has_words_expr, has_words_stmt, have_words, has_words_body}
use Rattle.accepted_programs.proofs.WrittenExpressions.{listed_word, none, bin_fits, Rooms, beside, drops, own_drops}
use Rattle.accepted_programs.proofs.WrittenExpressions.{expr_written}
use Rattle.accepted_programs.proofs.Statics.{TicksHaveRoom}

-- what a break and a continue go to, where they may stand
record Aims (a : Around) (to : Targets) : Type 0 where
  breaks : (a.in_loop || a.in_switch) ≡ true → to.on_break < 4294967296
  continues : a.in_loop ≡ true → to.on_continue < 4294967296

-- the variables that a block declares are below those that it counts
declared_low : (a : Around) (s : Stmt) (i : ℕ) → (act s).declares a ≡ true
    → list_any (λ n. i == n) (act s).number ≡ true → i < variables_in s
declared_low a (node.Variable j) i d h = let same : i ≡ j = grind (arith, nat_tests) in omega (arith, same)
declared_low a (node.Object offset words) i d h = absurd cc
declared_low a _ i d h = absurd cc

either : {P : Type 0} (b c : Bool) → (b || c) ≡ true → (b ≡ true → P) → (c ≡ true → P) → P
either true c h f g = f refl
either false c h f g = g h

all_low : (a : Around) (vs : Items) (i : ℕ) → all_declare (fold_items rules vs) a ≡ true
    → list_any (λ n. i == n) (numbers_of (fold_items rules vs)) ≡ true → i < variables_of vs
all_low a node.NoItem i d h = absurd cc
all_low a (node.Item s vs) i d h =
    let q = two ((act s).declares a) (all_declare (fold_items rules vs) a) d in
    either (list_any (λ n. i == n) (act s).number) (list_any (λ n. i == n) (numbers_of (fold_items rules vs)))
    (sym (list_any-append (λ n. i == n) (act s).number (numbers_of (fold_items rules vs))) ∙ h)
    (λ e. omega (arith, declared_low a s i q.0 e)) (λ e. omega (arith, all_low a vs i q.1 e))

-- where a switch goes without a case
or_low : (s : Stmt) (l x : ℕ) → x < 4294967296 → l + labels s ≤ 4294967296 → default_or s l x < 4294967296
or_low node.Default l x low room = omega (arith, room)
or_low _ l x low room = low

default_low : (items : Items) (l x : ℕ) → x < 4294967296 → l + labels_of items ≤ 4294967296 →
    default_label items l x < 4294967296
default_low node.NoItem l x low room = low
default_low (node.Item s items) l x low room =
    or_low s l (default_label items (l + labels s) x)
    (default_low items (l + labels s) x low (omega (arith, room))) (omega (arith, room))

-- the tests of a switch
plain_beside : (xs ys : List BuildOp) → Rooms (plain xs) → Rooms (plain ys) → Rooms (plain (xs ++ ys))
plain_beside [] ys f g = g
plain_beside (x ∷ xs) ys f g = (f.0, plain_beside xs ys f.1 g)

tested : (s : Stmt) (l t : ℕ) → has_words_stmt s ≡ true → l + labels s ≤ 4294967296 → t < 4294967296 →
    Rooms (plain (case_ops s l t))
tested (node.Case v) l t d low mine =
    let here : l < 4294967296 = omega (arith, low) in
    ((mine, none), ((listed_word v d, none), ((bin_fits bin.NotEqual, none), ((here, none), tt))))
tested _ l t d low mine = tt

tests : (items : Items) (l t : ℕ) → have_words items ≡ true → l + labels_of items ≤ 4294967296 → t < 4294967296 →
    Rooms (plain (test_ops items l t))
tests node.NoItem l t d low mine = tt
tests (node.Item s items) l t d low mine =
    let k = two (has_words_stmt s) (have_words items) d in
    plain_beside (case_ops s l t) (test_ops items (l + labels s) t) (tested s l t k.0 (omega (arith, low)) mine)
    (tests items (l + labels s) t k.1 (omega (arith, low)) mine)

-- ---- in a tick that captures these kinds

module _ (addresses : Addresses) (placed : (f : ℕ) → addresses.function_at f < 4294967296) (kinds : List CaptureKind)
    (few : length kinds ≤ SIZE_LIMIT) where
  no_function : (a : Around) → a.captures ≡ Some kinds → in_function a ≡ true → ⊥
  no_function a is h = let none : in_function a ≡ false = ap is_function is in cc

  -- the numbers of the variables round a node are words
  abbrev Seen : Around → Type 0
  Seen a = (i : ℕ) → in_scope i a ≡ true → i < 4294967296

  seen_within : (a : Around) (vs : Items) → Seen a → all_declare (fold_items rules vs) a ≡ true →
      variables_of vs ≤ 4294967296 → Seen (within (fold_items rules vs) a)
  seen_within a vs seen d small i h =
      either (in_scope i a) (list_any (λ n. i == n) (numbers_of (fold_items rules vs)))
      (sym (list_any-append (λ n. i == n) a.variables (numbers_of (fold_items rules vs))) ∙ h) (λ e. seen i e)
      (λ e. omega (arith, all_low a vs i d e, small))

  in_loop : (a : Around) (to : Targets) → to.on_break < 4294967296 → to.on_continue < 4294967296 →
      Aims (looped a) to
  in_loop a to b c = record { breaks = λ h. b; continues = λ h. c }

  value : (a : Around) → a.captures ≡ Some kinds → Seen a → (e : Expr) (l t : ℕ) → (part e).stands a ≡ true →
      has_words_expr e ≡ true → l + labels_in e ≤ 4294967296 → t + temps_in e ≤ 4294967296 →
      Rooms (expr_pieces addresses e l t)
  value a is seen e l t s d low room =
      expr_written addresses placed kinds (omega (arith, few)) a is seen e l t s d low room

  -- a variable of a block; frame objects stand in functions alone
  declares : (a : Around) → a.captures ≡ Some kinds → (s : Stmt) (to : Targets) (l t : ℕ) →
      (act s).declares a ≡ true → variables_in s ≤ 4294967296 → Rooms (stmt_pieces addresses s to l t)
  declares a is (node.Variable i) to l t s small =
      let mine : i < 4294967296 = omega (arith, small) in
      ((none, none), ((mine, none), ((none, none), tt)))
  declares a is (node.Object offset words) to l t s small =
      absurd (no_function a is (second_true (nat_le 1 words) (in_function a)
      (first_true (nat_le 1 words && in_function a) _ (first_true _ _ s))))
  declares a is _ to l t s small = absurd cc

  all_declared : (a : Around) → a.captures ≡ Some kinds → (vs : Items) (to : Targets) (l t : ℕ) →
      all_declare (fold_items rules vs) a ≡ true → variables_of vs ≤ 4294967296 →
      Rooms (items_pieces addresses vs to l t)
  all_declared a is node.NoItem to l t s small = tt
  all_declared a is (node.Item x vs) to l t s small =
      let q = two ((act x).declares a) (all_declare (fold_items rules vs) a) s in
      beside _ _ (declares a is x to l t q.0 (omega (arith, small)))
      (all_declared a is vs to (l + labels x) (t + temps x) q.1 (omega (arith, small)))

  -- an item of a switch's block
  label_or : (a : Around) (s : Stmt) (to : Targets) (l t : ℕ) → (is_label (act s) || (act s).stands a) ≡ true →
      l + labels s ≤ 4294967296 → ((act s).stands a ≡ true → Rooms (stmt_pieces addresses s to l t)) →
      Rooms (stmt_pieces addresses s to l t)
  label_or a (node.Case v) to l t h low f = let here : l < 4294967296 = omega (arith, low) in ((here, none), tt)
  label_or a node.Default to l t h low f = let here : l < 4294967296 = omega (arith, low) in ((here, none), tt)
  label_or a _ to l t h low f = f h

  mutual
    stmt_written : (a : Around) → a.captures ≡ Some kinds → Seen a → (s : Stmt) (to : Targets) → Aims a to →
        (l t : ℕ) → (act s).stands a ≡ true → has_words_stmt s ≡ true → variables_in s ≤ 4294967296 →
        l + labels s ≤ 4294967296 → t + temps s ≤ 4294967296 → Rooms (stmt_pieces addresses s to l t)
    stmt_written a is seen (node.Eval e) to aims l t s d small low room =
        beside _ _ (value a is seen e l t s d low room) (own_drops (has_value e))
    stmt_written a is seen (node.Block vs xs) to aims l t s d small low room =
        let q = two (all_declare (fold_items rules vs) a)
        (all_stand (fold_items rules xs) (within (fold_items rules vs) a)) s in
        let k = two (have_words vs) (have_words xs) d in
        let fits : variables_of vs ≤ 4294967296 = omega (arith, small) in (
          tt,
          beside _ _ (all_declared a is vs to l t q.0 fits)
              (items_written (within (fold_items rules vs) a) is (seen_within a vs seen q.0 fits) xs to
              (record { breaks = aims.breaks; continues = aims.continues }) (l + labels_of vs) (t + temps_of vs) q.1 k.1
              (omega (arith, small)) (omega (arith, low)) (omega (arith, room))),
        )
    stmt_written a is seen (node.If e x) to aims l t s d small low room =
        let q = two ((part e).stands a) ((act x).stands a) s in
        let k = two (has_words_expr e) (has_words_stmt x) d in
        let here : l < 4294967296 = omega (arith, low) in
        beside _ _ (value a is seen e (l + 1) t q.0 k.0 (omega (arith, low)) (omega (arith, room))) (
          (here, none),
          beside _ _
              (stmt_written a is seen x to aims (l + 1 + labels_in e) (t + temps_in e) q.1 k.1 small (omega
              (arith, low)) (omega (arith, room)))
              ((here, none), tt),
        )
    stmt_written a is seen (node.IfElse e x y) to aims l t s d small low room =
        let q = two ((part e).stands a && (act x).stands a) ((act y).stands a) s in
        let p = two ((part e).stands a) ((act x).stands a) q.0 in
        let k = two (has_words_expr e && has_words_stmt x) (has_words_stmt y) d in
        let j = two (has_words_expr e) (has_words_stmt x) k.0 in
        let here : l < 4294967296 = omega (arith, low) in
        let there : l + 1 < 4294967296 = omega (arith, low) in
        beside _ _ (value a is seen e (l + 2) t p.0 j.0 (omega (arith, low)) (omega (arith, room))) (
          (here, none),
          beside _ _
              (stmt_written a is seen x to aims (l + 2 + labels_in e) (t + temps_in e) p.1 j.1 (omega
              (arith, small)) (omega (arith, low)) (omega (arith, room))) (
                (there, none),
                (
                  (here, none),
                  beside _ _
                      (stmt_written a is seen y to aims (l + 2 + labels_in e + labels x) (t + temps_in e + temps x) q.1
                      k.1
                      (omega (arith, small)) (omega (arith, low)) (omega (arith, room)))
                      ((there, none), tt),
                ),
              ),
        )
    stmt_written a is seen (node.While e x) to aims l t s d small low room =
        let q = two ((part e).stands a) ((act x).stands (looped a)) s in
        let k = two (has_words_expr e) (has_words_stmt x) d in
        let here : l < 4294967296 = omega (arith, low) in
        let there : l + 1 < 4294967296 = omega (arith, low) in
        let inner : Targets = record { on_break = l; on_continue = l + 1 } in (
          (there, none),
          beside _ _ (value a is seen e (l + 2) t q.0 k.0 (omega (arith, low)) (omega (arith, room))) (
            (here, none),
            beside _ _
                (stmt_written (looped a) is seen x inner (in_loop a inner here there) (l + 2 + labels_in e)
                (t + temps_in e) q.1 k.1 small (omega (arith, low)) (omega (arith, room)))
                ((there, none), ((here, none), tt)),
          ),
        )
    stmt_written a is seen (node.Do x e) to aims l t s d small low room =
        let q = two ((act x).stands (looped a)) ((part e).stands a) s in
        let k = two (has_words_stmt x) (has_words_expr e) d in
        let here : l < 4294967296 = omega (arith, low) in
        let there : l + 1 < 4294967296 = omega (arith, low) in
        let third : l + 2 < 4294967296 = omega (arith, low) in
        let inner : Targets = record { on_break = l; on_continue = l + 2 } in (
          (there, none),
          beside _ _
              (stmt_written (looped a) is seen x inner (in_loop a inner here third) (l + 3) t q.0 k.0 small (omega
              (arith, low)) (omega (arith, room))) (
                (third, none),
                beside _ _
                    (value a is seen e (l + 3 + labels x) (t + temps x) q.1 k.1 (omega (arith, low))
                    (omega (arith, room)))
                    ((there, none), ((here, none), tt)),
              ),
        )
    stmt_written a is seen (node.For e x) to aims l t s d small low room =
        let q = two ((part e).stands a) ((act x).stands (looped a)) s in
        let k = two (has_words_expr e) (has_words_stmt x) d in
        let here : l < 4294967296 = omega (arith, low) in
        let there : l + 1 < 4294967296 = omega (arith, low) in
        let third : l + 2 < 4294967296 = omega (arith, low) in
        let inner : Targets = record { on_break = l; on_continue = l + 2 } in (
          (there, none),
          beside _ _ (value a is seen e (l + 3) t q.0 k.0 (omega (arith, low)) (omega (arith, room))) (
            (here, none),
            beside _ _
                (stmt_written (looped a) is seen x inner (in_loop a inner here third) (l + 3 + labels_in e)
                (t + temps_in e) q.1 k.1 small (omega (arith, low)) (omega (arith, room)))
                ((third, none), ((there, none), ((here, none), tt))),
          ),
        )
    stmt_written a is seen (node.ForStep e step x) to aims l t s d small low room =
        let q = two ((part e).stands a && (part step).stands a) ((act x).stands (looped a)) s in
        let p = two ((part e).stands a) ((part step).stands a) q.0 in
        let k = two (has_words_expr e && has_words_expr step) (has_words_stmt x) d in
        let j = two (has_words_expr e) (has_words_expr step) k.0 in
        let here : l < 4294967296 = omega (arith, low) in
        let there : l + 1 < 4294967296 = omega (arith, low) in
        let third : l + 2 < 4294967296 = omega (arith, low) in
        let inner : Targets = record { on_break = l; on_continue = l + 2 } in (
          (there, none),
          beside _ _ (value a is seen e (l + 3) t p.0 j.0 (omega (arith, low)) (omega (arith, room))) (
            (here, none),
            beside _ _
                (stmt_written (looped a) is seen x inner (in_loop a inner here third) (l + 3 + labels_in e)
                (t + temps_in e) q.1 k.1 small (omega (arith, low)) (omega (arith, room))) (
                  (third, none),
                  beside _ _
                      (value a is seen step (l + 3 + labels_in e + labels x) (t + temps_in e + temps x) p.1 j.1 (omega
                      (arith, low)) (omega (arith, room)))
                      (beside (plain (dropping (has_value step))) _ (drops (has_value step))
                      ((there, none), ((here, none), tt))),
                ),
          ),
        )
    stmt_written a is seen (node.Switch e vs xs) to aims l t s d small low room =
        let inner : Around = switched (within (fold_items rules vs) a) in
        let front : Bool = (part e).stands a && all_declare (fold_items rules vs) a in
        let whole : Bool = front && all_items (fold_items rules xs) inner in
        let apart : Bool = whole && all_different (values_of (fold_items rules xs)) in
        let q = two front (all_items (fold_items rules xs) inner) (first_true whole _ (first_true apart _ s)) in
        let p = two ((part e).stands a) (all_declare (fold_items rules vs) a) q.0 in
        let k = two (has_words_expr e && have_words vs) (have_words xs) d in
        let j = two (has_words_expr e) (have_words vs) k.0 in
        let here : l < 4294967296 = omega (arith, low) in
        let mine : t < 4294967296 = omega (arith, room) in
        let fits : variables_of vs ≤ 4294967296 = omega (arith, small) in
        let x : ℕ = l + 1 + labels_in e in
        let y : ℕ = t + 1 + temps_in e in
        let in_it : Targets = record { on_break = l; on_continue = to.on_continue } in
        beside _ _ (value a is seen e (l + 1) (t + 1) p.0 j.0 (omega (arith, low)) (omega (arith, room))) (
          (mine, none),
          (
            (none, none),
            (
              tt,
              beside _ _ (all_declared a is vs to x y p.1 fits)
                  (beside (plain (test_ops xs (x + labels_of vs) t)) _
                  (tests xs (x + labels_of vs) t k.1 (omega (arith, low)) mine) (
                    (default_low xs (x + labels_of vs) l here (omega (arith, low)), none),
                    beside _ _
                        (labelled_written inner is (seen_within a vs seen p.1 fits) xs in_it
                        (record { breaks = λ z. here; continues = aims.continues }) (x + labels_of vs) (y + temps_of vs)
                        q.1 k.1 (omega (arith, small)) (omega (arith, low)) (omega (arith, room)))
                        ((here, none), tt),
                  )),
            ),
          ),
        )
    stmt_written a is seen node.Break to aims l t s d small low room = ((aims.breaks s, none), tt)
    stmt_written a is seen node.Continue to aims l t s d small low room = ((aims.continues s, none), tt)
    stmt_written a is seen node.Return to aims l t s d small low room = ((none, none), tt)
    stmt_written a is seen (node.ReturnValue e) to aims l t s d small low room =
        beside _ _ (value a is seen e l t s d low room) ((none, none), tt)
    stmt_written a is seen _ to aims l t s d small low room = absurd cc

    items_written : (a : Around) → a.captures ≡ Some kinds → Seen a → (xs : Items) (to : Targets) → Aims a to →
        (l t : ℕ) → all_stand (fold_items rules xs) a ≡ true → have_words xs ≡ true →
        variables_of xs ≤ 4294967296 → l + labels_of xs ≤ 4294967296 → t + temps_of xs ≤ 4294967296 →
        Rooms (items_pieces addresses xs to l t)
    items_written a is seen node.NoItem to aims l t s d small low room = tt
    items_written a is seen (node.Item x xs) to aims l t s d small low room =
        let q = two ((act x).stands a) (all_stand (fold_items rules xs) a) s in
        let k = two (has_words_stmt x) (have_words xs) d in
        beside _ _
        (stmt_written a is seen x to aims l t q.0 k.0 (omega (arith, small)) (omega (arith, low)) (omega (arith, room)))
        (items_written a is seen xs to aims (l + labels x) (t + temps x) q.1 k.1 (omega (arith, small)) (omega
        (arith, low)) (omega (arith, room)))

    labelled_written : (a : Around) → a.captures ≡ Some kinds → Seen a → (xs : Items) (to : Targets) → Aims a to →
        (l t : ℕ) → all_items (fold_items rules xs) a ≡ true → have_words xs ≡ true →
        variables_of xs ≤ 4294967296 → l + labels_of xs ≤ 4294967296 → t + temps_of xs ≤ 4294967296 →
        Rooms (items_pieces addresses xs to l t)
    labelled_written a is seen node.NoItem to aims l t s d small low room = tt
    labelled_written a is seen (node.Item x xs) to aims l t s d small low room =
        let q = two (is_label (act x) || (act x).stands a) (all_items (fold_items rules xs) a) s in
        let k = two (has_words_stmt x) (have_words xs) d in
        beside _ _
        (label_or a x to l t q.0 (omega (arith, low)) (λ z.
        stmt_written a is seen x to aims l t z k.0 (omega (arith, small)) (omega (arith, low)) (omega (arith, room))))
        (labelled_written a is seen xs to aims (l + labels x) (t + temps x) q.1 k.1 (omega (arith, small)) (omega
        (arith, low)) (omega (arith, room)))

-- the body of a tick of an accepted text
pub tick_written : (p : node.Program) (ticks : List (List CaptureKind)) (b : TickBody) (kinds : List CaptureKind)
    (addresses : Addresses) → IsTick p ticks (body_view b) kinds → length kinds ≤ SIZE_LIMIT →
    ((f : ℕ) → addresses.function_at f < 4294967296) → has_words_body (body_view b) ≡ true →
    Each HasRoom (tick_pieces addresses (source.tick_view b))
tick_written p ticks (body.Expression e) kinds addresses h few placed d =
    let v : Expr = expr_view e in
    let ls : labels (node.Eval v) ≤ _ = few_labels (node.Eval v) in
    let ts : temps (node.Eval v) ≤ _ = few_temps (node.Eval v) in
    let size = h.small in
    let many : labels_in v < 4294967296 = omega (arith, ls, size) in
    let own_ones : temps_in v < 4294967296 = omega (arith, ts, size) in (
      (own_ones, many),
      beside (expr_pieces addresses v 0 0) _
          (value addresses placed kinds few (round_tick p ticks kinds) refl (λ i no. absurd cc) v 0 0 h.stands d (omega
          (arith, many)) (omega (arith, own_ones)))
          ((none, none), tt),
    )
tick_written p ticks (body.Statement s) kinds addresses h few placed d =
    let v : Stmt = stmt_view s in
    let size = h.small in
    let numbered : variables_in v ≤ _ = variables_few v h.numbers in
    let many : labels v < 4294967296 = omega (arith, few_labels v, size) in
    let own_ones : variables_in v + temps v < 4294967296 = omega (arith, few_temps v, numbered, size) in (
      (own_ones, many),
      beside (stmt_pieces addresses v nowhere 0 (variables_in v)) _
          (stmt_written addresses placed kinds few (round_tick p ticks kinds) refl (λ i no. absurd cc) v nowhere
          (record { breaks = λ no. absurd cc; continues = λ no. absurd cc }) 0 (variables_in v) h.stands d (omega
          (arith, own_ones)) (omega (arith, many)) (omega (arith, own_ones)))
          ((none, none), tt),
    )

-- so wherever functions stand
pub ticks_have_room : TicksHaveRoom
ticks_have_room p ticks b kinds starts h few d low =
    tick_written p ticks b kinds (functions_at starts) h few (λ f. omega (arith, low (f - 1))) d
