-- The frame of an accepted text's function is of whole words, since each of its bytes belongs to an object of whole
-- words.
use Rattle.std.proofs.Common.{◌≡◌, ℕ, zero, suc, ◌+◌, ◌*◌, ◌/◌, ◌%◌, ◌<◌, ◌≤◌, Bool, true, false, ◌&&◌, List, refl, sym}
use Rattle.std.proofs.Common.{ap}
use Rattle.std.proofs.Common.{◌∙◌, arith}
use Rattle.std.specs.Prelude.{nat_le, nat_lt, sum}
use Rattle.std.specs.List.{fold}
use Rattle.std.proofs.lemmas.Bool.Decides.{nat_tests}
use Rattle.typed_tree.specs.declared.expression.CaptureKind.{CaptureKind}
use Rattle.typed_tree.specs.Nodes as node
use Rattle.typed_tree.specs.Nodes.{Stmt, Items, Function, fold_items}
use Rattle.wellformed.specs.Counts.{one_if, is_in, object_rules}
use Rattle.wellformed.specs.Program.{IsFunction, objects_at}
use Rattle.staged_meaning.specs.Frames.{HasFramesStmt, HaveFramesItems}
use Rattle.wf_ready.proofs.Frames.{function_frames}

-- the bytes of a word lie alike to an address of a word
le_same : (off q r : ℕ) → off % 4 ≡ 0 → r < 4 → nat_le off (4 * q + r) ≡ nat_le off (4 * q)
le_same off q r even low = by (nat_le off (4 * q + r)) (nat_le off (4 * q)) refl refl
  where
    by : (a b : Bool) → nat_le off (4 * q + r) ≡ a → nat_le off (4 * q) ≡ b → nat_le off (4 * q + r) ≡ nat_le off
        (4 * q)
    by true true p s = p ∙ sym s
    by false false p s = p ∙ sym s
    by true false p s =
        let x : off ≤ 4 * q + r = grind (arith, nat_tests, p) in
        let y : 4 * q < off = grind (arith, nat_tests, s) in
        absurd (omega (arith, x, y, even, low))
    by false true p s =
        let x : 4 * q + r < off = grind (arith, nat_tests, p) in
        let y : off ≤ 4 * q = grind (arith, nat_tests, s) in
        absurd (omega (arith, x, y))

lt_same : (end q r : ℕ) → end % 4 ≡ 0 → r < 4 → nat_lt (4 * q + r) end ≡ nat_lt (4 * q) end
lt_same end q r even low = by (nat_lt (4 * q + r) end) (nat_lt (4 * q) end) refl refl
  where
    by : (a b : Bool) → nat_lt (4 * q + r) end ≡ a → nat_lt (4 * q) end ≡ b → nat_lt (4 * q + r) end ≡ nat_lt (4 * q)
        end
    by true true p s = p ∙ sym s
    by false false p s = p ∙ sym s
    by true false p s =
        let x : 4 * q + r < end = grind (arith, nat_tests, p) in
        let y : end ≤ 4 * q = grind (arith, nat_tests, s) in
        absurd (omega (arith, x, y))
    by false true p s =
        let x : end ≤ 4 * q + r = grind (arith, nat_tests, p) in
        let y : 4 * q < end = grind (arith, nat_tests, s) in
        absurd (omega (arith, x, y, even, low))

in_same : (off words q r : ℕ) → off % 4 ≡ 0 → r < 4 → is_in (4 * q + r) off words ≡ is_in (4 * q) off words
in_same off words q r even low =
    let whole : (off + 4 * words) % 4 ≡ 0 = omega (arith, even) in
    ap (λ b. b && nat_lt (4 * q + r) (off + 4 * words)) (le_same off q r even low)
    ∙ ap (λ b. nat_le off (4 * q) && b) (lt_same (off + 4 * words) q r whole low)

-- the frame objects to which the bytes of a word belong
abbrev objects_of : ℕ → Items → ℕ
objects_of byte is = sum (fold_items (object_rules byte) is)

module _ (object q r : ℕ) (low : r < 4) where
  two_same : (a b c d : ℕ) → a ≡ b → c ≡ d → a + c ≡ b + d
  two_same a b c d x y = omega (arith, x, y)

  mutual
    stmt_same : (s : Stmt) → HasFramesStmt object s → objects_at (4 * q + r) s ≡ objects_at (4 * q) s
    stmt_same (node.Object off words) h = ap one_if (in_same off words q r h.0.1 low)
    stmt_same (node.ParameterObject k w off) h = ap one_if (in_same off 1 q r h.1 low)
    stmt_same (node.Block vs is) h =
        two_same (objects_of (4 * q + r) vs) (objects_of (4 * q) vs) (objects_of (4 * q + r) is)
        (objects_of (4 * q) is) (from_same vs h.0 0 0 refl) (from_same is h.1 0 0 refl)
    stmt_same (node.If e s) h = stmt_same s h.1
    stmt_same (node.IfElse e s t) h =
        two_same (objects_at (4 * q + r) s) (objects_at (4 * q) s) (objects_at (4 * q + r) t) (objects_at (4 * q) t)
        (stmt_same s h.1) (stmt_same t h.2)
    stmt_same (node.While e s) h = stmt_same s h.1
    stmt_same (node.Do s e) h = stmt_same s h.0
    stmt_same (node.For e s) h = stmt_same s h.1
    stmt_same (node.ForStep e step s) h = stmt_same s h.2
    stmt_same (node.Switch e vs is) h =
        two_same (objects_of (4 * q + r) vs) (objects_of (4 * q) vs) (objects_of (4 * q + r) is)
        (objects_of (4 * q) is) (from_same vs h.1 0 0 refl) (from_same is h.2 0 0 refl)
    stmt_same _ h = refl

    from_same : (is : Items) → HaveFramesItems object is → (m n : ℕ) → m ≡ n →
        fold ◌+◌ m (fold_items (object_rules (4 * q + r)) is) ≡ fold ◌+◌ n (fold_items (object_rules (4 * q)) is)
    from_same node.NoItem h m n e = e
    from_same (node.Item s is) h m n e =
        from_same is h.1 (m + objects_at (4 * q + r) s) (n + objects_at (4 * q) s)
        (two_same m n (objects_at (4 * q + r) s) (objects_at (4 * q) s) e (stmt_same s h.0))

-- a number of bytes of which a word's bytes are all or none
whole_of : (object q r : ℕ) → object ≡ 4 * q + r → r < 4 →
    one_if (nat_lt (4 * q) object) ≡ one_if (nat_lt (4 * q + r) object) → object % 4 ≡ 0
whole_of object q zero is low h = omega (arith, is)
whole_of object q (suc r) is low h = by (nat_lt (4 * q) object) (nat_lt (4 * q + suc r) object) refl refl h
  where
    by : (a b : Bool) → nat_lt (4 * q) object ≡ a → nat_lt (4 * q + suc r) object ≡ b → one_if a ≡ one_if b →
        object % 4 ≡ 0
    by false b p s e =
        let x : object ≤ 4 * q = grind (arith, nat_tests, p) in absurd (omega (arith, x, is))
    by true true p s e =
        let x : 4 * q + suc r < object = grind (arith, nat_tests, s) in absurd (omega (arith, x, is))
    by true false p s e = absurd cc

pub function_whole : (p : node.Program) (ticks : List (List CaptureKind)) (f : Function) → IsFunction p ticks f →
    f.object % 4 ≡ 0
function_whole p ticks f h =
    let q = f.object / 4 in
    let r = f.object % 4 in
    let is : f.object ≡ 4 * q + r = omega arith in
    let low : r < 4 = omega arith in
    whole_of f.object q r is low
    (sym (h.objects (4 * q))
    ∙ sym (stmt_same f.object q r low f.body (function_frames p ticks f h))
    ∙ h.objects (4 * q + r))
