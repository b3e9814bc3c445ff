-- The functions in front of one.
use Rattle.std.proofs.Common.{◌≡◌, ℕ, zero, suc, ◌+◌, ◌<◌, ◌≤◌, List, [], ◌∷◌, ◌++◌, length, map, take}
use Rattle.std.proofs.Common.{get_or, refl, sym, ap, ◌∙◌, subst, arith}
use Rattle.std.proofs.lemmas.List.{map_more}
use Rattle.std.proofs.Math.ListN.{get_or-map}
use Rattle.icode_ir.specs.Sound.{Each}
use Rattle.typed_tree.specs.declared.expression.CaptureKind.{CaptureKind}
use Rattle.typed_tree.specs.declared.program.Function.{Function}
use Rattle.typed_tree.specs.Nodes as node
use Rattle.typed_tree.specs.View.{function_view}
use Rattle.static_image.specs.Served.{IsStatic, most_words}

abbrev pub front_of : ℕ → List Function → List node.Function
front_of i fs = map function_view (take i fs)

pub front_more : (i : ℕ) (fs : List Function) (f : Function) → i < length fs → f ≡ get_or fs i f →
    front_of i fs ++ function_view f ∷ [] ≡ front_of (i + 1) fs
front_more i fs f low is =
    ap (λ (g : Function). front_of i fs ++ function_view g ∷ []) is ∙ sym (map_more function_view fs i f low)

-- the view of the function that is next is next among the views
pub next_view : (i : ℕ) (fs : List Function) (f : Function) → f ≡ get_or fs i f →
    function_view f ≡ get_or (map function_view fs) i (function_view f)
next_view i fs f is = ap function_view is ∙ sym (get_or-map function_view fs i f)

module _ (gs : List node.Function) (captures : List (List CaptureKind)) where
  pub front_static : (i : ℕ) (fs : List Function) → Each (IsStatic gs captures) (map function_view fs) →
      Each (IsStatic gs captures) (front_of i fs)
  front_static zero fs h = tt
  front_static (suc i) [] h = tt
  front_static (suc i) (f ∷ fs) h = (h.0, front_static i fs h.1)

  static_at : (i : ℕ) (fs : List Function) (d : Function) → i < length fs →
      Each (IsStatic gs captures) (map function_view fs) →
      IsStatic gs captures (function_view (get_or fs i d))
  static_at i [] d low h = absurd (omega (arith, low))
  static_at zero (f ∷ fs) d low h = h.0
  static_at (suc i) (f ∷ fs) d low h = static_at i fs d (omega (arith, low)) h.1

  -- the function that is next is such a one
  pub next_static : (i : ℕ) (fs : List Function) (f : Function) → i < length fs → f ≡ get_or fs i f →
      Each (IsStatic gs captures) (map function_view fs) → IsStatic gs captures (function_view f)
  next_static i fs f low is h =
      subst (λ (g : Function). IsStatic gs captures (function_view g)) (sym is) (static_at i fs f low h)

pub front_few : (i : ℕ) (fs : List Function) → most_words (front_of i fs) ≤ most_words (map function_view fs)
front_few zero fs = omega arith
front_few (suc i) [] = omega arith
front_few (suc i) (f ∷ fs) = omega (arith, front_few i fs)

-- at the end all functions are in front
pub all_in_front : (i : ℕ) (fs : List Function) → length fs ≤ i → front_of i fs ≡ map function_view fs
all_in_front zero [] h = refl
all_in_front (suc i) [] h = refl
all_in_front zero (f ∷ fs) h = absurd (omega (arith, h))
all_in_front (suc i) (f ∷ fs) h = ap (λ gs. function_view f ∷ gs) (all_in_front i fs (omega (arith, h)))
