-- Lines one after another.
use Rattle.std.proofs.Common.{◌≡◌, ℕ, Bool, true, false, not, ◌==◌, ◌&&◌, cond, List, [], ◌∷◌, ◌++◌, map, Option, Some}
use Rattle.std.proofs.Common.{None, refl, sym, ap, ◌∙◌, append_assoc}
use Rattle.std.proofs.lemmas.List.{append-nil}
use Rattle.std.specs.List.{list_all, flat_map}
use Rattle.asm_lines.specs.declared.line.Line.{Line}
use Rattle.asm_lines.specs.declared.line.Statement.{Statement}
use Rattle.asm_lines.specs.Lines.{line_of}
use Rattle.asm_passes.specs.Cut.{front, lines}

-- Whether a byte is no line feed.
abbrev pub in_line : ℕ → Bool
in_line b = not (b == 10)

pub both_left : (a b : Bool) → (a && b) ≡ true → a ≡ true
both_left true b h = refl
both_left false b h = cc

pub both_right : (a b : Bool) → (a && b) ≡ true → b ≡ true
both_right true b h = h
both_right false b h = cc

not_true : (t : Bool) → not t ≡ true → t ≡ false
not_true true h = cc
not_true false h = refl

-- A line and its feed before other lines.
pub lines_line : (l z : List ℕ) → list_all in_line l ≡ true → lines (l ++ 10 ∷ z) ≡ l ∷ lines z
lines_line [] z h = refl
lines_line (b ∷ l) z h =
    ap (λ t. cond t ([] ∷ lines (l ++ 10 ∷ z)) (front b (lines (l ++ 10 ∷ z))))
    (not_true (b == 10) (both_left (in_line b) (list_all in_line l) h))
    ∙ ap (front b) (lines_line l z (both_right (in_line b) (list_all in_line l) h))

-- A line without a label.
abbrev pub plain : Statement → Option Line
plain s = Some (record { label = None; statement = s })

-- A text is these statements, a line each, whatever follows it.
pub record Says (t : List ℕ) (ss : List Statement) : Type 0 where
  pub says : (z : List ℕ) → map line_of (lines (t ++ z)) ≡ map plain ss ++ map line_of (lines z)

pub says_nothing : Says [] []
says_nothing = record { says = λ z. refl }

pub says_line : (l : List ℕ) (s : Statement) → list_all in_line l ≡ true → line_of l ≡ plain s →
    Says (l ++ 10 ∷ []) (s ∷ [])
says_line l s h e = record {
  says = λ z.
      ap (λ t. map line_of (lines t)) (append_assoc l (10 ∷ []) z)
      ∙ ap (map line_of) (lines_line l z h)
      ∙ ap (λ m. m ∷ map line_of (lines z)) e;
}

map_append : (xs ys : List Statement) → map plain (xs ++ ys) ≡ map plain xs ++ map plain ys
map_append [] ys = refl
map_append (x ∷ xs) ys = ap (λ l. plain x ∷ l) (map_append xs ys)

pub says_append : (t u : List ℕ) (ss rs : List Statement) → Says t ss → Says u rs → Says (t ++ u) (ss ++ rs)
says_append t u ss rs a b = record {
  says = λ z.
      ap (λ t. map line_of (lines t)) (append_assoc t u z)
      ∙ a.says (u ++ z)
      ∙ ap (λ l. map plain ss ++ l) (b.says z)
      ∙ sym (append_assoc (map plain ss) (map plain rs) (map line_of (lines z)))
      ∙ sym (ap (λ l. l ++ map line_of (lines z)) (map_append ss rs));
}

-- A line for each item of a list.
pub says_all : {X : Type 0} (f : X → List ℕ) (g : X → Statement) (xs : List X) → ((x : X) → Says (f x) (g x ∷ [])) →
    Says (flat_map f xs) (map g xs)
says_all f g [] each = says_nothing
says_all f g (x ∷ xs) each = says_append (f x) (flat_map f xs) (g x ∷ []) (map g xs) (each x) (says_all f g xs each)

-- A whole text.
pub says_whole : (t : List ℕ) (ss : List Statement) → Says t ss → map line_of (lines t) ≡ map plain ss
says_whole t ss a =
    ap (λ t. map line_of (lines t)) (sym (append-nil t)) ∙ a.says [] ∙ append-nil (map plain ss)
