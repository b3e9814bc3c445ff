-- Fronts of what is written in pieces: lines one after another, and the lines of a list up to a place.
use Rattle.std.proofs.Common.{◌≡◌, ℕ, suc, ◌+◌, ◌<◌, ◌≤◌, List, [], ◌∷◌, ◌++◌, length, length-append, take, drop}
use Rattle.std.proofs.Common.{Option, arith, ap, sym, ◌∙◌, subst, take-append-drop, get_or, Result, Ok, Err, OnErr}
use Rattle.std.specs.Io.KnownBytes.{Appends}
use Rattle.std.proofs.KnownBytes.{Appends-trans}
use Rattle.std.proofs.lemmas.List.{take-append-le, take_more, flat_map_more}
use Rattle.std.proofs.lemmas.Grind.{flat_map-append}
use Rattle.std.proofs.Math.Seq.{take-append-add, drop-cons}
use Rattle.std.specs.List.{flat_map}
use Rattle.host_edge.specs.Moves.{TakesFront}

-- A front of the first piece is a front of both.
pub front_first : (a b : Option (List ℕ)) (xs ys : List ℕ) → TakesFront a b xs → TakesFront a b (xs ++ ys)
front_first a b xs ys t =
    let le : t.count ≤ length xs = let h = t.short in omega arith in
    record {
      count = t.count;
      short = let e = length-append xs ys in let h = t.short in omega arith;
      taken = subst (Appends a b) (sym (take-append-le t.count xs ys le)) t.taken;
    }

-- The first piece and then a front of the second is a front of both.
pub front_second : (a b c : Option (List ℕ)) (xs ys : List ℕ) →
    Appends a b xs → TakesFront b c ys → TakesFront a c (xs ++ ys)
front_second a b c xs ys p t = record {
  count = length xs + t.count;
  short = let e = length-append xs ys in let h = t.short in omega arith;
  taken = subst (Appends a c) (sym (take-append-add xs ys t.count))
      (Appends-trans a b c xs (take t.count ys) p t.taken);
}

-- The lines of a list: those before a place, the one at it, and those after it.
pub lines_at : {X : Type 0} (f : X → List ℕ) (xs : List X) (i : ℕ) (d : X) → i < length xs →
    flat_map f xs ≡ flat_map f (take i xs) ++ (f (get_or xs i d) ++ flat_map f (drop (suc i) xs))
lines_at f xs i d h =
    ap (flat_map f) (sym (take-append-drop i xs) ∙ ap (λ l. take i xs ++ l) (drop-cons xs i d h))
    ∙ flat_map-append f (take i xs) (get_or xs i d ∷ drop (suc i) xs)

-- All lines before a place, and then a front of the line at it, is a front of all lines.
pub front_turn : {X : Type 0} (a b c : Option (List ℕ)) (f : X → List ℕ) (xs : List X) (i : ℕ) (d : X) (line : List ℕ) →
    i < length xs → Appends a b (flat_map f (take i xs)) → line ≡ f (get_or xs i d) → TakesFront b c line →
    TakesFront a c (flat_map f xs)
front_turn a b c f xs i d line h p e t =
    subst (TakesFront a c) (sym (lines_at f xs i d h))
    (front_second a b c (flat_map f (take i xs)) (f (get_or xs i d) ++ flat_map f (drop (suc i) xs)) p
    (front_first b c (f (get_or xs i d)) (flat_map f (drop (suc i) xs)) (subst (TakesFront b c) e t)))

-- All lines before a place, and then the line at it, are the lines up to the next place.
pub whole_turn : {X : Type 0} (a b c : Option (List ℕ)) (f : X → List ℕ) (xs : List X) (i : ℕ) (d : X) (line : List ℕ) →
    i < length xs → Appends a b (flat_map f (take i xs)) → line ≡ f (get_or xs i d) → Appends b c line →
    Appends a c (flat_map f (take (i + 1) xs))
whole_turn a b c f xs i d line h p e q =
    let joined : flat_map f (take i xs) ++ f (get_or xs i d) ≡ flat_map f (take (i + 1) xs) =
    flat_map_more f [] (take i xs) (get_or xs i d) ∙ ap (flat_map f) (sym (take_more xs i d h)) in
    subst (Appends a c) joined (Appends-trans a b c _ _ p (subst (Appends b c) e q))

-- What holds in any case holds at an error.
pub at_error : {T E P : Type 0} (r : Result T E) → P → OnErr r P
at_error (Ok x) p = tt
at_error (Err e) p = p
