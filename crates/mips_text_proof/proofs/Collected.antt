-- What lines without labels give.
use Rattle.std.proofs.Common.{◌≡◌, ◌+◌, Bool, true, false, ◌&&◌, cond, List, [], ◌∷◌, ◌++◌, map, Option, None, Ok, refl}
use Rattle.std.proofs.Common.{sym, ap, ◌∙◌}
use Rattle.std.specs.List.{count_by}
use Rattle.std.proofs.lemmas.List.Sums.{sum_by-cons}
use Rattle.asm_lines.specs.declared.line.Line.{Line}
use Rattle.asm_lines.specs.declared.line.Statement.{Statement}
use Rattle.asm_passes.specs.declared.position.Position.{Position}
use Rattle.asm_passes.specs.declared.item.Item.{Item}
use Rattle.asm_passes.specs.Positions.{placed, counted, behind, is_entry, is_word, gives_word_in, words}
use Rattle.asm_passes.specs.Labels.{labels, label_in}
use Rattle.asm_passes.specs.Instructions.{◌>>=◌}
use Rattle.asm_passes.specs.Values.{Known, item_of, given}
use Rattle.asm_passes.specs.Collected.{before, collected}
use Rattle.mips_text_proof.proofs.Feeds.{plain}

and_false : (t : Bool) → (t && false) ≡ false
and_false true = refl
and_false false = refl

-- A line that is no entry counts as it stands.
pub counted_plain : (p : Position) (s : Statement) → is_entry s ≡ false → counted p (plain s) ≡ plain s
counted_plain p s e =
    ap (λ t. cond (p.entered && t) None (plain s)) e ∙ ap (λ t. cond t None (plain s)) (and_false p.entered)

placed_plain : (p : Position) (s : Statement) (ls : List (Option Line)) → is_entry s ≡ false →
    placed p (plain s ∷ ls) ≡ record { at = p; line = plain s } ∷ placed (behind p (plain s)) ls
placed_plain p s ls e = ap (λ m. record { at = p; line = m } ∷ placed (behind p m) ls) (counted_plain p s e)

-- What statements give at any position.
pub record Gives (k : Known) (ss : List Statement) (is : List Item) : Type 0 where
  pub gives : (p : Position) → collected k (placed p (map plain ss)) ≡ Ok is

pub gives_nothing : (k : Known) → Gives k [] []
gives_nothing k = record { gives = λ p. refl }

-- One statement, of which an item comes, before others that give items at its place.
pub one_more : (k : Known) (p : Position) (s : Statement) (ss : List Statement) (i : Item) (is : List Item) →
    is_entry s ≡ false → item_of k p s ≡ Ok i → collected k (placed (behind p (plain s)) (map plain ss)) ≡ Ok is →
    collected k (placed p (map plain (s ∷ ss))) ≡ Ok (i ∷ is)
unfolding given
one_more k p s ss i is e here rest =
    ap (collected k) (placed_plain p s (map plain ss) e)
    ∙ ap (λ r. before p.line (r >>= (λ i. Ok i)) (collected k (placed (behind p (plain s)) (map plain ss)))) here
    ∙ ap (before p.line (Ok i)) rest

pub gives_more : (k : Known) (s : Statement) (ss : List Statement) (i : Item) (is : List Item) →
    is_entry s ≡ false → ((p : Position) → item_of k p s ≡ Ok i) → Gives k ss is → Gives k (s ∷ ss) (i ∷ is)
gives_more k s ss i is e here rest = record {
  gives = λ p. one_more k p s ss i is e (here p) (rest.gives (behind p (plain s)));
}

-- A statement for each item of a list, before others.
pub gives_all : {X : Type 0} (k : Known) (f : X → Statement) (g : X → Item) (xs : List X) (ss : List Statement)
    (is : List Item) →
    ((x : X) → is_entry (f x) ≡ false) → ((x : X) (p : Position) → item_of k p (f x) ≡ Ok (g x)) → Gives k ss is →
    Gives k (map f xs ++ ss) (map g xs ++ is)
gives_all k f g [] ss is free each rest = rest
gives_all k f g (x ∷ xs) ss is free each rest =
    gives_more k (f x) (map f xs ++ ss) (g x) (map g xs ++ is) (free x) (each x)
    (gives_all k f g xs ss is free each rest)

-- ---- labels and words

no_label : (p : Position) (s : Statement) (t : Bool) → label_in p (cond t None (plain s)) ≡ []
no_label p s true = refl
no_label p s false = refl

-- Lines without labels have none.
pub labels_none : (p : Position) (ss : List Statement) → labels (placed p (map plain ss)) ≡ []
labels_none p [] = refl
labels_none p (s ∷ ss) =
    let m : Option Line = counted p (plain s) in
    ap (λ l. l ++ labels (placed (behind p m) (map plain ss))) (no_label p s (p.entered && is_entry s))
    ∙ labels_none (behind p m) ss

abbrev pub NoEntry : List Statement → Type 0
NoEntry [] = Unit {0}
NoEntry (s ∷ ss) = (is_entry s ≡ false) × NoEntry ss

-- The words of statements are counted one by one.
pub words_plain : (p : Position) (ss : List Statement) → NoEntry ss →
    words (placed p (map plain ss)) ≡ count_by is_word ss
words_plain p [] h = refl
words_plain p (s ∷ ss) h =
    ap words (placed_plain p s (map plain ss) h.0)
    ∙ sum_by-cons (λ q. cond (gives_word_in q.line) 1 0) (record { at = p; line = plain s })
    (placed (behind p (plain s)) (map plain ss))
    ∙ ap (λ n. cond (is_word s) 1 0 + n) (words_plain (behind p (plain s)) ss h.1)
    ∙ sym (sum_by-cons (λ s. cond (is_word s) 1 0) s ss)
