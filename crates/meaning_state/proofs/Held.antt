-- What the bodies of a row hold, as one is made or freed.
use Rattle.std.proofs.Common.{◌≡◌, ◌≢◌, ℕ, zero, suc, ◌+◌, ◌<◌, Bool, true, false, List, [], ◌∷◌, ◌++◌}
use Rattle.std.proofs.Common.{arith, refl, nat_le, nat_lt, nat_eq, if◌then◌else◌, sym, ap, ◌∙◌, subst, Some, None}
use Rattle.std.specs.Prelude.{slice_get}
use Rattle.std.proofs.lemmas.Bool.{ne_eqb}
use Rattle.history.specs.Syntax.{Syntax}
use Rattle.free_ranges.specs.Ranges.{AreRanges, with_range, without_range, range_at, ArePacked, words_of}
use Rattle.meaning_state.specs.Bodies.{Body, held, held_with, place_for, new_body, freed, NoneBeginsAt, BeginApart}
use Rattle.meaning_state.specs.Bodies.{HeldByEach, charged, IsSum, NoneFreedIsASum}
use Rattle.free_ranges.proofs.Orders.{either_order, out_again}
use Rattle.free_ranges.proofs.Packed.{packed_is_a_sum}

abbrev pub with_body : Body → List (ℕ × ℕ) → List (ℕ × ℕ)
with_body b others = if b.live then with_range (b.first, b.count) others else others

one_more : (others : List (ℕ × ℕ)) (bs : List Body) (syntax : Syntax) (first count : ℕ)
    → held_with others (bs ++ new_body syntax first count ∷ []) ≡ with_range (first, count) (held_with others bs)
one_more others [] syntax first count = refl
one_more others (b ∷ bs) syntax first count = one_more (with_body b others) bs syntax first count

-- no range of a list begins where none of it and not the new one does
none_with : (f : ℕ) (q : ℕ × ℕ) (l : List (ℕ × ℕ)) → q.0 ≢ f → range_at f l ≡ None → range_at f (with_range q l) ≡ None
none_with f q [] ne e = ap (λ b. if b then Some q.1 else None) (ne_eqb q.0 f ne)
none_with f q (r ∷ rs) ne e = by (λ h. none_with f q rs ne h) (nat_lt q.0 r.0) (nat_eq r.0 f) refl e
  where
    by : (range_at f rs ≡ None → range_at f (with_range q rs) ≡ None) → (b n : Bool) → nat_eq r.0 f ≡ n
        → (if n then Some r.1 else range_at f rs) ≡ None
        → range_at f (if b then q ∷ r ∷ rs else r ∷ with_range q rs) ≡ None
    by ih b true t h = absurd cc
    by ih true false t h = ap (λ x. if x then Some q.1 else range_at f (r ∷ rs)) (ne_eqb q.0 f ne)
        ∙ ap (λ x. if x then Some r.1 else range_at f rs) t ∙ h
    by ih false false t h = ap (λ x. if x then Some r.1 else range_at f (with_range q rs)) t ∙ ih h

none_held : (f : ℕ) (others : List (ℕ × ℕ)) (bs : List Body) → NoneBeginsAt f bs → range_at f others ≡ None
    → range_at f (held_with others bs) ≡ None
none_held f others [] n e = e
none_held f others (b ∷ bs) n e = none_held f (with_body b others) bs n.1 (by b.live n.0)
  where
    by : (l : Bool) → (l ≡ true → b.first ≢ f) → range_at f (if l then with_range (b.first, b.count) others else others)
        ≡ None
    by true h = none_with f (b.first, b.count) others (h refl) e
    by false h = e

-- a range that was there first may come last
pub comes_last : (p : ℕ × ℕ) (others : List (ℕ × ℕ)) (bs : List Body) → NoneBeginsAt p.0 bs
    → held_with (with_range p others) bs ≡ with_range p (held_with others bs)
comes_last p others [] n = refl
comes_last p others (b ∷ bs) n =
    ap (λ l. held_with l bs) (by b.live n.0) ∙ comes_last p (with_body b others) bs n.1
  where
    by : (l : Bool) → (l ≡ true → b.first ≢ p.0)
        → (if l then with_range (b.first, b.count) (with_range p others) else with_range p others)
        ≡ with_range p (if l then with_range (b.first, b.count) others else others)
    by true h = either_order (b.first, b.count) p (h refl) others
    by false h = refl

not_at : (f i : ℕ) (b : Body) (bs : List Body) → NoneBeginsAt f bs → slice_get bs i ≡ Some b → b.live ≡ true
    → b.first ≢ f
not_at f i b [] n e l = absurd cc
not_at f zero b (c ∷ cs) n e l =
    let same : c ≡ b = cc in subst (λ x. x.live ≡ true → x.first ≢ f) same n.0 l
not_at f (suc i) b (c ∷ cs) n e l = not_at f i b cs n.1 e l

one_less : (others : List (ℕ × ℕ)) (bs : List Body) (i : ℕ) (b : Body) → BeginApart bs → slice_get bs i ≡ Some b
    → b.live ≡ true → range_at b.first others ≡ None
    → held_with others (freed i bs) ≡ without_range b.first (held_with others bs)
one_less others [] i b a e l n = absurd cc
one_less others (c ∷ cs) zero b a e l n =
    let same : c ≡ b = cc in
    let live : c.live ≡ true = ap (λ x. x.live) same ∙ l in
    let start : c.first ≡ b.first = ap (λ x. x.first) same in
    let none = subst (λ f. range_at f others ≡ None) (sym start) n in
    sym (out_again (c.first, c.count) (held_with others cs) (none_held c.first others cs (a.0 live) none))
    ∙ ap (without_range c.first) (sym (comes_last (c.first, c.count) others cs (a.0 live)))
    ∙ ap (λ x. without_range c.first (held_with (if x then with_range (c.first, c.count) others else others) cs))
    (sym live)
    ∙ ap (λ f. without_range f (held_with others (c ∷ cs))) start
one_less others (c ∷ cs) (suc i) b a e l n =
    one_less (with_body c others) cs i b a.1 e l (by c.live a.0)
  where
    by : (x : Bool) → (x ≡ true → NoneBeginsAt c.first cs)
        → range_at b.first (if x then with_range (c.first, c.count) others else others) ≡ None
    by true h = none_with b.first (c.first, c.count) others (λ q. not_at c.first i b cs (h refl) e l (sym q)) n
    by false h = n

pub held_by_each : HeldByEach
held_by_each bodies = (
  λ syntax first count. one_more [] bodies syntax first count,
  λ i b a e l. one_less [] bodies i b a e l refl,
)

-- ---- where none was freed

pub charged_more : (bs : List Body) (syntax : Syntax) (first count : ℕ)
    → charged (bs ++ new_body syntax first count ∷ []) ≡ charged bs + count
charged_more [] syntax first count = omega arith
charged_more (b ∷ bs) syntax first count = let h = charged_more bs syntax first count in omega (arith, h)

module _ (syntax : Syntax) (bodies : List Body) (count total : ℕ) (some : 0 < count)
    (a : AreRanges 0 total (held bodies))
    (s : IsSum bodies) where
  sum : ℕ
  sum = charged bodies

  place : place_for count total bodies
      ≡ (if nat_le (charged bodies + count) total then Some (charged bodies) else None)
  place =
      let p = packed_is_a_sum count 0 total (held bodies) some a s.packed in
      let w = s.words in
      p.0 ∙ ap (λ n. if nat_le (n + count) total then Some n else None) (omega (arith, w))

  next : IsSum (bodies ++ new_body syntax (charged bodies) count ∷ [])
  next =
      let p = packed_is_a_sum count 0 total (held bodies) some a s.packed in
      let w = s.words in
      let at : 0 + words_of (held bodies) ≡ charged bodies = omega (arith, w) in
      let is : held (bodies ++ new_body syntax (charged bodies) count ∷ []) ≡ held bodies ++ (charged bodies, count) ∷
      [] =
      one_more [] bodies syntax (charged bodies) count
      ∙ subst (λ n. with_range (n, count) (held bodies) ≡ held bodies ++ (n, count) ∷ []) at p.1 in
      let packs = subst (λ n. ArePacked 0 (held bodies ++ (n, count) ∷ [])) at p.2 in
      let total_words = subst (λ n. words_of (held bodies ++ (n, count) ∷ []) ≡ words_of (held bodies) + count) at
      p.3 in
      let more = charged_more bodies syntax (charged bodies) count in
      record {
        packed = subst (ArePacked 0) (sym is) packs;
        words = ap words_of is ∙ total_words ∙ ap (λ n. n + count) w ∙ sym more;
      }

pub none_freed_is_a_sum : NoneFreedIsASum
none_freed_is_a_sum = (
  record { packed = record {}; words = refl },
  λ syntax bodies count total some a s.
      (place syntax bodies count total some a s, next syntax bodies count total some a s),
)
