-- How ranges and what was found grow as ops are taken.
use Rattle.std.proofs.Common.{ℕ, zero, suc, ◌+◌, ◌/◌, ◌≡◌, ◌<◌, ◌≤◌, ◌⊎◌, inl, inr, Bool, true, false, List, [], ◌∷◌}
use Rattle.std.proofs.Common.{Option, Some, None, length, get_or, refl, sym, ◌∙◌, ap, subst, arith, length-append}
use Rattle.collections.specs.Members.{is_in, with_member}
use Rattle.icode_ops.specs.declared.op.Op.{Op}
use Rattle.icode_ops.specs.declared.interval.Interval.{Interval}
use Rattle.icode_ops.specs.Flow.{op_at, falls, goes_to, label_of, Follows}
use Rattle.icode_ranges.specs.Lists.{In, Each, Extends}
use Rattle.icode_ranges.specs.Blocks.{block_of}
use Rattle.icode_ranges.specs.Tables.{GoesFrom, IsTable}
use Rattle.icode_ranges.specs.Search.{Taken, BlockOf, PlaceOf, Wider, Grown}
use Rattle.icode_ranges.proofs.Lists.{Each-weaker, Each-In, extends-nothing, extends-twice, extends-In}
use Rattle.icode_ranges.proofs.Walking.{member-there, member-extends}

block-weaker : (P Q : ℕ → Type 0) (ops : List Op) (defining : List ℕ) → ((p : ℕ) → P p → Q p) → (b : ℕ)
    → BlockOf P ops defining b → BlockOf Q ops defining b
block-weaker P Q ops defining f b h = (h.0, f h.0 h.1, h.2, h.3)

pub grown-nothing : (Q : ℕ → Type 0) (ops : List Op) (defining : List ℕ) (x : Interval) (found : List ℕ)
    → Grown Q ops defining x x found found
grown-nothing Q ops defining x found =
    record {
      range = record { reg = refl; low = omega arith; high = omega arith; start = inl refl; end = inl refl };
      blocks = extends-nothing (BlockOf Q ops defining) found;
    }

wider-twice : (P Q R : ℕ → Type 0) (x y z : Interval) → ((p : ℕ) → P p → R p) → ((p : ℕ) → Q p → R p)
    → Wider P x y → Wider Q y z → Wider R x z
wider-twice P Q R x y z f g a b =
    record {
      reg = b.reg ∙ a.reg;
      low = omega (arith, a.low, b.low);
      high = omega (arith, a.high, b.high);
      start = start a.start b.start;
      end = end a.end b.end;
    }
  where
    start : (y.start ≡ x.start) ⊎ P y.start → (z.start ≡ y.start) ⊎ Q z.start → (z.start ≡ x.start) ⊎ R z.start
    start (inl d) (inl e) = inl (e ∙ d)
    start (inr d) (inl e) = inr (f z.start (subst P (sym e) d))
    start d (inr e) = inr (g z.start e)

    end : (y.end ≡ x.end) ⊎ P y.end → (z.end ≡ y.end) ⊎ Q z.end → (z.end ≡ x.end) ⊎ R z.end
    end (inl d) (inl e) = inl (e ∙ d)
    end (inr d) (inl e) = inr (f z.end (subst P (sym e) d))
    end d (inr e) = inr (g z.end e)

pub grown-twice : (P Q R : ℕ → Type 0) (ops : List Op) (defining : List ℕ) (x y z : Interval) (old mid new : List ℕ)
    → ((p : ℕ) → P p → R p) → ((p : ℕ) → Q p → R p)
    → Grown P ops defining x y old mid → Grown Q ops defining y z mid new → Grown R ops defining x z old new
grown-twice P Q R ops defining x y z old mid new f g a b =
    record {
      range = wider-twice P Q R x y z f g a.range b.range;
      blocks =
          extends-twice (BlockOf P ops defining) (BlockOf Q ops defining) (BlockOf R ops defining) old mid new
          (block-weaker P R ops defining f) (block-weaker Q R ops defining g) a.blocks b.blocks;
    }

pub grown-weaker : (P Q : ℕ → Type 0) (ops : List Op) (defining : List ℕ) (x y : Interval) (old new : List ℕ)
    → ((p : ℕ) → P p → Q p) → Grown P ops defining x y old new → Grown Q ops defining x y old new
grown-weaker P Q ops defining x y old new f a =
    grown-twice P P Q ops defining x y y old new new f f a (grown-nothing P ops defining y new)

-- what was taken stays taken
pub taken-later : (Q : ℕ → Type 0) (ops : List Op) (defining : List ℕ) (x y : Interval) (old new : List ℕ) (p : ℕ)
    → Grown Q ops defining x y old new → Taken ops defining old x p → Taken ops defining new y p
taken-later Q ops defining x y old new p g t = (
  omega (arith, t.0, g.range.high),
  λ n. extends-In (BlockOf Q ops defining) old new g.blocks (block_of ops p) (t.1 n),
)

-- a place is taken whose block doesn't define the register
pub take-passed : (ops : List Op) (defining : List ℕ) (x y : Interval) (found new : List ℕ) (place : ℕ)
    → is_in (block_of ops place) defining ≡ false → Wider (λ p. p ≡ place) x y
    → new ≡ with_member (block_of ops place) found
    → Grown (λ p. p ≡ place) ops defining x y found new
take-passed ops defining x y found new place n w e =
    record {
      range = w;
      blocks =
          subst (Extends (BlockOf (λ p. p ≡ place) ops defining) found) (sym e)
          (member-extends (BlockOf (λ p. p ≡ place) ops defining) (block_of ops place) found
          (place, refl, refl, n));
    }

pub take-defined : (ops : List Op) (defining : List ℕ) (x y : Interval) (found : List ℕ) (place : ℕ)
    → Wider (λ p. p ≡ place) x y → Grown (λ p. p ≡ place) ops defining x y found found
take-defined ops defining x y found place w =
    record { range = w; blocks = extends-nothing (BlockOf (λ p. p ≡ place) ops defining) found }

-- the ops that go to a label that stands at a block are followed by it
pub jumps-follow : (ops : List Op) (block l : ℕ) (bs : List (List ℕ)) → block < length ops
    → label_of (op_at ops block) ≡ Some l → IsTable (GoesFrom ops (length ops)) bs
    → (p : ℕ) → PlaceOf (get_or bs l []) p → Follows ops p block
jumps-follow ops block l bs lt is t p h =
    let g = subst (GoesFrom ops (length ops) l) h.2 (Each-In _ (get_or bs l []) (t.sound l) h.0 h.1) in
    (g.0, lt, inr (l, g.1, is))

-- all that goes to a block is taken: what falls into it, and what goes to its label
pub all-label : (ops : List Op) (block l : ℕ) (bs : List (List ℕ)) (T : ℕ → Type 0)
    → label_of (op_at ops block) ≡ Some l → l < length bs → IsTable (GoesFrom ops (length ops)) bs
    → ((p : ℕ) → block ≡ p + 1 → falls (op_at ops p) ≡ true → T p)
    → Each (λ slot. T (slot / 3)) (get_or bs l []) → (p : ℕ) → Follows ops p block → T p
all-label ops block l bs T is lt t fall jumps p f = by-case f.2
  where
    by-case : ((falls (op_at ops p) ≡ true) × (block ≡ p + 1))
        ⊎ ((m : ℕ) × (goes_to (op_at ops p) ≡ Some m) × (label_of (op_at ops block) ≡ Some m)) → T p
    by-case (inl h) = fall p h.1 h.0
    by-case (inr h) =
        let same : Some h.0 ≡ Some l = sym h.2 ∙ is in
        let s = t.complete l p lt (f.0, h.1 ∙ same) in
        subst T s.2 (Each-In _ (get_or bs l []) jumps s.0 s.1)

pub all-fall : (ops : List Op) (block : ℕ) (T : ℕ → Type 0) → label_of (op_at ops block) ≡ None
    → ((p : ℕ) → block ≡ p + 1 → falls (op_at ops p) ≡ true → T p) → (p : ℕ) → Follows ops p block → T p
all-fall ops block T is fall p f = by-case f.2
  where
    by-case : ((falls (op_at ops p) ≡ true) × (block ≡ p + 1))
        ⊎ ((m : ℕ) × (goes_to (op_at ops p) ≡ Some m) × (label_of (op_at ops block) ≡ Some m)) → T p
    by-case (inl h) = fall p h.1 h.0
    by-case (inr h) = absurd (cc (h.2, is))

pub found-longer : (Q : ℕ → Type 0) (ops : List Op) (defining : List ℕ) (x y : Interval) (old new : List ℕ)
    → Grown Q ops defining x y old new → length old ≤ length new
found-longer Q ops defining x y old new g =
    omega (arith, ap length g.blocks.joined ∙ length-append old g.blocks.more)
