-- Two loans of one place hold the same, whatever their lifetimes: of a word, and of bytes in a row.
--     OneValue         what the machine's memory says: two that own some of one place see one value there
--     cells_one        so do two side by side
--     lent_one         so do two loans of a cell: each is opened by a token of its lifetime, and shut again
--     number_one, pointer_one, bytes_one      so do two loans of a number, of a pointer, and of as many bytes
-- Each is a step of a walk: two loans are at the head of the context, each before its token, and only the tokens stay.
-- Assumes `Logic` and `OneValue`, which a function's theorem has of its model.
use mathlib.Core.Path.{◌≡◌, refl, sym, ap, ◌∙◌}
use Prim.Native.Nat.{ℕ, zero, ◌+◌}
use native.Mathlib.Nat.{suc_inj, suc-ne-zero}
use mathlib.Core.List.{List, [], ◌∷◌}
use lib.ListN.{length}
use seplogic.Ra.Ura.{Ura}
use seplogic.Bi.Basic.{and, and_intro}
use mir.Syntax.{Ty, Width, w8, ty_int, ty_ptr}
use mir.Val.{Val, vint, as_int}
use base.Share
use base.Share.{halves}
use base.Logic.{SProp, ent, sep, guard, guard_i, emp, via, fst∗, snd∗}
use base.Fml.{Lft, Share, Fml, fat, flft, fshr_bor}
use ghost.Rules.{Halves}
use types.Logic.{Logic}
use types.Kit.{Goal, Soaks, Seq, Item, ‵, given, ◌⊛◌, ◌$◌, move, use2, drop, split, learn}
use types.Kit.{rewrite, fsplit, fpick, feq_l, flt_l}
use types.Tokens.{shr_bor-open, obor_close}
use contract.Monad.{fact_use}
use denote.Builtin.{u8}
use denote.Plain.{UInt}
use denote.Memory.{cell_at, shared_of, each_shared}
use denote.RawPtr.{Ptr, RawPtr, ptr_val, of_val, val_back}

module _ {M : Type 1} {𝓤 : Ura M} (𝓛 : Logic 𝓤) where
  abbrev At : Share → Ty → ℕ → ℕ → Val → SProp 𝓤
  At = 𝓛.H.at

  abbrev pub OneValue : Type 1
  OneValue = (q q' : Share) (τ : Ty) (b o : ℕ) (v w : Val)
      → ent 𝓤 (and 𝓤.op (At q τ b o v) (At q' τ b o w)) (guard 𝓤 (v ≡ w) (emp 𝓤))

  pub cell_halves : (τ : Ty) (b o : ℕ) (v : Val) → Halves 𝓤 𝓛.H 𝓛.A (λ q. fat q τ b o v)
  cell_halves τ b o v = record {
    cut = λ q. 𝓛.laws.at_split q (Share.left q) (Share.right q) (halves q) τ b o v;
    join = λ q. 𝓛.laws.at_join q (Share.left q) (Share.right q) (halves q) τ b o v;
  }

  cells-one : OneValue → (q q' : Share) (τ : Ty) (b o : ℕ) (v w : Val)
      → ent 𝓤 (sep 𝓤 (At q τ b o v) (At q' τ b o w)) (guard 𝓤 (v ≡ w) (sep 𝓤 (At q τ b o v) (At q' τ b o w)))
  cells-one same q q' τ b o v w =
      let P = At q τ b o v in let Q = At q' τ b o w in
      let seen = via 𝓤 (and 𝓤.op P Q) (and_intro 𝓤.op (fst∗ 𝓤 P Q) (snd∗ 𝓤 P Q)) (same q q' τ b o v w) in
      fact_use 𝓤 (v ≡ w) seen (guard_i 𝓤 (v ≡ w) (sep 𝓤 P Q))

module _ {M : Type 1} {𝓤 : Ura M} {𝓛 : Logic 𝓤} (same : OneValue 𝓛)
    {K : Type 0} {Γ : List (Item 𝓤)} {G : Goal 𝓤 𝓛.H} where
  pub cells_one : K → {q q' : Share} {τ : Ty} {b o : ℕ} {v w : Val}
      → (v ≡ w → Seq K 𝓛 (‵ (fat q τ b o v) ∷ ‵ (fat q' τ b o w) ∷ Γ) G)
      → Seq K 𝓛 (‵ (fat q τ b o v) ∷ ‵ (fat q' τ b o w) ∷ Γ) G
  cells_one t {q} {q'} {τ} {b} {o} {v} {w} k =
      let both = ‵ (fat q τ b o v) ⊛ ‵ (fat q' τ b o w) in
      use2 𝓛 (given (v ≡ w) both) (cells-one 𝓛 same q q' τ b o v w) $ learn t (λ e. split t $ k e)

module _ {M : Type 1} {𝓤 : Ura M} {𝓛 : Logic 𝓤} (same : OneValue 𝓛)
    {K : Type 0} {Γ : List (Item 𝓤)} {G : Goal 𝓤 𝓛.H} where
  pub lent_one : K → Soaks G → {κ μ : Lft} {r s : Share} (τ : Ty) (b o : ℕ) (v w : Val)
      → (v ≡ w → Seq K 𝓛 (‵ (flft κ r) ∷ ‵ (flft μ s) ∷ Γ) G)
      → Seq K 𝓛 (‵ (fshr_bor κ (λ q. fat q τ b o v)) ∷ ‵ (flft κ r)
      ∷ ‵ (fshr_bor μ (λ q. fat q τ b o w)) ∷ ‵ (flft μ s) ∷ Γ) G
  lent_one t z {κ} {μ} {r} {s} τ b o v w k =
      shr_bor-open t z (cell_halves 𝓛 τ b o v) (λ q. move t (2 ∷ 3 ∷ []) $
      shr_bor-open t z (cell_halves 𝓛 τ b o w) (λ q'.
      -- [the second, open; its cell; the first, open; its cell]
      move t (3 ∷ 1 ∷ []) $ cells_one same t (λ e. move t (3 ∷ 0 ∷ []) $ obor_close t z $ drop t $
      move t (2 ∷ 1 ∷ []) $ obor_close t z $ drop t $ move t (1 ∷ 0 ∷ []) $ k e)))

-- what a loan of κ holds of a word of the type τ with the machine values us
abbrev Lent : Lft → Ty → ℕ → ℕ → List Val → Fml
Lent κ τ b o us = fshr_bor κ (λ q. cell_at q (τ ∷ []) us b o)

-- what it holds of bytes in a row
abbrev pub LentBytes : Lft → ℕ → ℕ → List ℕ → Fml
LentBytes κ b o xs = each_shared xs (shared_of u8) 1 b o κ

abbrev number_in : Val → ℕ
number_in v = as_int zero v (λ _ n. n)

module _ {M : Type 1} {𝓤 : Ura M} {𝓛 : Logic 𝓤} (same : OneValue 𝓛)
    {K : Type 0} {Γ : List (Item 𝓤)} {G : Goal 𝓤 𝓛.H} where
  pub number_one : K → Soaks G → {κ μ : Lft} {r s : Share} (ω : Width) (b o m n : ℕ)
      → (m ≡ n → Seq K 𝓛 (‵ (flft κ r) ∷ ‵ (flft μ s) ∷ Γ) G)
      → Seq K 𝓛 (‵ (shared_of (UInt ω) m b o κ) ∷ ‵ (flft κ r) ∷ ‵ (shared_of (UInt ω) n b o μ) ∷ ‵ (flft μ s) ∷ Γ) G
  number_one t z {κ} {μ} {r} {s} ω b o m n k =
      fpick t (λ vs. fsplit t $ fsplit t $ feq_l t (λ e. flt_l t (λ _.
      rewrite t 0 (λ (us : List Val). ‵ (Lent κ (ty_int ω) b o us)) e refl $ move t (2 ∷ []) $
      fpick t (λ ws. fsplit t $ fsplit t $ feq_l t (λ f. flt_l t (λ _.
      rewrite t 0 (λ (us : List Val). ‵ (Lent μ (ty_int ω) b o us)) f refl $ move t (1 ∷ 2 ∷ 0 ∷ []) $
      lent_one same t z (ty_int ω) b o (vint ω m) (vint ω n) (λ g. k (ap number_in g))))))))

  pub pointer_one : K → Soaks G → {κ μ : Lft} {r s : Share} (b o : ℕ) (x y : Ptr)
      → (x ≡ y → Seq K 𝓛 (‵ (flft κ r) ∷ ‵ (flft μ s) ∷ Γ) G)
      → Seq K 𝓛 (‵ (shared_of RawPtr x b o κ) ∷ ‵ (flft κ r) ∷ ‵ (shared_of RawPtr y b o μ) ∷ ‵ (flft μ s) ∷ Γ) G
  pointer_one t z {κ} {μ} {r} {s} b o x y k =
      fpick t (λ vs. fsplit t $ feq_l t (λ e.
      rewrite t 0 (λ (us : List Val). ‵ (Lent κ ty_ptr b o us)) e refl $ move t (2 ∷ []) $
      fpick t (λ ws. fsplit t $ feq_l t (λ f.
      rewrite t 0 (λ (us : List Val). ‵ (Lent μ ty_ptr b o us)) f refl $ move t (1 ∷ 2 ∷ 0 ∷ []) $
      lent_one same t z ty_ptr b o (ptr_val x) (ptr_val y) (λ g. k (sym (val_back x) ∙ ap of_val g ∙ val_back y))))))

module _ {M : Type 1} {𝓤 : Ura M} {𝓛 : Logic 𝓤} (same : OneValue 𝓛) {K : Type 0} {G : Goal 𝓤 𝓛.H} where
  pub bytes_one : K → Soaks G → {κ μ : Lft} {r s : Share} {Γ : List (Item 𝓤)} (b o : ℕ) (xs ys : List ℕ)
      → length xs ≡ length ys
      → (xs ≡ ys → Seq K 𝓛 (‵ (flft κ r) ∷ ‵ (flft μ s) ∷ Γ) G)
      → Seq K 𝓛 (‵ (LentBytes κ b o xs) ∷ ‵ (flft κ r) ∷ ‵ (LentBytes μ b o ys) ∷ ‵ (flft μ s) ∷ Γ) G
  bytes_one t z b o [] [] e k = drop t $ move t (1 ∷ []) $ drop t $ k refl
  bytes_one t z b o [] (y ∷ ys) e k = absurd (suc-ne-zero (length ys) (sym e))
  bytes_one t z b o (x ∷ xs) [] e k = absurd (suc-ne-zero (length xs) e)
  bytes_one t z b o (x ∷ xs) (y ∷ ys) e k =
      fsplit t $ move t (3 ∷ []) $ fsplit t $
      -- [the second's first byte; its others; the first's first byte; its others; the tokens]
      move t (2 ∷ 4 ∷ 0 ∷ 5 ∷ []) $ number_one same t z w8 b o x y (λ f. move t (3 ∷ 0 ∷ 2 ∷ 1 ∷ []) $
      bytes_one t z b (o + 1) xs ys (suc_inj e)
      (λ g. k (ap (λ (n : ℕ). n ∷ xs) f ∙ ap (λ (zs : List ℕ). y ∷ zs) g)))
