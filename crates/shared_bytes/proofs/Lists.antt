-- Two loans of one list of bytes hold the same bytes. The pointer and the length of its `Vec` are words of the one
-- place, and so its bytes lie in one place too.
--     vec_open         what a loan of a `Vec` of bytes holds of its pointer, its length and its bytes
--     vec_one          two of one `Vec` hold the same bytes
--     items_open       what a loan of an `Items`, a `Vec` that is seen as its bytes, holds of the `Vec`
--     items_one        two of one `Items` hold the same bytes
-- Assumes `Logic`, and `Agree.antt`'s `OneValue`.
use mathlib.Core.Path.{◌≡◌, refl, sym, ◌∙◌}
use Prim.Native.Nat.{ℕ, ◌+◌}
use mathlib.Core.List.{List, [], ◌∷◌}
use seplogic.Ra.Ura.{Ura}
use mir.Syntax.{w64}
use base.Fml.{Lft, Share, flft}
use types.Logic.{Logic}
use types.Kit.{Goal, Soaks, Seq, Step, step, Item, ‵, ◌$◌, move, drop, rewrite, fsplit, fpick}
use denote.Builtin.{u8}
use denote.Plain.{UInt}
use denote.Memory.{shared_of}
use denote.RattleType.{RattleType}
use denote.RawPtr.{Ptr, RawPtr, block_of, count_of}
use Rattle.std.specs.contracts.alloc.Global
use Rattle.std.specs.contracts.impls.GlobalAllocator.TheImpl
use Rattle.std.specs.contracts.vec.Vec
use Rattle.sqlite_items.specs.contracts.items.Items
use Rattle.shared_bytes.proofs.Agree.{OneValue, LentBytes, number_one, pointer_one, bytes_one}

abbrev pub Bytes : RattleType
Bytes = Vec.the_row u8 Global.the_row TheImpl.ghosts

abbrev pub ByteItems : RattleType
ByteItems = Items.the_row u8

module _ {M : Type 1} {𝓤 : Ura M} {𝓛 : Logic 𝓤} {K : Type 0} {Γ : List (Item 𝓤)} {G : Goal 𝓤 𝓛.H} where
  pub vec_open : K → {κ : Lft} (d : Bytes.Denot) (b o : ℕ)
      → Step K 𝓛 (‵ (shared_of RawPtr d.ptr b (o + 0) κ) ∷ ‵ (shared_of (UInt w64) d.len b (o + 8) κ)
      ∷ ‵ (LentBytes κ (block_of d.ptr) (count_of d.ptr) d.items) ∷ Γ) G (‵ (shared_of Bytes d b o κ) ∷ Γ) G
  vec_open t d b o = step (λ s.
      -- [the words; the bytes]: of the bytes the bound, that the pointer is not null, and the number are let go
      fsplit t $ move t (1 ∷ []) $ fsplit t $ drop t $ fsplit t $ drop t $ fsplit t $ drop t $ move t (1 ∷ []) $
      -- [the fields; what is left of the place; the bytes]: of the fields the capacity and the allocator are let go
      fsplit t $ move t (1 ∷ []) $ drop t $ fsplit t $ move t (1 ∷ []) $ fsplit t $ move t (1 ∷ []) $ drop t $
      move t (1 ∷ 0 ∷ []) $ s)

module _ {M : Type 1} {𝓤 : Ura M} {𝓛 : Logic 𝓤} (same : OneValue 𝓛)
    {K : Type 0} {Γ : List (Item 𝓤)} {G : Goal 𝓤 𝓛.H} where
  pub vec_one : K → Soaks G → {κ μ : Lft} {r s : Share} (d e : Bytes.Denot) (b o : ℕ)
      → (d.items ≡ e.items → Seq K 𝓛 (‵ (flft κ r) ∷ ‵ (flft μ s) ∷ Γ) G)
      → Seq K 𝓛 (‵ (shared_of Bytes d b o κ) ∷ ‵ (flft κ r) ∷ ‵ (shared_of Bytes e b o μ) ∷ ‵ (flft μ s) ∷ Γ) G
  vec_one t z {μ = μ} d e b o k =
      vec_open t d b o $ move t (4 ∷ []) $ vec_open t e b o $
      -- [the second's pointer, length and bytes; the first's; the tokens]
      move t (3 ∷ 6 ∷ 0 ∷ 7 ∷ []) $ pointer_one same t z b (o + 0) d.ptr e.ptr (λ f.
      move t (4 ∷ 0 ∷ 2 ∷ 1 ∷ []) $ number_one same t z w64 b (o + 8) d.len e.len (λ g.
      move t (3 ∷ 0 ∷ 2 ∷ 1 ∷ []) $
      rewrite t 2 (λ (p : Ptr). ‵ (LentBytes μ (block_of p) (count_of p) e.items)) (sym f) refl $
      bytes_one same t z (block_of d.ptr) (count_of d.ptr) d.items e.items (sym d.ok.0 ∙ g ∙ e.ok.0) k))

module _ {M : Type 1} {𝓤 : Ura M} {𝓛 : Logic 𝓤} {K : Type 0} {Γ : List (Item 𝓤)} {G : Goal 𝓤 𝓛.H} where
  pub items_open : K → {κ : Lft} (xs : List ℕ) (b o : ℕ)
      → ((v : Bytes.Denot) → v.items ≡ xs → Seq K 𝓛 (‵ (shared_of Bytes v b (o + 0) κ) ∷ Γ) G)
      → Seq K 𝓛 (‵ (shared_of ByteItems xs b o κ) ∷ Γ) G
  items_open t xs b o k =
      fpick t (λ v. fsplit t $ fsplit t $ fsplit t $
      -- [the `Vec`; no other field; what is left of the place; nothing]
      move t (3 ∷ []) $ drop t $ move t (2 ∷ []) $ drop t $ move t (1 ∷ []) $ drop t $ k v.0.items v.1.0)

module _ {M : Type 1} {𝓤 : Ura M} {𝓛 : Logic 𝓤} (same : OneValue 𝓛)
    {K : Type 0} {Γ : List (Item 𝓤)} {G : Goal 𝓤 𝓛.H} where
  pub items_one : K → Soaks G → {κ μ : Lft} {r s : Share} (xs ys : List ℕ) (b o : ℕ)
      → (xs ≡ ys → Seq K 𝓛 (‵ (flft κ r) ∷ ‵ (flft μ s) ∷ Γ) G)
      → Seq K 𝓛 (‵ (shared_of ByteItems xs b o κ) ∷ ‵ (flft κ r)
      ∷ ‵ (shared_of ByteItems ys b o μ) ∷ ‵ (flft μ s) ∷ Γ) G
  items_one t z xs ys b o k =
      items_open t xs b o (λ v ev. move t (2 ∷ []) $ items_open t ys b o (λ w ew.
      move t (1 ∷ 2 ∷ 0 ∷ []) $ vec_one same t z v w b (o + 0) (λ e. k (sym ev ∙ e ∙ ew))))
