-- The mark, a `Cell<bool>`, opened through a loan of it: for a share of the loan's token and the thread's own token at
-- the mark's place.
--     Closing          what shuts it, at whatever truth value lies there by then
--     mark_in, mark_out        it is opened and shut. Of the thread's token the place is taken out meanwhile, so that
--                      another mark, at another place, can be open too
-- Assumes `Logic`.
use mathlib.Core.Path.{◌≡◌, refl}
use mathlib.Core.Bool.{Bool, true}
use Prim.Native.Nat.{ℕ}
use mathlib.Core.List.{List, [], ◌∷◌}
use seplogic.Ra.Ura.{Ura}
use mir.Syntax.{ty_bool}
use mir.Val.{Val, vbool}
use base.Fraction.{full_share}
use base.Logic.{SProp, ent, sep, wand, all, ex, all_e, apply∗}
use base.Fml.{Lft, Incl-refl, Mask, Share, Fml, fsep, fat, flft, ftok}
use base.Mask.{less}
use types.Logic.{Logic, sem}
use types.Kit.{Goal, Soaks, Seq, Step, step, Item, ‵, raw, some, later, ◌⊛◌, ◌$◌, ◌∵◌, !, qed, by, done}
use types.Kit.{move, use1, use2, use3, split, split3, join, fsplit, fjoin, fpick, fpack, feq_l, feq_i, rewrite}
use types.Kit.{pick, show, each, assume, frame, await}
use types.Na.{na_bor, na_acc_in}
use denote.Builtin.{bool}
use denote.Memory.{part_of, part_at, cell_at, hidden_shr}
use denote.Plain.{bool_Lawful}
use denote.Struct.Members.{Member, row_of}
use denote.Struct.CellSteps.{only_shared, cell_out}
use Rattle.std.proofs.cell.Inside.{νU, νC, U, inner, C as CellOf}

abbrev pub mark : Member
mark = record { row = bool; ty = ty_bool }

-- the mark in memory, whatever it is
abbrev Holds : ℕ → ℕ → Fml
Holds b o = part_at (U mark) full_share tt b o

-- and where it is x
abbrev Bit : ℕ → ℕ → Bool → Fml
Bit b o x = part_at (row_of mark) full_share x b o

abbrev pub Cell : ℕ → ℕ → Bool → Fml
Cell b o x = fat full_share ty_bool b o (vbool x)

abbrev Word : ℕ → ℕ → List Val → Fml
Word b o us = cell_at full_share (ty_bool ∷ []) us b o

module _ {M : Type 1} {𝓤 : Ura M} (𝓛 : Logic 𝓤) where
  open 𝓛 use {H, A}

  bit_out : (x : Bool) (b o : ℕ) → ent 𝓤 (sem 𝓛 (Bit b o x)) (sem 𝓛 (Cell b o x))
  unfolding part_of
  bit_out x b o =
      qed 𝓛 (‵ (Bit b o x) ∷ []) ∵ fpick ! (λ vs. fsplit ! $ move ! (1 ∷ []) $ feq_l ! (λ e.
      rewrite ! 0 (λ (us : List Val). ‵ (Word b o us)) e refl $ done !))

  bit_in : (x : Bool) (b o : ℕ) → ent 𝓤 (sem 𝓛 (Cell b o x)) (sem 𝓛 (Bit b o x))
  unfolding part_of
  bit_in x b o =
      qed 𝓛 (‵ (Cell b o x) ∷ []) ∵ feq_i ! (List Val) (vbool x ∷ []) (vbool x ∷ []) refl $
      move ! (1 ∷ 0 ∷ []) $ fjoin ! $
      fpack ! (List Val) (λ us. fsep (Word b o us) (bool.own_val x us)) (vbool x ∷ []) $ done !

  module _ (κ : Lft) (q : Share) (E : Mask) (b o : ℕ) where
    abbrev Both : SProp 𝓤
    Both = H.⇛ (sep 𝓤 (A.lft κ q) (A.tok E))

    abbrev Back : Bool → SProp 𝓤
    Back x = wand 𝓤 (sep 𝓤 (sem 𝓛 (Cell b o x)) (A.tok (less E (b, o)))) Both

    abbrev pub Closing : SProp 𝓤
    Closing = all 𝓤 Back

    abbrev Held : SProp 𝓤
    Held = sep 𝓤 (sem 𝓛 (Holds b o)) (A.tok (less E (b, o)))

    abbrev Shown : Bool → SProp 𝓤
    Shown x = sep 𝓤 (sem 𝓛 (Cell b o x)) Closing

    abbrev Hides : Bool → SProp 𝓤
    Hides x = wand 𝓤 (sem 𝓛 (Bit b o x)) (sem 𝓛 (Holds b o))

    shown : ent 𝓤 (sep 𝓤 (sem 𝓛 (Holds b o)) (wand 𝓤 Held Both)) (ex 𝓤 Shown)
    shown =
        qed 𝓛 (‵ (Holds b o) ∷ raw (wand 𝓤 Held Both) ∷ []) ∵
        use1 𝓛 (some (λ (x : Bool). ‵ (Bit b o x) ⊛ raw (all 𝓤 Hides)))
        (cell_out 𝓛 νU [] (row_of mark ∷ []) mark (bool_Lawful 𝓛) b o) $ pick ! (λ x. split ! $
        use1 𝓛 (‵ (Cell b o x)) (bit_out x b o) $ show ! Shown x $ frame ! $
        each ! Back (λ y. assume ! (‵ (Cell b o y) ⊛ ‵ (ftok (less E (b, o)))) $ split ! $
        -- [the mark; the thread's token; what hides the mark; the way back]
        use1 𝓛 (‵ (Bit b o y)) (bit_in y b o) $ move ! (2 ∷ []) $ use1 𝓛 (raw (Hides y)) (all_e 𝓤 Hides y) $
        move ! (1 ∷ 0 ∷ []) $ use2 𝓛 (‵ (Holds b o)) (apply∗ 𝓤 (sem 𝓛 (Bit b o y)) (sem 𝓛 (Holds b o))) $
        join ! $ by ! (apply∗ 𝓤 Held Both)))

module _ {M : Type 1} {𝓤 : Ura M} {𝓛 : Logic 𝓤} {K : Type 0} {Γ : List (Item 𝓤)} {G : Goal 𝓤 𝓛.H} where
  pub mark_in : K → Soaks G → {κ : Lft} {q : Share} (E : Mask) (b o : ℕ) → E (b, o) ≡ true
      → ((x : Bool) → Seq K 𝓛 (‵ (Cell b o x) ∷ ‵ (ftok (less E (b, o))) ∷ raw (Closing 𝓛 κ q E b o) ∷ Γ) G)
      → Seq K 𝓛 (‵ (hidden_shr (CellOf mark) κ (tt, tt) b o) ∷ ‵ (flft κ q) ∷ ‵ (ftok E) ∷ Γ) G
  mark_in t z {κ} {q} E b o has k =
      let back = wand 𝓤 (Held 𝓛 κ q E b o) (Both 𝓛 κ q E b o) in
      use1 𝓛 (‵ (na_bor κ (b, o) (Holds b o))) (only_shared 𝓛 νC [] (row_of mark ∷ []) (inner mark) κ tt b o) $
      use3 𝓛 (later (‵ (Holds b o) ⊛ ‵ (ftok (less E (b, o))) ⊛ raw back))
      (na_acc_in 𝓛 κ ((κ, q) ∷ []) E (b, o) (Holds b o) (Incl-refl κ) has) $
      await t z $ split3 t $ move t (0 ∷ 2 ∷ []) $
      use2 𝓛 (some (λ (x : Bool). ‵ (Cell b o x) ⊛ raw (Closing 𝓛 κ q E b o))) (shown 𝓛 κ q E b o) $
      pick t (λ x. split t $ move t (0 ∷ 2 ∷ []) $ k x)

  pub mark_out : K → Soaks G → {κ : Lft} {q : Share} (E : Mask) (b o : ℕ) (x : Bool)
      → Step K 𝓛 (‵ (flft κ q) ∷ ‵ (ftok E) ∷ Γ) G
      (‵ (Cell b o x) ∷ ‵ (ftok (less E (b, o))) ∷ raw (Closing 𝓛 κ q E b o) ∷ Γ) G
  mark_out t z {κ} {q} E b o x = step (λ s.
      let open_now = sep 𝓤 (sem 𝓛 (Cell b o x)) (𝓛.A.tok (less E (b, o))) in
      let closed = Both 𝓛 κ q E b o in
      move t (2 ∷ []) $ use1 𝓛 (raw (wand 𝓤 open_now closed)) (all_e 𝓤 (Back 𝓛 κ q E b o) x) $
      move t (1 ∷ 2 ∷ []) $ join t $
      use2 𝓛 (later (‵ (flft κ q) ⊛ ‵ (ftok E))) (apply∗ 𝓤 open_now closed) $ await t z $ split t $ s)
