-- `are_one` is walked twice. At two places both marks are open at once, so the second is read unchanged, and the answer
-- is false. At one place the mark that is read is the one that was turned, so the answer is true, and the two loans
-- hold the same bytes.
-- A walk is a list of steps over a context, the things that are owned, which comments show as [first; second; ..].
use mathlib.Core.Path.{◌≡◌, refl, ap, subst}
use mathlib.Core.Bool.{Bool, true, false, not}
use mathlib.Core.Logic.{◌↔◌}
use Prim.Native.Nat.{ℕ, ◌+◌}
use native.Mathlib.Omega.{arith}
use mathlib.Core.List.{List, [], ◌∷◌}
use lib.Dec.{T}
use seplogic.Ra.Ura.{Ura}
use mir.Syntax.{named, ne}
use mir.Val.{Val, vbool, vptr, op2_val}
use base.Logic.{SProp, ent, sep}
use base.Fml.{Lft, Share, Key, Mask, Fml, ftrue, flft, ftok}
use base.Mask.{every, less, less_other, Key-Dec}
use prog.Memory.{Memory}
use prog.Routine.{Routine}
use prog.Wp.{Env, Calls, Loops, WpFn, Tables}
use types.Logic.{Logic}
use contract.Monad.{Fun}
use sound.WpLaws.{WpFn-mono}
use types.Kit.{Goal, Step, step, Item, ‵, ◌⊛◌, ⋆, at_ret, ◌$◌, ◌∵◌, !, qed, by, done, move, keep, drop, split, split3}
use types.Kit.{raw, join, fsplit, fpick, fjoin, feq_i, rewrite, group, frame, suffices, updating, now}
use types.Run.{look, store, stop, fld, load, addr, of_opd, bin, un, assigns, first, blocks, exec, returns, enter}
use types.ByLocal.{alloc_all, pass_all, free_all, look_at, get, through, sets, sets_last, is, env}
use denote.Exit as exit
use denote.RattleType.{owns}
use denote.Memory.{hidden_shr, shared_of}
use denote.Opens.{unhide, hide}
use denote.RawPtr.{Ptr, block_ptr, block_of, count_of}
use denote.Ref.{Bor, ShrRef, shr_vals, shr_Tells}
use denote.Builtin.{RefOf}
use denote.Signature.{plain}
use denote.Steps.{nothing}
use denote.Triple.Clauses.{Clauses, closing}
use denote.Triple.Entry.{on_entry}
use denote.Triple.Spec.{Meets}
use denote.Triple.Walked.{Stays, stay_dropped, walk_of, ends_at, walked, Goes-dropped, walk_Meets}
use Rattle.std.specs.Ptr.{as_ptr}
use Rattle.std.proofs.mem.Facts.{says_two}
use Rattle.std.proofs.cell.Inside.{C as CellOf}
use Rattle.shared_bytes.proofs.Agree.{OneValue}
use Rattle.shared_bytes.proofs.Marks.{Cell, Closing, mark, mark_in, mark_out}
use Rattle.shared_bytes.proofs.Lists.{ByteItems, items_one}
use Rattle.shared_bytes.proofs.Turns.{Turned, in_turn}
use Rattle.shared_bytes.specs.contracts.Marked.{the_row as R}
use Rattle.shared_bytes.specs.contracts.are_one as f
use Rattle.shared_bytes.proofs.are_one.Statement.{statement}
use Rattle.shared_bytes.proofs.are_one.Code as code
use Rattle.shared_bytes.proofs.are_one.Code.{code}

-- nothing is wanted of the two loans at the end
abbrev stayed : Stays f.ended.signature.params f.ended.kept
stayed = (
  stay_dropped (RefOf (0 ∷ []) tt (plain (λ _. R)) (λ _. tt)) exit.yes,
  (stay_dropped (RefOf (1 ∷ []) tt (plain (λ _. R)) (λ _. tt)) exit.yes, tt),
)

-- what a loan holds of the mark and of the bytes
module _ {M : Type 1} {𝓤 : Ura M} {𝓛 : Logic 𝓤} {K : Type 0} {Γ : List (Item 𝓤)} {G : Goal 𝓤 𝓛.H} where
  opens : K → {κ : Lft} (xs : List ℕ) (b o : ℕ)
      → Step K 𝓛 (‵ (hidden_shr (CellOf mark) κ (tt, tt) b (o + 0)) ∷ ‵ (shared_of ByteItems xs b (o + 8) κ) ∷ Γ) G
      (‵ (hidden_shr R κ xs b o) ∷ Γ) G
  opens t {κ} xs b o = step (λ s.
      unhide t $ fpick t (λ d. fsplit t $ fsplit t $ fsplit t $ hide t $
      -- [the mark; the other fields; what is left of the place; nothing]
      move t (3 ∷ []) $ drop t $ move t (2 ∷ []) $ drop t $ move t (1 ∷ []) $ fsplit t $ move t (1 ∷ []) $ drop t $
      rewrite t 0 (λ (ys : List ℕ). ‵ (shared_of ByteItems ys b (o + 8) κ)) d.1.0 refl $ move t (1 ∷ []) $ s))

-- how the machine answers whether a truth value differs from itself, and from its opposite
as_itself : (m : Bool) → op2_val ne (vbool m) (vbool m) ≡ vbool false
as_itself true = refl
as_itself false = refl

as_opposite : (m : Bool) → op2_val ne (vbool m) (vbool (not m)) ≡ vbool true
as_opposite true = refl
as_opposite false = refl

-- a mark lies first in what it marks
unmoved : (b o c e : ℕ) → ◌≡◌ {A = Key} (b, o + 0) (c, e + 0) → ◌≡◌ {A = Key} (b, o) (c, e)
unmoved b o c e p =
    let block : b ≡ c = ap (λ (k : Key). k.0) p in
    let after : o + 0 ≡ e + 0 = ap (λ (k : Key). k.1) p in
    let offset : o ≡ e = omega (arith, after) in λ i. (block i, offset i)

abbrev place_of : Ptr → Key
place_of p = (block_of p, count_of p)

abbrev pointer_to : Key → Ptr
pointer_to k = block_ptr k.0 k.1

never : false ≡ true → ⊥
never e = subst (λ (t : Bool). T (not t)) e tt

module _ {M : Type 1} {𝓤 : Ura M} (𝓛 : Logic 𝓤) (same : OneValue 𝓛)
    (at_mem : Memory → SProp 𝓤) (run : Routine → Fun 𝓤) where
  open 𝓛 use {H, A}

  abbrev held : Clauses 𝓤 f.ended
  held = Turned 𝓛 f.ended (f.clauses 𝓛 at_mem run)

  module _ (C : Calls 𝓤 H) (Λ : Loops 𝓤 H) (κ μ : Lft) (q r : Share) (x y : Bor R.Denot) where
    abbrev b : ℕ
    b = x.ref_ptr.0

    abbrev o : ℕ
    o = x.ref_ptr.1

    abbrev place : Key
    place = y.ref_ptr

    abbrev bound : (walk_of 𝓛 f.ended stayed held).Ghost
    bound = (((κ, (μ, tt)), (q, (r, tt)), tt, (x, (y, tt)), (shr_vals x, (shr_vals y, tt))), tt)

    abbrev Post : Val → SProp 𝓤
    Post = (walk_of 𝓛 f.ended stayed held).post bound

    -- what the two clauses say of the answer t
    abbrev Says : Bool → Type 0
    Says t = (t ≡ true ↔ as_ptr x ≡ as_ptr y) × (t ≡ true → x.now ≡ y.now)

    -- the end: only the tokens are left
    exits : (t : Bool) → Says t
        → ent 𝓤 (⋆ 𝓛 (‵ (flft κ q) ∷ ‵ (flft μ r) ∷ ‵ (ftok every) ∷ [])) (Post (vbool t))
    exits t both =
        qed 𝓛 (‵ (flft κ q) ∷ ‵ (flft μ r) ∷ ‵ (ftok every) ∷ []) ∵
        suffices ! _ (ends_at 𝓛 f.ended stayed held bound (vbool t) t (tt, (tt, tt)) (tt, (tt, tt))) $
        nothing ! $ move ! (1 ∷ 2 ∷ 0 ∷ []) $ group ! 3 $ feq_i ! (List Val) (vbool t ∷ []) (vbool t ∷ []) refl $
        nothing ! $ nothing ! $ fjoin ! $ nothing ! $ fjoin ! $ join ! $ move ! (1 ∷ 0 ∷ []) $ join ! $ frame ! $
        says_two ! both $ done !

    -- before it the marks are shut: the first's, and the second's where it lies at another place
    abbrev Shutting : Bool → List (Item 𝓤)
    Shutting m = ‵ (Cell b (o + 0) m) ∷ ‵ (ftok (less every (b, o + 0))) ∷ raw (Closing 𝓛 κ q every b (o + 0))
        ∷ ‵ (flft μ r) ∷ []

    shuts : (m t : Bool) → Says t → ent 𝓤 (⋆ 𝓛 (Shutting m)) (Post (vbool t))
    shuts m t both =
        qed 𝓛 (Shutting m) ∵ suffices ! (H.⇛ (Post (vbool t))) (𝓛.laws.⇛_trans _) $ updating ! $
        mark_out ! tt every b (o + 0) m $ now ! $ move ! (0 ∷ 2 ∷ []) $ by ! (exits t both)

    abbrev Other : Key
    Other = (place.0, place.1 + 0)

    abbrev ShuttingBoth : Bool → Bool → List (Item 𝓤)
    ShuttingBoth m n = ‵ (Cell Other.0 Other.1 n) ∷ ‵ (ftok (less (less every (b, o + 0)) Other))
        ∷ raw (Closing 𝓛 μ r (less every (b, o + 0)) Other.0 Other.1)
        ∷ ‵ (Cell b (o + 0) m) ∷ raw (Closing 𝓛 κ q every b (o + 0)) ∷ []

    shuts_both : (m n t : Bool) → Says t → ent 𝓤 (⋆ 𝓛 (ShuttingBoth m n)) (Post (vbool t))
    shuts_both m n t both =
        qed 𝓛 (ShuttingBoth m n) ∵ suffices ! (H.⇛ (Post (vbool t))) (𝓛.laws.⇛_trans _) $ updating ! $
        mark_out ! tt (less every (b, o + 0)) Other.0 Other.1 n $ now ! $
        move ! (2 ∷ 1 ∷ 3 ∷ []) $ by ! (shuts m t both)

    abbrev Had : Key → List (Item 𝓤)
    Had k = ‵ (hidden_shr R κ x.now b o) ∷ ‵ (flft κ q) ∷ ‵ (ftok every)
        ∷ ‵ (hidden_shr R μ y.now k.0 k.1) ∷ ‵ (flft μ r) ∷ []

    abbrev Runs : Key → Type 1
    Runs k = ent 𝓤 (⋆ 𝓛 (Had k)) (WpFn 𝓤 H C Λ code.function (vptr b o ∷ vptr k.0 k.1 ∷ []) Post)

    one_place : (b, o) ≡ place → Runs (b, o)
    one_place at_one =
        qed 𝓛 (Had (b, o)) ∵ opens ! x.now b o $ move ! (4 ∷ []) $ opens ! y.now b o $ drop ! $
        -- [the second's bytes; the first's mark and bytes; the first's token; the thread's; the second's]
        move ! (2 ∷ 3 ∷ 0 ∷ 5 ∷ 1 ∷ []) $
        enter ! C Λ code.function (vptr b o ∷ vptr b o ∷ []) _ $
        alloc_all ! (λ l. pass_all ! refl ((tt, tt), ((tt, tt), tt)) $
        let En : Env 𝓤 H = env (code.function).locals l in
        items_one same ! tt x.now y.now b (o + 8) (λ agree.
        move ! (2 ∷ 0 ∷ 3 ∷ []) $ mark_in ! tt every b (o + 0) refl (λ m.
        -- [the mark; the thread's token; what shuts the mark; the second's token]
        -- let p = ..; let q = ..;
        sets ! (addr ! (through ! refl (fld ! refl (stop !)))) refl (tt, tt) $
        sets ! (addr ! (through ! refl (fld ! refl (stop !)))) refl (tt, tt) $
        first ! $ blocks ! $
        -- let before = *q; let old = *p;
        sets ! (of_opd ! (load ! (through ! refl (stop !)) (look ! 0 refl))) refl (tt, tt) $
        sets ! (of_opd ! (load ! (through ! refl (stop !)) (look ! 0 refl))) refl (tt, tt) $
        -- *p = !before;
        sets ! (un ! (get ! refl) tt) refl (tt, tt) $
        assigns ! (of_opd ! (get ! refl)) (through ! refl (stop !)) (store ! 0 refl (tt, tt)) $
        -- let after = *q;
        sets ! (of_opd ! (load ! (through ! refl (stop !)) (look ! 0 refl))) refl (tt, tt) $
        -- *p = old;
        assigns ! (of_opd ! (get ! refl)) (through ! refl (stop !)) (store ! 0 refl (tt, tt)) $
        -- before != after
        sets_last ! (is ! (bin ! (get ! refl) (get ! refl) tt) (as_opposite m)) refl (tt, tt) $
        exec ! C Λ En code.Mir.t-4 (at_ret En Post) $
        sets ! (of_opd ! (get ! refl)) refl (tt, tt) $
        returns ! (look_at ! 0 refl) $ free_all ! refl $ keep ! (0 ∷ 1 ∷ 2 ∷ 3 ∷ []) $
        by ! (shuts m true (((λ _. ap pointer_to at_one), (λ _. refl)), (λ _. agree))))))

    two_places : ¬ (◌≡◌ {A = Key} (b, o) place) → Runs place
    two_places apart =
        let c : ℕ = place.0 in let e : ℕ = place.1 in let E : Mask = less every (b, o + 0) in
        let two : ¬ (◌≡◌ {A = Key} (b, o + 0) (c, e + 0)) = λ p. apart (unmoved b o c e p) in
        qed 𝓛 (Had place) ∵ opens ! x.now b o $ move ! (1 ∷ []) $ drop ! $
        move ! (3 ∷ []) $ opens ! y.now c e $ move ! (1 ∷ []) $ drop ! $
        -- [the second's mark; the first's; its token; the thread's; the second's]
        move ! (1 ∷ 2 ∷ 3 ∷ []) $
        enter ! C Λ code.function (vptr b o ∷ vptr c e ∷ []) _ $
        alloc_all ! (λ l. pass_all ! refl ((tt, tt), ((tt, tt), tt)) $
        let En : Env 𝓤 H = env (code.function).locals l in
        mark_in ! tt every b (o + 0) refl (λ m.
        -- [the first's mark; the thread's token without its place; what shuts it; the second's mark; its token]
        move ! (3 ∷ 4 ∷ 1 ∷ []) $ mark_in ! tt E c (e + 0) (less_other every (b, o + 0) (c, e + 0) two) (λ n.
        -- [the second's mark; the thread's token without both places; what shuts it; the first's mark; what shuts it]
        -- let p = ..; let q = ..;
        sets ! (addr ! (through ! refl (fld ! refl (stop !)))) refl (tt, tt) $
        sets ! (addr ! (through ! refl (fld ! refl (stop !)))) refl (tt, tt) $
        first ! $ blocks ! $
        -- let before = *q; let old = *p;
        sets ! (of_opd ! (load ! (through ! refl (stop !)) (look ! 0 refl))) refl (tt, tt) $
        sets ! (of_opd ! (load ! (through ! refl (stop !)) (look ! 3 refl))) refl (tt, tt) $
        -- *p = !before;
        sets ! (un ! (get ! refl) tt) refl (tt, tt) $
        assigns ! (of_opd ! (get ! refl)) (through ! refl (stop !)) (store ! 3 refl (tt, tt)) $
        -- let after = *q;
        sets ! (of_opd ! (load ! (through ! refl (stop !)) (look ! 0 refl))) refl (tt, tt) $
        -- *p = old;
        assigns ! (of_opd ! (get ! refl)) (through ! refl (stop !)) (store ! 3 refl (tt, tt)) $
        -- before != after
        sets_last ! (is ! (bin ! (get ! refl) (get ! refl) tt) (as_itself n)) refl (tt, tt) $
        exec ! C Λ En code.Mir.t-4 (at_ret En Post) $
        sets ! (of_opd ! (get ! refl)) refl (tt, tt) $
        returns ! (look_at ! 0 refl) $ free_all ! refl $ keep ! (0 ∷ 1 ∷ 2 ∷ 3 ∷ 4 ∷ []) $
        by ! (shuts_both m n false
        (((λ t. absurd (never t)), (λ p. absurd (apart (ap place_of p)))), (λ t. absurd (never t)))))))

    runs : Dec (◌≡◌ {A = Key} (b, o) place) → Runs place
    runs (yes at_one) = subst Runs at_one (one_place at_one)
    runs (no apart) = two_places apart

    abbrev Entry : SProp 𝓤
    Entry = on_entry 𝓛 f.signature (κ, (μ, tt)) (q, (r, tt)) (x, (y, tt)) (shr_vals x, (shr_vals y, tt))

    abbrev Loans : Fml
    Loans = owns (ShrRef (named 0) κ R ∷ ShrRef (named 1) μ R ∷ []) (x, (y, tt)) (shr_vals x, (shr_vals y, tt))

    walk : ent 𝓤 (sep 𝓤 Entry ((held (κ, (μ, tt)) (x, (y, tt))).requires tt))
        (WpFn 𝓤 H C Λ code.function (vptr b o ∷ vptr place.0 place.1 ∷ []) Post)
    walk =
        qed 𝓛 (((‵ (flft κ q) ⊛ ‵ (flft μ r) ⊛ ‵ ftrue) ⊛ ‵ Loans) ∷ (‵ (ftok every) ⊛ ‵ ftrue) ∷ []) ∵
        split ! $ split3 ! $ move ! (3 ∷ []) $ fsplit ! $ fsplit ! $ drop ! $
        move ! (1 ∷ []) $ fsplit ! $ fsplit ! $ drop ! $
        -- [the second; nothing; the first; the tokens; nothing; the thread's token beside nothing]
        move ! (6 ∷ []) $ split ! $ keep ! (4 ∷ 5 ∷ 0 ∷ 2 ∷ 6 ∷ []) $ by ! (runs (Key-Dec (b, o) place))

  meets : (𝓣 : Tables 𝓤 H) → Meets 𝓛 f.signature (WpFn 𝓤 H 𝓣.C 𝓣.Λ code.function) (closing 𝓛 f.ended held)
  meets 𝓣 =
      walk_Meets 𝓛 f.ended stayed (
        Goes-dropped 𝓛 2 (RefOf (0 ∷ []) tt (plain (λ _. R)) (λ _. tt)) exit.yes (λ κs x w. refl),
        (Goes-dropped 𝓛 2 (RefOf (1 ∷ []) tt (plain (λ _. R)) (λ _. tt)) exit.yes (λ κs x w. refl), tt),
      )
      held (WpFn 𝓤 H 𝓣.C 𝓣.Λ code.function) (WpFn-mono 𝓤 H 𝓛.laws 𝓣 code.function)
      (walked 𝓛 f.ended stayed held (WpFn 𝓤 H 𝓣.C 𝓣.Λ code.function)
      (λ κs. (shr_vals, (shr_vals, tt))) (λ κs. (shr_Tells (named 0) κs.0 R, (shr_Tells (named 1) κs.1.0 R, tt)))
      (λ κs qs bounds a g are. walk 𝓣.C 𝓣.Λ κs.0 κs.1.0 qs.0 qs.1.0 a.0 a.1.0))

pub are_one_spec : {M : Type 1} → statement M
unfolding code
are_one_spec 𝓤 𝓛 𝓜 𝓡 wired =
    in_turn 𝓛 f.ended (f.clauses 𝓛 𝓜.mem 𝓡.returns) 𝓜 𝓡 f.Key.name code.function (wired.0.0 f.Key.name refl)
    (meets 𝓛 𝓜.at_agree 𝓜.mem 𝓡.returns)
