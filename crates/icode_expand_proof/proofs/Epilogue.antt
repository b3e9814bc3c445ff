-- The epilogue: the saved registers come back, the frame's objects and the frame are given back, and control returns.
use Rattle.std.proofs.Common.{◌≡◌, ◌≢◌, inl, inr, ℕ, suc, ◌+◌, ◌-◌, ◌*◌, ◌/◌, ◌%◌, ◌<◌, ◌≤◌, Bool, false, List, [], ◌∷◌}
use Rattle.std.proofs.Common.{◌++◌, length, refl, sym, ap, ◌∙◌, subst, arith, nat_eq, if◌then◌else◌, append_assoc}
use Rattle.std.proofs.lemmas.Bool.{ne_eqb, cases_eq}
use Rattle.std.proofs.lemmas.List.{length-append}
use Rattle.word32.specs.Words.{difference}
use Rattle.word32.specs.Space.{update}
use Rattle.mips_encoder.specs.declared.instruction.Instr.{Instr}
use Rattle.mips_encoder.specs.Addresses.{past}
use Rattle.mips_model.specs.State.{Code, Data}
use Rattle.mips_model.specs.Effects.{touches}
use Rattle.mips_model.specs.Laws.{HasAt, at, Reaches}
use Rattle.mips_model.proofs.Reach.{front, back, reaches_on}
use Rattle.mips_assembly.specs.Assembly.{subu, lw, jr, nop, constant}
use Rattle.icode_templates.specs.Layout.{place_register}
use Rattle.icode_templates.specs.Frames.{restores, free_frame, free_objects}
use Rattle.icode_saves.specs.Laws.{AllPlaces, Rising}
use Rattle.icode_templates_proof.specs.Spots.{pointer, frame_word, Framed, SameWorld}
use Rattle.icode_templates_proof.proofs.Memory.{update_same, update_other}
use Rattle.icode_templates_proof.proofs.Leaves.{Leaves, leaves_on, leaves_run}
use Rattle.icode_templates_proof.proofs.Keeping.{with_registers}
use Rattle.icode_templates_proof.proofs.Templates.{constant_parts}
use Rattle.icode_expand_proof.proofs.Places.{place_bounds}
use Rattle.icode_expand_proof.proofs.Entering.{free_code, return_reaches}
use Rattle.icode_expand_proof.proofs.Saving.{fetch_leaves, Restores, restored, untouched, restores_leave}
use Rattle.icode_expand_proof.proofs.Saving.{restores_other, restores_stack, restores_world}

-- the objects and the frame, behind the load of $ra
pub record Tail (n frame : ℕ) (d : Data) : Type 0 where
  pub after : Data
  pub leaves : Leaves (free_objects n ++ free_code frame) 31 d 0 after
  pub pointer_is : pointer after ≡ (pointer d + frame) % 4294967296
  pub objects_is : after.registers 30 ≡ d.registers 30 - n
  pub others : (r : ℕ) → r ≢ 1 → r ≢ 24 → r ≢ 29 → r ≢ 30 → after.registers r ≡ d.registers r
  pub stack : after.stack ≡ d.stack
  pub world : SameWorld d after

abbrev freed : ℕ → ℕ → Data → Data
freed h x d = with_registers (update 29 ((pointer d + x) % 4294967296) (update 1 x (update 1 h d.registers))) d

freed_other : (h x : ℕ) (d : Data) (r : ℕ) → r ≢ 1 → r ≢ 29 → (freed h x d).registers r ≡ d.registers r
freed_other h x d r n1 n29 =
    update_other 29 ((pointer d + x) % 4294967296) (update 1 x (update 1 h d.registers)) r n29
    ∙ update_other 1 x (update 1 h d.registers) r n1 ∙ update_other 1 h d.registers r n1

free_behind : (frame : ℕ) (d : Data) → Leaves (free_code frame) 31 d 0 (freed (frame / 65536 * 65536) frame d)
free_behind frame d = subst (λ x. Leaves (free_code frame) 31 d 0 (freed (frame / 65536 * 65536) x d))
    (constant_parts frame) (λ rest. refl)

free_alone : (frame : ℕ) (d : Data) → Leaves (free_code frame) 0 d 0 (freed (frame / 65536 * 65536) frame d)
free_alone frame d = subst (λ x. Leaves (free_code frame) 0 d 0 (freed (frame / 65536 * 65536) x d))
    (constant_parts frame) (λ rest. refl)

abbrev some_code : ℕ → List Instr
some_code n = constant 24 n ++ subu 30 30 24 ∷ []

abbrev given_back : ℕ → ℕ → Data → Data
given_back h x d = with_registers (update 30 (difference (d.registers 30) x) (update 24 x (update 24 h d.registers))) d

some_leaves : (n : ℕ) (d : Data) → Leaves (some_code n) 31 d 0 (given_back (n / 65536 * 65536) n d)
some_leaves n d = subst (λ x. Leaves (some_code n) 31 d 0 (given_back (n / 65536 * 65536) x d)) (constant_parts n)
    (λ rest. refl)

given_other : (h x : ℕ) (d : Data) (r : ℕ) → r ≢ 24 → r ≢ 30 → (given_back h x d).registers r ≡ d.registers r
given_other h x d r n24 n30 =
    update_other 30 (difference (d.registers 30) x) (update 24 x (update 24 h d.registers)) r n30
    ∙ update_other 24 x (update 24 h d.registers) r n24 ∙ update_other 24 h d.registers r n24

pub free_is : (n : ℕ) (b : Bool) → nat_eq n 0 ≡ b → free_objects n ≡ (if b then [] else some_code n)
free_is n b e = ap (λ (x : Bool). if x then [] else some_code n) e

pub tail : (n frame : ℕ) (d : Data) → n ≤ d.registers 30 → d.registers 30 < 4294967296 → Tail n frame d
tail n frame d lo hi = elim (cases_eq n 0) [
  | inl e ↦ (let h = frame / 65536 * 65536 in
      let same : free_objects n ≡ [] = ap free_objects e in
      record {
        after = freed h frame d;
        leaves = subst (λ is. Leaves (is ++ free_code frame) 31 d 0 (freed h frame d)) (sym same) (free_behind frame d);
        pointer_is = update_same 29 ((pointer d + frame) % 4294967296) (update 1 frame (update 1 h d.registers));
        objects_is = freed_other h frame d 30 (omega arith) (omega arith) ∙ omega (arith, e);
        others = λ r n1 n24 n29 n30. freed_other h frame d r n1 n29;
        stack = refl;
        world = record {
          objects = refl;
          closures = refl;
          spec_rows = refl;
          cells = refl;
          emit_stack = refl;
          table = refl;
          outside = refl;
        };
      })
  | inr ne ↦ (let h = frame / 65536 * 65536 in
      let d1 = given_back (n / 65536 * 65536) n d in
      let same : free_objects n ≡ some_code n = free_is n false (ne_eqb n 0 ne) in
      let less : difference (d.registers 30) n ≡ d.registers 30 - n = omega (arith, lo, hi) in
      record {
        after = freed h frame d1;
        leaves = subst (λ is. Leaves (is ++ free_code frame) 31 d 0 (freed h frame d1)) (sym same)
            (leaves_on (some_code n) (free_code frame) 31 0 0 d d1 (freed h frame d1) (some_leaves n d)
            (free_alone frame d1));
        pointer_is = update_same 29 ((pointer d1 + frame) % 4294967296) (update 1 frame (update 1 h d1.registers))
            ∙ ap (λ k. (k + frame) % 4294967296) (given_other (n / 65536 * 65536) n d 29 (omega arith) (omega arith));
        objects_is = freed_other h frame d1 30 (omega arith) (omega arith)
            ∙ update_same 30 (difference (d.registers 30) n) (update 24 n (update 24 (n / 65536 * 65536) d.registers))
            ∙ less;
        others = λ r n1 n24 n29 n30. freed_other h frame d1 r n1 n29 ∙ given_other (n / 65536 * 65536) n d r n24 n30;
        stack = refl;
        world = record {
          objects = refl;
          closures = refl;
          spec_rows = refl;
          cells = refl;
          emit_stack = refl;
          table = refl;
          outside = refl;
        };
      })
]

pub free_short : (n : ℕ) → length (free_objects n) ≤ 3
free_short n = elim (cases_eq n 0) [
  | inl e ↦ subst (λ k. length (free_objects k) ≤ 3) (sym e) (omega arith)
  | inr ne ↦ subst (λ is. length is ≤ 3) (sym (free_is n false (ne_eqb n 0 ne))) (omega arith)
]

restores_length : (ps : List ℕ) → length (restores ps) ≡ length ps
restores_length [] = refl
restores_length (p ∷ ps) = ap suc (restores_length ps)

-- what the epilogue leaves, but for the count
pub record Back (frame objects : ℕ) (kept : List ℕ) (c : Code) (a : ℕ) (d : Data) : Type 0 where
  pub after : Data
  pub count : ℕ
  pub some : 6 ≤ count
  pub few : count ≤ length kept + 9
  pub reaches : Reaches count (at c a 0 d) (at c (frame_word d 80) 0 after)
  pub pointer_is : pointer after ≡ pointer d + frame
  pub objects_is : after.registers 30 ≡ d.registers 30 - objects
  pub others : (r : ℕ) → r ≢ 1 → r ≢ 24 → r ≢ 29 → r ≢ 30 → r ≢ 31 → after.registers r ≡ (restored kept d).registers r
  pub stack : after.stack ≡ d.stack
  pub world : SameWorld d after

module _ (frame objects : ℕ) (kept : List ℕ) (c : Code) (a : ℕ) (d : Data) (all : AllPlaces kept)
    (rising : Rising 0 kept) (big : 128 ≤ frame) (f : Framed (pointer d) frame) (lo : objects ≤ d.registers 30)
    (hi : d.registers 30 < 4294967296)
    (h : HasAt c a (restores kept ++ (lw 31 80 29 ∷ (free_objects objects ++ free_frame frame)))) where
  abbrev mid : Data
  mid = restored kept d

  not_zero : (p : ℕ) → p < 12 → place_register p ≢ 0
  not_zero p l e = let b = place_bounds p l in omega (arith, b.0, e)

  restoring : Restores kept 0 d
  restoring = restores_leave kept 0 0 frame d all rising (λ p ge less e. not_zero p less e) (omega arith) f big

  pointer_mid : pointer mid ≡ pointer d
  pointer_mid = restores_other kept d 29 all (inr (omega arith))

  objects_mid : mid.registers 30 ≡ d.registers 30
  objects_mid = restores_other kept d 30 all (inr (omega arith))

  abbrev with_address : Data
  with_address = with_registers (update 31 (frame_word mid 80) mid.registers) mid

  address_leaves : Leaves (lw 31 80 29 ∷ []) restoring.loaded mid 31 with_address
  address_leaves =
      let n1 : nat_eq 31 restoring.loaded ≡ false = ne_eqb 31 restoring.loaded (omega (arith, restoring.low)) in
      let n2 : nat_eq 29 restoring.loaded ≡ false = ne_eqb 29 restoring.loaded (omega (arith, restoring.low)) in
      let t : touches (lw 31 80 29) restoring.loaded ≡ false = rw (n1, n2) refl in
      fetch_leaves 31 restoring.loaded 80 frame mid refl (untouched restoring.loaded (lw 31 80 29) t)
      (subst (λ n. Framed n frame) (sym pointer_mid) f) (omega arith) (omega (arith, big)) refl

  same_objects : with_address.registers 30 ≡ d.registers 30
  same_objects = update_other 31 (frame_word mid 80) mid.registers 30 (omega arith) ∙ objects_mid

  the_tail : Tail objects frame with_address
  the_tail = tail objects frame with_address (subst (λ n. objects ≤ n) (sym same_objects) lo)
      (subst (λ n. n < 4294967296) (sym same_objects) hi)

  abbrev rest : List Instr
  rest = lw 31 80 29 ∷ (free_objects objects ++ free_code frame)

  abbrev straight : List Instr
  straight = restores kept ++ rest

  straight_leaves : Leaves straight 0 d 0 the_tail.after
  straight_leaves =
      leaves_on (restores kept) rest 0 restoring.loaded 0 d mid the_tail.after restoring.leaves
      (leaves_on (lw 31 80 29 ∷ []) (free_objects objects ++ free_code frame) restoring.loaded 31 0 mid with_address
      the_tail.after address_leaves the_tail.leaves)

  abbrev whole : List Instr
  whole = restores kept ++ (lw 31 80 29 ∷ (free_objects objects ++ free_frame frame))

  split : straight ++ (jr 31 ∷ nop ∷ []) ≡ whole
  split = append_assoc (restores kept) rest (jr 31 ∷ nop ∷ []) ∙ ap (λ is. restores kept ++ (lw 31 80 29 ∷ is))
      (append_assoc (free_objects objects) (free_code frame) (jr 31 ∷ nop ∷ []))

  parts : HasAt c a (straight ++ (jr 31 ∷ nop ∷ []))
  parts = subst (HasAt c a) (sym split) h

  last_address : the_tail.after.registers 31 ≡ frame_word d 80
  last_address =
      the_tail.others 31 (omega arith) (omega arith) (omega arith) (omega arith) ∙ update_same 31 (frame_word mid 80)
      mid.registers
      ∙ ap (λ (m : ℕ → ℕ). m ((pointer mid + 80) / 4)) (restores_stack kept d) ∙ ap (λ n. d.stack ((n + 80) / 4))
      pointer_mid

  pub goes_back : Back frame objects kept c a d
  goes_back =
      let n1 = length-append (restores kept) rest in
      let n2 = length-append (free_objects objects) (free_code frame) in
      let n3 = restores_length kept in
      let n4 = free_short objects in
      let w1 = restores_world kept d in
      let w2 = the_tail.world in
      record {
        after = the_tail.after;
        count = length straight + 2;
        some = omega (arith, n1, n2);
        few = omega (arith, n1, n2, n3, n4);
        reaches = subst (λ n. Reaches (length straight + 2) (at c a 0 d) (at c n 0 the_tail.after)) last_address
            (reaches_on (leaves_run straight c 0 0 a d the_tail.after straight_leaves
            (front c a straight (jr 31 ∷ nop ∷ []) parts)) (return_reaches c (past a straight) the_tail.after
            (back c a straight (jr 31 ∷ nop ∷ []) parts)));
        pointer_is = the_tail.pointer_is ∙ ap (λ n. (n + frame) % 4294967296)
            (update_other 31 (frame_word mid 80) mid.registers 29 (omega arith) ∙ pointer_mid) ∙ omega (arith, f.to);
        objects_is = the_tail.objects_is ∙ ap (λ n. n - objects) same_objects;
        others = λ r m1 m24 m29 m30 m31. the_tail.others r m1 m24 m29 m30 ∙ update_other 31 (frame_word mid 80)
            mid.registers r m31;
        stack = the_tail.stack ∙ restores_stack kept d;
        world = record {
          objects = w2.objects ∙ w1.objects;
          closures = w2.closures ∙ w1.closures;
          spec_rows = w2.spec_rows ∙ w1.spec_rows;
          cells = w2.cells ∙ w1.cells;
          emit_stack = w2.emit_stack ∙ w1.emit_stack;
          table = w2.table ∙ w1.table;
          outside = w2.outside ∙ w1.outside;
        };
      }
