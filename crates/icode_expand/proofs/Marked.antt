-- The instructions that save and restore the places of a list, place by place in rising order.
use Rattle.std.proofs.Common.{ℕ, zero, suc, ◌≡◌, ◌+◌, ◌<◌, Bool, true, false, cond, List, [], ◌∷◌, ◌++◌, get_or, take}
use Rattle.std.proofs.Common.{refl, ap, ◌∙◌, arith}
use Rattle.std.specs.List.{filter}
use Rattle.std.proofs.lemmas.List.Elements.{filter-append}
use Rattle.std.proofs.lemmas.List.{take_more, append-nil}
use Rattle.mips_encoder.specs.Table.{word_of}
use Rattle.mips_encoder.specs.declared.instruction.Instr.{Instr}
use Rattle.mips_assembly.specs.Assembly.{lw, sw, sp}
use Rattle.icode_templates.specs.Layout.{place_register}
use Rattle.icode_templates.specs.Words.{words}
use Rattle.icode_templates.proofs.Appended.{words_append}
use Rattle.icode_templates.specs.Frames.{saves, restores, save_offset}
use Rattle.icode_saves.specs.Places.{has, register_places, saved}

at_place : (p : ℕ) → p < 12 → get_or register_places p 0 ≡ p
at_place zero h = refl
at_place (suc zero) h = refl
at_place (suc (suc zero)) h = refl
at_place (suc (suc (suc zero))) h = refl
at_place (suc (suc (suc (suc zero)))) h = refl
at_place (suc (suc (suc (suc (suc zero))))) h = refl
at_place (suc (suc (suc (suc (suc (suc zero)))))) h = refl
at_place (suc (suc (suc (suc (suc (suc (suc zero))))))) h = refl
at_place (suc (suc (suc (suc (suc (suc (suc (suc zero)))))))) h = refl
at_place (suc (suc (suc (suc (suc (suc (suc (suc (suc zero))))))))) h = refl
at_place (suc (suc (suc (suc (suc (suc (suc (suc (suc (suc zero)))))))))) h = refl
at_place (suc (suc (suc (suc (suc (suc (suc (suc (suc (suc (suc zero))))))))))) h = refl
at_place (suc (suc (suc (suc (suc (suc (suc (suc (suc (suc (suc (suc p)))))))))))) h = absurd (omega arith)

next_place : (p : ℕ) → p < 12 → take (p + 1) register_places ≡ take p register_places ++ p ∷ []
next_place p h = take_more register_places p 0 h ∙ ap (λ (x : ℕ). take p register_places ++ x ∷ []) (at_place p h)

saves-append : (xs ys : List ℕ) → saves (xs ++ ys) ≡ saves xs ++ saves ys
saves-append [] ys = refl
saves-append (x ∷ xs) ys = ap (λ (is : List Instr). sw (place_register x) (save_offset x) sp ∷ is) (saves-append xs ys)

restores-append : (xs ys : List ℕ) → restores (xs ++ ys) ≡ restores xs ++ restores ys
restores-append [] ys = refl
restores-append (x ∷ xs) ys =
    ap (λ (is : List Instr). lw (place_register x) (save_offset x) sp ∷ is) (restores-append xs ys)

-- those of the list that are below a place
abbrev pub so_far : List ℕ → ℕ → List ℕ
so_far kept p = filter (has kept) (take p register_places)

pub so_far_all : (kept : List ℕ) → so_far kept 12 ≡ saved kept
unfolding saved
so_far_all kept = refl

one : (kept : List ℕ) (p : ℕ) → p < 12 → (b : Bool) → has kept p ≡ b →
    so_far kept (p + 1) ≡ so_far kept p ++ cond b (p ∷ []) []
one kept p h b e =
    rw (next_place p h, filter-append (has kept) (take p register_places) (p ∷ []), e) refl

pub saves_more : (kept : List ℕ) (p : ℕ) → p < 12 → has kept p ≡ true
    → words (saves (so_far kept (p + 1))) ≡ words (saves (so_far kept p)) ++ word_of
    (sw (place_register p) (save_offset p) sp) ∷ []
saves_more kept p h e = rw (one kept p h true e, saves-append, words_append) refl

pub saves_still : (kept : List ℕ) (p : ℕ) → p < 12 → has kept p ≡ false
    → words (saves (so_far kept (p + 1))) ≡ words (saves (so_far kept p))
saves_still kept p h e = rw (one kept p h false e) (rw (saves-append, words_append) (append-nil _))

pub restores_more : (kept : List ℕ) (p : ℕ) → p < 12 → has kept p ≡ true
    → words (restores (so_far kept (p + 1))) ≡ words (restores (so_far kept p)) ++ word_of
    (lw (place_register p) (save_offset p) sp) ∷ []
restores_more kept p h e = rw (one kept p h true e, restores-append, words_append) refl

pub restores_still : (kept : List ℕ) (p : ℕ) → p < 12 → has kept p ≡ false
    → words (restores (so_far kept (p + 1))) ≡ words (restores (so_far kept p))
restores_still kept p h e = rw (one kept p h false e) (rw (restores-append, words_append) (append-nil _))
