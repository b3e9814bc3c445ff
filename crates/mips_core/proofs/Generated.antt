-- What a core has of a service that makes code, from what the call of the service did.
use Rattle.std.proofs.Common.{ℕ, ◌≡◌, Option, None, Result, Ok, Err, ap, subst, ◌∙◌}
use Rattle.code_arena.specs.Arena.{Arena}
use Rattle.code_arena.specs.Kept.{arena_of, rows_of}
use Rattle.mips_model.specs.declared.bad_service.BadService.{BadService}
use Rattle.mips_model.specs.Choices.{Choice}
use Rattle.mips_model.specs.CodeServices as services
use Rattle.mips_model.specs.CodeServices.{Generator, Rows, Outcome, Refused, Does}
use Rattle.icode_service.specs.Served.{Did, IsChosen}
use Rattle.mips_model.specs.State.{World}
use Rattle.mips_model.specs.Steps.{going}
use Rattle.mips_core.specs.declared.halt.Halt.{Halt}
use Rattle.mips_core.specs.Core.{CoreKept, state_of, data_of, world_of, ending_from}

-- what the call of a service did
abbrev pub Served :
    (n a b c : ℕ) (g new : Generator) (before after : Arena) (rows later : Rows) → Result ℕ BadService → Type 0
Served n a b c g new before after rows later result =
    (choice : Choice) × IsChosen n a b c g choice ×
    Did (services.service choice n a b c g) g new before after rows later result

-- its number and its arguments are what the registers hold, and arena and table are the core's
pub by_registers :
    (n a b c n' a' b' c' : ℕ) (g new : Generator) (before after before' : Arena) (rows later rows' : Rows)
    (result : Result ℕ BadService) → n ≡ n' → a ≡ a' → b ≡ b' → c ≡ c' → before ≡ before' → rows ≡ rows' →
    Served n a b c g new before after rows later result → Served n' a' b' c' g new before' after rows' later result
by_registers n a b c n' a' b' c' g new before after before' rows later rows' result e f h i p q s =
    subst (λ (x : Rows). Served n' a' b' c' g new before' after x later result) q
    (subst (λ (x : Arena). Served n' a' b' c' g new x after rows later result) p
    (subst (λ (x : ℕ). Served n' a' b' x g new before after rows later result) i
    (subst (λ (x : ℕ). Served n' a' x c g new before after rows later result) h
    (subst (λ (x : ℕ). Served n' x b c g new before after rows later result) f
    (subst (λ (x : ℕ). Served x a b c g new before after rows later result) e s)))))

-- an answer isn't a refusal
abbrev IsRefusal : Result ℕ BadService → Type 0
IsRefusal (Ok v) = ⊥
IsRefusal (Err why) = Unit {0}

-- a service that was refused left arena and function table
pub left_alone :
    (o : Outcome) (why : BadService) (old new : Generator) (a after : Arena) (r later : Rows) →
    Did o old new a after r later (Err why) → (after ≡ a) × (later ≡ r)
left_alone (Refused other) why old new a after r later h = (h.2, h.3)
left_alone (Does answer made change set) why old new a after r later h = absurd (subst IsRefusal h.0 tt)

-- a core's world with another arena and another table
abbrev pub with_code : Arena → Rows → CoreKept → World
with_code a t k = record {
  state =
      record (state_of k) { code = record (state_of k).code { arena = a }; d = record (data_of k) { table = t } };
  ending = ending_from k.stopped;
}

-- the same arena and the same table, and the core hasn't stopped
pub stays :
    (k now : CoreKept) (a b : Arena) (t u : Rows) → k ≡ now → a ≡ b → t ≡ u → b ≡ arena_of k.arena →
    u ≡ rows_of k.table → now.stopped ≡ None → with_code a t k ≡ going (state_of now)
stays k now a b t u e p q x y on =
    ap (λ (z : Arena). with_code z t k) (p ∙ x)
    ∙ (ap (λ (z : Rows). with_code (arena_of k.arena) z k) (q ∙ y)
    ∙ (ap world_of e
    ∙ ap (λ (h : Option Halt). let w : World = record { state = state_of now; ending = ending_from h } in w) on))
