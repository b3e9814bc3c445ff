-- What a call of the service of a number did, from what the call of that service did.
use Rattle.std.proofs.Common.{ℕ, ◌+◌, ◌≤◌, ◌≡◌, ◌≢◌, Option, Some, None, Result, Err}
use Rattle.std.proofs.Common.{refl, sym, ap, subst, ◌∙◌, arith}
use Rattle.std.proofs.lemmas.Bool.{ne_eqb}
use Rattle.limits.specs.declared.ops.TheConstants.{MOST_REGISTERS}
use Rattle.code_arena.specs.Arena.{Arena}
use Rattle.icode_ir.specs.declared.build_op.BuildOp.{BuildOp}
use Rattle.icode_ir.specs.declared.build_op.BuildFault.{BuildFault}
use Rattle.icode_ir.specs.Build.{Build}
use Rattle.icode_ir.specs.Rules.{fault_of}
use Rattle.icode_ir.specs.Decoded.{op_of}
use Rattle.mips_model.specs.declared.bad_service.BadService.{BadService}
use Rattle.mips_model.specs.declared.bad_service.BadService.TheVariants as reason
use Rattle.mips_model.specs.Choices.{Choice}
use Rattle.mips_model.specs.CodeServices as services
use Rattle.mips_model.specs.CodeServices.{Generator, Rows, Outcome, Refused, builds, unless}
use Rattle.icode_service.specs.Served.{Did, IsChosen}
use Rattle.icode_service.proofs.Outcomes.{refused, no_choice}
use Rattle.icode_service.proofs.Finishes.{Finished}

-- a call of the service of a number
abbrev pub Served :
    (number first second third : ℕ) (g new : Generator) (before after : Arena) (rows later : Rows) →
    Result ℕ BadService → Type 0
Served number first second third g new before after rows later result =
    (choice : Choice) × IsChosen number first second third g choice ×
    Did (services.service choice number first second third g) g new before after rows later result

module _ (number first second third : ℕ) (g new : Generator) (before after : Arena) (rows later : Rows)
    (result : Result ℕ BadService) where
  pub as_begin :
      number ≡ 64 → Did (services.begin first g) g new before after rows later result →
      Served number first second third g new before after rows later result
  as_begin e h =
      subst (λ (n : ℕ). Served n first second third g new before after rows later result) (sym e)
      (no_choice, λ q. absurd (omega arith), h)

  pub as_emit :
      number ≡ 65 → Did (services.emit first second third g) g new before after rows later result →
      Served number first second third g new before after rows later result
  as_emit e h =
      subst (λ (n : ℕ). Served n first second third g new before after rows later result) (sym e)
      (no_choice, λ q. absurd (omega arith), h)

  pub as_finish :
      number ≡ 66 → later ≡ rows → Finished first second third g new before after result →
      Served number first second third g new before after rows later result
  as_finish e s h =
      subst (λ (n : ℕ). Served n first second third g new before after rows later result) (sym e)
      (subst (λ (r : Rows). Served 66 first second third g new before after rows r result) (sym s)
      (h.0, λ _. h.1, h.2 rows))

  pub as_flush :
      number ≡ 67 → Did (services.flush first second g) g new before after rows later result →
      Served number first second third g new before after rows later result
  as_flush e h =
      subst (λ (n : ℕ). Served n first second third g new before after rows later result) (sym e)
      (no_choice, λ q. absurd (omega arith), h)

  pub as_publish :
      number ≡ 68 → Did (services.publish first second third g) g new before after rows later result →
      Served number first second third g new before after rows later result
  as_publish e h =
      subst (λ (n : ℕ). Served n first second third g new before after rows later result) (sym e)
      (no_choice, λ q. absurd (omega arith), h)

service_none :
    (choice : Choice) (n first second third : ℕ) (g : Generator) → n ≢ 64 → n ≢ 65 → n ≢ 66 → n ≢ 67 → n ≢ 68 →
    services.service choice n first second third g ≡ Refused reason.NoService
service_none choice n first second third g a b c d e =
    rw (ne_eqb n 64 a, ne_eqb n 65 b, ne_eqb n 66 c, ne_eqb n 67 d, ne_eqb n 68 e) refl

pub as_none :
    (n first second third : ℕ) (g : Generator) (a : Arena) (r : Rows) → n ≢ 64 → n ≢ 65 → n ≢ 66 → n ≢ 67 → n ≢ 68 →
    Served n first second third g g a a r r (Err reason.NoService)
as_none n first second third g a r p q s t u = (
  no_choice,
  λ e. absurd (s e),
  refused (services.service no_choice n first second third g) reason.NoService
      (service_none no_choice n first second third g p q s t u) g g a a r r refl refl refl,
)

-- ---- what neither finishes a function nor is refused leaves the count of spills

-- a call that leaves the count as it was
abbrev Kept : Outcome → (g new : Generator) (a : Arena) (r : Rows) → Result ℕ BadService → Type 0
Kept o g new a r result = Did o g new a a r r result → new.spills ≡ g.spills

unless_kept :
    (why : Option BadService) (g made new : Generator) (a : Arena) (r : Rows) (result : Result ℕ BadService) →
    made.spills ≡ g.spills → Kept (unless why (builds made)) g new a r result
unless_kept None g made new a r result e h = ap (λ (x : Generator). x.spills) h.1 ∙ e
unless_kept (Some why) g made new a r result e h = ap (λ (x : Generator). x.spills) h.1

built_kept :
    (fault : Option BuildFault) (op : BuildOp) (b : Build) (g new : Generator) (a : Arena) (r : Rows)
    (result : Result ℕ BadService) → Kept (services.built fault op b g) g new a r result
built_kept None op b g new a r result h = ap (λ (x : Generator). x.spills) h.1
built_kept (Some fault) op b g new a r result h = ap (λ (x : Generator). x.spills) h.1

emitted_kept :
    (b : Option Build) (op : Option BuildOp) (g new : Generator) (a : Arena) (r : Rows) (result : Result ℕ BadService) →
    Kept (services.emit_in b op g) g new a r result
emitted_kept None op g new a r result h = ap (λ (x : Generator). x.spills) h.1
emitted_kept (Some b) None g new a r result h = ap (λ (x : Generator). x.spills) h.1
emitted_kept (Some b) (Some op) g new a r result h = built_kept (fault_of op b) op b g new a r result h

pub begin_few :
    (first : ℕ) (g new : Generator) (a : Arena) (r : Rows) (result : Result ℕ BadService) →
    ((a : Arena) (r : Rows) → Did (services.begin first g) g new a a r r result) →
    new.spills ≤ g.spills + MOST_REGISTERS
begin_few first g new a r result h =
    let e = unless_kept (services.begin_refusal first g) g (services.begun first g) new a r result refl (h a r) in
    omega (arith, e)

pub emit_few :
    (first second third : ℕ) (g new : Generator) (a : Arena) (r : Rows) (result : Result ℕ BadService) →
    ((a : Arena) (r : Rows) → Did (services.emit first second third g) g new a a r r result) →
    new.spills ≤ g.spills + MOST_REGISTERS
emit_few first second third g new a r result h =
    let e = emitted_kept g.build (op_of first second third) g new a r result (h a r) in
    omega (arith, e)
