-- A run that calls services which obey is the machine's own run.
use Rattle.std.proofs.Common.{◌≡◌, ℕ, ◌+◌, ◌≤◌, true, false, List, [], ◌∷◌, ◌++◌, length, Some}
use Rattle.std.proofs.Common.{refl, sym, ap, ◌∙◌, subst, arith, nat_le, append_assoc, append-nil}
use Rattle.std.proofs.lemmas.Bool.{le-leb}
use Rattle.icode_ir.specs.Build.{Build}
use Rattle.icode_ir.specs.Rules.{effect as built_effect}
use Rattle.icode_ir.specs.declared.build_op.BuildOp.{BuildOp}
use Rattle.mips_model.specs.CodeServices as services
use Rattle.mips_model.specs.CodeServices.{words_of}
use Rattle.mips_assembly.specs.Assembly.{syscall}
use Rattle.mips_model.specs.State.{Outside, Code, Data, State, World, register}
use Rattle.mips_model.specs.Services.{service_of, serve, makes, writes, generator_of, next_choice, begun_with}
use Rattle.mips_model.specs.Services.{spent, flushed_once, published_once}
use Rattle.mips_model.specs.Steps.{going, apply, load_hazard, is_hazard}
use Rattle.mips_model.specs.Laws.{Reaches, at}
use Rattle.mips_model.proofs.Reach.{reaches_on, step_acts}
use Rattle.generator_laws.specs.Calls.{Call, Begin, Emit, Finish, Flush, Publish, Asks, outside_behind}
use Rattle.generator_laws.specs.Calls.{behind_call, IsCalled, IsRun, issuing}
use Rattle.generator_laws.specs.Served.{IsObeyed, AreObeyed, outside_after, Makes, RunsAreMade}
use Rattle.generator_laws.specs.Laws.{AreTaken, built_of}

-- ---- one call

-- what the SYSCALL does there
abbrev done : ℕ → Code → (a l : ℕ) → Data → World
done number c a l d = apply (serve (service_of number) d) 0 (at c a l d)

call_does : (call : Call) (c : Code) (a l : ℕ) (d : Data) →
    IsCalled call (register 2 d) (register 4 d) (register 5 d) (register 6 d) → IsObeyed call d.outside →
    done (register 2 d) c a l d ≡ going (behind_call call c a d)
call_does (Begin parameters) c a l d is does =
    let none = does.0 in
    ap (λ n. done n c a l d) is.0
    ∙ ap (λ n. apply (makes (services.begin n (generator_of d)) (begun_with n) d) 0 (at c a l d)) is.1
    ∙ (rw none refl)
call_does (Emit op) c a l d is does =
    let there = does.0.there in
    let code = is.1 in
    let fine = does.1 in
    ap (λ n. done n c a l d) is.0 ∙ (rw (there, code, fine) refl)
call_does (Finish address most frame words) c a l d is does =
    let there = does.0.there in
    let none = does.1 in
    let made = words_of does.0.builder (next_choice d.outside.making.row) address frame in
    let words_are : words ≡ made = does.2 in
    let few : length made ≤ most = subst (λ (ws : List ℕ). length ws ≤ most) words_are does.3 in
    let fits : nat_le (length made) most ≡ true = le-leb (length made) most few in
    ap (λ n. done n c a l d) is.0
    ∙ ap (λ n. apply (writes (services.finish (next_choice d.outside.making.row) n (register 5 d) (register 6 d)
    (generator_of d)) (spent n) d) 0 (at c a l d)) is.1
    ∙ ap (λ n. apply (writes (services.finish (next_choice d.outside.making.row) address n (register 6 d)
    (generator_of d)) (spent address) d) 0 (at c a l d)) is.2
    ∙ ap (λ n. apply (writes (services.finish (next_choice d.outside.making.row) address most n (generator_of d))
    (spent address) d) 0 (at c a l d)) is.3
    ∙ (rw (there, none, fits) refl)
    ∙ ap (λ ws. going (behind_call (Finish address most frame ws) c a d)) (sym words_are)
call_does (Flush address count) c a l d is does =
    let fits = does.0 in
    ap (λ n. done n c a l d) is.0
    ∙ ap (λ n. apply (writes (services.flush n (register 5 d) (generator_of d)) flushed_once d) 0 (at c a l d)) is.1
    ∙ ap (λ n. apply (writes (services.flush address n (generator_of d)) flushed_once d) 0 (at c a l d)) is.2
    ∙ (rw fits refl)
call_does (Publish row address count) c a l d is does =
    let fits = does.0 in
    ap (λ n. done n c a l d) is.0
    ∙ ap (λ n. apply (makes (services.publish n (register 5 d) (register 6 d) (generator_of d)) published_once d) 0
    (at c a l d)) is.1
    ∙ ap (λ n. apply (makes (services.publish row n (register 6 d) (generator_of d)) published_once d) 0 (at c a l d))
    is.2
    ∙ ap (λ n. apply (makes (services.publish row address n (generator_of d)) published_once d) 0 (at c a l d)) is.3
    ∙ (rw fits refl)

pub no_hazard : (l : ℕ) (c : Code) (a : ℕ) (d : Data) → load_hazard l syscall ≡ false →
    is_hazard syscall (at c a l d) ≡ false
no_hazard l c a d quiet = rw quiet refl

pub call_made : (call : Call) (c : Code) (a l : ℕ) (d : Data) → Asks call c a l d → IsObeyed call d.outside →
    Reaches 1 (at c a l d) (behind_call call c a d)
call_made call c a l d asks obeyed = record {
  by = step_acts syscall (at c a l d) asks.stands (no_hazard l c a d asks.quiet)
      ∙ call_does call c a l d asks.called obeyed;
}

-- ---- all of them

is_made : (calls : List Call) (count : ℕ) (s after : State) → IsRun calls count s after → AreObeyed calls s.d.outside →
    Makes calls count s after
is_made [] count s after run obeyed = record { reaches = run.by; passed = run.kept }
is_made (call ∷ calls) count s after run obeyed =
    let here : IsObeyed call run.found.outside = subst (λ o. IsObeyed call o) (sym run.comes.kept) obeyed.0 in
    let next : AreObeyed calls (outside_behind call run.found.outside) =
    subst (λ o. AreObeyed calls (outside_behind call o)) (sym run.comes.kept) obeyed.1 in
    let rest = is_made calls run.left (behind_call call run.code run.place run.found) after run.goes_on next in
    let all : run.before + (1 + run.left) ≡ count = omega (arith, run.counted) in
    record {
      reaches = subst (λ n. Reaches n s after) all
          (reaches_on run.comes.by
          (reaches_on (call_made call run.code run.place run.loaded run.found run.asks here) rest.reaches));
      passed = rest.passed ∙ ap (λ o. outside_after calls (outside_behind call o)) run.comes.kept;
    }

pub runs_made : RunsAreMade
runs_made calls count s after run obeyed = is_made calls count s after run.by obeyed

-- ---- ops

pub ops_obeyed : (ops : List BuildOp) (o : Outside) (b : Build) → o.making.generator.build ≡ Some b → AreTaken ops b →
    AreObeyed (issuing ops) o
ops_obeyed [] o b there taken = tt
ops_obeyed (op ∷ ops) o b there taken = (
  (record { builder = b; there = there }, taken.0, rw there refl),
  ops_obeyed ops (outside_behind (Emit op) o) (built_effect op b) (rw there refl) taken.1,
)

pub ops_built : (ops : List BuildOp) (o : Outside) (b : Build) → o.making.generator.build ≡ Some b →
    (outside_after (issuing ops) o).making.generator.build ≡ Some (built_of ops b)
ops_built [] o b there = there
ops_built (op ∷ ops) o b there = ops_built ops (outside_behind (Emit op) o) (built_effect op b) (rw there refl)

pub ops_issued : (ops : List BuildOp) (o : Outside) → (outside_after (issuing ops) o).making.issued
    ≡ record o.making.issued { ops = o.making.issued.ops ++ ops }
ops_issued [] o = ap (λ xs. record o.making.issued { ops = xs }) (sym (append-nil o.making.issued.ops))
ops_issued (op ∷ ops) o =
    ops_issued ops (outside_behind (Emit op) o)
    ∙ ap (λ xs. record o.making.issued { ops = xs }) (append_assoc o.making.issued.ops (op ∷ []) ops)

pub ops_counted : (ops : List BuildOp) (o : Outside) →
    (outside_after (issuing ops) o).making.ops ≡ o.making.ops + length ops
ops_counted [] o = omega arith
ops_counted (op ∷ ops) o = let rest = ops_counted ops (outside_behind (Emit op) o) in omega (arith, rest)
