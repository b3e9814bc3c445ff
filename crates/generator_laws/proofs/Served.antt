-- The services do what is said of calls.
use Rattle.std.proofs.Common.{◌≡◌, ℕ, ◌≤◌, true, List, length, refl, sym, ap, ◌∙◌, subst, nat_le}
use Rattle.std.proofs.lemmas.Bool.{le-leb}
use Rattle.mips_model.specs.Choices.{Choice}
use Rattle.mips_model.specs.CodeServices.{Generator, Does}
use Rattle.mips_model.specs.CodeServices.{words_of, finished_with}
use Rattle.mips_model.specs.CodeServices.{service}
use Rattle.generator_laws.specs.Calls.{Call, Begin, Emit, Finish, Flush, Publish, IsCalled, answer_to, arena_behind}
use Rattle.generator_laws.specs.Calls.{rows_behind}
use Rattle.generator_laws.specs.Served.{Obeys}

pub served : (choice : Choice) (call : Call) (number first second third : ℕ) (g after : Generator) →
    IsCalled call number first second third → Obeys choice call g after →
    service choice number first second third g ≡ Does (answer_to call) after (arena_behind call) (rows_behind call)
served choice (Begin parameters) number first second third g after is does =
    ap (λ n. service choice n first second third g) is.0
    ∙ ap (λ n. service choice 64 n second third g) is.1
    ∙ (let none = does.0 in rw none refl)
    ∙ ap (λ x. Does 0 x (λ a. a) (λ r. r)) (sym does.1)
served choice (Emit op) number first second third g after is does =
    let there = does.0.there in
    let code = is.1 in
    let fine = does.1 in
    ap (λ n. service choice n first second third g) is.0
    ∙ (rw (there, code, fine) refl)
    ∙ ap (λ x. Does 0 x (λ a. a) (λ r. r)) (sym does.2)
served choice (Finish address most frame words) number first second third g after is does =
    let there = does.0.there in
    let none = does.1 in
    let made = words_of does.0.builder choice address frame in
    let words_are : words ≡ made = does.2 in
    let few : length made ≤ most = subst (λ (ws : List ℕ). length ws ≤ most) words_are does.3 in
    let fits : nat_le (length made) most ≡ true = le-leb (length made) most few in
    ap (λ n. service choice n first second third g) is.0
    ∙ ap (λ n. service choice 66 n second third g) is.1
    ∙ ap (λ n. service choice 66 address n third g) is.2
    ∙ ap (λ n. service choice 66 address most n g) is.3
    ∙ (rw (there, none, fits) refl)
    ∙ ap (λ ws. Does (length ws) (finished_with choice g) (arena_behind (Finish address most frame ws)) (λ r. r))
    (sym words_are)
    ∙ ap (λ x. Does (length words) x (arena_behind (Finish address most frame words)) (λ r. r)) (sym does.4)
served choice (Flush address count) number first second third g after is does =
    let fits = does.0 in
    ap (λ n. service choice n first second third g) is.0
    ∙ ap (λ n. service choice 67 n second third g) is.1
    ∙ ap (λ n. service choice 67 address n third g) is.2
    ∙ (rw fits refl)
    ∙ ap (λ x. Does 0 x (arena_behind (Flush address count)) (λ r. r)) (sym does.1)
served choice (Publish row address count) number first second third g after is does =
    let fits = does.0 in
    ap (λ n. service choice n first second third g) is.0
    ∙ ap (λ n. service choice 68 n second third g) is.1
    ∙ ap (λ n. service choice 68 row n third g) is.2
    ∙ ap (λ n. service choice 68 row address n g) is.3
    ∙ (rw fits refl)
    ∙ ap (λ x. Does 0 x (λ a. a) (rows_behind (Publish row address count))) (sym does.1)
