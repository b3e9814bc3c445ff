use Rattle.std.proofs.Common.{◌≡◌, ◌<◌, ◌+◌, ◌-◌, ℕ, true, false, Ok, sym, ap, subst, ◌∙◌, arith}
use Rattle.std.proofs.lemmas.Bool.Decides.{nat_tests}
use Rattle.mips_model.specs.Steps.{word_at}
use Rattle.mips_core.specs.declared.halt.Went.{Went}
use Rattle.mips_core.specs.Core.{Follows, Leaves, behind, state_of}
use Rattle.mips_core.proofs.Fetched.{from_words}
use Rattle.mips_core.proofs.Stepped.{past_load, past_slot}
use Rattle.mips_core.proofs.rest.Rest.follow.Goals as goal

pub returns-in-Some-eq0-clause-goes : goal.returns-in-Some-eq0-clause-goes
returns-in-Some-eq0-clause-goes c =
    let k = c.args.self.now in
    let pc = c.args.at.now.pc in
    let went = c.in-Slot.is in
    let code = (state_of k).code in
    let leaves = subst (λ (r : Went). Leaves false r pc k) went c.requires.leaves in
    let place = c.go_straight-in-Slot.ensures.pc in
    let some = c.in-Some-eq0.ensures.some in
    let left = c.go_straight-in-Slot.ensures.left in
    let test = c.in-Some-eq0.field-0-test in
    let zero : c.in-Some-eq0.field-0 ≡ 0 = grind (arith, nat_tests, test) in
    let here : word_at code c.go_straight-in-Slot.new.self.pc ≡ Ok c.in-Some-eq0.field-0 =
    sym (from_words code c.args.text.now c.go_straight-in-Slot.new.self.pc c.in-Some-eq0.field-0 c.requires.text
    c.in-Some-eq0.ensures.word c.in-Some-eq0.ensures.below) in
    let nop : word_at code (pc + 4) ≡ Ok 0 =
    ap (word_at code) (sym place) ∙ here ∙ ap Ok zero in
    subst (λ (r : Went).
    Follows (behind r pc k) (c.args.at.now.left - 1) true c.go_to.new.self.pc c.go_to.new.self.left k) (sym went)
    (past_slot pc k leaves.0 leaves.1.1 nop (subst (λ (n : ℕ). 0 < n) left some)
    (c.go_to.ensures.left ∙ ap (λ (n : ℕ). n - 1) left) c.go_to.ensures.pc)

pub returns-in-Some-eq0-word-clause-goes : goal.returns-in-Some-eq0-word-clause-goes
returns-in-Some-eq0-word-clause-goes c =
    let k = c.args.self.now in
    let pc = c.args.at.now.pc in
    let went = c.in-Loaded.is in
    let code = (state_of k).code in
    let leaves = subst (λ (r : Went). Leaves false r pc k) went c.requires.leaves in
    let place = c.go_straight-in-Loaded.ensures.pc in
    let some = c.in-Some-eq0-word.ensures.some in
    let left = c.go_straight-in-Loaded.ensures.left in
    let test = c.in-Some-eq0-word.field-0-test in
    let zero : c.in-Some-eq0-word.field-0 ≡ 0 = grind (arith, nat_tests, test) in
    let here : word_at code c.go_straight-in-Loaded.new.self.pc ≡ Ok c.in-Some-eq0-word.field-0 =
    sym (from_words code c.args.text.now c.go_straight-in-Loaded.new.self.pc c.in-Some-eq0-word.field-0 c.requires.text
    c.in-Some-eq0-word.ensures.word c.in-Some-eq0-word.ensures.below) in
    let nop : word_at code (pc + 4) ≡ Ok 0 =
    ap (word_at code) (sym place) ∙ here ∙ ap Ok zero in
    let e = c.go_straight-in-Some-eq0-word.ensures in
    subst (λ (r : Went).
    Follows (behind r pc k) (c.args.at.now.left - 1) true c.go_straight-in-Some-eq0-word.new.self.pc
    c.go_straight-in-Some-eq0-word.new.self.left k) (sym went)
    (past_load pc c.in-Loaded.r k leaves.0 leaves.1.1.0 nop (subst (λ (n : ℕ). 0 < n) left some)
    (e.left ∙ ap (λ (n : ℕ). n - 1) left) (e.pc ∙ ap (λ (n : ℕ). n + 4) place))
