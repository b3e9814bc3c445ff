use Rattle.std.proofs.Common.{ap, ◌∙◌, sym, ◌++◌, ◌∷◌, [], subst}
use Rattle.check_rules.specs.Members.{HasAll}
use Rattle.check_rules.proofs.Members.{has_one_more}
use Rattle.check_rules.proofs.labels.Values.add.Goals as goal

-- src/labels.rt:57:13
pub invariant_of-self-then-is_new : goal.invariant_of-self-then-is_new
invariant_of-self-then-is_new c =
    subst (HasAll _) (sym (c.push_in_room.ensures.items ∙ ap (λ xs. xs ++ c.args.value ∷ []) c.reserve.ensures.items))
    (has_one_more _ _ _ c.args.value c.self.invariant c.in_ok-is_new.ensures.updates.0)
