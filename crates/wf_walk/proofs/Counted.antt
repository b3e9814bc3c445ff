-- The steps of a declarator have no length that an initializer counts.
use Rattle.std.proofs.Common.{◌≡◌, ℕ, Bool, true, false, List, [], ◌∷◌, ◌++◌, refl, Option, Some, None, if◌then◌else◌}
use Rattle.check_declarators.specs.declared.steps.Length.TheVariants as len
use Rattle.check_declarators.specs.declared.steps.Step.{Step}
use Rattle.check_declarators.specs.declared.steps.Step.TheVariants as step
use Rattle.check_declarators.specs.Steps.{prefixed}
use Rattle.tick_tree.specs.declared.base.Prefix.{Prefix}
use Rattle.check_types.specs.Shapes.{is_void}
use Rattle.check_operands.specs.declared.operand.Operand.{Operand}
use Rattle.check_operands.specs.Operands.{effect}
use Rattle.meaning_operators.specs.Constants.{constant}
use Rattle.check_rules.specs.Declarations.{length_by, length_of}
use Rattle.wellformed.proofs.Bools.{both_false, first_false, second_false}
use Rattle.wf_walk.specs.Good.{is_counted_step, any_counted}

pub counted_append : (ss ts : List Step) → any_counted ss ≡ false → any_counted ts ≡ false →
    any_counted (ss ++ ts) ≡ false
counted_append [] ts h k = k
counted_append (s ∷ ss) ts h k =
    both_false (is_counted_step s) (any_counted (ss ++ ts)) (first_false (is_counted_step s) (any_counted ss) h)
    (counted_append ss ts (second_false (is_counted_step s) (any_counted ss) h) k)

pub counted_prefixed : (ps : List Prefix) (ss : List Step) → any_counted ss ≡ false →
    any_counted (prefixed ps ss) ≡ false
counted_prefixed [] ss h = h
counted_prefixed (p ∷ ps) ss h = counted_append (prefixed ps ss) (step.Prefix p ∷ []) (counted_prefixed ps ss h) refl

-- the length that an expression gives is constant, or none
constant_by : (n : Option ℕ) → is_counted_step (step.Array (length_by n)) ≡ false
constant_by None = refl
constant_by (Some n) = refl

computed_by : (void : Bool) → is_counted_step (step.Array (if void then len.Void else len.Computed)) ≡ false
computed_by true = refl
computed_by false = refl

pub not_counted : (form : Bool) (o : Operand) → is_counted_step (step.Array (length_of form o)) ≡ false
unfolding length_of
not_counted true o = constant_by (constant (effect o))
not_counted false o = computed_by (is_void o.ctype)
