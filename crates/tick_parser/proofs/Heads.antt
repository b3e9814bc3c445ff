-- A declarator whose name is followed at once by a `(` has a suffix at its name.
use Rattle.std.proofs.Common.{◌≡◌, ℕ, Bool, refl, ap, sym, ◌∙◌, List, [], ◌∷◌}
use Rattle.std.specs.Prelude.{Result, Ok, Err, not, if◌then◌else◌}
use Rattle.tick_tree.specs.Named.{is_nil}
use Rattle.tick_tree.specs.declared.base.Prefix.{Prefix}
use Rattle.tick_tree.specs.declared.syntax.Core.{Core}
use Rattle.tick_tree.specs.declared.syntax.Core.TheVariants as core_of
use Rattle.tick_tree.specs.declared.syntax.Core.TheOpen.{Core-F}
use Rattle.tick_tree.specs.declared.syntax.Core.TheFolds.{fold-roll-Core, fold-roll-Declarator}
use Rattle.tick_tree.specs.declared.syntax.Declarator.{Declarator, roll-Declarator}
use Rattle.tick_tree.specs.declared.syntax.Suffix.{Suffix}
use Rattle.tick_tree.specs.Named.{is_listed, is_listed_core, core_rule, declarator_rule, nothing}

-- ---- the fold, a node at a time

pub listed_name : (n : ℕ) (text : List ℕ) (b : Bool) → is_listed_core (core_of.Name n text) b ≡ b
unfolding is_listed_core is_listed
listed_name n text b = ap (λ f. is_listed_core f b) (sym (core_of.rolls-Name n text)) ∙
    ap (λ f. f b) (fold-roll-Core (Bool → Bool) (Unit {0}) (Unit {0}) (Unit {0}) (Unit {0}) (Unit {0}) (Unit {0}) Bool
    (Unit {0}) (Unit {0}) (Unit {0}) core_rule nothing nothing nothing nothing nothing nothing declarator_rule nothing
    nothing nothing (Core-F.Core::Name n text))

pub listed_paren : (d : Declarator) (b : Bool) → is_listed_core (core_of.Paren d) b ≡ is_listed d
unfolding is_listed_core is_listed
listed_paren d b = ap (λ f. is_listed_core f b) (sym (core_of.rolls-Paren d)) ∙
    ap (λ f. f b) (fold-roll-Core (Bool → Bool) (Unit {0}) (Unit {0}) (Unit {0}) (Unit {0}) (Unit {0}) (Unit {0}) Bool
    (Unit {0}) (Unit {0}) (Unit {0}) core_rule nothing nothing nothing nothing nothing nothing declarator_rule nothing
    nothing nothing (Core-F.Core::Paren d))

nil_map : {A B : Type 0} (f : A → B) (xs : List A) → is_nil (Rattle.std.specs.Prelude.map f xs) ≡ is_nil xs
nil_map f [] = refl
nil_map f (x ∷ xs) = refl

pub listed_declarator : (ps : List Prefix) (c : Core) (ss : List Suffix) →
    is_listed (roll-Declarator (record { prefixes = ps; core = c; suffixes = ss })) ≡ is_listed_core c (not (is_nil ss))
unfolding is_listed_core is_listed
listed_declarator ps c ss =
    fold-roll-Declarator (Bool → Bool) (Unit {0}) (Unit {0}) (Unit {0}) (Unit {0}) (Unit {0}) (Unit {0}) Bool (Unit {0})
    (Unit {0}) (Unit {0}) core_rule nothing nothing nothing nothing nothing nothing declarator_rule nothing nothing
    nothing (record { prefixes = ps; core = c; suffixes = ss })
    ∙ ap (λ n. is_listed_core c (not n)) (nil_map _ ss)
