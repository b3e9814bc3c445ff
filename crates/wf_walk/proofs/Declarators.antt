-- The rules of the walk over declarators, type names and parameters: of good parts they make good ones.
use Rattle.std.proofs.Common.{◌≡◌, ℕ, false, List, [], ◌∷◌, Ok, ap, sym}
use Rattle.c_types.specs.declared.ctype.CType.{CType}
use Rattle.check_declarators.specs.declared.steps.Role.TheVariants as role
use Rattle.check_declarators.specs.declared.steps.Step.{Step}
use Rattle.check_declarators.specs.Making.{declared_type}
use Rattle.check_declarators.specs.Words as words
use Rattle.tick_tree.specs.declared.syntax.Core.TheOpen.{Core-F}
use Rattle.check_rules.specs.declared.state.Stage.{Stage}
use Rattle.check_rules.specs.declared.state.State.{State}
use Rattle.check_rules.specs.Walks.{Rule, pure}
use Rattle.check_rules.specs.Declarations as declarations
use Rattle.check_rules.specs.Walk.{Start, Nothing, Value, Values, Core-W, Declarator-W, Suffix-W, Typename-W}
use Rattle.check_rules.specs.Walk.{Parameter-W, core_rule, declarator_rule, suffix_walk, suffix_of, SuffixWalk}
use Rattle.check_rules.specs.Walk.{TypeWalk}
use Rattle.check_rules.specs.Walk.{suffix_walks, type_walks, typename_rule, parameter_rule, with_start}
use Rattle.wf_walk.specs.Good.{Plain, any_computed, any_counted, GoodShape, GoodNamed, GoodParameter, GoodSuffix}
use Rattle.wf_walk.specs.Parts.{EachPart, GoodSuffixParts}
use Rattle.wf_walk.proofs.Lengths.{computed_filled, type_not_computed}
use Rattle.wf_walk.proofs.Plain.{plain_same}
use Rattle.wf_walk.proofs.Types.{suffix_good, declarator_good, typed_good, parameter_good}
use Rattle.wf_walk.proofs.Walks.{pure_same, pure_value}

-- ---- declarators

abbrev GoodCore : Core-W → Type 0
GoodCore Core-F.Core::Absent = Unit {0}
GoodCore (Core-F.Core::Name n text) = Unit {0}
GoodCore (Core-F.Core::Paren d) = GoodShape d

no_steps : (g : Stage) (s new : State) (xs : List Step) → pure [] s ≡ Ok (xs, new) →
    Plain g s new × (any_counted xs ≡ false)
no_steps g s new xs e =
    (plain_same g (pure_same [] xs s new e), ap any_counted (sym (pure_value [] xs s new e)))

pub good_core : (c : Core-W) → GoodCore c → GoodShape (core_rule c)
good_core Core-F.Core::Absent h g s new xs e k = no_steps g s new xs e
good_core (Core-F.Core::Name n text) h g s new xs e k = no_steps g s new xs e
good_core (Core-F.Core::Paren d) h g s new xs e k = h g s new xs e k

-- what is asked of the walks is asked of each
pub each_suffix : (P : (Stage → Rule State Step) → Type 0) (ss : List SuffixWalk) → EachPart (λ w. P w.walk) ss →
    EachPart P (suffix_walks ss)
each_suffix P [] h = tt
each_suffix P (s ∷ ss) h = (h.0, each_suffix P ss h.1)

pub each_parameter : (P : (Stage → Rule State CType) → Type 0) (ps : List TypeWalk) → EachPart (λ w. P w.walk) ps →
    EachPart P (type_walks ps)
each_parameter P [] h = tt
each_parameter P (p ∷ ps) h = (h.0, each_parameter P ps h.1)

pub good_declarator : (d : Declarator-W) → GoodShape d.core → EachPart (λ w. GoodSuffix w.walk) d.suffixes →
    GoodShape (declarator_rule d)
good_declarator d h k = declarator_good d.core (suffix_walks d.suffixes) d.prefixes h
    (each_suffix GoodSuffix d.suffixes k)

-- ---- type names and parameters

pub good_typename : (t : Typename-W) → GoodShape t.declarator → GoodNamed (typename_rule t)
good_typename t h line =
    typed_good t.declarator (declared_type role.Typename line (words.base_of t.base)) h
    (λ ss x e. type_not_computed role.Typename line (words.base_of t.base) ss x e)

pub good_parameter : (p : Parameter-W) → GoodShape p.declarator → GoodParameter (parameter_rule p).walk
good_parameter p h = parameter_good p.line (words.base_of p.base) p.declarator h

-- ---- suffixes

pub good_suffix : (many : List ℕ) (e : Suffix-W) → GoodSuffixParts many (suffix_of e) → GoodSuffix (suffix_walk e).walk
good_suffix many e h = suffix_good many (suffix_of e) h

-- ---- a declaration's initializer gives a length that is absent, and hides none that is computed

pub computed_start : (i : Start) (ss : List Step) → any_computed (with_start i ss) ≡ false → any_computed ss ≡ false
computed_start Nothing ss h = h
computed_start (Value e) ss h = computed_filled (declarations.value_count e.written.string) ss h
computed_start (Values es) ss h = computed_filled (declarations.list_count es) ss h
