-- Captured numbers: the routines check them as the meaning does.
use Rattle.std.proofs.Common.{◌≡◌, inl, inr, ℕ, zero, suc, Bool, false, if◌then◌else◌, List, Some}
use Rattle.std.proofs.Common.{None, refl, sym, ap, ◌∙◌}
use Rattle.host_edge.specs.declared.ending.TrapKind.TheVariants.{BadSpec}
use Rattle.typed_tree.specs.declared.expression.CaptureKind.{CaptureKind}
use Rattle.typed_tree.specs.declared.expression.CaptureKind.TheVariants as kind
use Rattle.typed_tree.specs.declared.expression.Answer.TheVariants as answer
use Rattle.meaning_state.specs.Shared.{Specification, Expression, Statement, Local, Param}
use Rattle.meaning_state.specs.Rows.{numbered}
use Rattle.staged_meaning.specs.Specifications.{fits}
use Rattle.icode_templates_proof.specs.Closures.{Head, Closure}
use Rattle.icode_templates_proof.specs.Routines.{Named, AnExpression, AStatement, AVariable}
use Rattle.icode_templates_proof.specs.RoutineLaws.{is_named, named_trap}
use Rattle.closures_proof.specs.Relation.{Text, StandsFor, AllStandFor}
use Rattle.closures_proof.specs.Laws.{named_by}
use Rattle.closures_proof.proofs.Lookups.{members}

-- the capture that is checked as it is named
abbrev pub kind_named : Named → CaptureKind
kind_named AnExpression = kind.Splice answer.Value
kind_named AStatement = kind.Splice answer.Void
kind_named AVariable = kind.Variable

pub is_kind_named : (k : CaptureKind) (named : Named) → named_by k ≡ Some named → k ≡ kind_named named
is_kind_named kind.Dollar named e = let z : ⊥ = cc in absurd z
is_kind_named kind.Address named e = let z : ⊥ = cc in absurd z
is_kind_named (kind.Splice answer.Value) named e =
    let same : AnExpression ≡ named = cc in ap kind_named same
is_kind_named (kind.Splice answer.Void) named e =
    let same : AStatement ≡ named = cc in ap kind_named same
is_kind_named kind.Variable named e =
    let same : AVariable ≡ named = cc in ap kind_named same

-- the kind of a closure that stands for a specification
pub kind_fits : (text : Text) (rows : List Specification) (n : ℕ) (named : Named) (s : Specification) (k : Closure) →
    StandsFor text rows n s k → is_named named k.head.kind ≡ fits (kind_named named) (Some s)
kind_fits text rows n AnExpression (Expression syntax) k h = ap (λ (x : Head). is_named AnExpression x.kind) h.head
kind_fits text rows n AStatement (Expression syntax) k h = ap (λ (x : Head). is_named AStatement x.kind) h.head
kind_fits text rows n AVariable (Expression syntax) k h = ap (λ (x : Head). is_named AVariable x.kind) h.head
kind_fits text rows n AnExpression (Statement syntax) k h = ap (λ (x : Head). is_named AnExpression x.kind) h.head
kind_fits text rows n AStatement (Statement syntax) k h = ap (λ (x : Head). is_named AStatement x.kind) h.head
kind_fits text rows n AVariable (Statement syntax) k h = ap (λ (x : Head). is_named AVariable x.kind) h.head
kind_fits text rows n AnExpression Local k h = ap (λ (x : Closure). is_named AnExpression x.head.kind) h
kind_fits text rows n AStatement Local k h = ap (λ (x : Closure). is_named AStatement x.head.kind) h
kind_fits text rows n AVariable Local k h = ap (λ (x : Closure). is_named AVariable x.head.kind) h
kind_fits text rows n AnExpression (Param index) k h = ap (λ (x : Closure). is_named AnExpression x.head.kind) h.1
kind_fits text rows n AStatement (Param index) k h = ap (λ (x : Closure). is_named AStatement x.head.kind) h.1
kind_fits text rows n AVariable (Param index) k h = ap (λ (x : Closure). is_named AVariable x.head.kind) h.1

-- no specification fits where none is there
pub nothing_fits : (named : Named) → fits (kind_named named) None ≡ false
nothing_fits AnExpression = refl
nothing_fits AStatement = refl
nothing_fits AVariable = refl

agree : (text : Text) (rows : List Specification) (ks : List Closure) (named : Named) (x : ℕ) →
    AllStandFor text rows ks →
    named_trap named (numbered x ks) ≡ (if fits (kind_named named) (numbered x rows) then None else Some BadSpec)
agree text rows ks named zero all =
    ap (λ (b : Bool). if b then None else Some BadSpec) (sym (nothing_fits named))
agree text rows ks named (suc n) all = elim (members rows ks n all.count) [
  | inl m ↦ (ap (named_trap named) m.right_is
      ∙ ap (λ (b : Bool). if b then None else Some BadSpec)
      (kind_fits text rows (suc n) named m.left m.right (all.each n m.left m.right m.left_is m.right_is))
      ∙ ap (λ o. if fits (kind_named named) o then None else Some BadSpec) (sym m.left_is))
  | inr none ↦ (ap (named_trap named) none.1
      ∙ ap (λ (b : Bool). if b then None else Some BadSpec) (sym (nothing_fits named))
      ∙ ap (λ o. if fits (kind_named named) o then None else Some BadSpec) (sym none.0))
]

pub checks_agree : (text : Text) (rows : List Specification) (ks : List Closure) (k : CaptureKind) (named : Named)
    (x : ℕ) → AllStandFor text rows ks → named_by k ≡ Some named →
    named_trap named (numbered x ks) ≡ (if fits k (numbered x rows) then None else Some BadSpec)
checks_agree text rows ks k named x all e =
    agree text rows ks named x all
    ∙ ap (λ c. if fits c (numbered x rows) then None else Some BadSpec) (sym (is_kind_named k named e))
