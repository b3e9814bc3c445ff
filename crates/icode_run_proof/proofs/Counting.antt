-- What a captured number that fits counts for: its closure has the size and the parameters of its specification.
use Rattle.std.proofs.Common.{◌≡◌, inl, inr, ℕ, zero, suc, ◌<◌, ◌≤◌, max, Bool, true, false, if◌then◌else◌, List}
use Rattle.std.proofs.Common.{Option, Some, None, refl, sym, ap, ◌∙◌, arith, nat_lt}
use Rattle.std.proofs.lemmas.Bool.{cases_Bool}
use Rattle.std.proofs.lemmas.Bool.Decides.{nat_tests}
use Rattle.host_edge.specs.declared.ending.TrapKind.{TrapKind}
use Rattle.host_edge.specs.declared.ending.TrapKind.TheVariants.{BadSpec}
use Rattle.meaning_state.specs.Shared.{Specification, Expression, Statement, Local, Param}
use Rattle.meaning_state.specs.Rows.{numbered, key_parameters}
use Rattle.staged_meaning.specs.Specifications.{fits}
use Rattle.icode_templates_proof.specs.Closures.{Head, Closure}
use Rattle.icode_templates_proof.specs.Routines.{Named, AnExpression, AStatement, AVariable}
use Rattle.icode_templates_proof.specs.RoutineLaws.{is_named, named_trap, more_of}
use Rattle.closures_proof.specs.Relation.{Text, StandsFor, AllStandFor}
use Rattle.closures_proof.specs.Laws.{ChecksAgree, named_by}
use Rattle.icode_run_proof.specs.Steps.{kind_named, row_size, row_parameters}

pub more_is_max : (x y : ℕ) → more_of x y ≡ max x y
more_is_max x y = elim (cases_Bool (nat_lt x y)) [
  | inl t ↦ (let l : x < y = grind (arith, nat_tests, t) in rw t (omega (arith, l)))
  | inr t ↦ (let l : y ≤ x = grind (arith, nat_tests, t) in rw t (omega (arith, l)))
]

parameter_counts : (index : ℕ) → index < 8 → key_parameters index ≡ suc index
parameter_counts index l = let t : nat_lt index 8 ≡ true = grind (arith, nat_tests, l) in rw t refl

pub named_is : (named : Named) → named_by (kind_named named) ≡ Some named
named_is AnExpression = refl
named_is AStatement = refl
named_is AVariable = refl

nothing_fits : (named : Named) → fits (kind_named named) None ≡ false
nothing_fits AnExpression = refl
nothing_fits AStatement = refl
nothing_fits AVariable = refl

-- of a specification and of the closure that stands for it
counts : (text : Text) (rows : List Specification) (n : ℕ) (s : Specification) (k : Closure)
    → StandsFor text rows n s k
    → (k.head.size ≡ row_size text.program (Some s)) × (k.head.parameters ≡ row_parameters (Some s))
counts text rows n (Expression syntax) k h =
    (ap (λ (x : Head). x.size) h.head, ap (λ (x : Head). x.parameters) h.head)
counts text rows n (Statement syntax) k h =
    (ap (λ (x : Head). x.size) h.head, ap (λ (x : Head). x.parameters) h.head)
counts text rows n Local k h =
    (ap (λ (x : Closure). x.head.size) h, ap (λ (x : Closure). x.head.parameters) h)
counts text rows n (Param index) k h = (
  ap (λ (x : Closure). x.head.size) h.1,
  ap (λ (x : Closure). x.head.parameters) h.1 ∙ sym (parameter_counts index h.0),
)

-- the closure of a number that fits, and what it counts for
pub record Checked (text : Text) (rows : List Specification) (ks : List Closure) (named : Named) (x : ℕ) : Type 0 where
  pub closure : Closure
  pub is : numbered x ks ≡ Some closure
  pub kind : is_named named closure.head.kind ≡ true
  pub size : closure.head.size ≡ row_size text.program (numbered x rows)
  pub parameters : closure.head.parameters ≡ row_parameters (numbered x rows)

kind_is : (b : Bool) → (let t : Option TrapKind = if b then None else Some BadSpec in t) ≡ None → b ≡ true
kind_is true e = refl
kind_is false e = absurd cc

found : (named : Named) (o : Option Closure) → named_trap named o ≡ None
    → (k : Closure) × (o ≡ Some k) × (is_named named k.head.kind ≡ true)
found named None e = absurd cc
found named (Some k) e = (k, refl, kind_is (is_named named k.head.kind) e)

row_found : (named : Named) (o : Option Specification) → fits (kind_named named) o ≡ true
    → (r : Specification) × (o ≡ Some r)
row_found named None e = let z : false ≡ true = sym (nothing_fits named) ∙ e in absurd cc
row_found named (Some r) e = (r, refl)

stands_numbered : (text : Text) (rows : List Specification) (ks : List Closure) (x : ℕ) (r : Specification)
    (k : Closure) → AllStandFor text rows ks → numbered x rows ≡ Some r → numbered x ks ≡ Some k
    → StandsFor text rows x r k
stands_numbered text rows ks zero r k all e1 e2 = absurd cc
stands_numbered text rows ks (suc n) r k all e1 e2 = all.each n r k e1 e2

pub checked : ChecksAgree → (text : Text) (rows : List Specification) (ks : List Closure) (named : Named) (x : ℕ)
    → AllStandFor text rows ks → fits (kind_named named) (numbered x rows) ≡ true
    → Checked text rows ks named x
checked law text rows ks named x all e =
    let agree = law text rows ks (kind_named named) named x all (named_is named) in
    let none : named_trap named (numbered x ks) ≡ None =
    agree ∙ ap (λ (b : Bool). if b then None else Some BadSpec) e in
    let k = found named (numbered x ks) none in
    let r = row_found named (numbered x rows) e in
    let c = counts text rows x r.0 k.0 (stands_numbered text rows ks x r.0 k.0 all r.1 k.1) in
    record {
      closure = k.0;
      is = k.1;
      kind = k.2;
      size = c.0 ∙ ap (row_size text.program) (sym r.1);
      parameters = c.1 ∙ ap row_parameters (sym r.1);
    }
