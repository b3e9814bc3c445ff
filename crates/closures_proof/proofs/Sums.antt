-- What is added up is the size and the parameters of the whole specification.
use Rattle.std.proofs.Common.{◌≡◌, inl, inr, ℕ, zero, suc, ◌+◌, ◌<◌, ◌≤◌, max, Bool, true, false, if◌then◌else◌, List}
use Rattle.std.proofs.Common.{[]}
use Rattle.std.proofs.Common.{◌∷◌, length, Option, Some, None, refl, sym, ap, ◌∙◌, arith, slice_get, nat_lt}
use Rattle.std.proofs.lemmas.Bool.{cases_Bool}
use Rattle.std.proofs.lemmas.Bool.Decides.{nat_tests}
use Rattle.host_edge.specs.declared.ending.TrapKind.{TrapKind}
use Rattle.host_edge.specs.declared.ending.TrapKind.TheVariants.{BadSpec}
use Rattle.history.specs.Syntax.{Ticked, Captures, NoCapture}
use Rattle.typed_tree.specs.declared.expression.CaptureKind.{CaptureKind}
use Rattle.typed_tree.specs.declared.expression.CaptureKind.TheVariants as kind
use Rattle.typed_tree.specs.declared.expression.Answer.TheVariants as answer
use Rattle.meaning_state.specs.Shared.{Specification, Expression, Statement, Local, Param}
use Rattle.meaning_state.specs.Rows.{numbered, parameters_of, parameters_in, key_parameters}
use Rattle.staged_meaning.specs.Program.{Program, tick_size, syntax_size, captures_size}
use Rattle.staged_meaning.specs.Specifications.{fits, captures_trap, capture, captures_of}
use Rattle.icode_templates_proof.specs.Closures.{Head, Closure}
use Rattle.icode_templates_proof.specs.Routines.{Named, AnExpression, AStatement, AVariable}
use Rattle.icode_templates_proof.specs.RoutineLaws.{more_of}
use Rattle.closures_proof.specs.Relation.{Text, StandsFor, AllStandFor}
use Rattle.closures_proof.specs.Laws.{Sums, named_by, plus, plus_named, summed}
use Rattle.closures_proof.proofs.Lookups.{members}
use Rattle.closures_proof.proofs.Checks.{kind_named, nothing_fits}

more_is_max : (x y : ℕ) → more_of x y ≡ max x y
more_is_max x y = elim (cases_Bool (nat_lt x y)) [
  | inl t ↦ (let l : x < y = grind (arith, nat_tests, t) in rw t (omega (arith, l)))
  | inr t ↦ (let l : y ≤ x = grind (arith, nat_tests, t) in rw t (omega (arith, l)))
]

abbrev sums_of : ℕ → ℕ → Sums
sums_of size parameters = record { size = size; parameters = parameters }

-- what one capture counts for
abbrev own_size : Program → CaptureKind → ℕ → Option Specification → ℕ
own_size program k x row = captures_size program (capture k x row NoCapture)

abbrev own_parameters : CaptureKind → ℕ → Option Specification → ℕ
own_parameters k x row = parameters_in (capture k x row NoCapture)

size_on : (program : Program) (k : CaptureKind) (x : ℕ) (row : Option Specification) (cs : Captures) →
    captures_size program (capture k x row cs) ≡ own_size program k x row + captures_size program cs
size_on program kind.Dollar x row cs = omega arith
size_on program kind.Address x row cs = omega arith
size_on program (kind.Splice a) x row cs = omega arith
size_on program kind.Variable x row cs = omega arith

parameters_on : (k : CaptureKind) (x : ℕ) (row : Option Specification) (cs : Captures) →
    parameters_in (capture k x row cs) ≡ max (own_parameters k x row) (parameters_in cs)
parameters_on kind.Dollar x row cs = omega arith
parameters_on kind.Address x row cs = omega arith
parameters_on (kind.Splice a) x row cs = omega arith
parameters_on kind.Variable x row cs = omega arith

-- what a closure has, and what the meaning counts for it
record Counts (program : Program) (k : CaptureKind) (x : ℕ) (s : Specification) (c : Closure) : Type 0 where
  size : c.head.size ≡ own_size program k x (Some s)
  parameters : c.head.parameters ≡ own_parameters k x (Some s)

local_counts : (n : ℕ) → key_parameters (7 + suc n) ≡ 0
local_counts n = let t : nat_lt (7 + suc n) 8 ≡ false = grind (arith, nat_tests) in rw t refl

parameter_counts : (index : ℕ) → index < 8 → key_parameters index ≡ suc index
parameter_counts index l = let t : nat_lt index 8 ≡ true = grind (arith, nat_tests, l) in rw t refl

counts : (text : Text) (rows : List Specification) (a : Named) (n : ℕ) (s : Specification) (c : Closure) →
    StandsFor text rows (suc n) s c → fits (kind_named a) (Some s) ≡ true →
    Counts text.program (kind_named a) (suc n) s c
counts text rows AnExpression n (Expression syntax) c h f = record {
  size = ap (λ (x : Head). x.size) h.head ∙ omega arith;
  parameters = ap (λ (x : Head). x.parameters) h.head ∙ omega arith;
}
counts text rows AnExpression n (Statement syntax) c h f = let z : ⊥ = cc in absurd z
counts text rows AnExpression n Local c h f = let z : ⊥ = cc in absurd z
counts text rows AnExpression n (Param index) c h f = let z : ⊥ = cc in absurd z
counts text rows AStatement n (Expression syntax) c h f = let z : ⊥ = cc in absurd z
counts text rows AStatement n (Statement syntax) c h f = record {
  size = ap (λ (x : Head). x.size) h.head ∙ omega arith;
  parameters = ap (λ (x : Head). x.parameters) h.head ∙ omega arith;
}
counts text rows AStatement n Local c h f = let z : ⊥ = cc in absurd z
counts text rows AStatement n (Param index) c h f = let z : ⊥ = cc in absurd z
counts text rows AVariable n (Expression syntax) c h f = let z : ⊥ = cc in absurd z
counts text rows AVariable n (Statement syntax) c h f = let z : ⊥ = cc in absurd z
counts text rows AVariable n Local c h f = record {
  size = ap (λ (x : Closure). x.head.size) h;
  parameters = ap (λ (x : Closure). x.head.parameters) h ∙ (let e = local_counts n in rw e (omega arith));
}
counts text rows AVariable n (Param index) c h f = record {
  size = ap (λ (x : Closure). x.head.size) h.1;
  parameters =
      ap (λ (x : Closure). x.head.parameters) h.1 ∙ (let e = parameter_counts index h.0 in rw e (omega arith));
}

same_sums : (a a' b b' : ℕ) → a ≡ a' → b ≡ b' → sums_of a b ≡ sums_of a' b'
same_sums a a' b b' p q = ap (λ x. sums_of x b) p ∙ ap (sums_of a') q

-- one captured number that fits is added
named_counted : (text : Text) (rows : List Specification) (ks : List Closure) (a : Named) (x size parameters : ℕ) →
    AllStandFor text rows ks → fits (kind_named a) (numbered x rows) ≡ true →
    plus (numbered x ks) (sums_of size parameters)
    ≡ sums_of (size + own_size text.program (kind_named a) x (numbered x rows))
    (max parameters (own_parameters (kind_named a) x (numbered x rows)))
named_counted text rows ks a zero size parameters all f =
    let none = nothing_fits a in let z : ⊥ = cc in absurd z
named_counted text rows ks a (suc n) size parameters all f = elim (members rows ks n all.count) [
  | inl m ↦ (let k = kind_named a in
      let c = counts text rows a n m.left m.right (all.each n m.left m.right m.left_is m.right_is)
      (sym (ap (fits k) m.left_is) ∙ f) in
      ap (λ o. plus o (sums_of size parameters)) m.right_is
      ∙ same_sums (size + m.right.head.size) (size + own_size text.program k (suc n) (Some m.left))
      (more_of parameters m.right.head.parameters) (max parameters (own_parameters k (suc n) (Some m.left)))
      (ap (λ i. size + i) c.size)
      (more_is_max parameters m.right.head.parameters ∙ ap (max parameters) c.parameters)
      ∙ ap (λ o. sums_of (size + own_size text.program k (suc n) o) (max parameters (own_parameters k (suc n) o)))
      (sym m.left_is))
  | inr none ↦ (let n0 = nothing_fits a in let at = ap (fits (kind_named a)) none.0 in let z : ⊥ = cc in absurd z)
]

counted : (text : Text) (rows : List Specification) (ks : List Closure) (k : CaptureKind) (x size parameters : ℕ) →
    AllStandFor text rows ks → fits k (numbered x rows) ≡ true →
    plus_named (named_by k) (numbered x ks) (sums_of size parameters)
    ≡ sums_of (size + own_size text.program k x (numbered x rows))
    (max parameters (own_parameters k x (numbered x rows)))
counted text rows ks kind.Dollar x size parameters all f =
    same_sums size (size + 0) parameters (max parameters 0) (omega arith) (omega arith)
counted text rows ks kind.Address x size parameters all f =
    same_sums size (size + 0) parameters (max parameters 0) (omega arith) (omega arith)
counted text rows ks (kind.Splice answer.Value) x size parameters all f =
    named_counted text rows ks AnExpression x size parameters all f
counted text rows ks (kind.Splice answer.Void) x size parameters all f =
    named_counted text rows ks AStatement x size parameters all f
counted text rows ks kind.Variable x size parameters all f =
    named_counted text rows ks AVariable x size parameters all f

-- the first captured number fits, and the others do
fits_first : (b : Bool) (rest : Option TrapKind) → (if b then rest else Some BadSpec) ≡ None →
    (b ≡ true) × (rest ≡ None)
fits_first true rest e = (refl, e)
fits_first false rest e = let z : ⊥ = cc in absurd z

all_counted : (text : Text) (rows : List Specification) (ks : List Closure) (kinds : List CaptureKind)
    (words : List ℕ) (size parameters : ℕ) → AllStandFor text rows ks → captures_trap rows kinds words ≡ None →
    length kinds ≡ length words →
    summed ks kinds words (sums_of size parameters)
    ≡ sums_of (size + captures_size text.program (captures_of rows kinds words))
    (max parameters (parameters_in (captures_of rows kinds words)))
all_counted text rows ks [] words size parameters all none same =
    same_sums size (size + 0) parameters (max parameters 0) (omega arith) (omega arith)
all_counted text rows ks (k ∷ kinds) [] size parameters all none same = let z : ⊥ = omega (arith, same) in absurd z
all_counted text rows ks (k ∷ kinds) (x ∷ words) size parameters all none same =
    let row = numbered x rows in
    let cs = captures_of rows kinds words in
    let f = fits_first (fits k row) (captures_trap rows kinds words) none in
    let more = size_on text.program k x row cs in
    let p = parameters_on k x row cs in
    ap (summed ks kinds words) (counted text rows ks k x size parameters all f.0)
    ∙ all_counted text rows ks kinds words (size + own_size text.program k x row)
    (max parameters (own_parameters k x row)) all f.1 (omega (arith, same))
    ∙ same_sums (size + own_size text.program k x row + captures_size text.program cs)
    (size + captures_size text.program (capture k x row cs))
    (max (max parameters (own_parameters k x row)) (parameters_in cs))
    (max parameters (parameters_in (capture k x row cs))) (omega (arith, more)) (omega (arith, p))

pub sums_exact : (text : Text) (rows : List Specification) (ks : List Closure) (tick : ℕ) (kinds : List CaptureKind)
    (words : List ℕ) → AllStandFor text rows ks → captures_trap rows kinds words ≡ None →
    length kinds ≡ length words →
    summed ks kinds words (sums_of (tick_size (slice_get text.program.ticks tick)) 0)
    ≡ sums_of (syntax_size text.program (Ticked tick (captures_of rows kinds words)))
    (parameters_of (Ticked tick (captures_of rows kinds words)))
sums_exact text rows ks tick kinds words all none same =
    let size = tick_size (slice_get text.program.ticks tick) in
    let cs = captures_of rows kinds words in
    all_counted text rows ks kinds words size 0 all none same
    ∙ ap (sums_of (size + captures_size text.program cs)) (omega arith)
