-- What a variable at file scope leaves of the names, and its place.
use Rattle.std.proofs.Common.{◌≡◌, ℕ, Bool, true, false, not, ◌||◌, ◌⊎◌, inl, inr, sym, ◌∙◌, [], ◌∷◌, ◌++◌, Option}
use Rattle.std.proofs.Common.{Some, None, Ok}
use Rattle.c_types.specs.declared.ctype.CType.{CType}
use Rattle.check_scopes.specs.declared.names.Meaning.{Meaning}
use Rattle.check_scopes.specs.declared.names.MeaningKind.TheVariants as kind
use Rattle.check_scopes.specs.Scopes.{Name, Scope, in_scope, find}
use Rattle.c_types.specs.Types.{same}
use Rattle.c_type_refs.specs.Sizes.{limited_size}
use Rattle.check_rules.specs.Functions as functions
use Rattle.check_rules.specs.Images as images
use Rattle.check_rules.specs.declared.state.State.{State}
use Rattle.check_rules.specs.Locals.{meaning}
use Rattle.check_rules.specs.Names.{declare}
use Rattle.check_globals.specs.Names as names
use Rattle.wf_walk.proofs.Walks.{pure_same, pure_value}
use Rattle.wf_programs.proofs.Names.{split}
use Rattle.wf_programs.proofs.Scopes.{DeclaresFirst, declare_first}
use Rattle.wf_programs.proofs.Steps.{Parts, parts}

-- the meaning of the next variable
abbrev pub next_global : CType → State → Meaning
next_global t s = meaning kind.Global t (names.address (images.place s.image))

-- what the name of a variable leaves
pub record NamedVariable (name : Name) (t : CType) (s new : State) (at : ℕ) (sc : Scope) : Type 0 where
  pub is : new ≡ record s {
    scopes = (sc ++ (name, next_global t s) ∷ []) ∷ [];
    image =
        images.with_global (names.size_by (limited_size t)) s.image;
  }
  pub place : at ≡ images.place s.image
  pub fresh : in_scope sc name ≡ None

first_variable : (line : ℕ) (name : Name) (t : CType) (s new : State) (at : ℕ) (sc : Scope) → s.scopes ≡ sc ∷ []
    → names.first_variable line name t s ≡ Ok (at, new) → NamedVariable name t s new at sc
first_variable line name t s new at sc one is =
    let p : Parts (declare line name (next_global t s)) (λ u z. Ok (images.place s.image, z)) (names.with_global t s)
    new at
    = parts (declare line name (next_global t s)) (λ u z. Ok (images.place s.image, z)) (names.with_global t s) new at
    is in
    let d : DeclaresFirst name (next_global t s) (names.with_global t s) p.between sc
    = declare_first line name (next_global t s) (names.with_global t s) p.between p.answer sc one p.first in
    record {
      is = sym (pure_same (images.place s.image) at p.between new p.second) ∙ d.is;
      place = sym (pure_value (images.place s.image) at p.between new p.second);
      fresh = d.fresh;
    }

variable_some : (d : Bool) (line : ℕ) (name : Name) (t : CType) (s new : State) (at : ℕ) (sc : Scope) (m : Meaning)
    → ((not (names.is_function m.kind) || d) ≡ true) ⊎ ((not (names.is_function m.kind) || d) ≡ false) →
    (same m.ctype t ≡ true) ⊎ (same m.ctype t ≡ false)
    → names.variable_by (names.before_by d t (Some m)) line name t s ≡ Ok (at, new) → ⊥
variable_some d line name t s new at sc m (inl e) f is = let z = rw e at is in cc
variable_some d line name t s new at sc m (inr e) (inl f) is = let z = rw (e, f) at is in cc
variable_some d line name t s new at sc m (inr e) (inr f) is = let z = rw (e, f) at is in cc

variable_case : (o : Option Meaning) (line : ℕ) (name : Name) (t : CType) (s new : State) (at : ℕ) (sc : Scope) →
    s.scopes ≡ sc ∷ []
    → names.variable_by (names.before_by (functions.is_defined name s.functions) t o) line name t s ≡ Ok (at, new) →
    NamedVariable name t s new at sc
variable_case None line name t s new at sc one is = first_variable line name t s new at sc one is
variable_case (Some m) line name t s new at sc one is =
    absurd (variable_some (functions.is_defined name s.functions) line name t s new at sc m
    (split (not (names.is_function m.kind) || functions.is_defined name s.functions)) (split (same m.ctype t)) is)

pub variable_named : (line : ℕ) (name : Name) (t : CType) (s new : State) (at : ℕ) (sc : Scope) → s.scopes ≡ sc ∷ []
    → names.variable line name t s ≡ Ok (at, new) → NamedVariable name t s new at sc
unfolding names.variable
variable_named line name t s new at sc one is = variable_case (find s.scopes name) line name t s new at sc one is
