-- What a name at file scope leaves: of a function, of a prototype, of a variable.
use Rattle.std.proofs.Common.{◌≡◌, ℕ, Bool, true, false, not, ◌||◌, refl, ap, sym, ◌∙◌, [], ◌∷◌, ◌++◌, length, Option}
use Rattle.std.proofs.Common.{Some, None, Ok, Err, ◌⊎◌, inl, inr}
use Rattle.c_types.specs.declared.ctype.CType.{CType}
use Rattle.check_scopes.specs.declared.names.Meaning.{Meaning}
use Rattle.check_scopes.specs.declared.names.MeaningKind.TheVariants as kind
use Rattle.check_scopes.specs.Scopes.{Name, Scope, Scopes, in_scope, find}
use Rattle.c_types.specs.Types.{same}
use Rattle.tick_tree.specs.Faults.{Checked}
use Rattle.check_rules.specs.declared.functions.Functions.{Functions}
use Rattle.check_rules.specs.Functions as functions
use Rattle.check_rules.specs.declared.state.State.{State}
use Rattle.check_rules.specs.Locals.{meaning}
use Rattle.check_rules.specs.Names.{declare}
use Rattle.check_globals.specs.Functions as globals
use Rattle.check_globals.specs.Names as names
use Rattle.wf_walk.specs.Known.{EachEntry}
use Rattle.wf_walk.proofs.Walks.{pure_same}
use Rattle.wf_programs.proofs.Scopes.{found_front, found_new, each_more, AllFound, all_found_more, DeclaresFirst}
use Rattle.wf_programs.proofs.Scopes.{declare_first}
use Rattle.wf_programs.proofs.Steps.{Parts, parts}
use Rattle.wf_programs.proofs.Tables.{with_name, define_gives}

-- ---- a function is defined

pub record With (line : ℕ) (name : Name) (s new : State) : Type 0 where
  made : Functions
  is : new ≡ record s { functions = made }
  gave : functions.define line name s.functions ≡ Ok (tt, made)

with_case : (line : ℕ) (name : Name) (s new : State) (u : Unit {0}) (r : Checked (Unit {0} × Functions)) →
    functions.define line name s.functions ≡ r
    → globals.with_functions s r ≡ Ok (u, new) → With line name s new
with_case line name s new u (Ok r) e is =
    record { made = r.1; is = sym (pure_same r.0 u (record s { functions = r.1 }) new is); gave = e }
with_case line name s new u (Err k) e is = absurd (cc)

pub define_state : (line : ℕ) (name : Name) (s new : State) (u : Unit {0}) (dc : Scope) → s.functions.defined ≡ dc ∷ []
    → globals.define line name s ≡ Ok (u, new)
    → new ≡ record s { functions = record s.functions { defined = with_name (length s.functions.all) name dc ∷ [] } }
define_state line name s new u dc one is =
    let w : With line name s new = with_case line name s new u (functions.define line name s.functions) refl is in
    w.is ∙ ap (λ (f : Functions). record s { functions = f })
    (define_gives line name s.functions w.made tt dc one w.gave)

-- what the name of a function leaves
pub record NamedFunction (name : Name) (t : CType) (s new : State) (sc dc : Scope) : Type 1 where
  pub scope : Scope
  pub is : new ≡ record s {
    scopes = scope ∷ [];
    functions =
        record s.functions { defined = with_name (length s.functions.all) name dc ∷ [] };
  }
  -- what it means
  pub what : Meaning
  pub found : in_scope scope name ≡ Some what
  pub same : (what.ctype ≡ t) ⊎ (same what.ctype t ≡ true)
  pub keeps : (n : Name) (m : Meaning) → in_scope sc n ≡ Some m → in_scope scope n ≡ Some m
  pub names : (P : Name → Meaning → Type 0) → EachEntry P sc →
      P name (meaning kind.Function t (functions.next s.functions)) → EachEntry P scope
  pub every : AllFound sc → AllFound scope

first_function : (line : ℕ) (name : Name) (t : CType) (s new : State) (u : Unit {0}) (sc dc : Scope) →
    s.scopes ≡ sc ∷ [] → s.functions.defined ≡ dc ∷ []
    → globals.first_function line name t s ≡ Ok (u, new) → NamedFunction name t s new sc dc
first_function line name t s new u sc dc one two is =
    let what : Meaning = meaning kind.Function t (functions.next s.functions) in
    let p : Parts (declare line name (meaning kind.Function t (functions.next s.functions)))
    (λ v. globals.define line name) s new u
    = parts (declare line name (meaning kind.Function t (functions.next s.functions))) (λ v. globals.define line name) s
    new u is in
    let d : DeclaresFirst name (meaning kind.Function t (functions.next s.functions)) s p.between sc
    = declare_first line name (meaning kind.Function t (functions.next s.functions)) s p.between p.answer sc one p.first
    in
    let f : p.between.functions ≡ s.functions = ap (λ (z : State). z.functions) d.is in
    let e : new ≡ record p.between
    { functions = record p.between.functions { defined = with_name (length p.between.functions.all) name dc ∷ [] } }
    = define_state line name p.between new u dc (ap (λ (z : Functions). z.defined) f ∙ two) p.second in
    record {
      scope = sc ++ (name, meaning kind.Function t (functions.next s.functions)) ∷ [];
      is = e ∙ ap (λ (z : State). record z
          { functions = record z.functions { defined = with_name (length z.functions.all) name dc ∷ [] } }) d.is;
      what = meaning kind.Function t (functions.next s.functions);
      found = found_new sc name (meaning kind.Function t (functions.next s.functions)) d.fresh;
      same = inl refl;
      keeps = λ n m h. found_front sc (name, meaning kind.Function t (functions.next s.functions)) n m h;
      names = λ P h k. each_more P sc name (meaning kind.Function t (functions.next s.functions)) h k;
      every = λ h. all_found_more sc name (meaning kind.Function t (functions.next s.functions)) d.fresh h;
    }

pub split : (b : Bool) → (b ≡ true) ⊎ (b ≡ false)
split true = inl refl
split false = inr refl

found_first : (sc : Scope) (ss : Scopes) (name : Name) (o : Option Meaning) → ss ≡ sc ∷ [] → find ss name ≡ o →
    in_scope sc name ≡ o
found_first sc ss name o one is = ap (λ (z : Scopes). find z name) (sym one) ∙ is

same_prototype : (line : ℕ) (name : Name) (t : CType) (s new : State) (u : Unit {0}) (sc dc : Scope) (m : Meaning) →
    find s.scopes name ≡ Some m → same m.ctype t ≡ true
    → s.scopes ≡ sc ∷ [] → s.functions.defined ≡ dc ∷ [] → globals.define line name s ≡ Ok (u, new) →
    NamedFunction name t s new sc dc
same_prototype line name t s new u sc dc m known type one two is =
    record {
      scope = sc;
      is = define_state line name s new u dc two is ∙
          ap (λ (z : Scopes). record s
          { scopes = z; functions = record s.functions { defined = with_name (length s.functions.all) name dc ∷ [] } })
          one;
      what = m;
      found = found_first sc s.scopes name (Some m) one known;
      same = inr type;
      keeps = λ n x h. h;
      names = λ P h k. h;
      every = λ h. h;
    }

function_some : (d : Bool) (line : ℕ) (name : Name) (t : CType) (s new : State) (u : Unit {0}) (sc dc : Scope)
    (m : Meaning) → find s.scopes name ≡ Some m → s.scopes ≡ sc ∷ [] → s.functions.defined ≡ dc ∷ []
    → ((not (names.is_function m.kind) || d) ≡ true) ⊎ ((not (names.is_function m.kind) || d) ≡ false) →
    (same m.ctype t ≡ true) ⊎ (same m.ctype t ≡ false)
    → globals.function_by (names.before_by d t (Some m)) line name t s ≡ Ok (u, new) → NamedFunction name t s new sc dc
function_some d line name t s new u sc dc m known one two (inl e) f is = absurd (let z = rw e at is in cc)
function_some d line name t s new u sc dc m known one two (inr e) (inl f) is =
    let z : globals.define line name s ≡ Ok (u, new) = rw (e, f) at is in
    same_prototype line name t s new u sc dc m known f one two z
function_some d line name t s new u sc dc m known one two (inr e) (inr f) is = absurd (let z = rw (e, f) at is in cc)

function_case : (o : Option Meaning) (line : ℕ) (name : Name) (t : CType) (s new : State) (u : Unit {0}) (sc dc : Scope)
    → find s.scopes name ≡ o
    → s.scopes ≡ sc ∷ [] → s.functions.defined ≡ dc ∷ [] →
    globals.function_by (names.before_by (functions.is_defined name s.functions) t o) line name t s ≡ Ok (u, new) →
    NamedFunction name t s new sc dc
function_case None line name t s new u sc dc known one two is = first_function line name t s new u sc dc one two is
function_case (Some m) line name t s new u sc dc known one two is =
    function_some (functions.is_defined name s.functions) line name t s new u sc dc m known one two
    (split (not (names.is_function m.kind) || functions.is_defined name s.functions)) (split (same m.ctype t)) is

pub function_named : (line : ℕ) (name : Name) (t : CType) (s new : State) (u : Unit {0}) (sc dc : Scope) →
    s.scopes ≡ sc ∷ [] → s.functions.defined ≡ dc ∷ []
    → globals.named line name t s ≡ Ok (u, new) → NamedFunction name t s new sc dc
unfolding globals.named
function_named line name t s new u sc dc one two is =
    function_case (find s.scopes name) line name t s new u sc dc refl one two is

-- ---- prototypes

-- what a prototype leaves
pub record NamedPrototype (line : ℕ) (name : Name) (t : CType) (s new : State) (sc : Scope) : Type 1 where
  pub scope : Scope
  pub is : new ≡ record s { scopes = scope ∷ []; functions = functions.with_prototype line name s.functions }
  pub keeps : (n : Name) (m : Meaning) → in_scope sc n ≡ Some m → in_scope scope n ≡ Some m
  pub names : (P : Name → Meaning → Type 0) → EachEntry P sc →
      P name (meaning kind.Function t (functions.number name s.functions)) → EachEntry P scope
  pub every : AllFound sc → AllFound scope

noted : (line : ℕ) (name : Name) (s new : State) (u : Unit {0}) → names.note line name s ≡ Ok (u, new) →
    new ≡ record s { functions = functions.with_prototype line name s.functions }
noted line name s new u is =
    sym (pure_same tt u (record s { functions = functions.with_prototype line name s.functions }) new is)

first_prototype : (line : ℕ) (name : Name) (t : CType) (s new : State) (u : Unit {0}) (sc : Scope) → s.scopes ≡ sc ∷ []
    → names.first_prototype line name t s ≡ Ok (u, new) → NamedPrototype line name t s new sc
first_prototype line name t s new u sc one is =
    let p : Parts (declare line name (meaning kind.Function t (functions.number name s.functions)))
    (λ v. names.note line name) s new u
    = parts (declare line name (meaning kind.Function t (functions.number name s.functions)))
    (λ v. names.note line name) s new u is in
    let d : DeclaresFirst name (meaning kind.Function t (functions.number name s.functions)) s p.between sc
    = declare_first line name (meaning kind.Function t (functions.number name s.functions)) s p.between p.answer sc one
    p.first in
    record {
      scope = sc ++ (name, meaning kind.Function t (functions.number name s.functions)) ∷ [];
      is = noted line name p.between new u p.second ∙
          ap (λ (z : State). record z { functions = functions.with_prototype line name z.functions }) d.is;
      keeps = λ n m h. found_front sc (name, meaning kind.Function t (functions.number name s.functions)) n m h;
      names = λ P h k. each_more P sc name (meaning kind.Function t (functions.number name s.functions)) h k;
      every = λ h. all_found_more sc name (meaning kind.Function t (functions.number name s.functions)) d.fresh h;
    }

again : (line : ℕ) (name : Name) (t : CType) (s new : State) (u : Unit {0}) (sc : Scope) → s.scopes ≡ sc ∷ [] →
    names.note line name s ≡ Ok (u, new) → NamedPrototype line name t s new sc
again line name t s new u sc one is =
    record {
      scope = sc;
      is = noted line name s new u is ∙
          ap (λ (z : Scopes). record s { scopes = z; functions = functions.with_prototype line name s.functions }) one;
      keeps = λ n m h. h;
      names = λ P h k. h;
      every = λ h. h;
    }

prototype_some : (d : Bool) (line : ℕ) (name : Name) (t : CType) (s new : State) (u : Unit {0}) (sc : Scope)
    (m : Meaning) → s.scopes ≡ sc ∷ []
    → ((not (names.is_function m.kind) || d) ≡ true) ⊎ ((not (names.is_function m.kind) || d) ≡ false) →
    (same m.ctype t ≡ true) ⊎ (same m.ctype t ≡ false)
    → names.prototype_by (names.before_by d t (Some m)) line name t s ≡ Ok (u, new) →
    NamedPrototype line name t s new sc
prototype_some d line name t s new u sc m one (inl e) f is = absurd (let z = rw e at is in cc)
prototype_some d line name t s new u sc m one (inr e) (inl f) is = let z : names.note line name s ≡ Ok (u, new) =
    rw (e, f) at is in again line name t s new u sc one z
prototype_some d line name t s new u sc m one (inr e) (inr f) is = absurd (let z = rw (e, f) at is in cc)

prototype_case : (o : Option Meaning) (line : ℕ) (name : Name) (t : CType) (s new : State) (u : Unit {0}) (sc : Scope) →
    s.scopes ≡ sc ∷ []
    → names.prototype_by (names.before_by (functions.is_defined name s.functions) t o) line name t s ≡ Ok (u, new) →
    NamedPrototype line name t s new sc
prototype_case None line name t s new u sc one is = first_prototype line name t s new u sc one is
prototype_case (Some m) line name t s new u sc one is =
    prototype_some (functions.is_defined name s.functions) line name t s new u sc m one
    (split (not (names.is_function m.kind) || functions.is_defined name s.functions)) (split (same m.ctype t)) is

pub prototype_named : (line : ℕ) (name : Name) (t : CType) (s new : State) (u : Unit {0}) (sc : Scope) →
    s.scopes ≡ sc ∷ []
    → names.prototype line name t s ≡ Ok (u, new) → NamedPrototype line name t s new sc
unfolding names.prototype
prototype_named line name t s new u sc one is = prototype_case (find s.scopes name) line name t s new u sc one is
