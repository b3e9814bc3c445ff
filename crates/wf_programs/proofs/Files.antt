-- What is known between the items of a program, and at the end of its walk.
use Rattle.std.proofs.Common.{◌≡◌, ℕ, zero, suc, ◌≤◌, true, false, ◌∙◌, subst, List, [], ◌∷◌, ◌++◌, length, slice_get}
use Rattle.std.proofs.Common.{Some, None, ◌⊎◌}
use Rattle.c_types.specs.declared.ctype.CType.{CType}
use Rattle.check_scopes.specs.declared.names.Meaning.{Meaning}
use Rattle.check_scopes.specs.Scopes.{Name, Scope, in_scope}
use Rattle.c_types.specs.Types.{same}
use Rattle.typed_tree.specs.declared.expression.CaptureKind.{CaptureKind}
use Rattle.typed_tree.specs.declared.program.Function.{Function}
use Rattle.check_rules.specs.declared.functions.Prototype.{Prototype}
use Rattle.check_rules.specs.Functions.{number}
use Rattle.check_rules.specs.declared.state.State.{State}
use Rattle.check_globals.specs.Functions.{count_of, types_of}
use Rattle.wellformed.specs.Accepted.{parameters_of}
use Rattle.wellformed.specs.Places.{Around}
use Rattle.wf_walk.specs.Kept.{Starts}
use Rattle.wf_walk.specs.Known.{EachEntry}
use Rattle.wf_programs.proofs.Finish.{Limits}
use Rattle.wf_programs.proofs.Scopes.{FileName, AllFound}
use Rattle.wf_programs.proofs.Steps.{starts_trans}
use Rattle.wf_programs.proofs.Tables.{HasNumber}

-- ---- the end

-- the names of functions
abbrev pub names_of : List Function → List Name
names_of [] = []
names_of (f ∷ fs) = f.name ∷ names_of fs

abbrev pub whole : State → List Name
whole e = names_of e.functions.all

-- how many parameters each function of the program has
abbrev pub many : State → List ℕ
many e = parameters_of e.functions.all

-- what is checked at the end of the walk
pub record End (e : State) : Type 0 where
  pub limits : Limits e
  pub numbers : (i : ℕ) (p : Prototype) → slice_get e.functions.prototypes i ≡ Some p →
      HasNumber (whole e) p.name (number p.name e.functions)

-- a state on the way to the end
pub record Towards (s e : State) : Type 0 where
  pub earlier : e.functions.earlier ≡ s.functions.earlier
  pub prototypes : Starts s.functions.prototypes e.functions.prototypes
  pub all : Starts s.functions.all e.functions.all
  pub ticks : Starts s.ticks.all e.ticks.all

pub towards_more : (s m e : State) → Towards s m → Towards m e → Towards s e
towards_more s m e p q = record {
  earlier = q.earlier ∙ p.earlier;
  prototypes = starts_trans s.functions.prototypes m.functions.prototypes e.functions.prototypes p.prototypes
      q.prototypes;
  all = starts_trans s.functions.all m.functions.all e.functions.all p.all q.all;
  ticks = starts_trans s.ticks.all m.ticks.all e.ticks.all p.ticks q.ticks;
}

-- ---- between items

-- a function of the program is found by its name
pub record Linked (sc : Scope) (f : Function) : Type 0 where
  pub what : Meaning
  pub found : in_scope sc f.name ≡ Some what
  pub type : CType
  pub same : (what.ctype ≡ type) ⊎ (same what.ctype type ≡ true)
  pub params : f.params ≡ count_of type
  pub few : length (types_of type) ≤ 8

abbrev pub EachLinked : Scope → List Function → Type 0
EachLinked sc [] = Unit {0}
EachLinked sc (f ∷ fs) = Linked sc f × EachLinked sc fs

pub linked_later : (sc new : Scope) (fs : List Function) →
    ((n : Name) (m : Meaning) → in_scope sc n ≡ Some m → in_scope new n ≡ Some m) → EachLinked sc fs → EachLinked new fs
linked_later sc new [] h l = tt
linked_later sc new (f ∷ fs) h l = (
  record {
    what = l.0.what;
    found = h f.name l.0.what l.0.found;
    type = l.0.type;
    same = l.0.same;
    params =
        l.0.params;
    few = l.0.few;
  },
  linked_later sc new fs h l.1,
)

pub linked_last : (sc : Scope) (fs : List Function) (f : Function) → EachLinked sc fs → Linked sc f →
    EachLinked sc (fs ++ f ∷ [])
linked_last sc [] f h l = (l, tt)
linked_last sc (g ∷ fs) f h l = (h.0, linked_last sc fs f h.1 l)

pub linked_at : (sc : Scope) (fs : List Function) (n : ℕ) (f : Function) → EachLinked sc fs → slice_get fs n ≡ Some f →
    Linked sc f
linked_at sc [] n f h at = absurd (cc)
linked_at sc (g ∷ fs) zero f h at = let e : g ≡ f = cc in subst (λ (x : Function). Linked sc x) e h.0
linked_at sc (g ∷ fs) (suc n) f h at = linked_at sc fs n f h.1 at

pub record AtFile (e s : State) : Type 0 where
  pub scope : Scope
  pub one : s.scopes ≡ scope ∷ []
  pub names : EachEntry (FileName (whole e) s.functions) scope
  pub found : AllFound scope
  pub table : Scope
  pub defined : s.functions.defined ≡ table ∷ []
  pub linked : EachLinked scope s.functions.all

-- ---- what stands in functions and ticks

-- what is round a function at the end of the walk, whose ticks capture this
abbrev pub round : State → List (List CaptureKind) → List ℕ → ℕ → Around
round e all vs object = record {
  variables = vs;
  object = object;
  functions = many e;
  ticks = all;
  captures = None;
  in_loop = false;
  in_switch =
      false;
}
