-- Names at file scope: what each means, and that a name that is found stays found.
use Rattle.std.proofs.Common.{◌≡◌, ℕ, Bool, true, false, if◌then◌else◌, refl, ap, sym, ◌∙◌, subst, [], ◌∷◌, ◌++◌}
use Rattle.std.proofs.Common.{Option, Some, None, Ok, slice_get, bytes_eq, List}
use Rattle.std.proofs.lemmas.Slice.Eq.{bytes_eq-Decides}
use Rattle.c_types.specs.declared.ctype.CType.{CType}
use Rattle.c_types.specs.Types.{is_unlisted, outermost, layers_of}
use Rattle.check_scopes.specs.declared.names.Meaning.{Meaning}
use Rattle.check_scopes.specs.declared.names.MeaningKind.{MeaningKind}
use Rattle.check_scopes.specs.declared.names.MeaningKind.TheVariants as kind
use Rattle.check_scopes.specs.Scopes.{Name, Scope, Scopes, in_scope, find, innermost, declared}
use Rattle.check_types.specs.Shapes.{is_void}
use Rattle.check_rules.specs.declared.functions.Functions.{Functions}
use Rattle.check_rules.specs.declared.functions.Prototype.{Prototype}
use Rattle.check_rules.specs.Functions.{number, number_by}
use Rattle.check_rules.specs.declared.state.Stage.{Stage}
use Rattle.check_rules.specs.declared.state.State.{State}
use Rattle.check_rules.specs.Names.{declare, declared_by}
use Rattle.wf_nodes.specs.Used.{IsLibrary}
use Rattle.wf_walk.specs.Kept.{Starts}
use Rattle.wf_nodes.specs.Right.{HasType}
use Rattle.wf_walk.specs.Known.{Blocks, Means, IsObject, EachEntry}
use Rattle.wf_walk.proofs.Walks.{pure_same}
use Rattle.wf_walk.proofs.Lists.{get_front}
use Rattle.wf_programs.proofs.Tables.{HasNumber}

-- ---- what names mean

-- a function of a program whose functions have these names
pub data IsFunction (whole : List Name) (f : Functions) (name : Name) (n : ℕ) : Type 0 where
  Numbered : HasNumber whole name n → IsFunction whole f name n
  -- a prototype with the number that an earlier walk found
  Declared : (i : ℕ) (p : Prototype) → slice_get f.prototypes i ≡ Some p → p.name ≡ name → n ≡ number p.name f →
      IsFunction whole f name n

-- the type of a function: it isn't void, and doesn't take any arguments
pub record IsCallable (t : CType) : Type 0 where
  pub type : is_void t ≡ false
  pub list : is_unlisted (outermost (layers_of t)) ≡ false

-- what a name at file scope means
abbrev pub FileMeans : List Name → Functions → Name → Meaning → MeaningKind → Type 0
FileMeans whole f name m kind.Variable = true ≡ false
FileMeans whole f name m kind.Parameter = true ≡ false
FileMeans whole f name m kind.Global = IsObject m.ctype
FileMeans whole f name m kind.Function = IsFunction whole f name m.index × IsCallable m.ctype
FileMeans whole f name m kind.Library = IsLibrary m.index m.ctype

abbrev pub FileName : List Name → Functions → Name → Meaning → Type 0
FileName whole f name m = FileMeans whole f name m m.kind

-- what it means at the end of the walk, in a program whose functions have so many parameters
abbrev pub TopMeans : List ℕ → Meaning → MeaningKind → Type 0
TopMeans many m kind.Variable = true ≡ false
TopMeans many m kind.Parameter = true ≡ false
TopMeans many m kind.Global = IsObject m.ctype
TopMeans many m kind.Function = HasType many m.index m.ctype × (is_void m.ctype ≡ false)
TopMeans many m kind.Library = IsLibrary m.index m.ctype

abbrev pub TopName : List ℕ → Name → Meaning → Type 0
TopName many name m = TopMeans many m m.kind

pub means : (many : List ℕ) (g : Stage) (b : Blocks) (s : State) (name : Name) (m : Meaning) (k : MeaningKind) →
    TopMeans many m k → Means many g b s name m k
means many g b s name m kind.Variable h = absurd (cc)
means many g b s name m kind.Parameter h = absurd (cc)
means many g b s name m kind.Global h = h
means many g b s name m kind.Function h = h
means many g b s name m kind.Library h = h

pub each_map : (P Q : Name → Meaning → Type 0) (sc : Scope) → ((name : Name) (m : Meaning) → P name m → Q name m) →
    EachEntry P sc → EachEntry Q sc
each_map P Q [] f h = tt
each_map P Q (e ∷ es) f h = (f e.0 e.1 h.0, each_map P Q es f h.1)

pub each_more : (P : Name → Meaning → Type 0) (sc : Scope) (name : Name) (m : Meaning) → EachEntry P sc → P name m →
    EachEntry P (sc ++ (name, m) ∷ [])
each_more P [] name m h p = (p, tt)
each_more P (e ∷ es) name m h p = (h.0, each_more P es name m h.1 p)

-- ---- functions, later

-- the functions later in a walk
pub record Later (f new : Functions) : Type 0 where
  pub earlier : new.earlier ≡ f.earlier
  pub prototypes : Starts f.prototypes new.prototypes

pub function_later : (whole : List Name) (f new : Functions) (name : Name) (n : ℕ) → Later f new →
    IsFunction whole f name n → IsFunction whole new name n
function_later whole f new name n l (Numbered h) = Numbered h
function_later whole f new name n l (Declared i p at same is) =
    Declared i p
    (ap (λ ps. slice_get ps i) l.prototypes.is ∙ get_front f.prototypes l.prototypes.rest i p at)
    same
    (is ∙ ap (λ (d : Scopes). number_by (find d p.name)) (sym l.earlier))

file_later_at : (whole : List Name) (f new : Functions) (name : Name) (m : Meaning) (k : MeaningKind) → Later f new →
    FileMeans whole f name m k → FileMeans whole new name m k
file_later_at whole f new name m kind.Variable l h = h
file_later_at whole f new name m kind.Parameter l h = h
file_later_at whole f new name m kind.Global l h = h
file_later_at whole f new name m kind.Function l h = (function_later whole f new name m.index l h.0, h.1)
file_later_at whole f new name m kind.Library l h = h

pub file_later : (whole : List Name) (f new : Functions) (sc : Scope) → Later f new → EachEntry (FileName whole f) sc →
    EachEntry (FileName whole new) sc
file_later whole f new sc l h =
    each_map (FileName whole f) (FileName whole new) sc (λ name m k. file_later_at whole f new name m m.kind l k) h

-- ---- look-ups

front_case : (x e : Name × Meaning) (sc : Scope) (name : Name) (m : Meaning) (b : Bool)
    → (in_scope sc name ≡ Some m → in_scope (sc ++ e ∷ []) name ≡ Some m)
    → (if b then Some x.1 else in_scope sc name) ≡ Some m →
    (if b then Some x.1 else in_scope (sc ++ e ∷ []) name) ≡ Some m
front_case x e sc name m true h is = is
front_case x e sc name m false h is = h is

-- a name that is found stays found
pub found_front : (sc : Scope) (e : Name × Meaning) (name : Name) (m : Meaning) → in_scope sc name ≡ Some m →
    in_scope (sc ++ e ∷ []) name ≡ Some m
found_front [] e name m is = absurd (cc)
found_front (x ∷ sc) e name m is = front_case x e sc name m (bytes_eq name x.0) (found_front sc e name m) is

new_case : (x e : Name × Meaning) (sc : Scope) (name : Name) (m : Meaning) (b : Bool)
    → (in_scope sc name ≡ None → in_scope (sc ++ e ∷ []) name ≡ Some m)
    → (if b then Some x.1 else in_scope sc name) ≡ None →
    (if b then Some x.1 else in_scope (sc ++ e ∷ []) name) ≡ Some m
new_case x e sc name m true h is = absurd (cc)
new_case x e sc name m false h is = h is

same_name : (name : Name) → bytes_eq name name ≡ true
same_name name = (bytes_eq-Decides name name).1 refl

-- a new name is found
pub found_new : (sc : Scope) (name : Name) (m : Meaning) → in_scope sc name ≡ None →
    in_scope (sc ++ (name, m) ∷ []) name ≡ Some m
found_new [] name m is = ap (λ b. if b then Some m else None) (same_name name)
found_new (x ∷ sc) name m is = new_case x (name, m) sc name m (bytes_eq name x.0) (found_new sc name m) is

-- each name of a scope is found there
abbrev pub AllFound : Scope → Type 0
AllFound sc = EachEntry (λ name m. in_scope sc name ≡ Some m) sc

pub all_found_more : (sc : Scope) (name : Name) (m : Meaning) → in_scope sc name ≡ None → AllFound sc →
    AllFound (sc ++ (name, m) ∷ [])
all_found_more sc name m fresh h =
    each_more (λ n x. in_scope (sc ++ (name, m) ∷ []) n ≡ Some x) sc name m
    (each_map (λ n x. in_scope sc n ≡ Some x) (λ n x. in_scope (sc ++ (name, m) ∷ []) n ≡ Some x) sc
    (λ n x k. found_front sc (name, m) n x k) h)
    (found_new sc name m fresh)

found_entry_by : (P : Name → Meaning → Type 0) (e : Name × Meaning) (sc : Scope) (name : Name) (m : Meaning) (b : Bool)
    → (b ≡ true → name ≡ e.0) → P e.0 e.1
    → (in_scope sc name ≡ Some m → P name m) → (if b then Some e.1 else in_scope sc name) ≡ Some m → P name m
found_entry_by P e sc name m true eq h k is =
    let same : e.1 ≡ m = cc in
    subst (λ (x : Meaning). P name x) same (subst (λ (n : Name). P n e.1) (sym (eq refl)) h)
found_entry_by P e sc name m false eq h k is = k is

-- what holds of each name holds of the one that is found
pub found_entry : (P : Name → Meaning → Type 0) (sc : Scope) (name : Name) (m : Meaning) → EachEntry P sc →
    in_scope sc name ≡ Some m → P name m
found_entry P [] name m h is = absurd (cc)
found_entry P (e ∷ sc) name m h is =
    found_entry_by P e sc name m (bytes_eq name e.0) (bytes_eq-Decides name e.0).0 h.0 (found_entry P sc name m h.1) is

-- ---- declarations

pub record Declares (name : Name) (what : Meaning) (s new : State) (inner : Scope) : Type 0 where
  pub fresh : in_scope inner name ≡ None
  pub is : new ≡ record s { scopes = declared s.scopes name what }

declare_case : (line : ℕ) (name : Name) (what : Meaning) (s new : State) (u : Unit {0}) (inner : Scope)
    (o : Option Meaning) → in_scope inner name ≡ o
    → declared_by line name what s o ≡ Ok (u, new) → Declares name what s new inner
declare_case line name what s new u inner None none is =
    record { fresh = none; is = sym (pure_same tt u (record s { scopes = declared s.scopes name what }) new is) }
declare_case line name what s new u inner (Some m) none is = absurd (cc)

pub declare_gives : (line : ℕ) (name : Name) (what : Meaning) (s new : State) (u : Unit {0}) →
    declare line name what s ≡ Ok (u, new) → Declares name what s new (innermost s.scopes)
unfolding declare
declare_gives line name what s new u is =
    declare_case line name what s new u (innermost s.scopes) (in_scope (innermost s.scopes) name) refl is

-- in the scope of the file
pub record DeclaresFirst (name : Name) (what : Meaning) (s new : State) (sc : Scope) : Type 0 where
  pub fresh : in_scope sc name ≡ None
  pub is : new ≡ record s { scopes = (sc ++ (name, what) ∷ []) ∷ [] }

pub declare_first : (line : ℕ) (name : Name) (what : Meaning) (s new : State) (u : Unit {0}) (sc : Scope) →
    s.scopes ≡ sc ∷ []
    → declare line name what s ≡ Ok (u, new) → DeclaresFirst name what s new sc
declare_first line name what s new u sc one is =
    let d : Declares name what s new (innermost s.scopes) = declare_gives line name what s new u is in
    record {
      fresh = ap (λ (z : Scopes). in_scope (innermost z) name) (sym one) ∙ d.fresh;
      is = d.is ∙ ap (λ (z : Scopes). record s { scopes = declared z name what }) one;
    }

-- in a scope under that of the file
pub record DeclaresSecond (name : Name) (what : Meaning) (s new : State) (top sc : Scope) : Type 0 where
  pub fresh : in_scope sc name ≡ None
  pub is : new ≡ record s { scopes = top ∷ (sc ++ (name, what) ∷ []) ∷ [] }

pub declare_second : (line : ℕ) (name : Name) (what : Meaning) (s new : State) (u : Unit {0}) (top sc : Scope) →
    s.scopes ≡ top ∷ sc ∷ []
    → declare line name what s ≡ Ok (u, new) → DeclaresSecond name what s new top sc
declare_second line name what s new u top sc two is =
    let d : Declares name what s new (innermost s.scopes) = declare_gives line name what s new u is in
    record {
      fresh = ap (λ (z : Scopes). in_scope (innermost z) name) (sym two) ∙ d.fresh;
      is = d.is ∙ ap (λ (z : Scopes). record s { scopes = declared z name what }) two;
    }
