-- The walk over a program: what both walks leave of the functions.
use Rattle.std.proofs.Common.{◌≡◌, ℕ, suc, ◌+◌, refl, ap, sym, ◌∙◌, subst, List, [], ◌∷◌, ◌++◌, length, map, Some, Ok}
use Rattle.std.proofs.Common.{arith, append-nil, append_assoc}
use Rattle.check_scopes.specs.declared.names.Meaning.{Meaning}
use Rattle.check_scopes.specs.Scopes.{Name, Scope, Scopes, in_scope, find}
use Rattle.tick_tree.specs.declared.base.Base.{Base}
use Rattle.tick_tree.specs.declared.syntax.External.{External}
use Rattle.tick_tree.specs.declared.syntax.External.TheVariants as ext
use Rattle.typed_tree.specs.declared.program.Function.{Function}
use Rattle.check_rules.specs.declared.functions.Functions.{Functions}
use Rattle.check_rules.specs.declared.state.State.{State}
use Rattle.check_rules.specs.ExpressionRules.{Shape, Item}
use Rattle.check_rules.specs.Declarations.{name_by}
use Rattle.check_globals.specs.Functions.{Given}
use Rattle.check_globals.specs.Parameters.{parameters_of}
use Rattle.check_globals.specs.Program as program
use Rattle.check_rules.specs.Walk.{declaration, shape, item}
use Rattle.wf_walk.proofs.Walks.{pure_same}
use Rattle.wf_walk.proofs.Fronts.{starts_same}
use Rattle.wf_programs.proofs.Done.{made_function, made_state, is_made}
use Rattle.wf_programs.proofs.Files.{Towards, towards_more, names_of}
use Rattle.wf_programs.proofs.Functions.{GoodFunction}
use Rattle.wf_programs.proofs.Globals.{EachInit, GlobalDone, globals_done}
use Rattle.wf_programs.proofs.Made.{PartsOf, parts_of, function_towards}
use Rattle.wf_programs.proofs.Runs.{FunctionRan, function_ran}
use Rattle.wf_programs.proofs.Steps.{Parts, parts}
use Rattle.wf_programs.proofs.Tables.{with_name, with_names}

-- ---- what is asked of the items of a program

abbrev pub GoodExternal : List ℕ → External → Type 0
GoodExternal many (ext.Function line b d items) = GoodFunction many (shape d) (parameters_of d) (map item items)
GoodExternal many (ext.Declaration d) = EachInit (declaration d).inits

abbrev pub EachGood : List ℕ → List External → Type 0
EachGood many [] = Unit {0}
EachGood many (x ∷ xs) = GoodExternal many x × EachGood many xs

-- the names of the functions
abbrev pub functions_in : List External → List Name
functions_in [] = []
functions_in (ext.Function line b d items ∷ xs) = name_by (shape d).declared.name ∷ functions_in xs
functions_in (ext.Declaration d ∷ xs) = functions_in xs

-- ---- what one item leaves

-- so many functions more, of these names
pub record Grew (ns : List Name) (s new : State) (table : Scope) : Type 0 where
  pub towards : Towards s new
  pub scope : Scope
  pub one : new.scopes ≡ scope ∷ []
  pub defined : new.functions.defined ≡ with_names (length s.functions.all) ns table ∷ []
  pub names : names_of new.functions.all ≡ names_of s.functions.all ++ ns
  -- a name that is found stays found
  pub keeps : (n : Name) (m : Meaning) → find s.scopes n ≡ Some m → find new.scopes n ≡ Some m

kept_in : (sc scope : Scope) (s new : State) → s.scopes ≡ sc ∷ [] → new.scopes ≡ scope ∷ [] → (n : Name) (m : Meaning) →
    (in_scope sc n ≡ Some m → in_scope scope n ≡ Some m)
    → find s.scopes n ≡ Some m → find new.scopes n ≡ Some m
kept_in sc scope s new one two n m keeps h =
    ap (λ (z : Scopes). find z n) two ∙ keeps (ap (λ (z : Scopes). find z n) (sym one) ∙ h)

names_last : (fs : List Function) (f : Function) → names_of (fs ++ f ∷ []) ≡ names_of fs ++ f.name ∷ []
names_last [] f = refl
names_last (g ∷ fs) f = ap (λ ns. g.name ∷ ns) (names_last fs f)

pub function_grew : (many : List ℕ) (line : ℕ) (b : Base) (d : Shape) (gs : List Given) (items : List Item)
    (s new : State) (r : FunctionRan line b d gs items s new) (sc table : Scope)
    → GoodFunction many d gs items → s.scopes ≡ sc ∷ [] → s.functions.defined ≡ table ∷ [] →
    Grew (name_by d.declared.name ∷ []) s new table
function_grew many line b d gs items s new r sc table good one two =
    let p : PartsOf line b d gs items s new r sc table =
    parts_of many line b d gs items s new r sc table good one two in
    let made : new ≡ made_state line d r.type r.named r.third.last r.third.nodes = is_made line b d gs items s new r in
    record {
      towards = function_towards many line b d gs items s new r sc table p;
      scope = p.name.scope;
      one = ap (λ (z : State). z.scopes) made ∙ p.grown.scopes;
      defined = ap (λ (z : State). z.functions.defined) made ∙ ap (λ (f : Functions). f.defined) p.grown.functions;
      names = ap (λ (z : State). names_of z.functions.all) made ∙
          names_last r.third.last.functions.all (made_function line d r.type r.named r.third.last r.third.nodes)
          ∙ ap (λ (f : Functions). names_of f.all ++ name_by d.declared.name ∷ []) p.grown.functions;
      keeps = λ n m h. kept_in sc p.name.scope s new one (ap (λ (z : State). z.scopes) made ∙ p.grown.scopes) n m
          (p.name.keeps n m) h;
    }

global_grew : (s new : State) (sc table : Scope) → s.scopes ≡ sc ∷ [] → GlobalDone [] s new sc →
    s.functions.defined ≡ table ∷ [] → Grew [] s new table
global_grew s new sc table one g two = record {
  towards = record {
    earlier = g.later.earlier;
    prototypes = g.later.prototypes;
    all =
        starts_same s.functions.all new.functions.all g.all;
    ticks = starts_same s.ticks.all new.ticks.all g.ticks;
  };
  scope = g.scope;
  one = g.one;
  defined = g.defined ∙ two;
  names = ap names_of g.all ∙ sym (append-nil (names_of s.functions.all));
  keeps = λ n m h. kept_in sc g.scope s new one g.one n m (g.keeps n m) h;
}

abbrev names_in : External → List Name
names_in (ext.Function line b d items) = name_by (shape d).declared.name ∷ []
names_in (ext.Declaration d) = []

pub external_grew : (many : List ℕ) (x : External) (s new : State) (u : Unit {0}) (sc table : Scope) →
    GoodExternal many x → s.scopes ≡ sc ∷ [] → s.functions.defined ≡ table ∷ []
    → program.external x s ≡ Ok (u, new) → Grew (names_in x) s new table
external_grew many (ext.Function line b d items) s new u sc table good one two is =
    function_grew many line b (shape d) (parameters_of d) (map item items) s new
    (function_ran line b (shape d) (parameters_of d) (map item items) s new u is) sc table good one two
external_grew many (ext.Declaration d) s new u sc table good one two is =
    global_grew s new sc table one
    (globals_done [] (declaration d).line (declaration d).base (declaration d).inits s new u sc good one is) two

-- ---- the walk

length_names : (fs : List Function) → length (names_of fs) ≡ length fs
length_names [] = refl
length_names (f ∷ fs) = ap suc (length_names fs)

length_both : {A : Type 0} (xs ys : List A) → length (xs ++ ys) ≡ length xs + length ys
length_both [] ys = omega arith
length_both (x ∷ xs) ys = let h : length (xs ++ ys) ≡ length xs + length ys = length_both xs ys in omega arith

pub count_grew : (ns : List Name) (s new : State) (table : Scope) → Grew ns s new table →
    length new.functions.all ≡ length s.functions.all + length ns
count_grew ns s new table g =
    let a : length (names_of new.functions.all) ≡ length new.functions.all = length_names new.functions.all in
    let b : length (names_of s.functions.all) ≡ length s.functions.all = length_names s.functions.all in
    let c : length (names_of new.functions.all) ≡ length (names_of s.functions.all ++ ns) = ap length g.names in
    let d : length (names_of s.functions.all ++ ns) ≡ length (names_of s.functions.all) + length ns =
    length_both (names_of s.functions.all) ns in
    omega arith

-- the table after some names and then others
both_names : (n : ℕ) (xs ys : List Name) (sc : Scope) →
    with_names n (xs ++ ys) sc ≡ with_names (n + length xs) ys (with_names n xs sc)
both_names n [] ys sc = ap (λ (i : ℕ). with_names i ys sc) (let e : n ≡ n + 0 = omega arith in e)
both_names n (x ∷ xs) ys sc =
    both_names (suc n) xs ys (with_name n x sc) ∙
    ap (λ (i : ℕ). with_names i ys (with_names (suc n) xs (with_name n x sc)))
    (let e : suc n + length xs ≡ n + suc (length xs) = omega arith in e)

grew_more : (xs ys : List Name) (s m new : State) (table : Scope) → Grew xs s m table →
    Grew ys m new (with_names (length s.functions.all) xs table) → Grew (xs ++ ys) s new table
grew_more xs ys s m new table p q = record {
  towards = towards_more s m new p.towards q.towards;
  scope = q.scope;
  one = q.one;
  defined = q.defined ∙ ap (λ (i : ℕ). with_names i ys (with_names (length s.functions.all) xs table) ∷ [])
      (count_grew xs s m table p)
      ∙ ap (λ sc. sc ∷ []) (sym (both_names (length s.functions.all) xs ys table));
  names = q.names ∙ ap (λ ns. ns ++ ys) p.names ∙ append_assoc (names_of s.functions.all) xs ys;
  keeps = λ n x h. q.keeps n x (p.keeps n x h);
}

grew_same : (s : State) (sc table : Scope) → s.scopes ≡ sc ∷ [] → s.functions.defined ≡ table ∷ [] → Grew [] s s table
grew_same s sc table one two = record {
  towards = record {
    earlier = refl;
    prototypes = starts_same s.functions.prototypes s.functions.prototypes refl;
    all =
        starts_same s.functions.all s.functions.all refl;
    ticks = starts_same s.ticks.all s.ticks.all refl;
  };
  scope = sc;
  one = one;
  defined = two;
  names = sym (append-nil (names_of s.functions.all));
  keeps = λ n m h. h;
}

names_first : (x : External) (xs : List External) → names_in x ++ functions_in xs ≡ functions_in (x ∷ xs)
names_first (ext.Function line b d items) xs = refl
names_first (ext.Declaration d) xs = refl

-- either walk
pub walk_grew : (many : List ℕ) (xs : List External) (s new : State) (u : Unit {0}) (sc table : Scope) →
    EachGood many xs → s.scopes ≡ sc ∷ [] → s.functions.defined ≡ table ∷ []
    → program.walk xs s ≡ Ok (u, new) → Grew (functions_in xs) s new table
walk_grew many [] s new u sc table good one two is =
    subst (λ (z : State). Grew [] s z table) (pure_same tt u s new is) (grew_same s sc table one two)
walk_grew many (x ∷ xs) s new u sc table good one two is =
    let p : Parts (program.external x) (λ v. program.walk xs) s new u =
    parts (program.external x) (λ v. program.walk xs) s new u is in
    let first : Grew (names_in x) s p.between table =
    external_grew many x s p.between p.answer sc table good.0 one two p.first in
    let rest : Grew (functions_in xs) p.between new (with_names (length s.functions.all) (names_in x) table)
    = walk_grew many xs p.between new u first.scope (with_names (length s.functions.all) (names_in x) table) good.1
    first.one first.defined p.second in
    subst (λ (ns : List Name). Grew ns s new table) (names_first x xs)
    (grew_more (names_in x) (functions_in xs) s p.between new table first rest)
