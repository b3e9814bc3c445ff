-- The walk over a function of the program, put together: it stands right, and what it leaves for the items behind it.
use Rattle.std.proofs.Common.{◌≡◌, ℕ, ap, sym, ◌∙◌, subst, List, [], ◌∷◌, ◌++◌, length, take}
use Rattle.c_types.specs.declared.ctype.CType.{CType}
use Rattle.check_scopes.specs.Scopes.{Name, Scope, Scopes}
use Rattle.tick_tree.specs.declared.base.Base.{Base}
use Rattle.typed_tree.specs.declared.expression.Stmt.{Stmt}
use Rattle.typed_tree.specs.declared.program.Tick.{Tick}
use Rattle.check_rules.specs.declared.functions.Functions.{Functions}
use Rattle.check_rules.specs.declared.ticks.Ticks.{Ticks}
use Rattle.check_rules.specs.declared.state.State.{State}
use Rattle.check_rules.specs.ExpressionRules as rules
use Rattle.check_rules.specs.ExpressionRules.{Shape, Item}
use Rattle.check_rules.specs.Declarations.{name_by}
use Rattle.check_globals.specs.Functions.{Given, types_of}
use Rattle.check_globals.specs.Program.{around}
use Rattle.wf_walk.specs.Kept.{Starts}
use Rattle.wf_walk.proofs.Fronts.{starts_same}
use Rattle.wf_walk.proofs.Blocks.{inside}
use Rattle.wf_programs.proofs.Done.{made_function, is_made, with_defined}
use Rattle.wf_programs.proofs.Files.{many, Towards}
use Rattle.wf_programs.proofs.Functions.{GoodFunction, Typed, function_typed, Blocked, blocked}
use Rattle.wf_programs.proofs.Given.{All, function_begun}
use Rattle.wf_programs.proofs.Names.{NamedFunction, function_named}
use Rattle.wf_programs.proofs.Runs.{FunctionRan}
use Rattle.wf_programs.proofs.Still.{Still}

-- ---- growth

-- what is told of the functions before and after one of them
pub record Grown (line : ℕ) (d : Shape) (t : CType) (s named given last : State) (xs : List Stmt) (top table : Scope)
    (name : Name) : Type 0 where
  pub functions : last.functions ≡ with_defined (length s.functions.all) name table s.functions
  pub same : given.functions ≡ last.functions
  pub before : given.ticks.all ≡ s.ticks.all
  pub ticks : Starts s.ticks.all last.ticks.all
  pub scopes : take (length named.scopes) last.scopes ≡ top ∷ []

named_functions : (name : Name) (table : Scope) (s typed_ named : State) (t : CType) (sc : Scope) → Still s typed_ →
    NamedFunction name t typed_ named sc table
    → named.functions ≡ with_defined (length s.functions.all) name table s.functions
named_functions name table s typed_ named t sc still n =
    ap (λ (z : State). z.functions) n.is ∙
    ap (λ (f : Functions). with_defined (length f.all) name table f) still.functions

named_ticks : (name : Name) (table : Scope) (s typed_ named : State) (t : CType) (sc : Scope) → Still s typed_ →
    NamedFunction name t typed_ named sc table → named.ticks.all ≡ s.ticks.all
named_ticks name table s typed_ named t sc still n = ap (λ (z : State). z.ticks.all) n.is ∙ still.ticks

grown : (line : ℕ) (d : Shape) (t : CType) (s typed_ named given last : State) (xs : List Stmt) (sc table : Scope)
    (name : Name) (k : ℕ) → Still s typed_
    → (n : NamedFunction name t typed_ named sc table) → All n.scope k (inside named) given →
    Blocked n.scope named last → Grown line d t s named given last xs n.scope table name
grown line d t s typed_ named given last xs sc table name k still n all b = record {
  functions = b.functions ∙ named_functions name table s typed_ named t sc still n;
  same = all.aside.functions ∙ sym b.functions;
  before = ap (λ (z : Ticks). z.all) all.aside.ticks ∙ named_ticks name table s typed_ named t sc still n;
  ticks = subst (λ (ts : List Tick). Starts ts last.ticks.all) (named_ticks name table s typed_ named t sc still n)
      b.ticks;
  scopes = b.scopes;
}

-- ---- the parts of a run

pub record PartsOf (line : ℕ) (b : Base) (d : Shape) (gs : List Given) (items : List Item) (s new : State)
    (r : FunctionRan line b d gs items s new) (sc table : Scope) : Type 1 where
  pub typed : Typed line b d gs s r.typed r.type
  pub name : NamedFunction (name_by d.declared.name) r.type r.typed r.named sc table
  pub all : All name.scope (length (types_of r.type)) (inside r.named) r.third.given
  pub grown : Grown line d r.type s r.named r.third.given r.third.last r.third.nodes name.scope table
      (name_by d.declared.name)

pub parts_of : (many : List ℕ) (line : ℕ) (b : Base) (d : Shape) (gs : List Given) (items : List Item) (s new : State)
    (r : FunctionRan line b d gs items s new) (sc table : Scope)
    → GoodFunction many d gs items → s.scopes ≡ sc ∷ [] → s.functions.defined ≡ table ∷ [] →
    PartsOf line b d gs items s new r sc table
parts_of many line b d gs items s new r sc table good one two =
    let ty : Typed line b d gs s r.typed r.type = function_typed many line b d gs items s r.typed r.type good r.first in
    let n : NamedFunction (name_by d.declared.name) r.type r.typed r.named sc table
    = function_named line (name_by d.declared.name) r.type r.typed r.named r.u sc table (ty.still.scopes ∙ one)
    (ap (λ (f : Functions). f.defined) ty.still.functions ∙ two) r.second in
    let top : r.named.scopes ≡ n.scope ∷ [] = ap (λ (z : State). z.scopes) n.is in
    let a : All n.scope (length (types_of r.type)) (inside r.named) r.third.given
    = function_begun n.scope r.type gs (inside r.named) r.third.given r.third.u
    (ap (λ (ss : Scopes). ss ++ [] ∷ []) top) ty.few ty.enough ty.objects r.third.begun in
    let bl : Blocked n.scope r.named r.third.last
    = blocked n.scope (length (types_of r.type)) (rules.each items around) r.named r.third.given r.third.last
    r.third.nodes top a good.walks.grows r.third.walked in
    record {
      typed = ty;
      name = n;
      all = a;
      grown =
          grown line d r.type s r.typed r.named r.third.given r.third.last r.third.nodes sc table
          (name_by d.declared.name)
          (length (types_of r.type)) ty.still n a bl;
    }

-- one function more, and the ticks that it made
pub function_towards : (many : List ℕ) (line : ℕ) (b : Base) (d : Shape) (gs : List Given) (items : List Item)
    (s new : State) (r : FunctionRan line b d gs items s new) (sc table : Scope)
    → PartsOf line b d gs items s new r sc table → Towards s new
function_towards many line b d gs items s new r sc table p =
    subst (λ (z : State). Towards s z) (sym (is_made line b d gs items s new r))
    (record {
      earlier = ap (λ (f : Functions). f.earlier) p.grown.functions;
      prototypes = starts_same s.functions.prototypes r.third.last.functions.prototypes
          (ap (λ (f : Functions). f.prototypes) p.grown.functions);
      all = record {
        rest = made_function line d r.type r.named r.third.last r.third.nodes ∷ [];
        is = ap (λ (f : Functions). f.all ++ made_function line d r.type r.named r.third.last r.third.nodes ∷ [])
            p.grown.functions;
      };
      ticks = p.grown.ticks;
    })
