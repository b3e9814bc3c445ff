-- What a name, an address, a string and a tick leave of the state: the names, the variables and the functions.
use Rattle.std.proofs.Common.{◌≡◌, ℕ, Bool, true, false, if◌then◌else◌, List, [], ◌∷◌, ◌++◌, refl, ap, subst, Option}
use Rattle.std.proofs.Common.{Some, None, Ok}
use Rattle.std.specs.Prelude.{slice_get}
use Rattle.c_types.specs.declared.ctype.CType.{CType}
use Rattle.check_scopes.specs.declared.names.Meaning.{Meaning}
use Rattle.check_scopes.specs.declared.names.MeaningKind.{MeaningKind}
use Rattle.check_scopes.specs.declared.names.MeaningKind.TheVariants as kind
use Rattle.check_scopes.specs.Scopes.{Name, find}
use Rattle.check_types.specs.Shapes.{is_cspec, is_vspec}
use Rattle.tick_tree.specs.Faults.{Checked}
use Rattle.typed_tree.specs.declared.expression.CaptureKind.{CaptureKind}
use Rattle.typed_tree.specs.declared.expression.Expr.{Expr}
use Rattle.typed_tree.specs.declared.expression.Expr.TheVariants as ex
use Rattle.typed_tree.specs.declared.program.TickBody.{TickBody}
use Rattle.check_rules.specs.declared.frame.Home.{Home}
use Rattle.check_rules.specs.Ticks as ticks
use Rattle.check_rules.specs.declared.state.Stage.{Stage}
use Rattle.check_rules.specs.declared.state.Stage.TheVariants as stage
use Rattle.check_rules.specs.declared.state.State.{State}
use Rattle.check_rules.specs.Names.{captured, addressed, outer_variable, in_tick, under_dollar, variable, parameter}
use Rattle.check_rules.specs.Names.{global, meant, named_by, named}
use Rattle.check_rules.specs.Productions.{string_node, tick_entered, tick_left}
use Rattle.wf_walk.specs.Kept.{KeepsStage, Keeps, IsKeeping}
use Rattle.wf_walk.proofs.Fronts.{starts_refl, starts_behind}
use Rattle.wf_walk.proofs.Walks.{ok_same}
use Rattle.wf_walk.proofs.Keeps.{keeps_refl, keeps_more}

-- a step that answers this
pub gives_keeps : {A : Type 0} (g : Stage) (s new : State) (p : A × State) (x : A) →
    ◌≡◌ {A = Checked (A × State)} (Ok p) (Ok (x, new)) → Keeps g s p.1 → Keeps g s new
gives_keeps g s new p x e k = subst (λ z. Keeps g s z) (ap (λ r. r.1) (ok_same p (x, new) e)) k

-- ---- captures and marks

pub captured_keeps : (k : CaptureKind) (e : Expr) (s : State) → Keeps stage.Tick s (captured k e s)
captured_keeps k e s = record {
  tables = record {
    scopes = refl;
    result = refl;
    homes = refl;
    nodes = refl;
    object = refl;
    labels = refl;
    functions =
        refl;
    image = record { end = refl; globals = refl; at = refl };
  };
  at = (record { inner = refl; ticks = refl }, starts_behind s.ticks.captures (ex.Capture k e ∷ []));
}

marked_stage : (g : Stage) (n : ℕ) (s : State) → KeepsStage g s (addressed n s)
marked_stage stage.Function n s = starts_refl s.ticks.all
marked_stage stage.Tick n s = (record { inner = refl; ticks = refl }, starts_refl s.ticks.captures)
marked_stage stage.Dollar n s = (record { inner = refl; ticks = refl }, refl)

pub addressed_keeps : (g : Stage) (n : ℕ) (s : State) → Keeps g s (addressed n s)
addressed_keeps g n s = record {
  tables = record {
    scopes = refl;
    result = refl;
    homes = refl;
    nodes = refl;
    object = refl;
    labels = refl;
    functions =
        refl;
    image = record { end = refl; globals = refl; at = refl };
  };
  at = marked_stage g n s;
}

string_stage : (g : Stage) (bytes : List ℕ) (s : State) → KeepsStage g s (string_node bytes s).1
string_stage stage.Function bytes s = starts_refl s.ticks.all
string_stage stage.Tick bytes s = (record { inner = refl; ticks = refl }, starts_refl s.ticks.captures)
string_stage stage.Dollar bytes s = (record { inner = refl; ticks = refl }, refl)

pub string_keeps : (g : Stage) (bytes : List ℕ) (s : State) → Keeps g s (string_node bytes s).1
string_keeps g bytes s = record {
  tables = record {
    scopes = refl;
    result = refl;
    homes = refl;
    nodes = refl;
    object = refl;
    labels = refl;
    functions =
        refl;
    image = record { end = refl; globals = refl; at = refl };
  };
  at = string_stage g bytes s;
}

-- ---- names

choice_keeps : {A : Type 0} (g : Stage) (b : Bool) (s : State) (x y : A × State) → Keeps g s x.1 → Keeps g s y.1 →
    Keeps g s (if b then x else y).1
choice_keeps g true s x y h k = h
choice_keeps g false s x y h k = k

outer_keeps : (n : ℕ) (h : Home) (t : CType) (s : State) → Keeps stage.Tick s (outer_variable n h t s).1
outer_keeps n h t s =
    choice_keeps stage.Tick (is_cspec t) s _ _ (captured_keeps _ _ s)
    (choice_keeps stage.Tick (is_vspec t) s _ _ (captured_keeps _ _ s)
    (keeps_more (addressed_keeps stage.Tick n s) (captured_keeps _ _ (addressed n s))))

in_tick_keeps : (n : ℕ) (t : CType) (h : Option Home) → IsKeeping stage.Tick (in_tick n t h)
in_tick_keeps n t None s new x e = gives_keeps stage.Tick s new _ x e (keeps_refl stage.Tick s)
in_tick_keeps n t (Some h) s new x e = gives_keeps stage.Tick s new _ x e (outer_keeps n h t s)

under_dollar_keeps : (line n : ℕ) (t : CType) (h : Option Home) → IsKeeping stage.Dollar (under_dollar line n t h)
under_dollar_keeps line n t None s new x e = cc
under_dollar_keeps line n t (Some h) s new x e = gives_keeps stage.Dollar s new _ x e (keeps_refl stage.Dollar s)

variable_keeps : (line : ℕ) (g : Stage) (n : ℕ) (t : CType) → IsKeeping g (variable line g n t)
variable_keeps line stage.Function n t s new x e = gives_keeps stage.Function s new _ x e (keeps_refl stage.Function s)
variable_keeps line stage.Tick n t s new x e = in_tick_keeps n t (slice_get s.frame.homes n) s new x e
variable_keeps line stage.Dollar n t s new x e = under_dollar_keeps line n t (slice_get s.frame.homes n) s new x e

parameter_keeps : (g : Stage) (n : ℕ) (t : CType) → IsKeeping g (parameter g n t)
parameter_keeps stage.Function n t s new x e = gives_keeps stage.Function s new _ x e (keeps_refl stage.Function s)
parameter_keeps stage.Tick n t s new x e = gives_keeps stage.Tick s new _ x e (outer_keeps n _ t s)
parameter_keeps stage.Dollar n t s new x e = gives_keeps stage.Dollar s new _ x e (keeps_refl stage.Dollar s)

global_keeps : (g : Stage) (n : ℕ) (t : CType) (s : State) → Keeps g s (global g n t s).1
global_keeps stage.Function n t s = keeps_refl stage.Function s
global_keeps stage.Tick n t s =
    choice_keeps stage.Tick (is_cspec t) s _ _ (captured_keeps _ _ s)
    (choice_keeps stage.Tick (is_vspec t) s _ _ (captured_keeps _ _ s) (keeps_refl stage.Tick s))
global_keeps stage.Dollar n t s = keeps_refl stage.Dollar s

meant_keeps : (line : ℕ) (g : Stage) (k : MeaningKind) (n : ℕ) (t : CType) → IsKeeping g (meant line g k n t)
meant_keeps line g kind.Variable n t s new x e = variable_keeps line g n t s new x e
meant_keeps line g kind.Parameter n t s new x e = parameter_keeps g n t s new x e
meant_keeps line g kind.Global n t s new x e = gives_keeps g s new _ x e (global_keeps g n t s)
meant_keeps line g kind.Function n t s new x e = gives_keeps g s new _ x e (keeps_refl g s)
meant_keeps line g kind.Library n t s new x e = cc

named_by_keeps : (line : ℕ) (g : Stage) (m : Option Meaning) → IsKeeping g (named_by line g m)
named_by_keeps line g None s new x e = cc
named_by_keeps line g (Some m) s new x e = meant_keeps line g m.kind m.index m.ctype s new x e

pub named_keeps : (line : ℕ) (g : Stage) (name : Name) → IsKeeping g (named line g name)
unfolding named
named_keeps line g name s new x e = named_by_keeps line g (find s.scopes name) s new x e

-- ---- ticks

-- into a tick, a walk in it that keeps what an expression keeps, and out of it
pub tick_keeps : (b : TickBody) (t : CType) (s z : State) → Keeps stage.Tick (tick_entered s) z →
    Keeps stage.Function s (tick_left b t z).1
tick_keeps b t s z k = record {
  tables = record {
    scopes = k.tables.scopes;
    result = k.tables.result;
    homes = k.tables.homes;
    nodes = k.tables.nodes;
    object = k.tables.object;
    labels = k.tables.labels;
    functions = k.tables.functions;
    image = record { end = k.tables.image.end; globals = k.tables.image.globals; at = k.tables.image.at };
  };
  at = record { rest = ticks.tick_of b ∷ []; is = ap (λ l. l ++ ticks.tick_of b ∷ []) k.at.0.ticks };
}
