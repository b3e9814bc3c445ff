-- The law on a whole program, from the laws on its parts.
use Rattle.std.proofs.Common.{◌≡◌, ℕ, ◌+◌, ◌≤◌, sym, subst, List, [], ◌∷◌, length, map, Ok, arith}
use Rattle.tick_tree.specs.declared.syntax.Declaration.{out-Declaration}
use Rattle.tick_tree.specs.declared.syntax.External.{External}
use Rattle.tick_tree.specs.declared.syntax.External.TheVariants as ext
use Rattle.tick_tree.specs.declared.syntax.Init.{Init, out-Init}
use Rattle.tick_tree.specs.declared.syntax.Stmt.{Stmt as Written}
use Rattle.typed_tree.specs.declared.expression.Stmt.{Stmt}
use Rattle.check_rules.specs.declared.state.Stage.TheVariants as stage
use Rattle.check_rules.specs.declared.state.State.{State}
use Rattle.check_rules.specs.ExpressionRules as rules
use Rattle.check_rules.specs.ExpressionRules.{Node, Shape, Item}
use Rattle.check_globals.specs.Program.{around}
use Rattle.check_rules.specs.Walk.{Start, Nothing, Value, Values, InitParts, Declarations, declaration, item, init}
use Rattle.check_laws.proofs.Equations.{at_init, at_declaration}
use Rattle.wf_growth_rules.specs.Light.{Light}
use Rattle.wf_growth_rules.proofs.Expressions.{each_light}
use Rattle.wellformed.proofs.Viewed.{well_formed}
use Rattle.wf_walk.specs.Good.{GoodNode}
use Rattle.wf_walk.specs.Items.{GoodItem}
use Rattle.wf_walk.specs.Parts.{EachPart, FixedShape}
use Rattle.wf_walk.proofs.FixedWalks.{walks_fixed}
use Rattle.wf_walk.proofs.Assembly.{each_good}
use Rattle.wf_programs.specs.Parts.{GoodStart, GoodInit as GoodLocal}
use Rattle.tick_tree.specs.Weights.{total, statement_weight, item_weight}
use Rattle.wf_growth_rules.proofs.Few.{items_light}
use Rattle.wf_programs.proofs.Trees.{small_are_good}
use Rattle.tick_tree.specs.Named.{EachNamed}
use Rattle.wf_programs.specs.Laws.{CheckedIsWellFormed}
use Rattle.wf_programs.proofs.Ends.{EachFixed, AllFixed}
use Rattle.wf_programs.proofs.Fits.{all_fit}
use Rattle.wf_programs.proofs.Globals.{EachInit}
use Rattle.wf_programs.proofs.Listed.{enough}
use Rattle.wf_programs.proofs.Lists.{list_objects}
use Rattle.wf_programs.proofs.Still.{StaticNode, EachStatic, StaticStart}
use Rattle.wf_programs.proofs.Top.{program_accepted}
use Rattle.wf_programs.proofs.Walk.{GoodExternal, EachGood}
use Rattle.check_rules.specs.Bounds.{count_bound}

-- ---- declarations

static_node : (many : List ℕ) (n : Node) → GoodNode many n → StaticNode n
static_node many n g = record {
  constant = λ c s new o is. (g.constant c stage.Function s new o is).0;
  string = λ c s new o is. g.string c stage.Function s new o is;
}

static_each : (many : List ℕ) (ns : List Node) → EachPart (GoodNode many) ns → EachStatic ns
static_each many [] h = tt
static_each many (n ∷ ns) h = (static_node many n h.0, static_each many ns h.1)

static_start : (many : List ℕ) (start : Start) → GoodStart many start → StaticStart start
static_start many Nothing h = tt
static_start many (Value e) h = static_node many e h
static_start many (Values es) h = static_each many es h

inits_good : (many : List ℕ) (is : List InitParts) → EachPart (GoodLocal many) is → EachInit is
inits_good many [] h = tt
inits_good many (i ∷ is) h =
    (record { shape = h.0.shape; start = static_start many i.start h.0.start }, inits_good many is h.1)

-- ---- functions

items_good : (many : List ℕ) (ss : List Written) → total (map statement_weight ss) ≤ count_bound →
    EachPart (GoodItem many) (map item ss)
items_good many [] h = tt
items_good many (s ∷ ss) h = ((small_are_good many).item s (omega arith), items_good many ss (omega arith))

few_homes : (ss : List Written) (s new : State) (xs : List Stmt) → total (map statement_weight ss) ≤ 900000000 →
    rules.each (map item ss) around s ≡ Ok (xs, new)
    → length new.frame.homes ≤ length s.frame.homes + 900000000
few_homes ss s new xs h is =
    let l : Light (total (map statement_weight ss)) s new =
    (each_light (map item ss) around (items_light ss)).light s new xs is in
    let k : length new.frame.homes ≤ length s.frame.homes + total (map statement_weight ss) = l.homes in
    omega arith

external_good : (many : List ℕ) (x : External) (xs : List External) → EachNamed (x ∷ xs) → item_weight x ≤ 900000000 →
    GoodExternal many x
external_good many (ext.Function line b d ss) xs named few = record {
  shape = (small_are_good many).shape d (omega arith);
  objects = list_objects d;
  enough = enough d named.0;
  walks = each_good many (map item ss) around tt (items_good many ss (omega arith));
  few = λ s new ys is. few_homes ss s new ys (omega arith) is;
}
external_good many (ext.Declaration d) xs named few =
    inits_good many (declaration d).inits ((small_are_good many).declaration d (omega arith))

rest_named : (x : External) (xs : List External) → EachNamed (x ∷ xs) → EachNamed xs
rest_named (ext.Function line b d ss) xs h = h.1
rest_named (ext.Declaration d) xs h = h

each_external : (many : List ℕ) (xs : List External) → EachNamed xs → total (map item_weight xs) ≤ 900000000 →
    EachGood many xs
each_external many [] named few = tt
each_external many (x ∷ xs) named few =
    (external_good many x xs named (omega arith), each_external many xs (rest_named x xs named) (omega arith))

-- ---- both walks

init_fixed : (x : Init) → FixedShape (init x).shape
init_fixed x = subst (λ (i : InitParts). FixedShape i.shape) (sym (at_init x))
    (walks_fixed.declarators (out-Init x).declarator)

inits_fixed : (xs : List Init) → EachFixed (map init xs)
inits_fixed [] = tt
inits_fixed (x ∷ xs) = (init_fixed x, inits_fixed xs)

all_fixed : (xs : List External) → AllFixed xs
all_fixed [] = tt
all_fixed (ext.Function line b d ss ∷ xs) = (tt, all_fixed xs)
all_fixed (ext.Declaration d ∷ xs) = (
  subst (λ (z : Declarations). EachFixed z.inits) (sym (at_declaration d)) (inits_fixed (out-Declaration d).inits),
  all_fixed xs,
)

-- ---- the law

pub well_formed_law : CheckedIsWellFormed
well_formed_law t p h is =
    well_formed p (program_accepted t p all_fit (λ n. each_external n t.items h.named (omega (arith, h.small)))
    (all_fixed t.items) is)
