-- A function of the program stands right, and what it leaves for the items behind it.
use Rattle.std.proofs.Common.{◌≡◌, ℕ, ◌+◌, ◌-◌, ◌≤◌, false, refl, ap, sym, ◌∙◌, subst, List, [], ◌∷◌, length, take, Ok}
use Rattle.std.proofs.Common.{arith}
use Rattle.c_types.specs.declared.ctype.CType.{CType}
use Rattle.c_types.specs.Types.{is_unlisted, outermost, layers_of}
use Rattle.check_scopes.specs.Scopes.{Scope, Scopes}
use Rattle.check_declarators.specs.declared.steps.Step.{Step}
use Rattle.check_declarators.specs.declared.steps.Step.TheVariants as step
use Rattle.check_declarators.specs.Words as words
use Rattle.check_types.specs.Shapes.{is_void}
use Rattle.tick_tree.specs.declared.base.Base.{Base}
use Rattle.typed_tree.specs.declared.expression.Stmt.{Stmt}
use Rattle.check_rules.specs.declared.ticks.Ticks.{Ticks}
use Rattle.check_rules.specs.Walks.{Rule}
use Rattle.check_rules.specs.declared.state.Stage.TheVariants as stage
use Rattle.check_rules.specs.declared.state.State.{State}
use Rattle.check_rules.specs.ExpressionRules as rules
use Rattle.check_rules.specs.ExpressionRules.{Shape, Item}
use Rattle.check_globals.specs.Functions.{Given, types_of}
use Rattle.check_globals.specs.Names as names
use Rattle.check_globals.specs.Program.{around}
use Rattle.wf_walk.specs.Good.{any_computed, GoodShape}
use Rattle.wf_walk.specs.Items.{GoodStatement}
use Rattle.wf_walk.specs.Kept.{Starts, KeepsGlobals, Grows, IsGrowing, outer}
use Rattle.wf_walk.proofs.Fronts.{starts_same}
use Rattle.wf_walk.proofs.Lengths.{none_computed}
use Rattle.wf_walk.proofs.Blocks.{inside}
use Rattle.wf_programs.proofs.Declared.{FileType, file_type, file_value, named_computed, first_list, first_types}
use Rattle.wf_programs.proofs.Declared.{first_few, open_type, named_open}
use Rattle.wf_programs.proofs.Files.{many}
use Rattle.wf_programs.proofs.Given.{EachObject, All}
use Rattle.wf_programs.proofs.Runs.{TypeRan}
use Rattle.wf_programs.proofs.Steps.{starts_trans}
use Rattle.wf_programs.proofs.Still.{Still, plain_still}

-- ---- what is asked of a function's parts

pub record GoodFunction (many : List ℕ) (d : Shape) (gs : List Given) (items : List Item) : Type 0 where
  pub shape : GoodShape d
  -- the types of a list are those of variables
  pub objects : (s new : State) (xs : List Step) → d.walk stage.Function s ≡ Ok (xs, new) → EachObject (first_list xs)
  -- each of them is of a parameter as it is written
  pub enough : (s new : State) (xs : List Step) → d.walk stage.Function s ≡ Ok (xs, new) →
      length (first_list xs) ≤ length gs
  pub walks : GoodStatement many around (rules.each items around)
  pub few : (s new : State) (xs : List Stmt) → rules.each items around s ≡ Ok (xs, new) →
      length new.frame.homes ≤ length s.frame.homes + 900000000

-- ---- its type

first_named : (ss : List Step) → first_list (names.named_steps ss) ≡ first_list ss
first_named [] = refl
first_named (step.Prefix p ∷ ss) = refl
first_named (step.Array n ∷ ss) = refl
first_named (step.Function list ∷ ss) = refl
first_named (step.Unlisted ∷ ss) = refl

pub record Typed (line : ℕ) (b : Base) (d : Shape) (gs : List Given) (s new : State) (t : CType) : Type 0 where
  pub still : Still s new
  pub image : KeepsGlobals s new
  pub value : is_void t ≡ false
  pub list : is_unlisted (outermost (layers_of t)) ≡ false
  pub few : length (types_of t) ≤ 8
  pub enough : length (types_of t) ≤ length gs
  pub objects : EachObject (types_of t)

pub function_typed : (many : List ℕ) (line : ℕ) (b : Base) (d : Shape) (gs : List Given) (items : List Item)
    (s new : State) (t : CType) → GoodFunction many d gs items → TypeRan line b d s new t → Typed line b d gs s new t
function_typed many line b d gs items s new t good r =
    let f : FileType (words.base_of b) (names.named_steps r.steps) t =
    file_type line (words.base_of b) (names.named_steps r.steps) t r.typed in
    let computed : any_computed r.steps ≡ false =
    sym (named_computed r.steps) ∙ none_computed (names.named_steps r.steps) (words.base_of b) [] f.worst in
    let types : types_of t ≡ first_list r.steps =
    first_types (words.base_of b) (names.named_steps r.steps) t f ∙ first_named r.steps in
    let plain = (good.shape stage.Function s new r.steps r.walked computed).0 in
    record {
      still = plain_still s new plain;
      image = plain.tables.image;
      value = file_value (words.base_of b) (names.named_steps r.steps) t f;
      list = open_type (words.base_of b) (names.named_steps r.steps) t f ∙ named_open r.steps;
      few = subst (λ (ts : List CType). length ts ≤ 8)
          (sym (first_types (words.base_of b) (names.named_steps r.steps) t f))
          (first_few (words.base_of b) (names.named_steps r.steps) f.worst);
      enough = subst (λ (ts : List CType). length ts ≤ length gs) (sym types) (good.enough s new r.steps r.walked);
      objects = subst EachObject (sym types) (good.objects s new r.steps r.walked);
    }

-- ---- its block

-- what a function leaves between itself and the state before its block
pub record Blocked (top : Scope) (s last : State) : Type 0 where
  pub scopes : take (length s.scopes) last.scopes ≡ top ∷ []
  pub functions : last.functions ≡ s.functions
  pub ticks : Starts s.ticks.all last.ticks.all

back_out : (top scope : Scope) (given last : Scopes) → given ≡ top ∷ scope ∷ [] → length last ≡ length given →
    outer last ≡ outer given → take 1 last ≡ top ∷ []
back_out top scope given last two depth out =
    let n : length last - 1 ≡ 1 = (let z : length given ≡ 2 = ap length two in omega arith) in
    ap (λ (i : ℕ). take i last) (sym n) ∙ out ∙ ap outer two

pub blocked : (top : Scope) (n : ℕ) (step : Rule State (List Stmt)) (s given last : State) (xs : List Stmt) →
    s.scopes ≡ top ∷ [] → All top n (inside s) given
    → IsGrowing stage.Function step → step given ≡ Ok (xs, last) → Blocked top s last
blocked top n step s given last xs one all grows is =
    let g : Grows stage.Function given last = grows given last xs is in
    record {
      scopes = ap (λ (i : ℕ). take i last.scopes) (ap length one) ∙
          back_out top all.at.scope given.scopes last.scopes all.at.two g.tables.depth g.tables.scopes;
      functions = g.tables.functions ∙ all.aside.functions;
      ticks = starts_trans s.ticks.all given.ticks.all last.ticks.all
          (starts_same s.ticks.all given.ticks.all (ap (λ (t : Ticks). t.all) all.aside.ticks)) g.at.ticks;
    }
