-- The walk over a function, taken apart.
use Rattle.std.proofs.Common.{◌≡◌, ℕ, ap, sym, ◌∙◌, List, length, Option, Ok}
use Rattle.c_types.specs.declared.ctype.CType.{CType}
use Rattle.check_forms.specs.Forms.{Name}
use Rattle.check_declarators.specs.declared.steps.Role.TheVariants as role
use Rattle.check_declarators.specs.declared.steps.Step.{Step}
use Rattle.check_declarators.specs.Making.{declared_type}
use Rattle.check_declarators.specs.Words as words
use Rattle.tick_tree.specs.declared.base.Base.{Base}
use Rattle.typed_tree.specs.declared.expression.Stmt.{Stmt}
use Rattle.typed_tree.specs.declared.expression.Stmt.TheVariants as st
use Rattle.check_rules.specs.Frames as frames
use Rattle.check_rules.specs.Functions as tables
use Rattle.check_rules.specs.Walks.{◌>>=◌, pure, lift}
use Rattle.check_rules.specs.declared.state.Stage.TheVariants as stage
use Rattle.check_rules.specs.declared.state.State.{State}
use Rattle.check_rules.specs.Blocks.{enter, leave}
use Rattle.check_rules.specs.ExpressionRules as rules
use Rattle.check_rules.specs.ExpressionRules.{Shape, Item}
use Rattle.check_rules.specs.Declarations.{name_by}
use Rattle.check_globals.specs.Functions as functions
use Rattle.check_globals.specs.Functions.{Given}
use Rattle.check_globals.specs.Names as names
use Rattle.check_globals.specs.Program as program
use Rattle.wf_walk.proofs.Walks.{pure_same, pure_value}
use Rattle.wf_walk.proofs.Blocks.{inside, behind}
use Rattle.wf_programs.proofs.Steps.{Parts, parts, Lifted, lifted}

pub record BodyRan (t : CType) (gs : List Given) (items : List Item) (s new : State) (x : Stmt) : Type 0 where
  pub given : State
  pub u : Unit {0}
  pub begun : functions.begun t gs (inside s) ≡ Ok (u, given)
  pub last : State
  pub nodes : List Stmt
  pub walked : rules.each items program.around given ≡ Ok (nodes, last)
  pub is : new ≡ behind (length s.scopes) s.frame.nodes last
  pub node : x ≡ st.Block last.frame.nodes nodes

pub body_ran : (t : CType) (gs : List Given) (items : List Item) (s new : State) (x : Stmt) →
    program.body t gs items s ≡ Ok (x, new) → BodyRan t gs items s new x
unfolding enter leave
body_ran t gs items s new x is =
    let p : Parts (program.begun t gs items)
    (λ xs. leave (length s.scopes) s.frame.nodes >>= (λ vs. pure (st.Block vs xs))) (inside s) new x
    = parts (program.begun t gs items) (λ xs. leave (length s.scopes) s.frame.nodes >>= (λ vs. pure (st.Block vs xs)))
    (inside s) new x is in
    let q : Parts (functions.begun t gs) (λ v. rules.each items program.around) (inside s) p.between p.answer
    = parts (functions.begun t gs) (λ v. rules.each items program.around) (inside s) p.between p.answer p.first in
    record {
      given = q.between;
      u = q.answer;
      begun = q.first;
      last = p.between;
      nodes = p.answer;
      walked = q.second;
      is = sym (pure_same (st.Block p.between.frame.nodes p.answer) x (behind (length s.scopes) s.frame.nodes p.between)
          new p.second);
      node = sym (pure_value (st.Block p.between.frame.nodes p.answer) x
          (behind (length s.scopes) s.frame.nodes p.between) new p.second);
    }

-- after a function
abbrev pub ended : ℕ → Option (ℕ × Name) → CType → Stmt → State → State
ended line name t x s = record s
    { functions = tables.with_function (functions.function line name t x s) s.functions; frame = frames.ended s.frame }

ended_is : (line : ℕ) (name : Option (ℕ × Name)) (t : CType) (x : Stmt) (s new : State) (u : Unit {0}) →
    functions.ended line name t x s ≡ Ok (u, new) → new ≡ ended line name t x s
unfolding functions.ended
ended_is line name t x s new u is = sym (pure_same tt u (ended line name t x s) new is)

pub record TypeRan (line : ℕ) (b : Base) (d : Shape) (s new : State) (t : CType) : Type 0 where
  pub steps : List Step
  pub walked : d.walk stage.Function s ≡ Ok (steps, new)
  pub typed : declared_type role.FileScope line (words.base_of b) (names.named_steps steps) ≡ Ok t

pub type_ran : (line : ℕ) (b : Base) (d : Shape) (s new : State) (t : CType) →
    program.function_type line b d s ≡ Ok (t, new) → TypeRan line b d s new t
type_ran line b d s new t is =
    let p : Parts (d.walk stage.Function)
    (λ ss. lift (declared_type role.FileScope line (words.base_of b) (names.named_steps ss))) s new t
    = parts (d.walk stage.Function)
    (λ ss. lift (declared_type role.FileScope line (words.base_of b) (names.named_steps ss))) s new t is in
    let l : Lifted (declared_type role.FileScope line (words.base_of b) (names.named_steps p.answer)) p.between new t
    = lifted (declared_type role.FileScope line (words.base_of b) (names.named_steps p.answer)) p.between new t p.second
    in
    record { steps = p.answer; walked = p.first ∙ ap (λ (z : State). Ok (p.answer, z)) (sym l.same); typed = l.gave }

pub record FunctionRan (line : ℕ) (b : Base) (d : Shape) (gs : List Given) (items : List Item) (s new : State) : Type 0
  where
    pub typed : State
    pub type : CType
    pub first : TypeRan line b d s typed type
    pub named : State
    pub u : Unit {0}
    pub second : functions.named line (name_by d.declared.name) type typed ≡ Ok (u, named)
    pub bodied : State
    pub node : Stmt
    pub third : BodyRan type gs items named bodied node
    pub is : new ≡ ended line d.declared.name type node bodied

pub function_ran : (line : ℕ) (b : Base) (d : Shape) (gs : List Given) (items : List Item) (s new : State)
    (u : Unit {0}) → program.function line b d gs items s ≡ Ok (u, new) → FunctionRan line b d gs items s new
function_ran line b d gs items s new u is =
    let a : Parts (program.function_type line b d)
    (λ t. functions.named line (name_by d.declared.name) t >>= (λ v. program.function_rest line t d gs items)) s new u
    = parts (program.function_type line b d)
    (λ t. functions.named line (name_by d.declared.name) t >>= (λ v. program.function_rest line t d gs items)) s new u
    is in
    let n : Parts (functions.named line (name_by d.declared.name) a.answer)
    (λ v. program.function_rest line a.answer d gs items) a.between new u
    = parts (functions.named line (name_by d.declared.name) a.answer)
    (λ v. program.function_rest line a.answer d gs items) a.between new u a.second in
    let r : Parts (program.body a.answer gs items) (λ x. functions.ended line d.declared.name a.answer x) n.between new
    u
    = parts (program.body a.answer gs items) (λ x. functions.ended line d.declared.name a.answer x) n.between new u
    n.second in
    record {
      typed = a.between;
      type = a.answer;
      first = type_ran line b d s a.between a.answer a.first;
      named = n.between;
      u = n.answer;
      second = n.first;
      bodied = r.between;
      node = r.answer;
      third = body_ran a.answer gs items n.between r.between r.answer r.first;
      is = ended_is line d.declared.name a.answer r.answer r.between new u r.second;
    }
