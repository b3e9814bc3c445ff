-- What a declaration at file scope leaves: names that mean something, and nothing of functions but prototypes.
use Rattle.std.proofs.Common.{◌≡◌, ℕ, Bool, true, false, if◌then◌else◌, refl, ap, sym, ◌∙◌, subst, List, [], ◌∷◌, ◌++◌}
use Rattle.std.proofs.Common.{length, Some, Ok}
use Rattle.c_types.specs.declared.ctype.CType.{CType}
use Rattle.check_scopes.specs.declared.names.Meaning.{Meaning}
use Rattle.check_scopes.specs.Scopes.{Name, Scope, in_scope}
use Rattle.c_types.specs.Types.{is_unlisted, outermost, layers_of}
use Rattle.check_declarators.specs.declared.steps.Role.TheVariants as role
use Rattle.check_declarators.specs.declared.steps.Step.{Step}
use Rattle.check_declarators.specs.Making.{declared_type}
use Rattle.check_declarators.specs.Words as words
use Rattle.check_types.specs.Shapes.{is_void, is_function}
use Rattle.tick_tree.specs.declared.base.Base.{Base}
use Rattle.check_rules.specs.declared.functions.Functions.{Functions}
use Rattle.check_rules.specs.declared.functions.Prototype.{Prototype}
use Rattle.check_rules.specs.Functions as tables
use Rattle.check_rules.specs.Walks.{lift}
use Rattle.check_rules.specs.declared.state.Stage.TheVariants as stage
use Rattle.check_rules.specs.declared.state.State.{State}
use Rattle.check_rules.specs.ExpressionRules.{Shape}
use Rattle.check_rules.specs.Declarations.{name_by}
use Rattle.check_globals.specs.Names as names
use Rattle.check_globals.specs.Program as program
use Rattle.check_rules.specs.Walk.{Start, Nothing, Value, Values, InitParts, with_start}
use Rattle.wf_nodes.proofs.Declared.{types_use}
use Rattle.wf_walk.specs.Good.{any_computed, GoodShape}
use Rattle.wf_walk.specs.Kept.{KeepsGlobals}
use Rattle.wf_walk.specs.Known.{EachEntry, IsObject}
use Rattle.wf_walk.proofs.Walks.{pure_same}
use Rattle.wf_walk.proofs.Fronts.{starts_same}
use Rattle.wf_walk.proofs.Lengths.{none_computed}
use Rattle.wf_walk.proofs.Lists.{get_last}
use Rattle.wf_programs.proofs.Declared.{FileType, file_type, named_computed, filled_computed, first_open, open_type}
use Rattle.wf_programs.proofs.Declared.{named_open, filled_open}
use Rattle.wf_programs.proofs.Names.{NamedPrototype, prototype_named}
use Rattle.wf_programs.proofs.Scopes.{FileName, IsCallable, Declared, Later, file_later, found_front, each_more}
use Rattle.wf_programs.proofs.Scopes.{AllFound, all_found_more}
use Rattle.wf_programs.proofs.Steps.{Parts, parts, Lifted, lifted, starts_trans}
use Rattle.wf_programs.proofs.Still.{Still, plain_still, StaticStart, begin_still, no_start}
use Rattle.wf_programs.proofs.Variables.{next_global, NamedVariable, variable_named}

-- ---- what is asked of a declarator with its beginning

pub record GoodInit (i : InitParts) : Type 0 where
  pub shape : GoodShape i.shape
  pub start : StaticStart i.start

abbrev pub EachInit : List InitParts → Type 0
EachInit [] = Unit {0}
EachInit (i ∷ is) = GoodInit i × EachInit is

-- ---- what a declaration does

pub record GlobalDone (whole : List Name) (s new : State) (sc : Scope) : Type 0 where
  pub scope : Scope
  pub one : new.scopes ≡ scope ∷ []
  pub keeps : (n : Name) (m : Meaning) → in_scope sc n ≡ Some m → in_scope scope n ≡ Some m
  pub names : EachEntry (FileName whole s.functions) sc → EachEntry (FileName whole new.functions) scope
  pub every : AllFound sc → AllFound scope
  pub later : Later s.functions new.functions
  pub defined : new.functions.defined ≡ s.functions.defined
  pub all : new.functions.all ≡ s.functions.all
  pub ticks : new.ticks.all ≡ s.ticks.all

later_refl : (f : Functions) → Later f f
later_refl f = record { earlier = refl; prototypes = starts_same f.prototypes f.prototypes refl }

later_more : (f g h : Functions) → Later f g → Later g h → Later f h
later_more f g h p q = record {
  earlier = q.earlier ∙ p.earlier;
  prototypes =
      starts_trans f.prototypes g.prototypes h.prototypes p.prototypes q.prototypes;
}

pub global_same : (whole : List Name) (s : State) (sc : Scope) → s.scopes ≡ sc ∷ [] → GlobalDone whole s s sc
global_same whole s sc one =
    record {
      scope = sc;
      one = one;
      keeps = λ n m h. h;
      names = λ h. h;
      every = λ h. h;
      later = later_refl s.functions;
      defined = refl;
      all = refl;
      ticks = refl;
    }

pub global_more : (whole : List Name) (s m new : State) (sc : Scope) → (p : GlobalDone whole s m sc) →
    GlobalDone whole m new p.scope → GlobalDone whole s new sc
global_more whole s m new sc p q = record {
  scope = q.scope;
  one = q.one;
  keeps = λ n x h. q.keeps n x (p.keeps n x h);
  names = λ h. q.names (p.names h);
  every = λ h. q.every (p.every h);
  later = later_more s.functions m.functions new.functions p.later q.later;
  defined = q.defined ∙ p.defined;
  all = q.all ∙ p.all;
  ticks = q.ticks ∙ p.ticks;
}

pub global_still : (whole : List Name) (s new : State) (sc : Scope) → s.scopes ≡ sc ∷ [] → Still s new →
    GlobalDone whole s new sc
global_still whole s new sc one h = record {
  scope = sc;
  one = h.scopes ∙ one;
  keeps = λ n m k. k;
  names = λ k. subst (λ (f : Functions). EachEntry (FileName whole f) sc) (sym h.functions) k;
  every = λ k. k;
  later = subst (λ (f : Functions). Later s.functions f) (sym h.functions) (later_refl s.functions);
  defined = ap (λ (f : Functions). f.defined) h.functions;
  all = ap (λ (f : Functions). f.all) h.functions;
  ticks = h.ticks;
}

-- ---- a prototype

pub prototype_done : (whole : List Name) (line : ℕ) (name : Name) (t : CType) (s new : State) (u : Unit {0})
    (sc : Scope) → s.scopes ≡ sc ∷ [] → IsCallable t
    → names.prototype line name t s ≡ Ok (u, new) → GlobalDone whole s new sc
prototype_done whole line name t s new u sc one callable is =
    let n : NamedPrototype line name t s new sc = prototype_named line name t s new u sc one is in
    let p : Prototype = record { line = line; name = name } in
    let later : Later s.functions (tables.with_prototype line name s.functions) =
    record { earlier = refl; prototypes = record { rest = record { line = line; name = name } ∷ []; is = refl } } in
    subst (λ (z : State). GlobalDone whole s z sc) (sym n.is)
    (record {
      scope = n.scope;
      one = refl;
      keeps = n.keeps;
      names = λ h. n.names (FileName whole (tables.with_prototype line name s.functions))
          (file_later whole s.functions (tables.with_prototype line name s.functions) sc later h) (
            Declared (length s.functions.prototypes) (record { line = line; name = name })
                (get_last s.functions.prototypes (record { line = line; name = name })) refl refl,
            callable,
          );
      every = n.every;
      later = later;
      defined = refl;
      all = refl;
      ticks = refl;
    })

-- ---- a variable

pub variable_done : (whole : List Name) (line : ℕ) (name : Name) (t : CType) (s new : State) (at : ℕ) (sc : Scope) →
    s.scopes ≡ sc ∷ [] → IsObject t
    → names.variable line name t s ≡ Ok (at, new) → GlobalDone whole s new sc
variable_done whole line name t s new at sc one object is =
    let n : NamedVariable name t s new at sc = variable_named line name t s new at sc one is in
    subst (λ (z : State). GlobalDone whole s z sc) (sym n.is)
    (record {
      scope = sc ++ (name, next_global t s) ∷ [];
      one = refl;
      keeps = λ m x h. found_front sc (name, next_global t s) m x h;
      names = λ h. each_more (FileName whole s.functions) sc name (next_global t s) h object;
      every = λ h. all_found_more sc name (next_global t s) n.fresh h;
      later = later_refl s.functions;
      defined = refl;
      all = refl;
      ticks = refl;
    })

-- ---- a declarator

started : (start : Start) (ss : List Step) → any_computed (with_start start ss) ≡ any_computed ss
started Nothing ss = refl
started (Value e) ss = filled_computed _ ss
started (Values es) ss = filled_computed _ ss

start_open : (start : Start) (ss : List Step) → first_open (with_start start ss) ≡ first_open ss
start_open Nothing ss = refl
start_open (Value e) ss = filled_open _ ss
start_open (Values es) ss = filled_open _ ss

pub record GlobalType (line : ℕ) (b : Base) (d : Shape) (start : Start) (s new : State) (t : CType) : Type 0 where
  pub still : Still s new
  pub image : KeepsGlobals s new
  pub steps : List Step
  pub to : State
  pub walked : d.walk stage.Function s ≡ Ok (steps, to)
  pub typed : declared_type role.FileScope line (words.base_of b) (with_start start (names.named_steps steps)) ≡ Ok t
  pub computed : any_computed steps ≡ false
  pub object : IsObject t
  pub list : is_unlisted (outermost (layers_of t)) ≡ false

pub global_typed : (line : ℕ) (b : Base) (d : Shape) (start : Start) (s new : State) (t : CType) → GoodShape d →
    program.global_type line b d start s ≡ Ok (t, new) → GlobalType line b d start s new t
global_typed line b d start s new t good is =
    let p : Parts (d.walk stage.Function)
    (λ ss. lift (declared_type role.FileScope line (words.base_of b) (with_start start (names.named_steps ss)))) s new
    t
    = parts (d.walk stage.Function)
    (λ ss. lift (declared_type role.FileScope line (words.base_of b) (with_start start (names.named_steps ss)))) s new
    t is in
    let l : Lifted (declared_type role.FileScope line (words.base_of b) (with_start start (names.named_steps p.answer)))
    p.between new t
    = lifted (declared_type role.FileScope line (words.base_of b) (with_start start (names.named_steps p.answer)))
    p.between new t p.second in
    let f : FileType (words.base_of b) (with_start start (names.named_steps p.answer)) t =
    file_type line (words.base_of b) (with_start start (names.named_steps p.answer)) t l.gave in
    let computed : any_computed p.answer ≡ false
    = sym (named_computed p.answer) ∙ sym (started start (names.named_steps p.answer)) ∙
    none_computed (with_start start (names.named_steps p.answer)) (words.base_of b) [] f.worst in
    let plain = (good stage.Function s p.between p.answer p.first computed).0 in
    record {
      still = subst (λ (z : State). Still s z) (sym l.same)
          (plain_still s p.between plain);
      image = subst (λ (z : State). KeepsGlobals s z) (sym l.same) plain.tables.image;
      steps = p.answer;
      to = p.between;
      walked = p.first;
      typed = l.gave;
      computed = computed;
      list = open_type (words.base_of b) (with_start start (names.named_steps p.answer)) t f ∙
          start_open start (names.named_steps p.answer) ∙ named_open p.answer;
      object = record {
        type = types_use.declared role.FileScope line (words.base_of b) (with_start start (names.named_steps p.answer))
            t refl l.gave;
        specified = types_use.vspec role.FileScope line (words.base_of b)
            (with_start start (names.named_steps p.answer)) t l.gave;
      };
    }

prototype_parts : (whole : List Name) (line : ℕ) (t : CType) (d : Shape) (start : Start) (s new : State) (u : Unit {0})
    (sc : Scope) → s.scopes ≡ sc ∷ [] → IsCallable t
    → program.prototype line t d start s ≡ Ok (u, new) → GlobalDone whole s new sc
prototype_parts whole line t d start s new u sc one callable is =
    let p : Parts (names.prototype line (name_by d.declared.name) t) (λ v. program.no_start line start) s new u
    = parts (names.prototype line (name_by d.declared.name) t) (λ v. program.no_start line start) s new u is in
    let first : GlobalDone whole s p.between sc =
    prototype_done whole line (name_by d.declared.name) t s p.between p.answer sc one callable p.first in
    global_more whole s p.between new sc first
    (global_still whole p.between new first.scope first.one (no_start line start p.between new u p.second))

variable_parts : (whole : List Name) (line : ℕ) (t : CType) (d : Shape) (start : Start) (s new : State) (u : Unit {0})
    (sc : Scope) → s.scopes ≡ sc ∷ [] → IsObject t → StaticStart start
    → program.variable line t d start s ≡ Ok (u, new) → GlobalDone whole s new sc
variable_parts whole line t d start s new u sc one object good is =
    let p : Parts (names.variable line (name_by d.declared.name) t) (λ at. program.static_begin line at t start) s new u
    = parts (names.variable line (name_by d.declared.name) t) (λ at. program.static_begin line at t start) s new u is in
    let first : GlobalDone whole s p.between sc =
    variable_done whole line (name_by d.declared.name) t s p.between p.answer sc one object p.first in
    global_more whole s p.between new sc first
    (global_still whole p.between new first.scope first.one
    (begin_still line p.answer t start p.between new u good p.second))

named_case : (b : Bool) (whole : List Name) (line : ℕ) (t : CType) (d : Shape) (start : Start) (s new : State)
    (u : Unit {0}) (sc : Scope) → s.scopes ≡ sc ∷ [] → IsObject t → is_unlisted (outermost (layers_of t)) ≡ false →
    StaticStart start
    → (if b then program.prototype line t d start else program.variable line t d start) s ≡ Ok (u, new) →
    GlobalDone whole s new sc
named_case true whole line t d start s new u sc one object list good is =
    prototype_parts whole line t d start s new u sc one (record { type = object.type; list = list }) is
named_case false whole line t d start s new u sc one object list good is =
    variable_parts whole line t d start s new u sc one object good is

pub global_done : (whole : List Name) (line : ℕ) (b : Base) (i : InitParts) (s new : State) (u : Unit {0}) (sc : Scope)
    → GoodInit i → s.scopes ≡ sc ∷ []
    → program.global line b i s ≡ Ok (u, new) → GlobalDone whole s new sc
global_done whole line b i s new u sc good one is =
    let p : Parts (program.global_type line b i.shape i.start) (λ t. program.named line t i.shape i.start) s new u
    = parts (program.global_type line b i.shape i.start) (λ t. program.named line t i.shape i.start) s new u is in
    let ty : GlobalType line b i.shape i.start s p.between p.answer =
    global_typed line b i.shape i.start s p.between p.answer good.shape p.first in
    let first : GlobalDone whole s p.between sc = global_still whole s p.between sc one ty.still in
    global_more whole s p.between new sc first
    (named_case (is_function p.answer) whole line p.answer i.shape i.start p.between new u first.scope first.one
    ty.object ty.list good.start p.second)

-- a declaration
pub globals_done : (whole : List Name) (line : ℕ) (b : Base) (is : List InitParts) (s new : State) (u : Unit {0})
    (sc : Scope) → EachInit is → s.scopes ≡ sc ∷ []
    → program.globals line b is s ≡ Ok (u, new) → GlobalDone whole s new sc
globals_done whole line b [] s new u sc good one h =
    subst (λ (z : State). GlobalDone whole s z sc) (pure_same tt u s new h) (global_same whole s sc one)
globals_done whole line b (i ∷ is) s new u sc good one h =
    let p : Parts (program.global line b i) (λ v. program.globals line b is) s new u =
    parts (program.global line b i) (λ v. program.globals line b is) s new u h in
    let first : GlobalDone whole s p.between sc =
    global_done whole line b i s p.between p.answer sc good.0 one p.first in
    global_more whole s p.between new sc first
    (globals_done whole line b is p.between new u first.scope good.1 first.one p.second)
