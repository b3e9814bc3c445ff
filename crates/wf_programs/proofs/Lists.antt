-- The types in the parameter lists of a declarator are those of variables.
use Rattle.std.proofs.Common.{◌≡◌, ℕ, refl, ap, sym, subst, List, [], ◌∷◌, ◌++◌, Option, Some, None, Ok}
use Rattle.c_types.specs.declared.ctype.CType.{CType}
use Rattle.check_declarators.specs.declared.steps.Length.TheVariants as len
use Rattle.check_declarators.specs.declared.steps.Role.TheVariants as role
use Rattle.check_declarators.specs.declared.steps.Step.{Step}
use Rattle.check_declarators.specs.declared.steps.Step.TheVariants as step
use Rattle.check_declarators.specs.Making.{declared_type}
use Rattle.check_declarators.specs.Steps.{prefixed}
use Rattle.check_declarators.specs.Words as words
use Rattle.tick_tree.specs.declared.base.Base.{Base}
use Rattle.tick_tree.specs.declared.base.Prefix.{Prefix}
use Rattle.tick_tree.specs.declared.syntax.Declarator.{Declarator}
use Rattle.tick_tree.specs.declared.syntax.Core.TheOpen.{Core-F, Suffix-F}
use Rattle.check_rules.specs.Walks.{◌>>=◌, pure, lift}
use Rattle.check_rules.specs.declared.state.Stage.TheVariants as stage
use Rattle.check_rules.specs.declared.state.State.{State}
use Rattle.check_rules.specs.Blocks.{depth, enter, leave}
use Rattle.check_rules.specs.ExpressionRules.{Node, Shape}
use Rattle.check_rules.specs.Declarations as declarations
use Rattle.check_rules.specs.Declarations.{length_of}
use Rattle.check_rules.specs.StatementRules.{each_step, each_type, list_step, length_step}
use Rattle.check_rules.specs.Walk.{SuffixWalk, TypeWalk, Core-W, Suffix-W, core_rule, suffix_walk, suffix_walks}
use Rattle.check_rules.specs.Walk.{type_walks, declarator_walk, parameter_walk, shape}
use Rattle.wf_walk.specs.Parts.{EachPart}
use Rattle.wf_walk.proofs.Walks.{pure_value}
use Rattle.wf_walk.specs.Asked.{Asked, RulesKeep, EveryCore, EverySuffix}
use Rattle.wf_walk.proofs.Induction.{holds_declarator}
use Rattle.wf_nodes.proofs.Declared.{types_use}
use Rattle.wf_walk.specs.Known.{IsObject}
use Rattle.wf_programs.proofs.Declared.{list_of, first_list}
use Rattle.wf_programs.proofs.Given.{EachObject}
use Rattle.wf_programs.proofs.Steps.{Parts, parts, Lifted, lifted}

-- ---- what is asked

abbrev pub EachList : List Step → Type 0
EachList [] = Unit {0}
EachList (s ∷ ss) = EachObject (list_of s) × EachList ss

abbrev pub ObjectShape : Shape → Type 0
ObjectShape d = (s new : State) (xs : List Step) → d.walk stage.Function s ≡ Ok (xs, new) → EachList xs

abbrev ObjectSuffix : SuffixWalk → Type 0
ObjectSuffix w = (s new : State) (x : Step) → w.walk stage.Function s ≡ Ok (x, new) → EachObject (list_of x)

abbrev ObjectParameter : TypeWalk → Type 0
ObjectParameter w = (s new : State) (t : CType) → w.walk stage.Function s ≡ Ok (t, new) → IsObject t

abbrev objects : Asked
objects = record {
  shape = ObjectShape;
  node = λ n. Unit {0};
  start = λ n. Unit {0};
  optional = λ n. Unit {0};
  item = λ n. Unit {0};
  suffix = ObjectSuffix;
  declarations = λ n. Unit {0};
  init = λ n. Unit {0};
  parameter = ObjectParameter;
  named = λ n. Unit {0};
}

-- ---- declarators

list_last : (ss : List Step) (s : Step) → EachList ss → EachObject (list_of s) → EachList (ss ++ s ∷ [])
list_last [] s h k = (k, tt)
list_last (x ∷ ss) s h k = (h.0, list_last ss s h.1 k)

prefixed_lists : (ps : List Prefix) (ss : List Step) → EachList ss → EachList (prefixed ps ss)
prefixed_lists [] ss h = h
prefixed_lists (p ∷ ps) ss h = list_last (prefixed ps ss) (step.Prefix p) (prefixed_lists ps ss h) tt

steps_lists : (ws : List SuffixWalk) (ss xs : List Step) (s new : State) → EachPart ObjectSuffix ws → EachList ss →
    each_step (suffix_walks ws) ss stage.Function s ≡ Ok (xs, new) → EachList xs
steps_lists [] ss xs s new h k is = subst EachList (pure_value ss xs s new is) k
steps_lists (w ∷ ws) ss xs s new h k is =
    let p : Parts (w.walk stage.Function) (λ x. each_step (suffix_walks ws) (ss ++ x ∷ []) stage.Function) s new xs
    = parts (w.walk stage.Function) (λ x. each_step (suffix_walks ws) (ss ++ x ∷ []) stage.Function) s new xs is in
    steps_lists ws (ss ++ p.answer ∷ []) xs p.between new h.1
    (list_last ss p.answer k (h.0 s p.between p.answer p.first)) p.second

declarator_lists : (core : Shape) (ws : List SuffixWalk) (ps : List Prefix) (s new : State) (xs : List Step) →
    ObjectShape core → EachPart ObjectSuffix ws
    → declarator_walk core ws ps stage.Function s ≡ Ok (xs, new) → EachList xs
declarator_lists core ws ps s new xs h k is =
    let p : Parts (core.walk stage.Function)
    (λ ss. each_step (suffix_walks ws) ss stage.Function >>= (λ all. pure (prefixed ps all))) s new xs
    = parts (core.walk stage.Function)
    (λ ss. each_step (suffix_walks ws) ss stage.Function >>= (λ all. pure (prefixed ps all))) s new xs is in
    let q : Parts (each_step (suffix_walks ws) p.answer stage.Function) (λ all. pure (prefixed ps all)) p.between new xs
    = parts (each_step (suffix_walks ws) p.answer stage.Function) (λ all. pure (prefixed ps all)) p.between new xs
    p.second in
    subst EachList (pure_value (prefixed ps q.answer) xs q.between new q.second)
    (prefixed_lists ps q.answer
    (steps_lists ws p.answer q.answer p.between q.between k (h s p.between p.answer p.first) q.first))

core_lists : (x : Core-W) → EveryCore objects x → ObjectShape (core_rule x)
core_lists Core-F.Core::Absent h = λ s new xs is. subst EachList (pure_value [] xs s new is) tt
core_lists (Core-F.Core::Name n text) h = λ s new xs is. subst EachList (pure_value [] xs s new is) tt
core_lists (Core-F.Core::Paren d) h = h

-- ---- suffixes and parameters

types_objects : (ps : List TypeWalk) (s new : State) (ts : List CType) → EachPart ObjectParameter ps →
    each_type (type_walks ps) stage.Function s ≡ Ok (ts, new) → EachObject ts
types_objects [] s new ts h is = subst EachObject (pure_value [] ts s new is) tt
types_objects (w ∷ ps) s new ts h is =
    let p : Parts (w.walk stage.Function) (λ t. each_type (type_walks ps) stage.Function >>= (λ us. pure (t ∷ us))) s
    new ts
    = parts (w.walk stage.Function) (λ t. each_type (type_walks ps) stage.Function >>= (λ us. pure (t ∷ us))) s new ts
    is in
    let q : Parts (each_type (type_walks ps) stage.Function) (λ us. pure (p.answer ∷ us)) p.between new ts =
    parts (each_type (type_walks ps) stage.Function) (λ us. pure (p.answer ∷ us)) p.between new ts p.second in
    subst EachObject (pure_value (p.answer ∷ q.answer) ts q.between new q.second)
    (h.0 s p.between p.answer p.first, types_objects ps p.between q.between q.answer h.1 q.first)

-- what a list is the step of
pub record ListRan (ps : List TypeWalk) (s : State) (x : Step) : Type 0 where
  pub types : List CType
  pub from : State
  pub to : State
  pub walked : each_type (type_walks ps) stage.Function from ≡ Ok (types, to)
  pub is : x ≡ step.Function types

pub list_ran : (ps : List TypeWalk) (s new : State) (x : Step) →
    list_step (type_walks ps) stage.Function s ≡ Ok (x, new) → ListRan ps s x
list_ran ps s new x is =
    let a : Parts depth (λ n. enter >>=
    (λ outer. each_type (type_walks ps) stage.Function >>= (λ ts. leave n outer >>= (λ vs. pure (step.Function ts)))))
    s new x
    = parts depth (λ n. enter >>=
    (λ outer. each_type (type_walks ps) stage.Function >>= (λ ts. leave n outer >>= (λ vs. pure (step.Function ts)))))
    s new x is in
    let b : Parts enter (λ outer. each_type (type_walks ps) stage.Function >>=
    (λ ts. leave a.answer outer >>= (λ vs. pure (step.Function ts)))) a.between new x
    = parts enter (λ outer. each_type (type_walks ps) stage.Function >>=
    (λ ts. leave a.answer outer >>= (λ vs. pure (step.Function ts)))) a.between new x a.second in
    let c : Parts (each_type (type_walks ps) stage.Function)
    (λ ts. leave a.answer b.answer >>= (λ vs. pure (step.Function ts))) b.between new x
    = parts (each_type (type_walks ps) stage.Function)
    (λ ts. leave a.answer b.answer >>= (λ vs. pure (step.Function ts))) b.between new x b.second in
    let d : Parts (leave a.answer b.answer) (λ vs. pure (step.Function c.answer)) c.between new x
    = parts (leave a.answer b.answer) (λ vs. pure (step.Function c.answer)) c.between new x c.second in
    record {
      types = c.answer;
      from = b.between;
      to = c.between;
      walked = c.first;
      is =
          sym (pure_value (step.Function c.answer) x d.between new d.second);
    }

pub length_ran : (o : Option Node) (s new : State) (x : Step) → length_step o stage.Function s ≡ Ok (x, new) →
    [] ≡ list_of x
length_ran None s new x is = ap list_of (pure_value (step.Array len.Absent) x s new is)
length_ran (Some e) s new x is =
    let p : Parts (e.walk stage.Function) (λ o. pure (step.Array (length_of e.written.constant o))) s new x
    = parts (e.walk stage.Function) (λ o. pure (step.Array (length_of e.written.constant o))) s new x is in
    ap list_of (pure_value (step.Array (length_of e.written.constant p.answer)) x p.between new p.second)

suffix_lists : (x : Suffix-W) → EverySuffix objects x → ObjectSuffix (suffix_walk x)
suffix_lists (Suffix-F.Array e) h = λ s new x is. subst EachObject (length_ran e s new x is) tt
suffix_lists Suffix-F.Unlisted h =
    λ s new x is. subst (λ (y : Step). EachObject (list_of y)) (pure_value step.Unlisted x s new is) tt
suffix_lists Suffix-F.Nothing h =
    λ s new x is. subst (λ (y : Step). EachObject (list_of y)) (pure_value (step.Function []) x s new is) tt
suffix_lists (Suffix-F.Listed ps) h = λ s new x is.
    let r : ListRan ps s x = list_ran ps s new x is in
    subst (λ (y : Step). EachObject (list_of y)) (sym r.is) (types_objects ps r.from r.to r.types h r.walked)

parameter_object : (line : ℕ) (b : Base) (d : Shape) (s new : State) (t : CType) →
    parameter_walk line b d stage.Function s ≡ Ok (t, new) → IsObject t
parameter_object line b d s new t is =
    let p : Parts (d.walk stage.Function)
    (λ ss. lift (declared_type role.Parameter line (words.base_of b) ss) >>=
    (λ u. declarations.declare_parameter stage.Function line d.declared.name u >>= (λ v. pure u))) s new t
    = parts (d.walk stage.Function)
    (λ ss. lift (declared_type role.Parameter line (words.base_of b) ss) >>=
    (λ u. declarations.declare_parameter stage.Function line d.declared.name u >>= (λ v. pure u))) s new t is in
    let q : Parts (lift (declared_type role.Parameter line (words.base_of b) p.answer))
    (λ u. declarations.declare_parameter stage.Function line d.declared.name u >>= (λ v. pure u)) p.between new t
    = parts (lift (declared_type role.Parameter line (words.base_of b) p.answer))
    (λ u. declarations.declare_parameter stage.Function line d.declared.name u >>= (λ v. pure u)) p.between new t
    p.second in
    let l : Lifted (declared_type role.Parameter line (words.base_of b) p.answer) p.between q.between q.answer =
    lifted (declared_type role.Parameter line (words.base_of b) p.answer) p.between q.between q.answer q.first in
    let r : Parts (declarations.declare_parameter stage.Function line d.declared.name q.answer) (λ v. pure q.answer)
    q.between new t
    = parts (declarations.declare_parameter stage.Function line d.declared.name q.answer) (λ v. pure q.answer) q.between
    new t q.second in
    subst IsObject (pure_value q.answer t r.between new r.second)
    (record {
      type = types_use.declared role.Parameter line (words.base_of b) p.answer q.answer refl l.gave;
      specified = types_use.vspec role.Parameter line (words.base_of b) p.answer q.answer l.gave;
    })

-- ---- each tree

objects_keep : RulesKeep objects
objects_keep = record {
  core = core_lists;
  expr = λ x h. tt;
  initializer = λ x h. tt;
  optional = λ x h. tt;
  stmt = λ x h. tt;
  suffix = suffix_lists;
  declaration = λ x h. tt;
  declarator = λ x h s new xs is. declarator_lists x.core x.suffixes x.prefixes s new xs h.0 h.1 is;
  init = λ x h. tt;
  parameter = λ x h s new t is. parameter_object x.line x.base x.declarator s new t is;
  typename = λ x h. tt;
}

first_object : (xs : List Step) → EachList xs → EachObject (first_list xs)
first_object [] h = tt
first_object (x ∷ xs) h = h.0

-- the types of the list that a declarator has first are those of variables
pub list_objects : (d : Declarator) (s new : State) (xs : List Step) → (shape d).walk stage.Function s ≡ Ok (xs, new) →
    EachObject (first_list xs)
list_objects d s new xs is = first_object xs (holds_declarator objects objects_keep d s new xs is)
