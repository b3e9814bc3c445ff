-- Both walks end the globals at one place.
use Rattle.std.proofs.Common.{◌≡◌, ℕ, ◌+◌, min, Bool, true, false, if◌then◌else◌, refl, ap, sym, ◌∙◌, subst, List, []}
use Rattle.std.proofs.Common.{◌∷◌, map, Ok}
use Rattle.c_types.specs.declared.ctype.CType.{CType}
use Rattle.check_scopes.specs.Scopes.{Scope}
use Rattle.check_declarators.specs.declared.steps.Role.TheVariants as role
use Rattle.check_declarators.specs.declared.steps.Step.{Step}
use Rattle.check_declarators.specs.Making.{declared_type}
use Rattle.check_declarators.specs.Words as words
use Rattle.check_types.specs.Shapes.{is_function}
use Rattle.tick_tree.specs.declared.base.Base.{Base}
use Rattle.tick_tree.specs.declared.fault.FaultKind.TheVariants as fault
use Rattle.tick_tree.specs.declared.syntax.External.{External}
use Rattle.tick_tree.specs.declared.syntax.External.TheVariants as ext
use Rattle.tick_tree.specs.Faults.{Checked, refuse}
use Rattle.check_rules.specs.declared.image.Image.{Image}
use Rattle.check_rules.specs.Images as images
use Rattle.check_rules.specs.Walks.{lift}
use Rattle.check_rules.specs.declared.state.Stage.TheVariants as stage
use Rattle.check_rules.specs.declared.state.State.{State}
use Rattle.check_rules.specs.ExpressionRules.{Shape, Item}
use Rattle.check_rules.specs.Declarations.{name_by}
use Rattle.check_globals.specs.Functions.{Given}
use Rattle.check_globals.specs.Names as names
use Rattle.check_globals.specs.Parameters.{parameters_of}
use Rattle.check_globals.specs.Program as program
use Rattle.check_rules.specs.Walk.{Start, Nothing, Value, Values, InitParts, with_start, declaration, shape, item}
use Rattle.wf_walk.specs.Parts.{FixedShape}
use Rattle.wf_walk.specs.Good.{any_computed}
use Rattle.wf_walk.specs.Kept.{KeepsGlobals}
use Rattle.wf_walk.proofs.Walks.{pure_same}
use Rattle.wf_programs.proofs.Bounds.{Bounded, end_after, fill_bounded, kept_bounded}
use Rattle.wf_programs.proofs.Done.{is_made}
use Rattle.wf_programs.proofs.Fills.{size_of, BytesFit, Filled, begin_filled, keeps_more}
use Rattle.wf_programs.proofs.Functions.{GoodFunction}
use Rattle.wf_programs.proofs.Globals.{GoodInit, EachInit, GlobalType, global_typed, GlobalDone, global_done}
use Rattle.wf_programs.proofs.Made.{PartsOf, parts_of}
use Rattle.wf_programs.proofs.Names.{NamedPrototype, prototype_named}
use Rattle.wf_programs.proofs.Runs.{FunctionRan, function_ran}
use Rattle.wf_programs.proofs.Steps.{Parts, parts}
use Rattle.wf_programs.proofs.Still.{StaticStart}
use Rattle.wf_programs.proofs.Variables.{NamedVariable, variable_named}
use Rattle.wf_programs.proofs.Walk.{GoodExternal, EachGood, Grew, external_grew}

-- each type at file scope has room for what a global of it begins with
abbrev pub AllFit : Type 0
AllFit = (line : ℕ) (b : Base) (start : Start) (ss : List Step) (t : CType) →
    declared_type role.FileScope line (words.base_of b) (with_start start ss) ≡ Ok t → is_function t ≡ false →
    BytesFit t

-- ---- what one step leaves of the image

-- the bytes stay in bounds, and where the strings begin stays
pub record ImageKept (s new : State) : Type 0 where
  pub strings : new.image.strings_at ≡ s.image.strings_at
  pub bounded : Bounded s.image → Bounded new.image

image_more : (s m new : State) → ImageKept s m → ImageKept m new → ImageKept s new
image_more s m new p q = record { strings = q.strings ∙ p.strings; bounded = λ h. q.bounded (p.bounded h) }

image_same : (s new : State) → s ≡ new → ImageKept s new
image_same s new e = subst (λ (z : State). ImageKept s z) e (record { strings = refl; bounded = λ h. h })

keeps_kept : (s new : State) → KeepsGlobals s new → ImageKept s new
keeps_kept s new k = record { strings = k.at; bounded = λ h. kept_bounded s new k h }

image_keeps : (s new : State) → new.image ≡ s.image → KeepsGlobals s new
image_keeps s new e = record {
  end = ap (λ (i : Image). i.end) e;
  globals = ap (λ (i : Image). i.globals) e;
  at =
      ap (λ (i : Image). i.strings_at) e;
}

-- ---- a function

pub function_image : (many : List ℕ) (line : ℕ) (b : Base) (d : Shape) (gs : List Given) (items : List Item)
    (s new : State) (r : FunctionRan line b d gs items s new) (sc table : Scope)
    → GoodFunction many d gs items → s.scopes ≡ sc ∷ [] → s.functions.defined ≡ table ∷ [] → KeepsGlobals s new
function_image many line b d gs items s new r sc table good one two =
    let p : PartsOf line b d gs items s new r sc table =
    parts_of many line b d gs items s new r sc table good one two in
    let named : KeepsGlobals r.typed r.named = image_keeps r.typed r.named (ap (λ (z : State). z.image) p.name.is) in
    let given : KeepsGlobals r.named r.third.given = image_keeps r.named r.third.given p.all.aside.image in
    let last : KeepsGlobals r.third.given r.third.last =
    (good.walks.grows r.third.given r.third.last r.third.nodes r.third.walked).tables.image in
    let whole : KeepsGlobals s r.third.last
    = keeps_more s r.typed r.third.last p.typed.image
    (keeps_more r.typed r.named r.third.last named (keeps_more r.named r.third.given r.third.last given last)) in
    keeps_more s r.third.last new whole
    (image_keeps r.third.last new (ap (λ (z : State). z.image) (is_made line b d gs items s new r)))

-- ---- a declarator

pub record GlobalImage (line : ℕ) (b : Base) (i : InitParts) (s new : State) : Type 0 where
  pub type : CType
  pub steps : List Step
  pub to : State
  pub walked : i.shape.walk stage.Function s ≡ Ok (steps, to)
  pub typed : declared_type role.FileScope line (words.base_of b) (with_start i.start (names.named_steps steps)) ≡ Ok
      type
  pub computed : any_computed steps ≡ false
  pub end : new.image.end ≡ end_after type s.image.end
  pub kept : ImageKept s new

no_start_same : (line : ℕ) (start : Start) (s new : State) (u : Unit {0}) →
    program.no_start line start s ≡ Ok (u, new) → s ≡ new
no_start_same line Nothing s new u is = pure_same tt u s new is
no_start_same line (Value e) s new u is =
    let p : Parts (e.walk stage.Function) (λ o. lift (refuse fault.TypeMismatch line)) s new u =
    parts (e.walk stage.Function) (λ o. lift (refuse fault.TypeMismatch line)) s new u is in
    absurd (let q = p.second in cc)
no_start_same line (Values es) s new u is =
    let p : Parts (program.walked es) (λ o. lift (refuse fault.TypeMismatch line)) s new u =
    parts (program.walked es) (λ o. lift (refuse fault.TypeMismatch line)) s new u is in
    absurd (let q = p.second in cc)

pub record Ended (t : CType) (s new : State) : Type 0 where
  pub end : new.image.end ≡ end_after t s.image.end
  pub kept : ImageKept s new

function_end : (t : CType) (e : ℕ) → is_function t ≡ true → e ≡ end_after t e
function_end t e h = sym (ap (λ (b : Bool). if b then e else min (images.aligned e + size_of t) 4194308) h)

variable_end : (t : CType) (e : ℕ) → is_function t ≡ false → min (images.aligned e + size_of t) 4194308 ≡ end_after t e
variable_end t e h = sym (ap (λ (b : Bool). if b then e else min (images.aligned e + size_of t) 4194308) h)

prototype_image : (line : ℕ) (t : CType) (d : Shape) (start : Start) (s new : State) (u : Unit {0}) (sc : Scope) →
    s.scopes ≡ sc ∷ [] → is_function t ≡ true
    → program.prototype line t d start s ≡ Ok (u, new) → Ended t s new
prototype_image line t d start s new u sc one f is =
    let p : Parts (names.prototype line (name_by d.declared.name) t) (λ v. program.no_start line start) s new u
    = parts (names.prototype line (name_by d.declared.name) t) (λ v. program.no_start line start) s new u is in
    let n : NamedPrototype line (name_by d.declared.name) t s p.between sc =
    prototype_named line (name_by d.declared.name) t s p.between p.answer sc one p.first in
    let k : KeepsGlobals s new =
    image_keeps s new (ap (λ (z : State). z.image) (sym (no_start_same line start p.between new u p.second)) ∙
    ap (λ (z : State). z.image) n.is) in
    record { end = k.end ∙ function_end t s.image.end f; kept = keeps_kept s new k }

variable_image : (line : ℕ) (t : CType) (d : Shape) (start : Start) (s new : State) (u : Unit {0}) (sc : Scope) →
    s.scopes ≡ sc ∷ [] → is_function t ≡ false → StaticStart start → BytesFit t
    → program.variable line t d start s ≡ Ok (u, new) → Ended t s new
variable_image line t d start s new u sc one f good fit is =
    let p : Parts (names.variable line (name_by d.declared.name) t) (λ at. program.static_begin line at t start) s new u
    = parts (names.variable line (name_by d.declared.name) t) (λ at. program.static_begin line at t start) s new u is in
    let n : NamedVariable (name_by d.declared.name) t s p.between p.answer sc =
    variable_named line (name_by d.declared.name) t s p.between p.answer sc one p.first in
    let image : p.between.image ≡ images.with_global (size_of t) s.image = ap (λ (z : State). z.image) n.is in
    let b : Filled p.answer (size_of t) p.between new =
    begin_filled line p.answer t start p.between new u good fit p.second in
    record {
      end = b.end ∙ ap (λ (i : Image). i.end) image ∙ variable_end t s.image.end f;
      kept = record {
        strings = b.strings ∙ ap (λ (i : Image). i.strings_at) image;
        bounded = λ h. fill_bounded (size_of t) p.answer s p.between new n.place image b h;
      };
    }

named_image : (b : Bool) (line : ℕ) (t : CType) (d : Shape) (start : Start) (s new : State) (u : Unit {0}) (sc : Scope)
    → s.scopes ≡ sc ∷ [] → is_function t ≡ b → StaticStart start → (is_function t ≡ false → BytesFit t)
    → (if b then program.prototype line t d start else program.variable line t d start) s ≡ Ok (u, new) → Ended t s new
named_image true line t d start s new u sc one f good fit is = prototype_image line t d start s new u sc one f is
named_image false line t d start s new u sc one f good fit is =
    variable_image line t d start s new u sc one f good (fit f) is

pub global_image : AllFit → (line : ℕ) (b : Base) (i : InitParts) (s new : State) (u : Unit {0}) (sc : Scope) →
    GoodInit i → s.scopes ≡ sc ∷ []
    → program.global line b i s ≡ Ok (u, new) → GlobalImage line b i s new
global_image fit line b i s new u sc good one is =
    let p : Parts (program.global_type line b i.shape i.start) (λ t. program.named line t i.shape i.start) s new u
    = parts (program.global_type line b i.shape i.start) (λ t. program.named line t i.shape i.start) s new u is in
    let ty : GlobalType line b i.shape i.start s p.between p.answer =
    global_typed line b i.shape i.start s p.between p.answer good.shape p.first in
    let e : Ended p.answer p.between new
    = named_image (is_function p.answer) line p.answer i.shape i.start p.between new u sc (ty.still.scopes ∙ one) refl
    good.start
    (fit line b i.start (names.named_steps ty.steps) p.answer ty.typed) p.second in
    record {
      type = p.answer;
      steps = ty.steps;
      to = ty.to;
      walked = ty.walked;
      typed = ty.typed;
      computed = ty.computed;
      end = e.end ∙ ap (λ n. end_after p.answer n) ty.image.end;
      kept = image_more s p.between new (keeps_kept s p.between ty.image) e.kept;
    }

-- two walks over one declarator
ok_type : (t u : CType) → ◌≡◌ {A = Checked CType} (Ok t) (Ok u) → t ≡ u
ok_type t u e = cc

same_end : (line : ℕ) (b : Base) (i : InitParts) (s new z last : State) → FixedShape i.shape →
    GlobalImage line b i s new → GlobalImage line b i z last → s.image.end ≡ z.image.end →
    new.image.end ≡ last.image.end
same_end line b i s new z last fixed p q e =
    let steps : p.steps ≡ q.steps = fixed s z p.to q.to p.steps q.steps p.walked q.walked p.computed in
    let type : p.type ≡ q.type
    = ok_type p.type q.type (sym p.typed ∙
    ap (λ ss. declared_type role.FileScope line (words.base_of b) (with_start i.start (names.named_steps ss))) steps ∙
    q.typed) in
    p.end ∙ ap (λ t. end_after t s.image.end) type ∙ ap (λ n. end_after q.type n) e ∙ sym q.end

-- ---- declarations

abbrev pub EachFixed : List InitParts → Type 0
EachFixed [] = Unit {0}
EachFixed (i ∷ is) = FixedShape i.shape × EachFixed is

globals_image : AllFit → (line : ℕ) (b : Base) (is : List InitParts) (s new : State) (u : Unit {0}) (sc : Scope) →
    EachInit is → s.scopes ≡ sc ∷ [] → program.globals line b is s ≡ Ok (u, new) → ImageKept s new
globals_image fit line b [] s new u sc good one h = image_same s new (pure_same tt u s new h)
globals_image fit line b (i ∷ is) s new u sc good one h =
    let p : Parts (program.global line b i) (λ v. program.globals line b is) s new u =
    parts (program.global line b i) (λ v. program.globals line b is) s new u h in
    let g : GlobalImage line b i s p.between = global_image fit line b i s p.between p.answer sc good.0 one p.first in
    let d : GlobalDone [] s p.between sc = global_done [] line b i s p.between p.answer sc good.0 one p.first in
    image_more s p.between new g.kept (globals_image fit line b is p.between new u d.scope good.1 d.one p.second)

globals_end : AllFit → (line : ℕ) (b : Base) (is : List InitParts) (s new z last : State) (u v : Unit {0})
    (sc dc : Scope) → EachInit is → EachFixed is → s.scopes ≡ sc ∷ [] → z.scopes ≡ dc ∷ []
    → program.globals line b is s ≡ Ok (u, new) → program.globals line b is z ≡ Ok (v, last) →
    s.image.end ≡ z.image.end → new.image.end ≡ last.image.end
globals_end fit line b [] s new z last u v sc dc good fixed one two h k e =
    ap (λ (x : State). x.image.end) (sym (pure_same tt u s new h)) ∙ e ∙
    ap (λ (x : State). x.image.end) (pure_same tt v z last k)
globals_end fit line b (i ∷ is) s new z last u v sc dc good fixed one two h k e =
    let p : Parts (program.global line b i) (λ w. program.globals line b is) s new u =
    parts (program.global line b i) (λ w. program.globals line b is) s new u h in
    let q : Parts (program.global line b i) (λ w. program.globals line b is) z last v =
    parts (program.global line b i) (λ w. program.globals line b is) z last v k in
    let first : p.between.image.end ≡ q.between.image.end
    = same_end line b i s p.between z q.between fixed.0
    (global_image fit line b i s p.between p.answer sc good.0 one p.first)
    (global_image fit line b i z q.between q.answer dc good.0 two q.first) e in
    let d : GlobalDone [] s p.between sc = global_done [] line b i s p.between p.answer sc good.0 one p.first in
    let f : GlobalDone [] z q.between dc = global_done [] line b i z q.between q.answer dc good.0 two q.first in
    globals_end fit line b is p.between new q.between last u v d.scope f.scope good.1 fixed.1 d.one f.one p.second
    q.second first

-- ---- the walk

abbrev pub FixedExternal : External → Type 0
FixedExternal (ext.Function line b d items) = Unit {0}
FixedExternal (ext.Declaration d) = EachFixed (declaration d).inits

abbrev pub AllFixed : List External → Type 0
AllFixed [] = Unit {0}
AllFixed (x ∷ xs) = FixedExternal x × AllFixed xs

external_image : AllFit → (x : External) (s new : State) (u : Unit {0}) (sc table : Scope) → GoodExternal [] x →
    s.scopes ≡ sc ∷ [] → s.functions.defined ≡ table ∷ [] → program.external x s ≡ Ok (u, new) → ImageKept s new
external_image fit (ext.Function line b d items) s new u sc table good one two is =
    keeps_kept s new (function_image [] line b (shape d) (parameters_of d) (map item items) s new
    (function_ran line b (shape d) (parameters_of d) (map item items) s new u is) sc table good one two)
external_image fit (ext.Declaration d) s new u sc table good one two is =
    globals_image fit (declaration d).line (declaration d).base (declaration d).inits s new u sc good one is

external_end : AllFit → (x : External) (s new z last : State) (u v : Unit {0}) (sc dc table other : Scope) →
    GoodExternal [] x → FixedExternal x → s.scopes ≡ sc ∷ [] → z.scopes ≡ dc ∷ []
    → s.functions.defined ≡ table ∷ [] → z.functions.defined ≡ other ∷ [] → program.external x s ≡ Ok (u, new) →
    program.external x z ≡ Ok (v, last) → s.image.end ≡ z.image.end → new.image.end ≡ last.image.end
external_end fit (ext.Function line b d items) s new z last u v sc dc table other good fixed one two three four h k e =
    (function_image [] line b (shape d) (parameters_of d) (map item items) s new
    (function_ran line b (shape d) (parameters_of d) (map item items) s new u h) sc table good one three).end
    ∙ e ∙ sym (function_image [] line b (shape d) (parameters_of d) (map item items) z last
    (function_ran line b (shape d) (parameters_of d) (map item items) z last v k) dc other good two four).end
external_end fit (ext.Declaration d) s new z last u v sc dc table other good fixed one two three four h k e =
    globals_end fit (declaration d).line (declaration d).base (declaration d).inits s new z last u v sc dc good fixed
    one two h k e

pub walk_image : AllFit → (xs : List External) (s new : State) (u : Unit {0}) (sc table : Scope) → EachGood [] xs →
    s.scopes ≡ sc ∷ [] → s.functions.defined ≡ table ∷ [] → program.walk xs s ≡ Ok (u, new) → ImageKept s new
walk_image fit [] s new u sc table good one two is = image_same s new (pure_same tt u s new is)
walk_image fit (x ∷ xs) s new u sc table good one two is =
    let p : Parts (program.external x) (λ v. program.walk xs) s new u =
    parts (program.external x) (λ v. program.walk xs) s new u is in
    let g : Grew _ s p.between table = external_grew [] x s p.between p.answer sc table good.0 one two p.first in
    image_more s p.between new (external_image fit x s p.between p.answer sc table good.0 one two p.first)
    (walk_image fit xs p.between new u g.scope _ good.1 g.one g.defined p.second)

pub walks_end : AllFit → (xs : List External) (s new z last : State) (u v : Unit {0}) (sc dc table other : Scope) →
    EachGood [] xs → AllFixed xs → s.scopes ≡ sc ∷ [] → z.scopes ≡ dc ∷ []
    → s.functions.defined ≡ table ∷ [] → z.functions.defined ≡ other ∷ [] → program.walk xs s ≡ Ok (u, new) →
    program.walk xs z ≡ Ok (v, last) → s.image.end ≡ z.image.end → new.image.end ≡ last.image.end
walks_end fit [] s new z last u v sc dc table other good fixed one two three four h k e =
    ap (λ (x : State). x.image.end) (sym (pure_same tt u s new h)) ∙ e ∙
    ap (λ (x : State). x.image.end) (pure_same tt v z last k)
walks_end fit (x ∷ xs) s new z last u v sc dc table other good fixed one two three four h k e =
    let p : Parts (program.external x) (λ w. program.walk xs) s new u =
    parts (program.external x) (λ w. program.walk xs) s new u h in
    let q : Parts (program.external x) (λ w. program.walk xs) z last v =
    parts (program.external x) (λ w. program.walk xs) z last v k in
    let first : p.between.image.end ≡ q.between.image.end
    = external_end fit x s p.between z q.between p.answer q.answer sc dc table other good.0 fixed.0 one two three four
    p.first q.first e in
    let g : Grew _ s p.between table = external_grew [] x s p.between p.answer sc table good.0 one three p.first in
    let f : Grew _ z q.between other = external_grew [] x z q.between q.answer dc other good.0 two four q.first in
    walks_end fit xs p.between new q.between last u v g.scope f.scope _ _ good.1 fixed.1 g.one f.one g.defined f.defined
    p.second q.second first
