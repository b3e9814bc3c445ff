-- The walk over the parameters of a function: each is known with its home, and stands at the head of the block.
use Rattle.std.proofs.Common.{◌≡◌, ℕ, suc, ◌+◌, ◌≤◌, false, nat_lt, refl, sym, ◌∙◌, subst, List, [], ◌∷◌, ◌++◌, length}
use Rattle.std.proofs.Common.{slice_get, Option, Some, None, Ok, arith}
use Rattle.std.proofs.lemmas.Bool.Decides.{nat_tests}
use Rattle.c_types.specs.declared.ctype.CType.{CType}
use Rattle.check_scopes.specs.declared.names.Meaning.{Meaning}
use Rattle.check_scopes.specs.declared.names.MeaningKind.{MeaningKind}
use Rattle.check_scopes.specs.declared.names.MeaningKind.TheVariants as kind
use Rattle.check_scopes.specs.Scopes.{Name, Scope}
use Rattle.check_types.specs.Shapes.{inner}
use Rattle.tick_tree.specs.Faults.{Checked}
use Rattle.check_rules.specs.declared.frame.Frame.{Frame}
use Rattle.check_rules.specs.declared.frame.Home.{Home}
use Rattle.check_rules.specs.Frames as frames
use Rattle.check_rules.specs.declared.state.Stage.TheVariants as stage
use Rattle.check_rules.specs.declared.state.State.{State}
use Rattle.check_rules.specs.Locals as locals
use Rattle.check_rules.specs.Locals.{meaning, with_parameter}
use Rattle.check_rules.specs.Names.{declare}
use Rattle.check_globals.specs.Functions as globals
use Rattle.check_globals.specs.Functions.{Given}
use Rattle.wellformed.specs.Counts.{one_if}
use Rattle.wf_walk.specs.Known.{Blocks, IsObject, IsParameter, Means, EachEntry}
use Rattle.wf_walk.proofs.Walks.{pure_same}
use Rattle.wf_programs.proofs.Parameters.{FrameAt, PlacedAt, parameter_at}
use Rattle.wf_programs.proofs.Placed.{More, placed_later, parameter_more, parameter_placed}
use Rattle.wf_programs.proofs.Scopes.{each_map, each_more, DeclaresSecond, declare_second}
use Rattle.wf_programs.proofs.Steps.{Parts, parts}

-- no block is round that of a function
abbrev pub alone : Blocks
alone = record { function = []; tick = []; in_tick = false }

-- a name of a parameter
pub record ParameterAt (f : Frame) (name : Name) (m : Meaning) : Type 0 where
  pub kind : m.kind ≡ kind.Parameter
  pub place : PlacedAt f m.index
  pub type : IsObject m.ctype

-- so many parameters are known, in a scope under that of the file
pub record Givens (top : Scope) (k : ℕ) (s : State) : Type 0 where
  pub scope : Scope
  pub two : s.scopes ≡ top ∷ scope ∷ []
  pub names : EachEntry (ParameterAt s.frame) scope
  pub frame : FrameAt k s.frame

-- what a parameter leaves as it was
pub record Aside (s new : State) : Type 0 where
  pub functions : new.functions ≡ s.functions
  pub ticks : new.ticks ≡ s.ticks
  pub image : new.image ≡ s.image

aside_more : (s m new : State) → Aside s m → Aside m new → Aside s new
aside_more s m new p q = record
    { functions = q.functions ∙ p.functions; ticks = q.ticks ∙ p.ticks; image = q.image ∙ p.image }

pub aside_same : (s new : State) → s ≡ new → Aside s new
aside_same s new e = subst (λ (z : State). Aside s z) e (record { functions = refl; ticks = refl; image = refl })

later : (f new : Frame) (sc : Scope) → More f new → EachEntry (ParameterAt f) sc → EachEntry (ParameterAt new) sc
later f new sc m h = each_map (ParameterAt f) (ParameterAt new) sc
    (λ name x p. record { kind = p.kind; place = placed_later f new x.index m p.place; type = p.type }) h

-- ---- one parameter

pub record One (top : Scope) (k : ℕ) (s new : State) : Type 0 where
  pub at : Givens top (suc k) new
  pub aside : Aside s new

unnamed : (top : Scope) (k : ℕ) (t : CType) (s : State) → k ≤ 7 → Givens top k s →
    Givens top (suc k) (with_parameter t s)
unnamed top k t s few g = record {
  scope = g.scope;
  two = g.two;
  names = later s.frame (frames.parameter t s.frame) g.scope (parameter_more k t s.frame few g.frame) g.names;
  frame = parameter_at k t s.frame few g.frame;
}

named : (top : Scope) (k line : ℕ) (name : Name) (t : CType) (s m : State) (u : Unit {0}) → k ≤ 7 → IsObject t →
    Givens top k s
    → declare line name (meaning kind.Parameter t (frames.number s.frame)) s ≡ Ok (u, m) →
    One top k s (with_parameter t m)
named top k line name t s m u few object g is =
    let d : DeclaresSecond name (meaning kind.Parameter t (frames.number s.frame)) s m top g.scope
    = declare_second line name (meaning kind.Parameter t (frames.number s.frame)) s m u top g.scope g.two is in
    subst (λ (z : State). One top k s (with_parameter t z)) (sym d.is)
    (record {
      at = record {
        scope = g.scope ++ (name, meaning kind.Parameter t (frames.number s.frame)) ∷ [];
        two = refl;
        names = each_more (ParameterAt (frames.parameter t s.frame)) g.scope name
            (meaning kind.Parameter t (frames.number s.frame))
            (later s.frame (frames.parameter t s.frame) g.scope (parameter_more k t s.frame few g.frame) g.names)
            (record { kind = refl; place = parameter_placed k t s.frame few g.frame; type = object });
        frame = parameter_at k t s.frame few g.frame;
      };
      aside = record { functions = refl; ticks = refl; image = refl };
    })

with_state : (t : CType) (m new : State) (u : Unit {0}) →
    ◌≡◌ {A = Checked (Unit {0} × State)} (Ok (tt, with_parameter t m)) (Ok (u, new)) → with_parameter t m ≡ new
with_state t m new u is = pure_same tt u (with_parameter t m) new is

parameter : (top : Scope) (k line : ℕ) (name : Name) (t : CType) (s new : State) (u : Unit {0}) → k ≤ 7 → IsObject t →
    Givens top k s
    → locals.parameter line name t s ≡ Ok (u, new) → One top k s new
unfolding locals.parameter
parameter top k line name t s new u few object g is =
    let p : Parts (declare line name (meaning kind.Parameter t (frames.number s.frame)))
    (λ v z. Ok (tt, with_parameter t z)) s new u
    = parts (declare line name (meaning kind.Parameter t (frames.number s.frame))) (λ v z. Ok (tt, with_parameter t z))
    s new u is in
    subst (λ (z : State). One top k s z) (with_state t p.between new u p.second)
    (named top k line name t s p.between p.answer few object g p.first)

one : (top : Scope) (k line : ℕ) (o : Option (ℕ × Name)) (t : CType) (s new : State) (u : Unit {0}) → k ≤ 7 →
    IsObject t → Givens top k s
    → globals.parameter_by line o t s ≡ Ok (u, new) → One top k s new
one top k line None t s new u few object g is =
    subst (λ (z : State). One top k s z) (with_state t s new u is)
    (record { at = unnamed top k t s few g; aside = record { functions = refl; ticks = refl; image = refl } })
one top k line (Some p) t s new u few object g is = parameter top k line p.1 t s new u few object g is

-- ---- all of them

abbrev pub EachObject : List CType → Type 0
EachObject [] = Unit {0}
EachObject (t ∷ ts) = IsObject t × EachObject ts

pub record All (top : Scope) (n : ℕ) (s new : State) : Type 0 where
  pub at : Givens top n new
  pub aside : Aside s new

all : (top : Scope) (k n : ℕ) (ts : List CType) (gs : List Given) (s new : State) (u : Unit {0}) → k + length ts ≡ n →
    n ≤ 8 → length ts ≤ length gs → EachObject ts
    → Givens top k s → globals.parameters ts gs s ≡ Ok (u, new) → All top n s new
all top k n [] gs s new u e few enough objects g is =
    subst (λ (z : State). All top n s z) (pure_same tt u s new is)
    (record {
      at = subst (λ (i : ℕ). Givens top i s) (let z : k ≡ n = omega arith in z) g;
      aside =
          record { functions = refl; ticks = refl; image = refl };
    })
all top k n (t ∷ ts) [] s new u e few enough objects g is = absurd (omega arith)
all top k n (t ∷ ts) (x ∷ gs) s new u e few enough objects g is =
    let p : Parts (globals.parameter_by x.0 x.1 t) (λ v. globals.parameters ts gs) s new u =
    parts (globals.parameter_by x.0 x.1 t) (λ v. globals.parameters ts gs) s new u is in
    let first : One top k s p.between = one top k x.0 x.1 t s p.between p.answer (omega arith) objects.0 g p.first in
    let rest : All top n p.between new =
    all top (suc k) n ts gs p.between new u (omega arith) few (omega arith) objects.1 first.at p.second in
    record { at = rest.at; aside = aside_more s p.between new first.aside rest.aside }

-- ---- a function begins

no_byte : (byte : ℕ) → 0 ≡ one_if (nat_lt byte 0)
no_byte byte = grind (arith, nat_tests)

began_at : (t : CType) (f : Frame) → FrameAt 0 (frames.began t f)
began_at t f = record {
  homes = refl;
  nodes = refl;
  small = omega arith;
  aligned = refl;
  stand = λ a h k. refl;
  values = refl;
  objects = λ byte. no_byte byte;
  declared = λ i. omega arith;
  size = refl;
}

-- the parameters of a function of this type, in a scope that has no name yet
pub function_begun : (top : Scope) (t : CType) (gs : List Given) (s new : State) (u : Unit {0}) →
    s.scopes ≡ top ∷ [] ∷ [] → length (globals.types_of t) ≤ 8
    → length (globals.types_of t) ≤ length gs → EachObject (globals.types_of t) → globals.begun t gs s ≡ Ok (u, new) →
    All top (length (globals.types_of t)) s new
unfolding globals.begun
function_begun top t gs s new u two few enough objects is =
    let begun : All top (length (globals.types_of t)) (record s { frame = frames.began (inner t) s.frame }) new
    = all top 0 (length (globals.types_of t)) (globals.types_of t) gs
    (record s { frame = frames.began (inner t) s.frame }) new u (omega arith) few enough objects
    (record { scope = []; two = two; names = tt; frame = began_at (inner t) s.frame }) is in
    record {
      at = begun.at;
      aside =
          record { functions = begun.aside.functions; ticks = begun.aside.ticks; image = begun.aside.image };
    }

-- ---- what names mean then

means_by : (many : List ℕ) (s : State) (name : Name) (m : Meaning) (o : Option Home) (h : Home) → o ≡ Some h →
    IsObject m.ctype
    → IsParameter stage.Function alone s m.index (Some h) →
    IsParameter stage.Function alone s m.index o × IsObject m.ctype
means_by many s name m o h e t p =
    (subst (λ (z : Option Home). IsParameter stage.Function alone s m.index z) (sym e) p, t)

pub parameter_means : (many : List ℕ) (s : State) (name : Name) (m : Meaning) → ParameterAt s.frame name m →
    Means many stage.Function alone s name m m.kind
parameter_means many s name m p =
    subst (λ (k : MeaningKind). Means many stage.Function alone s name m k) (sym p.kind)
    (means_by many s name m (slice_get s.frame.homes m.index) p.place.home p.place.is p.type p.place.stands)
