-- Where the parameters of a function stand, and that they stand there as more come.
use Rattle.std.proofs.Common.{◌≡◌, ℕ, ◌*◌, ◌%◌, ◌≤◌, ◌==◌, Bool, true, false, nat_le, if◌then◌else◌, refl, ap, ◌∙◌}
use Rattle.std.proofs.Common.{List, [], ◌∷◌, ◌++◌, length, slice_get, Some, arith}
use Rattle.c_types.specs.declared.ctype.CType.{CType}
use Rattle.check_types.specs.Shapes.{width_of}
use Rattle.typed_tree.specs.declared.expression.Stmt.TheVariants as st
use Rattle.check_rules.specs.declared.frame.Frame.{Frame}
use Rattle.check_rules.specs.declared.frame.Home.{Home}
use Rattle.check_rules.specs.declared.frame.Home.TheVariants as home
use Rattle.check_rules.specs.Frames as frames
use Rattle.wellformed.specs.Places.{Act}
use Rattle.wellformed.proofs.Equations.{act_parameter}
use Rattle.wellformed.proofs.Bools.{and_true, first_true, second_true, le_true, le_more}
use Rattle.wf_walk.specs.Kept.{Starts}
use Rattle.wf_walk.specs.Known.{has, numbers, HasHome}
use Rattle.wf_walk.proofs.Lists.{get_front, get_last, has_front, has_back, has_self, numbers_append}
use Rattle.wf_programs.proofs.Parameters.{FrameAt, PlacedAt, count_small}

-- a frame with more
pub record More (f new : Frame) : Type 0 where
  pub homes : Starts f.homes new.homes
  pub nodes : Starts f.nodes new.nodes
  pub object : f.object ≤ new.object

home_later : (f new : Frame) (n : ℕ) (h : Home) → More f new → HasHome (numbers f.nodes) f.object n h →
    HasHome (numbers new.nodes) new.object n h
home_later f new n home.Register m k =
    ap (λ vs. has n (numbers vs)) m.nodes.is ∙ ap (λ ns. has n ns) (numbers_append f.nodes m.nodes.rest) ∙
    has_front n (numbers f.nodes) (numbers m.nodes.rest) k
home_later f new n (home.Object at) m k =
    and_true (nat_le at new.object) (at % 4 == 0)
    (le_more at f.object new.object m.object (first_true (nat_le at f.object) (at % 4 == 0) k))
    (second_true (nat_le at f.object) (at % 4 == 0) k)

pub placed_later : (f new : Frame) (n : ℕ) → More f new → PlacedAt f n → PlacedAt new n
placed_later f new n m p = record {
  home = p.home;
  is = ap (λ hs. slice_get hs n) m.homes.is ∙ get_front f.homes m.homes.rest n p.home p.is;
  stands = home_later f new n p.home m p.stands;
}

-- ---- a new one

new_is : (k n : ℕ) (hs : List Home) (h : Home) → length hs ≡ k → n ≡ k → slice_get (hs ++ h ∷ []) n ≡ Some h
new_is k n hs h e z = ap (λ (i : ℕ). slice_get (hs ++ h ∷ []) i) (let y : n ≡ length hs = omega arith in y) ∙
    get_last hs h

register_more : (k : ℕ) (t : CType) (f : Frame) → More f (frames.register_parameter t f)
register_more k t f = record {
  homes = record { rest = home.Register ∷ []; is = refl };
  nodes = record { rest = st.Parameter (frames.number f) (width_of t) ∷ []; is = refl };
  object = omega arith;
}

register_placed : (k : ℕ) (t : CType) (f : Frame) → k ≤ 7 → FrameAt k f →
    PlacedAt (frames.register_parameter t f) (frames.number f)
register_placed k t f few at = record {
  home = home.Register;
  is = new_is k (frames.number f) f.homes home.Register at.homes (count_small f.homes k at.homes few);
  stands =
      ap (λ ns. has (frames.number f) ns) (numbers_append f.nodes (st.Parameter (frames.number f) (width_of t) ∷ []))
      ∙ has_back (frames.number f) (numbers f.nodes) (numbers (st.Parameter (frames.number f) (width_of t) ∷ []))
      (ap (λ (x : Act). has (frames.number f) (x.number ++ [])) (act_parameter (frames.number f) (width_of t)) ∙
      has_self (frames.number f));
}

object_more : (k : ℕ) (t : CType) (f : Frame) → k ≤ 7 → FrameAt k f → More f (frames.object_parameter t f)
object_more k t f few at = record {
  homes = record { rest = home.Object f.object ∷ []; is = refl };
  nodes = record { rest = st.ParameterObject (frames.number f) (width_of t) f.object ∷ []; is = refl };
  object = let small : f.object ≤ 4 * k = at.small in omega arith;
}

object_placed : (k : ℕ) (t : CType) (f : Frame) → k ≤ 7 → FrameAt k f →
    PlacedAt (frames.object_parameter t f) (frames.number f)
object_placed k t f few at = record {
  home = home.Object f.object;
  is = new_is k (frames.number f) f.homes (home.Object f.object) at.homes (count_small f.homes k at.homes few);
  stands =
      let small : f.object ≤ 4 * k = at.small in
      and_true (nat_le f.object (frames.after f.object 1)) (f.object % 4 == 0)
      (le_true f.object (frames.after f.object 1) (omega arith)) (ap (λ (n : ℕ). n == 0) at.aligned);
}

either_more : (k : ℕ) (t : CType) (f : Frame) (b : Bool) → k ≤ 7 → FrameAt k f →
    More f (if b then frames.object_parameter t f else frames.register_parameter t f)
either_more k t f true few at = object_more k t f few at
either_more k t f false few at = register_more k t f

pub parameter_more : (k : ℕ) (t : CType) (f : Frame) → k ≤ 7 → FrameAt k f → More f (frames.parameter t f)
unfolding frames.parameter
parameter_more k t f few at = either_more k t f (frames.needs_address f) few at

either_placed : (k : ℕ) (t : CType) (f : Frame) (b : Bool) → k ≤ 7 → FrameAt k f →
    PlacedAt (if b then frames.object_parameter t f else frames.register_parameter t f) (frames.number f)
either_placed k t f true few at = object_placed k t f few at
either_placed k t f false few at = register_placed k t f few at

pub parameter_placed : (k : ℕ) (t : CType) (f : Frame) → k ≤ 7 → FrameAt k f →
    PlacedAt (frames.parameter t f) (frames.number f)
unfolding frames.parameter
parameter_placed k t f few at = either_placed k t f (frames.needs_address f) few at
