-- An op that calls a function that was compiled is a call by its number; and so is a step of a tale.
use Rattle.std.proofs.Common.{◌≡◌, ℕ, zero, suc, ◌+◌, ◌-◌, ◌<◌, Bool, true, false, List}
use Rattle.std.proofs.Common.{Option, Some, None, refl, sym, ap, ◌∙◌, arith, nat_eq, nat_le, slice_get}
use Rattle.std.proofs.Common.{if◌then◌else◌}
use Rattle.std.proofs.lemmas.Bool.{and_parts}
use Rattle.std.proofs.lemmas.Bool.Decides.{nat_tests}
use Rattle.mips_model.specs.State.{Code, World}
use Rattle.mips_model_laws.specs.Tales.{Tale}
use Rattle.meaning_state.specs.Bodies.{Body}
use Rattle.meaning_state.specs.Rows.{numbered, parameters_of}
use Rattle.icode_ops.specs.declared.op.Op.{Op}
use Rattle.icode_ops.specs.declared.op.Op.TheVariants.{CallNumber}
use Rattle.icode_ops.specs.declared.op.Op.TheVariants as op
use Rattle.icode_meaning.specs.State.{Frame, Log, Running}
use Rattle.icode_meaning.specs.Steps.{act, uses_on}
use Rattle.icode_expand_proof.specs.Settings.{Setting}
use Rattle.icode_expand_proof.specs.Relation.{StandsAt}
use Rattle.icode_expand_proof.specs.Served.{is_body_of, calls_body}
use Rattle.closures_proof.specs.Relation.{HasSpecifications}
use Rattle.icode_run_proof.specs.Relation.{Base, text_of, functions_of, Stood, StandsFor}
use Rattle.icode_run_proof.proofs.EntryStep.{call_step}
use Rattle.icode_run_proof.proofs.Stepping.{Stepped}

-- the body that a number names
record Named (functions value n : ℕ) (bodies : List Body) : Type 0 where
  place : ℕ
  body : Body
  there : slice_get bodies place ≡ Some body
  live : body.live ≡ true
  takes : parameters_of body.syntax ≡ n
  value_is : value ≡ suc (functions + place)
  found : numbered (value - functions) bodies ≡ Some body
  far : nat_le value functions ≡ false

named : (functions value n : ℕ) (bodies : List Body)
    → (if nat_le value functions then false else is_body_of n (numbered (value - functions) bodies)) ≡ true
    → Named functions value n bodies
named functions value n bodies = by (nat_le value functions) refl
  where
    of_body : (k : ℕ) (o : Option Body) → functions < value → value - functions ≡ suc k → slice_get bodies k ≡ o
        → is_body_of n o ≡ true → Named functions value n bodies
    of_body k None over e there t = absurd cc
    of_body k (Some x) over e there t =
        let p = and_parts x.live (nat_eq (parameters_of x.syntax) n) t in
        record {
          place = k;
          body = x;
          there = there;
          live = p.0;
          takes = grind (arith, nat_tests, p.1);
          value_is = omega (arith, over, e);
          found = ap (λ (m : ℕ). numbered m bodies) e ∙ there;
          far = grind (arith, nat_tests, over);
        }

    of_number : (m : ℕ) → functions < value → value - functions ≡ m → is_body_of n (numbered m bodies) ≡ true
        → Named functions value n bodies
    of_number zero over e t = absurd (omega (arith, over, e))
    of_number (suc k) over e t = of_body k (slice_get bodies k) over e refl t

    by : (t : Bool) → nat_le value functions ≡ t
        → (if t then false else is_body_of n (numbered (value - functions) bodies)) ≡ true
        → Named functions value n bodies
    by true t e = absurd cc
    by false t e = of_number (value - functions) (grind (arith, nat_tests, t)) refl e

module _ (b : Base) (c : Code) (s : Setting) (stood : Stood b c s)
    (has : HasSpecifications (text_of b) s.made s.written) (w : Frame) (arguments : ℕ → Option ℕ) (answer : Option ℕ)
    (waiting : List Frame) (log : Log) (x : World) (z : StandsAt s w arguments answer waiting log x) (t : Tale)
    (stands : StandsFor b c (Running w arguments answer waiting log) x t) where
  number_step : (number n : ℕ) → slice_get w.function.ops w.index ≡ Some (CallNumber number n)
      → uses_on (CallNumber number n) w.on ≡ true
      → calls_body (functions_of b) log.shared.bodies (CallNumber number n) w ≡ true
      → Stepped b log (act b.program (CallNumber number n) w arguments answer waiting log) t
  number_step number n i u e =
      let y = named (functions_of b) (w.values number) n log.shared.bodies e in
      let there : slice_get s.made.bodies y.place ≡ Some y.body =
      ap (λ (l : List Body). slice_get l y.place) (sym z.holds.memory.made.bodies) ∙ y.there in
      rw (y.far, y.found)
      (call_step b c s stood has w arguments answer waiting log x z t stands number n i u y.place y.body there y.live
      y.takes y.value_is)

  pub body_step : (o : Op) → slice_get w.function.ops w.index ≡ Some o → uses_on o w.on ≡ true
      → calls_body (functions_of b) log.shared.bodies o w ≡ true
      → Stepped b log (act b.program o w arguments answer waiting log) t
  body_step (CallNumber number n) i u e = number_step number n i u e
  body_step (op.Const to word) i u e = absurd cc
  body_step (op.Move to from) i u e = absurd cc
  body_step (op.Bin kind to left right) i u e = absurd cc
  body_step (op.CheckDivision left right) i u e = absurd cc
  body_step (op.CheckZero divisor) i u e = absurd cc
  body_step (op.Un kind to from) i u e = absurd cc
  body_step (op.FrameAddress to offset) i u e = absurd cc
  body_step (op.Load width to from) i u e = absurd cc
  body_step (op.Store width to from) i u e = absurd cc
  body_step (op.Clear offset words) i u e = absurd cc
  body_step (op.Label label) i u e = absurd cc
  body_step (op.Jump label) i u e = absurd cc
  body_step (op.BranchZero test label) i u e = absurd cc
  body_step (op.BranchNonzero test label) i u e = absurd cc
  body_step (op.Argument index from) i u e = absurd cc
  body_step (op.GetParameter to index) i u e = absurd cc
  body_step (op.Call address) i u e = absurd cc
  body_step (op.Result to) i u e = absurd cc
  body_step (op.Return from) i u e = absurd cc
  body_step op.ReturnZero i u e = absurd cc
  body_step (op.Sys kind to from) i u e = absurd cc
  body_step (op.Run routine to from) i u e = absurd cc
  body_step (op.New to address kind captures) i u e = absurd cc
  body_step (op.Put capture from) i u e = absurd cc
