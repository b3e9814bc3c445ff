-- The call of a compiled function, from its op to the first op of its body: the event, the limits, the unit of the
-- call, and one for each local variable of generated code. Where the ops that set the registers of these variables
-- stand is left open: they may stand before the body or behind it.
use Rattle.std.proofs.Common.{◌≡◌, ℕ, zero, suc, ◌+◌, ◌*◌, ◌≤◌, List, false, refl, ◌∙◌, arith}
use Rattle.staged_meaning.specs.World.{World, Result, Flow, Normal, then_do, spend_from, spend_all}
use Rattle.staged_meaning.specs.Meaning.{keys_at_entry}
use Rattle.icode_meaning.specs.State.{Program, State, Log, log_of}
use Rattle.tick_lower_proof.proofs.Machine.{Goes, goes_more, Here, Regs, at_op}
use Rattle.tick_lower_proof.proofs.Follow.{From, Follows, IsRunning}
pub use Rattle.tick_lower_proof.proofs.Builder.{Among}
pub use Rattle.tick_lower_proof.proofs.Registers.{AreKeys}

-- no register is set
abbrev pub blank : Regs
blank = record { values = λ r. 0; on = λ r. false }

-- a state on the way, at which so many local variables were paid for
pub record Reached (P : Program) (h : Here) (g : Log) (j : ℕ) : Type 0 where
  pub state : State
  pub goes : Goes P (at_op h 0 blank g) state
  pub on : IsRunning state
  pub shared_is : (log_of state).shared ≡ g.shared
  pub low : g.least + j ≤ (log_of state).least
  pub high : (log_of state).most ≤ g.most + 60 + 5 * j

-- From a call's first op the machine comes to the body's first one. What is set there besides the keys is left open.
pub record Opens (P : Program) (h : Here) (keys : List (ℕ × ℕ)) (place locals : ℕ) (arguments : List ℕ) : Type 0 where
  pub regs : Regs
  pub set : AreKeys keys regs (keys_at_entry arguments)
  pub on_the_way : (g : Log) (j : ℕ) → j ≤ locals → Reached P h g j
  pub log : Log → Log
  pub goes : (g : Log) → Goes P (at_op h 0 blank g) (at_op h place regs (log g))
  pub shared_is : (g : Log) → (log g).shared ≡ g.shared
  pub low : (g : Log) → g.least + locals ≤ (log g).least
  pub high : (g : Log) → (log g).most ≤ g.most + 60 + 5 * locals

module _ (P : Program) (from : From) (h : Here) (keys : List (ℕ × ℕ)) (place locals : ℕ) (arguments : List ℕ)
    (opens : Opens P h keys place locals arguments) (V B : ℕ → World → Type 0) (g : Log)
    (go : Goes P from.state (at_op h 0 blank g)) where
  -- behind all of them
  abbrev Behind : (k : World → Result ℕ) → World → Type 0
  Behind k w =
      (m : ℕ) → m + locals ≤ w.units → Goes P from.state (at_op h place opens.regs (opens.log g)) →
      from.units + from.log.least ≤ m + (opens.log g).least →
      (opens.log g).most + 512 * m + 324 + 507 * locals ≤ from.log.most + 512 * from.units →
      Follows P from V B (k (record w { units = m }))

  -- the units of the local variables, of which `done` were spent
  locals_run : (left done : ℕ) (k : World → Result ℕ) (w0 w : World) → done + left ≡ locals → g.shared ≡ w.shared →
      w.units + done ≡ w0.units →
      from.units + from.log.least ≤ w0.units + g.least →
      g.most + 512 * w0.units + 384 ≤ from.log.most + 512 * from.units →
      ((m : ℕ) → m + left ≡ w.units → Follows P from V B (k (record w { units = m }))) →
      Follows P from V B (then_do (spend_all left w) (λ flow w1. k w1))
  locals_run zero done k w0 w sum same spent low high next = next w.units (omega arith)
  locals_run (suc left) done k w0 w sum same spent low high next =
      by (λ w1 same1 spent1 next1.
      locals_run left (suc done) k w0 w1 (omega (arith, sum)) same1 spent1 low high next1) w.units refl
    where
      by : ((w1 : World) → g.shared ≡ w1.shared → w1.units + suc done ≡ w0.units →
          ((m : ℕ) → m + left ≡ w1.units → Follows P from V B (k (record w1 { units = m }))) →
          Follows P from V B (then_do (spend_all left w1) (λ flow w2. k w2))) →
          (units : ℕ) → w.units ≡ units →
          Follows P from V B
          (then_do (then_do {A = Flow} (spend_from units Normal w) (λ flow w1. spend_all left w1)) (λ flow w1. k w1))
      by deeper zero e =
          let at = opens.on_the_way g (suc done) (omega (arith, sum)) in record {
            state = at.state;
            goes = goes_more go at.goes;
            on = at.on;
            shared_is = at.shared_is ∙ same;
            low = omega (arith, low, at.low, spent, e);
            high = omega (arith, high, at.high, spent, e);
          }
      by deeper (suc m) e =
          deeper (record w { units = m }) same (omega (arith, spent, e))
          (λ m1 e1. next m1 (omega (arith, e1, e)))

  -- All of them, from behind the call's unit to the first op of the body.
  pub opened_run : (k : World → Result ℕ) (w : World) → g.shared ≡ w.shared →
      from.units + from.log.least ≤ w.units + g.least →
      g.most + 512 * w.units + 384 ≤ from.log.most + 512 * from.units → Behind k w →
      Follows P from V B (then_do (spend_all locals w) (λ flow w1. k w1))
  opened_run k w same low high next =
      let l = opens.low g in
      let h1 = opens.high g in
      locals_run locals 0 k w w (omega arith) same (omega arith) low high
      (λ m e. next m (omega (arith, e)) (goes_more go (opens.goes g)) (omega (arith, low, l, e))
      (omega (arith, high, h1, e)))
