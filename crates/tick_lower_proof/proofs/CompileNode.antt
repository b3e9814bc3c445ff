-- The machine follows a compile: the checks in their order, a step for each unit of the size, and the function behind
-- them. A run that stops within the units stops at a step of its own.
use Rattle.std.proofs.Common.{◌≡◌, ℕ, zero, suc, ◌+◌, ◌*◌, ◌≤◌, length, Option, Some, None, refl, ap, subst, arith}
use Rattle.host_edge.specs.declared.ending.TrapKind.{TrapKind}
use Rattle.history.specs.Syntax.{Syntax}
use Rattle.icode_ops.specs.declared.op.Op.TheVariants as op
use Rattle.icode_ops.specs.declared.kind.RunKind.TheVariants as run
use Rattle.meaning_state.specs.Rows.{table_trap, arena_trap, next_function, made}
use Rattle.staged_meaning.specs.World.{World, Result, Flow, Normal, then_do, spend, spend_from, spend_all, with_shared}
use Rattle.staged_meaning.specs.World as meaning
use Rattle.staged_meaning.specs.Program.{syntax_size}
use Rattle.staged_meaning.specs.Specifications.{compile_syntax}
use Rattle.icode_meaning.specs.State.{Program, Compiling, Log}
use Rattle.icode_meaning.specs.Steps.{paid, sharing, unless, node_paid, compiles}
use Rattle.tick_lower_proof.proofs.Machine.{Goes, goes_more, Here, Regs, frame_at, at_op, put}
use Rattle.tick_lower_proof.proofs.Follow.{From, Follows}

module _ (P : Program) (from : From) (f : Here) (p n : ℕ) (r : Regs) (extra keep : ℕ) (some : 1 ≤ extra)
    (V B : ℕ → World → Type 0) where
  -- the units of the nodes are spent, each at a step of the machine
  abbrev Behind : Syntax → (k : World → Result ℕ) → World → Type 0
  Behind syntax k w =
      (m : ℕ) (g : Log) → m ≤ w.units → g.shared ≡ w.shared →
      Goes P from.state (Compiling 0 syntax n (frame_at f p r) f.waiting g) →
      from.units + from.log.least + extra ≤ m + g.least →
      g.most + 512 * m + keep ≤ from.log.most + 512 * from.units → Follows P from V B (k (record w { units = m }))

  nodes_run : (more : ℕ) (syntax : Syntax) (k : World → Result ℕ) (w : World) (g : Log) → g.shared ≡ w.shared →
      Goes P from.state (Compiling more syntax n (frame_at f p r) f.waiting g) →
      from.units + from.log.least + extra ≤ w.units + g.least →
      g.most + 512 * w.units + keep ≤ from.log.most + 512 * from.units → Behind syntax k w →
      Follows P from V B (then_do (spend_all more w) (λ flow w1. k w1))
  nodes_run zero syntax k w g same go low high next = next w.units g (omega arith) same go low high
  nodes_run (suc more) syntax k w g same go low high next =
      by (λ w1 g1 same1 go1 low1 high1 next1. nodes_run more syntax k w1 g1 same1 go1 low1 high1 next1) w.units refl
    where
      by : ((w1 : World) (g1 : Log) → g1.shared ≡ w1.shared →
          Goes P from.state (Compiling more syntax n (frame_at f p r) f.waiting g1) →
          from.units + from.log.least + extra ≤ w1.units + g1.least →
          g1.most + 512 * w1.units + keep ≤ from.log.most + 512 * from.units → Behind syntax k w1 →
          Follows P from V B (then_do (spend_all more w1) (λ flow w2. k w2))) →
          (units : ℕ) → w.units ≡ units →
          Follows P from V B
          (then_do (then_do {A = Flow} (spend_from units Normal w) (λ flow w1. spend_all more w1)) (λ flow w1. k w1))
      by deeper zero e = record {
        state = Compiling (suc more) syntax n (frame_at f p r) f.waiting g;
        goes = go;
        on = tt;
        shared_is = same;
        low = omega (arith, low, e, some);
        high = omega (arith, high);
      }
      by deeper (suc m) e =
          deeper (record w { units = m }) (node_paid g) same (goes_more go (record { steps = 1; comes = refl }))
          (omega (arith, low, e)) (omega (arith, high, e))
          (λ m1 g1 le. next m1 g1 (omega (arith, le, e)))

  -- the function is there
  pub record IsCompiled (syntax : Syntax) (w : World) (m : ℕ) : Type 0 where
    pub log : Log
    pub goes : Goes P from.state
        (at_op f (suc p) (put n (next_function (length P.source.functions) w.shared) r) log)
    pub shared_is : log.shared ≡ made (next_function (length P.source.functions) w.shared) syntax
        (syntax_size P.source syntax) w.shared
    pub fewer : m ≤ w.units
    pub low : from.units + from.log.least + extra + 8 ≤ m + log.least
    pub high : log.most + 512 * m + keep ≤ from.log.most + 512 * from.units + 75

  abbrev After : Syntax → World → ℕ → Result ℕ
  After syntax w m =
      spend (next_function (length P.source.functions) w.shared)
      (with_shared (made (next_function (length P.source.functions) w.shared) syntax (syntax_size P.source syntax)
      w.shared) (record w { units = m }))

  abbrev Next : Syntax → World → Type 0
  Next syntax w = (m : ℕ) → IsCompiled syntax w m → Follows P from V B (After syntax w m)

  pub compiled_run : (syntax : Syntax) (w : World) (g : Log) (a : ℕ) → g.shared ≡ w.shared →
      Goes P from.state
      (compiles P (op.Run run.Compile n a) n syntax (frame_at f p r) f.waiting g) →
      from.units + from.log.least + extra ≤ w.units + g.least →
      g.most + 512 * w.units + keep ≤ from.log.most + 512 * from.units → Next syntax w →
      Follows P from V B (compile_syntax P.source syntax w)
  compiled_run syntax w g a same go low high next =
      by (table_trap function) (arena_trap size w.shared)
      (subst (λ z. Goes P from.state
      (unless (table_trap (next_function (length P.source.functions) z)) (paid (op.Run run.Compile n a) g)
      (unless (arena_trap size z) (paid (op.Run run.Compile n a) g)
      (Compiling size syntax n (frame_at f p r) f.waiting g)))) same go)
    where
      size : ℕ
      size = syntax_size P.source syntax

      function : ℕ
      function = next_function (length P.source.functions) w.shared

      by : (t1 t2 : Option TrapKind) →
          Goes P from.state
          (unless t1 (paid (op.Run run.Compile n a) g) (unless t2 (paid (op.Run run.Compile n a) g)
          (Compiling (syntax_size P.source syntax) syntax n (frame_at f p r) f.waiting g))) →
          Follows P from V B
          (meaning.unless t1 w (meaning.unless t2 w
          (then_do (spend_all (syntax_size P.source syntax) w)
          (λ flow w1. spend (next_function (length P.source.functions) w.shared)
          (with_shared (made (next_function (length P.source.functions) w.shared) syntax (syntax_size P.source syntax)
          w1.shared) w1)))))
      by (Some kind) t2 go1 = record
          { log = paid (op.Run run.Compile n a) g; goes = go1; shared_is = same; high = omega (arith, high) }
      by None (Some kind) go1 = record
          { log = paid (op.Run run.Compile n a) g; goes = go1; shared_is = same; high = omega (arith, high) }
      by None None go1 =
          nodes_run (syntax_size P.source syntax) syntax
          (λ w1. spend (next_function (length P.source.functions) w.shared)
          (with_shared (made (next_function (length P.source.functions) w.shared) syntax (syntax_size P.source syntax)
          w1.shared) w1)) w g same go1 low high
          (λ m g1 le same1 go2 low1 high1. next m (record {
            log = sharing (made (next_function (length P.source.functions) g1.shared) syntax
                (syntax_size P.source syntax) g1.shared) (paid (op.Run run.Compile 0 0) g1);
            goes = subst (λ x. Goes P from.state (at_op f (suc p) (put n x r)
                (sharing (made (next_function (length P.source.functions) g1.shared) syntax
                (syntax_size P.source syntax) g1.shared) (paid (op.Run run.Compile 0 0) g1))))
                (ap (next_function (length P.source.functions)) same1)
                (goes_more go2 (record { steps = 1; comes = refl }));
            shared_is = ap (λ z. made (next_function (length P.source.functions) z) syntax
                (syntax_size P.source syntax) z) same1;
            fewer = le;
            low = omega (arith, low1);
            high = omega (arith, high1);
          }))
