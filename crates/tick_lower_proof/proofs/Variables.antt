-- The machine follows the specifications of variables of generated code: local and param.
use Rattle.std.proofs.Common.{◌≡◌, ℕ, suc, ◌+◌, ◌-◌, ◌≤◌, List, ◌∷◌, Option, Some, None, true, refl, ap, subst, arith}
use Rattle.std.specs.Prelude.{◌&&◌}
use Rattle.host_edge.specs.declared.ending.TrapKind.{TrapKind}
use Rattle.icode_ops.specs.declared.op.Op.{Op}
use Rattle.icode_ops.specs.declared.op.Op.TheVariants as op
use Rattle.icode_ops.specs.declared.kind.RunKind.TheVariants as run
use Rattle.icode_ir.specs.declared.build_op.BuildOp.TheVariants as build
use Rattle.meaning_state.specs.Shared.{Specification, Local, Param}
use Rattle.meaning_state.specs.Rows.{closure_trap, index_trap, next_number, specified}
use Rattle.typed_tree.specs.Nodes as node
use Rattle.typed_tree.specs.Nodes.{Expr, has_value}
use Rattle.staged_meaning.specs.Scope.{Scope}
use Rattle.staged_meaning.specs.World.{World, spend, with_shared}
use Rattle.staged_meaning.specs.World as meaning
use Rattle.staged_meaning.specs.Specifications.{specify, specify_parameter}
use Rattle.icode_meaning.specs.State.{Log}
use Rattle.icode_meaning.specs.Steps.{paid, sharing, set, goes_on, unless, specifies}
use Rattle.tick_lower_proof.proofs.Machine.{Goes, then_op, frame_at, at_op, put}
use Rattle.tick_lower_proof.proofs.Builder.{NotKey, top}
use Rattle.tick_lower_proof.proofs.Follow.{From, Follows, follows_less}
use Rattle.tick_lower_proof.proofs.Registers.{Within, AreBetween, AreHeld}
use Rattle.tick_lower_proof.proofs.Standing.{Site, floor_of, fits_on, At, IsBack, ExprRuns, Part, at_less, value_run}
use Rattle.tick_lower_proof.proofs.Exprs.{op_put, one_op}

module _ (site : Site) (scope : Scope) (inside : Within scope site.named) where
  -- a variable is specified by the op at p, whose result is register n
  specify_run : (sp : Specification) (o : Op) (from : From) (p n : ℕ) (stack stack' : List (ℕ × ℕ))
      (spare credit debt : ℕ) (w : World) (z : At site from scope p stack' (spare + 1) credit debt w) →
      floor_of site ≤ n → NotKey site.keys n → AreBetween (floor_of site) n stack → AreHeld site.keys z.regs stack →
      debt ≤ 300 →
      debt + 75 ≤ credit + 384 → (g : Log) → g.shared ≡ w.shared → z.log.least + 1 ≤ g.least →
      g.most ≤ z.log.most + 75 →
      Goes site.machine from.state (specifies sp n (frame_at site.call p z.regs) site.call.waiting g) →
      Follows site.machine from
      (λ y w1. At site from scope (suc p) ((n, y) ∷ stack) (spare + 1) (credit + 384 - debt - 75 + 128) 0 w1)
      (IsBack site from) (specify sp 0 w)
  specify_run sp o from p n stack stack' spare credit debt w z free apart below held few room g same low high go =
      by (closure_trap 0 w.shared)
      (subst (λ s. Goes site.machine from.state
      (unless (closure_trap 0 s) g (goes_on (set n (next_number s) (frame_at site.call p z.regs)) site.call.waiting
      (sharing (specified sp 0 s) g)))) same go)
    where
      by : (t : Option TrapKind) → Goes site.machine from.state
          (unless t g (at_op site.call (suc p) (put n (next_number w.shared) z.regs)
          (sharing (specified sp 0 w.shared) g)))
          →
          Follows site.machine from
          (λ y w1. At site from scope (suc p) ((n, y) ∷ stack) (spare + 1) (credit + 384 - debt - 75 + 128) 0 w1)
          (IsBack site from)
          (meaning.unless t w (spend (next_number w.shared) (with_shared (specified sp 0 w.shared) w)))
      by (Some kind) go1 = record
          { log = g; goes = go1; shared_is = same; high = omega (arith, high, z.high, z.fewer, few) }
      by None go1 =
          value_run site from scope (next_number w.shared) (suc p) n stack (spare + 1 + 1) credit (debt + 75) spare
          (credit + 384 - debt - 75) (with_shared (specified sp 0 w.shared) w)
          (op_put site scope inside from p (suc p) n (next_number w.shared) stack' stack (spare + 1) credit debt w z
          free apart below held (sharing (specified sp 0 w.shared) g) (specified sp 0 w.shared) go1 refl 1 75 low high)
          (omega arith) (omega (arith, few)) (omega (arith, room))

  -- numbers that promise less, of a value
  leaves_less : (from : From) (p : ℕ) (r : ℕ) (stack : List (ℕ × ℕ)) (spare credit more : ℕ) (y : ℕ) (w : World) →
      credit ≤ more → At site from scope p ((r, y) ∷ stack) (spare + 1) (more + 128) 0 w →
      At site from scope p ((r, y) ∷ stack) (spare + 1) (credit + 128) 0 w
  leaves_less from p r stack spare credit more y w le z =
      at_less site from scope p ((r, y) ∷ stack) (spare + 1) (more + 128) 0 (spare + 1) (credit + 128) 0 w (omega arith)
      (omega (arith, le)) z

  pub local_run : ExprRuns site scope node.Local
  local_run ok l t st tn v stack fits at from spare credit w lt z =
      let n = v.next in
      let go1 = then_op site.call v.place z.regs z.log (op.Const n 0) z.goes at.0.0 refl in
      let z0 = op_put site scope inside from v.place (suc v.place) n 0 stack stack spare credit 0 w z fits.free
      (at.0.1 n (omega arith) (omega arith)) fits.below z.held (paid (op.Const n 0) z.log) w.shared go1 z.shared_is 3 5
      (omega arith) (omega arith) in
      let z1 = at_less site from scope (suc v.place) ((n, 0) ∷ stack) (spare + 3) credit (0 + 5) (spare + 1)
      credit 5 w (omega arith) (omega arith) z0 in
      let o2 = op.Run run.Local (n + 1) n in
      let go2 = then_op site.call (suc v.place) z1.regs z1.log o2 z1.goes at.1.0.0
      (ap (λ b. b && true) z1.held.0.on) in
      let on = fits_on site v (record v { next = v.next + 1 }) stack refl (omega arith) fits in
      follows_less site.machine from
      (λ y w1. At site from scope (suc (suc v.place)) ((n + 1, y) ∷ stack) (spare + 1) (credit + 384 - 5 - 75 + 128) 0
      w1)
      (λ y w1. At site from scope (suc (suc v.place)) ((n + 1, y) ∷ stack) (spare + 1) (credit + 128) 0 w1)
      (IsBack site from) (specify Local 0 w)
      (λ y w1 h. leaves_less from (suc (suc v.place)) (n + 1) stack spare credit (credit + 384 - 5 - 75) y w1
      (omega arith) h)
      (specify_run Local o2 from (suc v.place) (n + 1) stack ((n, 0) ∷ stack) spare credit 5 w z1 on.free
      (at.1.0.1 (n + 1) (omega arith) (omega arith)) on.below
      z1.held.1 (omega arith) (omega arith) (paid o2 z1.log) z1.shared_is (omega arith) (omega arith) go2)

  pub param_node : (a : Expr) → Part site scope a → has_value a ≡ true → ExprRuns site scope (node.ParamOf a)
  param_node a part is ok l t st tn v stack fits at from spare credit w lt z =
      one_op site scope inside a (build.Run run.Parameter) part is ok l t st tn v stack fits at from spare credit w lt z
      specify_parameter
      (λ v1 at1 x w1 fits1 h.
      let a1 = top v1.operands in
      let o1 = op.Run run.Parameter v1.next a1 in
      let go = then_op site.call v1.place h.regs h.log o1 h.goes at1.0.0 (ap (λ b. b && true) h.held.0.on) in
      let go1 = subst (λ y. Goes site.machine from.state
      (unless (index_trap y) (paid o1 h.log)
      (specifies (Param y) v1.next (frame_at site.call v1.place h.regs) site.call.waiting (paid o1 h.log))))
      h.held.0.value go in
      by from spare credit a1 x v1.place v1.next w1 h fits1.free (at1.0.1 v1.next (omega arith) (omega arith))
      fits1.below.2 (index_trap x) go1)
    where
      by : (from : From) (spare credit a1 x p n : ℕ) (w1 : World)
          (h : At site from scope p ((a1, x) ∷ stack) (spare + 1) (credit + 128) 0 w1) → floor_of site ≤ n →
          NotKey site.keys n → AreBetween (floor_of site) n stack → (trap : Option TrapKind) →
          Goes site.machine from.state (unless trap (paid (op.Run run.Parameter n a1) h.log)
          (specifies (Param x) n (frame_at site.call p h.regs) site.call.waiting
          (paid (op.Run run.Parameter n a1) h.log))) →
          Follows site.machine from
          (λ y w2. At site from scope (suc p) ((n, y) ∷ stack) (spare + 1) (credit + 128) 0 w2) (IsBack site from)
          (meaning.unless trap w1 (specify (Param x) 0 w1))
      by from spare credit a1 x p n w1 h free apart below (Some kind) go = record {
        log = paid (op.Run run.Parameter n a1) h.log;
        goes = go;
        shared_is = h.shared_is;
        high = omega (arith, h.high, h.fewer);
      }
      by from spare credit a1 x p n w1 h free apart below None go =
          follows_less site.machine from
          (λ y w2. At site from scope (suc p) ((n, y) ∷ stack) (spare + 1) (credit + 128 + 384 - 0 - 75 + 128) 0 w2)
          (λ y w2. At site from scope (suc p) ((n, y) ∷ stack) (spare + 1) (credit + 128) 0 w2)
          (IsBack site from) (specify (Param x) 0 w1)
          (λ y w2 k. leaves_less from (suc p) n stack spare credit (credit + 128 + 384 - 0 - 75) y w2 (omega arith) k)
          (specify_run (Param x) (op.Run run.Parameter n a1) from p n stack ((a1, x) ∷ stack) spare (credit + 128) 0 w1
          h
          free apart below h.held.1 (omega arith) (omega arith) (paid (op.Run run.Parameter n a1) h.log) h.shared_is
          (omega arith) (omega arith) go)
