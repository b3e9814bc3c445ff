-- The machine follows a compile as an expression.
use Rattle.std.proofs.Common.{◌≡◌, ℕ, suc, ◌+◌, ◌≤◌, List, ◌∷◌, length, Option, Some, true, sym, ap, subst, arith}
use Rattle.std.specs.Prelude.{◌&&◌}
use Rattle.history.specs.Syntax.{Syntax}
use Rattle.icode_ops.specs.declared.op.Op.TheVariants as op
use Rattle.icode_ops.specs.declared.kind.RunKind.TheVariants as run
use Rattle.icode_ir.specs.declared.build_op.BuildOp.TheVariants as build
use Rattle.meaning_state.specs.Shared.{Specification, Expression, Statement}
use Rattle.meaning_state.specs.Rows.{numbered, next_function, made}
use Rattle.typed_tree.specs.Nodes as node
use Rattle.typed_tree.specs.Nodes.{Expr, has_value}
use Rattle.staged_meaning.specs.Scope.{Scope}
use Rattle.staged_meaning.specs.World.{World, with_shared}
use Rattle.staged_meaning.specs.Program.{syntax_size}
use Rattle.staged_meaning.specs.Specifications.{compile_number, compile_syntax}
use Rattle.staged_meaning.specs.Specifications as source
use Rattle.icode_meaning.specs.Steps.{paid, compile_row, compiles}
use Rattle.tick_lower_proof.proofs.Machine.{Goes, then_op, frame_at, put}
use Rattle.tick_lower_proof.proofs.Builder.{NotKey, top}
use Rattle.tick_lower_proof.proofs.Follow.{From, Follows}
use Rattle.tick_lower_proof.proofs.Registers.{Within, AreBetween, put_vars, held_above, held_new}
use Rattle.tick_lower_proof.proofs.Registers.{keys_put, keeps_put}
use Rattle.tick_lower_proof.proofs.Standing.{base_of, Site, floor_of, At, IsBack, ExprRuns, Part, reserve, value_run}
use Rattle.tick_lower_proof.proofs.Exprs.{one_op}
use Rattle.tick_lower_proof.proofs.CompileNode.{compiled_run}

module _ (site : Site) (scope : Scope) (inside : Within scope site.named) where
  -- of a specification that is there
  made_run : (stack0 : List (ℕ × ℕ)) (from : From) (spare credit a1 x p n : ℕ) (w1 : World)
      (h : At site from scope p ((a1, x) ∷ stack0) (spare + 1) (credit + 128) 0 w1) → floor_of site ≤ n →
      NotKey site.keys n → AreBetween (floor_of site) n stack0 → (syntax : Syntax) →
      Goes site.machine from.state (compiles site.machine (op.Run run.Compile n a1) n syntax
      (frame_at site.call p h.regs) site.call.waiting h.log) →
      Follows site.machine from
      (λ y w2. At site from scope (suc p) ((n, y) ∷ stack0) (spare + 1) (credit + 128) 0 w2) (IsBack site from)
      (compile_syntax site.machine.source syntax w1)
  made_run stack0 from spare credit a1 x p n w1 h free apart below syntax go =
      let P = site.machine in
      let sn = site.few in
      let hl = h.low in
      let hh = h.high in
      let V : ℕ → World → Type 0 =
      λ y w2. At site from scope (suc p) ((n, y) ∷ stack0) (spare + 1) (credit + 128) 0 w2 in
      compiled_run P from site.call p n h.regs (spare + 1) (credit + 128 + reserve) (omega arith) V (IsBack site from)
      syntax w1 h.log a1
      h.shared_is go
      (omega (arith, hl)) (omega (arith, hh))
      (λ m c.
      let f = next_function (length P.source.functions) w1.shared in
      let w2 = with_shared (made f syntax (syntax_size P.source syntax) w1.shared) (record w1 { units = m }) in
      let z : At site from scope (suc p) ((n, f) ∷ stack0) (spare + 2) (credit + 128) 75 w2 =
      record {
        regs = put n f h.regs;
        log = c.log;
        goes = c.goes;
        vars = put_vars n f (base_of site.bodies) site.named scope h.regs w1.variables inside (omega (arith, free, sn))
            h.vars;
        held = (
          held_new site.keys n f h.regs apart,
          held_above site.keys n f (floor_of site) h.regs stack0 below h.held.1,
        );
        keys = keys_put n f site.keys h.regs w1.generated apart h.keys;
        kept = keeps_put n f (base_of site.bodies) site.keys site.outer h.regs (omega (arith, free)) h.kept;
        shared_is = c.shared_is;
        fewer = let q = c.fewer in let g = h.fewer in omega (arith, q, g);
        low = let q = c.low in omega (arith, q);
        high = let q = c.high in omega (arith, q);
      } in
      value_run site from scope f (suc p) n stack0 (spare + 2) (credit + 128) 75 spare credit w2 z (omega arith)
      (omega arith) (omega arith))

  pub compile_node : (a : Expr) → Part site scope a → has_value a ≡ true →
      site.context.program ≡ site.machine.source → ExprRuns site scope (node.Compile a)
  compile_node a part is program_is ok l t st tn v stack fits at from spare credit w lt z =
      one_op site scope inside a (build.Run run.Compile) part is ok l t st tn v stack fits at from spare credit w lt z
      (compile_number site.context.program)
      (λ v1 at1 x w1 fits1 h.
      let a1 = top v1.operands in
      let o1 = op.Run run.Compile v1.next a1 in
      let go = then_op site.call v1.place h.regs h.log o1 h.goes at1.0.0 (ap (λ b. b && true) h.held.0.on) in
      let go1 = subst (λ y. Goes site.machine from.state
      (compile_row site.machine o1 v1.next (numbered y h.log.shared.specifications) (frame_at site.call v1.place h.regs)
      site.call.waiting h.log)) h.held.0.value go in
      let go2 = subst (λ s. Goes site.machine from.state
      (compile_row site.machine o1 v1.next (numbered x s.specifications) (frame_at site.call v1.place h.regs)
      site.call.waiting h.log)) h.shared_is go1 in
      subst (λ p. Follows site.machine from
      (λ y w2. At site from scope (suc v1.place) ((v1.next, y) ∷ stack) (spare + 1) (credit + 128) 0 w2)
      (IsBack site from) (compile_number p x w1)) (sym program_is)
      (by from spare credit a1 x v1.place v1.next w1 h fits1.free (at1.0.1 v1.next (omega arith) (omega arith))
      fits1.below.2 (numbered x w1.shared.specifications)
      go2))
    where
      by : (from : From) (spare credit a1 x p n : ℕ) (w1 : World)
          (h : At site from scope p ((a1, x) ∷ stack) (spare + 1) (credit + 128) 0 w1) → floor_of site ≤ n →
          NotKey site.keys n → AreBetween (floor_of site) n stack → (row : Option Specification) →
          Goes site.machine from.state (compile_row site.machine (op.Run run.Compile n a1) n row
          (frame_at site.call p h.regs) site.call.waiting h.log) →
          Follows site.machine from
          (λ y w2. At site from scope (suc p) ((n, y) ∷ stack) (spare + 1) (credit + 128) 0 w2) (IsBack site from)
          (source.compile_row site.machine.source row w1)
      by from spare credit a1 x p n w1 h free apart below (Some (Expression syntax)) go =
          made_run stack from spare credit a1 x p n w1 h free apart below syntax go
      by from spare credit a1 x p n w1 h free apart below (Some (Statement syntax)) go =
          made_run stack from spare credit a1 x p n w1 h free apart below syntax go
      by from spare credit a1 x p n w1 h free apart below _ go = record {
        log = paid (op.Run run.Compile n a1) h.log;
        goes = go;
        shared_is = h.shared_is;
        high = omega (arith, h.high, h.fewer);
      }
