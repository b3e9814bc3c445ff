use Rattle.std.proofs.Common.{Ok, Err, sym, ap, ◌∙◌}
use Rattle.code_arena.specs.Kept.{arena_of, rows_of}
use Rattle.mips_model.specs.CodeServices as services
use Rattle.mips_model.specs.State.{register}
use Rattle.mips_core.specs.Core.{CoreKept, state_of, data_of, generated}
use Rattle.mips_core.proofs.Generated.{by_registers, left_alone, stays}
use Rattle.mips_core.proofs.rest.Rest.generate.Goals as goal

pub returns-in-Ok-clause-served : goal.returns-in-Ok-clause-served
returns-in-Ok-clause-served c =
    let d = data_of c.args.self.now in
    let arena = arena_of c.serve.new.arena in
    let table = rows_of c.serve.new.rows in
    let s = by_registers c.register-number.result c.register-first.result c.register-second.result
    c.register-third.result (register 2 d) (register 4 d) (register 5 d) (register 6 d) c.args.service.now
    c.serve.new.self (arena_of c.self.inside.arena) arena (state_of c.args.self.now).code.arena
    (rows_of c.self.inside.table) table d.table (Ok c.in-Ok.answer)
    c.register-number.ensures c.register-first.ensures c.register-second.ensures c.register-third.ensures
    (ap (λ (k : CoreKept). arena_of k.arena) c.self.view_is) (ap (λ (k : CoreKept). rows_of k.table) c.self.view_is)
    c.in-Ok.ensures.served in (
      s.0,
      arena,
      table,
      s.1,
      s.2,
      c.answer.ensures.world ∙ ap (λ (k : CoreKept). generated c.in-Ok.answer arena table (state_of k)) c.self.view_is,
    )

pub returns-in-Err-clause-served : goal.returns-in-Err-clause-served
returns-in-Err-clause-served c =
    let now = c.args.self.now in
    let d = data_of now in
    let old = (state_of now).code.arena in
    let arena = arena_of c.serve.new.arena in
    let table = rows_of c.serve.new.rows in
    let g = c.args.service.now in
    let s = by_registers c.register-number.result c.register-first.result c.register-second.result
    c.register-third.result (register 2 d) (register 4 d) (register 5 d) (register 6 d) g c.serve.new.self
    (arena_of c.self.inside.arena) arena old (rows_of c.self.inside.table) table d.table (Err c.in-Err.why)
    c.register-number.ensures c.register-first.ensures c.register-second.ensures c.register-third.ensures
    (ap (λ (k : CoreKept). arena_of k.arena) c.self.view_is) (ap (λ (k : CoreKept). rows_of k.table) c.self.view_is)
    c.in-Err.ensures.served in
    let same = left_alone (services.service s.0 (register 2 d) (register 4 d) (register 5 d) (register 6 d) g)
    c.in-Err.why g c.serve.new.self old arena d.table table s.2 in (
      s.0,
      arena,
      table,
      s.1,
      s.2,
      stays _ now arena old table d.table c.self.view_is same.0 same.1
          (sym (ap (λ (k : CoreKept). arena_of k.arena) c.self.view_is))
          (sym (ap (λ (k : CoreKept). rows_of k.table) c.self.view_is)) c.requires.on,
    )
