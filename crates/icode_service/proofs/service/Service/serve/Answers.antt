use Rattle.std.proofs.Common.{refl, arith}
use Rattle.code_arena.specs.Kept.{arena_of, rows_of}
use Rattle.icode_service.proofs.Serving.{as_begin, as_emit, as_finish, as_flush, as_publish, as_none, begin_few}
use Rattle.icode_service.proofs.Serving.{emit_few}
use Rattle.icode_service.proofs.service.Service.serve.Goals as goal

pub returns-in-64-clause-served : goal.returns-in-64-clause-served
returns-in-64-clause-served c =
    let a = arena_of c.args.arena.now in
    let r = rows_of c.args.rows.now in
    as_begin c.args.number c.args.first c.args.second c.args.third c.args.self.now c.begin.new.self a a r r
    c.begin.result c.in-64.is (c.begin.ensures a r)

pub returns-in-65-clause-served : goal.returns-in-65-clause-served
returns-in-65-clause-served c =
    let a = arena_of c.args.arena.now in
    let r = rows_of c.args.rows.now in
    as_emit c.args.number c.args.first c.args.second c.args.third c.args.self.now c.emit.new.self a a r r
    c.emit.result c.in-65.is (c.emit.ensures a r)

pub returns-in-66-clause-served : goal.returns-in-66-clause-served
returns-in-66-clause-served c =
    let r = rows_of c.args.rows.now in
    as_finish c.args.number c.args.first c.args.second c.args.third c.args.self.now c.finish.new.self
    (arena_of c.args.arena.now) (arena_of c.finish.new.arena) r r c.finish.result c.in-66.is refl
    c.finish.ensures.finished

pub returns-in-67-clause-served : goal.returns-in-67-clause-served
returns-in-67-clause-served c =
    let g = c.args.self.now in
    let r = rows_of c.args.rows.now in
    as_flush c.args.number c.args.first c.args.second c.args.third g g
    (arena_of c.args.arena.now) (arena_of c.flush.new.arena) r r c.flush.result c.in-67.is (c.flush.ensures g r)

pub returns-in-68-clause-served : goal.returns-in-68-clause-served
returns-in-68-clause-served c =
    let g = c.args.self.now in
    let a = arena_of c.args.arena.now in
    as_publish c.args.number c.args.first c.args.second c.args.third g g a a
    (rows_of c.args.rows.now) (rows_of c.publish.new.rows) c.publish.result c.in-68.is (c.publish.ensures g a)

pub returns-in_default-clause-served : goal.returns-in_default-clause-served
returns-in_default-clause-served c =
    as_none c.args.number c.args.first c.args.second c.args.third c.args.self.now (arena_of c.args.arena.now)
    (rows_of c.args.rows.now) (omega arith) (omega arith) (omega arith) (omega arith) (omega arith)

pub returns-in-64-clause-few : goal.returns-in-64-clause-few
returns-in-64-clause-few c =
    begin_few c.args.first c.args.self.now c.begin.new.self (arena_of c.args.arena.now) (rows_of c.args.rows.now)
    c.begin.result c.begin.ensures

pub returns-in-65-clause-few : goal.returns-in-65-clause-few
returns-in-65-clause-few c =
    emit_few c.args.first c.args.second c.args.third c.args.self.now c.emit.new.self (arena_of c.args.arena.now)
    (rows_of c.args.rows.now) c.emit.result c.emit.ensures
