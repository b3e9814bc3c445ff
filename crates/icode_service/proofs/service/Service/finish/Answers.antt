use Rattle.std.proofs.Common.{◌≡◌, ◌+◌, Some, true, false, inl, refl, sym, ap, subst, length, take, ◌∙◌}
use Rattle.std.proofs.lemmas.List.{with_items_is}
use Rattle.code_arena.specs.Kept.{arena_of}
use Rattle.icode_ir.specs.Build.{Build}
use Rattle.mips_model.specs.declared.bad_service.BadService.TheVariants as reason
use Rattle.mips_model.specs.CodeServices.{is_done}
use Rattle.icode_service.specs.Held.{generator}
use Rattle.icode_service.proofs.Outcomes.{build_some, build_none, unchanged, is_left, none_left}
use Rattle.icode_service.proofs.Finishes.{unbegun, left_over, bad, good, counted_is}
use Rattle.icode_service.proofs.service.Service.finish.Goals as goal

pub returns-then-not-self-clause-finished : goal.returns-then-not-self-clause-finished
returns-then-not-self-clause-finished c =
    let i = c.self.inside in
    let g = c.args.self.now in
    unbegun c.args.at c.args.most c.args.frame g (arena_of c.args.arena.now)
    (build_none i.is_begun i.builder i.count i.places.items i.spills g c.self.view_is c.if-not-self.true)

pub returns-in-Err-clause-finished : goal.returns-in-Err-clause-finished
returns-in-Err-clause-finished c =
    let i = c.self.inside in
    let g = c.args.self.now in
    let a = arena_of c.args.arena.now in
    let b = build_some i.is_begun i.builder i.count i.places.items i.spills g c.self.view_is c.if-not-self.false in
    let left = is_left i.builder.build.operands i.builder.build.bodies c.in-Err.ensures.0 in
    bad c.args.at c.args.most c.args.frame g (generator i.is_begun c.finish.new.self i.count i.places.items i.spills)
    i.builder.build reason.NotEmpty a a b
    (unchanged i.is_begun i.builder c.finish.new.self i.count i.places.items i.spills g c.self.view_is
    (ap (λ z. z.build) c.in-Err.ensures.1))
    refl (inl (left_over i.builder.build c.args.at c.args.most c.args.frame left))

pub returns-in-Err-compile-clause-finished : goal.returns-in-Err-compile-clause-finished
returns-in-Err-compile-clause-finished c =
    let i = c.self.inside in
    let g = c.args.self.now in
    let b = build_some i.is_begun i.builder i.count i.places.items i.spills g c.self.view_is c.if-not-self.false in
    let same = ap (λ z. z.build) c.in_default.ensures.2 in
    bad c.args.at c.args.most c.args.frame g (generator i.is_begun c.reopen.new.self i.count i.places.items i.spills)
    c.finish.new.self.build c.in-Err-compile.why (arena_of c.args.arena.now) (arena_of c.compile.new.arena)
    (b ∙ ap (λ (x : Build). Some x) (sym same))
    (unchanged i.is_begun i.builder c.reopen.new.self i.count i.places.items i.spills g c.self.view_is
    (ap (λ z. z.build) c.reopen.ensures ∙ same))
    (ap arena_of c.in-Err-compile.ensures.made.1) c.in-Err-compile.ensures.made.0

pub returns-clause-finished : goal.returns-clause-finished
returns-clause-finished c =
    let i = c.self.inside in
    let g = c.args.self.now in
    let b = build_some i.is_begun i.builder i.count i.places.items i.spills g c.self.view_is c.if-not-self.false in
    let same = ap (λ z. z.build) c.in_default.ensures.2 in
    let n = c.finish.new.self.build.registers in
    good c.args.at c.args.most c.args.frame g
    (generator false c.finish.new.self c.registers-self-inside.result c.swap.new.x.items (i.spills + c.from.result))
    c.finish.new.self.build (arena_of c.args.arena.now) (arena_of c.compile.new.arena) (take n c.compile.new.next)
    c.in-Ok.made.spills c.in-Ok.made.words
    (b ∙ ap (λ (x : Build). Some x) (sym same))
    (counted_is c.finish.new.self c.registers-self-inside.result n c.swap.new.x.items c.compile.new.next i.spills
    c.from.result g.spills c.in-Ok.made.spills c.registers-self-inside.ensures
    (ap (λ z. z.items) c.swap.ensures.x_after
    ∙ with_items_is i.next c.compile.new.next
    (c.compile.ensures.length ∙ (ap length c.deref_mut.ensures.value ∙ sym i.next.ok.0)))
    (ap (λ z. z.spills) c.self.view_is) c.from.ensures)
    c.in-Ok.ensures.made

pub compile-requires-clause-done : goal.compile-requires-clause-done
compile-requires-clause-done c =
    let i = c.self.inside in
    subst (λ z. is_done z.build ≡ true) (sym c.in_default.ensures.2)
    (none_left i.builder.build.operands i.builder.build.bodies c.in_default.ensures.0 c.in_default.ensures.1)
