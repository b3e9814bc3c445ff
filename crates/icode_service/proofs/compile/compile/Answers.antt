use Rattle.std.proofs.Common.{inl, refl, ◌∙◌, arith}
use Rattle.std.proofs.lemmas.List.{length-take-le}
use Rattle.icode_service.proofs.Made.{refused_is}
use Rattle.icode_service.proofs.compile.compile.Goals as goal

pub returns-in-Some-clause-made : goal.returns-in-Some-clause-made
returns-in-Some-clause-made c = (
  inl
      (refused_is c.args.builder.now.build c.args.at c.args.most c.args.frame c.registers-registers.result
      c.refusal.result
      c.in-Some.why c.registers-registers.ensures c.requires.done c.refusal.ensures c.in-Some.is),
  refl,
)

pub write_code-requires-clause-ops : goal.write_code-requires-clause-ops
write_code-requires-clause-ops c = (
  c.args.builder.now.build,
  c.ops-ops.ensures.ops,
  length-take-le c.registers-registers.result c.args.next.now
      (omega (arith, c.registers-registers.ensures, c.ops-ops.ensures.finished.few_registers, c.requires.room))
      ∙ c.registers-registers.ensures,
  c.ops-ops.ensures.finished,
  c.requires.done,
)
