use Rattle.std.proofs.Common.{ℕ, length, inr, refl, sym, subst}
use Rattle.code_arena.specs.Kept.{arena_of}
use Rattle.icode_ops.specs.Finished.{IsFinished}
use Rattle.icode_service.proofs.Made.{frame_low, made_is, short_is}
use Rattle.icode_service.proofs.compile.write_code.Goals as goal

pub choose-spills-requires : goal.choose-spills-requires
choose-spills-requires c =
    subst (λ (n : ℕ). IsFinished c.args.ops.now n) (sym c.requires.ops.2) c.requires.ops.3

pub write-requires-clause-finished : goal.write-requires-clause-finished
write-requires-clause-finished c = (c.requires.ops.0.registers, c.requires.ops.3)

pub write-requires-clause-frame : goal.write-requires-clause-frame
write-requires-clause-frame c = frame_low c.args.frame (length c.args.places.now) c.requires.frame

pub returns-in-Ok-clause-made : goal.returns-in-Ok-clause-made
returns-in-Ok-clause-made c =
    λ b e n d. made_is b c.args.ops.now c.choose-spills.new.places (length c.args.places.now) c.args.at c.args.most
    c.args.frame c.in-Ok.words c.choose-spills.result (arena_of c.args.arena.now) (arena_of c.write.new.arena)
    e n d c.requires.taken c.requires.frame c.choose-spills.ensures.scanned
    c.in-Ok.ensures.0 c.in-Ok.ensures.1 c.in-Ok.ensures.2

pub returns-in-Err-clause-made : goal.returns-in-Err-clause-made
returns-in-Err-clause-made c =
    λ b e n d. (
      inr (
        refl,
        short_is b c.args.ops.now c.choose-spills.new.places (length c.args.places.now) c.args.at c.args.most
            c.args.frame c.choose-spills.result e n d c.requires.taken c.requires.frame
            c.choose-spills.ensures.scanned c.in-Err.ensures.0,
      ),
      c.in-Err.ensures.1,
    )
