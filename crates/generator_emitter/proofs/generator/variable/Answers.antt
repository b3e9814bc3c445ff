use Rattle.std.proofs.Common.{ℕ, List, ◌++◌, ap, ◌∙◌, append_assoc}
use Rattle.icode_templates.specs.Words.{words}
use Rattle.routine_spec.specs.Generator.{key_code, emit_code}
use Rattle.generator_emitter.proofs.generator.variable.Goals as goal

pub returns : goal.returns
returns c =
    c.emit.ensures.words
    ∙ ap (λ (ws : List ℕ). ws ++ words (emit_code c.args.code)) c.key.ensures.words
    ∙ append_assoc c.args.s.now (words (key_code c.args.capture)) (words (emit_code c.args.code))
