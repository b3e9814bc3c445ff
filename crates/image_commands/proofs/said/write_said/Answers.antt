use Rattle.std.proofs.Common.{◌≡◌, ◌∙◌, subst, map}
use Rattle.std.specs.Prelude.{string_bytes}
use Rattle.std.specs.Io.KnownBytes.{Appends}
use Rattle.std.proofs.KnownBytes.{Appends-trans}
use Rattle.std.proofs.lemmas.Result.{on_err_weaker, on_ok_weaker}
use Rattle.host_edge.specs.Moves.{TakesFront}
use Rattle.asm_print.proofs.Fronts.{front_first, front_second, at_error}
use Rattle.tick_outcome.specs.Outcomes.{line_of}
use Rattle.image_commands.specs.Said.{counts_said}
use Rattle.image_commands.proofs.said.write_said.Goals as goal

pub returns-in_err-write_counts-clause-front : goal.returns-in_err-write_counts-clause-front
returns-in_err-write_counts-clause-front g c =
    at_error c.from_residual.result
    (front_first _ _ (counts_said (map string_bytes c.args.words.now) c.args.ended.now)
    (line_of c.args.ended.now.outcome)
    c.in_err-write_counts.ensures.front)

pub returns-clause-whole : goal.returns-clause-whole
returns-clause-whole g c =
    let line : c.as_bytes.result.now ≡ line_of c.args.ended.now.outcome = c.as_bytes.ensures ∙ c.line_of-line.ensures in
    on_ok_weaker c.write_whole.result
    (λ t. Appends-trans _ _ _ (counts_said (map string_bytes c.args.words.now) c.args.ended.now)
    (line_of c.args.ended.now.outcome)
    c.in_ok-write_counts.ensures.whole
    (subst (Appends (g.E.Sink.taken c.write_counts.new.err) (g.E.Sink.taken c.write_whole.new.out)) line t))
    c.write_whole.ensures.whole

pub returns-clause-front : goal.returns-clause-front
returns-clause-front g c =
    let line : c.as_bytes.result.now ≡ line_of c.args.ended.now.outcome = c.as_bytes.ensures ∙ c.line_of-line.ensures in
    on_err_weaker c.write_whole.result
    (λ t. front_second _ _ _ (counts_said (map string_bytes c.args.words.now) c.args.ended.now)
    (line_of c.args.ended.now.outcome)
    c.in_ok-write_counts.ensures.whole
    (subst (TakesFront (g.E.Sink.taken c.write_counts.new.err) (g.E.Sink.taken c.write_whole.new.out)) line t))
    c.write_whole.ensures.front
