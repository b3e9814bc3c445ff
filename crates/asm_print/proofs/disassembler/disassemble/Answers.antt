use Rattle.std.proofs.Common.{◌≡◌, ◌∙◌, ap, subst, List, ℕ, ◌++◌}
use Rattle.std.specs.List.{flat_map}
use Rattle.std.specs.Io.KnownBytes.{Appends}
use Rattle.std.proofs.KnownBytes.{Appends-trans}
use Rattle.std.proofs.lemmas.Result.{on_err_weaker, on_ok_weaker}
use Rattle.host_edge.specs.Moves.{TakesFront}
use Rattle.image_file.specs.Image.{ImageParts}
use Rattle.asm_print.specs.Text as spec
use Rattle.asm_print.proofs.Fronts.{front_first, front_second, at_error}
use Rattle.asm_print.proofs.disassembler.disassemble.Goals as goal

-- The parts of a text.
abbrev entry : ImageParts → List ℕ
entry i = spec.entry_line i.entry

abbrev functions : ImageParts → List ℕ
functions i = flat_map spec.function_line i.functions

abbrev words : ImageParts → List ℕ
words i = flat_map spec.word_line i.text

abbrev after_functions : ImageParts → List ℕ
after_functions i = spec.data_lines i.bytes ++ words i

abbrev after_entry : ImageParts → List ℕ
after_entry i = functions i ++ after_functions i

pub returns-in_err-write_whole-clause-front : goal.returns-in_err-write_whole-clause-front
returns-in_err-write_whole-clause-front g c =
    let e : c.as_bytes.result.now ≡ entry c.args.image.now =
    c.as_bytes.ensures ∙ c.entry_line.ensures ∙ ap spec.entry_line c.entry.ensures.value in
    at_error c.from_residual.result
    (front_first _ _ (entry c.args.image.now) (after_entry c.args.image.now)
    (subst (TakesFront (g.O.Sink.taken c.args.out.now) (g.O.Sink.taken c.write_whole.new.out)) e
    c.in_err-write_whole.ensures.front))

pub returns-in_err-write_functions-clause-front : goal.returns-in_err-write_functions-clause-front
returns-in_err-write_functions-clause-front g c =
    let e : c.as_bytes.result.now ≡ entry c.args.image.now =
    c.as_bytes.ensures ∙ c.entry_line.ensures ∙ ap spec.entry_line c.entry.ensures.value in
    let p = subst (Appends (g.O.Sink.taken c.args.out.now) (g.O.Sink.taken c.write_whole.new.out)) e
    c.in_ok-write_whole.ensures.whole in
    let f = ap (flat_map spec.function_line) c.functions.ensures.value in
    at_error c.from_residual-in_err-write_functions.result
    (front_second _ _ _ (entry c.args.image.now) (after_entry c.args.image.now) p
    (front_first _ _ (functions c.args.image.now) (after_functions c.args.image.now)
    (subst (TakesFront (g.O.Sink.taken c.write_whole.new.out) (g.O.Sink.taken c.write_functions.new.out)) f
    c.in_err-write_functions.ensures.front)))

pub returns-in_err-write_data-clause-front : goal.returns-in_err-write_data-clause-front
returns-in_err-write_data-clause-front g c =
    let e : c.as_bytes.result.now ≡ entry c.args.image.now =
    c.as_bytes.ensures ∙ c.entry_line.ensures ∙ ap spec.entry_line c.entry.ensures.value in
    let p = subst (Appends (g.O.Sink.taken c.args.out.now) (g.O.Sink.taken c.write_whole.new.out)) e
    c.in_ok-write_whole.ensures.whole in
    let f = ap (flat_map spec.function_line) c.functions.ensures.value in
    let q = subst (Appends (g.O.Sink.taken c.write_whole.new.out) (g.O.Sink.taken c.write_functions.new.out)) f
    c.in_ok-write_functions.ensures.whole in
    let d = ap spec.data_lines c.bytes-data.ensures.value in
    at_error c.from_residual-in_err-write_data.result
    (front_second _ _ _ (entry c.args.image.now) (after_entry c.args.image.now) p
    (front_second _ _ _ (functions c.args.image.now) (after_functions c.args.image.now) q
    (front_first _ _ (spec.data_lines c.args.image.now.bytes) (words c.args.image.now)
    (subst (TakesFront (g.O.Sink.taken c.write_functions.new.out) (g.O.Sink.taken c.write_data.new.out)) d
    c.in_err-write_data.ensures.front))))

pub returns-clause-whole : goal.returns-clause-whole
returns-clause-whole g c =
    let e : c.as_bytes.result.now ≡ entry c.args.image.now =
    c.as_bytes.ensures ∙ c.entry_line.ensures ∙ ap spec.entry_line c.entry.ensures.value in
    let p = subst (Appends (g.O.Sink.taken c.args.out.now) (g.O.Sink.taken c.write_whole.new.out)) e
    c.in_ok-write_whole.ensures.whole in
    let f = ap (flat_map spec.function_line) c.functions.ensures.value in
    let q = subst (Appends (g.O.Sink.taken c.write_whole.new.out) (g.O.Sink.taken c.write_functions.new.out)) f
    c.in_ok-write_functions.ensures.whole in
    let d = ap spec.data_lines c.bytes-data.ensures.value in
    let r = subst (Appends (g.O.Sink.taken c.write_functions.new.out) (g.O.Sink.taken c.write_data.new.out)) d
    c.in_ok-write_data.ensures.whole in
    let w = ap (flat_map spec.word_line) c.text.ensures.value in
    on_ok_weaker c.write_words.result
    (λ t. Appends-trans _ _ _ (entry c.args.image.now) (after_entry c.args.image.now) p
    (Appends-trans _ _ _ (functions c.args.image.now) (after_functions c.args.image.now) q
    (Appends-trans _ _ _ (spec.data_lines c.args.image.now.bytes) (words c.args.image.now) r
    (subst (Appends (g.O.Sink.taken c.write_data.new.out) (g.O.Sink.taken c.write_words.new.out)) w t))))
    c.write_words.ensures.whole

pub returns-clause-front : goal.returns-clause-front
returns-clause-front g c =
    let e : c.as_bytes.result.now ≡ entry c.args.image.now =
    c.as_bytes.ensures ∙ c.entry_line.ensures ∙ ap spec.entry_line c.entry.ensures.value in
    let p = subst (Appends (g.O.Sink.taken c.args.out.now) (g.O.Sink.taken c.write_whole.new.out)) e
    c.in_ok-write_whole.ensures.whole in
    let f = ap (flat_map spec.function_line) c.functions.ensures.value in
    let q = subst (Appends (g.O.Sink.taken c.write_whole.new.out) (g.O.Sink.taken c.write_functions.new.out)) f
    c.in_ok-write_functions.ensures.whole in
    let d = ap spec.data_lines c.bytes-data.ensures.value in
    let r = subst (Appends (g.O.Sink.taken c.write_functions.new.out) (g.O.Sink.taken c.write_data.new.out)) d
    c.in_ok-write_data.ensures.whole in
    let w = ap (flat_map spec.word_line) c.text.ensures.value in
    on_err_weaker c.write_words.result
    (λ t. front_second _ _ _ (entry c.args.image.now) (after_entry c.args.image.now) p
    (front_second _ _ _ (functions c.args.image.now) (after_functions c.args.image.now) q
    (front_second _ _ _ (spec.data_lines c.args.image.now.bytes) (words c.args.image.now) r
    (subst (TakesFront (g.O.Sink.taken c.write_data.new.out) (g.O.Sink.taken c.write_words.new.out)) w t))))
    c.write_words.ensures.front
