use Rattle.std.proofs.Common.{ℕ, ◌≡◌, ◌+◌, ◌-◌, ◌*◌, ◌/◌, ◌<◌, List, ◌++◌, length, drop, refl, ap, sym, ◌∙◌, subst}
use Rattle.std.proofs.Common.{arith, zero-add}
use Rattle.icode_ops.specs.declared.op.Op.{Op}
use Rattle.icode_templates.specs.Layout.{Layout, laid}
use Rattle.icode_templates.specs.Words.{words}
use Rattle.icode_templates.specs.Frames.{prologue, epilogue}
use Rattle.icode_saves.specs.Places.{saved}
use Rattle.icode_templates.specs.Expansion.{nowhere, templates, aims, expanded}
use Rattle.icode_expand.specs.Labels.{spliced}
use Rattle.icode_expand.proofs.Written.{quarter, whole_length, whole_written}
use Rattle.icode_expand.proofs.expand.Goals as goal

pub returns-then-len-body : goal.returns-then-len-body
returns-then-len-body c =
    let l : Layout = laid c.args.places.now c.args.frame c.args.object in
    let first : c.prologue-first.result ≡ words
    (prologue c.args.frame c.args.object (saved c.args.places.now) c.args.compiled) =
    c.prologue-first.ensures.words ∙
    ap (λ (ks : List ℕ). words (prologue c.args.frame c.args.object ks c.args.compiled)) c.of.ensures in
    let last : c.epilogue-last.result ≡ words
    (epilogue c.args.frame c.args.object (saved c.args.places.now) c.args.compiled) =
    c.epilogue-last.ensures.words ∙
    ap (λ (ks : List ℕ). words (epilogue c.args.frame c.args.object ks c.args.compiled)) c.of.ensures in
    let body : (c.place_labels-end.result - (c.args.at + 4 * c.len.result)) / 4 ≡ length
    (templates l nowhere c.args.ops.now) =
    quarter (c.args.at + 4 * c.len.result) (length (templates l nowhere c.args.ops.now)) c.place_labels-end.result
    c.place_labels-end.ensures.end in
    let W : ℕ → Type 0 = λ n. length c.args.out.now < n in (
      subst W (sym (whole_length c.args.ops.now c.args.places.now c.args.at c.args.frame c.args.object c.args.compiled))
          (omega (
            arith,
            c.if-len-body.true,
            ap length first,
            ap length last,
            body,
            c.len-2.ensures.count,
            c.len-3.ensures.count,
          )),
      refl,
    )

pub returns : goal.returns
returns c =
    let ops : List Op = c.args.ops.now in
    let l : Layout = laid c.args.places.now c.args.frame c.args.object in
    let start : ℕ = c.args.at + 4 * c.len.result in
    let first : c.prologue-first.result ≡ words
    (prologue c.args.frame c.args.object (saved c.args.places.now) c.args.compiled) =
    c.prologue-first.ensures.words ∙
    ap (λ (ks : List ℕ). words (prologue c.args.frame c.args.object ks c.args.compiled)) c.of.ensures in
    let last : c.epilogue-last.result ≡ words
    (epilogue c.args.frame c.args.object (saved c.args.places.now) c.args.compiled) =
    c.epilogue-last.ensures.words ∙
    ap (λ (ks : List ℕ). words (epilogue c.args.frame c.args.object ks c.args.compiled)) c.of.ensures in
    let body : (c.place_labels-end.result - start) / 4 ≡ length (templates l nowhere ops) =
    quarter start (length (templates l nowhere ops)) c.place_labels-end.result c.place_labels-end.ensures.end in
    let n1 : c.append-entered.result ≡ length c.prologue-first.result =
    c.append-entered.ensures.filled ∙ (zero-add (length c.words.result.now) ∙ ap length c.words.ensures) in
    let n3 : c.append.result ≡ c.write_ops-left.result + length c.epilogue-last.result =
    c.append.ensures.filled ∙ ap (λ (w : List ℕ). c.write_ops-left.result + length w) c.words-2.ensures in
    let n2 : c.write_ops-left.result ≡ c.append-entered.result + length (templates l nowhere ops) =
    c.write_ops-left.ensures.filled in
    let written : c.append.new.out ≡ expanded ops c.args.places.now c.args.at c.args.frame c.args.object c.args.compiled
    ++ drop (c.write_ops-left.result + length c.epilogue-last.result) c.args.out.now =
    whole_written ops c.args.places.now c.args.at c.args.frame c.args.object c.args.compiled c.args.out.now
    c.append-entered.new.out c.write_ops-left.new.out c.append.new.out
    c.prologue-first.result c.epilogue-last.result start c.append-entered.result c.write_ops-left.result first last
    (ap (λ (n : ℕ). c.args.at + 4 * n) c.len.ensures.count) n1 n2
    (c.append-entered.ensures.words ∙ ap (spliced c.args.out.now 0) c.words.ensures)
    (c.write_ops-left.ensures.words (aims l start ops) c.place_labels-end.ensures.table)
    (c.append.ensures.words ∙ ap (spliced c.write_ops-left.new.out c.write_ops-left.result) c.words-2.ensures) in
    let size : length (expanded ops c.args.places.now c.args.at c.args.frame c.args.object c.args.compiled) ≡
    c.write_ops-left.result + length c.epilogue-last.result =
    whole_length ops c.args.places.now c.args.at c.args.frame c.args.object c.args.compiled
    ∙ omega (arith, ap length first, ap length last, n1, n2) in
    let R : ℕ → Type 0 = λ n. c.append.new.out ≡ expanded ops c.args.places.now c.args.at c.args.frame c.args.object
    c.args.compiled ++ drop n c.args.out.now in (
      n3 ∙ sym size,
      omega (arith, c.if-len-body.false, body, n1, n2, n3, c.len-2.ensures.count, c.len-3.ensures.count),
      subst R (sym n3) written,
    )
