use Rattle.std.proofs.Common.{rules, ◌≡◌, ◌<◌, ◌+◌, ◌-◌, ◌*◌, ℕ, sym, subst, ap, ◌∙◌, arith, Fits, w8}
use Rattle.std.specs.Prelude.{slice_index, take, drop}
use Rattle.image_file.specs.Image.{IsImage}
use Rattle.word32.specs.Bytes.{word_in}
use Rattle.image_file.specs.Format.{parts_in, words_in, functions_in, data_at, functions_at}
use Rattle.image_file.proofs.Inverse.{sound, parts_in-image, parts_eq}
use Rattle.image_file.proofs.reader.parts.Goals as goal

pub new-requires : goal.new-requires
new-requires c =
    let small : (k : ℕ) → slice_index c.args.bytes.now k < 256
    = λ k. (let h : Fits w8 (slice_index c.args.bytes.now k) = c.type_inv.bytes k in omega arith) in
    let image : IsImage (parts_in c.args.bytes.now)
    = parts_in-image c.args.bytes.now small (sound c.args.bytes.now c.requires) in
    let text : c.in_ok-text.text.items ≡ words_in c.args.bytes.now 24 (word_in c.args.bytes.now 12)
    = search rules in
    let long : ((24 + 4 * c.be_read.result) + c.be_read-2.result) - (24 + 4 * c.be_read.result) ≡ c.be_read-2.result =
    omega arith in
    let bytes : c.in_ok-data.data.items ≡ take (word_in c.args.bytes.now 16)
    (drop (data_at c.args.bytes.now) c.args.bytes.now)
    = c.in_ok-data.ensures.items
    ∙ (ap (λ k. take k (drop (24 + 4 * c.be_read.result) c.args.bytes.now)) long
    ∙ (ap (λ k. take c.be_read-2.result (drop (24 + 4 * k) c.args.bytes.now)) c.be_read.ensures
    ∙ ap (λ k. take k (drop (data_at c.args.bytes.now) c.args.bytes.now)) c.be_read-2.ensures)) in
    let functions : c.in_ok-functions.functions.items ≡ functions_in c.args.bytes.now (functions_at c.args.bytes.now)
    (word_in c.args.bytes.now 20)
    = c.in_ok-functions.ensures
    ∙ (ap (λ k. functions_in c.args.bytes.now ((24 + 4 * k) + c.be_read-2.result) c.be_read-4.result) c.be_read.ensures
    ∙ (ap (λ k. functions_in c.args.bytes.now (data_at c.args.bytes.now + k) c.be_read-4.result) c.be_read-2.ensures
    ∙ ap (functions_in c.args.bytes.now (functions_at c.args.bytes.now)) c.be_read-4.ensures)) in
    subst IsImage (sym (parts_eq c.be_read-5.ensures text bytes functions)) image
