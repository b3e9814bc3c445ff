use Rattle.std.proofs.Common.{◌≡◌, ◌++◌, length, map, arith, ap, sym, ◌∙◌}
use Rattle.std.proofs.lemmas.List.{length-map}
use Rattle.typed_tree.specs.View.{function_view}
use Rattle.static_image.specs.Layout.{front}
use Rattle.static_image.proofs.Bounds.{are_few}
use Rattle.static_backend.specs.Ticks.{ticks_view}
use Rattle.static_backend.proofs.Images.{HasBytes, in_range, many_rows, address_low, is_image, is_scanned}
use Rattle.static_backend.proofs.backend.image.Goals as goal

pub index-row-requires : goal.index-row-requires
index-row-requires c =
    let fs = map function_view c.args.functions.now in
    let code = c.in_ok-code.code in
    let range = in_range c.args.main fs c.requires.main in
    omega (
      arith,
      range.0,
      range.1,
      many_rows fs (ticks_view c.args.ticks.now) code.words.items code.rows.items c.in_ok-code.ensures,
      code.rows.ok,
    )

pub overflow_cast-functions : goal.overflow_cast-functions
overflow_cast-functions c =
    omega (
      arith,
      are_few (map function_view c.args.functions.now) c.requires.functions.0 (ticks_view c.args.ticks.now)
          c.requires.functions.1,
      length-map c.args.functions.now function_view,
    )

pub front_words-requires-clause-functions : goal.front_words-requires-clause-functions
front_words-requires-clause-functions c =
    omega (
      arith,
      are_few (map function_view c.args.functions.now) c.requires.functions.0 (ticks_view c.args.ticks.now)
          c.requires.functions.1,
      length-map c.args.functions.now function_view,
    )

pub front_words-requires-clause-main : goal.front_words-requires-clause-main
front_words-requires-clause-main c =
    let are : HasBytes c.args.bytes.now =
    record { fits = λ k. omega (arith, c.type_inv.bytes k); few = c.requires.bytes } in
    address_low (map function_view c.args.functions.now) (ticks_view c.args.ticks.now) c.args.bytes.now c.args.main
    c.in_ok-code.code.words.items
    c.in_ok-code.code.rows.items c.requires.main c.in_ok-code.ensures c.index-row.result.now c.index-row.ensures
    c.requires.functions.0 c.requires.functions.1 are

pub new-requires : goal.new-requires
new-requires c =
    let fs = map function_view c.args.functions.now in
    let code = c.in_ok-code.code in
    let are : HasBytes c.args.bytes.now =
    record { fits = λ k. omega (arith, c.type_inv.bytes k); few = c.requires.bytes } in
    let text = c.extend_from_slice.new.self.items in
    let text_is : text ≡ front c.index-row.result.now.address (length fs) ++ code.words.items =
    c.in_ok-extend_from_slice.ensures.items ∙ ap (λ z. c.in_ok-text.text.items ++ z) c.deref.ensures.value
    ∙ ap (λ z. z ++ code.words.items)
    (c.in_ok-text.ensures ∙ ap (front c.index-row.result.now.address)
    (sym (length-map c.args.functions.now function_view))) in
    let bytes_are : c.extend_from_slice-2.new.self.items ≡ c.args.bytes.now =
    c.in_ok-extend_from_slice-2.ensures.items ∙ ap (λ z. z ++ c.args.bytes.now) c.new-data.ensures.items in
    is_image fs (ticks_view c.args.ticks.now) c.args.bytes.now c.args.main code.words.items code.rows.items
    c.requires.main c.in_ok-code.ensures
    c.index-row.result.now c.index-row.ensures text c.extend_from_slice-2.new.self.items text_is bytes_are
    c.requires.functions.0 c.requires.functions.1 are c.images_keep_rules.ensures

pub returns : goal.returns
returns c =
    let fs = map function_view c.args.functions.now in
    let code = c.in_ok-code.code in
    let text = c.extend_from_slice.new.self.items in
    let text_is : text ≡ front c.index-row.result.now.address (length fs) ++ code.words.items =
    c.in_ok-extend_from_slice.ensures.items ∙ ap (λ z. c.in_ok-text.text.items ++ z) c.deref.ensures.value
    ∙ ap (λ z. z ++ code.words.items)
    (c.in_ok-text.ensures ∙ ap (front c.index-row.result.now.address)
    (sym (length-map c.args.functions.now function_view))) in
    let bytes_are : c.extend_from_slice-2.new.self.items ≡ c.args.bytes.now =
    c.in_ok-extend_from_slice-2.ensures.items ∙ ap (λ z. z ++ c.args.bytes.now) c.new-data.ensures.items in
    is_scanned fs (ticks_view c.args.ticks.now) c.args.bytes.now c.args.main code.words.items code.rows.items
    c.requires.main c.in_ok-code.ensures
    c.index-row.result.now c.index-row.ensures text c.extend_from_slice-2.new.self.items text_is bytes_are
    c.new.result c.new.ensures
