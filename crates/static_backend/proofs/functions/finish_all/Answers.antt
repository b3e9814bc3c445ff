use Rattle.std.proofs.Common.{rules, ◌≡◌, ◌<◌, ◌≤◌, [], ◌∷◌, ◌++◌, ap, ◌∙◌, length, map, get_or, slice_index, arith}
use Rattle.std.proofs.lemmas.List.{length-map, get_or_read}
use Rattle.typed_tree.specs.View.{function_view}
use Rattle.static_backend.specs.Plans.{BeginAt, all_at}
use Rattle.static_backend.specs.Ticks.{ticks_view}
use Rattle.static_backend.proofs.Loops.{next_static, next_view}
use Rattle.static_backend.proofs.Grown.{entry}
use Rattle.static_backend.proofs.Coded as coded
use Rattle.static_backend.proofs.functions.finish_all.Goals as goal

pub loop-i-init : goal.loop-i-init
loop-i-init c =
    let p = c.requires.planned in
    let plan = c.args.plan.now in (
      p.0,
      p.1,
      p.2.plan,
      p.2.many,
      coded.first_code (map function_view c.args.functions.now) p.0 plan.starts.items _ plan.end p.1 p.2.plan
          (ticks_view c.args.ticks.now) c.args.generators.now c.requires.generators
          plan.made.items c.args.words.items c.new.result.items p.2.words c.new.ensures.items,
    )

pub write_rest-requires-clause-ready : goal.write_rest-requires-clause-ready
write_rest-requires-clause-ready c =
    let fs = c.args.functions.now in
    let gs = map function_view fs in
    let f = c.index-functions-i.result in
    let captures = c.requires.functions.0 in (
      gs,
      captures,
      (next_static gs captures c.loop-i.i fs f (search rules) (search rules) c.requires.functions.1.each).ready,
    )

pub write_rest-requires-clause-started : goal.write_rest-requires-clause-started
write_rest-requires-clause-started c =
    let fs = c.args.functions.now in
    let gs = map function_view fs in
    let p = c.loop-i.invariant in
    let low : c.loop-i.i < length fs = search rules in
    omega (
      arith,
      low,
      length-map fs function_view,
      coded.many_addresses gs p.0 c.args.plan.now.starts.items _ c.args.plan.now.end p.1 p.2
          (ticks_view c.args.ticks.now) c.args.generators.now c.requires.generators,
    )

pub index-requires : goal.index-requires
index-requires c =
    let fs = c.args.functions.now in
    let gs = map function_view fs in
    let p = c.loop-i.invariant in
    let low : c.loop-i.i < length fs = search rules in
    let starts = c.args.plan.now.starts in
    omega (
      arith,
      low,
      length-map fs function_view,
      coded.many_addresses gs p.0 starts.items _ c.args.plan.now.end p.1 p.2 (ticks_view c.args.ticks.now)
          c.args.generators.now c.requires.generators,
      starts.ok.0,
    )

pub write_rest-requires-clause-placed : goal.write_rest-requires-clause-placed
write_rest-requires-clause-placed c =
    let fs = c.args.functions.now in
    let gs = map function_view fs in
    let p = c.loop-i.invariant in
    let low : c.loop-i.i < length fs = search rules in
    let plan = c.args.plan.now in
    omega (
      arith,
      low,
      length-map fs function_view,
      length-map plan.places.items (λ v. v.items),
      coded.many_places gs p.0 plan.starts.items _ plan.end p.1 p.2 (ticks_view c.args.ticks.now) c.args.generators.now
          c.requires.generators,
    )

pub write_rest-requires-clause-counted : goal.write_rest-requires-clause-counted
write_rest-requires-clause-counted c =
    let fs = c.args.functions.now in
    let gs = map function_view fs in
    let p = c.loop-i.invariant in
    let low : c.loop-i.i < length fs = search rules in
    let plan = c.args.plan.now in
    omega (
      arith,
      low,
      length-map fs function_view,
      coded.many gs p.0 plan.starts.items _ plan.end p.1 p.2 (ticks_view c.args.ticks.now) c.args.generators.now
          c.requires.generators,
      p.3,
    )

pub write_rest-requires-clause-low : goal.write_rest-requires-clause-low
write_rest-requires-clause-low c =
    let i = c.loop-i.i in
    let fs = c.args.functions.now in
    let gs = map function_view fs in
    let f = c.index-functions-i.result in
    let low : i < length fs = search rules in
    let is : f ≡ get_or fs i f = search rules in
    let within : i < length gs = omega (arith, low, length-map fs function_view) in
    let p = c.loop-i.invariant in
    let plan = c.args.plan.now in
    coded.words_low gs p.0 plan.starts.items _ plan.end p.1 p.2 (ticks_view c.args.ticks.now) c.args.generators.now
    c.requires.generators i (function_view f) plan.made.items
    c.loop-i.code.words.items c.loop-i.code.rows.items within (next_view i fs f is) p.3 p.4 c.requires.functions.0
    c.requires.functions.1

pub write_rest-requires-clause-room : goal.write_rest-requires-clause-room
write_rest-requires-clause-room c =
    let i = c.loop-i.i in
    let fs = c.args.functions.now in
    let gs = map function_view fs in
    let f = c.index-functions-i.result in
    let low : i < length fs = search rules in
    let is : f ≡ get_or fs i f = search rules in
    let within : i < length gs = omega (arith, low, length-map fs function_view) in
    let p = c.loop-i.invariant in
    let plan = c.args.plan.now in
    let words = c.loop-i.code.words.items in
    let rows = c.loop-i.code.rows.items in
    let next = next_view i fs f is in (
      coded.first gs p.0 plan.starts.items _ plan.end p.1 p.2 (ticks_view c.args.ticks.now) c.args.generators.now
          c.requires.generators i (function_view f) plan.made.items words rows within
          next p.3 p.4,
      (
        coded.first_is gs p.0 plan.starts.items _ plan.end p.1 p.2 (ticks_view c.args.ticks.now) c.args.generators.now
            c.requires.generators i (function_view f) plan.made.items words rows
            within next p.3 p.4,
        coded.room gs p.0 plan.starts.items _ plan.end p.1 p.2 (ticks_view c.args.ticks.now) c.args.generators.now
            c.requires.generators i (function_view f) plan.made.items words rows within
            next p.3 p.4,
      ),
    )

pub loop-i-preserved : goal.loop-i-preserved
loop-i-preserved c =
    let i = c.loop-i.i in
    let fs = c.args.functions.now in
    let gs = map function_view fs in
    let f = c.index-functions-i.result in
    let low : i < length fs = search rules in
    let is : f ≡ get_or fs i f = search rules in
    let within : i < length gs = omega (arith, low, length-map fs function_view) in
    let p = c.loop-i.invariant in
    let plan = c.args.plan.now in
    let words = c.loop-i.code.words.items in
    let rows = c.loop-i.code.rows.items in
    let next = next_view i fs f is in
    let first = coded.first gs p.0 plan.starts.items _ plan.end p.1 p.2 (ticks_view c.args.ticks.now)
    c.args.generators.now c.requires.generators i (function_view f) plan.made.items words rows
    within next p.3 p.4 in
    let begin : BeginAt (all_at plan c.args.generators.now (ticks_view c.args.ticks.now)) plan i (function_view f) words
    first = (
      coded.first_is gs p.0 plan.starts.items _ plan.end p.1 p.2 (ticks_view c.args.ticks.now) c.args.generators.now
          c.requires.generators i (function_view f) plan.made.items words rows
          within next p.3 p.4,
      coded.room gs p.0 plan.starts.items _ plan.end p.1 p.2 (ticks_view c.args.ticks.now) c.args.generators.now
          c.requires.generators i (function_view f) plan.made.items words rows within
          next p.3 p.4,
    ) in
    let started : i < length plan.starts.items =
    omega (
      arith,
      within,
      coded.many_addresses gs p.0 plan.starts.items _ plan.end p.1 p.2 (ticks_view c.args.ticks.now)
          c.args.generators.now c.requires.generators,
    ) in
    let at_is : c.get.result ≡ slice_index plan.starts.items i =
    c.get.ensures.same ∙ get_or_read plan.starts.items _ _ started c.index.ensures 0 in
    let row = c.in_ok-push.ensures.items ∙ ap (λ a. rows ++ entry a f.params ∷ []) at_is in (
      p.0,
      p.1,
      p.2,
      p.3,
      coded.next_code gs p.0 plan.starts.items _ plan.end p.1 p.2 (ticks_view c.args.ticks.now) c.args.generators.now
          c.requires.generators i (function_view f) plan.made.items words
          c.write_rest.new.words.items rows c.push.new.self.items within next p.3
          (c.in_ok-write_rest.ensures first begin) row p.4,
    )

pub returns : goal.returns
returns c =
    let p = c.loop-i.invariant in
    let i = c.loop-i.i in
    let fs = c.args.functions.now in
    let plan = c.args.plan.now in
    let past : length fs ≤ i = search rules in
    coded.last_code (map function_view fs) p.0 plan.starts.items _ plan.end p.1 p.2 (ticks_view c.args.ticks.now)
    c.args.generators.now c.requires.generators i plan.made.items
    c.loop-i.code.words.items c.loop-i.code.rows.items (omega (arith, past, length-map fs function_view)) p.4
