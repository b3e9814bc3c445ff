use Rattle.std.proofs.Common.{◌≡◌, ◌+◌, ◌-◌, ◌<◌, ◌≤◌, length, refl, ap, sym, subst, ◌∙◌, arith}
use Rattle.word32.specs.declared.map.TheConstants.{ARENA_WORDS, FUNCTION_ROWS}
use Rattle.meaning_state.specs.Rows.{arena_words, numbered}
use Rattle.eval_state.specs.Pending as pending
use Rattle.eval_state.specs.Rest.{spent}
use Rattle.eval_state.specs.declared.state.Compiled.{Compiled}
use Rattle.eval_state.specs.declared.state.Parts.{Parts}
use Rattle.eval_state.specs.Grown.{with_left, with_made}
use Rattle.eval_state.specs.Kept.{rows_view}
use Rattle.eval_state.specs.Run.{here, leads, run_of, world}
use Rattle.eval_state.specs.Sound.{IsSound}
use Rattle.eval_stages.proofs.Compiles.{arena_full, code_if, compiled_there, no_code, size, table_full, units_end}
use Rattle.eval_state.proofs.Changes.{units_are}
use Rattle.eval_stages.proofs.specifications.compile.Goals as goal

pub returns-then-not-is_code-clause-same : goal.returns-then-not-is_code-clause-same
returns-then-not-is_code-clause-same c =
    no_code c.args.m.now c.args.number (sym c.is_code.ensures ∙ c.if-not-is_code.true)

pub returns-in-None-clause-same : goal.returns-in-None-clause-same
returns-in-None-clause-same c =
    let p = c.args.m.now in
    let n = c.args.number in
    let code = code_if (numbered n (rows_view p.rows)) (sym c.is_code.ensures ∙ c.if-not-is_code.false) in
    table_full p n code c.in-None.ensures

pub returns-then-saturating_sub-words-clause-same : goal.returns-then-saturating_sub-words-clause-same
returns-then-saturating_sub-words-clause-same c =
    let p = c.args.m.now in
    let n = c.args.number in
    let code = code_if (numbered n (rows_view p.rows)) (sym c.is_code.ensures ∙ c.if-not-is_code.false) in
    let sized : c.size_of_row-size.result ≡ size p n = c.size_of_row-size.ensures.size code in
    let next = c.in-Some.ensures in
    let room : length p.typed.now.functions + length p.compiled + 1 < FUNCTION_ROWS = omega (arith, next.0, next.1) in
    let words : c.arena_words-words.result ≡ arena_words (size p n) =
    c.arena_words-words.ensures ∙ ap arena_words sized in
    let arena : c.m.inside.parts.arena ≡ p.arena = ap (λ (p : Parts). p.arena) c.m.view_is in
    arena_full p n code room (subst IsSound c.m.view_is c.m.invariant).3
    (omega (arith, arena, words, c.saturating_sub.ensures, c.if-saturating_sub-words.true))

pub returns-then-not-spend_many-clause-same : goal.returns-then-not-spend_many-clause-same
returns-then-not-spend_many-clause-same c =
    let p = c.args.m.now in
    let n = c.args.number in
    let code = code_if (numbered n (rows_view p.rows)) (sym c.is_code.ensures ∙ c.if-not-is_code.false) in
    let sized : c.size_of_row-size.result ≡ size p n = c.size_of_row-size.ensures.size code in
    let next = c.in-Some.ensures in
    let room : length p.typed.now.functions + length p.compiled + 1 < FUNCTION_ROWS = omega (arith, next.0, next.1) in
    let words : c.arena_words-words.result ≡ arena_words (size p n) =
    c.arena_words-words.ensures ∙ ap arena_words sized in
    let arena : c.m.inside.parts.arena ≡ p.arena = ap (λ (p : Parts). p.arena) c.m.view_is in
    let fits : p.arena + arena_words (size p n) ≤ ARENA_WORDS =
    omega (arith, arena, words, c.saturating_sub.ensures, c.if-saturating_sub-words.false) in
    let many : c.from.result ≡ size p n = c.from.ensures ∙ sized in
    let none = c.if-not-spend_many.ensures.none refl in
    units_end p n code room (subst IsSound c.m.view_is c.m.invariant).3 c.spend_many.new.self fits
    (omega (arith, many, none.0)) none.1

pub returns-clause-same : goal.returns-clause-same
returns-clause-same c =
    let p = c.args.m.now in
    let n = c.args.number in
    let code = code_if (numbered n (rows_view p.rows)) (sym c.is_code.ensures ∙ c.if-not-is_code.false) in
    let sized : c.size_of_row-size.result ≡ size p n = c.size_of_row-size.ensures.size code in
    let next = c.in-Some.ensures in
    let room : length p.typed.now.functions + length p.compiled + 1 < FUNCTION_ROWS = omega (arith, next.0, next.1) in
    let words : c.arena_words-words.result ≡ arena_words (size p n) =
    c.arena_words-words.ensures ∙ ap arena_words sized in
    let arena : c.m.inside.parts.arena ≡ p.arena = ap (λ (p : Parts). p.arena) c.m.view_is in
    let fits : p.arena + arena_words (size p n) ≤ ARENA_WORDS =
    omega (arith, arena, words, c.saturating_sub.ensures, c.if-saturating_sub-words.false) in
    let many : c.from.result ≡ size p n = c.from.ensures ∙ sized in
    let some = c.if-not-spend_many.ensures.some refl in
    let m : Compiled = record {
      row = n;
      locals = c.in_ok-locals.locals;
      first = c.m.inside.parts.arena;
      words = c.arena_words-words.result;
    } in
    let q = c.add_compiled.new.m in
    let left = c.spend_many.new.self in
    let next_one = length p.typed.now.functions + length p.compiled + 1 in
    let made = c.in_ok-add_compiled.ensures
    ∙ ap (λ f. with_made f m left) next.0
    ∙ ap (with_made next_one m) (some.1 ∙ ap (λ k. with_left (p.units - k) p) many) in
    c.spend.ensures.same
    ∙ ap (λ f. leads (run_of q) (spent (here (run_of q)) (world (run_of q)).units (pending.Value f) (world (run_of q))))
    next.0
    ∙ compiled_there p n code room (subst IsSound c.m.view_is c.m.invariant).3 q m refl arena words fits
    (omega (arith, many, some.0)) made

pub returns-then-not-spend_many-clause-units : goal.returns-then-not-spend_many-clause-units
returns-then-not-spend_many-clause-units c =
    let none : (run_of c.spend_many.new.self).state.units ≡ 0 =
    units_are c.spend_many.new.self ∙ ap (λ (q : Parts). q.units) (c.if-not-spend_many.ensures.none refl).1 in
    omega (arith, none)

pub returns-clause-units : goal.returns-clause-units
returns-clause-units c =
    let p = c.args.m.now in
    let q = c.add_compiled.new.m in
    let made : q.units ≡ c.spend_many.new.self.units = ap (λ (q : Parts). q.units) c.in_ok-add_compiled.ensures in
    let fewer : c.spend_many.new.self.units ≡ p.units - c.from.result =
    ap (λ (q : Parts). q.units) (c.if-not-spend_many.ensures.some refl).1 in
    let new : (run_of q).state.units ≡ q.units = units_are q in
    let old : (run_of p).state.units ≡ p.units = units_are p in
    omega (arith, c.spend.ensures.units, made, fewer, new, old)

pub returns-clause-less : goal.returns-clause-less
returns-clause-less c = λ same.
    let p = c.args.m.now in
    let q = c.add_compiled.new.m in
    let made : q.units ≡ c.spend_many.new.self.units = ap (λ (q : Parts). q.units) c.in_ok-add_compiled.ensures in
    let fewer : c.spend_many.new.self.units ≡ p.units - c.from.result =
    ap (λ (q : Parts). q.units) (c.if-not-spend_many.ensures.some refl).1 in
    let new : (run_of q).state.units ≡ q.units = units_are q in
    let old : (run_of p).state.units ≡ p.units = units_are p in
    let still : (run_of c.spend.new.self).state.units ≡ (run_of q).state.units =
    omega (arith, c.spend.ensures.units, made, fewer, new, old, same) in
    let none = c.spend.ensures.less still in
    omega (arith, none)
