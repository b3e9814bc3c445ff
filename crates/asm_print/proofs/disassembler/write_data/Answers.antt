use Rattle.std.proofs.Common.{◌≡◌, ◌<◌, ◌∙◌, arith, ap, subst, length, ℕ, take}
use Rattle.std.specs.Int.{div_ceil}
use Rattle.std.specs.List.{flat_map, range_with_len}
use Rattle.std.specs.Io.KnownBytes.{Appends}
use Rattle.std.proofs.lemmas.List.{take_all}
use Rattle.std.proofs.lemmas.List.FromFn.{length-range_with_len}
use Rattle.asm_print.specs.Text as spec
use Rattle.asm_print.proofs.Chunks.{data_at}
use Rattle.asm_print.proofs.Fronts.{front_turn, whole_turn, at_error}
use Rattle.asm_print.proofs.disassembler.write_data.Goals as goal

pub returns-in_err-write_whole-clause-front : goal.returns-in_err-write_whole-clause-front
returns-in_err-write_whole-clause-front g c =
    let n : ℕ = div_ceil (length c.args.bytes.now) 32 in
    let below : c.loop-k.k < n = subst (λ m. c.loop-k.k < m) c.div_ceil-k-end.ensures c.loop-k-test.true in
    let inside : c.loop-k.k < length (range_with_len 0 n) = let e = length-range_with_len 0 n in omega arith in
    at_error c.from_residual.result
    (front_turn _ _ _ (spec.data_line_at c.args.bytes.now) (range_with_len 0 n) c.loop-k.k 0 c.as_bytes.result.now
    inside
    c.loop-k.invariant.taken
    (c.as_bytes.ensures ∙ c.data_line.ensures ∙
    data_at c.args.bytes.now c.loop-k.k n c.min-end.result below c.min-end.ensures)
    c.in_err-write_whole.ensures.front)

pub loop-k-preserved : goal.loop-k-preserved
loop-k-preserved g c =
    let n : ℕ = div_ceil (length c.args.bytes.now) 32 in
    let below : c.loop-k.k < n = subst (λ m. c.loop-k.k < m) c.div_ceil-k-end.ensures c.loop-k-test.true in
    let inside : c.loop-k.k < length (range_with_len 0 n) = let e = length-range_with_len 0 n in omega arith in
    record {
      taken =
          whole_turn _ _ _ (spec.data_line_at c.args.bytes.now) (range_with_len 0 n) c.loop-k.k 0 c.as_bytes.result.now
          inside
          c.loop-k.invariant.taken
          (c.as_bytes.ensures ∙ c.data_line.ensures ∙
          data_at c.args.bytes.now c.loop-k.k n c.min-end.result below c.min-end.ensures)
          c.in_ok-write_whole.ensures.whole;
      faults = c.in_ok-write_whole.ensures.cause.ok ∙ c.loop-k.invariant.faults;
    }

pub returns-clause-whole : goal.returns-clause-whole
returns-clause-whole g c =
    let n : ℕ = div_ceil (length c.args.bytes.now) 32 in
    let len = length-range_with_len 0 n in
    let whole : take c.loop-k.k (range_with_len 0 n) ≡ range_with_len 0 n =
    take_all c.loop-k.k (range_with_len 0 n)
    (let d = c.div_ceil-k-end.ensures in let e = c.loop-k-test.false in omega arith) in
    subst (Appends (g.O.Sink.taken c.args.out.now) (g.O.Sink.taken c.loop-k.out))
    (ap (flat_map (spec.data_line_at c.args.bytes.now)) whole) c.loop-k.invariant.taken
