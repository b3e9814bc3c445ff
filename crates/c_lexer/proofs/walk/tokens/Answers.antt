use Rattle.std.proofs.Common.{◌≡◌, ◌<◌, ◌≤◌, ◌+◌, ◌∷◌, [], ◌++◌, length, arith, ◌∙◌, sym, ap, drop, Err}
use Rattle.std.proofs.lemmas.List.{length-append}
use Rattle.c_lexer.specs.declared.pieces.Piece.TheVariants.{Gap, Taken, Bad}
use Rattle.c_lexer.specs.Lex.{piece, max_tokens, token_at, past}
use Rattle.c_lexer.specs.declared.classes.Class.TheVariants as class
use Rattle.c_lexer.proofs.Laws.{to_come, comes_gap, comes_taken, comes_full, comes_bad, comes_blanks, comes_all}
use Rattle.c_lexer.proofs.walk.tokens.Goals as goal

pub loop-piece-init : goal.loop-piece-init
loop-piece-init c =
    let here : c.blanks.new.self.at ≡ past class.Blank c.args.text.now 0 =
    cc (c.blanks.ensures.at, c.new-walk.ensures.at, c.new-walk.ensures.text) in
    let none : c.in_ok-found.found.items ≡ [] = c.in_ok-found.ensures.items in
    record {
      text = cc (c.blanks.ensures.text, c.new-walk.ensures.text);
      same = ap (λ found. to_come c.args.text.now found c.blanks.new.self.at) none ∙
          ap (to_come c.args.text.now []) here ∙ comes_all c.args.text.now;
      few = omega (arith, ap length none);
    }

pub loop-piece-preserved-in-Gap : goal.loop-piece-preserved-in-Gap
loop-piece-preserved-in-Gap c =
    let here : piece (drop c.loop-piece.walk.at c.args.text.now) ≡ Gap c.in-Gap.n = cc (c.in-Some.ensures.here) in
    let within = rw c.in-Gap.is at c.in-Some.ensures.within in
    let some : c.loop-piece.walk.at < length c.args.text.now =
    omega (arith, c.in-Some.ensures.some, ap length c.loop-piece.invariant.text) in
    let goes = comes_gap c.args.text.now c.loop-piece.found.items c.loop-piece.walk.at c.in-Gap.n some here within.0 in
    record {
      text = (cc);
      same = ap (to_come c.args.text.now c.loop-piece.found.items) c.pass.ensures.at ∙ goes ∙
          c.loop-piece.invariant.same;
      few = c.loop-piece.invariant.few;
    }

pub returns-then-len-ge-MAX_TOKENS-clause-exact : goal.returns-then-len-ge-MAX_TOKENS-clause-exact
returns-then-len-ge-MAX_TOKENS-clause-exact c =
    let here : piece (drop c.loop-piece.walk.at c.args.text.now) ≡ Taken c.in-Taken.kind c.in-Taken.n =
    cc (c.in-Some.ensures.here) in
    let some : c.loop-piece.walk.at < length c.args.text.now =
    omega (arith, c.in-Some.ensures.some, ap length c.loop-piece.invariant.text) in
    let full : max_tokens ≤ length c.loop-piece.found.items = omega (arith, c.loop-piece.found.ok.0) in
    let goes = comes_full c.args.text.now c.loop-piece.found.items c.loop-piece.walk.at c.in-Taken.kind c.in-Taken.n
    some here full in
    sym c.loop-piece.invariant.same ∙ goes ∙ ap Err (cc (c.fault.ensures))

pub loop-piece-preserved : goal.loop-piece-preserved
loop-piece-preserved c =
    let here : piece (drop c.loop-piece.walk.at c.args.text.now) ≡ Taken c.in-Taken.kind c.in-Taken.n =
    cc (c.in-Some.ensures.here) in
    let within = rw c.in-Taken.is at c.in-Some.ensures.within in
    let some : c.loop-piece.walk.at < length c.args.text.now =
    omega (arith, c.in-Some.ensures.some, ap length c.loop-piece.invariant.text) in
    let few : length c.loop-piece.found.items < max_tokens = omega (arith, c.loop-piece.found.ok.0) in
    let goes = comes_taken c.args.text.now c.loop-piece.found.items c.loop-piece.walk.at c.in-Taken.kind c.in-Taken.n
    some here within.0 few in
    let t : c.token.result ≡ token_at c.args.text.now c.in-Taken.kind c.loop-piece.walk.at c.in-Taken.n =
    cc (c.token.ensures) in
    let items : c.push.new.self.items ≡ c.loop-piece.found.items ++ token_at c.args.text.now c.in-Taken.kind
    c.loop-piece.walk.at c.in-Taken.n ∷ [] =
    c.in_ok-push-in-Taken.ensures.items ∙ ap (λ t. c.loop-piece.found.items ++ t ∷ []) t in
    let more = c.loop-piece.found.items ++ token_at c.args.text.now c.in-Taken.kind c.loop-piece.walk.at c.in-Taken.n ∷
    [] in
    let place : c.blanks-in-Taken.new.self.at ≡ past class.Blank c.args.text.now (c.loop-piece.walk.at + c.in-Taken.n) =
    cc (c.blanks-in-Taken.ensures.at, c.take.ensures.at, c.take.ensures.text, c.loop-piece.invariant.text) in
    record {
      text = cc (c.blanks-in-Taken.ensures.text, c.take.ensures.text, c.loop-piece.invariant.text);
      same = rw (items, place) (comes_blanks c.args.text.now more (c.loop-piece.walk.at + c.in-Taken.n) ∙ goes ∙
          c.loop-piece.invariant.same);
      few = omega (
        arith,
        ap length items,
        length-append c.loop-piece.found.items
            (token_at c.args.text.now c.in-Taken.kind c.loop-piece.walk.at c.in-Taken.n ∷ []),
        few,
      );
    }

pub returns-in-Bad-clause-exact : goal.returns-in-Bad-clause-exact
returns-in-Bad-clause-exact c =
    let here : piece (drop c.loop-piece.walk.at c.args.text.now) ≡ Bad c.in-Bad.kind = cc (c.in-Some.ensures.here) in
    let some : c.loop-piece.walk.at < length c.args.text.now =
    omega (arith, c.in-Some.ensures.some, ap length c.loop-piece.invariant.text) in
    let goes = comes_bad c.args.text.now c.loop-piece.found.items c.loop-piece.walk.at c.in-Bad.kind some here in
    sym c.loop-piece.invariant.same ∙ goes ∙ ap Err (cc (c.fault-in-Bad.ensures))
