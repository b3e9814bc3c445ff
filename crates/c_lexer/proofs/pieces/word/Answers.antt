use Rattle.std.proofs.Common.{◌≡◌, ap, ◌∙◌, arith, take}
use Rattle.std.specs.Prelude.{◌==◌}
use Rattle.std.specs.List.{count_by, prefix_len}
use Rattle.c_lexer.specs.Lex.{is_in}
use Rattle.c_lexer.specs.declared.classes.Class.TheVariants as class
use Rattle.c_lexer.proofs.Lines.{word_is_flat}
use Rattle.c_lexer.proofs.pieces.word.Goals as goal

pub returns-then-is_some-clause-flat : goal.returns-then-is_some-clause-flat
returns-then-is_some-clause-flat c =
    let end : c.past-end.result ≡ prefix_len (is_in class.Name) c.args.text.now =
    omega (arith, c.past-end.ensures.value) in
    ap (λ n. count_by (λ b. b == 10) (take n c.args.text.now)) end ∙ word_is_flat c.args.text.now

pub returns-else-is_some-clause-flat : goal.returns-else-is_some-clause-flat
returns-else-is_some-clause-flat c =
    let end : c.past-end.result ≡ prefix_len (is_in class.Name) c.args.text.now =
    omega (arith, c.past-end.ensures.value) in
    ap (λ n. count_by (λ b. b == 10) (take n c.args.text.now)) end ∙ word_is_flat c.args.text.now
