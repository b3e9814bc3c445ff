use Rattle.std.proofs.Common.{codes, decimal, ◌+◌, ◌++◌, ap, ◌∙◌}
use Rattle.tick_gen.specs.Source as spec
use Rattle.tick_gen.proofs.Pieces.{added, joined}
use Rattle.tick_gen.proofs.generator.push_test.Goals as goal

pub returns : goal.returns
returns c =
    added c.extend_from_slice.result c.extend_from_slice.new.self.items c.push_numbered-2.new.text.items
    (codes "==0);}\n") (c.args.text.now.items ++ spec.test_line c.args.number) c.extend_from_slice.ensures.items
    (joined (codes "int cspec q") (decimal c.from-number.result) (codes "(int vspec v){return `(v%$")
    (decimal (c.from-number.result + 2)) (codes "==0);}") (codes "\n") c.args.text.now.items
    c.push_numbered.new.text.items c.push_numbered-2.new.text.items c.in_ok-push_numbered.ensures
    c.in_ok-push_numbered-2.ensures
    ∙ ap (λ i. c.args.text.now.items ++ spec.test_line i) c.from-number.ensures)
