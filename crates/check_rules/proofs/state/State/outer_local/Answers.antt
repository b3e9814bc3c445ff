use Rattle.std.proofs.Common.{◌≡◌, Ok, refl, ap, sym, ◌∙◌}
use Rattle.check_scopes.specs.declared.names.MeaningKind.TheVariants as kind
use Rattle.tick_tree.specs.Faults.{◌>>=◌}
use Rattle.check_rules.specs.Frames as frames
use Rattle.check_rules.specs.Names.{declare}
use Rattle.check_rules.specs.Locals.{meaning, made_outer, outer_local}
use Rattle.check_rules.proofs.state.State.outer_local.Goals as goal

pub returns : goal.returns
unfolding outer_local
returns c =
    let s = c.args.self.now in
    let what : c.in_ok-what.what ≡ meaning kind.Variable c.args.t (frames.number s.frame) =
    c.in_ok-what.ensures ∙ ap (meaning kind.Variable c.args.t) c.number.ensures in
    let z = c.declare.new.self in
    let made : Ok (made_outer c.args.t z) ≡ Ok (c.operand.result, record z { frame = c.variable.new.self }) =
    rw (c.operand.ensures, c.in_ok-place.ensures, c.next_home.ensures, c.number-2.ensures, c.in_ok-variable.ensures)
    refl in
    ap (λ m. declare c.args.line c.args.name.now m s >>= (λ r. Ok (made_outer c.args.t r.1))) (sym what)
    ∙ ap (λ r. r >>= (λ r. Ok (made_outer c.args.t r.1))) (c.in_ok-declare.ensures)
    ∙ made
