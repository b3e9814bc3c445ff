use Rattle.std.proofs.Common.{◌≡◌, false, refl, Option, None, Some, ap, sym, ◌∙◌, arith, is_some}
use Rattle.std.proofs.lemmas.Bool.{false≢true}
use Rattle.mips_machine.specs.declared.stop.Stop.{Stop}
use Rattle.mips_machine.specs.Progress.{Held}
use Rattle.mips_machine.specs.Served.{stop_from}
use Rattle.mips_machine.proofs.More.{ran_more, ran_count, ran_stop}
use Rattle.mips_machine.proofs.machine.Machine.advance.Goals as goal

pub serve-requires-clause-room : goal.serve-requires-clause-room
serve-requires-clause-room g c =
    let f = c.compute-left.ensures.ran None None in
    let counted = f.counted in
    let within = f.within in
    omega (arith, counted, within, c.if-left-eq0.false, c.compute-left.ensures.within, c.requires.room)

none_of : (o : Option Stop) → is_some o ≡ false → o ≡ None
none_of None is = refl
none_of (Some s) is = absurd (false≢true (sym is))

pub returns-clause-ran : goal.returns-clause-ran
returns-clause-ran g c =
    let on = ap (λ (h : Held). h.stopped) (sym c.self.view_is) ∙
    none_of c.self.inside.stopped (sym c.is_some.ensures ∙ c.if-is_some.false) in
    let some = c.if-left-eq0.false in
    let left = c.compute-left.ensures.within in
    ran_count (omega (arith, some, left))
    (ran_more (ran_stop (ap stop_from on)
    (c.compute-left.ensures.ran (g.I.Source.left c.args.input.now) (g.O.Sink.taken c.args.out.now)))
    c.serve.ensures.ran)
