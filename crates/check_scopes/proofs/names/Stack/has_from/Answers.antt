use Rattle.std.proofs.Common.{is_some, ap, sym}
use Rattle.check_scopes.proofs.Stacks.{none_from, some_from}
use Rattle.check_scopes.proofs.names.Stack.has_from.Goals as goal

pub returns-in-Some : goal.returns-in-Some
returns-in-Some c =
    sym (some_from c.args.start c.args.self.now c.args.number c.in-Some.place (sym c.in-Some.ensures))

pub returns-in-None : goal.returns-in-None
returns-in-None c =
    sym (ap is_some (none_from c.args.start c.args.self.now c.args.number (sym c.in-None.ensures)))
