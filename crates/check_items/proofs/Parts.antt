-- What the walk over a declaration at file scope is, by its parts.
use Rattle.std.proofs.Common.{◌≡◌, ℕ, ap, map}
use Rattle.tick_tree.specs.declared.base.Base.{Base}
use Rattle.tick_tree.specs.declared.syntax.Declaration.{Declaration, out-Declaration}
use Rattle.tick_tree.specs.declared.syntax.Init.{Init, out-Init}
use Rattle.check_rules.specs.declared.state.State.{State}
use Rattle.check_laws.proofs.Equations.{at_init, at_declaration}
use Rattle.check_rules.specs.Walk.{declaration, shape, init, initializer}
use Rattle.check_globals.specs.Program as program

pub global_by_init : (line : ℕ) (b : Base) (x : Init) (s : State)
    → program.global line b (init x) s ≡ program.global_parts line b (shape (out-Init x).declarator)
    (initializer (out-Init x).value) s
global_by_init line b x s = ap (λ i. program.global line b i s) (at_init x)

pub declared_by_parts : (x : Declaration) (s : State)
    → program.declared (declaration x) s ≡ program.globals (out-Declaration x).line (out-Declaration x).base
    (map init (out-Declaration x).inits) s
declared_by_parts x s = ap (λ d. program.declared d s) (at_declaration x)

pub ruleset globals = (global_by_init, declared_by_parts)
