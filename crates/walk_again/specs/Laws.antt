-- Where the first walk over a program found nothing that the second would know of it: then the first one is enough.
use Rattle.std.specs.Prelude.{◌≡◌, Bool, true, ◌&&◌, not, List, Ok}
use Rattle.std.specs.List.{list_any}
use Rattle.tick_tree.specs.declared.syntax.Expr.{Expr}
use Rattle.tick_tree.specs.declared.syntax.External.{External}
use Rattle.tick_tree.specs.declared.syntax.Stmt.{Stmt}
use Rattle.tick_tree.specs.Named.{is_nil}
use Rattle.check_rules.specs.declared.state.State.{State}
use Rattle.check_rules.specs.Starts.{start}
use Rattle.check_globals.specs.Programs.{finished}
use Rattle.check_globals.specs.Program.{walk, walk_again}
use Rattle.check_rules.specs.Walk.{node, item}
use Rattle.walk_again.specs.Again.{Found, AgainNode, AgainItem}

-- whether one of these variables needs an address
abbrev pub is_marked : List Bool → Bool
is_marked marks = list_any (λ mark. mark) marks

abbrev pub any_marked : List (List Bool) → Bool
any_marked done = list_any (λ marks. is_marked marks) done

-- a walk that came to this state marked no variable, and met no string and no prototype
abbrev pub is_settled : State → Bool
is_settled s = is_nil s.image.strings && is_nil s.functions.prototypes && not (any_marked s.frame.done)

pub record WalksAgain : Type 0 where
  pub expressions : (k : Found) (e : Expr) → AgainNode k (node e)
  pub statements : (k : Found) (s : Stmt) → AgainItem k (item s)
  pub programs : (xs : List External) (s new : State) → start ≡ Ok (tt, s) → walk xs s ≡ Ok (tt, new) →
      is_settled new ≡ true → walk_again xs new ≡ finished new
