-- How the cases of a switch are compared, one after another, and what is done where none matches.
use Rattle.std.proofs.Common.{◌≡◌, ◌<◌, ◌≤◌, ◌+◌, ℕ, suc, ◌-◌, ◌≢◌, List, [], ◌∷◌, Option, Some, None, refl, ap, sym}
use Rattle.std.proofs.Common.{subst, IfOk, ◌∙◌, arith}
use Rattle.std.proofs.Common as std
use Rattle.std.proofs.Common.{nat_eq, if◌then◌else◌, eq-eqb, ne_eqb}
use Rattle.typed_tree.specs.declared.expression.Stmt.{Stmt}
use Rattle.typed_tree.specs.Nodes as node
use Rattle.typed_tree.specs.View.{stmt_view}
use Rattle.typed_tree.proofs.Views as view
use Rattle.staged_meaning.specs.Meaning.{Context, exec_items}
use Rattle.staged_meaning.specs.Statements.{case_of, exec_cases, exec_default, on_case, on_default, switch_end}
use Rattle.staged_meaning.specs.World.{World, Result, Flow, then_do}
use Rattle.eval_state.proofs.Laws as law
use Rattle.eval_state.specs.Pending as pending
use Rattle.eval_state.specs.Burden.{capture_weight, weight_of_items}
use Rattle.eval_state.specs.Rest.{Signal, left, after}
use Rattle.eval_state.specs.declared.parts.Now as code
use Rattle.eval_state.specs.Less.{heft, held, waiting}
use Rattle.eval_state.specs.Run.{Run, here, leads, outcome, world, with_units}
use Rattle.eval_state.specs.Views.{items_view, now_view}
use Rattle.eval_statements.specs.Switches.{IsPassed}

-- what a switch on a value does with the labels from here on, where these are all its items
abbrev pub comparing : Run → ℕ → (all items : List Stmt) → Result Flow
comparing r v all items =
    then_do (exec_cases (here r) v (exec_default (here r) (items_view all)) (items_view items) (world r)) switch_end

module _ (r : Run) (v : ℕ) (all : List Stmt) (s : Stmt) (items : List Stmt) where
  abbrev behind : World → Result Flow
  behind = exec_items (here r) (items_view items)

  abbrev next : World → Result Flow
  next = exec_cases (here r) v (exec_default (here r) (items_view all)) (items_view items)

  -- an item that is no label is passed
  pub passes : case_of (stmt_view s) ≡ None → leads r (left (comparing r v all items))
      ≡ leads r (left (comparing r v all (s ∷ items)))
  passes h = ap (λ o. leads r (left (then_do (on_case o v behind next (world r)) switch_end))) (sym h)

  -- a label is compared where a unit is left, which is spent
  pub lacks : (value : ℕ) → case_of (stmt_view s) ≡ Some value → (world r).units ≡ 0
      → outcome pending.Stopped r ≡ leads r (left (comparing r v all (s ∷ items)))
  lacks value h k =
      ap (λ u. leads r (left (then_do (on_case (Some value) v behind next (record (world r) { units = u }))
      switch_end)))
      (sym k)
      ∙ ap (λ o. leads r (left (then_do (on_case o v behind next (world r)) switch_end))) (sym h)

  compared : (value : ℕ) → case_of (stmt_view s) ≡ Some value → (world r).units ≢ 0
      → leads r (left (then_do (if nat_eq v value then behind (record (world r) { units = (world r).units - 1 })
      else next (record (world r) { units = (world r).units - 1 })) switch_end))
      ≡ leads r (left (comparing r v all (s ∷ items)))
  compared value h k =
      let one : (world r).units ≡ suc ((world r).units - 1) = omega (arith, k) in
      ap (λ u. leads r (left (then_do (on_case (Some value) v behind next (record (world r) { units = u }))
      switch_end)))
      (sym one)
      ∙ ap (λ o. leads r (left (then_do (on_case o v behind next (world r)) switch_end))) (sym h)

  -- it matches, or it doesn't
  pub matches : (value : ℕ) → case_of (stmt_view s) ≡ Some value → (world r).units ≢ 0 → value ≡ v
      → let one = with_units ((world r).units - 1) r in
      leads one (left (then_do (exec_items (here one) (items_view items) (world one)) switch_end))
      ≡ leads r (left (comparing r v all (s ∷ items)))
  matches value h k e =
      let w = record (world r) { units = (world r).units - 1 } in
      ap (λ b. leads r (left (then_do (if b then behind w else next w) switch_end)))
      (sym (eq-eqb v value (sym e)))
      ∙ compared value h k

  pub differs : (value : ℕ) → case_of (stmt_view s) ≡ Some value → (world r).units ≢ 0 → value ≢ v
      → let one = with_units ((world r).units - 1) r in
      leads one (left (comparing one v all items)) ≡ leads r (left (comparing r v all (s ∷ items)))
  differs value h k n =
      let w = record (world r) { units = (world r).units - 1 } in
      ap (λ b. leads r (left (then_do (if b then behind w else next w) switch_end)))
      (sym (ne_eqb v value (λ e. n (sym e))))
      ∙ compared value h k

  -- the same, of a run in which the unit was spent
  pub runs_behind : (one : Run) (value : ℕ) → case_of (stmt_view s) ≡ Some value
      → ((world r).units ≢ 0) × (one ≡ with_units ((world r).units - 1) r) → value ≡ v
      → leads one (after (here one) pending.SwitchEnd (left (exec_items (here one) (items_view items) (world one))))
      ≡ leads r (left (comparing r v all (s ∷ items)))
  runs_behind one value h k e =
      let ran : Run → Result Signal = λ q.
      leads q (after (here q) pending.SwitchEnd (left (exec_items (here q) (items_view items) (world q)))) in
      let spent = with_units ((world r).units - 1) r in
      ap ran k.1
      ∙ ap (leads spent) (law.flow_bind (exec_items (here spent) (items_view items) (world spent)) switch_end)
      ∙ matches value h k.0 e

  pub goes_on : (one : Run) (value : ℕ) → case_of (stmt_view s) ≡ Some value
      → ((world r).units ≢ 0) × (one ≡ with_units ((world r).units - 1) r) → value ≢ v
      → leads one (left (comparing one v all items)) ≡ leads r (left (comparing r v all (s ∷ items)))
  goes_on one value h k n =
      ap (λ q. leads q (left (comparing q v all items))) k.1 ∙ differs value h k.0 n

-- ---- the default

pub default_here : (s : Stmt) (items : List Stmt) (c : Context) (w : World) → stmt_view s ≡ node.Default
    → exec_default c (items_view (s ∷ items)) w ≡ exec_items c (items_view items) w
default_here s items c w h = ap (λ s. on_default s (exec_items c (items_view items))
    (exec_default c (items_view items)) w) h

pub default_behind : (s : Stmt) (items : List Stmt) (c : Context) (w : World) → IsPassed (stmt_view s)
    → exec_default c (items_view (s ∷ items)) w ≡ exec_default c (items_view items) w
default_behind s items c w h = h (exec_items c (items_view items)) (exec_default c (items_view items)) w

-- ---- how much is pending

-- where the splices of each capture weigh
abbrev pub weighed : Run → ℕ → ℕ
weighed r = capture_weight r.program.ticks r.state.body.captures

-- a unit was spent, and nothing else changed
pub spent_still : (r one first : Run) → ((world r).units ≢ 0) × (one ≡ with_units ((world r).units - 1) r)
    → r ≡ with_units r.state.units first → one ≡ with_units one.state.units first
spent_still r one first h k =
    h.1
    ∙ ap (with_units ((world r).units - 1)) k
    ∙ ap (λ u. with_units u first) (sym (ap (λ (q : Run). q.state.units) h.1))

pub weighs_still : (r first : Run) (v : ℕ) (items : node.Items) → r ≡ with_units r.state.units first
    → waiting (pending.Chosen 0 items) r + held r ≡ waiting (pending.Chosen v items) first + held first
weighs_still r first v items h = ap (λ (q : Run). waiting (pending.Chosen 0 items) q + held q) h

pub lighter : (k : ℕ → ℕ) (all : List Stmt) (s : Stmt) (items : List Stmt) → all ≡ s ∷ items
    → weight_of_items k (items_view items) ≤ weight_of_items k (items_view all)
lighter k all s items h =
    let e : weight_of_items k (items_view all) ≡ weight_of_items k (items_view (s ∷ items)) =
    ap (λ l. weight_of_items k (items_view l)) h in
    omega (arith, e)

-- the items behind the default are run
pub otherwise_lightens : {E : Type 0} (result : std.Result code.Now E) (t r : Run) (v : ℕ) (more items : node.Items)
    → IfOk result (λ n. heft (now_view n) t ≤ heft (pending.Run more) r + waiting pending.SwitchEnd r)
    → weight_of_items (weighed r) more ≤ weight_of_items (weighed r) items
    → IfOk result (λ n. t.state.units ≡ r.state.units
    → heft (now_view n) t < waiting (pending.Chosen v items) r + held r)
otherwise_lightens (std.Ok n) t r v more items h k = λ same. omega (arith, h, k)
otherwise_lightens (std.Err e) t r v more items h k = tt

-- labels were compared before
pub choose_lightens : {E : Type 0} (result : std.Result code.Now E) (t r first : Run) (v : ℕ) (items : node.Items)
    → r.state.units ≤ first.state.units → r ≡ with_units r.state.units first
    → IfOk result (λ n. t.state.units ≤ r.state.units)
    → IfOk result (λ n. t.state.units ≡ r.state.units
    → heft (now_view n) t < waiting (pending.Chosen 0 items) r + held r)
    → IfOk result (λ n. t.state.units ≡ first.state.units
    → heft (now_view n) t < waiting (pending.Chosen v items) first + held first)
choose_lightens (std.Ok n) t r first v items k still u l = λ same.
    let spent : t.state.units ≡ r.state.units = omega (arith, u, k, same) in
    subst (λ m. heft (now_view n) t < m) (weighs_still r first v items still) (l spent)
choose_lightens (std.Err e) t r first v items k still u l = tt

pub ruleset views = (view.statements)

pub ruleset choices = (passes, lacks, law.flow_bind, weighs_still)

pub ruleset defaults = (default_here, default_behind, lighter)
