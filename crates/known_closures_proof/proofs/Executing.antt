-- What a statement does that stands right in a function or a tick keeps the rows of specifications known.
use Rattle.std.proofs.Common.{◌≡◌, ℕ, zero, suc, ◌+◌, Bool, true, false, ◌&&◌, ◌||◌, nat_eq, nat_le, length}
use Rattle.std.proofs.Common.{Option, Some, None, if◌then◌else◌, take, drop, refl}
use Rattle.meaning_state.specs.Shared.{Shared, zeroed, frame_start}
use Rattle.typed_tree.specs.Nodes as node
use Rattle.typed_tree.specs.Nodes.{Expr, Stmt, Items, fold_items}
use Rattle.wellformed.specs.Places.{Around, rules, values_of, all_different, all_declare, all_stand, is_label}
use Rattle.wellformed.specs.Places.{all_items}
use Rattle.wellformed.specs.Places.{are_parameters, within, looped, switched}
use Rattle.wellformed.specs.Program.{IsProgram}
use Rattle.wellformed.proofs.Bools.{first_true, second_true}
use Rattle.wf_ready.proofs.Scoped.{part, act, two, IsHead, AreHeads, declared_heads, body_heads}
use Rattle.staged_meaning.specs.Program.{Program}
use Rattle.staged_meaning.specs.Expressions.{Context, eval}
use Rattle.staged_meaning.specs.Statements.{turn_end, turns, round_end, rounds, stepped, switch_end, then_next, case_of}
use Rattle.staged_meaning.specs.Statements.{on_case, on_default, exec, exec_items, exec_cases, exec_default}
use Rattle.staged_meaning.specs.World.{World, Result, Gives, Flow, Normal, Broke, Continued, then_do, spend}
use Rattle.staged_meaning.specs.World.{with_shared}
use Rattle.staged_meaning.specs.World.{with_variable, clear_words}
use Rattle.known_closures_proof.specs.Known.{IsMeaning, AreKnown}
use Rattle.known_closures_proof.proofs.Keeping.{Keeps, then_keeps, spend_keeps, zero_keeps}
use Rattle.known_closures_proof.proofs.Making.{known_same}
use Rattle.known_closures_proof.proofs.Evaluating.{Good, eval_keeps}

module _ (p : node.Program) (accepted : IsProgram p) (program : Program) (meaning : IsMeaning p program) where
  abbrev Known : Shared → Type 0
  Known = AreKnown p accepted

  -- what goes on keeps them
  abbrev Going : {A : Type 0} → (World → Result A) → Type 0
  Going next = (w : World) → Known w.shared → Keeps Known (next w)

  next_keeps : (next : World → Result Flow) → Going next → (flow : Flow) → Going (then_next next flow)
  next_keeps next f Normal w k = f w k
  next_keeps next f Broke w k = k
  next_keeps next f Continued w k = k

  unit_spent : (w : World) → Known w.shared → Keeps Known (spend Normal w)
  unit_spent w k = spend_keeps Known Normal w k

  end_keeps : (next : World → Result Flow) → Going next → (flow : Flow) → Going (turn_end next flow)
  end_keeps next f Normal w k = then_keeps Known (spend Normal w) _ (unit_spent w k) (λ flow w k. f w k)
  end_keeps next f Broke w k = unit_spent w k
  end_keeps next f Continued w k = then_keeps Known (spend Normal w) _ (unit_spent w k) (λ flow w k. f w k)

  turns_keep : (d : ℕ) (test : World → Result ℕ) (body : World → Result Flow) → Going test → Going body
      → Going (turns d test body)
  turns_keep zero test body f g w k = k
  turns_keep (suc d) test body f g w k =
      then_keeps Known (test w) _ (f w k) (λ v w k.
      zero_keeps Known v (Gives Normal w) (then_do (body w) (turn_end (turns d test body))) k
      (then_keeps Known (body w) _ (g w k)
      (λ flow w k. end_keeps (turns d test body) (turns_keep d test body f g) flow w k)))

  round_keeps : (test : World → Result ℕ) (next : World → Result Flow) → Going test → Going next → (flow : Flow)
      → Going (round_end test next flow)
  round_keeps test next f g Broke w k = unit_spent w k
  round_keeps test next f g Normal w k =
      then_keeps Known (test w) _ (f w k) (λ v w k. then_keeps Known (spend Normal w) _ (unit_spent w k)
      (λ flow w k. zero_keeps Known v (Gives Normal w) (next w) k (g w k)))
  round_keeps test next f g Continued w k =
      then_keeps Known (spend Normal w) _ (unit_spent w k) (λ flow w k. then_keeps Known (test w) _ (f w k)
      (λ v w k. zero_keeps Known v (Gives Normal w) (next w) k (g w k)))

  rounds_keep : (d : ℕ) (body : World → Result Flow) (test : World → Result ℕ) → Going body → Going test
      → Going (rounds d body test)
  rounds_keep zero body test f g w k = k
  rounds_keep (suc d) body test f g w k =
      then_keeps Known (body w) _ (f w k)
      (λ flow w k. round_keeps test (rounds d body test) g (rounds_keep d body test f g) flow w k)

  step_keeps : (step : World → Result ℕ) → Going step → (flow : Flow) → Going (stepped step flow)
  step_keeps step f Broke w k = k
  step_keeps step f Normal w k = then_keeps Known (step w) _ (f w k) (λ v w k. k)
  step_keeps step f Continued w k = then_keeps Known (step w) _ (f w k) (λ v w k. k)

  switch_keeps : (flow : Flow) (w : World) → Known w.shared → Keeps Known (switch_end flow w)
  switch_keeps Continued w k = k
  switch_keeps Normal w k = k
  switch_keeps Broke w k = k

  cleared : (words at : ℕ) (w : World) → Known w.shared → Keeps Known (clear_words words at w)
  cleared zero at w k = k
  cleared (suc words) at w k =
      then_keeps Known (spend Normal (with_shared (zeroed at 1 w.shared) w)) _
      (spend_keeps Known Normal (with_shared (zeroed at 1 w.shared) w)
      (known_same p accepted w.shared (zeroed at 1 w.shared) refl refl refl k))
      (λ flow w k. cleared words (at + 4) w k)

  case_keeps : (o : Option ℕ) (v : ℕ) (here next : World → Result Flow) → Going here → Going next
      → Going (on_case o v here next)
  case_keeps None v here next f g w k = g w k
  case_keeps (Some x) v here next f g w k =
      then_keeps Known (spend Normal w) _ (unit_spent w k) (λ flow w k. by (nat_eq v x) w k)
    where
      by : (b : Bool) (w : World) → Known w.shared → Keeps Known (if b then here w else next w)
      by true w k = f w k
      by false w k = g w k

  default_on : (s : Stmt) (here next : World → Result Flow) → Going here → Going next → Going (on_default s here next)
  default_on node.Default here next f g w k = f w k
  default_on _ here next f g w k = g w k

  -- ---- the variables of a block

  head_keeps : (c : Context) (s : Stmt) → IsHead s → Going (exec c s)
  head_keeps c (node.Variable i) h w k = spend_keeps Known Normal (with_variable i 0 w) k
  head_keeps c (node.Object offset words) h w k = cleared words (frame_start c.object w.shared + offset) w k
  head_keeps c (node.Parameter i width) h w k = k
  head_keeps c (node.ParameterObject i width offset) h w k = known_same p accepted w.shared _ refl refl refl k
  head_keeps c _ h w k = absurd h

  heads_keep : (c : Context) (vs : Items) → AreHeads vs → Going (exec_items c vs)
  heads_keep c node.NoItem h w k = k
  heads_keep c (node.Item s vs) h w k =
      then_keeps Known (exec c s w) _ (head_keeps c s h.0 w k)
      (λ flow w k. next_keeps (exec_items c vs) (heads_keep c vs h.1) flow w k)

  -- ---- statements

  module _ (c : Context) (good : Good p accepted program meaning c) where
    value_keeps : (a : Around) → a.ticks ≡ accepted.captures → (e : Expr) → (part e).stands a ≡ true → Going (eval c e)
    value_keeps a ticks e h w k = eval_keeps p accepted program meaning a ticks c good e h w k

    label_or : (a : Around) (s : Stmt) → (is_label (act s) || (act s).stands a) ≡ true → (w : World) → Known w.shared
        → ((act s).stands a ≡ true → Keeps Known (exec c s w)) → Keeps Known (exec c s w)
    label_or a (node.Case v) h w k f = k
    label_or a node.Default h w k f = k
    label_or a _ h w k f = f h

    mutual
      pub exec_keeps : (a : Around) → a.ticks ≡ accepted.captures → (s : Stmt) → (act s).stands a ≡ true
          → Going (exec c s)
      exec_keeps a ticks (node.Eval e) h w k =
          then_keeps Known (eval c e w) _ (value_keeps a ticks e h w k) (λ v w k. k)
      exec_keeps a ticks (node.Block vs xs) h w k =
          let q = two (all_declare (fold_items rules vs) a)
          (all_stand (fold_items rules xs) (within (fold_items rules vs) a)) h in
          then_keeps Known (exec_items c vs w) _ (heads_keep c vs (declared_heads a vs q.0) w k)
          (λ flow w k. next_keeps (exec_items c xs) (items_keep (within (fold_items rules vs) a) ticks xs q.1) flow w k)
      exec_keeps a ticks (node.If e s) h w k =
          let q = two ((part e).stands a) ((act s).stands a) h in
          then_keeps Known (eval c e w) _ (value_keeps a ticks e q.0 w k)
          (λ v w k. zero_keeps Known v (Gives Normal w) (exec c s w) k (exec_keeps a ticks s q.1 w k))
      exec_keeps a ticks (node.IfElse e s r) h w k =
          let q = two ((part e).stands a && (act s).stands a) ((act r).stands a) h in
          let t = two ((part e).stands a) ((act s).stands a) q.0 in
          then_keeps Known (eval c e w) _ (value_keeps a ticks e t.0 w k)
          (λ v w k. zero_keeps Known v (exec c r w) (exec c s w) (exec_keeps a ticks r q.1 w k)
          (exec_keeps a ticks s t.1 w k))
      exec_keeps a ticks (node.While e s) h w k =
          let q = two ((part e).stands a) ((act s).stands (looped a)) h in
          turns_keep c.turns (eval c e) (exec c s) (value_keeps a ticks e q.0)
          (λ w k. exec_keeps (looped a) ticks s q.1 w k) w k
      exec_keeps a ticks (node.Do s e) h w k =
          let q = two ((act s).stands (looped a)) ((part e).stands a) h in
          rounds_keep c.turns (exec c s) (eval c e) (λ w k. exec_keeps (looped a) ticks s q.0 w k)
          (value_keeps a ticks e q.1) w k
      exec_keeps a ticks (node.For e s) h w k =
          let q = two ((part e).stands a) ((act s).stands (looped a)) h in
          turns_keep c.turns (eval c e) (exec c s) (value_keeps a ticks e q.0)
          (λ w k. exec_keeps (looped a) ticks s q.1 w k) w k
      exec_keeps a ticks (node.ForStep e step s) h w k =
          let q = two ((part e).stands a && (part step).stands a) ((act s).stands (looped a)) h in
          let r = two ((part e).stands a) ((part step).stands a) q.0 in
          turns_keep c.turns (eval c e) (λ w. then_do (exec c s w) (stepped (eval c step))) (value_keeps a ticks e r.0)
          (λ w k. then_keeps Known (exec c s w) _ (exec_keeps (looped a) ticks s q.1 w k)
          (λ flow w k. step_keeps (eval c step) (value_keeps a ticks step r.1) flow w k)) w k
      exec_keeps a ticks (node.Switch e vs xs) h w k =
          let inner : Around = switched (within (fold_items rules vs) a) in
          let front : Bool = (part e).stands a && all_declare (fold_items rules vs) a in
          let whole : Bool = front && all_items (fold_items rules xs) inner in
          let apart : Bool = whole && all_different (values_of (fold_items rules xs)) in
          let q = two front (all_items (fold_items rules xs) inner) (first_true whole _ (first_true apart _ h)) in
          let r = two ((part e).stands a) (all_declare (fold_items rules vs) a) q.0 in
          then_keeps Known (eval c e w) _ (value_keeps a ticks e r.0 w k)
          (λ v w k. then_keeps Known (exec_items c vs w) _ (heads_keep c vs (declared_heads a vs r.1) w k)
          (λ flow w k. next_keeps (λ w. then_do (exec_cases c v (exec_default c xs) xs w) switch_end)
          (λ w k. then_keeps Known (exec_cases c v (exec_default c xs) xs w) _
          (cases_keep inner ticks v (exec_default c xs) (λ w k. default_keeps inner ticks xs q.1 w k) xs q.1 w k)
          (λ flow w k. switch_keeps flow w k)) flow w k))
      exec_keeps a ticks (node.Variable i) h w k = absurd cc
      exec_keeps a ticks (node.Object offset words) h w k = absurd cc
      exec_keeps a ticks (node.Parameter i width) h w k = absurd cc
      exec_keeps a ticks (node.ParameterObject i width offset) h w k = absurd cc
      exec_keeps a ticks (node.Case v) h w k = k
      exec_keeps a ticks node.Default h w k = k
      exec_keeps a ticks node.Break h w k = k
      exec_keeps a ticks node.Continue h w k = k
      exec_keeps a ticks node.Return h w k = k
      exec_keeps a ticks (node.ReturnValue e) h w k =
          then_keeps Known (eval c e w) _ (value_keeps a ticks e h w k) (λ v w k. k)

      items_keep : (a : Around) → a.ticks ≡ accepted.captures → (xs : Items)
          → all_stand (fold_items rules xs) a ≡ true → Going (exec_items c xs)
      items_keep a ticks node.NoItem h w k = k
      items_keep a ticks (node.Item s xs) h w k =
          let q = two ((act s).stands a) (all_stand (fold_items rules xs) a) h in
          then_keeps Known (exec c s w) _ (exec_keeps a ticks s q.0 w k)
          (λ flow w k. next_keeps (exec_items c xs) (items_keep a ticks xs q.1) flow w k)

      -- those of a switch
      labelled_keep : (a : Around) → a.ticks ≡ accepted.captures → (xs : Items)
          → all_items (fold_items rules xs) a ≡ true → Going (exec_items c xs)
      labelled_keep a ticks node.NoItem h w k = k
      labelled_keep a ticks (node.Item s xs) h w k =
          let q = two (is_label (act s) || (act s).stands a) (all_items (fold_items rules xs) a) h in
          then_keeps Known (exec c s w) _ (label_or a s q.0 w k (λ there. exec_keeps a ticks s there w k))
          (λ flow w k. next_keeps (exec_items c xs) (labelled_keep a ticks xs q.1) flow w k)

      cases_keep : (a : Around) → a.ticks ≡ accepted.captures → (v : ℕ) (otherwise : World → Result Flow)
          → Going otherwise → (xs : Items) → all_items (fold_items rules xs) a ≡ true
          → Going (exec_cases c v otherwise xs)
      cases_keep a ticks v otherwise f node.NoItem h w k = f w k
      cases_keep a ticks v otherwise f (node.Item s xs) h w k =
          let q = two (is_label (act s) || (act s).stands a) (all_items (fold_items rules xs) a) h in
          case_keeps (case_of s) v (exec_items c xs) (exec_cases c v otherwise xs)
          (λ w k. labelled_keep a ticks xs q.1 w k) (λ w k. cases_keep a ticks v otherwise f xs q.1 w k) w k

      default_keeps : (a : Around) → a.ticks ≡ accepted.captures → (xs : Items)
          → all_items (fold_items rules xs) a ≡ true → Going (exec_default c xs)
      default_keeps a ticks node.NoItem h w k = k
      default_keeps a ticks (node.Item s xs) h w k =
          let q = two (is_label (act s) || (act s).stands a) (all_items (fold_items rules xs) a) h in
          default_on s (exec_items c xs) (exec_default c xs) (λ w k. labelled_keep a ticks xs q.1 w k)
          (λ w k. default_keeps a ticks xs q.1 w k) w k

    -- the body of a function of so many parameters
    pub body_keeps : (a : Around) → a.ticks ≡ accepted.captures → (s : Stmt) (n : ℕ) → (act s).is_body n a ≡ true
        → Going (exec c s)
    body_keeps a ticks (node.Block vs xs) n h w k =
        let heads : Bool = all_declare (drop n (fold_items rules vs)) a in
        let rest : Bool = all_stand (fold_items rules xs) (within (fold_items rules vs) a) in
        let first : Bool = are_parameters 0 (take n (fold_items rules vs)) a in
        let many : Bool = nat_le n (length (fold_items rules vs)) in
        let q = two (many && first && heads) rest h in
        let r = two (many && first) heads q.0 in
        then_keeps Known (exec_items c vs w) _
        (heads_keep c vs (body_heads a vs n 0 (second_true many first r.0) r.1) w k)
        (λ flow w k. next_keeps (exec_items c xs) (items_keep (within (fold_items rules vs) a) ticks xs q.1) flow w k)
    body_keeps a ticks _ n h w k = absurd cc
