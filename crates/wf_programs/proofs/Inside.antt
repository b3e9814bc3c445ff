-- The items of a function stand right in it: what the walk over them makes, once its parameters are known.
use Rattle.std.proofs.Common.{◌≡◌, ℕ, ◌+◌, ◌≤◌, ◌==◌, true, nat_le, nat_lt, refl, ap, sym, subst, List, [], ◌∷◌, ◌++◌}
use Rattle.std.proofs.Common.{length, slice_get, Some, Ok, arith}
use Rattle.check_scopes.specs.Scopes.{Scope, Scopes}
use Rattle.typed_tree.specs.declared.expression.CaptureKind.{CaptureKind}
use Rattle.typed_tree.specs.declared.expression.Stmt.{Stmt}
use Rattle.typed_tree.specs.declared.expression.Stmt.TheVariants as st
use Rattle.typed_tree.specs.declared.program.Tick.{Tick}
use Rattle.typed_tree.specs.Sizes.{statements_size}
use Rattle.check_rules.specs.Walks.{Rule}
use Rattle.check_rules.specs.declared.state.Stage.TheVariants as stage
use Rattle.check_rules.specs.declared.state.State.{State}
use Rattle.check_globals.specs.Program.{around}
use Rattle.wellformed.specs.Accepted.{AreNumbered}
use Rattle.wellformed.specs.Counts.{one_if, objects_at}
use Rattle.wellformed.specs.Places.{stands_as_body}
use Rattle.wellformed.specs.Values.{uses_values}
use Rattle.wellformed.proofs.Bools.{le_true}
use Rattle.wf_walk.specs.Counts.{Counts, objects_in, declarations_in}
use Rattle.wf_walk.specs.Items.{placed, GoodStatement, Declared, EachNode, DeclaresAt, ItemsStand}
use Rattle.wf_walk.specs.Kept.{Starts, Grows}
use Rattle.wf_walk.specs.Known.{Means, EachEntry, EachScope, Small, Known, numbers}
use Rattle.wf_walk.specs.Steps.{Round, Agrees, Did, EachTick, round_tick}
use Rattle.wf_walk.proofs.Fronts.{starts_refl}
use Rattle.wf_programs.proofs.Bodies.{items_stand, items_used, declared_stand, declared_used, body_stands, body_used}
use Rattle.wf_programs.proofs.Bodies.{body_objects, body_numbered}
use Rattle.wf_programs.proofs.Files.{many, round}
use Rattle.wf_programs.proofs.Given.{alone, Givens, ParameterAt, parameter_means}
use Rattle.wf_programs.proofs.Scopes.{TopName, means, each_map}
use Rattle.wf_programs.proofs.Bools.{length_front}

-- ---- the ticks of a function, whatever its variables and its frame

pub ticks_round : (e : State) (all : List (List CaptureKind)) (vs : List ℕ) (object : ℕ) (ts : List Tick)
    (ks : List (List CaptureKind))
    → EachTick (round e all vs object) ts ks → EachTick (round e all [] 0) ts ks
ticks_round e all vs object [] [] h = tt
ticks_round e all vs object [] (k ∷ ks) h = h
ticks_round e all vs object (t ∷ ts) [] h = h
ticks_round e all vs object (t ∷ ts) (k ∷ ks) h = (
  record {
    stands = h.0.stands;
    values = h.0.values;
    captures = h.0.captures;
    numbers = h.0.numbers;
    size = h.0.size;
  },
  ticks_round e all vs object ts ks h.1,
)

-- ---- what is known where the items begin

names_known : (e : State) (top : Scope) (n : ℕ) (s : State) → Givens top n s → EachEntry (TopName (many e)) top →
    EachScope (λ name m. Means (many e) stage.Function alone s name m m.kind) s.scopes
names_known e top n s g names =
    subst (λ (ss : Scopes). EachScope (λ name m. Means (many e) stage.Function alone s name m m.kind) ss) (sym g.two) (
      each_map (TopName (many e)) (λ name m. Means (many e) stage.Function alone s name m m.kind) top
          (λ name m h. means (many e) stage.Function alone s name m m.kind h) names,
      (
        each_map (ParameterAt s.frame) (λ name m. Means (many e) stage.Function alone s name m m.kind) g.scope
            (λ name m h. parameter_means (many e) s name m h) g.names,
        tt,
      ),
    )

pub known : (e : State) (top : Scope) (n : ℕ) (ks : List (List CaptureKind)) (s : State) → Givens top n s →
    EachEntry (TopName (many e)) top
    → length ks ≡ length s.ticks.all → Known (many e) stage.Function alone ks s
known e top n ks s g names counted small =
    record { names = names_known e top n s g names; ticks = counted; object = ap (λ (i : ℕ). i == 0) g.frame.aligned }

-- ---- what stands round the items

-- round the items of a function with these variables
abbrev pub round_items : State → List (List CaptureKind) → State → Round
round_items e all s = record
    { function = round e all (numbers s.frame.nodes) s.frame.object; tick = round_tick (round e all [] 0) [] }

same_le : (n : ℕ) → nat_le n n ≡ true
same_le n = le_true n n (omega arith)

agrees : (e : State) (ks all : List (List CaptureKind)) (s : State) → Small stage.Function s
    → Starts ks all → Agrees (many e) stage.Function alone ks s (round_items e all s)
agrees e ks all s small starts = record {
  small = small;
  visible = λ i h. h;
  object = same_le s.frame.object;
  is_function = refl;
  functions = (refl, refl);
  ticks = starts;
  in_tick = tt;
}

-- ---- the items

-- what the items of a function make: the body, what it counts, and the ticks
pub record Inside (e : State) (ks : List (List CaptureKind)) (n : ℕ) (s new : State) (xs : List Stmt) : Type 0 where
  pub more : List (List CaptureKind)
  pub counted : length (ks ++ more) ≡ length new.ticks.all
  pub stands : (all : List (List CaptureKind)) → Starts (ks ++ more) all →
      stands_as_body (st.Block new.frame.nodes xs) n (round e all [] new.frame.object) ≡ true
  pub values : uses_values (st.Block new.frame.nodes xs) ≡ true
  pub objects : (byte : ℕ) → objects_at byte (st.Block new.frame.nodes xs) ≡ one_if (nat_lt byte new.frame.object)
  pub numbers : AreNumbered (st.Block new.frame.nodes xs)
  pub ticks : (all : List (List CaptureKind)) → Starts (ks ++ more) all → (made : Starts s.ticks.all new.ticks.all) →
      EachTick (round e all [] 0) made.rest more

-- the node of the body: its parameters, and the variables behind them
block_stands : (e : State) (top : Scope) (n : ℕ) (all : List (List CaptureKind)) (s new : State) (rest xs : List Stmt) →
    Givens top n s → s.frame.object ≤ new.frame.object
    → new.frame.nodes ≡ s.frame.nodes ++ rest → EachNode (DeclaresAt stage.Function new.frame.object) rest
    → ItemsStand around (round e all (numbers new.frame.nodes) new.frame.object) xs
    → stands_as_body (st.Block new.frame.nodes xs) n (round e all [] new.frame.object) ≡ true
block_stands e top n all s new rest xs g object is declares items =
    let both : ItemsStand around (round e all (numbers (s.frame.nodes ++ rest)) new.frame.object) xs
    = subst (λ (vs : List Stmt). ItemsStand around (round e all (numbers vs) new.frame.object) xs) is items in
    subst (λ (vs : List Stmt). stands_as_body (st.Block vs xs) n (round e all [] new.frame.object) ≡ true) (sym is)
    (body_stands n s.frame.nodes rest xs (round e all [] new.frame.object) g.frame.nodes
    (g.frame.stand (round e all [] new.frame.object) refl (le_true s.frame.object new.frame.object object))
    (declared_stand new.frame.object (round e all [] new.frame.object) rest refl (same_le new.frame.object) declares)
    (items_stand (round e all (numbers (s.frame.nodes ++ rest)) new.frame.object) xs both))

block_used : (e : State) (top : Scope) (n : ℕ) (all : List (List CaptureKind)) (s new : State) (rest xs : List Stmt) →
    Givens top n s
    → new.frame.nodes ≡ s.frame.nodes ++ rest → EachNode (DeclaresAt stage.Function new.frame.object) rest
    → ItemsStand around (round e all (numbers new.frame.nodes) new.frame.object) xs
    → uses_values (st.Block new.frame.nodes xs) ≡ true
block_used e top n all s new rest xs g is declares items =
    subst (λ (vs : List Stmt). uses_values (st.Block vs xs) ≡ true) (sym is)
    (body_used s.frame.nodes rest xs g.frame.values (declared_used new.frame.object rest declares)
    (items_used (round e all (numbers new.frame.nodes) new.frame.object) xs items))

pub starts_length : {A : Type 0} (xs ys : List A) → Starts xs ys → length xs ≤ length ys
starts_length xs ys h = let e : length ys ≡ length (xs ++ h.rest) = ap length h.is in
    let m : length xs ≤ length (xs ++ h.rest) = length_front xs h.rest in omega arith

block_numbered : (top : Scope) (n : ℕ) (s new : State) (xs : List Stmt) → Givens top n s →
    length s.frame.homes ≤ length new.frame.homes → Counts stage.Function s new xs →
    AreNumbered (st.Block new.frame.nodes xs)
block_numbered top n s new xs g more c =
    let h : length s.frame.homes ≡ n = g.frame.homes in
    let z : statements_size s.frame.nodes ≡ n = g.frame.size in
    let sizes : statements_size s.frame.nodes + length new.frame.homes ≤ statements_size new.frame.nodes +
    statements_size xs + length s.frame.homes = c.sizes in
    body_numbered (length s.frame.homes) (length new.frame.homes) s.frame.nodes new.frame.nodes xs more
    (λ i. subst (λ (k : ℕ). declarations_in i s.frame.nodes ≤ one_if (nat_lt i k)) (sym h) (g.frame.declared i))
    c.declarations (omega arith)

pub inside : (e : State) (top : Scope) (n : ℕ) (ks : List (List CaptureKind)) (step : Rule State (List Stmt))
    (s new : State) (xs : List Stmt)
    → GoodStatement (many e) around step → Givens top n s → EachEntry (TopName (many e)) top →
    length ks ≡ length s.ticks.all
    → step s ≡ Ok (xs, new) → Small stage.Function new
    → Inside e ks n s new xs
inside e top n ks step s new xs good g names counted is small =
    let d : Did (many e) stage.Function alone ks s new (λ r. ItemsStand around (placed around r.function) xs) =
    good.does alone ks s new xs tt (known e top n ks s g names counted) is in
    let grows : Grows stage.Function s new = good.grows s new xs is in
    let object : s.frame.object ≤ new.frame.object = grows.at.object small.object in
    let declared : Declared stage.Function s new =
    good.declares s new xs is small (ap (λ (i : ℕ). i == 0) g.frame.aligned) in
    let counts : Counts stage.Function s new xs = good.counts s new xs is small in
    let here : Agrees (many e) stage.Function alone (ks ++ d.more) new (round_items e (ks ++ d.more) new) =
    agrees e (ks ++ d.more) (ks ++ d.more) new small (starts_refl (ks ++ d.more)) in
    record {
      more = d.more;
      counted = (d.known small).ticks;
      stands = λ all starts. block_stands e top n all s new grows.tables.nodes.rest xs g object grows.tables.nodes.is
          (declared.nodes grows.tables.nodes)
          (d.stands (round_items e all new) (agrees e (ks ++ d.more) all new small starts));
      values = block_used e top n (ks ++ d.more) s new grows.tables.nodes.rest xs g grows.tables.nodes.is
          (declared.nodes grows.tables.nodes) (d.stands (round_items e (ks ++ d.more) new) here);
      objects = λ byte. body_objects byte s.frame.object new.frame.object (objects_in byte s.frame.nodes)
          new.frame.nodes xs object (g.frame.objects byte) (counts.objects byte);
      numbers = block_numbered top n s new xs g (starts_length s.frame.homes new.frame.homes grows.at.homes) counts;
      ticks = λ all starts made. ticks_round e all (numbers new.frame.nodes) new.frame.object made.rest d.more
          (d.ticks (round_items e all new) (agrees e (ks ++ d.more) all new small starts) made);
    }
