-- A function of the program stands right, and what it leaves for the items behind it: the walk over it, put together.
use Rattle.std.proofs.Common.{◌≡◌, ℕ, ◌≤◌, min, true, nat_le, ap, sym, ◌∙◌, subst, List, [], ◌∷◌, ◌++◌, length}
use Rattle.std.proofs.Common.{slice_get, Some, arith}
use Rattle.limits.specs.declared.program.TheConstants.{FRAME_OBJECT_BYTES, NODE_TOP, SIZE_LIMIT}
use Rattle.c_types.specs.declared.ctype.CType.{CType}
use Rattle.check_scopes.specs.Scopes.{Name, Scope}
use Rattle.tick_tree.specs.declared.base.Base.{Base}
use Rattle.typed_tree.specs.declared.expression.CaptureKind.{CaptureKind}
use Rattle.typed_tree.specs.declared.expression.Stmt.{Stmt}
use Rattle.typed_tree.specs.declared.expression.Stmt.TheVariants as st
use Rattle.typed_tree.specs.declared.program.Function.{Function}
use Rattle.typed_tree.specs.Sizes.{statement_size}
use Rattle.check_rules.specs.declared.functions.Functions.{Functions}
use Rattle.check_rules.specs.declared.state.State.{State}
use Rattle.check_rules.specs.ExpressionRules.{Shape, Item}
use Rattle.check_globals.specs.Functions as functions
use Rattle.check_globals.specs.Functions.{Given, types_of, count_of}
use Rattle.check_globals.specs.Programs.{typed, function_fits}
use Rattle.wellformed.specs.Accepted as accepted
use Rattle.wellformed.specs.Places.{stands_as_body}
use Rattle.wellformed.proofs.Bools.{first_true, second_true}
use Rattle.wf_walk.specs.Kept.{Starts}
use Rattle.wf_walk.specs.Steps.{EachTick}
use Rattle.wf_walk.proofs.Blocks.{back}
use Rattle.wf_walk.proofs.Lists.{get_front, get_last}
use Rattle.wf_programs.proofs.Bools.{true_le}
use Rattle.wf_programs.proofs.Files.{AtFile, round}
use Rattle.wf_programs.proofs.Inside.{Inside}
use Rattle.wf_programs.proofs.Runs.{ended, FunctionRan}
use Rattle.wf_programs.proofs.Tables.{with_name}

-- ---- the function that was made

-- the body of a function whose items made these nodes
abbrev pub body_of : State → List Stmt → Stmt
body_of last xs = st.Block last.frame.nodes xs

abbrev pub made_function : ℕ → Shape → CType → State → State → List Stmt → Function
made_function line d t named last xs = functions.function line d.declared.name t (body_of last xs) (back named last)

abbrev pub made_state : ℕ → Shape → CType → State → State → List Stmt → State
made_state line d t named last xs = ended line d.declared.name t (body_of last xs) (back named last)

pub is_made : (line : ℕ) (b : Base) (d : Shape) (gs : List Given) (items : List Item) (s new : State)
    (r : FunctionRan line b d gs items s new)
    → new ≡ made_state line d r.type r.named r.third.last r.third.nodes
is_made line b d gs items s new r =
    r.is ∙ ap (λ (x : Stmt). ended line d.declared.name r.type x r.bodied) r.third.node
    ∙ ap (λ (z : State). ended line d.declared.name r.type (body_of r.third.last r.third.nodes) z) r.third.is

-- ---- what a function does

pub record FunctionDone (e : State) (name : Name) (ks : List (List CaptureKind)) (s new : State) (table : Scope) : Type
    0 where
  pub file : AtFile e new
  pub defined : new.functions.defined ≡ with_name (length s.functions.all) name table ∷ []
  pub function : Function
  pub all : new.functions.all ≡ s.functions.all ++ function ∷ []
  pub named : function.name ≡ name
  pub more : List (List CaptureKind)
  pub counted : length (ks ++ more) ≡ length new.ticks.all
  pub stands : (all : List (List CaptureKind)) → Starts (ks ++ more) all → accepted.IsFunction (typed e) all function
  pub ticks : (all : List (List CaptureKind)) → Starts (ks ++ more) all → (made : Starts s.ticks.all new.ticks.all) →
      EachTick (round e all [] 0) made.rest more

-- the functions after the name
abbrev pub with_defined : ℕ → Name → Scope → Functions → Functions
with_defined n name table f = record f { defined = with_name n name table ∷ [] }

pub get_rest : {A : Type 0} (xs : List A) (x : A) (ys zs : List A) → zs ≡ (xs ++ x ∷ []) ++ ys →
    slice_get zs (length xs) ≡ Some x
get_rest xs x ys zs e = ap (λ l. slice_get l (length xs)) e ∙ get_front (xs ++ x ∷ []) ys (length xs) x (get_last xs x)

-- ---- the function is right

pub is_right : (e : State) (ks all : List (List CaptureKind)) (line : ℕ) (d : Shape) (t : CType)
    (named given last : State) (xs : List Stmt)
    → length (types_of t) ≤ 8 → function_fits (made_function line d t named last xs) ≡ true
    → (inner : Inside e ks (length (types_of t)) given last xs) → Starts (ks ++ inner.more) all
    → accepted.IsFunction (typed e) all (made_function line d t named last xs)
is_right e ks all line d t named given last xs few fits inner starts =
    let count : count_of t ≡ length (types_of t) = omega arith in
    let size : min (statement_size (body_of last xs)) NODE_TOP ≤ SIZE_LIMIT =
    true_le _ _ (first_true (nat_le (min (statement_size (body_of last xs)) NODE_TOP) SIZE_LIMIT)
    (nat_le last.frame.object FRAME_OBJECT_BYTES) fits) in
    record {
      stands = subst (λ (n : ℕ). stands_as_body (body_of last xs) n (round e all [] last.frame.object) ≡ true)
          (sym count) (inner.stands all starts);
      values = inner.values;
      size = omega arith;
      objects = inner.objects;
      numbers = inner.numbers;
      few = omega arith;
      small = size;
      short = true_le _ _ (second_true (nat_le (min (statement_size (body_of last xs)) NODE_TOP) SIZE_LIMIT)
          (nat_le last.frame.object FRAME_OBJECT_BYTES) fits);
    }
