-- Which nodes stand, where their parts do.
use Rattle.std.proofs.Common.{◌≡◌, ℕ, Bool, true, false, ◌&&◌, ◌||◌, List, [], ◌∷◌, map, refl, ap, ◌∙◌, append-nil}
use Rattle.std.proofs.Common.{Option, Some, None}
use Rattle.std.specs.Prelude.{nat_le}
use Rattle.typed_tree.specs.declared.expression.Expr.{Expr}
use Rattle.typed_tree.specs.declared.expression.Stmt.{Stmt}
use Rattle.typed_tree.specs.declared.expression.Stmt.TheVariants as st
use Rattle.check_operands.specs.declared.operand.Operand.{Operand}
use Rattle.check_operands.specs.Operands.{effect}
use Rattle.check_rules.specs.declared.state.Around.{Around as Standing}
use Rattle.check_rules.specs.Statements as statements
use Rattle.wellformed.specs.Places.{Around, Act, act, part, within, looped, switched, all_stand, all_declare, all_items}
use Rattle.wellformed.specs.Places.{is_label, all_different, values_of, defaults_of}
use Rattle.wellformed.specs.Values.{uses_values, is_used, is_right, all_true}
use Rattle.wellformed.proofs.Equations.{act_eval, act_block, act_if, act_ifelse, act_while, act_do, act_for}
use Rattle.wellformed.proofs.Equations.{act_forstep, act_switch, act_case, act_default, act_break, act_continue}
use Rattle.wellformed.proofs.Equations.{act_return, act_returnvalue}
use Rattle.wellformed.proofs.Uses.{uses_values_eval, uses_values_block, uses_values_if, uses_values_ifelse}
use Rattle.wellformed.proofs.Uses.{uses_values_while, uses_values_do, uses_values_for, uses_values_forstep}
use Rattle.wellformed.proofs.Uses.{uses_values_switch, uses_values_case, uses_values_default, uses_values_break}
use Rattle.wellformed.proofs.Uses.{uses_values_continue, uses_values_return, uses_values_returnvalue}
use Rattle.wellformed.proofs.Bools.{and_true}
use Rattle.wf_nodes.specs.Right.{Stands}
use Rattle.wf_nodes.specs.Used.{Leaves}
use Rattle.wf_walk.specs.Items.{StandsAs, ItemStands, ItemsStand}

-- a statement that stands, and uses its values
pub record Stood (r : Around) (x : Stmt) : Type 0 where
  pub stands : (act x).stands r ≡ true
  pub values : uses_values x ≡ true

-- ---- as an item

label_or : (b : Bool) → (b || true) ≡ true
label_or true = refl
label_or false = refl

stands_as : (d : Bool) (r : Around) (x : Act) → x.stands r ≡ true → StandsAs d r x
stands_as true r x h = ap (λ b. is_label x || b) h ∙ label_or (is_label x)
stands_as false r x h = h

pub stood_item : (a : Standing) (r : Around) (x : Stmt) → Stood r x → ItemStands a r x
stood_item a r x h = (stands_as a.is_direct r (act x) h.stands, h.values)

pub stood_one : (a : Standing) (r : Around) (x : Stmt) → Stood r x → ItemsStand a r (x ∷ [])
stood_one a r x h = (stood_item a r x h, tt)

stands_in : (d : Bool) (r : Around) (x : Act) → d ≡ false → StandsAs d r x → x.stands r ≡ true
stands_in true r x e h = cc
stands_in false r x e h = h

pub item_stood : (a : Standing) (r : Around) (x : Stmt) → a.is_direct ≡ false → ItemStands a r x → Stood r x
item_stood a r x e h = record { stands = stands_in a.is_direct r (act x) e h.0; values = h.1 }

-- ---- lists

pub all_of : (a : Standing) (r : Around) (xs : List Stmt) → a.is_direct ≡ false → ItemsStand a r xs →
    all_stand (map act xs) r ≡ true
all_of a r [] e h = refl
all_of a r (x ∷ xs) e h =
    and_true ((act x).stands r) (all_stand (map act xs) r) (item_stood a r x e h.0).stands (all_of a r xs e h.1)

pub values_of_items : (a : Standing) (r : Around) (xs : List Stmt) → ItemsStand a r xs →
    all_true (map uses_values xs) ≡ true
values_of_items a r [] h = refl
values_of_items a r (x ∷ xs) h =
    and_true (uses_values x) (all_true (map uses_values xs)) h.0.1 (values_of_items a r xs h.1)

items_by : (d : Bool) (r : Around) (x : Act) → d ≡ true → StandsAs d r x → (is_label x || x.stands r) ≡ true
items_by true r x e h = h
items_by false r x e h = cc

pub all_labelled : (a : Standing) (r : Around) (xs : List Stmt) → a.is_direct ≡ true → ItemsStand a r xs →
    all_items (map act xs) r ≡ true
all_labelled a r [] e h = refl
all_labelled a r (x ∷ xs) e h =
    and_true (is_label (act x) || (act x).stands r) (all_items (map act xs) r) (items_by a.is_direct r (act x) e h.0.0)
    (all_labelled a r xs e h.1)

-- ---- nodes

pub block_stood : (r : Around) (vs xs : List Stmt) → all_declare (map act vs) r ≡ true →
    all_true (map uses_values vs) ≡ true → all_stand (map act xs) (within (map act vs) r) ≡ true →
    all_true (map uses_values xs) ≡ true → Stood r (st.Block vs xs)
block_stood r vs xs d u h v = record {
  stands = ap (λ a. a.stands r) (act_block vs xs) ∙
      and_true (all_declare (map act vs) r) (all_stand (map act xs) (within (map act vs) r)) d h;
  values = uses_values_block vs xs ∙ and_true (all_true (map uses_values vs)) (all_true (map uses_values xs)) u v;
}

-- a block without variables is as its list
no_variables : (r : Around) → within [] r ≡ r
no_variables r = ap (λ ns. record r { variables = ns }) (append-nil r.variables)

pub list_stood : (r : Around) (xs : List Stmt) → all_stand (map act xs) r ≡ true →
    all_true (map uses_values xs) ≡ true → Stood r (st.Block [] xs)
list_stood r xs h v = block_stood r [] xs refl refl (ap (λ a. all_stand (map act xs) a) (no_variables r) ∙ h) v

pub body_stood : (a : Standing) (r : Around) (xs : List Stmt) → a.is_direct ≡ false → ItemsStand a r xs →
    Stood r (statements.body xs)
body_stood a r [] e h = list_stood r [] refl refl
body_stood a r (x ∷ []) e h = item_stood a r x e h.0
body_stood a r (x ∷ y ∷ rest) e h =
    list_stood r (x ∷ y ∷ rest) (all_of a r (x ∷ y ∷ rest) e h) (values_of_items a r (x ∷ y ∷ rest) h)

-- a test
pub record Test (r : Around) (e : Expr) : Type 0 where
  pub stands : Stands r e
  pub leaves : Leaves e

pub if_stood : (r : Around) (e : Expr) (x : Stmt) → Test r e → Stood r x → Stood r (st.If e x)
if_stood r e x t h = record {
  stands = ap (λ a. a.stands r) (act_if e x) ∙ and_true ((part e).stands r) ((act x).stands r) t.stands h.stands;
  values = uses_values_if e x ∙ and_true (is_used e) (uses_values x) t.leaves h.values;
}

pub if_else_stood : (r : Around) (e : Expr) (x y : Stmt) → Test r e → Stood r x → Stood r y → Stood r (st.IfElse e x y)
if_else_stood r e x y t h k = record {
  stands = ap (λ a. a.stands r) (act_ifelse e x y) ∙
      and_true ((part e).stands r && (act x).stands r) ((act y).stands r)
      (and_true ((part e).stands r) ((act x).stands r) t.stands h.stands) k.stands;
  values = uses_values_ifelse e x y ∙
      and_true (is_used e && uses_values x) (uses_values y) (and_true (is_used e) (uses_values x) t.leaves h.values)
      k.values;
}

pub while_stood : (r : Around) (e : Expr) (x : Stmt) → Test r e → Stood (looped r) x → Stood r (st.While e x)
while_stood r e x t h = record {
  stands = ap (λ a. a.stands r) (act_while e x) ∙
      and_true ((part e).stands r) ((act x).stands (looped r)) t.stands h.stands;
  values = uses_values_while e x ∙ and_true (is_used e) (uses_values x) t.leaves h.values;
}

pub do_stood : (r : Around) (x : Stmt) (e : Expr) → Stood (looped r) x → Test r e → Stood r (st.Do x e)
do_stood r x e h t = record {
  stands = ap (λ a. a.stands r) (act_do x e) ∙
      and_true ((act x).stands (looped r)) ((part e).stands r) h.stands t.stands;
  values = uses_values_do x e ∙ and_true (uses_values x) (is_used e) h.values t.leaves;
}

-- what is done for its effect
pub record Effect (r : Around) (e : Expr) : Type 0 where
  pub stands : Stands r e
  pub right : is_right e ≡ true

abbrev pub EffectOf : Around → Option Operand → Type 0
EffectOf r None = Unit {0}
EffectOf r (Some p) = Effect r (effect p)

pub for_stood : (r : Around) (e : Expr) (p : Option Operand) (x : Stmt) → Test r e → EffectOf r p → Stood (looped r) x →
    Stood r (statements.for_by e p x)
for_stood r e None x t f h = record {
  stands = ap (λ a. a.stands r) (act_for e x) ∙
      and_true ((part e).stands r) ((act x).stands (looped r)) t.stands h.stands;
  values = uses_values_for e x ∙ and_true (is_used e) (uses_values x) t.leaves h.values;
}
for_stood r e (Some p) x t f h = record {
  stands = ap (λ a. a.stands r) (act_forstep e (effect p) x) ∙
      and_true ((part e).stands r && (part (effect p)).stands r) ((act x).stands (looped r))
      (and_true ((part e).stands r) ((part (effect p)).stands r) t.stands f.stands) h.stands;
  values = uses_values_forstep e (effect p) x ∙
      and_true (is_used e && is_right (effect p)) (uses_values x)
      (and_true (is_used e) (is_right (effect p)) t.leaves f.right) h.values;
}

pub expr_stood : (r : Around) (e : Expr) → Effect r e → Stood r (st.Eval e)
expr_stood r e f = record
    { stands = ap (λ a. a.stands r) (act_eval e) ∙ f.stands; values = uses_values_eval e ∙ f.right }

pub answer_stood : (r : Around) (e : Expr) → Test r e → Stood r (st.ReturnValue e)
answer_stood r e t = record
    { stands = ap (λ a. a.stands r) (act_returnvalue e) ∙ t.stands; values = uses_values_returnvalue e ∙ t.leaves }

pub return_stood : (r : Around) → Stood r st.Return
return_stood r = record { stands = ap (λ a. a.stands r) act_return; values = uses_values_return }

pub break_stood : (r : Around) → (r.in_loop || r.in_switch) ≡ true → Stood r st.Break
break_stood r h = record { stands = ap (λ a. a.stands r) act_break ∙ h; values = uses_values_break }

pub continue_stood : (r : Around) → r.in_loop ≡ true → Stood r st.Continue
continue_stood r h = record { stands = ap (λ a. a.stands r) act_continue ∙ h; values = uses_values_continue }

pub switch_stood : (r : Around) (e : Expr) (vs xs : List Stmt) → Test r e → all_declare (map act vs) r ≡ true →
    all_true (map uses_values vs) ≡ true → all_items (map act xs) (switched (within (map act vs) r)) ≡ true →
    all_true (map uses_values xs) ≡ true
    → all_different (values_of (map act xs)) ≡ true → nat_le (defaults_of (map act xs)) 1 ≡ true →
    Stood r (st.Switch e vs xs)
switch_stood r e vs xs t d u h v f n = record {
  stands = ap (λ a. a.stands r) (act_switch e vs xs)
      ∙ and_true ((part e).stands r && all_declare (map act vs) r && all_items (map act xs)
      (switched (within (map act vs) r)) && all_different (values_of (map act xs)))
      (nat_le (defaults_of (map act xs)) 1)
      (and_true ((part e).stands r && all_declare (map act vs) r && all_items (map act xs)
      (switched (within (map act vs) r))) (all_different (values_of (map act xs)))
      (and_true ((part e).stands r && all_declare (map act vs) r)
      (all_items (map act xs) (switched (within (map act vs) r)))
      (and_true ((part e).stands r) (all_declare (map act vs) r) t.stands d) h) f) n;
  values = uses_values_switch e vs xs ∙
      and_true (is_used e && all_true (map uses_values vs)) (all_true (map uses_values xs))
      (and_true (is_used e) (all_true (map uses_values vs)) t.leaves u) v;
}

-- a label stands right in the block of a switch
pub case_item : (a : Standing) (r : Around) (n : ℕ) → a.is_direct ≡ true → ItemStands a r (st.Case n)
case_item a r n e = (as_label a.is_direct r (act (st.Case n)) e (ap is_label (act_case n)), uses_values_case n)
  where
    as_label : (d : Bool) (r : Around) (x : Act) → d ≡ true → is_label x ≡ true → StandsAs d r x
    as_label true r x e h = ap (λ b. b || x.stands r) h
    as_label false r x e h = cc

pub default_item : (a : Standing) (r : Around) → a.is_direct ≡ true → ItemStands a r st.Default
default_item a r e = (as_label a.is_direct r (act st.Default) e (ap is_label act_default), uses_values_default)
  where
    as_label : (d : Bool) (r : Around) (x : Act) → d ≡ true → is_label x ≡ true → StandsAs d r x
    as_label true r x e h = ap (λ b. b || x.stands r) h
    as_label false r x e h = cc
