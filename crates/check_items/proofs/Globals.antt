-- One turn more of each loop at file scope: what is defined for the parts that are left is what is defined for those
-- behind the next one, after it; or the fault of the next one.
use Rattle.std.proofs.Common.{◌≡◌, ℕ, ◌+◌, ◌<◌, List, length, get_or, drop, map, ap, sym, ◌∙◌, Ok, Err}
use Rattle.std.specs.Prelude.{is_some}
use Rattle.c_types.specs.declared.ctype.CType.{CType}
use Rattle.tick_tree.specs.declared.base.Base.{Base}
use Rattle.tick_tree.specs.declared.fault.Fault.{Fault}
use Rattle.tick_tree.specs.declared.syntax.Expr.{Expr}
use Rattle.tick_tree.specs.declared.syntax.External.{External}
use Rattle.tick_tree.specs.declared.syntax.Init.{Init}
use Rattle.tick_tree.specs.Faults.{◌>>=◌ as ◌>>>=◌}
use Rattle.check_forms.specs.Forms.{has_form, string_of}
use Rattle.check_operands.specs.declared.operand.Operand.{Operand}
use Rattle.check_globals.specs.declared.statics.Row.{Row}
use Rattle.check_globals.specs.Statics.{row_more}
use Rattle.check_rules.specs.declared.state.Stage.TheVariants as stage
use Rattle.check_rules.specs.declared.state.State.{State}
use Rattle.check_globals.specs.Program as spec
use Rattle.check_rules.specs.Walk as walks
use Rattle.check_laws.proofs.Loops.{next}
use Rattle.check_laws.proofs.Written.{expr_agrees}

pub row_goes : (xs : List Expr) (i : ℕ) (e : Expr) (t : CType) (r : Row) (s z : State) (o : Operand) → i < length xs →
    e ≡ get_or xs i e
    → (walks.node e).walk stage.Function s ≡ Ok (o, z)
    → spec.row (map walks.node (drop i xs)) t r s
    ≡ spec.row (map walks.node (drop (i + 1) xs)) t
    (row_more t (walks.node e).written.constant (is_some (walks.node e).written.string) o r) z
row_goes xs i e t r s z o h is was =
    next (λ es. spec.row (map walks.node es) t r s) xs i e h is
    ∙ ap (λ q. q >>>= (λ p. spec.row (map walks.node (drop (i + 1) xs)) t
    (row_more t (walks.node e).written.constant (is_some (walks.node e).written.string) p.0 r) p.1)) was

pub row_fails : (xs : List Expr) (i : ℕ) (e : Expr) (t : CType) (r : Row) (s : State) (f : Fault) → i < length xs →
    e ≡ get_or xs i e
    → (walks.node e).walk stage.Function s ≡ Err f → spec.row (map walks.node (drop i xs)) t r s ≡ Err f
row_fails xs i e t r s f h is was =
    next (λ es. spec.row (map walks.node es) t r s) xs i e h is
    ∙ ap (λ q. q >>>= (λ p. spec.row (map walks.node (drop (i + 1) xs)) t
    (row_more t (walks.node e).written.constant (is_some (walks.node e).written.string) p.0 r) p.1)) was

pub walked_goes : (xs : List Expr) (i : ℕ) (e : Expr) (s z : State) (o : Operand) → i < length xs → e ≡ get_or xs i e
    → (walks.node e).walk stage.Function s ≡ Ok (o, z) →
    spec.walked (map walks.node (drop i xs)) s ≡ spec.walked (map walks.node (drop (i + 1) xs)) z
walked_goes xs i e s z o h is was =
    next (λ es. spec.walked (map walks.node es) s) xs i e h is ∙
    ap (λ q. q >>>= (λ p. spec.walked (map walks.node (drop (i + 1) xs)) p.1)) was

pub walked_fails : (xs : List Expr) (i : ℕ) (e : Expr) (s : State) (f : Fault) → i < length xs → e ≡ get_or xs i e
    → (walks.node e).walk stage.Function s ≡ Err f → spec.walked (map walks.node (drop i xs)) s ≡ Err f
walked_fails xs i e s f h is was =
    next (λ es. spec.walked (map walks.node es) s) xs i e h is ∙
    ap (λ q. q >>>= (λ p. spec.walked (map walks.node (drop (i + 1) xs)) p.1)) was

pub globals_goes : (xs : List Init) (i : ℕ) (e : Init) (line : ℕ) (b : Base) (s z : State) → i < length xs →
    e ≡ get_or xs i e
    → spec.global line b (walks.init e) s ≡ Ok (tt, z)
    → spec.globals line b (map walks.init (drop i xs)) s ≡ spec.globals line b (map walks.init (drop (i + 1) xs)) z
globals_goes xs i e line b s z h is was =
    next (λ es. spec.globals line b (map walks.init es) s) xs i e h is ∙
    ap (λ q. q >>>= (λ p. spec.globals line b (map walks.init (drop (i + 1) xs)) p.1)) was

pub globals_fails : (xs : List Init) (i : ℕ) (e : Init) (line : ℕ) (b : Base) (s : State) (f : Fault) → i < length xs →
    e ≡ get_or xs i e
    → spec.global line b (walks.init e) s ≡ Err f → spec.globals line b (map walks.init (drop i xs)) s ≡ Err f
globals_fails xs i e line b s f h is was =
    next (λ es. spec.globals line b (map walks.init es) s) xs i e h is ∙
    ap (λ q. q >>>= (λ p. spec.globals line b (map walks.init (drop (i + 1) xs)) p.1)) was

pub walk_goes : (xs : List External) (i : ℕ) (e : External) (s z : State) → i < length xs → e ≡ get_or xs i e
    → spec.external e s ≡ Ok (tt, z) → spec.walk (drop i xs) s ≡ spec.walk (drop (i + 1) xs) z
walk_goes xs i e s z h is was =
    next (λ es. spec.walk es s) xs i e h is ∙ ap (λ q. q >>>= (λ p. spec.walk (drop (i + 1) xs) p.1)) was

pub walk_fails : (xs : List External) (i : ℕ) (e : External) (s : State) (f : Fault) → i < length xs → e ≡ get_or xs i e
    → spec.external e s ≡ Err f → spec.walk (drop i xs) s ≡ Err f
walk_fails xs i e s f h is was =
    next (λ es. spec.walk es s) xs i e h is ∙ ap (λ q. q >>>= (λ p. spec.walk (drop (i + 1) xs) p.1)) was

-- the same with what check_forms says of the value
pub row_next : (xs : List Expr) (i : ℕ) (e : Expr) (t : CType) (r next_row : Row) (s z : State) (o : Operand) →
    i < length xs → e ≡ get_or xs i e
    → (walks.node e).walk stage.Function s ≡ Ok (o, z) → next_row ≡ row_more t (has_form e) (is_some (string_of e)) o r
    → spec.row (map walks.node (drop (i + 1) xs)) t next_row z ≡ spec.row (map walks.node (drop i xs)) t r s
row_next xs i e t r next_row s z o h is was made =
    ap (λ q. spec.row (map walks.node (drop (i + 1) xs)) t q z) made
    ∙ ap (λ w. spec.row (map walks.node (drop (i + 1) xs)) t (row_more t w.constant (is_some w.string) o r) z)
    (sym (expr_agrees e))
    ∙ sym (row_goes xs i e t r s z o h is was)
