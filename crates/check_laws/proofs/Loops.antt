-- One turn more of each loop over a list of parts: what is defined for the parts that are left is what is defined for
-- those behind the next one, after it; or the fault of the next one.
use Rattle.std.proofs.Common.{◌≡◌, ℕ, ◌+◌, ◌<◌, min, suc, List, [], ◌∷◌, ◌++◌, length, get_or, drop, map, Option, refl}
use Rattle.std.proofs.Common.{ap, sym, ◌∙◌, append_assoc, Result, Ok, Err}
use Rattle.std.proofs.lemmas.List.{at_drop_more}
use Rattle.c_types.specs.declared.ctype.CType.{CType}
use Rattle.check_declarators.specs.declared.steps.Step.{Step}
use Rattle.tick_tree.specs.declared.base.Base.{Base}
use Rattle.tick_tree.specs.declared.fault.Fault.{Fault}
use Rattle.tick_tree.specs.declared.fault.FaultKind.{FaultKind}
use Rattle.tick_tree.specs.declared.syntax.Expr.{Expr}
use Rattle.tick_tree.specs.declared.syntax.External.{External}
use Rattle.tick_tree.specs.declared.syntax.Init.{Init}
use Rattle.tick_tree.specs.declared.syntax.Parameter.{Parameter}
use Rattle.tick_tree.specs.declared.syntax.Stmt.{Stmt}
use Rattle.tick_tree.specs.declared.syntax.Suffix.{Suffix}
use Rattle.tick_tree.specs.Faults.{Checked, ◌>>=◌ as ◌>>>=◌}
use Rattle.typed_tree.specs.declared.expression.Stmt.{Stmt as Act}
use Rattle.check_operands.specs.declared.operand.Operand.{Operand}
use Rattle.check_operands.specs.declared.arguments.Arguments.{Arguments}
use Rattle.check_rules.specs.declared.state.Around.{Around}
use Rattle.check_rules.specs.declared.state.Stage.{Stage}
use Rattle.check_rules.specs.declared.state.State.{State}
use Rattle.check_rules.specs.Productions.{argument}
use Rattle.check_rules.specs.ExpressionRules as rules
use Rattle.check_rules.specs.Declarations.{list_count}
use Rattle.check_rules.specs.Initializers.{element}
use Rattle.check_rules.specs.StatementRules as statements
use Rattle.check_rules.specs.Walk as walks

-- the answer behind those so far
abbrev pub after : {A : Type 0} → List A → Checked (List A × State) → Checked (List A × State)
after xs (Ok r) = Ok (xs ++ r.0, r.1)
after xs (Err f) = Err f

pub after_none : {A : Type 0} (r : Checked (List A × State)) → after [] r ≡ r
after_none (Ok r) = refl
after_none (Err f) = refl

after_both : {A : Type 0} (xs ys : List A) (r : Checked (List A × State)) → after (xs ++ ys) r ≡ after xs (after ys r)
after_both xs ys (Ok r) = ap (λ z. Ok (z, r.1)) (append_assoc xs ys r.0)
after_both xs ys (Err f) = refl

behind : {A : Type 0} (xs : List A) (r : Checked (List A × State)) → (r >>>= (λ p. Ok (xs ++ p.0, p.1))) ≡ after xs r
behind xs (Ok r) = refl
behind xs (Err f) = refl

front : {A : Type 0} (x : A) (r : Checked (List A × State)) → (r >>>= (λ p. Ok (x ∷ p.0, p.1))) ≡ after (x ∷ []) r
front x (Ok r) = refl
front x (Err f) = refl

-- a function of what is left, one step on
pub next : {A Y : Type 0} (F : List A → Y) (xs : List A) (i : ℕ) (x : A) → i < length xs → x ≡ get_or xs i x →
    F (drop i xs) ≡ F (x ∷ drop (i + 1) xs)
next F xs i x h is = at_drop_more F xs i x h ∙ ap (λ z. F (z ∷ drop (i + 1) xs)) (sym is)

-- ---- arguments

pub argument_more : (xs : List Expr) (i : ℕ) (e : Expr) (found : Arguments) (g : Stage) (s z : State) (o : Operand) →
    i < length xs → e ≡ get_or xs i e
    → (walks.node e).walk g s ≡ Ok (o, z)
    → walks.arguments (drop i xs) found g s ≡ walks.arguments (drop (i + 1) xs) (argument found o) g z
argument_more xs i e found g s z o h is was =
    next (λ es. walks.arguments es found g s) xs i e h is ∙
    ap (λ r. r >>>= (λ p. walks.arguments (drop (i + 1) xs) (argument found p.0) g p.1)) was

pub argument_fails : (xs : List Expr) (i : ℕ) (e : Expr) (found : Arguments) (g : Stage) (s : State) (f : Fault) →
    i < length xs → e ≡ get_or xs i e
    → (walks.node e).walk g s ≡ Err f → walks.arguments (drop i xs) found g s ≡ Err f
argument_fails xs i e found g s f h is was =
    next (λ es. walks.arguments es found g s) xs i e h is ∙
    ap (λ r. r >>>= (λ p. walks.arguments (drop (i + 1) xs) (argument found p.0) g p.1)) was

-- ---- suffixes

pub suffix_more : (xs : List Suffix) (i : ℕ) (e : Suffix) (found : List Step) (g : Stage) (s z : State) (o : Step) →
    i < length xs → e ≡ get_or xs i e
    → (walks.suffix e).walk g s ≡ Ok (o, z)
    → statements.each_step (walks.suffix_walks (map walks.suffix (drop i xs))) found g s ≡ statements.each_step
    (walks.suffix_walks (map walks.suffix (drop (i + 1) xs))) (found ++ o ∷ []) g z
suffix_more xs i e found g s z o h is was =
    next (λ es. statements.each_step (walks.suffix_walks (map walks.suffix es)) found g s) xs i e h is
    ∙ ap (λ r. r >>>= (λ p. statements.each_step (walks.suffix_walks (map walks.suffix (drop (i + 1) xs)))
    (found ++ p.0 ∷ []) g p.1)) was

pub suffix_fails : (xs : List Suffix) (i : ℕ) (e : Suffix) (found : List Step) (g : Stage) (s : State) (f : Fault) →
    i < length xs → e ≡ get_or xs i e
    → (walks.suffix e).walk g s ≡ Err f →
    statements.each_step (walks.suffix_walks (map walks.suffix (drop i xs))) found g s ≡ Err f
suffix_fails xs i e found g s f h is was =
    next (λ es. statements.each_step (walks.suffix_walks (map walks.suffix es)) found g s) xs i e h is
    ∙ ap (λ r. r >>>= (λ p. statements.each_step (walks.suffix_walks (map walks.suffix (drop (i + 1) xs)))
    (found ++ p.0 ∷ []) g p.1)) was

-- ---- parameters of a list

pub type_more : (xs : List Parameter) (i : ℕ) (e : Parameter) (found : List CType) (g : Stage) (s z : State) (o : CType)
    → i < length xs → e ≡ get_or xs i e
    → (walks.parameter e).walk g s ≡ Ok (o, z)
    → after found (statements.each_type (walks.type_walks (map walks.parameter (drop i xs))) g s) ≡ after
    (found ++ o ∷ []) (statements.each_type (walks.type_walks (map walks.parameter (drop (i + 1) xs))) g z)
type_more xs i e found g s z o h is was =
    next (λ es. after found (statements.each_type (walks.type_walks (map walks.parameter es)) g s)) xs i e h is
    ∙ ap (λ r. after found (r >>>=
    (λ p. statements.each_type (walks.type_walks (map walks.parameter (drop (i + 1) xs))) g p.1 >>>=
    (λ q. Ok (p.0 ∷ q.0, q.1))))) was
    ∙ ap (λ r. after found r)
    (front o (statements.each_type (walks.type_walks (map walks.parameter (drop (i + 1) xs))) g z))
    ∙ sym (after_both found (o ∷ [])
    (statements.each_type (walks.type_walks (map walks.parameter (drop (i + 1) xs))) g z))

pub type_fails : (xs : List Parameter) (i : ℕ) (e : Parameter) (found : List CType) (g : Stage) (s : State) (f : Fault)
    → i < length xs → e ≡ get_or xs i e
    → (walks.parameter e).walk g s ≡ Err f →
    after found (statements.each_type (walks.type_walks (map walks.parameter (drop i xs))) g s) ≡ Err f
type_fails xs i e found g s f h is was =
    next (λ es. after found (statements.each_type (walks.type_walks (map walks.parameter es)) g s)) xs i e h is
    ∙ ap (λ r. after found (r >>>=
    (λ p. statements.each_type (walks.type_walks (map walks.parameter (drop (i + 1) xs))) g p.1 >>>=
    (λ q. Ok (p.0 ∷ q.0, q.1))))) was

-- ---- values of a list

pub element_more : (xs : List Expr) (i : ℕ) (e : Expr) (t : CType) (broken : Option FaultKind) (g : Stage) (s z : State)
    (o : Operand) → i < length xs → e ≡ get_or xs i e
    → (walks.node e).walk g s ≡ Ok (o, z)
    → walks.elements (map walks.node (drop i xs)) t broken g s ≡ walks.elements (map walks.node (drop (i + 1) xs)) t
    (element o t broken) g z
element_more xs i e t broken g s z o h is was =
    next (λ es. walks.elements (map walks.node es) t broken g s) xs i e h is
    ∙ ap (λ r. r >>>= (λ p. walks.elements (map walks.node (drop (i + 1) xs)) t (element p.0 t broken) g p.1)) was

pub element_fails : (xs : List Expr) (i : ℕ) (e : Expr) (t : CType) (broken : Option FaultKind) (g : Stage) (s : State)
    (f : Fault) → i < length xs → e ≡ get_or xs i e
    → (walks.node e).walk g s ≡ Err f → walks.elements (map walks.node (drop i xs)) t broken g s ≡ Err f
element_fails xs i e t broken g s f h is was =
    next (λ es. walks.elements (map walks.node es) t broken g s) xs i e h is
    ∙ ap (λ r. r >>>= (λ p. walks.elements (map walks.node (drop (i + 1) xs)) t (element p.0 t broken) g p.1)) was

-- ---- items of a block

pub item_more : (xs : List Stmt) (i : ℕ) (e : Stmt) (found : List Act) (a : Around) (s z : State) (o : List Act) →
    i < length xs → e ≡ get_or xs i e
    → (walks.item e).walk a s ≡ Ok (o, z)
    → after found (walks.items (drop i xs) a s) ≡ after (found ++ o) (walks.items (drop (i + 1) xs) a z)
item_more xs i e found a s z o h is was =
    next (λ es. after found (walks.items es a s)) xs i e h is
    ∙ ap (λ r. after found (r >>>= (λ p. walks.items (drop (i + 1) xs) a p.1 >>>= (λ q. Ok (p.0 ++ q.0, q.1))))) was
    ∙ ap (λ r. after found r) (behind o (walks.items (drop (i + 1) xs) a z))
    ∙ sym (after_both found o (walks.items (drop (i + 1) xs) a z))

pub item_fails : (xs : List Stmt) (i : ℕ) (e : Stmt) (found : List Act) (a : Around) (s : State) (f : Fault) →
    i < length xs → e ≡ get_or xs i e
    → (walks.item e).walk a s ≡ Err f → after found (walks.items (drop i xs) a s) ≡ Err f
item_fails xs i e found a s f h is was =
    next (λ es. after found (walks.items es a s)) xs i e h is
    ∙ ap (λ r. after found (r >>>= (λ p. walks.items (drop (i + 1) xs) a p.1 >>>= (λ q. Ok (p.0 ++ q.0, q.1))))) was

-- ---- declarators of a declaration

pub local_more : (xs : List Init) (i : ℕ) (e : Init) (found : List Act) (line : ℕ) (b : Base) (g : Stage) (s z : State)
    (o : List Act) → i < length xs → e ≡ get_or xs i e
    → walks.declare_one line b g (walks.init e) s ≡ Ok (o, z)
    → after found (walks.declare_each line b g (map walks.init (drop i xs)) s) ≡ after (found ++ o)
    (walks.declare_each line b g (map walks.init (drop (i + 1) xs)) z)
local_more xs i e found line b g s z o h is was =
    next (λ es. after found (walks.declare_each line b g (map walks.init es) s)) xs i e h is
    ∙ ap (λ r. after found (r >>>=
    (λ p. walks.declare_each line b g (map walks.init (drop (i + 1) xs)) p.1 >>>= (λ q. Ok (p.0 ++ q.0, q.1))))) was
    ∙ ap (λ r. after found r) (behind o (walks.declare_each line b g (map walks.init (drop (i + 1) xs)) z))
    ∙ sym (after_both found o (walks.declare_each line b g (map walks.init (drop (i + 1) xs)) z))

pub local_fails : (xs : List Init) (i : ℕ) (e : Init) (found : List Act) (line : ℕ) (b : Base) (g : Stage) (s : State)
    (f : Fault) → i < length xs → e ≡ get_or xs i e
    → walks.declare_one line b g (walks.init e) s ≡ Err f →
    after found (walks.declare_each line b g (map walks.init (drop i xs)) s) ≡ Err f
local_fails xs i e found line b g s f h is was =
    next (λ es. after found (walks.declare_each line b g (map walks.init es) s)) xs i e h is
    ∙ ap (λ r. after found (r >>>=
    (λ p. walks.declare_each line b g (map walks.init (drop (i + 1) xs)) p.1 >>>= (λ q. Ok (p.0 ++ q.0, q.1))))) was

-- ---- lengths

length_map : {A B : Type 0} → (f : A → B) (xs : List A) → length (map f xs) ≡ length xs
length_map f [] = refl
length_map f (x ∷ xs) = ap suc (length_map f xs)

-- a list of values gives as many elements as it has
pub same_count : (es : List Expr) → list_count (map walks.node es) ≡ list_count es
same_count es = ap (λ n. min n 4294967295) (length_map walks.node es)

pub same_length : (es : List Expr) → length (map walks.node es) ≡ length es
same_length es = length_map walks.node es
