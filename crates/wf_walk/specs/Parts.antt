-- What is asked of the parts of an expression, and of those that have the form of a constant.
use Rattle.std.specs.Prelude.{◌≡◌, ℕ, Bool, true, false, List, [], ◌∷◌, Option, Some, None, is_some, Ok}
use Rattle.c_types.specs.declared.ctype.CType.{CType}
use Rattle.check_declarators.specs.declared.steps.Step.{Step}
use Rattle.tick_tree.specs.declared.syntax.Core.TheOpen.{Expr-F, Suffix-F}
use Rattle.check_rules.specs.declared.state.Stage.{Stage}
use Rattle.check_rules.specs.declared.state.Stage.TheVariants as stage
use Rattle.check_rules.specs.declared.state.State.{State}
use Rattle.check_rules.specs.Walks.{Rule}
use Rattle.check_rules.specs.ExpressionRules.{Node, Named, Shape, Item, block, tick_around}
use Rattle.wf_walk.specs.Captured.{NamesValue, NamesBlock}
use Rattle.wf_walk.specs.Good.{GoodNode, GoodNamed, GoodParameter, is_computed_step, any_computed}
use Rattle.wf_walk.specs.Items.{GoodBlock}

abbrev pub EachPart : {A : Type 0} → (A → Type 0) → List A → Type 0
EachPart P [] = Unit {0}
EachPart P (x ∷ xs) = P x × EachPart P xs

-- the parts of an expression are good
abbrev pub GoodParts : {I S D N P : Type 0} → List ℕ → Expr-F Shape Node I (Option Node) Item S D Shape N P Named →
    Type 0
GoodParts many (Expr-F.Expr::Name line name) = Unit {0}
GoodParts many (Expr-F.Number n unsigned) = Unit {0}
GoodParts many (Expr-F.Character n) = Unit {0}
GoodParts many (Expr-F.String bytes) = Unit {0}
GoodParts many (Expr-F.Expr::Paren a) = GoodNode many a
GoodParts many (Expr-F.Compile line a t) = GoodNode many a × GoodNamed t
GoodParts many (Expr-F.Expr::Local line t) = GoodNamed t
GoodParts many (Expr-F.Param line t a) = GoodNamed t × GoodNode many a
GoodParts many (Expr-F.Index line ab) = GoodNode many ab.0 × GoodNode many ab.1
GoodParts many (Expr-F.Call line f list) = GoodNode many f × EachPart (GoodNode many) list
GoodParts many (Expr-F.Step line op a) = GoodNode many a
GoodParts many (Expr-F.Unary line op a) = GoodNode many a
GoodParts many (Expr-F.Tick line a) = GoodNode many a × NamesValue a
GoodParts many (Expr-F.TickBlock line items) =
    GoodBlock many tick_around (block items tick_around) × NamesBlock items
GoodParts many (Expr-F.Cast line t a) = GoodNamed t × GoodNode many a
GoodParts many (Expr-F.Sizeof line t) = GoodNamed t
GoodParts many (Expr-F.Binary line op ab) = GoodNode many ab.0 × GoodNode many ab.1
GoodParts many (Expr-F.Choice line c a b) = GoodNode many c × GoodNode many a × GoodNode many b
GoodParts many (Expr-F.Assign line ab) = GoodNode many ab.0 × GoodNode many ab.1
GoodParts many (Expr-F.Modify line op ab) = GoodNode many ab.0 × GoodNode many ab.1
GoodParts many (Expr-F.Comma line ab) = GoodNode many ab.0 × GoodNode many ab.1

-- an expression has the form of a constant only if its parts have, and it is one of these
abbrev pub HasForm : {I S D N P : Type 0} → Expr-F Shape Node I (Option Node) Item S D Shape N P Named → Type 0
HasForm (Expr-F.Number n unsigned) = Unit {0}
HasForm (Expr-F.Character n) = Unit {0}
HasForm (Expr-F.Expr::Paren a) = a.written.constant ≡ true
HasForm (Expr-F.Unary line op a) = a.written.constant ≡ true
HasForm (Expr-F.Cast line t a) = a.written.constant ≡ true
HasForm (Expr-F.Sizeof line t) = Unit {0}
HasForm (Expr-F.Binary line op ab) = (ab.0.written.constant ≡ true) × (ab.1.written.constant ≡ true)
HasForm _ = true ≡ false

-- a string, also in parentheses
abbrev pub IsString : {I S D N P : Type 0} → Expr-F Shape Node I (Option Node) Item S D Shape N P Named → Type 0
IsString (Expr-F.String bytes) = Unit {0}
IsString (Expr-F.Expr::Paren a) = is_some a.written.string ≡ true
IsString _ = true ≡ false

-- ---- types

abbrev pub GoodOptional : List ℕ → Option Node → Type 0
GoodOptional many None = Unit {0}
GoodOptional many (Some e) = GoodNode many e

-- the parts of a suffix are good
abbrev pub GoodSuffixParts : {I D N : Type 0} → List ℕ →
    Suffix-F Shape Node I (Option Node) Item (Stage → Rule State Step) D Shape N (Stage → Rule State CType) Named →
    Type 0
GoodSuffixParts many (Suffix-F.Array e) = GoodOptional many e
GoodSuffixParts many Suffix-F.Unlisted = Unit {0}
GoodSuffixParts many Suffix-F.Nothing = Unit {0}
GoodSuffixParts many (Suffix-F.Listed ps) = EachPart GoodParameter ps

-- ---- what doesn't depend on what is known

-- a step that answers the same in all states that it answers in
abbrev pub IsFixed : {A : Type 0} → Rule State A → Type 0
IsFixed {A} r = (s t m n : State) (x y : A) → r s ≡ Ok (x, m) → r t ≡ Ok (y, n) → x ≡ y

-- a step that does so, but where it answers what no type is made of
abbrev pub IsFixedBut : {A : Type 0} → (A → Bool) → Rule State A → Type 0
IsFixedBut {A} but r = (s t m n : State) (x y : A) → r s ≡ Ok (x, m) → r t ≡ Ok (y, n) → but x ≡ false → x ≡ y

-- where a function runs
abbrev pub FixedNode : Node → Type 0
FixedNode n = n.written.constant ≡ true → IsFixed (n.walk stage.Function)

abbrev pub FixedOptional : Option Node → Type 0
FixedOptional None = Unit {0}
FixedOptional (Some e) = FixedNode e

abbrev pub FixedNamed : Named → Type 0
FixedNamed t = (line : ℕ) → IsFixed (t.walk line stage.Function)

abbrev pub FixedShape : Shape → Type 0
FixedShape d = IsFixedBut any_computed (d.walk stage.Function)

abbrev pub FixedSuffix : (Stage → Rule State Step) → Type 0
FixedSuffix w = IsFixedBut is_computed_step (w stage.Function)

abbrev pub FixedParameter : (Stage → Rule State CType) → Type 0
FixedParameter w = IsFixed (w stage.Function)

-- the parts of an expression with the form of a constant
abbrev pub FixedParts : {I S D N P : Type 0} → Expr-F Shape Node I (Option Node) Item S D Shape N P Named → Type 0
FixedParts (Expr-F.Expr::Paren a) = FixedNode a
FixedParts (Expr-F.Unary line op a) = FixedNode a
FixedParts (Expr-F.Cast line t a) = FixedNamed t × FixedNode a
FixedParts (Expr-F.Sizeof line t) = FixedNamed t
FixedParts (Expr-F.Binary line op ab) = FixedNode ab.0 × FixedNode ab.1
FixedParts _ = Unit {0}

abbrev pub FixedSuffixParts : {I D N : Type 0} →
    Suffix-F Shape Node I (Option Node) Item (Stage → Rule State Step) D Shape N (Stage → Rule State CType) Named →
    Type 0
FixedSuffixParts (Suffix-F.Array e) = FixedOptional e
FixedSuffixParts Suffix-F.Unlisted = Unit {0}
FixedSuffixParts Suffix-F.Nothing = Unit {0}
FixedSuffixParts (Suffix-F.Listed ps) = EachPart FixedParameter ps
