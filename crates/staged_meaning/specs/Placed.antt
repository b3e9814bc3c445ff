-- Where statements that leave others may stand: a break in a loop or a switch, a continue in a loop, and a label right
-- in the block of a switch, behind the declarations of that block, so that a jump to a label passes none. A checked
-- tree keeps this. These are C's rules.
use Rattle.std.specs.Prelude.{◌≡◌, ℕ, zero, suc, Bool, true, false}
use Rattle.typed_tree.specs.Nodes.{Stmt, Block, Variable, Object, Parameter, ParameterObject, If, IfElse, While, Do}
use Rattle.typed_tree.specs.Nodes.{For, ForStep, Switch, Case, Default, Break, Continue, Items, NoItem, Item}

-- what a statement may do where it stands: be a label, leave what is round it, and go on to the next turn of a loop
pub record Allowed : Type 0 where
  pub parameters : Bool
  pub labels : Bool
  pub breaks : Bool
  pub continues : Bool

-- right in a function
abbrev pub outside : Allowed
outside = record { parameters = true; labels = false; breaks = false; continues = false }

-- in a part of a statement that is no switch, in a loop, and right in the block of a switch
abbrev pub nested : Allowed → Allowed
nested a = record a { labels = false }

abbrev pub looped : Allowed
looped = record { parameters = false; labels = false; breaks = true; continues = true }

abbrev pub switched : Allowed → Allowed
switched a = record { parameters = false; labels = true; breaks = true; continues = a.continues }

-- where no parameter is declared
abbrev pub below : Allowed → Allowed
below a = record a { parameters = false }

-- what declares a variable or an object
abbrev pub IsDeclaration : Stmt → Type 0
IsDeclaration (Variable i) = Unit {0}
IsDeclaration (Object offset words) = Unit {0}
IsDeclaration _ = ⊥

abbrev pub AreDeclarations : Items → Type 0
AreDeclarations NoItem = Unit {0}
AreDeclarations (Item s items) = IsDeclaration s × AreDeclarations items

abbrev mutual
  pub IsPlaced : Allowed → Stmt → Type 0
  IsPlaced a (Block variables items) = ArePlaced (nested a) variables × ArePlaced (nested a) items
  IsPlaced a (Variable i) = a.labels ≡ false
  IsPlaced a (Parameter k width) = (a.labels ≡ false) × (a.parameters ≡ true)
  IsPlaced a (ParameterObject k width offset) = a.parameters ≡ true
  IsPlaced a (If e s) = IsPlaced (nested a) s
  IsPlaced a (IfElse e s t) = IsPlaced (nested a) s × IsPlaced (nested a) t
  IsPlaced a (While e s) = IsPlaced looped s
  IsPlaced a (Do s e) = IsPlaced looped s
  IsPlaced a (For e s) = IsPlaced looped s
  IsPlaced a (ForStep e step s) = IsPlaced looped s
  IsPlaced a (Switch e variables items) = AreDeclarations variables × ArePlaced (switched a) items
  IsPlaced a (Case value) = a.labels ≡ true
  IsPlaced a Default = a.labels ≡ true
  IsPlaced a Break = a.breaks ≡ true
  IsPlaced a Continue = a.continues ≡ true
  IsPlaced a _ = Unit {0}

  pub ArePlaced : Allowed → Items → Type 0
  ArePlaced a NoItem = Unit {0}
  ArePlaced a (Item s items) = IsPlaced a s × ArePlaced a items

-- the node of the parameter of this number
abbrev pub IsParameter : ℕ → Stmt → Type 0
IsParameter k (Parameter n width) = n ≡ k
IsParameter k (ParameterObject n width offset) = n ≡ k
IsParameter k _ = ⊥

-- so many parameters from this number on stand first, and no others
abbrev pub AreHeaded : (count k : ℕ) → Items → Type 0
AreHeaded zero k items = ArePlaced (below outside) items
AreHeaded (suc count) k NoItem = ⊥
AreHeaded (suc count) k (Item s items) = IsParameter k s × AreHeaded count (suc k) items

-- the body of a function of so many parameters: they are declared first, in their order, and nowhere else
abbrev pub IsHeaded : (parameters : ℕ) → Stmt → Type 0
IsHeaded parameters (Block variables items) = AreHeaded parameters 0 variables × ArePlaced (below outside) items
IsHeaded parameters s = (parameters ≡ 0) × IsPlaced (below outside) s
