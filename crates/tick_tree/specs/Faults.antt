-- The static faults of a text: the number and the name of each, and what it means that a stage of the front answers as
-- it is defined to. The list of faults, in this order, is this project's own rule.
use Rattle.std.specs.Prelude.{◌≡◌, ℕ, List, Result, Ok, Err, codes}
use Rattle.tick_tree.specs.declared.fault.FaultKind.{FaultKind}
use Rattle.tick_tree.specs.declared.fault.FaultKind.TheVariants.{BadByte, OpenComment, OpenLiteral, BadEscape}
use Rattle.tick_tree.specs.declared.fault.FaultKind.TheVariants.{BigLiteral, TooManyTokens, Syntax, TooDeep, Undeclared}
use Rattle.tick_tree.specs.declared.fault.FaultKind.TheVariants.{Duplicate, NotFunction, ArgumentCount, TypeMismatch}
use Rattle.tick_tree.specs.declared.fault.FaultKind.TheVariants.{NotPlace, BadOperand, VoidValue, BreakOutside}
use Rattle.tick_tree.specs.declared.fault.FaultKind.TheVariants.{ContinueOutside, BadReturn, BadArray, DollarOutside}
use Rattle.tick_tree.specs.declared.fault.FaultKind.TheVariants.{NestedTick, StageInTick, AddressOfRegister, NoMain}
use Rattle.tick_tree.specs.declared.fault.FaultKind.TheVariants.{BadCase, DuplicateCase, TooManyParameters, TooLarge}
use Rattle.tick_tree.specs.declared.fault.Fault.{Fault}
use Rattle.tick_tree.specs.declared.fault.Deny.{Deny}
use Rattle.tick_tree.specs.declared.fault.Deny.TheVariants.{Refused, NoMemory}

-- a fault's number
abbrev pub number : FaultKind → ℕ
number BadByte = 1
number OpenComment = 2
number OpenLiteral = 3
number BadEscape = 4
number BigLiteral = 5
number TooManyTokens = 6
number Syntax = 7
number TooDeep = 8
number Undeclared = 9
number Duplicate = 10
number NotFunction = 11
number ArgumentCount = 12
number TypeMismatch = 13
number NotPlace = 14
number BadOperand = 15
number VoidValue = 16
number BreakOutside = 17
number ContinueOutside = 18
number BadReturn = 19
number BadArray = 20
number DollarOutside = 21
number NestedTick = 22
number StageInTick = 23
number AddressOfRegister = 24
number NoMain = 25
number BadCase = 26
number DuplicateCase = 27
number TooManyParameters = 28
number TooLarge = 29

-- a fault's name, as the command line writes it
abbrev pub name : FaultKind → List ℕ
name BadByte = codes "BadByte"
name OpenComment = codes "OpenComment"
name OpenLiteral = codes "OpenLiteral"
name BadEscape = codes "BadEscape"
name BigLiteral = codes "BigLiteral"
name TooManyTokens = codes "TooManyTokens"
name Syntax = codes "Syntax"
name TooDeep = codes "TooDeep"
name Undeclared = codes "Undeclared"
name Duplicate = codes "Duplicate"
name NotFunction = codes "NotFunction"
name ArgumentCount = codes "ArgumentCount"
name TypeMismatch = codes "TypeMismatch"
name NotPlace = codes "NotPlace"
name BadOperand = codes "BadOperand"
name VoidValue = codes "VoidValue"
name BreakOutside = codes "BreakOutside"
name ContinueOutside = codes "ContinueOutside"
name BadReturn = codes "BadReturn"
name BadArray = codes "BadArray"
name DollarOutside = codes "DollarOutside"
name NestedTick = codes "NestedTick"
name StageInTick = codes "StageInTick"
name AddressOfRegister = codes "AddressOfRegister"
name NoMain = codes "NoMain"
name BadCase = codes "BadCase"
name DuplicateCase = codes "DuplicateCase"
name TooManyParameters = codes "TooManyParameters"
name TooLarge = codes "TooLarge"

-- the fault of a rule that is broken at this line; only a wrong token has its number
abbrev pub fault : FaultKind → ℕ → Fault
fault k line = record { kind = k; line = line; token = 0 }

-- An answer of a stage is what is defined, the value (seen through `view`) or the fault, unless memory was not found.
abbrev pub Answers : {A B : Type 0} → (A → B) → Result A Deny → Result B Fault → Type 0
Answers view (Ok x) defined = defined ≡ Ok (view x)
Answers view (Err (Refused f)) defined = defined ≡ Err f
Answers view (Err NoMemory) defined = Unit {0}

-- what a step of a stage is defined to give: a value, or the fault that ends it
abbrev pub Checked : Type 0 → Type 0
Checked A = Result A Fault

infixl 1 ◌>>=◌
-- a step, and then the next one with its value
abbrev pub ◌>>=◌ : {A B : Type 0} → Checked A → (A → Checked B) → Checked B
Ok x >>= f = f x
Err e >>= f = Err e

-- the answer of a rule that is broken at this line
abbrev pub refuse : {A : Type 0} → FaultKind → ℕ → Checked A
refuse k line = Err (fault k line)

-- a step's answer is what is defined, unless memory was not found
abbrev pub Checks : {A : Type 0} → Result A Deny → Checked A → Type 0
Checks (Ok x) defined = defined ≡ Ok x
Checks (Err (Refused f)) defined = defined ≡ Err f
Checks (Err NoMemory) defined = Unit {0}
