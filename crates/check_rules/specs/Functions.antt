-- The functions of the program. A function has the number of the functions before it and one more, by the place of its
-- definition; where it is called before that, an earlier walk says its number. Each prototype has a function somewhere
-- in the text. These are this project's own rules.
use Rattle.std.specs.Prelude.{ℕ, ◌+◌, min, Bool, true, false, if◌then◌else◌, List, [], ◌∷◌, ◌++◌, Option, Some, None}
use Rattle.std.specs.Prelude.{is_some, Result, Ok, Err}
use Rattle.check_scopes.specs.declared.names.Meaning.{Meaning}
use Rattle.check_scopes.specs.declared.names.MeaningKind.TheVariants as kind
use Rattle.check_scopes.specs.Scopes.{Name, Scopes, find, in_scope, innermost, declared}
use Rattle.check_types.specs.Shapes.{void}
use Rattle.tick_tree.specs.declared.fault.FaultKind.TheVariants as fault
use Rattle.tick_tree.specs.Faults.{Checked, refuse}
use Rattle.typed_tree.specs.declared.program.Function.{Function}
use Rattle.check_rules.specs.declared.functions.Prototype.{Prototype}
use Rattle.check_rules.specs.declared.functions.Functions.{Functions}
use Rattle.check_rules.specs.Frames.{count}
use Rattle.check_rules.specs.Walks.{Rule}

-- before all items, with the functions defined so far and those of an earlier walk
abbrev pub with : Scopes → Scopes → Functions
with defined earlier = record { defined = defined; earlier = earlier; prototypes = []; all = [] }

abbrev pub new : Functions
new = with ([] ∷ []) ([] ∷ [])

-- the number of the next function
abbrev pub next : Functions → ℕ
next s = min (count s.all + 1) 4294967295

abbrev pub number_by : Option Meaning → ℕ
number_by None = 0
number_by (Some m) = m.index

-- the number that an earlier walk found for the function of this name
abbrev pub number : Name → Functions → ℕ
number name s = number_by (find s.earlier name)

-- whether a function of this name is defined so far
abbrev pub is_defined : Name → Functions → Bool
is_defined name s = is_some (find s.defined name)

abbrev pub meaning : ℕ → Meaning
meaning n = record { kind = kind.Function; ctype = void; index = n }

abbrev pub defined_by : ℕ → Name → Functions → Option Meaning → Checked (Unit {0} × Functions)
defined_by line name s None = Ok (tt, record s { defined = declared s.defined name (meaning (next s)) })
defined_by line name s (Some other) = refuse fault.Duplicate line

-- a function is defined, once
unfoldable pub define : ℕ → Name → Rule Functions (Unit {0})
define line name s = defined_by line name s (in_scope (innermost s.defined) name)

-- one prototype more
abbrev pub with_prototype : ℕ → Name → Functions → Functions
with_prototype line name s = record s { prototypes = s.prototypes ++ (record { line = line; name = name }) ∷ [] }

-- one function more
abbrev pub with_function : Function → Functions → Functions
with_function f s = record s { all = s.all ++ f ∷ [] }

abbrev pub lacking : List Prototype → Functions → Option Prototype
lacking [] s = None
lacking (p ∷ ps) s = if is_defined p.name s then lacking ps s else Some p

-- the first prototype, in the order of the text, that has no function
unfoldable pub undefined : Functions → Option Prototype
undefined s = lacking s.prototypes s

-- before all items, with the numbers of these functions
abbrev pub again : Functions → Functions
again s = with ([] ∷ []) s.defined
