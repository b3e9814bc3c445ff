-- What the walk knows before all items: the library functions have their names at file scope. The whole program is
-- walked twice by the same definition. The second walk knows what the first one found: which variables need an address,
-- where the globals end, and the numbers of the functions. The library is this project's own.
use Rattle.std.specs.Prelude.{◌≡◌, ℕ, List, [], ◌∷◌, codes, Result, Ok, Err}
use Rattle.c_types.specs.declared.ctype.CType.{CType}
use Rattle.c_types.specs.declared.ctype.Integer.TheVariants as integer
use Rattle.c_types.specs.declared.ctype.Layer.TheVariants as layer
use Rattle.check_scopes.specs.declared.names.Meaning.{Meaning}
use Rattle.check_scopes.specs.declared.names.MeaningKind.TheVariants as kind
use Rattle.check_scopes.specs.Scopes.{Name}
use Rattle.check_types.specs.Shapes as shapes
use Rattle.check_types.specs.Shapes.{over, void}
use Rattle.tick_tree.specs.Faults.{Checked}
use Rattle.tick_tree.specs.declared.fault.Deny.{Deny}
use Rattle.tick_tree.specs.declared.fault.Deny.TheVariants.{Refused, NoMemory}
use Rattle.check_rules.specs.declared.library.LibraryFunction.{LibraryFunction}
use Rattle.check_rules.specs.declared.library.LibraryFunction.TheVariants as library
use Rattle.check_rules.specs.declared.state.State.{State}
use Rattle.check_rules.specs.declared.frame.Frame.{Frame}
use Rattle.check_rules.specs.declared.functions.Functions.{Functions}
use Rattle.check_rules.specs.declared.image.Image.{Image}
use Rattle.check_rules.specs.Frames as frames
use Rattle.check_rules.specs.Functions as functions
use Rattle.check_rules.specs.Images as images
use Rattle.check_rules.specs.Labels as labels
use Rattle.check_rules.specs.Names.{declare}
use Rattle.check_rules.specs.Ticks as ticks
use Rattle.check_rules.specs.Walks.{Rule, ◌>>=◌, pure}

abbrev pub int : CType
int = shapes.integer integer.Int

-- ---- the functions of the library, by their prototypes

abbrev pub name : LibraryFunction → Name
name library.Getchar = codes "getchar"
name library.Putchar = codes "putchar"
name library.Putint = codes "putint"
name library.Malloc = codes "malloc"
name library.Exit = codes "exit"

abbrev pub answer : LibraryFunction → CType
answer library.Getchar = int
answer library.Putchar = int
answer library.Putint = void
answer library.Malloc = over layer.Pointer void
answer library.Exit = void

abbrev pub parameters : LibraryFunction → List CType
parameters library.Getchar = []
parameters library.Putchar = int ∷ []
parameters library.Putint = int ∷ []
parameters library.Malloc = shapes.integer integer.Unsigned ∷ []
parameters library.Exit = int ∷ []

-- its number, by which typed trees call it
abbrev pub number : LibraryFunction → ℕ
number library.Getchar = 0
number library.Putchar = 1
number library.Putint = 2
number library.Malloc = 3
number library.Exit = 4

-- a function of these arguments that answers this
abbrev pub function : CType → List CType → CType
function t list = over (layer.Function list) t

-- what its name means
abbrev pub library_meaning : LibraryFunction → Meaning
library_meaning f = record { kind = kind.Library; ctype = function (answer f) (parameters f); index = number f }

-- one of them more has its name
unfoldable pub add_library : LibraryFunction → Rule State (Unit {0})
add_library f = declare 1 (name f) (library_meaning f)

unfoldable pub add_libraries : List LibraryFunction → Rule State (Unit {0})
add_libraries [] = pure tt
add_libraries (f ∷ fs) = add_library f >>= (λ u. add_libraries fs)

abbrev pub whole_library : List LibraryFunction
whole_library = library.Getchar ∷ library.Putchar ∷ library.Putint ∷ library.Malloc ∷ library.Exit ∷ []

-- the library
abbrev pub libraries : Rule State (Unit {0})
libraries = add_libraries whole_library

-- with no names
abbrev pub empty : State
empty = record {
  scopes = [] ∷ [];
  frame = frames.new;
  ticks = ticks.new;
  labels = labels.new;
  image = images.new;
  functions = functions.new;
}

-- a walk that begins with this state
abbrev pub Begins : Result State Deny → Checked (Unit {0} × State) → Type 0
Begins (Ok s) outcome = outcome ≡ Ok (tt, s)
Begins (Err (Refused f)) outcome = outcome ≡ Err f
Begins (Err NoMemory) outcome = Unit {0}

-- the first walk
unfoldable pub start : Checked (Unit {0} × State)
start = libraries empty

-- the same of the three parts that are kept, the functions begun again already
abbrev pub restarted : Frame → Image → Functions → State
restarted f i all = record {
  scopes = [] ∷ [];
  frame = frames.again f;
  ticks = ticks.new;
  labels = labels.new;
  image = images.again i;
  functions = all;
}

abbrev pub emptied : State → State
emptied s = record {
  scopes = [] ∷ [];
  frame = frames.again s.frame;
  ticks = ticks.new;
  labels = labels.new;
  image = images.again s.image;
  functions = functions.again s.functions;
}

-- the second walk, after the first
unfoldable pub again : State → Checked (Unit {0} × State)
again s = libraries (emptied s)
