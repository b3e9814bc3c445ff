-- What is checked after the walk, in this order: each prototype has a function (Undeclared at the first that hasn't);
-- there is a function `main` without parameters that answers int (NoMain); the program isn't TooLarge. Then the typed
-- tree stands. These are this project's own rules.
use Rattle.std.specs.Prelude.{ℕ, ◌+◌, ◌*◌, Bool, true, false, ◌&&◌, ◌==◌, nat_le, if◌then◌else◌, List, [], ◌∷◌, ◌++◌}
use Rattle.std.specs.Prelude.{length, sum_by, codes, Option, Some, None, Ok}
use Rattle.c_types.specs.declared.ctype.Base.{Base}
use Rattle.c_types.specs.declared.ctype.Base.TheVariants as base
use Rattle.c_types.specs.declared.ctype.CType.{CType}
use Rattle.c_types.specs.declared.ctype.Integer.TheVariants as integer
use Rattle.c_types.specs.declared.ctype.Layer.{Layer, out-Layer}
use Rattle.c_types.specs.declared.ctype.Layer.TheOpen.{Layer-F}
use Rattle.check_scopes.specs.declared.names.Meaning.{Meaning}
use Rattle.check_scopes.specs.Scopes.{find}
use Rattle.c_types.specs.Types.{Opened, base_of, layers_of, outermost}
use Rattle.check_forms.specs.Forms.{is_nil}
use Rattle.tick_tree.specs.declared.fault.FaultKind.TheVariants as fault
use Rattle.tick_tree.specs.Faults.{Checked, refuse}
use Rattle.typed_tree.specs.declared.program.Function.{Function}
use Rattle.typed_tree.specs.declared.program.Tick.{Tick}
use Rattle.typed_tree.specs.declared.program.TypedParts.{TypedParts}
use Rattle.check_rules.specs.declared.functions.Prototype.{Prototype}
use Rattle.check_rules.specs.declared.image.Image.{Image}
use Rattle.check_rules.specs.Functions as functions
use Rattle.check_rules.specs.Images as images
use Rattle.check_rules.specs.declared.state.State.{State}
use Rattle.check_globals.specs.Names.{is_function}
use Rattle.limits.specs.declared.program.TheConstants.{CHARGE_LIMIT, FRAME_OBJECT_BYTES, FRONT_WORDS, SIZE_LIMIT}
use Rattle.limits.specs.declared.program.TheConstants.{WORDS_OF_A_BODY, WORDS_OF_A_NODE}
use Rattle.word32.specs.declared.map.TheConstants.{GLOBAL_BYTES}

-- ---- main

abbrev pub is_int : Base → Bool
is_int base.Void = false
is_int (base.Integer integer.Int) = true
is_int (base.Integer _) = false

abbrev pub takes_none_at : Opened → Bool
takes_none_at (Layer-F.Function list) = is_nil list
takes_none_at _ = false

abbrev pub takes_none : Option Layer → Bool
takes_none None = false
takes_none (Some l) = takes_none_at (out-Layer l)

-- a function without parameters that answers int
abbrev pub is_main_type : CType → Bool
is_main_type t = length (layers_of t) == 1 && takes_none (outermost (layers_of t)) && is_int (base_of t)

abbrev pub is_main : Bool → Option Meaning → Bool
is_main is_defined None = false
is_main is_defined (Some m) = is_function m.kind && is_defined && is_main_type m.ctype

abbrev pub has_main : State → Bool
has_main s = is_main (functions.is_defined (codes "main") s.functions) (find s.scopes (codes "main"))

-- ---- limits

-- the words that a function or a tick of so many nodes is charged
abbrev pub charge : ℕ → ℕ
charge size = WORDS_OF_A_NODE * size + WORDS_OF_A_BODY

abbrev pub function_fits : Function → Bool
function_fits f = nat_le f.size SIZE_LIMIT && nat_le f.object FRAME_OBJECT_BYTES

abbrev pub functions_fit : List Function → Bool
functions_fit [] = true
functions_fit (f ∷ fs) = function_fits f && functions_fit fs

abbrev pub tick_fits : Tick → Bool
tick_fits t = nat_le t.size SIZE_LIMIT

abbrev pub ticks_fit : List Tick → Bool
ticks_fit [] = true
ticks_fit (t ∷ ts) = tick_fits t && ticks_fit ts

-- the words that functions and ticks are charged together
abbrev pub charges : List Function → List Tick → ℕ
charges fs ts = FRONT_WORDS + sum_by (λ f. charge f.size) fs + sum_by (λ t. charge t.size) ts

abbrev pub begin_by : Bool → Image → ℕ
begin_by true i = i.end
begin_by false i = i.strings_at

-- where the strings begin, from the first global on: where there are none, the globals end unrounded
abbrev pub strings_begin : Image → ℕ
strings_begin i = begin_by (is_nil i.strings) i

abbrev pub image_fits : Image → Bool
image_fits i = nat_le (strings_begin i + length i.strings) GLOBAL_BYTES

abbrev pub fits : State → Bool
fits s =
    image_fits s.image && functions_fit s.functions.all && ticks_fit s.ticks.all
    && nat_le (charges s.functions.all s.ticks.all) CHARGE_LIMIT

-- ---- the typed tree

-- the bytes of globals and strings
abbrev pub image : Image → List ℕ
image i = images.up_to (strings_begin i) i.globals ++ i.strings

abbrev pub typed : State → TypedParts
typed s = record { functions = s.functions.all; ticks = s.ticks.all; image = image s.image }

abbrev pub finished_by : Option Prototype → State → Checked TypedParts
finished_by None s = if has_main s then (if fits s then Ok (typed s) else refuse fault.TooLarge 1) else
    refuse fault.NoMain 1
finished_by (Some p) s = refuse fault.Undeclared p.line

-- the typed tree of a program after its walk, or the first fault that is found then
unfoldable pub finished : State → Checked TypedParts
finished s = finished_by (functions.undefined s.functions) s
