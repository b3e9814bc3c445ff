-- The words that begin a declaration or a type name:
-- `void`, a `char`, `short`, `long` or `int` that a sign may stand before, `int` behind `short` or `long`, or a sign
-- alone.
use Rattle.std.specs.Prelude.{Bool, true, false, if◌then◌else◌, Option, Some, None, Ok}
use Rattle.tick_tree.specs.declared.base.Base.{Base}
use Rattle.tick_tree.specs.declared.base.Base.TheVariants as b
use Rattle.tick_tree.specs.declared.base.Signedness.{Signedness}
use Rattle.tick_tree.specs.declared.base.Signedness.TheVariants as sign
use Rattle.parse_grammar.specs.declared.kind.Kind.{Kind}
use Rattle.parse_grammar.specs.declared.kind.Kind.TheVariants as k
use Rattle.parse_grammar.specs.declared.kind.BaseWord.TheVariants as w
use Rattle.parse_grammar.specs.Input.{Input, Parser, ◌>>=◌, ◌>>◌, ◌<$>◌, pure, refuse, peek, take_token, kind, next}

unfoldable pub is_base : Kind → Bool
is_base (k.Base word) = true
is_base _ = false

unfoldable pub is_int : Kind → Bool
is_int (k.Base w.Int) = true
is_int _ = false

unfoldable pub is_void : Kind → Bool
is_void (k.Base w.Void) = true
is_void _ = false

-- takes `int`, if it comes next
unfoldable pub eat_int : Parser Bool
eat_int = λ i. Ok (is_int (kind i), if is_int (kind i) then next i else i)

-- the words that a sign may stand before
abbrev pub sized_by : Option Signedness → Kind → Parser Base
sized_by s (k.Base w.Char) = take_token >> pure (b.Char s)
sized_by s (k.Base w.Short) = take_token >> b.Short s <$> eat_int
sized_by s (k.Base w.Long) = take_token >> b.Long s <$> eat_int
sized_by s (k.Base w.Int) = take_token >> pure (b.Int s)
sized_by None _ = refuse
sized_by (Some s) _ = pure (b.Alone s)

unfoldable pub sized : Option Signedness → Parser Base
sized s = peek >>= sized_by s

abbrev pub base_by : Kind → Parser Base
base_by (k.Base w.Void) = take_token >> pure b.Void
base_by (k.Base w.Signed) = take_token >> sized (Some sign.Signed)
base_by (k.Base w.Unsigned) = take_token >> sized (Some sign.Unsigned)
base_by _ = sized None

unfoldable pub base : Parser Base
base = peek >>= base_by
