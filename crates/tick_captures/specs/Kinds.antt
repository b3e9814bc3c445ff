-- Which kind of capture a captured word is. These are this project's own rules.
use Rattle.typed_tree.specs.declared.expression.CaptureKind.{CaptureKind}
use Rattle.typed_tree.specs.declared.expression.CaptureKind.TheVariants as kind
use Rattle.typed_tree.specs.declared.expression.CapturedWord.{CapturedWord}
use Rattle.typed_tree.specs.declared.expression.CapturedWord.TheVariants as word

abbrev pub word_kind : CapturedWord → CaptureKind
word_kind word.Dollar = kind.Dollar
word_kind word.Address = kind.Address
