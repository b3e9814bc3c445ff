-- What callers need to know of an expansion besides its words: how many words there are at most, and that their number
-- doesn't depend on the addresses of labels.
use Rattle.std.specs.Prelude.{ℕ, ◌≡◌, ◌+◌, ◌*◌, ◌≤◌, Bool, List, length}
use Rattle.icode_ops.specs.declared.op.Op.{Op}
use Rattle.icode_templates.specs.Layout.{Layout}
use Rattle.icode_templates.specs.Templates.{Aim, template}
use Rattle.icode_templates.specs.Expansion.{expansion}

-- a template has at most 16 words, wherever its labels stand
abbrev pub TemplatesAreShort : Type 0
TemplatesAreShort = (layout : Layout) (address : Aim → ℕ) (op : Op) → length (template layout address op) ≤ 16

abbrev pub LengthsAreFixed : Type 0
LengthsAreFixed =
    (layout : Layout) (address other : Aim → ℕ) (op : Op) →
    length (template layout address op) ≡ length (template layout other op)

-- 16 words an op, and 64 for the prologue and the epilogue
abbrev pub WordsAreFew : Type 0
WordsAreFew =
    (ops : List Op) (places : List ℕ) (address frame objects : ℕ) (compiled : Bool) →
    length (expansion ops places address frame objects compiled) ≤ 16 * length ops + 64
