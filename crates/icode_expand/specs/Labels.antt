-- How the addresses of labels are kept while a list of ops is expanded, in a table with a word for each label; and how
-- words are written over a part of a list.
use Rattle.std.specs.Prelude.{ℕ, ◌+◌, ◌≡◌, ◌<◌, ◌≤◌, List, ◌++◌, Option, Some, None, length, take, drop, slice_index}
use Rattle.std.specs.Prelude.{slice_set}
use Rattle.icode_ops.specs.Flow.{goes_to, op_at}
use Rattle.icode_ops.specs.declared.op.Op.{Op}
use Rattle.icode_templates.specs.Templates.{Aim, ToLabel, ToEpilogue}

-- the table has the address of each label that an op goes to, which is at most the epilogue's
pub record IsTable (address : Aim → ℕ) (ops : List Op) (labels : List ℕ) (epilogue : ℕ) : Type 0 where
  pub at_labels :
      (p label : ℕ) → goes_to (op_at ops p) ≡ Some label →
      (label < length labels) × (slice_index labels label ≡ address (ToLabel label)) ×
      (slice_index labels label ≤ epilogue)
  pub at_end : epilogue ≡ address ToEpilogue

-- the table with the address of one more label
abbrev pub with_label : Option ℕ → ℕ → List ℕ → List ℕ
with_label None address labels = labels
with_label (Some label) address labels = slice_set labels label address

-- where an op goes that goes to this label, or to none
abbrev pub target_of : Option ℕ → List ℕ → ℕ → ℕ
target_of None labels epilogue = epilogue
target_of (Some label) labels epilogue = slice_index labels label

-- the list d with s written over what stands from this index on
abbrev pub spliced : List ℕ → ℕ → List ℕ → List ℕ
spliced d at_index s = take at_index d ++ (s ++ drop (at_index + length s) d)
