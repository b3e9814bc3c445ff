-- Tables of the ops: for each label the ops that go to it, for each register the ops that define it and the uses that
-- come before a definition in their block. Three slots belong to each op, 3 times its place and the two numbers after
-- it, so that an op may stand in the lists of the two registers that it uses.
use Rattle.std.specs.Prelude.{ℕ, suc, ◌+◌, ◌≡◌, ◌<◌, ◌≤◌, ◌/◌, ◌==◌, ◌||◌, ◌⊎◌, Bool, true, List, [], Option, None}
use Rattle.std.specs.Prelude.{Some, length}
use Rattle.std.specs.Prelude.{slice_index_or, slice_set, nat_le, if◌then◌else◌}
use Rattle.icode_ops.specs.declared.op.Op.{Op}
use Rattle.icode_ops.specs.declared.interval.Interval.{Interval}
use Rattle.icode_ops.specs.Flow.{defines, uses, goes_to, label_of, op_at}
use Rattle.collections.specs.Contents.{with_slot}
use Rattle.icode_ranges.specs.Lists.{In, Each}
use Rattle.icode_ranges.specs.Blocks.{block_of, Exposed}

-- the op defines or uses the register
abbrev pub mentions : ℕ → Op → Bool
mentions v op = defines v op || uses v op

-- the op at one of the first n places mentions v
abbrev pub MentionedAt : List Op → ℕ → ℕ → ℕ → Type 0
MentionedAt ops n v p = (p < n) × (mentions v (op_at ops p) ≡ true)

-- the op at one of the first n places defines v
abbrev pub DefinedAt : List Op → ℕ → ℕ → ℕ → Type 0
DefinedAt ops n v p = (p < n) × (defines v (op_at ops p) ≡ true)

-- the op at one of the first n places uses v, and nothing in its block before it defines v
abbrev pub ExposedAt : List Op → ℕ → ℕ → ℕ → Type 0
ExposedAt ops n v p = (p < n) × Exposed ops v p

-- the op at one of the first n places may go to label l
abbrev pub GoesFrom : List Op → ℕ → ℕ → ℕ → Type 0
GoesFrom ops n l p = (p < n) × (goes_to (op_at ops p) ≡ Some l)

-- the buckets have slots of exactly the places that P joins to them
pub record IsTable (P : ℕ → ℕ → Type 0) (buckets : List (List ℕ)) : Type 0 where
  pub sound : (b : ℕ) → Each (λ slot. P b (slot / 3)) (slice_index_or buckets b [])
  pub complete :
      (b p : ℕ) → b < length buckets → P b p
      → (slot : ℕ) × In slot (slice_index_or buckets b []) × (slot / 3 ≡ p)

-- there is a bucket for each label that stands
abbrev pub KnowsLabels : List Op → ℕ → Type 0
KnowsLabels ops count = (p l : ℕ) → label_of (op_at ops p) ≡ Some l → l < count

-- the buckets with the slot in front of one of them, if one is named
abbrev pub listed : Option ℕ → ℕ → List (List ℕ) → List (List ℕ)
listed None slot buckets = buckets
listed (Some b) slot buckets = with_slot b slot buckets

-- the words with that of the register, if one is named
abbrev pub marked : Option ℕ → ℕ → List ℕ → List ℕ
marked None word words = words
marked (Some v) word words = slice_set words v word

-- the register that is used, if one is and its last definition stands before the block
abbrev pub shown : List ℕ → ℕ → Option ℕ → Option ℕ
shown lasts block None = None
shown lasts block (Some v) = if nat_le (slice_index_or lasts v 0) block then Some v else None

-- the buckets with an op, which has the three slots from `slot` on, under each register whose use shows
abbrev pub with_shown : Option ℕ → Option ℕ → List ℕ → ℕ → ℕ → List (List ℕ) → List (List ℕ)
with_shown first second lasts block slot buckets =
    listed (shown lasts block second) (slot + 2) (listed (shown lasts block first) (slot + 1) buckets)

-- the first places with that of the register, if one is named that has none
abbrev pub with_low : Option ℕ → ℕ → List ℕ → List ℕ → List ℕ
with_low None place lows highs = lows
with_low (Some v) place lows highs =
    if slice_index_or highs v 0 == 0 then slice_set lows v place else lows

-- the blocks of the first n ops
abbrev pub AreBlocks : List Op → ℕ → List ℕ → Type 0
AreBlocks ops n blocks = (p : ℕ) → p < n → slice_index_or blocks p 0 ≡ block_of ops p

-- one more than the last of the first n ops that defines each register, or 0
pub record AreLasts (ops : List Op) (n registers : ℕ) (lasts : List ℕ) : Type 0 where
  pub above : (v p : ℕ) → v < registers → p < n → defines v (op_at ops p) ≡ true → p < slice_index_or lasts v 0
  pub is : (v q : ℕ) → v < registers → slice_index_or lasts v 0 ≡ suc q
      → (q < n) × (defines v (op_at ops q) ≡ true)

-- low is the first and one less than high the last of the places that P joins to v; high is 0 where there are none
abbrev pub Spanned : (ℕ → ℕ → Type 0) → ℕ → ℕ → ℕ → Type 0
Spanned P v low high =
    ((high ≡ 0) × ((p : ℕ) → P v p → ⊥))
    ⊎ ((q : ℕ) × (high ≡ suc q) × P v low × P v q × ((p : ℕ) → P v p → (low ≤ p) × (p ≤ q)))

-- each register's first and last place
abbrev pub AreSpans : (ℕ → ℕ → Type 0) → ℕ → List ℕ → List ℕ → Type 0
AreSpans P registers lows highs =
    (v : ℕ) → v < registers → Spanned P v (slice_index_or lows v 0) (slice_index_or highs v 0)

-- from the first to the last op that mentions the register, if any does
abbrev pub IsSpanOf : List Op → ℕ → Option Interval → Type 0
IsSpanOf ops v None = (p : ℕ) → MentionedAt ops (length ops) v p → ⊥
IsSpanOf ops v (Some x) =
    (x.reg ≡ v) × MentionedAt ops (length ops) v x.start × MentionedAt ops (length ops) v x.end
    × ((p : ℕ) → MentionedAt ops (length ops) v p → (x.start ≤ p) × (p ≤ x.end))
