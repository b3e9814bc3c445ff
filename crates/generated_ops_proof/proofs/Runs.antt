-- A builder takes the ops of a body's pieces, one behind another, where it takes those of what is spliced in.
use Rattle.std.proofs.Common.{◌≡◌, ℕ, suc, ◌+◌, ◌-◌, ◌<◌, ◌≤◌, ◌==◌, Bool, true, false, List, [], ◌∷◌, ◌++◌, length}
use Rattle.std.proofs.Common.{refl, sym, ap, ◌∙◌, subst, arith}
use Rattle.std.specs.Prelude.{◌||◌, slice_get, slice_index_or}
use Rattle.std.proofs.lemmas.Bool.Decides.{nat_tests}
use Rattle.history.specs.Syntax.{Captures}
use Rattle.typed_tree.specs.declared.expression.CaptureKind.{CaptureKind}
use Rattle.wellformed.specs.Places.{is_variable, kind_at}
use Rattle.wellformed.proofs.Bools.{same_number}
use Rattle.icode_ir.specs.declared.body.Body.{Body}
use Rattle.icode_ir.specs.declared.build_op.BuildOp.{BuildOp}
use Rattle.icode_ir.specs.declared.build_op.BuildOp.TheVariants.{Const, Bin, Un, Enter, Leave, GetVariable, SetVariable}
use Rattle.icode_ir.specs.declared.build_op.BuildOp.TheVariants.{Drop, Pick, Nip, Load, Store, Label, Jump, BranchZero}
use Rattle.icode_ir.specs.declared.build_op.BuildOp.TheVariants.{BranchNonzero, Call, CallNumber, Return, ReturnZero}
use Rattle.icode_ir.specs.declared.build_op.BuildOp.TheVariants.{GetSpec, SetSpec, Sys, Run, FrameAddress, Clear, New}
use Rattle.icode_ir.specs.declared.build_op.BuildOp.TheVariants.{Put, Parameter}
use Rattle.icode_ir.specs.Build.{Build, no_body, innermost, label, stands}
use Rattle.icode_ir.specs.Rules.{is_key, effect}
use Rattle.tick_lower_spec.specs.declared.piece.Piece.{Piece}
use Rattle.tick_lower_spec.specs.declared.piece.Piece.TheVariants.{Plain, Captured, GetKey, SetKey, Splice, Nothing}
use Rattle.generator_laws.specs.Laws.{AreTaken, built_of}
use Rattle.generator_laws.specs.Pieces.{capture_at, word_in, key_in_capture, piece_ops, pieces_ops}
use Rattle.generated_ops_proof.specs.Laws.{OwnsLabels}
use Rattle.generated_ops_proof.specs.Room.{HasRoom, more_operands}
use Rattle.generated_ops_proof.proofs.Steps.{less, Takes, IsFresh, Step, height, step, less_is, above_is}
use Rattle.generated_ops_proof.proofs.Rooms.{Grown, room_front, room_behind, grown_both, grown_none}
use Rattle.generated_ops_proof.proofs.Goes.{one_if, mark, piece_mark, times, raised, Allows, piece_height, Goes}

-- ---- lists of ops

pub taken_both : (xs ys : List BuildOp) (b : Build) → AreTaken xs b → AreTaken ys (built_of xs b)
    → AreTaken (xs ++ ys) b
taken_both [] ys b p q = q
taken_both (x ∷ xs) ys b p q = (p.0, taken_both xs ys (effect x b) p.1 q)

pub built_both : (xs ys : List BuildOp) (b : Build) → built_of (xs ++ ys) b ≡ built_of ys (built_of xs b)
built_both [] ys b = refl
built_both (x ∷ xs) ys b = built_both xs ys (effect x b)

-- what a builder makes of ops that are whole: it takes them, their bodies are left, and no label of another body stands
-- that didn't
pub record Built (g : ℕ → ℕ) (ops : List BuildOp) (b : Build) : Type 0 where
  pub taken : AreTaken ops b
  pub height : length (built_of ops b).operands ≡ g (length b.operands)
  pub bodies : (built_of ops b).bodies ≡ b.bodies
  pub parameters : (built_of ops b).parameters ≡ b.parameters
  pub more : b.labels ≤ (built_of ops b).labels
  pub kept : (z : ℕ) → z < b.labels → stands z (built_of ops b).ops ≡ stands z b.ops
  pub none : OwnsLabels (built_of ops b)
  pub grown : Grown ops b (built_of ops b)

-- ---- a step more

two_few : (h : ℕ) → 2 ≤ h → suc (less (less h)) ≤ h + 0
two_few h high = omega (arith, high, less_is h, less_is (less h))

one_few : (h : ℕ) → 1 ≤ h → suc (less h) ≤ h + 0
one_few h high = omega (arith, high, less_is h)

less_few : (h : ℕ) → less h ≤ h + 0
less_few h = omega (arith, less_is h)

height_few : (k n m : ℕ) (o : BuildOp) (h : ℕ) → Takes k n m o h → height o h ≤ h + more_operands o
height_few k n m (Const word) h t = omega arith
height_few k n m (Bin kind) h t = two_few h (above_is 2 h t)
height_few k n m (Un kind) h t = one_few h (above_is 1 h t)
height_few k n m (Enter i j) h t = absurd t
height_few k n m Leave h t = absurd t
height_few k n m (GetVariable i) h t = omega arith
height_few k n m (SetVariable i) h t = omega arith
height_few k n m Drop h t = less_few h
height_few k n m (Pick i) h t = omega arith
height_few k n m Nip h t = two_few h (above_is 2 h t)
height_few k n m (Load width) h t = one_few h (above_is 1 h t)
height_few k n m (Store width) h t = two_few h (above_is 2 h t)
height_few k n m (Label i) h t = omega arith
height_few k n m (Jump i) h t = omega arith
height_few k n m (BranchZero i) h t = less_few h
height_few k n m (BranchNonzero i) h t = less_few h
height_few k n m (Call address j) h t = omega arith
height_few k n m (CallNumber j) h t = omega (arith, t)
height_few k n m Return h t = less_few h
height_few k n m ReturnZero h t = omega arith
height_few k n m (GetSpec key) h t = omega arith
height_few k n m (SetSpec key) h t = omega arith
height_few k n m (Sys kind) h t = one_few h (above_is 1 h t)
height_few k n m (Run routine) h t = one_few h (above_is 1 h t)
height_few k n m (FrameAddress offset) h t = omega arith
height_few k n m (Clear offset words) h t = omega arith
height_few k n m (New address kind captures) h t = absurd t
height_few k n m (Put i) h t = absurd t
height_few k n m (Parameter j) h t = omega arith

grown_step : (k n m : ℕ) (o : BuildOp) (b : Build) → Takes k n m o (length b.operands) → Step o b
    → Grown (o ∷ []) b (effect o b)
grown_step k n m o b t s = record {
  ops = omega (arith, s.ops);
  operands = omega (arith, s.height, height_few k n m o (length b.operands) t);
  bodies = omega (arith, ap length s.bodies);
  variables = omega (arith, s.variables);
  labels = omega (arith, s.labels);
}

-- ---- labels

same_shift : (f i j : ℕ) → (f + i == f + j) ≡ (i == j)
same_shift f i j = grind (arith, nat_tests)

other : (z f i : ℕ) → z < f → (z == f + i) ≡ false
other z f i low = grind (arith, nat_tests)

or_none : (b : Bool) → (b || false) ≡ b
or_none true = refl
or_none false = refl

marked : (s e : Bool) → (e ≡ true → s ≡ false) → one_if (s || e) ≡ one_if e + one_if s
marked true true f = absurd (let no : true ≡ false = f refl in cc)
marked true false f = refl
marked false true f = refl
marked false false f = refl

-- ---- a body

-- the body that was entered last
abbrev pub last_of : List Body → Body
last_of bodies = slice_index_or bodies (length bodies - 1) no_body

module _ (k n m f : ℕ) (bodies : List Body) (en : (last_of bodies).variables ≡ n) (em : (last_of bodies).labels ≡ m)
    (ef : (last_of bodies).first_label ≡ f) where
  -- a builder in this body
  pub record At (b : Build) : Type 0 where
    pub there : b.bodies ≡ bodies
    pub parameters : b.parameters ≡ k
    pub low : f + m ≤ b.labels
    pub none : OwnsLabels b

  -- what one piece does, with these ops, which add so many operands and mark these labels
  pub record Passed (mark : ℕ → ℕ) (h : ℕ) (ops : List BuildOp) (b : Build) : Type 0 where
    pub taken : AreTaken ops b
    pub height : length (built_of ops b).operands ≡ h
    pub at : At (built_of ops b)
    pub more : b.labels ≤ (built_of ops b).labels
    pub kept : (z : ℕ) → z < f → stands z (built_of ops b).ops ≡ stands z b.ops
    pub marks : (i : ℕ) → i < m → one_if (stands (f + i) (built_of ops b).ops) ≡ mark i + one_if (stands (f + i) b.ops)
    pub grown : Grown ops b (built_of ops b)

  label_at : (b : Build) → At b → (i : ℕ) → label i b ≡ f + i
  label_at b a i = ap (λ z. (last_of z).first_label + i) a.there ∙ ap (λ z. z + i) ef

  at_step : (o : BuildOp) (b : Build) → At b → Step o b → ((z : ℕ) → b.labels ≤ z → stands z (effect o b).ops ≡ false)
      → At (effect o b)
  at_step o b a s none = record {
    there = s.bodies ∙ a.there;
    parameters = s.parameters ∙ a.parameters;
    low = omega (arith, a.low, s.labels);
    none = λ z high. none z (omega (arith, high, s.labels));
  }

  -- an op that marks no label
  unmarked : (o : BuildOp) (b : Build) → At b → Takes k n m o (length b.operands) → Step o b
      → ((z : ℕ) → stands z (effect o b).ops ≡ stands z b.ops)
      → Passed (λ i. 0) (height o (length b.operands)) (o ∷ []) b
  unmarked o b a t s same = record {
    taken = (s.fault, tt);
    height = s.height;
    at = at_step o b a s (λ z high. same z ∙ a.none z high);
    more = omega (arith, s.labels);
    kept = λ z low. same z;
    marks = λ i low. omega (arith, ap one_if (same (f + i)));
    grown = grown_step k n m o b t s;
  }

  labelled : (j : ℕ) (b : Build) → At b → j < m → stands (f + j) b.ops ≡ false → Step (Label j) b
      → Passed (λ i. one_if (i == j)) (length b.operands) (Label j ∷ []) b
  labelled j b a low fresh s =
      let at : label j b ≡ f + j = label_at b a j in
      let stood : (z : ℕ) → stands z (effect (Label j) b).ops ≡ (stands z b.ops || (z == f + j)) =
      λ z. s.stood z ∙ ap (λ w. stands z b.ops || (z == w)) at in record {
        taken = (s.fault, tt);
        height = s.height;
        at = at_step (Label j) b a s (λ z high.
            stood z ∙ (ap (λ w. w || (z == f + j)) (a.none z high)
            ∙ (let apart : (z == f + j) ≡ false = higher z (omega (arith, high, a.low, low)) in apart)));
        more = omega (arith, s.labels);
        kept = λ z less. stood z ∙ (ap (λ w. stands z b.ops || w) (other z f j less) ∙ or_none (stands z b.ops));
        marks = λ i is.
            ap one_if (stood (f + i) ∙ ap (λ w. stands (f + i) b.ops || w) (same_shift f i j))
            ∙ marked (stands (f + i) b.ops) (i == j)
            (λ e. let same : i ≡ j = grind (arith, nat_tests) in ap (λ w. stands (f + w) b.ops) same ∙ fresh);
        grown = grown_step k n m (Label j) b low s;
      }
    where
      higher : (z : ℕ) → f + j < z → (z == f + j) ≡ false
      higher z above = grind (arith, nat_tests)

  -- an op of a body that is no label
  abbrev IsNoLabel : BuildOp → Type 0
  IsNoLabel (Label i) = ⊥
  IsNoLabel _ = Unit {0}

  same_of : (o : BuildOp) (b : Build) → IsNoLabel o → Step o b → (z : ℕ) → stands z (effect o b).ops ≡ stands z b.ops
  same_of (Label i) b plain s z = absurd plain
  same_of (Const word) b plain s z = s.stood z
  same_of (Bin kind) b plain s z = s.stood z
  same_of _ b plain s z = s.stood z

  fresh_of : (o : BuildOp) (b : Build) → IsNoLabel o → IsFresh o b
  fresh_of (Label i) b plain = absurd plain
  fresh_of _ b plain = tt

  inner_n : (b : Build) → At b → (innermost b).variables ≡ n
  inner_n b a = ap (λ z. (last_of z).variables) a.there ∙ en

  inner_m : (b : Build) → At b → (innermost b).labels ≡ m
  inner_m b a = ap (λ z. (last_of z).labels) a.there ∙ em

  -- it is taken where there is room
  plain_passes : (o : BuildOp) (rest : List BuildOp) (b : Build) → IsNoLabel o → At b
      → Takes k n m o (length b.operands)
      → HasRoom (o ∷ rest) b → Passed (λ i. 0) (height o (length b.operands)) (o ∷ []) b
  plain_passes o rest b plain a t r =
      let s = step k n m b a.parameters (inner_n b a) (inner_m b a) rest o t (fresh_of o b plain) r in
      unmarked o b a t s (same_of o b plain s)

  label_passes : (j : ℕ) (rest : List BuildOp) (b : Build) → At b → j < m → stands (f + j) b.ops ≡ false
      → HasRoom (Label j ∷ rest) b → Passed (λ i. one_if (i == j)) (length b.operands) (Label j ∷ []) b
  label_passes j rest b a low fresh r =
      let there : stands (label j b) b.ops ≡ false = ap (λ z. stands z b.ops) (label_at b a j) ∙ fresh in
      labelled j b a low fresh (step k n m b a.parameters (inner_n b a) (inner_m b a) rest (Label j) low there r)

  -- each label of the body stands already, or is still to come, and once
  abbrev pub Owed : List Piece → Build → Type 0
  Owed ps b = (i : ℕ) → i < m → times i ps + one_if (stands (f + i) b.ops) ≡ 1

  no_one : (b : Bool) → one_if b ≡ 0 → b ≡ false
  no_one true e = absurd (omega (arith, e))
  no_one false e = refl

  one_is : (b : Bool) → one_if b ≡ 1 → b ≡ true
  one_is true e = refl
  one_is false e = absurd (omega (arith, e))

  module _ (kinds : List CaptureKind) (captures : Captures) (splice : ℕ → List BuildOp) (splices : (i : ℕ) (b : Build)
      → b.parameters ≡ k → OwnsLabels b → HasRoom (splice i) b → Built (raised (slice_get kinds i)) (splice i) b)
      (keys : (i : ℕ) → kind_at is_variable (slice_get kinds i) ≡ true
      → is_key k (key_in_capture (capture_at captures i)) ≡ true) where
    op_passes : (o : BuildOp) (rest : List BuildOp) (ps : List Piece) (b : Build) → At b
        → Takes k n m o (length b.operands) → Owed (Plain o ∷ ps) b → HasRoom (o ∷ rest) b
        → Passed (λ i. mark i o) (height o (length b.operands)) (o ∷ []) b
    op_passes (Label j) rest ps b a t owed r =
        let once : one_if (j == j) ≡ 1 = ap one_if (same_number j) in
        label_passes j rest b a t (no_one (stands (f + j) b.ops) (omega (arith, owed j t, once))) r
    op_passes (Const word) rest ps b a t owed r = plain_passes (Const word) rest b tt a t r
    op_passes (Bin kind) rest ps b a t owed r = plain_passes (Bin kind) rest b tt a t r
    op_passes o rest ps b a t owed r = plain_passes o rest b tt a t r

    splice_passes : (j : ℕ) (rest : List BuildOp) (b : Build) → At b → HasRoom (splice j ++ rest) b
        → Passed (λ i. 0) (raised (slice_get kinds j) (length b.operands)) (splice j) b
    splice_passes j rest b a r =
        let q = splices j b a.parameters a.none (room_front (splice j) rest b r) in record {
          taken = q.taken;
          height = q.height;
          at = record {
            there = q.bodies ∙ a.there;
            parameters = q.parameters ∙ a.parameters;
            low = omega (arith, a.low, q.more);
            none = q.none;
          };
          more = q.more;
          kept = λ z low. q.kept z (omega (arith, low, a.low));
          marks = λ i low. omega (arith, ap one_if (q.kept (f + i) (omega (arith, low, a.low))));
          grown = q.grown;
        }

    nothing_passes : (b : Build) → At b → Passed (λ i. 0) (length b.operands) [] b
    nothing_passes b a = record {
      taken = tt;
      height = refl;
      at = a;
      more = omega arith;
      kept = λ z low. refl;
      marks = λ i low. omega arith;
      grown = grown_none b;
    }

    passes : (p : Piece) (ps : List Piece) (b : Build) → At b → Allows k n m kinds p (length b.operands)
        → Owed (p ∷ ps) b → HasRoom (piece_ops captures splice p ++ pieces_ops captures splice ps) b
        → Passed (λ i. piece_mark i p) (piece_height k n m kinds p (length b.operands)) (piece_ops captures splice p) b
    passes (Plain o) ps b a t owed r = op_passes o (pieces_ops captures splice ps) ps b a t owed r
    passes (Captured i) ps b a t owed r =
        plain_passes (Const (word_in (capture_at captures i))) (pieces_ops captures splice ps) b tt a tt r
    passes (GetKey i) ps b a t owed r =
        plain_passes (GetSpec (key_in_capture (capture_at captures i))) (pieces_ops captures splice ps) b tt a
        (keys i t) r
    passes (SetKey i) ps b a t owed r =
        plain_passes (SetSpec (key_in_capture (capture_at captures i))) (pieces_ops captures splice ps) b tt a
        (t.0, keys i t.1) r
    passes (Splice i) ps b a t owed r = splice_passes i (pieces_ops captures splice ps) b a r
    passes Nothing ps b a t owed r = nothing_passes b a

    -- all of them: then each label of the body stands
    pub record Ran (h : ℕ) (ops : List BuildOp) (b : Build) : Type 0 where
      pub taken : AreTaken ops b
      pub height : length (built_of ops b).operands ≡ h
      pub at : At (built_of ops b)
      pub more : b.labels ≤ (built_of ops b).labels
      pub kept : (z : ℕ) → z < f → stands z (built_of ops b).ops ≡ stands z b.ops
      pub all : (i : ℕ) → i < m → stands (f + i) (built_of ops b).ops ≡ true
      pub grown : Grown ops b (built_of ops b)

    pub run : (ps : List Piece) (h : ℕ) (b : Build) → At b → Goes k n m kinds ps (length b.operands) h → Owed ps b
        → HasRoom (pieces_ops captures splice ps) b → Ran h (pieces_ops captures splice ps) b
    run [] h b a goes owed r = record {
      taken = tt;
      height = goes;
      at = a;
      more = omega arith;
      kept = λ z low. refl;
      all = λ i low. one_is (stands (f + i) b.ops) (omega (arith, owed i low));
      grown = grown_none b;
    }
    run (p ∷ ps) h b a goes owed r =
        let xs : List BuildOp = piece_ops captures splice p in
        let ys : List BuildOp = pieces_ops captures splice ps in
        let q = passes p ps b a goes.0 owed r in
        let mid : Build = built_of xs b in
        let w = run ps h mid q.at
        (subst (λ z. Goes k n m kinds ps z h) (sym q.height) goes.1)
        (λ i low. omega (arith, owed i low, q.marks i low))
        (room_behind xs ys b mid r q.grown) in
        let after : Build = built_of ys mid in
        let whole : built_of (xs ++ ys) b ≡ after = built_both xs ys b in record {
          taken = taken_both xs ys b q.taken w.taken;
          height = ap (λ z. length z.operands) whole ∙ w.height;
          at = subst (λ z. At z) (sym whole) w.at;
          more = omega (arith, q.more, w.more, ap (λ z. z.labels) whole);
          kept = λ z low. ap (λ x. stands z x.ops) whole ∙ (w.kept z low ∙ q.kept z low);
          all = λ i low. ap (λ x. stands (f + i) x.ops) whole ∙ w.all i low;
          grown = subst (λ z. Grown (xs ++ ys) b z) (sym whole) (grown_both xs ys b mid after q.grown w.grown);
        }
