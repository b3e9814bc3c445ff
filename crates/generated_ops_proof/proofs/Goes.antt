-- Pieces of a tick's body that keep the discipline of the operand stack, name the body's variables and labels alone,
-- and name captures of their kinds; and how often each label stands among them.
use Rattle.std.proofs.Common.{◌≡◌, ℕ, suc, ◌+◌, ◌==◌, Bool, true, List, [], ◌∷◌, ◌++◌, Option, Some, sym, subst, arith}
use Rattle.std.specs.Prelude.{slice_get, if◌then◌else◌}
use Rattle.typed_tree.specs.declared.expression.Answer.TheVariants as answer
use Rattle.typed_tree.specs.declared.expression.CaptureKind.{CaptureKind}
use Rattle.typed_tree.specs.declared.expression.CaptureKind.TheVariants as kind
use Rattle.wellformed.specs.Places.{is_variable, kind_at}
use Rattle.icode_ir.specs.declared.build_op.BuildOp.{BuildOp}
use Rattle.icode_ir.specs.declared.build_op.BuildOp.TheVariants.{Label}
use Rattle.tick_lower_spec.specs.declared.piece.Piece.{Piece}
use Rattle.tick_lower_spec.specs.declared.piece.Piece.TheVariants.{Plain, Captured, GetKey, SetKey, Splice}
use Rattle.generated_ops_proof.proofs.Steps.{Above, Takes, height}

-- a value more, where there is one
abbrev pub rise : Bool → ℕ → ℕ
rise b h = if b then suc h else h

-- a splice of an expression leaves a value
abbrev pub raised : Option CaptureKind → ℕ → ℕ
raised (Some (kind.Splice answer.Value)) h = suc h
raised _ h = h

-- how often a label of the body stands
abbrev pub one_if : Bool → ℕ
one_if b = if b then 1 else 0

abbrev pub mark : ℕ → BuildOp → ℕ
mark i (Label j) = one_if (i == j)
mark i _ = 0

abbrev pub piece_mark : ℕ → Piece → ℕ
piece_mark i (Plain op) = mark i op
piece_mark i _ = 0

abbrev pub times : ℕ → List Piece → ℕ
times i [] = 0
times i (p ∷ ps) = piece_mark i p + times i ps

pub times_both : (i : ℕ) (ps qs : List Piece) → times i (ps ++ qs) ≡ times i ps + times i qs
times_both i [] qs = omega arith
times_both i (p ∷ ps) qs = omega (arith, times_both i ps qs)

-- pieces of a body of n variables and m labels, of a tick that captures these kinds
module _ (k n m : ℕ) (kinds : List CaptureKind) where
  abbrev pub Allows : Piece → ℕ → Type 0
  Allows (Plain op) h = Takes k n m op h
  Allows (GetKey i) h = kind_at is_variable (slice_get kinds i) ≡ true
  Allows (SetKey i) h = Above 1 h × (kind_at is_variable (slice_get kinds i) ≡ true)
  Allows _ h = Unit {0}

  abbrev pub piece_height : Piece → ℕ → ℕ
  piece_height (Plain op) h = height op h
  piece_height (Captured i) h = suc h
  piece_height (GetKey i) h = suc h
  piece_height (Splice i) h = raised (slice_get kinds i) h
  piece_height _ h = h

  abbrev pub Goes : List Piece → (h h' : ℕ) → Type 0
  Goes [] h h' = h ≡ h'
  Goes (p ∷ ps) h h' = Allows p h × Goes ps (piece_height p h) h'

  pub goes_both : (ps qs : List Piece) (h h1 h2 : ℕ) → Goes ps h h1 → Goes qs h1 h2 → Goes (ps ++ qs) h h2
  goes_both [] qs h h1 h2 p q = subst (λ z. Goes qs z h2) (sym p) q
  goes_both (x ∷ ps) qs h h1 h2 p q = (p.0, goes_both ps qs (piece_height x h) h1 h2 p.1 q)
