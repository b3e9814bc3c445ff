-- The lowering of a specification: that of its tick's body, with what was captured in the holes. The ops of a captured
-- specification stand where it is spliced in, as a body of their own. These are this project's own definitions, after
-- the code-generating functions of Poletto, Hsieh, Engler and Kaashoek (TOPLAS 21(2), 1999).
use Rattle.std.specs.Prelude.{ℕ, zero, suc, ◌+◌, List, [], ◌∷◌, ◌++◌, Option, Some, None, slice_get}
use Rattle.history.specs.Syntax.{Syntax, Ticked, Captures, NoCapture, Word, Named, Spliced}
use Rattle.icode_ir.specs.declared.build_op.BuildOp.{BuildOp}
use Rattle.icode_ir.specs.declared.build_op.BuildOp.TheVariants as build
use Rattle.staged_meaning.specs.Program.{Tick, OfExpression, OfStatement}
use Rattle.staged_meaning.specs.Size.{labels_in, labels, temps_in, temps, variables_in}
use Rattle.tick_lower_spec.specs.Lower.{Holes, Sink, ops_with, Addresses, expr_into, stmt_into, nowhere}

-- the capture of a number
abbrev pub capture_at : Captures → ℕ → Captures
capture_at NoCapture i = NoCapture
capture_at (Word word captures) zero = Word word NoCapture
capture_at (Named key captures) zero = Named key NoCapture
capture_at (Spliced syntax captures) zero = Spliced syntax NoCapture
capture_at (Word word captures) (suc i) = capture_at captures i
capture_at (Named key captures) (suc i) = capture_at captures i
capture_at (Spliced syntax captures) (suc i) = capture_at captures i

abbrev pub word_in : Captures → ℕ
word_in (Word word captures) = word
word_in _ = 0

abbrev pub key_in_capture : Captures → ℕ
key_in_capture (Named key captures) = key
key_in_capture _ = 0

-- what these captures put into the holes, where the ops of each splice are known
abbrev pub filled : Captures → (splice : ℕ → List BuildOp) → Holes
filled captures splice = record {
  captured = λ i. build.Const (word_in (capture_at captures i)) ∷ [];
  get_key = λ i. build.GetSpec (key_in_capture (capture_at captures i)) ∷ [];
  set_key = λ i. build.SetSpec (key_in_capture (capture_at captures i)) ∷ [];
  splice = splice;
}

-- the lowering of a tick: one body with its variables and labels
abbrev pub tick_into : {A : Type 0} → Sink A → Addresses → Tick → List A
tick_into sink addresses (OfExpression e) =
    sink.op (build.Enter (temps_in e) (labels_in e)) ∷ (expr_into sink addresses e 0 0 ++ sink.op build.Leave ∷ [])
tick_into sink addresses (OfStatement s) =
    sink.op (build.Enter (variables_in s + temps s) (labels s))
    ∷ (stmt_into sink addresses s nowhere 0 (variables_in s) ++ sink.op build.Leave ∷ [])

-- its ops
abbrev pub tick_ops : Holes → Addresses → Option Tick → List BuildOp
tick_ops holes addresses None = []
tick_ops holes addresses (Some tick) = tick_into (ops_with holes) addresses tick

module _ (addresses : Addresses) (ticks : List Tick) where
  abbrev mutual
    pub specification_ops : Syntax → List BuildOp
    specification_ops (Ticked tick captures) =
        tick_ops (filled captures (spliced_ops captures)) addresses (slice_get ticks tick)

    -- those that are spliced in by the capture of a number
    pub spliced_ops : Captures → (capture : ℕ) → List BuildOp
    spliced_ops NoCapture i = []
    spliced_ops (Spliced syntax captures) zero = specification_ops syntax
    spliced_ops (Spliced syntax captures) (suc i) = spliced_ops captures i
    spliced_ops (Word word captures) zero = []
    spliced_ops (Word word captures) (suc i) = spliced_ops captures i
    spliced_ops (Named key captures) zero = []
    spliced_ops (Named key captures) (suc i) = spliced_ops captures i
