-- The routine that compiles flushes the words that it wrote, and no others.
use Rattle.std.proofs.Common.{ℕ, Bool, false, ◌||◌, List, [], ◌∷◌, ◌++◌, length, ap}
use Rattle.std.proofs.lemmas.Bool.{false≢true}
use Rattle.icode_ir.specs.declared.build_op.BuildOp.{BuildOp}
use Rattle.mips_model.specs.State.{State}
use Rattle.mips_model.specs.Steps.{going}
use Rattle.mips_model_laws.specs.Clean.{IsUnspoiled}
use Rattle.meaning_state.specs.Rows.{arena_words}
use Rattle.generator_laws.specs.Calls.{Call, Finish, Flush, Publish, RunsWith, issuing}
use Rattle.generator_laws.specs.Served.{AreObeyed}
use Rattle.generator_laws.specs.Covered.{AreCovered}
use Rattle.generator_laws.proofs.Unspoiled.{calls_unspoiled}
use Rattle.compile_routine.specs.Laws.{compile_calls, frame_bytes}

issuing_covered : (has : ℕ → Bool) (ops : List BuildOp) (calls : List Call) → AreCovered has calls
    → AreCovered has (issuing ops ++ calls)
issuing_covered has [] calls h = h
issuing_covered has (op ∷ ops) calls h = (tt, issuing_covered has ops calls h)

abbrev pub none_written : ℕ → Bool
none_written k = false

pub compile_covered : (function address parameters size : ℕ) (ops : List BuildOp) (words : List ℕ)
    → AreCovered none_written (compile_calls function address parameters size ops words)
compile_covered function address parameters size ops words = (
  tt,
  issuing_covered none_written ops (Finish address (arena_words size) (frame_bytes size) words
      ∷ Flush address (length words) ∷ Publish function address parameters ∷ [])
      (tt, ((λ k e. ap (λ (b : Bool). b || false) e), (tt, tt))),
)

-- So a run of it flushes no unwritten word, whatever was written before.
pub compile_unspoiled : (function address parameters size : ℕ) (ops : List BuildOp) (words : List ℕ)
    (count : ℕ) (s after : State)
    → RunsWith (compile_calls function address parameters size ops words) count s after
    → AreObeyed (compile_calls function address parameters size ops words) s.d.outside → IsUnspoiled count (going s)
compile_unspoiled function address parameters size ops words count s after r obeyed =
    calls_unspoiled (compile_calls function address parameters size ops words) none_written count s after r.by
    obeyed (λ k e. absurd (false≢true e)) (compile_covered function address parameters size ops words)
