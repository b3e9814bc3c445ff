-- The ops of a function that is compiled: each names registers that there are, is one whose simulation is proved, and
-- makes no specification.
use Rattle.std.proofs.Common.{◌≡◌, ℕ, zero, suc, ◌+◌, ◌-◌, ◌<◌, ◌≤◌, Bool, true, false, List, [], ◌∷◌, ◌++◌, length}
use Rattle.std.proofs.Common.{drop, Option, Some, None, refl, sym, subst, arith, nat_lt, if◌then◌else◌}
use Rattle.std.proofs.lemmas.List.{length-drop}
use Rattle.std.proofs.lemmas.Bool.Decides.{nat_tests}
use Rattle.limits.specs.declared.program.TheConstants.{MOST_ARGUMENTS}
use Rattle.history.specs.Syntax.{Syntax, Ticked, Captures, NoCapture, Word, Named, Spliced}
use Rattle.icode_ops.specs.declared.op.Op.{Op}
use Rattle.icode_ops.specs.declared.op.Op.TheVariants as op
use Rattle.icode_ops.specs.declared.kind.BinKind.{BinKind}
use Rattle.icode_ops.specs.declared.kind.BinKind.TheVariants as bin
use Rattle.icode_ops.specs.declared.kind.RunKind.TheVariants as run
use Rattle.icode_ops.specs.Flow.{op_at}
use Rattle.icode_ir.specs.declared.build_op.BuildOp.{BuildOp}
use Rattle.icode_ir.specs.declared.build_op.BuildOp.TheVariants as build
use Rattle.icode_ir.specs.Build.{Build, operand, variable, label, arguments, add, pass, finished, find, first_mention}
use Rattle.icode_ir.specs.Build.{mention, mentioned, key_register}
use Rattle.icode_ir.specs.Codes as code
use Rattle.icode_ir.specs.Codes.{first_of}
use Rattle.icode_ir.specs.Rules.{effect, checked}
use Rattle.icode_ir.specs.Sound.{Each}
use Rattle.icode_ir.proofs.Sounds.{Each-append}
use Rattle.icode_expand_proof.specs.Served.{IsServed, is_of_ticks}
use Rattle.tick_lower_spec.specs.Specifications.{capture_at, word_in}
use Rattle.tick_lower_spec.specs.declared.piece.Piece.{Piece}
use Rattle.tick_lower_spec.specs.declared.piece.Piece.TheVariants.{Plain, Captured, GetKey, SetKey, Splice, Nothing}
use Rattle.closures_proof.specs.CapturedWords.{IsOfWords, AreOfWords}
use Rattle.generator_laws.specs.Pieces.{pieces_ops, syntax_ops, spliced_ops, PiecesFit, IsWhole, AreWhole}
use Rattle.generator_laws.specs.Laws.{built_of}
use Rattle.compile_routine.specs.Laws.{return_ops}

-- a captured word
word_small : (captures : Captures) (i : ℕ) → AreOfWords captures → word_in (capture_at captures i) < 4294967296
word_small NoCapture i h = omega arith
word_small (Word word captures) zero h = h.0
word_small (Named key captures) zero h = omega arith
word_small (Spliced syntax captures) zero h = omega arith
word_small (Word word captures) (suc i) h = word_small captures i h.1
word_small (Named key captures) (suc i) h = word_small captures i h
word_small (Spliced syntax captures) (suc i) h = word_small captures i h.1

-- where words are known to be words under a premise
module _ (P : Type 0) where
  pub record IsRunOp (o : Op) : Type 0 where
    pub served : P → IsServed o
    pub plain : is_of_ticks o ≡ false

  -- the builder's ops from which only such ops come
  abbrev pub IsCoded : BuildOp → Type 0
  IsCoded (build.Const word) = P → word < 4294967296
  IsCoded o = code.IsServed o

  -- what a builder has issued
  record HasFine (b : Build) : Type 0 where
    prelude : Each IsRunOp b.prelude
    ops : Each IsRunOp b.ops

  more : (b : Build) (o : Op) → HasFine b → (P → IsServed o) → is_of_ticks o ≡ false → Each IsRunOp (b.ops ++ o ∷ [])
  more b o h served plain = Each-append IsRunOp b.ops (o ∷ []) h.ops (record { served = served; plain = plain }, tt)

  checked_fine : (kind : BinKind) (left right : ℕ) (b : Build) → HasFine b → HasFine (checked kind left right b)
  checked_fine bin.DivideSigned left right b h =
      record { prelude = h.prelude; ops = more b (op.CheckDivision left right) h (λ h. tt) refl }
  checked_fine bin.DivideUnsigned left right b h =
      record { prelude = h.prelude; ops = more b (op.CheckZero right) h (λ h. tt) refl }
  checked_fine bin.RemainderSigned left right b h =
      record { prelude = h.prelude; ops = more b (op.CheckDivision left right) h (λ h. tt) refl }
  checked_fine bin.RemainderUnsigned left right b h =
      record { prelude = h.prelude; ops = more b (op.CheckZero right) h (λ h. tt) refl }
  checked_fine kind left right b h = h

  -- what is passed: eight arguments at most
  arguments_fine : (k : ℕ) (rs : List ℕ) → k + length rs ≤ 8 → Each IsRunOp (arguments k rs)
  arguments_fine k [] le = tt
  arguments_fine k (r ∷ rs) le =
      (record { served = λ h. omega (arith, le); plain = refl }, arguments_fine (k + 1) rs (omega (arith, le)))

  pass_fine : (n : ℕ) (b : Build) → n ≤ MOST_ARGUMENTS → HasFine b → HasFine (pass n b)
  pass_fine n b few h =
      let rs = drop (length b.operands - n) b.operands in
      let long = length-drop (length b.operands - n) b.operands in
      record {
        prelude = h.prelude;
        ops = Each-append IsRunOp b.ops (arguments 0 rs) h.ops (arguments_fine 0 rs (omega (arith, few, long)));
      }

  -- a key is mentioned
  first_fine : (key r : ℕ) → IsRunOp (first_mention key r)
  first_fine key r = by (nat_lt key MOST_ARGUMENTS) refl
    where
      by : (b : Bool) → nat_lt key MOST_ARGUMENTS ≡ b → IsRunOp (if b then op.GetParameter r key else op.Const r 0)
      by true is = let low : key < MOST_ARGUMENTS = grind (arith, nat_tests, is) in
          record { served = λ h. low; plain = refl }
      by false is = record { served = λ h. omega arith; plain = refl }

  mention_fine : (o : Option ℕ) (key : ℕ) (b : Build) → HasFine b → HasFine (mention o key b)
  mention_fine (Some r) key b h = h
  mention_fine None key b h = record {
    prelude = Each-append IsRunOp b.prelude (first_mention key b.registers ∷ []) h.prelude
        (first_fine key b.registers, tt);
    ops = h.ops;
  }

  effect_fine : (o : BuildOp) (b : Build) → IsCoded o → HasFine b → HasFine (effect o b)
  effect_fine (build.Const word) b coded h =
      record { prelude = h.prelude; ops = more b (op.Const b.registers word) h coded refl }
  effect_fine (build.Bin kind) b coded h =
      let c = checked kind (operand 1 b) (operand 0 b) b in
      let g = checked_fine kind (operand 1 b) (operand 0 b) b h in
      record { prelude = g.prelude; ops = more c (op.Bin kind b.registers (operand 1 b) (operand 0 b)) g (λ h. tt) refl }
  effect_fine (build.Un kind) b coded h =
      record { prelude = h.prelude; ops = more b (op.Un kind b.registers (operand 0 b)) h (λ h. tt) refl }
  effect_fine (build.Enter n m) b coded h = record { prelude = h.prelude; ops = h.ops }
  effect_fine build.Leave b coded h = record { prelude = h.prelude; ops = h.ops }
  effect_fine (build.GetVariable i) b coded h =
      record { prelude = h.prelude; ops = more b (op.Move b.registers (variable i b)) h (λ h. tt) refl }
  effect_fine (build.SetVariable i) b coded h =
      record { prelude = h.prelude; ops = more b (op.Move (variable i b) (operand 0 b)) h (λ h. tt) refl }
  effect_fine build.Drop b coded h = record { prelude = h.prelude; ops = h.ops }
  effect_fine (build.Pick i) b coded h = record { prelude = h.prelude; ops = h.ops }
  effect_fine build.Nip b coded h = record { prelude = h.prelude; ops = h.ops }
  effect_fine (build.Label i) b coded h = record { prelude = h.prelude; ops = more b (op.Label (label i b)) h (λ h. tt) refl }
  effect_fine (build.Jump i) b coded h = record { prelude = h.prelude; ops = more b (op.Jump (label i b)) h (λ h. tt) refl }
  effect_fine (build.BranchZero i) b coded h =
      record { prelude = h.prelude; ops = more b (op.BranchZero (operand 0 b) (label i b)) h (λ h. tt) refl }
  effect_fine (build.BranchNonzero i) b coded h =
      record { prelude = h.prelude; ops = more b (op.BranchNonzero (operand 0 b) (label i b)) h (λ h. tt) refl }
  effect_fine build.Return b coded h =
      record { prelude = h.prelude; ops = more b (op.Return (operand 0 b)) h (λ h. tt) refl }
  effect_fine build.ReturnZero b coded h = record { prelude = h.prelude; ops = more b op.ReturnZero h (λ h. tt) refl }
  effect_fine (build.Sys kind) b coded h =
      record { prelude = h.prelude; ops = more b (op.Sys kind b.registers (operand 0 b)) h (λ h. tt) refl }
  effect_fine (build.Load w) b coded h =
      record { prelude = h.prelude; ops = more b (op.Load w b.registers (operand 0 b)) h (λ h. tt) refl }
  effect_fine (build.Store w) b coded h =
      record { prelude = h.prelude; ops = more b (op.Store w (operand 1 b) (operand 0 b)) h (λ h. tt) refl }
  effect_fine (build.Call address n) b coded h =
      let c = pass n b in
      let g = pass_fine n b coded.2 h in
      let called : HasFine (add (op.Call address) c) =
      record { prelude = g.prelude; ops = more c (op.Call address) g (λ h. coded.0) refl } in
      record { prelude = h.prelude; ops = more (add (op.Call address) c) (op.Result b.registers) called (λ h. tt) refl }
  effect_fine (build.CallNumber n) b coded h =
      let c = pass n b in
      let g = pass_fine n b coded h in
      let o = op.CallNumber (operand n b) n in
      let called : HasFine (add o c) = record { prelude = g.prelude; ops = more c o g (λ h. coded) refl } in
      record { prelude = h.prelude; ops = more (add o c) (op.Result b.registers) called (λ h. tt) refl }
  effect_fine (build.Run run.Malloc) b coded h =
      record { prelude = h.prelude; ops = more b (op.Run run.Malloc b.registers (operand 0 b)) h (λ h. tt) refl }
  effect_fine (build.Run _) b coded h = absurd coded
  effect_fine (build.GetSpec key) b coded h =
      let c = mentioned key b in
      let g = mention_fine (find key b.keys) key b h in
      record { prelude = g.prelude; ops = more c (op.Move c.registers (key_register key b)) g (λ h. tt) refl }
  effect_fine (build.SetSpec key) b coded h =
      let c = mentioned key b in
      let g = mention_fine (find key b.keys) key b h in
      record { prelude = g.prelude; ops = more c (op.Move (key_register key b) (operand 0 b)) g (λ h. tt) refl }
  effect_fine _ b coded h = absurd coded

  all_fine : (os : List BuildOp) (b : Build) → Each IsCoded os → HasFine b → HasFine (built_of os b)
  all_fine [] b coded h = h
  all_fine (o ∷ os) b coded h = all_fine os (effect o b) coded.1 (effect_fine o b coded.0 h)

  fine_at : (ops : List Op) (p : ℕ) → Each IsRunOp ops → IsRunOp (op_at ops p)
  fine_at [] p h = record { served = λ h. tt; plain = refl }
  fine_at (o ∷ ops) zero h = h.0
  fine_at (o ∷ ops) (suc p) h = fine_at ops p h.1

  pub finished_fine : (os : List BuildOp) (b : Build) → b.prelude ≡ [] → b.ops ≡ [] → Each IsCoded os → (p : ℕ)
      → IsRunOp (op_at (finished (built_of os b)) p)
  finished_fine os b none empty coded p =
      let h = all_fine os b coded
      (record { prelude = subst (Each IsRunOp) (sym none) tt; ops = subst (Each IsRunOp) (sym empty) tt }) in
      let after : Build = built_of os b in
      fine_at (finished after) p
      (Each-append IsRunOp (after.prelude ++ after.ops) (op.ReturnZero ∷ [])
      (Each-append IsRunOp after.prelude after.ops h.prelude h.ops) (record { served = λ h. tt; plain = refl }, tt))

  -- ---- the ops of a specification

  plain_coded : (o : BuildOp) → code.IsServed o → first_of o < 4294967296 → IsCoded o
  plain_coded (build.Const word) served low = λ h. low
  plain_coded _ served low = served

  pieces_coded : (captures : Captures) (go : ℕ → List BuildOp) (ps : List Piece) → PiecesFit captures ps
      → (P → AreOfWords captures) → ((i : ℕ) → Each IsCoded (go i)) → Each IsCoded (pieces_ops captures go ps)
  pieces_coded captures go [] fit small each = tt
  pieces_coded captures go (Plain o ∷ ps) fit small each =
      (plain_coded o fit.0.0 fit.0.1, pieces_coded captures go ps fit.1 small each)
  pieces_coded captures go (Captured i ∷ ps) fit small each =
      (λ h. word_small captures i (small h), pieces_coded captures go ps fit.1 small each)
  pieces_coded captures go (GetKey i ∷ ps) fit small each = (tt, pieces_coded captures go ps fit.1 small each)
  pieces_coded captures go (SetKey i ∷ ps) fit small each = (tt, pieces_coded captures go ps fit.1 small each)
  pieces_coded captures go (Splice i ∷ ps) fit small each =
      Each-append IsCoded (go i) (pieces_ops captures go ps) (each i) (pieces_coded captures go ps fit.1 small each)
  pieces_coded captures go (Nothing ∷ ps) fit small each = pieces_coded captures go ps fit.1 small each

  module _ (pieces : ℕ → List Piece) (ticks : ℕ) where
    mutual
      syntax_coded : (syntax : Syntax) → IsWhole pieces ticks syntax → (P → IsOfWords syntax)
          → Each IsCoded (syntax_ops pieces syntax)
      syntax_coded (Ticked tick captures) whole small =
          pieces_coded captures (spliced_ops pieces captures) (pieces tick) whole.1 small
          (λ i. splices_coded captures whole.2 small i)

      splices_coded : (captures : Captures) → AreWhole pieces ticks captures → (P → AreOfWords captures) → (i : ℕ)
          → Each IsCoded (spliced_ops pieces captures i)
      splices_coded NoCapture whole small i = tt
      splices_coded (Word word captures) whole small zero = tt
      splices_coded (Named key captures) whole small zero = tt
      splices_coded (Spliced syntax captures) whole small zero = syntax_coded syntax whole.0 (λ h. (small h).0)
      splices_coded (Word word captures) whole small (suc i) = splices_coded captures whole (λ h. (small h).1) i
      splices_coded (Named key captures) whole small (suc i) = splices_coded captures whole small i
      splices_coded (Spliced syntax captures) whole small (suc i) = splices_coded captures whole.1 (λ h. (small h).1) i

    return_coded : (value : Bool) → Each IsCoded (return_ops value)
    return_coded true = (tt, tt)
    return_coded false = tt

    pub function_coded : (value : Bool) (syntax : Syntax) → IsWhole pieces ticks syntax → (P → IsOfWords syntax)
        → Each IsCoded (syntax_ops pieces syntax ++ return_ops value)
    function_coded value syntax whole small =
        Each-append IsCoded (syntax_ops pieces syntax) (return_ops value) (syntax_coded syntax whole small)
        (return_coded value)
