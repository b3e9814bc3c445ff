-- Every op of a tick, behind Run Begin, as the staged machine has it.
use Rattle.std.proofs.Common.{◌≡◌, inl, inr, ℕ, suc, ◌+◌, ◌<◌, ◌≤◌, Bool, true, false, ◌&&◌, if◌then◌else◌, List}
use Rattle.std.proofs.Common.{[], ◌∷◌, ◌++◌, length, Option, Some, None, refl, sym, ap, subst, arith, slice_get}
use Rattle.std.proofs.Common.{nat_eq, nat_lt, max}
use Rattle.std.proofs.lemmas.Bool.{cases_Bool, and_parts}
use Rattle.std.proofs.lemmas.Bool.Decides.{nat_tests}
use Rattle.host_edge.specs.declared.ending.TrapKind.{TrapKind}
use Rattle.host_edge.specs.declared.ending.TrapKind.TheVariants.{BadSpec}
use Rattle.mips_model.specs.State as machine
use Rattle.mips_model.specs.State.{Data}
use Rattle.mips_model.specs.Laws.{at}
use Rattle.meaning_state.specs.Shared.{Shared, Specification, Expression, Statement, Local, Param}
use Rattle.meaning_state.specs.Rows.{closure_trap, size_trap, next_number, specification_at, parameters_of}
use Rattle.staged_meaning.specs.Program.{syntax_size}
use Rattle.staged_meaning.specs.Specifications.{fits, captures_trap}
use Rattle.icode_ops.specs.declared.op.Op.{Op}
use Rattle.icode_ops.specs.declared.op.Op.TheVariants.{Run, New, Put}
use Rattle.icode_ops.specs.declared.op.Op.TheVariants as op
use Rattle.icode_ops.specs.declared.kind.RunKind.TheVariants as run
use Rattle.icode_ops.specs.declared.kind.ClosureKind.{ClosureKind}
use Rattle.icode_ops.specs.declared.kind.ClosureKind.TheVariants as closure
use Rattle.icode_meaning.specs.State as staged
use Rattle.icode_meaning.specs.State.{Function, Program, Frame, Log, State, Running, Zeroing, Making, Compiling, Halted}
use Rattle.icode_meaning.specs.State.{Stuck, nothing}
use Rattle.icode_meaning.specs.Steps.{uses_on, paid, set, moved_on, unless, size_in, parameters_in, adds, syntax_of}
use Rattle.icode_meaning.specs.Steps.{is_right, filled, news, makes, making}
use Rattle.icode_templates_proof.specs.Routines.{Named, AnExpression, AStatement, AVariable}
use Rattle.icode_expand_proof.specs.Relation.{Holds, Pays, LooksLike}
use Rattle.icode_expand_proof.proofs.Paying.{stuck_pays}
use Rattle.icode_expand_proof.specs.Settings.{Setting, places_of, Standing}
use Rattle.icode_expand_proof.specs.Standing.{op_stands_at}
use Rattle.closures_proof.specs.Ops.{check_of}
use Rattle.closures_proof.specs.OpLaws.{CheckIsCalled, CheckOpTraps, NewIsCalled, NewOpTraps, PutIsDone}
use Rattle.closures_proof.specs.Relation.{HasSpecifications}
use Rattle.closures_proof.specs.Laws.{ChecksAgree, SpecificationsStayWithSums, RowsAreThere, TicksStandFor}
use Rattle.closures_proof.specs.Laws.{kind_of_tick}
use Rattle.closures_proof.specs.Ticks.{HasRoutines}
use Rattle.icode_run_proof.specs.Making.{Filling, DraftAgrees}
use Rattle.icode_run_proof.specs.Steps.{kind_named, row_size, row_parameters, Unless}
use Rattle.icode_meaning.specs.Steps.{is_none, is_kind}
use Rattle.icode_run_proof.proofs.Steps.{left_as_it_is}
use Rattle.icode_run_proof.proofs.PutPays.{PaysTo, put_pays}
use Rattle.icode_run_proof.proofs.CheckPays.{more, check_step}
use Rattle.icode_run_proof.proofs.NewStep.{new_step}
use Rattle.icode_run_proof.proofs.Filled.{IsRight, pays_told, pays_there}
use Rattle.icode_run_proof.proofs.Steps.{history_with}
use Rattle.icode_run_proof.specs.Ticking.{AreTicks, PartAgrees, draft_of, head_of, is_value}
use Rattle.icode_run_proof.specs.Relation.{Base, text_of, ticks_of}

-- what the machine does of an op, for the states that it comes to
abbrev pub PaysState : Base → Setting → Log → machine.State → State → Type 0
PaysState b s log from (Making draft w waiting log') =
    PaysTo s w waiting log' log from (PartAgrees (ticks_of b) draft log'.shared)
PaysState b s log from (Running w arguments answer waiting log') =
    (arguments ≡ nothing) × (answer ≡ None)
    × PaysTo s w waiting log' log from (HasSpecifications (text_of b) log'.shared)
PaysState b s log from (Halted end log') = Pays s (Halted end log') log from
PaysState b s log from (Stuck log') = Pays s (Stuck log') log from
PaysState b s log from (Zeroing more address w waiting log') = ⊥
PaysState b s log from (Compiling more syntax to w waiting log') = ⊥

pub unless_pays : (b : Base) (s : Setting) (log log' : Log) (from : machine.State) (t : Option TrapKind) (A : Type 0)
    (state : State) → (A → PaysState b s log from state)
    → Unless s t log' log from A → PaysState b s log from (unless t log' state)
unless_pays b s log log' from None A state g u = g u
unless_pays b s log log' from (Some kind) A state g u = u

same_size : (p : Program) (row : Option Specification) → size_in p row ≡ row_size p.source row
same_size p None = refl
same_size p (Some (Expression syntax)) = refl
same_size p (Some (Statement syntax)) = refl
same_size p (Some Local) = refl
same_size p (Some (Param index)) = refl

same_parameters : (row : Option Specification) → parameters_in row ≡ row_parameters row
same_parameters None = refl
same_parameters (Some (Expression syntax)) = refl
same_parameters (Some (Statement syntax)) = refl
same_parameters (Some Local) = refl
same_parameters (Some (Param index)) = refl

-- ---- what the tests say

none_is : {A : Type 0} (o : Option A) → is_none o ≡ true → o ≡ None
none_is None e = refl
none_is (Some x) e = absurd cc

same_is : (a c : ℕ) → nat_eq a c ≡ true → a ≡ c
same_is a c t = grind (arith, nat_tests, t)

kind_is : (kind : ClosureKind) (value : Bool) → is_kind kind value ≡ true → kind ≡ kind_of_tick value
kind_is closure.Expression true e = refl
kind_is closure.Expression false e = absurd cc
kind_is closure.Statement true e = absurd cc
kind_is closure.Statement false e = refl

longer : (words : List ℕ) (x : ℕ) → length (words ++ x ∷ []) ≡ suc (length words)
longer [] x = refl
longer (y ∷ words) x = ap suc (longer words x)

right : (b : Base) → AreTicks (ticks_of b) → (tick size parameters : ℕ) (words : List ℕ) (shared : Shared)
    → length (b.program.kinds tick) ≡ length words → is_right b.program tick size parameters words shared ≡ true
    → IsRight (text_of b) tick (b.program.kinds tick) words shared (b.generator_at tick)
    (kind_of_tick (is_value (ticks_of b) tick)) size parameters
right b are tick size parameters words shared count e =
    let syntax = syntax_of b.program tick words shared in
    let c = nat_eq parameters (parameters_of syntax) in
    let n = nat_eq size (syntax_size b.program.source syntax) in
    let trap = captures_trap shared.specifications (b.program.kinds tick) words in
    let p = and_parts (is_none trap && n) c e in
    let q = and_parts (is_none trap) n p.0 in
    record {
      fit = none_is trap q.0;
      count = count;
      address_is = refl;
      low = are.low tick;
      kind_is = refl;
      size_is = same_is size (syntax_size b.program.source syntax) q.1;
      parameters_is = same_is parameters (parameters_of syntax) p.1;
    }

-- ---- the laws that the steps stand on

pub record Laws : Type 0 where
  pub agree : ChecksAgree
  pub check : CheckIsCalled
  pub no_check : CheckOpTraps
  pub sums : SpecificationsStayWithSums
  pub rows : RowsAreThere
  pub new : NewIsCalled
  pub no_new : NewOpTraps
  pub put : PutIsDone
  pub stand : TicksStandFor

-- what is stuck behind an op
stuck_behind : (s : Setting) (w : Frame) (waiting : List Frame) (log1 log : Log) (from : machine.State)
    (A : Data → Type 0) → PaysTo s w waiting log1 log from A → Pays s (Stuck log1) log from
stuck_behind s w waiting log1 log from A p = record {
  count = p.count;
  low = p.low;
  high = p.high;
  related = subst (LooksLike s (Stuck log1)) (sym p.is) (record {
    ending = refl;
    history = history_with s p.holds.memory.history;
    code = refl;
    making = record { making = p.holds.memory.making.making; flushes = p.holds.memory.making.flushes };
    fair = tt;
  });
}

-- behind New, or behind a word: the closure has them all, or it still gets one
fills_pay : Laws → (b : Base) → AreTicks (ticks_of b) → (s : Setting) → Standing s → (w : Frame) (waiting : List Frame)
    (log1 log : Log) (from : machine.State) (tick size parameters : ℕ) (words : List ℕ)
    → length words ≤ length (b.program.kinds tick)
    → PaysTo s w waiting log1 log from
    (DraftAgrees (text_of b) (draft_of (ticks_of b) (staged.Filling tick size parameters words)) log1.shared)
    → PaysState b s log from (filled b.program tick size parameters words w waiting log1)
fills_pay laws b are s st w waiting log1 log from tick size parameters words le p =
    elim (cases_Bool (nat_eq (length words) (length (b.program.kinds tick)))) [
      | inl t ↦ (let count = same_is (length words) (length (b.program.kinds tick)) t in
          elim (cases_Bool (is_right b.program tick size parameters words log1.shared)) [
            | inl r ↦ (let head = head_of (b.generator_at tick) (kind_of_tick (is_value (ticks_of b) tick)) size
                parameters in
                let q = subst (λ n. PaysTo s w waiting log1 log from
                (DraftAgrees (text_of b) (Filling head n words) log1.shared)) (sym count) p in
                rw (t, r) (
                  refl,
                  refl,
                  pays_there laws.stand s st w waiting log1 log from (text_of b) tick (b.program.kinds tick)
                      words
                      (b.generator_at tick) (kind_of_tick (is_value (ticks_of b) tick)) size parameters
                      (right b are tick size parameters words log1.shared (sym count) r) q,
                ))
            | inr r ↦ rw (t, r) (stuck_behind s w waiting log1 log from
                (DraftAgrees (text_of b) (draft_of (ticks_of b) (staged.Filling tick size parameters words))
                log1.shared) p)
          ])
      | inr t ↦ (let ne : length words < length (b.program.kinds tick) = grind (arith, nat_tests, t, le) in
          rw t
          (pays_told s st w waiting log1 log1 log from
          (DraftAgrees (text_of b) (draft_of (ticks_of b) (staged.Filling tick size parameters words)) log1.shared)
          (PartAgrees (ticks_of b) (staged.Filling tick size parameters words) log1.shared) (left_as_it_is log1.shared)
          refl refl refl refl
          (λ e a. record { agrees = a; short = ne }) p))
    ]

module _ (laws : Laws) (b : Base) (are : AreTicks (ticks_of b)) (s : Setting) (st : Standing s)
    (routines : HasRoutines s.code)
    (w : Frame) (arguments : ℕ → Option ℕ) (answer : Option ℕ) (waiting : List Frame) (log : Log) (d : Data)
    (h : Holds s w arguments answer waiting log d) where
  abbrev f : Function
  f = w.function

  abbrev from_state : machine.State
  from_state = at s.code (op_stands_at f (places_of s f) w.index) 0 d

  abbrev Pay : State → Type 0
  Pay state = PaysState b s log from_state state

  -- what isn't as the code of a tick is
  stuck : Pays s (Stuck log) log from_state
  stuck = stuck_pays s log (op_stands_at f (places_of s f) w.index) d h.memory

  -- a check
  check_pays : (named : Named) (to from size parameters : ℕ)
      → slice_get f.ops w.index ≡ Some (Run (check_of named) to from)
      → uses_on (Run (check_of named) to from) w.on ≡ true
      → PartAgrees (ticks_of b) (staged.Summing size parameters) log.shared d
      → Pay (adds b.program (Run (check_of named) to from) to (kind_named named)
      (specification_at (w.values from) log.shared) size parameters w waiting log)
  check_pays named to from size parameters i u g =
      let row = specification_at (w.values from) log.shared in
      by (size_in b.program row) (parameters_in row) (same_size b.program row) (same_parameters row)
    where
      by : (n m : ℕ) → n ≡ row_size b.program.source (specification_at (w.values from) log.shared)
          → m ≡ row_parameters (specification_at (w.values from) log.shared)
          → Pay (unless (if fits (kind_named named) (specification_at (w.values from) log.shared) then None else
          Some BadSpec) (paid (Run (check_of named) to from) log)
          (if nat_lt (size + n) 4294967296
          then Making (staged.Summing (size + n) (max parameters m)) (set to 0 w) waiting
          (paid (Run (check_of named) to from) log)
          else Stuck log))
      by n m e1 e2 =
          let o : Op = Run (check_of named) to from in
          let row = specification_at (w.values from) log.shared in
          let size' = size + row_size b.program.source row in
          let A : Type 0 = size' < 4294967296
          → PaysTo s (set to 0 w) waiting (paid o log) log from_state
          (DraftAgrees (text_of b) (more (text_of b) size parameters row) log.shared) in
          unless_pays b s log (paid o log) from_state (if fits (kind_named named) row then None else Some BadSpec) A
          (if nat_lt (size + n) 4294967296
          then Making (staged.Summing (size + n) (max parameters m)) (set to 0 w) waiting (paid o log)
          else Stuck log)
          (λ g. elim (cases_Bool (nat_lt (size + n) 4294967296)) [
            | inl t ↦ (let l : size + n < 4294967296 = grind (arith, nat_tests, t) in
                rw t
                (subst (λ k. PaysTo s (set to 0 w) waiting (paid o log) log from_state (PartAgrees (ticks_of b)
                (staged.Summing (size + k) (max parameters m)) log.shared)) (sym e1)
                (subst (λ k. PaysTo s (set to 0 w) waiting (paid o log) log from_state (PartAgrees (ticks_of b)
                (staged.Summing size' (max parameters k)) log.shared)) (sym e2)
                (pays_told s st (set to 0 w) waiting (paid o log) (paid o log) log from_state
                (DraftAgrees (text_of b) (more (text_of b) size parameters row) log.shared)
                (PartAgrees (ticks_of b) (staged.Summing size' (max parameters (row_parameters row))) log.shared)
                (left_as_it_is log.shared) refl refl refl refl (λ e a. record { agrees = a; short = tt })
                (g (omega (arith, l, e1)))))))
            | inr t ↦ rw t stuck
          ])
          (check_step s st w arguments answer waiting log d h (text_of b) laws.agree named to from size parameters i u
          g.agrees (routines.check named) laws.check laws.no_check laws.sums)

  -- a New
  new_next : (to address : ℕ) (kind : ClosureKind) (captures size parameters : ℕ) (tick : Option ℕ)
      → slice_get f.ops w.index ≡ Some (New to address kind captures) → b.program.tick_at address ≡ tick
      → PartAgrees (ticks_of b) (staged.Summing size parameters) log.shared d
      → Pay (news b.program (New to address kind captures) to tick kind captures size parameters w waiting log)
  new_next to address kind captures size parameters None i e g = stuck
  new_next to address kind captures size parameters (Some tick) i e g =
      let o : Op = New to address kind captures in
      let w' = set to (next_number log.shared) w in
      elim (cases_Bool (is_kind kind (is_value (ticks_of b) tick) && nat_eq captures (length (b.program.kinds tick)))) [
        | inl t ↦ (let p = and_parts (is_kind kind (is_value (ticks_of b) tick))
            (nat_eq captures (length (b.program.kinds tick))) t in
            let k = kind_is kind (is_value (ticks_of b) tick) p.0 in
            let c = same_is captures (length (b.program.kinds tick)) p.1 in
            let few = are.few tick in
            let A : Type 0 = PaysTo s w' waiting (paid o log) log from_state
            (DraftAgrees (text_of b) (Filling (head_of address kind size parameters) captures []) log.shared) in
            let B : Type 0 = Unless s (closure_trap captures log.shared) (paid o log) log from_state A in
            let next = filled b.program tick size parameters [] w' waiting (paid o log) in
            let goes : A → Pay next =
            λ q. fills_pay laws b are s st w' waiting (paid o log) log from_state tick size parameters [] (omega arith)
            (subst (λ n. PaysTo s w' waiting (paid o log) log from_state (DraftAgrees (text_of b)
            (Filling (head_of (b.generator_at tick) (kind_of_tick (is_value (ticks_of b) tick)) size parameters) n [])
            log.shared)) c
            (subst (λ y. PaysTo s w' waiting (paid o log) log from_state (DraftAgrees (text_of b)
            (Filling (head_of (b.generator_at tick) y size parameters) captures []) log.shared)) k
            (subst (λ y. PaysTo s w' waiting (paid o log) log from_state (DraftAgrees (text_of b)
            (Filling (head_of y kind size parameters) captures []) log.shared)) (are.at address tick e) q))) in
            rw t
            (unless_pays b s log (paid o log) from_state (size_trap size) B
            (unless (closure_trap captures log.shared) (paid o log) next)
            (λ u. unless_pays b s log (paid o log) from_state (closure_trap captures log.shared) A next goes u)
            (new_step s st w arguments answer waiting log d h (text_of b) laws.rows to address kind captures size
            parameters
            i
            g.agrees (omega (arith, c, few)) routines.new laws.new laws.no_new)))
        | inr t ↦ rw t stuck
      ]

  -- a Put
  put_next : (capture from tick size parameters : ℕ) (words : List ℕ)
      → slice_get f.ops w.index ≡ Some (Put capture from) → uses_on (Put capture from) w.on ≡ true
      → PartAgrees (ticks_of b) (staged.Filling tick size parameters words) log.shared d
      → Pay (makes b.program (Put capture from) (staged.Filling tick size parameters words) w waiting log)
  put_next capture from tick size parameters words i u g = elim (cases_Bool (nat_eq capture (length words))) [
    | inl t ↦ (let e = same_is capture (length words) t in
        let head = head_of (b.generator_at tick) (kind_of_tick (is_value (ticks_of b) tick)) size parameters in
        let captures = length (b.program.kinds tick) in
        let short = g.short in
        let all = words ++ w.values from ∷ [] in
        let is : slice_get f.ops w.index ≡ Some (Put (length words) from) =
        subst (λ n. slice_get f.ops w.index ≡ Some (Put n from)) e i in
        let p = put_pays laws.put s st w arguments answer waiting log d h (text_of b) head captures words from is u
        g.agrees
        short in
        let q = fills_pay laws b are s st (moved_on w) waiting (paid (Put (length words) from) log) log from_state tick
        size parameters all (let n = longer words (w.values from) in omega (arith, n, short)) p in
        rw t
        (subst (λ n. Pay (filled b.program tick size parameters all (moved_on w) waiting (paid (Put n from) log)))
        (sym e)
        q))
    | inr t ↦ rw t stuck
  ]

  -- Every op while a specification is being made.
  pub making_pays : (o : Op) (part : staged.Draft) → slice_get f.ops w.index ≡ Some o → uses_on o w.on ≡ true
      → PartAgrees (ticks_of b) part log.shared d → Pay (makes b.program o part w waiting log)
  making_pays (Run run.Expression to from) (staged.Summing size parameters) i u g =
      check_pays AnExpression to from size parameters i u g
  making_pays (Run run.Statement to from) (staged.Summing size parameters) i u g =
      check_pays AStatement to from size parameters i u g
  making_pays (Run run.Variable to from) (staged.Summing size parameters) i u g =
      check_pays AVariable to from size parameters i u g
  making_pays (Run run.Malloc to from) (staged.Summing size parameters) i u g = stuck
  making_pays (Run run.Compile to from) (staged.Summing size parameters) i u g = stuck
  making_pays (Run run.Local to from) (staged.Summing size parameters) i u g = stuck
  making_pays (Run run.Parameter to from) (staged.Summing size parameters) i u g = stuck
  making_pays (Run run.Begin to from) (staged.Summing size parameters) i u g = stuck
  making_pays (New to address kind captures) (staged.Summing size parameters) i u g =
      new_next to address kind captures size parameters (b.program.tick_at address) i refl g
  making_pays (Put capture from) (staged.Filling tick size parameters words) i u g =
      put_next capture from tick size parameters words i u g
  making_pays (Run routine to from) (staged.Filling tick size parameters words) i u g = stuck
  making_pays (New to address kind captures) (staged.Filling tick size parameters words) i u g = stuck
  making_pays (Put capture from) (staged.Summing size parameters) i u g = stuck
  making_pays (op.Const to word) part i u g = stuck
  making_pays (op.Move to from) part i u g = stuck
  making_pays (op.Bin kind to left right) part i u g = stuck
  making_pays (op.CheckDivision left right) part i u g = stuck
  making_pays (op.CheckZero divisor) part i u g = stuck
  making_pays (op.Un kind to from) part i u g = stuck
  making_pays (op.FrameAddress to offset) part i u g = stuck
  making_pays (op.Load width to address) part i u g = stuck
  making_pays (op.Store width address value) part i u g = stuck
  making_pays (op.Clear offset words) part i u g = stuck
  making_pays (op.Label label) part i u g = stuck
  making_pays (op.Jump label) part i u g = stuck
  making_pays (op.BranchZero test label) part i u g = stuck
  making_pays (op.BranchNonzero test label) part i u g = stuck
  making_pays (op.Argument index from) part i u g = stuck
  making_pays (op.GetParameter to index) part i u g = stuck
  making_pays (op.Call address) part i u g = stuck
  making_pays (op.CallNumber number count) part i u g = stuck
  making_pays (op.Result to) part i u g = stuck
  making_pays (op.Return from) part i u g = stuck
  making_pays op.ReturnZero part i u g = stuck
  making_pays (op.Sys kind to from) part i u g = stuck

  -- a step of a tick
  pub tick_advances : (draft : staged.Draft) → PartAgrees (ticks_of b) draft log.shared d
      → Pay (making b.program (slice_get f.ops w.index) draft w waiting log)
  tick_advances draft agrees = by (slice_get f.ops w.index) refl
    where
      by : (o : Option Op) → slice_get f.ops w.index ≡ o → Pay (making b.program o draft w waiting log)
      by None e = stuck
      by (Some o) e = elim (cases_Bool (uses_on o w.on)) [
        | inl t ↦ rw t (making_pays o draft e t agrees)
        | inr t ↦ rw t stuck
      ]
