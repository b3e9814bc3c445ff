-- The machine follows the call of a function of the text, where the calls that are nested less deep are followed.
use Rattle.std.proofs.Common.{◌≡◌, ℕ, suc, ◌+◌, ◌*◌, ◌<◌, ◌≤◌, List, [], ◌∷◌, ◌++◌, length, Option, Some, None, Bool}
use Rattle.std.proofs.Common.{true, false, refl, sym, ap, ◌∙◌, subst, arith}
use Rattle.std.specs.Prelude.{slice_get, ◌&&◌, if◌then◌else◌}
use Rattle.std.proofs.lemmas.List.{append-nil}
use Rattle.icode_ops.specs.declared.op.Op.{Op}
use Rattle.icode_ops.specs.declared.op.Op.TheVariants as op
use Rattle.icode_ir.specs.declared.build_op.BuildOp.TheVariants as build
use Rattle.typed_tree.specs.declared.expression.Answer.{Answer}
use Rattle.typed_tree.specs.declared.expression.Answer.TheVariants as answer
use Rattle.typed_tree.specs.Sizes as rule
use Rattle.typed_tree.specs.Nodes.{Expr, Call, Args, NoArg, Arg, has_value, count}
use Rattle.staged_meaning.specs.Size.{labels_in, temps_in, temps_in_args}
use Rattle.staged_meaning.specs.Scope.{Scope, AreScoped}
use Rattle.staged_meaning.specs.World.{World, Result, then_do, spend}
use Rattle.staged_meaning.specs.Expressions.{left_by}
use Rattle.staged_meaning.specs.Meaning.{eval, eval_args}
use Rattle.meaning_state.specs.Rows.{numbered, parameters_of}
use Rattle.staged_meaning.specs.Calls.{IsCallee}
use Rattle.icode_meaning.specs.Costs.{least_of, most_of}
use Rattle.icode_meaning.specs.State.{Program, Frame, State, Running, Stuck, Log, nothing, argued}
use Rattle.icode_meaning.specs.Steps.{paid, moved_on, uses_on, act, checked, call_at, back, enter, function_for}
use Rattle.icode_meaning.specs.Steps.{with_event}
use Rattle.tick_lower_proof.specs.Laws.{row_for, HasProgram}
use Rattle.tick_lower_spec.specs.Lower.{Addresses, expr_filled, args_filled, dropping_call}
use Rattle.tick_lower_proof.proofs.Machine.{Goes, goes_more, Here, Regs, frame_at, put, IsSet}
use Rattle.tick_lower_proof.proofs.Stacks.{IsSound}
use Rattle.tick_lower_proof.proofs.Builder.{View, top, taken, dropped, passed_ops, after_op, after_ops, after_append}
use Rattle.tick_lower_proof.proofs.Builder.{Has, Stands, stands_front, stands_back, picked, NotKey, Apart, has_of}
use Rattle.tick_lower_proof.proofs.Builder.{besides}
use Rattle.tick_lower_proof.proofs.Builder.{issued}
use Rattle.tick_lower_proof.proofs.Pushes.{valued_brings}
use Rattle.tick_lower_proof.proofs.Follow.{From, Later, Follows, follows_then, then_follows, follows_from}
use Rattle.tick_lower_proof.proofs.Registers.{AreVars, Within, AreHeld, put_vars, held_above, AreBetween, is_set}
use Rattle.tick_lower_proof.proofs.Registers.{AreKeys, Keeps, held_new, keys_put, keeps_put}
use Rattle.tick_lower_proof.proofs.Standing.{base_of, Site, floor_of, Fits, At, IsBack, Leaves, ExprRuns, Part, at_less}
use Rattle.tick_lower_proof.proofs.Standing.{at_from, back_from, later_at, stands_at, spend_run, value_run, IsOutset}
use Rattle.tick_lower_proof.proofs.Exprs.{one_run}
use Rattle.tick_lower_proof.proofs.Standing.{outset_later, outset_at}
use Rattle.typed_tree.specs.declared.expression.CaptureKind.{CaptureKind}
use Rattle.limits.specs.declared.program.TheConstants.{SIZE_LIMIT}
use Rattle.staged_meaning.specs.Program.{Program as Source, tick_size, Generated, callee_at}
use Rattle.history.specs.Syntax.{Syntax}
use Rattle.tick_lower_spec.specs.Generated.{IsGenerated}

-- operands that were pushed in this order lie on others, and so do values in their registers
abbrev pub onto : List ℕ → List ℕ → List ℕ
onto [] operands = operands
onto (r ∷ rs) operands = onto rs (r ∷ operands)

abbrev pub paired : (registers values : List ℕ) → List (ℕ × ℕ) → List (ℕ × ℕ)
paired (r ∷ rs) (x ∷ xs) stack = paired rs xs ((r, x) ∷ stack)
paired _ _ stack = stack

taken_onto : (rs operands others : List ℕ) (n : ℕ) →
    taken (length rs + n) (onto rs operands) others ≡ taken n operands (rs ++ others)
taken_onto [] operands others n = let e : 0 + n ≡ n = omega arith in ap (λ m. taken m operands others) e
taken_onto (r ∷ rs) operands others n =
    let e : suc (length rs) + n ≡ length rs + suc n = omega arith in
    ap (λ m. taken m (onto rs (r ∷ operands)) others) e ∙ taken_onto rs (r ∷ operands) others (suc n)

dropped_onto : (rs operands : List ℕ) (n : ℕ) → dropped (length rs + n) (onto rs operands) ≡ dropped n operands
dropped_onto [] operands n = let e : 0 + n ≡ n = omega arith in ap (λ m. dropped m operands) e
dropped_onto (r ∷ rs) operands n =
    let e : suc (length rs) + n ≡ length rs + suc n = omega arith in
    ap (λ m. dropped m (onto rs (r ∷ operands))) e ∙ dropped_onto rs (r ∷ operands) (suc n)

pub taken_all : (n : ℕ) (rs operands : List ℕ) → length rs ≡ n → taken n (onto rs operands) [] ≡ rs
taken_all n rs operands e =
    let e' : n ≡ length rs + 0 = omega (arith, e) in
    ap (λ m. taken m (onto rs operands) []) e' ∙ taken_onto rs operands [] 0 ∙ append-nil rs

dropped_all : (n : ℕ) (rs operands : List ℕ) → length rs ≡ n → dropped n (onto rs operands) ≡ operands
dropped_all n rs operands e =
    let e' : n ≡ length rs + 0 = omega (arith, e) in
    ap (λ m. dropped m (onto rs operands)) e' ∙ dropped_onto rs operands 0

picked_onto : (rs operands : List ℕ) (n : ℕ) → picked (length rs + n) (onto rs operands) ≡ picked n operands
picked_onto [] operands n = let e : 0 + n ≡ n = omega arith in ap (λ m. picked m operands) e
picked_onto (r ∷ rs) operands n =
    let e : suc (length rs) + n ≡ length rs + suc n = omega arith in
    ap (λ m. picked m (onto rs (r ∷ operands))) e ∙ picked_onto rs (r ∷ operands) (suc n)

-- the operand below them
pub picked_below : (n : ℕ) (rs operands : List ℕ) → length rs ≡ n → picked n (onto rs operands) ≡ top operands
picked_below n rs operands e =
    let e' : n ≡ length rs + 0 = omega (arith, e) in
    ap (λ m. picked m (onto rs operands)) e' ∙ picked_onto rs operands 0

-- what is passed with these arguments from k on
abbrev pub argued_all : ℕ → List ℕ → (ℕ → Option ℕ) → ℕ → Option ℕ
argued_all k [] arguments = arguments
argued_all k (x ∷ xs) arguments = argued_all (suc k) xs (argued k x arguments)

-- registers that hold values, in the order in which they were pushed
abbrev pub AreSet : Regs → (registers values : List ℕ) → Type 0
AreSet r [] xs = Unit {0}
AreSet r (a ∷ rs) [] = ⊥
AreSet r (a ∷ rs) (x ∷ xs) = IsSet r a x × AreSet r rs xs

-- of a stack on which they were pushed
pub held_under : (keys : List (ℕ × ℕ)) (r : Regs) (rs xs : List ℕ) (stack : List (ℕ × ℕ)) →
    AreHeld keys r (paired rs xs stack) → AreHeld keys r stack
held_under keys r [] xs stack h = h
held_under keys r (a ∷ rs) [] stack h = h
held_under keys r (a ∷ rs) (x ∷ xs) stack h = (held_under keys r rs xs ((a, x) ∷ stack) h).1

pub held_set : (keys : List (ℕ × ℕ)) (r : Regs) (rs xs : List ℕ) (stack : List (ℕ × ℕ)) → length xs ≡ length rs →
    AreHeld keys r (paired rs xs stack) → AreSet r rs xs
held_set keys r [] xs stack e h = tt
held_set keys r (a ∷ rs) [] stack e h = absurd (omega (arith, e))
held_set keys r (a ∷ rs) (x ∷ xs) stack e h = (
  is_set (held_under keys r rs xs ((a, x) ∷ stack) h).0,
  held_set keys r rs xs ((a, x) ∷ stack) (omega (arith, e)) h,
)

-- one op, whatever was passed and answered before it
pub any_op : {P : Program} {s : State} (f : Here) (p : ℕ) (r : Regs) (arguments : ℕ → Option ℕ) (answer : Option ℕ)
    (g : Log) (o : Op) → Goes P s (Running (frame_at f p r) arguments answer f.waiting g) →
    slice_get f.function.ops p ≡ Some o → uses_on o r.on ≡ true →
    Goes P s (act P o (frame_at f p r) arguments answer f.waiting g)
any_op {P} f p r arguments answer g o a h e = goes_more a (record {
  steps = 1;
  comes = ap (λ x. checked P x (frame_at f p r) arguments answer f.waiting g) h ∙
      ap (λ b. if b then act P o (frame_at f p r) arguments answer f.waiting g else Stuck g) e;
})

-- the arguments were passed
pub record Passing (P : Program) (s : State) (f : Here) (p : ℕ) (r : Regs) (arguments : ℕ → Option ℕ) (g : Log)
    (n : ℕ) : Type 0 where
  pub log : Log
  pub goes : Goes P s (Running (frame_at f p r) arguments None f.waiting log)
  pub shared_is : log.shared ≡ g.shared
  pub low : g.least ≤ log.least
  pub high : log.most ≤ g.most + 5 * n

pub pass_all : (P : Program) (s : State) (f : Here) (r : Regs) (rest : List Op) (rs xs : List ℕ) (k p : ℕ)
    (arguments : ℕ → Option ℕ) (g : Log) → AreSet r rs xs → length xs ≡ length rs →
    Has f.function.ops p (passed_ops k rs ++ rest) → Goes P s (Running (frame_at f p r) arguments None f.waiting g) →
    Passing P s f (p + length rs) r (argued_all k xs arguments) g (length rs) × Has f.function.ops (p + length rs) rest
pass_all P s f r rest [] [] k p arguments g set e has go =
    let q : p ≡ p + 0 = omega arith in (
      record {
        log = g;
        goes = subst (λ z. Goes P s (Running (frame_at f z r) arguments None f.waiting g)) q go;
        shared_is = refl;
        low = omega arith;
        high = omega arith;
      },
      subst (λ z. Has f.function.ops z rest) q has,
    )
pass_all P s f r rest [] (x ∷ xs) k p arguments g set e has go = absurd (omega (arith, e))
pass_all P s f r rest (a ∷ rs) [] k p arguments g set e has go = absurd set
pass_all P s f r rest (a ∷ rs) (x ∷ xs) k p arguments g set e has go =
    let o = op.Argument k a in
    let g1 = paid o g in
    let go1 = any_op f p r arguments None g o go has.0 (ap (λ b. b && true) set.0.on) in
    let go2 = subst (λ y. Goes P s (Running (frame_at f (suc p) r) (argued k y arguments) None f.waiting g1))
    set.0.value go1 in
    let more = pass_all P s f r rest rs xs (suc k) (suc p) (argued k x arguments) g1 set.1 (omega (arith, e)) has.1 go2
    in
    let q : suc p + length rs ≡ p + suc (length rs) = omega arith in
    let m = more.0 in
    let there : Goes P s (Running (frame_at f (p + suc (length rs)) r) (argued_all (suc k) xs (argued k x arguments))
    None f.waiting m.log) = subst
    (λ z. Goes P s (Running (frame_at f z r) (argued_all (suc k) xs (argued k x arguments)) None f.waiting m.log)) q
    m.goes in (
      record {
        log = m.log;
        goes = there;
        shared_is = m.shared_is;
        low = omega (arith, m.low);
        high =
            omega (arith, m.high);
      },
      subst (λ z. Has f.function.ops z rest) q more.1,
    )

-- registers below one
abbrev pub Under : ℕ → List ℕ → Type 0
Under n [] = Unit {0}
Under n (r ∷ rs) = (r < n) × Under n rs

-- what was pushed for arguments: registers in order, which hold the values of a list
pub record ArgsLeave (site : Site) (from : From) (scope : Scope) (v v1 : View) (stack : List (ℕ × ℕ))
    (spare credit n : ℕ) (vs : List ℕ) (w : World) : Type 0 where
  pub registers : List ℕ
  pub many : length registers ≡ n
  pub values : length vs ≡ n
  pub operands : v1.operands ≡ onto registers v.operands
  pub under : Under v1.next registers
  pub fits : Fits site v1 stack
  pub at : At site from scope v1.place (paired registers vs stack) spare (credit + 128 * n) 0 w

-- what it is to follow arguments
abbrev pub ArgsRun : Site → Scope → Args → Type 0
ArgsRun site scope args =
    AreScoped scope args → (l t : ℕ) → site.named ≤ t → t + temps_in_args args ≤ site.size →
    (v : View) (stack : List (ℕ × ℕ)) → Fits site v stack →
    Stands site.call.function.ops site.keys (args_filled site.holes site.addresses args l t) v →
    (from : From) (spare credit : ℕ) (w : World) → IsOutset site from →
    At site from scope v.place stack spare credit 0 w →
    Follows site.machine from
    (ArgsLeave site from scope v (after_ops (args_filled site.holes site.addresses args l t) v) stack spare credit
    (count args))
    (IsBack site from) (eval_args site.context args w)

module _ (site : Site) (scope : Scope) (inside : Within scope site.named) where
  pub no_args : ArgsRun site scope NoArg
  no_args ok l t st tn v stack fits at from spare credit w lt z =
      record {
        registers = [];
        many = refl;
        values = refl;
        operands = refl;
        under = tt;
        fits = fits;
        at =
            at_less site from scope v.place stack spare credit 0 spare (credit + 128 * 0) 0 w (omega arith)
            (omega arith) z;
      }

  pub more_args : (a : Expr) (args : Args) → Part site scope a → has_value a ≡ true → ArgsRun site scope args →
      ArgsRun site scope (Arg a args)
  more_args a args part is run ok l t st tn v stack fits at from spare credit w lt z =
      let code = site.call.function.ops in
      let ao = expr_filled site.holes site.addresses a l t in
      let ro = args_filled site.holes site.addresses args (l + labels_in a) (t + temps_in a) in
      let v1 = after_ops ao v in
      let v2 = after_ops ro v1 in
      let r = top v1.operands in
      let n = count args in
      let p = valued_brings (has_value a) v v1 is (part.brings l t v) in
      let pushed_is : v1.operands ≡ r ∷ v.operands = p.operands ∙ ap (λ o. o ∷ v.operands) (sym (ap top p.operands)) in
      let B = IsBack site from in
      let V = ArgsLeave site from scope v v2 stack spare credit (suc n) in
      subst (λ y. Follows site.machine from (ArgsLeave site from scope v y stack spare credit (suc n)) B
      (eval_args site.context (Arg a args) w)) (sym (after_append ao ro v))
      (one_run site scope inside a part is ok.0 l t st (omega arith) v stack fits (stands_front code site.keys ao ro v
      at) from
      spare credit w lt z V _
      (λ x w1 fits1 h.
      follows_then site.machine from (ArgsLeave site from scope v1 v2 ((r, x) ∷ stack) (spare + 1) (credit + 128) n) V B
      (eval_args site.context args w1) _
      (run ok.1 (l + labels_in a) (t + temps_in a) (omega arith) (omega arith) v1 ((r, x) ∷ stack) fits1
      (stands_back code site.keys ao ro v at) from (spare + 1) (credit + 128) w1 lt h)
      (λ vs w2 y. record {
        registers = r ∷ y.registers;
        many = ap suc y.many;
        values = ap suc y.values;
        operands = y.operands ∙ ap (onto y.registers) pushed_is;
        under = (y.fits.below.1, y.under);
        fits = record { bodies_are = y.fits.bodies_are; free = y.fits.free; below = y.fits.below.2 };
        at = at_less site from scope v2.place (paired y.registers vs ((r, x) ∷ stack)) (spare + 1)
            (credit + 128 + 128 * n) 0 spare (credit + 128 * suc n) 0 w2 (omega arith) (omega arith) y.at;
      })))

-- a call's answer goes back to the newest call that waits, in the caller's world but for what is shared
pub record Answered (P : Program) (from : From) (waiting : List Frame) (w0 : World) (x : ℕ) (w : World) : Type 0 where
  pub log : Log
  pub goes : Goes P from.state (back x waiting log)
  pub shared_is : log.shared ≡ w.shared
  pub variables_are : w.variables ≡ w0.variables
  pub generated_are : w.generated ≡ w0.generated
  pub fewer : w.units ≤ from.units
  pub low : from.units + from.log.least + 1 ≤ w.units + log.least
  pub high : log.most + 512 * w.units ≤ from.log.most + 512 * from.units + 64

-- Calls of functions with fewer units than a limit are followed, of those of the text and of those that were compiled,
-- from the state behind their op: an instruction of it stands for the call's unit, and it may have cost 128 beyond what
-- the units so far allow. The rows of the machine are those of the program's functions, and it has the program.
pub record CallsFollow (P : Program) (d : Addresses) (program : Source) (ticks : List (List CaptureKind))
    (call : ℕ → List ℕ → World → Result ℕ) (limit : ℕ) : Type 0 where
  pub by : (from : From) (o : Op) (number : ℕ) (vs : List ℕ) (w : World) (frame : Frame) (waiting : List Frame)
      (g : Log) → IsCallee program.functions number (length vs) → w.units < limit → IsSound P d ticks from.state →
      g.shared ≡ w.shared →
      Goes P from.state (call_at o (P.function_at (d.function_at number)) frame (argued_all 0 vs nothing) waiting g) →
      w.units ≤ from.units → from.units + from.log.least + 1 ≤ w.units + g.least + least_of o →
      g.most + most_of o + 512 * w.units ≤ from.log.most + 512 * from.units + 128 →
      Follows P from (Answered P from (moved_on frame ∷ waiting) w) (λ x w1. ⊥) (call number vs w)
  pub compiled : (from : From) (o : Op) (number address : ℕ) (syntax : Syntax) (vs : List ℕ) (w : World)
      (frame : Frame) (waiting : List Frame) (g : Log) →
      callee_at program w.shared.bodies number ≡ Some (Generated syntax) → IsGenerated d ticks syntax →
      parameters_of syntax ≡ length vs → w.units < limit → IsSound P d ticks from.state → g.shared ≡ w.shared →
      Goes P from.state
      (enter (function_for P syntax address) frame (argued_all 0 vs nothing) waiting (with_event number (paid o g))) →
      w.units ≤ from.units → from.units + from.log.least + 1 ≤ w.units + g.least + least_of o →
      g.most + most_of o + 512 * w.units ≤ from.log.most + 512 * from.units + 128 →
      Follows P from (Answered P from (moved_on frame ∷ waiting) w) (λ x w1. ⊥) (call number vs w)
  pub rows : (number : ℕ) → P.row number ≡ row_for (d.function_at number) (numbered number program.functions)
  pub has : HasProgram P d program ticks
  -- the sums of sizes that are made are words
  pub few : (tick : ℕ) (kinds : List CaptureKind) → slice_get ticks tick ≡ Some kinds →
      tick_size (slice_get program.ticks tick) + SIZE_LIMIT * length kinds < 4294967296

module _ (site : Site) (scope : Scope) (inside : Within scope site.named)
    (calls : CallsFollow site.machine site.addresses site.context.program site.ticks site.context.call site.limit) where
  -- behind the call its answer is taken, and the node's unit is spent
  answer_run : (from : From) (a : Answer) (p d x : ℕ) (v : View) (stack : List (ℕ × ℕ)) (w : World) → v.place ≡ suc p →
      top v.operands ≡ d → At site from scope (suc p) ((d, x) ∷ stack) 3 0 84 w →
      Follows site.machine from (Leaves (rule.is_value a) site from scope (after_ops (dropping_call a) v) stack 0 0)
      (IsBack site from) (spend (left_by a x) w)
  answer_run from answer.Value p d x v stack w e f z =
      subst (λ q. Follows site.machine from
      (λ y w1. At site from scope q ((top v.operands, y) ∷ stack) (0 + 1) (0 + 128) 0 w1) (IsBack site from)
      (spend x w)) (sym e)
      (subst (λ r. Follows site.machine from
      (λ y w1. At site from scope (suc p) ((r, y) ∷ stack) (0 + 1) (0 + 128) 0 w1) (IsBack site from) (spend x w))
      (sym f)
      (value_run site from scope x (suc p) d stack 3 0 84 0 0 w z (omega arith) (omega arith) (omega arith)))
  answer_run from answer.Void p d x v stack w e f z =
      let under : At site from scope (suc p) stack 3 0 84 w =
      record {
        regs = z.regs;
        keys = z.keys;
        kept = z.kept;
        log = z.log;
        goes = z.goes;
        vars = z.vars;
        held = z.held.1;
        shared_is = z.shared_is;
        fewer = z.fewer;
        low = z.low;
        high = z.high;
      } in
      let none : ℕ = 0 in
      subst (λ q. Follows {A = ℕ} site.machine from (λ y w1. At site from scope q stack 0 0 0 w1) (IsBack site from)
      (spend none w)) (sym e)
      (spend_run site from scope (λ y w1. At site from scope (suc p) stack 0 0 0 w1) none (suc p) stack 3 0 84 0 0 0 w
      under (omega arith) (omega arith) (omega arith) (λ w1 fewer h. h))

  -- what an expression leaves, seen from an earlier place
  pub leaves_before : (b : Bool) (from later : From) (spare credit : ℕ) (l : Later site.machine from later spare credit)
      (v : View) (stack : List (ℕ × ℕ)) (x : ℕ) (w : World) → Leaves b site later scope v stack 0 0 x w →
      Leaves b site from scope v stack spare credit x w
  leaves_before true from later spare credit l v stack x w z =
      at_less site from scope v.place ((top v.operands, x) ∷ stack) (spare + (0 + 1)) (credit + (0 + 128)) 0 (spare + 1)
      (credit + 128) 0 w (omega arith) (omega arith)
      (at_from site from later spare credit l scope v.place ((top v.operands, x) ∷ stack) (0 + 1) (0 + 128) 0 w z)
  leaves_before false from later spare credit l v stack x w z =
      at_less site from scope v.place stack (spare + 0) (credit + 0) 0 spare credit 0 w (omega arith) (omega arith)
      (at_from site from later spare credit l scope v.place stack 0 0 0 w z)

  -- an answer that came back is taken into register d, and what the answer says is left
  pub take_answer : (later : From) (a : Answer) (p d x : ℕ) (v : View) (stack : List (ℕ × ℕ)) (regs : Regs)
      (w1 w2 : World) → slice_get site.call.function.ops (suc p) ≡ Some (op.Result d) → floor_of site ≤ d →
      NotKey site.keys d → AreBetween (floor_of site) d stack → AreHeld site.keys regs stack →
      AreVars (base_of site.bodies) scope regs w1.variables → AreKeys site.keys regs w1.generated →
      Keeps site.outer (base_of site.bodies) site.keys regs →
      Answered site.machine later (moved_on (frame_at site.call p regs) ∷ site.call.waiting) w1 x w2 →
      v.place ≡ suc (suc p) → top v.operands ≡ d →
      Follows site.machine later (Leaves (rule.is_value a) site later scope (after_ops (dropping_call a) v) stack 0 0)
      (IsBack site later) (spend (left_by a x) w2)
  take_answer later a p d x v stack regs w1 w2 here free apart below held vars keys kept b e f =
      let sn = site.few in
      let base = base_of site.bodies in
      let go = any_op site.call (suc p) regs nothing (Some x) b.log (op.Result d) b.goes here refl in
      let vars2 : AreVars base scope regs w2.variables =
      subst (AreVars base scope regs) (sym b.variables_are) vars in
      let keys2 : AreKeys site.keys regs w2.generated =
      subst (AreKeys site.keys regs) (sym b.generated_are) keys in
      answer_run later a (suc p) d x v stack w2 e f
      (record {
        regs = put d x regs;
        log = paid (op.Result d) b.log;
        goes = go;
        vars = put_vars d x base site.named scope regs w2.variables inside (omega (arith, free)) vars2;
        held = (held_new site.keys d x regs apart, held_above site.keys d x (floor_of site) regs stack below held);
        keys = keys_put d x site.keys regs w2.generated apart keys2;
        kept = keeps_put d x base site.keys site.outer regs (omega (arith, free)) kept;
        shared_is = b.shared_is;
        fewer = b.fewer;
        low = omega (arith, b.low);
        high = omega (arith, b.high);
      })

  pub call_node : (a : Answer) (number : ℕ) (args : Args) →
      IsCallee site.context.program.functions number (count args) → ArgsRun site scope args →
      ExprRuns site scope (Call a number args)
  call_node a number args here_is run ok l t st tn v stack fits at from spare credit w lt z =
      let P = site.machine in
      let c = site.context in
      let code = site.call.function.ops in
      let n = count args in
      let address = site.addresses.function_at number in
      let ao = args_filled site.holes site.addresses args l t in
      let co = build.Call address n ∷ dropping_call a in
      let v1 = after_ops ao v in
      let v2 = after_op (build.Call address n) v1 in
      let later : From = outset_at site v.place z.regs z.log w.units in
      let l1 = later_at site from scope v.place stack spare credit w z in
      let lt1 = outset_later site from later spare credit l1 lt in
      let z0 = stands_at site scope v.place stack z.regs z.log w z.vars z.held z.keys z.kept z.shared_is in
      let b = rule.is_value a in
      let end = after_ops (dropping_call a) v2 in
      let V = Leaves b site later scope end stack 0 0 in
      subst (λ y. Follows P from (Leaves b site from scope y stack spare credit) (IsBack site from)
      (eval c (Call a number args) w)) (sym (after_append ao co v))
      (follows_from P from V (Leaves b site from scope end stack spare credit) (IsBack site later) (IsBack site from)
      later spare credit (eval c (Call a number args) w) l1
      (leaves_before b from later spare credit l1 end stack)
      (back_from site from later spare credit l1)
      (follows_then P later (ArgsLeave site later scope v v1 stack 0 0 n) V (IsBack site later) (eval_args c args w)
      (λ vs w1. then_do (c.call number vs w1) (λ x w2. spend (left_by a x) w2))
      (run ok l t st tn v stack fits (stands_front code site.keys ao co v at) later 0 0 w lt1 z0)
      (λ vs w1 y.
      let o = build.Call address n in
      let here = (stands_back code site.keys ao co v at).0 in
      called later n address here_is v v1 vs w1 lt1
      (has_of (Apart site.keys o v1) code v1.place (issued o v1) here)
      (besides (Apart site.keys o v1) code v1.place (issued o v1) here v1.next (omega arith) (omega arith)) y)))
    where
      called : (later : From) (n address : ℕ) → IsCallee site.context.program.functions number n → (v v1 : View)
          (vs : List ℕ) (w1 : World) →
          IsOutset site later →
          Has site.call.function.ops v1.place
          (passed_ops 0 (taken n v1.operands []) ++ op.Call (site.addresses.function_at number) ∷ op.Result v1.next ∷
          [])
          → NotKey site.keys v1.next → ArgsLeave site later scope v v1 stack 0 0 n vs w1 →
          Follows site.machine later
          (Leaves (rule.is_value a) site later scope
          (after_ops (dropping_call a) (after_op (build.Call (site.addresses.function_at number) n) v1)) stack 0 0)
          (IsBack site later) (then_do (site.context.call number vs w1) (λ x w2. spend (left_by a x) w2))
      called later n address here_is v v1 vs w1 lt has apart y =
          let P = site.machine in
          let c = site.context in
          let f = site.call in
          let code = f.function.ops in
          let base = base_of site.bodies in
          let to = site.addresses.function_at number in
          let rs = y.registers in
          let regs = y.at.regs in
          let rest = op.Call to ∷ op.Result v1.next ∷ [] in
          let taken_is : taken n v1.operands [] ≡ rs =
          ap (λ os. taken n os []) y.operands ∙ taken_all n rs v.operands y.many in
          let here = subst (λ xs. Has code v1.place (passed_ops 0 xs ++ rest)) taken_is has in
          let same : length vs ≡ length rs = y.values ∙ sym y.many in
          let pass = pass_all P later.state f regs rest rs vs 0 v1.place nothing y.at.log
          (held_set site.keys regs rs vs stack same y.at.held) same here y.at.goes in
          let m = pass.0 in
          let p2 = v1.place + length rs in
          let frame = frame_at f p2 regs in
          let go2 = any_op f p2 regs (argued_all 0 vs nothing) None m.log (op.Call to) m.goes pass.1.0 refl in
          let W = Answered P later (moved_on frame ∷ f.waiting) w1 in
          let v2 = after_op (build.Call to n) v1 in
          then_follows P later W (Leaves (rule.is_value a) site later scope (after_ops (dropping_call a) v2) stack 0 0)
          (λ x w. ⊥) (IsBack site later) (c.call number vs w1) (λ x w2. spend (left_by a x) w2)
          (calls.by later (op.Call to) number vs w1 frame f.waiting m.log
          (subst (IsCallee c.program.functions number) (sym y.values) here_is)
          (let few = lt.few in omega (arith, y.at.fewer, few)) lt.sound (m.shared_is ∙ y.at.shared_is)
          go2 y.at.fewer (omega (arith, y.at.low, m.low)) (omega (arith, y.at.high, m.high, y.many)))
          (λ x w2 no'. absurd no')
          (λ x w2 b.
          let there : v2.place ≡ suc (suc p2) = omega (arith, y.many) in
          take_answer later a p2 v1.next x v2 stack regs w1 w2 pass.1.1.0 y.fits.free apart y.fits.below
          (held_under site.keys regs rs vs stack y.at.held) y.at.vars y.at.keys y.at.kept b there refl)
