-- The machine follows the ops of a tick, once the captured words stand in registers: from the constant of the tick's
-- size to the last word that is put.
use Rattle.std.proofs.Common.{◌≡◌, ◌≢◌, ℕ, suc, ◌+◌, ◌*◌, ◌<◌, ◌≤◌, List, [], ◌∷◌, length, Option, Some, None}
use Rattle.std.proofs.Common.{inl, inr, Bool, true, false, refl, sym, ap, ◌∙◌, subst, arith}
use Rattle.std.specs.Prelude.{slice_get, ◌&&◌, if◌then◌else◌, nat_eq, max}
use Rattle.meaning_state.specs.Rows as keys
use Rattle.std.proofs.lemmas.Bool.{eq-eqb}
use Rattle.host_edge.specs.declared.ending.TrapKind.{TrapKind}
use Rattle.history.specs.Syntax.{Syntax, Ticked}
use Rattle.icode_ops.specs.declared.op.Op.{Op}
use Rattle.icode_ops.specs.declared.op.Op.TheVariants as op
use Rattle.icode_ops.specs.declared.kind.RunKind.TheVariants as run
use Rattle.typed_tree.specs.declared.expression.CaptureKind.{CaptureKind}
use Rattle.meaning_state.specs.Shared.{Shared}
use Rattle.meaning_state.specs.Rows.{size_trap, closure_trap, next_number, specified, numbered, parameters_of}
use Rattle.staged_meaning.specs.World.{World, Result, spend, with_shared}
use Rattle.staged_meaning.specs.World as meaning
use Rattle.staged_meaning.specs.Program.{is_expression, tick_size, syntax_size}
use Rattle.staged_meaning.specs.Specifications.{captures_trap, captures_of, specification_of, specify_syntax}
use Rattle.staged_meaning.specs.Specifications.{specify_tick}
use Rattle.icode_meaning.specs.State.{Program, Making, Stuck, Log, Summing}
use Rattle.icode_meaning.specs.Steps.{paid, sharing, goes_on, unless, is_kind, filled, is_right, is_none}
use Rattle.icode_meaning.specs.Steps.{syntax_of, news}
use Rattle.tick_lower_spec.specs.Lower.{kind_of_tick}
use Rattle.tick_lower_proof.proofs.Machine.{Goes, Here, Regs, frame_at, at_op, then_op, put, put_same, put_other, IsSet}
use Rattle.tick_lower_proof.proofs.Machine.{IsSame, same_on}
use Rattle.tick_lower_proof.proofs.Follow.{From, Follows}
use Rattle.tick_lower_proof.proofs.Builder.{Has}
use Rattle.tick_lower_proof.proofs.Smalls.{AreSmall}
use Rattle.tick_lower_proof.proofs.Makings.{checks_in}
use Rattle.tick_lower_proof.proofs.Ticks.{AreSet, set_on, check_ops, put_ops, sizes, widths}
use Rattle.tick_lower_proof.proofs.Ticks.{Beside, beside_less, beside_other}
use Rattle.tick_lower_proof.proofs.Ticks.{Checked, check_all, make_op, put_all, sizes_are, widths_are}

-- all ops, with registers from `next` on
abbrev pub node_ops : (size address : ℕ) → Bool → List CaptureKind → (registers : List ℕ) → (next : ℕ) → List Op →
    List Op
node_ops size address value kinds rs next rest =
    op.Const next size ∷ op.Run run.Begin (next + 1) next
    ∷ check_ops kinds rs (next + 2) (λ n. op.New n address (kind_of_tick value) (length kinds) ∷ put_ops 0 rs rest)

all_true : (a b c : Bool) → a ≡ true → b ≡ true → c ≡ true → (a && b && c) ≡ true
all_true true true true p q r = refl
all_true true true false p q r = absurd cc
all_true true false c p q r = absurd cc
all_true false b c p q r = absurd cc

kind_right : (value : Bool) (n m : ℕ) → n ≡ m → (is_kind (kind_of_tick value) value && nat_eq n m) ≡ true
kind_right true n m e = eq-eqb n m e
kind_right false n m e = eq-eqb n m e

-- no parameter and others
zero_max : (m : ℕ) → max 0 m ≡ m
zero_max m = omega arith

-- a register beside two
not_two : (n y : ℕ) → Beside n (n + 2) y → (y ≢ n) × (y ≢ n + 1)
not_two n y (inl h) =
    let a : y ≢ n = omega (arith, h) in
    let b : y ≢ n + 1 = omega (arith, h) in
    (a, b)
not_two n y (inr h) =
    let a : y ≢ n = omega (arith, h) in
    let b : y ≢ n + 1 = omega (arith, h) in
    (a, b)

-- the specification is there
pub record IsMade (P : Program) (from : From) (f : Here) (rest : List Op) (below least most : ℕ) (r : Regs)
    (shared : Shared) (x n0 p0 : ℕ) : Type 0 where
  pub register : ℕ
  pub place : ℕ
  pub regs : Regs
  pub log : Log
  pub goes : Goes P from.state (at_op f place regs log)
  pub has : Has f.function.ops place rest
  pub fresh : below ≤ register
  pub register_is : register ≡ n0
  pub place_is : place ≡ p0
  pub number : IsSet regs register x
  pub same : (y : ℕ) → Beside below (suc register) y → IsSame r regs y
  pub shared_is : log.shared ≡ shared
  pub low : least ≤ log.least
  pub high : log.most ≤ most

module _ (P : Program) (from : From) (f : Here) (tick address most : ℕ) (w : World)
    (there : P.tick_at address ≡ Some tick) (small : AreSmall P most w.shared.specifications)
    (V B : ℕ → World → Type 0) where
  abbrev kinds : List CaptureKind
  kinds = P.kinds tick

  abbrev own : ℕ
  own = tick_size (slice_get P.source.ticks tick)

  abbrev value : Bool
  value = is_expression (slice_get P.source.ticks tick)

  abbrev syntax : List ℕ → Syntax
  syntax vs = Ticked tick (captures_of w.shared.specifications kinds vs)

  abbrev after : List ℕ → Shared
  after vs = specified (specification_of value (syntax vs)) (length vs) w.shared

  abbrev Goal : List ℕ → Type 0
  Goal vs = Follows P from V B (specify_tick P.source tick kinds vs w)

  -- what comes behind the specification
  abbrev Next : List Op → (below : ℕ) → Regs → Log → List ℕ → (n0 p0 : ℕ) → Type 0
  Next rest below r g vs n0 p0 =
      IsMade P from f rest below (g.least + 3) (g.most + (155 + 83 * length kinds)) r (after vs) (next_number w.shared)
      n0 p0 → Follows P from V B (spend (next_number w.shared) (with_shared (after vs) w))

  -- the specification was checked as it is
  right : (vs : List ℕ) (shared : Shared) (size parameters : ℕ) →
      shared ≡ w.shared → captures_trap w.shared.specifications kinds vs ≡ None →
      size ≡ syntax_size P.source (syntax vs) → parameters ≡ parameters_of (syntax vs) →
      is_right P tick size parameters vs shared ≡ true
  right vs shared size parameters same none e1 e2 =
      subst (λ z. is_right P tick size parameters vs z ≡ true) (sym same)
      (all_true (is_none (captures_trap w.shared.specifications kinds vs))
      (nat_eq size (syntax_size P.source (syntax vs))) (nat_eq parameters (parameters_of (syntax vs)))
      (ap is_none none) (eq-eqb size (syntax_size P.source (syntax vs)) e1)
      (eq-eqb parameters (parameters_of (syntax vs)) e2))

  -- the closure is made, and gets its words
  news_run : (rs vs : List ℕ) (below n p size parameters : ℕ) (r0 r : Regs) (g0 g : Log) (rest : List Op) →
      length rs ≡ length kinds → length vs ≡ length kinds → below ≤ n → AreSet n r rs vs →
      ((y : ℕ) → Beside below n y → IsSame r0 r y) → g.shared ≡ w.shared →
      captures_trap w.shared.specifications kinds vs ≡ None → size ≡ syntax_size P.source (syntax vs) →
      parameters ≡ parameters_of (syntax vs) →
      Has f.function.ops p (op.New n address (kind_of_tick value) (length kinds) ∷ put_ops 0 rs rest) →
      Goes P from.state (Making (Summing size parameters) (frame_at f p r) f.waiting g) →
      g0.least + 3 ≤ g.least → g.most ≤ g0.most + 80 + 75 * length kinds →
      g0.most + (155 + 83 * length kinds) ≤ from.log.most + 512 * from.units + 2048 →
      Next rest below r0 g0 vs n (p + 1 + length rs) →
      Follows P from V B (specify_syntax P.source tick (syntax vs) (length vs) w)
  news_run rs vs below n p size parameters r0 r g0 g rest e1 e2 le set same shared_is none e3 e4 has go low high few
      next =
      let o = op.New n address (kind_of_tick value) (length kinds) in
      let g1 = paid o g in
      let F = filled P tick size parameters [] (frame_at f (suc p) (put n (next_number g.shared) r)) f.waiting g1 in
      let go1 = make_op P from.state f (Summing size parameters) p r g o go has.0 refl in
      let go2 = subst (λ t. Goes P from.state
      (news P o n t (kind_of_tick value) (length kinds) size parameters (frame_at f p r) f.waiting g)) there go1 in
      let go3 = subst (λ b. Goes P from.state
      (if b then unless (size_trap size) g1 (unless (closure_trap (length kinds) g.shared) g1 F) else Stuck g))
      (kind_right value (length kinds) (length kinds) refl) go2 in
      let go4 = subst (λ x. Goes P from.state
      (unless (size_trap x) g1 (unless (closure_trap (length kinds) g.shared) g1 F))) e3 go3 in
      let go5 = subst (λ x. Goes P from.state
      (unless (size_trap (syntax_size P.source (syntax vs))) g1 (unless (closure_trap x g.shared) g1 F))) (sym e2) go4
      in
      let go6 = subst (λ x. Goes P from.state
      (unless (size_trap (syntax_size P.source (syntax vs))) g1 (unless (closure_trap (length vs) x) g1
      (filled P tick size parameters [] (frame_at f (suc p) (put n (next_number x) r)) f.waiting g1)))) shared_is go5 in
      by (size_trap (syntax_size P.source (syntax vs))) (closure_trap (length vs) w.shared) go6
    where
      by : (t1 t2 : Option TrapKind) → Goes P from.state
          (unless t1 (paid (op.New n address (kind_of_tick value) (length kinds)) g)
          (unless t2 (paid (op.New n address (kind_of_tick value) (length kinds)) g)
          (filled P tick size parameters [] (frame_at f (suc p) (put n (next_number w.shared) r)) f.waiting
          (paid (op.New n address (kind_of_tick value) (length kinds)) g)))) →
          Follows P from V B
          (meaning.unless t1 w
          (meaning.unless t2 w (spend (next_number w.shared) (with_shared (after vs) w))))
      by (Some kind) t2 go = record {
        log = paid (op.New n address (kind_of_tick value) (length kinds)) g;
        goes = go;
        shared_is = shared_is;
        high = omega (arith, high, few);
      }
      by None (Some kind) go = record {
        log = paid (op.New n address (kind_of_tick value) (length kinds)) g;
        goes = go;
        shared_is = shared_is;
        high = omega (arith, high, few);
      }
      by None None go =
          let g1 = paid (op.New n address (kind_of_tick value) (length kinds)) g in
          let x = next_number w.shared in
          let r1 = put n x r in
          let m = put_all P from.state f tick size parameters rs vs [] 0 (suc n) (suc p) r1 g1 rest refl
          (omega (arith, e1, e2)) (omega (arith, e1)) (set_on n n x r rs vs (omega arith) set) has.1 go in
          let done : Log = sharing (specified (specification_of value (syntax_of P tick vs m.log.shared)) (length vs)
          m.log.shared) m.log in
          let shared1 : m.log.shared ≡ w.shared = m.shared_is ∙ shared_is in
          next (record {
            register = n;
            place = m.place;
            regs = r1;
            log = done;
            goes = subst (λ b. Goes P from.state
                (if b then goes_on (frame_at f m.place r1) f.waiting done else Stuck m.log))
                (right vs m.log.shared size parameters shared1 none e3 e4) m.goes;
            has = m.has;
            fresh = le;
            register_is = refl;
            place_is = let e = m.place_is in omega (arith, e);
            number = put_same n x r;
            same = λ y beside.
                same_on r0 r r1 y (same y (beside_less below n y beside))
                (put_other n x y r (beside_other below n y le beside));
            shared_is = ap (λ z. specified (specification_of value (syntax_of P tick vs z)) (length vs) z) shared1;
            low = omega (arith, m.low, low);
            high = omega (arith, m.high, high, e1);
          })

  -- The ops of a tick from the first to the last: they follow the making of its specification, with its traps in their
  -- order.
  pub tick_run : (rs vs : List ℕ) (n p : ℕ) (r : Regs) (g : Log) (rest : List Op) →
      length rs ≡ length kinds → length vs ≡ length kinds → AreSet n r rs vs → g.shared ≡ w.shared →
      own + most * length kinds < 4294967296 → Has f.function.ops p (node_ops own address value kinds rs n rest) →
      Goes P from.state (at_op f p r g) →
      g.most + (155 + 83 * length kinds) ≤ from.log.most + 512 * from.units + 2048 →
      Next rest n r g vs (n + 2 + checks_in kinds) (p + 2 + checks_in kinds + 1 + length rs) → Goal vs
  tick_run rs vs n p r g rest e1 e2 set shared_is few has go room next =
      let o1 = op.Const n own in
      let o2 = op.Run run.Begin (n + 1) n in
      let r1 = put n own r in
      let r2 = put (n + 1) 0 r1 in
      let g1 = paid o1 g in
      let g2 = paid o2 g1 in
      let go1 = then_op f p r g o1 go has.0 refl in
      let set1 = put_same n own r in
      let go2 = then_op f (suc p) r1 g1 o2 go1 has.1.0 (ap (λ b. b && true) set1.on) in
      let go3 = subst (λ x. Goes P from.state (Making (Summing x 0) (frame_at f (suc (suc p)) r2) f.waiting g2))
      set1.value go2 in
      let kept = set_on (suc n) (n + 1) 0 r1 rs vs (omega arith) (set_on n n own r rs vs (omega arith) set) in
      let k2 = subst (λ z. AreSet z r2 rs vs) (let q : suc (n + 1) ≡ n + 2 = omega arith in q) kept in
      let then_ops : ℕ → List Op = λ z. op.New z address (kind_of_tick value) (length kinds) ∷ put_ops 0 rs rest in
      by (captures_trap w.shared.specifications kinds vs) refl
      (check_all P from.state f w.shared.specifications most small then_ops rs vs kinds rs vs e1 e2 own 0 n (n + 2)
      (suc (suc p)) r r2 g2 (omega arith) k2 k2
      (λ y beside. same_on r r1 r2 y (put_other n own y r (not_two n y beside).0)
      (put_other (n + 1) 0 y r1 (not_two n y beside).1))
      (ap (λ z. z.specifications) shared_is) few has.1.1 go3)
    where
      by : (t : Option TrapKind) → captures_trap w.shared.specifications kinds vs ≡ t →
          Checked t P from.state f f.function.ops
          (λ z. op.New z address (kind_of_tick value) (length kinds) ∷ put_ops 0 rs rest)
          (sizes P w.shared.specifications kinds vs own) (widths w.shared.specifications kinds vs 0) rs vs n r
          (paid (op.Run run.Begin (n + 1) n) (paid (op.Const n own) g)) (75 * length kinds) (n + 2) (suc (suc p))
          (checks_in kinds) →
          Follows P from V B (meaning.unless t w (specify_syntax P.source tick (syntax vs) (length vs) w))
      by (Some kind) e h = record {
        log = h.log;
        goes = h.goes;
        shared_is = h.shared_is ∙ shared_is;
        high = omega (arith, h.high, room);
      }
      by None e h =
          news_run rs vs n h.next h.place (sizes P w.shared.specifications kinds vs own)
          (widths w.shared.specifications kinds vs 0) r h.regs g h.log rest e1 e2 h.above h.set h.same
          (h.shared_is ∙ shared_is) e
          (sizes_are P w.shared.specifications kinds vs own e e2)
          (widths_are P w.shared.specifications kinds vs 0 e e2 ∙ zero_max
          (keys.parameters_in (captures_of w.shared.specifications kinds vs)))
          h.has h.goes (omega (arith, h.low)) (omega (arith, h.high)) room
          (λ made. next (record {
            register = made.register;
            place = made.place;
            regs = made.regs;
            log = made.log;
            goes = made.goes;
            has = made.has;
            fresh = made.fresh;
            register_is = made.register_is ∙ h.next_is;
            place_is = made.place_is ∙ (let e = h.place_is in omega (arith, e));
            number = made.number;
            same = made.same;
            shared_is = made.shared_is;
            low = made.low;
            high = made.high;
          }))
