-- The machine follows the nodes of generated code that name what was captured: a word, and a variable of generated
-- code, which is read, set, or counted up or down.
use Rattle.std.proofs.Common.{◌≡◌, ◌≢◌, ◌⊎◌, inl, inr, ⊎_elim, ℕ, suc, ◌+◌, ◌<◌, ◌≤◌, List, [], ◌∷◌, ◌++◌, Option, Some}
use Rattle.std.proofs.Common.{None, true, false, refl, sym, ap, ◌∙◌, subst, arith}
use Rattle.std.specs.Prelude.{slice_get, ◌&&◌, if◌then◌else◌}
use Rattle.std.proofs.Math.Dec.{eqb}
use Rattle.std.proofs.lemmas.Bool.Decides.{eqb_tells}
use Rattle.word32.specs.Space.{update}
use Rattle.word32.specs.Words.{sum}
use Rattle.icode_ops.specs.declared.op.Op.TheVariants as op
use Rattle.icode_ops.specs.declared.kind.BinKind.TheVariants.{Add}
use Rattle.icode_ir.specs.Build.{find}
use Rattle.icode_ir.specs.declared.build_op.BuildOp.{BuildOp}
use Rattle.icode_ir.specs.declared.build_op.BuildOp.TheVariants as build
use Rattle.typed_tree.specs.Nodes.{Expr, Captured, VGet, VSet, VPost, Splice, has_value}
use Rattle.typed_tree.specs.declared.expression.Answer.{Answer}
use Rattle.typed_tree.specs.declared.expression.CaptureKind.TheVariants as kind
use Rattle.typed_tree.specs.declared.expression.CapturedWord.{CapturedWord}
use Rattle.meaning_state.specs.Operators.{bin_value}
use Rattle.staged_meaning.specs.Scope.{Scope, HasCapture, kind_of_word}
use Rattle.staged_meaning.specs.World.{World, Result, spend, with_generated}
use Rattle.staged_meaning.specs.Expressions.{word_of, key_of}
use Rattle.staged_meaning.specs.Meaning.{eval}
use Rattle.icode_meaning.specs.Steps.{paid}
use Rattle.tick_lower_spec.specs.Lower.{expr_filled}
use Rattle.tick_lower_proof.proofs.Machine.{then_op, Regs, put, put_same, put_other, IsSet, same_set, same_on}
use Rattle.tick_lower_proof.proofs.Builder.{View, top, after_ops, after_append, Stands, stands_front}
use Rattle.tick_lower_proof.proofs.Builder.{stands_back, NotKey, Among, next_behind, register_of}
use Rattle.tick_lower_proof.proofs.Follow.{From, Follows}
use Rattle.tick_lower_proof.proofs.Registers.{Within, AreHeld, AreBetween, between_more, AreKeys, held_same, not_key}
use Rattle.tick_lower_proof.proofs.Standing.{base_of, Site, floor_of, Fits, At, IsBack, Leaves, ExprRuns, Part}
use Rattle.tick_lower_proof.proofs.Standing.{value_run, IsOutset}
use Rattle.tick_lower_proof.proofs.Exprs.{const_run, op_put, one_run}

-- each key has one register, and none has another one's
pub record AreSingle (keys : List (ℕ × ℕ)) : Type 0 where
  pub register : (k r1 r2 : ℕ) → Among keys k r1 → Among keys k r2 → r1 ≡ r2
  pub key : (k1 k2 r : ℕ) → Among keys k1 r → Among keys k2 r → k1 ≡ k2

-- What stands in the holes of a body, and that what is spliced in is followed.
pub record HolesRun (site : Site) : Type 0 where
  pub captured : (w : CapturedWord) (i : ℕ) → HasCapture site.kinds i (kind_of_word w) →
      site.holes.captured i ≡ build.Const (word_of site.context.captures i) ∷ []
  pub get : (i : ℕ) → HasCapture site.kinds i kind.Variable →
      site.holes.get_key i ≡ build.GetSpec (key_of site.context.captures i) ∷ []
  pub set : (i : ℕ) → HasCapture site.kinds i kind.Variable →
      site.holes.set_key i ≡ build.SetSpec (key_of site.context.captures i) ∷ []
  pub splice : (scope : Scope) → Within scope site.named → (answer : Answer) (i : ℕ) →
      HasCapture site.kinds i (kind.Splice answer) → ExprRuns site scope (Splice answer i)
  pub single : AreSingle site.keys

update_same : {A : Type 0} (k : ℕ) (v : A) (h : ℕ → A) → update k v h k ≡ v
update_same k v h =
    ⊎_elim
    (λ y. ap (λ t. if t then v else h k) y.0)
    (λ n. absurd (n.1 refl))
    (eqb_tells k k)

-- the variable of a key is set in its register
keys_set : (k register v v1 : ℕ) (keys : List (ℕ × ℕ)) (r : Regs) (generated : ℕ → ℕ) → AreSingle keys →
    Among keys k register → v ≡ v1 → AreKeys keys r generated →
    AreKeys keys (put register v r) (update k v1 generated)
keys_set k register v v1 keys r generated single among same are = record {
  at = λ k2 r2 among2. one k2 r2 among2 (eqb_tells k2 k);
}
  where
    one : (k2 r2 : ℕ) → Among keys k2 r2 → ((eqb k2 k ≡ true) × (k2 ≡ k)) ⊎ ((eqb k2 k ≡ false) × (k2 ≢ k)) →
        IsSet (put register v r) r2 (update k v1 generated k2)
    one k2 r2 among2 (inl y) =
        let here : Among keys k r2 = subst (λ z. Among keys z r2) y.1 among2 in
        let e : register ≡ r2 = single.register k register r2 among here in
        let set = put_same register v r in
        let at_r : IsSet (put register v r) r2 v = subst (λ z. IsSet (put register v r) z v) e set in
        record {
          on = at_r.on;
          value = at_r.value ∙ same ∙ sym (update_same k v1 generated) ∙ ap (update k v1 generated) (sym y.1);
        }
    one k2 r2 among2 (inr no') =
        let ne : r2 ≢ register =
        λ e. no'.1 (single.key k2 k register (subst (λ z. Among keys k2 z) e among2) among) in
        let kept = same_set r (put register v r) r2 (generated k2) (put_other register v r2 r ne) (are.at k2 r2 among2)
        in
        record {
          on = kept.on;
          value = kept.value ∙ sym (ap (λ t. if t then v1 else generated k2) no'.0);
        }

held_put : (keys : List (ℕ × ℕ)) (d v : ℕ) (r : Regs) (stack : List (ℕ × ℕ)) →
    ((x : ℕ) → NotKey keys x → x ≢ d) → AreHeld keys r stack → AreHeld keys (put d v r) stack
held_put keys d v r [] ne h = tt
held_put keys d v r (m ∷ stack) ne h = (
  held_same keys r (put d v r) m.0 m.1 (put_other d v m.0 r (ne m.0 h.0.apart)) h.0,
  held_put keys d v r stack ne h.1,
)

pub behind_next : (o : Option ℕ) (n : ℕ) → n ≤ next_behind o n
behind_next None n = omega arith
behind_next (Some r) n = omega arith

module _ (site : Site) (scope : Scope) (inside : Within scope site.named) where
  -- the ops of a hole, where these are known
  abbrev pub OpsRun : List BuildOp → (World → Result ℕ) → Type 0
  OpsRun os act =
      (v : View) (stack : List (ℕ × ℕ)) → Fits site v stack → Stands site.call.function.ops site.keys os v →
      (from : From) (spare credit : ℕ) (w : World) → IsOutset site from →
      At site from scope v.place stack spare credit 0 w →
      Follows site.machine from (Leaves true site from scope (after_ops os v) stack spare credit) (IsBack site from)
      (act w)

  ops_are : (xs ys : List BuildOp) (act : World → Result ℕ) → xs ≡ ys → OpsRun ys act → OpsRun xs act
  ops_are xs ys act e run = subst (λ os. OpsRun os act) (sym e) run

  -- the variable's value in a new register
  get_at : (from : From) (key spare credit debt : ℕ) (v : View) (stack : List (ℕ × ℕ)) (w : World) →
      Fits site v stack → Stands site.call.function.ops site.keys (build.GetSpec key ∷ []) v →
      At site from scope v.place stack spare credit debt w →
      At site from scope (suc v.place) ((next_behind (find key v.keys) v.next, w.generated key) ∷ stack) (spare + 2)
      credit (debt + 7) w
  get_at from key spare credit debt v stack w fits at z =
      let register = register_of key v in
      let d = next_behind (find key v.keys) v.next in
      let le = behind_next (find key v.keys) v.next in
      let held = z.keys.at key register at.0.1.0 in
      let o = op.Move d register in
      let go = then_op site.call v.place z.regs z.log o z.goes at.0.0 (ap (λ b. b && true) held.on) in
      subst (λ y. At site from scope (suc v.place) ((d, y) ∷ stack) (spare + 2) credit (debt + 7) w) held.value
      (op_put site scope inside from v.place (suc v.place) d (z.regs.values register) stack stack spare credit debt w z
      (omega (arith, fits.free, le)) at.0.1.1 (between_more (floor_of site) v.next d stack le fits.below) z.held
      (paid o z.log) w.shared go z.shared_is 2 7 (omega arith) (omega arith))

  -- the topmost operand becomes the variable's value, and stays
  set_at : AreSingle site.keys → (from : From) (key a x spare credit debt : ℕ) (v : View) (stack : List (ℕ × ℕ))
      (w : World) → top v.operands ≡ a → Stands site.call.function.ops site.keys (build.SetSpec key ∷ []) v →
      At site from scope v.place ((a, x) ∷ stack) spare credit debt w →
      At site from scope (suc v.place) ((a, x) ∷ stack) (spare + 2) credit (debt + 7) (with_generated key x w)
  set_at single from key a x spare credit debt v stack w is at z =
      let register = register_of key v in
      let sn = site.few in
      let base = base_of site.bodies in
      let y = z.regs.values a in
      let among = at.0.1 in
      let o = op.Move register a in
      let here = subst (λ b. slice_get site.call.function.ops v.place ≡ Some (op.Move register b)) is at.0.0 in
      let other : (k : ℕ) → NotKey site.keys k → k ≢ register =
      λ k n e. not_key site.keys k key register n among (sym e) in
      record {
        regs = put register y z.regs;
        log = paid o z.log;
        goes = then_op site.call v.place z.regs z.log o z.goes here (ap (λ b. b && true) z.held.0.on);
        vars = record {
          at = λ i h.
              let lt = inside.at i h in
              let small : i < site.size = omega (arith, lt, sn) in
              same_set z.regs (put register y z.regs) (base + i) (w.variables i)
              (put_other register y (base + i) z.regs (other (base + i) (site.apart i small))) (z.vars.at i h);
        };
        held = held_put site.keys register y z.regs ((a, x) ∷ stack) other z.held;
        keys = keys_set key register y x site.keys z.regs w.generated single among z.held.0.value z.keys;
        kept = record {
          at = λ k lt n.
              same_on site.outer z.regs (put register y z.regs) k (z.kept.at k lt n)
              (put_other register y k z.regs (other k n));
        };
        shared_is = z.shared_is;
        fewer = z.fewer;
        low = omega (arith, z.low);
        high = omega (arith, z.high);
      }

  get_ops : (key : ℕ) → OpsRun (build.GetSpec key ∷ []) (λ w. spend (w.generated key) w)
  get_ops key v stack fits at from spare credit w lt z =
      let d = next_behind (find key v.keys) v.next in
      value_run site from scope (w.generated key) (suc v.place) d stack (spare + 2) credit (0 + 7) spare credit w
      (get_at from key spare credit 0 v stack w fits at z) (omega arith) (omega arith) (omega arith)

  module _ (holes : HolesRun site) where
    pub captured_run : (c : CapturedWord) (i : ℕ) → HasCapture site.kinds i (kind_of_word c) →
        ExprRuns site scope (Captured c i)
    captured_run c i is ok l t st tn v stack fits at from spare credit w lt z =
        let x = word_of site.context.captures i in
        ops_are (site.holes.captured i) (build.Const x ∷ []) (λ w. spend x w) (holes.captured c i is)
        (λ v stack fits at from spare credit w lt z.
        const_run site scope inside x tt 0 t st (omega (arith, tn)) v stack fits at from spare credit w lt z)
        v stack fits at from spare credit w lt z

    pub get_node : (i : ℕ) → HasCapture site.kinds i kind.Variable → ExprRuns site scope (VGet i)
    get_node i is ok l t st tn v stack fits at from spare credit w lt z =
        let key = key_of site.context.captures i in
        ops_are (site.holes.get_key i) (build.GetSpec key ∷ []) (λ w. spend (w.generated key) w) (holes.get i is)
        (get_ops key) v stack fits at from spare credit w lt z

    pub set_node : (i : ℕ) (a : Expr) → HasCapture site.kinds i kind.Variable → Part site scope a →
        has_value a ≡ true → ExprRuns site scope (VSet i a)
    set_node i a is part has ok l t st tn v stack fits at from spare credit w lt z =
        let code = site.call.function.ops in
        let key = key_of site.context.captures i in
        let ao = expr_filled site.holes site.addresses a l t in
        let so = site.holes.set_key i in
        let end = build.SetSpec key ∷ [] in
        let e : so ≡ end = holes.set i is in
        let v1 = after_ops ao v in
        let a1 = top v1.operands in
        let at1 = subst (λ os. Stands code site.keys os v1) e (stands_back code site.keys ao so v at) in
        let V = Leaves true site from scope (after_ops end v1) stack spare credit in
        subst (λ v'. Follows site.machine from (Leaves true site from scope v' stack spare credit) (IsBack site from)
        (eval site.context (VSet i a) w)) (sym (after_append ao so v ∙ ap (λ os. after_ops os v1) e))
        (one_run site scope inside a part has ok l t st tn v stack fits (stands_front code site.keys ao so v at) from
        spare credit w lt z V (λ x w1. spend x (with_generated key x w1))
        (λ x w1 fits1 h.
        value_run site from scope x (suc v1.place) a1 stack (spare + 1 + 2) (credit + 128) (0 + 7) spare credit
        (with_generated key x w1)
        (set_at holes.single from key a1 x (spare + 1) (credit + 128) 0 v1 stack w1 refl at1 h) (omega arith)
        (omega arith) (omega arith)))

    -- a variable is counted up or down, and leaves the value that it had
    post_ops : (key step : ℕ) → OpsRun
        (build.GetSpec key ∷ build.Pick 0 ∷ build.Const step ∷ build.Bin Add ∷ build.SetSpec key ∷ build.Drop ∷ [])
        (λ w. spend (w.generated key) (with_generated key (sum (w.generated key) step) w))
    post_ops key step v stack fits at from spare credit w lt z =
        let d = next_behind (find key v.keys) v.next in
        let le = behind_next (find key v.keys) v.next in
        let x = w.generated key in
        let p = suc v.place in
        let n2 = d + 1 in
        let n3 = n2 + 1 in
        let free : floor_of site ≤ d = omega (arith, fits.free, le) in
        let low = between_more (floor_of site) v.next d stack le fits.below in
        let z1 = get_at from key spare credit 0 v stack w fits (at.0, tt) z in
        let o2 = op.Const n2 step in
        let at2 = at.1.1 in
        let go2 = then_op site.call p z1.regs z1.log o2 z1.goes at2.0.0 refl in
        let below1 : AreBetween (floor_of site) n2 ((d, x) ∷ stack) =
        (free, omega arith, between_more (floor_of site) d n2 stack (omega arith) low) in
        let z2 = op_put site scope inside from p (suc p) n2 step ((d, x) ∷ stack) ((d, x) ∷ stack) (spare + 2) credit
        (0 + 7) w z1 (omega (arith, free)) (at2.0.1 n2 (omega arith) (omega arith)) below1 z1.held (paid o2 z1.log)
        w.shared go2 z1.shared_is 3 5 (omega arith) (omega arith) in
        let o3 = op.Bin Add n3 d n2 in
        let both : (z2.regs.on d && z2.regs.on n2) ≡ true =
        ap (λ b. b && z2.regs.on n2) z2.held.1.0.on ∙ z2.held.0.on in
        let at3 = at2.1 in
        let go3 = then_op site.call (suc p) z2.regs z2.log o3 z2.goes at3.0.0 both in
        let below2 : AreBetween (floor_of site) n3 ((d, x) ∷ stack) =
        (free, omega arith, between_more (floor_of site) d n3 stack (omega arith) low) in
        let same : bin_value Add (z2.regs.values d) (z2.regs.values n2) ≡ sum x step =
        ap (λ y. sum y (z2.regs.values n2)) z2.held.1.0.value ∙ ap (sum x) z2.held.0.value in
        let z3 = subst (λ y. At site from scope (suc (suc p)) ((n3, y) ∷ (d, x) ∷ stack) (spare + 2 + 3 + 4) credit
        (0 + 7 + 5 + 12) w) same
        (op_put site scope inside from (suc p) (suc (suc p)) n3 (bin_value Add (z2.regs.values d) (z2.regs.values n2))
        ((n2, step) ∷ (d, x) ∷ stack) ((d, x) ∷ stack) (spare + 2 + 3) credit (0 + 7 + 5) w z2 (omega (arith, free))
        (at3.0.1 n3 (omega arith) (omega arith)) below2 z2.held.1 (paid o3 z2.log) w.shared go3 z2.shared_is 4 12
        (omega arith) (omega arith)) in
        let v3 = after_ops (build.GetSpec key ∷ build.Pick 0 ∷ build.Const step ∷ build.Bin Add ∷ []) v in
        let z4 = set_at holes.single from key n3 (sum x step) (spare + 2 + 3 + 4) credit (0 + 7 + 5 + 12) v3
        ((d, x) ∷ stack) w refl (at3.1.0, tt) z3 in
        value_run site from scope x (suc (suc (suc p))) d stack (spare + 9 + 2) credit (24 + 7) spare credit
        (with_generated key (sum x step) w)
        (record {
          regs = z4.regs;
          log = z4.log;
          goes = z4.goes;
          vars = z4.vars;
          held = z4.held.1;
          keys = z4.keys;
          kept = z4.kept;
          shared_is = z4.shared_is;
          fewer = z4.fewer;
          low = omega (arith, z4.low);
          high = omega (arith, z4.high);
        })
        (omega arith) (omega arith) (omega arith)

    pub post_node : (i step : ℕ) → HasCapture site.kinds i kind.Variable → ExprRuns site scope (VPost i step)
    post_node i step is ok l t st tn v stack fits at from spare credit w lt z =
        let key = key_of site.context.captures i in
        let rest : List BuildOp → List BuildOp = λ so. build.Pick 0 ∷ build.Const step ∷ build.Bin Add
        ∷ (so ++ build.Drop ∷ []) in
        ops_are (site.holes.get_key i ++ rest (site.holes.set_key i))
        ((build.GetSpec key ∷ []) ++ rest (build.SetSpec key ∷ []))
        (λ w. spend (w.generated key) (with_generated key (sum (w.generated key) step) w))
        (ap (λ os. os ++ rest (site.holes.set_key i)) (holes.get i is)
        ∙ ap (λ os. (build.GetSpec key ∷ []) ++ rest os) (holes.set i is))
        (post_ops key step) v stack fits at from spare credit w lt z
