-- What the ops of a tick expression build.
use Rattle.std.proofs.Common.{◌≡◌, ℕ, zero, suc, ◌+◌, ◌-◌, List, [], ◌∷◌, ◌++◌, length, take, Option, Some, None}
use Rattle.std.proofs.Common.{refl, sym, ap, ◌∙◌, arith, append_assoc, append-nil, length-append, slice_get}
use Rattle.std.specs.Prelude.{slice_index}
use Rattle.icode_ops.specs.declared.op.Op.{Op}
use Rattle.icode_ops.specs.declared.op.Op.TheVariants as op
use Rattle.icode_ops.specs.declared.kind.RunKind.{RunKind}
use Rattle.icode_ops.specs.declared.kind.RunKind.TheVariants as run
use Rattle.icode_ops.specs.declared.kind.ClosureKind.{ClosureKind}
use Rattle.icode_ir.specs.declared.build_op.BuildOp.{BuildOp}
use Rattle.icode_ir.specs.declared.build_op.BuildOp.TheVariants as build
use Rattle.icode_ir.specs.Build.{Build, operand, below}
use Rattle.icode_ir.specs.Rules.{effect}
use Rattle.typed_tree.specs.declared.expression.CaptureKind.{CaptureKind}
use Rattle.staged_meaning.specs.Program.{is_expression, tick_size}
use Rattle.icode_templates_proof.specs.Routines.{Named}
use Rattle.closures_proof.specs.Ops.{check_of}
use Rattle.closures_proof.specs.Laws.{named_by, kind_of_tick}
use Rattle.closures_proof.specs.Ticks.{check_op, check_ops, put_ops}
use Rattle.generator_laws.specs.Laws.{built_of}
use Rattle.generator_laws.specs.Builds.{check_built, checks_built, puts_built, nips_built, tick_built, answered}
use Rattle.generator_laws.specs.Builds.{captures_from}
use Rattle.generator_laws.specs.Builds.{answered_all, TicksAreBuilt}

-- a builder with other ops, operands and registers
abbrev pub with : Build → List Op → List ℕ → ℕ → Build
with b ops operands registers = record b { ops = ops; operands = operands; registers = registers }

-- ---- lists

take_seam : (xs ys : List ℕ) (n : ℕ) → n ≡ length xs → take n (xs ++ ys) ≡ xs
take_seam xs ys n e = ap (λ k. take k (xs ++ ys)) e ∙ at xs
  where
    at : (xs : List ℕ) → take (length xs) (xs ++ ys) ≡ xs
    at [] = refl
    at (x ∷ xs) = ap (λ (l : List ℕ). x ∷ l) (at xs)

index_seam : (xs ys : List ℕ) (y n : ℕ) → n ≡ length xs → slice_index (xs ++ y ∷ ys) n ≡ y
index_seam xs ys y n e = ap (slice_index (xs ++ y ∷ ys)) e ∙ at xs
  where
    at : (xs : List ℕ) → slice_index (xs ++ y ∷ ys) (length xs) ≡ y
    at [] = refl
    at (x ∷ xs) = at xs

below_is : (b : Build) (ops : List Op) (xs ys : List ℕ) (r n : ℕ) → length ys ≡ n →
    below n (with b ops (xs ++ ys) r) ≡ xs
below_is b ops xs ys r n e =
    let l = length-append xs ys in take_seam xs ys (length (xs ++ ys) - n) (omega (arith, e, l))

operand_is : (b : Build) (ops : List Op) (xs ys : List ℕ) (y r n : ℕ) → length ys ≡ n →
    operand n (with b ops (xs ++ y ∷ ys) r) ≡ y
operand_is b ops xs ys y r n e =
    let l = length-append xs (y ∷ ys) in
    index_seam xs ys y (length (xs ++ y ∷ ys) - (n + 1)) (omega (arith, e, l))

pub built_on : (xs ys : List BuildOp) (b : Build) → built_of (xs ++ ys) b ≡ built_of ys (built_of xs b)
built_on [] ys b = refl
built_on (x ∷ xs) ys b = built_on xs ys (effect x b)

-- ---- one op

module _ (b : Build) (ops : List Op) (r : ℕ) where
  pub const_built : (x : ℕ) (vs : List ℕ) →
      effect (build.Const x) (with b ops vs r) ≡ with b (ops ++ op.Const r x ∷ []) (vs ++ r ∷ []) (r + 1)
  const_built x vs =
      let e : below 0 (with b ops vs r) ≡ vs =
      ap (λ (l : List ℕ). take (length vs - 0) l) (sym (append-nil vs)) ∙ take_seam vs [] (length vs - 0) (omega arith)
      in
      ap (λ (l : List ℕ). with b (ops ++ op.Const r x ∷ []) (l ++ r ∷ []) (r + 1)) e

  pub new_built : (address : ℕ) (kind : ClosureKind) (captures : ℕ) (vs : List ℕ) →
      effect (build.New address kind captures) (with b ops vs r)
      ≡ with b (ops ++ op.New r address kind captures ∷ []) (vs ++ r ∷ []) (r + 1)
  new_built address kind captures vs =
      let e : below 0 (with b ops vs r) ≡ vs =
      ap (λ (l : List ℕ). take (length vs - 0) l) (sym (append-nil vs)) ∙ take_seam vs [] (length vs - 0) (omega arith)
      in
      ap (λ (l : List ℕ). with b (ops ++ op.New r address kind captures ∷ []) (l ++ r ∷ []) (r + 1)) e

  pub run_built : (kind : RunKind) (vs : List ℕ) (v : ℕ) →
      effect (build.Run kind) (with b ops (vs ++ v ∷ []) r)
      ≡ with b (ops ++ op.Run kind r v ∷ []) (vs ++ r ∷ []) (r + 1)
  run_built kind vs v =
      let e = below_is b ops vs (v ∷ []) r 1 refl in
      let o = operand_is b ops vs [] v r 0 refl in
      ap (λ (l : List ℕ). with b (ops ++ op.Run kind r (operand 0 (with b ops (vs ++ v ∷ []) r)) ∷ []) (l ++ r ∷ []) (r
      + 1)) e ∙ ap (λ x. with b (ops ++ op.Run kind r x ∷ []) (vs ++ r ∷ []) (r + 1)) o

  pub drop_built : (vs : List ℕ) (v : ℕ) → effect build.Drop (with b ops (vs ++ v ∷ []) r) ≡ with b ops vs r
  drop_built vs v = ap (λ (l : List ℕ). with b ops l r) (below_is b ops vs (v ∷ []) r 1 refl)

  pub pick_built : (vs ws : List ℕ) (w n : ℕ) → length ws ≡ n →
      effect (build.Pick n) (with b ops (vs ++ w ∷ ws) r) ≡ with b ops ((vs ++ w ∷ ws) ++ w ∷ []) r
  pick_built vs ws w n e =
      ap (λ x. with b ops ((vs ++ w ∷ ws) ++ x ∷ []) r) (operand_is b ops vs ws w r n e)

  pub put_built : (i : ℕ) (vs : List ℕ) (v : ℕ) →
      effect (build.Put i) (with b ops (vs ++ v ∷ []) r) ≡ with b (ops ++ op.Put i v ∷ []) vs r
  put_built i vs v =
      let e = below_is b ops vs (v ∷ []) r 1 refl in
      let o = operand_is b ops vs [] v r 0 refl in
      ap (λ (l : List ℕ). with b (ops ++ op.Put i (operand 0 (with b ops (vs ++ v ∷ []) r)) ∷ []) l r) e
      ∙ ap (λ x. with b (ops ++ op.Put i x ∷ []) vs r) o

  pub nip_built : (vs : List ℕ) (w v : ℕ) →
      effect build.Nip (with b ops (vs ++ w ∷ v ∷ []) r) ≡ with b ops (vs ++ v ∷ []) r
  nip_built vs w v =
      let e = below_is b ops vs (w ∷ v ∷ []) r 2 refl in
      let o : operand 0 (with b ops (vs ++ w ∷ v ∷ []) r) ≡ v =
      ap (λ (l : List ℕ). operand 0 (with b ops l r)) (sym (append_assoc vs (w ∷ []) (v ∷ [])))
      ∙ operand_is b ops (vs ++ w ∷ []) [] v r 0 refl in
      ap (λ (l : List ℕ). with b ops (l ++ operand 0 (with b ops (vs ++ w ∷ v ∷ []) r) ∷ []) r) e
      ∙ ap (λ x. with b ops (vs ++ x ∷ []) r) o

-- ---- the checks

pub one_by_one : (front ws : List ℕ) (w : ℕ) → (front ++ w ∷ []) ++ ws ≡ front ++ w ∷ ws
one_by_one front ws w = append_assoc front (w ∷ []) ws

pub check_goes : (o : Option Named) (k : CaptureKind) (b : Build) (ops : List Op) (front ws : List ℕ) (w r n : ℕ) →
    length ws ≡ n →
    built_of (check_built o n) (with b ops (front ++ w ∷ ws) r)
    ≡ with b (ops ++ check_op o (record { kind = k; word = w; answer = r })) (front ++ w ∷ ws) (answered o r)
check_goes None k b ops front ws w r n e =
    ap (λ (l : List Op). with b l (front ++ w ∷ ws) r) (sym (append-nil ops))
check_goes (Some named) k b ops front ws w r n e =
    let vs = front ++ w ∷ ws in
    let more = ops ++ op.Run (check_of named) r w ∷ [] in
    ap (built_of (build.Run (check_of named) ∷ build.Drop ∷ [])) (pick_built b ops r front ws w n e)
    ∙ ap (built_of (build.Drop ∷ [])) (run_built b ops r (check_of named) vs w)
    ∙ drop_built b more (r + 1) vs r

pub checks_go : (kinds : List CaptureKind) (b : Build) (ops : List Op) (front ws : List ℕ) (r : ℕ) →
    length ws ≡ length kinds →
    built_of (checks_built kinds) (with b ops (front ++ ws) r)
    ≡ with b (ops ++ check_ops (captures_from r kinds ws)) (front ++ ws) (answered_all r kinds)
checks_go [] b ops front ws r e = ap (λ (l : List Op). with b l (front ++ ws) r) (sym (append-nil ops))
checks_go (k ∷ kinds) b ops front [] r e = let z : ⊥ = omega (arith, e) in absurd z
checks_go (k ∷ kinds) b ops front (w ∷ ws) r e =
    let first = check_op (named_by k) (record { kind = k; word = w; answer = r }) in
    let next = answered (named_by k) r in
    let rest = check_ops (captures_from next kinds ws) in
    let here = one_by_one front ws w in
    built_on (check_built (named_by k) (length kinds)) (checks_built kinds) (with b ops (front ++ w ∷ ws) r)
    ∙ ap (built_of (checks_built kinds))
    (check_goes (named_by k) k b ops front ws w r (length kinds) (omega (arith, e)))
    ∙ ap (λ (l : List ℕ). built_of (checks_built kinds) (with b (ops ++ first) l next)) (sym here)
    ∙ checks_go kinds b (ops ++ first) (front ++ w ∷ []) ws next (omega (arith, e))
    ∙ ap (λ (l : List ℕ). with b ((ops ++ first) ++ rest) l (answered_all next kinds)) here
    ∙ ap (λ (l : List Op). with b l (front ++ w ∷ ws) (answered_all next kinds)) (append_assoc ops first rest)

-- ---- the words

pub puts_go : (kinds : List CaptureKind) (b : Build) (ops : List Op) (front ws : List ℕ) (i next number r : ℕ) →
    length ws ≡ length kinds →
    built_of (puts_built i kinds) (with b ops ((front ++ ws) ++ number ∷ []) r)
    ≡ with b (ops ++ put_ops i (captures_from next kinds ws)) ((front ++ ws) ++ number ∷ []) r
puts_go [] b ops front ws i next number r e =
    ap (λ (l : List Op). with b l ((front ++ ws) ++ number ∷ []) r) (sym (append-nil ops))
puts_go (k ∷ kinds) b ops front [] i next number r e = let z : ⊥ = omega (arith, e) in absurd z
puts_go (k ∷ kinds) b ops front (w ∷ ws) i next number r e =
    let vs = (front ++ w ∷ ws) ++ number ∷ [] in
    let deep : vs ≡ front ++ w ∷ (ws ++ number ∷ []) = append_assoc front (w ∷ ws) (number ∷ []) in
    let long = length-append ws (number ∷ []) in
    let later = puts_built (suc i) kinds in
    let after = answered (named_by k) next in
    let rest = put_ops (suc i) (captures_from after kinds ws) in
    let here = one_by_one front ws w in
    let picked : effect (build.Pick (suc (length kinds))) (with b ops vs r) ≡ with b ops (vs ++ w ∷ []) r =
    ap (λ (l : List ℕ). effect (build.Pick (suc (length kinds))) (with b ops l r)) deep
    ∙ pick_built b ops r front (ws ++ number ∷ []) w (suc (length kinds)) (omega (arith, e, long))
    ∙ ap (λ (l : List ℕ). with b ops (l ++ w ∷ []) r) (sym deep) in
    ap (built_of (build.Put i ∷ later)) picked
    ∙ ap (built_of later) (put_built b ops r i vs w)
    ∙ ap (λ (l : List ℕ). built_of later (with b (ops ++ op.Put i w ∷ []) (l ++ number ∷ []) r)) (sym here)
    ∙ puts_go kinds b (ops ++ op.Put i w ∷ []) (front ++ w ∷ []) ws (suc i) after number r (omega (arith, e))
    ∙ ap (λ (l : List ℕ). with b ((ops ++ op.Put i w ∷ []) ++ rest) (l ++ number ∷ []) r) here
    ∙ ap (λ (l : List Op). with b l vs r) (append_assoc ops (op.Put i w ∷ []) rest)

-- ---- and below the number they go, the last of them first

-- a list with a last member
pub record Last (ws : List ℕ) (n : ℕ) : Type 0 where
  pub front : List ℕ
  pub last : ℕ
  pub is : ws ≡ front ++ last ∷ []
  pub long : length front ≡ n

pub last_of : (ws : List ℕ) (n : ℕ) → length ws ≡ suc n → Last ws n
last_of [] n e = let z : ⊥ = omega (arith, e) in absurd z
last_of (w ∷ []) n e = record { front = []; last = w; is = refl; long = omega (arith, e) }
last_of (w ∷ v ∷ ws) zero e = let z : ⊥ = omega (arith, e) in absurd z
last_of (w ∷ v ∷ ws) (suc n) e =
    let rest = last_of (v ∷ ws) n (omega (arith, e)) in
    record {
      front = w ∷ rest.front;
      last = rest.last;
      is = ap (λ (l : List ℕ). w ∷ l) rest.is;
      long = ap suc rest.long;
    }

nips_go : (kinds : List CaptureKind) (b : Build) (ops : List Op) (vs ws : List ℕ) (number r : ℕ) →
    length ws ≡ length kinds →
    built_of (nips_built kinds) (with b ops ((vs ++ ws) ++ number ∷ []) r) ≡ with b ops (vs ++ number ∷ []) r
nips_go [] b ops vs [] number r e = ap (λ (l : List ℕ). with b ops (l ++ number ∷ []) r) (append-nil vs)
nips_go [] b ops vs (w ∷ ws) number r e = let z : ⊥ = omega (arith, e) in absurd z
nips_go (k ∷ kinds) b ops vs ws number r e =
    let l = last_of ws (length kinds) e in
    let front = vs ++ l.front in
    let deep : (vs ++ ws) ++ number ∷ [] ≡ front ++ l.last ∷ number ∷ [] =
    ap (λ (x : List ℕ). (vs ++ x) ++ number ∷ []) l.is
    ∙ ap (λ (x : List ℕ). x ++ number ∷ []) (sym (append_assoc vs l.front (l.last ∷ [])))
    ∙ append_assoc front (l.last ∷ []) (number ∷ []) in
    ap (λ (x : List ℕ). built_of (build.Nip ∷ nips_built kinds) (with b ops x r)) deep
    ∙ ap (built_of (nips_built kinds)) (nip_built b ops r front l.last number)
    ∙ nips_go kinds b ops vs l.front number r l.long

-- ---- whole

pub captures_length : (next : ℕ) (kinds : List CaptureKind) (ws : List ℕ) → length ws ≡ length kinds →
    length (captures_from next kinds ws) ≡ length kinds
captures_length next [] ws e = refl
captures_length next (k ∷ kinds) [] e = let z : ⊥ = omega (arith, e) in absurd z
captures_length next (k ∷ kinds) (w ∷ ws) e =
    ap suc (captures_length (answered (named_by k) next) kinds ws (omega (arith, e)))

pub ticks_built : TicksAreBuilt
ticks_built text tick kinds vs ws b has e =
    let r = b.registers in
    let size = tick_size (slice_get text.program.ticks tick) in
    let address = text.generator_at tick in
    let kind = kind_of_tick (is_expression (slice_get text.program.ticks tick)) in
    let all = vs ++ ws in
    let xs = captures_from (r + 1 + 1) kinds ws in
    let o1 = b.ops ++ op.Const r size ∷ [] in
    let o2 = o1 ++ op.Run run.Begin (r + 1) r ∷ [] in
    let o3 = o2 ++ check_ops xs in
    let n = answered_all (r + 1 + 1) kinds in
    let o4 = o3 ++ op.New n address kind (length kinds) ∷ [] in
    let new = build.New address kind (length kinds) ∷ (puts_built 0 kinds ++ nips_built kinds) in
    let long = captures_length (r + 1 + 1) kinds ws e in
    ap (λ (l : List ℕ). built_of (tick_built text tick kinds) (with b b.ops l r)) has
    ∙ ap (built_of (build.Run run.Begin ∷ build.Drop ∷ (checks_built kinds ++ new))) (const_built b b.ops r size all)
    ∙ ap (built_of (build.Drop ∷ (checks_built kinds ++ new))) (run_built b o1 (r + 1) run.Begin all r)
    ∙ ap (built_of (checks_built kinds ++ new)) (drop_built b o2 (r + 1 + 1) all (r + 1))
    ∙ built_on (checks_built kinds) new (with b o2 all (r + 1 + 1))
    ∙ ap (built_of new) (checks_go kinds b o2 vs ws (r + 1 + 1) e)
    ∙ ap (built_of (puts_built 0 kinds ++ nips_built kinds)) (new_built b o3 n address kind (length kinds) all)
    ∙ built_on (puts_built 0 kinds) (nips_built kinds) (with b o4 (all ++ n ∷ []) (n + 1))
    ∙ ap (built_of (nips_built kinds)) (puts_go kinds b o4 vs ws 0 (r + 1 + 1) n (n + 1) e)
    ∙ nips_go kinds b (o4 ++ put_ops 0 xs) vs ws n (n + 1) e
    ∙ ap (λ (l : List Op). with b l (vs ++ n ∷ []) (n + 1)) (flat b.ops (op.Const r size) (op.Run run.Begin (r + 1) r)
    (op.New n address kind (length kinds)) (check_ops xs) (put_ops 0 xs))
    ∙ ap (λ k. with b (b.ops ++ op.Const r size ∷ op.Run run.Begin (r + 1) r
    ∷ (check_ops xs ++ op.New n address kind k ∷ put_ops 0 xs)) (vs ++ n ∷ []) (n + 1)) (sym long)
  where
    flat : (ops : List Op) (x y z : Op) (cs ps : List Op) →
        ((((ops ++ x ∷ []) ++ y ∷ []) ++ cs) ++ z ∷ []) ++ ps ≡ ops ++ x ∷ y ∷ (cs ++ z ∷ ps)
    flat ops x y z cs ps =
        append_assoc (((ops ++ x ∷ []) ++ y ∷ []) ++ cs) (z ∷ []) ps
        ∙ append_assoc ((ops ++ x ∷ []) ++ y ∷ []) cs (z ∷ ps)
        ∙ append_assoc (ops ++ x ∷ []) (y ∷ []) (cs ++ z ∷ ps)
        ∙ append_assoc ops (x ∷ []) (y ∷ (cs ++ z ∷ ps))
