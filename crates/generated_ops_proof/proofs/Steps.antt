-- A builder takes an op of the body that was entered last: which operands, variables and labels it asks for, and what
-- becomes of the builder.
use Rattle.std.proofs.Common.{◌≡◌, ℕ, zero, suc, ◌+◌, ◌-◌, ◌<◌, ◌≤◌, Bool, true, false, List, [], ◌∷◌, ◌++◌, length}
use Rattle.std.proofs.Common.{Option, Some, None, refl, sym, ap, ◌∙◌, subst, arith}
use Rattle.std.specs.Prelude.{take, drop, ◌==◌, nat_le, ◌&&◌, ◌||◌, if◌then◌else◌}
use Rattle.std.proofs.lemmas.Bool.{le-leb, lt-ltb, le-ltb}
use Rattle.std.proofs.lemmas.List.{length-append, length-drop, length-take-le}
use Rattle.std.proofs.lemmas.List.Folds.{list_any-append}
use Rattle.limits.specs.declared.ops.TheConstants.{OP_LIMIT}
use Rattle.icode_ops.specs.declared.op.Op.{Op}
use Rattle.icode_ops.specs.declared.op.Op.TheVariants as op
use Rattle.icode_ops.specs.declared.kind.BinKind.{BinKind}
use Rattle.icode_ops.specs.declared.kind.BinKind.TheVariants as bin
use Rattle.icode_ops.specs.Flow.{holds, label_of}
use Rattle.icode_ir.specs.declared.build_op.BuildOp.{BuildOp}
use Rattle.icode_ir.specs.declared.build_op.BuildOp.TheVariants.{Const, Bin, Un, Enter, Leave, GetVariable, SetVariable}
use Rattle.icode_ir.specs.declared.build_op.BuildOp.TheVariants.{Drop, Pick, Nip, Load, Store, Label, Jump, BranchZero}
use Rattle.icode_ir.specs.declared.build_op.BuildOp.TheVariants.{BranchNonzero, Call, CallNumber, Return, ReturnZero}
use Rattle.icode_ir.specs.declared.build_op.BuildOp.TheVariants.{GetSpec, SetSpec, Sys, Run, FrameAddress, Clear, New}
use Rattle.icode_ir.specs.declared.build_op.BuildOp.TheVariants.{Put, Parameter}
use Rattle.icode_ir.specs.declared.build_op.BuildFault.{BuildFault}
use Rattle.icode_ir.specs.declared.build_op.BuildFault.TheVariants.{Underflow, BadLabel, BadVariable, Full}
use Rattle.icode_ir.specs.Build.{Build, innermost, label, stands, find, mention, below, arguments, add}
use Rattle.icode_ir.specs.Build.{yield, pass, without, push, first_mention, operand, variable, key_register}
use Rattle.icode_ir.specs.Rules.{needs, labelled, owned, is_key, keyed, has_room, fits, news, checks, checked, fault_of}
use Rattle.icode_ir.specs.Rules.{effect}
use Rattle.icode_ir.proofs.Passing.{arguments-length}
use Rattle.generated_ops_proof.specs.Room.{HasRoom, more_ops, more_operands}

-- ---- what an op asks for

abbrev pub less : ℕ → ℕ
less zero = zero
less (suc h) = h

-- there are so many operands
abbrev pub Above : ℕ → ℕ → Type 0
Above zero h = Unit {0}
Above (suc n) zero = ⊥
Above (suc n) (suc h) = Above n h

-- the operands behind an op
abbrev pub height : BuildOp → ℕ → ℕ
height (Const word) h = suc h
height (Bin kind) h = suc (less (less h))
height (Un kind) h = suc (less h)
height (GetVariable i) h = suc h
height Drop h = less h
height (Pick i) h = suc h
height Nip h = suc (less (less h))
height (Load width) h = suc (less h)
height (Store width) h = suc (less (less h))
height (BranchZero i) h = less h
height (BranchNonzero i) h = less h
height (Call address k) h = suc (h - k)
height (CallNumber k) h = suc (h - suc k)
height Return h = less h
height (GetSpec key) h = suc h
height (Sys kind) h = suc (less h)
height (Run routine) h = suc (less h)
height (FrameAddress offset) h = suc h
height (Parameter k) h = suc h
height _ h = h

-- an op of a body of n variables and m labels, with h operands before it
abbrev pub Takes : (parameters n m : ℕ) → BuildOp → ℕ → Type 0
Takes k n m (Const word) h = Unit {0}
Takes k n m (Bin kind) h = Above 2 h
Takes k n m (Un kind) h = Above 1 h
Takes k n m (GetVariable i) h = i < n
Takes k n m (SetVariable i) h = Above 1 h × (i < n)
Takes k n m Drop h = Above 1 h
Takes k n m (Pick i) h = Above (suc i) h
Takes k n m Nip h = Above 2 h
Takes k n m (Load width) h = Above 1 h
Takes k n m (Store width) h = Above 2 h
Takes k n m (Label i) h = i < m
Takes k n m (Jump i) h = i < m
Takes k n m (BranchZero i) h = Above 1 h × (i < m)
Takes k n m (BranchNonzero i) h = Above 1 h × (i < m)
Takes k n m (Call address j) h = j ≤ h
Takes k n m (CallNumber j) h = suc j ≤ h
Takes k n m Return h = Above 1 h
Takes k n m ReturnZero h = Unit {0}
Takes k n m (GetSpec key) h = is_key k key ≡ true
Takes k n m (SetSpec key) h = Above 1 h × (is_key k key ≡ true)
Takes k n m (Sys kind) h = Above 1 h
Takes k n m (Run routine) h = Above 1 h
Takes k n m (FrameAddress offset) h = Unit {0}
Takes k n m (Clear offset words) h = Unit {0}
Takes k n m (Parameter j) h = Unit {0}
Takes k n m _ h = ⊥

-- a label does not stand yet
abbrev pub IsFresh : BuildOp → Build → Type 0
IsFresh (Label i) b = stands (label i b) b.ops ≡ false
IsFresh _ b = Unit {0}

-- the label z stands behind the op where it stood before, or is the op's
abbrev pub Stood : BuildOp → Build → (z : ℕ) → Type 0
Stood (Label i) b z = stands z (effect (Label i) b).ops ≡ (stands z b.ops || (z == label i b))
Stood o b z = stands z (effect o b).ops ≡ stands z b.ops

pub record Step (o : BuildOp) (b : Build) : Type 0 where
  pub fault : fault_of o b ≡ None
  pub height : length (effect o b).operands ≡ height o (length b.operands)
  pub bodies : (effect o b).bodies ≡ b.bodies
  pub parameters : (effect o b).parameters ≡ b.parameters
  pub variables : (effect o b).variables ≡ b.variables
  pub labels : (effect o b).labels ≡ b.labels
  pub ops : length (effect o b).prelude + length (effect o b).ops ≤ length b.prelude + length b.ops + more_ops o
  pub stood : (z : ℕ) → Stood o b z

-- ---- lists

pub less_is : (h : ℕ) → less h ≡ h - 1
less_is zero = omega arith
less_is (suc h) = omega arith

pub above_is : (n h : ℕ) → Above n h → n ≤ h
above_is zero h a = omega arith
above_is (suc n) zero a = absurd a
above_is (suc n) (suc h) a = omega (arith, above_is n h a)

left_below : {A : Type 0} (n : ℕ) (xs : List A) → length (take (length xs - n) xs) ≡ length xs - n
left_below n xs = length-take-le (length xs - n) xs (omega arith)

one_more : {A : Type 0} (xs : List A) (x : A) → length (xs ++ x ∷ []) ≡ length xs + 1
one_more xs x = length-append xs (x ∷ [])

or_false : (b : Bool) → (b || false) ≡ b
or_false true = refl
or_false false = refl

-- one op more that is no label
stands_more : (z : ℕ) (xs : List Op) (o : Op) → label_of o ≡ None → stands z (xs ++ o ∷ []) ≡ stands z xs
stands_more z xs o none =
    list_any-append (λ x. holds z (label_of x)) xs (o ∷ [])
    ∙ (ap (λ w. stands z xs || (holds z w || false)) none ∙ or_false (stands z xs))

no_arguments : (z k : ℕ) (rs : List ℕ) → stands z (arguments k rs) ≡ false
no_arguments z k [] = refl
no_arguments z k (r ∷ rs) = no_arguments z (k + 1) rs

stands_passed : (z k : ℕ) (rs : List ℕ) (xs : List Op) → stands z (xs ++ arguments k rs) ≡ stands z xs
stands_passed z k rs xs =
    list_any-append (λ x. holds z (label_of x)) xs (arguments k rs)
    ∙ (ap (λ w. stands z xs || w) (no_arguments z k rs) ∙ or_false (stands z xs))

-- ---- why no op is refused

module _ (b : Build) where
  needs_ok : (n : ℕ) (x : Option BuildFault) → n ≤ length b.operands → needs n b x ≡ x
  needs_ok n x le = ap (λ z. if z then Some Underflow else x) (le-ltb (length b.operands) n le)

  labelled_ok : (m i : ℕ) (x : Option BuildFault) → (innermost b).labels ≡ m → i < m → labelled i b x ≡ x
  labelled_ok m i x e lt =
      ap (λ z. if z then x else Some BadLabel) (lt-ltb i (innermost b).labels (omega (arith, lt, e)))

  owned_ok : (n i : ℕ) (x : Option BuildFault) → (innermost b).variables ≡ n → i < n → owned i b x ≡ x
  owned_ok n i x e lt =
      ap (λ z. if z then x else Some BadVariable) (lt-ltb i (innermost b).variables (omega (arith, lt, e)))

  keyed_ok : (key : ℕ) (x : Option BuildFault) → is_key b.parameters key ≡ true → keyed key b x ≡ x
  keyed_ok key x is = ap (λ z. if z then x else Some BadVariable) is

  fits_ok : (more operands : ℕ) → length b.prelude + length b.ops + more ≤ OP_LIMIT → operands ≤ OP_LIMIT
      → fits more operands b ≡ None
  fits_ok more operands few low =
      let room : has_room more operands b ≡ true =
      ap (λ z. z && nat_le operands OP_LIMIT) (le-leb (length b.prelude + length b.ops + more) OP_LIMIT few) ∙
      le-leb operands OP_LIMIT low in
      ap (λ z. if z then None else Some Full) room

-- ---- what becomes of a builder, whichever op it was

-- it has h operands, and at most so many ops more, none of them a label
record Became (more h : ℕ) (b after : Build) : Type 0 where
  height : length after.operands ≡ h
  bodies : after.bodies ≡ b.bodies
  parameters : after.parameters ≡ b.parameters
  variables : after.variables ≡ b.variables
  labels : after.labels ≡ b.labels
  ops : length after.prelude + length after.ops ≤ length b.prelude + length b.ops + more
  stood : (z : ℕ) → stands z after.ops ≡ stands z b.ops

-- one after the other
behind : (more more' h h' : ℕ) (b b' after : Build) → Became more h b b' → Became more' h' b' after
    → Became (more + more') h' b after
behind more more' h h' b b' after p q = record {
  height = q.height;
  bodies = q.bodies ∙ p.bodies;
  parameters = q.parameters ∙ p.parameters;
  variables = q.variables ∙ p.variables;
  labels = q.labels ∙ p.labels;
  ops = omega (arith, p.ops, q.ops);
  stood = λ z. q.stood z ∙ p.stood z;
}

at_most : (more more' h h' : ℕ) (b after : Build) → more ≤ more' → h ≡ h' → Became more h b after
    → Became more' h' b after
at_most more more' h h' b after le e p = record {
  height = p.height ∙ e;
  bodies = p.bodies;
  parameters = p.parameters;
  variables = p.variables;
  labels = p.labels;
  ops = omega (arith, p.ops, le);
  stood = p.stood;
}

module _ (b : Build) where
  -- an op that defines the next register, in place of the top n operands
  yields : (o : Op) (n : ℕ) → label_of o ≡ None → Became 1 (length b.operands - n + 1) b (yield o n b)
  yields o n none = record {
    height = one_more (below n b) b.registers ∙ ap (λ z. z + 1) (left_below n b.operands);
    bodies = refl;
    parameters = refl;
    variables = refl;
    labels = refl;
    ops = omega (arith, one_more b.ops o);
    stood = λ z. stands_more z b.ops o none;
  }

  adds : (o : Op) → label_of o ≡ None → Became 1 (length b.operands) b (add o b)
  adds o none = record {
    height = refl;
    bodies = refl;
    parameters = refl;
    variables = refl;
    labels = refl;
    ops = omega (arith, one_more b.ops o);
    stood = λ z. stands_more z b.ops o none;
  }

  drops : (n : ℕ) → Became 0 (length b.operands - n) b (without n b)
  drops n = record {
    height = left_below n b.operands;
    bodies = refl;
    parameters = refl;
    variables = refl;
    labels = refl;
    ops = omega arith;
    stood = λ z. refl;
  }

  pushes : (r : ℕ) → Became 0 (length b.operands + 1) b (push r b)
  pushes r = record {
    height = one_more b.operands r;
    bodies = refl;
    parameters = refl;
    variables = refl;
    labels = refl;
    ops = omega arith;
    stood = λ z. refl;
  }

  passes : (n : ℕ) → Became n (length b.operands - n) b (pass n b)
  passes n =
      let rest : List ℕ = drop (length b.operands - n) b.operands in record {
        height = left_below n b.operands;
        bodies = refl;
        parameters = refl;
        variables = refl;
        labels = refl;
        ops = omega (
          arith,
          length-append b.ops (arguments 0 rest),
          arguments-length 0 rest,
          length-drop (length b.operands - n) b.operands,
        );
        stood = λ z. stands_passed z 0 rest b.ops;
      }

  mentions : (key : ℕ) (o : Option ℕ) → Became (news o) (length b.operands) b (mention o key b)
  mentions key (Some r) = record {
    height = refl;
    bodies = refl;
    parameters = refl;
    variables = refl;
    labels = refl;
    ops = omega arith;
    stood = λ z. refl;
  }
  mentions key None = record {
    height = refl;
    bodies = refl;
    parameters = refl;
    variables = refl;
    labels = refl;
    ops = omega (arith, one_more b.prelude (first_mention key b.registers));
    stood = λ z. refl;
  }

  checks_first : (kind : BinKind) (x y : ℕ) → Became (checks kind) (length b.operands) b (checked kind x y b)
  checks_first bin.DivideSigned x y = adds (op.CheckDivision x y) refl
  checks_first bin.DivideUnsigned x y = adds (op.CheckZero y) refl
  checks_first bin.RemainderSigned x y = adds (op.CheckDivision x y) refl
  checks_first bin.RemainderUnsigned x y = adds (op.CheckZero y) refl
  checks_first _ x y = drops_none
    where
      drops_none : Became 0 (length b.operands) b b
      drops_none = record {
        height = refl;
        bodies = refl;
        parameters = refl;
        variables = refl;
        labels = refl;
        ops = omega arith;
        stood = λ z. refl;
      }

few_checks : (kind : BinKind) → checks kind ≤ 1
few_checks bin.DivideSigned = omega arith
few_checks bin.DivideUnsigned = omega arith
few_checks bin.RemainderSigned = omega arith
few_checks bin.RemainderUnsigned = omega arith
few_checks _ = omega arith

few_news : (o : Option ℕ) → news o ≤ 1
few_news (Some r) = omega arith
few_news None = omega arith

-- ---- single ops

step_of : (o : BuildOp) (b : Build) → fault_of o b ≡ None
    → Became (more_ops o) (height o (length b.operands)) b (effect o b) → ((z : ℕ) → Stood o b z) → Step o b
step_of o b fault p stood = record {
  fault = fault;
  height = p.height;
  bodies = p.bodies;
  parameters = p.parameters;
  variables = p.variables;
  labels = p.labels;
  ops = p.ops;
  stood = stood;
}

module _ (k n m : ℕ) (b : Build) (is_k : b.parameters ≡ k) (en : (innermost b).variables ≡ n)
    (em : (innermost b).labels ≡ m) (os : List BuildOp) where
  abbrev H : ℕ
  H = length b.operands

  -- one that issues an op, where what it makes of the builder is known
  issued : (o : BuildOp) (after : Build) (more h : ℕ) → effect o b ≡ after → Became more h b after
      → more ≤ more_ops o → h ≡ height o H → Became (more_ops o) (height o H) b (effect o b)
  issued o after more h is p few e =
      subst (λ z. Became (more_ops o) (height o H) b z) (sym is) (at_most more (more_ops o) h
      (height o H) b after few e p)

  room_for : (o : BuildOp) (more operands : ℕ) → HasRoom (o ∷ os) b → more ≤ more_ops o
      → operands ≤ H + more_operands o → fits more operands b ≡ None
  room_for o more operands r few low =
      fits_ok b more operands (omega (arith, r.ops, few)) (omega (arith, r.operands, low))

  one_less : less H ≡ H - 1
  one_less = less_is H

  two_less : less (less H) ≡ H - 2
  two_less = omega (arith, less_is H, less_is (less H))

  const_step : (word : ℕ) → HasRoom (Const word ∷ os) b → Step (Const word) b
  const_step word r =
      let made : Op = op.Const b.registers word in
      let p = issued (Const word) (yield made 0 b) 1 _ refl (yields b made 0 refl) (omega arith) (omega arith) in
      step_of (Const word) b (room_for (Const word) 1 (H + 1) r (omega arith) (omega arith)) p p.stood

  bin_step : (kind : BinKind) → Above 2 H → HasRoom (Bin kind ∷ os) b → Step (Bin kind) b
  bin_step kind t r =
      let high : 2 ≤ H = above_is 2 H t in
      let x : ℕ = operand 1 b in
      let y : ℕ = operand 0 b in
      let made : Op = op.Bin kind b.registers x y in
      let first = checks_first b kind x y in
      let whole = behind (checks kind) 1 H _ b (checked kind x y b) _ first (yields (checked kind x y b) made 2 refl) in
      let p = issued (Bin kind) (yield made 2 (checked kind x y b)) (checks kind + 1) _ refl whole
      (omega (arith, few_checks kind)) (omega (arith, first.height, two_less)) in
      step_of (Bin kind) b
      (needs_ok b 2 _ high ∙ room_for (Bin kind) (checks kind + 1) (H - 1) r (omega (arith, few_checks kind))
      (omega arith))
      p p.stood

  -- an op that takes the top operand and yields one
  unary_step : (o : BuildOp) (made : Op) → fault_of o b ≡ needs 1 b (fits 1 H b) → effect o b ≡ yield made 1 b
      → label_of made ≡ None → height o H ≡ suc (less H) → more_ops o ≡ 1 → Above 1 H → HasRoom (o ∷ os) b
      → ((Became 1 (height o H) b (effect o b)) → (z : ℕ) → Stood o b z) → Step o b
  unary_step o made fault is none e one t r stood =
      let high : 1 ≤ H = above_is 1 H t in
      let p = issued o (yield made 1 b) 1 _ is (yields b made 1 none) (omega (arith, one)) (omega
      (arith, e, one_less)) in
      step_of o b (fault ∙ (needs_ok b 1 _ high ∙ room_for o 1 H r (omega (arith, one)) (omega arith))) p
      (stood (subst (λ z. Became z (height o H) b (effect o b)) one p))

  pub step : (o : BuildOp) → Takes k n m o H → IsFresh o b → HasRoom (o ∷ os) b → Step o b
  step (Const word) t f r = const_step word r
  step (Bin kind) t f r = bin_step kind t r
  step (Un kind) t f r =
      unary_step (Un kind) (op.Un kind b.registers (operand 0 b)) refl refl refl refl refl t r (λ p. p.stood)
  step (Load width) t f r =
      unary_step (Load width) (op.Load width b.registers (operand 0 b)) refl refl refl refl refl t r (λ p. p.stood)
  step (Sys kind) t f r =
      unary_step (Sys kind) (op.Sys kind b.registers (operand 0 b)) refl refl refl refl refl t r (λ p. p.stood)
  step (Run routine) t f r =
      unary_step (Run routine) (op.Run routine b.registers (operand 0 b)) refl refl refl refl refl t r (λ p. p.stood)
  step (GetVariable i) t f r =
      let made : Op = op.Move b.registers (variable i b) in
      let p = issued (GetVariable i) (yield made 0 b) 1 _ refl (yields b made 0 refl) (omega arith) (omega arith) in
      step_of (GetVariable i) b
      (owned_ok b n i _ en t ∙ room_for (GetVariable i) 1 (H + 1) r (omega arith) (omega arith)) p p.stood
  step (SetVariable i) t f r =
      let made : Op = op.Move (variable i b) (operand 0 b) in
      let p = issued (SetVariable i) (add made b) 1 _ refl (adds b made refl) (omega arith) refl in
      step_of (SetVariable i) b
      (needs_ok b 1 _ (above_is 1 H t.0) ∙ (owned_ok b n i _ en t.1
      ∙ room_for (SetVariable i) 1 H r (omega arith) (omega arith)))
      p p.stood
  step Drop t f r =
      let p = issued Drop (without 1 b) 0 _ refl (drops b 1) (omega arith) (sym one_less) in
      step_of Drop b (needs_ok b 1 None (above_is 1 H t)) p p.stood
  step (Pick i) t f r =
      let p = issued (Pick i) (push (operand i b) b) 0 _ refl (pushes b (operand i b)) (omega arith) (omega arith) in
      step_of (Pick i) b
      (needs_ok b (i + 1) _ (omega (arith, above_is (suc i) H t))
      ∙ room_for (Pick i) 0 (H + 1) r (omega arith) (omega arith))
      p p.stood
  step Nip t f r =
      let q = behind 0 0 _ _ b (without 2 b) _ (drops b 2) (pushes (without 2 b) (operand 0 b)) in
      let p = issued Nip (push (operand 0 b) (without 2 b)) 0 _ refl q (omega arith)
      (omega (arith, left_below 2 b.operands, two_less)) in
      step_of Nip b (needs_ok b 2 None (above_is 2 H t)) p p.stood
  step (Store width) t f r =
      let high : 2 ≤ H = above_is 2 H t in
      let made : Op = op.Store width (operand 1 b) (operand 0 b) in
      let q = behind 1 0 _ _ b (add made b) _ (adds b made refl) (drops (add made b) 2) in
      let whole = behind 1 0 _ _ b (without 2 (add made b)) _ q (pushes (without 2 (add made b)) (operand 0 b)) in
      let p = issued (Store width) (push (operand 0 b) (without 2 (add made b))) 1 _ refl whole (omega arith)
      (omega (arith, left_below 2 b.operands, two_less)) in
      step_of (Store width) b
      (needs_ok b 2 _ high ∙ room_for (Store width) 1 (H - 1) r (omega arith) (omega arith)) p p.stood
  step (Label i) t f r =
      record {
        fault = labelled_ok b m i _ em t
            ∙ (ap (λ z. if z then Some BadLabel else fits 1 H b) f
            ∙ room_for (Label i) 1 H r (omega arith) (omega arith));
        height = refl;
        bodies = refl;
        parameters = refl;
        variables = refl;
        labels = refl;
        ops = omega (arith, one_more b.ops (op.Label (label i b)));
        stood = λ z.
            list_any-append (λ x. holds z (label_of x)) b.ops (op.Label (label i b) ∷ [])
            ∙ ap (λ w. stands z b.ops || w) (or_false (z == label i b));
      }
  step (Jump i) t f r =
      let made : Op = op.Jump (label i b) in
      let p = issued (Jump i) (add made b) 1 _ refl (adds b made refl) (omega arith) refl in
      step_of (Jump i) b (labelled_ok b m i _ em t ∙ room_for (Jump i) 1 H r (omega arith) (omega arith)) p p.stood
  step (BranchZero i) t f r =
      let made : Op = op.BranchZero (operand 0 b) (label i b) in
      let q = behind 1 0 _ _ b (add made b) _ (adds b made refl) (drops (add made b) 1) in
      let p = issued (BranchZero i) (without 1 (add made b)) 1 _ refl q (omega arith) (sym one_less) in
      step_of (BranchZero i) b
      (needs_ok b 1 _ (above_is 1 H t.0) ∙ (labelled_ok b m i _ em t.1
      ∙ room_for (BranchZero i) 1 (H - 1) r (omega arith) (omega arith)))
      p p.stood
  step (BranchNonzero i) t f r =
      let made : Op = op.BranchNonzero (operand 0 b) (label i b) in
      let q = behind 1 0 _ _ b (add made b) _ (adds b made refl) (drops (add made b) 1) in
      let p = issued (BranchNonzero i) (without 1 (add made b)) 1 _ refl q (omega arith) (sym one_less) in
      step_of (BranchNonzero i) b
      (needs_ok b 1 _ (above_is 1 H t.0) ∙ (labelled_ok b m i _ em t.1
      ∙ room_for (BranchNonzero i) 1 (H - 1) r (omega arith) (omega arith)))
      p p.stood
  step (Call address j) t f r =
      let passed : Build = pass j b in
      let called : Build = add (op.Call address) passed in
      let made : Op = op.Result b.registers in
      let q = behind j 1 _ _ b passed _ (passes b j) (adds passed (op.Call address) refl) in
      let whole = behind (j + 1) 1 _ _ b called _ q (yields called made 0 refl) in
      let p = issued (Call address j) (yield made 0 called) (j + 1 + 1) _ refl whole (omega arith)
      (omega (arith, left_below j b.operands)) in
      step_of (Call address j) b
      (needs_ok b j _ t ∙ room_for (Call address j) (j + 2) (H - j + 1) r (omega arith) (omega arith)) p p.stood
  step (CallNumber j) t f r =
      let passed : Build = pass j b in
      let calling : Op = op.CallNumber (operand j b) j in
      let called : Build = add calling passed in
      let made : Op = op.Result b.registers in
      let q = behind j 1 _ _ b passed _ (passes b j) (adds passed calling refl) in
      let whole = behind (j + 1) 1 _ _ b called _ q (yields called made 1 refl) in
      let p = issued (CallNumber j) (yield made 1 called) (j + 1 + 1) _ refl whole (omega arith)
      (omega (arith, left_below j b.operands)) in
      step_of (CallNumber j) b
      (needs_ok b (j + 1) _ (omega (arith, t)) ∙ room_for (CallNumber j) (j + 2) (H - j) r (omega arith) (omega arith))
      p p.stood
  step Return t f r =
      let made : Op = op.Return (operand 0 b) in
      let q = behind 1 0 _ _ b (add made b) _ (adds b made refl) (drops (add made b) 1) in
      let p = issued Return (without 1 (add made b)) 1 _ refl q (omega arith) (sym one_less) in
      step_of Return b
      (needs_ok b 1 _ (above_is 1 H t) ∙ room_for Return 1 (H - 1) r (omega arith) (omega arith)) p p.stood
  step ReturnZero t f r =
      let p = issued ReturnZero (add op.ReturnZero b) 1 _ refl (adds b op.ReturnZero refl) (omega arith) refl in
      step_of ReturnZero b (room_for ReturnZero 1 H r (omega arith) (omega arith)) p p.stood
  step (GetSpec key) t f r =
      let o : Option ℕ = find key b.keys in
      let then_there : Build = mention o key b in
      let made : Op = op.Move then_there.registers (key_register key b) in
      let first = mentions b key o in
      let q = behind (news o) 1 _ _ b then_there _ first (yields then_there made 0 refl) in
      let p = issued (GetSpec key) (yield made 0 then_there) (news o + 1) _ refl q (omega (arith, few_news o))
      (omega (arith, first.height)) in
      let known : is_key b.parameters key ≡ true = ap (λ z. is_key z key) is_k ∙ t in
      step_of (GetSpec key) b
      (keyed_ok b key _ known ∙ room_for (GetSpec key) (news o + 1) (H + 1) r (omega (arith, few_news o)) (omega arith))
      p p.stood
  step (SetSpec key) t f r =
      let o : Option ℕ = find key b.keys in
      let then_there : Build = mention o key b in
      let made : Op = op.Move (key_register key b) (operand 0 b) in
      let first = mentions b key o in
      let q = behind (news o) 1 _ _ b then_there _ first (adds then_there made refl) in
      let p = issued (SetSpec key) (add made then_there) (news o + 1) _ refl q (omega
      (arith, few_news o)) first.height in
      let known : is_key b.parameters key ≡ true = ap (λ z. is_key z key) is_k ∙ t.1 in
      step_of (SetSpec key) b
      (needs_ok b 1 _ (above_is 1 H t.0) ∙ (keyed_ok b key _ known
      ∙ room_for (SetSpec key) (news o + 1) H r (omega (arith, few_news o)) (omega arith)))
      p p.stood
  step (FrameAddress offset) t f r =
      let made : Op = op.FrameAddress b.registers offset in
      let p = issued (FrameAddress offset) (yield made 0 b) 1 _ refl (yields b made 0 refl) (omega arith)
      (omega arith) in
      step_of (FrameAddress offset) b (room_for (FrameAddress offset) 1 (H + 1) r (omega arith) (omega arith)) p p.stood
  step (Clear offset words) t f r =
      let made : Op = op.Clear offset words in
      let p = issued (Clear offset words) (add made b) 1 _ refl (adds b made refl) (omega arith) refl in
      step_of (Clear offset words) b (room_for (Clear offset words) 1 H r (omega arith) (omega arith)) p p.stood
  step (Parameter j) t f r =
      let made : Op = op.GetParameter b.registers j in
      let p = issued (Parameter j) (yield made 0 b) 1 _ refl (yields b made 0 refl) (omega arith) (omega arith) in
      step_of (Parameter j) b (room_for (Parameter j) 1 (H + 1) r (omega arith) (omega arith)) p p.stood
  step (Enter i j) t f r = absurd t
  step Leave t f r = absurd t
  step (New address kind captures) t f r = absurd t
  step (Put i) t f r = absurd t
