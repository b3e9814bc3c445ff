-- What the builder's ops issue, seen from the top of its stack: the place of the next op, the operands, the next
-- register, and the bodies. How this stands for the builder itself is a lemma of its own.
use Rattle.std.proofs.Common.{◌≡◌, ◌⊎◌, ℕ, zero, suc, ◌+◌, ◌<◌, ◌≤◌, List, [], ◌∷◌, ◌++◌, Option, Some, None, refl, ap}
use Rattle.std.proofs.Common.{◌∙◌, arith}
use Rattle.std.specs.Prelude.{slice_get}
use Rattle.icode_ir.specs.Build.{find, or_next}
use Rattle.icode_ops.specs.declared.op.Op.{Op}
use Rattle.icode_ops.specs.declared.op.Op.TheVariants as op
use Rattle.icode_ops.specs.declared.kind.BinKind.{BinKind}
use Rattle.icode_ops.specs.declared.kind.BinKind.TheVariants as bin
use Rattle.icode_ir.specs.declared.body.Body.{Body}
use Rattle.icode_ir.specs.declared.build_op.BuildOp.{BuildOp}
use Rattle.icode_ir.specs.declared.build_op.BuildOp.TheVariants.{Const, Bin, Un, Enter, Leave, GetVariable, SetVariable}
use Rattle.icode_ir.specs.declared.build_op.BuildOp.TheVariants.{Drop, Pick, Nip, Load, Store, Label, Jump, BranchZero}
use Rattle.icode_ir.specs.declared.build_op.BuildOp.TheVariants.{BranchNonzero, Return, ReturnZero, Sys, Run}
use Rattle.icode_ir.specs.declared.build_op.BuildOp.TheVariants.{FrameAddress, Clear, Parameter, Call, CallNumber, New}
use Rattle.icode_ir.specs.declared.build_op.BuildOp.TheVariants.{Put, GetSpec, SetSpec}
use Rattle.tick_lower_spec.specs.Keys.{IsNone}

pub record View : Type 0 where
  pub place : ℕ
  -- topmost first
  pub operands : List ℕ
  pub next : ℕ
  -- innermost first
  pub bodies : List Body
  pub labels : ℕ
  -- the keys that were mentioned, in that order, with their registers
  pub keys : List (ℕ × ℕ)

abbrev pub top : List ℕ → ℕ
top [] = 0
top (r ∷ rs) = r

abbrev pub below : List ℕ → List ℕ
below [] = []
below (r ∷ rs) = rs

abbrev pub inner : List Body → Body
inner [] = record { first_variable = 0; variables = 0; first_label = 0; labels = 0 }
inner (body ∷ bodies) = body

abbrev pub outer : List Body → List Body
outer [] = []
outer (body ∷ bodies) = bodies

abbrev pub variable_in : ℕ → View → ℕ
variable_in i v = (inner v.bodies).first_variable + i

abbrev pub label_in : ℕ → View → ℕ
label_in i v = (inner v.bodies).first_label + i

-- which op checks an operator before it
pub data Check : Type 0 where
  NoCheck : Check
  SignedCheck : Check
  ZeroCheck : Check

abbrev pub check_of : BinKind → Check
check_of bin.DivideSigned = SignedCheck
check_of bin.DivideUnsigned = ZeroCheck
check_of bin.RemainderSigned = SignedCheck
check_of bin.RemainderUnsigned = ZeroCheck
check_of _ = NoCheck

abbrev pub check_ops : Check → (a b : ℕ) → List Op → List Op
check_ops NoCheck a b rest = rest
check_ops SignedCheck a b rest = op.CheckDivision a b ∷ rest
check_ops ZeroCheck a b rest = op.CheckZero b ∷ rest

abbrev pub past_check : Check → ℕ → ℕ
past_check NoCheck p = p
past_check SignedCheck p = suc p
past_check ZeroCheck p = suc p

-- the n topmost operands, in the order in which they were pushed, before others; and what lies below them
abbrev pub taken : ℕ → List ℕ → List ℕ → List ℕ
taken zero operands others = others
taken (suc n) operands others = taken n (below operands) (top operands ∷ others)

abbrev pub dropped : ℕ → List ℕ → List ℕ
dropped zero operands = operands
dropped (suc n) operands = dropped n (below operands)

-- an operand that is so many below the top
abbrev pub picked : ℕ → List ℕ → ℕ
picked zero operands = top operands
picked (suc i) operands = picked i (below operands)

-- registers become the arguments k, k + 1 and so on
abbrev pub passed_ops : ℕ → List ℕ → List Op
passed_ops k [] = []
passed_ops k (r ∷ rs) = op.Argument k r ∷ passed_ops (suc k) rs

-- the register that a key has or gets; the next register behind it, and the keys with it
abbrev pub register_of : ℕ → View → ℕ
register_of key v = or_next (find key v.keys) v.next

abbrev pub next_behind : Option ℕ → ℕ → ℕ
next_behind (Some r) next = next
next_behind None next = next + 1

abbrev pub keys_with : Option ℕ → (key next : ℕ) → List (ℕ × ℕ) → List (ℕ × ℕ)
keys_with (Some r) key next keys = keys
keys_with None key next keys = keys ++ (key, next) ∷ []

-- the ops that a builder's op issues
abbrev pub issued : BuildOp → View → List Op
issued (Const word) v = op.Const v.next word ∷ []
issued (Bin kind) v =
    check_ops (check_of kind) (top (below v.operands)) (top v.operands)
    (op.Bin kind v.next (top (below v.operands)) (top v.operands) ∷ [])
issued (Un kind) v = op.Un kind v.next (top v.operands) ∷ []
issued (GetVariable i) v = op.Move v.next (variable_in i v) ∷ []
issued (SetVariable i) v = op.Move (variable_in i v) (top v.operands) ∷ []
issued (Load width) v = op.Load width v.next (top v.operands) ∷ []
issued (Store width) v = op.Store width (top (below v.operands)) (top v.operands) ∷ []
issued (Label i) v = op.Label (label_in i v) ∷ []
issued (Jump i) v = op.Jump (label_in i v) ∷ []
issued (BranchZero i) v = op.BranchZero (top v.operands) (label_in i v) ∷ []
issued (BranchNonzero i) v = op.BranchNonzero (top v.operands) (label_in i v) ∷ []
issued ReturnZero v = op.ReturnZero ∷ []
issued (Run routine) v = op.Run routine v.next (top v.operands) ∷ []
issued (FrameAddress offset) v = op.FrameAddress v.next offset ∷ []
issued (Clear offset words) v = op.Clear offset words ∷ []
issued (Parameter k) v = op.GetParameter v.next k ∷ []
issued (Call address n) v = passed_ops 0 (taken n v.operands []) ++ op.Call address ∷ op.Result v.next ∷ []
issued (CallNumber n) v =
    passed_ops 0 (taken n v.operands []) ++ op.CallNumber (picked n v.operands) n ∷ op.Result v.next ∷ []
issued Return v = op.Return (top v.operands) ∷ []
issued (Sys kind) v = op.Sys kind v.next (top v.operands) ∷ []
issued (New address kind captures) v = op.New v.next address kind captures ∷ []
issued (Put i) v = op.Put i (top v.operands) ∷ []
issued (GetSpec key) v = op.Move (next_behind (find key v.keys) v.next) (register_of key v) ∷ []
issued (SetSpec key) v = op.Move (register_of key v) (top v.operands) ∷ []
issued _ v = []

-- a new operand under one op at a place, and one op with these operands left
abbrev pub pushed : ℕ → List ℕ → View → View
pushed place rest v = record v { place = suc place; operands = v.next ∷ rest; next = v.next + 1 }

abbrev pub with_operands : List ℕ → View → View
with_operands rest v = record v { place = suc v.place; operands = rest }

-- the builder behind an op
abbrev pub after_op : BuildOp → View → View
after_op (Const word) v = pushed v.place v.operands v
after_op (Bin kind) v = pushed (past_check (check_of kind) v.place) (below (below v.operands)) v
after_op (Un kind) v = pushed v.place (below v.operands) v
after_op (Pick i) v = record v { operands = picked i v.operands ∷ v.operands }
after_op Nip v = record v { operands = top v.operands ∷ below (below v.operands) }
after_op (Load width) v = pushed v.place (below v.operands) v
after_op (Store width) v = with_operands (top v.operands ∷ below (below v.operands)) v
after_op (BranchNonzero i) v = with_operands (below v.operands) v
after_op ReturnZero v = with_operands v.operands v
after_op (Run routine) v = pushed v.place (below v.operands) v
after_op (FrameAddress offset) v = pushed v.place v.operands v
after_op (Clear offset words) v = with_operands v.operands v
after_op (Parameter k) v = pushed v.place v.operands v
after_op (Call address n) v = pushed (v.place + suc n) (dropped n v.operands) v
after_op (CallNumber n) v = pushed (v.place + suc n) (below (dropped n v.operands)) v
after_op (GetVariable i) v = pushed v.place v.operands v
after_op (SetVariable i) v = with_operands v.operands v
after_op Drop v = record v { operands = below v.operands }
after_op (Label i) v = with_operands v.operands v
after_op (Jump i) v = with_operands v.operands v
after_op (BranchZero i) v = with_operands (below v.operands) v
after_op Return v = with_operands (below v.operands) v
after_op (Sys kind) v = pushed v.place (below v.operands) v
after_op (Enter n m) v = record v {
  bodies = (let body : Body = record { first_variable = v.next; variables = n; first_label = v.labels; labels = m } in
      body) ∷ v.bodies;
  next = v.next + n;
  labels = v.labels + m;
}
after_op Leave v = record v { bodies = outer v.bodies }
after_op (New address kind captures) v = pushed v.place v.operands v
after_op (Put i) v = with_operands (below v.operands) v
after_op (GetSpec key) v = record v {
  place = suc v.place;
  operands = next_behind (find key v.keys) v.next ∷ v.operands;
  next = next_behind (find key v.keys) v.next + 1;
  keys = keys_with (find key v.keys) key v.next v.keys;
}
after_op (SetSpec key) v = record v {
  place = suc v.place;
  next = next_behind (find key v.keys) v.next;
  keys = keys_with (find key v.keys) key v.next v.keys;
}

abbrev pub after_ops : List BuildOp → View → View
after_ops [] v = v
after_ops (o ∷ os) v = after_ops os (after_op o v)

-- the ops stand in the code from this place on
abbrev pub Has : List Op → ℕ → List Op → Type 0
Has code p [] = Unit {0}
Has code p (o ∷ os) = (slice_get code p ≡ Some o) × Has code (suc p) os

-- and this besides
abbrev pub HasAnd : Type 0 → List Op → ℕ → List Op → Type 0
HasAnd more code p [] = more
HasAnd more code p (o ∷ os) = (slice_get code p ≡ Some o) × HasAnd more code (suc p) os

pub has_of : (more : Type 0) (code : List Op) (p : ℕ) (os : List Op) → HasAnd more code p os → Has code p os
has_of more code p [] h = tt
has_of more code p (o ∷ os) h = (h.0, has_of more code (suc p) os h.1)

pub besides : (more : Type 0) (code : List Op) (p : ℕ) (os : List Op) → HasAnd more code p os → more
besides more code p [] h = h
besides more code p (o ∷ os) h = besides more code (suc p) os h.1

pub has_and : (more : Type 0) (code : List Op) (p : ℕ) (os : List Op) → Has code p os → more → HasAnd more code p os
has_and more code p [] h m = m
has_and more code p (o ∷ os) h m = (h.0, has_and more code (suc p) os h.1 m)

-- no key has this register
abbrev pub NotKey : List (ℕ × ℕ) → ℕ → Type 0
NotKey keys x = IsNone x keys

-- a key has this register
abbrev pub Among : List (ℕ × ℕ) → (key register : ℕ) → Type 0
Among [] key register = ⊥
Among (m ∷ keys) key register = ((m.0 ≡ key) × (m.1 ≡ register)) ⊎ Among keys key register

-- The registers that an op takes are none that a key has; and the key that one mentions has its register.
abbrev pub Apart : List (ℕ × ℕ) → BuildOp → View → Type 0
Apart keys (GetSpec key) v =
    Among keys key (register_of key v) × NotKey keys (next_behind (find key v.keys) v.next)
Apart keys (SetSpec key) v = Among keys key (register_of key v)
Apart keys o v = (x : ℕ) → v.next ≤ x → x < (after_op o v).next → NotKey keys x

-- What the builder issues for its ops stands in the code where the builder is, which has these keys in the end.
abbrev pub Stands : List Op → List (ℕ × ℕ) → List BuildOp → View → Type 0
Stands code keys [] v = Unit {0}
Stands code keys (o ∷ os) v =
    HasAnd (Apart keys o v) code v.place (issued o v) × Stands code keys os (after_op o v)

-- The registers that the ops take are none that a key has.
abbrev pub AreApart : List (ℕ × ℕ) → List BuildOp → View → Type 0
AreApart keys [] v = Unit {0}
AreApart keys (o ∷ os) v = Apart keys o v × AreApart keys os (after_op o v)

pub stands_front : (code : List Op) (keys : List (ℕ × ℕ)) (xs ys : List BuildOp) (v : View) →
    Stands code keys (xs ++ ys) v → Stands code keys xs v
stands_front code keys [] ys v h = tt
stands_front code keys (o ∷ xs) ys v h = (h.0, stands_front code keys xs ys (after_op o v) h.1)

pub stands_back : (code : List Op) (keys : List (ℕ × ℕ)) (xs ys : List BuildOp) (v : View) →
    Stands code keys (xs ++ ys) v → Stands code keys ys (after_ops xs v)
stands_back code keys [] ys v h = h
stands_back code keys (o ∷ xs) ys v h = stands_back code keys xs ys (after_op o v) h.1

pub after_append : (xs ys : List BuildOp) (v : View) → after_ops (xs ++ ys) v ≡ after_ops ys (after_ops xs v)
after_append [] ys v = refl
after_append (o ∷ xs) ys v = after_append xs ys (after_op o v)

-- the builder has one more operand, which is new
pub record Pushes (v v' : View) : Type 0 where
  pub operand : ℕ
  pub operands : v'.operands ≡ operand ∷ v.operands
  pub fresh : v.next ≤ operand
  pub used : operand < v'.next
  pub bodies : v'.bodies ≡ v.bodies

-- the builder has the same operands and bodies, and no register fewer
pub record Same (v v' : View) : Type 0 where
  pub operands : v'.operands ≡ v.operands
  pub bodies : v'.bodies ≡ v.bodies
  pub next : v.next ≤ v'.next

pub same_none : (v : View) → Same v v
same_none v = record { operands = refl; bodies = refl; next = omega arith }

pub same_on : (a b c : View) → Same a b → Same b c → Same a c
same_on a b c x y =
    record { operands = y.operands ∙ x.operands; bodies = y.bodies ∙ x.bodies; next = omega (arith, x.next, y.next) }

-- an operand is taken away
pub same_drop : (a b c : View) → c.operands ≡ below b.operands → c.bodies ≡ b.bodies → c.next ≡ b.next → Pushes a b →
    Same a c
same_drop a b c o e n p =
    record { operands = o ∙ ap below p.operands; bodies = e ∙ p.bodies; next = omega (arith, n, p.fresh, p.used) }

-- a step that keeps operands and bodies
pub same_here : (a b c : View) → b.operands ≡ a.operands → b.bodies ≡ a.bodies → b.next ≡ a.next → Same b c → Same a c
same_here a b c x y n p = record { operands = p.operands ∙ x; bodies = p.bodies ∙ y; next = omega (arith, n, p.next) }

pub same_there : (a b c : View) → c.operands ≡ b.operands → c.bodies ≡ b.bodies → c.next ≡ b.next → Same a b → Same a c
same_there a b c x y n p = record { operands = x ∙ p.operands; bodies = y ∙ p.bodies; next = omega (arith, n, p.next) }

pub push_keeps : (a b c : View) → c.operands ≡ b.operands → c.next ≡ b.next → c.bodies ≡ b.bodies → Pushes a b →
    Pushes a c
push_keeps a b c e n x p =
    record {
      operand = p.operand;
      operands = e ∙ p.operands;
      fresh = p.fresh;
      used = omega (arith, n, p.used);
      bodies =
          x ∙ p.bodies;
    }

-- one operand becomes another, and two become one
pub push_one : (a b c : View) → c.operands ≡ b.next ∷ below b.operands → c.next ≡ b.next + 1 → c.bodies ≡ b.bodies →
    Pushes a b → Pushes a c
push_one a b c e n x p = record {
  operand = b.next;
  operands = e ∙ ap (λ l. b.next ∷ below l) p.operands;
  fresh = omega (arith, p.fresh, p.used);
  used = omega (arith, n);
  bodies = x ∙ p.bodies;
}

pub push_two : (a b1 b2 c : View) → c.operands ≡ b2.next ∷ below (below b2.operands) → c.next ≡ b2.next + 1 →
    c.bodies ≡ b2.bodies → Pushes a b1 → Pushes b1 b2 → Pushes a c
push_two a b1 b2 c e n x p q = record {
  operand = b2.next;
  operands = e ∙ ap (λ l. b2.next ∷ below (below l)) q.operands ∙ ap (λ l. b2.next ∷ below l) p.operands;
  fresh = omega (arith, p.fresh, p.used, q.fresh, q.used);
  used = omega (arith, n);
  bodies = x ∙ q.bodies ∙ p.bodies;
}

-- the second of two operands stays, in place of both
pub push_over : (a b1 b2 c : View) → c.operands ≡ top b2.operands ∷ below (below b2.operands) → c.next ≡ b2.next →
    c.bodies ≡ b2.bodies → Pushes a b1 → Pushes b1 b2 → Pushes a c
push_over a b1 b2 c e n x p q = record {
  operand = q.operand;
  operands = e ∙ ap (λ l. top l ∷ below (below l)) q.operands ∙ ap (λ l. q.operand ∷ below l) p.operands;
  fresh = omega (arith, p.fresh, p.used, q.fresh);
  used = omega (arith, n, q.used);
  bodies = x ∙ q.bodies ∙ p.bodies;
}

-- n operands were pushed on what there was
pub record Piles (n : ℕ) (v v' : View) : Type 0 where
  pub operands : dropped n v'.operands ≡ v.operands
  pub bodies : v'.bodies ≡ v.bodies
  pub next : v.next ≤ v'.next

pub dropped_below : (n : ℕ) (xs : List ℕ) → dropped n (below xs) ≡ below (dropped n xs)
dropped_below zero xs = refl
dropped_below (suc n) xs = dropped_below n (below xs)

pub piles_more : (n : ℕ) (v v1 v2 : View) → Pushes v v1 → Piles n v1 v2 → Piles (suc n) v v2
piles_more n v v1 v2 p q = record {
  operands = dropped_below n v2.operands ∙ ap below q.operands ∙ ap below p.operands;
  bodies = q.bodies ∙ p.bodies;
  next = omega (arith, p.fresh, p.used, q.next);
}
