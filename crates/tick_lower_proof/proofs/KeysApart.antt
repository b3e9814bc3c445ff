-- The registers that ops take are none of the keys' that the builder has in the end: what is mentioned later has a
-- later register, and what was mentioned before an earlier one.
use Rattle.std.proofs.Common.{◌≡◌, ◌≢◌, ◌⊎◌, inl, inr, ℕ, ◌+◌, ◌<◌, ◌≤◌, List, [], ◌∷◌, ◌++◌, Option, Some}
use Rattle.std.proofs.Common.{None, true, false, refl, sym, ap, ◌∙◌, subst, arith, append_assoc}
use Rattle.std.proofs.lemmas.List.{append-nil}
use Rattle.std.proofs.lemmas.Bool.Decides.{eqb_tells}
use Rattle.std.specs.Prelude.{◌==◌, if◌then◌else◌}
use Rattle.icode_ir.specs.Build.{find, or_next}
use Rattle.icode_ir.specs.declared.build_op.BuildOp.{BuildOp}
use Rattle.icode_ir.specs.declared.build_op.BuildOp.TheVariants.{GetSpec, SetSpec}
use Rattle.icode_ir.specs.declared.build_op.BuildOp.TheVariants.{Bin, BranchNonzero, BranchZero, Call, CallNumber}
use Rattle.icode_ir.specs.declared.build_op.BuildOp.TheVariants.{Clear, Const}
use Rattle.icode_ir.specs.declared.build_op.BuildOp.TheVariants.{Drop, Enter, FrameAddress, GetVariable, Jump, Label}
use Rattle.icode_ir.specs.declared.build_op.BuildOp.TheVariants.{Leave}
use Rattle.icode_ir.specs.declared.build_op.BuildOp.TheVariants.{Load, New, Nip, Parameter, Pick, Put, Return}
use Rattle.icode_ir.specs.declared.build_op.BuildOp.TheVariants.{ReturnZero, Run, SetVariable, Store, Sys, Un}
use Rattle.tick_lower_proof.proofs.Builder.{View, after_op, after_ops, NotKey, Among, Apart, AreApart, next_behind}
use Rattle.tick_lower_proof.proofs.Builder.{keys_with}

-- registers of keys below a bound, and from one on
abbrev AreBelow : ℕ → List (ℕ × ℕ) → Type 0
AreBelow n [] = Unit {0}
AreBelow n (m ∷ keys) = (m.1 < n) × AreBelow n keys

abbrev AreAbove : ℕ → List (ℕ × ℕ) → Type 0
AreAbove n [] = Unit {0}
AreAbove n (m ∷ keys) = (n ≤ m.1) × AreAbove n keys

below_more : (n n1 : ℕ) (keys : List (ℕ × ℕ)) → n ≤ n1 → AreBelow n keys → AreBelow n1 keys
below_more n n1 [] le h = tt
below_more n n1 (m ∷ keys) le h = (omega (arith, h.0, le), below_more n n1 keys le h.1)

above_less : (n n1 : ℕ) (keys : List (ℕ × ℕ)) → n1 ≤ n → AreAbove n keys → AreAbove n1 keys
above_less n n1 [] le h = tt
above_less n n1 (m ∷ keys) le h = (omega (arith, h.0, le), above_less n n1 keys le h.1)

below_append : (n : ℕ) (xs ys : List (ℕ × ℕ)) → AreBelow n xs → AreBelow n ys → AreBelow n (xs ++ ys)
below_append n [] ys h k = k
below_append n (m ∷ xs) ys h k = (h.0, below_append n xs ys h.1 k)

above_append : (n : ℕ) (xs ys : List (ℕ × ℕ)) → AreAbove n xs → AreAbove n ys → AreAbove n (xs ++ ys)
above_append n [] ys h k = k
above_append n (m ∷ xs) ys h k = (h.0, above_append n xs ys h.1 k)

not_below : (n x : ℕ) (keys : List (ℕ × ℕ)) → AreBelow n keys → n ≤ x → NotKey keys x
not_below n x [] h le = tt
not_below n x (m ∷ keys) h le = (let ne : m.1 ≢ x = omega (arith, h.0, le) in ne, not_below n x keys h.1 le)

not_above : (n x : ℕ) (keys : List (ℕ × ℕ)) → AreAbove n keys → x < n → NotKey keys x
not_above n x [] h lt = tt
not_above n x (m ∷ keys) h lt = (let ne : m.1 ≢ x = omega (arith, h.0, lt) in ne, not_above n x keys h.1 lt)

not_both : (x : ℕ) (xs ys : List (ℕ × ℕ)) → NotKey xs x → NotKey ys x → NotKey (xs ++ ys) x
not_both x [] ys h k = k
not_both x (m ∷ xs) ys h k = (h.0, not_both x xs ys h.1 k)

among_front : (xs ys : List (ℕ × ℕ)) (key r : ℕ) → Among xs key r → Among (xs ++ ys) key r
among_front [] ys key r h = absurd h
among_front (m ∷ xs) ys key r (inl h) = inl h
among_front (m ∷ xs) ys key r (inr h) = inr (among_front xs ys key r h)

among_last : (xs : List (ℕ × ℕ)) (key r : ℕ) → Among (xs ++ (key, r) ∷ []) key r
among_last [] key r = inl (refl, refl)
among_last (m ∷ xs) key r = inr (among_last xs key r)

found_among : (key r : ℕ) (keys : List (ℕ × ℕ)) → find key keys ≡ Some r → Among keys key r
found_among key r [] e = absurd cc
found_among key r (m ∷ keys) e = by (λ h. found_among key r keys h) (eqb_tells key m.0) e
  where
    by : (find key keys ≡ Some r → Among keys key r) →
        (((key == m.0) ≡ true) × (key ≡ m.0)) ⊎ (((key == m.0) ≡ false) × (key ≢ m.0)) → (if key == m.0 then Some m.1
        else find key keys) ≡ Some r →
        ((m.0 ≡ key) × (m.1 ≡ r)) ⊎ Among keys key r
    by rest (inl y) h =
        let here : Some m.1 ≡ Some r = sym (ap (λ t. if t then Some m.1 else find key keys) y.0) ∙ h in
        inl (sym y.1, cc)
    by rest (inr n) h = inr (rest (sym (ap (λ t. if t then Some m.1 else find key keys) n.0) ∙ h))

-- a mention
mention_among : (key : ℕ) (v : View) (o : Option ℕ) → find key v.keys ≡ o →
    Among (keys_with o key v.next v.keys) key (or_next o v.next)
mention_among key v (Some r) e = found_among key r v.keys e
mention_among key v None e = among_last v.keys key v.next

mention_below : (key : ℕ) (v : View) (o : Option ℕ) → AreBelow v.next v.keys →
    AreBelow (next_behind o v.next) (keys_with o key v.next v.keys)
mention_below key v (Some r) h = h
mention_below key v None h =
    below_append (v.next + 1) v.keys ((key, v.next) ∷ []) (below_more v.next (v.next + 1) v.keys (omega arith) h)
    (omega arith, tt)

-- what is mentioned from here on
record Later (keys : List (ℕ × ℕ)) (v : View) : Type 0 where
  more : List (ℕ × ℕ)
  is : keys ≡ v.keys ++ more
  above : AreAbove v.next more

later_mention : (keys : List (ℕ × ℕ)) (key : ℕ) (v : View) (o : Option ℕ) (more : List (ℕ × ℕ)) →
    keys ≡ keys_with o key v.next v.keys ++ more → AreAbove (next_behind o v.next) more → Later keys v
later_mention keys key v (Some r) more is above = record { more = more; is = is; above = above }
later_mention keys key v None more is above = record {
  more = (key, v.next) ∷ more;
  is = is ∙ append_assoc v.keys ((key, v.next) ∷ []) more;
  above = (omega arith, above_less (v.next + 1) v.next more (omega arith) above);
}

-- an op that mentions none
later_plain : (keys more : List (ℕ × ℕ)) (v : View) (next : ℕ) → keys ≡ v.keys ++ more → AreAbove next more →
    v.next ≤ next → Later keys v
later_plain keys more v next is above le =
    record { more = more; is = is; above = above_less next v.next more le above }

apart_plain : (keys more : List (ℕ × ℕ)) (v : View) (next : ℕ) → keys ≡ v.keys ++ more → AreAbove next more →
    AreBelow v.next v.keys → (x : ℕ) → v.next ≤ x → x < next → NotKey keys x
apart_plain keys more v next is above below x lo hi =
    subst (λ ks. NotKey ks x) (sym is)
    (not_both x v.keys more (not_below v.next x v.keys below lo) (not_above next x more above hi))

-- one op
record Step (o : BuildOp) (keys : List (ℕ × ℕ)) (v : View) : Type 0 where
  apart : Apart keys o v
  later : Later keys v

step : (o : BuildOp) (keys : List (ℕ × ℕ)) (v : View) → AreBelow v.next v.keys → Later keys (after_op o v) →
    Step o keys v
step (GetSpec key) keys v below l =
    let o = find key v.keys in
    let n = next_behind o v.next in
    let low = mention_below key v o below in
    let ks = keys_with o key v.next v.keys in
    let above = above_less (n + 1) n l.more (omega arith) l.above in
    record {
      apart = (
        subst (λ z. Among z key (or_next o v.next)) (sym l.is)
            (among_front ks l.more key (or_next o v.next) (mention_among key v o refl)),
        subst (λ z. NotKey z n) (sym l.is)
            (not_both n ks l.more (not_below n n ks low (omega arith))
            (not_above (n + 1) n l.more l.above (omega arith))),
      );
      later = later_mention keys key v o l.more l.is above;
    }
step (SetSpec key) keys v below l =
    let o = find key v.keys in
    let ks = keys_with o key v.next v.keys in
    record {
      apart = subst (λ z. Among z key (or_next o v.next)) (sym l.is)
          (among_front ks l.more key (or_next o v.next) (mention_among key v o refl));
      later = later_mention keys key v o l.more l.is l.above;
    }
step (Const word) keys v below l = record {
  apart = apart_plain keys l.more v (after_op (Const word) v).next l.is l.above below;
  later = later_plain keys l.more v (after_op (Const word) v).next l.is l.above (omega arith);
}
step (Bin kind) keys v below l = record {
  apart = apart_plain keys l.more v (after_op (Bin kind) v).next l.is l.above below;
  later = later_plain keys l.more v (after_op (Bin kind) v).next l.is l.above (omega arith);
}
step (Un kind) keys v below l = record {
  apart = apart_plain keys l.more v (after_op (Un kind) v).next l.is l.above below;
  later = later_plain keys l.more v (after_op (Un kind) v).next l.is l.above (omega arith);
}
step (Enter n m) keys v below l = record {
  apart = apart_plain keys l.more v (after_op (Enter n m) v).next l.is l.above below;
  later = later_plain keys l.more v (after_op (Enter n m) v).next l.is l.above (omega arith);
}
step Leave keys v below l = record {
  apart = apart_plain keys l.more v (after_op Leave v).next l.is l.above below;
  later = later_plain keys l.more v (after_op Leave v).next l.is l.above (omega arith);
}
step (GetVariable i) keys v below l = record {
  apart = apart_plain keys l.more v (after_op (GetVariable i) v).next l.is l.above below;
  later = later_plain keys l.more v (after_op (GetVariable i) v).next l.is l.above (omega arith);
}
step (SetVariable i) keys v below l = record {
  apart = apart_plain keys l.more v (after_op (SetVariable i) v).next l.is l.above below;
  later = later_plain keys l.more v (after_op (SetVariable i) v).next l.is l.above (omega arith);
}
step Drop keys v below l = record {
  apart = apart_plain keys l.more v (after_op Drop v).next l.is l.above below;
  later = later_plain keys l.more v (after_op Drop v).next l.is l.above (omega arith);
}
step (Pick i) keys v below l = record {
  apart = apart_plain keys l.more v (after_op (Pick i) v).next l.is l.above below;
  later = later_plain keys l.more v (after_op (Pick i) v).next l.is l.above (omega arith);
}
step Nip keys v below l = record {
  apart = apart_plain keys l.more v (after_op Nip v).next l.is l.above below;
  later = later_plain keys l.more v (after_op Nip v).next l.is l.above (omega arith);
}
step (Load width) keys v below l = record {
  apart = apart_plain keys l.more v (after_op (Load width) v).next l.is l.above below;
  later = later_plain keys l.more v (after_op (Load width) v).next l.is l.above (omega arith);
}
step (Store width) keys v below l = record {
  apart = apart_plain keys l.more v (after_op (Store width) v).next l.is l.above below;
  later = later_plain keys l.more v (after_op (Store width) v).next l.is l.above (omega arith);
}
step (Label i) keys v below l = record {
  apart = apart_plain keys l.more v (after_op (Label i) v).next l.is l.above below;
  later = later_plain keys l.more v (after_op (Label i) v).next l.is l.above (omega arith);
}
step (Jump i) keys v below l = record {
  apart = apart_plain keys l.more v (after_op (Jump i) v).next l.is l.above below;
  later = later_plain keys l.more v (after_op (Jump i) v).next l.is l.above (omega arith);
}
step (BranchZero i) keys v below l = record {
  apart = apart_plain keys l.more v (after_op (BranchZero i) v).next l.is l.above below;
  later = later_plain keys l.more v (after_op (BranchZero i) v).next l.is l.above (omega arith);
}
step (BranchNonzero i) keys v below l = record {
  apart = apart_plain keys l.more v (after_op (BranchNonzero i) v).next l.is l.above below;
  later = later_plain keys l.more v (after_op (BranchNonzero i) v).next l.is l.above (omega arith);
}
step (Call address n) keys v below l = record {
  apart = apart_plain keys l.more v (after_op (Call address n) v).next l.is l.above below;
  later = later_plain keys l.more v (after_op (Call address n) v).next l.is l.above (omega arith);
}
step (CallNumber n) keys v below l = record {
  apart = apart_plain keys l.more v (after_op (CallNumber n) v).next l.is l.above below;
  later = later_plain keys l.more v (after_op (CallNumber n) v).next l.is l.above (omega arith);
}
step Return keys v below l = record {
  apart = apart_plain keys l.more v (after_op Return v).next l.is l.above below;
  later = later_plain keys l.more v (after_op Return v).next l.is l.above (omega arith);
}
step ReturnZero keys v below l = record {
  apart = apart_plain keys l.more v (after_op ReturnZero v).next l.is l.above below;
  later = later_plain keys l.more v (after_op ReturnZero v).next l.is l.above (omega arith);
}
step (Sys kind) keys v below l = record {
  apart = apart_plain keys l.more v (after_op (Sys kind) v).next l.is l.above below;
  later = later_plain keys l.more v (after_op (Sys kind) v).next l.is l.above (omega arith);
}
step (Run routine) keys v below l = record {
  apart = apart_plain keys l.more v (after_op (Run routine) v).next l.is l.above below;
  later = later_plain keys l.more v (after_op (Run routine) v).next l.is l.above (omega arith);
}
step (FrameAddress offset) keys v below l = record {
  apart = apart_plain keys l.more v (after_op (FrameAddress offset) v).next l.is l.above below;
  later = later_plain keys l.more v (after_op (FrameAddress offset) v).next l.is l.above (omega arith);
}
step (Clear offset words) keys v below l = record {
  apart = apart_plain keys l.more v (after_op (Clear offset words) v).next l.is l.above below;
  later = later_plain keys l.more v (after_op (Clear offset words) v).next l.is l.above (omega arith);
}
step (New address kind captures) keys v below l = record {
  apart = apart_plain keys l.more v (after_op (New address kind captures) v).next l.is l.above below;
  later = later_plain keys l.more v (after_op (New address kind captures) v).next l.is l.above (omega arith);
}
step (Put i) keys v below l = record {
  apart = apart_plain keys l.more v (after_op (Put i) v).next l.is l.above below;
  later = later_plain keys l.more v (after_op (Put i) v).next l.is l.above (omega arith);
}
step (Parameter k) keys v below l = record {
  apart = apart_plain keys l.more v (after_op (Parameter k) v).next l.is l.above below;
  later = later_plain keys l.more v (after_op (Parameter k) v).next l.is l.above (omega arith);
}

-- the keys stay below the next register
step_below : (o : BuildOp) (v : View) → AreBelow v.next v.keys → AreBelow (after_op o v).next (after_op o v).keys
step_below (GetSpec key) v below =
    let n = next_behind (find key v.keys) v.next in
    below_more n (n + 1) (keys_with (find key v.keys) key v.next v.keys) (omega arith)
    (mention_below key v (find key v.keys) below)
step_below (SetSpec key) v below = mention_below key v (find key v.keys) below
step_below (Const word) v below = below_more v.next (after_op (Const word) v).next v.keys (omega arith) below
step_below (Bin kind) v below = below_more v.next (after_op (Bin kind) v).next v.keys (omega arith) below
step_below (Un kind) v below = below_more v.next (after_op (Un kind) v).next v.keys (omega arith) below
step_below (Enter n m) v below = below_more v.next (after_op (Enter n m) v).next v.keys (omega arith) below
step_below Leave v below = below_more v.next (after_op Leave v).next v.keys (omega arith) below
step_below (GetVariable i) v below = below_more v.next (after_op (GetVariable i) v).next v.keys (omega arith) below
step_below (SetVariable i) v below = below_more v.next (after_op (SetVariable i) v).next v.keys (omega arith) below
step_below Drop v below = below_more v.next (after_op Drop v).next v.keys (omega arith) below
step_below (Pick i) v below = below_more v.next (after_op (Pick i) v).next v.keys (omega arith) below
step_below Nip v below = below_more v.next (after_op Nip v).next v.keys (omega arith) below
step_below (Load width) v below = below_more v.next (after_op (Load width) v).next v.keys (omega arith) below
step_below (Store width) v below = below_more v.next (after_op (Store width) v).next v.keys (omega arith) below
step_below (Label i) v below = below_more v.next (after_op (Label i) v).next v.keys (omega arith) below
step_below (Jump i) v below = below_more v.next (after_op (Jump i) v).next v.keys (omega arith) below
step_below (BranchZero i) v below = below_more v.next (after_op (BranchZero i) v).next v.keys (omega arith) below
step_below (BranchNonzero i) v below = below_more v.next (after_op (BranchNonzero i) v).next v.keys (omega arith) below
step_below (Call address n) v below = below_more v.next (after_op (Call address n) v).next v.keys (omega arith) below
step_below (CallNumber n) v below = below_more v.next (after_op (CallNumber n) v).next v.keys (omega arith) below
step_below Return v below = below_more v.next (after_op Return v).next v.keys (omega arith) below
step_below ReturnZero v below = below_more v.next (after_op ReturnZero v).next v.keys (omega arith) below
step_below (Sys kind) v below = below_more v.next (after_op (Sys kind) v).next v.keys (omega arith) below
step_below (Run routine) v below = below_more v.next (after_op (Run routine) v).next v.keys (omega arith) below
step_below (FrameAddress offset) v below = below_more v.next (after_op (FrameAddress offset) v).next v.keys (omega
    arith) below
step_below (Clear offset words) v below = below_more v.next (after_op (Clear offset words) v).next v.keys (omega arith)
    below
step_below (New address kind captures) v below = below_more v.next (after_op (New address kind captures) v).next v.keys
    (omega arith) below
step_below (Put i) v below = below_more v.next (after_op (Put i) v).next v.keys (omega arith) below
step_below (Parameter k) v below = below_more v.next (after_op (Parameter k) v).next v.keys (omega arith) below

-- all ops
record Whole (os : List BuildOp) (v : View) : Type 0 where
  apart : AreApart (after_ops os v).keys os v
  later : Later (after_ops os v).keys v

whole : (os : List BuildOp) (v : View) → AreBelow v.next v.keys → Whole os v
whole [] v below = record {
  apart = tt;
  later = record { more = []; is = sym (append-nil v.keys); above = tt };
}
whole (o ∷ os) v below =
    let w = whole os (after_op o v) (step_below o v below) in
    let s = step o (after_ops os (after_op o v)).keys v below w.later in
    record { apart = (s.apart, w.apart); later = s.later }

-- from a builder without keys
pub all_apart : (os : List BuildOp) (v : View) → v.keys ≡ [] → AreApart (after_ops os v).keys os v
all_apart os v none = (whole os v (subst (AreBelow v.next) (sym none) tt)).apart
