-- The last step is taken first, and of all broken rules the one of the lowest number is kept.
use Rattle.std.proofs.Common.{◌≡◌, ℕ, zero, suc, ◌+◌, ◌*◌, ◌≤◌, Bool, true, false, List, [], ◌∷◌, ◌++◌, length, drop}
use Rattle.std.proofs.Common.{get_or, Option, Some, None, refl, ap, sym, ◌∙◌, arith, add-one}
use Rattle.std.proofs.Math.Seq.{drop-cons}
use Rattle.std.specs.Prelude.{min, nat_lt, if◌then◌else◌}
use Rattle.c_types.specs.declared.ctype.Base.{Base}
use Rattle.std.proofs.lemmas.Bool.Decides.{nat_tests}
use Rattle.c_types.specs.declared.ctype.Layer.{Layer, out-Layer}
use Rattle.c_types.specs.declared.ctype.Layer.TheVariants as layer
use Rattle.c_types.specs.Types.{base_size, size_under, size_at}
use Rattle.tick_tree.specs.declared.fault.FaultKind.{FaultKind}
use Rattle.tick_tree.specs.Faults.{number}
use Rattle.check_declarators.specs.declared.steps.Step.{Step}
use Rattle.check_declarators.specs.declared.steps.Step.TheVariants as step
use Rattle.tick_tree.specs.declared.base.Prefix.{Prefix}
use Rattle.check_declarators.specs.Steps.{layer_of, prefixed}
use Rattle.check_declarators.specs.Making.{lower, lower_of, made, worst, breaks, bytes}

-- ---- of three broken rules

none_right : (a : Option FaultKind) → lower a None ≡ a
none_right None = refl
none_right (Some a) = refl

less : (x y z : ℕ) → nat_lt y x ≡ true → nat_lt z y ≡ true → nat_lt z x ≡ true
less x y z e f = grind (arith, nat_tests)

no_less : (x y z : ℕ) → nat_lt y x ≡ false → nat_lt z y ≡ false → nat_lt z x ≡ false
no_less x y z e f = grind (arith, nat_tests)

three : (a b c : FaultKind) (p q : Bool) → nat_lt (number b) (number a) ≡ p → nat_lt (number c) (number b) ≡ q →
    lower (if p then Some b else Some a) (Some c) ≡ lower (Some a) (if q then Some c else Some b)
three a b c true true e f =
    ap (λ t. if t then Some c else Some b) f
    ∙ sym (ap (λ t. if t then Some c else Some a) (less (number a) (number b) (number c) e f))
three a b c true false e f =
    ap (λ t. if t then Some c else Some b) f
    ∙ sym (ap (λ t. if t then Some b else Some a) e)
three a b c false true e f = refl
three a b c false false e f =
    ap (λ t. if t then Some c else Some a) (no_less (number a) (number b) (number c) e f)
    ∙ sym (ap (λ t. if t then Some b else Some a) e)

grouped : (a b c : Option FaultKind) → lower (lower a b) c ≡ lower a (lower b c)
grouped None b c = refl
grouped (Some a) None c = refl
grouped (Some a) (Some b) None = none_right (lower_of a b)
grouped (Some a) (Some b) (Some c) = three a b c (nat_lt (number b) (number a)) (nat_lt (number c) (number b)) refl refl

-- ---- steps

last_made : (ss : List Step) (s : Step) (ls : List Layer) → made (ss ++ s ∷ []) ls ≡ made ss (ls ++ layer_of s ∷ [])
last_made [] s ls = refl
last_made (z ∷ ss) s ls = ap (λ l. l ++ layer_of z ∷ []) (last_made ss s ls)

last_worst : (ss : List Step) (s : Step) (b : Base) (ls : List Layer) →
    worst (ss ++ s ∷ []) b ls ≡ lower (breaks s b ls) (worst ss b (ls ++ layer_of s ∷ []))
last_worst [] s b ls = sym (none_right (breaks s b ls))
last_worst (z ∷ ss) s b ls =
    ap (λ w. lower w (breaks z b (made (ss ++ s ∷ []) ls))) (last_worst ss s b ls)
    ∙ ap (λ l. lower (lower (breaks s b ls) (worst ss b (ls ++ layer_of s ∷ []))) (breaks z b l)) (last_made ss s ls)
    ∙ grouped (breaks s b ls) (worst ss b (ls ++ layer_of s ∷ [])) (breaks z b (made ss (ls ++ layer_of s ∷ [])))

pub goes_made : (old ss : List Step) (s : Step) (ls next all : List Layer) → old ≡ ss ++ s ∷ [] →
    next ≡ ls ++ layer_of s ∷ [] → made old ls ≡ all → made ss next ≡ all
goes_made old ss s ls next all e n i = ap (made ss) n ∙ sym (last_made ss s ls) ∙ ap (λ l. made l ls) (sym e) ∙ i

pub goes_worst : (old ss : List Step) (s : Step) (b : Base) (ls next : List Layer) (w all : Option FaultKind) →
    old ≡ ss ++ s ∷ [] → next ≡ ls ++ layer_of s ∷ [] → lower w (worst old b ls) ≡ all →
    lower (lower w (breaks s b ls)) (worst ss b next) ≡ all
goes_worst old ss s b ls next w all e n i =
    ap (λ l. lower (lower w (breaks s b ls)) (worst ss b l)) n
    ∙ grouped w (breaks s b ls) (worst ss b (ls ++ layer_of s ∷ []))
    ∙ ap (lower w) (sym (last_worst ss s b ls))
    ∙ ap (λ l. lower w (worst l b ls)) (sym e)
    ∙ i

-- ---- sizes

over : (n : ℕ) (ls : List Layer) (l : Layer) → size_under n (ls ++ l ∷ []) ≡ size_at (size_under n ls) (out-Layer l)
over n [] l = refl
over n (z ∷ ls) l = over (size_at n (out-Layer z)) ls l

cap : (a s k : ℕ) → min (min a k * s) k ≡ min (a * s) k
cap a zero k = grind (arith)
cap a (suc s) k = grind (arith)

-- the bytes under one layer more
pub grows : (b : Base) (ls : List Layer) (l : Layer) (size : ℕ) →
    min (size_at (bytes b ls) (out-Layer l)) 4194305 ≡ size → size ≡ min (bytes b (ls ++ l ∷ [])) 4194305
grows b ls l size e = sym e ∙ ap (λ n. min n 4194305) (sym (over (base_size b) ls l))

-- an array's layer takes the bytes so many times
pub array_grows : (b : Base) (ls : List Layer) (l : Layer) (n size r : ℕ) → l ≡ layer.Array n →
    size ≡ min (bytes b ls) 4194305 → r ≡ min (size * n) 4194305 → r ≡ min (bytes b (ls ++ l ∷ [])) 4194305
array_grows b ls l n size r is small e =
    e
    ∙ ap (λ k. min (k * n) 4194305) small
    ∙ cap (bytes b ls) n 4194305
    ∙ ap (λ k. min k 4194305)
    (sym (over (base_size b) ls l ∙ ap (λ l. size_at (bytes b ls) (out-Layer l)) is ∙
    ap (size_at (bytes b ls)) (layer.outs-Array n)))

-- ---- one step of the loop that takes them all

pub step_made : (old ss : List Step) (s : Step) (l : Layer) (ls next all : List Layer) → old ≡ ss ++ s ∷ [] →
    l ≡ layer_of s → next ≡ ls ++ l ∷ [] → made old ls ≡ all → made ss next ≡ all
step_made old ss s l ls next all e is n i = goes_made old ss s ls next all e (n ∙ ap (λ l. ls ++ l ∷ []) is) i

pub step_worst : (old ss : List Step) (s : Step) (b : Base) (l : Layer) (ls view next : List Layer)
    (w f r all : Option FaultKind) → old ≡ ss ++ s ∷ [] → l ≡ layer_of s → view ≡ ls → f ≡ breaks s b view →
    r ≡ lower w f → next ≡ ls ++ l ∷ [] → lower w (worst old b ls) ≡ all → lower r (worst ss b next) ≡ all
step_worst old ss s b l ls view next w f r all e is seen broken low n i =
    ap (λ x. lower x (worst ss b next)) (low ∙ ap (lower w) (broken ∙ ap (breaks s b) seen))
    ∙ goes_worst old ss s b ls next w all e (n ∙ ap (λ l. ls ++ l ∷ []) is) i

pub step_size : (b : Base) (l : Layer) (ls view next : List Layer) (r : ℕ) → view ≡ ls →
    r ≡ min (bytes b (view ++ l ∷ [])) 4194305 → next ≡ ls ++ l ∷ [] → r ≡ min (bytes b next) 4194305
step_size b l ls view next r seen e n =
    e ∙ ap (λ v. min (bytes b (v ++ l ∷ [])) 4194305) seen ∙ ap (λ v. min (bytes b v) 4194305) (sym n)

-- ---- prefixes

-- a prefix before those that are taken already
pub prefix_more : (ps : List Prefix) (at top : ℕ) (p : Prefix) (old new all : List Step) → at + 1 ≡ top →
    top ≤ length ps → p ≡ get_or ps at p → old ≡ prefixed (drop top ps) all → new ≡ old ++ step.Prefix p ∷ [] →
    new ≡ prefixed (drop at ps) all
prefix_more ps at top p old new all e within is known n =
    let here : drop at ps ≡ p ∷ drop top ps =
    drop-cons ps at p (omega (arith, e, within)) ∙ ap (λ x. x ∷ drop (suc at) ps) (sym is) ∙
    ap (λ k. p ∷ drop k ps) (sym (add-one at) ∙ e) in
    n ∙ ap (λ o. o ++ step.Prefix p ∷ []) known ∙ ap (λ l. prefixed l all) (sym here)
