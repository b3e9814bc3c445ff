-- Lists that begin with the same.
use Rattle.std.proofs.Common.{◌≡◌, ◌≤◌, List, [], ◌++◌, length, refl, sym, ap, ◌∙◌, append_assoc, append-nil}
use Rattle.std.proofs.Common.{length-append, arith}
use Rattle.std.proofs.lemmas.List.{append_cancel_left}
use Rattle.wf_walk.specs.Kept.{Starts}

abbrev pub starts_same : {A : Type 0} (xs ys : List A) → ys ≡ xs → Starts xs ys
starts_same xs ys e = record { rest = []; is = e ∙ sym (append-nil xs) }

abbrev pub starts_refl : {A : Type 0} (xs : List A) → Starts xs xs
starts_refl xs = starts_same xs xs refl

abbrev pub starts_behind : {A : Type 0} (xs ys : List A) → Starts xs (xs ++ ys)
starts_behind xs ys = record { rest = ys; is = refl }

abbrev pub starts_more : {A : Type 0} {xs ys zs : List A} → Starts xs ys → Starts ys zs → Starts xs zs
starts_more {xs = xs} p q =
    record { rest = p.rest ++ q.rest; is = q.is ∙ ap (λ l. l ++ q.rest) p.is ∙ append_assoc xs p.rest q.rest }

abbrev pub starts_front : {A : Type 0} (xs ys : List A) {zs : List A} → Starts (xs ++ ys) zs → Starts xs zs
starts_front xs ys p = record { rest = ys ++ p.rest; is = p.is ∙ append_assoc xs ys p.rest }

pub starts_length : {A : Type 0} {xs ys : List A} → Starts xs ys → length xs ≤ length ys
starts_length {xs = xs} p = omega (arith, length-append xs p.rest, ap length p.is)

-- what is behind the front is one list
pub same_rest : {A : Type 0} {xs ys : List A} (p q : Starts xs ys) → p.rest ≡ q.rest
same_rest {xs = xs} p q = append_cancel_left xs p.rest q.rest (sym p.is ∙ q.is)

-- where the lists are the same, nothing is
pub no_rest : {A : Type 0} {xs ys : List A} → ys ≡ xs → (p : Starts xs ys) → p.rest ≡ []
no_rest {xs = xs} {ys = ys} e p = same_rest p (starts_same xs ys e)
