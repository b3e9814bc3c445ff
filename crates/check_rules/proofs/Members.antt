-- A value more is found among the values of a switch.
use mathlib.Core.Path.{fun_ext}
use Rattle.std.proofs.Common.{◌≡◌, ℕ, List, [], ◌∷◌, ◌++◌, Bool, true, false, nat_eq, ap, sym, ◌∙◌, arith}
use Rattle.std.proofs.lemmas.Bool.Decides.{nat_tests}
use Rattle.std.proofs.lemmas.List.Folds.{list_any-append}
use Rattle.std.specs.Cmp.{unsigned_tied}
use Rattle.std.specs.List.{list_any}
use Rattle.std.specs.Ordering.{is_eq, nat_cmp}
use Rattle.std.specs.Prelude.{◌||◌, cond}
use Rattle.check_rules.specs.Members.{is_member, HasAll}

-- a value is found in order just where it is one of them
pub found_is : (n : ℕ) (values : List ℕ) → list_any (λ x. is_eq (nat_cmp n x)) values ≡ is_member n values
found_is n values = ap (λ test. list_any test values) (fun_ext (λ x. unsigned_tied n x))

-- one more at the end is another one to be equal to
last_more : (n value : ℕ) (b c : Bool) → c ≡ b →
    cond (is_eq (nat_cmp value n)) true c ≡ (b || (nat_eq n value || false))
last_more n value b c e = ap (λ d. cond d true c) (unsigned_tied value n) ∙ by b c e
  where
    by : (b c : Bool) → c ≡ b → cond (nat_eq value n) true c ≡ (b || (nat_eq n value || false))
    by true c e = grind (arith, nat_tests)
    by false c e = grind (arith, nat_tests)

pub has_one_more : (found new all : List ℕ) (value : ℕ) → HasAll found all →
    ((n : ℕ) → list_any (λ x. is_eq (nat_cmp n x)) new ≡
    cond (is_eq (nat_cmp value n)) true (list_any (λ x. is_eq (nat_cmp n x)) found)) → HasAll new (all ++ value ∷ [])
has_one_more found new all value has more n =
    sym (found_is n new) ∙ more n ∙
    last_more n value (is_member n all) (list_any (λ x. is_eq (nat_cmp n x)) found) (found_is n found ∙ has n) ∙
    sym (list_any-append (nat_eq n) all (value ∷ []))
