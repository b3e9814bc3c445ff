-- What the line of an instruction says.
use Rattle.std.proofs.Common.{◌≡◌, ℕ, ◌<◌, Bool, true, false, ◌&&◌, List, [], ◌∷◌, ◌++◌, length, Option, Some, refl, ap}
use Rattle.std.proofs.Common.{◌∙◌, subst, arith, codes, append_assoc}
use Rattle.std.specs.Prelude.{decimal}
use Rattle.std.specs.List.{list_all}
use Rattle.std.proofs.lemmas.List.Folds.{list_all-append}
use Rattle.asm_words.specs.declared.operation.Operation.{Operation}
use Rattle.asm_words.specs.Operations.{operation_name}
use Rattle.asm_lines.specs.declared.operand.Operands.TheVariants as operands
use Rattle.asm_lines.specs.declared.draft.Draft.{Draft}
use Rattle.asm_lines.specs.declared.line.Statement.TheVariants as statement
use Rattle.asm_lines.specs.Operands.{◌>>=◌, pure}
use Rattle.asm_lines.specs.Drafts.{drafted, one, two, three, based}
use Rattle.mips_text_proof.proofs.Feeds.{in_line, Says, says_line}
use Rattle.mips_text_proof.proofs.Names.{wordy_name}
use Rattle.mips_text_proof.proofs.Wordy.{Wordy, wordy_decimal}
use Rattle.mips_text_proof.proofs.Shapes.{row_one, row_two, row_three, row_based}

both : (a b : Bool) → a ≡ true → b ≡ true → (a && b) ≡ true
both true b g h = h
both false b g h = g

feeds_join : (x y : List ℕ) → list_all in_line x ≡ true → list_all in_line y ≡ true → list_all in_line (x ++ y) ≡ true
feeds_join x y g h = list_all-append in_line x y ∙ both (list_all in_line x) (list_all in_line y) g h

-- ---- the text of a register

abbrev pub reg : ℕ → List ℕ
reg n = codes "$" ++ decimal n

pub wordy_reg : (n : ℕ) → n < 32 → Wordy (reg n)
wordy_reg n h = let d = wordy_decimal n (omega arith) in record { parts = d.parts; feeds = d.feeds }

pub some_reg : (n : ℕ) → 0 < length (reg n)
some_reg n = omega arith

-- ---- operands that are read

pub one_is : {A R : Type 0} (f : List ℕ → Option A) (r : A → R) (a : List ℕ) (x : A) → f a ≡ Some x →
    one f r (operands.One a) ≡ Some (r x)
one_is f r a x e = ap (λ o. o >>= (λ x. pure (r x))) e

pub two_is : {A B R : Type 0} (f : List ℕ → Option A) (g : List ℕ → Option B) (r : A → B → R) (a b : List ℕ) (x : A)
    (y : B) →
    f a ≡ Some x → g b ≡ Some y → two f g r (operands.Two a b) ≡ Some (r x y)
two_is f g r a b x y e h = ap (λ o. o >>= (λ x. g b >>= (λ y. pure (r x y)))) e ∙ ap (λ o. o >>= (λ y. pure (r x y))) h

pub three_is : {A B C R : Type 0} (f : List ℕ → Option A) (g : List ℕ → Option B) (k : List ℕ → Option C)
    (r : A → B → C → R)
    (a b c : List ℕ) (x : A) (y : B) (z : C) → f a ≡ Some x → g b ≡ Some y → k c ≡ Some z →
    three f g k r (operands.Three a b c) ≡ Some (r x y z)
three_is f g k r a b c x y z e h i =
    ap (λ o. o >>= (λ x. g b >>= (λ y. k c >>= (λ z. pure (r x y z))))) e
    ∙ ap (λ o. o >>= (λ y. k c >>= (λ z. pure (r x y z)))) h
    ∙ ap (λ o. o >>= (λ z. pure (r x y z))) i

pub based_is : {A B C R : Type 0} (f : List ℕ → Option A) (g : List ℕ → Option B) (k : List ℕ → Option C)
    (r : A → B → C → R)
    (a b c : List ℕ) (x : A) (y : B) (z : C) → f a ≡ Some x → g b ≡ Some y → k c ≡ Some z →
    based f g k r (operands.Based a b c) ≡ Some (r x y z)
based_is f g k r a b c x y z e h i =
    ap (λ o. o >>= (λ x. g b >>= (λ y. k c >>= (λ z. pure (r x y z))))) e
    ∙ ap (λ o. o >>= (λ y. k c >>= (λ z. pure (r x y z)))) h
    ∙ ap (λ o. o >>= (λ z. pure (r x y z))) i

-- ---- lines by their shapes

pub says_one : (op : Operation) (a : List ℕ) (d : Draft) → Wordy a → 0 < length a →
    drafted op (operands.One a) ≡ Some d →
    Says (operation_name op ++ codes " " ++ a ++ codes "\n") (statement.Instruction d ∷ [])
says_one op a d h h' e =
    let n : List ℕ = operation_name op in
    let same : (n ++ 32 ∷ a) ++ 10 ∷ [] ≡ n ++ codes " " ++ a ++ codes "\n" = simp append_assoc in
    subst (λ t. Says t (statement.Instruction d ∷ [])) same
    (says_line (n ++ 32 ∷ a) (statement.Instruction d) (feeds_join n (32 ∷ a) (wordy_name op).feeds h.feeds)
    (row_one op a d h h' e))

pub says_two : (op : Operation) (a b : List ℕ) (d : Draft) → Wordy a → 0 < length a → Wordy b → 0 < length b →
    drafted op (operands.Two a b) ≡ Some d →
    Says (operation_name op ++ codes " " ++ a ++ codes "," ++ b ++ codes "\n") (statement.Instruction d ∷ [])
says_two op a b d h h' i i' e =
    let n : List ℕ = operation_name op in
    let same : (n ++ 32 ∷ (a ++ 44 ∷ b)) ++ 10 ∷ [] ≡ n ++ codes " " ++ a ++ codes "," ++ b ++ codes "\n" =
    simp append_assoc in
    subst (λ t. Says t (statement.Instruction d ∷ [])) same
    (says_line (n ++ 32 ∷ (a ++ 44 ∷ b)) (statement.Instruction d)
    (feeds_join n (32 ∷ (a ++ 44 ∷ b)) (wordy_name op).feeds (feeds_join a (44 ∷ b) h.feeds i.feeds))
    (row_two op a b d h h' i i' e))

pub says_three : (op : Operation) (a b c : List ℕ) (d : Draft) → Wordy a → 0 < length a → Wordy b → 0 < length b →
    Wordy c → 0 < length c → drafted op (operands.Three a b c) ≡ Some d →
    Says (operation_name op ++ codes " " ++ a ++ codes "," ++ b ++ codes "," ++ c ++ codes "\n")
    (statement.Instruction d ∷ [])
says_three op a b c d h h' i i' j j' e =
    let n : List ℕ = operation_name op in
    let same : (n ++ 32 ∷ (a ++ 44 ∷ (b ++ 44 ∷ c))) ++ 10 ∷ [] ≡ n ++ codes " " ++ a ++ codes "," ++ b ++ codes "," ++
    c ++ codes "\n" = simp append_assoc in
    subst (λ t. Says t (statement.Instruction d ∷ [])) same
    (says_line (n ++ 32 ∷ (a ++ 44 ∷ (b ++ 44 ∷ c))) (statement.Instruction d)
    (feeds_join n (32 ∷ (a ++ 44 ∷ (b ++ 44 ∷ c))) (wordy_name op).feeds
    (feeds_join a (44 ∷ (b ++ 44 ∷ c)) h.feeds (feeds_join b (44 ∷ c) i.feeds j.feeds)))
    (row_three op a b c d h h' i i' j j' e))

pub says_based : (op : Operation) (a b c : List ℕ) (d : Draft) → Wordy a → 0 < length a → Wordy b → 0 < length b →
    Wordy c → 0 < length c → drafted op (operands.Based a b c) ≡ Some d →
    Says (operation_name op ++ codes " " ++ a ++ codes "," ++ b ++ codes "(" ++ c ++ codes ")\n")
    (statement.Instruction d ∷ [])
says_based op a b c d h h' i i' j j' e =
    let n : List ℕ = operation_name op in
    let l : List ℕ = n ++ 32 ∷ (a ++ 44 ∷ (b ++ 40 ∷ (c ++ 41 ∷ []))) in
    let same : l ++ 10 ∷ [] ≡ n ++ codes " " ++ a ++ codes "," ++ b ++ codes "(" ++ c ++ codes ")\n" =
    simp append_assoc in
    subst (λ t. Says t (statement.Instruction d ∷ [])) same
    (says_line l (statement.Instruction d)
    (feeds_join n (32 ∷ (a ++ 44 ∷ (b ++ 40 ∷ (c ++ 41 ∷ [])))) (wordy_name op).feeds
    (feeds_join a (44 ∷ (b ++ 40 ∷ (c ++ 41 ∷ []))) h.feeds
    (feeds_join b (40 ∷ (c ++ 41 ∷ [])) i.feeds (feeds_join c (41 ∷ []) j.feeds refl))))
    (row_based op a b c d h h' i i' j j' e))
