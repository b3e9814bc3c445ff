-- Lines of items that all have a property, and what functions and the entry give.
use Rattle.std.proofs.Common.{◌≡◌, ℕ, suc, ◌+◌, ◌<◌, ◌≤◌, true, cond, List, [], ◌∷◌, ◌++◌, map, length, get_or, Ok, Err}
use Rattle.std.proofs.Common.{refl, ap, ◌∙◌, arith, lt-ltb}
use Rattle.std.specs.List.{flat_map, range_with_len}
use Rattle.std.proofs.lemmas.List.FromFn.{length-range_with_len, get_or-range_with_len}
use Rattle.image_file.specs.declared.image.FunctionEntry.{FunctionEntry}
use Rattle.image_file.specs.Image.{is_in_text}
use Rattle.asm_lines.specs.declared.line.Statement.{Statement}
use Rattle.asm_lines.specs.declared.line.Statement.TheVariants as statement
use Rattle.asm_lines.specs.declared.operand.Target.TheVariants as target
use Rattle.asm_passes.specs.declared.position.Position.{Position}
use Rattle.asm_passes.specs.declared.fault.AsmFaultKind.TheVariants.{BadNumber}
use Rattle.asm_passes.specs.declared.item.Item.{Item}
use Rattle.asm_passes.specs.declared.item.Item.TheVariants as item
use Rattle.asm_passes.specs.Positions.{placed, behind}
use Rattle.asm_passes.specs.Instructions.{◌>>=◌, pure, below}
use Rattle.asm_passes.specs.Values.{Known, item_of, text_address}
use Rattle.asm_passes.specs.Collected.{collected}
use Rattle.mips_text_proof.proofs.Feeds.{plain, Says, says_nothing, says_append}
use Rattle.mips_text_proof.proofs.Collected.{Gives, one_more}
use Rattle.mips_text_proof.proofs.Rows.{written}
use Rattle.mips_text_proof.proofs.Halves.{below_fits}

abbrev pub Each : {X : Type 0} → (X → Type 0) → List X → Type 0
Each P [] = Unit {0}
Each P (x ∷ xs) = P x × Each P xs

pub each_from : {X : Type 0} (P : X → Type 0) (xs : List X) (d : X) → ((k : ℕ) → k < length xs → P (get_or xs k d)) →
    Each P xs
each_from P [] d h = tt
each_from P (x ∷ xs) d h = (h 0 (omega arith), each_from P xs d (λ k lt. h (suc k) (omega (arith, lt))))

pub each_place : (n : ℕ) → Each (λ k. k < n) (range_with_len 0 n)
each_place n =
    let len = length-range_with_len 0 n in
    each_from (λ k. k < n) (range_with_len 0 n) 0
    (λ k lt. (let inside : k < n = omega (arith, len, lt) in let e = get_or-range_with_len 0 n k 0 inside in
    omega (arith, e, inside)))

pub says_each : {X : Type 0} (P : X → Type 0) (f : X → List ℕ) (g : X → Statement) (xs : List X) → Each P xs →
    ((x : X) → P x → Says (f x) (g x ∷ [])) → Says (flat_map f xs) (map g xs)
says_each P f g [] h each = says_nothing
says_each P f g (x ∷ xs) h each =
    says_append (f x) (flat_map f xs) (g x ∷ []) (map g xs) (each x h.0) (says_each P f g xs h.1 each)

-- An address of a word of the text.
pub address_again : (k : Known) (a : ℕ) → is_in_text k.words a ≡ true →
    text_address k (target.Number (written a)) ≡ Ok a
address_again k a h = ap (λ t. cond t (Ok a) (Err BadNumber)) h

abbrev pub function_statement : FunctionEntry → Statement
function_statement f = statement.Function (target.Number (written f.address)) (written f.count)

-- A function of an image whose text has so many words.
pub record IsFunction (words : ℕ) (f : FunctionEntry) : Type 0 where
  pub inside : is_in_text words f.address ≡ true
  pub few : f.count < 9

function_again : (k : Known) (p : Position) (f : FunctionEntry) → p.functions < 65535 → IsFunction k.words f →
    item_of k p (function_statement f) ≡ Ok (item.Function f)
function_again k p f room h =
    ap (λ t. cond t (below 9 (written f.count)) (Err BadNumber) >>=
    (λ c. text_address k (target.Number (written f.address)) >>=
    (λ a. pure (item.Function (record { address = a; count = c }))))) (lt-ltb p.functions 65535 room)
    ∙ ap (λ r. r >>= (λ c. text_address k (target.Number (written f.address)) >>=
    (λ a. pure (item.Function (record { address = a; count = c }))))) (below_fits 9 f.count h.few)
    ∙ ap (λ r. r >>= (λ a. pure (item.Function (record { address = a; count = f.count }))))
    (address_again k f.address h.inside)

-- Functions before other statements.
pub gives_functions : (k : Known) (fs : List FunctionEntry) (ss : List Statement) (is : List Item) (p : Position) →
    p.functions + length fs ≤ 65535 → Each (IsFunction k.words) fs → Gives k ss is →
    collected k (placed p (map plain (map function_statement fs ++ ss))) ≡ Ok (map item.Function fs ++ is)
gives_functions k [] ss is p room h rest = rest.gives p
gives_functions k (f ∷ fs) ss is p room h rest =
    let here : p.functions < 65535 = omega (arith, room) in
    let later : p.functions + 1 + length fs ≤ 65535 = omega (arith, room) in
    one_more k p (function_statement f) (map function_statement fs ++ ss) (item.Function f) (map item.Function fs ++ is)
    refl
    (function_again k p f here h.0)
    (gives_functions k fs ss is (behind p (plain (function_statement f))) later h.1 rest)
