-- The image of what the lines of a text give.
use Rattle.std.proofs.Common.{rules, inl, inr, get_or, ◌≡◌, ℕ, ◌<◌, Bool, true, false, ◌==◌, ◌&&◌, cond}
use Rattle.std.proofs.Common.{IsTrue, List, [], ◌∷◌, ◌++◌, length, Option, Some, None, unwrap_or, Result, Ok, Err, refl}
use Rattle.std.proofs.Common.{sym, ap, ◌∙◌, arith, append_assoc}
use Rattle.std.specs.Option.{option_or}
use Rattle.std.specs.List.{flat_map, list_all}
use Rattle.std.proofs.lemmas.Bool.{cases_lt}
use Rattle.std.proofs.lemmas.List.{append-nil, get_or_past}
use Rattle.image_file.specs.declared.image.FunctionEntry.{FunctionEntry}
use Rattle.image_file.specs.Image.{is_in_text, is_function_in}
use Rattle.asm_passes.specs.declared.fault.AsmFault.{AsmFault}
use Rattle.asm_passes.specs.declared.fault.AsmDeny.{AsmDeny}
use Rattle.asm_passes.specs.declared.fault.AsmDeny.TheVariants.{Refused, NoMemory}
use Rattle.asm_passes.specs.declared.fault.AsmFaultKind.TheVariants.{BadLine}
use Rattle.asm_passes.specs.declared.item.Item.{Item}
use Rattle.asm_passes.specs.Positions.{Placed, words}
use Rattle.asm_passes.specs.Items.{entry_of, words_of, data_of, functions_of}
use Rattle.asm_passes.specs.Collected.{collected, known}
use Rattle.mips_text.specs.Assembly.{entry, image, assembled_in, image_by, Answers}
use Rattle.mips_text.specs.Gathered.{image_in}
use Rattle.asm_passes.specs.Parts.{Gathered, none, with, with_all, gathered, gathered_in, Gives, IsEntry}
use Rattle.asm_passes.proofs.Gathering.{all_and}

-- ---- the image of all of them

or_none : (o : Option ℕ) → option_or o None ≡ o
or_none None = refl
or_none (Some x) = refl

or_assoc : (a b c : Option ℕ) → option_or (option_or a b) c ≡ option_or a (option_or b c)
or_assoc None b c = refl
or_assoc (Some x) b c = refl

abbrev with_parts : Gathered → List Item → Gathered
with_parts g is = record {
  entry = option_or g.entry (entry is);
  text = g.text ++ flat_map words_of is;
  bytes = g.bytes ++ flat_map data_of is;
  functions = g.functions ++ flat_map functions_of is;
}

parts_nil : (g : Gathered) → g ≡ with_parts g []
parts_nil g =
    ap (λ e. record { entry = e; text = g.text; bytes = g.bytes; functions = g.functions }) (sym (or_none g.entry))
    ∙ ap (λ t. record { entry = option_or g.entry None; text = t; bytes = g.bytes; functions = g.functions })
    (sym (append-nil g.text))
    ∙ ap (λ b. record { entry = option_or g.entry None; text = g.text ++ []; bytes = b; functions = g.functions })
    (sym (append-nil g.bytes))
    ∙ ap (λ f. record { entry = option_or g.entry None; text = g.text ++ []; bytes = g.bytes ++ []; functions = f })
    (sym (append-nil g.functions))

parts_cons : (g : Gathered) (i : Item) (is : List Item) → with_parts (with g i) is ≡ with_parts g (i ∷ is)
parts_cons g i is =
    let e = or_assoc g.entry (entry_of i) (entry is) in
    let t = append_assoc g.text (words_of i) (flat_map words_of is) in
    let b = append_assoc g.bytes (data_of i) (flat_map data_of is) in
    let f = append_assoc g.functions (functions_of i) (flat_map functions_of is) in
    let h : Gathered = with_parts (with g i) is in
    let z : Gathered = with_parts g (i ∷ is) in
    ap (λ e. record { entry = e; text = h.text; bytes = h.bytes; functions = h.functions }) e
    ∙ ap (λ t. record { entry = z.entry; text = t; bytes = h.bytes; functions = h.functions }) t
    ∙ ap (λ b. record { entry = z.entry; text = z.text; bytes = b; functions = h.functions }) b
    ∙ ap (λ f. record { entry = z.entry; text = z.text; bytes = z.bytes; functions = f }) f

all_parts : (g : Gathered) (is : List Item) → with_all g is ≡ with_parts g is
all_parts g [] = parts_nil g
all_parts g (i ∷ is) = all_parts (with g i) is ∙ parts_cons g i is

-- The image of what was gathered from all lines.
pub image_gathered : (is : List Item) → image_in (with_all none is) ≡ image is
image_gathered is = ap image_in (all_parts none is)

pub image_ok : (r : Result (List Item) AsmFault) (g : Gathered) → gathered none r ≡ Ok g → image_by r ≡ Ok (image_in g)
image_ok (Ok is) g e = let same : with_all none is ≡ g = cc in ap Ok (sym (image_gathered is) ∙ ap image_in same)
image_ok (Err f) g e = cc

pub image_err : (r : Result (List Item) AsmFault) (f : AsmFault) → gathered none r ≡ Err f → image_by r ≡ Err f
image_err (Ok is) f e = cc
image_err (Err h) f e = cc

-- ---- an image of it

entry_good : (words : ℕ) (o : Option ℕ) → 0 < words → IsEntry words o →
    IsTrue (is_in_text words (unwrap_or o 0x00400000))
entry_good words (Some a) some h = h
entry_good words None some h = search rules

pub entries_good : (words : ℕ) (o : Option ℕ) (fs : List FunctionEntry) → 0 < words → IsEntry words o →
    IsTrue (list_all (is_function_in words) fs) →
    IsTrue (is_in_text words (unwrap_or o 0x00400000) && list_all (is_function_in words) fs)
entries_good words o fs some h all =
    all_and (is_in_text words (unwrap_or o 0x00400000)) (list_all (is_function_in words) fs) (entry_good words o some h)
    all

ok_by : (ps : List Placed) (g : Gathered) (t : Bool) →
    cond t (Err (record { kind = BadLine; line = 1 })) (gathered none (collected (known ps) ps)) ≡ Ok g →
    cond t (Err (record { kind = BadLine; line = 1 })) (image_by (collected (known ps) ps)) ≡ Ok (image_in g)
ok_by ps g true e = cc
ok_by ps g false e = image_ok (collected (known ps) ps) g e

err_by : (ps : List Placed) (f : AsmFault) (t : Bool) →
    cond t (Err (record { kind = BadLine; line = 1 })) (gathered none (collected (known ps) ps)) ≡ Err f →
    cond t (Err (record { kind = BadLine; line = 1 })) (image_by (collected (known ps) ps)) ≡ Err f
err_by ps f true e = cc
err_by ps f false e = image_err (collected (known ps) ps) f e

-- A text of which something was gathered from all lines, or which has a fault.
pub assembled_ok : (ps : List Placed) (g : Gathered) → gathered_in ps ≡ Ok g → assembled_in ps ≡ Ok (image_in g)
assembled_ok ps g e = ok_by ps g (words ps == 0) e

assembled_err : (ps : List Placed) (f : AsmFault) → gathered_in ps ≡ Err f → assembled_in ps ≡ Err f
assembled_err ps f e = err_by ps f (words ps == 0) e

-- Why nothing was gathered is why there is no image.
pub refused : (ps : List Placed) (why : AsmDeny) → Gives (gathered_in ps) (Err why) →
    Answers (assembled_in ps) (Err why)
refused ps (Refused f) e = assembled_err ps f e
refused ps NoMemory e = tt

-- Numbers that are below a limit at each place of a list are so behind its end too, where they are 0.
pub each_fits : (xs : List ℕ) (n : ℕ) → 0 < n → ((k : ℕ) → k < length xs → get_or xs k 0 < n) → (k : ℕ) →
    get_or xs k 0 < n
each_fits xs n some h k =
    elim (cases_lt k (length xs)) [
      | inl lt ↦ h k lt
      | inr le ↦ (let none : get_or xs k 0 ≡ 0 = get_or_past xs k 0 le in omega arith)
    ]
