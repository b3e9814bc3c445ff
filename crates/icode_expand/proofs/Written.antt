-- The words of a function, written part by part.
use Rattle.std.proofs.Common.{ℕ, ◌≡◌, ◌+◌, ◌-◌, ◌*◌, ◌/◌, ◌<◌, ◌≤◌, Bool, List, ◌++◌, length, take, drop, ap, sym, ◌∙◌}
use Rattle.std.proofs.Common.{arith, append_assoc, length-append, zero-add}
use Rattle.mips_encoder.specs.declared.instruction.Instr.{Instr}
use Rattle.mips_encoder.specs.Addresses.{past}
use Rattle.icode_ops.specs.Flow.{goes_to, op_at}
use Rattle.icode_ops.specs.declared.op.Op.{Op}
use Rattle.icode_templates.specs.Layout.{Layout, laid}
use Rattle.icode_templates.specs.Templates.{Aim, template}
use Rattle.icode_templates.specs.Words.{words}
use Rattle.icode_templates.proofs.Appended.{words_append}
use Rattle.icode_templates.specs.Frames.{prologue, epilogue}
use Rattle.icode_saves.specs.Places.{saved}
use Rattle.icode_templates.specs.Expansion.{nowhere, templates, aims, expanded}
use Rattle.icode_expand.specs.Labels.{IsTable, spliced, target_of}
use Rattle.icode_expand.proofs.Lengths.{length_words, past_is, templates_length, templates_more, template_at, aim_to}
use Rattle.icode_expand.proofs.Placed.{target_is}
use Rattle.icode_expand.proofs.Spliced.{spliced_more, spliced_front}

-- one more op
pub write_step : (l : Layout) (a : Aim → ℕ) (ops : List Op) (labels : List ℕ) (leave i : ℕ) (o : Op) (v : ℕ)
    (out0 out out' : List ℕ) (filled end : ℕ) → IsTable a ops labels leave → i < length ops → op_at ops i ≡ o
    → v ≡ target_of (goes_to o) labels leave → filled ≤ length out0
    → end ≡ filled + length (templates l nowhere (take i ops))
    → out ≡ spliced out0 filled (words (templates l a (take i ops)))
    → out' ≡ spliced out end (words (template l (λ aim. v) o))
    → out' ≡ spliced out0 filled (words (templates l a (take (i + 1) ops)))
write_step l a ops labels leave i o v out0 out out' filled end t h e ev room ee eo eo' =
    let goes : goes_to (op_at ops i) ≡ goes_to o = ap goes_to e in
    let there : v ≡ a (aim_to (goes_to o)) = ev ∙ target_is a ops labels leave t i (goes_to o) goes in
    let long : end ≡ filled + length (words (templates l a (take i ops))) =
    rw (length_words (templates l a (take i ops)), templates_length l a nowhere (take i ops)) ee in
    let one : words (templates l a (take (i + 1) ops)) ≡ words (templates l a (take i ops)) ++ words (template l a o) =
    ap words (templates_more l a ops i h)
    ∙ (words_append (templates l a (take i ops)) (template l a (op_at ops i))
    ∙ ap (λ (op : Op). words (templates l a (take i ops)) ++ words (template l a op)) e) in
    eo'
    ∙ (ap (λ (d : List ℕ). spliced d end (words (template l (λ aim. v) o))) eo
    ∙ (ap (λ (is : List Instr). spliced (spliced out0 filled (words (templates l a (take i ops)))) end (words is))
    (template_at l a o v there)
    ∙ (spliced_more out0 filled (words (templates l a (take i ops))) (words (template l a o)) end room long
    ∙ ap (spliced out0 filled) (sym one))))

pub quarter : (a n e : ℕ) → e ≡ a + 4 * n → (e - a) / 4 ≡ n
quarter a n e h = omega arith

-- how many words there are
pub whole_length : (ops : List Op) (places : List ℕ) (at_address frame object : ℕ) (compiled : Bool)
    → length (expanded ops places at_address frame object compiled)
    ≡ length (words (prologue frame object (saved places) compiled))
    + (length (templates (laid places frame object) nowhere ops) + length
    (words (epilogue frame object (saved places) compiled)))
whole_length ops places at_address frame object compiled =
    let P : List Instr = prologue frame object (saved places) compiled in
    let E : List Instr = epilogue frame object (saved places) compiled in
    let l : Layout = laid places frame object in
    let a : Aim → ℕ = aims l (past at_address P) ops in
    ap length (words_append P (templates l a ops ++ E))
    ∙ (length-append (words P) (words (templates l a ops ++ E))
    ∙ ap (λ (n : ℕ). length (words P) + n)
    (ap length (words_append (templates l a ops) E)
    ∙ (length-append (words (templates l a ops)) (words E)
    ∙ ap (λ (n : ℕ). n + length (words E)) (length_words (templates l a ops) ∙ templates_length l a nowhere ops))))

-- what stands in the end
pub whole_written : (ops : List Op) (places : List ℕ) (at_address frame object : ℕ) (compiled : Bool)
    (out out1 out2 out3 first last : List ℕ)
    (start n1 n2 : ℕ)
    → first ≡ words (prologue frame object (saved places) compiled) →
    last ≡ words (epilogue frame object (saved places) compiled)
    → start ≡ at_address + 4 * length first → n1 ≡ length first →
    n2 ≡ n1 + length (templates (laid places frame object) nowhere ops)
    → out1 ≡ spliced out 0 first
    → out2 ≡ spliced out1 n1 (words
    (templates (laid places frame object) (aims (laid places frame object) start ops) ops))
    → out3 ≡ spliced out2 n2 last
    → out3 ≡ expanded ops places at_address frame object compiled ++ drop (n2 + length last) out
whole_written ops places at_address frame object compiled out out1 out2 out3 first last start n1 n2 ef el es e1 e2 o1 o2
    o3 =
    let P : List Instr = prologue frame object (saved places) compiled in
    let E : List Instr = epilogue frame object (saved places) compiled in
    let l : Layout = laid places frame object in
    let s : start ≡ past at_address P =
    es ∙ (ap (λ (n : ℕ). at_address + 4 * n) (ap length ef ∙ length_words P) ∙ sym (past_is at_address P)) in
    let B : List ℕ = words (templates l (aims l start ops) ops) in
    let long : n2 ≡ length (first ++ B) =
    rw (
      length-append first B,
      length_words (templates l (aims l start ops) ops),
      templates_length l (aims l start ops) nowhere ops,
    )
    (omega arith) in
    let two : out2 ≡ spliced out 0 (first ++ B) =
    o2 ∙ (ap (λ (d : List ℕ). spliced d n1 B) o1 ∙
    spliced_more out 0 first B n1 (omega arith) (rw (zero-add (length first)) e1)) in
    let three : out3 ≡ spliced out 0 ((first ++ B) ++ last) =
    o3 ∙ (ap (λ (d : List ℕ). spliced d n2 last) two
    ∙ spliced_more out 0 (first ++ B) last n2 (omega arith) (rw (zero-add (length (first ++ B))) long)) in
    let is : (first ++ B) ++ last ≡ expanded ops places at_address frame object compiled =
    append_assoc first B last
    ∙ (ap (λ (w : List ℕ). w ++ (B ++ last)) ef
    ∙ (ap (λ (w : List ℕ). words P ++ (B ++ w)) el
    ∙ (ap (λ (x : ℕ). words P ++ (words (templates l (aims l x ops) ops) ++ words E)) s
    ∙ (ap (λ (w : List ℕ). words P ++ w) (sym (words_append (templates l (aims l (past at_address P) ops) ops) E))
    ∙ sym (words_append P (templates l (aims l (past at_address P) ops) ops ++ E)))))) in
    let size : length ((first ++ B) ++ last) ≡ n2 + length last =
    length-append (first ++ B) last ∙ ap (λ (n : ℕ). n + length last) (sym long) in
    three ∙ (spliced_front out ((first ++ B) ++ last)
    ∙ (ap (λ (n : ℕ). ((first ++ B) ++ last) ++ drop n out) size ∙
    ap (λ (w : List ℕ). w ++ drop (n2 + length last) out) is))
