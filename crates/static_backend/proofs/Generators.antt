-- The functions that generate the code of ticks stand behind those of the program, where there is room for them.
use Rattle.std.proofs.Common.{◌≡◌, ℕ, ◌+◌, ◌-◌, ◌*◌, ◌%◌, ◌<◌, ◌≤◌, List, [], ◌∷◌, ◌++◌, length, sym, ap, ◌∙◌, subst}
use Rattle.std.proofs.Common.{get_or, drop, arith, add-one, append_assoc, length-append, lit<}
use Rattle.std.proofs.Math.Seq.{drop-cons}
use Rattle.word32.specs.declared.map.TheConstants.{ARENA, FUNCTIONS}
use Rattle.image_file.specs.declared.image.FunctionEntry.{FunctionEntry}
use Rattle.icode_ir.specs.Sound.{Each}
use Rattle.typed_tree.specs.declared.expression.CaptureKind.{CaptureKind}
use Rattle.typed_tree.specs.declared.program.Tick.{Tick as TickCode}
use Rattle.typed_tree.specs.declared.program.TickBody.{TickBody}
use Rattle.typed_tree.specs.declared.program.TickBody.TheVariants as body
use Rattle.typed_tree.specs.Nodes.{Function}
use Rattle.staged_meaning.specs.Source.{tick_view}
use Rattle.tick_lower_spec.specs.TickPieces.{tick_pieces}
use Rattle.routine_spec.specs.Generator.{HasRoom}
use Rattle.staged_meaning.specs.Program.{Tick}
use Rattle.static_image.specs.Layout.{Placed, functions_of, functions_at, generators, words_from, addresses_of}
use Rattle.static_image.specs.Layout.{generator_of, generator_starts}
use Rattle.static_image.specs.Served.{IsStatic, AreStatic, most_words}
use Rattle.static_image.proofs.Generated.{most}
use Rattle.static_image.proofs.Placing.{ends_most, each_static}
use Rattle.static_backend.specs.Ticks.{HasNumbers, HaveNumbers, ticks_view}
use Rattle.static_backend.specs.Scanned.{IsPlan, AreWritten, AreCode}
use Rattle.static_backend.proofs.Planned.{end_at}

pub room : (fs : List Function) (captures : List (List CaptureKind)) (ticks : List Tick) (xs : List Placed)
    (addresses : List ℕ) (places : List (List ℕ)) (end : ℕ) → AreStatic fs captures ticks → functions_of xs ≡ fs
    → IsPlan xs addresses places end → end + 4 * length (generators addresses ticks) ≤ ARENA
room fs captures ticks xs addresses places end static same plan =
    let all = each_static fs captures xs (subst (Each (IsStatic fs captures)) (sym same) static.each) in
    omega (
      arith,
      end_at xs addresses places end plan,
      ends_most fs captures FUNCTIONS xs all,
      ap most_words same,
      most addresses ticks,
      static.room,
    )

-- behind the words of functions
pub code_with : (fs : List Function) (ticks : List Tick) (starts words words' : List ℕ) (rows : List FunctionEntry)
    → AreWritten fs ticks starts words rows → words' ≡ words ++ generators starts ticks → AreCode fs ticks words' rows
code_with fs ticks starts words words' rows written is = record {
  placed = written.placed;
  each = written.each;
  choice = written.choice;
  words_are = is ∙ ap (λ (ws : List ℕ). ws ++ generators starts ticks) written.words_are
      ∙ ap (λ (ss : List ℕ). words_from (addresses_of ticks written.placed) FUNCTIONS written.placed
      ++ generators ss ticks) written.starts_are;
  rows_are = written.rows_are;
}

-- ---- that ticks have few variables

numbers_of : (body : TickBody) → Each HasRoom (tick_pieces (functions_at []) (tick_view body)) → HasNumbers body
numbers_of (body.Expression e) h = tt
numbers_of (body.Statement s) h = omega (arith, h.0.0)

each_number : (ts : List TickCode) → Each (λ t. Each HasRoom (tick_pieces (functions_at []) t)) (ticks_view ts) →
    HaveNumbers ts
each_number [] h = tt
each_number (t ∷ ts) h = (numbers_of t.body h.0, each_number ts h.1)

pub numbers : (fs : List Function) (captures : List (List CaptureKind)) (ts : List TickCode)
    → AreStatic fs captures (ticks_view ts) → HaveNumbers ts
numbers fs captures ts static = each_number ts (static.written [] (λ k. lit< tt))

-- ---- one function more

next_starts : (functions : List ℕ) (at at' : ℕ) (made made' : List ℕ) (t : Tick) (ts : List Tick)
    → made' ≡ made ++ at ∷ [] → at' ≡ at + 4 * length (generator_of functions t)
    → made' ++ generator_starts functions at' ts ≡ made ++ generator_starts functions at (t ∷ ts)
next_starts functions at at' made made' t ts m a =
    ap (λ (ms : List ℕ). ms ++ generator_starts functions at' ts) m
    ∙ append_assoc made (at ∷ []) (generator_starts functions at' ts)
    ∙ ap (λ (n : ℕ). made ++ (at ∷ generator_starts functions n ts)) a

next_words : (functions made made' : List ℕ) (t : Tick) (ts : List Tick) → made' ≡ made ++ generator_of functions t
    → made' ++ generators functions ts ≡ made ++ generators functions (t ∷ ts)
next_words functions made made' t ts m =
    ap (λ (ms : List ℕ). ms ++ generators functions ts) m
    ∙ append_assoc made (generator_of functions t) (generators functions ts)

-- the ticks from one on
pub left : (ts : List TickCode) (i : ℕ) (t : TickCode) → i < length ts → t ≡ get_or ts i t
    → drop i ts ≡ t ∷ drop (i + 1) ts
left ts i t low is =
    drop-cons ts i t low ∙ ap (λ j. get_or ts i t ∷ drop j ts) (sym (add-one i))
    ∙ ap (λ y. y ∷ drop (i + 1) ts) (sym is)

-- what the loop keeps
pub record Stand (functions : List ℕ) (end : ℕ) (all ts : List TickCode) (at : ℕ) (starts words : List ℕ) : Type 0 where
  pub starts_are : starts ++ generator_starts functions at (ticks_view ts) ≡ generator_starts functions end
      (ticks_view all)
  pub words_are : words ++ generators functions (ticks_view ts) ≡ generators functions (ticks_view all)
  pub low : at + 4 * length (generators functions (ticks_view ts)) ≤ ARENA
  pub aligned : at % 4 ≡ 0
  pub numbers : HaveNumbers ts

pub one_more : (functions : List ℕ) (end : ℕ) (all ts : List TickCode) (t : TickCode) (at at' n : ℕ)
    (starts starts' words words' : List ℕ) → Stand functions end all (t ∷ ts) at starts words
    → starts' ≡ starts ++ at ∷ [] → words' ≡ words ++ generator_of functions (tick_view t.body)
    → n ≡ length words' - length words → at' ≡ at + 4 * n → Stand functions end all ts at' starts' words'
one_more functions end all ts t at at' n starts starts' words words' h s w many to =
    let own = generator_of functions (tick_view t.body) in
    let long : n ≡ length own = omega (arith, many, ap length w, length-append words own) in
    let to_is : at' ≡ at + 4 * length own = omega (arith, to, long) in
    record {
      starts_are = next_starts functions at at' starts starts' (tick_view t.body) (ticks_view ts) s to_is ∙
          h.starts_are;
      words_are = next_words functions words words' (tick_view t.body) (ticks_view ts) w ∙ h.words_are;
      low = omega (arith, h.low, to_is, length-append own (generators functions (ticks_view ts)));
      aligned = omega (arith, h.aligned, to_is);
      numbers = h.numbers.1;
    }
