-- What is still to come, where a specification is compiled.
use Rattle.std.proofs.Common.{◌≡◌, ℕ, suc, ◌+◌, ◌-◌, ◌<◌, ◌≤◌, length, List, [], ◌∷◌, ◌++◌, map, refl, ap, sym, subst}
use Rattle.std.proofs.Common.{◌∙◌, arith, true, false, if◌then◌else◌, Option, Some, None}
use Rattle.std.proofs.lemmas.List.{map-append}
use Rattle.std.proofs.lemmas.Bool.Decides.{nat_tests}
use Rattle.std.proofs.Common.{nat_le, nat_lt}
use Rattle.host_edge.specs.declared.ending.Ending.TheVariants.{Trap}
use Rattle.host_edge.specs.declared.ending.TrapKind.TheVariants.{ArenaLimit, BadSpec, TableLimit}
use Rattle.history.specs.Events.{Ended}
use Rattle.history.specs.Events as happened
use Rattle.history.specs.Syntax.{Syntax}
use Rattle.typed_tree.specs.declared.expression.CaptureKind.TheVariants as capture
use Rattle.typed_tree.specs.declared.expression.Answer.TheVariants as answer
use Rattle.typed_tree.specs.View.{function_view}
use Rattle.word32.specs.declared.map.TheConstants.{ARENA_WORDS, FUNCTION_ROWS}
use Rattle.meaning_state.specs.Bodies.{AreSummed, Body, charged, new_body}
use Rattle.meaning_state.proofs.Held.{charged_more}
use Rattle.meaning_state.proofs.Sums.{summed_more, summed_place}
use Rattle.meaning_state.specs.Rows.{arena_trap, arena_words, made, next_function, next_place, numbered, place_trap}
use Rattle.meaning_state.specs.Rows.{placed, table_trap}
use Rattle.meaning_state.specs.Shared.{Specification}
use Rattle.meaning_state.specs.Shared as shared
use Rattle.staged_meaning.specs.Program.{syntax_size}
use Rattle.staged_meaning.specs.Specifications.{compile_number, compile_row, compile_syntax, fits, syntax_in}
use Rattle.staged_meaning.specs.World.{World, Flow, spend, spend_all, then_do, unless, with_shared}
use Rattle.staged_meaning.specs.World as world
use Rattle.eval_state.specs.Pending as pending
use Rattle.eval_state.specs.Rest.{Signal, spent, valued}
use Rattle.eval_state.specs.declared.state.Compiled.{Compiled}
use Rattle.eval_state.specs.declared.state.Event.TheVariants as event
use Rattle.eval_state.specs.declared.state.Parts.{Parts}
use Rattle.eval_state.specs.Grown.{is_code, with_left, with_made}
use Rattle.eval_state.specs.Kept.{compiled_view, event_view, rows_view, syntax_at}
use Rattle.eval_state.specs.Run.{Run, here, in_world, leads, outcome, program_of, run_of, world as world_now}
use Rattle.eval_state.specs.Sound.{IsSound}
use Rattle.eval_state.specs.Specified.{AreMade, HasRows, IsCode, IsMade, IsNext}
use Rattle.eval_state.proofs.Growth.{code_within, known_push}
use Rattle.eval_state.proofs.Makes.{is_over, is_within, spent_there, traps}
use Rattle.eval_state.proofs.Rows.{count}
use Rattle.eval_state.proofs.Units.{all_spent, too_few}

pub value_is_code : (o : Option Specification) → fits (capture.Splice answer.Value) o ≡ true → true ≡ is_code o
value_is_code (Some (shared.Expression s)) h = refl
value_is_code (Some (shared.Statement s)) h = absurd (cc)
value_is_code (Some shared.Local) h = absurd (cc)
value_is_code (Some (shared.Param i)) h = absurd (cc)
value_is_code None h = absurd (cc)

pub void_is_code : (o : Option Specification) → fits (capture.Splice answer.Value) o ≡ false
    → fits (capture.Splice answer.Void) o ≡ is_code o
void_is_code (Some (shared.Expression s)) h = absurd (cc)
void_is_code (Some (shared.Statement s)) h = refl
void_is_code (Some shared.Local) h = refl
void_is_code (Some (shared.Param i)) h = refl
void_is_code None h = refl

pub code_if : (o : Option Specification) → is_code o ≡ true → IsCode o
code_if (Some (shared.Expression s)) h = tt
code_if (Some (shared.Statement s)) h = tt
code_if (Some shared.Local) h = absurd (cc)
code_if (Some (shared.Param i)) h = absurd (cc)
code_if None h = absurd (cc)

-- ---- the meaning of a compile

module _ (p : Parts) (number : ℕ) where
  abbrev syntax : Syntax
  syntax = syntax_at (rows_view p.rows) number

  abbrev pub compiles : world.Result Signal
  compiles = leads (run_of p) (valued (compile_number (here (run_of p)).program number (world_now (run_of p))))

  abbrev pub size : ℕ
  size = syntax_size (program_of p) syntax

  abbrev function : ℕ
  function = next_function (length (program_of p).functions) (world_now (run_of p)).shared

  pub no_code : is_code (numbered number (rows_view p.rows)) ≡ false
      → outcome (pending.Ended (Ended (Trap BadSpec))) (run_of p) ≡ compiles
  unfolding run_of
  no_code h = ap (λ x. leads (run_of p) (valued x)) (go (numbered number (rows_view p.rows)) h)
    where
      go : (o : Option Specification) → is_code o ≡ false
          → world.Ends (Ended (Trap BadSpec)) (world_now (run_of p)).shared
          ≡ compile_row (program_of p) o (world_now (run_of p))
      go (Some (shared.Expression s)) h = absurd (cc)
      go (Some (shared.Statement s)) h = absurd (cc)
      go (Some shared.Local) h = refl
      go (Some (shared.Param i)) h = refl
      go None h = refl

  code_compiles : IsCode (numbered number (rows_view p.rows))
      → leads (run_of p) (valued (compile_syntax (program_of p) syntax (world_now (run_of p)))) ≡ compiles
  unfolding run_of
  code_compiles h = ap (λ x. leads (run_of p) (valued x)) (go (numbered number (rows_view p.rows)) h)
    where
      go : (o : Option Specification) → IsCode o
          → compile_syntax (program_of p) (syntax_in o) (world_now (run_of p))
          ≡ compile_row (program_of p) o (world_now (run_of p))
      go (Some (shared.Expression s)) h = refl
      go (Some (shared.Statement s)) h = refl
      go (Some shared.Local) h = absurd h
      go (Some (shared.Param i)) h = absurd h
      go None h = absurd h

  -- behind the checks
  abbrev rest : World → world.Result ℕ
  rest w = then_do {A = Flow} {B = ℕ} (spend_all size w)
      (λ flow w. spend function (with_shared (made function syntax size w.shared) w))

  function_is : function ≡ length p.typed.now.functions + length p.compiled + 1
  unfolding run_of
  function_is = omega (
    arith,
    length_map function_view p.typed.now.functions,
    length_map (compiled_view (rows_view p.rows)) p.compiled,
  )
    where
      length_map : {A B : Type 0} (f : A → B) (xs : List A) → length (map f xs) ≡ length xs
      length_map f [] = refl
      length_map f (x ∷ xs) = ap suc (length_map f xs)

  module _ (is : IsCode (numbered number (rows_view p.rows))) where
    pub table_full : FUNCTION_ROWS ≤ length p.typed.now.functions + length p.compiled + 1
        → outcome (pending.Ended (Ended (Trap TableLimit))) (run_of p) ≡ compiles
    table_full h =
        traps (run_of p) (table_trap function) TableLimit
        (unless (arena_trap size (world_now (run_of p)).shared) (world_now (run_of p)) (rest (world_now (run_of p))))
        (ap (λ b. if b then None else Some TableLimit)
        (not_less function FUNCTION_ROWS (omega (arith, h, function_is))))
        ∙ code_compiles is
      where
        not_less : (a b : ℕ) → b ≤ a → nat_lt a b ≡ false
        not_less a b h = grind (arith, nat_tests)

    past_table : length p.typed.now.functions + length p.compiled + 1 < FUNCTION_ROWS
        → leads (run_of p) (valued (unless (arena_trap size (world_now (run_of p)).shared) (world_now (run_of p))
        (rest (world_now (run_of p))))) ≡ compiles
    past_table h =
        ap (λ b. leads (run_of p) (valued (unless (if b then None else Some TableLimit) (world_now (run_of p))
        (unless (arena_trap size (world_now (run_of p)).shared) (world_now (run_of p)) (rest (world_now (run_of p)))))))
        (sym (less function FUNCTION_ROWS (omega (arith, h, function_is))))
        ∙ code_compiles is
      where
        less : (a b : ℕ) → a < b → nat_lt a b ≡ true
        less a b h = grind (arith, nat_tests)

    module _ (room : length p.typed.now.functions + length p.compiled + 1 < FUNCTION_ROWS)
        (rows : HasRows (program_of p) p.rows p.closures p.compiled p.arena) where
      -- none was freed, so the next place is behind all that was charged
      place : next_place (arena_words size) (world_now (run_of p)).shared
          ≡ (if nat_le (p.arena + arena_words size) ARENA_WORDS then Some p.arena else None)
      unfolding run_of
      place =
          summed_place ARENA_WORDS (map (compiled_view (rows_view p.rows)) p.compiled) (arena_words size) (omega arith)
          rows.bodies
          ∙ ap (λ n. if nat_le (n + arena_words size) ARENA_WORDS then Some n else None) rows.words

      place_there : p.arena + arena_words size ≤ ARENA_WORDS
          → next_place (arena_words size) (world_now (run_of p)).shared ≡ Some p.arena
      place_there h =
          place
          ∙ ap (λ b. if b then Some p.arena else None) (is_within (p.arena + arena_words size) ARENA_WORDS h)

      pub arena_full : ARENA_WORDS < p.arena + arena_words size
          → outcome (pending.Ended (Ended (Trap ArenaLimit))) (run_of p) ≡ compiles
      unfolding run_of
      arena_full h =
          traps (run_of p) (arena_trap size (world_now (run_of p)).shared) ArenaLimit (rest (world_now (run_of p)))
          (ap place_trap
          (place
          ∙ ap (λ b. if b then Some p.arena else None) (is_over (p.arena + arena_words size) ARENA_WORDS h)))
          ∙ past_table room

      past_arena : p.arena + arena_words size ≤ ARENA_WORDS
          → leads (run_of p) (valued (rest (world_now (run_of p)))) ≡ compiles
      unfolding run_of
      past_arena h =
          ap (λ o. leads (run_of p) (valued (unless (place_trap o) (world_now (run_of p))
          (rest (world_now (run_of p)))))) (sym (place_there h))
          ∙ past_table room

      pub units_end : (q : Parts) → p.arena + arena_words size ≤ ARENA_WORDS → p.units < size → q ≡ with_left 0 p
          → outcome pending.Stopped (run_of q) ≡ compiles
      unfolding run_of
      units_end q h k same =
          ap (λ (q : Parts). outcome pending.Stopped (run_of q)) same
          ∙ ap (λ r. leads (run_of p) (valued (then_do {A = Flow} {B = ℕ} r
          (λ flow w. spend function (with_shared (made function syntax size w.shared) w)))))
          (sym (too_few size p.units (world_now (run_of p)) k))
          ∙ past_arena h

      pub compiled_there : (q : Parts) (m : Compiled) → m.row ≡ number → m.first ≡ p.arena
          → m.words ≡ arena_words size → p.arena + arena_words size ≤ ARENA_WORDS → size ≤ p.units
          → q ≡ with_made (length p.typed.now.functions + length p.compiled + 1) m (with_left (p.units - size) p)
          → leads (run_of q) (spent (here (run_of q)) (world_now (run_of q)).units
          (pending.Value (length p.typed.now.functions + length p.compiled + 1)) (world_now (run_of q))) ≡ compiles
      unfolding run_of
      compiled_there q m row first words h k same =
          let rows = rows_view p.rows in
          let bodies = map (compiled_view rows) p.compiled in
          let f = length p.typed.now.functions + length p.compiled + 1 in
          let left = record (world_now (run_of p)) { units = p.units - size } in
          let after = with_shared (made f syntax size left.shared) left in
          let there = in_world after (run_of p) in
          let at : List happened.Item → List Body → Run = λ items more. record there {
            state = record there.state {
              shared = record there.state.shared { history = items; bodies = more };
            };
          } in
          let items : ℕ → List happened.Item =
          λ n. map (event_view rows) p.events ++ happened.Made f (syntax_at rows n) ∷ [] in
          let now : run_of (with_made f m (with_left (p.units - size) p)) ≡ there =
          ap (λ es. at es (map (compiled_view rows) (p.compiled ++ m ∷ [])))
          (map-append (event_view rows) p.events (event.Made f m.row ∷ []))
          ∙ ap (at (items m.row)) (map-append (compiled_view rows) p.compiled (m ∷ []))
          ∙ ap (λ n. at (items n) (bodies ++ new_body (syntax_at rows n) m.first m.words ∷ [])) row
          ∙ ap (λ n. at (items number) (bodies ++ new_body syntax n m.words ∷ [])) first
          ∙ ap (λ n. at (items number) (bodies ++ new_body syntax p.arena n ∷ [])) words
          ∙ ap (λ o. at (items number) (placed o syntax (arena_words size) bodies)) (sym (place_there h)) in
          ap (λ (q : Parts). leads (run_of q) (spent (here (run_of q)) (world_now (run_of q)).units (pending.Value f)
          (world_now (run_of q)))) same
          ∙ ap (λ (r : Run). leads r (spent (here r) (world_now r).units (pending.Value f) (world_now r))) now
          ∙ spent_there (run_of p) after f
          ∙ ap (λ g. leads (run_of p) (valued (spend g (with_shared (made g syntax size left.shared) left))))
          (sym function_is)
          ∙ ap (λ r. leads (run_of p) (valued (then_do {A = Flow} {B = ℕ} r
          (λ flow w. spend function (with_shared (made function syntax size w.shared) w)))))
          (sym (all_spent size p.units (world_now (run_of p)) k))
          ∙ past_arena h

-- ---- the parts stay sound

made_push : (rows : List Specification) (ms : List Compiled) (m : Compiled) → AreMade rows ms → IsMade rows m
    → AreMade rows (ms ++ m ∷ [])
made_push rows [] m h k = (k, tt)
made_push rows (n ∷ ms) m h k = (h.0, made_push rows ms m h.1 k)

pub sound_event : (p : Parts) (f : ℕ) (m : Compiled) → IsSound p → IsMade (rows_view p.rows) m
    → IsSound (record p { events = p.events ++ event.Made f m.row ∷ [] })
sound_event p f m i h =
    let row : m.row ≤ length p.rows = omega (arith, code_within m.row (rows_view p.rows) h.0, count p.rows) in
    (i.0, i.1, known_push (length p.rows) p.events (event.Made f m.row) i.2 row, i.3, i.4, i.5)

pub sound_made : (p : Parts) (f : ℕ) (m : Compiled) → IsSound p → IsMade (rows_view p.rows) m → IsNext m p.arena
    → IsSound (with_made f m p)
sound_made p f m i h next =
    let e = sound_event p f m i h in
    let rows = i.3 in
    let bodies = map (compiled_view (rows_view p.rows)) p.compiled in
    let syntax = syntax_at (rows_view p.rows) m.row in
    let here : charged bodies ≡ m.first = rows.words ∙ sym next.first in
    let more = sym (map-append (compiled_view (rows_view p.rows)) p.compiled (m ∷ [])) in (
      e.0,
      e.1,
      e.2,
      record {
        each = rows.each;
        made = made_push (rows_view p.rows) p.compiled m rows.made h;
        count = rows.count;
        closure_bytes = rows.closure_bytes;
        arena_words = next.within;
        bodies = subst (AreSummed ARENA_WORDS) more
            (subst (λ n. AreSummed ARENA_WORDS (bodies ++ new_body syntax n m.words ∷ [])) here
            (summed_more ARENA_WORDS bodies m.words next.some rows.bodies syntax
            (omega (arith, rows.words, next.within))));
        words = ap charged (sym more) ∙ charged_more bodies syntax m.first m.words
            ∙ ap (λ n. n + m.words) rows.words;
      },
      e.4,
      e.5,
    )
