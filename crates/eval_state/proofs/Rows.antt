-- A specification more: the run has it behind the others, and nothing else of the run changes.
use Rattle.std.proofs.Common.{◌≡◌, ℕ, suc, false, ◌≤◌, ◌/◌, length, List, [], ◌∷◌, ◌++◌, map, ap, sym, subst, ◌∙◌}
use Rattle.std.proofs.lemmas.List.{map-append, length-map}
use Rattle.word32.specs.Space.{words_from}
use Rattle.word32.specs.declared.map.TheConstants.{OBJECTS}
use Rattle.history.specs.Events.{Item}
use Rattle.meaning_state.specs.Bodies.{Body}
use Rattle.meaning_state.specs.Shared.{Specification}
use Rattle.staged_meaning.specs.World.{with_shared}
use Rattle.eval_state.specs.KeptRows.{row_kept, rows_kept}
use Rattle.eval_state.specs.Pending.{Body as Active, Frame}
use Rattle.eval_state.proofs.KeptRows.{specified_more}
use Rattle.eval_state.specs.declared.state.Parts.{Parts}
use Rattle.eval_state.specs.declared.state.Row.{Row}
use Rattle.eval_state.specs.Grown.{specification_in}
use Rattle.eval_state.specs.Kept.{body_view, compiled_view, entry_view, event_view, row_view, rows_view}
use Rattle.eval_state.specs.Run.{Run, in_world, program_of, run_of, world}
use Rattle.eval_state.specs.Sound.{AreKnown, AreNamed, IsSound}
use Rattle.eval_state.proofs.Growth.{body_more, compiled_more, count_kept, entries_more, events_more}

-- the run of parts, with these specifications and what is read off them
abbrev read_off : Parts → List Specification → (closures : ℕ) → Active → List Item → List Body → List Frame → Run
read_off p rows closures body history bodies frames = record {
  program = program_of p;
  turns = suc p.turns;
  state = record {
    body = body;
    shared = record {
      history = history;
      input = record { bytes = p.input.now; failing = false };
      objects = words_from (OBJECTS / 4) p.objects.items;
      heap = p.heap;
      used = p.used;
      frames = p.frames;
      specifications = rows;
      closures = closures;
      bodies = bodies;
    };
    units = p.units;
    depth = p.depth;
    frames = frames;
  };
}

-- all of it by these specifications
abbrev read_by : Parts → (closures : ℕ) → List Specification → Run
read_by p n rows =
    read_off p rows n (body_view rows p.body) (map (event_view rows) p.events) (map (compiled_view rows) p.compiled)
    (map (entry_view rows) p.entries)

pub rows_are : (rows : List Row) (row : Row) → rows_view (rows ++ row ∷ [])
    ≡ rows_view rows ++ row_kept (rows_view rows) (row_view row) ∷ []
rows_are rows row =
    ap rows_kept (map-append row_view rows (row ∷ []))
    ∙ specified_more (map row_view rows) (row_view row)

pub count : (rows : List Row) → length rows ≡ length (rows_view rows)
count rows = sym (count_kept (map row_view rows) ∙ length-map rows row_view)

pub row_is_added : (p q : Parts) (row : Row) (n : ℕ) → IsSound p
    → q ≡ record p { rows = p.rows ++ row ∷ []; closures = n }
    → run_of q ≡ in_world (with_shared (record (world (run_of p)).shared {
      specifications = rows_view p.rows ++ specification_in p row ∷ [];
      closures = n;
    }) (world (run_of p))) (run_of p)
unfolding run_of
row_is_added p q row n sound h =
    let rows = rows_view p.rows in
    let s = specification_in p row in
    let more = rows ++ s ∷ [] in
    let c = count p.rows in
    let named : p.body.row ≤ length rows = subst (λ k. p.body.row ≤ k) c sound.0 in
    let entries : AreNamed (length rows) p.entries = subst (λ k. AreNamed k p.entries) c sound.1 in
    let events : AreKnown (length rows) p.events = subst (λ k. AreKnown k p.events) c sound.2 in
    ap run_of h
    ∙ ap (read_by p n) (rows_are p.rows row)
    ∙ ap (λ b. read_off p more n b (map (event_view more) p.events) (map (compiled_view more) p.compiled)
    (map (entry_view more) p.entries)) (body_more p.body rows s named)
    ∙ ap (λ items. read_off p more n (body_view rows p.body) items (map (compiled_view more) p.compiled)
    (map (entry_view more) p.entries)) (events_more p.events rows s events)
    ∙ ap (λ code. read_off p more n (body_view rows p.body) (map (event_view rows) p.events) code
    (map (entry_view more) p.entries)) (compiled_more p.compiled rows s sound.3.made)
    ∙ ap (λ fs. read_off p more n (body_view rows p.body) (map (event_view rows) p.events)
    (map (compiled_view rows) p.compiled) fs) (entries_more p.entries rows s entries)
