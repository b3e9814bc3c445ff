-- A call of a function that was compiled: the machine comes to its published address, and the word there tells that it
-- is entered; then its frame is taken, or is over the limit of the stack.
use Rattle.std.proofs.Common.{◌≡◌, ◌≢◌, ◌⊎◌, inl, inr, ℕ, zero, suc, ◌+◌, ◌<◌, ◌≤◌, Bool, true, false}
use Rattle.std.proofs.Common.{List, [], ◌∷◌, ◌++◌, Option, Some, None, refl, sym, ap, ◌∙◌, subst, arith, nat_eq}
use Rattle.std.proofs.Common.{slice_get, if◌then◌else◌, append-nil}
use Rattle.std.proofs.lemmas.Bool.{cases_eq}
use Rattle.std.proofs.lemmas.Bool.Decides.{nat_tests}
use Rattle.word32.specs.declared.map.TheConstants.{FUNCTION_ROWS}
use Rattle.history.specs.Events.{Item, Out, In}
use Rattle.history.specs.Events as item
use Rattle.mips_model.specs.State.{Code, Data}
use Rattle.mips_model.specs.Told.{row_from}
use Rattle.meaning_state.specs.Bodies.{Body, NoneBeginsAt, BeginApart}
use Rattle.meaning_state.specs.Shared.{Shared, happens}
use Rattle.icode_meaning.specs.State.{Frame, Log}
use Rattle.icode_meaning.specs.Steps.{with_event}
use Rattle.icode_expand_proof.specs.Settings.{Setting, Standing, Published, HasRows, Changed}
use Rattle.icode_expand_proof.specs.Relation.{AllPass, passing, HistoryAgrees, MemoryAgrees}
use Rattle.icode_expand_proof.proofs.Entrance.{Enters}
use Rattle.icode_expand_proof.proofs.Growing.{stacked_grown}
use Rattle.icode_run_proof.proofs.Steps.{all_stay}
use Rattle.icode_run_proof.specs.Relation.{Base, Stood, functions_of, body_address}
use Rattle.icode_run_proof.proofs.Present.{row_of_body}

-- ---- the number of a published address

-- the least row with this address
some_from : (count row at target : ℕ) (table : ℕ → ℕ × ℕ) → row ≤ target → target < row + count
    → (table target).0 ≡ at → ((n : ℕ) → n < target → (table n).0 ≢ at)
    → row_from count row at table ≡ Some target
unfolding row_from
some_from zero row at target table low high is other = absurd (omega (arith, low, high))
some_from (suc count) row at target table low high is other =
    by (nat_eq (table row).0 at) refl (cases_eq row target)
    (λ ne. some_from count (suc row) at target table (omega (arith, low, ne)) (omega (arith, high)) is other)
  where
    by : (t : Bool) → nat_eq (table row).0 at ≡ t → (row ≡ target) ⊎ (row ≢ target)
        → (row ≢ target → row_from count (suc row) at table ≡ Some target)
        → (if t then Some row else row_from count (suc row) at table) ≡ Some target
    by true t (inl e) rest = ap (λ (n : ℕ). Some n) e
    by true t (inr ne) rest = absurd (other row (omega (arith, low, ne)) (grind (arith, nat_tests, t)))
    by false t (inl e) rest =
        absurd (let p : (table row).0 ≡ at = ap (λ n. (table n).0) e ∙ is in grind (arith, nat_tests, t, p))
    by false t (inr ne) rest = rest ne

-- no two live bodies begin at the same word
not_there : (bodies : List Body) (first k : ℕ) (x : Body) → NoneBeginsAt first bodies → slice_get bodies k ≡ Some x
    → x.live ≡ true → x.first ≢ first
not_there [] first k x none e live = absurd cc
not_there (y ∷ ys) first zero x none e live =
    let same : y ≡ x = cc in
    subst (λ (z : Body). z.first ≢ first) same (none.0 (ap (λ (z : Body). z.live) same ∙ live))
not_there (y ∷ ys) first (suc k) x none e live = not_there ys first k x none.1 e live

one_place : (bodies : List Body) (j k : ℕ) (x y : Body) → BeginApart bodies → slice_get bodies j ≡ Some x
    → x.live ≡ true → slice_get bodies k ≡ Some y → y.live ≡ true → x.first ≡ y.first → j ≡ k
one_place [] j k x y apart e l e' l' same = absurd cc
one_place (z ∷ zs) zero zero x y apart e l e' l' same = refl
one_place (z ∷ zs) zero (suc k) x y apart e l e' l' same =
    let at : z ≡ x = cc in
    let first : z.first ≡ x.first = ap (λ (q : Body). q.first) at in
    absurd (not_there zs z.first k y (apart.0 (ap (λ (q : Body). q.live) at ∙ l)) e' l' (sym (first ∙ same)))
one_place (z ∷ zs) (suc j) zero x y apart e l e' l' same =
    let at : z ≡ y = cc in
    let first : z.first ≡ y.first = ap (λ (q : Body). q.first) at in
    absurd (not_there zs z.first j x (apart.0 (ap (λ (q : Body). q.live) at ∙ l')) e l (same ∙ sym first))
one_place (z ∷ zs) (suc j) (suc k) x y apart e l e' l' same =
    ap suc (one_place zs j k x y apart.1 e l e' l' same)

module _ (b : Base) (c : Code) (s : Setting) (stood : Stood b c s) (k : ℕ) (x : Body)
    (there : slice_get s.made.bodies k ≡ Some x) (live : x.live ≡ true) where
  abbrev number : ℕ
  number = suc (functions_of b + k)

  pub number_is : (table : ℕ → ℕ × ℕ) → Published s.program table
      → row_from FUNCTION_ROWS 0 (body_address x) table ≡ Some number
  number_is table p =
      let here = p.rows number (body_address x) _ (stood.present.each k x there live).row in
      some_from FUNCTION_ROWS 0 (body_address x) number table (omega arith) (omega (arith, here.0))
      (ap (λ (q : ℕ × ℕ). q.0) here.1) (λ n l. by n l here.0 (s.program.row n) refl)
    where
      by : (n : ℕ) → n < number → number < FUNCTION_ROWS → (o : Option (ℕ × ℕ)) → s.program.row n ≡ o
          → (table n).0 ≢ body_address x
      by n l high None is e = let far = (p.others n (omega (arith, l, high)) is).0 in omega (arith, far, e)
      by n l high (Some row) is e =
          let at : row.0 ≡ body_address x =
          sym (ap (λ (q : ℕ × ℕ). q.0) (p.rows n row.0 row.1 is).1) ∙ e in
          let r = row_of_body b c s stood n row.0 row.1 is (omega (arith, at)) in
          let address = r.at in
          let same : r.body.first ≡ x.first = omega (arith, at, address) in
          let place = one_place s.made.bodies r.place k r.body x stood.arena.summed.held.apart r.there r.live there live
          same in
          let its = r.number in
          omega (arith, l, its, place)

-- the rows of what was compiled, as the ops take them
pub rows_of : (b : Base) (c : Code) (s : Setting) → Stood b c s → HasRows (functions_of b) s
rows_of b c s stood = record {
  live = λ k x e l. (stood.present.each k x e l).row;
  gone = stood.present.gone;
}

-- ---- the setting when a function was entered

abbrev pub with_history : List Item → Setting → Setting
with_history h s = record s { history = h }

standing_told : (h : List Item) (s : Setting) → Standing s → Standing (with_history h s)
standing_told h s st =
    record { functions = st.functions; fronts = st.fronts; routines = st.routines; exits = st.exits }

told_changes : (h : List Item) (s : Setting) → Changed (λ a. true) s (with_history h s)
told_changes h s = record { functions = λ a f t e. e; places = λ a f t e. refl; exit = refl }

pub stood_told : (b : Base) (c : Code) (h : List Item) (s : Setting) → Stood b c s → Stood b c (with_history h s)
stood_told b c h s x = record {
  code_is = x.code_is;
  standing = standing_told h s x.standing;
  extends = record { functions = x.extends.functions; rows = x.extends.rows; others = x.extends.others };
  serving = record { ops = x.serving.ops };
  routines = x.routines;
  variables = record { local = x.variables.local; parameter = x.variables.parameter };
  compiler = record { routine = x.compiler.routine; generators = x.compiler.generators };
  present = record {
    each = λ k y e l. let z = x.present.each k y e l in record {
      known = z.known;
      row = z.row;
      stands = z.stands;
      within = z.within;
      some = z.some;
      entry = z.entry;
      plain = z.plain;
    };
    gone = x.present.gone;
    known = x.present.known;
    low = x.present.low;
    rows = x.present.rows;
  };
  arena = x.arena;
  idle = x.idle;
}

passing_on : (xs ys : List Item) → passing (xs ++ ys) ≡ passing xs ++ passing ys
passing_on [] ys = refl
passing_on (Out x ∷ xs) ys = ap (λ (l : List Item). Out x ∷ l) (passing_on xs ys)
passing_on (In x ∷ xs) ys = ap (λ (l : List Item). In x ∷ l) (passing_on xs ys)
passing_on (item.Made f syntax ∷ xs) ys = passing_on xs ys
passing_on (item.Entered f ∷ xs) ys = passing_on xs ys

all_passing : (xs : List Item) → AllPass xs → passing xs ≡ xs
all_passing [] h = refl
all_passing (Out x ∷ xs) h = ap (λ (l : List Item). Out x ∷ l) (all_passing xs h)
all_passing (In x ∷ xs) h = ap (λ (l : List Item). In x ∷ l) (all_passing xs h)
all_passing (item.Made f syntax ∷ xs) h = absurd h
all_passing (item.Entered f ∷ xs) h = absurd h

-- what is told more, and doesn't pass
pub passing_more : (s : Setting) (it : Item) → passing (it ∷ []) ≡ [] → (history outside : List Item)
    → HistoryAgrees s history outside → outside ≡ passing (history ++ it ∷ []) ++ []
passing_more s it none history outside h =
    h.outside_is
    ∙ ap (λ (l : List Item). passing s.history ++ l) (sym (all_passing h.since h.passes))
    ∙ sym (passing_on s.history h.since) ∙ ap passing (sym h.history_is)
    ∙ sym (append-nil (passing history)) ∙ ap (λ (l : List Item). passing history ++ l) (sym none)
    ∙ sym (passing_on history (it ∷ []))
    ∙ sym (append-nil (passing (history ++ it ∷ [])))

-- with the function of this number
module _ (n : ℕ) (s : Setting) where
  abbrev told_in : List Item → Setting
  told_in history = with_history (history ++ item.Entered n ∷ []) s

  history_told : (history outside : List Item) → HistoryAgrees s history outside
      → HistoryAgrees (told_in history) (history ++ item.Entered n ∷ []) outside
  history_told history outside h = record {
    since = [];
    passes = tt;
    history_is = sym (append-nil (history ++ item.Entered n ∷ []));
    outside_is = passing_more s (item.Entered n) refl history outside h;
  }

  memory_told : (shared : Shared) (active : ℕ) (d : Data) → MemoryAgrees s shared active d
      → MemoryAgrees (told_in shared.history) (happens (item.Entered n) shared) active d
  memory_told shared active d h = record {
    history = history_told shared.history d.outside.history h.history;
    input = h.input;
    at_end = h.at_end;
    objects = h.objects;
    object_words = h.object_words;
    heap = h.heap;
    heap_place = h.heap_place;
    active_calls = h.active_calls;
    active_word = h.active_word;
    table = h.table;
    making = record { making = h.making.making; flushes = h.making.flushes };
    written = h.written;
    made = record { specifications = h.made.specifications; closures = h.made.closures; bodies = h.made.bodies };
  }

  pub enters_told : (arguments : ℕ → Option ℕ) (waiting : List Frame) (log : Log) (d : Data)
      → Enters s arguments waiting log d → Enters (told_in log.shared.history) arguments waiting (with_event n log) d
  enters_told arguments waiting log d h = record {
    waits = stacked_grown (λ a. true) s (told_in log.shared.history)
        (told_changes (log.shared.history ++ item.Entered n ∷ []) s) waiting d (d.registers 31) (all_stay waiting)
        h.waits;
    memory = memory_told log.shared log.active d h.memory;
    extents = record { used = h.extents.used; frames = h.extents.frames };
    from = h.from;
    even = h.even;
    global = h.global;
    objects_to = h.objects_to;
    reach = h.reach;
    stand = h.stand;
  }
