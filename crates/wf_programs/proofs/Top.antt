-- The law on a whole program, given what is known of its parts.
use Rattle.std.proofs.Common.{◌≡◌, ℕ, zero, suc, ◌+◌, ◌≤◌, min, true, ap, sym, ◌∙◌, subst, List, [], ◌∷◌, ◌++◌, length}
use Rattle.std.proofs.Common.{slice_get, Some, Ok, arith}
use Rattle.limits.specs.declared.program.TheConstants.{SIZE_LIMIT}
use Rattle.word32.specs.declared.map.TheConstants.{GLOBAL_BYTES}
use Rattle.check_scopes.specs.Scopes.{Name}
use Rattle.tick_tree.specs.declared.syntax.External.{External}
use Rattle.tick_tree.specs.declared.tree.Tree.{Tree}
use Rattle.typed_tree.specs.declared.expression.CaptureKind.{CaptureKind}
use Rattle.typed_tree.specs.declared.program.Function.{Function}
use Rattle.typed_tree.specs.declared.program.Tick.{Tick}
use Rattle.typed_tree.specs.declared.program.TypedParts.{TypedParts}
use Rattle.typed_tree.specs.Sizes.{body_size}
use Rattle.check_rules.specs.declared.functions.Functions.{Functions}
use Rattle.check_rules.specs.declared.image.Image.{Image}
use Rattle.check_rules.specs.Functions as tables
use Rattle.check_rules.specs.Images as images
use Rattle.check_rules.specs.declared.state.State.{State}
use Rattle.check_rules.specs.Starts.{empty, emptied}
use Rattle.check_globals.specs.Programs.{typed, image, tick_fits}
use Rattle.check_globals.specs.Program.{checked}
use Rattle.wellformed.specs.Accepted as accepted
use Rattle.wf_walk.specs.Steps.{EachTick, TickStands}
use Rattle.wf_walk.proofs.Fronts.{starts_refl}
use Rattle.wf_programs.proofs.Bools.{true_le}
use Rattle.wf_programs.proofs.Bounds.{Bounded, image_small}
use Rattle.wf_programs.proofs.Counted.{EndNames, end_names}
use Rattle.wf_programs.proofs.Ends.{AllFit, AllFixed, ImageKept, walk_image, walks_end}
use Rattle.wf_programs.proofs.Checked.{Ran, ran}
use Rattle.wf_programs.proofs.Files.{whole, many, End, AtFile, EachLinked, names_of, round}
use Rattle.wf_programs.proofs.Finish.{Finished, finished_gives, limits, tick_fit, words_small}
use Rattle.wf_programs.proofs.Main.{HasMain, main_found}
use Rattle.wf_programs.proofs.Second.{EachFunction, Walked, file_at_end, walked}
use Rattle.wf_programs.proofs.Starts.{Library, started, begun_again}
use Rattle.wf_programs.proofs.Tables.{with_names, numbered, prototypes_numbered}
use Rattle.wf_programs.proofs.Walk.{EachGood, functions_in, Grew, walk_grew, count_grew}

-- ---- where the second walk ends

-- the tables of functions at the end of both walks
pub record Tabled (ns : List Name) (e : State) : Type 0 where
  pub defined : e.functions.defined ≡ with_names 0 ns [] ∷ []
  pub earlier : e.functions.earlier ≡ with_names 0 ns [] ∷ []
  pub names : names_of e.functions.all ≡ ns
  pub count : length e.functions.all ≡ length ns

first_table : (xs : List External) (p : TypedParts) → EachGood [] xs → (r : Ran xs p) →
    r.first.1.functions.defined ≡ with_names 0 (functions_in xs) [] ∷ []
first_table xs p good r =
    let l : Library empty r.begin.1 = started r.begin.1 r.begin.0 r.one in
    let fs : r.begin.1.functions ≡ tables.new = ap (λ (z : State). z.functions) l.is in
    let g : Grew (functions_in xs) r.begin.1 r.first.1 []
    = walk_grew [] xs r.begin.1 r.first.1 r.first.0 l.scope [] good (ap (λ (z : State). z.scopes) l.is)
    (ap (λ (f : Functions). f.defined) fs) r.two in
    g.defined ∙ ap (λ (f : Functions). with_names (length f.all) (functions_in xs) [] ∷ []) fs

pub record Begun (s new : State) : Type 1 where
  pub library : Library (emptied s) new
  pub one : new.scopes ≡ library.scope ∷ []
  pub functions : new.functions ≡ tables.again s.functions
  pub ticks : new.ticks.all ≡ []

second_begun : (xs : List External) (p : TypedParts) (r : Ran xs p) → Begun r.first.1 r.middle.1
second_begun xs p r =
    let l : Library (emptied r.first.1) r.middle.1 = begun_again r.first.1 r.middle.1 r.middle.0 r.three in
    record {
      library = l;
      one = ap (λ (z : State). z.scopes) l.is;
      functions = ap (λ (z : State). z.functions) l.is;
      ticks = ap (λ (z : State). z.ticks.all) l.is;
    }

tabled : (xs : List External) (p : TypedParts) → EachGood [] xs → (r : Ran xs p) → Tabled (functions_in xs) r.last.1
tabled xs p good r =
    let b : Begun r.first.1 r.middle.1 = second_begun xs p r in
    let g : Grew (functions_in xs) r.middle.1 r.last.1 []
    = walk_grew [] xs r.middle.1 r.last.1 r.last.0 b.library.scope [] good b.one
    (ap (λ (f : Functions). f.defined) b.functions) r.four in
    let n : length r.last.1.functions.all ≡ length r.middle.1.functions.all + length (functions_in xs) =
    count_grew (functions_in xs) r.middle.1 r.last.1 [] g in
    let z : length r.middle.1.functions.all ≡ 0 = ap (λ (f : Functions). length f.all) b.functions in
    record {
      defined = g.defined ∙ ap (λ (f : Functions). with_names (length f.all) (functions_in xs) [] ∷ []) b.functions;
      earlier = g.towards.earlier ∙ ap (λ (f : Functions). f.earlier) b.functions ∙ first_table xs p good r;
      names = g.names ∙ ap (λ (f : Functions). names_of f.all ++ functions_in xs) b.functions;
      count = omega arith;
    }

ended : (ns : List Name) (e : State) (p : TypedParts) → Tabled ns e → Finished e p → End e
ended ns e p t f = record {
  limits = limits e f.fits;
  numbers = prototypes_numbered (whole e) e.functions (with_names 0 ns []) t.defined t.earlier
      (numbered (whole e) 0 ns []
      (λ i x at. ap (λ (j : ℕ). slice_get (whole e) j) (let z : 0 + i ≡ i = omega arith in z) ∙
      ap (λ l. slice_get l i) t.names ∙ at) tt) f.prototypes;
}

begun_file : (e s new : State) → Begun s new → AtFile e new
begun_file e s new b = record {
  scope = b.library.scope;
  one = b.one;
  names = b.library.names (whole e) new.functions;
  found = b.library.every;
  table = [];
  defined = ap (λ (f : Functions). f.defined) b.functions;
  linked = subst (λ (f : Functions). EachLinked b.library.scope f.all) (sym b.functions) tt;
}

-- ---- each function, and each tick

function_at : (e : State) (all : List (List CaptureKind)) (fs : List Function) (n : ℕ) (f : Function) →
    EachFunction e all fs → slice_get fs n ≡ Some f → accepted.IsFunction (typed e) all f
function_at e all [] n f h at = absurd (cc)
function_at e all (g ∷ fs) zero f h at = let same : g ≡ f = cc in
    subst (λ (x : Function). accepted.IsFunction (typed e) all x) same h.0
function_at e all (g ∷ fs) (suc n) f h at = function_at e all fs n f h.1 at

right_tick : (e : State) (all : List (List CaptureKind)) (t : Tick) (ks : List CaptureKind) →
    TickStands (round e all [] 0) t ks → tick_fits t ≡ true → accepted.IsTick (typed e) all t ks
right_tick e all t ks h fits =
    let small : t.size ≤ SIZE_LIMIT = true_le t.size SIZE_LIMIT fits in
    let size : t.size ≡ min (body_size t.body) 65536 = h.size in
    record {
      stands = h.stands;
      values = h.values;
      captures = h.captures;
      size = omega arith;
      numbers = h.numbers;
      small = small;
    }

tick_at : (e : State) (all : List (List CaptureKind)) (ts : List Tick) (ms : List (List CaptureKind)) (n : ℕ) (t : Tick)
    (ks : List CaptureKind) → EachTick (round e all [] 0) ts ms
    → slice_get ts n ≡ Some t → slice_get ms n ≡ Some ks → tick_fits t ≡ true → accepted.IsTick (typed e) all t ks
tick_at e all [] ms n t ks h at k fits = absurd (cc)
tick_at e all (u ∷ ts) [] n t ks h at k fits = absurd (cc)
tick_at e all (u ∷ ts) (m ∷ ms) zero t ks h at k fits =
    let same : u ≡ t = cc in
    let other : m ≡ ks = cc in
    right_tick e all t ks (subst (λ (x : Tick). TickStands (round e all [] 0) x ks) same
    (subst (λ (x : List CaptureKind). TickStands (round e all [] 0) u x) other h.0)) fits
tick_at e all (u ∷ ts) (m ∷ ms) (suc n) t ks h at k fits = tick_at e all ts ms n t ks h.1 at k fits

-- ---- the law

is_accepted : (s : State) (e : State) (p : TypedParts) (ns : List Name) → Tabled ns e → Finished e p → End e →
    Walked e [] s → s.functions.all ≡ [] → s.ticks.all ≡ [] → length (image e.image) ≤ GLOBAL_BYTES
    → accepted.IsAccepted (typed e)
is_accepted s e p ns t f end w none no_ticks bytes =
    let m : HasMain e.functions.all = main_found e ns w.file t.defined t.names f.main in
    record {
      captures = w.more;
      each = w.counted;
      functions = λ n g at. function_at e w.more e.functions.all n g
          (w.functions w.more (starts_refl w.more)
          (record { rest = e.functions.all; is = ap (λ l. l ++ e.functions.all) (sym none) })) at;
      ticks = λ n u ks at k. tick_at e w.more e.ticks.all w.more n u ks
          (w.ticks w.more (starts_refl w.more)
          (record { rest = e.ticks.all; is = ap (λ l. l ++ e.ticks.all) (sym no_ticks) })) at k
          (tick_fit e.ticks.all n u end.limits.ticks at);
      main = m.place;
      main_function = m.function;
      is_main = m.is;
      name = m.name;
      no_parameters = m.none;
      image = bytes;
      small = words_small e end.limits;
    }

-- ---- the image

image_few : (xs : List External) (p : TypedParts) → AllFit → EachGood [] xs → AllFixed xs → (r : Ran xs p) →
    Finished r.last.1 p → length (image r.last.1.image) ≤ GLOBAL_BYTES
image_few xs p fit good fixed r f =
    let l : Library empty r.begin.1 = started r.begin.1 r.begin.0 r.one in
    let b : Begun r.first.1 r.middle.1 = second_begun xs p r in
    let one : r.begin.1.scopes ≡ l.scope ∷ [] = ap (λ (z : State). z.scopes) l.is in
    let defined : r.begin.1.functions.defined ≡ [] ∷ [] = ap (λ (z : State). z.functions.defined) l.is in
    let again : r.middle.1.functions.defined ≡ [] ∷ [] = ap (λ (f : Functions). f.defined) b.functions in
    let first : r.begin.1.image ≡ images.new = ap (λ (z : State). z.image) l.is in
    let second : r.middle.1.image ≡ images.again r.first.1.image = ap (λ (z : State). z.image) b.library.is in
    let k : ImageKept r.middle.1 r.last.1 =
    walk_image fit xs r.middle.1 r.last.1 r.last.0 b.library.scope [] good b.one again r.four in
    let ends : r.first.1.image.end ≡ r.last.1.image.end
    = walks_end fit xs r.begin.1 r.first.1 r.middle.1 r.last.1 r.first.0 r.last.0 l.scope b.library.scope [] [] good
    fixed one b.one defined again r.two r.four
    (ap (λ (i : Image). i.end) first ∙ sym (ap (λ (i : Image). i.end) second)) in
    image_small r.last.1.image r.first.1.image.end (k.strings ∙ ap (λ (i : Image). i.strings_at) second) (sym ends)
    (k.bounded (subst Bounded (sym second) (λ h. omega arith))) (limits r.last.1 f.fits).image

-- given the parts
pub program_accepted : (t : Tree) (p : TypedParts) → AllFit → ((counts : List ℕ) → EachGood counts t.items) →
    AllFixed t.items → checked t ≡ Ok p → accepted.IsAccepted p
program_accepted t p fit good fixed is =
    let r : Ran t.items p = ran t p is in
    let b : Begun r.first.1 r.middle.1 = second_begun t.items p r in
    let tb : Tabled (functions_in t.items) r.last.1 = tabled t.items p (good []) r in
    let f : Finished r.last.1 p = finished_gives r.last.1 p r.five in
    let end : End r.last.1 = ended (functions_in t.items) r.last.1 p tb f in
    let ends : EndNames r.last.1
    = end_names r.last.1 end (file_at_end r.last.1 t.items r.middle.1 r.last.0 (good (many r.last.1))
    (begun_file r.last.1 r.first.1 r.middle.1 b) r.four) in
    let w : Walked r.last.1 [] r.middle.1
    = walked r.last.1 t.items [] r.middle.1 r.last.0 end ends (good (many r.last.1))
    (begun_file r.last.1 r.first.1 r.middle.1 b) (ap length (sym b.ticks)) r.four in
    subst (λ (q : TypedParts). accepted.IsAccepted q) (sym f.is)
    (is_accepted r.middle.1 r.last.1 p (functions_in t.items) tb f end w (ap (λ (g : Functions). g.all) b.functions)
    b.ticks (image_few t.items p fit (good []) fixed r f))
