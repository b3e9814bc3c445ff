-- A function of the program, whole.
use Rattle.std.proofs.Common.{◌≡◌, ℕ, zero, suc, ◌+◌, ◌≤◌, ◌<◌, min, true, false, nat_le, refl, ap, sym, ◌∙◌, subst}
use Rattle.std.proofs.Common.{List, [], ◌∷◌, ◌++◌, length, take, slice_get, Some, arith}
use Rattle.limits.specs.declared.program.TheConstants.{FRAME_OBJECT_BYTES, NODE_TOP, SIZE_LIMIT}
use Rattle.c_types.specs.declared.ctype.CType.{CType}
use Rattle.check_scopes.specs.declared.names.Meaning.{Meaning}
use Rattle.check_scopes.specs.Scopes.{Name, Scope, Scopes, in_scope, find}
use Rattle.tick_tree.specs.declared.base.Base.{Base}
use Rattle.typed_tree.specs.declared.expression.CaptureKind.{CaptureKind}
use Rattle.typed_tree.specs.declared.expression.Stmt.{Stmt}
use Rattle.typed_tree.specs.declared.program.Function.{Function}
use Rattle.typed_tree.specs.Sizes.{statement_size}
use Rattle.check_rules.specs.declared.functions.Functions.{Functions}
use Rattle.check_rules.specs.Functions as tables
use Rattle.check_rules.specs.declared.state.Stage.TheVariants as stage
use Rattle.check_rules.specs.declared.state.State.{State}
use Rattle.check_rules.specs.ExpressionRules as rules
use Rattle.check_rules.specs.ExpressionRules.{Shape, Item}
use Rattle.check_rules.specs.Declarations.{name_by}
use Rattle.check_globals.specs.Functions.{Given, types_of}
use Rattle.check_globals.specs.Programs.{function_fits}
use Rattle.check_globals.specs.Program.{around}
use Rattle.wellformed.proofs.Bools.{second_true}
use Rattle.wf_walk.specs.Known.{EachEntry, Small}
use Rattle.wf_walk.proofs.Fronts.{starts_same}
use Rattle.wf_programs.proofs.Bools.{true_le, length_last}
use Rattle.wf_programs.proofs.Counted.{EndNames}
use Rattle.wf_programs.proofs.Done.{body_of, made_function, made_state, is_made, FunctionDone, with_defined, get_rest}
use Rattle.wf_programs.proofs.Done.{is_right}
use Rattle.wf_programs.proofs.Files.{names_of, whole, many, End, Towards, EachLinked, linked_later, linked_last}
use Rattle.wf_programs.proofs.Files.{AtFile}
use Rattle.wf_programs.proofs.Finish.{few_ticks, function_fit}
use Rattle.wf_programs.proofs.Functions.{GoodFunction}
use Rattle.wf_programs.proofs.Inside.{Inside, inside, starts_length}
use Rattle.wf_programs.proofs.Made.{PartsOf, parts_of}
use Rattle.wf_programs.proofs.Names.{NamedFunction}
use Rattle.wf_programs.proofs.Runs.{FunctionRan}
use Rattle.wf_programs.proofs.Scopes.{Numbered, IsCallable, FileName, TopName, AllFound, each_map, Later, file_later}
use Rattle.wf_programs.proofs.Still.{Still}
use Rattle.wf_programs.proofs.Tables.{HasNumber, number_at, with_name}

-- ---- a function, whole

-- the state after a function has few things, as the end has
small_after : (e : State) (line : ℕ) (d : Shape) (t : CType) (named given last : State) (xs : List Stmt) (n : ℕ) →
    End e → Towards (made_state line d t named last xs) e
    → function_fits (made_function line d t named last xs) ≡ true → n ≤ 8 → length given.frame.homes ≡ n →
    length last.frame.homes ≤ length given.frame.homes + 900000000
    → Small stage.Function last
small_after e line d t named given last xs n end w fits few homes more =
    let ticks : length e.ticks.all ≤ 15728640 = few_ticks e end.limits in
    let part : length last.ticks.all ≤ length e.ticks.all = starts_length last.ticks.all e.ticks.all w.ticks in
    record {
      homes = omega arith;
      object = true_le _ _ (second_true (nat_le (min (statement_size (body_of last xs)) NODE_TOP) SIZE_LIMIT)
          (nat_le last.frame.object FRAME_OBJECT_BYTES) fits);
      ticks = omega arith;
      tick = tt;
    }

name_at : (fs : List Function) (n : ℕ) (f : Function) → slice_get fs n ≡ Some f →
    slice_get (names_of fs) n ≡ Some f.name
name_at [] n f at = absurd (cc)
name_at (g ∷ fs) zero f at = let e : g ≡ f = cc in ap (λ (x : Function). Some x.name) e
name_at (g ∷ fs) (suc n) f at = name_at fs n f at

fits_end : (e : State) (line : ℕ) (d : Shape) (t : CType) (s named last : State) (xs : List Stmt) (name : Name)
    (table : Scope) → End e → Towards (made_state line d t named last xs) e
    → function_fits (made_function line d t named last xs) ≡ true
fits_end e line d t s named last xs name table end w =
    function_fit e.functions.all (length last.functions.all) (made_function line d t named last xs) end.limits.functions
    (get_rest last.functions.all (made_function line d t named last xs) w.all.rest e.functions.all w.all.is)

-- its number
own_number : (e : State) (line : ℕ) (d : Shape) (t : CType) (s named last : State) (xs : List Stmt) (table : Scope) →
    Towards (made_state line d t named last xs) e
    → last.functions ≡ with_defined (length s.functions.all) (name_by d.declared.name) table s.functions →
    HasNumber (whole e) (name_by d.declared.name) (number_at (length s.functions.all))
own_number e line d t s named last xs table w is =
    let all : length last.functions.all ≡ length s.functions.all = ap (λ (f : Functions). length f.all) is in
    let at : slice_get e.functions.all (length last.functions.all) ≡ Some (made_function line d t named last xs)
    = get_rest last.functions.all (made_function line d t named last xs) w.all.rest e.functions.all w.all.is in
    record {
      place = length s.functions.all;
      is = ap (λ (n : ℕ). slice_get (whole e) n) (sym all) ∙
          name_at e.functions.all (length last.functions.all) (made_function line d t named last xs) at;
      number = refl;
    }

-- the names at file scope then
names_then : (e : State) (s typed_ named last : State) (t : CType) (sc table : Scope) (name : Name) →
    EachEntry (FileName (whole e) s.functions) sc → Still s typed_ → IsCallable t
    → (n : NamedFunction name t typed_ named sc table) →
    last.functions ≡ with_defined (length s.functions.all) name table s.functions →
    HasNumber (whole e) name (number_at (length s.functions.all))
    → EachEntry (FileName (whole e) last.functions) n.scope
names_then e s typed_ named last t sc table name names still callable n is own =
    let later : Later s.functions last.functions =
    record {
      earlier = ap (λ (f : Functions). f.earlier) is;
      prototypes =
          starts_same s.functions.prototypes last.functions.prototypes (ap (λ (f : Functions). f.prototypes) is);
    } in
    let all : length s.functions.all ≡ length typed_.functions.all =
    ap (λ (f : Functions). length f.all) (sym still.functions) in
    let number : HasNumber (whole e) name (tables.next typed_.functions) =
    subst (λ (i : ℕ). HasNumber (whole e) name (number_at i)) all own in
    n.names (FileName (whole e) last.functions) (file_later (whole e) s.functions last.functions sc later names)
    (Numbered number, callable)

file_then : (e : State) (line : ℕ) (d : Shape) (t : CType) (s typed_ named last : State) (xs : List Stmt)
    (sc table : Scope) → EachLinked sc s.functions.all → AllFound sc → length (types_of t) ≤ 8
    → (n : NamedFunction (name_by d.declared.name) t typed_ named sc table) →
    last.functions ≡ with_defined (length s.functions.all) (name_by d.declared.name) table s.functions
    → take (length named.scopes) last.scopes ≡ n.scope ∷ [] → EachEntry (FileName (whole e) last.functions) n.scope →
    AtFile e (made_state line d t named last xs)
file_then e line d t s typed_ named last xs sc table linked found few n is scopes names = record {
  scope = n.scope;
  one = scopes;
  names = file_later (whole e) last.functions
      (tables.with_function (made_function line d t named last xs) last.functions) n.scope
      (record { earlier = refl; prototypes = starts_same last.functions.prototypes last.functions.prototypes refl })
      names;
  found = n.every found;
  table = with_name (length s.functions.all) (name_by d.declared.name) table;
  defined = ap (λ (f : Functions). f.defined) is;
  linked = subst (λ (fs : List Function). EachLinked n.scope (fs ++ made_function line d t named last xs ∷ []))
      (sym (ap (λ (f : Functions). f.all) is))
      (linked_last n.scope s.functions.all (made_function line d t named last xs)
      (linked_later sc n.scope s.functions.all n.keeps linked)
      (record { what = n.what; found = n.found; type = t; same = n.same; params = refl; few = few }));
}

-- what is known of the file behind a function
pub function_file : (e : State) (line : ℕ) (b : Base) (d : Shape) (gs : List Given) (items : List Item) (s new : State)
    → GoodFunction (many e) d gs items → AtFile e s → FunctionRan line b d gs items s new → Towards new e → AtFile e new
function_file e line b d gs items s new good file r towards =
    let p : PartsOf line b d gs items s new r file.scope file.table =
    parts_of (many e) line b d gs items s new r file.scope file.table good file.one file.defined in
    let made : new ≡ made_state line d r.type r.named r.third.last r.third.nodes = is_made line b d gs items s new r in
    let w : Towards (made_state line d r.type r.named r.third.last r.third.nodes) e =
    subst (λ (z : State). Towards z e) made towards in
    let own : HasNumber (whole e) (name_by d.declared.name) (number_at (length s.functions.all))
    = own_number e line d r.type s r.named r.third.last r.third.nodes file.table w p.grown.functions in
    let names : EachEntry (FileName (whole e) r.third.last.functions) p.name.scope
    = names_then e s r.typed r.named r.third.last r.type file.scope file.table (name_by d.declared.name) file.names
    p.typed.still (record { type = p.typed.value; list = p.typed.list }) p.name p.grown.functions own in
    subst (λ (z : State). AtFile e z) (sym made)
    (file_then e line d r.type s r.typed r.named r.third.last r.third.nodes file.scope file.table file.linked file.found
    p.typed.few p.name p.grown.functions p.grown.scopes names)

-- what the names mean in the function, since each of them is found at the end
tops : (e new : State) (scope : Scope) → new.scopes ≡ scope ∷ [] → EndNames e →
    ((n : Name) (m : Meaning) → find new.scopes n ≡ Some m → find e.scopes n ≡ Some m) → AllFound scope
    → EachEntry (TopName (many e)) scope
tops e new scope one names keeps found =
    each_map (λ n m. in_scope scope n ≡ Some m) (TopName (many e)) scope
    (λ n m is. names n m (keeps n m (ap (λ (z : Scopes). find z n) one ∙ is))) found

pub function_done : (e : State) (line : ℕ) (b : Base) (d : Shape) (gs : List Given) (items : List Item)
    (ks : List (List CaptureKind)) (s new : State)
    → End e → EndNames e → GoodFunction (many e) d gs items → (file : AtFile e s) → length ks ≡ length s.ticks.all →
    (r : FunctionRan line b d gs items s new) → Towards new e
    → ((n : Name) (m : Meaning) → find new.scopes n ≡ Some m → find e.scopes n ≡ Some m) →
    FunctionDone e (name_by d.declared.name) ks s new file.table
function_done e line b d gs items ks s new end ends good file counted r towards keeps =
    let p : PartsOf line b d gs items s new r file.scope file.table =
    parts_of (many e) line b d gs items s new r file.scope file.table good file.one file.defined in
    let made : new ≡ made_state line d r.type r.named r.third.last r.third.nodes = is_made line b d gs items s new r in
    let w : Towards (made_state line d r.type r.named r.third.last r.third.nodes) e =
    subst (λ (z : State). Towards z e) made towards in
    let fits : function_fits (made_function line d r.type r.named r.third.last r.third.nodes) ≡ true
    = fits_end e line d r.type s r.named r.third.last r.third.nodes (name_by d.declared.name) file.table end w in
    let small : Small stage.Function r.third.last
    = small_after e line d r.type r.named r.third.given r.third.last r.third.nodes (length (types_of r.type)) end w fits
    p.typed.few p.all.at.frame.homes (good.few r.third.given r.third.last r.third.nodes r.third.walked) in
    let one : new.scopes ≡ p.name.scope ∷ [] = ap (λ (z : State). z.scopes) made ∙ p.grown.scopes in
    let names : EachEntry (TopName (many e)) p.name.scope =
    tops e new p.name.scope one ends keeps (p.name.every file.found) in
    let i : Inside e ks (length (types_of r.type)) r.third.given r.third.last r.third.nodes
    = inside e p.name.scope (length (types_of r.type)) ks (rules.each items around) r.third.given r.third.last
    r.third.nodes good.walks p.all.at names
    (counted ∙ ap length (sym p.grown.before)) r.third.walked small in
    let after : AtFile e new = function_file e line b d gs items s new good file r towards in
    subst (λ (z : State). FunctionDone e (name_by d.declared.name) ks s z file.table) (sym made)
    (record {
      file = subst (λ (z : State). AtFile e z) made after;
      defined = ap (λ (f : Functions). f.defined) p.grown.functions;
      function = made_function line d r.type r.named r.third.last r.third.nodes;
      all = ap (λ (f : Functions). f.all ++ made_function line d r.type r.named r.third.last r.third.nodes ∷ [])
          p.grown.functions;
      named = refl;
      more = i.more;
      counted = i.counted;
      stands = λ all starts. is_right e ks all line d r.type r.named r.third.given r.third.last r.third.nodes
          p.typed.few fits i starts;
      ticks = λ all starts m. i.ticks all starts
          (record { rest = m.rest; is = m.is ∙ ap (λ ts. ts ++ m.rest) (sym p.grown.before) });
    })
