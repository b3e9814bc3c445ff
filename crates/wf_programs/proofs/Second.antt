-- The second walk: each function and each tick that it makes stands right at its end.
use Rattle.std.proofs.Common.{◌≡◌, refl, ap, sym, ◌∙◌, subst, List, [], ◌∷◌, ◌++◌, length, map, Some, Ok, append-nil}
use Rattle.std.proofs.Common.{append_assoc}
use Rattle.check_scopes.specs.declared.names.Meaning.{Meaning}
use Rattle.check_scopes.specs.Scopes.{Name, Scope, find}
use Rattle.tick_tree.specs.declared.syntax.External.{External}
use Rattle.tick_tree.specs.declared.syntax.External.TheVariants as ext
use Rattle.typed_tree.specs.declared.expression.CaptureKind.{CaptureKind}
use Rattle.typed_tree.specs.declared.program.Function.{Function}
use Rattle.typed_tree.specs.declared.program.Tick.{Tick}
use Rattle.check_rules.specs.declared.state.State.{State}
use Rattle.check_rules.specs.Declarations.{name_by}
use Rattle.check_globals.specs.Programs.{typed}
use Rattle.check_globals.specs.Parameters.{parameters_of}
use Rattle.check_globals.specs.Program as program
use Rattle.check_rules.specs.Walk.{declaration, shape, item}
use Rattle.wellformed.specs.Accepted as accepted
use Rattle.wf_walk.specs.Kept.{Starts}
use Rattle.wf_walk.specs.Steps.{EachTick}
use Rattle.wf_walk.proofs.Walks.{pure_same}
use Rattle.wf_walk.proofs.Plain.{each_tick}
use Rattle.wf_programs.proofs.Counted.{EndNames}
use Rattle.wf_programs.proofs.Done.{FunctionDone}
use Rattle.wf_programs.proofs.Files.{whole, many, End, Towards, AtFile, EachLinked, linked_later, round}
use Rattle.wf_programs.proofs.Globals.{GlobalDone, globals_done}
use Rattle.wf_programs.proofs.Runs.{FunctionRan, function_ran}
use Rattle.wf_programs.proofs.Steps.{Parts, parts, starts_trans}
use Rattle.wf_programs.proofs.Walk.{GoodExternal, EachGood, functions_in, Grew, external_grew, walk_grew}
use Rattle.wf_programs.proofs.Whole.{function_file, function_done}

-- ---- lists behind the same front

cons_same : {A : Type 0} (x : A) (xs ys : List A) → x ∷ xs ≡ x ∷ ys → xs ≡ ys
cons_same x xs ys e = cc

pub same_rest : {A : Type 0} (xs ys zs : List A) → xs ++ ys ≡ xs ++ zs → ys ≡ zs
same_rest [] ys zs e = e
same_rest (x ∷ xs) ys zs e = same_rest xs ys zs (cons_same x (xs ++ ys) (xs ++ zs) e)

-- what two steps made, one after the other
pub rest_both : {A : Type 0} (xs ys zs : List A) (p : Starts xs ys) (q : Starts ys zs) (made : Starts xs zs) →
    p.rest ++ q.rest ≡ made.rest
rest_both xs ys zs p q made =
    same_rest xs (p.rest ++ q.rest) made.rest
    (sym (append_assoc xs p.rest q.rest) ∙ sym (ap (λ l. l ++ q.rest) p.is) ∙ sym q.is ∙ made.is)

-- ---- what stands

abbrev pub EachFunction : State → List (List CaptureKind) → List Function → Type 0
EachFunction e all [] = Unit {0}
EachFunction e all (f ∷ fs) = accepted.IsFunction (typed e) all f × EachFunction e all fs

-- the walk from this state to the end
pub record Walked (e : State) (ks : List (List CaptureKind)) (s : State) : Type 0 where
  pub more : List (List CaptureKind)
  pub counted : length (ks ++ more) ≡ length e.ticks.all
  pub file : AtFile e e
  pub functions : (all : List (List CaptureKind)) → Starts (ks ++ more) all →
      (made : Starts s.functions.all e.functions.all) → EachFunction e all made.rest
  pub ticks : (all : List (List CaptureKind)) → Starts (ks ++ more) all → (made : Starts s.ticks.all e.ticks.all) →
      EachTick (round e all [] 0) made.rest more

none_made : {A : Type 0} (xs : List A) (made : Starts xs xs) → [] ≡ made.rest
none_made xs made = same_rest xs [] made.rest (append-nil xs ∙ made.is)

ended : (e : State) (ks : List (List CaptureKind)) → AtFile e e → length ks ≡ length e.ticks.all → Walked e ks e
ended e ks file counted = record {
  more = [];
  counted = ap length (append-nil ks) ∙ counted;
  file = file;
  functions = λ all starts made. subst (λ (fs : List Function). EachFunction e all fs) (none_made e.functions.all made)
      tt;
  ticks = λ all starts made. subst (λ (ts : List Tick). EachTick (round e all [] 0) ts []) (none_made e.ticks.all made)
      tt;
}

-- ---- a function, and what comes behind it

behind_function : (e : State) (name : Name) (ks : List (List CaptureKind)) (s m : State) (table : Scope) → Towards s m →
    Towards m e → (f : FunctionDone e name ks s m table) → Walked e (ks ++ f.more) m → Walked e ks s
behind_function e name ks s m table before after f w = record {
  more = f.more ++ w.more;
  counted = ap length (sym (append_assoc ks f.more w.more)) ∙ w.counted;
  file = w.file;
  functions = λ all starts made.
      let whole : Starts ((ks ++ f.more) ++ w.more) all =
      subst (λ l. Starts l all) (sym (append_assoc ks f.more w.more)) starts in
      let first : Starts (ks ++ f.more) all =
      starts_trans (ks ++ f.more) ((ks ++ f.more) ++ w.more) all (record { rest = w.more; is = refl }) whole in
      subst (λ (fs : List Function). EachFunction e all fs)
      (rest_both s.functions.all m.functions.all e.functions.all (record { rest = f.function ∷ []; is = f.all })
      after.all made)
      (f.stands all first, w.functions all whole after.all);
  ticks = λ all starts made.
      let whole : Starts ((ks ++ f.more) ++ w.more) all =
      subst (λ l. Starts l all) (sym (append_assoc ks f.more w.more)) starts in
      let first : Starts (ks ++ f.more) all =
      starts_trans (ks ++ f.more) ((ks ++ f.more) ++ w.more) all (record { rest = w.more; is = refl }) whole in
      subst (λ (ts : List Tick). EachTick (round e all [] 0) ts (f.more ++ w.more))
      (rest_both s.ticks.all m.ticks.all e.ticks.all before.ticks after.ticks made)
      (each_tick (round e all [] 0) before.ticks.rest after.ticks.rest f.more w.more (f.ticks all first before.ticks)
      (w.ticks all whole after.ticks));
}

-- ---- a declaration, and what comes behind it

file_after : (e s m : State) (file : AtFile e s) → GlobalDone (whole e) s m file.scope → AtFile e m
file_after e s m file g = record {
  scope = g.scope;
  one = g.one;
  names = g.names file.names;
  found = g.every file.found;
  table = file.table;
  defined = g.defined ∙ file.defined;
  linked = subst (λ (fs : List Function). EachLinked g.scope fs) (sym g.all)
      (linked_later file.scope g.scope s.functions.all g.keeps file.linked);
}

behind_declaration : (e s m : State) (ks : List (List CaptureKind)) (sc : Scope) → GlobalDone (whole e) s m sc →
    Walked e ks m → Walked e ks s
behind_declaration e s m ks sc g w = record {
  more = w.more;
  counted = w.counted;
  file = w.file;
  functions = λ all starts made. w.functions all starts
      (record { rest = made.rest; is = made.is ∙ ap (λ l. l ++ made.rest) (sym g.all) });
  ticks = λ all starts made. w.ticks all starts
      (record { rest = made.rest; is = made.is ∙ ap (λ l. l ++ made.rest) (sym g.ticks) });
}

-- ---- what is known of the file at the end

file_then : (e : State) (x : External) (s m : State) (u : Unit {0}) → GoodExternal (many e) x → AtFile e s →
    program.external x s ≡ Ok (u, m) → Towards m e → AtFile e m
file_then e (ext.Function line b d items) s m u good file is after =
    function_file e line b (shape d) (parameters_of d) (map item items) s m good file
    (function_ran line b (shape d) (parameters_of d) (map item items) s m u is) after
file_then e (ext.Declaration d) s m u good file is after =
    file_after e s m file (globals_done (whole e) (declaration d).line (declaration d).base (declaration d).inits s m u
    file.scope good file.one is)

pub file_at_end : (e : State) (xs : List External) (s : State) (u : Unit {0}) → EachGood (many e) xs → AtFile e s →
    program.walk xs s ≡ Ok (u, e) → AtFile e e
file_at_end e [] s u good file is = subst (λ (z : State). AtFile e z) (pure_same tt u s e is) file
file_at_end e (x ∷ xs) s u good file is =
    let p : Parts (program.external x) (λ v. program.walk xs) s e u =
    parts (program.external x) (λ v. program.walk xs) s e u is in
    let g : Grew _ s p.between file.table =
    external_grew (many e) x s p.between p.answer file.scope file.table good.0 file.one file.defined p.first in
    let after : Grew (functions_in xs) p.between e _ =
    walk_grew (many e) xs p.between e u g.scope _ good.1 g.one g.defined p.second in
    file_at_end e xs p.between u good.1 (file_then e x s p.between p.answer good.0 file p.first after.towards) p.second

-- ---- the walk

first_walked : (e : State) (x : External) (xs : List External) (ks : List (List CaptureKind)) (s m : State)
    (u v : Unit {0}) → End e → EndNames e → GoodExternal (many e) x → AtFile e s → length ks ≡ length s.ticks.all
    → program.external x s ≡ Ok (u, m) → Towards m e →
    ((n : Name) (z : Meaning) → find m.scopes n ≡ Some z → find e.scopes n ≡ Some z) →
    ((ms : List (List CaptureKind)) → AtFile e m → length ms ≡ length m.ticks.all → Walked e ms m) → Walked e ks s
first_walked e (ext.Function line b d items) xs ks s m u v end ends good file counted is after keeps rest =
    let r : FunctionRan line b (shape d) (parameters_of d) (map item items) s m =
    function_ran line b (shape d) (parameters_of d) (map item items) s m u is in
    let f : FunctionDone e (name_by (shape d).declared.name) ks s m file.table =
    function_done e line b (shape d) (parameters_of d) (map item items) ks s m end ends good file counted r after
    keeps in
    let g : Grew (name_by (shape d).declared.name ∷ []) s m file.table =
    external_grew (many e) (ext.Function line b d items) s m u file.scope file.table good file.one file.defined is in
    behind_function e (name_by (shape d).declared.name) ks s m file.table g.towards after f
    (rest (ks ++ f.more) f.file f.counted)
first_walked e (ext.Declaration d) xs ks s m u v end ends good file counted is after keeps rest =
    let g : GlobalDone (whole e) s m file.scope =
    globals_done (whole e) (declaration d).line (declaration d).base (declaration d).inits s m u file.scope good
    file.one is in
    behind_declaration e s m ks file.scope g (rest ks (file_after e s m file g) (counted ∙ ap length (sym g.ticks)))

pub walked : (e : State) (xs : List External) (ks : List (List CaptureKind)) (s : State) (u : Unit {0}) → End e →
    EndNames e → EachGood (many e) xs → AtFile e s → length ks ≡ length s.ticks.all
    → program.walk xs s ≡ Ok (u, e) → Walked e ks s
walked e [] ks s u end ends good file counted is =
    subst (λ (z : State). Walked e ks z) (sym (pure_same tt u s e is))
    (ended e ks (subst (λ (z : State). AtFile e z) (pure_same tt u s e is) file)
    (counted ∙ ap (λ (z : State). length z.ticks.all) (pure_same tt u s e is)))
walked e (x ∷ xs) ks s u end ends good file counted is =
    let p : Parts (program.external x) (λ v. program.walk xs) s e u =
    parts (program.external x) (λ v. program.walk xs) s e u is in
    let g : Grew _ s p.between file.table =
    external_grew (many e) x s p.between p.answer file.scope file.table good.0 file.one file.defined p.first in
    let after : Grew (functions_in xs) p.between e _ =
    walk_grew (many e) xs p.between e u g.scope _ good.1 g.one g.defined p.second in
    first_walked e x xs ks s p.between p.answer u end ends good.0 file counted p.first after.towards after.keeps
    (λ ms f c. walked e xs ms p.between u end ends good.1 f c p.second)
