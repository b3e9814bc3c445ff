-- An accepted program is one that the backend makes the image of.
use Rattle.std.proofs.Common.{◌≡◌, ℕ, zero, suc, ◌+◌, ◌<◌, ◌≤◌, Bool, true, false, ◌&&◌, nat_lt}
use Rattle.std.proofs.Common.{if◌then◌else◌, List, [], ◌∷◌, ◌++◌, length, map, sum, codes, slice_get, Option, Some}
use Rattle.std.proofs.Common.{None, refl, sym, ap, ◌∙◌, subst, arith, append_assoc, length-append}
use Rattle.std.specs.Prelude.{slice_index}
use Rattle.std.specs.List.{fold}
use Rattle.std.specs.Str.{bytes_eq}
use Rattle.std.proofs.lemmas.Bool.{and_parts}
use Rattle.std.proofs.lemmas.Bool.Decides.{nat_tests}
use Rattle.std.proofs.lemmas.Slice.Eq.{bytes_eq-Decides}
use Rattle.typed_tree.specs.declared.expression.CaptureKind.{CaptureKind}
use Rattle.typed_tree.specs.declared.program.Function.{Function}
use Rattle.typed_tree.specs.declared.program.Tick.{Tick}
use Rattle.typed_tree.specs.Nodes as node
use Rattle.staged_meaning.specs.Program.{tick_size}
use Rattle.staged_meaning.specs.Source as source
use Rattle.typed_tree.specs.declared.program.TickBody.{TickBody}
use Rattle.typed_tree.specs.declared.program.TickBody.TheVariants as body
use Rattle.typed_tree.specs.Measures.{size_of_expr, size_of_stmt, size_of_body}
use Rattle.std.proofs.lemmas.Option.{slice_get-map}
use Rattle.std.specs.Prelude.{option_map}
use Rattle.staged_meaning.specs.Size.{size_of}
use Rattle.typed_tree.specs.View.{expr_view, stmt_view, function_view, body_view, tick_view, program_view}
use Rattle.wellformed.specs.declared.typed.Typed.{Typed}
use Rattle.wellformed.specs.Program.{IsFunction, IsTick, IsWellFormed, words}
use Rattle.limits.specs.declared.program.TheConstants.{CHARGE_LIMIT, SIZE_LIMIT}
use Rattle.wf_ready.specs.Laws.{FunctionsAreReadyIn}
use Rattle.tick_captures_proof.specs.Laws.{CapturesAreFew}
use Rattle.static_image.specs.Layout.{functions_at}
use Rattle.routine_spec.specs.Generator.{HasRoom}
use Rattle.tick_lower_spec.specs.TickPieces.{tick_pieces}
use Rattle.static_image.specs.Served.{IsStatic, most_words, most_generated, AreStatic}
use Rattle.static_image.specs.Words.{HasWords, HaveWordsArgs, HasWordsStmt, HaveWords}
use Rattle.icode_ir.specs.Sound.{Each}
use Rattle.meaning_state.specs.Rows.{numbered}
use Rattle.wellformed.specs.Accepted.{charge}
use Rattle.tree_words.specs.Words.{has_words_expr, have_words_args, has_words_stmt, have_words, has_words}
use Rattle.tree_words.specs.Words.{has_words_body}
use Rattle.word32.specs.declared.map.TheConstants.{SEGMENT_BYTES}
use Rattle.accepted_programs.specs.Mains.{functions_have_words, are_bytes, Main, main_from, ticks_have_words}
use Rattle.accepted_programs.specs.Laws.{ProgramsMeetBackend}

three_parts : (a b c : Bool) → (a && b && c) ≡ true → (a ≡ true) × (b ≡ true) × (c ≡ true)
three_parts a b c h = let two = and_parts (a && b) c h in let first = and_parts a b two.0 in (first.0, first.1, two.1)

below : (a b : ℕ) → nat_lt a b ≡ true → a < b
below a b h = grind (arith, nat_tests)

above : (a b : ℕ) → a < b → nat_lt a b ≡ true
above a b h = grind (arith, nat_tests)

-- the parts of a node of the list
listed_two : (a b : node.Expr) → (has_words_expr a && has_words_expr b) ≡ true →
    (has_words_expr a ≡ true) × (has_words_expr b ≡ true)
listed_two a b h = and_parts (has_words_expr a) (has_words_expr b) h

listed_three : (c a b : node.Expr) → (has_words_expr c && has_words_expr a && has_words_expr b) ≡ true →
    (has_words_expr c ≡ true) × (has_words_expr a ≡ true) × (has_words_expr b ≡ true)
listed_three c a b h = three_parts (has_words_expr c) (has_words_expr a) (has_words_expr b) h

listed_arg : (a : node.Expr) (args : node.Args) → (has_words_expr a && have_words_args args) ≡ true →
    (has_words_expr a ≡ true) × (have_words_args args ≡ true)
listed_arg a args h = and_parts (has_words_expr a) (have_words_args args) h

-- of a step at an address
listed_post : (step : ℕ) (a : node.Expr) → (nat_lt step 4294967296 && has_words_expr a) ≡ true →
    (step < 4294967296) × (has_words_expr a ≡ true)
listed_post step a h =
    let p = and_parts (nat_lt step 4294967296) (has_words_expr a) h in
    (below step 4294967296 p.0, p.1)

listed_block : (vs is : node.Items) → (have_words vs && have_words is) ≡ true →
    (have_words vs ≡ true) × (have_words is ≡ true)
listed_block vs is h = and_parts (have_words vs) (have_words is) h

-- of an `if`, and of a loop
listed_if : (e : node.Expr) (s : node.Stmt) → (has_words_expr e && has_words_stmt s) ≡ true →
    (has_words_expr e ≡ true) × (has_words_stmt s ≡ true)
listed_if e s h = and_parts (has_words_expr e) (has_words_stmt s) h

listed_do : (s : node.Stmt) (e : node.Expr) → (has_words_stmt s && has_words_expr e) ≡ true →
    (has_words_stmt s ≡ true) × (has_words_expr e ≡ true)
listed_do s e h = and_parts (has_words_stmt s) (has_words_expr e) h

listed_choice : (e : node.Expr) (s t : node.Stmt) → (has_words_expr e && has_words_stmt s && has_words_stmt t) ≡ true →
    (has_words_expr e ≡ true) × (has_words_stmt s ≡ true) × (has_words_stmt t ≡ true)
listed_choice e s t h = three_parts (has_words_expr e) (has_words_stmt s) (has_words_stmt t) h

listed_step : (e f : node.Expr) (s : node.Stmt) → (has_words_expr e && has_words_expr f && has_words_stmt s) ≡ true →
    (has_words_expr e ≡ true) × (has_words_expr f ≡ true) × (has_words_stmt s ≡ true)
listed_step e f s h = three_parts (has_words_expr e) (has_words_expr f) (has_words_stmt s) h

listed_switch : (e : node.Expr) (vs is : node.Items) → (has_words_expr e && have_words vs && have_words is) ≡ true →
    (has_words_expr e ≡ true) × (have_words vs ≡ true) × (have_words is ≡ true)
listed_switch e vs is h = three_parts (has_words_expr e) (have_words vs) (have_words is) h

listed_item : (s : node.Stmt) (is : node.Items) → have_words (node.Item s is) ≡ true →
    (has_words_stmt s ≡ true) × (have_words is ≡ true)
listed_item s is h = and_parts (has_words_stmt s) (have_words is) h

-- ---- numbers are words

mutual
  expr_words : (e : node.Expr) → has_words_expr e ≡ true → HasWords e
  expr_words (node.Const w) h = below w 4294967296 h
  expr_words (node.SetVar i a) h = expr_words a h
  expr_words (node.PostVar i w step) h = below step 4294967296 h
  expr_words (node.Load w a) h = expr_words a h
  expr_words (node.Store w a b) h = let p = listed_two a b h in (expr_words a p.0, expr_words b p.1)
  expr_words (node.Modify w k a b) h = let p = listed_two a b h in (expr_words a p.0, expr_words b p.1)
  expr_words (node.Post w step a) h = let p = listed_post step a h in (p.0, expr_words a p.1)
  expr_words (node.Bin k a b) h = let p = listed_two a b h in (expr_words a p.0, expr_words b p.1)
  expr_words (node.Un k a) h = expr_words a h
  expr_words (node.And a b) h = let p = listed_two a b h in (expr_words a p.0, expr_words b p.1)
  expr_words (node.Or a b) h = let p = listed_two a b h in (expr_words a p.0, expr_words b p.1)
  expr_words (node.Cond c a b) h =
      let p = listed_three c a b h in (expr_words c p.0, expr_words a p.1, expr_words b p.2)
  expr_words (node.Comma a b) h = let p = listed_two a b h in (expr_words a p.0, expr_words b p.1)
  expr_words (node.Void a) h = expr_words a h
  expr_words (node.Call answer f args) h = args_words args h
  expr_words (node.CallNumber answer a args) h = let p = listed_arg a args h in (expr_words a p.0, args_words args p.1)
  expr_words (node.Lib library a) h = expr_words a h
  expr_words (node.Tick tick args) h = args_words args h
  expr_words (node.Capture kind a) h = expr_words a h
  expr_words (node.ParamOf a) h = expr_words a h
  expr_words (node.Compile a) h = expr_words a h
  expr_words _ h = tt

  args_words : (args : node.Args) → have_words_args args ≡ true → HaveWordsArgs args
  args_words node.NoArg h = tt
  args_words (node.Arg a args) h = let p = listed_arg a args h in (expr_words a p.0, args_words args p.1)

mutual
  stmt_words : (s : node.Stmt) → has_words_stmt s ≡ true → HasWordsStmt s
  stmt_words (node.Eval e) h = expr_words e h
  stmt_words (node.Block vs is) h = let p = listed_block vs is h in (items_words vs p.0, items_words is p.1)
  stmt_words (node.If e s) h = let p = listed_if e s h in (expr_words e p.0, stmt_words s p.1)
  stmt_words (node.IfElse e s t) h =
      let p = listed_choice e s t h in (expr_words e p.0, stmt_words s p.1, stmt_words t p.2)
  stmt_words (node.While e s) h = let p = listed_if e s h in (expr_words e p.0, stmt_words s p.1)
  stmt_words (node.Do s e) h = let p = listed_do s e h in (stmt_words s p.0, expr_words e p.1)
  stmt_words (node.For e s) h = let p = listed_if e s h in (expr_words e p.0, stmt_words s p.1)
  stmt_words (node.ForStep e step s) h =
      let p = listed_step e step s h in (expr_words e p.0, expr_words step p.1, stmt_words s p.2)
  stmt_words (node.Switch e vs is) h =
      let p = listed_switch e vs is h in (expr_words e p.0, items_words vs p.1, items_words is p.2)
  stmt_words (node.Case value) h = below value 4294967296 h
  stmt_words (node.ReturnValue e) h = expr_words e h
  stmt_words _ h = tt

  items_words : (is : node.Items) → have_words is ≡ true → HaveWords is
  items_words node.NoItem h = tt
  items_words (node.Item s is) h = let p = listed_item s is h in (stmt_words s p.0, items_words is p.1)

-- ---- functions

-- a function of an accepted text is one that the backend takes
function_static : FunctionsAreReadyIn → (p : node.Program) (ticks : List (List CaptureKind)) (f : node.Function) →
    IsFunction p ticks f → has_words f ≡ true → IsStatic p.functions ticks f
function_static ready p ticks f is h = record { ready = ready p ticks f is; words = stmt_words f.body h }

each_static : FunctionsAreReadyIn → (p : node.Program) (ticks : List (List CaptureKind)) (fs : List Function) →
    ((n : ℕ) (f : node.Function) → slice_get (map function_view fs) n ≡ Some f → IsFunction p ticks f) →
    functions_have_words fs ≡ true → Each (IsStatic p.functions ticks) (map function_view fs)
each_static ready p ticks [] is e = tt
each_static ready p ticks (f ∷ fs) is e =
    let both = and_parts (has_words (function_view f)) (functions_have_words fs) e in (
      function_static ready p ticks (function_view f) (is 0 (function_view f) refl) both.0,
      each_static ready p ticks fs (λ n g at. is (suc n) g at) both.1,
    )

sum_from : (n : ℕ) (ns : List ℕ) → fold ◌+◌ n ns ≡ n + sum ns
sum_from n [] = omega arith
sum_from n (m ∷ ns) = omega (arith, sum_from (n + m) ns, sum_from (0 + m) ns)

-- the words that functions are charged for are the most that they have
charges_are_words : (fs : List node.Function) → most_words fs ≡ sum (map (λ f. charge (size_of f)) fs)
charges_are_words [] = refl
charges_are_words (f ∷ fs) =
    omega (arith, charges_are_words fs, sum_from (0 + charge (size_of f)) (map (λ f. charge (size_of f)) fs))

-- and so are those of the functions of ticks
tick_charges : (ts : List Tick) →
    most_generated (map (λ t. source.tick_view t.body) ts)
    ≡ sum (map (λ t. charge (size_of_body t)) (map tick_view ts))
tick_charges [] = refl
tick_charges (t ∷ ts) = by t.body (tick_charges ts)
  where
    by : (b : TickBody) → most_generated (map (λ t. source.tick_view t.body) ts)
        ≡ sum (map (λ t. charge (size_of_body t)) (map tick_view ts)) →
        most_generated (source.tick_view b ∷ map (λ t. source.tick_view t.body) ts)
        ≡ sum (map (λ t. charge (size_of_body t)) (body_view b ∷ map tick_view ts))
    by (body.Expression e) others =
        omega (
          arith,
          others,
          sum_from (0 + charge (size_of_expr (expr_view e)))
              (map (λ t. charge (size_of_body t)) (map tick_view ts)),
        )
    by (body.Statement s) others =
        omega (
          arith,
          others,
          sum_from (0 + charge (size_of_stmt (stmt_view s)))
              (map (λ t. charge (size_of_body t)) (map tick_view ts)),
        )

-- ---- ticks

as_long : (ts : List Tick) → length (map tick_view ts) ≡ length (map (λ t. source.tick_view t.body) ts)
as_long [] = refl
as_long (t ∷ ts) = ap suc (as_long ts)

-- there is a list of kinds for each tick
kinds_at : (n : ℕ) (ts : List Tick) (ks : List (List CaptureKind)) (t : Tick) →
    length ks ≡ length (map tick_view ts) → slice_get ts n ≡ Some t →
    (kinds : List CaptureKind) × (slice_get ks n ≡ Some kinds)
kinds_at n [] ks t e is = absurd cc
kinds_at n (u ∷ ts) [] t e is = absurd (omega (arith, e))
kinds_at zero (u ∷ ts) (k ∷ ks) t e is = (k, refl)
kinds_at (suc n) (u ∷ ts) (k ∷ ks) t e is = kinds_at n ts ks t (omega (arith, e)) is

same_size : (b : TickBody) → tick_size (Some (source.tick_view b)) ≡ size_of_body (body_view b)
same_size (body.Expression e) = refl
same_size (body.Statement s) = refl

size_fits : (p : Typed) → IsWellFormed p → (n : ℕ) → tick_size (slice_get (source.ticks_of p) n) ≤ SIZE_LIMIT
size_fits p h n =
    subst (λ o. tick_size o ≤ SIZE_LIMIT) (sym (slice_get-map (λ (t : Tick). source.tick_view t.body) p.ticks n))
    (by (slice_get p.ticks n) refl)
  where
    by : (o : Option Tick) → slice_get p.ticks n ≡ o →
        tick_size (option_map (λ (t : Tick). source.tick_view t.body) o) ≤ SIZE_LIMIT
    by None e = omega arith
    by (Some t) e =
        let found = kinds_at n p.ticks h.program.captures t h.program.each e in
        let there : slice_get (map tick_view p.ticks) n ≡ Some (tick_view t) =
        slice_get-map tick_view p.ticks n ∙ ap (option_map tick_view) e in
        let small = (h.program.ticks n (tick_view t) found.0 there found.1).small in
        omega (arith, small, same_size t.body)

-- what the induction over a tick's body gives: wherever functions stand, its pieces have words, and captures that a
-- closure has room for
abbrev pub TicksHaveRoom : Type 0
TicksHaveRoom =
    (p : node.Program) (ticks : List (List CaptureKind)) (b : TickBody) (kinds : List CaptureKind) (starts : List ℕ) →
    IsTick p ticks (body_view b) kinds → length kinds ≤ SIZE_LIMIT → has_words_body (body_view b) ≡ true →
    ((k : ℕ) → slice_index starts k < SEGMENT_BYTES) →
    Each HasRoom (tick_pieces (functions_at starts) (source.tick_view b))

-- of each tick of a program
all_written : TicksHaveRoom → (p : node.Program) (captures : List (List CaptureKind)) (starts : List ℕ) →
    ((k : ℕ) → slice_index starts k < SEGMENT_BYTES) → (ts : List Tick) (ks : List (List CaptureKind)) →
    length ks ≡ length (map tick_view ts) → ticks_have_words ts ≡ true →
    ((n : ℕ) (t : node.TickBody) (kinds : List CaptureKind) → slice_get (map tick_view ts) n ≡ Some t →
    slice_get ks n ≡ Some kinds → IsTick p captures t kinds × (length kinds ≤ SIZE_LIMIT)) →
    Each (λ t. Each HasRoom (tick_pieces (functions_at starts) t)) (map (λ (t : Tick). source.tick_view t.body) ts)
all_written room p captures starts low [] ks e listed is = tt
all_written room p captures starts low (t ∷ ts) [] e listed is = absurd (omega (arith, e))
all_written room p captures starts low (t ∷ ts) (k ∷ ks) e listed is =
    let both = and_parts (has_words_body (body_view t.body)) (ticks_have_words ts) listed in
    let here = is 0 (body_view t.body) k refl refl in (
      room p captures t.body k starts here.0 here.1 both.0 low,
      all_written room p captures starts low ts ks (omega (arith, e)) both.1 (λ n u kinds. is (suc n) u kinds),
    )

all_static : FunctionsAreReadyIn → CapturesAreFew → TicksHaveRoom → (p : Typed)
    (h : IsWellFormed p) → functions_have_words p.functions ≡ true → ticks_have_words p.ticks ≡ true →
    AreStatic (program_view p).functions h.program.captures (source.ticks_of p)
all_static ready few room p h e f =
    let small : words (program_view p) ≤ CHARGE_LIMIT = h.program.small in
    record {
      each = each_static ready (program_view p) h.program.captures p.functions h.program.functions e;
      as_many = h.program.each ∙ as_long p.ticks;
      sizes = size_fits p h;
      few = few p h;
      written = λ starts low.
          all_written room (program_view p) h.program.captures starts low p.ticks h.program.captures h.program.each f
          (λ n t kinds there is. (h.program.ticks n t kinds there is, few p h n kinds is));
      room = omega (arith, small, charges_are_words (program_view p).functions, tick_charges p.ticks);
    }

-- ---- main

get_behind : (xs : List node.Function) (w : node.Function) (rest : List node.Function) →
    slice_get (xs ++ w ∷ rest) (length xs) ≡ Some w
get_behind [] w rest = refl
get_behind (x ∷ xs) w rest = get_behind xs w rest

-- main as one of the functions
record Found (fs : List Function) (m : Main) : Type 0 where
  place : ℕ
  function : Function
  is : slice_get fs place ≡ Some function
  name : function.name ≡ codes "main"
  view : function_view function ≡ m.function

-- main is the function of its number, where others stand in front
main_is : (before : List node.Function) (fs : List Function) (m : Main) → main_from (suc (length before)) fs ≡ Some m
    → numbered m.number (before ++ map function_view fs) ≡ Some m.function
main_is before [] m e = absurd cc
main_is before (f ∷ fs) m e =
    by (bytes_eq f.name (codes "main"))
    (λ later. subst (λ (gs : List node.Function). numbered m.number gs ≡ Some m.function)
    (append_assoc before (function_view f ∷ []) (map function_view fs))
    (main_is (before ++ function_view f ∷ []) fs m (ap (λ n. main_from n fs) (sym next) ∙ later))) e
  where
    here : record { number = suc (length before); function = function_view f } ≡ m →
        numbered m.number (before ++ map function_view (f ∷ fs)) ≡ Some m.function
    here is = subst (λ (n : Main). numbered n.number (before ++ map function_view (f ∷ fs)) ≡ Some n.function) is
        (get_behind before (function_view f) (map function_view fs))

    next : suc (length before) + 1 ≡ suc (length (before ++ function_view f ∷ []))
    next = omega (arith, length-append before (function_view f ∷ []))

    by : (b : Bool) → (main_from (suc (length before) + 1) fs ≡ Some m →
        numbered m.number (before ++ map function_view (f ∷ fs)) ≡ Some m.function)
        → (if b then Some (record { number = suc (length before); function = function_view f }) else
        main_from (suc (length before) + 1) fs) ≡ Some m
        → numbered m.number (before ++ map function_view (f ∷ fs)) ≡ Some m.function
    by true other e = here cc
    by false other e = other e

-- and it is of that name
main_among : (n : ℕ) (fs : List Function) (m : Main) → main_from n fs ≡ Some m → Found fs m
main_among n [] m e = absurd cc
main_among n (f ∷ fs) m e = by (bytes_eq f.name (codes "main")) refl (λ k. later (main_among (n + 1) fs m k)) e
  where
    here : bytes_eq f.name (codes "main") ≡ true → record { number = n; function = function_view f } ≡ m →
        Found (f ∷ fs) m
    here same is = record {
      place = 0;
      function = f;
      is = refl;
      name = (bytes_eq-Decides f.name (codes "main")).0 same;
      view = ap (λ (k : Main). k.function) is;
    }

    later : Found fs m → Found (f ∷ fs) m
    later g = record { place = suc g.place; function = g.function; is = g.is; name = g.name; view = g.view }

    by : (b : Bool) → bytes_eq f.name (codes "main") ≡ b → (main_from (n + 1) fs ≡ Some m → Found (f ∷ fs) m)
        → (if b then Some (record { number = n; function = function_view f }) else main_from (n + 1) fs) ≡ Some m
        → Found (f ∷ fs) m
    by true same other e = here same cc
    by false same other e = other e

-- ---- globals and strings

byte_fits : (bs : List ℕ) → are_bytes bs ≡ true → (k : ℕ) → slice_index bs k < 256
byte_fits [] h k = omega arith
byte_fits (b ∷ bs) h zero = below b 256 (and_parts (nat_lt b 256) (are_bytes bs) h).0
byte_fits (b ∷ bs) h (suc k) = byte_fits bs (and_parts (nat_lt b 256) (are_bytes bs) h).1 k

pub all_bytes : (bs : List ℕ) → ((k : ℕ) → slice_index bs k < 256) → are_bytes bs ≡ true
all_bytes [] h = refl
all_bytes (b ∷ bs) h =
    let first : nat_lt b 256 ≡ true = above b 256 (h 0) in
    ap (λ t. t && are_bytes bs) first ∙ all_bytes bs (λ k. h (suc k))

-- ---- programs

pub meets : FunctionsAreReadyIn → CapturesAreFew → TicksHaveRoom → ProgramsMeetBackend
meets ready few room p m h words e =
    let found = main_among 1 p.functions m e in
    record {
      static = all_static ready few room p h words.functions words.ticks;
      sized = λ n t is. h.tick_sizes n t is ∙ sym (same_size t.body);
      main_is = main_is [] p.functions m e;
      no_parameters = sym (ap (λ (f : node.Function). f.parameters) found.view)
          ∙ h.no_parameters found.place found.function found.is found.name;
      each_byte_fits = byte_fits p.image words.bytes;
      bytes_are_few = h.program.image;
    }
