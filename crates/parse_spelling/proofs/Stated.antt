-- Declarations, statements and programs spell what they read, with room for any number of levels.
use Rattle.std.proofs.Common.{◌≡◌, ℕ, zero, suc, Bool, true, false, cond as choice_of, List, [], ◌∷◌, ◌++◌, map, refl}
use Rattle.std.proofs.Common.{ap, sym, ◌∙◌, append_assoc, append-nil}
use Rattle.std.specs.Prelude.{◌&&◌, length}
use Rattle.tick_tree.specs.declared.base.Base.{Base}
use Rattle.tick_tree.specs.declared.syntax.Declaration.{roll-Declaration}
use Rattle.tick_tree.specs.declared.syntax.Declarator.{Declarator}
use Rattle.tick_tree.specs.declared.syntax.Expr.{Expr}
use Rattle.tick_tree.specs.declared.syntax.External.{External}
use Rattle.tick_tree.specs.declared.syntax.External.TheVariants as external_of
use Rattle.tick_tree.specs.declared.syntax.Init.{roll-Init}
use Rattle.tick_tree.specs.declared.syntax.Initializer.{Initializer}
use Rattle.tick_tree.specs.declared.syntax.Initializer.TheVariants as initializer_of
use Rattle.tick_tree.specs.declared.syntax.Stmt.{Stmt}
use Rattle.parse_grammar.specs.declared.kind.Kind.{Kind}
use Rattle.parse_grammar.specs.declared.kind.Kind.TheVariants as k
use Rattle.parse_grammar.specs.declared.kind.Mark.TheVariants as m
use Rattle.parse_grammar.specs.declared.kind.Word.{Word as Keyword}
use Rattle.parse_grammar.specs.declared.kind.Word.TheVariants as w
use Rattle.parse_grammar.specs.declared.grammar.Mode.TheVariants as mode_of
use Rattle.parse_grammar.specs.Input.{Input, Outcome, Parser, ◌>>=◌, pure, refuse, kind, line, next, sees}
use Rattle.parse_grammar.specs.Input as input
use Rattle.parse_grammar.specs.Steps.{Inner, Room}
use Rattle.parse_grammar.specs.Declarators.{declares_function}
use Rattle.parse_grammar.specs.Expressions.{expr}
use Rattle.parse_grammar.specs.Statements.{elements_from, elements, initial, initializer, init, declaration}
use Rattle.parse_grammar.specs.Statements.{begins_stmt, begins_first, part, else_rest, if_rest, while_rest, do_rest}
use Rattle.parse_grammar.specs.Statements.{for_first, for_parts, for_body, for_tail, for_rest, switch_rest, case_rest}
use Rattle.parse_grammar.specs.Statements.{return_rest, plain, word_by, word_stmt, stmt_by, stmt, room_of, variables}
use Rattle.parse_grammar.specs.Statements.{function_or_variables, first_declared, external, at_end, program_from}
use Rattle.parse_grammar.specs.Statements.{program}
use Rattle.parse_spelling.specs.Words.{words}
use Rattle.parse_spelling.specs.Spelling.{mark, keyword_word, base_words, behind_commas, with_commas, optional_comma}
use Rattle.parse_spelling.specs.Spelling.{spells_expr, spells_optional, spells_init, spells_initializer}
use Rattle.parse_spelling.specs.Spelling.{spells_declaration, spells_declarator, spells_stmt, spells_external}
use Rattle.parse_spelling.specs.Spelling.{spells_program}
use Rattle.parse_spelling.proofs.Nodes as node
use Rattle.parse_spelling.proofs.Gives.{Gives, given, refused, after, choose, choose_parser, weaken, Says, taken}
use Rattle.parse_spelling.proofs.Gives.{taken_mark, expect_says, expect_word_says}
use Rattle.parse_spelling.proofs.Lists.{InnerSays, RoomSays, descend_says, enter_says, enter_paren_says, optional_says}
use Rattle.parse_spelling.proofs.Lists.{following_says, separated_says}
use Rattle.parse_spelling.proofs.Declared.{base_says, declarator_says}
use Rattle.parse_spelling.proofs.Expressed.{parenthesized_says, block_says, unary_says, cond_says, assign_says}
use Rattle.parse_spelling.proofs.Expressed.{expr_says}

-- ---- initializers

-- The list of an initializer, read from its first item at i, where these items were found before.
pub record Elements (found : List Expr) (v : Initializer) (i j : Input) : Type 0 where
  pub first : Expr
  pub rest : List Expr
  pub comma : Bool
  pub all : v ≡ initializer_of.List (found ++ first ∷ rest) comma
  pub says : words i ≡ spells_expr first
      (behind_commas (map spells_expr rest) (optional_comma comma (mark m.BraceClose (words j))))

comma_by : (i : Input) (b : Bool) → sees m.Comma i ≡ b → words i ≡ optional_comma b (words (choice_of b (next i) i))
comma_by i true h = taken_mark m.Comma i h
comma_by i false h = refl

elements_end : (item : Parser Expr) (n : ℕ) (found : List Expr) (x : Expr) (i j : Input) →
    ((f : List Expr) (q : Input) → Gives (elements_from item n f q) (λ v l. Elements f v q l)) →
    words i ≡ spells_expr x (words j)
    → (c b : Bool) → sees m.Comma j ≡ c → sees m.BraceClose (choice_of c (next j) j) ≡ b
    → Gives ((choice_of b (pure (initializer_of.List (found ++ x ∷ []) c))
    (choice_of c (elements_from item n (found ++ x ∷ [])) refuse))
    (choice_of b (next (choice_of c (next j) j)) (choice_of c (next j) j))) (λ v l. Elements found v i l)
elements_end item n found x i j on h c true is_c is_b = given _ _ _ (record {
  first = x;
  rest = [];
  comma = c;
  all = refl;
  says = h ∙ ap (spells_expr x)
      (comma_by j c is_c ∙ ap (optional_comma c) (taken_mark m.BraceClose (choice_of c (next j) j) is_b));
})
elements_end item n found x i j on h true false is_c is_b =
    weaken _ _ _ (on (found ++ x ∷ []) (next j)) (λ v l g. record {
      first = x;
      rest = g.first ∷ g.rest;
      comma = g.comma;
      all = g.all ∙ ap (λ xs. initializer_of.List xs g.comma) (append_assoc found (x ∷ []) (g.first ∷ g.rest));
      says = h ∙ ap (spells_expr x) (taken_mark m.Comma j is_c ∙ ap (mark m.Comma) g.says);
    })
elements_end item n found x i j on h false false is_c is_b = refused _ _

elements_from_says : (item : Parser Expr) → Says spells_expr item → (n : ℕ) (found : List Expr) (i : Input) →
    Gives (elements_from item n found i) (λ v j. Elements found v i j)
unfolding elements_from
elements_from_says item ok zero found i = refused _ _
elements_from_says item ok (suc n) found i =
    after _ _ _ _ (ok i) (λ x j h. elements_end item n found x i j (λ f q. elements_from_says item ok n f q) h
    (sees m.Comma j) (sees m.BraceClose (input.after m.Comma j)) refl refl)

elements_says : (item : Parser Expr) → Says spells_expr item → (i : Input) →
    Gives (elements item i) (λ v j. mark m.Assign (mark m.BraceOpen (words i)) ≡ spells_initializer v (words j))
unfolding elements
elements_says item ok i = weaken _ _ _ (elements_from_says item ok (length i) [] i) (λ v j g.
    ap (λ l. mark m.Assign (mark m.BraceOpen l)) g.says ∙
    sym (node.at_initializer_list (g.first ∷ g.rest) g.comma (words j)) ∙
    ap (λ x. spells_initializer x (words j)) (sym g.all))

initial_says : (room : Room) → RoomSays room → (i : Input) →
    Gives (initial room i) (λ v j. mark m.Assign (words i) ≡ spells_initializer v (words j))
unfolding initial
initial_says room ok i = choose (sees m.BraceOpen i) _ _ _
    (λ c. after _ _ _ _ (enter_says room ok i)
    (λ p j d. weaken _ _ _ (elements_says p.0.assign d.inner.assign j)
    (λ v l g. let t = taken_mark m.BraceOpen i c in let b = d.behind in cc)))
    (λ c. after _ _ _ _ (assign_says room ok i)
    (λ x j g. given _ _ _ (let e = node.at_initializer_value x (words j) in cc)))

initializer_says : (room : Room) → RoomSays room → Says spells_initializer (initializer room)
unfolding initializer
initializer_says room ok i = choose (sees m.Assign i) _ _ _
    (λ c. weaken _ _ _ (initial_says room ok (next i)) (λ v j g. taken_mark m.Assign i c ∙ g))
    (λ c. given _ _ _ (sym (node.at_initializer_absent (words i))))

-- ---- declarations

init_says : (room : Room) → RoomSays room → Says spells_init (init room)
unfolding init
init_says room ok i = after _ _ _ _ (declarator_says mode_of.Named room ok i)
    (λ d j g. after _ _ _ _ (initializer_says room ok j) (λ v l h. given _ _ _
    (let e = node.at_init d v (words l) in cc)))

declaration_says : (room : Room) → RoomSays room → Says spells_declaration (declaration room)
unfolding declaration
declaration_says room ok i =
    after _ _ _ _ (base_says i)
    (λ ws j g. after _ _ _ _ (separated_says (init room) spells_init (init_says room ok) j)
    (λ xs l h. after _ _ _ _ (expect_says m.Semicolon l) (λ u a q. given _ _ _
    (let e = node.at_declaration (line i) ws xs (words a) in let r = ap (λ x. with_commas (map spells_init xs) x) q in
    cc))))

-- ---- statements

part_says : (room : Room) → RoomSays room → Says spells_stmt (part room)
unfolding part
part_says room ok i = choose_parser (begins_stmt (kind i)) _ _ _ _
    (λ c. after _ _ _ _ (descend_says room ok i)
    (λ p j d. weaken _ _ _ (d.inner.stmt j) (λ x l g. let b = d.behind in cc)))
    (λ c. refused _ _)

-- a statement behind its first word
abbrev Behind : Keyword → Stmt → Input → Input → Type 0
Behind word x i j = keyword_word word (words i) ≡ spells_stmt x (words j)

else_says : (n : ℕ) (room : Room) → RoomSays room → (test : Expr) (first : Stmt) (i : Input) →
    Gives (else_rest n room test first i)
    (λ x j. keyword_word w.If (mark m.ParenOpen (spells_expr test (mark m.ParenClose (spells_stmt first (words i))))) ≡
    spells_stmt x (words j))
unfolding else_rest
else_says n room ok test first i = choose (sees m.Else i) _ _ _
    (λ c. after _ _ _ _ (part_says room ok (next i))
    (λ x j g. given _ _ _ (let e = node.at_stmt_ifelse n test first x (words j) in let t = taken_mark m.Else i c in
    cc)))
    (λ c. given _ _ _ (sym (node.at_stmt_if n test first (words i))))

if_says : (n : ℕ) (room : Room) → RoomSays room → (i : Input) → Gives (if_rest n room i) (λ x j. Behind w.If x i j)
unfolding if_rest
if_says n room ok i = after _ _ _ _ (parenthesized_says room ok i)
    (λ test j g. after _ _ _ _ (part_says room ok j)
    (λ first l h. weaken _ _ _ (else_says n room ok test first l) (λ x a q. cc)))

while_says : (n : ℕ) (room : Room) → RoomSays room → (i : Input) →
    Gives (while_rest n room i) (λ x j. Behind w.While x i j)
unfolding while_rest
while_says n room ok i = after _ _ _ _ (parenthesized_says room ok i)
    (λ test j g. after _ _ _ _ (part_says room ok j) (λ body l h. given _ _ _
    (let e = node.at_stmt_while n test body (words l) in cc)))

do_says : (n : ℕ) (room : Room) → RoomSays room → (i : Input) → Gives (do_rest n room i) (λ x j. Behind w.Do x i j)
unfolding do_rest
do_says n room ok i = after _ _ _ _ (part_says room ok i)
    (λ body j g. after _ _ _ _ (expect_word_says w.While j)
    (λ u l h. after _ _ _ _ (parenthesized_says room ok l)
    (λ test a q. after _ _ _ _ (expect_says m.Semicolon a) (λ v b r. given _ _ _
    (let e = node.at_stmt_do n body test (words b) in cc)))))

for_first_says : (r : Inner) → InnerSays r → Says spells_stmt (for_first r)
unfolding for_first
for_first_says r ok i = choose_parser (begins_first (kind i)) _ _ _ _ (λ c. ok.stmt i) (λ c. refused _ _)

for_parts_says : (r : Inner) → InnerSays r → (i : Input) →
    Gives (for_parts r i) (λ p j. words i ≡ spells_optional p.0
    (mark m.Semicolon (spells_optional p.1 (mark m.ParenClose (words j)))))
unfolding for_parts
for_parts_says r ok i = after _ _ _ _ (optional_says m.Semicolon r.expr ok.expr i)
    (λ test j g. after _ _ _ _ (optional_says m.ParenClose r.expr ok.expr j) (λ step l h. given _ _ _ cc))

for_says : (n : ℕ) (room : Room) → RoomSays room → (i : Input) → Gives (for_rest n room i) (λ x j. Behind w.For x i j)
unfolding for_rest for_tail for_body
for_says n room ok i = after _ _ _ _ (enter_paren_says room ok i)
    (λ p j d. after _ _ _ _ (for_first_says p.0 d.inner j)
    (λ first l g. after _ _ _ _ (for_parts_says p.0 d.inner l)
    (λ parts a h. after _ _ _ _ (part_says room ok a) (λ body b q. given _ _ _
    (let e = node.at_stmt_for n first parts.0 parts.1 body (words b) in let s = d.says in cc)))))

switch_says : (n : ℕ) (room : Room) → RoomSays room → (i : Input) →
    Gives (switch_rest n room i) (λ x j. Behind w.Switch x i j)
unfolding switch_rest
switch_says n room ok i =
    after _ _ _ _ (parenthesized_says room ok i)
    (λ test j g. after _ _ _ _ (block_says room ok j) (λ xs l h. given _ _ _
    (let e = node.at_stmt_switch n test xs (words l) in cc)))

case_says : (n : ℕ) (room : Room) → RoomSays room → (i : Input) →
    Gives (case_rest n room i) (λ x j. Behind w.Case x i j)
unfolding case_rest
case_says n room ok i = after _ _ _ _ (cond_says room ok i)
    (λ x j g. after _ _ _ _ (expect_says m.Colon j) (λ u l h. given _ _ _
    (let e = node.at_stmt_case n x (words l) in cc)))

return_says : (n : ℕ) (room : Room) → RoomSays room → (i : Input) →
    Gives (return_rest n room i) (λ x j. Behind w.Return x i j)
unfolding return_rest
return_says n room ok i =
    after _ _ _ _ (optional_says m.Semicolon (expr room) (expr_says room ok) i) (λ x j g. given _ _ _
    (let e = node.at_stmt_return n x (words j) in cc))

plain_says : (room : Room) → RoomSays room → Says spells_stmt (plain room)
unfolding plain
plain_says room ok i = after _ _ _ _ (expr_says room ok i)
    (λ x j g. after _ _ _ _ (expect_says m.Semicolon j) (λ u l h. given _ _ _
    (let e = node.at_stmt_expr x (words l) in cc)))

word_by_says : (room : Room) → RoomSays room → (word : Keyword) (n : ℕ) (i : Input) →
    Gives (word_by room word n i) (λ x j. Behind word x i j)
word_by_says room ok w.If n i = if_says n room ok i
word_by_says room ok w.While n i = while_says n room ok i
word_by_says room ok w.Do n i = do_says n room ok i
word_by_says room ok w.For n i = for_says n room ok i
word_by_says room ok w.Switch n i = switch_says n room ok i
word_by_says room ok w.Case n i = case_says n room ok i
word_by_says room ok w.Default n i =
    after _ _ _ _ (expect_says m.Colon i) (λ u j g. given _ _ _ (let e = node.at_stmt_default n (words j) in cc))
word_by_says room ok w.Break n i =
    after _ _ _ _ (expect_says m.Semicolon i) (λ u j g. given _ _ _ (let e = node.at_stmt_break n (words j) in cc))
word_by_says room ok w.Continue n i =
    after _ _ _ _ (expect_says m.Semicolon i) (λ u j g. given _ _ _ (let e = node.at_stmt_continue n (words j) in cc))
word_by_says room ok w.Return n i = return_says n room ok i

word_says : (word : Keyword) (room : Room) → RoomSays room → (i : Input) → kind i ≡ k.Word word →
    Gives (word_stmt word room i) (λ x j. words i ≡ spells_stmt x (words j))
unfolding word_stmt
word_says word room ok i h =
    weaken _ _ _ (word_by_says room ok word (line i) (next i)) (λ x j g. taken (k.Word word) i refl h ∙ g)

stmt_by_says : (room : Room) → RoomSays room → (kd : Kind) (i : Input) → kind i ≡ kd →
    Gives (stmt_by room kd i) (λ x j. words i ≡ spells_stmt x (words j))
stmt_by_says room ok (k.Mark m.Semicolon) i h =
    given _ _ _ (taken (k.Mark m.Semicolon) i refl h ∙ sym (node.at_stmt_empty (words (next i))))
stmt_by_says room ok (k.Mark m.BraceOpen) i h =
    after _ _ _ _ (block_says room ok i) (λ xs j g. given _ _ _ (g ∙ sym (node.at_stmt_block xs (words j))))
stmt_by_says room ok (k.Base word) i h =
    after _ _ _ _ (declaration_says room ok i) (λ d j g. given _ _ _ (g ∙ sym (node.at_stmt_local d (words j))))
stmt_by_says room ok (k.Word word) i h = word_says word room ok i h
stmt_by_says room ok _ i h = plain_says room ok i

pub stmt_says : (room : Room) → RoomSays room → Says spells_stmt (stmt room)
unfolding stmt
stmt_says room ok i = stmt_by_says room ok (kind i) i refl

-- ---- room for n levels

pub room_says : (n : ℕ) → RoomSays (room_of n)
unfolding room_of
room_says zero = tt
room_says (suc n) = let ok = room_says n in (
  record {
    expr = expr_says (room_of n) ok;
    assign = assign_says (room_of n) ok;
    cond = cond_says (room_of n) ok;
    unary = unary_says (room_of n) ok;
    stmt = stmt_says (room_of n) ok;
    declarator = λ mode. declarator_says mode (room_of n) ok;
  },
  ok,
)

-- ---- programs

variables_says : (room : Room) → RoomSays room → (n : ℕ) (ws : Base) (d : Declarator) (i : Input) →
    Gives (variables room n ws d i) (λ x j. base_words ws (spells_declarator d (words i)) ≡ spells_external x (words j))
unfolding variables
variables_says room ok n ws d i =
    after _ _ _ _ (initializer_says room ok i)
    (λ v j g. after _ _ _ _ (following_says (init room) spells_init (init_says room ok) (length j)
    (roll-Init (record { declarator = d; value = v }) ∷ []) j)
    (λ xs l h. after _ _ _ _ (expect_says m.Semicolon l) (λ u a q. given _ _ _
    (let first = node.at_init d v (words j) in
    let all = ap (λ ys. with_commas (map spells_init ys) (mark m.Semicolon (words a))) h.all in
    let e = node.at_declaration n ws xs (words a) in
    ap (λ l. base_words ws (spells_declarator d l)) g ∙
    ap (base_words ws) (sym first ∙
    ap (spells_init (roll-Init (record { declarator = d; value = v })))
    (h.says ∙ ap (λ l. behind_commas (map spells_init h.more) l) q) ∙ sym all) ∙ sym e))))

function_or_variables_says : (room : Room) → RoomSays room →
    (n : ℕ) (ws : Base) (f : Bool) (d : Declarator) (i : Input) →
    Gives (function_or_variables room n ws f d i)
    (λ x j. base_words ws (spells_declarator d (words i)) ≡ spells_external x (words j))
function_or_variables_says room ok n ws f d i = choose (f && sees m.BraceOpen i) _ _ _
    (λ c. after _ _ _ _ (block_says room ok i)
    (λ xs j g. given _ _ _ (ap (λ l. base_words ws (spells_declarator d l)) g)))
    (λ c. variables_says room ok n ws d i)

first_says : (room : Room) → RoomSays room → (n : ℕ) (ws : Base) (i : Input) →
    Gives (first_declared room n ws i) (λ x j. base_words ws (words i) ≡ spells_external x (words j))
unfolding first_declared
first_says room ok n ws i =
    after _ _ _ _ (declarator_says mode_of.Named room ok i)
    (λ d j g. weaken _ _ _ (function_or_variables_says room ok n ws (declares_function i) d j)
    (λ x l h. ap (base_words ws) g ∙ h))

abbrev nothing_declared : ℕ → Base → External
nothing_declared n ws = external_of.Declaration (roll-Declaration (record { line = n; base = ws; inits = [] }))

external_by : (room : Room) → RoomSays room → (n : ℕ) (ws : Base) (i : Input) (b : Bool) → sees m.Semicolon i ≡ b →
    Gives ((choice_of b (pure (nothing_declared n ws)) (first_declared room n ws)) (choice_of b (next i) i))
    (λ x j. base_words ws (words i) ≡ spells_external x (words j))
external_by room ok n ws i true h =
    given _ _ _ (ap (base_words ws) (taken_mark m.Semicolon i h) ∙ sym (node.at_declaration n ws [] (words (next i))))
external_by room ok n ws i false h = first_says room ok n ws i

external_says : (room : Room) → RoomSays room → Says spells_external (external room)
unfolding external
external_says room ok i =
    after _ _ _ _ (base_says i)
    (λ ws j g. weaken _ _ _ (external_by room ok (line i) ws j (sees m.Semicolon j) refl) (λ x l h. g ∙ h))

ended : (i : Input) → at_end i ≡ true → words i ≡ []
unfolding at_end words
ended [] h = refl
ended (t ∷ i) h = let q : ⊥ = cc in absurd q

-- a program from i on, where these items were found before
pub record Program (found xs : List External) (i : Input) : Type 0 where
  pub more : List External
  pub all : xs ≡ found ++ more
  pub says : words i ≡ spells_program more []

program_from_says : (item : Parser External) → Says spells_external item → (n : ℕ) (found : List External) (i : Input) →
    Gives (program_from item n found i) (λ xs j. Program found xs i)
unfolding program_from
program_from_says item ok zero found i =
    choose (at_end i) _ _ _ (λ c. given _ _ _ (record { more = []; all = sym (append-nil found); says = ended i c }))
    (λ c. refused _ _)
program_from_says item ok (suc n) found i = choose (at_end i) _ _ _
    (λ c. given _ _ _ (record { more = []; all = sym (append-nil found); says = ended i c }))
    (λ c. after _ _ _ _ (ok i)
    (λ x j h. weaken _ _ _ (program_from_says item ok n (found ++ x ∷ []) j) (λ xs l g. record {
      more = x ∷ g.more;
      all = g.all ∙ append_assoc found (x ∷ []) g.more;
      says = h ∙ ap (spells_external x) g.says;
    })))

-- the law: a program that is read from tokens spells them
pub program_says : (n : ℕ) (i : Input) → Gives (program (room_of n) i) (λ xs j. words i ≡ spells_program xs [])
unfolding program
program_says n i = weaken _ _ _
    (program_from_says (external (room_of n)) (external_says (room_of n) (room_says n)) (length i) [] i)
    (λ xs j g. g.says ∙ ap (λ ys. spells_program ys []) (sym g.all))
