-- Expressions spell what they read.
use Rattle.std.proofs.Common.{◌≡◌, ℕ, zero, suc, Bool, true, false, cond as choice_of, List, [], ◌∷◌, ◌++◌, map, refl}
use Rattle.std.proofs.Common.{ap, sym, ◌∙◌, append_assoc}
use Rattle.std.specs.Prelude.{Option, Some, None, ◌==◌}
use Rattle.tick_tree.specs.declared.base.BinaryOp.{BinaryOp}
use Rattle.tick_tree.specs.declared.base.BinaryOp.TheVariants as op
use Rattle.tick_tree.specs.declared.base.StepOp.TheVariants as step_op
use Rattle.tick_tree.specs.declared.base.UnaryOp.{UnaryOp}
use Rattle.tick_tree.specs.declared.base.UnaryOp.TheVariants as unary_op
use Rattle.tick_tree.specs.declared.syntax.Expr.{Expr}
use Rattle.lex_literals.specs.Literals.{string_bytes}
use Rattle.parse_grammar.specs.declared.item.Item.{Item}
use Rattle.parse_grammar.specs.declared.kind.Kind.{Kind}
use Rattle.parse_grammar.specs.declared.kind.Kind.TheVariants as k
use Rattle.parse_grammar.specs.declared.kind.Mark.TheVariants as m
use Rattle.parse_grammar.specs.declared.grammar.Postfix.{Postfix}
use Rattle.parse_grammar.specs.declared.grammar.Postfix.TheVariants as postfix_of
use Rattle.parse_grammar.specs.Input.{Input, Parser, kind, line, value, unsigned, next, text, sees}
use Rattle.parse_grammar.specs.Steps.{Inner, Room}
use Rattle.parse_grammar.specs.Bases.{is_base}
use Rattle.parse_grammar.specs.Expressions.{sign_of, unary_of, looseness, binary_of, postfix_kind, comma_of, is_string}
use Rattle.parse_grammar.specs.Expressions.{strings, block, parenthesized, compile_inner, local_inner, param_inner}
use Rattle.parse_grammar.specs.Expressions.{sizeof_inner, cast_inner, worded, primary_by, primary, arguments, indexed}
use Rattle.parse_grammar.specs.Expressions.{called, postfix_step, postfix, ticked, tick, cast, prefixed, unary_by}
use Rattle.parse_grammar.specs.Expressions.{unary, binary_step, level, choice, cond_more, cond, assign_by, assign}
use Rattle.parse_grammar.specs.Expressions.{comma_step, expr}
use Rattle.parse_spelling.specs.Words.{Word, Words, Plain, String, word_by, join, join_strings, words}
use Rattle.parse_spelling.specs.Spelling.{mark, unary_word, with_commas, braced, spells_expr, spells_stmt}
use Rattle.parse_spelling.proofs.Nodes as node
use Rattle.parse_spelling.proofs.Gives.{Gives, given, refused, after, choose, choose_parser, guard, weaken, Says, taken}
use Rattle.parse_spelling.proofs.Gives.{taken_name, taken_number, taken_character, taken_mark, taken_unary, expect_says}
use Rattle.parse_spelling.proofs.Lists.{InnerSays, RoomSays, Grows, StepSays, enter_says, enter_paren_says}
use Rattle.parse_spelling.proofs.Lists.{separated_says, closed_says, chain_says}
use Rattle.parse_spelling.proofs.Declared.{typename_says}

-- ---- what stands in brackets

pub parenthesized_says : (room : Room) → RoomSays room →
    Says (λ x w. mark m.ParenOpen (spells_expr x (mark m.ParenClose w))) (parenthesized room)
unfolding parenthesized
parenthesized_says room ok i =
    after _ _ _ _ (enter_paren_says room ok i)
    (λ p j d. after _ _ _ _ (d.inner.expr j) (λ x l g. after _ _ _ _ (expect_says m.ParenClose l) (λ u n q. given _ _ _
    (let b = d.says in cc))))

pub block_says : (room : Room) → RoomSays room → Says (λ xs. braced (map spells_stmt xs)) (block room)
unfolding block
block_says room ok i = guard (sees m.BraceOpen i) _ _ _
    (λ c. after _ _ _ _ (enter_says room ok i)
    (λ p j d. weaken _ _ _ (closed_says p.0.stmt spells_stmt d.inner.stmt j) (λ xs l g.
    let t = taken_mark m.BraceOpen i c in let b = d.behind in cc)))

-- an expression behind a word and the `(` that follows it
abbrev InnerWord : Kind → (ℕ → Inner → Parser Expr) → Type 0
InnerWord kd f = (n : ℕ) (r : Inner) → InnerSays r → (i : Input) →
    Gives (f n r i) (λ x j. Plain kd ∷ mark m.ParenOpen (words i) ≡ spells_expr x (words j))

compile_says : InnerWord k.Compile compile_inner
unfolding compile_inner
compile_says n r ok i = after _ _ _ _ (ok.assign i)
    (λ x j g. after _ _ _ _ (expect_says m.Comma j)
    (λ u a h. after _ _ _ _ (typename_says r ok a)
    (λ t b o. after _ _ _ _ (expect_says m.ParenClose b) (λ v c q. given _ _ _
    (let e = node.at_expr_compile n x t (words c) in cc)))))

local_says : InnerWord k.Local local_inner
unfolding local_inner
local_says n r ok i = after _ _ _ _ (typename_says r ok i)
    (λ t j g. after _ _ _ _ (expect_says m.ParenClose j) (λ u a h. given _ _ _
    (let e = node.at_expr_local n t (words a) in cc)))

param_says : InnerWord k.Param param_inner
unfolding param_inner
param_says n r ok i = after _ _ _ _ (typename_says r ok i)
    (λ t j g. after _ _ _ _ (expect_says m.Comma j)
    (λ u a h. after _ _ _ _ (ok.assign a) (λ x b o. after _ _ _ _ (expect_says m.ParenClose b) (λ v c q. given _ _ _
    (let e = node.at_expr_param n t x (words c) in cc)))))

sizeof_says : InnerWord k.Sizeof sizeof_inner
unfolding sizeof_inner
sizeof_says n r ok i = after _ _ _ _ (typename_says r ok i)
    (λ t j g. after _ _ _ _ (expect_says m.ParenClose j) (λ u a h. given _ _ _
    (let e = node.at_expr_sizeof n t (words a) in cc)))

cast_inner_says : (n : ℕ) (r : Inner) → InnerSays r → (i : Input) →
    Gives (cast_inner n r i) (λ x j. mark m.ParenOpen (words i) ≡ spells_expr x (words j))
unfolding cast_inner
cast_inner_says n r ok i =
    after _ _ _ _ (typename_says r ok i)
    (λ t j g. after _ _ _ _ (expect_says m.ParenClose j) (λ u a h. after _ _ _ _ (ok.unary a) (λ x b o. given _ _ _
    (let e = node.at_expr_cast n t x (words b) in cc))))

worded_says : (kd : Kind) (f : ℕ → Inner → Parser Expr) → InnerWord kd f → (room : Room) → RoomSays room → (i : Input) →
    words i ≡ Plain kd ∷ words (next i) → Gives (worded f room i) (λ x j. words i ≡ spells_expr x (words j))
unfolding worded
worded_says kd f inner room ok i t =
    after _ _ _ _ (enter_paren_says room ok (next i))
    (λ p j d. weaken _ _ _ (inner (line i) p.0 d.inner j) (λ x l g. let b = d.says in cc))

-- ---- strings

-- no string comes first
abbrev pub Apart : Input → Type 0
Apart i = (a : List ℕ) → join_strings a (words i) ≡ String a ∷ words i

apart_word : (t : Item) (kd : Kind) (ws : Words) (a : List ℕ) → is_string kd ≡ false →
    join_strings a (join (word_by t kd) ws) ≡ String a ∷ join (word_by t kd) ws
unfolding is_string
apart_word t k.String ws a h = let q : ⊥ = cc in absurd q
apart_word t _ ws a h = refl

apart : (i : Input) → is_string (kind i) ≡ false → Apart i
unfolding kind words
apart [] h a = refl
apart (t ∷ i) h a = apart_word t t.kind (words i) a h

join_again : (a b : List ℕ) (ws : Words) → join_strings a (join_strings b ws) ≡ join_strings (a ++ b) ws
join_again a b [] = refl
join_again a b (String c ∷ ws) = ap (λ l. String l ∷ ws) (sym (append_assoc a b c))
join_again a b (w ∷ ws) = refl

string_word : (t : Item) (i : Input) (kd : Kind) → is_string kd ≡ true → t.kind ≡ kd →
    words (t ∷ i) ≡ join_strings (string_bytes t.text) (words i)
unfolding words is_string
string_word t i k.String h e = ap (λ q. join (word_by t q) (words i)) e
string_word t i _ h e = let q : ⊥ = cc in absurd q

no_string : is_string k.End ≡ false
unfolding is_string
no_string = refl

strings_from : (found : List ℕ) (i : Input) →
    Gives (strings found i) (λ a j. join_strings found (words i) ≡ String a ∷ words j)
unfolding kind
strings_from found [] = given _ _ _ (apart [] no_string found)
strings_from found (t ∷ i) = choose (is_string t.kind) _ _ _
    (λ h. weaken _ _ _ (strings_from (found ++ string_bytes t.text) i)
    (λ a j g. ap (join_strings found) (string_word t i t.kind h refl) ∙
    join_again found (string_bytes t.text) (words i) ∙ g))
    (λ h. given _ _ _ (apart (t ∷ i) h found))

join_nothing : (i : Input) (kd : Kind) → kind i ≡ kd → is_string kd ≡ true → join_strings [] (words i) ≡ words i
unfolding kind words is_string
join_nothing [] kd e h = let q = ap is_string e in let r : ⊥ = cc in absurd r
join_nothing (t ∷ i) k.String e h =
    ap (λ q. join_strings [] (join (word_by t q) (words i))) e ∙ join_again [] (string_bytes t.text) (words i) ∙
    sym (ap (λ q. join (word_by t q) (words i)) e)
join_nothing (t ∷ i) _ e h = let q : ⊥ = cc in absurd q

strings_says : (i : Input) → kind i ≡ k.String → Gives (strings [] i) (λ a j. words i ≡ String a ∷ words j)
unfolding is_string
strings_says i h = weaken _ _ _ (strings_from [] i) (λ a j g. sym (join_nothing i k.String h refl) ∙ g)

-- ---- primary expressions

primary_by_says : (room : Room) → RoomSays room → (kd : Kind) (i : Input) → kind i ≡ kd →
    Gives (primary_by room kd i) (λ x j. words i ≡ spells_expr x (words j))
primary_by_says room ok k.Name i h =
    given _ _ _ (taken_name i h ∙ sym (node.at_expr_name (line i) (text i) (words (next i))))
primary_by_says room ok k.Number i h =
    given _ _ _ (taken_number i h ∙ sym (node.at_expr_number (value i) (unsigned i) (words (next i))))
primary_by_says room ok k.Character i h =
    given _ _ _ (taken_character i h ∙ sym (node.at_expr_character (value i) (words (next i))))
primary_by_says room ok k.String i h =
    after _ _ _ _ (strings_says i h) (λ a j g. given _ _ _ (g ∙ sym (node.at_expr_string a (words j))))
primary_by_says room ok k.Compile i h =
    worded_says k.Compile compile_inner compile_says room ok i (taken k.Compile i refl h)
primary_by_says room ok k.Local i h = worded_says k.Local local_inner local_says room ok i (taken k.Local i refl h)
primary_by_says room ok k.Param i h = worded_says k.Param param_inner param_says room ok i (taken k.Param i refl h)
primary_by_says room ok (k.Mark m.ParenOpen) i h =
    after _ _ _ _ (parenthesized_says room ok i) (λ x j g. given _ _ _ (g ∙ sym (node.at_expr_paren x (words j))))
primary_by_says room ok _ i h = refused _ _

primary_says : (room : Room) → RoomSays room → Says spells_expr (primary room)
unfolding primary
primary_says room ok i = primary_by_says room ok (kind i) i refl

-- ---- postfix operators

arguments_says : (item : Parser Expr) → Says spells_expr item → (i : Input) →
    Gives (arguments item i) (λ xs j. words i ≡ with_commas (map spells_expr xs) (mark m.ParenClose (words j)))
unfolding arguments
arguments_says item ok i = choose (sees m.ParenClose i) _ _ _
    (λ c. given _ _ _ (taken_mark m.ParenClose i c))
    (λ c. after _ _ _ _ (separated_says item spells_expr ok i)
    (λ xs j g. after _ _ _ _ (expect_says m.ParenClose j)
    (λ u l q. given _ _ _ (let r = ap (λ w. with_commas (map spells_expr xs) w) q in cc))))

postfix_word : (o : Postfix) → Word
postfix_word postfix_of.Index = Plain (k.Mark m.BracketOpen)
postfix_word postfix_of.Call = Plain (k.Mark m.ParenOpen)
postfix_word (postfix_of.Step s) = Plain (k.Step s)

postfix_taken : (o : Postfix) (kd : Kind) (i : Input) → postfix_kind kd ≡ Some o → kind i ≡ kd →
    words i ≡ postfix_word o ∷ words (next i)
unfolding postfix_kind postfix_word
postfix_taken o (k.Mark m.BracketOpen) i h e = let q : postfix_of.Index ≡ o = cc in
    taken (k.Mark m.BracketOpen) i refl e ∙ ap (λ x. postfix_word x ∷ words (next i)) q
postfix_taken o (k.Mark m.ParenOpen) i h e = let q : postfix_of.Call ≡ o = cc in
    taken (k.Mark m.ParenOpen) i refl e ∙ ap (λ x. postfix_word x ∷ words (next i)) q
postfix_taken o (k.Step s) i h e = let q : postfix_of.Step s ≡ o = cc in
    taken (k.Step s) i refl e ∙ ap (λ x. postfix_word x ∷ words (next i)) q
postfix_taken o _ i h e = let q : ⊥ = cc in absurd q

indexed_says : (n : ℕ) (left : Expr) (r : Inner) → InnerSays r → (i : Input) →
    Gives (indexed n left r i) (λ x j. spells_expr left (mark m.BracketOpen (words i)) ≡ spells_expr x (words j))
unfolding indexed
indexed_says n left r ok i =
    after _ _ _ _ (ok.expr i) (λ x j g. after _ _ _ _ (expect_says m.BracketClose j) (λ u l q. given _ _ _
    (let e = node.at_expr_index n (left, x) (words l) in cc)))

called_says : (n : ℕ) (left : Expr) (r : Inner) → InnerSays r → (i : Input) →
    Gives (called n left r i) (λ x j. spells_expr left (mark m.ParenOpen (words i)) ≡ spells_expr x (words j))
unfolding called
called_says n left r ok i = after _ _ _ _ (arguments_says r.assign ok.assign i) (λ xs j g. given _ _ _
    (let e = node.at_expr_call n left xs (words j) in cc))

postfix_by_says : (r : Inner) (rs : Room) → InnerSays r → (o : Postfix) (n : ℕ) (left : Expr) (i : Input) →
    Gives (postfix_step r rs o n left i) (λ x j. spells_expr left (postfix_word o ∷ words i) ≡ spells_expr x (words j))
unfolding postfix_word
postfix_by_says r rs ok postfix_of.Index n left i = indexed_says n left r ok i
postfix_by_says r rs ok postfix_of.Call n left i = called_says n left r ok i
postfix_by_says r rs ok (postfix_of.Step s) n left i = given _ _ _ (sym (node.at_expr_step n s left (words i)))

postfix_step_says : StepSays postfix_kind postfix_step
postfix_step_says r rs ok oks o n left i h =
    weaken _ _ _ (postfix_by_says r rs ok o n left (next i))
    (λ x j g. ap (spells_expr left) (postfix_taken o (kind i) i h refl) ∙ g)

postfix_says : (room : Room) → RoomSays room → Says spells_expr (postfix room)
unfolding postfix
postfix_says room ok i = after _ _ _ _ (primary_says room ok i)
    (λ x j g. weaken _ _ _ (chain_says postfix_kind postfix_step postfix_step_says room ok x j) (λ y l h. g ∙ h))

-- ---- unary operators

ticked_says : (n : ℕ) (r : Inner) (rs : Room) → InnerSays r → RoomSays rs → (i : Input) →
    Gives (ticked n r rs i) (λ x j. Plain k.Backquote ∷ words i ≡ spells_expr x (words j))
ticked_says n r rs ok oks i = choose (sees m.BraceOpen i) _ _ _
    (λ c. after _ _ _ _ (block_says rs oks i)
    (λ xs j g. given _ _ _ (let e = node.at_expr_tickblock n xs (words j) in cc)))
    (λ c. after _ _ _ _ (ok.unary i) (λ x j g. given _ _ _ (let e = node.at_expr_tick n x (words j) in cc)))

tick_says : (room : Room) → RoomSays room → (i : Input) → kind i ≡ k.Backquote →
    Gives (tick room i) (λ x j. words i ≡ spells_expr x (words j))
unfolding tick
tick_says room ok i h = after _ _ _ _ (enter_says room ok i)
    (λ p j d. weaken _ _ _ (ticked_says (line i) p.0 p.1 d.inner d.rest j)
    (λ x l g. let t = taken k.Backquote i refl h in let b = d.behind in cc))

cast_says : (room : Room) → RoomSays room → (i : Input) → kind i ≡ k.Mark m.ParenOpen →
    Gives (cast room i) (λ x j. words i ≡ spells_expr x (words j))
unfolding cast
cast_says room ok i h = after _ _ _ _ (enter_says room ok i)
    (λ p j d. weaken _ _ _ (cast_inner_says (line i) p.0 d.inner j)
    (λ x l g. let t = taken (k.Mark m.ParenOpen) i refl h in let b = d.behind in cc))

sign_taken : (o : BinaryOp) (u : UnaryOp) (ws : Words) → sign_of o ≡ Some u →
    Plain (k.Operator o) ∷ ws ≡ unary_word u ws
unfolding sign_of
sign_taken op.Add u ws h = let q : unary_op.Plus ≡ u = cc in ap (λ x. unary_word x ws) q
sign_taken op.Sub u ws h = let q : unary_op.Minus ≡ u = cc in ap (λ x. unary_word x ws) q
sign_taken op.Mul u ws h = let q : unary_op.Star ≡ u = cc in ap (λ x. unary_word x ws) q
sign_taken op.BitAnd u ws h = let q : unary_op.Address ≡ u = cc in ap (λ x. unary_word x ws) q
sign_taken _ u ws h = let q : ⊥ = cc in absurd q

unary_taken : (u : UnaryOp) (kd : Kind) (i : Input) → unary_of kd ≡ Some u → kind i ≡ kd →
    words i ≡ unary_word u (words (next i))
unfolding unary_of
unary_taken u (k.Operator o) i h e = taken (k.Operator o) i refl e ∙ sign_taken o u (words (next i)) h
unary_taken u (k.Unary o) i h e = let q : o ≡ u = cc in taken_unary o i e ∙ ap (λ x. unary_word x (words (next i))) q
unary_taken u (k.Step step_op.Increment) i h e = let q : unary_op.Increment ≡ u = cc in
    taken (k.Step step_op.Increment) i refl e ∙ ap (λ x. unary_word x (words (next i))) q
unary_taken u (k.Step step_op.Decrement) i h e = let q : unary_op.Decrement ≡ u = cc in
    taken (k.Step step_op.Decrement) i refl e ∙ ap (λ x. unary_word x (words (next i))) q
unary_taken u _ i h e = let q : ⊥ = cc in absurd q

prefixed_says : (room : Room) → RoomSays room → (o : Option UnaryOp) (i : Input) → unary_of (kind i) ≡ o →
    Gives (prefixed room o i) (λ x j. words i ≡ spells_expr x (words j))
prefixed_says room ok None i h = postfix_says room ok i
prefixed_says room ok (Some u) i h =
    after _ _ _ _ (enter_says room ok i) (λ p j d. after _ _ _ _ (d.inner.unary j) (λ x l g. given _ _ _
    (let e = node.at_expr_unary (line i) u x (words l) in let t = unary_taken u (kind i) i h refl in let b = d.behind in
    cc)))

unary_by_says : (room : Room) → RoomSays room → (kd : Kind) (i : Input) → kind i ≡ kd →
    Gives (unary_by room kd i) (λ x j. words i ≡ spells_expr x (words j))
unary_by_says room ok k.Backquote i h = tick_says room ok i h
unary_by_says room ok k.Sizeof i h = worded_says k.Sizeof sizeof_inner sizeof_says room ok i (taken k.Sizeof i refl h)
unary_by_says room ok (k.Mark m.ParenOpen) i h =
    choose_parser (is_base (kind (next i))) _ _ _ _ (λ c. cast_says room ok i h) (λ c. postfix_says room ok i)
unary_by_says room ok kd i h = prefixed_says room ok (unary_of kd) i (ap unary_of h)

pub unary_says : (room : Room) → RoomSays room → Says spells_expr (unary room)
unfolding unary
unary_says room ok i = unary_by_says room ok (kind i) i refl

-- ---- levels

kept : (b : Bool) (o p : BinaryOp) → ◌≡◌ {A = Option BinaryOp} (choice_of b (Some o) None) (Some p) → o ≡ p
kept true o p h = cc
kept false o p h = let q : ⊥ = cc in absurd q

binary_taken : (n : ℕ) (o : BinaryOp) (kd : Kind) (i : Input) → binary_of n kd ≡ Some o → kind i ≡ kd →
    words i ≡ Plain (k.Operator o) ∷ words (next i)
unfolding binary_of
binary_taken n o (k.Operator p) i h e =
    taken (k.Operator p) i refl e ∙ ap (λ x. Plain (k.Operator x) ∷ words (next i)) (kept (looseness p == n) p o h)
binary_taken n o _ i h e = let q : ⊥ = cc in absurd q

binary_step_says : (n : ℕ) (operand : Room → Parser Expr) →
    ((rs : Room) → RoomSays rs → Says spells_expr (operand rs)) → StepSays (binary_of n) (binary_step operand)
binary_step_says n operand ok r rs inner rooms o l left i h = after _ _ _ _ (ok rs rooms (next i)) (λ x j g. given _ _ _
    (let e = node.at_expr_binary l o (left, x) (words j) in let t = binary_taken n o (kind i) i h refl in cc))

level_says : (n : ℕ) (room : Room) → RoomSays room → Says spells_expr (level n room)
unfolding level
level_says zero room ok i = unary_says room ok i
level_says (suc n) room ok i =
    after _ _ _ _ (level_says n room ok i)
    (λ x j g. weaken _ _ _ (chain_says (binary_of n) (binary_step (level n))
    (binary_step_says n (level n) (λ rs rooms. level_says n rs rooms)) room ok x j) (λ y l h. g ∙ h))

choice_says : (n : ℕ) (test : Expr) (r : Inner) → InnerSays r → (i : Input) →
    Gives (choice n test r i) (λ x j. spells_expr test (mark m.Question (words i)) ≡ spells_expr x (words j))
unfolding choice
choice_says n test r ok i =
    after _ _ _ _ (ok.expr i)
    (λ x j g. after _ _ _ _ (expect_says m.Colon j) (λ u l q. after _ _ _ _ (ok.cond l) (λ y a h. given _ _ _
    (let e = node.at_expr_choice n test x y (words a) in cc))))

cond_more_says : (room : Room) → RoomSays room → (test : Expr) (i : Input) →
    Gives (cond_more room test i) (λ x j. Grows test i x j)
cond_more_says room ok test i = choose (sees m.Question i) _ _ _
    (λ c. after _ _ _ _ (enter_says room ok i)
    (λ p j d. weaken _ _ _ (choice_says (line i) test p.0 d.inner j)
    (λ x l g. let t = taken_mark m.Question i c in let b = d.behind in cc)))
    (λ c. given _ _ _ refl)

pub cond_says : (room : Room) → RoomSays room → Says spells_expr (cond room)
unfolding cond
cond_says room ok i = after _ _ _ _ (level_says 10 room ok i)
    (λ x j g. weaken _ _ _ (cond_more_says room ok x j) (λ y l h. g ∙ h))

assign_by_says : (room : Room) → RoomSays room → (left : Expr) (kd : Kind) (i : Input) → kind i ≡ kd →
    Gives (assign_by room left kd i) (λ x j. Grows left i x j)
assign_by_says room ok left (k.Mark m.Assign) i h =
    after _ _ _ _ (enter_says room ok i) (λ p j d. after _ _ _ _ (d.inner.assign j) (λ x l g. given _ _ _
    (let e = node.at_expr_assign (line i) (left, x) (words l) in let t = taken (k.Mark m.Assign) i refl h in let b =
    d.behind in cc)))
assign_by_says room ok left (k.Modify o) i h =
    after _ _ _ _ (enter_says room ok i) (λ p j d. after _ _ _ _ (d.inner.assign j) (λ x l g. given _ _ _
    (let e = node.at_expr_modify (line i) o (left, x) (words l) in let t = taken (k.Modify o) i refl h in let b =
    d.behind in cc)))
assign_by_says room ok left _ i h = given _ _ _ refl

pub assign_says : (room : Room) → RoomSays room → Says spells_expr (assign room)
unfolding assign
assign_says room ok i = after _ _ _ _ (cond_says room ok i)
    (λ x j g. weaken _ _ _ (assign_by_says room ok x (kind j) j refl) (λ y l h. g ∙ h))

comma_taken : (u : Unit {0}) (kd : Kind) (i : Input) → comma_of kd ≡ Some u → kind i ≡ kd →
    words i ≡ mark m.Comma (words (next i))
unfolding comma_of
comma_taken u (k.Mark m.Comma) i h e = taken (k.Mark m.Comma) i refl e
comma_taken u _ i h e = let q : ⊥ = cc in absurd q

comma_step_says : StepSays comma_of comma_step
comma_step_says r rs inner rooms u n left i h = after _ _ _ _ (assign_says rs rooms (next i)) (λ x j g. given _ _ _
    (let e = node.at_expr_comma n (left, x) (words j) in let t = comma_taken u (kind i) i h refl in cc))

pub expr_says : (room : Room) → RoomSays room → Says spells_expr (expr room)
unfolding expr
expr_says room ok i = after _ _ _ _ (assign_says room ok i)
    (λ x j g. weaken _ _ _ (chain_says comma_of comma_step comma_step_says room ok x j) (λ y l h. g ∙ h))
