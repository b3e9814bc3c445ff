-- Bases, declarators and type names spell what they read.
use Rattle.std.proofs.Common.{◌≡◌, Bool, true, false, cond, List, [], ◌∷◌, ◌++◌, refl, ap, sym, ◌∙◌, append_assoc}
use Rattle.std.proofs.Common.{append-nil}
use Rattle.std.proofs.lemmas.Bool.{and_parts}
use Rattle.std.specs.Prelude.{Option, Some, None}
use Rattle.tick_tree.specs.declared.base.Prefix.{Prefix}
use Rattle.tick_tree.specs.declared.base.Prefix.TheVariants as prefix
use Rattle.tick_tree.specs.declared.base.BinaryOp.TheVariants as op
use Rattle.tick_tree.specs.declared.base.Signedness.{Signedness}
use Rattle.tick_tree.specs.declared.base.Signedness.TheVariants as sign
use Rattle.tick_tree.specs.declared.syntax.Core.{Core}
use Rattle.tick_tree.specs.declared.syntax.Core.TheVariants as core_of
use Rattle.tick_tree.specs.declared.syntax.Suffix.{Suffix}
use Rattle.parse_grammar.specs.declared.kind.Kind.{Kind}
use Rattle.parse_grammar.specs.declared.kind.Kind.TheVariants as k
use Rattle.parse_grammar.specs.declared.kind.BaseWord.TheVariants as w
use Rattle.parse_grammar.specs.declared.kind.Mark.TheVariants as m
use Rattle.parse_grammar.specs.declared.grammar.Mode.{Mode}
use Rattle.parse_grammar.specs.declared.grammar.Mode.TheVariants as mode_of
use Rattle.parse_grammar.specs.Input.{Input, Outcome, kind, line, next, text, sees, is_mark, same_mark}
use Rattle.parse_grammar.specs.Steps.{Inner, Room}
use Rattle.parse_grammar.specs.Bases.{is_int, is_void, eat_int, sized_by, sized, base_by, base}
use Rattle.parse_grammar.specs.Declarators.{prefix_of, prefixes_by, prefixes, opens, inner_declarator, unnamed, core_by}
use Rattle.parse_grammar.specs.Declarators.{core, array, parameter, is_nothing, listed, parameters, list, begins_suffix}
use Rattle.parse_grammar.specs.Declarators.{suffix, suffixes, behind_prefixes, declarator, typename}
use Rattle.parse_spelling.specs.Words.{Plain, words}
use Rattle.parse_spelling.specs.Spelling.{mark, base_words, optional_sign, optional_int, prefix_word, prefix_words}
use Rattle.parse_spelling.specs.Spelling.{spells_core, spells_suffix, spells_parameter, spells_declarator}
use Rattle.parse_spelling.specs.Spelling.{spells_typename}
use Rattle.parse_spelling.proofs.Nodes.{at_core_absent, at_core_name, at_core_paren, at_suffix_array}
use Rattle.parse_spelling.proofs.Nodes.{at_suffix_unlisted, at_suffix_nothing, at_suffix_listed, at_parameter}
use Rattle.parse_spelling.proofs.Nodes.{at_declarator, at_typename}
use Rattle.parse_spelling.proofs.Gives.{Gives, given, refused, after, choose, choose_parser, weaken, Says, taken}
use Rattle.parse_spelling.proofs.Gives.{taken_name, taken_mark, expect_says}
use Rattle.parse_spelling.proofs.Lists.{InnerSays, RoomSays, BeginsSays, turns, enter_says, optional_says}
use Rattle.parse_spelling.proofs.Lists.{separated_says, many_says}

-- ---- bases

int_kind : (kd : Kind) → is_int kd ≡ true → kd ≡ k.Base w.Int
unfolding is_int
int_kind (k.Base w.Int) h = refl
int_kind _ h = let q : ⊥ = cc in absurd q

int_by : (i : Input) (b : Bool) → is_int (kind i) ≡ b → words i ≡ optional_int b (words (cond b (next i) i))
int_by i true h = taken (k.Base w.Int) i refl (int_kind (kind i) h)
int_by i false h = refl

-- `int`, if it comes next
int_says : (i : Input) → words i ≡ optional_int (is_int (kind i)) (words (cond (is_int (kind i)) (next i) i))
int_says i = int_by i (is_int (kind i)) refl

sized_by_says : (s : Option Signedness) (kd : Kind) (i : Input) → kind i ≡ kd →
    Gives (sized_by s kd i) (λ b j. optional_sign s (words i) ≡ base_words b (words j))
unfolding base_words eat_int
sized_by_says s (k.Base w.Char) i h = given _ _ _ (ap (optional_sign s) (taken (k.Base w.Char) i refl h))
sized_by_says s (k.Base w.Short) i h =
    given _ _ _ (ap (optional_sign s)
    (taken (k.Base w.Short) i refl h ∙ ap (λ l. Plain (k.Base w.Short) ∷ l) (int_says (next i))))
sized_by_says s (k.Base w.Long) i h =
    given _ _ _ (ap (optional_sign s)
    (taken (k.Base w.Long) i refl h ∙ ap (λ l. Plain (k.Base w.Long) ∷ l) (int_says (next i))))
sized_by_says s (k.Base w.Int) i h = given _ _ _ (ap (optional_sign s) (taken (k.Base w.Int) i refl h))
sized_by_says None _ i h = refused _ _
sized_by_says (Some s) _ i h = given _ _ _ refl

sized_says : (s : Option Signedness) (i : Input) →
    Gives (sized s i) (λ b j. optional_sign s (words i) ≡ base_words b (words j))
unfolding sized
sized_says s i = sized_by_says s (kind i) i refl

base_by_says : (kd : Kind) (i : Input) → kind i ≡ kd → Gives (base_by kd i) (λ b j. words i ≡ base_words b (words j))
unfolding base_words
base_by_says (k.Base w.Void) i h = given _ _ _ (taken (k.Base w.Void) i refl h)
base_by_says (k.Base w.Signed) i h =
    weaken _ _ _ (sized_says (Some sign.Signed) (next i)) (λ b j g. taken (k.Base w.Signed) i refl h ∙ g)
base_by_says (k.Base w.Unsigned) i h =
    weaken _ _ _ (sized_says (Some sign.Unsigned) (next i)) (λ b j g. taken (k.Base w.Unsigned) i refl h ∙ g)
base_by_says _ i h = sized_says None i

pub base_says : Says base_words base
unfolding base
base_says i = base_by_says (kind i) i refl

-- ---- prefixes

prefix_kind : (p : Prefix) (kd : Kind) (i : Input) → prefix_of kd ≡ Some p → kind i ≡ kd →
    words i ≡ prefix_word p (words (next i))
unfolding prefix_of
prefix_kind p (k.Operator op.Mul) i h e = let q : prefix.Star ≡ p = cc in
    taken (k.Operator op.Mul) i refl e ∙ ap (λ x. prefix_word x (words (next i))) q
prefix_kind p k.Cspec i h e = let q : prefix.Cspec ≡ p = cc in
    taken k.Cspec i refl e ∙ ap (λ x. prefix_word x (words (next i))) q
prefix_kind p k.Vspec i h e = let q : prefix.Vspec ≡ p = cc in
    taken k.Vspec i refl e ∙ ap (λ x. prefix_word x (words (next i))) q
prefix_kind p _ i h e = let q : ⊥ = cc in absurd q

pub record Prefixes (found ps : List Prefix) (i j : Input) : Type 0 where
  pub more : List Prefix
  pub all : ps ≡ found ++ more
  pub says : words i ≡ prefix_words more (words j)

prefixes_by_says : (o : Option Prefix) (found : List Prefix) (i : Input) (goes : List Prefix → Outcome (List Prefix)) →
    prefix_of (kind i) ≡ o
    → ((p : Prefix) → Gives (goes (found ++ p ∷ [])) (λ ps j. Prefixes (found ++ p ∷ []) ps (next i) j)) →
    Gives (prefixes_by o found i goes) (λ ps j. Prefixes found ps i j)
prefixes_by_says None found i goes h on = given _ _ _ (record { more = []; all = sym (append-nil found); says = refl })
prefixes_by_says (Some p) found i goes h on = weaken _ _ _ (on p) (λ ps j g. record {
  more = p ∷ g.more;
  all = g.all ∙ append_assoc found (p ∷ []) g.more;
  says = prefix_kind p (kind i) i h refl ∙ ap (prefix_word p) g.says;
})

prefixes_from_says : (found : List Prefix) (i : Input) → Gives (prefixes found i) (λ ps j. Prefixes found ps i j)
unfolding kind next
prefixes_from_says found [] = given _ _ _ (record { more = []; all = sym (append-nil found); says = refl })
prefixes_from_says found (t ∷ i) =
    prefixes_by_says (prefix_of t.kind) found (t ∷ i) (λ more. prefixes more i) refl
    (λ p. prefixes_from_says (found ++ p ∷ []) i)

pub prefixes_says : Says prefix_words (prefixes [])
prefixes_says i = weaken _ _ _ (prefixes_from_says [] i)
    (λ ps j g. g.says ∙ sym (ap (λ xs. prefix_words xs (words j)) g.all))

-- ---- the core

inner_declarator_says : (mode : Mode) (room : Room) → RoomSays room → (i : Input) → kind i ≡ k.Mark m.ParenOpen →
    Gives (inner_declarator mode room i) (λ c j. words i ≡ spells_core c (words j))
unfolding inner_declarator
inner_declarator_says mode room ok i h =
    after _ _ _ _ (enter_says room ok i)
    (λ p j d. after _ _ _ _ (d.inner.declarator mode j)
    (λ x l g. after _ _ _ _ (expect_says m.ParenClose l) (λ u n q. given _ _ _
    (let e = at_core_paren x (words n) in let t = taken (k.Mark m.ParenOpen) i refl h in let b = d.behind in cc))))

unnamed_says : (mode : Mode) → Says spells_core (unnamed mode)
unnamed_says mode_of.Named i = refused _ _
unnamed_says mode_of.Either i = given _ _ _ (sym (at_core_absent (words i)))
unnamed_says mode_of.Nameless i = given _ _ _ (sym (at_core_absent (words i)))

abbrev core_name : Input → Core
core_name i = core_of.Name (line i) (text i)

named_says : (i : Input) → kind i ≡ k.Name → words i ≡ spells_core (core_name i) (words (next i))
named_says i h = taken_name i h ∙ sym (at_core_name (line i) (text i) (words (next i)))

core_by_says : (mode : Mode) (room : Room) → RoomSays room → (kd : Kind) (i : Input) → kind i ≡ kd →
    Gives (core_by mode room kd i) (λ c j. words i ≡ spells_core c (words j))
core_by_says mode_of.Nameless room ok k.Name i h = given _ _ _ (sym (at_core_absent (words i)))
core_by_says mode_of.Named room ok k.Name i h = given _ _ _ (named_says i h)
core_by_says mode_of.Either room ok k.Name i h = given _ _ _ (named_says i h)
core_by_says mode room ok (k.Mark m.ParenOpen) i h =
    choose_parser (opens mode (kind (next i))) _ _ _ _ (λ c. inner_declarator_says mode room ok i h)
    (λ c. unnamed_says mode i)
core_by_says mode room ok _ i h = unnamed_says mode i

core_says : (mode : Mode) (room : Room) → RoomSays room → Says spells_core (core mode room)
unfolding core
core_says mode room ok i = core_by_says mode room ok (kind i) i refl

-- ---- suffixes

array_says : (room : Room) → RoomSays room → (i : Input) → sees m.BracketOpen i ≡ true →
    Gives (array room i) (λ x j. words i ≡ spells_suffix x (words j))
unfolding array
array_says room ok i h = after _ _ _ _ (enter_says room ok i)
    (λ p j d. after _ _ _ _ (optional_says m.BracketClose p.0.cond d.inner.cond j) (λ x l g. given _ _ _
    (let e = at_suffix_array x (words l) in let t = taken_mark m.BracketOpen i h in let b = d.behind in cc)))

parameter_says : (r : Inner) → InnerSays r → Says spells_parameter (parameter r)
unfolding parameter
parameter_says r ok i = after _ _ _ _ (base_says i)
    (λ words_of j g. after _ _ _ _ (ok.declarator mode_of.Either j) (λ d l q. given _ _ _
    (let e = at_parameter (line i) words_of d (words l) in cc)))

-- a parameter list behind its `(`
abbrev BehindParen : Suffix → Input → Input → Type 0
BehindParen x i j = mark m.ParenOpen (words i) ≡ spells_suffix x (words j)

listed_says : (r : Inner) → InnerSays r → (i : Input) → Gives (listed r i) (λ x j. BehindParen x i j)
listed_says r ok i = after _ _ _ _ (separated_says (parameter r) spells_parameter (parameter_says r ok) i)
    (λ ps j g. after _ _ _ _ (expect_says m.ParenClose j) (λ u l q. given _ _ _
    (let e = at_suffix_listed ps (words l) in cc)))

void_kind : (kd : Kind) → is_void kd ≡ true → kd ≡ k.Base w.Void
unfolding is_void
void_kind (k.Base w.Void) h = refl
void_kind _ h = let q : ⊥ = cc in absurd q

nothing_says : (i : Input) → is_nothing i ≡ true →
    words i ≡ Plain (k.Base w.Void) ∷ mark m.ParenClose (words (next (next i)))
nothing_says i h = let c = and_parts (is_void (kind i)) (sees m.ParenClose (next i)) h in
    taken (k.Base w.Void) i refl (void_kind (kind i) c.0) ∙
    ap (λ l. Plain (k.Base w.Void) ∷ l) (taken_mark m.ParenClose (next i) c.1)

parameters_says : (r : Inner) → InnerSays r → (i : Input) → Gives (parameters r i) (λ x j. BehindParen x i j)
unfolding parameters
parameters_says r ok i = choose (sees m.ParenClose i) _ _ _
    (λ c. given _ _ _ (ap (mark m.ParenOpen) (taken_mark m.ParenClose i c) ∙ sym (at_suffix_unlisted (words (next i)))))
    (λ c. choose (is_nothing i) _ _ _
    (λ n. given _ _ _ (ap (mark m.ParenOpen) (nothing_says i n) ∙ sym (at_suffix_nothing (words (next (next i))))))
    (λ n. listed_says r ok i))

list_says : (room : Room) → RoomSays room → (i : Input) → sees m.ParenOpen i ≡ true →
    Gives (list room i) (λ x j. words i ≡ spells_suffix x (words j))
unfolding list
list_says room ok i h = after _ _ _ _ (enter_says room ok i)
    (λ p j d. weaken _ _ _ (parameters_says p.0 d.inner j)
    (λ x l g. let t = taken_mark m.ParenOpen i h in let b = d.behind in cc))

suffix_kind : (kd : Kind) → begins_suffix kd ≡ true → is_mark m.BracketOpen kd ≡ false → is_mark m.ParenOpen kd ≡ true
unfolding begins_suffix is_mark same_mark
suffix_kind (k.Mark m.BracketOpen) h n = let q : ⊥ = cc in absurd q
suffix_kind (k.Mark m.ParenOpen) h n = refl
suffix_kind _ h n = let q : ⊥ = cc in absurd q

suffix_says : (room : Room) → RoomSays room → BeginsSays begins_suffix spells_suffix (suffix room)
unfolding suffix
suffix_says room ok i h =
    choose (sees m.BracketOpen i) _ _ _ (λ c. array_says room ok i c)
    (λ c. list_says room ok i (suffix_kind (kind i) h c))

suffixes_says : (room : Room) → RoomSays room → Says (turns spells_suffix) (suffixes room)
unfolding suffixes
suffixes_says room ok i = many_says begins_suffix (suffix room) spells_suffix (suffix_says room ok) i

-- ---- the whole

behind_prefixes_says : (mode : Mode) (room : Room) → RoomSays room → (ps : List Prefix) (i : Input) →
    Gives (behind_prefixes mode room ps i) (λ d j. prefix_words ps (words i) ≡ spells_declarator d (words j))
unfolding behind_prefixes
behind_prefixes_says mode room ok ps i =
    after _ _ _ _ (core_says mode room ok i) (λ c j g. after _ _ _ _ (suffixes_says room ok j) (λ xs l q. given _ _ _
    (let e = at_declarator ps c xs (words l) in cc)))

pub declarator_says : (mode : Mode) (room : Room) → RoomSays room → Says spells_declarator (declarator mode room)
unfolding declarator
declarator_says mode room ok i =
    after _ _ _ _ (prefixes_says i) (λ ps j g. weaken _ _ _ (behind_prefixes_says mode room ok ps j) (λ d l h. g ∙ h))

pub typename_says : (r : Inner) → InnerSays r → Says spells_typename (typename r)
unfolding typename
typename_says r ok i = after _ _ _ _ (base_says i)
    (λ words_of j g. after _ _ _ _ (ok.declarator mode_of.Nameless j) (λ d l q. given _ _ _
    (let e = at_typename words_of d (words l) in cc)))
