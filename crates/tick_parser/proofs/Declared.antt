-- A declarator with a name whose name is followed at once by a `(` has a suffix at its name.
use Rattle.std.proofs.Common.{◌≡◌, ℕ, zero, suc, Bool, true, false, cond, refl, ap, sym, ◌∙◌, List, [], ◌∷◌, ◌++◌}
use Rattle.std.proofs.Common.{length}
use Rattle.std.specs.Prelude.{not, Option, Some, None, Ok, Err}
use Rattle.tick_tree.specs.Named.{is_nil}
use Rattle.tick_tree.specs.declared.base.Prefix.{Prefix}
use Rattle.tick_tree.specs.declared.syntax.Core.{Core}
use Rattle.tick_tree.specs.declared.syntax.Declarator.{Declarator}
use Rattle.parse_grammar.specs.declared.item.Item.{Item}
use Rattle.parse_grammar.specs.declared.kind.Kind.{Kind}
use Rattle.parse_grammar.specs.declared.kind.Kind.TheVariants as k
use Rattle.parse_grammar.specs.declared.kind.Mark.TheVariants as m
use Rattle.parse_grammar.specs.declared.grammar.Mode.TheVariants as mode_of
use Rattle.parse_grammar.specs.Input.{Input, Outcome, Parser, and_then, kind, next, sees, is_mark}
use Rattle.parse_grammar.specs.Steps.{Inner, Room, descend, enter, many, many_from}
use Rattle.parse_grammar.specs.Statements.{room_of}
use Rattle.parse_grammar.specs.Declarators.{prefix_of, prefixes_by, prefixes, opens, inner_declarator, core_by, core}
use Rattle.parse_grammar.specs.Declarators.{begins_suffix, suffix, suffixes, behind_prefixes, declarator, is_name}
use Rattle.parse_grammar.specs.Declarators.{declares_function}
use Rattle.parse_spelling.proofs.Gives.{Gives, given, refused, after, choose, weaken, marked}
use Rattle.tick_tree.specs.Named.{is_listed, is_listed_core}
use Rattle.tick_parser.proofs.Heads.{listed_name, listed_paren, listed_declarator}

pub anything : {A : Type 0} (o : Outcome A) → Gives o (λ a j. Unit {0})
anything (Ok p) = given p.0 p.1 _ tt
anything (Err s) = refused s _

-- whatever a parser gives, what follows it gives this
pub past : {A B : Type 0} (R : B → Input → Type 0) (o : Outcome A) (f : A → Parser B) →
    ((a : A) (j : Input) → Gives (f a j) R) → Gives (and_then o f) R
past R o f go = after o (λ a j. Unit {0}) f R (anything o) (λ a j u. go a j)

-- ---- what is no name is passed over

passed : (t : Item) (i : Input) → is_name t.kind ≡ false → declares_function (t ∷ i) ≡ declares_function i
unfolding declares_function
passed t i h = ap (λ b. cond b (sees m.ParenOpen i) (declares_function i)) h

named : (t : Item) (i : Input) → is_name t.kind ≡ true → declares_function (t ∷ i) ≡ sees m.ParenOpen i
unfolding declares_function
named t i h = ap (λ b. cond b (sees m.ParenOpen i) (declares_function i)) h

prefix_is_no_name : (kd : Kind) (p : Prefix) → prefix_of kd ≡ Some p → is_name kd ≡ false
unfolding prefix_of is_name
prefix_is_no_name k.Name p h = let q : ⊥ = cc in absurd q
prefix_is_no_name _ p h = refl

abbrev Same : Input → List Prefix → Input → Type 0
Same i ps j = declares_function i ≡ declares_function j

by_prefix : (o : Option Prefix) (found : List Prefix) (t : Item) (i : Input)
    (goes : List Prefix → Outcome (List Prefix)) → prefix_of t.kind ≡ o
    → ((p : Prefix) → Gives (goes (found ++ p ∷ [])) (Same i)) → Gives (prefixes_by o found (t ∷ i) goes) (Same (t ∷ i))
by_prefix None found t i goes h on = given _ _ _ refl
by_prefix (Some p) found t i goes h on = weaken _ _ _ (on p) (λ ps j e. passed t i (prefix_is_no_name t.kind p h) ∙ e)

behind_the_prefixes : (found : List Prefix) (i : Input) → Gives (prefixes found i) (Same i)
behind_the_prefixes found [] = given _ _ _ refl
behind_the_prefixes found (t ∷ i) =
    by_prefix (prefix_of t.kind) found t i (λ more. prefixes more i) refl (λ p. behind_the_prefixes (found ++ p ∷ []) i)

-- ---- the core

abbrev pub Listed : Declarator → Input → Type 0
Listed d j = is_listed d ≡ true

abbrev Deep : Inner → Type 0
Deep r = (i : Input) → declares_function i ≡ true → Gives (r.declarator mode_of.Named i) Listed

abbrev DeepRoom : Room → Type 0
DeepRoom [] = Unit {0}
DeepRoom (r ∷ rs) = Deep r

-- with a suffix behind it, if a `(` stands there
abbrev AtCore : Core → Input → Type 0
AtCore c j = (b : Bool) → (sees m.ParenOpen j ≡ true → b ≡ true) → is_listed_core c b ≡ true

abbrev Entered : Input → Inner × Room → Input → Type 0
Entered i p j = Deep p.0 × (j ≡ i)

descended : (room : Room) → DeepRoom room → (i : Input) → Gives (descend room i) (λ p j. Deep p.0 × (j ≡ i))
unfolding descend
descended [] deep i = refused _ _
descended (r ∷ rs) deep i = given _ _ _ (deep, refl)

entered : (room : Room) → DeepRoom room → (i : Input) → Gives (enter room i) (Entered (next i))
unfolding enter
entered room deep i = after _ _ _ _ (descended room deep i) (λ p j h. given _ _ _ (h.0, ap next h.1))

at_parenthesis : (room : Room) → DeepRoom room → (i : Input) → declares_function (next i) ≡ true →
    Gives (inner_declarator mode_of.Named room i) AtCore
unfolding inner_declarator
at_parenthesis room deep i h = after _ _ _ _ (entered room deep i) (λ p j e.
    after _ _ _ _ (e.0 j (ap declares_function e.1 ∙ h)) (λ d l q.
    past AtCore _ _ (λ u n. given _ _ _ (λ b c. listed_paren d b ∙ q))))

by_core : (room : Room) → DeepRoom room → (kd : Kind) (t : Item) (i : Input) → t.kind ≡ kd →
    declares_function (t ∷ i) ≡ true → Gives (core_by mode_of.Named room kd (t ∷ i)) AtCore
unfolding is_name opens kind next
by_core room deep k.Name t i e h = given _ _ _ (λ b c. listed_name _ _ b ∙ c (sym (named t i (ap is_name e)) ∙ h))
by_core room deep (k.Mark m.ParenOpen) t i e h = at_parenthesis room deep (t ∷ i) (sym (passed t i (ap is_name e)) ∙ h)
by_core room deep _ t i e h = refused _ _

at_core : (room : Room) → DeepRoom room → (i : Input) → declares_function i ≡ true →
    Gives (core mode_of.Named room i) AtCore
unfolding core declares_function kind
at_core room deep [] h = let q : ⊥ = cc in absurd q
at_core room deep (t ∷ i) h = by_core room deep t.kind t i refl h

-- ---- suffixes

not_nil : {A : Type 0} (xs : List A) (x : A) → is_nil (xs ++ x ∷ []) ≡ false
not_nil [] x = refl
not_nil (y ∷ ys) x = refl

more_from : {A : Type 0} (begins : Kind → Bool) (item : Parser A) (n : ℕ) (found : List A) (i : Input) →
    is_nil found ≡ false → Gives (many_from begins item n found i) (λ xs j. is_nil xs ≡ false)
unfolding many_from
more_from begins item zero found i h = given _ _ _ h
more_from begins item (suc n) found i h = choose (begins (kind i)) _ _ _
    (λ c. past _ _ _ (λ x j. more_from begins item n (found ++ x ∷ []) j (not_nil found x)))
    (λ c. given _ _ _ h)

opens_suffix : (kd : Kind) → is_mark m.ParenOpen kd ≡ true → begins_suffix kd ≡ true
unfolding begins_suffix
opens_suffix kd h = ap begins_suffix (marked m.ParenOpen kd h)

first_suffix : (room : Room) (t : Item) (i : Input) → sees m.ParenOpen (t ∷ i) ≡ true →
    Gives (suffixes room (t ∷ i)) (λ ss j. is_nil ss ≡ false)
unfolding suffixes many many_from
first_suffix room t i h = choose (begins_suffix (kind (t ∷ i))) _ _ _
    (λ c. past _ _ _ (λ x j. more_from begins_suffix (suffix room) (length i) (x ∷ []) j refl))
    (λ c. let d = opens_suffix (kind (t ∷ i)) h in let q : ⊥ = cc in absurd q)

none_seen : sees m.ParenOpen [] ≡ false
unfolding kind is_mark
none_seen = refl

by_seen : (room : Room) (t : Item) (i : Input) (b : Bool) → sees m.ParenOpen (t ∷ i) ≡ b →
    Gives (suffixes room (t ∷ i)) (λ ss j. sees m.ParenOpen (t ∷ i) ≡ true → not (is_nil ss) ≡ true)
by_seen room t i true e = weaken _ _ _ (first_suffix room t i e) (λ ss j n h. ap not n)
by_seen room t i false e = weaken _ _ _ (anything _) (λ ss j u h. let q : ⊥ = cc in absurd q)

some_suffix : (room : Room) (i : Input) →
    Gives (suffixes room i) (λ ss j. sees m.ParenOpen i ≡ true → not (is_nil ss) ≡ true)
some_suffix room [] = weaken _ _ _ (anything _) (λ ss j u h. let e = none_seen in let q : ⊥ = cc in absurd q)
some_suffix room (t ∷ i) = by_seen room t i (sees m.ParenOpen (t ∷ i)) refl

-- ---- the whole

behind : (room : Room) → DeepRoom room → (found : List Prefix) (i : Input) → declares_function i ≡ true →
    Gives (behind_prefixes mode_of.Named room found i) Listed
unfolding behind_prefixes
behind room deep found i h = after _ _ _ _ (at_core room deep i h) (λ c j a.
    after _ _ _ _ (some_suffix room j) (λ ss l s. given _ _ _ (listed_declarator found c ss ∙ a (not (is_nil ss)) s)))

pub declared_with_list : (room : Room) → DeepRoom room → (i : Input) → declares_function i ≡ true →
    Gives (declarator mode_of.Named room i) Listed
unfolding declarator
declared_with_list room deep i h =
    after _ _ _ _ (behind_the_prefixes [] i) (λ ps j e. behind room deep ps j (sym e ∙ h))

-- at each level
pub deep_room : (n : ℕ) → DeepRoom (room_of n)
unfolding room_of
deep_room zero = tt
deep_room (suc n) = declared_with_list (room_of n) (deep_room n)
