-- What a declaration's parts leave at file scope: the names, the functions and the ticks.
use Rattle.std.proofs.Common.{◌≡◌, ℕ, Bool, true, false, ◌&&◌, ◌||◌, if◌then◌else◌, refl, ap, sym, ◌∙◌, subst, List, []}
use Rattle.std.proofs.Common.{◌∷◌, ◌++◌, length, Option, Some, None, is_some, Result, Ok, Err, ◌⊎◌, inl, inr}
use Rattle.c_types.specs.declared.ctype.CType.{CType}
use Rattle.check_declarators.specs.Making.{lower}
use Rattle.check_types.specs.Shapes.{inner, width_of}
use Rattle.tick_tree.specs.declared.fault.FaultKind.{FaultKind}
use Rattle.tick_tree.specs.declared.fault.FaultKind.TheVariants as fault
use Rattle.tick_tree.specs.Faults.{refuse}
use Rattle.check_operands.specs.declared.operand.Operand.{Operand}
use Rattle.check_operands.specs.declared.operand.Value.{Value}
use Rattle.check_operands.specs.Operands.{value_of}
use Rattle.check_rules.specs.Images as images
use Rattle.check_rules.specs.Walks.{lift}
use Rattle.check_rules.specs.declared.state.Stage.TheVariants as stage
use Rattle.check_rules.specs.declared.state.State.{State}
use Rattle.check_rules.specs.ExpressionRules.{Node}
use Rattle.check_rules.specs.Initializers.{is_text, has_size, value_breaks}
use Rattle.check_globals.specs.declared.statics.Row.{Row}
use Rattle.check_globals.specs.Statics as statics
use Rattle.check_rules.specs.Walk.{Start, Nothing, Value as One, Values}
use Rattle.check_globals.specs.Program as program
use Rattle.wf_walk.specs.Good.{Plain}
use Rattle.wf_walk.proofs.Walks.{pure_same, pure_value}
use Rattle.wf_programs.proofs.Declared.{none_lower}
use Rattle.wf_programs.proofs.Steps.{Parts, parts}

pub record Still (s new : State) : Type 0 where
  pub scopes : new.scopes ≡ s.scopes
  pub functions : new.functions ≡ s.functions
  pub ticks : new.ticks.all ≡ s.ticks.all

pub still_refl : (s : State) → Still s s
still_refl s = record { scopes = refl; functions = refl; ticks = refl }

pub still_same : (s new : State) → new ≡ s → Still s new
still_same s new e = subst (λ (z : State). Still s z) (sym e) (still_refl s)

pub still_more : (s m new : State) → Still s m → Still m new → Still s new
still_more s m new p q = record
    { scopes = q.scopes ∙ p.scopes; functions = q.functions ∙ p.functions; ticks = q.ticks ∙ p.ticks }

pub plain_still : (s new : State) → Plain stage.Function s new → Still s new
plain_still s new p = record { scopes = p.tables.scopes; functions = p.tables.functions; ticks = p.at }

-- ---- what may begin a global

-- a node that may begin a global: one of a constant's form, or a string
pub record StaticNode (n : Node) : Type 0 where
  pub constant : n.written.constant ≡ true → (s new : State) (o : Operand) → n.walk stage.Function s ≡ Ok (o, new) →
      Plain stage.Function s new
  pub string : is_some n.written.string ≡ true → (s new : State) (o : Operand) → n.walk stage.Function s ≡ Ok (o, new) →
      Plain stage.Function s new

abbrev pub EachStatic : List Node → Type 0
EachStatic [] = Unit {0}
EachStatic (n ∷ ns) = StaticNode n × EachStatic ns

abbrev pub StaticStart : Start → Type 0
StaticStart Nothing = Unit {0}
StaticStart (One e) = StaticNode e
StaticStart (Values es) = EachStatic es

-- ---- one value

abbrev pub Allowed : Bool → Bool → Type 0
Allowed form string = (form ≡ true) ⊎ (string ≡ true)

either : (a b c : Bool) → (a || b && c) ≡ true → Allowed a b
either true b c is = inl refl
either false true c is = inr refl
either false false c is = absurd (cc)

formed_ok : (a : Bool) (v : Value) (n : ℕ) → statics.formed a v ≡ Ok n → a ≡ true
formed_ok true v n is = refl
formed_ok false v n is = absurd (cc)

word_case : (form string c : Bool) (v : Value) (n : ℕ) (o : Option FaultKind) →
    statics.word_by o (form || string && c) v ≡ Ok n → Allowed form string
word_case form string c v n None is = either form string c (formed_ok (form || string && c) v n is)
word_case form string c v n (Some k) is = absurd (cc)

pub word_allowed : (form string : Bool) (v : Value) (t : CType) (n : ℕ) → statics.static_word form string v t ≡ Ok n →
    Allowed form string
word_allowed form string v t n is = word_case form string (statics.is_text_pointer t) v n (value_breaks v t) is

pub walked_still : (e : Node) (s new : State) (o : Operand) → StaticNode e →
    Allowed e.written.constant (is_some e.written.string) → e.walk stage.Function s ≡ Ok (o, new) → Still s new
walked_still e s new o h (inl c) is = plain_still s new (h.constant c s new o is)
walked_still e s new o h (inr c) is = plain_still s new (h.string c s new o is)

pub filled_still : (at : ℕ) (bytes : List ℕ) (s new : State) (u : Unit {0}) → statics.fill at bytes s ≡ Ok (u, new) →
    Still s new
filled_still at bytes s new u is =
    let e : record s { image = images.with_bytes at bytes s.image } ≡ new =
    pure_same tt u (record s { image = images.with_bytes at bytes s.image }) new is in
    record {
      scopes = ap (λ (z : State). z.scopes) (sym e);
      functions = ap (λ (z : State). z.functions) (sym e);
      ticks =
          ap (λ (z : State). z.ticks.all) (sym e);
    }

value_case : (line at : ℕ) (t : CType) (form string : Bool) (o : Operand) (s new : State) (u : Unit {0})
    (r : Result ℕ FaultKind) → statics.static_word form string (value_of o) t ≡ r
    → statics.value_by line at t r s ≡ Ok (u, new) → Allowed form string × Still s new
value_case line at t form string o s new u (Ok n) e is =
    (word_allowed form string (value_of o) t n e, filled_still at (statics.bytes_of (width_of t) n) s new u is)
value_case line at t form string o s new u (Err k) e is = absurd (cc)

value_sized : (b : Bool) (line at : ℕ) (t : CType) (form string : Bool) (o : Operand) (s new : State) (u : Unit {0})
    → statics.value_by line at t (if b then statics.static_word form string (value_of o) t else Err fault.BadArray) s ≡
    Ok (u, new) → Allowed form string × Still s new
value_sized true line at t form string o s new u is =
    value_case line at t form string o s new u (statics.static_word form string (value_of o) t) refl is
value_sized false line at t form string o s new u is = absurd (cc)

static_value : (line at : ℕ) (t : CType) (form string : Bool) (o : Operand) (s new : State) (u : Unit {0}) →
    statics.static_value line at t form string o s ≡ Ok (u, new)
    → Allowed form string × Still s new
unfolding statics.static_value
static_value line at t form string o s new u is = value_sized (has_size t) line at t form string o s new u is

walked_value : (line at : ℕ) (t : CType) (e : Node) (s new : State) (u : Unit {0}) → StaticNode e →
    program.static_walked line at t e s ≡ Ok (u, new) → Still s new
walked_value line at t e s new u h is =
    let p : Parts (e.walk stage.Function)
    (λ o. statics.static_value line at t e.written.constant (is_some e.written.string) o) s new u
    = parts (e.walk stage.Function)
    (λ o. statics.static_value line at t e.written.constant (is_some e.written.string) o) s new u is in
    let v : Allowed e.written.constant (is_some e.written.string) × Still p.between new
    = static_value line at t e.written.constant (is_some e.written.string) p.answer p.between new u p.second in
    still_more s p.between new (walked_still e s p.between p.answer h v.0 p.first) v.1

text_case : (b : Bool) (line at : ℕ) (bytes : List ℕ) (s new : State) (u : Unit {0}) →
    (if b then refuse fault.BadArray line else statics.fill at bytes s) ≡ Ok (u, new) → Still s new
text_case true line at bytes s new u is = absurd (cc)
text_case false line at bytes s new u is = filled_still at bytes s new u is

static_text : (line at : ℕ) (t : CType) (bytes : List ℕ) (s new : State) (u : Unit {0}) →
    statics.static_text line at t bytes s ≡ Ok (u, new) → Still s new
unfolding statics.static_text
static_text line at t bytes s new u is =
    text_case (statics.lacks_room (length (bytes ++ 0 ∷ [])) t) line at (bytes ++ 0 ∷ []) s new u is

by_string : (b : Bool) (line at : ℕ) (t : CType) (e : Node) (bytes : List ℕ) (s new : State) (u : Unit {0}) →
    StaticNode e
    → (if b then statics.static_text line at t bytes else program.static_walked line at t e) s ≡ Ok (u, new) →
    Still s new
by_string true line at t e bytes s new u h is = static_text line at t bytes s new u is
by_string false line at t e bytes s new u h is = walked_value line at t e s new u h is

static_by : (line at : ℕ) (t : CType) (e : Node) (o : Option (List ℕ)) (s new : State) (u : Unit {0}) → StaticNode e →
    program.static_by line at t e o s ≡ Ok (u, new) → Still s new
static_by line at t e None s new u h is = walked_value line at t e s new u h is
static_by line at t e (Some bytes) s new u h is = by_string (is_text t) line at t e bytes s new u h is

-- ---- a list of values

row_case : (t : CType) (form string : Bool) (o : Operand) (r : Row) (w : Result ℕ FaultKind) →
    statics.static_word form string (value_of o) t ≡ w
    → (statics.row_by t r w).broken ≡ None → (r.broken ≡ None) × Allowed form string
row_case t form string o r (Ok n) e none = (none, word_allowed form string (value_of o) t n e)
row_case t form string o r (Err k) e none = let z : (r.broken ≡ None) × (Some k ≡ None) =
    none_lower r.broken (Some k) none in absurd (let y : Some k ≡ None = z.1 in cc)

row_more : (t : CType) (form string : Bool) (o : Operand) (r : Row) →
    (statics.row_more t form string o r).broken ≡ None → (r.broken ≡ None) × Allowed form string
unfolding statics.row_more
row_more t form string o r none = row_case t form string o r (statics.static_word form string (value_of o) t) refl none

row_still : (es : List Node) (t : CType) (r q : Row) (s new : State) → EachStatic es →
    program.row es t r s ≡ Ok (q, new) → q.broken ≡ None → (r.broken ≡ None) × Still s new
row_still [] t r q s new h is none =
    (ap (λ (z : Row). z.broken) (pure_value r q s new is) ∙ none, still_same s new (sym (pure_same r q s new is)))
row_still (e ∷ es) t r q s new h is none =
    let p : Parts (e.walk stage.Function)
    (λ o. program.row es t (statics.row_more t e.written.constant (is_some e.written.string) o r)) s new q
    = parts (e.walk stage.Function)
    (λ o. program.row es t (statics.row_more t e.written.constant (is_some e.written.string) o r)) s new q is in
    let rest : ((statics.row_more t e.written.constant (is_some e.written.string) p.answer r).broken ≡ None) ×
    Still p.between new
    = row_still es t (statics.row_more t e.written.constant (is_some e.written.string) p.answer r) q p.between new h.1
    p.second none in
    let one : (r.broken ≡ None) × Allowed e.written.constant (is_some e.written.string) =
    row_more t e.written.constant (is_some e.written.string) p.answer r rest.0 in
    (one.0, still_more s p.between new (walked_still e s p.between p.answer h.0 one.1 p.first) rest.1)

breaks_case : (a b : Bool) (r : Row) →
    (if a then (if b then lower r.broken (Some fault.BadArray) else r.broken) else Some fault.BadArray) ≡ None →
    r.broken ≡ None
breaks_case true true r none = (none_lower r.broken (Some fault.BadArray) none).0
breaks_case true false r none = none
breaks_case false b r none = absurd (cc)

list_case : (line at : ℕ) (bytes : List ℕ) (o : Option FaultKind) (s new : State) (u : Unit {0}) →
    statics.list_by line at bytes o s ≡ Ok (u, new) → (o ≡ None) × Still s new
list_case line at bytes None s new u is = (refl, filled_still at bytes s new u is)
list_case line at bytes (Some k) s new u is = absurd (cc)

list_end : (line at : ℕ) (t : CType) (count : ℕ) (r : Row) (s new : State) (u : Unit {0}) →
    statics.static_list line at t count r s ≡ Ok (u, new) → (r.broken ≡ None) × Still s new
unfolding statics.static_list
list_end line at t count r s new u is =
    let l : (statics.row_breaks count t r ≡ None) × Still s new =
    list_case line at r.bytes (statics.row_breaks count t r) s new u is in
    (breaks_case (has_size t) (statics.is_too_long count t) r l.0, l.1)

static_list : (line at : ℕ) (t : CType) (es : List Node) (s new : State) (u : Unit {0}) → EachStatic es →
    program.static_list line at t es s ≡ Ok (u, new) → Still s new
static_list line at t es s new u h is =
    let p : Parts (program.row es (inner t) (statics.row_begun t)) (λ r. statics.static_list line at t (length es) r) s
    new u
    = parts (program.row es (inner t) (statics.row_begun t)) (λ r. statics.static_list line at t (length es) r) s new u
    is in
    let l : (p.answer.broken ≡ None) × Still p.between new =
    list_end line at t (length es) p.answer p.between new u p.second in
    let r : ((statics.row_begun t).broken ≡ None) × Still s p.between =
    row_still es (inner t) (statics.row_begun t) p.answer s p.between h p.first l.0 in
    still_more s p.between new r.1 l.1

-- a global's beginning
pub begin_still : (line at : ℕ) (t : CType) (start : Start) (s new : State) (u : Unit {0}) → StaticStart start →
    program.static_begin line at t start s ≡ Ok (u, new) → Still s new
begin_still line at t Nothing s new u h is = still_same s new (sym (pure_same tt u s new is))
begin_still line at t (One e) s new u h is = static_by line at t e e.written.string s new u h is
begin_still line at t (Values es) s new u h is = static_list line at t es s new u h is

-- a prototype has none
pub no_start : (line : ℕ) (start : Start) (s new : State) (u : Unit {0}) → program.no_start line start s ≡ Ok (u, new) →
    Still s new
no_start line Nothing s new u is = still_same s new (sym (pure_same tt u s new is))
no_start line (One e) s new u is =
    let p : Parts (e.walk stage.Function) (λ o. lift (refuse fault.TypeMismatch line)) s new u =
    parts (e.walk stage.Function) (λ o. lift (refuse fault.TypeMismatch line)) s new u is in
    absurd (let q = p.second in cc)
no_start line (Values es) s new u is =
    let p : Parts (program.walked es) (λ o. lift (refuse fault.TypeMismatch line)) s new u =
    parts (program.walked es) (λ o. lift (refuse fault.TypeMismatch line)) s new u is in
    absurd (let q = p.second in cc)
