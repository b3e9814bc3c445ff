-- What a global's beginning leaves of the image: the bytes of the globals reach no further than the global does.
use Rattle.std.proofs.Common.{◌≡◌, ℕ, suc, ◌+◌, ◌*◌, ◌-◌, ◌≤◌, Bool, true, false, not, ◌||◌, nat_le, nat_lt}
use Rattle.std.proofs.Common.{if◌then◌else◌, refl, ap, sym, ◌∙◌, subst, List, [], ◌∷◌, ◌++◌, length, replicate, Option}
use Rattle.std.proofs.Common.{Some, None, is_some, Result, Ok, Err, ◌⊎◌, inl, inr, arith, suc-mul, zero-mul, add_comm}
use Rattle.std.proofs.lemmas.Bool.Decides.{nat_tests}
use Rattle.std.proofs.Math.ListN.{length-replicate, length-append}
use Rattle.word32.specs.declared.map.TheConstants.{GLOBAL_BYTES}
use Rattle.word32.specs.declared.width.Width.{Width}
use Rattle.word32.specs.declared.width.Width.TheVariants as width
use Rattle.c_types.specs.declared.ctype.CType.{CType}
use Rattle.c_type_refs.specs.Sizes.{limited_size}
use Rattle.check_declarators.specs.Making.{lower}
use Rattle.check_types.specs.Shapes.{inner, width_of}
use Rattle.tick_tree.specs.declared.fault.FaultKind.{FaultKind}
use Rattle.tick_tree.specs.declared.fault.FaultKind.TheVariants as fault
use Rattle.tick_tree.specs.Faults.{refuse}
use Rattle.check_operands.specs.declared.operand.Operand.{Operand}
use Rattle.check_operands.specs.Operands.{value_of}
use Rattle.check_rules.specs.declared.image.Image.{Image}
use Rattle.check_rules.specs.Images as images
use Rattle.check_rules.specs.declared.state.Stage.TheVariants as stage
use Rattle.check_rules.specs.declared.state.State.{State}
use Rattle.check_rules.specs.ExpressionRules.{Node}
use Rattle.check_rules.specs.Initializers.{is_text, is_array, has_size}
use Rattle.check_globals.specs.declared.statics.Row.{Row}
use Rattle.check_globals.specs.Names.{size_by}
use Rattle.check_globals.specs.Statics as statics
use Rattle.check_rules.specs.Walk.{Start, Nothing, Value as One, Values}
use Rattle.check_globals.specs.Program as program
use Rattle.wf_walk.specs.Kept.{KeepsGlobals}
use Rattle.wf_walk.proofs.Walks.{pure_same, pure_value}
use Rattle.wf_walk.proofs.Keeps.{globals_refl}
use Rattle.wf_programs.proofs.Declared.{none_lower}
use Rattle.wf_programs.proofs.Steps.{Parts, parts}
use Rattle.wf_programs.proofs.Still.{Allowed, word_allowed, StaticNode, EachStatic, StaticStart}

-- how many bytes a global of this type takes
abbrev pub size_of : CType → ℕ
size_of t = size_by (limited_size t)

-- how many bytes a static value of this type has
abbrev pub bytes_in : CType → ℕ
bytes_in t = length (statics.bytes_of (width_of t) 0)

-- some value has this type
pub record HasValue (t : CType) : Type 0 where
  pub form : Bool
  pub string : Bool
  pub operand : Operand
  pub word : ℕ
  pub is : statics.static_word form string (value_of operand) t ≡ Ok word

-- the bytes of what a global begins with are no more than its type has
pub record BytesFit (t : CType) : Type 0 where
  pub value : HasValue t → bytes_in t ≤ size_of t
  pub text : is_text t ≡ true → has_size t ≡ true → (n : ℕ) → n ≤ statics.elements_of t → n ≤ size_of t
  pub list : is_array t ≡ true → has_size t ≡ true → HasValue (inner t) → (n : ℕ) → n ≤ statics.elements_of t →
      n * bytes_in (inner t) ≤ size_of t

-- ---- one fill

-- the globals reach no further than so many bytes behind their place
pub record Filled (at size : ℕ) (s new : State) : Type 0 where
  pub end : new.image.end ≡ s.image.end
  pub strings : new.image.strings_at ≡ s.image.strings_at
  pub globals : (k : ℕ) → length s.image.globals ≤ k → at ≤ k → length new.image.globals ≤ k + size

pub up_to_is : (n : ℕ) (bytes : List ℕ) → length (images.up_to n bytes) ≡ length bytes + (n - length bytes)
up_to_is n bytes = length-append bytes (replicate (n - length bytes) 0) ∙
    ap (λ (m : ℕ). length bytes + m) (length-replicate (n - length bytes) 0)

up_to_both : (n : ℕ) (bytes more : List ℕ) →
    length (images.up_to n bytes ++ more) ≡ (length bytes + (n - length bytes)) + length more
up_to_both n bytes more = length-append (images.up_to n bytes) more ∙ ap (λ (m : ℕ). m + length more) (up_to_is n bytes)

sum_below : (g n m k : ℕ) → g ≤ k → n ≤ k → (g + (n - g)) + m ≤ k + m
sum_below g n m k h e = omega arith

filled_case : (at : ℕ) (bytes : List ℕ) (i : Image) (b : Bool) (k : ℕ) → length i.globals ≤ k → at ≤ k
    → length (if b then record i { globals = images.up_to at i.globals ++ bytes } else i).globals ≤ k + length bytes
filled_case at bytes i true k h e =
    subst (λ (n : ℕ). n ≤ k + length bytes) (sym (up_to_both at i.globals bytes))
    (sum_below (length i.globals) at (length bytes) k h e)
filled_case at bytes i false k h e = let z : length i.globals ≤ k + length bytes = omega arith in z

end_case : (at : ℕ) (bytes : List ℕ) (i : Image) (b : Bool) →
    (if b then record i { globals = images.up_to at i.globals ++ bytes } else i).end ≡ i.end
end_case at bytes i true = refl
end_case at bytes i false = refl

strings_case : (at : ℕ) (bytes : List ℕ) (i : Image) (b : Bool) →
    (if b then record i { globals = images.up_to at i.globals ++ bytes } else i).strings_at ≡ i.strings_at
strings_case at bytes i true = refl
strings_case at bytes i false = refl

filled : (at size : ℕ) (bytes : List ℕ) (s new : State) (u : Unit {0}) → length bytes ≤ size →
    statics.fill at bytes s ≡ Ok (u, new) → Filled at size s new
filled at size bytes s new u few is =
    let e : record s { image = images.with_bytes at bytes s.image } ≡ new =
    pure_same tt u (record s { image = images.with_bytes at bytes s.image }) new is in
    subst (λ (z : State). Filled at size s z) e
    (record {
      end = end_case at bytes s.image (nat_le at GLOBAL_BYTES);
      strings = strings_case at bytes s.image (nat_le at GLOBAL_BYTES);
      globals = λ k h w. let l : length (images.with_bytes at bytes s.image).globals ≤ k + length bytes =
          filled_case at bytes s.image (nat_le at GLOBAL_BYTES) k h w in omega arith;
    })

pub none_filled : (at size : ℕ) (s : State) → Filled at size s s
none_filled at size s = record { end = refl; strings = refl; globals = λ k h w. omega arith }

pub kept_filled : (at size : ℕ) (s m new : State) → KeepsGlobals s m → Filled at size m new → Filled at size s new
kept_filled at size s m new k f = record {
  end = f.end ∙ k.end;
  strings = f.strings ∙ k.at;
  globals = λ n h w. f.globals n (subst (λ (l : List ℕ). length l ≤ n) (sym k.globals) h) w;
}

pub keeps_same : (s new : State) → new ≡ s → KeepsGlobals s new
keeps_same s new e = subst (λ (z : State). KeepsGlobals s z) (sym e) (globals_refl s)

pub keeps_more : (s m new : State) → KeepsGlobals s m → KeepsGlobals m new → KeepsGlobals s new
keeps_more s m new p q = record { end = q.end ∙ p.end; globals = q.globals ∙ p.globals; at = q.at ∙ p.at }

-- ---- one value

walked_keeps : (e : Node) (s new : State) (o : Operand) → StaticNode e →
    Allowed e.written.constant (is_some e.written.string) → e.walk stage.Function s ≡ Ok (o, new) → KeepsGlobals s new
walked_keeps e s new o h (inl c) is = (h.constant c s new o is).tables.image
walked_keeps e s new o h (inr c) is = (h.string c s new o is).tables.image

same_bytes : (w : Width) (n : ℕ) → length (statics.bytes_of w n) ≡ length (statics.bytes_of w 0)
same_bytes width.SignedByte n = refl
same_bytes width.Byte n = refl
same_bytes width.SignedHalf n = refl
same_bytes width.Half n = refl
same_bytes width.Word n = refl

value_case : (line at : ℕ) (t : CType) (form string : Bool) (o : Operand) (s new : State) (u : Unit {0})
    (r : Result ℕ FaultKind) → BytesFit t → statics.static_word form string (value_of o) t ≡ r
    → statics.value_by line at t r s ≡ Ok (u, new) → Allowed form string × Filled at (size_of t) s new
value_case line at t form string o s new u (Ok n) fit e is =
    let few : bytes_in t ≤ size_of t =
    fit.value (record { form = form; string = string; operand = o; word = n; is = e }) in
    let same : length (statics.bytes_of (width_of t) n) ≡ bytes_in t = same_bytes (width_of t) n in (
      word_allowed form string (value_of o) t n e,
      filled at (size_of t) (statics.bytes_of (width_of t) n) s new u (omega arith) is,
    )
value_case line at t form string o s new u (Err k) fit e is = absurd (cc)

value_sized : (b : Bool) (line at : ℕ) (t : CType) (form string : Bool) (o : Operand) (s new : State) (u : Unit {0}) →
    BytesFit t
    → statics.value_by line at t (if b then statics.static_word form string (value_of o) t else Err fault.BadArray) s ≡
    Ok (u, new) → Allowed form string × Filled at (size_of t) s new
value_sized true line at t form string o s new u fit is =
    value_case line at t form string o s new u (statics.static_word form string (value_of o) t) fit refl is
value_sized false line at t form string o s new u fit is = absurd (cc)

static_value : (line at : ℕ) (t : CType) (form string : Bool) (o : Operand) (s new : State) (u : Unit {0}) →
    BytesFit t → statics.static_value line at t form string o s ≡ Ok (u, new)
    → Allowed form string × Filled at (size_of t) s new
unfolding statics.static_value
static_value line at t form string o s new u fit is = value_sized (has_size t) line at t form string o s new u fit is

walked_value : (line at : ℕ) (t : CType) (e : Node) (s new : State) (u : Unit {0}) → StaticNode e → BytesFit t →
    program.static_walked line at t e s ≡ Ok (u, new) → Filled at (size_of t) s new
walked_value line at t e s new u h fit is =
    let p : Parts (e.walk stage.Function)
    (λ o. statics.static_value line at t e.written.constant (is_some e.written.string) o) s new u
    = parts (e.walk stage.Function)
    (λ o. statics.static_value line at t e.written.constant (is_some e.written.string) o) s new u is in
    let v : Allowed e.written.constant (is_some e.written.string) × Filled at (size_of t) p.between new
    = static_value line at t e.written.constant (is_some e.written.string) p.answer p.between new u fit p.second in
    kept_filled at (size_of t) s p.between new (walked_keeps e s p.between p.answer h v.0 p.first) v.1

not_less : (m n : ℕ) → nat_lt m n ≡ false → n ≤ m
not_less m n h = grind (arith, nat_tests)

not_long : (count : ℕ) (t : CType) → statics.is_too_long count t ≡ false → count ≤ statics.elements_of t
not_long count t h = not_less (statics.elements_of t) count h

room_case : (a c : Bool) → (not a || c) ≡ false → (a ≡ true) × (c ≡ false)
room_case true c h = (refl, h)
room_case false c h = absurd (cc)

text_case : (b : Bool) (line at : ℕ) (t : CType) (bytes : List ℕ) (s new : State) (u : Unit {0}) → BytesFit t →
    is_text t ≡ true → statics.lacks_room (length bytes) t ≡ b
    → (if b then refuse fault.BadArray line else statics.fill at bytes s) ≡ Ok (u, new) → Filled at (size_of t) s new
text_case true line at t bytes s new u fit text e is = absurd (cc)
text_case false line at t bytes s new u fit text e is =
    let r : (has_size t ≡ true) × (statics.is_too_long (length bytes) t ≡ false) =
    room_case (has_size t) (statics.is_too_long (length bytes) t) e in
    filled at (size_of t) bytes s new u (fit.text text r.0 (length bytes) (not_long (length bytes) t r.1)) is

static_text : (line at : ℕ) (t : CType) (bytes : List ℕ) (s new : State) (u : Unit {0}) → BytesFit t →
    is_text t ≡ true → statics.static_text line at t bytes s ≡ Ok (u, new) → Filled at (size_of t) s new
unfolding statics.static_text
static_text line at t bytes s new u fit text is =
    text_case (statics.lacks_room (length (bytes ++ 0 ∷ [])) t) line at t (bytes ++ 0 ∷ []) s new u fit text refl is

by_string : (b : Bool) (line at : ℕ) (t : CType) (e : Node) (bytes : List ℕ) (s new : State) (u : Unit {0}) →
    StaticNode e → BytesFit t → is_text t ≡ b
    → (if b then statics.static_text line at t bytes else program.static_walked line at t e) s ≡ Ok (u, new) →
    Filled at (size_of t) s new
by_string true line at t e bytes s new u h fit text is = static_text line at t bytes s new u fit text is
by_string false line at t e bytes s new u h fit text is = walked_value line at t e s new u h fit is

static_by : (line at : ℕ) (t : CType) (e : Node) (o : Option (List ℕ)) (s new : State) (u : Unit {0}) → StaticNode e →
    BytesFit t → program.static_by line at t e o s ≡ Ok (u, new) → Filled at (size_of t) s new
static_by line at t e None s new u h fit is = walked_value line at t e s new u h fit is
static_by line at t e (Some bytes) s new u h fit is = by_string (is_text t) line at t e bytes s new u h fit refl is

-- ---- a list of values

-- a row that breaks nothing has the bytes of each value
pub record RowRan (es : List Node) (t : CType) (r q : Row) (s new : State) : Type 0 where
  pub broken : r.broken ≡ None
  pub bytes : length q.bytes ≡ length r.bytes + length es * bytes_in t
  pub value : (es ≡ []) ⊎ HasValue t
  pub keeps : KeepsGlobals s new

record OneMore (t : CType) (form string : Bool) (o : Operand) (r q : Row) : Type 0 where
  broken : r.broken ≡ None
  bytes : length q.bytes ≡ length r.bytes + bytes_in t
  value : HasValue t

row_case : (t : CType) (form string : Bool) (o : Operand) (r : Row) (w : Result ℕ FaultKind) →
    statics.static_word form string (value_of o) t ≡ w
    → (statics.row_by t r w).broken ≡ None → OneMore t form string o r (statics.row_by t r w)
row_case t form string o r (Ok n) e none = record {
  broken = none;
  bytes = length-append r.bytes (statics.bytes_of (width_of t) n) ∙
      ap (λ (k : ℕ). length r.bytes + k) (same_bytes (width_of t) n);
  value = record { form = form; string = string; operand = o; word = n; is = e };
}
row_case t form string o r (Err k) e none = let z : (r.broken ≡ None) × (Some k ≡ None) =
    none_lower r.broken (Some k) none in absurd (let y : Some k ≡ None = z.1 in cc)

row_more : (t : CType) (form string : Bool) (o : Operand) (r : Row) →
    (statics.row_more t form string o r).broken ≡ None → OneMore t form string o r (statics.row_more t form string o r)
unfolding statics.row_more
row_more t form string o r none = row_case t form string o r (statics.static_word form string (value_of o) t) refl none

allowed_case : (t : CType) (form string : Bool) (o : Operand) (r : Row) (w : Result ℕ FaultKind) →
    statics.static_word form string (value_of o) t ≡ w
    → (statics.row_by t r w).broken ≡ None → Allowed form string
allowed_case t form string o r (Ok n) e none = word_allowed form string (value_of o) t n e
allowed_case t form string o r (Err k) e none = let z : (r.broken ≡ None) × (Some k ≡ None) =
    none_lower r.broken (Some k) none in absurd (let y : Some k ≡ None = z.1 in cc)

one_allowed : (t : CType) (e : Node) (o : Operand) (r : Row) →
    (statics.row_more t e.written.constant (is_some e.written.string) o r).broken ≡ None →
    Allowed e.written.constant (is_some e.written.string)
unfolding statics.row_more
one_allowed t e o r none =
    allowed_case t e.written.constant (is_some e.written.string) o r
    (statics.static_word e.written.constant (is_some e.written.string) (value_of o) t) refl none

times_more : (n b : ℕ) → suc n * b ≡ b + n * b
times_more n b = suc-mul n b ∙ add_comm (n * b) b

row_ran : (es : List Node) (t : CType) (r q : Row) (s new : State) → EachStatic es →
    program.row es t r s ≡ Ok (q, new) → q.broken ≡ None → RowRan es t r q s new
row_ran [] t r q s new h is none = record {
  broken = ap (λ (z : Row). z.broken) (pure_value r q s new is) ∙ none;
  bytes = ap (λ (z : Row). length z.bytes) (sym (pure_value r q s new is)) ∙
      (let z : length r.bytes ≡ length r.bytes + 0 * bytes_in t =
      (let y : 0 * bytes_in t ≡ 0 = zero-mul (bytes_in t) in omega arith) in z);
  value = inl refl;
  keeps = keeps_same s new (sym (pure_same r q s new is));
}
row_ran (e ∷ es) t r q s new h is none =
    let p : Parts (e.walk stage.Function)
    (λ o. program.row es t (statics.row_more t e.written.constant (is_some e.written.string) o r)) s new q
    = parts (e.walk stage.Function)
    (λ o. program.row es t (statics.row_more t e.written.constant (is_some e.written.string) o r)) s new q is in
    let rest : RowRan es t (statics.row_more t e.written.constant (is_some e.written.string) p.answer r) q p.between new
    = row_ran es t (statics.row_more t e.written.constant (is_some e.written.string) p.answer r) q p.between new h.1
    p.second none in
    let one : OneMore t e.written.constant (is_some e.written.string) p.answer r
    (statics.row_more t e.written.constant (is_some e.written.string) p.answer r)
    = row_more t e.written.constant (is_some e.written.string) p.answer r rest.broken in
    let a : length q.bytes ≡ length (statics.row_more t e.written.constant (is_some e.written.string) p.answer r).bytes
    + length es * bytes_in t = rest.bytes in
    let b : length (statics.row_more t e.written.constant (is_some e.written.string) p.answer r).bytes ≡ length r.bytes
    + bytes_in t = one.bytes in
    let c : suc (length es) * bytes_in t ≡ bytes_in t + length es * bytes_in t = times_more (length es) (bytes_in t) in
    record {
      broken = one.broken;
      bytes = omega arith;
      value = inr one.value;
      keeps = keeps_more s p.between new
          (walked_keeps e s p.between p.answer h.0 (one_allowed t e p.answer r rest.broken) p.first) rest.keeps;
    }

pub record Ended (count : ℕ) (t : CType) (r : Row) : Type 0 where
  pub broken : r.broken ≡ None
  pub sized : has_size t ≡ true
  pub short : count ≤ statics.elements_of t

breaks_case : (a b : Bool) (count : ℕ) (t : CType) (r : Row) → has_size t ≡ a → statics.is_too_long count t ≡ b
    → (if a then (if b then lower r.broken (Some fault.BadArray) else r.broken) else Some fault.BadArray) ≡ None →
    Ended count t r
breaks_case true true count t r d e none =
    absurd (let z : Some fault.BadArray ≡ None = (none_lower r.broken (Some fault.BadArray) none).1 in cc)
breaks_case true false count t r d e none = record { broken = none; sized = d; short = not_long count t e }
breaks_case false b count t r d e none = absurd (cc)

array_case : (b : Bool) → (if b then None else Some fault.TypeMismatch) ≡ None → b ≡ true
array_case true none = refl
array_case false none = absurd (cc)

few_by : (t : CType) (es : List Node) (n : ℕ) → BytesFit t → has_size t ≡ true → length es ≤ statics.elements_of t →
    is_array t ≡ true → n ≡ 0 + length es * bytes_in (inner t) → (es ≡ []) ⊎ HasValue (inner t) → n ≤ size_of t
few_by t es n fit sized short array e (inr v) = let z : length es * bytes_in (inner t) ≤ size_of t =
    fit.list array sized v (length es) short in omega arith
few_by t es n fit sized short array e (inl none) =
    let z : length es * bytes_in (inner t) ≡ 0 =
    ap (λ (l : List Node). length l * bytes_in (inner t)) none ∙ zero-mul (bytes_in (inner t)) in omega arith

row_few : (t : CType) (es : List Node) (q : Row) (s m : State) → BytesFit t → Ended (length es) t q →
    RowRan es (inner t) (statics.row_begun t) q s m → length q.bytes ≤ size_of t
row_few t es q s m fit end r =
    few_by t es (length q.bytes) fit end.sized end.short (array_case (is_array t) r.broken) r.bytes r.value

list_case : (line at : ℕ) (t : CType) (es : List Node) (q : Row) (o : Option FaultKind) (s m new : State) (u : Unit {0})
    → EachStatic es → BytesFit t
    → program.row es (inner t) (statics.row_begun t) s ≡ Ok (q, m) → statics.row_breaks (length es) t q ≡ o →
    statics.list_by line at q.bytes o m ≡ Ok (u, new) → Filled at (size_of t) s new
list_case line at t es q None s m new u h fit row e is =
    let end : Ended (length es) t q =
    breaks_case (has_size t) (statics.is_too_long (length es) t) (length es) t q refl refl e in
    let r : RowRan es (inner t) (statics.row_begun t) q s m =
    row_ran es (inner t) (statics.row_begun t) q s m h row end.broken in
    kept_filled at (size_of t) s m new r.keeps (filled at (size_of t) q.bytes m new u (row_few t es q s m fit end r) is)
list_case line at t es q (Some k) s m new u h fit row e is = absurd (cc)

list_end : (line at : ℕ) (t : CType) (es : List Node) (q : Row) (s m new : State) (u : Unit {0}) → EachStatic es →
    BytesFit t
    → program.row es (inner t) (statics.row_begun t) s ≡ Ok (q, m) →
    statics.static_list line at t (length es) q m ≡ Ok (u, new) → Filled at (size_of t) s new
unfolding statics.static_list
list_end line at t es q s m new u h fit row is =
    list_case line at t es q (statics.row_breaks (length es) t q) s m new u h fit row refl is

static_list : (line at : ℕ) (t : CType) (es : List Node) (s new : State) (u : Unit {0}) → EachStatic es → BytesFit t →
    program.static_list line at t es s ≡ Ok (u, new) → Filled at (size_of t) s new
static_list line at t es s new u h fit is =
    let p : Parts (program.row es (inner t) (statics.row_begun t)) (λ r. statics.static_list line at t (length es) r) s
    new u
    = parts (program.row es (inner t) (statics.row_begun t)) (λ r. statics.static_list line at t (length es) r) s new u
    is in
    list_end line at t es p.answer s p.between new u h fit p.first p.second

-- a global's beginning
pub begin_filled : (line at : ℕ) (t : CType) (start : Start) (s new : State) (u : Unit {0}) → StaticStart start →
    BytesFit t → program.static_begin line at t start s ≡ Ok (u, new) → Filled at (size_of t) s new
begin_filled line at t Nothing s new u h fit is =
    subst (λ (z : State). Filled at (size_of t) s z) (pure_same tt u s new is) (none_filled at (size_of t) s)
begin_filled line at t (One e) s new u h fit is = static_by line at t e e.written.string s new u h fit is
begin_filled line at t (Values es) s new u h fit is = static_list line at t es s new u h fit is
