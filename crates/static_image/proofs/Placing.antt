-- Functions one behind another: how long they are, and that each stands at its address in the text.
use Rattle.std.proofs.Common.{◌≡◌, ℕ, zero, suc, ◌+◌, ◌*◌, ◌%◌, ◌≤◌, Bool, true, false, List, []}
use Rattle.std.proofs.Common.{◌∷◌, ◌++◌, length}
use Rattle.std.proofs.Common.{Option, None, Some, refl, sym, ap, ◌∙◌, subst, arith, append_assoc}
use Rattle.std.proofs.Common.{length-append, nat_eq, if◌then◌else◌, slice_get, slice_index}
use Rattle.std.proofs.lemmas.Bool.{eqb-true, eq-eqb, ne_eqb}
use Rattle.word32.specs.declared.map.TheConstants.{ARENA, FUNCTIONS, TEXT}
use Rattle.icode_ops.specs.declared.op.Op.{Op}
use Rattle.icode_ops.specs.declared.op.Op.TheVariants as op
use Rattle.icode_ops.specs.Flow.{op_at}
use Rattle.icode_ir.specs.Build.{Build, empty}
use Rattle.icode_ir.specs.Runs.{run_ops}
use Rattle.icode_ir.specs.Sound.{Each}
use Rattle.icode_templates.specs.Layout.{Layout, laid}
use Rattle.icode_templates.specs.Words.{words}
use Rattle.icode_templates.specs.Expansion as expansion
use Rattle.icode_templates.specs.Expansion.{expanded, templates}
use Rattle.icode_templates.specs.Frames.{prologue}
use Rattle.icode_saves.specs.Places.{saved}
use Rattle.icode_expand.proofs.Lengths.{length_words, past_is, templates_append}
use Rattle.icode_expand.proofs.Most.{code_most}
use Rattle.icode_expand.proofs.Written.{whole_length}
use Rattle.mips_model.specs.State.{Code}
use Rattle.mips_encoder.specs.Addresses.{past}
use Rattle.mips_model.proofs.Loaded.{loaded}
use Rattle.icode_meaning.specs.State.{Function}
use Rattle.icode_expand_proof.specs.Standing as standing
use Rattle.icode_expand_proof.specs.Standing.{Suits, Stands}
use Rattle.icode_expand_proof.specs.Served.{IsServed}
use Rattle.icode_expand_proof.proofs.Suiting.{suit}
use Rattle.icode_expand_proof.proofs.Fitting.{function_stands}
use Rattle.typed_tree.specs.Nodes as node
use Rattle.staged_meaning.specs.Size.{size_of, charge_of}
use Rattle.tick_lower_spec.specs.Lower.{Addresses, function_ops}
use Rattle.tick_lower_proof.proofs.Sizes as sizes
use Rattle.limits.specs.declared.program.TheConstants.{WORDS_OF_A_BODY, WORDS_OF_A_NODE}
use Rattle.static_image.specs.Layout.{Placed, ops_of, registers_in, words_of, unknown, length_of, behind, starts}
use Rattle.static_image.specs.Layout.{words_from, ends, functions_of, IsLegalChoice}
use Rattle.typed_tree.specs.declared.expression.CaptureKind.{CaptureKind}
use Rattle.static_image.specs.Served.{IsStatic, most_words}
use Rattle.static_image.proofs.Arriving as start
use Rattle.static_image.proofs.Serving.{AreLow, ops_served}
use Rattle.static_image.proofs.Unaddressed.{code_length}

abbrev pub Static : List node.Function → List (List CaptureKind) → Placed → Type 0
Static fs kinds x = IsStatic fs kinds x.function

pub each_static : (fs : List node.Function) (kinds : List (List CaptureKind)) (xs : List Placed) →
    Each (IsStatic fs kinds) (functions_of xs) → Each (Static fs kinds) xs
each_static fs kinds [] h = tt
each_static fs kinds (x ∷ xs) h = (h.0, each_static fs kinds xs h.1)

-- a function's words are as many wherever it and those that it calls stand
pub length_is : (d : Addresses) (at : ℕ) (x : Placed) → length (words_of d at x) ≡ length_of x
length_is d at x =
    let charge = charge_of (size_of x.function) in
    let object = x.function.object in
    let here = whole_length (ops_of d x) x.places at charge object false in
    let there = whole_length (ops_of unknown x) x.places FUNCTIONS charge object false in
    let same = code_length d unknown x.function (laid x.places charge object) expansion.nowhere in
    omega (arith, here, there, same)

-- the code with a last return
last_more : (os : List Op) (places : List ℕ) (at charge object : ℕ)
    → length (expanded (os ++ op.ReturnZero ∷ []) places at charge object false) ≡ length
    (expanded os places at charge object false) + 3
last_more os places at charge object =
    let l : Layout = laid places charge object in
    let whole = whole_length (os ++ op.ReturnZero ∷ []) places at charge object false in
    let part = whole_length os places at charge object false in
    let a = ap length (templates_append l expansion.nowhere os (op.ReturnZero ∷ [])) in
    let b = length-append (templates l expansion.nowhere os) (templates l expansion.nowhere (op.ReturnZero ∷ [])) in
    omega (arith, whole, part, a, b)

-- at most so many words a node, and so many besides
pub few_words : (fs : List node.Function) (kinds : List (List CaptureKind)) (x : Placed) → Static fs kinds x →
    length_of x ≤ WORDS_OF_A_NODE * size_of x.function + WORDS_OF_A_BODY
few_words fs kinds x static =
    let charge = charge_of (size_of x.function) in
    let object = x.function.object in
    let b : Build = run_ops (function_ops unknown x.function) (empty x.function.parameters) in
    let os = b.prelude ++ b.ops in
    let more = last_more os x.places FUNCTIONS charge object in
    let most = code_most os x.places FUNCTIONS charge object false in
    let same = length_words (expansion.expansion os x.places FUNCTIONS charge object false) in
    let few = (sizes.small unknown x.function static.ready.ready).few_ops in
    let one = length-append os (op.ReturnZero ∷ []) in
    omega (arith, more, most, same, few, one)

-- and it has a word
pub some_words : (x : Placed) → 1 ≤ length_of x
some_words x =
    let charge = charge_of (size_of x.function) in
    let object = x.function.object in
    let whole = whole_length (ops_of unknown x) x.places FUNCTIONS charge object false in
    let first : 1 ≤ length (words (prologue charge object (saved x.places) false)) = omega arith in
    omega (arith, whole, first)

-- ---- the address behind all of them

pub ends_most : (fs : List node.Function) (kinds : List (List CaptureKind)) (at : ℕ) (xs : List Placed) →
    Each (Static fs kinds) xs → ends at xs ≤ at + 4 * most_words (functions_of xs)
ends_most fs kinds at [] h = omega arith
ends_most fs kinds at (x ∷ xs) h =
    omega (arith, ends_most fs kinds (behind at x) xs h.1, few_words fs kinds x h.0)

pub ends_rise : (at : ℕ) (xs : List Placed) → at ≤ ends at xs
ends_rise at [] = omega arith
ends_rise at (x ∷ xs) = omega (arith, ends_rise (behind at x) xs)

-- the address of each is none behind that
pub starts_low : (at : ℕ) (xs : List Placed) (k : ℕ) → slice_index (starts at xs) k ≤ ends at xs
starts_low at [] k = omega arith
starts_low at (x ∷ xs) zero = ends_rise at (x ∷ xs)
starts_low at (x ∷ xs) (suc k) = starts_low (behind at x) xs k

pub ends_at : (d : Addresses) (at : ℕ) (xs : List Placed) →
    ends at xs ≡ at + 4 * length (words_from d at xs)
ends_at d at [] = omega arith
ends_at d at (x ∷ xs) =
    let rest = ends_at d (behind at x) xs in
    let one = length_is d at x in
    let two = length-append (words_of d at x) (words_from d (behind at x) xs) in
    omega (arith, rest, one, two)

-- ---- the functions of the staged machine

abbrev pub staged : Addresses → (at : ℕ) → Placed → Function
staged d at x = record {
  address = at;
  ops = ops_of d x;
  charge = charge_of (size_of x.function);
  object = x.function.object;
  compiled = false;
}

-- the function at an address, and its places
abbrev pub function_in : Addresses → (at : ℕ) → List Placed → ℕ → Option Function
function_in d at [] a = None
function_in d at (x ∷ xs) a = if nat_eq a at then Some (staged d at x) else function_in d (behind at x) xs a

abbrev pub places_in : (at : ℕ) → List Placed → ℕ → List ℕ
places_in at [] a = []
places_in at (x ∷ xs) a = if nat_eq a at then x.places else places_in (behind at x) xs a

-- what is known of one that is found
pub record IsThere (c : Code) (a : ℕ) (f : Function) (places : List ℕ) : Type 0 where
  pub address : f.address ≡ a
  pub stands : Stands c f places
  pub served : (p : ℕ) → IsServed (op_at f.ops p)
  pub whole : f.object % 4 ≡ 0
  pub below : past a (standing.code_of f places) ≤ ARENA

module _ (fs : List node.Function) (kinds : List (List CaptureKind)) (d : Addresses) (low_calls : AreLow d kinds) where
  pub suits : (at : ℕ) (x : Placed) → Static fs kinds x → IsLegalChoice d x → at % 4 ≡ 0 →
      at + 4 * length_of x ≤ ARENA →
      Suits (staged d at x) x.places
  suits at x static legal even low =
      let ready = static.ready.ready in
      let small = sizes.small d x.function ready in
      suit (staged d at x) (registers_in d x) x.places small.finished legal (omega (arith, small.few_registers))
      (omega arith)
      (omega (arith, ready.small)) (omega (arith, static.ready.short)) even
      (omega (arith, small.few_ops, ready.small, low))

  -- its code ends where its words end
  pub code_behind : (at : ℕ) (x : Placed) → past at (standing.code_of (staged d at x) x.places) ≡ behind at x
  code_behind at x =
      let is = standing.code_of (staged d at x) x.places in
      let a = past_is at is in
      let b = length_words is in
      let n = length_is d at x in
      omega (arith, a, b, n)

  one_stands : (pre rest : List ℕ) (at : ℕ) (x : Placed) → at ≡ TEXT + 4 * length pre → Static fs kinds x →
      IsLegalChoice d x → behind at x ≤ ARENA
      → IsThere (loaded (pre ++ (words_of d at x ++ rest))) at (staged d at x) x.places
  one_stands pre rest at x is static legal low =
      let served = ops_served fs d kinds low_calls x.function static in
      let ends = code_behind at x in
      record {
        address = refl;
        stands = function_stands (loaded (pre ++ (words_of d at x ++ rest))) (staged d at x) x.places
            (suits at x static legal (omega (arith, is)) low) served (omega (arith, ends, low))
            (start.words_there pre (words_of d at x) rest at is);
        served = served;
        whole = static.ready.whole;
        below = omega (arith, ends, low);
      }

  -- whether the first of functions has the address settles which one is found
  by_first : (c : Code) (at : ℕ) (x : Placed) (a : ℕ) (f : Function) (later : Option Function) (others : List ℕ) →
      IsThere c at (staged d at x) x.places
      → (later ≡ Some f → IsThere c a f others)
      → (if nat_eq a at then Some (staged d at x) else later) ≡ Some f →
      IsThere c a f (if nat_eq a at then x.places else others)
  by_first c at x a f later others here there = by (nat_eq a at) refl
    where
      by : (b : Bool) → nat_eq a at ≡ b → (if b then Some (staged d at x) else later) ≡ Some f →
          IsThere c a f (if b then x.places else others)
      by true t e =
          let f_is : staged d at x ≡ f = cc in
          subst (λ (n : ℕ). IsThere c n f x.places) (sym (eqb-true a at t))
          (subst (λ (g : Function). IsThere c at g x.places) f_is here)
      by false t e = there e

  -- each function that is found at an address stands there, whatever stands behind all
  pub all_stand : (suffix pre : List ℕ) (at : ℕ) (xs : List Placed) → at ≡ TEXT + 4 * length pre →
      Each (Static fs kinds) xs → Each (IsLegalChoice d) xs → ends at xs ≤ ARENA
      → (a : ℕ) (f : Function) → function_in d at xs a ≡ Some f →
      IsThere (loaded (pre ++ (words_from d at xs ++ suffix))) a f (places_in at xs a)
  all_stand suffix pre at [] is static legal low a f e = absurd cc
  all_stand suffix pre at (x ∷ xs) is static legal low a f e =
      let more = words_from d (behind at x) xs in
      let rest = more ++ suffix in
      let n = length_is d at x in
      let l = length-append pre (words_of d at x) in
      let next : behind at x ≡ TEXT + 4 * length (pre ++ words_of d at x) = omega (arith, n, l, is) in
      subst (λ (t : List ℕ). IsThere (loaded (pre ++ t)) a f (places_in at (x ∷ xs) a))
      (sym (append_assoc (words_of d at x) more suffix))
      (by_first (loaded (pre ++ (words_of d at x ++ rest))) at x a f (function_in d (behind at x) xs a)
      (places_in (behind at x) xs a)
      (one_stands pre rest at x is static.0 legal.0 (omega (arith, ends_rise (behind at x) xs, low)))
      (λ later. subst (λ (t : List ℕ). IsThere (loaded t) a f (places_in (behind at x) xs a))
      (append_assoc pre (words_of d at x) rest)
      (all_stand suffix (pre ++ words_of d at x) (behind at x) xs next static.1 legal.1 low a f later)) e)

module _ (d : Addresses) where
  -- the function of a number is found at its address
  pub record IsFound (at : ℕ) (xs : List Placed) (k : ℕ) (g : node.Function) : Type 0 where
    pub placed : Placed
    pub function : placed.function ≡ g
    pub found : function_in d at xs (slice_index (starts at xs) k) ≡ Some
        (staged d (slice_index (starts at xs) k) placed)
    pub from : at ≤ slice_index (starts at xs) k
    pub even : slice_index (starts at xs) k % 4 ≡ at % 4
    pub to : behind (slice_index (starts at xs) k) placed ≤ ends at xs

  pub find : (at : ℕ) (xs : List Placed) (k : ℕ) (g : node.Function) → slice_get (functions_of xs) k ≡ Some g →
      IsFound at xs k g
  find at [] k g e = absurd cc
  find at (x ∷ xs) zero g e = record {
    placed = x;
    function = cc;
    found = rw (eq-eqb at at refl) refl;
    from = omega arith;
    even = refl;
    to = ends_rise (behind at x) xs;
  }
  find at (x ∷ xs) (suc k) g e =
      let h = find (behind at x) xs k g e in
      let ne : nat_eq (slice_index (starts (behind at x) xs) k) at ≡ false =
      ne_eqb (slice_index (starts (behind at x) xs) k) at (λ same. omega (arith, same, h.from, some_words x)) in
      record {
        placed = h.placed;
        function = h.function;
        found = ap (λ (b : Bool). if b then Some (staged d at x) else
            function_in d (behind at x) xs (slice_index (starts (behind at x) xs) k)) ne ∙ h.found;
        from = omega (arith, h.from);
        even = omega (arith, h.even);
        to = h.to;
      }
