-- The first pass: a plan grows by the next function, and what it has stays low.
use Rattle.std.proofs.Common.{◌≡◌, ℕ, ◌+◌, ◌-◌, ◌*◌, ◌%◌, ◌≤◌, Bool, false, List, [], ◌∷◌, ◌++◌, length, sym, ap, ◌∙◌}
use Rattle.std.proofs.Common.{arith, subst, refl, length-append}
use Rattle.word32.specs.declared.map.TheConstants.{ARENA, FUNCTIONS}
use Rattle.icode_ops.specs.declared.op.Op.{Op}
use Rattle.icode_ir.specs.Sound.{Each}
use Rattle.icode_ir.proofs.Sounds.{Each-append}
use Rattle.icode_templates.specs.Expansion.{expanded}
use Rattle.typed_tree.specs.Nodes.{Function}
use Rattle.staged_meaning.specs.Size.{size_of, charge_of}
use Rattle.limits.specs.declared.program.TheConstants.{CHARGE_LIMIT}
use Rattle.static_image.specs.Layout.{Placed, ops_of, words_of, words_from, starts, unknown, functions_of}
use Rattle.static_image.specs.Layout.{IsLegalChoice}
use Rattle.static_image.specs.Served.{IsStatic, most_words, AreStatic}
use Rattle.static_image.specs.Layout.{ends}
use Rattle.static_image.proofs.Placing.{ends_at, ends_most, each_static, length_is, few_words}
use Rattle.staged_meaning.specs.Program.{Tick}
use Rattle.typed_tree.specs.declared.expression.CaptureKind.{CaptureKind}
use Rattle.tick_lower_spec.specs.Lower.{Addresses}
use Rattle.static_backend.specs.Calls.{calls_unknown}
use Rattle.static_backend.specs.Scanned.{IsScan, IsPlan}
use Rattle.static_backend.specs.Drafted.{IsPiece, IsDraft, known_at}
use Rattle.static_backend.proofs.Drafts.{draft_more}
use Rattle.static_backend.proofs.Grown.{places_more, starts_more, words_more}

pub first_plan : (addresses : List ℕ) (places : List (List ℕ)) → addresses ≡ [] → places ≡ [] →
    IsPlan [] addresses places FUNCTIONS
first_plan addresses places a p =
    record { each = tt; legal = tt; places_are = p; addresses_are = a; end_is = omega arith }

-- the next stands at the end
pub end_at : (xs : List Placed) (addresses : List ℕ) (places : List (List ℕ)) (end : ℕ) →
    IsPlan xs addresses places end → end ≡ ends FUNCTIONS xs
end_at xs addresses places end plan = plan.end_is ∙ sym (ends_at unknown FUNCTIONS xs)

pub plan_more : (xs : List Placed) (x : Placed) (addresses addresses' : List ℕ) (places places' : List (List ℕ))
    (end end' n : ℕ) → IsScan x → IsLegalChoice unknown x → n ≡ length (words_of unknown end x)
    → addresses' ≡ addresses ++ end ∷ [] → places' ≡ places ++ x.places ∷ [] → end' ≡ end + 4 * n
    → IsPlan xs addresses places end → IsPlan (xs ++ x ∷ []) addresses' places' end'
plan_more xs x addresses addresses' places places' end end' n scan legal long a p e plan =
    let here = end_at xs addresses places end plan in
    let whole = ap length (words_more unknown FUNCTIONS xs x) in
    let both = length-append (words_from unknown FUNCTIONS xs) (words_of unknown (ends FUNCTIONS xs) x) in
    let one = length_is unknown end x in
    let same = length_is unknown (ends FUNCTIONS xs) x in
    record {
      each = Each-append IsScan xs (x ∷ []) plan.each (scan, tt);
      legal = Each-append (IsLegalChoice unknown) xs (x ∷ []) plan.legal (legal, tt);
      places_are = p ∙ ap (λ ps. ps ++ x.places ∷ []) plan.places_are ∙ sym (places_more xs x);
      addresses_are = a ∙ ap (λ ss. ss ++ end ∷ []) plan.addresses_are
          ∙ ap (λ n. starts FUNCTIONS xs ++ n ∷ []) here ∙ sym (starts_more FUNCTIONS xs x);
      end_is = omega (arith, e, long, plan.end_is, whole, both, one, same);
    }

-- the words of a function, or room for them, are as many as it has where no address is known
pub as_long : (x : Placed) (at : ℕ) (d : Addresses) (m : Bool) (words words' : List ℕ)
    → IsPiece (calls_unknown (ops_of d x)) (words_of d at x) m words words'
    → length words' - length words ≡ length (words_of unknown at x)
as_long x at d m words words' p =
    omega (
      arith,
      ap length p.added,
      length-append words p.piece,
      p.as_long,
      length_is d at x,
      length_is unknown at x,
    )

pub next_draft : (ticks : List Tick) (xs : List Placed) (x : Placed) (addresses addresses' : List ℕ)
    (places places' : List (List ℕ))
    (made made' : List Bool) (m : Bool) (words words' : List ℕ) (end end' : ℕ) → IsScan x → IsLegalChoice unknown x
    → addresses' ≡ addresses ++ end ∷ [] → places' ≡ places ++ x.places ∷ [] → made' ≡ made ++ m ∷ []
    → IsPiece (calls_unknown (ops_of (known_at ticks addresses') x)) (words_of (known_at ticks addresses') end x) m
    words
    words'
    → end' ≡ end + 4 * (length words' - length words)
    → IsPlan xs addresses places end → IsDraft ticks xs made words → length made ≡ length xs
    → IsPlan (xs ++ x ∷ []) addresses' places' end' × IsDraft ticks (xs ++ x ∷ []) made' words'
    × (length made' ≡ length (xs ++ x ∷ []))
next_draft ticks xs x addresses addresses' places places' made made' m words words' end end' scan legal a p k piece e
    plan
    draft many =
    let d = known_at ticks addresses' in
    let next = plan_more xs x addresses addresses' places places' end end' (length words' - length words) scan legal
    (as_long x end d m words words' piece) a p e plan in (
      next,
      draft_more ticks xs x made made' m words words' end addresses' many (end_at xs addresses places end plan)
          next.addresses_are k piece draft,
      omega (
        arith,
        ap length k,
        length-append made (m ∷ []),
        length-append xs (x ∷ []),
        many,
      ),
    )

-- what is said of a list of ops is said of a function's
pub piece_of : (x : Placed) (at frame : ℕ) (d : Addresses) (ops : List Op) (m : Bool) (words words' : List ℕ)
    → ops ≡ ops_of d x → frame ≡ charge_of (size_of x.function)
    → IsPiece (calls_unknown ops) (expanded ops x.places at frame x.function.object false) m words words'
    → IsPiece (calls_unknown (ops_of d x)) (words_of d at x) m words words'
piece_of x at frame d ops m words words' op charge p =
    subst (λ (os : List Op). IsPiece (calls_unknown os)
    (expanded os x.places at (charge_of (size_of x.function)) x.function.object false) m words words') op
    (subst (λ (n : ℕ). IsPiece (calls_unknown ops) (expanded ops x.places at n x.function.object false) m words words')
    charge p)

-- a function's words, from what they are made of
pub words_are : (x : Placed) (d : Addresses) (at at' frame : ℕ) (ops : List Op) (places : List ℕ) → ops ≡ ops_of d x
    → places ≡ x.places → at ≡ at' → frame ≡ charge_of (size_of x.function)
    → expanded ops places at frame x.function.object false ≡ words_of d at' x
words_are x d at at' frame ops places op place here charge =
    let object = x.function.object in
    ap (λ (os : List Op). expanded os places at frame object false) op
    ∙ ap (λ (ps : List ℕ). expanded (ops_of d x) ps at frame object false) place
    ∙ ap (λ (a : ℕ). expanded (ops_of d x) x.places a frame object false) here
    ∙ ap (λ (n : ℕ). expanded (ops_of d x) x.places at' n object false) charge

-- ---- the end

pub aligned : (xs : List Placed) (addresses : List ℕ) (places : List (List ℕ)) (end : ℕ) →
    IsPlan xs addresses places end → end % 4 ≡ 0
aligned xs addresses places end plan = omega (arith, plan.end_is)

-- as long as the functions are among these, there is room for them
pub low : (fs : List Function) (captures : List (List CaptureKind)) (ticks : List Tick) (xs : List Placed)
    (addresses : List ℕ) (places : List (List ℕ)) (end : ℕ) →
    AreStatic fs captures ticks → Each (IsStatic fs captures) (functions_of xs) →
    most_words (functions_of xs) ≤ most_words fs →
    IsPlan xs addresses places end → end ≤ ARENA
low fs captures ticks xs addresses places end static each few plan =
    let most = ends_most fs captures FUNCTIONS xs (each_static fs captures xs each) in
    omega (arith, end_at xs addresses places end plan, most, few, static.room)

-- a function's words are few
pub few : (fs : List Function) (captures : List (List CaptureKind)) (x : Placed) (at : ℕ) (d : Addresses) →
    IsStatic fs captures x.function →
    length (words_of d at x) ≤ CHARGE_LIMIT
few fs captures x at d static =
    omega (arith, length_is d at x, few_words fs captures x static, static.ready.ready.small)

pub few_of : (fs : List Function) (captures : List (List CaptureKind)) (x : Placed) (at frame : ℕ) (d : Addresses)
    (ops : List Op)
    → IsStatic fs captures x.function
    → ops ≡ ops_of d x → frame ≡ charge_of (size_of x.function)
    → length (expanded ops x.places at frame x.function.object false) ≤ CHARGE_LIMIT
few_of fs captures x at frame d ops static op charge =
    subst (λ (os : List Op). length (expanded os x.places at frame x.function.object false) ≤ CHARGE_LIMIT) (sym op)
    (subst (λ (n : ℕ). length (expanded (ops_of d x) x.places at n x.function.object false) ≤ CHARGE_LIMIT)
    (sym charge) (few fs captures x at d static))
