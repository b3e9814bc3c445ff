-- What a call read, by what the calls in it did: steps that are done, and then one that decides.
use Rattle.std.proofs.Common.{◌≡◌, ◌≢◌, ap, subst, sym, ◌∙◌, Ok, Err}
use Rattle.std.specs.Prelude.{Result, IsErrAnd, MatchResult}
use Rattle.parse_grammar.specs.declared.stop.Stop.{Stop}
use Rattle.parse_grammar.specs.declared.stop.Stop.TheVariants.{NoMemory}
use Rattle.parse_grammar.specs.Input.{Input, Outcome, Parser, Reads, and_then}

-- a step is done, and so is what follows
pub onward : {A B : Type 0} (o : Outcome A) (k : A → Parser B) (a : A) (i : Input) (y : Outcome B) → o ≡ Ok (a, i) →
    k a i ≡ y → and_then o k ≡ y
onward o k a i y done next = ap (λ q. and_then q k) done ∙ next

-- a step is done, and what follows it is refused
pub past : {A B : Type 0} (o : Outcome A) (k : A → Parser B) (a : A) (i : Input) (why : Stop) → o ≡ Ok (a, i) →
    (why ≢ NoMemory → k a i ≡ Err why) → why ≢ NoMemory → and_then o k ≡ Err why
past o k a i why done next lack = onward o k a i (Err why) done (next lack)

-- a step is refused, and all of it is
pub stops : {A B : Type 0} (o : Outcome A) (k : A → Parser B) (why : Stop) → (why ≢ NoMemory → o ≡ Err why) →
    why ≢ NoMemory → and_then o k ≡ Err why
stops o k why h lack = ap (λ q. and_then q k) (h lack)

-- an error that a `?` passes on
pub broken : {A : Type 0} (x y : Outcome A) (r : Result A Stop) (why : Stop) (i : Input) → x ≡ y →
    IsErrAnd r (λ w. w ≡ why) → (why ≢ NoMemory → y ≡ Err why) → Reads x r i
broken x y (Ok a) why i same h was = absurd h
broken x y (Err w) why i same h was = subst (λ q. q ≢ NoMemory → x ≡ Err q) (sym h) (λ lack. same ∙ was lack)

-- a node that is made, unless memory fails
pub made : {A : Type 0} (x : Outcome A) (a : A) (r : Result A Stop) (i : Input) →
    MatchResult r (λ b. b ≡ a) (λ why. why ≡ NoMemory) → x ≡ Ok (a, i) → Reads x r i
made x a (Ok b) i is done = done ∙ ap (λ q. Ok (q, i)) (sym is)
made x a (Err why) i is done = λ lack. absurd (lack is)

-- a step is done, and what follows it decides
pub goes : {A B : Type 0} (o : Outcome A) (k : A → Parser B) (a : A) (i : Input) (r : Result B Stop) (z : Input) →
    o ≡ Ok (a, i) → Reads (k a i) r z → Reads (and_then o k) r z
goes o k a i r z done next = subst (λ q. Reads (and_then q k) r z) (sym done) next
