-- Kinds of outcomes: which are refusals, which ending one tells of, and what standard error makes of one.
use Rattle.std.proofs.Common.{◌≡◌, ◌≢◌, ◌⊎◌, inl, inr, ℕ, Bool, true, false, List, Option, Some, None, refl, sym, ap}
use Rattle.std.proofs.Common.{◌∙◌}
use Rattle.std.proofs.lemmas.Bool.{false≢true}
use Rattle.host_edge.specs.declared.ending.Ending.TheVariants as ending
use Rattle.history.specs.Events.{Item, End}
use Rattle.history.specs.Events as event
use Rattle.pace.specs.Pace.{Seen}
use Rattle.mips_machine.specs.declared.stop.Stop.{Stop}
use Rattle.mips_machine.specs.declared.stop.Stop.TheVariants as stop
use Rattle.tick_outcome.specs.declared.outcome.Outcome.{Outcome}
use Rattle.tick_outcome.specs.declared.outcome.Outcome.TheVariants as outcome
use Rattle.image_commands.specs.Answers.{outcome_of}
use Rattle.image_commands.specs.Seen.{outcome_at, Moves, IsSeen}
use Rattle.image_commands.specs.Said.{unsaid, Reports}

-- ---- refusals

abbrev pub is_refusal : Outcome → Bool
is_refusal (outcome.Refused fault) = true
is_refusal (outcome.AsmRefused fault) = true
is_refusal outcome.TooLong = true
is_refusal (outcome.BadImage fault) = true
is_refusal other = false

-- a refusal of what a file holds, and not of its length or that of an input
abbrev pub is_content : Outcome → Bool
is_content outcome.TooLong = false
is_content other = is_refusal other

pub content_refusal : (o : Outcome) → is_content o ≡ true → is_refusal o ≡ true
content_refusal (outcome.Refused fault) r = refl
content_refusal (outcome.AsmRefused fault) r = refl
content_refusal (outcome.BadImage fault) r = refl
content_refusal outcome.TooLong r = absurd cc
content_refusal (outcome.Done s) r = absurd cc
content_refusal (outcome.BadWords p) r = absurd cc
content_refusal outcome.LoadFault r = absurd cc
content_refusal (outcome.Trap k) r = absurd cc
content_refusal (outcome.MachineFault k at) r = absurd cc
content_refusal (outcome.OutOfSteps n) r = absurd cc
content_refusal outcome.WriteFault r = absurd cc
content_refusal outcome.ReadFault r = absurd cc
content_refusal outcome.SaveFault r = absurd cc

pub no_refusal : {A : Type 0} {o x : Outcome} → is_refusal o ≡ true → o ≡ x → is_refusal x ≡ false → A
no_refusal r e n = absurd (false≢true (sym n ∙ ap is_refusal (sym e) ∙ r))

-- the outcome of a stop refuses nothing
pub stop_refuses : (n : ℕ) (s : Stop) → is_refusal (outcome_of n s) ≡ false
stop_refuses n (stop.Ended (ending.Done x)) = refl
stop_refuses n (stop.Ended (ending.Trap k)) = refl
stop_refuses n (stop.Fault k at) = refl
stop_refuses n stop.Steps = refl
stop_refuses n stop.ReadFault = refl
stop_refuses n stop.WriteFault = refl

-- ---- endings

-- the ending that an outcome tells of
abbrev pub ending_told : Outcome → Option End
ending_told (outcome.Done s) = Some (event.Ended (ending.Done s))
ending_told (outcome.Trap k) = Some (event.Ended (ending.Trap k))
ending_told (outcome.MachineFault k at) = Some (event.Fault k at)
ending_told outcome.ReadFault = Some event.ReadFault
ending_told other = None

pub told_at : (n : ℕ) (x : Option End) → ending_told (outcome_at n x) ≡ x
told_at n (Some (event.Ended (ending.Done s))) = refl
told_at n (Some (event.Ended (ending.Trap k))) = refl
told_at n (Some event.ReadFault) = refl
told_at n (Some (event.Fault k at)) = refl
told_at n None = refl

-- one outcome has one ending
pub ending_is : (n : ℕ) (o : Outcome) (x : Option End) → o ≡ outcome_at n x → x ≡ ending_told o
ending_is n o x e = sym (told_at n x) ∙ ap ending_told (sym e)

pub at_refuses : (n : ℕ) (x : Option End) → is_refusal (outcome_at n x) ≡ false
at_refuses n (Some (event.Ended (ending.Done s))) = refl
at_refuses n (Some (event.Ended (ending.Trap k))) = refl
at_refuses n (Some event.ReadFault) = refl
at_refuses n (Some (event.Fault k at)) = refl
at_refuses n None = refl

-- an outcome that a machine stands behind
abbrev pub is_of_machine : Outcome → Bool
is_of_machine (outcome.Done s) = true
is_of_machine (outcome.Trap k) = true
is_of_machine (outcome.MachineFault k at) = true
is_of_machine (outcome.OutOfSteps n) = true
is_of_machine outcome.ReadFault = true
is_of_machine outcome.WriteFault = true
is_of_machine other = false

pub at_machine : (n : ℕ) (x : Option End) → is_of_machine (outcome_at n x) ≡ true
at_machine n (Some (event.Ended (ending.Done s))) = refl
at_machine n (Some (event.Ended (ending.Trap k))) = refl
at_machine n (Some event.ReadFault) = refl
at_machine n (Some (event.Fault k at)) = refl
at_machine n None = refl

pub no_machine : {A : Type 0} {o x : Outcome} → is_of_machine o ≡ false → o ≡ x → is_of_machine x ≡ true → A
no_machine n e m = absurd (false≢true (sym n ∙ ap is_of_machine e ∙ m))

pub refusal_no_machine : (o : Outcome) → is_refusal o ≡ true → is_of_machine o ≡ false
refusal_no_machine (outcome.Refused fault) r = refl
refusal_no_machine (outcome.AsmRefused fault) r = refl
refusal_no_machine outcome.TooLong r = refl
refusal_no_machine (outcome.BadImage fault) r = refl
refusal_no_machine (outcome.Done s) r = absurd cc
refusal_no_machine (outcome.BadWords p) r = absurd cc
refusal_no_machine outcome.LoadFault r = absurd cc
refusal_no_machine (outcome.Trap k) r = absurd cc
refusal_no_machine (outcome.MachineFault k at) r = absurd cc
refusal_no_machine (outcome.OutOfSteps n) r = absurd cc
refusal_no_machine outcome.WriteFault r = absurd cc
refusal_no_machine outcome.ReadFault r = absurd cc
refusal_no_machine outcome.SaveFault r = absurd cc

-- an outcome that comes of the ending of a run or of an evaluation, and of nothing else
abbrev pub is_ending : Outcome → Bool
is_ending (outcome.Trap k) = true
is_ending (outcome.MachineFault k at) = true
is_ending (outcome.OutOfSteps n) = true
is_ending other = false

pub no_ending : {A : Type 0} {o x : Outcome} → is_ending o ≡ true → o ≡ x → is_ending x ≡ false → A
no_ending r e n = absurd (false≢true (sym n ∙ ap is_ending (sym e) ∙ r))

pub ending_machine : (o : Outcome) → is_ending o ≡ true → is_of_machine o ≡ true
ending_machine (outcome.Trap k) r = refl
ending_machine (outcome.MachineFault k at) r = refl
ending_machine (outcome.OutOfSteps n) r = refl
ending_machine outcome.ReadFault r = absurd cc
ending_machine (outcome.Done s) r = absurd cc
ending_machine (outcome.BadWords p) r = absurd cc
ending_machine (outcome.Refused fault) r = absurd cc
ending_machine (outcome.AsmRefused fault) r = absurd cc
ending_machine outcome.LoadFault r = absurd cc
ending_machine outcome.TooLong r = absurd cc
ending_machine (outcome.BadImage fault) r = absurd cc
ending_machine outcome.WriteFault r = absurd cc
ending_machine outcome.SaveFault r = absurd cc

-- what is seen, where no write failed
pub seen_whole : (n : ℕ) (left later taken told : Option (List ℕ)) (o : Outcome) (seen : Seen Item End) →
    o ≢ outcome.WriteFault
    → IsSeen n left later taken told o seen → (o ≡ outcome_at n seen.ending) × Moves left later taken told seen.history
seen_whole n left later taken told (outcome.Done s) seen other h = h
seen_whole n left later taken told (outcome.BadWords p) seen other h = h
seen_whole n left later taken told (outcome.Refused fault) seen other h = h
seen_whole n left later taken told (outcome.AsmRefused fault) seen other h = h
seen_whole n left later taken told outcome.LoadFault seen other h = h
seen_whole n left later taken told outcome.TooLong seen other h = h
seen_whole n left later taken told (outcome.BadImage fault) seen other h = h
seen_whole n left later taken told (outcome.Trap k) seen other h = h
seen_whole n left later taken told (outcome.MachineFault k at) seen other h = h
seen_whole n left later taken told (outcome.OutOfSteps k) seen other h = h
seen_whole n left later taken told outcome.WriteFault seen other h = absurd (other refl)
seen_whole n left later taken told outcome.ReadFault seen other h = h
seen_whole n left later taken told outcome.SaveFault seen other h = h

-- a write failed, or another outcome came
pub by_fault : (P : Outcome → Type 0) (o : Outcome) → (o ≡ outcome.WriteFault → P outcome.WriteFault)
    → (o ≢ outcome.WriteFault → P o) → P o
by_fault P outcome.WriteFault failed other = failed refl
by_fault P (outcome.Done s) failed other = other (λ q. cc)
by_fault P (outcome.BadWords p) failed other = other (λ q. cc)
by_fault P (outcome.Refused fault) failed other = other (λ q. cc)
by_fault P (outcome.AsmRefused fault) failed other = other (λ q. cc)
by_fault P outcome.LoadFault failed other = other (λ q. cc)
by_fault P outcome.TooLong failed other = other (λ q. cc)
by_fault P (outcome.BadImage fault) failed other = other (λ q. cc)
by_fault P (outcome.Trap k) failed other = other (λ q. cc)
by_fault P (outcome.MachineFault k at) failed other = other (λ q. cc)
by_fault P (outcome.OutOfSteps n) failed other = other (λ q. cc)
by_fault P outcome.ReadFault failed other = other (λ q. cc)
by_fault P outcome.SaveFault failed other = other (λ q. cc)

-- ---- standard error

pub unsaid_is : (o : Outcome) → (unsaid o ≡ o) ⊎ ((status : ℕ) × (o ≡ outcome.Done status))
unsaid_is (outcome.Done s) = inr (s, refl)
unsaid_is (outcome.BadWords p) = inl refl
unsaid_is (outcome.Refused fault) = inl refl
unsaid_is (outcome.AsmRefused fault) = inl refl
unsaid_is outcome.LoadFault = inl refl
unsaid_is outcome.TooLong = inl refl
unsaid_is (outcome.BadImage fault) = inl refl
unsaid_is (outcome.Trap k) = inl refl
unsaid_is (outcome.MachineFault k at) = inl refl
unsaid_is (outcome.OutOfSteps n) = inl refl
unsaid_is outcome.WriteFault = inl refl
unsaid_is outcome.ReadFault = inl refl
unsaid_is outcome.SaveFault = inl refl

-- the outcome that is reported is the first one, but where standard error failed after Done
pub reported : (text : List ℕ) (first last : Outcome) (taken told : Option (List ℕ)) (old new : ℕ) →
    Reports text first last taken told old new
    → (last ≡ first) ⊎ ((status : ℕ) × (first ≡ outcome.Done status) × (last ≡ outcome.WriteFault))
reported text first last taken told old new (inl r) = inl r.0
reported text first last taken told old new (inr r) = by (unsaid_is first)
  where
    by : (unsaid first ≡ first) ⊎ ((status : ℕ) × (first ≡ outcome.Done status)) →
        (last ≡ first) ⊎ ((status : ℕ) × (first ≡ outcome.Done status) × (last ≡ outcome.WriteFault))
    by (inl same) = inl (r.0 ∙ same)
    by (inr d) = inr (d.0, d.1, r.0 ∙ ap unsaid d.1)

pub stays : (text : List ℕ) (first last : Outcome) (taken told : Option (List ℕ)) (old new : ℕ) →
    Reports text first last taken told old new → last ≢ outcome.WriteFault → last ≡ first
stays text first last taken told old new r other = by (reported text first last taken told old new r)
  where
    by : (last ≡ first) ⊎ ((status : ℕ) × (first ≡ outcome.Done status) × (last ≡ outcome.WriteFault)) → last ≡ first
    by (inl same) = same
    by (inr d) = absurd (other d.2)
