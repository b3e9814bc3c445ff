-- Calls, generated code and whole runs keep the rows of specifications known.
use Rattle.std.proofs.Common.{◌≡◌, ℕ, zero, suc, ◌-◌, Bool, true, false, nat_le, List, [], ◌∷◌, length, Option, Some}
use Rattle.std.proofs.Common.{None}
use Rattle.std.proofs.Common.{slice_get, refl, sym, ap, ◌∙◌, subst, arith, if◌then◌else◌}
use Rattle.std.specs.Prelude.{option_map}
use Rattle.std.proofs.lemmas.Option.{slice_get-map}
use Rattle.history.specs.Syntax.{Syntax, Ticked, Captures, NoCapture, Word, Named, Spliced}
use Rattle.history.specs.Events.{Input, Entered}
use Rattle.meaning_state.specs.Shared.{Shared, happens, limit_trap, charged, discharged}
use Rattle.meaning_state.specs.Rows.{numbered, locals_of}
use Rattle.typed_tree.specs.declared.expression.CaptureKind.{CaptureKind}
use Rattle.typed_tree.specs.Nodes as node
use Rattle.typed_tree.specs.Nodes.{Function}
use Rattle.wellformed.specs.Program.{IsProgram, IsTick, IsFunction, round_function, round_tick}
use Rattle.staged_meaning.specs.Size.{size_of, charge_of}
use Rattle.staged_meaning.specs.Program.{Program, Tick, static_callee}
use Rattle.meaning_state.specs.Bodies.{Body}
use Rattle.staged_meaning.specs.Program.{Generated, generated_callee, syntax_size}
use Rattle.staged_meaning.specs.Expressions.{Context}
use Rattle.staged_meaning.specs.Statements.{exec}
use Rattle.staged_meaning.specs.Meaning.{answer, entered, charging, limited, call_body, call_function, tick_value}
use Rattle.staged_meaning.specs.Meaning.{apart, syntax_value, spliced_value, returned, keys_at_entry, generated_body}
use Rattle.staged_meaning.specs.Meaning.{call_generated, around, call_callee, call_at, finish, at_start, begins}
use Rattle.staged_meaning.specs.Meaning.{main_context, run_program}
use Rattle.staged_meaning.specs.Meaning as meant
use Rattle.staged_meaning.specs.World.{World, Result, Gives, Returns, Ends, Stops, Flow, Normal, spend, spend_all}
use Rattle.staged_meaning.specs.World.{with_shared}
use Rattle.generator_spec.specs.Kinds.{tick_of_body}
use Rattle.known_closures_proof.specs.Known.{IsMeaning, AreKnown}
use Rattle.known_closures_proof.proofs.Keeping.{Keeps, then_keeps, spend_keeps, unless_keeps, all_spent}
use Rattle.known_closures_proof.proofs.Making.{known_same}
use Rattle.known_closures_proof.proofs.Evaluating.{Good, eval_keeps}
use Rattle.known_closures_proof.proofs.Executing.{exec_keeps, body_keeps}

missing : {A B : Type 0} (xs : List A) (ys : List B) (n : ℕ) (x : A) → length ys ≡ length xs → slice_get xs n ≡ Some x
    → slice_get ys n ≡ None → ⊥
missing [] ys n x same h none = absurd cc
missing (x ∷ xs) [] n y same h none = absurd (omega (arith, same))
missing (x ∷ xs) (y ∷ ys) zero z same h none = absurd cc
missing (x ∷ xs) (y ∷ ys) (suc n) z same h none = missing xs ys n z (omega (arith, same)) h none

module _ (p : node.Program) (accepted : IsProgram p) (program : Program) (meaning : IsMeaning p program) where
  abbrev Known : Shared → Type 0
  Known = AreKnown p accepted

  abbrev Going : {A : Type 0} → (World → Result A) → Type 0
  Going next = (w : World) → Known w.shared → Keeps Known (next w)

  abbrev IsGood : Context → Type 0
  IsGood c = Good p accepted program meaning c

  answer_keeps : (r : Result Flow) → Keeps Known r → Keeps Known (answer r)
  answer_keeps (Gives flow w) k = k
  answer_keeps (Returns v w) k = k
  answer_keeps (Ends e shared) k = k
  answer_keeps (Stops shared) k = k

  returned_keeps : (r : Result ℕ) → Keeps Known r → Keeps Known (returned r)
  returned_keeps (Gives v w) k = k
  returned_keeps (Returns v w) k = k
  returned_keeps (Ends e shared) k = k
  returned_keeps (Stops shared) k = k

  charging_keeps : (charge object : ℕ) (body : World → Result ℕ) → Going body → Going (charging charge object body)
  charging_keeps charge object body f w k =
      then_keeps Known (body (entered charge object w)) (meant.leaves charge object w)
      (f (entered charge object w) (known_same p accepted w.shared (charged charge object w.shared) refl refl refl k))
      (λ v w1 k. known_same p accepted w1.shared (discharged charge object w1.shared) refl refl refl k)

  limited_keeps : (charge object : ℕ) (body : World → Result ℕ) → Going body → Going (limited charge object body)
  limited_keeps charge object body f w k =
      unless_keeps Known (limit_trap charge object w.shared) w (charging charge object body w) k
      (λ none. charging_keeps charge object body f w k)

  -- ---- functions of the text

  call_body_keeps : (c : Context) → IsGood c → (f : Function) → IsFunction p accepted.captures f → (vs : List ℕ)
      → Going (call_body c f vs)
  call_body_keeps c good f is vs w k =
      let ready : World = record w { variables = λ i. 0; arguments = vs } in
      then_keeps Known (spend Normal ready) _ (spend_keeps Known Normal ready k)
      (λ flow w k. answer_keeps (exec c f.body w)
      (body_keeps p accepted program meaning c good (round_function p accepted.captures f) refl f.body f.parameters
      is.stands w k))

  -- ---- generated code

  abbrev tick_at : Option node.TickBody → Option Tick
  tick_at o = option_map tick_of_body o

  value_keeps : (c : Context) → IsGood c → (n : ℕ) (t : Option node.TickBody) (kinds : Option (List CaptureKind))
      → slice_get p.ticks n ≡ t → slice_get accepted.captures n ≡ kinds → Going (tick_value c (tick_at t))
  value_keeps c good n None kinds at own w k = k
  value_keeps c good n (Some t) None at own w k = absurd (missing p.ticks accepted.captures n t accepted.each at own)
  value_keeps c good n (Some (node.Expression e)) (Some kinds) at own w k =
      let is : IsTick p accepted.captures (node.Expression e) kinds = accepted.ticks n
      (node.Expression e) kinds at own in
      eval_keeps p accepted program meaning (round_tick p accepted.captures kinds) refl c good e is.stands w k
  value_keeps c good n (Some (node.Statement s)) (Some kinds) at own w k =
      let is : IsTick p accepted.captures (node.Statement s) kinds = accepted.ticks n (node.Statement s) kinds at own in
      then_keeps Known (exec c s w) _
      (exec_keeps p accepted program meaning c good (round_tick p accepted.captures kinds) refl s is.stands w k)
      (λ flow w k. k)

  tick_keeps : (c : Context) → IsGood c → (n : ℕ) → Going (tick_value c (slice_get program.ticks n))
  tick_keeps c good n w k =
      let same : slice_get program.ticks n ≡ tick_at (slice_get p.ticks n) =
      ap (λ z. slice_get z n) meaning.ticks ∙ slice_get-map tick_of_body p.ticks n in
      subst (λ o. Keeps Known (tick_value c o w)) (sym same)
      (value_keeps c good n (slice_get p.ticks n) (slice_get accepted.captures n) refl refl w k)

  apart_keeps : (body : World → Result ℕ) → Going body → Going (apart body)
  apart_keeps body f w k =
      let ready : World = record w { variables = λ i. 0 } in then_keeps Known (body ready) _ (f ready k) (λ v w1 k. k)

  within_good : (c : Context) → IsGood c → (captures : Captures) (splice : ℕ → World → Result ℕ)
      → ((i : ℕ) → Going (splice i)) → IsGood (meant.within c captures splice)
  within_good c good captures splice f = record { same = good.same; call = good.call; splice = f }

  mutual
    syntax_keeps : (c : Context) → IsGood c → (syntax : Syntax) → Going (syntax_value c syntax)
    syntax_keeps c good (Ticked tick captures) w k =
        let inner : Context = meant.within c captures (spliced_value c captures) in
        apart_keeps (tick_value inner (slice_get c.program.ticks tick))
        (λ w k. subst (λ z. Keeps Known (tick_value inner (slice_get z.ticks tick) w)) (sym good.same)
        (tick_keeps inner
        (within_good c good captures (spliced_value c captures)
        (λ i w k. splice_keeps c good captures i w k)) tick w k))
        w k

    splice_keeps : (c : Context) → IsGood c → (captures : Captures) (i : ℕ) → Going (spliced_value c captures i)
    splice_keeps c good NoCapture i w k = k
    splice_keeps c good (Word x captures) zero w k = k
    splice_keeps c good (Named x captures) zero w k = k
    splice_keeps c good (Spliced syntax captures) zero w k = syntax_keeps c good syntax w k
    splice_keeps c good (Word x captures) (suc i) w k = splice_keeps c good captures i w k
    splice_keeps c good (Named x captures) (suc i) w k = splice_keeps c good captures i w k
    splice_keeps c good (Spliced syntax captures) (suc i) w k = splice_keeps c good captures i w k

  generated_keeps : (c : Context) → IsGood c → (syntax : Syntax) (vs : List ℕ) → Going (generated_body c syntax vs)
  generated_keeps c good syntax vs w k =
      let ready : World = record w { arguments = vs; generated = keys_at_entry vs } in
      then_keeps Known (spend Normal ready) _ (spend_keeps Known Normal ready k)
      (λ flow w k. then_keeps Known (spend_all (locals_of syntax) w) _ (all_spent Known (locals_of syntax) w k)
      (λ flow w k. returned_keeps (syntax_value c syntax w) (syntax_keeps c good syntax w k)))

  -- ---- calls by numbers

  abbrev CallsKeep : (ℕ → List ℕ → World → Result ℕ) → Type 0
  CallsKeep call = (f : ℕ) (vs : List ℕ) → Going (call f vs)

  around_good : (turns : ℕ) (call : ℕ → List ℕ → World → Result ℕ) (object : ℕ) → CallsKeep call
      → IsGood (around program turns call object)
  around_good turns call object f = record { same = refl; call = f; splice = λ i w k. k }

  static_there : (n : ℕ) (f : Function) → numbered n program.functions ≡ Some f → IsFunction p accepted.captures f
  static_there zero f at = absurd cc
  static_there (suc n) f at = accepted.functions n f (ap (λ z. slice_get z n) (sym meaning.functions) ∙ at)

  callee_keeps : (turns : ℕ) (call : ℕ → List ℕ → World → Result ℕ) → CallsKeep call → (number : ℕ) (b : Bool)
      (static : Option Function) (generated : Option Body) → numbered number program.functions ≡ static
      → (vs : List ℕ)
      → Going (call_callee program turns call number (if b then static_callee static else generated_callee generated)
      vs)
  callee_keeps turns call f number true None generated at vs w k = k
  callee_keeps turns call f number true (Some function) generated at vs w k =
      let c : Context = around program turns call function.object in
      limited_keeps (charge_of (size_of function)) function.object (call_body c function vs)
      (call_body_keeps c (around_good turns call function.object f) function (static_there number function at) vs) w k
  callee_keeps turns call f number false static None at vs w k = k
  callee_keeps turns call f number false static (Some body) at vs w k = by body.live
    where
      by : (live : Bool) → Keeps Known
          (call_callee program turns call number (if live then Some (Generated body.syntax) else None) vs w)
      by false = k
      by true =
          let c : Context = around program turns call 0 in
          limited_keeps (charge_of (syntax_size program body.syntax)) 0 (generated_body c body.syntax vs)
          (generated_keeps c (around_good turns call 0 f) body.syntax vs)
          (with_shared (happens (Entered number) w.shared) w)
          (known_same p accepted w.shared (happens (Entered number) w.shared) refl refl refl k)

  pub calls_keep : (turns d : ℕ) → CallsKeep (call_at program turns d)
  calls_keep turns zero number vs w k = k
  calls_keep turns (suc d) number vs w k =
      callee_keeps turns (call_at program turns d) (calls_keep turns d) number
      (nat_le number (length program.functions)) (numbered number program.functions)
      (numbered (number - length program.functions) w.shared.bodies) refl vs w k

  -- ---- a run

  at_first : (input : Input) → Known (at_start program input)
  at_first input = record { rows = tt; keys = tt; bytes = omega arith; within = omega arith; bodies = tt }

  pub run_keeps : (input : Input) (units : ℕ) → Keeps Known (run_program program input units)
  run_keeps input units =
      let c : Context = main_context program units in
      let function : Function = program.main in
      then_keeps Known
      (charging (charge_of (size_of function)) function.object (call_body c function []) (begins program input units))
      finish
      (charging_keeps (charge_of (size_of function)) function.object (call_body c function [])
      (call_body_keeps c
      (around_good (suc units) (call_at program (suc units) units) function.object (calls_keep
      (suc units) units)) function
      (accepted.functions meaning.place function meaning.main) [])
      (begins program input units) (at_first input))
      (λ v w k. k)
