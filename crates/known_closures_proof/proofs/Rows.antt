-- The laws on known rows.
use Rattle.std.proofs.Common.{◌≡◌, ℕ, suc, ◌+◌, ◌<◌, Bool, true, false, List, [], ◌∷◌, ◌++◌, length, map, ◌≤◌}
use Rattle.std.proofs.Common.{Option, Some, None, slice_get, refl, ap, ◌∙◌, subst, arith}
use Rattle.std.specs.Prelude.{if◌then◌else◌, option_map, codes, nat_eq}
use Rattle.std.specs.Cmp.Lexicographic.{pointwise}
use Rattle.std.proofs.lemmas.Option.{slice_get-map}
use Rattle.limits.specs.declared.ops.TheConstants.{KEYS}
use Rattle.limits.specs.declared.program.TheConstants.{MOST_ARGUMENTS}
use Rattle.history.specs.Syntax.{Syntax}
use Rattle.meaning_state.specs.Shared.{Shared, Specification, Expression, Statement, Local, Param}
use Rattle.meaning_state.specs.Rows.{specification_at, keys_of, arena_words}
use Rattle.typed_tree.specs.declared.program.Function.{Function}
use Rattle.typed_tree.specs.declared.program.Tick.{Tick}
use Rattle.typed_tree.specs.declared.program.TickBody.{TickBody}
use Rattle.typed_tree.specs.declared.program.TickBody.TheVariants as body
use Rattle.typed_tree.specs.Nodes as node
use Rattle.typed_tree.specs.View.{function_view, body_view, tick_view, program_view}
use Rattle.wellformed.specs.Program.{IsProgram}
use Rattle.icode_ir.specs.Sound.{Each}
use Rattle.icode_ir.proofs.Sounds.{Each-weaker}
use Rattle.icode_ir.specs.Build.{empty}
use Rattle.staged_meaning.specs.Source as source
use Rattle.staged_meaning.specs.Program.{Program, syntax_size}
use Rattle.staged_meaning.specs.Expressions.{Context, eval}
use Rattle.staged_meaning.specs.Statements.{exec}
use Rattle.staged_meaning.specs.Meaning.{call_at, run_program}
use Rattle.staged_meaning.specs.World.{Result, Gives, Returns, Ends, Stops}
use Rattle.tick_lower_spec.specs.Specifications.{specification_ops}
use Rattle.mips_model.specs.CodeServices.{finish_refusal, words_of}
use Rattle.generator_laws.specs.Laws.{built_of}
use Rattle.compile_routine.specs.Places.{place_address}
use Rattle.compile_routine.specs.Laws.{IsTickOf, return_ops, frame_bytes}
use Rattle.closures_proof.specs.Relation.{IsOf}
use Rattle.generator_spec.specs.Kinds.{tick_of_body}
use Rattle.generator_spec.specs.FittingLaws.{ticks_of}
use Rattle.generated_ops_proof.specs.Answers.{leaves}
use Rattle.generated_ops_proof.specs.Laws.{IsMade, IsTaken}
use Rattle.generated_ops_proof.proofs.Begun.{begun_take_all, builders_finished, issued_to_begun, small_row}
use Rattle.generated_ops_proof.proofs.Begun.{words_within}
use Rattle.known_closures_proof.specs.Known.{IsMeaning, IsRow, keys_of_row, AreKnown}
use Rattle.known_closures_proof.specs.Laws.{ProgramsAreMeant, state_of, IsRound, EvaluationsKeepRows}
use Rattle.known_closures_proof.specs.Laws.{ExecutionsKeepRows}
use Rattle.known_closures_proof.specs.Laws.{CallsKeepRows, RowsAreKnown, KnownRowsAreMade}
use Rattle.known_closures_proof.specs.Laws.{KnownSpecificationsAreTaken, KnownSpecificationsAreIssued}
use Rattle.known_closures_proof.specs.Laws.{KnownFunctionsAreFinished, KnownWordsAreWithin}
use Rattle.known_closures_proof.proofs.Keeping.{Keeps}
use Rattle.known_closures_proof.proofs.Making.{all_low, row_at}
use Rattle.known_closures_proof.proofs.Evaluating.{Good, eval_keeps}
use Rattle.known_closures_proof.proofs.Executing.{exec_keeps}
use Rattle.known_closures_proof.proofs.Running.{calls_keep, run_keeps}

-- ---- the program of a text

bodies_meant : (b : TickBody) → source.tick_view b ≡ tick_of_body (body_view b)
bodies_meant (body.Expression e) = refl
bodies_meant (body.Statement s) = refl

ticks_meant : (ts : List Tick) → map (λ t. source.tick_view t.body) ts ≡ map tick_of_body (map tick_view ts)
ticks_meant [] = refl
ticks_meant (t ∷ ts) =
    ap (λ z. z ∷ map (λ t. source.tick_view t.body) ts) (bodies_meant t.body)
    ∙ ap (λ z. tick_of_body (body_view t.body) ∷ z) (ticks_meant ts)

-- where `main` is
record Main (fs : List Function) (f : Function) : Type 0 where
  place : ℕ
  there : slice_get fs place ≡ Some f

main_there : (fs : List Function) (f : Function) → source.main_of fs ≡ Some f → Main fs f
main_there [] f e = absurd cc
main_there (g ∷ fs) f e = by (pointwise nat_eq g.name (codes "main")) e (λ h. main_there fs f h)
  where
    by : (b : Bool) → (if b then Some g else source.main_of fs) ≡ Some f → (source.main_of fs ≡ Some f → Main fs f)
        → Main (g ∷ fs) f
    by true h rest = record { place = 0; there = h }
    by false h rest = let m = rest h in record { place = suc m.place; there = m.there }

pub programs_meant : ProgramsAreMeant
programs_meant parts program e = by (source.main_of parts.functions) refl e
  where
    by : (o : Option Function) → source.main_of parts.functions ≡ o → source.program_from o parts ≡ Some program
        → IsMeaning (program_view parts) program
    by None at h = absurd cc
    by (Some f) at h =
        let m = main_there parts.functions f at in
        let made : Program = record {
          main = function_view f;
          functions = map function_view parts.functions;
          ticks = map (λ t. source.tick_view t.body) parts.ticks;
          image = parts.image;
        } in
        let same : made ≡ program = cc in
        subst (λ z. IsMeaning (program_view parts) z) same
        (record {
          functions = refl;
          ticks = ticks_meant parts.ticks;
          place = m.place;
          main = slice_get-map function_view parts.functions m.place ∙ ap (option_map function_view) m.there;
        })

-- ---- evaluation

module _ (p : node.Program) (accepted : IsProgram p) where
  abbrev Known : Shared → Type 0
  Known = AreKnown p accepted

  behind : {A : Type 0} (r : Result A) → Keeps Known r → Known (state_of r)
  behind {A} (Gives a w) k = k
  behind {A} (Returns v w) k = k
  behind {A} (Ends e shared) k = k
  behind {A} (Stops shared) k = k

  ahead : {A : Type 0} (r : Result A) → Known (state_of r) → Keeps Known r
  ahead {A} (Gives a w) k = k
  ahead {A} (Returns v w) k = k
  ahead {A} (Ends e shared) k = k
  ahead {A} (Stops shared) k = k

  good_round : (program : Program) (meaning : IsMeaning p program) (c : Context) → IsRound p accepted program c
      → Good p accepted program meaning c
  good_round program meaning c round = record {
    same = round.same;
    call = λ f vs w k. ahead (c.call f vs w) (round.call f vs w k);
    splice = λ i w k. ahead (c.splice i w) (round.splice i w k);
  }

pub evaluations_keep : EvaluationsKeepRows
evaluations_keep p accepted program meaning a c e w ticks round stands k =
    behind p accepted (eval c e w)
    (eval_keeps p accepted program meaning a ticks c (good_round p accepted program meaning c round) e stands w k)

pub executions_keep : ExecutionsKeepRows
executions_keep p accepted program meaning a c s w ticks round stands k =
    behind p accepted (exec c s w)
    (exec_keeps p accepted program meaning c (good_round p accepted program meaning c round) a ticks s stands w k)

pub calls_rows : CallsKeepRows
calls_rows p accepted program meaning turns d number vs w k =
    behind p accepted (call_at program turns d number vs w)
    (calls_keep p accepted program meaning turns d number vs w k)

pub rows_known : RowsAreKnown
rows_known p accepted program meaning input units =
    behind p accepted (run_program program input units) (run_keeps p accepted program meaning input units)

-- ---- what is known of a row

module _ (p : node.Program) (accepted : IsProgram p) (shared : Shared) (known : AreKnown p accepted shared) where
  all_keys : Each (λ row. Each (λ key. key < MOST_ARGUMENTS + length shared.specifications) (keys_of_row row))
      shared.specifications
  all_keys = all_low p accepted 0 (length shared.specifications) shared.specifications (omega arith) known.keys

  -- a variable of a row has a key
  key_there : (key : ℕ) → key < MOST_ARGUMENTS + length shared.specifications → key < KEYS
  key_there key low = omega (arith, low, known.bytes, known.within)

  keys_there : (keys : List ℕ) → Each (λ key. key < MOST_ARGUMENTS + length shared.specifications) keys
      → Each (λ key. key < KEYS) keys
  keys_there keys low =
      Each-weaker (λ key. key < MOST_ARGUMENTS + length shared.specifications) (λ key. key < KEYS) key_there keys low

  row_of : (o : Option Specification) (syntax : Syntax) (number : ℕ) → specification_at number shared ≡ o
      → IsOf syntax o → IsMade p accepted syntax × Each (λ key. key < KEYS) (keys_of syntax)
  row_of None syntax number at of = absurd of
  row_of (Some Local) syntax number at of = absurd of
  row_of (Some (Param index)) syntax number at of = absurd of
  row_of (Some (Expression x)) syntax number at of =
      subst (λ z. IsMade p accepted z × Each (λ key. key < KEYS) (keys_of z)) of (
        (row_at (IsRow p accepted) shared.specifications number (Expression x) known.rows at).0,
        keys_there (keys_of x) (row_at _ shared.specifications number (Expression x) all_keys at),
      )
  row_of (Some (Statement x)) syntax number at of =
      subst (λ z. IsMade p accepted z × Each (λ key. key < KEYS) (keys_of z)) of (
        (row_at (IsRow p accepted) shared.specifications number (Statement x) known.rows at).0,
        keys_there (keys_of x) (row_at _ shared.specifications number (Statement x) all_keys at),
      )

  -- and whether it leaves a value
  pub value_of : (v : Bool) (o : Option Specification) (syntax : Syntax) (number : ℕ) →
      specification_at number shared ≡ o
      → IsTickOf v syntax o → (leaves (ticks_of p) syntax ≡ v) × IsOf syntax o
  value_of true (Some (Expression x)) syntax number at of = (
    subst (λ z. leaves (ticks_of p) z ≡ true) of
        (row_at (IsRow p accepted) shared.specifications number (Expression x) known.rows at).1,
    of,
  )
  value_of false (Some (Statement x)) syntax number at of = (
    subst (λ z. leaves (ticks_of p) z ≡ false) of
        (row_at (IsRow p accepted) shared.specifications number (Statement x) known.rows at).1,
    of,
  )
  value_of true None syntax number at of = absurd of
  value_of true (Some Local) syntax number at of = absurd of
  value_of true (Some (Param index)) syntax number at of = absurd of
  value_of true (Some (Statement x)) syntax number at of = absurd of
  value_of false None syntax number at of = absurd of
  value_of false (Some Local) syntax number at of = absurd of
  value_of false (Some (Param index)) syntax number at of = absurd of
  value_of false (Some (Expression x)) syntax number at of = absurd of

pub rows_made : KnownRowsAreMade
rows_made p accepted shared syntax number parameters known of =
    let row = row_of p accepted shared known (specification_at number shared) syntax number refl of in
    record { made = row.0; named = λ few. record { parameters = few; keys = row.1 } }

pub known_taken : KnownSpecificationsAreTaken
known_taken p accepted addresses text shared value syntax number parameters d ticks known memory of few =
    let v = value_of p accepted shared known value (specification_at number shared) syntax number refl of in
    let row = rows_made p accepted shared syntax number parameters known v.1 in
    let small = small_row text shared.specifications memory.closures memory.stand_for number syntax
    (specification_at number shared) refl v.1 in
    subst (λ z. IsTaken false (specification_ops addresses (ticks_of p) syntax ++ return_ops z) (empty parameters)) v.0
    (begun_take_all p accepted addresses text.program syntax parameters ticks row.made (row.named few) small)

pub known_issued : KnownSpecificationsAreIssued
known_issued p accepted addresses text c shared syntax number top parameters d good words ticks known stands memory
    of enters there few =
    let row = rows_made p accepted shared syntax number parameters known of in
    issued_to_begun p accepted addresses text c shared syntax number top parameters d good words ticks row.made
    stands
    memory of enters there (row.named few)

pub known_finished : KnownFunctionsAreFinished
known_finished p accepted addresses text shared value syntax number parameters place d ticks known memory of few room =
    let v = value_of p accepted shared known value (specification_at number shared) syntax number refl of in
    let row = rows_made p accepted shared syntax number parameters known v.1 in
    let size : ℕ = syntax_size text.program syntax in
    let small = small_row text shared.specifications memory.closures memory.stand_for number syntax
    (specification_at number shared) refl v.1 in
    subst (λ z. finish_refusal
    (built_of (specification_ops addresses (ticks_of p) syntax ++ return_ops z) (empty parameters))
    (place_address place) (arena_words size) (frame_bytes size) ≡ None) v.0
    (builders_finished p accepted addresses text.program syntax parameters place ticks row.made
    (row.named few) small room)

pub known_words : KnownWordsAreWithin
known_words p accepted addresses text shared value syntax number parameters d choice address frame ticks known
    memory
    of few =
    let v = value_of p accepted shared known value (specification_at number shared) syntax number refl of in
    let row = rows_made p accepted shared syntax number parameters known v.1 in
    let size : ℕ = syntax_size text.program syntax in
    let small = small_row text shared.specifications memory.closures memory.stand_for number syntax
    (specification_at number shared) refl v.1 in
    subst (λ z. length
    (words_of (built_of (specification_ops addresses (ticks_of p) syntax ++ return_ops z)
    (empty parameters)) choice address
    frame) ≤ arena_words size) v.0
    (words_within p accepted addresses text.program syntax parameters choice address frame ticks row.made
    (row.named few) small)
