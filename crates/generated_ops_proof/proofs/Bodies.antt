-- A builder takes the ops of a whole body, from its entry to its end, where its labels all stand once.
use Rattle.std.proofs.Common.{◌≡◌, ℕ, ◌+◌, ◌-◌, ◌<◌, ◌≤◌, ◌==◌, Bool, true, false, List, [], ◌∷◌, ◌++◌, length}
use Rattle.std.proofs.Common.{Option, Some, None, refl, sym, ap, ◌∙◌, subst, arith}
use Rattle.std.specs.Prelude.{◌||◌, ◌&&◌, nat_le, not, slice_get, slice_index_or, take, if◌then◌else◌}
use Rattle.std.specs.List.{list_any}
use Rattle.std.proofs.Math.Seq.{get_or-append_seam, take-append_seam}
use Rattle.std.proofs.lemmas.Bool.{le-leb}
use Rattle.std.proofs.lemmas.Bool.Decides.{nat_tests}
use Rattle.std.proofs.lemmas.List.{length-append, length-take-le}
use Rattle.limits.specs.declared.ops.TheConstants.{OP_LIMIT}
use Rattle.history.specs.Syntax.{Captures}
use Rattle.typed_tree.specs.declared.expression.CaptureKind.{CaptureKind}
use Rattle.wellformed.specs.Places.{is_variable, kind_at}
use Rattle.icode_ops.specs.declared.op.Op.{Op}
use Rattle.icode_ops.specs.Flow.{goes_to}
use Rattle.icode_ir.specs.declared.body.Body.{Body}
use Rattle.icode_ir.specs.declared.build_op.BuildOp.{BuildOp}
use Rattle.icode_ir.specs.declared.build_op.BuildOp.TheVariants.{Enter, Leave}
use Rattle.icode_ir.specs.declared.build_op.BuildFault.TheVariants.{BadLabel, BadVariable, Full}
use Rattle.icode_ir.specs.Build.{Build, no_body, innermost, stands, of_body, is_open, has_open}
use Rattle.icode_ir.specs.Rules.{is_key, has_body_room, all_but_last, fault_of, effect}
use Rattle.tick_lower_spec.specs.declared.piece.Piece.{Piece}
use Rattle.generator_laws.specs.Laws.{built_of}
use Rattle.generator_laws.specs.Pieces.{capture_at, key_in_capture, pieces_ops}
use Rattle.generated_ops_proof.specs.Laws.{OwnsLabels}
use Rattle.generated_ops_proof.specs.Room.{HasRoom}
use Rattle.generated_ops_proof.proofs.Rooms.{Grown, room_front, room_behind, grown_both}
use Rattle.generated_ops_proof.proofs.Goes.{one_if, times, raised, Goes}
use Rattle.generated_ops_proof.proofs.Runs.{Built, At, last_of, taken_both, built_both, run}

one_more : {A : Type 0} (xs : List A) (x : A) → length (xs ++ x ∷ []) ≡ length xs + 1
one_more xs x = length-append xs (x ∷ [])

-- the last of a list
module _ (xs : List Body) (x : Body) where
  place_last : length (xs ++ x ∷ []) - 1 ≡ length xs
  place_last = omega (arith, one_more xs x)

  last_is : last_of (xs ++ x ∷ []) ≡ x
  last_is = ap (λ n. slice_index_or (xs ++ x ∷ []) n no_body) place_last ∙ get_or-append_seam xs x [] no_body

  front_is : all_but_last (xs ++ x ∷ []) ≡ xs
  front_is = ap (λ n. take n (xs ++ x ∷ [])) place_last ∙ take-append_seam xs (x ∷ [])

-- ---- a body whose labels all stand is left

module _ (body : Body) (ops : List Op)
    (all : (i : ℕ) → i < body.labels → stands (body.first_label + i) ops ≡ true) where
  closed_at : (l : ℕ) (b : Bool) → of_body l body ≡ b → (b && not (stands l ops)) ≡ false
  closed_at l false e = refl
  closed_at l true e =
      let low : body.first_label ≤ l = grind (arith, nat_tests) in
      let high : l < body.first_label + body.labels = grind (arith, nat_tests) in
      let at : body.first_label + (l - body.first_label) ≡ l = omega (arith, low) in
      let there : stands l ops ≡ true =
      ap (λ z. stands z ops) (sym at) ∙ all (l - body.first_label) (omega (arith, low, high)) in ap not there

  closed_to : (o : Option ℕ) → is_open body ops o ≡ false
  closed_to None = refl
  closed_to (Some l) = closed_at l (of_body l body) refl

  closed_in : (xs : List Op) → list_any (λ o. is_open body ops (goes_to o)) xs ≡ false
  closed_in [] = refl
  closed_in (x ∷ xs) = ap (λ z. z || list_any (λ o. is_open body ops (goes_to o)) xs) (closed_to (goes_to x))
      ∙ closed_in xs

  closed : has_open body ops ≡ false
  closed = closed_in ops

-- ---- from the entry to the end

module _ (k n m : ℕ) (kinds : List CaptureKind) (captures : Captures) (splice : ℕ → List BuildOp)
    (splices : (i : ℕ) (b : Build) → b.parameters ≡ k → OwnsLabels b → HasRoom (splice i) b
    → Built (raised (slice_get kinds i)) (splice i) b) (keys : (i : ℕ)
    → kind_at is_variable (slice_get kinds i) ≡ true → is_key k (key_in_capture (capture_at captures i)) ≡ true)
    (ps : List Piece) (g : ℕ → ℕ) (goes : (h : ℕ) → Goes k n m kinds ps h (g h))
    (once : (i : ℕ) → i < m → times i ps ≡ 1) where
  abbrev inside : List BuildOp
  inside = pieces_ops captures splice ps

  abbrev entering : List BuildOp
  entering = Enter n m ∷ []

  abbrev leaving : List BuildOp
  leaving = Leave ∷ []

  enter_taken : (b : Build) → HasRoom (Enter n m ∷ (inside ++ leaving)) b → fault_of (Enter n m) b ≡ None
  enter_taken b r =
      let bodies : nat_le (length b.bodies + 1) OP_LIMIT ≡ true =
      le-leb (length b.bodies + 1) OP_LIMIT (omega (arith, r.bodies)) in
      let variables : nat_le (b.variables + n) OP_LIMIT ≡ true =
      le-leb (b.variables + n) OP_LIMIT (omega (arith, r.variables)) in
      let labels : nat_le (b.labels + m) OP_LIMIT ≡ true = le-leb (b.labels + m) OP_LIMIT (omega (arith, r.labels)) in
      let all : has_body_room n m b ≡ true =
      ap (λ z. z && nat_le (b.variables + n) OP_LIMIT && nat_le (b.labels + m) OP_LIMIT) bodies
      ∙ (ap (λ z. z && nat_le (b.labels + m) OP_LIMIT) variables
      ∙ labels) in ap (λ z. if z then None else Some Full) all

  entered_bodies : (b : Build) → length (effect (Enter n m) b).bodies ≡ length b.bodies + 1
  entered_bodies b = one_more b.bodies _

  enter_grown : (b : Build) → Grown entering b (effect (Enter n m) b)
  enter_grown b = record {
    ops = omega arith;
    operands = omega arith;
    bodies = omega (arith, entered_bodies b);
    variables = omega arith;
    labels = omega arith;
  }

  fewer : (xs : List Body) → length (all_but_last xs) ≤ length xs
  fewer xs = omega (arith, length-take-le (length xs - 1) xs (omega arith))

  leave_grown : (b : Build) → Grown leaving b (effect Leave b)
  leave_grown b = record {
    ops = omega arith;
    operands = omega arith;
    bodies = omega (arith, fewer b.bodies);
    variables = omega arith;
    labels = omega arith;
  }

  filled : (x y : ℕ) → x ≡ y + 1 → (x == 0) ≡ false
  filled x y e = grind (arith, nat_tests)

  pub body_built : (b : Build) → b.parameters ≡ k → OwnsLabels b → HasRoom (Enter n m ∷ (inside ++ leaving)) b
      → Built g (Enter n m ∷ (inside ++ leaving)) b
  body_built b is_k none r =
      let in_it : Build = effect (Enter n m) b in
      let own : Body = record { first_variable = b.registers; variables = n; first_label = b.labels; labels = m } in
      let last : last_of in_it.bodies ≡ own = last_is b.bodies own in
      let en : (last_of in_it.bodies).variables ≡ n = ap (λ z. z.variables) last in
      let em : (last_of in_it.bodies).labels ≡ m = ap (λ z. z.labels) last in
      let ef : (last_of in_it.bodies).first_label ≡ b.labels = ap (λ z. z.first_label) last in
      let entered : At k n m b.labels in_it.bodies en em ef in_it = record {
        there = refl;
        parameters = is_k;
        low = omega arith;
        none = λ z high. none z (omega (arith, high));
      } in
      let still : HasRoom (inside ++ leaving) in_it =
      room_behind entering (inside ++ leaving) b in_it r (enter_grown b) in
      let w = run k n m b.labels in_it.bodies en em ef kinds captures splice splices keys ps (g
      (length b.operands)) in_it
      entered (goes (length b.operands))
      (λ i low. omega (arith, once i low, ap one_if (none (b.labels + i) (omega arith))))
      (room_front inside leaving in_it still) in
      let at_end : Build = built_of inside in_it in
      let after : Build = effect Leave at_end in
      let inner : innermost at_end ≡ own = ap last_of w.at.there ∙ last in
      let all : (i : ℕ) → i < (innermost at_end).labels → stands
      ((innermost at_end).first_label + i) at_end.ops ≡ true =
      λ i low. ap (λ z. stands (z.first_label + i) at_end.ops) inner
      ∙ w.all i (omega (arith, low, ap (λ z. z.labels) inner)) in
      let some : (length at_end.bodies == 0) ≡ false = filled (length at_end.bodies) (length b.bodies)
      (ap length w.at.there ∙ one_more b.bodies own) in
      let left : fault_of Leave at_end ≡ None =
      ap (λ z. if z then Some BadLabel else (if length at_end.bodies == 0 then Some BadVariable else None))
      (closed (innermost at_end) at_end.ops all)
      ∙ ap (λ z. if z then Some BadVariable else None) some in
      let whole : built_of (inside ++ leaving) in_it ≡ after = built_both inside leaving in_it in
      let bodies : after.bodies ≡ b.bodies = ap all_but_last w.at.there ∙ front_is b.bodies own in record {
        taken = (enter_taken b r, taken_both inside leaving in_it w.taken (left, tt));
        height = ap (λ z. length z.operands) whole ∙ w.height;
        bodies = ap (λ z. z.bodies) whole ∙ bodies;
        parameters = ap (λ z. z.parameters) whole ∙ (w.at.parameters ∙ sym is_k);
        more = omega (arith, ap (λ z. z.labels) whole, w.more);
        kept = λ z low. ap (λ x. stands z x.ops) whole ∙ w.kept z low;
        none = λ z high. ap (λ x. stands z x.ops) whole ∙ w.at.none z (omega (arith, high, ap (λ x. x.labels) whole));
        grown = subst (λ z. Grown (Enter n m ∷ (inside ++ leaving)) b z) (sym whole)
            (grown_both entering (inside ++ leaving) b in_it after (enter_grown b)
            (grown_both inside leaving in_it at_end after w.grown (leave_grown at_end)));
      }
