-- The function of a tick issues the ops of its specification.
use Rattle.std.proofs.Common.{◌≡◌, inl, inr, ℕ, zero, suc, ◌+◌, ◌*◌, ◌/◌, ◌%◌, ◌<◌, ◌≤◌, List, [], ◌∷◌, ◌++◌}
use Rattle.std.proofs.Common.{Some, refl, sym, ap, ◌∙◌, subst, arith}
use Rattle.std.proofs.lemmas.Bool.{ne_eqb, cases_eq}
use Rattle.word32.specs.Words.{wrap}
use Rattle.word32.specs.declared.map.TheConstants.{EMIT_STACK, EMIT_STACK_BYTES, SEGMENT_BYTES}
use Rattle.word32.specs.declared.map.TheConstants.{SPEC_COUNT_CELL, NEXT_CLOSURE_CELL}
use Rattle.history.specs.Syntax.{Syntax, Ticked, Captures, NoCapture, Word, Named, Spliced}
use Rattle.mips_encoder.specs.declared.instruction.Instr.{Instr}
use Rattle.mips_model.specs.State.{Code, Data}
use Rattle.mips_model.specs.Accesses.{Loads}
use Rattle.mips_model.specs.Laws.{HasAt, at, Reaches}
use Rattle.mips_encoder.specs.Addresses.{past}
use Rattle.mips_model.proofs.Reach.{front, back, reaches_on, past_append, step_acts}
use Rattle.meaning_state.specs.Shared.{Shared, Specification}
use Rattle.meaning_state.specs.Rows.{numbered, specification_at}
use Rattle.icode_ir.specs.declared.build_op.BuildOp.{BuildOp}
use Rattle.icode_ir.specs.declared.build_op.BuildOp.TheVariants.{GetSpec, SetSpec}
use Rattle.icode_ir.specs.Decoded.{op_of}
use Rattle.mips_assembly.specs.Assembly.{sw, lw, addiu, jr, nop}
use Rattle.icode_templates_proof.proofs.Memory.{update_same, update_other}
use Rattle.icode_templates_proof.proofs.Leaves.{Leaves as Straight, leaves_on, leaves_run}
use Rattle.icode_templates_proof.proofs.Jumps.{slot_runs}
use Rattle.icode_templates_proof.specs.Closures.{word_at, with_word, closure_of, row_place}
use Rattle.icode_templates_proof.proofs.Skips.{one_loads, one_leaves}
use Rattle.closures_proof.proofs.Kept.{closures_same}
use Rattle.closures_proof.specs.Relation.{Text, tick_of, IsOf, HasSpecifications}
use Rattle.generator_laws.specs.Calls.{RunsWith}
use Rattle.tick_lower_spec.specs.declared.piece.Piece.{Piece}
use Rattle.tick_lower_spec.specs.declared.piece.Piece.TheVariants.{Plain as OpPiece, Captured, GetKey, SetKey, Splice}
use Rattle.tick_lower_spec.specs.declared.piece.Piece.TheVariants.{Nothing}
use Rattle.generator_laws.specs.Pieces.{capture_at, word_in, key_in_capture, piece_ops, pieces_ops, syntax_ops}
use Rattle.generator_laws.specs.Pieces.{spliced_ops}
use Rattle.generator_laws.specs.Pieces.{IsKey, IsSplice, PieceFits, PiecesFit, IsWhole, AreWhole}
use Rattle.routine_spec.specs.Generator.{enter_code, leave_code, emit_code, key_code, splice_code}
use Rattle.routine_spec.specs.Generator.{piece_code, pieces_code, piece_cost, pieces_cost, piece_depth, pieces_depth}
use Rattle.routine_spec.specs.Generator.{syntax_cost, spliced_cost, syntax_depth, spliced_depth}
use Rattle.generator_laws.specs.Laws.{HasGenerators, others, Leaves, Enters, Generates}
use Rattle.generator_laws.proofs.Runs.{runs_on, runs_behind, runs_then, runs_counted, runs_quiet, issuing_append}
use Rattle.generator_laws.proofs.Memory.{load_emits, store_emits}
use Rattle.generator_laws.proofs.Issuing.{set, Inside, Goes, HasPlace, offset, op_goes, captured_goes}
use Rattle.generator_laws.proofs.Splices.{key_goes, splice_goes}
use Rattle.generator_laws.proofs.Found.{HasTick, tick_found, key_found, word_there, key_there, splice_there, syntax_of}
use Rattle.generator_laws.proofs.Found.{place_there, word_in_memory}

-- ---- stretches, one behind another

goes_on : {xs ys : List BuildOp} {m n : ℕ} {c : Code} {p q r a top ra : ℕ} {start d : Data} →
    (g : Goes xs m c p q a top ra start d) → Goes ys n c q r a top ra start g.after →
    Goes (xs ++ ys) (m + n) c p r a top ra start d
goes_on {xs} {ys} {m} {n} {c} {p} {q} {r} {a} {top} {ra} {start} {d} g f = record {
  after = f.after;
  runs = subst (λ calls. RunsWith calls (m + n) (at c p 0 d) (at c r 0 f.after)) (sym (issuing_append xs ys))
      (runs_on g.runs f.runs);
  inside = f.inside;
}

goes_to : {xs : List BuildOp} {m : ℕ} {c : Code} {p q r a top ra : ℕ} {start d : Data} → q ≡ r →
    Goes xs m c p q a top ra start d → Goes xs m c p r a top ra start d
goes_to {xs} {m} {c} {p} {q} {r} {a} {top} {ra} {start} {d} e g = subst (λ y. Goes xs m c p y a top ra start d) e g

past_rises : (p : ℕ) (is : List Instr) → p ≤ past p is
past_rises p [] = omega arith
past_rises p (i ∷ is) = let r = past_rises (p + 4) is in omega (arith, r)

-- ---- what stays in memory

same_rows : (d e : Data) → others e ≡ others d → e.spec_rows ≡ d.spec_rows
same_rows d e o = ap (λ (x : Data). x.spec_rows) o

pub specifications_stay : (text : Text) (shared : Shared) (d e : Data) → others e ≡ others d →
    e.registers 28 ≡ d.registers 28 → HasSpecifications text shared d → HasSpecifications text shared e
specifications_stay text shared d e o g h = record {
  closures = h.closures;
  memory = closures_same h.closures d e g (ap (λ (x : Data). x.closures) o) (same_rows d e o)
      (ap (λ (x : Data). word_at x.cells SPEC_COUNT_CELL) o) (ap (λ (x : Data). word_at x.cells NEXT_CLOSURE_CELL) o)
      h.memory;
  stand_for = h.stand_for;
  bytes = h.bytes;
}

-- ---- what is spliced in

module _ (pieces : ℕ → List Piece) where
  ops_at : (cs : Captures) (i : ℕ) → IsSplice (capture_at cs i) →
      spliced_ops pieces cs i ≡ syntax_ops pieces (syntax_of (capture_at cs i))
  ops_at NoCapture i h = absurd h
  ops_at (Word word cs) zero h = absurd h
  ops_at (Word word cs) (suc i) h = ops_at cs i h
  ops_at (Named key cs) zero h = absurd h
  ops_at (Named key cs) (suc i) h = ops_at cs i h
  ops_at (Spliced syntax cs) zero h = refl
  ops_at (Spliced syntax cs) (suc i) h = ops_at cs i h

  cost_at : (cs : Captures) (i : ℕ) → IsSplice (capture_at cs i) →
      spliced_cost pieces cs i ≡ syntax_cost pieces (syntax_of (capture_at cs i))
  cost_at NoCapture i h = absurd h
  cost_at (Word word cs) zero h = absurd h
  cost_at (Word word cs) (suc i) h = cost_at cs i h
  cost_at (Named key cs) zero h = absurd h
  cost_at (Named key cs) (suc i) h = cost_at cs i h
  cost_at (Spliced syntax cs) zero h = refl
  cost_at (Spliced syntax cs) (suc i) h = cost_at cs i h

  depth_at : (cs : Captures) (i : ℕ) → IsSplice (capture_at cs i) →
      spliced_depth pieces cs i ≡ syntax_depth pieces (syntax_of (capture_at cs i))
  depth_at NoCapture i h = absurd h
  depth_at (Word word cs) zero h = absurd h
  depth_at (Word word cs) (suc i) h = depth_at cs i h
  depth_at (Named key cs) zero h = absurd h
  depth_at (Named key cs) (suc i) h = depth_at cs i h
  depth_at (Spliced syntax cs) zero h = refl
  depth_at (Spliced syntax cs) (suc i) h = depth_at cs i h

  deep : (syntax : Syntax) → 0 < syntax_depth pieces syntax
  deep (Ticked tick captures) = omega arith

-- ---- the pieces

abbrev pub EmitsFor : (c : Code) → Text → (ℕ → List Piece) → Shared → Syntax → Type 0
EmitsFor c text pieces shared syntax =
    (number top : ℕ) (d : Data) → HasSpecifications text shared d → IsOf syntax (specification_at number shared)
    → Enters number top (syntax_depth pieces syntax) d
    → Generates (syntax_ops pieces syntax) (syntax_cost pieces syntax) top c (text.generator_at (tick_of syntax)) d

module _ (c : Code) (text : Text) (pieces : ℕ → List Piece) (shared : Shared) (tick : ℕ) (cs : Captures) (number top ra
    :
    ℕ) (start : Data) (hs : HasSpecifications text shared start) (is : IsOf (Ticked tick cs) (specification_at number
    shared)) (from : EMIT_STACK ≤ top) (even : top % 4 ≡ 0) (ih : (i : ℕ) → IsSplice (capture_at cs i) → EmitsFor c text
    pieces shared (syntax_of (capture_at cs i))) where
  abbrev a : ℕ
  a = closure_of start number

  abbrev rows : List Specification
  rows = shared.specifications

  abbrev PiecesGo : List Piece → Type 0
  PiecesGo ps =
      (p : ℕ) (d : Data) → Inside a top ra start d → PiecesFit cs ps → HasAt c p (pieces_code ps)
      → past p (pieces_code ps) < SEGMENT_BYTES
      → top + 8 + 8 * pieces_depth (spliced_depth pieces cs) ps ≤ EMIT_STACK + EMIT_STACK_BYTES
      → Goes (pieces_ops cs (spliced_ops pieces cs) ps) (pieces_cost (spliced_cost pieces cs) ps) c p
      (past p (pieces_code ps)) a top ra start d

  -- the specifications, and the closure of this one, at each piece
  specifications_at : (d : Data) → Inside a top ra start d → HasSpecifications text shared d
  specifications_at d s =
      specifications_stay text shared start d s.rest
      (s.registers 28 (
        (omega arith, omega arith, omega arith, omega arith, omega arith, omega arith),
        omega arith,
        omega arith,
        omega arith,
      )) hs

  tick_at : (d : Data) → Inside a top ra start d → HasTick text shared (Ticked tick cs) number d
  tick_at d s = tick_found text shared d number (Ticked tick cs) (numbered number rows) (specifications_at d s) refl is

  same_place : (d : Data) → Inside a top ra start d → closure_of d number ≡ a
  same_place d s = ap (λ (f : ℕ → ℕ). word_at f (row_place number)) (same_rows start d s.rest)

  -- one piece
  abbrev PieceGoes : Piece → Type 0
  PieceGoes x =
      (p : ℕ) (d : Data) → Inside a top ra start d → PieceFits cs x → HasAt c p (piece_code x)
      → past p (piece_code x) < SEGMENT_BYTES
      → top + 8 + 8 * piece_depth (spliced_depth pieces cs) x ≤ EMIT_STACK + EMIT_STACK_BYTES
      → Goes (piece_ops cs (spliced_ops pieces cs) x) (piece_cost (spliced_cost pieces cs) x) c p (past p (piece_code
      x))
      a top ra start d

  captured_piece : (i : ℕ) → PieceGoes (Captured i)
  captured_piece i p d s fits h low room =
      let t = tick_at d s in
      let x = word_in (capture_at cs i) in
      let there = word_there rows number cs t.words i t.captured fits in
      captured_goes c p i x s
      (subst (λ n. HasPlace n i) (same_place d s) (place_there text shared (Ticked tick cs) number d i x t there))
      (ap (λ n. word_at d.closures (n + offset i)) (sym (same_place d s))
      ∙ word_in_memory text shared (Ticked tick cs) number d i x t there) h

  key_piece : (code i : ℕ) (op : BuildOp) (p : ℕ) (d : Data) → Inside a top ra start d → IsKey (capture_at cs i) →
      ((x y : ℕ) → x ≡ key_in_capture (capture_at cs i) → op_of code x y ≡ Some op) →
      HasAt c p (key_code i ++ emit_code code)
      → Goes (op ∷ []) 13 c p (past p (key_code i ++ emit_code code)) a top ra start d
  key_piece code i op p d s fits named h =
      let t = tick_at d s in
      let key = key_in_capture (capture_at cs i) in
      let k = key_there rows number cs t.words i t.captured fits in
      let m = key_found text shared d k.number key (numbered k.number rows) (specifications_at d s) refl k.variable
      k.key_is in
      key_goes c p code i k.number key op s
      (record {
        place = subst (λ n. HasPlace n i) (same_place d s)
            (place_there text shared (Ticked tick cs) number d i k.number t k.there);
        number_is = ap (λ n. word_at d.closures (n + offset i)) (sym (same_place d s))
            ∙ word_in_memory text shared (Ticked tick cs) number d i k.number t k.there;
        positive = m.positive;
        few = m.few;
        from = m.from;
        to = m.to;
        even = m.even;
      }) m.first named h

  splice_piece : (i : ℕ) → PieceGoes (Splice i)
  splice_piece i p d s fits h low room =
      let t = tick_at d s in
      let specs = specifications_at d s in
      let k = splice_there rows number cs t.words i t.captured fits in
      let inner = syntax_of (capture_at cs i) in
      let m = tick_found text shared d k.number inner (numbered k.number rows) specs refl k.is_of in
      let ops = ops_at pieces cs i fits in
      let cost = cost_at pieces cs i fits in
      let depth = depth_at pieces cs i fits in
      let more = deep pieces inner in
      let g : Goes (syntax_ops pieces inner) (15 + syntax_cost pieces inner) c p (past p (splice_code i)) a top ra start
      d =
      splice_goes c p i k.number (text.generator_at (tick_of inner)) (syntax_depth pieces inner)
      (syntax_cost pieces inner) (syntax_ops pieces inner) a top ra start d s
      (record {
        place = subst (λ n. HasPlace n i) (same_place d s)
            (place_there text shared (Ticked tick cs) number d i k.number t k.there);
        number_is = ap (λ n. word_at d.closures (n + offset i)) (sym (same_place d s))
            ∙ word_in_memory text shared (Ticked tick cs) number d i k.number t k.there;
        positive = m.positive;
        few = m.few;
        from = m.from;
        to = omega (arith, m.to);
        even = m.even;
      }) m.first from (omega (arith, depth, room)) more even low
      (λ e o g28 enters. ih i fits k.number (top + 8) e (specifications_stay text shared d e o g28 specs) k.is_of
      enters)
      h in
      subst (λ xs. Goes xs (15 + spliced_cost pieces cs i) c p (past p (splice_code i)) a top ra start d) (sym ops)
      (subst (λ n. Goes (syntax_ops pieces inner) (15 + n) c p (past p (splice_code i)) a top ra start d) (sym cost) g)

  nothing_piece : PieceGoes Nothing
  nothing_piece p d s fits h low room = record {
    after = d;
    runs = runs_quiet (leaves_run (nop ∷ []) c 0 0 p d d (λ rest. refl) h) refl;
    inside = s;
  }

  piece_goes : (x : Piece) → PieceGoes x
  piece_goes (OpPiece op) p d s fits h low room = op_goes c p op s fits.0 h
  piece_goes (Captured i) p d s fits h low room = captured_piece i p d s fits h low room
  piece_goes (GetKey i) p d s fits h low room =
      key_piece 21 i (GetSpec (key_in_capture (capture_at cs i))) p d s fits (λ x y e. ap (λ n. Some (GetSpec n)) e) h
  piece_goes (SetKey i) p d s fits h low room =
      key_piece 22 i (SetSpec (key_in_capture (capture_at cs i))) p d s fits (λ x y e. ap (λ n. Some (SetSpec n)) e) h
  piece_goes (Splice i) p d s fits h low room = splice_piece i p d s fits h low room
  piece_goes Nothing p d s fits h low room = nothing_piece p d s fits h low room

  pieces_go : (ps : List Piece) → PiecesGo ps
  pieces_go [] p d s fits h low room = record { after = d; runs = runs_quiet (record { by = refl }) refl; inside = s }
  pieces_go (x ∷ ps) p d s fits h low room =
      let way = past_append p (piece_code x) (pieces_code ps) in
      let rises = past_rises (past p (piece_code x)) (pieces_code ps) in
      let g = piece_goes x p d s fits.0 (front c p (piece_code x) (pieces_code ps) h) (omega (arith, way, rises, low))
      (omega (arith, room)) in
      goes_to (sym way)
      (goes_on g (pieces_go ps (past p (piece_code x)) g.after g.inside fits.1
      (back c p (piece_code x) (pieces_code ps) h) (omega (arith, way, low)) (omega (arith, room))))

-- ---- entry and return

module _ (c : Code) (number top depth : ℕ) (d : Data) (e : Enters number top depth d) (more : 0 < depth) where
  abbrev closure : ℕ
  closure = closure_of d number

  abbrev ra : ℕ
  ra = d.registers 31

  abbrev e1 : Data
  e1 = record d { emit_stack = with_word top ra d.emit_stack }

  abbrev e2 : Data
  e2 = record e1 { emit_stack = with_word (top + 4) closure e1.emit_stack }

  abbrev e3 : Data
  e3 = set 15 (wrap (d.registers 15 + 8)) e2

  enters_straight : Straight enter_code 0 d 0 e3
  enters_straight =
      leaves_on (sw 31 0 15 ∷ []) (sw 12 4 15 ∷ addiu 15 15 8 ∷ []) 0 0 0 d e1 e3
      (one_leaves (sw 31 0 15) 0 d e1 refl refl
      (store_emits 31 0 15 top d (omega (arith, e.pointer, e.from, e.to)) e.even e.from (omega (arith, e.to, more)) ra
      refl))
      (leaves_on (sw 12 4 15 ∷ []) (addiu 15 15 8 ∷ []) 0 0 0 e1 e2 e3
      (one_leaves (sw 12 4 15) 0 e1 e2 refl refl
      (store_emits 12 4 15 (top + 4) e1 (omega (arith, e.pointer, e.from, e.to)) (omega (arith, e.even))
      (omega (arith, e.from)) (omega (arith, e.to, more)) closure e.closure))
      (λ rest. refl))

  pub inside_first : Inside closure top ra d e3
  inside_first = record {
    closure = e.closure;
    pointer = omega (arith, e.pointer, e.from, e.to);
    link_kept = update_other ((top + 4) / 4) closure e1.emit_stack (top / 4) (omega (arith, e.even))
        ∙ update_same (top / 4) ra d.emit_stack;
    closure_kept = update_same ((top + 4) / 4) closure e1.emit_stack;
    registers = λ r k. let n15 = ne_eqb r 15 k.2 in rw n15 refl;
    below = λ n l. update_other ((top + 4) / 4) closure e1.emit_stack n (omega (arith, l, e.even))
        ∙ update_other (top / 4) ra d.emit_stack n (omega (arith, l));
    rest = refl;
  }

  pub enters : (p : ℕ) → HasAt c p enter_code → Reaches 3 (at c p 0 d) (at c (p + 4 + 4 + 4) 0 e3)
  enters p h = leaves_run enter_code c 0 0 p d e3 enters_straight h

  module _ (l : Data) (s : Inside closure top ra d l) where
    abbrev l1 : Data
    l1 = set 31 ra l

    abbrev l2 : Data
    l2 = set 15 (wrap (l.registers 15 + 4294967288)) l1

    leaves_straight : Straight (lw 31 65528 15 ∷ addiu 15 15 65528 ∷ []) 0 l 0 l2
    leaves_straight =
        leaves_on (lw 31 65528 15 ∷ []) (addiu 15 15 65528 ∷ []) 0 31 0 l l1 l2
        (one_loads (lw 31 65528 15) 0 31 l l1 refl refl
        (load_emits 31 65528 15 top l (omega (arith, s.pointer, e.from, e.to)) e.even e.from (omega (arith, e.to, more))
        ∙ ap (λ n. Loads 31 (set 31 n l)) s.link_kept))
        (λ rest. refl)

    pub returns : (p : ℕ) → HasAt c p leave_code → Reaches 4 (at c p 0 l) (at c ra 0 l2)
    returns p h =
        reaches_on {k = 2} {n = 2}
        (leaves_run (lw 31 65528 15 ∷ addiu 15 15 65528 ∷ []) c 0 0 p l l2 leaves_straight (h.0, (h.1.0, tt)))
        (slot_runs c (p + 4 + 4) 0 ra l2 l2 (step_acts (jr 31) (at c (p + 4 + 4) 0 l2) h.1.1.0 refl) h.1.1.1.0)

    pub left : Leaves top d l2
    left = record {
      registers = λ r k. elim (cases_eq r 12) [
        | inl is ↦ subst (λ q. l2.registers q ≡ d.registers q) (sym is) (s.closure ∙ sym e.closure)
        | inr n12 ↦ elim (cases_eq r 15) [
          | inl is ↦ subst (λ q. l2.registers q ≡ d.registers q) (sym is) (omega (arith, s.pointer, e.pointer, e.to))
          | inr n15 ↦ elim (cases_eq r 31) [
            | inl is ↦ subst (λ q. l2.registers q ≡ d.registers q) (sym is) refl
            | inr n31 ↦ (let t15 = ne_eqb r 15 n15 in let t31 = ne_eqb r 31 n31 in
                rw (t15, t31) (s.registers r (k, n12, n15, n31)))
          ]
        ]
      ];
      below = s.below;
      rest = s.rest;
    }

-- ---- whole

module _ (c : Code) (text : Text) (pieces : ℕ → List Piece) (ticks : ℕ) (shared : Shared) (has : HasGenerators text
    pieces ticks c) where
  emits_tick : (tick : ℕ) (cs : Captures) → tick < ticks → PiecesFit cs (pieces tick) →
      ((i : ℕ) → IsSplice (capture_at cs i) → EmitsFor c text pieces shared (syntax_of (capture_at cs i))) →
      EmitsFor c text pieces shared (Ticked tick cs)
  emits_tick tick cs known fits ih number top d hs is e =
      let p = text.generator_at tick in
      let ps = pieces tick in
      let h = has.stands tick known in
      let depth = syntax_depth pieces (Ticked tick cs) in
      let more = deep pieces (Ticked tick cs) in
      let p3 = p + 4 + 4 + 4 in
      let h2 = back c p enter_code (pieces_code ps ++ leave_code) h in
      let way = past_append p3 (pieces_code ps) leave_code in
      let rises = past_rises (past p3 (pieces_code ps)) leave_code in
      let low = has.low tick known in
      let first = enters c number top depth d e more p (front c p enter_code (pieces_code ps ++ leave_code) h) in
      let g = pieces_go c text pieces shared tick cs number top (d.registers 31) d hs is e.from e.even ih ps p3
      (e3 c number top depth d e more) (inside_first c number top depth d e more) fits
      (front c p3 (pieces_code ps) leave_code h2) (omega (arith, way, rises, low)) (omega (arith, e.to)) in
      let last = returns c number top depth d e more g.after g.inside (past p3 (pieces_code ps))
      (back c p3 (pieces_code ps) leave_code h2) in
      record {
        after = l2 c number top depth d e more g.after g.inside;
        runs = runs_counted (omega arith) (runs_then (runs_behind first refl g.runs) last refl);
        leaves = left c number top depth d e more g.after g.inside;
      }

  mutual
    emits_for : (syntax : Syntax) → IsWhole pieces ticks syntax → EmitsFor c text pieces shared syntax
    emits_for (Ticked tick cs) w = emits_tick tick cs w.0 w.1 (emits_in cs w.2)

    emits_in : (cs : Captures) → AreWhole pieces ticks cs → (i : ℕ) → IsSplice (capture_at cs i) →
        EmitsFor c text pieces shared (syntax_of (capture_at cs i))
    emits_in NoCapture w i h = absurd h
    emits_in (Word word cs) w zero h = absurd h
    emits_in (Word word cs) w (suc i) h = emits_in cs w i h
    emits_in (Named key cs) w zero h = absurd h
    emits_in (Named key cs) w (suc i) h = emits_in cs w i h
    emits_in (Spliced syntax cs) w zero h = emits_for syntax w.0
    emits_in (Spliced syntax cs) w (suc i) h = emits_in cs w.1 i h

pub generated : (text : Text) (pieces : ℕ → List Piece) (ticks : ℕ) (c : Code) (shared : Shared) (syntax : Syntax)
    (number top : ℕ) (d : Data) → HasGenerators text pieces ticks c → HasSpecifications text shared d →
    IsWhole pieces ticks syntax → IsOf syntax (specification_at number shared) →
    Enters number top (syntax_depth pieces syntax) d →
    Generates (syntax_ops pieces syntax) (syntax_cost pieces syntax) top c (text.generator_at (tick_of syntax)) d
generated text pieces ticks c shared syntax number top d has hs whole is e =
    emits_for c text pieces ticks shared has syntax whole number top d hs is e
