-- Operators on one word and on two, and the checks of divisions.
use Rattle.std.proofs.Common.{◌≡◌, ℕ, suc, ◌+◌, ◌<◌, ◌≤◌, true, List, Option, Some, None, refl, sym, ap, ◌∙◌}
use Rattle.std.proofs.Common.{subst, arith, slice_get}
use Rattle.std.proofs.lemmas.Bool.{and_parts}
use Rattle.host_edge.specs.declared.ending.Ending.TheVariants.{Trap}
use Rattle.host_edge.specs.declared.ending.TrapKind.{TrapKind}
use Rattle.history.specs.Events.{End, Ended}
use Rattle.mips_model.specs.State as machine
use Rattle.mips_model.specs.State.{Outside, Data}
use Rattle.mips_model.specs.Steps.{going}
use Rattle.mips_encoder.specs.Addresses.{past}
use Rattle.mips_model.specs.Laws.{at}
use Rattle.icode_ops.specs.declared.op.Op.{Op}
use Rattle.icode_ops.specs.declared.op.Op.TheVariants.{Bin, CheckDivision, CheckZero, Un}
use Rattle.icode_ops.specs.declared.kind.BinKind.{BinKind}
use Rattle.icode_ops.specs.declared.kind.UnKind.{UnKind}
use Rattle.icode_ops.specs.Flow.{defined, falls}
use Rattle.icode_meaning.specs.State.{Function, Frame, Log, Running, Halted, nothing}
use Rattle.icode_meaning.specs.Steps.{uses_on, paid, moved_on, set, goes_on, unless, untrapped}
use Rattle.icode_meaning.specs.Costs.{least_of, most_of}
use Rattle.meaning_state.specs.Operators.{bin_value, un_value, bin_trap, signed_trap, zero_trap}
use Rattle.icode_templates_proof.specs.Spots.{value}
use Rattle.icode_templates_proof.specs.Moves.{Writes, Computes, EndsIn, behind}
use Rattle.icode_templates_proof.proofs.Operators.{bin_range}
use Rattle.icode_templates_proof.proofs.Unary.{un_range, un_writes}
use Rattle.icode_templates_proof.proofs.Quotients.{bin_computes}
use Rattle.icode_templates_proof.proofs.Checks.{zero_checks_pass, zero_checks_trap}
use Rattle.icode_templates_proof.proofs.DivisionChecks.{division_checks_pass, division_checks_trap}
use Rattle.icode_expand_proof.specs.Relation.{Holds, Pays}
use Rattle.icode_expand_proof.specs.Settings.{Setting, places_of, Standing}
use Rattle.icode_expand_proof.specs.Standing.{layout_of, op_stands_at, OpsStand}
use Rattle.icode_expand_proof.proofs.Codes.{op_code, one_stands, code_low, next_at}
use Rattle.icode_expand_proof.proofs.Frames.{spots}
use Rattle.icode_expand_proof.proofs.Liveness.{next_follows}
use Rattle.icode_expand_proof.proofs.Paying.{Operand, first_operand, second_operand, stuck_pays}
use Rattle.icode_expand_proof.proofs.Writes.{defined_inside, holds_set, write_pays, come_pays}
use Rattle.icode_expand_proof.specs.Relation.{HistoryAgrees, HasLeft, IsFair}
use Rattle.icode_expand_proof.proofs.Memory.{history_as, left_as}

-- the run ends
pub end_pays : (s : Setting) (log log' : Log) (from : machine.State) (least most : ℕ) (end : End)
    (outside : Outside)
    → log'.least ≤ log.least + least → log.most + most ≤ log'.most → HistoryAgrees s log'.shared.history outside.history
    → HasLeft s outside → IsFair (Some end) → EndsIn least most end from s.code outside →
    Pays s (Halted end log') log from
end_pays s log log' from least most end outside lo hi same made fair e =
    record {
      count = e.count;
      low = omega (arith, lo, e.over);
      high = omega (arith, hi, e.under);
      related = record {
        ending = sym e.ending;
        history = history_as s refl (sym (ap (λ (o : Outside). o.history) e.outside_is)) same;
        code = e.code_is;
        making = left_as s (sym e.outside_is) made;
        fair = fair;
      };
    }

module _ (s : Setting) (st : Standing s) where
  -- a register is set, and HI or LO may have been read
  pub compute_pays : (w : Frame) (arguments : ℕ → Option ℕ) (answer : Option ℕ) (waiting : List Frame) (log : Log)
      (from : machine.State) (o : Op) (dst x l m : ℕ) (before : Data)
      → slice_get w.function.ops w.index ≡ Some o → defined o ≡ Some dst → falls o ≡ true → x < 4294967296
      → least_of o ≤ l → m ≤ most_of o → Holds s w arguments answer waiting log before
      → Computes ((layout_of w.function (places_of s w.function)).spot dst) x l m from s.code
      (past (op_stands_at w.function (places_of s w.function) w.index)
      (op_code w.function (places_of s w.function) o)) before
      → Pays s (Running (set dst x w) nothing None waiting (paid o log)) log from
  compute_pays w arguments answer waiting log from o dst x l m before i df fo word lo hi h wr =
      record {
        count = wr.runs.count;
        low = omega (arith, lo, wr.runs.over);
        high = omega (arith, hi, wr.runs.under);
        related = (
          st,
          record {
            d = wr.after;
            holds = holds_set s st w arguments answer waiting log o dst x before wr.after i df fo word h wr.puts;
            recent = wr.recent;
            few = wr.few;
            is = wr.runs.reaches.by
                ∙ ap (λ n. going (behind s.code n wr.recent wr.after))
                (sym (next_at w.function (places_of s w.function) w.index o i));
          },
        );
      }

  module _ (w : Frame) (arguments : ℕ → Option ℕ) (answer : Option ℕ) (waiting : List Frame) (log : Log) (d : Data)
      (h : Holds s w arguments answer waiting log d) where
    abbrev f : Function
    f = w.function

    abbrev places : List ℕ
    places = places_of s f

    abbrev a : ℕ
    a = op_stands_at f places w.index

    stands : OpsStand s.code f places
    stands = (st.functions f.address f h.known).1

    pub un_pays : (kind : UnKind) (to from : ℕ) → slice_get f.ops w.index ≡ Some (Un kind to from)
        → uses_on (Un kind to from) w.on ≡ true
        → Pays s (Running (set to (un_value kind (w.values from)) w) nothing None waiting
        (paid (Un kind to from) log)) log (at s.code a 0 d)
    un_pays kind to from i u =
        let o = Un kind to from in
        let x = first_operand s st w d o from h.known h.ready i refl (and_parts (w.on from) true u).0 in
        let spot = (layout_of f places).spot in
        write_pays s st w arguments answer waiting log log (at s.code a 0 d) o to (un_value kind (w.values from)) 3 9 d
        i refl refl (un_range kind (w.values from)) (omega arith) (omega arith) (omega arith) (omega arith) h
        (subst (λ z. Writes (spot to) z 3 9 (at s.code a 0 d) s.code (past a (op_code f places o)) d)
        (ap (un_value kind) x.value_is)
        (un_writes kind s.code a f.charge d (spot to) (spot from) h.ready.framed
        (spots f places to stands.suits (defined_inside s st w o to h.known i refl))
        (spots f places from stands.suits x.inside) x.word (one_stands s.code f places stands w.index o i)))

    bin_goes : (kind : BinKind) (to left right : ℕ) → slice_get f.ops w.index ≡ Some (Bin kind to left right)
        → uses_on (Bin kind to left right) w.on ≡ true → bin_trap kind (w.values left) (w.values right) ≡ None
        → Pays s (Running (set to (bin_value kind (w.values left) (w.values right)) w) nothing None waiting
        (paid (Bin kind to left right) log)) log (at s.code a 0 d)
    bin_goes kind to left right i u none =
        let o = Bin kind to left right in
        let q = and_parts (w.on left) (w.on right) u in
        let x = first_operand s st w d o left h.known h.ready i refl q.0 in
        let y = second_operand s st w d o right h.known h.ready i refl q.1 in
        let spot = (layout_of f places).spot in
        let e = ap (λ z. bin_value kind z (value d (spot right))) x.value_is ∙ ap (bin_value kind (w.values left))
        y.value_is in
        let t = ap (λ z. bin_trap kind z (value d (spot right))) x.value_is ∙ ap (bin_trap kind (w.values left))
        y.value_is in
        compute_pays w arguments answer waiting log (at s.code a 0 d) o to
        (bin_value kind (w.values left) (w.values right)) 4 12 d i refl refl
        (bin_range kind (w.values left) (w.values right) (h.ready.words left) (h.ready.words right))
        (omega arith) (omega arith) h
        (subst (λ z. Computes (spot to) z 4 12 (at s.code a 0 d) s.code (past a (op_code f places o)) d) e
        (bin_computes kind s.code a f.charge d (spot to) (spot left) (spot right) h.ready.framed
        (spots f places to stands.suits (defined_inside s st w o to h.known i refl))
        (spots f places left stands.suits x.inside) (spots f places right stands.suits y.inside) x.word y.word
        (t ∙ none) (one_stands s.code f places stands w.index o i)))

    -- what is stuck has paid nothing
    pub bin_pays : (kind : BinKind) (to left right : ℕ) → slice_get f.ops w.index ≡ Some (Bin kind to left right)
        → uses_on (Bin kind to left right) w.on ≡ true → (trap : Option TrapKind)
        → bin_trap kind (w.values left) (w.values right) ≡ trap
        → Pays s (untrapped trap log (goes_on (set to (bin_value kind (w.values left) (w.values right)) w) waiting
        (paid (Bin kind to left right) log))) log (at s.code a 0 d)
    bin_pays kind to left right i u None e = bin_goes kind to left right i u e
    bin_pays kind to left right i u (Some k) e = stuck_pays s log a d h.memory

    pub zero_check_pays : (b : ℕ) → slice_get f.ops w.index ≡ Some (CheckZero b) → uses_on (CheckZero b) w.on ≡ true
        → (trap : Option TrapKind) → zero_trap (w.values b) ≡ trap
        → Pays s (unless trap (paid (CheckZero b) log) (goes_on (moved_on w) waiting (paid (CheckZero b) log))) log
        (at s.code a 0 d)
    zero_check_pays b i u None e =
        let o = CheckZero b in
        let spot = (layout_of f places).spot b in
        let x = first_operand s st w d o b h.known h.ready i refl (and_parts (w.on b) true u).0 in
        come_pays s st w arguments answer waiting log (at s.code a 0 d) o (suc w.index) (past a (op_code f places o)) 3
        6 d i refl (λ v live. next_follows f.ops v w.index o i refl live) (omega arith) (omega arith)
        (sym (next_at f places w.index o i)) h
        (zero_checks_pass s.code a f.charge d spot (code_low s.code f places stands w.index o i) h.ready.framed
        (spots f places b stands.suits x.inside) x.word (ap zero_trap x.value_is ∙ e)
        (one_stands s.code f places stands w.index o i))
    zero_check_pays b i u (Some kind) e =
        let o = CheckZero b in
        let spot = (layout_of f places).spot b in
        let x = first_operand s st w d o b h.known h.ready i refl (and_parts (w.on b) true u).0 in
        end_pays s log (paid o log) (at s.code a 0 d) 4 7 (Ended (Trap kind)) d.outside (omega arith)
        (omega arith) h.memory.history h.memory.making tt
        (zero_checks_trap s.code a f.charge d spot kind (code_low s.code f places stands w.index o i) h.ready.framed
        (spots f places b stands.suits x.inside) x.word (ap zero_trap x.value_is ∙ e)
        (one_stands s.code f places stands w.index o i))

    pub division_check_pays : (l r : ℕ) → slice_get f.ops w.index ≡ Some (CheckDivision l r)
        → uses_on (CheckDivision l r) w.on ≡ true
        → (trap : Option TrapKind) → signed_trap (w.values l) (w.values r) ≡ trap
        → Pays s (unless trap (paid (CheckDivision l r) log) (goes_on (moved_on w) waiting
        (paid (CheckDivision l r) log))) log (at s.code a 0 d)
    division_check_pays l r i u trap e =
        let o = CheckDivision l r in
        let spot = (layout_of f places).spot in
        let q = and_parts (w.on l) (w.on r) u in
        let x = first_operand s st w d o l h.known h.ready i refl q.0 in
        let y = second_operand s st w d o r h.known h.ready i refl q.1 in
        let t = ap (λ z. signed_trap z (value d (spot r))) x.value_is ∙ ap (signed_trap (w.values l)) y.value_is in
        by trap (t ∙ e) x y
      where
        by : (trap : Option TrapKind) → signed_trap (value d ((layout_of f places).spot l))
            (value d ((layout_of f places).spot r)) ≡ trap → Operand s w d l → Operand s w d r
            → Pays s (unless trap (paid (CheckDivision l r) log) (goes_on (moved_on w) waiting
            (paid (CheckDivision l r) log))) log (at s.code a 0 d)
        by None t x y =
            let o = CheckDivision l r in
            let spot = (layout_of f places).spot in
            come_pays s st w arguments answer waiting log (at s.code a 0 d) o (suc w.index)
            (past a (op_code f places o)) 7 14 d i refl (λ v live. next_follows f.ops v w.index o i refl live)
            (omega arith) (omega arith) (sym (next_at f places w.index o i)) h
            (division_checks_pass s.code a f.charge d (spot l) (spot r) (code_low s.code f places stands w.index o i)
            h.ready.framed (spots f places l stands.suits x.inside) (spots f places r stands.suits y.inside) x.word
            y.word t (one_stands s.code f places stands w.index o i))
        by (Some kind) t x y =
            let o = CheckDivision l r in
            let spot = (layout_of f places).spot in
            end_pays s log (paid o log) (at s.code a 0 d) 5 15 (Ended (Trap kind)) d.outside (omega arith)
            (omega arith) h.memory.history h.memory.making tt
            (division_checks_trap s.code a f.charge d (spot l) (spot r) kind
            (code_low s.code f places stands w.index o i) h.ready.framed (spots f places l stands.suits x.inside)
            (spots f places r stands.suits y.inside) x.word y.word t (one_stands s.code f places stands w.index o i))
