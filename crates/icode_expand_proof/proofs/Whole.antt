-- Each op of a running call is simulated, whatever calls wait, but those of ticks; and what zeroes words.
use Rattle.std.proofs.Common.{◌≡◌, ◌≢◌, ◌⊎◌, inl, inr, nat_eq, ℕ, zero, suc, ◌+◌, ◌*◌, ◌<◌, ◌≤◌, Bool, true, false}
use Rattle.std.proofs.Common.{◌∷◌, ◌++◌, Option, Some, None, refl, sym, ap, ◌∙◌, subst, arith, slice_get}
use Rattle.std.proofs.Common.{if◌then◌else◌, append_assoc, ◌-◌, nat_le, length, List, [], ◌&&◌}
use Rattle.std.proofs.lemmas.Bool.{and_parts}
use Rattle.std.proofs.lemmas.Bool.Decides.{nat_tests}
use Rattle.std.specs.Fn.{iterate}
use Rattle.pace.proofs.Runs.{iterate_add}
use Rattle.host_edge.specs.declared.ending.TrapKind.{TrapKind}
use Rattle.host_edge.specs.declared.ending.Ending.TheVariants.{Trap}
use Rattle.host_edge.specs.declared.ending.TrapKind.TheVariants.{BadCall}
use Rattle.history.specs.Events.{Ended}
use Rattle.mips_encoder.specs.declared.instruction.Instr.{Instr}
use Rattle.mips_model.specs.State.{Data, World}
use Rattle.mips_model.specs.Effects.{effect, sets_hilo}
use Rattle.mips_model.specs.Steps.{Is, fetch, step}
use Rattle.mips_model.specs.Laws.{HasAt, at}
use Rattle.icode_ops.specs.declared.op.Op.{Op}
use Rattle.icode_ops.specs.declared.op.Op.TheVariants.{Const, Move, Bin, FrameAddress, Load, Store, Clear, Label}
use Rattle.icode_ops.specs.declared.op.Op.TheVariants.{Jump, BranchZero, BranchNonzero, Sys, Argument, GetParameter}
use Rattle.icode_ops.specs.declared.op.Op.TheVariants.{Call, CallNumber, Result, Return, ReturnZero, CheckDivision}
use Rattle.icode_ops.specs.declared.op.Op.TheVariants.{CheckZero, Un, Run, New, Put}
use Rattle.icode_ops.specs.declared.kind.RunKind.TheVariants as run
use Rattle.icode_ops.specs.declared.kind.BinKind.{BinKind}
use Rattle.icode_ops.specs.Flow.{first_use}
use Rattle.icode_templates.specs.Layout.{parameter_spot}
use Rattle.icode_templates.specs.Templates.{load_code}
use Rattle.icode_meaning.specs.State as staged
use Rattle.icode_meaning.specs.State.{Program}
use Rattle.icode_meaning.specs.State.{Function, Frame, Log, Running, Zeroing, Halted, Stuck, nothing, see, least_at}
use Rattle.icode_meaning.specs.State.{most_at}
use Rattle.icode_meaning.specs.Steps.{uses_on, act, checked, first, paid, left, back, begun, entered, unless}
use Rattle.icode_meaning.specs.Steps.{zeroing, address_of, goes_on, moved_on, call_at, call_row, call_number}
use Rattle.icode_meaning.specs.Steps.{call_compiled, set_from, set}
use Rattle.icode_meaning.specs.Steps.{untrapped}
use Rattle.meaning_state.specs.Bodies.{Body}
use Rattle.meaning_state.specs.Rows.{numbered, parameters_of}
use Rattle.word32.specs.declared.map.TheConstants.{ARENA}
use Rattle.meaning_state.specs.Shared.{Shared, limit_trap, are_objects, access_trap}
use Rattle.meaning_state.specs.Operators.{bin_value, bin_trap, signed_trap, zero_trap}
use Rattle.icode_templates_proof.specs.Spots.{Framed}
use Rattle.icode_templates_proof.specs.Moves.{behind}
use Rattle.icode_expand_proof.specs.Relation.{MemoryAgrees, Holds, Related, Pays}
use Rattle.icode_expand_proof.specs.Settings.{Setting, places_of, Standing, Extends, HasRows}
use Rattle.icode_expand_proof.specs.Standing.{layout_of, op_stands_at, OpsStand}
use Rattle.icode_expand_proof.proofs.Codes.{op_code, one_stands}
use Rattle.icode_expand_proof.proofs.Frames.{spots}
use Rattle.icode_expand_proof.proofs.Places.{slot_usable}
use Rattle.icode_expand_proof.proofs.Accesses.{access_least, load_pays, store_pays}
use Rattle.icode_expand_proof.proofs.Liveness.{op_found}
use Rattle.icode_expand_proof.proofs.ObjectAddresses.{address_pays}
use Rattle.icode_expand_proof.proofs.Operators.{un_pays, bin_pays, zero_check_pays, division_check_pays}
use Rattle.icode_expand_proof.proofs.Ops.{const_pays, move_pays, jump_pays, zero_pays, nonzero_pays, label_pays}
use Rattle.icode_expand_proof.proofs.Paying.{first_operand}
use Rattle.icode_expand_proof.proofs.Recent.{IsOnward, IsGentle, head_gentle, load_gentle, at_any, same_run}
use Rattle.icode_expand_proof.proofs.SystemCalls.{service_pays, service_least}
use Rattle.icode_expand_proof.proofs.Zeroing.{round_pays, clear_pays}
use Rattle.icode_expand_proof.specs.Served.{IsServed, is_of_ticks, Serving, is_body_of, calls_body}
use Rattle.icode_expand_proof.proofs.Allocating.{malloc_pays}
use Rattle.icode_expand_proof.specs.Laws.{Arrives, OpsPay, WordsPay, MainBegins}
use Rattle.icode_expand_proof.proofs.Arguments.{argument_pays, result_pays, parameter_pays}
use Rattle.icode_expand_proof.proofs.Calls.{found_pays, IsFunction, text_function, front_known}
use Rattle.icode_expand_proof.proofs.Entrance.{Enters, Arriving, Begun, holds_begun}
use Rattle.icode_expand_proof.proofs.NumberCalls.{number_pays, other_pays, arrives}
use Rattle.icode_expand_proof.proofs.Returns.{return_pays, zero_return_pays}

-- what a call and a return have paid
back_least : (x : ℕ) (waiting : List Frame) (log : Log) → least_at (back x waiting log) ≡ log.least
back_least x [] log = refl
back_least x (v ∷ vs) log = refl

enter_least : (t : Option TrapKind) (f : Function) (arguments : ℕ → Option ℕ) (waiting : List Frame) (log : Log)
    → least_at (unless t log (goes_on (begun f arguments) waiting (entered f log))) ≡ log.least
enter_least None f arguments waiting log = refl
enter_least (Some k) f arguments waiting log = refl

unless_least : (t : Option TrapKind) (x : staged.State) (log : Log) → log.least ≤ least_at x
    → log.least ≤ least_at (unless t log x)
unless_least None x log le = le
unless_least (Some k) x log le = omega arith

zeroing_least : (n address : ℕ) (w : Frame) (waiting : List Frame) (log : Log)
    → least_at (zeroing n address w waiting log) ≡ log.least
zeroing_least zero address w waiting log = refl
zeroing_least (suc more) address w waiting log = refl

-- a call by a number has paid, or is stuck
row_least : (text : Program) (number n : ℕ) (x : Option (ℕ × ℕ)) (w : Frame) (arguments : ℕ → Option ℕ)
    (waiting : List Frame) (log : Log)
    → (log.least + 1 ≤ least_at (call_row text (CallNumber number n) n x w arguments waiting log)) ⊎
    (call_row text (CallNumber number n) n x w arguments waiting log ≡ Stuck log)
row_least text number n None w arguments waiting log = inl (omega arith)
row_least text number n (Some (address, k)) w arguments waiting log = by (nat_eq k n) (text.function_at address)
  where
    by : (b : Bool) (y : Option Function)
        → (log.least + 1 ≤ least_at (if b then call_at (CallNumber number n) y w arguments waiting log else Halted
        (Ended (Trap BadCall)) (paid (CallNumber number n) log)))
        ⊎ ((if b then call_at (CallNumber number n) y w arguments waiting log else Halted (Ended (Trap BadCall))
        (paid (CallNumber number n) log)) ≡ Stuck log)
    by false y = inl (omega arith)
    by true None = inr refl
    by true (Some g) = inl (let e = enter_least (limit_trap g.charge g.object log.shared) g arguments
        (moved_on w ∷ waiting) (paid (CallNumber number n) log) in omega (arith, e))

module _ (text : Program) (s : Setting) (st : Standing s) (ex : Extends text s) (sv : Serving s)
    (rows : HasRows (length text.source.functions) s) where
  pub stuck_any : (log : Log) (q a : ℕ) (d : Data) → MemoryAgrees s log.shared log.active d
      → Pays s (Stuck log) log (behind s.code a q d)
  stuck_any log q a d e =
      record {
        count = 0;
        low = omega arith;
        high = omega arith;
        related = record { ending = refl; history = e.history; code = refl; making = e.making; fair = tt };
      }

  module _ (w : Frame) (arguments : ℕ → Option ℕ) (answer : Option ℕ) (waiting : List Frame) (log : Log) (d : Data)
      (h : Holds s w arguments answer waiting log d) (q : ℕ) (le : q ≤ 1) where
    abbrev f : Function
    f = w.function

    abbrev places : List ℕ
    places = places_of s f

    abbrev a : ℕ
    a = op_stands_at f places w.index

    stands : OpsStand s.code f places
    stands = (st.functions f.address f h.known).1

    -- an op that brings an operand in first
    pub operand_gentle : (o : Op) (from : ℕ) (rest : List Instr) → slice_get f.ops w.index ≡ Some o
        → first_use o ≡ Some from → w.on from ≡ true → op_code f places o ≡ load_code 24
        ((layout_of f places).spot from) ++ rest → IsGentle s.code a d
    operand_gentle o from rest i is t e =
        let x = first_operand s st w d o from h.known h.ready i is t in
        (load_gentle s.code a f.charge d ((layout_of f places).spot from) rest h.ready.framed
        (spots f places from stands.suits x.inside)
        (subst (HasAt s.code a) e (one_stands s.code f places stands w.index o i)))

    head : (o : Op) (i : Instr) → fetch s.code a ≡ Is i → sets_hilo i ≡ false → IsOnward (effect i d)
        → IsGentle s.code a d
    head o i stood quiet onward = head_gentle s.code a d i stood quiet onward

    begun_at : (a' : staged.State) → IsGentle s.code a d → log.least + 1 ≤ least_at a'
        → Pays s a' log (at s.code a 0 d) → Pays s a' log (behind s.code a q d)
    begun_at a' g lo p = at_any s q a' log a d le g lo p

    call_pays : (address : ℕ) (x : Option Function) → IsFunction s address x → slice_get f.ops w.index
        ≡ Some (Call address) → Pays s (call_at (Call address) x w arguments waiting log) log (behind s.code a q d)
    call_pays address None e i = stuck_any log q a d h.memory
    call_pays address (Some g) e i =
        let least = enter_least (limit_trap g.charge g.object log.shared) g arguments (moved_on w ∷ waiting)
        (paid (Call address) log) in
        begun_at (call_at (Call address) (Some g) w arguments waiting log)
        (head (Call address) _ (one_stands s.code f places stands w.index (Call address) i).0 refl tt)
        (omega (arith, least))
        (found_pays s st w arguments answer waiting log d address (Some g) e i h)

    got_pays : (to : ℕ) (x : Option ℕ) → answer ≡ x → slice_get f.ops w.index ≡ Some (Result to)
        → Pays s (set_from (Result to) x to w waiting log) log (behind s.code a q d)
    got_pays to None e i = stuck_any log q a d h.memory
    got_pays to (Some x) e i =
        begun_at (set_from (Result to) (Some x) to w waiting log)
        (head (Result to) _ (one_stands s.code f places stands w.index (Result to) i).0 refl tt) (omega arith)
        (subst (λ y. Pays s (set_from (Result to) y to w waiting log) log (at s.code a 0 d)) e
        (result_pays s st w arguments answer waiting log to d i h))

    taken_pays : (to k : ℕ) (x : Option ℕ) → w.parameters k ≡ x → slice_get f.ops w.index ≡ Some (GetParameter to k)
        → Pays s (set_from (GetParameter to k) x to w waiting log) log (behind s.code a q d)
    taken_pays to k None e i = stuck_any log q a d h.memory
    taken_pays to k (Some x) e i =
        let bytes = f.charge + 4 * k + 4 in
        let reach = h.ready.reach k x e in
        let fr : Framed (d.registers 29) bytes =
        record { from = h.ready.framed.from; to = omega (arith, reach.1); even = h.ready.framed.even } in
        let o = GetParameter to k in
        let u = slot_usable bytes (f.charge + 4 * k) (omega arith) (omega (arith, stands.suits.whole)) in
        let code = subst (HasAt s.code a) (append_assoc (load_code 24 (parameter_spot (layout_of f places) k)) _ _)
        (one_stands s.code f places stands w.index o i) in
        begun_at (set_from o (Some x) to w waiting log)
        ((load_gentle s.code a bytes d (parameter_spot (layout_of f places) k) _ fr u code)) (omega arith)
        (parameter_pays s st w arguments answer waiting log to k d (Some x) e i h)

    row_pays : (number n : ℕ) → n ≤ 8 → slice_get f.ops w.index ≡ Some (CallNumber number n)
        → uses_on (CallNumber number n) w.on ≡ true → (x : Option (ℕ × ℕ)) → s.program.row (w.values number) ≡ x
        → Pays s (call_row text (CallNumber number n) n x w arguments waiting log) log (behind s.code a q d)
    row_pays number n few i u x e =
        elim (row_least text number n x w arguments waiting log) [
          | inl more ↦ begun_at (call_row text (CallNumber number n) n x w arguments waiting log)
              (operand_gentle (CallNumber number n) number _ i refl (and_parts (w.on number) true u).0
              (append_assoc (load_code 24 ((layout_of f places).spot number)) _ _)) more
              (number_pays s st w arguments answer waiting log number n d few i u h text ex x e)
          | inr z ↦ subst (λ y. Pays s y log (behind s.code a q d)) (sym z) (stuck_any log q a d h.memory)
        ]

    -- a call of a function whose row has as many parameters as are passed comes to the function's address
    pub call_arrives : (number n : ℕ) → slice_get f.ops w.index ≡ Some (CallNumber number n)
        → uses_on (CallNumber number n) w.on ≡ true → (address : ℕ)
        → s.program.row (w.values number) ≡ Some (address, n)
        → Arriving s w arguments waiting log (CallNumber number n) (behind s.code a q d) address
    call_arrives number n i u address e = by q le
      where
        o : Op
        o = CallNumber number n

        few : n ≤ 8
        few = subst IsServed (op_found f.ops w.index o i).is (sv.ops f.address f h.known w.index)

        row : (w.values number < 65536) × (d.table (w.values number) ≡ (address, n))
        row = h.memory.table.rows (w.values number) address n e

        gentle : IsGentle s.code a d
        gentle = operand_gentle o number _ i refl (and_parts (w.on number) true u).0
            (append_assoc (load_code 24 ((layout_of f places).spot number)) _ _)

        there : Arriving s w arguments waiting log o (at s.code a 0 d) address
        there = arrives s st w arguments answer waiting log number n d few i u h address row.0 row.1

        by : (q : ℕ) → q ≤ 1 → Arriving s w arguments waiting log o (behind s.code a q d) address
        by zero le = there
        by (suc zero) le =
            let r = there.runs in
            let some = r.over in
            record {
              after = there.after;
              runs = record {
                count = r.count;
                over = r.over;
                under = r.under;
                reaches = record {
                  by = sym (same_run r.count s.code a d (omega (arith, some)) gentle) ∙ r.reaches.by;
                };
              };
              enters = there.enters;
              outside = there.outside;
            }
        by (suc (suc q)) le = absurd (omega (arith, le))

    -- a number behind those of the text is that of no function, of one that was freed, or of one with other parameters
    numbered_pays : (number n : ℕ) → n ≤ 8 → slice_get f.ops w.index ≡ Some (CallNumber number n)
        → uses_on (CallNumber number n) w.on ≡ true
        → calls_body (length text.source.functions) log.shared.bodies (CallNumber number n) w ≡ false
        → Pays s (call_number text (CallNumber number n) (w.values number) n w arguments waiting log) log
        (behind s.code a q d)
    numbered_pays number n few i u enters = by (nat_le (w.values number) count) refl enters
      where
        count : ℕ
        count = length text.source.functions

        o : Op
        o = CallNumber number n

        at_number : List Body → Option Body
        at_number bodies = numbered (w.values number - count) bodies

        made_now : at_number s.made.bodies ≡ at_number log.shared.bodies
        made_now = ap at_number (sym h.memory.made.bodies)

        -- so it is the member of the row at this place
        place : ℕ
        place = w.values number - count - 1

        found : (x : Body) → count < w.values number → at_number log.shared.bodies ≡ Some x
            → slice_get s.made.bodies place ≡ Some x
        found x over e =
            ap (λ k. numbered k s.made.bodies)
            (let p : suc place ≡ w.values number - count = omega (arith, over) in p) ∙ made_now ∙ e

        row_of : (x : Option (ℕ × ℕ)) → count < w.values number → s.program.row (suc (count + place)) ≡ x
            → s.program.row (w.values number) ≡ x
        row_of x over e =
            ap s.program.row (let p : w.values number ≡ suc (count + place) = omega (arith, over) in p) ∙ e

        of_body : (x : Option Body) → at_number log.shared.bodies ≡ x → is_body_of n x ≡ false → count < w.values number
            → Pays s (call_compiled text o (w.values number) x n w arguments waiting log) log (behind s.code a q d)
        of_body None e t over =
            row_pays number n few i u None (ex.others (w.values number) over (made_now ∙ e))
        of_body (Some x) e t over = by_live x.live refl (nat_eq (parameters_of x.syntax) n) refl t
          where
            other : parameters_of x.syntax ≢ n → x.live ≡ true
                → Pays s (Halted (Ended (Trap BadCall)) (paid o log)) log (behind s.code a q d)
            other ne l =
                begun_at (Halted (Ended (Trap BadCall)) (paid o log))
                (operand_gentle o number _ i refl (and_parts (w.on number) true u).0
                (append_assoc (load_code 24 ((layout_of f places).spot number)) _ _)) (omega arith)
                (other_pays s st w arguments answer waiting log number n d few i u h (ARENA + 4 * x.first)
                (parameters_of x.syntax)
                (row_of (Some (ARENA + 4 * x.first, parameters_of x.syntax)) over
                (rows.live place x (found x over e) l))
                ne)

            by_live : (l : Bool) → x.live ≡ l → (same : Bool) → nat_eq (parameters_of x.syntax) n ≡ same
                → (x.live && nat_eq (parameters_of x.syntax) n) ≡ false
                → Pays s (call_compiled text o (w.values number) (Some x) n w arguments waiting log) log
                (behind s.code a q d)
            by_live false l same p t =
                rw t (row_pays number n few i u None (row_of None over (rows.gone place x (found x over e) l)))
            by_live true l true p t = absurd (let z : true ≡ false = sym (rw (l, p) refl) ∙ t in cc)
            by_live true l false p t = rw t (other (λ z. absurd (grind (arith, nat_tests, p, z))) l)

        by : (b : Bool) → nat_le (w.values number) count ≡ b
            → (if b then false else is_body_of n (at_number log.shared.bodies)) ≡ false
            → Pays s (if b then call_row text (CallNumber number n) n (text.row (w.values number)) w arguments waiting
            log
            else call_compiled text (CallNumber number n) (w.values number) (at_number log.shared.bodies) n w
            arguments waiting log) log (behind s.code a q d)
        by true t e = row_pays number n few i u (text.row (w.values number))
            (ex.rows (w.values number) (grind (arith, nat_tests, t)))
        by false t e = of_body (at_number log.shared.bodies) refl e (grind (arith, nat_tests, t))

    cleared_pays : (offset words : ℕ) (b : Bool) → are_objects (address_of offset w log) words ≡ b
        → slice_get f.ops w.index ≡ Some (Clear offset words)
        → Pays s (if b then zeroing words (address_of offset w log) w waiting (paid (Clear offset words) log) else
        Stuck log) log
        (behind s.code a q d)
    cleared_pays offset words false e i = stuck_any log q a d h.memory
    cleared_pays offset words true e i =
        let least = zeroing_least words (address_of offset w log) w waiting (paid (Clear offset words) log) in
        begun_at (zeroing words (address_of offset w log) w waiting (paid (Clear offset words) log))
        (head (Clear offset words) _ (one_stands s.code f places stands w.index (Clear offset words) i).0 refl tt)
        (omega (arith, least)) (clear_pays s st w waiting offset words i arguments answer log d h e)

    applied_pays : (kind : BinKind) (to left right : ℕ) → slice_get f.ops w.index ≡ Some (Bin kind to left right)
        → uses_on (Bin kind to left right) w.on ≡ true → (trap : Option TrapKind)
        → bin_trap kind (w.values left) (w.values right) ≡ trap
        → Pays s (untrapped trap log (goes_on (set to (bin_value kind (w.values left) (w.values right)) w) waiting
        (paid (Bin kind to left right) log))) log (behind s.code a q d)
    applied_pays kind to left right i u None e =
        begun_at (goes_on (set to (bin_value kind (w.values left) (w.values right)) w) waiting
        (paid (Bin kind to left right) log))
        (operand_gentle (Bin kind to left right) left _ i refl (and_parts (w.on left) (w.on right) u).0
        (append_assoc (load_code 24 ((layout_of f places).spot left)) _ _)) (omega arith)
        (bin_pays s st w arguments answer waiting log d h kind to left right i u None e)
    applied_pays kind to left right i u (Some k) e = stuck_any log q a d h.memory

    op_pays : (o : Op) → slice_get f.ops w.index ≡ Some o → uses_on o w.on ≡ true → IsServed o → is_of_ticks o ≡ false
        → calls_body (length text.source.functions) log.shared.bodies o w ≡ false
        → Pays s (act text o w arguments answer waiting log) log (behind s.code a q d)
    op_pays (Const to word) i u z plain enters = begun_at (act text (Const to word) w arguments answer waiting log)
        (head (Const to word) _ (one_stands s.code f places stands w.index (Const to word) i).0 refl tt) (omega arith)
        (const_pays s st w arguments answer waiting log d h to word i z)
    op_pays (Move to from) i u z plain enters = begun_at (act text (Move to from) w arguments answer waiting log)
        (operand_gentle (Move to from) from _ i refl (and_parts (w.on from) true u).0
        (append_assoc (load_code 24 ((layout_of f places).spot from)) _ _)) (omega arith)
        (move_pays s st w arguments answer waiting log d h to from i u)
    op_pays (Bin kind to left right) i u z plain enters =
        applied_pays kind to left right i u (bin_trap kind (w.values left) (w.values right)) refl
    op_pays (CheckDivision left right) i u z plain enters =
        let trap = signed_trap (w.values left) (w.values right) in
        let o = CheckDivision left right in
        let least = unless_least trap (goes_on (moved_on w) waiting (paid o log)) (paid o log) (omega arith) in
        begun_at (act text o w arguments answer waiting log)
        (operand_gentle o left _ i refl (and_parts (w.on left) (w.on right) u).0
        (append_assoc (load_code 24 ((layout_of f places).spot left)) _ _)) (omega (arith, least))
        (division_check_pays s st w arguments answer waiting log d h left right i u trap refl)
    op_pays (CheckZero divisor) i u z plain enters =
        let trap = zero_trap (w.values divisor) in
        let o = CheckZero divisor in
        let least = unless_least trap (goes_on (moved_on w) waiting (paid o log)) (paid o log) (omega arith) in
        begun_at (act text o w arguments answer waiting log)
        (operand_gentle o divisor _ i refl (and_parts (w.on divisor) true u).0
        (append_assoc (load_code 24 ((layout_of f places).spot divisor)) _ _)) (omega (arith, least))
        (zero_check_pays s st w arguments answer waiting log d h divisor i u trap refl)
    op_pays (Un kind to from) i u z plain enters = begun_at (act text (Un kind to from) w arguments answer waiting log)
        (operand_gentle (Un kind to from) from _ i refl (and_parts (w.on from) true u).0
        (append_assoc (load_code 24 ((layout_of f places).spot from)) _ _)) (omega arith)
        (un_pays s st w arguments answer waiting log d h kind to from i u)
    op_pays (FrameAddress to offset) i u z plain enters =
        begun_at (act text (FrameAddress to offset) w arguments answer waiting log)
        (head (FrameAddress to offset) _ (one_stands s.code f places stands w.index (FrameAddress to offset) i).0 refl
        tt)
        (omega arith) (address_pays s st w arguments answer waiting log d h to offset i)
    op_pays (Load kind to from) i u z plain enters =
        begun_at (act text (Load kind to from) w arguments answer waiting log)
        (operand_gentle (Load kind to from) from _ i refl (and_parts (w.on from) true u).0
        (append_assoc (load_code 24 ((layout_of f places).spot from)) _ _))
        (access_least (access_trap (w.values from) kind) log (paid (Load kind to from) log) _ (omega arith)
        (omega arith))
        (load_pays s st w arguments answer waiting log d h kind to from i u)
    op_pays (Store kind to from) i u z plain enters =
        begun_at (act text (Store kind to from) w arguments answer waiting log)
        (operand_gentle (Store kind to from) to _ i refl (and_parts (w.on to) (w.on from) u).0
        (append_assoc (load_code 24 ((layout_of f places).spot to)) _ _))
        (access_least (access_trap (w.values to) kind) log (paid (Store kind to from) log) _ (omega arith)
        (omega arith))
        (store_pays s st w arguments answer waiting log d h kind to from i u)
    op_pays (Clear offset words) i u z plain enters =
        cleared_pays offset words (are_objects (address_of offset w log) words) refl i
    op_pays (Label label) i u z plain enters = label_pays s st w arguments answer waiting log d h q label le i
    op_pays (Jump label) i u z plain enters = begun_at (act text (Jump label) w arguments answer waiting log)
        (head (Jump label) _ (one_stands s.code f places stands w.index (Jump label) i).0 refl tt) (omega arith)
        (jump_pays s st w arguments answer waiting log d h label i)
    op_pays (BranchZero test label) i u z plain enters =
        begun_at (act text (BranchZero test label) w arguments answer waiting log)
        (operand_gentle (BranchZero test label) test _ i refl (and_parts (w.on test) true u).0
        (append_assoc (load_code 24 ((layout_of f places).spot test)) _ _)) (omega arith)
        (zero_pays s st w arguments answer waiting log d h test label i u)
    op_pays (BranchNonzero test label) i u z plain enters =
        begun_at (act text (BranchNonzero test label) w arguments answer waiting log)
        (operand_gentle (BranchNonzero test label) test _ i refl (and_parts (w.on test) true u).0
        (append_assoc (load_code 24 ((layout_of f places).spot test)) _ _)) (omega arith)
        (nonzero_pays s st w arguments answer waiting log d h test label i u)
    op_pays (Argument k from) i u z plain enters = begun_at (act text (Argument k from) w arguments answer waiting log)
        (operand_gentle (Argument k from) from _ i refl (and_parts (w.on from) true u).0
        (append_assoc (load_code 24 ((layout_of f places).spot from)) _ _)) (omega arith)
        (argument_pays s st w arguments answer waiting log k from d z i u h)
    op_pays (GetParameter to k) i u z plain enters = taken_pays to k (w.parameters k) refl i
    op_pays (Call address) i u z plain enters = call_pays address (text.function_at address)
        (text_function text s ex address (text.function_at address) refl) i
    op_pays (CallNumber number n) i u z plain enters = numbered_pays number n z i u enters
    op_pays (Result to) i u z plain enters = got_pays to answer refl i
    op_pays (Return from) i u z plain enters =
        let least = back_least (w.values from) waiting (left w.function (paid (Return from) log)) in
        begun_at (act text (Return from) w arguments answer waiting log)
        (operand_gentle (Return from) from _ i refl (and_parts (w.on from) true u).0
        (append_assoc (load_code 24 ((layout_of f places).spot from)) _ _)) (omega (arith, least))
        (return_pays s st w arguments answer waiting log d from i u h)
    op_pays ReturnZero i u z plain enters =
        let least = back_least 0 waiting (left w.function (paid ReturnZero log)) in
        begun_at (act text ReturnZero w arguments answer waiting log)
        (head ReturnZero _ (one_stands s.code f places stands w.index ReturnZero i).0 refl tt)
        (omega (arith, least)) (zero_return_pays s st w arguments answer waiting log d i h)
    op_pays (Sys kind to from) i u z plain enters =
        begun_at (act text (Sys kind to from) w arguments answer waiting log)
        (operand_gentle (Sys kind to from) from _ i refl (and_parts (w.on from) true u).0
        (append_assoc (load_code 24 ((layout_of f places).spot from)) _ _))
        (service_least text kind to from w arguments answer waiting log)
        (service_pays s st w arguments answer waiting log d h kind to from i u)
    op_pays (Run run.Malloc to from) i u z plain enters =
        begun_at (act text (Run run.Malloc to from) w arguments answer waiting log)
        (operand_gentle (Run run.Malloc to from) from _ i refl (and_parts (w.on from) true u).0
        (append_assoc (load_code 24 ((layout_of f places).spot from)) _ _)) (omega arith)
        (malloc_pays s st w arguments answer waiting log d h to from i u)
    op_pays (Run run.Compile to from) i u z plain enters = absurd cc
    op_pays (Run run.Local to from) i u z plain enters = absurd cc
    op_pays (Run run.Parameter to from) i u z plain enters = absurd cc
    op_pays (Run run.Begin to from) i u z plain enters = absurd cc
    op_pays (Run run.Expression to from) i u z plain enters = absurd cc
    op_pays (Run run.Statement to from) i u z plain enters = absurd cc
    op_pays (Run run.Variable to from) i u z plain enters = absurd cc
    op_pays (New to address kind captures) i u z plain enters = absurd cc
    op_pays (Put capture from) i u z plain enters = absurd cc

    used_pays : (b : Bool) (o : Op) → slice_get f.ops w.index ≡ Some o → uses_on o w.on ≡ b → IsServed o
        → is_of_ticks o ≡ false → calls_body (length text.source.functions) log.shared.bodies o w ≡ false
        → Pays s (if b then act text o w arguments answer waiting log else Stuck log) log (behind s.code a q d)
    used_pays true o i u z plain enters = op_pays o i u z plain enters
    used_pays false o i u z plain enters = stuck_any log q a d h.memory

    pub checked_pays : (o : Op) → slice_get f.ops w.index ≡ Some o → is_of_ticks o ≡ false
        → calls_body (length text.source.functions) log.shared.bodies o w ≡ false
        → Pays s (checked text (Some o) w arguments answer waiting log) log (behind s.code a q d)
    checked_pays o i plain enters =
        used_pays (uses_on o w.on) o i refl (subst IsServed (op_found f.ops w.index o i).is
        (sv.ops f.address f h.known w.index)) plain enters

pub ops_pay : OpsPay
ops_pay text s st ex sv rows w arguments answer waiting log d h recent few o i plain enters =
    checked_pays text s st ex sv rows w arguments answer waiting log d h recent few o i plain enters

pub words_pay : WordsPay
words_pay s st more address w waiting log b x =
    round_pays s st w waiting x.offset x.words x.op more address log x.d x.holds x.next x.end x.from x.to x.even

module _ (s : Setting) (main : Function) (shared : Shared) (n : ℕ) (w : World) (st : Standing s)
    (arrived : Arrives s main shared n w) where
  abbrev log0 : Log
  log0 = record { shared = shared; active = 0; least = 1; most = 1 }

  enters : Enters s nothing [] log0 arrived.d
  enters =
      let top = arrived.extents.used in
      let obj = arrived.extents.frames in
      record {
        waits = arrived.returns_to;
        memory = arrived.memory;
        extents = arrived.extents;
        from = omega (arith, top, arrived.unused);
        even = omega (arith, top, arrived.unused);
        global = arrived.global;
        objects_to = omega (arith, obj, arrived.none);
        reach = λ k x e. absurd cc;
        stand = λ k x e. absurd cc;
      }

  start : Begun s main nothing [] log0 arrived.d
  start = holds_begun s st main arrived.known
      (front_known s st main.address main arrived.known arrived.static) nothing [] log0 arrived.d enters
      (omega (arith, arrived.unused, arrived.fits)) (omega (arith, arrived.none, arrived.objects_fit))

  related : Related s (first main shared) (iterate step (n + start.runs.count) w)
  related =
      let by = iterate_add step n start.runs.count w ∙ ap (iterate step start.runs.count) arrived.arrives
      ∙ start.runs.reaches.by in
      (st, record { d = start.after; holds = start.holds; recent = 0; few = omega arith; is = by })

  pub main_starts : (count : ℕ) × (n + 9 ≤ count) × (count ≤ n + 32) × Related s (first main shared)
      (iterate step count w)
  main_starts =
      let over = start.runs.over in
      let under = start.runs.under in
      (n + start.runs.count, omega (arith, over), omega (arith, under), related)

pub main_begins : MainBegins
main_begins s main shared n w st arrived = main_starts s main shared n w st arrived
