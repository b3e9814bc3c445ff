-- What the definition does at a SYSCALL, by the number in register 2, and so what each service is as a run of one
-- instruction.
use Rattle.std.proofs.Common.{◌≡◌, ◌≢◌, ℕ, ◌-◌, ◌%◌, Bool, true, false, List, [], ◌∷◌, Option}
use Rattle.std.proofs.Common.{None, Some, Result}
use Rattle.std.proofs.Common.{Ok, Err, refl, sym, ap, ◌∙◌, arith, if◌then◌else◌}
use Rattle.std.proofs.lemmas.Bool.{false≢true}
use Rattle.std.proofs.lemmas.Bool.Decides.{nat_tests}
use Rattle.host_edge.specs.declared.ending.Ending.TheVariants.{Done}
use Rattle.host_edge.specs.declared.ending.MachineKind.{MachineKind}
use Rattle.host_edge.specs.declared.ending.MachineKind.TheVariants as kind
use Rattle.history.specs.Events.{Item, In, End, Input, next_byte, number_bytes}
use Rattle.history.specs.Events as event
use Rattle.mips_encoder.specs.declared.instruction.Instr.TheVariants.{Syscall}
use Rattle.mips_model.specs.declared.service.Service.{Service}
use Rattle.mips_model.specs.declared.service.Service.TheVariants.{PutInt, Exit, PutByte, GetByte}
use Rattle.mips_model.specs.Services.{service_of, serve, got, read}
use Rattle.mips_model.specs.Steps.{found, word_at, faulted, apply, act, execute, checked, step}
use Rattle.mips_model.specs.Beside.{is_service, is_at_service}
use Rattle.mips_core.specs.Core.{is_service_hazard}
use Rattle.mips_machine.specs.declared.stop.Stop.{Stop}
use Rattle.mips_machine.specs.declared.stop.Stop.TheVariants.{Ended, Fault, Steps, ReadFault, WriteFault}
use Rattle.mips_machine.specs.Progress.{Progress, Unkept, is_at_end, no_input, more, world}
use Rattle.mips_machine.specs.Ran.{Ran, ending_of, before}
use Rattle.mips_machine.specs.Served.{counted, answered, input_ended, argument, number, Puts, Takes}
use Rattle.mips_machine.proofs.Quiet.{quiet_ran}
use Rattle.mips_machine.proofs.Idle.{idle_hazard, idle_service, idle_unknown}
use Rattle.mips_machine.proofs.Moves.{IsIdle, IsGet, put_ran, get_ran}

service_word : (x : Result ℕ MachineKind) → is_service x ≡ true → x ≡ Ok 12
service_word (Err k) is = absurd (false≢true is)
service_word (Ok w) is = let e : w ≡ 12 = grind (arith, nat_tests, is) in ap Ok e

-- a stop that isn't of the outside, and tells of an ending
stop_ran : (old new : Progress) (left taken : Option (List ℕ)) (stop : Stop) (e : End) → ending_of stop ≡ Some e →
    stop ≢ ReadFault → new ≡ counted old → IsIdle old
    → ((rest : Input) (u : Unkept) → step (world old rest u None) ≡ world (counted old) rest u (Some e))
    → Ran 1 old new left left taken taken stop
stop_ran old new left taken stop e ends no_read same scan is =
    quiet_ran old new left taken stop no_read (not_write stop ends) (ap (λ (p : Progress). p.steps) same)
    (ap is_at_end same) scan
    (λ rest u. is rest u ∙ ap (λ (p : Progress). world p rest u (Some e)) (sym same) ∙
    ap (λ (x : Option End). world new rest u x) (sym ends))
  where
    not_write : (stop : Stop) → ending_of stop ≡ Some e → stop ≢ WriteFault
    not_write (Ended x) ends is = absurd cc
    not_write (Fault k at) ends is = absurd cc
    not_write Steps ends is = absurd cc
    not_write ReadFault ends is = absurd cc
    not_write WriteFault ends is = absurd cc

pub refused_ran : (old new : Progress) (left taken : Option (List ℕ)) (stop : Stop) (k : MachineKind) →
    stop ≡ Fault k old.state.pc → new ≡ counted old → IsIdle old
    → ((rest : Input) (u : Unkept) →
    step (world old rest u None) ≡ world (counted old) rest u (Some (event.Fault k old.state.pc)))
    → Ran 1 old new left left taken taken stop
refused_ran old new left taken stop k stops same scan is =
    stop_ran old new left taken stop (event.Fault k old.state.pc) (ap ending_of stops) (λ r. absurd cc) same scan is

module _ (old new : Progress) (at : is_at_service old.state ≡ true) where
  at_syscall : (rest : Input) (u : Unkept) →
      step (world old rest u None) ≡ checked Syscall (world old rest u None).state
  at_syscall rest u = ap (λ (x : Result ℕ MachineKind). execute (found x) (world old rest u None).state)
      (service_word (word_at old.state.code old.state.pc) at)

  pub hazard_ran : (left taken : Option (List ℕ)) (stop : Stop) → is_service_hazard old.state ≡ true →
      stop ≡ Fault kind.Hazard old.state.pc → new ≡ counted old → Ran 1 old new left left taken taken stop
  hazard_ran left taken stop is stops same =
      refused_ran old new left taken stop kind.Hazard stops same (idle_hazard old is)
      (λ rest u. at_syscall rest u ∙
      ap (λ (b : Bool). if b then faulted kind.Hazard (world old rest u None).state else
      act Syscall (world old rest u None).state) is)

  module _ (quiet : is_service_hazard old.state ≡ false) (o : Option Service) (is : service_of (number old) ≡ o) where
    pub served : (rest : Input) (u : Unkept) →
        step (world old rest u None) ≡ apply (serve o (world old rest u None).state.d) (old.state.recent - 1)
        (world old rest u None).state
    served rest u =
        at_syscall rest u
        ∙ ap (λ (b : Bool). if b then faulted kind.Hazard (world old rest u None).state else
        act Syscall (world old rest u None).state) quiet
        ∙ ap (λ (x : Option Service). apply (serve x (world old rest u None).state.d) (old.state.recent - 1)
        (world old rest u None).state) is

  module _ (quiet : is_service_hazard old.state ≡ false) where
    pub put_int_ran : (left taken told : Option (List ℕ)) (stop : Stop) → service_of (number old) ≡ Some PutInt →
        new ≡ answered (argument old) old
        → Puts stop taken told (number_bytes (argument old)) → Ran 1 old new left left taken told stop
    put_int_ran left taken told stop is same puts =
        put_ran old new left taken told stop (number_bytes (argument old)) (argument old)
        (idle_service old PutInt is refl) (λ rest u. served quiet (Some PutInt) is rest u) same puts

    pub put_byte_ran : (left taken told : Option (List ℕ)) (stop : Stop) → service_of (number old) ≡ Some PutByte →
        new ≡ answered (argument old % 256) old
        → Puts stop taken told (argument old % 256 ∷ []) → Ran 1 old new left left taken told stop
    put_byte_ran left taken told stop is same puts =
        put_ran old new left taken told stop (argument old % 256 ∷ []) (argument old % 256)
        (idle_service old PutByte is refl) (λ rest u. served quiet (Some PutByte) is rest u) same puts

    pub exit_ran : (left taken : Option (List ℕ)) (stop : Stop) → service_of (number old) ≡ Some Exit →
        stop ≡ Ended (Done (argument old % 256)) → new ≡ counted old → Ran 1 old new left left taken taken stop
    exit_ran left taken stop is stops same =
        stop_ran old new left taken stop (event.Ended (Done (argument old % 256))) (ap ending_of stops) (λ r. absurd cc)
        same (idle_service old Exit is refl) (λ rest u. served quiet (Some Exit) is rest u)

    pub unknown_ran : (left taken : Option (List ℕ)) (stop : Stop) → service_of (number old) ≡ None →
        stop ≡ Fault kind.BadService old.state.pc → new ≡ counted old → Ran 1 old new left left taken taken stop
    unknown_ran left taken stop is stops same =
        refused_ran old new left taken stop kind.BadService stops same (idle_unknown old is)
        (λ rest u. served quiet None is rest u)

    -- a read, by whether the end was read before
    get_is : (b : Bool) → is_at_end old ≡ b → service_of (number old) ≡ Some GetByte → (rest : Input) (u : Unkept)
        → step (world old rest u None) ≡ apply
        (if b then got 4294967295 true rest (world old rest u None).state.d else
        read (next_byte rest) (world old rest u None).state.d) (old.state.recent - 1)
        (world old rest u None).state
    get_is b ends is rest u =
        served quiet (Some GetByte) is rest u
        ∙ ap (λ (x : Bool). apply
        (if x then got 4294967295 true rest (world old rest u None).state.d else
        read (next_byte rest) (world old rest u None).state.d) (old.state.recent - 1)
        (world old rest u None).state) ends

    -- a byte leaves the end unread
    unread : (b : ℕ) (rest : Input) (u : Unkept) → is_at_end old ≡ false
        → apply (got b false rest (world old rest u None).state.d) (old.state.recent - 1)
        (world old rest u None).state ≡ world (answered b old) rest (more (In b ∷ []) u) None
    unread b rest u ends =
        ap (λ (x : Bool). apply (got b x rest (world old rest u None).state.d) (old.state.recent - 1)
        (world old rest u None).state) (sym ends)

    -- at the end the answer is -1, whether the end is read now or was read before
    end_read : (b : Bool) → is_at_end old ≡ b → service_of (number old) ≡ Some GetByte →
        (rest : Input) (u : Unkept) → (is_at_end old ≡ false → rest ≡ no_input)
        → step (world old rest u None) ≡ world (input_ended old) rest (more (In 4294967295 ∷ []) u) None
    end_read true ends is rest u none = get_is true ends is rest u
    end_read false ends is rest u none =
        ap (λ (i : Input). step (world old i u None)) (none ends)
        ∙ get_is false ends is no_input u
        ∙ ap (λ (i : Input). world (input_ended old) i (more (In 4294967295 ∷ []) u) None) (sym (none ends))

    is_get : service_of (number old) ≡ Some GetByte → IsGet old
    is_get is = record {
      byte = λ ends b lt rest u.
          let whole : b % 256 ≡ b = omega (arith, lt) in
          get_is false ends is (before (b ∷ []) rest) u
          ∙ ap (λ v. apply (got v false rest (world old rest u None).state.d) (old.state.recent - 1)
          (world old rest u None).state) whole
          ∙ unread b rest u ends;
      ended = λ rest u none. end_read (is_at_end old) refl is rest u none;
      failed = λ ends u. get_is false ends is (record { bytes = []; failing = true }) u;
    }

    pub get_byte_ran : (left later taken : Option (List ℕ)) (stop : Stop) → service_of (number old) ≡ Some GetByte →
        Takes stop old new left later → Ran 1 old new left later taken taken stop
    get_byte_ran left later taken stop is took = get_ran old new left later taken stop
        (idle_service old GetByte is refl) (is_get is) took
