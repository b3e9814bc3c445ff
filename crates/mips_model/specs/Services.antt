-- The services that SYSCALL offers: its number is in register 2 ($v0), its arguments in registers 4 to 6 ($a0 to $a2),
-- and its answer goes to register 2. They are this project's own; those with numbers 1 to 12 follow SPIM's. A service
-- that is not in the table, or that refuses its arguments, is a fault of the machine.
use Rattle.std.specs.Prelude.{ℕ, ◌+◌, ◌%◌, Bool, true, false, nat_eq, if◌then◌else◌}
use Rattle.std.specs.Prelude.{List, [], ◌∷◌, ◌++◌, Option, Some, None}
use Rattle.host_edge.specs.declared.ending.Ending.TheVariants.{Done}
use Rattle.host_edge.specs.declared.ending.MachineKind.TheVariants as kind
use Rattle.history.specs.Events.{In, Input, outs, Next, Given, AtEnd, Failing, next_byte, number_bytes}
use Rattle.mips_model.specs.declared.service.Service.{Service}
use Rattle.mips_model.specs.declared.service.Service.TheVariants.{PutInt, Exit, PutByte, GetByte, Begin, Emit, Finish}
use Rattle.mips_model.specs.declared.service.Service.TheVariants.{Flush, Publish}
use Rattle.icode_ir.specs.declared.build_op.BuildOp.{BuildOp}
use Rattle.icode_ir.specs.Decoded.{op_of}
use Rattle.mips_model.specs.Choices.{Choice}
use Rattle.mips_model.specs.CodeServices as services
use Rattle.mips_model.specs.CodeServices.{Generator, Rows, Outcome, Refused, Does}
use Rattle.mips_model.specs.State.{Built, Making, Outside, Data, register, set_register}
use Rattle.mips_model.specs.Accesses.{Effect, Plain, Changes, Ends, Faults, InputFails}

abbrev pub service_of : ℕ → Option Service
service_of number =
    if nat_eq number 1 then Some PutInt
    else (if nat_eq number 10 then Some Exit
    else (if nat_eq number 11 then Some PutByte
    else (if nat_eq number 12 then Some GetByte
    else (if nat_eq number 64 then Some Begin
    else (if nat_eq number 65 then Some Emit
    else (if nat_eq number 66 then Some Finish
    else (if nat_eq number 67 then Some Flush
    else (if nat_eq number 68 then Some Publish else None))))))))

-- a service's answer
abbrev pub answer : ℕ → Data → Data
answer v d = set_register 2 v d

abbrev pub with_outside : Outside → Data → Data
with_outside o d = record d { outside = o }

-- these bytes were put out
abbrev pub says : List ℕ → Outside → Outside
says bytes o = record o { history = o.history ++ outs bytes }

-- bytes are put out, and the answer is v
abbrev pub put : List ℕ → ℕ → Data → Effect
put bytes v d = Plain (answer v (with_outside (says bytes d.outside) d))

-- service 12 answers the next byte, or -1 at the end of the input; once the end was read it reads no further
abbrev pub got : ℕ → Bool → Input → Data → Effect
got v at_end input d =
    Plain (answer v (with_outside
    (record d.outside { input = input; at_end = at_end; history = d.outside.history ++ In v ∷ [] }) d))

abbrev pub read : Next → Data → Effect
read (Given b rest) d = got b false rest d
read AtEnd d = got 4294967295 true (record { bytes = []; failing = false }) d
read Failing d = InputFails

abbrev pub get : Data → Effect
get d = if d.outside.at_end then got 4294967295 true d.outside.input d else read (next_byte d.outside.input) d

-- ---- the services that make code

abbrev pub with_making : Making → Data → Data
with_making m d = record d { outside = record d.outside { making = m } }

-- the choice for the function that is finished next; a row that has come to its end gives none
abbrev pub next_choice : List Choice → Choice
next_choice [] = record { places = []; spills = 0 }
next_choice (c ∷ cs) = c

abbrev pub later_choices : List Choice → List Choice
later_choices [] = []
later_choices (c ∷ cs) = cs

-- what a service did is noted, and it answers
abbrev pub noted : ℕ → Making → (Rows → Rows) → Data → Data
noted v m set d = answer v (with_making m (record d { table = set d.table }))

-- a service that changes no code, and one that does; a refusal is a fault of the machine
abbrev pub makes : Outcome → (Making → Making) → Data → Effect
makes (Refused why) note d = Faults kind.BadService
makes (Does v g change set) note d =
    Plain (noted v (note (record d.outside.making { generator = g })) set d)

abbrev pub writes : Outcome → (ℕ → Outside → Outside) → Data → Effect
writes (Refused why) note d = Faults kind.BadService
writes (Does v g change set) note d =
    Changes change (answer v (with_outside
    (note v (record d.outside { making = record d.outside.making { generator = g } })) d))

abbrev pub generator_of : Data → Generator
generator_of d = d.outside.making.generator

-- a function is begun, with no op yet
abbrev pub begun_with : ℕ → Making → Making
begun_with parameters m = record m { issued = record { parameters = parameters; ops = [] } }

-- an op was issued, behind those before
abbrev pub with_op : Option BuildOp → Built → Built
with_op None b = b
with_op (Some op) b = record b { ops = b.ops ++ (op ∷ []) }

abbrev pub issued_with : Option BuildOp → Making → Making
issued_with op m = record m { issued = with_op op m.issued; ops = m.ops + 1 }

-- a function was finished at an address, of so many words, and its choice is spent
abbrev pub spent : ℕ → ℕ → Outside → Outside
spent at v o = record o {
  making = record o.making {
    finishes = (record { at = at; built = o.making.issued }) ∷ o.making.finishes;
    row = later_choices o.making.row;
    words = o.making.words + v;
  };
}

abbrev pub published_once : Making → Making
published_once m = record m { functions = m.functions + 1 }

abbrev pub flushed_once : ℕ → Outside → Outside
flushed_once v o = record o { flushes = o.flushes + 1 }

abbrev pub begin : Data → Effect
begin d = makes (services.begin (register 4 d) (generator_of d)) (begun_with (register 4 d)) d

abbrev pub emit : Data → Effect
emit d =
    makes (services.emit (register 4 d) (register 5 d) (register 6 d) (generator_of d))
    (issued_with (op_of (register 4 d) (register 5 d) (register 6 d))) d

abbrev pub finish : Data → Effect
finish d =
    writes
    (services.finish (next_choice d.outside.making.row) (register 4 d) (register 5 d) (register 6 d) (generator_of d))
    (spent (register 4 d)) d

abbrev pub flush : Data → Effect
flush d = writes (services.flush (register 4 d) (register 5 d) (generator_of d)) flushed_once d

abbrev pub publish : Data → Effect
publish d =
    makes (services.publish (register 4 d) (register 5 d) (register 6 d) (generator_of d))
    published_once d

abbrev pub serve : Option Service → Data → Effect
serve None d = Faults kind.BadService
serve (Some PutInt) d = put (number_bytes (register 4 d)) (register 4 d) d
serve (Some Exit) d = Ends (Done (register 4 d % 256))
serve (Some PutByte) d = put (register 4 d % 256 ∷ []) (register 4 d % 256) d
serve (Some GetByte) d = get d
serve (Some Begin) d = begin d
serve (Some Emit) d = emit d
serve (Some Finish) d = finish d
serve (Some Flush) d = flush d
serve (Some Publish) d = publish d
