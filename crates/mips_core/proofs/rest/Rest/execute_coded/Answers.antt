use Rattle.std.proofs.Common.{[], ◌∷◌, refl}
use Rattle.mips_core.proofs.Dispatched.{by_opcode, coded, no_opcode, none_of}
use Rattle.mips_core.proofs.rest.Rest.execute_coded.Goals as goal

pub returns-in-1 : goal.returns-in-1
returns-in-1 g c = by_opcode c.args.self.now c.args.w c.in-1.is c.execute_regimm.ensures

pub returns-in-2 : goal.returns-in-2
returns-in-2 g c = by_opcode c.args.self.now c.args.w c.in-2.is c.jump.ensures

pub returns-in-3 : goal.returns-in-3
returns-in-3 g c = by_opcode c.args.self.now c.args.w c.in-3.is c.jump_and_link.ensures

pub returns-in-4 : goal.returns-in-4
returns-in-4 g c = by_opcode c.args.self.now c.args.w c.in-4.is c.branch_on_equality.ensures

pub returns-in-5 : goal.returns-in-5
returns-in-5 g c = by_opcode c.args.self.now c.args.w c.in-5.is c.branch_on_equality-in-5.ensures

pub returns-in-6 : goal.returns-in-6
returns-in-6 g c = by_opcode c.args.self.now c.args.w c.in-6.is c.branch_on_zero.ensures

pub returns-in-7 : goal.returns-in-7
returns-in-7 g c = by_opcode c.args.self.now c.args.w c.in-7.is c.branch_on_zero-in-7.ensures

pub returns-in-8 : goal.returns-in-8
returns-in-8 g c = by_opcode c.args.self.now c.args.w c.in-8.is c.immediate.ensures

pub returns-in-9 : goal.returns-in-9
returns-in-9 g c = by_opcode c.args.self.now c.args.w c.in-9.is c.immediate-in-9.ensures

pub returns-in-10 : goal.returns-in-10
returns-in-10 g c = by_opcode c.args.self.now c.args.w c.in-10.is c.immediate-in-10.ensures

pub returns-in-11 : goal.returns-in-11
returns-in-11 g c = by_opcode c.args.self.now c.args.w c.in-11.is c.immediate-in-11.ensures

pub returns-in-12 : goal.returns-in-12
returns-in-12 g c = by_opcode c.args.self.now c.args.w c.in-12.is c.immediate-in-12.ensures

pub returns-in-13 : goal.returns-in-13
returns-in-13 g c = by_opcode c.args.self.now c.args.w c.in-13.is c.immediate-in-13.ensures

pub returns-in-14 : goal.returns-in-14
returns-in-14 g c = by_opcode c.args.self.now c.args.w c.in-14.is c.immediate-in-14.ensures

pub returns-in-15 : goal.returns-in-15
returns-in-15 g c = by_opcode c.args.self.now c.args.w c.in-15.is c.load_upper.ensures

pub returns-in-32 : goal.returns-in-32
returns-in-32 g c = by_opcode c.args.self.now c.args.w c.in-32.is c.access_memory.ensures

pub returns-in-33 : goal.returns-in-33
returns-in-33 g c = by_opcode c.args.self.now c.args.w c.in-33.is c.access_memory-in-33.ensures

pub returns-in-35 : goal.returns-in-35
returns-in-35 g c = by_opcode c.args.self.now c.args.w c.in-35.is c.access_memory-in-35.ensures

pub returns-in-36 : goal.returns-in-36
returns-in-36 g c = by_opcode c.args.self.now c.args.w c.in-36.is c.access_memory-in-36.ensures

pub returns-in-37 : goal.returns-in-37
returns-in-37 g c = by_opcode c.args.self.now c.args.w c.in-37.is c.access_memory-in-37.ensures

pub returns-in-40 : goal.returns-in-40
returns-in-40 g c = by_opcode c.args.self.now c.args.w c.in-40.is c.access_memory-in-40.ensures

pub returns-in-41 : goal.returns-in-41
returns-in-41 g c = by_opcode c.args.self.now c.args.w c.in-41.is c.access_memory-in-41.ensures

pub returns-in-43 : goal.returns-in-43
returns-in-43 g c = by_opcode c.args.self.now c.args.w c.in-43.is c.access_memory-in-43.ensures

pub returns-in-16 : goal.returns-in-16
returns-in-16 g c =
    no_opcode c.args.self.now c.args.w
    (none_of (coded c.args.w) 16 (18 ∷ 20 ∷ 22 ∷ 24 ∷ 26 ∷ 28 ∷ 30 ∷ 34 ∷ 38 ∷ []) c.in-16.is refl)
    (c.fault.ensures.becomes _)

pub returns-in-17 : goal.returns-in-17
returns-in-17 g c =
    no_opcode c.args.self.now c.args.w
    (none_of (coded c.args.w) 17 (19 ∷ 21 ∷ 23 ∷ 25 ∷ 27 ∷ 29 ∷ 31 ∷ 39 ∷ 42 ∷ []) c.in-17.is refl)
    (c.fault-in-17.ensures.becomes _)

pub returns-in-44 : goal.returns-in-44
returns-in-44 g c =
    no_opcode c.args.self.now c.args.w
    (none_of (coded c.args.w) 44 (46 ∷ 48 ∷ 50 ∷ 52 ∷ 54 ∷ 56 ∷ 58 ∷ 60 ∷ 62 ∷ []) c.in-44.is refl)
    (c.fault-in-44.ensures.becomes _)

pub returns-in-45 : goal.returns-in-45
returns-in-45 g c =
    no_opcode c.args.self.now c.args.w
    (none_of (coded c.args.w) 45 (47 ∷ 49 ∷ 51 ∷ 53 ∷ 55 ∷ 57 ∷ 59 ∷ 61 ∷ 63 ∷ []) c.in-45.is refl)
    (c.fault-in-45.ensures.becomes _)
