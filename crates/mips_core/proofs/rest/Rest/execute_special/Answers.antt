use Rattle.std.proofs.Common.{[], ◌∷◌, refl}
use Rattle.mips_core.proofs.Dispatched.{by_function, no_function, no_syscall, none_of, special}
use Rattle.mips_core.proofs.rest.Rest.execute_special.Goals as goal

pub returns-in-0 : goal.returns-in-0
returns-in-0 g c = by_function c.args.self.now c.args.w c.in-0.is refl c.shift.ensures

pub returns-in-2 : goal.returns-in-2
returns-in-2 g c = by_function c.args.self.now c.args.w c.in-2.is refl c.shift-in-2.ensures

pub returns-in-3 : goal.returns-in-3
returns-in-3 g c = by_function c.args.self.now c.args.w c.in-3.is refl c.shift-in-3.ensures

pub returns-in-4 : goal.returns-in-4
returns-in-4 g c = by_function c.args.self.now c.args.w c.in-4.is refl c.shift_variable.ensures

pub returns-in-6 : goal.returns-in-6
returns-in-6 g c = by_function c.args.self.now c.args.w c.in-6.is refl c.shift_variable-in-6.ensures

pub returns-in-7 : goal.returns-in-7
returns-in-7 g c = by_function c.args.self.now c.args.w c.in-7.is refl c.shift_variable-in-7.ensures

pub returns-in-8 : goal.returns-in-8
returns-in-8 g c = by_function c.args.self.now c.args.w c.in-8.is refl c.jump_register.ensures

pub returns-in-9 : goal.returns-in-9
returns-in-9 g c = by_function c.args.self.now c.args.w c.in-9.is refl c.jump_and_link_register.ensures

pub returns-in-13 : goal.returns-in-13
returns-in-13 g c = by_function c.args.self.now c.args.w c.in-13.is refl c.break_with.ensures

pub returns-in-16 : goal.returns-in-16
returns-in-16 g c = by_function c.args.self.now c.args.w c.in-16.is refl c.move_from.ensures

pub returns-in-17 : goal.returns-in-17
returns-in-17 g c = by_function c.args.self.now c.args.w c.in-17.is refl c.move_to.ensures

pub returns-in-18 : goal.returns-in-18
returns-in-18 g c = by_function c.args.self.now c.args.w c.in-18.is refl c.move_from-in-18.ensures

pub returns-in-19 : goal.returns-in-19
returns-in-19 g c = by_function c.args.self.now c.args.w c.in-19.is refl c.move_to-in-19.ensures

pub returns-in-24 : goal.returns-in-24
returns-in-24 g c = by_function c.args.self.now c.args.w c.in-24.is refl c.multiply_divide.ensures

pub returns-in-25 : goal.returns-in-25
returns-in-25 g c = by_function c.args.self.now c.args.w c.in-25.is refl c.multiply_divide-in-25.ensures

pub returns-in-26 : goal.returns-in-26
returns-in-26 g c = by_function c.args.self.now c.args.w c.in-26.is refl c.multiply_divide-in-26.ensures

pub returns-in-27 : goal.returns-in-27
returns-in-27 g c = by_function c.args.self.now c.args.w c.in-27.is refl c.multiply_divide-in-27.ensures

pub returns-in-32 : goal.returns-in-32
returns-in-32 g c = by_function c.args.self.now c.args.w c.in-32.is refl c.arithmetic.ensures

pub returns-in-33 : goal.returns-in-33
returns-in-33 g c = by_function c.args.self.now c.args.w c.in-33.is refl c.arithmetic-in-33.ensures

pub returns-in-34 : goal.returns-in-34
returns-in-34 g c = by_function c.args.self.now c.args.w c.in-34.is refl c.arithmetic-in-34.ensures

pub returns-in-35 : goal.returns-in-35
returns-in-35 g c = by_function c.args.self.now c.args.w c.in-35.is refl c.arithmetic-in-35.ensures

pub returns-in-36 : goal.returns-in-36
returns-in-36 g c = by_function c.args.self.now c.args.w c.in-36.is refl c.arithmetic-in-36.ensures

pub returns-in-37 : goal.returns-in-37
returns-in-37 g c = by_function c.args.self.now c.args.w c.in-37.is refl c.arithmetic-in-37.ensures

pub returns-in-38 : goal.returns-in-38
returns-in-38 g c = by_function c.args.self.now c.args.w c.in-38.is refl c.arithmetic-in-38.ensures

pub returns-in-39 : goal.returns-in-39
returns-in-39 g c = by_function c.args.self.now c.args.w c.in-39.is refl c.arithmetic-in-39.ensures

pub returns-in-42 : goal.returns-in-42
returns-in-42 g c = by_function c.args.self.now c.args.w c.in-42.is refl c.arithmetic-in-42.ensures

pub returns-in-43 : goal.returns-in-43
returns-in-43 g c = by_function c.args.self.now c.args.w c.in-43.is refl c.arithmetic-in-43.ensures

pub returns-then-w-eq12 : goal.returns-then-w-eq12
returns-then-w-eq12 g c = record {
  service = λ is. (refl, refl);
  other = λ not. absurd (not c.if-w-eq12.true);
}

pub returns-in-10 : goal.returns-in-10
returns-in-10 g c =
    no_function c.args.self.now c.args.w
    (none_of (special c.args.w) 10 (14 ∷ 20 ∷ 22 ∷ 28 ∷ 30 ∷ 40 ∷ []) c.in-10.is refl)
    (c.fault-in-10.ensures.becomes _)

pub returns-in-1 : goal.returns-in-1
returns-in-1 g c =
    no_function c.args.self.now c.args.w
    (none_of (special c.args.w) 1 (5 ∷ 11 ∷ 15 ∷ 21 ∷ 23 ∷ 29 ∷ 31 ∷ 41 ∷ []) c.in-1.is refl)
    (c.fault-in-1.ensures.becomes _)

pub returns-in-44 : goal.returns-in-44
returns-in-44 g c =
    no_function c.args.self.now c.args.w
    (none_of (special c.args.w) 44 (46 ∷ 48 ∷ 50 ∷ 52 ∷ 54 ∷ 56 ∷ 58 ∷ 60 ∷ 62 ∷ []) c.in-44.is refl)
    (c.fault-in-44.ensures.becomes _)

pub returns-in-45 : goal.returns-in-45
returns-in-45 g c =
    no_function c.args.self.now c.args.w
    (none_of (special c.args.w) 45 (47 ∷ 49 ∷ 51 ∷ 53 ∷ 55 ∷ 57 ∷ 59 ∷ 61 ∷ 63 ∷ []) c.in-45.is refl)
    (c.fault-in-45.ensures.becomes _)

pub returns-else-w-eq12 : goal.returns-else-w-eq12
returns-else-w-eq12 g c =
    no_function c.args.self.now c.args.w (no_syscall c.args.w c.in-12.is c.if-w-eq12.false) (c.fault.ensures.becomes _)
