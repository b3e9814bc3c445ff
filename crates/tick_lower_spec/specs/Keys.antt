-- The keys that a builder has mentioned: the variables of the generated code that its ops name, and the parameters, each
-- with a register that the builder's prelude sets. These are this project's own rules.
use Rattle.std.specs.Prelude.{◌≡◌, ◌≢◌, ℕ, ◌+◌, ◌≤◌, nat_lt, if◌then◌else◌, Bool, true, false, List, [], ◌∷◌, length}
use Rattle.limits.specs.declared.program.TheConstants.{MOST_ARGUMENTS}
use Rattle.history.specs.Syntax.{Syntax}
use Rattle.icode_ops.specs.declared.op.Op.{Op}
use Rattle.icode_ops.specs.declared.op.Op.TheVariants as op
use Rattle.meaning_state.specs.Rows.{keys_of, locals_of, is_among}
use Rattle.icode_ir.specs.Build.{Build, first_mention}

-- the constants of a builder's prelude: each variable of the generated code that was mentioned is 0 at first
abbrev pub zeroes : List Op → List Op
zeroes [] = []
zeroes (op.Const to word ∷ ops) = op.Const to word ∷ zeroes ops
zeroes (o ∷ ops) = zeroes ops

-- the op of the prelude for each key, and the keys alone
abbrev pub told : List (ℕ × ℕ) → List Op
told [] = []
told (m ∷ ms) = first_mention m.0 m.1 ∷ told ms

abbrev pub firsts : List (ℕ × ℕ) → List ℕ
firsts [] = []
firsts (m ∷ ms) = m.0 ∷ firsts ms

-- no key twice
abbrev pub AreDistinct : List (ℕ × ℕ) → Type 0
AreDistinct [] = Unit {0}
AreDistinct (m ∷ ms) = (is_among m.0 (firsts ms) ≡ false) × AreDistinct ms

-- how many are parameters
abbrev pub one_low : Bool → ℕ
one_low b = if b then 1 else 0

abbrev pub low_keys : List (ℕ × ℕ) → ℕ
low_keys [] = 0
low_keys (m ∷ ms) = one_low (nat_lt m.0 MOST_ARGUMENTS) + low_keys ms

-- no register twice
abbrev pub IsNone : ℕ → List (ℕ × ℕ) → Type 0
IsNone r [] = Unit {0}
IsNone r (m ∷ ms) = (m.1 ≢ r) × IsNone r ms

abbrev pub AreOnce : List (ℕ × ℕ) → Type 0
AreOnce [] = Unit {0}
AreOnce (m ∷ ms) = IsNone m.1 ms × AreOnce ms

-- What a builder has mentioned is what a specification names, each once, and its prelude sets the variables among it:
-- as many as a call of the function spends units for.
pub record SetsKeys (syntax : Syntax) (b : Build) : Type 0 where
  pub prelude : b.prelude ≡ told b.keys
  pub distinct : AreDistinct b.keys
  pub registers : AreOnce b.keys
  pub parameters : low_keys b.keys ≤ MOST_ARGUMENTS
  pub named : (key : ℕ) → is_among key (keys_of syntax) ≡ true → is_among key (firsts b.keys) ≡ true
  pub no_more : (key : ℕ) → is_among key (firsts b.keys) ≡ true → is_among key (keys_of syntax) ≡ true
  pub locals : length (zeroes b.prelude) ≡ locals_of syntax
