-- The steps from a base to a declared type. A declarator is read from its name outwards, as in C: what stands nearest
-- to the name is taken last. A list of steps has the step that is taken last as its first.
use Rattle.std.specs.Prelude.{ℕ, Bool, true, false, List, [], ◌∷◌, ◌++◌, if◌then◌else◌}
use Rattle.c_types.specs.declared.ctype.Layer.{Layer}
use Rattle.c_types.specs.declared.ctype.Layer.TheVariants as layer
use Rattle.tick_tree.specs.declared.base.Prefix.{Prefix}
use Rattle.tick_tree.specs.declared.base.Prefix.TheVariants as prefix
use Rattle.check_declarators.specs.declared.steps.Length.{Length}
use Rattle.check_declarators.specs.declared.steps.Length.TheVariants as len
use Rattle.check_declarators.specs.declared.steps.Step.{Step}
use Rattle.check_declarators.specs.declared.steps.Step.TheVariants as step

-- the length that an array has; 0 is none that is allowed
abbrev pub count_of : Length → ℕ
count_of (len.Constant n) = n
count_of len.Absent = 0
count_of len.Computed = 0
count_of len.Void = 0
count_of (len.Counted n) = n

abbrev pub prefix_layer : Prefix → Layer
prefix_layer prefix.Star = layer.Pointer
prefix_layer prefix.Cspec = layer.Cspec
prefix_layer prefix.Vspec = layer.Vspec

-- the layer that a step lays over a type
abbrev pub layer_of : Step → Layer
layer_of (step.Prefix p) = prefix_layer p
layer_of (step.Array n) = layer.Array (count_of n)
layer_of (step.Function list) = layer.Function list
layer_of step.Unlisted = layer.Unlisted

-- prefixes are taken from left to right, before the steps inside them
abbrev pub prefixed : List Prefix → List Step → List Step
prefixed [] ss = ss
prefixed (p ∷ ps) ss = prefixed ps ss ++ step.Prefix p ∷ []

abbrev pub lacks : Step → Bool
lacks (step.Array len.Absent) = true
lacks _ = false

-- whether the outermost layer is an array without a length
abbrev pub lacks_length : List Step → Bool
lacks_length [] = false
lacks_length (s ∷ ss) = lacks s

abbrev pub with_length : ℕ → List Step → List Step
with_length count [] = []
with_length count (s ∷ ss) = step.Array (len.Counted count) ∷ ss

-- the steps with this count for the outermost array, where that has no length
abbrev pub filled : ℕ → List Step → List Step
filled count ss = if lacks_length ss then with_length count ss else ss
