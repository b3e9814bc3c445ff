-- The rules on specifications.
use Rattle.std.proofs.Common.{◌≡◌, ℕ, false, not, ◌∙◌}
use Rattle.c_types.specs.declared.ctype.CType.{CType}
use Rattle.c_types.specs.declared.ctype.Layer.TheVariants as layer
use Rattle.check_types.specs.Shapes.{is_void, is_word, promoted}
use Rattle.tick_tree.specs.declared.fault.FaultKind.TheVariants as fault
use Rattle.check_operands.specs.declared.operand.Value.{Value}
use Rattle.check_operands.specs.Stages.{specification, dollar, compiles_to, compile, local, parameter}
use Rattle.wf_nodes.specs.Used.{IsUsedValue, IsUsed, Unless}
use Rattle.wf_nodes.specs.Values.{IsCaptured, StagesUse}
use Rattle.wf_nodes.proofs.Broken.{unless_by, no_other, no_first, not_void, value_left}
use Rattle.wf_nodes.proofs.NodeValues.{as_used, local_left, compile_left, parameter_left}
use Rattle.wf_nodes.proofs.Types.{layer_type, promoted_type}

specification_type : (t : CType) → is_void (specification t) ≡ false
specification_type t = layer_type layer.Cspec (promoted t)

compile_used : (line : ℕ) (t : CType) (v : Value) → IsUsedValue v → Unless IsUsed (compile line t v)
unfolding compile
compile_used line t v h =
    unless_by IsUsed line _ _
    (λ k. as_used _ _ (compile_left v.code (value_left v _ h (no_other (not (compiles_to t)) fault.TypeMismatch _ k)))
    (layer_type layer.Pointer _))

local_used : (line : ℕ) (t : CType) → Unless IsUsed (local line t)
unfolding local
local_used line t = unless_by IsUsed line _ _ (λ k. as_used _ _ local_left (layer_type layer.Vspec t))

parameter_used : (line : ℕ) (t : CType) (v : Value) → IsUsedValue v → Unless IsUsed (parameter line t v)
unfolding parameter
parameter_used line t v h =
    unless_by IsUsed line _ _
    (λ k. as_used _ _ (parameter_left v.code (value_left v _ h (no_first (is_word t) fault.TypeMismatch _ k)))
    (layer_type layer.Vspec t))

dollar_used : (line : ℕ) (v : Value) → IsUsedValue v → Unless IsCaptured (dollar line v)
unfolding dollar
dollar_used line v h =
    unless_by IsCaptured line _ _
    (λ k. record { code = value_left v _ h k; type = promoted_type v.ctype ∙ not_void v _ k })

pub stages_use : StagesUse
stages_use = record {
  specification = specification_type;
  compile = compile_used;
  local = local_used;
  parameter = parameter_used;
  dollar = dollar_used;
}
