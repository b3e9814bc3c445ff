-- The walk over each node in a tick: its answer names what the walks over its parts captured, in the order of the text.
use Rattle.std.proofs.Common.{◌≡◌, ℕ, ◌+◌, Bool, true, false, ◌&&◌, if◌then◌else◌, List, [], ◌∷◌, ◌++◌, length, refl}
use Rattle.std.proofs.Common.{ap, sym}
use Rattle.std.proofs.Common.{◌∙◌, subst, Option, Some, None, Ok, Err, arith, length-append}
use Rattle.icode_ops.specs.declared.kind.UnKind.TheVariants as un
use Rattle.c_types.specs.declared.ctype.CType.{CType}
use Rattle.check_scopes.specs.declared.names.Meaning.{Meaning}
use Rattle.check_scopes.specs.declared.names.MeaningKind.{MeaningKind}
use Rattle.check_scopes.specs.declared.names.MeaningKind.TheVariants as kind
use Rattle.check_scopes.specs.Scopes.{Name, find}
use Rattle.tick_tree.specs.declared.base.BinaryOp.{BinaryOp}
use Rattle.tick_tree.specs.declared.base.ModifyOp.{ModifyOp}
use Rattle.tick_tree.specs.declared.base.StepOp.{StepOp}
use Rattle.tick_tree.specs.declared.base.StepOp.TheVariants as step_op
use Rattle.tick_tree.specs.declared.base.UnaryOp.{UnaryOp}
use Rattle.tick_tree.specs.declared.base.UnaryOp.TheVariants as unary_op
use Rattle.tick_tree.specs.declared.fault.FaultKind.TheVariants as fault
use Rattle.tick_tree.specs.Faults.{Checked, refuse, ◌>>=◌ as ◌>>>=◌}
use Rattle.tick_tree.specs.declared.syntax.Core.TheOpen.{Expr-F}
use Rattle.typed_tree.specs.declared.expression.CaptureKind.TheVariants as capture
use Rattle.typed_tree.specs.declared.expression.CapturedWord.TheVariants as word
use Rattle.check_operands.specs.declared.operand.Operand.{Operand}
use Rattle.check_operands.specs.declared.operand.Place.{Place}
use Rattle.check_operands.specs.declared.operand.Place.TheVariants as place
use Rattle.check_operands.specs.declared.operand.Value.{Value}
use Rattle.check_operands.specs.Operands as nodes
use Rattle.check_operands.specs.Operands.{value_of, settled}
use Rattle.check_operands.specs.Operators as operators
use Rattle.check_operands.specs.Stages as stages
use Rattle.check_operands.specs.declared.arguments.Arguments.{Arguments}
use Rattle.check_operands.specs.Calls as calls
use Rattle.check_operands.specs.Places as places
use Rattle.check_rules.specs.Images as images
use Rattle.check_rules.specs.Ticks as ticks
use Rattle.check_rules.specs.Walks.{Rule, ◌>>=◌, pure, lift}
use Rattle.check_rules.specs.declared.state.Stage.{Stage}
use Rattle.check_rules.specs.declared.state.Stage.TheVariants as stage
use Rattle.check_rules.specs.declared.state.State.{State}
use Rattle.check_rules.specs.Names.{library_at, library_by, library}
use Rattle.check_rules.specs.Productions as productions
use Rattle.check_rules.specs.ExpressionRules.{Node, Named, both as both_walk, arguments, library_of, library_call}
use Rattle.check_rules.specs.ExpressionRules.{plain_call, call_of, call, unary, cast, choice, size}
use Rattle.check_rules.specs.ExpressionRules.{comma, walk_rule}
use Rattle.check_rules.specs.Walk.{Expr-W}
use Rattle.wellformed.specs.Captured.{Naming, none, both, named}
use Rattle.wellformed.proofs.Named.{named_captured}
use Rattle.wf_nodes.specs.Right.{Unless}
use Rattle.wf_nodes.specs.Used.{IsLibrary}
use Rattle.wf_walk.specs.Captured.{IsOfLibrary, HasLibrary, Names, NamesFrom}
use Rattle.wf_walk.specs.Parts.{EachPart}
use Rattle.wf_walk.proofs.Walks.{ran, pure_value}
use Rattle.wf_walk.specs.Asked.{EveryExpr}
use Rattle.wf_walk.proofs.ExpressionNames.{of_scope}
use Rattle.wf_walk.specs.Named.{place_named, at_stage, operand_named, IsInside, nothing, NamesNode, NamesNamed}
use Rattle.wf_walk.specs.Named.{names}
use Rattle.wf_walk.proofs.CapturedRules.{Same, at, Gives, unless_map, pair, onto, value_names, settled_names}
use Rattle.wf_walk.proofs.CapturedRules.{number_names, character_names, string_names, size_names, plus_names}
use Rattle.wf_walk.proofs.CapturedRules.{integer_names}
use Rattle.wf_walk.proofs.CapturedRules.{dereferenced_names, negated_names, cast_names, binary_names, index_names}
use Rattle.wf_walk.proofs.CapturedRules.{choice_names, comma_names, assign_names, modify_names, stepped_names}
use Rattle.wf_walk.proofs.CapturedRules.{post_names}
use Rattle.wf_walk.proofs.CapturedRules.{address_names}
use Rattle.wf_walk.proofs.CapturedCalls.{codes_named, argument_names, calling, call_names, library_names}
use Rattle.wf_walk.proofs.CapturedSteps.{names_more, names_kept, names_still, names_as, joined, implies, answers}
use Rattle.wf_walk.proofs.CapturedSteps.{decides, given}
use Rattle.wf_walk.proofs.CapturedSteps.{staged, staged_none, staged_both, staged_three, part}
use Rattle.wf_walk.proofs.CapturedNames.{caught, name_names}

-- ---- rules of single nodes, on operands

-- what an operand's place names
abbrev of : Operand → Naming
of o = place_named o.place

one_by : (o : Operand) (c : Checked Operand) → Unless (Gives (named (value_of o).code)) c → Unless (Gives (of o)) c
one_by o c = unless_map (Gives (named (value_of o).code)) (Gives (of o)) c (λ r h n. h n ∙ value_names o n)

two_by : (x y : Operand) (c : Checked Operand) → Unless (Gives (pair (value_of x) (value_of y))) c →
    Unless (Gives (both (of x) (of y))) c
two_by x y c = unless_map (Gives (pair (value_of x) (value_of y))) (Gives (both (of x) (of y))) c
    (λ r h n. h n ∙ value_names y (named (value_of x).code n) ∙ ap (of y) (value_names x n))

onto_by : (x y : Operand) (c : Checked Operand) → Unless (Gives (onto (settled x) (value_of y))) c →
    Unless (Gives (both (of x) (of y))) c
onto_by x y c = unless_map (Gives (onto (settled x) (value_of y))) (Gives (both (of x) (of y))) c
    (λ r h n. h n ∙ value_names y (of (settled x) n) ∙ ap (of y) (settled_names x n))

settled_by : (x : Operand) (c : Checked Operand) → Unless (Gives (of (settled x))) c → Unless (Gives (of x)) c
settled_by x c = unless_map (Gives (of (settled x))) (Gives (of x)) c (λ r h n. h n ∙ settled_names x n)

left_if : (f : Naming) (b : Bool) (line : ℕ) (o : Operand) → Gives f o →
    Unless (Gives f) (if b then refuse fault.StageInTick line else Ok o)
left_if f true line o h = tt
left_if f false line o h = h

left_names : (f : Naming) (line : ℕ) (g : Stage) (o : Operand) → Gives f o →
    Unless (Gives f) (productions.left line g o)
unfolding productions.left
left_names f line g o h = left_if f (productions.is_tick g && productions.is_specification o.ctype) line o h

all_left : (f : Naming) (line : ℕ) (g : Stage) (c : Checked Operand) → Unless (Gives f) c →
    Unless (Gives f) (c >>>= productions.left line g)
all_left f line g (Ok o) h = left_names f line g o h
all_left f line g (Err e) h = tt

binary_rule : (line : ℕ) (o : BinaryOp) (x y : Operand) →
    Unless (Gives (both (of x) (of y))) (productions.binary_node line o x y)
unfolding productions.binary_node nodes.values
binary_rule line o x y = two_by x y _ (binary_names line o (value_of x) (value_of y))

index_rule : (line : ℕ) (g : Stage) (x y : Operand) →
    Unless (Gives (both (of x) (of y))) (productions.index_node line g x y)
unfolding productions.index_node nodes.values
index_rule line g x y =
    all_left (both (of x) (of y)) line g (operators.index line (value_of x) (value_of y))
    (two_by x y _ (index_names line (value_of x) (value_of y)))

assign_rule : (line : ℕ) (x y : Operand) → Unless (Gives (both (of x) (of y))) (productions.assign_node line x y)
unfolding productions.assign_node
assign_rule line x y = onto_by x y _ (assign_names line (settled x) (value_of y))

modify_rule : (line : ℕ) (m : ModifyOp) (x y : Operand) →
    Unless (Gives (both (of x) (of y))) (productions.modify_node line m x y)
unfolding productions.modify_node
modify_rule line m x y = onto_by x y _ (modify_names line m (settled x) (value_of y))

comma_rule : (x y : Operand) → Gives (both (of x) (of y)) (productions.comma_node x y)
unfolding productions.comma_node nodes.values
comma_rule x y n =
    comma_names (value_of x) (value_of y) n
    ∙ value_names y (named (value_of x).code n) ∙ ap (of y) (value_names x n)

choice_rule : (line : ℕ) (c x y : Operand) →
    Unless (Gives (both (of c) (both (of x) (of y)))) (productions.choice_node line c x y)
unfolding productions.choice_node nodes.values
choice_rule line c x y =
    unless_map (Gives (both (named (value_of c).code) (pair (value_of x) (value_of y))))
    (Gives (both (of c) (both (of x) (of y)))) _
    (λ r h n. h n
    ∙ value_names y (named (value_of x).code (named (value_of c).code n))
    ∙ ap (of y) (value_names x (named (value_of c).code n) ∙ ap (of x) (value_names c n)))
    (choice_names line (value_of c) (value_of x) (value_of y))

cast_rule : (line : ℕ) (t : CType) (o : Operand) → Unless (Gives (of o)) (productions.cast_node line t o)
unfolding productions.cast_node
cast_rule line t o = one_by o _ (cast_names line t (value_of o))

post_rule : (line : ℕ) (s : StepOp) (o : Operand) → Unless (Gives (of o)) (productions.post_node line s o)
unfolding productions.post_node
post_rule line s o = settled_by o _ (post_names line s (settled o))

step_rule : (line : ℕ) (s : StepOp) (o : Operand) → Unless (Gives (of o)) (productions.step_node line s o)
unfolding productions.step_node
step_rule line s o = settled_by o _ (stepped_names line s (settled o))

star_rule : (line : ℕ) (g : Stage) (o : Operand) → Unless (Gives (of o)) (productions.star_node line g o)
unfolding productions.star_node
star_rule line g o =
    all_left (of o) line g (nodes.dereferenced line (value_of o))
    (one_by o _ (dereferenced_names line (value_of o)))

signed_rule : (line : ℕ) (u : UnaryOp) (o : Operand) → Unless (Gives (of o)) (productions.signed_node line u o)
signed_rule line unary_op.Minus o = one_by o _ (integer_names line un.Negate (value_of o))
signed_rule line unary_op.Complement o = one_by o _ (integer_names line un.Complement (value_of o))
signed_rule line unary_op.Not o = one_by o _ (negated_names line (value_of o))
signed_rule line _ o = one_by o _ (plus_names line (value_of o))

-- ---- at a stage

abbrev Named1 : Stage → Operand → Operand → Type 0
Named1 g o r = Same (operand_named g r) (operand_named g o)

one_at : (g : Stage) (o : Operand) (c : Checked Operand) → Unless (Gives (of o)) c → Unless (Named1 g o) c
one_at g o c = unless_map (Gives (of o)) (Named1 g o) c (λ r h. staged g (of r) (of o) h)

abbrev Named2 : Stage → Operand → Operand → Operand → Type 0
Named2 g x y r = Same (operand_named g r) (both (operand_named g x) (operand_named g y))

two_at : (g : Stage) (x y : Operand) (c : Checked Operand) → Unless (Gives (both (of x) (of y))) c →
    Unless (Named2 g x y) c
two_at g x y c = unless_map (Gives (both (of x) (of y))) (Named2 g x y) c (λ r h. staged_both g (of r) (of x) (of y) h)

abbrev Named3 : Stage → Operand → Operand → Operand → Operand → Type 0
Named3 g c x y r =
    Same (operand_named g r) (both (operand_named g c) (both (operand_named g x) (operand_named g y)))

three_at : (g : Stage) (c x y : Operand) (k : Checked Operand) → Unless (Gives (both (of c) (both (of x) (of y)))) k →
    Unless (Named3 g c x y) k
three_at g c x y k =
    unless_map (Gives (both (of c) (both (of x) (of y)))) (Named3 g c x y) k
    (λ r h. staged_three g (of r) (of c) (of x) (of y) h)

none_at : (g : Stage) (c : Checked Operand) → Unless (Gives none) c → Unless (λ r. Same (operand_named g r) none) c
none_at g c = unless_map (Gives none) (λ r. Same (operand_named g r) none) c (λ r h. staged_none g (of r) h)

-- ---- parts

abbrev Walked : Stage → Rule State Operand → Type 0
Walked g r = NamesFrom none (operand_named g) r

abbrev pairs : Stage → Operand × Operand → Naming
pairs g p = both (operand_named g p.0) (operand_named g p.1)

both_go : (b : Naming) (x y : Node) (g : Stage) → IsInside g → NamesNode x → NamesNode y →
    NamesFrom b (λ p. both b (pairs g p)) (both_walk x y g)
both_go b x y g w h k =
    joined b (λ o. both b (operand_named g o)) (λ p. both b (pairs g p)) (x.walk g)
    (λ o. y.walk g >>= (λ q. pure (o, q)))
    (part b x g w h)
    (λ o. joined (both b (operand_named g o)) (λ q. both b (pairs g (o, q))) (λ p. both b (pairs g p)) (y.walk g)
    (λ q. pure (o, q)) (part (both b (operand_named g o)) y g w k)
    (λ q. answers (both b (pairs g (o, q))) (λ p. both b (pairs g p)) (o, q) (λ n. refl)))

two : (x y : Node) (g : Stage) (f : Operand → Operand → Checked Operand) → IsInside g → NamesNode x → NamesNode y →
    ((o q : Operand) → Unless (Gives (both (of o) (of q))) (f o q)) →
    Walked g (both_walk x y g >>= (λ p. lift (f p.0 p.1)))
two x y g f w h k rule =
    joined none (λ p. pairs g p) (operand_named g) (both_walk x y g) (λ p. lift (f p.0 p.1)) (both_go none x y g w h k)
    (λ p. decides (pairs g p) (operand_named g) (f p.0 p.1) (two_at g p.0 p.1 (f p.0 p.1) (rule p.0 p.1)))

comma_walks : (x y : Node) (g : Stage) → IsInside g → NamesNode x → NamesNode y → Walked g (comma x y g)
comma_walks x y g w h k =
    joined none (λ p. pairs g p) (operand_named g) (both_walk x y g) (λ p. pure (productions.comma_node p.0 p.1))
    (both_go none x y g w h k)
    (λ p. answers (pairs g p) (operand_named g) (productions.comma_node p.0 p.1)
    (staged_both g (of (productions.comma_node p.0 p.1)) (of p.0) (of p.1) (comma_rule p.0 p.1)))

choice_walks : (line : ℕ) (c x y : Node) (g : Stage) → IsInside g → NamesNode c → NamesNode x → NamesNode y →
    Walked g (choice line c x y g)
choice_walks line c x y g w l h k =
    joined none (operand_named g) (operand_named g) (c.walk g)
    (λ o. both_walk x y g >>= (λ p. lift (productions.choice_node line o p.0 p.1))) (part none c g w l)
    (λ o. joined (operand_named g o) (λ p. both (operand_named g o) (pairs g p)) (operand_named g) (both_walk x y g)
    (λ p. lift (productions.choice_node line o p.0 p.1)) (both_go (operand_named g o) x y g w h k)
    (λ p. decides (both (operand_named g o) (pairs g p)) (operand_named g) (productions.choice_node line o p.0 p.1)
    (three_at g o p.0 p.1 (productions.choice_node line o p.0 p.1) (choice_rule line o p.0 p.1))))

one : (a : Node) (g : Stage) (f : Operand → Checked Operand) → IsInside g → NamesNode a →
    ((o : Operand) → Unless (Gives (of o)) (f o)) → Walked g (a.walk g >>= (λ o. lift (f o)))
one a g f w h rule =
    joined none (operand_named g) (operand_named g) (a.walk g) (λ o. lift (f o)) (part none a g w h)
    (λ o. decides (operand_named g o) (operand_named g) (f o) (one_at g o (f o) (rule o)))

size_walks : (line : ℕ) (t : Named) (g : Stage) → IsInside g → NamesNamed t → Walked g (size line t g)
size_walks line t g w h =
    joined none nothing (operand_named g) (t.walk line g) (λ ty. lift (nodes.size line ty)) (h line g w)
    (λ ty. decides none (operand_named g) (nodes.size line ty) (none_at g (nodes.size line ty) (size_names line ty)))

cast_walks : (line : ℕ) (t : Named) (a : Node) (g : Stage) → IsInside g → NamesNamed t → NamesNode a →
    Walked g (cast line t a g)
cast_walks line t a g w h k =
    joined none nothing (operand_named g) (t.walk line g)
    (λ ty. a.walk g >>= (λ o. lift (productions.cast_node line ty o))) (h line g w)
    (λ ty. one a g (productions.cast_node line ty) w k (cast_rule line ty))

-- ---- `$` and `&`

dollar_by : (c : Checked Value) (s new : State) (x : Operand) →
    ◌≡◌ {A = Checked (Operand × State)} (c >>>= (λ v. Ok (productions.dollar_by v s))) (Ok (x, new)) → HasLibrary s →
    Names none (operand_named stage.Tick x) s new
dollar_by (Ok v) s new x e lib =
    given (operand_named stage.Tick) (productions.dollar_by v s)
    (caught capture.Dollar v.code refl lib refl (λ n. at n (named_captured word.Dollar (ticks.place s.ticks)))) e
dollar_by (Err f) s new x e lib = absurd (cc)

dollar_node : (line : ℕ) (o : Operand) → NamesFrom none (operand_named stage.Tick) (productions.dollar_node line o)
unfolding productions.dollar_node
dollar_node line o s new x e lib = dollar_by (stages.dollar line (value_of o)) s new x e lib

dollar_walks : (line : ℕ) (a : Node) (g : Stage) → IsInside g → NamesNode a →
    Walked g (unary line unary_op.Dollar a g)
dollar_walks line a stage.Function w h s new x e lib = absurd w
dollar_walks line a stage.Tick w h s new x e lib =
    joined none (operand_named stage.Dollar) (operand_named stage.Tick) (a.walk stage.Dollar)
    (productions.dollar_node line) (h stage.Dollar tt) (λ o. dollar_node line o) s new x e lib
dollar_walks line a stage.Dollar w h s new x e lib = absurd (cc)

address_by : (line : ℕ) (t : CType) (p : Place) → NamesFrom none (operand_named stage.Dollar)
    (productions.address_by line t p)
address_by line t (place.Value v) s new x e lib = absurd (cc)
address_by line t (place.Register i) s new x e lib = given (operand_named stage.Dollar) _ (names_kept refl lib refl) e
address_by line t (place.Generated i) s new x e lib = absurd (cc)
address_by line t (place.Memory a) s new x e lib = given (operand_named stage.Dollar) _ (names_still (λ n. refl) lib) e
address_by line t (place.Function f) s new x e lib = absurd (cc)

address_walks : (line : ℕ) (g : Stage) (o : Operand) → IsInside g →
    NamesFrom (operand_named g o) (operand_named g) (productions.address_node line g o)
unfolding productions.address_node
address_walks line stage.Function o w = absurd w
address_walks line stage.Tick o w =
    decides (of o) (operand_named stage.Tick) (places.address line o) (address_names line o)
address_walks line stage.Dollar o w = address_by line o.ctype o.place

-- ---- operators before their operands

own : (line : ℕ) (op : UnaryOp) (a : Node) (g : Stage) → IsInside g → NamesNode a →
    ((o : Operand) → NamesFrom (operand_named g o) (operand_named g) (productions.unary_node line op g o)) →
    Walked g (a.walk g >>= productions.unary_node line op g)
own line op a g w h k =
    joined none (operand_named g) (operand_named g) (a.walk g) (productions.unary_node line op g) (part none a g w h) k

rule : (g : Stage) (o : Operand) (c : Checked Operand) → Unless (Gives (of o)) c →
    NamesFrom (operand_named g o) (operand_named g) (lift c)
rule g o c h = decides (operand_named g o) (operand_named g) c (one_at g o c h)

unary_walks : (line : ℕ) (op : UnaryOp) (a : Node) (g : Stage) → IsInside g → NamesNode a →
    Walked g (unary line op a g)
unary_walks line unary_op.Plus a g w h =
    own line unary_op.Plus a g w h (λ o. rule g o _ (signed_rule line unary_op.Plus o))
unary_walks line unary_op.Minus a g w h =
    own line unary_op.Minus a g w h (λ o. rule g o _ (signed_rule line unary_op.Minus o))
unary_walks line unary_op.Complement a g w h =
    own line unary_op.Complement a g w h (λ o. rule g o _ (signed_rule line unary_op.Complement o))
unary_walks line unary_op.Not a g w h =
    own line unary_op.Not a g w h (λ o. rule g o _ (signed_rule line unary_op.Not o))
unary_walks line unary_op.Star a g w h = own line unary_op.Star a g w h (λ o. rule g o _ (star_rule line g o))
unary_walks line unary_op.Address a g w h = own line unary_op.Address a g w h (λ o. address_walks line g o w)
unary_walks line unary_op.Dollar a g w h = dollar_walks line a g w h
unary_walks line unary_op.Increment a g w h =
    own line unary_op.Increment a g w h (λ o. rule g o _ (step_rule line step_op.Increment o))
unary_walks line unary_op.Decrement a g w h =
    own line unary_op.Decrement a g w h (λ o. rule g o _ (step_rule line step_op.Decrement o))

-- ---- calls

-- what arguments name at a stage
abbrev args : Stage → Arguments → Naming
args g list = at_stage g (codes_named list.codes)

argument_rule : (g : Stage) (list : Arguments) (o : Operand) →
    Same (args g (productions.argument list o)) (both (args g list) (operand_named g o))
unfolding productions.argument
argument_rule g list o =
    staged_both g _ (codes_named list.codes) (of o)
    (λ n. argument_names list (value_of o) n ∙ value_names o (codes_named list.codes n))

arguments_go : (b : Naming) (list : List Node) (before : Arguments) (g : Stage) → IsInside g → EachPart NamesNode list →
    NamesFrom (both b (args g before)) (λ xs. both b (args g xs)) (arguments list before g)
arguments_go b [] before g w h = answers (both b (args g before)) (λ xs. both b (args g xs)) before (λ n. refl)
arguments_go b (a ∷ rest) before g w h =
    joined (both b (args g before)) (λ o. both b (args g (productions.argument before o))) (λ xs. both b (args g xs))
    (a.walk g) (λ x. arguments rest (productions.argument before x) g)
    (implies (both b (args g before)) (λ o. both (both b (args g before)) (operand_named g o))
    (λ o. both b (args g (productions.argument before o))) (a.walk g) (part (both b (args g before)) a g w h.0)
    (λ o n. argument_rule g before o (b n)))
    (λ x. arguments_go b rest (productions.argument before x) g w h.1)

none_args : (g : Stage) → Same (args g calls.no_arguments) none
none_args g = staged_none g (codes_named []) (λ n. refl)

all_go : (b : Naming) (list : List Node) (g : Stage) → IsInside g → EachPart NamesNode list →
    NamesFrom b (λ xs. both b (args g xs)) (arguments list calls.no_arguments g)
all_go b list g w h s new x e lib =
    names_as (λ n. sym (none_args g (b n))) (λ n. refl)
    (arguments_go b list calls.no_arguments g w h s new x e lib)

-- as many types as arguments
many_more : {A : Type 0} (xs : List A) (x : A) → length (xs ++ x ∷ []) ≡ length xs + 1
many_more xs x = length-append xs (x ∷ [])

argument_many : (list : Arguments) (o : Operand) → length list.codes ≡ length list.types →
    length (productions.argument list o).codes ≡ length (productions.argument list o).types
unfolding productions.argument
argument_many list o h =
    many_more list.codes _ ∙ ap (λ n. n + 1) h ∙ sym (many_more list.types _)

as_many : (list : List Node) (before : Arguments) (g : Stage) (s new : State) (xs : Arguments) →
    length before.codes ≡ length before.types → arguments list before g s ≡ Ok (xs, new) →
    length xs.codes ≡ length xs.types
as_many [] before g s new xs h e =
    subst (λ (l : Arguments). length l.codes ≡ length l.types) (pure_value before xs s new e) h
as_many (a ∷ rest) before g s new xs h e =
    let w = ran (a.walk g) (λ x. arguments rest (productions.argument before x) g) s xs new e in
    as_many rest (productions.argument before w.value) g w.state new xs (argument_many before w.value h) w.next

library_walks : (line i : ℕ) (t : CType) (list : List Node) (g : Stage) → IsInside g → EachPart NamesNode list →
    IsLibrary i t → Walked g (library_call line i t list g)
library_walks line i t list g w h l s new x e lib =
    let r = ran (arguments list calls.no_arguments g) (λ xs. lift (calls.library line i t xs)) s x new e in
    let n = all_go none list g w h s r.state r.value r.first lib in
    let c = calls.library line i t r.value in
    names_more n
    (decides (args g r.value) (operand_named g) c
    (unless_map (Gives (codes_named r.value.codes)) (λ o. Same (operand_named g o) (args g r.value)) c
    (λ o k. staged g (of o) (codes_named r.value.codes) k)
    (library_names line i t r.value l
    (as_many list calls.no_arguments g s r.state r.value refl r.first))) r.state new x r.next n.library)

left_of_names : (f : Naming) (line : ℕ) (c : Checked Operand) → Unless (Gives f) (productions.left_of line c)
left_of_names f line (Ok o) = tt
left_of_names f line (Err e) = tt

call_if : (f : Naming) (b : Bool) (line : ℕ) (c : Checked Operand) → Unless (Gives f) c →
    Unless (Gives f) (if b then productions.left_of line c else c)
call_if f true line c h = left_of_names f line c
call_if f false line c h = h

call_rule : (line : ℕ) (g : Stage) (o : Operand) (list : Arguments) →
    Unless (Gives (calling o list)) (productions.call_node line g o list)
unfolding productions.call_node
call_rule line g o list =
    call_if (calling o list) (productions.is_tick g && productions.answers_specification o.ctype) line
    (calls.call line o list) (call_names line o list)

plain_walks : (line : ℕ) (f : Node) (list : List Node) (g : Stage) → IsInside g → NamesNode f →
    EachPart NamesNode list → Walked g (plain_call line f list g)
plain_walks line f list g w h k =
    joined none (operand_named g) (operand_named g) (f.walk g)
    (λ o. arguments list calls.no_arguments g >>= (λ xs. lift (productions.call_node line g o xs))) (part none f g w h)
    (λ o. joined (operand_named g o) (λ xs. both (operand_named g o) (args g xs)) (operand_named g)
    (arguments list calls.no_arguments g) (λ xs. lift (productions.call_node line g o xs))
    (all_go (operand_named g o) list g w k)
    (λ xs. decides (both (operand_named g o) (args g xs)) (operand_named g) (productions.call_node line g o xs)
    (unless_map (Gives (calling o xs)) (λ r. Same (operand_named g r) (both (operand_named g o) (args g xs)))
    (productions.call_node line g o xs) (λ r q. staged_both g (of r) (of o) (codes_named xs.codes) q)
    (call_rule line g o xs))))

library_meant : (m : Meaning) (k : MeaningKind) (l : ℕ × CType) → IsOfLibrary m k →
    library_at k m.index m.ctype ≡ Some l → IsLibrary l.0 l.1
library_meant m kind.Variable l h e = absurd (cc)
library_meant m kind.Parameter l h e = absurd (cc)
library_meant m kind.Global l h e = absurd (cc)
library_meant m kind.Function l h e = absurd (cc)
library_meant m kind.Library l h e = let same : ◌≡◌ {A = ℕ × CType} (m.index, m.ctype) l = cc in
    subst (λ p. IsLibrary p.0 p.1) same h

library_found : (m : Option Meaning) (l : ℕ × CType) → ((y : Meaning) → m ≡ Some y → IsOfLibrary y y.kind) →
    library_by m ≡ Some l → IsLibrary l.0 l.1
library_found None l h e = absurd (cc)
library_found (Some m) l h e = library_meant m m.kind l (h m refl) e

library_known : (s : State) (name : Option Name) (l : ℕ × CType) → HasLibrary s → library_of name s ≡ Some l →
    IsLibrary l.0 l.1
unfolding library
library_known s None l h e = absurd (cc)
library_known s (Some name) l h e =
    library_found (find s.scopes name) l (λ y k. of_scope (λ m. IsOfLibrary m m.kind) s.scopes name y h k) e

call_of_walks : (line : ℕ) (f : Node) (list : List Node) (g : Stage) (l : Option (ℕ × CType)) → IsInside g →
    NamesNode f → EachPart NamesNode list → ((y : ℕ × CType) → l ≡ Some y → IsLibrary y.0 y.1) →
    Walked g (call_of line f list g l)
call_of_walks line f list g None w h k u = plain_walks line f list g w h k
call_of_walks line f list g (Some l) w h k u = library_walks line l.0 l.1 list g w k (u l refl)

call_walks : (line : ℕ) (f : Node) (list : List Node) (g : Stage) → IsInside g → NamesNode f →
    EachPart NamesNode list → Walked g (call line f list g)
call_walks line f list g w h k s new x e lib =
    call_of_walks line f list g (library_of f.written.name s) w h k
    (λ y l. library_known s f.written.name y lib l) s new x e lib

-- ---- each node

string_walks : (bytes : List ℕ) (g : Stage) → Walked g (λ s. Ok (productions.string_node bytes s))
string_walks bytes g s new x e lib =
    given (operand_named g) (productions.string_node bytes s)
    (record {
      library = lib;
      variables = λ k. k;
      grows = omega arith;
      is = λ small n k. staged_none g _ (string_names (images.string_place s.image)) n ∙ k;
    }) e

pub walk_names : (e : Expr-W) → EveryExpr names e → (g : Stage) → IsInside g → Walked g (walk_rule e g)
walk_names e h stage.Function w s new x r lib = absurd w
walk_names (Expr-F.Expr::Name line name) h g w s new x r lib =
    (name_names line g name w) s new x r lib
walk_names (Expr-F.Number n unsigned) h g w s new x r lib =
    (answers none (operand_named g) (nodes.number n unsigned) (staged_none g _ (number_names n unsigned))) s new x r lib
walk_names (Expr-F.Character n) h g w s new x r lib =
    (answers none (operand_named g) (nodes.character n) (staged_none g _ (character_names n))) s new x r lib
walk_names (Expr-F.String bytes) h g w s new x r lib =
    (string_walks bytes g) s new x r lib
walk_names (Expr-F.Expr::Paren a) h g w s new x r lib =
    (h g w) s new x r lib
walk_names (Expr-F.Index line ab) h g w s new x r lib =
    (two ab.0 ab.1 g (productions.index_node line g) w h.0 h.1 (index_rule line g)) s new x r lib
walk_names (Expr-F.Call line f list) h g w s new x r lib =
    (call_walks line f list g w h.0 h.1) s new x r lib
walk_names (Expr-F.Step line op a) h g w s new x r lib =
    (one a g (productions.post_node line op) w h (post_rule line op)) s new x r lib
walk_names (Expr-F.Unary line op a) h g w s new x r lib =
    (unary_walks line op a g w h) s new x r lib
walk_names (Expr-F.Cast line t a) h g w s new x r lib =
    (cast_walks line t a g w h.0 h.1) s new x r lib
walk_names (Expr-F.Sizeof line t) h g w s new x r lib =
    (size_walks line t g w h) s new x r lib
walk_names (Expr-F.Binary line op ab) h g w s new x r lib =
    (two ab.0 ab.1 g (productions.binary_node line op) w h.0 h.1 (binary_rule line op)) s new x r lib
walk_names (Expr-F.Choice line c a b) h g w s new x r lib =
    (choice_walks line c a b g w h.0 h.1 h.2) s new x r lib
walk_names (Expr-F.Assign line ab) h g w s new x r lib =
    (two ab.0 ab.1 g (productions.assign_node line) w h.0 h.1 (assign_rule line)) s new x r lib
walk_names (Expr-F.Modify line op ab) h g w s new x r lib =
    (two ab.0 ab.1 g (productions.modify_node line op) w h.0 h.1 (modify_rule line op)) s new x r lib
walk_names (Expr-F.Comma line ab) h g w s new x r lib =
    (comma_walks ab.0 ab.1 g w h.0 h.1) s new x r lib
-- what makes specifications stands in functions alone
walk_names (Expr-F.Compile line a t) h stage.Tick w s new x e lib = absurd (cc)
walk_names (Expr-F.Compile line a t) h stage.Dollar w s new x e lib = absurd (cc)
walk_names (Expr-F.Expr::Local line t) h stage.Tick w s new x e lib = absurd (cc)
walk_names (Expr-F.Expr::Local line t) h stage.Dollar w s new x e lib = absurd (cc)
walk_names (Expr-F.Param line t a) h stage.Tick w s new x e lib = absurd (cc)
walk_names (Expr-F.Param line t a) h stage.Dollar w s new x e lib = absurd (cc)
walk_names (Expr-F.Tick line a) h stage.Tick w s new x e lib = absurd (cc)
walk_names (Expr-F.Tick line a) h stage.Dollar w s new x e lib = absurd (cc)
walk_names (Expr-F.TickBlock line items) h stage.Tick w s new x e lib = absurd (cc)
walk_names (Expr-F.TickBlock line items) h stage.Dollar w s new x e lib = absurd (cc)
