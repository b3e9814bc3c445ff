use Rattle.std.proofs.Common.{◌≡◌, map, ◌+◌, ◌*◌, max, drop, []}
use Rattle.std.specs.Prelude.{None}
use Rattle.check_operands.specs.Calls as calls
use Rattle.tick_tree.specs.declared.syntax.Expr.{size-Expr}
use Rattle.tick_tree.specs.declared.syntax.OptionalExpr.{size-OptionalExpr}
use Rattle.tick_tree.specs.declared.syntax.Stmt.{size-Stmt}
use Rattle.check_rules.specs.StatementRules as statements
use Rattle.check_rules.specs.Walk as spec
use Rattle.check_laws.proofs.Loops.{after}
use Rattle.check_walk.proofs.+walk.Given as goal

-- each function takes the parts of a value, or passes a value on to one of a lower rank
abbrev pub decreases-expressions::arguments : goal.decreases-expressions::arguments
decreases-expressions::arguments l = 8 * (goal.size-expressions::arguments l) + 1

abbrev pub decreases-expressions::plain_call : goal.decreases-expressions::plain_call
decreases-expressions::plain_call l =
    8 * (max (size-Expr l.f.now)
    (goal.size-expressions::arguments
    (record { the-lifetimes = ([], ([], tt {0})); alloc = l.alloc; state = l.state; stage = l.stage; list = l.list }))) +
    2

abbrev pub decreases-expressions::call : goal.decreases-expressions::call
decreases-expressions::call l =
    8 * (max (size-Expr l.f.now)
    (goal.size-expressions::arguments
    (record { the-lifetimes = ([], ([], tt {0})); alloc = l.alloc; state = l.state; stage = l.stage; list = l.list }))) +
    3

abbrev pub decreases-expressions::tick_expression : goal.decreases-expressions::tick_expression
decreases-expressions::tick_expression l = 8 * (goal.size-expressions::tick_expression l) + 1

abbrev pub decreases-expressions::tick_block : goal.decreases-expressions::tick_block
decreases-expressions::tick_block l = 8 * (goal.size-expressions::tick_block l) + 4

abbrev pub decreases-expressions::compile : goal.decreases-expressions::compile
decreases-expressions::compile l =
    8 * (max (size-Expr l.a.now)
    (goal.size-types::typename
    (record {
      the-lifetimes = ([], ([], tt {0}));
      alloc = l.alloc;
      state = l.state;
      line = l.line;
      stage = l.stage;
      t =
          l.t;
    }))) + 4

abbrev pub decreases-expressions::choice : goal.decreases-expressions::choice
decreases-expressions::choice l = 8 * (max (size-Expr l.c.now) (max (size-Expr l.a.now) (size-Expr l.b.now))) + 2

abbrev pub decreases-expressions::unary : goal.decreases-expressions::unary
decreases-expressions::unary l = 8 * (goal.size-expressions::unary l) + 1

abbrev pub decreases-expressions::post : goal.decreases-expressions::post
decreases-expressions::post l = 8 * (goal.size-expressions::post l) + 1

abbrev pub decreases-expressions::pair : goal.decreases-expressions::pair
decreases-expressions::pair l = 8 * (max (size-Expr l.parts.now.0) (size-Expr l.parts.now.1)) + 2

abbrev pub decreases-expressions::named : goal.decreases-expressions::named
decreases-expressions::named l = 8 * (goal.size-expressions::named l) + 4

abbrev pub decreases-expressions::typed : goal.decreases-expressions::typed
decreases-expressions::typed l =
    8 * (max (goal.size-types::typename
    (record {
      the-lifetimes = ([], ([], tt {0}));
      alloc = l.alloc;
      state = l.state;
      line = l.line;
      stage = l.stage;
      t =
          l.t;
    })) (size-Expr l.a.now)) + 4

abbrev pub decreases-expressions::optional : goal.decreases-expressions::optional
decreases-expressions::optional l = 8 * (goal.size-expressions::optional l)

abbrev pub decreases-expressions::expression : goal.decreases-expressions::expression
decreases-expressions::expression l = 8 * (goal.size-expressions::expression l)

abbrev pub decreases-types::typename : goal.decreases-types::typename
decreases-types::typename l = 8 * (goal.size-types::typename l) + 3

abbrev pub decreases-types::declarator : goal.decreases-types::declarator
decreases-types::declarator l = 8 * (goal.size-types::declarator l) + 2

abbrev pub decreases-types::core : goal.decreases-types::core
decreases-types::core l = 8 * (goal.size-types::core l)

abbrev pub decreases-types::suffixes : goal.decreases-types::suffixes
decreases-types::suffixes l = 8 * (goal.size-types::suffixes l) + 1

abbrev pub decreases-types::suffix : goal.decreases-types::suffix
decreases-types::suffix l = 8 * (goal.size-types::suffix l)

abbrev pub decreases-types::length : goal.decreases-types::length
decreases-types::length l = 8 * (goal.size-types::length l)

abbrev pub decreases-types::parameters : goal.decreases-types::parameters
decreases-types::parameters l = 8 * (goal.size-types::parameters l) + 5

abbrev pub decreases-types::each_parameter : goal.decreases-types::each_parameter
decreases-types::each_parameter l = 8 * (goal.size-types::each_parameter l) + 4

abbrev pub decreases-types::parameter : goal.decreases-types::parameter
decreases-types::parameter l = 8 * (goal.size-types::parameter l) + 3

abbrev pub decreases-declarations::elements : goal.decreases-declarations::elements
decreases-declarations::elements l =
    8 * (goal.size-expressions::arguments
    (record { the-lifetimes = ([], ([], tt {0})); alloc = l.alloc; state = l.state; stage = l.stage; list = l.list })) + 1

abbrev pub decreases-declarations::begin_list : goal.decreases-declarations::begin_list
decreases-declarations::begin_list l =
    8 * (goal.size-expressions::arguments
    (record { the-lifetimes = ([], ([], tt {0})); alloc = l.alloc; state = l.state; stage = l.stage; list = l.list })) + 2

abbrev pub decreases-declarations::begin : goal.decreases-declarations::begin
decreases-declarations::begin l = 8 * (goal.size-declarations::begin l)

abbrev pub decreases-declarations::declared_local : goal.decreases-declarations::declared_local
decreases-declarations::declared_local l = 8 * (goal.size-declarations::declared_local l) + 5

abbrev pub decreases-declarations::locals : goal.decreases-declarations::locals
decreases-declarations::locals l = 8 * (goal.size-declarations::locals l) + 6

abbrev pub decreases-statements::items : goal.decreases-statements::items
decreases-statements::items l = 8 * (goal.size-statements::items l) + 2

abbrev pub decreases-statements::item_behind : goal.decreases-statements::item_behind
decreases-statements::item_behind l = 8 * (size-Stmt l.s.now) + 1

abbrev pub decreases-statements::block : goal.decreases-statements::block
decreases-statements::block l = 8 * (goal.size-statements::block l) + 3

abbrev pub decreases-statements::body_of : goal.decreases-statements::body_of
decreases-statements::body_of l = 8 * (goal.size-statements::body_of l) + 1

abbrev pub decreases-statements::tested : goal.decreases-statements::tested
decreases-statements::tested l = 8 * (max (size-Expr l.c.now) (size-Stmt l.a.now)) + 2

abbrev pub decreases-statements::branches : goal.decreases-statements::branches
decreases-statements::branches l = 8 * (max (size-Expr l.c.now) (max (size-Stmt l.a.now) (size-Stmt l.b.now))) + 3

abbrev pub decreases-statements::done_first : goal.decreases-statements::done_first
decreases-statements::done_first l = 8 * (max (size-Stmt l.a.now) (size-Expr l.c.now)) + 2

abbrev pub decreases-statements::for_rest : goal.decreases-statements::for_rest
decreases-statements::for_rest l =
    8 * (max (size-OptionalExpr l.c.now) (max (size-OptionalExpr l.s.now) (size-Stmt l.a.now))) + 2

abbrev pub decreases-statements::for_block : goal.decreases-statements::for_block
decreases-statements::for_block l =
    8 * (max (size-Stmt l.first.now)
    (max (size-OptionalExpr l.c.now) (max (size-OptionalExpr l.s.now) (size-Stmt l.a.now)))) + 4

abbrev pub decreases-statements::for_all : goal.decreases-statements::for_all
decreases-statements::for_all l =
    8 * (max (size-Stmt l.first.now)
    (max (size-OptionalExpr l.c.now) (max (size-OptionalExpr l.s.now) (size-Stmt l.a.now)))) + 5

abbrev pub decreases-statements::switch_block : goal.decreases-statements::switch_block
decreases-statements::switch_block l = 8 * (goal.size-statements::switch_block l) + 3

abbrev pub decreases-statements::switch : goal.decreases-statements::switch
decreases-statements::switch l =
    8 * (max (size-Expr l.e.now)
    (goal.size-statements::items
    (record { the-lifetimes = ([], ([], tt {0})); alloc = l.alloc; state = l.state; around = l.around; list = l.list })))
    + 5

abbrev pub decreases-statements::case : goal.decreases-statements::case
decreases-statements::case l = 8 * (goal.size-statements::case l) + 1

abbrev pub decreases-statements::returned : goal.decreases-statements::returned
decreases-statements::returned l = 8 * (goal.size-statements::returned l)

abbrev pub decreases-statements::statement : goal.decreases-statements::statement
decreases-statements::statement l = 8 * (goal.size-statements::statement l)

-- the parts so far, and those to come

abbrev pub invariant-expressions::arguments-loop-e : goal.invariant-expressions::arguments-loop-e
invariant-expressions::arguments-loop-e l =
    spec.arguments (drop l.e-index l.list) l.found l.stage l.state ≡ spec.arguments l.list calls.no_arguments l.stage
    l.fn.state

abbrev pub invariant-types::suffixes-loop-s : goal.invariant-types::suffixes-loop-s
invariant-types::suffixes-loop-s l =
    statements.each_step (spec.suffix_walks (map spec.suffix (drop l.s-index l.list))) l.steps l.stage l.state ≡
    statements.each_step (spec.suffix_walks (map spec.suffix l.list)) l.fn.steps l.stage l.fn.state

abbrev pub invariant-types::each_parameter-loop-p : goal.invariant-types::each_parameter-loop-p
invariant-types::each_parameter-loop-p l =
    after l.types (statements.each_type (spec.type_walks (map spec.parameter (drop l.p-index l.list))) l.stage l.state)
    ≡ statements.each_type (spec.type_walks (map spec.parameter l.list)) l.stage l.fn.state

abbrev pub invariant-declarations::elements-loop-e : goal.invariant-declarations::elements-loop-e
invariant-declarations::elements-loop-e l =
    spec.elements (map spec.node (drop l.e-index l.list)) l.t l.broken l.stage l.state ≡ spec.elements
    (map spec.node l.list) l.t None l.stage l.fn.state

abbrev pub invariant-statements::items-loop-s : goal.invariant-statements::items-loop-s
invariant-statements::items-loop-s l =
    after l.nodes (spec.items (drop l.s-index l.list) l.around l.state) ≡ spec.items l.list l.around l.fn.state

abbrev pub invariant-declarations::locals-loop-init : goal.invariant-declarations::locals-loop-init
invariant-declarations::locals-loop-init l =
    after l.nodes (spec.declare_each l.line l.base l.stage (map spec.init (drop l.init-index l.list)) l.state)
    ≡ spec.declare_each l.line l.base l.stage (map spec.init l.list) l.fn.state
