-- What the walk sees of the code's tree.
use Rattle.typed_tree.proofs.Fusion.{value_viewed}
use Rattle.typed_tree.proofs.Views.{expressions as expression_views, statements as statement_views}

pub ruleset expressions = (expression_views, value_viewed)

pub ruleset statements = (statement_views, value_viewed)
