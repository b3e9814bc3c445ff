-- What a mark ends.
use Rattle.parse_grammar.specs.declared.kind.Mark.{Mark}
use Rattle.parse_grammar.specs.Input.{Parser, ◌>>=◌, ◌>>◌, pure, expect}

-- what stands before this mark, and the mark
abbrev pub before : {A : Type 0} → Mark → Parser A → Parser A
before mark p = p >>= (λ x. expect mark >> pure x)
