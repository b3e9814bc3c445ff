-- How what is kept of a capture is walked: what is pending behind it, and what is noted of it.
use Rattle.std.specs.Prelude.{ℕ, List, []}
use Rattle.meaning_state.specs.Rows.{numbered}
use Rattle.eval_state.specs.Numbered.{kept_in, noted}
use Rattle.eval_state.specs.declared.state.Kept.{Kept}
use Rattle.eval_state.specs.declared.state.Kept.TheVariants as code
use Rattle.eval_state.specs.declared.state.Row.{Row}

-- what is kept of the captures of a specification
abbrev pub behind : Kept → List Row → List Kept
behind (code.Number number) rows = kept_in (numbered number rows)
behind _ rows = []

-- a key
abbrev pub noted_of : Kept → List ℕ → List ℕ
noted_of (code.Key key) keys = noted key keys
noted_of _ keys = keys
