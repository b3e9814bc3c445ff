-- How the open scopes are kept: all their declarations in one list, and how many of these each scope has.
use Rattle.std.specs.Prelude.{ℕ, ◌<◌, ◌≡◌, List, [], ◌∷◌, length, map, take, drop, slice_index_or, Option, Some, None}
use Rattle.std.specs.Prelude.{if◌then◌else◌, sum}
use Rattle.std.specs.List.{All}
use Rattle.std.specs.Option.{option_or}
use Rattle.std.specs.Str.{bytes_eq}
use Rattle.name_numbers.specs.Numbers.{number_of}
use Rattle.check_scopes.specs.Scopes.{Name, Scope, Scopes, in_scope}
use Rattle.check_scopes.specs.Stack.{Numbered}
use Rattle.check_scopes.specs.declared.names.Meaning.{Meaning}

-- declarations with names in place of numbers
abbrev pub named : List Name → Numbered → Scope
named names es = map (λ e. (slice_index_or names e.0 [], e.1)) es

-- declarations, cut into scopes of these sizes
abbrev pub cut : List ℕ → Scope → Scopes
cut [] es = []
cut (size ∷ sizes) es = take size es ∷ cut sizes (drop size es)

-- the open scopes, which callers see
abbrev pub scopes : List Name → Numbered → List ℕ → Scopes
scopes names es sizes = cut sizes (named names es)

-- what the last declaration of a name says
abbrev pub last_in : Scope → Name → Option Meaning
last_in [] name = None
last_in (e ∷ es) name = option_or (last_in es name) (if bytes_eq name e.0 then Some e.1 else None)

-- no name is declared twice: its first declaration is its last
abbrev pub Once : Scope → Type 0
Once s = (name : Name) → in_scope s name ≡ last_in s name

-- the number of a declaration is that of its name
abbrev pub IsNumbered : List Name → ℕ × Meaning → Type 0
IsNumbered names e = number_of names (slice_index_or names e.0 []) ≡ Some e.0

-- one scope at least is open, and each declaration stands in one
abbrev pub Kept : List Name → Numbered → List ℕ → Type 0
Kept names es sizes = record {
  some : 0 < length sizes;
  whole : sum sizes ≡ length es;
  numbered : All (IsNumbered names) es;
  once : All Once (scopes names es sizes);
}
