-- The open scopes, the innermost last, each with the names that it declares and what they mean. An inner declaration
-- hides an outer one of the same name, as in C.
use Rattle.std.specs.Prelude.{ℕ, ◌-◌, if◌then◌else◌, List, [], ◌∷◌, ◌++◌, length, slice_set, slice_index_or, Option}
use Rattle.std.specs.Prelude.{Some, None}
use Rattle.std.specs.Option.{option_or}
use Rattle.std.specs.Str.{bytes_eq}
use Rattle.check_scopes.specs.declared.names.Meaning.{Meaning}

abbrev pub Name : Type 0
Name = List ℕ

abbrev pub Scope : Type 0
Scope = List (Name × Meaning)

abbrev pub Scopes : Type 0
Scopes = List Scope

-- what a scope says of a name
abbrev pub in_scope : Scope → Name → Option Meaning
in_scope [] name = None
in_scope (e ∷ es) name = if bytes_eq name e.0 then Some e.1 else in_scope es name

-- what the innermost scope that has the name says of it
abbrev pub find : Scopes → Name → Option Meaning
find [] name = None
find (s ∷ inner) name = option_or (find inner name) (in_scope s name)

abbrev pub innermost : Scopes → Scope
innermost ss = slice_index_or ss (length ss - 1) []

-- the scopes after a declaration in the innermost one
abbrev pub declared : Scopes → Name → Meaning → Scopes
declared ss name what = slice_set ss (length ss - 1) (innermost ss ++ (name, what) ∷ [])
