-- What is found of the captures of a body after some of its nodes.
use Rattle.std.specs.Prelude.{◌+◌, nat_eq, if◌then◌else◌, List, [], ◌∷◌, ◌++◌, length}
use Rattle.tick_captures.specs.Captures.{Name, Nothing, Names}
use Rattle.tick_captures.specs.declared.walk.Found.{Found}

-- a node more
abbrev pub one : Name → Found → Found
one Nothing f = record f { nodes = f.nodes + 1 }
one (Names kind i) f = record {
  nodes = f.nodes + 1;
  captures = if nat_eq (length f.captures) i then f.captures ++
      (record { kind = kind; node = f.nodes }) ∷ [] else f.captures;
}

-- what the first of these nodes names
abbrev pub first : List Name → Name
first [] = Nothing
first (name ∷ names) = name

-- more nodes
abbrev pub after : List Name → Found → Found
after [] f = f
after (name ∷ names) f = after names (one name f)

-- and rows of them
abbrev pub behind : List (List Name) → Found → Found
behind [] f = f
behind (names ∷ rows) f = behind rows (after names f)
