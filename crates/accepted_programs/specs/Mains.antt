-- What is read off a program: that its numbers are words and its globals and strings bytes, as their types say; and its
-- function main. A text without one is refused, so each accepted program has it.
use Rattle.std.specs.Prelude.{◌≡◌, ℕ, ◌+◌, Bool, true, ◌&&◌, nat_lt, if◌then◌else◌, List, [], ◌∷◌, codes}
use Rattle.std.specs.Prelude.{Option, Some, None}
use Rattle.std.specs.Str.{bytes_eq}
use Rattle.typed_tree.specs.declared.program.Function.{Function}
use Rattle.typed_tree.specs.declared.program.Tick.{Tick}
use Rattle.typed_tree.specs.Nodes as node
use Rattle.typed_tree.specs.View.{body_view, function_view}
use Rattle.tree_words.specs.Words.{has_words, has_words_body}
use Rattle.wellformed.specs.declared.typed.Typed.{Typed}

-- each number in a program's functions is a word
abbrev pub functions_have_words : List Function → Bool
functions_have_words [] = true
functions_have_words (f ∷ fs) = has_words (function_view f) && functions_have_words fs

-- and in its ticks
abbrev pub ticks_have_words : List Tick → Bool
ticks_have_words [] = true
ticks_have_words (t ∷ ts) = has_words_body (body_view t.body) && ticks_have_words ts

-- globals and strings are of bytes
abbrev pub are_bytes : List ℕ → Bool
are_bytes [] = true
are_bytes (b ∷ bs) = nat_lt b 256 && are_bytes bs

-- what the types of a program's parts say
pub record IsOfWords (program : Typed) : Type 0 where
  pub functions : functions_have_words program.functions ≡ true
  pub ticks : ticks_have_words program.ticks ≡ true
  pub bytes : are_bytes program.image ≡ true

-- ---- main

-- the function main, and its number in the text, counted from 1
pub record Main : Type 0 where
  pub number : ℕ
  pub function : node.Function

-- main among functions of which the first has this number
abbrev pub main_from : (number : ℕ) → List Function → Option Main
main_from number [] = None
main_from number (f ∷ fs) =
    if bytes_eq f.name (codes "main") then Some (record { number = number; function = function_view f })
    else main_from (number + 1) fs

abbrev pub main_in : Typed → Option Main
main_in program = main_from 1 program.functions
