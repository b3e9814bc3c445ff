-- The words of a command line: which command they give, or which word is the first that can't continue one. Word 0 is
-- the name of the program and word 1 that of the command; behind them stand its operands and options. The grammar is
-- the product's own.
use Rattle.std.specs.Prelude.{ℕ, ◌+◌, if◌then◌else◌, List, [], ◌∷◌, length, Option, Some, None, Result, Err, codes}
use Rattle.std.specs.Str.{bytes_eq}
use Rattle.command_words.specs.declared.command.Name.{Name}
use Rattle.command_words.specs.declared.command.Name.TheVariants as name
use Rattle.command_words.specs.Orders.{Word, Asked, by_name}

abbrev pub name_of : Word → Option Name
name_of w =
    if bytes_eq w (codes "run") then Some name.Run
    else (if bytes_eq w (codes "build") then Some name.Build
    else (if bytes_eq w (codes "exec") then Some name.Exec
    else (if bytes_eq w (codes "mean") then Some name.Mean
    else (if bytes_eq w (codes "asm") then Some name.Asm
    else (if bytes_eq w (codes "dis") then Some name.Dis
    else (if bytes_eq w (codes "gen") then Some name.Gen else None))))))

-- The command that the words give, or the place of the first word that can't continue one, which is the number of
-- words where they end too early.
abbrev pub order_of : List Word → Result Asked ℕ
order_of [] = Err 0
order_of (program ∷ []) = Err 1
order_of (program ∷ w ∷ words) = by_name (name_of w) (2 + length words) words
