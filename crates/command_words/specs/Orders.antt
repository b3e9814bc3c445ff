-- The commands, and the words behind a command's name: in any order, the operands in their order and the options, each
-- option at most once; the first of them has place 2. The grammar is the product's own.
use Rattle.std.specs.Prelude.{ℕ, ◌+◌, ◌-◌, Bool, true, false, ◌&&◌, ◌||◌, not, ◌==◌, nat_lt, nat_le}
use Rattle.std.specs.Prelude.{if◌then◌else◌, List, [], ◌∷◌, length, Option, Some, None, Result, Ok, Err, codes}
use Rattle.std.specs.Str.{bytes_eq}
use Rattle.std.specs.Char.{is_ascii_digit}
use Rattle.std.specs.List.{list_all}
use Rattle.std.specs.Str.Parse.{digits_value}
use Rattle.command_words.specs.declared.TheConstants.{MOST_DIGITS}
use Rattle.limits.specs.declared.text.TheConstants.{LARGEST_SOURCE}
use Rattle.limits.specs.declared.run.TheConstants.{MOST_STEPS, DEFAULT_STEPS}
use Rattle.command_words.specs.declared.command.Command.{Command}
use Rattle.command_words.specs.declared.command.Command.TheVariants as code
use Rattle.command_words.specs.declared.command.Name.{Name}
use Rattle.command_words.specs.declared.command.Name.TheVariants as name
use Rattle.command_words.specs.declared.arguments.Given.{Given as CodeGiven}
use Rattle.command_words.specs.declared.arguments.Operands.{Operands}
use Rattle.command_words.specs.declared.arguments.Operands.TheVariants as found
use Rattle.command_words.specs.declared.arguments.Piece.{Piece as CodePiece}
use Rattle.command_words.specs.declared.arguments.Piece.TheVariants as piece
use Rattle.command_words.specs.declared.arguments.Wanted.{Wanted}

abbrev pub Word : Type 0
Word = List ℕ

-- a command on a file, with its operands as bytes and the most instructions of its run, or the most units of work of
-- its evaluation
pub data Order : Type 0 where
  run : (file : Word) (steps : ℕ) → Order
  build : (file image : Word) → Order
  exec : (image : Word) (steps : ℕ) → Order
  mean : (file : Word) (units : ℕ) → Order
  asm : (file image : Word) → Order
  dis : (image : Word) → Order

-- what is asked for: a command on a file, or a generated source by its number
pub data Asked : Type 0 where
  of_file : (order : Order) → Asked
  gen : (number : ℕ) → Asked

-- an operand isn't empty and doesn't begin with a dash
abbrev pub is_operand : Word → Bool
is_operand [] = false
is_operand (c ∷ cs) = not (c == 45)

-- a number is 1 to 19 decimal digits, and from 1 to the largest that may stand there
abbrev pub are_digits : Word → Bool
are_digits w = nat_lt 0 (length w) && nat_le (length w) MOST_DIGITS && list_all is_ascii_digit w

abbrev pub in_range : (most : ℕ) → ℕ → Option ℕ
in_range most n = if nat_lt 0 n && nat_le n most then Some n else None

abbrev pub number_of : (most : ℕ) → Word → Option ℕ
number_of most w = if are_digits w then in_range most (digits_value 10 w) else None

-- a number of steps, which are instructions of a run or units of an evaluation, is at most 1,099,511,627,776
abbrev pub steps_of : Word → Option ℕ
steps_of w = number_of MOST_STEPS w

-- and that of a generated source at most 2,000
abbrev pub source_of : Word → Option ℕ
source_of w = number_of LARGEST_SOURCE w

-- what words gave: the operands in their order, and the number of steps, if no option gives it the usual one
pub record Given : Type 0 where
  pub operands : List Word
  pub steps : ℕ

abbrev pub nothing : Given
nothing = record { operands = []; steps = DEFAULT_STEPS }

-- what a word is where it can come next
pub data Piece : Type 0 where
  operand : Word → Piece
  option : Piece
  number : ℕ → Piece
  stats : Piece

abbrev pub is_option : Wanted → Word → Bool
is_option wanted w = wanted.steps && bytes_eq w (codes "--steps")

abbrev pub is_stats : Wanted → Word → Bool
is_stats wanted w = wanted.stats && bytes_eq w (codes "--stats")

abbrev pub numbered : Option ℕ → Option Piece
numbered None = None
numbered (Some n) = Some (number n)

abbrev pub operand_of : Wanted → Word → Option Piece
operand_of wanted w = if nat_lt 0 wanted.operands && is_operand w then Some (operand w) else None

abbrev pub piece_of : Wanted → Word → Option Piece
piece_of wanted w =
    if wanted.number then numbered (steps_of w)
    else (if is_option wanted w then Some option
    else (if is_stats wanted w then Some stats else operand_of wanted w))

-- how many operands it gives
abbrev pub operands_in : Piece → ℕ
operands_in (operand w) = 1
operands_in option = 0
operands_in (number n) = 0
operands_in stats = 0

-- the number of steps that it gives
abbrev pub steps_given : Piece → ℕ
steps_given (operand w) = 0
steps_given option = 0
steps_given (number n) = n
steps_given stats = 0

-- what may come behind it
abbrev pub behind : Piece → Wanted → Wanted
behind (operand w) wanted = record wanted { operands = wanted.operands - 1 }
behind option wanted = record wanted { steps = false; number = true }
behind (number n) wanted = record wanted { number = false }
behind stats wanted = record wanted { stats = false }

-- what it gives, in front of what the words behind it give
abbrev pub joined : Piece → Given → Given
joined (operand w) given = record given { operands = w ∷ given.operands }
joined option given = given
joined (number n) given = record given { steps = n }
joined stats given = given

abbrev pub and_joined : Piece → Result Given ℕ → Result Given ℕ
and_joined piece (Err place) = Err place
and_joined piece (Ok given) = Ok (joined piece given)

abbrev pub by_piece : Option Piece → ℕ → (Piece → Result Given ℕ) → Result Given ℕ
by_piece None place rest = Err place
by_piece (Some piece) place rest = and_joined piece (rest piece)

-- the words from a place on
abbrev pub arguments : Wanted → ℕ → List Word → Result Given ℕ
arguments wanted place [] = if wanted.number then Err place else Ok nothing
arguments wanted place (w ∷ words) =
    by_piece (piece_of wanted w) place (λ piece. arguments (behind piece wanted) (place + 1) words)

-- The operands that a command takes: one with a number of steps, one, or two. Words that end too early are bad at
-- their end.
abbrev pub one_stepped : (Word → ℕ → Order) → (end steps : ℕ) → List Word → Result Asked ℕ
one_stepped order end steps (a ∷ []) = Ok (of_file (order a steps))
one_stepped order end steps other = Err end

abbrev pub one_of : (Word → Order) → (end : ℕ) → List Word → Result Asked ℕ
one_of order end (a ∷ []) = Ok (of_file (order a))
one_of order end other = Err end

abbrev pub two_of : (Word → Word → Order) → (end : ℕ) → List Word → Result Asked ℕ
two_of order end (a ∷ b ∷ []) = Ok (of_file (order a b))
two_of order end other = Err end

abbrev pub and_then : Result Given ℕ → (Given → Result Asked ℕ) → Result Asked ℕ
and_then (Err place) next = Err place
and_then (Ok given) next = next given

-- what a command may have: so many operands, and which of the options
abbrev pub wanted : ℕ → (steps counts : Bool) → Wanted
wanted operands steps counts = record { operands = operands; steps = steps; number = false; stats = counts }

-- the words behind a command's name, of which the first has place 2; `end` is the number of all words
abbrev pub stepped : (counts : Bool) → (Word → ℕ → Order) → (end : ℕ) → List Word → Result Asked ℕ
stepped counts order end words =
    and_then (arguments (wanted 1 true counts) 2 words) (λ given. one_stepped order end given.steps given.operands)

abbrev pub single : (Word → Order) → (end : ℕ) → List Word → Result Asked ℕ
single order end words = and_then (arguments (wanted 1 false false) 2 words) (λ given. one_of order end given.operands)

abbrev pub double : (Word → Word → Order) → (end : ℕ) → List Word → Result Asked ℕ
double order end words = and_then (arguments (wanted 2 false false) 2 words) (λ given. two_of order end given.operands)

-- the one word behind `gen`, which is a number
abbrev pub alone : Option ℕ → List Word → Result Asked ℕ
alone None words = Err 2
alone (Some n) [] = Ok (gen n)
alone (Some n) (w ∷ words) = Err 3

abbrev pub source_behind : List Word → Result Asked ℕ
source_behind [] = Err 2
source_behind (w ∷ words) = alone (source_of w) words

-- the command of a name and the words behind it
abbrev pub by_name : Option Name → (end : ℕ) → List Word → Result Asked ℕ
by_name None end words = Err 1
by_name (Some name.Run) end words = stepped true run end words
by_name (Some name.Build) end words = double build end words
by_name (Some name.Exec) end words = stepped true exec end words
by_name (Some name.Mean) end words = stepped false mean end words
by_name (Some name.Asm) end words = double asm end words
by_name (Some name.Dis) end words = single dis end words
by_name (Some name.Gen) end words = source_behind words

-- Whether words that are a command ask for the line of counts: the option stands behind the command's name. No operand
-- and no number is spelled so.
abbrev pub has_stats : List Word → Bool
has_stats [] = false
has_stats (w ∷ words) = bytes_eq w (codes "--stats") || has_stats words

abbrev pub asks_counts : List Word → Bool
asks_counts (program ∷ w ∷ words) = has_stats words
asks_counts other = false

-- a command of the code, by the bytes of its operands
abbrev pub ordered : Command → Asked
ordered (code.Run file steps) = of_file (run file.now steps)
ordered (code.Build file image) = of_file (build file.now image.now)
ordered (code.Exec image steps) = of_file (exec image.now steps)
ordered (code.Mean file units) = of_file (mean file.now units)
ordered (code.Asm file image) = of_file (asm file.now image.now)
ordered (code.Dis image) = of_file (dis image.now)
ordered (code.Gen n) = gen n

-- the most instructions, or units of work, that a command of the code asks for
abbrev pub steps_in : Command → ℕ
steps_in (code.Run file steps) = steps
steps_in (code.Build file image) = 0
steps_in (code.Exec image steps) = steps
steps_in (code.Mean file units) = units
steps_in (code.Asm file image) = 0
steps_in (code.Dis image) = 0
steps_in (code.Gen n) = 0

-- what the code read of words, by the bytes of the operands
abbrev pub operands_of : Operands → List Word
operands_of found.None = []
operands_of (found.One a) = a.now ∷ []
operands_of (found.Two a b) = a.now ∷ b.now ∷ []

abbrev pub given_of : CodeGiven → Given
given_of a = record { operands = operands_of a.operands; steps = a.steps }

abbrev pub piece_read : CodePiece → Piece
piece_read (piece.Operand w) = operand w.now
piece_read piece.Steps = option
piece_read (piece.Number n) = number n
piece_read piece.Stats = stats

abbrev pub pieces_read : Option CodePiece → Option Piece
pieces_read None = None
pieces_read (Some p) = Some (piece_read p)
