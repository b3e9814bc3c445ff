-- The generated source for a number n. It has n tests, the i-th of them whether a number is a multiple of i + 2, each a
-- function that gives the specification of its code, with i + 2 as a constant of it. `main` compiles each test and adds
-- up for how many of the numbers below 1,000 it holds. So the program writes the sum of 999 / (i + 2) + 1, rounded
-- down, over all i below n. The text is this project's own rule.
use Rattle.std.specs.Prelude.{ℕ, ◌+◌, List, ◌++◌, codes, decimal}
use Rattle.std.specs.List.{flat_map, range_with_len}

-- a line of the text, with its line feed
abbrev pub line : List ℕ → List ℕ
line text = text ++ codes "\n"

-- the function of the i-th test
abbrev pub test_line : ℕ → List ℕ
test_line i =
    line (codes "int cspec q" ++ decimal i ++ codes "(int vspec v){return `(v%$" ++ decimal (i + 2) ++ codes "==0);}")

-- the statement that compiles the i-th test and counts with it
abbrev pub turn_line : ℕ → List ℕ
turn_line i = line (codes "t=t+count(compile(q" ++ decimal i ++ codes "(v),int));")

-- the function that counts for how many numbers below 1,000 a test holds
abbrev pub count_line : List ℕ
count_line = line (codes "int count(int (*f)(int)){int i;int n;n=0;for(i=0;i<1000;i++)n=n+f(i);return n;}")

abbrev pub main_line : List ℕ
main_line = line (codes "int main(){int vspec v;int t;v=param(int,0);t=0;")

abbrev pub end_line : List ℕ
end_line = line (codes "putint(t);putchar(10);return 0;}")

-- a line for each of the numbers below n
abbrev pub for_each : (ℕ → List ℕ) → (n : ℕ) → List ℕ
for_each one n = flat_map one (range_with_len 0 n)

-- the whole text
abbrev pub source : (n : ℕ) → List ℕ
source n = for_each test_line n ++ count_line ++ main_line ++ for_each turn_line n ++ end_line
