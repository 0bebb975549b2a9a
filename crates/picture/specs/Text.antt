-- Numbers in a text.
use Rattle.std.specs.Prelude.{ℕ, ◌++◌, ◌/◌, ◌%◌, List, codes, decimal}

-- a number behind what leads to it
abbrev pub numbered : List ℕ → ℕ → List ℕ
numbered lead n = lead ++ decimal n

-- a number of tenths, with one digit behind the point
abbrev pub one_digit : ℕ → List ℕ
one_digit t = decimal (t / 10) ++ numbered (codes ".") (t % 10)

-- a number of hundredths, with two digits behind the point
abbrev pub two_digits : ℕ → List ℕ
two_digits h = decimal (h / 100) ++ numbered (codes ".") (h / 10 % 10) ++ decimal (h % 10)

-- less than a thousand thousandths, with three digits behind the point
abbrev pub three_digits : ℕ → List ℕ
three_digits t = numbered (codes "0.") (t / 100) ++ decimal (t / 10 % 10) ++ decimal (t % 10)
