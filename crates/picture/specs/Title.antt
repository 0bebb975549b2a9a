-- The title: how far from the best the schedule is at most.
use Rattle.std.specs.Prelude.{ℕ, ◌*◌, ◌++◌, suc, zero, List, [], codes}
use Rattle.std.specs.Int.{div_ceil}
use Rattle.picture.specs.Text.{numbered, two_digits}

-- the hundredths of cost by bound, rounded up
abbrev pub hundredths : ℕ → ℕ → ℕ
hundredths cost bound = div_ceil (100 * cost) bound

-- how many times the least cost the schedule costs at most; nothing where the bound is 0, which says nothing of it
abbrev pub ratio_words : ℕ → ℕ → List ℕ
ratio_words cost zero = []
ratio_words cost (suc b) = codes ", at most " ++ two_digits (hundredths cost (suc b)) ++ codes " times the best"

-- the words of the title
abbrev pub title_words : ℕ → ℕ → List ℕ
title_words cost bound = numbered (codes "cost ") cost ++ numbered (codes ", bound ") bound ++ ratio_words cost bound
