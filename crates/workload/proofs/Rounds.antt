-- Commands before rounds.
use Rattle.std.proofs.Common.{◌≡◌, ◌≤◌, List, [], ◌∷◌, ◌++◌, Bool, false, refl, ap, arith, length, append_assoc}
use Rattle.workload.specs.Script.{put_first, put_step}
use Rattle.workload.specs.Draft.{all_rounds, put_all}
use Rattle.workload.specs.Words.{runs_at}
use Rattle.workload.specs.declared.script.Round.{Round}
use Rattle.workload.specs.declared.script.ScriptLine.{ScriptLine}
use Rattle.workload.specs.declared.line.Step.{Step}
use Rattle.workload.specs.declared.line.Step.TheVariants.{Ask, Ends}
use Rattle.workload.specs.declared.word.End.{End}

put_one_more : (xs : List ScriptLine) (x : ScriptLine) (rounds : List Round) → put_all (xs ++ (x ∷ [])) rounds ≡ put_all xs (put_first x rounds)
put_one_more [] x rounds = refl
put_one_more (y ∷ xs) x rounds = ap (put_first y) (put_one_more xs x rounds)

put_before_end : (xs : List ScriptLine) (runs : Bool) (rounds : List Round) →
    put_all xs (record { lines = []; runs = runs } ∷ rounds) ≡ record { lines = xs; runs = runs } ∷ rounds
put_before_end [] runs rounds = refl
put_before_end (x ∷ xs) runs rounds = ap (put_first x) (put_before_end xs runs rounds)

put_at_the_end : (x : ScriptLine) (xs : List ScriptLine) → put_all (x ∷ xs) [] ≡ record { lines = x ∷ xs; runs = false } ∷ []
put_at_the_end x [] = refl
put_at_the_end x (y ∷ xs) = ap (put_first x) (put_at_the_end y xs)

-- A command goes behind the others of its round.
pub asked : (rounds : List Round) (lines more : List ScriptLine) (step : Step) (x : ScriptLine) (rest : List Round) → more ≡ lines ++ (x ∷ []) → step ≡ Ask x →
    all_rounds rounds more rest ≡ all_rounds rounds lines (put_step step rest)
asked rounds lines more step x rest m s = rw (m, s) (ap (λ (z : List Round). rounds ++ z) (put_one_more lines x rest))

-- A round ends with the commands that stand behind the last one.
pub ended : (rounds more : List Round) (lines left : List ScriptLine) (runs : Bool) (step : Step) (end : End) (rest : List Round) →
    more ≡ rounds ++ (record { lines = lines; runs = runs } ∷ []) → left ≡ [] → step ≡ Ends end → runs ≡ runs_at end →
    all_rounds more left rest ≡ all_rounds rounds lines (put_step step rest)
ended rounds more lines left runs step end rest m l s r = rw (m, l, s, r, put_before_end lines (runs_at end) rest, append_assoc) refl

-- Commands behind the last end of a round are a round.
pub last_round : (rounds : List Round) (lines : List ScriptLine) → 1 ≤ length lines → rounds ++ (record { lines = lines; runs = false } ∷ []) ≡ all_rounds rounds lines []
last_round rounds [] some = absurd (omega (arith, some))
last_round rounds (x ∷ xs) some = rw (put_at_the_end x xs) refl
