-- The curves and the ticks of an online run.
use Rattle.std.proofs.Common.{◌≡◌, ℕ, ◌≤◌, leb, true, List, length, get_or, arith}
use Rattle.std.specs.Prelude.{All, AllPairs, ◌<◌, filter}
use Rattle.std.proofs.lemmas.Bool.Decides.{nat_tests}
use Rattle.std.proofs.lemmas.List.Elements.{filter_passes}
use Rattle.std.proofs.lemmas.List.Kept.{AllPairs-filter}
use Rattle.std.proofs.lemmas.List.Sums.{count_by-le-length}
use Rattle.picture.specs.declared.run_value.RunPicture.{RunPicture}
use Rattle.picture.specs.declared.value.Span.{Span}
use Rattle.picture.specs.declared.value.Step.{Step}
use Rattle.picture.specs.Curve.{IsCurve}
use Rattle.picture.specs.Run.{IsRunOf, is_edge}
use Rattle.std.proofs.Common.{subst, sym}

-- no step is higher than how many coflows there are
pub curve_within : (ends : List ℕ) (steps : List Step) (n : ℕ) → length ends ≡ n → IsCurve ends steps → All (λ (s : Step). s.done ≤ n) steps
curve_within ends steps n count is = λ k d lt.
    omega (arith, (is.each_step k d lt).done_is, count_by-le-length (λ end. leb end (get_or steps k d).slot) ends, count)

before_end : (s : Span) (time : ℕ) → is_edge s time ≡ true → time ≤ s.last
before_end s time edge = grind (arith, nat_tests, edge)

-- no edge of a span lies behind it
pub ticks_within : (s : Span) (times ticks : List ℕ) → ticks ≡ filter (is_edge s) times → All (λ time. time ≤ s.last) ticks
ticks_within s times ticks is = subst (λ ts. All (λ time. time ≤ s.last) ts) (sym is) (λ k d lt. before_end s _ (filter_passes (is_edge s) times k d lt))

-- the ticks ascend as the publishings do
pub ticks_in_order : (arrived ends published : List ℕ) (p : RunPicture) → IsRunOf arrived ends published p → AllPairs (λ a b. a < b) published →
    AllPairs (λ a b. a < b) p.ticks
ticks_in_order arrived ends published p is order =
    subst (λ ts. AllPairs (λ a b. a < b) ts) (sym is.ticks_are) (AllPairs-filter (λ a b. a < b) (is_edge p.span) published order)
