-- The steps of writing a text.
use Rattle.std.proofs.Common.{◌≡◌, ℕ, ◌+◌, ◌++◌, List, take, drop, ◌∙◌, ap, append_assoc}
use Rattle.std.specs.Prelude.{Option, Some, None, Ok}
use Rattle.std.proofs.Math.Seq.{take-add}
use Rattle.outside.specs.Sink.{Takes}
use Rattle.outside.proofs.SoFar.{TakenSoFar}

takes_at : (E : Type 0) (m new : Option (List ℕ)) (x piece : List ℕ) (n : ℕ) → m ≡ Some x → Takes {E = E} m new piece (Ok n) → new ≡ Some (x ++ take n piece)
takes_at E (Some y) new x piece n e h = let same : y ≡ x = cc in rw (← same) h
takes_at E None new x piece n e h = cc

-- a write goes on from the beginning that was taken
pub write_step : (E : Type 0) (old m new : Option (List ℕ)) (text piece : List ℕ) (w n : ℕ) → piece ≡ drop w text → TakenSoFar old m (take w text) →
    Takes {E = E} m new piece (Ok n) →
    TakenSoFar old new (take (w + n) text)
write_step E None None new text piece w n p so_far step = step
write_step E None (Some y) new text piece w n p so_far step = cc
write_step E (Some x) m new text piece w n p so_far step =
    let at = takes_at E m new (x ++ take w text) piece n so_far step in
    rw (take-add w n text) (at ∙ ap Some (append_assoc x (take w text) (take n piece) ∙ ap (λ v. x ++ (take w text ++ take n v)) p))
