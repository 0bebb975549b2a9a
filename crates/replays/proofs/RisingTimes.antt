-- The times of the publishings of a moment rise.
use Rattle.std.proofs.Common.{◌≡◌, ◌≢◌, ℕ, ◌+◌, ◌-◌, ◌<◌, ◌≤◌, inl, inr, List, [], ◌∷◌, ◌++◌, Some, get_or, length, map, replicate, refl, sym, ap, subst, ◌∙◌, arith, length-append}
use Rattle.std.specs.Prelude.{All}
use Rattle.std.specs.List.Sorted.{IsStrictlyIncreasing}
use Rattle.std.proofs.lemmas.Bool.{cases_lt}
use Rattle.std.proofs.lemmas.List.{get_or_append_left, get_or_push, length_push, map_push}
use Rattle.std.proofs.lemmas.List.Elements.{All-nil, All-push, All-weaker}
use Rattle.epochs.specs.declared.action.Action.{Action}
use Rattle.epochs.specs.declared.action.Action.TheVariants.{End, Publish, Register, Run, Skip, TooMany, Withdraw}
use Rattle.online_text.specs.declared.value.Epoch.{Epoch}
use Rattle.rankers.specs.FactsTold.{FactsTold}
use Rattle.rankers.specs.Meaning.{Meaning}
use Rattle.replays.specs.Moments.{DoesNext, first_moment, Input, IsMoment, IsNext, Moment, Publishing, published_at, served_at, time_at}
use Rattle.replays.specs.Recorded.{epoch_told}
use Rattle.replays.proofs.MomentSteps.{at_each}

increasing_push : (xs : List ℕ) (x : ℕ) → IsStrictlyIncreasing xs → All (λ y. y < x) xs → IsStrictlyIncreasing (xs ++ x ∷ [])
increasing_push xs x rising below k lt = elim (cases_lt (k + 1) (length xs)) [
  | inl inside ↦
      let left : get_or (xs ++ x ∷ []) k 0 ≡ get_or xs k 0 = get_or_append_left xs (x ∷ []) 0 k (omega (arith, inside)) in
      let right : get_or (xs ++ x ∷ []) (k + 1) 0 ≡ get_or xs (k + 1) 0 = get_or_append_left xs (x ∷ []) 0 (k + 1) inside in
      omega (arith, left, right, rising k inside)
  | inr last ↦
      let left : get_or (xs ++ x ∷ []) k 0 ≡ get_or xs k 0 = get_or_append_left xs (x ∷ []) 0 k (omega (arith, lt, length_push xs x)) in
      let right : get_or (xs ++ x ∷ []) (k + 1) 0 ≡ x = get_or_push xs x 0 (k + 1) (omega (arith, lt, last, length_push xs x)) in
      omega (arith, left, right, below k 0 (omega (arith, lt, length_push xs x)))
]

abbrev times_of : List Publishing → List ℕ
times_of ps = map (λ (p : Publishing). p.time) ps

abbrev UpTo : Moment → ℕ → Type 0
UpTo m t = (last : ℕ) × (m.course.last ≡ Some last) × (t ≤ last)

-- the times rise, none is later than the last publishing, and that is not later than now
record Rises (m : Moment) : Type 0 where
  pub rising : IsStrictlyIncreasing (times_of m.publishings)
  pub until : All (UpTo m) (times_of m.publishings)
  pub past : (last : ℕ) → m.course.last ≡ Some last → last ≤ time_at m

rises_first : (x : Input) (ranker : Meaning) → Rises (first_moment x ranker)
rises_first x ranker = record {
  rising = λ k lt. absurd (omega (arith, lt));
  until = All-nil (UpTo (first_moment x ranker));
  past = λ last is. absurd (cc);
}

rises_published : (x : Input) (m : Moment) (facts : FactsTold) → m.course.last ≢ Some (time_at m) → Rises m → Rises (published_at x m facts)
rises_published x m facts fresh h =
    let now = time_at m in
    let next = published_at x m facts in
    let earlier : All (λ t. t < now) (times_of m.publishings) =
    All-weaker (UpTo m) (λ t. t < now) (λ t (last, is, le). let not' : last ≢ now = λ same. fresh (is ∙ ap Some same) in omega (arith, le, h.past last is, not'))
    (times_of m.publishings) h.until in
    let more = map_push (λ (p : Publishing). p.time) m.publishings _ in
    record {
      rising = subst IsStrictlyIncreasing (sym more) (increasing_push (times_of m.publishings) now h.rising (λ k d lt. earlier k d lt));
      until = subst (All (UpTo next)) (sym more)
          (All-push (UpTo next) (times_of m.publishings) now
          (All-weaker (λ t. t < now) (UpTo next) (λ t lt. (now, refl, omega (arith, lt))) (times_of m.publishings) earlier) (now, refl, omega arith));
      past = λ last is. let same : now ≡ last = cc in omega (arith, same);
    }

rises_served : (m : Moment) (count : ℕ) (flows : List ℕ) → Rises m → Rises (served_at m count flows)
rises_served m count flows h = record {
  rising = h.rising;
  until = h.until;
  past = λ last is. omega (arith, h.past last is, length-append m.slots (replicate count flows));
}

rises_next : (x : Input) (m next : Moment) (a : Action) → Rises m → DoesNext x m a → IsNext x m a next → Rises next
rises_next x m next (Register c) h does is = subst Rises (sym is) (record { rising = h.rising; until = h.until; past = h.past })
rises_next x m next (Withdraw c) h does is = subst Rises (sym is) (record { rising = h.rising; until = h.until; past = h.past })
rises_next x m next Publish h does is = subst Rises (sym is.next_is) (rises_published x m is.facts does.applies.0.due.start.unpublished h)
rises_next x m next (Run most) h does is = subst Rises (sym is.next_is) (rises_served m is.count is.granted h)
rises_next x m next (Skip to) h does is = subst Rises (sym is) (rises_served m (to - 1 - time_at m) [] h)
rises_next x m next End h does is = absurd is
rises_next x m next (TooMany count) h does is = absurd is

told_times : (ids : List ℕ) (ps : List Publishing) → map (λ (e : Epoch). e.time) (map (epoch_told ids) ps) ≡ times_of ps
told_times ids [] = refl
told_times ids (p ∷ ps) = ap (λ l. p.time ∷ l) (told_times ids ps)

pub times_rise : (x : Input) (ranker : Meaning) (m : Moment) → IsMoment x ranker m → IsStrictlyIncreasing (map (λ (e : Epoch). e.time) (map (epoch_told x.table.ids) m.publishings))
times_rise x ranker m is =
    subst IsStrictlyIncreasing (sym (told_times x.table.ids m.publishings)) (at_each x Rises (rises_next x) ranker m (rises_first x ranker) is).rising
