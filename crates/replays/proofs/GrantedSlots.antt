-- In each slot of a moment the flows are the grants of the line that stood then, for what was left then.
use Rattle.std.proofs.Common.{◌≡◌, ℕ, ◌+◌, ◌-◌, ◌<◌, ◌≤◌, inl, inr, List, [], ◌++◌, cond, get_or, length, replicate, take, Contains, refl, sym, ap, subst, ◌∙◌, arith}
use Rattle.std.specs.Prelude.{slice_index}
use Rattle.std.proofs.lemmas.Bool.{cases_Bool, cases_lt}
use Rattle.std.proofs.lemmas.List.{get_or_append_left, get_or-append_right, get_or-replicate, take-append-le, take-replicate}
use Rattle.std.proofs.Math.Seq.{take-append-add}
use Rattle.coflow_units.specs.declared.fabric.Flow.{Flow}
use Rattle.coflow_units.specs.Flows.{coflow_of}
use Rattle.coflow_units.specs.Grants.{IsGrants}
use Rattle.coflow_units.specs.Schedule.{holds}
use Rattle.coflow_units.specs.Served.{left_after}
use Rattle.coflow_units.proofs.ServedRuns.{same_grants}
use Rattle.coflow_units.proofs.Sums.{any_has, nothing_in}
use Rattle.epochs.specs.declared.action.Action.{Action}
use Rattle.epochs.specs.declared.action.Action.TheVariants.{End, Publish, Register, Run, Skip, TooMany, Withdraw}
use Rattle.epochs.proofs.Actions.{marked_below, skip_none_owes}
use Rattle.rankers.specs.Meaning.{Meaning}
use Rattle.slot_switch.proofs.RunSteps.{left_after_run}
use Rattle.replays.specs.Kept.{Holds}
use Rattle.replays.specs.Moments.{DoesNext, first_moment, Input, IsMoment, IsNext, Moment, owed_at, served_at, time_at}
use Rattle.replays.specs.Replayed.{IsInput, IsReplay}
use Rattle.replays.proofs.Holding.{holds_first, longer}
use Rattle.replays.proofs.Marks.{here_parts}
use Rattle.replays.proofs.MomentSteps.{at_each}
use Rattle.replays.proofs.ReleasedReplays.{owes_all}
use Rattle.replays.proofs.Remaining.{goes_on, owed_is}
use Rattle.replays.proofs.Steps.{first_is_moment, next_is_moment}

-- ---- a run

run_front : (slots : List (List ℕ)) (granted : List ℕ) (n k : ℕ) → length slots ≤ k → k < length slots + n →
    take k (slots ++ replicate n granted) ≡ slots ++ replicate (k - length slots) granted
run_front slots granted n k past lt =
    let e : k ≡ length slots + (k - length slots) = omega arith in
    ap (λ i. take i (slots ++ replicate n granted)) e ∙ take-append-add slots (replicate n granted) (k - length slots) ∙
    ap (λ l. slots ++ l) (take-replicate (k - length slots) n granted (omega (arith, past, lt)))

-- within a run the grants stay
grants_within : (flows : List Flow) (line : List ℕ) (slots : List (List ℕ)) (granted : List ℕ) (n j : ℕ) → IsGrants flows line (left_after flows slots) granted →
    ((f : ℕ) → Contains granted f → n ≤ left_after flows slots f) → j < n → IsGrants flows line (left_after flows (slots ++ replicate j granted)) granted
grants_within flows line slots granted n j grants owed lt =
    same_grants flows line (left_after flows slots) (left_after flows (slots ++ replicate j granted)) granted
    (λ f low some. elim (cases_Bool (holds granted f)) [
      | inl some' ↦ omega (arith, left_after_run flows slots granted j f, ap {B = ℕ} (λ b. cond b j 0) some', owed f (any_has granted f some'), lt)
      | inr not' ↦ omega (arith, left_after_run flows slots granted j f, ap {B = ℕ} (λ b. cond b j 0) not', some)
    ])
    (λ f low some. omega (arith, left_after_run flows slots granted j f, some)) grants

-- where slots are skipped, nothing is granted
nothing_granted : (x : Input) (m : Moment) (to : ℕ) → IsInput x → Holds x m → DoesNext x m (Skip to) → IsGrants x.table.flows m.line (left_after x.table.flows m.slots) []
nothing_granted x m to input h does = record {
  ascending = λ k lt. absurd (omega (arith, lt));
  flow = λ k d lt. absurd (omega (arith, lt));
  in_line = λ k d lt. absurd (omega (arith, lt));
  owed = λ f has. absurd (nothing_in f has);
  free = λ f has. absurd (nothing_in f has);
  rest = λ f low has some.
      let c = coflow_of x.table.flows f in
      let (joined, stays) = here_parts m c (h.stands c has) in
      let known : c < length x.table.ids = omega (arith, marked_below m.course.registered c joined, h.registered) in
      let owing : 0 < slice_index (owed_at x m) c = omega (arith, some, owes_all x m c f low refl, owed_is x m c known) in
      absurd (skip_none_owes m.course (time_at m) (owed_at x m) to (omega (arith, input.some, h.every_is)) does (c, record { joined = joined; stays = stays }, owing));
}

-- ---- each slot

-- the slot after these is served in a step of the replay, by the grants of the line for what these left
abbrev IsGrantedIn : Input → Meaning → ℕ → List (List ℕ) → List ℕ → Type 0
IsGrantedIn x ranker k before slot =
    (m : Moment) × (next : Moment) × (action : Action) × IsMoment x ranker m × DoesNext x m action × IsNext x m action next × (time_at m ≤ k) × (k < time_at next) ×
    IsGrants x.table.flows m.line (left_after x.table.flows before) slot

record AreGranted (x : Input) (ranker : Meaning) (m : Moment) : Type 0 where
  pub reached : IsMoment x ranker m
  pub holds : Holds x m
  pub each : (k : ℕ) → k < time_at m → IsGrantedIn x ranker k (take k m.slots) (get_or m.slots k [])

granted_more : (x : Input) (ranker : Meaning) (m next : Moment) (a : Action) (n : ℕ) (granted : List ℕ) → AreGranted x ranker m → DoesNext x m a → IsNext x m a next →
    next ≡ served_at m n granted → IsGrants x.table.flows m.line (left_after x.table.flows m.slots) granted →
    ((f : ℕ) → Contains granted f → n ≤ left_after x.table.flows m.slots f) → (k : ℕ) → k < time_at next → IsGrantedIn x ranker k (take k next.slots) (get_or next.slots k [])
granted_more x ranker m next a n granted h does is made grants owed k lt =
    let slots_are = ap (λ (t : Moment). t.slots) made in
    let more = replicate n granted in
    let short = ap (λ (t : Moment). time_at t) made in
    subst (λ s. IsGrantedIn x ranker k (take k s) (get_or s k [])) (sym slots_are) (elim (cases_lt k (time_at m)) [
      | inl low ↦
          subst (λ s. IsGrantedIn x ranker k s (get_or (m.slots ++ more) k [])) (sym (take-append-le k m.slots more (omega (arith, low))))
          (subst (λ s. IsGrantedIn x ranker k (take k m.slots) s) (sym (get_or_append_left m.slots more [] k low)) (h.each k low))
      | inr past ↦
          let j = k - time_at m in
          let inside : j < n = omega (arith, lt, short, longer m n granted, past) in
          let at : get_or (m.slots ++ more) k [] ≡ granted =
          get_or-append_right m.slots more (length m.slots) k [] refl past ∙ get_or-replicate n j granted [] inside in
          subst (λ s. IsGrantedIn x ranker k s (get_or (m.slots ++ more) k [])) (sym (run_front m.slots granted n k past (omega (arith, lt, short, longer m n granted))))
          (subst (λ s. IsGrantedIn x ranker k (m.slots ++ replicate j granted) s) (sym at)
          (m, next, a, h.reached, does, is, past, lt, grants_within x.table.flows m.line m.slots granted n j grants owed inside))
    ])

granted_next : (x : Input) (ranker : Meaning) → IsInput x → (m next : Moment) (a : Action) → AreGranted x ranker m → DoesNext x m a → IsNext x m a next → AreGranted x ranker next
granted_next x ranker input m next a h does is = record {
  reached = next_is_moment x ranker m next a h.reached does is;
  holds = (goes_on x m next a input h.holds does is).holds;
  each = slots_granted x ranker input m next a h does is;
} where
  same_slots : (x : Input) (ranker : Meaning) (m next : Moment) → next.slots ≡ m.slots → AreGranted x ranker m → (k : ℕ) → k < time_at next →
      IsGrantedIn x ranker k (take k next.slots) (get_or next.slots k [])
  same_slots x ranker m next e h k lt =
      subst (λ s. IsGrantedIn x ranker k (take k s) (get_or s k [])) (sym e) (h.each k (omega (arith, lt, ap (λ (s : List (List ℕ)). length s) e)))

  slots_granted : (x : Input) (ranker : Meaning) → IsInput x → (m next : Moment) (a : Action) → AreGranted x ranker m → DoesNext x m a → IsNext x m a next → (k : ℕ) →
      k < time_at next → IsGrantedIn x ranker k (take k next.slots) (get_or next.slots k [])
  slots_granted x ranker input m next (Register c) h does is = same_slots x ranker m next (ap (λ (t : Moment). t.slots) is) h
  slots_granted x ranker input m next (Withdraw c) h does is = same_slots x ranker m next (ap (λ (t : Moment). t.slots) is) h
  slots_granted x ranker input m next Publish h does is = same_slots x ranker m next (ap (λ (t : Moment). t.slots) is.next_is) h
  slots_granted x ranker input m next (Run most) h does is = granted_more x ranker m next (Run most) is.count is.granted h does is is.next_is is.grants is.run.owed
  slots_granted x ranker input m next (Skip to) h does is =
      granted_more x ranker m next (Skip to) (to - 1 - time_at m) [] h does is is (nothing_granted x m to input h.holds does) (λ f has. absurd (nothing_in f has))
  slots_granted x ranker input m next End h does is = absurd is
  slots_granted x ranker input m next (TooMany count) h does is = absurd is

granted_first : (x : Input) (ranker : Meaning) → IsInput x → AreGranted x ranker (first_moment x ranker)
granted_first x ranker input = record { reached = first_is_moment x ranker; holds = holds_first x ranker input; each = λ k lt. absurd (omega (arith, lt)) }

pub replay_grants : (x : Input) (ranker : Meaning) (slots : List (List ℕ)) (k : ℕ) → IsInput x → IsReplay x ranker slots → k < length slots →
    IsGrantedIn x ranker k (take k slots) (get_or slots k [])
replay_grants x ranker slots k input replay lt =
    let m = replay.moment in
    let all = at_each x (AreGranted x ranker) (granted_next x ranker input) ranker m (granted_first x ranker input) replay.reached in
    subst (λ s. IsGrantedIn x ranker k (take k s) (get_or s k [])) (sym replay.slots_are)
    (all.each k (omega (arith, lt, ap (λ (s : List (List ℕ)). length s) replay.slots_are)))
