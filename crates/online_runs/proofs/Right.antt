-- What an online run says is right, as the checker of online runs defines it.
use Rattle.std.proofs.Common.{◌≡◌, ℕ, ◌-◌, ◌<◌, ◌≤◌, List, [], ◌∷◌, get_or, length, map, reverse, refl, sym, ap, subst, ◌∙◌, arith, zero, suc, Contains}
use Rattle.std.specs.Prelude.{All, slice_index}
use Rattle.std.specs.List.{range_with_len}
use Rattle.std.proofs.lemmas.List.{ext_get_or, get_or-map, get_or-reverse, length-map, length-reverse, reverse-reverse}
use Rattle.std.proofs.lemmas.List.Elements.{All-contains, All-head, All-tail}
use Rattle.std.proofs.lemmas.List.FromFn.{get_or-map-range_with_len, length-map-range_with_len}
use Rattle.coflow_units.specs.Certificate.{front}
use Rattle.coflow_units.specs.Completion.{completion, cost}
use Rattle.coflow_units.specs.Flows.{IsDistinct}
use Rattle.coflow_units.specs.Schedule.{IsValid}
use Rattle.coflow_units.proofs.Lists.{number_below}
use Rattle.coflow_units.proofs.LinePlaces.{place_at}
use Rattle.coflow_units.proofs.OrderingLaws.{ordering_feasible}
use Rattle.coflow_units.proofs.Sums.{in_first, in_tail}
use Rattle.dual_cert.proofs.DualLaw.{bound_law}
use Rattle.flow_table.specs.Table.{instance_of, TableFacts}
use Rattle.release_bound.specs.declared.place.ReleasePlace.{ReleasePlace}
use Rattle.release_bound.specs.Release.{entries_of, IsReleased, IsReleasedCertificate, IsReleasedFeasible, released_total}
use Rattle.schedule_model.specs.RunList.{slots_in}
use Rattle.online_text.specs.declared.value.DoneLine.{DoneLine}
use Rattle.online_text.specs.declared.value.Online.{Online}
use Rattle.online_check.specs.Done.{ids_done, slots_done}
use Rattle.online_check.specs.Released.{released_for, released_in, released_with}
use Rattle.online_check.specs.Sound.{IsSoundOnline}
use Rattle.journal.specs.declared.command.Entry.{Entry}
use Rattle.journal.specs.declared.opening.Opening.{Opening}
use Rattle.journal.specs.Chosen.{the_ordering}
use Rattle.journal.specs.Closed.{schedule_of}
use Rattle.journal.specs.Fold.{state_of}
use Rattle.journal.specs.Journal.{left_at}
use Rattle.journal.specs.State.{IsOpening}
use Rattle.journal.proofs.Instances.{is_the_ordering, left_is_instance}
use Rattle.online_runs.specs.Input.{IsOnlineInput}
use Rattle.online_runs.specs.Value.{done_line, done_lines, epoch_at, IsOnlineOf, release_line}
use Rattle.online_runs.proofs.AtTheEnd.{run_serves}

-- ---- publishings

pub epoch_bound : (o : Opening) (before : List Entry) (slots : List (List ℕ)) → IsOpening o → IsValid (left_at o before).flows slots →
    (epoch_at o before).bound ≤ cost (left_at o before).flows (left_at o before).weight (left_at o before).coflows slots
epoch_bound o before slots ok valid =
    let left = left_at o before in
    let ordering = is_the_ordering left (left_is_instance o (state_of o before) ok) in
    bound_law left (the_ordering left) slots ordering.certificate (ordering_feasible left (the_ordering left) ordering) valid

-- ---- the released certificate, read again from its lines

one_again : (ids : List ℕ) (r : ReleasePlace) → IsDistinct ids → r.coflow < length ids → released_for ids (release_line ids r) ≡ r
one_again ids r once lt = ap (λ c. released_with c (release_line ids r)) (place_at ids r.coflow once lt)

lines_again : (ids : List ℕ) (places : List ReleasePlace) → IsDistinct ids → All (λ (r : ReleasePlace). r.coflow < length ids) places →
    map (released_for ids) (map (release_line ids) places) ≡ places
lines_again ids [] once within = refl
lines_again ids (r ∷ rs) once within =
    ap (λ x. x ∷ map (released_for ids) (map (release_line ids) rs)) (one_again ids r once (All-head (λ (r : ReleasePlace). r.coflow < length ids) r rs within)) ∙
    ap (λ l. r ∷ l) (lines_again ids rs once (All-tail (λ (r : ReleasePlace). r.coflow < length ids) r rs within))

pub released_again : (ids : List ℕ) (places : List ReleasePlace) → IsDistinct ids → All (λ (r : ReleasePlace). r.coflow < length ids) (reverse places) →
    released_in ids (map (release_line ids) (reverse places)) ≡ places
released_again ids places once within = ap reverse (lines_again ids (reverse places) once within) ∙ reverse-reverse places

front_at : (places : List ReleasePlace) (k : ℕ) (d : ReleasePlace) → k < length places → Contains (front (entries_of places)) (get_or places k d).coflow
front_at [] k d lt = absurd (omega (arith, lt))
front_at (r ∷ rs) zero d lt = in_first r.coflow (front (entries_of rs))
front_at (r ∷ rs) (suc k) d lt = in_tail r.coflow (front (entries_of rs)) (get_or rs k d).coflow (front_at rs k d (omega (arith, lt)))

pub places_within : (t : TableFacts) (weights : List ℕ) (places : List ReleasePlace) → IsReleasedCertificate (instance_of t weights) places →
    All (λ (r : ReleasePlace). r.coflow < length t.ids) places
places_within t weights places h k d lt =
    let c = (get_or places k d).coflow in
    omega (
      arith,
      number_below 0 (length t.ids) c (All-contains (Contains (range_with_len 0 (length t.ids))) (front (entries_of places)) c h.coflow (front_at places k d lt)),
    )

pub all_reversed : {X : Type 0} (P : X → Type 0) (xs : List X) → All P xs → All P (reverse xs)
all_reversed P xs all k d lt =
    let n = length xs - 1 - k in
    let inside : k < length xs = omega (arith, lt, length-reverse xs) in
    subst P (sym (get_or-reverse xs k d inside)) (all n d (omega (arith, inside)))

-- ---- the lines of completions

pub ids_again : (o : Opening) (slots : List (List ℕ)) → ids_done (done_lines o slots) ≡ o.table.ids
ids_again o slots =
    let n = length o.table.ids in
    let lines = done_lines o slots in
    let count : length lines ≡ n = length-map-range_with_len (done_line o slots) 0 n in
    let none : DoneLine = record { id = 0; slot = 0 } in
    ext_get_or 0 (ids_done lines) o.table.ids (omega (arith, length-map lines (λ (d : DoneLine). d.id), count))
    (λ k lt.
    let inside : k < length lines = omega (arith, lt, length-map lines (λ (d : DoneLine). d.id)) in
    get_or-map (λ (d : DoneLine). d.id) lines k none 0 inside ∙
    ap (λ (d : DoneLine). d.id) (get_or-map-range_with_len (done_line o slots) 0 n k k none (omega (arith, inside, count)) (omega arith)))

pub slots_again : (o : Opening) (slots : List (List ℕ)) (c : ℕ) → c < length o.table.ids → slice_index (slots_done (done_lines o slots)) c ≡ completion o.table.flows slots c
slots_again o slots c lt =
    let n = length o.table.ids in
    let lines = done_lines o slots in
    let none : DoneLine = record { id = 0; slot = 0 } in
    get_or-map (λ (d : DoneLine). d.slot) lines c none 0 (omega (arith, lt, length-map-range_with_len (done_line o slots) 0 n)) ∙
    ap (λ (d : DoneLine). d.slot) (get_or-map-range_with_len (done_line o slots) 0 n c c none lt (omega arith))

-- ---- the whole

module _ (o : Opening) (arrivals : List ℕ) (every : ℕ) (x : Online) (i : IsOnlineInput o arrivals every) (once : IsDistinct o.table.ids) (h : IsOnlineOf o arrivals every x)
    (feasible : IsReleasedFeasible o.table.flows (slice_index o.weights) h.places) where
  abbrev slots : List (List ℕ)
  slots = schedule_of o h.journal

  runs_same : slots_in x.runs ≡ slots
  runs_same = h.runs_are.same

  again : released_in o.table.ids x.release ≡ h.places
  again =
      ap (released_in o.table.ids) h.release_is ∙
      released_again o.table.ids h.places once
      (all_reversed (λ (r : ReleasePlace). r.coflow < length o.table.ids) h.places (places_within o.table o.weights h.places h.ordering.certificate))

  pub is_right : IsSoundOnline (instance_of o.table o.weights) (slice_index arrivals) o.table.ids x
  is_right = record {
    certificate = subst (IsReleasedCertificate (instance_of o.table o.weights)) (sym again) h.ordering.certificate;
    feasible = subst (IsReleasedFeasible o.table.flows (slice_index o.weights)) (sym again) feasible;
    total_is_low = omega (arith, h.total_is, ap (released_total o.table.flows (slice_index arrivals) o.table.ports) again);
    released = subst (IsReleased o.table.flows (slice_index arrivals)) (sym runs_same) (run_serves o arrivals every h.journal i h.run);
    listed = ap ids_done h.done_are ∙ ids_again o slots;
    ends = λ c lt. ap (λ l. slice_index (slots_done l) c) h.done_are ∙ slots_again o slots c lt ∙ sym (ap (λ l. completion o.table.flows l c) runs_same);
    cost_is = h.cost_is ∙ sym (ap (cost o.table.flows (slice_index o.weights) (range_with_len 0 (length o.table.ids))) runs_same);
  }
