-- A program that chooses places over a table makes the released certificate of the instance.
use Rattle.std.proofs.Common.{◌≡◌, ℕ, ◌+◌, ◌-◌, ◌*◌, ◌^◌, ◌<◌, ◌≤◌, ◌⊎◌, inl, inr, Bool, true, false, cond, List, [], ◌∷◌, ◌++◌, length, drop, Contains}
use Rattle.std.proofs.Common.{refl, sym, ap, subst, subst₂, ◌∙◌, arith, true≢false, zero, suc}
use Rattle.std.specs.Prelude.{All, count_by, reverse, replicate, slice_index, slice_set}
use Rattle.std.proofs.lemmas.Bool.{cases_eq}
use Rattle.std.proofs.lemmas.List.{drop_all, drop-set, get_or-replicate, length-replicate, map-append, reverse-append}
use Rattle.std.proofs.lemmas.List.Sums.{sum_by-cons}
use Rattle.std.proofs.lemmas.List.Elements.{All-cons, All-nil}
use Rattle.coflow_units.specs.declared.fabric.Flow.{Flow}
use Rattle.coflow_units.specs.declared.fabric.Port.{Port}
use Rattle.coflow_units.specs.Flows.{Instance}
use Rattle.coflow_units.specs.Load.{load, load_of_all}
use Rattle.coflow_units.specs.Certificate.{Entry, budget, front, used}
use Rattle.coflow_units.specs.Ordering.{port_place, residual, spent}
use Rattle.coflow_units.proofs.Sums.{Apart, all_of_members, apart_from_pairs, first_or_tail, in_first, in_tail, nothing_in, pairs_from_apart, same_members}
use Rattle.coflow_units.proofs.Ranges.{in_range}
use Rattle.coflow_units.proofs.Numbers.{floor_within, zero_or_more}
use Rattle.coflow_units.proofs.BestOf.{without, without_apart, without_in, without_keeps, without_out}
use Rattle.coflow_units.proofs.CertificateSteps.{used_in, used_outside}
use Rattle.coflow_units.proofs.OrderingLaws.{spent_more, within_ratio}
use Rattle.port_load.specs.LoadTable.{DropsCoflow, IsSameSize, LoadTable, is_present, load_at, total_at}
use Rattle.port_load.proofs.Grid.{below_in, range_apart}
use Rattle.bssi_order.specs.Step.{IsReady, Pays, Stands}
use Rattle.bssi_order.proofs.BeginSteps.{budget_fits}
use Rattle.bssi_order.proofs.OrderingSteps.{after}
use Rattle.bssi_order.proofs.StandSteps.{after_more, first_greatest, left_total, none_left, one_less, placed_busy, ready_more, stands_more}
use Rattle.bssi_order.proofs.TableSteps.{present_below}
use Rattle.release_bound.specs.declared.place.ReleasePlace.{ReleasePlace}
use Rattle.release_bound.specs.Release.{IsReleasedFeasible, entries_of, entry_of}
use Rattle.release_bound.specs.declared.threshold.Threshold.{Threshold}
use Rattle.release_bound.specs.ReleaseOrder.{IsLate, IsLatest, IsPlacedReleased, IsReleasedBy, IsReleasedOrdered, quarters_of}
use Rattle.release_bound.specs.ReleaseStep.{IsLatestWaiting, IsReleaseChosen}
use Rattle.release_bound.specs.ReleaseTable.{IsOfTable}
use Rattle.release_bound.proofs.Lateness.{late_or_early}

-- ---- one step

-- the step over any list with the same members
pub same_step : (quarters : ℕ) (flows : List Flow) (weight arrival : ℕ → ℕ) (ports : ℕ) (later : List Entry) (xs ys : List ℕ) (r : ReleasePlace) →
    ((port : Port) → load_of_all flows xs port ≡ load_of_all flows ys port) →
    ((c : ℕ) → Contains ys c → Contains xs c) → ((c : ℕ) → Contains xs c → Contains ys c) → IsPlacedReleased quarters flows weight arrival ports later xs r →
    IsPlacedReleased quarters flows weight arrival ports later ys r
same_step quarters flows weight arrival ports later xs ys r same from to step =
    let late_before = λ (late : IsLate quarters (load_of_all flows ys r.port) (arrival step.latest)).
    subst (λ n. IsLate quarters n (arrival step.latest)) (sym (same r.port)) late in
    let late_after = λ (late : IsLate quarters (load_of_all flows xs r.port) (arrival step.latest)).
    subst (λ n. IsLate quarters n (arrival step.latest)) (same r.port) late in
    record {
      port = record {
        in_range = step.port.in_range;
        greatest = λ other lt. subst₂ (λ a b. (b < a) ⊎ ((b ≡ a) × (port_place ports r.port ≤ port_place ports other))) (same r.port) (same other) (step.port.greatest other lt);
      };
      latest = step.latest;
      is_latest = record {
        member = to step.latest step.is_latest.member;
        latest = λ other has. step.is_latest.latest other (from other has);
      };
      late_coflow = λ late. step.late_coflow (late_before late);
      late_y = λ late. step.late_y (late_before late);
      early = λ early.
          let b = step.early (λ late. early (late_after late)) in
          record { has_load = b.has_load; least = λ d has. b.least d (from d has); y_is = b.y_is };
      z_is = step.z_is;
    }

-- no coflow pays more than it has left
pays_within : (quarters : ℕ) (flows : List Flow) (weight arrival : ℕ → ℕ) (ports : ℕ) (later : List Entry) (coflows : List ℕ) (r : ReleasePlace) →
    IsPlacedReleased quarters flows weight arrival ports later coflows r → (d : ℕ) → Contains coflows d → r.y * load flows d r.port ≤ residual flows weight later d
pays_within quarters flows weight arrival ports later coflows r step d has =
    elim (late_or_early quarters (load_of_all flows coflows r.port) (arrival step.latest)) [
      | inl late ↦ omega (arith, ap (λ n. n * load flows d r.port) (step.late_y late))
      | inr early ↦
          let busy = step.early early in
          elim (zero_or_more (load flows d r.port)) [
            | inl none ↦ omega (arith, ap (λ n. r.y * n) none)
            | inr has_load ↦ within_ratio r.y (residual flows weight later r.coflow) (load flows r.coflow r.port) (residual flows weight later d)
                (load flows d r.port) busy.has_load
                (omega (arith, ap (λ n. n * load flows r.coflow r.port) busy.y_is, floor_within (residual flows weight later r.coflow) (load flows r.coflow r.port)))
                (elim (busy.least d has has_load) [
                  | inl less ↦ omega arith
                  | inr same ↦ omega (arith, same.0)
                ])
          ]
    ]

-- ---- the certificate is feasible, with nothing left over

own_part : (whole s own before b y l z : ℕ) → whole ≡ s + own → own ≡ y * l + before → before ≡ 0 → z ≡ b - s - y * l → y * l ≤ b - s → s ≤ b → whole + z ≤ b
own_part whole s own before b y l z e f g h le fits = omega (arith, e, f, g, h, le, fits)

parts_stay : (quarters : ℕ) (flows : List Flow) (weight arrival : ℕ → ℕ) (ports : ℕ) (whole later : List Entry) (l : List ReleasePlace) →
    IsReleasedOrdered quarters flows weight arrival ports later l →
    Apart (front (entries_of l)) →
    ((c : ℕ) → Contains (front (entries_of l)) c → spent flows later c ≤ budget weight c) →
    ((c : ℕ) → Contains (front (entries_of l)) c → used flows whole c ≡ spent flows later c + used flows (entries_of l) c) →
    All (λ (r : ReleasePlace). used flows whole r.coflow + r.z ≤ budget weight r.coflow) l
parts_stay quarters flows weight arrival ports whole later [] ordered apart fits pays = All-nil (λ (r : ReleasePlace). used flows whole r.coflow + r.z ≤ budget weight r.coflow)
parts_stay quarters flows weight arrival ports whole later (r ∷ l) ordered apart fits pays =
    let before = entries_of l in
    let c = r.coflow in
    let e = entry_of r in
    let here = in_first c (front before) in
    let pay = λ (d : ℕ) (has : Contains (front (e ∷ before)) d). pays_within quarters flows weight arrival ports later (front (e ∷ before)) r ordered.0 d has in
    let own = own_part (used flows whole c) (spent flows later c) (used flows (e ∷ before) c) (used flows before c) (budget weight c) r.y (load flows c r.port) r.z
    (pays c here) (used_in flows e before c here) (used_outside flows before c apart.0) ordered.0.z_is (pay c here) (fits c here) in
    All-cons (λ (x : ReleasePlace). used flows whole x.coflow + x.z ≤ budget weight x.coflow) r l own
    (parts_stay quarters flows weight arrival ports whole (e ∷ later) l ordered.1 apart.1
    (λ d has. omega (arith, spent_more flows e later d, pay d (in_tail c (front before) d has), fits d (in_tail c (front before) d has)))
    (λ d has. omega (arith, pays d (in_tail c (front before) d has), used_in flows e before d (in_tail c (front before) d has), spent_more flows e later d)))

pub released_feasible : (by : Threshold) (i : Instance) (arrival : ℕ → ℕ) (places : List ReleasePlace) → IsReleasedBy by i arrival places →
    IsReleasedFeasible i.flows i.weight places
released_feasible by i arrival places ordering =
    parts_stay (quarters_of by) i.flows i.weight arrival i.ports (entries_of places) [] places ordering.ordered
    (apart_from_pairs (front (entries_of places)) ordering.certificate.once)
    (λ c has. omega arith) (λ c has. omega arith)

-- ---- one place after another

-- the places are made one after another, over the coflows and the places that were there before; these coflows are left
abbrev pub IsReleasedSoFar : ℕ → List Flow → (ℕ → ℕ) → (ℕ → ℕ) → ℕ → List Entry → List ℕ → List ReleasePlace → List ℕ → Type 0
IsReleasedSoFar quarters flows weight arrival ports later coflows [] left = coflows ≡ left
IsReleasedSoFar quarters flows weight arrival ports later coflows (r ∷ l) left =
    Contains coflows r.coflow × IsPlacedReleased quarters flows weight arrival ports later coflows r ×
    IsReleasedSoFar quarters flows weight arrival ports (entry_of r ∷ later) (without r.coflow coflows) l left

place_more : (quarters : ℕ) (flows : List Flow) (weight arrival : ℕ → ℕ) (ports : ℕ)
    (later : List Entry) (coflows : List ℕ) (l : List ReleasePlace) (left : List ℕ) (r : ReleasePlace) →
    IsReleasedSoFar quarters flows weight arrival ports later coflows l left → Contains left r.coflow →
    IsPlacedReleased quarters flows weight arrival ports (after (entries_of l) later) left r →
    IsReleasedSoFar quarters flows weight arrival ports later coflows (l ++ r ∷ []) (without r.coflow left)
place_more quarters flows weight arrival ports later coflows [] left r same has placed =
    subst (λ cs. Contains cs r.coflow × IsPlacedReleased quarters flows weight arrival ports later cs r × (without r.coflow cs ≡ without r.coflow left)) (sym same)
    (has, placed, refl)
place_more quarters flows weight arrival ports later coflows (x ∷ l) left r so_far has placed =
    (so_far.0, so_far.1, place_more quarters flows weight arrival ports (entry_of x ∷ later) (without x.coflow coflows) l left r so_far.2 has placed)

record Made (quarters : ℕ) (flows : List Flow) (weight arrival : ℕ → ℕ) (ports : ℕ) (later : List Entry) (coflows : List ℕ) (places : List ReleasePlace) : Type 0 where
  ordered : IsReleasedOrdered quarters flows weight arrival ports later places
  to : (c : ℕ) → Contains (front (entries_of places)) c → Contains coflows c
  from : (c : ℕ) → Contains coflows c → Contains (front (entries_of places)) c
  apart : Apart (front (entries_of places))
  inside : All (λ (e : Entry). e.port.number < ports) (entries_of places)

made_of : (quarters : ℕ) (flows : List Flow) (weight arrival : ℕ → ℕ) (ports : ℕ) (later : List Entry) (coflows : List ℕ) (l : List ReleasePlace) → Apart coflows →
    IsReleasedSoFar quarters flows weight arrival ports later coflows l [] → Made quarters flows weight arrival ports later coflows l
made_of quarters flows weight arrival ports later coflows [] apart none = record {
  ordered = tt;
  to = λ c h. absurd (nothing_in c h);
  from = λ c h. absurd (nothing_in c (subst (λ l. Contains l c) none h));
  apart = tt;
  inside = All-nil (λ (e : Entry). e.port.number < ports);
}
made_of quarters flows weight arrival ports later coflows (r ∷ l) apart so_far =
    let c = r.coflow in
    let before = entries_of l in
    let made = made_of quarters flows weight arrival ports (entry_of r ∷ later) (without c coflows) l (without_apart c coflows apart) so_far.2 in
    let out = λ (h : Contains (front before) c). without_out c coflows apart (made.to c h) in
    let all : Apart (front (entries_of (r ∷ l))) = (out, made.apart) in
    let to : (d : ℕ) → Contains (front (entries_of (r ∷ l))) d → Contains coflows d = λ d h. elim (first_or_tail c (front before) d h) [
      | inl same ↦ subst (λ z. Contains coflows z) same so_far.0
      | inr h' ↦ without_in c coflows d (made.to d h')
    ] in
    let from : (d : ℕ) → Contains coflows d → Contains (front (entries_of (r ∷ l))) d = λ d h. elim (cases_eq c d) [
      | inl same ↦ subst (λ z. Contains (front (entries_of (r ∷ l))) z) same (in_first c (front before))
      | inr ne ↦ in_tail c (front before) d (made.from d (without_keeps c coflows d ne h))
    ] in
    record {
      ordered = (
        same_step quarters flows weight arrival ports later coflows (front (entries_of (r ∷ l))) r
            (λ port. same_members (λ d. load flows d port) coflows (front (entries_of (r ∷ l))) apart all from to) to from so_far.1,
        made.ordered,
      );
      to = to;
      from = from;
      apart = all;
      inside = All-cons (λ (x : Entry). x.port.number < ports) (entry_of r) before so_far.1.port.in_range made.inside;
    }

ordering_made : (by : Threshold) (i : Instance) (arrival : ℕ → ℕ) (l : List ReleasePlace) → Apart i.coflows →
    IsReleasedSoFar (quarters_of by) i.flows i.weight arrival i.ports [] i.coflows l [] →
    IsReleasedBy by i arrival l
ordering_made by i arrival l apart so_far =
    let made = made_of (quarters_of by) i.flows i.weight arrival i.ports [] i.coflows l apart so_far in
    record {
      certificate = record {
        once = pairs_from_apart (front (entries_of l)) made.apart;
        coflow = all_of_members (Contains i.coflows) (front (entries_of l)) made.to;
        all = all_of_members (Contains (front (entries_of l))) i.coflows made.from;
        port = made.inside;
      };
      ordered = made.ordered;
    }

-- ---- the choice over the table is the step

abbrev pub HasArrivalsOn : (ℕ → ℕ) → List ℕ → Type 0
HasArrivalsOn arrival arrivals = (c : ℕ) → c < length arrivals → arrival c ≡ slice_index arrivals c

is_latest : (arrival : ℕ → ℕ) (arrivals : List ℕ) (left : List ℕ) (waiting : List Bool) (m : ℕ) → HasArrivalsOn arrival arrivals →
    ((c : ℕ) → Contains left c → (c < length arrivals) × (is_present waiting c ≡ true)) → Contains left m → IsLatestWaiting waiting arrivals m → IsLatest arrival left m
is_latest arrival arrivals left waiting m arrives members has latest =
    let mine = arrives m (members m has).0 in
    record {
      member = has;
      latest = λ other in'.
          let theirs = arrives other (members other in').0 in
          elim (latest.latest other (members other in').1) [
            | inl less ↦ inl (omega (arith, less, mine, theirs))
            | inr same ↦ inr (omega (arith, same.0, mine, theirs), same.1)
          ];
    }

is_released : (quarters : ℕ) (i : Instance) (arrival : ℕ → ℕ)
    (later : List Entry) (left : List ℕ) (t : LoadTable) (arrivals residuals : List ℕ) (waiting : List Bool) (x : ReleasePlace) →
    IsReady t residuals waiting → Stands i later left t residuals waiting → length arrivals ≡ t.coflows → HasArrivalsOn arrival arrivals →
    IsReleaseChosen quarters t arrivals residuals waiting x → Contains left x.coflow × IsPlacedReleased quarters i.flows i.weight arrival i.ports later left x
is_released quarters i arrival later left t arrivals residuals waiting x ready stands len arrives chosen =
    let inside = λ (c : ℕ) (here : is_present waiting c ≡ true). stands.all c (omega (arith, present_below waiting c here, ready.waiting_len)) here in
    let has = inside x.coflow chosen.waits in
    let total = left_total i later left t residuals waiting ready stands in
    let here = total x.port chosen.port.in_range in
    let m = chosen.latest in
    let in_m = inside m chosen.is_latest.waits in
    let members : (c : ℕ) → Contains left c → (c < length arrivals) × (is_present waiting c ≡ true) = λ c h. (omega (arith, (stands.members c h).0, len), (stands.members c h).1) in
    let time = arrives m (members m in_m).0 in
    let late = λ (l : IsLate quarters (load_of_all i.flows left x.port) (arrival m)). subst₂ (IsLate quarters) (sym here) time l in
    let late_there = λ (l : IsLate quarters (total_at t x.port) (slice_index arrivals m)). subst₂ (IsLate quarters) here (sym time) l in (
      has,
      record {
        port = first_greatest i left t x.port stands.ports total chosen.port;
        latest = m;
        is_latest = is_latest arrival arrivals left waiting m arrives members in_m chosen.is_latest;
        late_coflow = λ l. chosen.late_coflow (late l);
        late_y = λ l. chosen.late_y (late l);
        early = λ early.
            let early' = λ (l : IsLate quarters (total_at t x.port) (slice_index arrivals m)). early (late_there l) in
            placed_busy i later left t residuals waiting (entry_of x) stands has chosen.port.in_range (chosen.early_coflow early') (chosen.early_y early');
        z_is = chosen.z_is ∙ ap (λ n. n - x.y * load_at t x.coflow x.port) (stands.residual x.coflow has) ∙
            ap (λ n. residual i.flows i.weight later x.coflow - x.y * n) (stands.load x.coflow x.port has chosen.port.in_range);
      },
    )

-- ---- all places so far

pub record RunSoFar (quarters : ℕ) (i : Instance) (arrival : ℕ → ℕ) (l : List ReleasePlace) (t : LoadTable) (residuals : List ℕ) (waiting : List Bool) : Type 0 where
  pub left : List ℕ
  pub placed : IsReleasedSoFar quarters i.flows i.weight arrival i.ports [] i.coflows l left
  pub stands : Stands i (after (entries_of l) []) left t residuals waiting

run_more : (quarters : ℕ) (i : Instance) (arrival : ℕ → ℕ)
    (l : List ReleasePlace) (t t' : LoadTable) (arrivals residuals residuals' : List ℕ) (waiting : List Bool) (x : ReleasePlace) →
    IsReady t residuals waiting → RunSoFar quarters i arrival l t residuals waiting → length arrivals ≡ t.coflows → HasArrivalsOn arrival arrivals →
    IsReleaseChosen quarters t arrivals residuals waiting x → Pays t x.port x.y residuals residuals' → DropsCoflow t t' x.coflow →
    RunSoFar quarters i arrival (l ++ x ∷ []) t' residuals' (slice_set waiting x.coflow false)
run_more quarters i arrival l t t' arrivals residuals residuals' waiting x ready so_far len arrives chosen pays drops =
    let later = after (entries_of l) [] in
    let (has, step) = is_released quarters i arrival later so_far.left t arrivals residuals waiting x ready so_far.stands len arrives chosen in
    let names = map-append entry_of l (x ∷ []) in
    let stands = stands_more i later so_far.left t t' residuals residuals' waiting (entry_of x) so_far.stands chosen.waits chosen.port.in_range pays drops in
    record {
      left = without x.coflow so_far.left;
      placed = place_more quarters i.flows i.weight arrival i.ports [] i.coflows l so_far.left x so_far.placed has step;
      stands = subst (λ es. Stands i es (without x.coflow so_far.left) t' residuals' (slice_set waiting x.coflow false))
          (sym (ap (λ es. after es []) names ∙ after_more (entries_of l) (entry_of x) [])) stands;
    }

-- ---- the places of a loop that fills them from the last on

pub record PlacesSoFar (quarters : ℕ) (t₀ t : LoadTable) (arrivals residuals₀ residuals : List ℕ) (waiting₀ waiting : List Bool)
    (places : List ReleasePlace) (number : ℕ) : Type 0 where
  pub size : IsSameSize t₀ t
  pub ready : IsReady t residuals waiting
  pub waits : count_by (λ w. w) waiting ≡ number
  pub run : (i : Instance) (arrival : ℕ → ℕ) → Stands i [] i.coflows t₀ residuals₀ waiting₀ → HasArrivalsOn arrival arrivals →
      RunSoFar quarters i arrival (reverse (drop number places)) t residuals waiting

pub places_none : (quarters : ℕ) (t : LoadTable) (arrivals residuals : List ℕ) (waiting : List Bool) (places : List ReleasePlace) → IsReady t residuals waiting →
    length places ≡ count_by (λ w. w) waiting → PlacesSoFar quarters t t arrivals residuals residuals waiting waiting places (length places)
places_none quarters t arrivals residuals waiting places ready count = record {
  size = record { coflows = refl; ports = refl };
  ready = ready;
  waits = sym count;
  run = λ i arrival stands arrives.
      subst (λ ps. RunSoFar quarters i arrival (reverse ps) t residuals waiting) (sym (drop_all (length places) places (omega arith))) record {
        left = i.coflows;
        placed = refl;
        stands = stands;
      };
}

pub places_more : (quarters : ℕ) (t₀ t t' : LoadTable) (arrivals residuals₀ residuals residuals' : List ℕ) (waiting₀ waiting waiting' : List Bool)
    (places : List ReleasePlace) (number : ℕ) (x : ReleasePlace) → PlacesSoFar quarters t₀ t arrivals residuals₀ residuals waiting₀ waiting places (number + 1) →
    number < length places → length arrivals ≡ t₀.coflows →
    IsReleaseChosen quarters t arrivals residuals waiting x → Pays t x.port x.y residuals residuals' → length residuals' ≡ length residuals →
    waiting' ≡ slice_set waiting x.coflow false → DropsCoflow t t' x.coflow →
    PlacesSoFar quarters t₀ t' arrivals residuals₀ residuals' waiting₀ waiting' (slice_set places number x) number
places_more quarters t₀ t t' arrivals residuals₀ residuals residuals' waiting₀ waiting waiting' places number x so_far lt count chosen pays len marks drops =
    subst (λ w. PlacesSoFar quarters t₀ t' arrivals residuals₀ residuals' waiting₀ w (slice_set places number x) number) (sym marks) record {
      size = record { coflows = drops.size.coflows ∙ so_far.size.coflows; ports = drops.size.ports ∙ so_far.size.ports };
      ready = ready_more t t' residuals residuals' waiting (entry_of x) so_far.ready pays len drops;
      waits = one_less waiting x.coflow number chosen.waits so_far.waits;
      run = λ i arrival stands arrives.
          let more = run_more quarters i arrival (reverse (drop (number + 1) places)) t t' arrivals residuals residuals' waiting x so_far.ready
          (so_far.run i arrival stands arrives)
          (count ∙ sym so_far.size.coflows) arrives chosen pays drops in
          let turned : reverse (drop number (slice_set places number x)) ≡ reverse (drop (number + 1) places) ++ x ∷ [] = ap reverse (drop-set places number x lt) ∙
          reverse-append (x ∷ []) (drop (number + 1) places) in
          subst (λ l. RunSoFar quarters i arrival l t' residuals' (slice_set waiting x.coflow false)) (sym turned) more;
    }

pub order_of_places : (by : Threshold) (i : Instance) (arrival : ℕ → ℕ)
    (t₀ t : LoadTable) (arrivals residuals₀ residuals : List ℕ) (waiting₀ waiting : List Bool) (places : List ReleasePlace) →
    PlacesSoFar (quarters_of by) t₀ t arrivals residuals₀ residuals waiting₀ waiting places 0 → Stands i [] i.coflows t₀ residuals₀ waiting₀ → HasArrivalsOn arrival arrivals →
    IsReleasedBy by i arrival (reverse places)
order_of_places by i arrival t₀ t arrivals residuals₀ residuals waiting₀ waiting places so_far stands arrives =
    let run = so_far.run i arrival stands arrives in
    let empty = none_left run.left waiting (λ c has. (run.stands.members c has).1) so_far.waits in
    let placed = subst (λ cs. IsReleasedSoFar (quarters_of by) i.flows i.weight arrival i.ports [] i.coflows (reverse places) cs) empty run.placed in
    ordering_made by i arrival (reverse places) (apart_from_pairs i.coflows stands.distinct) placed

-- ---- before the first place

pub ready_first : (t : LoadTable) (weights residuals : List ℕ) → t.coflows ≤ 4096 → length residuals ≡ t.coflows → ((c : ℕ) → c < t.coflows → slice_index weights c ≤ 2 ^ 32) →
    ((port : Port) → port.number < t.ports → total_at t port ≤ 2 ^ 40) → ((c : ℕ) → c < t.coflows → slice_index residuals c ≡ slice_index weights c * 2 ^ 40) →
    IsReady t residuals (replicate t.coflows true)
ready_first t weights residuals few len weights_fit totals budgets = record {
  coflows_limit = few;
  residuals_len = len;
  waiting_len = length-replicate t.coflows true;
  residuals_fit = λ c lc. omega (arith, budgets c lc, budget_fits (slice_index weights c) (weights_fit c lc));
  totals_fit = totals;
  loads_wait = λ c port lc lp out. absurd (true≢false (sym (get_or-replicate t.coflows c true false lc) ∙ out));
}

pub stands_first : (i : Instance) (arrival : ℕ → ℕ) (t : LoadTable) (weights arrivals residuals : List ℕ) → IsOfTable i arrival t weights arrivals →
    ((c : ℕ) → c < t.coflows → slice_index residuals c ≡ slice_index weights c * 2 ^ 40) → Stands i [] i.coflows t residuals (replicate t.coflows true)
stands_first i arrival t weights arrivals residuals of budgets =
    let below = λ (c : ℕ) (has : Contains i.coflows c). in_range t.coflows c (subst (λ cs. Contains cs c) of.coflows has) in
    record {
      ports = of.ports;
      distinct = pairs_from_apart i.coflows (subst Apart (sym of.coflows) (range_apart t.coflows));
      members = λ c has. (below c has, get_or-replicate t.coflows c true false (below c has));
      all = λ c lc mark. subst (λ cs. Contains cs c) (sym of.coflows) (below_in t.coflows c lc);
      load = λ c port has lp. of.load c port (below c has) lp;
      residual = λ c has. omega (arith, budgets c (below c has), ap (λ n. n * 2 ^ 40) (of.weight c (below c has)));
    }

pub all_wait : (n : ℕ) → count_by (λ w. w) (replicate n true) ≡ n
all_wait zero = refl
all_wait (suc n) = omega (arith, sum_by-cons (λ w. cond w 1 0) true (replicate n true), all_wait n)
