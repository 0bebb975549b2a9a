-- What is told of an online run of a table is right, and what was sent is told of the table.
use Rattle.std.proofs.Common.{◌≡◌, ◌∙◌, ℕ, ◌+◌, ◌^◌, ◌<◌, ◌≤◌, List, [], length, sym, ap, subst, arith, refl}
use Rattle.std.specs.Prelude.{◌++◌, ◌∷◌, All, Bool, false, if◌then◌else◌, Option, slice_index, true}
use Rattle.std.specs.List.{slice_index_or}
use Rattle.std.proofs.lemmas.List.{append_assoc}
use Rattle.std.proofs.lemmas.List.Elements.{All-append, All-cons, All-nil, All-weaker}
use Rattle.coflow_units.specs.Completion.{cost}
use Rattle.coflow_units.specs.Flows.{Instance}
use Rattle.coflow_units.specs.declared.limits.TheConstants.{MAX_ARRIVAL, MAX_OPTION_SLOTS, MAX_WEIGHT}
use Rattle.flow_table.specs.Table.{instance_of, IsTable, TableFacts}
use Rattle.release_bound.specs.declared.place.ReleasePlace.{ReleasePlace}
use Rattle.release_bound.specs.Release.{IsReleased, IsReleasedCertificate, IsReleasedFeasible, released_total}
use Rattle.release_bound.specs.ReleaseOrder.{IsReleasedOrdering}
use Rattle.online_text.specs.declared.value.Online.{Online}
use Rattle.online_text.specs.Text.{online_text}
use Rattle.online_check.specs.Arrivals.{arrivals_in}
use Rattle.journal.specs.declared.command.Entry.{Entry}
use Rattle.journal.specs.declared.opening.Opening.{Opening}
use Rattle.journal.specs.Journal.{is_version}
use Rattle.journal.specs.State.{IsOpening}
use Rattle.slot_runner.specs.Cuts.{HaveStopped}
use Rattle.slot_runner.proofs.WireSteps.{untouched}
use Rattle.online_runs.specs.Deeds.{IsOnlineRun, PublishesTooMany}
use Rattle.online_runs.specs.Input.{IsOnlineInput, online_opening}
use Rattle.online_runs.specs.Value.{epoch_at, epochs_from, IsOnlineOf}
use Rattle.online_runs.proofs.AtTheEnd.{run_serves, served_early}
use Rattle.online_runs.proofs.Right.{epoch_bound, is_right}
use Rattle.hall_online.specs.Serving.{HaveServed, IsOnlineBegun}
use Rattle.outside.specs.Rose.{Rose}
use Rattle.hall_online.specs.Told.{FailsAt, IsPublishing, PublishesMore, SendsSoFar, StopsShort, TellsOnline}

-- ---- the laws of online runs and of released certificates

-- no schedule that serves nobody before its arrival costs less than the total of a feasible released certificate
abbrev IsBound : Type 0
IsBound = (i : Instance) (arrival : ℕ → ℕ) (places : List ReleasePlace) (slots : List (List ℕ)) → IsReleasedCertificate i places → IsReleasedFeasible i.flows i.weight places →
    IsReleased i.flows arrival slots → released_total i.flows arrival i.ports places ≤ cost i.flows i.weight i.coflows slots

-- an online run that ends does not publish more orders than may be published
abbrev IsApart : Type 0
IsApart = (o : Opening) (arrivals : List ℕ) (every : ℕ) (journal : List Entry) (count : ℕ) → IsOnlineRun o arrivals every journal → PublishesTooMany o arrivals every count → ⊥

-- the released certificate is feasible
abbrev IsFeasible : Type 0
IsFeasible = (i : Instance) (arrival : ℕ → ℕ) (places : List ReleasePlace) → IsReleasedOrdering i arrival places → IsReleasedFeasible i.flows i.weight places

-- ---- the publishings of a journal

at_publishing : (o : Opening) (journal before : List Entry) (e : Entry) (later : List Entry) (b : Bool) → IsOpening o → journal ≡ before ++ (e ∷ later) → is_version e.reply ≡ b →
    All (IsPublishing o journal) (if b then epoch_at o before ∷ [] else [])
at_publishing o journal before e later true ok is version =
    All-cons (IsPublishing o journal) (epoch_at o before) []
    (record {
      before = before;
      published = e;
      later = later;
      journal_is = is;
      gives = version;
      told = refl;
      bounds = λ slots valid. epoch_bound o before slots ok valid;
    })
    (All-nil (IsPublishing o journal))
at_publishing o journal before e later false ok is version = All-nil (IsPublishing o journal)

-- each epoch that is told of the entries is that of a publishing
publishings_from : (o : Opening) (journal before entries : List Entry) → IsOpening o → journal ≡ before ++ entries → All (IsPublishing o journal) (epochs_from o before entries)
publishings_from o journal before [] ok is = All-nil (IsPublishing o journal)
publishings_from o journal before (e ∷ es) ok is =
    All-append (IsPublishing o journal) (if is_version e.reply then epoch_at o before ∷ [] else []) (epochs_from o (before ++ e ∷ []) es)
    (at_publishing o journal before e es (is_version e.reply) ok is refl)
    (publishings_from o journal (before ++ e ∷ []) es ok (is ∙ sym (append_assoc before (e ∷ []) es)))

-- ---- one table

module _ (t : TableFacts) (weights : List ℕ) (slot_ms every : ℕ) where
  abbrev o : Opening
  o = online_opening t weights

  abbrev arrivals : List ℕ
  arrivals = arrivals_in t slot_ms

  -- the table and the weights are within their limits, and an epoch has slots
  pub record MayServe : Type 0 where
    pub table : IsTable t
    pub each_weight : length weights ≡ length t.ids
    pub weight : All (λ w. (1 ≤ w) × (w ≤ MAX_WEIGHT)) weights
    pub epoch_some : 1 ≤ every
    pub epoch_fits : every ≤ MAX_OPTION_SLOTS

  pub may_serve : IsTable t → length weights ≡ length t.ids → All (λ w. (1 ≤ w) × (w ≤ MAX_WEIGHT)) weights → 1 ≤ every → every ≤ MAX_OPTION_SLOTS → MayServe
  may_serve table each weight some fits = record { table = table; each_weight = each; weight = weight; epoch_some = some; epoch_fits = fits }

  pub may_open : MayServe → IsOpening o
  may_open may = record {
    table = may.table;
    each_weight = may.each_weight;
    weight = may.weight;
    limit = omega arith;
    few_entries = omega (arith, may.table.few_coflows, may.table.few_flows);
  }

  -- the arrivals as they were listed, and as they were given on
  module _ (may : MayServe) (times given : List ℕ) (listed : times ≡ arrivals) (each : length times ≡ length t.ids) (fit : All (λ a. a ≤ MAX_ARRIVAL) times)
      (handed : given ≡ times) where
    same : given ≡ arrivals
    same = handed ∙ listed

    input : IsOnlineInput o arrivals every
    input = record {
      opening = may_open may;
      each_arrival = ap (λ (l : List ℕ). length l) (sym listed) ∙ each;
      arrivals_fit = subst (All (λ a. a ≤ 2 ^ 32)) listed (All-weaker (λ a. a ≤ MAX_ARRIVAL) (λ a. a ≤ 2 ^ 32) (λ a le. omega (arith, le)) times fit);
      epoch_some = may.epoch_some;
      epoch_fits = may.epoch_fits;
    }

    -- what is told of the run, with what holds of it besides
    pub told_of : IsApart → IsBound → IsFeasible → (P : Online → Type 0) (x : Online) (text : List ℕ) → IsOnlineOf o given every x → text ≡ online_text x → P x →
        (told : TellsOnline t weights slot_ms every text) × P told.online
    told_of apart total_law released_feasible P x text of is has =
        let run : IsOnlineOf o arrivals every x = subst (λ l. IsOnlineOf o l every x) same of in
        let feasible : IsReleasedFeasible t.flows (slice_index weights) run.places =
        released_feasible (instance_of t weights) (slice_index arrivals) run.places run.ordering in (
          record {
            online = x;
            run = run;
            text_is = is;
            few = λ count more. apart o arrivals every run.journal count run.run more.next;
            publishings = subst (All (IsPublishing o run.journal)) (sym run.epochs_are) (publishings_from o run.journal [] run.journal (may_open may) refl);
            released = subst (IsReleased t.flows (slice_index arrivals)) (sym run.runs_are.same) (run_serves o arrivals every run.journal input run.run);
            bounds = λ slots released.
                omega (arith, run.total_is, total_law (instance_of t weights) (slice_index arrivals) run.places slots run.ordering.certificate feasible released);
            right = λ once. is_right o arrivals every x input once run feasible;
          },
          has,
        )

    pub too_many : (count : ℕ) → PublishesTooMany o given every count → PublishesMore t weights slot_ms every count
    too_many count h =
        let next : PublishesTooMany o arrivals every count = subst (λ l. PublishesTooMany o l every count) same h in
        record { count_is = next.next.applies.is_next; next = next }

    pub sent_so_far : {W : Type 0} (runs : W → Option (List (ℕ × ℕ × ℕ))) (before after : List W) → HaveServed runs o given every before after →
        SendsSoFar runs before after t weights slot_ms every
    sent_so_far runs before after h =
        let had : HaveServed runs o arrivals every before after = subst (λ l. HaveServed runs o l every before after) same h in
        record {
          slots = had.slots;
          served = had.served;
          early = λ c k is. served_early o arrivals every had.slots c k input had.served is;
          sent = had.units;
        }

    pub stops_short : {W : Type 0} (runs : W → Option (List (ℕ × ℕ × ℕ))) (before after : List W) (port : ℕ) →
        HaveStopped runs (IsOnlineBegun o given every) o port before after → StopsShort runs before after port t weights slot_ms every
    stops_short runs before after port h = subst (λ l. HaveStopped runs (IsOnlineBegun o l every) o port before after) same h

  pub sent_nothing : {W : Type 0} (faults : W → ℕ) (runs : W → Option (List (ℕ × ℕ × ℕ))) (wires : List W) → t.ports ≤ length wires →
      SendsSoFar runs wires wires t weights slot_ms every
  sent_nothing faults runs wires long = record {
    slots = [];
    served = record { deeds = []; so_far = record { done = tt; legal = tt }; slots_are = refl };
    early = λ c k is. cc;
    sent = untouched faults runs t.flows [] t.ports wires long;
  }

pub in_range : (given times : List ℕ) → given ≡ times → All (λ a. a ≤ MAX_ARRIVAL) times → All (λ a. a ≤ MAX_ARRIVAL + 1) given
in_range given times same fit =
    subst (All (λ a. a ≤ MAX_ARRIVAL + 1)) (sym same) (All-weaker (λ a. a ≤ MAX_ARRIVAL) (λ a. a ≤ MAX_ARRIVAL + 1) (λ a le. omega (arith, le)) times fit)

pub fails_at : {W : Type 0} (faults : W → ℕ) (before after : List W) (t : TableFacts) (port : ℕ) → t.ports ≤ length before →
    (port < t.ports) × ((b a : W) → Rose (faults (slice_index_or before port b)) (faults (slice_index_or after port a))) → FailsAt faults before after port t
fails_at faults before after t port long (fits, rose) = record { fits = fits; wire = omega (arith, fits, long); rose = rose }
