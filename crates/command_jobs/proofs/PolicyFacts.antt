-- The first ranker of a bench that has a name, and the record of its replay.
use Rattle.std.proofs.Common.{◌≡◌, ◌≢◌, ℕ, ◌+◌, ◌<◌, ◌≤◌, inl, inr, List, ◌∷◌, Bool, true, false, Option, Some, None, Result, Ok, Err, drop, get_or, length, map, refl, sym, ap, subst, ◌∙◌, arith}
use Rattle.std.specs.Prelude.{◌⊎◌, All, IfOk, IfSome, slice_index}
use Rattle.std.specs.List.{slice_index_or}
use Rattle.std.proofs.lemmas.Bool.{cases_eq, cases_lt}
use Rattle.std.proofs.lemmas.List.{get_or-drop, get_or-map, length-map}
use Rattle.coflow_units.specs.declared.limits.TheConstants.{MAX_ARRIVAL}
use Rattle.coflow_units.specs.Flows.{IsDistinct}
use Rattle.command_words.specs.Jobs.{trace_name}
use Rattle.command_words.specs.Jobs.Job.{record_job}
use Rattle.command_words.specs.Line.{Text}
use Rattle.command_words.specs.Words.{Said}
use Rattle.flow_table.specs.Table.{TableFacts, instance_of}
use Rattle.flow_table.proofs.TablesOne.{tables_one}
use Rattle.online_check.specs.Sound.{IsSoundOnline}
use Rattle.online_text.specs.declared.value.Online.{Online}
use Rattle.outside.specs.Shelf.{Told, bytes_of}
use Rattle.rankers.specs.Kinds.{bssi}
use Rattle.rankers.specs.Meaning.{Meaning}
use Rattle.replays.specs.declared.record.Recorded.{Recorded}
use Rattle.replays.specs.declared.record.Recorded.TheVariants as recorded
use Rattle.replays.specs.declared.rows.ReplayFault.{ReplayFault}
use Rattle.replays.specs.declared.rows.ReplayFault.TheVariants as replay_fault
use Rattle.replays.specs.Moments.{Input}
use Rattle.replays.specs.Recorded.{HasForm, IsRecord, IsRecorded}
use Rattle.release_bound.specs.Release.{IsReleased}
use Rattle.replays.specs.Replayed.{IsInput as IsReplayInput, IsTooManyFor, cost_of_slots}
use Rattle.trace_reader.specs.Trace.{trace_of}
use Rattle.command_files.specs.declared.status.Status.{Status}
use Rattle.command_files.specs.declared.status.Status.TheVariants as status
use Rattle.command_files.specs.Causes.{FilesGiveTable}
use Rattle.command_files.specs.Inputs.{Gives, IsInput, bytes_if}
use Rattle.command_files.proofs.InputFacts.{weights_one}
use Rattle.command_jobs.specs.Check.{status_for}
use Rattle.command_jobs.specs.Online.{IsEpochsCause}
use Rattle.command_jobs.specs.Publishing.{PublishesFew}
use Rattle.command_jobs.specs.Record.{IsPolicy, IsPolicyAt, IsRightIfRun, IsToldText, PolicyOf, RecordPublishesMore}
use Rattle.command_jobs.specs.Replay.{IsStatusOfReplay, replay_input}

-- none of so many has the name
abbrev pub AreOthers : List Meaning → List ℕ → ℕ → Type 0
AreOthers bench name n = (k : ℕ) (d : Meaning) → k < n → (slice_index_or bench k d).name ≢ name

module _ {X : Type 0} (meaning : X → Meaning) (bench : List X) (name : List ℕ) (place : ℕ) (b : X) where
  here : place < length bench → get_or bench place b ≡ b → (d : Meaning) → slice_index_or (map meaning bench) place d ≡ meaning b
  here lt is d = get_or-map meaning bench place b d lt ∙ ap meaning is

  pub stands_at : place < length bench → get_or bench place b ≡ b → (meaning b).name ≡ name → AreOthers (map meaning bench) name place →
      IsPolicyAt (map meaning bench) name place
  stands_at lt is named others = record {
    inside = omega (arith, lt, length-map bench meaning);
    name_is = λ d. ap (λ (m : Meaning). m.name) (here lt is d) ∙ named;
    first = others;
  }

  pub others_more : place < length bench → get_or bench place b ≡ b → (meaning b).name ≢ name → AreOthers (map meaning bench) name place →
      AreOthers (map meaning bench) name (place + 1)
  others_more lt is differ others = λ k d low. elim (cases_eq k place) [
    | inl same ↦ λ e. differ (sym (ap (λ (m : Meaning). m.name) (here lt is d)) ∙ ap (λ n. (slice_index_or (map meaning bench) n d).name) (sym same) ∙ e)
    | inr other ↦ others k d (omega (arith, low, other))
  ]

  -- the ranker that was taken off is the one of the name
  pub taken_is_policy : (new : List X) → IsPolicyAt (map meaning bench) name place → drop place bench ≡ b ∷ new → IsPolicy (map meaning bench) name (meaning b)
  taken_is_policy new stands is =
      let lt : place < length bench = omega (arith, stands.inside, length-map bench meaning) in
      let e : place ≡ place + 0 = omega arith in
      let at : get_or bench place b ≡ b = ap (λ k. get_or bench k b) e ∙ sym (get_or-drop place bench 0 b) ∙ ap (λ (xs : List X). get_or xs 0 b) is in
      record { place = place; stands = stands; here = λ d. here lt at d }

-- there is one of the name
pub not_lacking : (bench : List Meaning) (name : List ℕ) (place : ℕ) → IsPolicyAt bench name place → All (λ (m : Meaning). m.name ≢ name) bench → ⊥
not_lacking bench name place stands none =
    none place bssi stands.inside (stands.name_is bssi)

-- the same of a list that was lent
pub not_lacking_of : {X : Type 0} (meaning : X → Meaning) (lent bench : List X) (name : List ℕ) (place : ℕ) → lent ≡ bench → IsPolicyAt (map meaning lent) name place →
    All (λ (m : Meaning). m.name ≢ name) (map meaning bench) → ⊥
not_lacking_of meaning lent bench name place same stands none =
    not_lacking (map meaning bench) name place (subst (λ xs. IsPolicyAt (map meaning xs) name place) same stands) none

pub taken_of : {X : Type 0} (meaning : X → Meaning) (lent bench : List X) (name : List ℕ) (place : ℕ) (b : X) (new : List X) → lent ≡ bench →
    IsPolicyAt (map meaning lent) name place → drop place bench ≡ b ∷ new → IsPolicy (map meaning bench) name (meaning b)
taken_of meaning lent bench name place b new same stands is =
    taken_is_policy meaning bench name place b new (subst (λ xs. IsPolicyAt (map meaning xs) name place) same stands) is

-- and one alone
pub policy_one : (bench : List Meaning) (name : List ℕ) (a b : Meaning) → IsPolicy bench name a → IsPolicy bench name b → a ≡ b
policy_one bench name a b x y = elim (cases_lt x.place y.place) [
  | inl low ↦ absurd (y.stands.first x.place bssi low (x.stands.name_is bssi))
  | inr high ↦ elim (cases_lt y.place x.place) [
    | inl low ↦ absurd (x.stands.first y.place bssi low (y.stands.name_is bssi))
    | inr other ↦
        let same : x.place ≡ y.place = omega (arith, high, other) in
        sym (x.here bssi) ∙ ap (λ k. slice_index_or bench k bssi) same ∙ y.here bssi
  ]
]

-- ---- the files give one table and one list of weights

module _ (told : Option Told) (said : Said) (bench : List Meaning) (policy : Text) (table : TableFacts) (weights : List ℕ)
    (input : IsInput told (trace_name said.job) said.weights said.unit table weights) (ranker : Meaning) (named : IsPolicy bench policy ranker) where
  -- where the ranker publishes no more orders on the table than may be, it does not on that of the files
  pub policy_few : (trace : Text) → ((count : ℕ) → IsTooManyFor (replay_input table weights said) ranker count → ⊥) →
      IfSome told (PublishesFew bench (record_job trace policy) said)
  policy_few trace few = by told input.gives
    where
      by : (t : Option Told) → IfSome t (λ s. Gives (bytes_of s (trace_name said.job)) (bytes_if s said.weights) said.unit table weights) →
          IfSome t (PublishesFew bench (record_job trace policy) said)
      by None gives = tt
      by (Some t) gives = λ count over.
          let file = bytes_if t said.weights in
          let same : table ≡ over.given.table =
          tables_one (trace_of (bytes_of t (trace_name said.job))) said.unit table over.given.table input.table_fits over.fits gives.table_is over.given.gives.table_is in
          let alike : weights ≡ over.given.list =
          weights_one file (trace_of (bytes_of t (trace_name said.job))).coflows weights over.given.list gives.weights_are over.given.gives.weights_are in
          few count
          (subst (λ (x : TableFacts). IsTooManyFor (replay_input x weights said) ranker count) (sym same)
          (subst (λ (w : List ℕ). IsTooManyFor (replay_input over.given.table w said) ranker count) (sym alike)
          (subst (λ (r : Meaning). IsTooManyFor (replay_input over.given.table over.given.list said) r count) (policy_one bench policy over.ranker ranker over.named named) over.more)))

  -- and where it does so, it does on that of the files
  pub policy_more : (count : ℕ) → IfSome told (FilesGiveTable said) → IsTooManyFor (replay_input table weights said) ranker count →
      IfSome told (RecordPublishesMore bench policy said count)
  policy_more count given more = by told input.gives given
    where
      by : (t : Option Told) → IfSome t (λ s. Gives (bytes_of s (trace_name said.job)) (bytes_if s said.weights) said.unit table weights) → IfSome t (FilesGiveTable said) →
          IfSome t (RecordPublishesMore bench policy said count)
      by None gives given = tt
      by (Some t) gives given = record {
        given = record { table = table; list = weights; gives = gives; fits = given.fits };
        fits = input.table_fits;
        ranker = ranker;
        named = named;
        more = more;
      }

  -- the text is that of the record, or of the report of the ranker alone
  pub policy_text : (r : Recorded) (s : Status) (text : List ℕ) → IsRecorded (replay_input table weights said) ranker r → HasForm r →
      IsRightIfRun (replay_input table weights said) r → IsToldText r s text →
      (yes : Bool) × (s ≡ status_for yes) × PolicyOf told said policy bench yes text
  policy_text (recorded.Run o) s text is form right (ends, says) = (
    true,
    ends,
    record { table = table; weights = weights; input = input; ranker = ranker; named = named; online = o; record_is = is; form = form; right = right; text_is = says },
  )
  policy_text (recorded.Unfit r) s text is form right (ends, says) = (
    false,
    ends,
    record { table = table; weights = weights; input = input; ranker = ranker; named = named; report = r; reported = is; text_is = says },
  )

-- ---- the answer of a law

abbrev pub SoundLaw : Type 0
SoundLaw = (x : Input) (ranker : Meaning) (o : Online) → IsReplayInput x → IsDistinct x.table.ids → IsRecord x ranker o →
    IsSoundOnline (instance_of x.table x.weights) (slice_index x.arrivals) x.table.ids o

abbrev pub TotalLaw : Type 0
TotalLaw = (x : Input) (ranker : Meaning) (o : Online) (slots : List (List ℕ)) → IsReplayInput x → IsRecord x ranker o →
    IsReleased x.table.flows (slice_index x.arrivals) slots → o.total ≤ cost_of_slots x slots

pub right_if_run : SoundLaw → TotalLaw → (x : Input) (ranker : Meaning) (r : Recorded) → IsReplayInput x → IsDistinct x.table.ids → IsRecorded x ranker r → IsRightIfRun x r
right_if_run sound total x ranker (recorded.Run o) input ids is =
    record { sound = sound x ranker o input ids is; bounds = λ slots released. total x ranker o slots input is released }
right_if_run sound total x ranker (recorded.Unfit r) input ids is = tt

pub right_if_ok : SoundLaw → TotalLaw → (x : Input) (ranker : Meaning) (r : Result Recorded ReplayFault) → IsReplayInput x → IsDistinct x.table.ids →
    IfOk r (IsRecorded x ranker) → IfOk r (IsRightIfRun x)
right_if_ok sound total x ranker (Ok v) input ids is = right_if_run sound total x ranker v input ids is
right_if_ok sound total x ranker (Err e) input ids is = tt

-- an arrival that is within its limit
pub arrivals_within : (arrivals : List ℕ) → All (λ a. a ≤ MAX_ARRIVAL) arrivals → All (λ a. a ≤ MAX_ARRIVAL + 1) arrivals
arrivals_within arrivals all k d lt = omega (arith, all k d lt)

-- the status of a fault of a record, or another cause
pub record_cause : (fault : ReplayFault) (s : Status) (Q R : Status → Type 0) (E : ℕ → Type 0) → IsStatusOfReplay fault s → Q status.NoMemory →
    ((count : ℕ) → fault ≡ replay_fault.TooMany count → E count) → Q s ⊎ (IsEpochsCause E s ⊎ R s)
record_cause (replay_fault.TooMany count) s Q R E is none many = subst (λ (x : Status). Q x ⊎ (IsEpochsCause E x ⊎ R x)) (sym is) (inr (inl (refl, many count refl)))
record_cause replay_fault.NoMemory s Q R E is none many = subst (λ (x : Status). Q x ⊎ (IsEpochsCause E x ⊎ R x)) (sym is) (inl none)
