-- What a command did on the wires.
use Rattle.std.proofs.Common.{◌≡◌, ℕ, ◌<◌, inl, inr, List, [], ◌∷◌, length, subst, sym, arith}
use Rattle.std.specs.Prelude.{◌⊎◌, Option}
use Rattle.command_words.specs.Jobs.{Job}
use Rattle.command_words.specs.Jobs.Job.{audit_job, check_job, classes_job, compare_job, live_job, make_job, online_job, plan_job, record_job, replay_job, serve_job}
use Rattle.command_words.specs.Line.{Text}
use Rattle.command_words.specs.Words.{IsWords, Said}
use Rattle.flow_table.specs.Table.{TableFacts}
use Rattle.outside.specs.Shelf.{Told}
use Rattle.rankers.specs.Meaning.{Meaning}
use Rattle.command_files.specs.declared.status.Status.{Status}
use Rattle.command_files.specs.declared.status.Status.TheVariants as status
use Rattle.sincronia_cli.specs.Causes.{CauseBy, HasCauseOf}
use Rattle.command_files.specs.Ends.{IsPastFiles, IsWireFault}
use Rattle.sincronia_cli.specs.Outcome.{HasText, IsOutcome, OutcomeBy}
use Rattle.command_jobs.specs.Serving.{AreStill, MayHaveSent, Sends, SendsOnly, Serves, Service, Stops, WireFailed}
use Rattle.command_jobs.specs.Serving.Service.{online_of, plan_of, script_of}
use Rattle.sincronia_cli.proofs.BenchFacts.{cause_has_no_text}
use Rattle.sincronia_cli.proofs.CompleteFacts.{NoneFailed}

-- ---- before its text was there, all files were read only where a wire failed

past_without : (s : Status) → (HasText s → ⊥) → IsPastFiles s → IsWireFault s
past_without status.Ok none past = none tt
past_without status.No none past = none tt
past_without (status.WriteFault count) none past = none tt
past_without (status.WireFault port count) none past = tt
past_without status.Usage none past = past
past_without status.UnknownPolicy none past = past
past_without (status.BadTrace fault) none past = past
past_without (status.BadWeights fault) none past = past
past_without (status.BadReport line) none past = past
past_without (status.BadScript line field) none past = past
past_without (status.BadOrder fault) none past = past
past_without (status.Limit which count) none past = past
past_without (status.ReadFault count) none past = past
past_without status.NoMemory none past = past

pub past_by_wire : (F : ℕ → Service → Type 0) (bench : List Meaning) (before now : ℕ) (old new : Option Told) (said : Said) (s : Status) →
    HasCauseOf F bench before now old new said s →
    IsPastFiles s → IsWireFault s
past_by_wire F bench before now old new said s cause past = past_without s (cause_has_no_text F bench before now old new said s cause) past

-- ---- by the words

module _ {W : Type 0} (runs : W → Option (List (ℕ × ℕ × ℕ))) (before after : List W) (words : List Text) (said : Said) (told : Option Told) where
  pub sent_by : IsWords words said → (after ≡ before) ⊎ Serves (Sends runs before after) said.job told said → SendsOnly runs before after told words
  sent_by is (inl same) = inl same
  sent_by is (inr serves) = inr (said, is, serves)

-- a status with which nothing may have been sent comes with wires that are as before
module _ {W : Type 0} (before after : List W) (S : TableFacts → List (List ℕ) → Type 0) (P : Service → Type 0) where
  well : (s : Status) → s ≡ status.Ok → (MayHaveSent s → ⊥) → after ≡ before
  well s is none = absurd (none (subst MayHaveSent (sym is) tt))

  unsent_by : (k : Job) (told : Option Told) (said : Said) (bench : List Meaning) (s : Status) (text : List ℕ) → OutcomeBy S k told said bench s text →
      (after ≡ before) ⊎ Serves P k told said → (MayHaveSent s → ⊥) → after ≡ before
  unsent_by (plan_job trace) told said bench s text (is, plan) sent none = well s is none
  unsent_by (make_job seed) told said bench s text (is, made) sent none = well s is none
  unsent_by (check_job trace report) told said bench s text outcome (inl same) none = same
  unsent_by (check_job trace report) told said bench s text outcome (inr serves) none = absurd serves
  unsent_by (compare_job trace) told said bench s text (is, compares) sent none = well s is none
  unsent_by (classes_job trace) told said bench s text (is, classes) sent none = well s is none
  unsent_by (serve_job trace order) told said bench s text (is, serves) sent none = well s is none
  unsent_by (online_job trace) told said bench s text (is, run) sent none = well s is none
  unsent_by (replay_job trace) told said bench s text (is, replays) sent none = well s is none
  unsent_by (record_job trace policy) told said bench s text outcome (inl same) none = same
  unsent_by (record_job trace policy) told said bench s text outcome (inr serves) none = absurd serves
  unsent_by (live_job trace script) told said bench s text (is, run) sent none = well s is none
  unsent_by (audit_job trace journal) told said bench s text outcome (inl same) none = same
  unsent_by (audit_job trace journal) told said bench s text outcome (inr serves) none = absurd serves

  pub unsent_for : (told : Option Told) (said : Said) (bench : List Meaning) (s : Status) (text : List ℕ) → IsOutcome S told said bench s text →
      (after ≡ before) ⊎ Serves P said.job told said → (MayHaveSent s → ⊥) → after ≡ before
  unsent_for told said bench s text outcome sent none = unsent_by said.job told said bench s text outcome sent none

module _ {W : Type 0} (faults : W → ℕ) (runs : W → Option (List (ℕ × ℕ × ℕ))) (before after : List W) where
  some_of : (ws : List W) (k : ℕ) → k < length ws → W
  some_of [] k lt = absurd (omega (arith, lt))
  some_of (w ∷ ws) k lt = w

  pub none_failed : AreStill faults before after → NoneFailed (Stops faults runs before after)
  none_failed still port (plan_of t ws) stops =
      let w = some_of before port stops.wire in
      still port w w stops.wire (stops.rose w w)
  none_failed still port (online_of t ws slot_ms every) (fails, stops) =
      let w = some_of before port fails.wire in
      still port w w fails.wire (fails.rose w w)
  none_failed still port (script_of t ws script) stops =
      let w = some_of before port stops.wire in
      still port w w stops.wire (stops.rose w w)

  module _ (bench : List Meaning) (words : List Text) (said : Said) (count_before count_now : ℕ) (old new : Option Told) (port count : ℕ) where
    of_job : (k : Job) → CauseBy (Stops faults runs before after) bench k count_before count_now old new said (status.WireFault port count) →
        (count ≡ 1) × Serves (Stops faults runs before after port) k old said
    of_job (plan_job trace) (inl none) = absurd none
    of_job (plan_job trace) (inr why) = why
    of_job (make_job seed) (inl none) = absurd none
    of_job (make_job seed) (inr why) = why
    of_job (check_job trace report) none = absurd none
    of_job (compare_job trace) none = absurd none
    of_job (classes_job trace) none = absurd none
    of_job (serve_job trace order) none = absurd none
    of_job (audit_job trace journal) none = absurd none
    of_job (online_job trace) (inl none) = absurd none
    of_job (online_job trace) (inr (inl why)) = why
    of_job (online_job trace) (inr (inr none)) = absurd none
    of_job (replay_job trace) (inl none) = absurd none
    of_job (replay_job trace) (inr none) = absurd none
    of_job (record_job trace policy) (inl none) = absurd none
    of_job (record_job trace policy) (inr (inl none)) = absurd none
    of_job (record_job trace policy) (inr (inr none)) = absurd none
    of_job (live_job trace script) (inl none) = absurd none
    of_job (live_job trace script) (inr why) = why

    pub wire_failed : (s : Status) → IsWords words said → HasCauseOf (Stops faults runs before after) bench count_before count_now old new said s →
        s ≡ status.WireFault port count → WireFailed faults runs before after old words port count
    wire_failed s is cause e =
        let (one, serves) = of_job said.job (subst (λ (x : Status). HasCauseOf (Stops faults runs before after) bench count_before count_now old new said x) e cause) in
        (one, said, is, serves)
