-- What the lines of a script ask may be asked.
use Rattle.std.proofs.Common.{◌≡◌, ℕ, ◌+◌, ◌<◌, ◌==◌, true, false, List, [], ◌∷◌, length, map, refl, sym, subst, true≢false}
use Rattle.std.specs.Prelude.{All}
use Rattle.std.proofs.lemmas.Bool.{eqb-true}
use Rattle.std.proofs.lemmas.List.Elements.{All-append, All-cons, All-filter, All-head, All-map, All-nil, All-tail, filter_passes}
use Rattle.journal.specs.declared.command.Entry.{Entry}
use Rattle.journal.specs.declared.opening.Opening.{Opening}
use Rattle.journal.specs.Answer.{IsInRange}
use Rattle.journal.specs.Entries.{is_driving}
use Rattle.workload.specs.declared.script.Asked.{Asked}
use Rattle.workload.specs.declared.script.Asked.TheVariants.{Register, Withdraw, Publish, Pull, Reweigh}
use Rattle.workload.specs.declared.script.Round.{Round}
use Rattle.workload.specs.declared.script.Script.{Script}
use Rattle.workload.specs.declared.script.ScriptLine.{ScriptLine}
use Rattle.live_model.specs.Deeds.{Deed, DoesScript, Deeds}
use Rattle.live_model.specs.Script.{command_of, coflow_pulled, is_pull, lines_from, lines_of}
use Rattle.live_rounds.specs.Rounds.{MayAsk}
use Rattle.live_serving.specs.Ends.{MayBeAsked}
use Rattle.live_runs.specs.Names.{NamesCoflow}

module _ (o : Opening) (clients : ℕ) where
  abbrev MayStand : ℕ × ScriptLine → Type 0
  MayStand x = MayAsk o clients x.1

  lines_may : (n : ℕ) (rounds : List Round) → All (λ (r : Round). All (MayAsk o clients) r.lines) rounds → All MayStand (lines_from n rounds)
  lines_may n [] h = All-nil MayStand
  lines_may n (r ∷ rs) h =
      All-append MayStand (map (λ x. (n, x)) r.lines) (lines_from (n + 1) rs)
      (All-map MayStand (λ x. (n, x)) r.lines (All-head (λ (r : Round). All (MayAsk o clients) r.lines) r rs h))
      (lines_may (n + 1) rs (All-tail (λ (r : Round). All (MayAsk o clients) r.lines) r rs h))

-- the deed is of a line of this client, which may be asked
pub record IsOwnDeed (o : Opening) (clients client : ℕ) (d : Deed) : Type 0 where
  pub may : MayAsk o clients d.line
  pub own : d.line.client ≡ client

-- the line is one of this client's, and may be asked
abbrev IsOwnLine : Opening → ℕ → ℕ → ℕ × ScriptLine → Type 0
IsOwnLine o clients client x = MayAsk o clients x.1 × (x.1.client == client ≡ true)

abbrev lines_in : List Deed → List (ℕ × ScriptLine)
lines_in ds = map (λ (d : Deed). (d.round, d.line)) ds

own_deeds : (o : Opening) (clients client : ℕ) (ds : List Deed) → All (IsOwnLine o clients client) (lines_in ds) → All (IsOwnDeed o clients client) ds
own_deeds o clients client [] h = All-nil (IsOwnDeed o clients client)
own_deeds o clients client (d ∷ ds) h =
    let here = All-head (IsOwnLine o clients client) (d.round, d.line) (lines_in ds) h in
    All-cons (IsOwnDeed o clients client) d ds (record { may = here.0; own = eqb-true d.line.client client here.1 })
    (own_deeds o clients client ds (All-tail (IsOwnLine o clients client) (d.round, d.line) (lines_in ds) h))

pub deeds_may : (o : Opening) (script : Script) (journal : List Entry) (deeds : Deeds) → MayBeAsked o script → DoesScript script journal deeds → (client : ℕ) →
    All (IsOwnDeed o script.clients client) (deeds client)
deeds_may o script journal deeds may does client =
    let own = λ (x : ℕ × ScriptLine). x.1.client == client in
    let may_stand = All-filter own (MayStand o script.clients) (lines_of script) (lines_may o script.clients 0 script.rounds may) in
    let of_client = filter_passes own (lines_of script) in
    own_deeds o script.clients client (deeds client)
    (subst (All (IsOwnLine o script.clients client)) (sym (does.lines client)) (λ k d lt. (may_stand k d lt, of_client k d lt)))

-- ---- the commands of lines

pub asked_names : (o : Opening) (a : Asked) → IsInRange o (command_of a) → NamesCoflow (length o.table.ids) (command_of a)
asked_names o (Register c) h = h
asked_names o (Withdraw c) h = h
asked_names o Publish h = tt
asked_names o (Pull c) h = h
asked_names o (Reweigh c w) h = h.0

pub asked_quiet : (a : Asked) → is_driving (command_of a) ≡ false
asked_quiet (Register c) = refl
asked_quiet (Withdraw c) = refl
asked_quiet Publish = refl
asked_quiet (Pull c) = refl
asked_quiet (Reweigh c w) = refl

pub pulled_within : (o : Opening) (a : Asked) → IsInRange o (command_of a) → is_pull a ≡ true → coflow_pulled a < length o.table.ids
pulled_within o (Pull c) h e = h
pulled_within o (Register c) h e = absurd (true≢false (sym e))
pulled_within o (Withdraw c) h e = absurd (true≢false (sym e))
pulled_within o Publish h e = absurd (true≢false (sym e))
pulled_within o (Reweigh c w) h e = absurd (true≢false (sym e))
