-- What the closed hall tells of a run that has ended its work.
use Rattle.std.proofs.Common.{◌≡◌, ◌≢◌, ℕ, ◌+◌, ◌<◌, ◌≤◌, ◌==◌, inl, inr, ⊎_elim, cond, List, [], ◌∷◌, ◌++◌, length, map, filter, refl, sym, ap}
use Rattle.std.proofs.Common.{subst, ◌∙◌, arith, append-nil, append_assoc}
use Rattle.std.specs.Prelude.{All, if◌then◌else◌}
use Rattle.std.proofs.lemmas.Bool.{cases_lt, eq-eqb, ne_eqb}
use Rattle.std.proofs.lemmas.List.Elements.{All-append, All-cons, All-contains, All-head, All-nil, All-tail, All-weaker}
use Rattle.coflow_units.specs.Flows.{coflow_of}
use Rattle.journal.specs.declared.command.Command.TheVariants.{Open}
use Rattle.journal.specs.declared.command.Entry.{Entry}
use Rattle.journal.specs.declared.command.Reply.TheVariants.{NothingLeft}
use Rattle.journal.specs.declared.opening.Opening.{Opening}
use Rattle.journal.specs.Closed.{wire_of}
use Rattle.journal.specs.Fold.{state_of}
use Rattle.journal.specs.Journal.{entry, IsLegal}
use Rattle.journal.specs.State.{is_present, IsOpening, owed, State}
use Rattle.journal.proofs.Growth.{state_snoc}
use Rattle.journal.proofs.Replies.{nothing_is_left}
use Rattle.journal.proofs.Versions.{legal_there}
use Rattle.master_core.specs.Master.{MasterFacts}
use Rattle.turnstile.specs.Histories.{NoneAbove}
use Rattle.workload.specs.declared.script.Round.{Round}
use Rattle.workload.specs.declared.script.Script.{Script}
use Rattle.workload.specs.declared.script.ScriptLine.{ScriptLine}
use Rattle.client_session.specs.Closes.{HasEnded, IsClosed}
use Rattle.client_session.specs.Drivers.{who_of}
use Rattle.client_session.specs.Models.{DriverModel, HallModel, SessionModel}
use Rattle.client_session.specs.Own.{own_entries, OwnEntry}
use Rattle.client_session.proofs.OwnSteps.{own_above}
use Rattle.live_model.specs.Clause.{CarriesOut, Course}
use Rattle.live_model.specs.Deeds.{Deed}
use Rattle.live_model.specs.Levels.{AreLevelled, AreSessions, IsSpellBetween, Levels}
use Rattle.live_model.specs.Rounds.{Drives, Driving, Spell, spells_of}
use Rattle.live_model.specs.Script.{limit_of, lines_by, lines_from}
use Rattle.live_model.specs.Sent.{EndsWork, Wires}
use Rattle.live_model.proofs.Given.{journal_is_sent, legal_is_granted}
use Rattle.live_model.proofs.LevelSteps.{levels_keep_rounds}
use Rattle.live_model.proofs.Translated.{sessions_do_script, sessions_tell_versions}
use Rattle.live_rounds.specs.Acts.{Act, entries_in}
use Rattle.live_rounds.specs.Rounds.{MayAsk}
use Rattle.live_rounds.specs.Clients.{AreClients, IsClient}
use Rattle.live_rounds.specs.Drivers.{AreOpenings}
use Rattle.live_rounds.specs.Told.{acts_of, deeds_of}
use Rattle.live_rounds.proofs.ClientsTold.{clients_are_sessions, clients_keep_levels}
use Rattle.live_serving.specs.Driven.{StandsAfter}
use Rattle.live_rounds.specs.declared.answer.PullDone.{PullDone}
use Rattle.live_serving.specs.Ends.{HasRunOut, IsCarriedOut, MayBeAsked, pull_line}
use Rattle.live_serving.specs.Followed.{AreFollowed, IsFollowed, told_from}
use Rattle.live_serving.specs.Rounds.{AreRoundsDone}
use Rattle.live_serving.proofs.PullsTold.{client_pulls}
use Rattle.live_serving.proofs.LevelsOn.{cut_rises, levels_on, still_between}
use Rattle.live_serving.proofs.RoundsOn.{beside_spells, still_spells}

-- ---- sessions

abbrev IsNumbered : ℕ → SessionModel → Type 0
IsNumbered top s = s.number < top

numbers_below : (levels : Levels) (rounds : List Round) (calls client : ℕ) (ss : List SessionModel) (ts : List (List (ℕ × Act))) →
    AreFollowed levels rounds calls client ss ts → All (IsNumbered (client + length ss)) ss
numbers_below levels rounds calls client [] ts h = All-nil (IsNumbered (client + 0))
numbers_below levels rounds calls client (s ∷ ss) [] h = absurd h
numbers_below levels rounds calls client (s ∷ ss) (t ∷ ts) h =
    let top = client + length (s ∷ ss) in
    All-cons (IsNumbered top) s ss (omega (arith, h.0.number))
    (All-weaker (IsNumbered (client + 1 + length ss)) (IsNumbered top) (λ x lt. omega (arith, lt)) ss (numbers_below levels rounds calls (client + 1) ss ts h.1))

abbrev IsWithin : SessionModel → Type 0
IsWithin s = All (λ (e : OwnEntry). e.position ≤ s.position) s.own

own_within : (levels : Levels) (rounds : List Round) (calls client : ℕ) (ss : List SessionModel) (ts : List (List (ℕ × Act))) →
    AreFollowed levels rounds calls client ss ts → All IsWithin ss
own_within levels rounds calls client [] ts h = All-nil IsWithin
own_within levels rounds calls client (s ∷ ss) [] h = absurd h
own_within levels rounds calls client (s ∷ ss) (t ∷ ts) h =
    let x = h.0 in
    let own : s.own ≡ entries_in (acts_of t) = x.acted.own ∙ ap (λ l. l ++ entries_in (acts_of t)) x.new.own in
    All-cons IsWithin s ss
    (subst (All (λ (e : OwnEntry). e.position ≤ s.position)) (sym own)
    (All-weaker (λ (e : OwnEntry). (x.first.position < e.position) × (e.position ≤ s.position)) (λ (e : OwnEntry). e.position ≤ s.position) (λ e w. w.1) (entries_in (acts_of t))
    x.acted.positions))
    (own_within levels rounds calls (client + 1) ss ts h.1)

as_many_told : (levels : Levels) (rounds : List Round) (calls client : ℕ) (ss : List SessionModel) (ts : List (List (ℕ × Act))) →
    AreFollowed levels rounds calls client ss ts → length ts ≡ length ss
as_many_told levels rounds calls client [] [] h = refl
as_many_told levels rounds calls client [] (t ∷ ts) h = absurd h
as_many_told levels rounds calls client (s ∷ ss) [] h = absurd h
as_many_told levels rounds calls client (s ∷ ss) (t ∷ ts) h = let e = as_many_told levels rounds calls (client + 1) ss ts h.1 in omega (arith, e)

-- ---- what each client was told

told_here : (client : ℕ) (t : List (ℕ × Act)) (ts : List (List (ℕ × Act))) → told_from client (t ∷ ts) client ≡ t
told_here client t ts = ap (λ b. if b then t else told_from (client + 1) ts client) (eq-eqb client client refl)

told_later : (client k : ℕ) (t : List (ℕ × Act)) (ts : List (List (ℕ × Act))) → client ≢ k → told_from client (t ∷ ts) k ≡ told_from (client + 1) ts k
told_later client k t ts other = ap (λ b. if b then t else told_from (client + 1) ts k) (ne_eqb client k other)

told_before : (client k : ℕ) (ts : List (List (ℕ × Act))) → k < client → told_from client ts k ≡ []
told_before client k [] lt = refl
told_before client k (t ∷ ts) lt = told_later client k t ts (λ e. omega (arith, e, lt)) ∙ told_before (client + 1) k ts (omega (arith, lt))

told_behind : (client k : ℕ) (ts : List (List (ℕ × Act))) → client + length ts ≤ k → told_from client ts k ≡ []
told_behind client k [] le = refl
told_behind client k (t ∷ ts) le = told_later client k t ts (λ e. omega (arith, e, le)) ∙ told_behind (client + 1) k ts (omega (arith, le))

-- a client with its session
record IsOne (o : Opening) (journal : List Entry) (levels : Levels) (rounds : List Round) (calls k : ℕ) (told : List (ℕ × Act)) : Type 0 where
  pub session : SessionModel
  pub followed : IsFollowed levels rounds calls k session told
  pub ended : HasEnded o journal session

one_at : (o : Opening) (journal : List Entry) (levels : Levels) (rounds : List Round) (calls client k : ℕ) (ss : List SessionModel) (ts : List (List (ℕ × Act))) →
    AreFollowed levels rounds calls client ss ts → All (HasEnded o journal) ss → client ≤ k → k < client + length ss →
    IsOne o journal levels rounds calls k (told_from client ts k)
one_at o journal levels rounds calls client k [] ts h all from to = absurd (omega (arith, from, to))
one_at o journal levels rounds calls client k (s ∷ ss) [] h all from to = absurd h
one_at o journal levels rounds calls client k (s ∷ ss) (t ∷ ts) h all from to = elim (cases_lt client k) [
  | inl later ↦
      subst (IsOne o journal levels rounds calls k) (sym (told_later client k t ts (λ e. omega (arith, e, later))))
      (one_at o journal levels rounds calls (client + 1) k ss ts h.1 (All-tail (HasEnded o journal) s ss all) (omega (arith, later)) (omega (arith, to)))
  | inr here ↦
      let e : client ≡ k = omega (arith, from, here) in
      subst (λ j. IsOne o journal levels rounds calls j (told_from client (t ∷ ts) j)) e
      (subst (IsOne o journal levels rounds calls client) (sym (told_here client t ts))
      (record { session = s; followed = h.0; ended = All-head (HasEnded o journal) s ss all }))
]

-- ---- lines of nobody

abbrev IsOther : ℕ → ℕ × ScriptLine → Type 0
IsOther k x = x.1.client ≢ k

no_line : (k : ℕ) (xs : List (ℕ × ScriptLine)) → All (IsOther k) xs → filter (λ (x : ℕ × ScriptLine). x.1.client == k) xs ≡ []
no_line k [] all = refl
no_line k (x ∷ xs) all =
    ap (λ b. cond b (x ∷ filter (λ (y : ℕ × ScriptLine). y.1.client == k) xs) (filter (λ (y : ℕ × ScriptLine). y.1.client == k) xs))
    (ne_eqb x.1.client k (All-head (IsOther k) x xs all)) ∙ no_line k xs (All-tail (IsOther k) x xs all)

numbered_others : (o : Opening) (clients n k : ℕ) (lines : List ScriptLine) → All (MayAsk o clients) lines → ((c : ℕ) → 1 ≤ c → c ≤ clients → c ≢ k) →
    All (IsOther k) (map (λ x. (n, x)) lines)
numbered_others o clients n k [] all other = All-nil (IsOther k)
numbered_others o clients n k (l ∷ ls) all other =
    let may = All-head (MayAsk o clients) l ls all in
    All-cons (IsOther k) (n, l) (map (λ x. (n, x)) ls) (other l.client may.0 may.1) (numbered_others o clients n k ls (All-tail (MayAsk o clients) l ls all) other)

abbrev AsksWell : Opening → ℕ → Round → Type 0
AsksWell o clients r = All (MayAsk o clients) r.lines

lines_of_others : (o : Opening) (clients n k : ℕ) (rounds : List Round) → All (AsksWell o clients) rounds → ((c : ℕ) → 1 ≤ c → c ≤ clients → c ≢ k) →
    All (IsOther k) (lines_from n rounds)
lines_of_others o clients n k [] all other = All-nil (IsOther k)
lines_of_others o clients n k (r ∷ rs) all other =
    All-append (IsOther k) (map (λ x. (n, x)) r.lines) (lines_from (n + 1) rs) (numbered_others o clients n k r.lines (All-head (AsksWell o clients) r rs all) other)
    (lines_of_others o clients (n + 1) k rs (All-tail (AsksWell o clients) r rs all) other)

-- ---- entries, one by one

pub from_splits : (P : Entry → Type 0) (before es : List Entry) → ((front more : List Entry) (e : Entry) → before ++ es ≡ front ++ e ∷ more → P e) → All P es
from_splits P before [] h = All-nil P
from_splits P before (e ∷ es) h =
    All-cons P e es (h before es e refl) (from_splits P (before ++ e ∷ []) es (λ front more x is. h front more x (sym (append_assoc before (e ∷ []) es) ∙ is)))

-- ---- the closed hall

module _ (script : Script) (most calls : ℕ) (hall : HallModel) (driver : DriverModel) (sessions : List SessionModel) (pulls : List PullDone) (master : MasterFacts)
    (h : HasRunOut most calls script.rounds driver sessions pulls) (c : IsClosed hall driver sessions master) where
  abbrev rounds_done : AreRoundsDone most calls script.rounds h.running.before sessions pulls
  rounds_done = h.running.done

  runs_later : h.running.before.position ≤ h.before.position
  runs_later = h.running.opened.later

  last_later : h.before.position ≤ driver.position
  last_later = h.opened.later

  -- nothing stands behind the last opening
  none_behind : (rest : List Entry) (e : Entry) → master.journal ≡ driver.journal ++ e ∷ rest → ⊥
  none_behind rest e is = ⊎_elim
      (λ own. let lt = own.1 in omega (arith, lt))
      (λ by.
      let s = by.0 in
      let within = All-contains IsWithin sessions s (own_within rounds_done.levels script.rounds calls 1 sessions rounds_done.told rounds_done.clients) by.1 in
      let low = All-contains (λ (e : OwnEntry). e.position ≤ s.position) s.own _ within by.3 in
      let one = All-contains (λ (x : SessionModel). x.position ≡ h.running.before.position) sessions s rounds_done.level.one by.1 in
      omega (arith, low, one, runs_later, last_later, h.position)) (c.entries driver.journal rest e is)

  pub all_there : master.journal ≡ driver.journal
  all_there = go c.begins.0 c.begins.1
    where
      go : (others : List Entry) → master.journal ≡ driver.journal ++ others → master.journal ≡ driver.journal
      go [] is = is ∙ append-nil driver.journal
      go (e ∷ rest) is = absurd (none_behind rest e is)

module _ (script : Script) (most calls : ℕ) (hall : HallModel) (driver : DriverModel) (sessions : List SessionModel) (pulls : List PullDone) (master : MasterFacts)
    (wires : Wires)
    (ok : IsOpening master.opening) (limit : master.opening.limit ≡ limit_of master.opening script) (may : MayBeAsked master.opening script)
    (each : length sessions ≡ script.clients) (h : HasRunOut most calls script.rounds driver sessions pulls) (c : IsClosed hall driver sessions master)
    (sent : (port : ℕ) → wires port ≡ wire_of master.opening master.journal port) where
  abbrev o : Opening
  o = master.opening

  abbrev journal : List Entry
  journal = master.journal

  abbrev n : ℕ
  n = length script.rounds

  abbrev done : AreRoundsDone most calls script.rounds h.running.before sessions pulls
  done = h.running.done

  later : h.running.before.position ≤ h.before.position
  later = h.running.opened.later

  last : h.before.position ≤ driver.position
  last = h.opened.later

  whole : journal ≡ driver.journal
  whole = all_there script most calls hall driver sessions pulls master h c

  abbrev told : ℕ → List (ℕ × Act)
  told k = told_from 1 done.told k

  abbrev levels : Levels
  levels = levels_on done.levels n driver.position (done.levels.version n)

  as_client : (k : ℕ) (t : List (ℕ × Act)) → IsOne o journal done.levels script.rounds calls k t → IsClient o journal script levels k t
  as_client k t x = record {
    first = x.followed.first;
    last = x.session;
    new = x.followed.new;
    acted = x.followed.acted;
    ended = x.ended;
    number = x.followed.number;
    lines = x.followed.lines;
    between = still_between done.levels n driver.position (done.levels.version n) t x.followed.rounds_done x.followed.between;
  }

  lines_none : (k : ℕ) → ((x : ℕ) → 1 ≤ x → x ≤ script.clients → x ≢ k) → lines_by script k ≡ []
  lines_none k other = no_line k (lines_from 0 script.rounds) (lines_of_others o script.clients 0 k script.rounds may other)

  above : NoneAbove who_of script.clients journal
  above = from_splits (λ (e : Entry). who_of e ≤ script.clients) [] journal (λ front more e is.
      ⊎_elim (λ own. let z = own.0 in omega (arith, z))
      (λ by.
      let low = All-contains (IsNumbered (1 + length sessions)) sessions by.0 (numbers_below done.levels script.rounds calls 1 sessions done.told done.clients) by.1 in
      omega (arith, low, by.2, each)) (c.entries front more e is))

  clients : AreClients o journal script levels script.clients told
  clients = record {
    client = λ k from to. as_client k (told k) (one_at o journal done.levels script.rounds calls 1 k sessions done.told done.clients c.ended from (omega (arith, to, each)));
    nobody = record {
      none_told = told_before 1 0 done.told (omega arith);
      no_line = lines_none 0 (λ x some to e. omega (arith, some, e));
      no_entry = λ some. absurd (omega (arith, some));
    };
    no_further = λ k far. record {
      none_told = told_behind 1 k done.told (omega (arith, far, each, as_many_told done.levels script.rounds calls 1 sessions done.told done.clients));
      no_line = lines_none k (λ x some to e. omega (arith, to, far, e));
      no_entry = λ some. own_above k script.clients journal (omega (arith, far)) above;
    };
  }

  abbrev driving : Driving
  driving = record { beside = done.spells; later = h.running.later; last = h.last }

  abbrev deeds : ℕ → List Deed
  deeds k = deeds_of (told k)

  are_sessions : AreSessions script journal (λ k. own_entries k journal) deeds
  are_sessions = clients_are_sessions o journal script levels script.clients told clients

  levelled : AreLevelled journal levels deeds driving
  levelled =
      let here = done.level.position_is n (omega arith) in
      let version = done.levels.version n in
      let Between = IsSpellBetween levels in
      record {
        positions = cut_rises done.levels.position n driver.position done.level.positions (omega (arith, here, later, last));
        versions = cut_rises done.levels.version n version done.level.versions (omega arith);
        lines = clients_keep_levels o journal script levels script.clients told clients;
        openings = All-append Between (done.spells ++ h.running.later) (h.last ∷ [])
            (All-append Between done.spells h.running.later (still_spells done.levels n driver.position version done.spells done.rounds_done done.between)
            (beside_spells done.levels n driver.position version h.running.before.position h.before.position h.running.later here last h.running.opened.rounds_are
            h.running.opened.stand))
            (beside_spells done.levels n driver.position version h.running.before.position driver.position (h.last ∷ []) here (omega arith) h.opened.rounds_are
            (All-weaker (StandsAfter h.before.position driver.position) (StandsAfter h.running.before.position driver.position) (λ s w. (omega (arith, w.0, later), w.1))
            (h.last ∷ []) h.opened.stand));
      }

  ends_work : EndsWork o script journal
  ends_work =
      let e = entry 0 (Open most) NothingLeft in
      let is : journal ≡ h.journal ++ e ∷ [] = whole ∙ h.ends in
      let legal : IsLegal o (h.journal ++ e ∷ []) = subst (IsLegal o) is c.seen.legal in
      let same : state_of o journal ≡ state_of o h.journal = ap (state_of o) is ∙ state_snoc o h.journal e in
      record {
        limit = limit;
        legal = c.seen.legal;
        sent = λ f low there.
            ap (λ (s : State). owed o s f) same ∙
            nothing_is_left o h.journal most f ok (sym (legal_there o h.journal [] e legal).0) low
            (sym (ap (λ (s : State). is_present s (coflow_of o.table.flows f)) same) ∙ there);
      }

  drives : Drives script most journal driving
  drives =
      let all : AreOpenings most driver.journal (spells_of driving) = h.opened.openings (done.spells ++ h.running.later) (h.running.opened.openings done.spells done.openings) in
      let opened : AreOpenings most journal (spells_of driving) = subst (λ l. AreOpenings most l (spells_of driving)) (sym whole) all in
      record {
        entries = opened.entries;
        answers = opened.answers;
        slot_rounds_are = done.slot_rounds_are;
        after_last = All-append (λ (s : Spell). s.round ≡ n) h.running.later (h.last ∷ []) h.running.opened.rounds_are h.opened.rounds_are;
        later_run = h.running.runs;
        last_is = h.last_is;
      }

  abbrev course : Course
  course = record { deeds = deeds; driving = driving }

  carried : CarriesOut o script most journal wires course
  carried = record {
    work = ends_work;
    clients = sessions_do_script script journal (λ k. own_entries k journal) levels deeds driving are_sessions levelled;
    pulls = sessions_tell_versions o script journal (λ k. own_entries k journal) levels deeds driving c.seen.legal are_sessions levelled;
    granted = legal_is_granted o journal c.seen.legal;
    sent = journal_is_sent o journal wires c.seen.legal c.seen.in_range sent;
    driver = drives;
    rounds = levels_keep_rounds journal levels deeds driving levelled;
  }

  pub carries_out : IsCarriedOut o script most journal wires pulls
  carries_out = record {
    course = course;
    carried = carried;
    told = λ k. ap (map (pull_line o.table.ids)) (done.pulls_are k) ∙ client_pulls o journal script levels script.clients told clients c.seen.legal k;
  }
