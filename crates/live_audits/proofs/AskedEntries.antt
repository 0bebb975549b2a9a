-- The entries of a journal that carries out a script: who asked them, and that their commands are in range.
use Rattle.std.proofs.Common.{◌≡◌, ℕ, ◌+◌, ◌≤◌, ◌<◌, ◌==◌, zero, suc, true, false, cond, List, [], ◌∷◌}
use Rattle.std.proofs.Common.{◌++◌, length, map, get_or, append_assoc, refl, sym, ap, ◌∙◌, subst, arith, Option, None, Some}
use Rattle.std.specs.Prelude.{All, flat_map}
use Rattle.std.specs.List.{enumerate_from}
use Rattle.std.proofs.lemmas.Bool.{eqb-true, leb-false}
use Rattle.std.proofs.lemmas.List.{length-append}
use Rattle.std.proofs.lemmas.List.Elements.{All-append, All-cons, All-head, All-nil, All-tail, filter_passes}
use Rattle.std.proofs.lemmas.List.Sums.{sum_by-cons}
use Rattle.journal.specs.declared.command.Command.{Command}
use Rattle.journal.specs.declared.command.Command.TheVariants.{Close, Open, Publish, Pull, Register, Reweigh, Short, Skip, Withdraw}
use Rattle.journal.specs.declared.command.Entry.{Entry}
use Rattle.journal.specs.declared.command.Reply.{Reply}
use Rattle.journal.specs.declared.command.Reply.TheVariants.{NothingLeft, Opened, StillOpen}
use Rattle.journal.specs.declared.opening.Opening.{Opening}
use Rattle.journal.specs.Answer.{IsInRange}
use Rattle.journal.specs.Counts.{endings, is_ending}
use Rattle.journal.specs.Entries.{is_driving}
use Rattle.journal.specs.Journal.{entry, is_full, IsLegal}
use Rattle.journal.specs.Sound.{InRange}
use Rattle.journal.proofs.FurtherRoom.{further_room}
use Rattle.journal.proofs.Legal.{full_is}
use Rattle.journal.proofs.Versions.{legal_there}
use Rattle.master_core.proofs.StepTells.{range_told}
use Rattle.workload.specs.declared.script.Script.{Script}
use Rattle.live_model.specs.Clause.{CarriesOut, Course}
use Rattle.live_model.specs.Deeds.{asked_at, asked_in, Deed, entries_by}
use Rattle.live_model.specs.Rounds.{closing_entries, FitsAnswer, Spell, spell_entries, spells_of}
use Rattle.live_model.specs.Script.{command_of}
use Rattle.live_model.specs.Sent.{Wires}
use Rattle.live_serving.specs.Ends.{MayBeAsked}
use Rattle.live_audits.proofs.Callers.{by_caller}
use Rattle.live_audits.proofs.Ended.{asks, quiet_behind, split}
use Rattle.live_audits.proofs.Lines.{asked_quiet, deeds_may, IsOwnDeed}

-- an opening is of this many slots, and is not refused since a run is open; other commands are free
abbrev pub OpensSo : ℕ → Command → Reply → Type 0
OpensSo most (Open n) reply = (n ≡ most) × ((slot : ℕ) → reply ≡ StillOpen slot → ⊥)
OpensSo most k reply = Unit {0}

-- one of so many clients, or the driver, asked the command, which is in range
pub record IsAskedSo (o : Opening) (most clients : ℕ) (e : Entry) : Type 0 where
  pub who_is : e.who ≤ clients
  pub range : IsInRange o e.command
  pub opens : OpensSo most e.command e.reply

module _ (o : Opening) (most clients : ℕ) where
  abbrev SoAt : ℕ × Entry → Type 0
  SoAt x = IsAskedSo o most clients x.1

  -- ---- the driver's

  not_open : (answer : Reply) (closed : Option (ℕ × Reply)) → FitsAnswer answer closed → (slot : ℕ) → answer ≡ StillOpen slot → ⊥
  not_open answer None fits slot e = let same : NothingLeft ≡ StillOpen slot = sym fits ∙ e in cc
  not_open answer (Some x) (first, slots, count, is, closes) slot e = let same : Opened first slots count ≡ StillOpen slot = sym is ∙ e in cc

  closing_so : (closed : Option (ℕ × Reply)) → All SoAt (closing_entries closed)
  closing_so None = All-nil SoAt
  closing_so (Some x) = All-cons SoAt (x.0, entry 0 Close x.1) [] (record { who_is = omega arith; range = tt; opens = tt }) (All-nil SoAt)

  spells_so : (spells : List Spell) → 1 ≤ most → All (λ (s : Spell). FitsAnswer s.answer s.closed) spells → All SoAt (flat_map (spell_entries most) spells)
  spells_so [] some fits = All-nil SoAt
  spells_so (s ∷ ss) some fits =
      let here = All-head (λ (s : Spell). FitsAnswer s.answer s.closed) s ss fits in
      All-append SoAt (spell_entries most s) (flat_map (spell_entries most) ss)
      (All-cons SoAt (s.opened, entry 0 (Open most) s.answer) (closing_entries s.closed)
      (record { who_is = omega arith; range = some; opens = (refl, not_open s.answer s.closed here) }) (closing_so s.closed))
      (spells_so ss some (All-tail (λ (s : Spell). FitsAnswer s.answer s.closed) s ss fits))

  -- ---- the clients'

  -- a client from 1 to the greatest may ask it
  abbrev ByClient : ℕ → ℕ × Command → Type 0
  ByClient client x = (client ≤ clients) × IsInRange o x.1 × (is_driving x.1 ≡ false)

  quiet_so : (k : Command) (reply : Reply) → is_driving k ≡ false → OpensSo most k reply
  quiet_so (Open n) reply e = cc
  quiet_so (Register c) reply e = tt
  quiet_so (Withdraw c) reply e = tt
  quiet_so Publish reply e = tt
  quiet_so (Pull c) reply e = tt
  quiet_so (Short port units) reply e = tt
  quiet_so Close reply e = tt
  quiet_so (Skip to) reply e = tt
  quiet_so (Reweigh c w) reply e = tt

  deed_so : (client : ℕ) (d : Deed) → IsOwnDeed o clients client d → All (ByClient client) (asked_at d.position (command_of d.line.asked))
  deed_so client d own = go d.position
    where
      go : (position : Option ℕ) → All (ByClient client) (asked_at position (command_of d.line.asked))
      go None = All-nil (ByClient client)
      go (Some p) =
          All-cons (ByClient client) (p, command_of d.line.asked) [] (omega (arith, own.may.1, own.own), own.may.2, asked_quiet d.line.asked) (All-nil (ByClient client))

  deeds_so : (client : ℕ) (ds : List Deed) → All (IsOwnDeed o clients client) ds → All (ByClient client) (asked_in ds)
  deeds_so client [] h = All-nil (ByClient client)
  deeds_so client (d ∷ ds) h =
      All-append (ByClient client) (asked_at d.position (command_of d.line.asked)) (asked_in ds) (deed_so client d (All-head (IsOwnDeed o clients client) d ds h))
      (deeds_so client ds (All-tail (IsOwnDeed o clients client) d ds h))

  -- the entry is the client's
  abbrev IsOfClient : ℕ → ℕ × Entry → Type 0
  IsOfClient client x = x.1.who ≡ client

  clients_so : (client : ℕ) (xs : List (ℕ × Entry)) → All (IsOfClient client) xs → All (ByClient client) (map (λ (x : ℕ × Entry). (x.0, x.1.command)) xs) → All SoAt xs
  clients_so client [] own h = All-nil SoAt
  clients_so client (x ∷ xs) own h =
      let rest : List (ℕ × Command) = map (λ (y : ℕ × Entry). (y.0, y.1.command)) xs in
      let here = All-head (ByClient client) (x.0, x.1.command) rest h in
      let mine = All-head (IsOfClient client) x xs own in
      All-cons SoAt x xs (record { who_is = omega (arith, mine, here.0); range = here.1; opens = quiet_so x.1.command x.1.reply here.2 })
      (clients_so client xs (All-tail (IsOfClient client) x xs own) (All-tail (ByClient client) (x.0, x.1.command) rest h))

of_caller : (who : ℕ) (xs : List (ℕ × Entry)) → All (λ (x : ℕ × Entry). (x.1.who == who) ≡ true) xs → All (λ (x : ℕ × Entry). x.1.who ≡ who) xs
of_caller who xs h = λ k d lt. eqb-true (get_or xs k d).1.who who (h k d lt)

-- ---- all together

module _ (o : Opening) (script : Script) (most : ℕ) (journal : List Entry) (wires : Wires) (course : Course) (may : MayBeAsked o script) (some : 1 ≤ most)
    (x : CarriesOut o script most journal wires course) where
  so_by : (who : ℕ) → All (SoAt o most script.clients) (entries_by journal who)
  so_by zero = subst (All (SoAt o most script.clients)) (sym x.driver.entries) (spells_so o most script.clients (spells_of course.driving) some x.driver.answers)
  so_by (suc k) =
      clients_so o most script.clients (suc k) (entries_by journal (suc k))
      (of_caller (suc k) (entries_by journal (suc k)) (filter_passes (λ (y : ℕ × Entry). y.1.who == suc k) (enumerate_from 1 journal)))
      (subst (All (ByClient o most script.clients (suc k))) (sym (x.clients.entries (suc k) (omega arith)))
      (deeds_so o most script.clients (suc k) (course.deeds (suc k)) (deeds_may o script journal course.deeds may x.clients (suc k))))

  pub all_asked_so : All (IsAskedSo o most script.clients) journal
  all_asked_so = by_caller (IsAskedSo o most script.clients) 1 journal so_by

  pub all_in_range : InRange o journal
  all_in_range = λ k d lt. range_told o (get_or journal k d).command (all_asked_so k d lt).range

  -- ---- how many there are

  quiet_ends : (k : Command) → is_driving k ≡ false → is_ending k ≡ false
  quiet_ends (Open n) e = refl
  quiet_ends (Register c) e = refl
  quiet_ends (Withdraw c) e = refl
  quiet_ends Publish e = refl
  quiet_ends (Pull c) e = refl
  quiet_ends (Short port units) e = cc
  quiet_ends Close e = cc
  quiet_ends (Skip to) e = refl
  quiet_ends (Reweigh c w) e = refl

  no_endings : (es : List Entry) → All (λ (e : Entry). is_driving e.command ≡ false) es → endings es ≡ 0
  no_endings [] h = refl
  no_endings (e ∷ es) h =
      let rest = no_endings es (All-tail (λ (e : Entry). is_driving e.command ≡ false) e es h) in
      let here = quiet_ends e.command (All-head (λ (e : Entry). is_driving e.command ≡ false) e es h) in
      let first : endings (e ∷ es) ≡ 0 + endings es = sum_by-cons (λ (x : Entry). cond (is_ending x.command) 1 0) e es ∙ ap (λ b. cond b 1 0 + endings es) here in
      omega (arith, first, rest)

  pub few_entries : length journal ≤ o.limit
  few_entries =
      let last = split o script most journal wires course may x in
      let asked = asks o script most journal wires course may x in
      let legal : IsLegal o (last.before ++ (asked ∷ last.more)) = subst (IsLegal o) last.stands x.work.legal in
      let there = legal_there o last.before last.more asked legal in
      let full = sym (full_is o last.before asked.command) ∙ ap is_full (sym there.0) ∙ there.1 in
      let within : length last.before < o.limit = leb-false o.limit (length last.before) full in
      let grouped = sym (append_assoc last.before (asked ∷ []) last.more) in
      let none = no_endings last.more (quiet_behind o script most journal wires course may x) in
      let all = further_room o (last.before ++ asked ∷ []) last.more (subst (IsLegal o) grouped legal) (omega (arith, within, length-append last.before (asked ∷ []))) in
      omega (arith, all, none, ap (λ l. length l) (last.stands ∙ grouped))
