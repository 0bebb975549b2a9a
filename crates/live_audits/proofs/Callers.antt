-- The entries of a journal that carries out a script, by their callers: each names a coflow of the table where it names
-- one, and those of clients do not drive runs.
use Rattle.std.proofs.Common.{◌≡◌, ℕ, ◌+◌, ◌==◌, zero, suc, Bool, true, false, cond, List, [], ◌∷◌, length, map, refl, sym, subst, arith, true≢false, Option, None, Some}
use Rattle.std.specs.Prelude.{All, flat_map}
use Rattle.std.specs.List.{enumerate_from, filter}
use Rattle.std.proofs.lemmas.Bool.{eq-eqb}
use Rattle.std.proofs.lemmas.List.Elements.{All-append, All-cons, All-head, All-nil, All-tail}
use Rattle.journal.specs.declared.command.Command.{Command}
use Rattle.journal.specs.declared.command.Command.TheVariants.{Close, Open}
use Rattle.journal.specs.declared.command.Entry.{Entry}
use Rattle.journal.specs.declared.command.Reply.{Reply}
use Rattle.journal.specs.declared.opening.Opening.{Opening}
use Rattle.journal.specs.Entries.{is_driving}
use Rattle.journal.specs.Journal.{entry}
use Rattle.workload.specs.declared.script.Script.{Script}
use Rattle.live_model.specs.Clause.{CarriesOut, Course}
use Rattle.live_model.specs.Deeds.{asked_at, asked_in, Deed, entries_by}
use Rattle.live_model.specs.Rounds.{closing_entries, Spell, spell_entries, spells_of}
use Rattle.live_model.specs.Script.{command_of}
use Rattle.live_model.specs.Sent.{Wires}
use Rattle.live_runs.specs.Names.{NamesCoflow}
use Rattle.live_serving.specs.Ends.{MayBeAsked}
use Rattle.live_audits.proofs.Lines.{asked_names, asked_quiet, deeds_may, IsOwnDeed}

-- the command is one of a client
record IsAsked (coflows : ℕ) (k : Command) : Type 0 where
  names : NamesCoflow coflows k
  quiet : is_driving k ≡ false

-- the command of the entry names one of so many coflows where it names one, and a client's does not drive
pub record Fits (coflows : ℕ) (e : Entry) : Type 0 where
  pub names : NamesCoflow coflows e.command
  pub quiet : (e.who == 0) ≡ false → is_driving e.command ≡ false

-- ---- the entries of all callers

module _ {X : Type 0} (P : X → Type 0) (x : X) (xs : List X) where
  kept_here : (b : Bool) → b ≡ true → All P (cond b (x ∷ xs) xs) → P x
  kept_here true e h = All-head P x xs h
  kept_here false e h = absurd (true≢false (sym e))

  kept_there : (b : Bool) → All P (cond b (x ∷ xs) xs) → All P xs
  kept_there true h = All-tail P x xs h
  kept_there false h = h

pub by_caller : (P : Entry → Type 0) (n : ℕ) (es : List Entry) →
    ((who : ℕ) → All (λ (x : ℕ × Entry). P x.1) (filter (λ (x : ℕ × Entry). x.1.who == who) (enumerate_from n es))) → All P es
by_caller P n [] h = All-nil P
by_caller P n (e ∷ es) h =
    let rest : ℕ → List (ℕ × Entry) = λ who. filter (λ (x : ℕ × Entry). x.1.who == who) (enumerate_from (n + 1) es) in
    All-cons P e es (kept_here (λ (x : ℕ × Entry). P x.1) (n, e) (rest e.who) (e.who == e.who) (eq-eqb e.who e.who refl) (h e.who))
    (by_caller P (n + 1) es (λ who. kept_there (λ (x : ℕ × Entry). P x.1) (n, e) (rest who) (e.who == who) (h who)))

-- ---- the driver's

module _ (coflows : ℕ) where
  abbrev FitsAt : ℕ × Entry → Type 0
  FitsAt x = Fits coflows x.1

  closing_fits : (closed : Option (ℕ × Reply)) → All FitsAt (closing_entries closed)
  closing_fits None = All-nil FitsAt
  closing_fits (Some x) = All-cons FitsAt (x.0, entry 0 Close x.1) [] (record { names = tt; quiet = λ e. absurd (true≢false e) }) (All-nil FitsAt)

  spells_fit : (most : ℕ) (spells : List Spell) → All FitsAt (flat_map (spell_entries most) spells)
  spells_fit most [] = All-nil FitsAt
  spells_fit most (s ∷ ss) =
      All-append FitsAt (spell_entries most s) (flat_map (spell_entries most) ss)
      (All-cons FitsAt (s.opened, entry 0 (Open most) s.answer) (closing_entries s.closed) (record { names = tt; quiet = λ e. absurd (true≢false e) }) (closing_fits s.closed))
      (spells_fit most ss)

  -- ---- the clients'

  abbrev MayStand : ℕ × Command → Type 0
  MayStand x = IsAsked coflows x.1

  deed_may : (position : Option ℕ) (k : Command) → IsAsked coflows k → All MayStand (asked_at position k)
  deed_may None k h = All-nil MayStand
  deed_may (Some p) k h = All-cons MayStand (p, k) [] h (All-nil MayStand)

  of_client : (xs : List (ℕ × Entry)) → All MayStand (map (λ (x : ℕ × Entry). (x.0, x.1.command)) xs) → All FitsAt xs
  of_client [] h = All-nil FitsAt
  of_client (x ∷ xs) h =
      let rest : List (ℕ × Command) = map (λ (y : ℕ × Entry). (y.0, y.1.command)) xs in
      let here = All-head MayStand (x.0, x.1.command) rest h in
      All-cons FitsAt x xs (record { names = here.names; quiet = λ e. here.quiet }) (of_client xs (All-tail MayStand (x.0, x.1.command) rest h))

all_deeds : (o : Opening) (clients client : ℕ) (ds : List Deed) → All (IsOwnDeed o clients client) ds → All (MayStand (length o.table.ids)) (asked_in ds)
all_deeds o clients client [] h = All-nil (MayStand (length o.table.ids))
all_deeds o clients client (d ∷ ds) h =
    let may = (All-head (IsOwnDeed o clients client) d ds h).may in
    All-append (MayStand (length o.table.ids)) (asked_at d.position (command_of d.line.asked)) (asked_in ds)
    (deed_may (length o.table.ids) d.position (command_of d.line.asked) (record { names = asked_names o d.line.asked may.2; quiet = asked_quiet d.line.asked }))
    (all_deeds o clients client ds (All-tail (IsOwnDeed o clients client) d ds h))

-- ---- all together

module _ (o : Opening) (script : Script) (most : ℕ) (journal : List Entry) (wires : Wires) (course : Course) (may : MayBeAsked o script)
    (x : CarriesOut o script most journal wires course) where
  fits_by : (who : ℕ) → All (FitsAt (length o.table.ids)) (entries_by journal who)
  fits_by zero = subst (All (FitsAt (length o.table.ids))) (sym x.driver.entries) (spells_fit (length o.table.ids) most (spells_of course.driving))
  fits_by (suc k) =
      of_client (length o.table.ids) (entries_by journal (suc k))
      (subst (All (MayStand (length o.table.ids))) (sym (x.clients.entries (suc k) (omega arith)))
      (all_deeds o script.clients (suc k) (course.deeds (suc k)) (deeds_may o script journal course.deeds may x.clients (suc k))))

  pub all_fit : All (Fits (length o.table.ids)) journal
  all_fit = by_caller (Fits (length o.table.ids)) 1 journal fits_by
