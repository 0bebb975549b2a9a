-- No run is open at the end of a journal that carries out a script: the last answer to its driver was that nothing is
-- left, and only clients' entries stand behind it.
use Rattle.std.proofs.Common.{◌≡◌, ℕ, ◌+◌, ◌==◌, Bool, true, false, cond, List, [], ◌∷◌, ◌++◌, append_assoc, drop, get_or, refl, sym, ap, ◌∙◌, subst, None}
use Rattle.std.specs.Prelude.{All, flat_map}
use Rattle.std.specs.List.{enumerate_from, filter}
use Rattle.std.proofs.lemmas.Grind.{flat_map-append}
use Rattle.std.proofs.lemmas.List.Elements.{All-cons, All-contains, All-nil, All-tail, Contains-append_right}
use Rattle.coflow_units.proofs.Sums.{in_first}
use Rattle.journal.specs.declared.command.Command.TheVariants.{Open}
use Rattle.journal.specs.declared.command.Entry.{Entry}
use Rattle.journal.specs.declared.command.Reply.TheVariants.{NothingLeft}
use Rattle.journal.specs.declared.opening.Opening.{Opening}
use Rattle.journal.specs.Entries.{is_driving, is_moving, TellsEntry}
use Rattle.journal.specs.Fold.{state_of}
use Rattle.journal.specs.Journal.{entry, IsLegal}
use Rattle.journal.proofs.EntryTells.{entry_tells}
use Rattle.journal.proofs.Leaving.{leaves_push, others_leave}
use Rattle.workload.specs.declared.script.Script.{Script}
use Rattle.live_model.specs.Clause.{CarriesOut, Course}
use Rattle.live_model.specs.Deeds.{entries_by}
use Rattle.live_model.specs.Rounds.{closing_entries, FitsAnswer, Spell, spell_entries, spells_of}
use Rattle.live_model.specs.Sent.{Wires}
use Rattle.live_serving.specs.Ends.{MayBeAsked}
use Rattle.live_audits.proofs.Callers.{all_fit, Fits}

-- ---- the last entry of a caller

abbrev IsOther : ℕ → Entry → Type 0
IsOther who e = (e.who == who) ≡ false

-- the entry stands among these, and those behind it are of others
pub record IsLastOf (who : ℕ) (es : List Entry) (e : Entry) : Type 0 where
  pub before : List Entry
  pub more : List Entry
  pub stands : es ≡ before ++ e ∷ more
  pub others : All (IsOther who) more

abbrev own : ℕ → ℕ → List Entry → List (ℕ × Entry)
own who n es = filter (λ x. x.1.who == who) (enumerate_from n es)

none_own : (who n : ℕ) (es : List Entry) → own who n es ≡ [] → All (IsOther who) es
none_own who n [] e = All-nil (IsOther who)
none_own who n (x ∷ es) e = go (x.who == who) refl e (λ none. none_own who (n + 1) es none)
  where
    go : (b : Bool) → x.who == who ≡ b → cond b ((n, x) ∷ own who (n + 1) es) (own who (n + 1) es) ≡ [] → (own who (n + 1) es ≡ [] → All (IsOther who) es) →
        All (IsOther who) (x ∷ es)
    go true t e rest = cc
    go false f e rest = All-cons (IsOther who) x es f (rest e)

last_of : (who n : ℕ) (es : List Entry) (front : List (ℕ × Entry)) (x : ℕ × Entry) → own who n es ≡ front ++ x ∷ [] → IsLastOf who es x.1
last_of who n [] [] x e = cc
last_of who n [] (y ∷ front) x e = cc
last_of who n (z ∷ es) front x e = go (z.who == who) refl front e (λ front e. last_of who (n + 1) es front x e)
  where
    longer : IsLastOf who es x.1 → IsLastOf who (z ∷ es) x.1
    longer h = record { before = z ∷ h.before; more = h.more; stands = ap (λ l. z ∷ l) h.stands; others = h.others }

    go : (b : Bool) → z.who == who ≡ b → (front : List (ℕ × Entry)) → cond b ((n, z) ∷ own who (n + 1) es) (own who (n + 1) es) ≡ front ++ x ∷ [] →
        ((front : List (ℕ × Entry)) → own who (n + 1) es ≡ front ++ x ∷ [] → IsLastOf who es x.1) → IsLastOf who (z ∷ es) x.1
    go false f front e rest = longer (rest front e)
    go true t [] e rest =
        let same : z ≡ x.1 = ap (λ (l : List (ℕ × Entry)). (get_or l 0 x).1) e in
        let behind : own who (n + 1) es ≡ [] = ap (drop 1) e in
        record { before = []; more = es; stands = ap (λ y. y ∷ es) same; others = none_own who (n + 1) es behind }
    go true t (y ∷ front) e rest = longer (rest front (ap (drop 1) e))

pub all_behind : {X : Type 0} (P : X → Type 0) (xs ys : List X) → All P (xs ++ ys) → All P ys
all_behind P [] ys h = h
all_behind P (x ∷ xs) ys h = all_behind P xs ys (All-tail P x (xs ++ ys) h)

-- ---- the last entry of the driver

module _ (o : Opening) (script : Script) (most : ℕ) (journal : List Entry) (wires : Wires) (course : Course) (may : MayBeAsked o script)
    (x : CarriesOut o script most journal wires course) where
  abbrev last : Spell
  last = course.driving.last

  abbrev pub asks : Entry
  asks = entry 0 (Open most) last.answer

  abbrev front : List Spell
  front = course.driving.beside ++ course.driving.later

  ends : entries_by journal 0 ≡ flat_map (spell_entries most) front ++ (last.opened, asks) ∷ []
  ends =
      x.driver.entries ∙ flat_map-append (spell_entries most) front (last ∷ [])
      ∙ ap (λ c. flat_map (spell_entries most) front ++ (last.opened, asks) ∷ (closing_entries c ++ [])) x.driver.last_is

  pub split : IsLastOf 0 journal asks
  split = last_of 0 1 journal (flat_map (spell_entries most) front) (last.opened, asks) ends

  answer_is : last.answer ≡ NothingLeft
  answer_is =
      let stands = Contains-append_right front (last ∷ []) last (in_first last []) in
      let fits = All-contains (λ (s : Spell). FitsAnswer s.answer s.closed) (spells_of course.driving) last x.driver.answers stands in
      subst (FitsAnswer last.answer) x.driver.last_is fits

  pub quiet_behind : All (λ (e : Entry). is_driving e.command ≡ false) split.more
  quiet_behind k d lt =
      let fit = subst (All (Fits _)) split.stands (all_fit o script most journal wires course may x) in
      let behind = All-tail (Fits _) asks split.more (all_behind (Fits _) split.before (asks ∷ split.more) fit) in
      (behind k d lt).quiet (split.others k d lt)

  pub none_open : (state_of o journal).run ≡ None
  none_open =
      let legal : IsLegal o (split.before ++ (asks ∷ split.more)) = subst (IsLegal o) split.stands x.work.legal in
      let tells = subst (TellsEntry o (state_of o split.before) (Open most)) answer_is (entry_tells o split.before split.more asks legal) in
      let there = leaves_push o split.before asks (ap is_moving answer_is) in
      let grouped = sym (append_assoc split.before (asks ∷ []) split.more) in
      let behind = others_leave o (split.before ++ asks ∷ []) split.more (subst (IsLegal o) grouped legal) quiet_behind in
      ap (λ j. (state_of o j).run) (split.stands ∙ grouped) ∙ behind.run ∙ there.run ∙ tells.2
