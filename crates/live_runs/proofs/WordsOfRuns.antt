-- Each entry of a journal that carries out a script has words.
use Rattle.std.proofs.Common.{◌≡◌, ℕ, ◌+◌, ◌<◌, ◌==◌, ◌⊎◌, inl, inr, zero, suc, Bool, true, false, cond, List, [], ◌∷◌, ◌++◌, get_or, drop, length, map, take, refl}
use Rattle.std.proofs.Common.{sym, ap, ◌∙◌, subst, arith, true≢false, Option, None, Some}
use Rattle.std.specs.Prelude.{All, flat_map, if◌then◌else◌}
use Rattle.std.specs.List.{enumerate_from, filter}
use Rattle.std.specs.Option.{IsSome}
use Rattle.std.proofs.lemmas.Bool.{eq-eqb, leb-false}
use Rattle.std.proofs.lemmas.List.{drop_more, take-append-drop}
use Rattle.std.proofs.lemmas.List.Elements.{All-append, All-cons, All-head, All-nil, All-tail}
use Rattle.journal.specs.declared.command.Command.{Command}
use Rattle.journal.specs.declared.command.Command.TheVariants as K
use Rattle.journal.specs.declared.command.Entry.{Entry}
use Rattle.journal.specs.declared.command.Reply.{Reply}
use Rattle.journal.specs.declared.command.Reply.TheVariants as R
use Rattle.journal.specs.declared.opening.Opening.{Opening}
use Rattle.journal.specs.State.{has, is_present, Run, State}
use Rattle.journal.specs.Answer.{answer, on_run, reply_of, room}
use Rattle.journal.specs.Fold.{state_of}
use Rattle.journal.specs.Journal.{entry, is_full, IsLegal}
use Rattle.journal.specs.Line.{rank, version}
use Rattle.journal.proofs.Legal.{full_is}
use Rattle.journal.proofs.Versions.{legal_there}
use Rattle.master_core.proofs.StepTells.{answered}
use Rattle.live_text.specs.declared.value.Said.{Said}
use Rattle.live_text.specs.declared.value.Word.{Word}
use Rattle.live_model.specs.Clause.{CarriesOut, Course}
use Rattle.live_model.specs.Deeds.{asked_at, asked_in, Deed, entries_by}
use Rattle.live_model.specs.Printed.{entry_with, said_of, told_entry, word_of}
use Rattle.live_model.specs.Rounds.{closing_entries, FitsAnswer, Spell, spell_entries, spells_of}
use Rattle.live_model.specs.Script.{command_of}
use Rattle.live_model.specs.Sent.{Wires}
use Rattle.workload.specs.declared.script.Asked.{Asked}
use Rattle.workload.specs.declared.script.Asked.TheVariants as A
use Rattle.workload.specs.declared.script.Script.{Script}

-- the command may stand in a script
abbrev may_be_asked : Command → Bool
may_be_asked (K.Register c) = true
may_be_asked (K.Withdraw c) = true
may_be_asked K.Publish = true
may_be_asked (K.Pull c) = true
may_be_asked (K.Reweigh c w) = true
may_be_asked k = false

-- the entry is asked by a script, or has words
abbrev HasParts : Opening → Entry → Type 0
HasParts o e = (may_be_asked e.command ≡ true) ⊎ IsSome (told_entry o e)

-- ---- the entries of all callers

module _ {X : Type 0} (P : X → Type 0) (x : X) (xs : List X) where
  kept_here : (b : Bool) → b ≡ true → All P (cond b (x ∷ xs) xs) → P x
  kept_here true e h = All-head P x xs h
  kept_here false e h = absurd (true≢false (sym e))

  kept_there : (b : Bool) → All P (cond b (x ∷ xs) xs) → All P xs
  kept_there true h = All-tail P x xs h
  kept_there false h = h

by_caller : (P : Entry → Type 0) (n : ℕ) (es : List Entry) →
    ((who : ℕ) → All (λ (x : ℕ × Entry). P x.1) (filter (λ (x : ℕ × Entry). x.1.who == who) (enumerate_from n es))) → All P es
by_caller P n [] h = All-nil P
by_caller P n (e ∷ es) h =
    let rest : ℕ → List (ℕ × Entry) = λ who. filter (λ (x : ℕ × Entry). x.1.who == who) (enumerate_from (n + 1) es) in
    All-cons P e es (kept_here (λ (x : ℕ × Entry). P x.1) (n, e) (rest e.who) (e.who == e.who) (eq-eqb e.who e.who refl) (h e.who))
    (by_caller P (n + 1) es (λ who. kept_there (λ (x : ℕ × Entry). P x.1) (n, e) (rest who) (e.who == who) (h who)))

-- ---- the driver's

abbrev Parts : Opening → ℕ × Entry → Type 0
Parts o x = HasParts o x.1

opened_parts : (o : Opening) (most : ℕ) (said reply : Reply) → said ≡ reply → IsSome (said_of reply) → HasParts o (entry 0 (K.Open most) said)
opened_parts o most said reply is some =
    inr (subst (λ (r : Reply). IsSome (told_entry o (entry 0 (K.Open most) r))) (sym is) (with_words (said_of reply) some))
  where
    with_words : (s : Option Said) → IsSome s → IsSome (entry_with 0 (word_of o (K.Open most)) s)
    with_words (Some s) some = refl
    with_words None some = absurd (true≢false (sym some))

spell_parts : (o : Opening) (most opened : ℕ) (said : Reply) (closed : Option (ℕ × Reply)) → FitsAnswer said closed →
    All (Parts o) ((opened, entry 0 (K.Open most) said) ∷ closing_entries closed)
spell_parts o most opened said None fits =
    All-cons (Parts o) (opened, entry 0 (K.Open most) said) [] (opened_parts o most said R.NothingLeft fits refl) (All-nil (Parts o))
spell_parts o most opened said (Some (at, reply)) (slot, slots, count, is, closes) =
    All-cons (Parts o) (opened, entry 0 (K.Open most) said) ((at, entry 0 K.Close reply) ∷ []) (opened_parts o most said (R.Opened slot slots count) is refl)
    (All-cons (Parts o) (at, entry 0 K.Close reply) [] (inr (subst (λ (r : Reply). IsSome (told_entry o (entry 0 K.Close r))) (sym closes) refl)) (All-nil (Parts o)))

all_spells : (o : Opening) (most : ℕ) (spells : List Spell) → All (λ (s : Spell). FitsAnswer s.answer s.closed) spells →
    All (Parts o) (flat_map (spell_entries most) spells)
all_spells o most [] fits = All-nil (Parts o)
all_spells o most (s ∷ ss) fits =
    All-append (Parts o) (spell_entries most s) (flat_map (spell_entries most) ss)
    (spell_parts o most s.opened s.answer s.closed (All-head (λ (s : Spell). FitsAnswer s.answer s.closed) s ss fits))
    (all_spells o most ss (All-tail (λ (s : Spell). FitsAnswer s.answer s.closed) s ss fits))

-- ---- the clients'

asked_may : (a : Asked) → may_be_asked (command_of a) ≡ true
asked_may (A.Register c) = refl
asked_may (A.Withdraw c) = refl
asked_may A.Publish = refl
asked_may (A.Pull c) = refl
asked_may (A.Reweigh c w) = refl

abbrev MayStand : ℕ × Command → Type 0
MayStand x = may_be_asked x.1 ≡ true

deed_may : (position : Option ℕ) (a : Asked) → All MayStand (asked_at position (command_of a))
deed_may None a = All-nil MayStand
deed_may (Some p) a = All-cons MayStand (p, command_of a) [] (asked_may a) (All-nil MayStand)

all_deeds : (deeds : List Deed) → All MayStand (asked_in deeds)
all_deeds [] = All-nil MayStand
all_deeds (d ∷ ds) = All-append MayStand (asked_at d.position (command_of d.line.asked)) (asked_in ds) (deed_may d.position d.line.asked) (all_deeds ds)

of_client : (o : Opening) (xs : List (ℕ × Entry)) → All MayStand (map (λ (x : ℕ × Entry). (x.0, x.1.command)) xs) → All (Parts o) xs
of_client o [] h = All-nil (Parts o)
of_client o (x ∷ xs) h =
    All-cons (Parts o) x xs (inl (All-head MayStand (x.0, x.1.command) (map (λ (y : ℕ × Entry). (y.0, y.1.command)) xs) h))
    (of_client o xs (All-tail MayStand (x.0, x.1.command) (map (λ (y : ℕ × Entry). (y.0, y.1.command)) xs) h))

-- ---- their replies

either : (b : Bool) (x y : Reply) → IsSome (said_of x) → IsSome (said_of y) → IsSome (said_of (if b then x else y))
either true x y hx hy = hx
either false x y hx hy = hy

published : (run : Option Run) (v : ℕ) → IsSome (said_of (on_run run (λ r. R.StillOpen r.first) (R.Version v)))
published None v = refl
published (Some r) v = refl

answer_said : (o : Opening) (s : State) (k : Command) → may_be_asked k ≡ true → IsSome (said_of (answer o s k))
answer_said o s (K.Register c) may = either (has s.joined c) R.Already R.Joined refl refl
answer_said o s (K.Withdraw c) may = either (is_present s c) R.Left R.NotHere refl refl
answer_said o s K.Publish may = published s.run (version s + 1)
answer_said o s (K.Pull c) may = either (rank s (version s) c == 0) (R.Unranked (version s)) (R.Rank (version s) (rank s (version s) c)) refl refl
answer_said o s (K.Reweigh c w) may = either (is_present s c) (R.Weighed (s.weight c)) R.NotHere refl refl
answer_said o s (K.Open most) may = absurd (true≢false (sym may))
answer_said o s (K.Short port units) may = absurd (true≢false (sym may))
answer_said o s K.Close may = absurd (true≢false (sym may))
answer_said o s (K.Skip to) may = absurd (true≢false (sym may))

worded : (o : Opening) (who : ℕ) (k : Command) (reply : Reply) → may_be_asked k ≡ true → IsSome (said_of reply) →
    IsSome (told_entry o (record { who = who; command = k; reply = reply }))
worded o who k reply may said = go (word_of o k) (said_of reply) (word_some k may) said
  where
    word_some : (k : Command) → may_be_asked k ≡ true → IsSome (word_of o k)
    word_some (K.Register c) may = refl
    word_some (K.Withdraw c) may = refl
    word_some K.Publish may = refl
    word_some (K.Pull c) may = refl
    word_some (K.Reweigh c w) may = refl
    word_some (K.Open most) may = refl
    word_some (K.Short port units) may = absurd (true≢false (sym may))
    word_some K.Close may = refl
    word_some (K.Skip to) may = absurd (true≢false (sym may))

    go : (w : Option Word) (s : Option Said) → IsSome w → IsSome s → IsSome (entry_with who w s)
    go (Some w) (Some s) hw hs = refl
    go None s hw hs = absurd (true≢false (sym hw))
    go (Some w) None hw hs = absurd (true≢false (sym hs))

-- ---- all together

module _ (o : Opening) (script : Script) (most : ℕ) (journal : List Entry) (wires : Wires) (course : Course) (x : CarriesOut o script most journal wires course) where
  parts_by : (who : ℕ) → All (Parts o) (entries_by journal who)
  parts_by zero = subst (All (Parts o)) (sym x.driver.entries) (all_spells o most (spells_of course.driving) x.driver.answers)
  parts_by (suc k) =
      of_client o (entries_by journal (suc k)) (subst (All MayStand) (sym (x.clients.entries (suc k) (omega arith))) (all_deeds (course.deeds (suc k))))

  here : (k : ℕ) (d : Entry) → k < length journal → HasParts o (get_or journal k d) → IsSome (told_entry o (get_or journal k d))
  here k d lt (inr words) = words
  here k d lt (inl may) = worded o e.who e.command e.reply may (subst (λ (r : Reply). IsSome (said_of r)) (sym reply) (answer_said o (state_of o (take k journal)) e.command may))
    where
      e : Entry
      e = get_or journal k d

      stands : journal ≡ take k journal ++ (e ∷ drop (k + 1) journal)
      stands = sym (take-append-drop k journal) ∙ ap (λ l. take k journal ++ l) (drop_more journal k d lt)

      there : (e.reply ≡ reply_of o (take k journal) e.command) × (is_full e.reply ≡ false)
      there = legal_there o (take k journal) (drop (k + 1) journal) e (subst (IsLegal o) stands x.work.legal)

      room_is : length (take k journal) < room o e.command
      room_is = leb-false (room o e.command) (length (take k journal)) (sym (full_is o (take k journal) e.command) ∙ ap is_full (sym there.0) ∙ there.1)

      reply : e.reply ≡ answer o (state_of o (take k journal)) e.command
      reply = there.0 ∙ answered o (take k journal) e.command room_is

  pub all_worded : All (λ (e : Entry). IsSome (told_entry o e)) journal
  all_worded k d lt = here k d lt (by_caller (HasParts o) 1 journal parts_by k d lt)
