-- There is one online run: the actions leave no choice, and the commands determine the replies.
use Rattle.std.proofs.Common.{◌≡◌, ℕ, ◌<◌, ◌≤◌, ◌⊎◌, inl, inr, true, false, true≢false, List, [], ◌∷◌, ◌++◌, get_or, length, map, refl, sym, ap, subst, ◌∙◌, arith}
use Rattle.std.proofs.Common.{append-nil, append_assoc}
use Rattle.std.proofs.lemmas.Bool.{cases_lt}
use Rattle.std.proofs.lemmas.List.{append_cancel_left, get_or_append_left, get_or_past, length-append, map-append}
use Rattle.coflow_units.specs.Schedule.{holds}
use Rattle.epochs.specs.declared.action.Action.{Action}
use Rattle.epochs.specs.declared.action.Action.TheVariants.{End, TooMany}
use Rattle.epochs.specs.Choice.{IsFirstAction, place}
use Rattle.epochs.specs.Course.{after, at_first, Course}
use Rattle.journal.specs.declared.command.Entry.{Entry}
use Rattle.journal.specs.declared.opening.Opening.{Opening}
use Rattle.journal.specs.Answer.{in_range}
use Rattle.journal.specs.Closed.{schedule_of, slots_added}
use Rattle.journal.specs.Fold.{state_of}
use Rattle.journal.specs.Journal.{asked, IsLegal}
use Rattle.journal.specs.Sound.{InRange}
use Rattle.journal.proofs.Along.{all_front}
use Rattle.journal.proofs.Legal.{legal_front, one_journal}
use Rattle.journal.proofs.Schedules.{schedule_push}
use Rattle.online_runs.specs.Deeds.{AreDoneFrom, commands_of, course_from, course_of, Deed, DoesNext, IsDone, IsOnlineRun, IsOnlineSoFar, journal_of, owed_after}
use Rattle.online_runs.specs.Deeds.{PublishesTooMany, time_of}
use Rattle.online_runs.specs.Input.{IsOnlineInput}
use Rattle.online_runs.proofs.Along.{holds_so_far}
use Rattle.online_runs.proofs.Shapes.{none_asked}

-- at most one action is the first that applies
abbrev pub OneAction : Type 0
OneAction = (s : Course) (time : ℕ) (owed : List ℕ) (a b : Action) → IsFirstAction s time owed a → IsFirstAction s time owed b → a ≡ b

abbrev make : Action → List Entry → Deed
make a es = record { action = a; entries = es }

module _ (one : OneAction) (o : Opening) where
  same_deed : (s : Course) (j more rest : List Entry) (d e : Deed) → IsDone o s j d → IsDone o s j e → IsLegal o (j ++ (d.entries ++ more)) →
      IsLegal o (j ++ (e.entries ++ rest)) → d ≡ e
  same_deed s j more rest d e dd de ld le =
      let action : d.action ≡ e.action = one s (time_of o j) (owed_after o j) d.action e.action dd.first de.first in
      let front = λ (es more : List Entry) (l : IsLegal o (j ++ (es ++ more))). legal_front o [] (j ++ es) more (subst (IsLegal o) (sym (append_assoc j es more)) l) in
      let asks : map asked (j ++ d.entries) ≡ map asked (j ++ e.entries) =
      map-append asked j d.entries ∙ ap (λ l. map asked j ++ l) (dd.asks ∙ ap (λ a. map (λ k. (0, k)) (commands_of a)) action ∙ sym de.asks) ∙ sym (map-append asked j e.entries) in
      let entries : d.entries ≡ e.entries =
      append_cancel_left j d.entries e.entries (one_journal o (j ++ d.entries) (j ++ e.entries) (front d.entries more ld) (front e.entries rest le) asks) in
      ap (λ a. make a d.entries) action ∙ ap (make e.action) entries

  -- of two online runs so far one goes on from the other
  pub goes_on_from : (s : Course) (j : List Entry) (ds es : List Deed) → AreDoneFrom o s j ds → AreDoneFrom o s j es → IsLegal o (j ++ journal_of ds) →
      IsLegal o (j ++ journal_of es) →
      ((rest : List Deed) × (es ≡ ds ++ rest)) ⊎ ((rest : List Deed) × (ds ≡ es ++ rest))
  goes_on_from s j [] es dd de ld le = inl (es, refl)
  goes_on_from s j (d ∷ ds) [] dd de ld le = inr (d ∷ ds, refl)
  goes_on_from s j (d ∷ ds) (e ∷ es) dd de ld le =
      let same = same_deed s j (journal_of ds) (journal_of es) d e dd.0 de.0 ld le in
      let next = after s (time_of o j) d.action in
      let le' = subst (λ x. IsLegal o (j ++ (x.entries ++ journal_of es))) (sym same) le in
      let de' = subst (λ x. AreDoneFrom o (after s (time_of o j) x.action) (j ++ x.entries) es) (sym same) de.1 in
      let ld' = subst (IsLegal o) (sym (append_assoc j d.entries (journal_of ds))) ld in
      let le'' = subst (IsLegal o) (sym (append_assoc j d.entries (journal_of es))) le' in
      elim (goes_on_from next (j ++ d.entries) ds es dd.1 de' ld' le'') [
        | inl (rest, is) ↦ inl (rest, ap (λ x. x ∷ es) (sym same) ∙ ap (λ l. d ∷ l) is)
        | inr (rest, is) ↦ inr (rest, ap (λ l. d ∷ l) is ∙ ap (λ x. x ∷ (es ++ rest)) same)
      ]

  -- where the first action changes nothing, nothing comes after it
  pub stuck : (a : Action) (s : Course) (j : List Entry) (ds : List Deed) → IsFirstAction s (time_of o j) (owed_after o j) a → commands_of a ≡ [] →
      ((t : ℕ) → after s t a ≡ s) → AreDoneFrom o s j ds → (journal_of ds ≡ []) × (course_from o s j ds ≡ s)
  stuck a s j [] first none still done = (refl, refl)
  stuck a s j (d ∷ ds) first none still done =
      let is : d.action ≡ a = one s (time_of o j) (owed_after o j) d.action a done.0.first first in
      let empty : d.entries ≡ [] = none_asked d.entries (done.0.asks ∙ ap (λ x. map (λ k. (0, k)) (commands_of x)) is ∙ ap (λ l. map (λ k. (0, k)) l) none) in
      let here : j ++ d.entries ≡ j = ap (λ l. j ++ l) empty ∙ append-nil j in
      let same : after s (time_of o j) d.action ≡ s = ap (after s (time_of o j)) is ∙ still (time_of o j) in
      let rest : AreDoneFrom o s j ds = subst (λ l. AreDoneFrom o s l ds) here (subst (λ c. AreDoneFrom o c (j ++ d.entries) ds) same done.1) in
      let (nothing, course) = stuck a s j ds first none still rest in (
        ap (λ l. l ++ journal_of ds) empty ∙ nothing,
        ap (λ c. course_from o c (j ++ d.entries) ds) same ∙ ap (λ l. course_from o s l ds) here ∙ course,
      )

  course_append : (s : Course) (j : List Entry) (ds es : List Deed) → course_from o s j (ds ++ es) ≡ course_from o (course_from o s j ds) (j ++ journal_of ds) es
  course_append s j [] es = ap (λ l. course_from o s l es) (sym (append-nil j))
  course_append s j (d ∷ ds) es =
      course_append (after s (time_of o j) d.action) (j ++ d.entries) ds es ∙
      ap (λ l. course_from o (course_from o s j (d ∷ ds)) l es) (append_assoc j d.entries (journal_of ds))

  done_rest : (s : Course) (j : List Entry) (ds es : List Deed) → AreDoneFrom o s j (ds ++ es) → AreDoneFrom o (course_from o s j ds) (j ++ journal_of ds) es
  done_rest s j [] es done = subst (λ l. AreDoneFrom o s l es) (sym (append-nil j)) done
  done_rest s j (d ∷ ds) es done =
      subst (λ l. AreDoneFrom o (course_from o s j (d ∷ ds)) l es) (append_assoc j d.entries (journal_of ds))
      (done_rest (after s (time_of o j) d.action) (j ++ d.entries) ds es done.1)

  journal_append : (ds es : List Deed) → journal_of (ds ++ es) ≡ journal_of ds ++ journal_of es
  journal_append [] es = refl
  journal_append (d ∷ ds) es = ap (λ l. d.entries ++ l) (journal_append ds es) ∙ sym (append_assoc d.entries (journal_of ds) (journal_of es))

  module _ (arrivals : List ℕ) (every : ℕ) where
    -- an online run that cannot go on has the journal and the course of each that goes on from it
    no_more : (a : Action) (ds rest : List Deed) → DoesNext o arrivals every ds a → commands_of a ≡ [] → ((s : Course) (t : ℕ) → after s t a ≡ s) →
        IsOnlineSoFar o arrivals every (ds ++ rest) →
        (journal_of (ds ++ rest) ≡ journal_of ds) × (course_of o arrivals every (ds ++ rest) ≡ course_of o arrivals every ds)
    no_more a ds rest first none still h =
        let s = course_of o arrivals every ds in
        let (nothing, course) = stuck a s (journal_of ds) rest first none (still s) (done_rest (at_first arrivals every) [] ds rest h.done) in (
          journal_append ds rest ∙ ap (λ l. journal_of ds ++ l) nothing ∙ append-nil (journal_of ds),
          course_append (at_first arrivals every) [] ds rest ∙ course,
        )

    does_too : (a : Action) (ds es : List Deed) → journal_of es ≡ journal_of ds → course_of o arrivals every es ≡ course_of o arrivals every ds → DoesNext o arrivals every es a →
        DoesNext o arrivals every ds a
    does_too a ds es j c h =
        subst (λ l. IsFirstAction (course_of o arrivals every ds) (time_of o l) (owed_after o l) a) j
        (subst (λ s. IsFirstAction s (time_of o (journal_of es)) (owed_after o (journal_of es)) a) c h)

    -- two online runs so far that cannot go on are the same, with the same next action
    pub both_stop : (a b : Action) (ds es : List Deed) → commands_of a ≡ [] → commands_of b ≡ [] → ((s : Course) (t : ℕ) → after s t a ≡ s) → ((s : Course) (t : ℕ) →
        after s t b ≡ s) →
        IsOnlineSoFar o arrivals every ds → IsOnlineSoFar o arrivals every es → DoesNext o arrivals every ds a → DoesNext o arrivals every es b →
        (journal_of ds ≡ journal_of es) × (a ≡ b)
    both_stop a b ds es na nb sa sb hd he fa fb = elim (goes_on_from (at_first arrivals every) [] ds es hd.done he.done hd.legal he.legal) [
      | inl (rest, is) ↦
          let (j, c) = no_more a ds rest fa na sa (subst (IsOnlineSoFar o arrivals every) is he) in
          let j' : journal_of es ≡ journal_of ds = ap journal_of is ∙ j in
          let c' : course_of o arrivals every es ≡ course_of o arrivals every ds = ap (course_of o arrivals every) is ∙ c in
          (sym j', one (course_of o arrivals every ds) (time_of o (journal_of ds)) (owed_after o (journal_of ds)) a b fa (does_too b ds es j' c' fb))
      | inr (rest, is) ↦
          let (j, c) = no_more b es rest fb nb sb (subst (IsOnlineSoFar o arrivals every) is hd) in
          let j' : journal_of ds ≡ journal_of es = ap journal_of is ∙ j in
          let c' : course_of o arrivals every ds ≡ course_of o arrivals every es = ap (course_of o arrivals every) is ∙ c in
          (j', one (course_of o arrivals every es) (time_of o (journal_of es)) (owed_after o (journal_of es)) a b (does_too a es ds j' c' fa) fb)
    ]

    pub one_run : (a b : List Entry) → IsOnlineRun o arrivals every a → IsOnlineRun o arrivals every b → a ≡ b
    one_run a b ra rb =
        ra.journal_is ∙ (both_stop End End ra.deeds rb.deeds refl refl (λ s t. refl) (λ s t. refl) ra.so_far rb.so_far ra.ends rb.ends).0 ∙ sym rb.journal_is

    pub never_both : (a : List Entry) (count : ℕ) → IsOnlineRun o arrivals every a → PublishesTooMany o arrivals every count → ⊥
    never_both a count ra x =
        let same : End ≡ TooMany count = (both_stop End (TooMany count) ra.deeds x.deeds refl refl (λ s t. refl) (λ s t. refl) ra.so_far x.so_far ra.ends x.next).1 in
        let off : place End ≡ place (TooMany count) = ap place same in
        omega (arith, off)

-- ---- the slots of a front are the first slots

schedule_front : (o : Opening) (j more : List Entry) → IsLegal o (j ++ more) → InRange o (j ++ more) → (k : ℕ) → k < length (schedule_of o j) →
    get_or (schedule_of o (j ++ more)) k [] ≡ get_or (schedule_of o j) k []
schedule_front o j [] legal fit k lt = ap (λ l. get_or (schedule_of o l) k []) (append-nil j)
schedule_front o j (e ∷ es) legal fit k lt =
    let again : (j ++ e ∷ []) ++ es ≡ j ++ (e ∷ es) = append_assoc j (e ∷ []) es in
    let legal' = subst (IsLegal o) (sym again) legal in
    let fit' = subst (InRange o) (sym again) fit in
    let front = legal_front o [] (j ++ e ∷ []) es legal' in
    let fit_j = all_front (λ (e : Entry). in_range o e.command ≡ true) j (e ∷ es) fit in
    let added = slots_added o.table.flows (state_of o j).next (state_of o j).run e.reply in
    let longer = schedule_push o j e front fit_j in
    ap (λ l. get_or (schedule_of o l) k []) (sym again) ∙
    schedule_front o (j ++ e ∷ []) es legal' fit' k (omega (arith, lt, ap (λ (l : List (List ℕ)). length l) longer, length-append (schedule_of o j) added)) ∙
    ap (λ l. get_or l k []) longer ∙ get_or_append_left (schedule_of o j) added [] k lt

inside_front : (n k : ℕ) → (n ≤ k → ⊥) → k < n
inside_front n k not' = elim (cases_lt k n) [
  | inl lt ↦ lt
  | inr past ↦ absurd (not' past)
]

none_past : (l : List (List ℕ)) (k f : ℕ) → length l ≤ k → holds (get_or l k []) f ≡ false
none_past l k f past = ap (λ s. holds s f) (get_or_past l k [] past)

-- what was served so far is part of what is served to the end
pub is_part : (one : OneAction) (o : Opening) (arrivals : List ℕ) (every : ℕ) (ds : List Deed) (journal : List Entry) → IsOnlineInput o arrivals every →
    IsOnlineSoFar o arrivals every ds →
    IsOnlineRun o arrivals every journal → (k f : ℕ) → holds (get_or (schedule_of o (journal_of ds)) k []) f ≡ true → holds (get_or (schedule_of o journal) k []) f ≡ true
is_part one o arrivals every ds journal i h run k f is =
    let es = run.deeds in
    let past = λ (le : length (schedule_of o (journal_of ds)) ≤ k). true≢false (sym is ∙ none_past (schedule_of o (journal_of ds)) k f le) in
    elim (goes_on_from one o (at_first arrivals every) [] ds es h.done run.so_far.done h.legal run.so_far.legal) [
      | inl (rest, e) ↦
          let longer : journal ≡ journal_of ds ++ journal_of rest = run.journal_is ∙ ap journal_of e ∙ journal_append one o ds rest in
          let st = (holds_so_far o arrivals every es i run.so_far).stands in
          let legal = subst (IsLegal o) (sym run.journal_is ∙ longer) st.journal.legal in
          let fit = subst (InRange o) (sym run.journal_is ∙ longer) st.journal.in_range in
          let low = inside_front (length (schedule_of o (journal_of ds))) k past in
          ap (λ s. holds s f) (ap (λ l. get_or (schedule_of o l) k []) longer ∙ schedule_front o (journal_of ds) (journal_of rest) legal fit k low) ∙ is
      | inr (rest, e) ↦
          let (j, c) = no_more one o arrivals every End es rest run.ends refl (λ s t. refl) (subst (IsOnlineSoFar o arrivals every) e h) in
          ap (λ l. holds (get_or (schedule_of o l) k []) f) (run.journal_is ∙ sym (ap journal_of e ∙ j)) ∙ is
    ]
