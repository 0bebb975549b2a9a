-- The runs of a driver that is alone: what a slot of the runner makes of its journal and of the wires.
use Rattle.std.proofs.Common.{◌≡◌, ℕ, ◌+◌, ◌-◌, ◌≤◌, ◌<◌, inl, inr, Bool, true, true≢false, List, [], ◌∷◌, ◌++◌, get_or, length, refl, sym, ap, subst, ◌∙◌, arith}
use Rattle.std.proofs.Common.{append_assoc, append-nil, replicate}
use Rattle.std.specs.Prelude.{All, if◌then◌else◌, map, nat_lt}
use Rattle.std.specs.List.{filter, range_with_len}
use Rattle.std.proofs.lemmas.Bool.{cases_lt, lt-leb, lt-ltb}
use Rattle.std.proofs.lemmas.List.{get_or-append-add, get_or_append_left, get_or_past, get_or-replicate, length-append}
use Rattle.std.proofs.lemmas.List.Elements.{All-append, All-cons, All-nil}
use Rattle.std.proofs.lemmas.List.FromFn.{get_or-map-range_with_len, length-map-range_with_len}
use Rattle.coflow_units.specs.Schedule.{holds}
use Rattle.coflow_units.proofs.Lists.{filter_in}
use Rattle.coflow_units.proofs.Sums.{any_has, any_in}
use Rattle.journal.specs.declared.command.Command.TheVariants.{Close, Open}
use Rattle.journal.specs.declared.command.Entry.{Entry}
use Rattle.journal.specs.declared.command.Reply.{Reply}
use Rattle.journal.specs.declared.command.Reply.TheVariants.{Closed, Full, NoneOpen, Opened}
use Rattle.journal.specs.declared.opening.Opening.{Opening}
use Rattle.journal.specs.Answer.{answer, on_run, reply_of}
use Rattle.journal.specs.Closed.{schedule_of}
use Rattle.journal.specs.Driven.{closed_in, closing, Drive, driven, driven_slots, IsSentWhole, opened_in, opening, sent_from}
use Rattle.journal.specs.Fold.{state_of}
use Rattle.journal.specs.Journal.{entry, IsLegal}
use Rattle.journal.specs.Runs.{granted}
use Rattle.journal.specs.Sound.{InRange}
use Rattle.journal.proofs.Along.{all_front}
use Rattle.journal.proofs.Driving.{driven_even, driven_goes_on}
use Rattle.journal.proofs.Legal.{legal_front, legal_snoc}
use Rattle.journal.proofs.MovingEntries.{by_opening}
use Rattle.journal.proofs.OwnEntries.{own_close, own_whole}
use Rattle.journal.proofs.UnderWay.{within_limit}
use Rattle.client_session.specs.Models.{HallModel}
use Rattle.slot_runner.specs.Models.{MayRun, RunnerModel}
use Rattle.slot_runner.specs.Slots.{HasRun}
use Rattle.slot_runner.specs.Wires.{IsPartOf}
use Rattle.hall_plan.proofs.NobodyElse.{all_back, all_own, no_others, Own, shape}
use Rattle.hall_online.specs.Halls.{IsReady}
use Rattle.online_runs.proofs.Shapes.{drive_of, run_entries, run_is_driven}
use Rattle.online_runs.proofs.Standing.{Fits}

-- ---- one run

module _ (hall : HallModel) (old new : RunnerModel) (most : ℕ) (d : Drive) (h : IsReady hall old) (run : HasRun hall.setting.opening most d old new) where
  abbrev o : Opening
  o = hall.setting.opening

  abbrev j : List Entry
  j = old.driver.journal

  abbrev told : ℕ × ℕ × ℕ
  told = (d.first, d.slots, d.count)

  own : All Own new.driver.journal
  own k e lt = let le = run.numbers k e lt in let made = run.place.made in omega (arith, le, made, h.alone.made)

  own_all : All Own (closed_in j d ++ closing d ∷ [])
  own_all = subst (All Own) run.journal.goes_on own

  own_opened : All Own (opened_in j d)
  own_opened =
      all_front Own (opened_in j d) (opening d ∷ [])
      (all_front Own (opened_in j d ++ opening d ∷ []) d.between (all_front Own (closed_in j d) (closing d ∷ []) own_all))

  pub none_earlier : d.earlier ≡ []
  none_earlier = no_others d.earlier (all_back Own j d.earlier own_opened) run.journal.under_way.earlier

  own_before : All Own j
  own_before = all_front Own j d.earlier own_opened

  same_opened : opened_in j d ≡ j
  same_opened = ap (λ l. j ++ l) none_earlier ∙ append-nil j

  -- the run as it would be, were it sent whole
  pub legal_whole : IsLegal o (j ++ run_entries most told)
  legal_whole =
      let open' = entry 0 (Open most) (Opened d.first d.slots d.count) in
      let asked : opening d ≡ open' = ap (λ m. entry 0 (Open m) (Opened d.first d.slots d.count)) run.asked in
      let front : IsLegal o (closed_in j d) = legal_front o [] (closed_in j d) (closing d ∷ []) (subst (IsLegal o) run.journal.goes_on run.seen.legal) in
      let opened : IsLegal o (opened_in j d ++ opening d ∷ []) = legal_front o [] (opened_in j d ++ opening d ∷ []) d.between front in
      let here : IsLegal o (j ++ open' ∷ []) = subst (λ e. IsLegal o (j ++ e ∷ [])) asked (subst (λ l. IsLegal o (l ++ opening d ∷ [])) same_opened opened) in
      let opens = by_opening o j open' d.first d.slots d.count here refl in
      let close = entry 0 Close (Closed d.first) in
      let short : length (j ++ open' ∷ []) < o.limit + o.table.ports + 1 = omega (arith, within_limit o j [] open' here refl) in
      let reply : Closed d.first ≡ reply_of o (j ++ open' ∷ []) Close =
      sym (ap {B = Reply} (λ b. if b then Full (length (j ++ open' ∷ [])) else answer o (state_of o (j ++ open' ∷ [])) Close)
      (lt-leb (o.limit + o.table.ports + 1) (length (j ++ open' ∷ [])) short) ∙
      ap (λ x. on_run x (λ r. Closed r.first) NoneOpen) opens.run_after) in
      subst (IsLegal o) (append_assoc j (open' ∷ []) (close ∷ [])) (legal_snoc o (j ++ open' ∷ []) close here reply refl)

  same_driven : driven o j d ≡ driven o j (drive_of most told)
  same_driven = ap (λ l. granted o (state_of o l)) (same_opened ∙ sym (append-nil j))

  pub granted_is : new.granted ≡ driven o j (drive_of most told)
  granted_is = run.granted ∙ same_driven

  -- what was sent of it is part of it
  in_part : (p : ℕ → ℕ → Bool) (gs : List ℕ) (n i f : ℕ) → holds (get_or (map (λ i. filter (p i) gs) (range_with_len 0 n)) i []) f ≡ true → holds
      (get_or (replicate n gs) i []) f ≡ true
  in_part p gs n i f is = elim (cases_lt i n) [
    | inl lt ↦
        let at : get_or (map (λ i. filter (p i) gs) (range_with_len 0 n)) i [] ≡ filter (p i) gs = get_or-map-range_with_len (λ i. filter (p i) gs) 0 n i i [] lt (omega arith) in
        let has' = filter_in (p i) gs f (any_has (filter (p i) gs) f (sym (ap (λ s. holds s f) at) ∙ is)) in
        ap (λ s. holds s f) (get_or-replicate n i gs [] lt) ∙ any_in gs f has'.0
    | inr past ↦
        absurd
        (true≢false
        (sym is ∙
        ap (λ s. holds s f) (get_or_past (map (λ i. filter (p i) gs) (range_with_len 0 n)) i [] (omega (arith, past, length-map-range_with_len (λ i. filter (p i) gs) 0 n)))))
  ]

  after_both : (a x y : List (List ℕ)) → IsPartOf x y → IsPartOf (a ++ x) (a ++ y)
  after_both a x y part k f is = elim (cases_lt k (length a)) [
    | inl lt ↦ ap (λ l. holds l f) (get_or_append_left a y [] k lt ∙ sym (get_or_append_left a x [] k lt)) ∙ is
    | inr ge ↦
        let e : k ≡ length a + (k - length a) = omega (arith, ge) in
        let shift = λ (z : List (List ℕ)). ap (λ i. get_or (a ++ z) i []) e ∙ get_or-append-add a z (k - length a) [] in
        ap (λ s. holds s f) (shift y) ∙ part (k - length a) f (ap (λ s. holds s f) (sym (shift x)) ∙ is)
  ]

  module _ (some : 1 ≤ most) where
    range_whole : InRange o (j ++ run_entries most told)
    range_whole =
        All-append (Fits o) j (run_entries most told) h.alone.seen.in_range
        (All-cons (Fits o) (entry 0 (Open most) (Opened d.first d.slots d.count)) (entry 0 Close (Closed d.first) ∷ []) (lt-ltb 0 most (omega (arith, some)))
        (All-cons (Fits o) (entry 0 Close (Closed d.first)) [] refl (All-nil (Fits o))))

    pub whole_schedule : schedule_of o (j ++ run_entries most told) ≡ schedule_of o j ++ replicate d.slots (driven o j (drive_of most told))
    whole_schedule =
        (driven_goes_on o j (j ++ run_entries most told) (drive_of most told) legal_whole range_whole (run_is_driven o j most told)).schedule ∙
        ap (λ l. schedule_of o j ++ l) (driven_even o j (drive_of most told) (λ f in'. refl))

    pub sent_part : IsPartOf (schedule_of o new.driver.journal) (schedule_of o (j ++ run_entries most told))
    sent_part k f is =
        let gs = driven o j d in
        ap (λ l. holds (get_or l k []) f) (whole_schedule ∙ ap (λ g. schedule_of o j ++ replicate d.slots g) (sym same_driven)) ∙
        after_both (schedule_of o j) (driven_slots o.table.flows gs d) (replicate d.slots gs) (in_part (λ i f. nat_lt i (sent_from o.table.flows d f)) gs d.slots) k f
        (ap (λ l. holds (get_or l k []) f) (sym run.goes_on.schedule) ∙ is)

  module _ (whole : IsSentWhole o j d) where
    none_between : d.between ≡ []
    none_between =
        sym (all_own d.between (all_back Own (opened_in j d ++ opening d ∷ []) d.between (all_front Own (closed_in j d) (closing d ∷ []) own_all))) ∙
        own_whole o j new.driver.journal d run.journal whole

    pub one_run : new.driver.journal ≡ j ++ run_entries most told
    one_run =
        run.journal.goes_on ∙ shape j d.earlier d.between (opening d) (closing d) none_earlier none_between ∙
        ap (λ m. j ++ (entry 0 (Open m) (Opened d.first d.slots d.count) ∷ closing d ∷ [])) run.asked ∙
        ap (λ e. j ++ (entry 0 (Open most) (Opened d.first d.slots d.count) ∷ e ∷ [])) (own_close o j new.driver.journal d run.seen.legal run.journal)

    pub ready_after : MayRun hall new → IsReady hall new
    ready_after may = record {
      alone = record {
        driver_of = may.driver;
        made = run.place.made ∙ h.alone.made;
        journal_is = refl;
        seen = run.seen;
        opening = h.alone.opening;
        room = h.alone.room;
        calls = omega (
          arith,
          h.alone.calls,
          run.calls,
          ap (λ (l : List Entry). length l) (all_own new.driver.journal own),
          ap (λ (l : List Entry). length l) (all_own j own_before),
          ap (λ (l : List Entry). length l) one_run,
          length-append j (run_entries most told),
        );
      };
      may = may;
    }
