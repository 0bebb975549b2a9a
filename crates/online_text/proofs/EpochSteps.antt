-- A draft that takes the lines of a publishing.
use Rattle.std.proofs.Common.{◌≡◌, ℕ, ◌+◌, ◌<◌, ◌^◌, List, [], ◌∷◌, ◌++◌, Bool, true, false}
use Rattle.std.proofs.Common.{append_assoc, append-nil, length, length-append, map, drop, refl, sym, ap, subst, ◌∙◌, arith}
use Rattle.std.specs.Prelude.{◌↔◌, All, Err, IfOk, None, Ok, Result, codes}
use Rattle.std.specs.List.{flat_map}
use Rattle.std.specs.List.Sorted.{IsStrictlyIncreasing}
use Rattle.std.proofs.lemmas.List.{get_or_append_left, map-append}
use Rattle.std.proofs.lemmas.List.Elements.{All-push}
use Rattle.std.specs.declared.vec.Vec.{Vec}
use Rattle.std.specs.declared.alloc.Global.{Global}
use Rattle.coflow_units.specs.declared.fabric.Side.TheVariants.{Ingress}
use Rattle.coflow_units.proofs.Fronts.{head_of}
use Rattle.report_text.specs.Readers.{IsTotalOf, Rises}
use Rattle.report_text.specs.Text.{bound_line, cost_line}
use Rattle.report_text.proofs.LineLists.{first, tail_is}
use Rattle.report_text.proofs.NumberText.{decimal_one}
use Rattle.online_text.specs.declared.value.Epoch.{Epoch}
use Rattle.online_text.specs.declared.value.Online.{Online}
use Rattle.online_text.specs.declared.value.OnlinePlace.{OnlinePlace}
use Rattle.online_text.specs.Online.{HasSmallNumbers, IsOnline, IsSmallCharge, IsSmallEpoch}
use Rattle.online_text.specs.Text.{done_line, epoch_lines, lines_from_done, lines_from_release, order_line, order_lines, time_line}
use Rattle.online_text.proofs.OneLines.{order_unique}
use Rattle.online_text.proofs.OneText.{BeginsOther, block_parts, done_begins}
use Rattle.online_text.specs.declared.draft.Draft.{Draft}
use Rattle.online_text.specs.declared.draft.Stage.TheVariants.{Done, Epochs, Places}
use Rattle.online_text.specs.Draft.{AreLeft, Follows, GoesOnAt, IsDraft, IsDraftAt, IsLeft, Refuses, Takes, lines_from, opened}
use Rattle.online_text.specs.Readers.{IsPlaceOf, IsTimeOf}
use Rattle.online_text.proofs.LeftLines.{all_front, all_middle, counted_from, each_from, ended_with, ends_with, item_taken, started, starts}
use Rattle.online_text.proofs.StageSteps.{at_stage, draft_at, draft_back, follows, goes_at, goes_back, refuses}

abbrev time_in : Epoch → ℕ
time_in e = e.time

abbrev IsSmall : OnlinePlace → Type 0
IsSmall p = IsSmallCharge p.id p.port p.y

rising_front : (xs ys : List Epoch) → IsStrictlyIncreasing (map time_in (xs ++ ys)) → IsStrictlyIncreasing (map time_in xs)
rising_front xs ys up k lt =
    let joined = subst IsStrictlyIncreasing (map-append time_in xs ys) up in
    omega (
      arith,
      joined k (omega (arith, lt, length-append (map time_in xs) (map time_in ys))),
      get_or_append_left (map time_in xs) (map time_in ys) 0 k (omega arith),
      get_or_append_left (map time_in xs) (map time_in ys) 0 (k + 1) lt,
    )

small_epoch : (o : Online) (xs es : List Epoch) (e : Epoch) → HasSmallNumbers o → o.epochs ≡ xs ++ (e ∷ es) → IsSmallEpoch e
small_epoch o xs es e small has = all_middle IsSmallEpoch xs es e (subst (All IsSmallEpoch) has small.epochs)

-- the lines of an order, and those behind it
order_counted : (places : List OnlinePlace) → order_lines places ≡ lines_from order_line 0 places
order_counted places = counted_from order_line record { id = 0; port = record { side = Ingress; number = 0 }; y = 0 } places

-- the lines behind the order of a publishing
abbrev behind_order : Online → Epoch → List Epoch → List (List ℕ)
behind_order o e es = bound_line e.bound ∷ (flat_map epoch_lines es ++ lines_from_done o)

-- the first of the publishings that are left, where its line is known
next_block : (o : Online) (x : Epoch) (es : List Epoch) (line : List ℕ) (more : List (List ℕ)) → line ∷ more ≡ flat_map epoch_lines (x ∷ es) ++ lines_from_done o →
    (line ≡ time_line x.time) × (more ≡ order_lines x.places ++ behind_order o x es)
next_block o x es line more e =
    let rest = flat_map epoch_lines es ++ lines_from_done o in
    let blocks : line ∷ more ≡ time_line x.time ∷ (order_lines x.places ++ behind_order o x es) =
    e ∙ (append_assoc (epoch_lines x) (flat_map epoch_lines es) (lines_from_done o) ∙ block_parts x rest) in
    let tail = order_lines x.places ++ behind_order o x es in
    (head_of line (time_line x.time) more tail blocks, tail_is line (time_line x.time) more tail blocks)

next_epoch : (d : Draft) (o : Online) (line : List ℕ) (more : List (List ℕ)) (time : ℕ) → line ≡ time_line time → time < 2 ^ 64 → HasSmallNumbers o →
    IsLeft Epochs d o (line ∷ more) →
    (e : Epoch) × (es : List Epoch) × (o.epochs ≡ d.epochs.items ++ (e ∷ es)) × (e.time ≡ time) × (more ≡ order_lines e.places ++ behind_order o e es)
next_epoch d o line more time is fits small ([], has, e) =
    let other : first line ≡ 101 → ⊥ = subst (BeginsOther 101) (sym e) (done_begins o.done o.cost (lines_from_release o)) in
    absurd (other (ap first is))
next_epoch d o line more time is fits small (x ∷ es, has, e) =
    let next = next_block o x es line more e in
    let small_x = small_epoch o d.epochs.items es x small has in
    let same : x.time ≡ time = decimal_one x.time time (omega (arith, small_x.time)) (omega (arith, fits)) (ap (drop 6) (sym next.0 ∙ is)) in
    (x, es, has, same, next.1)

-- ---- the line of a publishing

abbrev pub with_time : Draft → ℕ → Draft
with_time d time = record {
  stage = Places;
  epochs = d.epochs;
  time = time;
  places = d.places;
  done = d.done;
  cost = d.cost;
  release = d.release;
  total = d.total;
  runs = d.runs;
  slots = d.slots;
}

pub epoch_taken : (d : Draft) (time : ℕ) (line : List ℕ) → IsDraft d → d.stage ≡ Epochs → time < 2 ^ 64 → line ≡ time_line time →
    Rises (map time_in d.epochs.items) time true → IsDraft (with_time d time) × Follows d (with_time d time) line
epoch_taken d time line h stage fits is up = (draft, follows d new Epochs Places line stage refl (λ o more online small. (forward o more small, backward o more)))
  where
    new : Draft
    new = with_time d time

    at : IsDraftAt Epochs d
    at = draft_at d Epochs stage h

    none : d.places.items ≡ []
    none = let (places, done, release, runs) = at.later in places

    open_small : IsSmallEpoch (opened new)
    open_small = record { time = fits; count = omega (arith, ap length none); places = λ k p lt. absurd (omega (arith, lt, ap length none)); bound = omega arith }

    draft : IsDraft new
    draft = record {
      online = record {
        rising = subst IsStrictlyIncreasing (sym (map-append time_in d.epochs.items (opened new ∷ []))) (up at.online.rising);
        run = at.online.run;
        few_slots = at.online.few_slots;
        maximal = at.online.maximal;
      };
      small = record {
        epochs = All-push IsSmallEpoch d.epochs.items (opened new) at.small.epochs open_small;
        done = at.small.done;
        cost = at.small.cost;
        count = at.small.count;
        release = at.small.release;
        total = at.small.total;
      };
      slots = at.slots;
      later = let (places, done, release, runs) = at.later in (done, release, runs);
    }

    forward : (o : Online) (more : List (List ℕ)) → HasSmallNumbers o → GoesOnAt Epochs d o (line ∷ more) → GoesOnAt Places new o more
    forward o more small (before, left) =
        let (e, es, has, same, rest) = next_epoch d o line more time is fits small left in (
          tt,
          (
            e,
            es,
            has,
            same,
            starts order_line d.places.items e.places (behind_order o e es) more none (rest ∙ ap (λ ls. ls ++ behind_order o e es) (order_counted e.places)),
          ),
        )

    backward : (o : Online) (more : List (List ℕ)) → GoesOnAt Places new o more → GoesOnAt Epochs d o (line ∷ more)
    backward o more (before, (e, es, has, same, left)) =
        let rest : more ≡ order_lines e.places ++ behind_order o e es =
        started order_line d.places.items e.places (behind_order o e es) more none left ∙ ap (λ ls. ls ++ behind_order o e es) (sym (order_counted e.places)) in
        let head : line ≡ time_line e.time = is ∙ ap time_line (sym same) in
        let whole = append_assoc (epoch_lines e) (flat_map epoch_lines es) (lines_from_done o) ∙ block_parts e (flat_map epoch_lines es ++ lines_from_done o) in
        (tt, (e ∷ es, has, (λ i. head i ∷ rest i) ∙ sym whole))

pub epoch_refused : (d : Draft) (time : ℕ) (line : List ℕ) → d.stage ≡ Epochs → time < 2 ^ 64 → line ≡ time_line time → Rises (map time_in d.epochs.items) time false →
    Refuses d line
epoch_refused d time line stage fits is falls = refuses d Epochs line stage
    (λ o more online small g. let (e, es, has, same, rest) = next_epoch d o line more time is fits small g.1 in falls (up o e es has same online))
  where
    up : (o : Online) (e : Epoch) (es : List Epoch) → o.epochs ≡ d.epochs.items ++ (e ∷ es) → e.time ≡ time → IsOnline o →
        IsStrictlyIncreasing (map time_in d.epochs.items ++ (time ∷ []))
    up o e es has same online =
        let parted : o.epochs ≡ (d.epochs.items ++ (e ∷ [])) ++ es = has ∙ sym (append_assoc d.epochs.items (e ∷ []) es) in
        let front = rising_front (d.epochs.items ++ (e ∷ [])) es (subst (λ z. IsStrictlyIncreasing (map time_in z)) parted online.rising) in
        subst IsStrictlyIncreasing (map-append time_in d.epochs.items (e ∷ []) ∙ ap (λ t. map time_in d.epochs.items ++ (t ∷ [])) same) front

-- ---- the publishings are over

over_both : (d : Draft) (line : List ℕ) → IsDraftAt Epochs d → IsTimeOf line None → (o : Online) (more : List (List ℕ)) → HasSmallNumbers o →
    GoesOnAt Epochs d o (line ∷ more) ↔ GoesOnAt Done d o (line ∷ more)
over_both d line at none o more small = (forward, backward)
  where
    behind : List (List ℕ)
    behind = cost_line o.cost ∷ lines_from_release o

    empty : d.done.items ≡ []
    empty = let (places, done, release, runs) = at.later in done

    forward : GoesOnAt Epochs d o (line ∷ more) → GoesOnAt Done d o (line ∷ more)
    forward (before, ([], has, e)) = (
      has ∙ append-nil d.epochs.items,
      starts (λ k. done_line) d.done.items o.done behind (line ∷ more) empty (e ∙ ap (λ ls. ls ++ behind) (each_from done_line 0 o.done)),
    )
    forward (before, (x ∷ es, has, e)) = absurd (none x.time (small_epoch o d.epochs.items es x small has).time (next_block o x es line more e).0)

    backward : GoesOnAt Done d o (line ∷ more) → GoesOnAt Epochs d o (line ∷ more)
    backward (same, left) = (
      tt,
      (
        [],
        same ∙ sym (append-nil d.epochs.items),
        started (λ k. done_line) d.done.items o.done behind (line ∷ more) empty left ∙ ap (λ ls. ls ++ behind) (sym (each_from done_line 0 o.done)),
      ),
    )

pub over_draft : (d : Draft) → IsDraft d → d.stage ≡ Epochs → IsDraft (at_stage d Done)
over_draft d h stage =
    let at : IsDraftAt Epochs d = draft_at d Epochs stage h in
    record { online = at.online; small = at.small; slots = at.slots; later = let (places, done, release, runs) = at.later in (release, runs) }

pub over_takes : (d new : Draft) (line : List ℕ) (taken : Bool) → IsDraft d → d.stage ≡ Epochs → IsTimeOf line None → Takes (at_stage d Done) new line taken →
    Takes d new line taken
over_takes d new line true h stage none (draft, goes_on) =
    let both = over_both d line (draft_at d Epochs stage h) none in (
      draft,
      λ o more online small. (
        (λ g. (goes_on o more online small).0 ((both o more small).0 (goes_at d Epochs o (line ∷ more) stage g))),
        (λ g. goes_back d Epochs o (line ∷ more) stage ((both o more small).1 ((goes_on o more online small).1 g))),
      ),
    )
over_takes d new line false h stage none refused =
    λ o more online small g. refused o more online small ((over_both d line (draft_at d Epochs stage h) none o more small).0 (goes_at d Epochs o (line ∷ more) stage g))

pub over_answers : {E : Type 0} (d new : Draft) (line : List ℕ) (answer : Result Bool E) → IsDraft d → d.stage ≡ Epochs → IsTimeOf line None →
    IfOk answer (λ taken. Takes (at_stage d Done) new line taken) → IfOk answer (λ taken. Takes d new line taken)
over_answers d new line (Ok taken) h stage none takes = over_takes d new line taken h stage none takes
over_answers d new line (Err e) h stage none takes = takes

-- ---- the line of a place

abbrev pub with_places : Draft → Vec OnlinePlace Global → Draft
with_places d places = record {
  stage = d.stage;
  epochs = d.epochs;
  time = d.time;
  places = places;
  done = d.done;
  cost = d.cost;
  release = d.release;
  total = d.total;
  runs = d.runs;
  slots = d.slots;
}

same_times : (xs : List Epoch) (a b : Epoch) → a.time ≡ b.time → map time_in (xs ++ (a ∷ [])) ≡ map time_in (xs ++ (b ∷ []))
same_times xs a b same = map-append time_in xs (a ∷ []) ∙ (ap (λ t. map time_in xs ++ (t ∷ [])) same ∙ sym (map-append time_in xs (b ∷ [])))

pub place_taken : (d : Draft) (places : Vec OnlinePlace Global) (p : OnlinePlace) (line : List ℕ) → IsDraft d → d.stage ≡ Places → places.items ≡ d.places.items ++ (p ∷ []) →
    IsSmallCharge p.id p.port p.y → line ≡ order_line (length d.places.items + 1) p → length d.places.items < 2 ^ 64 →
    IsDraft (with_places d places) × Follows d (with_places d places) line
place_taken d places p line h stage grown fits is few = (
  draft_back new Places stage draft,
  follows d new Places Places line stage stage (λ o more online small. (forward o more small, backward o more small)),
)
  where
    new : Draft
    new = with_places d places

    at : IsDraftAt Places d
    at = draft_at d Places stage h

    open_small : IsSmallEpoch (opened d)
    open_small = all_middle IsSmallEpoch d.epochs.items [] (opened d) at.small.epochs

    more_small : IsSmallEpoch (opened new)
    more_small = record {
      time = open_small.time;
      count = omega (arith, ap length grown, length-append d.places.items (p ∷ []), few);
      places = subst (All IsSmall) (sym grown) (All-push IsSmall d.places.items p open_small.places fits);
      bound = open_small.bound;
    }

    draft : IsDraftAt Places new
    draft = record {
      online = record {
        rising = subst IsStrictlyIncreasing (same_times d.epochs.items (opened d) (opened new) refl) at.online.rising;
        run = at.online.run;
        few_slots = at.online.few_slots;
        maximal = at.online.maximal;
      };
      small = record {
        epochs = All-push IsSmallEpoch d.epochs.items (opened new) (all_front IsSmallEpoch d.epochs.items (opened d ∷ []) at.small.epochs) more_small;
        done = at.small.done;
        cost = at.small.cost;
        count = at.small.count;
        release = at.small.release;
        total = at.small.total;
      };
      slots = at.slots;
      later = at.later;
    }

    both : (o : Online) (more : List (List ℕ)) (e : Epoch) (es : List Epoch) → HasSmallNumbers o → o.epochs ≡ d.epochs.items ++ (e ∷ es) →
        AreLeft order_line d.places.items e.places (behind_order o e es) (line ∷ more) ↔ AreLeft order_line places.items e.places (behind_order o e es) more
    both o more e es small has = item_taken order_line IsSmall d.places.items places.items e.places p line (bound_line e.bound) (flat_map epoch_lines es ++ lines_from_done o) more
        (small_epoch o d.epochs.items es e small has).places grown is (λ bad. absurd (let h : 112 ≡ 98 = ap first (sym is ∙ bad) in omega (arith, h)))
        (λ q small_q same. order_unique (length d.places.items + 1) q p small_q fits same)

    forward : (o : Online) (more : List (List ℕ)) → HasSmallNumbers o → GoesOnAt Places d o (line ∷ more) → GoesOnAt Places new o more
    forward o more small (before, (e, es, has, same, left)) = (tt, (e, es, has, same, (both o more e es small has).0 left))

    backward : (o : Online) (more : List (List ℕ)) → HasSmallNumbers o → GoesOnAt Places new o more → GoesOnAt Places d o (line ∷ more)
    backward o more small (before, (e, es, has, same, left)) = (tt, (e, es, has, same, (both o more e es small has).1 left))

-- ---- the line of the bound

abbrev pub with_epochs : Draft → Vec Epoch Global → Vec OnlinePlace Global → Draft
with_epochs d epochs places = record {
  stage = Epochs;
  epochs = epochs;
  time = d.time;
  places = places;
  done = d.done;
  cost = d.cost;
  release = d.release;
  total = d.total;
  runs = d.runs;
  slots = d.slots;
}

-- the publishing whose order was read, with its bound
abbrev pub closed : Draft → ℕ → Epoch
closed d bound = record { time = d.time; places = d.places.items; bound = bound }

-- the order is read whole where no place has the line
order_over : (d : Draft) (line : List ℕ) → IsPlaceOf (length d.places.items + 1) line None → (o : Online) (more : List (List ℕ)) (e : Epoch) (es : List Epoch) →
    HasSmallNumbers o → o.epochs ≡ d.epochs.items ++ (e ∷ es) → AreLeft order_line d.places.items e.places (behind_order o e es) (line ∷ more) →
    (e.places ≡ d.places.items) × (line ≡ bound_line e.bound) × (more ≡ flat_map epoch_lines es ++ lines_from_done o)
order_over d line none o more e es small has left =
    ended_with order_line IsSmall d.places.items e.places line (bound_line e.bound) (flat_map epoch_lines es ++ lines_from_done o) more
    (small_epoch o d.epochs.items es e small has).places none left

pub bound_taken : (d : Draft) (epochs : Vec Epoch Global) (places : Vec OnlinePlace Global) (bound : ℕ) (line : List ℕ) → IsDraft d → d.stage ≡ Places → places.items ≡ [] →
    epochs.items ≡ d.epochs.items ++ (closed d bound ∷ []) → bound < 2 ^ 128 → line ≡ bound_line bound → IsPlaceOf (length d.places.items + 1) line None →
    IsDraft (with_epochs d epochs places) × Follows d (with_epochs d epochs places) line
bound_taken d epochs places bound line h stage empty grown fits is none =
    (draft, follows d new Places Epochs line stage refl (λ o more online small. (forward o more small, backward o more)))
  where
    new : Draft
    new = with_epochs d epochs places

    at : IsDraftAt Places d
    at = draft_at d Places stage h

    open_small : IsSmallEpoch (opened d)
    open_small = all_middle IsSmallEpoch d.epochs.items [] (opened d) at.small.epochs

    more_small : IsSmallEpoch (closed d bound)
    more_small = record { time = open_small.time; count = open_small.count; places = open_small.places; bound = fits }

    draft : IsDraft new
    draft = record {
      online = record {
        rising = subst (λ z. IsStrictlyIncreasing (map time_in z)) (sym grown)
            (subst IsStrictlyIncreasing (same_times d.epochs.items (opened d) (closed d bound) refl) at.online.rising);
        run = at.online.run;
        few_slots = at.online.few_slots;
        maximal = at.online.maximal;
      };
      small = record {
        epochs = subst (All IsSmallEpoch) (sym grown)
            (All-push IsSmallEpoch d.epochs.items (closed d bound) (all_front IsSmallEpoch d.epochs.items (opened d ∷ []) at.small.epochs) more_small);
        done = at.small.done;
        cost = at.small.cost;
        count = at.small.count;
        release = at.small.release;
        total = at.small.total;
      };
      slots = at.slots;
      later = let (done, release, runs) = at.later in (empty, done, release, runs);
    }

    forward : (o : Online) (more : List (List ℕ)) → HasSmallNumbers o → GoesOnAt Places d o (line ∷ more) → GoesOnAt Epochs new o more
    forward o more small (before, (e, es, has, time, left)) =
        let (same, here, rest) = order_over d line none o more e es small has left in
        let number : e.bound ≡ bound = decimal_one e.bound bound (small_epoch o d.epochs.items es e small has).bound fits (ap (drop 6) (sym here ∙ is)) in
        let whole : e ≡ closed d bound = λ i. record { time = time i; places = same i; bound = number i } in
        let moved = ap (λ x. d.epochs.items ++ (x ∷ es)) whole ∙ (sym (append_assoc d.epochs.items (closed d bound ∷ []) es) ∙ ap (λ z. z ++ es) (sym grown)) in
        (tt, (es, has ∙ moved, rest))

    backward : (o : Online) (more : List (List ℕ)) → GoesOnAt Epochs new o more → GoesOnAt Places d o (line ∷ more)
    backward o more (before, (es, has, e)) = (
      tt,
      (
        closed d bound,
        es,
        has ∙ (ap (λ z. z ++ es) grown ∙ append_assoc d.epochs.items (closed d bound ∷ []) es),
        refl,
        ends_with order_line d.places.items d.places.items line (bound_line bound) (flat_map epoch_lines es ++ lines_from_done o) more refl is e,
      ),
    )

pub bound_refused : (d : Draft) (line : List ℕ) → d.stage ≡ Places → IsPlaceOf (length d.places.items + 1) line None → IsTotalOf (codes "bound") line None → Refuses d line
bound_refused d line stage none no_bound = refuses d Places line stage stuck
  where
    stuck : (o : Online) (more : List (List ℕ)) → IsOnline o → HasSmallNumbers o → GoesOnAt Places d o (line ∷ more) → ⊥
    stuck o more online small (before, (e, es, has, time, left)) =
        no_bound e.bound (small_epoch o d.epochs.items es e small has).bound (order_over d line none o more e es small has left).1
