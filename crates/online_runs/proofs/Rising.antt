-- The publishings of a journal, entry by entry: their times rise.
use Rattle.std.proofs.Common.{◌≡◌, ◌≢◌, ℕ, ◌+◌, ◌<◌, ◌≤◌, inl, inr, true, false, List, [], ◌∷◌, ◌++◌, get_or, length, map, refl, sym, ap, subst, ◌∙◌, arith, cond, append-nil}
use Rattle.std.proofs.Common.{append_assoc, Some}
use Rattle.std.specs.Prelude.{All}
use Rattle.std.specs.List.Sorted.{IsStrictlyIncreasing}
use Rattle.std.proofs.lemmas.Bool.{cases_lt}
use Rattle.std.proofs.lemmas.List.{get_or_append_left, get_or_push, length_push, map_push}
use Rattle.std.proofs.lemmas.List.Elements.{All-nil, All-push, All-weaker}
use Rattle.epochs.specs.declared.action.Action.TheVariants.{Publish as PublishOrder}
use Rattle.epochs.specs.Course.{after, Course}
use Rattle.online_text.specs.declared.value.Epoch.{Epoch}
use Rattle.journal.specs.declared.command.Entry.{Entry}
use Rattle.journal.specs.declared.opening.Opening.{Opening}
use Rattle.journal.specs.Journal.{is_version}
use Rattle.online_runs.specs.Deeds.{time_of}
use Rattle.online_runs.specs.Value.{epoch_at, epochs_from, epochs_of}
use Rattle.online_runs.proofs.Times.{KeepsTime}

-- ---- entry by entry

epochs_append : (o : Opening) (before es more : List Entry) → epochs_from o before (es ++ more) ≡ epochs_from o before es ++ epochs_from o (before ++ es) more
epochs_append o before [] more = ap (λ l. epochs_from o l more) (sym (append-nil before))
epochs_append o before (e ∷ es) more =
    let here = cond (is_version e.reply) (epoch_at o before ∷ []) [] in
    ap (λ l. here ++ l) (epochs_append o (before ++ e ∷ []) es more) ∙
    sym (append_assoc here (epochs_from o (before ++ e ∷ []) es) (epochs_from o ((before ++ e ∷ []) ++ es) more)) ∙
    ap (λ l. (here ++ epochs_from o (before ++ e ∷ []) es) ++ epochs_from o l more) (append_assoc before (e ∷ []) es)

pub epochs_more : (o : Opening) (j es : List Entry) → epochs_of o (j ++ es) ≡ epochs_of o j ++ epochs_from o j es
epochs_more o j es = epochs_append o [] j es

-- entries that tell no version publish nothing
pub no_epoch : (o : Opening) (j : List Entry) (e : Entry) → is_version e.reply ≡ false → epochs_of o (j ++ e ∷ []) ≡ epochs_of o j
no_epoch o j e none =
    epochs_more o j (e ∷ []) ∙ ap (λ l. epochs_of o j ++ l) (ap (λ b. cond b (epoch_at o j ∷ []) [] ++ []) none) ∙ append-nil (epochs_of o j)

pub one_epoch : (o : Opening) (j : List Entry) (e : Entry) → is_version e.reply ≡ true → epochs_of o (j ++ e ∷ []) ≡ epochs_of o j ++ epoch_at o j ∷ []
one_epoch o j e some = epochs_more o j (e ∷ []) ∙ ap (λ l. epochs_of o j ++ l) (ap (λ b. cond b (epoch_at o j ∷ []) [] ++ []) some)

-- ---- times rise

increasing_push : (xs : List ℕ) (x : ℕ) → IsStrictlyIncreasing xs → All (λ y. y < x) xs → IsStrictlyIncreasing (xs ++ x ∷ [])
increasing_push xs x rising below k lt = elim (cases_lt (k + 1) (length xs)) [
  | inl inside ↦
      let left : get_or (xs ++ x ∷ []) k 0 ≡ get_or xs k 0 = get_or_append_left xs (x ∷ []) 0 k (omega (arith, inside)) in
      let right : get_or (xs ++ x ∷ []) (k + 1) 0 ≡ get_or xs (k + 1) 0 = get_or_append_left xs (x ∷ []) 0 (k + 1) inside in
      omega (arith, left, right, rising k inside)
  | inr last ↦
      let left : get_or (xs ++ x ∷ []) k 0 ≡ get_or xs k 0 = get_or_append_left xs (x ∷ []) 0 k (omega (arith, lt, length_push xs x)) in
      let right : get_or (xs ++ x ∷ []) (k + 1) 0 ≡ x = get_or_push xs x 0 (k + 1) (omega (arith, lt, last, length_push xs x)) in
      omega (arith, left, right, below k 0 (omega (arith, lt, length_push xs x)))
]

abbrev pub times_of : List Epoch → List ℕ
times_of epochs = map (λ (e : Epoch). e.time) epochs

-- the time is not after the last publishing
abbrev pub UpTo : Course → ℕ → Type 0
UpTo s t = (last : ℕ) × (s.last ≡ Some last) × (t ≤ last)

-- the times rise, and none is later than the last publishing
pub record Rises (s : Course) (epochs : List Epoch) : Type 0 where
  pub rising : IsStrictlyIncreasing (times_of epochs)
  pub until : All (UpTo s) (times_of epochs)

pub rises_first : (s : Course) → Rises s []
rises_first s = record { rising = λ k lt. absurd (omega (arith, lt)); until = All-nil (UpTo s) }

pub rises_same : (s t : Course) (epochs : List Epoch) → t.last ≡ s.last → Rises s epochs → Rises t epochs
rises_same s t epochs e h = record {
  rising = h.rising;
  until = All-weaker (UpTo s) (UpTo t) (λ x (last, is, le). (last, e ∙ is, le)) (times_of epochs) h.until;
}

pub rises_on : (o : Opening) (s : Course) (j : List Entry) (epochs : List Epoch) (e : Epoch) → KeepsTime o s j → s.last ≢ Some (time_of o j) → e.time ≡ time_of o j →
    Rises s epochs →
    Rises (after s (time_of o j) PublishOrder) (epochs ++ e ∷ [])
rises_on o s j epochs e kt fresh at h =
    let earlier : All (λ t. t < time_of o j) (times_of epochs) =
    All-weaker (UpTo s) (λ t. t < time_of o j)
    (λ t (last, is, le).
    let not' : last ≢ time_of o j = λ same. fresh (is ∙ ap Some same) in
    omega (arith, le, kt.last last is, not')) (times_of epochs) h.until in
    let later = after s (time_of o j) PublishOrder in
    record {
      rising = subst IsStrictlyIncreasing (sym (map_push (λ (e : Epoch). e.time) epochs e))
          (increasing_push (times_of epochs) e.time h.rising (λ k d lt. omega (arith, earlier k d lt, at)));
      until = subst (All (UpTo later)) (sym (map_push (λ (e : Epoch). e.time) epochs e))
          (All-push (UpTo later) (times_of epochs) e.time
          (All-weaker (λ t. t < time_of o j) (UpTo later) (λ t lt. (time_of o j, refl, omega (arith, lt))) (times_of epochs) earlier)
          (time_of o j, refl, omega (arith, at)));
    }
