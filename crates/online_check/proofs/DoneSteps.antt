-- The lines of completions, one after another.
use Rattle.std.proofs.Common.{◌≡◌, ℕ, ◌+◌, ◌-◌, ◌≤◌, ◌<◌, inl, inr, List, length, get_or, sym, ap, subst, ◌∙◌, arith, zero, suc}
use Rattle.std.specs.Prelude.{slice_index}
use Rattle.std.specs.List.{slice_index_or}
use Rattle.std.proofs.lemmas.Bool.{cases_lt}
use Rattle.std.proofs.lemmas.List.{ext_get_or, get_or-map, get_or_default, length-map}
use Rattle.cert_check.proofs.EndFacts.{AreOf, count_of, number_at}
use Rattle.cert_check.proofs.SlotSteps.{slots_count}
use Rattle.online_text.specs.declared.value.DoneLine.{DoneLine}
use Rattle.online_text.specs.declared.value.Online.{Online}
use Rattle.online_text.specs.Online.{IsOnline}
use Rattle.schedule_model.specs.RunList.{IsKept}
use Rattle.online_check.specs.Done.{IsFirstUnlisted, IsFirstWrongEnd, IsListed, IsUnlisted, ids_done, slots_done}

pub count_ids : (lines : List DoneLine) → length (ids_done lines) ≡ length lines
count_ids lines = length-map lines (λ (d : DoneLine). d.id)

pub count_slots : (lines : List DoneLine) → length (slots_done lines) ≡ length lines
count_slots lines = length-map lines (λ (d : DoneLine). d.slot)

-- the line with index k; an index past the end gives zeros
abbrev pub done_at : List DoneLine → ℕ → DoneLine
done_at lines k = slice_index_or lines k record { id = 0; slot = 0 }

pub id_at : (lines : List DoneLine) (k : ℕ) → k < length lines → slice_index (ids_done lines) k ≡ (done_at lines k).id
id_at lines k lt = get_or-map (λ (d : DoneLine). d.id) lines k (record { id = 0; slot = 0 }) 0 lt

pub slot_at : (lines : List DoneLine) (k : ℕ) → k < length lines → slice_index (slots_done lines) k ≡ (done_at lines k).slot
slot_at lines k lt = get_or-map (λ (d : DoneLine). d.slot) lines k (record { id = 0; slot = 0 }) 0 lt

module _ (ids stated : List ℕ) where
  abbrev pub ListedTo : ℕ → Type 0
  ListedTo n = (k : ℕ) → k < n → IsListed ids stated k

  -- the first line that is not right comes next
  pub first_unlisted_at : (k : ℕ) → ListedTo k → IsUnlisted ids stated k → IsFirstUnlisted ids stated (k + 1)
  first_unlisted_at k so_far wrong =
      let back : k ≡ k + 1 - 1 = omega arith in
      record { counted = omega arith; wrong = subst (IsUnlisted ids stated) back wrong; before = λ j lt. so_far j (omega arith) }

  -- one line more
  pub listed_more : (k : ℕ) → ListedTo k → IsListed ids stated k → ListedTo (k + 1)
  listed_more k so_far here j lt = elim (cases_lt j k) [
    | inl less ↦ so_far j less
    | inr le ↦ let same : k ≡ j = omega arith in subst (IsListed ids stated) same here
  ]

  enough : (n : ℕ) → ListedTo n → n ≤ length stated
  enough zero so_far = omega arith
  enough (suc n) so_far = let last = (so_far n (omega arith)).line in omega arith

  -- all lines are right
  pub all_listed : (n : ℕ) → ListedTo n → n ≡ length ids → length stated ≤ n → stated ≡ ids
  all_listed n so_far all few =
      let count : length stated ≡ length ids = omega (arith, enough n so_far) in
      ext_get_or 0 stated ids count (λ k lt. (so_far k (omega (arith, count, all))).id_is)

  -- right lines have none that is not right
  pub no_unlisted : (index : ℕ) → stated ≡ ids → IsFirstUnlisted ids stated index → ⊥
  no_unlisted index same bad =
      let count : length stated ≡ length ids = ap (λ (l : List ℕ). length l) same in
      elim bad.wrong [
        | inl (in', line, differ) ↦ differ (ap (λ (l : List ℕ). slice_index l (index - 1)) same)
        | inr missing ↦ elim missing [
          | inl (in', past) ↦ omega (arith, count, in', past)
          | inr (past, line) ↦ omega (arith, count, line, past)
        ]
      ]

-- right completions have none that is wrong
pub no_wrong_end : (stated : List ℕ) (real : ℕ → ℕ) (n coflow said is : ℕ) → length stated ≡ n → ((c : ℕ) → c < n → slice_index stated c ≡ real c) →
    IsFirstWrongEnd stated real coflow said is → ⊥
no_wrong_end stated real n coflow said is count all wrong = wrong.differ (sym wrong.says ∙ all coflow (omega (arith, wrong.line, count)) ∙ wrong.should)

-- the first wrong completion beside a list of the real ones
pub wrong_end_along : (stated xs : List ℕ) (f : ℕ → ℕ) (n coflow said is : ℕ) → AreOf xs f n → length stated ≡ n → IsFirstWrongEnd stated (slice_index xs) coflow said is →
    IsFirstWrongEnd stated f coflow said is
wrong_end_along stated xs f n coflow said is of count wrong = record {
  line = wrong.line;
  says = wrong.says;
  should = sym (number_at xs f n coflow of (omega (arith, wrong.line, count))) ∙ wrong.should;
  differ = wrong.differ;
  least = λ c lt. wrong.least c lt ∙ number_at xs f n c of (omega (arith, wrong.line, count));
}

pub ends_along : (stated xs : List ℕ) (f : ℕ → ℕ) (n : ℕ) → AreOf xs f n → ((c : ℕ) → c < length xs → slice_index stated c ≡ slice_index xs c) →
    (c : ℕ) → c < n → slice_index stated c ≡ f c
ends_along stated xs f n of all c lt = all c (omega (arith, count_of xs f n of)) ∙ number_at xs f n c of lt

-- the runs of an online run are those of a schedule
pub runs_kept : (o : Online) → IsOnline o → IsKept o.runs
runs_kept o h = record {
  some = λ k d lt. (h.run k d lt).0;
  ascending = λ k d lt. (h.run k d lt).2.0;
  maximal = h.maximal;
  short = omega (arith, slots_count o.runs, h.few_slots);
}

-- the first wrong completion, as it was read
pub told_end : (done lines : List DoneLine) (xs items : List ℕ) (f : ℕ → ℕ) (n coflow read : ℕ) → lines ≡ done → xs ≡ items → AreOf xs f n → length (slots_done done) ≡ n →
    IsFirstWrongEnd (slots_done lines) (slice_index xs) coflow (slice_index (slots_done lines) coflow) (slice_index xs coflow) → read ≡ get_or items coflow read →
    IsFirstWrongEnd (slots_done done) f coflow (done_at lines coflow).slot read
told_end done lines xs items f n coflow read e same of count wrong at =
    let inside : coflow < length lines = omega (arith, wrong.line, count_slots lines) in
    let lines_are : length (slots_done lines) ≡ length (slots_done done) = ap (λ l. length (slots_done l)) e in
    let items_are : length xs ≡ length items = ap (λ (l : List ℕ). length l) same in
    let known : coflow < length items = omega (arith, wrong.line, lines_are, count, items_are, count_of xs f n of) in
    let here : slice_index xs coflow ≡ read = ap (λ (l : List ℕ). slice_index l coflow) same ∙ get_or_default items coflow 0 read known ∙ sym at in
    let along = subst (λ l. IsFirstWrongEnd (slots_done l) (slice_index xs) coflow (slice_index (slots_done lines) coflow) (slice_index xs coflow)) e wrong in
    let real = wrong_end_along (slots_done done) xs f n coflow (slice_index (slots_done lines) coflow) (slice_index xs coflow) of count along in
    subst (λ s. IsFirstWrongEnd (slots_done done) f coflow s read) (slot_at lines coflow inside)
    (subst (λ r. IsFirstWrongEnd (slots_done done) f coflow (slice_index (slots_done lines) coflow) r) here real)
