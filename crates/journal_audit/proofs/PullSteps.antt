-- Pulls, one after another.
use Rattle.std.proofs.Common.{◌≡◌, ◌≢◌, ℕ, ◌+◌, ◌-◌, ◌≤◌, ◌<◌, inl, inr, zero, suc, Bool, true, false, List, [], length, refl, sym, ap, ◌∙◌, subst, arith}
use Rattle.std.specs.Prelude.{◌&&◌, All, Contains, if◌then◌else◌, nat_le}
use Rattle.std.proofs.lemmas.Bool.{cases_lt, le-leb}
use Rattle.std.proofs.lemmas.List.{get_or_default}
use Rattle.coflow_units.proofs.Sums.{any_has, any_in}
use Rattle.cert_check.specs.Places.{coflow_with}
use Rattle.journal.specs.declared.command.Entry.{Entry}
use Rattle.journal.specs.declared.opening.Opening.{Opening}
use Rattle.journal.specs.State.{has}
use Rattle.journal.specs.Journal.{rank_of, version_of}
use Rattle.live_text.specs.declared.value.PullLine.{PullLine}
use Rattle.live_text.specs.Live.{ForNeighbours, IsBefore}
use Rattle.journal_audit.specs.ClaimsLooked.{IsNextPull}
use Rattle.journal_audit.specs.Pulls.{HasVersion, IsFirstWrongRank, IsFirstWrongVersion, pull_at, real_rank}

-- ---- the rank that a pull should be told

module _ (o : Opening) (journal : List Entry) (p : PullLine) where
  abbrev by_test : Bool → Bool → ℕ
  by_test known made = if known && made then rank_of o journal p.version (coflow_with o.table.ids p.id) else 0

  pub rank_unknown : (Contains o.table.ids p.id → ⊥) → 0 ≡ real_rank o journal p
  rank_unknown unknown = sym (go (has o.table.ids p.id) refl)
    where
      go : (b : Bool) → has o.table.ids p.id ≡ b → real_rank o journal p ≡ 0
      go true e = absurd (unknown (any_has o.table.ids p.id e))
      go false e = ap (λ b. by_test b (nat_le p.version (version_of journal))) e

  pub rank_made : Contains o.table.ids p.id → p.version ≤ version_of journal → rank_of o journal p.version (coflow_with o.table.ids p.id) ≡ real_rank o journal p
  rank_made known made = sym (
      ap (λ b. by_test b (nat_le p.version (version_of journal))) (any_in o.table.ids p.id known) ∙ ap (by_test true) (le-leb p.version (version_of journal) made)
      )

-- ---- the first wrong rank

pub rank_one_more : (o : Opening) (journal : List Entry) (pulls : List PullLine) (k : ℕ) (p : PullLine) → pull_at pulls k ≡ p → p.rank ≡ real_rank o journal p →
    ((j : ℕ) → j < k → (pull_at pulls j).rank ≡ real_rank o journal (pull_at pulls j)) →
    (j : ℕ) → j < k + 1 → (pull_at pulls j).rank ≡ real_rank o journal (pull_at pulls j)
rank_one_more o journal pulls k p is same before j lt = elim (cases_lt j k) [
  | inl less ↦ before j less
  | inr le ↦
      let here : k ≡ j = omega (arith, lt, le) in
      subst (λ (i : ℕ). (pull_at pulls i).rank ≡ real_rank o journal (pull_at pulls i)) here (subst (λ (q : PullLine). q.rank ≡ real_rank o journal q) (sym is) same)
]

pub rank_wrong_at : (o : Opening) (journal : List Entry) (pulls : List PullLine) (k : ℕ) (p : PullLine) (real : ℕ) → k < length pulls → pull_at pulls k ≡ p →
    real ≡ real_rank o journal p →
    p.rank ≢ real → ((j : ℕ) → j < k → (pull_at pulls j).rank ≡ real_rank o journal (pull_at pulls j)) →
    IsFirstWrongRank o journal pulls p.client p.line p.rank real
rank_wrong_at o journal pulls k p real lt is should differ before = record {
  index = k;
  inside = lt;
  client_is = ap (λ (q : PullLine). q.client) is;
  line_is = ap (λ (q : PullLine). q.line) is;
  says = ap (λ (q : PullLine). q.rank) is;
  should = ap (λ (q : PullLine). real_rank o journal q) is ∙ sym should;
  differ = differ;
  before = before;
}

pub ranks_all : (o : Opening) (journal : List Entry) (pulls : List PullLine) (k : ℕ) → length pulls ≤ k →
    ((j : ℕ) → j < k → (pull_at pulls j).rank ≡ real_rank o journal (pull_at pulls j)) → All (λ (p : PullLine). p.rank ≡ real_rank o journal p) pulls
ranks_all o journal pulls k all before j d lt =
    subst (λ (q : PullLine). q.rank ≡ real_rank o journal q) (get_or_default pulls j (pull_at [] 0) d lt) (before j (omega (arith, lt, all)))

-- ---- the first wrong version

-- the clients of pulls that rise do not fall
clients_rise : (pulls : List PullLine) → ForNeighbours IsBefore pulls → (j n : ℕ) → j + n < length pulls → (pull_at pulls j).client ≤ (pull_at pulls (j + n)).client
clients_rise pulls rising j zero lt = let e : j ≡ j + 0 = omega arith in subst (λ i. (pull_at pulls j).client ≤ (pull_at pulls i).client) e (omega arith)
clients_rise pulls rising j (suc n) lt =
    let e : j + n + 1 ≡ j + suc n = omega arith in
    let before = clients_rise pulls rising j n (omega (arith, lt)) in
    subst (λ i. (pull_at pulls j).client ≤ (pull_at pulls i).client) e (step before (rising (j + n) (pull_at [] 0) (omega (arith, lt))))
  where
    step : (pull_at pulls j).client ≤ (pull_at pulls (j + n)).client → IsBefore (pull_at pulls (j + n)) (pull_at pulls (j + n + 1)) →
        (pull_at pulls j).client ≤ (pull_at pulls (j + n + 1)).client
    step le (inl less) = omega (arith, le, less)
    step le (inr (same, less)) = omega (arith, le, same)

abbrev pub AllHave : List ℕ → ℕ → List PullLine → ℕ → Type 0
AllHave ids newest pulls k = (j : ℕ) → j < k → HasVersion ids newest pulls j

-- behind pulls whose versions are right it is enough to look at the last one
pub has_version : (ids : List ℕ) (newest : ℕ) (pulls : List PullLine) (k : ℕ) → ForNeighbours IsBefore pulls → k < length pulls → AllHave ids newest pulls k →
    IsNextPull ids newest pulls k → HasVersion ids newest pulls k
has_version ids newest pulls k rising lt before next = record {
  made = next.made;
  known = next.known;
  no_greater = λ j less same.
      let last : j + (k - 1 - j) ≡ k - 1 = omega (arith, less) in
      let one : k - 1 + 1 ≡ k = omega (arith, less) in
      let up : (pull_at pulls j).client ≤ (pull_at pulls (k - 1)).client =
      subst (λ i. (pull_at pulls j).client ≤ (pull_at pulls i).client) last (clients_rise pulls rising j (k - 1 - j) (omega (arith, less, lt))) in
      let on : (pull_at pulls (k - 1)).client ≤ (pull_at pulls k).client =
      subst (λ i. (pull_at pulls (k - 1)).client ≤ (pull_at pulls i).client) one (clients_rise pulls rising (k - 1) 1 (omega (arith, less, lt))) in
      let no_fall = next.no_fall (omega (arith, less)) (omega (arith, up, on, same)) in
      elim (cases_lt j (k - 1)) [
        | inl earlier ↦ omega (arith, no_fall, (before (k - 1) (omega (arith, less))).no_greater j earlier (omega (arith, up, on, same)))
        | inr le ↦ let here : k - 1 ≡ j = omega (arith, le, less) in subst (λ (i : ℕ). (pull_at pulls i).version ≤ (pull_at pulls k).version) here no_fall
      ];
}

-- and a pull with a right version is right behind the last one
pub is_next : (ids : List ℕ) (newest : ℕ) (pulls : List PullLine) (k : ℕ) → HasVersion ids newest pulls k → IsNextPull ids newest pulls k
is_next ids newest pulls k h = record { made = h.made; known = h.known; no_fall = λ some same. h.no_greater (k - 1) (omega (arith, some)) same }

pub version_one_more : (ids : List ℕ) (newest : ℕ) (pulls : List PullLine) (k : ℕ) → ForNeighbours IsBefore pulls → k < length pulls → AllHave ids newest pulls k →
    IsNextPull ids newest pulls k → AllHave ids newest pulls (k + 1)
version_one_more ids newest pulls k rising lt before next j less = elim (cases_lt j k) [
  | inl earlier ↦ before j earlier
  | inr le ↦ let here : k ≡ j = omega (arith, le, less) in subst (HasVersion ids newest pulls) here (has_version ids newest pulls k rising lt before next)
]

pub version_wrong_at : (ids : List ℕ) (newest : ℕ) (pulls : List PullLine) (k client line : ℕ) → k < length pulls → (pull_at pulls k).client ≡ client →
    (pull_at pulls k).line ≡ line →
    (IsNextPull ids newest pulls k → ⊥) → AllHave ids newest pulls k → IsFirstWrongVersion ids newest pulls client line
version_wrong_at ids newest pulls k client line lt client_is line_is wrong before = record {
  index = k;
  inside = lt;
  client_is = client_is;
  line_is = line_is;
  wrong = λ h. wrong (is_next ids newest pulls k h);
  before = before;
}
