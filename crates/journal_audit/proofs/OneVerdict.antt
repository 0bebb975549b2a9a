-- A text has one verdict.
use Rattle.std.proofs.Common.{◌≡◌, ℕ, ◌+◌, ◌-◌, ◌<◌, List, [], ◌∷◌, ◌++◌, drop, get_or, length, take, sym, ap, ◌∙◌, subst, arith}
use Rattle.std.specs.List.{slice_index_or}
use Rattle.std.proofs.lemmas.List.{drop_more, get_or-take, length-map, length-take-le, take-append-drop, take-take}
use Rattle.flow_table.specs.Table.{TableFacts}
use Rattle.journal.specs.declared.command.Entry.{Entry}
use Rattle.journal.specs.declared.command.Reply.{Reply}
use Rattle.journal.specs.declared.opening.Opening.{Opening}
use Rattle.journal.specs.State.{Run}
use Rattle.journal.specs.Answer.{reply_of}
use Rattle.journal.specs.Journal.{IsLegal, version_of}
use Rattle.journal.proofs.Versions.{legal_there}
use Rattle.live_text.specs.declared.value.EntryLine.{EntryLine}
use Rattle.live_text.specs.declared.value.Live.{Live}
use Rattle.live_text.specs.declared.value.PullLine.{PullLine}
use Rattle.live_text.specs.declared.value.Said.{Said}
use Rattle.journal_audit.specs.Parted.{IsFirstPlace, IsPartedAt}
use Rattle.journal_audit.specs.Pulls.{IsFirstWrongRank, IsFirstWrongVersion, pull_at, real_rank}
use Rattle.journal_audit.specs.Orders.{orders_of}
use Rattle.journal_audit.proofs.Partings.{same_some}
use Rattle.journal_audit.specs.declared.verdict.Audit.{Audit}
use Rattle.journal_audit.specs.declared.verdict.Audit.TheVariants.{No, Yes}
use Rattle.journal_audit.specs.declared.verdict.AuditReason.{AuditReason}
use Rattle.journal_audit.specs.declared.verdict.AuditReason.TheVariants.{NoClose, NoEntry, NoId, NoOrder, NoPull, NoRun, NoVersion}
use Rattle.journal_audit.specs.Reasons.{HasReasonFor, IsAudit, IsFirstReasonFor, IsFirstUnknown, IsFirstWrongEntry, kind, line_at}
use Rattle.journal_audit.specs.Stated.{command_for, entry_for, opening_for, reply_for, stated_by}
use Rattle.journal_audit.proofs.Refusals.{entry_at, none_of_right}

-- ---- of each kind the first is one

apart_is_one : {X : Type 0} (a b : List X) (m n : ℕ) → IsPartedAt a b m → IsPartedAt a b n → m ≡ n
apart_is_one a b m n here there =
    let less : m < n → ⊥ = λ lt. here.parted (there.before m lt) in
    let more : n < m → ⊥ = λ lt. there.parted (here.before n lt) in
    omega (arith, less, more)

place_earlier : (a b : List ℕ) (m n : ℕ) → IsFirstPlace a b m → IsFirstPlace a b n → m < n → ⊥
place_earlier a b m n here there lt =
    here.parted (omega (arith, lt, there.in_stated)) (omega (arith, lt, there.in_real)) (there.before (m - 1) (omega (arith, lt, here.counted)))

place_is_one : (a b : List ℕ) (m n : ℕ) → IsFirstPlace a b m → IsFirstPlace a b n → m ≡ n
place_is_one a b m n here there = omega (arith, place_earlier a b m n here there, place_earlier a b n m there here)

unknown_earlier : (ids : List ℕ) (entries : List EntryLine) (m n : ℕ) → IsFirstUnknown ids entries m → IsFirstUnknown ids entries n → m < n → ⊥
unknown_earlier ids entries m n here there lt = here.unknown (there.before (m - 1) (omega (arith, lt, here.counted)))

entry_earlier : (o : Opening) (entries : List EntryLine) (m n : ℕ) (s s' : Said) (r r' : Reply) → IsFirstWrongEntry o (stated_by o.table.ids entries) entries m s r →
    IsFirstWrongEntry o (stated_by o.table.ids entries) entries n s' r' → m < n → ⊥
entry_earlier o entries m n s s' r r' here there lt =
    here.differ (sym here.should ∙ sym there_is ∙ ap reply_for here.says)
  where
    J : List Entry
    J = stated_by o.table.ids entries

    count : length J ≡ length entries
    count = length-map entries (entry_for o.table.ids)

    front : List Entry
    front = take (n - 1) J

    inside : m - 1 < length entries
    inside = omega (arith, here.counted, here.inside)

    within : m - 1 < length front
    within = omega (arith, lt, here.counted, there.inside, length-take-le (n - 1) J (omega (arith, there.inside, count)), count)

    at : get_or front (m - 1) (entry_for o.table.ids (line_at [] 0)) ≡ entry_for o.table.ids (line_at entries (m - 1))
    at = get_or-take (n - 1) J (m - 1) (entry_for o.table.ids (line_at [] 0)) (omega (arith, lt, here.counted)) ∙ entry_at o.table.ids entries (m - 1) inside

    stands : front ≡ take (m - 1) front ++ (entry_for o.table.ids (line_at entries (m - 1)) ∷ drop (m - 1 + 1) front)
    stands =
        sym (take-append-drop (m - 1) front)
        ∙ ap (λ l. take (m - 1) front ++ l) (drop_more front (m - 1) (entry_for o.table.ids (line_at [] 0)) within)
        ∙ ap (λ x. take (m - 1) front ++ (x ∷ drop (m - 1 + 1) front)) at

    there_is : reply_for (line_at entries (m - 1)).said ≡ reply_of o (take (m - 1) J) (command_for o.table.ids (line_at entries (m - 1)).word)
    there_is =
        (legal_there o (take (m - 1) front) (drop (m - 1 + 1) front) (entry_for o.table.ids (line_at entries (m - 1))) (subst (IsLegal o) stands there.before)).0
        ∙ ap (λ j. reply_of o j (command_for o.table.ids (line_at entries (m - 1)).word)) (take-take (m - 1) (n - 1) J (omega (arith, lt)))

rank_earlier : (o : Opening) (journal : List Entry) (pulls : List PullLine) (k l s r k' l' s' r' : ℕ) (here : IsFirstWrongRank o journal pulls k l s r)
    (there : IsFirstWrongRank o journal pulls k' l' s' r') → here.index < there.index → ⊥
rank_earlier o journal pulls k l s r k' l' s' r' here there lt = here.differ (sym here.says ∙ there.before here.index lt ∙ here.should)

version_earlier : (ids : List ℕ) (newest : ℕ) (pulls : List PullLine) (k l k' l' : ℕ) (here : IsFirstWrongVersion ids newest pulls k l)
    (there : IsFirstWrongVersion ids newest pulls k' l') → here.index < there.index → ⊥
version_earlier ids newest pulls k l k' l' here there lt = here.wrong (there.before here.index lt)

-- ---- reasons

module _ (o : Opening) (l : Live) where
  abbrev J : List Entry
  J = stated_by o.table.ids l.entries

  same_kind : (a b : AuditReason) → kind a ≡ kind b → HasReasonFor o J l a → HasReasonFor o J l b → a ≡ b
  same_kind (NoId m) (NoId n) e x y =
      let one : m ≡ n = omega (arith, unknown_earlier o.table.ids l.entries m n x y, unknown_earlier o.table.ids l.entries n m y x) in
      ap NoId one
  same_kind (NoEntry m s r) (NoEntry n s' r') e x y =
      let one : m ≡ n = omega (arith, entry_earlier o l.entries m n s s' r r' x y, entry_earlier o l.entries n m s' s r' r y x) in
      ap (λ i. NoEntry i s r) one
      ∙ ap (λ t. NoEntry n t r) (sym x.says ∙ ap (λ i. (line_at l.entries (i - 1)).said) one ∙ y.says)
      ∙ ap (NoEntry n s') (sym x.should ∙ ap (λ i. reply_of o (take (i - 1) J) (command_for o.table.ids (line_at l.entries (i - 1)).word)) one ∙ y.should)
  same_kind (NoClose m) (NoClose n) e x y = ap NoClose (sym x.2 ∙ ap (λ (r : Run). r.first) (same_some x.0 y.0 (sym x.1 ∙ y.1)) ∙ y.2)
  same_kind (NoOrder v p) (NoOrder w q) e x y =
      let one : v ≡ w = omega (arith, x.counted, y.counted, apart_is_one _ _ (v - 1) (w - 1) x.parted y.parted) in
      ap (λ i. NoOrder i p) one ∙ ap (NoOrder w) (place_is_one _ _ p q
      (subst (λ i. IsFirstPlace (slice_index_or l.orders (i - 1) []) (slice_index_or (orders_of o J) (i - 1) []) p) one x.first) y.first)
  same_kind (NoPull k n s r) (NoPull k' n' s' r') e x y =
      let one : x.index ≡ y.index = omega (arith, rank_earlier o J l.pulls k n s r k' n' s' r' x y, rank_earlier o J l.pulls k' n' s' r' k n s r y x) in
      ap (λ i. NoPull i n s r) (sym x.client_is ∙ ap (λ i. (pull_at l.pulls i).client) one ∙ y.client_is)
      ∙ ap (λ i. NoPull k' i s r) (sym x.line_is ∙ ap (λ i. (pull_at l.pulls i).line) one ∙ y.line_is)
      ∙ ap (λ i. NoPull k' n' i r) (sym x.says ∙ ap (λ i. (pull_at l.pulls i).rank) one ∙ y.says)
      ∙ ap (NoPull k' n' s') (sym x.should ∙ ap (λ i. real_rank o J (pull_at l.pulls i)) one ∙ y.should)
  same_kind (NoVersion k n) (NoVersion k' n') e x y =
      let one : x.index ≡ y.index =
      omega (arith, version_earlier o.table.ids (version_of J) l.pulls k n k' n' x y, version_earlier o.table.ids (version_of J) l.pulls k' n' k n y x) in
      ap (λ i. NoVersion i n) (sym x.client_is ∙ ap (λ i. (pull_at l.pulls i).client) one ∙ y.client_is)
      ∙ ap (NoVersion k') (sym x.line_is ∙ ap (λ i. (pull_at l.pulls i).line) one ∙ y.line_is)
  same_kind (NoRun m) (NoRun n) e x y = ap NoRun (omega (arith, x.0, y.0, apart_is_one _ _ (m - 1) (n - 1) x.1 y.1))
  same_kind _ _ e x y = absurd (omega (arith, e))

  one_reason : (a b : AuditReason) → IsFirstReasonFor o J l a → IsFirstReasonFor o J l b → a ≡ b
  one_reason a b x y =
      let less : kind a < kind b → ⊥ = λ lt. y.first a lt x.holds in
      let more : kind b < kind a → ⊥ = λ lt. x.first b lt y.holds in
      same_kind a b (omega (arith, less, more)) x.holds y.holds

pub one_verdict : (t : TableFacts) (weights : List ℕ) (l : Live) (a b : Audit) → IsAudit t weights l a → IsAudit t weights l b → a ≡ b
one_verdict t weights l (Yes e v s) (Yes e' v' s') x y =
    ap (λ n. Yes n v s) (x.entries_are ∙ sym y.entries_are) ∙ ap (λ n. Yes e' n s) (x.versions_are ∙ sym y.versions_are) ∙ ap (Yes e' v') (x.slots_are ∙ sym y.slots_are)
one_verdict t weights l (Yes e v s) (No reason) x y = absurd (none_of_right (opening_for t weights l) l reason x.sound y.holds)
one_verdict t weights l (No reason) (Yes e v s) x y = absurd (none_of_right (opening_for t weights l) l reason y.sound x.holds)
one_verdict t weights l (No a) (No b) x y = ap No (one_reason (opening_for t weights l) l a b x y)
