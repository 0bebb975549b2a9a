-- No reason holds where its part of the text is right.
use Rattle.std.proofs.Common.{◌≡◌, ℕ, ◌+◌, ◌-◌, ◌<◌, List, [], ◌∷◌, ◌++◌, get_or, drop, length, take, sym, ap, ◌∙◌, subst, arith}
use Rattle.std.specs.Prelude.{All, None, Option, Some}
use Rattle.std.proofs.lemmas.List.{drop_more, get_or-map, length-map, take-append-drop}
use Rattle.std.proofs.lemmas.List.Elements.{All-get_or}
use Rattle.journal.specs.declared.command.Entry.{Entry}
use Rattle.journal.specs.declared.command.Reply.{Reply}
use Rattle.journal.specs.declared.opening.Opening.{Opening}
use Rattle.journal.specs.State.{Run}
use Rattle.journal.specs.Journal.{IsLegal}
use Rattle.journal.proofs.Versions.{legal_there}
use Rattle.live_text.specs.declared.value.EntryLine.{EntryLine}
use Rattle.live_text.specs.declared.value.Live.{Live}
use Rattle.live_text.specs.declared.value.PullLine.{PullLine}
use Rattle.live_text.specs.declared.value.Said.{Said}
use Rattle.journal_audit.specs.Parted.{IsFirstWrongOrder}
use Rattle.journal_audit.specs.Pulls.{HasVersion, IsFirstWrongRank, IsFirstWrongVersion, pull_at, real_rank}
use Rattle.journal_audit.proofs.Partings.{no_parting, none_is_not_some}
use Rattle.journal_audit.specs.declared.verdict.AuditReason.{AuditReason}
use Rattle.journal_audit.specs.declared.verdict.AuditReason.TheVariants.{NoClose, NoEntry, NoId, NoOrder, NoPull, NoRun, NoVersion}
use Rattle.journal_audit.specs.Reasons.{HasReasonFor, IsFirstUnknown, IsFirstWrongEntry, line_at}
use Rattle.journal_audit.specs.Sound.{IsRightFor}
use Rattle.journal_audit.specs.Stated.{IsKnown, entry_for, reply_for, stated_by}

pub no_unknown : (ids : List ℕ) (entries : List EntryLine) (position : ℕ) → All (λ (e : EntryLine). IsKnown ids e.word) entries → IsFirstUnknown ids entries position → ⊥
no_unknown ids entries position known h =
    h.unknown (All-get_or (λ (e : EntryLine). IsKnown ids e.word) entries (position - 1) (line_at [] 0) (omega (arith, h.counted, h.inside)) known)

-- the entry of a line
pub entry_at : (ids : List ℕ) (entries : List EntryLine) (k : ℕ) → k < length entries →
    get_or (stated_by ids entries) k (entry_for ids (line_at [] 0)) ≡ entry_for ids (line_at entries k)
entry_at ids entries k lt = get_or-map (entry_for ids) entries k (line_at [] 0) (entry_for ids (line_at [] 0)) lt

pub stands : (ids : List ℕ) (entries : List EntryLine) (k : ℕ) → k < length entries →
    stated_by ids entries ≡ take k (stated_by ids entries) ++ (entry_for ids (line_at entries k) ∷ drop (k + 1) (stated_by ids entries))
stands ids entries k lt =
    sym (take-append-drop k (stated_by ids entries))
    ∙ ap (λ l. take k (stated_by ids entries) ++ l) (drop_more (stated_by ids entries) k (entry_for ids (line_at [] 0)) (omega (arith, lt, length-map entries (entry_for ids))))
    ∙ ap (λ x. take k (stated_by ids entries) ++ (x ∷ drop (k + 1) (stated_by ids entries))) (entry_at ids entries k lt)

pub no_wrong_entry : (o : Opening) (entries : List EntryLine) (position : ℕ) (stated : Said) (real : Reply) → IsLegal o (stated_by o.table.ids entries) →
    IsFirstWrongEntry o (stated_by o.table.ids entries) entries position stated real → ⊥
no_wrong_entry o entries position stated real legal h =
    let within : position - 1 < length entries = omega (arith, h.counted, h.inside) in
    let there = legal_there o (take (position - 1) (stated_by o.table.ids entries)) (drop (position - 1 + 1) (stated_by o.table.ids entries))
    (entry_for o.table.ids (line_at entries (position - 1))) (subst (IsLegal o) (stands o.table.ids entries (position - 1) within) legal) in
    h.differ (sym h.should ∙ sym there.0 ∙ ap reply_for h.says)

pub no_open : (run : Option Run) (slot : ℕ) → run ≡ None → ((r : Run) × (run ≡ Some r) × (r.first ≡ slot)) → ⊥
no_open run slot none (r, some, first) = none_is_not_some r (sym none ∙ some)

pub no_wrong_order : (stated real : List (List ℕ)) (version place : ℕ) → stated ≡ real → IsFirstWrongOrder stated real version place → ⊥
no_wrong_order stated real version place e h = no_parting stated real (version - 1) e h.parted

pub no_wrong_rank : (o : Opening) (journal : List Entry) (pulls : List PullLine) (client line stated real : ℕ) → All (λ (p : PullLine). p.rank ≡ real_rank o journal p) pulls →
    IsFirstWrongRank o journal pulls client line stated real → ⊥
no_wrong_rank o journal pulls client line stated real ranks h =
    h.differ (sym h.says ∙ All-get_or (λ (p : PullLine). p.rank ≡ real_rank o journal p) pulls h.index (pull_at [] 0) h.inside ranks ∙ h.should)

pub no_wrong_version : (ids : List ℕ) (newest : ℕ) (pulls : List PullLine) (client line : ℕ) → ((k : ℕ) → k < length pulls → HasVersion ids newest pulls k) →
    IsFirstWrongVersion ids newest pulls client line → ⊥
no_wrong_version ids newest pulls client line versions h = h.wrong (versions h.index h.inside)

-- ---- the reasons before a kind

module _ (o : Opening) (l : Live) where
  abbrev J : List Entry
  J = stated_by o.table.ids l.entries

  pub none_of_right : (reason : AuditReason) → IsRightFor o J l → HasReasonFor o J l reason → ⊥
  none_of_right (NoId position) right has = no_unknown o.table.ids l.entries position right.known has
  none_of_right (NoEntry position stated real) right has = no_wrong_entry o l.entries position stated real right.legal has
  none_of_right (NoClose slot) right has = no_open _ slot right.closed has
  none_of_right (NoOrder version place) right has = no_wrong_order l.orders _ version place right.orders has
  none_of_right (NoPull client line stated real) right has = no_wrong_rank o J l.pulls client line stated real right.ranks has
  none_of_right (NoVersion client line) right has = no_wrong_version o.table.ids _ l.pulls client line right.versions has
  none_of_right (NoRun slot) right (some, parted) = no_parting _ _ (slot - 1) right.runs parted
