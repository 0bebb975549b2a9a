use Rattle.std.proofs.Common.{◌≡◌, ◌-◌, ◌<◌, ◌≤◌, ℕ, List, length, nat_eq, sym, ap, ◌∙◌, subst, true}
use Rattle.std.specs.Prelude.{All, is_some}
use Rattle.indexmap.specs.IndexMap.{get}
use Rattle.journal.specs.Closed.{schedule_of}
use Rattle.journal.specs.Fold.{state_of}
use Rattle.journal.specs.Journal.{version_of}
use Rattle.journal.specs.Runs.{slots_of as run_slots}
use Rattle.journal.proofs.Sound.{legal_sound}
use Rattle.live_text.specs.declared.value.PullLine.{PullLine}
use Rattle.schedule_model.specs.RunList.{slots_in}
use Rattle.journal_audit.specs.Parted.{IsFirstWrongOrder, IsPartedAt}
use Rattle.journal_audit.specs.Pulls.{HasVersion, IsFirstWrongRank, IsFirstWrongVersion, real_rank}
use Rattle.journal_audit.specs.Ranks.{AreRanks}
use Rattle.journal_audit.specs.Orders.{orders_of}
use Rattle.journal_audit.specs.declared.verdict.AuditReason.TheVariants.{NoClose, NoOrder, NoPull, NoRun, NoVersion}
use Rattle.journal_audit.proofs.FirstReasons.{before_close, before_orders, before_ranks, before_runs, before_versions, first_at, none_is_open, one_is_open}
use Rattle.journal_audit.proofs.KeptRuns.{live_kept, told_kept}
use Rattle.journal_audit.proofs.EntriesAnew.{replayed_schedule}
use Rattle.journal_audit.proofs.reasons.late_reason.Goals as goal

pub returns-then-is_some : goal.returns-then-is_some
returns-then-is_some c =
    let o = c.args.master.now.opening in
    let journal = c.args.master.now.journal in
    let open' : is_some (run_slots (state_of o journal).run) ≡ true = ap is_some (sym c.open_slots.ensures) ∙ sym c.is_some.ensures ∙ c.if-is_some.true in
    let one = one_is_open o (state_of o journal).sent (state_of o journal).next (state_of o journal).run
    (legal_sound o journal c.requires.replayed.replay.legal c.requires.replayed.replay.in_range).open_run open' in
    first_at o c.args.live.now journal (NoClose c.next_slot.result) c.requires.journal (before_close o c.args.live.now journal c.requires.known c.requires.replayed.replay.legal)
    (one.0, one.1, one.2 ∙ sym c.next_slot.ensures)

pub returns-in-Some : goal.returns-in-Some
returns-in-Some c =
    let o = c.args.master.now.opening in
    let journal = c.args.master.now.journal in
    let closed = none_is_open (state_of o journal).run (ap is_some (sym c.open_slots.ensures) ∙ sym c.is_some.ensures ∙ c.if-is_some.false) in
    first_at o c.args.live.now journal (NoOrder c.in-Some.wrong.version c.in-Some.wrong.place) c.requires.journal
    (before_orders o c.args.live.now journal c.requires.known c.requires.replayed.replay.legal closed)
    (subst (λ (l : List (List ℕ)). IsFirstWrongOrder l (orders_of o journal) c.in-Some.wrong.version c.in-Some.wrong.place) c.as_slice-orders.ensures c.in-Some.ensures)

pub returns-in-Some-wrong_rank : goal.returns-in-Some-wrong_rank
returns-in-Some-wrong_rank c =
    let o = c.args.master.now.opening in
    let journal = c.args.master.now.journal in
    let closed = none_is_open (state_of o journal).run (ap is_some (sym c.open_slots.ensures) ∙ sym c.is_some.ensures ∙ c.if-is_some.false) in
    let orders : c.args.live.now.orders ≡ orders_of o journal = sym c.as_slice-orders.ensures ∙ c.in_default.ensures in
    let w = c.in-Some-wrong_rank.wrong in
    first_at o c.args.live.now journal (NoPull w.client w.line w.stated w.real) c.requires.journal
    (before_ranks o c.args.live.now journal c.requires.known c.requires.replayed.replay.legal closed orders)
    (subst (λ (l : List PullLine). IsFirstWrongRank o journal l w.client w.line w.stated w.real) c.as_slice-pulls.ensures
    (c.in-Some-wrong_rank.ensures o journal c.requires.coflows (subst (λ ts. AreRanks (get nat_eq) o journal ts) (sym c.deref.ensures.value) c.requires.replayed.ranks)))

pub returns-in-Some-wrong_version : goal.returns-in-Some-wrong_version
returns-in-Some-wrong_version c =
    let o = c.args.master.now.opening in
    let journal = c.args.master.now.journal in
    let closed = none_is_open (state_of o journal).run (ap is_some (sym c.open_slots.ensures) ∙ sym c.is_some.ensures ∙ c.if-is_some.false) in
    let orders : c.args.live.now.orders ≡ orders_of o journal = sym c.as_slice-orders.ensures ∙ c.in_default.ensures in
    let ranks = subst (All (λ (p : PullLine). p.rank ≡ real_rank o journal p)) c.as_slice-pulls.ensures
    (c.in_default-wrong_rank.ensures o journal c.requires.coflows (subst (λ ts. AreRanks (get nat_eq) o journal ts) (sym c.deref.ensures.value) c.requires.replayed.ranks)) in
    let w = c.in-Some-wrong_version.wrong in
    first_at o c.args.live.now journal (NoVersion w.client w.line) c.requires.journal
    (before_versions o c.args.live.now journal c.requires.known c.requires.replayed.replay.legal closed orders ranks)
    (subst (λ (l : List PullLine). IsFirstWrongVersion o.table.ids (version_of journal) l w.client w.line) c.as_slice-pulls.ensures
    (subst (λ (n : ℕ). IsFirstWrongVersion o.table.ids n c.as_slice-pulls.result.now w.client w.line) c.version-newest.ensures
    (c.in-Some-wrong_version.ensures o.table.ids c.requires.coflows)))

pub first_parted_slot-requires-clause-stated : goal.first_parted_slot-requires-clause-stated
first_parted_slot-requires-clause-stated c = live_kept c.args.live.now c.requires.live

pub first_parted_slot-requires-clause-real : goal.first_parted_slot-requires-clause-real
first_parted_slot-requires-clause-real c =
    told_kept c.args.replayed.now.schedule c.runs.result.now c.runs.ensures.runs c.runs.ensures.ascending c.runs.ensures.short

pub returns-in_default-2 : goal.returns-in_default-2
returns-in_default-2 c =
    let o = c.args.master.now.opening in
    let journal = c.args.master.now.journal in
    let same : slots_in c.args.live.now.runs ≡ slots_in c.runs.result.now = rw c.in_default-2.is at c.in_ok-slot.ensures in
    record {
      known = c.requires.known;
      legal = c.requires.replayed.replay.legal;
      closed = none_is_open (state_of o journal).run (ap is_some (sym c.open_slots.ensures) ∙ sym c.is_some.ensures ∙ c.if-is_some.false);
      orders = sym c.as_slice-orders.ensures ∙ c.in_default.ensures;
      ranks = subst (All (λ (p : PullLine). p.rank ≡ real_rank o journal p)) c.as_slice-pulls.ensures
          (c.in_default-wrong_rank.ensures o journal c.requires.coflows (subst (λ ts. AreRanks (get nat_eq) o journal ts) (sym c.deref.ensures.value) c.requires.replayed.ranks));
      versions = subst (λ (l : List PullLine). (k : ℕ) → k < length l → HasVersion o.table.ids (version_of journal) l k) c.as_slice-pulls.ensures
          (subst (λ (n : ℕ). (k : ℕ) → k < length c.as_slice-pulls.result.now → HasVersion o.table.ids n c.as_slice-pulls.result.now k) c.version-newest.ensures
          (c.in_default-wrong_version.ensures o.table.ids c.requires.coflows));
      runs = same ∙ c.runs.ensures.runs.same ∙ replayed_schedule o journal c.args.replayed.now.schedule c.requires.replayed.replay;
    }

pub returns : goal.returns
returns c =
    let o = c.args.master.now.opening in
    let journal = c.args.master.now.journal in
    let slot = c.in-Some-2.slot in
    let closed = none_is_open (state_of o journal).run (ap is_some (sym c.open_slots.ensures) ∙ sym c.is_some.ensures ∙ c.if-is_some.false) in
    let orders : c.args.live.now.orders ≡ orders_of o journal = sym c.as_slice-orders.ensures ∙ c.in_default.ensures in
    let ranks = subst (All (λ (p : PullLine). p.rank ≡ real_rank o journal p)) c.as_slice-pulls.ensures
    (c.in_default-wrong_rank.ensures o journal c.requires.coflows (subst (λ ts. AreRanks (get nat_eq) o journal ts) (sym c.deref.ensures.value) c.requires.replayed.ranks)) in
    let versions = subst (λ (l : List PullLine). (k : ℕ) → k < length l → HasVersion o.table.ids (version_of journal) l k) c.as_slice-pulls.ensures
    (subst (λ (n : ℕ). (k : ℕ) → k < length c.as_slice-pulls.result.now → HasVersion o.table.ids n c.as_slice-pulls.result.now k) c.version-newest.ensures
    (c.in_default-wrong_version.ensures o.table.ids c.requires.coflows)) in
    let real : slots_in c.runs.result.now ≡ schedule_of o journal = c.runs.ensures.runs.same
    ∙ replayed_schedule o journal c.args.replayed.now.schedule c.requires.replayed.replay in
    let parted : (1 ≤ slot) × IsPartedAt (slots_in c.args.live.now.runs) (slots_in c.runs.result.now) (slot - 1) = rw c.in-Some-2.is at c.in_ok-slot.ensures in
    first_at o c.args.live.now journal (NoRun slot) c.requires.journal
    (before_runs o c.args.live.now journal c.requires.known c.requires.replayed.replay.legal closed orders ranks versions)
    (parted.0, subst (λ (l : List (List ℕ)). IsPartedAt (slots_in c.args.live.now.runs) l (slot - 1)) real parted.1)
