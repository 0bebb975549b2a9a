-- The first reason, where what comes before it is right.
use Rattle.std.proofs.Common.{◌≡◌, ℕ, ◌+◌, ◌-◌, ◌≤◌, ◌<◌, zero, suc, true, false, List, [], length, refl, sym, ap, ◌∙◌, subst, arith}
use Rattle.std.specs.Prelude.{All, MatchOption, None, Option, Some, is_some, slice_get}
use Rattle.std.specs.List.{range_with_len, slice_index_or}
use Rattle.std.proofs.lemmas.Bool.{false≢true}
use Rattle.std.proofs.Math.ListN.{get_or-eq_default}
use Rattle.std.proofs.lemmas.List.{ext_get_or, get_or-map, length-map}
use Rattle.std.proofs.lemmas.List.FromFn.{get_or-range_with_len, length-range_with_len}
use Rattle.std.proofs.lemmas.Option.{slice_get-get_or, slice_get_past, slice_get_within}
use Rattle.journal.specs.declared.command.Entry.{Entry}
use Rattle.journal.specs.declared.opening.Opening.{Opening}
use Rattle.journal.specs.State.{Run}
use Rattle.journal.specs.Fold.{state_of}
use Rattle.journal.specs.Journal.{IsLegal, version_of}
use Rattle.journal.specs.Runs.{slots_of as run_slots}
use Rattle.journal.specs.Sound.{IsOpenRun, OnRun}
use Rattle.live_text.specs.declared.value.EntryLine.{EntryLine}
use Rattle.live_text.specs.declared.value.Live.{Live}
use Rattle.live_text.specs.declared.value.PullLine.{PullLine}
use Rattle.journal_audit.specs.declared.orders.WrongOrder.{WrongOrder}
use Rattle.journal_audit.specs.Orders.{AreOrders, HasOrder, IsWrongOrder, order_ids, orders_of}
use Rattle.journal_audit.specs.Parted.{IsFirstPlace, IsFirstWrongOrder}
use Rattle.journal_audit.specs.Pulls.{HasVersion, real_rank}
use Rattle.journal_audit.proofs.Partings.{none_is_not_some, same_some}
use Rattle.journal_audit.specs.declared.verdict.AuditReason.{AuditReason}
use Rattle.journal_audit.specs.declared.verdict.AuditReason.TheVariants.{NoClose, NoEntry, NoId, NoOrder, NoPull, NoRun, NoVersion}
use Rattle.journal_audit.specs.Reasons.{HasReasonFor, IsFirstReasonFor, kind}
use Rattle.journal_audit.specs.Stated.{IsKnown, stated_by}
use Rattle.journal_audit.proofs.Refusals.{no_open, no_unknown, no_wrong_entry, no_wrong_order, no_wrong_rank, no_wrong_version}

module _ (o : Opening) (l : Live) where
  abbrev J : List Entry
  J = stated_by o.table.ids l.entries

  -- what is right where a reason of a kind is the first
  pub record IsRightBefore (journal : List Entry) (n : ℕ) : Type 0 where
    pub known : 0 < n → All (λ (e : EntryLine). IsKnown o.table.ids e.word) l.entries
    pub legal : 1 < n → IsLegal o journal
    pub closed : 2 < n → (state_of o journal).run ≡ None
    pub orders : 3 < n → l.orders ≡ orders_of o journal
    pub ranks : 4 < n → All (λ (p : PullLine). p.rank ≡ real_rank o journal p) l.pulls
    pub versions : 5 < n → (k : ℕ) → k < length l.pulls → HasVersion o.table.ids (version_of journal) l.pulls k

  none_before : (n : ℕ) → n ≤ 6 → IsRightBefore J n → (other : AuditReason) → kind other < n → HasReasonFor o J l other → ⊥
  none_before n most right (NoId position) lt has = no_unknown o.table.ids l.entries position (right.known lt) has
  none_before n most right (NoEntry position stated real) lt has = no_wrong_entry o l.entries position stated real (right.legal lt) has
  none_before n most right (NoClose slot) lt has = no_open _ slot (right.closed lt) has
  none_before n most right (NoOrder version place) lt has = no_wrong_order l.orders _ version place (right.orders lt) has
  none_before n most right (NoPull client line stated real) lt has = no_wrong_rank o J l.pulls client line stated real (right.ranks lt) has
  none_before n most right (NoVersion client line) lt has = no_wrong_version o.table.ids _ l.pulls client line (right.versions lt) has
  none_before n most right (NoRun slot) lt has = absurd (omega (arith, lt, most))

  kind_most : (reason : AuditReason) → kind reason ≤ 6
  kind_most (NoId position) = omega arith
  kind_most (NoEntry position stated real) = omega arith
  kind_most (NoClose slot) = omega arith
  kind_most (NoOrder version place) = omega arith
  kind_most (NoPull client line stated real) = omega arith
  kind_most (NoVersion client line) = omega arith
  kind_most (NoRun slot) = omega arith

  first_of : (reason : AuditReason) → IsRightBefore J (kind reason) → HasReasonFor o J l reason → IsFirstReasonFor o J l reason
  first_of reason right has = record { holds = has; first = none_before (kind reason) (kind_most reason) right }

  pub first_at : (journal : List Entry) (reason : AuditReason) → journal ≡ stated_by o.table.ids l.entries → IsRightBefore journal (kind reason) → HasReasonFor o journal l reason →
      IsFirstReasonFor o journal l reason
  first_at journal reason is = subst (λ j. IsRightBefore j (kind reason) → HasReasonFor o j l reason → IsFirstReasonFor o j l reason) (sym is) (first_of reason)

  -- what was looked at, kind by kind
  pub before_all : (journal : List Entry) → IsRightBefore journal 0
  before_all journal = record {
    known = λ lt. absurd (omega (arith, lt));
    legal = λ lt. absurd (omega (arith, lt));
    closed = λ lt. absurd (omega (arith, lt));
    orders = λ lt. absurd (omega (arith, lt));
    ranks = λ lt. absurd (omega (arith, lt));
    versions = λ lt. absurd (omega (arith, lt));
  }

  pub before_entries : (journal : List Entry) → All (λ (e : EntryLine). IsKnown o.table.ids e.word) l.entries → IsRightBefore journal 1
  before_entries journal known = record {
    known = λ lt. known;
    legal = λ lt. absurd (omega (arith, lt));
    closed = λ lt. absurd (omega (arith, lt));
    orders = λ lt. absurd (omega (arith, lt));
    ranks = λ lt. absurd (omega (arith, lt));
    versions = λ lt. absurd (omega (arith, lt));
  }

  module _ (journal : List Entry) (known : All (λ (e : EntryLine). IsKnown o.table.ids e.word) l.entries) (legal : IsLegal o journal) where
    pub before_close : IsRightBefore journal 2
    before_close = record {
      known = λ lt. known;
      legal = λ lt. legal;
      closed = λ lt. absurd (omega (arith, lt));
      orders = λ lt. absurd (omega (arith, lt));
      ranks = λ lt. absurd (omega (arith, lt));
      versions = λ lt. absurd (omega (arith, lt));
    }

    module _ (closed : (state_of o journal).run ≡ None) where
      pub before_orders : IsRightBefore journal 3
      before_orders = record {
        known = λ lt. known;
        legal = λ lt. legal;
        closed = λ lt. closed;
        orders = λ lt. absurd (omega (arith, lt));
        ranks = λ lt. absurd (omega (arith, lt));
        versions = λ lt. absurd (omega (arith, lt));
      }

      module _ (orders : l.orders ≡ orders_of o journal) where
        pub before_ranks : IsRightBefore journal 4
        before_ranks = record {
          known = λ lt. known;
          legal = λ lt. legal;
          closed = λ lt. closed;
          orders = λ lt. orders;
          ranks = λ lt. absurd (omega (arith, lt));
          versions = λ lt. absurd (omega (arith, lt));
        }

        module _ (ranks : All (λ (p : PullLine). p.rank ≡ real_rank o journal p) l.pulls) where
          pub before_versions : IsRightBefore journal 5
          before_versions = record {
            known = λ lt. known;
            legal = λ lt. legal;
            closed = λ lt. closed;
            orders = λ lt. orders;
            ranks = λ lt. ranks;
            versions = λ lt. absurd (omega (arith, lt));
          }

          pub before_runs : ((k : ℕ) → k < length l.pulls → HasVersion o.table.ids (version_of journal) l.pulls k) → IsRightBefore journal 6
          before_runs versions = record {
            known = λ lt. known;
            legal = λ lt. legal;
            closed = λ lt. closed;
            orders = λ lt. orders;
            ranks = λ lt. ranks;
            versions = λ lt. versions;
          }

-- ---- the open run

pub none_is_open : (run : Option Run) → is_some (run_slots run) ≡ false → run ≡ None
none_is_open None e = refl
none_is_open (Some r) e = absurd (false≢true (sym e))

pub one_is_open : (o : Opening) (sent : ℕ → ℕ) (next : ℕ) (run : Option Run) → OnRun run (IsOpenRun o.table.flows sent next) → is_some (run_slots run) ≡ true →
    (r : Run) × (run ≡ Some r) × (r.first ≡ next)
one_is_open o sent next None open' e = absurd (false≢true e)
one_is_open o sent next (Some r) open' e = (r, refl, open'.first)

-- ---- orders

module _ (o : Opening) (journal : List Entry) (orders : List (List ℕ)) where
  versions : ℕ
  versions = version_of journal

  count_real : length (orders_of o journal) ≡ version_of journal
  count_real = length-map (range_with_len 1 (version_of journal)) (order_ids o journal) ∙ length-range_with_len 1 (version_of journal)

  real_at : (k : ℕ) → k < version_of journal → slice_index_or (orders_of o journal) k [] ≡ order_ids o journal (k + 1)
  real_at k lt =
      get_or-map (order_ids o journal) (range_with_len 1 (version_of journal)) k 0 [] (omega (arith, lt, length-range_with_len 1 (version_of journal)))
      ∙ ap (order_ids o journal) (get_or-range_with_len 1 (version_of journal) k 0 lt ∙ omega arith)

  real_has : (k : ℕ) → k < version_of journal → slice_get (orders_of o journal) k ≡ Some (order_ids o journal (k + 1))
  real_has k lt = slice_get-get_or (orders_of o journal) k [] (omega (arith, lt, count_real)) ∙ ap Some (real_at k lt)

  pub made_wrong : (w : WrongOrder) → IsWrongOrder o journal orders w → IsFirstWrongOrder orders (orders_of o journal) w.version w.place
  made_wrong w h = record {
    counted = h.counted;
    parted = record {
      before = λ k lt. h.before k (omega (arith, lt)) ∙ sym (real_has k (omega (arith, lt, h.made)));
      parted = λ e. h.wrong (e ∙ real_has (w.version - 1) (omega (arith, h.made, h.counted)));
    };
    first = subst (λ (real : List ℕ). IsFirstPlace (slice_index_or orders (w.version - 1) []) real w.place)
        (sym (real_at (w.version - 1) (omega (arith, h.made, h.counted)) ∙ ap (order_ids o journal) (omega (arith, h.counted)))) h.place_is;
  }

  -- one order more than the journal makes
  pub one_too_many : ((k : ℕ) → k < version_of journal → HasOrder o journal orders k) → version_of journal < length orders →
      IsFirstWrongOrder orders (orders_of o journal) (version_of journal + 1) 1
  one_too_many all more = record {
    counted = omega arith;
    parted = record {
      before = λ k lt. all k (omega (arith, lt)) ∙ sym (real_has k (omega (arith, lt)));
      parted = λ e. none_is_not_some _ (sym (slice_get_past (orders_of o journal) (version_of journal + 1 - 1) (omega (arith, count_real))) ∙ sym e
          ∙ slice_get-get_or orders (version_of journal + 1 - 1) [] (omega (arith, more)));
    };
    first = record {
      counted = omega arith;
      in_stated = omega arith;
      in_real = omega arith;
      before = λ k lt. absurd (omega (arith, lt));
      parted = λ s r. absurd (omega (arith, r, ap length past));
    };
  }
    where
      past : slice_index_or (orders_of o journal) (version_of journal + 1 - 1) [] ≡ []
      past = get_or-eq_default (orders_of o journal) [] (omega (arith, count_real))

  pub orders_same : ((k : ℕ) → k < version_of journal → HasOrder o journal orders k) → length orders ≤ version_of journal → orders ≡ orders_of o journal
  orders_same all few = ext_get_or [] orders (orders_of o journal) (omega (arith, count, count_real)) (λ k lt.
      same_some _ _ (sym (slice_get-get_or orders k [] lt) ∙ all k (omega (arith, lt, few)) ∙ ap Some (sym (real_at k (omega (arith, lt, few))))))
    where
      many : (n : ℕ) → n ≡ version_of journal → version_of journal ≤ length orders
      many zero e = omega (arith, e)
      many (suc n) e = omega (arith, e, slice_get_within orders n _ (all n (omega (arith, e))))

      count : length orders ≡ version_of journal
      count = omega (arith, few, many (version_of journal) refl)

  pub none_wrong : (wrong : Option WrongOrder) → is_some wrong ≡ false → AreOrders o journal orders wrong → (k : ℕ) → k < version_of journal → HasOrder o journal orders k
  none_wrong None e h = h
  none_wrong (Some w) e h = absurd (false≢true (sym e))

  pub some_wrong : (wrong : Option WrongOrder) → is_some wrong ≡ true → AreOrders o journal orders wrong →
      MatchOption wrong (orders ≡ orders_of o journal) (λ (w : WrongOrder). IsFirstWrongOrder orders (orders_of o journal) w.version w.place)
  some_wrong None e h = absurd (false≢true e)
  some_wrong (Some w) e h = made_wrong w h
