-- The orders of a journal, by their ids, and what is known of them while a printed journal is replayed.
use Rattle.std.specs.Prelude.{◌≡◌, ℕ, ◌+◌, ◌-◌, ◌<◌, ◌≤◌, List, [], MatchOption, Option, Some, map, slice_get}
use Rattle.std.specs.Prelude.{slice_index}
use Rattle.std.specs.List.{range_with_len, slice_index_or}
use Rattle.journal.specs.declared.command.Entry.{Entry}
use Rattle.journal.specs.declared.opening.Opening.{Opening}
use Rattle.journal.specs.Journal.{order_in, version_of}
use Rattle.journal_audit.specs.declared.orders.WrongOrder.{WrongOrder}
use Rattle.journal_audit.specs.Parted.{IsFirstPlace}

-- the ids of the order of a version
abbrev pub order_ids : Opening → List Entry → ℕ → List ℕ
order_ids o journal v = map (λ c. slice_index o.table.ids c) (order_in o journal v)

-- the orders of the versions that the journal makes, from version 1 on, by their ids
abbrev pub orders_of : Opening → List Entry → List (List ℕ)
orders_of o journal = map (order_ids o journal) (range_with_len 1 (version_of journal))

-- the order at the index is that of the version one above
abbrev pub HasOrder : Opening → List Entry → List (List ℕ) → ℕ → Type 0
HasOrder o journal orders k = slice_get orders k ≡ Some (order_ids o journal (k + 1))

-- the order of a version that the journal makes is not the stated one, and those before are; the place is the first
-- where they part
pub record IsWrongOrder (o : Opening) (journal : List Entry) (orders : List (List ℕ)) (w : WrongOrder) : Type 0 where
  pub counted : 1 ≤ w.version
  pub made : w.version ≤ version_of journal
  pub before : (k : ℕ) → k + 1 < w.version → HasOrder o journal orders k
  pub wrong : HasOrder o journal orders (w.version - 1) → ⊥
  pub place_is :
      IsFirstPlace (slice_index_or orders (w.version - 1) []) (order_ids o journal w.version) w.place

-- the orders of the versions that the journal makes are the stated ones, or the first wrong one is told
abbrev pub AreOrders : Opening → List Entry → List (List ℕ) → Option WrongOrder → Type 0
AreOrders o journal orders wrong =
    MatchOption wrong ((k : ℕ) → k < version_of journal → HasOrder o journal orders k)
    (IsWrongOrder o journal orders)
