-- Texts that are refused, each for its own reason.
use Rattle.std.proofs.Common.{◌≡◌, ℕ, Bool, true, false, true≢false, List, [], ap, arith, Option, Some, None}
use Rattle.std.specs.List.{slice_index_or}
use Rattle.journal.specs.Chosen.{the_grants, the_ordering}
use Rattle.live_text.specs.declared.value.EntryLine.{EntryLine}
use Rattle.live_text.specs.declared.value.Said.{Said}
use Rattle.live_text.specs.declared.value.Said.TheVariants.{Joined}
use Rattle.live_model.specs.Rows.{WrongOrder, WrongReply, WrongRuns}

abbrev is_joined : Said → Bool
is_joined Joined = true
is_joined said = false

abbrev says_joined : Option EntryLine → Bool
says_joined None = false
says_joined (Some e) = is_joined e.said

pub wrong_reply : WrongReply → ⊥
wrong_reply h = let e : true ≡ false = ap (λ (l : List (Option EntryLine)). says_joined (slice_index_or l 0 None)) h.told.entries in true≢false e

pub wrong_order : WrongOrder → ⊥
unfolding the_ordering the_grants
wrong_order h = let e : ◌≡◌ {A = ℕ} 1 2 = ap (λ (l : List (List ℕ)). slice_index_or (slice_index_or l 0 []) 0 0) h.told.orders in omega (arith, e)

pub wrong_runs : WrongRuns → ⊥
unfolding the_ordering the_grants
wrong_runs h = let e : ◌≡◌ {A = ℕ} 0 1 = ap (λ (l : List (List ℕ)). slice_index_or (slice_index_or l 0 []) 0 0) h.told.runs.same in omega (arith, e)
