-- The slots that closed runs make.
use Rattle.std.proofs.Common.{◌≡◌, ℕ, ◌+◌, ◌-◌, ◌≤◌, ◌<◌, inl, inr, List, [], ◌∷◌, ◌++◌, map, replicate, refl, sym, ap, ◌∙◌, arith, append-nil, suc}
use Rattle.std.specs.Prelude.{All, nat_le, nat_lt, ◌&&◌}
use Rattle.std.specs.List.{filter, range_with_len}
use Rattle.std.proofs.lemmas.Bool.{and_from, and_left, and_right, cases_lt, le-leb, le-ltb, lt-leb, lt-ltb}
use Rattle.std.proofs.lemmas.List.{map-append}
use Rattle.std.proofs.lemmas.List.Concat.{flat_map-append}
use Rattle.coflow_units.specs.declared.fabric.Flow.{Flow}
use Rattle.coflow_units.proofs.Lists.{filter_same}
use Rattle.coflow_units.proofs.Ranges.{range_append}
use Rattle.journal.specs.State.{Run}
use Rattle.journal.specs.Runs.{credit}
use Rattle.journal.specs.Closed.{flows_in, IsClosedRun, reaches, run_in, slots_in}
use Rattle.journal.proofs.Filters.{filter_out}
use Rattle.journal.proofs.Ranges.{range_none, range_same, range_shift}

-- ---- what stands in a slot

-- before its first slot a run has nothing, and from its end on neither
pub run_before : (flows : List Flow) (slot : ℕ) (r : Run) → slot < r.first → run_in flows slot r ≡ []
run_before flows slot r lt = filter_out (reaches flows r slot) r.granted
    (λ f in'. and_left (nat_le r.first slot) (nat_lt slot (r.first + credit flows r f)) (lt-leb r.first slot lt))

pub run_past : (flows : List Flow) (next slot : ℕ) (r : Run) → IsClosedRun flows next r → next ≤ slot → run_in flows slot r ≡ []
run_past flows next slot r h le =
    filter_out (reaches flows r slot) r.granted
    (λ f in'. and_right (nat_le r.first slot) (nat_lt slot (r.first + credit flows r f)) (le-ltb slot (r.first + credit flows r f) (omega (arith, h.ends, h.credits f))))

pub none_past : (flows : List Flow) (next slot : ℕ) (runs : List Run) → All (IsClosedRun flows next) runs → next ≤ slot → flows_in flows runs slot ≡ []
none_past flows next slot [] all le = refl
none_past flows next slot (r ∷ rs) all le =
    ap (λ l. l ++ flows_in flows rs slot) (run_past flows next slot r (all 0 r (omega arith)) le) ∙ none_past flows next slot rs (λ k d lt. all (suc k) d (omega arith)) le

pub flows_push : (flows : List Flow) (runs : List Run) (r : Run) (slot : ℕ) → flows_in flows (runs ++ r ∷ []) slot ≡ flows_in flows runs slot ++ run_in flows slot r
flows_push flows runs r slot = flat_map-append (run_in flows slot) runs (r ∷ []) ∙ ap (λ l. flows_in flows runs slot ++ l) (append-nil (run_in flows slot r))

-- ---- the schedule of runs, up to a next slot

-- the slots from slot 1 on and before the next one
abbrev pub slots_before : List Flow → List Run → ℕ → List (List ℕ)
slots_before flows runs next = map (flows_in flows runs) (range_with_len 1 (next - 1))

pub split_at : (flows : List Flow) (runs : List Run) (next n : ℕ) → 1 ≤ next →
    slots_before flows runs (next + n) ≡ slots_before flows runs next ++ map (flows_in flows runs) (range_with_len next n)
split_at flows runs next n some =
    let e : next + n - 1 ≡ (next - 1) + n = omega arith in
    let e2 : 1 + (next - 1) ≡ next = omega arith in
    ap (λ k. map (flows_in flows runs) (range_with_len 1 k)) e ∙ ap (map (flows_in flows runs)) (range_append 1 (next - 1) n)
    ∙ map-append (flows_in flows runs) (range_with_len 1 (next - 1)) (range_with_len (1 + (next - 1)) n)
    ∙ ap (λ k. slots_before flows runs next ++ map (flows_in flows runs) (range_with_len k n)) e2

-- slots that pass without a run are empty
pub slots_pass : (flows : List Flow) (runs : List Run) (next n : ℕ) → 1 ≤ next → All (IsClosedRun flows next) runs →
    slots_before flows runs (next + n) ≡ slots_before flows runs next ++ replicate n []
slots_pass flows runs next n some all =
    split_at flows runs next n some
    ∙ ap (λ l. slots_before flows runs next ++ l) (range_same (flows_in flows runs) (λ t. []) next n (λ t low high. none_past flows next t runs all low) ∙ range_none [] next n)

above : (a i c : ℕ) → (nat_le a (a + i) && nat_lt (a + i) (a + c)) ≡ nat_lt i c
above a i c = elim (cases_lt i c) [
  | inl lt ↦ and_from (nat_le a (a + i)) (nat_lt (a + i) (a + c)) (le-leb a (a + i) (omega arith)) (lt-ltb (a + i) (a + c) (omega (arith, lt))) ∙ sym (lt-ltb i c lt)
  | inr ge ↦ and_right (nat_le a (a + i)) (nat_lt (a + i) (a + c)) (le-ltb (a + i) (a + c) (omega (arith, ge))) ∙ sym (le-ltb i c ge)
]

in_slot : (flows : List Flow) (r : Run) (i : ℕ) → run_in flows (r.first + i) r ≡ filter (λ f. nat_lt i (credit flows r f)) r.granted
in_slot flows r i = filter_same (reaches flows r (r.first + i)) (λ f. nat_lt i (credit flows r f)) r.granted (λ f in'. above r.first i (credit flows r f))

pub own_slots : (flows : List Flow) (r : Run) → map (λ t. run_in flows t r) (range_with_len r.first r.slots) ≡ slots_in flows r
own_slots flows r =
    let e : r.first ≡ r.first + 0 = omega arith in
    ap (λ a. map (λ t. run_in flows t r) (range_with_len a r.slots)) e ∙ range_shift (λ t. run_in flows t r) r.first 0 r.slots
    ∙ range_same (λ i. run_in flows (r.first + i) r) (λ i. filter (λ f. nat_lt i (credit flows r f)) r.granted) 0 r.slots (λ i low high. in_slot flows r i)

-- a run that begins with the next slot adds its slots
pub slots_run : (flows : List Flow) (runs : List Run) (r : Run) (next : ℕ) → 1 ≤ next → r.first ≡ next → All (IsClosedRun flows next) runs →
    slots_before flows (runs ++ r ∷ []) (next + r.slots) ≡ slots_before flows runs next ++ slots_in flows r
slots_run flows runs r next some at all =
    let old : slots_before flows (runs ++ r ∷ []) next ≡ slots_before flows runs next =
    range_same (flows_in flows (runs ++ r ∷ [])) (flows_in flows runs) 1 (next - 1)
    (λ t low high. flows_push flows runs r t ∙ ap (λ l. flows_in flows runs t ++ l) (run_before flows t r (omega (arith, at, low, high, some))) ∙
    append-nil (flows_in flows runs t)) in
    let new : map (flows_in flows (runs ++ r ∷ [])) (range_with_len next r.slots) ≡ map (λ t. run_in flows t r) (range_with_len next r.slots) =
    range_same (flows_in flows (runs ++ r ∷ [])) (λ t. run_in flows t r) next r.slots
    (λ t low high. flows_push flows runs r t ∙ ap (λ l. l ++ run_in flows t r) (none_past flows next t runs all low)) in
    split_at flows (runs ++ r ∷ []) next r.slots some ∙ ap (λ l. l ++ map (flows_in flows (runs ++ r ∷ [])) (range_with_len next r.slots)) old
    ∙ ap (λ l. slots_before flows runs next ++ l) (new ∙ ap (λ a. map (λ t. run_in flows t r) (range_with_len a r.slots)) (sym at) ∙ own_slots flows r)
