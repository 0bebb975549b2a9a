-- The line where all present coflows are ranked, and what is left where nothing was sent.
use Rattle.std.proofs.Common.{◌≡◌, ℕ, ◌+◌, ◌<◌, Bool, true, false, List, [], ◌∷◌, ◌++◌, length, get_or, refl, ap, ◌∙◌, arith, suc, append-nil}
use Rattle.std.specs.Prelude.{◌&&◌, not, if◌then◌else◌, slice_index}
use Rattle.std.specs.List.{filter, range_with_len}
use Rattle.std.proofs.lemmas.Bool.{and_right}
use Rattle.std.proofs.lemmas.List.{get_or_default}
use Rattle.std.proofs.Math.Path.{fun_ext}
use Rattle.coflow_units.specs.declared.fabric.Flow.{Flow}
use Rattle.coflow_units.specs.Flows.{coflow_of, Instance, with_units, with_units_from}
use Rattle.coflow_units.proofs.Lists.{number_below, number_in, filter_all}
use Rattle.coflow_units.proofs.Sums.{any_in}
use Rattle.flow_table.specs.Table.{instance_of}
use Rattle.journal.specs.declared.opening.Opening.{Opening}
use Rattle.journal.specs.State.{has, is_present, IsOpening, owed, present, State, what_is_left}
use Rattle.journal.specs.Line.{line, newest}
use Rattle.journal.proofs.Filters.{filter_out}

ranked_or_left : (a b : Bool) → (b ≡ false → a ≡ true) → (not a && not b) ≡ false
ranked_or_left a true h = and_right (not a) false refl
ranked_or_left a false h = ap (λ c. not c && true) (h refl)

-- where each coflow that joined and has not left has a place in the newest order, the line is that order without those who left
pub line_is_order : (s : State) → ((c : ℕ) → has s.joined c ≡ true → has s.left c ≡ false → has (newest s) c ≡ true) → line s ≡ filter (λ c. not (has s.left c)) (newest s)
line_is_order s ranked =
    ap (λ l. filter (λ c. not (has s.left c)) (newest s) ++ l)
    (filter_out (λ c. not (has (newest s) c) && not (has s.left c)) s.joined (λ c in'. ranked_or_left (has (newest s) c) (has s.left c) (ranked c (any_in s.joined c in'))))
    ∙ append-nil (filter (λ c. not (has s.left c)) (newest s))

-- and the order itself where nobody left
pub line_is_newest : (s : State) → ((c : ℕ) → has s.joined c ≡ true → has (newest s) c ≡ true) → ((c : ℕ) → has s.left c ≡ false) → line s ≡ newest s
line_is_newest s ranked none = line_is_order s (λ c j l. ranked c j) ∙ filter_all (λ c. not (has s.left c)) (newest s) (λ c in'. ap not (none c))

-- ---- what is left

abbrev with_n : ℕ → Flow → Flow
with_n n x = record { coflow = x.coflow; ingress = x.ingress; egress = x.egress; units = n }

same_units : (k : ℕ) (units : ℕ → ℕ) (flows : List Flow) → ((f : ℕ) (d : Flow) → f < length flows → units (k + f) ≡ (get_or flows f d).units) →
    with_units_from k units flows ≡ flows
same_units k units [] same = refl
same_units k units (x ∷ xs) same =
    let e : k ≡ k + 0 = omega arith in
    ap (λ n. with_n n x ∷ with_units_from (k + 1) units xs) (ap units e ∙ same 0 x (omega arith))
    ∙ ap (λ l. x ∷ l) (same_units (k + 1) units xs (λ f d lt. let e : k + 1 + f ≡ k + suc f = omega arith in ap units e ∙ same (suc f) d (omega arith)))

abbrev mki : List ℕ → (ℕ → ℕ) → ℕ → List Flow → Instance
mki coflows weight ports flows = record { coflows = coflows; weight = weight; ports = ports; flows = flows }

all_present : (o : Opening) (s : State) → ((c : ℕ) → c < length o.table.ids → is_present s c ≡ true) → present o s ≡ range_with_len 0 (length o.table.ids)
all_present o s joined = filter_all (is_present s) (range_with_len 0 (length o.table.ids)) (λ c in'. joined c (omega (arith, number_below 0 (length o.table.ids) c in')))

there : (b : Bool) (n : ℕ) → b ≡ true → (if b then n else 0) ≡ n
there b n e = ap {B = ℕ} (λ c. if c then n else 0) e

-- where all coflows are present with their opening weights and nothing was sent, what is left is the instance of the table
pub whole_is_left : (o : Opening) (s : State) → IsOpening o → ((c : ℕ) → c < length o.table.ids → is_present s c ≡ true) → ((f : ℕ) → s.sent f ≡ 0) →
    ((c : ℕ) → s.weight c ≡ slice_index o.weights c) →
    what_is_left o s ≡ instance_of o.table o.weights
whole_is_left o s ok joined none weights =
    let all = range_with_len 0 (length o.table.ids) in
    let units = λ (f : ℕ). if has (present o s) (coflow_of o.table.flows f) then owed o s f else 0 in
    let is = all_present o s joined in
    let flows : with_units units o.table.flows ≡ o.table.flows = same_units 0 units o.table.flows (λ f d lt.
    let zero' : Flow = record { coflow = 0; ingress = 0; egress = 0; units = 0 } in
    let e : 0 + f ≡ f = omega arith in
    let low : coflow_of o.table.flows f < length o.table.ids = ok.table.coflow f zero' lt in
    let here : has (present o s) (coflow_of o.table.flows f) ≡ true = ap (λ l. has l (coflow_of o.table.flows f)) is ∙
    any_in all (coflow_of o.table.flows f) (number_in 0 (length o.table.ids) (coflow_of o.table.flows f) (omega arith) (omega (arith, low))) in
    ap units e ∙ there (has (present o s) (coflow_of o.table.flows f)) (owed o s f) here ∙ omega (arith, none f) ∙
    ap (λ (x : Flow). x.units) (get_or_default o.table.flows f zero' d lt)) in
    ap (λ l. mki l s.weight o.table.ports (with_units units o.table.flows)) is ∙ ap (λ w. mki all w o.table.ports (with_units units o.table.flows)) (fun_ext weights) ∙
    ap (mki all (λ c. slice_index o.weights c) o.table.ports) flows
