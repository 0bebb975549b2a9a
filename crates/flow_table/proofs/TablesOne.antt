-- The starts of a table follow from its flows, so a trace has one table at most.
use Rattle.std.proofs.Common.{◌≡◌, ℕ, ◌+◌, ◌-◌, ◌<◌, ◌≤◌, inl, inr, length, map, refl, sym, ap, subst, ◌∙◌, arith, zero, suc}
use Rattle.std.specs.Prelude.{slice_index}
use Rattle.std.proofs.lemmas.Bool.{cases_lt, cases_order}
use Rattle.std.proofs.lemmas.List.{ext_get_or}
use Rattle.coflow_units.specs.declared.fabric.Flow.{Flow}
use Rattle.coflow_units.specs.declared.trace.Trace.{Trace}
use Rattle.coflow_units.specs.Flows.{coflow_of}
use Rattle.coflow_units.specs.Trace.{ids_of}
use Rattle.flow_table.specs.Sent.{sent}
use Rattle.flow_table.specs.Table.{IsTable, IsTableOf, TableFacts}
use Rattle.flow_table.proofs.FlowsOne.{flows_one}

rises : (t : TableFacts) → IsTable t → (k c d : ℕ) → d ≡ c + k → d ≤ length t.ids → slice_index t.starts c ≤ slice_index t.starts d
rises t h zero c d e le = let same : d ≡ c = omega arith in omega (arith, ap (λ n. slice_index t.starts n) same)
rises t h (suc k) c d e le =
    let same : d ≡ (c + k) + 1 = omega arith in
    omega (arith, rises t h k c (c + k) refl (omega arith), h.starts_rise (c + k) (omega arith), ap (λ n. slice_index t.starts n) same)

-- no start of a table is below that of another one
not_below : (a b : TableFacts) → IsTable a → IsTable b → a.flows ≡ b.flows → length a.ids ≡ length b.ids → (c : ℕ) → c < length a.starts →
    slice_index a.starts c < slice_index b.starts c → ⊥
not_below a b ha hb flows ids c lt less =
    let f = slice_index a.starts c in
    let inside : slice_index b.starts c ≤ length b.flows = hb.starts.within c 0 (omega (arith, ha.starts_len, hb.starts_len)) in
    let own = ha.starts.all f (omega (arith, ap length flows)) in
    let d = coflow_of a.flows f in
    let other = subst (λ (xs : _). (coflow_of xs f + 1 < length b.starts) × (slice_index b.starts (coflow_of xs f) ≤ f) × (f < slice_index b.starts (coflow_of xs f + 1)))
    (sym flows) (hb.starts.all f (omega arith)) in
    elim (cases_lt d c) [
      | inl before ↦ omega (arith, rises a ha (c - (d + 1)) (d + 1) c (omega arith) (omega (arith, ha.starts_len)), own.2)
      | inr past ↦ omega (arith, rises b hb (d - c) c d (omega arith) (omega (arith, hb.starts_len, other.0)), other.1)
    ]

pub starts_one : (a b : TableFacts) → IsTable a → IsTable b → a.flows ≡ b.flows → length a.ids ≡ length b.ids → a.starts ≡ b.starts
starts_one a b ha hb flows ids =
    let same : length a.starts ≡ length b.starts = omega (arith, ha.starts_len, hb.starts_len) in
    ext_get_or 0 a.starts b.starts same (λ c lt. elim (cases_order (slice_index a.starts c) (slice_index b.starts c)) [
      | inl e ↦ e
      | inr (inl less) ↦ absurd (not_below a b ha hb flows ids c lt less)
      | inr (inr more) ↦ absurd (not_below b a hb ha (sym flows) (sym ids) c (omega (arith, same)) more)
    ])

pub tables_one : (trace : Trace) (unit : ℕ) (a b : TableFacts) → IsTable a → IsTable b → IsTableOf trace unit a → IsTableOf trace unit b → a ≡ b
tables_one trace unit a b ha hb of_a of_b = λ i. record { flows = flows i; starts = starts i; ports = ports i; ids = ids i; arrivals = arrivals i }
  where
    flows : a.flows ≡ b.flows
    flows = flows_one (sent trace unit) a.flows b.flows of_a.flows of_b.flows

    ids : a.ids ≡ b.ids
    ids = of_a.ids ∙ sym of_b.ids

    ports : a.ports ≡ b.ports
    ports = of_a.ports ∙ sym of_b.ports

    arrivals : a.arrivals ≡ b.arrivals
    arrivals = of_a.arrivals ∙ sym of_b.arrivals

    starts : a.starts ≡ b.starts
    starts = starts_one a b ha hb flows (ap length ids)
