-- The instance of a table.
use Rattle.std.proofs.Common.{◌≡◌, ℕ, ◌+◌, ◌<◌, ◌≤◌, List, get_or, length, sym, ap, subst, ◌∙◌, arith}
use Rattle.std.specs.Prelude.{All}
use Rattle.std.specs.List.{range_with_len}
use Rattle.std.specs.List.Sorted.{IsStrictlyIncreasing}
use Rattle.std.proofs.lemmas.List.FromFn.{get_or-range_with_len, length-range_with_len}
use Rattle.coflow_units.specs.Flows.{IsWhole}
use Rattle.coflow_units.proofs.Lists.{number_in}
use Rattle.flow_table.specs.Table.{IsTable, TableFacts, instance_of}

numbers_rise : (n : ℕ) → IsStrictlyIncreasing (range_with_len 0 n)
numbers_rise n = λ k lt. omega
    (arith, get_or-range_with_len 0 n k 0 (omega (arith, length-range_with_len 0 n)), get_or-range_with_len 0 n (k + 1) 0 (omega (arith, length-range_with_len 0 n)))

pub whole : (t : TableFacts) (weights : List ℕ) → IsTable t → length weights ≡ length t.ids → All (λ w. 1 ≤ w) weights → IsWhole (instance_of t weights)
whole t weights h count some = record {
  instance = record {
    ascending = numbers_rise (length t.ids);
    has_ports = omega (arith, h.has_ports);
    coflow = λ k d lt. λ units. number_in 0 (length t.ids) (get_or t.flows k d).coflow (omega arith) (omega (arith, h.coflow k d lt));
    ingress = h.ingress;
    egress = h.egress;
  };
  numbered = ap (range_with_len 0) (sym (length-range_with_len 0 (length t.ids)));
  weights = λ k d lt.
      let short : k < length t.ids = omega (arith, length-range_with_len 0 (length t.ids)) in
      let place : get_or (range_with_len 0 (length t.ids)) k d ≡ k = get_or-range_with_len 0 (length t.ids) k d short ∙ omega arith in
      subst (λ n. 1 ≤ get_or weights n 0) (sym place) (some k 0 (omega arith));
  units = h.units;
  sorted = h.sorted;
}
