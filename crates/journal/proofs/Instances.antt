-- What is left is an instance, so it has its ordering certificate; and a slot has its grants.
use Rattle.std.proofs.Common.{◌≡◌, ℕ, ◌+◌, ◌<◌, Bool, true, false, List, [], ◌∷◌, length, get_or, Contains, refl, sym, ap, subst, ◌∙◌, arith, zero, suc}
use Rattle.std.specs.Prelude.{if◌then◌else◌}
use Rattle.std.proofs.lemmas.List.{get_or_default}
use Rattle.coflow_units.specs.declared.fabric.Flow.{Flow}
use Rattle.coflow_units.specs.Flows.{Instance, IsInstance, coflow_of, with_units, with_units_from}
use Rattle.coflow_units.specs.Certificate.{Entry}
use Rattle.coflow_units.specs.Ordering.{IsOrdering}
use Rattle.coflow_units.specs.Grants.{IsGrants}
use Rattle.coflow_units.proofs.OrderingExists.{ordering_exists}
use Rattle.coflow_units.proofs.OrderingLaws.{one_ordering}
use Rattle.coflow_units.proofs.GrantLaws.{one_grants}
use Rattle.coflow_units.proofs.GrantsExist.{grants_exist}
use Rattle.coflow_units.proofs.Sums.{any_has}
use Rattle.coflow_units.proofs.Ranges.{range_rises}
use Rattle.coflow_units.proofs.WhatIsLeft.{length_from}
use Rattle.journal.specs.declared.opening.Opening.{Opening}
use Rattle.journal.specs.Chosen.{the_grants, the_ordering}
use Rattle.journal.specs.State.{has, is_present, IsOpening, owed, present, State, what_is_left}

pub is_the_ordering : (i : Instance) → IsInstance i → IsOrdering i (the_ordering i)
unfolding the_ordering
is_the_ordering i inst = ordering_exists i inst

pub only_ordering : (i : Instance) (entries : List Entry) → IsInstance i → IsOrdering i entries → entries ≡ the_ordering i
only_ordering i entries inst ordering = one_ordering i entries (the_ordering i) ordering (is_the_ordering i inst)

pub are_the_grants : (flows : List Flow) (line : List ℕ) (left : ℕ → ℕ) → IsGrants flows line left (the_grants flows line left)
unfolding the_grants
are_the_grants flows line left = grants_exist flows line left

pub only_grants : (flows : List Flow) (line : List ℕ) (left : ℕ → ℕ) (granted : List ℕ) → IsGrants flows line left granted → granted ≡ the_grants flows line left
only_grants flows line left granted grants = one_grants flows line left granted (the_grants flows line left) grants (are_the_grants flows line left)

abbrev given : (ℕ → ℕ) → ℕ → Flow → Flow
given units k x = record { coflow = x.coflow; ingress = x.ingress; egress = x.egress; units = units k }

pub units_at : (k : ℕ) (units : ℕ → ℕ) (xs : List Flow) (i : ℕ) (d : Flow) → i < length xs → get_or (with_units_from k units xs) i d ≡ given units (k + i) (get_or xs i d)
units_at k units [] i d lt = absurd (omega arith)
units_at k units (x ∷ xs) zero d lt = ap (λ n. given units n x) (omega arith)
units_at k units (x ∷ xs) (suc i) d lt = units_at (k + 1) units xs i d (omega arith) ∙ ap (λ n. given units n (get_or xs i d)) (omega arith)

counted_in : (p : List ℕ) (c n : ℕ) (b : Bool) → has p c ≡ b → 0 < (if b then n else 0) → Contains p c
counted_in p c n true e some = any_has p c e
counted_in p c n false e some = absurd (omega arith)

pub left_is_instance : (o : Opening) (s : State) → IsOpening o → IsInstance (what_is_left o s)
left_is_instance o s ok =
    let units = λ (f : ℕ). if has (present o s) (coflow_of o.table.flows f) then owed o s f else 0 in
    let at = λ (i : ℕ) (d : Flow) (lt : i < length (with_units units o.table.flows)). units_at 0 units o.table.flows i d (omega (arith, lt, length_from 0 units o.table.flows)) in
    record {
      ascending = range_rises (is_present s) (length o.table.ids);
      has_ports = omega (arith, ok.table.has_ports);
      coflow = λ i d lt. subst (λ (x : Flow). 0 < x.units → Contains (present o s) x.coflow) (sym (at i d lt)) (λ some.
          let in' : i < length o.table.flows = omega (arith, lt, length_from 0 units o.table.flows) in
          let k : 0 + i ≡ i = omega arith in
          subst (λ c. Contains (present o s) c)
          (ap (coflow_of o.table.flows) k ∙ ap (λ (x : Flow). x.coflow) (get_or_default o.table.flows i record { coflow = 0; ingress = 0; egress = 0; units = 0 } d in'))
          (counted_in (present o s) (coflow_of o.table.flows (0 + i)) (owed o s (0 + i)) (has (present o s) (coflow_of o.table.flows (0 + i))) refl some));
      ingress = λ i d lt. subst (λ (x : Flow). x.ingress < o.table.ports) (sym (at i d lt)) (ok.table.ingress i d (omega (arith, lt, length_from 0 units o.table.flows)));
      egress = λ i d lt. subst (λ (x : Flow). x.egress < o.table.ports) (sym (at i d lt)) (ok.table.egress i d (omega (arith, lt, length_from 0 units o.table.flows)));
    }
