-- The groups of flows, from the last flow to the first.
use Rattle.std.proofs.Common.{◌≡◌, ℕ, ◌+◌, ◌≤◌, ◌<◌, inl, inr, List, length, get_or, set, refl, sym, ap, subst, ◌∙◌, arith, length-set}
use Rattle.std.proofs.lemmas.Bool.{cases_eq}
use Rattle.std.proofs.lemmas.Grind.{get_or-set_at}
use Rattle.std.proofs.lemmas.List.{get_or-set_other, get_or_default}
use Rattle.coflow_units.specs.declared.fabric.Flow.{Flow}
use Rattle.coflow_units.specs.Flows.{coflow_of, ingress_of}
use Rattle.greedy_rates.specs.Owed.{IsGroups}

-- the two flows are of one group, and this is the number behind it
abbrev pub IsAlike : List Flow → List ℕ → ℕ → ℕ → ℕ → Type 0
IsAlike flows behind b f g = (coflow_of flows g ≡ coflow_of flows f) × (ingress_of flows g ≡ ingress_of flows f) × (get_or behind g 0 ≡ b)

-- the groups of the flows from the first number on
pub record IsGroupsFrom (flows : List Flow) (behind : List ℕ) (first : ℕ) : Type 0 where
  pub count : length behind ≡ length flows
  pub above : (f : ℕ) → first ≤ f → f < length flows → f < get_or behind f 0
  pub within : (f : ℕ) → first ≤ f → f < length flows → get_or behind f 0 ≤ length flows
  pub alike : (f g : ℕ) → first ≤ f → f < length flows → f ≤ g → g < get_or behind f 0 → IsAlike flows behind (get_or behind f 0) f g

pub groups_are : (flows : List Flow) (behind : List ℕ) → IsGroupsFrom flows behind 0 → IsGroups flows behind
groups_are flows behind all = record {
  count = all.count;
  above = λ f lt. all.above f (omega arith) lt;
  within = λ f lt. all.within f (omega arith) lt;
  coflow = λ f g lt from to. (all.alike f g (omega arith) lt from to).0;
  ingress = λ f g lt from to. (all.alike f g (omega arith) lt from to).1;
  same = λ f g lt from to. (all.alike f g (omega arith) lt from to).2;
}

pub nothing_grouped : (flows : List Flow) (behind : List ℕ) → length behind ≡ length flows → IsGroupsFrom flows behind (length flows)
nothing_grouped flows behind e = record {
  count = e;
  above = λ f from lt. absurd (omega (arith, from, lt));
  within = λ f from lt. absurd (omega (arith, from, lt));
  alike = λ f g from lt. absurd (omega (arith, from, lt));
}

-- one flow more at the front, with the number behind its group
group_more : (flows : List Flow) (behind : List ℕ) (n b : ℕ) → n < length flows → n < b → b ≤ length flows → ((g : ℕ) → n < g → g < b → IsAlike flows behind b n g) →
    IsGroupsFrom flows behind (n + 1) → IsGroupsFrom flows (set behind n b) n
group_more flows behind n b lt above within like all =
    let here : get_or (set behind n b) n 0 ≡ b = get_or-set_at behind n n b 0 refl (omega (arith, lt, all.count)) in
    let else : (g : ℕ) → n < g → get_or (set behind n b) g 0 ≡ get_or behind g 0 = λ g more. get_or-set_other behind n g b 0 (λ e. omega (arith, e, more)) in
    record {
      count = length-set behind n b ∙ all.count;
      above = λ f from in'. elim (cases_eq f n) [
        | inl e ↦ omega (arith, e, here, ap (λ (x : ℕ). get_or (set behind n b) x 0) e, above)
        | inr ne ↦ let more : n < f = omega (arith, from, ne) in omega (arith, else f more, all.above f (omega (arith, more)) in')
      ];
      within = λ f from in'. elim (cases_eq f n) [
        | inl e ↦ omega (arith, here, ap (λ (x : ℕ). get_or (set behind n b) x 0) e, within)
        | inr ne ↦ let more : n < f = omega (arith, from, ne) in omega (arith, else f more, all.within f (omega (arith, more)) in')
      ];
      alike = λ f g from in' le to. elim (cases_eq f n) [
        | inl e ↦
            let b_is : get_or (set behind n b) f 0 ≡ b = ap (λ (x : ℕ). get_or (set behind n b) x 0) e ∙ here in
            elim (cases_eq g n) [
              | inl e' ↦ (ap (coflow_of flows) (e' ∙ sym e), ap (ingress_of flows) (e' ∙ sym e), ap (λ (x : ℕ). get_or (set behind n b) x 0) (e' ∙ sym e))
              | inr ne' ↦
                  let more : n < g = omega (arith, e, le, ne') in
                  let (c, i, same) = like g more (omega (arith, to, b_is)) in
                  (c ∙ ap (coflow_of flows) (sym e), i ∙ ap (ingress_of flows) (sym e), else g more ∙ (same ∙ sym b_is))
            ]
        | inr ne ↦
            let more : n < f = omega (arith, from, ne) in
            let (c, i, same) = all.alike f g (omega (arith, more)) in' le (omega (arith, to, else f more)) in
            (c, i, else g (omega (arith, more, le)) ∙ (same ∙ sym (else f more)))
      ];
    }

-- the flow joins the group of the next one
pub group_joins : (flows : List Flow) (behind : List ℕ) (n b : ℕ) → b ≡ get_or behind (n + 1) b → n + 1 < length flows → coflow_of flows (n + 1) ≡ coflow_of flows n →
    ingress_of flows (n + 1) ≡ ingress_of flows n →
    IsGroupsFrom flows behind (n + 1) → IsGroupsFrom flows (set behind n b) n
group_joins flows behind n b read lt c i all =
    let is : b ≡ get_or behind (n + 1) 0 = omega (arith, read, get_or_default behind (n + 1) 0 b (omega (arith, lt, all.count))) in
    subst (λ (m : ℕ). IsGroupsFrom flows (set behind n m) n) (sym is)
    (group_more flows behind n (get_or behind (n + 1) 0) (omega (arith, lt)) (omega (arith, all.above (n + 1) (omega arith) lt)) (all.within (n + 1) (omega arith) lt)
    (λ g more to. let (c', i', same) = all.alike (n + 1) g (omega arith) lt (omega (arith, more)) to in (c' ∙ c, i' ∙ i, same)) all)

-- the flow is the last of its group
pub group_ends : (flows : List Flow) (behind : List ℕ) (n : ℕ) → n < length flows → IsGroupsFrom flows behind (n + 1) → IsGroupsFrom flows (set behind n (n + 1)) n
group_ends flows behind n lt all = group_more flows behind n (n + 1) lt (omega arith) (omega (arith, lt)) (λ g more to. absurd (omega (arith, more, to))) all
