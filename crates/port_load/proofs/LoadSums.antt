-- Loads of lists of flows.
use Rattle.std.proofs.Common.{◌≡◌, ◌≢◌, ℕ, ◌+◌, ◌<◌, ◌≤◌, inl, inr, Bool, true, false, cond, List, [], ◌∷◌, refl, sym, ap, subst, ◌∙◌, arith}
use Rattle.std.specs.Prelude.{not, sum_by, ◌==◌, ◌&&◌, ◌||◌, if◌then◌else◌}
use Rattle.std.specs.List.{list_any}
use Rattle.std.proofs.lemmas.List.Sums.{sum_by-cons}
use Rattle.std.proofs.lemmas.Bool.{cases_Bool, not-true, or_parts, eqb-true, ne_eqb, eq-eqb, both_ways}
use Rattle.coflow_units.specs.declared.fabric.Flow.{Flow}
use Rattle.coflow_units.specs.declared.fabric.Port.{Port}
use Rattle.coflow_units.specs.Flows.{uses}
use Rattle.coflow_units.specs.Load.{load, loads, load_of_all}
use Rattle.coflow_units.proofs.Sums.{Apart, picked_most, sum_mono, sum_same, sum_swap, sum_zero}
use Rattle.port_load.specs.LoadTable.{DropsAll, HasLoads, IsSameSize, LoadTable, flows_without, load_at}

-- ---- no port has more load than there are units

and_true : (t : Bool) (u : ℕ) → (if t && true then u else 0) ≡ cond t u 0
and_true true u = refl
and_true false u = refl

and_false : (t : Bool) (u : ℕ) → (if t && false then u else 0) ≡ 0
and_false true u = refl
and_false false u = refl

once_at : (b : Bool) (a u : ℕ) (coflows : List ℕ) → Apart coflows → sum_by (λ c. if ((a == c) && b) then u else 0) coflows ≤ u
once_at true a u coflows apart =
    omega (arith, picked_most a (λ c. u) coflows apart, sum_same (λ c. if ((a == c) && true) then u else 0) (λ c. cond (a == c) u 0) coflows (λ c has. and_true (a == c) u))
once_at false a u coflows apart =
    omega (arith, sum_zero coflows, sum_same (λ c. if ((a == c) && false) then u else 0) (λ c. 0) coflows (λ c has. and_false (a == c) u))

pub within_units : (flows : List Flow) (coflows : List ℕ) (port : Port) → Apart coflows → load_of_all flows coflows port ≤ sum_by (λ (x : Flow). x.units) flows
within_units flows coflows port apart =
    let swapped = sum_swap (λ (c : ℕ) (x : Flow). if loads c port x then x.units else 0) coflows flows in
    let most = sum_mono (λ (x : Flow). sum_by (λ c. if loads c port x then x.units else 0) coflows) (λ (x : Flow). x.units) flows
    (λ x has. once_at (uses port x) x.coflow x.units coflows apart) in
    omega (arith, swapped, most)

-- ---- the loads without some coflows

keep_first : (b : Bool) (x : Flow) (xs : List Flow) (f : Flow → ℕ) (n : ℕ) → (b ≡ true → f x + sum_by f xs ≡ n) → (b ≡ false → sum_by f xs ≡ n) → sum_by f (cond b (x ∷ xs) xs) ≡ n
keep_first true x xs f n yes' no' = sum_by-cons f x xs ∙ yes' refl
keep_first false x xs f n yes' no' = no' refl

other_load : (c : ℕ) (port : Port) (x : Flow) → (x.coflow ≡ c → ⊥) → (if loads c port x then x.units else 0) ≡ 0
other_load c port x ne = ap (λ b. if (b && uses port x) then x.units else 0) (ne_eqb x.coflow c ne)

not_false : (b : Bool) → not b ≡ false → b ≡ true
not_false true e = refl
not_false false e = sym e

pub load_kept : (dropped : List ℕ) (flows : List Flow) (c : ℕ) (port : Port) → list_any (λ d. d == c) dropped ≡ false →
    load (flows_without dropped flows) c port ≡ load flows c port
load_kept dropped [] c port out = refl
load_kept dropped (x ∷ xs) c port out =
    let f = λ (y : Flow). if loads c port y then y.units else 0 in
    let rest = load_kept dropped xs c port out in
    keep_first (not (list_any (λ d. d == x.coflow) dropped)) x (flows_without dropped xs) f (load (x ∷ xs) c port)
    (λ kept. omega (arith, rest, sum_by-cons f x xs))
    (λ gone. omega (
      arith,
      rest,
      sum_by-cons f x xs,
      other_load c port x (λ e. both_ways (list_any (λ d. d == c) dropped) out
          (ap (λ k. list_any (λ d. d == k) dropped) (sym e) ∙ not_false (list_any (λ d. d == x.coflow) dropped) gone)),
    ))

pub load_gone : (dropped : List ℕ) (flows : List Flow) (c : ℕ) (port : Port) → list_any (λ d. d == c) dropped ≡ true → load (flows_without dropped flows) c port ≡ 0
load_gone dropped [] c port in' = refl
load_gone dropped (x ∷ xs) c port in' =
    let f = λ (y : Flow). if loads c port y then y.units else 0 in
    let rest = load_gone dropped xs c port in' in
    keep_first (not (list_any (λ d. d == x.coflow) dropped)) x (flows_without dropped xs) f 0
    (λ kept. omega (
      arith,
      rest,
      other_load c port x
          (λ e. both_ways (list_any (λ d. d == c) dropped) (ap (λ k. list_any (λ d. d == k) dropped) (sym e) ∙ not-true (list_any (λ d. d == x.coflow) dropped) kept) in'),
    ))
    (λ gone. rest)

-- ---- tables from which coflows were dropped

pub record AfterDrops (old new : LoadTable) (dropped : List ℕ) : Type 0 where
  pub size : IsSameSize old new
  pub gone : (c : ℕ) (port : Port) → c < old.coflows → port.number < old.ports → list_any (λ d. d == c) dropped ≡ true → load_at new c port ≡ 0
  pub stays : (c : ℕ) (port : Port) → c < old.coflows → port.number < old.ports → list_any (λ d. d == c) dropped ≡ false → load_at new c port ≡ load_at old c port

or_first : (a b : Bool) → (a || b) ≡ true → b ≡ false → a ≡ true
or_first true b e f = refl
or_first false b e f = absurd (both_ways b f e)

not_same : (a b : ℕ) → (a == b) ≡ false → b ≢ a
not_same a b f = λ e. both_ways (a == b) f (eq-eqb a b (sym e))

pub after_drops : (old new : LoadTable) (dropped : List ℕ) → DropsAll old new dropped → AfterDrops old new dropped
after_drops old new [] same = record {
  size = record { coflows = ap (λ (t : LoadTable). t.coflows) same; ports = ap (λ (t : LoadTable). t.ports) same };
  gone = λ c port lc lp e. absurd (both_ways false refl e);
  stays = λ c port lc lp e. ap (λ (t : LoadTable). load_at t c port) same;
}
after_drops old new (d ∷ ds) (between, first, later) =
    let after = after_drops between new ds later in
    let coflow_in = λ (c : ℕ) (lc : c < old.coflows). subst (λ n. c < n) (sym first.size.coflows) lc in
    let port_in = λ (port : Port) (lp : port.number < old.ports). subst (λ n. port.number < n) (sym first.size.ports) lp in
    record {
      size = record { coflows = after.size.coflows ∙ first.size.coflows; ports = after.size.ports ∙ first.size.ports };
      gone = λ c port lc lp e. elim (cases_Bool (list_any (λ k. k == c) ds)) [
        | inl t ↦ after.gone c port (coflow_in c lc) (port_in port lp) t
        | inr f ↦ after.stays c port (coflow_in c lc) (port_in port lp) f ∙
            subst (λ k. load_at between k port ≡ 0) (eqb-true d c (or_first (d == c) (list_any (λ k. k == c) ds) e f)) (first.gone port lp)
      ];
      stays = λ c port lc lp e.
          let (other, out) = or_parts (d == c) (list_any (λ k. k == c) ds) e in
          after.stays c port (coflow_in c lc) (port_in port lp) out ∙ first.others c port lc (not_same d c other) lp;
    }

pub drops_anew : (flows : List Flow) (old new : LoadTable) (dropped : List ℕ) → HasLoads flows old → DropsAll old new dropped → HasLoads (flows_without dropped flows) new
drops_anew flows old new dropped has drops c port lc lp =
    let after = after_drops old new dropped drops in
    let lc' = subst (λ n. c < n) after.size.coflows lc in
    let lp' = subst (λ n. port.number < n) after.size.ports lp in
    elim (cases_Bool (list_any (λ k. k == c) dropped)) [
      | inl t ↦ after.gone c port lc' lp' t ∙ sym (load_gone dropped flows c port t)
      | inr f ↦ after.stays c port lc' lp' f ∙ has c port lc' lp' ∙ sym (load_kept dropped flows c port f)
    ]
