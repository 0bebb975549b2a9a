-- How many ports are open, when one of them closes.
use Rattle.std.proofs.Common.{◌≡◌, ◌≢◌, ℕ, ◌+◌, ◌<◌, ◌==◌, inl, inr, Bool, true, false, true≢false, cond, List, Option, None, length, get_or, refl, sym, ap, ◌∙◌, arith}
use Rattle.std.specs.Prelude.{◌&&◌, not, sum_by, nat_lt}
use Rattle.std.specs.List.{range_with_len}
use Rattle.std.specs.Option.{is_some}
use Rattle.std.proofs.lemmas.Bool.{cases_eq, eqb-true, eq-eqb, lt-ltb}
use Rattle.coflow_units.proofs.Lists.{number_in, numbers_apart}
use Rattle.coflow_units.proofs.Sums.{sum_same, sum_add, picked_one, member_within_sum}
use Rattle.coflow_units.proofs.Ranges.{sum_next}
use Rattle.greedy_rates.specs.Room.{flow_at_ingress}
use Rattle.greedy_rates.specs.OpenPorts.{how_many, open_ingresses, open_egresses}

-- one place stops passing the test
pub one_closes : (was now : ℕ → Bool) (table : List ℕ) (a : ℕ) → a < length table → was a ≡ true → now a ≡ false → ((p : ℕ) → p ≢ a → now p ≡ was p) →
    how_many now table + 1 ≡ how_many was table
one_closes was now table a lt passed closed others =
    let ns = range_with_len 0 (length table) in
    let step : sum_by (λ p. cond (now p) 1 0 + cond (a == p) 1 0) ns ≡ how_many was table =
    sum_same (λ p. cond (now p) 1 0 + cond (a == p) 1 0) (λ p. cond (was p) 1 0) ns (λ p _. at p) in
    omega (
      arith,
      step,
      sum_add (λ p. cond (now p) 1 0) (λ p. cond (a == p) 1 0) ns,
      picked_one a (λ _. 1) ns (numbers_apart 0 (length table)) (number_in 0 (length table) a (omega arith) (omega (arith, lt))),
    ) where
      at : (p : ℕ) → cond (now p) 1 0 + cond (a == p) 1 0 ≡ cond (was p) 1 0
      at p = elim (cases_eq a p) [
        | inl e ↦ omega (
          arith,
          ap {B = ℕ} (λ b. cond b 1 0) (eq-eqb a p e),
          ap {B = ℕ} (λ b. cond b 1 0) (ap now (sym e) ∙ closed),
          ap {B = ℕ} (λ b. cond b 1 0) (ap was (sym e) ∙ passed),
        )
        | inr ne ↦ omega (arith, ap {B = ℕ} (λ b. cond b 1 0) (differ (a == p) refl ne), ap {B = ℕ} (λ b. cond b 1 0) (others p (λ e. ne (sym e))))
      ] where
        differ : (b : Bool) → (a == p) ≡ b → a ≢ p → (a == p) ≡ false
        differ true e ne = absurd (ne (eqb-true a p e))
        differ false e ne = e

-- where no place passes the test, a place does not
pub none_open : (test : ℕ → Bool) (table : List ℕ) (a : ℕ) → how_many test table ≡ 0 → a < length table → test a ≡ false
none_open test table a none lt = go (test a) refl where
  go : (b : Bool) → test a ≡ b → test a ≡ false
  go true e = absurd (omega (
    arith,
    none,
    member_within_sum (λ p. cond (test p) 1 0) (range_with_len 0 (length table)) a (number_in 0 (length table) a (omega arith) (omega (arith, lt))),
    ap {B = ℕ} (λ b. cond b 1 0) e,
  ))
  go false e = e

-- a port more is counted
pub count_more : (owed : List ℕ) (n count : ℕ) → 0 < get_or owed n 0 → count ≡ sum_by (λ p. cond (nat_lt 0 (get_or owed p 0)) 1 0) (range_with_len 0 n) →
    count + 1 ≡ sum_by (λ p. cond (nat_lt 0 (get_or owed p 0)) 1 0) (range_with_len 0 (n + 1))
count_more owed n count some is = omega (arith, is, sum_next (λ p. cond (nat_lt 0 (get_or owed p 0)) 1 0) n, ap {B = ℕ} (λ b. cond b 1 0) (lt-ltb 0 (get_or owed n 0) some))

pub count_same : (owed : List ℕ) (n count : ℕ) → get_or owed n 0 ≡ 0 → count ≡ sum_by (λ p. cond (nat_lt 0 (get_or owed p 0)) 1 0) (range_with_len 0 n) →
    count ≡ sum_by (λ p. cond (nat_lt 0 (get_or owed p 0)) 1 0) (range_with_len 0 (n + 1))
count_same owed n count none is = omega (arith, is, sum_next (λ p. cond (nat_lt 0 (get_or owed p 0)) 1 0) n, ap {B = ℕ} (λ (m : ℕ). cond (nat_lt 0 m) 1 0) none)

abbrev pub how_many_owe : List ℕ → ℕ
how_many_owe owed = how_many (λ p. nat_lt 0 (get_or owed p 0)) owed

-- ---- where nothing stands yet, each port that owes is open

and_true : (a b : Bool) → b ≡ false → (a && not b) ≡ a
and_true true false _ = refl
and_true false false _ = refl
and_true a true e = absurd (true≢false e)

pub all_ingresses_open : (owed : List ℕ) (at : List (Option ℕ)) → ((p : ℕ) → flow_at_ingress at p ≡ None) → how_many (λ p. nat_lt 0 (get_or owed p 0)) owed ≡ open_ingresses owed at
all_ingresses_open owed at none =
    sum_same (λ p. cond (nat_lt 0 (get_or owed p 0)) 1 0) (λ p. cond (nat_lt 0 (get_or owed p 0) && not (is_some (flow_at_ingress at p))) 1 0) (range_with_len 0 (length owed))
    (λ p _. ap {B = ℕ} (λ b. cond b 1 0) (sym (and_true (nat_lt 0 (get_or owed p 0)) (is_some (flow_at_ingress at p)) (ap is_some (none p)))))

pub all_egresses_open : (owed : List ℕ) (busy : List Bool) → ((p : ℕ) → get_or busy p false ≡ false) → how_many (λ p. nat_lt 0 (get_or owed p 0)) owed ≡ open_egresses owed busy
all_egresses_open owed busy free =
    sum_same (λ p. cond (nat_lt 0 (get_or owed p 0)) 1 0) (λ p. cond (nat_lt 0 (get_or owed p 0) && not (get_or busy p false)) 1 0) (range_with_len 0 (length owed))
    (λ p _. ap {B = ℕ} (λ b. cond b 1 0) (sym (and_true (nat_lt 0 (get_or owed p 0)) (get_or busy p false) (free p))))
