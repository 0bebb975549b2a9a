-- The pass over the flows of a line, one flow after another.
use Rattle.std.proofs.Common.{◌≡◌, ℕ, ◌+◌, ◌<◌, ◌⊎◌, inl, inr, Bool, true, false, true≢false, List, Option, Some, None, length, get_or, set, refl, sym, ap, subst, ◌∙◌, arith}
use Rattle.std.specs.Option.{is_some}
use Rattle.std.specs.Prelude.{unwrap_or}
use Rattle.std.proofs.lemmas.Bool.{cases_eq}
use Rattle.std.proofs.lemmas.Grind.{get_or-set_at}
use Rattle.std.proofs.lemmas.List.{get_or-set_other}
use Rattle.coflow_units.specs.declared.fabric.Flow.{Flow}
use Rattle.coflow_units.specs.Flows.{coflow_of, ingress_of, egress_of, SharesPort}
use Rattle.coflow_units.specs.Grants.{place_in, ComesBefore, IsLookedAt}
use Rattle.coflow_units.proofs.LinePlaces.{in_front, old_or_next, one_more}
use Rattle.greedy_rates.specs.Room.{flow_at_ingress}
use Rattle.greedy_rates.specs.Pass.{Stands, IsGranting}

pub not_none : (o : Option ℕ) (x : ℕ) → o ≡ None → o ≡ Some x → ⊥
not_none o x a b = true≢false (ap is_some (sym b ∙ a))

pub not_some : (o : Option ℕ) → is_some o ≡ false → o ≡ None
not_some None e = refl
not_some (Some x) e = absurd (true≢false e)

pub same_some : (x y : ℕ) → Some x ≡ Some y → x ≡ y
same_some x y e = ap (λ (o : Option ℕ). unwrap_or o 0) e

pub nothing_stands : (flows : List Flow) (line : List ℕ) (left : ℕ → ℕ) (at : List (Option ℕ)) (busy : List Bool) → ((p : ℕ) → flow_at_ingress at p ≡ None) →
    ((p : ℕ) → get_or busy p false ≡ false) →
    IsGranting flows line left 0 0 at busy
nothing_stands flows line left at busy none free = record {
  own = λ p f e. absurd (not_none (flow_at_ingress at p) f (none p) e);
  flow = λ f s. absurd (not_none (flow_at_ingress at (ingress_of flows f)) f (none (ingress_of flows f)) s);
  looked_at = λ f s. absurd (not_none (flow_at_ingress at (ingress_of flows f)) f (none (ingress_of flows f)) s);
  owed = λ f s. absurd (not_none (flow_at_ingress at (ingress_of flows f)) f (none (ingress_of flows f)) s);
  apart = λ f g s _ _. absurd (not_none (flow_at_ingress at (ingress_of flows f)) f (none (ingress_of flows f)) s);
  used = λ f s. absurd (not_none (flow_at_ingress at (ingress_of flows f)) f (none (ingress_of flows f)) s);
  by = λ p e. absurd (true≢false (sym e ∙ free p));
  rest = λ f lt seen some. elim seen [
    | inl low ↦ absurd (omega (arith, low))
    | inr (_, low) ↦ absurd (omega (arith, low))
  ];
}

-- the same flows were looked at
pub front_moves : (flows : List Flow) (line : List ℕ) (left : ℕ → ℕ) (k n k' n' : ℕ) (at : List (Option ℕ)) (busy : List Bool) →
    ((f : ℕ) → f < length flows → IsLookedAt flows line k n f → IsLookedAt flows line k' n' f) →
    ((f : ℕ) → f < length flows → IsLookedAt flows line k' n' f → IsLookedAt flows line k n f) → IsGranting flows line left k n at busy → IsGranting flows line left k' n' at busy
front_moves flows line left k n k' n' at busy there back so_far = record {
  own = so_far.own;
  flow = so_far.flow;
  looked_at = λ f s. there f (so_far.flow f s) (so_far.looked_at f s);
  owed = so_far.owed;
  apart = so_far.apart;
  used = so_far.used;
  by = so_far.by;
  rest = λ f lt seen some. so_far.rest f lt (back f lt seen) some;
}

-- the next flow owes nothing, or one that stands has a port in common
pub skip_flow : (flows : List Flow) (line : List ℕ) (left : ℕ → ℕ) (k n : ℕ) (at : List (Option ℕ)) (busy : List Bool) → place_in line (coflow_of flows n) ≡ k →
    (0 < left n → (g : ℕ) × Stands flows at g × SharesPort flows g n) → IsGranting flows line left k n at busy → IsGranting flows line left k (n + 1) at busy
skip_flow flows line left k n at busy here blocking so_far = record {
  own = so_far.own;
  flow = so_far.flow;
  looked_at = λ f s. one_more flows line k n f (so_far.looked_at f s);
  owed = so_far.owed;
  apart = so_far.apart;
  used = so_far.used;
  by = so_far.by;
  rest = λ f lt seen some. elim (old_or_next flows line k n f seen) [
    | inl old ↦ so_far.rest f lt old some
    | inr same ↦
        let (g, s, shares) = blocking (subst (λ (x : ℕ). 0 < left x) same some) in
        inr (
          g,
          s,
          subst (λ (x : ℕ). ComesBefore flows line g x) (sym same) (in_front flows line k n g here (so_far.looked_at g s)),
          subst (λ (x : ℕ). SharesPort flows g x) (sym same) shares,
        )
  ];
}

-- its ingress has a flow
pub skip_sent : (flows : List Flow) (line : List ℕ) (left : ℕ → ℕ) (k n : ℕ) (at : List (Option ℕ)) (busy : List Bool) → place_in line (coflow_of flows n) ≡ k →
    is_some (flow_at_ingress at (ingress_of flows n)) ≡ true →
    IsGranting flows line left k n at busy → IsGranting flows line left k (n + 1) at busy
skip_sent flows line left k n at busy here is so_far = skip_flow flows line left k n at busy here (λ _. stands (flow_at_ingress at (ingress_of flows n)) refl is) so_far where
  stands : (o : Option ℕ) → flow_at_ingress at (ingress_of flows n) ≡ o → is_some o ≡ true → (g : ℕ) × Stands flows at g × SharesPort flows g n
  stands None e fails = absurd (true≢false (sym fails))
  stands (Some g) e _ = let same = so_far.own (ingress_of flows n) g e in (g, ap (flow_at_ingress at) same ∙ e, inl same)

-- its egress has a flow
pub skip_received : (flows : List Flow) (line : List ℕ) (left : ℕ → ℕ) (k n : ℕ) (at : List (Option ℕ)) (busy : List Bool) → place_in line (coflow_of flows n) ≡ k →
    get_or busy (egress_of flows n) false ≡ true →
    IsGranting flows line left k n at busy → IsGranting flows line left k (n + 1) at busy
skip_received flows line left k n at busy here is so_far =
    skip_flow flows line left k n at busy here (λ _. let (g, s, same) = so_far.by (egress_of flows n) is in (g, s, inr same)) so_far

-- what stands at an ingress once a flow was put there
new_or_old : (at : List (Option ℕ)) (i n p f : ℕ) → i < length at → flow_at_ingress (set at i (Some n)) p ≡ Some f → ((f ≡ n) × (p ≡ i)) ⊎ (flow_at_ingress at p ≡ Some f)
new_or_old at i n p f lt e = elim (cases_eq p i) [
  | inl here ↦ inl (same_some f n (sym e ∙ get_or-set_at at i p (Some n) None here lt), here)
  | inr ne ↦ inr (sym (get_or-set_other at i p (Some n) None ne) ∙ e)
]

-- the next flow owes and finds both of its ports free
pub grant_flow : (flows : List Flow) (line : List ℕ) (left : ℕ → ℕ) (k n : ℕ) (at : List (Option ℕ)) (busy : List Bool) → n < length flows → place_in line (coflow_of flows n) ≡ k →
    0 < left n → ingress_of flows n < length at → egress_of flows n < length busy →
    flow_at_ingress at (ingress_of flows n) ≡ None → get_or busy (egress_of flows n) false ≡ false → IsGranting flows line left k n at busy →
    IsGranting flows line left k (n + 1) (set at (ingress_of flows n) (Some n)) (set busy (egress_of flows n) true)
grant_flow flows line left k n at busy in' here some in_range out_range in_free out_free so_far =
    let i = ingress_of flows n in
    let e = egress_of flows n in
    let after = set at i (Some n) in
    let marks = set busy e true in
    let split = λ (f : ℕ) (s : Stands flows after f). new_or_old at i n (ingress_of flows f) f in_range s in
    let new : Stands flows after n = get_or-set_at at i i (Some n) None refl in_range in
    let keep = λ (f : ℕ) (s : Stands flows at f).
    get_or-set_other at i (ingress_of flows f) (Some n) None (λ same. not_none (flow_at_ingress at (ingress_of flows f)) f (ap (flow_at_ingress at) same ∙ in_free) s) ∙ s in
    let marked = λ (f : ℕ) (s : Stands flows at f) (same : egress_of flows f ≡ e). true≢false (sym (so_far.used f s) ∙ ap (λ (p : ℕ). get_or busy p false) same ∙ out_free) in
    record {
      own = λ p f h. elim (new_or_old at i n p f in_range h) [
        | inl (same, there) ↦ ap (ingress_of flows) same ∙ sym there
        | inr old ↦ so_far.own p f old
      ];
      flow = λ f s. elim (split f s) [
        | inl (same, _) ↦ subst (λ (x : ℕ). x < length flows) (sym same) in'
        | inr old ↦ so_far.flow f old
      ];
      looked_at = λ f s. elim (split f s) [
        | inl (same, _) ↦ inr (ap (λ (x : ℕ). place_in line (coflow_of flows x)) same ∙ here, omega (arith, same))
        | inr old ↦ one_more flows line k n f (so_far.looked_at f old)
      ];
      owed = λ f s. elim (split f s) [
        | inl (same, _) ↦ subst (λ (x : ℕ). 0 < left x) (sym same) some
        | inr old ↦ so_far.owed f old
      ];
      apart = λ f g sf sg same. elim (split f sf) [
        | inl (fn, _) ↦ elim (split g sg) [
          | inl (gn, _) ↦ fn ∙ sym gn
          | inr old ↦ absurd (marked g old (sym same ∙ ap (egress_of flows) fn))
        ]
        | inr oldf ↦ elim (split g sg) [
          | inl (gn, _) ↦ absurd (marked f oldf (same ∙ ap (egress_of flows) gn))
          | inr oldg ↦ so_far.apart f g oldf oldg same
        ]
      ];
      used = λ f s. elim (cases_eq (egress_of flows f) e) [
        | inl same ↦ get_or-set_at busy e (egress_of flows f) true false same out_range
        | inr ne ↦ elim (split f s) [
          | inl (same, _) ↦ absurd (ne (ap (egress_of flows) same))
          | inr old ↦ get_or-set_other busy e (egress_of flows f) true false ne ∙ so_far.used f old
        ]
      ];
      by = λ p h. elim (cases_eq p e) [
        | inl same ↦ (n, new, sym same)
        | inr ne ↦ let (g, s, there) = so_far.by p (sym (get_or-set_other busy e p true false ne) ∙ h) in (g, keep g s, there)
      ];
      rest = λ f lt seen owes. elim (old_or_next flows line k n f seen) [
        | inl old ↦ elim (so_far.rest f lt old owes) [
          | inl s ↦ inl (keep f s)
          | inr (g, s, before, shares) ↦ inr (g, keep g s, before, shares)
        ]
        | inr same ↦ inl (subst (λ (x : ℕ). Stands flows after x) (sym same) new)
      ];
    }
