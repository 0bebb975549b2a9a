-- The ordering certificate, computed.
use Rattle.std.proofs.Common.{◌≡◌, ℕ, ◌/◌, ◌≤◌, ◌<◌, inl, inr, List, [], ◌∷◌, length, Contains, refl, sym, ap, subst, ◌∙◌, arith, zero, suc}
use Rattle.std.proofs.Common.{subst₂}
use Rattle.std.specs.Prelude.{◌==◌, All, if◌then◌else◌, nat_lt}
use Rattle.std.specs.List.{filter}
use Rattle.std.proofs.lemmas.List.Elements.{All-cons, All-nil}
use Rattle.std.proofs.lemmas.Bool.{ltb-true, lt-ltb, eq-eqb, ne_eqb, cases_eq}
use Rattle.coflow_units.specs.declared.fabric.Flow.{Flow}
use Rattle.coflow_units.specs.declared.fabric.Port.{Port}
use Rattle.coflow_units.specs.Flows.{Instance, IsInstance}
use Rattle.coflow_units.specs.Load.{load, load_of_all}
use Rattle.coflow_units.specs.Certificate.{Entry, front}
use Rattle.coflow_units.specs.Ordering.{port_place, residual, IsPlacedIdle, IsPlacedBusy, IsPlaced, IsOrdered, IsOrdering}
use Rattle.coflow_units.proofs.BestOf.{without, without_in, without_keeps, without_apart, without_out, without_shorter}
use Rattle.coflow_units.proofs.PlaceChoice.{chosen_port, best_idle, best_busy, Leads, port_is_first, idle_member, idle_greatest, Beats, busy_member, busy_beats}
use Rattle.coflow_units.proofs.Sums.{Apart, some_term, all_of_members, first_or_tail, in_first, in_tail, nothing_in, pairs_from_apart, rising_apart, same_members}
use Rattle.coflow_units.proofs.Numbers.{zero_or_more}
use Rattle.coflow_units.proofs.Lists.{filter_in, keeps}

abbrev pub place_at : List Flow → (ℕ → ℕ) → List Entry → List ℕ → Port → ℕ → Entry
place_at flows weight later coflows port coflow =
    record { coflow = coflow; port = port; y = if load_of_all flows coflows port == 0 then 0 else residual flows weight later coflow / load flows coflow port }

abbrev pub coflow_at : List Flow → (ℕ → ℕ) → List Entry → List ℕ → Port → ℕ
coflow_at flows weight later coflows port =
    if load_of_all flows coflows port == 0 then best_idle coflows
    else best_busy (residual flows weight later) (λ c. load flows c port) (filter (λ c. nat_lt 0 (load flows c port)) coflows)

abbrev pub placed : List Flow → (ℕ → ℕ) → ℕ → List Entry → List ℕ → Entry
placed flows weight ports later coflows =
    place_at flows weight later coflows (chosen_port flows ports coflows) (coflow_at flows weight later coflows (chosen_port flows ports coflows))

abbrev pub order_from : List Flow → (ℕ → ℕ) → ℕ → ℕ → List Entry → List ℕ → List Entry
order_from flows weight ports zero later coflows = []
order_from flows weight ports (suc n) later coflows =
    placed flows weight ports later coflows ∷ order_from flows weight ports n (placed flows weight ports later coflows ∷ later)
    (without (placed flows weight ports later coflows).coflow coflows)

abbrev pub ordering_of : Instance → List Entry
ordering_of i = order_from i.flows i.weight i.ports (length i.coflows) [] i.coflows

-- ---- a step

busy_step : (flows : List Flow) (weight : ℕ → ℕ) (later : List Entry) (coflows : List ℕ) (port : Port) → 0 < load_of_all flows coflows port →
    Contains coflows (best_busy (residual flows weight later) (λ c. load flows c port) (filter (λ c. nat_lt 0 (load flows c port)) coflows))
    × (0 < load flows (best_busy (residual flows weight later) (λ c. load flows c port) (filter (λ c. nat_lt 0 (load flows c port)) coflows)) port)
    × ((d : ℕ) → Contains coflows d → 0 < load flows d port →
    Beats (residual flows weight later) (λ c. load flows c port)
    (best_busy (residual flows weight later) (λ c. load flows c port) (filter (λ c. nat_lt 0 (load flows c port)) coflows)) d)
busy_step flows weight later coflows port some =
    let r = residual flows weight later in
    let l = λ (c : ℕ). load flows c port in
    let p = λ (c : ℕ). nat_lt 0 (load flows c port) in
    let (x, has, lt) = some_term l coflows some in
    let here = filter_in p coflows (best_busy r l (filter p coflows)) (busy_member r l (filter p coflows) x (keeps p coflows x has (lt-ltb 0 (l x) lt))) in (
      here.0,
      ltb-true 0 (l (best_busy r l (filter p coflows))) here.1,
      λ d in' pd. busy_beats r l (filter p coflows) (λ c h. ltb-true 0 (l c) (filter_in p coflows c h).1) d (keeps p coflows d in' (lt-ltb 0 (l d) pd)),
    )

-- the step over any list with the same members
same_step : (flows : List Flow) (weight : ℕ → ℕ) (ports : ℕ) (later : List Entry) (xs ys : List ℕ) (e : Entry) →
    ((port : Port) → load_of_all flows xs port ≡ load_of_all flows ys port) →
    ((c : ℕ) → Contains ys c → Contains xs c) → IsPlaced flows weight ports later xs e → IsPlaced flows weight ports later ys e
same_step flows weight ports later xs ys e same from step = record {
  port = record {
    in_range = step.port.in_range;
    greatest = λ other lt. subst₂ (λ a b. Leads a (port_place ports e.port) b (port_place ports other)) (same e.port) (same other) (step.port.greatest other lt);
  };
  idle = λ none. let i = step.idle (same e.port ∙ none) in record { greatest = λ d has. i.greatest d (from d has); y_is = i.y_is };
  busy = λ some. let b = step.busy (subst (λ n. 0 < n) (sym (same e.port)) some) in record { has_load = b.has_load; least = λ d has. b.least d (from d has); y_is = b.y_is };
}

at_zero : {X : Type 0} (n : ℕ) (x y : X) → n ≡ 0 → (if n == 0 then x else y) ≡ x
at_zero n x y e = ap (λ b. if b then x else y) (eq-eqb n 0 e)

at_more : {X : Type 0} (n : ℕ) (x y : X) → 0 < n → (if n == 0 then x else y) ≡ y
at_more n x y lt = ap (λ b. if b then x else y) (ne_eqb n 0 (λ e. omega arith))

chosen_in : (flows : List Flow) (weight : ℕ → ℕ) (later : List Entry) (coflows : List ℕ) (port : Port) (c : ℕ) → Contains coflows c →
    Contains coflows (coflow_at flows weight later coflows port)
chosen_in flows weight later coflows port c has = elim (zero_or_more (load_of_all flows coflows port)) [
  | inl none ↦ subst (λ x. Contains coflows x)
      (sym (at_zero (load_of_all flows coflows port) (best_idle coflows)
      (best_busy (residual flows weight later) (λ c. load flows c port) (filter (λ c. nat_lt 0 (load flows c port)) coflows)) none)) (idle_member coflows c has)
  | inr some ↦ subst (λ x. Contains coflows x)
      (sym (at_more (load_of_all flows coflows port) (best_idle coflows)
      (best_busy (residual flows weight later) (λ c. load flows c port) (filter (λ c. nat_lt 0 (load flows c port)) coflows)) some))
      (busy_step flows weight later coflows port some).0
]

step_idle : (flows : List Flow) (weight : ℕ → ℕ) (later : List Entry) (coflows : List ℕ) (port : Port) → load_of_all flows coflows port ≡ 0 →
    IsPlacedIdle coflows (place_at flows weight later coflows port (coflow_at flows weight later coflows port))
step_idle flows weight later coflows port none =
    let c = coflow_at flows weight later coflows port in
    record {
      greatest = λ d has. subst (λ x. d ≤ x)
          (sym (at_zero (load_of_all flows coflows port) (best_idle coflows)
          (best_busy (residual flows weight later) (λ c. load flows c port) (filter (λ c. nat_lt 0 (load flows c port)) coflows)) none)) (idle_greatest coflows d has);
      y_is = at_zero (load_of_all flows coflows port) 0 (residual flows weight later c / load flows c port) none;
    }

step_busy : (flows : List Flow) (weight : ℕ → ℕ) (later : List Entry) (coflows : List ℕ) (port : Port) → 0 < load_of_all flows coflows port →
    IsPlacedBusy flows weight later coflows (place_at flows weight later coflows port (coflow_at flows weight later coflows port))
step_busy flows weight later coflows port some =
    let c = coflow_at flows weight later coflows port in
    let is = at_more (load_of_all flows coflows port) (best_idle coflows)
    (best_busy (residual flows weight later) (λ c. load flows c port) (filter (λ c. nat_lt 0 (load flows c port)) coflows)) some in
    let step = busy_step flows weight later coflows port some in
    record {
      has_load = subst (λ x. 0 < load flows x port) (sym is) step.1;
      least = λ d has pd. subst (λ x. Beats (residual flows weight later) (λ k. load flows k port) x d) (sym is) (step.2 d has pd);
      y_is = at_more (load_of_all flows coflows port) 0 (residual flows weight later c / load flows c port) some;
    }

step_placed : (flows : List Flow) (weight : ℕ → ℕ) (ports : ℕ) (later : List Entry) (coflows : List ℕ) → 1 ≤ ports →
    IsPlaced flows weight ports later coflows (placed flows weight ports later coflows)
step_placed flows weight ports later coflows some = record {
  port = port_is_first flows ports coflows some;
  idle = step_idle flows weight later coflows (chosen_port flows ports coflows);
  busy = step_busy flows weight later coflows (chosen_port flows ports coflows);
}

-- ---- the whole certificate

pub record Made (flows : List Flow) (weight : ℕ → ℕ) (ports : ℕ) (later : List Entry) (coflows : List ℕ) (entries : List Entry) : Type 0 where
  pub ordered : IsOrdered flows weight ports later entries
  pub to : (c : ℕ) → Contains (front entries) c → Contains coflows c
  pub from : (c : ℕ) → Contains coflows c → Contains (front entries) c
  pub apart : Apart (front entries)
  pub inside : All (λ (e : Entry). e.port.number < ports) entries

empty_list : (xs : List ℕ) → length xs ≡ 0 → (c : ℕ) → Contains xs c → ⊥
empty_list xs none c (k, lt, at) = omega arith

first_of : (n : ℕ) (xs : List ℕ) → length xs ≡ suc n → (c : ℕ) × Contains xs c
first_of n [] e = absurd (omega arith)
first_of n (x ∷ xs) e = (x, in_first x xs)

pub made_none : (flows : List Flow) (weight : ℕ → ℕ) (ports : ℕ) (later : List Entry) (coflows : List ℕ) → coflows ≡ [] → Made flows weight ports later coflows []
made_none flows weight ports later coflows e = record {
  ordered = tt;
  to = λ c h. absurd (nothing_in c h);
  from = λ c h. absurd (nothing_in c (subst (λ l. Contains l c) e h));
  apart = tt;
  inside = All-nil (λ (e : Entry). e.port.number < ports);
}

pub grown : (flows : List Flow) (weight : ℕ → ℕ) (ports : ℕ) (later : List Entry) (coflows : List ℕ) (e : Entry) (l : List Entry) → Apart coflows → Contains coflows e.coflow →
    IsPlaced flows weight ports later coflows e → Made flows weight ports (e ∷ later) (without e.coflow coflows) l → Made flows weight ports later coflows (e ∷ l)
grown flows weight ports later coflows e l apart has step made =
    let out = λ (h : Contains (front l) e.coflow). without_out e.coflow coflows apart (made.to e.coflow h) in
    let all : Apart (front (e ∷ l)) = (out, made.apart) in
    let to : (c : ℕ) → Contains (front (e ∷ l)) c → Contains coflows c = λ c h. elim (first_or_tail e.coflow (front l) c h) [
      | inl same ↦ subst (λ z. Contains coflows z) same has
      | inr h' ↦ without_in e.coflow coflows c (made.to c h')
    ] in
    let from : (c : ℕ) → Contains coflows c → Contains (front (e ∷ l)) c = λ c h. elim (cases_eq e.coflow c) [
      | inl same ↦ subst (λ z. Contains (front (e ∷ l)) z) same (in_first e.coflow (front l))
      | inr ne ↦ in_tail e.coflow (front l) c (made.from c (without_keeps e.coflow coflows c ne h))
    ] in
    record {
      ordered = (
        same_step flows weight ports later coflows (front (e ∷ l)) e (λ port. same_members (λ c. load flows c port) coflows (front (e ∷ l)) apart all from to) to step,
        made.ordered,
      );
      to = to;
      from = from;
      apart = all;
      inside = All-cons (λ (x : Entry). x.port.number < ports) e l step.port.in_range made.inside;
    }

order_made : (flows : List Flow) (weight : ℕ → ℕ) (ports : ℕ) → 1 ≤ ports → (n : ℕ) (later : List Entry) (coflows : List ℕ) → length coflows ≡ n → Apart coflows →
    Made flows weight ports later coflows (order_from flows weight ports n later coflows)
order_made flows weight ports some zero later coflows len apart = record {
  ordered = tt;
  to = λ c h. absurd (nothing_in c h);
  from = λ c h. absurd (empty_list coflows len c h);
  apart = tt;
  inside = All-nil (λ (e : Entry). e.port.number < ports);
}
order_made flows weight ports some (suc n) later coflows len apart =
    let e = placed flows weight ports later coflows in
    let (c, has) = first_of n coflows len in
    let in' = chosen_in flows weight later coflows e.port c has in
    let short : length (without e.coflow coflows) ≡ n = omega (arith, len, without_shorter e.coflow coflows in') in
    grown flows weight ports later coflows e (order_from flows weight ports n (e ∷ later) (without e.coflow coflows)) apart in' (step_placed flows weight ports later coflows some)
    (order_made flows weight ports some n (e ∷ later) (without e.coflow coflows) short (without_apart e.coflow coflows apart))

pub ordering_exists : (i : Instance) → IsInstance i → IsOrdering i (ordering_of i)
ordering_exists i inst =
    let made = order_made i.flows i.weight i.ports inst.has_ports (length i.coflows) [] i.coflows refl (rising_apart i.coflows inst.ascending) in
    record {
      certificate = record {
        once = pairs_from_apart (front (ordering_of i)) made.apart;
        coflow = all_of_members (Contains i.coflows) (front (ordering_of i)) made.to;
        all = all_of_members (Contains (front (ordering_of i))) i.coflows made.from;
        port = made.inside;
      };
      ordered = made.ordered;
    }
