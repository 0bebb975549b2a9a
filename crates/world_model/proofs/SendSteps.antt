-- A run is sent.
use Rattle.std.proofs.Common.{◌≡◌, ℕ, ◌+◌, ◌≤◌, ◌<◌, inl, inr, Bool, true, false, List, [], ◌∷◌, ◌++◌, length, get_or, Contains, refl, sym, ap, subst, ◌∙◌, arith, zero, suc}
use Rattle.std.proofs.Common.{Option, Some, None, unwrap_or, is_some, is_none, true≢false}
use Rattle.std.specs.Prelude.{if◌then◌else◌, ◌==◌, ◌&&◌}
use Rattle.std.proofs.lemmas.Bool.{and_from, cases_eq, eqb-true, eqb-false, eq-eqb, ne_eqb}
use Rattle.std.proofs.lemmas.List.Elements.{All-push}
use Rattle.std.proofs.lemmas.List.Quantifiers.{all_pairs_push}
use Rattle.coflow_units.specs.declared.fabric.Flow.{Flow}
use Rattle.coflow_units.specs.Flows.{ingress_of}
use Rattle.coflow_units.specs.PortWord.{PortStage, is_drawn_by}
use Rattle.coflow_units.specs.PortWord.PortStage.{drawn}
use Rattle.coflow_units.specs.Schedule.{IsClear}
use Rattle.coflow_units.proofs.Sums.{any_has, any_in, in_first, in_tail, first_or_tail, nothing_in}
use Rattle.journal.specs.State.{Run, has}
use Rattle.journal.specs.Runs.{grant_in}
use Rattle.journal.specs.Sound.{IsSound}
use Rattle.journal.proofs.Ingresses.{grant_is}
use Rattle.world_model.specs.declared.event.SentRun.{SentRun}
use Rattle.world_model.specs.Port.{PortFacts, idle_port}
use Rattle.world_model.specs.Sent.{sent_for, sent_of}
use Rattle.world_model.specs.Kept.{IsApart, IsAtStage, IsKept, IsPort, IsSentRun}
use Rattle.world_model.proofs.PortSteps.{mkp}
use Rattle.journal.proofs.Replies.{no_way}

total_more : (sent : List SentRun) (x : SentRun) (f : ℕ) → sent_of (sent ++ x ∷ []) f ≡ sent_of sent f + (if x.flow == f then x.units else 0)
total_more [] x f = omega arith
total_more (y ∷ ys) x f = omega (arith, total_more ys x f)

pub sent_more : (sent : List SentRun) (x : SentRun) (p slot : ℕ) →
    sent_for (sent ++ x ∷ []) p slot ≡ sent_for sent p slot + (if (x.port == p) && (x.slot == slot) then x.units else 0)
sent_more [] x p slot = omega arith
sent_more (y ∷ ys) x p slot = omega (arith, sent_more ys x p slot)

pub both_true : (a b : ℕ) (c d : ℕ) → a ≡ b → c ≡ d → ((a == b) && (c == d)) ≡ true
both_true a b c d e f = and_from (a == b) (c == d) (eq-eqb a b e) (eq-eqb c d f)

sent_member : (sent : List SentRun) (p slot k : ℕ) (d : SentRun) → k < length sent → (get_or sent k d).port ≡ p → (get_or sent k d).slot ≡ slot →
    (get_or sent k d).units ≤ sent_for sent p slot
sent_member [] p slot k d lt e f = absurd (omega arith)
sent_member (x ∷ xs) p slot zero d lt e f = omega (arith, ap (λ b. if b then x.units else 0) (both_true x.port p x.slot slot e f))
sent_member (x ∷ xs) p slot (suc k) d lt e f = omega (arith, sent_member xs p slot k d (omega arith) e f)

-- what is known of a port that an agent drew
pub drawn_facts : (flows : List Flow) (next : ℕ) (r : Run) (sent : List SentRun) (p slot flow : ℕ) (stage : PortStage) (count : ℕ) (settled : Option ℕ) (a : ℕ) →
    is_drawn_by a stage ≡ true →
    IsPort flows next (Some r) sent p (mkp slot flow stage count settled) → (slot ≡ r.first) × (grant_in flows r.granted p ≡ Some flow) × (count ≡ r.slots)
drawn_facts flows next r sent p slot flow (drawn b) count settled a e (inl x, n) = absurd x.0
drawn_facts flows next r sent p slot flow (drawn b) count settled a e (inr x, n) = (x.0, x.1, x.2.0)
drawn_facts flows next r sent p slot flow stage count settled a e h = no_way e

pub not_open : (flows : List Flow) (next : ℕ) (sent : List SentRun) (p slot flow : ℕ) (stage : PortStage) (count : ℕ) (settled : Option ℕ) (a : ℕ) → is_drawn_by a stage ≡ true →
    IsPort flows next None sent p (mkp slot flow stage count settled) → ⊥
not_open flows next sent p slot flow (drawn b) count settled a e h = h.0
not_open flows next sent p slot flow stage count settled a e h = no_way e

-- more was sent at the port of a drawn grant
more_sent : (flows : List Flow) (next : ℕ) (r : Run) (sent sent' : List SentRun) (p slot flow : ℕ) (stage : PortStage) (count : ℕ) (settled : Option ℕ) (a : ℕ) →
    is_drawn_by a stage ≡ true → sent_for sent' p r.first ≤ r.slots →
    IsPort flows next (Some r) sent p (mkp slot flow stage count settled) → IsPort flows next (Some r) sent' p (mkp slot flow stage count settled)
more_sent flows next r sent sent' p slot flow (drawn b) count settled a e le (inl x, n) = absurd x.0
more_sent flows next r sent sent' p slot flow (drawn b) count settled a e le (inr x, n) = (inr (x.0, x.1, (x.2.0, x.2.1, le)), n)
more_sent flows next r sent sent' p slot flow stage count settled a e le h = no_way e

as_much : (flows : List Flow) (next : ℕ) (r : Run) (sent sent' : List SentRun) (q : ℕ) (y : PortFacts) → sent_for sent' q r.first ≡ sent_for sent q r.first →
    IsPort flows next (Some r) sent q y → IsPort flows next (Some r) sent' q y
as_much flows next r sent sent' q y e (stage, n) = (subst (λ m. IsAtStage r (grant_in flows r.granted q) m y) (sym e) stage, n)

paid_step : (flows : List Flow) (credited : ℕ) (r : Run) (sent : List SentRun) (x : SentRun) (f : ℕ) (b : Bool) → has r.granted f ≡ b → IsClear flows r.granted →
    x.slot ≡ r.first → x.port ≡ ingress_of flows x.flow → Contains r.granted x.flow →
    sent_of sent f ≡ credited + (if b then sent_for sent (ingress_of flows f) r.first else 0) →
    sent_of (sent ++ x ∷ []) f ≡ credited + (if b then sent_for (sent ++ x ∷ []) (ingress_of flows f) r.first else 0)
paid_step flows credited r sent x f true e clear slot port in' old = elim (cases_eq x.flow f) [
  | inl same ↦
      omega (
        arith,
        old,
        total_more sent x f,
        sent_more sent x (ingress_of flows f) r.first,
        ap (λ b. if b then x.units else 0) (eq-eqb x.flow f same),
        ap (λ b. if b then x.units else 0) (both_true x.port (ingress_of flows f) x.slot r.first (port ∙ ap (ingress_of flows) same) slot),
      )
  | inr other ↦ elim (cases_eq x.port (ingress_of flows f)) [
    | inl there ↦ absurd (other (clear.apart x.flow f in' (any_has r.granted f e) (inl (sym port ∙ there))))
    | inr apart ↦
        omega (
          arith,
          old,
          total_more sent x f,
          sent_more sent x (ingress_of flows f) r.first,
          ap (λ b. if b then x.units else 0) (ne_eqb x.flow f other),
          ap (λ b. if b && (x.slot == r.first) then x.units else 0) (ne_eqb x.port (ingress_of flows f) apart),
        )
  ]
]
paid_step flows credited r sent x f false e clear slot port in' old = elim (cases_eq x.flow f) [
  | inl same ↦ absurd (true≢false (sym (any_in r.granted f (subst (λ n. Contains r.granted n) same in')) ∙ e))
  | inr other ↦ omega (arith, old, total_more sent x f, ap (λ b. if b then x.units else 0) (ne_eqb x.flow f other))
]

pub kept_send : (flows : List Flow) (ports : ℕ) (credited : ℕ → ℕ) (next : ℕ) (r : Run) (xs : List PortFacts) (sent : List SentRun) (p a u : ℕ) → p < ports →
    is_drawn_by a (get_or xs p idle_port).stage ≡ true →
    sent_for sent p (get_or xs p idle_port).slot ≡ 0 → 0 < u → u ≤ (get_or xs p idle_port).count → IsSound flows credited next (Some r) →
    IsKept flows ports credited next (Some r) xs sent →
    IsKept flows ports credited next (Some r) xs (sent ++ record { slot = (get_or xs p idle_port).slot; flow = (get_or xs p idle_port).flow; units = u; port = p } ∷ [])
kept_send flows ports credited next r xs sent p a u lt drew none some fits sound h =
    let y = get_or xs p idle_port in
    let (slot, grant, count) = drawn_facts flows next r sent p y.slot y.flow y.stage y.count y.settled a drew (h.port p lt) in
    let (in', at) = grant_is flows r.granted p y.flow grant in
    let x : SentRun = record { slot = y.slot; flow = y.flow; units = u; port = p } in
    let sent_here : sent_for sent p r.first ≡ 0 = ap (sent_for sent p) (sym slot) ∙ none in
    record {
      wide = h.wide;
      each_sent = All-push (IsSentRun flows next (Some r)) sent x h.each_sent (record {
        slot_some = omega (arith, slot, sound.open_run.first, sound.next_some);
        units_some = some;
        at_ingress = sym at;
        in_time = inr (slot, omega (arith, fits, count), grant);
      });
      apart = all_pairs_push IsApart sent x h.apart (λ k d low same. elim ((h.each_sent k d low).in_time) [
        | inl old ↦ inl (omega (arith, old, slot))
        | inr now ↦
            absurd (omega (
              arith,
              sent_member sent p r.first k d low ((h.each_sent k d low).at_ingress ∙ ap (ingress_of flows) same ∙ at) now.0,
              sent_here,
              (h.each_sent k d low).units_some,
            ))
      ]);
      accounted = λ f. paid_step flows (credited f) r sent x f (has r.granted f) refl sound.open_run.clear slot (sym at) in' (h.accounted f);
      port = λ q low. elim (cases_eq p q) [
        | inl e ↦ subst (λ n. IsPort flows next (Some r) (sent ++ x ∷ []) n (get_or xs n idle_port)) e
            (more_sent flows next r sent (sent ++ x ∷ []) p y.slot y.flow y.stage y.count y.settled a drew
            (omega (arith, sent_more sent x p r.first, sent_here, fits, count, ap (λ b. if b then u else 0) (both_true p p y.slot r.first refl slot))) (h.port p lt))
        | inr ne ↦ as_much flows next r sent (sent ++ x ∷ []) q (get_or xs q idle_port)
            (omega (arith, sent_more sent x q r.first, ap (λ b. if b && (y.slot == r.first) then u else 0) (ne_eqb p q ne))) (h.port q low)
      ];
    }
