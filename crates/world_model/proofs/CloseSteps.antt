-- A run is closed.
use Rattle.std.proofs.Common.{◌≡◌, ℕ, ◌+◌, ◌≤◌, ◌<◌, inl, inr, Bool, true, false, List, get_or, refl, sym, ap, subst, ◌∙◌, arith, Option, Some, None, unwrap_or, is_some, is_none}
use Rattle.std.proofs.Common.{true≢false}
use Rattle.std.specs.Prelude.{if◌then◌else◌, nat_lt, ◌==◌, ◌&&◌}
use Rattle.std.proofs.lemmas.Bool.{and_parts, cases_Bool, ltb-false}
use Rattle.coflow_units.specs.Flows.{ingress_of}
use Rattle.coflow_units.specs.PortWord.{PortStage}
use Rattle.coflow_units.specs.PortWord.PortStage.{unposted, granted, drawn, reported, taken_back}
use Rattle.coflow_units.proofs.Sums.{any_has}
use Rattle.coflow_units.proofs.Bools.{same_if}
use Rattle.journal.specs.declared.opening.Opening.{Opening}
use Rattle.journal.specs.State.{Run, has}
use Rattle.journal.specs.Runs.{credit, grant_in, note_in}
use Rattle.journal.specs.Sound.{IsSound}
use Rattle.world_model.specs.declared.event.SentRun.{SentRun}
use Rattle.world_model.specs.Port.{PortFacts, idle_port}
use Rattle.world_model.specs.Sent.{sent_for}
use Rattle.world_model.specs.Guards.{is_done, is_short}
use Rattle.world_model.specs.Kept.{IsAtStage, IsKept, IsNote, Rests, sent_now}
use Rattle.world_model.proofs.PortSteps.{mkp}
use Rattle.journal.proofs.Replies.{no_way}
use Rattle.journal.proofs.Ingresses.{grant_there}

-- where the port of a grant is done, the number that was sent for it is credited
done_credit : (r : Run) (sent_here : ℕ) (note settled : Option ℕ) (b : Bool) → settled ≡ Some sent_here → sent_here ≤ r.slots → nat_lt sent_here r.slots ≡ b →
    IsNote r note settled →
    (if is_some settled && nat_lt (unwrap_or settled 0) r.slots then is_some note && (unwrap_or note 0 == unwrap_or settled 0) else true) ≡ true →
    sent_here ≡ unwrap_or note r.slots
done_credit r sent_here None settled true e le lt n done =
    let known : (if nat_lt sent_here r.slots then false else true) ≡ true =
    subst (λ (o : Option ℕ). (if is_some o && nat_lt (unwrap_or o 0) r.slots then false else true) ≡ true) e done in
    no_way (ap (λ b. if b then false else true) (sym lt) ∙ known)
done_credit r sent_here None settled false e le lt n done = omega (arith, le, ltb-false sent_here r.slots lt)
done_credit r sent_here (Some v) settled b e le lt n done = ap (λ (o : Option ℕ). unwrap_or o 0) (sym e ∙ n.0)

-- what a settled port shows
settled_is : (r : Run) (grant : Option ℕ) (sent_here : ℕ) (slot flow : ℕ) (stage : PortStage) (count : ℕ) (settled : Option ℕ) → is_some settled ≡ true →
    IsAtStage r grant sent_here (mkp slot flow stage count settled) →
    Rests stage × (slot ≤ r.first) × (settled ≡ Some sent_here) × (sent_here ≤ r.slots)
settled_is r grant sent_here slot flow stage count settled some (inl x) = absurd (true≢false (sym some ∙ ap is_some x.2))
settled_is r grant sent_here slot flow unposted count settled some (inr x) = absurd x.2
settled_is r grant sent_here slot flow granted count settled some (inr x) = absurd (true≢false (sym some ∙ ap is_some x.2.1))
settled_is r grant sent_here slot flow (drawn a) count settled some (inr x) = absurd (true≢false (sym some ∙ ap is_some x.2.1))
settled_is r grant sent_here slot flow (reported a n) count settled some (inr x) = (
  tt,
  omega (arith, x.0),
  elim x.2.3 [
    | inl none ↦ absurd (true≢false (sym some ∙ ap is_some none))
    | inr is ↦ is
  ],
  x.2.2,
)
settled_is r grant sent_here slot flow taken_back count settled some (inr x) = (tt, omega (arith, x.0), x.2.0 ∙ ap (λ (m : ℕ). Some m) (sym x.2.1), omega (arith, x.2.1))

-- a port without a grant
idle_is : (r : Run) (sent_here : ℕ) (x : PortFacts) (g : Option ℕ) → is_none g ≡ true → IsAtStage r g sent_here x → Rests x.stage × (x.slot ≤ r.first)
idle_is r sent_here x g none (inl h) = (h.0, omega (arith, h.1))
idle_is r sent_here x None none (inr h) = absurd (true≢false (sym (ap is_some h.1)))
idle_is r sent_here x (Some f) none (inr h) = no_way none

done_parts : (g x : Bool) → g ≡ false → (if g then true else x) ≡ true → x ≡ true
done_parts true x e h = absurd (true≢false e)
done_parts false x e h = h

abbrev noted_below : Run → Option ℕ → PortFacts → Bool
noted_below r note x = if is_short r x then is_some note && (unwrap_or note 0 == unwrap_or x.settled 0) else true

pub credits_sent : (o : Opening) (credited : ℕ → ℕ) (next : ℕ) (r : Run) (xs : List PortFacts) (sent : List SentRun) → ((f : ℕ) → ingress_of o.table.flows f < o.table.ports) →
    ((p : ℕ) → p < o.table.ports → is_done o r p (get_or xs p idle_port) ≡ true) →
    IsKept o.table.flows o.table.ports credited next (Some r) xs sent → (f : ℕ) → sent_now o.table.flows (Some r) sent f ≡ credit o.table.flows r f
credits_sent o credited next r xs sent low done h f =
    same_if (has r.granted f) (sent_for sent (ingress_of o.table.flows f) r.first) (unwrap_or (note_in r.notes (ingress_of o.table.flows f)) r.slots) (λ e.
    let p = ingress_of o.table.flows f in
    let x = get_or xs p idle_port in
    let note = note_in r.notes p in
    let grant = grant_in o.table.flows r.granted p in
    let there = grant_there o.table.flows r.granted f (any_has r.granted f e) in
    let parts = and_parts (is_some x.settled) (noted_below r note x) (done_parts (is_none grant) (is_some x.settled && noted_below r note x) there (done p (low f))) in
    let k = settled_is r grant (sent_for sent p r.first) x.slot x.flow x.stage x.count x.settled parts.0 ((h.port p (low f)).0) in
    done_credit r (sent_for sent p r.first) note x.settled (nat_lt (sent_for sent p r.first) r.slots) k.2 k.3 refl ((h.port p (low f)).1) parts.1)

pub kept_close : (o : Opening) (credited : ℕ → ℕ) (next : ℕ) (r : Run) (xs : List PortFacts) (sent : List SentRun) → ((f : ℕ) → ingress_of o.table.flows f < o.table.ports) →
    ((p : ℕ) → p < o.table.ports → is_done o r p (get_or xs p idle_port) ≡ true) →
    IsSound o.table.flows credited next (Some r) → IsKept o.table.flows o.table.ports credited next (Some r) xs sent →
    IsKept o.table.flows o.table.ports (λ f. credited f + credit o.table.flows r f) (r.first + r.slots) None xs sent
kept_close o credited next r xs sent low done sound h =
    let at = λ (p : ℕ). get_or xs p idle_port in
    let g = λ (p : ℕ). grant_in o.table.flows r.granted p in
    let note = λ (p : ℕ). note_in r.notes p in
    let parts = λ (p : ℕ) (lt : p < o.table.ports) (e : is_none (grant_in o.table.flows r.granted p) ≡ false). and_parts (is_some (at p).settled) (noted_below r (note p) (at p))
    (done_parts (is_none (g p)) (is_some (at p).settled && noted_below r (note p) (at p)) e (done p lt)) in
    let known = λ (p : ℕ) (lt : p < o.table.ports) (e : is_none (grant_in o.table.flows r.granted p) ≡ false).
    settled_is r (g p) (sent_for sent p r.first) (at p).slot (at p).flow (at p).stage (at p).count (at p).settled (parts p lt e).0 ((h.port p lt).0) in
    record {
      wide = h.wide;
      each_sent = λ k d lt. let x = h.each_sent k d lt in record {
        slot_some = x.slot_some;
        units_some = x.units_some;
        at_ingress = x.at_ingress;
        in_time = elim x.in_time [
          | inl old ↦ omega (arith, old)
          | inr now ↦ omega (arith, now.0, now.1)
        ];
      };
      apart = h.apart;
      accounted = λ f. omega (arith, h.accounted f, credits_sent o credited next r xs sent low done h f);
      port = λ q lt. elim (cases_Bool (is_none (grant_in o.table.flows r.granted q))) [
        | inl none ↦ let k = idle_is r (sent_for sent q r.first) (at q) (g q) none ((h.port q lt).0) in (k.0, omega (arith, k.1, sound.open_run.some))
        | inr there ↦ let k = known q lt there in (k.0, omega (arith, k.1, sound.open_run.some))
      ];
    }
