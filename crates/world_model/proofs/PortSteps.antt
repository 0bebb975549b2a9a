-- One port changes: a post, a draw, a report, a settling.
use Rattle.journal.proofs.Replies.{no_way}
use Rattle.std.proofs.Common.{◌≡◌, ℕ, ◌<◌, inl, inr, true, false, List, length, get_or, refl, sym, ap, subst, ◌∙◌, arith, Option, Some, None, unwrap_or, is_some, is_none}
use Rattle.std.proofs.Common.{length-set, true≢false, get_or-set_same, get_or-set_other}
use Rattle.std.specs.Prelude.{◌==◌, not, slice_set}
use Rattle.std.proofs.lemmas.Bool.{cases_eq, eqb-true, eq-eqb}
use Rattle.coflow_units.specs.declared.fabric.Flow.{Flow}
use Rattle.coflow_units.specs.PortWord.{PortStage, is_drawn_by, is_granted}
use Rattle.coflow_units.specs.PortWord.PortStage.{unposted, granted, drawn, reported, taken_back}
use Rattle.journal.specs.State.{Run}
use Rattle.journal.specs.Runs.{grant_in, note_in}
use Rattle.world_model.specs.declared.event.SentRun.{SentRun}
use Rattle.world_model.specs.Port.{PortFacts, idle_port, settled_by}
use Rattle.world_model.specs.Sent.{sent_for}
use Rattle.world_model.specs.Kept.{IsKept, IsNote, IsPort}

pub port_set : (P : PortFacts → Type 0) (xs : List PortFacts) (p : ℕ) (x : PortFacts) (q : ℕ) → p < length xs → (p ≡ q → P x) → P (get_or xs q idle_port) →
    P (get_or (slice_set xs p x) q idle_port)
port_set P xs p x q lt new old = elim (cases_eq q p) [
  | inl e ↦ subst P (ap (λ n. get_or (slice_set xs p x) n idle_port) (sym e) ∙ refl) (subst P (sym (get_or-set_same xs p x idle_port lt)) (new (sym e)))
  | inr ne ↦ subst P (sym (get_or-set_other xs p q x idle_port ne)) old
]

pub kept_port : (flows : List Flow) (ports : ℕ) (credited : ℕ → ℕ) (next : ℕ) (run : Option Run) (xs : List PortFacts) (sent : List SentRun) (p : ℕ) (x : PortFacts) → p < ports →
    IsKept flows ports credited next run xs sent → (IsPort flows next run sent p (get_or xs p idle_port) → IsPort flows next run sent p x) →
    IsKept flows ports credited next run (slice_set xs p x) sent
kept_port flows ports credited next run xs sent p x lt h new = record {
  wide = length-set xs p x ∙ h.wide;
  each_sent = h.each_sent;
  apart = h.apart;
  accounted = h.accounted;
  port = λ q low. port_set (λ (y : PortFacts). IsPort flows next run sent q y) xs p x q (omega (arith, h.wide, lt))
      (λ e. subst (λ n. IsPort flows next run sent n x) e (new (h.port p lt))) (h.port q low);
}

abbrev pub mkp : ℕ → ℕ → PortStage → ℕ → Option ℕ → PortFacts
mkp slot flow stage count settled = record { slot = slot; flow = flow; stage = stage; count = count; settled = settled }

pub draw_ok : (flows : List Flow) (next : ℕ) (run : Option Run) (sent : List SentRun) (p slot flow : ℕ) (stage : PortStage) (count : ℕ) (settled : Option ℕ) (a : ℕ) →
    is_granted stage ≡ true →
    IsPort flows next run sent p (mkp slot flow stage count settled) → IsPort flows next run sent p (mkp slot flow (drawn a) count settled)
draw_ok flows next None sent p slot flow granted count settled a e h = absurd h.0
draw_ok flows next (Some r) sent p slot flow granted count settled a e (inl x, n) = absurd x.0
draw_ok flows next (Some r) sent p slot flow granted count settled a e (inr x, n) = (inr (x.0, x.1, (x.2.0, x.2.1, omega (arith, x.2.2))), n)
draw_ok flows next run sent p slot flow stage count settled a e h = no_way e

pub report_ok : (flows : List Flow) (next : ℕ) (run : Option Run) (sent : List SentRun) (p slot flow : ℕ) (stage : PortStage) (count : ℕ) (settled : Option ℕ) (a : ℕ) →
    is_drawn_by a stage ≡ true →
    IsPort flows next run sent p (mkp slot flow stage count settled) →
    IsPort flows next run sent p (mkp slot flow (reported a (sent_for sent p slot)) (sent_for sent p slot) settled)
report_ok flows next None sent p slot flow (drawn b) count settled a e h = absurd h.0
report_ok flows next (Some r) sent p slot flow (drawn b) count settled a e (inl x, n) = absurd x.0
report_ok flows next (Some r) sent p slot flow (drawn b) count settled a e (inr x, n) =
    let same = ap (sent_for sent p) x.0 in
    (inr (x.0, x.1, (same, same, omega (arith, x.2.2, same), inl x.2.1)), n)
report_ok flows next run sent p slot flow stage count settled a e h = no_way e

none_is : (n : Option ℕ) → is_none n ≡ true → n ≡ None
none_is None e = refl
none_is (Some n) e = no_way e

pub is_some_value : (g : Option ℕ) → is_some g ≡ true → g ≡ Some (unwrap_or g 0)
is_some_value None e = no_way e
is_some_value (Some f) e = refl

-- a note is made of what was settled
no_note : (r : Run) (note settled other : Option ℕ) → settled ≡ None → IsNote r note settled → IsNote r note other
no_note r None settled other e h = tt
no_note r (Some n) settled other e h = absurd (true≢false (ap is_some (sym h.0 ∙ e)))

pub settle_ok : (flows : List Flow) (next : ℕ) (r : Run) (sent : List SentRun) (p slot flow : ℕ) (stage : PortStage) (count : ℕ) (settled : Option ℕ) → (slot == r.first) ≡ true →
    is_none settled ≡ true →
    IsPort flows next (Some r) sent p (mkp slot flow stage count settled) → IsPort flows next (Some r) sent p (settled_by (mkp slot flow stage count settled) stage)
settle_ok flows next r sent p slot flow stage count settled e none (inl x, n) = absurd (omega (arith, x.1, eqb-true slot r.first e))
settle_ok flows next r sent p slot flow unposted count settled e none (inr x, n) = absurd x.2
settle_ok flows next r sent p slot flow granted count settled e none (inr x, n) =
    (inr (x.0, x.1, (refl, x.2.2)), no_note r (note_in r.notes p) settled (Some 0) (none_is settled none) n)
settle_ok flows next r sent p slot flow (drawn a) count settled e none (inr x, n) = (inr x, n)
settle_ok flows next r sent p slot flow (reported a v) count settled e none (inr x, n) =
    (inr (x.0, x.1, (x.2.0, x.2.1, x.2.2, inr (ap (λ m. Some m) x.2.1))), no_note r (note_in r.notes p) settled (Some count) (none_is settled none) n)
settle_ok flows next r sent p slot flow taken_back count settled e none (inr x, n) = absurd (true≢false (sym none ∙ ap is_none x.2.0))

pub post_ok : (flows : List Flow) (next : ℕ) (r : Run) (sent : List SentRun) (p slot flow : ℕ) (stage : PortStage) (count : ℕ) (settled : Option ℕ) →
    is_some (grant_in flows r.granted p) ≡ true → not (slot == r.first) ≡ true →
    IsPort flows next (Some r) sent p (mkp slot flow stage count settled) →
    IsPort flows next (Some r) sent p (mkp r.first (unwrap_or (grant_in flows r.granted p) 0) granted r.slots settled)
post_ok flows next r sent p slot flow stage count settled some e (inl x, n) = (inr (refl, is_some_value (grant_in flows r.granted p) some, (refl, x.2, x.3)), n)
post_ok flows next r sent p slot flow stage count settled some e (inr x, n) = absurd (true≢false (sym e ∙ ap not (eq-eqb slot r.first x.0)))
