-- The next slot and the open run change: a skip, an opening, a note.
use Rattle.std.proofs.Common.{◌≡◌, ℕ, ◌≤◌, ◌<◌, inl, Bool, true, false, List, [], ◌∷◌, length, map, get_or, refl, sym, ap, subst, ◌∙◌, arith, zero, suc, Option, Some, None}
use Rattle.std.specs.Prelude.{if◌then◌else◌, ◌==◌, ◌&&◌, All}
use Rattle.std.proofs.lemmas.Bool.{eqb-true, ne_eqb}
use Rattle.std.proofs.lemmas.List.{length-map}
use Rattle.coflow_units.specs.declared.fabric.Flow.{Flow}
use Rattle.coflow_units.specs.Flows.{ingress_of}
use Rattle.coflow_units.proofs.Bools.{part}
use Rattle.journal.specs.State.{Run, has}
use Rattle.journal.specs.Runs.{note_in}
use Rattle.world_model.specs.declared.event.SentRun.{SentRun}
use Rattle.world_model.specs.Port.{PortFacts, idle_port}
use Rattle.world_model.specs.Sent.{sent_for}
use Rattle.world_model.specs.Kept.{IsKept, IsNote, IsPort, IsSentRun}

pub kept_later : (flows : List Flow) (ports : ℕ) (credited : ℕ → ℕ) (next later : ℕ) (xs : List PortFacts) (sent : List SentRun) → next ≤ later →
    IsKept flows ports credited next None xs sent → IsKept flows ports credited later None xs sent
kept_later flows ports credited next later xs sent le h = record {
  wide = h.wide;
  each_sent = λ k d low. let x = h.each_sent k d low in
      record { slot_some = x.slot_some; units_some = x.units_some; at_ingress = x.at_ingress; in_time = omega (arith, x.in_time, le) };
  apart = h.apart;
  accounted = h.accounted;
  port = λ q low. ((h.port q low).0, omega (arith, (h.port q low).1, le));
}

if_not : (a b : Bool) (n : ℕ) → b ≡ false → (if a && b then n else 0) ≡ 0
if_not true b n e = ap (λ c. if c then n else 0) e
if_not false b n e = refl

abbrev cleared : PortFacts → PortFacts
cleared x = record x { settled = None }

pub cleared_at : (xs : List PortFacts) (q : ℕ) → q < length xs → get_or (map cleared xs) q idle_port ≡ cleared (get_or xs q idle_port)
cleared_at [] q lt = refl
cleared_at (x ∷ xs) zero lt = refl
cleared_at (x ∷ xs) (suc q) lt = cleared_at xs q (omega arith)

pub none_at : (flows : List Flow) (next : ℕ) (sent : List SentRun) (p : ℕ) → All (IsSentRun flows next None) sent → sent_for sent p next ≡ 0
none_at flows next [] p all = refl
none_at flows next (x ∷ xs) p all =
    let first = all 0 x (omega arith) in
    let other : (x.slot ≡ next → ⊥) = λ e. omega (arith, e, first.in_time, first.units_some) in
    omega (arith, none_at flows next xs p (λ k d lt. all (suc k) d (omega arith)), if_not (x.port == p) (x.slot == next) x.units (ne_eqb x.slot next other))

pub kept_open : (flows : List Flow) (ports : ℕ) (credited : ℕ → ℕ) (next slots : ℕ) (gs : List ℕ) (xs : List PortFacts) (sent : List SentRun) →
    IsKept flows ports credited next None xs sent →
    IsKept flows ports credited next (Some (record { first = next; slots = slots; granted = gs; notes = [] })) (map (λ (x : PortFacts). record x { settled = None }) xs) sent
kept_open flows ports credited next slots gs xs sent h =
    let none = λ (p : ℕ). none_at flows next sent p h.each_sent in
    record {
      wide = length-map xs (λ (x : PortFacts). record x { settled = None }) ∙ h.wide;
      each_sent = λ k d low. let x = h.each_sent k d low in record { slot_some = x.slot_some; units_some = x.units_some; at_ingress = x.at_ingress; in_time = inl x.in_time };
      apart = h.apart;
      accounted = λ f. omega (arith, h.accounted f, part (has gs f) (sent_for sent (ingress_of flows f) next), none (ingress_of flows f));
      port = λ q low.
          subst (λ (y : PortFacts). IsPort flows next (Some (record { first = next; slots = slots; granted = gs; notes = [] })) sent q y)
          (sym (cleared_at xs q (omega (arith, low, h.wide))))
          (inl ((h.port q low).0, (h.port q low).1, refl, none q), tt);
    }

note_more : (r : Run) (p q n : ℕ) (settled : Option ℕ) (b : Bool) → (p == q) ≡ b → (p ≡ q → (settled ≡ Some n) × (n < r.slots)) → IsNote r (note_in r.notes q) settled →
    IsNote r (if b then Some n else note_in r.notes q) settled
note_more r p q n settled true e new old = new (eqb-true p q e)
note_more r p q n settled false e new old = old

pub kept_note : (flows : List Flow) (ports : ℕ) (credited : ℕ → ℕ) (next : ℕ) (r : Run) (xs : List PortFacts) (sent : List SentRun) (p n : ℕ) →
    (get_or xs p idle_port).settled ≡ Some n → n < r.slots →
    IsKept flows ports credited next (Some r) xs sent → IsKept flows ports credited next (Some (record r { notes = (p, n) ∷ r.notes })) xs sent
kept_note flows ports credited next r xs sent p n settled lt h = record {
  wide = h.wide;
  each_sent = λ k d low. let x = h.each_sent k d low in record { slot_some = x.slot_some; units_some = x.units_some; at_ingress = x.at_ingress; in_time = x.in_time };
  apart = h.apart;
  accounted = h.accounted;
  port = λ q low. (
    (h.port q low).0,
    note_more r p q n (get_or xs q idle_port).settled (p == q) refl (λ e. (ap (λ k. (get_or xs k idle_port).settled) (sym e) ∙ settled, lt)) ((h.port q low).1),
  );
}
