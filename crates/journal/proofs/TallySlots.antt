-- The schedule and the wires that a tally makes are those of its journal.
use Rattle.std.proofs.Common.{◌≡◌, ℕ, ◌+◌, ◌-◌, inl, inr, Bool, true, false, List, [], ◌∷◌, ◌++◌, Contains, map, refl, sym, ap, ◌∙◌, arith, cond, suc, Some, append-nil}
use Rattle.std.specs.Prelude.{All, if◌then◌else◌}
use Rattle.std.specs.List.{filter, flat_map, range_with_len}
use Rattle.std.specs.List.Sorted.{IsStrictlyIncreasing}
use Rattle.std.proofs.lemmas.Bool.{cases_eq, eq-eqb, ne_eqb}
use Rattle.std.proofs.lemmas.List.Folds.{flat_map-map}
use Rattle.coflow_units.specs.declared.fabric.Flow.{Flow}
use Rattle.coflow_units.specs.Flows.{ingress_of}
use Rattle.coflow_units.specs.Schedule.{IsClear}
use Rattle.coflow_units.proofs.GrantLaws.{above_first, tail_rises}
use Rattle.coflow_units.proofs.Sums.{in_first, in_tail}
use Rattle.journal.specs.declared.command.Entry.{Entry}
use Rattle.journal.specs.declared.opening.Opening.{Opening}
use Rattle.journal.specs.declared.tally.Credit.{Credit}
use Rattle.journal.specs.State.{Run}
use Rattle.journal.specs.Runs.{credit, grant_in}
use Rattle.journal.specs.Fold.{state_of}
use Rattle.journal.specs.Journal.{IsLegal}
use Rattle.journal.specs.Sound.{InRange}
use Rattle.journal.specs.Closed.{closed_runs, flows_in, IsClosedRun, reaches, run_in, schedule_of, sent_at, sent_by, wire_of}
use Rattle.journal.specs.Tally.{credit_at, credit_at_port, credited, has_slot, IsTally, tallied_at, tallied_in, tallied_schedule, tallied_wire, TalliedRuns}
use Rattle.journal.proofs.RunsInOrder.{closed_sound}

-- ---- slots

-- the flows of the credits that pass
passing : (p : Credit → Bool) (g : ℕ → Credit) (c : ℕ) (l : List Credit) (b : Bool) → map (λ (x : Credit). x.flow) (cond b (g c ∷ l) l) ≡
    cond b ((g c).flow ∷ map (λ (x : Credit). x.flow) l) (map (λ (x : Credit). x.flow) l)
passing p g c l true = refl
passing p g c l false = refl

filtered : (flows : List Flow) (r : Run) (slot : ℕ) (granted : List ℕ) →
    map (λ (c : Credit). c.flow) (filter (λ (c : Credit). has_slot r.first c.units slot) (map (λ f. credit_at flows f (credit flows r f)) granted))
    ≡ filter (reaches flows r slot) granted
filtered flows r slot [] = refl
filtered flows r slot (f ∷ fs) =
    let g = λ (x : ℕ). credit_at flows x (credit flows r x) in
    passing (λ (c : Credit). has_slot r.first c.units slot) g f (filter (λ (c : Credit). has_slot r.first c.units slot) (map g fs)) (reaches flows r slot f)
    ∙ ap (λ l. cond (reaches flows r slot f) (f ∷ l) l) (filtered flows r slot fs)

slots_same : (flows : List Flow) (slot : ℕ) (runs : List Run) → flat_map (λ r. tallied_in slot (credited flows r)) runs ≡ flows_in flows runs slot
slots_same flows slot [] = refl
slots_same flows slot (r ∷ rs) = ap (λ l. l ++ flat_map (λ r. tallied_in slot (credited flows r)) rs) (filtered flows r slot r.granted) ∙
    ap (λ l. run_in flows slot r ++ l) (slots_same flows slot rs)

slot_is : (flows : List Flow) (runs : List Run) (slot : ℕ) → flows_in flows runs slot ≡ flat_map (tallied_in slot) (map (credited flows) runs)
slot_is flows runs slot = sym (flat_map-map (tallied_in slot) (credited flows) runs ∙ slots_same flows slot runs)

each_slot : (f g : ℕ → List ℕ) (xs : List ℕ) → ((x : ℕ) → f x ≡ g x) → map f xs ≡ map g xs
each_slot f g [] same = refl
each_slot f g (x ∷ xs) same = ap (λ y. y ∷ map f xs) (same x) ∙ ap (λ l. g x ∷ l) (each_slot f g xs same)

pub schedule_tallied : (o : Opening) (journal : List Entry) (x : TalliedRuns) → IsTally o journal x → schedule_of o journal ≡ tallied_schedule x.closed (state_of o journal).next
schedule_tallied o journal x h =
    let flows = o.table.flows in
    let runs = closed_runs o journal in
    let next = (state_of o journal).next in
    each_slot (flows_in flows runs) (λ slot. flat_map (tallied_in slot) (map (credited flows) runs)) (range_with_len 1 (next - 1)) (slot_is flows runs)
    ∙ ap (λ l. tallied_schedule l next) (sym h.closed)

-- ---- wires

-- what the credits of these flows sent from the port
abbrev sent_from_port : List Flow → ℕ → Run → List ℕ → List (ℕ × ℕ × ℕ)
sent_from_port flows port r granted = flat_map (λ f. credit_at_port port r.first (credit_at flows f (credit flows r f))) granted

none_sent : (flows : List Flow) (port : ℕ) (r : Run) (granted : List ℕ) → ((f : ℕ) → Contains granted f → ingress_of flows f ≡ port → ⊥) → sent_from_port flows port r granted ≡ []
none_sent flows port r [] none = refl
none_sent flows port r (f ∷ fs) none =
    ap (λ b. (if b then sent_by flows r (Some f) else []) ++ sent_from_port flows port r fs) (ne_eqb (ingress_of flows f) port (none f (in_first f fs)))
    ∙ none_sent flows port r fs (λ g in'. none g (in_tail f fs g in'))

grant_sent : (flows : List Flow) (port : ℕ) (r : Run) (granted : List ℕ) → IsStrictlyIncreasing granted →
    ((f g : ℕ) → Contains granted f → Contains granted g → ingress_of flows f ≡ ingress_of flows g → f ≡ g) →
    sent_from_port flows port r granted ≡ sent_by flows r (grant_in flows granted port)
grant_sent flows port r [] rises apart = refl
grant_sent flows port r (f ∷ fs) rises apart =
    let rest = sent_from_port flows port r fs in
    elim (cases_eq (ingress_of flows f) port) [
      | inl here ↦
          let none : rest ≡ [] = none_sent flows port r fs
          (λ g in' at.
          let same = apart f g (in_first f fs) (in_tail f fs g in') (here ∙ sym at) in
          absurd (omega (arith, above_first f fs g rises in', same))) in
          ap (λ b. (if b then sent_by flows r (Some f) else []) ++ rest) (eq-eqb (ingress_of flows f) port here) ∙ ap (λ l. sent_by flows r (Some f) ++ l) none
          ∙ append-nil (sent_by flows r (Some f)) ∙ sym (ap (λ (b : Bool). sent_by flows r (if b then Some f else grant_in flows fs port)) (eq-eqb (ingress_of flows f) port here))
      | inr other ↦
          ap (λ b. (if b then sent_by flows r (Some f) else []) ++ rest) (ne_eqb (ingress_of flows f) port other)
          ∙ grant_sent flows port r fs (tail_rises f fs rises) (λ x y hx hy at. apart x y (in_tail f fs x hx) (in_tail f fs y hy) at)
          ∙ sym (ap (λ (b : Bool). sent_by flows r (if b then Some f else grant_in flows fs port)) (ne_eqb (ingress_of flows f) port other))
    ]

run_sent : (flows : List Flow) (port : ℕ) (r : Run) → IsClear flows r.granted → tallied_at port (credited flows r) ≡ sent_at flows port r
run_sent flows port r clear =
    flat_map-map (credit_at_port port r.first) (λ f. credit_at flows f (credit flows r f)) r.granted
    ∙ grant_sent flows port r r.granted clear.ascending (λ f g hf hg at. clear.apart f g hf hg (inl at))

runs_sent : (flows : List Flow) (port next : ℕ) (runs : List Run) → All (IsClosedRun flows next) runs →
    flat_map (λ r. tallied_at port (credited flows r)) runs ≡ flat_map (sent_at flows port) runs
runs_sent flows port next [] all = refl
runs_sent flows port next (r ∷ rs) all =
    ap (λ l. l ++ flat_map (λ r. tallied_at port (credited flows r)) rs) (run_sent flows port r (all 0 r (omega arith)).clear)
    ∙ ap (λ l. sent_at flows port r ++ l) (runs_sent flows port next rs (λ k d lt. all (suc k) d (omega arith)))

pub wire_tallied : (o : Opening) (journal : List Entry) (x : TalliedRuns) (port : ℕ) → IsLegal o journal → InRange o journal → IsTally o journal x →
    wire_of o journal port ≡ tallied_wire x.closed port
wire_tallied o journal x port legal ok h =
    let flows = o.table.flows in
    let runs = closed_runs o journal in
    sym (runs_sent flows port (state_of o journal).next runs (closed_sound o journal legal ok).each) ∙ sym (flat_map-map (tallied_at port) (credited flows) runs)
    ∙ ap (λ l. tallied_wire l port) (sym h.closed)
