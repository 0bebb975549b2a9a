-- Where every arrival is late, each coflow pays with its whole budget for its earliest end.
use Rattle.std.proofs.Common.{◌≡◌, ℕ, ◌*◌, inl, inr, List, [], ◌∷◌, refl, ap, arith}
use Rattle.std.specs.Prelude.{All}
use Rattle.std.proofs.lemmas.List.Elements.{All-cons, All-nil}
use Rattle.coflow_units.specs.declared.fabric.Flow.{Flow}
use Rattle.coflow_units.specs.Flows.{Instance}
use Rattle.coflow_units.specs.Load.{load}
use Rattle.coflow_units.specs.Certificate.{Entry, budget}
use Rattle.coflow_units.specs.Ordering.{spent}
use Rattle.coflow_units.proofs.OrderingLaws.{spent_more}
use Rattle.release_bound.specs.declared.place.ReleasePlace.{ReleasePlace}
use Rattle.release_bound.specs.declared.threshold.Threshold.TheVariants.{Zero}
use Rattle.release_bound.specs.Release.{entry_of}
use Rattle.release_bound.specs.ReleaseOrder.{IsReleasedBy, IsReleasedOrdered}

zero_pays : (flows : List Flow) (weight arrival : ℕ → ℕ) (ports : ℕ) (later : List Entry) (places : List ReleasePlace) →
    IsReleasedOrdered 0 flows weight arrival ports later places → All (λ (r : ReleasePlace). r.y ≡ 0) places
zero_pays flows weight arrival ports later [] ordered = All-nil (λ (r : ReleasePlace). r.y ≡ 0)
zero_pays flows weight arrival ports later (r ∷ before) ordered =
    All-cons (λ (x : ReleasePlace). x.y ≡ 0) r before (ordered.0.late_y (inr (inl refl))) (zero_pays flows weight arrival ports (entry_of r ∷ later) before ordered.1)

zero_keeps : (flows : List Flow) (weight arrival : ℕ → ℕ) (ports : ℕ) (later : List Entry) (places : List ReleasePlace) → ((c : ℕ) → spent flows later c ≡ 0) →
    IsReleasedOrdered 0 flows weight arrival ports later places → All (λ (r : ReleasePlace). r.z ≡ budget weight r.coflow) places
zero_keeps flows weight arrival ports later [] none ordered = All-nil (λ (r : ReleasePlace). r.z ≡ budget weight r.coflow)
zero_keeps flows weight arrival ports later (r ∷ before) none ordered =
    let y = ordered.0.late_y (inr (inl refl)) in
    let here : r.z ≡ budget weight r.coflow = omega (arith, ordered.0.z_is, none r.coflow, ap (λ n. n * load flows r.coflow r.port) y) in
    let none' : (c : ℕ) → spent flows (entry_of r ∷ later) c ≡ 0 = λ c. omega (arith, spent_more flows (entry_of r) later c, none c, ap (λ n. n * load flows c r.port) y) in
    All-cons (λ (x : ReleasePlace). x.z ≡ budget weight x.coflow) r before here (zero_keeps flows weight arrival ports (entry_of r ∷ later) before none' ordered.1)

pub zero_y : (i : Instance) (arrival : ℕ → ℕ) (places : List ReleasePlace) → IsReleasedBy Zero i arrival places → All (λ (r : ReleasePlace). r.y ≡ 0) places
zero_y i arrival places released = zero_pays i.flows i.weight arrival i.ports [] places released.ordered

pub zero_z : (i : Instance) (arrival : ℕ → ℕ) (places : List ReleasePlace) → IsReleasedBy Zero i arrival places →
    All (λ (r : ReleasePlace). r.z ≡ budget i.weight r.coflow) places
zero_z i arrival places released = zero_keeps i.flows i.weight arrival i.ports [] places (λ c. refl) released.ordered
