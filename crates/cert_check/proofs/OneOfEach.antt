-- Where the first of a kind is told twice, it is told as the same.
use Rattle.std.proofs.Common.{◌≡◌, ℕ, ◌+◌, ◌-◌, ◌≤◌, ◌<◌, ◌⊎◌, inl, inr, List, refl, sym, ap, ◌∙◌, arith}
use Rattle.std.proofs.lemmas.Bool.{cases_lt}
use Rattle.coflow_units.specs.declared.fabric.Flow.{Flow}
use Rattle.coflow_units.specs.declared.fabric.Port.{Port}
use Rattle.coflow_units.specs.declared.fabric.Side.{Side}
use Rattle.coflow_units.specs.declared.fabric.Side.TheVariants.{Egress, Ingress}
use Rattle.coflow_units.specs.Flows.{units_of}
use Rattle.coflow_units.specs.Schedule.{times}
use Rattle.report_text.specs.declared.value.PlaceLine.{PlaceLine}
use Rattle.report_text.specs.Text.{place_at}
use Rattle.schedule_model.specs.Fault.{IsFirstClash, IsFirstMiscount, IsFirstNoFlow, IsNoLater, number_no_later}
use Rattle.cert_check.specs.Places.{IsFirstOutOfRange, IsFirstWrong, IsNew, IsNotNew}

-- ---- one number of each kind

-- of two numbers of which neither is less
pub between : (a b : ℕ) → (a < b → ⊥) → (b < a → ⊥) → a ≡ b
between a b less more = elim (cases_lt a b) [
  | inl lt ↦ absurd (less lt)
  | inr le ↦ elim (cases_lt b a) [
    | inl lt ↦ absurd (more lt)
    | inr upto ↦ omega arith
  ]
]

-- what holds of one number alone, where none of them is less than another
pub only_one : {P : ℕ → Type 0} → ((a b : ℕ) → P a → P b → a < b → ⊥) → (a b : ℕ) → P a → P b → a ≡ b
only_one never a b pa pb = between a b (never a b pa pb) (never b a pb pa)

not_new_and_new : (ids stated : List ℕ) (k : ℕ) → IsNew ids stated k → IsNotNew ids stated k → ⊥
not_new_and_new ids stated k new (inl unknown) = unknown new.known
not_new_and_new ids stated k new (inr earlier) = new.once earlier

pub one_wrong_place : (ids stated : List ℕ) (a b : ℕ) → IsFirstWrong ids stated a → IsFirstWrong ids stated b → a ≡ b
one_wrong_place ids stated = only_one earlier where
  earlier : (a b : ℕ) → IsFirstWrong ids stated a → IsFirstWrong ids stated b → a < b → ⊥
  earlier a b wa wb less = elim wa.wrong [
    | inl (inside, not_new) ↦ not_new_and_new ids stated (a - 1) (wb.before (a - 1) (omega (arith, wa.counted))) not_new
    | inr (end, few) ↦ elim wb.wrong [
      | inl (inside, not_new) ↦ omega (arith, wa.counted, end, inside, less)
      | inr (end', few') ↦ omega (arith, wa.counted, end, end', less)
    ]
  ]

pub one_bad_port : (ports : ℕ) (places : List PlaceLine) (a b m n : ℕ) → IsFirstOutOfRange ports places a m → IsFirstOutOfRange ports places b n → (a ≡ b) × (m ≡ n)
one_bad_port ports places a b m n pa pb =
    let place : a ≡ b = only_one earlier a b (m, pa) (n, pb) in
    (place, sym pa.has ∙ ap (λ k. (place_at places (k - 1)).port.number) place ∙ pb.has)
  where
    earlier : (a b : ℕ) → (m : ℕ) × IsFirstOutOfRange ports places a m → (n : ℕ) × IsFirstOutOfRange ports places b n → a < b → ⊥
    earlier a b (m, pa) (n, pb) less = omega (arith, pa.has, pa.beyond, pb.before (a - 1) (omega (arith, pa.counted)))

-- ---- one slot of each kind, and what is first in it

-- of two that both come first, the slots are the same
pub first_of_both : (a b : ℕ) (P Q : Type 0) → (a < b) ⊎ ((a ≡ b) × P) → (b < a) ⊎ ((b ≡ a) × Q) → (a ≡ b) × P × Q
first_of_both a b P Q (inl less) (inl more) = absurd (omega (arith, less, more))
first_of_both a b P Q (inl less) (inr (e, q)) = absurd (omega (arith, less, e))
first_of_both a b P Q (inr (e, p)) (inl more) = absurd (omega (arith, more, e))
first_of_both a b P Q (inr (e, p)) (inr (e', q)) = (e, p, q)

pub one_flow : (flows : List Flow) (slots : List (List ℕ)) (s t f g : ℕ) → IsFirstNoFlow flows slots s f → IsFirstNoFlow flows slots t g → (s ≡ t) × (f ≡ g)
one_flow flows slots s t f g a b =
    let both = first_of_both s t (f ≤ g) (g ≤ f) (a.first t g b.stands b.no_flow) (b.first s f a.stands a.no_flow) in
    (both.0, omega (arith, both.1, both.2))

one_port : (s t : Side) (m n : ℕ) → number_no_later s m t n → number_no_later t n s m → (s ≡ t) × (m ≡ n)
one_port Ingress Ingress m n le ge = (refl, omega (arith, le, ge))
one_port Ingress Egress m n le ge = absurd ge
one_port Egress Ingress m n le ge = absurd le
one_port Egress Egress m n le ge = (refl, omega (arith, le, ge))

pub one_clash : (flows : List Flow) (slots : List (List ℕ)) (s t : ℕ) (p q : Port) → IsFirstClash flows slots s p → IsFirstClash flows slots t q →
    (s ≡ t) × (p.side ≡ q.side) × (p.number ≡ q.number)
one_clash flows slots s t p q a b =
    let both = first_of_both s t (IsNoLater p q) (IsNoLater q p) (a.first t q b.clashes) (b.first s p a.clashes) in
    let ports = one_port p.side q.side p.number q.number both.1 both.2 in
    (both.0, ports.0, ports.1)

pub one_miscount : (flows : List Flow) (slots : List (List ℕ)) (f g h k v w : ℕ) → IsFirstMiscount flows slots f h v → IsFirstMiscount flows slots g k w →
    (f ≡ g) × (h ≡ k) × (v ≡ w)
one_miscount flows slots f g h k v w a b =
    let flow : f ≡ g = only_one lesser f g (h, v, a) (k, w, b) in
    (flow, sym a.stands_in ∙ ap (times slots) flow ∙ b.stands_in, sym a.wants ∙ ap (units_of flows) flow ∙ b.wants)
  where
    lesser : (f g : ℕ) → (h v : ℕ) × IsFirstMiscount flows slots f h v → (k w : ℕ) × IsFirstMiscount flows slots g k w → f < g → ⊥
    lesser f g (h, v, a) (k, w, b) less = a.differ (sym a.stands_in ∙ b.first f less ∙ a.wants)
