-- At most one action is the first that applies.
use Rattle.std.proofs.Common.{◌≡◌, ℕ, ◌+◌, inl, inr, cond, List, refl, sym, ap, subst, ◌∙◌, arith}
use Rattle.std.specs.Prelude.{◌==◌}
use Rattle.std.proofs.lemmas.Bool.{eq-eqb, ne_eqb}
use Rattle.epochs.specs.declared.action.Action.{Action}
use Rattle.epochs.specs.declared.action.Action.TheVariants.{Register, Withdraw, Publish, Run, Skip, End, TooMany}
use Rattle.epochs.specs.Course.{ComesFirst, Course, IsNextArrival}
use Rattle.epochs.specs.Choice.{Applies, IsFirstAction, place}

-- an action is its kind, an action with the number 0, and its number
abbrev kind : Action → Action
kind (Register c) = Register 0
kind (Withdraw c) = Withdraw 0
kind Publish = Publish
kind (TooMany count) = TooMany 0
kind (Run most) = Run 0
kind (Skip to) = Skip 0
kind End = End

abbrev number : Action → ℕ
number (Register c) = c
number (Withdraw c) = c
number Publish = 0
number (TooMany count) = count
number (Run most) = most
number (Skip to) = to
number End = 0

abbrev with_number : Action → ℕ → Action
with_number (Register c) n = Register n
with_number (Withdraw c) n = Withdraw n
with_number Publish n = Publish
with_number (TooMany count) n = TooMany n
with_number (Run most) n = Run n
with_number (Skip to) n = Skip n
with_number End n = End

made : (a : Action) → a ≡ with_number (kind a) (number a)
made (Register c) = refl
made (Withdraw c) = refl
made Publish = refl
made (TooMany count) = refl
made (Run most) = refl
made (Skip to) = refl
made End = refl

-- the kind of the action that applies at a place of the list
abbrev kind_at : Course → ℕ → Action
kind_at s p =
    cond (p == 1) (Register 0) (cond (p == 2) (Withdraw 0) (cond (p == 3) (cond (s.published == 8192) (TooMany 0) Publish) (cond (p == 4) (Run 0) (cond (p == 5) (Skip 0) End))))

kind_is : (s : Course) (time : ℕ) (owed : List ℕ) (a : Action) → Applies s time owed a → kind a ≡ kind_at s (place a)
kind_is s time owed (Register c) applies = refl
kind_is s time owed (Withdraw c) applies = refl
kind_is s time owed Publish applies = sym (ap {B = Action} (λ b. cond b (TooMany 0) Publish) (ne_eqb s.published 8192 (λ e. omega (arith, e, applies.1))))
kind_is s time owed (TooMany count) applies = sym (ap {B = Action} (λ b. cond b (TooMany 0) Publish) (eq-eqb s.published 8192 applies.published))
kind_is s time owed (Run most) applies = refl
kind_is s time owed (Skip to) applies = refl
kind_is s time owed End applies = refl

same_coflow : (arrivals : List ℕ) (m n : ℕ) → ComesFirst arrivals m n → ComesFirst arrivals n m → m ≡ n
same_coflow arrivals m n (inl a) (inl b) = absurd (omega (arith, a, b))
same_coflow arrivals m n (inl a) (inr b) = absurd (omega (arith, a, b.0))
same_coflow arrivals m n (inr a) (inl b) = absurd (omega (arith, a.0, b))
same_coflow arrivals m n (inr a) (inr b) = omega (arith, a.1, b.1)

same_arrival : (arrivals : List ℕ) (now m n : ℕ) → IsNextArrival arrivals now m → IsNextArrival arrivals now n → m ≡ n
same_arrival arrivals now m n a b = omega (arith, a.first n b.later b.arrival, b.first m a.later a.arrival)

one_number : (s : Course) (time : ℕ) (owed : List ℕ) (k : Action) (m n : ℕ) → Applies s time owed (with_number k m) → Applies s time owed (with_number k n) →
    with_number k m ≡ with_number k n
one_number s time owed (Register c) m n a b = ap Register (same_coflow s.arrivals m n (a.first n b.waits b.arrived) (b.first m a.waits a.arrived))
one_number s time owed (Withdraw c) m n a b =
    let e : m ≡ n = omega (arith, a.served.first n b.served.is_present b.served.served, b.served.first m a.served.is_present a.served.served) in
    ap Withdraw e
one_number s time owed Publish m n a b = refl
one_number s time owed (TooMany count) m n a b = ap TooMany (a.is_next ∙ sym b.is_next)
one_number s time owed (Run most) m n a b =
    let e : m ≡ n = omega (arith, a.stop.first (time + n) b.stop.later b.stop.stop, b.stop.first (time + m) a.stop.later a.stop.stop) in
    ap Run e
one_number s time owed (Skip to) m n a b =
    let e : m ≡ n = omega (arith, same_arrival s.arrivals time a.arrival.0 b.arrival.0 a.arrival.1 b.arrival.1, a.arrival.2, b.arrival.2) in
    ap Skip e
one_number s time owed End m n a b = refl

pub one_action : (s : Course) (time : ℕ) (owed : List ℕ) (a b : Action) → IsFirstAction s time owed a → IsFirstAction s time owed b → a ≡ b
one_action s time owed a b is_a is_b =
    let places : place a ≡ place b = omega (arith, is_a.first b is_b.applies, is_b.first a is_a.applies) in
    let kinds : kind a ≡ kind b = kind_is s time owed a is_a.applies ∙ ap (kind_at s) places ∙ sym (kind_is s time owed b is_b.applies) in
    let parts_a = subst (λ x. Applies s time owed x) (made a) is_a.applies in
    let is_made : b ≡ with_number (kind a) (number b) = made b ∙ ap (λ k. with_number k (number b)) (sym kinds) in
    let parts_b = subst (λ x. Applies s time owed x) is_made is_b.applies in
    made a ∙ one_number s time owed (kind a) (number a) (number b) parts_a parts_b ∙ sym is_made
