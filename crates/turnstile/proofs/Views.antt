-- What holds of each view after a step of another.
use Rattle.std.proofs.Common.{◌≡◌, ◌≢◌, ◌⊎◌, inl, inr, ℕ, zero, suc, ◌+◌, ◌<◌, ◌≤◌, List, [], ◌∷◌, ◌++◌, length, set, sym, refl, ap, ◌∙◌, subst, ⊎_elim, arith, Option, Some, None}
use Rattle.std.proofs.Common.{length-set}
use Rattle.std.proofs.lemmas.List.{append-nil}
use Rattle.std.proofs.lemmas.List.Elements.{All-weaker}
use mathlib.Core.Logic.{dite}
use mathlib.Core.Option.{some, some-injective, some-ne-none}
use native.Mathlib.Decide.{ℕ_discrete}
use lib.ListN.{get_elem?}
use Rattle.atomic_table.proofs.Lists.{at_set, set_here, set_else}
use Rattle.turnstile.specs.declared.view.Stage.{Stage}
use Rattle.turnstile.specs.declared.view.Stage.TheVariants.{Idle, Waiting, InTurn}
use Rattle.turnstile.specs.declared.view.Role.{Role}
use Rattle.turnstile.specs.declared.view.Role.TheVariants.{Note, Seat, Root}
use Rattle.turnstile.specs.declared.view.View.{View}
use Rattle.turnstile.specs.declared.view.Returned.{Returned}
use Rattle.turnstile.specs.Histories.{NoneBy, GoesOn, Begins}
use Rattle.turnstile.specs.Tickets.{total, Numbers, queues, has_turn, counts_if, numbered, queued, turning, number_of, IsNumbered, NoOther, Saw, Queues}
use Rattle.turnstile.proofs.Beginnings.{begins_on, whole_beginning, goes_on, whole, goes_longer}
use Rattle.turnstile.proofs.Totals.{total_le}
use Rattle.coflow_units.proofs.Changes.{put, put_else}

abbrev pub ticket : Stage → ℕ
ticket Idle = 0
ticket (Waiting t) = t
ticket (InTurn t) = t

module _ {C : Type 0} where
  pub some_same : {x y : C} → ◌≡◌ {A = Option C} (Some x) (Some y) → x ≡ y
  some_same {x} {y} e = ap (λ (o : Option C). elim o [ None ↦ x | Some z ↦ z ]) e

  -- where there is no setting, there is no other one
  pub no_setting : (c : C) → NoOther c None
  no_setting c x e = absurd cc

pub counts_one : (k : Role) (n : ℕ) → IsNumbered k → counts_if k n ≡ n
counts_one Note n h = absurd h
counts_one (Seat number) n h = refl
counts_one Root n h = refl

pub counts_le : (k : Role) (a b : ℕ) → a ≤ b → counts_if k a ≤ counts_if k b
counts_le Note a b h = omega arith
counts_le (Seat number) a b h = h
counts_le Root a b h = h

pub turn_le : (st : Stage) → has_turn st ≤ queues st
turn_le Idle = omega arith
turn_le (Waiting t) = omega arith
turn_le (InTurn t) = omega arith

pub queues_le : (st : Stage) → queues st ≤ 1
queues_le Idle = omega arith
queues_le (Waiting t) = omega arith
queues_le (InTurn t) = omega arith

module _ {E C : Type 0} where
  pub seats_stay : (K : ℕ → View E C → Type 0) (vs : List (View E C)) (me : ℕ) (w : View E C) → K me w → ((j : ℕ) (d : View E C) → j ≢ me → get_elem? vs j ≡ some d → K j d)
      → (j : ℕ) (d : View E C) → get_elem? (set vs me w) j ≡ some d → K j d
  seats_stay K vs me w mine others j d e = ⊎_elim (λ (t : (j ≡ me) × (w ≡ d)). subst (λ (x : ℕ × View E C). K x.0 x.1) (λ i. (sym t.0 i, t.1 i)) mine)
      (λ (t : (j ≢ me) × (get_elem? vs j ≡ some d)). others j d t.0 t.1) (at_set vs me j w d e)

  pub few_queued : (vs : List (View E C)) → total queued vs ≤ total numbered vs
  few_queued vs = total_le queued numbered (λ v. counts_le v.role (queues v.stage) 1 (queues_le v.stage)) vs

  pub few_turning : (vs : List (View E C)) → total turning vs ≤ total queued vs
  few_turning vs = total_le turning queued (λ v. counts_le v.role (has_turn v.stage) (queues v.stage) (turn_le v.stage)) vs

module _ {E : Type 0} (log : List E) where
  -- the others, where a seat takes the value
  pub others_wait : (j next serving taken me : ℕ) (holder : ℕ → ℕ) (seen : List E) (st : Stage) → j ≢ me → holder serving ≡ me → taken ≡ 0
      → Queues log j next serving taken holder seen st → Queues log j next serving 1 holder seen st
  others_wait j next serving taken me holder seen Idle other mine home h = tt
  others_wait j next serving taken me holder seen (Waiting t) other mine home h = (h.0, h.1, h.2, (λ e. absurd (other (sym h.2 ∙ (ap holder e ∙ mine)))))
  others_wait j next serving taken me holder seen (InTurn t) other mine home h = absurd (other (sym h.2 ∙ (ap holder h.0 ∙ mine)))

  -- the others, where a seat leaves
  pub others_next : (log' : List E) (j next serving taken me : ℕ) (holder : ℕ → ℕ) (seen : List E) (st : Stage) → j ≢ me → holder serving ≡ me
      → Queues log j next serving taken holder seen st → Queues log' j next (serving + 1) 0 holder seen st
  others_next log' j next serving taken me holder seen Idle other mine h = tt
  others_next log' j next serving taken me holder seen (Waiting t) other mine h =
      let a = h.0 in
      let past : serving + 1 ≤ t = dite (ℕ_discrete t serving) (λ e. absurd (other (sym h.2 ∙ (ap holder e ∙ mine)))) (λ n. omega arith) in
      (past, h.1, h.2, (λ _. refl))
  others_next log' j next serving taken me holder seen (InTurn t) other mine h = absurd (other (sym h.2 ∙ (ap holder h.0 ∙ mine)))

  -- a queue's facts after a ticket was taken, and those of the others
  pub others_queue : (j next serving taken me : ℕ) (holder : ℕ → ℕ) (seen : List E) (st : Stage) → j ≢ me
      → Queues log j next serving taken holder seen st → Queues log j (next + 1) serving taken (put holder next me) seen st
  others_queue j next serving taken me holder seen Idle other h = tt
  others_queue j next serving taken me holder seen (Waiting t) other h =
      let a = h.0 in let b = h.1 in (a, omega arith, put_else holder next me t (λ e. omega arith) ∙ h.2, h.3)
  others_queue j next serving taken me holder seen (InTurn t) other h =
      let b = h.1 in (h.0, omega arith, put_else holder next me t (λ e. omega arith) ∙ h.2, h.3, h.4)

  -- where a ticket stands does not change as the view sees more
  pub queues_longer : (j next serving taken : ℕ) (holder : ℕ → ℕ) (seen seen' : List E) (st : Stage) → Begins log seen' → length seen ≤ length seen' →
      Queues log j next serving taken holder seen st → Queues log j next serving taken holder seen' st
  queues_longer j next serving taken holder seen seen' Idle b l h = tt
  queues_longer j next serving taken holder seen seen' (Waiting t) b l h = h
  queues_longer j next serving taken holder seen seen' (InTurn t) b l h =
      (h.0, h.1, h.2, h.3, whole_beginning log seen' b (let same : length seen ≡ length log = ap (λ (z : List E). length z) h.4 in omega arith))

module _ {E : Type 0} (by : E → ℕ) where
  -- what another seat has seen, where the seat of the number `mine` leaves with these entries more
  pub others_saw : (log more : List E) (seat_of : ℕ → ℕ) (made returned j me mine : ℕ) (seen : List E) (own : ℕ) (back : List (Returned E)) (role : Role) → j ≢ me →
      seat_of mine ≡ me
      → ((k : ℕ) → seat_of k ≢ me → NoneBy by k more) → Saw by log seat_of made returned j seen own back role → Saw by (log ++ more) seat_of made returned j seen own back role
  others_saw log more seat_of made returned j me mine seen own back Note other is apart h = begins_on log more seen h
  others_saw log more seat_of made returned j me mine seen own back (Seat number) other is apart h =
      (goes_on by log more number seen (apart number (λ e. other (sym h.1 ∙ e))) h.0, h.1, h.2, h.3)
  others_saw log more seat_of made returned j me mine seen own back Root other is apart h = (
    goes_on by log more 0 seen (apart 0 (λ e. other (sym h.1 ∙ e))) h.0,
    h.1,
    h.2,
    h.3,
    All-weaker (λ (p : Returned E). GoesOn by log p.number p.seen × (seat_of p.number ≡ j) × (0 < p.number) × (p.number ≤ made))
        (λ (p : Returned E). GoesOn by (log ++ more) p.number p.seen × (seat_of p.number ≡ j) × (0 < p.number) × (p.number ≤ made))
        (λ p g. (goes_on by log more p.number p.seen (apart p.number (λ e. other (sym g.1 ∙ e))) g.0, g.1, g.2, g.3)) back h.4,
  )

  -- what a seat has seen that sees the whole list
  pub saw_all : (log log' : List E) (seat_of : ℕ → ℕ) (made returned j : ℕ) (seen : List E) (own : ℕ) (back : List (Returned E)) (role : Role) →
      ((k : ℕ) (xs : List E) → role ≡ Root → 0 < k → GoesOn by log k xs → GoesOn by log' k xs) → Saw by log seat_of made returned j seen own back role →
      Saw by log' seat_of made returned j log' own back role
  saw_all log log' seat_of made returned j seen own back Note on h = ([], sym (append-nil log'))
  saw_all log log' seat_of made returned j seen own back (Seat number) on h = (whole by log' number, h.1, h.2, h.3)
  saw_all log log' seat_of made returned j seen own back Root on h = (
    whole by log' 0,
    h.1,
    h.2,
    h.3,
    All-weaker (λ (p : Returned E). GoesOn by log p.number p.seen × (seat_of p.number ≡ j) × (0 < p.number) × (p.number ≤ made))
        (λ (p : Returned E). GoesOn by log' p.number p.seen × (seat_of p.number ≡ j) × (0 < p.number) × (p.number ≤ made))
        (λ p g. (on p.number p.seen refl g.2 g.0, g.1, g.2, g.3)) back h.4,
  )

  -- a numbered seat's own number
  pub own_seat : (log : List E) (seat_of : ℕ → ℕ) (made returned j : ℕ) (seen : List E) (own : ℕ) (back : List (Returned E)) (role : Role) → IsNumbered role →
      Saw by log seat_of made returned j seen own back role
      → (seat_of (number_of role) ≡ j) × GoesOn by log (number_of role) seen × (number_of role ≤ made)
  own_seat log seat_of made returned j seen own back Note has h = absurd has
  own_seat log seat_of made returned j seen own back (Seat number) has h = (h.1, h.0, h.3)
  own_seat log seat_of made returned j seen own back Root has h = (h.1, h.0, omega arith)

  -- what a view has seen, once it sees no less
  pub saw_longer : (log : List E) (seat_of : ℕ → ℕ) (made returned j : ℕ) (seen seen' : List E) (own : ℕ) (back : List (Returned E)) (role : Role) → Begins log seen' →
      length seen ≤ length seen'
      → Saw by log seat_of made returned j seen own back role → Saw by log seat_of made returned j seen' own back role
  saw_longer log seat_of made returned j seen seen' own back Note a l h = a
  saw_longer log seat_of made returned j seen seen' own back (Seat number) a l h = (goes_longer by log seen seen' number h.0 a l, h.1, h.2, h.3)
  saw_longer log seat_of made returned j seen seen' own back Root a l h = (goes_longer by log seen seen' 0 h.0 a l, h.1, h.2, h.3, h.4)

  pub saw_begins : (log : List E) (seat_of : ℕ → ℕ) (made returned j : ℕ) (seen : List E) (own : ℕ) (back : List (Returned E)) (role : Role) →
      Saw by log seat_of made returned j seen own back role → Begins log seen
  saw_begins log seat_of made returned j seen own back Note h = h
  saw_begins log seat_of made returned j seen own back (Seat number) h = (h.0.0, h.0.1)
  saw_begins log seat_of made returned j seen own back Root h = (h.0.0, h.0.1)

module _ {E C : Type 0} where
  pub inside : (l : List (View E C)) (i : ℕ) (u : View E C) → get_elem? l i ≡ some u → i < length l
  inside [] i u e = absurd (some-ne-none u (sym e))
  inside (x ∷ xs) zero u e = omega arith
  inside (x ∷ xs) (suc i) u e = let h = inside xs i u e in omega arith

  -- each number is still some view's
  pub numbers_stay : (seat_of : ℕ → ℕ) (made : ℕ) (vs : List (View E C)) (me : ℕ) (v w : View E C) → get_elem? vs me ≡ some v →
      ((k : ℕ) → Numbers v.role v.back k → Numbers w.role w.back k)
      → ((k : ℕ) → 0 < k → k ≤ made → (d : View E C) × (get_elem? vs (seat_of k) ≡ some d) × Numbers d.role d.back k)
      → (k : ℕ) → 0 < k → k ≤ made → (d : View E C) × (get_elem? (set vs me w) (seat_of k) ≡ some d) × Numbers d.role d.back k
  numbers_stay seat_of made vs me v w at same each k a b = let d = each k a b in dite (ℕ_discrete (seat_of k) me)
      (λ e. let is : d.0 ≡ v = some-injective d.0 v (sym d.1 ∙ (ap (get_elem? vs) e ∙ at)) in
      (w, ap (get_elem? (set vs me w)) e ∙ set_here vs me w (inside vs me v at), same k (subst (λ (u : View E C). Numbers u.role u.back k) is d.2)))
      (λ other. (d.0, set_else vs me (seat_of k) w other ∙ d.1, d.2))

  pub at_end : (l : List (View E C)) (a b : View E C) (j : ℕ) → get_elem? (l ++ a ∷ []) j ≡ some b → (get_elem? l j ≡ some b) ⊎ ((j ≡ length l) × (a ≡ b))
  at_end [] a b zero e = inr (refl, some-injective a b e)
  at_end [] a b (suc j) e = absurd (some-ne-none b (sym e))
  at_end (x ∷ xs) a b zero e = inl e
  at_end (x ∷ xs) a b (suc j) e = ⊎_elim inl (λ t. inr (ap suc t.0, t.1)) (at_end xs a b j e)

  -- what holds of each view after a split
  pub splits_stay : (K : ℕ → View E C → Type 0) (vs : List (View E C)) (me : ℕ) (left right : View E C) → K me left →
      ((j : ℕ) (d : View E C) → j ≢ me → get_elem? vs j ≡ some d → K j d) → K (length vs) right
      → (j : ℕ) (d : View E C) → get_elem? (set vs me left ++ right ∷ []) j ≡ some d → K j d
  splits_stay K vs me left right mine others new j d e = ⊎_elim (λ a. seats_stay K vs me left mine others j d a)
      (λ (t : (j ≡ length (set vs me left)) × (right ≡ d)). subst (λ (z : ℕ × View E C). K z.0 z.1) (λ i. ((sym (length-set vs me left) ∙ sym t.0) i, t.1 i)) new)
      (at_end (set vs me left) right d j e)

  -- and after a join
  pub joins_stay : (K : ℕ → View E C → Type 0) (vs : List (View E C)) (me other : ℕ) (both left : View E C) → K me both →
      ((j : ℕ) (d : View E C) → j ≢ me → get_elem? vs j ≡ some d → K j d) → K other left
      → (j : ℕ) (d : View E C) → get_elem? (set (set vs me both) other left) j ≡ some d → K j d
  joins_stay K vs me other both left mine others last = seats_stay K (set vs me both) other left last (λ j d _. seats_stay K vs me both mine others j d)
