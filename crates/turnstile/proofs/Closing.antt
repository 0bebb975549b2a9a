-- What the value is, once all seats came back.
use Rattle.std.proofs.Common.{◌≡◌, ℕ, ◌<◌, ◌≤◌, List, length, set, sym, refl, ap, ◌∙◌, subst, arith, Option, Some, None}
use Rattle.std.proofs.lemmas.List.Elements.{All-weaker}
use Rattle.std.specs.Option.{IsSome}
use mathlib.Core.Logic.{dite}
use mathlib.Core.Option.{some, some-injective}
use native.Mathlib.Decide.{ℕ_discrete}
use lib.ListN.{get_elem?}
use Rattle.atomic_table.specs.Table.{State, Me, Final, Seen}
use Rattle.turnstile.specs.declared.view.Stage.{Stage}
use Rattle.turnstile.specs.declared.view.Stage.TheVariants.{Idle, Waiting, InTurn}
use Rattle.turnstile.specs.declared.view.Role.{Role}
use Rattle.turnstile.specs.declared.view.Role.TheVariants.{Note, Seat, Root}
use Rattle.turnstile.specs.declared.view.View.{View}
use Rattle.turnstile.specs.declared.view.Returned.{Returned}
use Rattle.turnstile.specs.Histories.{GoesOn, NoneAbove}
use Rattle.std.specs.Prelude.{false}
use Rattle.atomic_table.specs.Seated.{TableId}
use Rattle.turnstile.specs.Models.{RootModel, is_in_turn, EachCameBack, GoesOnForEach}
use Rattle.turnstile.specs.Tells.{Holds}
use Rattle.turnstile.proofs.Stages.{is_idle}
use Rattle.turnstile.specs.Tickets.{total, Numbers, has_turn, counts_if, numbered, turning, IsNumbered, Saw, Kept}
use Rattle.turnstile.proofs.Totals.{total_set, total_le, total_two}
use Rattle.turnstile.proofs.Views.{counts_le}

module _ {T E C : Type 0} (by : E → ℕ) (entries : T → List E) (setting : T → C) (c : C) where
  abbrev V : Type 0
  V = View E C

  abbrev St : Type 0
  St = State (Option T) V

  abbrev M : Type 0
  M = Me (Option T) V

  abbrev Rule : St → Type 0
  Rule = Kept by entries setting c

  -- the only view with a number that is not in its turn: nobody is
  pub nobody_turns : (vs : List V) (i : ℕ) (u : V) → get_elem? vs i ≡ some u → numbered u ≡ 1 → turning u ≡ 0 → total numbered vs ≡ 1 → total turning vs ≡ 0
  nobody_turns vs i u at one idle all =
      let w : V = record u { role = Note } in
      let a = total_set numbered vs i u w at in
      let b = total_set turning vs i u w at in
      let le = total_le turning numbered (λ v. counts_le v.role (has_turn v.stage) 1 (at_most_one v.stage)) (set vs i w) in
      omega arith
    where
      at_most_one : (st : Stage) → has_turn st ≤ 1
      at_most_one Idle = omega arith
      at_most_one (Waiting t) = omega arith
      at_most_one (InTurn t) = omega arith

  -- What is known of a value and its list: the setting, which is that of the rule, that the list goes on after what the root and each seat that came back have seen, and that
  -- nobody else has an entry
  abbrev pub Ended : Option C → List E → List (Returned E) → ℕ → T → Type 0
  Ended said seen back made x = ((setting x ≡ c) × (said ≡ Some (setting x))) × GoesOn by (entries x) 0 seen × GoesOnForEach by (entries x) back × EachCameBack made back ×
      NoneAbove by made (entries x)

  -- what the value is, once all seats came back
  pub closes : (s : St) (id : ℕ) (v : V) → Rule s → get_elem? s.views id ≡ some v → v.role ≡ Root → v.stage ≡ Idle → v.made ≡ length v.back
      → (x : T) × (get_elem? s.homes 0 ≡ some (some (Some x))) × Ended v.setting v.seen v.back v.made x
  closes s id v r at is idle all =
      let mine = subst (Saw by r.log r.seat_of r.made r.returned id v.seen v.made v.back) is (r.each_list id v at) in
      let one : numbered v ≡ 1 = ap (λ k. counts_if k 1) is in
      let still : turning v ≡ 0 = (λ i. counts_if (is i) (has_turn (idle i))) in
      let seated = r.seated in
      let in_t = r.in_turn in
      let m = mine.2 in
      let b = mine.3 in
      let alone : total numbered s.views ≡ 1 = omega arith in
      let home_now : r.taken ≡ 0 = sym in_t ∙ nobody_turns s.views id v at one still alone in
      let h = r.home home_now in
      let same : v.made ≡ r.made = m in (
        h.0,
        h.1,
        (
          (h.3, (r.each_setting id v at).0 (subst IsNumbered (sym is) tt) ∙ ap Some (sym h.3)),
          subst (λ l. GoesOn by l 0 v.seen) (sym h.2) mine.0,
          All-weaker (λ (p : Returned E). GoesOn by r.log p.number p.seen × (r.seat_of p.number ≡ id) × (0 < p.number) × (p.number ≤ r.made))
              (λ (p : Returned E). GoesOn by (entries h.0) p.number p.seen)
              (λ p g. subst (λ l. GoesOn by l p.number p.seen) (sym h.2) g.0) v.back mine.4,
          (λ k low high.
              let d = r.each_number k low (omega arith) in
              dite (ℕ_discrete (r.seat_of k) id)
              (λ e. let u : d.0 ≡ v = some-injective d.0 v (sym d.1 ∙ (ap (get_elem? s.views) e ∙ at)) in
              subst (λ (z : Role). Numbers z v.back k) is (subst (λ (z : V). Numbers z.role z.back k) u d.2))
              (λ other. absurd (let two = total_two numbered s.views (r.seat_of k) id d.0 v other d.1 at in let there = numbers_one d.0.role d.0.back k d.2 in omega arith))),
          subst (λ l. NoneAbove by v.made l) (sym h.2) (All-weaker (λ e. by e ≤ r.made) (λ e. by e ≤ v.made) (λ e l. omega arith) r.log r.above),
        ),
      )
    where
      numbers_one : (k : Role) (back : List (Returned E)) (n : ℕ) → Numbers k back n → counts_if k 1 ≡ 1
      numbers_one Note back n h = absurd h
      numbers_one (Seat m) back n h = refl
      numbers_one Root back n h = refl

  -- the same of the table after it was closed
  ends : (ws : List ℕ) (xs : List (Option T)) (id : ℕ) (v : V) (o : Option T) → Final (Seen Rule id v) ws xs → get_elem? xs 0 ≡ some o → v.role ≡ Root → v.stage ≡ Idle →
      v.made ≡ length v.back
      → (x : T) × (o ≡ Some x) × Ended v.setting v.seen v.back v.made x
  ends ws xs id v o f at is idle all = let h = closes f.0 id v f.1.0 f.1.1 is idle all in
      (h.0, some-injective o (Some h.0) (sym at ∙ f.4 0 (Some h.0) h.1), h.2)

  -- what contracts see of the root at this place
  abbrev pub seen_as : TableId → M → RootModel E C
  seen_as table m = record { table = table; in_turn = is_in_turn m.0.stage; seen = m.0.seen; made = m.0.made; back = m.0.back; setting = m.0.setting }

  ends_for : (ws : List ℕ) (xs : List (Option T)) (id : ℕ) (table : TableId) (m : M) (root : RootModel E C) (o : Option T) → seen_as table m ≡ root → m.0.role ≡ Root →
      Holds m.0.stage m.1 → root.in_turn ≡ false → root.made ≡ length root.back
      → Final (Seen Rule id m.0) ws xs → get_elem? xs 0 ≡ some o → (x : T) × (o ≡ Some x) × Ended root.setting root.seen root.back root.made x
  ends_for ws xs id table m root o is root_role holds free all f at =
      let idle = is_idle m.0.stage m.1 holds (ap (λ (r : RootModel E C). r.in_turn) is ∙ free) in
      subst (λ (r : RootModel E C). (x : T) × (o ≡ Some x) × Ended r.setting r.seen r.back r.made x) is
      (ends ws xs id m.0 o f at root_role idle.0 (subst (λ (r : RootModel E C). r.made ≡ length r.back) (sym is) all))

  -- the value lies in the slot
  pub has_value : (ws : List ℕ) (xs : List (Option T)) (id : ℕ) (table : TableId) (m : M) (root : RootModel E C) (o : Option T) → seen_as table m ≡ root → m.0.role ≡ Root →
      Holds m.0.stage m.1 → root.in_turn ≡ false → root.made ≡ length root.back
      → Final (Seen Rule id m.0) ws xs → get_elem? xs 0 ≡ some o → IsSome o
  has_value ws xs id table m root o is root_role holds free all f at = let h = ends_for ws xs id table m root o is root_role holds free all f at in
      subst (λ (p : Option T). IsSome p) (sym h.1) refl

  -- and this is known of it
  pub value_is : (ws : List ℕ) (xs : List (Option T)) (id : ℕ) (table : TableId) (m : M) (root : RootModel E C) (o : Option T) (y : T) → seen_as table m ≡ root → m.0.role ≡ Root →
      Holds m.0.stage m.1 → root.in_turn ≡ false → root.made ≡ length root.back
      → Final (Seen Rule id m.0) ws xs → get_elem? xs 0 ≡ some o → o ≡ Some y → Ended root.setting root.seen root.back root.made y
  value_is ws xs id table m root o y is root_role holds free all f at is_some =
      let h = ends_for ws xs id table m root o is root_role holds free all f at in subst (Ended root.setting root.seen root.back root.made) (some_value (sym h.1 ∙ is_some)) h.2
    where
      some_value : {x z : T} → ◌≡◌ {A = Option T} (Some x) (Some z) → x ≡ z
      some_value {x} {z} p = ap (λ (q : Option T). elim q [ None ↦ x | Some w ↦ w ]) p
