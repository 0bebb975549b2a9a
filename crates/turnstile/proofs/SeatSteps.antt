-- A new turnstile meets the rule, and making a seat and taking one back keep it.
use Rattle.std.proofs.Common.{◌≡◌, ◌≢◌, ℕ, zero, suc, ◌+◌, ◌<◌, ◌≤◌, List, [], ◌∷◌, ◌++◌, length, set, sym, refl, ap, ◌∙◌, subst, ⊎_elim, arith, Option, Some, length-set}
use Rattle.std.proofs.Common.{length-append}
use Rattle.std.proofs.lemmas.List.Elements.{All-nil, All-push, All-weaker, All-tail, Contains-push, Contains-append_left}
use Rattle.std.specs.Prelude.{All, replicate}
use mathlib.Core.Logic.{dite}
use mathlib.Core.Option.{some, some-injective, some-ne-none}
use native.Mathlib.Decide.{ℕ_discrete}
use lib.ListN.{get_elem?}
use Rattle.atomic_table.specs.Table.{State, Me, opening, Splits, Joins}
use Rattle.atomic_table.proofs.Lists.{at_set, set_here, set_else, at_last, at_longer}
use Rattle.turnstile.specs.declared.view.Stage.TheVariants.{Idle}
use Rattle.turnstile.specs.declared.view.Role.{Role}
use Rattle.turnstile.specs.declared.view.Role.TheVariants.{Note, Seat, Root}
use Rattle.turnstile.specs.declared.view.View.{View}
use Rattle.turnstile.specs.declared.view.Returned.{Returned}
use Rattle.turnstile.specs.Histories.{NoneBy, GoesOn, Begins}
use Rattle.turnstile.specs.Models.{handed_back}
use Rattle.turnstile.specs.Tickets.{Numbers, queues, has_turn, counts_if, numbered, queued, turning, number_of, IsNumbered, HasSetting, Saw, Queues, Kept, root_of}
use Rattle.turnstile.specs.Tells.{one_more, newcomer, takes_in, spent}
use Rattle.turnstile.proofs.Totals.{total_set, total_push}
use Rattle.coflow_units.proofs.Changes.{put, put_here, put_else}
use Rattle.turnstile.proofs.Views.{no_setting, some_same, seats_stay, splits_stay, numbers_stay, inside}

module _ {T E C : Type 0} (by : E → ℕ) (entries : T → List E) (setting : T → C) (c : C) where
  abbrev V : Type 0
  V = View E C

  abbrev St : Type 0
  St = State (Option T) V

  abbrev M : Type 0
  M = Me (Option T) V

  abbrev Rule : St → Type 0
  Rule = Kept by entries setting c

  pub only : (P : ℕ → V → Type 0) (w : V) → P 0 w → (j : ℕ) (v : V) → get_elem? (w ∷ []) j ≡ some v → P j v
  only P w h zero v e = subst (P 0) (some-injective w v e) h
  only P w h (suc j) v e = absurd (some-ne-none v (sym e))

  pub starts : (x : T) → entries x ≡ [] → setting x ≡ c → Rule (opening (replicate 66 0) (Some x ∷ []) (root_of c))
  starts x empty is = record {
    next = 0;
    serving = 0;
    taken = 0;
    made = 0;
    log = [];
    holder = λ _. 0;
    seat_of = λ _. 0;
    wide = refl;
    deep = refl;
    next_is = refl;
    serving_is = refl;
    few = omega arith;
    in_queue = refl;
    in_turn = refl;
    returned = 0;
    each_number = λ k a b. absurd (omega arith);
    seated = refl;
    above = All-nil (λ e. by e ≤ 0);
    home = λ _. (x, refl, empty, is);
    each_setting = only (λ j d. HasSetting c d) (root_of c) ((λ _. refl), (λ x e. some_same (sym e)), no_setting c);
    each_list = only (λ j d. Saw by [] (λ _. 0) 0 0 j d.seen d.made d.back d.role) (root_of c)
        (([], refl, All-nil (λ e. by e ≢ 0)), refl, refl, refl, All-nil (λ (p : Returned E). GoesOn by [] p.number p.seen × (0 ≡ 0) × (0 < p.number) × (p.number ≤ 0)));
    each_told = only (λ j d. Begins [] d.told) (root_of c) ([], refl);
    each_stage = only (λ j d. Queues [] j 0 0 0 (λ _. 0) d.seen d.stage) (root_of c) tt;
  }

  -- what a view has seen, where the root makes a seat
  pub saw_newcomer : (log : List E) (seat_of : ℕ → ℕ) (made returned new j : ℕ) (seen : List E) (own : ℕ) (back : List (Returned E)) (role : Role) → role ≢ Root →
      Saw by log seat_of made returned j seen own back role
      → Saw by log (put seat_of (made + 1) new) (made + 1) returned j seen own back role
  saw_newcomer log seat_of made returned new j seen own back Note other h = h
  saw_newcomer log seat_of made returned new j seen own back (Seat number) other h = let a = h.3 in
      (h.0, put_else seat_of (made + 1) new number (λ e. omega arith) ∙ h.1, h.2, omega arith)
  saw_newcomer log seat_of made returned new j seen own back Root other h = absurd (other refl)

  pub root_makes : (log : List E) (seat_of : ℕ → ℕ) (made returned new j : ℕ) (seen : List E) (own : ℕ) (back : List (Returned E)) →
      Saw by log seat_of made returned j seen own back Root
      → Saw by log (put seat_of (made + 1) new) (made + 1) returned j seen (own + 1) back Root
  root_makes log seat_of made returned new j seen own back h = let same = h.2 in (
    h.0,
    put_else seat_of (made + 1) new 0 (λ e. omega arith) ∙ h.1,
    omega arith,
    h.3,
    All-weaker (λ (p : Returned E). GoesOn by log p.number p.seen × (seat_of p.number ≡ j) × (0 < p.number) × (p.number ≤ made))
        (λ (p : Returned E). GoesOn by log p.number p.seen × (put seat_of (made + 1) new p.number ≡ j) × (0 < p.number) × (p.number ≤ made + 1))
        (λ p g. let a = g.3 in (g.0, put_else seat_of (made + 1) new p.number (λ e. omega arith) ∙ g.1, g.2, omega arith)) back h.4,
  )

  pub all_rest : (P : E → Type 0) (xs ys : List E) → All P (xs ++ ys) → All P ys
  all_rest P [] ys h = h
  all_rest P (x ∷ xs) ys h = all_rest P xs ys (All-tail P x (xs ++ ys) h)

  -- and the new seat has the next number
  pub more_numbers : (seat_of : ℕ → ℕ) (made : ℕ) (vs : List V) (me : ℕ) (v : V) → get_elem? vs me ≡ some v → v.role ≡ Root → v.made ≡ made
      → ((k : ℕ) → 0 < k → k ≤ made → (d : V) × (get_elem? vs (seat_of k) ≡ some d) × Numbers d.role d.back k)
      → (k : ℕ) → 0 < k → k ≤ made + 1
      → (d : V) × (get_elem? (set vs me (one_more v) ++ newcomer v ∷ []) (put seat_of (made + 1) (length vs) k) ≡ some d) × Numbers d.role d.back k
  more_numbers seat_of made vs me v at is same each k a b = dite (ℕ_discrete k (made + 1))
      (λ e. (
        newcomer v,
        ap (get_elem? (set vs me (one_more v) ++ newcomer v ∷ [])) (ap (put seat_of (made + 1) (length vs)) e ∙ put_here seat_of (made + 1) (length vs))
            ∙ at_last (set vs me (one_more v)) (newcomer v) (length vs) (length-set vs me (one_more v)),
        omega arith,
      ))
      (λ other. let d = numbers_stay seat_of made vs me v (one_more v) at (λ _ h. h) each k a (omega arith) in (
        d.0,
        ap (get_elem? (set vs me (one_more v) ++ newcomer v ∷ [])) (put_else seat_of (made + 1) (length vs) k other)
            ∙ at_longer (set vs me (one_more v)) (newcomer v ∷ []) (seat_of k) d.0 d.1,
        d.2,
      ))

  pub makes_seat : (id : ℕ) (v : V) → v.role ≡ Root → v.made < 4294967295 → Splits Rule id v (one_more v) (newcomer v)
  makes_seat id v is room s r at =
      let n : ℕ = length s.views in
      let left : V = one_more v in
      let right : V = newcomer v in
      let mine = subst (Saw by r.log r.seat_of r.made r.returned id v.seen v.made v.back) is (r.each_list id v at) in
      let seats' : ℕ → ℕ = put r.seat_of (r.made + 1) n in
      let own = mine.2 in
      let q = total_set queued s.views id v left at in
      let u = total_set turning s.views id v left at in
      let m = total_set numbered s.views id v left at in
      let q' = total_push queued (set s.views id left) right in
      let u' = total_push turning (set s.views id left) right in
      let m' = total_push numbered (set s.views id left) right in
      let q1 : queued v ≡ queued left = refl in
      let u1 : turning v ≡ turning left = refl in
      let m1 : numbered v ≡ numbered left = refl in
      let in_q = r.in_queue in
      let in_t = r.in_turn in
      let seated = r.seated in
      let few = r.few in
      let same : v.made ≡ r.made = own in
      let none_new : NoneBy by (r.made + 1) mine.0.0 = All-weaker (λ e. by e ≤ r.made) (λ e. by e ≢ r.made + 1) (λ e l h. omega arith) mine.0.0
      (all_rest (λ e. by e ≤ r.made) v.seen mine.0.0 (subst (All (λ e. by e ≤ r.made)) mine.0.1 r.above)) in
      record {
        next = r.next;
        serving = r.serving;
        taken = r.taken;
        made = r.made + 1;
        returned = r.returned;
        each_number = more_numbers r.seat_of r.made s.views id v at is same r.each_number;
        log = r.log;
        holder = r.holder;
        seat_of = seats';
        wide = r.wide;
        deep = r.deep;
        next_is = r.next_is;
        serving_is = r.serving_is;
        few = omega arith;
        in_queue = omega arith;
        in_turn = omega arith;
        seated = omega arith;
        above = All-weaker (λ e. by e ≤ r.made) (λ e. by e ≤ r.made + 1) (λ e l. omega arith) r.log r.above;
        home = r.home;
        each_setting = splits_stay (λ j d. HasSetting c d) s.views id left right (r.each_setting id v at) (λ j d _. r.each_setting j d)
            ((λ _. (r.each_setting id v at).0 (subst IsNumbered (sym is) tt)), (r.each_setting id v at).1, no_setting c);
        each_list = splits_stay (λ j d. Saw by r.log seats' (r.made + 1) r.returned j d.seen d.made d.back d.role) s.views id left right
            (subst (Saw by r.log seats' (r.made + 1) r.returned id v.seen (v.made + 1) v.back) (sym is)
            (root_makes r.log r.seat_of r.made r.returned n id v.seen v.made v.back mine))
            (λ j d other e. saw_newcomer r.log r.seat_of r.made r.returned n j d.seen d.made d.back d.role
            (λ root. other (sym (subst (Saw by r.log r.seat_of r.made r.returned j d.seen d.made d.back) root (r.each_list j d e)).1 ∙ mine.1)) (r.each_list j d e))
            (subst (λ (z : ℕ). Saw by r.log seats' (r.made + 1) r.returned n v.seen 0 [] (Seat (z + 1))) (sym same)
            ((mine.0.0, mine.0.1, none_new), put_here r.seat_of (r.made + 1) n, omega arith, omega arith));
        each_told = splits_stay (λ j d. Begins r.log d.told) s.views id left right (r.each_told id v at) (λ j d _. r.each_told j d) (r.log, refl);
        each_stage = splits_stay (λ j d. Queues r.log j r.next r.serving r.taken r.holder d.seen d.stage) s.views id left right
            (r.each_stage id v at) (λ j d _ e. r.each_stage j d e) tt;
      }

  -- what another has seen, where the root takes a seat back
  pub saw_back : (log : List E) (seat_of : ℕ → ℕ) (made returned k id j : ℕ) (seen : List E) (own : ℕ) (back : List (Returned E)) (role : Role) → role ≢ Root → seat_of k ≢ j
      → Saw by log seat_of made returned j seen own back role → Saw by log (put seat_of k id) made (returned + 1) j seen own back role
  saw_back log seat_of made returned k id j seen own back Note plain other h = h
  saw_back log seat_of made returned k id j seen own back (Seat number) plain other h = (h.0, put_else seat_of k id number (λ e. other (ap seat_of (sym e) ∙ h.1)) ∙ h.1, h.2, h.3)
  saw_back log seat_of made returned k id j seen own back Root plain other h = absurd (plain refl)

  -- the root takes a seat back
  pub takes_in_on : (id : ℕ) (v : V) (other : ℕ) (w : V) (k : ℕ) → v.role ≡ Root → w.role ≡ Seat k → w.stage ≡ Idle → Joins Rule id v other w (takes_in v w) spent
  takes_in_on id v other w k is seat idle s r at apart there =
      let w' : V = takes_in v w in
      let vs : List V = set s.views id w' in
      let at_w : get_elem? s.views other ≡ some w = sym (set_else s.views id other w' apart) ∙ there in
      let saw_v = subst (Saw by r.log r.seat_of r.made r.returned id v.seen v.made v.back) is (r.each_list id v at) in
      let saw_w = subst (Saw by r.log r.seat_of r.made r.returned other w.seen w.made w.back) seat (r.each_list other w at_w) in
      let seats' : ℕ → ℕ = put r.seat_of k id in
      let number_is : number_of w.role ≡ k = ap number_of seat in
      let q = total_set queued s.views id v w' at in
      let u = total_set turning s.views id v w' at in
      let m = total_set numbered s.views id v w' at in
      let q1 : queued v ≡ queued w' = refl in
      let u1 : turning v ≡ turning w' = refl in
      let m1 : numbered v ≡ numbered w' = refl in
      let q2 = total_set queued vs other w spent there in
      let u2 = total_set turning vs other w spent there in
      let m2 = total_set numbered vs other w spent there in
      let q3 : queued w ≡ 0 = (λ i. counts_if (seat i) (queues (idle i))) in
      let u3 : turning w ≡ 0 = (λ i. counts_if (seat i) (has_turn (idle i))) in
      let m3 : numbered w ≡ 1 = (λ i. counts_if (seat i) 1) in
      let in_q = r.in_queue in
      let in_t = r.in_turn in
      let seated = r.seated in
      let same_seat : r.seat_of k ≡ other = saw_w.1 in
      let positive = saw_w.2 in
      let P : Returned E → Type 0 = λ p. GoesOn by r.log p.number p.seen × (seats' p.number ≡ id) × (0 < p.number) × (p.number ≤ r.made) in
      let old : All P v.back = All-weaker (λ (p : Returned E). GoesOn by r.log p.number p.seen × (r.seat_of p.number ≡ id) × (0 < p.number) × (p.number ≤ r.made)) P
      (λ p g. (g.0, put_else r.seat_of k id p.number (λ e. apart (sym same_seat ∙ (ap r.seat_of (sym e) ∙ g.1))) ∙ g.1, g.2, g.3)) v.back saw_v.4 in
      let new : P (handed_back k w.seen) = (saw_w.0, put_here r.seat_of k id, saw_w.2, saw_w.3) in
      let count = saw_v.3 in
      let mine : Saw by r.log seats' r.made (r.returned + 1) id v.seen v.made w'.back Root = (
        saw_v.0,
        put_else r.seat_of k id 0 (λ e. omega arith) ∙ saw_v.1,
        saw_v.2,
        length-append v.back (handed_back (number_of w.role) w.seen ∷ []) ∙ omega arith,
        All-push P v.back (handed_back (number_of w.role) w.seen) old (subst (λ (z : ℕ). P (handed_back z w.seen)) (sym number_is) new),
      ) in
      let here : id < length s.views = inside s.views id v at in
      record {
        next = r.next;
        serving = r.serving;
        taken = r.taken;
        made = r.made;
        returned = r.returned + 1;
        log = r.log;
        holder = r.holder;
        seat_of = seats';
        wide = r.wide;
        deep = r.deep;
        next_is = r.next_is;
        serving_is = r.serving_is;
        few = r.few;
        in_queue = omega arith;
        in_turn = omega arith;
        seated = omega arith;
        above = r.above;
        home = r.home;
        each_number = λ n low high. dite (ℕ_discrete n k)
            (λ e. (
              w',
              ap (get_elem? (set vs other spent)) (ap seats' e ∙ put_here r.seat_of k id) ∙ (set_else vs other id spent (λ x. apart (sym x)) ∙ set_here s.views id w' here),
              subst (λ (z : Role). Numbers z w'.back n) (sym is) (
                handed_back (number_of w.role) w.seen,
                Contains-push v.back (handed_back (number_of w.role) w.seen),
                number_is ∙
                    sym e,
              ),
            ))
            (λ differs. let d = r.each_number n low high in let place : seats' n ≡ r.seat_of n = put_else r.seat_of k id n differs in dite (ℕ_discrete (r.seat_of n) id)
            (λ e. let u : d.0 ≡ v = some-injective d.0 v (sym d.1 ∙ (ap (get_elem? s.views) e ∙ at)) in
            let has = subst (λ (z : Role). Numbers z v.back n) is (subst (λ (z : V). Numbers z.role z.back n) u d.2) in (
              w',
              ap (get_elem? (set vs other spent)) (place ∙ e) ∙ (set_else vs other id spent (λ x. apart (sym x)) ∙ set_here s.views id w' here),
              subst (λ (z : Role). Numbers z w'.back n) (sym is) (has.0, Contains-append_left v.back (handed_back (number_of w.role) w.seen ∷ []) has.0 has.1, has.2),
            ))
            (λ not_me. dite (ℕ_discrete (r.seat_of n) other)
            (λ e. let u : d.0 ≡ w = some-injective d.0 w (sym d.1 ∙ (ap (get_elem? s.views) e ∙ at_w)) in
            let same : k ≡ n = subst (λ (z : Role). Numbers z w.back n) seat (subst (λ (z : V). Numbers z.role z.back n) u d.2) in absurd (differs (sym same)))
            (λ not_it. (
              d.0,
              ap (get_elem? (set vs other spent)) place ∙ (set_else vs other (r.seat_of n) spent not_it ∙ (set_else s.views id (r.seat_of n) w' not_me ∙ d.1)),
              d.2,
            ))));
        each_setting = seats_stay (λ j d. HasSetting c d) vs other spent ((λ n. absurd n), no_setting c, no_setting c)
            (λ j d _. seats_stay (λ j d. HasSetting c d) s.views id w' ((r.each_setting id v at).0, (r.each_setting id v at).1, (r.each_setting other w at_w).1)
            (λ i x _. r.each_setting i x) j d);
        each_list = seats_stay (λ j d. Saw by r.log seats' r.made (r.returned + 1) j d.seen d.made d.back d.role) vs other spent (r.log, refl)
            (λ j d not_it e. ⊎_elim
            (λ (t : (j ≡ id) × (w' ≡ d)). subst (λ (x : ℕ × V). Saw by r.log seats' r.made (r.returned + 1) x.0 x.1.seen x.1.made x.1.back x.1.role) (λ i. (sym t.0 i, t.1 i))
            (subst (Saw by r.log seats' r.made (r.returned + 1) id v.seen v.made w'.back) (sym is) mine))
            (λ (t : (j ≢ id) × (get_elem? s.views j ≡ some d)). let saw = r.each_list j d t.1 in saw_back r.log r.seat_of r.made r.returned k id j d.seen d.made d.back d.role
            (λ root. t.0 (sym (subst (Saw by r.log r.seat_of r.made r.returned j d.seen d.made d.back) root saw).1 ∙ saw_v.1)) (λ x. not_it (sym x ∙ same_seat)) saw)
            (at_set s.views id j w' d e));
        each_told = seats_stay (λ j d. Begins r.log d.told) vs other spent (r.log, refl)
            (λ j d _. seats_stay (λ j d. Begins r.log d.told) s.views id w' (saw_w.0.0, saw_w.0.1) (λ i x _. r.each_told i x) j d);
        each_stage = seats_stay (λ j d. Queues r.log j r.next r.serving r.taken r.holder d.seen d.stage) vs other spent tt
            (λ j d _. seats_stay (λ j d. Queues r.log j r.next r.serving r.taken r.holder d.seen d.stage) s.views id w' (r.each_stage id v at) (λ i x _. r.each_stage i x) j d);
      }
