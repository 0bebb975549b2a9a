-- Taking a ticket, looking at what is served, and leaving keep the rule.
use Rattle.std.proofs.Common.{◌≡◌, ◌≢◌, ◌⊎◌, ℕ, ◌+◌, ◌%◌, ◌≤◌, List, [], ◌∷◌, ◌++◌, length, get_or, set, sym, refl, ap, ◌∙◌, subst, ⊎_elim, arith, Option, Some, None, length-set}
use Rattle.std.proofs.Common.{get_or-set_other, get_or-set_same}
use Rattle.std.proofs.lemmas.List.{append-nil}
use Rattle.std.proofs.lemmas.List.Elements.{All-nil, All-push, All-append}
use Rattle.std.specs.Prelude.{All}
use mathlib.Core.Logic.{dite}
use mathlib.Core.Option.{none, some, some-injective, some-ne-none}
use mathlib.Core.Option as maybe
use native.Mathlib.Decide.{ℕ_discrete}
use lib.ListN.{get_elem?}
use lib.Seq.{set-get_or}
use Rattle.atomic_table.specs.Table.{State, Me, step, keeps, takes, gives, put_back, rest, Allows}
use Rattle.atomic_table.proofs.Lists.{set_here, set_again, one_turn}
use Rattle.turnstile.specs.declared.view.Stage.{Stage}
use Rattle.turnstile.specs.declared.view.Stage.TheVariants.{Idle, Waiting, InTurn}
use Rattle.turnstile.specs.declared.view.View.{View}
use Rattle.turnstile.specs.Histories.{NoneBy, GoesOn, Begins, NoneAbove}
use Rattle.turnstile.specs.Tickets.{queues, has_turn, counts_if, numbered, queued, turning, number_of, IsNumbered, IsRoot, HasSetting, Saw, Queues, Kept}
use Rattle.turnstile.specs.Tells.{takes_ticket, looks, MayLeave, leaves}
use Rattle.turnstile.proofs.Beginnings.{begins_on, goes_on}
use Rattle.turnstile.proofs.Totals.{total_set}
use Rattle.coflow_units.proofs.Changes.{put, put_here}
use Rattle.turnstile.proofs.Views.{some_same, ticket, counts_one, seats_stay, few_queued, few_turning, others_wait, others_next, others_queue, others_saw, saw_all, own_seat}
use Rattle.turnstile.proofs.Views.{numbers_stay}

module _ {T E C : Type 0} (by : E → ℕ) (entries : T → List E) (setting : T → C) (c : C) where
  abbrev V : Type 0
  V = View E C

  abbrev St : Type 0
  St = State (Option T) V

  abbrev M : Type 0
  M = Me (Option T) V

  abbrev Rule : St → Type 0
  Rule = Kept by entries setting c

  pub idle_queue : (log : List E) (j next serving taken : ℕ) (holder : ℕ → ℕ) (seen : List E) (st : Stage) → st ≡ Idle → Queues log j next serving taken holder seen st
  idle_queue log j next serving taken holder seen st is = subst (Queues log j next serving taken holder seen) (sym is) tt

  pub takes_one : (slots id : ℕ) (me : M) → IsNumbered me.0.role → me.0.stage ≡ Idle
      → Allows Rule slots id me 0 (λ n. (n + 1) % 18446744073709551616) (takes_ticket (step slots 0 1 0 none) me)
  takes_one slots id me has idle s r _ at _ =
      let v : V = me.0 in
      let w : V = record v { stage = Waiting r.next } in
      let wide = r.wide in
      let q = total_set queued s.views id v w at in
      let qv : queued v ≡ 0 = ap (λ st. counts_if v.role (queues st)) idle ∙ counts_one v.role 0 has in
      let qw : queued w ≡ 1 = counts_one v.role 1 has in
      let u = total_set turning s.views id v w at in
      let uv : turning v ≡ 0 = ap (λ st. counts_if v.role (has_turn st)) idle ∙ counts_one v.role 0 has in
      let uw : turning w ≡ 0 = counts_one v.role 0 has in
      let m = total_set numbered s.views id v w at in
      let in_q = r.in_queue in
      let in_t = r.in_turn in
      let seated = r.seated in
      let n_is = r.next_is in
      let before : r.serving ≤ r.next = omega arith in (
        w,
        keeps,
        tt,
        record {
          next = r.next + 1;
          serving = r.serving;
          taken = r.taken;
          made = r.made;
          returned = r.returned;
          each_number = numbers_stay r.seat_of r.made s.views id v w at (λ k h. h) r.each_number;
          log = r.log;
          holder = put r.holder r.next id;
          seat_of = r.seat_of;
          wide = length-set s.words 0 _ ∙ r.wide;
          deep = r.deep;
          next_is = get_or-set_same s.words 0 _ 0 (omega arith) ∙ omega arith;
          serving_is = get_or-set_other s.words 0 1 _ 0 (λ e. omega arith) ∙ r.serving_is;
          few = r.few;
          in_queue = omega arith;
          in_turn = omega arith;
          seated = omega arith;
          above = r.above;
          home = r.home;
          each_setting = seats_stay (λ j d. HasSetting c d) s.views id w (r.each_setting id v at) (λ j d _. r.each_setting j d);
          each_list = seats_stay (λ j d. Saw by r.log r.seat_of r.made r.returned j d.seen d.made d.back d.role) s.views id w (r.each_list id v at) (λ j d _. r.each_list j d);
          each_told = seats_stay (λ j d. Begins r.log d.told) s.views id w (r.each_told id v at) (λ j d _. r.each_told j d);
          each_stage = seats_stay (λ j d. Queues r.log j (r.next + 1) r.serving r.taken (put r.holder r.next id) d.seen d.stage) s.views id w
              (before, omega arith, put_here r.holder r.next id, (λ e. let t = few_turning s.views in omega arith))
              (λ j d other e. others_queue r.log j r.next r.serving r.taken id r.holder d.seen d.stage other (r.each_stage j d e));
        },
        (r.next, n_is, refl),
      )

  -- what becomes of the words from 2 on tells nothing
  pub marks_on : (slots id word : ℕ) (f : ℕ → ℕ) (me : M) → 2 ≤ word → Allows Rule slots id me word f (λ found m'. m' ≡ me)
  marks_on slots id word f me behind s r _ at _ =
      let n : ℕ = f (get_or s.words word 0) in (
        me.0,
        keeps,
        tt,
        subst (λ (vs : List V). Rule record { words = set s.words word n; homes = s.homes; views = vs }) (sym (set_again s.views id me.0 at)) record {
          next = r.next;
          serving = r.serving;
          taken = r.taken;
          made = r.made;
          returned = r.returned;
          log = r.log;
          holder = r.holder;
          seat_of = r.seat_of;
          wide = length-set s.words word n ∙ r.wide;
          deep = r.deep;
          next_is = get_or-set_other s.words word 0 n 0 (λ e. omega arith) ∙ r.next_is;
          serving_is = get_or-set_other s.words word 1 n 0 (λ e. omega arith) ∙ r.serving_is;
          few = r.few;
          in_queue = r.in_queue;
          in_turn = r.in_turn;
          seated = r.seated;
          each_number = r.each_number;
          above = r.above;
          home = r.home;
          each_setting = r.each_setting;
          each_list = r.each_list;
          each_told = r.each_told;
          each_stage = r.each_stage;
        },
        refl,
      )

  pub looks_on : (slots id : ℕ) (me : M) (t : ℕ) → slots ≡ 1 → IsNumbered me.0.role → me.0.stage ≡ Waiting t
      → Allows Rule slots id me 1 (λ n. n) (looks by entries setting (step slots 1 0 0 none) me)
  looks_on slots id me t one has waits s r _ at _ =
      let v : V = me.0 in
      let found : ℕ = get_or s.words 1 0 in
      let known = subst (Queues r.log id r.next r.serving r.taken r.holder v.seen) waits (r.each_stage id v at) in
      let same_ticket : (u : ℕ) → v.stage ≡ Waiting u → t ≡ u = λ u is. ap ticket (sym waits ∙ is) in
      let served = r.serving_is in
      dite (ℕ_discrete found (t % 18446744073709551616))
      (λ hit.
      let many = few_queued s.views in
      let seated = r.seated in
      let few = r.few in
      let in_q = r.in_queue in
      let a = known.0 in
      let b = known.1 in
      let now : r.serving ≡ t = one_turn r.serving t 18446744073709551616 a (omega arith) (sym served ∙ hit) in
      let home_now = known.3 (sym now) in
      let h = r.home home_now in
      let x : T = h.0 in
      let w : V = record v { stage = InTurn t; seen = entries x } in
      let mine : r.holder r.serving ≡ id = ap r.holder now ∙ known.2 in
      let q = total_set queued s.views id v w at in
      let qv : queued v ≡ 1 = ap (λ st. counts_if v.role (queues st)) waits ∙ counts_one v.role 1 has in
      let qw : queued w ≡ 1 = counts_one v.role 1 has in
      let u = total_set turning s.views id v w at in
      let uv : turning v ≡ 0 = ap (λ st. counts_if v.role (has_turn st)) waits ∙ counts_one v.role 0 has in
      let uw : turning w ≡ 1 = counts_one v.role 1 has in
      let m = total_set numbered s.views id v w at in
      let in_t = r.in_turn in
      let own = own_seat by r.log r.seat_of r.made r.returned id v.seen v.made v.back v.role has (r.each_list id v at) in (
        w,
        takes 0 (Some x),
        h.1,
        subst (λ (ws : List ℕ). Rule record { words = ws; homes = set s.homes 0 none; views = set s.views id w }) (sym (set-get_or s.words 1 0)) record {
          next = r.next;
          serving = r.serving;
          taken = 1;
          made = r.made;
          returned = r.returned;
          each_number = numbers_stay r.seat_of r.made s.views id v w at (λ k h. h) r.each_number;
          log = r.log;
          holder = r.holder;
          seat_of = r.seat_of;
          wide = r.wide;
          deep = length-set s.homes 0 none ∙ r.deep;
          next_is = r.next_is;
          serving_is = r.serving_is;
          few = r.few;
          in_queue = omega arith;
          in_turn = omega arith;
          seated = omega arith;
          above = r.above;
          home = λ e. absurd (omega arith);
          each_setting = seats_stay (λ j d. HasSetting c d) s.views id w (r.each_setting id v at) (λ j d _. r.each_setting j d);
          each_list = seats_stay (λ j d. Saw by r.log r.seat_of r.made r.returned j d.seen d.made d.back d.role) s.views id w
              (subst (λ l. Saw by r.log r.seat_of r.made r.returned id l v.made v.back v.role) (sym h.2)
              (saw_all by r.log r.log r.seat_of r.made r.returned id v.seen v.made v.back v.role (λ k xs _ _ h. h) (r.each_list id v at))) (λ j d _. r.each_list j d);
          each_told = seats_stay (λ j d. Begins r.log d.told) s.views id w (r.each_told id v at) (λ j d _. r.each_told j d);
          each_stage = seats_stay (λ j d. Queues r.log j r.next r.serving 1 r.holder d.seen d.stage) s.views id w
              (sym now, known.1, known.2, refl, h.2)
              (λ j d other e. others_wait r.log j r.next r.serving r.taken id r.holder d.seen d.stage other mine home_now (r.each_stage j d e));
        },
        λ u is. let same = same_ticket u is in let above_all : IsRoot v.role →
            NoneAbove by v.made (entries x) =
            (λ root. subst (NoneAbove by v.made) (sym h.2)
            (subst (λ m. NoneAbove by m r.log) (sym (subst (Saw by r.log r.seat_of r.made r.returned id v.seen v.made v.back) root (r.each_list id v at)).2) r.above)) in (
              (λ _. (
                x,
                (
                  (λ i. (record v { stage = InTurn (same i); seen = entries x }, (0, Some x) ∷ me.1)),
                  (r.each_setting id v at).0 has ∙ ap Some (sym h.3),
                  subst (λ l. GoesOn by l (number_of v.role) v.seen) (sym h.2) own.1,
                  above_all,
                ),
              )),
              (λ no. absurd (no (hit ∙ ap (λ z. z % 18446744073709551616) same))),
            ),
      ))
      (λ miss. (
        v,
        keeps,
        tt,
        subst (λ (z : List ℕ × List V). Rule record { words = z.0; homes = s.homes; views = z.1 }) (λ i. (sym (set-get_or s.words 1 0) i, sym (set_again s.views id v at) i)) r,
        (λ u is. let same = same_ticket u is in ((λ e. absurd (miss (e ∙ ap (λ z. z % 18446744073709551616) (sym same)))), (λ _. refl))),
      ))

  abbrev held : List (ℕ × Option T) → T → T
  held [] d = d
  held (y ∷ ys) d = elim y.1 [ None ↦ d | Some z ↦ z ]

  -- the list that is left is the whole list and no entry, or one, of the seat's own
  pub adds : (log : List E) (seat_of : ℕ → ℕ) (id : ℕ) (v : V) (x : T) → v.seen ≡ log → seat_of (number_of v.role) ≡ id
      → (entries x ≡ v.seen) ⊎ ((e : E) × (by e ≡ number_of v.role) × (entries x ≡ v.seen ++ e ∷ []))
      → (more : List E) × (entries x ≡ log ++ more) × ((k : ℕ) → seat_of k ≢ id → NoneBy by k more) × ((m : ℕ) → number_of v.role ≤ m → All (λ e. by e ≤ m) more) ×
      ((k : ℕ) → k ≢ number_of v.role → NoneBy by k more)
  adds log seat_of id v x whole_seen own may = ⊎_elim
      (λ same. ([], same ∙ (whole_seen ∙ sym (append-nil log)), λ k _. All-nil (λ e. by e ≢ k), λ m _. All-nil (λ e. by e ≤ m), λ k _. All-nil (λ e. by e ≢ k)))
      (λ (one : (e : E) × (by e ≡ number_of v.role) × (entries x ≡ v.seen ++ e ∷ [])). (
        one.0 ∷ [],
        one.2 ∙ ap (λ l. l ++ one.0 ∷ []) whole_seen,
        λ k other. All-push (λ e. by e ≢ k) [] one.0 (All-nil (λ e. by e ≢ k)) (λ is. other (ap seat_of (sym is ∙ one.1) ∙ own)),
        λ m l. All-push (λ e. by e ≤ m) [] one.0 (All-nil (λ e. by e ≤ m)) (let same : by one.0 ≡ number_of v.role = one.1 in omega arith),
        λ k other. All-push (λ e. by e ≢ k) [] one.0 (All-nil (λ e. by e ≢ k)) (λ is. other (sym is ∙ one.1)),
      )) may

  pub leaves_on : (slots id : ℕ) (me : M) (t : ℕ) (x : T) → IsNumbered me.0.role → me.0.stage ≡ InTurn t → me.1 ≡ (0, Some x) ∷ [] → MayLeave by entries setting me.0 x
      → Allows Rule slots id me 1 (λ n. (n + 1) % 18446744073709551616) (leaves entries (step slots 1 1 0 none) me)
  leaves_on slots id me t x has turns holds may s r _ at _ =
      let v : V = me.0 in
      let known = subst (Queues r.log id r.next r.serving r.taken r.holder v.seen) turns (r.each_stage id v at) in
      let own = own_seat by r.log r.seat_of r.made r.returned id v.seen v.made v.back v.role has (r.each_list id v at) in
      let now : t ≡ r.serving = known.0 in
      let mine : r.holder r.serving ≡ id = ap r.holder (sym now) ∙ known.2 in
      let added = adds r.log r.seat_of id v x known.4 own.0 may.1 in
      let more : List E = added.0 in
      let log' : List E = entries x in
      let w : V = record v { stage = Idle; seen = log' } in
      let homes' : List (maybe.Option (Option T)) = put_back s.homes me.1 in
      let back : homes' ≡ set s.homes 0 (some (Some x)) = ap (put_back s.homes) holds in
      let deep = r.deep in
      let wide = r.wide in
      let n_is = r.next_is in
      let s_is = r.serving_is in
      let q = total_set queued s.views id v w at in
      let qv : queued v ≡ 1 = ap (λ st. counts_if v.role (queues st)) turns ∙ counts_one v.role 1 has in
      let qw : queued w ≡ 0 = counts_one v.role 0 has in
      let u = total_set turning s.views id v w at in
      let uv : turning v ≡ 1 = ap (λ st. counts_if v.role (has_turn st)) turns ∙ counts_one v.role 1 has in
      let uw : turning w ≡ 0 = counts_one v.role 0 has in
      let m = total_set numbered s.views id v w at in
      let in_q = r.in_queue in
      let in_t = r.in_turn in
      let seated = r.seated in
      let one : r.taken ≡ 1 = known.3 in (
        w,
        gives,
        tt,
        record {
          next = r.next;
          serving = r.serving + 1;
          taken = 0;
          made = r.made;
          returned = r.returned;
          each_number = numbers_stay r.seat_of r.made s.views id v w at (λ k h. h) r.each_number;
          log = log';
          holder = r.holder;
          seat_of = r.seat_of;
          wide = length-set s.words 1 _ ∙ r.wide;
          deep = ap (λ (h : List (maybe.Option (Option T))). length h) back ∙ (length-set s.homes 0 (some (Some x)) ∙ r.deep);
          next_is = get_or-set_other s.words 1 0 _ 0 (λ e. omega arith) ∙ r.next_is;
          serving_is = get_or-set_same s.words 1 _ 0 (omega arith) ∙ omega arith;
          few = r.few;
          in_queue = omega arith;
          in_turn = omega arith;
          seated = omega arith;
          above = subst (All (λ e. by e ≤ r.made)) (sym added.1) (All-append (λ e. by e ≤ r.made) r.log more r.above (added.3 r.made own.2));
          home = λ _. (
            x,
            ap (λ (h : List (maybe.Option (Option T))). get_elem? h 0) back ∙ set_here s.homes 0 (some (Some x)) (omega arith),
            refl,
            some_same (sym may.0 ∙ (r.each_setting id v at).0 has),
          );
          each_setting = seats_stay (λ j d. HasSetting c d) s.views id w (r.each_setting id v at) (λ j d _. r.each_setting j d);
          each_list = seats_stay (λ j d. Saw by log' r.seat_of r.made r.returned j d.seen d.made d.back d.role) s.views id w
              (saw_all by r.log log' r.seat_of r.made r.returned id v.seen v.made v.back v.role
              (λ k xs root pos h. subst (λ l. GoesOn by l k xs) (sym added.1)
              (goes_on by r.log more k xs (added.4 k (λ e. let z : number_of v.role ≡ 0 = ap number_of root in omega arith)) h)) (r.each_list id v at))
              (λ j d other e. subst (λ l. Saw by l r.seat_of r.made r.returned j d.seen d.made d.back d.role) (sym added.1)
              (others_saw by r.log more r.seat_of r.made r.returned j id (number_of v.role) d.seen d.made d.back d.role other own.0 added.2 (r.each_list j d e)));
          each_told = λ j d e. subst (λ l. Begins l d.told) (sym added.1)
              (begins_on r.log more d.told (seats_stay (λ j d. Begins r.log d.told) s.views id w (r.each_told id v at) (λ j d _. r.each_told j d) j d e));
          each_stage = seats_stay (λ j d. Queues log' j r.next (r.serving + 1) 0 r.holder d.seen d.stage) s.views id w tt
              (λ j d other e. others_next r.log log' j r.next r.serving r.taken id r.holder d.seen d.stage other mine (r.each_stage j d e));
        },
        λ y e. let same : x ≡ y = ap (λ l. held l x) (sym holds ∙ e) in λ i. (record v { stage = Idle; seen = entries (same i) }, rest (holds i)),
      )
