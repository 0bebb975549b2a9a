-- A note that a seat writes, one that a seat reads, and the look by which it sees what it was told keep the rule.
use Rattle.std.proofs.Common.{◌≡◌, ℕ, List, [], ◌∷◌, set, sym, refl, ap, ◌∙◌, subst, arith, Option, Some}
use mathlib.Core.Option.{none, some}
use lib.ListN.{get_elem?}
use lib.Seq.{set-get_or}
use Rattle.atomic_table.specs.Table.{State, Me, step, keeps, Allows, Splits, Joins}
use Rattle.atomic_table.proofs.Lists.{set_else, at_longer}
use Rattle.turnstile.specs.declared.view.Role.{Role}
use Rattle.turnstile.specs.declared.view.Role.TheVariants.{Note}
use Rattle.turnstile.specs.declared.view.View.{View}
use Rattle.turnstile.specs.Histories.{Begins, NoneAbove, longer}
use Rattle.turnstile.specs.Tickets.{Numbers, queues, has_turn, counts_if, numbered, queued, turning, number_of, IsNumbered, HasSetting, Saw, Queues, Kept}
use Rattle.turnstile.specs.Tells.{same_view, note_of, hears, spent, learned, learns}
use Rattle.turnstile.proofs.Beginnings.{above_beginning, begins_with, longer_begins, longer_left, longer_right, goes_between}
use Rattle.turnstile.proofs.Totals.{total_set, total_push, total_here}
use Rattle.turnstile.proofs.Views.{no_setting, seats_stay, splits_stay, joins_stay, numbers_stay, own_seat, saw_longer, saw_begins, queues_longer, counts_one}

module _ {T E C : Type 0} (by : E → ℕ) (entries : T → List E) (setting : T → C) (c : C) where
  abbrev V : Type 0
  V = View E C

  abbrev St : Type 0
  St = State (Option T) V

  abbrev M : Type 0
  M = Me (Option T) V

  abbrev Rule : St → Type 0
  Rule = Kept by entries setting c

  -- a seat writes a note
  pub writes_note : (id : ℕ) (v : V) → Splits Rule id v (same_view v) (note_of v)
  writes_note id v s r at =
      let right : V = note_of v in
      let q = total_set queued s.views id v v at in
      let u = total_set turning s.views id v v at in
      let m = total_set numbered s.views id v v at in
      let q' = total_push queued (set s.views id v) right in
      let u' = total_push turning (set s.views id v) right in
      let m' = total_push numbered (set s.views id v) right in
      let in_q = r.in_queue in
      let in_t = r.in_turn in
      let seated = r.seated in
      record {
        next = r.next;
        serving = r.serving;
        taken = r.taken;
        made = r.made;
        returned = r.returned;
        log = r.log;
        holder = r.holder;
        seat_of = r.seat_of;
        wide = r.wide;
        deep = r.deep;
        next_is = r.next_is;
        serving_is = r.serving_is;
        few = r.few;
        in_queue = omega arith;
        in_turn = omega arith;
        seated = omega arith;
        each_number = λ k low high. let d = numbers_stay r.seat_of r.made s.views id v v at (λ _ h. h) r.each_number k low high in
            (d.0, at_longer (set s.views id v) (right ∷ []) (r.seat_of k) d.0 d.1, d.2);
        above = r.above;
        home = r.home;
        each_setting = splits_stay (λ j d. HasSetting c d) s.views id v right (r.each_setting id v at) (λ j d _. r.each_setting j d)
            ((λ none. absurd none), (r.each_setting id v at).1, no_setting c);
        each_list = splits_stay (λ j d. Saw by r.log r.seat_of r.made r.returned j d.seen d.made d.back d.role) s.views id v right (r.each_list id v at) (λ j d _. r.each_list j d)
            (saw_begins by r.log r.seat_of r.made r.returned id v.seen v.made v.back v.role (r.each_list id v at));
        each_told = splits_stay (λ j d. Begins r.log d.told) s.views id v right (r.each_told id v at) (λ j d _. r.each_told j d) (r.log, refl);
        each_stage = splits_stay (λ j d. Queues r.log j r.next r.serving r.taken r.holder d.seen d.stage) s.views id v right (r.each_stage id v at) (λ j d _. r.each_stage j d) tt;
      }

  -- a seat reads a note
  pub reads_note : (id : ℕ) (v : V) (other : ℕ) (w : V) → w.role ≡ Note → Joins Rule id v other w (hears v w) spent
  reads_note id v other w note s r at apart there =
      let w' : V = hears v w in
      let vs : List V = set s.views id w' in
      let at_w : get_elem? s.views other ≡ some w = sym (set_else s.views id other w' apart) ∙ there in
      let told : Begins r.log w.seen = subst (Saw by r.log r.seat_of r.made r.returned other w.seen w.made w.back) note (r.each_list other w at_w) in
      let q = total_set queued s.views id v w' at in
      let u = total_set turning s.views id v w' at in
      let m = total_set numbered s.views id v w' at in
      let q1 : queued v ≡ queued w' = refl in
      let u1 : turning v ≡ turning w' = refl in
      let m1 : numbered v ≡ numbered w' = refl in
      let q2 = total_set queued vs other w spent there in
      let u2 = total_set turning vs other w spent there in
      let m2 = total_set numbered vs other w spent there in
      let q3 : queued w ≡ 0 = ap (λ (k : Role). counts_if k (queues w.stage)) note in
      let u3 : turning w ≡ 0 = ap (λ (k : Role). counts_if k (has_turn w.stage)) note in
      let m3 : numbered w ≡ 0 = ap (λ (k : Role). counts_if k 1) note in
      let in_q = r.in_queue in
      let in_t = r.in_turn in
      let seated = r.seated in
      record {
        next = r.next;
        serving = r.serving;
        taken = r.taken;
        made = r.made;
        returned = r.returned;
        log = r.log;
        holder = r.holder;
        seat_of = r.seat_of;
        wide = r.wide;
        deep = r.deep;
        next_is = r.next_is;
        serving_is = r.serving_is;
        few = r.few;
        in_queue = omega arith;
        in_turn = omega arith;
        seated = omega arith;
        each_number = numbers_stay r.seat_of r.made vs other w spent there (λ k h. absurd (subst (λ (z : Role). Numbers z w.back k) note h))
            (numbers_stay r.seat_of r.made s.views id v w' at (λ _ h. h) r.each_number);
        above = r.above;
        home = r.home;
        each_setting = joins_stay (λ j d. HasSetting c d) s.views id other w' spent ((r.each_setting id v at).0, (r.each_setting id v at).1, (r.each_setting other w at_w).1)
            (λ j d _. r.each_setting j d) ((λ none. absurd none), no_setting c, no_setting c);
        each_list = joins_stay (λ j d. Saw by r.log r.seat_of r.made r.returned j d.seen d.made d.back d.role) s.views id other w' spent (r.each_list id v at)
            (λ j d _. r.each_list j d) (r.log, refl);
        each_told = joins_stay (λ j d. Begins r.log d.told) s.views id other w' spent told (λ j d _. r.each_told j d) (r.log, refl);
        each_stage = joins_stay (λ j d. Queues r.log j r.next r.serving r.taken r.holder d.seen d.stage) s.views id other w' spent (r.each_stage id v at)
            (λ j d _. r.each_stage j d) tt;
      }

  -- a look at serving, by which a seat sees what it was told
  pub learns_on : (slots id : ℕ) (me : M) → IsNumbered me.0.role → Allows Rule slots id me 1 (λ n. n) (learns by (step slots 1 0 0 none) me)
  learns_on slots id me has s r _ at _ =
      let v : V = me.0 in
      let w : V = learned v in
      let saw = r.each_list id v at in
      let seen = saw_begins by r.log r.seat_of r.made r.returned id v.seen v.made v.back v.role saw in
      let told = r.each_told id v at in
      let all = longer_begins r.log v.seen v.told seen told in
      let own = own_seat by r.log r.seat_of r.made r.returned id v.seen v.made v.back v.role has saw in
      let left = longer_left v.seen v.told in
      let right = longer_right v.seen v.told in
      let q = total_set queued s.views id v w at in
      let u = total_set turning s.views id v w at in
      let m = total_set numbered s.views id v w at in
      let q1 : queued v ≡ queued w = refl in
      let u1 : turning v ≡ turning w = refl in
      let m1 : numbered v ≡ numbered w = refl in
      let in_q = r.in_queue in
      let in_t = r.in_turn in
      let seated = r.seated in
      let one : numbered v ≡ 1 = counts_one v.role 1 has in
      let some_one = total_here numbered s.views id v at in (
        w,
        keeps,
        tt,
        subst (λ (ws : List ℕ). Rule record { words = ws; homes = s.homes; views = set s.views id w }) (sym (set-get_or s.words 1 0)) record {
          next = r.next;
          serving = r.serving;
          taken = r.taken;
          made = r.made;
          returned = r.returned;
          log = r.log;
          holder = r.holder;
          seat_of = r.seat_of;
          wide = r.wide;
          deep = r.deep;
          next_is = r.next_is;
          serving_is = r.serving_is;
          few = r.few;
          in_queue = omega arith;
          in_turn = omega arith;
          seated = omega arith;
          each_number = numbers_stay r.seat_of r.made s.views id v w at (λ k h. h) r.each_number;
          above = r.above;
          home = r.home;
          each_setting = seats_stay (λ j d. HasSetting c d) s.views id w ((r.each_setting id v at).0, (r.each_setting id v at).1, no_setting c) (λ j d _. r.each_setting j d);
          each_list = seats_stay (λ j d. Saw by r.log r.seat_of r.made r.returned j d.seen d.made d.back d.role) s.views id w
              (saw_longer by r.log r.seat_of r.made r.returned id v.seen (longer v.seen v.told) v.made v.back v.role all left saw) (λ j d _. r.each_list j d);
          each_told = seats_stay (λ j d. Begins r.log d.told) s.views id w (r.log, refl) (λ j d _. r.each_told j d);
          each_stage = seats_stay (λ j d. Queues r.log j r.next r.serving r.taken r.holder d.seen d.stage) s.views id w
              (queues_longer r.log id r.next r.serving r.taken r.holder v.seen (longer v.seen v.told) v.stage all left (r.each_stage id v at)) (λ j d _. r.each_stage j d);
        },
        (
          refl,
          goes_between by r.log v.seen (longer v.seen v.told) (number_of v.role) own.1 all left,
          begins_with r.log v.told (longer v.seen v.told) told all right,
          (λ is. let root = subst (Saw by r.log r.seat_of r.made r.returned id v.seen v.made v.back) is saw in let a = root.2 in let b = root.3 in omega arith),
          (λ is. let root = subst (Saw by r.log r.seat_of r.made r.returned id v.seen v.made v.back) is saw in
              subst (λ m. NoneAbove by m (longer v.seen v.told)) (sym root.2) (above_beginning by r.made r.log (longer v.seen v.told) all r.above)),
          (λ x is. (r.each_setting id v at).0 has ∙ ap Some (sym ((r.each_setting id v at).2 x is))),
        ),
      )
