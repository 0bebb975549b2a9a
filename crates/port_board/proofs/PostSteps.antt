-- The poster writes the length of a post, where the count word does not hold it already, and then the post.
use Rattle.std.proofs.Common.{◌≡◌, ◌≢◌, ◌⊎◌, inl, ℕ, ◌+◌, ◌<◌, ◌≤◌, eqb, List, [], ◌∷◌, ◌++◌, get_or, set, sym, refl, ap, ◌∙◌, subst, arith, Option, Some, None}
use Rattle.std.proofs.Common.{true, false, not, length-set, get_or-set_other, get_or-set_same, eq-eqb, ne_eqb}
use Rattle.std.specs.Prelude.{Contains, slice_index}
use Rattle.std.proofs.lemmas.List.Elements.{All-push, All-weaker, All-contains, Contains-push, Contains-append_left}
use Rattle.std.proofs.lemmas.List.Folds.{list_any_none}
use Rattle.std.proofs.lemmas.Bool.{cond-true, cond-false}
use mathlib.Core.Logic.{dite}
use mathlib.Core.Option.{none, some}
use native.Mathlib.Decide.{ℕ_discrete}
use lib.ListN.{get_elem?}
use Rattle.atomic_table.specs.Table.{step, keeps, Allows}
use Rattle.coflow_units.specs.PortWord.{PortStage, word_of, FitsWord, slot_of, flow_of}
use Rattle.coflow_units.specs.PortWord.PortStage.{unposted, granted, drawn, reported, taken_back}
use Rattle.port_board.specs.declared.view.Grant.{Grant}
use Rattle.port_board.specs.declared.view.Settlement.{Settlement}
use Rattle.port_board.specs.declared.view.Step.TheVariants.{Rests, Counted}
use Rattle.port_board.specs.declared.view.View.{View}
use Rattle.port_board.specs.declared.view.Kind.TheVariants.{Poster}
use Rattle.port_board.specs.Views.{grant, report, settlement, number_of, is_of, last_at, last_slot, slot_or_none, is_left, is_unsettled, posted_too, IsHeld}
use Rattle.port_board.specs.Rule.{Cargo, PortOk, grant_at, count_after, stage_after, Posted, Out, Closed, Knows, PosterStep, PosterOk, HasOut, HasDone, Kept}
use Rattle.port_board.specs.Tells.{counts, counted, posts, posts_again}
use Rattle.coflow_units.proofs.PortWords.{IsUnposted, IsGranted, IsDrawn, IsReported, IsTaken, units, slot_of-granted, flow_of-granted}
use Rattle.coflow_units.proofs.Changes.{put, put_here, put_else}
use Rattle.port_board.proofs.Puts.{put2, put2_here, put2_other, put2_cases}
use Rattle.port_board.proofs.Lists.{last_pushed, is_of-false}
use Rattle.port_board.proofs.Stays.{Follows, grant_same, knows_stays, knows_stays_counted}
use Rattle.port_board.proofs.Moves.{St, rebuilt}
use Rattle.port_board.proofs.AgentSteps.{M, goes_same, ports_stay, counts_stay}
use Rattle.port_board.proofs.Agreements.{free_port, last_post}
use Rattle.port_board.proofs.PosterSteps.{one_poster, rests_plain}

module _ (n : ℕ) where
  -- the poster writes the length of the post that it is about to make
  pub measuring : (slots id : ℕ) (me : M) (i p m : ℕ) → me.0.kind ≡ Poster → me.0.step ≡ Rests → is_unsettled p me.0.posts me.0.settled ≡ false → p < n → i ≡ n + p →
      Allows (Kept n) slots id me i (λ _. m) (λ _. counts (step slots i m 0 none) me m)
  measuring slots id me i p m is rests settled_is inside at_count s r _ at _ =
      let v : View = me.0 in
      let k = r.each_seat id v at in
      let h = r.posting id v at is in
      let w : View = record v { step = Counted i m } in
      let free = free_port n s r id v at is p settled_is in
      let wide = r.wide in
      let words' : List ℕ = set s.words (n + p) m in
      let plain : (a b : ℕ) → count_after n v.step a b ≡ b = rests_plain n v.step rests in
      let other_count : (q : ℕ) → q ≢ p → n + q ≢ n + p = λ q other e. other (omega arith) in
      let unwritten : (q a : ℕ) → q ≢ p →
      count_after n (Counted i m) q a ≡ a = λ q a other. cond-false (eqb (n + q) i) m a (ne_eqb (n + q) i (λ e. other_count q other (e ∙ at_count))) in
      let apart : (d : View) (kd : Knows r.cargo r.stage n s.words r.slot d) (g : Grant) → Out r.cargo r.stage (number_of d.kind) g → g.port ≢ p = λ d kd g o e.
      let here = subst (λ (z : ℕ). r.stage z g.slot ≡ drawn (number_of d.kind)) e o.0 in
      let last = (r.each_port p inside).drawn_last g.slot (number_of d.kind) here in
      free.1 (number_of d.kind) (subst (λ (z : ℕ). r.stage p z ≡ drawn (number_of d.kind)) last here) in
      let stays = knows_stays_counted r.cargo r.stage n s.words r.slot p m v (apart v k) k in (
        w,
        keeps,
        tt,
        subst (λ (z : ℕ). Kept n record { words = set s.words z m; homes = s.homes; views = set s.views id w }) (sym at_count)
            (rebuilt n s r id v w at (goes_same v w refl refl refl) words' r.slot r.cargo r.stage (length-set s.words (n + p) m ∙ r.wide)
            (counts_stay n s.words p m r.slot r.cargo r.stage r.wide inside r.each_port free.0) r.beyond
            (record {
              shown = k.shown;
              out = k.out;
              counts = λ j d lt. let g : Grant = get_or v.out j d in stays.counts j d lt ∙ (plain g.port g.length ∙ sym (unwritten g.port g.length (apart v k g (k.out j d lt))));
              done = k.done;
              missed = k.missed;
              drawn_once = k.drawn_once;
              once = k.once;
              stepping = tt;
              came = k.came;
              posts = k.posts;
              settled = k.settled;
            })
            (λ j d _ e. knows_stays_counted r.cargo r.stage n s.words r.slot p m d (apart d (r.each_seat j d e)) (r.each_seat j d e))
            (λ _. record {
              slot_is = h.slot_is;
              each_post = h.each_post;
              taken = h.taken;
              count = λ q a u e. dite (ℕ_discrete q p)
                  (λ same. let here : n + q ≡ n + p = ap (λ z. n + z) same in
                  ap (λ (z : ℕ). get_or words' z 0) here ∙ (get_or-set_same s.words (n + p) m 0 (omega arith) ∙ (reported_not q a u same e)))
                  (λ other. get_or-set_other s.words (n + p) (n + q) m 0 (other_count q other) ∙ (h.count q a u e ∙ (plain q u ∙ sym (unwritten q u other))));
              stepping = (p, at_count, inside, ap (λ (z : ℕ). get_or words' z 0) at_count ∙ get_or-set_same s.words (n + p) m 0 (omega arith), free.0, free.1);
            })
            (λ j d other e d_is. absurd (other (one_poster n s r id j v d at is e d_is))) (λ q u b e. inl (e, refl, (λ z. z))) (λ q u b a e. inl (e, refl, (λ z. z)))),
        refl,
      )
    where
      reported_not : (q a u : ℕ) → q ≡ p → r.stage q (r.slot q) ≡ reported a u → m ≡ count_after n (Counted i m) q u
      reported_not q a u same e = sym (cond-true (eqb (n + q) i) m u (eq-eqb (n + q) i (ap (λ z. n + z) same ∙ sym at_count)))

  -- the poster posts a grant at a port where nothing is granted or drawn and the count word holds the length
  granting : (s : St) (r : Kept n s) (id : ℕ) (v : View) (p x k flow long : ℕ) → get_elem? s.views id ≡ some v → v.kind ≡ Poster → p < n → last_slot p v.posts < k →
      FitsWord k flow → 1 ≤ long → long ≤ 2199023255552 → x ≡ word_of granted k flow → slice_index s.words (n + p) ≡ long → r.stage p (r.slot p) ≢ granted →
      ((j : ℕ) → r.stage p (r.slot p) ≢ drawn j) → ((q a : ℕ) → q ≢ p → count_after n v.step q a ≡ a)
      → Kept n record { words = set s.words p x; homes = s.homes; views = set s.views id (posted_too (grant p (slot_of x) (flow_of x) long) v) } ×
      (is_unsettled p (v.posts ++ grant p (slot_of x) (flow_of x) long ∷ []) v.settled ≡ true)
  granting s r id v p x k flow long at is inside above fits least most word_is count_is free_granted free_drawn unwritten =
      let kn = r.each_seat id v at in
      let h = r.posting id v at is in
      let port = r.each_port p inside in
      let slot_below : r.slot p < k = subst (λ (z : ℕ). z < k) (sym (h.slot_is p)) above in
      let new_stage : r.stage p k ≡ unposted = port.later k slot_below in
      let c : PortStage = granted in
      let cargo_c : Cargo = (flow, long) in
      let slot' : ℕ → ℕ = put r.slot p k in
      let cargo' : ℕ → ℕ → Cargo = put2 r.cargo p k cargo_c in
      let stage' : ℕ → ℕ → PortStage = put2 r.stage p k c in
      let words' : List ℕ = set s.words p x in
      let g : Grant = grant p (slot_of x) (flow_of x) long in
      let w : View = posted_too g v in
      let slot_is : slot_of x ≡ k = ap slot_of word_is ∙ slot_of-granted k flow fits in
      let flow_is : flow_of x ≡ flow = ap flow_of word_is ∙ flow_of-granted k flow fits in
      let slot_here : slot' p ≡ k = put_here r.slot p k in
      let cargo_here : cargo' p k ≡ cargo_c = put2_here r.cargo p k cargo_c in
      let stage_here : stage' p k ≡ granted = put2_here r.stage p k c in
      let g_is : g ≡ grant_at cargo' p k =
      λ i. record { port = p; slot = slot_is i; flow = (flow_is ∙ ap (λ (z : Cargo). z.0) (sym cargo_here)) i; length = ap (λ (z : Cargo). z.1) (sym cargo_here) i }
      in
      let f : Follows (r.stage p k) c = record {
        made = λ e. subst IsGranted e tt;
        open_yet = λ a m e. subst IsUnposted (sym new_stage ∙ e) tt;
        not_taken = λ e. subst IsUnposted (sym new_stage ∙ e) tt;
        granted_new = λ _. new_stage;
      } in
      let same : (q m : ℕ) → r.stage q m ≢ unposted →
      cargo' q m ≡ r.cargo q m = λ q m had.
      put2_other r.cargo p k cargo_c q m (λ qe me. had (subst (λ (z : ℕ × ℕ). r.stage z.0 z.1 ≡ unposted) (λ i. (sym qe i, sym me i)) new_stage)) in
      let up : (q : ℕ) → r.slot q ≤ slot' q =
      λ q. dite (ℕ_discrete q p) (λ e. subst (λ (z : ℕ). r.slot z ≤ slot' z) (sym e) (subst (λ (z : ℕ). r.slot p ≤ z) (sym slot_here) (omega arith)))
      (λ other. subst (λ (z : ℕ). r.slot q ≤ z) (sym (put_else r.slot p k q other)) (omega arith)) in
      let counts' : (q : ℕ) → slice_index words' (n + q) ≡ slice_index s.words (n + q) = λ q. get_or-set_other s.words p (n + q) x 0 (λ e. absurd (omega arith)) in
      let stays = λ (d : View) (kd : Knows r.cargo r.stage n s.words r.slot d). knows_stays r.slot slot' r.cargo cargo' r.stage p k c f same up n s.words words' counts' d
      (λ e. subst IsUnposted (sym new_stage ∙ e) tt) kd in
      let mine_was = stays v kn in
      let apart : (h : Grant) → Out r.cargo r.stage (number_of v.kind) h → h.port ≢ p = λ h o e.
      let here = subst (λ (z : ℕ). r.stage z h.slot ≡ drawn (number_of v.kind)) e o.0 in
      free_drawn (number_of v.kind) (subst (λ (z : ℕ). r.stage p z ≡ drawn (number_of v.kind)) (port.drawn_last h.slot (number_of v.kind) here) here) in
      let mine : Knows cargo' stage' n words' slot' w = record {
        shown = mine_was.shown;
        out = mine_was.out;
        counts = λ j d lt. let y : Grant = get_or v.out j d in mine_was.counts j d lt ∙ unwritten y.port y.length (apart y (kn.out j d lt));
        done = mine_was.done;
        missed = mine_was.missed;
        drawn_once = mine_was.drawn_once;
        once = mine_was.once;
        stepping = tt;
        came = mine_was.came;
        posts = All-push (Posted cargo' stage') v.posts g mine_was.posts (subst (Posted cargo' stage') (sym g_is) ((λ e. subst IsGranted (sym stage_here ∙ e) tt), refl));
        settled = mine_was.settled;
      } in
      let still : (q m : ℕ) → r.stage q m ≢ unposted → grant_at r.cargo q m ≡ grant_at cargo' q m = λ q m had. grant_same r.cargo cargo' q m (same q m had) in
      let poster : PosterOk cargo' stage' n words' slot' w = record {
        slot_is = λ q. dite (ℕ_discrete q p)
            (λ e. ap slot' e ∙ (slot_here ∙
            (sym slot_is ∙ ap slot_or_none (sym (last_pushed q v.posts g ∙ cond-true (eqb p q) (Some g) (last_at q v.posts) (eq-eqb p q (sym e)))))))
            (λ other. put_else r.slot p k q other ∙
            (h.slot_is q ∙ ap slot_or_none (sym (last_pushed q v.posts g ∙ cond-false (eqb p q) (Some g) (last_at q v.posts) (ne_eqb p q (λ e. other (sym e)))))));
        each_post = λ q m. put2_cases r.stage p k c q m (λ y. y ≢ unposted → Contains (v.posts ++ g ∷ []) (grant_at cargo' q m))
            (λ _ had. Contains-append_left v.posts (g ∷ []) _ (subst (Contains v.posts) (still q m had) (h.each_post q m had)))
            (λ qe me _. subst (λ (z : Grant). Contains (v.posts ++ g ∷ []) z) (g_is ∙ (λ i. grant_at cargo' (sym qe i) (sym me i))) (Contains-push v.posts g));
        taken = λ q m. put2_cases r.stage p k c q m (λ y. y ≡ taken_back → Contains v.settled (settlement (grant_at cargo' q m) None))
            (λ _ e. subst (λ (z : Grant). Contains v.settled (settlement z None)) (still q m (λ u. subst IsTaken (sym e ∙ u) tt)) (h.taken q m e))
            (λ _ _ e. absurd (subst IsGranted e tt));
        count = λ q a m e. dite (ℕ_discrete q p)
            (λ same_port. absurd (subst IsGranted (sym stage_here ∙ (ap (stage' p) (sym slot_here) ∙ subst (λ (z : ℕ). stage' z (slot' z) ≡ reported a m) same_port e)) tt))
            (λ other. counts' q ∙ (h.count q a m (sym (put2_other r.stage p k c q (r.slot q) (λ z _. other z)) ∙ (ap (stage' q) (sym (put_else r.slot p k q other)) ∙ e)) ∙
            unwritten q m other));
        stepping = tt;
      } in
      let new_port : PortOk x (slice_index s.words (n + p)) (slot' p) (cargo' p) (stage' p) =
      subst (λ (z : ℕ). PortOk x (slice_index s.words (n + p)) z (cargo' p) (stage' p)) (sym slot_here) record {
        word_is = word_is ∙ (λ i. word_of (sym stage_here i) k (sym cargo_here i).0);
        fits = subst (λ (z : Cargo). FitsWord k z.0) (sym cargo_here) fits;
        lengths = λ m. dite (ℕ_discrete m k)
            (λ e _. subst (λ (z : ℕ). (1 ≤ (cargo' p z).1) × ((cargo' p z).1 ≤ 2199023255552)) (sym e)
            (subst (λ (z : Cargo). (1 ≤ z.1) × (z.1 ≤ 2199023255552)) (sym cargo_here) (least, most)))
            (λ other had. let was = subst (λ (z : PortStage). z ≢ unposted) (put2_other r.stage p k c p m (λ _ e. other e)) had in
            subst (λ (z : Cargo). (1 ≤ z.1) × (z.1 ≤ 2199023255552)) (sym (same p m was)) (port.lengths m was));
        later = λ m l. put2_other r.stage p k c p m (λ _ e. absurd (omega arith)) ∙ port.later m (omega arith);
        granted_last = λ m. put2_cases r.stage p k c p m (λ y. y ≡ granted →
            m ≡ k) (λ _ e. absurd (free_granted (subst (λ (z : ℕ). r.stage p z ≡ granted) (port.granted_last m e) e))) (λ _ e _. e);
        drawn_last = λ m j. put2_cases r.stage p k c p m (λ y. y ≡ drawn j →
            m ≡ k) (λ _ e. absurd (free_drawn j (subst (λ (z : ℕ). r.stage p z ≡ drawn j) (port.drawn_last m j e) e))) (λ _ e _. e);
        count_is = λ _. count_is ∙ ap (λ (z : Cargo). z.1) (sym cargo_here);
      } in
      let unsettled : is_unsettled p w.posts w.settled ≡ true =
      ap (λ (o : Option Grant). is_left o v.settled) (last_pushed p v.posts g ∙ cond-true (eqb p p) (Some g) (last_at p v.posts) (eq-eqb p p refl))
      ∙ ap not (list_any_none (λ (y : Settlement). is_of g.port g.slot y.grant) v.settled
      (All-weaker (Closed r.cargo r.stage) (λ (y : Settlement). is_of g.port g.slot y.grant ≡ false)
      (λ y cl. is_of-false g.port g.slot y.grant
      (λ pe se. closed_had y.sent (r.stage y.grant.port y.grant.slot) cl.0 (ap (λ (z : ℕ × ℕ). r.stage z.0 z.1) (λ i. (pe i, (se ∙ slot_is) i)) ∙ new_stage))) v.settled
      kn.settled)) in (
        rebuilt n s r id v w at (goes_same v w refl refl refl) words' slot' cargo' stage' (length-set s.words p x ∙ r.wide)
            (ports_stay n s.words p x r.slot slot' r.cargo cargo' r.stage k c r.wide inside r.each_port
            (λ q other. (put_else r.slot p k q other, put_else r.cargo p (put (r.cargo p) k cargo_c) q other)) new_port)
            (λ q m l. put2_other r.stage p k c q m (λ e _. absurd (omega arith)) ∙ r.beyond q m l)
            mine (λ j d _ e. stays d (r.each_seat j d e)) (λ _. poster) (λ j d other e d_is. absurd (other (one_poster n s r id j v d at is e d_is)))
            (λ q m a. put2_cases r.stage p k c q m
            (λ y. y ≡ drawn a → ((r.stage q m ≡ drawn a) × (grant_at r.cargo q m ≡ grant_at cargo' q m) × (HasOut a (grant_at r.cargo q m) v → HasOut a (grant_at r.cargo q m) w)) ⊎
            ((r.who a ≡ id) × HasOut a (grant_at cargo' q m) w))
            (λ _ e. inl (e, still q m (λ u. subst IsDrawn (sym e ∙ u) tt), (λ z. z))) (λ _ _ e. absurd (subst IsGranted e tt)))
            (λ q m a u. put2_cases r.stage p k c q m
            (λ y. y ≡ reported a u → ((r.stage q m ≡ reported a u) × (grant_at r.cargo q m ≡ grant_at cargo' q m) ×
            (HasDone a (report (grant_at r.cargo q m) u) v → HasDone a (report (grant_at r.cargo q m) u) w))
            ⊎ ((r.who a ≡ id) × HasDone a (report (grant_at cargo' q m) u) w))
            (λ _ e. inl (e, still q m (λ z. subst IsReported (sym e ∙ z) tt), (λ z. z))) (λ _ _ e. absurd (subst IsGranted e tt))),
        unsettled,
      )
    where
      closed_had : (o : Option ℕ) (st : PortStage) → stage_after o st → st ≡ unposted → ⊥
      closed_had None st h e = subst IsTaken (sym h ∙ e) tt
      closed_had (Some m) st h e = subst IsReported (sym h.1 ∙ e) tt

  -- the poster posts a grant whose length it has written
  pub posting : (slots id : ℕ) (me : M) (p x k flow long : ℕ) → me.0.kind ≡ Poster → me.0.step ≡ Counted (n + p) long → p < n → last_slot p me.0.posts < k → FitsWord k flow →
      1 ≤ long → long ≤ 2199023255552 → x ≡ word_of granted k flow
      → Allows (Kept n) slots id me p (λ _. x) (λ _. posts (step slots p x 0 none) me x)
  posting slots id me p x k flow long is counted_is inside above fits least most word_is s r _ at _ =
      let v : View = me.0 in
      let h = r.posting id v at is in
      let t = subst (PosterStep r.cargo r.stage n s.words r.slot) counted_is h.stepping in
      let q_is : t.0 ≡ p = let e = t.1 in omega arith in
      let free_granted = subst (λ (z : ℕ). r.stage z (r.slot z) ≢ granted) q_is t.4 in
      let free_drawn = λ (j : ℕ). subst (λ (z : ℕ). r.stage z (r.slot z) ≢ drawn j) q_is (t.5 j) in
      let unwritten : (q a : ℕ) → q ≢ p →
      count_after n v.step q a ≡ a = λ q a other. ap (λ z. count_after n z q a) counted_is ∙
      cond-false (eqb (n + q) (n + p)) long a (ne_eqb (n + q) (n + p) (λ e. other (omega arith))) in
      let new = granting s r id v p x k flow long at is inside above fits least most word_is t.3 free_granted free_drawn unwritten in (
        posted_too (grant p (slot_of x) (flow_of x) long) v,
        keeps,
        tt,
        new.0,
        ((λ i. (posted_too (grant p (slot_of x) (flow_of x) (ap counted (sym counted_is) i)) v, me.1)), new.1),
      )

  -- a post that was settled by a number was reported with it
  held_stage : (s : St) (r : Kept n s) (id : ℕ) (v : View) (p long : ℕ) → get_elem? s.views id ≡ some v → v.kind ≡ Poster → IsHeld p long v →
      (a : ℕ) × (r.stage p (r.slot p) ≡ reported a long)
  held_stage s r id v p long at is held =
      let post = last_post n s r id v at is p held.0 held.1 in
      let closed = All-contains (Closed r.cargo r.stage) v.settled (settlement held.0 (Some long)) (r.each_seat id v at).settled held.2 in
      (closed.0.0, ap (λ (z : ℕ × ℕ). r.stage z.0 z.1) (λ i. (sym post.0 i, sym post.1 i)) ∙ closed.0.1)

  -- the poster posts a grant whose length the count word holds already
  pub posting_again : (slots id : ℕ) (me : M) (p x k flow long : ℕ) → me.0.kind ≡ Poster → me.0.step ≡ Rests → p < n → last_slot p me.0.posts < k → FitsWord k flow →
      1 ≤ long → long ≤ 2199023255552 → x ≡ word_of granted k flow → IsHeld p long me.0
      → Allows (Kept n) slots id me p (λ _. x) (λ _. posts_again (step slots p x 0 none) me x)
  posting_again slots id me p x k flow long is rests inside above fits least most word_is held s r _ at _ =
      let v : View = me.0 in
      let h = r.posting id v at is in
      let t = held_stage s r id v p long at is held in
      let plain : (q a : ℕ) → count_after n v.step q a ≡ a = rests_plain n v.step rests in
      let new = granting s r id v p x k flow long at is inside above fits least most word_is (h.count p t.0 long t.1 ∙ plain p long) (λ e. subst IsReported (sym t.1 ∙ e) tt)
      (λ j e. subst IsReported (sym t.1 ∙ e) tt) (λ q a _. plain q a) in (
        posted_too (grant p (slot_of x) (flow_of x) long) v,
        keeps,
        tt,
        new.0,
        (λ m had. let same : long ≡ m = ap units (sym t.1 ∙ (held_stage s r id v p m at is had).1) in
            ((λ i. (posted_too (grant p (slot_of x) (flow_of x) (same i)) v, me.1)), new.1)),
      )
