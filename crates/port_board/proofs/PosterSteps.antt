-- Each step of the poster keeps the rule.
use Rattle.std.proofs.Common.{◌≡◌, ◌≢◌, ◌⊎◌, inl, ℕ, ◌+◌, ◌/◌, ◌<◌, eqb, List, [], ◌∷◌, ◌++◌, get_or, set, sym, refl, ap, ◌∙◌, subst, ⊎_elim, arith, Option, Some, None, Bool}
use Rattle.std.proofs.Common.{true, false, cond, true≢false, ◌||◌, length-set, get_or-set_other, eq-eqb, ne_eqb}
use Rattle.std.specs.Prelude.{All, Contains, slice_index}
use Rattle.std.proofs.lemmas.List.Elements.{All-push, All-weaker, Contains-push, Contains-append_left}
use Rattle.std.proofs.lemmas.Bool.{cond_both, cond-true, cond-false, cases_Bool, eqb-true}
use mathlib.Core.Logic.{dite}
use mathlib.Core.Option.{none, some}
use native.Mathlib.Decide.{ℕ_discrete}
use lib.ListN.{get_elem?}
use prog.Atomic.{either}
use Rattle.atomic_table.specs.Table.{step, keeps, stepped, Allows}
use Rattle.atomic_table.proofs.Lists.{set_here}
use Rattle.coflow_units.specs.PortWord.{PortStage, word_of, shows_granted, shows_drawn, shows_reported}
use Rattle.coflow_units.specs.PortWord.PortStage.{unposted, granted, drawn, reported, taken_back}
use Rattle.port_board.specs.declared.view.Grant.{Grant}
use Rattle.port_board.specs.declared.view.Settlement.{Settlement}
use Rattle.port_board.specs.declared.view.Step.{Step}
use Rattle.port_board.specs.declared.view.Step.TheVariants.{Rests, Offered, Ready}
use Rattle.port_board.specs.declared.view.View.{View}
use Rattle.port_board.specs.declared.view.Kind.TheVariants.{Poster}
use Rattle.port_board.specs.Views.{report, settlement, number_of, last_at, looked, settled_if, settled_as}
use Rattle.port_board.specs.Rule.{Cargo, grant_at, count_after, Closed, StepOk, Counts, Knows, PosterStep, PosterOk, HasOut, HasDone, Kept}
use Rattle.port_board.specs.Agreement.{NobodyHad}
use Rattle.port_board.specs.Tells.{poster_step, seen_by_poster, poster_loads, takes_back, ready_port, reads_sent, learns}
use Rattle.coflow_units.proofs.PortWords.{IsGranted, IsReported, IsTaken, granted_only, stage_is}
use Rattle.port_board.proofs.Puts.{put2, put2_here, put2_keeps, put2_cases}
use Rattle.port_board.proofs.Stays.{Follows, knows_stays}
use Rattle.port_board.proofs.Moves.{St, rebuilt, unmoved, inside_of}
use Rattle.port_board.proofs.AgentSteps.{M, goes_same, port_goes, ports_stay}
use Rattle.port_board.proofs.Agreements.{its, agreeing, nobody_had, last_post, has_last, is_pending}

-- a step that leaves a count word as it is
plain_step : (n : ℕ) (port word q h : ℕ) → count_after n (poster_step port word) q h ≡ h
plain_step n port word q h = cond_both (shows_granted word) (Offered port word) (cond (shows_reported word) (Ready port) Rests) (λ st. count_after n st q h ≡ h) (λ _. refl)
    (λ _. cond_both (shows_reported word) (Ready port) Rests (λ st. count_after n st q h ≡ h) (λ _. refl) (λ _. refl))

plain_ok : (cargo : ℕ → ℕ → Cargo) (stage : ℕ → ℕ → PortStage) (slot : ℕ → ℕ) (v : View) (port word : ℕ) → StepOk cargo stage slot v (poster_step port word)
plain_ok cargo stage slot v port word = cond_both (shows_granted word) (Offered port word) (cond (shows_reported word) (Ready port) Rests) (StepOk cargo stage slot v) (λ _. tt)
    (λ _. cond_both (shows_reported word) (Ready port) Rests (StepOk cargo stage slot v) (λ _. tt) (λ _. tt))

module _ (n : ℕ) where
  -- there is one poster
  pub one_poster : (s : St) (r : Kept n s) (id j : ℕ) (v d : View) → get_elem? s.views id ≡ some v → v.kind ≡ Poster → get_elem? s.views j ≡ some d → d.kind ≡ Poster → j ≡ id
  one_poster s r id j v d at is e d_is = sym (its n s r j d e d_is).0 ∙ (its n s r id v at is).0

  -- a step of the poster that changes no word, and may settle a post
  settling : (s : St) (r : Kept n s) (id : ℕ) (v : View) → get_elem? s.views id ≡ some v → v.kind ≡ Poster → (st : Step) (looks : List (ℕ × ℕ)) (more : List Settlement) →
      ((q h : ℕ) → count_after n v.step q h ≡ h)
      → ((q h : ℕ) → count_after n st q h ≡ h) → ((w : View) → StepOk r.cargo r.stage r.slot w st) → PosterStep r.cargo r.stage n s.words r.slot st →
      All (Closed r.cargo r.stage) more
      → ((x : Settlement) → Contains v.settled x → Contains more x) → (i : ℕ) →
      Kept n record { words = set s.words i (get_or s.words i 0); homes = s.homes; views = set s.views id (record v { step = st; looks = looks; settled = more }) }
  settling s r id v at is st looks more plain plain' ok step_ok closed longer i =
      let w : View = record v { step = st; looks = looks; settled = more } in
      let k = r.each_seat id v at in
      let h = r.posting id v at is in
      unmoved n s r id v w at (goes_same v w refl refl refl) i (λ _ t. t) (λ _ t. t)
      (record {
        shown = k.shown;
        out = k.out;
        counts = All-weaker (Counts r.cargo r.stage n s.words v.step) (Counts r.cargo r.stage n s.words st) (λ g e. e ∙ (plain g.port g.length ∙ sym (plain' g.port g.length)))
            v.out k.counts;
        done = k.done;
        missed = k.missed;
        drawn_once = k.drawn_once;
        once = k.once;
        stepping = ok w;
        came = k.came;
        posts = k.posts;
        settled = closed;
      })
      (λ _. record {
        slot_is = h.slot_is;
        each_post = h.each_post;
        taken = λ q m e. longer _ (h.taken q m e);
        count = λ q a m e. h.count q a m e ∙ (plain q m ∙ sym (plain' q m));
        stepping = step_ok;
      })

  pub rests_plain : (st : Step) → st ≡ Rests → (q h : ℕ) → count_after n st q h ≡ h
  rests_plain st is q h = ap (λ z. count_after n z q h) is

  -- the view that the poster's step leaves
  there : (s : St) (id : ℕ) (v w : View) → get_elem? s.views id ≡ some v → get_elem? (set s.views id w) id ≡ some w
  there s id v w at = set_here s.views id w (inside_of s.views id v at)

  -- what the poster saw of a word
  saw : (s : St) (r : Kept n s) (p : ℕ) → p < n → PosterStep r.cargo r.stage n s.words r.slot (poster_step p (get_or s.words p 0))
  saw s r p inside =
      let x : ℕ = get_or s.words p 0 in
      let port = r.each_port p inside in
      let shown = stage_is (r.stage p (r.slot p)) (r.slot p) (r.cargo p (r.slot p)).0 in
      cond_both (shows_granted x) (Offered p x) (cond (shows_reported x) (Ready p) Rests) (PosterStep r.cargo r.stage n s.words r.slot)
      (λ is.
      let g = (shown 1 port.fits (eqb-true _ 1 (subst (λ (y : ℕ). shows_granted y ≡ true) port.word_is is))).0 refl in
      (port.word_is ∙ ap (λ (z : PortStage). word_of z (r.slot p) (r.cargo p (r.slot p)).0) g, (λ e. subst IsGranted (sym g ∙ e) tt)))
      (λ _. cond_both (shows_reported x) (Ready p) Rests (PosterStep r.cargo r.stage n s.words r.slot)
      (λ is. (shown 3 port.fits (eqb-true _ 3 (subst (λ (y : ℕ). shows_reported y ≡ true) port.word_is is))).2 refl) (λ _. tt))

  pub poster_loading : (slots id : ℕ) (me : M) (p : ℕ) → me.0.kind ≡ Poster → me.0.step ≡ Rests → p < n →
      Allows (Kept n) slots id me p (λ x. x) (poster_loads (step slots p 0 0 none) me)
  poster_loading slots id me p is rests inside s r _ at _ =
      let v : View = me.0 in
      let x : ℕ = get_or s.words p 0 in
      let w : View = seen_by_poster p x v in
      let kept = settling s r id v at is (poster_step p x) w.looks v.settled (rests_plain v.step rests) (plain_step n p x) (λ u. plain_ok r.cargo r.stage r.slot u p x)
      (saw s r p inside) (r.each_seat id v at).settled (λ _ h. h) p in
      (w, keeps, tt, kept, (refl, is_pending n s r id v at is p inside, agreeing n _ kept id w (there s id v w at) is))

  -- a look of the poster that leaves all as it was
  pub learning : (slots id : ℕ) (me : M) (p : ℕ) → me.0.kind ≡ Poster → me.0.step ≡ Rests → Allows (Kept n) slots id me p (λ x. x) (learns (step slots p 0 0 none) me)
  learning slots id me p is rests s r _ at _ =
      let v : View = me.0 in
      let x : ℕ = get_or s.words p 0 in
      let w : View = looked p x v in
      let kept = settling s r id v at is v.step w.looks v.settled (rests_plain v.step rests) (rests_plain v.step rests)
      (λ u. subst (StepOk r.cargo r.stage r.slot u) (sym rests) tt) (r.posting id v at is).stepping (r.each_seat id v at).settled (λ _ h. h) p in
      let mine = its n s r id v at is in
      let b = mine.1 in
      let c = mine.2 in
      let seated = r.seated in
      (w, keeps, tt, kept, (refl, omega arith, agreeing n _ kept id w (there s id v w at) is))

  -- the list of settlements with one more
  more_closed : (cargo : ℕ → ℕ → Cargo) (stage : ℕ → ℕ → PortStage) (settled : List Settlement) (o : Option Grant) (sent : Option ℕ) (g : Grant) → o ≡ Some g →
      All (Closed cargo stage) settled → Closed cargo stage (settlement g sent)
      → All (Closed cargo stage) (settled_if o sent settled)
  more_closed cargo stage settled o sent g e all new =
      subst (λ (z : Option Grant). All (Closed cargo stage) (settled_if z sent settled)) (sym e) (All-push (Closed cargo stage) settled (settlement g sent) all new)

  more_has : (o : Option Grant) (sent : Option ℕ) (settled : List Settlement) (x : Settlement) → Contains settled x → Contains (settled_if o sent settled) x
  more_has None sent settled x h = h
  more_has (Some g) sent settled x h = Contains-append_left settled (settlement g sent ∷ []) x h

  -- the poster reads the number that was reported
  pub reading_sent : (slots id : ℕ) (me : M) (i p : ℕ) → me.0.kind ≡ Poster → me.0.step ≡ Ready p → i ≡ n + p →
      Allows (Kept n) slots id me i (λ x. x) (reads_sent (step slots i 0 0 none) me)
  reading_sent slots id me i p is ready at_count s r _ at _ =
      let v : View = me.0 in
      let x : ℕ = get_or s.words i 0 in
      let k = r.each_seat id v at in
      let h = r.posting id v at is in
      let q : ℕ = ready_port v.step in
      let q_is : q ≡ p = ap ready_port ready in
      let w : View = looked i x (settled_as q (Some x) v) in
      let t = subst (PosterStep r.cargo r.stage n s.words r.slot) ready h.stepping in
      let plain : (a b : ℕ) → count_after n v.step a b ≡ b = λ a b. ap (λ z. count_after n z a b) ready in
      let found : x ≡ t.1 = ap (λ (z : ℕ). get_or s.words z 0) at_count ∙ (h.count p t.0 t.1 t.2 ∙ plain p t.1) in
      let had : r.stage p (r.slot p) ≢ unposted = λ e. subst IsReported (sym t.2 ∙ e) tt in
      let last = has_last n s r id v at is p had in
      let post = last_post n s r id v at is p last.0 last.1 in
      let new : Closed r.cargo r.stage (settlement last.0 (Some x)) = (
        (t.0, ap (λ (z : ℕ × ℕ). r.stage z.0 z.1) (λ i. (post.0 i, post.1 i)) ∙ (t.2 ∙ ap (reported t.0) (sym found))),
        post.2 ∙ (λ i. grant_at r.cargo (sym post.0 i) (sym post.1 i)),
      ) in
      let kept = settling s r id v at is Rests w.looks w.settled plain (λ _ _. refl) (λ _. tt) tt
      (more_closed r.cargo r.stage v.settled (last_at q v.posts) (Some x) last.0 (ap (λ z. last_at z v.posts) q_is ∙ last.1) k.settled new)
      (more_has (last_at q v.posts) (Some x) v.settled) i in
      (w, keeps, tt, kept, (refl, agreeing n _ kept id w (there s id v w at) is))

  -- the exchange of the granted word that was loaded for 0
  pub taking : (slots id : ℕ) (me : M) (p old : ℕ) → me.0.kind ≡ Poster → me.0.step ≡ Offered p old → p < n →
      Allows (Kept n) slots id me p (λ x. either (eqb x old) 0 x) (takes_back (step slots p old 0 none) me)
  taking slots id me p old is offered inside s r _ at _ =
      let v : View = me.0 in
      let x : ℕ = get_or s.words p 0 in
      let k = r.each_seat id v at in
      let h = r.posting id v at is in
      let port = r.each_port p inside in
      let fits = port.fits in
      let t = subst (PosterStep r.cargo r.stage n s.words r.slot) offered h.stepping in
      let plain : (a b : ℕ) → count_after n v.step a b ≡ b = λ a b. ap (λ z. count_after n z a b) offered in
      let hits : x ≡ old → r.stage p (r.slot p) ≡ granted =
      λ e. (granted_only (r.stage p (r.slot p)) (r.slot p) (r.cargo p (r.slot p)).0 (r.slot p) (r.cargo p (r.slot p)).0 fits fits (sym port.word_is ∙ (e ∙ t.0))).0 in
      let nobody : x ≡ old → (g : Grant) → last_at p v.posts ≡ Some g → NobodyHad g v = λ e g last. let post = last_post n s r id v at is p g last in
      nobody_had n s r id v at is g (ap (λ (z : ℕ × ℕ). r.stage z.0 z.1) (λ i. (post.0 i, post.1 i)) ∙ hits e) in
      let misses : (x ≡ old → ⊥) → shows_granted x ≡ false = λ miss. ⊎_elim
      (λ (shows : shows_granted x ≡ true).
      let g = (stage_is (r.stage p (r.slot p)) (r.slot p) (r.cargo p (r.slot p)).0 1 fits (eqb-true _ 1 (subst (λ (y : ℕ). shows_granted y ≡ true) port.word_is shows))).0 refl in
      absurd (miss (port.word_is ∙ (ap (λ (z : PortStage). word_of z (r.slot p) (r.cargo p (r.slot p)).0) g ∙ sym t.0))))
      (λ (no : shows_granted x ≡ false). no)
      (cases_Bool (shows_granted x)) in
      let waits = is_pending n s r id v at is p inside in
      dite (ℕ_discrete x old)
      (λ hit.
      let was = hits hit in
      let c : PortStage = taken_back in
      let slot_p : ℕ = r.slot p in
      let stage' : ℕ → ℕ → PortStage = put2 r.stage p slot_p c in
      let words' : List ℕ = set s.words p 0 in
      let w : View = looked p x (settled_as p None v) in
      let f : Follows (r.stage p slot_p) c = record {
        made = λ e. subst IsTaken e tt;
        open_yet = λ a m e. subst IsGranted (sym was ∙ e) tt;
        not_taken = λ e. subst IsGranted (sym was ∙ e) tt;
        granted_new = λ e. absurd (subst IsTaken e tt);
      } in
      let had : r.stage p slot_p ≢ unposted = λ e. subst IsGranted (sym was ∙ e) tt in
      let not_drawn : (j : ℕ) → r.stage p slot_p ≢ drawn j = λ j e. subst IsGranted (sym was ∙ e) tt in
      let counts' : (q : ℕ) → slice_index words' (n + q) ≡ slice_index s.words (n + q) = λ q. get_or-set_other s.words p (n + q) 0 0 (λ e. absurd (omega arith)) in
      let stays = λ (d : View) (kd : Knows r.cargo r.stage n s.words r.slot d). knows_stays r.slot r.slot r.cargo r.cargo r.stage p slot_p c f (λ _ _ _. refl) (λ q. omega arith) n
      s.words words' counts' d (not_drawn (number_of d.kind)) kd in
      let last = has_last n s r id v at is p had in
      let post = last_post n s r id v at is p last.0 last.1 in
      let new : Closed r.cargo stage' (settlement last.0 None) = (
        ap (λ (z : ℕ × ℕ). stage' z.0 z.1) (λ i. (post.0 i, post.1 i)) ∙ put2_here r.stage p slot_p c,
        post.2 ∙ (λ i. grant_at r.cargo (sym post.0 i) (sym post.1 i)),
      ) in
      let mine_was = stays v k in
      let mine : Knows r.cargo stage' n words' r.slot w = record {
        shown = mine_was.shown;
        out = mine_was.out;
        counts = All-weaker (Counts r.cargo stage' n words' v.step) (Counts r.cargo stage' n words' Rests) (λ g e. e ∙ plain g.port g.length) v.out mine_was.counts;
        done = mine_was.done;
        missed = mine_was.missed;
        drawn_once = mine_was.drawn_once;
        once = mine_was.once;
        stepping = tt;
        came = mine_was.came;
        posts = mine_was.posts;
        settled = more_closed r.cargo stage' v.settled (last_at p v.posts) None last.0 last.1 mine_was.settled new;
      } in
      let poster : PosterOk r.cargo stage' n words' r.slot w = record {
        slot_is = h.slot_is;
        each_post = λ q m. put2_keeps r.stage p slot_p c q m (λ y. y ≢ unposted → Contains v.posts (grant_at r.cargo q m)) (h.each_post q m) (λ _ _ e _. e had);
        taken = λ q m. put2_cases r.stage p slot_p c q m (λ y. y ≡ taken_back → Contains w.settled (settlement (grant_at r.cargo q m) None))
            (λ _ e. more_has (last_at p v.posts) None v.settled _ (h.taken q m e))
            (λ qe me _. subst (λ (z : Option Grant). Contains (settled_if z None v.settled) (settlement (grant_at r.cargo q m) None)) (sym last.1)
            (subst (λ (g : Grant). Contains (v.settled ++ settlement last.0 None ∷ []) (settlement g None)) (post.2 ∙ (λ i. grant_at r.cargo (sym qe i) (sym me i)))
            (Contains-push v.settled (settlement last.0 None))));
        count = λ q a m. put2_keeps r.stage p slot_p c q (r.slot q) (λ y. y ≡ reported a m → slice_index words' (n + q) ≡ m) (λ e. counts' q ∙ (h.count q a m e ∙ plain q m))
            (λ _ _ _ e. absurd (subst IsTaken e tt));
        stepping = tt;
      } in
      let kept : Kept n record { words = words'; homes = s.homes; views = set s.views id w } =
      rebuilt n s r id v w at (goes_same v w refl refl refl) words' r.slot r.cargo stage' (length-set s.words p 0 ∙ r.wide)
      (ports_stay n s.words p 0 r.slot r.slot r.cargo r.cargo r.stage slot_p c r.wide inside r.each_port (λ _ _. (refl, refl))
      (port_goes _ 0 _ r.slot r.cargo r.stage p c port had (λ e. subst IsTaken e tt) refl))
      (λ q m l. put2_keeps r.stage p slot_p c q m (λ y. y ≡ unposted) (r.beyond q m l) (λ e _ _. absurd (omega arith)))
      mine (λ j d _ e. stays d (r.each_seat j d e)) (λ _. poster) (λ j d other e d_is. absurd (other (one_poster s r id j v d at is e d_is)))
      (λ q m a. put2_cases r.stage p slot_p c q m
      (λ y. y ≡ drawn a → ((r.stage q m ≡ drawn a) × (grant_at r.cargo q m ≡ grant_at r.cargo q m) × (HasOut a (grant_at r.cargo q m) v → HasOut a (grant_at r.cargo q m) w)) ⊎
      ((r.who a ≡ id) × HasOut a (grant_at r.cargo q m) w))
      (λ _ e. inl (e, refl, (λ z. z))) (λ _ _ e. absurd (subst IsTaken e tt)))
      (λ q m a u. put2_cases r.stage p slot_p c q m
      (λ y. y ≡ reported a u → ((r.stage q m ≡ reported a u) × (grant_at r.cargo q m ≡ grant_at r.cargo q m) ×
      (HasDone a (report (grant_at r.cargo q m) u) v → HasDone a (report (grant_at r.cargo q m) u) w))
      ⊎ ((r.who a ≡ id) × HasDone a (report (grant_at r.cargo q m) u) w))
      (λ _ e. inl (e, refl, (λ z. z))) (λ _ _ e. absurd (subst IsTaken e tt))) in (
        w,
        keeps,
        tt,
        subst (λ (b : Bool). Kept n (stepped s p (either b 0 x) id me.1 w keeps)) (sym (eq-eqb x old hit)) kept,
        (
          ap (λ (b : Bool). (cond b (looked p x (settled_as p None v)) (seen_by_poster p x v), me.1)) (sym (eq-eqb x old hit)),
          waits,
          (nobody, misses),
          agreeing n _ kept id w (there s id v w at) is,
        ),
      ))
      (λ miss.
      let w : View = seen_by_poster p x v in
      let kept = settling s r id v at is (poster_step p x) w.looks v.settled plain (plain_step n p x) (λ u. plain_ok r.cargo r.stage r.slot u p x) (saw s r p inside) k.settled
      (λ _ z. z) p in (
        w,
        keeps,
        tt,
        subst (λ (b : Bool). Kept n (stepped s p (either b 0 x) id me.1 w keeps)) (sym (ne_eqb x old miss)) kept,
        (
          ap (λ (b : Bool). (cond b (looked p x (settled_as p None v)) (seen_by_poster p x v), me.1)) (sym (ne_eqb x old miss)),
          waits,
          (nobody, misses),
          agreeing n _ kept id w (there s id v w at) is,
        ),
      ))

-- what an unsettled word shows, where it is not granted
pub is_reported : (word : ℕ) → shows_granted word ≡ false → (shows_granted word || (shows_drawn word || shows_reported word)) ≡ true → shows_drawn word ≡ false →
    shows_reported word ≡ true
is_reported word idle any other = go (shows_granted word) (shows_drawn word) (shows_reported word) idle other any
  where
    go : (a b c : Bool) → a ≡ false → b ≡ false → (a || (b || c)) ≡ true → c ≡ true
    go true b c x y e = absurd (true≢false x)
    go false true c x y e = absurd (true≢false y)
    go false false c x y e = e

pub step_ready : (port word : ℕ) → shows_granted word ≡ false → shows_reported word ≡ true → poster_step port word ≡ Ready port
step_ready port word idle shown = cond-false (shows_granted word) (Offered port word) (cond (shows_reported word) (Ready port) Rests) idle ∙
    cond-true (shows_reported word) (Ready port) Rests shown

pub step_offered : (port word : ℕ) → shows_granted word ≡ true → poster_step port word ≡ Offered port word
step_offered port word shown = cond-true (shows_granted word) (Offered port word) (cond (shows_reported word) (Ready port) Rests) shown

pub step_rests : (port word : ℕ) → shows_drawn word ≡ true → poster_step port word ≡ Rests
step_rests port word shown =
    let two : word / 2305843009213693952 ≡ 2 = eqb-true _ 2 shown in
    cond-false (shows_granted word) (Offered port word) (cond (shows_reported word) (Ready port) Rests) (ne_eqb _ 1 (λ e. absurd (omega arith))) ∙
    cond-false (shows_reported word) (Ready port) Rests (ne_eqb _ 3 (λ e. absurd (omega arith)))
