-- Each step of an agent keeps the rule.
use Rattle.std.proofs.Common.{◌≡◌, ◌≢◌, ◌⊎◌, inl, inr, ℕ, ◌+◌, ◌<◌, ◌≤◌, eqb, List, [], ◌∷◌, ◌++◌, length, get_or, set, sym, refl, ap, ◌∙◌, subst, ⊎_elim, arith, Bool, true, false}
use Rattle.std.proofs.Common.{cond, true≢false, length-set, get_or-set_other, get_or-set_same, eq-eqb, ne_eqb}
use Rattle.std.specs.Prelude.{All, Contains, slice_index}
use Rattle.std.proofs.lemmas.List.Elements.{All-push, All-weaker, All-contains_itself, Contains-push, Contains-append_left}
use Rattle.std.proofs.lemmas.List.Quantifiers.{all_pairs_push}
use Rattle.std.proofs.lemmas.Bool.{cond-true, cond-false, cases_Bool, eqb-true}
use mathlib.Core.Logic.{dite}
use mathlib.Core.Option.{none, some}
use native.Mathlib.Decide.{ℕ_discrete, dec_le}
use lib.ListN.{get_elem?}
use prog.Atomic.{either}
use Rattle.atomic_table.specs.Table.{Me, step, keeps, stepped, Allows}
use Rattle.coflow_units.specs.PortWord.{PortStage, word_of, shows_granted, slot_of, flow_of}
use Rattle.coflow_units.specs.PortWord.PortStage.{unposted, granted, drawn, reported}
use Rattle.port_board.specs.declared.view.Grant.{Grant}
use Rattle.port_board.specs.declared.view.Report.{Report}
use Rattle.port_board.specs.declared.view.Step.{Step}
use Rattle.port_board.specs.declared.view.Step.TheVariants.{Rests, Loaded, Won}
use Rattle.port_board.specs.declared.view.View.{View}
use Rattle.port_board.specs.declared.view.Came.{Came}
use Rattle.port_board.specs.declared.view.Kind.{Kind}
use Rattle.port_board.specs.declared.view.Kind.TheVariants.{Agent, Poster}
use Rattle.port_board.specs.Views.{grant, IsNewest, report, number_of, missed_after}
use Rattle.port_board.specs.Rule.{Cargo, PortOk, grant_at, DifferAt, HoldsOnce, Posted, Out, Gone, StepOk, Counts, Knows, HasOut}
use Rattle.port_board.specs.Rule.{HasDone, Seated, Kept}
use Rattle.port_board.specs.Tells.{loads, after_win, after_miss, draws}
use Rattle.coflow_units.proofs.PortWords.{IsGranted, IsDrawn, IsReported, drawer, slot_of-granted, flow_of-granted, granted_only, shows_granted-granted, stage_is}
use Rattle.coflow_units.proofs.Changes.{put, put_else}
use Rattle.port_board.proofs.Puts.{put2, put2_here, put2_keeps, put2_cases}
use Rattle.port_board.proofs.Lists.{misses, misses_once}
use Rattle.port_board.proofs.Stays.{Follows, knows_stays, ByAgent, poster_stays}
use Rattle.port_board.proofs.Moves.{St, Goes, rebuilt, unmoved, same_seat, agent_seated}

abbrev pub M : Type 0
M = Me (Unit {0}) View

pub goes_same : (v w : View) → w.kind ≡ v.kind → w.made ≡ v.made → w.back ≡ v.back → Goes v w
goes_same v w a b c = record { kind = a; made = b; back = c }

pub not_poster : (v : View) (a : ℕ) → v.kind ≡ Agent a → v.kind ≡ Poster → ⊥
not_poster v a is e = subst is_agent (is_same) tt
  where
    is_same : Agent a ≡ Poster
    is_same = sym is ∙ e

    is_agent : Kind → Type 0
    is_agent (Agent k) = Unit {0}
    is_agent _ = ⊥

-- a number that a seat has is that of an agent
number_pos : (who : ℕ → ℕ) (made returned seat a : ℕ) (v : View) (k : Kind) → k ≡ Agent a → Seated who made returned seat v k → 0 < a
number_pos who made returned seat a v k is h = (agent_seated who made returned seat a v k is h).1

member : (gs : List Grant) (i : ℕ) (d : Grant) → i < length gs → Contains gs (get_or gs i d)
member gs i d lt = All-contains_itself gs i d lt

-- a port whose last post changes its stage, once it was posted
pub port_goes : (word word' count : ℕ) (slot : ℕ → ℕ) (cargo : ℕ → ℕ → Cargo) (stage : ℕ → ℕ → PortStage) (p : ℕ) (c : PortStage) → PortOk word count (slot p) (cargo p) (stage p) →
    stage p (slot p) ≢ unposted → c ≢ granted
    → word' ≡ word_of c (slot p) (cargo p (slot p)).0 → PortOk word' count (slot p) (cargo p) (put2 stage p (slot p) c p)
port_goes word word' count slot cargo stage p c h had not_granted word_is = let here = put2_here stage p (slot p) c in record {
  word_is = subst (λ (x : PortStage). word' ≡ word_of x (slot p) (cargo p (slot p)).0) (sym here) word_is;
  fits = h.fits;
  lengths = λ m. put2_keeps stage p (slot p) c p m (λ x. x ≢ unposted → (1 ≤ (cargo p m).1) × ((cargo p m).1 ≤ 2199023255552)) (h.lengths m)
      (λ _ e t _. subst (λ (z : ℕ). (1 ≤ (cargo p z).1) × ((cargo p z).1 ≤ 2199023255552)) (sym e) (h.lengths (slot p) had));
  later = λ m l. put2_keeps stage p (slot p) c p m (λ x. x ≡ unposted) (h.later m l) (λ _ e _. absurd (omega arith));
  granted_last = λ m. put2_keeps stage p (slot p) c p m (λ x. x ≡ granted → m ≡ slot p) (h.granted_last m) (λ _ e _ _. e);
  drawn_last = λ m j. put2_keeps stage p (slot p) c p m (λ x. x ≡ drawn j → m ≡ slot p) (h.drawn_last m j) (λ _ e _ _. e);
  count_is = λ e. absurd (not_granted (sym here ∙ e));
}

module _ (n : ℕ) where
  -- the words and counts of the other ports, where one port's word changes
  pub ports_stay : (words : List ℕ) (p x : ℕ) (slot slot' : ℕ → ℕ) (cargo cargo' : ℕ → ℕ → Cargo) (stage : ℕ → ℕ → PortStage) (k : ℕ) (c : PortStage) → length words ≡ n + n → p < n
      → ((q : ℕ) → q < n → PortOk (slice_index words q) (slice_index words (n + q)) (slot q) (cargo q) (stage q))
      → ((q : ℕ) → q ≢ p → (slot' q ≡ slot q) × (cargo' q ≡ cargo q))
      → PortOk x (slice_index words (n + p)) (slot' p) (cargo' p) (put2 stage p k c p)
      → (q : ℕ) → q < n → PortOk (slice_index (set words p x) q) (slice_index (set words p x) (n + q)) (slot' q) (cargo' q) (put2 stage p k c q)
  ports_stay words p x slot slot' cargo cargo' stage k c wide inside was rest new q l =
      let away : n + q ≢ p = λ e. absurd (omega arith) in
      subst (λ (y : ℕ). PortOk (slice_index (set words p x) q) y (slot' q) (cargo' q) (put2 stage p k c q)) (sym (get_or-set_other words p (n + q) x 0 away))
      (dite (ℕ_discrete q p)
      (λ e. subst (λ (z : ℕ). PortOk (slice_index (set words p x) z) (slice_index words (n + z)) (slot' z) (cargo' z) (put2 stage p k c z)) (sym e)
      (subst (λ (y : ℕ). PortOk y (slice_index words (n + p)) (slot' p) (cargo' p) (put2 stage p k c p)) (sym (get_or-set_same words p x 0 (omega arith))) new))
      (λ other.
      let t = rest q other in
      subst (λ (y : ℕ). PortOk y (slice_index words (n + q)) (slot' q) (cargo' q) (put2 stage p k c q)) (sym (get_or-set_other words p q x 0 other))
      (subst (PortOk (slice_index words q) (slice_index words (n + q)) (slot' q) (cargo' q)) (sym (put_else stage p (put (stage p) k c) q other))
      (subst (λ (z : ℕ × (ℕ → Cargo)). PortOk (slice_index words q) (slice_index words (n + q)) z.0 z.1 (stage q)) (λ i. (sym t.0 i, sym t.1 i)) (was q l)))))

  -- and where one port's count changes, which is not granted
  pub counts_stay : (words : List ℕ) (p m : ℕ) (slot : ℕ → ℕ) (cargo : ℕ → ℕ → Cargo) (stage : ℕ → ℕ → PortStage) → length words ≡ n + n → p < n
      → ((q : ℕ) → q < n → PortOk (slice_index words q) (slice_index words (n + q)) (slot q) (cargo q) (stage q)) → stage p (slot p) ≢ granted
      → (q : ℕ) → q < n → PortOk (slice_index (set words (n + p) m) q) (slice_index (set words (n + p) m) (n + q)) (slot q) (cargo q) (stage q)
  counts_stay words p m slot cargo stage wide inside was not_granted q l =
      let h = was q l in
      let away : q ≢ n + p = λ e. absurd (omega arith) in record {
        word_is = get_or-set_other words (n + p) q m 0 away ∙ h.word_is;
        fits = h.fits;
        lengths = h.lengths;
        later = h.later;
        granted_last = h.granted_last;
        drawn_last = h.drawn_last;
        count_is = λ e.
            let other : n + q ≢ n + p = λ same. not_granted (subst (λ (z : ℕ). stage z (slot z) ≡ granted) (omega arith) e) in
            get_or-set_other words (n + p) (n + q) m 0 other ∙ h.count_is e;
      }

  -- an agent draws or reports the last post of a port
  pub moved : (s : St) (r : Kept n s) (id a p x : ℕ) (v w : View) (c : PortStage) → p < n → get_elem? s.views id ≡ some v → v.kind ≡ Agent a → Goes v w →
      Follows (r.stage p (r.slot p)) c
      → ByAgent r.slot r.cargo r.stage p c n s.words (set s.words p x) → c ≢ granted → x ≡ word_of c (r.slot p) (r.cargo p (r.slot p)).0
      → Knows r.cargo (put2 r.stage p (r.slot p) c) n (set s.words p x) r.slot w
      → ((b : ℕ) → r.stage p (r.slot p) ≡ drawn b → b ≡ a)
      → ((b : ℕ) → c ≡ drawn b → (b ≡ a) × Contains w.out (grant_at r.cargo p (r.slot p)))
      → ((b m : ℕ) → c ≡ reported b m → (b ≡ a) × Contains w.done (report (grant_at r.cargo p (r.slot p)) m))
      → ((g : Grant) → Contains v.out g → (g.port ≡ p → g.slot ≡ r.slot p → ⊥) → Contains w.out g)
      → ((y : Report) → Contains v.done y → Contains w.done y)
      → Kept n record { words = set s.words p x; homes = s.homes; views = set s.views id w }
  moved s r id a p x v w c inside at agent_is go f b not_granted word_is mine own new_out new_done keep_out keep_done =
      let k : ℕ = r.slot p in
      let sits = agent_seated r.who r.made r.returned id a v v.kind agent_is (r.each_sits id v at) in
      let w_kind : w.kind ≡ Agent a = go.kind ∙ agent_is in
      rebuilt n s r id v w at go (set s.words p x) r.slot r.cargo (put2 r.stage p k c) (length-set s.words p x ∙ r.wide)
      (ports_stay s.words p x r.slot r.slot r.cargo r.cargo r.stage k c r.wide inside r.each_port (λ _ _. (refl, refl))
      (port_goes _ x _ r.slot r.cargo r.stage p c (r.each_port p inside) b.had not_granted word_is))
      (λ q m l. put2_keeps r.stage p k c q m (λ y. y ≡ unposted) (r.beyond q m l) (λ e _ _. absurd (omega arith)))
      mine
      (λ j d other e. knows_stays r.slot r.slot r.cargo r.cargo r.stage p k c f (λ _ _ _. refl) (λ q. omega arith) n s.words (set s.words p x) b.counts d
      (λ is. other (same_seat r.who r.made r.returned id j a d d d.kind sits.0 sits.1 (own (number_of d.kind) is) (r.each_sits j d e))) (r.each_seat j d e))
      (λ e. absurd (not_poster w a w_kind e))
      (λ j d _ e is. poster_stays r.slot r.cargo r.stage p c n s.words (set s.words p x) b d (r.posting j d e is))
      (λ q m u. put2_cases r.stage p k c q m
      (λ y. y ≡ drawn u → ((r.stage q m ≡ drawn u) × (grant_at r.cargo q m ≡ grant_at r.cargo q m) × (HasOut u (grant_at r.cargo q m) v → HasOut u (grant_at r.cargo q m) w)) ⊎
      ((r.who u ≡ id) × HasOut u (grant_at r.cargo q m) w))
      (λ far e. inl (e, refl, (λ h. (go.kind ∙ h.0, keep_out (grant_at r.cargo q m) h.1 far))))
      (λ qe me e. let t = new_out u e in
      inr (ap r.who t.0 ∙ sits.0, (w_kind ∙ ap Agent (sym t.0), subst (λ (z : ℕ × ℕ). Contains w.out (grant_at r.cargo z.0 z.1)) (λ i. (sym qe i, sym me i)) t.1))))
      (λ q m u h. put2_cases r.stage p k c q m
      (λ y. y ≡ reported u h → ((r.stage q m ≡ reported u h) × (grant_at r.cargo q m ≡ grant_at r.cargo q m) ×
      (HasDone u (report (grant_at r.cargo q m) h) v → HasDone u (report (grant_at r.cargo q m) h) w))
      ⊎ ((r.who u ≡ id) × HasDone u (report (grant_at r.cargo q m) h) w))
      (λ far e. inl (e, refl, has_done u (report (grant_at r.cargo q m) h)))
      (λ qe me e. let t = new_done u h e in
      inr (ap r.who t.0 ∙ sits.0, inl (w_kind ∙ ap Agent (sym t.0), subst (λ (z : ℕ × ℕ). Contains w.done (report (grant_at r.cargo z.0 z.1) h)) (λ i. (sym qe i, sym me i)) t.1))))
    where
      has_done : (u : ℕ) (y : Report) → HasDone u y v → HasDone u y w
      has_done u y h = ⊎_elim (λ (t : (v.kind ≡ Agent u) × Contains v.done y). inl (go.kind ∙ t.0, keep_done y t.1))
          (λ (t : (v.kind ≡ Poster) × ((z : Came) × Contains v.back z × (z.number ≡ u) × Contains z.done y)). absurd (not_poster v a agent_is t.0)) h

  -- no grant stands twice in the lists of a seat
  pub holds_once : (s : St) (cargo : ℕ → ℕ → Cargo) (stage : ℕ → ℕ → PortStage) (words : List ℕ) (slot : ℕ → ℕ) (v : View) → Knows cargo stage n words slot v → HoldsOnce v
  holds_once s cargo stage words slot v k = (
    k.drawn_once,
    (λ i d lt j e within pe se. subst IsReported (sym (k.done j e within).0 ∙ (ap (λ (z : ℕ × ℕ). stage z.0 z.1) (λ t. (pe t, se t)) ∙ (k.out i d lt).0)) tt),
    k.once,
  )

  -- what an agent knows once a look has shown that the last post which it has seen is gone
  missing : (s : St) (r : Kept n s) (p : ℕ) (looks : List (ℕ × ℕ)) (v : View) (P : Grant → Type 0) → All P v.shown →
      ((g : Grant) → P g → g.port ≡ p → Gone r.cargo r.stage (p, g.slot)) → Knows r.cargo r.stage n s.words r.slot v
      → All (Counts r.cargo r.stage n s.words Rests) v.out → Knows r.cargo r.stage n s.words r.slot (record v { step = Rests; looks = looks; missed = missed_after v p })
  missing s r p looks v P shown gone k rests = record {
    shown = k.shown;
    out = k.out;
    counts = rests;
    done = k.done;
    missed = misses P (Gone r.cargo r.stage) v p shown gone k.missed;
    drawn_once = k.drawn_once;
    once = (k.once.0, misses_once v p k.once.1);
    stepping = tt;
    came = k.came;
    posts = k.posts;
    settled = k.settled;
  }

  pub loading : (slots id : ℕ) (me : M) (p a : ℕ) → me.0.kind ≡ Agent a → me.0.step ≡ Rests → p < n → Allows (Kept n) slots id me p (λ x. x) (loads (step slots p 0 0 none) me)
  loading slots id me p a agent_is rests inside s r _ at _ =
      let x : ℕ = get_or s.words p 0 in
      let v : View = me.0 in
      let k = r.each_seat id v at in
      let port = r.each_port p inside in
      let fits = port.fits in
      let resting = subst (λ (st : Step). All (Counts r.cargo r.stage n s.words st) v.out) rests k.counts in
      let yes_view : View = record v { step = Loaded p x; looks = v.looks ++ (p, x) ∷ [] } in
      let no_view : View = record v { step = Rests; looks = v.looks ++ (p, x) ∷ []; missed = missed_after v p } in
      ⊎_elim
      (λ (is : shows_granted x ≡ true).
      let g : r.stage p (r.slot p) ≡ granted =
      (stage_is (r.stage p (r.slot p)) (r.slot p) (r.cargo p (r.slot p)).0 1 fits (eqb-true _ 1 (subst (λ (y : ℕ). shows_granted y ≡ true) port.word_is is))).0 refl in
      let posted : r.stage p (r.slot p) ≢ unposted = λ e. subst IsGranted (sym g ∙ e) tt in
      let yes_knows : Knows r.cargo r.stage n s.words r.slot yes_view = record {
        shown = k.shown;
        out = k.out;
        counts = resting;
        done = k.done;
        missed = k.missed;
        drawn_once = k.drawn_once;
        once = k.once;
        stepping = (
          r.slot p,
          port.word_is ∙ ap (λ (z : PortStage). word_of z (r.slot p) (r.cargo p (r.slot p)).0) g,
          omega arith,
          fits,
          posted,
          All-weaker (Posted r.cargo r.stage) (λ (q : Grant). q.port ≡ p → q.slot ≤ r.slot p)
              (λ q h e. dite (dec_le q.slot (r.slot p)) (λ l. l) (λ over. absurd (h.0 (subst (λ (z : ℕ). r.stage z q.slot ≡ unposted) (sym e) (port.later q.slot (omega arith))))))
              v.shown k.shown,
        );
        came = k.came;
        posts = k.posts;
        settled = k.settled;
      } in (
        yes_view,
        keeps,
        tt,
        unmoved n s r id v yes_view at (goes_same v yes_view refl refl refl) p (λ g h. h) (λ r h. h) yes_knows (λ e. absurd (not_poster v a agent_is e)),
        ((λ i. (sym (cond-true (shows_granted x) yes_view no_view is) i, me.1)), holds_once s r.cargo r.stage s.words r.slot yes_view yes_knows),
      ))
      (λ (not_so : shows_granted x ≡ false).
      let no_knows = (missing s r p (v.looks ++ (p, x) ∷ []) v (Posted r.cargo r.stage) k.shown
      (λ q h e. (
        subst (λ (z : ℕ). r.stage z q.slot ≢ unposted) e h.0,
        (λ g. let last = port.granted_last q.slot g in let g' = subst (λ (z : ℕ). r.stage p z ≡ granted) last g in
            true≢false (sym (shows_granted-granted _ _ fits) ∙
            (ap shows_granted (sym (port.word_is ∙ ap (λ (z : PortStage). word_of z (r.slot p) (r.cargo p (r.slot p)).0) g')) ∙ not_so))),
      )) k resting) in (
        no_view,
        keeps,
        tt,
        unmoved n s r id v no_view at (goes_same v no_view refl refl refl) p (λ g h. h) (λ r h. h)
            no_knows (λ e. absurd (not_poster v a agent_is e)),
        ((λ i. (sym (cond-false (shows_granted x) yes_view no_view not_so) i, me.1)), holds_once s r.cargo r.stage s.words r.slot no_view no_knows),
      ))
      (cases_Bool (shows_granted x))

  -- the exchange of the granted word that was loaded
  pub drawing : (slots id : ℕ) (me : M) (p old new a : ℕ) → me.0.kind ≡ Agent a → p < n → me.0.step ≡ Loaded p old → new ≡ old + 2305843009213693952
      → Allows (Kept n) slots id me p (λ x. either (eqb x old) new x) (draws (step slots p old new none) me)
  drawing slots id me p old new a agent_is inside was up s r _ at _ =
      let x : ℕ = get_or s.words p 0 in
      let v : View = me.0 in
      let k = r.each_seat id v at in
      let port = r.each_port p inside in
      let fits = port.fits in
      let saw = subst (StepOk r.cargo r.stage r.slot v) was k.stepping in
      let resting : All (Counts r.cargo r.stage n s.words Rests) v.out = subst (λ (st : Step). All (Counts r.cargo r.stage n s.words st) v.out) was k.counts in
      let count : ℕ = (r.cargo p (r.slot p)).1 in
      dite (ℕ_discrete x old)
      (λ hit.
      let g = granted_only (r.stage p (r.slot p)) (r.slot p) (r.cargo p (r.slot p)).0 saw.0 (r.cargo p saw.0).0 fits saw.3 (sym port.word_is ∙ (hit ∙ saw.1)) in
      let c : PortStage = drawn a in
      let stage' : ℕ → ℕ → PortStage = put2 r.stage p (r.slot p) c in
      let words' : List ℕ = set s.words p new in
      let not_drawn : (j : ℕ) → r.stage p (r.slot p) ≢ drawn j = λ j e. subst IsGranted (sym g.0 ∙ e) tt in
      let had : r.stage p (r.slot p) ≢ unposted = λ e. subst IsGranted (sym g.0 ∙ e) tt in
      let f : Follows (r.stage p (r.slot p)) c = record {
        made = λ e. subst IsDrawn e tt;
        open_yet = λ b m e. subst IsGranted (sym g.0 ∙ e) tt;
        not_taken = λ e. subst IsGranted (sym g.0 ∙ e) tt;
        granted_new = λ e. absurd (subst IsDrawn e tt);
      } in
      let counts' : (q : ℕ) → slice_index words' (n + q) ≡ slice_index s.words (n + q) = λ q. get_or-set_other s.words p (n + q) new 0 (λ e. absurd (omega arith)) in
      let b : ByAgent r.slot r.cargo r.stage p c n s.words words' = record {
        had = had;
        made = f.made;
        held = λ no _. no g.0;
        kept = λ e. subst IsDrawn e tt;
        open_still = f.open_yet;
        counted = λ b m e. absurd (subst IsDrawn e tt);
        counts = counts';
      } in
      let w : View = after_win p x count v in
      let number_is : number_of v.kind ≡ a = ap number_of agent_is in
      let stays = knows_stays r.slot r.slot r.cargo r.cargo r.stage p (r.slot p) c f (λ _ _ _. refl) (λ q. omega arith) n s.words words' counts' v (not_drawn (number_of v.kind)) k
      in
      let slot_is : slot_of x ≡ r.slot p = ap slot_of (hit ∙ saw.1) ∙ (slot_of-granted saw.0 (r.cargo p saw.0).0 saw.3 ∙ sym g.1) in
      let flow_is : flow_of x ≡ (r.cargo p (r.slot p)).0 = ap flow_of (hit ∙ saw.1) ∙ (flow_of-granted saw.0 (r.cargo p saw.0).0 saw.3 ∙ sym g.2) in
      let it : Grant = grant p (slot_of x) (flow_of x) count in
      let it_is : it ≡ grant_at r.cargo p (r.slot p) = λ i. record { port = p; slot = slot_is i; flow = flow_is i; length = count } in
      let at_last = g.1 in
      let newest : IsNewest it v.shown = record {
        latest = All-weaker (λ (q : Grant). q.port ≡ p → q.slot ≤ saw.0) (λ (q : Grant). q.port ≡ p → q.slot ≤ slot_of x) (λ q h e. let le = h e in omega arith) v.shown saw.5;
        same = All-weaker (Posted r.cargo r.stage) (λ (q : Grant). q.port ≡ p → q.slot ≡ slot_of x → q ≡ it)
            (λ q h pe se. h.1 ∙ ((λ i. grant_at r.cargo (pe i) ((se ∙ slot_is) i)) ∙ sym it_is)) v.shown k.shown;
      } in
      let mine : Knows r.cargo stage' n words' r.slot w = record {
        shown = stays.shown;
        out = All-push (Out r.cargo stage' (number_of v.kind)) v.out it stays.out
            (subst (Out r.cargo stage' (number_of v.kind)) (sym it_is) (put2_here r.stage p (r.slot p) c ∙ ap drawn (sym number_is), refl));
        counts = All-push (Counts r.cargo stage' n words' (Won p count)) v.out it (subst (λ (st : Step). All (Counts r.cargo stage' n words' st) v.out) was stays.counts)
            (counts' p ∙ port.count_is g.0);
        done = stays.done;
        missed = stays.missed;
        drawn_once = all_pairs_push DifferAt v.out it k.drawn_once
            (λ i d lt pe se. not_drawn (number_of v.kind) (subst (λ (z : ℕ × ℕ). r.stage z.0 z.1 ≡ drawn (number_of v.kind)) (λ t. (pe t, (se ∙ slot_is) t)) (k.out i d lt).0));
        once = k.once;
        stepping = (it, Contains-push v.out it, refl, refl);
        came = stays.came;
        posts = stays.posts;
        settled = stays.settled;
      } in
      let word_is = port.word_is in
      let word_was : word_of (r.stage p (r.slot p)) (r.slot p) (r.cargo p (r.slot p)).0 ≡ word_of granted (r.slot p) (r.cargo p (r.slot p)).0 =
      ap (λ (z : PortStage). word_of z (r.slot p) (r.cargo p (r.slot p)).0) g.0 in (
        w,
        keeps,
        tt,
        subst (λ (b : Bool). Kept n (stepped s p (either b new x) id me.1 w keeps)) (sym (eq-eqb x old hit))
            (moved s r id a p new v w c inside at agent_is (goes_same v w refl refl refl) f b (λ e. subst IsDrawn e tt) (omega arith) mine (λ u e. absurd (not_drawn u e))
            (λ u e. (sym (ap drawer e), subst (Contains w.out) it_is (Contains-push v.out it))) (λ u m e. absurd (subst IsDrawn e tt))
            (λ q h _. Contains-append_left v.out (it ∷ []) q h) (λ y h. h)),
        (
          count,
          ap (λ (b : Bool). (cond b (after_win p x count v) (after_miss p x v), me.1)) (sym (eq-eqb x old hit)),
          holds_once s r.cargo stage' words' r.slot w mine,
          (λ _. newest),
        ),
      ))
      (λ miss.
      let w : View = after_miss p x v in
      let gone : (q : Grant) → Posted r.cargo r.stage q × (q.port ≡ p → q.slot ≤ saw.0) → q.port ≡ p → Gone r.cargo r.stage (p, q.slot) = λ q h e. (
        subst (λ (z : ℕ). r.stage z q.slot ≢ unposted) e h.0.0,
        (λ g. let last = port.granted_last q.slot g in let up = h.1 e in let below = saw.2 in
            let same : r.slot p ≡ saw.0 = omega arith in
            let g' : r.stage p (r.slot p) ≡ granted = subst (λ z. r.stage p z ≡ granted) last g in
            miss (port.word_is ∙ (ap (λ (z : PortStage). word_of z (r.slot p) (r.cargo p (r.slot p)).0) g' ∙ (ap (λ z. word_of granted z (r.cargo p z).0) same ∙ sym saw.1)))),
      ) in
      let mine = missing s r p (v.looks ++ (p, x) ∷ []) v (λ (q : Grant). Posted r.cargo r.stage q × (q.port ≡ p → q.slot ≤ saw.0)) (λ i d l. (k.shown i d l, saw.5 i d l)) gone k
      resting in (
        w,
        keeps,
        tt,
        subst (λ (b : Bool). Kept n (stepped s p (either b new x) id me.1 w keeps)) (sym (ne_eqb x old miss))
            (unmoved n s r id v w at (goes_same v w refl refl refl) p (λ g h. h) (λ r h. h) mine (λ e. absurd (not_poster v a agent_is e))),
        (
          count,
          ap (λ (b : Bool). (cond b (after_win p x count v) (after_miss p x v), me.1)) (sym (ne_eqb x old miss)),
          holds_once s r.cargo r.stage s.words r.slot w mine,
          (λ hit. absurd (miss hit)),
        ),
      ))
