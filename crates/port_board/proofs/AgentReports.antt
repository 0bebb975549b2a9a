-- An agent reads the length of a grant that it drew, counts its units and reports them.
use Rattle.std.proofs.Common.{◌≡◌, ◌≢◌, ◌⊎◌, inl, inr, ℕ, ◌+◌, ◌<◌, ◌≤◌, eqb, List, [], ◌∷◌, get_or, set, sym, refl, ap, ◌∙◌, subst, arith, Bool, true}
use Rattle.std.proofs.Common.{filter, not, true≢false, length-set, get_or-set_other, get_or-set_same, eq-eqb, ne_eqb}
use Rattle.std.specs.Prelude.{All, Contains, slice_index}
use Rattle.std.proofs.lemmas.List.Elements.{All-push, All-weaker, All-filter, filter_passes, All-contains, Contains-push, Contains-append_left}
use Rattle.std.proofs.lemmas.List.Quantifiers.{all_pairs_push}
use Rattle.std.proofs.lemmas.List.Kept.{AllPairs-filter}
use Rattle.std.proofs.lemmas.Bool.{cond-true, cond-false}
use mathlib.Core.Logic.{dite}
use mathlib.Core.Option.{none}
use native.Mathlib.Decide.{ℕ_discrete}
use Rattle.atomic_table.specs.Table.{step, keeps, Allows}
use Rattle.coflow_units.specs.PortWord.{PortStage, word_of, slot_of}
use Rattle.coflow_units.specs.PortWord.PortStage.{unposted, drawn, reported}
use Rattle.port_board.specs.declared.view.Grant.{Grant}
use Rattle.port_board.specs.declared.view.Report.{Report}
use Rattle.port_board.specs.declared.view.Step.{Step}
use Rattle.port_board.specs.declared.view.Step.TheVariants.{Rests, Won, Counted}
use Rattle.port_board.specs.declared.view.View.{View}
use Rattle.port_board.specs.declared.view.Kind.TheVariants.{Agent}
use Rattle.port_board.specs.Views.{report, number_of, is_of, reported_as}
use Rattle.port_board.specs.Rule.{grant_at, count_after, DifferAt, ReportsDiffer, Posted, Out, Back, Gone, Closed, CameOk, StepOk, Counts, Knows}
use Rattle.port_board.specs.Rule.{Kept}
use Rattle.port_board.specs.Tells.{won_count, after_length, reads_length, count_held, counts, reports}
use Rattle.coflow_units.proofs.PortWords.{IsDrawn, IsReported, drawer, reporter, units, slot_of-reported}
use Rattle.port_board.proofs.Puts.{put2, put2_here, put2_other}
use Rattle.port_board.proofs.Lists.{is_of-same, is_of-false, filter_keeps}
use Rattle.port_board.proofs.Stays.{Follows, posted_stays, back_stays, gone_stays, closed_stays, came_stays, knows_stays_counted, ByAgent}
use Rattle.port_board.proofs.Stays.{poster_stays_counted}
use Rattle.port_board.proofs.Moves.{rebuilt, unmoved, same_seat, agent_seated}
use Rattle.port_board.proofs.AgentSteps.{M, goes_same, not_poster, counts_stay, moved, holds_once}

module _ (n : ℕ) where
  -- the read of the length, by the agent that drew the grant
  pub reading_length : (slots id : ℕ) (me : M) (i p count a : ℕ) → me.0.kind ≡ Agent a → me.0.step ≡ Won p count → p < n → i ≡ n + p →
      Allows (Kept n) slots id me i (λ x. x) (reads_length (step slots i 0 0 none) me)
  reading_length slots id me i p count a agent_is won inside at_count s r _ at _ =
      let x : ℕ = get_or s.words i 0 in
      let v : View = me.0 in
      let k = r.each_seat id v at in
      let port = r.each_port p inside in
      let has = subst (StepOk r.cargo r.stage r.slot v) won k.stepping in
      let g : Grant = has.0 in
      let resting : All (Counts r.cargo r.stage n s.words Rests) v.out = subst (λ (st : Step). All (Counts r.cargo r.stage n s.words st) v.out) won k.counts in
      let is_out = All-contains (Out r.cargo r.stage (number_of v.kind)) v.out g k.out has.1 in
      let found : x ≡ count = ap (λ (z : ℕ). get_or s.words z 0) (at_count ∙ ap (λ (z : ℕ). n + z) (sym has.2)) ∙
      (All-contains (Counts r.cargo r.stage n s.words Rests) v.out g resting has.1 ∙ has.3) in
      let posted : r.stage p g.slot ≢ unposted = λ e. subst IsDrawn (sym is_out.0 ∙ subst (λ (z : ℕ). r.stage z g.slot ≡ unposted) (sym has.2) e) tt in
      let long = port.lengths g.slot posted in
      let length_is : (r.cargo p g.slot).1 ≡ x = ap (λ (z : ℕ). (r.cargo z g.slot).1) (sym has.2) ∙ (ap (λ (z : Grant). z.length) (sym is_out.1) ∙ (has.3 ∙ sym found)) in
      let w : View = after_length i x v in (
        w,
        keeps,
        tt,
        unmoved n s r id v w at (goes_same v w refl refl refl) i (λ h t. t) (λ y t. t) record {
          shown = k.shown;
          out = k.out;
          counts = resting;
          done = k.done;
          missed = k.missed;
          drawn_once = k.drawn_once;
          once = k.once;
          stepping = tt;
          came = k.came;
          posts = k.posts;
          settled = k.settled;
        } (λ e. absurd (not_poster v a agent_is e)),
        (
          refl,
          found ∙ ap won_count (sym won),
          subst (λ (z : ℕ). 1 ≤ z) length_is long.0,
          subst (λ (z : ℕ). z ≤ 2199023255552) length_is long.1,
          holds_once n s r.cargo r.stage s.words r.slot v k,
        ),
      )

  -- the count written by the agent that has the grant out
  pub counting : (slots id : ℕ) (me : M) (i p m a : ℕ) (g : Grant) → me.0.kind ≡ Agent a → me.0.step ≡ Rests → Contains me.0.out g → g.port ≡ p → p < n → i ≡ n + p →
      Allows (Kept n) slots id me i (λ _. m) (λ _. counts (step slots i m 0 none) me m)
  counting slots id me i p m a g agent_is rests has at_port inside at_count s r _ at _ =
      let v : View = me.0 in
      let k = r.each_seat id v at in
      let port = r.each_port p inside in
      let w : View = record v { step = Counted i m } in
      let number_is : number_of v.kind ≡ a = ap number_of agent_is in
      let is_out = All-contains (Out r.cargo r.stage (number_of v.kind)) v.out g k.out has in
      let mine : r.stage p g.slot ≡ drawn a = subst (λ (z : ℕ). r.stage z g.slot ≡ drawn a) at_port (is_out.0 ∙ ap drawn number_is) in
      let last : g.slot ≡ r.slot p = port.drawn_last g.slot a mine in
      let drawn_is : r.stage p (r.slot p) ≡ drawn a = subst (λ (z : ℕ). r.stage p z ≡ drawn a) last mine in
      let sits = agent_seated r.who r.made r.returned id a v v.kind agent_is (r.each_sits id v at) in
      let wide = r.wide in
      let words' : List ℕ = set s.words (n + p) m in
      let resting : All (Counts r.cargo r.stage n s.words Rests) v.out = subst (λ (st : Step). All (Counts r.cargo r.stage n s.words st) v.out) rests k.counts in
      let counted_now : (h : Grant) → Counts r.cargo r.stage n s.words Rests h → Counts r.cargo r.stage n words' (Counted i m) h = λ h was. dite (ℕ_discrete h.port p)
      (λ e.
      let here : n + h.port ≡ n + p = ap (λ (z : ℕ). n + z) e in
      ap (λ (z : ℕ). get_or words' z 0) here ∙
      (get_or-set_same s.words (n + p) m 0 (omega arith) ∙ sym (cond-true (eqb (n + h.port) i) m h.length (eq-eqb (n + h.port) i (here ∙ sym at_count)))))
      (λ other.
      let away : n + h.port ≢ n + p = λ e. other (omega arith) in
      get_or-set_other s.words (n + p) (n + h.port) m 0 away ∙ (was ∙ sym (cond-false (eqb (n + h.port) i) m h.length (ne_eqb (n + h.port) i (λ e. away (e ∙ at_count)))))) in (
        w,
        keeps,
        tt,
        subst (λ (z : ℕ). Kept n record { words = set s.words z m; homes = s.homes; views = set s.views id w }) (sym at_count)
            (rebuilt n s r id v w at (goes_same v w refl refl refl) words' r.slot r.cargo r.stage (length-set s.words (n + p) m ∙ r.wide)
            (counts_stay n s.words p m r.slot r.cargo r.stage r.wide inside r.each_port (λ e. subst IsDrawn (sym drawn_is ∙ e) tt)) r.beyond
            (record {
              shown = k.shown;
              out = k.out;
              counts = All-weaker (Counts r.cargo r.stage n s.words Rests) (Counts r.cargo r.stage n words' (Counted i m)) counted_now v.out resting;
              done = k.done;
              missed = k.missed;
              drawn_once = k.drawn_once;
              once = k.once;
              stepping = tt;
              came = k.came;
              posts = k.posts;
              settled = k.settled;
            })
            (λ j d other e. knows_stays_counted r.cargo r.stage n s.words r.slot p m d
            (λ h o here. other
            (same_seat r.who r.made r.returned id j a d d d.kind sits.0 sits.1
            (ap drawer (sym (subst (λ (z : ℕ × ℕ). r.stage z.0 z.1 ≡ drawn (number_of d.kind))
            (λ t. (here t, port.drawn_last h.slot (number_of d.kind) (subst (λ (z : ℕ). r.stage z h.slot ≡ drawn (number_of d.kind)) here o.0) t)) o.0) ∙ drawn_is))
            (r.each_sits j d e)))
            (r.each_seat j d e))
            (λ e. absurd (not_poster v a agent_is e)) (λ j d _ e is. poster_stays_counted r.slot r.cargo r.stage p a m n s.words drawn_is d (r.posting j d e is))
            (λ q u b e. inl (e, refl, (λ h. h))) (λ q u b h e. inl (e, refl, (λ t. t)))),
        refl,
      )

  -- what the agent knows of the count word of a port where it has a grant of this length out: it has written the number
  -- there, or the number is the length
  abbrev pub WroteCount : ℕ → ℕ → ℕ → Step → Type 0
  WroteCount p length sent st = (st ≡ Counted (n + p) sent) ⊎ ((st ≡ Rests) × (length ≡ sent))

  count_there : (p length sent : ℕ) (st : Step) → WroteCount p length sent st → count_after n st p length ≡ sent
  count_there p length sent st (inl is) = ap (λ z. count_after n z p length) is ∙ cond-true (eqb (n + p) (n + p)) sent length (eq-eqb (n + p) (n + p) refl)
  count_there p length sent st (inr is) = ap (λ z. count_after n z p length) is.0 ∙ is.1

  count_elsewhere : (p length sent : ℕ) (st : Step) → WroteCount p length sent st → (q l : ℕ) → q ≢ p → count_after n st q l ≡ l
  count_elsewhere p length sent st (inl is) q l other = ap (λ z. count_after n z q l) is ∙
      cond-false (eqb (n + q) (n + p)) sent l (ne_eqb (n + q) (n + p) (λ e. other (omega arith)))
  count_elsewhere p length sent st (inr is) q l other = ap (λ z. count_after n z q l) is.0

  pub count_told : (p length sent : ℕ) (st : Step) → WroteCount p length sent st → count_held st length ≡ sent
  count_told p length sent st (inl is) = ap (λ z. count_held z length) is
  count_told p length sent st (inr is) = ap (λ z. count_held z length) is.0 ∙ is.1

  -- the report by the agent that has the grant out, for the number that its count word holds
  pub reporting : (slots id : ℕ) (me : M) (p x sent a : ℕ) (g : Grant) → me.0.kind ≡ Agent a → WroteCount p g.length sent me.0.step → Contains me.0.out g → g.port ≡ p → p < n →
      x ≡ word_of (reported a sent) g.slot g.flow
      → Allows (Kept n) slots id me p (λ _. x) (λ _. reports (step slots p x 0 none) me x)
  reporting slots id me p x sent a g agent_is was has at_port inside word_is s r _ at _ =
      let v : View = me.0 in
      let k = r.each_seat id v at in
      let port = r.each_port p inside in
      let fits = port.fits in
      let wide = r.wide in
      let c : PortStage = reported a sent in
      let number_is : number_of v.kind ≡ a = ap number_of agent_is in
      let is_out = All-contains (Out r.cargo r.stage (number_of v.kind)) v.out g k.out has in
      let mine : r.stage p g.slot ≡ drawn a = subst (λ (z : ℕ). r.stage z g.slot ≡ drawn a) at_port (is_out.0 ∙ ap drawn number_is) in
      let last : g.slot ≡ r.slot p = port.drawn_last g.slot a mine in
      let drawn_is : r.stage p (r.slot p) ≡ drawn a = subst (λ (z : ℕ). r.stage p z ≡ drawn a) last mine in
      let it_is : g ≡ grant_at r.cargo p (r.slot p) = is_out.1 ∙ (λ i. grant_at r.cargo (at_port i) (last i)) in
      let words' : List ℕ = set s.words p x in
      let stage' : ℕ → ℕ → PortStage = put2 r.stage p (r.slot p) c in
      let w : View = reported_as g sent v in
      let had : r.stage p (r.slot p) ≢ unposted = λ e. subst IsDrawn (sym drawn_is ∙ e) tt in
      let f : Follows (r.stage p (r.slot p)) c = record {
        made = λ e. subst IsReported e tt;
        open_yet = λ b m e. subst IsDrawn (sym drawn_is ∙ e) tt;
        not_taken = λ e. subst IsDrawn (sym drawn_is ∙ e) tt;
        granted_new = λ e. absurd (subst IsReported e tt);
      } in
      let counts' : (q : ℕ) → slice_index words' (n + q) ≡ slice_index s.words (n + q) = λ q. get_or-set_other s.words p (n + q) x 0 (λ e. absurd (omega arith)) in
      let count_is : slice_index s.words (n + p) ≡ sent =
      subst (λ (z : ℕ). slice_index s.words (n + z) ≡ count_after n v.step z g.length) at_port
      (All-contains (Counts r.cargo r.stage n s.words v.step) v.out g k.counts has)
      ∙ count_there p g.length sent v.step was in
      let b : ByAgent r.slot r.cargo r.stage p c n s.words words' = record {
        had = had;
        made = f.made;
        held = λ _ no. no a drawn_is;
        kept = λ e. subst IsReported e tt;
        open_still = f.open_yet;
        counted = λ u m e. count_is ∙ ap units e;
        counts = counts';
      } in
      let test : Grant → Bool = λ h. not (is_of g.port g.slot h) in
      let passes : All (λ h. test h ≡ true) (filter test v.out) = filter_passes test v.out in
      let outs : All (Out r.cargo r.stage (number_of v.kind)) (filter test v.out) = All-filter test (Out r.cargo r.stage (number_of v.kind)) v.out k.out in
      let olds : All (Counts r.cargo r.stage n s.words v.step) (filter test v.out) = All-filter test (Counts r.cargo r.stage n s.words v.step) v.out k.counts in
      let apart : (h : Grant) → Out r.cargo r.stage (number_of v.kind) h → test h ≡ true → h.port ≢ p = λ h o t e. true≢false
      (sym t ∙ ap not (is_of-same g.port g.slot h (e ∙ sym at_port)
      (port.drawn_last h.slot (number_of v.kind) (subst (λ (z : ℕ). r.stage z h.slot ≡ drawn (number_of v.kind)) e o.0) ∙ sym last))) in
      let mine : Knows r.cargo stage' n words' r.slot w = record {
        shown = All-weaker (Posted r.cargo r.stage) (Posted r.cargo stage') (posted_stays r.slot r.slot r.cargo r.cargo r.stage p (r.slot p) c f (λ _ _ _. refl) (λ q. omega arith))
            v.shown k.shown;
        out = λ i d lt. let h : Grant = get_or (filter test v.out) i d in let o = outs i d lt in
            (put2_other r.stage p (r.slot p) c h.port h.slot (λ e _. apart h o (passes i d lt) e) ∙ o.0, o.1);
        counts = λ i d lt. let h : Grant = get_or (filter test v.out) i d in let away = apart h (outs i d lt) (passes i d lt) in
            counts' h.port ∙ (olds i d lt ∙ count_elsewhere p g.length sent v.step was h.port h.length away);
        done = All-push (Back r.cargo stage' (number_of v.kind)) v.done (report g sent)
            (All-weaker (Back r.cargo r.stage (number_of v.kind)) (Back r.cargo stage' (number_of v.kind))
            (back_stays r.slot r.slot r.cargo r.cargo r.stage p (r.slot p) c f (λ _ _ _. refl) (λ q. omega arith) (number_of v.kind)) v.done k.done)
            (ap (λ (z : ℕ × ℕ). stage' z.0 z.1) (λ i. (at_port i, last i)) ∙ (put2_here r.stage p (r.slot p) c ∙ ap (λ (z : ℕ). reported z sent) (sym number_is)), is_out.1);
        missed = All-weaker (Gone r.cargo r.stage) (Gone r.cargo stage') (gone_stays r.slot r.slot r.cargo r.cargo r.stage p (r.slot p) c f (λ _ _ _. refl) (λ q. omega arith))
            v.missed k.missed;
        drawn_once = AllPairs-filter DifferAt test v.out k.drawn_once;
        once = (
          all_pairs_push ReportsDiffer v.done (report g sent) k.once.0
              (λ i d lt pe se. subst IsReported (sym (k.done i d lt).0 ∙ (ap (λ (z : ℕ × ℕ). r.stage z.0 z.1) (λ t. (pe t, se t)) ∙ is_out.0)) tt),
          k.once.1,
        );
        stepping = tt;
        came = All-weaker (CameOk r.cargo r.stage) (CameOk r.cargo stage') (came_stays r.slot r.slot r.cargo r.cargo r.stage p (r.slot p) c f (λ _ _ _. refl) (λ q. omega arith))
            v.back k.came;
        posts = All-weaker (Posted r.cargo r.stage) (Posted r.cargo stage') (posted_stays r.slot r.slot r.cargo r.cargo r.stage p (r.slot p) c f (λ _ _ _. refl) (λ q. omega arith))
            v.posts k.posts;
        settled = All-weaker (Closed r.cargo r.stage) (Closed r.cargo stage')
            (closed_stays r.slot r.slot r.cargo r.cargo r.stage p (r.slot p) c f (λ _ _ _. refl) (λ q. omega arith)) v.settled k.settled;
      } in
      let word_now : x ≡ word_of c (r.slot p) (r.cargo p (r.slot p)).0 = word_is ∙ ap (λ (z : Grant). word_of c z.slot z.flow) it_is in
      let slot_is : slot_of x ≡ g.slot = ap slot_of word_now ∙ (slot_of-reported a sent (r.slot p) (r.cargo p (r.slot p)).0 fits ∙ sym last) in (
        w,
        keeps,
        tt,
        moved n s r id a p x v w c inside at agent_is (goes_same v w refl refl refl) f b (λ e. subst IsReported e tt) word_now mine
            (λ u e. ap drawer (sym e ∙ drawn_is)) (λ u e. absurd (subst IsReported e tt))
            (λ u m e. (sym (ap reporter e), subst (λ (y : Report). Contains w.done y) (λ i. report (it_is i) (ap units e i)) (Contains-push v.done (report g sent))))
            (λ h t far. filter_keeps test v.out h t (ap not (is_of-false g.port g.slot h (λ pe se. far (pe ∙ at_port) (se ∙ last)))))
            (λ y t. Contains-append_left v.done (report g sent ∷ []) y t),
        (λ h t pe se. let o = All-contains (Out r.cargo r.stage (number_of v.kind)) v.out h k.out t in
            let same : h ≡ g = o.1 ∙ ((λ i. grant_at r.cargo ((pe ∙ sym at_port) i) ((se ∙ slot_is) i)) ∙ sym is_out.1) in
            λ i. (reported_as (sym same i) ((sym (count_told p g.length sent v.step was) ∙ ap (λ (y : Grant). count_held v.step y.length) (sym same)) i) v, me.1)),
      )
