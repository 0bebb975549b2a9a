-- What the rule says of the poster's lists.
use Rattle.std.proofs.Common.{◌≡◌, ◌≢◌, ◌⊎◌, inl, inr, ℕ, zero, suc, ◌<◌, ◌≤◌, eqb, List, [], ◌∷◌, length, get_or, sym, refl, ap, ◌∙◌, subst, ⊎_elim, arith, Option, Some, None}
use Rattle.std.proofs.Common.{Bool, true, false, cond, not, true≢false, ◌||◌, eq-eqb}
use Rattle.std.specs.Prelude.{All, AllPairs, Contains}
use Rattle.std.proofs.lemmas.List.Elements.{All-nil, All-weaker, All-contains}
use Rattle.std.proofs.lemmas.List.Folds.{list_any_at, Any-from_list_any}
use Rattle.std.proofs.lemmas.Bool.{cond-true, eqb-true}
use mathlib.Core.Logic.{dite}
use mathlib.Core.Option.{some, some-injective}
use native.Mathlib.Decide.{dec_le, ℕ_discrete}
use lib.ListN.{get_elem?}
use Rattle.coflow_units.specs.PortWord.{PortStage, word_of, shows_granted, shows_drawn, shows_reported, slot_of, flow_of}
use Rattle.coflow_units.specs.PortWord.PortStage.{unposted, granted, drawn, reported, taken_back}
use Rattle.port_board.specs.declared.view.Grant.{Grant}
use Rattle.port_board.specs.declared.view.Report.{Report}
use Rattle.port_board.specs.declared.view.Settlement.{Settlement}
use Rattle.port_board.specs.declared.view.View.{View}
use Rattle.port_board.specs.declared.view.Came.{Came}
use Rattle.port_board.specs.declared.view.Kind.TheVariants.{Agent, Poster}
use Rattle.port_board.specs.Views.{report, settlement, is_of, last_at, slot_or_none, is_settled, is_left, is_unsettled, ShowsLast}
use Rattle.port_board.specs.Rule.{grant_at, stage_after, DifferAt, StandOnce, Posted, Back, Gone, Closed, CameOk, Knows, PosterOk, agent, agents, IsNumber, Seated, Kept}
use Rattle.port_board.specs.Agreement.{SharesNothing, EachPosted, EachMissedPosted, AnswersAgree, SentCameBack, SentByAgent, Agrees, NobodyHad}
use Rattle.port_board.specs.Tells.{IsPending}
use Rattle.coflow_units.proofs.PortWords.{IsGranted, IsDrawn, IsReported, IsTaken, reporter, units, shows_post}
use Rattle.coflow_units.proofs.PortWords.{shows_granted-granted, shows_drawn-drawn, shows_reported-reported, stage_is}
use Rattle.port_board.proofs.Lists.{last_is, is_of-true, is_of-same}
use Rattle.port_board.proofs.Moves.{St, total_none}
use Rattle.port_board.proofs.AgentSteps.{not_poster}
use Rattle.std.proofs.lemmas.List.{get_or_default}

-- the agents out, where one is seen
module _ (n : ℕ) (s : St) (r : Kept n s) (id : ℕ) (v : View) (at : get_elem? s.views id ≡ some v) (is : v.kind ≡ Poster) where
  pub its : Seated r.who r.made r.returned id v Poster
  its = subst (Seated r.who r.made r.returned id v) is (r.each_sits id v at)

  knows : Knows r.cargo r.stage n s.words r.slot v
  knows = r.each_seat id v at

  posting : PosterOk r.cargo r.stage n s.words r.slot v
  posting = r.posting id v at is

  pub one_out : (j a : ℕ) (d : View) → get_elem? s.views j ≡ some d → d.kind ≡ Agent a → length v.back < v.made
  one_out j a d e kind = ⊎_elim (λ (t : r.made ≤ r.returned). absurd (none_out t)) (λ (t : r.returned < r.made). let b = its.1 in let c = its.2 in
      omega arith) (order r.made r.returned)
    where
      none_out : r.made ≤ r.returned → ⊥
      none_out t = let seated = r.seated in let none_left = total_none agents s.views j d e (omega arith) in let one : agents d ≡ 1 = ap agent kind in absurd (omega arith)

      order : (x y : ℕ) → (x ≤ y) ⊎ (y < x)
      order x y = dite (dec_le x y) (λ l. inl l) (λ g. inr (omega arith))

  apart : AllPairs SharesNothing v.back
  apart i j d lt within x y cx cy pe se =
      let c : Came = get_or v.back i d in
      let e : Came = get_or v.back j d in
      let one = All-contains (Back r.cargo r.stage c.number) c.done x (knows.came i d (omega arith)).0 cx in
      let two = All-contains (Back r.cargo r.stage e.number) e.done y (knows.came j d within).0 cy in
      its.4 i j d lt within (ap reporter (sym one.0 ∙ (ap (λ (z : ℕ × ℕ). r.stage z.0 z.1) (λ t. (pe t, se t)) ∙ two.0)))

  posted : EachPosted v
  posted i d lt k x inside =
      let c : Came = get_or v.back i d in
      let y : Report = get_or c.done k x in
      let b = (knows.came i d lt).0 k x inside in
      subst (Contains v.posts) (sym b.1) (posting.each_post y.grant.port y.grant.slot (λ e. subst IsReported (sym b.0 ∙ e) tt))

  missed : EachMissedPosted v
  missed i d lt k x inside =
      let c : Came = get_or v.back i d in
      let m : ℕ × ℕ = get_or c.missed k x in
      let b = (knows.came i d lt).1 k x inside in
      (grant_at r.cargo m.0 m.1, posting.each_post m.0 m.1 b.0, refl, refl)

  answers : AnswersAgree v
  answers c x y has_c has_x has_y pe se =
      let b = All-contains (Back r.cargo r.stage c.number) c.done x (All-contains (CameOk r.cargo r.stage) v.back c knows.came has_c).0 has_x in
      let closed = All-contains (Closed r.cargo r.stage) v.settled y knows.settled has_y in
      by_answer y.sent (r.stage y.grant.port y.grant.slot) closed.0 (ap (λ (z : ℕ × ℕ). r.stage z.0 z.1) (λ t. (pe t, se t)) ∙ b.0)
    where
      by_answer : (o : Option ℕ) (st : PortStage) → stage_after o st → st ≡ reported c.number x.sent → o ≡ Some x.sent
      by_answer None st h e = absurd (subst IsTaken (sym h ∙ e) tt)
      by_answer (Some m) st h e = ap Some (ap units (sym h.1 ∙ e))

  sent : SentCameBack v
  sent all y m has said =
      let closed = All-contains (Closed r.cargo r.stage) v.settled y knows.settled has in
      let after = subst (λ (o : Option ℕ). stage_after o (r.stage y.grant.port y.grant.slot)) said closed.0 in
      let a : ℕ = after.0 in
      let d = r.reported_there y.grant.port y.grant.slot a m after.1 in
      let u : View = d.0 in
      let R : Report = report (grant_at r.cargo y.grant.port y.grant.slot) m in
      let found : (c : Came) × Contains v.back c × Contains c.done R = ⊎_elim
      (λ (t : (u.kind ≡ Agent a) × Contains u.done R). let out = one_out (r.who a) a u d.1 t.0 in absurd (omega arith))
      (λ (t : (u.kind ≡ Poster) × ((c : Came) × Contains u.back c × (c.number ≡ a) × Contains c.done R)).
      let theirs = subst (Seated r.who r.made r.returned (r.who a) u) t.0 (r.each_sits (r.who a) u d.1) in
      let same_place : r.who a ≡ id = sym theirs.0 ∙ its.0 in
      let same : u ≡ v = some-injective u v (sym d.1 ∙ (ap (get_elem? s.views) same_place ∙ at)) in
      (t.1.0, subst (λ (z : View). Contains z.back t.1.0) same t.1.1, t.1.3))
      d.2 in
      (found.0, found.1, subst (λ (g : Grant). Contains found.0.done (report g m)) (sym closed.1) found.2)

  -- two seats that came back under one number are one
  one_number : (c d : Came) → Contains v.back c → Contains v.back d → c.number ≡ d.number → c ≡ d
  one_number c d has_c has_d same = dite (ℕ_discrete has_c.0 has_d.0)
      (λ e. sym has_c.2 ∙ (ap (λ (i : ℕ). get_or v.back i c) e ∙ get_or_default v.back has_d.0 c d has_d.1 ∙ has_d.2))
      (λ far. dite (dec_le has_c.0 has_d.0) (λ below. absurd (differ has_c.0 has_d.0 c d (omega arith) has_d.1 has_c.2 has_d.2 same))
      (λ above. absurd (differ has_d.0 has_c.0 d c (omega arith) has_c.1 has_d.2 has_c.2 (sym same))))
    where
      differ : (i j : ℕ) (x y : Came) → i < j → j < length v.back → get_or v.back i x ≡ x → get_or v.back j y ≡ y → x.number ≡ y.number → ⊥
      differ i j x y lt within x_is y_is e =
          its.4 i j x lt within (ap (λ (z : Came). z.number) x_is ∙ (e ∙ ap (λ (z : Came). z.number) (sym y_is ∙ get_or_default v.back j y x within)))

  by_agent : SentByAgent v
  by_agent y m has said =
      let closed = All-contains (Closed r.cargo r.stage) v.settled y knows.settled has in
      let after = subst (λ (o : Option ℕ). stage_after o (r.stage y.grant.port y.grant.slot)) said closed.0 in
      let a : ℕ = after.0 in
      let d = r.reported_there y.grant.port y.grant.slot a m after.1 in
      let u : View = d.0 in
      let R : Report = report (grant_at r.cargo y.grant.port y.grant.slot) m in
      let number : (c : Came) → Contains v.back c →
      (r.who c.number ≡ id) × (0 < c.number) × (c.number ≤ r.made) = λ c h. All-contains (IsNumber r.who r.made id) v.back c its.3 h in
      let same_view : r.who a ≡ id → u ≡ v = λ place. some-injective u v (sym d.1 ∙ (ap (get_elem? s.views) place ∙ at)) in
      let all_made = its.1 in
      let found : (0 < a) × (a ≤ r.made) × ((c : Came) → Contains v.back c → c.number ≡ a → Contains c.done R) = ⊎_elim
      (λ (t : (u.kind ≡ Agent a) × Contains u.done R).
      let theirs = subst (Seated r.who r.made r.returned (r.who a) u) t.0 (r.each_sits (r.who a) u d.1) in
      (theirs.1, theirs.2, λ c h e. absurd (not_poster u a t.0 (ap (λ (z : View). z.kind) (same_view (ap r.who (sym e) ∙ (number c h).0)) ∙ is))))
      (λ (t : (u.kind ≡ Poster) × ((c : Came) × Contains u.back c × (c.number ≡ a) × Contains c.done R)).
      let theirs = subst (Seated r.who r.made r.returned (r.who a) u) t.0 (r.each_sits (r.who a) u d.1) in
      let same : u ≡ v = same_view (sym theirs.0 ∙ its.0) in
      let there : Contains v.back t.1.0 = subst (λ (z : View). Contains z.back t.1.0) same t.1.1 in
      let bounds = number t.1.0 there in (
        subst (λ (z : ℕ). 0 < z) t.1.2 bounds.1,
        subst (λ (z : ℕ). z ≤ r.made) t.1.2 bounds.2,
        λ c h e. subst (λ (z : Came). Contains z.done R) (one_number t.1.0 c there h (t.1.2 ∙ sym e)) t.1.3,
      ))
      d.2 in
      (a, found.0, subst (λ (z : ℕ). a ≤ z) (sym all_made) found.1, λ c h e. subst (λ (g : Grant). Contains c.done (report g m)) (sym closed.1) (found.2 c h e))

  pub agreeing : Agrees v
  agreeing = record {
    apart = apart;
    once = All-weaker (CameOk r.cargo r.stage) (λ (c : Came). StandOnce c.done c.missed) (λ c h. h.2) v.back knows.came;
    posted = posted;
    missed = missed;
    answers = answers;
    sent = sent;
    reporter = by_agent;
  }

  -- no seat that came back had a grant that is still granted
  pub nobody_had : (g : Grant) → r.stage g.port g.slot ≡ granted → NobodyHad g v
  nobody_had g is_granted = All-weaker (CameOk r.cargo r.stage) (λ (c : Came). All (λ (x : Report). DifferAt x.grant g) c.done ×
      All (λ (m : ℕ × ℕ). m.0 ≡ g.port → m.1 ≡ g.slot → ⊥) c.missed)
      (λ c h. (
        All-weaker (Back r.cargo r.stage c.number) (λ (x : Report). DifferAt x.grant g)
            (λ x b pe se. subst IsReported (sym b.0 ∙ (ap (λ (z : ℕ × ℕ). r.stage z.0 z.1) (λ t. (pe t, se t)) ∙ is_granted)) tt) c.done h.0,
        All-weaker (Gone r.cargo r.stage) (λ (m : ℕ × ℕ). m.0 ≡ g.port → m.1 ≡ g.slot → ⊥)
            (λ m b pe se. b.1 (ap (λ (z : ℕ × ℕ). r.stage z.0 z.1) (λ t. (pe t, se t)) ∙ is_granted)) c.missed h.1,
      ))
      v.back knows.came

  -- the last post of a port is the poster's last
  pub last_post : (p : ℕ) (g : Grant) → last_at p v.posts ≡ Some g → (g.port ≡ p) × (g.slot ≡ r.slot p) × (g ≡ grant_at r.cargo p (r.slot p)) × (r.stage p (r.slot p) ≢ unposted)
  last_post p g e =
      let t = last_is (Posted r.cargo r.stage) p g v.posts knows.posts e in
      let slot_is : g.slot ≡ r.slot p = sym (posting.slot_is p ∙ ap slot_or_none e) in
      (t.1, slot_is, t.0.1 ∙ (λ i. grant_at r.cargo (t.1 i) (slot_is i)), subst (λ (z : ℕ × ℕ). r.stage z.0 z.1 ≢ unposted) (λ i. (t.1 i, slot_is i)) t.0.0)

  last_none : (p : ℕ) (gs : List Grant) → last_at p gs ≡ None → All (λ (g : Grant). g.port ≢ p) gs
  last_none p [] e = All-nil (λ (g : Grant). g.port ≢ p)
  last_none p (g ∷ gs) e = go (last_none p gs) (last_at p gs) refl e
    where
      cons : (g.port ≢ p) → All (λ (g : Grant). g.port ≢ p) gs → All (λ (g : Grant). g.port ≢ p) (g ∷ gs)
      cons a b zero d lt = a
      cons a b (suc k) d lt = b k d (omega arith)

      some_none : (x : Grant) → ◌≡◌ {A = Option Grant} (Some x) None → ⊥
      some_none x e = absurd (cc)

      go : (last_at p gs ≡ None → All (λ (g : Grant). g.port ≢ p) gs) → (o : Option Grant) → last_at p gs ≡ o →
          ◌≡◌ {A = Option Grant} (elim o [ None ↦ cond (eqb g.port p) (Some g) None | Some m ↦ Some m ]) None → All (λ (g : Grant). g.port ≢ p) (g ∷ gs)
      go further None is e' = cons (λ same. some_none g (sym (cond-true (eqb g.port p) (Some g) None (eq-eqb g.port p same)) ∙ e')) (further is)
      go further (Some m) is e' = absurd (some_none m e')

  -- a port with a post has a last one
  pub has_last : (p : ℕ) → r.stage p (r.slot p) ≢ unposted → (g : Grant) × (last_at p v.posts ≡ Some g)
  has_last p posted = go (last_at p v.posts) refl
    where
      go : (o : Option Grant) → last_at p v.posts ≡ o → (g : Grant) × (last_at p v.posts ≡ Some g)
      go None e = absurd (All-contains (λ (g : Grant). g.port ≢ p) v.posts (grant_at r.cargo p (r.slot p)) (last_none p v.posts e) (posting.each_post p (r.slot p) posted) refl)
      go (Some g) e = (g, e)

  -- where the last post is settled, or there is none, nothing is granted or drawn
  pub free_port : (p : ℕ) → is_unsettled p v.posts v.settled ≡ false → (r.stage p (r.slot p) ≢ granted) × ((j : ℕ) → r.stage p (r.slot p) ≢ drawn j)
  free_port p free = go (last_at p v.posts) refl free
    where
      not_false : (b : Bool) → not b ≡ false → b ≡ true
      not_false true e = refl
      not_false false e = absurd (true≢false e)

      over : (o : Option ℕ) (st : PortStage) → stage_after o st → (st ≢ granted) × ((j : ℕ) → st ≢ drawn j)
      over None st h = ((λ e. subst IsTaken (sym h ∙ e) tt), (λ j e. subst IsTaken (sym h ∙ e) tt))
      over (Some m) st h = ((λ e. subst IsReported (sym h.1 ∙ e) tt), (λ j e. subst IsReported (sym h.1 ∙ e) tt))

      go : (o : Option Grant) → last_at p v.posts ≡ o → is_left o v.settled ≡ false → (r.stage p (r.slot p) ≢ granted) × ((j : ℕ) → r.stage p (r.slot p) ≢ drawn j)
      go None e free = ((λ h. absurd (unposted_none (λ u. subst IsGranted (sym h ∙ u) tt))), (λ j h. absurd (unposted_none (λ u. subst IsDrawn (sym h ∙ u) tt))))
        where
          none_some : (x : Grant) → ◌≡◌ {A = Option Grant} None (Some x) → ⊥
          none_some x e = absurd (cc)

          unposted_none : r.stage p (r.slot p) ≢ unposted → ⊥
          unposted_none u = let t = has_last p u in none_some t.0 (sym e ∙ t.1)
      go (Some g) e free =
          let l = last_post p g e in
          let any = Any-from_list_any (λ (s : Settlement). is_of g.port g.slot s.grant) v.settled (not_false (is_settled g v.settled) free) in
          let y : Settlement = any.1 in
          let match = is_of-true g.port g.slot y.grant any.4 in
          let closed = All-contains (Closed r.cargo r.stage) v.settled y knows.settled (any.0, any.2, any.3) in
          subst (λ (z : ℕ × ℕ). (r.stage z.0 z.1 ≢ granted) × ((j : ℕ) → r.stage z.0 z.1 ≢ drawn j)) (λ i. ((match.0 ∙ l.0) i, (match.1 ∙ l.1) i))
          (over y.sent (r.stage y.grant.port y.grant.slot) closed.0)

  -- and where it is not settled, it is granted, drawn or reported
  pub pending : (p : ℕ) → p < n → is_unsettled p v.posts v.settled ≡ true → (r.stage p (r.slot p) ≡ granted) ⊎ ((j : ℕ) × (r.stage p (r.slot p) ≡ drawn j)) ⊎
      ((j m : ℕ) × (r.stage p (r.slot p) ≡ reported j m))
  pending p inside left = go (last_at p v.posts) refl left
    where
      stages : (g : Grant) → (g.port ≡ p) × (g.slot ≡ r.slot p) × (g ≡ grant_at r.cargo p (r.slot p)) × (r.stage p (r.slot p) ≢ unposted) → not (is_settled g v.settled) ≡ true →
          (x : PortStage) → r.stage p (r.slot p) ≡ x
          → (x ≡ granted) ⊎ ((j : ℕ) × (x ≡ drawn j)) ⊎ ((j m : ℕ) × (x ≡ reported j m))
      stages g l left unposted e = absurd (l.3 e)
      stages g l left granted e = inl refl
      stages g l left (drawn j) e = inr (inl (j, refl))
      stages g l left (reported j m) e = inr (inr (j, m, refl))
      stages g l left taken_back e =
          let t = posting.taken p (r.slot p) e in
          let hit = list_any_at (λ (s : Settlement). is_of g.port g.slot s.grant) v.settled t.0 (settlement (grant_at r.cargo p (r.slot p)) None) t.1
          (ap (λ (s : Settlement). is_of g.port g.slot s.grant) t.2 ∙ is_of-same g.port g.slot (grant_at r.cargo p (r.slot p)) (sym l.0) (sym l.1)) in
          absurd (true≢false (sym left ∙ ap not hit))

      go : (o : Option Grant) → last_at p v.posts ≡ o → is_left o v.settled ≡ true → (r.stage p (r.slot p) ≡ granted) ⊎ ((j : ℕ) × (r.stage p (r.slot p) ≡ drawn j)) ⊎
          ((j m : ℕ) × (r.stage p (r.slot p) ≡ reported j m))
      go None e left = absurd (true≢false (sym left))
      go (Some g) e left = stages g (last_post p g e) left (r.stage p (r.slot p)) refl

  -- the word of a port with an unsettled post shows that post
  shows_last : (p : ℕ) → p < n → is_unsettled p v.posts v.settled ≡ true → ShowsLast p (get_or s.words p 0) v.posts
  shows_last p inside left g last =
      let port = r.each_port p inside in
      let post = last_post p g last in
      let stays : r.stage p (r.slot p) ≢ taken_back = λ e. ⊎_elim (λ (t : r.stage p (r.slot p) ≡ granted). subst IsGranted (sym t ∙ e) tt)
      (λ (t : ((j : ℕ) × (r.stage p (r.slot p) ≡ drawn j)) ⊎ ((j m : ℕ) × (r.stage p (r.slot p) ≡ reported j m))).
      ⊎_elim (λ (t : (j : ℕ) × (r.stage p (r.slot p) ≡ drawn j)). subst IsDrawn (sym t.1 ∙ e) tt)
      (λ (t : (j m : ℕ) × (r.stage p (r.slot p) ≡ reported j m)). subst IsReported (sym t.2 ∙ e) tt) t)
      (pending p inside left) in
      let shown = shows_post (r.stage p (r.slot p)) (r.slot p) (r.cargo p (r.slot p)).0 port.fits post.3 stays in (
        ap slot_of port.word_is ∙ (shown.0 ∙ sym post.1),
        ap flow_of port.word_is ∙ (shown.1 ∙ sym (ap (λ (h : Grant). h.flow) post.2)),
      )

  pub is_pending : (p : ℕ) → p < n → IsPending p (get_or s.words p 0) v
  is_pending p inside left =
      let port = r.each_port p inside in
      let fits = port.fits in
      let x : ℕ = get_or s.words p 0 in (
        ⊎_elim
            (λ (t : r.stage p (r.slot p) ≡ granted).
            or_left _ _ (ap shows_granted (port.word_is ∙ ap (λ (z : PortStage). word_of z (r.slot p) (r.cargo p (r.slot p)).0) t) ∙ shows_granted-granted _ _ fits))
            (λ (t : ((j : ℕ) × (r.stage p (r.slot p) ≡ drawn j)) ⊎ ((j m : ℕ) × (r.stage p (r.slot p) ≡ reported j m))).
            ⊎_elim
            (λ (t : (j : ℕ) × (r.stage p (r.slot p) ≡ drawn j)).
            or_right _ _ (or_left _ _ (ap shows_drawn (port.word_is ∙ ap (λ (z : PortStage). word_of z (r.slot p) (r.cargo p (r.slot p)).0) t.1) ∙ shows_drawn-drawn t.0 _ _ fits)))
            (λ (t : (j m : ℕ) × (r.stage p (r.slot p) ≡ reported j m)).
            or_right _ _ (or_right _ _ (ap shows_reported (port.word_is ∙ ap (λ (z : PortStage). word_of z (r.slot p) (r.cargo p (r.slot p)).0) t.2) ∙
            shows_reported-reported t.0 t.1 _ _ fits))) t)
            (pending p inside left),
        (λ shows.
            let d = (stage_is (r.stage p (r.slot p)) (r.slot p) (r.cargo p (r.slot p)).0 2 fits (eqb-true _ 2 (subst (λ (y : ℕ). shows_drawn y ≡ true) port.word_is shows))).1 refl
            in
            let u = r.drawn_there p (r.slot p) d.0 d.1 in one_out (r.who d.0) d.0 u.0 u.1 u.2.0),
        shows_last p inside left,
      )
    where
      or_left : (a b : Bool) → a ≡ true → (a || b) ≡ true
      or_left a b e = ap (λ (z : Bool). z || b) e

      or_right : (a b : Bool) → b ≡ true → (a || b) ≡ true
      or_right true b e = refl
      or_right false b e = e
