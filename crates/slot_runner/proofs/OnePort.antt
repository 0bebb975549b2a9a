-- One port of a run, once all agents came back.
use Rattle.std.proofs.Common.{◌≡◌, ⊎_elim, ℕ, ◌+◌, ◌<◌, ◌≤◌, Bool, true, false, true≢false, List, [], ◌∷◌, ◌++◌, length, get_or, suc, Option, Some, None}
use Rattle.std.proofs.Common.{refl, sym, ap, subst, ◌∙◌, arith, length-append, get_or-append-add}
use Rattle.std.specs.Prelude.{All, AllPairs, Contains, map, ◌||◌, ◌==◌, ◌&&◌}
use Rattle.std.specs.List.{list_any}
use Rattle.std.proofs.lemmas.Bool.{eqb-true}
use Rattle.std.proofs.lemmas.List.{get_or_append_left, get_or_default}
use Rattle.std.proofs.lemmas.List.Elements.{All-contains, Contains-append_cases, Contains-append_right}
use Rattle.std.proofs.lemmas.List.Folds.{list_any_none}
use Rattle.std.proofs.lemmas.Option.{none-some, same_Some}
use Rattle.coflow_units.proofs.Sums.{first_or_tail, in_first, in_tail, nothing_in}
use Rattle.coflow_units.specs.declared.fabric.Flow.{Flow}
use Rattle.coflow_units.specs.Flows.{ingress_of}
use Rattle.coflow_units.specs.Schedule.{IsClear}
use Rattle.journal.specs.Runs.{grant_in}
use Rattle.port_board.specs.declared.view.Came.{Came}
use Rattle.port_board.specs.declared.view.Grant.{Grant}
use Rattle.port_board.specs.declared.view.Report.{Report}
use Rattle.port_board.specs.declared.view.Settlement.{Settlement}
use Rattle.port_board.specs.declared.view.View.{View}
use Rattle.port_board.specs.Agreement.{EachPosted, NobodyHad, SharesNothing}
use Rattle.port_board.specs.Rule.{DifferAt}
use Rattle.port_board.specs.Views.{came_of, grant, is_left, is_of, is_unsettled, last_at, report, Sits}
use Rattle.port_board.proofs.Lists.{is_of-false}
use Rattle.port_agent.specs.Served.{SentOn}
use Rattle.port_agent.specs.Attended.{HadPort, IsServed, IsServedBy, WireServed}
use Rattle.slot_runner.specs.Models.{IsIdle, WasReported}
use Rattle.slot_runner.specs.Posts.{posts_of}
use Rattle.slot_runner.specs.Settling.{AreToSettle}
use Rattle.slot_runner.proofs.PortPosts.{in_posts, last_among, last_with, last_without, waits_now}

-- the units that a report tells, and none without one
abbrev pub units : Option Report → ℕ
units None = 0
units (Some r) = r.sent

abbrev pub sent_of : (ℕ → Option Report) → ℕ → ℕ
sent_of took port = units (took port)

units_of : (o : Option Report) (r : Report) → o ≡ Some r → units o ≡ r.sent
units_of o r e = ap units e

in_map : {X Y : Type 0} (w : X → Y) (xs : List X) (x : X) → Contains xs x → Contains (map w xs) (w x)
in_map w [] x has = absurd (nothing_in x has)
in_map {X} {Y} w (y ∷ ys) x has = ⊎_elim (λ e. subst (λ z. Contains (w y ∷ map w ys) (w z)) e (in_first (w y) (map w ys)))
    (λ later. in_tail (w y) (map w ys) (w x) (in_map w ys x later))
    (first_or_tail y ys x has)

came_from : (seats : List Sits) (c : Came) → Contains (map (λ (s : Sits). came_of s.view) seats) c → (s : Sits) × Contains seats s × (came_of s.view ≡ c)
came_from [] c has = absurd (nothing_in c has)
came_from (x ∷ xs) c has = ⊎_elim (λ e. (x, in_first x xs, e)) (λ later. let (found, inside, e) = came_from xs c later in (found, in_tail x xs found inside, e))
    (first_or_tail (came_of x.view) (map (λ (s : Sits). came_of s.view) xs) c has)

-- of a list in two parts, what relates each pair relates those of the two
across : {X : Type 0} (R : X → X → Type 0) (xs ys : List X) (x y : X) → AllPairs R (xs ++ ys) → Contains xs x → Contains ys y → R x y
across {X} R xs ys x y pairs (i, low, at) (j, less, there) =
    let long = length-append xs ys in
    let first : get_or (xs ++ ys) i y ≡ x = get_or_append_left xs ys y i low ∙ (get_or_default xs i y x low ∙ at) in
    let second : get_or (xs ++ ys) (length xs + j) y ≡ y = get_or-append-add xs ys j y ∙ there in
    subst (λ (z : X × X). R z.0 z.1) (λ t. (first t, second t)) (pairs i (length xs + j) y (omega (arith, low)) (omega (arith, less, long)))

-- there is a wire where there is a port
with_wire : {W X : Type 0} (before after : List W) → length after ≡ length before → (p : ℕ) → p < length before → (W → W → X) → X
with_wire [] after e p lt f = absurd (omega (arith, lt))
with_wire (b ∷ bs) [] e p lt f = let none : 0 ≡ suc (length bs) = e in absurd (omega arith)
with_wire (b ∷ bs) (a ∷ more) e p lt f = f b a

none_listed : (a b c : Bool) → a ≡ false → b ≡ false → c ≡ false → (a || (b || c)) ≡ true → ⊥
none_listed a b c p q r e = true≢false (sym e ∙ rw (p, q, r) refl)

no_pair : (port slot : ℕ) (m : ℕ × ℕ) → (m.0 ≡ port → m.1 ≡ slot → ⊥) → ((m.0 == port) && (m.1 == slot)) ≡ false
no_pair port slot m far = go (m.0 == port) (m.1 == slot) refl refl
  where
    go : (a b : Bool) → (m.0 == port) ≡ a → (m.1 == slot) ≡ b → (a && b) ≡ false
    go false b p q = refl
    go true false p q = refl
    go true true p q = absurd (far (eqb-true m.0 port p) (eqb-true m.1 slot q))

-- the view of a seat that came back, and that nobody had the grant
listed_by_none : (g : Grant) (v : View) → v.out ≡ [] → All (λ (r : Report). DifferAt r.grant g) v.done → All (λ (m : ℕ × ℕ). m.0 ≡ g.port → m.1 ≡ g.slot → ⊥) v.missed →
    (list_any (is_of g.port g.slot) v.out || (list_any (λ (r : Report). is_of g.port g.slot r.grant) v.done || list_any (λ (m : ℕ × ℕ). (m.0 == g.port) && (m.1 == g.slot))
    v.missed)) ≡ true → ⊥
listed_by_none g v out done missed e =
    none_listed (list_any (is_of g.port g.slot) v.out) (list_any (λ (r : Report). is_of g.port g.slot r.grant) v.done)
    (list_any (λ (m : ℕ × ℕ). (m.0 == g.port) && (m.1 == g.slot)) v.missed)
    (ap (list_any (is_of g.port g.slot)) out)
    (list_any_none (λ (r : Report). is_of g.port g.slot r.grant) v.done (λ k d lt. is_of-false g.port g.slot (get_or v.done k d).grant (done k d lt)))
    (list_any_none (λ (m : ℕ × ℕ). (m.0 == g.port) && (m.1 == g.slot)) v.missed (λ k d lt. no_pair g.port g.slot (get_or v.missed k d) (missed k d lt))) e

-- what seats that came back drew was posted
drawn_among : (back : List Came) (seats : List Sits) (w : View) → w.back ≡ back ++ map (λ (s : Sits). came_of s.view) seats → EachPosted w → (s : Sits) (r : Report) →
    Contains seats s → Contains s.view.done r → Contains w.posts r.grant
drawn_among back seats w is posted s r among has =
    let came = subst (λ l. Contains l (came_of s.view)) (sym is)
    (Contains-append_right back (map (λ (x : Sits). came_of x.view) seats) (came_of s.view) (in_map (λ (x : Sits). came_of x.view) seats s among)) in
    All-contains (λ (x : Report). Contains w.posts x.grant) s.view.done r
    (All-contains (λ (x : Came). All (λ (y : Report). Contains w.posts y.grant) x.done) w.back (came_of s.view) posted came) has

module _ {W : Type 0} (faults : W → ℕ) (runs : W → Option (List (ℕ × ℕ × ℕ))) where
  -- What the agents of a run leave of the poster and of the wires: new agents came back, which had been shown all posts.
  -- Each port with a grant was served by them, and the wires of the other ports are as before.
  pub record AreGrantsServed (granted : ℕ → Option ℕ) (v w : View) (before after : List W) : Type 0 where
    pub posts : w.posts ≡ v.posts
    pub settled : w.settled ≡ v.settled
    pub none_out : length w.back ≡ w.made
    pub posted : EachPosted w
    pub apart : AllPairs SharesNothing w.back
    pub seats : List Sits
    pub back : w.back ≡ v.back ++ map (λ (s : Sits). came_of s.view) seats
    pub shown : All (λ (s : Sits). s.view.shown ≡ v.posts) seats
    pub none_held : All (λ (s : Sits). s.view.out ≡ []) seats
    pub as_many : length after ≡ length before
    pub took : ℕ → Option Report
    pub each : (p f : ℕ) (b a : W) → p < length before → granted p ≡ Some f →
        IsServed faults runs seats p (get_or before p b) (get_or after p a) (took p)
    pub rest : (p : ℕ) (b a : W) → p < length before → granted p ≡ None → get_or after p a ≡ get_or before p b

module _ {W : Type 0} (faults : W → ℕ) (runs : W → Option (List (ℕ × ℕ × ℕ))) (flows : List Flow) (gs : List ℕ) (first slots ports to : ℕ) (clear : IsClear flows gs)
    (inside : (f : ℕ) → Contains gs f → ingress_of flows f < ports) (v0 v w : View) (before after : List W)
    (idle : IsIdle to v0) (late : to ≤ first) (posts_are : v.posts ≡ v0.posts ++ posts_of flows gs first slots) (settled_are : v.settled ≡ v0.settled)
    (back_is : v.back ≡ v0.back)
    (all : AreGrantsServed faults runs (grant_in flows gs) v w before after) (wires : length before ≡ ports) where
  abbrev granted : ℕ → Option ℕ
  granted = grant_in flows gs

  abbrev now : List Grant
  now = v0.posts ++ posts_of flows gs first slots

  posts_w : w.posts ≡ now
  posts_w = all.posts ∙ posts_are

  back_w : w.back ≡ v0.back ++ map (λ (s : Sits). came_of s.view) all.seats
  back_w = all.back ∙ ap (λ (l : List Came). l ++ map (λ (s : Sits). came_of s.view) all.seats) back_is

  -- no post has a slot past the run's first one
  not_later : (g : Grant) → Contains now g → g.slot ≤ first
  not_later g has = ⊎_elim
      (λ old. omega (arith, All-contains (λ (x : Grant). x.slot < to) v0.posts g idle.posts_before old, late))
      (λ new. let (p, f, lt, e, is) = in_posts flows gs first slots ports clear inside g new in omega (arith, ap (λ (x : Grant). x.slot) is))
      (Contains-append_cases v0.posts (posts_of flows gs first slots) g has)

  came_in : (s : Sits) → Contains all.seats s → Contains w.back (came_of s.view)
  came_in s has = subst (λ l. Contains l (came_of s.view)) (sym back_w)
      (Contains-append_right v0.back (map (λ (x : Sits). came_of x.view) all.seats) (came_of s.view) (in_map (λ (x : Sits). came_of x.view) all.seats s has))

  -- a seat that came back before drew nothing of this run
  not_before : (c : Came) (r : Report) → Contains v0.back c → Contains c.done r → r.grant.slot ≡ first → ⊥
  not_before c r among has at =
      let posted = All-contains (λ (x : Report). Contains v0.posts x.grant) c.done r
      (All-contains (λ (x : Came). All (λ (y : Report). Contains v0.posts y.grant) x.done) v0.back c idle.posted among) has in
      let early = All-contains (λ (x : Grant). x.slot < to) v0.posts r.grant idle.posts_before posted in
      omega (arith, early, late, at)

  -- what a seat drew was posted
  drawn_posted : (s : Sits) (r : Report) → Contains all.seats s → Contains s.view.done r → Contains now r.grant
  drawn_posted s r among has = subst (λ l. Contains l r.grant) posts_w (drawn_among v0.back all.seats w back_w all.posted s r among has)

  shown_is : (s : Sits) → Contains all.seats s → s.view.shown ≡ now
  shown_is s among = All-contains (λ (x : Sits). x.view.shown ≡ v.posts) all.seats s all.shown among ∙ posts_are

  -- a report of the run's grant is what was drawn at its port
  pub reported_is : (p f n : ℕ) (c : Came) (b a : W) → p < ports → granted p ≡ Some f → Contains w.back c → Contains c.done (report (grant p first f slots) n) →
      all.took p ≡ Some (report (grant p first f slots) n)
  reported_is p f n c b a lt e among has = ⊎_elim
      (λ old. absurd (not_before c (report (grant p first f slots) n) old has refl))
      (λ new.
      let (s, inside, is) = came_from all.seats c new in
      (all.each p f b a (omega (arith, lt, wires)) e).only s (report (grant p first f slots) n) inside
      (subst (λ (x : Came). Contains x.done (report (grant p first f slots) n)) (sym is) has) refl)
      (Contains-append_cases v0.back (map (λ (s : Sits). came_of s.view) all.seats) c (subst (λ l. Contains l c) back_w among))

  -- what was drawn at a port with a grant is the grant
  drawn_is : (p f : ℕ) (s : Sits) (r : Report) → p < ports → granted p ≡ Some f → r.grant.port ≡ p → Contains all.seats s → HadPort s.view p s.view.shown (Some r) → r.grant ≡
      grant p first f slots
  drawn_is p f s r lt e port among (has, newest) =
      let g = grant p first f slots in
      let there = (last_among p g now (last_with flows gs first slots ports clear inside v0.posts p f e)).0 in
      let seen = subst (λ l. Contains l g) (sym (shown_is s among)) there in
      let late' = All-contains (λ (h : Grant). h.port ≡ r.grant.port → h.slot ≤ r.grant.slot) s.view.shown g newest.latest seen (sym port) in
      let early = not_later r.grant (drawn_posted s r among has) in
      sym (All-contains (λ (h : Grant). h.port ≡ r.grant.port → h.slot ≡ r.grant.slot → h ≡ r.grant) s.view.shown g newest.same seen (sym port) (omega (arith, late', early)))

  -- somebody had the grant
  had_it : (p f : ℕ) (b a : W) → p < ports → granted p ≡ Some f → (o : Option Report) → IsServed faults runs all.seats p b a o → NobodyHad (grant p first f slots) w → ⊥
  had_it p f b a lt e None at nobody =
      let g = grant p first f slots in
      let last : last_at p at.by.view.shown ≡ Some g = ap (last_at p) (shown_is at.by at.among) ∙ last_with flows gs first slots ports clear inside v0.posts p f e in
      let none = All-contains (λ (c : Came). All (λ (r : Report). DifferAt r.grant g) c.done × All (λ (m : ℕ × ℕ). m.0 ≡ g.port → m.1 ≡ g.slot → ⊥) c.missed) w.back
      (came_of at.by.view) nobody
      (came_in at.by at.among) in
      listed_by_none g at.by.view (All-contains (λ (x : Sits). x.view.out ≡ []) all.seats at.by all.none_held at.among) none.0 none.1 (at.had g last)
  had_it p f b a lt e (Some r) at nobody =
      let g = grant p first f slots in
      let is = drawn_is p f at.by r lt e at.wire.0 at.among at.had in
      let none = All-contains (λ (c : Came). All (λ (x : Report). DifferAt x.grant g) c.done × All (λ (m : ℕ × ℕ). m.0 ≡ g.port → m.1 ≡ g.slot → ⊥) c.missed) w.back
      (came_of at.by.view) nobody
      (came_in at.by at.among) in
      All-contains (λ (x : Report). DifferAt x.grant g) at.by.view.done r none.0 at.had.0 (ap (λ (h : Grant). h.port) is) (ap (λ (h : Grant). h.slot) is)

  sent_within : (p f : ℕ) (b a : W) → p < ports → granted p ≡ Some f → (o : Option Report) → IsServed faults runs all.seats p b a o → units o ≤ slots
  sent_within p f b a lt e None at = omega arith
  sent_within p f b a lt e (Some r) at =
      let is = drawn_is p f at.by r lt e at.wire.0 at.among at.had in
      omega (arith, at.wire.1.bound, ap (λ (h : Grant). h.length) is)

  -- the wire of a port whose grant was reported was sent the grant
  pub was_sent : (p f : ℕ) (b a : W) (o : Option Report) → o ≡ Some (report (grant p first f slots) (units o)) → WireServed faults runs p b a o →
      SentOn faults runs b a (report (grant p first f slots) (units o))
  was_sent p f b a None e at = absurd (none-some (report (grant p first f slots) 0) e)
  was_sent p f b a (Some r) e at = subst (SentOn faults runs b a) (same_Some r (report (grant p first f slots) r.sent) e) at.1

  -- the posts of the run wait, and will be settled by what the wires took
  pub to_settle : AreToSettle granted (sent_of all.took) first slots ports w
  to_settle = record {
    none_out = all.none_out;
    post = λ p f lt e.
        let last : last_at p w.posts ≡ Some (grant p first f slots) = ap (last_at p) posts_w ∙ last_with flows gs first slots ports clear inside v0.posts p f e in
        let many = all.as_many in
        let inside : p < length before = omega (arith, lt, wires) in record {
          last = last;
          waits = waits_now p (grant p first f slots) w.posts w.settled last (subst (All (λ (s : Settlement). s.grant.slot < first)) (sym (all.settled ∙ settled_are))
              (λ k d low. omega (arith, idle.settled_before k d low, late)));
          somebody = λ nobody. with_wire before after many p inside
              (λ b a. had_it p f (get_or before p b) (get_or after p a) lt e (all.took p) (all.each p f b a (omega (arith, lt, wires)) e) nobody);
          only = λ c n among has. with_wire before after many p inside
              (λ b a. sym (units_of (all.took p) (report (grant p first f slots) n) (reported_is p f n c b a lt e among has)));
        };
    nothing = λ p lt e.
        ap (λ (x : List Grant × List Settlement). is_unsettled p x.0 x.1) (λ i. (posts_w i, (all.settled ∙ settled_are) i)) ∙
        ap (λ (o : Option Grant). is_left o v0.settled) (last_without flows gs first slots ports clear inside v0.posts p e) ∙ idle.all_settled p;
    within = λ p f lt e. with_wire before after all.as_many p (omega (arith, lt, wires))
        (λ b a. sent_within p f (get_or before p b) (get_or after p a) lt e (all.took p) (all.each p f b a (omega (arith, lt, wires)) e));
  }

module _ {W : Type 0} (faults : W → ℕ) (runs : W → Option (List (ℕ × ℕ × ℕ))) (flows : List Flow) (gs : List ℕ) (first slots ports to : ℕ) (clear : IsClear flows gs)
    (inside : (f : ℕ) → Contains gs f → ingress_of flows f < ports) (v0 v w : View) (before after : List W)
    (idle : IsIdle to v0) (late : to ≤ first) (posts_are : v.posts ≡ v0.posts ++ posts_of flows gs first slots) (settled_are : v.settled ≡ v0.settled)
    (back_is : v.back ≡ v0.back)
    (all : IsServedBy faults runs v w before after) (wires : length before ≡ ports) where
  -- what was done at a port
  at_port : (p : ℕ) (b a : W) → p < ports → IsServed faults runs all.seats p (get_or before p b) (get_or after p a) (get_or all.served.took p None)
  at_port p b a lt = let zero_p : 0 + p ≡ p = omega arith in
      subst (λ q. IsServed faults runs all.seats q (get_or before p b) (get_or after p a) (get_or all.served.took p None)) zero_p
      (all.served.each p b a (omega (arith, lt, wires)))

  came_back : w.back ≡ v0.back ++ map (λ (s : Sits). came_of s.view) all.seats
  came_back = all.back ∙ ap (λ (l : List Came). l ++ map (λ (s : Sits). came_of s.view) all.seats) back_is

  -- without a grant nothing was drawn at the port
  drew_nothing : (p : ℕ) (b a : W) → grant_in flows gs p ≡ None → (o : Option Report) → IsServed faults runs all.seats p b a o → a ≡ b
  drew_nothing p b a e None at = at.wire
  drew_nothing p b a e (Some r) at = absurd (⊎_elim
      (λ old.
      let (c, x, among, has, is) = All-contains (WasReported v0) v0.posts r.grant idle.reported old in
      across SharesNothing v0.back (map (λ (s : Sits). came_of s.view) all.seats) c (came_of at.by.view) (subst (AllPairs SharesNothing) came_back all.apart) among
      (in_map (λ (s : Sits). came_of s.view) all.seats at.by at.among) x r has at.had.0 (ap (λ (h : Grant). h.port) is) (ap (λ (h : Grant). h.slot) is))
      (λ new.
      let (q, f, lt, given, is) = in_posts flows gs first slots ports clear inside r.grant new in
      let same : q ≡ p = ap (λ (h : Grant). h.port) is ∙ at.wire.0 in
      none-some f (sym e ∙ ap (grant_in flows gs) (sym same) ∙ given))
      (Contains-append_cases v0.posts (posts_of flows gs first slots) r.grant (subst (λ l. Contains l r.grant) (all.posts ∙ posts_are)
      (drawn_among v0.back all.seats w came_back all.posted at.by r at.among at.had.0))))

  -- agents that served all ports served those with a grant, and drew nothing at the others
  pub grants_served : AreGrantsServed faults runs (grant_in flows gs) v w before after
  grants_served = record {
    posts = all.posts;
    settled = all.settled;
    none_out = all.none_out;
    posted = all.posted;
    apart = all.apart;
    seats = all.seats;
    back = all.back;
    shown = all.shown;
    none_held = all.none_held;
    as_many = all.served.as_many;
    took = λ p. get_or all.served.took p None;
    each = λ p f b a lt e. at_port p b a (omega (arith, lt, wires));
    rest = λ p b a lt e. drew_nothing p (get_or before p b) (get_or after p a) e (get_or all.served.took p None) (at_port p b a (omega (arith, lt, wires)));
  }
