-- One agent alone, and agents beside each other.
use Rattle.std.proofs.Common.{◌≡◌, ℕ, ◌+◌, ◌<◌, ◌≤◌, List, [], ◌∷◌, ◌++◌, length, map, get_or, sym, refl, ap, ◌∙◌, subst, arith, Option, Some, None, zero, suc, inl, inr, ⊎_elim}
use Rattle.std.proofs.Common.{length-append}
use Rattle.std.specs.Prelude.{All, AllPairs, Contains}
use Rattle.std.proofs.lemmas.List.{append-nil, append_assoc, get_or-map, length-map, map-append}
use Rattle.std.proofs.lemmas.List.Elements.{All-append, All-nil, All-push, Contains-append_cases, Contains-append_left, Contains-append_right, Contains-get_or}
use Rattle.std.proofs.lemmas.Bool.{cases_lt}
use Rattle.std.proofs.lemmas.Option.{none-some, same_Some}
use Rattle.coflow_units.proofs.Sums.{first_or_tail, in_first, in_tail, nothing_in}
use Rattle.atomic_table.specs.Seated.{TableId}
use Rattle.port_board.specs.declared.view.Grant.{Grant}
use Rattle.port_board.specs.declared.view.Report.{Report}
use Rattle.port_board.specs.declared.view.View.{View}
use Rattle.port_board.specs.Agreement.{EachPosted, SharesNothing}
use Rattle.port_board.specs.Views.{came_of, looked, one_more, Sits, takes_in}
use Rattle.port_agent.specs.Served.{Attends, taken}
use Rattle.port_agent.specs.Attended.{HadPort, IsFresh, IsServed, WireServed}
use Rattle.port_agent.proofs.Halves.{had_of, port_of, taken_at, taken_from, the_one, wire_of}
use Rattle.crews.specs.Parts.{Trial}
use Rattle.crews.specs.Served.{AreCrewed, CameBack, EachServed, HasTried}
use Rattle.crews.specs.Wires.{Distinct, StayElsewhere, at_ports}
use Rattle.crews.proofs.Places.{apart}

pub first_of : {X : Type 0} (xs : List X) (j : ℕ) → j < length xs → X
first_of [] j lt = absurd (omega (arith, lt))
first_of (x ∷ xs) j lt = x

-- distinct ports have one place each
same_place : (ports : List ℕ) (i j d : ℕ) → Distinct ports → i < length ports → j < length ports → get_or ports i d ≡ get_or ports j d → i ≡ j
same_place ports i j d all in' in'' e = ⊎_elim
    (λ (lt : i < j). absurd (all i j d lt in'' e))
    (λ (le : j ≤ i). ⊎_elim (λ (lt : j < i). absurd (all j i d lt in' (sym e))) (λ (le' : i ≤ j). omega (arith, le, le')) (cases_lt j i))
    (cases_lt i j)

module _ {W : Type 0} (faults : W → ℕ) (runs : W → Option (List (ℕ × ℕ × ℕ))) where
  module _ (many : ℕ) (s t : Sits) (ports : List ℕ) (old new : List (Option W)) (did : HasTried faults runs many s t ports old new) (unseen : s.view.done ≡ [])
      (distinct : Distinct ports) where
    reports : t.view.done ≡ taken (map (λ (x : Trial W). x.took) did.trials)
    reports = did.tried.done ∙ ap (λ (l : List Report). l ++ taken (map (λ (x : Trial W). x.took) did.trials)) unseen

    long : length ports ≡ length did.trials
    long = ap (λ (l : List ℕ). length l) (sym did.at) ∙ length-map did.trials (λ (x : Trial W). x.port)

    port_at : (k : ℕ) (d : Trial W) → k < length did.trials → get_or ports k 0 ≡ (get_or did.trials k d).port
    port_at k d lt = ap (λ (l : List ℕ). get_or l k 0) (sym did.at) ∙ get_or-map (λ (x : Trial W). x.port) did.trials k d 0 lt

    -- a report of the agent is of the port at its place
    placed : (r : Report) (d : Trial W) → Contains t.view.done r → (j : ℕ) × (j < length did.trials) × ((get_or did.trials j d).took ≡ Some r) × (r.grant.port ≡ get_or ports j 0)
    placed r d has =
        let (j, lt, e) = taken_from (map (λ (x : Trial W). x.took) did.trials) r (subst (λ l. Contains l r) reports has) in
        let tooks = length-map did.trials (λ (x : Trial W). x.took) in
        let inside : j < length did.trials = omega (arith, lt, tooks) in
        let x : Trial W = get_or did.trials j d in
        let it : x.took ≡ Some r = sym (get_or-map (λ (x : Trial W). x.took) did.trials j d None inside) ∙ e in
        (j, inside, it, port_of faults runs t.view x.port x.before x.after x.took r (did.tried.each j d inside).0 it ∙ sym (port_at j d inside))

    one_each : All (λ (x : Trial W). IsServed faults runs (t ∷ []) x.port x.before x.after x.took) did.trials
    one_each k d lt =
        let x : Trial W = get_or did.trials k d in
        let at = (did.tried.each k d lt).0 in
        let tooks = length-map did.trials (λ (x : Trial W). x.took) in
        let held : (r : Report) → x.took ≡ Some r → Contains t.view.done r = λ r e. subst (λ l. Contains l r) (sym reports)
        (taken_at (map (λ (x : Trial W). x.took) did.trials) k r (omega (arith, lt, tooks)) (get_or-map (λ (x : Trial W). x.took) did.trials k d None lt ∙ e)) in record {
          wire = wire_of faults runs t.view x.port x.before x.after x.took at;
          by = t;
          among = in_first t [];
          had = had_of faults runs t.view x.port x.before x.after x.took at held;
          only = λ y r among has port.
              let (j, inside, e, is) = placed r d (subst (λ (z : Sits). Contains z.view.done r) (sym (the_one t y among)) has) in
              let same : j ≡ k = same_place ports j k 0 distinct (omega (arith, inside, long)) (omega (arith, lt, long)) (sym is ∙ (port ∙ sym (port_at k d lt))) in
              subst (λ n. (get_or did.trials n d).took ≡ Some r) same e;
        }

    -- a report is of one of the ports
    within : (r : Report) → Contains t.view.done r → Contains ports r.grant.port
    within r has =
        let (j, lt, e) = taken_from (map (λ (x : Trial W). x.took) did.trials) r (subst (λ l. Contains l r) reports has) in
        let tooks = length-map did.trials (λ (x : Trial W). x.took) in
        let (k, inside, it, is) = placed r (first_of did.trials j (omega (arith, lt, tooks))) has in
        subst (Contains ports) (sym is) (Contains-get_or ports k 0 (omega (arith, inside, long)))

    -- one agent alone
    pub one_agent : EachServed faults runs (t ∷ []) ports old new
    one_agent = record {
      trials = did.trials;
      at = did.at;
      before = did.before;
      after = did.after;
      each = one_each;
      within = λ y r among has. within r (subst (λ (z : Sits). Contains z.view.done r) (sym (the_one t y among)) has);
    }

  -- the wires of the ports may be looked at before and after others are served
  pub moved : (seats : List Sits) (ports : List ℕ) (old new old' new' : List (Option W)) → EachServed faults runs seats ports old new → at_ports ports old' ≡ at_ports ports old →
      at_ports ports new' ≡ at_ports ports new → EachServed faults runs seats ports old' new'
  moved seats ports old new old' new' did before after = record {
    trials = did.trials;
    at = did.at;
    before = before ∙ did.before;
    after = after ∙ did.after;
    each = did.each;
    within = did.within;
  }

  module _ (ls rs : List Sits) (xs ys : List ℕ) (old new : List (Option W)) (distinct : Distinct (xs ++ ys)) (one : EachServed faults runs ls xs old new)
      (two : EachServed faults runs rs ys old new) where
    among_ports : (ports : List ℕ) (trials : List (Trial W)) → map (λ (x : Trial W). x.port) trials ≡ ports → (k : ℕ) (d : Trial W) → k < length trials → Contains ports
        (get_or trials k d).port
    among_ports ports trials at k d lt =
        let tooks = length-map trials (λ (x : Trial W). x.port) in
        subst (λ (z : List ℕ × ℕ). Contains z.0 z.1) (λ t. (at t, get_or-map (λ (x : Trial W). x.port) trials k d 0 lt t))
        (Contains-get_or (map (λ (x : Trial W). x.port) trials) k 0 (omega (arith, lt, tooks)))

    on_left : All (λ (x : Trial W). IsServed faults runs (ls ++ rs) x.port x.before x.after x.took) one.trials
    on_left k d lt = let at = one.each k d lt in let x : Trial W = get_or one.trials k d in record {
      wire = at.wire;
      by = at.by;
      among = Contains-append_left ls rs at.by at.among;
      had = at.had;
      only = λ s r among has port. ⊎_elim
          (λ left. at.only s r left has port)
          (λ right. absurd (apart xs ys x.port distinct (among_ports xs one.trials one.at k d lt) (subst (Contains ys) port (two.within s r right has))))
          (Contains-append_cases ls rs s among);
    }

    on_right : All (λ (x : Trial W). IsServed faults runs (ls ++ rs) x.port x.before x.after x.took) two.trials
    on_right k d lt = let at = two.each k d lt in let x : Trial W = get_or two.trials k d in record {
      wire = at.wire;
      by = at.by;
      among = Contains-append_right ls rs at.by at.among;
      had = at.had;
      only = λ s r among has port. ⊎_elim
          (λ left. absurd (apart xs ys x.port distinct (subst (Contains xs) port (one.within s r left has)) (among_ports ys two.trials two.at k d lt)))
          (λ right. at.only s r right has port)
          (Contains-append_cases ls rs s among);
    }

    -- two parts beside each other
    pub both_parts : EachServed faults runs (ls ++ rs) (xs ++ ys) old new
    both_parts = record {
      trials = one.trials ++ two.trials;
      at = map-append (λ (x : Trial W). x.port) one.trials two.trials ∙ (λ t. one.at t ++ two.at t);
      before = map-append (λ p. get_or old p None) xs ys ∙ ((λ t. one.before t ++ two.before t) ∙ sym (map-append (λ (x : Trial W). Some x.before) one.trials two.trials));
      after = map-append (λ p. get_or new p None) xs ys ∙ ((λ t. one.after t ++ two.after t) ∙ sym (map-append (λ (x : Trial W). Some x.after) one.trials two.trials));
      each = All-append (λ (x : Trial W). IsServed faults runs (ls ++ rs) x.port x.before x.after x.took) one.trials two.trials on_left on_right;
      within = λ s r among has. ⊎_elim
          (λ left. Contains-append_left xs ys r.grant.port (one.within s r left has))
          (λ right. Contains-append_right xs ys r.grant.port (two.within s r right has))
          (Contains-append_cases ls rs s among);
    }

  -- nothing is served by nobody
  pub none_crewed : (v : View) (wires : List (Option W)) → EachPosted v → AllPairs SharesNothing v.back → AreCrewed faults runs v v [] wires wires
  none_crewed v wires posted apart = record {
    seats = [];
    came = record {
      posts = refl;
      settled = refl;
      made = omega arith;
      posted = posted;
      apart = apart;
      back = sym (append-nil v.back);
      shown = All-nil (λ (s : Sits). s.view.shown ≡ v.posts);
      none_held = All-nil (λ (s : Sits). s.view.out ≡ []);
    };
    served = record {
      trials = [];
      at = refl;
      before = refl;
      after = refl;
      each = All-nil (λ (x : Trial W). IsServed faults runs [] x.port x.before x.after x.took);
      within = λ s r has _. absurd (nothing_in s has);
    };
    stay = record { many = refl; rest = λ p far. refl };
  }

  module _ (at : TableId) (many : ℕ) (v made w1 w : View) (xs ys : List ℕ) (ws0 ws1 ws2 ws3 : List (Option W)) (s t : Sits) (word : ℕ) (made_is : made ≡ one_more v)
      (fresh : IsFresh at v.posts s) (did : HasTried faults runs many s t ys ws0 ws3) (rest : AreCrewed faults runs made w1 xs ws1 ws2)
      (w_is : w ≡ looked 0 word (takes_in w1 t.view)) where
    shown_is : t.view.shown ≡ v.posts
    shown_is = did.tried.shown ∙ fresh.shown

    out_is : t.view.out ≡ []
    out_is = did.tried.out ∙ fresh.none_out

    came_more : EachPosted w → AllPairs SharesNothing w.back → CameBack v w (rest.seats ++ t ∷ [])
    came_more posted apart =
        let made_now = rest.came.made in
        let longer : made.made ≡ v.made + 1 = ap (λ (x : View). x.made) made_is in
        let long = length-append rest.seats (t ∷ []) in record {
          posts = ap (λ (x : View). x.posts) w_is ∙ (rest.came.posts ∙ ap (λ (x : View). x.posts) made_is);
          settled = ap (λ (x : View). x.settled) w_is ∙ (rest.came.settled ∙ ap (λ (x : View). x.settled) made_is);
          made = ap (λ (x : View). x.made) w_is ∙ omega (arith, made_now, longer, long);
          posted = posted;
          apart = apart;
          back = ap (λ (x : View). x.back) w_is ∙ (ap (λ l. l ++ came_of t.view ∷ [])
              (rest.came.back ∙ ap (λ (x : View). x.back ++ map (λ (s : Sits). came_of s.view) rest.seats) made_is)
              ∙ (append_assoc v.back (map (λ (s : Sits). came_of s.view) rest.seats) (came_of t.view ∷ [])
              ∙ ap (λ l. v.back ++ l) (sym (map-append (λ (s : Sits). came_of s.view) rest.seats (t ∷ [])))));
          shown = All-push (λ (s : Sits). s.view.shown ≡ v.posts) rest.seats t (subst (λ (l : List Grant). All (λ (s : Sits). s.view.shown ≡ l) rest.seats)
              (ap (λ (x : View). x.posts) made_is) rest.came.shown) shown_is;
          none_held = All-push (λ (s : Sits). s.view.out ≡ []) rest.seats t rest.came.none_held out_is;
        }

    -- one agent more
    pub one_crewed : Distinct (xs ++ ys) → Distinct ys → at_ports xs ws0 ≡ at_ports xs ws1 → at_ports xs ws3 ≡ at_ports xs ws2 → StayElsewhere (xs ++ ys) ws0 ws3 → EachPosted w ×
        AllPairs SharesNothing w.back →
        AreCrewed faults runs v w (xs ++ ys) ws0 ws3
    one_crewed distinct own before after stay told = record {
      seats = rest.seats ++ t ∷ [];
      came = came_more told.0 told.1;
      served = both_parts rest.seats (t ∷ []) xs ys ws0 ws3 distinct (moved rest.seats xs ws1 ws2 ws0 ws3 rest.served before after)
          (one_agent many s t ys ws0 ws3 did fresh.none_done own);
      stay = stay;
    }
