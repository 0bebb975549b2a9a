-- The ports of an agent, tried so far.
use Rattle.std.proofs.Common.{◌≡◌, ℕ, ◌+◌, ◌<◌, ◌≤◌, List, [], ◌∷◌, ◌++◌, length, map, take, drop, get_or, set, sym, refl, ap, ◌∙◌, subst, arith, Option, Some, None, length-set}
use Rattle.std.specs.Prelude.{All, flat_map, vec_capacity}
use Rattle.std.proofs.lemmas.List.{append-nil, append_assoc, drop-set-lt, drop_more, map-append, take_all, take_more, take_more_set}
use Rattle.std.proofs.lemmas.List.Concat.{flat_map-append}
use Rattle.std.proofs.lemmas.List.Elements.{All-nil, All-push, All-weaker}
use Rattle.port_board.specs.declared.view.Report.{Report}
use Rattle.port_board.specs.declared.view.View.{View}
use Rattle.port_board.specs.Views.{Board, IsNewest, LastIsListed, last_at}
use Rattle.port_agent.specs.Served.{Attends, GoesOn, IsTry, Look, ServesPort, taken}
use Rattle.port_agent.proofs.Rounds.{taken_append}
use Rattle.crews.specs.declared.part.Outlet.{Outlet}
use Rattle.crews.specs.declared.part.Part.{Part}
use Rattle.crews.specs.Parts.{AreTried, IsAttended, IsTrial, Trial, outlet_after, outlet_before}

module _ {A : Type 0} where
  abbrev pub tail_of : List A → List A
  tail_of [] = []
  tail_of (x ∷ xs) = xs

  abbrev pub head_or : A → List A → A
  head_or d [] = d
  head_or d (x ∷ xs) = x

still_listed : (v w : View) (more : List Report) (port : ℕ) → GoesOn v w more → LastIsListed port v → LastIsListed port w
still_listed v w more port goes h g e = goes.listed port g.slot (h g (subst (λ l. last_at port l ≡ Some g) goes.shown e))

module _ {W : Type 0} where
  abbrev pub trial : ℕ → W → W → Option Report → List Look → Trial W
  trial port x y took looks = record { port = port; before = x; after = y; took = took; looks = looks }

module _ {W : Type 0} (faults : W → ℕ) (runs : W → Option (List (ℕ × ℕ × ℕ))) where
  pub none_tried : (ports : ℕ) (v : View) → AreTried faults runs ports v v []
  none_tried ports v = record {
    out = refl;
    shown = refl;
    each = All-nil (IsTrial faults runs ports v);
    done = sym (append-nil v.done);
    looks = sym (append-nil v.looks);
  }

  attends_on : (v w : View) (more : List Report) (port : ℕ) (x y : W) (took : Option Report) → GoesOn v w more → Attends faults runs v port x y took → Attends faults runs w
      port x y took
  attends_on v w more port x y None goes h = (h.0, still_listed v w more port goes h.1)
  attends_on v w more port x y (Some r) goes h = (h.0, h.1, subst (IsNewest r.grant) (sym goes.shown) h.2)

  module _ (ports port : ℕ) (v w u : View) (x y : W) (trials : List (Trial W)) (so : AreTried faults runs ports v w trials) where
    grown : (took : Option Report) (more : List Report) (looks : List Look) → taken (took ∷ []) ≡ more → GoesOn w u more → Attends faults runs u port x y took →
        IsTry ports port took looks → u.looks ≡ w.looks ++ looks → AreTried faults runs ports v u (trials ++ trial port x y took looks ∷ [])
    grown took more looks more_is goes here tried looks_is =
        let t : Trial W = trial port x y took looks in
        let reports : taken (map (λ (s : Trial W). s.took) (trials ++ t ∷ [])) ≡ taken (map (λ (s : Trial W). s.took) trials) ++ more =
        ap taken (map-append (λ (s : Trial W). s.took) trials (t ∷ [])) ∙ (taken_append (map (λ (s : Trial W). s.took) trials) (took ∷ []) ∙
        ap (λ l. taken (map (λ (s : Trial W). s.took) trials) ++ l) more_is) in
        let places : flat_map (λ (s : Trial W). s.looks) (trials ++ t ∷ []) ≡ flat_map (λ (s : Trial W). s.looks) trials ++ looks =
        flat_map-append (λ (s : Trial W). s.looks) trials (t ∷ []) ∙ ap (λ l. flat_map (λ (s : Trial W). s.looks) trials ++ l) (append-nil looks) in record {
          out = goes.out ∙ so.out;
          shown = goes.shown ∙ so.shown;
          each = All-push (IsTrial faults runs ports u) trials t
              (All-weaker (IsTrial faults runs ports w) (IsTrial faults runs ports u) (λ s h. (attends_on w u more s.port s.before s.after s.took goes h.0, h.1)) trials so.each)
              (here, tried);
          done = goes.done ∙ (ap (λ l. l ++ more) so.done ∙ (append_assoc v.done (taken (map (λ (s : Trial W). s.took) trials)) more ∙ ap (λ l. v.done ++ l) (sym reports)));
          looks = looks_is ∙ (ap (λ l. l ++ looks) so.looks ∙ (append_assoc v.looks (flat_map (λ (s : Trial W). s.looks) trials) looks ∙ ap (λ l. v.looks ++ l) (sym places)));
        }

    -- one port more
    pub one_more : (o : Option (ℕ × ℕ)) → ServesPort faults runs ports port w u x y o →
        (took : Option Report) × (looks : List Look) × AreTried faults runs ports v u (trials ++ trial port x y took looks ∷ [])
    one_more None h = (None, h.3.0, grown None [] h.3.0 refl h.2 (h.0, h.1) h.3.1 h.3.2)
    one_more (Some s) h =
        let r : Report = h.0 in
        (Some r, h.8.0, grown (Some r) (r ∷ []) h.8.0 refl h.6 (h.1, h.5, subst (IsNewest r.grant) (sym h.6.shown) h.7) h.8.1 h.8.2)

  -- the first of the outlets are tried
  pub record SoFar (ports i : ℕ) (v w : View) (old now : List (Outlet W)) : Type 0 where
    pub trials : List (Trial W)
    pub before : take i old ≡ map outlet_before trials
    pub after : take i now ≡ map outlet_after trials
    pub rest : drop i now ≡ drop i old
    pub many : length now ≡ length old
    pub tried : AreTried faults runs ports v w trials

  pub begins : (ports : ℕ) (v : View) (old now : List (Outlet W)) → now ≡ old → SoFar ports 0 v v old now
  begins ports v old now same = record {
    trials = [];
    before = refl;
    after = refl;
    rest = same;
    many = ap (λ (l : List (Outlet W)). length l) same;
    tried = none_tried ports v;
  }

  -- one outlet more
  pub goes_on : (ports i : ℕ) (v w u : View) (old now : List (Outlet W)) (d : Outlet W) (y : W) (o : Option (ℕ × ℕ)) → SoFar ports i v w old now → i < length now →
      ServesPort faults runs ports (get_or now i d).port w u (get_or now i d).wire y o →
      SoFar ports (i + 1) v u old (set now i (record { port = (get_or now i d).port; wire = y }))
  goes_on ports i v w u old now d y o so lt h =
      let x : Outlet W = get_or now i d in
      let z : Outlet W = record { port = x.port; wire = y } in
      let many = so.many in
      let lt' : i < length old = omega (arith, lt, many) in
      let both : x ∷ drop (i + 1) now ≡ get_or old i d ∷ drop (i + 1) old = sym (drop_more now i d lt) ∙ (so.rest ∙ drop_more old i d lt') in
      let m = one_more ports x.port v w u x.wire y so.trials so.tried o h in
      let t : Trial W = trial x.port x.wire y m.0 m.1 in record {
        trials = so.trials ++ t ∷ [];
        before = take_more old i d lt' ∙ ((λ j. so.before j ++ sym (ap (head_or x) both) j ∷ []) ∙ sym (map-append outlet_before so.trials (t ∷ [])));
        after = take_more_set now i z lt ∙ ((λ j. so.after j ++ z ∷ []) ∙ sym (map-append outlet_after so.trials (t ∷ [])));
        rest = drop-set-lt (i + 1) now i z (omega arith) ∙ ap tail_of both;
        many = length-set now i z ∙ many;
        tried = m.2;
      }

  -- the ports stay
  pub port_within : (ports many i : ℕ) (v w : View) (old now : List (Outlet W)) (d : Outlet W) → SoFar ports i v w old now → i < length now → All
      (λ (o : Outlet W). o.port < many) old →
      (get_or now i d).port < many
  port_within ports many i v w old now d so lt all =
      let long = so.many in
      let lt' : i < length old = omega (arith, lt, long) in
      let same : get_or now i d ≡ get_or old i d = ap (head_or d) (sym (drop_more now i d lt) ∙ (so.rest ∙ drop_more old i d lt')) in
      subst (λ (o : Outlet W). o.port < many) (sym same) (all i d lt')

  -- all outlets are tried
  pub attended : (board : Board) (p q : Part W) (i : ℕ) (now : List (Outlet W)) → SoFar board.ports i p.agent.view q.agent.view p.outlets.items now → length now ≤ i →
      q.outlets.items ≡ now →
      vec_capacity q.outlets ≡ vec_capacity p.outlets → q.agent.at ≡ p.agent.at → q.agent.id ≡ p.agent.id → IsAttended faults runs board p q
  attended board p q i now so all now_is room at id =
      let many = so.many in record {
        trials = so.trials;
        before = sym (take_all i p.outlets.items (omega (arith, all, many))) ∙ so.before;
        after = now_is ∙ (sym (take_all i now all) ∙ so.after);
        room = room;
        kept = λ j. (at j, id j, so.tried.shown j, so.tried.out j);
        tried = so.tried;
      }
