-- Ports whose wires stand in their places, tried so far.
use Rattle.std.proofs.Common.{◌≡◌, ℕ, ◌+◌, ◌<◌, ◌≤◌, List, [], ◌∷◌, ◌++◌, length, map, take, get_or, set, sym, refl, ◌∙◌, subst, Option, Some, None, length-set, get_or-set_other}
use Rattle.std.proofs.Common.{get_or-set_same}
use Rattle.std.specs.Prelude.{Contains, IsSome}
use Rattle.std.proofs.lemmas.List.{map-append, take_all, take_more}
use Rattle.std.proofs.lemmas.List.Elements.{Contains-append_left, Contains-push}
use Rattle.port_board.specs.declared.view.View.{View}
use Rattle.port_board.specs.Views.{Sits}
use Rattle.port_agent.specs.Served.{ServesPort}
use Rattle.crews.specs.Parts.{AreTried, Trial}
use Rattle.crews.specs.Served.{HasTried}
use Rattle.crews.specs.Wires.{AreThere, Distinct, StayElsewhere, at_ports}
use Rattle.crews.proofs.Places.{at_others, not_before, there_within}
use Rattle.crews.proofs.Trying.{none_tried, one_more, trial}

module _ {W : Type 0} (faults : W → ℕ) (runs : W → Option (List (ℕ × ℕ × ℕ))) where
  -- these ports are tried
  pub record DriveSoFar (many : ℕ) (ports : List ℕ) (v w : View) (old now : List (Option W)) : Type 0 where
    pub trials : List (Trial W)
    pub at : map (λ (x : Trial W). x.port) trials ≡ ports
    pub before : at_ports ports old ≡ map (λ (x : Trial W). Some x.before) trials
    pub after : at_ports ports now ≡ map (λ (x : Trial W). Some x.after) trials
    pub stay : StayElsewhere ports old now
    pub tried : AreTried faults runs many v w trials

  pub drive_none : (many : ℕ) (v : View) (old : List (Option W)) → DriveSoFar many [] v v old old
  drive_none many v old = record {
    trials = [];
    at = refl;
    before = refl;
    after = refl;
    stay = record { many = refl; rest = λ p far. refl };
    tried = none_tried faults runs many v;
  }

  module _ (many : ℕ) (ports : List ℕ) (i d : ℕ) (v w : View) (old now : List (Option W)) (so : DriveSoFar many (take i ports) v w old now) (distinct : Distinct ports)
      (there : AreThere ports old)
      (lt : i < length ports) where
    -- the wire of the next port is in its place
    pub next_stands : IsSome (get_or now (get_or ports i d) None)
    next_stands = subst (λ (o : Option W). IsSome o) (sym (so.stay.rest (get_or ports i d) (not_before ports i d distinct lt))) (there i d lt)

    pub drive_more : (u : View) (x y : W) (o : Option (ℕ × ℕ)) → get_or now (get_or ports i d) None ≡ Some x → ServesPort faults runs many (get_or ports i d) w u x y o →
        DriveSoFar many (take (i + 1) ports) v u old (set now (get_or ports i d) (Some y))
    drive_more u x y o is h =
        let before : List ℕ = take i ports in
        let p : ℕ = get_or ports i d in
        let far = not_before ports i d distinct lt in
        let within = there_within now p next_stands in
        let m = one_more faults runs many p v w u x y so.trials so.tried o h in
        let t : Trial W = trial p x y m.0 m.1 in
        subst (λ (l : List ℕ). DriveSoFar many l v u old (set now p (Some y))) (sym (take_more ports i d lt)) (record {
          trials = so.trials ++ t ∷ [];
          at = map-append (λ (x : Trial W). x.port) so.trials (t ∷ []) ∙ (λ j. so.at j ++ p ∷ []);
          before = map-append (λ q. get_or old q None) before (p ∷ []) ∙ ((λ j. so.before j ++ (sym (so.stay.rest p far) ∙ is) j ∷ []) ∙ sym
              (map-append (λ (x : Trial W). Some x.before) so.trials (t ∷ [])));
          after = map-append (λ q. get_or (set now p (Some y)) q None) before (p ∷ []) ∙
              ((λ j. (at_others before now p (Some y) far ∙ so.after) j ++ get_or-set_same now p (Some y) None within j ∷ []) ∙ sym
              (map-append (λ (x : Trial W). Some x.after) so.trials (t ∷ [])));
          stay = record {
            many = length-set now p (Some y) ∙ so.stay.many;
            rest = λ q other. get_or-set_other now p q (Some y) None (λ e. other (subst (Contains (before ++ p ∷ [])) (sym e) (Contains-push before p))) ∙
                so.stay.rest q (λ has. other (Contains-append_left before (p ∷ []) q has));
          };
          tried = m.2;
        })

  pub drive_all : (many : ℕ) (s t : Sits) (ports : List ℕ) (i : ℕ) (old now : List (Option W)) → DriveSoFar many (take i ports) s.view t.view old now → length ports ≤ i → t.at ≡
      s.at → t.id ≡ s.id →
      HasTried faults runs many s t ports old now × StayElsewhere ports old now
  drive_all many s t ports i old now so all at id =
      let whole : DriveSoFar many ports s.view t.view old now = subst (λ (l : List ℕ). DriveSoFar many l s.view t.view old now) (take_all i ports all) so in (
        record {
          trials = whole.trials;
          at = whole.at;
          before = whole.before;
          after = whole.after;
          kept = λ j. (at j, id j, whole.tried.shown j, whole.tried.out j);
          tried = whole.tried;
        },
        whole.stay,
      )
