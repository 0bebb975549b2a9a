-- One wire more goes into an outlet, or comes back.
use Rattle.std.proofs.Common.{◌≡◌, ℕ, ◌+◌, ◌<◌, List, [], ◌∷◌, ◌++◌, length, map, take, get_or, set, sym, refl, ap, ◌∙◌, subst, arith, Option, Some, None, length-set}
use Rattle.std.proofs.Common.{get_or-set_other, get_or-set_same}
use Rattle.std.specs.Prelude.{All, Contains, IsSome}
use Rattle.std.proofs.lemmas.List.{append_assoc, append-nil, length-map, map-append, take_more}
use Rattle.std.proofs.lemmas.List.Elements.{All-contains, Contains-append_left, Contains-append_right, Contains-push}
use Rattle.coflow_units.proofs.Sums.{in_first, in_tail}
use Rattle.crews.specs.declared.part.Outlet.{Outlet}
use Rattle.crews.specs.Wires.{AreTaken, AreThere, Distinct}
use Rattle.crews.proofs.Places.{apart, at_others, not_before, right_distinct, there_within}

module _ {W : Type 0} where
  abbrev pub outlet : ℕ → W → Outlet W
  outlet port wire = record { port = port; wire = wire }

  pub none_taken : (old now : List (Option W)) (outlets : List (Outlet W)) → now ≡ old → outlets ≡ [] → AreTaken [] old now outlets
  none_taken old now outlets same none = record {
    at = ap (λ (l : List (Outlet W)). map (λ (o : Outlet W). o.port) l) none;
    wires = sym (ap (λ (l : List (Outlet W)). map (λ (o : Outlet W). Some o.wire) l) none);
    gone = refl;
    stay = record {
      many = ap (λ (l : List (Option W)). length l) same;
      rest = λ p far. ap (λ (l : List (Option W)). get_or l p None) same;
    };
  }

  -- the wire of one port more is taken
  pub taken_push : (ports : List ℕ) (old now : List (Option W)) (outlets : List (Outlet W)) (p : ℕ) (x : W) → AreTaken ports old now outlets → (Contains ports p → ⊥) → get_or now p
      None ≡ Some x →
      p < length now → AreTaken (ports ++ p ∷ []) old (set now p None) (outlets ++ outlet p x ∷ [])
  taken_push ports old now outlets p x so far is lt = record {
    at = map-append (λ (o : Outlet W). o.port) outlets (outlet p x ∷ []) ∙ (λ t. so.at t ++ p ∷ []);
    wires = map-append (λ q. get_or old q None) ports (p ∷ []) ∙ ((λ t. so.wires t ++ (sym (so.stay.rest p far) ∙ is) t ∷ []) ∙ sym
        (map-append (λ (o : Outlet W). Some o.wire) outlets (outlet p x ∷ [])));
    gone = map-append (λ q. get_or (set now p None) q None) ports (p ∷ []) ∙
        ((λ t. (at_others ports now p None far ∙ so.gone) t ++ get_or-set_same now p None None lt t ∷ []) ∙ sym (map-append (λ q. None) ports (p ∷ [])));
    stay = record {
      many = length-set now p None ∙ so.stay.many;
      rest = λ q other. get_or-set_other now p q None None (λ e. other (subst (Contains (ports ++ p ∷ [])) (sym e) (Contains-push ports p))) ∙
          so.stay.rest q (λ has. other (Contains-append_left ports (p ∷ []) q has));
    };
  }

  -- the wire of one outlet more is back
  pub taken_cons : (ports : List ℕ) (now old : List (Option W)) (outlets : List (Outlet W)) (p : ℕ) (x : W) → AreTaken ports now old outlets → (Contains ports p → ⊥) → get_or old p
      None ≡ None →
      p < length now → AreTaken (p ∷ ports) (set now p (Some x)) old (outlet p x ∷ outlets)
  taken_cons ports now old outlets p x so far is lt = record {
    at = λ t. p ∷ so.at t;
    wires = λ t. get_or-set_same now p (Some x) None lt t ∷ (at_others ports now p (Some x) far ∙ so.wires) t;
    gone = λ t. is t ∷ so.gone t;
    stay = record {
      many = so.stay.many ∙ sym (length-set now p (Some x));
      rest = λ q other. so.stay.rest q (λ has. other (in_tail p ports q has)) ∙
          sym (get_or-set_other now p q (Some x) None (λ e. other (subst (Contains (p ∷ ports)) (sym e) (in_first p ports))));
    };
  }

  -- how many went into outlets
  pub taken_many : (ports : List ℕ) (old now : List (Option W)) (outlets : List (Outlet W)) → AreTaken ports old now outlets → length outlets ≡ length ports
  taken_many ports old now outlets so = sym (length-map outlets (λ (o : Outlet W). o.port)) ∙ ap (λ (l : List ℕ). length l) so.at

  -- the wire at the next port
  pub next_there : (ports : List ℕ) (i d : ℕ) (old now : List (Option W)) (outlets : List (Outlet W)) → AreTaken (take i ports) old now outlets → Distinct ports → AreThere ports
      old → i < length ports →
      IsSome (get_or now (get_or ports i d) None)
  next_there ports i d old now outlets so all there lt =
      subst (λ (o : Option W). IsSome o) (sym (so.stay.rest (get_or ports i d) (not_before ports i d all lt))) (there i d lt)

  pub take_next : (ports : List ℕ) (i d : ℕ) (old now : List (Option W)) (outlets : List (Outlet W)) (x : W) → AreTaken (take i ports) old now outlets → Distinct ports →
      AreThere ports old →
      i < length ports → get_or now (get_or ports i d) None ≡ Some x →
      AreTaken (take (i + 1) ports) old (set now (get_or ports i d) None) (outlets ++ outlet (get_or ports i d) x ∷ [])
  take_next ports i d old now outlets x so all there lt is =
      let p : ℕ = get_or ports i d in
      subst (λ (l : List ℕ). AreTaken l old (set now p None) (outlets ++ outlet p x ∷ [])) (sym (take_more ports i d lt))
      (taken_push (take i ports) old now outlets p x so (not_before ports i d all lt) is (there_within now p (next_there ports i d old now outlets so all there lt)))

  -- the outlets behind those that are left have given their wires back
  pub record PutSoFar (old now : List (Option W)) (all left : List (Outlet W)) : Type 0 where
    pub done : List (Outlet W)
    pub whole : left ++ done ≡ all
    pub taken : AreTaken (map (λ (o : Outlet W). o.port) done) now old done

  pub none_put : (old : List (Option W)) (all : List (Outlet W)) → PutSoFar old old all all
  none_put old all = record { done = []; whole = append-nil all; taken = none_taken old old [] refl refl }

  module _ (old now : List (Option W)) (all left rest : List (Outlet W)) (o : Outlet W) (so : PutSoFar old now all left) (popped : left ≡ rest ++ o ∷ []) where
    split : all ≡ rest ++ o ∷ so.done
    split = sym so.whole ∙ (ap (λ (l : List (Outlet W)). l ++ so.done) popped ∙ append_assoc rest (o ∷ []) so.done)

    among : Contains all o
    among = subst (λ (l : List (Outlet W)). Contains l o) (sym split) (Contains-append_right rest (o ∷ so.done) o (in_first o so.done))

    far : Distinct (map (λ (o : Outlet W). o.port) all) → Contains (map (λ (o : Outlet W). o.port) so.done) o.port → ⊥
    far distinct has =
        let ports : List ℕ = map (λ (o : Outlet W). o.port) so.done in
        let cut : map (λ (o : Outlet W). o.port) all ≡ map (λ (o : Outlet W). o.port) rest ++ o.port ∷ ports =
        ap (λ (l : List (Outlet W)). map (λ (o : Outlet W). o.port) l) split ∙ map-append (λ (o : Outlet W). o.port) rest (o ∷ so.done) in
        apart (o.port ∷ []) ports o.port (right_distinct (map (λ (o : Outlet W). o.port) rest) (o.port ∷ ports) (subst Distinct cut distinct)) (in_first o.port []) has

    pub put_within : All (λ (o : Outlet W). o.port < length old) all → o.port < length now
    put_within within = let k = All-contains (λ (o : Outlet W). o.port < length old) all o within among in let many = so.taken.stay.many in omega (arith, k, many)

    pub put_free : Distinct (map (λ (o : Outlet W). o.port) all) → All (λ (o : Outlet W). get_or old o.port None ≡ None) all → get_or now o.port None ≡ None
    put_free distinct gone = sym (so.taken.stay.rest o.port (far distinct)) ∙ All-contains (λ (o : Outlet W). get_or old o.port None ≡ None) all o gone among

    pub put_more : Distinct (map (λ (o : Outlet W). o.port) all) → All (λ (o : Outlet W). get_or old o.port None ≡ None) all → All (λ (o : Outlet W). o.port < length old) all →
        PutSoFar old (set now o.port (Some o.wire)) all rest
    put_more distinct gone within = record {
      done = o ∷ so.done;
      whole = sym split;
      taken = taken_cons (map (λ (o : Outlet W). o.port) so.done) now old so.done o.port o.wire so.taken (far distinct)
          (All-contains (λ (o : Outlet W). get_or old o.port None ≡ None) all o gone among) (put_within within);
    }

  pub all_put : (old now : List (Option W)) (all left : List (Outlet W)) → PutSoFar old now all left → left ≡ [] → AreTaken (map (λ (o : Outlet W). o.port) all) now old all
  all_put old now all left so none = subst (λ (l : List (Outlet W)). AreTaken (map (λ (o : Outlet W). o.port) l) now old l)
      (ap (λ (l : List (Outlet W)). l ++ so.done) (sym none) ∙ so.whole) so.taken
