-- A run of a whole crew, where each wire is in its place before and after.
use Rattle.std.proofs.Common.{◌≡◌, ◌⊎◌, inl, inr, ⊎_elim, ℕ, ◌<◌, ◌≤◌, List, [], ◌∷◌, length, map, get_or, sym, refl, ap, ◌∙◌, subst, arith, Option, Some, None, true≢false}
use Rattle.std.proofs.Common.{length-append}
use Rattle.std.specs.Prelude.{All, Contains, IsSome}
use Rattle.std.proofs.lemmas.List.{get_or_default, get_or-map, length-map}
use Rattle.std.proofs.lemmas.List.Elements.{All-contains, All-head, All-tail}
use Rattle.std.proofs.lemmas.Bool.{cases_lt, eqb-true}
use Rattle.std.proofs.lemmas.Option.{same_Some}
use Rattle.std.proofs.lemmas.Map.Made.{IsDistinct-from_AllPairs}
use Rattle.std.proofs.lemmas.Map.Steps.{length-le_from_distinct_below}
use Rattle.std.proofs.lemmas.Map.Views.{Contains-from_any}
use Rattle.std.proofs.lemmas.Bool.Decides.{Decides-eqb}
use Rattle.std.proofs.Math.ListN.{get_or-eq_default}
use mathlib.Core.Logic.{dite}
use native.Mathlib.Decide.{ℕ_discrete}
use Rattle.coflow_units.proofs.Sums.{first_or_tail, in_first, in_tail, nothing_in}
use Rattle.port_board.specs.declared.view.Came.{Came}
use Rattle.port_board.specs.declared.view.Report.{Report}
use Rattle.port_board.specs.declared.view.View.{View}
use Rattle.port_board.specs.Views.{came_of, Sits}
use Rattle.port_agent.specs.Attended.{IsServed}
use Rattle.crews.specs.Parts.{Trial}
use Rattle.crews.specs.Served.{AreCrewed, AreServedAt, EachServed, IsCrewed}
use Rattle.crews.specs.Wires.{AllThere, AreThere, Distinct, StayElsewhere, wires_of}
use Rattle.crews.proofs.Crewed.{first_of}

-- a port is in the list or not
pub listed : (ports : List ℕ) (p : ℕ) → Contains ports p ⊎ (Contains ports p → ⊥)
listed [] p = inr (λ has. nothing_in p has)
listed (q ∷ qs) p = dite (ℕ_discrete q p)
    (λ (e : q ≡ p). inl (subst (Contains (q ∷ qs)) e (in_first q qs)))
    (λ no. ⊎_elim (λ (has : Contains qs p). inl (in_tail q qs p has)) (λ none. inr (λ has. ⊎_elim no none (first_or_tail q qs p has))) (listed qs p))

-- distinct ports of a board are no more than its ports
pub few_ports : (ports : List ℕ) (many : ℕ) → Distinct ports → All (λ p. p < many) ports → length ports ≤ many
few_ports ports many distinct below = length-le_from_distinct_below ports many (IsDistinct-from_AllPairs Decides-eqb ports distinct)
    (λ q e. All-contains (λ p. p < many) ports q below (Contains-from_any eqb-true q ports e))

module _ {W : Type 0} where
  pub whole : (ws : List (Option W)) → AllThere ws → ws ≡ map (λ (w : W). Some w) (wires_of ws)
  whole [] all = refl
  whole (None ∷ ws) all = absurd (true≢false (sym (All-head (λ (w : Option W). IsSome w) None ws all)))
  whole (Some w ∷ ws) all = ap (λ l. Some w ∷ l) (whole ws (All-tail (λ (w : Option W). IsSome w) (Some w) ws all))

  pub as_long : (ws : List (Option W)) → AllThere ws → length (wires_of ws) ≡ length ws
  as_long ws all = sym (length-map (wires_of ws) (λ (w : W). Some w)) ∙ ap (λ (l : List (Option W)). length l) (sym (whole ws all))

  -- the wire at a port
  pub wire_at : (ws : List (Option W)) (p : ℕ) (d : W) → AllThere ws → p < length ws → get_or ws p None ≡ Some (get_or (wires_of ws) p d)
  wire_at ws p d all lt = let long = as_long ws all in
      ap (λ (l : List (Option W)). get_or l p None) (whole ws all) ∙ get_or-map (λ (w : W). Some w) (wires_of ws) p d None (omega (arith, lt, long))

  -- each port of a list has its wire
  pub there_at : (ports : List ℕ) (ws : List (Option W)) (many : ℕ) → AllThere ws → All (λ p. p < many) ports → many ≤ length ws → AreThere ports ws
  there_at ports ws many all below le k d lt = all (get_or ports k d) None (let n = below k d lt in omega (arith, n, le))

module _ {W : Type 0} (faults : W → ℕ) (runs : W → Option (List (ℕ × ℕ × ℕ))) where
  module _ (seats : List Sits) (ports : List ℕ) (old new : List (Option W)) (served : EachServed faults runs seats ports old new) where
    long : length ports ≡ length served.trials
    long = ap (λ (l : List ℕ). length l) (sym served.at) ∙ length-map served.trials (λ (x : Trial W). x.port)

    port_at : (i : ℕ) (d : Trial W) → i < length served.trials → get_or ports i 0 ≡ (get_or served.trials i d).port
    port_at i d lt = ap (λ (l : List ℕ). get_or l i 0) (sym served.at) ∙ get_or-map (λ (x : Trial W). x.port) served.trials i d 0 lt

    before_at : (i : ℕ) (d : Trial W) → i < length served.trials → get_or old (get_or ports i 0) None ≡ Some (get_or served.trials i d).before
    before_at i d lt = sym (get_or-map (λ p. get_or old p None) ports i 0 None (omega (arith, lt, long))) ∙
        (ap (λ (l : List (Option W)). get_or l i None) served.before ∙ get_or-map (λ (x : Trial W). Some x.before) served.trials i d None lt)

    after_at : (i : ℕ) (d : Trial W) → i < length served.trials → get_or new (get_or ports i 0) None ≡ Some (get_or served.trials i d).after
    after_at i d lt = sym (get_or-map (λ p. get_or new p None) ports i 0 None (omega (arith, lt, long))) ∙
        (ap (λ (l : List (Option W)). get_or l i None) served.after ∙ get_or-map (λ (x : Trial W). Some x.after) served.trials i d None lt)

    -- each wire is in its place again
    pub there_again : StayElsewhere ports old new → AllThere old → AllThere new
    there_again stay all k d lt =
        let many = stay.many in
        subst (λ (o : Option W). IsSome o) (get_or_default new k None d lt) (⊎_elim
        (λ (has : Contains ports k).
        let i : ℕ = has.0 in
        let inside : i < length served.trials = omega (arith, has.1, long) in
        let x : Trial W = get_or served.trials i (first_of served.trials i inside) in
        let is : get_or ports i 0 ≡ k = get_or_default ports i 0 k has.1 ∙ has.2 in
        subst (λ (o : Option W). IsSome o) (sym (ap (λ n. get_or new n None) (sym is) ∙ after_at i (first_of served.trials i inside) inside)) (some_is x.after))
        (λ none. subst (λ (o : Option W). IsSome o) (sym (stay.rest k none)) (all k None (omega (arith, lt, many))))
        (listed ports k))
      where
        some_is : (w : W) → IsSome (Some w)
        some_is w = refl

    pub served_at : StayElsewhere ports old new → AllThere old → AllThere new → (many : ℕ) → All (λ p. p < many) ports → many ≤ length old → AreServedAt faults runs seats ports
        (wires_of old) (wires_of new)
    served_at stay there there' many below le =
        let olds = as_long old there in
        let news = as_long new there' in
        let same = stay.many in
        let tooks = length-map served.trials (λ (x : Trial W). x.took) in record {
          took = map (λ (x : Trial W). x.took) served.trials;
          took_many = tooks ∙ sym long;
          as_many = news ∙ (same ∙ sym olds);
          each = λ i b a lt.
              let inside : i < length served.trials = omega (arith, lt, long) in
              let d : Trial W = first_of served.trials i inside in
              let x : Trial W = get_or served.trials i d in
              let p : ℕ = get_or ports i 0 in
              let low : p < length old = let n = below i 0 lt in omega (arith, n, le) in
              let before : x.before ≡ get_or (wires_of old) p b = same_Some x.before (get_or (wires_of old) p b) (sym (before_at i d inside) ∙ wire_at old p b there low) in
              let after : x.after ≡ get_or (wires_of new) p a = same_Some x.after (get_or (wires_of new) p a)
              (sym (after_at i d inside) ∙ wire_at new p a there' (omega (arith, low, same))) in
              subst (λ (z : ℕ × W × W × Option Report). IsServed faults runs seats z.0 z.1 z.2 z.3)
              (λ t. (sym (port_at i d inside) t, before t, after t, sym (get_or-map (λ (x : Trial W). x.took) served.trials i d None inside) t)) (served.each i d inside);
          rest = λ p d far. ⊎_elim
              (λ (lt : p < length old). same_Some (get_or (wires_of new) p d) (get_or (wires_of old) p d)
              (sym (wire_at new p d there' (omega (arith, lt, same))) ∙ (stay.rest p far ∙ wire_at old p d there lt)))
              (λ (out : length old ≤ p). get_or-eq_default (wires_of new) d (omega (arith, out, news, same)) ∙ sym (get_or-eq_default (wires_of old) d (omega (arith, out, olds))))
              (cases_lt p (length old));
          within = served.within;
        }

  -- a crew serves its ports, and no agent is out
  pub whole_run : (many : ℕ) (v w : View) (ports : List ℕ) (old new : List (Option W)) → length v.back ≡ v.made → AllThere old → All (λ p. p < many) ports → many ≤ length old →
      AreCrewed faults runs v w ports old new → ((length new ≡ length old) × AllThere new) × IsCrewed faults runs v w ports (wires_of old) (wires_of new)
  whole_run many v w ports old new none there below le did =
      let there' = there_again did.seats ports old new did.served did.stay there in
      let made = did.came.made in
      let comes = length-map did.seats (λ (s : Sits). came_of s.view) in
      let long = length-append v.back (map (λ (s : Sits). came_of s.view) did.seats) in
      let all = ap (λ (l : List Came). length l) did.came.back in (
        (did.stay.many, there'),
        record {
          posts = did.came.posts;
          settled = did.came.settled;
          none_out = omega (arith, none, made, comes, long, all);
          posted = did.came.posted;
          apart = did.came.apart;
          seats = did.seats;
          back = did.came.back;
          shown = did.came.shown;
          none_held = did.came.none_held;
          served = served_at did.seats ports old new did.served did.stay there there' many below le;
        },
      )
