-- The round over the ports, so far.
use Rattle.std.proofs.Common.{◌≡◌, ℕ, ◌+◌, ◌*◌, ◌<◌, ◌≤◌, List, [], ◌∷◌, ◌++◌, length, get_or, set, sym, refl, ap, ◌∙◌, subst, arith, Option, Some, None, Bool, true, false}
use Rattle.std.proofs.Common.{length-set, length-append, get_or-set_other, get_or-set_same}
use Rattle.std.specs.Prelude.{nat_lt, if◌then◌else◌, flat_map}
use Rattle.std.proofs.lemmas.List.{append-nil, append_assoc, get_or_append_left, get_or_push}
use Rattle.std.proofs.lemmas.List.Sums.{sum_by_push}
use Rattle.std.proofs.lemmas.List.Concat.{flat_map-append}
use mathlib.Core.Logic.{dite}
use native.Mathlib.Decide.{ℕ_discrete}
use Rattle.port_board.specs.declared.view.Report.{Report}
use Rattle.port_board.specs.declared.view.View.{View}
use Rattle.port_board.specs.Views.{last_at, IsNewest, LastIsListed}
use Rattle.port_agent.specs.declared.agent.Served.{Served}
use Rattle.port_agent.specs.Served.{Look, IsTry, TriedOnce, TriedEachOnce, GoesOn, SentOn, Attends, ServesPort, IsRound, taken, units_of, shorts_of, adds}

pub taken_append : (xs ys : List (Option Report)) → taken (xs ++ ys) ≡ taken xs ++ taken ys
taken_append [] ys = refl
taken_append (None ∷ xs) ys = taken_append xs ys
taken_append (Some r ∷ xs) ys = ap (λ l. r ∷ l) (taken_append xs ys)

still_listed : (v w : View) (more : List Report) (port : ℕ) → GoesOn v w more → LastIsListed port v → LastIsListed port w
still_listed v w more port goes h g e = goes.listed port g.slot (h g (subst (λ l. last_at port l ≡ Some g) goes.shown e))

no_tries : (ports first : ℕ) (v : View) → TriedEachOnce ports first [] v v
no_tries ports first v = record {
  tries = [];
  as_many = refl;
  each = λ i lt. absurd (omega arith);
  looks = sym (append-nil v.looks);
}

-- one try more
try_more : (ports first i : ℕ) (took : List (Option Report)) (o : Option Report) (v w u : View) → length took ≡ i → TriedEachOnce ports first took v w →
    TriedOnce ports (first + i) w u o → TriedEachOnce ports first (took ++ o ∷ []) v u
try_more ports first i took o v w u long so one =
    let join : List Look → List Look = λ looks. looks in
    let here : List Look = one.0 in
    let many = so.as_many in
    let longs = length-append so.tries (here ∷ []) in
    let longs' = length-append took (o ∷ []) in
    let all : flat_map join (so.tries ++ here ∷ []) ≡ flat_map join so.tries ++ here = flat_map-append join so.tries (here ∷ []) ∙ ap (λ l. flat_map join so.tries ++ l)
    (append-nil here) in
    record {
      tries = so.tries ++ here ∷ [];
      as_many = omega arith;
      each = λ j lt. dite (ℕ_discrete j i)
          (λ is. subst (λ (z : ℕ × Option Report × List Look). IsTry ports (first + z.0) z.1 z.2)
          (λ t. (sym is t, sym (get_or_push took o None j (long ∙ sym is)) t, sym (get_or_push so.tries here [] j (many ∙ (long ∙ sym is))) t)) one.1)
          (λ far. let before : j < length took = omega (arith, far, lt) in subst (λ (z : Option Report × List Look). IsTry ports (first + j) z.0 z.1)
          (λ t. (sym (get_or_append_left took (o ∷ []) None j before) t, sym (get_or_append_left so.tries (here ∷ []) [] j (omega (arith, before, many))) t))
          (so.each j before));
      looks = one.2 ∙ (ap (λ l. l ++ here) so.looks ∙ (append_assoc v.looks (flat_map join so.tries) here ∙ ap (λ l. v.looks ++ l) (sym all)));
    }

-- what the view shows of the reports that were taken
pub record IsSeen (v w : View) (took : List (Option Report)) : Type 0 where
  pub out : w.out ≡ v.out
  pub shown : w.shown ≡ v.shown
  pub done : w.done ≡ v.done ++ taken took

-- what was counted of the reports that were taken at i ports
pub record IsCounted (i : ℕ) (took : List (Option Report)) (s : Served) : Type 0 where
  pub drawn : s.drawn ≡ length (taken took)
  pub sent : s.sent ≡ units_of (taken took)
  pub short : s.short ≡ shorts_of (taken took)
  pub few : s.drawn ≤ i
  pub few_short : s.short ≤ i
  pub small : s.sent ≤ i * 2199023255552

module _ {W : Type 0} (faults : W → ℕ) (runs : W → Option (List (ℕ × ℕ × ℕ))) where
  -- after the first i ports
  pub record SoFar (ports first i : ℕ) (v w : View) (old now : List W) (s : Served) : Type 0 where
    pub took : List (Option Report)
    pub as_many : length took ≡ i
    pub wires : length now ≡ length old
    pub each : (j : ℕ) (d e : W) → j < i → Attends faults runs w (first + j) (get_or old j d) (get_or now j e) (get_or took j None)
    pub rest : (j : ℕ) (d : W) → i ≤ j → get_or now j d ≡ get_or old j d
    pub seen : IsSeen v w took
    pub counted : IsCounted i took s
    pub tries : TriedEachOnce ports first took v w

  pub begins : (ports first : ℕ) (v : View) (old : List W) (s : Served) → s.drawn ≡ 0 → s.sent ≡ 0 → s.short ≡ 0 → SoFar ports first 0 v v old old s
  begins ports first v old s a b c = record {
    took = [];
    as_many = refl;
    wires = refl;
    each = λ j d e lt. absurd (omega arith);
    rest = λ j d le. refl;
    seen = record {
      out = refl;
      shown = refl;
      done = sym (append-nil v.done);
    };
    counted = record {
      drawn = a;
      sent = b;
      short = c;
      few = omega arith;
      few_short = omega arith;
      small = omega arith;
    };
    tries = no_tries ports first v;
  }

  pub ends : (ports first i : ℕ) (v w : View) (old now : List W) (s : Served) → i ≡ length old → SoFar ports first i v w old now s
      → IsRound faults runs ports first v w old now s
  ends ports first i v w old now s all so = record {
    took = so.took;
    attended = record { as_many = so.as_many ∙ all; wires = so.wires; each = λ j d e lt. so.each j d e (omega arith) };
    tries = so.tries;
    done = so.seen.done;
    drawn = so.counted.drawn;
    sent = so.counted.sent;
    short = so.counted.short;
  }

  -- what was attended stays so where the lists grow
  attends_on : (v w : View) (more : List Report) (port : ℕ) (x y : W) (o : Option Report) → GoesOn v w more → Attends faults runs v port x y o → Attends faults runs w port x y o
  attends_on v w more port x y None goes h = (h.0, still_listed v w more port goes h.1)
  attends_on v w more port x y (Some r) goes h = (h.0, h.1, subst (IsNewest r.grant) (sym goes.shown) h.2)

  module _ (ports first i : ℕ) (v w u : View) (old now : List W) (y : W) (inside : i < length old) where
    -- one more port
    each_more : (took : List (Option Report)) (more : List Report) (o : Option Report) → length took ≡ i → length now ≡ length old →
        ((j : ℕ) (d e : W) → j < i → Attends faults runs w (first + j) (get_or old j d) (get_or now j e) (get_or took j None))
        → GoesOn w u more → ((d : W) → Attends faults runs u (first + i) (get_or old i d) y o)
        → (j : ℕ) (d e : W) → j < i + 1 → Attends faults runs u (first + j) (get_or old j d) (get_or (set now i y) j e) (get_or (took ++ o ∷ []) j None)
    each_more took more o long many each goes new j d e lt = dite (ℕ_discrete j i)
        (λ is. subst (λ (z : ℕ). Attends faults runs u (first + z) (get_or old z d) (get_or (set now i y) z e) (get_or (took ++ o ∷ []) z None)) (sym is)
        (subst (λ (z : W × Option Report). Attends faults runs u (first + i) (get_or old i d) z.0 z.1)
        (λ t. (sym (get_or-set_same now i y e (omega arith)) t, sym (get_or_push took o None i long) t)) (new d)))
        (λ far. subst (λ (z : W × Option Report). Attends faults runs u (first + j) (get_or old j d) z.0 z.1)
        (λ t. (sym (get_or-set_other now i j y e far) t, sym (get_or_append_left took (o ∷ []) None j (omega arith)) t))
        (attends_on w u more (first + j) (get_or old j d) (get_or now j e) (get_or took j None) goes (each j d e (omega arith))))

    rest_more : ((j : ℕ) (d : W) → i ≤ j → get_or now j d ≡ get_or old j d) → (j : ℕ) (d : W) → i + 1 ≤ j → get_or (set now i y) j d ≡ get_or old j d
    rest_more rest j d le = get_or-set_other now i j y d (λ e. absurd (omega arith)) ∙ rest j d (omega arith)

    -- nothing was drawn at the port
    pub goes_idle : (s : Served) (x : W) → SoFar ports first i v w old now s → ((d : W) → x ≡ get_or now i d) → ServesPort faults runs ports (first + i) w u x y None →
        SoFar ports first (i + 1) v u old (set now i y) s
    goes_idle s x so at h =
        let long = length-append so.took (None ∷ []) in
        let many = so.as_many in
        let few = so.counted.few in
        let few_short = so.counted.few_short in
        let small = so.counted.small in
        let list : taken (so.took ++ None ∷ []) ≡ taken so.took = taken_append so.took (None ∷ []) ∙ append-nil (taken so.took) in record {
          took = so.took ++ None ∷ [];
          as_many = omega arith;
          wires = length-set now i y ∙ so.wires;
          each = each_more so.took [] None so.as_many so.wires so.each h.2 (λ d. (h.0 ∙ (at d ∙ so.rest i d (omega arith)), h.1));
          rest = rest_more so.rest;
          seen = record {
            out = h.2.out ∙ so.seen.out;
            shown = h.2.shown ∙ so.seen.shown;
            done = h.2.done ∙ (append-nil w.done ∙ (so.seen.done ∙ ap (λ l. v.done ++ l) (sym list)));
          };
          counted = record {
            drawn = so.counted.drawn ∙ ap (λ (l : List Report). length l) (sym list);
            sent = so.counted.sent ∙ ap units_of (sym list);
            short = so.counted.short ∙ ap shorts_of (sym list);
            few = omega arith;
            few_short = omega arith;
            small = omega arith;
          };
          tries = try_more ports first i so.took None v w u so.as_many so.tries h.3;
        }

    -- a grant was drawn at the port
    pub goes_took : (s s' : Served) (x : W) (length_is sent_is : ℕ) → SoFar ports first i v w old now s → ((d : W) → x ≡ get_or now i d) →
        ServesPort faults runs ports (first + i) w u x y (Some (length_is, sent_is)) → adds length_is sent_is s s'
        → SoFar ports first (i + 1) v u old (set now i y) s'
    goes_took s s' x length_is sent_is so at h add =
        let r : Report = h.0 in
        let on = h.5 in
        let goes = h.6 in
        let long = length-append so.took (Some r ∷ []) in
        let many = so.as_many in
        let few = so.counted.few in
        let few_short = so.counted.few_short in
        let small = so.counted.small in
        let list : taken (so.took ++ Some r ∷ []) ≡ taken so.took ++ r ∷ [] = taken_append so.took (Some r ∷ []) in
        let a = add.0 in
        let b = add.1 in
        let c = add.2 in
        let one_more = length-append (taken so.took) (r ∷ []) in
        let bound : sent_is ≤ 2199023255552 = let x = on.bound in let l = h.2 in let q = h.3 in let m = h.4.1 in omega arith in
        let one_short : (if nat_lt sent_is length_is then 1 else 0) ≤ 1 = small_if (nat_lt sent_is length_is) in record {
          took = so.took ++ Some r ∷ [];
          as_many = omega arith;
          wires = length-set now i y ∙ so.wires;
          each = each_more so.took (r ∷ []) (Some r) so.as_many so.wires so.each goes
              (λ d. (h.1, subst (λ (z : W). SentOn faults runs z y r) (at d ∙ so.rest i d (omega arith)) on, subst (IsNewest r.grant) (sym goes.shown) h.7));
          rest = rest_more so.rest;
          seen = record {
            out = goes.out ∙ so.seen.out;
            shown = goes.shown ∙ so.seen.shown;
            done = goes.done ∙ (ap (λ l. l ++ r ∷ []) so.seen.done ∙ (append_assoc v.done (taken so.took) (r ∷ []) ∙ ap (λ l. v.done ++ l) (sym list)));
          };
          counted = record {
            drawn = add.0 ∙ (ap (λ z. z + 1) so.counted.drawn ∙ (sym one_more ∙ ap (λ (l : List Report). length l) (sym list)));
            sent = add.1 ∙ ((λ t. so.counted.sent t + sym h.3 t) ∙ (sym (sum_by_push (λ (q : Report). q.sent) (taken so.took) r) ∙ ap units_of (sym list)));
            short = add.2 ∙ ((λ t. so.counted.short t + (if nat_lt (sym h.3 t) (sym h.2 t) then 1 else 0)) ∙
                (sym (sum_by_push (λ (q : Report). if nat_lt q.sent q.grant.length then 1 else 0) (taken so.took) r) ∙ ap shorts_of (sym list)));
            few = omega arith;
            few_short = omega arith;
            small = omega arith;
          };
          tries = try_more ports first i so.took (Some r) v w u so.as_many so.tries h.8;
        }
      where
        small_if : (b : Bool) → (if b then 1 else 0) ≤ 1
        small_if true = omega arith
        small_if false = omega arith
