-- A step of a seat keeps the rule, where it keeps what each port and each view says.
use Rattle.std.proofs.Common.{◌≡◌, ◌≢◌, ◌⊎◌, inl, inr, ℕ, zero, suc, ◌+◌, ◌<◌, ◌≤◌, List, [], ◌∷◌, ◌++◌, length, get_or, set, sym, refl, ap, ◌∙◌, subst, ⊎_elim, arith}
use Rattle.std.specs.Prelude.{All, AllPairs, Contains, slice_index}
use mathlib.Core.Logic.{dite}
use mathlib.Core.Option.{some, some-injective, some-ne-none}
use native.Mathlib.Decide.{ℕ_discrete}
use lib.ListN.{get_elem?}
use lib.Seq.{set-get_or}
use Rattle.atomic_table.specs.Table.{State}
use Rattle.atomic_table.proofs.Lists.{set_here, set_else}
use Rattle.coflow_units.specs.PortWord.{PortStage}
use Rattle.coflow_units.specs.PortWord.PortStage.{unposted, drawn, reported}
use Rattle.port_board.specs.declared.view.Grant.{Grant}
use Rattle.port_board.specs.declared.view.Report.{Report}
use Rattle.port_board.specs.declared.view.View.{View}
use Rattle.port_board.specs.declared.view.Came.{Came}
use Rattle.port_board.specs.declared.view.Kind.{Kind}
use Rattle.port_board.specs.declared.view.Kind.TheVariants.{Note, Agent, Poster}
use Rattle.port_board.specs.Views.{number_of, report}
use Rattle.port_board.specs.Rule.{Cargo, PortOk, grant_at, Knows, PosterOk, total, agent, agents, IsNumber, Seated, HasOut, HasDone, Kept}
use Rattle.coflow_units.proofs.Elements.{seats_stay}

abbrev pub St : Type 0
St = State (Unit {0}) View

pub total_set : (f : View → ℕ) (vs : List View) (j : ℕ) (v w : View) → get_elem? vs j ≡ some v → total f (set vs j w) + f v ≡ total f vs + f w
total_set f [] j v w e = absurd (some-ne-none v (sym e))
total_set f (x ∷ xs) zero v w e = let same : f x ≡ f v = ap f (some-injective x v e) in omega arith
total_set f (x ∷ xs) (suc j) v w e = let t = total_set f xs j v w e in omega arith

pub total_push : (f : View → ℕ) (vs : List View) (w : View) → total f (vs ++ w ∷ []) ≡ total f vs + f w
total_push f [] w = omega arith
total_push f (x ∷ xs) w = let t = total_push f xs w in omega arith

pub total_none : (f : View → ℕ) (vs : List View) (j : ℕ) (v : View) → get_elem? vs j ≡ some v → total f vs ≡ 0 → f v ≡ 0
total_none f [] j v e z = absurd (some-ne-none v (sym e))
total_none f (x ∷ xs) zero v e z = let same : f x ≡ f v = ap f (some-injective x v e) in omega arith
total_none f (x ∷ xs) (suc j) v e z = total_none f xs j v e (omega arith)

pub inside_of : (l : List View) (i : ℕ) (u : View) → get_elem? l i ≡ some u → i < length l
inside_of [] i u e = absurd (some-ne-none u (sym e))
inside_of (x ∷ xs) zero u e = omega arith
inside_of (x ∷ xs) (suc i) u e = let h = inside_of xs i u e in omega arith

-- the view is of the same seat, with the same seats that came back
pub record Goes (v w : View) : Type 0 where
  pub kind : w.kind ≡ v.kind
  pub made : w.made ≡ v.made
  pub back : w.back ≡ v.back

pub seated_stays : (who : ℕ → ℕ) (made returned seat : ℕ) (v w : View) (k : Kind) → Goes v w → Seated who made returned seat v k → Seated who made returned seat w k
seated_stays who made returned seat v w Note go h = h
seated_stays who made returned seat v w (Agent k) go h = h
seated_stays who made returned seat v w Poster go h = (
  h.0,
  go.made ∙ h.1,
  ap (λ (l : List Came). length l) go.back ∙ h.2,
  subst (All (IsNumber who made seat)) (sym go.back) h.3,
  subst (AllPairs (λ (c d : Came). c.number ≢ d.number)) (sym go.back) h.4,
)

-- an agent's number tells its seat
pub same_seat : (who : ℕ → ℕ) (made returned i j a : ℕ) (v w : View) (k : Kind) → who a ≡ i → 0 < a → number_of k ≡ a → Seated who made returned j w k → j ≡ i
same_seat who made returned i j a v w Note is pos e h = absurd (omega arith)
same_seat who made returned i j a v w (Agent k) is pos e h = sym h.0 ∙ (ap who e ∙ is)
same_seat who made returned i j a v w Poster is pos e h = absurd (omega arith)

pub agent_seated : (who : ℕ → ℕ) (made returned seat a : ℕ) (v : View) (k : Kind) → k ≡ Agent a → Seated who made returned seat v k → (who a ≡ seat) × (0 < a) × (a ≤ made)
agent_seated who made returned seat a v k is h = subst (Seated who made returned seat v) is h

module _ (n : ℕ) (s : St) (r : Kept n s) (id : ℕ) (v w : View) (at : get_elem? s.views id ≡ some v) (go : Goes v w) where
  here : get_elem? (set s.views id w) id ≡ some w
  here = set_here s.views id w (inside_of s.views id v at)

  -- a view with some property is still there
  still_there : (P : View → Type 0) (j : ℕ) (d : View) → get_elem? s.views j ≡ some d → P d → (P v → P w) → (u : View) × (get_elem? (set s.views id w) j ≡ some u) × P u
  still_there P j d e h keep = dite (ℕ_discrete j id)
      (λ is. (w, ap (get_elem? (set s.views id w)) is ∙ here, keep (subst P (some-injective d v (sym e ∙ (ap (get_elem? s.views) is ∙ at))) h)))
      (λ other. (d, set_else s.views id j w other ∙ e, h))

  -- the rule after a step that leaves the words `words'`, where the posts are as slot', cargo' and stage' say
  pub rebuilt : (words' : List ℕ) (slot' : ℕ → ℕ) (cargo' : ℕ → ℕ → Cargo) (stage' : ℕ → ℕ → PortStage) → length words' ≡ n + n
      → ((p : ℕ) → p < n → PortOk (slice_index words' p) (slice_index words' (n + p)) (slot' p) (cargo' p) (stage' p))
      → ((p k : ℕ) → n ≤ p → stage' p k ≡ unposted)
      → Knows cargo' stage' n words' slot' w
      → ((j : ℕ) (d : View) → j ≢ id → get_elem? s.views j ≡ some d → Knows cargo' stage' n words' slot' d)
      → (w.kind ≡ Poster → PosterOk cargo' stage' n words' slot' w)
      → ((j : ℕ) (d : View) → j ≢ id → get_elem? s.views j ≡ some d → d.kind ≡ Poster → PosterOk cargo' stage' n words' slot' d)
      → ((p k a : ℕ) → stage' p k ≡ drawn a →
      ((r.stage p k ≡ drawn a) × (grant_at r.cargo p k ≡ grant_at cargo' p k) × (HasOut a (grant_at r.cargo p k) v → HasOut a (grant_at r.cargo p k) w)) ⊎
      ((r.who a ≡ id) × HasOut a (grant_at cargo' p k) w))
      → ((p k a m : ℕ) → stage' p k ≡ reported a m →
      ((r.stage p k ≡ reported a m) × (grant_at r.cargo p k ≡ grant_at cargo' p k) ×
      (HasDone a (report (grant_at r.cargo p k) m) v → HasDone a (report (grant_at r.cargo p k) m) w)) ⊎ ((r.who a ≡ id) × HasDone a (report (grant_at cargo' p k) m) w))
      → Kept n record { words = words'; homes = s.homes; views = set s.views id w }
  rebuilt words' slot' cargo' stage' wide ports beyond mine others poster posters out done =
      let t = total_set agents s.views id v w at in
      let same : agents w ≡ agents v = ap agent go.kind in
      let seated = r.seated in record {
        slot = slot';
        cargo = cargo';
        stage = stage';
        who = r.who;
        made = r.made;
        returned = r.returned;
        wide = wide;
        each_port = ports;
        beyond = beyond;
        seated = omega arith;
        each_seat = seats_stay (λ j d. Knows cargo' stage' n words' slot' d) s.views id w mine others;
        each_sits = seats_stay (λ j d. Seated r.who r.made r.returned j d d.kind) s.views id w
            (subst (Seated r.who r.made r.returned id w) (sym go.kind) (seated_stays r.who r.made r.returned id v w v.kind go (r.each_sits id v at))) (λ j d _. r.each_sits j d);
        posting = seats_stay (λ j d. d.kind ≡ Poster → PosterOk cargo' stage' n words' slot' d) s.views id w poster posters;
        drawn_there = λ p k a e. ⊎_elim
            (λ (t : (r.stage p k ≡ drawn a) × (grant_at r.cargo p k ≡ grant_at cargo' p k) × (HasOut a (grant_at r.cargo p k) v → HasOut a (grant_at r.cargo p k) w)).
            let d = r.drawn_there p k a t.0 in
            subst (λ (g : Grant). (u : View) × (get_elem? (set s.views id w) (r.who a) ≡ some u) × HasOut a g u) t.1
            (still_there (HasOut a (grant_at r.cargo p k)) (r.who a) d.0 d.1 d.2 t.2))
            (λ (t : (r.who a ≡ id) × HasOut a (grant_at cargo' p k) w). (w, ap (get_elem? (set s.views id w)) t.0 ∙ here, t.1))
            (out p k a e);
        reported_there = λ p k a m e. ⊎_elim
            (λ (t : (r.stage p k ≡ reported a m) × (grant_at r.cargo p k ≡ grant_at cargo' p k)
            × (HasDone a (report (grant_at r.cargo p k) m) v → HasDone a (report (grant_at r.cargo p k) m) w)).
            let d = r.reported_there p k a m t.0 in
            subst (λ (g : Grant). (u : View) × (get_elem? (set s.views id w) (r.who a) ≡ some u) × HasDone a (report g m) u) t.1
            (still_there (HasDone a (report (grant_at r.cargo p k) m)) (r.who a) d.0 d.1 d.2 t.2))
            (λ (t : (r.who a ≡ id) × HasDone a (report (grant_at cargo' p k) m) w). (w, ap (get_elem? (set s.views id w)) t.0 ∙ here, t.1))
            (done p k a m e);
      }

  -- a step that changes no word
  pub unmoved : (i : ℕ) → ((g : Grant) → Contains v.out g → Contains w.out g) → ((x : Report) → Contains v.done x → Contains w.done x)
      → Knows r.cargo r.stage n s.words r.slot w → (w.kind ≡ Poster → PosterOk r.cargo r.stage n s.words r.slot w)
      → Kept n record { words = set s.words i (get_or s.words i 0); homes = s.homes; views = set s.views id w }
  unmoved i out done mine poster = subst (λ (ws : List ℕ). Kept n record { words = ws; homes = s.homes; views = set s.views id w }) (sym (set-get_or s.words i 0))
      (rebuilt s.words r.slot r.cargo r.stage r.wide r.each_port r.beyond mine (λ j d _. r.each_seat j d) poster (λ j d _. r.posting j d)
      (λ p k a e. inl (e, refl, (λ h. (go.kind ∙ h.0, out (grant_at r.cargo p k) h.1))))
      (λ p k a m e. inl (e, refl, has_done a (report (grant_at r.cargo p k) m) done)))
    where
      has_done : (a : ℕ) (x : Report) → ((y : Report) → Contains v.done y → Contains w.done y) → HasDone a x v → HasDone a x w
      has_done a x keep h = ⊎_elim (λ (t : (v.kind ≡ Agent a) × Contains v.done x). inl (go.kind ∙ t.0, keep x t.1))
          (λ (t : (v.kind ≡ Poster) × ((c : Came) × Contains v.back c × (c.number ≡ a) × Contains c.done x)).
          inr (go.kind ∙ t.0, (t.1.0, subst (λ (l : List Came). Contains l t.1.0) (sym go.back) t.1.1, t.1.2, t.1.3))) h
