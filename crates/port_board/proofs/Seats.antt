-- Seats that are cut and joined keep the rule.
use Rattle.std.proofs.Common.{◌≡◌, ◌≢◌, inl, inr, ℕ, ◌+◌, ◌<◌, ◌≤◌, List, [], ◌∷◌, ◌++◌, length, get_or, set, sym, refl, ap, ◌∙◌, subst, ⊎_elim, arith}
use Rattle.std.proofs.Common.{length-append, length-set}
use Rattle.std.specs.Prelude.{All, AllPairs, Contains}
use Rattle.std.proofs.lemmas.List.Elements.{All-nil, All-push, All-weaker, All-contains, Contains-push, Contains-append_left}
use Rattle.std.proofs.lemmas.List.Quantifiers.{all_pairs_push}
use mathlib.Core.Logic.{dite}
use mathlib.Core.Option.{some, some-injective}
use native.Mathlib.Decide.{ℕ_discrete}
use lib.ListN.{get_elem?}
use Rattle.atomic_table.specs.Table.{Splits, Joins}
use Rattle.atomic_table.proofs.Lists.{at_set, set_here, set_else, set_again, at_longer}
use Rattle.coflow_units.specs.PortWord.{PortStage}
use Rattle.port_board.specs.declared.view.Grant.{Grant}
use Rattle.port_board.specs.declared.view.Report.{Report}
use Rattle.port_board.specs.declared.view.Step.{Step}
use Rattle.port_board.specs.declared.view.Step.TheVariants.{Rests, Loaded, Won, Counted, Offered, Ready}
use Rattle.port_board.specs.declared.view.View.{View}
use Rattle.port_board.specs.declared.view.Came.{Came}
use Rattle.port_board.specs.declared.view.Kind.{Kind}
use Rattle.port_board.specs.declared.view.Kind.TheVariants.{Note, Agent, Poster}
use Rattle.port_board.specs.Views.{number_of, report, blank, one_more, newcomer, came_of, takes_in}
use Rattle.port_board.specs.Rule.{Cargo, grant_at, DifferAt, ReportsDiffer, Posted, Out, Back, Gone, Closed, CameOk, StepOk, Counts, Knows, PosterOk, agent, agents, IsNumber}
use Rattle.port_board.specs.Rule.{Seated, HasOut, HasDone, Kept}
use Rattle.port_board.specs.Tells.{note_of, hears, spent}
use Rattle.coflow_units.proofs.Changes.{put, put_here, put_else}
use Rattle.port_board.proofs.Moves.{St, total_set, total_push, inside_of, rebuilt, agent_seated}
use Rattle.port_board.proofs.AgentSteps.{goes_same, not_poster}
use Rattle.port_board.proofs.Agreements.{its}
use Rattle.coflow_units.proofs.Elements.{at_end, seats_stay}

pub none_pairs : {A : Type 0} (R : A → A → Type 0) → AllPairs R []
none_pairs {A} R i j d lt within = absurd (omega arith)

-- a view with empty lists knows nothing
pub blank_knows : (cargo : ℕ → ℕ → Cargo) (stage : ℕ → ℕ → PortStage) (n : ℕ) (words : List ℕ) (slot : ℕ → ℕ) (k : Kind) (seen : List Grant) → All (Posted cargo stage) seen →
    Knows cargo stage n words slot (record (blank k) { shown = seen })
blank_knows cargo stage n words slot k seen all = record {
  shown = all;
  out = All-nil (Out cargo stage (number_of k));
  counts = All-nil (Counts cargo stage n words Rests);
  done = All-nil (Back cargo stage (number_of k));
  missed = All-nil (Gone cargo stage);
  drawn_once = none_pairs DifferAt;
  once = (none_pairs ReportsDiffer, none_pairs (λ m k. m ≢ k));
  stepping = tt;
  came = All-nil (CameOk cargo stage);
  posts = All-nil (Posted cargo stage);
  settled = All-nil (Closed cargo stage);
}

abbrev IsNote : Kind → Type 0
IsNote Note = Unit {0}
IsNote _ = ⊥

abbrev IsLead : Kind → Type 0
IsLead Poster = Unit {0}
IsLead _ = ⊥

abbrev IsAgent : Kind → Type 0
IsAgent (Agent k) = Unit {0}
IsAgent _ = ⊥

module _ (n : ℕ) where
  one_lead : (s : St) (r : Kept n s) (id j : ℕ) (v d : View) → get_elem? s.views id ≡ some v → v.kind ≡ Poster → get_elem? s.views j ≡ some d → d.kind ≡ Poster → j ≡ id
  one_lead s r id j v d at is e d_is = sym (its n s r j d e d_is).0 ∙ (its n s r id v at is).0

  -- a seat that reported has a number that was made
  reporter_made : (s : St) (r : Kept n s) (j a : ℕ) (d : View) (y : Report) → get_elem? s.views j ≡ some d → HasDone a y d → a ≤ r.made
  reporter_made s r j a d y e h = ⊎_elim (λ (t : (d.kind ≡ Agent a) × Contains d.done y). (agent_seated r.who r.made r.returned j a d d.kind t.0 (r.each_sits j d e)).2)
      (λ (t : (d.kind ≡ Poster) × ((c : Came) × Contains d.back c × (c.number ≡ a) × Contains c.done y)).
      let all = (its n s r j d e t.0).3 in subst (λ (z : ℕ). z ≤ r.made) t.1.2 (All-contains (IsNumber r.who r.made j) d.back t.1.0 all t.1.1).2) h

  lead_knows : (s : St) (r : Kept n s) (id : ℕ) (v : View) → get_elem? s.views id ≡ some v → Knows r.cargo r.stage n s.words r.slot (one_more v)
  lead_knows s r id v at = let k = r.each_seat id v at in record {
    shown = k.shown;
    out = k.out;
    counts = k.counts;
    done = k.done;
    missed = k.missed;
    drawn_once = k.drawn_once;
    once = k.once;
    stepping = step_of r.cargo r.stage r.slot v v.step k.stepping;
    came = k.came;
    posts = k.posts;
    settled = k.settled;
  }
    where
      step_of : (cargo : ℕ → ℕ → Cargo) (stage : ℕ → ℕ → PortStage) (slot : ℕ → ℕ) (v : View) (st : Step) → StepOk cargo stage slot v st → StepOk cargo stage slot (one_more v) st
      step_of cargo stage slot v Rests h = h
      step_of cargo stage slot v (Loaded p w) h = h
      step_of cargo stage slot v (Won p m) h = h
      step_of cargo stage slot v (Counted p m) h = h
      step_of cargo stage slot v (Offered p w) h = h
      step_of cargo stage slot v (Ready p) h = h

  lead_posts : (s : St) (r : Kept n s) (id : ℕ) (v : View) → get_elem? s.views id ≡ some v → v.kind ≡ Poster → PosterOk r.cargo r.stage n s.words r.slot (one_more v)
  lead_posts s r id v at is = let h = r.posting id v at is in record { slot_is = h.slot_is; each_post = h.each_post; taken = h.taken; count = h.count; stepping = h.stepping }

  -- the poster makes one more agent
  pub makes_agent : (id : ℕ) (v : View) → v.kind ≡ Poster → Splits (Kept n) id v (one_more v) (newcomer v)
  makes_agent id v is s r at =
      let w : View = one_more v in
      let u : View = newcomer v in
      let vs : List View = set s.views id w in
      let mine = its n s r id v at is in
      let made_is : v.made ≡ r.made = mine.1 in
      let last : ℕ = length vs in
      let who' : ℕ → ℕ = put r.who (r.made + 1) last in
      let old_who : (k : ℕ) → k ≤ r.made → who' k ≡ r.who k = λ k le. put_else r.who (r.made + 1) last k (λ e. absurd (omega arith)) in
      let t = total_set agents s.views id v w at in
      let same : agents w ≡ agents v = refl in
      let p = total_push agents vs u in
      let one : agents u ≡ 1 = refl in
      let seated = r.seated in
      let long = length-set s.views id w in
      let inside = inside_of s.views id v at in
      let back_ok : All (IsNumber who' (r.made + 1) id) v.back =
      All-weaker (IsNumber r.who r.made id) (IsNumber who' (r.made + 1) id) (λ c h. let le = h.2 in (old_who c.number h.2 ∙ h.0, h.1, omega arith)) v.back mine.3 in
      let sits_old : (j : ℕ) (d : View) → j ≢ id → get_elem? s.views j ≡ some d →
      Seated who' (r.made + 1) r.returned j d d.kind = λ j d other e. by_kind j d d.kind (λ lead. other (one_lead s r id j v d at is e lead)) old_who (r.each_sits j d e) in
      record {
        slot = r.slot;
        cargo = r.cargo;
        stage = r.stage;
        who = who';
        made = r.made + 1;
        returned = r.returned;
        wide = r.wide;
        each_port = r.each_port;
        beyond = r.beyond;
        seated = omega arith;
        each_seat = λ j d e. ⊎_elim (λ (h : get_elem? vs j ≡ some d). seats_stay (λ j d. Knows r.cargo r.stage n s.words r.slot d) s.views id w (lead_knows s r id v at)
            (λ j d _. r.each_seat j d) j d h)
            (λ (h : (j ≡ last) × (u ≡ d)).
            subst (Knows r.cargo r.stage n s.words r.slot) h.1 (blank_knows r.cargo r.stage n s.words r.slot (Agent (v.made + 1)) [] (All-nil (Posted r.cargo r.stage))))
            (at_end vs u d j e);
        each_sits = λ j d e. ⊎_elim
            (λ (h : get_elem? vs j ≡ some d). seats_stay (λ j d. Seated who' (r.made + 1) r.returned j d d.kind) s.views id w
            (subst (Seated who' (r.made + 1) r.returned id w) (sym is) (old_who 0 (omega arith) ∙ mine.0, ap (λ z. z + 1) made_is, mine.2, back_ok, mine.4)) sits_old j d h)
            (λ (h : (j ≡ last) × (u ≡ d)). subst (λ (z : ℕ × View). Seated who' (r.made + 1) r.returned z.0 z.1 z.1.kind) (λ i. (sym h.0 i, h.1 i))
            (ap who' (ap (λ z. z + 1) made_is) ∙ put_here r.who (r.made + 1) last, omega arith, omega arith))
            (at_end vs u d j e);
        posting = λ j d e lead. ⊎_elim
            (λ (h : get_elem? vs j ≡ some d). seats_stay (λ j d. d.kind ≡ Poster → PosterOk r.cargo r.stage n s.words r.slot d) s.views id w (λ _. lead_posts s r id v at is)
            (λ j d _. r.posting j d) j d h lead)
            (λ (h : (j ≡ last) × (u ≡ d)). absurd (subst IsAgent (ap (λ (z : View). z.kind) h.1 ∙ lead) tt)) (at_end vs u d j e);
        drawn_there = λ q k a e. let d = r.drawn_there q k a e in
            let seat = agent_seated r.who r.made r.returned (r.who a) a d.0 d.0.kind d.2.0 (r.each_sits (r.who a) d.0 d.1) in
            let away : r.who a ≢ id = λ same. subst IsAgent (sym d.2.0 ∙ (ap (λ (z : View). z.kind) (some-injective d.0 v (sym d.1 ∙ (ap (get_elem? s.views) same ∙ at))) ∙ is)) tt
            in
            (d.0, ap (get_elem? (vs ++ u ∷ [])) (old_who a seat.2) ∙ at_longer vs (u ∷ []) (r.who a) d.0 (set_else s.views id (r.who a) w away ∙ d.1), d.2);
        reported_there = λ q k a m e. let d = r.reported_there q k a m e in
            let R : Report = report (grant_at r.cargo q k) m in
            let le : a ≤ r.made = reporter_made s r (r.who a) a d.0 R d.1 d.2 in
            let place : get_elem? (vs ++ u ∷ []) (who' a) ≡ get_elem? (vs ++ u ∷ []) (r.who a) = ap (get_elem? (vs ++ u ∷ [])) (old_who a le) in
            dite (ℕ_discrete (r.who a) id)
            (λ here. let is_v : d.0 ≡ v = some-injective d.0 v (sym d.1 ∙ (ap (get_elem? s.views) here ∙ at)) in
            (w, place ∙ (ap (get_elem? (vs ++ u ∷ [])) here ∙ at_longer vs (u ∷ []) id w (set_here s.views id w inside)), subst (HasDone a R) is_v d.2))
            (λ away. (d.0, place ∙ at_longer vs (u ∷ []) (r.who a) d.0 (set_else s.views id (r.who a) w away ∙ d.1), d.2));
      }
    where
      by_kind : (j : ℕ) (d : View) (k : Kind) → (k ≡ Poster → ⊥) → ((a : ℕ) → a ≤ r.made → put r.who (r.made + 1) (length (set s.views id (one_more v))) a ≡ r.who a) →
          Seated r.who r.made r.returned j d k
          → Seated (put r.who (r.made + 1) (length (set s.views id (one_more v)))) (r.made + 1) r.returned j d k
      by_kind j d Note other old h = tt
      by_kind j d (Agent a) other old h = let le = h.2 in (old a h.2 ∙ h.0, h.1, omega arith)
      by_kind j d Poster other old h = absurd (other refl)

  -- the poster makes a note of its posts
  pub makes_note : (id : ℕ) (v : View) → v.kind ≡ Poster → Splits (Kept n) id v v (note_of v)
  makes_note id v is s r at =
      let u : View = note_of v in
      let vs : List View = s.views in
      let p = total_push agents vs u in
      let none_more : agents u ≡ 0 = refl in
      let seated = r.seated in
      subst (λ (l : List View). Kept n record { words = s.words; homes = s.homes; views = l ++ u ∷ [] }) (sym (set_again s.views id v at)) record {
        slot = r.slot;
        cargo = r.cargo;
        stage = r.stage;
        who = r.who;
        made = r.made;
        returned = r.returned;
        wide = r.wide;
        each_port = r.each_port;
        beyond = r.beyond;
        seated = omega arith;
        each_seat = λ j d e. ⊎_elim (λ (h : get_elem? vs j ≡ some d). r.each_seat j d h)
            (λ (h : (j ≡ length vs) × (u ≡ d)).
            subst (Knows r.cargo r.stage n s.words r.slot) h.1 (blank_knows r.cargo r.stage n s.words r.slot Note v.posts (r.each_seat id v at).posts)) (at_end vs u d j e);
        each_sits = λ j d e. ⊎_elim (λ (h : get_elem? vs j ≡ some d). r.each_sits j d h)
            (λ (h : (j ≡ length vs) × (u ≡ d)). subst (λ (z : View). Seated r.who r.made r.returned j z z.kind) h.1 tt) (at_end vs u d j e);
        posting = λ j d e lead. ⊎_elim (λ (h : get_elem? vs j ≡ some d). r.posting j d h lead)
            (λ (h : (j ≡ length vs) × (u ≡ d)). absurd (subst IsNote (ap (λ (z : View). z.kind) h.1 ∙ lead) tt)) (at_end vs u d j e);
        drawn_there = λ q k a e. let d = r.drawn_there q k a e in (d.0, at_longer vs (u ∷ []) (r.who a) d.0 d.1, d.2);
        reported_there = λ q k a m e. let d = r.reported_there q k a m e in (d.0, at_longer vs (u ∷ []) (r.who a) d.0 d.1, d.2);
      }

  -- an agent hears of the posts in a note
  pub hears_note : (id : ℕ) (v : View) (other : ℕ) (w : View) (a : ℕ) → v.kind ≡ Agent a → v.step ≡ Rests → w.kind ≡ Note → w.made ≡ 0 → w.back ≡ [] →
      Joins (Kept n) id v other w (hears v w) spent
  hears_note id v other w a agent_is rests note_is made_is back_is s r at apart there =
      let u : View = hears v w in
      let k = r.each_seat id v at in
      let at_w : get_elem? s.views other ≡ some w = sym (set_else s.views id other u apart) ∙ there in
      let first : Kept n record { words = s.words; homes = s.homes; views = set s.views id u } =
      rebuilt n s r id v u at (goes_same v u refl refl refl) s.words r.slot r.cargo r.stage r.wide r.each_port r.beyond
      (record {
        shown = (r.each_seat other w at_w).shown;
        out = k.out;
        counts = k.counts;
        done = k.done;
        missed = k.missed;
        drawn_once = k.drawn_once;
        once = k.once;
        stepping = subst (StepOk r.cargo r.stage r.slot u) (sym rests) tt;
        came = k.came;
        posts = k.posts;
        settled = k.settled;
      })
      (λ j d _. r.each_seat j d) (λ e. absurd (not_poster v a agent_is e)) (λ j d _. r.posting j d) (λ q m b e. inl (e, refl, (λ z. z))) (λ q m b x e. inl (e, refl, (λ z. z))) in
      rebuilt n (record { words = s.words; homes = s.homes; views = set s.views id u }) first other w spent there (goes_same w spent (sym note_is) (sym made_is) (sym back_is))
      s.words first.slot first.cargo first.stage first.wide first.each_port first.beyond
      (blank_knows first.cargo first.stage n s.words first.slot Note [] (All-nil (Posted first.cargo first.stage)))
      (λ j d _. first.each_seat j d) (λ e. absurd (subst IsNote e tt)) (λ j d _. first.posting j d)
      (λ q m b e. inl (e, refl, (λ (z : HasOut b (grant_at first.cargo q m) w). absurd (subst IsNote (sym note_is ∙ z.0) tt))))
      (λ q m b x e. inl (
        e,
        refl,
        (λ (z : HasDone b (report (grant_at first.cargo q m) x) w).
            ⊎_elim (λ (t : (w.kind ≡ Agent b) × Contains w.done (report (grant_at first.cargo q m) x)). absurd (subst IsNote (sym note_is ∙ t.0) tt))
            (λ (t : (w.kind ≡ Poster) × ((c : Came) × Contains w.back c × (c.number ≡ b) × Contains c.done (report (grant_at first.cargo q m) x))). absurd
            (subst IsNote (sym note_is ∙ t.0) tt)) z),
      ))

  -- the poster takes the lists of an agent that holds no drawn grant
  pub takes_agent : (id : ℕ) (v : View) (other : ℕ) (w : View) (a : ℕ) → v.kind ≡ Poster → v.step ≡ Rests → w.kind ≡ Agent a → w.out ≡ [] →
      Joins (Kept n) id v other w (takes_in v w) spent
  takes_agent id v other w a is rests agent_is none_out s r at apart there =
      let u : View = takes_in v w in
      let vs : List View = set s.views id u in
      let at_w : get_elem? s.views other ≡ some w = sym (set_else s.views id other u apart) ∙ there in
      let mine = its n s r id v at is in
      let theirs = agent_seated r.who r.made r.returned other a w w.kind agent_is (r.each_sits other w at_w) in
      let number_is : number_of w.kind ≡ a = ap number_of agent_is in
      let who' : ℕ → ℕ = put r.who a id in
      let k = r.each_seat id v at in
      let kw = r.each_seat other w at_w in
      let h = r.posting id v at is in
      let new : Came = came_of w in
      let here = inside_of s.views id v at in
      let pos = theirs.1 in
      let count = mine.2 in
      let more = length-append v.back (new ∷ []) in
      let t = total_set agents s.views id v u at in
      let same : agents u ≡ agents v = refl in
      let t2 = total_set agents vs other w spent there in
      let one : agents w ≡ 1 = ap agent agent_is in
      let none_left : agents spent ≡ 0 = refl in
      let seated = r.seated in
      let old_ok : All (IsNumber who' r.made id) v.back = All-weaker (IsNumber r.who r.made id) (IsNumber who' r.made id)
      (λ c g. (dite (ℕ_discrete c.number a) (λ e. ap who' e ∙ put_here r.who a id) (λ far. put_else r.who a id c.number far ∙ g.0), g.1, g.2)) v.back mine.3 in
      let differ : (i : ℕ) (d : Came) → i < length v.back →
      (get_or v.back i d).number ≢ number_of w.kind = λ i d lt e. apart (sym theirs.0 ∙ (ap r.who (sym (e ∙ number_is)) ∙ (mine.3 i d lt).0)) in
      let mine' : Seated who' r.made (r.returned + 1) id u Poster = (
        put_else r.who a id 0 (λ e. absurd (omega arith)) ∙ mine.0,
        mine.1,
        omega arith,
        All-push (IsNumber who' r.made id) v.back new old_ok (
          ap who' number_is ∙ put_here r.who a id,
          subst (λ (z : ℕ). 0 < z) (sym number_is) theirs.1,
          subst (λ (z : ℕ). z ≤ r.made) (sym number_is) theirs.2,
        ),
        all_pairs_push (λ (c d : Came). c.number ≢ d.number) v.back new mine.4 differ,
      ) in
      let its_view : Knows r.cargo r.stage n s.words r.slot u = record {
        shown = k.shown;
        out = k.out;
        counts = k.counts;
        done = k.done;
        missed = k.missed;
        drawn_once = k.drawn_once;
        once = k.once;
        stepping = subst (StepOk r.cargo r.stage r.slot u) (sym rests) tt;
        came = All-push (CameOk r.cargo r.stage) v.back new k.came (kw.done, kw.missed, kw.once);
        posts = k.posts;
        settled = k.settled;
      } in
      let far_id : (j : ℕ) → j ≢ other → j ≢ id → get_elem? (set vs other spent) j ≡ get_elem? s.views j = λ j x y. set_else vs other j spent x ∙ set_else s.views id j u y in
      let at_id : get_elem? (set vs other spent) id ≡ some u = set_else vs other id spent (λ e. apart (sym e)) ∙ set_here s.views id u here in
      let is_it : (j : ℕ) (d : View) → get_elem? s.views j ≡ some d → j ≡ other → d ≡ w = λ j d e same. some-injective d w (sym e ∙ (ap (get_elem? s.views) same ∙ at_w)) in
      let is_me : (j : ℕ) (d : View) → get_elem? s.views j ≡ some d → j ≡ id → d ≡ v = λ j d e same. some-injective d v (sym e ∙ (ap (get_elem? s.views) same ∙ at)) in record {
        slot = r.slot;
        cargo = r.cargo;
        stage = r.stage;
        who = who';
        made = r.made;
        returned = r.returned + 1;
        wide = r.wide;
        each_port = r.each_port;
        beyond = r.beyond;
        seated = omega arith;
        each_seat = seats_stay (λ j d. Knows r.cargo r.stage n s.words r.slot d) vs other spent
            (blank_knows r.cargo r.stage n s.words r.slot Note [] (All-nil (Posted r.cargo r.stage)))
            (λ j d _ e. seats_stay (λ j d. Knows r.cargo r.stage n s.words r.slot d) s.views id u its_view (λ i x _. r.each_seat i x) j d e);
        each_sits = seats_stay (λ j d. Seated who' r.made (r.returned + 1) j d d.kind) vs other spent tt
            (λ j d far e. ⊎_elim
            (λ (t : (j ≡ id) × (u ≡ d)). subst (λ (z : ℕ × View). Seated who' r.made (r.returned + 1) z.0 z.1 z.1.kind) (λ i. (sym t.0 i, t.1 i))
            (subst (Seated who' r.made (r.returned + 1) id u) (sym is) mine'))
            (λ (t : (j ≢ id) × (get_elem? s.views j ≡ some d)). by_kind (r.who) r.made r.returned a id j d d.kind (λ lead. t.0 (one_lead s r id j v d at is t.1 lead))
            (λ e. far (sym e ∙ theirs.0)) (r.each_sits j d t.1))
            (at_set s.views id j u d e));
        posting = seats_stay (λ j d. d.kind ≡ Poster → PosterOk r.cargo r.stage n s.words r.slot d) vs other spent (λ e. absurd (subst IsNote e tt))
            (λ j d _ e. seats_stay (λ j d. d.kind ≡ Poster → PosterOk r.cargo r.stage n s.words r.slot d) s.views id u
            (λ _. record { slot_is = h.slot_is; each_post = h.each_post; taken = h.taken; count = h.count; stepping = h.stepping }) (λ i x _. r.posting i x) j d e);
        drawn_there = λ q m b e.
            let d = r.drawn_there q m b e in
            let not_it : r.who b ≢ other =
            λ same. none_has (grant_at r.cargo q m)
            (subst (λ (l : List Grant). Contains l (grant_at r.cargo q m)) (ap (λ (z : View). z.out) (is_it (r.who b) d.0 d.1 same) ∙ none_out) d.2.1) in
            let not_me : r.who b ≢ id = λ same. subst IsAgent (sym d.2.0 ∙ (ap (λ (z : View). z.kind) (is_me (r.who b) d.0 d.1 same) ∙ is)) tt in
            let far : b ≢ a = λ e. not_it (ap r.who e ∙ theirs.0) in
            (d.0, ap (get_elem? (set vs other spent)) (put_else r.who a id b far) ∙ (far_id (r.who b) not_it not_me ∙ d.1), d.2);
        reported_there = λ q m b x e.
            let d = r.reported_there q m b x e in
            let R : Report = report (grant_at r.cargo q m) x in
            let goal : Type 0 = (z : View) × (get_elem? (set vs other spent) (who' b) ≡ some z) × HasDone b R z in
            dite (ℕ_discrete b a)
            (λ same.
            let at_other : r.who b ≡ other = ap r.who same ∙ theirs.0 in
            let has = subst (HasDone b R) (is_it (r.who b) d.0 d.1 at_other) d.2 in (
              u,
              ap (get_elem? (set vs other spent)) (ap who' same ∙ put_here r.who a id) ∙ at_id,
              ⊎_elim
                  (λ (t : (w.kind ≡ Agent b) × Contains w.done R). inr (is, (new, Contains-push v.back new, number_is ∙ sym same, t.1)))
                  (λ (t : (w.kind ≡ Poster) × ((c : Came) × Contains w.back c × (c.number ≡ b) × Contains c.done R)). absurd (subst IsAgent (sym agent_is ∙ t.0) tt)) has,
            ))
            (λ far.
            let place : who' b ≡ r.who b = put_else r.who a id b far in
            dite (ℕ_discrete (r.who b) id)
            (λ at_me.
            let has = subst (HasDone b R) (is_me (r.who b) d.0 d.1 at_me) d.2 in (
              u,
              ap (get_elem? (set vs other spent)) (place ∙ at_me) ∙ at_id,
              ⊎_elim
                  (λ (t : (v.kind ≡ Agent b) × Contains v.done R). absurd (subst IsAgent (sym t.0 ∙ is) tt))
                  (λ (t : (v.kind ≡ Poster) × ((c : Came) × Contains v.back c × (c.number ≡ b) × Contains c.done R)). inr
                  (is, (t.1.0, Contains-append_left v.back (new ∷ []) t.1.0 t.1.1, t.1.2, t.1.3))) has,
            ))
            (λ not_me. dite (ℕ_discrete (r.who b) other)
            (λ at_other.
            let has = subst (HasDone b R) (is_it (r.who b) d.0 d.1 at_other) d.2 in
            absurd (⊎_elim (λ (t : (w.kind ≡ Agent b) × Contains w.done R). far (sym (ap number_of t.0) ∙ number_is))
            (λ (t : (w.kind ≡ Poster) × ((c : Came) × Contains w.back c × (c.number ≡ b) × Contains c.done R)). absurd (subst IsAgent (sym agent_is ∙ t.0) tt)) has))
            (λ not_it. (d.0, ap (get_elem? (set vs other spent)) place ∙ (far_id (r.who b) not_it not_me ∙ d.1), d.2))));
      }
    where
      none_has : (g : Grant) → Contains [] g → ⊥
      none_has g c = let lt = c.1 in absurd (omega arith)

      by_kind : (who : ℕ → ℕ) (made returned a id j : ℕ) (d : View) (k : Kind) → (k ≡ Poster → ⊥) → (who a ≡ j → ⊥) → Seated who made returned j d k →
          Seated (put who a id) made (returned + 1) j d k
      by_kind who made returned a id j d Note lead far h = tt
      by_kind who made returned a id j d (Agent b) lead far h = (put_else who a id b (λ e. far (ap who (sym e) ∙ h.0)) ∙ h.0, h.1, h.2)
      by_kind who made returned a id j d Poster lead far h = absurd (lead refl)
