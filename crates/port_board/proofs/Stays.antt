-- What the views say stays true where one post changes its stage, and where one count word changes.
use Rattle.std.proofs.Common.{◌≡◌, ◌≢◌, ℕ, ◌+◌, ◌≤◌, eqb, List, get_or, set, sym, refl, ap, ◌∙◌, subst, arith, Option, Some, None, get_or-set_other, ne_eqb}
use Rattle.std.specs.Prelude.{Contains, slice_index}
use Rattle.std.proofs.lemmas.List.Elements.{All-weaker}
use Rattle.std.proofs.lemmas.Bool.{cond-false}
use Rattle.coflow_units.specs.PortWord.{PortStage, word_of, FitsWord}
use Rattle.coflow_units.specs.PortWord.PortStage.{unposted, granted, drawn, reported, taken_back}
use Rattle.port_board.specs.declared.view.Grant.{Grant}
use Rattle.port_board.specs.declared.view.Report.{Report}
use Rattle.port_board.specs.declared.view.Settlement.{Settlement}
use Rattle.port_board.specs.declared.view.Step.{Step}
use Rattle.port_board.specs.declared.view.Step.TheVariants.{Rests, Loaded, Won, Counted, Offered, Ready}
use Rattle.port_board.specs.declared.view.View.{View}
use Rattle.port_board.specs.declared.view.Came.{Came}
use Rattle.port_board.specs.Views.{number_of}
use Rattle.port_board.specs.Rule.{Cargo, grant_at, count_after, stage_after, Posted, Out, Back, Gone, Closed, CameOk, StepOk, Counts, Knows, PosterStep, PosterOk}
use Rattle.coflow_units.proofs.PortWords.{IsDrawn, IsReported, IsTaken}
use Rattle.port_board.proofs.Puts.{put2, put2_keeps}

-- a post may be made, drawn, reported and taken back, and a made one is no longer unposted
pub record Follows (before after : PortStage) : Type 0 where
  pub made : after ≢ unposted
  pub open_yet : (a m : ℕ) → before ≢ reported a m
  pub not_taken : before ≢ taken_back
  pub granted_new : after ≡ granted → before ≡ unposted

pub grant_same : (cargo cargo' : ℕ → ℕ → Cargo) (p k : ℕ) → cargo' p k ≡ cargo p k → grant_at cargo p k ≡ grant_at cargo' p k
grant_same cargo cargo' p k e = ap (λ (z : Cargo). record { port = p; slot = k; flow = z.0; length = z.1 }) (sym e)

module _ (slot slot' : ℕ → ℕ) (cargo cargo' : ℕ → ℕ → Cargo) (stage : ℕ → ℕ → PortStage) (p k : ℕ) (c : PortStage) (f : Follows (stage p k) c)
    (same : (q m : ℕ) → stage q m ≢ unposted → cargo' q m ≡ cargo q m) (up : (q : ℕ) → slot q ≤ slot' q) where
  abbrev stage' : ℕ → ℕ → PortStage
  stage' = put2 stage p k c

  still : (q m : ℕ) → stage q m ≢ unposted → grant_at cargo q m ≡ grant_at cargo' q m
  still q m h = grant_same cargo cargo' q m (same q m h)

  pub posted_stays : (g : Grant) → Posted cargo stage g → Posted cargo' stage' g
  posted_stays g h = (put2_keeps stage p k c g.port g.slot (λ x. x ≢ unposted) h.0 (λ _ _ _. f.made), h.1 ∙ still g.port g.slot h.0)

  pub out_stays : (j : ℕ) → stage p k ≢ drawn j → (g : Grant) → Out cargo stage j g → Out cargo' stage' j g
  out_stays j a g h = (put2_keeps stage p k c g.port g.slot (λ x. x ≡ drawn j) h.0 (λ _ _ e. absurd (a e)), h.1 ∙ still g.port g.slot (λ e. subst IsDrawn (sym h.0 ∙ e) tt))

  pub back_stays : (j : ℕ) (r : Report) → Back cargo stage j r → Back cargo' stage' j r
  back_stays j r h = (
    put2_keeps stage p k c r.grant.port r.grant.slot (λ x. x ≡ reported j r.sent) h.0 (λ _ _ e. absurd (f.open_yet j r.sent e)),
    h.1 ∙ still r.grant.port r.grant.slot (λ e. subst IsReported (sym h.0 ∙ e) tt),
  )

  pub gone_stays : (m : ℕ × ℕ) → Gone cargo stage m → Gone cargo' stage' m
  gone_stays m h = (
    put2_keeps stage p k c m.0 m.1 (λ x. x ≢ unposted) h.0 (λ _ _ _. f.made),
    put2_keeps stage p k c m.0 m.1 (λ x. x ≢ granted) h.1 (λ q d _ e. h.0 (subst (λ (z : ℕ × ℕ). stage z.0 z.1 ≡ unposted) (λ i. (sym q i, sym d i)) (f.granted_new e))),
  )

  stage_goes : (sent : Option ℕ) (x : PortStage) → stage_after sent x → (x ≡ stage p k → ⊥)
  stage_goes None x h e = f.not_taken (sym e ∙ h)
  stage_goes (Some n) x h e = f.open_yet h.0 n (sym e ∙ h.1)

  stage_has : (sent : Option ℕ) (x : PortStage) → stage_after sent x → x ≢ unposted
  stage_has None x h e = subst IsTaken (sym h ∙ e) tt
  stage_has (Some n) x h e = subst IsReported (sym h.1 ∙ e) tt

  pub closed_stays : (s : Settlement) → Closed cargo stage s → Closed cargo' stage' s
  closed_stays s h = (
    put2_keeps stage p k c s.grant.port s.grant.slot (stage_after s.sent) h.0 (λ q d e. absurd (stage_goes s.sent (stage p k) e refl)),
    h.1 ∙ still s.grant.port s.grant.slot (stage_has s.sent (stage s.grant.port s.grant.slot) h.0),
  )

  pub came_stays : (x : Came) → CameOk cargo stage x → CameOk cargo' stage' x
  came_stays x h = (
    All-weaker (Back cargo stage x.number) (Back cargo' stage' x.number) (back_stays x.number) x.done h.0,
    All-weaker (Gone cargo stage) (Gone cargo' stage') gone_stays x.missed h.1,
    h.2,
  )

  pub step_stays : (v : View) (st : Step) → StepOk cargo stage slot v st → StepOk cargo' stage' slot' v st
  step_stays v Rests h = h
  step_stays v (Loaded port word) h =
      let at : ℕ = h.0 in
      let same_flow : (cargo port at).0 ≡ (cargo' port at).0 = ap (λ (z : Cargo). z.0) (sym (same port at h.4)) in
      let below = h.2 in
      let more = up port in (
        at,
        h.1 ∙ ap (word_of granted at) same_flow,
        omega arith,
        subst (FitsWord at) same_flow h.3,
        put2_keeps stage p k c port at (λ x. x ≢ unposted) h.4 (λ _ _ _. f.made),
        h.5,
      )
  step_stays v (Won port count) h = h
  step_stays v (Counted place count) h = h
  step_stays v (Offered port word) h = h
  step_stays v (Ready port) h = h

  -- what a seat knows that has not drawn this post
  pub knows_stays : (n : ℕ) (words words' : List ℕ) → ((q : ℕ) → slice_index words' (n + q) ≡ slice_index words (n + q)) → (v : View) → stage p k ≢ drawn (number_of v.kind)
      → Knows cargo stage n words slot v → Knows cargo' stage' n words' slot' v
  knows_stays n words words' counts v d h = let N : ℕ = number_of v.kind in record {
    shown = All-weaker (Posted cargo stage) (Posted cargo' stage') posted_stays v.shown h.shown;
    out = All-weaker (Out cargo stage N) (Out cargo' stage' N) (out_stays N d) v.out h.out;
    counts = All-weaker (Counts cargo stage n words v.step) (Counts cargo' stage' n words' v.step) (λ g e. counts g.port ∙ e) v.out h.counts;
    done = All-weaker (Back cargo stage N) (Back cargo' stage' N) (back_stays N) v.done h.done;
    missed = All-weaker (Gone cargo stage) (Gone cargo' stage') gone_stays v.missed h.missed;
    drawn_once = h.drawn_once;
    once = h.once;
    stepping = step_stays v v.step h.stepping;
    came = All-weaker (CameOk cargo stage) (CameOk cargo' stage') came_stays v.back h.came;
    posts = All-weaker (Posted cargo stage) (Posted cargo' stage') posted_stays v.posts h.posts;
    settled = All-weaker (Closed cargo stage) (Closed cargo' stage') closed_stays v.settled h.settled;
  }

-- what another seat knows where one count word changes, at a port where it has nothing out
pub knows_stays_counted : (cargo : ℕ → ℕ → Cargo) (stage : ℕ → ℕ → PortStage) (n : ℕ) (words : List ℕ) (slot : ℕ → ℕ) (p m : ℕ) (v : View) →
    ((g : Grant) → Out cargo stage (number_of v.kind) g → g.port ≢ p)
    → Knows cargo stage n words slot v → Knows cargo stage n (set words (n + p) m) slot v
knows_stays_counted cargo stage n words slot p m v apart h = record {
  shown = h.shown;
  out = h.out;
  counts = λ i d lt. let g : Grant = get_or v.out i d in
      let other : n + g.port ≢ n + p = λ e. apart g (h.out i d lt) (omega arith) in get_or-set_other words (n + p) (n + g.port) m 0 other ∙ h.counts i d lt;
  done = h.done;
  missed = h.missed;
  drawn_once = h.drawn_once;
  once = h.once;
  stepping = h.stepping;
  came = h.came;
  posts = h.posts;
  settled = h.settled;
}

-- what the poster knows where an agent draws or reports the last post of a port
module _ (slot : ℕ → ℕ) (cargo : ℕ → ℕ → Cargo) (stage : ℕ → ℕ → PortStage) (p : ℕ) (c : PortStage) (n : ℕ) (words words' : List ℕ) where
  abbrev after : ℕ → ℕ → PortStage
  after = put2 stage p (slot p) c

  -- the stages of an agent's step
  pub record ByAgent : Type 0 where
    pub had : stage p (slot p) ≢ unposted
    pub made : c ≢ unposted
    pub held : stage p (slot p) ≢ granted → ((j : ℕ) → stage p (slot p) ≢ drawn j) → ⊥
    pub kept : c ≢ taken_back
    pub open_still : (a m : ℕ) → stage p (slot p) ≢ reported a m
    pub counted : (a m : ℕ) → c ≡ reported a m → slice_index words (n + p) ≡ m
    pub counts : (q : ℕ) → slice_index words' (n + q) ≡ slice_index words (n + q)

  -- a stage at the last slot of a port
  last_stage : (q : ℕ) (P : ℕ → PortStage → Type 0) → P q (stage q (slot q)) → (P p (stage p (slot p)) → P p c) → P q (after q (slot q))
  last_stage q P was now = put2_keeps stage p (slot p) c q (slot q) (P q) was (λ e d h. subst (λ (z : ℕ). P z c) (sym e) (now (subst (λ (z : ℕ). P z (stage p (slot p))) e h)))

  waits : ByAgent → (st : Step) → PosterStep cargo stage n words slot st → PosterStep cargo after n words' slot st
  waits b Rests h = h
  waits b (Loaded port word) h = h
  waits b (Won port count) h = h
  waits b (Counted place count) h =
      let q : ℕ = h.0 in
      let both : (after q (slot q) ≢ granted) × ((j : ℕ) → after q (slot q) ≢ drawn j) =
      put2_keeps stage p (slot p) c q (slot q) (λ x. (x ≢ granted) × ((j : ℕ) → x ≢ drawn j)) (h.4, h.5)
      (λ e d t. absurd (b.held t.0 t.1)) in
      (q, h.1, h.2, ap (slice_index words') h.1 ∙ (b.counts q ∙ (ap (slice_index words) (sym h.1) ∙ h.3)), both.0, both.1)
  waits b (Offered port word) h = (h.0, last_stage port (λ _ x. x ≢ unposted) h.1 (λ _. b.made))
  waits b (Ready port) h = (h.0, h.1, put2_keeps stage p (slot p) c port (slot port) (λ x. x ≡ reported h.0 h.1) h.2 (λ _ _ e. absurd (b.open_still h.0 h.1 e)))

  -- the poster did not write the count of a port whose grant is out
  uncounted : ByAgent → (st : Step) (m : ℕ) → PosterStep cargo stage n words slot st → count_after n st p m ≡ m
  uncounted b Rests m h = refl
  uncounted b (Loaded port word) m h = refl
  uncounted b (Won port count) m h = refl
  uncounted b (Counted place count) m h =
      let q : ℕ = h.0 in
      let away : q ≢ p = λ e. b.held (subst (λ (z : ℕ). stage z (slot z) ≢ granted) e h.4) (λ j. subst (λ (z : ℕ). stage z (slot z) ≢ drawn j) e (h.5 j)) in
      let other : n + p ≢ place = λ e. let is = h.1 in away (omega arith) in cond-false (eqb (n + p) place) count m (ne_eqb (n + p) place other)
  uncounted b (Offered port word) m h = refl
  uncounted b (Ready port) m h = refl

  pub poster_stays : ByAgent → (v : View) → PosterOk cargo stage n words slot v → PosterOk cargo after n words' slot v
  poster_stays b v h = record {
    slot_is = h.slot_is;
    each_post = λ q m. put2_keeps stage p (slot p) c q m (λ x. x ≢ unposted → Contains v.posts (grant_at cargo q m)) (h.each_post q m)
        (λ _ _ t _. t b.had);
    taken = λ q m. put2_keeps stage p (slot p) c q m (λ x. x ≡ taken_back → Contains v.settled (record { grant = grant_at cargo q m; sent = None })) (h.taken q m)
        (λ _ _ _ e. absurd (b.kept e));
    count = λ q a m. put2_keeps stage p (slot p) c q (slot q) (λ x. x ≡ reported a m → slice_index words' (n + q) ≡ count_after n v.step q m) (λ e. b.counts q ∙ h.count q a m e)
        (λ qe _ _ e. subst (λ (z : ℕ). slice_index words' (n + z) ≡ count_after n v.step z m) (sym qe) (b.counts p ∙ (b.counted a m e ∙ sym (uncounted b v.step m h.stepping))));
    stepping = waits b v.step h.stepping;
  }

-- what the poster knows where an agent writes the count of a grant that it has out
module _ (slot : ℕ → ℕ) (cargo : ℕ → ℕ → Cargo) (stage : ℕ → ℕ → PortStage) (p a m n : ℕ) (words : List ℕ) (out : stage p (slot p) ≡ drawn a) where
  waits_counted : (st : Step) → PosterStep cargo stage n words slot st → PosterStep cargo stage n (set words (n + p) m) slot st
  waits_counted Rests h = h
  waits_counted (Loaded port word) h = h
  waits_counted (Won port count) h = h
  waits_counted (Counted place count) h =
      let q : ℕ = h.0 in
      let is = h.1 in
      let away : place ≢ n + p = λ e. h.5 a (subst (λ (z : ℕ). stage z (slot z) ≡ drawn a) (omega arith) out) in
      (q, h.1, h.2, get_or-set_other words (n + p) place m 0 away ∙ h.3, h.4, h.5)
  waits_counted (Offered port word) h = h
  waits_counted (Ready port) h = h

  pub poster_stays_counted : (v : View) → PosterOk cargo stage n words slot v → PosterOk cargo stage n (set words (n + p) m) slot v
  poster_stays_counted v h = record {
    slot_is = h.slot_is;
    each_post = h.each_post;
    taken = h.taken;
    count = λ q b u e.
        let away : n + q ≢ n + p = λ s. subst IsDrawn (sym out ∙ subst (λ (z : ℕ). stage z (slot z) ≡ reported b u) (omega arith) e) tt in
        get_or-set_other words (n + p) (n + q) m 0 away ∙ h.count q b u e;
    stepping = waits_counted v.step h.stepping;
  }
