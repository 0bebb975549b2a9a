-- Ports are settled one after the other.
use Rattle.std.proofs.Common.{◌≡◌, ◌≢◌, ◌⊎◌, inl, inr, ⊎_elim, ℕ, ◌+◌, ◌<◌, true, false, List, [], ◌∷◌, ◌++◌, get_or, length, take, Option, Some, None, refl, sym, ap}
use Rattle.std.proofs.Common.{subst, ◌∙◌, arith, append_assoc, append-nil}
use Rattle.std.specs.Prelude.{All, Contains}
use Rattle.std.specs.Option.{option_or}
use Rattle.std.proofs.lemmas.Bool.{cases_eq}
use Rattle.std.proofs.lemmas.List.{map_push, take_more}
use Rattle.std.proofs.lemmas.List.Elements.{Contains-append_cases, Contains-append_left, Contains-append_right, Contains-push}
use Rattle.coflow_units.specs.declared.fabric.Flow.{Flow}
use Rattle.coflow_units.specs.Flows.{ingress_of}
use Rattle.coflow_units.specs.Schedule.{IsClear}
use Rattle.coflow_units.proofs.Sums.{first_or_tail, in_first, nothing_in}
use Rattle.journal.specs.Runs.{grant_in}
use Rattle.journal.proofs.Ingresses.{grant_at, grant_is, grant_none}
use Rattle.port_board.specs.declared.answer.Settled.{Settled}
use Rattle.port_board.specs.declared.answer.Settled.TheVariants.{Sent, TakenBack, Busy}
use Rattle.port_board.specs.declared.view.Came.{Came}
use Rattle.port_board.specs.declared.view.Grant.{Grant}
use Rattle.port_board.specs.declared.view.Report.{Report}
use Rattle.port_board.specs.declared.view.Settlement.{Settlement}
use Rattle.port_board.specs.Rule.{DifferAt}
use Rattle.port_board.specs.declared.view.View.{View}
use Rattle.port_board.specs.Agreement.{NobodyHad, SentCameBack}
use Rattle.port_board.specs.Views.{agents_out, grant, is_unsettled, last_at, looked, report, settled_as, settled_if, settlement, Tried}
use Rattle.slot_runner.specs.Posts.{post_of, settlements_of}
use Rattle.slot_runner.specs.Settling.{AreSettled, AreToSettle, IsFirstShort, IsSettledBy, MustBeSent}
use Rattle.slot_runner.proofs.Apart.{taken_apart}
use Rattle.slot_runner.proofs.PortPosts.{last_among, settles_here, settles_there}

tried_same : (port : ℕ) (v before : View) → Tried port v before → (before.posts ≡ v.posts) × (before.settled ≡ v.settled)
tried_same port v before t = ⊎_elim (λ (e : before ≡ v). (ap (λ (x : View). x.posts) e, ap (λ (x : View). x.settled) e))
    (λ h. (ap (λ (x : View). x.posts) h.2, ap (λ (x : View). x.settled) h.2)) t

-- the settlement that a settling by a reported number adds
pub settles_by : (port place word n : ℕ) (v before w : View) (g : Grant) → Tried port v before → w ≡ looked place n (settled_as port (Some n) (looked port word before)) →
    last_at port v.posts ≡ Some g → w.settled ≡ v.settled ++ settlement g (Some n) ∷ []
settles_by port place word n v before w g tried e last =
    let same = tried_same port v before tried in
    ap (λ (x : View). x.settled) e ∙ (λ i. settled_if (last_at port (same.0 i)) (Some n) (same.1 i)) ∙ ap (λ o. settled_if o (Some n) v.settled) last

module _ (port place : ℕ) (v w : View) (g : Grant) (last : last_at port v.posts ≡ Some g) (none_out : length v.back ≡ v.made) (same_back : w.back ≡ v.back)
    (same_made : w.made ≡ v.made)
    (same_posts : w.posts ≡ v.posts) where
  pub by_report : (word n : ℕ) (before : View) → Tried port v before → w ≡ looked place n (settled_as port (Some n) (looked port word before)) → SentCameBack w → IsSettledBy v
      w g n
  by_report word n before tried e came =
      let adds = settles_by port place word n v before w g tried e last in
      let (c, among, has) = came (ap (λ (l : List Came). length l) same_back ∙ none_out ∙ sym same_made) (settlement g (Some n)) n
      (subst (λ l. Contains l (settlement g (Some n))) (sym adds) (Contains-push v.settled (settlement g (Some n)))) refl in record {
        posts = same_posts;
        back = same_back;
        made = same_made;
        settled = adds;
        by = c;
        among = subst (λ l. Contains l c) same_back among;
        reported = has;
      }

none_busy : (v : View) → length v.back ≡ v.made → 0 < agents_out v → ⊥
none_busy v e lt = omega (arith, e, lt)

-- with no agent out, the post that somebody had is settled by a report
pub is_sent : (v : View) (port : ℕ) (s : Settled) → length v.back ≡ v.made → (g : Grant) → last_at port v.posts ≡ Some g → (NobodyHad g v → ⊥) →
    (s ≡ TakenBack → NobodyHad g v) → ((word : ℕ) → s ≡ Busy word → 0 < agents_out v) → (n : ℕ) × (s ≡ Sent n)
is_sent v port (Sent n) none g last somebody taken busy = (n, refl)
is_sent v port TakenBack none g last somebody taken busy = absurd (somebody (taken refl))
is_sent v port (Busy word) none g last somebody taken busy = absurd (none_busy v none (busy word refl))

-- the posts of these flows are settled, and at all other ports nothing changed
pub record AreSettledOf (flows : List Flow) (sent : ℕ → ℕ) (first slots : ℕ) (v w : View) (taken : List ℕ) : Type 0 where
  pub posts : w.posts ≡ v.posts
  pub back : w.back ≡ v.back
  pub made : w.made ≡ v.made
  pub settled : w.settled ≡ v.settled ++ settlements_of flows taken sent first slots
  pub there : (f : ℕ) → Contains taken f → is_unsettled (ingress_of flows f) w.posts w.settled ≡ false
  pub rest : (p : ℕ) → ((f : ℕ) → Contains taken f → ingress_of flows f ≡ p → ⊥) → is_unsettled p w.posts w.settled ≡ is_unsettled p v.posts v.settled
  pub reported : (f : ℕ) → Contains taken f → (c : Came) × Contains v.back c × Contains c.done (report (post_of flows first slots f) (sent (ingress_of flows f)))

module _ (flows : List Flow) (granted : List ℕ) (sent : ℕ → ℕ) (first slots ports : ℕ) (clear : IsClear flows granted)
    (inside : (f : ℕ) → Contains granted f → ingress_of flows f < ports) (v : View) (waiting : AreToSettle (grant_in flows granted) sent first slots ports v) where
  -- nothing is settled yet
  pub begins_settled : AreSettledOf flows sent first slots v v []
  begins_settled = record {
    posts = refl;
    back = refl;
    made = refl;
    settled = sym (append-nil v.settled);
    there = λ f in'. absurd (nothing_in f in');
    rest = λ p far. refl;
    reported = λ f in'. absurd (nothing_in f in');
  }

  module _ (w : View) (k f : ℕ) (low : k < length granted) (is : get_or granted k f ≡ f) (so_far : AreSettledOf flows sent first slots v w (take k granted)) where
    abbrev port : ℕ
    port = ingress_of flows f

    abbrev post : Grant
    post = post_of flows first slots f

    here : MustBeSent v post (sent port)
    here = waiting.post port f (inside f (k, low, is)) ((grant_at flows granted port f clear).1 ((k, low, is), refl))

    pub waits_still : is_unsettled port w.posts w.settled ≡ true
    waits_still = so_far.rest port (taken_apart flows granted k f low is clear) ∙ here.waits

    pub last_now : last_at port w.posts ≡ Some post
    last_now = ap (last_at port) so_far.posts ∙ here.last

    pub somebody_now : NobodyHad post w → ⊥
    somebody_now nobody = here.somebody (subst (λ (l : List Came). All (λ (c : Came). All (λ (r : Report). DifferAt r.grant post) c.done ×
        All (λ (m : ℕ × ℕ). m.0 ≡ port → m.1 ≡ first → ⊥) c.missed) l) so_far.back nobody)

    module _ (u : View) (n : ℕ) (by : IsSettledBy w u post n) where
      -- the number is what was sent from the port
      pub number_is : n ≡ sent port
      number_is = here.only by.by n (subst (λ l. Contains l by.by) so_far.back by.among) by.reported

      one_more : take (k + 1) granted ≡ take k granted ++ f ∷ []
      one_more = take_more granted k f low ∙ ap (λ x. take k granted ++ x ∷ []) is

      same : (p : ℕ) → is_unsettled p u.posts u.settled ≡ is_unsettled p w.posts (w.settled ++ settlement post (Some n) ∷ [])
      same p i = is_unsettled p (by.posts i) (by.settled i)

      apart : (p : ℕ) → p ≢ port → is_unsettled p u.posts u.settled ≡ is_unsettled p w.posts w.settled
      apart p far = same p ∙ settles_there p post w.posts w.settled (Some n) (λ h last e. far (sym (last_among p h w.posts last).1 ∙ e))

      in_more : (g : ℕ) → Contains (take k granted ++ f ∷ []) g → Contains (take k granted) g ⊎ (f ≡ g)
      in_more g in' = ⊎_elim (λ before. inl before) (λ now. ⊎_elim (λ e. inr e) (λ none. absurd (nothing_in g none)) (first_or_tail f [] g now))
          (Contains-append_cases (take k granted) (f ∷ []) g in')

      pub settles : AreSettledOf flows sent first slots v u (take (k + 1) granted)
      settles = subst (AreSettledOf flows sent first slots v u) (sym one_more) (record {
        posts = by.posts ∙ so_far.posts;
        back = by.back ∙ so_far.back;
        made = by.made ∙ so_far.made;
        settled = by.settled ∙ ap (λ (l : List Settlement). l ++ settlement post (Some n) ∷ []) so_far.settled ∙
            append_assoc v.settled (settlements_of flows (take k granted) sent first slots) (settlement post (Some n) ∷ []) ∙
            ap (λ l. v.settled ++ l) (ap (λ m. settlements_of flows (take k granted) sent first slots ++ settlement post (Some m) ∷ []) number_is ∙
            sym (map_push (λ g. settlement (post_of flows first slots g) (Some (sent (ingress_of flows g)))) (take k granted) f));
        there = λ g in'. ⊎_elim
            (λ before. apart (ingress_of flows g) (taken_apart flows granted k f low is clear g before) ∙ so_far.there g before)
            (λ e. subst (λ x. is_unsettled (ingress_of flows x) u.posts u.settled ≡ false) e (same port ∙ settles_here port post w.posts w.settled (Some n) last_now))
            (in_more g in');
        rest = λ p far.
            apart p (λ e. far f (Contains-append_right (take k granted) (f ∷ []) f (in_first f [])) (sym e)) ∙
            so_far.rest p (λ g before. far g (Contains-append_left (take k granted) (f ∷ []) g before));
        reported = λ g in'. ⊎_elim
            (λ before. so_far.reported g before)
            (λ e. (
              by.by,
              subst (λ l. Contains l by.by) so_far.back by.among,
              subst (λ x. Contains by.by.done (report (post_of flows first slots x) (sent (ingress_of flows x)))) e
                  (subst (λ m. Contains by.by.done (report post m)) number_is by.reported),
            ))
            (in_more g in');
      })

  -- once all granted flows are settled, so is each port
  pub settled_all : (w : View) → AreSettledOf flows sent first slots v w granted → AreSettled flows granted sent first slots v w ports
  settled_all w all = record {
    posts = all.posts;
    back = all.back;
    made = all.made;
    settled = all.settled;
    settled_there = λ p lt. at_port p lt (grant_in flows granted p) refl;
    rest = λ p le. all.rest p (λ f in' at. absurd (omega (arith, inside f in', at, le)));
    reported = λ p f lt e.
        let (in', at) = grant_is flows granted p f e in
        subst (λ q. (c : Came) × Contains v.back c × Contains c.done (report (grant q first f slots) (sent q))) at (all.reported f in');
  }
    where
      at_port : (p : ℕ) → p < ports → (o : Option ℕ) → grant_in flows granted p ≡ o → is_unsettled p w.posts w.settled ≡ false
      at_port p lt None e = all.rest p (λ f in' at. grant_none flows granted p f e in' at) ∙ waiting.nothing p lt e
      at_port p lt (Some f) e = let (in', at) = grant_is flows granted p f e in subst (λ q. is_unsettled q w.posts w.settled ≡ false) at (all.there f in')

-- the first port that sent less, after one port more
module _ (granted : ℕ → Option ℕ) (sent : ℕ → ℕ) (slots k : ℕ) where
  pub first_stays : (o : Option (ℕ × ℕ)) → IsFirstShort granted sent slots k o → ((f : ℕ) → granted k ≡ Some f → sent k ≡ slots) → IsFirstShort granted sent slots (k + 1) o
  first_stays None h whole = λ p f lt e. elim (cases_eq p k) [ inl is ↦ ap sent is ∙ whole f (ap granted (sym is) ∙ e) | inr far ↦ h p f (omega (arith, lt, far)) e ]
  first_stays (Some x) (f, lt, e, is, short, least) whole = (f, omega (arith, lt), e, is, short, least)

  pub first_later : (x : ℕ × ℕ) → IsFirstShort granted sent slots k (Some x) → IsFirstShort granted sent slots (k + 1) (Some x)
  first_later x (f, lt, e, is, short, least) = (f, omega (arith, lt), e, is, short, least)

  pub first_found : (f n : ℕ) → IsFirstShort granted sent slots k None → granted k ≡ Some f → sent k ≡ n → n < slots → IsFirstShort granted sent slots (k + 1) (Some (k, n))
  first_found f n h e is short = (f, omega arith, e, is, short, h)

  pub first_of : (o : Option (ℕ × ℕ)) (f n : ℕ) → IsFirstShort granted sent slots k o → granted k ≡ Some f → sent k ≡ n → n < slots → IsFirstShort granted sent slots (k + 1)
      (option_or o (Some (k, n)))
  first_of None f n h e is short = first_found f n h e is short
  first_of (Some x) f n h e is short = first_later x h
