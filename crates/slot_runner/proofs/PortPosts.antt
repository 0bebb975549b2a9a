-- The posts of a run behind earlier ones: which is the last at a port, and which of them wait.
use Rattle.std.proofs.Common.{◌≡◌, ◌≢◌, inl, ⊎_elim, ℕ, ◌<◌, Bool, true, false, not, List, [], ◌∷◌, ◌++◌, get_or, map, Option, Some}
use Rattle.std.proofs.Common.{None, cond, refl, sym, ap, subst, ◌∙◌, arith, append_assoc, append-nil}
use Rattle.std.specs.Prelude.{All, Contains, ◌||◌}
use Rattle.std.proofs.lemmas.Bool.{eq-eqb, ne_eqb}
use Rattle.std.proofs.lemmas.List.Elements.{All-contains_itself}
use Rattle.std.proofs.lemmas.List.Folds.{list_any-append, list_any_none}
use Rattle.coflow_units.specs.declared.fabric.Flow.{Flow}
use Rattle.coflow_units.specs.Flows.{ingress_of}
use Rattle.coflow_units.specs.Schedule.{IsClear}
use Rattle.coflow_units.proofs.Sums.{first_or_tail, in_first, in_tail, nothing_in}
use Rattle.journal.specs.Runs.{grant_in}
use Rattle.journal.proofs.Ingresses.{grant_at, grant_is, grant_none}
use Rattle.port_board.specs.declared.view.Grant.{Grant}
use Rattle.port_board.specs.declared.view.Settlement.{Settlement}
use Rattle.port_board.specs.Views.{grant, is_left, is_of, is_settled, is_unsettled, last_at, settlement}
use Rattle.port_board.proofs.Lists.{is_of-false, is_of-same, last_is, last_pushed}
use Rattle.slot_runner.specs.Posts.{post_of, posts_of, settlements_of}

-- of two lists, one of which is made of the other
from_map : {X Y : Type 0} (w : X → Y) (xs : List X) (y : Y) → Contains (map w xs) y → (x : X) × Contains xs x × (w x ≡ y)
from_map w [] y has = absurd (nothing_in y has)
from_map w (x ∷ xs) y has = ⊎_elim (λ e. (x, in_first x xs, e)) (λ later. let (found, inside, e) = from_map w xs y later in (found, in_tail x xs found inside, e))
    (first_or_tail (w x) (map w xs) y has)

module _ (flows : List Flow) (first slots : ℕ) where
  -- a port at which none of the posted flows begins
  pub last_far : (granted : List ℕ) (old : List Grant) (p : ℕ) → ((f : ℕ) → Contains granted f → ingress_of flows f ≡ p → ⊥) →
      last_at p (old ++ posts_of flows granted first slots) ≡ last_at p old
  last_far [] old p far = ap (last_at p) (append-nil old)
  last_far (f ∷ fs) old p far =
      ap (last_at p) (sym (append_assoc old (post_of flows first slots f ∷ []) (posts_of flows fs first slots))) ∙
      last_far fs (old ++ post_of flows first slots f ∷ []) p (λ g in'. far g (in_tail f fs g in')) ∙ last_pushed p old (post_of flows first slots f) ∙
      ap (λ b. cond b (Some (post_of flows first slots f)) (last_at p old)) (ne_eqb (ingress_of flows f) p (λ e. far f (in_first f fs) e))

  near_step : (g : ℕ) (gs : List ℕ) (old : List Grant) (p f : ℕ) (o : Option ℕ) → grant_in flows gs p ≡ o → Contains (g ∷ gs) f → ingress_of flows f ≡ p →
      ((x : ℕ) → Contains (g ∷ gs) x → ingress_of flows x ≡ p → x ≡ f) →
      (Contains gs f → last_at p ((old ++ post_of flows first slots g ∷ []) ++ posts_of flows gs first slots) ≡ Some (grant p first f slots)) →
      last_at p ((old ++ post_of flows first slots g ∷ []) ++ posts_of flows gs first slots) ≡ Some (grant p first f slots)
  near_step g gs old p f (Some h) e in' at one again =
      let (has, here) = grant_is flows gs p h e in
      again (subst (λ x. Contains gs x) (one h (in_tail g gs h has) here) has)
  near_step g gs old p f None e in' at one again =
      let is : g ≡ f = ⊎_elim (λ same. same) (λ there. absurd (grant_none flows gs p f e there at)) (first_or_tail g gs f in') in
      let there : ingress_of flows g ≡ p = ap (ingress_of flows) is ∙ at in
      last_far gs (old ++ post_of flows first slots g ∷ []) p (λ x in''. grant_none flows gs p x e in'') ∙ last_pushed p old (post_of flows first slots g) ∙
      ap (λ b. cond b (Some (post_of flows first slots g)) (last_at p old)) (eq-eqb (ingress_of flows g) p there) ∙ (λ i. Some (grant (there i) first (is i) slots))

  -- a port at which one of them begins
  pub last_near : (granted : List ℕ) (old : List Grant) (p f : ℕ) → Contains granted f → ingress_of flows f ≡ p →
      ((g : ℕ) → Contains granted g → ingress_of flows g ≡ p → g ≡ f) → last_at p (old ++ posts_of flows granted first slots) ≡ Some (grant p first f slots)
  last_near [] old p f in' at one = absurd (nothing_in f in')
  last_near (g ∷ gs) old p f in' at one =
      ap (last_at p) (sym (append_assoc old (post_of flows first slots g ∷ []) (posts_of flows gs first slots))) ∙
      near_step g gs old p f (grant_in flows gs p) refl in' at one
      (λ has. last_near gs (old ++ post_of flows first slots g ∷ []) p f has at (λ x there. one x (in_tail g gs x there)))

module _ (flows : List Flow) (granted : List ℕ) (first slots ports : ℕ) (clear : IsClear flows granted) (inside : (f : ℕ) → Contains granted f → ingress_of flows f < ports)
  where
    -- a post of the run is that of a port with a grant
    pub in_posts : (g : Grant) → Contains (posts_of flows granted first slots) g → (p f : ℕ) × (p < ports) × (grant_in flows granted p ≡ Some f) × (grant p first f slots ≡ g)
    in_posts g has =
        let (f, in', is) = from_map (λ f. post_of flows first slots f) granted g has in
        (ingress_of flows f, f, inside f in', (grant_at flows granted (ingress_of flows f) f clear).1 (in', refl), is)

    pub in_settlements : (sent : ℕ → ℕ) (s : Settlement) → Contains (settlements_of flows granted sent first slots) s → s.grant.slot ≡ first
    in_settlements sent s has =
        let (f, in', is) = from_map (λ f. settlement (post_of flows first slots f) (Some (sent (ingress_of flows f)))) granted s has in
        ap (λ (t : Settlement). t.grant.slot) (sym is)

    module _ (old : List Grant) where
      -- a port without a grant
      pub last_without : (p : ℕ) → grant_in flows granted p ≡ None → last_at p (old ++ posts_of flows granted first slots) ≡ last_at p old
      last_without p e = last_far flows first slots granted old p (λ f in' at. grant_none flows granted p f e in' at)

      -- a port with a grant
      pub last_with : (p f : ℕ) → grant_in flows granted p ≡ Some f → last_at p (old ++ posts_of flows granted first slots) ≡ Some (grant p first f slots)
      last_with p f e =
          let (in', at) = grant_is flows granted p f e in
          last_near flows first slots granted old p f in' at (λ g there same. clear.apart g f there in' (inl (same ∙ sym at)))

-- the last post of a port is one of the posts
pub last_among : (port : ℕ) (g : Grant) (posts : List Grant) → last_at port posts ≡ Some g → Contains posts g × (g.port ≡ port)
last_among port g posts e = last_is (Contains posts) port g posts (All-contains_itself posts) e

-- settlements of other slots do not settle the post
pub not_settled : (g : Grant) (settled : List Settlement) → All (λ (s : Settlement). s.grant.slot < g.slot) settled → is_settled g settled ≡ false
not_settled g settled all = list_any_none (λ (s : Settlement). is_of g.port g.slot s.grant) settled
    (λ k d lt. is_of-false g.port g.slot (get_or settled k d).grant (λ a b. absurd (omega (arith, b, all k d lt))))

waits_by : (g : Grant) (o : Option Grant) (settled : List Settlement) → o ≡ Some g → is_settled g settled ≡ false → is_left o settled ≡ true
waits_by g o settled e none = ap (λ z. is_left z settled) e ∙ ap not none

-- a post of a slot past all settled ones waits
pub waits_now : (port : ℕ) (g : Grant) (posts : List Grant) (settled : List Settlement) → last_at port posts ≡ Some g → All (λ (s : Settlement). s.grant.slot < g.slot) settled
    →
    is_unsettled port posts settled ≡ true
waits_now port g posts settled e all = waits_by g (last_at port posts) settled e (not_settled g settled all)

-- how one settlement more changes what waits
pub settles_here : (port : ℕ) (g : Grant) (posts : List Grant) (settled : List Settlement) (sent : Option ℕ) → last_at port posts ≡ Some g →
    is_unsettled port posts (settled ++ settlement g sent ∷ []) ≡ false
settles_here port g posts settled sent e =
    ap (λ z. is_left z (settled ++ settlement g sent ∷ [])) e ∙ ap not (list_any-append (λ (s : Settlement). is_of g.port g.slot s.grant) settled (settlement g sent ∷ []) ∙
    right_true (is_settled g settled) (is_of g.port g.slot g || false) (left_true (is_of g.port g.slot g) (is_of-same g.port g.slot g refl refl)))
  where
    right_true : (a b : Bool) → b ≡ true → (a || b) ≡ true
    right_true true b e = refl
    right_true false b e = e

    left_true : (a : Bool) → a ≡ true → (a || false) ≡ true
    left_true true e = refl
    left_true false e = e

other_left : (h : Grant) (o : Option Grant) (settled : List Settlement) (sent : Option ℕ) → ((g : Grant) → o ≡ Some g → g.port ≢ h.port) →
    is_left o (settled ++ settlement h sent ∷ []) ≡ is_left o settled
other_left h None settled sent far = refl
other_left h (Some g) settled sent far =
    ap not (list_any-append (λ (s : Settlement). is_of g.port g.slot s.grant) settled (settlement h sent ∷ []) ∙
    right_false (is_settled g settled) (is_of g.port g.slot h || false) (left_false (is_of g.port g.slot h) (is_of-false g.port g.slot h (λ a b. absurd (far g refl (sym a))))))
  where
    right_false : (a b : Bool) → b ≡ false → (a || b) ≡ a
    right_false true b e = refl
    right_false false b e = e

    left_false : (a : Bool) → a ≡ false → (a || false) ≡ false
    left_false true e = e
    left_false false e = refl

pub settles_there : (port : ℕ) (h : Grant) (posts : List Grant) (settled : List Settlement) (sent : Option ℕ) → ((g : Grant) → last_at port posts ≡ Some g → g.port ≢ h.port) →
    is_unsettled port posts (settled ++ settlement h sent ∷ []) ≡ is_unsettled port posts settled
settles_there port h posts settled sent far = other_left h (last_at port posts) settled sent far
