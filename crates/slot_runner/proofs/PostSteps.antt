-- The posts of a run, one flow after the other.
use Rattle.std.proofs.Common.{◌≡◌, ℕ, ◌+◌, ◌<◌, ◌≤◌, false, List, [], ◌∷◌, ◌++◌, get_or, length, take, Option, Some, None, refl, sym, ap, subst, ◌∙◌, append_assoc}
use Rattle.std.proofs.Common.{append-nil}
use Rattle.std.specs.Prelude.{All}
use Rattle.std.proofs.lemmas.List.Elements.{All-contains}
use Rattle.coflow_units.specs.declared.fabric.Flow.{Flow}
use Rattle.coflow_units.specs.Flows.{ingress_of}
use Rattle.coflow_units.specs.Schedule.{IsClear}
use Rattle.port_board.specs.declared.view.Grant.{Grant}
use Rattle.port_board.specs.declared.view.View.{View}
use Rattle.port_board.specs.Views.{is_left, is_unsettled, last_at, last_slot, posted_too, slot_or_none}
use Rattle.slot_runner.specs.Posts.{IsPosted, post_of, posts_of}
use Rattle.slot_runner.proofs.Apart.{take_next, taken_apart}
use Rattle.slot_runner.proofs.PortPosts.{last_among, last_far}

module _ (flows : List Flow) (granted : List ℕ) (first slots : ℕ) (v : View) where
  pub begins_posted : IsPosted flows [] first slots v v
  begins_posted = record { posts = sym (append-nil v.posts); settled = refl; back = refl; made = refl }

  module _ (k f : ℕ) (low : k < length granted) (is : get_or granted k f ≡ f) (clear : IsClear flows granted) (w : View)
      (so_far : IsPosted flows (take k granted) first slots v w) where
    last_before : last_at (ingress_of flows f) w.posts ≡ last_at (ingress_of flows f) v.posts
    last_before = ap (last_at (ingress_of flows f)) so_far.posts ∙
        last_far flows first slots (take k granted) v.posts (ingress_of flows f) (taken_apart flows granted k f low is clear)

    -- the port is free
    pub is_free : ((port : ℕ) → is_unsettled port v.posts v.settled ≡ false) → is_unsettled (ingress_of flows f) w.posts w.settled ≡ false
    is_free none = (λ i. is_left (last_before i) (so_far.settled i)) ∙ none (ingress_of flows f)

    slot_low : (o : Option Grant) → last_at (ingress_of flows f) v.posts ≡ o → 1 ≤ first → All (λ (g : Grant). g.slot < first) v.posts → slot_or_none o < first
    slot_low None e some all = some
    slot_low (Some g) e some all = All-contains (λ (x : Grant). x.slot < first) v.posts g all (last_among (ingress_of flows f) g v.posts e).0

    -- its last post was earlier
    pub is_later : 1 ≤ first → All (λ (g : Grant). g.slot < first) v.posts → last_slot (ingress_of flows f) w.posts < first
    is_later some all = subst (λ o. slot_or_none o < first) (sym last_before) (slot_low (last_at (ingress_of flows f) v.posts) refl some all)

    pub posts_flow : (u : View) → u ≡ posted_too (post_of flows first slots f) w → IsPosted flows (take (k + 1) granted) first slots v u
    posts_flow u e = record {
      posts = ap (λ (x : View). x.posts) e ∙ ap (λ (l : List Grant). l ++ post_of flows first slots f ∷ []) so_far.posts ∙
          append_assoc v.posts (posts_of flows (take k granted) first slots) (post_of flows first slots f ∷ []) ∙
          ap (λ l. v.posts ++ l) (sym (take_next (λ g. post_of flows first slots g) granted k f low is));
      settled = ap (λ (x : View). x.settled) e ∙ so_far.settled;
      back = ap (λ (x : View). x.back) e ∙ so_far.back;
      made = ap (λ (x : View). x.made) e ∙ so_far.made;
    }
