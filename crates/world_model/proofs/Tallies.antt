-- What is kept beside each port of what was sent for its last post.
use Rattle.std.proofs.Common.{◌≡◌, ◌≢◌, ℕ, ◌<◌, inl, inr, List, [], ◌∷◌, ◌++◌, length, map, get_or, replicate, refl, sym, ap, subst, ◌∙◌, arith, zero, suc, None, length-set}
use Rattle.std.proofs.Common.{get_or-set_same, get_or-set_other}
use Rattle.std.specs.Prelude.{if◌then◌else◌, ◌==◌, ◌&&◌, slice_set}
use Rattle.std.proofs.lemmas.Bool.{cases_eq, ne_eqb}
use Rattle.std.proofs.lemmas.List.{get_or-map, length-map}
use Rattle.world_model.specs.declared.port.PortState.{PortState}
use Rattle.world_model.specs.declared.event.SentRun.{SentRun}
use Rattle.world_model.specs.Sent.{sent_for}
use Rattle.world_model.specs.Kept.{TellsSent}
use Rattle.world_model.proofs.SendSteps.{both_true, sent_more}

pub tells_read : (xs : List PortState) (sent : List SentRun) (p : ℕ) (x : PortState) → TellsSent xs sent → p < length xs → x ≡ get_or xs p x → x.sent ≡ sent_for sent p x.slot
tells_read xs sent p x h lt is = subst (λ (y : PortState). y.sent ≡ sent_for sent p y.slot) (sym is) (h p x lt)

-- one port changes
pub tells_set : (xs : List PortState) (sent : List SentRun) (p : ℕ) (x : PortState) → TellsSent xs sent → p < length xs → x.sent ≡ sent_for sent p x.slot →
    TellsSent (slice_set xs p x) sent
tells_set xs sent p x h lt new q d low = elim (cases_eq q p) [
  | inl e ↦ subst (λ n. (get_or (slice_set xs p x) n d).sent ≡ sent_for sent n (get_or (slice_set xs p x) n d).slot) (sym e)
      (subst (λ (y : PortState). y.sent ≡ sent_for sent p y.slot) (sym (get_or-set_same xs p x d lt)) new)
  | inr ne ↦ subst (λ (y : PortState). y.sent ≡ sent_for sent q y.slot) (sym (get_or-set_other xs p q x d ne)) (h q d (omega (arith, low, length-set xs p x)))
]

-- a run that is sent at one port adds nothing at another
sent_past : (sent : List SentRun) (p slot flow u q n : ℕ) → q ≢ p → sent_for (sent ++ record { slot = slot; flow = flow; units = u; port = p } ∷ []) q n ≡ sent_for sent q n
sent_past sent p slot flow u q n ne =
    let x : SentRun = record { slot = slot; flow = flow; units = u; port = p } in
    omega (arith, sent_more sent x q n, ap (λ b. if b && (slot == n) then u else 0) (ne_eqb p q (λ e. ne (sym e))))

-- the first run is sent for a post, and the port changes by its units
pub tells_sent : (xs : List PortState) (sent new : List SentRun) (p u : ℕ) (x : PortState) → TellsSent xs sent → p < length xs → x ≡ get_or xs p x → x.sent ≡ 0 →
    new ≡ sent ++ record { slot = x.slot; flow = x.flow; units = u; port = p } ∷ [] → TellsSent (slice_set xs p (record x { sent = u })) new
tells_sent xs sent new p u x h lt is none more =
    let run : SentRun = record { slot = x.slot; flow = x.flow; units = u; port = p } in
    let y : PortState = record x { sent = u } in
    let here : u ≡ sent_for (sent ++ run ∷ []) p x.slot =
    omega (arith, none, tells_read xs sent p x h lt is, sent_more sent run p x.slot, ap (λ b. if b then u else 0) (both_true p p x.slot x.slot refl refl)) in
    subst (TellsSent (slice_set xs p y)) (sym more) (λ q d low. elim (cases_eq q p) [
      | inl e ↦ subst (λ n. (get_or (slice_set xs p y) n d).sent ≡ sent_for (sent ++ run ∷ []) n (get_or (slice_set xs p y) n d).slot) (sym e)
          (subst (λ (z : PortState). z.sent ≡ sent_for (sent ++ run ∷ []) p z.slot) (sym (get_or-set_same xs p y d lt)) here)
      | inr ne ↦ subst (λ (z : PortState). z.sent ≡ sent_for (sent ++ run ∷ []) q z.slot) (sym (get_or-set_other xs p q y d ne))
          (h q d (omega (arith, low, length-set xs p y)) ∙ sym (sent_past sent p x.slot x.flow u q (get_or xs q d).slot ne))
    ])

-- nothing is settled at any port
abbrev pub unsettled : PortState → PortState
unsettled x = record x { settled = None }

pub tells_cleared : (xs : List PortState) (sent : List SentRun) → TellsSent xs sent → TellsSent (map unsettled xs) sent
tells_cleared xs sent h p d low =
    let lt : p < length xs = omega (arith, low, length-map xs unsettled) in
    subst (λ (y : PortState). y.sent ≡ sent_for sent p y.slot) (sym (get_or-map unsettled xs p d d lt)) (h p d lt)

same_port : (n p : ℕ) (x d : PortState) → p < length (replicate n x) → get_or (replicate n x) p d ≡ x
same_port zero p x d lt = absurd (omega arith)
same_port (suc n) zero x d lt = refl
same_port (suc n) (suc p) x d lt = same_port n p x d (omega (arith, lt))

pub tells_new : (n : ℕ) (xs : List PortState) (sent : List SentRun) (x : PortState) → xs ≡ replicate n x → x.sent ≡ 0 → sent ≡ [] → TellsSent xs sent
tells_new n xs sent x all none empty =
    subst (TellsSent xs) (sym empty) (subst (λ (l : List PortState). TellsSent l []) (sym all) (λ p d lt. subst (λ (y : PortState). y.sent ≡ 0) (sym (same_port n p x d lt)) none))
