use Rattle.std.proofs.Common.{◌≡◌, inl, ℕ, ◌+◌, ◌<◌, ◌∙◌, sym, ap, refl, subst, arith, length, set, Bool, Some, None, true}
use Rattle.port_board.specs.declared.view.View.{View}
use Rattle.port_board.specs.declared.answer.Settled.{Settled}
use Rattle.port_board.specs.Views.{last_at, is_unsettled, looked, settled_as, Tried, ShowsLast}
use Rattle.port_board.specs.declared.answer.Settled.TheVariants.{Sent, TakenBack, Busy}
use Rattle.coflow_units.specs.PortWord.{shows_granted, shows_drawn, shows_reported}
use Rattle.port_board.specs.Answers.{is_busy, number_sent}
use Rattle.port_board.specs.Agreement.{NobodyHad}
use Rattle.port_board.proofs.AgentSteps.{M}
use Rattle.port_board.proofs.Posting.{PosterFits, settled_cases, tried_is, after_settled, after_busy, carry_poster}
use Rattle.port_board.proofs.board.PortBoard.settle.Goals as goal

half : (port len words : ℕ) → port + port < words → len + len ≡ words → port < len
half port len words a b = omega arith

pub invariant_of-poster : goal.invariant_of-poster
invariant_of-poster c =
    let view = ap (λ u. u.view) c.poster.view_is in
    let left = subst (λ (v : View). is_unsettled c.args.port v.posts v.settled ≡ true) (sym view) c.requires.unsettled in
    let told = c.try_settle-answer.ensures in
    let inside = half c.args.port (length c.poster.inside.posted.items) _ told.range c.poster.invariant.4 in
    let k : M = c.try_settle-answer.new.place.me in
    let flags = c.poster.inside.posted.items in
    let counts = c.poster.inside.counts.items in
    let fits : (b : Bool) (number : ℕ) → Type 0 = λ b number. PosterFits c.poster.inside.agents (set flags c.args.port b) (set counts c.args.port number)
    c.poster.inside.place.table_id.words k in
    let all = settled_cases (λ r. fits (is_busy r) (number_sent r)) c.try_settle-answer.result
    (λ n is. let t = told.sent n is in
    after_settled c.poster.inside.agents flags counts _ c.poster.inside.place.me k c.args.port _ _ _ n _ t.1 c.poster.invariant told.own.1 t.2 inside left (λ _. refl) t.4)
    (λ is. let t = told.taken_back is in
    after_settled c.poster.inside.agents flags counts _ c.poster.inside.place.me k c.args.port _ _ _ 0 _ c.poster.inside.place.me.0 c.poster.invariant told.own.1
    (inl refl) inside left (λ some. absurd (omega arith)) t.2)
    (λ w is. let t = told.busy w is in
    after_busy c.poster.inside.agents flags counts _ c.poster.inside.place.me k c.args.port w t.0 c.poster.invariant told.own.1 t.1 inside left t.3) in
    carry_poster _ _ _ _ _ k k told.own.0 refl (subst (λ (z : Bool × ℕ). fits z.0 z.1) (λ i. (sym c.is_busy.ensures i, sym c.number_sent.ensures i)) all)

-- a settling leaves the lists that it has nothing to do with
same_lists : (port ports : ℕ) (old k : View) (r : Settled) →
    ((n : ℕ) → r ≡ Sent n → (word : ℕ) × (before : View) × Tried port old before × (shows_reported word ≡ true) ×
    (k ≡ looked (ports + port) n (settled_as port (Some n) (looked port word before))) × ShowsLast port word old.posts)
    → (r ≡ TakenBack → (word : ℕ) × (shows_granted word ≡ true) × (k ≡ looked port word (settled_as port None (looked port word old))))
    → ((word : ℕ) → r ≡ Busy word → (before : View) × Tried port old before × (shows_drawn word ≡ true) × (k ≡ looked port word before)) →
    (k.back ≡ old.back) × (k.made ≡ old.made) × (k.posts ≡ old.posts)
same_lists port ports old k r sent taken busy =
    let P : View → Type 0 = λ z. (z.back ≡ old.back) × (z.made ≡ old.made) × (z.posts ≡ old.posts) in
    settled_cases (λ _. P k) r
    (λ n is. let t = sent n is in subst P (sym t.4)
    (tried_is (λ b. P (looked (ports + port) n (settled_as port (Some n) (looked port t.0 b)))) port old t.1 (refl, refl, refl) (λ _. (refl, refl, refl)) t.2))
    (λ is. let t = taken is in subst P (sym t.2) (refl, refl, refl))
    (λ w is. let t = busy w is in subst P (sym t.3) (tried_is (λ b. P (looked port w b)) port old t.0 (refl, refl, refl) (λ _. (refl, refl, refl)) t.1))

pub returns-clause-seats : goal.returns-clause-seats
returns-clause-seats c =
    let view = ap (λ u. u.view) c.poster.view_is in
    let told = c.try_settle-answer.ensures in
    let t = same_lists c.args.port _ c.poster.inside.place.me.0 c.try_settle-answer.new.place.me.0 c.try_settle-answer.result told.sent told.taken_back told.busy in
    (t.0 ∙ ap (λ (v : View). v.back) view, t.1 ∙ ap (λ (v : View). v.made) view)

pub returns-clause-posts : goal.returns-clause-posts
returns-clause-posts c =
    let view = ap (λ u. u.view) c.poster.view_is in
    let told = c.try_settle-answer.ensures in
    let t = same_lists c.args.port _ c.poster.inside.place.me.0 c.try_settle-answer.new.place.me.0 c.try_settle-answer.result told.sent told.taken_back told.busy in
    t.2 ∙ ap (λ (v : View). v.posts) view

pub returns-clause-nobody : goal.returns-clause-nobody
returns-clause-nobody c g is last =
    let view = ap (λ u. u.view) c.poster.view_is in
    subst (λ (v : View). NobodyHad g v) view (c.try_settle-answer.ensures.nobody g is (subst (λ (v : View). last_at c.args.port v.posts ≡ Some g) (sym view) last))

pub returns-clause-busy_is_posted : goal.returns-clause-busy_is_posted
returns-clause-busy_is_posted c word is =
    let view = ap (λ u. u.view) c.poster.view_is in
    subst (λ (v : View). ShowsLast c.args.port word v.posts) view (c.try_settle-answer.ensures.busy_is_posted word is)
