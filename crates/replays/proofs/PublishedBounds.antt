-- What was left at each publishing of a moment is an instance, so its ordering certificate proves its bound.
use Rattle.std.proofs.Common.{ℕ, ◌≤◌, inl, inr, List, Contains, sym, subst, arith}
use Rattle.std.proofs.lemmas.List.Elements.{Contains-push_cases}
use Rattle.coflow_units.specs.Completion.{cost}
use Rattle.coflow_units.specs.Flows.{IsInstance}
use Rattle.coflow_units.specs.Schedule.{IsValid}
use Rattle.coflow_units.proofs.OrderingLaws.{ordering_feasible}
use Rattle.dual_cert.proofs.DualLaw.{bound_law}
use Rattle.epochs.specs.declared.action.Action.{Action}
use Rattle.epochs.specs.declared.action.Action.TheVariants.{End, Publish, Register, Run, Skip, TooMany, Withdraw}
use Rattle.journal.specs.Chosen.{the_ordering}
use Rattle.journal.proofs.Instances.{is_the_ordering}
use Rattle.rankers.specs.FactsTold.{FactsTold}
use Rattle.rankers.specs.Meaning.{Meaning}
use Rattle.replays.specs.Moments.{DoesNext, first_moment, Input, IsMoment, IsNext, Moment, Publishing, published_at}
use Rattle.replays.specs.Recorded.{epoch_told}
use Rattle.replays.specs.Replayed.{IsInput}
use Rattle.replays.proofs.LeftInstances.{instance_at}
use Rattle.replays.proofs.MomentSteps.{at_each}

record HaveInstances (m : Moment) : Type 0 where
  pub each : (p : Publishing) → Contains m.publishings p → IsInstance p.left

instances_published : (x : Input) (m : Moment) (facts : FactsTold) → IsInput x → HaveInstances m → HaveInstances (published_at x m facts)
instances_published x m facts input h = record {
  each = λ p has. elim (Contains-push_cases m.publishings _ p has) [
    | inl old ↦ h.each p old
    | inr same ↦ subst (λ (q : Publishing). IsInstance q.left) same (instance_at x m input)
  ];
}

instances_next : (x : Input) → IsInput x → (m next : Moment) (a : Action) → HaveInstances m → DoesNext x m a → IsNext x m a next → HaveInstances next
instances_next x input m next (Register c) h does is = subst HaveInstances (sym is) (record { each = h.each })
instances_next x input m next (Withdraw c) h does is = subst HaveInstances (sym is) (record { each = h.each })
instances_next x input m next Publish h does is = subst HaveInstances (sym is.next_is) (instances_published x m is.facts input h)
instances_next x input m next (Run most) h does is = subst HaveInstances (sym is.next_is) (record { each = h.each })
instances_next x input m next (Skip to) h does is = subst HaveInstances (sym is) (record { each = h.each })
instances_next x input m next End h does is = absurd is
instances_next x input m next (TooMany count) h does is = absurd is

no_instances : (x : Input) (ranker : Meaning) → HaveInstances (first_moment x ranker)
no_instances x ranker = record { each = λ p has. absurd (omega (arith, has.1)) }

pub bound_holds : (x : Input) (ranker : Meaning) (moment : Moment) (p : Publishing) (slots : List (List ℕ)) → IsInput x → IsMoment x ranker moment →
    Contains moment.publishings p → IsValid p.left.flows slots → (epoch_told x.table.ids p).bound ≤ cost p.left.flows p.left.weight p.left.coflows slots
bound_holds x ranker moment p slots input reached has valid =
    let inst = (at_each x HaveInstances (instances_next x input) ranker moment (no_instances x ranker) reached).each p has in
    let ordering = is_the_ordering p.left inst in
    bound_law p.left (the_ordering p.left) slots ordering.certificate (ordering_feasible p.left (the_ordering p.left) ordering) valid
