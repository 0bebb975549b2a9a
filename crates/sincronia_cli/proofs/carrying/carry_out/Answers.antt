use Rattle.std.proofs.Common.{◌≡◌, Err, ap, arith, map, refl, subst, sym}
use Rattle.std.specs.Prelude.{◌⊎◌, ℕ, All, IfErr, IfOk, drop, take}
use Rattle.command_files.specs.declared.status.Outcome.{Outcome}
use Rattle.command_files.specs.declared.status.Status.TheVariants.{UnknownPolicy}
use Rattle.command_words.specs.Jobs.{job_by}
use Rattle.command_words.specs.Words.{said_with}
use Rattle.command_words.specs.declared.job.Job.{Job}
use Rattle.command_jobs.specs.Compare.{IsFactsOfFiles}
use Rattle.command_jobs.specs.Record.{LacksPolicy}
use Rattle.command_jobs.specs.Serving.{Sends, Serves, Stops}
use Rattle.hall_plan.specs.Sent.{SendsAll}
use Rattle.rankers.specs.FactsTold.{FactsTold}
use Rattle.sincronia_cli.specs.Causes.{HasCauseOf}
use Rattle.sincronia_cli.specs.Outcome.{IsOutcome}
use Rattle.sincronia_cli.proofs.carrying.carry_out.Goals as goal

pub returns-in-Live-clause-sent : goal.returns-in-Live-clause-sent
returns-in-Live-clause-sent g c =
    subst (λ (job : Job). (c.run_clients.new.wires.items ≡ c.args.wires.now.items)
    ⊎ Serves (Sends g.W.Wire.runs c.args.wires.now.items c.run_clients.new.wires.items) (job_by job)
    (g.H.Shelf.told c.args.shelf.now) (said_with (job_by job) c.args.words.options))
    (sym c.in-Live.is) c.run_clients.ensures.sent

pub returns-in-Compare-clause-left : goal.returns-in-Compare-clause-left
returns-in-Compare-clause-left g c =
    let (reached, rest, all) = subst (λ (job : Job). (reached : ℕ) × (c.compare_rankers.new.bench.items ≡ drop reached c.args.bench.now.items) ×
    All (λ b. (facts : FactsTold) × IsFactsOfFiles (g.H.Shelf.told c.args.shelf.now) (said_with (job_by job) c.args.words.options) facts ×
    (goal.Ranker-dyn g (b.vtable, b.value)).answered b.value facts) (take reached c.args.bench.now.items))
    (sym c.in-Compare.is) c.compare_rankers.ensures.left in
    (reached, rest, λ none alone. all)

-- nothing is said of those that were replayed
pub returns-in-Replay-clause-left : goal.returns-in-Replay-clause-left
returns-in-Replay-clause-left g c =
    let (reached, rest) = c.replay_rankers.ensures.left in
    (reached, rest, λ none alone. absurd (none c.in-Replay.trace.now (ap job_by c.in-Replay.is)))

pub returns-in-Record-clause-left : goal.returns-in-Record-clause-left
returns-in-Record-clause-left g c =
    let (reached, rest) = c.record_policy.ensures.left in
    (reached, rest, λ none alone. absurd (alone c.in-Record.trace.now c.in-Record.policy.now (ap job_by c.in-Record.is)))

-- what is said of the record of a policy
pub returns-in-Record-clause-outcome : goal.returns-in-Record-clause-outcome
returns-in-Record-clause-outcome g c =
    subst (λ (job : Job). IfOk c.record_policy.result (λ (o : Outcome). IsOutcome (SendsAll g.W.Wire.runs c.args.wires.now.items c.args.wires.now.items)
    (g.H.Shelf.told c.args.shelf.now) (said_with (job_by job) c.args.words.options) (map (λ b. (goal.Ranker-dyn g (b.vtable, b.value)).meaning b.value) c.args.bench.now.items) o.status o.text))
    (sym c.in-Record.is) c.record_policy.ensures.outcome

pub returns-in-Record-clause-cause : goal.returns-in-Record-clause-cause
returns-in-Record-clause-cause g c =
    subst (λ (job : Job). IfErr c.record_policy.result (HasCauseOf (Stops g.W.Wire.faults g.W.Wire.runs c.args.wires.now.items c.args.wires.now.items)
    (map (λ b. (goal.Ranker-dyn g (b.vtable, b.value)).meaning b.value) c.args.bench.now.items) (g.H.Shelf.faults c.args.shelf.now) (g.H.Shelf.faults c.record_policy.new.shelf)
    (g.H.Shelf.told c.args.shelf.now) (g.H.Shelf.told c.record_policy.new.shelf) (said_with (job_by job) c.args.words.options)))
    (sym c.in-Record.is) c.record_policy.ensures.cause

pub returns-in-Record-clause-lacks_policy : goal.returns-in-Record-clause-lacks_policy
returns-in-Record-clause-lacks_policy g c =
    subst (λ (job : Job). LacksPolicy (map (λ b. (goal.Ranker-dyn g (b.vtable, b.value)).meaning b.value) c.args.bench.now.items) (job_by job) → c.record_policy.result ≡ Err UnknownPolicy)
    (sym c.in-Record.is) c.record_policy.ensures.lacks_policy

-- the others leave the bench alone
pub returns-in-Plan-clause-left : goal.returns-in-Plan-clause-left
returns-in-Plan-clause-left g c = (0, refl, λ none alone k d lt. absurd (omega (arith, lt)))

pub returns-in-Check-clause-left : goal.returns-in-Check-clause-left
returns-in-Check-clause-left g c = (0, refl, λ none alone k d lt. absurd (omega (arith, lt)))

pub returns-in-Make-clause-left : goal.returns-in-Make-clause-left
returns-in-Make-clause-left g c = (0, refl, λ none alone k d lt. absurd (omega (arith, lt)))

pub returns-in-Classes-clause-left : goal.returns-in-Classes-clause-left
returns-in-Classes-clause-left g c = (0, refl, λ none alone k d lt. absurd (omega (arith, lt)))

pub returns-in-Audit-clause-left : goal.returns-in-Audit-clause-left
returns-in-Audit-clause-left g c = (0, refl, λ none alone k d lt. absurd (omega (arith, lt)))

pub returns-in-Online-clause-left : goal.returns-in-Online-clause-left
returns-in-Online-clause-left g c = (0, refl, λ none alone k d lt. absurd (omega (arith, lt)))

pub returns-in-Live-clause-left : goal.returns-in-Live-clause-left
returns-in-Live-clause-left g c = (0, refl, λ none alone k d lt. absurd (omega (arith, lt)))

pub returns-in-Serve-clause-left : goal.returns-in-Serve-clause-left
returns-in-Serve-clause-left g c = (0, refl, λ none alone k d lt. absurd (omega (arith, lt)))
