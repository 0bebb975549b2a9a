-- No flow is sent more units than it has.
use Rattle.std.proofs.Common.{◌≡◌, ℕ, ◌+◌, ◌-◌, ◌≤◌, ◌<◌, inl, inr, Bool, true, false, List, get_or, Contains, refl, arith, Option, Some, None}
use Rattle.std.specs.Prelude.{if◌then◌else◌}
use Rattle.coflow_units.specs.declared.fabric.Flow.{Flow}
use Rattle.coflow_units.specs.Flows.{ingress_of, units_of}
use Rattle.coflow_units.specs.PortWord.{PortStage}
use Rattle.coflow_units.specs.PortWord.PortStage.{unposted, granted, drawn, reported, taken_back}
use Rattle.coflow_units.proofs.Sums.{any_has}
use Rattle.journal.specs.State.{Run, has}
use Rattle.journal.specs.Runs.{grant_in}
use Rattle.journal.specs.Sound.{IsSound}
use Rattle.world_model.specs.declared.event.SentRun.{SentRun}
use Rattle.world_model.specs.Port.{PortFacts, idle_port}
use Rattle.world_model.specs.Sent.{sent_for, sent_of}
use Rattle.world_model.specs.Kept.{ByStage, IsAtStage, IsKept}

now_fits : (flows : List Flow) (sent : List SentRun) (r : Run) (f credited : ℕ) (b : Bool) → has r.granted f ≡ b → credited ≤ units_of flows f →
    (Contains r.granted f → r.slots ≤ units_of flows f - credited) →
    sent_for sent (ingress_of flows f) r.first ≤ r.slots → credited + (if b then sent_for sent (ingress_of flows f) r.first else 0) ≤ units_of flows f
now_fits flows sent r f credited true e le owes fits = omega (arith, owes (any_has r.granted f e))
now_fits flows sent r f credited false e le owes fits = omega arith

sent_here_fits : (slots sent_here count : ℕ) (settled : Option ℕ) (stage : PortStage) → ByStage slots sent_here count settled stage → sent_here ≤ slots
sent_here_fits slots sent_here count settled unposted h = absurd h
sent_here_fits slots sent_here count settled granted h = omega (arith, h.2)
sent_here_fits slots sent_here count settled (drawn a) h = h.2
sent_here_fits slots sent_here count settled (reported a n) h = h.2
sent_here_fits slots sent_here count settled taken_back h = omega (arith, h.1)

pub stage_fits : (r : Run) (grant : Option ℕ) (sent_here : ℕ) (x : PortFacts) → IsAtStage r grant sent_here x → sent_here ≤ r.slots
stage_fits r grant sent_here x (inl h) = omega (arith, h.3)
stage_fits r grant sent_here x (inr h) = sent_here_fits r.slots sent_here x.count x.settled x.stage h.2

-- no flow is sent more units than it has
pub kept_within : (flows : List Flow) (ports : ℕ) (credited : ℕ → ℕ) (next : ℕ) (run : Option Run) (xs : List PortFacts) (sent : List SentRun) →
    ((f : ℕ) → ingress_of flows f < ports) →
    IsSound flows credited next run → IsKept flows ports credited next run xs sent → (f : ℕ) → sent_of sent f ≤ units_of flows f
kept_within flows ports credited next None xs sent low sound h f = omega (arith, h.accounted f, sound.within f)
kept_within flows ports credited next (Some r) xs sent low sound h f =
    omega (
      arith,
      h.accounted f,
      now_fits flows sent r f (credited f) (has r.granted f) refl (sound.within f) (sound.open_run.owed f)
          (stage_fits r (grant_in flows r.granted (ingress_of flows f)) (sent_for sent (ingress_of flows f) r.first) (get_or xs (ingress_of flows f) idle_port)
          (h.port (ingress_of flows f) (low f)).0),
    )
