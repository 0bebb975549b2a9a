-- What an order is published of, in an online run that is under way.
use Rattle.std.proofs.Common.{◌≡◌, ℕ, ◌≤◌, Bool, List, sym, ap, subst, ◌∙◌}
use Rattle.std.specs.Prelude.{All}
use Rattle.std.proofs.lemmas.List.Elements.{All-weaker}
use Rattle.coflow_units.specs.declared.limits.TheConstants.{MAX_UNITS, MAX_WEIGHT}
use Rattle.coflow_units.specs.declared.plan.Place.{Place}
use Rattle.coflow_units.specs.Flows.{Instance, IsInstance}
use Rattle.flow_table.specs.Table.{TableFacts}
use Rattle.bssi_order.specs.Order.{IsOrder}
use Rattle.epochs.specs.Course.{Course}
use Rattle.online_text.specs.declared.value.Epoch.{Epoch}
use Rattle.journal.specs.Fold.{state_of}
use Rattle.journal.specs.Journal.{left_at}
use Rattle.journal.proofs.Instances.{left_is_instance}
use Rattle.client_session.specs.Models.{HallModel}
use Rattle.slot_runner.specs.Models.{RunnerModel}
use Rattle.master_core.specs.Published.{IsLeft}
use Rattle.online_runs.specs.Value.{epoch_at, epoch_of}
use Rattle.online_runs.specs.declared.progress.Progress.{Progress}
use Rattle.hall_online.specs.Serving.{IsUnderWay}
use Rattle.hall_online.proofs.Actions.{now_holds}
use Rattle.online_runs.proofs.Bounds.{is_left_here, left_within}
use Rattle.std.specs.Prelude.{sum}

module _ (hall : HallModel) (old : RunnerModel) (arrivals : List ℕ) (every : ℕ) (s : Course) (p : Progress) (h : IsUnderWay hall old arrivals every s p) where
  pub instance_here : IsInstance (left_at hall.setting.opening old.driver.journal)
  instance_here = left_is_instance hall.setting.opening (state_of hall.setting.opening old.driver.journal) h.input.opening

  pub left_here : IsLeft (left_at hall.setting.opening old.driver.journal) hall.setting.opening.table.flows p.left.items hall.setting.opening.weights p.present.items
      hall.setting.opening.table.ports
  left_here = is_left_here hall.setting.opening s old.driver.journal p (now_holds hall old arrivals every s p h).stands h.tells

  pub light_weights : All (λ w. w ≤ MAX_WEIGHT) hall.setting.opening.weights
  light_weights = All-weaker (λ w. (1 ≤ w) × (w ≤ MAX_WEIGHT)) (λ w. w ≤ MAX_WEIGHT) (λ w both. both.1) hall.setting.opening.weights h.input.opening.weight

  pub left_fits : sum p.left.items ≤ MAX_UNITS
  left_fits = left_within hall.setting.opening s old.driver.journal p h.input.opening h.tells

  pub epoch_here : (e : Epoch) → e ≡ epoch_of hall.setting.opening.table.ids p.time (left_at hall.setting.opening old.driver.journal) →
      e ≡ epoch_at hall.setting.opening old.driver.journal
  epoch_here e is = is ∙ ap (λ t. epoch_of hall.setting.opening.table.ids t (left_at hall.setting.opening old.driver.journal)) h.tells.time_is

  -- the same of lists that are told anew
  module _ (t : TableFacts) (table : t ≡ hall.setting.opening.table) (places given : List Place) (left : List ℕ) (present : List Bool) (same_places : given ≡ places)
      (same_left : left ≡ p.left.items) (same_present : present ≡ p.present.items) (order : IsOrder (left_at hall.setting.opening old.driver.journal) places) where
    pub order_given : IsOrder (left_at hall.setting.opening old.driver.journal) given
    order_given = subst (IsOrder (left_at hall.setting.opening old.driver.journal)) (sym same_places) order

    pub left_given : IsLeft (left_at hall.setting.opening old.driver.journal) t.flows left hall.setting.opening.weights present t.ports
    left_given =
        let i = left_at hall.setting.opening old.driver.journal in
        let w = hall.setting.opening.weights in
        subst (λ (x : TableFacts). IsLeft i x.flows left w present x.ports) (sym table)
        (subst (λ l. IsLeft i hall.setting.opening.table.flows l w present hall.setting.opening.table.ports) (sym same_left)
        (subst (λ l. IsLeft i hall.setting.opening.table.flows p.left.items w l hall.setting.opening.table.ports) (sym same_present) left_here))

    pub order_told : (i : Instance) × (weights : List ℕ) × IsInstance i × IsOrder i given × IsLeft i t.flows left weights present t.ports × All (λ w. w ≤ MAX_WEIGHT) weights
    order_told = (left_at hall.setting.opening old.driver.journal, hall.setting.opening.weights, instance_here, order_given, left_given, light_weights)
