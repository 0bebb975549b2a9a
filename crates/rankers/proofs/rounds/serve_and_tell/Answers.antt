use Rattle.std.proofs.Common.{◌≡◌, ℕ, List, length, sym, subst}
use Rattle.std.specs.Prelude.{map}
use Rattle.std.specs.List.{range_with_len}
use Rattle.coflow_units.specs.declared.fabric.Flow.{Flow}
use Rattle.coflow_units.specs.Completion.{completion}
use Rattle.flow_table.specs.Table.{instance_of}
use Rattle.rankers.specs.Rounds.{IsToldOf, after_completions}
use Rattle.rankers.specs.Scores.{IsCame}
use Rattle.rankers.proofs.ToldOrders.{came_told, unfit_told}
use Rattle.rankers.proofs.rounds.serve_and_tell.Goals.{in-Ends, in_default}
use Rattle.rankers.proofs.rounds.serve_and_tell.Goals as goal

pub returns-clause-told : goal.returns-clause-told
returns-clause-told g c = λ weights.
    let t = c.args.table.now in
    let order = c.args.order.now in
    let m = (goal.Ranker-dyn g (c.args.ranker.now.vtable, c.args.ranker.now.value)).meaning c.args.ranker.now.value in
    elim c.match-came.branch [
      | in-Ends w ↦
          let later = (goal.Ranker-dyn g (w.tell.new.ranker.vtable, w.tell.new.ranker.value)).meaning w.tell.new.ranker.value in
          subst (λ r. IsToldOf (instance_of t weights) order m ((goal.Ranker-dyn g (r.vtable, r.value)).meaning r.value)) (sym w.ranker-is)
          (came_told t weights order w.in-Ends.ends m later (subst (IsCame (instance_of t weights) order) w.in-Ends.is (c.in_ok-came.ensures.came weights))
          (subst (λ ends. (flows : List Flow) (slots : List (List ℕ)) → ends ≡ map (λ c. completion flows slots c) (range_with_len 0 (length ends)) →
          later ≡ after_completions flows (length ends) m slots) w.as_slice.ensures w.tell.ensures))
      | in_default w ↦
          subst (λ r. IsToldOf (instance_of t weights) order m ((goal.Ranker-dyn g (r.vtable, r.value)).meaning r.value)) (sym w.ranker-is)
          (unfit_told (instance_of t weights) order w.in_default.field-0 m (subst (IsCame (instance_of t weights) order) w.in_default.is (c.in_ok-came.ensures.came weights)))
    ]
