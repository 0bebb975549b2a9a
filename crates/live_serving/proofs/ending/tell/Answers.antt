use Rattle.std.proofs.Common.{◌∙◌, ◌<◌, ap, flat_map, List, length, map, subst, sym}
use Rattle.std.specs.Prelude.{All}
use Rattle.std.specs.List.{range_with_len}
use Rattle.flow_table.specs.Table.{TableFacts}
use Rattle.journal.specs.declared.opening.Opening.{Opening}
use Rattle.live_serving.specs.Ends.{pull_line}
use Rattle.live_serving.specs.Followed.{pulls_for}
use Rattle.live_rounds.specs.declared.answer.PullDone.{PullDone}
use Rattle.live_serving.proofs.EndingRuns.{told_end}
use Rattle.live_serving.proofs.ending.tell.Goals as goal

pub pull_lines-requires : goal.pull_lines-requires
pull_lines-requires c =
    let (most, ended) = c.requires.ended in
    let table = c.table.ensures ∙ ap (λ (o : Opening). o.table) c.in_ok-master.ensures.opening in
    record {
      coflows = subst (λ (x : TableFacts × List PullDone). All (λ (p : PullDone). p.coflow < length x.0.ids) x.1)
          (λ i. (sym table i, sym c.as_slice.ensures.value i)) ended.coflows;
    }

pub returns-clause-told : goal.returns-clause-told
returns-clause-told c = λ most h.
    let closed = c.in_ok-master.ensures in
    let table = c.table.ensures ∙ ap (λ (o : Opening). o.table) closed.opening in
    told_end c.args.run.hall c.args.script.now most c.args.driver c.args.run.sessions.items c.args.run.pulls.items c.in_ok-master.master h closed c.coflows-within.ensures.opening
    c.from_vec.result
    (c.from_vec.ensures ∙ c.in-Ok.ensures
    ∙ ap (λ (x : TableFacts × List PullDone). flat_map (λ k. map (pull_line x.0.ids) (pulls_for k x.1)) (range_with_len 1 c.args.script.now.clients))
    (λ i. (table i, c.as_slice.ensures.value i)))
