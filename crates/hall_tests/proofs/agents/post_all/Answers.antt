use Rattle.std.proofs.Common.{ℕ, eqb, List, Some, ap, ◌∙◌, arith, ne_eqb}
use Rattle.std.proofs.lemmas.Bool.{cond-false}
use Rattle.port_board.specs.declared.view.Grant.{Grant}
use Rattle.port_board.specs.declared.view.View.{View}
use Rattle.port_board.specs.Views.{grant, last_at}
use Rattle.port_board.proofs.Lists.{last_pushed}
use Rattle.hall_tests.proofs.agents.post_all.Goals as goal

pub loop-port-preserved : goal.loop-port-preserved
loop-port-preserved c =
    let port : ℕ = c.loop-port.port in
    let old : List Grant = c.loop-port.poster.view.posts in
    let it : Grant = grant port 1 port c.args.length in record {
      own = c.post.ensures.own ∙ c.loop-port.invariant.own;
      none = λ q le. ap (λ (v : View). last_at q v.posts) c.post.ensures.post
          ∙ (last_pushed q old it ∙ (cond-false (eqb port q) (Some it) (last_at q old) (ne_eqb port q (λ e. absurd (omega arith))) ∙ c.loop-port.invariant.none q (omega arith)));
      range = c.loop-port.invariant.range;
    }
