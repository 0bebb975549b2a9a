use Rattle.std.proofs.Common.{arith}
use Rattle.std.specs.Prelude.{codes}
use Rattle.live_text.specs.Text.{reply_words}
use Rattle.live_text.proofs.DealText.{one_deal, pull_second}
use Rattle.live_text.proofs.deals.pull_of.Goals as goal

pub returns-in_default-pulled : goal.returns-in_default-pulled
returns-in_default-pulled c = pull_second c.args.bytes.now c.in-Some.rest.now c.in-Some.id c.requires (omega (arith, c.in-Some.ensures.1)) c.in-Some.ensures.3 c.in-Some.ensures.2
    c.in_default-pulled.ensures

pub returns : goal.returns
returns c =
    let reply = c.in-Some-pulled.ensures c.in-Some.id in (
      omega (arith, c.in-Some.ensures.1),
      reply.0,
      one_deal (codes " pull") c.args.bytes.now c.in-Some.rest.now (reply_words c.in-Some-pulled.said) c.in-Some.id c.in-Some.ensures.2 reply.1,
    )
