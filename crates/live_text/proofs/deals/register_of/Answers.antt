use Rattle.std.proofs.Common.{arith}
use Rattle.std.specs.Prelude.{codes}
use Rattle.live_text.specs.Text.{reply_words}
use Rattle.live_text.proofs.DealText.{one_deal, register_second}
use Rattle.live_text.proofs.deals.register_of.Goals as goal

pub returns-in_default-registered : goal.returns-in_default-registered
returns-in_default-registered c = register_second c.args.bytes.now c.in-Some.rest.now c.in-Some.id c.requires (omega (arith, c.in-Some.ensures.1))
    c.in-Some.ensures.3 c.in-Some.ensures.2 c.in_default-registered.ensures

pub returns : goal.returns
returns c =
    let reply = c.in-Some-registered.ensures c.in-Some.id in (
      omega (arith, c.in-Some.ensures.1),
      reply.0,
      one_deal (codes " register") c.args.bytes.now c.in-Some.rest.now (reply_words c.in-Some-registered.said) c.in-Some.id c.in-Some.ensures.2 reply.1,
    )
