use Rattle.std.proofs.Common.{arith}
use Rattle.std.specs.Prelude.{codes}
use Rattle.live_text.specs.Text.{reply_words}
use Rattle.live_text.proofs.DealText.{one_deal, open_second}
use Rattle.live_text.proofs.deals.open_of.Goals as goal

pub returns-in_default-opened : goal.returns-in_default-opened
returns-in_default-opened c = open_second c.args.bytes.now c.in-Some.rest.now c.in-Some.most c.requires (omega (arith, c.in-Some.ensures.1)) c.in-Some.ensures.3 c.in-Some.ensures.2
    c.in_default-opened.ensures

pub returns : goal.returns
returns c =
    let reply = c.in-Some-opened.ensures c.in-Some.most in (
      (c.in-Some.ensures.0, omega (arith, c.in-Some.ensures.1)),
      reply.0,
      one_deal (codes " open") c.args.bytes.now c.in-Some.rest.now (reply_words c.in-Some-opened.said) c.in-Some.most c.in-Some.ensures.2 reply.1,
    )
