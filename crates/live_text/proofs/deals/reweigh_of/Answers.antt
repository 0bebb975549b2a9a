use Rattle.std.proofs.Common.{arith}
use Rattle.std.specs.Prelude.{codes}
use Rattle.live_text.specs.Text.{reply_words}
use Rattle.live_text.proofs.DealText.{reweigh_second, reweigh_third, two_deal}
use Rattle.live_text.proofs.deals.reweigh_of.Goals as goal

pub returns-in_default-field_then : goal.returns-in_default-field_then
returns-in_default-field_then c = λ w s fits answers e.
    reweigh_second c.args.bytes.now c.in-Some.rest.now c.in-Some.id c.requires (omega (arith, c.in-Some.ensures.1)) c.in-Some.ensures.3 c.in-Some.ensures.2
    c.in_default-field_then.ensures w s fits e

pub returns-in_default-reweighed : goal.returns-in_default-reweighed
returns-in_default-reweighed c = reweigh_third c.args.bytes.now c.in-Some.rest.now c.in-Some-field_then.rest.now c.in-Some.id c.in-Some-field_then.weight c.requires
    (omega (arith, c.in-Some.ensures.1)) c.in-Some.ensures.3 c.in-Some.ensures.2 (omega (arith, c.in-Some-field_then.ensures.1)) c.in-Some-field_then.ensures.3
    c.in-Some-field_then.ensures.2 c.in_default-reweighed.ensures

pub returns : goal.returns
returns c =
    let reply = c.in-Some-reweighed.ensures c.in-Some.id c.in-Some-field_then.weight in (
      (omega (arith, c.in-Some.ensures.1), (c.in-Some-field_then.ensures.0, c.in-Some-field_then.ensures.1)),
      reply.0,
      two_deal (codes " reweigh") c.args.bytes.now c.in-Some.rest.now c.in-Some-field_then.rest.now (reply_words c.in-Some-reweighed.said) c.in-Some.id c.in-Some-field_then.weight
          c.in-Some.ensures.2 c.in-Some-field_then.ensures.2 reply.1,
    )
