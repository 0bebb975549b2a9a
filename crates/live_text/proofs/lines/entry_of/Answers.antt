use Rattle.std.proofs.Common.{arith}
use Rattle.live_text.specs.Text.{reply_words}
use Rattle.live_text.proofs.LineReading.{deal_rest, deal_words, entry_rest}
use Rattle.live_text.proofs.Words.{command_stops}
use Rattle.live_text.proofs.lines.entry_of.Goals as goal

pub returns-then-read-position : goal.returns-then-read-position
returns-then-read-position c = λ e ge le fits is.
    let rest = entry_rest c.args.line.now c.in-Some.rest.now c.in-Some.read c.args.position e (omega (arith, c.in-Some.ensures.1)) (omega (arith, le)) c.in-Some.ensures.3
    c.in-Some.ensures.2 is in
    c.if-read-position.true rest.0

pub returns-in_default-field_then : goal.returns-in_default-field_then
returns-in_default-field_then c = λ e ge le fits is.
    let rest = entry_rest c.args.line.now c.in-Some.rest.now c.in-Some.read c.args.position e (omega (arith, c.in-Some.ensures.1)) (omega (arith, le)) c.in-Some.ensures.3
    c.in-Some.ensures.2 is in
    c.in_default-field_then.ensures e.who (deal_words e) (omega arith) (omega (arith, fits.who_is)) (command_stops e.word (reply_words e.said)) rest.1

pub returns-in_default-deal_of : goal.returns-in_default-deal_of
returns-in_default-deal_of c = λ e ge le fits is.
    let place = c.in-Some.ensures in
    let client = c.in-Some-field_then.ensures in
    let deal = deal_rest c.args.line.now c.in-Some.rest.now c.in-Some-field_then.rest.now c.in-Some.read c.args.position c.in-Some-field_then.who e (omega (arith, place.1))
    (omega (arith, le)) place.3 place.2 (omega (arith, client.1)) client.3 client.2 fits is in
    c.in_default-deal_of.ensures e.word e.said fits.command fits.reply deal
