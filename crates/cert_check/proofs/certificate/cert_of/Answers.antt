use Rattle.std.proofs.Common.{sym, ap, ◌∙◌, arith, length, ◌<◌, ◌≡◌}
use Rattle.coflow_units.specs.Certificate.{entry_of}
use Rattle.std.specs.Prelude.{map}
use Rattle.cert_check.proofs.CertificateOf.{all_entries_named, places_more}
use Rattle.cert_check.proofs.certificate.cert_of.Goals as goal

pub loop-index-preserved : goal.loop-index-preserved
loop-index-preserved c =
    let within : c.loop-index.index < length c.args.coflows.now = omega (arith, c.requires, c.loop-index-test.true) in
    ap (map entry_of) c.in_ok-push.ensures.items
    ∙ places_more c.args.coflows.now c.args.lines.now c.loop-index.index c.loop-index.places.items c.place_of.result c.loop-index.invariant within c.loop-index-test.true
    c.place_of.ensures

pub returns : goal.returns
returns c = λ ids named.
    let count : c.loop-index.index ≡ length c.args.lines.now = omega (arith, c.loop-index-test.false, c.loop-index.auto.index-end) in
    c.in_ok-cert.ensures.entries ∙ ap (map entry_of) c.deref.ensures.value ∙ c.loop-index.invariant ∙
    all_entries_named ids c.args.coflows.now c.args.lines.now c.loop-index.index (sym count) (omega (arith, c.requires, count)) named
