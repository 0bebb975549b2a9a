use Rattle.std.proofs.Common.{◌≡◌, ◌-◌, Some, length, map, sym, ap, ◌∙◌}
use Rattle.std.specs.List.{slice_get}
use Rattle.std.specs.Option.{option_map}
use Rattle.std.proofs.lemmas.List.{length-map}
use Rattle.std.proofs.lemmas.Option.{slice_get-map}
use Rattle.report_text.proofs.FlowText.{rises_is}
use Rattle.online_text.specs.declared.value.Epoch.{Epoch}
use Rattle.online_text.proofs.parts.rises.Goals as goal

pub returns-in-Some : goal.returns-in-Some
returns-in-Some c =
    let time = λ (e : Epoch). e.time in
    let xs = c.args.epochs.now in
    let last : Some c.in-Some.last.now.time ≡ slice_get (map time xs) (length (map time xs) - 1) =
    ap (option_map time) c.in-Some.ensures.value ∙ (sym (slice_get-map time xs (length xs - 1)) ∙ ap (λ n. slice_get (map time xs) (n - 1)) (sym (length-map xs time))) in
    rises_is (map time xs) c.args.time c.in-Some.last.now.time last
