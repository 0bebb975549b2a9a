use Rattle.std.proofs.Common.{◌≡◌, ◌<◌, ◌∙◌, List, [], get_or, length, sym, ap, subst}
use Rattle.std.proofs.lemmas.List.{get_or_default}
use Rattle.picture.specs.declared.value.Bar.{Bar}
use Rattle.picture.specs.Layout.{IsInside}
use Rattle.picture.proofs.marks.push_row.Goals as goal

pub push_mark-requires-clause-inside : goal.push_mark-requires-clause-inside
push_mark-requires-clause-inside c =
    let rows = c.args.picture.now.rows in
    let port = c.args.port in
    let w = c.args.picture.now.window in
    let here : c.as_slice-bar-items.result.now ≡ get_or rows port [] =
    c.as_slice-bar-items.ensures ∙ c.index-as_slice-port.is ∙ ap (λ (l : List (List Bar)). get_or l port c.index-as_slice-port.result) c.as_slice.ensures ∙
    get_or_default rows port c.index-as_slice-port.result [] c.requires.port in
    let within : c.loop-bar.bar-index < length (get_or rows port []) = subst (λ (l : List Bar). c.loop-bar.bar-index < length l) here c.loop-bar-test.true in
    subst (λ (l : List Bar). IsInside w (get_or l c.loop-bar.bar-index record { coflow = 0; first = 0; last = 0 })) (sym here)
    (c.requires.drawable.inside port c.requires.port c.loop-bar.bar-index record { coflow = 0; first = 0; last = 0 } within)
