use Rattle.std.proofs.Common.{◌∙◌, ◌++◌, ◌<◌, List, length, map, drop, ap, get_or, arith, append-nil, subst, sym}
use Rattle.std.specs.Prelude.{None}
use Rattle.std.proofs.lemmas.List.{drop_all, get_or_default, take_all}
use Rattle.std.proofs.lemmas.List.Edits.{map_over_more}
use Rattle.world_model.specs.declared.port.PortState.{PortState}
use Rattle.world_model.specs.declared.port.Stage.TheVariants.{Unposted}
use Rattle.world_model.specs.Port.{ports_of}
use Rattle.world_model.specs.Kept.{TellsSent}
use Rattle.world_model.proofs.Fields.{cleared_is}
use Rattle.world_model.proofs.Tallies.{tells_cleared, unsettled}
use Rattle.world_model.proofs.world.clear_settled.Goals as goal

pub loop-port-preserved : goal.loop-port-preserved
loop-port-preserved c =
    let xs = c.args.ports.now in
    let ys = c.loop-port.port-items in
    let k = c.loop-port.port-index in
    let d : PortState = record { slot = 0; flow = 0; stage = Unposted; count = 0; settled = None; sent = 0 } in
    let low : k < length ys = omega (arith, c.loop-port-test.true, c.loop-port.auto.port-items) in
    map_over_more unsettled xs ys k (get_or ys k d) c.loop-port-test.true c.loop-port.invariant (get_or_default ys k d (get_or ys k d) low)

pub returns-clause-ports : goal.returns-clause-ports
returns-clause-ports c =
    let xs = c.args.ports.now in
    let k = c.loop-port.port-index in
    ap (λ (l : List PortState). ports_of l)
    (c.loop-port.invariant ∙ ap (λ (l : List PortState). map unsettled l ++ drop k xs) (take_all k xs c.loop-port-test.false) ∙
    ap (λ (l : List PortState). map unsettled xs ++ l) (drop_all k xs c.loop-port-test.false) ∙ append-nil (map unsettled xs))
    ∙ cleared_is xs

pub returns-clause-sent : goal.returns-clause-sent
returns-clause-sent c = λ sent tells.
    let xs = c.args.ports.now in
    let k = c.loop-port.port-index in
    let all = c.loop-port.invariant ∙ ap (λ (l : List PortState). map unsettled l ++ drop k xs) (take_all k xs c.loop-port-test.false) ∙
    ap (λ (l : List PortState). map unsettled xs ++ l) (drop_all k xs c.loop-port-test.false) ∙ append-nil (map unsettled xs) in
    subst (λ (l : List PortState). TellsSent l sent) (sym all) (tells_cleared xs sent tells)
