use Rattle.std.proofs.Common.{◌<◌, set, length, Option, None, sym, ◌∙◌, subst}
use Rattle.std.proofs.lemmas.List.{get_or_default}
use Rattle.std.proofs.lemmas.Option.{none-some}
use Rattle.crews.proofs.Taking.{PutSoFar, put_free, put_more, put_within}
use Rattle.crews.proofs.wires.put_back.Goals as goal

pub loop-outlet-preserved : goal.loop-outlet-preserved
loop-outlet-preserved g c = record {
  put = subst (λ (z : Option g.row.W.Denot). PutSoFar c.args.wires.now (set c.loop-outlet.wires c.in-Some.outlet.port z) c.args.outlets.now.items c.pop.new.self.items)
      (sym c.replace.ensures.after)
      (put_more c.args.wires.now c.loop-outlet.wires c.args.outlets.now.items c.loop-outlet.outlets.items c.pop.new.self.items c.in-Some.outlet c.loop-outlet.invariant.put
      c.in-Some.ensures.items
      c.requires.distinct c.requires.gone c.requires.within);
  room = c.pop.ensures.capacity ∙ c.loop-outlet.invariant.room;
}

pub unreachable-requires : goal.unreachable-requires
unreachable-requires g c =
    let free = put_free c.args.wires.now c.loop-outlet.wires c.args.outlets.now.items c.loop-outlet.outlets.items c.pop.new.self.items c.in-Some.outlet c.loop-outlet.invariant.put
    c.in-Some.ensures.items
    c.requires.distinct c.requires.gone in
    let within : c.in-Some.outlet.port < length c.loop-outlet.wires =
    put_within c.args.wires.now c.loop-outlet.wires c.args.outlets.now.items c.loop-outlet.outlets.items c.pop.new.self.items c.in-Some.outlet c.loop-outlet.invariant.put
    c.in-Some.ensures.items
    c.requires.within in
    none-some c.in-Some-replace.field-0 (sym free ∙ (get_or_default c.loop-outlet.wires c.in-Some.outlet.port None c.index-wires-port.result within ∙
    (sym c.replace.ensures.value ∙ c.in-Some-replace.is)))
