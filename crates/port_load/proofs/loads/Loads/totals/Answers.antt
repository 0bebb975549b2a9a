use Rattle.std.proofs.Common.{◌≡◌, ◌+◌, ◌<◌, ◌-◌, drop, get_or, length, subst, sym, ap, ◌∙◌, arith}
use Rattle.std.proofs.lemmas.List.{get_or-drop, get_or-take}
use Rattle.coflow_units.specs.declared.fabric.Side.{Side}
use Rattle.coflow_units.specs.declared.fabric.Side.TheVariants.{Ingress, Egress}
use Rattle.port_load.specs.CellTable.{cells_in}
use Rattle.port_load.specs.LoadTable.{LoadTable, total_at}
use Rattle.port_load.proofs.KeptSteps.{total_on}
use Rattle.port_load.proofs.loads.Loads.totals.Goals as goal

pub returns-in-Ingress-clause-totals : goal.returns-in-Ingress-clause-totals
returns-in-Ingress-clause-totals c = λ number lt.
    let s = c.self.inside in
    let now = c.args.self.now in
    let xs = c.deref.result.now in
    let low : number < s.ports = omega (arith, lt, ap (λ (v : LoadTable). v.ports) c.self.view_is) in
    let here : get_or s.totals.items number 0 ≡ total_at now record { side = Ingress; number = number } =
    total_on now s.coflows s.ports (cells_in s.cells) s.totals.items s.by_port s.by_coflow Ingress number c.self.invariant.kept c.self.view_is low in
    get_or-take s.ports xs number 0 low ∙ ap (λ ys. get_or ys number 0) c.deref.ensures.value
    ∙ subst (λ (side : Side). get_or s.totals.items number 0 ≡ total_at now record { side = side; number = number }) (sym c.in-Ingress.is) here

pub returns-in-Egress-clause-totals : goal.returns-in-Egress-clause-totals
returns-in-Egress-clause-totals c = λ number lt.
    let s = c.self.inside in
    let now = c.args.self.now in
    let xs = c.deref-in-Egress.result.now in
    let low : number < s.ports = omega (arith, lt, ap (λ (v : LoadTable). v.ports) c.self.view_is) in
    let size : number < length xs - s.ports = omega (arith, low, ap length c.deref-in-Egress.ensures.value, c.self.invariant.kept.totals_len) in
    let here = total_on now s.coflows s.ports (cells_in s.cells) s.totals.items s.by_port s.by_coflow Egress number c.self.invariant.kept c.self.view_is low in
    get_or-take (length xs - s.ports) (drop s.ports xs) number 0 size ∙ get_or-drop s.ports xs number 0 ∙ ap (λ ys. get_or ys (s.ports + number) 0) c.deref-in-Egress.ensures.value
    ∙ subst (λ (side : Side). get_or s.totals.items (s.ports + number) 0 ≡ total_at now record { side = side; number = number }) (sym c.in-Egress.is) here
