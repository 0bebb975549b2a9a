-- The driver's last turn left a beginning of what its root has seen.
use Rattle.std.proofs.Common.{ap, sym, ◌∙◌, subst, drop}
use Rattle.std.proofs.lemmas.List.{take-append-drop}
use Rattle.client_session.specs.Drivers.{GrownByOthers}
use Rattle.client_session.specs.Models.{DriverModel}
use Rattle.client_session.proofs.driver.Driver.into_root.Goals as goal

pub returns : goal.returns
returns c =
    let d = c.self.inside in
    let h = c.self.invariant in
    let v = c.self.view_is in
    record {
      root = record {
        table = ap (λ (m : DriverModel). m.gate) v;
        setting = ap (λ (m : DriverModel). m.setting) v;
        free = h.free;
        none_back = h.none_back;
        made = ap (λ (m : DriverModel). m.made) v;
        position = h.position_is ∙ ap (λ (m : DriverModel). m.position) v;
        grown = subst (λ j. GrownByOthers j d.root.seen) (ap (λ (m : DriverModel). m.journal) v) (drop d.turned d.root.seen, sym (take-append-drop d.turned d.root.seen), h.others);
      };
    }
