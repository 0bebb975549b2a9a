use Rattle.picture.proofs.policies_bars.push_tick.Goals as goal

pub returns : goal.returns
returns c =
    let t = c.args.text.now.items in
    rw c.power_of_two.ensures at c.in_ok-push_power_tick.ensures
