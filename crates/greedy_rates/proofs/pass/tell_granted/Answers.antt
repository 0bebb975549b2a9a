-- Each listed flow stands at an ingress.
use Rattle.std.proofs.Common.{◌<◌, length, take}
use Rattle.coflow_units.proofs.Sums.{all_of_members}
use Rattle.greedy_rates.proofs.pass.tell_granted.Goals as goal

pub least_left-length-requires : goal.least_left-length-requires
least_left-length-requires c =
    all_of_members (λ f. f < length c.args.left.now) (take c.list_granted-count.result c.list_granted-count.new.listed)
    (λ f has. let (p, lt, e) = c.list_granted-count.ensures.listing.from f has in c.requires.flows p f e)
