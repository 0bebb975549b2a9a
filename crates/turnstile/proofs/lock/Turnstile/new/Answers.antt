use Rattle.std.proofs.Common.{rules, ◌≡◌, [], ◌∷◌, Some}
use Rattle.turnstile.proofs.SeatSteps.{starts}
use Rattle.turnstile.proofs.lock.Turnstile.new.Goals as goal

pub new-requires : goal.new-requires
new-requires g c = let one : c.push_reserved.new.self.items ≡ Some c.args.value ∷ [] = search rules in
    rw one (starts g.T.Chronicle.by g.T.Chronicle.entries g.T.Chronicle.setting _ c.args.value c.requires.empty (search rules))
