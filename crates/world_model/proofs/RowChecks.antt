-- The rows, computed.
use Rattle.std.proofs.Common.{◌≡◌, true≢false, List, length, refl, sym, ap, arith}
use Rattle.journal.specs.declared.command.Entry.{Entry}
use Rattle.journal.specs.Chosen.{the_grants, the_ordering}
use Rattle.world_model.specs.Rows.{Doubled, DrawnTwice, Listed, ListedMakesRun, SendsNothing, Shorts, Strangers, Turns, Unreported}

pub turns : Turns
unfolding the_ordering the_grants
turns = (refl, (refl, (refl, (refl, (refl, (refl, (refl, (refl, (refl, (refl, (refl, (refl, (refl, (refl, (refl, (refl, tt))))))))))))))))

pub shorts : Shorts
unfolding the_ordering the_grants
shorts = (refl, (refl, (refl, (refl, (refl, (refl, (refl, (refl, (refl, (refl, (refl, (refl, (refl, (refl, (refl, (refl, (refl, (refl, (refl, (refl, tt))))))))))))))))))))

pub strangers : Strangers
unfolding the_ordering the_grants
strangers = (refl, (refl, (refl, (refl, (refl, (refl, tt))))))

pub sends_nothing : SendsNothing
unfolding the_ordering the_grants
sends_nothing = (refl, (refl, (refl, (refl, (refl, (refl, (refl, (refl, (refl, tt)))))))))

pub listed : Listed
unfolding the_ordering the_grants
listed = refl

pub listed_makes_run : ListedMakesRun
unfolding the_ordering the_grants
listed_makes_run = record { opening = refl; journal = refl; sent = refl }

pub unreported : Unreported
unfolding the_ordering the_grants
unreported made =
    let e : 3 ≡ 5 = ap (λ (j : List Entry). length j) made.journal in
    absurd (omega (arith, e))

pub drawn_twice : DrawnTwice
unfolding the_ordering the_grants
drawn_twice taken = absurd (true≢false (sym taken.1.1.1.1.0))

pub doubled : Doubled
doubled = (refl, refl, refl, refl, refl, refl, refl)
