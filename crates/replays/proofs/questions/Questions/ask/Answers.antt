use Rattle.std.proofs.Common.{ℕ, List, length, refl, ap, ◌∙◌, arith}
use Rattle.coflow_units.proofs.Fronts.{written_back}
use Rattle.rankers.proofs.LeftLoads.{left_of_present}
use Rattle.replays.proofs.questions.Questions.ask.Goals as goal

pub ask-requires : goal.ask-requires
ask-requires g c =
    let is = c.refill.ensures.facts (left_of_present c.args.table.now.flows c.args.left.now c.args.present.now) (λ f lt. refl) in
    omega (arith, ap (λ (l : List ℕ). length l) is.weights_are, c.requires.fits.count, c.requires.fits.each_place, ap (λ (l : List ℕ). length l) c.deref_mut.ensures.value)

pub returns-clause-fits : goal.returns-clause-fits
returns-clause-fits g c =
    let fits = c.requires.fits in
    let is = c.refill.ensures.facts (left_of_present c.args.table.now.flows c.args.left.now c.args.present.now) (λ f lt. refl) in
    record {
      count = fits.count;
      weights_are = is.weights_are;
      arrivals_are = is.arrivals_are;
      ports_are = is.ports_are;
      each_mark = fits.each_mark;
      marked = fits.marked;
      room = omega (arith, fits.room, c.refill.ensures.room);
      each_place = ap (λ (l : List ℕ). length l) (written_back c.args.self.now.answer.len c.ask.new.answer c.args.self.now.answer.items
          (c.ask.auto.answer ∙ c.deref_mut.ensures.len))
          ∙ c.ask.auto.answer ∙ ap (λ (l : List ℕ). length l) c.deref_mut.ensures.value ∙ fits.each_place;
    }
