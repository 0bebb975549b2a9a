use Rattle.std.proofs.Common.{ℕ, List, length, refl, ap, ◌∙◌}
use Rattle.coflow_units.proofs.Fronts.{written_back}
use Rattle.replays.proofs.Tellings.{told_on}
use Rattle.replays.proofs.publishing.tell.Goals as goal

pub returns-clause-tells : goal.returns-clause-tells
returns-clause-tells g c = λ x m at.
    let old = c.args.kept.now in
    let fits = at.tells.fits in
    let count = ap (λ (l : List ℕ). length l) c.deref_mut.ensures.value ∙ fits.each_place in
    told_on x m old _ (length c.deref_mut.result.now) _ _ at c.if-kept-eq0.false count c.tell_news.ensures.told c.tell_news.ensures.marks c.tell_news.ensures.joined
    c.tell_news.ensures.present refl refl
    (record {
      count = fits.count;
      weights_are = fits.weights_are;
      arrivals_are = fits.arrivals_are;
      ports_are = fits.ports_are;
      each_mark = fits.each_mark;
      marked = fits.marked;
      room = fits.room;
      each_place = ap (λ (l : List ℕ). length l) (written_back old.questions.answer.len c.tell_news.new.order old.questions.answer.items
          (c.tell_news.auto.order ∙ c.deref_mut.ensures.len))
          ∙ c.tell_news.auto.order ∙ count;
    }) refl refl
