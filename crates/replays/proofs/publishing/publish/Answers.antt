use Rattle.std.proofs.Common.{◌≡◌, ℕ, ◌+◌, ◌<◌, Bool, List, length, get_or, refl, sym, ap, subst, ◌∙◌, arith}
use Rattle.std.specs.Prelude.{filter, sum}
use Rattle.flow_table.specs.Table.{TableFacts}
use Rattle.epochs.specs.Course.{is_marked}
use Rattle.rankers.specs.Meaning.{Meaning, after_question}
use Rattle.replays.specs.Kept.{FitsTable}
use Rattle.replays.specs.Moments.{published_at}
use Rattle.replays.proofs.Publishings.{asked_facts, fits_again, fits_own, fits_there, is_order, is_published, published_tells, unfit_at}
use Rattle.replays.proofs.Publishes.{may_record_order, recorded_order}
use Rattle.replays.proofs.Running.{units_kept}
use Rattle.replays.specs.Publishing.{told_moment}
use Rattle.replays.proofs.publishing.publish.Goals as goal

pub ask-requires-clause-fits : goal.ask-requires-clause-fits
ask-requires-clause-fits g c =
    let (x, m, at, same, does) = c.requires.may in
    let told = (c.tell.ensures.tells x m at).0 in
    subst (λ (t : TableFacts). FitsTable t c.tell.new.kept.questions.facts.weights c.tell.new.kept.questions) same
    (fits_own x.table x.weights c.tell.new.kept.questions told.tells.fits)

pub ask-requires-clause-each_left : goal.ask-requires-clause-each_left
ask-requires-clause-each_left g c =
    let (x, m, at, same, does) = c.requires.may in
    let told = (c.tell.ensures.tells x m at).0 in
    ap (λ (l : List ℕ). length l) c.deref.ensures.value ∙ told.tells.progress.tallied.each_flow ∙ ap (λ (t : TableFacts). length t.flows) same

pub ask-requires-clause-units : goal.ask-requires-clause-units
ask-requires-clause-units g c =
    let (x, m, at, same, does) = c.requires.may in
    let told = (c.tell.ensures.tells x m at).0 in
    omega (arith, ap (λ (l : List ℕ). sum l) c.deref.ensures.value, units_kept x (told_moment x m) c.tell.new.kept.progress told.input told.tells.progress)

pub ask-requires-clause-each_present : goal.ask-requires-clause-each_present
ask-requires-clause-each_present g c =
    let (x, m, at, same, does) = c.requires.may in
    let told = (c.tell.ensures.tells x m at).0 in
    ap (λ l. length l) c.deref-2.ensures.value ∙ told.tells.each.present ∙ ap (λ (t : TableFacts). length t.ids) same

pub returns-in-Some-clause-publishes : goal.returns-in-Some-clause-publishes
returns-in-Some-clause-publishes g c = λ x m at same does is.
    let (told, asks) = c.tell.ensures.tells x m at in
    let facts = c.ask.new.self.facts in
    let t = told.tells in (
      facts,
      asked_facts x m c.args.table.now c.tell.new.kept.questions.facts.weights c.deref.result.now c.deref-2.result.now facts same t.fits.weights_are c.ask.ensures.facts
          (λ f. ap (λ l. get_or l f 0) c.deref.ensures.value ∙ t.progress.left_is f)
          (λ d. ap (λ l. is_marked l d) c.deref-2.ensures.value ∙ t.marks.present_are d) c.ask.ensures.told,
      unfit_at c.in_ok-place.field-0 c.in-Some.place c.coflows-coflows.result (length x.table.ids) c.deref-3.result.now _ c.in_ok-place.ensures c.in-Some.is
          (c.coflows-coflows.ensures.coflows ∙ ap (λ (t : TableFacts). length t.ids) (sym same))
          (c.deref-3.ensures.value ∙ c.ask.ensures.answer ∙ ap (λ (r : Meaning). r.answer r.held facts) (asks is)),
    )

pub replace-requires : goal.replace-requires
replace-requires g c =
    let (x, m, at, same, does) = c.requires.may in
    let told = (c.tell.ensures.tells x m at).0 in
    let order = is_order c.in_ok-place.field-0 c.coflows-coflows.result c.deref-3.result.now c.in_ok-place.ensures c.in_default.not-Some in
    let lent : c.deref-4.result.now ≡ c.deref-3.result.now = c.deref-4.ensures.value ∙ sym c.deref-3.ensures.value in
    let long = ap (λ (l : List ℕ). length l) lent in
    let each = ap (λ (l : List ℕ). length l) c.deref-3.ensures.value ∙ c.ask.ensures.fits.each_place in
    let marks = ap (λ (l : List Bool). length l) c.deref-5.ensures.value ∙ told.tells.each.present ∙ ap (λ (t : TableFacts). length t.ids) same in
    λ k d lt. subst (λ l. get_or l k d < length c.deref-5.result.now) (sym lent) (omega (arith, order.known k d (omega (arith, lt, long)), each, marks))

pub overflow_add-kept : goal.overflow_add-kept
overflow_add-kept g c =
    let (x, m, at, same, does) = c.requires.may in
    let told = (c.tell.ensures.tells x m at).0 in
    omega (arith, c.ask.ensures.published, told.tells.published, does.applies.1)

pub record_order-requires : goal.record_order-requires
record_order-requires g c =
    let (x, m, at, same, does) = c.requires.may in
    let told = (c.tell.ensures.tells x m at).0 in
    record {
      may = may_record_order x m c.args.table.now c.tell.new.kept c.deref-6.result.now c.deref-7.result.now c.deref-4.result.now told same c.deref-6.ensures.value
          (c.deref-7.ensures.value ∙ c.in_ok-replace.ensures.line ∙
          ap (λ (l : List Bool). filter (is_marked l) c.deref-4.result.now) (c.deref-5.ensures.value ∙ sym c.deref-6.ensures.value));
    }

pub returns-clause-publishes : goal.returns-clause-publishes
returns-clause-publishes g c = λ x m at same does is.
    let (told, asks) = c.tell.ensures.tells x m at in
    let facts = c.ask.new.self.facts in
    let t = told.tells in
    let count : c.coflows-coflows.result ≡ length x.table.ids = c.coflows-coflows.ensures.coflows ∙ ap (λ (t : TableFacts). length t.ids) (sym same) in
    let asked = asked_facts x m c.args.table.now c.tell.new.kept.questions.facts.weights c.deref.result.now c.deref-2.result.now facts same t.fits.weights_are c.ask.ensures.facts
    (λ f. ap (λ l. get_or l f 0) c.deref.ensures.value ∙ t.progress.left_is f) (λ d. ap (λ l. is_marked l d) c.deref-2.ensures.value ∙ t.marks.present_are d) c.ask.ensures.told in
    let order = is_order c.in_ok-place.field-0 c.coflows-coflows.result c.deref-3.result.now c.in_ok-place.ensures c.in_default.not-Some in
    let fits = fits_there x.table c.args.table.now x.weights c.tell.new.kept.questions.facts.weights c.ask.new.self same t.fits.weights_are c.ask.ensures.fits in (
      published_at x m facts,
      is_published x m facts c.deref-3.result.now _ asked (asks is) (c.deref-3.ensures.value ∙ c.ask.ensures.answer) order
          (ap (λ (l : List ℕ). length l) c.deref-3.ensures.value ∙ fits.each_place),
      published_tells x m facts c.tell.new.kept c.replace.new.self _ c.deref-4.result.now c.deref-5.result.now _ _ t (asks is) (c.deref-4.ensures.value ∙ c.ask.ensures.answer)
          c.deref-5.ensures.value c.in_ok-replace.ensures.line c.in_ok-replace.ensures.stale c.in_ok-replace.ensures.grants
          (fits_again x.table x.weights c.ask.new.self _ fits refl refl refl refl) (ap (λ n. n + 1) c.ask.ensures.published)
          (recorded_order x m c.args.table.now c.tell.new.kept c.deref-6.result.now c.deref-7.result.now c.deref-4.result.now told same c.deref-6.ensures.value
          (c.deref-7.ensures.value ∙ c.in_ok-replace.ensures.line ∙
          ap (λ (l : List Bool). filter (is_marked l) c.deref-4.result.now) (c.deref-5.ensures.value ∙ sym c.deref-6.ensures.value)) facts _ _ (asks is)
          (c.deref-4.ensures.value ∙ c.ask.ensures.answer) c.in_ok-record_order.ensures),
      sym (c.ask.ensures.asked ∙ ap (λ (r : Meaning). after_question r facts) (asks is)),
    )
