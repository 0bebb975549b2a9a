use Rattle.std.proofs.Common.{rules, sym, ap, ◌∙◌, refl, eq-eqb, true≢false}
use Rattle.std.proofs.lemmas.Bool.{cond-true}
use Rattle.coflow_units.specs.declared.port_word.PostStage.TheVariants.{Granted}
use Rattle.coflow_units.specs.PortWord.PortStage.{drawn}
use Rattle.coflow_units.proofs.PortWords.{draws_the_word}
use Rattle.port_board.specs.declared.view.View.{View}
use Rattle.port_board.proofs.AgentSteps.{drawing}
use Rattle.port_board.proofs.AgentReports.{reading_length}
use Rattle.port_board.proofs.board.PortBoard.exchange.Goals as goal

pub compare_exchange-found-requires-clause-allowed : goal.compare_exchange-found-requires-clause-allowed
compare_exchange-found-requires-clause-allowed c =
    let at = c.of_bits.ensures.post c.in-Some.post c.in-Some.is in
    let drawn_is = c.bits-drawn.ensures.word (drawn 0) refl ∙ draws_the_word c.args.loaded 0 c.in-Some.post.slot c.in-Some.post.flow c.requires.loaded.1 at.0 at.1 in
    drawing _ _ _ _ _ _ _ _ c.requires.agent (search rules) c.requires.loaded.0 drawn_is

pub load-length-requires-clause-allowed : goal.load-length-requires-clause-allowed
load-length-requires-clause-allowed c =
    let went = ap (λ m. m.0) c.compare_exchange-found.ensures.told.1 ∙ cond-true _ _ _ (eq-eqb _ _ c.if-found-loaded.false) in
    reading_length _ _ _ _ _ _ _ _ (ap (λ (v : View). v.kind) went ∙ c.requires.agent) (ap (λ (v : View). v.step) went) (search rules) (search rules)

pub unreachable-requires : goal.unreachable-requires
unreachable-requires c = true≢false (sym c.requires.loaded.1 ∙ c.of_bits.ensures.none Granted c.in_default.is)
