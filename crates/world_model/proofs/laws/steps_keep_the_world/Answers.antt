use Rattle.world_model.proofs.Events.{ask_keeps, close_keeps, draw_keeps, new_is_world, note_keeps, post_keeps, report_keeps, send_keeps, settle_keeps, steps_keep}
use Rattle.world_model.proofs.laws.steps_keep_the_world.Goals as goal

pub returns-clause-first : goal.returns-clause-first
returns-clause-first c = new_is_world

pub returns-clause-ask : goal.returns-clause-ask
returns-clause-ask c = ask_keeps

pub returns-clause-post : goal.returns-clause-post
returns-clause-post c = post_keeps

pub returns-clause-draw : goal.returns-clause-draw
returns-clause-draw c = draw_keeps

pub returns-clause-send : goal.returns-clause-send
returns-clause-send c = send_keeps

pub returns-clause-report : goal.returns-clause-report
returns-clause-report c = report_keeps

pub returns-clause-settle : goal.returns-clause-settle
returns-clause-settle c = settle_keeps

pub returns-clause-note : goal.returns-clause-note
returns-clause-note c = note_keeps

pub returns-clause-close : goal.returns-clause-close
returns-clause-close c = close_keeps

pub returns-clause-list : goal.returns-clause-list
returns-clause-list c = steps_keep
