use Rattle.world_model.specs.declared.event.Event.TheVariants.{Ask, Note}
use Rattle.world_model.proofs.Refusals.{refused_goes}
use Rattle.world_model.proofs.world.World.step.Goals as goal

pub returns-in-Ask-clause-refused : goal.returns-in-Ask-clause-refused
returns-in-Ask-clause-refused c = refused_goes c.args.self.now c.ask.new.self (Ask c.in-Ask.who c.in-Ask.command) c.ask.result c.ask.ensures.answer c.ask.ensures.world

pub returns-in-Note-clause-refused : goal.returns-in-Note-clause-refused
returns-in-Note-clause-refused c = refused_goes c.args.self.now c.note.new.self (Note c.in-Note.port) c.note.result c.note.ensures.answer c.note.ensures.world
