use Rattle.model.proofs.Served.{serving_answers}
use Rattle.roll.proofs.held.Roll.serving.Goals as goal

pub returns-clause-serves : goal.returns-clause-serves
returns-clause-serves c = λ low high. rw (c.nearest.ensures, c.readings.ensures) (serving_answers _ _ _ c.args.self.now.rising)
