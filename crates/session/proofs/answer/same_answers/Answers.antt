use Rattle.session.proofs.Equality.{answers_are_same}
use Rattle.session.proofs.answer.same_answers.Goals as goal

pub returns : goal.returns
returns c = record { test = c.eq.ensures; same = rw c.eq.ensures (answers_are_same c.args.a c.args.b) }
