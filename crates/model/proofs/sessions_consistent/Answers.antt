use Rattle.model.proofs.Consistency.{every_session_consistent}
use Rattle.model.proofs.sessions_consistent.Goals as goal

pub returns : goal.returns
returns c = every_session_consistent
