-- What holds of a session whatever is called from here on.
use Rattle.std.specs.Prelude.{List, []}
use Rattle.stores.specs.Store.{Store}
use Rattle.model.specs.Calls.{Call}
use Rattle.model.specs.Consistent.{RunConsistent}
use Rattle.model.specs.Explained.{RunExplained}
use Rattle.model.specs.Progress.{Progress}
use Rattle.model.specs.State.{State}
use Rattle.model.specs.Step.{Run, run}

-- the session s after these calls, with what they were answered
abbrev pub from : State → List Call → Run
from s calls = run (record { state = s; log = [] }) calls

-- after each of them it is explained by its serial order, replayed from the store `first`
abbrev pub AlwaysExplained : Store → State → Type 0
AlwaysExplained first s = (calls : List Call) → RunExplained first (from s calls)

-- it never deadlocks, and a waiting lock can always be tried again
abbrev pub AlwaysProgresses : State → Type 0
AlwaysProgresses s = (calls : List Call) → Progress (from s calls).state

-- its tables agree with one another and with its history
abbrev pub AlwaysConsistent : State → Type 0
AlwaysConsistent s = (calls : List Call) → RunConsistent (from s calls)
