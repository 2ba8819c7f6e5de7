-- What closing a ticket does: a withdraw, which is without effect where the transaction does not wait, and an end.
use Rattle.std.specs.Prelude.{ℕ}
use Rattle.model.specs.Calls.{Answer, withdraw, end}
use Rattle.model.specs.Checks.{answer}
use Rattle.model.specs.State.{State}
use Rattle.model.specs.Step.{after}

-- the session once the transaction t waits no more
abbrev pub withdrawn : State → ℕ → State
withdrawn s t = after s (withdraw t) (answer s (withdraw t))

-- closing is answered as the end is
abbrev pub close_answer : State → ℕ → Answer
close_answer s t = answer (withdrawn s t) (end t)

-- the session after closing
abbrev pub closed : State → ℕ → State
closed s t = after (withdrawn s t) (end t) (close_answer s t)
