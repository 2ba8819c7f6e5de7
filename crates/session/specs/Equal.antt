-- When two replies are equal, and two answers.
use Rattle.std.specs.Prelude.{◌≡◌, Bool, false, Ok, Err, Result, ◌==◌}
use Rattle.std.specs.Ordering.{int_eq}
use Rattle.std.specs.Result.{result_eq}
use Rattle.basics.specs.declared.refusal.Refusal.{Refusal}
use Rattle.basics.specs.Refusals.{code_of}
use Rattle.basics.specs.contracts.refusal.RefusalPartialEq.TheImpl as refusal_eq
use Rattle.session.specs.declared.answer.Reply.{Reply}
use Rattle.session.specs.declared.answer.Reply.TheVariants.{Done, Waiting}

-- two replies of one kind that carry the same number or holder
abbrev pub SameReply : Reply → Reply → Type 0
SameReply (Done x) (Done y) = x ≡ y
SameReply (Done x) (Waiting v) = ⊥
SameReply (Waiting u) (Done y) = ⊥
SameReply (Waiting u) (Waiting v) = u.0 ≡ v.0

-- the same as a test, as `==` answers it
abbrev pub equal_replies : Reply → Reply → Bool
equal_replies (Done x) (Done y) = int_eq x y
equal_replies (Done x) (Waiting v) = false
equal_replies (Waiting u) (Done y) = false
equal_replies (Waiting u) (Waiting v) = u.0 == v.0

-- two answers of one kind: the same reply, or the same cause
abbrev pub SameAnswer : Result Reply Refusal → Result Reply Refusal → Type 0
SameAnswer (Ok a) (Ok b) = SameReply a b
SameAnswer (Ok a) (Err l) = ⊥
SameAnswer (Err k) (Ok b) = ⊥
SameAnswer (Err k) (Err l) = code_of k ≡ code_of l

-- the same as a test, as `==` answers it
abbrev pub equal_answers : Result Reply Refusal → Result Reply Refusal → Bool
equal_answers a b = result_eq equal_replies (refusal_eq.ghosts).eq a b
