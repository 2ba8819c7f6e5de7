-- The test of two answers is the relation: a caller that knows `==` by its member alone has this.
use Rattle.std.proofs.Common.{◌≡◌, true, ◌↔◌, Ok, Err, Result, rules}
use Rattle.basics.specs.declared.refusal.Refusal.{Refusal}
use Rattle.session.specs.declared.answer.Reply.{Reply}
use Rattle.session.specs.declared.answer.Reply.TheVariants.{Done, Waiting}
use Rattle.session.specs.Equal.{SameAnswer, equal_answers}

pub answers_are_same : (a b : Result Reply Refusal) → (equal_answers a b ≡ true) ↔ SameAnswer a b
answers_are_same (Ok (Done x)) (Ok (Done y)) = search rules
answers_are_same (Ok (Done x)) (Ok (Waiting v)) = search rules
answers_are_same (Ok (Waiting u)) (Ok (Done y)) = search rules
answers_are_same (Ok (Waiting u)) (Ok (Waiting v)) = search rules
answers_are_same (Ok a) (Err l) = search rules
answers_are_same (Err k) (Ok b) = search rules
answers_are_same (Err k) (Err l) = search rules
