-- What a session and its answers mean.
use Rattle.std.specs.Prelude.{Ok, Err, Result}
use Rattle.rules.specs.Rule.{Rule}
use Rattle.stores.specs.Store.{Store}
use Rattle.model.specs.State.{State}
use Rattle.model.specs.Calls as calls
use Rattle.basics.specs.declared.refusal.Refusal.{Refusal}
use Rattle.session.specs.declared.answer.Reply.{Reply}
use Rattle.session.specs.declared.answer.Reply.TheVariants.{Done, Waiting}
use Rattle.session.specs.declared.state.Session.{Session}

-- a session's fields, with the meanings of its rule and its store. No `impl Model`: a clause would then see this state
-- alone, which does not keep the rule and the store that `into_parts` gives back
abbrev pub model_of : {R S : Type 0} → (R → Rule) → (S → Store) → Session R S → State
model_of rule store s = record {
  begun = s.begun;
  records = s.records;
  holders = s.holders;
  lockers = s.lockers;
  earlier = s.earlier;
  rule = rule s.rule;
  store = store s.store;
}

-- an answer in the model's words
abbrev pub answer_of : Result Reply Refusal → calls.Answer
answer_of (Ok (Done x)) = calls.done x
answer_of (Ok (Waiting u)) = calls.waiting u.0
answer_of (Err k) = calls.refused k
