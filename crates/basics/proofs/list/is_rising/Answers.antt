use Rattle.std.proofs.Common.{◌≡◌, ltb, rules, tests}
use Rattle.std.proofs.lemmas.Fn.{always_returns_same}
use Rattle.basics.proofs.Listing.{rising_answer}
use Rattle.basics.proofs.list.is_rising.Goals as goal

pub returns : goal.returns
returns g c =
    let number = g.T.Numbered.number in
    rising_answer number c.args.list.now _ (c.is_sorted_by.ensures.cases (λ x y. ltb (number x) (number y)) (always_returns_same _ (λ a r. r ≡ ltb (number a.0.now) (number a.1.0.now)) _ (λ a r f k. search (rules, tests))))
