use Rattle.std.proofs.Common.{◌≡◌, Bool, true, false, refl, ap, ◌∙◌}
use Rattle.std.specs.Bool.{then_some}
use Rattle.runtext_model.specs.Accepting.{is_some}
use Rattle.runtext.proofs.Cutting.{nothing_left}
use Rattle.runtext.proofs.piece.Rest.end.Goals as goal

some_if : (b : Bool) → is_some (then_some {T = Unit {0}} b tt) ≡ b
some_if true = refl
some_if false = refl

pub returns : goal.returns
returns c = ap is_some c.then_some.ensures ∙ some_if c.is_none.result ∙ nothing_left c.args.self c.is_none.result c.is_none.ensures
