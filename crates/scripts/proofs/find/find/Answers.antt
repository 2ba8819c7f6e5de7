use Rattle.std.proofs.Common.{◌≡◌, length, arith, rules}
use Rattle.scripts.proofs.Finding.{one_too_many}
use Rattle.scripts.proofs.find.find.Goals as goal
use Rattle.scripts.proofs.find.find.Goals.{in-End, in_default}

pub returns-in_err-ok : goal.returns-in_err-ok
returns-in_err-ok c =
    let l = c.loop-i in
    let ok = c.ok.ensures in
    let full : length l.places.items ≡ 32 = search rules in
    elim c.match-matches.branch [
      | in-End w ↦
          let more = one_too_many c.args.steps.now l.i c.loop-i-test.true l.places.items l.invariant.found w.in-End.is in
          rw c.from_residual.ensures (omega arith)
      | in_default w ↦ search rules
    ]
