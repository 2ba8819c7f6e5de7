use Rattle.std.proofs.Common.{◌≤◌, length, sym, ap, ◌∙◌, arith}
use lib.ListN.{length-map}
use Rattle.scripts_model.specs.Buffer.{scripts_of}
use Rattle.scripts_model.specs.Limits.{numbers, all_below}
use Rattle.scripts_model.proofs.Cursors.{all_counted}
use Rattle.scripts_model.proofs.Starting.{many_steps, many_turns, beyond, within_limits}
use Rattle.scripts.proofs.Admitting.{count_is}
use Rattle.scripts.proofs.Finding.{below_is}
use Rattle.scripts.proofs.start.admit.Goals.{then-steps-before_first-gt-MOST_STEPS-via-then-steps-before_first-gt-MOST_STEPS as by_steps, then-steps-before_first-gt-MOST_STEPS-via-else-steps-before_first-gt-MOST_STEPS+then-turns-gt-MOST_LISTED as by_turns, then-steps-before_first-gt-MOST_STEPS-via-else-steps-before_first-gt-MOST_STEPS+else-turns-gt-MOST_LISTED+then-not-all_below as by_script}
use Rattle.scripts.proofs.start.admit.Goals as goal

pub overflow_sub-steps : goal.overflow_sub-steps
overflow_sub-steps c = omega (arith, c.before_first.ensures, all_counted c.args.steps.now)

pub returns-then-steps-before_first-gt-MOST_STEPS : goal.returns-then-steps-before_first-gt-MOST_STEPS
returns-then-steps-before_first-gt-MOST_STEPS c =
    let es = c.args.steps.now in
    let list = numbers c.args.turns.now in
    let x = rw c.in_ok-found.ensures.ok_part at c.find.ensures in
    let n = count_is es c.in_ok-found.found x in
    let few : length (scripts_of es) ≤ 32 = omega (arith, n, x.few) in
    elim c.then-steps-before_first-gt-MOST_STEPS.branch [
      | by_steps w ↦ many_steps c.args.allowance (scripts_of es) list c.if-allowance-gt-MOST_TURNS.false few
          (omega (arith, c.before_first.ensures, all_counted es, w.if-steps-before_first-gt-MOST_STEPS.true))
      | by_turns w ↦ many_turns c.args.allowance (scripts_of es) list c.if-allowance-gt-MOST_TURNS.false few
          (omega (arith, c.before_first.ensures, all_counted es, w.if-steps-before_first-gt-MOST_STEPS.false))
          (omega (arith, length-map c.args.turns.now (λ t. t.0), w.if-turns-gt-MOST_LISTED.true))
      | by_script w ↦ beyond c.args.allowance (scripts_of es) list c.if-allowance-gt-MOST_TURNS.false few
          (omega (arith, c.before_first.ensures, all_counted es, w.if-steps-before_first-gt-MOST_STEPS.false))
          (omega (arith, length-map c.args.turns.now (λ t. t.0), w.if-turns-gt-MOST_LISTED.false))
          (ap (λ k. all_below k list) (sym n ∙ sym w.count.ensures) ∙ sym (w.if-not-all_below.ensures ∙ below_is _ c.args.turns.now))
    ]

pub returns : goal.returns
returns c =
    let es = c.args.steps.now in
    let list = numbers c.args.turns.now in
    let x = rw c.in_ok-found.ensures.ok_part at c.find.ensures in
    let n = count_is es c.in_ok-found.found x in (
      within_limits c.args.allowance (scripts_of es) list c.if-allowance-gt-MOST_TURNS.false
          (omega (arith, n, x.few))
          (omega (arith, c.before_first.ensures, all_counted es, c.if-steps-before_first-gt-MOST_STEPS.false))
          (omega (arith, length-map c.args.turns.now (λ t. t.0), c.if-turns-gt-MOST_LISTED.false))
          (ap (λ k. all_below k list) (sym n ∙ sym c.count.ensures) ∙ sym (c.if-not-all_below.ensures ∙ below_is _ c.args.turns.now)),
      x,
    )
