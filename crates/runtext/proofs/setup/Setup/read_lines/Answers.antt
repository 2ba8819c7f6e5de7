use Rattle.std.proofs.Common.{◌+◌, sym, ap, ◌∙◌, arith}
use Rattle.runtext_model.specs.Pieces.{pieces}
use Rattle.runtext_model.specs.Reading.{read_lines}
use Rattle.runtext.specs.Counting.{turn_count}
use Rattle.runtext.specs.Of.{description_of}
use Rattle.runtext.proofs.LineByLine.{line_taken, line_refused, kept_later, last_description, left_refused}
use Rattle.runtext.proofs.setup.Setup.read_lines.Goals as goal

pub invariant_of-left : goal.invariant_of-left
invariant_of-left c = record { within = c.loop-piece.invariant.4 }

pub returns-in-Err : goal.returns-in-Err
returns-in-Err c =
    let at = c.loop-piece in
    let (same, steps, turns, few, within) = at.invariant in
    let d = description_of at.self at.steps at.turns in
    let e = c.in-Err.refusal in
    let t = c.in-Err.ensures in
    let told = sym same ∙ line_refused _ c.in-Some.piece c.in-Some.next c.in-Some.ensures d at.line e t.answers in
    record {
      answers = sym (ap (λ o. o.fault) told);
      leaves = record {
        described = t.leaves ∙ left_refused d _ e t.answers ∙ sym (ap (λ o. o.description) told);
        kept_steps = kept_later at.self.steps _ _ at.steps _ t.more_steps t.kept_steps steps;
        kept_turns = kept_later (turn_count at.self.turns) _ _ at.turns _ t.more_turns t.kept_turns turns;
      };
    }

pub loop-piece-preserved : goal.loop-piece-preserved
loop-piece-preserved c =
    let at = c.loop-piece in
    let (same, steps, turns, few, within) = at.invariant in
    let d = description_of at.self at.steps at.turns in
    let t = c.in_default-take_line.ensures in
    let halves = c.in-Some.ensures in
    let next = c.in-Some.next in (
      ap (λ x. read_lines x (at.line + 1) next.part.at (pieces 10 next.part.bytes.now)) t.leaves
          ∙ line_taken _ c.in-Some.piece next halves d at.line t.answers ∙ same,
      kept_later at.self.steps _ _ at.steps _ t.more_steps t.kept_steps steps,
      kept_later (turn_count at.self.turns) _ _ at.turns _ t.more_turns t.kept_turns turns,
      omega (arith, few, halves.onward),
      next.within,
    )

pub returns : goal.returns
returns c =
    let at = c.loop-piece in
    let (same, steps, turns, few, within) = at.invariant in
    let d = description_of at.self at.steps at.turns in
    let told = sym same ∙ ap (read_lines d at.line at.left.0.at) c.in_default.ensures in
    record {
      answers = c.last_piece.ensures at.steps at.turns ∙ sym (ap (λ o. o.fault) told);
      leaves = record {
        described = sym (ap (λ o. o.description) told ∙ last_description d at.line at.left.0.at _);
        kept_steps = steps;
        kept_turns = turns;
      };
    }
