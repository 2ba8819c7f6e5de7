use Rattle.std.proofs.Common.{[], ◌∷◌, sym, ◌∙◌, append-nil, rules}
use Rattle.runlines.specs.Text.{spelling}
use Rattle.runlines.proofs.Words.{words_more}
use Rattle.runlines.proofs.turns.write_words.Goals as goal

pub returns : goal.returns
returns c =
    let first = spelling c.args.first in
    let second = spelling c.args.second in
    let one = words_more first second [] _ _ (c.starting-line.ensures.front ∙ sym (append-nil first)) c.next.ensures.adds in
    let two = words_more first (spelling c.args.third) (second ∷ []) _ _ one c.next-2.ensures.adds in
    search rules
