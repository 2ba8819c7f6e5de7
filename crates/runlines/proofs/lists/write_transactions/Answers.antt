use Rattle.std.proofs.Common.{◌≡◌, [], ◌∷◌, ◌++◌, map, take, codes, decimal, sym, ap, ◌∙◌, arith, rules}
use Rattle.std.specs.List.{flat_map}
use Rattle.std.proofs.lemmas.List.{map_more, take_all}
use Rattle.runlines.specs.Lines.{spaced}
use Rattle.runlines.specs.Text.{text}
use Rattle.runlines.proofs.Words.{words_more}
use Rattle.runlines.proofs.lists.write_transactions.Goals as goal

pub loop-t-preserved : goal.loop-t-preserved
loop-t-preserved c =
    let order = c.args.order.now in
    let i = c.loop-t.t-index in
    let words = map decimal (take i order) in
    let t = c.from.result in (
      words_more (codes "O") (decimal t) words _ _ c.loop-t.invariant.0 c.next.ensures.adds
          ∙ ap (λ x. codes "O" ++ flat_map spaced (words ++ (decimal x ∷ []))) c.from.ensures
          ∙ ap (λ ws. codes "O" ++ flat_map spaced ws) (sym (map_more decimal order i 0 c.loop-t-test.true)),
      omega (arith, c.next.ensures.adds.longer, c.next.ensures.brief, c.loop-t.invariant.1),
    )

pub returns : goal.returns
returns c =
    let order = c.args.order.now in
    let all : text c.loop-t.line ≡ codes "O" ++ flat_map spaced (map decimal order) =
    c.loop-t.invariant.0 ∙ ap (λ ts. codes "O" ++ flat_map spaced (map decimal ts)) (take_all _ order c.loop-t-test.false) in
    search rules
