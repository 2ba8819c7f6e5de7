use Rattle.std.proofs.Common.{◌≡◌, true, false, ltb, length, get_or, sym, refl, ◌∙◌, arith, rules}
use Rattle.std.proofs.lemmas.Bool.{ltb-true, ltb-false}
use Rattle.runtext.proofs.Wording.{is_one, not_capital, word_number, word_long, word_none}
use Rattle.runtext.proofs.word.word_of.Goals as goal
use Rattle.runtext.proofs.word.word_of.Goals.{in_default-via-then-part-lt1, in_default-via-else-part-lt1+then-this-lt2+in_default+then-this-lt65, in_default-via-else-part-lt1+then-this-lt2+in_default+else-this-lt65+else-this-lt91, in_default-via-else-part-lt1+else-this-lt2}

pub returns-then-is_some : goal.returns-then-is_some
returns-then-is_some c =
    let bs = c.args.part.bytes.now in
    let t = is_one bs c.number.result true c.number.ensures.is (sym c.is_some.ensures ∙ c.if-is_some.true) in
    (word_number bs t, t, refl)

pub returns-in_default : goal.returns-in_default
returns-in_default c =
    let bs = c.args.part.bytes.now in
    let b = get_or bs 0 0 in
    let t = is_one bs c.number.result false c.number.ensures.is (sym c.is_some.ensures ∙ c.if-is_some.false) in
    elim c.in_default.branch [
      | in_default-via-then-part-lt1 w ↦
          let few : ltb (length bs) 1 ≡ true = search rules in
          word_long bs t (λ e. omega (arith, ltb-true (length bs) 1 few))
      | in_default-via-else-part-lt1+then-this-lt2+in_default+then-this-lt65 w ↦
          let some : ltb (length bs) 1 ≡ false = search rules in
          let few : ltb (length bs) 2 ≡ true = search rules in
          let low : ltb b 65 ≡ true = search rules in
          word_none bs t (omega (arith, ltb-false (length bs) 1 some, ltb-true (length bs) 2 few)) (not_capital b (λ l. omega (arith, ltb-true b 65 low))) (λ e. omega arith)
      | in_default-via-else-part-lt1+then-this-lt2+in_default+else-this-lt65+else-this-lt91 w ↦
          let some : ltb (length bs) 1 ≡ false = search rules in
          let few : ltb (length bs) 2 ≡ true = search rules in
          let high : ltb b 91 ≡ false = search rules in
          word_none bs t (omega (arith, ltb-false (length bs) 1 some, ltb-true (length bs) 2 few)) (not_capital b (λ l. omega (arith, ltb-false b 91 high))) (λ e. omega arith)
      | in_default-via-else-part-lt1+else-this-lt2 w ↦
          let many : ltb (length bs) 2 ≡ false = search rules in
          word_long bs t (λ e. omega (arith, ltb-false (length bs) 2 many))
    ]
