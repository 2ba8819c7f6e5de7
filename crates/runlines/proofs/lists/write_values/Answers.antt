use Rattle.std.proofs.Common.{ℕ, ◌≤◌, List, [], ◌∷◌, ◌++◌, map, length, codes, sym, ap, ◌∙◌, arith, w32, SFits, rules}
use Rattle.std.specs.List.{range_with_len, flat_map}
use Rattle.std.specs.Fmt.{signed_decimal}
use Rattle.std.proofs.lemmas.List.FromFn.{map-range_with_len_more}
use Rattle.std.proofs.lemmas.Int.{to_z-of_z}
use Rattle.runlines.specs.Lines.{spaced}
use Rattle.runlines.specs.Text.{Added}
use Rattle.runlines.proofs.Adding.{brief_small}
use Rattle.runlines.proofs.Words.{words_more}
use Rattle.runlines.proofs.lists.write_values.Goals as goal

pub loop-n-preserved : goal.loop-n-preserved
loop-n-preserved g c =
    let store = g.S.NodeStore.store c.args.store.now in
    let n = c.loop-n.n in
    let f : ℕ → List ℕ = λ k. signed_decimal (store.values k) in
    let z = c.value.result in
    let fits : SFits w32 z = search rules in
    let adds : Added c.loop-n.line c.next.new.self (spaced (signed_decimal z)) = simp to_z-of_z at c.next.ensures.adds in
    let brief : length (signed_decimal z) ≤ 6 = simp c.value.ensures (brief_small _ ((g.S.NodeStore.lawful c.args.store.now).small_value _)) in (
      words_more (codes "V") (signed_decimal z) (map f (range_with_len 0 n)) _ _ c.loop-n.invariant.0 adds
          ∙ ap (λ x. codes "V" ++ flat_map spaced (map f (range_with_len 0 n) ++ (signed_decimal x ∷ []))) c.value.ensures
          ∙ ap (λ ws. codes "V" ++ flat_map spaced ws) (sym (map-range_with_len_more f 0 n n (omega arith))),
      omega (arith, adds.longer, brief, c.loop-n.invariant.1),
    )

pub finish-requires : goal.finish-requires
finish-requires g c = omega (arith, c.loop-n.invariant.1, (g.S.NodeStore.lawful c.args.store.now).few)
