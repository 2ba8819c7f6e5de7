-- Guards that cross one another, and one more that is compatible with each of them.
use Rattle.std.proofs.Common.{◌≡◌, ℕ, true, List, [], ◌∷◌, ◌++◌, get_or, arith}
use Rattle.std.specs.List.{All}
use Rattle.std.proofs.lemmas.Bool.{and_parts}
use Rattle.std.proofs.lemmas.List.Elements.{All-push}
use Rattle.std.proofs.lemmas.List.Sums.{AllPass-from_list_all}
use Rattle.std.proofs.lemmas.Bool.Decides.{nat_tests}
use lib.Bits.{and_comm}
use Rattle.rules.specs.declared.guard.Guard.{Guard}
use Rattle.rules.specs.Guards.{fits, crosses, compatible, all_compatible}

-- a guard whose B has members and lies in its A crosses itself
own_cross : (parents : ℕ) (g : Guard) → fits parents g ≡ true → crosses g g ≡ true
own_cross parents g fit = let same = and_comm g.a.mask g.b.mask in grind (arith, nat_tests)

-- every guard crosses every guard
abbrev pub Cross : List Guard → Type 0
Cross gs = All (λ x. All (λ y. crosses x y ≡ true) gs) gs

pub cross_more : (gs : List Guard) (g : Guard) (parents : ℕ) → fits parents g ≡ true → Cross gs → all_compatible g gs ≡ true → Cross (gs ++ (g ∷ []))
cross_more gs g parents fit old all =
    let each = AllPass-from_list_all (compatible g) gs all in
    All-push (λ x. All (λ y. crosses x y ≡ true) (gs ++ (g ∷ []))) gs g
    (λ k d l. All-push (λ y. crosses (get_or gs k d) y ≡ true) gs g (old k d l) (and_parts (crosses g (get_or gs k d)) _ (each k d l)).1)
    (All-push (λ y. crosses g y ≡ true) gs g (λ k d l. (and_parts (crosses g (get_or gs k d)) _ (each k d l)).0) (own_cross parents g fit))
