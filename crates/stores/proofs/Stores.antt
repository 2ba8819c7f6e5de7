-- When two stores are equal.
use Rattle.std.proofs.Common.{◌≡◌, ℕ, ℤ, ap, ◌∙◌}
use mathlib.Core.Path.{fun_ext}
use Rattle.stores.specs.Store.{Store}

pub same_store : (a b : Store) → a.count ≡ b.count → ((n : ℕ) → a.values n ≡ b.values n) → ((n : ℕ) → a.low n ≡ b.low n) → ((n : ℕ) → a.high n ≡ b.high n) → a ≡ b
same_store a b counts values lows highs =
    let made : ℕ → (ℕ → ℤ) → (ℕ → ℤ) → (ℕ → ℤ) → Store = λ c v l h. record { count = c; values = v; low = l; high = h } in
    ap (λ c. made c a.values a.low a.high) counts
    ∙ ap (λ v. made b.count v a.low a.high) (fun_ext values)
    ∙ ap (λ l. made b.count b.values l a.high) (fun_ext lows)
    ∙ ap (λ h. made b.count b.values b.low h) (fun_ext highs)
