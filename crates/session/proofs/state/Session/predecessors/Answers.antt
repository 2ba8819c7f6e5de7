use Rattle.std.proofs.Common.{◌≡◌, ℕ, ◌^◌, ◌<◌, slice_index_or, sym, ap, ◌∙◌, subst, inl, inr, arith, pow_pos, rules}
use Rattle.std.proofs.lemmas.List.{get_or_past}
use Rattle.std.proofs.lemmas.Bool.{cases_lt, cond-false, le-ltb}
use Rattle.model.specs.Order.{predecessors}
use Rattle.model.specs.State.{transactions, begun_count}
use Rattle.session.specs.Of.{model_of}
use Rattle.session.proofs.Tables.{made_at}
use Rattle.session.proofs.state.Session.predecessors.Goals as goal

pub returns : goal.returns
returns g c =
    let m = model_of g.R.LockRule.rule g.S.NodeStore.store c.args.self.now in
    let sets = c.from_fn.result in
    let mask : ℕ → ℕ = λ t. (slice_index_or sets t (transactions 0)).mask in
    let right : (t : ℕ) → (mask t ≡ predecessors m t) × (mask t < 2 ^ 32) = λ t. elim (cases_lt t 32) [
      | inl l ↦ made_at _ _ (λ i y. (y.mask ≡ predecessors m i) × (y.mask < 2 ^ 32)) (λ i y q k. search rules) 32 0 sets c.from_fn.ensures.items.each t (transactions 0) (omega arith) (omega arith)
      | inr p ↦
          let past : mask t ≡ 0 = ap (λ s. s.mask) (get_or_past sets t (transactions 0) (omega (arith, c.from_fn.ensures.items.long))) in
          let none : predecessors m t ≡ 0 = cond-false _ _ _ (le-ltb t (begun_count m) (omega arith)) in
          (past ∙ sym none, subst (λ x. x < 2 ^ 32) (sym past) (pow_pos 32))
    ] in
    record { reports = λ t. (right t).0; long = c.from_fn.ensures.items.long; small = λ t. (right t).1 }
