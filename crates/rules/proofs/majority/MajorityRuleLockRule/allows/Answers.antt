-- what was answered is cited, so that an edit of what is asked is refused at once
use Rattle.std.proofs.Common.{◌≡◌, ℕ, ◌<◌, Bool, true, false, ◌==◌, List, length, sym, ap, ◌∙◌, arith}
use Rattle.std.specs.Prelude.{nat_lt}
use Rattle.std.proofs.lemmas.Bool.{lt-ltb}
use Rattle.plans.specs.declared.plan.Node.{Node}
use Rattle.plans.specs.Meaning.{nodes_of}
use Rattle.rules.specs.Locking.{first_or, most_held, majority_allows}
use Rattle.rules.proofs.majority.MajorityRuleLockRule.allows.Goals as goal

-- once something is locked, a node of the plan is judged by the rule's own condition
after_first : (nodes : List Node) (later : ℕ → ℕ → ℕ → Bool) (n locked held : ℕ) → nat_lt n (length nodes) ≡ true → (locked == 0) ≡ false → first_or nodes later n locked held ≡ later n locked held
after_first nodes later n locked held known some = rw (known, some)

pub returns-else-is_empty : goal.returns-else-is_empty
returns-else-is_empty c =
    let nodes = nodes_of c.args.self.now.plan.now in
    let known : c.args.n.0 < length nodes = omega arith in
    c.most_held.ensures
    ∙ ap (λ m. most_held m c.args.held.mask) c.parents.ensures
    ∙ sym (after_first nodes (majority_allows nodes) c.args.n.0 c.args.locked.mask c.args.held.mask (lt-ltb c.args.n.0 (length nodes) known) (sym c.is_empty.ensures.mask ∙ c.if-is_empty.false))
