use Rattle.rules.proofs.Growing.{longer_plan, same_parents}
use Rattle.rules.proofs.guard.GuardTable.add_node.Goals as goal

pub invariant_of-self-clause-known : goal.invariant_of-self-clause-known
invariant_of-self-clause-known c = λ k d l. rw c.add.ensures.leaves (longer_plan _ _ _ _ (c.args.self.now.known k d l))

pub invariant_of-self-clause-fit : goal.invariant_of-self-clause-fit
invariant_of-self-clause-fit c = λ k d l. rw c.add.ensures.leaves (rw (same_parents _ _ _ _ (c.args.self.now.known k d l)) (c.args.self.now.fit k d l))
