-- The rule that a choice among rules stands for.
use Rattle.rules.specs.declared.any.AnyRule.{AnyRule}
use Rattle.rules.specs.declared.any.AnyRule.TheVariants.{Tree, Majority, Guards}
use Rattle.rules.specs.GuardRules.{guard_rule}
use Rattle.rules.specs.PlanRules.{tree_rule, majority_rule}
use Rattle.rules.specs.Rule.{Rule}

abbrev pub any_rule : AnyRule → Rule
any_rule (Tree r) = tree_rule r.plan.now
any_rule (Majority r) = majority_rule r.plan.now
any_rule (Guards r) = guard_rule r.table.now
