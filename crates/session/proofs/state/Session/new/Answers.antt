use Rattle.std.proofs.Common.{sym, subst, rules}
use Rattle.model.specs.State.{State}
use Rattle.model.proofs.Explains.{every_session_explained}
use Rattle.model.proofs.Progresses.{every_session_progresses}
use Rattle.model.proofs.Consistency.{every_session_consistent}
use Rattle.session.specs.Always.{AlwaysExplained, AlwaysProgresses, AlwaysConsistent}
use Rattle.session.proofs.state.Session.new.Goals as goal

pub returns-clause-starts : goal.returns-clause-starts
returns-clause-starts g c = search rules

pub returns-clause-explained : goal.returns-clause-explained
returns-clause-explained g c =
    let rule = g.R.LockRule.rule c.args.rule in
    let store = g.S.NodeStore.store c.args.store in
    subst (λ (s : State). AlwaysExplained store s) (sym (returns-clause-starts g c)) (every_session_explained rule store)

pub returns-clause-progresses : goal.returns-clause-progresses
returns-clause-progresses g c =
    let rule = g.R.LockRule.rule c.args.rule in
    let store = g.S.NodeStore.store c.args.store in
    subst (λ (s : State). AlwaysProgresses s) (sym (returns-clause-starts g c)) (every_session_progresses rule store)

pub returns-clause-consistent : goal.returns-clause-consistent
returns-clause-consistent g c =
    let rule = g.R.LockRule.rule c.args.rule in
    let store = g.S.NodeStore.store c.args.store in
    subst (λ (s : State). AlwaysConsistent s) (sym (returns-clause-starts g c)) (every_session_consistent rule store)
