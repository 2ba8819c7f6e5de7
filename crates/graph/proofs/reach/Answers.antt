use Rattle.std.proofs.Common.{ltb, arith, pow_pos}
use Rattle.basics.proofs.Masks.{with_larger, with_lt}
use Rattle.graph.proofs.Search.{first, one_more, picked, none_left, ended}
use Rattle.graph.proofs.reach.Goals as goal

pub loop-i-init : goal.loop-i-init
loop-i-init g c = record {
  sofar = first _ _ _ c.empty-followed.ensures.members;
  fits = rw c.empty-followed.ensures.mask (pow_pos g.G.Points.NumberSet.WIDTH);
}

pub loop-i-smaller : goal.loop-i-smaller
loop-i-smaller g c =
    let new = picked _ _ _ _ c.difference.ensures c.in-Some.ensures.member in
    omega (arith, with_larger g.G.Points.NumberSet.WIDTH _ _ c.in-Some.ensures.below new.1, c.with-followed.ensures.mask, c.loop-i.invariant.fits)

pub loop-i-preserved : goal.loop-i-preserved
loop-i-preserved g c =
    let w = g.G.Points.NumberSet.WIDTH in
    let new = picked _ _ _ _ c.difference.ensures c.in-Some.ensures.member in
    record {
      sofar = one_more _ (λ k. ltb k w) _ _ _ _ _ _ _ c.loop-i.invariant.sofar new.0 c.successors.ensures c.union-seen.ensures.members c.with-followed.ensures.members;
      fits = rw c.with-followed.ensures.mask (with_lt w _ _ c.loop-i.invariant.fits);
    }

pub returns : goal.returns
returns g c = ended _ _ _ _ c.loop-i.invariant.sofar (none_left _ _ _ c.difference.ensures c.in_default.ensures.member)
