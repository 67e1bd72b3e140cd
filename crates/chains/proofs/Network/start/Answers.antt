-- `start` meets its contract: the search that it makes stands at layer 0. Assumes nothing.
use Rattle.chains.proofs.Reaching.{reached_zero}
use Rattle.chains.proofs.Network.start.Goals as goal

pub returns-clause-reached : goal.returns-clause-reached
returns-clause-reached c = reached_zero c.args.self.now _ (cc (c.push.ensures.items, c.new-layer.ensures))
