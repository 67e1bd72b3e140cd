-- `probe_product` meets its contract: what its check refuses, or the product, written in front. Assumes nothing.
use Rattle.test_probe.proofs.Replies.{replied_refused, replied_written}
use Rattle.test_probe.proofs.probe_product.Goals as goal

pub returns-in-Err : goal.returns-in-Err
returns-in-Err c = replied_refused c.check_poses.ensures c.in-Err.is c.refusal_code.ensures

pub returns : goal.returns
returns c = replied_written c.check_poses.ensures c.in_default.is (rw c.product_of.ensures at c.write.ensures)
