-- `write_solved` meets its contract: every camera has a place (`rooted_places`), and what the three writers leave is put together by
-- the law of `Writing`. Assumes nothing.
use Rattle.placing.specs.Estimate.{chains_in}
use Rattle.placing.specs.Rig.{rig_grid}
use Rattle.placing.proofs.Rooting.{rooted_places}
use Rattle.placing.proofs.Writing.{transforms-written}
use Rattle.placing.proofs.write_solved.Goals as goal

pub write_chains-requires-clause-all_placed : goal.write_chains-requires-clause-all_placed
write_chains-requires-clause-all_placed c =
    rooted_places _ _ c.args.tree.now c.requires.rooted c.args.seen.now.fits.cameras_fit

pub returns-clause-written : goal.returns-clause-written
unfolding rig_grid chains_in
returns-clause-written c =
    record {
      first_written =
          transforms-written _ _ _ c.place_cameras-rig_se3_cam.result _ c.write_cameras.new.answer c.write_targets.new.answer
          c.place_cameras-rig_se3_cam.ensures c.requires.has_room.0 c.write_cameras.ensures c.write_targets.ensures;
      second_written = c.write_chains.ensures;
    }
