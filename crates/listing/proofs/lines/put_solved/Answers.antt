-- `listing::lines::put_solved` meets its contract: the ok line, the cameras' lines and the views', one behind the other. Assumes nothing.
use Rattle.listing.specs.Listing.{solved_text}
use Rattle.putting.proofs.Putting.{puts_then}
use Rattle.listing.proofs.lines.put_solved.Goals as goal

pub returns : goal.returns
unfolding solved_text
returns c = puts_then c.put_ok.ensures.put (puts_then c.put_cameras.ensures.put c.put_views.ensures)
