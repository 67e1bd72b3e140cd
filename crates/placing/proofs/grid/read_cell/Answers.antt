-- `read_cell` meets its contract: the shifted mask's lowest digit is the view's bit. Assumes nothing.
use mathlib.Core.Path.{sym, ◌∙◌}
use borrow.Author.Tests.{eq-eqb, ne_eqb}
use lib.Bits.{and_mask}
use Rattle.lists.specs.Masks.{in_mask}
use Rattle.placing.specs.Rig.{masked_cell}
use Rattle.placing.proofs.grid.read_cell.Goals as goal

pub returns-then-mask-view-eq1 : goal.returns-then-mask-view-eq1
unfolding masked_cell in_mask
returns-then-mask-view-eq1 c =
    simp (c.read.ensures, eq-eqb _ _ (sym (and_mask _ 1) ∙ c.if-mask-view-eq1.true))

pub returns-else-mask-view-eq1 : goal.returns-else-mask-view-eq1
unfolding masked_cell in_mask
returns-else-mask-view-eq1 c =
    simp (ne_eqb _ _ (λ e. c.if-mask-view-eq1.false (and_mask _ 1 ∙ e)))
