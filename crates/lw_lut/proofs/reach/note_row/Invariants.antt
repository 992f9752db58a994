use Rattle.std.proofs.Common.{take}
use Rattle.lw_lut.specs.Reaches.{AreGrown, AreSeen}
use Rattle.lw_lut.proofs.reach.note_row.Given as goal

abbrev pub invariant-loop-pair : goal.invariant-loop-pair
invariant-loop-pair l = record {
  grown : AreGrown l.fn.reach.items l.reach.items;
  noted : AreSeen l.reach.items l.fn.class.0 (take l.pair-index l.row);
}
