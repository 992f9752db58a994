use Rattle.lw_lut.proofs.Sorting.{listed_small, listed_moved}
use Rattle.lw_lut.proofs.choosing.by_depth.Goals as goal

pub returns : goal.returns
returns c =
    let depths = c.args.of.now.depths.now in
    let places = c.in_ok-places.places.items in
    let listed = c.in_ok-places.ensures in
    record {
      are = listed_moved depths places c.sort_places.new.places.items c.sort_places.ensures.permutation listed.are;
      sorted = c.sort_places.ensures.sorted (listed_small depths places c.args.of.now.few listed.are) listed.rising;
    }
