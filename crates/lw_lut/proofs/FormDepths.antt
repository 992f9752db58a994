-- The class of each form that occurs has a depth.
use Rattle.std.proofs.Common.{◌≡◌, ◌≤◌, ℕ, Option, Some, None, refl}
use Rattle.lw_laws.specs.Classes.{IsGraphOf, class_in}
use Rattle.lw_laws.specs.Listings.{IsListed, listing_of}
use Rattle.lw_laws.specs.Forms.{Form}
use Rattle.lw_laws.specs.Graphs.{Graph}
use Rattle.lw_laws.specs.Modes.{Mode}
use Rattle.lw_laws.specs.Networks.{Network}
use Rattle.lw_laws.proofs.GraphEncodes.{graph_trees}
use Rattle.lw_lut.specs.Covers.{IsLeastDepth}

pub some_depth : (mode : Mode) (width : ℕ) (net : Network) (g : Graph) → 2 ≤ width → IsGraphOf mode net.inputs (listing_of width net) g → (most : ℕ) (f : Form) (o : Option ℕ) → IsListed (listing_of width net) f → IsLeastDepth g most (class_in (listing_of width net) g f) o → (d : ℕ) × (o ≡ Some d)
some_depth mode width net g wide is most f (Some d) occurs least = (d, refl)
some_depth mode width net g wide is most f None occurs none =
    let (t, has, again) = (is.classes f f occurs occurs).0 refl in
    absurd (none t ((graph_trees mode width net g wide is f t occurs).1 has))
