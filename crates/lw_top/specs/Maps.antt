-- What a library of cells and a network come to: the text of the netlist that the network is mapped to, or why there is
-- none.
use Rattle.std.specs.Prelude.{ℕ, ◌≡◌, Bool, List, Option, Ok, Err}
use Rattle.lw_fixed.specs.declared.micro.Micro.{Micro}
use Rattle.lw_net.specs.Networks.{NetworkParts}
use Rattle.lw_genlib.specs.Cells.{CellParts}
use Rattle.lw_blif.specs.declared.parsed.Parsed.{Parsed}
use Rattle.lw_netlist.specs.Netlists.{NetlistParts}
use Rattle.lw_mapped.specs.declared.certificate.Certificate.{Certificate}
use Rattle.lw_mapped.specs.Texts.{mapped_text}
use Rattle.lw_map.specs.Options.{Options}
pub use Rattle.lw_map.specs.Certified.{HasCertificate, IsAskedFor}
use Rattle.lw_map.specs.Mapped.{IsMappedNetlist, IsWithinLimits, HasTooManyForms, HasTooManySplits, LacksCover}
use Rattle.lw_top.specs.declared.refusal.Refusal.{Refusal}
use Rattle.lw_top.specs.declared.refusal.Refusal.TheVariants.{Forms, Splits, NoCover}
use Rattle.lw_top.specs.Steps.{Step}

-- the text is that of the netlist that the model is mapped to, with its frame and its starts, and with its certificate
-- where it is asked for
pub record IsMappedText (options : Options) (certified : Bool) (cells : List CellParts) (model : Parsed)
    (text : List ℕ) : Type 0 where
  pub within : IsWithinLimits options model.network
  pub netlist : NetlistParts
  pub is_mapped : IsMappedNetlist options cells model.network model.starts netlist
  pub certificate : Option Certificate
  pub asked : IsAskedFor options cells model.network model.starts netlist is_mapped certified certificate
  pub written : text ≡ mapped_text cells netlist model.frame model.starts certificate

-- why there is no graph of a network's forms
abbrev pub LacksGraph : Options → NetworkParts → Refusal → Type 0
LacksGraph options net Forms = HasTooManyForms options net
LacksGraph options net Splits = HasTooManySplits options net
LacksGraph options net other = ⊥

-- why a network is not mapped
abbrev pub LacksMapping : Options → List CellParts → NetworkParts → List Micro → Refusal → Type 0
LacksMapping options cells net starts (NoCover name) = LacksCover options cells net starts name
LacksMapping options cells net starts other = LacksGraph options net other

-- What the cells and the model come to: the mapped text, or the reason that there is none, whatever the files.
abbrev pub Maps : Options → Bool → List CellParts → Parsed → Step (List ℕ)
Maps options certified cells model files (Ok text) = IsMappedText options certified cells model text
Maps options certified cells model files (Err r) = LacksMapping options cells model.network model.starts r
