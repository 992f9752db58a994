-- Outcomes that are one.
use Rattle.std.specs.Prelude.{◌≡◌, Result, Ok, Err}
use Rattle.lw_mapped.specs.declared.closing.Mapped.{Mapped}
use Rattle.lw_mapped.specs.declared.fault.MappedFault.{MappedFault}
use Rattle.lw_mapped.specs.Certified.{AreSameCertificates}

-- One netlist, one frame, the same starts, and one certificate up to places past its end.
pub record AreSameMapped (a b : Mapped) : Type 0 where
  pub netlist : a.netlist ≡ b.netlist
  pub frame : a.frame ≡ b.frame
  pub starts : a.starts ≡ b.starts
  pub certificates : AreSameCertificates a.cert b.cert

-- Two outcomes are alike: one netlist is read, or one fault comes.
abbrev pub AreSameOutcomes : Result Mapped MappedFault → Result Mapped MappedFault → Type 0
AreSameOutcomes (Ok a) (Ok b) = AreSameMapped a b
AreSameOutcomes (Err e) (Err f) = e ≡ f
AreSameOutcomes (Ok a) (Err f) = ⊥
AreSameOutcomes (Err e) (Ok b) = ⊥
