-- Texts of small netlists, computed.
use Rattle.std.proofs.Common.{◌≡◌, ℕ, List, [], ◌∷◌, None, refl}
use Rattle.std.specs.Prelude.{codes}
use Rattle.lw_fixed.specs.declared.micro.Micro.{Micro}
use Rattle.lw_pool.specs.declared.latch.Frame.{Frame}
use Rattle.lw_genlib.specs.Cells.{CellParts}
use Rattle.lw_netlist.specs.Netlists.{NetlistParts}
use Rattle.lw_mapped.specs.Texts.{mapped_text}

abbrev cell_of : List ℕ → List (List ℕ) → CellParts
cell_of name pins = record { name = name; area = record { 0 = 0 }; output = codes "O"; pins = pins; delays = []; forms = [] }

-- a file with so many inputs and outputs, and no latches
abbrev plain_frame : ℕ → ℕ → Frame
plain_frame inputs outputs = record { inputs = inputs; outputs = outputs; latches = [] }

abbrev cells : List CellParts
cells = cell_of (codes "inv") (codes "a" ∷ []) ∷ cell_of (codes "nand3") (codes "a" ∷ codes "b" ∷ codes "c" ∷ []) ∷ []

-- the And of three inputs
abbrev and_3 : NetlistParts
and_3 = record {
  model = codes "and3";
  names = codes "a" ∷ codes "b" ∷ codes "c" ∷ codes "n1" ∷ codes "f" ∷ [];
  inputs = 3;
  gates = record { cell = record { 0 = 1 }; pins = record { 0 = 0 } ∷ record { 0 = 1 } ∷ record { 0 = 2 } ∷ []; out = record { 0 = 3 } }
      ∷ record { cell = record { 0 = 0 }; pins = record { 0 = 3 } ∷ []; out = record { 0 = 4 } }
      ∷ [];
  outputs = record { name = codes "f"; net = record { 0 = 4 } } ∷ [];
}

text_of_and_3 : mapped_text cells and_3 (plain_frame 3 1) [] None ≡ codes ".model and3\n.inputs a b c\n.outputs f\n.gate nand3 a=a b=b c=c O=n1\n.gate inv a=n1 O=f\n.end\n"
text_of_and_3 = refl

-- an input that two outputs are
abbrev twice : NetlistParts
twice = record { model = codes "m"; names = codes "a" ∷ []; inputs = 1; gates = []; outputs = record { name = codes "f"; net = record { 0 = 0 } } ∷ record { name = codes "a"; net = record { 0 = 0 } } ∷ [] }

text_of_twice : mapped_text cells twice (plain_frame 1 2) [] None ≡ codes ".model m\n.inputs a\n.outputs f a\n.names a f\n1 1\n.end\n"
text_of_twice = refl

-- an inverter between a latch's output and its input
abbrev toggle : NetlistParts
toggle = record {
  model = codes "t";
  names = codes "en" ∷ codes "q" ∷ codes "d" ∷ [];
  inputs = 2;
  gates = record { cell = record { 0 = 0 }; pins = record { 0 = 1 } ∷ []; out = record { 0 = 2 } } ∷ [];
  outputs = record { name = codes "q"; net = record { 0 = 1 } } ∷ record { name = codes "d"; net = record { 0 = 2 } } ∷ [];
}

abbrev toggle_frame : Frame
toggle_frame = record {
  inputs = 1;
  outputs = 1;
  latches = record { input = codes "d"; output = codes "q"; rest = codes "re" ∷ codes "en" ∷ codes "0" ∷ [] } ∷ [];
}

abbrev toggle_starts : List Micro
toggle_starts = record { 0 = 0 } ∷ record { 0 = 0 } ∷ []

text_of_toggle : mapped_text cells toggle toggle_frame toggle_starts None ≡ codes ".model t\n.inputs en\n.outputs q\n.latch d q re en 0\n.gate inv a=q O=d\n.end\n"
text_of_toggle = refl
