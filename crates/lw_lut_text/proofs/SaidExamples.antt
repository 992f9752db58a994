-- What the text of small networks of tables says.
use Rattle.std.proofs.Common.{◌≡◌, ◌^◌, ℕ, true, false, List, [], ◌∷◌, codes, refl}
use Rattle.lw_pool.specs.declared.id.ClassId.{ClassId}
use Rattle.lw_net.specs.declared.draft.DraftNode.{DraftNode}
use Rattle.lw_net.specs.Closing.{closed_node}
use Rattle.lw_lut.specs.Nets.{PlainTableNet}
use Rattle.lw_lut_text.specs.Said.{draft_said, is_wire}

-- the AND of four inputs with the name of an output, and an output that is an input by another name
abbrev and_of_four : PlainTableNet
and_of_four = record {
  ports = record {
    model = codes "m";
    inputs = codes "a" ∷ codes "b" ∷ codes "c" ∷ codes "d" ∷ [];
    outputs = codes "f" ∷ codes "g" ∷ [];
    roots = record { 0 = 12 } ∷ record { 0 = 4 } ∷ [];
  };
  inputs = record { 0 = 2 } ∷ record { 0 = 4 } ∷ record { 0 = 6 } ∷ record { 0 = 8 } ∷ [];
  tables = record { out = record { 0 = 12 }; fanins = record { 0 = 2 } ∷ record { 0 = 4 } ∷ record { 0 = 6 } ∷ record { 0 = 8 } ∷ []; bits = 2 ^ 15 } ∷ [];
  names = codes "f" ∷ [];
}

abbrev and_node : DraftNode
and_node = record { out = codes "f"; fanins = codes "a" ∷ codes "b" ∷ codes "c" ∷ codes "d" ∷ []; rows = codes "1111" ∷ []; on = true }

abbrev wire_to_g : DraftNode
wire_to_g = record { out = codes "g"; fanins = codes "b" ∷ []; rows = codes "1" ∷ []; on = true }

one_row : (draft_said and_of_four).nodes ≡ and_node ∷ wire_to_g ∷ []
one_row = refl

abbrev all_names : List (List ℕ)
all_names = codes "a" ∷ codes "b" ∷ codes "c" ∷ codes "d" ∷ codes "f" ∷ codes "g" ∷ []

wires_are_told : is_wire (closed_node all_names wire_to_g) ≡ true
wires_are_told = refl

-- tables of one fan-in and of none: the fan-in's value, its complement, and true
abbrev of_one : ℕ → List ClassId → PlainTableNet
of_one bits fanins = record {
  ports = record { model = codes "m"; inputs = codes "a" ∷ []; outputs = codes "f" ∷ []; roots = record { 0 = 6 } ∷ [] };
  inputs = record { 0 = 2 } ∷ [];
  tables = record { out = record { 0 = 6 }; fanins = fanins; bits = bits } ∷ [];
  names = codes "f" ∷ [];
}

abbrev buffer_node : DraftNode
buffer_node = record { out = codes "f"; fanins = codes "a" ∷ []; rows = codes "0" ∷ []; on = false }

a_buffer : (draft_said (of_one 2 (record { 0 = 2 } ∷ []))).nodes ≡ buffer_node ∷ []
a_buffer = refl

buffers_are_no_wires : is_wire (closed_node all_names buffer_node) ≡ false
buffers_are_no_wires = refl

an_inverter : (draft_said (of_one 1 (record { 0 = 2 } ∷ []))).nodes ≡ record { out = codes "f"; fanins = codes "a" ∷ []; rows = codes "0" ∷ []; on = true } ∷ []
an_inverter = refl

a_constant : (draft_said (of_one 1 [])).nodes ≡ record { out = codes "f"; fanins = []; rows = [] ∷ []; on = true } ∷ []
a_constant = refl
