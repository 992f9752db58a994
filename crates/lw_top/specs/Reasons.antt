-- The texts of the reasons for which a mapped netlist is no fastest mapping, or has no text in Verilog, and a text in
-- Verilog is refused.
use Rattle.std.specs.Prelude.{ℕ, List, ◌++◌, Option, Some, None, codes, decimal}
use Rattle.lw_fixed.specs.declared.micro.Micro.{Micro}
use Rattle.lw_fixed.specs.Printed.{decimal_text}
use Rattle.lw_check.specs.declared.verdict.Reason.{Reason}
use Rattle.lw_check.specs.declared.verdict.Reason.TheVariants.{Ports, Class, NotMatch, Label, Root, Value}
use Rattle.lw_verilog.specs.declared.fault.VerilogKind.{VerilogKind}
use Rattle.lw_verilog.specs.declared.fault.VerilogKind.TheVariants as verilog
use Rattle.lw_verilog.specs.declared.reason.NoVerilog.{NoVerilog}
use Rattle.lw_verilog.specs.declared.reason.NoVerilog.TheVariants.{Latches, Bytes, Same, Clash, Pins}

-- a label, where there is one
abbrev pub label_text : Option Micro → List ℕ
label_text None = codes "none"
label_text (Some label) = decimal_text label.0

-- a class without a label, or with one above what a match gives
abbrev pub label_reason : ℕ → Option Micro → ℕ → List ℕ
label_reason class label value = codes "label of class "
    ++ (decimal class ++ (codes " is " ++ (label_text label ++ (codes ", a match gives " ++ decimal_text value))))

abbrev pub root_reason : List ℕ → ℕ → ℕ → List ℕ
root_reason name found root =
    codes "output " ++ (name ++ (codes " is of class " ++ (decimal found ++ (codes ", not " ++ decimal root))))

abbrev pub value_reason : List ℕ → ℕ → ℕ → List ℕ
value_reason name arrival label =
    codes "output "
    ++ (name ++ (codes " arrives at " ++ (decimal_text arrival ++ (codes ", its label is " ++ decimal_text label))))

abbrev pub reason_text : Reason → List ℕ
reason_text Ports = codes "ports differ"
reason_text (Class class) = codes "class " ++ (decimal class ++ codes " is not in the graph")
reason_text (NotMatch name) = codes "gate " ++ (name ++ codes " is no match")
reason_text (Label class label value) = label_reason class.0 label value.0
reason_text (Root name found root) = root_reason name found.0 root.0
reason_text (Value name arrival label) = value_reason name arrival.0 label.0

-- why there is no Verilog
abbrev pub no_verilog_text : NoVerilog → List ℕ
no_verilog_text Latches = codes "latches"
no_verilog_text (Bytes name) = codes "name " ++ (name ++ codes " has a byte outside 33 to 126")
no_verilog_text (Same name) = codes "output " ++ (name ++ codes " is an input")
no_verilog_text (Clash name) = codes "model " ++ (name ++ codes " is a cell")
no_verilog_text (Pins name) = codes "cell " ++ (name ++ codes " has one name for two pins")

-- why a line of a text in Verilog is refused
abbrev pub verilog_kind_text : VerilogKind → List ℕ
verilog_kind_text verilog.BadByte = codes "byte not allowed"
verilog_kind_text verilog.BadName = codes "bad name"
verilog_kind_text verilog.Expected = codes "something else expected"
verilog_kind_text verilog.NoCell = codes "no such cell"
verilog_kind_text verilog.PinUnknown = codes "no such pin"
verilog_kind_text verilog.PinTwice = codes "pin given twice"
verilog_kind_text verilog.PinMissing = codes "pin not given"
verilog_kind_text verilog.Port = codes "port not declared once"
