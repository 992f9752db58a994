-- The moves of the header and of declarations.
use Rattle.std.proofs.Common.{◌≡◌, List, ◌∷◌, Some}
use Rattle.lw_verilog.specs.declared.kind.Kind.{Kind}
use Rattle.lw_verilog.specs.declared.kind.Kind.TheVariants as kind
use Rattle.lw_verilog.specs.declared.place.Move.{Move}
use Rattle.lw_verilog.specs.declared.place.Place.TheVariants as place
use Rattle.lw_verilog.specs.Grammar.{move_at}
use Rattle.lw_verilog.proofs.Behind.{Left, back, no-move, begin-module, behindinput-comma, behindinput-semicolon, behindmodel-open, behindmodel-semicolon, behindoutput-comma, behindoutput-semicolon, behindport-close, behindport-comma, behindports-semicolon, behindwire-comma, behindwire-semicolon, firstinput-name, firstinput-wire, firstoutput-name, firstoutput-wire, firstport-close, firstport-name, item-assign, item-endmodule, item-input, item-name, item-output, item-wire, modelname-name, nextinput-name, nextoutput-name, nextport-name, nextwire-name}

pub at-begin : (k : Kind) (ks : List Kind) (m : Move) → move_at place.Begin k ≡ Some m → Left m.next ks → Left place.Begin (k ∷ ks)
unfolding move_at
at-begin kind.Gap ks m e left = no-move m e
at-begin kind.Name ks m e left = no-move m e
at-begin kind.Module ks m e left = begin-module ks (back place.ModelName _ m ks e left)
at-begin kind.EndModule ks m e left = no-move m e
at-begin kind.Input ks m e left = no-move m e
at-begin kind.Output ks m e left = no-move m e
at-begin kind.Wire ks m e left = no-move m e
at-begin kind.Assign ks m e left = no-move m e
at-begin kind.Open ks m e left = no-move m e
at-begin kind.Close ks m e left = no-move m e
at-begin kind.Comma ks m e left = no-move m e
at-begin kind.Semicolon ks m e left = no-move m e
at-begin kind.Point ks m e left = no-move m e
at-begin kind.Equals ks m e left = no-move m e
at-begin kind.Strange ks m e left = no-move m e
at-begin kind.Unclosed ks m e left = no-move m e
at-begin kind.End ks m e left = no-move m e

pub at-modelname : (k : Kind) (ks : List Kind) (m : Move) → move_at place.ModelName k ≡ Some m → Left m.next ks → Left place.ModelName (k ∷ ks)
unfolding move_at
at-modelname kind.Gap ks m e left = no-move m e
at-modelname kind.Name ks m e left = modelname-name ks (back place.BehindModel _ m ks e left)
at-modelname kind.Module ks m e left = no-move m e
at-modelname kind.EndModule ks m e left = no-move m e
at-modelname kind.Input ks m e left = no-move m e
at-modelname kind.Output ks m e left = no-move m e
at-modelname kind.Wire ks m e left = no-move m e
at-modelname kind.Assign ks m e left = no-move m e
at-modelname kind.Open ks m e left = no-move m e
at-modelname kind.Close ks m e left = no-move m e
at-modelname kind.Comma ks m e left = no-move m e
at-modelname kind.Semicolon ks m e left = no-move m e
at-modelname kind.Point ks m e left = no-move m e
at-modelname kind.Equals ks m e left = no-move m e
at-modelname kind.Strange ks m e left = no-move m e
at-modelname kind.Unclosed ks m e left = no-move m e
at-modelname kind.End ks m e left = no-move m e

pub at-behindmodel : (k : Kind) (ks : List Kind) (m : Move) → move_at place.BehindModel k ≡ Some m → Left m.next ks → Left place.BehindModel (k ∷ ks)
unfolding move_at
at-behindmodel kind.Gap ks m e left = no-move m e
at-behindmodel kind.Name ks m e left = no-move m e
at-behindmodel kind.Module ks m e left = no-move m e
at-behindmodel kind.EndModule ks m e left = no-move m e
at-behindmodel kind.Input ks m e left = no-move m e
at-behindmodel kind.Output ks m e left = no-move m e
at-behindmodel kind.Wire ks m e left = no-move m e
at-behindmodel kind.Assign ks m e left = no-move m e
at-behindmodel kind.Open ks m e left = behindmodel-open ks (back place.FirstPort _ m ks e left)
at-behindmodel kind.Close ks m e left = no-move m e
at-behindmodel kind.Comma ks m e left = no-move m e
at-behindmodel kind.Semicolon ks m e left = behindmodel-semicolon ks (back place.Item _ m ks e left)
at-behindmodel kind.Point ks m e left = no-move m e
at-behindmodel kind.Equals ks m e left = no-move m e
at-behindmodel kind.Strange ks m e left = no-move m e
at-behindmodel kind.Unclosed ks m e left = no-move m e
at-behindmodel kind.End ks m e left = no-move m e

pub at-firstport : (k : Kind) (ks : List Kind) (m : Move) → move_at place.FirstPort k ≡ Some m → Left m.next ks → Left place.FirstPort (k ∷ ks)
unfolding move_at
at-firstport kind.Gap ks m e left = no-move m e
at-firstport kind.Name ks m e left = firstport-name ks (back place.BehindPort _ m ks e left)
at-firstport kind.Module ks m e left = no-move m e
at-firstport kind.EndModule ks m e left = no-move m e
at-firstport kind.Input ks m e left = no-move m e
at-firstport kind.Output ks m e left = no-move m e
at-firstport kind.Wire ks m e left = no-move m e
at-firstport kind.Assign ks m e left = no-move m e
at-firstport kind.Open ks m e left = no-move m e
at-firstport kind.Close ks m e left = firstport-close ks (back place.BehindPorts _ m ks e left)
at-firstport kind.Comma ks m e left = no-move m e
at-firstport kind.Semicolon ks m e left = no-move m e
at-firstport kind.Point ks m e left = no-move m e
at-firstport kind.Equals ks m e left = no-move m e
at-firstport kind.Strange ks m e left = no-move m e
at-firstport kind.Unclosed ks m e left = no-move m e
at-firstport kind.End ks m e left = no-move m e

pub at-nextport : (k : Kind) (ks : List Kind) (m : Move) → move_at place.NextPort k ≡ Some m → Left m.next ks → Left place.NextPort (k ∷ ks)
unfolding move_at
at-nextport kind.Gap ks m e left = no-move m e
at-nextport kind.Name ks m e left = nextport-name ks (back place.BehindPort _ m ks e left)
at-nextport kind.Module ks m e left = no-move m e
at-nextport kind.EndModule ks m e left = no-move m e
at-nextport kind.Input ks m e left = no-move m e
at-nextport kind.Output ks m e left = no-move m e
at-nextport kind.Wire ks m e left = no-move m e
at-nextport kind.Assign ks m e left = no-move m e
at-nextport kind.Open ks m e left = no-move m e
at-nextport kind.Close ks m e left = no-move m e
at-nextport kind.Comma ks m e left = no-move m e
at-nextport kind.Semicolon ks m e left = no-move m e
at-nextport kind.Point ks m e left = no-move m e
at-nextport kind.Equals ks m e left = no-move m e
at-nextport kind.Strange ks m e left = no-move m e
at-nextport kind.Unclosed ks m e left = no-move m e
at-nextport kind.End ks m e left = no-move m e

pub at-behindport : (k : Kind) (ks : List Kind) (m : Move) → move_at place.BehindPort k ≡ Some m → Left m.next ks → Left place.BehindPort (k ∷ ks)
unfolding move_at
at-behindport kind.Gap ks m e left = no-move m e
at-behindport kind.Name ks m e left = no-move m e
at-behindport kind.Module ks m e left = no-move m e
at-behindport kind.EndModule ks m e left = no-move m e
at-behindport kind.Input ks m e left = no-move m e
at-behindport kind.Output ks m e left = no-move m e
at-behindport kind.Wire ks m e left = no-move m e
at-behindport kind.Assign ks m e left = no-move m e
at-behindport kind.Open ks m e left = no-move m e
at-behindport kind.Close ks m e left = behindport-close ks (back place.BehindPorts _ m ks e left)
at-behindport kind.Comma ks m e left = behindport-comma ks (back place.NextPort _ m ks e left)
at-behindport kind.Semicolon ks m e left = no-move m e
at-behindport kind.Point ks m e left = no-move m e
at-behindport kind.Equals ks m e left = no-move m e
at-behindport kind.Strange ks m e left = no-move m e
at-behindport kind.Unclosed ks m e left = no-move m e
at-behindport kind.End ks m e left = no-move m e

pub at-behindports : (k : Kind) (ks : List Kind) (m : Move) → move_at place.BehindPorts k ≡ Some m → Left m.next ks → Left place.BehindPorts (k ∷ ks)
unfolding move_at
at-behindports kind.Gap ks m e left = no-move m e
at-behindports kind.Name ks m e left = no-move m e
at-behindports kind.Module ks m e left = no-move m e
at-behindports kind.EndModule ks m e left = no-move m e
at-behindports kind.Input ks m e left = no-move m e
at-behindports kind.Output ks m e left = no-move m e
at-behindports kind.Wire ks m e left = no-move m e
at-behindports kind.Assign ks m e left = no-move m e
at-behindports kind.Open ks m e left = no-move m e
at-behindports kind.Close ks m e left = no-move m e
at-behindports kind.Comma ks m e left = no-move m e
at-behindports kind.Semicolon ks m e left = behindports-semicolon ks (back place.Item _ m ks e left)
at-behindports kind.Point ks m e left = no-move m e
at-behindports kind.Equals ks m e left = no-move m e
at-behindports kind.Strange ks m e left = no-move m e
at-behindports kind.Unclosed ks m e left = no-move m e
at-behindports kind.End ks m e left = no-move m e

pub at-item : (k : Kind) (ks : List Kind) (m : Move) → move_at place.Item k ≡ Some m → Left m.next ks → Left place.Item (k ∷ ks)
unfolding move_at
at-item kind.Gap ks m e left = no-move m e
at-item kind.Name ks m e left = item-name ks (back place.InstanceName _ m ks e left)
at-item kind.Module ks m e left = no-move m e
at-item kind.EndModule ks m e left = item-endmodule ks (back place.Done _ m ks e left)
at-item kind.Input ks m e left = item-input ks (back place.FirstInput _ m ks e left)
at-item kind.Output ks m e left = item-output ks (back place.FirstOutput _ m ks e left)
at-item kind.Wire ks m e left = item-wire ks (back place.NextWire _ m ks e left)
at-item kind.Assign ks m e left = item-assign ks (back place.Target _ m ks e left)
at-item kind.Open ks m e left = no-move m e
at-item kind.Close ks m e left = no-move m e
at-item kind.Comma ks m e left = no-move m e
at-item kind.Semicolon ks m e left = no-move m e
at-item kind.Point ks m e left = no-move m e
at-item kind.Equals ks m e left = no-move m e
at-item kind.Strange ks m e left = no-move m e
at-item kind.Unclosed ks m e left = no-move m e
at-item kind.End ks m e left = no-move m e

pub at-firstinput : (k : Kind) (ks : List Kind) (m : Move) → move_at place.FirstInput k ≡ Some m → Left m.next ks → Left place.FirstInput (k ∷ ks)
unfolding move_at
at-firstinput kind.Gap ks m e left = no-move m e
at-firstinput kind.Name ks m e left = firstinput-name ks (back place.BehindInput _ m ks e left)
at-firstinput kind.Module ks m e left = no-move m e
at-firstinput kind.EndModule ks m e left = no-move m e
at-firstinput kind.Input ks m e left = no-move m e
at-firstinput kind.Output ks m e left = no-move m e
at-firstinput kind.Wire ks m e left = firstinput-wire ks (back place.NextInput _ m ks e left)
at-firstinput kind.Assign ks m e left = no-move m e
at-firstinput kind.Open ks m e left = no-move m e
at-firstinput kind.Close ks m e left = no-move m e
at-firstinput kind.Comma ks m e left = no-move m e
at-firstinput kind.Semicolon ks m e left = no-move m e
at-firstinput kind.Point ks m e left = no-move m e
at-firstinput kind.Equals ks m e left = no-move m e
at-firstinput kind.Strange ks m e left = no-move m e
at-firstinput kind.Unclosed ks m e left = no-move m e
at-firstinput kind.End ks m e left = no-move m e

pub at-nextinput : (k : Kind) (ks : List Kind) (m : Move) → move_at place.NextInput k ≡ Some m → Left m.next ks → Left place.NextInput (k ∷ ks)
unfolding move_at
at-nextinput kind.Gap ks m e left = no-move m e
at-nextinput kind.Name ks m e left = nextinput-name ks (back place.BehindInput _ m ks e left)
at-nextinput kind.Module ks m e left = no-move m e
at-nextinput kind.EndModule ks m e left = no-move m e
at-nextinput kind.Input ks m e left = no-move m e
at-nextinput kind.Output ks m e left = no-move m e
at-nextinput kind.Wire ks m e left = no-move m e
at-nextinput kind.Assign ks m e left = no-move m e
at-nextinput kind.Open ks m e left = no-move m e
at-nextinput kind.Close ks m e left = no-move m e
at-nextinput kind.Comma ks m e left = no-move m e
at-nextinput kind.Semicolon ks m e left = no-move m e
at-nextinput kind.Point ks m e left = no-move m e
at-nextinput kind.Equals ks m e left = no-move m e
at-nextinput kind.Strange ks m e left = no-move m e
at-nextinput kind.Unclosed ks m e left = no-move m e
at-nextinput kind.End ks m e left = no-move m e

pub at-behindinput : (k : Kind) (ks : List Kind) (m : Move) → move_at place.BehindInput k ≡ Some m → Left m.next ks → Left place.BehindInput (k ∷ ks)
unfolding move_at
at-behindinput kind.Gap ks m e left = no-move m e
at-behindinput kind.Name ks m e left = no-move m e
at-behindinput kind.Module ks m e left = no-move m e
at-behindinput kind.EndModule ks m e left = no-move m e
at-behindinput kind.Input ks m e left = no-move m e
at-behindinput kind.Output ks m e left = no-move m e
at-behindinput kind.Wire ks m e left = no-move m e
at-behindinput kind.Assign ks m e left = no-move m e
at-behindinput kind.Open ks m e left = no-move m e
at-behindinput kind.Close ks m e left = no-move m e
at-behindinput kind.Comma ks m e left = behindinput-comma ks (back place.NextInput _ m ks e left)
at-behindinput kind.Semicolon ks m e left = behindinput-semicolon ks (back place.Item _ m ks e left)
at-behindinput kind.Point ks m e left = no-move m e
at-behindinput kind.Equals ks m e left = no-move m e
at-behindinput kind.Strange ks m e left = no-move m e
at-behindinput kind.Unclosed ks m e left = no-move m e
at-behindinput kind.End ks m e left = no-move m e

pub at-firstoutput : (k : Kind) (ks : List Kind) (m : Move) → move_at place.FirstOutput k ≡ Some m → Left m.next ks → Left place.FirstOutput (k ∷ ks)
unfolding move_at
at-firstoutput kind.Gap ks m e left = no-move m e
at-firstoutput kind.Name ks m e left = firstoutput-name ks (back place.BehindOutput _ m ks e left)
at-firstoutput kind.Module ks m e left = no-move m e
at-firstoutput kind.EndModule ks m e left = no-move m e
at-firstoutput kind.Input ks m e left = no-move m e
at-firstoutput kind.Output ks m e left = no-move m e
at-firstoutput kind.Wire ks m e left = firstoutput-wire ks (back place.NextOutput _ m ks e left)
at-firstoutput kind.Assign ks m e left = no-move m e
at-firstoutput kind.Open ks m e left = no-move m e
at-firstoutput kind.Close ks m e left = no-move m e
at-firstoutput kind.Comma ks m e left = no-move m e
at-firstoutput kind.Semicolon ks m e left = no-move m e
at-firstoutput kind.Point ks m e left = no-move m e
at-firstoutput kind.Equals ks m e left = no-move m e
at-firstoutput kind.Strange ks m e left = no-move m e
at-firstoutput kind.Unclosed ks m e left = no-move m e
at-firstoutput kind.End ks m e left = no-move m e

pub at-nextoutput : (k : Kind) (ks : List Kind) (m : Move) → move_at place.NextOutput k ≡ Some m → Left m.next ks → Left place.NextOutput (k ∷ ks)
unfolding move_at
at-nextoutput kind.Gap ks m e left = no-move m e
at-nextoutput kind.Name ks m e left = nextoutput-name ks (back place.BehindOutput _ m ks e left)
at-nextoutput kind.Module ks m e left = no-move m e
at-nextoutput kind.EndModule ks m e left = no-move m e
at-nextoutput kind.Input ks m e left = no-move m e
at-nextoutput kind.Output ks m e left = no-move m e
at-nextoutput kind.Wire ks m e left = no-move m e
at-nextoutput kind.Assign ks m e left = no-move m e
at-nextoutput kind.Open ks m e left = no-move m e
at-nextoutput kind.Close ks m e left = no-move m e
at-nextoutput kind.Comma ks m e left = no-move m e
at-nextoutput kind.Semicolon ks m e left = no-move m e
at-nextoutput kind.Point ks m e left = no-move m e
at-nextoutput kind.Equals ks m e left = no-move m e
at-nextoutput kind.Strange ks m e left = no-move m e
at-nextoutput kind.Unclosed ks m e left = no-move m e
at-nextoutput kind.End ks m e left = no-move m e

pub at-behindoutput : (k : Kind) (ks : List Kind) (m : Move) → move_at place.BehindOutput k ≡ Some m → Left m.next ks → Left place.BehindOutput (k ∷ ks)
unfolding move_at
at-behindoutput kind.Gap ks m e left = no-move m e
at-behindoutput kind.Name ks m e left = no-move m e
at-behindoutput kind.Module ks m e left = no-move m e
at-behindoutput kind.EndModule ks m e left = no-move m e
at-behindoutput kind.Input ks m e left = no-move m e
at-behindoutput kind.Output ks m e left = no-move m e
at-behindoutput kind.Wire ks m e left = no-move m e
at-behindoutput kind.Assign ks m e left = no-move m e
at-behindoutput kind.Open ks m e left = no-move m e
at-behindoutput kind.Close ks m e left = no-move m e
at-behindoutput kind.Comma ks m e left = behindoutput-comma ks (back place.NextOutput _ m ks e left)
at-behindoutput kind.Semicolon ks m e left = behindoutput-semicolon ks (back place.Item _ m ks e left)
at-behindoutput kind.Point ks m e left = no-move m e
at-behindoutput kind.Equals ks m e left = no-move m e
at-behindoutput kind.Strange ks m e left = no-move m e
at-behindoutput kind.Unclosed ks m e left = no-move m e
at-behindoutput kind.End ks m e left = no-move m e

pub at-nextwire : (k : Kind) (ks : List Kind) (m : Move) → move_at place.NextWire k ≡ Some m → Left m.next ks → Left place.NextWire (k ∷ ks)
unfolding move_at
at-nextwire kind.Gap ks m e left = no-move m e
at-nextwire kind.Name ks m e left = nextwire-name ks (back place.BehindWire _ m ks e left)
at-nextwire kind.Module ks m e left = no-move m e
at-nextwire kind.EndModule ks m e left = no-move m e
at-nextwire kind.Input ks m e left = no-move m e
at-nextwire kind.Output ks m e left = no-move m e
at-nextwire kind.Wire ks m e left = no-move m e
at-nextwire kind.Assign ks m e left = no-move m e
at-nextwire kind.Open ks m e left = no-move m e
at-nextwire kind.Close ks m e left = no-move m e
at-nextwire kind.Comma ks m e left = no-move m e
at-nextwire kind.Semicolon ks m e left = no-move m e
at-nextwire kind.Point ks m e left = no-move m e
at-nextwire kind.Equals ks m e left = no-move m e
at-nextwire kind.Strange ks m e left = no-move m e
at-nextwire kind.Unclosed ks m e left = no-move m e
at-nextwire kind.End ks m e left = no-move m e

pub at-behindwire : (k : Kind) (ks : List Kind) (m : Move) → move_at place.BehindWire k ≡ Some m → Left m.next ks → Left place.BehindWire (k ∷ ks)
unfolding move_at
at-behindwire kind.Gap ks m e left = no-move m e
at-behindwire kind.Name ks m e left = no-move m e
at-behindwire kind.Module ks m e left = no-move m e
at-behindwire kind.EndModule ks m e left = no-move m e
at-behindwire kind.Input ks m e left = no-move m e
at-behindwire kind.Output ks m e left = no-move m e
at-behindwire kind.Wire ks m e left = no-move m e
at-behindwire kind.Assign ks m e left = no-move m e
at-behindwire kind.Open ks m e left = no-move m e
at-behindwire kind.Close ks m e left = no-move m e
at-behindwire kind.Comma ks m e left = behindwire-comma ks (back place.NextWire _ m ks e left)
at-behindwire kind.Semicolon ks m e left = behindwire-semicolon ks (back place.Item _ m ks e left)
at-behindwire kind.Point ks m e left = no-move m e
at-behindwire kind.Equals ks m e left = no-move m e
at-behindwire kind.Strange ks m e left = no-move m e
at-behindwire kind.Unclosed ks m e left = no-move m e
at-behindwire kind.End ks m e left = no-move m e
