-- The moves of assignments and instances.
use Rattle.std.proofs.Common.{◌≡◌, List, ◌∷◌, Some}
use Rattle.lw_verilog.specs.declared.kind.Kind.{Kind}
use Rattle.lw_verilog.specs.declared.kind.Kind.TheVariants as kind
use Rattle.lw_verilog.specs.declared.place.Move.{Move}
use Rattle.lw_verilog.specs.declared.place.Place.TheVariants as place
use Rattle.lw_verilog.specs.Grammar.{move_at}
use Rattle.lw_verilog.proofs.Behind.{Left, back, no-move, behindinstance-open, behindnet-close, behindpin-open, behindsource-semicolon, behindtarget-equals, behindtie-close, behindtie-comma, behindties-semicolon, firsttie-close, firsttie-point, instancename-name, net-name, nexttie-point, pin-name, source-name, target-name}

pub at-target : (k : Kind) (ks : List Kind) (m : Move) → move_at place.Target k ≡ Some m → Left m.next ks → Left place.Target (k ∷ ks)
unfolding move_at
at-target kind.Gap ks m e left = no-move m e
at-target kind.Name ks m e left = target-name ks (back place.BehindTarget _ m ks e left)
at-target kind.Module ks m e left = no-move m e
at-target kind.EndModule ks m e left = no-move m e
at-target kind.Input ks m e left = no-move m e
at-target kind.Output ks m e left = no-move m e
at-target kind.Wire ks m e left = no-move m e
at-target kind.Assign ks m e left = no-move m e
at-target kind.Open ks m e left = no-move m e
at-target kind.Close ks m e left = no-move m e
at-target kind.Comma ks m e left = no-move m e
at-target kind.Semicolon ks m e left = no-move m e
at-target kind.Point ks m e left = no-move m e
at-target kind.Equals ks m e left = no-move m e
at-target kind.Strange ks m e left = no-move m e
at-target kind.Unclosed ks m e left = no-move m e
at-target kind.End ks m e left = no-move m e

pub at-behindtarget : (k : Kind) (ks : List Kind) (m : Move) → move_at place.BehindTarget k ≡ Some m → Left m.next ks → Left place.BehindTarget (k ∷ ks)
unfolding move_at
at-behindtarget kind.Gap ks m e left = no-move m e
at-behindtarget kind.Name ks m e left = no-move m e
at-behindtarget kind.Module ks m e left = no-move m e
at-behindtarget kind.EndModule ks m e left = no-move m e
at-behindtarget kind.Input ks m e left = no-move m e
at-behindtarget kind.Output ks m e left = no-move m e
at-behindtarget kind.Wire ks m e left = no-move m e
at-behindtarget kind.Assign ks m e left = no-move m e
at-behindtarget kind.Open ks m e left = no-move m e
at-behindtarget kind.Close ks m e left = no-move m e
at-behindtarget kind.Comma ks m e left = no-move m e
at-behindtarget kind.Semicolon ks m e left = no-move m e
at-behindtarget kind.Point ks m e left = no-move m e
at-behindtarget kind.Equals ks m e left = behindtarget-equals ks (back place.Source _ m ks e left)
at-behindtarget kind.Strange ks m e left = no-move m e
at-behindtarget kind.Unclosed ks m e left = no-move m e
at-behindtarget kind.End ks m e left = no-move m e

pub at-source : (k : Kind) (ks : List Kind) (m : Move) → move_at place.Source k ≡ Some m → Left m.next ks → Left place.Source (k ∷ ks)
unfolding move_at
at-source kind.Gap ks m e left = no-move m e
at-source kind.Name ks m e left = source-name ks (back place.BehindSource _ m ks e left)
at-source kind.Module ks m e left = no-move m e
at-source kind.EndModule ks m e left = no-move m e
at-source kind.Input ks m e left = no-move m e
at-source kind.Output ks m e left = no-move m e
at-source kind.Wire ks m e left = no-move m e
at-source kind.Assign ks m e left = no-move m e
at-source kind.Open ks m e left = no-move m e
at-source kind.Close ks m e left = no-move m e
at-source kind.Comma ks m e left = no-move m e
at-source kind.Semicolon ks m e left = no-move m e
at-source kind.Point ks m e left = no-move m e
at-source kind.Equals ks m e left = no-move m e
at-source kind.Strange ks m e left = no-move m e
at-source kind.Unclosed ks m e left = no-move m e
at-source kind.End ks m e left = no-move m e

pub at-behindsource : (k : Kind) (ks : List Kind) (m : Move) → move_at place.BehindSource k ≡ Some m → Left m.next ks → Left place.BehindSource (k ∷ ks)
unfolding move_at
at-behindsource kind.Gap ks m e left = no-move m e
at-behindsource kind.Name ks m e left = no-move m e
at-behindsource kind.Module ks m e left = no-move m e
at-behindsource kind.EndModule ks m e left = no-move m e
at-behindsource kind.Input ks m e left = no-move m e
at-behindsource kind.Output ks m e left = no-move m e
at-behindsource kind.Wire ks m e left = no-move m e
at-behindsource kind.Assign ks m e left = no-move m e
at-behindsource kind.Open ks m e left = no-move m e
at-behindsource kind.Close ks m e left = no-move m e
at-behindsource kind.Comma ks m e left = no-move m e
at-behindsource kind.Semicolon ks m e left = behindsource-semicolon ks (back place.Item _ m ks e left)
at-behindsource kind.Point ks m e left = no-move m e
at-behindsource kind.Equals ks m e left = no-move m e
at-behindsource kind.Strange ks m e left = no-move m e
at-behindsource kind.Unclosed ks m e left = no-move m e
at-behindsource kind.End ks m e left = no-move m e

pub at-instancename : (k : Kind) (ks : List Kind) (m : Move) → move_at place.InstanceName k ≡ Some m → Left m.next ks → Left place.InstanceName (k ∷ ks)
unfolding move_at
at-instancename kind.Gap ks m e left = no-move m e
at-instancename kind.Name ks m e left = instancename-name ks (back place.BehindInstance _ m ks e left)
at-instancename kind.Module ks m e left = no-move m e
at-instancename kind.EndModule ks m e left = no-move m e
at-instancename kind.Input ks m e left = no-move m e
at-instancename kind.Output ks m e left = no-move m e
at-instancename kind.Wire ks m e left = no-move m e
at-instancename kind.Assign ks m e left = no-move m e
at-instancename kind.Open ks m e left = no-move m e
at-instancename kind.Close ks m e left = no-move m e
at-instancename kind.Comma ks m e left = no-move m e
at-instancename kind.Semicolon ks m e left = no-move m e
at-instancename kind.Point ks m e left = no-move m e
at-instancename kind.Equals ks m e left = no-move m e
at-instancename kind.Strange ks m e left = no-move m e
at-instancename kind.Unclosed ks m e left = no-move m e
at-instancename kind.End ks m e left = no-move m e

pub at-behindinstance : (k : Kind) (ks : List Kind) (m : Move) → move_at place.BehindInstance k ≡ Some m → Left m.next ks → Left place.BehindInstance (k ∷ ks)
unfolding move_at
at-behindinstance kind.Gap ks m e left = no-move m e
at-behindinstance kind.Name ks m e left = no-move m e
at-behindinstance kind.Module ks m e left = no-move m e
at-behindinstance kind.EndModule ks m e left = no-move m e
at-behindinstance kind.Input ks m e left = no-move m e
at-behindinstance kind.Output ks m e left = no-move m e
at-behindinstance kind.Wire ks m e left = no-move m e
at-behindinstance kind.Assign ks m e left = no-move m e
at-behindinstance kind.Open ks m e left = behindinstance-open ks (back place.FirstTie _ m ks e left)
at-behindinstance kind.Close ks m e left = no-move m e
at-behindinstance kind.Comma ks m e left = no-move m e
at-behindinstance kind.Semicolon ks m e left = no-move m e
at-behindinstance kind.Point ks m e left = no-move m e
at-behindinstance kind.Equals ks m e left = no-move m e
at-behindinstance kind.Strange ks m e left = no-move m e
at-behindinstance kind.Unclosed ks m e left = no-move m e
at-behindinstance kind.End ks m e left = no-move m e

pub at-firsttie : (k : Kind) (ks : List Kind) (m : Move) → move_at place.FirstTie k ≡ Some m → Left m.next ks → Left place.FirstTie (k ∷ ks)
unfolding move_at
at-firsttie kind.Gap ks m e left = no-move m e
at-firsttie kind.Name ks m e left = no-move m e
at-firsttie kind.Module ks m e left = no-move m e
at-firsttie kind.EndModule ks m e left = no-move m e
at-firsttie kind.Input ks m e left = no-move m e
at-firsttie kind.Output ks m e left = no-move m e
at-firsttie kind.Wire ks m e left = no-move m e
at-firsttie kind.Assign ks m e left = no-move m e
at-firsttie kind.Open ks m e left = no-move m e
at-firsttie kind.Close ks m e left = firsttie-close ks (back place.BehindTies _ m ks e left)
at-firsttie kind.Comma ks m e left = no-move m e
at-firsttie kind.Semicolon ks m e left = no-move m e
at-firsttie kind.Point ks m e left = firsttie-point ks (back place.Pin _ m ks e left)
at-firsttie kind.Equals ks m e left = no-move m e
at-firsttie kind.Strange ks m e left = no-move m e
at-firsttie kind.Unclosed ks m e left = no-move m e
at-firsttie kind.End ks m e left = no-move m e

pub at-nexttie : (k : Kind) (ks : List Kind) (m : Move) → move_at place.NextTie k ≡ Some m → Left m.next ks → Left place.NextTie (k ∷ ks)
unfolding move_at
at-nexttie kind.Gap ks m e left = no-move m e
at-nexttie kind.Name ks m e left = no-move m e
at-nexttie kind.Module ks m e left = no-move m e
at-nexttie kind.EndModule ks m e left = no-move m e
at-nexttie kind.Input ks m e left = no-move m e
at-nexttie kind.Output ks m e left = no-move m e
at-nexttie kind.Wire ks m e left = no-move m e
at-nexttie kind.Assign ks m e left = no-move m e
at-nexttie kind.Open ks m e left = no-move m e
at-nexttie kind.Close ks m e left = no-move m e
at-nexttie kind.Comma ks m e left = no-move m e
at-nexttie kind.Semicolon ks m e left = no-move m e
at-nexttie kind.Point ks m e left = nexttie-point ks (back place.Pin _ m ks e left)
at-nexttie kind.Equals ks m e left = no-move m e
at-nexttie kind.Strange ks m e left = no-move m e
at-nexttie kind.Unclosed ks m e left = no-move m e
at-nexttie kind.End ks m e left = no-move m e

pub at-pin : (k : Kind) (ks : List Kind) (m : Move) → move_at place.Pin k ≡ Some m → Left m.next ks → Left place.Pin (k ∷ ks)
unfolding move_at
at-pin kind.Gap ks m e left = no-move m e
at-pin kind.Name ks m e left = pin-name ks (back place.BehindPin _ m ks e left)
at-pin kind.Module ks m e left = no-move m e
at-pin kind.EndModule ks m e left = no-move m e
at-pin kind.Input ks m e left = no-move m e
at-pin kind.Output ks m e left = no-move m e
at-pin kind.Wire ks m e left = no-move m e
at-pin kind.Assign ks m e left = no-move m e
at-pin kind.Open ks m e left = no-move m e
at-pin kind.Close ks m e left = no-move m e
at-pin kind.Comma ks m e left = no-move m e
at-pin kind.Semicolon ks m e left = no-move m e
at-pin kind.Point ks m e left = no-move m e
at-pin kind.Equals ks m e left = no-move m e
at-pin kind.Strange ks m e left = no-move m e
at-pin kind.Unclosed ks m e left = no-move m e
at-pin kind.End ks m e left = no-move m e

pub at-behindpin : (k : Kind) (ks : List Kind) (m : Move) → move_at place.BehindPin k ≡ Some m → Left m.next ks → Left place.BehindPin (k ∷ ks)
unfolding move_at
at-behindpin kind.Gap ks m e left = no-move m e
at-behindpin kind.Name ks m e left = no-move m e
at-behindpin kind.Module ks m e left = no-move m e
at-behindpin kind.EndModule ks m e left = no-move m e
at-behindpin kind.Input ks m e left = no-move m e
at-behindpin kind.Output ks m e left = no-move m e
at-behindpin kind.Wire ks m e left = no-move m e
at-behindpin kind.Assign ks m e left = no-move m e
at-behindpin kind.Open ks m e left = behindpin-open ks (back place.Net _ m ks e left)
at-behindpin kind.Close ks m e left = no-move m e
at-behindpin kind.Comma ks m e left = no-move m e
at-behindpin kind.Semicolon ks m e left = no-move m e
at-behindpin kind.Point ks m e left = no-move m e
at-behindpin kind.Equals ks m e left = no-move m e
at-behindpin kind.Strange ks m e left = no-move m e
at-behindpin kind.Unclosed ks m e left = no-move m e
at-behindpin kind.End ks m e left = no-move m e

pub at-net : (k : Kind) (ks : List Kind) (m : Move) → move_at place.Net k ≡ Some m → Left m.next ks → Left place.Net (k ∷ ks)
unfolding move_at
at-net kind.Gap ks m e left = no-move m e
at-net kind.Name ks m e left = net-name ks (back place.BehindNet _ m ks e left)
at-net kind.Module ks m e left = no-move m e
at-net kind.EndModule ks m e left = no-move m e
at-net kind.Input ks m e left = no-move m e
at-net kind.Output ks m e left = no-move m e
at-net kind.Wire ks m e left = no-move m e
at-net kind.Assign ks m e left = no-move m e
at-net kind.Open ks m e left = no-move m e
at-net kind.Close ks m e left = no-move m e
at-net kind.Comma ks m e left = no-move m e
at-net kind.Semicolon ks m e left = no-move m e
at-net kind.Point ks m e left = no-move m e
at-net kind.Equals ks m e left = no-move m e
at-net kind.Strange ks m e left = no-move m e
at-net kind.Unclosed ks m e left = no-move m e
at-net kind.End ks m e left = no-move m e

pub at-behindnet : (k : Kind) (ks : List Kind) (m : Move) → move_at place.BehindNet k ≡ Some m → Left m.next ks → Left place.BehindNet (k ∷ ks)
unfolding move_at
at-behindnet kind.Gap ks m e left = no-move m e
at-behindnet kind.Name ks m e left = no-move m e
at-behindnet kind.Module ks m e left = no-move m e
at-behindnet kind.EndModule ks m e left = no-move m e
at-behindnet kind.Input ks m e left = no-move m e
at-behindnet kind.Output ks m e left = no-move m e
at-behindnet kind.Wire ks m e left = no-move m e
at-behindnet kind.Assign ks m e left = no-move m e
at-behindnet kind.Open ks m e left = no-move m e
at-behindnet kind.Close ks m e left = behindnet-close ks (back place.BehindTie _ m ks e left)
at-behindnet kind.Comma ks m e left = no-move m e
at-behindnet kind.Semicolon ks m e left = no-move m e
at-behindnet kind.Point ks m e left = no-move m e
at-behindnet kind.Equals ks m e left = no-move m e
at-behindnet kind.Strange ks m e left = no-move m e
at-behindnet kind.Unclosed ks m e left = no-move m e
at-behindnet kind.End ks m e left = no-move m e

pub at-behindtie : (k : Kind) (ks : List Kind) (m : Move) → move_at place.BehindTie k ≡ Some m → Left m.next ks → Left place.BehindTie (k ∷ ks)
unfolding move_at
at-behindtie kind.Gap ks m e left = no-move m e
at-behindtie kind.Name ks m e left = no-move m e
at-behindtie kind.Module ks m e left = no-move m e
at-behindtie kind.EndModule ks m e left = no-move m e
at-behindtie kind.Input ks m e left = no-move m e
at-behindtie kind.Output ks m e left = no-move m e
at-behindtie kind.Wire ks m e left = no-move m e
at-behindtie kind.Assign ks m e left = no-move m e
at-behindtie kind.Open ks m e left = no-move m e
at-behindtie kind.Close ks m e left = behindtie-close ks (back place.BehindTies _ m ks e left)
at-behindtie kind.Comma ks m e left = behindtie-comma ks (back place.NextTie _ m ks e left)
at-behindtie kind.Semicolon ks m e left = no-move m e
at-behindtie kind.Point ks m e left = no-move m e
at-behindtie kind.Equals ks m e left = no-move m e
at-behindtie kind.Strange ks m e left = no-move m e
at-behindtie kind.Unclosed ks m e left = no-move m e
at-behindtie kind.End ks m e left = no-move m e

pub at-behindties : (k : Kind) (ks : List Kind) (m : Move) → move_at place.BehindTies k ≡ Some m → Left m.next ks → Left place.BehindTies (k ∷ ks)
unfolding move_at
at-behindties kind.Gap ks m e left = no-move m e
at-behindties kind.Name ks m e left = no-move m e
at-behindties kind.Module ks m e left = no-move m e
at-behindties kind.EndModule ks m e left = no-move m e
at-behindties kind.Input ks m e left = no-move m e
at-behindties kind.Output ks m e left = no-move m e
at-behindties kind.Wire ks m e left = no-move m e
at-behindties kind.Assign ks m e left = no-move m e
at-behindties kind.Open ks m e left = no-move m e
at-behindties kind.Close ks m e left = no-move m e
at-behindties kind.Comma ks m e left = no-move m e
at-behindties kind.Semicolon ks m e left = behindties-semicolon ks (back place.Item _ m ks e left)
at-behindties kind.Point ks m e left = no-move m e
at-behindties kind.Equals ks m e left = no-move m e
at-behindties kind.Strange ks m e left = no-move m e
at-behindties kind.Unclosed ks m e left = no-move m e
at-behindties kind.End ks m e left = no-move m e

pub at-done : (k : Kind) (ks : List Kind) (m : Move) → move_at place.Done k ≡ Some m → Left m.next ks → Left place.Done (k ∷ ks)
unfolding move_at
at-done kind.Gap ks m e left = no-move m e
at-done kind.Name ks m e left = no-move m e
at-done kind.Module ks m e left = no-move m e
at-done kind.EndModule ks m e left = no-move m e
at-done kind.Input ks m e left = no-move m e
at-done kind.Output ks m e left = no-move m e
at-done kind.Wire ks m e left = no-move m e
at-done kind.Assign ks m e left = no-move m e
at-done kind.Open ks m e left = no-move m e
at-done kind.Close ks m e left = no-move m e
at-done kind.Comma ks m e left = no-move m e
at-done kind.Semicolon ks m e left = no-move m e
at-done kind.Point ks m e left = no-move m e
at-done kind.Equals ks m e left = no-move m e
at-done kind.Strange ks m e left = no-move m e
at-done kind.Unclosed ks m e left = no-move m e
at-done kind.End ks m e left = no-move m e
