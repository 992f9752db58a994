-- What the table takes, the grammar derives.
use Rattle.std.proofs.Common.{◌≡◌, List, [], ◌∷◌, Some, refl, sym, subst}
use Rattle.lw_verilog.specs.declared.kind.Kind.{Kind}
use Rattle.lw_verilog.specs.declared.place.Move.{Move}
use Rattle.lw_verilog.specs.declared.place.Place.{Place}
use Rattle.lw_verilog.specs.declared.place.Place.TheVariants as place
use Rattle.lw_verilog.specs.Grammar.{move_at}
use Rattle.lw_verilog.specs.Phrases.{Accepts, Derives, Runs, file}
use Rattle.lw_verilog.proofs.Behind.{Left}
use Rattle.lw_verilog.proofs.HeaderMoves.{at-begin, at-behindinput, at-behindmodel, at-behindoutput, at-behindport, at-behindports, at-behindwire, at-firstinput, at-firstoutput, at-firstport, at-item, at-modelname, at-nextinput, at-nextoutput, at-nextport, at-nextwire}
use Rattle.lw_verilog.proofs.ItemMoves.{at-behindinstance, at-behindnet, at-behindpin, at-behindsource, at-behindtarget, at-behindtie, at-behindties, at-done, at-firsttie, at-instancename, at-net, at-nexttie, at-pin, at-source, at-target}

any-move : (p : Place) (k : Kind) (ks : List Kind) (m : Move) → move_at p k ≡ Some m → Left m.next ks → Left p (k ∷ ks)
any-move place.Begin k ks m e left = at-begin k ks m e left
any-move place.ModelName k ks m e left = at-modelname k ks m e left
any-move place.BehindModel k ks m e left = at-behindmodel k ks m e left
any-move place.FirstPort k ks m e left = at-firstport k ks m e left
any-move place.NextPort k ks m e left = at-nextport k ks m e left
any-move place.BehindPort k ks m e left = at-behindport k ks m e left
any-move place.BehindPorts k ks m e left = at-behindports k ks m e left
any-move place.Item k ks m e left = at-item k ks m e left
any-move place.FirstInput k ks m e left = at-firstinput k ks m e left
any-move place.NextInput k ks m e left = at-nextinput k ks m e left
any-move place.BehindInput k ks m e left = at-behindinput k ks m e left
any-move place.FirstOutput k ks m e left = at-firstoutput k ks m e left
any-move place.NextOutput k ks m e left = at-nextoutput k ks m e left
any-move place.BehindOutput k ks m e left = at-behindoutput k ks m e left
any-move place.NextWire k ks m e left = at-nextwire k ks m e left
any-move place.BehindWire k ks m e left = at-behindwire k ks m e left
any-move place.Target k ks m e left = at-target k ks m e left
any-move place.BehindTarget k ks m e left = at-behindtarget k ks m e left
any-move place.Source k ks m e left = at-source k ks m e left
any-move place.BehindSource k ks m e left = at-behindsource k ks m e left
any-move place.InstanceName k ks m e left = at-instancename k ks m e left
any-move place.BehindInstance k ks m e left = at-behindinstance k ks m e left
any-move place.FirstTie k ks m e left = at-firsttie k ks m e left
any-move place.NextTie k ks m e left = at-nexttie k ks m e left
any-move place.Pin k ks m e left = at-pin k ks m e left
any-move place.BehindPin k ks m e left = at-behindpin k ks m e left
any-move place.Net k ks m e left = at-net k ks m e left
any-move place.BehindNet k ks m e left = at-behindnet k ks m e left
any-move place.BehindTie k ks m e left = at-behindtie k ks m e left
any-move place.BehindTies k ks m e left = at-behindties k ks m e left
any-move place.Done k ks m e left = at-done k ks m e left

left-told : (tokens : List Kind) (p : Place) → Runs p tokens place.Done → Left p tokens
left-told [] p e = subst (λ q. Left q []) (sym e) refl
left-told (k ∷ tokens) p (m, e, run) = any-move p k tokens m e (left-told tokens m.next run)

pub accepted-derived : (tokens : List Kind) → Accepts tokens → Derives file tokens
accepted-derived tokens run = left-told tokens place.Begin run
