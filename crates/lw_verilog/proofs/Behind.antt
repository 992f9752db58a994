-- What is left of a text behind each place, as phrases, and each move.
use Rattle.std.proofs.Common.{◌≡◌, inl, inr, List, [], ◌∷◌, Option, None, Some, refl, ap, sym, subst}
use Rattle.lw_verilog.specs.declared.kind.Kind.{Kind}
use Rattle.lw_verilog.specs.declared.kind.Kind.TheVariants as kind
use Rattle.lw_verilog.specs.declared.place.Move.{Move}
use Rattle.lw_verilog.specs.declared.place.Place.{Place}
use Rattle.lw_verilog.specs.declared.place.Place.TheVariants as place
use Rattle.lw_verilog.specs.declared.place.Task.{Task}
use Rattle.lw_verilog.specs.Grammar.{moved}
use Rattle.lw_verilog.specs.Phrases.{Derives, connections, further_connections, further_names, in_order, item, name, names, ports}
use Rattle.lw_verilog.specs.Phrases.Phrase.{many, optional, token}
use Rattle.lw_verilog.specs.Phrases.Repeats.{stop, again}

abbrev pub Left : Place → List Kind → Type 0
Left place.Begin tokens = Derives (in_order (token kind.Module) (name ∷ optional ports ∷ token kind.Semicolon ∷ many item ∷ token kind.EndModule ∷ [])) tokens
Left place.ModelName tokens = Derives (in_order name (optional ports ∷ token kind.Semicolon ∷ many item ∷ token kind.EndModule ∷ [])) tokens
Left place.BehindModel tokens = Derives (in_order (optional ports) (token kind.Semicolon ∷ many item ∷ token kind.EndModule ∷ [])) tokens
Left place.FirstPort tokens = Derives (in_order (optional names) (token kind.Close ∷ token kind.Semicolon ∷ many item ∷ token kind.EndModule ∷ [])) tokens
Left place.NextPort tokens = Derives (in_order names (token kind.Close ∷ token kind.Semicolon ∷ many item ∷ token kind.EndModule ∷ [])) tokens
Left place.BehindPort tokens = Derives (in_order further_names (token kind.Close ∷ token kind.Semicolon ∷ many item ∷ token kind.EndModule ∷ [])) tokens
Left place.BehindPorts tokens = Derives (in_order (token kind.Semicolon) (many item ∷ token kind.EndModule ∷ [])) tokens
Left place.Item tokens = Derives (in_order (many item) (token kind.EndModule ∷ [])) tokens
Left place.FirstInput tokens = Derives (in_order (optional (token kind.Wire)) (names ∷ token kind.Semicolon ∷ many item ∷ token kind.EndModule ∷ [])) tokens
Left place.NextInput tokens = Derives (in_order names (token kind.Semicolon ∷ many item ∷ token kind.EndModule ∷ [])) tokens
Left place.BehindInput tokens = Derives (in_order further_names (token kind.Semicolon ∷ many item ∷ token kind.EndModule ∷ [])) tokens
Left place.FirstOutput tokens = Derives (in_order (optional (token kind.Wire)) (names ∷ token kind.Semicolon ∷ many item ∷ token kind.EndModule ∷ [])) tokens
Left place.NextOutput tokens = Derives (in_order names (token kind.Semicolon ∷ many item ∷ token kind.EndModule ∷ [])) tokens
Left place.BehindOutput tokens = Derives (in_order further_names (token kind.Semicolon ∷ many item ∷ token kind.EndModule ∷ [])) tokens
Left place.NextWire tokens = Derives (in_order names (token kind.Semicolon ∷ many item ∷ token kind.EndModule ∷ [])) tokens
Left place.BehindWire tokens = Derives (in_order further_names (token kind.Semicolon ∷ many item ∷ token kind.EndModule ∷ [])) tokens
Left place.Target tokens = Derives (in_order name (token kind.Equals ∷ name ∷ token kind.Semicolon ∷ many item ∷ token kind.EndModule ∷ [])) tokens
Left place.BehindTarget tokens = Derives (in_order (token kind.Equals) (name ∷ token kind.Semicolon ∷ many item ∷ token kind.EndModule ∷ [])) tokens
Left place.Source tokens = Derives (in_order name (token kind.Semicolon ∷ many item ∷ token kind.EndModule ∷ [])) tokens
Left place.BehindSource tokens = Derives (in_order (token kind.Semicolon) (many item ∷ token kind.EndModule ∷ [])) tokens
Left place.InstanceName tokens = Derives (in_order name (token kind.Open ∷ optional connections ∷ token kind.Close ∷ token kind.Semicolon ∷ many item ∷ token kind.EndModule ∷ [])) tokens
Left place.BehindInstance tokens = Derives (in_order (token kind.Open) (optional connections ∷ token kind.Close ∷ token kind.Semicolon ∷ many item ∷ token kind.EndModule ∷ [])) tokens
Left place.FirstTie tokens = Derives (in_order (optional connections) (token kind.Close ∷ token kind.Semicolon ∷ many item ∷ token kind.EndModule ∷ [])) tokens
Left place.NextTie tokens = Derives (in_order connections (token kind.Close ∷ token kind.Semicolon ∷ many item ∷ token kind.EndModule ∷ [])) tokens
Left place.Pin tokens = Derives (in_order name (token kind.Open ∷ name ∷ token kind.Close ∷ further_connections ∷ token kind.Close ∷ token kind.Semicolon ∷ many item ∷ token kind.EndModule ∷ [])) tokens
Left place.BehindPin tokens = Derives (in_order (token kind.Open) (name ∷ token kind.Close ∷ further_connections ∷ token kind.Close ∷ token kind.Semicolon ∷ many item ∷ token kind.EndModule ∷ [])) tokens
Left place.Net tokens = Derives (in_order name (token kind.Close ∷ further_connections ∷ token kind.Close ∷ token kind.Semicolon ∷ many item ∷ token kind.EndModule ∷ [])) tokens
Left place.BehindNet tokens = Derives (in_order (token kind.Close) (further_connections ∷ token kind.Close ∷ token kind.Semicolon ∷ many item ∷ token kind.EndModule ∷ [])) tokens
Left place.BehindTie tokens = Derives (in_order further_connections (token kind.Close ∷ token kind.Semicolon ∷ many item ∷ token kind.EndModule ∷ [])) tokens
Left place.BehindTies tokens = Derives (in_order (token kind.Semicolon) (many item ∷ token kind.EndModule ∷ [])) tokens
Left place.Done tokens = tokens ≡ []

-- behind the move that is made
pub back : (next : Place) (t : Task) (m : Move) (ks : List Kind) → moved next t ≡ Some m → Left m.next ks → Left next ks
back next t m ks e left = let same : next ≡ m.next = cc in subst (λ p. Left p ks) (sym same) left

-- Each move.

pub begin-module : (ks : List Kind) → Left place.ModelName ks → Left place.Begin (kind.Module ∷ ks)
begin-module ks rest = (ks, refl, rest)

pub modelname-name : (ks : List Kind) → Left place.BehindModel ks → Left place.ModelName (kind.Name ∷ ks)
modelname-name ks rest = (ks, refl, rest)

pub behindmodel-open : (ks : List Kind) → Left place.FirstPort ks → Left place.BehindModel (kind.Open ∷ ks)
behindmodel-open ks (a, ns, (b, e, rest)) = (b, inr (ks, refl, (a, ns, e)), rest)

pub behindmodel-semicolon : (ks : List Kind) → Left place.Item ks → Left place.BehindModel (kind.Semicolon ∷ ks)
behindmodel-semicolon ks rest = (_, inl refl, (ks, refl, rest))

pub firstport-name : (ks : List Kind) → Left place.BehindPort ks → Left place.FirstPort (kind.Name ∷ ks)
firstport-name ks (a, more, rest) = (a, inr (ks, refl, more), rest)

pub firstport-close : (ks : List Kind) → Left place.BehindPorts ks → Left place.FirstPort (kind.Close ∷ ks)
firstport-close ks rest = (_, inl refl, (ks, refl, rest))

pub nextport-name : (ks : List Kind) → Left place.BehindPort ks → Left place.NextPort (kind.Name ∷ ks)
nextport-name ks (a, more, rest) = (a, (ks, refl, more), rest)

pub behindport-comma : (ks : List Kind) → Left place.NextPort ks → Left place.BehindPort (kind.Comma ∷ ks)
behindport-comma ks (a, (b, e, more), rest) = (a, again (ks, refl, e) more, rest)

pub behindport-close : (ks : List Kind) → Left place.BehindPorts ks → Left place.BehindPort (kind.Close ∷ ks)
behindport-close ks rest = (_, stop refl, (ks, refl, rest))

pub behindports-semicolon : (ks : List Kind) → Left place.Item ks → Left place.BehindPorts (kind.Semicolon ∷ ks)
behindports-semicolon ks rest = (ks, refl, rest)

pub item-name : (ks : List Kind) → Left place.InstanceName ks → Left place.Item (kind.Name ∷ ks)
item-name ks (a, e, (b, f, (c, cs, (d, g, (h, i, (j, items, rest)))))) = (j, again (inr (inr (inr (ks, refl, (a, e, (b, f, (c, cs, (d, g, i)))))))) items, rest)

pub item-input : (ks : List Kind) → Left place.FirstInput ks → Left place.Item (kind.Input ∷ ks)
item-input ks (a, w, (b, ns, (c, e, (d, items, rest)))) = (d, again (inl (ks, inl refl, (a, w, (b, ns, e)))) items, rest)

pub item-output : (ks : List Kind) → Left place.FirstOutput ks → Left place.Item (kind.Output ∷ ks)
item-output ks (a, w, (b, ns, (c, e, (d, items, rest)))) = (d, again (inl (ks, inr refl, (a, w, (b, ns, e)))) items, rest)

pub item-wire : (ks : List Kind) → Left place.NextWire ks → Left place.Item (kind.Wire ∷ ks)
item-wire ks (b, ns, (c, e, (d, items, rest))) = (d, again (inr (inl (ks, refl, (b, ns, e)))) items, rest)

pub item-assign : (ks : List Kind) → Left place.Target ks → Left place.Item (kind.Assign ∷ ks)
item-assign ks (a, e, (b, f, (c, g, (d, h, (i, items, rest))))) = (i, again (inr (inr (inl (ks, refl, (a, e, (b, f, (c, g, h))))))) items, rest)

pub item-endmodule : (ks : List Kind) → Left place.Done ks → Left place.Item (kind.EndModule ∷ ks)
item-endmodule ks rest = (_, stop refl, ap (λ l. kind.EndModule ∷ l) rest)

pub firstinput-name : (ks : List Kind) → Left place.BehindInput ks → Left place.FirstInput (kind.Name ∷ ks)
firstinput-name ks (a, more, rest) = (_, inl refl, (a, (ks, refl, more), rest))

pub firstinput-wire : (ks : List Kind) → Left place.NextInput ks → Left place.FirstInput (kind.Wire ∷ ks)
firstinput-wire ks rest = (ks, inr refl, rest)

pub nextinput-name : (ks : List Kind) → Left place.BehindInput ks → Left place.NextInput (kind.Name ∷ ks)
nextinput-name ks (a, more, rest) = (a, (ks, refl, more), rest)

pub behindinput-comma : (ks : List Kind) → Left place.NextInput ks → Left place.BehindInput (kind.Comma ∷ ks)
behindinput-comma ks (a, (b, e, more), rest) = (a, again (ks, refl, e) more, rest)

pub behindinput-semicolon : (ks : List Kind) → Left place.Item ks → Left place.BehindInput (kind.Semicolon ∷ ks)
behindinput-semicolon ks rest = (_, stop refl, (ks, refl, rest))

pub firstoutput-name : (ks : List Kind) → Left place.BehindOutput ks → Left place.FirstOutput (kind.Name ∷ ks)
firstoutput-name ks (a, more, rest) = (_, inl refl, (a, (ks, refl, more), rest))

pub firstoutput-wire : (ks : List Kind) → Left place.NextOutput ks → Left place.FirstOutput (kind.Wire ∷ ks)
firstoutput-wire ks rest = (ks, inr refl, rest)

pub nextoutput-name : (ks : List Kind) → Left place.BehindOutput ks → Left place.NextOutput (kind.Name ∷ ks)
nextoutput-name ks (a, more, rest) = (a, (ks, refl, more), rest)

pub behindoutput-comma : (ks : List Kind) → Left place.NextOutput ks → Left place.BehindOutput (kind.Comma ∷ ks)
behindoutput-comma ks (a, (b, e, more), rest) = (a, again (ks, refl, e) more, rest)

pub behindoutput-semicolon : (ks : List Kind) → Left place.Item ks → Left place.BehindOutput (kind.Semicolon ∷ ks)
behindoutput-semicolon ks rest = (_, stop refl, (ks, refl, rest))

pub nextwire-name : (ks : List Kind) → Left place.BehindWire ks → Left place.NextWire (kind.Name ∷ ks)
nextwire-name ks (a, more, rest) = (a, (ks, refl, more), rest)

pub behindwire-comma : (ks : List Kind) → Left place.NextWire ks → Left place.BehindWire (kind.Comma ∷ ks)
behindwire-comma ks (a, (b, e, more), rest) = (a, again (ks, refl, e) more, rest)

pub behindwire-semicolon : (ks : List Kind) → Left place.Item ks → Left place.BehindWire (kind.Semicolon ∷ ks)
behindwire-semicolon ks rest = (_, stop refl, (ks, refl, rest))

pub target-name : (ks : List Kind) → Left place.BehindTarget ks → Left place.Target (kind.Name ∷ ks)
target-name ks rest = (ks, refl, rest)

pub behindtarget-equals : (ks : List Kind) → Left place.Source ks → Left place.BehindTarget (kind.Equals ∷ ks)
behindtarget-equals ks rest = (ks, refl, rest)

pub source-name : (ks : List Kind) → Left place.BehindSource ks → Left place.Source (kind.Name ∷ ks)
source-name ks rest = (ks, refl, rest)

pub behindsource-semicolon : (ks : List Kind) → Left place.Item ks → Left place.BehindSource (kind.Semicolon ∷ ks)
behindsource-semicolon ks rest = (ks, refl, rest)

pub instancename-name : (ks : List Kind) → Left place.BehindInstance ks → Left place.InstanceName (kind.Name ∷ ks)
instancename-name ks rest = (ks, refl, rest)

pub behindinstance-open : (ks : List Kind) → Left place.FirstTie ks → Left place.BehindInstance (kind.Open ∷ ks)
behindinstance-open ks rest = (ks, refl, rest)

pub firsttie-point : (ks : List Kind) → Left place.Pin ks → Left place.FirstTie (kind.Point ∷ ks)
firsttie-point ks (a, e, (b, f, (c, g, (d, h, (m, more, rest))))) = (m, inr (d, (ks, refl, (a, e, (b, f, (c, g, h)))), more), rest)

pub firsttie-close : (ks : List Kind) → Left place.BehindTies ks → Left place.FirstTie (kind.Close ∷ ks)
firsttie-close ks rest = (_, inl refl, (ks, refl, rest))

pub nexttie-point : (ks : List Kind) → Left place.Pin ks → Left place.NextTie (kind.Point ∷ ks)
nexttie-point ks (a, e, (b, f, (c, g, (d, h, (m, more, rest))))) = (m, (d, (ks, refl, (a, e, (b, f, (c, g, h)))), more), rest)

pub pin-name : (ks : List Kind) → Left place.BehindPin ks → Left place.Pin (kind.Name ∷ ks)
pin-name ks rest = (ks, refl, rest)

pub behindpin-open : (ks : List Kind) → Left place.Net ks → Left place.BehindPin (kind.Open ∷ ks)
behindpin-open ks rest = (ks, refl, rest)

pub net-name : (ks : List Kind) → Left place.BehindNet ks → Left place.Net (kind.Name ∷ ks)
net-name ks rest = (ks, refl, rest)

pub behindnet-close : (ks : List Kind) → Left place.BehindTie ks → Left place.BehindNet (kind.Close ∷ ks)
behindnet-close ks rest = (ks, refl, rest)

pub behindtie-comma : (ks : List Kind) → Left place.NextTie ks → Left place.BehindTie (kind.Comma ∷ ks)
behindtie-comma ks (m, (d, one, more), rest) = (m, again (ks, refl, one) more, rest)

pub behindtie-close : (ks : List Kind) → Left place.BehindTies ks → Left place.BehindTie (kind.Close ∷ ks)
behindtie-close ks rest = (_, stop refl, (ks, refl, rest))

pub behindties-semicolon : (ks : List Kind) → Left place.Item ks → Left place.BehindTies (kind.Semicolon ∷ ks)
behindties-semicolon ks rest = (ks, refl, rest)

-- there is no such move
pub no-move : {A : Type 0} (m : Move) → ◌≡◌ {A = Option Move} None (Some m) → A
no-move m e = cc
