-- Where tokens can go on to a text of the grammar, and where none does.
use Rattle.std.proofs.Common.{ℕ, zero, suc, ◌≡◌, ◌<◌, ◌≤◌, true, false, List, [], ◌∷◌, ◌++◌, take, Option, Some, None, refl, ap, sym, ◌∙◌, subst, arith}
use Rattle.lw_verilog.specs.declared.kind.Kind.{Kind}
use Rattle.lw_verilog.specs.declared.kind.Kind.TheVariants as kind
use Rattle.lw_verilog.specs.declared.place.Move.{Move}
use Rattle.lw_verilog.specs.declared.place.Place.{Place}
use Rattle.lw_verilog.specs.declared.place.Place.TheVariants as place
use Rattle.lw_verilog.specs.declared.place.Task.{Task}
use Rattle.lw_verilog.specs.declared.place.Task.TheVariants as task
use Rattle.lw_verilog.specs.Faults.{CanGoOn}
use Rattle.lw_verilog.specs.Grammar.{move_at, moved}
use Rattle.lw_verilog.specs.Phrases.{Derives, Runs, file}
use Rattle.lw_verilog.specs.Readings.{is_done}
use Rattle.lw_verilog.specs.Tokens.{is_strange}
use Rattle.lw_verilog.proofs.Accepted.{accepted-derived}
use Rattle.lw_verilog.proofs.Behind.{no-move}
use Rattle.lw_verilog.proofs.Derived.{derived-accepted}

-- A way from each place to the end of the module.

abbrev Out : Place → Type 0
Out p = (rest : List Kind) × Runs p rest place.Done

out-by : (p : Place) (k : Kind) (q : Place) (t : Task) → move_at p k ≡ moved q t → Out q → Out p
out-by p k q t moves (rest, run) = (k ∷ rest, (record { next = q; task = t }, moves, run))

from-done : Out place.Done
from-done = ([], refl)

from-item : Out place.Item
unfolding move_at
from-item = out-by place.Item kind.EndModule place.Done task.Finish refl from-done

from-behindties : Out place.BehindTies
unfolding move_at
from-behindties = out-by place.BehindTies kind.Semicolon place.Item task.Instance refl from-item

from-behindtie : Out place.BehindTie
unfolding move_at
from-behindtie = out-by place.BehindTie kind.Close place.BehindTies task.Skip refl from-behindties

from-behindnet : Out place.BehindNet
unfolding move_at
from-behindnet = out-by place.BehindNet kind.Close place.BehindTie task.Skip refl from-behindtie

from-net : Out place.Net
unfolding move_at
from-net = out-by place.Net kind.Name place.BehindNet task.Word refl from-behindnet

from-behindpin : Out place.BehindPin
unfolding move_at
from-behindpin = out-by place.BehindPin kind.Open place.Net task.Skip refl from-net

from-pin : Out place.Pin
unfolding move_at
from-pin = out-by place.Pin kind.Name place.BehindPin task.Pin refl from-behindpin

from-nexttie : Out place.NextTie
unfolding move_at
from-nexttie = out-by place.NextTie kind.Point place.Pin task.Skip refl from-pin

from-firsttie : Out place.FirstTie
unfolding move_at
from-firsttie = out-by place.FirstTie kind.Close place.BehindTies task.Skip refl from-behindties

from-behindinstance : Out place.BehindInstance
unfolding move_at
from-behindinstance = out-by place.BehindInstance kind.Open place.FirstTie task.Skip refl from-firsttie

from-instancename : Out place.InstanceName
unfolding move_at
from-instancename = out-by place.InstanceName kind.Name place.BehindInstance task.Word refl from-behindinstance

from-behindsource : Out place.BehindSource
unfolding move_at
from-behindsource = out-by place.BehindSource kind.Semicolon place.Item task.Assignment refl from-item

from-source : Out place.Source
unfolding move_at
from-source = out-by place.Source kind.Name place.BehindSource task.Word refl from-behindsource

from-behindtarget : Out place.BehindTarget
unfolding move_at
from-behindtarget = out-by place.BehindTarget kind.Equals place.Source task.Skip refl from-source

from-target : Out place.Target
unfolding move_at
from-target = out-by place.Target kind.Name place.BehindTarget task.Word refl from-behindtarget

from-behindwire : Out place.BehindWire
unfolding move_at
from-behindwire = out-by place.BehindWire kind.Semicolon place.Item task.Forget refl from-item

from-nextwire : Out place.NextWire
unfolding move_at
from-nextwire = out-by place.NextWire kind.Name place.BehindWire task.Word refl from-behindwire

from-behindoutput : Out place.BehindOutput
unfolding move_at
from-behindoutput = out-by place.BehindOutput kind.Semicolon place.Item task.Outputs refl from-item

from-nextoutput : Out place.NextOutput
unfolding move_at
from-nextoutput = out-by place.NextOutput kind.Name place.BehindOutput task.Declare refl from-behindoutput

from-firstoutput : Out place.FirstOutput
unfolding move_at
from-firstoutput = out-by place.FirstOutput kind.Name place.BehindOutput task.Declare refl from-behindoutput

from-behindinput : Out place.BehindInput
unfolding move_at
from-behindinput = out-by place.BehindInput kind.Semicolon place.Item task.Inputs refl from-item

from-nextinput : Out place.NextInput
unfolding move_at
from-nextinput = out-by place.NextInput kind.Name place.BehindInput task.Declare refl from-behindinput

from-firstinput : Out place.FirstInput
unfolding move_at
from-firstinput = out-by place.FirstInput kind.Name place.BehindInput task.Declare refl from-behindinput

from-behindports : Out place.BehindPorts
unfolding move_at
from-behindports = out-by place.BehindPorts kind.Semicolon place.Item task.Header refl from-item

from-behindport : Out place.BehindPort
unfolding move_at
from-behindport = out-by place.BehindPort kind.Close place.BehindPorts task.Skip refl from-behindports

from-nextport : Out place.NextPort
unfolding move_at
from-nextport = out-by place.NextPort kind.Name place.BehindPort task.Word refl from-behindport

from-firstport : Out place.FirstPort
unfolding move_at
from-firstport = out-by place.FirstPort kind.Close place.BehindPorts task.Skip refl from-behindports

from-behindmodel : Out place.BehindModel
unfolding move_at
from-behindmodel = out-by place.BehindModel kind.Semicolon place.Item task.Header refl from-item

from-modelname : Out place.ModelName
unfolding move_at
from-modelname = out-by place.ModelName kind.Name place.BehindModel task.Word refl from-behindmodel

from-begin : Out place.Begin
unfolding move_at
from-begin = out-by place.Begin kind.Module place.ModelName task.Skip refl from-modelname

out : (p : Place) → Out p
out place.Begin = from-begin
out place.ModelName = from-modelname
out place.BehindModel = from-behindmodel
out place.FirstPort = from-firstport
out place.NextPort = from-nextport
out place.BehindPort = from-behindport
out place.BehindPorts = from-behindports
out place.Item = from-item
out place.FirstInput = from-firstinput
out place.NextInput = from-nextinput
out place.BehindInput = from-behindinput
out place.FirstOutput = from-firstoutput
out place.NextOutput = from-nextoutput
out place.BehindOutput = from-behindoutput
out place.NextWire = from-nextwire
out place.BehindWire = from-behindwire
out place.Target = from-target
out place.BehindTarget = from-behindtarget
out place.Source = from-source
out place.BehindSource = from-behindsource
out place.InstanceName = from-instancename
out place.BehindInstance = from-behindinstance
out place.FirstTie = from-firsttie
out place.NextTie = from-nexttie
out place.Pin = from-pin
out place.BehindPin = from-behindpin
out place.Net = from-net
out place.BehindNet = from-behindnet
out place.BehindTie = from-behindtie
out place.BehindTies = from-behindties
out place.Done = from-done

-- Runs one behind the other, and parts of runs.

runs-both : (xs ys : List Kind) (p q s : Place) → Runs p xs q → Runs q ys s → Runs p (xs ++ ys) s
runs-both [] ys p q s e go = subst (λ x. Runs x ys s) (sym e) go
runs-both (x ∷ xs) ys p q s (m, e, run) go = (m, e, runs-both xs ys m.next q s run go)

runs-apart : (xs ys : List Kind) (p s : Place) → Runs p (xs ++ ys) s → (q : Place) × Runs p xs q × Runs q ys s
runs-apart [] ys p s run = (p, refl, run)
runs-apart (x ∷ xs) ys p s (m, e, run) =
    let parts = runs-apart xs ys m.next s run in
    (parts.0, (m, e, parts.1), parts.2)

same-move : (o : Option Move) (m n : Move) → o ≡ Some m → o ≡ Some n → m ≡ n
same-move o m n e f = cc

pub runs-once : (xs : List Kind) (p q s : Place) → Runs p xs q → Runs p xs s → q ≡ s
runs-once [] p q s e f = sym e ∙ f
runs-once (x ∷ xs) p q s (m, e, run) (n, f, go) =
    runs-once xs m.next q s run (subst (λ (o : Move). Runs o.next xs s) (sym (same-move (move_at p x) m n e f)) go)

pub runs-begin : (ks : List Kind) (p s : Place) (k j : ℕ) → j ≤ k → Runs p (take k ks) s → (q : Place) × Runs p (take j ks) q
runs-begin [] p s zero zero le run = (s, run)
runs-begin [] p s zero (suc j) le run = (s, run)
runs-begin [] p s (suc k) zero le run = (s, run)
runs-begin [] p s (suc k) (suc j) le run = (s, run)
runs-begin (x ∷ ks) p s k zero le run = (p, refl)
runs-begin (x ∷ ks) p s zero (suc j) le run = absurd (omega (arith, le))
runs-begin (x ∷ ks) p s (suc k) (suc j) le (m, e, run) =
    let rest = runs-begin ks m.next s k j (omega (arith, le)) run in
    (rest.0, (m, e, rest.1))

-- Behind the end of a module nothing stands.

not-done : (q : Place) → place.Done ≡ q → is_done q ≡ false → ⊥
not-done q e f = let same : true ≡ is_done q = ap is_done e in cc

done-stays : (k : Kind) (m : Move) → move_at place.Done k ≡ Some m → ⊥
unfolding move_at
done-stays kind.Gap m e = no-move m e
done-stays kind.Name m e = no-move m e
done-stays kind.Module m e = no-move m e
done-stays kind.EndModule m e = no-move m e
done-stays kind.Input m e = no-move m e
done-stays kind.Output m e = no-move m e
done-stays kind.Wire m e = no-move m e
done-stays kind.Assign m e = no-move m e
done-stays kind.Open m e = no-move m e
done-stays kind.Close m e = no-move m e
done-stays kind.Comma m e = no-move m e
done-stays kind.Semicolon m e = no-move m e
done-stays kind.Point m e = no-move m e
done-stays kind.Equals m e = no-move m e
done-stays kind.Strange m e = no-move m e
done-stays kind.Unclosed m e = no-move m e
done-stays kind.End m e = no-move m e

-- tokens that come to another place are fewer than those of a whole text
pub runs-fewer : (ks : List Kind) (p q : Place) (k n : ℕ) → Runs p (take k ks) place.Done → Runs p (take n ks) q → is_done q ≡ false → n < k
runs-fewer [] p q zero zero run go opened = absurd (not-done q (sym run ∙ go) opened)
runs-fewer [] p q zero (suc n) run go opened = absurd (not-done q (sym run ∙ go) opened)
runs-fewer [] p q (suc k) zero run go opened = absurd (not-done q (sym run ∙ go) opened)
runs-fewer [] p q (suc k) (suc n) run go opened = absurd (not-done q (sym run ∙ go) opened)
runs-fewer (x ∷ ks) p q zero zero run go opened = absurd (not-done q (sym run ∙ go) opened)
runs-fewer (x ∷ ks) p q zero (suc n) run (m, e, go) opened = absurd (done-stays x m (ap (λ s. move_at s x) (sym run) ∙ e))
runs-fewer (x ∷ ks) p q (suc k) zero run go opened = omega arith
runs-fewer (x ∷ ks) p q (suc k) (suc n) (m, e, run) (o, f, go) opened =
    let same : m ≡ o = same-move (move_at p x) m o e f in
    let less : n < k = runs-fewer ks m.next q k n run (subst (λ (w : Move). Runs w.next (take n ks) q) (sym same) go) opened in
    omega (arith, less)

-- What the grammar says of a place.

pub can-go-on : (xs : List Kind) (p : Place) → Runs place.Begin xs p → CanGoOn xs
can-go-on xs p run =
    let way = out p in
    (way.0, accepted-derived (xs ++ way.0) (runs-both xs way.0 place.Begin p place.Done run way.1))

-- the move that the next token makes
pub next-move : (xs : List Kind) (k : Kind) (p s : Place) → Runs place.Begin xs p → Runs place.Begin (xs ++ k ∷ []) s → (m : Move) × (move_at p k ≡ Some m)
next-move xs k p s run go =
    let parts = runs-apart xs (k ∷ []) place.Begin s go in
    let same : parts.0 ≡ p = runs-once xs place.Begin parts.0 p parts.1 run in
    let m = parts.2 in
    (m.0, ap (λ q. move_at q k) (sym same) ∙ m.1)

no-move-left : (o : Option Move) (m : Move) → o ≡ None → o ≡ Some m → ⊥
no-move-left o m e f = cc

pub cannot-go-on : (xs : List Kind) (k : Kind) (p : Place) → Runs place.Begin xs p → move_at p k ≡ None → CanGoOn (xs ++ k ∷ []) → ⊥
cannot-go-on xs k p run none (rest, derived) =
    let parts = runs-apart (xs ++ k ∷ []) rest place.Begin place.Done (derived-accepted ((xs ++ k ∷ []) ++ rest) derived) in
    let m = next-move xs k p parts.0 run parts.1 in
    no-move-left (move_at p k) m.0 none m.1

pub goes-further : (xs : List Kind) (k : Kind) (p : Place) (m : Move) → Runs place.Begin xs p → move_at p k ≡ Some m → CanGoOn (xs ++ k ∷ [])
goes-further xs k p m run moves = can-go-on (xs ++ k ∷ []) m.next (runs-both xs (k ∷ []) place.Begin p m.next run (m, moves, refl))

pub unended-at : (xs : List Kind) (p : Place) → Runs place.Begin xs p → is_done p ≡ false → Derives file xs → ⊥
unended-at xs p run opened derived = not-done p (runs-once xs place.Begin place.Done p (derived-accepted xs derived) run) opened

-- A byte with which no token begins may stand nowhere.

strange-nowhere : (p : Place) (m : Move) → move_at p kind.Strange ≡ Some m → ⊥
unfolding move_at
strange-nowhere place.Begin m e = no-move m e
strange-nowhere place.ModelName m e = no-move m e
strange-nowhere place.BehindModel m e = no-move m e
strange-nowhere place.FirstPort m e = no-move m e
strange-nowhere place.NextPort m e = no-move m e
strange-nowhere place.BehindPort m e = no-move m e
strange-nowhere place.BehindPorts m e = no-move m e
strange-nowhere place.Item m e = no-move m e
strange-nowhere place.FirstInput m e = no-move m e
strange-nowhere place.NextInput m e = no-move m e
strange-nowhere place.BehindInput m e = no-move m e
strange-nowhere place.FirstOutput m e = no-move m e
strange-nowhere place.NextOutput m e = no-move m e
strange-nowhere place.BehindOutput m e = no-move m e
strange-nowhere place.NextWire m e = no-move m e
strange-nowhere place.BehindWire m e = no-move m e
strange-nowhere place.Target m e = no-move m e
strange-nowhere place.BehindTarget m e = no-move m e
strange-nowhere place.Source m e = no-move m e
strange-nowhere place.BehindSource m e = no-move m e
strange-nowhere place.InstanceName m e = no-move m e
strange-nowhere place.BehindInstance m e = no-move m e
strange-nowhere place.FirstTie m e = no-move m e
strange-nowhere place.NextTie m e = no-move m e
strange-nowhere place.Pin m e = no-move m e
strange-nowhere place.BehindPin m e = no-move m e
strange-nowhere place.Net m e = no-move m e
strange-nowhere place.BehindNet m e = no-move m e
strange-nowhere place.BehindTie m e = no-move m e
strange-nowhere place.BehindTies m e = no-move m e
strange-nowhere place.Done m e = no-move m e

pub strange-stuck : (p : Place) (k : Kind) (m : Move) → is_strange k ≡ true → move_at p k ≡ Some m → ⊥
strange-stuck p kind.Gap m d e = cc
strange-stuck p kind.Name m d e = cc
strange-stuck p kind.Module m d e = cc
strange-stuck p kind.EndModule m d e = cc
strange-stuck p kind.Input m d e = cc
strange-stuck p kind.Output m d e = cc
strange-stuck p kind.Wire m d e = cc
strange-stuck p kind.Assign m d e = cc
strange-stuck p kind.Open m d e = cc
strange-stuck p kind.Close m d e = cc
strange-stuck p kind.Comma m d e = cc
strange-stuck p kind.Semicolon m d e = cc
strange-stuck p kind.Point m d e = cc
strange-stuck p kind.Equals m d e = cc
strange-stuck p kind.Strange m d e = strange-nowhere p m e
strange-stuck p kind.Unclosed m d e = cc
strange-stuck p kind.End m d e = cc
