-- What is read without a fault is what the table takes.
use Rattle.std.proofs.Common.{ℕ, suc, ◌≡◌, Bool, true, false, cond, List, [], ◌∷◌, take, Option, Some, None, Result, Ok, refl, ap, sym, ◌∙◌, subst}
use Rattle.lw_genlib.specs.Cells.{CellParts}
use Rattle.lw_verilog.specs.declared.fault.VerilogKind.{VerilogKind}
use Rattle.lw_verilog.specs.declared.fault.VerilogKind.TheVariants as broken
use Rattle.lw_verilog.specs.declared.kind.Kind.{Kind}
use Rattle.lw_verilog.specs.declared.place.Move.{Move}
use Rattle.lw_verilog.specs.declared.place.Place.{Place}
use Rattle.lw_verilog.specs.declared.place.Place.TheVariants as place
use Rattle.lw_verilog.specs.Grammar.{move_at}
use Rattle.lw_verilog.specs.Phrases.{Derives, Runs, file, kinds_of}
use Rattle.lw_verilog.specs.Readings.{FaultAt, Reading, fault_or, is_done, move_fault, moved_on, nothing_read, read, token_fault}
use Rattle.lw_verilog.specs.Tokens.{Token, is_strange}
use Rattle.lw_verilog.proofs.Accepted.{accepted-derived}

done-place : (p : Place) → is_done p ≡ true → p ≡ place.Done
done-place place.Done e = refl
done-place place.Begin e = cc
done-place place.ModelName e = cc
done-place place.BehindModel e = cc
done-place place.FirstPort e = cc
done-place place.NextPort e = cc
done-place place.BehindPort e = cc
done-place place.BehindPorts e = cc
done-place place.Item e = cc
done-place place.FirstInput e = cc
done-place place.NextInput e = cc
done-place place.BehindInput e = cc
done-place place.FirstOutput e = cc
done-place place.NextOutput e = cc
done-place place.BehindOutput e = cc
done-place place.NextWire e = cc
done-place place.BehindWire e = cc
done-place place.Target e = cc
done-place place.BehindTarget e = cc
done-place place.Source e = cc
done-place place.BehindSource e = cc
done-place place.InstanceName e = cc
done-place place.BehindInstance e = cc
done-place place.FirstTie e = cc
done-place place.NextTie e = cc
done-place place.Pin e = cc
done-place place.BehindPin e = cc
done-place place.Net e = cc
done-place place.BehindNet e = cc
done-place place.BehindTie e = cc
done-place place.BehindTies e = cc

abbrev RunsOn : Place → List Token → Place → Type 0
RunsOn p ts q = (k : ℕ) × Runs p (take k (kinds_of ts)) q

same-place : (r s : Reading) → ◌≡◌ {A = Result Reading FaultAt} (Ok r) (Ok s) → r.place ≡ s.place
same-place r s e = let same : r ≡ s = cc in ap (λ (x : Reading). x.place) same

pub none-moved : (cells : List CellParts) (r : Reading) (k : Kind) (name : List ℕ) (o : Option Move) → move_at r.place k ≡ o → token_fault cells r k name ≡ None → (m : Move) × (o ≡ Some m)
none-moved cells r k name o e none = by_strange (is_strange k) (ap (λ x. cond (is_strange k) (Some broken.BadByte) (move_fault cells r name x)) (sym e) ∙ none)
  where
    by_strange : (b : Bool) → cond b (Some broken.BadByte) (move_fault cells r name o) ≡ None → (m : Move) × (o ≡ Some m)
    by_strange true f = cc
    by_strange false f = by_move o f
      where
        by_move : (o : Option Move) → move_fault cells r name o ≡ None → (m : Move) × (o ≡ Some m)
        by_move None g = cc
        by_move (Some m) g = (m, refl)

-- behind a token that breaks no rule
goes-on : (cells : List CellParts) (r s : Reading) (t : Token) (ts : List Token) (o : Option Move) → move_at r.place t.kind ≡ o → token_fault cells r t.kind t.name ≡ None → RunsOn (moved_on r t.name o).place ts s.place → RunsOn r.place (t ∷ ts) s.place
goes-on cells r s t ts o e none (k, run) =
    let m = none-moved cells r t.kind t.name o e none in
    (suc k, (m.0, e ∙ m.1, subst (λ (x : Option Move). Runs (moved_on r t.name x).place (take k (kinds_of ts)) s.place) m.1 run))

no-fault : (line : ℕ) (o : Option VerilogKind) (rest : Result Reading FaultAt) (s : Reading) → fault_or line o rest ≡ Ok s → (o ≡ None) × (rest ≡ Ok s)
no-fault line None rest s e = (refl, e)
no-fault line (Some k) rest s e = cc

read-runs : (cells : List CellParts) (ts : List Token) (r s : Reading) → read cells r ts ≡ Ok s → RunsOn r.place ts s.place
unfolding read
read-runs cells [] r s e = (0, same-place r s e)
read-runs cells (t ∷ ts) r s e = by_done (is_done r.place) e (λ f. read-runs cells ts (moved_on r t.name (move_at r.place t.kind)) s f)
  where
    by_done : (b : Bool) → cond b (Ok r) (fault_or t.line (token_fault cells r t.kind t.name) (read cells (moved_on r t.name (move_at r.place t.kind)) ts)) ≡ Ok s → (read cells (moved_on r t.name (move_at r.place t.kind)) ts ≡ Ok s → RunsOn (moved_on r t.name (move_at r.place t.kind)).place ts s.place) → RunsOn r.place (t ∷ ts) s.place
    by_done true f later = (0, same-place r s f)
    by_done false f later =
        let parts = no-fault t.line (token_fault cells r t.kind t.name) (read cells (moved_on r t.name (move_at r.place t.kind)) ts) s f in
        goes-on cells r s t ts (move_at r.place t.kind) refl parts.0 (later parts.1)

-- What is read up to the end of the module begins with tokens that the grammar derives.
pub read-derived : (cells : List CellParts) (ts : List Token) (r : Reading) → read cells nothing_read ts ≡ Ok r → is_done r.place ≡ true → (k : ℕ) × Derives file (take k (kinds_of ts))
read-derived cells ts r e done =
    let runs = read-runs cells ts nothing_read r e in
    (runs.0, accepted-derived (take runs.0 (kinds_of ts)) (subst (λ q. Runs place.Begin (take runs.0 (kinds_of ts)) q) (done-place r.place done) runs.1))
