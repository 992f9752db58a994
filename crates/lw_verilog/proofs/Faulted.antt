-- The first token that breaks a rule: what was read before it, and why it does.
use Rattle.std.proofs.Common.{ℕ, zero, suc, ◌≡◌, ◌≢◌, ◌<◌, ◌⊎◌, inl, inr, Bool, true, false, cond, List, [], ◌∷◌, ◌++◌, take, slice_get, Option, Some, None, Result, Ok, Err, refl, ap, sym, ◌∙◌, subst, arith}
use Rattle.std.specs.Option.{option_or}
use Rattle.lw_genlib.specs.Cells.{CellParts}
use Rattle.lw_verilog.specs.declared.fault.VerilogKind.{VerilogKind}
use Rattle.lw_verilog.specs.declared.fault.VerilogKind.TheVariants as broken
use Rattle.lw_verilog.specs.declared.kind.Kind.{Kind}
use Rattle.lw_verilog.specs.declared.place.Move.{Move}
use Rattle.lw_verilog.specs.declared.place.Place.TheVariants as place
use Rattle.lw_verilog.specs.declared.place.Task.{Task}
use Rattle.lw_verilog.specs.declared.place.Task.TheVariants as task
use Rattle.lw_verilog.specs.Faults.{BreaksRule, CanGoOn, IsBadByte, IsFaultAt, IsFurther, IsUnexpected, ReadsOrBreaks}
use Rattle.lw_verilog.specs.Grammar.{move_at}
use Rattle.lw_verilog.specs.Phrases.{Derives, Runs, file, kinds_of}
use Rattle.lw_verilog.specs.Readings.{FaultAt, Reading, cell_in, declared_fault, fault_or, formal_fault, is_done, missing_fault, move_fault, moved_on, name_fault, nothing_read, read, rule_fault, token_fault}
use Rattle.lw_verilog.specs.Statements.{Tie, ports_of, ties_in}
use Rattle.lw_verilog.specs.Tokens.{Token, is_strange}
use Rattle.lw_verilog.proofs.Derived.{derived-accepted}
use Rattle.lw_verilog.proofs.ReadRuns.{none-moved}
use Rattle.lw_verilog.proofs.Stuck.{can-go-on, cannot-go-on, goes-further, next-move, runs-begin, runs-fewer, strange-stuck, unended-at}

-- what the tokens behind one come to
abbrev next_read : List CellParts → Reading → Token → List Token → Result Reading FaultAt
next_read cells r t ts = read cells (moved_on r t.name (move_at r.place t.kind)) ts

-- behind a reading, the token with which reading stops
record StopsAt (cells : List CellParts) (r : Reading) (ts : List Token) (f : FaultAt) : Type 0 where
  n : ℕ
  token : Token
  is : slice_get ts n ≡ Some token
  line : token.line ≡ f.line
  before : Reading
  read_before : read cells r (take n ts) ≡ Ok before
  runs : Runs r.place (take n (kinds_of ts)) before.place
  more : take (suc n) (kinds_of ts) ≡ take n (kinds_of ts) ++ token.kind ∷ []
  opened : is_done before.place ≡ false
  fault : token_fault cells before token.kind token.name ≡ Some f.kind

stops-first : (cells : List CellParts) (r : Reading) (t : Token) (ts : List Token) (f : FaultAt) → is_done r.place ≡ false → token_fault cells r t.kind t.name ≡ Some f.kind → t.line ≡ f.line → StopsAt cells r (t ∷ ts) f
unfolding read
stops-first cells r t ts f opened fault line = record {
  n = 0;
  token = t;
  is = refl;
  line = line;
  before = r;
  read_before = refl;
  runs = refl;
  more = refl;
  opened = opened;
  fault = fault;
}

stops-later : (cells : List CellParts) (r : Reading) (t : Token) (ts : List Token) (f : FaultAt) → is_done r.place ≡ false → token_fault cells r t.kind t.name ≡ None → StopsAt cells (moved_on r t.name (move_at r.place t.kind)) ts f → StopsAt cells r (t ∷ ts) f
unfolding read
stops-later cells r t ts f opened none s =
    let m = none-moved cells r t.kind t.name (move_at r.place t.kind) refl none in
    record {
      n = suc s.n;
      token = s.token;
      is = s.is;
      line = s.line;
      before = s.before;
      read_before =
          ap (λ b. cond b (Ok r) (fault_or t.line (token_fault cells r t.kind t.name) (read cells (moved_on r t.name (move_at r.place t.kind)) (take s.n ts)))) opened
          ∙ (ap (λ o. fault_or t.line o (read cells (moved_on r t.name (move_at r.place t.kind)) (take s.n ts))) none ∙ s.read_before);
      runs = (m.0, m.1, subst (λ (o : Option Move). Runs (moved_on r t.name o).place (take s.n (kinds_of ts)) s.before.place) m.1 s.runs);
      more = ap (λ l. t.kind ∷ l) s.more;
      opened = s.opened;
      fault = s.fault;
    }

read-stops : (cells : List CellParts) (ts : List Token) (r : Reading) (f : FaultAt) → read cells r ts ≡ Err f → StopsAt cells r ts f
unfolding read
read-stops cells [] r f e = cc
read-stops cells (t ∷ ts) r f e = by_done (is_done r.place) refl e (λ g. read-stops cells ts (moved_on r t.name (move_at r.place t.kind)) f g)
  where
    by_done : (b : Bool) → is_done r.place ≡ b → cond b (Ok r) (fault_or t.line (token_fault cells r t.kind t.name) (next_read cells r t ts)) ≡ Err f → (next_read cells r t ts ≡ Err f → StopsAt cells (moved_on r t.name (move_at r.place t.kind)) ts f) → StopsAt cells r (t ∷ ts) f
    by_done true d g later = cc
    by_done false d g later = by_fault (token_fault cells r t.kind t.name) refl g
      where
        by_fault : (o : Option VerilogKind) → token_fault cells r t.kind t.name ≡ o → fault_or t.line o (next_read cells r t ts) ≡ Err f → StopsAt cells r (t ∷ ts) f
        by_fault None g h = stops-later cells r t ts f d g (later h)
        by_fault (Some k) g h =
            let same : ◌≡◌ {A = FaultAt} (record { line = t.line; kind = k }) f = cc in
            stops-first cells r t ts f d (g ∙ ap (λ (x : FaultAt). Some x.kind) same) (ap (λ (x : FaultAt). x.line) same)

-- No further rule is that of the grammar.

abbrev Never : Option VerilogKind → Type 0
Never o = o ≡ Some broken.Expected → ⊥

none-never : Never None
none-never e = cc

either-never : (b : Bool) (x y : Option VerilogKind) → Never x → Never y → Never (cond b x y)
either-never true x y a c = a
either-never false x y a c = c

or-never : (x y : Option VerilogKind) → Never x → Never y → Never (option_or x y)
or-never None y a c = c
or-never (Some k) y a c = a

name-never : (name : List ℕ) → Never (name_fault name)
name-never name = either-never _ None (Some broken.BadName) none-never (λ e. cc)

formal-never : (cell : Option CellParts) (ties : List Tie) (name : List ℕ) → Never (formal_fault cell ties name)
formal-never None ties name = λ e. cc
formal-never (Some cell) ties name = either-never _ (Some broken.PinUnknown) _ (λ e. cc) (either-never _ (Some broken.PinTwice) None (λ e. cc) none-never)

missing-never : (cell : Option CellParts) (ties : List Tie) → Never (missing_fault cell ties)
missing-never None ties = λ e. cc
missing-never (Some cell) ties = either-never _ None (Some broken.PinMissing) none-never (λ e. cc)

rule-never : (cells : List CellParts) (names ports declared : List (List ℕ)) (what : Task) (name : List ℕ) → Never (rule_fault cells names ports declared what name)
unfolding rule_fault
rule-never cells names ports declared task.Skip name = none-never
rule-never cells names ports declared task.Word name = name-never name
rule-never cells names ports declared task.Declare name = or-never (name_fault name) (declared_fault declared name) (name-never name) (either-never _ (Some broken.Port) None (λ e. cc) none-never)
rule-never cells names ports declared task.Cell name = either-never _ None (Some broken.NoCell) none-never (λ e. cc)
rule-never cells names ports declared task.Pin name = formal-never (cell_in cells names) (ties_in names) name
rule-never cells names ports declared task.Header name = none-never
rule-never cells names ports declared task.Inputs name = none-never
rule-never cells names ports declared task.Outputs name = none-never
rule-never cells names ports declared task.Forget name = none-never
rule-never cells names ports declared task.Assignment name = none-never
rule-never cells names ports declared task.Instance name = missing-never (cell_in cells names) (ties_in names)
rule-never cells names ports declared task.Finish name = either-never _ None (Some broken.Port) none-never (λ e. cc)

-- The token of a fault.

module _ (cells : List CellParts) (ts : List Token) (f : FaultAt) (s : StopsAt cells nothing_read ts f) where
  abbrev kinds : List Kind
  kinds = take s.n (kinds_of ts)

  breaks-rule : (m : Move) → move_at s.before.place s.token.kind ≡ Some m → rule_fault cells s.before.names (ports_of s.before.said) s.before.declared m.task s.token.name ≡ Some f.kind → BreaksRule cells ts s.n f
  breaks-rule m moves rule = record {
    token = s.token;
    is = s.is;
    line = s.line;
    before = s.before;
    read_before = s.read_before;
    move = m;
    moves = moves;
    breaks = rule;
  }

  unexpected : CanGoOn (take (suc s.n) (kinds_of ts)) → move_at s.before.place s.token.kind ≡ None → ⊥
  unexpected further none = cannot-go-on kinds s.token.kind s.before.place s.runs none (subst CanGoOn s.more further)

  cause : IsBadByte s.token f.kind ⊎ (IsUnexpected ts s.n s.token f.kind ⊎ IsFurther cells ts s.n f)
  cause = by_strange (is_strange s.token.kind) refl s.fault
    where
      by_strange : (b : Bool) → is_strange s.token.kind ≡ b → cond b (Some broken.BadByte) (move_fault cells s.before s.token.name (move_at s.before.place s.token.kind)) ≡ Some f.kind → IsBadByte s.token f.kind ⊎ (IsUnexpected ts s.n s.token f.kind ⊎ IsFurther cells ts s.n f)
      by_strange true d e = let same : f.kind ≡ broken.BadByte = cc in inl (d, same)
      by_strange false d e = inr (by_move (move_at s.before.place s.token.kind) refl e)
        where
          by_move : (o : Option Move) → move_at s.before.place s.token.kind ≡ o → move_fault cells s.before s.token.name o ≡ Some f.kind → IsUnexpected ts s.n s.token f.kind ⊎ IsFurther cells ts s.n f
          by_move None o g = let same : f.kind ≡ broken.Expected = cc in inl (d, same, λ further. unexpected further o)
          by_move (Some m) o g =
              let further : CanGoOn (take (suc s.n) (kinds_of ts)) = subst CanGoOn (sym s.more) (goes-further kinds s.token.kind s.before.place m s.runs o) in
              let other : f.kind ≢ broken.Expected = λ same. rule-never cells s.before.names (ports_of s.before.said) s.before.declared m.task s.token.name (g ∙ ap Some same) in
              inr (further, other, breaks-rule m o g)

  fault-at : IsFaultAt cells ts f s.n
  fault-at = record {
    token = s.token;
    is = s.is;
    line = s.line;
    before = can-go-on kinds s.before.place s.runs;
    unended = unended-at kinds s.before.place s.runs s.opened;
    cause = cause;
  }

  -- the tokens up to this one are some of those of a whole text
  breaks-further : (k : ℕ) → Derives file (take k (kinds_of ts)) → (n : ℕ) × (n < k) × BreaksRule cells ts n f
  breaks-further k derived =
      let run = derived-accepted (take k (kinds_of ts)) derived in
      let fewer : s.n < k = runs-fewer (kinds_of ts) place.Begin s.before.place k s.n run s.runs s.opened in
      let part = runs-begin (kinds_of ts) place.Begin place.Done k (suc s.n) (omega (arith, fewer)) run in
      let m = next-move kinds s.token.kind s.before.place part.0 s.runs (subst (λ l. Runs place.Begin l part.0) s.more part.1) in
      (s.n, fewer, breaks-rule m.0 m.1 (by_strange (is_strange s.token.kind) refl m.0 m.1 s.fault))
    where
      by_strange : (b : Bool) → is_strange s.token.kind ≡ b → (m : Move) → move_at s.before.place s.token.kind ≡ Some m → cond b (Some broken.BadByte) (move_fault cells s.before s.token.name (move_at s.before.place s.token.kind)) ≡ Some f.kind → rule_fault cells s.before.names (ports_of s.before.said) s.before.declared m.task s.token.name ≡ Some f.kind
      by_strange true d m e g = absurd (strange-stuck s.before.place s.token.kind m d e)
      by_strange false d m e g = sym (ap (move_fault cells s.before s.token.name) e) ∙ g

pub faulted : (cells : List CellParts) (ts : List Token) (f : FaultAt) → read cells nothing_read ts ≡ Err f → (n : ℕ) × IsFaultAt cells ts f n
faulted cells ts f e = let s = read-stops cells ts nothing_read f e in (s.n, fault-at cells ts f s)

-- all tokens of a whole text are read
read-all : (cells : List CellParts) (ts : List Token) (r s : Reading) (k : ℕ) → Runs r.place (take k (kinds_of ts)) place.Done → read cells r ts ≡ Ok s → is_done s.place ≡ true
unfolding read
read-all cells [] r s zero run e = let same : r ≡ s = cc in ap (λ (x : Reading). is_done x.place) (sym same) ∙ ap is_done run
read-all cells [] r s (suc k) run e = let same : r ≡ s = cc in ap (λ (x : Reading). is_done x.place) (sym same) ∙ ap is_done run
read-all cells (t ∷ ts) r s zero run e =
    let same : r ≡ s = stops (is_done r.place) (ap is_done run) e in
    ap (λ (x : Reading). is_done x.place) (sym same) ∙ ap is_done run
  where
    stops : (b : Bool) → b ≡ true → cond b (Ok r) (fault_or t.line (token_fault cells r t.kind t.name) (read cells (moved_on r t.name (move_at r.place t.kind)) ts)) ≡ Ok s → r ≡ s
    stops true d g = cc
    stops false d g = cc
read-all cells (t ∷ ts) r s (suc k) (m, moves, run) e = by_done (is_done r.place) refl e (λ g. read-all cells ts (moved_on r t.name (move_at r.place t.kind)) s k (subst (λ (o : Option Move). Runs (moved_on r t.name o).place (take k (kinds_of ts)) place.Done) (sym moves) run) g)
  where
    by_done : (b : Bool) → is_done r.place ≡ b → cond b (Ok r) (fault_or t.line (token_fault cells r t.kind t.name) (next_read cells r t ts)) ≡ Ok s → (next_read cells r t ts ≡ Ok s → is_done s.place ≡ true) → is_done s.place ≡ true
    by_done true d g later = let same : r ≡ s = cc in ap (λ (x : Reading). is_done x.place) (sym same) ∙ d
    by_done false d g later = by_fault (token_fault cells r t.kind t.name) g
      where
        by_fault : (o : Option VerilogKind) → fault_or t.line o (next_read cells r t ts) ≡ Ok s → is_done s.place ≡ true
        by_fault None h = later h
        by_fault (Some x) h = cc

pub derived-read : (cells : List CellParts) (ts : List Token) (k : ℕ) → Derives file (take k (kinds_of ts)) → ReadsOrBreaks cells ts k (read cells nothing_read ts)
derived-read cells ts k derived = by_result (read cells nothing_read ts) refl
  where
    by_result : (result : Result Reading FaultAt) → read cells nothing_read ts ≡ result → ReadsOrBreaks cells ts k result
    by_result (Ok r) e = read-all cells ts nothing_read r k (derived-accepted (take k (kinds_of ts)) derived) e
    by_result (Err f) e = breaks-further cells ts f (read-stops cells ts nothing_read f e) k derived
