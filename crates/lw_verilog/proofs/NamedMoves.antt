-- Only names do the tasks of names.
use Rattle.std.proofs.Common.{◌≡◌, ◌||◌, Bool, true, false, not, List, [], ◌∷◌, Option, Some, None, Contains, refl, ap, sym, ◌∙◌, arith}
use Rattle.std.specs.List.{list_all}
use Rattle.std.proofs.lemmas.Bool.{false≢true}
use Rattle.std.proofs.lemmas.List.Folds.{list_all_at}
use Rattle.lw_verilog.specs.declared.kind.Kind.{Kind}
use Rattle.lw_verilog.specs.declared.kind.Kind.TheVariants as kind
use Rattle.lw_verilog.specs.declared.place.Move.{Move}
use Rattle.lw_verilog.specs.declared.place.Place.{Place}
use Rattle.lw_verilog.specs.declared.place.Place.TheVariants as place
use Rattle.lw_verilog.specs.Grammar.{move_at}
use Rattle.lw_verilog.specs.Readings.{is_word}
use Rattle.lw_verilog.specs.Tokens.{is_name}

abbrev places : List Place
places = place.Begin ∷ place.ModelName ∷ place.BehindModel ∷ place.FirstPort ∷ place.NextPort ∷ place.BehindPort ∷ place.BehindPorts ∷ place.Item ∷ place.FirstInput ∷ place.NextInput ∷ place.BehindInput ∷ place.FirstOutput ∷ place.NextOutput ∷ place.BehindOutput ∷ place.NextWire ∷ place.BehindWire ∷ place.Target ∷ place.BehindTarget ∷ place.Source ∷ place.BehindSource ∷ place.InstanceName ∷ place.BehindInstance ∷ place.FirstTie ∷ place.NextTie ∷ place.Pin ∷ place.BehindPin ∷ place.Net ∷ place.BehindNet ∷ place.BehindTie ∷ place.BehindTies ∷ place.Done ∷ []

abbrev kinds : List Kind
kinds = kind.Gap ∷ kind.Name ∷ kind.Module ∷ kind.EndModule ∷ kind.Input ∷ kind.Output ∷ kind.Wire ∷ kind.Assign ∷ kind.Open ∷ kind.Close ∷ kind.Comma ∷ kind.Semicolon ∷ kind.Point ∷ kind.Equals ∷ kind.Strange ∷ kind.Unclosed ∷ kind.End ∷ []

place-among : (p : Place) → Contains places p
place-among place.Begin = (0, omega arith, refl)
place-among place.ModelName = (1, omega arith, refl)
place-among place.BehindModel = (2, omega arith, refl)
place-among place.FirstPort = (3, omega arith, refl)
place-among place.NextPort = (4, omega arith, refl)
place-among place.BehindPort = (5, omega arith, refl)
place-among place.BehindPorts = (6, omega arith, refl)
place-among place.Item = (7, omega arith, refl)
place-among place.FirstInput = (8, omega arith, refl)
place-among place.NextInput = (9, omega arith, refl)
place-among place.BehindInput = (10, omega arith, refl)
place-among place.FirstOutput = (11, omega arith, refl)
place-among place.NextOutput = (12, omega arith, refl)
place-among place.BehindOutput = (13, omega arith, refl)
place-among place.NextWire = (14, omega arith, refl)
place-among place.BehindWire = (15, omega arith, refl)
place-among place.Target = (16, omega arith, refl)
place-among place.BehindTarget = (17, omega arith, refl)
place-among place.Source = (18, omega arith, refl)
place-among place.BehindSource = (19, omega arith, refl)
place-among place.InstanceName = (20, omega arith, refl)
place-among place.BehindInstance = (21, omega arith, refl)
place-among place.FirstTie = (22, omega arith, refl)
place-among place.NextTie = (23, omega arith, refl)
place-among place.Pin = (24, omega arith, refl)
place-among place.BehindPin = (25, omega arith, refl)
place-among place.Net = (26, omega arith, refl)
place-among place.BehindNet = (27, omega arith, refl)
place-among place.BehindTie = (28, omega arith, refl)
place-among place.BehindTies = (29, omega arith, refl)
place-among place.Done = (30, omega arith, refl)

kind-among : (k : Kind) → Contains kinds k
kind-among kind.Gap = (0, omega arith, refl)
kind-among kind.Name = (1, omega arith, refl)
kind-among kind.Module = (2, omega arith, refl)
kind-among kind.EndModule = (3, omega arith, refl)
kind-among kind.Input = (4, omega arith, refl)
kind-among kind.Output = (5, omega arith, refl)
kind-among kind.Wire = (6, omega arith, refl)
kind-among kind.Assign = (7, omega arith, refl)
kind-among kind.Open = (8, omega arith, refl)
kind-among kind.Close = (9, omega arith, refl)
kind-among kind.Comma = (10, omega arith, refl)
kind-among kind.Semicolon = (11, omega arith, refl)
kind-among kind.Point = (12, omega arith, refl)
kind-among kind.Equals = (13, omega arith, refl)
kind-among kind.Strange = (14, omega arith, refl)
kind-among kind.Unclosed = (15, omega arith, refl)
kind-among kind.End = (16, omega arith, refl)

-- whether this move fits a token of this kind
abbrev fits : Kind → Option Move → Bool
fits k None = true
fits k (Some m) = not (is_word m.task) || is_name k

all-fit : list_all (λ p. list_all (λ k. fits k (move_at p k)) kinds) places ≡ true
unfolding move_at
all-fit = refl

holds-among : {X : Type 0} (test : X → Bool) (xs : List X) (x : X) → Contains xs x → list_all test xs ≡ true → test x ≡ true
holds-among test xs x (i, lt, e) all = by_test (test x) refl
  where
    by_test : (b : Bool) → test x ≡ b → b ≡ true
    by_test true is = refl
    by_test false is = absurd (false≢true (sym (list_all_at test xs i x lt (ap test e ∙ is)) ∙ all))

fit : (p : Place) (k : Kind) (m : Move) → Some m ≡ move_at p k → fits k (Some m) ≡ true
fit p k m is =
    ap (fits k) is
    ∙ holds-among (λ j. fits j (move_at p j)) kinds k (kind-among k) (holds-among (λ q. list_all (λ j. fits j (move_at q j)) kinds) places p (place-among p) all-fit)

-- only a name does the task of a name
pub word_named : (p : Place) (k : Kind) (m : Move) → Some m ≡ move_at p k → is_word m.task ≡ true → is_name k ≡ true
word_named p k m is word = by_test (is_word m.task) (is_name k) word (fit p k m is)
  where
    by_test : (w n : Bool) → w ≡ true → (not w || n) ≡ true → n ≡ true
    by_test w true word both = refl
    by_test true false word both = both
    by_test false false word both = word
