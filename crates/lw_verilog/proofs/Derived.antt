-- What the grammar derives, the table takes.
use Rattle.std.proofs.Common.{◌≡◌, ◌⊎◌, inl, inr, List, [], ◌∷◌, refl, sym, subst}
use Rattle.lw_verilog.specs.declared.kind.Kind.{Kind}
use Rattle.lw_verilog.specs.declared.kind.Kind.TheVariants as kind
use Rattle.lw_verilog.specs.declared.place.Place.{Place}
use Rattle.lw_verilog.specs.declared.place.Place.TheVariants as place
use Rattle.lw_verilog.specs.declared.place.Task.{Task}
use Rattle.lw_verilog.specs.declared.place.Task.TheVariants as task
use Rattle.lw_verilog.specs.Grammar.{move_at, moved}
use Rattle.lw_verilog.specs.Phrases.{Accepts, Derives, DerivesBefore, Repeats, Runs, connection, connections, file, further_connections, further_names, item, names, ports}
use Rattle.lw_verilog.specs.Phrases.Repeats.{stop, again}

-- the tokens lead to the end of the module
abbrev pub Ends : Place → List Kind → Type 0
Ends p tokens = Runs p tokens place.Done

abbrev Goes : Place → List Kind → Place → List Kind → Type 0
Goes p xs q ys = Ends q ys → Ends p xs

goes : (p q : Place) (k : Kind) (t : Task) (xs ys : List Kind) → move_at p k ≡ moved q t → xs ≡ k ∷ ys → Goes p xs q ys
goes p q k t xs ys moves e run = subst (λ l. Ends p l) (sym e) (record { next = q; task = t }, moves, run)

stays : (p : Place) (xs ys : List Kind) → xs ≡ ys → Goes p xs p ys
stays p xs ys e run = subst (λ l. Ends p l) (sym e) run

-- Names with commas between: the first is read at one place, each other at a second, and what
-- follows a name at a third.
module _ (first next behind : Place) (t u : Task) (begins : move_at first kind.Name ≡ moved behind t) (goes_on : move_at next kind.Name ≡ moved behind t) (comma : move_at behind kind.Comma ≡ moved next u) where
  further-go : (ys xs : List Kind) → DerivesBefore further_names xs ys → Goes behind xs behind ys
  further-go ys xs (stop e) run = stays behind xs ys e run
  further-go ys xs (again {next = m} (n, c, w) r) run = goes behind next kind.Comma u xs n comma c (goes next behind kind.Name t n m goes_on w (further-go ys m r run))

  names-go : (xs ys : List Kind) → DerivesBefore names xs ys → Goes first xs behind ys
  names-go xs ys (m, e, r) run = goes first behind kind.Name t xs m begins e (further-go ys m r run)

connection-go : (p : Place) → move_at p kind.Point ≡ moved place.Pin task.Skip → (xs ys : List Kind) → DerivesBefore connection xs ys → Goes p xs place.BehindTie ys
unfolding move_at
connection-go p moves xs ys (a, e, (b, f, (c, g, (d, h, i)))) run =
    goes p place.Pin kind.Point task.Skip xs a moves e
    (goes place.Pin place.BehindPin kind.Name task.Pin a b refl f
    (goes place.BehindPin place.Net kind.Open task.Skip b c refl g
    (goes place.Net place.BehindNet kind.Name task.Word c d refl h
    (goes place.BehindNet place.BehindTie kind.Close task.Skip d ys refl i run))))

connections-more : (ys xs : List Kind) → DerivesBefore further_connections xs ys → Goes place.BehindTie xs place.BehindTie ys
unfolding move_at
connections-more ys xs (stop e) run = stays place.BehindTie xs ys e run
connections-more ys xs (again {next = m} (n, c, one) r) run =
    goes place.BehindTie place.NextTie kind.Comma task.Skip xs n refl c (connection-go place.NextTie refl n m one (connections-more ys m r run))

connections-go : (xs ys : List Kind) → DerivesBefore connections xs ys → Goes place.FirstTie xs place.BehindTie ys
unfolding move_at
connections-go xs ys (m, one, r) run = connection-go place.FirstTie refl xs m one (connections-more ys m r run)

item-go : (xs ys : List Kind) → DerivesBefore item xs ys → Goes place.Item xs place.Item ys
unfolding move_at
item-go xs ys (inl (a, inl e, (b, inl same, (c, ns, f)))) run =
    goes place.Item place.FirstInput kind.Input task.Skip xs a refl e
    (stays place.FirstInput a b same
    (names-go place.FirstInput place.NextInput place.BehindInput task.Declare task.Skip refl refl refl b c ns
    (goes place.BehindInput place.Item kind.Semicolon task.Inputs c ys refl f run)))
item-go xs ys (inl (a, inl e, (b, inr w, (c, ns, f)))) run =
    goes place.Item place.FirstInput kind.Input task.Skip xs a refl e
    (goes place.FirstInput place.NextInput kind.Wire task.Skip a b refl w
    (names-go place.NextInput place.NextInput place.BehindInput task.Declare task.Skip refl refl refl b c ns
    (goes place.BehindInput place.Item kind.Semicolon task.Inputs c ys refl f run)))
item-go xs ys (inl (a, inr e, (b, inl same, (c, ns, f)))) run =
    goes place.Item place.FirstOutput kind.Output task.Skip xs a refl e
    (stays place.FirstOutput a b same
    (names-go place.FirstOutput place.NextOutput place.BehindOutput task.Declare task.Skip refl refl refl b c ns
    (goes place.BehindOutput place.Item kind.Semicolon task.Outputs c ys refl f run)))
item-go xs ys (inl (a, inr e, (b, inr w, (c, ns, f)))) run =
    goes place.Item place.FirstOutput kind.Output task.Skip xs a refl e
    (goes place.FirstOutput place.NextOutput kind.Wire task.Skip a b refl w
    (names-go place.NextOutput place.NextOutput place.BehindOutput task.Declare task.Skip refl refl refl b c ns
    (goes place.BehindOutput place.Item kind.Semicolon task.Outputs c ys refl f run)))
item-go xs ys (inr (inl (a, e, (b, ns, f)))) run =
    goes place.Item place.NextWire kind.Wire task.Skip xs a refl e
    (names-go place.NextWire place.NextWire place.BehindWire task.Word task.Skip refl refl refl a b ns
    (goes place.BehindWire place.Item kind.Semicolon task.Forget b ys refl f run))
item-go xs ys (inr (inr (inl (a, e, (b, f, (c, g, (d, h, i))))))) run =
    goes place.Item place.Target kind.Assign task.Skip xs a refl e
    (goes place.Target place.BehindTarget kind.Name task.Word a b refl f
    (goes place.BehindTarget place.Source kind.Equals task.Skip b c refl g
    (goes place.Source place.BehindSource kind.Name task.Word c d refl h
    (goes place.BehindSource place.Item kind.Semicolon task.Assignment d ys refl i run))))
item-go xs ys (inr (inr (inr (a, e, (b, f, (c, g, (d, inl same, (h, i, j)))))))) run =
    goes place.Item place.InstanceName kind.Name task.Cell xs a refl e
    (goes place.InstanceName place.BehindInstance kind.Name task.Word a b refl f
    (goes place.BehindInstance place.FirstTie kind.Open task.Skip b c refl g
    (stays place.FirstTie c d same
    (goes place.FirstTie place.BehindTies kind.Close task.Skip d h refl i
    (goes place.BehindTies place.Item kind.Semicolon task.Instance h ys refl j run)))))
item-go xs ys (inr (inr (inr (a, e, (b, f, (c, g, (d, inr cs, (h, i, j)))))))) run =
    goes place.Item place.InstanceName kind.Name task.Cell xs a refl e
    (goes place.InstanceName place.BehindInstance kind.Name task.Word a b refl f
    (goes place.BehindInstance place.FirstTie kind.Open task.Skip b c refl g
    (connections-go c d cs
    (goes place.BehindTie place.BehindTies kind.Close task.Skip d h refl i
    (goes place.BehindTies place.Item kind.Semicolon task.Instance h ys refl j run)))))

items-go : (ys xs : List Kind) → Repeats (DerivesBefore item) ys xs → Goes place.Item xs place.Item ys
items-go ys xs (stop e) run = stays place.Item xs ys e run
items-go ys xs (again {next = m} one r) run = item-go xs m one (items-go ys m r run)

ports-go : (xs ys : List Kind) → (xs ≡ ys) ⊎ DerivesBefore ports xs ys → (zs : List Kind) → ys ≡ kind.Semicolon ∷ zs → Ends place.Item zs → Ends place.BehindModel xs
unfolding move_at
ports-go xs ys (inl same) zs e run = stays place.BehindModel xs ys same (goes place.BehindModel place.Item kind.Semicolon task.Header ys zs refl e run)
ports-go xs ys (inr (a, f, (b, inl same, g))) zs e run =
    goes place.BehindModel place.FirstPort kind.Open task.Skip xs a refl f
    (stays place.FirstPort a b same
    (goes place.FirstPort place.BehindPorts kind.Close task.Skip b ys refl g (goes place.BehindPorts place.Item kind.Semicolon task.Header ys zs refl e run)))
ports-go xs ys (inr (a, f, (b, inr ns, g))) zs e run =
    goes place.BehindModel place.FirstPort kind.Open task.Skip xs a refl f
    (names-go place.FirstPort place.NextPort place.BehindPort task.Word task.Skip refl refl refl a b ns
    (goes place.BehindPort place.BehindPorts kind.Close task.Skip b ys refl g (goes place.BehindPorts place.Item kind.Semicolon task.Header ys zs refl e run)))

pub derived-accepted : (tokens : List Kind) → Derives file tokens → Accepts tokens
unfolding move_at
derived-accepted tokens (a, e, (b, f, (c, ps, (d, g, (h, items, i))))) =
    goes place.Begin place.ModelName kind.Module task.Skip tokens a refl e
    (goes place.ModelName place.BehindModel kind.Name task.Word a b refl f
    (ports-go b c ps d g (items-go h d items (goes place.Item place.Done kind.EndModule task.Finish h [] refl i refl))))
