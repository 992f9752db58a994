-- What a network of tables keeps for its text.
use Rattle.std.specs.Prelude.{ℕ, ◌+◌, ◌^◌, ◌<◌, ◌≤◌, ◌≡◌, List, [], ◌∷◌, ◌++◌, All, Contains, length, take, codes, Some}
use Rattle.std.specs.Prelude.{slice_get}
use Rattle.lw_pool.specs.declared.id.ClassId.{ClassId}
use Rattle.lw_pool.specs.declared.latch.Frame.{Frame}
use Rattle.lw_pool.specs.Numbers.{numbers}
use Rattle.lw_lut.specs.Nets.{PlainTableNet, IsTableNet, net_classes, table_classes}
use Rattle.lw_lut.specs.declared.ports.TablePorts.{TablePorts}
use Rattle.lw_lut.specs.declared.table.Table.{Table}
use Rattle.lw_words.specs.Texts.{line}

-- at each class that stands in the list there is its place in it
abbrev pub HasPlaces : List ℕ → List ℕ → Type 0
HasPlaces classes places = (i c : ℕ) → slice_get classes i ≡ Some c → slice_get places c ≡ Some i

-- at the class of each input and each table there is its place among the inputs and then the tables
abbrev pub ArePlacesOf : List ClassId → List Table → List ℕ → Type 0
ArePlacesOf inputs tables places = HasPlaces (numbers inputs ++ table_classes tables) places

-- inputs and tables at different classes, all of them below n
pub record ArePlaceable (n : ℕ) (inputs : List ClassId) (tables : List Table) : Type 0 where
  pub few : length inputs + length tables < 2 ^ 32
  pub inputs_below : All (λ (input : ClassId). input.0 < n) inputs
  pub tables_below : All (λ (x : Table). x.out.0 < n) tables
  pub once : (i j c : ℕ) → slice_get (numbers inputs ++ table_classes tables) i ≡ Some c
      → slice_get (numbers inputs ++ table_classes tables) j ≡ Some c → i ≡ j

-- a root below n for each output
pub record HaveRootsBelow (n : ℕ) (ports : TablePorts) : Type 0 where
  pub few_outputs : length ports.outputs < 2 ^ 32
  pub one_root : length ports.roots ≡ length ports.outputs
  pub below : All (λ (root : ClassId). root.0 < n) ports.roots

-- A network of tables with a name for each net, an output for each root and no more than six fan-ins, and the places of
-- its classes.
pub record IsPlaced (n : PlainTableNet) (places : List ℕ) : Type 0 where
  pub kept : IsTableNet n
  pub inputs : length n.ports.inputs ≡ length n.inputs
  pub names : length n.names ≡ length n.tables
  pub roots : length n.ports.roots ≡ length n.ports.outputs
  pub few : All (λ (t : Table). length t.fanins ≤ 6) n.tables
  pub placed : HasPlaces (net_classes n) places

-- the table and its fan-ins, at most six, have nets
pub record HasNets (n : PlainTableNet) (t : Table) : Type 0 where
  pub few : length t.fanins ≤ 6
  pub out : Contains (net_classes n) t.out.0
  pub fanins : All (λ (class : ClassId). Contains (net_classes n) class.0) t.fanins

-- the model's name and the file's own ports
abbrev pub header_text : PlainTableNet → Frame → List ℕ
header_text n frame =
    line (codes ".model") (n.ports.model ∷ [])
    ++ (line (codes ".inputs") (take frame.inputs n.ports.inputs)
    ++ line (codes ".outputs") (take frame.outputs n.ports.outputs))

-- a node that passes a net on to an output
abbrev pub wire : List ℕ → List ℕ → List ℕ
wire net output = line (codes ".names") (net ∷ output ∷ []) ++ codes "1 1\n"
