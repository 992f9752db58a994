-- Networks of tables.
use Rattle.std.specs.Prelude.{ℕ, ◌<◌, ◌^◌, ◌≡◌, List, All, Contains, length, map, Option, Some, slice_get, ◌++◌}
use Rattle.lw_pool.specs.declared.id.ClassId.{ClassId}
use Rattle.lw_laws.specs.Graphs.{Graph}
use Rattle.lw_laws.specs.Extracts.{AreDistinctLeaves}
use Rattle.lw_laws.specs.Names.{gate_names, free_names}
use Rattle.lw_lut.specs.Choosing.{AreTables}
use Rattle.lw_lut.specs.declared.ports.TablePorts.{TablePorts}
use Rattle.lw_lut.specs.declared.table.Table.{Table}
use Rattle.lw_pool.specs.Numbers.{numbers}

abbrev pub table_classes : List Table → List ℕ
table_classes tables = map (λ (t : Table). t.out.0) tables

-- the name of each table: that of the first output of its class, or else the next of n1, n2 and so on that no port has
abbrev pub table_names : TablePorts → List Table → List (List ℕ)
table_names ports tables =
    gate_names ports.outputs (numbers ports.roots) (free_names (ports.inputs ++ ports.outputs) (length tables))
    (table_classes tables)

-- the ports, the class of each input, the tables, and a name for each of them
pub record PlainTableNet : Type 0 where
  pub ports : TablePorts
  pub inputs : List ClassId
  pub tables : List Table
  pub names : List (List ℕ)

-- the class of each net: the inputs' classes and then the tables'
abbrev pub net_classes : PlainTableNet → List ℕ
net_classes n = numbers n.inputs ++ table_classes n.tables

-- What each network of tables keeps: its classes differ, and each root and each fan-in is one of them.
pub record IsTableNet (n : PlainTableNet) : Type 0 where
  pub once : (i j c : ℕ) → slice_get (net_classes n) i ≡ Some c → slice_get (net_classes n) j ≡ Some c → i ≡ j
  pub roots : (c : ℕ) → Contains (numbers n.ports.roots) c → Contains (net_classes n) c
  pub fanins : (t : Table) (c : ℕ) → Contains n.tables t → Contains (numbers t.fanins) c → Contains (net_classes n) c

-- a name for each input of the graph, whose classes differ, and for each output one of the graph's classes
pub record AreFit (g : Graph) (ports : TablePorts) : Type 0 where
  pub one_name : length ports.inputs ≡ length g.leaves
  pub one_root : length ports.roots ≡ length ports.outputs
  pub few_outputs : length ports.outputs < 2 ^ 32
  pub in_range : All (λ (root : ClassId). root.0 < length g.pairs) ports.roots
  pub apart : AreDistinctLeaves g

-- One table for each needed class that is no input's, and the names of these tables.
pub record IsTableNetOf (g : Graph) (most : ℕ) (depths : List (Option ℕ)) (ports : TablePorts)
    (n : PlainTableNet) : Type 0 where
  pub ports_are : n.ports ≡ ports
  pub inputs : numbers n.inputs ≡ g.leaves
  pub tables : AreTables g most depths (numbers ports.roots) n.tables
  pub names : n.names ≡ table_names ports n.tables
