-- The grammar, as a table: which tokens may stand at a place, and what each does there.
use Rattle.std.specs.Prelude.{Option, Some, None}
use Rattle.lw_verilog.specs.declared.kind.Kind.{Kind}
use Rattle.lw_verilog.specs.declared.kind.Kind.TheVariants as kind
use Rattle.lw_verilog.specs.declared.place.Move.{Move}
use Rattle.lw_verilog.specs.declared.place.Place.{Place}
use Rattle.lw_verilog.specs.declared.place.Place.TheVariants as place
use Rattle.lw_verilog.specs.declared.place.Task.{Task}
use Rattle.lw_verilog.specs.declared.place.Task.TheVariants as task

abbrev pub moved : Place → Task → Option Move
moved next what = Some (record { next = next; task = what })

-- What a token of a kind does at a place; nothing where none may stand there.
unfoldable pub move_at : Place → Kind → Option Move
move_at place.Begin kind.Module = moved place.ModelName task.Skip
move_at place.ModelName kind.Name = moved place.BehindModel task.Word
move_at place.BehindModel kind.Open = moved place.FirstPort task.Skip
move_at place.BehindModel kind.Semicolon = moved place.Item task.Header
move_at place.FirstPort kind.Name = moved place.BehindPort task.Word
move_at place.FirstPort kind.Close = moved place.BehindPorts task.Skip
move_at place.NextPort kind.Name = moved place.BehindPort task.Word
move_at place.BehindPort kind.Comma = moved place.NextPort task.Skip
move_at place.BehindPort kind.Close = moved place.BehindPorts task.Skip
move_at place.BehindPorts kind.Semicolon = moved place.Item task.Header
move_at place.Item kind.Name = moved place.InstanceName task.Cell
move_at place.Item kind.Input = moved place.FirstInput task.Skip
move_at place.Item kind.Output = moved place.FirstOutput task.Skip
move_at place.Item kind.Wire = moved place.NextWire task.Skip
move_at place.Item kind.Assign = moved place.Target task.Skip
move_at place.Item kind.EndModule = moved place.Done task.Finish
move_at place.FirstInput kind.Name = moved place.BehindInput task.Declare
move_at place.FirstInput kind.Wire = moved place.NextInput task.Skip
move_at place.NextInput kind.Name = moved place.BehindInput task.Declare
move_at place.BehindInput kind.Comma = moved place.NextInput task.Skip
move_at place.BehindInput kind.Semicolon = moved place.Item task.Inputs
move_at place.FirstOutput kind.Name = moved place.BehindOutput task.Declare
move_at place.FirstOutput kind.Wire = moved place.NextOutput task.Skip
move_at place.NextOutput kind.Name = moved place.BehindOutput task.Declare
move_at place.BehindOutput kind.Comma = moved place.NextOutput task.Skip
move_at place.BehindOutput kind.Semicolon = moved place.Item task.Outputs
move_at place.NextWire kind.Name = moved place.BehindWire task.Word
move_at place.BehindWire kind.Comma = moved place.NextWire task.Skip
move_at place.BehindWire kind.Semicolon = moved place.Item task.Forget
move_at place.Target kind.Name = moved place.BehindTarget task.Word
move_at place.BehindTarget kind.Equals = moved place.Source task.Skip
move_at place.Source kind.Name = moved place.BehindSource task.Word
move_at place.BehindSource kind.Semicolon = moved place.Item task.Assignment
move_at place.InstanceName kind.Name = moved place.BehindInstance task.Word
move_at place.BehindInstance kind.Open = moved place.FirstTie task.Skip
move_at place.FirstTie kind.Point = moved place.Pin task.Skip
move_at place.FirstTie kind.Close = moved place.BehindTies task.Skip
move_at place.NextTie kind.Point = moved place.Pin task.Skip
move_at place.Pin kind.Name = moved place.BehindPin task.Pin
move_at place.BehindPin kind.Open = moved place.Net task.Skip
move_at place.Net kind.Name = moved place.BehindNet task.Word
move_at place.BehindNet kind.Close = moved place.BehindTie task.Skip
move_at place.BehindTie kind.Comma = moved place.NextTie task.Skip
move_at place.BehindTie kind.Close = moved place.BehindTies task.Skip
move_at place.BehindTies kind.Semicolon = moved place.Item task.Instance
move_at other what = None
