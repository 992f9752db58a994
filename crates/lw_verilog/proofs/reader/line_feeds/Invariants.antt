use Rattle.std.proofs.Common.{◌≡◌, ◌≤◌, take}
use Rattle.lw_verilog.specs.Tokens.{line_feeds}
use Rattle.lw_verilog.proofs.reader.line_feeds.Given as goal

abbrev pub invariant-loop-b : goal.invariant-loop-b
invariant-loop-b l = record {
  counted : l.count ≡ line_feeds (take l.b-index l.bytes);
  few : l.count ≤ l.b-index;
}
