use Rattle.std.proofs.Common.{◌≡◌, map, take, drop}
use Rattle.lw_net.specs.Closing.{number_in, undefined_in, signals_of}
use Rattle.lw_net.specs.Numbers.{draft_in}
use Rattle.lw_net.specs.Written.{names_in}
use Rattle.lw_net.proofs.places.row.Given as goal

abbrev pub invariant-loop-number : goal.invariant-loop-number
invariant-loop-number l = record {
  so_far : l.numbers.items ≡ map (number_in (signals_of (draft_in l.w))) (names_in l.w.names.keys (take l.number-index l.list));
  rest : undefined_in (signals_of (draft_in l.w)) (names_in l.w.names.keys (drop l.number-index l.list)) ≡ undefined_in (signals_of (draft_in l.w)) (names_in l.w.names.keys l.list);
}
