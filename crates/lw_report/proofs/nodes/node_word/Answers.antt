use Rattle.std.proofs.Common.{◌≡◌, ◌<◌, ◌^◌, ℕ, Bool, not, List, map, sym, ap, ap₂, ◌∙◌, arith}
use Rattle.std.specs.List.{list_any}
use Rattle.lw_pool.specs.declared.id.NetId.{NetId}
use Rattle.lw_laws.specs.Networks.{agrees, row_value}
use Rattle.lw_net.specs.Signs.{asked}
use Rattle.lw_genlib.specs.Words.{bit}
use Rattle.lw_report.specs.Blocks.{bits_at}
use Rattle.lw_report.proofs.Bits.{bit_not_is}
use Rattle.lw_report.proofs.nodes.node_word.Goals as goal
use Rattle.lw_pool.specs.Numbers.{values_at}

pub returns-else-node : goal.returns-else-node
returns-else-node c = λ k below.
    let nets = c.args.nets.now in
    let node = c.args.node.now in
    let word = c.some_row_word-some.result in
    let small : word < 2 ^ 64 = omega arith in
    let any : Bool = list_any (row_value (values_at (bits_at k nets) node.fanins)) (map (map asked) node.rows) in
    let some : bit k word ≡ any = c.some_row_word-some.ensures k below ∙ ap₂ (λ (fanins : List NetId) (rows : List (List ℕ)). list_any (row_value (values_at (bits_at k nets) fanins)) (map (map asked) rows)) c.as_slice-2.ensures c.as_slice.ensures in
    bit_not_is k word below small ∙ (ap not some ∙ sym (ap (λ on. agrees on any) c.if-node.false))
