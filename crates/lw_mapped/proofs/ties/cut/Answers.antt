use Rattle.std.proofs.Common.{◌≤◌, length, not, rules}
use Rattle.std.specs.List.{position_or_len}
use Rattle.std.proofs.lemmas.List.Sums.{prefix_len-le-length}
use Rattle.lw_mapped.specs.GateLines.{is_equals}
use Rattle.lw_mapped.proofs.ties.cut.Goals as goal

pub overflow_add-place : goal.overflow_add-place
overflow_add-place c =
    let low : position_or_len is_equals c.args.word.now ≤ length c.args.word.now = prefix_len-le-length (λ b. not (is_equals b)) c.args.word.now in
    let is = c.place_of_equals-place.ensures in
    search rules
