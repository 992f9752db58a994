use Rattle.std.proofs.Common.{◌≡◌, ◌∙◌, ◌+◌, ap, length, Some, slice_get, subst}
use Rattle.lw_facts.proofs.Lists.{all_at}
use Rattle.lw_choices.specs.Choices.{Choice, IsOfLibrary}
use Rattle.lw_choices.specs.Stands.{plain_row}
use Rattle.lw_curves.proofs.Falling.{firsts_pushed}
use Rattle.lw_choices.proofs.Lists.{length_push}
use Rattle.lw_curves.proofs.tallies.first_tallies.Goals as goal

pub first_tally-requires-clause-of_library : goal.first_tally-requires-clause-of_library
first_tally-requires-clause-of_library c =
    all_at (λ (r : Choice). IsOfLibrary c.args.lib.now r.part) c.args.rows.now c.loop-number.number (plain_row c.at.result) c.requires c.at.ensures.choice

pub loop-number-preserved : goal.loop-number-preserved
loop-number-preserved c =
    let k = c.loop-number.number in
    let tallies = c.loop-number.tallies.items in
    let r = plain_row c.at.result in
    let t = c.first_tally.result in
    record {
      count = ap length c.in_ok-push.ensures.items ∙ (length_push tallies t ∙ ap (λ n. n + 1) c.loop-number.invariant.count);
      each = λ n x y xt yt. firsts_pushed c.args.lib.now c.args.rows.now tallies k r t c.loop-number.invariant.count c.at.ensures.choice c.first_tally.ensures c.loop-number.invariant.each n x y xt (subst (λ ts. slice_get ts n ≡ Some y) c.in_ok-push.ensures.items yt);
    }
