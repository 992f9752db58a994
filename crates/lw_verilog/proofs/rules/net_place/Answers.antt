use Rattle.std.proofs.Common.{◌<◌, ◌≤◌, ◌+◌, [], length, Some, ap, sym, ◌∙◌, arith}
use Rattle.std.specs.List.{list_any}
use Rattle.std.proofs.lemmas.Option.{slice_get-get_or}
use Rattle.lw_verilog.specs.Statements.{is_for}
use Rattle.lw_verilog.proofs.Named.{pair-none, given-here, given-later, net-here, net-later}
use Rattle.lw_verilog.proofs.rules.net_place.Goals as goal

pub returns-then-is_at : goal.returns-then-is_at
returns-then-is_at c =
    let names = c.args.names.now in
    let place = c.loop-place.place in
    let below : place + 1 < length names = omega (arith, c.if-place-count.true, c.len-count.ensures) in
    let hit = sym c.is_at.ensures ∙ c.if-is_at.true in
    record {
      given = sym c.loop-place.invariant.given ∙ given-here names place [] c.args.formal.now below hit;
      net = slice_get-get_or names (place + 1) [] below
          ∙ ap (λ n. Some n) (sym (net-here names place [] c.args.formal.now below hit) ∙ c.loop-place.invariant.net);
    }

pub loop-place-preserved : goal.loop-place-preserved
loop-place-preserved c =
    let names = c.args.names.now in
    let place = c.loop-place.place in
    let below : place + 1 < length names = omega (arith, c.if-place-count.true, c.len-count.ensures) in
    let miss = sym c.is_at.ensures ∙ c.if-is_at.false in
    record {
      from = omega (arith, c.loop-place.invariant.from);
      given = sym (given-later names place [] c.args.formal.now below miss) ∙ c.loop-place.invariant.given;
      net = sym (net-later names place [] c.args.formal.now below miss) ∙ c.loop-place.invariant.net;
    }

pub returns-else-place-count : goal.returns-else-place-count
returns-else-place-count c =
    let names = c.args.names.now in
    let place = c.loop-place.place in
    let far : length names ≤ place + 1 = omega (arith, c.if-place-count.false, c.len-count.ensures) in
    sym c.loop-place.invariant.given ∙ ap (list_any (is_for c.args.formal.now)) (pair-none names place far)
