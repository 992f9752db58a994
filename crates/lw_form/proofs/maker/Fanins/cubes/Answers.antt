use Rattle.std.proofs.Common.{◌∙◌, sym, ap, length, map, get_or}
use Rattle.std.proofs.lemmas.List.{length-map}
use Rattle.lw_net.specs.Signs.{asked}
use Rattle.lw_form.specs.Tables.{made}
use Rattle.lw_form.proofs.Joining.{below_kept_more}
use Rattle.lw_form.proofs.Rows.{columns_at, cubes_first, cubes_more}
use Rattle.lw_form.proofs.maker.Fanins.cubes.Goals as goal

pub loop-row-init : goal.loop-row-init
loop-row-init c = cubes_first _ _ _ _ _ c.new-cubes.ensures.items

pub product-requires-clause-fanins : goal.product-requires-clause-fanins
product-requires-clause-fanins c = below_kept_more (made c.args.table.now) (made c.loop-row.table) c.args.self.now.forms.now c.loop-row.invariant.more c.requires.below

pub product-requires-clause-columns : goal.product-requires-clause-columns
product-requires-clause-columns c = sym (length-map c.as_slice.result.now asked) ∙ (ap length c.as_slice.ensures ∙ columns_at (length c.args.self.now.forms.now) c.args.rows.now c.loop-row.row-index c.row-item.result c.requires.columns c.loop-row-test.true c.row-item.is)

pub loop-row-preserved : goal.loop-row-preserved
loop-row-preserved c = cubes_more c.args.self.now.maker.now.width c.args.table.now c.loop-row.table c.product.new.table c.args.self.now.forms.now c.args.rows.now c.loop-row.row-index (map asked c.as_slice.result.now) c.loop-row.cubes.items c.push.new.self.items c.in_ok-product.field-0 c.requires.below c.loop-row-test.true (c.as_slice.ensures ∙ (c.row-item.is ∙ ap (get_or c.args.rows.now c.loop-row.row-index) (sym c.as_slice.ensures))) c.in_ok-product.ensures c.in_ok-push.ensures.ok c.loop-row.invariant
