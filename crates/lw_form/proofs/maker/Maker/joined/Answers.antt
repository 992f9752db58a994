use Rattle.std.proofs.Common.{refl, arith}
use Rattle.lw_form.proofs.Joining.{joined_one, joined_more, place_fits}
use Rattle.lw_form.proofs.maker.Maker.joined.Goals as goal

pub returns-then-forms-eq1 : goal.returns-then-forms-eq1
returns-then-forms-eq1 c = λ width wide few. joined_one c.args.table.now c.args.forms.now _ c.if-forms-eq1.true refl c.requires.below c.requires.clean width wide

pub overflow_mul-result : goal.overflow_mul-result
overflow_mul-result c = let f = place_fits _ _ _ c.len-count.ensures.made c.in_ok-place.ensures.place in omega arith

pub returns : goal.returns
returns c = λ width wide few. joined_more c.args.table.now c.add.new.self c.args.forms.now c.operands.result c.in_ok-place.place c.if-forms-eq1.false c.requires.some c.operands.ensures c.in_ok-place.ensures.made c.in_ok-place.ensures.place c.requires.clean width wide few
