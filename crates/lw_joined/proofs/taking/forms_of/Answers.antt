use Rattle.std.proofs.Common.{refl}
use Rattle.lw_joined.proofs.LeftOut.{is_within, past_splits}
use Rattle.lw_joined.proofs.taking.forms_of.Goals as goal

pub forms-requires : goal.forms-requires
forms-requires c = record { low = c.args.options.wide.0; high = c.args.options.wide.1 }

pub returns-then-split_count-gt-MOST_SPLITS : goal.returns-then-split_count-gt-MOST_SPLITS
returns-then-split_count-gt-MOST_SPLITS c =
    past_splits c.args.options c.args.union.net c.in-Ok.forms c.split_count.ensures.kept c.in-Ok.ensures.listed c.split_count.result c.split_count.ensures.count c.if-split_count-gt-MOST_SPLITS.true

pub returns : goal.returns
returns c = record {
  union = refl;
  ends = refl;
  within = is_within c.args.options c.args.union.net c.in-Ok.forms c.split_count.ensures.kept c.in-Ok.ensures.listed c.split_count.result c.split_count.ensures.count c.if-split_count-gt-MOST_SPLITS.false;
  forms = c.in-Ok.ensures.listed;
}
