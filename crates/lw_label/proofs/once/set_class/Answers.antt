use Rattle.std.proofs.Common.{◌≡◌, ◌/◌, refl}
use Rattle.lw_bounds.proofs.Tables.{but_both, lowered_settled, rows_fit_but}
use Rattle.lw_label.proofs.OneVisit.{pair_out}
use Rattle.lw_label.proofs.once.set_class.Goals as goal

pub renew-requires-clause-rows : goal.renew-requires-clause-rows
renew-requires-clause-rows c =
    rows_fit_but (λ n. n ≡ c.args.class.0) c.args.bounds.now c.forget.new.self c.args.graph.now c.forget.ensures.others c.requires.around.rows

pub renew-requires-clause-one_each : goal.renew-requires-clause-one_each
renew-requires-clause-one_each c = c.requires.around.one_each

pub returns-clause-others : goal.returns-clause-others
returns-clause-others c =
    let class = c.args.class.0 in
    but_both (λ n. n ≡ class) (λ n. n ≡ class) (λ n. n ≡ class) c.args.bounds.now c.forget.new.self c.renew.new.self (λ n e. e) (λ n e. e) c.forget.ensures.others c.renew.ensures.others

pub returns-clause-settled : goal.returns-clause-settled
returns-clause-settled c =
    let class = c.args.class.0 in
    let graph = c.args.graph.now in
    let marks = c.args.marks.now in
    let mid = c.forget.new.self in
    let rows = rows_fit_but (λ n. n ≡ class) c.args.bounds.now mid graph c.forget.ensures.others c.requires.around.rows in
    lowered_settled graph mid c.renew.new.self marks marks (λ n. n ≡ class) c.renew.ensures.others (λ n out. refl) rows.closed class (pair_out graph (class / 2) class class c.requires.around.elsewhere refl refl) c.renew.ensures.lowered
