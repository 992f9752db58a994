use Rattle.std.proofs.Common.{◌+◌, ◌∙◌, ap, arith, length, subst}
use Rattle.std.proofs.lemmas.Result.{IfOk-from_err}
use Rattle.lw_dag.specs.Graphs.{IsFirst, height_at}
use Rattle.lw_dag.proofs.Searching.{all_known}
use Rattle.lw_dag.proofs.cycles.first_on_cycle.Goals as goal

pub returns-in_default-clause-none : goal.returns-in_default-clause-none
returns-in_default-clause-none c = all_known c.args.inputs c.args.heights.now c.requires.heights.known.given_ones c.in_default.ensures

pub first_behind-requires-clause-start : goal.first_behind-requires-clause-start
first_behind-requires-clause-start c =
    let of = c.of.ensures in
    record {
      within = omega (arith, of.inputs, ap length of.nodes, c.requires.heights.known.one_each, c.in-Some.ensures.within);
      lacks = ap (λ n. height_at c.args.heights.now (n + c.in-Some.start)) of.inputs ∙ c.in-Some.ensures.lacks;
    }

pub returns-in_err-first_behind : goal.returns-in_err-first_behind
returns-in_err-first_behind c =
    let failed = c.from_residual.ensures.0 in
    record { some = IfOk-from_err _ _ failed; none = IfOk-from_err _ _ failed }

pub returns-clause-some : goal.returns-clause-some
returns-clause-some c =
    let first = c.in_ok-first_behind.field-0 in
    subst (λ nodes. IsFirst c.args.inputs nodes first) c.of.ensures.nodes (subst (λ n. IsFirst n c.of.result.nodes.now first) c.of.ensures.inputs c.in_ok-first_behind.ensures)
