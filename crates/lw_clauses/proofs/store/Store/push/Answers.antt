use Rattle.std.proofs.Common.{length, ◌+◌, ◌∷◌, [], ◌++◌, ◌∙◌, ap, arith}
use Rattle.lw_clauses.proofs.Storing.{clauses_pushed}
use Rattle.lw_clauses.proofs.store.Store.push.Goals as goal

pub returns : goal.returns
returns c =
    let lits = c.self.inside.literals in
    let spans = c.self.inside.spans in
    clauses_pushed lits.items _ c.args.clause.now spans.items _ _ c.args.self.now c.self.view_is c.self.invariant c.in_ok-extend_from_slice.ensures.items (c.push_reserved.ensures.items ∙ ap (λ ss. ss ++ record { start = c.len-start.result; end = c.len-start.result + length c.args.clause.now } ∷ []) c.reserve.ensures.items) (omega (arith, lits.ok.0)) (omega (arith, lits.ok.0))
