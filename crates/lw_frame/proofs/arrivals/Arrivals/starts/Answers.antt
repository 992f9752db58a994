use Rattle.std.proofs.Common.{◌++◌, ap, ◌∙◌, arith, map, length}
use Rattle.std.specs.Prelude.{replicate}
use Rattle.std.proofs.lemmas.List.{take_all, length-map}
use Rattle.lw_frame.specs.Starts.{at_once}
use Rattle.lw_frame.specs.Kept.{start_kept}
use Rattle.lw_frame.proofs.Fitting.{zeros_behind}
use Rattle.lw_frame.proofs.Stands.{starts-are}
use Rattle.lw_frame.proofs.arrivals.Arrivals.starts.Goals as goal

pub returns-clause-count : goal.returns-clause-count
returns-clause-count c =
    let inputs = c.args.inputs.now in
    (zeros_behind (map (start_kept c.args.self.now) inputs) c.from_vec.result (length inputs) c.args.latches
    (c.from_vec.ensures ∙ (c.in_ok-add_starts.ensures ∙ ap (λ l. l ++ replicate c.args.latches at_once) (c.loop-name.invariant.0 ∙ ap (map (start_kept c.args.self.now)) (take_all c.loop-name.name-index inputs (omega arith)))))
    (length-map inputs (start_kept c.args.self.now))).0

pub returns-clause-latches : goal.returns-clause-latches
returns-clause-latches c =
    let inputs = c.args.inputs.now in
    (zeros_behind (map (start_kept c.args.self.now) inputs) c.from_vec.result (length inputs) c.args.latches
    (c.from_vec.ensures ∙ (c.in_ok-add_starts.ensures ∙ ap (λ l. l ++ replicate c.args.latches at_once) (c.loop-name.invariant.0 ∙ ap (map (start_kept c.args.self.now)) (take_all c.loop-name.name-index inputs (omega arith)))))
    (length-map inputs (start_kept c.args.self.now))).1

pub returns-clause-starts : goal.returns-clause-starts
returns-clause-starts c = λ lines h.
    let arrivals = c.args.self.now in
    let inputs = c.args.inputs.now in
    c.from_vec.ensures
    ∙ (c.in_ok-add_starts.ensures
    ∙ ap (λ l. l ++ replicate c.args.latches at_once) (c.loop-name.invariant.0 ∙ (ap (map (start_kept arrivals)) (take_all c.loop-name.name-index inputs (omega arith)) ∙ starts-are arrivals lines inputs h)))
