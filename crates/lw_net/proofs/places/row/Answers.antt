use Rattle.std.proofs.Common.{Some, get_or, map, refl, sym, ap, ◌∙◌, arith}
use Rattle.std.proofs.lemmas.List.{drop_all, take_all}
use Rattle.std.proofs.lemmas.Result.{IfOk-from_err, err_from_is_err_and}
use Rattle.lw_net.specs.Closing.{number_in, signals_of, undefined_in}
use Rattle.lw_net.specs.Numbers.{draft_in}
use Rattle.lw_net.specs.Written.{names_in}
use Rattle.lw_net.proofs.Placing.{placed_number, placed_among, unplaced, row_so_far, row_rest, row_fault}
use Rattle.lw_net.proofs.places.row.Goals as goal

pub returns-in_default-place_of-clause-fault : goal.returns-in_default-place_of-clause-fault
returns-in_default-place_of-clause-fault c =
    let w = c.args.w.now in
    let list = c.args.list.now in
    let i = c.loop-number.number-index in
    let none = unplaced w c.args.places.now c.requires.table (get_or list i 0) (c.requires.within i 0 c.loop-number-test.true) c.in_default-place_of.ensures in
    row_fault (signals_of (draft_in w)) w.names.keys list i c.loop-number-test.true none c.loop-number.invariant.rest ∙ ap (λ n. Some n) (sym c.in_ok-name.ensures)

pub loop-number-preserved : goal.loop-number-preserved
loop-number-preserved c =
    let w = c.args.w.now in
    let places = c.args.places.now in
    let list = c.args.list.now in
    let i = c.loop-number.number-index in
    let n = get_or list i 0 in
    let place = c.in-Some.place in
    let signals = signals_of (draft_in w) in
    record {
      so_far = row_so_far signals w.names.keys list c.loop-number.numbers.items c.push.new.self.items i place c.loop-number-test.true c.loop-number.invariant.so_far (placed_number w places c.requires.table n place c.in-Some.ensures) c.in-Ok-push.ensures.items;
      rest = row_rest signals w.names.keys list i c.loop-number-test.true (placed_among w places c.requires.table n place c.in-Some.ensures) c.loop-number.invariant.rest;
    }

pub returns-in_default : goal.returns-in_default
returns-in_default c = record { ok = tt; defined = tt; fault = tt }

pub loop-number-init : goal.loop-number-init
loop-number-init c = record { so_far = c.in-Ok.ensures.items; rest = refl }

pub copy_of-requires : goal.copy_of-requires
copy_of-requires c = c.requires.within c.loop-number.number-index 0 c.loop-number-test.true

pub returns-in_err-name-clause-fault : goal.returns-in_err-name-clause-fault
returns-in_err-name-clause-fault c =
    let p = err_from_is_err_and c.from_residual.result c.from_residual.ensures.1 in
    rw (p.1, p.2) tt

pub returns-in_default-push : goal.returns-in_default-push
returns-in_default-push c = record { ok = tt; defined = tt; fault = tt }

pub returns-clause-ok : goal.returns-clause-ok
returns-clause-ok c =
    let w = c.args.w.now in
    let all = take_all c.loop-number.number-index c.args.list.now (omega (arith, c.loop-number-test.false)) in
    c.new.ensures ∙ (c.loop-number.invariant.so_far ∙ ap (λ l. map (number_in (signals_of (draft_in w))) (names_in w.names.keys l)) all)

pub returns-clause-defined : goal.returns-clause-defined
returns-clause-defined c =
    let w = c.args.w.now in
    let none = drop_all c.loop-number.number-index c.args.list.now (omega (arith, c.loop-number-test.false)) in
    sym c.loop-number.invariant.rest ∙ ap (λ l. undefined_in (signals_of (draft_in w)) (names_in w.names.keys l)) none

pub returns-in_err-name-clause-ok : goal.returns-in_err-name-clause-ok
returns-in_err-name-clause-ok c = IfOk-from_err _ _ c.from_residual.ensures.0

pub returns-in_err-name-clause-defined : goal.returns-in_err-name-clause-defined
returns-in_err-name-clause-defined c = IfOk-from_err _ _ c.from_residual.ensures.0
