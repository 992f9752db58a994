use Rattle.std.proofs.Common.{◌<◌, ◌++◌, ◌∙◌, ap, ap₂, length, refl, sym, arith}
use Rattle.std.proofs.lemmas.List.{append-nil, nil_from_length}
use Rattle.std.proofs.lemmas.List.Elements.{All-nil, All-same}
use Rattle.std.specs.Vec.Iter.{into_iter_items}
use Rattle.lw_net.specs.Written.{names_in}
use Rattle.lw_net.proofs.Writing.{longer_same, longer_then, within_more, numbers_more}
use Rattle.lw_net.proofs.naming.numbers.Goals as goal

pub names-preserved : goal.names-preserved
names-preserved c =
    let old = c.names.names.keys in
    let new = c.number.new.names.keys in
    let ns = c.names.numbers.items in
    let more = c.push.new.self.items in
    let n = c.in_ok-number.field-0 in
    record {
      longer = longer_then c.args.names.now.keys old new c.names.invariant.longer c.number.ensures.longer;
      within = within_more old new ns more n c.number.ensures.longer c.names.invariant.within c.in_ok-number.ensures.within c.in_ok-push.ensures.items;
      named = numbers_more old new ns more n c.in-Some.name (into_iter_items c.names.left) (into_iter_items c.next.new.self) c.args.list c.number.ensures.longer c.names.invariant.within c.in_ok-number.ensures.named c.in_ok-push.ensures.items c.in-Some.ensures.items c.names.invariant.named;
    }

pub names-init : goal.names-init
names-init c =
    let keys = c.args.names.now.keys in
    record {
      longer = longer_same keys keys refl;
      within = All-same (λ n. n < length keys) _ _ c.in_ok-numbers.ensures.items (All-nil (λ n. n < length keys));
      named = ap₂ (λ ns names. names_in keys ns ++ names) c.in_ok-numbers.ensures.items (c.into_iter-left.ensures.rest ∙ c.into_vec.ensures);
    }

pub names-smaller : goal.names-smaller
names-smaller c = omega (arith, ap length c.in-Some.ensures.items)

pub returns-in_err-numbers-clause-longer : goal.returns-in_err-numbers-clause-longer
returns-in_err-numbers-clause-longer c = longer_same c.args.names.now.keys c.args.names.now.keys refl

pub returns-in_err-number-clause-longer : goal.returns-in_err-number-clause-longer
returns-in_err-number-clause-longer c = longer_then c.args.names.now.keys c.names.names.keys c.number.new.names.keys c.names.invariant.longer c.number.ensures.longer

pub returns-in_err-push-clause-longer : goal.returns-in_err-push-clause-longer
returns-in_err-push-clause-longer c = longer_then c.args.names.now.keys c.names.names.keys c.number.new.names.keys c.names.invariant.longer c.number.ensures.longer

pub returns-clause-longer : goal.returns-clause-longer
returns-clause-longer c = c.names.invariant.longer

pub returns-clause-within : goal.returns-clause-within
returns-clause-within c = c.names.invariant.within

pub returns-clause-named : goal.returns-clause-named
returns-clause-named c =
    let named = names_in c.names.names.keys c.names.numbers.items in
    let none = nil_from_length (into_iter_items c.names.left) (omega (arith, c.in_default.ensures.cases.0)) in
    sym (append-nil named) ∙ (ap (λ rest. named ++ rest) (sym none) ∙ c.names.invariant.named)
