use Rattle.std.proofs.Common.{◌≡◌, ◌∙◌, length, get_or, slice_set, sym, ap, subst}
use Rattle.lw_reduce.specs.Representatives.{IsFactIn}
use Rattle.lw_reduce.specs.Settling.{canonical_fact}
use Rattle.lw_reduce.specs.declared.facts.Fact.{Fact}
use Rattle.lw_reduce.proofs.InPlace.{in_place_more, in_place_at, in_place_all, in_place_none}
use Rattle.lw_reduce.proofs.class_facts.canonicalize_all.Goals as goal

pub loop-fact-init : goal.loop-fact-init
loop-fact-init c = in_place_none (canonical_fact c.args.forms.now) c.args.facts.now

pub invariant_of-known : goal.invariant_of-known
invariant_of-known c =
    let none : Fact = record { form = 0; left = 0; right = 0 } in
    let f = canonical_fact c.args.forms.now in
    let l = c.loop-fact in
    let i = l.fact-index in
    let at : get_or l.facts i none ≡ get_or c.args.facts.now i none = ap (λ rs. get_or rs i none) l.invariant ∙ in_place_at f c.args.facts.now i none c.loop-fact-test.true in
    record { known = subst (IsFactIn (length c.args.forms.now)) (sym at) (c.requires i none c.loop-fact-test.true) }

pub loop-fact-preserved : goal.loop-fact-preserved
loop-fact-preserved c =
    let none : Fact = record { form = 0; left = 0; right = 0 } in
    let f = canonical_fact c.args.forms.now in
    let l = c.loop-fact in
    let i = l.fact-index in
    ap (slice_set l.facts i) c.canonical_fact.ensures ∙ in_place_more f c.args.facts.now l.facts i none c.loop-fact-test.true l.invariant

pub returns : goal.returns
returns c =
    let l = c.loop-fact in
    l.invariant ∙ in_place_all (canonical_fact c.args.forms.now) c.args.facts.now l.fact-index c.loop-fact-test.false
