use Rattle.std.proofs.Common.{◌*◌, ◌<◌, ◌∙◌, length, map, All, sym, ap, subst, arith}
use Rattle.std.proofs.lemmas.List.{length-map}
use Rattle.lw_reduce.specs.declared.facts.Fact.{Fact}
use Rattle.lw_reduce.specs.Buckets.{AreClassRows}
use Rattle.lw_reduce.specs.Representatives.{IsFactIn}
use Rattle.lw_reduce.specs.Settling.{canonical_fact}
use Rattle.lw_reduce.proofs.reduction.rows_of.Goals as goal

pub class_facts-requires : goal.class_facts-requires
class_facts-requires c =
    subst (λ fs. All (IsFactIn (length fs)) c.args.nands.items) (sym c.deref.ensures.value) c.requires.known

pub invariant_of-facts : goal.invariant_of-facts
invariant_of-facts c = record {
  within = let nands = c.args.nands.items in
      let e = c.class_facts.ensures ∙ ap (λ fs. map (canonical_fact fs) nands) c.deref.ensures.value in
      subst (λ rs. All (λ (r : Fact). r.form < c.args.numbered.now.pairs * 2) rs) (sym e) c.requires.within;
  few = let nands = c.args.nands.items in
      let e = ap length c.class_facts.ensures ∙ length-map nands (canonical_fact c.deref.result.now) in
      let few = c.requires.few in
      omega arith;
}

pub returns : goal.returns
returns c =
    let nands = c.args.nands.items in
    let rows = c.in_ok-rows.rows in
    let e = c.class_facts.ensures ∙ ap (λ fs. map (canonical_fact fs) nands) c.deref.ensures.value in
    subst (λ rs. AreClassRows (c.args.numbered.now.pairs * 2) rs rows.pairs.items rows.ends) e c.in_ok-rows.ensures
