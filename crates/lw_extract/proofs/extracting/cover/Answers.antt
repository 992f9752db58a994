use Rattle.std.proofs.Common.{◌≡◌, ◌<◌, ◌∙◌, ℕ, All, List, length, refl, ap, sym, subst, arith}
use Rattle.lw_extract.specs.declared.choosing.Chosen.{Chosen}
use Rattle.lw_extract.specs.declared.ports.Cover.{Cover}
use Rattle.lw_laws.specs.MatchLists.{AreMatchesInOrder}
use Rattle.lw_extract.specs.Choosing.{plain_matches}
use Rattle.lw_extract.specs.Assembling.{CanAssemble, IsAssembled}
use Rattle.lw_extract.proofs.Arriving.{cost_their_labels}
use Rattle.lw_extract.proofs.Assembly.{few_chosen, assembled_over}
use Rattle.lw_extract.proofs.ChosenMatches.{chosen_matches, can_assemble, extracted_cover}
use Rattle.lw_extract.proofs.extracting.cover.Goals as goal

pub add_gates-requires-clause-few : goal.add_gates-requires-clause-few
add_gates-requires-clause-few g c =
    let job = c.args.job.now in
    let can = can_assemble job.graph.now (g.C.Cost.costs job.cost.now) job.pats.now job.marks.now job.ports.now c.in_ok-chosen.chosen.items c.in_ok-chosen.ensures c.requires.ready.fit c.requires.ready.labels.least.one_each in
    let few = few_chosen job.graph.now job.pats.now job.ports.now c.in_ok-chosen.chosen.items can in
    let same = ap length c.deref-2.ensures.value in
    omega (arith, few, same, c.requires.ready.fit.few, c.requires.ready.fit.few_inputs, c.inputs.ensures.inputs)

pub add_gates-requires-clause-in_range : goal.add_gates-requires-clause-in_range
add_gates-requires-clause-in_range g c =
    let job = c.args.job.now in
    let can = can_assemble job.graph.now (g.C.Cost.costs job.cost.now) job.pats.now job.marks.now job.ports.now c.in_ok-chosen.chosen.items c.in_ok-chosen.ensures c.requires.ready.fit c.requires.ready.labels.least.one_each in
    let one_each : length c.deref_mut.result.now ≡ length job.graph.now.pairs = ap length c.deref_mut.ensures.value ∙ c.in_ok-nets.ensures.one_each in
    subst (λ (xs : List Chosen). All (λ (x : Chosen). x.class.0 < length c.deref_mut.result.now) xs) (sym c.deref-2.ensures.value)
    (subst (λ (n : ℕ). All (λ (x : Chosen). x.class.0 < n) c.in_ok-chosen.chosen.items) (sym one_each) can.within)

pub assemble_over-requires-clause-can : goal.assemble_over-requires-clause-can
assemble_over-requires-clause-can g c =
    let job = c.args.job.now in
    let can = can_assemble job.graph.now (g.C.Cost.costs job.cost.now) job.pats.now job.marks.now job.ports.now c.in_ok-chosen.chosen.items c.in_ok-chosen.ensures c.requires.ready.fit c.requires.ready.labels.least.one_each in
    subst (λ (xs : List Chosen). CanAssemble job.graph.now job.pats.now job.ports.now xs) (sym c.deref-4.ensures.value) can

pub returns : goal.returns
returns g c =
    let job = c.args.job.now in
    let cost = g.C.Cost.costs job.cost.now in
    let chosen = c.in_ok-chosen.chosen.items in
    let are = c.in_ok-chosen.ensures in
    let made = subst (λ (xs : List Chosen). IsAssembled job.graph.now job.pats.now job.ports.now xs c.in_ok-cover.cover) c.deref-4.ensures.value c.in_ok-cover.ensures in
    let labels = c.requires.ready.labels in
    let cover = extracted_cover job.graph.now cost job.pats.now job.marks.now job.ports.now chosen are c.in_ok-cover.cover made in
    let matches = chosen_matches job.graph.now cost job.pats.now job.marks.now job.ports.now chosen are in
    record {
      cover = cover;
      over = assembled_over job.graph.now job.pats.now job.lib.now chosen c.in_ok-cover.cover.netlist c.len.ensures.kept (subst (λ (ns : List ℕ). AreMatchesInOrder job.graph.now ns job.pats.now (plain_matches chosen)) labels.cells matches) made.made;
      costs = cost_their_labels job.graph.now cost job.pats.now job.marks.now labels.leaves job.ports.now _ cover;
    }
