use Rattle.std.proofs.Common.{◌≡◌, ◌<◌, ◌*◌, ◌/◌, ◌%◌, ◌==◌, ◌∙◌, false, length, slice_set, ap, subst, sym}
use Rattle.lw_lut.specs.Cuts.{IsCutAt, is_set}
use Rattle.lw_lut.specs.Searches.{AreLists}
use Rattle.lw_lut.proofs.Started.{started_lists, started_depths, one_stands}
use Rattle.lw_lut.proofs.search.Search.give_constants.Goals as goal

pub returns-clause-counts : goal.returns-clause-counts
returns-clause-counts c =
    let s = c.args.self.now in
    let g = c.args.graph.now in
    let cut = c.constant.result in
    let one = c.one-one.ensures.class in
    let within : g.one < length g.pairs = subst (λ n. n < length g.pairs) one c.one-one.ensures.within in
    let set : is_set cut.bits 0 ≡ (g.one % 2 == 0) = c.constant.ensures.bits ∙ ap (λ n. n % 2 == 0) one in
    let stands : IsCutAt g (2 * (g.one / 2)) false cut = subst (λ ps. IsCutAt g (2 * (g.one / 2)) false (record { pins = ps; bits = cut.bits })) (sym c.constant.ensures.pins) (one_stands g cut.bits set) in
    subst (λ o. AreLists g c.args.leaves 1 1 (slice_set s.counts.items (o / 2) 0) (slice_set s.cuts.items (o / 2) cut) s.pins.items s.depths.items) (sym one) (started_lists g c.args.leaves c.requires.few s.counts.items s.cuts.items s.pins.items s.depths.items c.requires.started within cut c.constant.ensures.pins stands)

pub returns-clause-depths : goal.returns-clause-depths
returns-clause-depths c =
    let s = c.args.self.now in
    let g = c.args.graph.now in
    let cut = c.constant.result in
    let one = c.one-one.ensures.class in
    let within : g.one < length g.pairs = subst (λ n. n < length g.pairs) one c.one-one.ensures.within in
    let set : is_set cut.bits 0 ≡ (g.one % 2 == 0) = c.constant.ensures.bits ∙ ap (λ n. n % 2 == 0) one in
    let stands : IsCutAt g (2 * (g.one / 2)) false cut = subst (λ ps. IsCutAt g (2 * (g.one / 2)) false (record { pins = ps; bits = cut.bits })) (sym c.constant.ensures.pins) (one_stands g cut.bits set) in
    started_depths g c.args.leaves c.requires.few s.counts.items s.cuts.items s.pins.items s.depths.items c.requires.started within cut c.constant.ensures.pins stands
