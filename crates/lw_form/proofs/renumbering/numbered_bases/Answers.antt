use Rattle.std.proofs.Common.{◌≡◌, ◌+◌, ◌<◌, refl, sym, subst, arith, length, map, take}
use Rattle.std.proofs.lemmas.Option.{slice_get_read}
use Rattle.lw_laws.specs.Numbering.{numbered_base}
use Rattle.lw_form.specs.Bases.{plain_base}
use Rattle.lw_form.specs.Tables.{made}
use Rattle.lw_form.proofs.Numbers.{operands_placed, base_added, bases_done}
use Rattle.lw_form.proofs.renumbering.numbered_bases.Goals as goal

pub base_of-requires-clause-within : goal.base_of-requires-clause-within
base_of-requires-clause-within c =
    let lt : c.loop-place.place < length c.args.listing.now.listed.items = let k = c.args.listing.now.listed.ok in let t = c.loop-place-test.true in let l = c.len-place-end.ensures in omega arith in
    c.requires.listed.within c.loop-place.place c.index.result.now (slice_get_read c.args.listing.now.listed.items (length c.args.listing.now.listed.items) c.loop-place.place c.index.result.now refl lt c.index.ensures)

pub base_of-requires-clause-placed : goal.base_of-requires-clause-placed
base_of-requires-clause-placed c =
    let (o, lists, e) = c.requires.listing in
    let lt : c.loop-place.place < length c.args.listing.now.listed.items = let k = c.args.listing.now.listed.ok in let t = c.loop-place-test.true in let l = c.len-place-end.ensures in omega arith in
    operands_placed (made c.args.table.now) c.len-count.ensures.made c.args.listing.now.listed.items c.args.listing.now.places.items c.requires.listed o lists e c.loop-place.place c.index.result.now (slice_get_read c.args.listing.now.listed.items (length c.args.listing.now.listed.items) c.loop-place.place c.index.result.now refl lt c.index.ensures)

pub loop-place-preserved : goal.loop-place-preserved
loop-place-preserved c =
    let (o, lists, e) = c.requires.listing in
    let lt : c.loop-place.place < length c.args.listing.now.listed.items = let k = c.args.listing.now.listed.ok in let t = c.loop-place-test.true in let l = c.len-place-end.ensures in omega arith in
    subst (λ bs. map plain_base c.insert.new.self.keys ≡ take (c.loop-place.place + 1) (map (numbered_base bs) bs)) e
    (base_added (made c.args.table.now) c.len-count.ensures.made c.args.listing.now.listed.items c.args.listing.now.places.items c.requires.listed o lists e c.loop-place.bases.keys c.insert.new.self.keys c.base_of.result c.loop-place.place c.index.result.now (slice_get_read c.args.listing.now.listed.items (length c.args.listing.now.listed.items) c.loop-place.place c.index.result.now refl lt c.index.ensures) c.base_of.ensures c.in_ok-insert.ensures.keys (subst (λ bs. map plain_base c.loop-place.bases.keys ≡ take c.loop-place.place (map (numbered_base bs) bs)) (sym e) c.loop-place.invariant))

pub returns : goal.returns
returns c =
    let (o, lists, e) = c.requires.listing in
    bases_done (made c.args.table.now) c.len-count.ensures.made c.args.listing.now.listed.items c.args.listing.now.places.items c.requires.listed o lists e c.loop-place.bases.keys c.loop-place.place (let k = c.args.listing.now.listed.ok in let t = c.loop-place-test.false in let l = c.len-place-end.ensures in omega arith) (subst (λ bs. map plain_base c.loop-place.bases.keys ≡ take c.loop-place.place (map (numbered_base bs) bs)) (sym e) c.loop-place.invariant)
