use Rattle.std.proofs.Common.{◌∙◌, ap, sym}
use Rattle.std.proofs.lemmas.Option.{get_or_from_slice_get, slice_get-map, slice_get_within}
use Rattle.std.specs.Option.{option_map}
use Rattle.lw_equal.specs.Sides.{port_name, root_names, roots_of}
use Rattle.lw_equal.proofs.Names.{keys_more}
use Rattle.lw_equal.proofs.known.root_set.Goals as goal

pub loop-place-preserved : goal.loop-place-preserved
loop-place-preserved c =
    let names = root_names c.args.logic.now in
    let place = c.loop-place.place in
    let key = c.in_ok-from_slice.field-0 in
    let at = slice_get-map port_name (roots_of c.args.logic.now) place ∙ ap (option_map port_name) c.root.ensures in
    let same = c.in_ok-from_slice.ensures ∙ c.as_bytes.ensures.bytes in
    let here = same ∙ sym (get_or_from_slice_get names place c.root.result.name.now key at) in
    keys_more names c.loop-place.set.keys c.insert.new.self.keys place key c.requires (slice_get_within names place c.root.result.name.now at) here c.loop-place.invariant c.in_ok-insert.ensures.keys
