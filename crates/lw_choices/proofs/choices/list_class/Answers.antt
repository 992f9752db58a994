use Rattle.std.proofs.Common.{length, map, Contains, refl, sym, subst, arith}
use Rattle.std.proofs.lemmas.List.{nil_from_length}
use Rattle.std.proofs.lemmas.Option.{slice_get_within}
use Rattle.lw_cost.specs.Values.{plain_match}
use Rattle.lw_pattern.specs.Listed.{pattern_of}
use Rattle.lw_pool.specs.Numbers.{numbers}
use Rattle.lw_choices.specs.Choices.Part.{gate}
use Rattle.lw_choices.specs.Tasks.{task}
use Rattle.lw_choices.specs.Rows.{IsGateAdded}
use Rattle.lw_choices.proofs.Growing.{IsListingAt, listing_start, listing_next, listing_over}
use Rattle.lw_choices.proofs.Moving.{last_in, last_match, others_in}
use Rattle.lw_choices.proofs.choices.list_class.Goals as goal

pub loop-found-init : goal.loop-found-init
loop-found-init c = record {
  count = c.requires.count;
  way = λ cells way. way;
  coming = λ m in'. (c.in_ok-list.ensures.each m).0 in';
  listing = λ cells starts way of_cells is. listing_start (task c.args.graph.now c.args.pats.now cells starts) of_cells (length c.args.graph.now.leaves) c.args.class.0 (map plain_match c.in_ok-list.list.items) c.args.to.now.rows c.in_ok-list.ensures is;
}

pub get-requires : goal.get-requires
get-requires c =
    let left = map plain_match c.pop.new.self.items in
    let m = plain_match c.in-Some.found in
    let all = last_match c.pop.new.self.items c.loop-found.list.items c.in-Some.found c.in-Some.ensures.items in
    let is = c.loop-found.invariant.coming m (subst (λ ms. Contains ms m) (sym all) (last_in left m)) in
    slice_get_within c.args.pats.now c.in-Some.found.pat.0 is.pattern is.listed

pub add_gate-requires-clause-few : goal.add_gate-requires-clause-few
add_gate-requires-clause-few c = c.as_slice.ensures.few

pub loop-found-preserved : goal.loop-found-preserved
loop-found-preserved c =
    let left = map plain_match c.pop.new.self.items in
    let m = plain_match c.in-Some.found in
    let all = last_match c.pop.new.self.items c.loop-found.list.items c.in-Some.found c.in-Some.ensures.items in
    let inputs = length c.args.graph.now.leaves in
    record {
      count = (c.in_ok-add_gate.ensures.way c.loop-found.to.lib.now (record { count = c.loop-found.invariant.count; lib = refl })).count;
      way = λ cells way. c.in_ok-add_gate.ensures.way cells (c.loop-found.invariant.way cells way);
      coming = λ n in'. c.loop-found.invariant.coming n (subst (λ ms. Contains ms n) (sym all) (others_in left m n in'));
      listing = λ cells starts way of_cells is.
          let s = task c.args.graph.now c.args.pats.now cells starts in
          let xs = c.loop-found.to.rows in
          let here = subst (λ ms. IsListingAt s inputs c.args.class.0 ms xs) all (c.loop-found.invariant.listing cells starts way of_cells is) in
          let added = subst (λ ps. IsGateAdded cells xs c.add_gate.new.to.rows (record { class = c.args.class.0; part = gate (pattern_of c.get.result.now).cell (numbers ps) })) c.as_slice.ensures.classes (c.in_ok-add_gate.ensures.added cells (c.loop-found.invariant.way cells way)) in
          listing_next s of_cells inputs c.args.class.0 m left xs c.add_gate.new.to.rows (pattern_of c.get.result.now) c.requires.class c.get.ensures.listed added here;
    }

pub returns : goal.returns
returns c = record {
  way = c.loop-found.invariant.way;
  listed = λ cells way listed starts of_cells.
      let s = task c.args.graph.now c.args.pats.now cells starts in
      let xs = c.loop-found.to.rows in
      let none = nil_from_length c.loop-found.list.items (omega (arith, c.in_default.ensures.cases.0)) in
      let here = subst (λ ms. IsListingAt s (length c.args.graph.now.leaves) c.args.class.0 (map plain_match ms) xs) none (c.loop-found.invariant.listing cells starts way of_cells (listed starts of_cells)) in
      listing_over s of_cells (length c.args.graph.now.leaves) c.args.class.0 xs here;
}
