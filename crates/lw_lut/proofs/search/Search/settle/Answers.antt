use Rattle.std.proofs.Common.{◌≡◌, ◌≤◌, ◌*◌, ◌/◌, inl, inr, ◌∙◌, min, ap, refl, sym, arith, Some, None, slice_get, slice_index}
use Rattle.std.proofs.lemmas.List.{length-set}
use Rattle.std.proofs.lemmas.Option.{same_Some}
use Rattle.lw_pool.specs.declared.id.ClassId.{ClassId}
use Rattle.lw_lut.proofs.Places.{read_at, read_number}
use Rattle.std.proofs.lemmas.Bool.{cases_eq}
use Rattle.lw_lut.proofs.Reaching.{settled_more, set_fewer, set_elsewhere, set_same}
use Rattle.lw_lut.proofs.Settling.{deep_lists, deep_low}
use Rattle.lw_lut.proofs.search.Search.settle.Goals as goal

pub returns-then-index-leaves : goal.returns-then-index-leaves
returns-then-index-leaves c =
    let s = c.args.self.now in
    let p = c.args.place in
    let count = read_number s.counts.items p p c.index.result.now refl c.requires.place c.index.ensures in
    let many = c.if-index-leaves.true in
    record {
      lists = λ g settling. settling;
      counts = refl;
      pins = refl;
      depths = refl;
      settled = λ g first changed settling is. record {
        kept = is.kept;
        added = is.added;
        all = λ n lt few. elim (cases_eq (n / 2) p) [
          | inl here ↦ let at : slice_index s.counts.items (n / 2) ≡ slice_index s.counts.items p = ap (slice_index s.counts.items) here in let was = is.later (n / 2) (omega (arith, here)) in absurd (omega (arith, at, was, few, count, many))
          | inr other ↦ is.all n (omega (arith, lt, other)) few
        ];
        later = λ k le. is.later k (omega (arith, le));
        one_each = is.one_each;
        falls = is.falls;
        low = is.low;
        same = is.same;
      };
      fewer = λ k. omega arith;
      elsewhere = λ k other. refl;
      same = λ either. refl;
      few = λ k le. le;
    }

pub returns : goal.returns
returns c =
    let s = c.args.self.now in
    let p = c.args.place in
    let deep = c.deepen-deeper in
    let pin = read_at s.pins.items p p c.index-2.result.now refl (omega (arith, c.requires.place, c.requires.places.one_pin)) c.index-2.ensures in
    let count = read_number s.counts.items p p c.index.result.now refl c.requires.place c.index.ensures in
    let count3 = read_number s.counts.items p p c.index-3.result.now refl c.requires.place c.index-3.ensures in
    let few : slice_index s.counts.items p ≤ c.args.leaves = let f = c.if-index-leaves.false in omega (arith, count, f) in
    let some : (r : ClassId) → slice_get s.pins.items p ≡ Some (Some r) → c.pin_of.result ≡ r = λ r at. c.pin_of.ensures.some r (same_Some c.index-2.result.now (Some r) (sym pin ∙ at)) in
    let none : slice_get s.pins.items p ≡ Some None → c.pin_of.result.0 ≡ 2 * p = λ at. c.pin_of.ensures.none (same_Some c.index-2.result.now None (sym pin ∙ at)) in
    let is = c.min.ensures ∙ ap (λ n. min n 1) (sym count3) in
    let elsewhere = set_elsewhere s.counts.items p c.min.result c.requires.place in
    let long = length-set s.counts.items p c.min.result in
    let least = c.min.ensures in
    record {
      lists = λ g settling. (
        deep_lists g c.args.leaves c.args.depth s.counts.items s.cuts.items s.pins.items s.depths.items deep.new.depths.items p deep.result c.pin_of.result c.min.result settling.0 settling.1 c.requires.place few deep.ensures some none is,
        deep_low g c.args.leaves c.args.depth s.counts.items s.cuts.items s.pins.items s.depths.items deep.new.depths.items p deep.result c.pin_of.result c.min.result settling.0 settling.1 c.requires.place few deep.ensures some none is,
      );
      counts = long;
      pins = length-set s.pins.items p (Some c.pin_of.result);
      depths = deep.ensures.one_each;
      settled = λ g first changed settling is. settled_more c.args.leaves c.args.depth p first s _ changed deep.result c.requires.place few deep.ensures long elsewhere is;
      fewer = set_fewer s.counts.items p c.min.result c.requires.place (omega (arith, least, count3));
      elsewhere = elsewhere;
      same = λ either. set_same s.counts.items p c.min.result c.requires.place (elim either [
        | inl low ↦ omega (arith, low, least, count3)
        | inr many ↦ omega (arith, many, few)
      ]);
      few = λ k le. elim (cases_eq k p) [
        | inl here ↦ let at : slice_index s.counts.items k ≡ slice_index s.counts.items p = ap (slice_index s.counts.items) here in omega (arith, at, few)
        | inr other ↦ let e = elsewhere k other in omega (arith, e, le)
      ];
    }
