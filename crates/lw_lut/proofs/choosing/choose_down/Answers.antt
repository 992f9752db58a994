use Rattle.std.proofs.Common.{◌≡◌, ◌∙◌, ◌++◌, ◌-◌, ◌<◌, ◌≤◌, suc, [], ◌∷◌, All, List, false, length, reverse, take, drop, get_or, sym, ap, subst, subst₂, arith}
use Rattle.std.proofs.lemmas.List.{get_or_read, reverse-append, with_items_is}
use Rattle.std.proofs.lemmas.List.Elements.{All-nil, All-cons}
use Rattle.lw_pool.specs.declared.id.ClassId.{ClassId}
use Rattle.lw_needed.specs.Needed.{AreRoots, HasAlso}
use Rattle.lw_needed.specs.declared.places.Place.{Place}
use Rattle.lw_lut.specs.declared.table.Table.{Table}
use Rattle.lw_lut.proofs.Descent.{IsDown, down_start, drop_all, turn_class, turn_cut, turn_fanins, turn_skip, turn_take, turns_end}
use Rattle.lw_lut.proofs.choosing.choose_down.Goals as goal

abbrev none : Place
none = record { depth = 0; class = record { 0 = 0 } }

abbrev HasFew : Table → Type 0
HasFew t = length t.fanins ≤ 6

pub loop-k-init : goal.loop-k-init
loop-k-init c =
    let lists = c.args.of.now.depths.now in
    let needed = c.in_ok-needed.needed.items in
    let roots : AreRoots c.args.of.now.roots.now (length lists.depths) needed = subst (λ n. AreRoots c.args.of.now.roots.now n needed) c.len.ensures c.in_ok-needed.ensures in
    record {
      one_each = roots.one_each;
      down = λ g most least. subst₂ (λ seen ups. IsDown g most lists.depths c.args.of.now.roots.now seen needed ups) (sym (drop_all c.args.places.now)) (ap reverse (sym c.new-tables.ensures.items)) (down_start g most lists.depths c.args.of.now.roots.now needed roots);
      few = subst (λ (ts : List Table). All HasFew (reverse ts)) (sym c.new-tables.ensures.items) (All-nil HasFew);
    }

pub index-requires : goal.index-requires
index-requires c =
    let (g, most, least) = c.requires.roots.least in
    let k = c.loop-k.k - 1 in
    let lt : k < length c.args.places.now = omega (arith, c.loop-k-test.true, c.loop-k.auto.k) in
    let below = turn_class g most c.args.of.now.depths.now least c.args.of.now.roots.now c.args.places.now c.requires.places k none lt in
    omega (arith, below, c.loop-k.invariant.one_each)

pub cut-requires : goal.cut-requires
cut-requires c =
    let (g, most, least) = c.requires.roots.least in
    let k = c.loop-k.k - 1 in
    let lt : k < length c.args.places.now = omega (arith, c.loop-k-test.true, c.loop-k.auto.k) in
    turn_cut g most c.args.of.now.depths.now least c.args.of.now.roots.now c.args.places.now c.requires.places k none lt

pub need-requires : goal.need-requires
need-requires c =
    let (g, most, least) = c.requires.roots.least in
    let k = c.loop-k.k - 1 in
    let lt : k < length c.args.places.now = omega (arith, c.loop-k-test.true, c.loop-k.auto.k) in
    let all = turn_fanins g most c.args.of.now.depths.now least c.args.of.now.roots.now c.args.places.now c.requires.places k none lt c.cut.result.now c.cut.ensures c.in_ok-table.table.fanins c.in_ok-table.ensures.rising.same in
    let size : length c.args.of.now.depths.now.depths ≡ length c.deref_mut.result.now = sym c.loop-k.invariant.one_each ∙ ap length (sym c.deref_mut.ensures.value) in
    subst₂ (λ n xs. All (λ (x : ClassId). x.0 < n) xs) size (sym c.as_slice.ensures) all

pub loop-k-preserved-in-Continue-branch-3 : goal.loop-k-preserved-in-Continue-branch-3
loop-k-preserved-in-Continue-branch-3 c =
    let lists = c.args.of.now.depths.now in
    let places = c.args.places.now in
    let k = c.loop-k.k - 1 in
    let lt : k < length places = omega (arith, c.loop-k-test.true, c.loop-k.auto.k) in
    let next : suc k ≡ c.loop-k.k = let t = c.loop-k-test.true in omega (arith, t) in
    let needed = c.loop-k.needed.items in
    let new = c.need.new.needed in
    let t = c.in_ok-table.table in
    let also : HasAlso needed t.fanins new = subst₂ (λ old xs. HasAlso old xs new) c.deref_mut.ensures.value c.as_slice.ensures c.need.ensures in
    let kept : take c.loop-k.needed.len (new ++ drop (length new) needed) ≡ new = with_items_is c.loop-k.needed new (c.need.ensures.one_each ∙ c.deref_mut.ensures.len) in
    record {
      one_each = ap length kept ∙ also.one_each ∙ c.loop-k.invariant.one_each;
      down = λ g most least.
          let below = turn_class g most lists least c.args.of.now.roots.now places c.requires.places k none lt in
          let flag = sym (get_or_read needed (get_or places k none).class.0 c.index.result.now (omega (arith, below, c.loop-k.invariant.one_each)) c.index.ensures false) ∙ c.if-index.true in
          let old = subst (λ n. IsDown g most lists.depths c.args.of.now.roots.now (drop n places) needed (reverse c.loop-k.tables.items)) (sym next) (c.loop-k.invariant.down g most least) in
          subst (λ flags. IsDown g most lists.depths c.args.of.now.roots.now (drop k places) flags (reverse c.push.new.self.items)) (sym kept) (turn_take g most lists least c.args.of.now.roots.now places c.requires.places k none lt needed new c.loop-k.tables.items c.push.new.self.items c.cut.result.now c.cut.ensures t c.in_ok-table.ensures.out_is c.in_ok-table.ensures.rising.are_rising c.in_ok-table.ensures.rising.same c.in_ok-table.ensures.rising.few c.in_ok-table.ensures.bits_are flag also c.in_ok-push.ensures.items old);
      few = subst (λ (ts : List Table). All HasFew (reverse ts)) (sym c.in_ok-push.ensures.items) (subst (All HasFew) (sym (reverse-append c.loop-k.tables.items (t ∷ []))) (All-cons HasFew t (reverse c.loop-k.tables.items) c.in_ok-table.ensures.six c.loop-k.invariant.few));
    }

pub loop-k-preserved : goal.loop-k-preserved
loop-k-preserved c =
    let lists = c.args.of.now.depths.now in
    let places = c.args.places.now in
    let k = c.loop-k.k - 1 in
    let lt : k < length places = omega (arith, c.loop-k-test.true, c.loop-k.auto.k) in
    let next : suc k ≡ c.loop-k.k = let t = c.loop-k-test.true in omega (arith, t) in
    let needed = c.loop-k.needed.items in
    record {
      one_each = c.loop-k.invariant.one_each;
      down = λ g most least.
          let below = turn_class g most lists least c.args.of.now.roots.now places c.requires.places k none lt in
          let flag = sym (get_or_read needed (get_or places k none).class.0 c.index.result.now (omega (arith, below, c.loop-k.invariant.one_each)) c.index.ensures false) ∙ c.if-index.false in
          let old = subst (λ n. IsDown g most lists.depths c.args.of.now.roots.now (drop n places) needed (reverse c.loop-k.tables.items)) (sym next) (c.loop-k.invariant.down g most least) in
          turn_skip g most lists least c.args.of.now.roots.now places c.requires.places k none needed c.loop-k.tables.items lt flag old;
      few = c.loop-k.invariant.few;
    }

pub returns : goal.returns
returns c = record {
  tables = λ g most least covered.
      let lists = c.args.of.now.depths.now in
      let places = c.args.places.now in
      let end : c.loop-k.k ≡ 0 = let f = c.loop-k-test.false in omega (arith, f) in
      let old = subst (λ n. IsDown g most lists.depths c.args.of.now.roots.now (drop n places) c.loop-k.needed.items (reverse c.loop-k.tables.items)) end (c.loop-k.invariant.down g most least) in
      turns_end g most lists least c.args.of.now.roots.now places c.requires.places c.loop-k.needed.items c.loop-k.tables.items covered old;
  few = c.loop-k.invariant.few;
}
