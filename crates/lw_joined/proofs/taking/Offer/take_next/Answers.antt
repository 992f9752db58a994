use Rattle.std.proofs.Common.{[], ◌∷◌, ◌++◌, ◌≡◌, ◌∙◌, Bool, List, true, false, ap, arith, length, slice_set, subst, subst₂, sym}
use Rattle.std.proofs.Math.Seq.{set_at}
use Rattle.std.proofs.lemmas.List.{length_push}
use Rattle.lw_map.specs.Options.{plain_options}
use Rattle.lw_joined.specs.declared.taking.Left.{Left}
use Rattle.lw_joined.specs.Unions.{IsPast, LeavesOut, ListsTaken, union_in}
use Rattle.lw_joined.proofs.LeftOut.{left_more, left_same, listed_without}
use Rattle.lw_joined.proofs.taking.Offer.take_next.Goals as goal

pub list-requires-clause-few : goal.list-requires-clause-few
list-requires-clause-few c =
    let same : c.deref.result.now ≡ c.args.chosen.taken.items ++ true ∷ [] = c.deref.ensures.value ∙ c.in_ok-push.ensures.items in
    omega (arith, ap length same, length_push c.args.chosen.taken.items true, c.requires.chosen.one_each, c.requires.more)

pub returns-in-Within : goal.returns-in-Within
returns-in-Within c =
    let taken = c.args.chosen.taken.items in
    record {
      one_each = omega (arith, ap length c.in_ok-push.ensures.items, length_push taken true, c.requires.chosen.one_each);
      listed = subst (λ ts. ListsTaken c.args.self.now ts c.in-Within.more) c.deref.ensures.value (rw c.in-Within.is at c.in_ok-more.ensures);
      left_out = subst (λ ts. LeavesOut c.args.self.now ts c.args.chosen.left.items) (sym c.in_ok-push.ensures.items) (left_same c.args.self.now taken c.args.chosen.left.items c.requires.chosen.left_out);
    }

pub returns-in_ok-push-in-Past : goal.returns-in_ok-push-in-Past
returns-in_ok-push-in-Past c =
    let o = c.args.self.now in
    let taken = c.args.chosen.taken.items in
    let told : Left = record { place = c.args.place; limit = c.in-Past.limit } in
    let now : slice_set c.push.new.self.items c.args.place false ≡ taken ++ false ∷ [] =
    ap (λ (ts : List Bool). slice_set ts c.args.place false) c.in_ok-push.ensures.items ∙ set_at taken true [] false c.args.place c.requires.chosen.one_each in
    let past : IsPast (plain_options o.options) (union_in o (taken ++ true ∷ [])) c.in-Past.limit =
    subst (λ (ts : List Bool). IsPast (plain_options o.options) (union_in o ts) c.in-Past.limit) (c.deref.ensures.value ∙ c.in_ok-push.ensures.items) (rw c.in-Past.is at c.in_ok-more.ensures) in
    record {
      one_each = omega (arith, ap length now, length_push taken false, c.requires.chosen.one_each);
      listed = subst (λ (ts : List Bool). ListsTaken o ts c.args.chosen.listed) (sym now) (listed_without o taken c.args.chosen.listed c.requires.chosen.listed);
      left_out = subst₂ (λ (ts : List Bool) (ls : List Left). LeavesOut o ts ls) (sym now) (sym c.in_ok-push-in-Past.ensures.items)
          (left_more o taken c.args.chosen.left.items told (sym c.requires.chosen.one_each) c.requires.chosen.left_out past);
    }
