use Rattle.std.proofs.Common.{◌≡◌, ◌∙◌, Bool, List, length, replicate, subst, subst₂, sym, true}
use Rattle.std.proofs.lemmas.List.{length-replicate}
use Rattle.lw_joined.specs.declared.taking.Left.{Left}
use Rattle.lw_joined.specs.Unions.{LeavesOut, ListsTaken}
use Rattle.lw_joined.proofs.LeftOut.{none_left}
use Rattle.lw_joined.proofs.taking.Offer.take.Goals as goal

pub returns-in-Within-clause-taken : goal.returns-in-Within-clause-taken
returns-in-Within-clause-taken c =
    let o = c.args.self.now in
    let all = replicate (length o.others.now) true in
    let same : c.deref.result.now ≡ all = c.deref.ensures.value ∙ c.in_ok-all.ensures.items_if_clones_equal (λ y e. e) in (
      all,
      record {
        one_each = length-replicate (length o.others.now) true;
        listed = subst (λ (ts : List Bool). ListsTaken o ts c.in-Within.listed) same (rw c.in-Within.is at c.in_ok-listed.ensures);
        left_out = subst (λ (ls : List Left). LeavesOut o all ls) (sym c.new-left.ensures.items) (none_left o (length o.others.now));
      },
    )
