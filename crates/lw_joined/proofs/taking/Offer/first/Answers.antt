use Rattle.std.proofs.Common.{[], ◌≡◌, ◌∙◌, subst, sym}
use Rattle.lw_map.specs.Faults.{IsChoiceFault}
use Rattle.lw_map.specs.Options.{plain_options}
use Rattle.lw_joined.specs.Unions.{IsPast, ListsTaken, union_in}
use Rattle.lw_joined.proofs.LeftOut.{few_signals, first_fault}
use Rattle.lw_joined.proofs.taking.Offer.first.Goals as goal

pub fault-requires : goal.fault-requires
fault-requires c =
    let o = c.args.self.now in
    let same : c.deref.result.now ≡ [] = c.deref.ensures.value ∙ c.new-none.ensures.items in
    few_signals o c.inputs.ensures.kept c.in-Past.limit (subst (λ ts. IsPast (plain_options o.options) (union_in o ts) c.in-Past.limit) same (rw c.in-Past.is at c.in_ok-listed.ensures))

pub returns-in-Within-clause-listed : goal.returns-in-Within-clause-listed
returns-in-Within-clause-listed c =
    let same : c.deref.result.now ≡ [] = c.deref.ensures.value ∙ c.new-none.ensures.items in
    subst (λ ts. ListsTaken c.args.self.now ts c.in-Within.listed) same (rw c.in-Within.is at c.in_ok-listed.ensures)

pub returns-clause-fault : goal.returns-clause-fault
returns-clause-fault c =
    let o = c.args.self.now in
    let same : c.deref.result.now ≡ [] = c.deref.ensures.value ∙ c.new-none.ensures.items in
    let past = subst (λ ts. IsPast (plain_options o.options) (union_in o ts) c.in-Past.limit) same (rw c.in-Past.is at c.in_ok-listed.ensures) in
    subst (IsChoiceFault (plain_options o.options) o.net.now) (sym c.fault.ensures)
    (first_fault o c.inputs.ensures.kept c.in-Past.limit past (few_signals o c.inputs.ensures.kept c.in-Past.limit past))
