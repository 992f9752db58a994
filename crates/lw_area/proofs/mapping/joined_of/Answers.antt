use Rattle.std.proofs.Common.{ap}
use Rattle.std.proofs.lemmas.Result.{err_from_is_err_and}
use Rattle.lw_map.specs.Options.{plain_options}
use Rattle.lw_joined.specs.declared.choices.Joined.{Joined}
use Rattle.lw_area.specs.Plain.{plain_settings}
use Rattle.lw_area.specs.Spaces.{IsJoinedOf}
use Rattle.lw_area.proofs.Made.{indexed, others_fit}
use Rattle.lw_area.proofs.mapping.joined_of.Goals as goal

pub join-joined-requires : goal.join-joined-requires
join-joined-requires c =
    rw c.deref-2.ensures.value (others_fit c.args.sources.now.model.network c.args.sources.now.further.items c.in_ok-others.others.items c.requires.further (rw c.deref.ensures.value at c.in_ok-others.ensures))

pub returns-clause-joined : goal.returns-clause-joined
returns-clause-joined c =
    let is = c.in_ok-joined.ensures.joined in
    indexed (λ (j : Joined). IsJoinedOf (plain_settings c.args.settings) c.args.sources.now j) c.in_ok-joined.joined c.make_index.new.self c.make_index.ensures (record {
      joined = is.joined;
      options_are = ap plain_options is.options_are;
      united = record { others = c.in_ok-others.others.items; are = rw c.deref.ensures.value at c.in_ok-others.ensures; taken = is.taken; is = rw c.deref-2.ensures.value at is.union };
      unlinked = is.unlinked;
    })

pub returns-in_err-joined-clause-fault : goal.returns-in_err-joined-clause-fault
returns-in_err-joined-clause-fault c =
    let p = err_from_is_err_and c.from_residual-in_err-joined.result c.from_residual-in_err-joined.ensures.1 in
    rw (p.1, p.2) c.in_err-joined.ensures.fault
