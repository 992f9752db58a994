use Rattle.lw_map.specs.Options.{plain_options}
use Rattle.lw_top.specs.Maps.{Maps}
use Rattle.lw_top.proofs.Giving.{map_refused, mapping_given}
use Rattle.lw_top.proofs.answering.map_model.Goals as goal

pub returns-in-Ok : goal.returns-in-Ok
returns-in-Ok c = mapping_given (plain_options c.args.options) c.args.library c.args.model c.requires c.args.certified c.in-Ok.mapped c.in-Ok.ensures.certified

pub returns-in-Err : goal.returns-in-Err
returns-in-Err c =
    let options = plain_options c.args.options in
    let model = c.args.model in
    rw c.of_map.ensures (map_refused (Maps options c.args.certified c.args.library model) options model.network c.args.library model.starts (λ files r is. is) c.in-Err.fault c.in-Err.ensures.fault)
