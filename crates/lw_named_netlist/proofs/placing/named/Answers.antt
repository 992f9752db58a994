use Rattle.std.proofs.Common.{◌<◌, ◌+◌, ◌++◌, ap, ap₂, length, map, All, Contains, refl, sym, subst, ◌∙◌}
use Rattle.lw_named_netlist.specs.Closing.{port_at}
use Rattle.lw_named_netlist.specs.Placing.{signal_at}
use Rattle.lw_named_netlist.proofs.placing.named.Goals as goal

pub names_by-requires : goal.names_by-requires
names_by-requires c = subst (λ l. All (λ p. c.args.graph.inputs + p < length l) c.args.places.now) (sym c.names.ensures) c.requires.places_within

pub ports-requires-clause-count : goal.ports-requires-clause-count
ports-requires-clause-count c = c.requires.count

pub ports-requires-clause-known : goal.ports-requires-clause-known
ports-requires-clause-known c = subst (All (Contains c.args.graph.signals)) (sym c.into_vec.ensures) c.requires.known

pub returns : goal.returns
returns c = record {
  model_is = refl;
  names_are = c.from_vec.ensures ∙ (c.in-Ok.ensures ∙ ap₂ (λ l s. l ++ map (signal_at c.args.graph.inputs s) c.args.places.now) c.into_vec-first.ensures c.names.ensures);
  outputs_are = λ net tell. c.from_vec-2.ensures ∙ (c.in-Ok-ports.ensures net tell ∙ ap (map (port_at net)) c.into_vec.ensures);
}
