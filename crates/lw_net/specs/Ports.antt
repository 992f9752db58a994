-- The ports of a network by name.
pub use Rattle.lw_net.specs.Networks.{output_port, ports_of}
