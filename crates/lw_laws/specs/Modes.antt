-- Which rules of decomposition hold.

-- the six laws, or with them the overlap law and the tied-inverter law
pub data Mode : Type 0 where
  plain : Mode
  idempotent : Mode
