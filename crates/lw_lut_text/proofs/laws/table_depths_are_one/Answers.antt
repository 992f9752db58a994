use Rattle.lw_lut_text.proofs.TableDepths.{depths_once}
use Rattle.lw_lut_text.proofs.laws.table_depths_are_one.Goals as goal

pub returns : goal.returns
returns c = depths_once
