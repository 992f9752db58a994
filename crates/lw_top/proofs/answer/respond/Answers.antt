use Rattle.lw_top.proofs.answer.respond.Goals as goal

pub returns-in-Mapping : goal.returns-in-Mapping
returns-in-Mapping g c = rw c.in-Mapping.is c.map_files.ensures

pub returns-in-Checking : goal.returns-in-Checking
returns-in-Checking g c = rw c.in-Checking.is c.check_files.ensures

pub returns-in-Timing : goal.returns-in-Timing
returns-in-Timing g c = rw c.in-Timing.is c.time_files.ensures

pub returns-in-Simulation : goal.returns-in-Simulation
returns-in-Simulation g c = rw c.in-Simulation.is c.simulate_files.ensures

pub returns-in-GateSimulation : goal.returns-in-GateSimulation
returns-in-GateSimulation g c = rw c.in-GateSimulation.is c.simulate_gate_files.ensures

pub returns-in-Counting : goal.returns-in-Counting
returns-in-Counting g c = rw c.in-Counting.is c.count_files.ensures

pub returns-in-Tabling : goal.returns-in-Tabling
returns-in-Tabling g c = rw c.in-Tabling.is c.table_files.ensures

pub returns-in-Drawing : goal.returns-in-Drawing
returns-in-Drawing g c = rw c.in-Drawing.is c.draw_files.ensures

pub returns-in-ToVerilog : goal.returns-in-ToVerilog
returns-in-ToVerilog g c = rw c.in-ToVerilog.is c.to_verilog_files.ensures

pub returns-in-FromVerilog : goal.returns-in-FromVerilog
returns-in-FromVerilog g c = rw c.in-FromVerilog.is c.from_verilog_files.ensures

pub returns-in-Trading : goal.returns-in-Trading
returns-in-Trading g c = rw c.in-Trading.is c.trade_files.ensures
