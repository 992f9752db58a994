-- The words that ask for a mapping are those whose command is one.
use Rattle.std.proofs.Common.{◌≡◌, ◌↔◌, ℕ, Bool, true, false, List, [], ◌∷◌, codes, Option, Some, None, if◌then◌else◌}
use Rattle.std.specs.Str.{bytes_eq}
use Rattle.lw_fixed.specs.declared.micro.Micro.{Micro}
use Rattle.lw_map.specs.Options.{Options}
use Rattle.lw_top.specs.Words.{Command, mapping, Two, Three, Begun, one_file, two_files, three_files, begun_by, leaves_of, seed_of, count_of, deadline_of, checking_of, checking_begun, counting_of, counting_begun, tabling_of, tabling_by, tabling_begun, timing_of, network_simulation, netlist_simulation, simulation_of, drawing_by, drawing_of, to_verilog_of, from_verilog_of, trading_of, traded_of, trading_begun, mapping_begun, command_of}
use Rattle.lw_top.specs.Mappings.{map_words}

-- words of this form are the command's
pub map_asked : (words : List (List ℕ)) (c : Command) → map_words words ≡ Some c → command_of words ≡ Some c
map_asked [] c e = cc
map_asked (name ∷ words) c e = by_name (mapping_begun (begun_by words)) _ (bytes_eq name (codes "map")) e
  where
    by_name : (one other : Option Command) (t : Bool) → (if t then one else None) ≡ Some c → (if t then one else other) ≡ Some c
    by_name one other true s = s
    by_name one other false s = cc

module _ (options : Options) (certified : Bool) (library network : List ℕ) where
  abbrev own : Command
  own = mapping options certified library network

  -- no other word gives this command
  abbrev IsOther : Option Command → Type 0
  IsOther c = c ≡ Some own → ⊥

  not_check : (b : Option Begun) → IsOther (checking_begun b)
  not_check None e = cc
  not_check (Some begun) e = by_files (three_files begun.rest) e
    where
      by_files : (f : Option Three) → IsOther (checking_of begun.options f)
      by_files None e = cc
      by_files (Some f) e = cc

  not_graph : (b : Option Begun) → IsOther (counting_begun b)
  not_graph None e = cc
  not_graph (Some begun) e = by_file (one_file begun.rest) e
    where
      by_file : (f : Option (List ℕ)) → IsOther (counting_of begun.options f)
      by_file None e = cc
      by_file (Some f) e = cc

  not_time : (f : Option Two) → IsOther (timing_of f)
  not_time None e = cc
  not_time (Some f) e = cc

  not_sim : (words : List (List ℕ)) → IsOther (simulation_of words)
  not_sim [] e = cc
  not_sim (option ∷ words) e = by_option (bytes_eq option (codes "-g")) (three_files words) (two_files (option ∷ words)) e
    where
      by_option : (t : Bool) (f : Option Three) (h : Option Two) → IsOther (if t then netlist_simulation f else network_simulation h)
      by_option true None h e = cc
      by_option true (Some f) h e = cc
      by_option false f None e = cc
      by_option false f (Some h) e = cc

  not_big : (words : List (List ℕ)) → IsOther (drawing_of words)
  not_big [] e = cc
  not_big (seed ∷ []) e = cc
  not_big (seed ∷ count ∷ words) e = by_numbers (seed_of seed) (count_of count) (one_file words) e
    where
      by_numbers : (s c : Option ℕ) (f : Option (List ℕ)) → IsOther (drawing_by s c f)
      by_numbers None c f e = cc
      by_numbers (Some s) None f e = cc
      by_numbers (Some s) (Some c) None e = cc
      by_numbers (Some s) (Some c) (Some f) e = cc

  not_verilog : (f : Option Two) → IsOther (to_verilog_of f)
  not_verilog None e = cc
  not_verilog (Some f) e = cc

  not_unverilog : (f : Option Two) → IsOther (from_verilog_of f)
  not_unverilog None e = cc
  not_unverilog (Some f) e = cc

  not_lut : (words : List (List ℕ)) → IsOther (tabling_begun words)
  not_lut [] e = cc
  not_lut (leaves ∷ words) e = by_begun (leaves_of leaves) (begun_by words) e
    where
      by_file : (n : ℕ) (begun : Begun) (f : Option (List ℕ)) → IsOther (tabling_of n begun.options f)
      by_file n begun None e = cc
      by_file n begun (Some f) e = cc

      by_begun : (n : Option ℕ) (b : Option Begun) → IsOther (tabling_by n b)
      by_begun None b e = cc
      by_begun (Some n) None e = cc
      by_begun (Some n) (Some begun) e = by_file n begun (one_file begun.rest) e

  not_trade : (b : Option Begun) → IsOther (trading_begun b)
  not_trade None e = cc
  not_trade (Some begun) e = by_words begun.rest e
    where
      by_deadline : (d : Option (Option Micro)) (f : Option Two) → IsOther (trading_of begun.options d f)
      by_deadline None f e = cc
      by_deadline (Some d) None e = cc
      by_deadline (Some d) (Some f) e = cc

      by_words : (words : List (List ℕ)) → IsOther (traded_of begun.options words)
      by_words [] e = cc
      by_words (time ∷ words) e = by_deadline (deadline_of time) (two_files words) e

  or_other : (t : Bool) (one other : Option Command) → IsOther one → IsOther other → IsOther (if t then one else other)
  or_other true one other a b = a
  or_other false one other a b = b

  or_none : (t : Bool) (one other : Option Command) → IsOther other → (if t then one else other) ≡ Some own → (if t then one else None) ≡ Some own
  or_none true one other b e = e
  or_none false one other b e = absurd (b e)

  -- and no other words have this command
  pub map_alone : (words : List (List ℕ)) → command_of words ≡ Some own → map_words words ≡ Some own
  map_alone [] e = cc
  map_alone (name ∷ words) e = or_none (bytes_eq name (codes "map")) (mapping_begun (begun_by words)) _
      (or_other (bytes_eq name (codes "check")) (checking_begun (begun_by words)) _ (not_check (begun_by words))
      (or_other (bytes_eq name (codes "time")) (timing_of (two_files words)) _ (not_time (two_files words))
      (or_other (bytes_eq name (codes "sim")) (simulation_of words) _ (not_sim words)
      (or_other (bytes_eq name (codes "graph")) (counting_begun (begun_by words)) _ (not_graph (begun_by words))
      (or_other (bytes_eq name (codes "big")) (drawing_of words) _ (not_big words)
      (or_other (bytes_eq name (codes "verilog")) (to_verilog_of (two_files words)) _ (not_verilog (two_files words))
      (or_other (bytes_eq name (codes "unverilog")) (from_verilog_of (two_files words)) _ (not_unverilog (two_files words))
      (or_other (bytes_eq name (codes "lut")) (tabling_begun words) _ (not_lut words)
      (or_other (bytes_eq name (codes "trade")) (trading_begun (begun_by words)) None (not_trade (begun_by words)) (λ e. cc))))))))))
      e

  pub map_words_are : (words : List (List ℕ)) → (map_words words ≡ Some own) ↔ (command_of words ≡ Some own)
  map_words_are words = (map_asked words own, map_alone words)
