-- A request in hand.
use Rattle.std.specs.Prelude.{ℕ, List, Option, Result, Ok, Err, map, string_bytes, option_map}
use Rattle.std.specs.Borrow.{Bor}
use Rattle.lw_equal_top.specs.declared.request.Comparison.{Comparison}
use Rattle.lw_equal_top.specs.declared.request.Request.{Request}
use Rattle.lw_equal_top.specs.declared.request.Request.TheVariants.{Help, Version, Comparing}
use Rattle.lw_equal_top.specs.declared.request.WordFault.{WordFault}
use Rattle.lw_equal_top.specs.declared.request.WordFault.TheVariants.{Few, Dashed, Numeral}
use Rattle.lw_equal_top.specs.Words as spec

-- the request, without where its words lie in memory
abbrev pub plain_comparison : Comparison → spec.Comparison
plain_comparison c =
    record {
      library = option_map (λ word. word.now) c.library;
      tries = c.tries;
      counted = c.counted;
      files = map string_bytes c.files.now;
    }

abbrev pub plain_request : Request → spec.Request
plain_request Help = spec.help
plain_request Version = spec.version
plain_request (Comparing c) = spec.comparing (plain_comparison c)

abbrev pub plain_fault : WordFault → spec.WordFault
plain_fault Few = spec.few
plain_fault (Dashed word) = spec.dashed word.now
plain_fault (Numeral word) = spec.numeral word.now

-- what was asked for, or what is wrong with the words
abbrev pub asked : Result Request WordFault → Result spec.Request spec.WordFault
asked (Ok request) = Ok (plain_request request)
asked (Err fault) = Err (plain_fault fault)
