-- What is asked for, without where its words lie in memory.
use Rattle.std.specs.Prelude.{map, string_bytes, Result, Ok, Err}
use Rattle.lw_map.specs.Options.{plain_options}
use Rattle.lw_area.specs.declared.words.Settings as code_settings
use Rattle.lw_area.specs.declared.words.Task as code_task
use Rattle.lw_area.specs.declared.words.WrongWord as code_wrong
use Rattle.lw_area.specs.declared.words.Begun as code_begun
use Rattle.lw_area.specs.declared.words.Asked as code_asked
use Rattle.lw_area.specs.declared.words.Asked.TheVariants.{Usage, Version, Mapping, Checking}
use Rattle.lw_area.specs.Words as spec

abbrev pub plain_settings : code_settings.Settings → spec.Settings
plain_settings s =
    record {
      options = plain_options s.options;
      linked = s.linked;
      certified = s.certified;
      counted = s.counted;
      effort = s.effort;
      deadline = s.deadline;
    }

abbrev pub plain_task : code_task.Task → spec.Task
plain_task task =
    record {
      settings = plain_settings task.settings;
      library = task.library.now;
      network = task.network.now;
      more = map string_bytes task.more.now;
    }

abbrev pub plain_wrong : code_wrong.WrongWord → spec.WrongWord
plain_wrong wrong = record { word = wrong.word.now; why = wrong.why }

abbrev pub plain_begun : code_begun.Begun → spec.Begun
plain_begun begun = record { settings = plain_settings begun.settings; rest = map string_bytes begun.rest.now }

abbrev pub plain_asked : code_asked.Asked → spec.Asked
plain_asked Usage = spec.usage
plain_asked Version = spec.version
plain_asked (Mapping task) = spec.mapping (plain_task task)
plain_asked (Checking task mapped) = spec.checking (plain_task task) mapped.now

abbrev pub set_result : Result code_settings.Settings code_wrong.WrongWord → Result spec.Settings spec.WrongWord
set_result (Ok s) = Ok (plain_settings s)
set_result (Err wrong) = Err (plain_wrong wrong)

abbrev pub begun_result : Result code_begun.Begun code_wrong.WrongWord → Result spec.Begun spec.WrongWord
begun_result (Ok begun) = Ok (plain_begun begun)
begun_result (Err wrong) = Err (plain_wrong wrong)

abbrev pub task_result : Result code_task.Task code_wrong.WrongWord → Result spec.Task spec.WrongWord
task_result (Ok task) = Ok (plain_task task)
task_result (Err wrong) = Err (plain_wrong wrong)

abbrev pub asked_result : Result code_asked.Asked code_wrong.WrongWord → Result spec.Asked spec.WrongWord
asked_result (Ok asked) = Ok (plain_asked asked)
asked_result (Err wrong) = Err (plain_wrong wrong)
