use Rattle.std.proofs.Common.{◌∙◌, refl, arith}
use Rattle.lw_area.specs.Plain.{plain_task}
use Rattle.lw_area.proofs.Reading.{all_sources, no_further, no_library, no_network}
use Rattle.lw_area.proofs.sources.read_sources.Goals as goal

pub returns-in-Err : goal.returns-in-Err
returns-in-Err g c = (
  record {
    files = c.in-Err.ensures.files;
    later = c.in-Err.ensures.later;
    comes = no_library (g.F.Shelf.files c.args.shelf.now) (plain_task c.args.task) _ _ c.in-Err.fault c.in-Err.ensures.reads;
  },
  tt,
)

pub returns-in-Err-read_model : goal.returns-in-Err-read_model
returns-in-Err-read_model g c = (
  record {
    files = c.in-Err-read_model.ensures.reads.files ∙ c.in-Ok.ensures.files;
    later = omega (arith, c.in-Ok.ensures.later, c.in-Err-read_model.ensures.reads.later);
    comes =
        no_network (g.F.Shelf.files c.args.shelf.now) (plain_task c.args.task) c.in-Ok.library c.in-Ok.ensures.reads (g.F.Shelf.faults c.args.shelf.now) (g.F.Shelf.faults c.read_library.new.shelf) c.in-Ok.ensures.later (g.F.Shelf.faults c.read_model.new.shelf) c.in-Err-read_model.fault
        (rw c.in-Ok.ensures.files at c.in-Err-read_model.ensures.reads.reads);
  },
  tt,
)

pub returns-in-Err-read_all : goal.returns-in-Err-read_all
returns-in-Err-read_all g c =
    let model_files = c.in-Ok-read_model.ensures.reads.files ∙ c.in-Ok.ensures.files in (
      record {
        files = c.in-Err-read_all.ensures.reads.files ∙ model_files;
        later = omega (arith, c.in-Ok.ensures.later, c.in-Ok-read_model.ensures.reads.later, c.in-Err-read_all.ensures.reads.later);
        comes =
            no_further (g.F.Shelf.files c.args.shelf.now) (plain_task c.args.task) c.in-Ok.library c.in-Ok.ensures.reads (g.F.Shelf.faults c.args.shelf.now) (g.F.Shelf.faults c.read_library.new.shelf) c.in-Ok.ensures.later c.in-Ok-read_model.model
            (rw c.in-Ok.ensures.files at c.in-Ok-read_model.ensures.reads.reads) (g.F.Shelf.faults c.read_model.new.shelf) c.in-Ok-read_model.ensures.reads.later (g.F.Shelf.faults c.read_all.new.shelf) c.in-Err-read_all.refusal
            (rw model_files at c.in-Err-read_all.ensures.reads.comes);
      },
      tt,
    )

pub returns-in-Ok-read_all : goal.returns-in-Ok-read_all
returns-in-Ok-read_all g c =
    let model_files = c.in-Ok-read_model.ensures.reads.files ∙ c.in-Ok.ensures.files in (
      record {
        files = c.in-Ok-read_all.ensures.reads.files ∙ model_files;
        later = omega (arith, c.in-Ok.ensures.later, c.in-Ok-read_model.ensures.reads.later, c.in-Ok-read_all.ensures.reads.later);
        comes =
            all_sources (g.F.Shelf.files c.args.shelf.now) (plain_task c.args.task) c.in-Ok.library c.in-Ok.ensures.reads (g.F.Shelf.faults c.args.shelf.now) (g.F.Shelf.faults c.read_library.new.shelf) c.in-Ok.ensures.later c.in-Ok-read_model.model
            (rw c.in-Ok.ensures.files at c.in-Ok-read_model.ensures.reads.reads) (g.F.Shelf.faults c.read_model.new.shelf) c.in-Ok-read_model.ensures.reads.later _ refl refl
            (rw model_files at c.in-Ok-read_all.ensures.reads.comes);
      },
      record { library = c.len.ensures.kept; model = c.in-Ok-read_model.ensures.model; further = c.in-Ok-read_all.ensures.fit },
    )
