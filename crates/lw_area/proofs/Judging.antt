-- The verdict on a netlist over the networks of some files.
use Rattle.std.proofs.Common.{◌≡◌, inl, inr, ℕ, ◌≤◌, List, Option, None, Result, Ok, Err, subst}
use Rattle.lw_io.specs.declared.file.File.{File}
use Rattle.lw_io.specs.Files.{bytes_of}
use Rattle.lw_pool.specs.Numbers.{numbers}
use Rattle.lw_laws.specs.Classes.{IsGraphOf}
use Rattle.lw_laws.specs.MappedNetlists.{form_classes}
use Rattle.lw_net.specs.Networks.{input_names, ports_of}
use Rattle.lw_net.specs.Plain as network
use Rattle.lw_genlib.specs.Cells.{CellParts}
use Rattle.lw_blif.specs.declared.parsed.Parsed.{Parsed}
use Rattle.lw_mapped.specs.declared.closing.Mapped.{Mapped}
use Rattle.lw_check.specs.declared.verdict.Reason.{Reason}
use Rattle.lw_check.specs.declared.verdict.Verdict.{Verdict}
use Rattle.lw_files.specs.declared.fault.FileFault.{FileFault}
use Rattle.lw_files.specs.Reading as file
use Rattle.lw_files.specs.Sources.{ReadsMapped, ReadsModel}
use Rattle.lw_files.specs.Steps.{Files, followed_by}
use Rattle.lw_map.specs.declared.fault.MapFault.TheVariants as map_fault
use Rattle.lw_map.specs.Options.{Options}
use Rattle.lw_joined.specs.declared.choices.Joined.{Joined}
use Rattle.lw_joined.specs.Covering.{HasVerdict}
use Rattle.lw_joined.specs.Joins.{joined_listing, own_form}
use Rattle.lw_area.specs.declared.refusal.Refusal.{Refusal}
use Rattle.lw_area.specs.declared.refusal.Refusal.TheVariants as refusal
use Rattle.lw_area.specs.declared.sources.Further as sources
use Rattle.lw_area.specs.declared.sources.Sources.{Sources}
use Rattle.lw_area.specs.Checks.{HasVerdictIn, IsJudged, IsVerdictOf, in_mapped}
use Rattle.lw_area.specs.Outcomes.{IsRefusedFor}
use Rattle.lw_area.specs.Sources.{ComesTo, HasReason, IsSourcesOf, ReadsOne, Step, in_further}
use Rattle.lw_area.specs.Spaces.{IsJoinedOf, space_of}
use Rattle.lw_area.specs.Words.{Settings, Task, checking}
use Rattle.lw_area.proofs.Further.{further_never}
use Rattle.lw_area.proofs.Made.{space_over}
use Rattle.lw_area.proofs.Steps.{comes_after, first, last_err, mapped_reason, refused_sources, second, stops, then_comes, third}

-- the verdict over the joined graph is one over what the network is mapped over
pub verdict_in : (settings : Settings) (s : Sources) (j : Joined) → IsJoinedOf settings s j → (mapped : Mapped) (v : Verdict) → HasVerdict s.library s.model j mapped v → HasVerdictIn settings s.library s.model s.further.items mapped v
verdict_in settings s j of mapped v is = record {
  space = space_of s.model.network j of.joined;
  over = space_over settings s j of;
  graph = j.choices.graph;
  is_graph = subst (λ (o : Options). IsGraphOf o.mode s.model.network.inputs (joined_listing o.width (network.plain j.union) of.joined.links) j.choices.graph) of.options_are of.joined.graph;
  roots = j.choices.roots;
  roots_are = subst (λ (o : Options). numbers j.choices.roots ≡ form_classes (joined_listing o.width (network.plain j.union) of.joined.links) (own_form o.width (network.plain s.model.network)) j.choices.graph (ports_of s.model.network).outputs) of.options_are of.joined.roots;
  is = is;
}

module _ (told : Option (List File)) (task : Task) (word : List ℕ) where
  abbrev next : List CellParts → Parsed → List sources.Further → Step Verdict
  next cells model further = followed_by (in_mapped (ReadsMapped word cells)) (λ mapped. IsJudged task.settings cells model further mapped)

  pub no_sources : (before now : ℕ) (e : Refusal) → HasReason told before now (IsSourcesOf task) e → HasReason told before now (IsVerdictOf task word) e
  no_sources before now e = refused_sources told task next before now e

  module _ (s : Sources) (has : file.Known told (IsSourcesOf task) (Ok s)) (before mid now : ℕ) (le : before ≤ mid) where
    pub no_netlist : (fault : FileFault) → file.HasReason told mid now (ReadsMapped word s.library) fault → HasReason told before now (IsVerdictOf task word) (refusal.Mapped fault)
    no_netlist fault reason =
        comes_after told task next before mid now s has le (Err (refusal.Mapped fault))
        (stops told (in_mapped (ReadsMapped word s.library)) (λ mapped. IsJudged task.settings s.library s.model s.further.items mapped) mid now (refusal.Mapped fault) (mapped_reason told mid now (ReadsMapped word s.library) fault reason))

    module _ (mapped : Mapped) (read : file.Known told (ReadsMapped word s.library) (Ok mapped)) (later : mid ≤ now) where
      is_judged : (r : Result Verdict Refusal) → ((files : Files) → IsJudged task.settings s.library s.model s.further.items mapped files r) → ComesTo told now now (IsJudged task.settings s.library s.model s.further.items mapped) r
      is_judged (Ok v) is = λ files known. is (bytes_of files)
      is_judged (Err (refusal.Unmapped map_fault.Memory)) is = tt
      is_judged (Err (refusal.Unmapped fault)) is = λ files known. is (bytes_of files)
      is_judged (Err other) is = absurd (is (λ name. None))

      pub verdict_comes : (r : Result Verdict Refusal) → ((files : Files) → IsJudged task.settings s.library s.model s.further.items mapped files r) → ComesTo told before now (IsVerdictOf task word) r
      verdict_comes r is =
          comes_after told task next before mid now s has le r
          (then_comes told (in_mapped (ReadsMapped word s.library)) (λ mapped. IsJudged task.settings s.library s.model s.further.items mapped) mid now now mapped r later read (is_judged r is))

-- no file is refused because a netlist is none
one_never : (names : List (List ℕ)) (reason : Reason) (files : Files) (place : ℕ) (word : List ℕ) → ReadsOne names place word files (Err (refusal.No reason)) → ⊥
one_never names reason files place word (inl (model, read, placed)) = placed
one_never names reason files place word (inr (e, read, same)) =
    let is : e ≡ refusal.No reason = cc in
    subst (λ (r : Refusal). in_further place (ReadsModel word) files (Err r)) is read

module _ (task : Task) (word : List ℕ) where
  abbrev judged : List CellParts → Parsed → List sources.Further → Step Verdict
  judged cells model further = followed_by (in_mapped (ReadsMapped word cells)) (λ mapped. IsJudged task.settings cells model further mapped)

  judged_never : (reason : Reason) (files : Files) (cells : List CellParts) (model : Parsed) (further : List sources.Further) → judged cells model further files (Err (refusal.No reason)) → ⊥
  judged_never reason files cells model further (inl (mapped, read, nothing)) = nothing
  judged_never reason files cells model further (inr (e, read, same)) =
      let is : e ≡ refusal.No reason = cc in
      subst (λ (r : Refusal). in_mapped (ReadsMapped word cells) files (Err r)) is read

  never_no : (reason : Reason) (files : Files) → IsVerdictOf task word files (Err (refusal.No reason)) → ⊥
  never_no reason files is =
      let e = refusal.No reason in
      let m = last_err (first task) (second task) (third task) judged files e (λ r. r) (λ r. r) (λ model r. let names = input_names model.network in further_never names files e (one_never names reason files) 0 task.more r) is in
      judged_never reason files m.a m.b m.c m.comes

  -- a reason against a verdict is one to refuse
  pub judged_refused : (told : Option (List File)) (before now : ℕ) (e : Refusal) → HasReason told before now (IsVerdictOf task word) e → IsRefusedFor told before now (checking task word) e
  judged_refused told before now (refusal.No reason) r = λ files known. absurd (never_no reason (bytes_of files) (r files known))
  judged_refused told before now other r = r
