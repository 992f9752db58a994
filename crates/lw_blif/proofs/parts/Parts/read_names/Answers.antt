use Rattle.std.proofs.Common.{Some, None, true, false, cond, length, ◌≡◌, ◌++◌, ap, sym, ◌∙◌, arith, length-append}
use Rattle.lw_blif.specs.declared.fault.BlifKind.TheVariants as kind
use Rattle.lw_blif.specs.LineFaults.{defined_for}
use Rattle.lw_blif.specs.Readers.{fault_else, are_fresh, names_fault_of}
use Rattle.lw_blif.proofs.Keeping.{fit-names}
use Rattle.lw_blif.proofs.parts.Parts.read_names.Goals as goal

pub returns-in-Some : goal.returns-in-Some
returns-in-Some c =
    let defined = c.args.self.now.defined.keys in
    let found : Some c.in-Some.kind ≡ names_fault_of (length defined) c.args.command c.args.words.now =
    sym c.in-Some.is ∙ (c.names_fault.ensures ∙ ap (λ n. names_fault_of n c.args.command c.args.words.now) c.len.ensures.len) in
    record {
      fault = ap (λ f. fault_else f (cond (are_fresh defined (defined_for c.args.command c.args.words.now)) None (Some kind.Redefined))) found;
      names = λ e. let wrong : Some c.in-Some.kind ≡ None = e in cc;
    }

pub returns-then-not-branch : goal.returns-then-not-branch
returns-then-not-branch c =
    let defined = c.args.self.now.defined.keys in
    let none : None ≡ names_fault_of (length defined) c.args.command c.args.words.now =
    sym c.in_default.is ∙ (c.names_fault.ensures ∙ ap (λ n. names_fault_of n c.args.command c.args.words.now) c.len.ensures.len) in
    let fresh : false ≡ are_fresh defined (defined_for c.args.command c.args.words.now) = sym c.if-not-branch.true ∙ c.in_ok-define.ensures.fresh in
    record {
      fault =
          ap (λ b. cond b None (Some kind.Redefined)) fresh
          ∙ ap (λ f. fault_else f (cond (are_fresh defined (defined_for c.args.command c.args.words.now)) None (Some kind.Redefined))) none;
      names = λ e. let wrong : Some kind.Redefined ≡ None = e in cc;
    }

pub invariant_of-line : goal.invariant_of-line
invariant_of-line c = record { wanted = (fit-names c.len.result c.args.command c.args.words.now (sym c.names_fault.ensures ∙ c.in_default.is)).wanted }

pub returns : goal.returns
returns c =
    let defined = c.args.self.now.defined.keys in
    let none : None ≡ names_fault_of (length defined) c.args.command c.args.words.now =
    sym c.in_default.is ∙ (c.names_fault.ensures ∙ ap (λ n. names_fault_of n c.args.command c.args.words.now) c.len.ensures.len) in
    let fresh : true ≡ are_fresh defined (defined_for c.args.command c.args.words.now) = sym c.if-not-branch.false ∙ c.in_ok-define.ensures.fresh in
    let fit = fit-names c.len.result c.args.command c.args.words.now (sym c.names_fault.ensures ∙ c.in_default.is) in
    let d = c.in_ok-define.ensures.defined c.if-not-branch.false in
    let t = c.in_ok-take_names.ensures in
    record {
      fault =
          ap (λ b. cond b None (Some kind.Redefined)) fresh
          ∙ ap (λ f. fault_else f (cond (are_fresh defined (defined_for c.args.command c.args.words.now)) None (Some kind.Redefined))) none;
      names = λ e.
          record {
            model = t.model ∙ ap (λ m. Rattle.std.proofs.Common.take 1 (Rattle.std.specs.Prelude.option_to_list m ++ Rattle.lw_blif.specs.Drafts.model_for c.args.command (Rattle.lw_blif.specs.LineFaults.other_words c.args.words.now))) d.model;
            inputs = t.inputs ∙ ap (λ i. i ++ Rattle.lw_blif.specs.Drafts.inputs_for c.args.command (Rattle.lw_blif.specs.LineFaults.other_words c.args.words.now)) d.inputs;
            outputs = t.outputs ∙ ap (λ o. Rattle.indexmap.specs.IndexSet.insert_all Rattle.std.specs.Str.bytes_eq o (Rattle.lw_blif.specs.Drafts.outputs_for c.args.command (Rattle.lw_blif.specs.LineFaults.other_words c.args.words.now))) d.outputs;
            defined = t.defined ∙ d.defined;
            nodes = cc;
            latches = t.latches ∙ ap (λ l. l ++ Rattle.lw_blif.specs.Drafts.latches_for c.args.command (Rattle.lw_blif.specs.LineFaults.other_words c.args.words.now)) d.latches;
            arrivals = t.arrivals ∙ d.arrivals;
            node = t.node;
            few = omega (arith, fit.few, c.len.ensures.len, ap length (t.defined ∙ d.defined), length-append c.args.self.now.defined.keys (defined_for c.args.command c.args.words.now));
          };
    }
