use Rattle.std.proofs.Common.{List, map, ◌∙◌, ap, subst}
use Rattle.std.specs.List.{AllZip}
use Rattle.core_lang.specs.declared.tree.Section.{Section}
use Rattle.core_lang.specs.declared.typed.Typed.{Typed}
use Rattle.core_lang.specs.Expansion.{IsWrittenOut}
use Rattle.core_lang.specs.WrittenLocals.{AreWrittenLocals}
use Rattle.core_lang_helpers.specs.Data.{head_data, IsExpanded}
use Rattle.core_lang.specs.Theory.Items.{zip_same}
use Rattle.core_lang_helpers.proofs.Clones.{same_classes, same_structs, same_globals, same_threads}
use Rattle.core_lang_helpers.proofs.Pairs.{zip_there, zip_back}
use Rattle.core_lang_helpers.proofs.WellFormed.{well_formed}
use Rattle.core_lang_helpers.proofs.program.expand.Goals as goal

pub returns-clause-expanded : goal.returns-clause-expanded
returns-clause-expanded c =
    let program = c.args.program.now in
    let R = IsWrittenOut program.shape in
    let list = program.sections.items in
    let all = subst (λ (xs : List Section). AllZip R xs c.in-Ok.sections.items) c.deref.ensures.value c.in-Ok.ensures.written in
    record {
      expansion = record {
        places = c.in_ok-shape.ensures.same;
        helpers = c.in_ok-shape.ensures.helpers;
        cells = zip_same _ (λ x y e. e) program.cells.items c.in_ok-cells.cells.items c.in_ok-cells.ensures.cases.0;
        there = zip_there R list c.in-Ok.sections.items all;
        back = zip_back R list c.in-Ok.sections.items all;
      };
      locals = subst (λ (xs : List Section). AllZip (AreWrittenLocals program.shape) xs c.in-Ok.sections.items) c.deref.ensures.value c.in-Ok.ensures.locals;
      besides = record {
        classes = same_classes program.classes.items c.in_ok-classes.classes.items c.in_ok-classes.ensures.cases.0;
        structs = same_structs program.structs.items c.in_ok-structs.structs.items c.in_ok-structs.ensures.cases.0;
        globals = same_globals program.globals.items c.in_ok-globals.globals.items c.in_ok-globals.ensures.cases.0;
        heads = c.in-Ok.ensures.heads ∙ ap (map head_data) c.deref.ensures.value;
        threads = same_threads program.threads.items c.in_ok-threads.threads.items c.in_ok-threads.ensures.cases.0;
      };
    }

pub returns-clause-well_formed : goal.returns-clause-well_formed
returns-clause-well_formed c =
    let made : Typed = record {
      classes = c.in_ok-classes.classes;
      structs = c.in_ok-structs.structs;
      globals = c.in_ok-globals.globals;
      shape = c.in_ok-shape.shape;
      cells = c.in_ok-cells.cells;
      sections = c.in-Ok.sections;
      threads = c.in_ok-threads.threads;
    } in
    let expanded : IsExpanded c.args.program.now made = returns-clause-expanded c in
    well_formed c.args.program.now made c.requires expanded.expansion expanded.besides expanded.locals c.writing_out_changes_nothing.ensures.bound
