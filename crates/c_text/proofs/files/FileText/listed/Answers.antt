use Rattle.std.proofs.Common.{◌≡◌, ◌∙◌, ◌<◌, Some, length, map, refl, sym, ap, subst}
use Rattle.std.specs.Prelude.{slice_get}
use Rattle.std.proofs.lemmas.Option.{slice_get_read}
use Rattle.core_lang.specs.declared.typed.Typed.{Typed}
use Rattle.locks.specs.LockPaths.{lock_path_of}
use Rattle.code.specs.Lowering.{section_code}
use Rattle.c_text.proofs.files.FileText.listed.Goals as goal

pub returns : goal.returns
returns c =
    let plan = c.args.self.now.program.now in
    let sections = plan.program.sections.items in
    let typed = c.expanded.result.now in
    let k = c.args.number in
    let section = c.index.result.now in
    let code = c.code.result.now in
    let made = c.index-2.result.now in
    let paths = c.paths.result.now in
    let found = c.index-3.result.now in
    let lt : k < length typed.sections.items = subst (λ (p : Typed). k < length p.sections.items) (sym c.expanded.ensures.program) c.requires in
    let read = slice_get_read typed.sections.items (length typed.sections.items) k section refl lt c.index.ensures in
    let at : slice_get sections k ≡ Some section = subst (λ (p : Typed). slice_get p.sections.items k ≡ Some section) c.expanded.ensures.program read in
    let there = slice_get_read code.sections.items (length sections) k made (sym c.code.ensures.long) c.requires c.index-2.ensures in
    let lowered = c.code.ensures.each k section made at there in
    let located = slice_get_read paths.sections.items (length sections) k found (sym c.paths.ensures.sections) c.requires c.index-3.ensures in
    record {
      section = at;
      code = lowered.instructions ∙ ap (λ ls. section_code ls section) (sym c.lists_before.ensures);
      own = c.lists_before.ensures;
      begins = lowered.begins;
      paths = ap (map lock_path_of) c.deref.ensures.value ∙ (c.paths.ensures.each k section found at located).paths;
    }
