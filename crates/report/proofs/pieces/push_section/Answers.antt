use Rattle.std.proofs.Common.{Option, string_bytes, [], refl}
use Rattle.std.specs.Option.{option_map_or}
use Rattle.std.proofs.lemmas.Result.{on_ok_weaker}
use Rattle.core_lang.specs.declared.tree.Section.{Section}
use Rattle.locks.specs.Theory.Written.{item_here, item_past, some_added, none_added, piece_added}
use Rattle.report.proofs.pieces.push_section.Goals as goal

pub returns-in-Some : goal.returns-in-Some
returns-in-Some c =
    let old = string_bytes c.args.out.now in
    let text = λ (found : Option Section). option_map_or (λ (x : Section). string_bytes x.name) found [] in
    let here = item_here c.args.program.now.sections.items c.deref.result.now c.args.section c.deref.ensures.value c.in-Some.section c.in-Some.ensures.lookup in
    on_ok_weaker c.push_str.result (λ e. some_added text _ c.in-Some.section.now old _ _ here c.as_str.ensures.value e)
    (piece_added c.push_str.result _ old c.as_str.result.now c.push_str.ensures.bytes)

pub returns-in-None : goal.returns-in-None
returns-in-None c =
    let text = λ (found : Option Section). option_map_or (λ (x : Section). string_bytes x.name) found [] in
    none_added text _ (string_bytes c.args.out.now) (item_past c.args.program.now.sections.items c.deref.result.now c.args.section c.deref.ensures.value c.in-None.ensures.lookup) refl
