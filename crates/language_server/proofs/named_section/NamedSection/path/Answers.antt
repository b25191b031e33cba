use Rattle.std.proofs.Common.{◌∙◌, [], Global, string_bytes, ap}
use Rattle.std.specs.Option.{option_map_or}
use Rattle.locks.specs.LockPaths.{lock_paths}
use Rattle.locks.specs.Texts.{path_text}
use Rattle.language_server.proofs.PathTexts.{copied, text_here}
use Rattle.language_server.proofs.named_section.NamedSection.path.Goals as goal

pub returns : goal.returns
returns c =
    let x = c.args.self.now in
    c.or_nothing.ensures ∙ ap (λ o. option_map_or (string_bytes {Z = Global}) o []) (copied x.paths.now c.args.number c.get.result c.get.ensures.lookup)
    ∙ text_here (path_text x.program.now x.section.now) (lock_paths x.program.now x.section.now) x.paths.now c.args.number x.named
