use Rattle.std.proofs.Common.{◌∙◌, ◌++◌, string_bytes, refl, sym, ap}
use Rattle.std.proofs.lemmas.Result.{on_ok_weaker}
use Rattle.code.specs.Listing.{text_at}
use Rattle.code.specs.Theory.Written.{found_added, none_added, text_at-map}
use Rattle.locks.specs.declared.path.LockPath as written
use Rattle.locks.specs.LockPaths.{lock_path_of}
use Rattle.locks.specs.Texts.{path_text}
use Rattle.report_runs.proofs.instructions.SectionTeller.push_numbered.Goals as goal

pub returns-in-Some : goal.returns-in-Some
returns-in-Some c =
    let x = c.args.self.now in
    let old = string_bytes c.args.out.now in
    let text = path_text x.program.now x.listed.section.now in
    let mapped = text_at-map lock_path_of text x.listed.paths.now c.args.number in
    on_ok_weaker c.push_path.result
    (λ e. found_added (λ (p : written.LockPath). text (lock_path_of p)) _ _ _ old refl c.in-Some.path _ _
    c.in-Some.ensures.lookup refl e
    ∙ ap (λ t. old ++ t) (sym mapped ∙ ap (λ paths. text_at text paths c.args.number) c.requires))
    c.push_path.ensures

pub returns-in-None : goal.returns-in-None
returns-in-None c =
    let x = c.args.self.now in
    let old = string_bytes c.args.out.now in
    let text = path_text x.program.now x.listed.section.now in
    let mapped = text_at-map lock_path_of text x.listed.paths.now c.args.number in
    none_added (λ (p : written.LockPath). text (lock_path_of p)) _ _ _ old refl c.in-None.ensures.lookup
    ∙ ap (λ t. old ++ t) (sym mapped ∙ ap (λ paths. text_at text paths c.args.number) c.requires)
