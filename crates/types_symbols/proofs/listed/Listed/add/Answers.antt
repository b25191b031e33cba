use Rattle.std.proofs.Common.{◌∙◌, ap₂, true, List, ℕ}
use Rattle.std.specs.Prelude.{◌&&◌, if◌then◌else◌}
use Rattle.std.specs.Str.{bytes_eq}
use Rattle.types_symbols.specs.Working.Listed.{is_listed}
use Rattle.types_symbols.proofs.listed.Listed.add.Goals as goal

pub returns-clause-names : goal.returns-clause-names
returns-clause-names c = λ d.
    let s = c.as_str.result in
    let l = c.as_str-2.result in
    c.in_ok-is_new.ensures.updates.0 (record s { now = d.structure.text }, record l { now = d.lock.text })
    ∙ ap₂ (λ (a b : List ℕ). if bytes_eq a d.structure.text && bytes_eq b d.lock.text then true else is_listed c.args.self.now d) c.as_str.ensures.value c.as_str-2.ensures.value
