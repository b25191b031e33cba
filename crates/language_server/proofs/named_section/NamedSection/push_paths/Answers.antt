use Rattle.std.proofs.Common.{◌∙◌, ◌++◌, List, ℕ, ap, get_or, refl, string_bytes}
use Rattle.language_server.specs.Working.Sets.{path_text_of}
use Rattle.language_server.proofs.PathTexts.{one_more}
use Rattle.language_server.proofs.named_section.NamedSection.push_paths.Goals as goal

pub loop-number-preserved : goal.loop-number-preserved
loop-number-preserved c =
    let i = c.loop-number.number-index in
    one_more (path_text_of c.args.self.now) c.args.list.now i (get_or c.args.list.now i 0) (string_bytes c.args.out.now) (string_bytes c.loop-number.out)
    (string_bytes c.push_str.new.self) (string_bytes c.push_str-in-loop-number.new.self) c.loop-number-test.true refl c.loop-number.invariant
    c.in_ok-push_str.ensures.bytes
    (c.in_ok-push_str-2.ensures.bytes ∙ ap (λ (t : List ℕ). string_bytes c.push_str.new.self ++ t) c.path.ensures)
