use Rattle.std.proofs.Common.{refl, map}
use Rattle.std.specs.List.{flat_map}
use Rattle.syntax.specs.Views.{decl_of}
use Rattle.explanation_names.specs.Working.UsesFound.{uses_of_decl}
use Rattle.explanation_names.specs.Working.Values.{locals_at}
use Rattle.explanation_names.proofs.Added.{tells_first, item_said, all_said}
use Rattle.explanation_names.proofs.search.NameSearch.in_decls.Goals as goal

pub loop-decl-init : goal.loop-decl-init
loop-decl-init c = tells_first _ _ _

pub loop-decl-preserved : goal.loop-decl-preserved
loop-decl-preserved c =
    item_said (λ xs. flat_map (uses_of_decl (locals_at c.args.self.now)) (map decl_of xs)) c.args.decls.now c.loop-decl.decl-index c.decl-item.result c.loop-decl-test.true c.decl-item.is refl
    c.loop-decl.invariant c.in_decl.ensures

pub returns : goal.returns
returns c =
    all_said (λ xs. flat_map (uses_of_decl (locals_at c.args.self.now)) (map decl_of xs)) c.args.decls.now c.loop-decl.decl-index c.loop-decl-test.false refl c.loop-decl.invariant
