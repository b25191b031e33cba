use Rattle.std.proofs.Common.{sym, ◌∙◌}
use Rattle.std.proofs.lemmas.List.{length-map}
use Rattle.std.specs.Prelude.{map}
use Rattle.syntax.specs.Views.{param_of, const_of}
use Rattle.types_symbols.specs.Working.Views.{decls_of}
use Rattle.types.proofs.Arguments.{typed_unlike}
use Rattle.types.proofs.constant.typed_arguments.Goals as goal

pub returns-then-params-constants : goal.returns-then-params-constants
returns-then-params-constants c =
    sym (typed_unlike (decls_of c.args.symbols.now) (map param_of c.args.params.now) (map const_of c.args.constants.now)
    (λ e. c.if-params-constants.true (sym (length-map c.args.params.now param_of) ∙ e ∙ length-map c.args.constants.now const_of)))
