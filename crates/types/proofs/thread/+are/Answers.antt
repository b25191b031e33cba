use Rattle.std.proofs.Common.{◌∙◌}
use Rattle.types_symbols.specs.Working.Views.{decls_of}
use Rattle.types.proofs.Threads.{repeat_some}
use Rattle.types.proofs.thread.+are.Goals as goal

pub is_typed-returns-in-Repeat : goal.is_typed-returns-in-Repeat
is_typed-returns-in-Repeat t c = c.all_typed.ensures ∙ repeat_some (decls_of c.args.symbols.now) c.args.item.now c.in-Repeat.field-0 c.in-Repeat.items c.deref.result.now c.in-Repeat.is c.deref.ensures.value
