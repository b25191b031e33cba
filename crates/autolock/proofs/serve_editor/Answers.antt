use Rattle.std.proofs.Common.{◌≡◌, ◌≢◌, ◌∙◌, ℕ, List, Option, true, false, sym, inl, inr}
use Rattle.std.specs.Prelude.{◌⊎◌, codes}
use Rattle.driver.specs.{Tells, cannot_read, cannot_write, no_memory}
use Rattle.driver.specs.Editors.{status_for, message_for}
use Rattle.driver.specs.declared.status.Status.TheVariants as status
use Rattle.driver.specs.declared.streams.Streams.{Streams}
use Rattle.lsp_protocol.specs.declared.serving.End.{End}
use Rattle.lsp_protocol.specs.declared.serving.End.TheVariants.{Exit, Input, Unread, Unwritten, OutOfMemory}
use Rattle.autolock.proofs.serve_editor.Goals as goal

no_words : (end : End) → status_for end ≢ status.BadWords
no_words (Exit true) = λ e. cc
no_words (Exit false) = λ e. cc
no_words Input = λ e. cc
no_words Unread = λ e. cc
no_words Unwritten = λ e. cc
no_words OutOfMemory = λ e. cc

module _ {O E : Type 0} (told : E → Option (List ℕ)) (old new : Streams O E) where
  failure : (end : End) → status_for end ≡ status.Failed → Tells told old.err new.err (message_for end) →
      Tells told old.err new.err (cannot_read (codes "standard input")) ⊎ Tells told old.err new.err cannot_write
  failure (Exit true) e said = absurd cc
  failure (Exit false) e said = absurd cc
  failure Input e said = absurd cc
  failure Unread e said = inl said
  failure Unwritten e said = inr said
  failure OutOfMemory e said = absurd cc

  short : (end : End) → status_for end ≡ status.OutOfMemory → Tells told old.err new.err (message_for end) →
      Tells told old.err new.err no_memory
  short (Exit true) e said = absurd cc
  short (Exit false) e said = absurd cc
  short Input e said = absurd cc
  short Unread e said = absurd cc
  short Unwritten e said = absurd cc
  short OutOfMemory e said = said

pub returns-clause-words : goal.returns-clause-words
returns-clause-words g c = λ e. no_words c.lsp.ensures.ended (sym c.lsp.ensures.status_is ∙ e)

pub returns-clause-failed : goal.returns-clause-failed
returns-clause-failed g c = λ e.
    failure g.E.Write.contents c.args.streams.now c.lsp.new.streams c.lsp.ensures.ended (sym c.lsp.ensures.status_is ∙ e) c.lsp.ensures.said

pub returns-clause-memory : goal.returns-clause-memory
returns-clause-memory g c = λ e.
    short g.E.Write.contents c.args.streams.now c.lsp.new.streams c.lsp.ensures.ended (sym c.lsp.ensures.status_is ∙ e) c.lsp.ensures.said
