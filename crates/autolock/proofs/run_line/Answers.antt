use Rattle.std.proofs.Common.{◌≡◌, List, ℕ, [], ◌∷◌, ap, ap₂, ◌∙◌, sym, inl, inr}
use Rattle.std.specs.Prelude.{◌⊎◌, codes}
use Rattle.driver.specs.{Tells, cannot_read}
use Rattle.autolock.specs.Asked.{files_of, files_read, NamesOneOf}
use Rattle.autolock.proofs.Naming.{failure_told}
use Rattle.autolock.proofs.run_line.Goals as goal

pub returns-in-Code-clause-failed : goal.returns-in-Code-clause-failed
returns-in-Code-clause-failed g c =
    λ failed. inr (c.explain_code.ensures.unwritten (c.explain_code.ensures.failed.0 failed))

named : (Told : List ℕ → Type 0) (Other : Type 0) (files : List (List ℕ)) → files ≡ codes "standard input" ∷ [] →
    Told (cannot_read (codes "standard input")) ⊎ Other → NamesOneOf Told files ⊎ Other
named Told Other files is (inl told) = inl (rw is (inl told))
named Told Other files is (inr other) = inr other

pub returns-in-Lsp-clause-failed : goal.returns-in-Lsp-clause-failed
returns-in-Lsp-clause-failed g c =
    λ failed.
    named (Tells g.E.Write.contents c.args.streams.now.err c.serve_editor.new.streams.err) _ (files_of c.args.line)
    (ap (files_read c.args.line.file.now) c.in-Lsp.is) (c.serve_editor.ensures.failed failed)

pub returns-in-Alone-clause-failed : goal.returns-in-Alone-clause-failed
returns-in-Alone-clause-failed g c =
    λ failed.
    failure_told c.serve.ensures failed (files_of c.args.line)
    (ap (λ (f : List ℕ). f ∷ []) c.source_text-source.ensures.name
    ∙ sym (ap (files_read c.args.line.file.now) c.in-Alone.is))

pub returns-in-Beside-clause-failed : goal.returns-in-Beside-clause-failed
returns-in-Beside-clause-failed g c =
    λ failed.
    failure_told c.serve_beside.ensures failed (files_of c.args.line)
    (ap₂ (λ (f other : List ℕ). f ∷ other ∷ []) c.source_text-program.ensures.name c.source_text-other.ensures.name
    ∙ sym (ap (files_read c.args.line.file.now) c.in-Beside.is))
