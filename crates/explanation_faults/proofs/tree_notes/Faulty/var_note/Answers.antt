use Rattle.std.proofs.Common.{◌∙◌, sym, ap, map, Bool, List}
use Rattle.std.proofs.lemmas.Result.{IfOk-weaker}
use Rattle.syntax.specs.declared.tree.Stmt as the_stmt
use Rattle.syntax.specs.Views.{stmts_of}
use Rattle.explanation_names.specs.TokensThere.{name_of, has_two_fields}
use Rattle.explanation_names.specs.Vars.{all_of}
use Rattle.explanation_faults.specs.Working.Values.{decls_of, tokens_of}
use Rattle.explanation_names.specs.Working.Viewed.{section_at, stmt_at, text_at}
use Rattle.explanation_faults.specs.Working.VarsFound.{note_of_var}
use Rattle.explanation_faults.proofs.VarsNoted.{noted_by}
use Rattle.syntax.specs.Trees.{Stmt}
use Rattle.explanation_faults.proofs.tree_notes.Faulty.var_note.Goals as goal

pub returns : goal.returns
returns c =
    let x = c.args.self.now in
    let i = c.in-Some.i in
    let q = text_at c.in-Some-name_of.text in
    let named = c.in-Some-name_of.ensures ∙ ap name_of c.token_of.ensures in
    let inside = rw c.items.ensures at c.in-Some-section_there.ensures in
    let noted = noted_by (tokens_of x) (decls_of x) x.at i q (section_at c.in-Some-section_there.section) c.in-Some.ensures.place named inside in
    let all =
    ap (map stmt_at) c.deref-2.ensures.value ∙ c.in_ok-all.ensures
    ∙ ap (λ (ss : List the_stmt.Stmt). all_of (stmts_of ss)) c.deref.ensures.value in
    IfOk-weaker c.note_of_var.result _ _
    (λ note is.
    is ∙ ap (λ (b : Bool). note_of_var b q (map stmt_at c.deref-2.result.now)) c.has_two_fields.ensures
    ∙ ap (λ (ss : List Stmt). note_of_var (has_two_fields i (tokens_of x)) q ss) all ∙ sym noted)
    c.note_of_var.ensures
