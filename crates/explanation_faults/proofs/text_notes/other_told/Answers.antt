use Rattle.std.proofs.Common.{List, map, sym, subst}
use Rattle.explanation.specs.Notes.{note_of}
use Rattle.source.specs.Tokens.{Tok, seen}
use Rattle.syntax.specs.Grammar.{HasTree}
use Rattle.syntax.specs.Views.{tree_of}
use Rattle.explanation_faults.specs.FurtherFaults.{AreFurther}
use Rattle.explanation_faults.specs.TextNotes.{AreTextNotes, HasTextTree}
use Rattle.explanation_faults.proofs.OtherFaults.{with_first, without}
use Rattle.explanation_faults.proofs.TextTrees.{with_tree, within_limit, without_tree}
use Rattle.explanation_faults.proofs.text_notes.other_told.Goals as goal

pub returns-in-Err-Fault-clause-further : goal.returns-in-Err-Fault-clause-further
returns-in-Err-Fault-clause-further c =
    let text = c.args.text.now in
    let code = c.args.fault.now.code in
    let at = c.args.fault.now.start in
    subst (AreFurther text code at) (sym c.alone.ensures.further) (without text code at (λ us ds few has.
    let only = c.in-Err-Fault.ensures.only us few has.has_tokens in
    let is = c.in-Err-Fault.field-0-is in
    absurd cc))

pub returns-in_default-clause-notes : goal.returns-in_default-clause-notes
returns-in_default-clause-notes c =
    let lexed = c.in-Ok.ensures in
    rw c.alone-in_default.ensures.notes
    (without_tree c.args.text.now (seen c.in-Ok.tokens.items) c.args.fault.now.code c.args.fault.now.start _ lexed.refused c.requires lexed.found
    (λ us few have. sym (lexed.only us few have)) (rw c.deref.ensures.value at (rw c.in_default.is at c.in_ok-tree.ensures)) c.in_ok-notes.ensures)

pub returns-in_default-clause-further : goal.returns-in_default-clause-further
returns-in_default-clause-further c =
    let text = c.args.text.now in
    let code = c.args.fault.now.code in
    let at = c.args.fault.now.start in
    let no_tree = rw c.deref.ensures.value at (rw c.in_default.is at c.in_ok-tree.ensures) in
    subst (AreFurther text code at) (sym c.alone-in_default.ensures.further) (without text code at (λ us ds few has.
    no_tree ds (subst (λ (l : List Tok). HasTree l ds) (sym (c.in-Ok.ensures.only us few has.has_tokens)) has.has_tree)))

pub returns-clause-notes : goal.returns-clause-notes
returns-clause-notes c =
    let lexed = c.in-Ok.ensures in
    let tree = rw c.deref.ensures.value at (rw c.in-Some.is at c.in_ok-tree.ensures) in
    with_tree c.args.text.now (seen c.in-Ok.tokens.items) (tree_of c.in-Some.tree) c.args.fault.now.code c.args.fault.now.start _
    c.one_tree.ensures lexed.refused c.requires lexed.found (λ us few have. sym (lexed.only us few have)) tree
    (rw c.deref-2.ensures.value at c.in_ok-notes-2.ensures)

pub returns-clause-further : goal.returns-clause-further
returns-clause-further c =
    let text = c.args.text.now in
    let code = c.args.fault.now.code in
    let at = c.args.fault.now.start in
    let lexed = c.in-Ok.ensures in
    let tree = rw c.deref.ensures.value at (rw c.in-Some.is at c.in_ok-tree.ensures) in
    let has : HasTextTree text (seen c.in-Ok.tokens.items) (tree_of c.in-Some.tree) = record { has_tokens = lexed.found; has_tree = tree } in
    subst (AreFurther text code at) (sym c.in_ok-further.ensures)
    (with_first text code at (seen c.in-Ok.tokens.items) (tree_of c.in-Some.tree) (within_limit text lexed.refused) has
    (λ us few have. sym (lexed.only us few have)) c.one_tree.ensures c.first_faults.ensures.firsts c.first_faults.ensures.first
    c.least_fault.ensures.fault c.least_fault.ensures.least c.least_fault.ensures.none c.one_least.ensures c.in_ok-firsts.firsts c.in_ok-firsts.ensures)
