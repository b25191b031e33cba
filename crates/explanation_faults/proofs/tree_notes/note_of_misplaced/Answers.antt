use Rattle.std.proofs.Common.{◌≡◌, ◌∙◌, true, map, Some, None, sym, subst}
use Rattle.std.proofs.lemmas.Option.{same_Some}
use Rattle.std.proofs.lemmas.Result.{IfOk-weaker}
use Rattle.syntax.specs.Trees.{Section}
use Rattle.syntax.specs.Views.{decl_of, section_of}
use Rattle.explanation_faults.specs.FaultNotes.{IsReturnNote, typeless, misplaced}
use Rattle.explanation_faults.proofs.VarsThere.{is_in, in_there}
use Rattle.explanation_faults.proofs.tree_notes.note_of_misplaced.Goals as goal
use Rattle.explanation_faults.proofs.tree_notes.note_of_misplaced.Goals.{in-Some+else-is_typeless, in_default}

pub returns-then-is_typeless : goal.returns-then-is_typeless
returns-then-is_typeless c =
    let ds = map decl_of c.args.decls.now in
    let here = is_in c.args.at ds (section_of c.in-Some.section.now) (sym c.in-Some.ensures) in
    let none = c.is_typeless.ensures.0 c.if-is_typeless.true in
    IfOk-weaker c.name_note.result _ _
    (λ note is. subst (IsReturnNote ds c.args.at) (sym is) (typeless c.requires here none)) c.name_note.ensures

pub returns : goal.returns
returns c =
    let ds = map decl_of c.args.decls.now in
    rw c.in_ok-from_str.ensures.ok (misplaced c.requires (λ s inside none.
    let there = in_there c.args.at ds s inside in
    elim c.match-section_there.branch [
      | in-Some+else-is_typeless w ↦
          let same = same_Some _ s (w.in-Some.ensures ∙ there) in
          let so = w.is_typeless.ensures.1 (subst (λ (x : Section). x.result ≡ None) (sym same) none) in
          let e = sym w.if-is_typeless.false ∙ so in absurd cc
      | in_default w ↦ let e = w.in_default.ensures ∙ there in absurd cc
    ]))
