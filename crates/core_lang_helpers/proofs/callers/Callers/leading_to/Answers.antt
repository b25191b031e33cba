use Rattle.std.proofs.Common.{◌≡◌, ◌<◌, ℕ, List, length, subst, sym, ◌∙◌, arith}
use Rattle.std.proofs.lemmas.List.{length-map, nil_from_length}
use Rattle.core_lang_helpers.specs.Graphs.{body_of, bodies_of}
use Rattle.core_lang_helpers.specs.Working.Tables.{Has, row_at, Marks}
use Rattle.core_lang_helpers.proofs.Having.{has_last, row_read, none_match}
use Rattle.core_lang_helpers.proofs.Leading.{marked_there, search_next, search_done}
use Rattle.core_lang_helpers.proofs.callers.Callers.leading_to.Goals as goal

pub index-requires : goal.index-requires
index-requires c =
    let so = c.loop-helper.invariant in
    let marked = so.queued c.in-Some.helper (subst (λ (l : List ℕ). Has l c.in-Some.helper) (sym c.in-Some.ensures.items) (has_last _ c.in-Some.helper)) in
    omega (arith, marked_there c.loop-helper.marks.items c.in-Some.helper marked, so.long, c.requires.callers.long, c.args.self.now.rows.ok.0)

pub loop-helper-preserved : goal.loop-helper-preserved
loop-helper-preserved c =
    let helpers = bodies_of c.args.self.now.helpers.now in
    let rows = c.args.self.now.rows.items in
    let h = c.in-Some.helper in
    let so = c.loop-helper.invariant in
    let marked = so.queued h (subst (λ (l : List ℕ). Has l h) (sym c.in-Some.ensures.items) (has_last _ h)) in
    let there : h < length rows = omega (arith, marked_there c.loop-helper.marks.items h marked, so.long, c.requires.callers.long) in
    let row : c.deref.result.now ≡ row_at rows h = c.deref.ensures.value ∙ sym (row_read rows h c.index.result.now there c.index.ensures) in
    search_next helpers rows (length c.args.self.now.helpers.now) c.loop-helper.marks.items c.mark_all.new.marks.items c.pop.new.self.items c.mark_all.new.pending.items c.loop-helper.pending.items h
    c.args.to c.requires.callers (sym (length-map c.args.self.now.helpers.now body_of)) so c.in-Some.ensures.items
    (subst (λ (l : List ℕ). Marks l c.loop-helper.marks.items c.mark_all.new.marks.items c.pop.new.self.items c.mark_all.new.pending.items) row c.in_ok-mark_all.ensures)

pub returns : goal.returns
returns c =
    let none = none_match c.pop.result _ _ c.in_default.not-Some c.pop.ensures.cases in
    search_done (bodies_of c.args.self.now.helpers.now) c.loop-helper.marks.items c.loop-helper.pending.items c.args.to c.loop-helper.invariant
    (nil_from_length c.loop-helper.pending.items (omega (arith, none.0, c.loop-helper.pending.ok.0)))
