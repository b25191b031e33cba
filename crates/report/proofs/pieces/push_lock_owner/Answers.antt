use Rattle.std.proofs.Common.{◌∙◌, ◌++◌, ℕ, List, Some, string_bytes, append_assoc, refl, sym, ap}
use Rattle.std.specs.Prelude.{codes}
use Rattle.std.proofs.lemmas.Result.{on_ok_weaker}
use Rattle.report.specs.Pieces.{object_text, owner_of_lock}
use Rattle.locks.specs.Theory.Written.{item_here, item_past, some_added, none_added, piece_added}
use Rattle.report.proofs.pieces.push_lock_owner.Goals as goal

pub returns-in_ok-push_object-in-Some-Field : goal.returns-in_ok-push_object-in-Some-Field
returns-in_ok-push_object-in-Some-Field c =
    let program = c.args.program.now in
    let object = c.args.lock.object in
    let x = c.in-Some-Field.field-0 in
    let old = string_bytes c.args.out.now in
    let here = item_here program.classes.items c.deref.result.now c.args.lock.class c.deref.ensures.value x c.in-Some-Field.ensures.lookup in
    let is = sym (ap (λ y. owner_of_lock program object (Some y)) c.in-Some-Field.field-0-is) in
    on_ok_weaker c.push_str.result
    (λ e. some_added (owner_of_lock program object) _ x.now old _ _ here is
    (e ∙ ap (λ (b : List ℕ). b ++ codes ".") c.in_ok-push_object-in-Some-Field.ensures ∙ append_assoc old (object_text program.shape object) (codes ".")))
    (piece_added c.push_str.result _ (string_bytes c.push_object.new.out) (codes ".") c.push_str.ensures.bytes)

pub returns-in-None : goal.returns-in-None
returns-in-None c =
    let program = c.args.program.now in
    let past = item_past program.classes.items c.deref.result.now c.args.lock.class c.deref.ensures.value c.in-None.ensures.lookup in
    none_added (owner_of_lock program c.args.lock.object) _ (string_bytes c.args.out.now) past refl
