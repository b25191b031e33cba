use Rattle.std.proofs.Common.{◌≡◌, ℕ, ◌==◌, false, ◌++◌, ◌∷◌, [], ◌<◌, ◌+◌, length, List, Result, Ok, Err, sym, ap, ◌∙◌, arith}
use Rattle.input_files.specs.declared.item.Item.{Item}
use Rattle.input_files.specs.declared.steps_refusal.StepsCode.{StepsCode}
use Rattle.input_files.specs.Steps.{in_front, and_then, items_from, counted, item_of}
use Rattle.input_files.proofs.Pieces.{piece_taken, items_from-item}
use Rattle.input_files.proofs.steps_reading.Reader.read.Goals as goal

piece_some : (piece : List ℕ) → (length piece == 0) ≡ false → 0 < length piece
piece_some [] is = cc
piece_some (byte ∷ bytes) is = omega arith

pub returns-in_ok-push-in-Ok-clause-ok : goal.returns-in_ok-push-in-Ok-clause-ok
returns-in_ok-push-in-Ok-clause-ok c pieces =
    let threads = c.args.threads.now in
    let start = c.args.start in
    let before = c.args.self.now.steps in
    let piece = c.args.piece.now in
    let some : 0 < length piece = piece_some piece (sym c.is_empty.ensures ∙ c.if-is_empty.false) in
    let is : item_of threads start before piece ≡ Ok c.in-Ok.item = sym c.item.ensures ∙ c.in-Ok.is in
    ap (λ (items : List Item). in_front items (items_from threads (start + (length piece + 1)) (before + c.counted.result) pieces)) c.in_ok-push-in-Ok.ensures.items
    ∙ ap (λ n. in_front (c.args.self.now.items.items ++ c.in-Ok.item ∷ []) (items_from threads (start + (length piece + 1)) (before + n) pieces)) c.counted.ensures
    ∙ piece_taken threads start before c.args.self.now.items.items piece c.in-Ok.item pieces some is

pub returns-in-Err-clause-fault : goal.returns-in-Err-clause-fault
returns-in-Err-clause-fault c pieces =
    let threads = c.args.threads.now in
    let start = c.args.start in
    let before = c.args.self.now.steps in
    let piece = c.args.piece.now in
    let some : 0 < length piece = piece_some piece (sym c.is_empty.ensures ∙ c.if-is_empty.false) in
    let is : item_of threads start before piece ≡ Err c.in-Err.code = sym c.item.ensures ∙ c.in-Err.is in
    items_from-item threads start before piece pieces some
    ∙ ap (λ (r : Result Item StepsCode). and_then r start (λ (item : Item).
    items_from threads (start + (length piece + 1)) (before + counted item.until) pieces)) is
