use Rattle.std.proofs.Common.{◌≡◌, ◌++◌, [], ℕ, List, length, take, drop, sym, ap, ◌∙◌, subst, arith}
use Rattle.std.proofs.lemmas.Result.{IfOk-weaker}
use Rattle.source.specs.Tokens.{seen}
use Rattle.formatting.specs.Formatted.{IsFormatted}
use Rattle.formatting.specs.Pieces.{ArePieces}
use Rattle.formatting.specs.Layout.{ending}
use Rattle.formatting.proofs.Cuts.{seen_front}
use Rattle.formatting.proofs.Peeled.{no_comment}
use Rattle.formatting.proofs.Steps.{begun, ended, blank_step, feed_step, comment_step, line_some, width_within, some_bytes, less}
use Rattle.formatting.proofs.Steps.{token_step, no_tokens, none_left}
use Rattle.formatting.proofs.whole.lay_out.Goals as goal
use Rattle.formatting.proofs.whole.lay_out.Goals.{in_default, in-len1-up+else-begins_comment+else-is_blank_byte+else-b-eq10+in_default-next}

pub pieces-init : goal.pieces-init
pieces-init c = rw (c.new-printer.ensures.text, c.new-printer.ensures.state, c.new-printer.ensures.found) (begun c.args.text.now (seen c.args.tokens.now) c.requires.tokens)

pub pieces-smaller-then-begins_comment : goal.pieces-smaller-then-begins_comment
pieces-smaller-then-begins_comment c =
    let h = line_some c.pieces.rest.now (sym c.begins_comment.ensures ∙ c.if-begins_comment.true) in
    omega (arith, h, ap length c.split_line.ensures.rest)

pub pieces-preserved-then-begins_comment : goal.pieces-preserved-then-begins_comment
pieces-preserved-then-begins_comment c =
    rw c.in_ok-push.ensures.found (comment_step c.pieces.invariant (sym c.begins_comment.ensures ∙ c.if-begins_comment.true) c.without_blanks.result.now c.split_line.result.1.now _ _ (rw c.split_line.ensures.line at c.without_blanks.ensures) c.split_line.ensures.rest c.in_ok-push.ensures.text c.in_ok-push.ensures.state c.in_ok-push.ensures.few)

pub pieces-preserved-then-is_blank_byte : goal.pieces-preserved-then-is_blank_byte
pieces-preserved-then-is_blank_byte c = blank_step c.pieces.invariant c.in-len1-up.len_at_least (sym c.is_blank_byte.ensures ∙ c.if-is_blank_byte.true)

pub pieces-preserved-then-b-eq10 : goal.pieces-preserved-then-b-eq10
pieces-preserved-then-b-eq10 c =
    rw (c.note_feed.ensures.text, c.note_feed.ensures.state, c.note_feed.ensures.found) (feed_step c.pieces.invariant c.in-len1-up.len_at_least c.if-b-eq10.true)

pub split_at-requires : goal.split_at-requires
split_at-requires c =
    let h = width_within c.pieces.invariant (seen_front c.pieces.next.now c.token-item.result c.in-len1-up-next.len_at_least c.token-item.is) c.in-len1-up.len_at_least (sym c.is_blank_byte.ensures ∙ c.if-is_blank_byte.false) c.if-b-eq10.false (no_comment c.pieces.rest.now (sym c.begins_comment.ensures ∙ c.if-begins_comment.false)) in
    omega (arith, h, c.width.ensures)

pub push-requires-in-len1-up-clause-some : goal.push-requires-in-len1-up-clause-some
push-requires-in-len1-up-clause-some c =
    let h = some_bytes c.pieces.invariant (seen_front c.pieces.next.now c.token-item.result c.in-len1-up-next.len_at_least c.token-item.is) c.in-len1-up.len_at_least (sym c.is_blank_byte.ensures ∙ c.if-is_blank_byte.false) c.if-b-eq10.false (no_comment c.pieces.rest.now (sym c.begins_comment.ensures ∙ c.if-begins_comment.false)) in
    omega (arith, h, ap length c.split_at.ensures.front, ap (λ n. length (take n c.pieces.rest.now)) c.width.ensures)

pub pieces-smaller : goal.pieces-smaller
pieces-smaller c =
    let h = less c.pieces.invariant (seen_front c.pieces.next.now c.token-item.result c.in-len1-up-next.len_at_least c.token-item.is) c.in-len1-up.len_at_least (sym c.is_blank_byte.ensures ∙ c.if-is_blank_byte.false) c.if-b-eq10.false (no_comment c.pieces.rest.now (sym c.begins_comment.ensures ∙ c.if-begins_comment.false)) in
    omega (arith, h, ap length c.split_at.ensures.back, ap (λ n. length (drop n c.pieces.rest.now)) c.width.ensures)

pub pieces-preserved : goal.pieces-preserved
pieces-preserved c =
    rw c.in_ok-push-2.ensures.found (token_step c.pieces.invariant (seen_front c.pieces.next.now c.token-item.result c.in-len1-up-next.len_at_least c.token-item.is) c.in-len1-up.len_at_least (sym c.is_blank_byte.ensures ∙ c.if-is_blank_byte.false) c.if-b-eq10.false (no_comment c.pieces.rest.now (sym c.begins_comment.ensures ∙ c.if-begins_comment.false)) c.of.result c.split_at.result.0.now c.split_at.result.1.now _ _ c.of.ensures (c.split_at.ensures.front ∙ ap (λ n. take n c.pieces.rest.now) c.width.ensures) (c.split_at.ensures.back ∙ ap (λ n. drop n c.pieces.rest.now) c.width.ensures) c.in_ok-push-2.ensures.text c.in_ok-push-2.ensures.state c.in_ok-push-2.ensures.few)

pub returns : goal.returns
returns c =
    IfOk-weaker c.finish.result (λ text. text.items ≡ c.pieces.printer.text.items ++ ending c.pieces.printer.state.has_begun) (λ out. IsFormatted c.args.text.now out.items)
    (λ out is. subst (λ (l : List ℕ). IsFormatted c.args.text.now l) (sym is)
    (elim c.if-rest-lt1.branch [
      | in_default w ↦ ended c.pieces.invariant (none_left c.pieces.rest.now w.in_default.len_below)
      | in-len1-up+else-begins_comment+else-is_blank_byte+else-b-eq10+in_default-next w ↦
          let e : seen c.pieces.next.now ≡ [] = ap seen (none_left c.pieces.next.now w.in_default-next.len_below) in
          absurd (no_tokens (length c.args.text.now) c.pieces.rest.now c.pieces.invariant.left (subst (λ ts. ArePieces (length c.args.text.now) c.pieces.rest.now ts c.pieces.invariant.left) e c.pieces.invariant.at))
    ])) c.finish.ensures
