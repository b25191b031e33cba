use Rattle.std.proofs.Common.{◌∙◌, Some, None, sym, ap, append-nil, arith}
use Rattle.lsp_texts.specs.Names.{depth_behind}
use Rattle.lsp_texts.proofs.SymbolLemmas.{none_in, not_deep, deeper, one_more}
use Rattle.lsp_texts.proofs.names.symbols.Goals as goal
use Rattle.lsp_texts.proofs.names.symbols.Goals.{in-Some+in_ok-push, in_default}

pub loop-at-init : goal.loop-at-init
loop-at-init c =
    let tokens = c.args.tokens.now in
    record { found = c.new-found.ensures.items ∙ none_in tokens; depth = not_deep tokens; few = omega arith }

pub loop-at-preserved : goal.loop-at-preserved
loop-at-preserved c =
    let tokens = c.args.tokens.now in
    let at = c.loop-at.at in
    let before = c.loop-at.invariant in
    let more = one_more tokens at c.loop-at.depth c.loop-at.found.items c.match-symbol_at.found.items in
    record {
      found = elim c.match-symbol_at.branch [
        | in-Some+in_ok-push w ↦
            more (Some w.in-Some.symbol) before.found before.depth w.in-Some.ensures (ap (λ v. v.items) w.found-is ∙ w.in_ok-push.ensures.items)
        | in_default w ↦
            more None before.found before.depth (sym w.in_default.is ∙ c.symbol_at.ensures) (ap (λ v. v.items) w.found-is ∙ sym (append-nil _))
      ];
      depth = deeper tokens at c.loop-at.depth _ before.depth (c.depth_behind-depth.ensures.depth ∙ ap (depth_behind c.loop-at.depth) c.sign_at.ensures);
      few = omega (arith, c.depth_behind-depth.ensures.more, before.few);
    }
