use Rattle.lsp_texts.proofs.tables.Tables.of.Goals as goal

pub loop-at-init : goal.loop-at-init
loop-at-init c = record { place = c.first-place.ensures c.args.tokens.now; tables = c.new-tables.ensures c.args.tokens.now }
