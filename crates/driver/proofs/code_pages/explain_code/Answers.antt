use Rattle.explanation.specs.CodePages.{page_text}
use Rattle.driver.proofs.PageLemmas.{page_served}
use Rattle.driver.proofs.code_pages.explain_code.Goals as goal

pub returns : goal.returns
returns g c =
    page_served (page_text c.args.code) g.O.Write.contents g.E.Write.contents c.args.streams.now c.give.new.self c.give.result
    c.page_answer-answer.result c.requires c.page_answer-answer.ensures c.give.ensures
