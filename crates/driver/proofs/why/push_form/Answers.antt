use Rattle.driver.proofs.why.push_form.Goals as goal

pub returns-in-One : goal.returns-in-One
returns-in-One c = rw c.in-One.is c.push_words.ensures
