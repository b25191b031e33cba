use Rattle.driver.proofs.why.push_lack.Goals as goal

pub returns-in-Thread : goal.returns-in-Thread
returns-in-Thread c = rw c.in-Thread.is c.push_words.ensures

pub returns-in-Section : goal.returns-in-Section
returns-in-Section c = rw c.in-Section.is c.push_words-in-Section.ensures

pub returns-in-Arguments : goal.returns-in-Arguments
returns-in-Arguments c = rw c.in-Arguments.is c.push_words-in-Arguments.ensures
