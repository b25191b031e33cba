use Rattle.driver.proofs.engine.serve.Goals as goal

pub returns-in-Explain : goal.returns-in-Explain
returns-in-Explain g c = rw c.in-Explain.is c.explain.ensures
