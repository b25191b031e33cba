use Rattle.language_server.proofs.Words.{named_first}
use Rattle.language_server.proofs.action_laws.names_are_read.Goals as goal

pub returns-clause-near : goal.returns-clause-near
returns-clause-near c x is = named_first x.text _ is

pub returns-clause-lock : goal.returns-clause-lock
returns-clause-lock c x is = named_first x.text _ is
