use Rattle.app_connection.proofs.connection.Connection.new.Goals as goal

pub returns-clause-stands : goal.returns-clause-stands
returns-clause-stands c = λ buffer. c.new-2.ensures.stands 0 buffer
