use Rattle.app_connection.proofs.connection.Connection.on_segment.Goals as goal

pub returns-in-Listen-clause-hears : goal.returns-in-Listen-clause-hears
returns-in-Listen-clause-hears c = λ listens opened. c.in_listen.ensures.hears opened c.args.incoming.now
