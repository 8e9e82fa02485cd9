use Rattle.std.proofs.Common.{sym, ◌∙◌}
use Rattle.app_connection.proofs.Bytes.{all_read, place_read}
use Rattle.app_connection.proofs.Delivery.{two_connections_deliver}
use Rattle.app_connection.proofs.laws.bytes.each_byte_is_as_written.Goals as goal

pub returns-clause-here : goal.returns-clause-here
returns-clause-here c = λ p run. place_read p.here p.there (two_connections_deliver p run).here

pub returns-clause-there : goal.returns-clause-there
returns-clause-there c = λ p run. place_read p.there p.here (two_connections_deliver p run).there

pub returns-clause-here_ends : goal.returns-clause-here_ends
returns-clause-here_ends c = λ p run is ended. all_read p.here p.there c.args.connection.now (two_connections_deliver p run).here is (sym c.is_ended.ensures.value ∙ ended)

pub returns-clause-there_ends : goal.returns-clause-there_ends
returns-clause-there_ends c = λ p run is ended. all_read p.there p.here c.args.connection.now (two_connections_deliver p run).there is (sym c.is_ended.ensures.value ∙ ended)
