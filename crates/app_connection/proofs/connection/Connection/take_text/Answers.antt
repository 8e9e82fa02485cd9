use Rattle.std.proofs.Common.{◌∷◌, length}
use Rattle.tcp_stream.specs.Network.{Segment_comes}
use Rattle.tcp_stream.specs.Stands.{again, room_of}
use Rattle.app_connection.proofs.Going.{comings}
use Rattle.app_connection.proofs.connection.Connection.take_text.Goals as goal

pub returns-clause-stands : goal.returns-clause-stands
returns-clause-stands c = λ back which consumed comes stands.
    let uses = c.on_segment.ensures.stands back consumed which comes stands in
    record {
      events = Segment_comes which (room_of c.args.self.now.receiving (length c.args.incoming.now)) ∷ again uses.segments;
      own = comings uses.segments;
      stands = uses.stands;
    }

pub returns-clause-gets : goal.returns-clause-gets
returns-clause-gets c = λ syn some. record { uses = λ back which consumed comes stands. c.on_segment.ensures.stands back consumed which comes stands }
