-- The socket that fields without enums stand for.
use Rattle.std.specs.Prelude.{Some, None, if◌then◌else◌}
use Rattle.app_congestion.specs.Fields.{congestion_of, rto_of}
use Rattle.app_connection.specs.Fields.{connection_of}
use Rattle.app_options.specs.Fields.{agreed_of}
use Rattle.app_socket.specs.declared.fields.SocketFields.{SocketFields}
use Rattle.app_socket.specs.declared.flow.Flow.{Flow}
use Rattle.app_socket.specs.declared.socket.Socket.{Socket}
use Rattle.app_socket.specs.declared.timers.Timers.{Timers}

-- the timers
abbrev pub timers_of : SocketFields → Timers
timers_of f = record {
  ends_at = f.ends_at;
  resend_at = if f.has_resend then Some f.resend_at else None;
  ack_at = if f.has_ack then Some f.ack_at else None;
  probe_at = f.probe_at;
}

-- the state of what is sent
abbrev pub flow_of : SocketFields → Flow
flow_of f = record {
  rto = rto_of f.rto;
  congestion = congestion_of f.congestion;
  timing = if f.is_timed then Some f.timing else None;
  cursor = f.cursor;
  resend = f.resend;
  scoreboard = f.scoreboard;
  rescued = f.rescued;
  max_window = f.max_window;
  is_probed = f.is_probed;
  has_probe = f.has_probe;
  undo = f.undo;
  expired_at = f.expired_at;
  sent_at = f.sent_at;
}

-- the socket
abbrev pub socket_of : SocketFields → Socket
socket_of f = record {
  connection = connection_of f.connection;
  options = f.options;
  timers = timers_of f;
  flow = flow_of f;
  edge = f.edge;
  agreed = agreed_of f.agreed;
  limit = f.limit;
  quiet_until = f.quiet_until;
}
