-- The state that fields without enums stand for.
use Rattle.std.specs.Prelude.{ℕ, ◌==◌, if◌then◌else◌}
use Rattle.app_connection.specs.declared.connection.Connection.{Connection}
use Rattle.app_connection.specs.declared.fields.ConnectionFields.{ConnectionFields}
use Rattle.app_connection.specs.declared.state.Phase.{Phase}
use Rattle.app_connection.specs.declared.state.Phase.TheVariants.{Closed, Listen, SynSent, SynReceived, Open}

-- the phase with this number
abbrev pub phase_of : ℕ → Phase
phase_of n =
    if n == 0 then Closed
    else if n == 1 then Listen
    else if n == 2 then SynSent
    else if n == 3 then SynReceived
    else Open

-- the connection
abbrev pub connection_of : ConnectionFields → Connection
connection_of f = record {
  phase = phase_of f.phase;
  is_passive = f.is_passive;
  iss = f.iss;
  irs = f.irs;
  sending = f.sending;
  receiving = f.receiving;
  wnd = f.wnd;
  wl1 = f.wl1;
  wl2 = f.wl2;
  is_peer_first = f.is_peer_first;
}
