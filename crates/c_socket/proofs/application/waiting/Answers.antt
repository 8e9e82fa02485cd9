use Rattle.std.proofs.Common.{◌≡◌, subst, min, ◌+◌}
use Rattle.tcp_stream.specs.Waits.{unsent_of}
use Rattle.app_connection.specs.Endpoints.{OutFits}
use Rattle.app_socket.specs.declared.socket.Socket.{Socket}
use Rattle.c_socket.proofs.application.waiting.Goals as goal

pub returns : goal.returns
returns c = λ size fits.
    subst (λ (s : Socket). OutFits s.connection.sending size → c.waiting.result ≡ min 18446744073709551615 (s.connection.sending.flight + unsent_of s.connection.sending)) c.value.ensures (c.waiting.ensures size) fits
