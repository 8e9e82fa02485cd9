-- What goes at once after a segment with text, SYN or FIN.
-- Pinned by: `socket/scenarios`
use Rattle.std.specs.Prelude.{ℕ, ◌≡◌, Option, Some, IfSome, true, false}
use Rattle.app_connection.specs.declared.segment.Segment.{Segment}
use Rattle.app_connection.specs.Endpoints.{acknowledgement_of, spoken}
use Rattle.app_connection.specs.Events.{brings_items}
use Rattle.app_socket.specs.Events.{move_of}
use Rattle.app_socket.specs.Promises.{WhileOpen}
use Rattle.app_socket.specs.Segments.{is_stale}
use Rattle.app_socket.specs.declared.socket.Socket.{Socket}
use Rattle.app_socket.specs.declared.step.Event.{Event}

-- what goes, if anything, is the acknowledgement of all that came, at SND.NXT
abbrev pub IsAcknowledgement : Socket → Option Segment → Type 0
IsAcknowledgement s given = IfSome given (λ x. spoken given ≡ Some (acknowledgement_of s.connection))

-- after text, SYN and FIN nothing else goes at once (RFC 9293, section 3.10.7.4)
abbrev pub RepliesToItems : Socket → Socket → ℕ → Event → Option Segment → Type 0
RepliesToItems old new now e given =
    WhileOpen old new
    (old.connection.receiving.is_open ≡ true → is_stale old now e ≡ false → brings_items (move_of e) ≡ true
    → IsAcknowledgement new given)
