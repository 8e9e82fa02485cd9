-- A window that has to be told again is told with all the room that there is.
use Rattle.std.proofs.Common.{◌≡◌, refl, ◌∙◌, ap, ℕ, Bool, true, false, nat_lt}
use Rattle.std.specs.Prelude.{Option, Some, None, IfSome, ◌-◌, ◌&&◌, ◌||◌, not, if◌then◌else◌}
use Rattle.tcp_stream.specs.Stands.{room_of}
use Rattle.tcp_stream.specs.declared.receiving.Receiving.{Receiving}
use Rattle.app_connection.specs.declared.segment.Segment.{Segment}
use Rattle.app_connection.specs.Endpoints.{acknowledgement_of}
use Rattle.app_connection.specs.States.{state_from}
use Rattle.app_options.specs.Options.{own_scale}
use Rattle.app_socket.specs.declared.options.Options.{Options}
use Rattle.app_socket.specs.declared.socket.Socket.{Socket}
use Rattle.app_socket.specs.Resends.{is_room_news, waits_for_bytes, window_of}
use Rattle.app_socket.specs.Times.{mss_of}
use Rattle.app_socket.specs.Window.{advertised, is_update_due, least_growth, promised, read_as}
use Rattle.app_socket.proofs.Calling.{ack_some}

left_true : (a b : Bool) → (a && b) ≡ true → a ≡ true
left_true true b is = refl
left_true false b is = absurd (cc)

right_true : (a b : Bool) → (a && b) ≡ true → b ≡ true
right_true true b is = is
right_true false b is = absurd (cc)

not_true : (a : Bool) → not a ≡ true → a ≡ false
not_true true is = absurd (cc)
not_true false is = refl

none_of : (a b : Bool) → b ≡ false → (a && b) ≡ false
none_of true b is = is
none_of false b is = refl

-- what has to be told again is not kept to
all_advertised : (edge next room least shift : ℕ) → is_update_due edge next room least shift ≡ true → advertised edge next room least ≡ room
all_advertised edge next room least shift due =
    let p : ℕ = promised edge next in
    let rest : Bool = not (nat_lt (read_as room shift - read_as p shift) least) && (nat_lt (read_as p shift) least || not (nat_lt (room - p) p)) in
    let more : (not (nat_lt (room - p) least) && rest) ≡ true = right_true (not (nat_lt room p)) (not (nat_lt (room - p) least) && rest) due in
    let much : nat_lt (room - p) least ≡ false = not_true (nat_lt (room - p) least) (left_true (not (nat_lt (room - p) least)) rest more) in
    ap (λ (b : Bool). if b then p else room) (none_of (not (nat_lt room p)) (nat_lt (room - p) least) much)

window_told : (ack : Option ℕ) (next window now : ℕ) → ack ≡ Some next → IfSome ack (λ n. window ≡ now) → window ≡ now
window_told None next window now is told = absurd (cc)
window_told (Some n) next window now is told = told

-- `mid` is the socket that makes the segment
pub all_told : (old mid : Socket) (size : ℕ) (s : Segment) → s.ack ≡ (acknowledgement_of old.connection).ack → IfSome s.ack (λ ack. s.window ≡ window_of mid size) → mid.edge ≡ old.edge → mid.connection.receiving ≡ old.connection.receiving
    → mid.options ≡ old.options → old.connection.receiving.is_open ≡ true → is_room_news old size ≡ true → s.window ≡ room_of old.connection.receiving size
all_told old mid size s ack told edge receiving options synced news =
    let r = old.connection.receiving in
    let least : ℕ = least_growth size (mss_of old.options) in
    let due : is_update_due old.edge r.next (room_of r size) least (own_scale old.agreed size) ≡ true =
    right_true (waits_for_bytes (state_from old.connection)) (is_update_due old.edge r.next (room_of r size) least (own_scale old.agreed size)) news
    in
    window_told s.ack r.next s.window (window_of mid size) (ack ∙ ack_some old.connection synced) told
    ∙ ap (λ (e : ℕ). advertised e mid.connection.receiving.next (room_of mid.connection.receiving size) (least_growth size (mss_of mid.options))) edge
    ∙ ap (λ (x : Receiving). advertised old.edge x.next (room_of x size) (least_growth size (mss_of mid.options))) receiving
    ∙ ap (λ (o : Options). advertised old.edge r.next (room_of r size) (least_growth size (mss_of o))) options
    ∙ all_advertised old.edge r.next (room_of r size) least (own_scale old.agreed size) due
