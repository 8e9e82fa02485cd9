-- A run of two programs in C is one of their sockets.
use Rattle.std.proofs.Common.{◌≡◌, inl, inr, sym, ◌∙◌, ap, subst, ℕ, ℤ, List, [], length, true, take}
use Rattle.std.specs.Prelude.{Option, Some, None, IfSome, option_map, drop}
use Rattle.std.proofs.lemmas.List.{take_at}
use Rattle.app_connection.specs.declared.connection.Connection.{Connection}
use Rattle.app_connection.specs.declared.segment.Segment.{Segment}
use Rattle.app_connection.specs.declared.step.Event.TheVariants as move
use Rattle.app_connection.specs.Runs.{BothRead}
use Rattle.app_connection.specs.Steps.{Reads, Steps}
use Rattle.app_connection.specs.Worlds.{GoesOut, Said, said}
use Rattle.app_connection.proofs.Going.{if_some}
use Rattle.app_socket.proofs.Delivery as sockets
use Rattle.app_socket.specs.Fields.{socket_of}
use Rattle.app_socket.specs.Runs as socket
use Rattle.app_socket.specs.Segments.{header_of, taken_of}
use Rattle.app_socket.specs.declared.fields.SocketFields.{SocketFields}
use Rattle.app_socket.specs.declared.socket.Socket.{Socket}
use Rattle.app_socket.specs.declared.step.Event.{Event}
use Rattle.app_socket.specs.declared.step.Event.TheVariants as event
use Rattle.c_socket.specs.Application.{StoresReset}
use Rattle.c_socket.specs.Calls.{Met, Stores}
use Rattle.c_socket.specs.Runs.{Calls, End, Ends, Runs, aborts, begins, closes, end_of, ends_of, here, listens, meets, others, reads, stored, there, writes}
use Rattle.c_socket.specs.Segments.{segment_of}
use Rattle.c_socket.specs.declared.segment.SegmentFields.{SegmentFields}
use Rattle.wire_tcp_options.specs.TcpSummary.{summary_of}
use Rattle.c_socket.proofs.Saying.{said_as}

-- what was stored says what was given
stored_given : (s : Socket) (size now : ℕ) (given : Option Segment) (out out' : SegmentFields) (code : ℤ) → Stores s size now given out out' code → stored code out' ≡ option_map said given
stored_given s size now None out out' code (is, same) = ap (λ (z : ℤ). stored z out') is
stored_given s size now (Some segment) out out' code (is, same) =
    ap (λ (z : ℤ). stored z out') is ∙ ap (λ (f : SegmentFields). Some (said (segment_of f))) same ∙ ap (λ (x : Said). Some x) (said_as segment (header_of s segment size now))

-- what `abort` stored is a RST
reset_stored : (out out' : SegmentFields) (code : ℤ) → StoresReset out out' code → IfSome (stored code out') (λ s. s.rst ≡ true)
reset_stored out out' code (inl (is, (segment, rst, same))) =
    let e : stored code out' ≡ Some (said segment) = ap (λ (z : ℤ). stored z out') is ∙ ap (λ (f : SegmentFields). Some (said (segment_of f))) same ∙ ap (λ (x : Said). Some x) (said_as segment (record { window = 0; options = summary_of [] })) in
    subst (λ (o : Option Said). IfSome o (λ s. s.rst ≡ true)) (sym e) rst
reset_stored out out' code (inr (is, same)) = let e : stored code out' ≡ None = ap (λ (z : ℤ). stored z out') is in subst (λ (o : Option Said). IfSome o (λ s. s.rst ≡ true)) (sym e) tt

-- another RST goes out
steps_reset : (c d : Connection) (outgoing incoming : List ℕ) (o q : Option Said) → IfSome q (λ s. s.rst ≡ true) → Steps c d outgoing incoming incoming move.Abort o → Steps c d outgoing incoming incoming move.Abort q
steps_reset c d outgoing incoming o q reset s = record {
  rests = λ none still. let r = s.rests none still in record { sending = r.sending; receiving = r.receiving; incoming = r.incoming; reset = reset };
  opens = s.opens;
  active = s.active;
  goes = λ has there back consumed comes stand.
      let g = s.goes has there back consumed comes stand in
      record { went = g.went; out = if_some (λ x. x.rst ≡ true) (GoesOut _ _) q (λ x rst. inl rst) reset };
}

-- a call for an event is a step of the connection
pub met_steps : (old new : SocketFields) (outgoing before after : List ℕ) (e : Event) (now : ℕ) (out out' : SegmentFields) (code : ℤ) → Met (λ f. f ≡ e) old new outgoing before after now out out' code
    → Steps (socket_of old).connection (socket_of new).connection outgoing before after (taken_of (socket_of old) now e) (stored code out')
met_steps old new outgoing before after e now out out' code m =
    let result : stored code out' ≡ option_map said m.given = stored_given (socket_of new) (length before) now m.given out out' code m.stores in
    subst (λ (x : Option Said). Steps (socket_of old).connection (socket_of new).connection outgoing before after (taken_of (socket_of old) now e) x) (sym result)
    (subst (λ (f : Event). Steps (socket_of old).connection (socket_of new).connection outgoing before after (taken_of (socket_of old) now f) (option_map said m.given)) m.is m.steps.steps)

-- a call of C is one of its socket
pub calls_of : (a b c : End) → Calls a b c → socket.Calls (end_of a) (end_of b) (end_of c)
calls_of a b c (meets e now new incoming out out' code may once m) =
    socket.steps now e (socket_of new) incoming (stored code out') may once m.steps.out (met_steps a.fields new a.outgoing a.incoming incoming e now out out' code m)
calls_of a b c (writes new outgoing bytes count out w) = socket.writes (socket_of new) outgoing (take count bytes) out w.writes
calls_of a b c (reads new before after count d) =
    let bytes : take count after ≡ d.bytes = ap (λ (l : List ℕ). take count l) d.written ∙ take_at d.bytes (drop count before) count (sym d.are) in
    socket.reads (socket_of new) (take count after) (subst (λ (l : List ℕ). Reads (socket_of a.fields).connection (socket_of new).connection a.incoming l) (sym bytes) d.reads)
calls_of a b c (listens new out l) = let s = l.steps a.outgoing a.incoming in socket.steps 0 event.Listen (socket_of new) a.incoming None tt (λ none has. absurd (s.opens none has)) out s
calls_of a b c (closes new out l) = let s = l.steps a.outgoing a.incoming in socket.steps 0 event.Close (socket_of new) a.incoming None tt (λ none has. absurd (s.opens none has)) out s
calls_of a b c (aborts new out out' code fits l) =
    let s = l.steps a.outgoing a.incoming in
    socket.steps 0 event.Abort (socket_of new) a.incoming (stored code out') tt (λ none has. absurd (s.opens none has)) fits
    (steps_reset (socket_of a.fields).connection (socket_of new).connection a.outgoing a.incoming l.given (stored code out') (reset_stored out out' code l.stores) s)
calls_of a b c (others new is) = socket.others (socket_of new) is

pub runs_of : (p : Ends) → Runs p → socket.Runs (ends_of p)
runs_of p (begins q here_new there_new) = socket.begins (ends_of p) here_new there_new
runs_of p (here q new run calls) = socket.here (ends_of q) (end_of new) (runs_of q run) (calls_of q.here q.there new calls)
runs_of p (there q new run calls) = socket.there (ends_of q) (end_of new) (runs_of q run) (calls_of q.there q.here new calls)

pub two_programs_deliver : (p : Ends) → Runs p → BothRead (socket.ends_of (ends_of p))
two_programs_deliver p run = sockets.two_sockets_deliver (ends_of p) (runs_of p run)
