-- What is acknowledged has come.
use Rattle.std.proofs.Common.{◌≡◌, sym, ◌∙◌, ap, refl, ℕ, ◌-◌, ◌≤◌, List, [], ◌∷◌, ◌++◌, Bool, true, false, length, map, take, arith, length-append, length-take, length-drop}
use Rattle.std.proofs.lemmas.List.{length-map, take_all}
use Rattle.tcp_stream.specs.Endpoint.{Item, Byte}
use Rattle.tcp_stream.specs.Network.{World, bytes_of, end_of, is_ended, stream}
use Rattle.tcp_stream.proofs.Parts.{part_first}
use Rattle.tcp_stream.proofs.Standing.{reached_good}
use Rattle.tcp_stream.specs.Items.{syn_of}
use Rattle.tcp_stream.specs.Ring.{ring}
use Rattle.tcp_stream.specs.Waits.{Waits, count_of, pending, rest_of}
use Rattle.tcp_stream.specs.declared.sending.Sending.{Sending}
use Rattle.app_connection.specs.Arrived.{BothComeAcross, ComesAcross}
use Rattle.app_connection.specs.Runs.{End, Ends, Runs}
use Rattle.app_connection.proofs.Delivery.{runs_pair}
use Rattle.app_connection.proofs.Pair.{Direction}

-- where nothing waits all is acknowledged
pub all_acked : (w : World) (s : Sending) (outgoing : List ℕ) → Waits w s outgoing → count_of s ≡ 0 → w.acked ≡ length (stream w.written w.closed)
all_acked w s outgoing waits none =
    let bytes = take s.len (ring s.start outgoing) in
    let left : length (stream w.written w.closed) - w.acked ≡ length (pending s outgoing) = sym (length-drop w.acked (stream w.written w.closed)) ∙ ap length waits.held in
    let few : length (pending s outgoing) ≤ count_of s =
    omega (arith, length-append (syn_of s.has_syn) (rest_of s outgoing), length-append (map Byte bytes) (end_of s.has_fin), length-map bytes Byte, length-take s.len (ring s.start outgoing))
    in
    omega (arith, left, few, none, waits.within, waits.flight)

rest_bytes : (written : List ℕ) (closed : Bool) → bytes_of (map Byte written ++ end_of closed) ≡ written
rest_bytes [] true = refl
rest_bytes [] false = refl
rest_bytes (b ∷ written) closed = ap (λ (l : List ℕ). b ∷ l) (rest_bytes written closed)

rest_ends : (written : List ℕ) (closed : Bool) → closed ≡ true → is_ended (map Byte written ++ end_of closed) ≡ true
rest_ends [] true is = refl
rest_ends [] false is = absurd (cc)
rest_ends (b ∷ written) closed is = rest_ends written closed is

comes_across : (w : World) (a b : End) → Direction w a b → ComesAcross a b
comes_across w a b d opened none =
    let waits = d.waits opened in
    let good = reached_good w d.carries.reached in
    let all : List Item = stream w.written w.closed in
    let whole : w.receiver.got ≡ all = part_first all w.receiver.got good.got ∙ take_all (length w.receiver.got) all (omega (arith, all_acked w a.connection.sending a.outgoing waits none, good.counted)) in
    record {
      bytes = sym d.carries.stands.holds.held ∙ ap bytes_of whole ∙ rest_bytes w.written w.closed ∙ d.carries.written;
      end = λ closed. sym d.carries.stands.holds.ended ∙ ap is_ended whole ∙ rest_ends w.written w.closed (sym waits.closed ∙ closed);
    }

pub both_come_across : (p : Ends) → Runs p → BothComeAcross p
both_come_across p run = let pair = runs_pair p run in record { here = comes_across pair.there p.here p.there pair.writes; there = comes_across pair.back p.there p.here pair.reads }
