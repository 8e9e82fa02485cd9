-- A segment in which a field of the fixed header changed.
use Rattle.std.proofs.Common.{ℕ, ◌≡◌, ◌≢◌, ◌⊎◌, inl, ◌≤◌, ◌<◌, ◌+◌, ◌-◌, ◌*◌, ◌%◌, ◌^◌, if◌then◌else◌, Bool, false, IsTrue, Some, None, List, drop, length, take, refl, sym, subst, ap, ◌∙◌, arith}
use Rattle.std.proofs.lemmas.Bool.Decides.{nat_tests}
use Rattle.std.proofs.lemmas.List.{drop-drop}
use Rattle.std.specs.Option.{option_map}
use Rattle.net_base.specs.Field.{field, with_field}
use Rattle.net_base.proofs.Following.{drop-with_field}
use Rattle.net_base.proofs.Cells.{cells-drop}
use Rattle.net_base.proofs.Spelled.{AreBytes}
use Rattle.net_base.proofs.Written.{field_with_field_other, length_with_field}
use Rattle.wire_addr.specs.declared.ip_address.IpAddress.{IpAddress}
use Rattle.wire_addr.specs.IpAddress.{address_bytes}
use Rattle.wire_tcp.proofs.Sums.{verifies}
use Rattle.wire_tcp.proofs.TcpComputed.{Reads-is, reads-with}
use Rattle.wire_tcp.specs.Tcp.{Verifies, header_len, options_of, payload_of, with_checksum, with_flag}
use Rattle.wire_tcp_options.specs.TcpItems.{IsOptionList, Item}
use Rattle.wire_tcp_options.specs.declared.tcp.control.TcpControl.{TcpControl}
use Rattle.wire_tcp_options.specs.declared.tcp.control.TcpControl.TheVariants as control
use Rattle.wire_tcp_options.specs.declared.tcp.seq_number.TcpSeqNumber.{TcpSeqNumber}
use Rattle.wire_tcp.specs.TcpFields.{quiet_of}
use Rattle.wire_tcp.specs.TcpRepr.{HasControl, HasFlags, IsQuiet, Reads, TcpHeader, header_with, seq_of}
use Rattle.std.proofs.lemmas.Grind.{common_steps}

-- ---- one value that changes

-- the new bytes have the same lengths, the same bytes after the fixed header, and values that f makes of the old ones
pub record Sets (old new : List ℕ) (f : TcpHeader → TcpHeader) : Type 0 where
  pub long : length new ≡ length old
  pub header : header_len new ≡ header_len old
  pub following : drop 20 new ≡ drop 20 old
  pub values : (asked : TcpControl) (items : List Item) → header_with new asked items ≡ f (header_with old asked items)

options_kept : (old new : List ℕ) → header_len new ≡ header_len old → drop 20 new ≡ drop 20 old → options_of new ≡ options_of old
options_kept old new header following = ap (take (header_len new - 20)) following ∙ ap (λ (m : ℕ). take (m - 20) (drop 20 old)) header

payload_kept : (old new : List ℕ) → header_len new ≡ header_len old → drop 20 new ≡ drop 20 old → 20 ≤ header_len old → payload_of new ≡ payload_of old
payload_kept old new header following least =
    let n = header_len old in
    let e : n ≡ 20 + (n - 20) = omega (arith, least) in
    ap (λ (k : ℕ). drop k new) (header ∙ e) ∙ sym (drop-drop (n - 20) 20 new) ∙ ap (drop (n - 20)) following ∙ drop-drop (n - 20) 20 old ∙ ap (λ (k : ℕ). drop k old) (sym e)

-- the new bytes parse as the values that f makes of the old ones, with another control
reads-set : (old new : List ℕ) (f : TcpHeader → TcpHeader) (src dst src' dst' : IpAddress) (verified checked : Bool) (v : TcpHeader) (payload : List ℕ) (asked : TcpControl)
    → Reads old src dst verified v payload → Sets old new f → (IsTrue checked → Verifies src' dst' new) → HasControl new asked
    → (f (record v { control = asked })).src_port ≢ 0 → (f (record v { control = asked })).dst_port ≢ 0 → Reads new src' dst' checked (f (record v { control = asked })) payload
reads-set old new f src dst src' dst' verified checked v payload asked r s valid asks sender receiver =
    let items = r.options.items in
    let is : header_with new asked items ≡ f (record v { control = asked }) =
    s.values asked items ∙ ap (λ (h : TcpHeader). f (record h { control = asked })) (Reads-is old src dst verified v payload r) in
    let list = subst (λ (l : List ℕ). IsOptionList l items r.options.tail) (sym (options_kept old new s.header s.following)) r.options.list in
    let body : payload_of new ≡ payload = payload_kept old new s.header s.following r.lengths.header ∙ sym r.body in
    let read = reads-with new src' dst' checked asked items r.options.tail (record {
      lengths = record {
        least = omega (arith, s.long, r.lengths.least);
        header = omega (arith, s.header, r.lengths.header);
        whole = omega (arith, s.long, s.header, r.lengths.whole);
      };
      sender = λ none. sender (ap (λ (h : TcpHeader). h.src_port) (sym is) ∙ none);
      receiver = λ none. receiver (ap (λ (h : TcpHeader). h.dst_port) (sym is) ∙ none);
      checksum = valid;
    }) asks list in
    subst (λ (h : TcpHeader). Reads new src' dst' checked h payload) is (subst (Reads new src' dst' checked (header_with new asked items)) body read)

-- the same control, if its flags stay
pub control_kept : (old new : List ℕ) → field new 108 4 ≡ field old 108 4 → (asked : TcpControl) → HasControl old asked → HasControl new asked
control_kept old new same asked h = grind (arith, common_steps, nat_tests)

-- the flags of the control stay too
abbrev Keeps : List ℕ → List ℕ → (TcpHeader → TcpHeader) → Type 0
Keeps old new f = Sets old new f × (field new 108 4 ≡ field old 108 4)

reads-kept : (old new : List ℕ) (f : TcpHeader → TcpHeader) (src dst src' dst' : IpAddress) (verified checked : Bool) (v : TcpHeader) (payload : List ℕ)
    → Reads old src dst verified v payload → Keeps old new f → (IsTrue checked → Verifies src' dst' new) → (f v).src_port ≢ 0 → (f v).dst_port ≢ 0 → Reads new src' dst' checked (f v) payload
reads-kept old new f src dst src' dst' verified checked v payload r (s, flags) valid =
    reads-set old new f src dst src' dst' verified checked v payload v.control r s valid (control_kept old new flags v.control r.control)

-- the ports of a parsed value are not 0
pub sender_read : (bytes : List ℕ) (src dst : IpAddress) (verified : Bool) (v : TcpHeader) (payload : List ℕ) → Reads bytes src dst verified v payload → v.src_port ≢ 0
sender_read bytes src dst verified v payload r none = r.sender (sym r.src_port ∙ none)

pub receiver_read : (bytes : List ℕ) (src dst : IpAddress) (verified : Bool) (v : TcpHeader) (payload : List ℕ) → Reads bytes src dst verified v payload → v.dst_port ≢ 0
receiver_read bytes src dst verified v payload r none = r.receiver (sym r.dst_port ∙ none)

-- ---- words and numbers

-- writing the source port changes only the source port of the value
pub reads-src_port : (bytes : List ℕ) (x : ℕ) (src dst : IpAddress) (verified checked : Bool) (v : TcpHeader) (payload : List ℕ) → x < 65536 → x ≢ 0 → Reads bytes src dst verified v payload
    → (IsTrue checked → Verifies src dst (with_field bytes 0 16 x)) → Reads (with_field bytes 0 16 x) src dst checked (record v { src_port = x }) payload
reads-src_port bytes x src dst verified checked v payload fits some r valid =
    reads-kept bytes (with_field bytes 0 16 x) (λ h. record h { src_port = x }) src dst src dst verified checked v payload r
    (rw (cells-drop 20 bytes r.lengths.least) (record { long = refl; header = refl; following = refl; values = λ asked items. grind arith }, refl))
    valid some (receiver_read bytes src dst verified v payload r)

-- the same for the destination port
pub reads-dst_port : (bytes : List ℕ) (x : ℕ) (src dst : IpAddress) (verified checked : Bool) (v : TcpHeader) (payload : List ℕ) → x < 65536 → x ≢ 0 → Reads bytes src dst verified v payload
    → (IsTrue checked → Verifies src dst (with_field bytes 16 16 x)) → Reads (with_field bytes 16 16 x) src dst checked (record v { dst_port = x }) payload
reads-dst_port bytes x src dst verified checked v payload fits some r valid =
    reads-kept bytes (with_field bytes 16 16 x) (λ h. record h { dst_port = x }) src dst src dst verified checked v payload r
    (rw (cells-drop 20 bytes r.lengths.least) (record { long = refl; header = refl; following = refl; values = λ asked items. grind arith }, refl))
    valid (sender_read bytes src dst verified v payload r) some

-- writing another value leaves the ports
reads-value : (bytes new : List ℕ) (f : TcpHeader → TcpHeader) (src dst src' dst' : IpAddress) (verified checked : Bool) (v : TcpHeader) (payload : List ℕ)
    → Reads bytes src dst verified v payload → Keeps bytes new f → (IsTrue checked → Verifies src' dst' new) → (f v).src_port ≡ v.src_port → (f v).dst_port ≡ v.dst_port
    → Reads new src' dst' checked (f v) payload
reads-value bytes new f src dst src' dst' verified checked v payload r keeps valid source target =
    reads-kept bytes new f src dst src' dst' verified checked v payload r keeps valid
    (λ none. sender_read bytes src dst verified v payload r (sym source ∙ none)) (λ none. receiver_read bytes src dst verified v payload r (sym target ∙ none))

-- writing the window changes only the window of the value
pub reads-window_len : (bytes : List ℕ) (x : ℕ) (src dst : IpAddress) (verified checked : Bool) (v : TcpHeader) (payload : List ℕ) → x < 65536 → Reads bytes src dst verified v payload
    → (IsTrue checked → Verifies src dst (with_field bytes 112 16 x)) → Reads (with_field bytes 112 16 x) src dst checked (record v { window_len = x }) payload
reads-window_len bytes x src dst verified checked v payload fits r valid =
    reads-value bytes (with_field bytes 112 16 x) (λ h. record h { window_len = x }) src dst src dst verified checked v payload r
    (rw (cells-drop 20 bytes r.lengths.least) (record { long = refl; header = refl; following = refl; values = λ asked items. grind arith }, refl))
    valid refl refl

-- writing the sequence number changes only the sequence number of the value
pub reads-seq_number : (bytes : List ℕ) (x : ℕ) (src dst : IpAddress) (v : TcpHeader) (payload : List ℕ) → x < 2 ^ 32 → Reads bytes src dst false v payload
    → Reads (with_field bytes 32 32 x) src dst false (record v { seq_number = seq_of x }) payload
reads-seq_number bytes x src dst v payload fits r =
    reads-value bytes (with_field bytes 32 32 x) (λ h. record h { seq_number = seq_of x }) src dst src dst false false v payload r
    (rw (cells-drop 20 bytes r.lengths.least) (record { long = refl; header = refl; following = refl; values = λ asked items. grind arith }, refl))
    (λ no. cc) refl refl

-- writing the acknowledgement number changes only that number, if the value has one
pub reads-ack_number : (bytes : List ℕ) (x : ℕ) (src dst : IpAddress) (v : TcpHeader) (payload : List ℕ) → x < 2 ^ 32 → Reads bytes src dst false v payload
    → Reads (with_field bytes 64 32 x) src dst false (record v { ack_number = option_map (λ (n : TcpSeqNumber). seq_of x) v.ack_number }) payload
reads-ack_number bytes x src dst v payload fits r =
    let set : TcpHeader → TcpHeader = λ h. record h { ack_number = option_map (λ (n : TcpSeqNumber). seq_of x) h.ack_number } in
    reads-value bytes (with_field bytes 64 32 x) set src dst src dst false false v payload r
    (rw (cells-drop 20 bytes r.lengths.least) (record { long = refl; header = refl; following = refl; values = λ asked items. grind (arith, nat_tests) }, refl))
    (λ no. cc) refl refl

-- ---- flags

-- writing ACK decides whether the value has an acknowledgement number, and changes nothing else
pub reads-ack : (bytes : List ℕ) (on : Bool) (src dst : IpAddress) (v : TcpHeader) (payload : List ℕ) → Reads bytes src dst false v payload
    → Reads (with_flag bytes 107 on) src dst false (record v { ack_number = if on then Some (seq_of (field bytes 64 32)) else None }) payload
reads-ack bytes on src dst v payload r =
    reads-value bytes (with_flag bytes 107 on) (λ h. record h { ack_number = if on then Some (seq_of (field bytes 64 32)) else None }) src dst src dst false false v payload r
    (rw (cells-drop 20 bytes r.lengths.least) (record { long = refl; header = refl; following = refl; values = λ asked items. grind (arith, nat_tests) }, grind arith))
    (λ no. cc) refl refl

-- a flag of the control is written: of RST, SYN and FIN at most the one of this control was set before, and now it is another control
abbrev Flags : List ℕ → List ℕ → TcpControl → TcpControl → Type 0
Flags old new one asked = Sets old new (λ h. h) × (HasFlags old 0 0 0 ⊎ HasControl old one → HasControl new asked)

-- RST, SYN and FIN of a quiet control, or of this one
flags_before : (bytes : List ℕ) (asked one : TcpControl) → IsQuiet asked ⊎ (asked ≡ one) → HasControl bytes asked → HasFlags bytes 0 0 0 ⊎ HasControl bytes one
flags_before bytes asked one h3 h = grind arith

reads-flag : (bytes new : List ℕ) (one asked : TcpControl) (src dst : IpAddress) (v : TcpHeader) (payload : List ℕ) → IsQuiet v.control ⊎ (v.control ≡ one) → Reads bytes src dst false v payload
    → Flags bytes new one asked → Reads new src dst false (record v { control = asked }) payload
reads-flag bytes new one asked src dst v payload before r (set, after) =
    reads-set bytes new (λ h. h) src dst src dst false false v payload asked r set (λ no. cc) (after (flags_before bytes v.control one before r.control))
    (sender_read bytes src dst false v payload r) (receiver_read bytes src dst false v payload r)

-- writing PSH, RST, SYN or FIN changes only the control of the value
pub reads-psh : (bytes : List ℕ) (on : Bool) (src dst : IpAddress) (v : TcpHeader) (payload : List ℕ) → IsQuiet v.control → Reads bytes src dst false v payload
    → Reads (with_flag bytes 108 on) src dst false (record v { control = if on then control.Psh else control.None }) payload
reads-psh bytes on src dst v payload quiet r =
    reads-flag bytes (with_flag bytes 108 on) control.Psh (if on then control.Psh else control.None) src dst v payload (inl quiet) r
    (rw (cells-drop 20 bytes r.lengths.least) (record { long = refl; header = refl; following = refl; values = λ asked items. grind (arith, nat_tests) }, λ h. grind (arith, nat_tests)))

pub reads-rst : (bytes : List ℕ) (on : Bool) (src dst : IpAddress) (v : TcpHeader) (payload : List ℕ) → IsQuiet v.control ⊎ (v.control ≡ control.Rst) → Reads bytes src dst false v payload
    → Reads (with_flag bytes 109 on) src dst false (record v { control = if on then control.Rst else quiet_of bytes }) payload
reads-rst bytes on src dst v payload before r =
    reads-flag bytes (with_flag bytes 109 on) control.Rst (if on then control.Rst else quiet_of bytes) src dst v payload before r
    (rw (cells-drop 20 bytes r.lengths.least) (record { long = refl; header = refl; following = refl; values = λ asked items. grind (arith, nat_tests) }, λ h. grind (arith, nat_tests)))

pub reads-syn : (bytes : List ℕ) (on : Bool) (src dst : IpAddress) (v : TcpHeader) (payload : List ℕ) → IsQuiet v.control ⊎ (v.control ≡ control.Syn) → Reads bytes src dst false v payload
    → Reads (with_flag bytes 110 on) src dst false (record v { control = if on then control.Syn else quiet_of bytes }) payload
reads-syn bytes on src dst v payload before r =
    reads-flag bytes (with_flag bytes 110 on) control.Syn (if on then control.Syn else quiet_of bytes) src dst v payload before r
    (rw (cells-drop 20 bytes r.lengths.least) (record { long = refl; header = refl; following = refl; values = λ asked items. grind (arith, nat_tests) }, λ h. grind (arith, nat_tests)))

pub reads-fin : (bytes : List ℕ) (on : Bool) (src dst : IpAddress) (v : TcpHeader) (payload : List ℕ) → IsQuiet v.control ⊎ (v.control ≡ control.Fin) → Reads bytes src dst false v payload
    → Reads (with_flag bytes 111 on) src dst false (record v { control = if on then control.Fin else quiet_of bytes }) payload
reads-fin bytes on src dst v payload before r =
    reads-flag bytes (with_flag bytes 111 on) control.Fin (if on then control.Fin else quiet_of bytes) src dst v payload before r
    (rw (cells-drop 20 bytes r.lengths.least) (record { long = refl; header = refl; following = refl; values = λ asked items. grind (arith, nat_tests) }, λ h. grind (arith, nat_tests)))

-- ---- what is in no value

-- the checksum: nothing else depends on the addresses
pub reads_checksum : (bytes : List ℕ) (x : ℕ) (src dst src' dst' : IpAddress) (verified checked : Bool) (v : TcpHeader) (payload : List ℕ) → Reads bytes src dst verified v payload
    → (IsTrue checked → Verifies src' dst' (with_field bytes 128 16 x)) → Reads (with_field bytes 128 16 x) src' dst' checked v payload
reads_checksum bytes x src dst src' dst' verified checked v payload r valid =
    reads-value bytes (with_field bytes 128 16 x) (λ h. h) src dst src' dst' verified checked v payload r
    (rw (cells-drop 20 bytes r.lengths.least) (record { long = refl; header = refl; following = refl; values = λ asked items. refl }, refl))
    valid refl refl

-- the same for bytes in which it was written
pub reads-summed : (bytes new : List ℕ) (x : ℕ) (src dst src' dst' : IpAddress) (verified checked : Bool) (v : TcpHeader) (payload : List ℕ) → new ≡ with_field bytes 128 16 x
    → Reads bytes src dst verified v payload → (IsTrue checked → Verifies src' dst' new) → Reads new src' dst' checked v payload
reads-summed bytes new x src dst src' dst' verified checked v payload is r valid =
    subst (λ (l : List ℕ). Reads l src' dst' checked v payload) (sym is) (reads_checksum bytes x src dst src' dst' verified checked v payload r (λ on. subst (Verifies src' dst') is (valid on)))

-- a valid checksum may be verified
pub reads-verified : (bytes : List ℕ) (src dst src' dst' : IpAddress) (verified checked : Bool) (v : TcpHeader) (payload : List ℕ) → Reads bytes src dst verified v payload
    → (IsTrue checked → Verifies src' dst' bytes) → Reads bytes src' dst' checked v payload
reads-verified bytes src dst src' dst' verified checked v payload r valid = grind arith

-- a checksum that is filled in
pub reads-filled : (bytes : List ℕ) (src dst : IpAddress) (verified checked : Bool) (v : TcpHeader) (payload : List ℕ) → length (address_bytes src) % 2 ≡ 0 → length (address_bytes dst) % 2 ≡ 0
    → Reads bytes src dst verified v payload → Reads (with_checksum src dst bytes) src dst checked v payload
reads-filled bytes src dst verified checked v payload s d r =
    reads_checksum (with_field bytes 128 16 0) _ src dst src dst false checked v payload (reads_checksum bytes 0 src dst src dst verified false v payload r (λ no. cc))
    (λ on. verifies src dst bytes s d (omega (arith, r.lengths.least)))

-- the reserved bits, NS, CWR, ECE, URG and the urgent pointer
pub reads-unread : (bytes : List ℕ) (first width x : ℕ) (src dst : IpAddress) (v : TcpHeader) (payload : List ℕ) → AreBytes bytes → 0 < width
    → ((100 ≤ first) × (first + width ≤ 107)) ⊎ ((144 ≤ first) × (first + width ≤ 160)) → Reads bytes src dst false v payload → Reads (with_field bytes first width x) src dst false v payload
reads-unread bytes first width x src dst v payload are some place r =
    let new = with_field bytes first width x in
    let room = r.lengths.least in
    let inside : first + width ≤ 160 = grind arith in
    let before : (at size : ℕ) → 0 < size → at + size ≤ 100 → field new at size ≡ field bytes at size = λ at size some_size low.
    field_with_field_other bytes first width x at size are some some_size (omega (arith, room, inside)) (inl (grind arith)) in
    let after : (at size : ℕ) → 0 < size → 107 ≤ at → at + size ≤ 144 → field new at size ≡ field bytes at size = λ at size some_size low high.
    field_with_field_other bytes first width x at size are some some_size (omega (arith, room, inside)) (grind arith) in
    let same : (asked : TcpControl) (items : List Item) → header_with new asked items ≡ header_with bytes asked items = λ asked items.
    rw (
      before 0 16 (omega arith) (omega arith),
      before 16 16 (omega arith) (omega arith),
      before 32 32 (omega arith) (omega arith),
      before 64 32 (omega arith) (omega arith),
      after 107 1 (omega arith) (omega arith) (omega arith),
      after 112 16 (omega arith) (omega arith) (omega arith),
    ) refl in
    let offset = before 96 4 (omega arith) (omega arith) in
    reads-value bytes new (λ h. h) src dst src dst false false v payload r (
      record {
        long = length_with_field bytes first width x some (omega (arith, room, inside));
        header = ap (λ (n : ℕ). 4 * n) offset;
        following = drop-with_field bytes first width x 20 some inside room;
        values = same;
      },
      after 108 4 (omega arith) (omega arith) (omega arith),
    ) (λ no. cc) refl refl
