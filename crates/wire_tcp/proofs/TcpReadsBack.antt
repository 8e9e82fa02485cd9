-- An emitted segment parses as the normal form of the value from which it was emitted.
use Rattle.std.proofs.Common.{ℕ, ◌≡◌, ◌≢◌, ◌+◌, ◌-◌, ◌*◌, ◌%◌, ◌^◌, ◌<◌, ◌≤◌, Bool, true, false, IsTrue, List, [], ◌++◌, length, drop, take, Option, Some, None, IfSome, is_some, refl, sym, ap, subst, ◌∙◌, length-append, arith}
use Rattle.std.specs.Prelude.{if◌then◌else◌}
use Rattle.std.proofs.lemmas.Int.{to_z-of_z}
use Rattle.std.proofs.lemmas.List.{append-nil, drop_at, take_at}
use Rattle.std.specs.Int.{w32}
use mir.ValLaws as laws
use Rattle.wire_addr.specs.IpAddress.{address_bytes}
use Rattle.wire_addr.specs.declared.ip_address.IpAddress.{IpAddress}
use Rattle.net_base.specs.Field.{field}
use Rattle.wire_tcp.specs.Tcp.{Verifies, header_len, options_of, payload_of}
use Rattle.wire_tcp_options.specs.TcpSeq.{number}
use Rattle.wire_tcp.proofs.Sums.{verifies}
use Rattle.wire_tcp_options.specs.declared.tcp.control.TcpControl.{TcpControl}
use Rattle.wire_tcp_options.specs.declared.tcp.control.TcpControl.TheVariants as control
use Rattle.wire_tcp_options.specs.declared.tcp.seq_number.TcpSeqNumber.{TcpSeqNumber}
use Rattle.wire_tcp.specs.TcpRepr.{HasControl, IsInRange, IsSeq, Reads, ReadsOptions, TcpHeader, ack_number_of, bytes_of, flag_of, header_bytes, header_len_of, normal, option_bytes, segment_with, seq_of}
use Rattle.wire_tcp.proofs.OptionsBack.{options_back}
use Rattle.wire_tcp.proofs.TcpComputed.{reads_once}
use Rattle.wire_tcp.proofs.TcpEmitted.{checksum_filled, length-header_bytes, length-option_bytes}
use Rattle.std.proofs.lemmas.Grind.{common_steps}
use Rattle.std.proofs.lemmas.Bool.Decides.{nat_tests}

-- the value has a segment that parses: its numbers are in range, its ports are not 0, and its options fit
pub record IsWritable (v : TcpHeader) : Type 0 where
  pub in_range : IsInRange v
  pub sender : v.src_port ≢ 0
  pub receiver : v.dst_port ≢ 0
  pub most : header_len_of v ≤ 60

-- ---- numbers of 32 bits

number-bound : (s : TcpSeqNumber) → IsSeq s → number s < 2 ^ 32
number-bound s fits = (laws.of_z_fits w32 s.0 fits).fits

seq-back : (s : TcpSeqNumber) → IsSeq s → seq_of (number s) ≡ s
seq-back s fits = λ i. record { 0 = to_z-of_z w32 s.0 fits i }

-- ---- the word with the data offset and the flags

-- what ACK adds
ack_part : (o : Option TcpSeqNumber) → (k : ℕ) × (k < 2) × ((if is_some o then 16 else 0) ≡ 16 * k)
ack_part None = (0, omega arith, refl)
ack_part (Some s) = (1, omega arith, refl)

flag-bound : (c : TcpControl) → flag_of c < 16
flag-bound c = grind (arith, common_steps, nat_tests)

pub header_len-segment : (v : TcpHeader) (payload : List ℕ) (checksum : ℕ) → header_len_of v ≤ 60 → header_len (segment_with v payload checksum) ≡ header_len_of v
header_len-segment v payload checksum most = grind (arith, common_steps, nat_tests, ack_part, flag-bound)

-- the data offset of an emitted segment gives the computed header length
pub header_len-bytes_of : (v : TcpHeader) (src dst : IpAddress) (payload : List ℕ) (computed : Bool) → header_len_of v ≤ 60 → header_len (bytes_of v payload src dst computed []) ≡ header_len_of v
header_len-bytes_of v src dst payload computed most = grind arith

control-back : (v : TcpHeader) (payload : List ℕ) (checksum : ℕ) → HasControl (segment_with v payload checksum) v.control
control-back v payload checksum = grind (arith, common_steps, nat_tests, ack_part)

ack-back : (v : TcpHeader) (payload : List ℕ) (checksum : ℕ) → IfSome v.ack_number IsSeq → v.ack_number ≡ ack_number_of (segment_with v payload checksum)
ack-back v payload checksum fits = grind (arith, common_steps, nat_tests, flag-bound, number-bound, seq-back)

-- ---- the segment

-- a segment parses with any checksum if it is not verified
pub reads-segment_with : (v : TcpHeader) (src dst : IpAddress) (payload : List ℕ) (checksum : ℕ) (verified : Bool) → IsWritable v
    → (IsTrue verified → Verifies src dst (segment_with v payload checksum)) → Reads (segment_with v payload checksum) src dst verified (normal v) payload
reads-segment_with v src dst payload checksum verified w sound =
    let bytes = segment_with v payload checksum in
    let r = w.in_range in
    let size = header_len-segment v payload checksum w.most in
    let options_len = length-option_bytes v in
    let long : length bytes ≡ header_len_of v + length payload = length-append (header_bytes v checksum) payload ∙ ap (λ (n : ℕ). n + length payload) (length-header_bytes v checksum) in
    let bound = number-bound v.seq_number r.seq_number in
    let part : options_of bytes ≡ option_bytes v =
    ap (λ (n : ℕ). take (n - 20) (option_bytes v ++ payload)) size ∙ take_at (option_bytes v) payload (header_len_of v - 20) (omega (arith, options_len)) in
    let body : payload_of bytes ≡ payload = ap (λ (n : ℕ). drop n bytes) size ∙ drop_at (header_bytes v checksum) payload (header_len_of v) (length-header_bytes v checksum) in
    let seq : field bytes 32 32 ≡ number v.seq_number = omega (arith, bound) in
    let src_port = r.src_port in
    let dst_port = r.dst_port in
    let window_len = r.window_len in
    record {
      lengths = record { least = omega (arith, long, options_len); header = omega (arith, size, options_len); whole = omega (arith, size, long) };
      sender = omega (arith, w.sender, src_port);
      receiver = omega (arith, w.receiver, dst_port);
      control = control-back v payload checksum;
      checksum = sound;
      options = subst (λ o. ReadsOptions o (normal v)) (sym part) (options_back v r);
      src_port = omega (arith, src_port);
      dst_port = omega (arith, dst_port);
      seq_number = sym (ap seq_of seq ∙ seq-back v.seq_number r.seq_number);
      ack_number = ack-back v payload checksum r.ack_number;
      window_len = omega (arith, window_len);
      body = sym body;
    }

-- the computed checksum is valid
pub bytes_of-verifies : (v : TcpHeader) (src dst : IpAddress) (payload : List ℕ) → length (address_bytes src) % 2 ≡ 0 → length (address_bytes dst) % 2 ≡ 0
    → Verifies src dst (bytes_of v payload src dst true [])
bytes_of-verifies v src dst payload s d =
    let filled = checksum_filled v src dst payload [] ∙ append-nil (bytes_of v payload src dst true []) in
    let room : 18 ≤ length (segment_with v payload 0 ++ []) = omega arith in
    subst (Verifies src dst) filled (verifies src dst (segment_with v payload 0 ++ []) s d room)

-- an emitted segment parses as the normal form, with the same payload
pub reads_bytes_of : (v : TcpHeader) (src dst : IpAddress) (payload : List ℕ) (computed verified : Bool) → IsWritable v
    → length (address_bytes src) % 2 ≡ 0 → length (address_bytes dst) % 2 ≡ 0 → (IsTrue verified → IsTrue computed)
    → Reads (bytes_of v payload src dst computed []) src dst verified (normal v) payload
reads_bytes_of v src dst payload true verified w s d sound =
    reads-segment_with v src dst payload _ verified w (λ on. bytes_of-verifies v src dst payload s d)
reads_bytes_of v src dst payload false verified w s d sound =
    reads-segment_with v src dst payload 0 verified w (λ on. let no : IsTrue false = sound on in absurd (cc))

-- an emitted normal value parses as itself
pub reads-normal : (v : TcpHeader) (src dst : IpAddress) (payload : List ℕ) (computed verified : Bool) → normal v ≡ v → IsWritable v
    → length (address_bytes src) % 2 ≡ 0 → length (address_bytes dst) % 2 ≡ 0 → (IsTrue verified → IsTrue computed)
    → Reads (bytes_of v payload src dst computed []) src dst verified v payload
reads-normal v src dst payload computed verified is w s d sound =
    subst (λ n. Reads (bytes_of v payload src dst computed []) src dst verified n payload) is (reads_bytes_of v src dst payload computed verified w s d sound)

-- normal values with the same emitted bytes are equal
pub same_written : (v w : TcpHeader) (src dst : IpAddress) (payload other : List ℕ) → normal v ≡ v → normal w ≡ w → IsWritable v → IsWritable w
    → length (address_bytes src) % 2 ≡ 0 → length (address_bytes dst) % 2 ≡ 0 → bytes_of v payload src dst true [] ≡ bytes_of w other src dst true []
    → (v ≡ w) × (payload ≡ other)
same_written v w src dst payload other vn wn vw ww s d e =
    reads_once src dst true (bytes_of w other src dst true []) payload other v w
    (subst (λ bytes. Reads bytes src dst true v payload) e (reads-normal v src dst payload true true vn vw s d (λ on. on)))
    (reads-normal w src dst other true true wn ww s d (λ on. on))
