-- IP is a layer.
use Rattle.std.proofs.Common.{ℕ, ◌≡◌, ◌≤◌, ◌<◌, ◌+◌, ◌^◌, Bool, true, IsTrue, List, [], ◌++◌, Option, Some, drop, length, refl, sym, ap, subst, ◌∙◌, append-nil, length-append, arith}
use Rattle.std.specs.Option.{option_map}
use Rattle.ip_wire.proofs.FrameOf.{header-only, header-read}
use Rattle.ip_wire.proofs.Layers.{IsLayer, Layer, ReadsNormal, byte-lt, length-part, part-following}
use Rattle.ip_wire.proofs.Options.{option_map-Some}
use Rattle.ip_wire.proofs.UdpLayer.{AreWords}
use Rattle.ip_wire.specs.Frame.{ReadsPacket, all_checked, header_by, packet_payload, type_of, type_of_version}
use Rattle.net_base.specs.Checksum.{verifies}
use Rattle.net_base.specs.declared.ChecksumCapabilities.{ChecksumCapabilities}
use Rattle.wire_addr.proofs.Protocols.{number_of-protocol_of}
use Rattle.wire_addr.specs.Protocol.{number_of}
use Rattle.ip_wire.specs.Types.{EthernetProtocol, IpRepr, Ipv4, Ipv4Repr, Ipv6, Ipv6Repr}
use Rattle.wire_addr.specs.declared.IpVersion.TheVariants as version
use Rattle.net_base.proofs.ByteLists.{AreBytes-append, AreBytes-cons, AreBytes-part, AreBytes-slice_range}
use Rattle.net_base.proofs.Cells.{cells-all}
use Rattle.net_base.proofs.Spelled.{AreBytes}
use Rattle.net_base.specs.Field.{field}
use Rattle.wire_ip.proofs.IpReadsBack.{IsInRange}
use Rattle.wire_ip.specs.Ip.{bytes_of, dst_addr_of, header_len_of, normal, payload_len_of, src_addr_of, version_of, with_payload_len}
use Rattle.wire_ipv4.proofs.Ipv4Normal as ipv4_normal
use Rattle.wire_ipv4.proofs.Ipv4ReadsBack as ipv4_back
use Rattle.wire_ipv4.specs.Ipv4 as ipv4
use Rattle.wire_ipv6.proofs.Ipv6Normal as ipv6_normal
use Rattle.wire_ipv6.proofs.Ipv6ReadsBack as ipv6_back
use Rattle.wire_ipv6.specs.Ipv6 as ipv6

-- ---- packets that are read

-- the header of a packet that is read can be written for any payload that is no longer, and says how long the payload is,
-- which fits after it
pub record IsHeader (u : IpRepr) (bytes : List ℕ) : Type 0 where
  pub in_range : (n : ℕ) → n ≤ length (packet_payload u bytes) → IsInRange (with_payload_len u n)
  pub payload_len : payload_len_of u ≡ length (packet_payload u bytes)
  pub whole : header_len_of u + length (packet_payload u bytes) ≤ length bytes

pub ReadsPacket-IsHeader : (caps : ChecksumCapabilities) (bytes : List ℕ) (u : IpRepr) → ReadsPacket caps bytes u → IsHeader u bytes
ReadsPacket-IsHeader caps bytes (Ipv4 u) (r, _) =
    let least = r.lengths.least in
    let header = r.lengths.header in
    let within = r.lengths.within in
    let whole = r.lengths.whole in
    let len = length-part bytes (ipv4.header_len bytes) (ipv4.total_len bytes) whole in
    let bound : ipv4.total_len bytes < 2 ^ 16 = omega arith in
    record {
      in_range = λ n fits. record {
        src_addr = ap length r.src_addr ∙ length-part bytes 12 16 (omega (arith, least));
        dst_addr = ap length r.dst_addr ∙ length-part bytes 16 20 (omega (arith, least));
        next_header = rw (r.next_header, number_of-protocol_of (field bytes 72 8)) (omega arith);
        payload_len = omega (arith, len, header, bound, fits);
        hop_limit = rw r.hop_limit (omega arith);
      };
      payload_len = r.payload_len ∙ sym len;
      whole = omega (arith, len, header, within, whole);
    }
ReadsPacket-IsHeader caps bytes (Ipv6 u) r =
    let whole = r.lengths in
    let len = length-part bytes 40 (ipv6.total_len bytes) whole in
    record {
      in_range = λ n fits. record {
        src_addr = ap length r.src_addr ∙ length-part bytes 8 24 (omega (arith, whole));
        dst_addr = ap length r.dst_addr ∙ length-part bytes 24 40 (omega (arith, whole));
        next_header = rw (r.next_header, number_of-protocol_of (field bytes 48 8)) (omega arith);
        payload_len = omega (arith, len, fits);
        hop_limit = rw r.hop_limit (omega arith);
      };
      payload_len = r.payload_len ∙ sym (len ∙ omega arith);
      whole = omega (arith, len, whole);
    }

-- values that were read are their normal form
normal_read : (bytes : List ℕ) (u : IpRepr) → ReadsPacket all_checked bytes u → normal u ≡ u
normal_read bytes (Ipv4 u) (r, _) = ap Ipv4 (ipv4_normal.normal_read bytes true u r)
normal_read bytes (Ipv6 u) r = ap Ipv6 (ipv6_normal.normal_read bytes u r)

AreBytes-payload : (bytes : List ℕ) (u : IpRepr) → AreBytes bytes → AreBytes (packet_payload u bytes)
AreBytes-payload bytes (Ipv4 u) h = AreBytes-slice_range bytes (ipv4.header_len bytes) (ipv4.total_len bytes) h
AreBytes-payload bytes (Ipv6 u) h = AreBytes-slice_range bytes 40 (ipv6.total_len bytes) h

-- ---- as a layer

-- the header's values without the length of the payload, and the payload
unfoldable pub ip_packet_of : EthernetProtocol → List ℕ → Option (IpRepr × List ℕ)
ip_packet_of t bytes = option_map (λ v. (with_payload_len v 0, packet_payload v bytes)) (header_by all_checked t bytes)

-- a header in a frame of this type, which tells where the payload ends
abbrev pub ip : EthernetProtocol → Layer IpRepr
ip t = record {
  read = ip_packet_of t;
  write = λ v payload. bytes_of (with_payload_len v (length payload)) true ++ payload;
  normal = λ v. normal (with_payload_len v 0);
}

pub ip_packet_of-Reads : (t : EthernetProtocol) (bytes : List ℕ) (u : IpRepr) → t ≡ type_of u → ReadsPacket all_checked bytes u
    → ip_packet_of t bytes ≡ Some (with_payload_len u 0, packet_payload u bytes)
unfolding ip_packet_of
ip_packet_of-Reads t bytes u type r = ap (option_map (λ v. (with_payload_len v 0, packet_payload v bytes))) (header-read all_checked t bytes u type r)

-- the header that values of a layer were read from, which has the payload's length, and the payload
pub record IsPacket (t : EthernetProtocol) (bytes : List ℕ) (v : IpRepr) (p : List ℕ) (u : IpRepr) : Type 0 where
  pub type : t ≡ type_of u
  pub reads : ReadsPacket all_checked bytes u
  pub values : with_payload_len u 0 ≡ v
  pub payload : packet_payload u bytes ≡ p

pub ip_packet_of-IsPacket : (t : EthernetProtocol) (bytes : List ℕ) (v : IpRepr) (p : List ℕ) → ip_packet_of t bytes ≡ Some (v, p) → (u : IpRepr) × IsPacket t bytes v p u
unfolding ip_packet_of
ip_packet_of-IsPacket t bytes v p e =
    let (u, found, pair) = option_map-Some (λ v. (with_payload_len v 0, packet_payload v bytes)) (header_by all_checked t bytes) (v, p) e in
    let (type, reads) = header-only all_checked t bytes u found in (
      u,
      record {
        type = type;
        reads = reads;
        values = ap (λ (d : IpRepr × List ℕ). d.0) pair;
        payload = ap (λ (d : IpRepr × List ℕ). d.1) pair;
      },
    )

-- ---- packets that are written

-- a packet that is written is read, whatever follows what it carries
pub reads_packet : (caps : ChecksumCapabilities) (computed : Bool) (w : IpRepr) (q rest : List ℕ) → IsInRange w → payload_len_of w ≡ length q
    → (version_of w ≡ version.Ipv4 → IsTrue (verifies caps.ipv4) → IsTrue computed) → ReadsPacket caps (bytes_of w computed ++ (q ++ rest)) (normal w)
reads_packet caps computed (Ipv4 w) q rest h is sound =
    let fits : w.payload_len ≤ length (q ++ rest) = simp length-append (omega (arith, is)) in
    (ipv4_back.reads_bytes_of w (q ++ rest) computed (verifies caps.ipv4) h fits (sound refl), refl)
reads_packet caps computed (Ipv6 w) q rest h is sound =
    let fits : w.payload_len ≤ length (q ++ rest) = simp length-append (omega (arith, is)) in
    ipv6_back.reads_bytes_of w (q ++ rest) h fits

-- and what it carries follows its header
pub packet_payload-written : (w : IpRepr) (q rest : List ℕ) (computed : Bool) → IsInRange w → payload_len_of w ≡ length q
    → packet_payload (normal w) (bytes_of w computed ++ (q ++ rest)) ≡ q
packet_payload-written (Ipv4 w) q rest computed h is =
    let bytes = ipv4.bytes_of w computed ++ (q ++ rest) in
    let total : ipv4.total_len bytes ≡ 20 + length q = omega (arith, h.payload_len, is) in
    let following : drop 20 bytes ≡ q ++ rest = rw (cells-all 4 w.src_addr h.src_addr, cells-all 4 w.dst_addr h.dst_addr) refl in
    part-following bytes q rest 20 (ipv4.total_len bytes) total following
packet_payload-written (Ipv6 w) q rest computed h is =
    let bytes = ipv6.bytes_of w ++ (q ++ rest) in
    let total : ipv6.total_len bytes ≡ 40 + length q = omega (arith, h.payload_len, is) in
    let following : drop 40 bytes ≡ q ++ rest = rw (cells-all 16 w.src_addr h.src_addr, cells-all 16 w.dst_addr h.dst_addr) refl in
    part-following bytes q rest 40 (ipv6.total_len bytes) total following

length-header : (w : IpRepr) (computed : Bool) → IsInRange w → length (bytes_of w computed) ≡ header_len_of w
length-header (Ipv4 w) computed h = rw (cells-all 4 w.src_addr h.src_addr, cells-all 4 w.dst_addr h.dst_addr) (omega arith)
length-header (Ipv6 w) computed h = rw (cells-all 16 w.src_addr h.src_addr, cells-all 16 w.dst_addr h.dst_addr) (omega arith)

AreBytes-ipv4 : (w : Ipv4Repr) (sum : ℕ) → w.hop_limit < 256 → number_of w.next_header < 256 → AreBytes w.src_addr → AreBytes w.dst_addr → AreBytes (ipv4.header_with w sum)
AreBytes-ipv4 w sum hop number src dst =
    let version : 0x45 < 256 = omega arith in
    let flags : 0x40 < 256 = omega arith in
    let none : 0 < 256 = omega arith in
    search (AreBytes-cons, AreBytes-append, byte-lt, version, flags, none) depth 30 fits 3000

AreBytes-ipv6 : (w : Ipv6Repr) → w.hop_limit < 256 → number_of w.next_header < 256 → AreBytes w.src_addr → AreBytes w.dst_addr → AreBytes (ipv6.bytes_of w)
AreBytes-ipv6 w hop number src dst =
    let version : 0x60 < 256 = omega arith in
    let none : 0 < 256 = omega arith in
    search (AreBytes-cons, AreBytes-append, byte-lt, version, none) depth 30 fits 3000

AreBytes-header : (bytes : List ℕ) (u : IpRepr) (n : ℕ) → AreBytes bytes → ReadsPacket all_checked bytes u → AreBytes (bytes_of (with_payload_len u n) true)
AreBytes-header bytes (Ipv4 u) n h (r, whole) =
    let range = (ReadsPacket-IsHeader all_checked bytes (Ipv4 u) (r, whole)).in_range 0 (omega arith) in
    AreBytes-ipv4 (record u { payload_len = n }) _ range.hop_limit range.next_header (AreBytes-part bytes u.src_addr 12 16 h r.src_addr) (AreBytes-part bytes u.dst_addr 16 20 h r.dst_addr)
AreBytes-header bytes (Ipv6 u) n h r =
    let range = (ReadsPacket-IsHeader all_checked bytes (Ipv6 u) r).in_range 0 (omega arith) in
    AreBytes-ipv6 (record u { payload_len = n }) range.hop_limit range.next_header (AreBytes-part bytes u.src_addr 8 24 h r.src_addr) (AreBytes-part bytes u.dst_addr 24 40 h r.dst_addr)

-- ---- the length of the payload in a header

-- what another length leaves of the header
pub record SetsLen (u : IpRepr) (m n : ℕ) : Type 0 where
  pub payload_len : payload_len_of (with_payload_len u n) ≡ n
  pub header_len : header_len_of (with_payload_len u n) ≡ header_len_of u
  pub own : with_payload_len u (payload_len_of u) ≡ u
  pub last : with_payload_len (with_payload_len u m) n ≡ with_payload_len u n
  pub normal_form : normal (with_payload_len u n) ≡ with_payload_len (normal u) n
  pub version : version_of (normal (with_payload_len u n)) ≡ version_of u

pub sets_len : (u : IpRepr) (m n : ℕ) → SetsLen u m n
sets_len (Ipv4 u) m n = record { payload_len = refl; header_len = refl; own = refl; last = refl; normal_form = refl; version = refl }
sets_len (Ipv6 u) m n = record { payload_len = refl; header_len = refl; own = refl; last = refl; normal_form = refl; version = refl }

-- values that were read are normal without it too
pub normal-len : (bytes : List ℕ) (u : IpRepr) → ReadsPacket all_checked bytes u → normal (with_payload_len (with_payload_len u 0) 0) ≡ with_payload_len u 0
normal-len bytes u r = ap normal (sets_len u 0 0).last ∙ (sets_len u 0 0).normal_form ∙ ap (λ w. with_payload_len w 0) (normal_read bytes u r)

-- the addresses of a header that can be written are whole words
words : (u : IpRepr) → IsInRange u → AreWords (src_addr_of u) (dst_addr_of u)
words (Ipv4 u) h = record { src_bytes = omega (arith, h.src_addr); dst_bytes = omega (arith, h.dst_addr) }
words (Ipv6 u) h = record { src_bytes = omega (arith, h.src_addr); dst_bytes = omega (arith, h.dst_addr) }

pub AreWords-ip : (t : EthernetProtocol) (bytes : List ℕ) (v : IpRepr) (p : List ℕ) → ip_packet_of t bytes ≡ Some (v, p) → AreWords (src_addr_of v) (dst_addr_of v)
AreWords-ip t bytes v p e =
    let (u, d) = ip_packet_of-IsPacket t bytes v p e in
    subst (λ w. AreWords (src_addr_of w) (dst_addr_of w)) d.values (words (with_payload_len u 0) ((ReadsPacket-IsHeader all_checked bytes u d.reads).in_range 0 (omega arith)))

-- ---- the layer

ReadsNormal-ip : (t : EthernetProtocol) → ReadsNormal (ip t)
ReadsNormal-ip t bytes v p e =
    let (u, d) = ip_packet_of-IsPacket t bytes v p e in
    ap (λ w. normal (with_payload_len w 0)) (sym d.values) ∙ normal-len bytes u d.reads ∙ d.values

module _ (t : EthernetProtocol) (bytes : List ℕ) (v u : IpRepr) (p q : List ℕ) (d : IsPacket t bytes v p u) where
  -- the header that is written before a payload
  abbrev header : IpRepr
  header = with_payload_len u (length q)

  written : (ip t).write v q ≡ bytes_of header true ++ q
  written = ap (λ w. bytes_of (with_payload_len w (length q)) true ++ q) (sym d.values) ∙ ap (λ w. bytes_of w true ++ q) (sets_len u 0 (length q)).last

  -- it can be written if the payload is no longer
  in_range : length q ≤ length p → IsInRange header
  in_range fits = let len = ap length d.payload in (ReadsPacket-IsHeader all_checked bytes u d.reads).in_range (length q) (omega (arith, len, fits))

  written-read : length q ≤ length p → ip_packet_of t (bytes_of header true ++ q) ≡ Some (v, q)
  written-read fits =
      let len = (sets_len u 0 (length q)).payload_len in
      let same = λ (rest : List ℕ). bytes_of header true ++ rest in
      let read = subst (λ b. ReadsPacket all_checked b (normal header)) (ap same (append-nil q)) (reads_packet all_checked true header q [] (in_range fits) len (λ is on. on)) in
      let payload = ap (λ b. packet_payload (normal header) b) (ap same (sym (append-nil q))) ∙ packet_payload-written header q [] true (in_range fits) len in
      let values : with_payload_len (normal header) 0 ≡ v =
      ap (λ w. with_payload_len w 0) ((sets_len u 0 (length q)).normal_form ∙ ap (λ w. with_payload_len w (length q)) (normal_read bytes u d.reads))
      ∙ (sets_len u (length q) 0).last
      ∙ d.values
      in
      ip_packet_of-Reads t (same q) (normal header) (d.type ∙ ap type_of_version (sym (sets_len u 0 (length q)).version)) read ∙ rw (values, payload) refl

  written-longer : length q ≤ length p → length (bytes_of header true ++ q) + length p ≤ length bytes + length q
  written-longer fits =
      let whole = (ReadsPacket-IsHeader all_checked bytes u d.reads).whole in
      let payload = ap length d.payload in
      let len = length-header header true (in_range fits) ∙ (sets_len u 0 (length q)).header_len in
      rw length-append (omega (arith, len, payload, whole))

pub IsLayer-ip : (t : EthernetProtocol) → IsLayer (ip t)
IsLayer-ip t = record {
  payload_bytes = λ bytes v p h e. let (u, d) = ip_packet_of-IsPacket t bytes v p e in subst AreBytes d.payload (AreBytes-payload bytes u h);
  written_bytes = λ bytes v p q h e k.
      let (u, d) = ip_packet_of-IsPacket t bytes v p e in
      rw (written t bytes v u p q d) (AreBytes-append (bytes_of (with_payload_len u (length q)) true) q (AreBytes-header bytes u (length q) h d.reads) k);
  reads_back = λ bytes v p q e fits.
      let (u, d) = ip_packet_of-IsPacket t bytes v p e in ap (ip_packet_of t) (written t bytes v u p q d) ∙ written-read t bytes v u p q d fits;
  no_longer = λ bytes v p q e fits. let (u, d) = ip_packet_of-IsPacket t bytes v p e in rw (written t bytes v u p q d) (written-longer t bytes v u p q d fits);
  normal_read = ReadsNormal-ip t;
}
