-- The bytes of a forwarded frame, and the reason for a rejection.
use Rattle.std.proofs.Common.{ℕ, ◌≡◌, ◌≤◌, ◌<◌, ◌-◌, ◌*◌, ◌++◌, if◌then◌else◌, nat_lt, false, true, List, Result, Ok, Err, Some, None, length, drop, take, slice_range, refl, sym, ap, subst, ◌∙◌, arith}
use Rattle.std.proofs.lemmas.Bool.{le-ltb, lt-ltb}
use Rattle.std.specs.Result.{result_ok}
use Rattle.app_router.specs.Forward.{CarriesAs, IsForwarded, fault_of, one_hop_less, packet_fault, with_hop_limit}
use Rattle.ip_wire.specs.Ethernet as ethernet
use Rattle.ip_wire.specs.Ethernet.{ethernet_of}
use Rattle.ip_wire.specs.Field.{field, with_field, with_range}
use Rattle.ip_wire.specs.Frame.{type_of}
use Rattle.ip_wire.specs.Ip.{ReadsHeader, hop_limit_of}
use Rattle.ip_wire.specs.Ipv4 as ipv4
use Rattle.ip_wire.specs.Ipv4.{with_updated_checksum}
use Rattle.ip_wire.specs.Types.{Error, EthernetAddress, EthernetProtocol, EthernetRepr, IpRepr, Ipv4, Ipv4Repr, Ipv6}
use Rattle.ip_wire.specs.declared.HeaderFault.TheVariants.{NotIp, Expired}
use Rattle.ip_wire.proofs.Cells.{cells-all, cells-drop}
use Rattle.ip_wire.proofs.HeaderFaults.{reads-no_fault}
use Rattle.ip_wire.proofs.Ipv4Changed.{reads-hop_limit, reads-summed}
use Rattle.ip_wire.proofs.Ipv4Updated.{valid-hop_limit}
use Rattle.ip_wire.proofs.Ipv6Computed.{ipv6_of-Reads}
use Rattle.ip_wire.proofs.Spelled.{AreBytes}
use Rattle.ip_wire.specs.WordSum.{residue, updated}

hop-less : (h : IpRepr) → hop_limit_of (one_hop_less h) ≡ hop_limit_of h - 1
hop-less (Ipv4 v) = refl
hop-less (Ipv6 v) = refl

type-less : (h : IpRepr) → type_of (one_hop_less h) ≡ type_of h
type-less (Ipv4 v) = refl
type-less (Ipv6 v) = refl

-- the header of a frame after both addresses are written
readdressed : (frame s d : List ℕ) → 14 ≤ length frame → length s ≡ 6 → length d ≡ 6
    → with_range (with_range (take 14 frame) 6 12 s) 0 6 d ≡ d ++ s ++ slice_range frame 12 14
readdressed frame s d h e f = rw (cells-drop 14 frame h, cells-all 6 s e, cells-all 6 d f) refl

new-length : (frame s d packet : List ℕ) → 14 ≤ length frame → length s ≡ 6 → length d ≡ 6 → 14 ≤ length ((d ++ s ++ slice_range frame 12 14) ++ packet)
new-length frame s d packet h e f = rw (cells-drop 14 frame h, cells-all 6 s e, cells-all 6 d f) (omega arith)

new-dst : (frame s d packet : List ℕ) → length d ≡ 6 → d ≡ slice_range ((d ++ s ++ slice_range frame 12 14) ++ packet) 0 6
new-dst frame s d packet f = rw (cells-all 6 d f) refl

new-src : (frame s d packet : List ℕ) → length s ≡ 6 → length d ≡ 6 → s ≡ slice_range ((d ++ s ++ slice_range frame 12 14) ++ packet) 6 12
new-src frame s d packet e f = rw (cells-all 6 s e, cells-all 6 d f) refl

new-type : (frame s d packet : List ℕ) → 14 ≤ length frame → length s ≡ 6 → length d ≡ 6
    → field ((d ++ s ++ slice_range frame 12 14) ++ packet) 96 16 ≡ field frame 96 16
new-type frame s d packet h e f = rw (cells-drop 14 frame h, cells-all 6 s e, cells-all 6 d f) refl

new-packet : (frame s d packet : List ℕ) → 14 ≤ length frame → length s ≡ 6 → length d ≡ 6
    → drop 14 ((d ++ s ++ slice_range frame 12 14) ++ packet) ≡ packet
new-packet frame s d packet h e f = rw (cells-drop 14 frame h, cells-all 6 s e, cells-all 6 d f) refl

new-bytes : (frame s d packet : List ℕ) → length s ≡ 6 → length d ≡ 6
    → (d ++ s ++ slice_range frame 12 14) ++ packet ≡ d ++ s ++ slice_range frame 12 14 ++ packet
new-bytes frame s d packet e f = rw (cells-all 6 s e, cells-all 6 d f) refl

placed : (frame packet : List ℕ) (src dst : EthernetAddress) (link : EthernetRepr) (header : IpRepr) → length src.0 ≡ 6 → length dst.0 ≡ 6
    → ethernet.Reads frame link → CarriesAs link.ethertype (drop 14 frame) true header → 1 < hop_limit_of header
    → packet ≡ with_hop_limit header (drop 14 frame) (hop_limit_of header - 1) → ReadsHeader packet true (one_hop_less header)
    → IsForwarded frame ((dst.0 ++ src.0 ++ slice_range frame 12 14) ++ packet) src dst (one_hop_less header)
placed frame packet src dst link header e f r c alive p reads = record {
  before = header;
  from = link;
  carried = record { reads_link = r; packet = c };
  alive = alive;
  hop = refl;
  carries = record {
    reads_link = record {
      whole = new-length frame src.0 dst.0 packet r.whole e f;
      dst_addr = new-dst frame src.0 dst.0 packet f;
      src_addr = new-src frame src.0 dst.0 packet e f;
      ethertype = type-less header ∙ sym c.names ∙ r.ethertype ∙ ap ethernet.protocol_of (sym (new-type frame src.0 dst.0 packet r.whole e f));
    };
    packet = record {
      names = refl;
      reads = subst (λ l. ReadsHeader l true (one_hop_less header)) (sym (new-packet frame src.0 dst.0 packet r.whole e f)) reads;
    };
  };
  bytes = new-bytes frame src.0 dst.0 packet e f
      ∙ ap (λ (l : List ℕ). dst.0 ++ src.0 ++ slice_range frame 12 14 ++ l) (p ∙ ap (with_hop_limit header (drop 14 frame)) (sym (hop-less header)));
}

-- the bytes of a forwarded frame are a new Ethernet header and the packet with one hop less
pub forwarded : (frame new front packet : List ℕ) (src dst : EthernetAddress) (link : EthernetRepr) (header h : IpRepr) → length src.0 ≡ 6 → length dst.0 ≡ 6
    → ethernet.Reads frame link → CarriesAs link.ethertype (drop 14 frame) true header → 1 < hop_limit_of header
    → front ≡ with_range (with_range (take 14 frame) 6 12 src.0) 0 6 dst.0
    → packet ≡ with_hop_limit header (drop 14 frame) (hop_limit_of header - 1) → ReadsHeader packet true (one_hop_less header)
    → new ≡ front ++ packet → h ≡ one_hop_less header → IsForwarded frame new src dst h
forwarded frame new front packet src dst link header h e f r c alive g p reads is hop =
    let at : new ≡ (dst.0 ++ src.0 ++ slice_range frame 12 14) ++ packet = is ∙ ap (λ (l : List ℕ). l ++ packet) (g ∙ readdressed frame src.0 dst.0 r.whole e f) in
    subst (IsForwarded frame new src dst) (sym hop) (subst (λ l. IsForwarded frame l src dst (one_hop_less header)) (sym at) (placed frame packet src dst link header e f r c alive p reads))

-- ---- faults

-- a frame without an Ethernet header is no IP frame
pub unread : (frame : List ℕ) (answer : Result EthernetRepr Error) (error : Error) → ethernet_of frame ≡ result_ok answer → answer ≡ Err error
    → fault_of frame ≡ Some NotIp
unread frame answer error found is = rw (found, is) refl

-- any other has the fault of its packet
pub by-type : (frame : List ℕ) (answer : Result EthernetRepr Error) (link : EthernetRepr) → ethernet_of frame ≡ result_ok answer → answer ≡ Ok link
    → fault_of frame ≡ packet_fault link.ethertype (drop 14 frame)
by-type frame answer link found is = rw (found, is) refl

-- a packet with a valid header has one fault at most: its hop limit
by-hop : (type : EthernetProtocol) (bytes : List ℕ) (h : IpRepr) → CarriesAs type bytes true h
    → packet_fault type bytes ≡ (if nat_lt 1 (hop_limit_of h) then None else Some Expired)
by-hop type bytes (Ipv4 v) c =
    subst (λ t. packet_fault t bytes ≡ (if nat_lt 1 v.hop_limit then None else Some Expired)) (sym c.names)
    (rw (reads-no_fault bytes v c.reads, c.reads.hop_limit) refl)
by-hop type bytes (Ipv6 v) c =
    subst (λ t. packet_fault t bytes ≡ (if nat_lt 1 v.hop_limit then None else Some Expired)) (sym c.names)
    (rw ((ipv6_of-Reads bytes v).1 c.reads, c.reads.hop_limit) refl)

pub expired : (type : EthernetProtocol) (bytes : List ℕ) (h : IpRepr) → CarriesAs type bytes true h → hop_limit_of h ≤ 1 → packet_fault type bytes ≡ Some Expired
expired type bytes h c last = by-hop type bytes h c ∙ ap (λ b. if b then None else Some Expired) (le-ltb 1 (hop_limit_of h) last)

pub no-fault : (type : EthernetProtocol) (bytes : List ℕ) (h : IpRepr) → CarriesAs type bytes true h → 1 < hop_limit_of h → packet_fault type bytes ≡ None
no-fault type bytes h c alive = by-hop type bytes h c ∙ ap (λ b. if b then None else Some Expired) (lt-ltb 1 (hop_limit_of h) alive)

-- ---- the packet

-- the hop limit is the high byte of its word: with one hop less, the word is less by 256
hop-sum : (old : List ℕ) (h : ℕ) → h ≡ field old 64 8 → 1 < h → h < 256
    → with_updated_checksum (with_field old 64 8 (h - 1)) 256 0 ≡ with_updated_checksum (with_field old 64 8 (h - 1)) (256 * field old 64 8) (256 * (h - 1))
hop-sum old h at alive fits =
    let changed = with_field old 64 8 (h - 1) in
    let c = field changed 80 16 in
    let same : updated c 256 0 ≡ updated c (256 * h) (256 * (h - 1)) = ap (λ (t : ℕ). 65535 - residue t) (omega (arith, alive, fits)) in
    ap (λ (n : ℕ). with_field changed 80 16 n) (same ∙ ap (λ (k : ℕ). updated c (256 * k) (256 * (h - 1))) at)

-- an IPv4 packet with one hop less, whose checksum is updated for it
pub record IsHop (old new : List ℕ) (header : IpRepr) : Type 0 where
  pub reads : ReadsHeader new true (one_hop_less header)
  pub bytes : new ≡ with_hop_limit header old (hop_limit_of header - 1)

pub hop-ipv4 : (old new : List ℕ) (header : IpRepr) (v : Ipv4Repr) → AreBytes old → header ≡ Ipv4 v → ReadsHeader old true header → 1 < hop_limit_of header
    → hop_limit_of header < 256 → new ≡ with_updated_checksum (with_field old 64 8 (hop_limit_of header - 1)) 256 0 → IsHop old new header
hop-ipv4 old new (Ipv4 w) v are is r alive fits at =
    let n = w.hop_limit - 1 in
    let small : n < 256 = omega (arith, fits) in
    let done : new ≡ with_updated_checksum (with_field old 64 8 n) (256 * field old 64 8) (256 * n) = at ∙ hop-sum old w.hop_limit r.hop_limit alive fits in
    record {
      reads = reads-summed (with_field old 64 8 n) new _ false true (record w { hop_limit = n }) done (reads-hop_limit old n true false w small r (λ no. cc))
          (λ on. subst ipv4.HasChecksum (sym done) (valid-hop_limit old n are small r.lengths.header (omega (arith, r.lengths.within, r.lengths.whole)) (r.checksum on)));
      bytes = done;
    }
hop-ipv4 old new (Ipv6 w) v are is r alive fits at = absurd (cc)
