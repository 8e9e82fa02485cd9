-- The struct of captured bytes, by that of the whole frame.
use Rattle.std.proofs.Common.{ℕ, ◌≡◌, ◌∙◌, ◌≤◌, ◌<◌, inl, inr, ◌+◌, ◌-◌, ◌==◌, if◌then◌else◌, Bool, true, false, List, [], ◌∷◌, ◌++◌, append-nil, ap, drop, length, refl, slice_range, subst, sym, take, arith}
use Rattle.std.proofs.lemmas.Bool.{cases_lt}
use Rattle.std.proofs.lemmas.Grind.{common_steps}
use Rattle.std.proofs.lemmas.List.{drop-append-le}
use Rattle.ip_wire.specs.Ethernet as ethernet
use Rattle.ip_wire.specs.Field.{field}
use Rattle.ip_wire.specs.Types.{EthernetProtocol, EthernetRepr}
use Rattle.ip_wire.specs.declared.EthernetProtocol.TheVariants as ethertype
use Rattle.c_structs.specs.Nothing.{nothing_of}
use Rattle.c_structs.specs.declared.codes.Reason.TheVariants as reason
use Rattle.c_structs.specs.declared.types.FrameFields.{FrameFields}
use Rattle.c_read.proofs.CapturedOf.{captured_headers-long, captured_headers-short, captured_headers-whole, captured_of-is, captured_packet_headers-long, captured_packet_headers-short, captured_packet_headers-whole, captured_packet_of-is}
use Rattle.c_read.proofs.CutArp.{arp-next, cut-arp}
use Rattle.c_read.proofs.CutBytes.{field-front, longer, lt-false, lt-true, range-front}
use Rattle.c_read.proofs.CutIpv4.{cut-ipv4, dropped, ipv4-next, least-len}
use Rattle.c_read.proofs.CutIpv6.{cut-ipv6, ipv6-next}
use Rattle.c_read.proofs.CutOf.{IsNext, IsStart, cut-as, cut-network, if-has, rejected-next, same-of, start-network}
use Rattle.c_read.proofs.FieldsOf.{fields_of-is, frame_headers-long, frame_headers-short, packet_fields_of-is, packet_headers-some}
use Rattle.c_read.specs.Captured.{CutHeader, IsCutAt, IsCutOf, before, begin_of, captured_headers, captured_of, captured_packet_headers, captured_packet_of, cut_carried, cut_ipv4, cut_ipv6, cut_packet, link, network, options, transport_header}
use Rattle.c_read.specs.FrameFields.{bare_of, fields_of, frame_headers, packet_fields_of, packet_headers, rejected, with_captured, with_carried, with_ipv4, with_ipv6, with_link, with_packet}

-- ---- packets

unsent : (f : FrameFields) → IsStart f → f ≡ before transport_header f
unsent f start = start ∙ sym (ap (before transport_header) start)

pub cut-carried : (n : ℕ) (f : FrameFields) (t : EthernetProtocol) (bytes rest : List ℕ) → IsStart f → f.payload_len ≡ length (bytes ++ rest)
    → n ≡ f.payload_offset + length bytes → IsCutOf n (cut_carried f t bytes) (with_carried f t (bytes ++ rest))
cut-carried n f ethertype.Arp bytes rest start len place = cut-arp n f bytes rest start len place
cut-carried n f ethertype.Ipv4 bytes rest start len place = cut-ipv4 n f bytes rest start (unsent f start) len place
cut-carried n f ethertype.Ipv6 bytes rest start len place = cut-ipv6 n f bytes rest start len place
cut-carried n f (ethertype.Unknown k) bytes rest start len place = same-of f f refl

-- the network header begins after the link-layer header, which it keeps
pub carried-next : (f : FrameFields) (t : EthernetProtocol) (bytes : List ℕ) → IsStart f → IsNext f (with_carried f t bytes) 0
carried-next f ethertype.Arp bytes start = arp-next f bytes 0 start (omega arith) (omega arith)
carried-next f ethertype.Ipv4 bytes start = ipv4-next f bytes 0 start (omega arith) (λ read. omega arith)
carried-next f ethertype.Ipv6 bytes start = ipv6-next f bytes 0 start (omega arith) (omega arith)
carried-next f (ethertype.Unknown k) bytes start =
    let next = rejected-next f reason.Read 0 (start-network f start) (omega arith) in
    record { ethernet = next.ethernet; begins = next.begins; ends = next.ends }

abbrev by-version : FrameFields → ℕ → FrameFields → FrameFields → FrameFields
by-version f version x y = if version == 4 then x else if version == 6 then y else rejected f reason.BadVersion

choice : {n : ℕ} (a c : Bool) (x y z x2 y2 : FrameFields) → IsCutOf n x x2 → IsCutOf n y y2 → IsCutOf n (if a then x else if c then y else z) (if a then x2 else if c then y2 else z)
choice true c x y z x2 y2 p q = p
choice false true x y z x2 y2 p q = q
choice false false x y z x2 y2 p q = same-of z z refl

packet-next : (f : FrameFields) (bytes : List ℕ) → IsStart f → 1 ≤ f.payload_len → IsNext f (with_packet f bytes) 1
packet-next f bytes start some =
    if-has (λ g. IsNext f g 1) (field bytes 0 4 == 4) (with_ipv4 f bytes) _ (ipv4-next f bytes 1 start some (λ read. let least = least-len bytes read in omega (arith, least)))
    (if-has (λ g. IsNext f g 1) (field bytes 0 4 == 6) (with_ipv6 f bytes) (rejected f reason.BadVersion) (ipv6-next f bytes 1 start some (omega arith))
    (rejected-next f reason.BadVersion 1 (start-network f start) some))

packet-cut : (n : ℕ) (f : FrameFields) (bytes rest : List ℕ) → 1 ≤ length bytes → IsStart f → f.payload_len ≡ length (bytes ++ rest) → n ≡ f.payload_offset + length bytes
    → IsCutOf n (cut_packet f bytes) (with_packet f (bytes ++ rest))
packet-cut n f bytes rest h start len place =
    let all = bytes ++ rest in
    let version : field all 0 4 ≡ field bytes 0 4 = field-front bytes rest 0 4 (omega (arith, h)) in
    cut-as _ _ _ _ refl (ap (λ (n : ℕ). by-version f n (with_ipv4 f all) (with_ipv6 f all)) version)
    (choice (field bytes 0 4 == 4) (field bytes 0 4 == 6) (cut_ipv4 f bytes) (cut_ipv6 f bytes) (rejected f reason.BadVersion) (with_ipv4 f all) (with_ipv6 f all)
    (cut-ipv4 n f bytes rest start (unsent f start) len place) (cut-ipv6 n f bytes rest start len place))

-- ---- frames

abbrev value : List ℕ → List ℕ → ℕ → EthernetRepr
value dst src type = record { dst_addr = record { 0 = dst }; src_addr = record { 0 = src }; ethertype = ethernet.protocol_of type }

value-front : (bytes rest : List ℕ) → 14 ≤ length bytes → ethernet.header_of (bytes ++ rest) ≡ ethernet.header_of bytes
value-front bytes rest h =
    let all = bytes ++ rest in
    ap (λ (l : List ℕ). value l (slice_range all 6 12) (field all 96 16)) (range-front bytes rest 0 6 (omega arith) (omega (arith, h)))
    ∙ ap (λ (l : List ℕ). value (slice_range bytes 0 6) l (field all 96 16)) (range-front bytes rest 6 12 (omega arith) (omega (arith, h)))
    ∙ ap (λ (n : ℕ). value (slice_range bytes 0 6) (slice_range bytes 6 12) n) (field-front bytes rest 96 16 (omega (arith, h)))

-- the struct after an Ethernet header, and what it carries
abbrev linked : EthernetRepr → ℕ → ℕ → List ℕ → FrameFields
linked v len payload_len payload = with_carried (with_link (nothing_of len) v payload_len) v.ethertype payload

frame-begins : (frame : List ℕ) → 14 ≤ length frame → begin_of network (frame_headers frame) ≡ 14
frame-begins frame h =
    let v = ethernet.header_of frame in
    ap (begin_of network) (frame_headers-long frame h) ∙ (carried-next (with_link (nothing_of (length frame)) v (length (drop 14 frame))) v.ethertype (drop 14 frame) refl).begins

frame-cut : (bytes rest : List ℕ) → 0 < length rest → IsCutOf (length bytes) (captured_headers bytes (length rest)) (frame_headers (bytes ++ rest))
frame-cut bytes rest missing =
    let all = bytes ++ rest in
    let size = longer bytes rest in
    let len = length bytes + length rest in
    elim (cases_lt (length bytes) 14) [
      | inl few ↦
          let cut = captured_headers-short bytes (length rest) missing few in
          elim (cases_lt len 14) [
            | inl none ↦
                same-of _ _ (cut ∙ ap (λ (b : Bool). rejected (nothing_of len) (if b then reason.TooShort else reason.HeaderCut)) (lt-true len 14 none)
                ∙ sym (frame_headers-short all (omega (arith, size, none)) ∙ ap nothing_of size))
            | inr more ↦
                cut-as _ _ _ _ (cut ∙ ap (λ (b : Bool). rejected (nothing_of len) (if b then reason.TooShort else reason.HeaderCut)) (lt-false len 14 more)) refl
                (inr (inl (
                  link,
                  record {
                    reason = refl;
                    offset = refl;
                    missing = subst (λ (k : ℕ). length bytes < k) (sym (frame-begins all (omega (arith, size, more)))) few;
                    fields = refl;
                  },
                )))
          ]
      | inr h ↦
          let v = ethernet.header_of bytes in
          let payload : drop 14 all ≡ drop 14 bytes ++ rest = drop-append-le 14 bytes rest h in
          let count : length (drop 14 all) ≡ len - 14 = dropped 14 all ∙ ap (λ (n : ℕ). n - 14) size in
          let whole =
          frame_headers-long all (omega (arith, size, h))
          ∙ ap (λ (w : EthernetRepr). linked w (length all) (length (drop 14 all)) (drop 14 all)) (value-front bytes rest h)
          ∙ ap (λ (n : ℕ). linked v n (length (drop 14 all)) (drop 14 all)) size
          ∙ ap (λ (n : ℕ). linked v len n (drop 14 all)) count
          ∙ ap (linked v len (len - 14)) payload
          in
          let front : length (drop 14 bytes) ≡ length bytes - 14 = dropped 14 bytes in
          cut-as _ _ _ _ (captured_headers-long bytes (length rest) missing h) whole
          (cut-carried (length bytes) (with_link (nothing_of len) v (len - 14)) v.ethertype (drop 14 bytes) rest refl (sym count ∙ ap length payload) (omega (arith, front, h)))
    ]

bare-cut : (bytes rest : List ℕ) → 0 < length rest → IsCutOf (length bytes) (captured_packet_headers bytes (length rest)) (packet_headers (bytes ++ rest))
bare-cut bytes rest missing =
    let all = bytes ++ rest in
    let size = longer bytes rest in
    let len = length bytes + length rest in
    elim (cases_lt (length bytes) 1) [
      | inl few ↦
          cut-as _ _ _ _
          (captured_packet_headers-short bytes (length rest) missing few
          ∙ ap (λ (b : Bool). rejected (bare_of len) (if b then reason.TooShort else reason.HeaderCut)) (lt-false len 1 (omega (arith, missing))))
          (packet_headers-some all (omega (arith, size, missing)) ∙ ap (λ (n : ℕ). with_packet (bare_of n) all) size)
          (cut-network (length bytes) (bare_of len) (with_packet (bare_of len) all) 1 refl (packet-next (bare_of len) all refl (omega (arith, missing))) (omega (arith, few)))
      | inr h ↦
          cut-as _ _ _ _ (captured_packet_headers-long bytes (length rest) missing h)
          (packet_headers-some all (omega (arith, size, h)) ∙ ap (λ (n : ℕ). with_packet (bare_of n) all) size)
          (packet-cut (length bytes) (bare_of len) bytes rest h refl (sym size) (omega arith))
    ]

-- ---- with nothing missing too

pub captured-cut : (bytes rest : List ℕ) → IsCutOf (length bytes) (captured_headers bytes (length rest)) (frame_headers (bytes ++ rest))
captured-cut bytes [] = same-of _ _ (captured_headers-whole bytes ∙ ap frame_headers (sym (append-nil bytes)))
captured-cut bytes (x ∷ rest) = frame-cut bytes (x ∷ rest) (omega arith)

pub captured-packet-cut : (bytes rest : List ℕ) → IsCutOf (length bytes) (captured_packet_headers bytes (length rest)) (packet_headers (bytes ++ rest))
captured-packet-cut bytes [] = same-of _ _ (captured_packet_headers-whole bytes ∙ ap packet_headers (sym (append-nil bytes)))
captured-packet-cut bytes (x ∷ rest) = bare-cut bytes (x ∷ rest) (omega arith)

-- the arguments of a call, of which no byte is left out
taken : {A : Type 0} (of : List ℕ → ℕ → A) (bytes rest : List ℕ) (len : ℕ) → length bytes + length rest ≡ len → of (take len bytes) (len - length bytes) ≡ of bytes (length rest)
taken of bytes rest len is =
    let all : take len bytes ≡ bytes = grind (arith, common_steps) in
    let missing : len - length bytes ≡ length rest = omega (arith, is) in
    ap (λ (b : List ℕ). of b (len - length bytes)) all ∙ ap (of bytes) missing

-- equal fields, but for the number of captured bytes of the payload
counted : (i : ℕ) (f : FrameFields) {g : FrameFields} → f ≡ g
    → with_captured i f ≡ record g { payload_captured = (with_captured i f).payload_captured }
counted i f is = ap (λ (h : FrameFields). record h { payload_captured = (with_captured i f).payload_captured }) is

-- that number is not compared
counted-at : (n i j : ℕ) (h : CutHeader) (f g : FrameFields) → IsCutAt n h f g → IsCutAt n h (with_captured i f) (with_captured j g)
counted-at n i j link f g at = record { reason = at.reason; offset = at.offset; missing = at.missing; fields = counted i f at.fields }
counted-at n i j network f g at = record { reason = at.reason; offset = at.offset; missing = at.missing; fields = counted i f at.fields }
counted-at n i j transport_header f g at = record { reason = at.reason; offset = at.offset; missing = at.missing; fields = counted i f at.fields }
counted-at n i j options f g at = record { reason = at.reason; offset = at.offset; missing = at.missing; fields = counted i f at.fields }

pub counted-cut : {n : ℕ} (i j : ℕ) (f g : FrameFields) → IsCutOf n f g → IsCutOf n (with_captured i f) (with_captured j g)
counted-cut i j f g (inl (inl h)) = inl (inl (record { checksum = h.checksum; fields = counted i f h.fields }))
counted-cut i j f g (inl (inr l)) = inl (inr (record { named = l.named; missing = l.missing; fields = counted i f l.fields }))
counted-cut {n} i j f g (inr (inl (h, at))) = inr (inl (h, counted-at n i j h f g at))
counted-cut i j f g (inr (inr (inl w))) =
    inr (inr (inl (record { reason = w.reason; after = w.after; missing = w.missing; order = w.order; fields = counted i f w.fields })))
counted-cut i j f g (inr (inr (inr l))) = inr (inr (inr (record { part = l.part; missing = l.missing; fields = counted i f l.fields })))

pub read-cut : (bytes rest : List ℕ) (len : ℕ) (f : FrameFields) → f ≡ captured_of (take len bytes) (len - length bytes) → length bytes + length rest ≡ len
    → IsCutOf (length bytes) f (fields_of (bytes ++ rest))
read-cut bytes rest len f is sum =
    let all = bytes ++ rest in
    cut-as _ _ _ _ (is ∙ taken captured_of bytes rest len sum ∙ captured_of-is bytes (length rest)) (fields_of-is all)
    (counted-cut (length bytes) (length all) (captured_headers bytes (length rest)) (frame_headers all) (captured-cut bytes rest))

pub read-packet-cut : (bytes rest : List ℕ) (len : ℕ) (f : FrameFields) → f ≡ captured_packet_of (take len bytes) (len - length bytes) → length bytes + length rest ≡ len
    → IsCutOf (length bytes) f (packet_fields_of (bytes ++ rest))
read-packet-cut bytes rest len f is sum =
    let all = bytes ++ rest in
    cut-as _ _ _ _ (is ∙ taken captured_packet_of bytes rest len sum ∙ captured_packet_of-is bytes (length rest)) (packet_fields_of-is all)
    (counted-cut (length bytes) (length all) (captured_packet_headers bytes (length rest)) (packet_headers all) (captured-packet-cut bytes rest))
