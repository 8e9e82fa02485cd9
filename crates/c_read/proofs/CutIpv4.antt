-- The struct of an IPv4 packet that was not captured as a whole.
use Rattle.std.proofs.Common.{ℕ, ◌≡◌, ◌∙◌, ◌≤◌, ◌<◌, ◌⊎◌, inl, inr, ◌+◌, ◌-◌, ◌*◌, ◌==◌, ◌&&◌, nat_le, nat_lt, if◌then◌else◌, Bool, true, false, true≢false, List, ◌++◌, Option, Some, None, ap, drop, length, refl, slice_range, subst, sym, take, arith}
use Rattle.std.proofs.lemmas.Bool.{cases_lt}
use Rattle.std.proofs.lemmas.Grind.{common_steps}
use Rattle.std.proofs.lemmas.List.{take-append-le}
use Rattle.std.specs.Option.{option_map_or}
use Rattle.ip_wire.proofs.Layers.{length-part}
use Rattle.ip_wire.specs.Field.{field}
use Rattle.ip_wire.specs.Frame.{ipv4_payload}
use Rattle.ip_wire.specs.Ip.{dst_addr_of, src_addr_of}
use Rattle.ip_wire.specs.Ipv4 as ipv4
use Rattle.ip_wire.specs.Ipv4.{ipv4_of}
use Rattle.ip_wire.specs.Types.{IpAddress, IpProtocol, Ipv4, Ipv4Repr}
use Rattle.ip_wire.specs.declared.IpProtocol.TheVariants as protocol
use Rattle.c_structs.specs.Written.{flag}
use Rattle.c_structs.specs.declared.codes.Reason.TheVariants as reason
use Rattle.c_structs.specs.declared.types.FrameFields.{FrameFields}
use Rattle.c_read.proofs.CutBytes.{field-front, le-false, le-true, longer, lt-false, lt-true, range-following, range-front}
use Rattle.c_read.proofs.CutMessage.{cut-message}
use Rattle.c_read.proofs.CutPorts.{cut-part}
use Rattle.c_read.proofs.CutOf.{Follows, IsNext, IsStart, cut-as, cut-network, if-has, nothing-follows, rejected-next, same-of, start-network, start-rejected, start-transport, stored-next, transport-follows}
use Rattle.c_read.proofs.CutTcp.{cut-tcp}
use Rattle.c_read.proofs.CutUdp.{cut-udp}
use Rattle.c_read.specs.Captured.{IsCutOf, before, begun_ipv4, cut_header, cut_ipv4, cut_payload, cut_transport_by, is_no_ipv4, transport_header}
use Rattle.c_read.specs.FrameFields.{ipv4_fault, ipv4_values, rejected, with_ipv4, with_ipv4_fields, with_ipv4_header, with_part, with_payload, with_transport_by}

-- ---- what a packet carries

pub cut-by : (n : ℕ) (f : FrameFields) (p : IpProtocol) (src dst : IpAddress) (bytes rest : List ℕ) → f ≡ before transport_header f → f.payload_len ≡ length (bytes ++ rest)
    → n ≡ f.payload_offset + length bytes → length bytes < f.payload_len → IsCutOf n (cut_transport_by f p src dst bytes) (with_transport_by f p src dst (bytes ++ rest))
cut-by n f protocol.Udp src dst bytes rest fresh len place missing = cut-udp n f src dst bytes rest fresh len place
cut-by n f protocol.Tcp src dst bytes rest fresh len place missing = cut-tcp n f src dst bytes rest fresh len place missing
cut-by n f p src dst bytes rest fresh len place missing = cut-message n f p src dst bytes rest fresh len place missing

pub dropped : (n : ℕ) (xs : List ℕ) → length (drop n xs) ≡ length xs - n
dropped n xs = grind (arith, common_steps)

-- ---- whether the bytes are a header

-- the tests of a header, by its numbers
abbrev tested : ℕ → ℕ → ℕ → ℕ → Bool
tested header_len total_len version len = (nat_le 20 len && nat_le 20 header_len && nat_le header_len total_len && nat_le total_len len) && version == 4 && true

record IsSound (header_len total_len number len : ℕ) : Type 0 where
  least : 20 ≤ header_len
  within : header_len ≤ total_len
  whole : total_len ≤ len
  version : (number == 4) ≡ true

sound : (header_len total_len version len : ℕ) → 20 ≤ len → IsSound header_len total_len version len → tested header_len total_len version len ≡ true
sound header_len total_len version len h s = rw (le-true 20 len h, le-true 20 header_len s.least, le-true header_len total_len s.within, le-true total_len len s.whole, s.version) refl

pub bool : (b : Bool) → (b ≡ true) ⊎ (b ≡ false)
bool true = inl refl
bool false = inr refl

decide : (header_len total_len version len : ℕ) → 20 ≤ len → (tested header_len total_len version len ≡ false) ⊎ IsSound header_len total_len version len
decide header_len total_len version len h = elim (cases_lt header_len 20) [
  | inl few ↦ inl (rw (le-true 20 len h, le-false 20 header_len few) refl)
  | inr least ↦ elim (cases_lt total_len header_len) [
    | inl few ↦ inl (rw (le-true 20 len h, le-true 20 header_len least, le-false header_len total_len few) refl)
    | inr within ↦ elim (cases_lt len total_len) [
      | inl few ↦ inl (rw (le-true 20 len h, le-true 20 header_len least, le-true header_len total_len within, le-false total_len len few) refl)
      | inr whole ↦ elim (bool (version == 4)) [
        | inl is ↦ inr (record { least = least; within = within; whole = whole; version = is })
        | inr never ↦ inl (rw (le-true 20 len h, le-true 20 header_len least, le-true header_len total_len within, le-true total_len len whole, never) refl)
      ]
    ]
  ]
]

-- ---- the struct of a packet

-- the struct of a packet, by its header and its payload
abbrev carrying : FrameFields → Bool → Ipv4Repr → List ℕ → FrameFields
carrying next fragment v payload = if fragment then with_part next payload else with_payload next (Ipv4 v) payload

absent : (bytes : List ℕ) → ipv4.is_read false bytes ≡ false → ipv4_of false bytes ≡ None
unfolding ipv4_of
absent bytes e = rw e refl

present : (bytes : List ℕ) → ipv4.is_read false bytes ≡ true → ipv4_of false bytes ≡ Some (ipv4.header_of bytes)
unfolding ipv4_of
present bytes e = rw e refl

none : (f : FrameFields) (bytes : List ℕ) → ipv4.is_read false bytes ≡ false → with_ipv4 f bytes ≡ rejected f (ipv4_fault bytes)
none f bytes e =
    ap (λ (o : Option Ipv4Repr). option_map_or (λ v. carrying (with_ipv4_header f bytes v) (ipv4.is_fragment bytes) v (ipv4_payload bytes)) o (rejected f (ipv4_fault bytes))) (absent bytes e)

some : (f : FrameFields) (bytes : List ℕ) → ipv4.is_read false bytes ≡ true
    → with_ipv4 f bytes ≡ carrying (with_ipv4_fields f bytes (ipv4.header_of bytes) (length (ipv4_payload bytes))) (ipv4.is_fragment bytes) (ipv4.header_of bytes) (ipv4_payload bytes)
some f bytes e =
    ap (λ (o : Option Ipv4Repr). option_map_or (λ v. carrying (with_ipv4_header f bytes v) (ipv4.is_fragment bytes) v (ipv4_payload bytes)) o (rejected f (ipv4_fault bytes))) (present bytes e)

-- ---- where its header begins and ends

pub least-len : (bytes : List ℕ) → ipv4.is_read false bytes ≡ true → 20 ≤ ipv4.header_len bytes
least-len bytes e = elim (cases_lt (length bytes) 20) [
  | inl few ↦
      let never : ipv4.is_read false bytes ≡ false = rw (le-false 20 (length bytes) few) refl in
      absurd (true≢false (sym e ∙ never))
  | inr h ↦ elim (decide (ipv4.header_len bytes) (ipv4.total_len bytes) (field bytes 0 4) (length bytes) h) [
    | inl off ↦ absurd (true≢false (sym e ∙ off))
    | inr s ↦ s.least
  ]
]

-- the header of a packet has so many bytes or more, or is rejected
pub ipv4-next : (f : FrameFields) (bytes : List ℕ) (len : ℕ) → IsStart f → len ≤ f.payload_len → (ipv4.is_read false bytes ≡ true → len ≤ ipv4.header_len bytes)
    → IsNext f (with_ipv4 f bytes) len
ipv4-next f bytes len start fits least = elim (bool (ipv4.is_read false bytes)) [
  | inr never ↦ subst (λ g. IsNext f g len) (sym (none f bytes never)) (rejected-next f (ipv4_fault bytes) len (start-network f start) fits)
  | inl read ↦
      let v = ipv4.header_of bytes in
      let payload = ipv4_payload bytes in
      let next = with_ipv4_fields f bytes v (length payload) in
      let transport : next.transport ≡ 0 = start-transport f start in
      let rejected : next.rejected ≡ 0 = start-rejected f start in
      let follows : Follows next (carrying next (ipv4.is_fragment bytes) v payload) =
      if-has (Follows next) (ipv4.is_fragment bytes) (with_part next payload) (with_payload next (Ipv4 v) payload)
      (record { ethernet = refl; network = refl; offset = refl; begins = (nothing-follows next reason.TooShort transport rejected).0.begins })
      (transport-follows next v.next_header (src_addr_of (Ipv4 v)) (dst_addr_of (Ipv4 v)) payload transport rejected)
      in
      subst (λ g. IsNext f g len) (sym (some f bytes read)) (stored-next f next (carrying next (ipv4.is_fragment bytes) v payload) len (ipv4.header_len bytes) follows refl refl refl refl (least read))
]

-- ---- the header with more bytes after it

len-front : (bytes rest : List ℕ) → 20 ≤ length bytes → ipv4.header_len (bytes ++ rest) ≡ ipv4.header_len bytes
len-front bytes rest h = ap (λ (n : ℕ). 4 * n) (field-front bytes rest 4 4 (omega (arith, h)))

total-front : (bytes rest : List ℕ) → 20 ≤ length bytes → ipv4.total_len (bytes ++ rest) ≡ ipv4.total_len bytes
total-front bytes rest h = field-front bytes rest 16 16 (omega (arith, h))

version-front : (bytes rest : List ℕ) → 20 ≤ length bytes → field (bytes ++ rest) 0 4 ≡ field bytes 0 4
version-front bytes rest h = field-front bytes rest 0 4 (omega (arith, h))

read-front : (bytes rest : List ℕ) → 20 ≤ length bytes
    → ipv4.is_read false (bytes ++ rest) ≡ tested (ipv4.header_len bytes) (ipv4.total_len bytes) (field bytes 0 4) (length (bytes ++ rest))
read-front bytes rest h = rw (field-front bytes rest 4 4 (omega (arith, h)), total-front bytes rest h, version-front bytes rest h) refl

value-front : (bytes rest : List ℕ) → 20 ≤ length bytes → ipv4.header_of (bytes ++ rest) ≡ ipv4.header_of bytes
value-front bytes rest h =
    rw (
      field-front bytes rest 72 8 (omega (arith, h)),
      total-front bytes rest h,
      field-front bytes rest 4 4 (omega (arith, h)),
      field-front bytes rest 64 8 (omega (arith, h)),
      range-front bytes rest 12 16 (omega arith) (omega (arith, h)),
      range-front bytes rest 16 20 (omega arith) (omega (arith, h)),
    ) refl

values-front : (v : Ipv4Repr) (bytes rest : List ℕ) → 20 ≤ length bytes → ipv4_values (bytes ++ rest) v ≡ ipv4_values bytes v
values-front v bytes rest h =
    rw (
      field-front bytes rest 32 16 (omega (arith, h)),
      field-front bytes rest 51 13 (omega (arith, h)),
      field-front bytes rest 72 8 (omega (arith, h)),
      field-front bytes rest 8 6 (omega (arith, h)),
      field-front bytes rest 14 2 (omega (arith, h)),
      field-front bytes rest 50 1 (omega (arith, h)),
      field-front bytes rest 49 1 (omega (arith, h)),
    ) refl

fragment-front : (bytes rest : List ℕ) → 20 ≤ length bytes → ipv4.is_fragment (bytes ++ rest) ≡ ipv4.is_fragment bytes
fragment-front bytes rest h = rw (field-front bytes rest 50 1 (omega (arith, h)), field-front bytes rest 51 13 (omega (arith, h))) refl

fields-front : (f : FrameFields) (bytes rest : List ℕ) (v : Ipv4Repr) (n : ℕ) → 20 ≤ length bytes → ipv4.header_len bytes ≤ length bytes
    → with_ipv4_fields f (bytes ++ rest) v n ≡ with_ipv4_fields f bytes v n
fields-front f bytes rest v n h captured =
    rw (field-front bytes rest 4 4 (omega (arith, h)), take-append-le (ipv4.header_len bytes) bytes rest captured, values-front v bytes rest h, fragment-front bytes rest h, field-front bytes rest 72 8 (omega (arith, h))) refl

-- the whole packet, by the captured header and the payload
some-front : (f : FrameFields) (bytes rest payload : List ℕ) → 20 ≤ length bytes → ipv4.header_len bytes ≤ length bytes
    → IsSound (ipv4.header_len bytes) (ipv4.total_len bytes) (field bytes 0 4) (length (bytes ++ rest)) → slice_range (bytes ++ rest) (ipv4.header_len bytes) (ipv4.total_len bytes) ≡ payload
    → with_ipv4 f (bytes ++ rest) ≡ carrying (with_ipv4_fields f bytes (ipv4.header_of bytes) (length payload)) (ipv4.is_fragment bytes) (ipv4.header_of bytes) payload
some-front f bytes rest payload h captured s is =
    let all = bytes ++ rest in
    let size = longer bytes rest in
    let read : ipv4.is_read false all ≡ true = read-front bytes rest h ∙ sound _ _ _ _ (omega (arith, size, h)) s in
    let part : ipv4_payload all ≡ payload =
    ap (λ (n : ℕ). slice_range all n (ipv4.total_len all)) (len-front bytes rest h) ∙ ap (λ (n : ℕ). slice_range all (ipv4.header_len bytes) n) (total-front bytes rest h) ∙ is
    in
    some f all read
    ∙ ap (λ (l : List ℕ). carrying (with_ipv4_fields f all (ipv4.header_of all) (length l)) (ipv4.is_fragment all) (ipv4.header_of all) l) part
    ∙ ap (λ (v : Ipv4Repr). carrying (with_ipv4_fields f all v (length payload)) (ipv4.is_fragment all) v payload) (value-front bytes rest h)
    ∙ ap (λ (b : Bool). carrying (with_ipv4_fields f all (ipv4.header_of bytes) (length payload)) b (ipv4.header_of bytes) payload) (fragment-front bytes rest h)
    ∙ ap (λ (g : FrameFields). carrying g (ipv4.is_fragment bytes) (ipv4.header_of bytes) payload) (fields-front f bytes rest (ipv4.header_of bytes) (length payload) h captured)

fault-front : (bytes rest : List ℕ) → 20 ≤ length bytes → ipv4_fault (bytes ++ rest) ≡ ipv4_fault bytes
fault-front bytes rest h =
    let size = longer bytes rest in
    rw (lt-false (length (bytes ++ rest)) 20 (omega (arith, size, h)), lt-false (length bytes) 20 h, version-front bytes rest h) refl

none-front : (f : FrameFields) (bytes rest : List ℕ) → 20 ≤ length bytes → tested (ipv4.header_len bytes) (ipv4.total_len bytes) (field bytes 0 4) (length (bytes ++ rest)) ≡ false
    → with_ipv4 f (bytes ++ rest) ≡ rejected f (ipv4_fault bytes)
none-front f bytes rest h e = none f (bytes ++ rest) (read-front bytes rest h ∙ e) ∙ ap (rejected f) (fault-front bytes rest h)

-- ---- the cases

-- the packet was captured as a whole
captured-front : (f : FrameFields) (bytes rest : List ℕ) → 20 ≤ length bytes → ipv4.total_len bytes ≤ length bytes → with_ipv4 f bytes ≡ with_ipv4 f (bytes ++ rest)
captured-front f bytes rest h whole =
    let all = bytes ++ rest in
    let size = longer bytes rest in
    let hl = ipv4.header_len bytes in
    let tl = ipv4.total_len bytes in
    let same : tested hl tl (field bytes 0 4) (length all) ≡ tested hl tl (field bytes 0 4) (length bytes) =
    rw (le-true 20 (length all) (omega (arith, size, h)), le-true 20 (length bytes) h, le-true tl (length all) (omega (arith, size, whole)), le-true tl (length bytes) whole) refl
    in
    elim (decide hl tl (field bytes 0 4) (length bytes) h) [
      | inl never ↦ none f bytes never ∙ sym (none-front f bytes rest h (same ∙ never))
      | inr s ↦
          let within = s.within in
          some f bytes (sound _ _ _ _ h s)
          ∙ sym (some-front f bytes rest (ipv4_payload bytes) h (omega (arith, within, whole)) (record { least = s.least; within = s.within; whole = omega (arith, size, whole); version = s.version })
          (range-front bytes rest hl tl within whole))
    ]

-- the fixed part of the header was not captured
short-cut : (n : ℕ) (f : FrameFields) (bytes rest : List ℕ) → IsStart f → f.payload_len ≡ length (bytes ++ rest) → n < f.payload_offset + 20
    → IsCutOf n (cut_header f 20) (with_ipv4 f (bytes ++ rest))
short-cut n f bytes rest start len part =
    let all = bytes ++ rest in
    elim (cases_lt (length all) 20) [
      | inl few ↦
          let never : ipv4.is_read false all ≡ false = rw (le-false 20 (length all) few) refl in
          same-of _ _ (rw (lt-true f.payload_len 20 (omega (arith, few, len)), none f all never, lt-true (length all) 20 few) refl)
      | inr more ↦
          cut-as _ _ _ _ (ap (λ (b : Bool). rejected f (if b then reason.TooShort else reason.HeaderCut)) (lt-false f.payload_len 20 (omega (arith, more, len)))) refl
          (cut-network n f (with_ipv4 f all) 20 start (ipv4-next f all 20 start (omega (arith, more, len)) (least-len all)) part)
    ]

-- the header was captured
begun : (n : ℕ) (f : FrameFields) (bytes rest : List ℕ) → f ≡ before transport_header f → 20 ≤ length bytes → ipv4.header_len bytes ≤ length bytes → length bytes < ipv4.total_len bytes
    → IsSound (ipv4.header_len bytes) (ipv4.total_len bytes) (field bytes 0 4) (length (bytes ++ rest)) → n ≡ f.payload_offset + length bytes
    → IsCutOf n (begun_ipv4 f bytes) (with_ipv4 f (bytes ++ rest))
begun n f bytes rest fresh h captured cut s place =
    let all = bytes ++ rest in
    let size = longer bytes rest in
    let hl = ipv4.header_len bytes in
    let tl = ipv4.total_len bytes in
    let v = ipv4.header_of bytes in
    let front = drop hl bytes in
    let back = take (tl - length bytes) rest in
    let whole = s.whole in
    let payload = range-following bytes rest hl tl captured (omega (arith, cut)) in
    let count : length (front ++ back) ≡ tl - hl = ap length (sym payload) ∙ length-part all hl tl whole in
    let next = with_ipv4_fields f bytes v (tl - hl) in
    let found = some-front f bytes rest (front ++ back) h captured s payload ∙ ap (λ (n : ℕ). carrying (with_ipv4_fields f bytes v n) (ipv4.is_fragment bytes) v (front ++ back)) count in
    let clean : next ≡ before transport_header next = ap (λ (g : FrameFields). with_ipv4_fields g bytes v (tl - hl)) fresh in
    let many : length front ≡ length bytes - hl = dropped hl bytes in
    cut-as _ _ _ _ refl found (by (ipv4.is_fragment bytes) next front back v clean (λ part. ap flag part) refl (sym count) (omega (arith, place, many, captured)) (omega (arith, many, captured, cut)))
  where
    by : (b : Bool) (next : FrameFields) (front back : List ℕ) (v : Ipv4Repr) → next ≡ before transport_header next → (b ≡ true → next.is_fragment ≡ 1) → next.network ≡ 2
        → next.payload_len ≡ length (front ++ back) → n ≡ next.payload_offset + length front → length front < next.payload_len
        → IsCutOf n (if b then with_part next front else cut_payload next (Ipv4 v) front) (carrying next b v (front ++ back))
    by true next front back v clean part network len place missing = cut-part n next front back clean (part refl) network place
    by false next front back v clean part network len place missing = cut-by n next v.next_header (src_addr_of (Ipv4 v)) (dst_addr_of (Ipv4 v)) front back clean len place missing

-- the tests of the cut reader
no-header : (f : FrameFields) (bytes : List ℕ) → 20 ≤ length bytes → length bytes < ipv4.total_len bytes
    → ((tested (ipv4.header_len bytes) (ipv4.total_len bytes) (field bytes 0 4) f.payload_len ≡ false) × (is_no_ipv4 f bytes ≡ true))
    ⊎ (IsSound (ipv4.header_len bytes) (ipv4.total_len bytes) (field bytes 0 4) f.payload_len × (is_no_ipv4 f bytes ≡ false))
no-header f bytes h cut =
    let hl = ipv4.header_len bytes in
    let tl = ipv4.total_len bytes in
    let len = f.payload_len in
    elim (bool (field bytes 0 4 == 4)) [
      | inr never ↦ elim (cases_lt len 20) [
        | inl few ↦ inl (rw (le-false 20 len few) refl, rw never refl)
        | inr long ↦ elim (decide hl tl (field bytes 0 4) len long) [
          | inl off ↦ inl (off, rw never refl)
          | inr s ↦ absurd (let is = s.version in not-both (field bytes 0 4 == 4) is never)
        ]
      ]
      | inl is ↦ elim (cases_lt hl 20) [
        | inl few ↦ inl (failed hl tl len (inl few), rw (is, lt-true hl 20 few) refl)
        | inr least ↦ elim (cases_lt tl hl) [
          | inl few ↦ inl (failed hl tl len (inr (inl few)), rw (is, lt-false hl 20 least, lt-true tl hl few) refl)
          | inr within ↦ elim (cases_lt len tl) [
            | inl few ↦ inl (failed hl tl len (inr (inr few)), rw (is, lt-false hl 20 least, lt-false tl hl within, lt-true len tl few) refl)
            | inr whole ↦ inr (record { least = least; within = within; whole = whole; version = is }, rw (is, lt-false hl 20 least, lt-false tl hl within, lt-false len tl whole) refl)
          ]
        ]
      ]
    ]
  where
    not-both : (b : Bool) → b ≡ true → b ≡ false → ⊥
    not-both true a c = absurd (cc)
    not-both false a c = absurd (cc)

    failed : (hl tl len : ℕ) → (hl < 20) ⊎ ((tl < hl) ⊎ (len < tl)) → tested hl tl (field bytes 0 4) len ≡ false
    failed hl tl len why = elim (cases_lt len 20) [
      | inl few ↦ rw (le-false 20 len few) refl
      | inr long ↦ elim (decide hl tl (field bytes 0 4) len long) [
        | inl off ↦ off
        | inr s ↦
            let least = s.least in
            let within = s.within in
            let whole = s.whole in
            elim why [
              | inl a ↦ absurd (omega (arith, a, least))
              | inr b ↦ elim b [ inl a ↦ absurd (omega (arith, a, within)) | inr a ↦ absurd (omega (arith, a, whole)) ]
            ]
      ]
    ]

-- what the cut reader stores, by its tests
abbrev stored : FrameFields → List ℕ → Bool → Bool → Bool → Bool → FrameFields
stored f bytes short whole never cut =
    if short then cut_header f 20
    else if whole then with_ipv4 f bytes
    else if never then rejected f (ipv4_fault bytes)
    else if cut then rejected f reason.HeaderCut
    else begun_ipv4 f bytes

by-tests : (f : FrameFields) (bytes : List ℕ) (short whole never cut : Bool) → nat_lt (length bytes) 20 ≡ short → nat_le (ipv4.total_len bytes) (length bytes) ≡ whole → is_no_ipv4 f bytes ≡ never
    → nat_lt (length bytes) (ipv4.header_len bytes) ≡ cut → cut_ipv4 f bytes ≡ stored f bytes short whole never cut
by-tests f bytes short whole never cut a b c d = rw (a, b, c, d) refl

pub cut-ipv4 : (n : ℕ) (f : FrameFields) (bytes rest : List ℕ) → IsStart f → f ≡ before transport_header f → f.payload_len ≡ length (bytes ++ rest)
    → n ≡ f.payload_offset + length bytes → IsCutOf n (cut_ipv4 f bytes) (with_ipv4 f (bytes ++ rest))
cut-ipv4 n f bytes rest start fresh len place =
    let all = bytes ++ rest in
    let tl = ipv4.total_len bytes in
    let hl = ipv4.header_len bytes in
    elim (cases_lt (length bytes) 20) [
      | inl few ↦ cut-as _ _ _ _ (by-tests f bytes true _ _ _ (lt-true _ _ few) refl refl refl) refl (short-cut n f bytes rest start len (omega (arith, place, few)))
      | inr h ↦ elim (cases_lt (length bytes) tl) [
        | inr whole ↦ same-of _ _ (by-tests f bytes false true _ _ (lt-false _ _ h) (le-true _ _ whole) refl refl ∙ captured-front f bytes rest h whole)
        | inl cut ↦ elim (no-header f bytes h cut) [
          | inl (off, never) ↦
              same-of _ _ (by-tests f bytes false false true _ (lt-false _ _ h) (le-false _ _ cut) never refl
              ∙ sym (none-front f bytes rest h (ap (λ (n : ℕ). tested hl tl (field bytes 0 4) n) (sym len) ∙ off)))
          | inr (s, sure) ↦ elim (cases_lt (length bytes) hl) [
            | inl part ↦
                let within = s.within in
                let fits = s.whole in
                cut-as _ _ _ _ (by-tests f bytes false false false true (lt-false _ _ h) (le-false _ _ cut) sure (lt-true _ _ part)) refl
                (cut-network n f (with_ipv4 f all) hl start
                (ipv4-next f all hl start (omega (arith, within, fits)) (λ read. let same = len-front bytes rest h in omega (arith, same))) (omega (arith, place, part)))
            | inr captured ↦
                let fits = s.whole in
                cut-as _ _ _ _ (by-tests f bytes false false false false (lt-false _ _ h) (le-false _ _ cut) sure (lt-false _ _ captured)) refl
                (begun n f bytes rest fresh h captured cut (record { least = s.least; within = s.within; whole = omega (arith, len, fits); version = s.version }) place)
          ]
        ]
      ]
    ]
