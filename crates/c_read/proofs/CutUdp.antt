-- The struct of a UDP packet that was not captured as a whole.
use Rattle.std.proofs.Common.{ℕ, ◌≡◌, ◌∙◌, ◌≤◌, ◌<◌, ◌⊎◌, ◌+◌, ◌-◌, ◌==◌, ◌&&◌, ◌||◌, not, nat_le, nat_lt, if◌then◌else◌, Bool, true, false, List, ◌++◌, Some, None, ap, inl, inr, length, refl, slice_range, sym, take, arith}
use Rattle.std.proofs.lemmas.Bool.{cases_lt}
use Rattle.std.proofs.lemmas.List.{take-append-le}
use Rattle.std.specs.Option.{option_map_or}
use Rattle.ip_wire.proofs.Layers.{length-part}
use Rattle.ip_wire.specs.Field.{field}
use Rattle.ip_wire.specs.IpAddress.{address_bytes}
use Rattle.ip_wire.specs.Types.{IpAddress}
use Rattle.ip_wire.specs.Udp as udp
use Rattle.ip_wire.specs.Udp.{udp_of}
use Rattle.ip_wire.specs.WordSum.{sum_of_bytes}
use Rattle.ip_wire.specs.declared.IpProtocol.TheVariants as protocol
use Rattle.wire_checksum.specs.PseudoHeader.{pseudo_header_bytes}
use Rattle.c_structs.specs.Codes.{verdict_code}
use Rattle.c_structs.specs.Verdicts.{cut_udp_verdict, udp_verdict, zero_udp_verdict}
use Rattle.c_structs.specs.declared.codes.Reason.TheVariants as reason
use Rattle.c_structs.specs.declared.codes.Verdict.{Verdict}
use Rattle.c_structs.specs.declared.codes.Verdict.TheVariants as verdict
use Rattle.c_structs.specs.declared.types.FrameFields.{FrameFields}
use Rattle.c_read.proofs.CutBytes.{field-front, le-false, le-true, longer, lt-false, lt-true, range-front}
use Rattle.c_read.proofs.CutOf.{choice-has, IsPast, cut-as, cut-transport, same-of}
use Rattle.c_read.specs.Captured.{HasHeaders, IsCutOf, before, cut_header, cut_udp, transport_header}
use Rattle.c_read.specs.FrameFields.{after_header, rejected, rejected_transport, udp_fault, with_udp, with_udp_fields, with_udp_header}

fields-front : (f : FrameFields) (bytes rest : List ℕ) (v : Verdict) → 8 ≤ length bytes → with_udp_fields f (bytes ++ rest) v ≡ with_udp_fields f bytes v
fields-front f bytes rest v h = rw (field-front bytes rest 0 16 (omega (arith, h)), field-front bytes rest 16 16 (omega (arith, h))) refl

-- ---- the value

unsound : (src dst : IpAddress) (bytes : List ℕ) → udp.is_read src dst false bytes ≡ false → udp_of src dst false bytes ≡ None
unfolding udp_of
unsound src dst bytes e = rw e refl

sound : (src dst : IpAddress) (bytes : List ℕ) → udp.is_read src dst false bytes ≡ true → udp_of src dst false bytes ≡ Some (udp.header_of bytes)
unfolding udp_of
sound src dst bytes e = rw e refl

-- the test of a packet, by its parts
test : (src dst : IpAddress) (bytes : List ℕ) (lengths port : Bool) → udp.has_lengths bytes ≡ lengths → (field bytes 16 16 == 0) ≡ port
    → udp.is_read src dst false bytes ≡ (lengths && not port && true)
test src dst bytes lengths port a c = rw (a, c) refl

-- ---- a packet with these lengths

-- it was captured as a whole, or its length is wrong
pub udp-whole : (f : FrameFields) (src dst : IpAddress) (bytes : List ℕ) → 8 ≤ length bytes → udp.has_lengths bytes ≡ true
    → with_udp f src dst bytes ≡ (if field bytes 16 16 == 0 then rejected_transport (with_udp_fields f bytes (udp_verdict src dst bytes)) reason.PortZero
    else after_header (with_udp_fields f bytes (udp_verdict src dst bytes)) 8 (length (udp.payload_of bytes)))
udp-whole f src dst bytes h lengths = by (field bytes 16 16 == 0) refl
  where
    by : (port : Bool) → (field bytes 16 16 == 0) ≡ port
        → with_udp f src dst bytes ≡ (if port then rejected_transport (with_udp_fields f bytes (udp_verdict src dst bytes)) reason.PortZero
        else after_header (with_udp_fields f bytes (udp_verdict src dst bytes)) 8 (length (udp.payload_of bytes)))
    by true is = rw (lt-false (length bytes) 8 h, unsound src dst bytes (test src dst bytes true true lengths is), lengths) refl
    by false is = rw (lt-false (length bytes) 8 h, sound src dst bytes (test src dst bytes true false lengths is), lengths) refl

pub udp-wrong : (f : FrameFields) (src dst : IpAddress) (bytes : List ℕ) → 8 ≤ length bytes → udp.has_lengths bytes ≡ false
    → with_udp f src dst bytes ≡ rejected_transport (with_udp_fields f bytes verdict.None) reason.BadLength
udp-wrong f src dst bytes h lengths = rw (lt-false (length bytes) 8 h, unsound src dst bytes (test src dst bytes false _ lengths refl), lengths) refl

-- the struct of a packet whose lengths are right, by whether its port is 0
abbrev shape : Bool → FrameFields → ℕ → FrameFields
shape port g n = if port then rejected_transport g reason.PortZero else after_header g 8 n

-- the same packet with more bytes after it
shape-front : (f : FrameFields) (bytes rest : List ℕ) (v w : Verdict) (n m : ℕ) → 8 ≤ length bytes → v ≡ w → n ≡ m
    → shape (field (bytes ++ rest) 16 16 == 0) (with_udp_fields f (bytes ++ rest) v) n ≡ shape (field bytes 16 16 == 0) (with_udp_fields f bytes w) m
shape-front f bytes rest v w n m h same size = rw (field-front bytes rest 0 16 (omega (arith, h)), field-front bytes rest 16 16 (omega (arith, h)), same, size) refl

-- the verdict, by the checksum, the packet and its length
abbrev verdict-by : IpAddress → IpAddress → ℕ → List ℕ → ℕ → Verdict
verdict-by src dst sum packet len =
    if sum == 0 then zero_udp_verdict src
    else if udp.packet_sum src dst packet == 65535 then verdict.Right
    else if sum == sum_of_bytes (pseudo_header_bytes (address_bytes src) (address_bytes dst) protocol.Udp len) then verdict.LeftToDevice
    else verdict.Wrong

verdict-front : (src dst : IpAddress) (bytes rest : List ℕ) → 8 ≤ length bytes → udp.packet_len bytes ≤ length bytes
    → udp_verdict src dst (bytes ++ rest) ≡ udp_verdict src dst bytes
verdict-front src dst bytes rest h whole =
    let all = bytes ++ rest in
    let len : udp.packet_len all ≡ udp.packet_len bytes = field-front bytes rest 32 16 (omega (arith, h)) in
    let sum : field all 48 16 ≡ field bytes 48 16 = field-front bytes rest 48 16 (omega (arith, h)) in
    rw (len, take-append-le (udp.packet_len bytes) bytes rest whole, sum) refl

-- whether the lengths are right, by the numbers
lengths-are : (bytes : List ℕ) (len : ℕ) (a c : Bool) → 8 ≤ length bytes → udp.packet_len bytes ≡ len → nat_le 8 len ≡ a → nat_le len (length bytes) ≡ c
    → udp.has_lengths bytes ≡ (a && c)
lengths-are bytes len a c h is first last = rw (le-true 8 (length bytes) h, is, first, last) refl

-- ---- the cases

-- the packet was captured as a whole
udp-captured : (f : FrameFields) (src dst : IpAddress) (bytes rest : List ℕ) → 8 ≤ length bytes → 8 ≤ udp.packet_len bytes → udp.packet_len bytes ≤ length bytes
    → with_udp f src dst bytes ≡ with_udp f src dst (bytes ++ rest)
udp-captured f src dst bytes rest h least whole =
    let all = bytes ++ rest in
    let size = longer bytes rest in
    let len : udp.packet_len all ≡ udp.packet_len bytes = field-front bytes rest 32 16 (omega (arith, h)) in
    let one = lengths-are bytes (udp.packet_len bytes) true true h refl (le-true _ _ least) (le-true _ _ whole) in
    let two = lengths-are all (udp.packet_len bytes) true true (omega (arith, size, h)) len (le-true _ _ least) (le-true _ _ (omega (arith, size, whole))) in
    let payload : slice_range all 8 (udp.packet_len all) ≡ slice_range bytes 8 (udp.packet_len bytes) =
    ap (slice_range all 8) len ∙ range-front bytes rest 8 (udp.packet_len bytes) least whole
    in
    udp-whole f src dst bytes h one
    ∙ sym (udp-whole f src dst all (omega (arith, size, h)) two
    ∙ shape-front f bytes rest (udp_verdict src dst all) (udp_verdict src dst bytes) _ _ h (verdict-front src dst bytes rest h whole) (ap length payload))

-- its length is wrong, whatever follows
udp-wrong-front : (f : FrameFields) (src dst : IpAddress) (bytes rest : List ℕ) → 8 ≤ length bytes → udp.has_lengths bytes ≡ false → udp.has_lengths (bytes ++ rest) ≡ false
    → with_udp f src dst bytes ≡ with_udp f src dst (bytes ++ rest)
udp-wrong-front f src dst bytes rest h one two =
    let size = longer bytes rest in
    udp-wrong f src dst bytes h one
    ∙ sym (udp-wrong f src dst (bytes ++ rest) (omega (arith, size, h)) two
    ∙ ap (λ (g : FrameFields). rejected_transport g reason.BadLength) (fields-front f bytes rest verdict.None h))

missed : {P Q R : Type 0} → P ⊎ Q → R → P ⊎ (Q × R)
missed (inl p) r = inl p
missed (inr q) r = inr (q, r)

-- two verdicts in the same struct
only-verdict : (n : ℕ) (f : FrameFields) (bytes : List ℕ) (port : Bool) (len : ℕ) (v w : Verdict) → (verdict_code v ≡ verdict_code w) ⊎ (verdict_code v ≡ 5)
    → n < f.payload_offset + f.payload_len → n < f.payload_offset + 8 + len
    → HasHeaders n (shape port (with_udp_fields f bytes v) len) (shape port (with_udp_fields f bytes w) len)
only-verdict n f bytes true len v w is all part = record { checksum = missed is all; fields = refl }
only-verdict n f bytes false len v w is all part = record { checksum = missed is part; fields = refl }

cut-verdict : (zero : Bool) (x y : Verdict) → (verdict_code (if zero then x else verdict.ChecksumCut) ≡ verdict_code (if zero then x else y)) ⊎ (verdict_code (if zero then x else verdict.ChecksumCut) ≡ 5)
cut-verdict true x y = inl refl
cut-verdict false x y = inr refl

-- some of it was not captured
udp-part : (n : ℕ) (f : FrameFields) (src dst : IpAddress) (bytes rest : List ℕ) → 8 ≤ length bytes → length bytes < udp.packet_len bytes → udp.packet_len bytes ≤ length bytes + length rest
    → udp.packet_len bytes ≤ f.payload_len → n ≡ f.payload_offset + length bytes
    → IsCutOf n (shape (field bytes 16 16 == 0) (with_udp_fields f bytes (cut_udp_verdict src bytes)) (udp.packet_len bytes - 8)) (with_udp f src dst (bytes ++ rest))
udp-part n f src dst bytes rest h cut whole room place =
    let all = bytes ++ rest in
    let size = longer bytes rest in
    let len : udp.packet_len all ≡ udp.packet_len bytes = field-front bytes rest 32 16 (omega (arith, h)) in
    let sum : field all 48 16 ≡ field bytes 48 16 = field-front bytes rest 48 16 (omega (arith, h)) in
    let fits : udp.packet_len bytes ≤ length all = omega (arith, size, whole) in
    let lengths = lengths-are all (udp.packet_len bytes) true true (omega (arith, size, h)) len (le-true _ _ (omega (arith, h, cut))) (le-true _ _ fits) in
    let payload : length (slice_range all 8 (udp.packet_len all)) ≡ udp.packet_len bytes - 8 =
    ap (λ (n : ℕ). length (slice_range all 8 n)) len ∙ length-part all 8 (udp.packet_len bytes) fits
    in
    let found = ap (λ (n : ℕ). verdict-by src dst n (take (udp.packet_len all) all) (udp.packet_len all)) sum in
    cut-as _ _ _ _ refl
    (udp-whole f src dst all (omega (arith, size, h)) lengths
    ∙ shape-front f bytes rest (udp_verdict src dst all) _ _ (udp.packet_len bytes - 8) h found payload)
    (inl (inl (only-verdict n f bytes (field bytes 16 16 == 0) (udp.packet_len bytes - 8) _ _ (cut-verdict (field bytes 48 16 == 0) (zero_udp_verdict src) _)
    (omega (arith, place, cut, room)) (omega (arith, place, cut)))))

-- the header itself was not captured
udp-cut : (n : ℕ) (f : FrameFields) (src dst : IpAddress) (bytes : List ℕ) → f ≡ before transport_header f → f.payload_len ≡ length bytes → n < f.payload_offset + 8
    → IsCutOf n (cut_header f 8) (with_udp f src dst bytes)
udp-cut n f src dst bytes fresh len part = elim (cases_lt (length bytes) 8) [
  | inl few ↦
      same-of _ _ (ap (λ (b : Bool). rejected f (if b then reason.TooShort else reason.HeaderCut)) (lt-true f.payload_len 8 (omega (arith, few, len)))
      ∙ sym (ap (λ (b : Bool). if b then rejected f reason.TooShort else option_map_or (λ u. after_header (with_udp_header f src dst bytes) 8 (length (udp.payload_of bytes))) (udp_of src dst false bytes) (rejected_transport (with_udp_header f src dst bytes) (udp_fault bytes))) (lt-true (length bytes) 8 few)))
  | inr more ↦
      let next = with_udp_header f src dst bytes in
      let g = after_header next 8 (length (udp.payload_of bytes)) in
      let h = rejected_transport next (udp_fault bytes) in
      cut-as _ _ _ _ (ap (λ (b : Bool). rejected f (if b then reason.TooShort else reason.HeaderCut)) (lt-false f.payload_len 8 (omega (arith, more, len))))
      (ap (λ (b : Bool). if b then rejected f reason.TooShort else option_map_or (λ u. g) (udp_of src dst false bytes) h) (lt-false (length bytes) 8 more))
      (cut-transport n f _ 8 fresh (choice-has (λ k. IsPast f k 8) (udp_of src dst false bytes) (λ u. g) h
      (λ u. record { kept = refl; begins = refl; ends = refl }) (record { kept = refl; begins = refl; ends = refl })) part)
]

-- ---- the packet

-- the test of the cut reader
cut-tested : (f : FrameFields) (src dst : IpAddress) (bytes : List ℕ) (a c : Bool) → 8 ≤ length bytes → nat_le (udp.packet_len bytes) (length bytes) ≡ a → nat_lt f.payload_len (udp.packet_len bytes) ≡ c
    → cut_udp f src dst bytes ≡ (if a || c then with_udp f src dst bytes else shape (field bytes 16 16 == 0) (with_udp_fields f bytes (cut_udp_verdict src bytes)) (udp.packet_len bytes - 8))
cut-tested f src dst bytes a c h first last = rw (lt-false (length bytes) 8 h, first, last) refl

pub cut-udp : (n : ℕ) (f : FrameFields) (src dst : IpAddress) (bytes rest : List ℕ) → f ≡ before transport_header f → f.payload_len ≡ length (bytes ++ rest)
    → n ≡ f.payload_offset + length bytes → IsCutOf n (cut_udp f src dst bytes) (with_udp f src dst (bytes ++ rest))
cut-udp n f src dst bytes rest fresh is place =
    let all = bytes ++ rest in
    let size = longer bytes rest in
    let len = udp.packet_len bytes in
    elim (cases_lt (length bytes) 8) [
      | inl few ↦ cut-as _ _ _ _ (cut-few few) refl (udp-cut n f src dst all fresh is (omega (arith, place, few)))
      | inr h ↦ elim (cases_lt (length bytes) len) [
        | inr whole ↦
            let tested = cut-tested f src dst bytes true _ h (le-true _ _ whole) refl in
            elim (cases_lt len 8) [
              | inl wrong ↦
                  let one = lengths-are bytes len false true h refl (le-false _ _ wrong) (le-true _ _ whole) in
                  let all_len : udp.packet_len all ≡ len = field-front bytes rest 32 16 (omega (arith, h)) in
                  let two = lengths-are all len false true (omega (arith, size, h)) all_len (le-false _ _ wrong) (le-true _ _ (omega (arith, size, whole))) in
                  same-of _ _ (tested ∙ udp-wrong-front f src dst bytes rest h one two)
              | inr least ↦ same-of _ _ (tested ∙ udp-captured f src dst bytes rest h least whole)
            ]
        | inl cut ↦ elim (cases_lt f.payload_len len) [
          | inl wrong ↦
              let all_len : udp.packet_len all ≡ len = field-front bytes rest 32 16 (omega (arith, h)) in
              let one = lengths-are bytes len true false h refl (le-true _ _ (omega (arith, h, cut))) (le-false _ _ cut) in
              let two = lengths-are all len true false (omega (arith, size, h)) all_len (le-true _ _ (omega (arith, h, cut))) (le-false _ _ (omega (arith, is, wrong))) in
              same-of _ _ (cut-tested f src dst bytes false true h (le-false _ _ cut) (lt-true _ _ wrong) ∙ udp-wrong-front f src dst bytes rest h one two)
          | inr fits ↦
              cut-as _ _ _ _ (cut-tested f src dst bytes false false h (le-false _ _ cut) (lt-false _ _ fits)) refl
              (udp-part n f src dst bytes rest h cut (omega (arith, is, size, fits)) fits place)
        ]
      ]
    ]
  where
    cut-few : length bytes < 8 → cut_udp f src dst bytes ≡ cut_header f 8
    cut-few few = rw (lt-true (length bytes) 8 few) refl
