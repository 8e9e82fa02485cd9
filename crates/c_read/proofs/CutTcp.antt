-- The struct of a TCP segment that was not captured as a whole.
use Rattle.std.proofs.Common.{ℕ, ◌≡◌, ◌∙◌, ◌≤◌, ◌<◌, ◌+◌, ◌-◌, ◌*◌, ◌==◌, ◌&&◌, ◌||◌, not, is_none, nat_le, nat_lt, if◌then◌else◌, Bool, true, false, List, ◌++◌, Option, Some, None, ap, inl, inr, drop, length, refl, slice_range, sym, arith}
use Rattle.std.proofs.lemmas.Bool.{cases_lt}
use Rattle.std.proofs.lemmas.Grind.{common_steps}
use Rattle.std.specs.Option.{option_and_then, option_map, option_map_or}
use Rattle.ip_wire.specs.Field.{field}
use Rattle.ip_wire.specs.Tcp as tcp
use Rattle.ip_wire.specs.TcpRepr.{TcpHeader, control_of, header_with, is_sound, items_in, tcp_of}
use Rattle.ip_wire.specs.Types.{IpAddress}
use Rattle.ip_wire.specs.declared.TcpControl.{TcpControl}
use Rattle.ip_wire.specs.TcpItems.{Item}
use Rattle.c_structs.specs.Nothing.{no_icmp}
use Rattle.c_structs.specs.Verdicts.{tcp_verdict}
use Rattle.c_structs.specs.declared.codes.Reason.{Reason}
use Rattle.c_structs.specs.declared.codes.Reason.TheVariants as reason
use Rattle.c_structs.specs.declared.codes.Verdict.{Verdict}
use Rattle.c_structs.specs.declared.codes.Verdict.TheVariants as verdict
use Rattle.c_structs.specs.declared.types.FrameFields.{FrameFields}
use Rattle.c_structs.specs.declared.types.Icmp.{Icmp}
use Rattle.c_read.proofs.CutBytes.{field-front, le-false, le-true, longer, lt-false, lt-true, range-front}
use Rattle.c_read.proofs.CutOf.{choice-has, IsPast, cut-as, cut-transport, same-of}
use Rattle.c_read.specs.Captured.{HasHeaders, IsCutOf, before, cut_header, cut_tcp, options, transport_header}
use Rattle.c_read.specs.FrameFields.{after_header, rejected, rejected_transport, tcp_fault, tcp_values, with_tcp, with_tcp_fields, with_tcp_header}

-- ---- the header

values-front : (bytes rest : List ℕ) → 20 ≤ length bytes → tcp_values (bytes ++ rest) ≡ tcp_values bytes
values-front bytes rest h =
    rw (
      field-front bytes rest 32 32 (omega (arith, h)),
      field-front bytes rest 64 32 (omega (arith, h)),
      field-front bytes rest 112 16 (omega (arith, h)),
      field-front bytes rest 144 16 (omega (arith, h)),
      field-front bytes rest 104 8 (omega (arith, h)),
      field-front bytes rest 96 4 (omega (arith, h)),
    ) refl

fields-front : (f : FrameFields) (bytes rest : List ℕ) (v : Verdict) → 20 ≤ length bytes → with_tcp_fields f (bytes ++ rest) v ≡ with_tcp_fields f bytes v
fields-front f bytes rest v h =
    rw (field-front bytes rest 0 16 (omega (arith, h)), field-front bytes rest 16 16 (omega (arith, h)), values-front bytes rest h) refl

control-front : (bytes rest : List ℕ) → 20 ≤ length bytes → control_of (bytes ++ rest) ≡ control_of bytes
control-front bytes rest h =
    rw (
      field-front bytes rest 109 1 (omega (arith, h)),
      field-front bytes rest 110 1 (omega (arith, h)),
      field-front bytes rest 111 1 (omega (arith, h)),
      field-front bytes rest 108 1 (omega (arith, h)),
    ) refl

-- ---- the value

abbrev read-by : Bool → Option TcpControl → (TcpControl → List Item → TcpHeader) → Option (List Item) → Option TcpHeader
read-by sound control made items = if sound then option_and_then (λ asked. option_map (made asked) items) control else None

tcp_of-by : (src dst : IpAddress) (bytes : List ℕ) → tcp_of src dst false bytes ≡ read-by (is_sound src dst false bytes) (control_of bytes) (header_with bytes) (items_in (tcp.options_of bytes))
unfolding tcp_of
tcp_of-by src dst bytes = refl

value-front : (bytes rest : List ℕ) → 20 ≤ length bytes → header_with (bytes ++ rest) ≡ header_with bytes
value-front bytes rest h =
    let at : (asked : TcpControl) (items : List Item) → header_with (bytes ++ rest) asked items ≡ header_with bytes asked items =
    λ asked items. rw (
      field-front bytes rest 107 1 (omega (arith, h)),
      field-front bytes rest 64 32 (omega (arith, h)),
      field-front bytes rest 0 16 (omega (arith, h)),
      field-front bytes rest 16 16 (omega (arith, h)),
      field-front bytes rest 32 32 (omega (arith, h)),
      field-front bytes rest 112 16 (omega (arith, h)),
    ) refl in
    λ i asked items. at asked items i

-- whether the lengths are right, by the numbers
lengths-are : (bytes : List ℕ) (len : ℕ) (a c : Bool) → 20 ≤ length bytes → tcp.header_len bytes ≡ len → nat_le 20 len ≡ a → nat_le len (length bytes) ≡ c
    → tcp.has_lengths bytes ≡ (a && c)
lengths-are bytes len a c h is first last = rw (le-true 20 (length bytes) h, is, first, last) refl

len-front : (bytes rest : List ℕ) → 20 ≤ length bytes → tcp.header_len (bytes ++ rest) ≡ tcp.header_len bytes
len-front bytes rest h = ap (λ (n : ℕ). 4 * n) (field-front bytes rest 96 4 (omega (arith, h)))

-- whether lengths and ports are right, by the numbers
abbrev sound-by : Bool → ℕ → ℕ → Bool
sound-by lengths s d = lengths && not (s == 0) && not (d == 0) && true

sound-front : (src dst : IpAddress) (bytes rest : List ℕ) → 20 ≤ length bytes → tcp.has_lengths (bytes ++ rest) ≡ tcp.has_lengths bytes
    → is_sound src dst false (bytes ++ rest) ≡ is_sound src dst false bytes
sound-front src dst bytes rest h same =
    rw (same, field-front bytes rest 0 16 (omega (arith, h)), field-front bytes rest 16 16 (omega (arith, h))) refl

-- the value of a segment whose header was captured
value-captured : (src dst : IpAddress) (bytes rest : List ℕ) → 20 ≤ tcp.header_len bytes → tcp.header_len bytes ≤ length bytes
    → tcp_of src dst false bytes ≡ tcp_of src dst false (bytes ++ rest)
value-captured src dst bytes rest least whole =
    let all = bytes ++ rest in
    let size = longer bytes rest in
    let h : 20 ≤ length bytes = omega (arith, least, whole) in
    let len = len-front bytes rest h in
    let one = lengths-are bytes (tcp.header_len bytes) true true h refl (le-true _ _ least) (le-true _ _ whole) in
    let two = lengths-are all (tcp.header_len bytes) true true (omega (arith, size, h)) len (le-true _ _ least) (le-true _ _ (omega (arith, size, whole))) in
    let parts : tcp.options_of all ≡ tcp.options_of bytes = ap (slice_range all 20) len ∙ range-front bytes rest 20 (tcp.header_len bytes) least whole in
    tcp_of-by src dst bytes
    ∙ sym (rw (tcp_of-by src dst all, sound-front src dst bytes rest h (two ∙ sym one), control-front bytes rest h, value-front bytes rest h, parts) refl)

-- no value without these
unsound : (src dst : IpAddress) (bytes : List ℕ) → is_sound src dst false bytes ≡ false → tcp_of src dst false bytes ≡ None
unsound src dst bytes e = tcp_of-by src dst bytes ∙ ap (λ (b : Bool). read-by b (control_of bytes) (header_with bytes) (items_in (tcp.options_of bytes))) e

uncontrolled : (src dst : IpAddress) (bytes : List ℕ) → control_of bytes ≡ None → tcp_of src dst false bytes ≡ None
uncontrolled src dst bytes e =
    tcp_of-by src dst bytes ∙ ap (λ (c : Option TcpControl). read-by (is_sound src dst false bytes) c (header_with bytes) (items_in (tcp.options_of bytes))) e
    ∙ none (is_sound src dst false bytes)
  where
    none : (b : Bool) → read-by b None (header_with bytes) (items_in (tcp.options_of bytes)) ≡ None
    none true = refl
    none false = refl

-- ---- the struct

-- the struct of a segment, by its value and its fault
abbrev shape : Option TcpHeader → FrameFields → ℕ → ℕ → Reason → FrameFields
shape o g header_len n why = option_map_or (λ v. after_header g header_len n) o (rejected_transport g why)

-- the fault, by the numbers
abbrev fault-by : ℕ → ℕ → ℕ → ℕ → Option TcpControl → Bool → Reason
fault-by header_len len s d control short =
    if nat_lt header_len 20 || nat_lt len header_len then reason.BadLength
    else if s == 0 || (d == 0) then reason.PortZero
    else if is_none control then reason.BadFlags
    else if short then reason.HeaderCut
    else reason.BadOptions

fault-front : (bytes rest : List ℕ) (len : ℕ) (short : Bool) → 20 ≤ length bytes → nat_lt (length (bytes ++ rest)) (tcp.header_len bytes) ≡ short
    → tcp_fault (bytes ++ rest) len ≡ fault-by (tcp.header_len bytes) len (field bytes 0 16) (field bytes 16 16) (control_of bytes) short
fault-front bytes rest len short h is =
    rw (len-front bytes rest h, field-front bytes rest 0 16 (omega (arith, h)), field-front bytes rest 16 16 (omega (arith, h)), control-front bytes rest h, is) refl

fault-here : (bytes : List ℕ) (len : ℕ) (short : Bool) → nat_lt (length bytes) (tcp.header_len bytes) ≡ short
    → tcp_fault bytes len ≡ fault-by (tcp.header_len bytes) len (field bytes 0 16) (field bytes 16 16) (control_of bytes) short
fault-here bytes len short is = rw is refl

-- the whole segment
whole-shape : (f : FrameFields) (src dst : IpAddress) (bytes rest : List ℕ) (o : Option TcpHeader) (why : Reason) → 20 ≤ length bytes → f.payload_len ≡ length (bytes ++ rest)
    → tcp_of src dst false (bytes ++ rest) ≡ o → tcp_fault (bytes ++ rest) f.payload_len ≡ why
    → with_tcp f src dst (bytes ++ rest) ≡ shape o (with_tcp_fields f bytes (tcp_verdict src dst (bytes ++ rest))) (tcp.header_len bytes) (f.payload_len - tcp.header_len bytes) why
whole-shape f src dst bytes rest o why h len found fault =
    let all = bytes ++ rest in
    let v = tcp_verdict src dst all in
    let size = longer bytes rest in
    let payload : length (drop (tcp.header_len bytes) all) ≡ f.payload_len - tcp.header_len bytes = dropped (tcp.header_len bytes) all ∙ ap (λ (n : ℕ). n - tcp.header_len bytes) (sym len) in
    ap (λ (b : Bool). if b then rejected f reason.TooShort else shape (tcp_of src dst false all) (with_tcp_fields f all v) (tcp.header_len all) (length (tcp.payload_of all)) (tcp_fault all (length all)))
    (lt-false (length all) 20 (omega (arith, size, h)))
    ∙ ap (λ (g : FrameFields). shape (tcp_of src dst false all) g (tcp.header_len all) (length (tcp.payload_of all)) (tcp_fault all (length all))) (fields-front f bytes rest v h)
    ∙ ap (λ (n : ℕ). shape (tcp_of src dst false all) (with_tcp_fields f bytes v) n (length (drop n all)) (tcp_fault all (length all))) (len-front bytes rest h)
    ∙ ap (λ (n : ℕ). shape (tcp_of src dst false all) (with_tcp_fields f bytes v) (tcp.header_len bytes) n (tcp_fault all (length all))) payload
    ∙ ap (λ (n : ℕ). shape (tcp_of src dst false all) (with_tcp_fields f bytes v) (tcp.header_len bytes) (f.payload_len - tcp.header_len bytes) (tcp_fault all n)) (sym len)
    ∙ ap (λ (p : Option TcpHeader). shape p (with_tcp_fields f bytes v) (tcp.header_len bytes) (f.payload_len - tcp.header_len bytes) (tcp_fault all f.payload_len)) found
    ∙ ap (λ (r : Reason). shape o (with_tcp_fields f bytes v) (tcp.header_len bytes) (f.payload_len - tcp.header_len bytes) r) fault
  where
    dropped : (n : ℕ) (xs : List ℕ) → length (drop n xs) ≡ length xs - n
    dropped n xs = grind (arith, common_steps)

-- the captured part of it
part-shape : (f : FrameFields) (src dst : IpAddress) (bytes : List ℕ) (o : Option TcpHeader) (why : Reason) → 20 ≤ length bytes → tcp_of src dst false bytes ≡ o
    → tcp_fault bytes f.payload_len ≡ why → cut_tcp f src dst bytes ≡ shape o (with_tcp_fields f bytes verdict.ChecksumCut) (tcp.header_len bytes) (f.payload_len - tcp.header_len bytes) why
part-shape f src dst bytes o why h found fault = rw (lt-false (length bytes) 20 h, found, fault) refl

-- two verdicts in the same struct
only-verdict : (n : ℕ) (o : Option TcpHeader) (f : FrameFields) (bytes : List ℕ) (header_len len : ℕ) (why : Reason) (v : Verdict)
    → n < f.payload_offset + f.payload_len → n < f.payload_offset + header_len + len
    → HasHeaders n (shape o (with_tcp_fields f bytes verdict.ChecksumCut) header_len len why) (shape o (with_tcp_fields f bytes v) header_len len why)
only-verdict n None f bytes header_len len why v all part = record { checksum = inr (refl, all); fields = refl }
only-verdict n (Some x) f bytes header_len len why v all part = record { checksum = inr (refl, part); fields = refl }

-- the options are cut off
options-fields : (f : FrameFields) (bytes : List ℕ) → f.icmp ≡ no_icmp
    → let g = rejected_transport (with_tcp_fields f bytes verdict.ChecksumCut) reason.HeaderCut in g ≡ record g { icmp = no_icmp }
options-fields f bytes clean = ap (λ (i : Icmp). record (rejected_transport (with_tcp_fields f bytes verdict.ChecksumCut) reason.HeaderCut) { icmp = i }) clean

options-cut : (n : ℕ) (o : Option TcpHeader) (f : FrameFields) (bytes : List ℕ) (header_len len : ℕ) (why : Reason) (v : Verdict) → f.icmp ≡ no_icmp
    → n < f.payload_offset + tcp.header_len bytes
    → IsCutOf n (rejected_transport (with_tcp_fields f bytes verdict.ChecksumCut) reason.HeaderCut) (shape o (with_tcp_fields f bytes v) header_len len why)
options-cut n None f bytes header_len len why v clean few = inr (inl (options, record { reason = refl; offset = refl; missing = few; fields = options-fields f bytes clean }))
options-cut n (Some x) f bytes header_len len why v clean few = inr (inl (options, record { reason = refl; offset = refl; missing = few; fields = options-fields f bytes clean }))

-- value and fault are those of the whole segment
both : (n : ℕ) (f : FrameFields) (src dst : IpAddress) (bytes rest : List ℕ) (o : Option TcpHeader) (why : Reason) → 20 ≤ length bytes → f.payload_len ≡ length (bytes ++ rest)
    → n ≡ f.payload_offset + length bytes → length bytes < f.payload_len
    → tcp_of src dst false bytes ≡ o → tcp_of src dst false (bytes ++ rest) ≡ o → tcp_fault bytes f.payload_len ≡ why → tcp_fault (bytes ++ rest) f.payload_len ≡ why
    → IsCutOf n (cut_tcp f src dst bytes) (with_tcp f src dst (bytes ++ rest))
both n f src dst bytes rest o why h len place missing found found2 fault fault2 =
    cut-as _ _ _ _ (part-shape f src dst bytes o why h found fault) (whole-shape f src dst bytes rest o why h len found2 fault2)
    (inl (inl (only-verdict n o f bytes (tcp.header_len bytes) (f.payload_len - tcp.header_len bytes) why (tcp_verdict src dst (bytes ++ rest))
    (omega (arith, place, missing)) (omega (arith, place, missing)))))

-- the header itself was not captured
tcp-cut : (n : ℕ) (f : FrameFields) (src dst : IpAddress) (bytes : List ℕ) → f ≡ before transport_header f → f.payload_len ≡ length bytes → n < f.payload_offset + 20
    → IsCutOf n (cut_header f 20) (with_tcp f src dst bytes)
tcp-cut n f src dst bytes fresh len part =
    let g = shape (tcp_of src dst false bytes) (with_tcp_header f src dst bytes) (tcp.header_len bytes) (length (tcp.payload_of bytes)) (tcp_fault bytes (length bytes)) in
    elim (cases_lt (length bytes) 20) [
      | inl few ↦
          same-of _ _ (ap (λ (b : Bool). rejected f (if b then reason.TooShort else reason.HeaderCut)) (lt-true f.payload_len 20 (omega (arith, few, len)))
          ∙ sym (ap (λ (b : Bool). if b then rejected f reason.TooShort else g) (lt-true (length bytes) 20 few)))
      | inr more ↦
          cut-as _ _ _ _ (ap (λ (b : Bool). rejected f (if b then reason.TooShort else reason.HeaderCut)) (lt-false f.payload_len 20 (omega (arith, more, len))))
          (ap (λ (b : Bool). if b then rejected f reason.TooShort else g) (lt-false (length bytes) 20 more))
          (cut-transport n f _ 20 fresh (choice-has (λ k. IsPast f k 20) (tcp_of src dst false bytes)
          (λ u. after_header (with_tcp_header f src dst bytes) (tcp.header_len bytes) (length (tcp.payload_of bytes))) (rejected_transport (with_tcp_header f src dst bytes) (tcp_fault bytes (length bytes)))
          (λ u. record { kept = refl; begins = refl; ends = refl }) (record { kept = refl; begins = refl; ends = refl })) part)
    ]

-- ---- the cases

-- a port is 0
port-unsound : (l x y : Bool) → (x || y) ≡ true → (l && not x && not y && true) ≡ false
port-unsound false x y e = refl
port-unsound true true y e = refl
port-unsound true false true e = refl
port-unsound true false false e = absurd (cc)

-- the fault, by the tests
abbrev tests : Bool → Bool → Option TcpControl → Bool → Reason
tests bad ports control short =
    if bad then reason.BadLength
    else if ports then reason.PortZero
    else if is_none control then reason.BadFlags
    else if short then reason.HeaderCut
    else reason.BadOptions

-- the options are cut off, by the tests before
options-by : (n : ℕ) (f : FrameFields) (src dst : IpAddress) (bytes rest : List ℕ) (ports : Bool) (control : Option TcpControl) → f.icmp ≡ no_icmp → 20 ≤ length bytes → length bytes < tcp.header_len bytes
    → tcp.header_len bytes ≤ length bytes + length rest → f.payload_len ≡ length (bytes ++ rest) → n ≡ f.payload_offset + length bytes → length bytes < f.payload_len
    → (field bytes 0 16 == 0 || (field bytes 16 16 == 0)) ≡ ports → control_of bytes ≡ control
    → IsCutOf n (cut_tcp f src dst bytes) (with_tcp f src dst (bytes ++ rest))
options-by n f src dst bytes rest ports control clean h cut fits len place missing port flags =
    let all = bytes ++ rest in
    let size = longer bytes rest in
    let hl = tcp.header_len bytes in
    let s = field bytes 0 16 in
    let d = field bytes 16 16 in
    let bad : (nat_lt hl 20 || nat_lt f.payload_len hl) ≡ false = ap (λ (b : Bool). b || nat_lt f.payload_len hl) (lt-false hl 20 (omega (arith, h, cut))) ∙ lt-false f.payload_len hl (omega (arith, len, size, fits)) in
    let here = fault-here bytes f.payload_len true (lt-true (length bytes) hl cut) in
    let there = fault-front bytes rest f.payload_len false h (lt-false (length all) hl (omega (arith, size, fits))) in
    let lengths = lengths-are bytes hl true false h refl (le-true 20 hl (omega (arith, h, cut))) (le-false hl (length bytes) cut) in
    let none = unsound src dst bytes (ap (λ (b : Bool). sound-by b s d) lengths) in
    by ports control port flags bad here there none
  where
    decided : (n : ℕ) (short bad p : Bool) (c : Option TcpControl) → (nat_lt (tcp.header_len bytes) 20 || nat_lt n (tcp.header_len bytes)) ≡ bad → (field bytes 0 16 == 0 || (field bytes 16 16 == 0)) ≡ p → control_of bytes ≡ c
        → fault-by (tcp.header_len bytes) n (field bytes 0 16) (field bytes 16 16) (control_of bytes) short ≡ tests bad p c short
    decided n short bad p c a e i =
        ap (λ (b : Bool). tests b (field bytes 0 16 == 0 || (field bytes 16 16 == 0)) (control_of bytes) short) a ∙ ap (λ (b : Bool). tests bad b (control_of bytes) short) e
        ∙ ap (λ (o : Option TcpControl). tests bad p o short) i

    by : (p : Bool) (c : Option TcpControl) → (field bytes 0 16 == 0 || (field bytes 16 16 == 0)) ≡ p → control_of bytes ≡ c → (nat_lt (tcp.header_len bytes) 20 || nat_lt f.payload_len (tcp.header_len bytes)) ≡ false
        → tcp_fault bytes f.payload_len ≡ fault-by (tcp.header_len bytes) f.payload_len (field bytes 0 16) (field bytes 16 16) (control_of bytes) true
        → tcp_fault (bytes ++ rest) f.payload_len ≡ fault-by (tcp.header_len bytes) f.payload_len (field bytes 0 16) (field bytes 16 16) (control_of bytes) false
        → tcp_of src dst false bytes ≡ None → IsCutOf n (cut_tcp f src dst bytes) (with_tcp f src dst (bytes ++ rest))
    by true c port flags bad here there none =
        let sound : is_sound src dst false (bytes ++ rest) ≡ false =
        ap (λ (n : ℕ). sound-by (tcp.has_lengths (bytes ++ rest)) n (field (bytes ++ rest) 16 16)) (field-front bytes rest 0 16 (omega (arith, h)))
        ∙ ap (λ (n : ℕ). sound-by (tcp.has_lengths (bytes ++ rest)) (field bytes 0 16) n) (field-front bytes rest 16 16 (omega (arith, h)))
        ∙ port-unsound (tcp.has_lengths (bytes ++ rest)) (field bytes 0 16 == 0) (field bytes 16 16 == 0) port
        in
        both n f src dst bytes rest None reason.PortZero h len place missing none (unsound src dst (bytes ++ rest) sound)
        (here ∙ decided f.payload_len true false true c bad port flags) (there ∙ decided f.payload_len false false true c bad port flags)
    by false None port flags bad here there none =
        both n f src dst bytes rest None reason.BadFlags h len place missing none (uncontrolled src dst (bytes ++ rest) (control-front bytes rest h ∙ flags))
        (here ∙ decided f.payload_len true false false None bad port flags) (there ∙ decided f.payload_len false false false None bad port flags)
    by false (Some c) port flags bad here there none =
        cut-as _ _ _ _ (part-shape f src dst bytes None reason.HeaderCut h none (here ∙ decided f.payload_len true false false (Some c) bad port flags))
        (whole-shape f src dst bytes rest _ _ h len refl refl)
        (options-cut n (tcp_of src dst false (bytes ++ rest)) f bytes (tcp.header_len bytes) (f.payload_len - tcp.header_len bytes) (tcp_fault (bytes ++ rest) f.payload_len) (tcp_verdict src dst (bytes ++ rest)) clean
        (omega (arith, place, cut)))

pub cut-tcp : (n : ℕ) (f : FrameFields) (src dst : IpAddress) (bytes rest : List ℕ) → f ≡ before transport_header f → f.payload_len ≡ length (bytes ++ rest)
    → n ≡ f.payload_offset + length bytes → length bytes < f.payload_len → IsCutOf n (cut_tcp f src dst bytes) (with_tcp f src dst (bytes ++ rest))
cut-tcp n f src dst bytes rest fresh len place missing =
    let all = bytes ++ rest in
    let size = longer bytes rest in
    let hl = tcp.header_len bytes in
    elim (cases_lt (length bytes) 20) [
      | inl few ↦ cut-as _ _ _ _ (cut-few few) refl (tcp-cut n f src dst all fresh len (omega (arith, place, few)))
      | inr h ↦ elim (cases_lt (length bytes) hl) [
        | inr captured ↦
            let here = fault-here bytes f.payload_len false (lt-false (length bytes) hl captured) in
            let there = fault-front bytes rest f.payload_len false h (lt-false (length all) hl (omega (arith, size, captured))) in
            both n f src dst bytes rest _ _ h len place missing (same h captured) refl here there
        | inl cut ↦ elim (cases_lt f.payload_len hl) [
          | inl wrong ↦
              let one = lengths-are bytes hl true false h refl (le-true 20 hl (omega (arith, h, cut))) (le-false hl (length bytes) cut) in
              let two = lengths-are all hl true false (omega (arith, size, h)) (len-front bytes rest h) (le-true 20 hl (omega (arith, h, cut))) (le-false hl (length all) (omega (arith, len, wrong))) in
              let bad : (nat_lt hl 20 || nat_lt f.payload_len hl) ≡ true = ap (λ (b : Bool). b || nat_lt f.payload_len hl) (lt-false hl 20 (omega (arith, h, cut))) ∙ lt-true f.payload_len hl wrong in
              let here = fault-here bytes f.payload_len _ refl ∙ at-once f.payload_len _ bad in
              let there = fault-front bytes rest f.payload_len _ h refl ∙ at-once f.payload_len _ bad in
              both n f src dst bytes rest None reason.BadLength h len place missing
              (unsound src dst bytes (ap (λ (b : Bool). sound-by b (field bytes 0 16) (field bytes 16 16)) one))
              (unsound src dst all (ap (λ (b : Bool). sound-by b (field all 0 16) (field all 16 16)) two)) here there
          | inr fits ↦ options-by n f src dst bytes rest _ _ (ap (λ (g : FrameFields). g.icmp) fresh) h cut (omega (arith, len, size, fits)) len place missing refl refl
        ]
      ]
    ]
  where
    cut-few : length bytes < 20 → cut_tcp f src dst bytes ≡ cut_header f 20
    cut-few few = rw (lt-true (length bytes) 20 few) refl

    at-once : (n : ℕ) (short : Bool) → (nat_lt (tcp.header_len bytes) 20 || nat_lt n (tcp.header_len bytes)) ≡ true
        → fault-by (tcp.header_len bytes) n (field bytes 0 16) (field bytes 16 16) (control_of bytes) short ≡ reason.BadLength
    at-once n short bad = rw bad refl

    same : 20 ≤ length bytes → tcp.header_len bytes ≤ length bytes → tcp_of src dst false bytes ≡ tcp_of src dst false (bytes ++ rest)
    same h captured = elim (cases_lt (tcp.header_len bytes) 20) [
      | inl few ↦
          let all = bytes ++ rest in
          let size = longer bytes rest in
          let one = lengths-are bytes (tcp.header_len bytes) false true h refl (le-false _ _ few) (le-true _ _ captured) in
          let two = lengths-are all (tcp.header_len bytes) false true (omega (arith, size, h)) (len-front bytes rest h) (le-false _ _ few) (le-true _ _ (omega (arith, size, captured))) in
          unsound src dst bytes (ap (λ (b : Bool). sound-by b (field bytes 0 16) (field bytes 16 16)) one)
          ∙ sym (unsound src dst all (ap (λ (b : Bool). sound-by b (field all 0 16) (field all 16 16)) two))
      | inr least ↦ value-captured src dst bytes rest least captured
    ]
