-- The struct of an IPv6 packet that was not captured as a whole.
use Rattle.std.proofs.Common.{ℕ, ◌≡◌, ◌∙◌, ◌≤◌, ◌<◌, ◌⊎◌, inl, inr, ◌+◌, ◌*◌, ◌-◌, ◌==◌, ◌&&◌, ◌||◌, not, nat_le, nat_lt, if◌then◌else◌, Bool, true, false, List, ◌++◌, Option, Some, None, ap, drop, length, refl, slice_range, subst, sym, take, arith}
use Rattle.std.proofs.lemmas.Bool.{cases_lt, eqb-true}
use Rattle.std.proofs.lemmas.List.{drop-append-le}
use Rattle.std.specs.Option.{option_map_or}
use Rattle.ip_wire.proofs.Layers.{length-part}
use Rattle.ip_wire.specs.Field.{field}
use Rattle.ip_wire.specs.Ip.{dst_addr_of, src_addr_of}
use Rattle.ip_wire.specs.Ipv6 as ipv6
use Rattle.ip_wire.specs.Ipv6.{ipv6_of}
use Rattle.ip_wire.specs.Protocol.{protocol_of}
use Rattle.ip_wire.specs.Types.{Ipv6, Ipv6Repr}
use Rattle.ip_wire.specs.declared.IpAddress.TheVariants as address
use Rattle.ip_wire.specs.declared.Ipv6FragmentRepr.{Ipv6FragmentRepr}
use Rattle.c_structs.specs.Written.{flag}
use Rattle.c_structs.specs.declared.codes.Reason.TheVariants as reason
use Rattle.c_structs.specs.declared.types.FrameFields.{FrameFields}
use Rattle.c_structs.specs.declared.types.Ip.{Ip}
use Rattle.c_read.proofs.CutBytes.{field-front, le-false, le-true, longer, lt-false, lt-true, range-following, range-front}
use Rattle.wire_extensions.proofs.Steps.{chain-right, none-some}
use Rattle.c_read.proofs.CutChain.{CutsChain, chain-front}
use Rattle.c_read.proofs.CutIpv4.{bool, cut-by, dropped}
use Rattle.c_read.proofs.CutPorts.{cut-fragment, no-ports}
use Rattle.c_read.proofs.CutOf.{IsNext, IsStart, KeepsBefore, cut-as, cut-network, rejected-next, same-of, start-network, start-rejected, start-transport, stored-next, transport-before, transport-follows}
use Rattle.c_read.proofs.StoredChain.{a-fault, cut-extension-kept, extension-kept, no-part}
use Rattle.c_read.specs.Captured.{IsCutOf, IsCutWithin, after_network, before, begun_ipv6, cut_extended, cut_header, cut_ipv6, cut_transport_by, transport_header}
use Rattle.c_read.specs.FrameFields.{fragment_values, ipv6_fault, ipv6_values, is_first, rejected, stepped_over, with_chain, with_extended, with_ipv6, with_ipv6_fields, with_ipv6_header, with_transport_by}
use Rattle.wire_extensions.specs.Chain.{chain_of, is_part}
use Rattle.wire_extensions.specs.Extension.{is_extension}
use Rattle.wire_extensions.specs.declared.chain.Chain.{Chain}
use Rattle.wire_extensions.specs.declared.chain.ExtensionFault.TheVariants as fault

-- ---- whether the bytes are a header

-- the tests of a header, by its numbers
abbrev tested : ℕ → ℕ → ℕ → Bool
tested total_len version len = nat_le total_len len && version == 6

absent : (bytes : List ℕ) → ipv6.is_read bytes ≡ false → ipv6_of bytes ≡ None
unfolding ipv6_of
absent bytes e = rw e refl

present : (bytes : List ℕ) → ipv6.is_read bytes ≡ true → ipv6_of bytes ≡ Some (ipv6.header_of bytes)
unfolding ipv6_of
present bytes e = rw e refl

-- the struct of a packet, by its header and its payload
abbrev carrying : FrameFields → Ipv6Repr → List ℕ → FrameFields
carrying next v payload = with_extended next (src_addr_of (Ipv6 v)) (dst_addr_of (Ipv6 v)) payload

abbrev shape : FrameFields → List ℕ → Option Ipv6Repr → FrameFields
shape f bytes o = option_map_or (λ v. carrying (with_ipv6_header f bytes v) v (ipv6.payload_of bytes)) o (rejected f (ipv6_fault bytes))

none : (f : FrameFields) (bytes : List ℕ) → ipv6.is_read bytes ≡ false → with_ipv6 f bytes ≡ rejected f (ipv6_fault bytes)
none f bytes e = ap (shape f bytes) (absent bytes e)

some : (f : FrameFields) (bytes : List ℕ) → ipv6.is_read bytes ≡ true
    → with_ipv6 f bytes ≡ carrying (with_ipv6_fields f bytes (ipv6.header_of bytes) (length (ipv6.payload_of bytes))) (ipv6.header_of bytes) (ipv6.payload_of bytes)
some f bytes e = ap (shape f bytes) (present bytes e)

-- the header of a packet has 40 bytes, or is rejected
pub ipv6-next : (f : FrameFields) (bytes : List ℕ) (len : ℕ) → IsStart f → len ≤ f.payload_len → len ≤ 40 → IsNext f (with_ipv6 f bytes) len
ipv6-next f bytes len start fits few = elim (bool (ipv6.is_read bytes)) [
  | inr never ↦ subst (λ g. IsNext f g len) (sym (none f bytes never)) (rejected-next f (ipv6_fault bytes) len (start-network f start) fits)
  | inl read ↦
      let v = ipv6.header_of bytes in
      let payload = ipv6.payload_of bytes in
      let next = with_ipv6_fields f bytes v (length payload) in
      let c = chain_of next.protocol (length payload) payload in
      let part = with_chain next c (drop c.len payload) in
      let follows = transport-follows part (protocol_of c.protocol) (src_addr_of (Ipv6 v)) (dst_addr_of (Ipv6 v)) (drop c.len payload) (start-transport f start) (start-rejected f start) in
      subst (λ g. IsNext f g len) (sym (some f bytes read))
      (stored-next f part (carrying next v payload) len (40 + c.len) follows refl refl refl (omega arith) (omega (arith, few)))
]

-- ---- the header with more bytes after it

total-front : (bytes rest : List ℕ) → 40 ≤ length bytes → ipv6.total_len (bytes ++ rest) ≡ ipv6.total_len bytes
total-front bytes rest h = ap (λ (n : ℕ). 40 + n) (field-front bytes rest 32 16 (omega (arith, h)))

version-front : (bytes rest : List ℕ) → 40 ≤ length bytes → field (bytes ++ rest) 0 4 ≡ field bytes 0 4
version-front bytes rest h = field-front bytes rest 0 4 (omega (arith, h))

read-front : (bytes rest : List ℕ) → 40 ≤ length bytes → ipv6.is_read (bytes ++ rest) ≡ tested (ipv6.total_len bytes) (field bytes 0 4) (length (bytes ++ rest))
read-front bytes rest h = rw (total-front bytes rest h, version-front bytes rest h) refl

value-front : (bytes rest : List ℕ) → 40 ≤ length bytes → ipv6.header_of (bytes ++ rest) ≡ ipv6.header_of bytes
value-front bytes rest h =
    rw (
      field-front bytes rest 48 8 (omega (arith, h)),
      field-front bytes rest 32 16 (omega (arith, h)),
      field-front bytes rest 56 8 (omega (arith, h)),
      range-front bytes rest 8 24 (omega arith) (omega (arith, h)),
      range-front bytes rest 24 40 (omega arith) (omega (arith, h)),
    ) refl

values-front : (i : Ip) (v : Ipv6Repr) (bytes rest : List ℕ) → 40 ≤ length bytes → ipv6_values i (bytes ++ rest) v ≡ ipv6_values i bytes v
values-front i v bytes rest h =
    rw (field-front bytes rest 12 20 (omega (arith, h)), field-front bytes rest 48 8 (omega (arith, h)), field-front bytes rest 4 8 (omega (arith, h))) refl

fields-front : (f : FrameFields) (bytes rest : List ℕ) (v : Ipv6Repr) (n : ℕ) → 40 ≤ length bytes → with_ipv6_fields f (bytes ++ rest) v n ≡ with_ipv6_fields f bytes v n
fields-front f bytes rest v n h = rw (values-front f.ip v bytes rest h, field-front bytes rest 48 8 (omega (arith, h))) refl

-- the whole packet, by the captured header and the payload
some-front : (f : FrameFields) (bytes rest payload : List ℕ) → 40 ≤ length bytes → tested (ipv6.total_len bytes) (field bytes 0 4) (length (bytes ++ rest)) ≡ true
    → slice_range (bytes ++ rest) 40 (ipv6.total_len bytes) ≡ payload → with_ipv6 f (bytes ++ rest) ≡ carrying (with_ipv6_fields f bytes (ipv6.header_of bytes) (length payload)) (ipv6.header_of bytes) payload
some-front f bytes rest payload h s is =
    let all = bytes ++ rest in
    let part : ipv6.payload_of all ≡ payload = ap (λ (n : ℕ). slice_range all 40 n) (total-front bytes rest h) ∙ is in
    some f all (read-front bytes rest h ∙ s)
    ∙ ap (λ (l : List ℕ). carrying (with_ipv6_fields f all (ipv6.header_of all) (length l)) (ipv6.header_of all) l) part
    ∙ ap (λ (v : Ipv6Repr). carrying (with_ipv6_fields f all v (length payload)) v payload) (value-front bytes rest h)
    ∙ ap (λ (g : FrameFields). carrying g (ipv6.header_of bytes) payload) (fields-front f bytes rest (ipv6.header_of bytes) (length payload) h)

fault-front : (bytes rest : List ℕ) → 40 ≤ length bytes → ipv6_fault (bytes ++ rest) ≡ ipv6_fault bytes
fault-front bytes rest h =
    let size = longer bytes rest in
    rw (lt-false (length (bytes ++ rest)) 40 (omega (arith, size, h)), lt-false (length bytes) 40 h, version-front bytes rest h) refl

none-front : (f : FrameFields) (bytes rest : List ℕ) → 40 ≤ length bytes → tested (ipv6.total_len bytes) (field bytes 0 4) (length (bytes ++ rest)) ≡ false
    → with_ipv6 f (bytes ++ rest) ≡ rejected f (ipv6_fault bytes)
none-front f bytes rest h e = none f (bytes ++ rest) (read-front bytes rest h ∙ e) ∙ ap (rejected f) (fault-front bytes rest h)

-- ---- the extension headers

-- nothing after the IPv6 header is stored yet
record IsBare (f : FrameFields) : Type 0 where
  clean : f ≡ before transport_header f
  after : f.payload_offset ≡ f.network_offset + 40
  ip : f.ip ≡ record f.ip { ident = 0; fragment_offset = 0; more_fragments = 0 }
  whole : f.is_fragment ≡ 0
  network : f.network ≡ 3

chain-clean : (f : FrameFields) (c : Chain) → f ≡ before transport_header f → stepped_over f c ≡ before transport_header (stepped_over f c)
chain-clean f c clean = ap (λ (g : FrameFields). stepped_over g c) clean ∙ sym (ap (λ (g : FrameFields). before transport_header (stepped_over g c)) clean)

-- the values of the IP header, but for those of a fragment header
other-values : (i : Ip) (o : Option Ipv6FragmentRepr) → record (option_map_or (fragment_values i) o i) { ident = 0; fragment_offset = 0; more_fragments = 0 }
    ≡ record i { ident = 0; fragment_offset = 0; more_fragments = 0 }
other-values i None = refl
other-values i (Some v) = refl

not-part : (v : Ipv6FragmentRepr) → is_part v ≡ false → (v.more_frags ≡ false) × (v.frag_offset ≡ 0)
not-part v none = by v.more_frags (v.frag_offset == 0) refl refl none
  where
    by : (a b : Bool) → v.more_frags ≡ a → (v.frag_offset == 0) ≡ b → (a || not b) ≡ false → (v.more_frags ≡ false) × (v.frag_offset ≡ 0)
    by true b more at e = absurd (cc)
    by false true more at e = (more, eqb-true v.frag_offset 0 at)
    by false false more at e = absurd (cc)

-- the values of an IP header after fragment headers of whole packets
whole-values : (i : Ip) (o : Option Ipv6FragmentRepr) → i ≡ record i { ident = 0; fragment_offset = 0; more_fragments = 0 } → ((v : Ipv6FragmentRepr) → o ≡ Some v → is_part v ≡ false)
    → option_map_or (fragment_values i) o i ≡ record i { ident = (option_map_or (fragment_values i) o i).ident; fragment_offset = 0; more_fragments = 0 }
whole-values i None clean h =
    let offset : i.fragment_offset ≡ 0 = ap (λ (j : Ip). j.fragment_offset) clean in
    let more : i.more_fragments ≡ 0 = ap (λ (j : Ip). j.more_fragments) clean in
    ap (λ (k : ℕ). record i { fragment_offset = k }) offset ∙ ap (λ (k : ℕ). record i { fragment_offset = 0; more_fragments = k }) more
whole-values i (Some v) clean h =
    let (more, offset) = not-part v (h v refl) in
    ap (λ (k : ℕ). record i { ident = v.ident; fragment_offset = 8 * k; more_fragments = flag v.more_frags }) offset
    ∙ ap (λ (b : Bool). record i { ident = v.ident; fragment_offset = 0; more_fragments = flag b }) more

-- the struct after a chain that ends at a header that was cut, by that of the whole packet
chain-fields : (f : FrameFields) (c d : Chain) (g : FrameFields) → IsBare f → KeepsBefore (stepped_over f d) g → ((v : Ipv6FragmentRepr) → c.fragment ≡ Some v → is_part v ≡ false)
    → let k = stepped_over f c in k ≡ record (before transport_header g) {
      ip = record g.ip { ident = k.ip.ident; fragment_offset = 0; more_fragments = 0 };
      is_fragment = 0;
      protocol = k.protocol;
      reason = k.reason;
      payload_offset = k.payload_offset;
      payload_len = k.payload_len;
      payload_captured = k.payload_captured;
    }
chain-fields f c d g bare kept part =
    let k = stepped_over f c in
    let values = whole-values f.ip c.fragment bare.ip part in
    let whole = ap (λ (n : ℕ). option_map_or (λ v. flag (is_part v)) c.fragment n) bare.whole ∙ no-part c.fragment part in
    ap (λ (e : FrameFields). record e { payload_offset = k.payload_offset; payload_len = k.payload_len; ip = k.ip; protocol = k.protocol; is_fragment = k.is_fragment; reason = k.reason }) bare.clean
    ∙ ap (λ (i : Ip). record (before transport_header f) { payload_offset = k.payload_offset; payload_len = k.payload_len; ip = i; protocol = k.protocol; is_fragment = k.is_fragment; reason = k.reason }) values
    ∙ ap (λ (n : ℕ). record (before transport_header f) {
      payload_offset = k.payload_offset;
      payload_len = k.payload_len;
      ip = record f.ip { ident = k.ip.ident; fragment_offset = 0; more_fragments = 0 };
      protocol = k.protocol;
      is_fragment = n;
      reason = k.reason;
    }) whole
    ∙ sym (ap (λ (i : Ip). record (before transport_header f) {
      payload_offset = k.payload_offset;
      payload_len = k.payload_len;
      ip = record i { ident = k.ip.ident };
      protocol = k.protocol;
      is_fragment = 0;
      reason = k.reason;
    }) (other-values f.ip d.fragment))
    ∙ sym (ap (λ (e : FrameFields). record e {
      ip = record e.ip { ident = k.ip.ident; fragment_offset = 0; more_fragments = 0 };
      is_fragment = 0;
      protocol = k.protocol;
      reason = k.reason;
      payload_offset = k.payload_offset;
      payload_len = k.payload_len;
      payload_captured = k.payload_captured;
    }) kept)

-- the ports after the headers of whole packets are not those of a fragment
not-first : (o : Option Ipv6FragmentRepr) → ((v : Ipv6FragmentRepr) → o ≡ Some v → is_part v ≡ false) → option_map_or is_first o false ≡ false
not-first None h = refl
not-first (Some v) h = ap (λ (b : Bool). b && v.frag_offset == 0) (not-part v (h v refl)).0

chain-whole : (f : FrameFields) (c : Chain) (rest : List ℕ) → ((v : Ipv6FragmentRepr) → c.fragment ≡ Some v → is_part v ≡ false) → with_chain f c rest ≡ stepped_over f c
chain-whole f c rest h = no-ports (stepped_over f c) (option_map_or is_first c.fragment false) (protocol_of (field rest 0 8)) (drop 8 rest) (not-first c.fragment h)

-- the chain of the captured bytes ends at a header that was cut
within-chain : (n : ℕ) (f : FrameFields) (c d : Chain) (src dst bytes rest : List ℕ) → IsBare f → n ≡ f.payload_offset + length bytes → CutsChain (length bytes) c d
    → IsCutWithin n (stepped_over f c) (with_transport_by (with_chain f d rest) (protocol_of d.protocol) (address.Ipv6 src) (address.Ipv6 dst) rest)
within-chain n f c d src dst bytes rest bare place cut =
    let h = with_chain f d rest in
    let p = protocol_of d.protocol in
    let g = with_transport_by h p (address.Ipv6 src) (address.Ipv6 dst) rest in
    let none = ap (λ (k : FrameFields). k.transport) bare.clean in
    let unsaid = ap (λ (k : FrameFields). k.rejected) bare.clean in
    let follows = transport-follows h p (address.Ipv6 src) (address.Ipv6 dst) rest none unsaid in
    let kept = transport-before h p (address.Ipv6 src) (address.Ipv6 dst) rest in
    let begins : after_network g ≡ f.payload_offset + d.len = follows.begins in
    let after = bare.after in
    let order = cut.order in
    record {
      reason = a-fault c.fault fault.HeaderCut f.reason cut.fault;
      after = rw follows.offset (omega (arith, after));
      missing = elim cut.missing [
        | inl past ↦ inl (rw begins (omega (arith, place, past)))
        | inr (same, number) ↦
            inr (ap (λ (k : ℕ). f.payload_offset + k) (sym same) ∙ sym (ap (λ (k : FrameFields). k.payload_offset) (extension-kept h d.protocol src dst rest number)))
      ];
      order = rw begins (omega (arith, order));
      fields = chain-fields f c d g bare kept cut.part;
    }

-- what a chain leads to
abbrev led : FrameFields → List ℕ → List ℕ → List ℕ → Chain → FrameFields
led f src dst bytes c = with_transport_by (with_chain f c (drop c.len bytes)) (protocol_of c.protocol) (address.Ipv6 src) (address.Ipv6 dst) (drop c.len bytes)

-- the chain of the captured bytes is that of the whole packet
ended-cut : (n : ℕ) (f : FrameFields) (src dst : List ℕ) (c : Chain) (bytes rest : List ℕ) → IsBare f
    → ((v : Ipv6FragmentRepr) → c.fragment ≡ Some v → is_part v ≡ true → c.protocol ≡ 44) → f.payload_len - c.len ≡ length (bytes ++ rest)
    → n ≡ f.payload_offset + c.len + length bytes → length bytes < f.payload_len - c.len
    → IsCutOf n (cut_transport_by (with_chain f c bytes) (protocol_of c.protocol) (address.Ipv6 src) (address.Ipv6 dst) bytes)
    (with_transport_by (with_chain f c (bytes ++ rest)) (protocol_of c.protocol) (address.Ipv6 src) (address.Ipv6 dst) (bytes ++ rest))
ended-cut n f src dst c bytes rest bare ends len place missing = elim (parted c.fragment) [
  | inl whole ↦
      let p = protocol_of c.protocol in
      cut-as _ _ _ _ (ap (λ (g : FrameFields). cut_transport_by g p (address.Ipv6 src) (address.Ipv6 dst) bytes) (chain-whole f c bytes whole))
      (ap (λ (g : FrameFields). with_transport_by g p (address.Ipv6 src) (address.Ipv6 dst) (bytes ++ rest)) (chain-whole f c (bytes ++ rest) whole))
      (cut-by n (stepped_over f c) p (address.Ipv6 src) (address.Ipv6 dst) bytes rest (chain-clean f c bare.clean) len place missing)
  | inr (v, is, part) ↦
      let number : is_extension c.protocol ≡ true = ap is_extension (ends v is part) in
      cut-as _ _ _ _ (cut-extension-kept (with_chain f c bytes) c.protocol src dst bytes number)
      (extension-kept (with_chain f c (bytes ++ rest)) c.protocol src dst (bytes ++ rest) number)
      (cut-fragment n (stepped_over f c) (option_map_or is_first c.fragment false) bytes rest (chain-clean f c bare.clean)
      (ap (λ (o : Option Ipv6FragmentRepr). option_map_or (λ u. flag (is_part u)) o f.is_fragment) is ∙ ap flag part) bare.network place)
]
  where
    -- there is the header of a fragment or not
    parted : (o : Option Ipv6FragmentRepr) → ((v : Ipv6FragmentRepr) → o ≡ Some v → is_part v ≡ false) ⊎ ((v : Ipv6FragmentRepr) × (o ≡ Some v) × (is_part v ≡ true))
    parted None = inl (λ v e. none-some v e)
    parted (Some v) = elim (bool (is_part v)) [
      | inl part ↦ inr (v, refl, part)
      | inr whole ↦ inl (λ u e. subst (λ (p : Option Ipv6FragmentRepr). option_map_or is_part p false ≡ false) e whole)
    ]

extended-cut : (n : ℕ) (f : FrameFields) (src dst bytes rest : List ℕ) → IsBare f → f.payload_len ≡ length (bytes ++ rest) → n ≡ f.payload_offset + length bytes
    → length bytes < f.payload_len → IsCutOf n (cut_extended f (address.Ipv6 src) (address.Ipv6 dst) bytes) (with_extended f (address.Ipv6 src) (address.Ipv6 dst) (bytes ++ rest))
extended-cut n f src dst bytes rest bare len place missing =
    let all = bytes ++ rest in
    let c = chain_of f.protocol f.payload_len bytes in
    let d = chain_of f.protocol f.payload_len all in
    let found : with_extended f (address.Ipv6 src) (address.Ipv6 dst) all ≡ led f src dst all d =
    ap (λ (k : ℕ). led f src dst all (chain_of f.protocol k all)) (sym len) in
    elim (chain-front f.protocol f.payload_len bytes rest len) [
      | inr cut ↦
          let kept = cut-extension-kept (with_chain f c (drop c.len bytes)) c.protocol src dst (drop c.len bytes) cut.number in
          cut-as _ _ _ _ (kept ∙ chain-whole f c (drop c.len bytes) cut.part) found
          (inr (inr (inl (within-chain n f c d src dst bytes (drop d.len all) bare place cut))))
      | inl same ↦
          let right = chain-right f.protocol f.payload_len bytes in
          let within = right.within in
          let size = dropped c.len bytes in
          let more = longer bytes rest in
          let left = longer (drop c.len bytes) rest in
          let p = protocol_of c.protocol in
          let whole = found ∙ ap (led f src dst all) (sym same)
          ∙ ap (λ (l : List ℕ). with_transport_by (with_chain f c l) p (address.Ipv6 src) (address.Ipv6 dst) l) (drop-append-le c.len bytes rest within) in
          cut-as _ _ _ _ refl whole
          (ended-cut n f src dst c (drop c.len bytes) rest bare (λ v e part. (right.part v e part).0)
          (omega (arith, len, more, left, size, within)) (omega (arith, place, size, within)) (omega (arith, size, within, missing)))
    ]

-- ---- the cases

captured-front : (f : FrameFields) (bytes rest : List ℕ) → 40 ≤ length bytes → ipv6.total_len bytes ≤ length bytes → with_ipv6 f bytes ≡ with_ipv6 f (bytes ++ rest)
captured-front f bytes rest h whole =
    let all = bytes ++ rest in
    let size = longer bytes rest in
    let tl = ipv6.total_len bytes in
    let same : tested tl (field bytes 0 4) (length all) ≡ tested tl (field bytes 0 4) (length bytes) =
    ap (λ (b : Bool). b && field bytes 0 4 == 6) (le-true tl (length all) (omega (arith, size, whole)) ∙ sym (le-true tl (length bytes) whole))
    in
    elim (bool (tested tl (field bytes 0 4) (length bytes))) [
      | inr off ↦ none f bytes off ∙ sym (none-front f bytes rest h (same ∙ off))
      | inl s ↦ some f bytes s ∙ sym (some-front f bytes rest (ipv6.payload_of bytes) h (same ∙ s) (range-front bytes rest 40 tl (omega arith) whole))
    ]

short-cut : (n : ℕ) (f : FrameFields) (bytes rest : List ℕ) → IsStart f → f.payload_len ≡ length (bytes ++ rest) → n < f.payload_offset + 40
    → IsCutOf n (cut_header f 40) (with_ipv6 f (bytes ++ rest))
short-cut n f bytes rest start len part =
    let all = bytes ++ rest in
    elim (cases_lt (length all) 40) [
      | inl few ↦
          let off : ipv6.is_read all ≡ false = rw (le-false (ipv6.total_len all) (length all) (omega (arith, few))) refl in
          same-of _ _ (rw (lt-true f.payload_len 40 (omega (arith, few, len)), none f all off, lt-true (length all) 40 few) refl)
      | inr more ↦
          cut-as _ _ _ _ (ap (λ (b : Bool). rejected f (if b then reason.TooShort else reason.HeaderCut)) (lt-false f.payload_len 40 (omega (arith, more, len)))) refl
          (cut-network n f (with_ipv6 f all) 40 start (ipv6-next f all 40 start (omega (arith, more, len)) (omega arith)) part)
    ]

-- the header was captured
begun : (n : ℕ) (f : FrameFields) (bytes rest : List ℕ) → IsStart f → 40 ≤ length bytes → length bytes < ipv6.total_len bytes → ipv6.total_len bytes ≤ length (bytes ++ rest)
    → (field bytes 0 4 == 6) ≡ true → n ≡ f.payload_offset + length bytes → IsCutOf n (begun_ipv6 f bytes) (with_ipv6 f (bytes ++ rest))
begun n f bytes rest start h cut whole version place =
    let all = bytes ++ rest in
    let tl = ipv6.total_len bytes in
    let v = ipv6.header_of bytes in
    let front = drop 40 bytes in
    let back = take (tl - length bytes) rest in
    let s : tested tl (field bytes 0 4) (length all) ≡ true = ap (λ (b : Bool). b && field bytes 0 4 == 6) (le-true tl (length all) whole) ∙ version in
    let payload = range-following bytes rest 40 tl h (omega (arith, cut)) in
    let size : tl - 40 ≡ v.payload_len = omega arith in
    let count : length (front ++ back) ≡ v.payload_len = ap length (sym payload) ∙ length-part all 40 tl whole ∙ size in
    let next = with_ipv6_fields f bytes v v.payload_len in
    let found = some-front f bytes rest (front ++ back) h s payload ∙ ap (λ (n : ℕ). carrying (with_ipv6_fields f bytes v n) v (front ++ back)) count in
    let first = ap (λ (g : FrameFields). with_ipv6_fields g bytes v v.payload_len) start in
    let clean : next ≡ before transport_header next = first ∙ sym (ap (λ (g : FrameFields). before transport_header (with_ipv6_fields g bytes v v.payload_len)) start) in
    let values = ap (λ (g : FrameFields). (with_ipv6_fields g bytes v v.payload_len).ip) start
    ∙ sym (ap (λ (g : FrameFields). record (with_ipv6_fields g bytes v v.payload_len).ip { ident = 0; fragment_offset = 0; more_fragments = 0 }) start) in
    let many : length front ≡ length bytes - 40 = dropped 40 bytes in
    cut-as _ _ _ _ refl found
    (extended-cut n next v.src_addr v.dst_addr front back (record { clean = clean; after = refl; ip = values; whole = ap (λ (g : FrameFields). g.is_fragment) start; network = refl })
    (sym count) (omega (arith, place, many, h)) (omega (arith, many, h, cut, size)))

-- what the cut reader stores, by its tests
abbrev stored : FrameFields → List ℕ → Bool → Bool → Bool → Bool → FrameFields
stored f bytes few whole version fits =
    if few then cut_header f 40
    else if whole then with_ipv6 f bytes
    else if not version || fits then rejected f (ipv6_fault bytes)
    else begun_ipv6 f bytes

by-tests : (f : FrameFields) (bytes : List ℕ) (few whole version fits : Bool) → nat_lt (length bytes) 40 ≡ few → nat_le (ipv6.total_len bytes) (length bytes) ≡ whole → (field bytes 0 4 == 6) ≡ version
    → nat_lt f.payload_len (ipv6.total_len bytes) ≡ fits → cut_ipv6 f bytes ≡ stored f bytes few whole version fits
by-tests f bytes few whole version fits a b c d = rw (a, b, c, d) refl

pub cut-ipv6 : (n : ℕ) (f : FrameFields) (bytes rest : List ℕ) → IsStart f → f.payload_len ≡ length (bytes ++ rest) → n ≡ f.payload_offset + length bytes
    → IsCutOf n (cut_ipv6 f bytes) (with_ipv6 f (bytes ++ rest))
cut-ipv6 n f bytes rest start len place =
    let all = bytes ++ rest in
    let tl = ipv6.total_len bytes in
    elim (cases_lt (length bytes) 40) [
      | inl few ↦ cut-as _ _ _ _ (by-tests f bytes true _ _ _ (lt-true _ _ few) refl refl refl) refl (short-cut n f bytes rest start len (omega (arith, place, few)))
      | inr h ↦ elim (cases_lt (length bytes) tl) [
        | inr whole ↦ same-of _ _ (by-tests f bytes false true _ _ (lt-false _ _ h) (le-true _ _ whole) refl refl ∙ captured-front f bytes rest h whole)
        | inl cut ↦ elim (cases_lt f.payload_len tl) [
          | inl few ↦
              let off : tested tl (field bytes 0 4) (length all) ≡ false = ap (λ (b : Bool). b && field bytes 0 4 == 6) (le-false tl (length all) (omega (arith, few, len))) in
              same-of _ _ (by-tests f bytes false false _ true (lt-false _ _ h) (le-false _ _ cut) refl (lt-true _ _ few) ∙ either (field bytes 0 4 == 6) ∙ sym (none-front f bytes rest h off))
          | inr fits ↦ elim (bool (field bytes 0 4 == 6)) [
            | inr other ↦
                let off : tested tl (field bytes 0 4) (length all) ≡ false = ap (λ (b : Bool). nat_le tl (length all) && b) other ∙ last (nat_le tl (length all)) in
                same-of _ _ (by-tests f bytes false false false _ (lt-false _ _ h) (le-false _ _ cut) other refl ∙ sym (none-front f bytes rest h off))
            | inl six ↦
                cut-as _ _ _ _ (by-tests f bytes false false true false (lt-false _ _ h) (le-false _ _ cut) six (lt-false _ _ fits)) refl
                (begun n f bytes rest start h cut (omega (arith, len, fits)) six place)
          ]
        ]
      ]
    ]
  where
    either : (b : Bool) → stored f bytes false false b true ≡ rejected f (ipv6_fault bytes)
    either true = refl
    either false = refl

    last : (b : Bool) → (b && false) ≡ false
    last true = refl
    last false = refl
