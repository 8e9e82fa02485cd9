-- The whole packet that is at the front of a buffer is the one that the fragments make.
use Rattle.std.proofs.Common.{ℕ, ◌≡◌, ◌≤◌, ◌<◌, ◌+◌, ◌-◌, ◌/◌, ◌%◌, ◌^◌, inl, inr, Bool, true, false, cond, List, [], ◌∷◌, ◌++◌, ◌*◌, ◌||◌, get_or, length, drop, take, slice_range, refl, sym, ap, subst, ◌∙◌, arith}
use Rattle.std.proofs.lemmas.List.{drop_at, get_or-take, length-take-le}
use Rattle.ip_wire.specs.Field.{bit, field}
use Rattle.ip_wire.specs.Ipv4.{header_len, ip_version_of}
use Rattle.ip_wire.specs.Ipv4 as ipv4
use Rattle.ip_wire.specs.Ipv6 as ipv6
use Rattle.ip_wire.proofs.Cells.{cells-drop}
use Rattle.ip_wire.proofs.Spelled.{AreBytes}
use Rattle.app_fragment.proofs.Collected.{Found, found_one}
use Rattle.app_fragment.proofs.Headers.{header-parts}
use Rattle.app_fragment.proofs.Versions.{four, six}
use Rattle.app_fragment.proofs.Wholes as wholes4
use Rattle.app_fragment.proofs.WholesIpv6 as wholes6
use Rattle.app_fragment.specs.Datagram.{EachPacket, HasIpv4HeaderOf, HasIpv6HeaderOf, IsHeaderOf, IsWhole, IsWholeIpv4, IsWholeIpv6, OnePacket, fragments_of, has_ecn, ipv4_whole_header, ipv6_whole_header, whole_bytes, whole_header}
use Rattle.app_fragment.specs.Fragments.{Fragment, Make}
use Rattle.app_fragment.specs.Ipv4Fragments.{IsIpv4}
use Rattle.app_fragment.specs.Ipv4Fragments as v4
use Rattle.app_fragment.specs.Parts.{IsIpv6, IsOf, IsValid, counted_len, header_of, ipv4_key, ipv6_key, part_header_len, whole_header_len, whole_payload}
use Rattle.app_fragment.specs.declared.part.FragKey.{FragKey}

-- ---- IPv4

-- fields of the first 20 bytes
record HasFields (a b : List ℕ) : Type 0 where
  pub version : ip_version_of a ≡ ip_version_of b
  pub header : header_len a ≡ header_len b
  pub key : ipv4_key a ≡ ipv4_key b
  pub ecn : ipv4.ecn_of a ≡ ipv4.ecn_of b

fields-front : (bytes rest : List ℕ) → 20 ≤ length bytes → HasFields (take 20 bytes ++ rest) bytes
fields-front bytes rest room = rw (cells-drop 20 bytes room) (record { version = refl; header = refl; key = refl; ecn = refl })

-- the header of an IPv4 packet
record IsIpv4Header (h p : List ℕ) : Type 0 where
  pub fields : HasFields h p
  pub whole : header_len h ≡ length h
  pub long : length h ≡ header_len p
  pub bits : (i : ℕ) → i < 160 → bit h i ≡ bit p i
  pub options : drop 20 h ≡ slice_range p 20 (header_len p)

ipv4-header : (h p : List ℕ) → IsIpv4 p → h ≡ header_of p → IsIpv4Header h p
ipv4-header h p v from =
    let start : part_header_len p ≡ header_len p = four p _ _ v.version in
    let same : h ≡ take (header_len p) p = from ∙ ap (λ n. take n p) start in
    let parts : h ≡ take 20 p ++ slice_range p 20 (header_len p) = same ∙ header-parts p (header_len p) v.lengths.header in
    let fields : HasFields h p = subst (λ l. HasFields l p) (sym parts) (fields-front p (slice_range p 20 (header_len p)) v.lengths.least) in
    let long = length-take-le (header_len p) p (omega (arith, v.lengths.within, v.lengths.whole)) in
    record {
      fields = fields;
      whole = fields.header ∙ sym (ap length same ∙ long);
      long = ap length same ∙ long;
      bits = λ i low.
          ap (λ l. bit l i) same
          ∙ ap (λ b. b / 2 ^ (7 - i % 8) % 2) (get_or-take (header_len p) p (i / 8) 0 (omega (arith, v.lengths.header)));
      options = ap (drop 20) parts ∙ drop_at (take 20 p) (slice_range p 20 (header_len p)) 20 (length-take-le 20 p v.lengths.least);
    }

whole-ipv4 : (key : FragKey) (h payload rest : List ℕ) (ps : List (List ℕ)) (len : ℕ) (f : Found (IsOf key) (IsHeaderOf h) ps) → IsIpv4 f.packet
    → AreBytes h → counted_len h + length payload ≤ 65535 → whole_header_len h + length payload ≡ len → Make (fragments_of ps) payload
    → IsWholeIpv4 key ps len (whole_bytes h payload (has_ecn 3 ps) ++ rest)
whole-ipv4 key h payload rest ps len f v are fits long make =
    let p = f.packet in
    let ce = has_ecn 3 ps in
    let is = ipv4-header h f.packet v f.one.1 in
    let version : ip_version_of h ≡ 4 = is.fields.version ∙ v.version in
    let counted : counted_len h ≡ header_len h = four h _ _ version in
    let start : whole_header_len h ≡ header_len h = four h _ _ version in
    let m = wholes4.is_made ce h payload rest are (omega (arith, is.long, v.lengths.header)) is.whole (omega (arith, counted, is.whole, fits)) in
    let out = (ipv4_whole_header h (length payload) ce ++ payload) ++ rest in
    let there : ip_version_of ((ipv4_whole_header h (length payload) ce ++ payload) ++ rest) ≡ 4 = m.version ∙ version in
    let same : ipv4_whole_header h (length payload) ce ≡ whole_header h (length payload) ce =
    sym (four h (ipv4_whole_header h (length payload) ce) (ipv6_whole_header h (length payload) ce) version) in
    subst (λ w. IsWholeIpv4 key ps len ((w ++ payload) ++ rest)) same (record {
      valid = record { lengths = m.lengths; version = there; checksum = m.checksum };
      total = m.total ∙ omega (arith, start, is.whole, long);
      only = m.only;
      same = four out (ipv4_key out) (ipv6_key out) there ∙ m.key ∙ is.fields.key ∙ sym (four p (ipv4_key p) (ipv6_key p) v.version) ∙ f.all.same;
      header = f.back (HasIpv4HeaderOf ps out) (record {
        first = f.one.0;
        bits = λ i low common ecn. m.bits i low common ecn ∙ is.bits i low;
        ecn =
            four out (ipv4.ecn_of out) (field out 10 2) there ∙ m.ecn
            ∙ ap (cond ce 3) (is.fields.ecn ∙ sym (four p (ipv4.ecn_of p) (field p 10 2) v.version));
        options = m.options ∙ is.options;
      });
      payload = rw m.payload_is make;
    })

-- ---- IPv6

-- fields of the first 48 bytes
record HasIpv6Fields (a b : List ℕ) : Type 0 where
  pub version : ip_version_of a ≡ ip_version_of b
  pub src : ipv6.src_addr_of a ≡ ipv6.src_addr_of b
  pub dst : ipv6.dst_addr_of a ≡ ipv6.dst_addr_of b
  pub next_header : field a 320 8 ≡ field b 320 8
  pub ecn : field a 10 2 ≡ field b 10 2

ipv6-fields : (bytes : List ℕ) → 48 ≤ length bytes → HasIpv6Fields (take 48 bytes) bytes
ipv6-fields bytes room = rw (cells-drop 48 bytes room) (record { version = refl; src = refl; dst = refl; next_header = refl; ecn = refl })

-- the header of an IPv6 packet
record IsIpv6Header (h p : List ℕ) : Type 0 where
  pub fields : HasIpv6Fields h p
  pub long : length h ≡ 48
  pub bits : (i : ℕ) → i < 320 → bit h i ≡ bit p i

ipv6-header : (h p : List ℕ) → IsIpv6 p → h ≡ header_of p → IsIpv6Header h p
ipv6-header h p v from =
    let start : part_header_len p ≡ 48 = six p _ _ v.version in
    let same : h ≡ take 48 p = from ∙ ap (λ n. take n p) start in
    let room : 48 ≤ length p = omega (arith, v.lengths, v.whole) in
    record {
      fields = subst (λ l. HasIpv6Fields l p) (sym same) (ipv6-fields p room);
      long = ap length same ∙ length-take-le 48 p room;
      bits = λ i low. ap (λ l. bit l i) same ∙ ap (λ b. b / 2 ^ (7 - i % 8) % 2) (get_or-take 48 p (i / 8) 0 (omega arith));
    }

whole-ipv6 : (key : FragKey) (h payload rest : List ℕ) (ps : List (List ℕ)) (len : ℕ) (f : Found (IsOf key) (IsHeaderOf h) ps) → IsIpv6 f.packet
    → AreBytes h → counted_len h + length payload ≤ 65535 → whole_header_len h + length payload ≡ len → Make (fragments_of ps) payload
    → IsWholeIpv6 key ps len (whole_bytes h payload (has_ecn 3 ps) ++ rest)
whole-ipv6 key h payload rest ps len f v are fits long make =
    let p = f.packet in
    let ce = has_ecn 3 ps in
    let is = ipv6-header h f.packet v f.one.1 in
    let version : ip_version_of h ≡ 6 = is.fields.version ∙ v.version in
    let counted : counted_len h ≡ 0 = six h _ _ version in
    let start : whole_header_len h ≡ 40 = six h _ _ version in
    let m = wholes6.is_made ce h payload rest are is.long (omega (arith, counted, fits)) in
    let out = (ipv6_whole_header h (length payload) ce ++ payload) ++ rest in
    let there : ip_version_of ((ipv6_whole_header h (length payload) ce ++ payload) ++ rest) ≡ 6 = m.version ∙ version in
    let same : ipv6_whole_header h (length payload) ce ≡ whole_header h (length payload) ce =
    sym (six h (ipv4_whole_header h (length payload) ce) (ipv6_whole_header h (length payload) ce) version) in
    let k : ipv6_key p ≡ key = sym (six p (ipv4_key p) (ipv6_key p) v.version) ∙ f.all.same in
    subst (λ w. IsWholeIpv6 key ps len ((w ++ payload) ++ rest)) same (record {
      version_of_key = sym (ap (λ k. k.version) k);
      lengths = m.lengths;
      version = there;
      total = m.total ∙ omega (arith, start, long);
      src = m.src ∙ is.fields.src ∙ ap (λ k. k.src) k;
      dst = m.dst ∙ is.fields.dst ∙ ap (λ k. k.dst) k;
      header = f.back (HasIpv6HeaderOf ps out) (record {
        first = f.one.0;
        bits = λ i low common ecn. m.bits i low common ecn ∙ is.bits i low;
        ecn =
            six out (ipv4.ecn_of out) (field out 10 2) there ∙ m.ecn
            ∙ ap (cond ce 3) (is.fields.ecn ∙ sym (six p (ipv4.ecn_of p) (field p 10 2) v.version));
        next_header = m.next_header ∙ is.fields.next_header;
      });
      payload = rw m.payload_is make;
    })

-- ---- both

pub is_whole : (key : FragKey) (h payload rest : List ℕ) (ps : List (List ℕ)) (ce : Bool) (len : ℕ) → AreBytes h → counted_len h + length payload ≤ 65535
    → whole_header_len h + length payload ≡ len → ce ≡ has_ecn 3 ps → EachPacket (IsOf key) ps → OnePacket (IsHeaderOf h) ps → Make (fragments_of ps) payload
    → IsWhole key ps len (whole_bytes h payload ce ++ rest)
is_whole key h payload rest ps ce len are fits long cong all one make =
    subst (λ b. IsWhole key ps len (whole_bytes h payload b ++ rest)) (sym cong) (by f.all.valid)
  where
    f : Found (IsOf key) (IsHeaderOf h) ps
    f = found_one (IsOf key) (IsHeaderOf h) ps all one

    by : IsValid f.packet → IsWhole key ps len (whole_bytes h payload (has_ecn 3 ps) ++ rest)
    by (inl v) = inl (whole-ipv4 key h payload rest ps len f v are fits long make)
    by (inr v) = inr (whole-ipv6 key h payload rest ps len f v are fits long make)

-- the payload of the whole packet
pub payload_made : (key : FragKey) (ps : List (List ℕ)) (len : ℕ) (out : List ℕ) → IsWhole key ps len out → Make (fragments_of ps) (whole_payload out)
payload_made key ps len out (inl w) = subst (Make (fragments_of ps)) (sym (four out (v4.payload_of out) (ipv6.payload_of out) w.valid.version)) w.payload
payload_made key ps len out (inr w) = subst (Make (fragments_of ps)) (sym (six out (v4.payload_of out) (ipv6.payload_of out) w.version)) w.payload

-- ---- a packet that is not fragmented

pub or_false : (b : Bool) → b ≡ (b || false)
or_false true = refl
or_false false = refl

-- it is made by itself
pub alone : (f : Fragment) → f.first ≡ 0 → f.more ≡ false → Make (f ∷ []) f.bytes
alone f first last = record {
  parts = (
    record {
      fits = record {
        inside = omega (arith, first);
        last = λ e. omega (arith, first);
        blocks = λ (e : f.more ≡ true). let bad : true ≡ false = sym e ∙ last in absurd (cc);
      };
      same = λ q c. let same : q ≡ q - 8 * f.first = omega (arith, first) in ap (λ k. get_or f.bytes k 0) same;
    },
    tt,
  );
  ended = inl last;
  whole = λ q low. inl (omega (arith, first), omega (arith, first, low));
}
